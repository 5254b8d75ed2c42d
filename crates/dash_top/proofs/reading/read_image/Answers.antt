use Rattle.std.proofs.Common.{rules, ◌∙◌, sym, subst, List, ℕ}
use Rattle.outside.specs.Storing.{IsFront}
use Rattle.image_file.specs.Fault.{HasFault}
use Rattle.dash_top.proofs.Sizes.{file-le}
use Rattle.dash_top.proofs.reading.read_image.Goals as goal

pub returns-in-Ok-from_bytes-clause-ok : goal.returns-in-Ok-from_bytes-clause-ok
returns-in-Ok-from_bytes-clause-ok g c = record {
  front = subst (λ (x : List ℕ). IsFront (g.I.Store.contents c.args.image.now) 282067200 x) (sym c.deref.ensures.value ∙ c.in-Ok-from_bytes.ensures.file) c.in-Ok.ensures.bytes;
  all = file-le c.in-Ok-from_bytes.medium.geometry c.in-Ok-from_bytes.medium.words c.in-Ok-from_bytes.ensures.sound;
  sound = c.in-Ok-from_bytes.ensures.sound;
}

pub returns : goal.returns
returns g c = record {
  ok = tt;
  err = record {
    start = c.in-Ok.start.items;
    reads = c.in-Ok.ensures.bytes;
    has_fault = subst (λ (x : List ℕ). HasFault x c.in-Err.fault) c.deref.ensures.value c.in-Err.ensures.fault;
    not_memory = search rules;
  };
  later = c.in-Ok.ensures.cause.later;
  keeps = c.in-Ok.ensures.same;
  unwritten = c.in-Ok.ensures.unwritten;
}
