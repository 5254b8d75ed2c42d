use Rattle.std.proofs.Common.{List, ℕ, ◌+◌, subst, refl, ap, ◌∙◌, Option}
use Rattle.outside.specs.Storing.{Holds}
use Rattle.script_text.specs.declared.line.Line.{Line}
use Rattle.script_text.specs.declared.line.Mode.{Mode}
use Rattle.script_text.specs.Script.{IsScript}
use Rattle.command_line.specs.Commands.ReadsImage.{for_run}
use Rattle.dash_top.specs.Bytes.{ReadsScript, ReadsGoodScript}
use Rattle.dash_top.specs.Work.{StoreFailed}
use Rattle.dash_top.proofs.Causes.{cause_of_reading, err_of}
use Rattle.dash_top.proofs.Complete.{found_good}
use Rattle.dash_top.proofs.Counting.{rose_before}
use Rattle.dash_top.proofs.Ran.{is_run}
use Rattle.dash_top.proofs.work.run_script.Goals as goal

good_script : {source_old source_new : Option (List ℕ)} (mode : Mode) (lines : List Line) → ((script : List ℕ) × ReadsScript source_old source_new script × IsScript mode script lines)
    → ReadsGoodScript source_old source_new mode
good_script mode lines read = record { script = read.0; reads = read.1; lines = lines; good = read.2 }

-- DONE
pub returns-in-Ok-clause-ok : goal.returns-in-Ok-clause-ok
returns-in-Ok-clause-ok g c =
    let read = c.in_ok-script.ensures.ok in
    let image = c.in_ok-medium.ensures.ok in
    record {
      script = read.0;
      reads_script = read.1;
      shape = c.in_ok-medium.medium.geometry;
      words = c.in_ok-medium.medium.words;
      reads = image;
      ending = c.in_ok-ending.ending.items;
      stores = subst (λ o. Holds o (g.I.Store.contents c.write_all.new.self) c.in_ok-ending.ending.items) c.in_ok-medium.ensures.keeps
          (subst (λ (x : List ℕ). Holds (g.I.Store.contents c.read_image.new.image) (g.I.Store.contents c.write_all.new.self) x) c.deref.ensures.value c.in-Ok.ensures.written);
      few = read.2.short.few_bytes;
      run = is_run c.args.mode c.in_ok-medium.medium.geometry c.in_ok-medium.medium.words read.0 c.in_ok-script.script c.in_ok-session.session c.in_ok-lines.lines.items
          c.in_ok-ending.ending.items image.sound read.2 c.in_ok-session.ensures.ran c.in_ok-lines.ensures c.in_ok-ending.ensures.file;
    }

-- STOPPED
-- the image was not read
pub returns-in_err-medium-clause-err : goal.returns-in_err-medium-clause-err
returns-in_err-medium-clause-err g c =
    err_of _ c.from_residual-in_err-medium.result c.in_err-medium.field-0.0 c.from_residual-in_err-medium.ensures.1
    (cause_of_reading _ _ _ _ _ _ _ (for_run c.args.mode refl) (found_good c.args.mode (good_script c.args.mode c.in_ok-script.script c.in_ok-script.ensures.ok))
    (record { same = c.in_err-medium.ensures.keeps; unwritten = c.in_err-medium.ensures.unwritten }) c.in_err-medium.ensures.err)

-- the write failed
pub returns-clause-err : goal.returns-clause-err
returns-clause-err g c = (
  rose_before _ _ _ c.in_ok-medium.ensures.later c.in-Err.ensures.cause.failed,
  StoreFailed.in_running (c.args.mode, refl) (found_good c.args.mode (good_script c.args.mode c.in_ok-script.script c.in_ok-script.ensures.ok))
      (record {
        shape = c.in_ok-medium.medium.geometry;
        words = c.in_ok-medium.medium.words;
        reads = c.in_ok-medium.ensures.ok;
      })
      (record {
        once = c.in-Err.ensures.once ∙ ap (λ (n : ℕ). n + 1) c.in_ok-medium.ensures.unwritten;
        failed = c.in-Err.ensures.failed;
      }),
)
