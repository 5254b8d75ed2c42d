-- Each field was taken from its bits, and the bytes of a word are its bits by eights.
use Rattle.std.proofs.Common.{rules}
use Rattle.bucket_meta.proofs.fields.Each.{each_place, each_slot}
use Rattle.bucket_meta.proofs.metadata.Meta.read.Goals as goal

pub returns : goal.returns
returns c = record {
  alloc = c.bits_of.ensures.value;
  member = c.bits_of-2.ensures.value;
  used = c.bits_of-3.ensures.value;
  omember = c.bits_of-4.ensures.value;
  oindex = c.bits_of-5.ensures.value;
  ocount = c.bits_of-6.ensures.value;
  fps = each_slot _ (search rules) (search rules) (search rules) (search rules) (search rules) (search rules) (search rules)
      (search rules) (search rules) (search rules) (search rules) (search rules) (search rules) (search rules);
  ofps = each_place _ (search rules) (search rules) (search rules) (search rules);
}
