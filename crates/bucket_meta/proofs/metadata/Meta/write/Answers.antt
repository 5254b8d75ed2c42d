-- The fields of word 1 are read back by division, and the bytes of words 2 and 3 one by one.
use Rattle.std.proofs.Common.{lit<, sym, arith}
use Rattle.bucket_meta.proofs.fields.Each.{each_place, each_slot}
use Rattle.bucket_meta.proofs.metadata.Meta.write.Goals as goal

pub returns-clause-fields : goal.returns-clause-fields
returns-clause-fields c =
    let low = c.word_of-w2.ensures in
    let high = c.word_of-w3.ensures in
    record {
      alloc = omega arith;
      member = omega arith;
      used = omega arith;
      omember = omega arith;
      oindex = omega arith;
      ocount = omega arith;
      fps = each_slot _ (sym (low 0 (lit< tt))) (sym (low 1 (lit< tt))) (sym (low 2 (lit< tt))) (sym (low 3 (lit< tt)))
          (sym (low 4 (lit< tt))) (sym (low 5 (lit< tt))) (sym (low 6 (lit< tt))) (sym (low 7 (lit< tt)))
          (sym (high 0 (lit< tt))) (sym (high 1 (lit< tt))) (sym (high 2 (lit< tt))) (sym (high 3 (lit< tt)))
          (sym (high 4 (lit< tt))) (sym (high 5 (lit< tt)));
      ofps = each_place _ (sym (high 6 (lit< tt))) (sym (high 7 (lit< tt))) (omega arith) (omega arith);
    }
