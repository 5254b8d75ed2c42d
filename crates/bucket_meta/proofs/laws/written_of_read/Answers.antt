-- Both are the words of the fields that were read.
use Rattle.std.proofs.Common.{rules}
use Rattle.bucket_meta.proofs.fields.OneToOne.{same_three}
use Rattle.bucket_meta.proofs.laws.written_of_read.Goals as goal

pub returns : goal.returns
returns c =
    same_three c.read.result c.write.result c.args.words (search rules) (search rules)
    (record { first = search rules; second = search rules; third = search rules; zero = c.write.ensures.zero })
    (record { first = search rules; second = search rules; third = search rules; zero = c.requires })
    c.write.ensures.fields c.read.ensures
