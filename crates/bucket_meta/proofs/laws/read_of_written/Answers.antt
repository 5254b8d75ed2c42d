-- Both are of the words that were written.
use Rattle.bucket_meta.proofs.fields.OneToOne.{words_give_meta}
use Rattle.bucket_meta.proofs.laws.read_of_written.Goals as goal

pub returns : goal.returns
returns c = words_give_meta _ _ _ _ _ c.read.ensures c.write.ensures.fields
