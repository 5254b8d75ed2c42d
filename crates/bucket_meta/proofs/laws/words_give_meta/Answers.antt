-- The law is a lemma.
use Rattle.bucket_meta.proofs.fields.OneToOne as lemma
use Rattle.bucket_meta.proofs.laws.words_give_meta.Goals as goal

pub returns : goal.returns
returns c = lemma.words_give_meta
