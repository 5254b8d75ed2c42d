-- The law is a lemma.
use Rattle.bucket_meta.proofs.fields.OneToOne as lemma
use Rattle.bucket_meta.proofs.laws.meta_gives_words.Goals as goal

pub returns : goal.returns
returns c = lemma.meta_gives_words
