-- The word where the bucket begins.
use Rattle.image_rules.proofs.record_slot.bucket_word.Goals as goal

pub returns-clause-is : goal.returns-clause-is
returns-clause-is c = c.bucket_at.ensures.is

pub returns-clause-within : goal.returns-clause-within
returns-clause-within c = c.bucket_at.ensures.within

pub returns-clause-most : goal.returns-clause-most
returns-clause-most c = c.bucket_at.ensures.most
