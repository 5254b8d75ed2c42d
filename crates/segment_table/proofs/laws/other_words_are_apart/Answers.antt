-- The frame shows no other word.
use Rattle.segment_table.proofs.FrameWords.{other_areas_apart, buckets_apart, behind_apart}
use Rattle.segment_table.proofs.StoreLaws.{stores_apart}
use Rattle.segment_table.proofs.laws.other_words_are_apart.Goals as goal

pub returns-clause-apart : goal.returns-clause-apart
returns-clause-apart c = stores_apart

pub returns-clause-areas : goal.returns-clause-areas
returns-clause-areas c shape word is_shape sound = other_areas_apart shape word sound.root

pub returns-clause-buckets : goal.returns-clause-buckets
returns-clause-buckets c shape word is_shape sound = buckets_apart shape word sound.root

pub returns-clause-behind : goal.returns-clause-behind
returns-clause-behind c shape word is_shape sound = behind_apart shape word sound.root
