-- Each clause is a lemma.
use Rattle.bucket_words.proofs.segments.Cores.{keeps_of_cores, find_of_cores}
use Rattle.bucket_words.proofs.records.cores_of_the_image_decide.Goals as goal

pub returns-clause-table : goal.returns-clause-table
returns-clause-table c shape word other same table = (keeps_of_cores shape word other table same).table

pub returns-clause-pairs : goal.returns-clause-pairs
returns-clause-pairs c shape word other same k = find_of_cores shape word other same k
