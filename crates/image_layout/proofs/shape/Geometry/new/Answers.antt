-- A depth out of range is named where the number of segments is in range.
use Rattle.std.proofs.Common.{rules}
use Rattle.image_layout.proofs.shape.Geometry.new.Goals as goal

pub returns-then-depth-gt-MOST_DEPTH-clause-fault : goal.returns-then-depth-gt-MOST_DEPTH-clause-fault
returns-then-depth-gt-MOST_DEPTH-clause-fault c = search rules

pub returns-then-depth-gt-MOST_DEPTH-clause-refused : goal.returns-then-depth-gt-MOST_DEPTH-clause-refused
returns-then-depth-gt-MOST_DEPTH-clause-refused c = search rules

pub returns-then-segments-lt1-clause-fault : goal.returns-then-segments-lt1-clause-fault
returns-then-segments-lt1-clause-fault c = search rules

pub returns-then-segments-lt1-clause-refused : goal.returns-then-segments-lt1-clause-refused
returns-then-segments-lt1-clause-refused c = search rules

pub returns-then-kind-gt-MOST_KIND-clause-fault : goal.returns-then-kind-gt-MOST_KIND-clause-fault
returns-then-kind-gt-MOST_KIND-clause-fault c = search rules

pub returns-then-kind-gt-MOST_KIND-clause-refused : goal.returns-then-kind-gt-MOST_KIND-clause-refused
returns-then-kind-gt-MOST_KIND-clause-refused c = search rules
