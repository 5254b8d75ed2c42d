-- Two live segments have not one region.
use Rattle.frame_facts.proofs.Sides.{one_parent}
use Rattle.frame_facts.proofs.keeping.new_sides_have_one_parent.Goals as goal

pub returns : goal.returns
returns c greatest frame most sound = one_parent greatest frame most sound
