-- A marker that is not there is added.
use Rattle.std.proofs.Common.{rules}
use Rattle.image_layout.proofs.state.with_marker.Goals as goal

pub returns-else-is_marked : goal.returns-else-is_marked
returns-else-is_marked c = search rules
