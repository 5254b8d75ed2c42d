-- The stops of the callers before are there, and no others.
use Rattle.std.proofs.Common.{◌≡◌, ◌-◌, List, None, ◌++◌, map, take}
use Rattle.std.specs.Prelude.{replicate}
use Rattle.map_model.specs.Roomed.{Roomed}
use Rattle.core_run.specs.Run.{stop_of}
use Rattle.play.specs.Callers.{callers_of, HaveRoom}
use Rattle.play.proofs.leaving.stops_of.Given as goal

abbrev pub invariant-loop-index : goal.invariant-loop-index
invariant-loop-index l = (lists : List Roomed) → HaveRoom l.callers lists
    → l.stops ≡ map stop_of (take l.index (callers_of l.callers lists)) ++ replicate (64 - l.index) None
