-- The fields say what the words say.
use Rattle.std.proofs.Common.{inl, inr}
use Rattle.whole_segment.proofs.marking.Fields.{full_is, only_members}
use Rattle.whole_segment.proofs.Nones.{none_is}
use Rattle.whole_segment.proofs.room.none_moves_on.Goals as goal

pub returns : goal.returns
returns c =
    let tells = none_is c.forward.result c.is_none.result c.is_none.ensures in
    let full = full_is c.read-2.result c.args.next 0 0 c.read-2.ensures in
    let records = only_members c.read.result c.args.probing 0 0 c.read.ensures in (
      λ yes. elim (c.forward.ensures.none.0 (tells.0 yes)) [ inl all ↦ inr (full.0 all) | inr none ↦ inl (records.0 none) ],
      λ why. tells.1 (c.forward.ensures.none.1 (elim why [ inl none ↦ inr (records.1 none) | inr all ↦ inl (full.1 all) ])),
    )
