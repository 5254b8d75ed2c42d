-- The note slot that was unused gives no note before and the record's note after; else the count is one more.
use Rattle.std.proofs.Common.{rules, subst, sym, refl, ℕ, ◌∷◌}
use Rattle.bucket_meta.specs.Notes.{AreExact}
use Rattle.stash.specs.Exact.{notes_of}
use Rattle.bucket_meta.proofs.ExactNotes.{exact_with_note}
use Rattle.stash.specs.NoteSlots.{NoteSlotBecomes, IsUnused, filled_note_slot}
use Rattle.stash.proofs.Homes.{filled_home, filled_probe, one_lowest, none_holds}
use Rattle.stash.proofs.Pieces.{piece_of_unused, other_side_stays}
use Rattle.stash.proofs.notes.note.Goals as goal

pub returns-in-Some-clause-home_before : goal.returns-in-Some-clause-home_before
returns-in-Some-clause-home_before c =
    other_side_stays _ _ c.in-Some.note_slot 1 _ c.fill.ensures (piece_of_unused 1 _ c.in-Some.ensures.here) refl

pub returns-in-Some-unused_note_slot-clause-home_after : goal.returns-in-Some-unused_note_slot-clause-home_after
returns-in-Some-unused_note_slot-clause-home_after c =
    other_side_stays _ _ c.in-Some-unused_note_slot.note_slot 0 _ c.fill-in-Some-unused_note_slot.ensures (piece_of_unused 0 _ c.in-Some-unused_note_slot.ensures.here) refl

pub returns-in-Some-clause-exact : goal.returns-in-Some-clause-exact
returns-in-Some-clause-exact c stashed exact =
    let one = filled_home _ _ c.args.probe.now c.in-Some.note_slot (c.args.finger, c.args.index) c.fill.ensures c.in-Some.ensures.here c.in-Some.ensures.within in
    let P : ℕ → Type 0 = λ count. AreExact (notes_of c.fill.new.meta c.args.probe.now) count ((c.args.finger, c.args.index) ∷ stashed) in
    subst P (sym c.fill.ensures.ocount) (exact_with_note _ _ _ _ stashed one exact)

pub returns-in-Some-unused_note_slot-clause-exact : goal.returns-in-Some-unused_note_slot-clause-exact
returns-in-Some-unused_note_slot-clause-exact c stashed exact =
    let step = c.in-Some-unused_note_slot in
    let one = filled_probe c.args.home.now _ _ step.note_slot (c.args.finger, c.args.index) c.fill-in-Some-unused_note_slot.ensures step.ensures.here step.ensures.within in
    exact_with_note _ _ _ _ stashed one exact

pub returns-clause-exact : goal.returns-clause-exact
returns-clause-exact c = search rules

-- in the home bucket
pub returns-in-Some-clause-in_home : goal.returns-in-Some-clause-in_home
returns-in-Some-clause-in_home c note_slot lowest =
    let P : ℕ → Type 0 = λ k. NoteSlotBecomes c.args.home.now c.fill.new.meta k (filled_note_slot 0 (c.args.finger, c.args.index)) in
    let same = one_lowest (IsUnused c.args.home.now) c.in-Some.note_slot note_slot c.in-Some.ensures lowest in
    (subst P same c.fill.ensures, refl)

pub returns-in-Some-clause-in_probe : goal.returns-in-Some-clause-in_probe
returns-in-Some-clause-in_probe c nowhere note_slot lowest = absurd (nowhere c.in-Some.note_slot c.in-Some.ensures.within c.in-Some.ensures.here)

pub returns-in-Some-clause-counted : goal.returns-in-Some-clause-counted
returns-in-Some-clause-counted c nowhere _ = absurd (nowhere c.in-Some.note_slot c.in-Some.ensures.within c.in-Some.ensures.here)

pub returns-in-Some-clause-home_after : goal.returns-in-Some-clause-home_after
returns-in-Some-clause-home_after c = refl

pub returns-in-Some-clause-count_after : goal.returns-in-Some-clause-count_after
returns-in-Some-clause-count_after c = refl

pub returns-in-Some-clause-home_slots : goal.returns-in-Some-clause-home_slots
returns-in-Some-clause-home_slots c = c.fill.ensures.slots

pub returns-in-Some-clause-probe_slots : goal.returns-in-Some-clause-probe_slots
returns-in-Some-clause-probe_slots c = record { alloc = refl; member = refl; fps = refl }

-- in the probing bucket
pub returns-in-Some-unused_note_slot-clause-in_home : goal.returns-in-Some-unused_note_slot-clause-in_home
returns-in-Some-unused_note_slot-clause-in_home c note_slot lowest =
    absurd (none_holds _ _ _ c.in_default.not-Some c.unused_note_slot.ensures note_slot lowest.within lowest.here)

pub returns-in-Some-unused_note_slot-clause-in_probe : goal.returns-in-Some-unused_note_slot-clause-in_probe
returns-in-Some-unused_note_slot-clause-in_probe c nowhere note_slot lowest =
    let P : ℕ → Type 0 = λ k. NoteSlotBecomes c.args.probe.now c.fill-in-Some-unused_note_slot.new.meta k (filled_note_slot 1 (c.args.finger, c.args.index)) in
    let same = one_lowest (IsUnused c.args.probe.now) c.in-Some-unused_note_slot.note_slot note_slot c.in-Some-unused_note_slot.ensures lowest in
    (subst P same c.fill-in-Some-unused_note_slot.ensures, refl)

pub returns-in-Some-unused_note_slot-clause-counted : goal.returns-in-Some-unused_note_slot-clause-counted
returns-in-Some-unused_note_slot-clause-counted c _ nowhere = absurd (nowhere c.in-Some-unused_note_slot.note_slot c.in-Some-unused_note_slot.ensures.within c.in-Some-unused_note_slot.ensures.here)

pub returns-in-Some-unused_note_slot-clause-home_before : goal.returns-in-Some-unused_note_slot-clause-home_before
returns-in-Some-unused_note_slot-clause-home_before c = refl

pub returns-in-Some-unused_note_slot-clause-count_after : goal.returns-in-Some-unused_note_slot-clause-count_after
returns-in-Some-unused_note_slot-clause-count_after c = c.fill-in-Some-unused_note_slot.ensures.ocount

pub returns-in-Some-unused_note_slot-clause-home_slots : goal.returns-in-Some-unused_note_slot-clause-home_slots
returns-in-Some-unused_note_slot-clause-home_slots c = record { alloc = refl; member = refl; fps = refl }

pub returns-in-Some-unused_note_slot-clause-probe_slots : goal.returns-in-Some-unused_note_slot-clause-probe_slots
returns-in-Some-unused_note_slot-clause-probe_slots c = c.fill-in-Some-unused_note_slot.ensures.slots

-- in the count
pub returns-clause-in_home : goal.returns-clause-in_home
returns-clause-in_home c note_slot lowest =
    absurd (none_holds _ _ _ c.in_default.not-Some c.unused_note_slot.ensures note_slot lowest.within lowest.here)

pub returns-clause-in_probe : goal.returns-clause-in_probe
returns-clause-in_probe c _ note_slot lowest =
    absurd (none_holds _ _ _ c.in_default-unused_note_slot.not-Some c.unused_note_slot-2.ensures note_slot lowest.within lowest.here)

pub returns-clause-counted : goal.returns-clause-counted
returns-clause-counted c _ _ = (record { ocount = refl; note_slots = λ i. refl; slots = record { alloc = refl; member = refl; fps = refl } }, refl)

pub returns-clause-home_before : goal.returns-clause-home_before
returns-clause-home_before c = refl

pub returns-clause-home_after : goal.returns-clause-home_after
returns-clause-home_after c = refl

pub returns-clause-count_after : goal.returns-clause-count_after
returns-clause-count_after c = refl

pub returns-clause-home_slots : goal.returns-clause-home_slots
returns-clause-home_slots c = record { alloc = refl; member = refl; fps = refl }

pub returns-clause-probe_slots : goal.returns-clause-probe_slots
returns-clause-probe_slots c = record { alloc = refl; member = refl; fps = refl }
