-- The note slot that held the note gives it before and none after; else the count is one less.
use Rattle.std.proofs.Common.{ap, subst, sym, refl, arith, ℕ}
use Rattle.bucket_meta.specs.Notes.{AreExact}
use Rattle.stash.specs.Exact.{notes_of}
use Rattle.stash.specs.NoteSlots.{NoteSlotBecomes, IsNoteAt, freed_note_slot}
use Rattle.bucket_meta.proofs.ExactNotes.{exact_without_note, exact_without_count}
use Rattle.stash.proofs.Homes.{freed_home, freed_probe, one_lowest, none_holds, not_of_home}
use Rattle.stash.proofs.Pieces.{piece, other_side_stays}
use Rattle.stash.proofs.notes.unnote.Goals as goal

pub returns-in-Some-clause-home_before : goal.returns-in-Some-clause-home_before
returns-in-Some-clause-home_before c =
    other_side_stays _ _ c.in-Some.note_slot 1 _ c.free.ensures (ap (λ note_slot. piece 1 note_slot) c.in-Some.ensures.here) refl

pub returns-in-Some-note_slot_of-clause-home_after : goal.returns-in-Some-note_slot_of-clause-home_after
returns-in-Some-note_slot_of-clause-home_after c =
    other_side_stays _ _ c.in-Some-note_slot_of.note_slot 0 _ c.free-in-Some-note_slot_of.ensures (ap (λ note_slot. piece 0 note_slot) c.in-Some-note_slot_of.ensures.here) refl

pub returns-in-Some-clause-exact : goal.returns-in-Some-clause-exact
returns-in-Some-clause-exact c rest exact =
    let one = freed_home _ _ c.args.probe.now c.in-Some.note_slot (c.args.finger, c.args.index) c.free.ensures c.in-Some.ensures.here c.in-Some.ensures.within in
    let P : ℕ → Type 0 = λ count. AreExact (notes_of c.free.new.meta c.args.probe.now) count rest in
    subst P (sym c.free.ensures.ocount) (exact_without_note _ _ _ _ rest one exact)

pub returns-in-Some-note_slot_of-clause-in_probe : goal.returns-in-Some-note_slot_of-clause-in_probe
returns-in-Some-note_slot_of-clause-in_probe c nowhere note_slot lowest =
    let P : ℕ → Type 0 = λ k. NoteSlotBecomes c.args.probe.now c.free-in-Some-note_slot_of.new.meta k freed_note_slot in
    let same = one_lowest (IsNoteAt c.args.probe.now 1 (c.args.finger, c.args.index)) c.in-Some-note_slot_of.note_slot note_slot c.in-Some-note_slot_of.ensures lowest in
    (subst P same c.free-in-Some-note_slot_of.ensures, refl)

pub returns-in-Some-note_slot_of-clause-exact : goal.returns-in-Some-note_slot_of-clause-exact
returns-in-Some-note_slot_of-clause-exact c rest exact =
    let step = c.in-Some-note_slot_of in
    let one = freed_probe c.args.home.now _ _ step.note_slot (c.args.finger, c.args.index) c.free-in-Some-note_slot_of.ensures step.ensures.here step.ensures.within in
    exact_without_note _ _ _ _ rest one exact

pub overflow_sub-home : goal.overflow_sub-home
overflow_sub-home c =
    let in_home = none_holds _ _ _ c.in_default.not-Some c.note_slot_of.ensures in
    let in_probe = none_holds _ _ _ c.in_default-note_slot_of.not-Some c.note_slot_of-2.ensures in
    omega (arith, not_of_home c.args.home.now c.args.probe.now (c.args.finger, c.args.index) in_home in_probe, c.requires)

pub returns-clause-exact : goal.returns-clause-exact
returns-clause-exact c rest exact =
    let in_home = none_holds _ _ _ c.in_default.not-Some c.note_slot_of.ensures in
    let in_probe = none_holds _ _ _ c.in_default-note_slot_of.not-Some c.note_slot_of-2.ensures in
    let none = not_of_home c.args.home.now c.args.probe.now (c.args.finger, c.args.index) in_home in_probe in
    exact_without_count (notes_of c.args.home.now c.args.probe.now) c.args.home.now.ocount (c.args.finger, c.args.index) rest none (omega (arith, none, c.requires)) exact

-- in the home bucket
pub returns-in-Some-clause-in_home : goal.returns-in-Some-clause-in_home
returns-in-Some-clause-in_home c note_slot lowest =
    let P : ℕ → Type 0 = λ k. NoteSlotBecomes c.args.home.now c.free.new.meta k freed_note_slot in
    let same = one_lowest (IsNoteAt c.args.home.now 0 (c.args.finger, c.args.index)) c.in-Some.note_slot note_slot c.in-Some.ensures lowest in
    (subst P same c.free.ensures, refl)

pub returns-in-Some-clause-in_probe : goal.returns-in-Some-clause-in_probe
returns-in-Some-clause-in_probe c nowhere note_slot lowest = absurd (nowhere c.in-Some.note_slot c.in-Some.ensures.within c.in-Some.ensures.here)

pub returns-in-Some-clause-counted : goal.returns-in-Some-clause-counted
returns-in-Some-clause-counted c nowhere _ = absurd (nowhere c.in-Some.note_slot c.in-Some.ensures.within c.in-Some.ensures.here)

pub returns-in-Some-clause-home_after : goal.returns-in-Some-clause-home_after
returns-in-Some-clause-home_after c = refl

pub returns-in-Some-clause-count_after : goal.returns-in-Some-clause-count_after
returns-in-Some-clause-count_after c = refl

pub returns-in-Some-clause-home_slots : goal.returns-in-Some-clause-home_slots
returns-in-Some-clause-home_slots c = c.free.ensures.slots

pub returns-in-Some-clause-probe_slots : goal.returns-in-Some-clause-probe_slots
returns-in-Some-clause-probe_slots c = record { alloc = refl; member = refl; fps = refl }

-- in the probing bucket
pub returns-in-Some-note_slot_of-clause-in_home : goal.returns-in-Some-note_slot_of-clause-in_home
returns-in-Some-note_slot_of-clause-in_home c note_slot lowest =
    absurd (none_holds _ _ _ c.in_default.not-Some c.note_slot_of.ensures note_slot lowest.within lowest.here)

pub returns-in-Some-note_slot_of-clause-counted : goal.returns-in-Some-note_slot_of-clause-counted
returns-in-Some-note_slot_of-clause-counted c _ nowhere = absurd (nowhere c.in-Some-note_slot_of.note_slot c.in-Some-note_slot_of.ensures.within c.in-Some-note_slot_of.ensures.here)

pub returns-in-Some-note_slot_of-clause-home_before : goal.returns-in-Some-note_slot_of-clause-home_before
returns-in-Some-note_slot_of-clause-home_before c = refl

pub returns-in-Some-note_slot_of-clause-count_after : goal.returns-in-Some-note_slot_of-clause-count_after
returns-in-Some-note_slot_of-clause-count_after c = c.free-in-Some-note_slot_of.ensures.ocount

pub returns-in-Some-note_slot_of-clause-home_slots : goal.returns-in-Some-note_slot_of-clause-home_slots
returns-in-Some-note_slot_of-clause-home_slots c = record { alloc = refl; member = refl; fps = refl }

pub returns-in-Some-note_slot_of-clause-probe_slots : goal.returns-in-Some-note_slot_of-clause-probe_slots
returns-in-Some-note_slot_of-clause-probe_slots c = c.free-in-Some-note_slot_of.ensures.slots

-- in the count
pub returns-clause-in_home : goal.returns-clause-in_home
returns-clause-in_home c note_slot lowest =
    absurd (none_holds _ _ _ c.in_default.not-Some c.note_slot_of.ensures note_slot lowest.within lowest.here)

pub returns-clause-in_probe : goal.returns-clause-in_probe
returns-clause-in_probe c _ note_slot lowest =
    absurd (none_holds _ _ _ c.in_default-note_slot_of.not-Some c.note_slot_of-2.ensures note_slot lowest.within lowest.here)

pub returns-clause-counted : goal.returns-clause-counted
returns-clause-counted c _ _ = (record { ocount = refl; note_slots = λ i. refl; slots = record { alloc = refl; member = refl; fps = refl } }, refl)

pub returns-clause-home_before : goal.returns-clause-home_before
returns-clause-home_before c = refl

pub returns-clause-home_after : goal.returns-clause-home_after
returns-clause-home_after c = refl

pub returns-clause-count_after : goal.returns-clause-count_after
returns-clause-count_after c = refl

pub returns-clause-home_slots : goal.returns-clause-home_slots
returns-clause-home_slots c = record { alloc = refl; member = refl; fps = refl }

pub returns-clause-probe_slots : goal.returns-clause-probe_slots
returns-clause-probe_slots c = record { alloc = refl; member = refl; fps = refl }
