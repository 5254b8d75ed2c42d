-- A get that has done nothing suits a caller that holds and owes nothing; and no end of it is that it has finished, or that a
-- segment is to be split.
use Rattle.std.proofs.Common.{◌≡◌, ℕ, Some, refl}
use Rattle.std.proofs.lemmas.Option.{none-some, same_Some}
use Rattle.sound_image.proofs.Hashes.{key_hash-fits}
use Rattle.part.specs.Outcomes.{need_split, finished}
use Rattle.part.specs.Part.{NeverFinished, NeverSplits}
use Rattle.read_op.specs.declared.step.ReadEnd.{ReadEnd}
use Rattle.read_op.specs.declared.step.ReadEnd.TheVariants as ends
use Rattle.read_op.specs.declared.step.ReadStep.{ReadStep}
use Rattle.read_op.specs.declared.step.ReadStep.TheVariants.{Ended}
use Rattle.read_op.specs.Fits.{BeginsSuited}
use Rattle.read_op.specs.GetPart.{outcome_of, outcome_in, get_part, BeginsAsPart, BeginsUndecided, BeginsRemembering}

pub begins_as_part : BeginsSuited → BeginsAsPart
begins_as_part begins site here key v same version small nothing =
    let well = begins site here key same version (key_hash-fits here.geometry key small) in
    record { same = refl; at = refl; is_in = well.0; suits = well.1 v; nothing = nothing }

pub begins_undecided : BeginsUndecided
begins_undecided here key = refl

pub begins_remembering : BeginsRemembering
begins_remembering site here key = record { kept = tt; none = refl }

-- no end of it is that it has finished
finishes : (end : ReadEnd) → outcome_of end ≡ finished → ⊥
finishes (ends.Found value place) is = absurd (cc)
finishes (ends.Absent place) is = absurd (cc)
finishes (ends.Again why) is = absurd (cc)
finishes (ends.Stale segment byte) is = absurd (cc)
finishes ends.Off is = absurd (cc)

never_in : (s : ReadStep) → outcome_in s ≡ Some finished → ⊥
never_in (Ended end) some = finishes end (same_Some (outcome_of end) finished some)
never_in s some = none-some finished some

pub never_finished : NeverFinished get_part
never_finished op some = never_in op.step some

-- nor that a segment is to be split
splits : (end : ReadEnd) (segment : ℕ) → outcome_of end ≡ need_split segment → ⊥
splits (ends.Found value place) segment is = absurd (cc)
splits (ends.Absent place) segment is = absurd (cc)
splits (ends.Again why) segment is = absurd (cc)
splits (ends.Stale slot byte) segment is = absurd (cc)
splits ends.Off segment is = absurd (cc)

unsplit_in : (s : ReadStep) (segment : ℕ) → outcome_in s ≡ Some (need_split segment) → ⊥
unsplit_in (Ended end) segment some = splits end segment (same_Some (outcome_of end) (need_split segment) some)
unsplit_in s segment some = none-some (need_split segment) some

pub never_splits : NeverSplits get_part
never_splits op segment some = unsplit_in op.step segment some
