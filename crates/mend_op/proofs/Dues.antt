-- The store that is to come in a stage.
use Rattle.std.proofs.Common.{◌≡◌, ℕ, ◌<◌, ◌≤◌, Bool, true, false, Option, None, Some, refl, sym, ap}
use Rattle.std.specs.Prelude.{if◌then◌else◌, slice_index, nat_lt}
use Rattle.std.proofs.lemmas.Bool.{ltb-true, ltb-false}
use Rattle.std.proofs.lemmas.Option.{none-some, same_Some}
use Rattle.op_core.specs.declared.want.Ans.{Ans}
use Rattle.op_core.specs.declared.want.Ans.TheVariants.{Passed}
use Rattle.op_core.specs.Answers.{IsAnswer}
use Rattle.rounds.proofs.Wanted.{store_passed}
use Rattle.mend_op.specs.declared.stage.Stage.{Stage}
use Rattle.mend_op.specs.declared.op.MendOp.{MendOp}
use Rattle.mend_op.specs.Stages.{most, place}
use Rattle.mend_op.specs.Steps.{word_at, due, store_wanted}

-- the store that is to come, where one is
module _ (op : MendOp) (stage : Stage) (n : ℕ) where
  abbrev word : ℕ
  word = word_at op (place stage n)

  abbrev value : ℕ
  value = slice_index op.next (place stage n)

  abbrev due_at : Bool → Option (ℕ × ℕ)
  due_at t = if t then Some (word, value) else None

  -- it is that of the word of this number
  pub record IsDue (i x : ℕ) : Type 0 where
    pub low : n < most stage
    pub word_is : i ≡ word
    pub value_is : x ≡ value

  due_by : (t : Bool) → nat_lt n (most stage) ≡ t → (i x : ℕ) → due_at t ≡ Some (i, x) → IsDue i x
  due_by true is i x same =
      let pair : ◌≡◌ {A = ℕ × ℕ} (word, value) (i, x) = same_Some _ _ same in
      record { low = ltb-true n (most stage) is; word_is = sym (ap (λ (p : ℕ × ℕ). p.0) pair); value_is = sym (ap (λ (p : ℕ × ℕ). p.1) pair) }
  due_by false is i x same = absurd (none-some _ same)

  pub due_is : (i x : ℕ) → due op stage n ≡ Some (i, x) → IsDue i x
  due_is i x same = due_by (nat_lt n (most stage)) refl i x same

  none_by : (t : Bool) → nat_lt n (most stage) ≡ t → due_at t ≡ None → most stage ≤ n
  none_by true is same = absurd (none-some _ (sym same))
  none_by false is same = ltb-false n (most stage) is

  pub due_none : due op stage n ≡ None → most stage ≤ n
  due_none same = none_by (nat_lt n (most stage)) refl same

-- ---- answers
-- a store alone is answered that it passed
pub stored_passed : (o : Option (ℕ × ℕ)) (a : Ans) → IsAnswer (store_wanted o) a → a ≡ Passed
stored_passed (Some next) a is = store_passed next.0 next.1 a is
stored_passed None a is = absurd is
