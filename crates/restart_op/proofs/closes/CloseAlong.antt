-- What holds of a close and its course at the start, and is kept by each event, holds after any number of them.
use Rattle.std.proofs.Common.{◌≡◌, ◌≢◌, ℕ, zero, suc, ◌∷◌, refl, sym, ◌∙◌, ap, subst}
use Rattle.std.specs.Prelude.{if◌then◌else◌}
use Rattle.std.proofs.lemmas.Bool.{ne_eqb}
use Rattle.op_core.specs.declared.want.Ans.{Ans}
use Rattle.op_core.specs.declared.want.Ans.TheVariants.{Value, Won, Lost, Drawn, Passed}
use Rattle.trace.specs.Events.{Words, Trace}
use Rattle.image_layout.specs.Places.{Shape, state_word}
use Rattle.world.specs.Wants.{answer_to, word_of, event_of, words_after}
use Rattle.restart_op.specs.declared.close.CloseStep.{CloseStep}
use Rattle.restart_op.specs.declared.close.CloseStep.TheVariants.{Flush, Fence, Load, Store, FlushState, FenceState, Ended}
use Rattle.restart_op.specs.declared.close.CloseOp.{CloseOp}
use Rattle.restart_op.specs.Close.{wanted_in, wanted, taken}
use Rattle.restart_op.specs.Closing.{close_after, ChangesStateAlone}

pub same_geometry : (op : CloseOp) (ans : Ans) → (taken op ans).geometry ≡ op.geometry
same_geometry op (Value seen) = refl
same_geometry op Won = refl
same_geometry op (Lost seen) = refl
same_geometry op (Drawn place) = refl
same_geometry op Passed = refl

module _ (shape : Shape) where
  -- the step after the event that a step wants, over these words
  abbrev pub step_after : CloseStep → Words → CloseStep
  step_after s words = (taken (record { geometry = shape; step = s }) (answer_to (wanted_in s) (words (word_of shape (wanted_in s))))).step

  abbrev pub event_by : CloseStep → Words → Trace → Trace
  event_by s words es = event_of shape (wanted_in s) (words (word_of shape (wanted_in s))) 0 ∷ es

  abbrev pub words_by : CloseStep → Words → Words
  words_by s words = words_after shape (wanted_in s) 0 words

  -- each event keeps P
  abbrev pub IsKeptBy : (CloseStep → Words → Trace → Type 0) → Type 0
  IsKeptBy P = (s : CloseStep) (words : Words) (es : Trace) → P s words es → P (step_after s words) (words_by s words) (event_by s words es)

  module _ (P : CloseStep → Words → Trace → Type 0) (kept : IsKeptBy P) (words : Words) (es : Trace) (first : P (Flush 0 0) words es) where
    all_along : (n : ℕ) → ((close_after shape words es n).op.geometry ≡ shape)
        × P (close_after shape words es n).op.step (close_after shape words es n).words (close_after shape words es n).trace
    all_along zero = (refl, first)
    all_along (suc n) =
        let c = close_after shape words es n in
        let before = all_along n in
        let ans = answer_to (wanted c.op) (c.words (word_of shape (wanted c.op))) in (
          same_geometry c.op ans ∙ before.0,
          subst (λ (g : Shape). P (taken (record { geometry = g; step = c.op.step }) ans).step (words_by c.op.step c.words) (event_by c.op.step c.words c.trace)) (sym before.0)
              (kept c.op.step c.words c.trace before.1),
        )

    pub along : (n : ℕ) → P (close_after shape words es n).op.step (close_after shape words es n).words (close_after shape words es n).trace
    along n = (all_along n).1

-- ---- a close stores the state word alone
module _ (shape : Shape) (i : ℕ) (other : i ≢ state_word) where
  step_leaves : (s : CloseStep) (words : Words) → words_by shape s words i ≡ words i
  step_leaves (Flush line waiting) words = refl
  step_leaves (Fence line) words = refl
  step_leaves Load words = refl
  step_leaves (Store state) words = ap (λ b. if b then state else words i) (ne_eqb i state_word other)
  step_leaves FlushState words = refl
  step_leaves FenceState words = refl
  step_leaves Ended words = refl

pub changes_state_alone : ChangesStateAlone
changes_state_alone shape words trace n i other = along shape (λ s ws ts. ws i ≡ words i) (λ s ws ts same. step_leaves shape i other s ws ∙ same) words trace refl n
