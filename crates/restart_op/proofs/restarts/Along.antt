-- What holds of a restart and its course at the start, and is kept by each event, holds after any number of them.
use Rattle.std.proofs.Common.{◌≡◌, ℕ, zero, suc, ◌+◌, ◌∷◌, length, refl, sym, subst, arith}
use Rattle.trace.specs.Events.{Words, Trace}
use Rattle.image_layout.specs.Places.{Shape}
use Rattle.world.specs.Wants.{answer_to, word_of, event_of, words_after}
use Rattle.restart_op.specs.declared.restart.RestartStep.{RestartStep}
use Rattle.restart_op.specs.declared.restart.RestartStep.TheVariants.{Load}
use Rattle.restart_op.specs.Restart.{wanted_in, next_in}
use Rattle.restart_op.specs.Restarted.{restart_after}

pub same_geometry : (shape : Shape) (words : Words) (es : Trace) (n : ℕ) → (restart_after shape words es n).op.geometry ≡ shape
same_geometry shape words es zero = refl
same_geometry shape words es (suc n) = same_geometry shape words es n

module _ (shape : Shape) where
  -- the step after the event that a step wants, over these words
  abbrev pub step_after : RestartStep → Words → RestartStep
  step_after s words = next_in shape s (answer_to (wanted_in shape s) (words (word_of shape (wanted_in shape s))))

  abbrev pub event_by : RestartStep → Words → Trace → Trace
  event_by s words es = event_of shape (wanted_in shape s) (words (word_of shape (wanted_in shape s))) 0 ∷ es

  abbrev pub words_by : RestartStep → Words → Words
  words_by s words = words_after shape (wanted_in shape s) 0 words

  -- each event keeps P
  abbrev pub IsKeptBy : (RestartStep → Words → Trace → Type 0) → Type 0
  IsKeptBy P = (s : RestartStep) (words : Words) (es : Trace) → P s words es → P (step_after s words) (words_by s words) (event_by s words es)

  module _ (P : RestartStep → Words → Trace → Type 0) (kept : IsKeptBy P) (words : Words) (es : Trace) (first : P Load words es) where
    pub along : (n : ℕ) → P (restart_after shape words es n).op.step (restart_after shape words es n).words (restart_after shape words es n).trace
    along zero = first
    along (suc n) =
        let c = restart_after shape words es n in
        subst (λ (g : Shape). P (next_in g c.op.step (answer_to (wanted_in g c.op.step) (c.words (word_of shape (wanted_in g c.op.step)))))
        (words_after shape (wanted_in g c.op.step) 0 c.words)
        (event_of shape (wanted_in g c.op.step) (c.words (word_of shape (wanted_in g c.op.step))) 0 ∷ c.trace))
        (sym (same_geometry shape words es n)) (kept c.op.step c.words c.trace (along n))

-- an event for each
pub longer : (shape : Shape) (words : Words) (es : Trace) (n : ℕ) → length (restart_after shape words es n).trace ≡ n + length es
longer shape words es zero = omega arith
longer shape words es (suc n) = let before = longer shape words es n in omega (arith, before)
