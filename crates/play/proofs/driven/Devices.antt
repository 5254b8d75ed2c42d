-- The memory of a run state after an event of a caller.
use Rattle.std.proofs.Common.{◌≡◌, ℕ, ◌∷◌, ap, ◌∙◌, sym, subst}
use Rattle.trace.specs.Events.{Words, Event, Trace, value, after}
use Rattle.op_core.specs.declared.want.Want.{Want}
use Rattle.image_layout.specs.Places.{Shape}
use Rattle.world.specs.Wants.{word_of, event_of, words_after}
use Rattle.pm_trace.specs.Memory.{Memory}
use Rattle.pm_trace.specs.TraceOf.{IsTraceOf, Follows}
use Rattle.core_run.specs.Running.{Setup, start_of}
use Rattle.keeping.specs.Asked.{found_by}

-- the memory holds these words after these events
pub record Holds (t : Setup) (memory : Memory) (words : Words) (trace : Trace) : Type 0 where
  pub shape : memory.shape ≡ t.shape
  pub callers : memory.callers ≡ 64
  pub traced : IsTraceOf (start_of t) trace memory
  pub words_are : words ≡ value (start_of t) trace

-- what an event finds is the word of the state
pub found_is : (t : Setup) (memory : Memory) (words : Words) (trace : Trace) (w : Want) → Holds t memory words trace
    → found_by w memory ≡ words (word_of t.shape w)
found_is t memory words trace w h =
    h.traced.newest (word_of memory.shape w)
    ∙ ap (λ (f : Words). f (word_of memory.shape w)) (sym h.words_are)
    ∙ ap (λ (shape : Shape). words (word_of shape w)) h.shape

pub event_is : (t : Setup) (memory : Memory) (words : Words) (trace : Trace) (c : ℕ) (w : Want) → Holds t memory words trace
    → event_of memory.shape w (found_by w memory) c ≡ event_of t.shape w (words (word_of t.shape w)) c
event_is t memory words trace c w h =
    ap (λ (shape : Shape). event_of shape w (found_by w memory) c) h.shape
    ∙ ap (λ (n : ℕ). event_of t.shape w n c) (found_is t memory words trace w h)

pub holds_after : (t : Setup) (old new : Memory) (words : Words) (trace : Trace) (c : ℕ) (w : Want) → Holds t old words trace
    → new.shape ≡ old.shape → new.callers ≡ old.callers → Follows old (event_of old.shape w (found_by w old) c) new
    → Holds t new (words_after t.shape w c words) (event_of t.shape w (words (word_of t.shape w)) c ∷ trace)
holds_after t old new words trace c w h shape callers follows = record {
  shape = shape ∙ h.shape;
  callers = callers ∙ h.callers;
  traced = subst (λ (e : Event). IsTraceOf (start_of t) (e ∷ trace) new) (event_is t old words trace c w h) (follows (start_of t) trace h.traced);
  words_are = ap (λ (f : Words). after (event_of t.shape w (words (word_of t.shape w)) c) f) h.words_are;
}
