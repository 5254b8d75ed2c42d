-- What caller 0 does alone: the words, the events and the machine after so many events.
use Rattle.std.specs.Prelude.{ℕ, zero, suc, ◌+◌, ◌-◌, ◌/◌, ◌∷◌}
use Rattle.trace.specs.Events.{Words, Trace, most_unfenced}
use Rattle.op_core.specs.declared.want.Want.{Want}
use Rattle.op_core.specs.declared.want.Ans.{Ans}
use Rattle.image_layout.specs.Places.{Shape}
use Rattle.map_model.specs.Weave.{keeper_number}
use Rattle.world.specs.Wants.{answer_to, word_of, event_of, words_after}

-- how many fences so many flushed lines take, each as many as may wait
abbrev pub fences_of : ℕ → ℕ
fences_of lines = (lines + (most_unfenced - 1)) / most_unfenced

module _ {M : Type 0} (wanted : M → Want) (taken : M → Ans → M) (shape : Shape) where
  pub record Course : Type 0 where
    pub words : Words
    pub trace : Trace
    pub op : M

  -- one event more
  abbrev pub next : Course → Course
  next c =
      let found : ℕ = c.words (word_of shape (wanted c.op)) in
      record {
        words = words_after shape (wanted c.op) keeper_number c.words;
        trace = event_of shape (wanted c.op) found keeper_number ∷ c.trace;
        op = taken c.op (answer_to (wanted c.op) found);
      }

  -- after n events
  abbrev pub after_events : ℕ → Course → Course
  after_events zero c = c
  after_events (suc n) c = next (after_events n c)

  -- after n events of a machine that begins so, over these words and after this trace
  abbrev pub course_from : M → Words → Trace → ℕ → Course
  course_from begun words trace n = after_events n (record { words = words; trace = trace; op = begun })
