-- What an attempt did, whatever machine asks; and what is still so of it where nobody else steps.
use Rattle.std.specs.Prelude.{◌≡◌, ◌≢◌, ℕ, List, [], ◌++◌, ◌⊎◌}
use Rattle.op_core.specs.declared.want.Want.{Want}
use Rattle.op_core.specs.declared.want.Ans.{Ans}
use Rattle.op_core.specs.Answers.{load_of, change_of}
use Rattle.trace.specs.Events.{Words}
use Rattle.image_layout.specs.Places.{Shape}
use Rattle.image_layout.specs.Volatile.{counter_word}
use Rattle.world.specs.Views.{Has}
use Rattle.world.specs.Wants.{answer_to, word_of, words_after}

-- the words that its events loaded, each with its value, and those that they stored to or won, the newest first
pub record Doings : Type 0 where
  pub loads : List (ℕ × ℕ)
  pub changed : List ℕ

abbrev pub nothing_done : Doings
nothing_done = record { loads = []; changed = [] }

-- with what an event of this want adds, answered so
abbrev pub with_event_of : Want → Ans → Doings → Doings
with_event_of w a d = record { loads = load_of w a ++ d.loads; changed = change_of w a ++ d.changed }

-- what an attempt loaded is still so, or it changed that itself; but for the commit counter, from which it draws
abbrev pub IsStill : Shape → Words → Doings → Type 0
IsStill shape words did = (word value : ℕ) → Has (word, value) did.loads → word ≢ counter_word shape → (words word ≡ value) ⊎ Has word did.changed

-- it is so of an attempt that has done nothing
abbrev pub NothingIsStill : Type 0
NothingIsStill = (shape : Shape) (words : Words) → IsStill shape words nothing_done

-- AN EVENT OF ITS OWN, whichever it is and whatever number its caller has, leaves it so
abbrev pub OwnEventsKeepStill : Type 0
OwnEventsKeepStill = (shape : Shape) (words : Words) (did : Doings) (w : Want) (c : ℕ) → IsStill shape words did
    → IsStill shape (words_after shape w c words) (with_event_of w (answer_to w (words (word_of shape w))) did)
