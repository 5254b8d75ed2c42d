-- Which of its two values, settled or newest, each word holds after a power cut with a choice.
use Rattle.std.specs.Prelude.{Bool, true, false, ℕ, ◌+◌, ◌-◌, ◌/◌, ◌%◌, ◌^◌, ◌==◌, not, nat_lt, if◌then◌else◌, List, [], ◌∷◌, take}
use Rattle.hash_word.specs.Hash.{mixed}
use Rattle.image_layout.specs.Places.{words_of}
use Rattle.pm_trace.specs.Memory.{Memory}

-- the choice that takes no newest value, and the one that takes each
abbrev pub no_newest : ℕ
no_newest = 0

abbrev pub all_newest : ℕ
all_newest = 1

-- from this choice on the choice is the state of a stream
abbrev pub first_stream : ℕ
first_stream = 2 ^ 63

-- the first two choices take no newest value and each; of the other even ones 2 + 2 w takes that of word w alone, and of the
-- odd ones 3 + 2 w takes each but that
abbrev pub takes_newest : ℕ → ℕ → Bool
takes_newest choice word =
    if choice == no_newest then false else
    (if choice == all_newest then true else
    (if choice % 2 == 0 then word == choice / 2 - 1 else not (word == choice / 2 - 1)))

-- by a choice before the streams, the words from number `word` on
abbrev pub chosen_by_name : ℕ → ℕ → List ℕ → List ℕ → List ℕ
chosen_by_name choice word [] newest = []
chosen_by_name choice word (s ∷ settled) [] = []
chosen_by_name choice word (s ∷ settled) (n ∷ newest) =
    (if takes_newest choice word then n else s) ∷ chosen_by_name choice (word + 1) settled newest

-- the state of a SplitMix64 stream that gives the next number, and that number
abbrev pub next_state : ℕ → ℕ
next_state state = (state + 0x9E3779B97F4A7C15) % 2 ^ 64

abbrev pub number_of : ℕ → ℕ
number_of state = mixed state

-- by a stream: a number for each word whose two values differ, and an odd one takes the newest
abbrev pub chosen_by_stream : ℕ → List ℕ → List ℕ → List ℕ
chosen_by_stream state [] newest = []
chosen_by_stream state (s ∷ settled) [] = []
chosen_by_stream state (s ∷ settled) (n ∷ newest) =
    if s == n then s ∷ chosen_by_stream state settled newest else
    ((if number_of (next_state state) % 2 == 1 then n else s) ∷ chosen_by_stream (next_state state) settled newest)

-- by any choice: by name, and from the first stream on by a stream
abbrev pub chosen : ℕ → List ℕ → List ℕ → List ℕ
chosen choice settled newest =
    if nat_lt choice first_stream then chosen_by_name choice 0 settled newest else chosen_by_stream choice settled newest

-- the words that are kept of a memory: those of the image
abbrev pub kept : ℕ → Memory → List ℕ
kept choice memory = chosen choice (take (words_of memory.shape) memory.settled) (take (words_of memory.shape) memory.newest)
