-- What callers did to a memory of words, and which words it then holds.
use Rattle.std.specs.Prelude.{ℕ, ◌+◌, ◌-◌, ◌*◌, ◌/◌, ◌%◌, ◌^◌, ◌==◌, ◌≤◌, List, [], ◌∷◌, length, drop, if◌then◌else◌}

-- the words of a memory, by their numbers
abbrev pub Words : Type 0
Words = ℕ → ℕ

-- how many words a line has
abbrev pub line_words : ℕ
line_words = 8

-- how many lines a caller may have flushed and not fenced
abbrev pub most_unfenced : ℕ
most_unfenced = 8

-- the line in which a word lies
abbrev pub line_of : ℕ → ℕ
line_of i = i / line_words

-- the first word of a line
abbrev pub first_of_line : ℕ → ℕ
first_of_line line = line_words * line

-- a memory of so many words has the whole of this line
abbrev pub HasLine : ℕ → ℕ → Type 0
HasLine words line = first_of_line line + line_words ≤ words

-- what one caller did in one step
pub data Event : Type 0 where
  -- it loaded a word; an exchange that finds another value than it expected is such a load
  loaded : (caller word : ℕ) → Event
  -- it stored a value
  stored : (caller word value : ℕ) → Event
  -- it found the value that it expected, and exchanged it for another
  exchanged : (caller word value : ℕ) → Event
  -- it added one to a word
  drawn : (caller word : ℕ) → Event
  -- it asked for a line to be written back
  flushed : (caller line : ℕ) → Event
  -- it waited for what it had asked for
  fenced : (caller : ℕ) → Event

-- a trace is a list of events, the newest first
abbrev pub Trace : Type 0
Trace = List Event

-- the words with one replaced
abbrev pub with_word : Words → ℕ → ℕ → Words
with_word words i x j = if j == i then x else words j

-- the words after an event; adding one begins again at zero behind the last number of 64 bits
abbrev pub after : Event → Words → Words
after (loaded c i) words = words
after (stored c i x) words = with_word words i x
after (exchanged c i x) words = with_word words i x
after (drawn c i) words = with_word words i ((words i + 1) % 2 ^ 64)
after (flushed c l) words = words
after (fenced c) words = words

-- the words after a trace
abbrev pub value : Words → Trace → Words
value start [] = start
value start (e ∷ es) = after e (value start es)

-- a moment is a number of events: the first t events of a trace
abbrev pub first : ℕ → Trace → Trace
first t es = drop (length es - t) es

-- the words at a moment of a trace
abbrev pub value_at : Words → Trace → ℕ → Words
value_at start es t = value start (first t es)
