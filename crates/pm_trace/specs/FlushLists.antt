-- What the parts of a flush and of a fence make of the device's lists. No public clause says these.
use Rattle.std.specs.Prelude.{Bool, ℕ, ◌+◌, ◌≤◌, ◌≡◌, ◌==◌, ◌&&◌, not, if◌then◌else◌, List, [], ◌∷◌, ◌++◌, length, take, drop, filter}
use Rattle.trace.specs.Events.{line_words, first_of_line}
use Rattle.image_layout.specs.Places.{Shape}
use Rattle.pm_trace.specs.declared.flushes.Flush.{Flush}
use Rattle.pm_trace.specs.Memory.{IsLine}

-- a flush of this line by this caller
abbrev pub is_of : ℕ → ℕ → Flush → Bool
is_of caller line f = (f.caller == caller) && (f.line == line)

-- the flushes with one more, which takes the place of an earlier one of its line by its caller
abbrev pub added : Flush → List Flush → List Flush
added new flushes = filter (λ f. not (is_of new.caller new.line f)) flushes ++ new ∷ []

-- the words of a line replaced
abbrev pub with_line : List ℕ → ℕ → List ℕ → List ℕ
with_line words line values = take (first_of_line line) words ++ values ++ drop (first_of_line line + line_words) words

-- the words with what a caller's flushes hold
abbrev pub settled_by : ℕ → List Flush → List ℕ → List ℕ
settled_by caller [] words = words
settled_by caller (f ∷ flushes) words = settled_by caller flushes (if f.caller == caller then with_line words f.line f.words else words)

-- a flush of this line holds these words
abbrev pub renewed : ℕ → List ℕ → Flush → Flush
renewed line words f = if f.line == line then record f { words = words } else f

-- the words of the last of these flushes that is the caller's and of the line, or else the given ones
abbrev pub last_words : ℕ → List Flush → ℕ → List ℕ → List ℕ
last_words caller [] line words = words
last_words caller (f ∷ flushes) line words = last_words caller flushes line (if is_of caller line f then f.words else words)

-- each flush holds what a later one of its line by the caller holds
abbrev pub renewed_by : ℕ → List Flush → List Flush
renewed_by caller [] = []
renewed_by caller (f ∷ flushes) = record f { words = last_words caller flushes f.line f.words } ∷ renewed_by caller flushes

-- the flushes that are left when a caller has fenced
abbrev pub left_by : ℕ → List Flush → List Flush
left_by caller flushes = filter (λ f. not (f.caller == caller)) (renewed_by caller flushes)

-- a flush of a line of the image by one of the callers
abbrev pub IsFlush : Shape → ℕ → Flush → Type 0
IsFlush shape callers f = IsLine shape f.line × (f.caller ≤ callers) × (length f.words ≡ line_words)
