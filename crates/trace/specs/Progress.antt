-- The same event by event: which lines a caller has flushed and not fenced, from when a line is settled, and which
-- values a word had since.
use Rattle.std.specs.Prelude.{◌≡◌, ℕ, ◌≤◌, ◌==◌, ◌⊎◌, max, List, [], ◌∷◌, length, if◌then◌else◌}
use Rattle.trace.specs.Events.{Words, Trace, value}
use Rattle.trace.specs.Events.Event.{loaded, stored, exchanged, drawn, flushed, fenced}

-- the flushes of a caller since it fenced last, newest first: each line with the moment of its flush
abbrev pub pending : ℕ → Trace → List (ℕ × ℕ)
pending c [] = []
pending c (loaded d i ∷ es) = pending c es
pending c (stored d i x ∷ es) = pending c es
pending c (exchanged d i x ∷ es) = pending c es
pending c (drawn d i ∷ es) = pending c es
pending c (flushed d l ∷ es) = if d == c then (l, length es) ∷ pending c es else pending c es
pending c (fenced d ∷ es) = if d == c then [] else pending c es

-- the latest moment of a line among flushes, or 0
abbrev pub latest_of : ℕ → List (ℕ × ℕ) → ℕ
latest_of l [] = 0
latest_of l (p ∷ ps) = if p.0 == l then max p.1 (latest_of l ps) else latest_of l ps

-- the settled moment of a line: a fence brings it up to the latest flush that it fences
abbrev pub settled_moment : ℕ → Trace → ℕ
settled_moment l [] = 0
settled_moment l (loaded d i ∷ es) = settled_moment l es
settled_moment l (stored d i x ∷ es) = settled_moment l es
settled_moment l (exchanged d i x ∷ es) = settled_moment l es
settled_moment l (drawn d i ∷ es) = settled_moment l es
settled_moment l (flushed d m ∷ es) = settled_moment l es
settled_moment l (fenced d ∷ es) = max (settled_moment l es) (latest_of l (pending d es))

-- x is a value that word i had at some moment from t to now
abbrev pub HadSince : Words → Trace → ℕ → ℕ → ℕ → Type 0
HadSince start [] t i x = x ≡ start i
HadSince start (e ∷ es) t i x = (x ≡ value start (e ∷ es) i) ⊎ ((t ≤ length es) × HadSince start es t i x)
