-- In which stash buckets a record may stand, by words 1 and 3 of its home and of its probing bucket.
use Rattle.std.specs.Prelude.{ℕ, zero, suc, ◌+◌, ◌==◌, ◌&&◌, ◌||◌, nat_lt, Bool}
use Rattle.bucket_meta.specs.Bucket.{note_used, note_member, note_index, note_finger, overflow_count, last_note, home_side, probing_side}

-- this holds of a number, or of one of the n behind it
abbrev pub holds_among : (ℕ → Bool) → ℕ → ℕ → Bool
holds_among holds at zero = holds at
holds_among holds at (suc n) = holds at || holds_among holds (at + 1) n

-- note slot i has a note of this side (`home_side` for the home's own, `probing_side` for the home before), fingerprint and stash bucket
abbrev pub is_note : ℕ → ℕ → ℕ → ℕ → ℕ → ℕ → Bool
is_note w1 w3 side finger index i =
    (note_used i w1 == 1) && ((note_member i w1 == side) && ((note_index i w1 == index) && (note_finger i w1 w3 == finger)))

-- one of the note slots has, from the first to the last
abbrev pub is_named : ℕ → ℕ → ℕ → ℕ → ℕ → Bool
is_named w1 w3 side finger index = holds_among (is_note w1 w3 side finger index) 0 last_note

-- a stash bucket is to be visited for a fingerprint: the home, with words w1 and w3, has records without a note, or a note of it
-- in one of its two buckets, the other with u1 and u3, names both
abbrev pub must_visit : ℕ → ℕ → ℕ → ℕ → ℕ → ℕ → Bool
must_visit w1 w3 u1 u3 finger index = nat_lt 0 (overflow_count w1) || (is_named w1 w3 home_side finger index || is_named u1 u3 probing_side finger index)
