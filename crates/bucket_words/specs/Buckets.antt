-- One bucket, by its words: which record slots are taken, and what a key has there.
use Rattle.std.specs.Prelude.{◌≡◌, ℕ, zero, suc, ◌+◌, ◌==◌, ◌&&◌, Option, None, Some, if◌then◌else◌}
use Rattle.bucket_meta.specs.Bucket.{mark_place, fingers_place, rest_place, allocated, finger, key_behind, value_behind}
use Rattle.bucket_meta.specs.Search.{is_taken}
use Rattle.trace.specs.Events.{Words}

-- THE BUCKET that begins at a word
module _ (word : Words) (at : ℕ) where
  -- record slot r is taken
  abbrev pub IsTaken : ℕ → Type 0
  IsTaken r = allocated r (word (at + mark_place)) ≡ 1

  abbrev pub key_in : ℕ → ℕ
  key_in r = word (key_behind at r)

  abbrev pub value_in : ℕ → ℕ
  value_in r = word (value_behind at r)

  abbrev pub finger_in : ℕ → ℕ
  finger_in r = finger r (word (at + fingers_place)) (word (at + rest_place))

  -- what a key has among the record slots below a limit: the value of the last one that is taken and has the key
  unfoldable pub find_below : ℕ → ℕ → Option ℕ
  find_below k zero = None
  find_below k (suc r) = if is_taken (word (at + mark_place)) r && (key_in r == k) then Some (value_in r) else find_below k r
