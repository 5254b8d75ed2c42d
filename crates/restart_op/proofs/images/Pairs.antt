-- In words that fit, of a sound structure, what a table has at a key is what `find` gives: a key that no word can hold has nothing.
use Rattle.std.proofs.Common.{◌≡◌, ℕ, ◌^◌, ◌<◌, ◌≤◌, Option, None, Some, refl, sym, subst, ◌∙◌, arith, inl, inr}
use Rattle.std.proofs.lemmas.Bool.{cases_lt}
use Rattle.trace.specs.Events.{Words}
use Rattle.image_layout.specs.Places.{Shape, IsShape, key_at}
use Rattle.sound_image.specs.Records.{key_hash, HasPair, HasAt}
use Rattle.segment_table.specs.Claims.{HasSoundFrame}
use Rattle.bucket_words.specs.Owners.{owner_of}
use Rattle.bucket_words.specs.Hits.{Hit, find}
use Rattle.bucket_words.specs.Standing.{IsTable}
use Rattle.bucket_words.proofs.segments.Places.{owner_within}
use Rattle.bucket_words.proofs.segments.Finding.{find_empty, find_none}
use Rattle.bucket_words.proofs.segments.Rules.{at_of_find, find_of_at}

module _ (shape : Shape) (is : IsShape shape) (word : Words) (sound : HasSoundFrame shape word) (fits : (i : ℕ) → word i < 2 ^ 64) (table : IsTable shape word) where
  -- ---- a key that no word can hold
  module _ (k : ℕ) (large : 2 ^ 64 ≤ k) where
    no_hit : (s b r : ℕ) → Hit shape word s b r k → ⊥
    no_hit s b r h = let low : k < 2 ^ 64 = subst (λ n. n < 2 ^ 64) h.key (fits (key_at shape s b r)) in omega (arith, low, large)

    no_pair : (v : ℕ) → HasPair shape word k v → ⊥
    no_pair v pair =
        let there = pair.own.record_there in
        no_hit pair.s pair.b pair.r (record { segment = there.segment; bucket = there.bucket; slot = there.slot; taken = there.is_allocated; key = pair.key_is })

    nothing : find shape word k ≡ None
    nothing = by_owner (owner_of shape word (key_hash shape k)) refl
      where
        by_owner : (o : Option ℕ) → owner_of shape word (key_hash shape k) ≡ o → find shape word k ≡ None
        by_owner None own = find_empty shape word k own
        by_owner (Some s) own = find_none shape word s k (owner_within shape word (key_hash shape k) s own) own (λ b r. no_hit s b r)

  -- ---- any key
  pub has_of_found : (k : ℕ) (a : Option ℕ) → find shape word k ≡ a → HasAt shape word k a
  has_of_found k a found = elim (cases_lt k (2 ^ 64)) [
    | inl small ↦ at_of_find shape is word sound fits table k small a found
    | inr large ↦ subst (HasAt shape word k) (sym (nothing k large) ∙ found) (no_pair k large)
  ]

  pub found_of_has : (k : ℕ) (a : Option ℕ) → HasAt shape word k a → find shape word k ≡ a
  found_of_has k a has = elim (cases_lt k (2 ^ 64)) [
    | inl small ↦ find_of_at shape is word sound fits table k small a has
    | inr large ↦ by_value k large a has
  ]
    where
      by_value : (k : ℕ) → 2 ^ 64 ≤ k → (a : Option ℕ) → HasAt shape word k a → find shape word k ≡ a
      by_value k large None has = nothing k large
      by_value k large (Some v) has = absurd (no_pair k large v has)
