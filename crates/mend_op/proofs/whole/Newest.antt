-- What the newest words say of the segment: its depth and its pattern are in range, and its records stand where their keys are looked for.
use Rattle.std.proofs.Common.{◌≡◌, ◌≢◌, ℕ, ◌+◌, ◌*◌, ◌^◌, ◌<◌, ◌≤◌, ◌⊎◌, Bool, true, false, Some, List, slice_index, inl, inr, sym, ap, ◌∙◌, subst, arith}
use Rattle.std.specs.Prelude.{◌==◌, if◌then◌else◌}
use Rattle.std.proofs.lemmas.Bool.{cases_eq, eq-eqb}
use Rattle.std.proofs.lemmas.Nat.{pow_below}
use Rattle.trace.specs.Events.{Words}
use Rattle.hash_word.specs.Hash.{Covers, home_of, probing_of}
use Rattle.bucket_meta.specs.Bucket.{allocated}
use Rattle.segment_head.specs.HeadWord.{state_in, depth_in, pattern_in, free, normal, splitting}
use Rattle.image_layout.specs.Places.{bucket_at, homes, buckets, block, words_of_buckets, slots_of_key}
use Rattle.image_layout.specs.Standing.{StandsAt}
use Rattle.sound_image.specs.Segments.{frame_of}
use Rattle.sound_image.specs.Records.{key_hash}
use Rattle.whole_segment.specs.Order.{position_of}
use Rattle.whole_segment.specs.Records.{Stands}
use Rattle.bucket_words.specs.Hits.{Hit}
use Rattle.bucket_words.specs.Owners.{owner_of}
use Rattle.world.specs.Ground.{Ground, IsGround}
use Rattle.world.specs.Views.{View, Has}
use Rattle.world.specs.areas.Areas.{header_word}
use Rattle.world.specs.areas.Asking.{MayBeNewest}
use Rattle.world.proofs.holders.publishing.Opening.{normal_owns}
use Rattle.repair_op.specs.declared.guarded.Guarded.{Guarded}
use Rattle.repair_op.specs.Guarded.{IsOld}
use Rattle.mend_op.specs.Words.{first_of, key_of}
use Rattle.mend_op.specs.Stands.{place_of, AreLookedFor}
use Rattle.mend_op.proofs.whole.Words.{number_is}

-- a header of a live segment, whose depth and pattern are in range
pub record IsInRange (head : ℕ) : Type 0 where
  pub deep : depth_in head ≤ 16
  pub wide : pattern_in head < 2 ^ 17

-- ---- positions
abbrev position_by : ℕ → (home probing first second : Bool) → ℕ
position_by r home probing first second = if home then r else if probing then 14 + r else if first then 28 + r else if second then 42 + r else slots_of_key

position_low : (r : ℕ) (home probing first second : Bool) → r < 14 → (home ≡ true) ⊎ ((probing ≡ true) ⊎ ((first ≡ true) ⊎ (second ≡ true))) → position_by r home probing first second < slots_of_key
position_low r true probing first second low some = omega (arith, low)
position_low r false true first second low some = omega (arith, low)
position_low r false false true second low some = omega (arith, low)
position_low r false false false true low some = omega (arith, low)
position_low r false false false false low some = absurd (elim some [
  | inl own ↦ (let is : false ≡ true = own in cc)
  | inr more ↦ elim more [
    | inl probing ↦ (let is : false ≡ true = probing in cc)
    | inr more ↦ elim more [ inl first ↦ (let is : false ≡ true = first in cc) | inr second ↦ (let is : false ≡ true = second in cc) ]
  ]
])

-- a record that stands in a bucket where a key of this home may stand has a position
near_position : (home b r : ℕ) → r < 14 → b < buckets → (b ≡ home) ⊎ ((b ≡ probing_of home) ⊎ (homes ≤ b)) → position_of home b r < slots_of_key
near_position home b r low near some = position_low r (b == home) (b == probing_of home) (b == homes) (b == homes + 1) low (elim some [
  | inl own ↦ inl (eq-eqb b home own)
  | inr more ↦ elim more [
    | inl probing ↦ inr (inl (eq-eqb b (probing_of home) probing))
    | inr stash ↦ elim (cases_eq b homes) [
      | inl first ↦ inr (inr (inl (eq-eqb b homes first)))
      | inr second ↦ inr (inr (inr (eq-eqb b (homes + 1) (omega (arith, near, stash, second)))))
    ]
  ]
])

module _ (site : Ground) (ground : IsGround site) (guarded : Guarded) (old : IsOld site guarded) (v : View) (words : Words) (new : MayBeNewest site v words)
    (header : Has (header_word site.shape guarded.segment, guarded.head) v.known) where
  abbrev s : ℕ
  s = guarded.segment

  head_now : words (header_word site.shape s) ≡ guarded.head
  head_now = new.knows (header_word site.shape s) guarded.head header

  -- ITS HEADER is in range, where it is live
  pub in_range : (state_in guarded.head ≡ normal) ⊎ (state_in guarded.head ≡ splitting) → IsInRange guarded.head
  in_range live =
      let fits = new.structure.sound.head s old.within in
      let most = ground.shape.depth in
      let low : depth_in (words (header_word site.shape s)) ≤ site.shape.depth = fits.depth_fits no_free in
      let deep : depth_in guarded.head ≤ 16 = subst (λ x. depth_in x ≤ 16) head_now (omega (arith, low, most)) in
      record { deep = deep; wide = subst (λ x. pattern_in x < 2 ^ 17) head_now (small (fits.pattern_fits no_free) (omega (arith, low, most))) }
    where
      apart : (a : ℕ) → (a ≡ normal) ⊎ (a ≡ splitting) → a ≡ free → ⊥
      apart a some none = elim some [ inl one ↦ omega (arith, one, none) | inr two ↦ omega (arith, two, none) ]

      no_free : state_in (words (header_word site.shape s)) ≢ free
      no_free none = apart (state_in guarded.head) live (ap state_in (sym head_now) ∙ none)

      small : pattern_in (words (header_word site.shape s)) < 2 ^ depth_in (words (header_word site.shape s)) → depth_in (words (header_word site.shape s)) < 17
          → pattern_in (words (header_word site.shape s)) < 2 ^ 17
      small fits low = let more = pow_below (depth_in (words (header_word site.shape s))) 17 low in omega (arith, fits, more)

  -- RECORDS STAND where their keys are looked for, once all words are known
  module _ (kept : List ℕ) (is_normal : state_in guarded.head ≡ normal) (known : (i : ℕ) → i < words_of_buckets → words (place_of site guarded i) ≡ slice_index kept i) where
    known_at : (b n : ℕ) → b < buckets → n < block → words (bucket_at site.shape s b + n) ≡ slice_index kept (block * b + n)
    known_at b n near low = ap words (number_is site.shape s b n) ∙ known (block * b + n) (omega (arith, near, low))

    module _ (b r k : ℕ) (stands : Stands (first_of kept) (key_of kept) b r k) (covers : Covers (depth_in guarded.head) (pattern_in guarded.head) (key_hash site.shape k)) where
      key_number : (f r : ℕ) → f + 4 + 2 * r ≡ f + (4 + 2 * r)
      key_number f r = omega arith

      key_low : 4 + 2 * r < block
      key_low = let low = stands.slot in omega (arith, low)

      hit : Hit site.shape words s b r k
      hit = record {
        segment = old.within;
        bucket = stands.bucket;
        slot = stands.slot;
        taken = ap (allocated r) (known_at b 1 stands.bucket (omega arith)) ∙ stands.taken;
        key = ap words (key_number (bucket_at site.shape s b) r) ∙ known_at b (4 + 2 * r) stands.bucket key_low ∙ stands.has_key;
      }

      owned : owner_of site.shape words (key_hash site.shape k) ≡ Some s
      owned = normal_owns site.shape.depth ground.shape.depth (frame_of site.shape words) new.structure.sound s (key_hash site.shape k) old.within (ap state_in head_now ∙ is_normal)
          (subst (λ x. Covers (depth_in x) (pattern_in x) (key_hash site.shape k)) (sym head_now) covers)

      buckets_are : (bit : ℕ) → StandsAt site.shape b k bit → (b ≡ home_of (key_hash site.shape k)) ⊎ ((b ≡ probing_of (home_of (key_hash site.shape k))) ⊎ (homes ≤ b))
      buckets_are bit some = elim some [ inl own ↦ inl own.0 | inr more ↦ elim more [ inl probing ↦ inr (inl probing.0) | inr stash ↦ inr (inr stash) ] ]

      positioned : position_of (home_of (key_hash site.shape (key_of kept b r))) b r < slots_of_key
      positioned = subst (λ z. position_of (home_of (key_hash site.shape z)) b r < slots_of_key) (sym stands.has_key)
          (near_position (home_of (key_hash site.shape k)) b r stands.slot stands.bucket (buckets_are _ (new.table.stands s b r k hit owned).bucket))

    pub looked_for : AreLookedFor site guarded kept
    looked_for b r k stands covers = positioned b r k stands covers
