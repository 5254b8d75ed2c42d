-- A store to no bucket leaves all records, so owners tell what becomes of a table.
use Rattle.std.proofs.Common.{◌≡◌, ℕ, ◌+◌, ◌<◌, ◌≤◌, inl, inr, Option, None, Some, refl, sym, ap, subst, ◌∙◌, arith}
use Rattle.std.proofs.lemmas.Option.{same_Some}
use Rattle.image_layout.specs.Bucket.{record_slots}
use Rattle.trace.specs.Events.{Words, with_word}
use Rattle.trace.proofs.Replaced.{replaced_other}
use Rattle.image_layout.specs.Places.{Shape, IsShape, bucket_at, buckets, words_of}
use Rattle.image_layout.specs.Standing.{StandsAt}
use Rattle.bucket_words.specs.Segments.{frame_of, InOneSide}
use Rattle.bucket_words.specs.Records.{key_hash}
use Rattle.bucket_words.specs.Claims.{HasSoundFrame}
use Rattle.bucket_words.specs.Stores.{StoreKeeps, StoreHandsOver}
use Rattle.bucket_words.specs.Pairs.{Holds}
use Rattle.bucket_words.proofs.frames.Deciding.{one_side}
use Rattle.bucket_words.specs.Buckets.{value_in}
use Rattle.bucket_words.specs.Slots.{SameSlot}
use Rattle.bucket_words.specs.Owners.{IsStructure, owner_of}
use Rattle.bucket_words.specs.Hits.{Hit, find}
use Rattle.bucket_words.specs.Standing.{IsRight, IsTable}
use Rattle.bucket_words.specs.TableChanges.{KeepsTable}
use Rattle.bucket_words.proofs.Slots.{same_words}
use Rattle.bucket_words.proofs.segments.Places.{not_structure, owner_within}
use Rattle.bucket_words.proofs.segments.Finding.{find_is, find_none, hit_found, none_found, find_alike_any}
use Rattle.bucket_words.proofs.segments.changes.NoSlot.{keeps}
use Rattle.bucket_words.proofs.segments.Cores.{within_image}
use Rattle.frame_facts.specs.Copies.{IsNoBucketWord, HasCopies}
use Rattle.frame_facts.proofs.Owners.{owners_stay, owner_spared}

-- no word of the structure is one of a bucket, nor one behind the image
pub structure_apart : (shape : Shape) (i : ℕ) → IsStructure shape i → IsNoBucketWord shape i
structure_apart shape i is s b n slot bucket inside e = not_structure shape s b n i bucket inside (sym e) is

pub behind_apart : (shape : Shape) (i : ℕ) → words_of shape ≤ i → IsNoBucketWord shape i
behind_apart shape i behind s b n slot bucket inside e = omega (arith, within_image shape s b n slot bucket inside, e, behind)

-- a hit is a record of its segment, and such a record a hit
pub holds_of : (shape : Shape) (word : Words) (s b r k : ℕ) → Hit shape word s b r k → Holds shape word s k (value_in word (bucket_at shape s b) r)
holds_of shape word s b r k hit = record {
  b = b;
  r = r;
  there = record { segment = hit.segment; bucket = hit.bucket; slot = hit.slot; is_allocated = hit.taken };
  key_is = hit.key;
  value_is = refl;
}

pub hit_of : (shape : Shape) (word : Words) (s k v : ℕ) (holds : Holds shape word s k v) → Hit shape word s holds.b holds.r k
hit_of shape word s k v holds = record {
  segment = holds.there.segment;
  bucket = holds.there.bucket;
  slot = holds.there.slot;
  taken = holds.there.is_allocated;
  key = holds.key_is;
}

module _ (shape : Shape) (word : Words) (i x : ℕ) (apart : IsNoBucketWord shape i) where
  abbrev other : Words
  other = with_word word i x

  pub same_slots : (s b t : ℕ) → s < shape.segments → b < buckets → t < record_slots → SameSlot word other (bucket_at shape s b) t
  same_slots s b t slot bucket inside =
      same_words word other (bucket_at shape s b) (λ n near. replaced_other word i x (bucket_at shape s b + n) (apart s b n slot bucket near)) t inside

  -- OWNERS STAY
  pub kept_table : IsShape shape → HasSoundFrame shape word → IsTable shape word → StoreKeeps shape word i x → KeepsTable shape word other
  kept_table is_shape sound table goes = keeps shape word other table (owners_stay shape word is_shape sound i x goes) same_slots

  -- A SIDE IS HANDED OVER
  module _ (is_shape : IsShape shape) (sound : HasSoundFrame shape word) (table : IsTable shape word) (s n : ℕ) (hands : StoreHandsOver shape word s n i x)
      (owned : (h : ℕ) → InOneSide (frame_of shape word) s h → (owner_of shape word h ≡ Some s) × (owner_of shape other h ≡ Some n)) (copies : HasCopies shape word s n) where
    hit_there : (q c t l : ℕ) → Hit shape word q c t l → Hit shape other q c t l
    hit_there q c t l h = let o = same_slots q c t h.segment h.bucket h.slot in
        record { segment = h.segment; bucket = h.bucket; slot = h.slot; taken = o.taken ∙ h.taken; key = o.key h.taken ∙ h.key }

    hit_back : (q c t l : ℕ) → Hit shape other q c t l → Hit shape word q c t l
    hit_back q c t l h =
        let o = same_slots q c t h.segment h.bucket h.slot in
        let taken = sym o.taken ∙ h.taken in
        record { segment = h.segment; bucket = h.bucket; slot = h.slot; taken = taken; key = sym (o.key taken) ∙ h.key }

    same_value : (q c t l : ℕ) → Hit shape word q c t l → value_in other (bucket_at shape q c) t ≡ value_in word (bucket_at shape q c) t
    same_value q c t l h = (same_slots q c t h.segment h.bucket h.slot).value h.taken

    right_there : (q c t l : ℕ) → Hit shape word q c t l → IsRight shape word q c t l → IsRight shape other q c t l
    right_there q c t l h right =
        let o = same_slots q c t h.segment h.bucket h.slot in
        record {
          bucket = subst (λ (z : ℕ). StandsAt shape c l z) (sym (o.membership h.taken)) right.bucket;
          fingerprint = o.fingerprint h.taken ∙ right.fingerprint;
        }

    spared : (h : ℕ) → (InOneSide (frame_of shape word) s h → ⊥) → owner_of shape other h ≡ owner_of shape word h
    spared h outside = owner_spared shape.depth is_shape.depth (frame_of shape word) (frame_of shape other) sound s n hands h outside

    -- in the 1-side it is n that owns now
    is_side : (q h : ℕ) → InOneSide (frame_of shape word) s h → owner_of shape other h ≡ Some q → q ≡ n
    is_side q h inside own = same_Some _ _ (sym own ∙ (owned h inside).1)

    -- a record of the side is one of s, of the same value
    of_whole : (b r k : ℕ) → InOneSide (frame_of shape word) s (key_hash shape k) → Hit shape word n b r k → Holds shape word s k (value_in word (bucket_at shape n b) r)
    of_whole b r k inside hit = (copies.records k (value_in word (bucket_at shape n b) r) inside).1 (holds_of shape word n b r k hit)

    side_one_value : (b r c t k : ℕ) → InOneSide (frame_of shape word) s (key_hash shape k) → Hit shape word n b r k → Hit shape word n c t k
        → value_in word (bucket_at shape n b) r ≡ value_in word (bucket_at shape n c) t
    side_one_value b r c t k inside one two =
        let a = of_whole b r k inside one in
        let d = of_whole c t k inside two in
        sym a.value_is ∙ table.one_value s a.b a.r d.b d.r k (hit_of shape word s k _ a) (hit_of shape word s k _ d) (owned (key_hash shape k) inside).0 ∙ d.value_is

    handed_is_table : IsTable shape other
    handed_is_table = record {
      stands = λ q c t l h own.
          let w = hit_back q c t l h in
          elim (one_side (frame_of shape word) s (key_hash shape l)) [
            | inl inside ↦
                let same = is_side q (key_hash shape l) inside own in
                right_there q c t l w (subst (λ u. IsRight shape word u c t l) (sym same) (copies.right c t l (subst (λ u. Hit shape word u c t l) same w) inside))
            | inr outside ↦ right_there q c t l w (table.stands q c t l w (sym (spared (key_hash shape l) outside) ∙ own))
          ];
      one_value = λ q c t d u l h g own.
          let x1 = hit_back q c t l h in
          let x2 = hit_back q d u l g in
          same_value q c t l x1
          ∙ elim (one_side (frame_of shape word) s (key_hash shape l)) [
            | inl inside ↦
                let same = is_side q (key_hash shape l) inside own in
                subst (λ p. value_in word (bucket_at shape p c) t ≡ value_in word (bucket_at shape p d) u) (sym same)
                (side_one_value c t d u l inside (subst (λ p. Hit shape word p c t l) same x1) (subst (λ p. Hit shape word p d u l) same x2))
            | inr outside ↦ table.one_value q c t d u l x1 x2 (sym (spared (key_hash shape l) outside) ∙ own)
          ]
          ∙ sym (same_value q d u l x2);
    }

    inside_pairs : (k : ℕ) → InOneSide (frame_of shape word) s (key_hash shape k) → find shape other k ≡ find shape word k
    inside_pairs k inside = go (find shape word k) refl
      where
        own : owner_of shape word (key_hash shape k) ≡ Some s
        own = (owned (key_hash shape k) inside).0

        own_after : owner_of shape other (key_hash shape k) ≡ Some n
        own_after = (owned (key_hash shape k) inside).1

        go : (a : Option ℕ) → find shape word k ≡ a → find shape other k ≡ find shape word k
        go None nothing =
            find_none shape other n k (owner_within shape other (key_hash shape k) n own_after) own_after
            (λ b r hit. let a = of_whole b r k inside (hit_back n b r k hit) in
            none_found shape word s k own nothing a.b a.r (hit_of shape word s k _ a))
            ∙ sym nothing
        go (Some v) found =
            let h = hit_found shape word s k v own found in
            let a = (copies.records k v inside).0 (subst (Holds shape word s k) h.3 (holds_of shape word s h.0 h.1 k h.2)) in
            let hit = hit_of shape word n k v a in
            find_is shape other handed_is_table n a.b a.r k (hit_there n a.b a.r k hit) own_after
            ∙ ap Some (same_value n a.b a.r k hit ∙ a.value_is) ∙ sym found

    pub handed_table : KeepsTable shape word other
    handed_table = record {
      table = handed_is_table;
      pairs = λ k. elim (one_side (frame_of shape word) s (key_hash shape k)) [
        | inl inside ↦ inside_pairs k inside
        | inr outside ↦
            find_alike_any shape word other table handed_is_table k (spared (key_hash shape k) outside)
            (λ q c t own h. (c, t, hit_there q c t k h, same_value q c t k h)) (λ q c t own h. (c, t, hit_back q c t k h))
      ];
    }
