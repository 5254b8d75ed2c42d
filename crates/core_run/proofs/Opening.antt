-- The pairs of an image are the map that the records of owners make, slot by slot.
use Rattle.std.proofs.Common.{◌≡◌, ◌≢◌, ℕ, zero, suc, ◌+◌, ◌*◌, ◌/◌, ◌%◌, ◌^◌, ◌<◌, ◌≤◌, refl, sym, ap, subst, ◌∙◌, arith, inl, inr, ⊎_elim, List, cond, eq-eqb, true, false, Option, None, Some}
use Rattle.std.specs.Prelude.{◌==◌, if◌then◌else◌, slice_index}
use Rattle.std.specs.FinMap.{get, insert, get-empty, get-insert}
use Rattle.std.specs.Cmp.{unsigned_tied}
use Rattle.std.proofs.lemmas.Cmp.{nat_cmp_total}
use Rattle.std.specs.Ordering.{nat_cmp}
use Rattle.std.proofs.lemmas.Bool.{cases_eq, cases_lt, ne_eqb, eqb-true, and_parts, cases_Bool, both_ways}
use Rattle.std.specs.Cmp.Derive.{both_true}
use Rattle.bucket_meta.specs.Bucket.{allocated}
use Rattle.image_layout.specs.Places.{Shape, key_at}
use Rattle.map_model.specs.Map.{Map}
use Rattle.sound_image.specs.Segments.{ImageWords, Frame, frame_of, Owns}
use Rattle.sound_image.specs.Records.{key_hash, word_in, slot_key, slot_hash, HasRecord, HasOwnRecord, HasPair, HasAt}
use Rattle.session.specs.Left.{HasPairsOf}
use Rattle.sound_image.specs.Image.{IsSoundImage}
use Rattle.sound_image.proofs.Hashes.{key_hash-fits}
use Rattle.segment_table.specs.Owner.{owner}
use Rattle.segment_table.proofs.frames.SoundFrames.{owner_claims}
use Rattle.segment_table.proofs.frames.Owner.{found_owns, claimer_found}
use Rattle.restart_op.proofs.images.Facts.{frame_is}
use Rattle.core_run.specs.Opening.{is_owner, has_record, key_of_slot, value_of_slot, map_below, opening_of}

-- what a map has at a key after an insert
get-insert_same : (m : Map) (k v : ℕ) → get (insert m k v) k ≡ Some v
get-insert_same m k v = get-insert nat_cmp_total m k v k ∙ ap (λ b. cond b (Some v) (get m k)) (unsigned_tied k k ∙ eq-eqb k k refl)

get-insert_other : (m : Map) (k v q : ℕ) → q ≢ k → get (insert m k v) q ≡ get m q
get-insert_other m k v q other = get-insert nat_cmp_total m k v q ∙ ap (λ b. cond b (Some v) (get m q)) (unsigned_tied q k ∙ ne_eqb q k other)

-- ---- the number of a slot, of 924 in each segment
abbrev number : ℕ → ℕ → ℕ → ℕ
number s b r = 924 * s + (14 * b + r)

number_segment : (s b r : ℕ) → b < 66 → r < 14 → number s b r / 924 ≡ s
number_segment s b r near low = omega (arith, near, low)

number_bucket : (s b r : ℕ) → b < 66 → r < 14 → number s b r / 14 % 66 ≡ b
number_bucket s b r near low = omega (arith, near, low)

number_slot : (s b r : ℕ) → r < 14 → number s b r % 14 ≡ r
number_slot s b r low = omega (arith, low)

number_below : (s b r n : ℕ) → s < n → b < 66 → r < 14 → number s b r < 924 * n
number_below s b r n slot near low = omega (arith, slot, near, low)

in_segments : (t n : ℕ) → t < 924 * n → t / 924 < n
in_segments t n low = omega (arith, low)

module _ (shape : Shape) (word : ImageWords) where
  -- a record below a limit has this key and value
  pub record IsAmong (limit k v : ℕ) : Type 0 where
    pub slot : ℕ
    pub below : slot < limit
    pub there : has_record shape word slot ≡ true
    pub key : key_of_slot shape word slot ≡ k
    pub value : value_of_slot shape word slot ≡ v

  abbrev pub HasBelow : ℕ → ℕ → Option ℕ → Type 0
  HasBelow limit k None = (v : ℕ) → IsAmong limit k v → ⊥
  HasBelow limit k (Some v) = IsAmong limit k v

  with_record : (t : ℕ) → has_record shape word t ≡ true → map_below shape word (suc t) ≡ insert (map_below shape word t) (key_of_slot shape word t) (value_of_slot shape word t)
  unfolding map_below
  with_record t holds = ap (λ b. if b then insert (map_below shape word t) (key_of_slot shape word t) (value_of_slot shape word t) else map_below shape word t) holds

  without_record : (t : ℕ) → has_record shape word t ≡ false → map_below shape word (suc t) ≡ map_below shape word t
  unfolding map_below
  without_record t fails = ap (λ b. if b then insert (map_below shape word t) (key_of_slot shape word t) (value_of_slot shape word t) else map_below shape word t) fails

  no_record : (k : ℕ) → get (map_below shape word zero) k ≡ None
  unfolding map_below
  no_record k = get-empty nat_cmp k

  -- one slot more: it has the key, or another, or none
  later : (t k v : ℕ) → IsAmong t k v → IsAmong (suc t) k v
  later t k v a = record { slot = a.slot; below = omega (arith, a.below); there = a.there; key = a.key; value = a.value }

  earlier : (t k v : ℕ) → (has_record shape word t ≡ true → key_of_slot shape word t ≢ k) → IsAmong (suc t) k v → IsAmong t k v
  earlier t k v other a =
      ⊎_elim (λ (less : a.slot < t). record { slot = a.slot; below = less; there = a.there; key = a.key; value = a.value })
      (λ (most : t ≤ a.slot).
      let same : a.slot ≡ t = omega (arith, most, a.below) in
      absurd (other (ap (has_record shape word) (sym same) ∙ a.there) (ap (key_of_slot shape word) (sym same) ∙ a.key)))
      (cases_lt a.slot t)

  same_below : (t k : ℕ) (o : Option ℕ) → (has_record shape word t ≡ true → key_of_slot shape word t ≢ k) → HasBelow t k o → HasBelow (suc t) k o
  same_below t k None other none = λ v a. none v (earlier t k v other a)
  same_below t k (Some v) other a = later t k v a

  -- the map below a limit has what the records below it say
  pub map_has : (t k : ℕ) → HasBelow t k (get (map_below shape word t) k)
  map_has zero k = subst (HasBelow zero k) (sym (no_record k)) (λ v a. absurd (omega (arith, a.below)))
  map_has (suc t) k =
      ⊎_elim
      (λ (holds : has_record shape word t ≡ true).
      elim (cases_eq k (key_of_slot shape word t)) [
        | inl e ↦
            subst (HasBelow (suc t) k)
            (sym (ap (λ m. get m k) (with_record t holds) ∙ ap (get (insert (map_below shape word t) (key_of_slot shape word t) (value_of_slot shape word t))) e ∙ get-insert_same (map_below shape word t) (key_of_slot shape word t) (value_of_slot shape word t)))
            (record { slot = t; below = omega arith; there = holds; key = sym e; value = refl })
        | inr other ↦
            subst (HasBelow (suc t) k)
            (sym (ap (λ m. get m k) (with_record t holds) ∙ get-insert_other (map_below shape word t) (key_of_slot shape word t) (value_of_slot shape word t) k other))
            (same_below t k _ (λ h e. other (sym e)) (map_has t k))
      ])
      (λ (fails : has_record shape word t ≡ false).
      subst (HasBelow (suc t) k) (sym (ap (λ m. get m k) (without_record t fails)))
      (same_below t k _ (λ h e. both_ways _ fails h) (map_has t k)))
      (cases_Bool (has_record shape word t))

-- the test whether the owner that was found is a segment
of_test : (o : Option ℕ) (s : ℕ) → is_owner o s ≡ true → o ≡ Some s
of_test None s e = absurd (let z = e in cc)
of_test (Some o) s e = ap Some (eqb-true o s e)

to_test : (o : Option ℕ) (s : ℕ) → o ≡ Some s → is_owner o s ≡ true
to_test o s e = subst (λ (x : Option ℕ). is_owner x s ≡ true) (sym e) (eq-eqb s s refl)

module _ (shape : Shape) (words : List ℕ) (image : IsSoundImage shape words) where
  abbrev image_word : ImageWords
  image_word = slice_index words

  abbrev frame : Frame
  frame = frame_of shape image_word

  -- in a sound image the owner of a hash is found
  owner_is : (s h : ℕ) → h < 2 ^ 64 → Owns frame s h → owner frame h ≡ Some s
  owner_is s h fits owns =
      let most : shape.depth ≤ 16 = image.in_range.depth in
      claimer_found shape.depth frame most (frame_is shape words image) s h fits (owner_claims shape.depth most frame (frame_is shape words image) s h fits owns)

  pair_from_slot : (k v : ℕ) → IsAmong shape image_word (924 * shape.segments) k v → HasPair shape image_word k v
  pair_from_slot k v a =
      let h = key_hash shape (key_of_slot shape image_word a.slot) in
      let both = and_parts (allocated (a.slot % 14) (word_in shape image_word (a.slot / 924) (a.slot / 14 % 66) 1) == 1) (is_owner (owner frame h) (a.slot / 924)) a.there in
      let there : HasRecord shape image_word (a.slot / 924) (a.slot / 14 % 66) (a.slot % 14) =
      record { segment = in_segments a.slot shape.segments a.below; bucket = omega arith; slot = omega arith; is_allocated = eqb-true _ 1 both.0 } in
      record {
        s = a.slot / 924;
        b = a.slot / 14 % 66;
        r = a.slot % 14;
        own = record { record_there = there; owned = found_owns frame h (a.slot / 924) (of_test (owner frame h) (a.slot / 924) both.1) };
        key_is = a.key;
        value_is = a.value;
      }

  is_found : (s b r : ℕ) → HasOwnRecord shape image_word s b r → is_owner (owner frame (slot_hash shape image_word s b r)) s ≡ true
  is_found s b r own =
      to_test (owner frame (slot_hash shape image_word s b r)) s
      (owner_is s (slot_hash shape image_word s b r) (key_hash-fits shape (slot_key shape image_word s b r) (image.each_fits (key_at shape s b r))) own.owned)

  slot_from_pair : (k v : ℕ) → HasPair shape image_word k v → IsAmong shape image_word (924 * shape.segments) k v
  slot_from_pair k v p =
      let there = p.own.record_there in
      let segment = number_segment p.s p.b p.r there.bucket there.slot in
      let bucket = number_bucket p.s p.b p.r there.bucket there.slot in
      let slot = number_slot p.s p.b p.r there.slot in
      record {
        slot = number p.s p.b p.r;
        below = number_below p.s p.b p.r shape.segments there.segment there.bucket there.slot;
        there = rw (segment, bucket, slot) (both_true (eq-eqb _ 1 there.is_allocated) (is_found p.s p.b p.r p.own));
        key = rw (segment, bucket, slot) p.key_is;
        value = rw (segment, bucket, slot) p.value_is;
      }

  pub opening-HasPairsOf : HasPairsOf shape image_word (opening_of shape image_word)
  opening-HasPairsOf k = turned (get (opening_of shape image_word) k) (map_has shape image_word (924 * shape.segments) k)
    where
      turned : (o : Option ℕ) → HasBelow shape image_word (924 * shape.segments) k o → HasAt shape image_word k o
      turned None none = λ v pair. none v (slot_from_pair k v pair)
      turned (Some v) a = pair_from_slot k v a
