-- What stands in the segment when its split is made: records of the 0-side, each key once, with exact notes.
use Rattle.std.proofs.Common.{◌≡◌, ◌≢◌, ℕ, suc, ◌+◌, ◌*◌, ◌/◌, ◌%◌, ◌^◌, ◌<◌, ◌≤◌, List, ◌++◌, inl, inr, sym, ap, ◌∙◌, subst, arith}
use Rattle.std.specs.Prelude.{slice_index}
use Rattle.std.proofs.lemmas.Bool.{cases_lt}
use Rattle.word_bits.proofs.OneBit.{bit_of_bits}
use Rattle.trace.specs.Events.{Words}
use Rattle.word_bits.specs.Bits.{bit}
use Rattle.hash_word.specs.Hash.{Covers, probing_of}
use Rattle.bucket_meta.specs.Bucket.{allocated, overflow_count, record_slots}
use Rattle.bucket_meta.specs.Notes.{OverflowNote, AreExact, notes_by}
use Rattle.segment_head.specs.HeadWord.{depth_in, pattern_in}
use Rattle.image_layout.specs.Places.{Shape, bucket_at, homes, buckets, block}
use Rattle.sound_image.specs.Records.{key_hash, word_in, slot_key}
use Rattle.sound_image.specs.Records as image
use Rattle.image_layout.specs.Standing.{stashed_of}
use Rattle.bucket_words.specs.Buckets.{IsTaken, key_in}
use Rattle.bucket_words.specs.Hits.{Hit}
use Rattle.world.specs.Ground.{Ground}
use Rattle.enclose_op.specs.Phases.{IsLocated}
use Rattle.enclose_op.specs.declared.enclosed.Enclosed.{Enclosed}
use Rattle.enclose_op.specs.Whole.{kept_words, kept_first, IsWhole, kept_key}
use Rattle.rest_op.specs.declared.op.RestOp.{RestOp}
use Rattle.rest_op.specs.Reckoned.{side_depth, side_pattern, cleared_of, IsReckoned}
use Rattle.enclose_op.proofs.Places.{kept_there}
use Rattle.rest_op.proofs.whole.Words.{rest_words, other_value, bucket_here}
use Rattle.whole_segment.proofs.Stashing.{stashed_same}
use Rattle.whole_segment.proofs.marking.Uncovering.{slot_says, covered_freed}
use Rattle.rest_op.proofs.whole.Halving.{zero_side}

module _ (site : Ground) (op : RestOp) (l : IsLocated site op.whole.site op.whole.segment) (whole : IsWhole site op.whole) (reckoned : IsReckoned op)
    (first third : ℕ → ℕ) (head link : ℕ) (noted : (b : ℕ) → b < homes → first b ≡ slice_index op.notes.first b) (fingers : (b : ℕ) → b < homes → third b ≡ slice_index op.notes.third b)
    (stashes : (b : ℕ) → homes ≤ b → b < buckets → first b ≡ cleared_of op.whole b) where
  abbrev e : Enclosed
  e = op.whole

  abbrev word : Words
  word = rest_words site.shape e first third head link

  abbrev at : ℕ → ℕ
  at b = bucket_at site.shape e.segment b

  even_apart : (r : ℕ) → 4 + 2 * r ≢ 1
  even_apart r q = omega (arith, q)

  far_apart : (r : ℕ) → 4 + 2 * r ≢ 3
  far_apart r q = omega (arith, q)

  one_number : (i r : ℕ) → i + 4 + 2 * r ≡ i + (4 + 2 * r)
  one_number i r = omega arith

  -- keys are as they were
  key_here : (b r : ℕ) → r < record_slots → key_in word (at b) r ≡ kept_key e b r
  key_here b r low =
      ap word (one_number (at b) r) ∙ bucket_here site.shape e first third head link b (4 + 2 * r) (omega (arith, low)) ∙ other_value e first third b (4 + 2 * r) (even_apart r) (far_apart r)

  key_before : (b r : ℕ) → r < record_slots → key_in (kept_words e) (at b) r ≡ kept_key e b r
  key_before b r low = ap (kept_words e) (one_number (at b) r) ∙ kept_there site e l b (4 + 2 * r)

  -- a slot that is taken is so in what is left
  low_bit : (r w x : ℕ) → r < 14 → w % 2 ^ 28 ≡ x % 2 ^ 28 → bit r w ≡ bit r x
  low_bit r w x low same =
      let bits_same : w / 2 ^ 0 % 2 ^ 28 ≡ x / 2 ^ 0 % 2 ^ 28 = omega (arith, same) in
      let from_first : 0 + r ≡ r = omega arith in
      sym (bit_of_bits 0 28 r w (omega (arith, low)) ∙ ap (λ i. bit i w) from_first) ∙ ap (bit r) bits_same ∙ (bit_of_bits 0 28 r x (omega (arith, low)) ∙ ap (λ i. bit i x) from_first)

  slots : (b : ℕ) → b < buckets → first b % 2 ^ 28 ≡ cleared_of e b % 2 ^ 28
  slots b near = elim (cases_lt b homes) [
    | inl low ↦ ap (λ w. w % 2 ^ 28) (noted b low) ∙ (reckoned.records b low).slots
    | inr high ↦ ap (λ w. w % 2 ^ 28) (stashes b high near)
  ]

  taken_left : (b r : ℕ) → b < buckets → r < record_slots → IsTaken word (at b) r → allocated r (cleared_of e b) ≡ 1
  taken_left b r near low taken = sym (low_bit r (first b) (cleared_of e b) low (slots b near)) ∙ sym (ap (allocated r) (bucket_here site.shape e first third head link b 1 (omega arith))) ∙ taken

  module _ (b r k : ℕ) (hit : Hit site.shape word e.segment b r k) where
    left : allocated r (cleared_of e b) ≡ 1
    left = taken_left b r hit.bucket hit.slot hit.taken

    same_taken : allocated r (kept_first e b) ≡ 1
    same_taken = elim (slot_says (kept_first e) (kept_key e) (key_hash e.site.geometry) (side_depth e) (side_pattern e) b (whole.small (block * b + 1)) r hit.slot) [
      | inl same ↦ sym same.0 ∙ left
      | inr free ↦ (let zero = sym left ∙ free.0 in absurd (omega (arith, zero)))
    ]

    -- it stood there before
    pub hit_before : Hit site.shape (kept_words e) e.segment b r k
    hit_before = record {
      segment = hit.segment;
      bucket = hit.bucket;
      slot = hit.slot;
      taken = ap (allocated r) (kept_there site e l b 1) ∙ same_taken;
      key = key_before b r hit.slot ∙ sym (key_here b r hit.slot) ∙ hit.key;
    }

    -- and the 0-side covers it
    abbrev Covered : ℕ → ℕ → Type 0
    Covered d p = Covers d p (key_hash site.shape k)

    covered_before : Covered (depth_in e.head) (pattern_in e.head)
    covered_before = whole.own b r k hit_before

    not_side : Covered (side_depth e) (side_pattern e) → ⊥
    not_side covers =
        let named : key_hash e.site.geometry (kept_key e b r) ≡ key_hash site.shape k = ap (λ (g : Shape). key_hash g (kept_key e b r)) l.shape ∙ ap (key_hash site.shape) (sym (key_here b r hit.slot) ∙ hit.key) in
        let zero = sym left ∙ covered_freed (kept_first e) (kept_key e) (key_hash e.site.geometry) (side_depth e) (side_pattern e) b (whole.small (block * b + 1)) r hit.slot same_taken (subst (λ h. Covers (side_depth e) (side_pattern e) h) (sym named) covers) in
        absurd (omega (arith, zero))

    pub own : depth_in e.head < 64 → Covered (suc (depth_in e.head)) (2 * pattern_in e.head)
    own low = zero_side (depth_in e.head) (pattern_in e.head) (key_hash site.shape k) low covered_before not_side

  -- EACH KEY stands once
  pub once : (b r c t k : ℕ) → Hit site.shape word e.segment b r k → Hit site.shape word e.segment c t k → (b ≡ c) × (r ≡ t)
  once b r c t k one other = whole.once b r c t k (hit_before b r k one) (hit_before c t k other)

  -- ---- NOTES are exact
  abbrev hash : ℕ → ℕ
  hash = key_hash site.shape

  first_here : (b : ℕ) → b < homes → word_in site.shape word e.segment b 1 ≡ slice_index op.notes.first b
  first_here b low = bucket_here site.shape e first third head link b 1 (omega arith) ∙ noted b low

  third_here : (b : ℕ) → b < homes → word_in site.shape word e.segment b 3 ≡ slice_index op.notes.third b
  third_here b low = bucket_here site.shape e first third head link b 3 (omega arith) ∙ fingers b low

  stashed_here : (b : ℕ) → image.stashed_of site.shape word e.segment b ≡ stashed_of (cleared_of e) (kept_key e) hash b
  stashed_here b = stashed_same (cleared_of e) (λ c. word_in site.shape word e.segment c 1) (kept_key e) (λ c r. slot_key site.shape word e.segment c r) hash
      (λ c high near. bucket_here site.shape e first third head link c 1 (omega arith) ∙ stashes c high near) (λ c r near low. key_here c r low) b

  abbrev Exact : ℕ → ℕ → ℕ → ℕ → List OverflowNote → Type 0
  Exact w1 w3 x1 x3 stashed = AreExact (notes_by w1 w3 0 ++ notes_by x1 x3 1) (overflow_count w1) stashed

  pub exact : (b : ℕ) → b < homes → image.HasExactNotes site.shape word e.segment b
  exact b low =
      let c : ℕ = probing_of b in
      let near : c < homes = omega arith in
      let noted_exact : Exact (slice_index op.notes.first b) (slice_index op.notes.third b) (slice_index op.notes.first c) (slice_index op.notes.third c) (stashed_of (cleared_of e) (kept_key e) hash b)
      = subst (λ (g : Shape). Exact (slice_index op.notes.first b) (slice_index op.notes.third b) (slice_index op.notes.first c) (slice_index op.notes.third c) (stashed_of (cleared_of e) (kept_key e) (key_hash g) b)) l.shape (reckoned.exact b low) in
      subst (λ w. Exact w (word_in site.shape word e.segment b 3) (word_in site.shape word e.segment c 1) (word_in site.shape word e.segment c 3) (image.stashed_of site.shape word e.segment b)) (sym (first_here b low))
      (subst (λ w. Exact (slice_index op.notes.first b) w (word_in site.shape word e.segment c 1) (word_in site.shape word e.segment c 3) (image.stashed_of site.shape word e.segment b)) (sym (third_here b low))
      (subst (λ w. Exact (slice_index op.notes.first b) (slice_index op.notes.third b) w (word_in site.shape word e.segment c 3) (image.stashed_of site.shape word e.segment b)) (sym (first_here c near))
      (subst (λ w. Exact (slice_index op.notes.first b) (slice_index op.notes.third b) (slice_index op.notes.first c) w (image.stashed_of site.shape word e.segment b)) (sym (third_here c near))
      (subst (λ (stashed : List OverflowNote). Exact (slice_index op.notes.first b) (slice_index op.notes.third b) (slice_index op.notes.first c) (slice_index op.notes.third c) stashed) (sym (stashed_here b)) noted_exact))))
