-- The words of a record that was prepared in a free slot: it stands ready there, and all other slots and notes are as they were.
use Rattle.std.proofs.Common.{◌≡◌, ◌≢◌, ℕ, List, ◌+◌, ◌*◌, ◌/◌, ◌%◌, ◌^◌, ◌<◌, ◌≤◌, cond, ◌++◌, inl, inr, refl, sym, ap, ◌∙◌, subst, arith}
use Rattle.std.proofs.lemmas.Bool.{cases_eq, cases_lt, lt-ltb, le-ltb}
use Rattle.bucket_meta.specs.Bucket.{record_slots, allocated, finger, overflow_count}
use Rattle.bucket_meta.specs.Marks.{finger_place, with_finger}
use Rattle.bucket_meta.specs.Notes.{how_often, notes_by}
use Rattle.bucket_meta.proofs.Fingers.{sets_low, sets_high, upper_kept}
use Rattle.hash_word.specs.Hash.{probing_of, finger_of}
use Rattle.trace.specs.Events.{Words}
use Rattle.trace.proofs.Replaced.{replaced_same, replaced_other}
use Rattle.image_layout.specs.Places.{Shape, bucket_at, block, homes, buckets}
use Rattle.sound_image.specs.Records.{key_hash, word_in, notes_in, notes_of}
use Rattle.bucket_words.specs.Buckets.{key_in, finger_in}
use Rattle.bucket_words.specs.Hits.{Hit}
use Rattle.bucket_words.specs.HomeNotes.{IsUnnoted}
use Rattle.bucket_words.specs.TableChanges.{IsReadyAt}
use Rattle.bucket_words.proofs.segments.Places.{other_word}
use Rattle.world.specs.Views.{IsGuarded}
use Rattle.world.proofs.holding.Preparing.{notes_kept_3}
use Rattle.phase.specs.declared.make.Record.{Record}
use Rattle.phase.specs.Makes.{key_at, value_at, fingers_at}
use Rattle.phase.specs.Making.{with_key, with_value, with_record, FitsSlot, PreparesRecord}

-- the number of the word of fingerprints
pub place_low : (slot : ℕ) → slot < 8 → finger_place slot ≡ 2
place_low slot low = ap (λ b. cond b 2 3) (lt-ltb slot 8 low)

pub place_high : (slot : ℕ) → 8 ≤ slot → finger_place slot ≡ 3
place_high slot high = ap (λ b. cond b 2 3) (le-ltb slot 8 high)

pub place_near : (slot : ℕ) → (2 ≤ finger_place slot) × (finger_place slot < 4)
place_near slot = elim (cases_lt slot 8) [
  | inl low ↦ subst (λ n. (2 ≤ n) × (n < 4)) (sym (place_low slot low)) (omega arith, omega arith)
  | inr high ↦ subst (λ n. (2 ≤ n) × (n < 4)) (sym (place_high slot high)) (omega arith, omega arith)
]

-- the words of a record lie under the lock of its bucket
module _ (held : List (ℕ × ℕ)) (lock : ℕ) (written : Record) (guard : (j : ℕ) → 1 ≤ j → j < block → IsGuarded held (lock + j)) (low : written.slot < record_slots) where
  pub key_guard : IsGuarded held (key_at lock written)
  key_guard = subst (IsGuarded held) (omega arith) (guard (4 + 2 * written.slot) (omega arith) (omega (arith, low)))

  pub value_guard : IsGuarded held (value_at lock written)
  value_guard = subst (IsGuarded held) (omega arith) (guard (5 + 2 * written.slot) (omega arith) (omega (arith, low)))

  pub fingers_guard : IsGuarded held (fingers_at lock written)
  fingers_guard = let near = place_near written.slot in guard (finger_place written.slot) (let a = near.0 in omega (arith, a)) (let b = near.1 in omega (arith, b))

pub one_or_none : (n : ℕ) → n ≡ 1 → n ≡ 0 → ⊥
one_or_none n e f = omega (arith, e, f)

module _ (shape : Shape) (word : Words) (s b lock number : ℕ) (written : Record) (f : FitsSlot shape word s b lock written number) where
  abbrev slot : ℕ
  slot = written.slot

  abbrev at : ℕ
  at = bucket_at shape s b

  abbrev made : Words
  made = with_record lock written word

  -- ---- each word
  pub key_kept : (i : ℕ) → i ≢ key_at lock written → with_key lock written word i ≡ word i
  key_kept i n = replaced_other word (key_at lock written) written.key i n

  pub value_kept : (i : ℕ) → i ≢ key_at lock written → i ≢ value_at lock written → with_value lock written word i ≡ word i
  value_kept i n m = replaced_other (with_key lock written word) (value_at lock written) written.value i m ∙ key_kept i n

  pub record_kept : (i : ℕ) → i ≢ key_at lock written → i ≢ value_at lock written → i ≢ fingers_at lock written → made i ≡ word i
  record_kept i n m o = replaced_other (with_value lock written word) (fingers_at lock written) written.fingers i o ∙ value_kept i n m

  pub meta_kept : made (lock + 1) ≡ word (lock + 1)
  meta_kept = let near = place_near slot in let n0 = near.0 in record_kept (lock + 1) (λ e. omega (arith, e)) (λ e. omega (arith, e)) (λ e. omega (arith, e, n0))

  key_made : made (key_at lock written) ≡ written.key
  key_made = let near = place_near slot in let n1 = near.1 in
      replaced_other (with_value lock written word) (fingers_at lock written) written.fingers (key_at lock written) (λ e. omega (arith, e, n1))
      ∙ replaced_other (with_key lock written word) (value_at lock written) written.value (key_at lock written) (λ e. omega (arith, e))
      ∙ replaced_same word (key_at lock written) written.key

  value_made : made (value_at lock written) ≡ written.value
  value_made = let near = place_near slot in let n1 = near.1 in
      replaced_other (with_value lock written word) (fingers_at lock written) written.fingers (value_at lock written) (λ e. omega (arith, e, n1))
      ∙ replaced_same (with_key lock written word) (value_at lock written) written.value

  fingers_made : made (lock + finger_place slot) ≡ with_finger (word (lock + finger_place slot)) slot number
  fingers_made = replaced_same (with_value lock written word) (fingers_at lock written) written.fingers ∙ f.fingers

  finger_made : finger_in made lock slot ≡ number
  finger_made = elim (cases_lt slot 8) [
    | inl low ↦ (let w = subst (λ n. made (lock + n) ≡ with_finger (word (lock + n)) slot number) (place_low slot low) fingers_made in
        ap (λ z. finger slot z (made (lock + 3))) w ∙ (sets_low (word (lock + 2)) (made (lock + 3)) slot number low f.small).here)
    | inr high ↦ (let w = subst (λ n. made (lock + n) ≡ with_finger (word (lock + n)) slot number) (place_high slot high) fingers_made in
        ap (λ z. finger slot (made (lock + 2)) z) w ∙ (sets_high (made (lock + 2)) (word (lock + 3)) slot number high f.slot f.small).here)
  ]

  -- ---- the record stands ready
  pub stands_ready : number ≡ finger_of (key_hash shape written.key) → IsReadyAt shape made s b slot written.key
  stands_ready is = record {
    segment = f.segment;
    bucket = f.bucket;
    slot = f.slot;
    is_free = subst (λ (l : ℕ). allocated slot (made (l + 1)) ≡ 0) f.at (ap (allocated slot) meta_kept ∙ f.is_free);
    has_key = subst (λ (l : ℕ). key_in made l slot ≡ written.key) f.at key_made;
    has_finger = subst (λ (l : ℕ). finger_in made l slot ≡ finger_of (key_hash shape written.key)) f.at (finger_made ∙ is);
  }

  -- ---- the words of all buckets
  kept : (q c n : ℕ) → c < buckets → n < block → (q ≡ s → c ≡ b → n ≡ 4 + 2 * slot → ⊥) → (q ≡ s → c ≡ b → n ≡ 5 + 2 * slot → ⊥) → (q ≡ s → c ≡ b → n ≡ finger_place slot → ⊥)
      → made (bucket_at shape q c + n) ≡ word (bucket_at shape q c + n)
  kept q c n near low key value place =
      let f0 = f.at in let f1 = f.slot in let small = place_near slot in let n1 = small.1 in
      other_word shape (with_value lock written word) s b (finger_place slot) written.fingers (fingers_at lock written) f.bucket (omega (arith, n1)) (ap (λ z. z + finger_place slot) f.at)
      q c n (bucket_at shape q c + n) near low refl place
      ∙ other_word shape (with_key lock written word) s b (5 + 2 * slot) written.value (value_at lock written) f.bucket (omega (arith, f1)) (omega (arith, f0)) q c n (bucket_at shape q c + n) near low refl value
      ∙ other_word shape word s b (4 + 2 * slot) written.key (key_at lock written) f.bucket (omega (arith, f1)) (omega (arith, f0)) q c n (bucket_at shape q c + n) near low refl key

  metas : (q c : ℕ) → c < buckets → made (bucket_at shape q c + 1) ≡ word (bucket_at shape q c + 1)
  metas q c near = let small = place_near slot in let n0 = small.0 in
      kept q c 1 near (omega arith) (λ _ _ e. omega (arith, e)) (λ _ _ e. omega (arith, e)) (λ _ _ e. omega (arith, e, n0))

  pub hits_back : (q c t k : ℕ) → Hit shape made q c t k → Hit shape word q c t k
  hits_back q c t k h =
      let taken : allocated t (word (bucket_at shape q c + 1)) ≡ 1 = ap (allocated t) (sym (metas q c h.bucket)) ∙ h.taken in
      let l = h.slot in
      let small = place_near slot in
      let n1 = small.1 in
      let place : bucket_at shape q c + (4 + 2 * t) ≡ bucket_at shape q c + 4 + 2 * t = omega arith in
      record {
        segment = h.segment;
        bucket = h.bucket;
        slot = h.slot;
        taken = taken;
        key = ap word (sym place) ∙ sym (kept q c (4 + 2 * t) h.bucket (omega (arith, l)) (λ e g i. other e g (omega (arith, i)) taken) (λ _ _ i. omega (arith, i)) (λ _ _ i. omega (arith, i, n1)))
            ∙ ap made place ∙ h.key;
      }
    where
      other : q ≡ s → c ≡ b → t ≡ slot → allocated t (word (bucket_at shape q c + 1)) ≡ 1 → ⊥
      other e g i taken = one_or_none _
          (subst (λ (z : ℕ). allocated z (word (at + 1)) ≡ 1) i (subst (λ (z : ℕ). allocated t (word (bucket_at shape s z + 1)) ≡ 1) g (subst (λ (z : ℕ). allocated t (word (bucket_at shape z c + 1)) ≡ 1) e taken)))
          (subst (λ (l : ℕ). allocated slot (word (l + 1)) ≡ 0) f.at f.is_free)

  -- ---- notes
  upper : (q c : ℕ) → c < buckets → made (bucket_at shape q c + 3) / 2 ^ 48 % 2 ^ 16 ≡ word (bucket_at shape q c + 3) / 2 ^ 48 % 2 ^ 16
  upper q c near = elim (cases_lt slot 8) [
    | inl low ↦ same (λ _ _ e. (let p = place_low slot low in omega (arith, e, p)))
    | inr high ↦ elim (cases_eq q s) [
      | inr n ↦ same (λ e _ _. n e)
      | inl e ↦ elim (cases_eq c b) [
        | inr n ↦ same (λ _ g _. n g)
        | inl g ↦
            let here : made (lock + 3) / 2 ^ 48 % 2 ^ 16 ≡ word (lock + 3) / 2 ^ 48 % 2 ^ 16 =
            ap (λ z. z / 2 ^ 48 % 2 ^ 16) (subst (λ n. made (lock + n) ≡ with_finger (word (lock + n)) slot number) (place_high slot high) fingers_made)
            ∙ upper_kept (word (lock + 3)) slot number f.small high f.slot in
            let place : lock ≡ bucket_at shape q c = f.at ∙ ap (λ z. bucket_at shape s z) (sym g) ∙ ap (λ z. bucket_at shape z c) (sym e) in
            subst (λ (z : ℕ). made (z + 3) / 2 ^ 48 % 2 ^ 16 ≡ word (z + 3) / 2 ^ 48 % 2 ^ 16) place here
      ]
    ]
  ]
    where
      same : (q ≡ s → c ≡ b → 3 ≡ finger_place slot → ⊥) → made (bucket_at shape q c + 3) / 2 ^ 48 % 2 ^ 16 ≡ word (bucket_at shape q c + 3) / 2 ^ 48 % 2 ^ 16
      same n = ap (λ z. z / 2 ^ 48 % 2 ^ 16) (kept q c 3 near (omega arith) (λ _ _ e. omega (arith, e)) (λ _ _ e. omega (arith, e)) n)

  one_side : (q c side : ℕ) → c < buckets → notes_in shape made q c side ≡ notes_in shape word q c side
  one_side q c side near = ap (λ z. notes_by z (word_in shape made q c 3) side) (metas q c near) ∙ notes_kept_3 (word_in shape word q c 1) (word_in shape word q c 3) (word_in shape made q c 3) side (upper q c near)

  pub notes_made : (q d : ℕ) → d < homes → notes_of shape made q d ≡ notes_of shape word q d
  notes_made q d near = ap (λ z. z ++ notes_in shape made q (probing_of d) 1) (one_side q d 0 (omega (arith, near))) ∙ ap (λ z. notes_in shape word q d 0 ++ z) (one_side q (probing_of d) 1 (omega arith))

  pub unnoted_made : (q d g c : ℕ) → d < homes → IsUnnoted shape word q d g c → IsUnnoted shape made q d g c
  unnoted_made q d g c near u = record {
    none = ap (how_often (g, c)) (notes_made q d near) ∙ u.none;
    counted = ap overflow_count (metas q d (omega (arith, near))) ∙ u.counted;
  }

pub prepares_record : PreparesRecord
prepares_record = record {
  meta = λ shape word s b lock finger written f. meta_kept shape word s b lock finger written f;
  ready = λ shape word s b lock finger written f is. stands_ready shape word s b lock finger written f is;
  value = λ shape word s b lock finger written f. value_made shape word s b lock finger written f;
  hits = λ shape word s b lock finger written f q c t k h. hits_back shape word s b lock finger written f q c t k h;
  unnoted = λ shape word s b lock finger written f q d g c near u. unnoted_made shape word s b lock finger written f q d g c near u;
}
