-- Stores that change no record: to a free slot, of fingerprints that keep those of all taken slots, or that keep the core.
use Rattle.std.proofs.Common.{◌≡◌, ◌≢◌, ℕ, ◌+◌, ◌*◌, ◌<◌, ◌≤◌, refl, ap, subst, sym, ◌∙◌, arith, inl, inr, cond}
use Rattle.std.proofs.lemmas.Bool.{cases_eq}
use Rattle.bucket_meta.specs.Bucket.{allocated, member, finger, record_slots}
use Rattle.trace.specs.Events.{Words, with_word}
use Rattle.trace.proofs.Replaced.{cases_at}
use Rattle.image_layout.specs.Places.{Shape, bucket_at, block, buckets}
use Rattle.bucket_words.specs.Buckets.{IsTaken, finger_in}
use Rattle.bucket_words.specs.Core.{core_of, core}
use Rattle.bucket_words.specs.Slots.{SameSlot}
use Rattle.bucket_words.specs.Standing.{IsTable}
use Rattle.bucket_words.specs.TableChanges.{KeepsTable}
use Rattle.bucket_words.proofs.segments.Places.{other_word, this_word, owners_kept}
use Rattle.bucket_words.proofs.segments.changes.NoSlot.{keeps}
use Rattle.bucket_words.proofs.segments.changes.OneRecord.{not_both, finger_of_words}
use Rattle.bucket_words.proofs.segments.Cores.{keeps_of_cores}

module _ (shape : Shape) (word : Words) (table : IsTable shape word) (s b m x i : ℕ) (segment : s < shape.segments) (bucket : b < buckets)
    (from : 2 ≤ m) (inside : m < block) (place : i ≡ bucket_at shape s b + m) where
  abbrev stored : Words
  stored = with_word word i x

  kept : (q c n j : ℕ) → c < buckets → n < block → j ≡ bucket_at shape q c + n → (q ≡ s → c ≡ b → n ≡ m → ⊥) → stored j ≡ word j
  kept = other_word shape word s b m x i bucket inside place

  -- a word behind the metadata is another: it is enough to look at the taken slots of its bucket
  pub slots_kept : ((t : ℕ) → t < record_slots → IsTaken word (bucket_at shape s b) t → 4 + 2 * t ≢ m)
      → ((t : ℕ) → t < record_slots → IsTaken word (bucket_at shape s b) t → 5 + 2 * t ≢ m)
      → ((t : ℕ) → t < record_slots → IsTaken word (bucket_at shape s b) t → finger_in stored (bucket_at shape s b) t ≡ finger_in word (bucket_at shape s b) t)
      → (q c t : ℕ) → q < shape.segments → c < buckets → t < record_slots → SameSlot word stored (bucket_at shape q c) t
  slots_kept no_key no_value fingers = each
    where
      meta : (q c : ℕ) → c < buckets → stored (bucket_at shape q c + 1) ≡ word (bucket_at shape q c + 1)
      meta q c near = kept q c 1 (bucket_at shape q c + 1) near (omega arith) refl (λ _ _ e. omega (arith, e, from))

      there : (q c t : ℕ) → c < buckets → t < record_slots → (q ≡ s → c ≡ b → ⊥) → SameSlot word stored (bucket_at shape q c) t
      there q c t near l apart = record {
        taken = ap (allocated t) (meta q c near);
        membership = λ _. ap (member t) (meta q c near);
        key = λ _. kept q c (4 + 2 * t) (bucket_at shape q c + 4 + 2 * t) near (omega (arith, l)) (omega arith) (λ e f _. apart e f);
        value = λ _. kept q c (5 + 2 * t) (bucket_at shape q c + 5 + 2 * t) near (omega (arith, l)) (omega arith) (λ e f _. apart e f);
        fingerprint = λ _. finger_of_words t _ _ _ _ (kept q c 2 (bucket_at shape q c + 2) near (omega arith) refl (λ e f _. apart e f)) (kept q c 3 (bucket_at shape q c + 3) near (omega arith) refl (λ e f _. apart e f));
      }

      here : (t : ℕ) → t < record_slots → SameSlot word stored (bucket_at shape s b) t
      here t l = record {
        taken = ap (allocated t) (meta s b bucket);
        membership = λ _. ap (member t) (meta s b bucket);
        key = λ taken. kept s b (4 + 2 * t) (bucket_at shape s b + 4 + 2 * t) bucket (omega (arith, l)) (omega arith) (λ _ _ e. no_key t l taken e);
        value = λ taken. kept s b (5 + 2 * t) (bucket_at shape s b + 5 + 2 * t) bucket (omega (arith, l)) (omega arith) (λ _ _ e. no_value t l taken e);
        fingerprint = λ taken. fingers t l taken;
      }

      each : (q c t : ℕ) → q < shape.segments → c < buckets → t < record_slots → SameSlot word stored (bucket_at shape q c) t
      each q c t seg near l = elim (cases_eq q s) [
        | inr n ↦ there q c t near l (λ e _. n e)
        | inl e ↦ elim (cases_eq c b) [
          | inr n ↦ there q c t near l (λ _ f. n f)
          | inl f ↦ subst (λ (z : ℕ). SameSlot word stored (bucket_at shape z c) t) (sym e) (subst (λ (z : ℕ). SameSlot word stored (bucket_at shape s z) t) (sym f) (here t l))
        ]
      ]

  pub behind_meta : ((t : ℕ) → t < record_slots → IsTaken word (bucket_at shape s b) t → 4 + 2 * t ≢ m)
      → ((t : ℕ) → t < record_slots → IsTaken word (bucket_at shape s b) t → 5 + 2 * t ≢ m)
      → ((t : ℕ) → t < record_slots → IsTaken word (bucket_at shape s b) t → finger_in stored (bucket_at shape s b) t ≡ finger_in word (bucket_at shape s b) t)
      → KeepsTable shape word stored
  behind_meta no_key no_value fingers = keeps shape word stored table (owners_kept shape word s b m x i bucket inside place) (slots_kept no_key no_value fingers)

  -- a word of a record
  pub behind_fingers : 4 ≤ m → ((t : ℕ) → t < record_slots → IsTaken word (bucket_at shape s b) t → 4 + 2 * t ≢ m) → ((t : ℕ) → t < record_slots → IsTaken word (bucket_at shape s b) t → 5 + 2 * t ≢ m)
      → KeepsTable shape word stored
  behind_fingers above no_key no_value = behind_meta no_key no_value (λ t l taken. finger_of_words t _ _ _ _
      (kept s b 2 (bucket_at shape s b + 2) bucket (omega arith) refl (λ _ _ e. omega (arith, e, above))) (kept s b 3 (bucket_at shape s b + 3) bucket (omega arith) refl (λ _ _ e. omega (arith, e, above))))

module _ (shape : Shape) (word : Words) (table : IsTable shape word) (s b x : ℕ) (segment : s < shape.segments) (bucket : b < buckets) where
  abbrev at : ℕ
  at = bucket_at shape s b

  module _ (r : ℕ) (slot : r < record_slots) (free : allocated r (word (at + 1)) ≡ 0) where
    not_this : (t : ℕ) → IsTaken word at t → t ≢ r
    not_this t taken e = not_both _ taken (ap (λ t. allocated t (word (at + 1))) e ∙ free)

    pub key_keeps : KeepsTable shape word (with_word word (at + 4 + 2 * r) x)
    key_keeps = behind_fingers shape word table s b (4 + 2 * r) x (at + 4 + 2 * r) segment bucket (omega arith) (omega (arith, slot)) (omega arith) (omega arith)
        (λ t l taken e. not_this t taken (omega (arith, e))) (λ t l taken e. omega (arith, e))

    pub value_keeps : KeepsTable shape word (with_word word (at + 5 + 2 * r) x)
    value_keeps = behind_fingers shape word table s b (5 + 2 * r) x (at + 5 + 2 * r) segment bucket (omega arith) (omega (arith, slot)) (omega arith) (omega arith)
        (λ t l taken e. omega (arith, e)) (λ t l taken e. not_this t taken (omega (arith, e)))

  pub low_keeps : ((t : ℕ) → t < record_slots → IsTaken word at t → finger t x (word (at + 3)) ≡ finger t (word (at + 2)) (word (at + 3))) → KeepsTable shape word (with_word word (at + 2) x)
  low_keeps same = behind_meta shape word table s b 2 x (at + 2) segment bucket (omega arith) (omega arith) refl
      (λ t l taken e. omega (arith, e)) (λ t l taken e. omega (arith, e))
      (λ t l taken. finger_of_words t _ _ _ _ (this_word shape word s b 2 x (at + 2) bucket (omega arith) refl (at + 2) refl)
      (other_word shape word s b 2 x (at + 2) bucket (omega arith) refl s b 3 (at + 3) bucket (omega arith) refl (λ _ _ e. omega (arith, e))) ∙ same t l taken)

  pub high_keeps : ((t : ℕ) → t < record_slots → IsTaken word at t → finger t (word (at + 2)) x ≡ finger t (word (at + 2)) (word (at + 3))) → KeepsTable shape word (with_word word (at + 3) x)
  high_keeps same = behind_meta shape word table s b 3 x (at + 3) segment bucket (omega arith) (omega arith) refl
      (λ t l taken e. omega (arith, e)) (λ t l taken e. omega (arith, e))
      (λ t l taken. finger_of_words t _ _ _ _ (other_word shape word s b 3 x (at + 3) bucket (omega arith) refl s b 2 (at + 2) bucket (omega arith) refl (λ _ _ e. omega (arith, e)))
      (this_word shape word s b 3 x (at + 3) bucket (omega arith) refl (at + 3) refl) ∙ same t l taken)

-- A WORD OF THE SAME CORE
same_core_there : (shape : Shape) (word : Words) (i x : ℕ) → core_of shape i x ≡ core_of shape i (word i) → (j : ℕ) → core shape word j ≡ core shape (with_word word i x) j
same_core_there shape word i x same j =
    cases_at (λ b. core_of shape j (word j) ≡ core_of shape j (cond b x (word j))) j i
    (λ e. subst (λ n. core_of shape n (word n) ≡ core_of shape n x) (sym e) (sym same)) (λ _. refl)

pub core_keeps : (shape : Shape) (word : Words) (i x : ℕ) → IsTable shape word
    → core_of shape i x ≡ core_of shape i (word i) → KeepsTable shape word (with_word word i x)
core_keeps shape word i x table same = keeps_of_cores shape word (with_word word i x) table (λ j _. same_core_there shape word i x same j)
