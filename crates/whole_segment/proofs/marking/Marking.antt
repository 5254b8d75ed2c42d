-- Word 1 of each bucket is made bucket by bucket, and what it then is for all.
use Rattle.std.proofs.Common.{◌≡◌, ◌≢◌, ℕ, ◌+◌, ◌^◌, ◌<◌, ◌↔◌, sym, ap, ◌∙◌, subst, inl, inr, arith}
use Rattle.std.proofs.lemmas.Bool.{cases_eq, cases_lt}
use Rattle.bucket_meta.specs.Bucket.{allocated}
use Rattle.bucket_meta.specs.Marks.{copied_mark, cleared_mark}
use Rattle.hash_word.specs.Hash.{Covers}
use Rattle.whole_segment.specs.Slots.{IsSetOf, IsMarked}
use Rattle.whole_segment.specs.Records.{Stands, IsCovered}
use Rattle.whole_segment.specs.Mending.{IsSpoiled, IsMended, without_spoiled}
use Rattle.whole_segment.proofs.marking.Sides.{are_sides}
use Rattle.whole_segment.proofs.marking.Mended.{is_mended}

module _ (mark : ℕ → ℕ → ℕ) (P : ℕ → ℕ → Type 0) (first : ℕ → ℕ) where
  -- the buckets below n are marked
  abbrev pub AreMarkedBelow : (ℕ → ℕ) → ℕ → Type 0
  AreMarkedBelow made n = (b : ℕ) → b < n → (slots : ℕ) × IsSetOf (P b) slots × (made b ≡ mark (first b) slots)

  pub marked_more : (n slots : ℕ) (made later : ℕ → ℕ) → IsSetOf (P n) slots → later n ≡ mark (first n) slots → ((b : ℕ) → b ≢ n → later b ≡ made b)
      → AreMarkedBelow made n → AreMarkedBelow later (n + 1)
  marked_more n slots made later set here others before b low = elim (cases_eq b n) [
    | inl same ↦
        let Q : ℕ → Type 0 = λ c. (x : ℕ) × IsSetOf (P c) x × (later c ≡ mark (first c) x) in
        subst Q (sym same) (slots, set, here)
    | inr apart ↦ let was = before b (omega (arith, low, apart)) in (was.0, was.1, others b apart ∙ was.2)
  ]

  -- ---- the sets of all buckets
  module _ (made : ℕ → ℕ) (are : IsMarked mark P first made) where
    abbrev Chosen : ℕ → Type 0
    Chosen b = (slots : ℕ) × (b < 66 → IsSetOf (P b) slots × (made b ≡ mark (first b) slots))

    chosen : (b : ℕ) → Chosen b
    chosen b = elim (cases_lt b 66) [
      | inl low ↦ let x = are b low in (x.0, λ _. (x.1, x.2))
      | inr high ↦ (0, λ low. absurd (omega (arith, low, high)))
    ]

    pub slots_of : ℕ → ℕ
    unfolding chosen
    slots_of b = (chosen b).0

    pub set_of : (b : ℕ) → b < 66 → IsSetOf (P b) (slots_of b)
    unfolding slots_of
    set_of b low = ((chosen b).1 low).0

    pub made_of : (b : ℕ) → b < 66 → made b ≡ mark (first b) (slots_of b)
    unfolding slots_of
    made_of b low = ((chosen b).1 low).1

-- ---- records stand alike where words 1 are equal
along : (f g : ℕ → ℕ) (key : ℕ → ℕ → ℕ) (b r k : ℕ) → ((c : ℕ) → c < 66 → g c ≡ f c) → Stands f key b r k → Stands g key b r k
along f g key b r k same s = record { bucket = s.bucket; slot = s.slot; taken = ap (allocated r) (same b s.bucket) ∙ s.taken; has_key = s.has_key }

module _ (first made : ℕ → ℕ) (key : ℕ → ℕ → ℕ) (hash : ℕ → ℕ) (depth pattern : ℕ) (word : (b : ℕ) → first b < 2 ^ 64) where
  abbrev Covered : ℕ → ℕ → Type 0
  Covered = IsCovered first key hash depth pattern

  pub copy_has : IsMarked copied_mark Covered first made → (b r k : ℕ) → Stands made key b r k ↔ (Stands first key b r k × Covers depth pattern (hash k))
  copy_has are b r k =
      let slots = slots_of copied_mark Covered first made are in
      let copy : ℕ → ℕ = λ c. copied_mark (first c) (slots c) in
      let same = made_of copied_mark Covered first made are in
      let sides = are_sides first slots key hash depth pattern word (set_of copied_mark Covered first made are) in (
        λ s. (sides.copied b r k).0 (along made copy key b r k (λ c low. sym (same c low)) s),
        λ s. along copy made key b r k same ((sides.copied b r k).1 s),
      )

  pub rest_has : IsMarked cleared_mark Covered first made → (b r k : ℕ) → Stands made key b r k ↔ (Stands first key b r k × (Covers depth pattern (hash k) → ⊥))
  rest_has are b r k =
      let slots = slots_of cleared_mark Covered first made are in
      let rest : ℕ → ℕ = λ c. cleared_mark (first c) (slots c) in
      let same = made_of cleared_mark Covered first made are in
      let sides = are_sides first slots key hash depth pattern word (set_of cleared_mark Covered first made are) in (
        λ s. (sides.stayed b r k).0 (along made rest key b r k (λ c low. sym (same c low)) s),
        λ s. along rest made key b r k same ((sides.stayed b r k).1 s),
      )

  abbrev Spoiled : ℕ → ℕ → Type 0
  Spoiled = IsSpoiled first key hash depth pattern

  pub mended_is : IsMarked cleared_mark Spoiled first made → IsMended first made key hash depth pattern
  mended_is are =
      let slots = slots_of cleared_mark Spoiled first made are in
      let rest : ℕ → ℕ = without_spoiled first slots in
      let same = made_of cleared_mark Spoiled first made are in
      let back : (b r k : ℕ) → Stands made key b r k → Stands rest key b r k = λ b r k s. along made rest key b r k (λ c low. sym (same c low)) s in
      let whole = is_mended first key hash depth pattern slots word (set_of cleared_mark Spoiled first made are) in record {
        own = λ b r k s. whole.own b r k (back b r k s);
        first_stays = λ b r k s own none. along rest made key b r k same (whole.first_stays b r k s own none);
        keys_stay = λ b r k s own. let found = whole.keys_stay b r k s own in (found.0, found.1, along rest made key found.0 found.1 k same found.2);
        once = λ looked b r c t k one other. whole.once looked b r c t k (back b r k one) (back c t k other);
      }
