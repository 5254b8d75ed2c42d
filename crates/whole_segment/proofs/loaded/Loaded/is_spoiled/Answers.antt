-- By what each test says.
use Rattle.std.proofs.Common.{◌≡◌, ◌∙◌, ◌↔◌, ◌⊎◌, ℕ, Bool, true, false, not, IsTrue, inl, inr, subst, sym, ap}
use Rattle.std.proofs.lemmas.Bool.{false≢true}
use Rattle.bucket_meta.specs.Bucket.{allocated}
use Rattle.hash_word.specs.Hash.{Covers}
use Rattle.whole_segment.specs.Order.{StandsBefore}
use Rattle.whole_segment.specs.Mending.{IsSpoiled}
use Rattle.whole_segment.proofs.loaded.Loaded.is_spoiled.Goals as goal

-- where the first is not so, the second is
second_of : (A B : Type 0) → (A → ⊥) ⊎ B → A → B
second_of A B (inl is_not) is = absurd (is_not is)
second_of A B (inr b) is = b

module _ (first : ℕ → ℕ) (key : ℕ → ℕ → ℕ) (hash : ℕ → ℕ) (depth pattern b r : ℕ) where
  not_taken : (taken : Bool) → (IsTrue taken ↔ (allocated r (first b) ≡ 1)) → taken ≡ false → IsTrue taken ↔ IsSpoiled first key hash depth pattern b r
  not_taken taken says is_not = (λ is. absurd (false≢true (sym is_not ∙ is)), λ spoiled. says.1 spoiled.taken)

  not_covered : (taken covers : Bool) (h : ℕ) → (IsTrue taken ↔ (allocated r (first b) ≡ 1)) → taken ≡ true → (IsTrue covers ↔ Covers depth pattern h) → h ≡ hash (key b r) → covers ≡ false
      → IsTrue (not covers) ↔ IsSpoiled first key hash depth pattern b r
  not_covered taken covers h says is says_covers is_hash is_not = (
    λ _. record { taken = says.0 is; why = inl (λ is_covered. false≢true (sym is_not ∙ says_covers.1 (subst (Covers depth pattern) (sym is_hash) is_covered))) },
    λ _. ap not is_not,
  )

  if_before : (taken covers before : Bool) (h : ℕ) → (IsTrue taken ↔ (allocated r (first b) ≡ 1)) → taken ≡ true → (IsTrue covers ↔ Covers depth pattern h) → h ≡ hash (key b r) → covers ≡ true
      → (IsTrue before ↔ StandsBefore first key hash b r) → IsTrue before ↔ IsSpoiled first key hash depth pattern b r
  if_before taken covers before h says is says_covers is_hash is_so says_before = (
    λ stands. record { taken = says.0 is; why = inr (says_before.0 stands) },
    λ spoiled. says_before.1 (second_of _ _ spoiled.why (subst (Covers depth pattern) is_hash (says_covers.0 is_so))),
  )

pub returns-then-not-covers : goal.returns-then-not-covers
returns-then-not-covers c = not_covered _ _ _ _ _ _ _ _ _ _ c.is_taken.ensures c.if-is_taken.true c.covers.ensures c.hash.ensures c.if-not-covers.true

pub returns-else-not-covers : goal.returns-else-not-covers
returns-else-not-covers c = if_before _ _ _ _ _ _ _ _ _ _ _ c.is_taken.ensures c.if-is_taken.true c.covers.ensures c.hash.ensures c.if-not-covers.false c.stands_before.ensures

pub returns-else-is_taken : goal.returns-else-is_taken
returns-else-is_taken c = not_taken _ _ _ _ _ _ _ _ c.is_taken.ensures c.if-is_taken.false
