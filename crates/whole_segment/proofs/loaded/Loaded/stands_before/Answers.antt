-- By the positions that were looked at.
use Rattle.std.proofs.Common.{◌≡◌, ◌∙◌, ◌↔◌, ℕ, ◌<◌, ◌≤◌, Bool, true, false, IsTrue, refl, subst, sym, ap, arith}
use Rattle.std.proofs.lemmas.Bool.{false≢true}
use Rattle.hash_word.specs.Hash.{home_of}
use Rattle.whole_segment.specs.Order.{position_of, own_home, own_position, IsAt, StandsBefore}
use Rattle.whole_segment.proofs.loaded.Loaded.stands_before.Goals as goal

below_end : (a n m : ℕ) → a < n → n ≤ m → a < m
below_end a n m low most = omega arith

module _ (first : ℕ → ℕ) (key : ℕ → ℕ → ℕ) (hash : ℕ → ℕ) (b r h home k n : ℕ) where
  -- the end of the positions is that of the slot itself
  end_is : h ≡ hash (key b r) → home ≡ home_of h → n ≡ position_of home b r → n ≡ own_position key hash b r
  end_is is_hash is_home is_end = is_end ∙ ap (λ (x : ℕ). position_of x b r) (is_home ∙ ap home_of is_hash)

  none_before : (at : ℕ) → h ≡ hash (key b r) → home ≡ home_of h → k ≡ key b r → n ≡ position_of home b r → n ≤ at → ((p : ℕ) → p < at → IsAt first key home k p → ⊥)
      → IsTrue false ↔ StandsBefore first key hash b r
  none_before at is_hash is_home is_key is_end all none = (
    λ is. absurd (false≢true is),
    λ stands. absurd (none stands.position (below_end _ n _ (subst (λ (m : ℕ). stands.position < m) (sym (end_is is_hash is_home is_end)) stands.before) all)
        (subst (λ (x : ℕ). IsAt first key x k stands.position) (sym (is_home ∙ ap home_of is_hash)) (subst (λ (x : ℕ). IsAt first key (own_home key hash b r) x stands.position) (sym is_key) stands.is_at))),
  )

  one_before : (at : ℕ) (found : Bool) → h ≡ hash (key b r) → home ≡ home_of h → k ≡ key b r → n ≡ position_of home b r → at < n → (IsTrue found ↔ IsAt first key home k at) → found ≡ true
      → IsTrue true ↔ StandsBefore first key hash b r
  one_before at found is_hash is_home is_key is_end low says is = (
    λ _. record {
      position = at;
      before = subst (λ (m : ℕ). at < m) (end_is is_hash is_home is_end) low;
      is_at = subst (λ (x : ℕ). IsAt first key (own_home key hash b r) x at) is_key (subst (λ (x : ℕ). IsAt first key x k at) (is_home ∙ ap home_of is_hash) (says.0 is));
    },
    λ _. refl,
  )

pub returns-then-is_at : goal.returns-then-is_at
returns-then-is_at c =
    one_before _ _ _ _ _ _ _ _ _ _ _ c.hash.ensures c.home-home.ensures.of c.key-key.ensures c.position_of-position-end.ensures.is c.loop-position-test.true c.is_at.ensures c.if-is_at.true

pub returns : goal.returns
returns c =
    none_before _ _ _ _ _ _ _ _ _ _ c.hash.ensures c.home-home.ensures.of c.key-key.ensures c.position_of-position-end.ensures.is c.loop-position-test.false c.loop-position.invariant
