-- Each test is true where what it tests holds.
use Rattle.std.proofs.Common.{◌≡◌, ◌≢◌, ℕ, zero, suc, ◌+◌, ◌<◌, cond, bit_or, add-one, lit<, ◌⊎◌, ◌↔◌, Bool, true, false, not, ◌==◌, ◌&&◌, ◌||◌, refl, sym, ◌∙◌, subst, inl, inr, arith}
use Rattle.std.proofs.lemmas.Bool.{cases_eq, eqb-true, eq-eqb}
use Rattle.bucket_meta.specs.Bucket.{allocated, member}
use Rattle.bucket_meta.specs.Slots.{IsFull, HasOnlyMembers, HasNoMembers}
use Rattle.hash_word.specs.Hash.{probing_of, next_of, previous_of, top}
use Rattle.word_bits.specs.Bits.{bit, mask}
use Rattle.std.proofs.lemmas.Nat.Bits.{bit_at-lt, same_from_bits_below}
use Rattle.whole_segment.specs.Slots.{IsSetOf, set_below, set_of}
use Rattle.whole_segment.specs.Records.{IsCovered, is_covered, covered_set}
use Rattle.whole_segment.specs.Order.{bucket_in_order, slot_at, IsAt, is_at, is_below, StandsBefore, stands_before, own_home, own_position}
use Rattle.whole_segment.specs.Mending.{IsSpoiled, is_spoiled, spoiled_set}
use Rattle.whole_segment.specs.Room.{HasNoRoom, all_below, is_full, has_only_members, has_no_members, is_crowded, nothing_moves, has_no_room}
use Rattle.whole_segment.proofs.marking.Sets.{IsSetBelow, none_yet, one_more, no_more, whole_set}

-- a test that is true exactly where P holds
abbrev pub Tells : Bool → Type 0 → Type 0
Tells b P = (b ≡ true) ↔ P

-- two tests of one thing are one
pub same_test : (a b : Bool) (P : Type 0) → Tells a P → Tells b P → a ≡ b
same_test true true P x y = refl
same_test true false P x y = sym (y.1 (x.0 refl))
same_test false true P x y = x.1 (y.0 refl)
same_test false false P x y = refl

-- ---- tests of two
both : (a b : Bool) (P Q : Type 0) → Tells a P → Tells b Q → Tells (a && b) (P × Q)
both true b P Q x y = (λ e. (x.0 refl, y.0 e), λ h. y.1 h.1)
both false b P Q x y = (λ e. absurd (cc), λ h. x.1 h.0)

either : (a b : Bool) (P Q : Type 0) → Tells a P → Tells b Q → Tells (a || b) (P ⊎ Q)
either true b P Q x y = (λ _. inl (x.0 refl), λ _. refl)
either false b P Q x y = (λ e. inr (y.0 e), λ h. by h)
  where
    by : P ⊎ Q → b ≡ true
    by (inl p) = absurd (let e = x.1 p in cc)
    by (inr q) = y.1 q

neither : (a : Bool) (P : Type 0) → Tells a P → Tells (not a) (P → ⊥)
neither true P x = (λ e. absurd (cc), λ h. absurd (h (x.0 refl)))
neither false P x = (λ _ p. absurd (let e = x.1 p in cc), λ _. refl)

implied : (a b : Bool) (P Q : Type 0) → Tells a P → Tells b Q → Tells (not a || b) (P → Q)
implied true b P Q x y = (λ e _. y.0 e, λ h. y.1 (h (x.0 refl)))
implied false b P Q x y = (λ _ p. absurd (let e = x.1 p in cc), λ _. refl)

equal : (m n : ℕ) → Tells (m == n) (m ≡ n)
equal m n = (eqb-true m n, eq-eqb m n)

alike : (b : Bool) (P Q : Type 0) → (P → Q) → (Q → P) → Tells b P → Tells b Q
alike b P Q there back x = (λ e. there (x.0 e), λ q. x.1 (back q))

-- ---- sets
module _ (test : ℕ → Bool) (P : ℕ → Type 0) (tells : (r : ℕ) → Tells (test r) (P r)) where
  set_more : (n : ℕ) (b : Bool) → test n ≡ b → n < 14 → IsSetBelow P n (set_below test n)
      → IsSetBelow P (n + 1) (cond b (bit_or (set_below test n) (mask n)) (set_below test n))
  set_more n true e low before = one_more P n (set_below test n) low before ((tells n).0 e)
  set_more n false e low before = no_more P n (set_below test n) low before (λ p. absurd (let yes = (tells n).1 p in cc))

  made_below : (n : ℕ) → n < 15 → IsSetBelow P n (set_below test n)
  unfolding set_below
  made_below zero low = none_yet P
  made_below (suc n) low =
      subst (λ m. IsSetBelow P m (set_below test (suc n))) (add-one n) (set_more n (test n) refl (omega (arith, low)) (made_below n (omega (arith, low))))

  pub set_is : IsSetOf P (set_of test)
  set_is = whole_set P 14 (set_below test 14) refl (made_below 14 (lit< tt))

pub sets_agree : (P : ℕ → Type 0) (a b : ℕ) → IsSetOf P a → IsSetOf P b → a ≡ b
sets_agree P a b of_a of_b = same_from_bits_below 14 a b of_a.within of_b.within (λ r low. by r low)
  where
    by : (r : ℕ) → r < 14 → bit r a ≡ bit r b
    by r low = elim (cases_eq (bit r a) 1) [
      | inl on ↦ on ∙ sym ((of_b.each r low).1 ((of_a.each r low).0 on))
      | inr off ↦
          let not_b : bit r b ≢ 1 = λ on. off ((of_a.each r low).1 ((of_b.each r low).0 on)) in
          omega (arith, bit_at-lt a r, bit_at-lt b r, off, not_b)
    ]

-- ---- what a segment covers
pub tells_covered : (first : ℕ → ℕ) (key : ℕ → ℕ → ℕ) (hash : ℕ → ℕ) (depth pattern b r : ℕ)
    → Tells (is_covered first key hash depth pattern b r) (IsCovered first key hash depth pattern b r)
tells_covered first key hash depth pattern b r =
    let taken = allocated r (first b) in
    let index = top depth (hash (key b r)) in
    alike (is_covered first key hash depth pattern b r) ((taken ≡ 1) × (index ≡ pattern)) (IsCovered first key hash depth pattern b r)
    (λ h. record { taken = h.0; covers = h.1 }) (λ c. (c.taken, c.covers)) (both (taken == 1) (index == pattern) (taken ≡ 1) (index ≡ pattern) (equal taken 1) (equal index pattern))

-- ---- where a key stands before
module _ (first : ℕ → ℕ) (key : ℕ → ℕ → ℕ) where
  tells_at : (home k p : ℕ) → Tells (is_at first key home k p) (IsAt first key home k p)
  tells_at home k p =
      let taken = allocated (slot_at p) (first (bucket_in_order home p)) in
      let found = key (bucket_in_order home p) (slot_at p) in
      alike (is_at first key home k p) ((taken ≡ 1) × (found ≡ k)) (IsAt first key home k p)
      (λ h. record { taken = h.0; has_key = h.1 }) (λ a. (a.taken, a.has_key)) (both (taken == 1) (found == k) (taken ≡ 1) (found ≡ k) (equal taken 1) (equal found k))

  abbrev IsSome : ℕ → ℕ → ℕ → Type 0
  IsSome home k n = (p : ℕ) × (p < n) × IsAt first key home k p

  tells_below : (home k n : ℕ) → Tells (is_below first key home k n) (IsSome home k n)
  unfolding is_below
  tells_below home k zero = (λ e. absurd (cc), λ some. absurd (omega (arith, some.1)))
  tells_below home k (suc n) =
      alike (is_at first key home k n || is_below first key home k n) (IsAt first key home k n ⊎ IsSome home k n) (IsSome home k (suc n))
      (here_or_below home k n) (here_or_not home k n)
      (either (is_at first key home k n) (is_below first key home k n) (IsAt first key home k n) (IsSome home k n) (tells_at home k n) (tells_below home k n))
    where
      here_or_below : (home k n : ℕ) → IsAt first key home k n ⊎ IsSome home k n → IsSome home k (suc n)
      here_or_below home k n (inl at) = (n, omega arith, at)
      here_or_below home k n (inr some) = (some.0, omega (arith, some.1), some.2)

      here_or_not : (home k n : ℕ) → IsSome home k (suc n) → IsAt first key home k n ⊎ IsSome home k n
      here_or_not home k n some = elim (cases_eq some.0 n) [
        | inl same ↦ inl (subst (λ p. IsAt first key home k p) same some.2)
        | inr apart ↦ inr (some.0, omega (arith, some.1, apart), some.2)
      ]

  pub tells_before : (hash : ℕ → ℕ) (b r : ℕ) → Tells (stands_before first key hash b r) (StandsBefore first key hash b r)
  tells_before hash b r =
      alike (stands_before first key hash b r) (IsSome (own_home key hash b r) (key b r) (own_position key hash b r)) (StandsBefore first key hash b r)
      (λ some. record { position = some.0; before = some.1; is_at = some.2 }) (λ s. (s.position, s.before, s.is_at))
      (tells_below (own_home key hash b r) (key b r) (own_position key hash b r))

pub tells_spoiled : (first : ℕ → ℕ) (key : ℕ → ℕ → ℕ) (hash : ℕ → ℕ) (depth pattern b r : ℕ)
    → Tells (is_spoiled first key hash depth pattern b r) (IsSpoiled first key hash depth pattern b r)
tells_spoiled first key hash depth pattern b r =
    let taken = allocated r (first b) in
    let index = top depth (hash (key b r)) in
    let Foreign : Type 0 = index ≡ pattern → ⊥ in
    let Before : Type 0 = StandsBefore first key hash b r in
    alike (is_spoiled first key hash depth pattern b r) ((taken ≡ 1) × (Foreign ⊎ Before)) (IsSpoiled first key hash depth pattern b r)
    (λ h. record { taken = h.0; why = h.1 }) (λ s. (s.taken, s.why))
    (both (taken == 1) (not (index == pattern) || stands_before first key hash b r) (taken ≡ 1) (Foreign ⊎ Before) (equal taken 1)
    (either (not (index == pattern)) (stands_before first key hash b r) Foreign Before (neither (index == pattern) (index ≡ pattern) (equal index pattern))
    (tells_before first key hash b r)))

-- ---- room
abbrev All : (ℕ → Type 0) → ℕ → Type 0
All P n = (r : ℕ) → r < n → P r

module _ (test : ℕ → Bool) (P : ℕ → Type 0) (tells : (r : ℕ) → Tells (test r) (P r)) where
  all_more : (n : ℕ) → P n × All P n → All P (suc n)
  all_more n h r low = elim (cases_eq r n) [ inl same ↦ subst P (sym same) h.0 | inr apart ↦ h.1 r (omega (arith, low, apart)) ]

  tells_all : (n : ℕ) → Tells (all_below test n) (All P n)
  unfolding all_below
  tells_all zero = (λ _ r low. absurd (omega (arith, low)), λ _. refl)
  tells_all (suc n) =
      alike (test n && all_below test n) (P n × All P n) (All P (suc n)) (all_more n) (λ all. (all n (omega arith), λ r low. all r (omega (arith, low))))
      (both (test n) (all_below test n) (P n) (All P n) (tells n) (tells_all n))

pub tells_full : (w1 : ℕ) → Tells (is_full w1) (IsFull w1)
tells_full w1 = tells_all (λ r. allocated r w1 == 1) (λ r. allocated r w1 ≡ 1) (λ r. equal (allocated r w1) 1) 14

tells_members : (w1 : ℕ) → Tells (has_only_members w1) (HasOnlyMembers w1)
tells_members w1 =
    tells_all (λ r. not (allocated r w1 == 1) || (member r w1 == 1)) (λ r. allocated r w1 ≡ 1 → member r w1 ≡ 1)
    (λ r. implied (allocated r w1 == 1) (member r w1 == 1) (allocated r w1 ≡ 1) (member r w1 ≡ 1) (equal (allocated r w1) 1) (equal (member r w1) 1)) 14

tells_no_members : (w1 : ℕ) → Tells (has_no_members w1) (HasNoMembers w1)
tells_no_members w1 =
    tells_all (λ r. not (allocated r w1 == 1) || (member r w1 == 0)) (λ r. allocated r w1 ≡ 1 → member r w1 ≡ 0)
    (λ r. implied (allocated r w1 == 1) (member r w1 == 0) (allocated r w1 ≡ 1) (member r w1 ≡ 0) (equal (allocated r w1) 1) (equal (member r w1) 0)) 14

pub tells_room : (first : ℕ → ℕ) (home : ℕ) → Tells (has_no_room first home) (HasNoRoom first home)
tells_room first home =
    let own = first home in
    let probing = first (probing_of home) in
    let next = first (next_of home) in
    let previous = first (previous_of home) in
    let stash = first 64 in
    let last = first 65 in
    let crowded = both (is_full own) (is_full probing && (is_full stash && is_full last)) (IsFull own) (IsFull probing × (IsFull stash × IsFull last)) (tells_full own)
    (both (is_full probing) (is_full stash && is_full last) (IsFull probing) (IsFull stash × IsFull last) (tells_full probing)
    (both (is_full stash) (is_full last) (IsFull stash) (IsFull last) (tells_full stash) (tells_full last))) in
    let On : Type 0 = HasOnlyMembers probing ⊎ IsFull next in
    let Back : Type 0 = HasNoMembers own ⊎ IsFull previous in
    let moves = both (has_only_members probing || is_full next) (has_no_members own || is_full previous) On Back
    (either (has_only_members probing) (is_full next) (HasOnlyMembers probing) (IsFull next) (tells_members probing) (tells_full next))
    (either (has_no_members own) (is_full previous) (HasNoMembers own) (IsFull previous) (tells_no_members own) (tells_full previous)) in
    alike (has_no_room first home) ((IsFull own × (IsFull probing × (IsFull stash × IsFull last))) × (On × Back)) (HasNoRoom first home)
    (λ h. record { crowded = record { own = h.0.0; probing = h.0.1.0; stash = h.0.1.1.0; last = h.0.1.1.1 }; moves = record { forward = h.1.0; backward = h.1.1 } })
    (λ room. ((room.crowded.own, (room.crowded.probing, (room.crowded.stash, room.crowded.last))), (room.moves.forward, room.moves.backward)))
    (both (is_crowded first home) (nothing_moves first home) (IsFull own × (IsFull probing × (IsFull stash × IsFull last))) (On × Back) crowded moves)

-- ---- the sets of those that pass
pub covered_is : (first : ℕ → ℕ) (key : ℕ → ℕ → ℕ) (hash : ℕ → ℕ) (depth pattern b : ℕ)
    → IsSetOf (IsCovered first key hash depth pattern b) (covered_set first key hash depth pattern b)
covered_is first key hash depth pattern b =
    set_is (is_covered first key hash depth pattern b) (IsCovered first key hash depth pattern b) (tells_covered first key hash depth pattern b)

pub spoiled_is : (first : ℕ → ℕ) (key : ℕ → ℕ → ℕ) (hash : ℕ → ℕ) (depth pattern b : ℕ)
    → IsSetOf (IsSpoiled first key hash depth pattern b) (spoiled_set first key hash depth pattern b)
spoiled_is first key hash depth pattern b =
    set_is (is_spoiled first key hash depth pattern b) (IsSpoiled first key hash depth pattern b) (tells_spoiled first key hash depth pattern b)
