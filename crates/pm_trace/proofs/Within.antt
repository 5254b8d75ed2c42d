-- A device stays whole: its flushes are of lines of the image by its callers, 8 of each at most, and there is room.
use Rattle.std.proofs.Common.{◌≡◌, ℕ, ◌+◌, ◌*◌, ◌<◌, ◌≤◌, inl, inr, Bool, not, cond, eqb, List, [], ◌∷◌, ◌++◌, length, filter, sym, ◌∙◌, ap, subst, arith}
use Rattle.std.specs.Prelude.{All}
use Rattle.std.proofs.lemmas.Bool.{cases_eq, eq-eqb, ne_eqb}
use Rattle.std.proofs.lemmas.List.{length-append}
use Rattle.std.proofs.lemmas.List.Elements.{All-append, All-filter, filter-append}
use Rattle.image_layout.specs.Places.{Shape}
use Rattle.trace.specs.Listed.{Has}
use Rattle.pm_trace.specs.declared.flushes.Flush.{Flush}
use Rattle.pm_trace.specs.Memory.{IsLine, flushes_of}
use Rattle.pm_trace.specs.FlushLists.{is_of, added, renewed_by, left_by, IsFlush}
use Rattle.pm_trace.proofs.Elements.{all_of_has, has_of_all, filter_has, filter_fewer}
use Rattle.pm_trace.proofs.Renews.{renewed_from, renewed_eight, renewed_count}
use Rattle.pm_trace.proofs.Settles.{Fits}
use Rattle.pm_trace.proofs.Room.{few_in_all}

-- one flush has its caller alone
one_of : (c : ℕ) (new : Flush) → length (flushes_of c (new ∷ [])) ≤ 1
one_of c new =
    let P : Bool → Type 0 = λ b. length {A = Flush} (cond b (new ∷ []) []) ≤ 1 in
    elim (cases_eq new.caller c) [
      | inl e ↦ subst P (sym (eq-eqb new.caller c e)) (omega arith)
      | inr n ↦ subst P (sym (ne_eqb new.caller c n)) (omega arith)
    ]

none_of : (c : ℕ) (new : Flush) → (new.caller ≡ c → ⊥) → length (flushes_of c (new ∷ [])) ≡ 0
none_of c new n = ap (λ b. length {A = Flush} (cond b (new ∷ []) [])) (ne_eqb new.caller c n)

module _ (shape : Shape) (callers : ℕ) (flushes : List Flush) (fit : All (IsFlush shape callers) flushes)
    (few : (c : ℕ) → length (flushes_of c flushes) ≤ 8) where
  -- ---- one more
  module _ (new : Flush) (is_flush : IsFlush shape callers new) (room : length (flushes_of new.caller flushes) < 8) where
    pub added_fit : All (IsFlush shape callers) (added new flushes)
    added_fit =
        All-append (IsFlush shape callers) (filter (λ f. not (is_of new.caller new.line f)) flushes) (new ∷ [])
        (All-filter (λ f. not (is_of new.caller new.line f)) (IsFlush shape callers) flushes fit)
        (all_of_has (IsFlush shape callers) (new ∷ []) (λ f h. elim h [ inl e ↦ subst (IsFlush shape callers) (sym e) is_flush | inr q ↦ absurd q ]))

    with_new : (c : ℕ) → length (flushes_of c flushes) + length (flushes_of c (new ∷ [])) ≤ 8
    with_new c = elim (cases_eq new.caller c) [
      | inl e ↦ let r : length (flushes_of c flushes) < 8 = subst (λ d. length (flushes_of d flushes) < 8) e room in
          omega (arith, one_of c new)
      | inr n ↦ omega (arith, few c, none_of c new n)
    ]

    pub added_few : (c : ℕ) → length (flushes_of c (added new flushes)) ≤ 8
    added_few c =
        let old : List Flush = filter (λ f. not (is_of new.caller new.line f)) flushes in
        let parts : length (flushes_of c (added new flushes)) ≡ length (flushes_of c old) + length (flushes_of c (new ∷ [])) =
        ap length (filter-append (λ (f : Flush). eqb f.caller c) old (new ∷ [])) ∙ length-append (flushes_of c old) (flushes_of c (new ∷ [])) in
        let fewer : length (flushes_of c old) ≤ length (flushes_of c flushes) = filter_fewer (λ (f : Flush). eqb f.caller c) (λ f. not (is_of new.caller new.line f)) flushes in
        let all : length (flushes_of c flushes) + length (flushes_of c (new ∷ [])) ≤ 8 = with_new c in
        omega arith

    -- all with the new one are no more than there is room for
    pub room_for_one : length flushes < 8 * (callers + 1)
    room_for_one =
        let all : length (flushes ++ new ∷ []) ≤ 8 * (callers + 1) = few_in_all (callers + 1) (flushes ++ new ∷ [])
        (λ f h. let k : IsFlush shape callers f = has_of_all (IsFlush shape callers) (flushes ++ new ∷ [])
        (All-append (IsFlush shape callers) flushes (new ∷ []) fit
        (all_of_has (IsFlush shape callers) (new ∷ []) (λ g q. elim q [ inl e ↦ subst (IsFlush shape callers) (sym e) is_flush | inr z ↦ absurd z ]))) f h in
        omega (arith, k.1))
        (λ c. let parts : length (flushes_of c (flushes ++ new ∷ [])) ≡ length (flushes_of c flushes) + length (flushes_of c (new ∷ [])) =
        ap length (filter-append (λ (f : Flush). eqb f.caller c) flushes (new ∷ [])) ∙ length-append (flushes_of c flushes) (flushes_of c (new ∷ [])) in
        omega (arith, with_new c)) in
        let longer : length (flushes ++ new ∷ []) ≡ length flushes + 1 = length-append flushes (new ∷ []) in
        omega arith

  -- ---- those that a fence leaves
  pub left_fit : (caller : ℕ) → All (IsFlush shape callers) (left_by caller flushes)
  left_fit caller = all_of_has (IsFlush shape callers) (left_by caller flushes) (λ g h.
      let k : Has g (renewed_by caller flushes) = (filter_has (λ (f : Flush). not (eqb f.caller caller)) g (renewed_by caller flushes) h).0 in
      let r = renewed_from caller flushes g k in
      let was : IsFlush shape callers r.0 = has_of_all (IsFlush shape callers) flushes fit r.0 r.1 in (
        subst (λ l. IsLine shape l) r.2.1 was.0,
        subst (λ d. d ≤ callers) r.2.0 was.1,
        renewed_eight caller flushes (λ f q. (has_of_all (IsFlush shape callers) flushes fit f q).2) g k,
      ))

  pub left_few : (caller c : ℕ) → length (flushes_of c (left_by caller flushes)) ≤ 8
  left_few caller c =
      omega (arith, filter_fewer (λ (f : Flush). eqb f.caller c) (λ f. not (eqb f.caller caller)) (renewed_by caller flushes), renewed_count caller c flushes, few c)

  -- each line fits into as many words as the image has, or more
  pub lines_fit : (count : ℕ) → ((l : ℕ) → IsLine shape l → 8 * l + 8 ≤ count) → (f : Flush) → Has f flushes → Fits count f
  lines_fit count within f h =
      let k : IsFlush shape callers f = has_of_all (IsFlush shape callers) flushes fit f h in
      (within f.line k.0, k.2)
