-- The weave of one caller's replies is their own order.
use Rattle.std.proofs.Common.{◌≡◌, ◌≢◌, ℕ, zero, suc, ◌<◌, ◌≤◌, ◌&&◌, not, eqb, ltb, Bool, true, false, cond, List, [], ◌∷◌, ◌++◌, length, map, filter, inl, inr, refl, sym, ap, ◌∙◌, subst, arith, append-nil}
use Rattle.std.specs.List.{AllByRecursion}
use Rattle.std.proofs.lemmas.Bool.{cases_eq, cases_lt, eq-eqb, ne_eqb, lt-ltb, le-ltb, and_right}
use Rattle.map_model.specs.declared.call.Call.{Call}
use Rattle.map_model.specs.declared.entry.Entry.{Entry}
use Rattle.map_model.specs.Map.{Map}
use Rattle.map_model.specs.Weave.{loaded_at, drew_at, draws, at_place, weave_below, weave}
use Rattle.map_model.specs.Legal.{InOrder, IsPlace, IsLegal, AreReplies, seen_after}
use Rattle.session.specs.Callers.{history_of}
use Rattle.engine.specs.Core.{Caller, Core, told_of, run}
use Rattle.engine.specs.Laws.{opened, TurnsKeep, CallsAreScripts, TurnsAlone}

-- ---- one element of a filter
module _ (p : Entry → Bool) (x : Entry) (es : List Entry) where
  kept : p x ≡ true → filter p (x ∷ es) ≡ x ∷ filter p es
  kept passes = ap (λ b. cond b (x ∷ filter p es) (filter p es)) passes

  dropped : p x ≡ false → filter p (x ∷ es) ≡ filter p es
  dropped fails = ap (λ b. cond b (x ∷ filter p es) (filter p es)) fails

-- the tests of a place
abbrev here : ℕ → Entry → Bool
here n e = eqb e.place n

abbrev below : ℕ → Entry → Bool
below n e = ltb e.place n

-- ---- replies in order never go back
not_back : (b : Bool) (place m : ℕ) → m ≤ place → m ≤ cond b (suc place) place
not_back true place m le = omega (arith, le)
not_back false place m le = le

none_later : (p : Entry → Bool) (m serial seen : ℕ) (es : List Entry) → m ≤ seen → InOrder serial seen es → ((e : Entry) → m ≤ e.place → p e ≡ false) → filter p es ≡ []
none_later p m serial seen [] le order none = refl
none_later p m serial seen (x ∷ es) le order none =
    let later : m ≤ x.place = (let s = order.2 in omega (arith, le, s)) in
    dropped p x es (none x later) ∙ none_later p m (suc serial) (seen_after x) es (not_back x.drew x.place m later) order.3 none

module _ (n : ℕ) where
  loaded_elsewhere : (e : Entry) → e.place ≢ n → loaded_at n e ≡ false
  loaded_elsewhere e other = and_right (not e.drew) (eqb e.place n) (ne_eqb e.place n other)

  drew_elsewhere : (e : Entry) → e.place ≢ n → drew_at n e ≡ false
  drew_elsewhere e other = and_right e.drew (eqb e.place n) (ne_eqb e.place n other)

  past : (e : Entry) → suc n ≤ e.place → e.place ≢ n
  past e le same = omega (arith, le, same)

  -- those at a place are first the loaded ones, and then the drawn one
  placed : (serial seen : ℕ) (es : List Entry) → InOrder serial seen es → at_place es n ≡ filter (here n) es
  placed serial seen [] order = refl
  placed serial seen (x ∷ es) order = elim (cases_eq x.place n) [
    | inl same ↦ by (placed (suc serial) (seen_after x) es order.3) x.drew refl same
    | inr other ↦ ap (λ fs. fs ++ filter (drew_at n) (x ∷ es)) (dropped (loaded_at n) x es (loaded_elsewhere x other))
        ∙ (ap (λ fs. filter (loaded_at n) es ++ fs) (dropped (drew_at n) x es (drew_elsewhere x other))
        ∙ (placed (suc serial) (seen_after x) es order.3 ∙ sym (dropped (here n) x es (ne_eqb x.place n other))))
  ]
    where
      at_n : (same : x.place ≡ n) → eqb x.place n ≡ true
      at_n same = eq-eqb x.place n same

      nothing : (p : Entry → Bool) → ((e : Entry) → e.place ≢ n → p e ≡ false) → x.drew ≡ true → x.place ≡ n → filter p es ≡ []
      nothing p none drew same =
          let seen_is : seen_after x ≡ suc n = ap (λ b. cond b (suc x.place) x.place) drew ∙ ap suc same in
          none_later p (suc n) (suc serial) (seen_after x) es (omega (arith, seen_is)) order.3 (λ e le. none e (past e le))

      by : at_place es n ≡ filter (here n) es → (b : Bool) → x.drew ≡ b → x.place ≡ n → at_place (x ∷ es) n ≡ filter (here n) (x ∷ es)
      by rest false loaded same =
          ap (λ fs. fs ++ filter (drew_at n) (x ∷ es)) (kept (loaded_at n) x es (ap (λ b. not b && eqb x.place n) loaded ∙ at_n same))
          ∙ (ap (λ fs. (x ∷ filter (loaded_at n) es) ++ fs) (dropped (drew_at n) x es (ap (λ b. b && eqb x.place n) loaded))
          ∙ (ap (λ fs. x ∷ fs) rest ∙ sym (kept (here n) x es (at_n same))))
      by rest true drew same =
          ap (λ fs. fs ++ filter (drew_at n) (x ∷ es)) (dropped (loaded_at n) x es (ap (λ b. not b && eqb x.place n) drew) ∙ nothing (loaded_at n) loaded_elsewhere drew same)
          ∙ (kept (drew_at n) x es (ap (λ b. b && eqb x.place n) drew ∙ at_n same)
          ∙ (ap (λ fs. x ∷ fs) (nothing (drew_at n) drew_elsewhere drew same ∙ sym (nothing (here n) (λ e other. ne_eqb e.place n other) drew same))
          ∙ sym (kept (here n) x es (at_n same))))

  -- those below a place and those at it are those below the next
  joined : (serial seen : ℕ) (es : List Entry) → InOrder serial seen es → filter (below n) es ++ filter (here n) es ≡ filter (below (suc n)) es
  joined serial seen [] order = refl
  joined serial seen (x ∷ es) order = elim (cases_lt x.place n) [
    | inl less ↦ ap (λ fs. fs ++ filter (here n) (x ∷ es)) (kept (below n) x es (lt-ltb x.place n less))
        ∙ (ap (λ fs. (x ∷ filter (below n) es) ++ fs) (dropped (here n) x es (ne_eqb x.place n (λ q. omega (arith, q, less))))
        ∙ (ap (λ fs. x ∷ fs) (joined (suc serial) (seen_after x) es order.3) ∙ sym (kept (below (suc n)) x es (lt-ltb x.place (suc n) (omega (arith, less))))))
    | inr more ↦ elim (cases_eq x.place n) [
      | inl same ↦ (let none : filter (below n) es ≡ [] = none_later (below n) n (suc serial) (seen_after x) es (not_back x.drew x.place n more) order.3 (λ e le. le-ltb e.place n le) in
          ap (λ fs. fs ++ filter (here n) (x ∷ es)) (dropped (below n) x es (le-ltb x.place n more) ∙ none)
          ∙ (kept (here n) x es (eq-eqb x.place n same)
          ∙ (ap (λ fs. x ∷ fs) (ap (λ fs. fs ++ filter (here n) es) (sym none) ∙ joined (suc serial) (seen_after x) es order.3)
          ∙ sym (kept (below (suc n)) x es (lt-ltb x.place (suc n) (omega (arith, same)))))))
      | inr other ↦ ap (λ fs. fs ++ filter (here n) (x ∷ es)) (dropped (below n) x es (le-ltb x.place n more))
          ∙ (ap (λ fs. filter (below n) es ++ fs) (dropped (here n) x es (ne_eqb x.place n other))
          ∙ (joined (suc serial) (seen_after x) es order.3 ∙ sym (dropped (below (suc n)) x es (le-ltb x.place (suc n) (omega (arith, more, other))))))
    ]
  ]

none_below : (es : List Entry) → [] ≡ filter (below 0) es
none_below [] = refl
none_below (x ∷ es) = none_below es ∙ sym (dropped (below 0) x es (le-ltb x.place 0 (omega arith)))

woven : (es : List Entry) (n : ℕ) → InOrder 1 0 es → weave_below es n ≡ filter (below n) es
woven es zero order = none_below es
woven es (suc n) order = ap (λ fs. fs ++ at_place es n) (woven es n order) ∙ (ap (λ fs. filter (below n) es ++ fs) (placed n 1 0 es order) ∙ joined n 1 0 es order)

place_within : (b : Bool) (place n : ℕ) → cond b (suc place) place ≤ n → place < suc n
place_within true place n le = omega (arith, le)
place_within false place n le = omega (arith, le)

all_below : (n : ℕ) (es : List Entry) → AllByRecursion (IsPlace n) es → filter (below (suc n)) es ≡ es
all_below n [] all = refl
all_below n (x ∷ es) all = kept (below (suc n)) x es (lt-ltb x.place (suc n) (place_within x.drew x.place n all.0)) ∙ ap (λ fs. x ∷ fs) (all_below n es all.1)

one_list : (opening : Map) (es : List Entry) → IsLegal opening (es ∷ []) → weave (es ∷ []) ≡ es
one_list opening es legal =
    ap (λ all. weave_below all (suc (draws all))) (append-nil es)
    ∙ (woven es (suc (draws es)) legal.callers.0 ∙ all_below (draws es) es (subst (λ all. AllByRecursion (IsPlace (draws all)) all) (append-nil es) legal.places))

-- THE REPLIES of one caller are, one after another, those of the plain map
right_alone : (opening : Map) (es : List Entry) → IsLegal opening (es ∷ []) → AreReplies opening es
right_alone opening es legal = subst (λ fs. AreReplies opening fs) (one_list opening es legal) legal.replies

-- ---- the core of one caller
by_callers : (opening : Map) (core : Core) (calls : List Call) (callers : List Caller) → map (λ (c : Caller). c.calls) callers ≡ calls ∷ []
    → IsLegal opening (map history_of (map told_of callers)) → (es : List Entry) × (map history_of (map told_of callers) ≡ es ∷ []) × AreReplies opening es
by_callers opening core calls [] is legal = absurd (let l = ap length is in omega (arith, l))
by_callers opening core calls (c ∷ []) is legal = (history_of (told_of c), refl, right_alone opening (history_of (told_of c)) legal)
by_callers opening core calls (c ∷ d ∷ callers) is legal = absurd (let l = ap length is in omega (arith, l))

pub turns_alone : TurnsKeep → CallsAreScripts → TurnsAlone
turns_alone keep are shape words image opening has calls all turns =
    let core = run shape turns (opened shape words (calls ∷ [])) in
    let good = keep shape words image opening has (calls ∷ []) (record { few = omega arith; words = (all, tt) }) turns in
    let r = by_callers opening core calls core.callers (are shape words (calls ∷ []) turns) good.legal in
    record { entries = r.0; only = r.1; replies = r.2 }
