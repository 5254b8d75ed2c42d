-- One more entry anywhere among all, at a place that the draws have reached, leaves the map at each earlier place, and every reply right.
use Rattle.std.proofs.Common.{◌≡◌, ℕ, zero, suc, ◌<◌, ◌≤◌, ◌+◌, Bool, true, false, cond, ◌&&◌, List, [], ◌∷◌, ◌++◌, length, refl, sym, ap, subst, ◌∙◌, arith, inl, inr}
use Rattle.std.specs.Prelude.{eqb}
use Rattle.std.proofs.lemmas.Bool.{eqb-true, and_parts}
use Rattle.std.proofs.lemmas.Bool.Decides.{eqb_tells}
use Rattle.std.specs.List.{filter, AllByRecursion}
use Rattle.map_model.specs.declared.entry.Entry.{Entry}
use Rattle.map_model.specs.Map.{Map, is_done, after}
use Rattle.map_model.specs.Weave.{draws, drew_at}
use Rattle.map_model.specs.Legal.{IsPlace, IsReplyOf, replay}
use Rattle.map_model.specs.ByPlaces.{draws_below, map_at, IsRightAtPlace}
use Rattle.map_model.proofs.Elements.{Has, All-at, All-from_each, Has-append_right, Has-insert_cases, Has-filter, Has-filter_parts, filter-insert_failing, length-filter-insert_passing}
use Rattle.map_model.proofs.Rows.{replay-append, after-quiet}
use Rattle.map_model.proofs.Places.{drew_here}

-- ---- places against the number of draws
pub place_within : (e : Entry) (count : ℕ) → IsPlace count e → e.place ≤ count
place_within e count = go e.drew
  where
    go : (b : Bool) → cond b (suc e.place) e.place ≤ count → e.place ≤ count
    go true h = omega arith
    go false h = h

nothing_in : (es : List Entry) → ((e : Entry) → Has es e → ⊥) → es ≡ []
nothing_in [] none = refl
nothing_in (e ∷ es) none = absurd (none e (inl refl))

only_one : (es : List Entry) (e : Entry) → length es ≡ 1 → Has es e → es ≡ e ∷ []
only_one [] e one h = absurd h
only_one (x ∷ []) e one h = elim h [ inl same ↦ ap (λ y. y ∷ []) same | inr later ↦ absurd later ]
only_one (x ∷ y ∷ es) e one h = absurd (omega arith)

-- nothing was drawn at the number of draws, or behind it
pub none_drew : (all : List Entry) (count n : ℕ) → AllByRecursion (IsPlace count) all → count ≤ n → filter (drew_at n) all ≡ []
none_drew all count n places behind = nothing_in (filter (drew_at n) all) (λ e h.
    let parts = Has-filter_parts (drew_at n) all e h in
    let drew = and_parts e.drew (eqb e.place n) parts.0 in
    let same = eqb-true e.place n drew.1 in
    let below = subst (λ b. cond b (suc e.place) e.place ≤ count) drew.0 (All-at (IsPlace count) all e places parts.1) in
    omega arith)

-- an entry at a place that so many draws have reached: one that drew has the next place
pub record IsReached (count : ℕ) (e : Entry) : Type 0 where
  pub within : e.place ≤ count
  pub next : e.drew ≡ true → e.place ≡ count

pub loaded-IsReached : (count : ℕ) (e : Entry) → e.drew ≡ false → e.place ≤ count → IsReached count e
loaded-IsReached count e loaded within = record { within = within; next = λ drew. absurd (cc) }

pub drawn-IsReached : (count : ℕ) (e : Entry) → e.place ≡ count → IsReached count e
drawn-IsReached count e next = record { within = omega arith; next = λ drew. next }

-- all entries of some lists, each right at its place
pub record AreRight (start : Map) (all : List Entry) : Type 0 where
  pub places : AllByRecursion (IsPlace (draws all)) all
  pub each_once : (n : ℕ) → n < draws all → length (filter (drew_at n) all) ≡ 1
  pub replies : AllByRecursion (IsRightAtPlace start all) all

module _ (before behind : List Entry) (e : Entry) where
  abbrev old : List Entry
  old = before ++ behind

  abbrev new : List Entry
  new = before ++ e ∷ behind

  pub draws-one_more : draws new ≡ draws old + cond e.drew 1 0
  draws-one_more =
      elim e.drew as (λ b. e.drew ≡ b → draws new ≡ draws old + cond b 1 0) [
        | true ↦ λ drew. omega (arith, length-filter-insert_passing (λ x. x.drew) before behind e drew)
        | false ↦ λ loaded. omega (arith, ap length (filter-insert_failing (λ x. x.drew) before behind e loaded))
      ] refl

  module _ (reached : IsReached (draws old) e) where
    -- it drew no place below the number of draws
    drew_no_earlier : (n : ℕ) → n < draws old → drew_at n e ≡ false
    drew_no_earlier n below =
        elim e.drew as (λ b. e.drew ≡ b → (b && eqb e.place n) ≡ false) [
          | true ↦ λ drew. (let place = reached.next drew in elim (eqb_tells e.place n) [ inl same ↦ absurd (omega arith) | inr other ↦ other.0 ])
          | false ↦ λ loaded. refl
        ] refl

    draws_below-one_more : (n : ℕ) → n ≤ draws old → draws_below new n ≡ draws_below old n
    draws_below-one_more zero below = refl
    draws_below-one_more (suc n) below =
        ap (λ es. es ++ filter (drew_at n) new) (draws_below-one_more n (omega arith))
        ∙ ap (λ es. draws_below old n ++ es) (filter-insert_failing (drew_at n) before behind e (drew_no_earlier n (omega arith)))

    -- the map at each place up to the old number of draws is what it was
    pub map_at-one_more : (start : Map) (n : ℕ) → n ≤ draws old → map_at start new n ≡ map_at start old n
    map_at-one_more start n below = ap (replay start) (draws_below-one_more n below)

    pub places-one_more : AllByRecursion (IsPlace (draws old)) old → AllByRecursion (IsPlace (draws new)) new
    places-one_more places = All-from_each (IsPlace (draws new)) new (λ x h. elim (Has-insert_cases before behind e x h) [
      | inl same ↦ subst (IsPlace (draws new)) same (itself e.drew refl)
      | inr earlier ↦ (let place = All-at (IsPlace (draws old)) old x places earlier in omega (arith, draws-one_more))
    ])
      where
        itself : (b : Bool) → e.drew ≡ b → IsPlace (draws new) e
        itself true drew = subst (λ b. cond b (suc e.place) e.place ≤ draws new) (sym drew) (let last = draws-one_more ∙ ap (λ b. draws old + cond b 1 0) drew in omega (arith, reached.next drew))
        itself false loaded = subst (λ b. cond b (suc e.place) e.place ≤ draws new) (sym loaded) (omega (arith, draws-one_more, reached.within))

    each_once-one_more : AllByRecursion (IsPlace (draws old)) old → ((n : ℕ) → n < draws old → length (filter (drew_at n) old) ≡ 1)
        → (n : ℕ) → n < draws new → length (filter (drew_at n) new) ≡ 1
    each_once-one_more places once n below =
        elim (drew_at n e) as (λ b. drew_at n e ≡ b → length (filter (drew_at n) new) ≡ 1) [
          | true ↦ λ here.
              let drew = and_parts e.drew (eqb e.place n) here in
              let place = reached.next drew.0 ∙ refl in
              let same = eqb-true e.place n drew.1 in
              length-filter-insert_passing (drew_at n) before behind e here ∙ ap (λ es. suc (length es)) (none_drew old (draws old) n places (omega arith))
          | false ↦ λ elsewhere. ap length (filter-insert_failing (drew_at n) before behind e elsewhere) ∙ once n (earlier e.drew refl elsewhere)
        ] refl
      where
        earlier : (b : Bool) → e.drew ≡ b → (e.drew && eqb e.place n) ≡ false → n < draws old
        earlier true drew elsewhere =
            let last = draws-one_more ∙ ap (λ b. draws old + cond b 1 0) drew in
            let other = subst (λ b. (b && eqb e.place n) ≡ false) drew elsewhere in
            elim (eqb_tells e.place n) [ inl same ↦ (let first = same.0 in absurd (cc)) | inr apart ↦ omega (arith, apart.1, reached.next drew) ]
        earlier false loaded elsewhere = let last = draws-one_more ∙ ap (λ b. draws old + cond b 1 0) loaded in omega arith

    -- right as they were, and the new one at its place: all are right
    pub AreRight-one_more : (start : Map) → AreRight start old → IsReplyOf (map_at start old e.place) e.call e.reply → AreRight start new
    AreRight-one_more start right reply = record {
      places = places-one_more right.places;
      each_once = each_once-one_more right.places right.each_once;
      replies = All-from_each (IsRightAtPlace start new) new (λ x h. elim (Has-insert_cases before behind e x h) [
        | inl same ↦ subst (IsRightAtPlace start new) same (moved e reached.within reply)
        | inr earlier ↦ moved x (place_within x (draws old) (All-at (IsPlace (draws old)) old x right.places earlier)) (All-at (IsRightAtPlace start old) old x right.replies earlier)
      ]);
    }
      where
        moved : (x : Entry) → x.place ≤ draws old → IsRightAtPlace start old x → IsRightAtPlace start new x
        moved x within r = subst (λ m. IsReplyOf m x.call x.reply) (sym (map_at-one_more start x.place within)) r

    -- after all draws, the map is what the new entry makes of the one before
    pub map_at-all_draws : (start : Map) → AllByRecursion (IsPlace (draws old)) old → ((n : ℕ) → n < draws old → length (filter (drew_at n) old) ≡ 1) → e.drew ≡ is_done e.reply
        → map_at start new (draws new) ≡ after (map_at start old (draws old)) e.call e.reply
    map_at-all_draws start places once drew_for_change =
        elim e.drew as (λ b. e.drew ≡ b → map_at start new (draws new) ≡ after (map_at start old (draws old)) e.call e.reply) [
          | true ↦ λ drew.
              let count : draws new ≡ suc (draws old) = omega (arith, draws-one_more ∙ ap (λ b. draws old + cond b 1 0) drew) in
              let place = reached.next drew in
              let here : drew_at (draws old) e ≡ true = subst (λ n. drew_at n e ≡ true) place (drew_here e drew) in
              let it : filter (drew_at (draws old)) new ≡ e ∷ [] =
              only_one (filter (drew_at (draws old)) new) e (each_once-one_more places once (draws old) (omega arith))
              (Has-filter (drew_at (draws old)) new e here (Has-append_right before (e ∷ behind) e (inl refl))) in
              ap (map_at start new) count
              ∙ replay-append start (draws_below new (draws old)) (filter (drew_at (draws old)) new)
              ∙ ap (replay (map_at start new (draws old))) it
              ∙ ap (λ m. after m e.call e.reply) (map_at-one_more start (draws old) (omega arith))
          | false ↦ λ loaded.
              let count : draws new ≡ draws old = omega (arith, draws-one_more ∙ ap (λ b. draws old + cond b 1 0) loaded) in
              ap (map_at start new) count
              ∙ map_at-one_more start (draws old) (omega arith)
              ∙ sym (after-quiet (map_at start old (draws old)) e (sym drew_for_change ∙ loaded))
        ] refl
