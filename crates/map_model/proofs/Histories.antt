-- A history is legal along its weave exactly where it is legal by places, and one more entry of one caller keeps it so.
use Rattle.std.proofs.Common.{◌≡◌, ℕ, suc, ◌<◌, ◌≤◌, ◌+◌, true, false, List, [], ◌∷◌, ◌++◌, length, sym, ap, subst, ◌∙◌, arith, inl, inr, append_assoc, append-nil}
use Rattle.std.proofs.lemmas.Bool.Decides.{eqb_tells}
use Rattle.std.proofs.lemmas.Grind.{flat_map-append}
use Rattle.std.specs.List.{filter, AllByRecursion}
use Rattle.map_model.specs.declared.entry.Entry.{Entry}
use Rattle.map_model.specs.Map.{Map, is_done, after}
use Rattle.map_model.specs.Weave.{all_of, draws, drew_at, weave}
use Rattle.map_model.specs.Legal.{IsReplyOf, replay, InOrder, IsPlace, IsLegal, IsNext, seen_of, seen_after}
use Rattle.map_model.specs.ByPlaces.{draws_below, map_at, IsLegalByPlaces}
use Rattle.map_model.specs.Laws.{KeepsMaps}
use Rattle.map_model.proofs.Elements.{All-at, All-from_each, Has-append_cases}
use Rattle.map_model.proofs.Rows.{MayAnswer}
use Rattle.map_model.proofs.Places.{DrewForChange, replay-weave_below, AreReplies-weave_below, weave_below-AreReplies, All-from_places, All-at_place}
use Rattle.map_model.proofs.OneMore.{place_within, none_drew, IsReached, loaded-IsReached, drawn-IsReached, AreRight, map_at-one_more, places-one_more, AreRight-one_more, map_at-all_draws}

-- ---- all entries of callers that are each in order
InOrder-drew : (serial seen : ℕ) (es : List Entry) → InOrder serial seen es → AllByRecursion DrewForChange es
InOrder-drew serial seen [] order = tt
InOrder-drew serial seen (e ∷ es) order = (order.1, InOrder-drew (suc serial) (seen_after e) es order.3)

InOrder-drew_all : (lists : List (List Entry)) → AllByRecursion (InOrder 1 0) lists → AllByRecursion DrewForChange (all_of lists)
InOrder-drew_all [] order = tt
InOrder-drew_all (es ∷ lists) order = All-from_each DrewForChange (all_of (es ∷ lists)) (λ e h. elim (Has-append_cases es (all_of lists) e h) [
  | inl mine ↦ All-at DrewForChange es e (InOrder-drew 1 0 es order.0) mine
  | inr other ↦ All-at DrewForChange (all_of lists) e (InOrder-drew_all lists order.1) other
])

-- no place up to the number of draws was drawn twice
drawn_once : (all : List Entry) → AllByRecursion (IsPlace (draws all)) all → ((n : ℕ) → n < draws all → length (filter (drew_at n) all) ≡ 1)
    → (n : ℕ) → n < suc (draws all) → length (filter (drew_at n) all) ≤ 1
drawn_once all places once n below = elim (eqb_tells n (draws all)) [
  | inl same ↦ omega (arith, ap length (none_drew all (draws all) n places (omega arith)))
  | inr earlier ↦ omega (arith, once n (omega arith))
]

module _ (start : Map) (lists : List (List Entry)) where
  abbrev all : List Entry
  all = all_of lists

  pub by_places : IsLegal start lists → IsLegalByPlaces start lists
  by_places legal = record {
    callers = legal.callers;
    places = legal.places;
    each_once = legal.each_once;
    replies = All-from_places (λ n. MayAnswer (map_at start all n)) all (suc (draws all))
        (All-from_each (λ e. e.place < suc (draws all)) all (λ e h. let within = place_within e (draws all) (All-at (IsPlace (draws all)) all e legal.places h) in omega arith))
        (weave_below-AreReplies start all (InOrder-drew_all lists legal.callers) (suc (draws all)) (drawn_once all legal.places legal.each_once) legal.replies);
  }

  pub from_places : IsLegalByPlaces start lists → IsLegal start lists
  from_places legal = record {
    callers = legal.callers;
    places = legal.places;
    each_once = legal.each_once;
    replies = AreReplies-weave_below start all (InOrder-drew_all lists legal.callers) (suc (draws all)) (drawn_once all legal.places legal.each_once)
        (λ n below. All-at_place (λ n. MayAnswer (map_at start all n)) all legal.replies n);
  }

  -- behind the last draw nothing changes the map
  replay-weave_ordered : AllByRecursion (InOrder 1 0) lists → AllByRecursion (IsPlace (draws all)) all → replay start (weave lists) ≡ map_at start all (draws all)
  replay-weave_ordered callers places =
      replay-weave_below start all (InOrder-drew_all lists callers) (suc (draws all))
      ∙ ap (λ es. replay start (draws_below all (draws all) ++ es)) (none_drew all (draws all) (draws all) places (omega arith))
      ∙ ap (replay start) (append-nil (draws_below all (draws all)))

  pub replay-weave : IsLegal start lists → replay start (weave lists) ≡ map_at start all (draws all)
  replay-weave legal = replay-weave_ordered legal.callers legal.places

-- ---- one more entry of one caller
InOrder-push : (serial seen : ℕ) (es : List Entry) (e : Entry) → InOrder serial seen es → e.serial ≡ serial + length es → e.drew ≡ is_done e.reply → seen_of seen es ≤ e.place
    → InOrder serial seen (es ++ e ∷ [])
InOrder-push serial seen [] e order numbered drew sees = (omega arith, drew, sees, tt)
InOrder-push serial seen (x ∷ es) e order numbered drew sees = (order.0, order.1, order.2, InOrder-push (suc serial) (seen_after x) es e order.3 (omega arith) drew sees)

module _ (before : List (List Entry)) (mine : List Entry) (after' : List (List Entry)) (e : Entry) where
  abbrev old_lists : List (List Entry)
  old_lists = before ++ mine ∷ after'

  abbrev new_lists : List (List Entry)
  new_lists = before ++ (mine ++ e ∷ []) ∷ after'

  callers-more : (others : List (List Entry)) → AllByRecursion (InOrder 1 0) (others ++ mine ∷ after') → IsNext mine e → AllByRecursion (InOrder 1 0) (others ++ (mine ++ e ∷ []) ∷ after')
  callers-more [] callers next = (InOrder-push 1 0 mine e callers.0 (omega (arith, next.serial)) next.drew next.after_seen, callers.1)
  callers-more (es ∷ others) callers next = (callers.0, callers-more others callers.1 next)

  -- all entries up to the caller's last one, and all behind it
  abbrev front : List Entry
  front = all_of before ++ mine

  abbrev back : List Entry
  back = all_of after'

  all_of-old : all_of old_lists ≡ front ++ back
  all_of-old = flat_map-append (λ list. list) before (mine ∷ after') ∙ sym (append_assoc (all_of before) mine back)

  all_of-new : all_of new_lists ≡ front ++ e ∷ back
  all_of-new =
      flat_map-append (λ list. list) before ((mine ++ e ∷ []) ∷ after')
      ∙ ap (λ es. all_of before ++ es) (append_assoc mine (e ∷ []) back)
      ∙ sym (append_assoc (all_of before) mine (e ∷ back))

  module _ (start : Map) (next : IsNext mine e) (reached : IsReached (draws (all_of old_lists)) e) where
    reached_flat : IsReached (draws (front ++ back)) e
    reached_flat = subst (λ all. IsReached (draws all) e) all_of-old reached

    pub one_more-IsLegalByPlaces : IsLegalByPlaces start old_lists → IsReplyOf (map_at start (all_of old_lists) e.place) e.call e.reply → IsLegalByPlaces start new_lists
    one_more-IsLegalByPlaces legal reply =
        let were = subst (AreRight start) all_of-old (record { places = legal.places; each_once = legal.each_once; replies = legal.replies }) in
        let are = subst (AreRight start) (sym all_of-new)
        (AreRight-one_more front back e reached_flat start were (subst (λ all. IsReplyOf (map_at start all e.place) e.call e.reply) all_of-old reply)) in
        record { callers = callers-more before legal.callers next; places = are.places; each_once = are.each_once; replies = are.replies }

    pub one_more-IsLegal : IsLegal start old_lists → IsReplyOf (map_at start (all_of old_lists) e.place) e.call e.reply → IsLegal start new_lists
    one_more-IsLegal legal reply = from_places start new_lists (one_more-IsLegalByPlaces (by_places start old_lists legal) reply)

    pub one_more-KeepsMaps : IsLegal start old_lists → KeepsMaps start old_lists new_lists e
    one_more-KeepsMaps legal =
        let places = subst (λ all. AllByRecursion (IsPlace (draws all)) all) all_of-old legal.places in
        let once = subst (λ all. (n : ℕ) → n < draws all → length (filter (drew_at n) all) ≡ 1) all_of-old legal.each_once in
        let new_places = subst (λ all. AllByRecursion (IsPlace (draws all)) all) (sym all_of-new) (places-one_more front back e reached_flat places) in
        record {
          earlier = λ n within.
              ap (λ all. map_at start all n) all_of-new
              ∙ map_at-one_more front back e reached_flat start n (subst (λ all. n ≤ draws all) all_of-old within)
              ∙ ap (λ all. map_at start all n) (sym all_of-old);
          last =
              replay-weave_ordered start new_lists (callers-more before legal.callers next) new_places
              ∙ ap (λ all. map_at start all (draws all)) all_of-new
              ∙ map_at-all_draws front back e reached_flat start places once next.drew
              ∙ ap (λ all. after (map_at start all (draws all)) e.call e.reply) (sym all_of-old)
              ∙ ap (λ m. after m e.call e.reply) (sym (replay-weave start old_lists legal));
        }

  -- ---- the two kinds of entry: one that loaded its place, and one that drew the next
  module _ (start : Map) (legal : IsLegal start old_lists) (next : IsNext mine e) where
    pub loaded-IsLegal : e.drew ≡ false → e.place ≤ draws (all_of old_lists) → IsReplyOf (map_at start (all_of old_lists) e.place) e.call e.reply → IsLegal start new_lists
    loaded-IsLegal loaded within = one_more-IsLegal start next (loaded-IsReached (draws (all_of old_lists)) e loaded within) legal

    pub drawn-IsLegal : e.drew ≡ true → e.place ≡ draws (all_of old_lists) → IsReplyOf (replay start (weave old_lists)) e.call e.reply → IsLegal start new_lists
    drawn-IsLegal drew place reply =
        one_more-IsLegal start next (drawn-IsReached (draws (all_of old_lists)) e place) legal
        (subst (λ m. IsReplyOf m e.call e.reply) (replay-weave start old_lists legal ∙ ap (map_at start (all_of old_lists)) (sym place)) reply)

    pub loaded-KeepsMaps : e.drew ≡ false → e.place ≤ draws (all_of old_lists) → KeepsMaps start old_lists new_lists e
    loaded-KeepsMaps loaded within = one_more-KeepsMaps start next (loaded-IsReached (draws (all_of old_lists)) e loaded within) legal

    pub drawn-KeepsMaps : e.drew ≡ true → e.place ≡ draws (all_of old_lists) → KeepsMaps start old_lists new_lists e
    drawn-KeepsMaps drew place = one_more-KeepsMaps start next (drawn-IsReached (draws (all_of old_lists)) e place) legal
