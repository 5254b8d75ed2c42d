-- The history of one caller alone: each next entry at the number of its draws, with a right reply for the map now, keeps it legal.
use Rattle.std.proofs.Common.{◌≡◌, ℕ, suc, ◌≤◌, ◌+◌, true, false, cond, List, [], ◌∷◌, ◌++◌, length, refl, sym, ap, subst, ◌∙◌, arith, append-nil}
use Rattle.std.specs.List.{AllByRecursion}
use Rattle.map_model.specs.declared.entry.Entry.{Entry}
use Rattle.map_model.specs.Map.{Map, is_done, after}
use Rattle.map_model.specs.Weave.{all_of, draws, weave}
use Rattle.map_model.specs.Legal.{IsReplyOf, replay, IsPlace, IsLegal, IsNext, seen_of, seen_after}
use Rattle.map_model.specs.ByPlaces.{map_at}
use Rattle.map_model.proofs.OneMore.{IsReached, draws-one_more}
use Rattle.map_model.proofs.Histories.{replay-weave, one_more-IsLegal, one_more-KeepsMaps}

-- before the first call
pub IsLegal-none : (start : Map) → IsLegal start ([] ∷ [])
IsLegal-none start = record { callers = (tt, tt); places = tt; each_once = λ n below. absurd (omega arith); replies = tt }

pub replay-none : (start : Map) → replay start (weave ([] ∷ [])) ≡ start
replay-none start = refl

-- the entries of the only caller are all entries
all_of-one : (es : List Entry) → all_of (es ∷ []) ≡ es
all_of-one es = append-nil es

-- what the caller has seen is at most the number of its draws
pub seen_of-within : (start : Map) (es : List Entry) → IsLegal start (es ∷ []) → seen_of 0 es ≤ draws es
seen_of-within start es legal = within (draws es) 0 es (omega arith) (subst (λ all. AllByRecursion (IsPlace (draws all)) all) (all_of-one es) legal.places)
  where
    within : (count seen : ℕ) (fs : List Entry) → seen ≤ count → AllByRecursion (IsPlace count) fs → seen_of seen fs ≤ count
    within count seen [] so_far places = so_far
    within count seen (f ∷ fs) so_far places = within count (seen_after f) fs places.0 places.1

-- so an entry at the number of draws comes after all that was seen
pub IsNext-at_draws : (start : Map) (es : List Entry) (e : Entry) → IsLegal start (es ∷ []) → e.serial ≡ suc (length es) → e.drew ≡ is_done e.reply → e.place ≡ draws es → IsNext es e
IsNext-at_draws start es e legal serial drew place = record { serial = serial; drew = drew; after_seen = (let seen = seen_of-within start es legal in omega arith) }

-- how many draws there are with one more entry
pub draws-push : (es : List Entry) (e : Entry) → draws (es ++ e ∷ []) ≡ draws es + cond e.drew 1 0
draws-push es e = draws-one_more es [] e ∙ ap (λ fs. draws fs + cond e.drew 1 0) (append-nil es)

pub draws-push_loaded : (es : List Entry) (e : Entry) → e.drew ≡ false → draws (es ++ e ∷ []) ≡ draws es
draws-push_loaded es e loaded = let more = draws-push es e ∙ ap (λ b. draws es + cond b 1 0) loaded in omega arith

pub draws-push_drawn : (es : List Entry) (e : Entry) → e.drew ≡ true → draws (es ++ e ∷ []) ≡ draws es + 1
draws-push_drawn es e drew = draws-push es e ∙ ap (λ b. draws es + cond b 1 0) drew

module _ (start : Map) (es : List Entry) (e : Entry) (legal : IsLegal start (es ∷ [])) (next : IsNext es e) (place : e.place ≡ draws es) where
  abbrev now : Map
  now = replay start (weave (es ∷ []))

  place_of_all : e.place ≡ draws (all_of (es ∷ []))
  place_of_all = place ∙ ap draws (sym (all_of-one es))

  reached : IsReached (draws (all_of (es ∷ []))) e
  reached = record { within = (let there = place_of_all in omega arith); next = λ drew. place_of_all }

  -- the history with the entry is legal, whether the entry drew its place or loaded it
  pub IsLegal-push : IsReplyOf now e.call e.reply → IsLegal start ((es ++ e ∷ []) ∷ [])
  IsLegal-push reply =
      one_more-IsLegal [] es [] e start next reached legal
      (subst (λ m. IsReplyOf m e.call e.reply) (replay-weave start (es ∷ []) legal ∙ ap (map_at start (all_of (es ∷ []))) (sym place_of_all)) reply)

  -- the map is then what the entry makes of the one before
  pub replay-push : replay start (weave ((es ++ e ∷ []) ∷ [])) ≡ after now e.call e.reply
  replay-push = (one_more-KeepsMaps [] es [] e start next reached legal).last

  -- and the map at each earlier place is what it was
  pub map_at-push : (n : ℕ) → n ≤ draws es → map_at start (es ++ e ∷ []) n ≡ map_at start es n
  map_at-push n within =
      ap (λ all. map_at start all n) (sym (all_of-one (es ++ e ∷ [])))
      ∙ (one_more-KeepsMaps [] es [] e start next reached legal).earlier n (subst (λ all. n ≤ draws all) (sym (all_of-one es)) within)
      ∙ ap (λ all. map_at start all n) (all_of-one es)
