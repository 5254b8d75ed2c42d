-- Of every refusal a history has the cause: keys enough in the map at its place; and the world's, a number that is spent.
use Rattle.std.proofs.Common.{◌≡◌, ℕ, ◌+◌, ◌<◌, ◌≤◌, List, [], ◌∷◌, length, is_some, IsSome, inl, inr, refl, ap, ◌∙◌, subst, arith, length-append}
use Rattle.std.specs.Prelude.{filter}
use Rattle.std.specs.FinMap.{get}
use Rattle.std.proofs.lemmas.List.Elements.{filter-append}
use Rattle.trace.specs.Events.{Words}
use Rattle.map_model.specs.declared.entry.Entry.{Entry}
use Rattle.map_model.specs.Map.{Map}
use Rattle.map_model.specs.Weave.{draws}
use Rattle.map_model.specs.ByPlaces.{map_at}
use Rattle.image_layout.specs.Places.{slots_of_key}
use Rattle.session.specs.Session.{HasAtLeast, HadNoRoom}
use Rattle.world.specs.Ground.{Ground}
use Rattle.world.specs.Views.{View, Has, At}
use Rattle.world.specs.History.{Log, map_when, HasFullKeys, HasRoomCause, IsRight}
use Rattle.world.specs.Parts.{total, History}
use Rattle.world.specs.Invariant.{Holds}
use Rattle.world.proofs.basics.Entries.{place_le}
use Rattle.world.proofs.Legality.{map_is}
use Rattle.engine.specs.Holding.{all_own, FullHad, HadSpent}
use Rattle.engine.proofs.sessions.Different.{each, Different, different_values}

module _ (site : Ground) (words : Words) (views : List View) (log : Log) (h : History site words views log) where
  -- keys enough by the history are keys enough of a map
  module _ (opening : Map) (same : (k : ℕ) → get opening k ≡ site.start k) (place : ℕ) (within : place ≤ length log) (Passes : ℕ → Type 0)
      (f : HasFullKeys Passes (map_when site.start log place)) where
    abbrev there : Map
    there = map_at opening (all_own views) place

    in_map : (r : ℕ) → r < slots_of_key → IsSome (get there (f.key r))
    in_map r low = ap is_some (map_is site words views log h opening same place within (f.key r)) ∙ f.there r low

    many : Different slots_of_key (λ k. IsSome (get there k) × Passes k)
    many = different_values f.key slots_of_key (λ k. IsSome (get there k) × Passes k) (λ r t r_low t_low e. f.differ r t r_low t_low e) (λ r low. (in_map r low, f.pass r low))

    at_least : HasAtLeast slots_of_key Passes there
    at_least = record {
      keys = many.numbers;
      count = many.count;
      different = many.different;
      in_map = each _ _ (λ k counts. counts.0) many.numbers many.pass;
      pass = each _ _ (λ k counts. counts.1) many.numbers many.pass;
    }

  -- EACH REFUSAL FOR WANT OF ROOM had keys enough in the map at its place
  pub had_room : (opening : Map) → ((k : ℕ) → get opening k ≡ site.start k) → (j : ℕ) (v : View) (e : Entry) → At views j v → Has e v.own
      → HadNoRoom site.shape (map_at opening (all_own views) e.place) e
  had_room opening same j v e at has =
      let r : IsRight site.shape site.start log e = h.right j v e at has in
      let within = place_le e.drew e.place (length log) r.within in
      record {
        full = λ is. at_least opening same e.place within _ (subst (HasRoomCause site.shape (map_when site.start log e.place) e.call) is r.cause);
        deep = λ is. at_least opening same e.place within _ (subst (HasRoomCause site.shape (map_when site.start log e.place) e.call) is r.cause);
      }

  -- as many entries drew as changes are in the history
  drawn_by : (vs : List View) → draws (all_own vs) ≡ total (λ (v : View). draws v.own) vs
  drawn_by [] = refl
  drawn_by (v ∷ vs) = ap length (filter-append (λ (e : Entry). e.drew) v.own (all_own vs))
      ∙ (length-append (filter (λ (e : Entry). e.drew) v.own) (filter (λ (e : Entry). e.drew) (all_own vs)) ∙ ap (λ n. draws v.own + n) (drawn_by vs))

  pub drawn : draws (all_own views) ≡ length log
  drawn = drawn_by views ∙ h.drawn

module _ (site : Ground) (words : Words) (views : List View) (h : Holds site words views) where
  pub full_had : FullHad site views
  full_had = had_room site words views h.log h.history

  -- EACH REPLY THAT A NUMBER IS SPENT has 2 ^ 63 changes, or a lock word of the last version
  pub spent_had : HadSpent site.shape words views
  spent_had j v e at has is = elim (h.spending.told j v e at has is) [
    | inl many ↦ inl (let d = drawn site words views h.log h.history in omega (arith, many, d))
    | inr lock ↦ inr lock
  ]
