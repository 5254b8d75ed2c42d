-- Runs one after another are sessions, since each leaves a sound image, of which one map alone has the pairs.
use Rattle.std.proofs.Common.{◌≡◌, ℕ, ◌^◌, ◌<◌, Bool, true, false, Option, None, Some, List, [], ◌∷◌, inl, inr, refl, sym, subst, ◌∙◌}
use Rattle.std.specs.Prelude.{slice_index, map, if◌then◌else◌}
use Rattle.std.specs.List.{AllByRecursion}
use Rattle.image_layout.specs.Places.{Shape, key_at}
use Rattle.map_model.specs.declared.call.Call.{Call}
use Rattle.map_model.specs.Map.{Map}
use Rattle.map_model.specs.Weave.{weave}
use Rattle.map_model.specs.Legal.{replay}
use Rattle.sound_image.specs.Image.{IsSoundImage}
use Rattle.sound_image.specs.Records.{HasPair, HasAt}
use Rattle.session.specs.Left.{IsLeft}
use Rattle.bucket_words.specs.Hits.{find}
use Rattle.bucket_words.proofs.segments.Rules.{find_of_at}
use Rattle.session.specs.Callers.{history_of, undrawn}
use Rattle.session.specs.Session.{SessionEnd, IsSession}
use Rattle.restart_op.proofs.images.Facts.{frame_is, table_is}
use Rattle.engine.specs.Laws.{AreScripts}
use Rattle.core_run.specs.Sessions.{RunsAreSessions}
use Rattle.core_run.specs.Chains.{Script, setup_of, left_by, RunsAsSession, AreSessions, SessionsCompose, CarriesOn, MapsCarryOn}

module _ (runs : RunsAreSessions) (shape : Shape) where
  one_run : (first : List ℕ) (script : Script) → IsSoundImage shape first → AreScripts script.calls → RunsAsSession shape first script
  one_run first script sound words = record {
    sound = sound;
    session = runs (setup_of shape first script) script.lines (record { served = sound; few = words.few; words = words.words });
  }

  all_runs : (first : List ℕ) (scripts : List Script) → IsSoundImage shape first → AllByRecursion (λ (script : Script). AreScripts script.calls) scripts
      → AreSessions shape first scripts
  all_runs first [] sound words = sound
  all_runs first (script ∷ scripts) sound words =
      let run = one_run first script sound words.0 in
      (run, all_runs (left_by shape first script) scripts run.session.sound words.1)

pub sessions_compose : RunsAreSessions → SessionsCompose
sessions_compose runs shape first scripts sound words = all_runs runs shape first scripts sound words

-- ---- a sound image has one map
module _ (shape : Shape) (words : List ℕ) (image : IsSoundImage shape words) where
  found : (k v : ℕ) → HasPair shape (slice_index words) k v → find shape (slice_index words) k ≡ Some v
  found k v pair =
      find_of_at shape image.in_range (slice_index words) (frame_is shape words image) image.each_fits (table_is shape words image) k
      (subst (λ n. n < 2 ^ 64) pair.key_is (image.each_fits (key_at shape pair.s pair.b pair.r))) (Some v) pair

  one_at : (k : ℕ) (a b : Option ℕ) → HasAt shape (slice_index words) k a → HasAt shape (slice_index words) k b → a ≡ b
  one_at k None None none also = refl
  one_at k None (Some w) none pair = absurd (none w pair)
  one_at k (Some v) None pair none = absurd (none v pair)
  one_at k (Some v) (Some w) pair other = sym (found k v pair) ∙ found k w other

-- ---- so the next session begins with the one that is left
module _ (shape : Shape) (first between last : List ℕ) (scripts later : List (List Call)) (ending end : SessionEnd) (transcript printed : List ℕ)
    (before : IsSession shape first between scripts ending transcript) (next : IsSession shape between last later end printed) where
  abbrev left_map : Map
  left_map = replay before.opening (weave (map history_of before.tolds))

  abbrev Carries : List Call → Type 0
  Carries calls = CarriesOn left_map calls next.opening

  by_left : IsLeft shape (slice_index between) left_map (undrawn scripts before.tolds) → Carries (undrawn scripts before.tolds)
  by_left left k = elim (left k) [
    | inl at ↦ inl (one_at shape between before.sound k _ _ (next.opening_pairs k) at)
    | inr one ↦ inr (one.0, one.1, one.2, one_at shape between before.sound k _ _ (next.opening_pairs k) one.3)
  ]

  carries : (closed : Bool) → ending.closed ≡ closed → Carries (if closed then [] else undrawn scripts before.tolds)
  carries true is k = inl (one_at shape between before.sound k _ _ (next.opening_pairs k) ((before.after_close is).pairs k))
  carries false is k = by_left (before.after_cut is) k

pub maps_carry_on : MapsCarryOn
maps_carry_on shape first between last scripts later ending end transcript printed before next =
    carries shape first between last scripts later ending end transcript printed before next ending.closed refl
