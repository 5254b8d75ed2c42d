-- When all buckets are loaded, their words are known, and the search of them tells where the key stands.
use Rattle.std.proofs.Common.{◌≡◌, ℕ, ◌+◌, ◌<◌, ◌≤◌, Bool, true, false, None, refl, sym, ap, ◌∙◌, arith, slice_index}
use Rattle.std.proofs.lemmas.Option.{none-some}
use Rattle.hash_word.specs.Hash.{home_of, finger_of}
use Rattle.trace.specs.Events.{Words}
use Rattle.image_layout.specs.Places.{bucket_at}
use Rattle.bucket_words.specs.Hits.{Hit}
use Rattle.bucket_words.specs.HomeNotes.{IsUnnoted}
use Rattle.world.specs.Ground.{Ground}
use Rattle.world.specs.Views.{View}
use Rattle.world.proofs.stepping.Telling.{unvisited}
use Rattle.phase.specs.declared.role.Role.{Role}
use Rattle.phase.specs.declared.role.Role.TheVariants.{Home, Probing, First, Second}
use Rattle.phase.specs.Places.{bucket_of_role}
use Rattle.phase.specs.Helds.{free_of}
use Rattle.phase.specs.Buckets.{words_in}
use Rattle.phase.specs.Giving.{IsLocated, IsHeld, IsOfHeld}
use Rattle.phase.specs.Knows.{Knows}
use Rattle.phase.specs.Finding.{HasLoadedHeld, HoldsBuckets, SparesStash, StandsNowhere}
use Rattle.phase.proofs.asking.Asked.{never, few}
use Rattle.phase.proofs.locks.Giving.{lock_at}
use Rattle.phase.proofs.locks.Finding.{loads_are_known, words_stand, search_tells}
use Rattle.write_op.specs.declared.step.Task.{Task}
use Rattle.write_op.specs.declared.step.Spot.{Spot}
use Rattle.write_op.specs.declared.step.Seen.{Seen}
use Rattle.write_op.specs.Search.{found, visits}
use Rattle.write_op.specs.Fits.{is_asked, HoldsUpto, IsVisiting, HasLoaded, IsPinned, IsIn, loaded}
use Rattle.write_op.proofs.finding.Searching.{IsFound, found_none}
use Rattle.write_op.proofs.keeping.Going.{located}

-- ---- which locks are held
module _ (seen : Seen) (upto : HoldsUpto seen 4) where
  pub asked_held : (p : Role) → is_asked seen p ≡ true → IsHeld seen.held p
  asked_held p asked = upto.these p (record { low = few seen.first seen.second p asked; asked = asked })

  pub held_asked : (p : Role) → IsHeld seen.held p → is_asked seen p ≡ true
  held_asked p held = by (is_asked seen p) refl
    where
      by : (b : Bool) → is_asked seen p ≡ b → is_asked seen p ≡ true
      by true e = e
      by false e = absurd (none-some _ (sym (upto.others p (λ u. never (sym u.asked ∙ e))) ∙ held.1))

  -- a stash bucket whose lock is not held was not asked
  pub none_asked : (p : Role) → free_of seen.held p ≡ None → is_asked seen p ≡ false
  none_asked p none = by (is_asked seen p) refl
    where
      by : (b : Bool) → is_asked seen p ≡ b → is_asked seen p ≡ false
      by true e = absurd (none-some _ (sym none ∙ (asked_held p e).1))
      by false e = e

-- ---- what is known
module _ (site : Ground) (task : Task) (is : IsIn site task) (seen : Seen) (v : View) (h : HasLoaded site task seen 4 4 v) (pinned : IsPinned site task.hash seen.path v.pinned) where
  abbrev segment : ℕ
  segment = seen.path.segment

  abbrev word : Words
  word = loaded task seen

  at : IsLocated site task.site segment
  at = located site task is seen v.facts h.there

  loaded_held : HasLoadedHeld task.site task.hash segment seen.held seen.buckets v
  loaded_held p held = let asked = held_asked seen h.upto p held in h.whole p (record { low = few seen.first seen.second p asked; asked = asked })

  knows : Knows (IsOfHeld task.site task.hash segment seen.held) word v
  knows = loads_are_known site task.site task.hash segment seen.held seen.buckets v at loaded_held

  pub holds_buckets : HoldsBuckets site task.site task.hash segment seen.held word task.change.key v
  holds_buckets = record {
    located = at;
    hashed = is.hash;
    there = h.there;
    leads = pinned.leads;
    locks = h.locks;
    home = asked_held seen h.upto Home refl;
    probing = asked_held seen h.upto Probing refl;
    knows = knows;
  }

-- ---- where the key stands, by the words alone
module _ (site : Ground) (task : Task) (seen : Seen) (at : IsLocated site task.site seen.path.segment) (upto : HoldsUpto seen 4) (vis : IsVisiting task seen) where
  abbrev words : Words
  words = loaded task seen

  pub word_at : (place : Role) (j : ℕ) → 1 ≤ j → j < 32 → words (bucket_at site.shape seen.path.segment (bucket_of_role task.hash place) + j) ≡ slice_index (words_in seen.buckets place) j
  word_at place j from low = ap (λ l. words (l + j)) (sym (lock_at site task.site task.hash seen.path.segment at place))
      ∙ words_stand site task.site task.hash seen.path.segment seen.buckets place at j from low

  unnoted_at : (c : ℕ) → visits task.hash seen.buckets c ≡ false → IsUnnoted site.shape words seen.path.segment (home_of task.hash) (finger_of task.hash) c
  unnoted_at c out = unvisited site.shape words seen.path.segment (home_of task.hash) c (finger_of task.hash) _ _ _ _
      (word_at Home 1 (omega arith) (omega arith)) (word_at Home 3 (omega arith) (omega arith)) (word_at Probing 1 (omega arith) (omega arith)) (word_at Probing 3 (omega arith) (omega arith)) out

  pub spares : SparesStash site.shape task.hash seen.path.segment seen.held words
  spares = record {
    first = λ none. unnoted_at 0 (sym vis.first ∙ none_asked seen upto First none);
    second = λ none. unnoted_at 1 (sym vis.second ∙ none_asked seen upto Second none);
  }

  pub nowhere : found seen task.change.key ≡ None → StandsNowhere site.shape task.hash seen.path.segment seen.held words task.change.key
  nowhere none = record {
    places = λ place held near t hit. search_tells.none site task.site task.hash seen.path.segment seen.buckets place task.change.key at
        (found_none seen task.change.key none place (held_asked seen upto place held)) t hit;
    stash = spares;
  }

  pub hits : (spot : Spot) → IsFound seen task.change.key spot → Hit site.shape words seen.path.segment (bucket_of_role task.hash spot.place) spot.slot task.change.key
  hits spot there = search_tells.found site task.site task.hash seen.path.segment seen.buckets spot.place task.change.key spot.slot at there.slot
