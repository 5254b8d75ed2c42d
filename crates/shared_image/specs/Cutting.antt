-- What a power cut may leave of a shared image, wherever its callers stood.
use Rattle.std.specs.Prelude.{◌≡◌, ◌≢◌, ℕ, ◌^◌, ◌<◌, List, [], ◌∷◌, ◌++◌, length, map, slice_index}
use Rattle.std.specs.FinMap.{get}
use Rattle.atomic_table.specs.declared.shared.Seat.{Seat}
use Rattle.image_layout.specs.Places.{block, root_word, words_of}
use Rattle.trace.specs.Events.{Words}
use Rattle.map_model.specs.declared.call.Call.{Call}
use Rattle.map_model.specs.declared.entry.Entry.{Entry}
use Rattle.map_model.specs.Map.{Map}
use Rattle.map_model.specs.Weave.{weave}
use Rattle.map_model.specs.Legal.{replay, IsLegal}
use Rattle.sound_image.specs.Image.{IsSoundImage}
use Rattle.session.specs.Left.{IsLeft}
use Rattle.world.specs.Ground.{Ground}
use Rattle.world.specs.Views.{View}
use Rattle.world.specs.Media.{IsPossible}
use Rattle.vlock.specs.declared.knows.Watch.{Watch}
use Rattle.vlock.specs.Ends.{IsPowerCut}
use Rattle.shared_image.specs.Closed.{replies_of}

-- the views of passes, one for each
abbrev pub views_of : List (Seat ℕ Watch) → List View
views_of passes = map (λ pass. pass.me.0.view) passes

-- the changes that passes have stored and not drawn a place for
abbrev pub planned_in : List (Seat ℕ Watch) → List Call
planned_in [] = []
planned_in (pass ∷ passes) = pass.me.0.view.planned ++ planned_in passes

-- A MEDIUM THAT A CUT MAY LEAVE of an image with these newest words: all its words are of 64 bits, and each has the core of the newest one, or of a
-- value that a pass has loose
pub record MayBeLeft (site : Ground) (passes : List (Seat ℕ Watch)) (newest medium : List ℕ) : Type 0 where
  pub whole : length medium ≡ words_of site.shape
  pub each_fits : (i : ℕ) → slice_index medium i < 2 ^ 64
  pub possible : IsPossible site (slice_index newest) (views_of passes) (slice_index medium)

-- WHATEVER A CUT MAY LEAVE IS GOOD: the replies of all callers are one legal history of any plain map that starts with what keys had at power-on; and each
-- medium is a sound image that has at each key what the replay of that has, or what that has after one change which a pass has stored and not drawn
pub record LeavesGoodMedia (site : Ground) (passes : List (Seat ℕ Watch)) (newest : List ℕ) : Type 0 where
  pub legal : (start : Map) → ((k : ℕ) → get start k ≡ site.start k) → IsLegal start (replies_of passes)
  pub sound : (medium : List ℕ) → MayBeLeft site passes newest medium → IsSoundImage site.shape medium
  pub left : (medium : List ℕ) → MayBeLeft site passes newest medium → (start : Map) → ((k : ℕ) → get start k ≡ site.start k)
      → IsLeft site.shape (slice_index medium) (replay start (weave (replies_of passes))) (planned_in passes)
  -- each has the front of the words at power-on, but for the depth of the root: so the marker of a clean image is not set
  pub front : (medium : List ℕ) → MayBeLeft site passes newest medium → (i : ℕ) → i < block → i ≢ root_word → slice_index medium i ≡ site.front i
  -- the newest words may be left
  pub newest_may : MayBeLeft site passes newest newest

-- HOW THE IMAGE WAS WHEN THE POWER WAS CUT: words and views of which `vlock` says what a cut is, with these replies; and the words that are given are those
pub record WasCut (site : Ground) (replies : List (List Entry)) (given : List ℕ) : Type 0 where
  pub words : Words
  pub views : List View
  pub cut : IsPowerCut site words views
  pub told : map (λ v. v.own) views ≡ replies
  pub same : (i : ℕ) → i < words_of site.shape → slice_index given i ≡ words i
