-- When the core is good: the replies of all callers are one legal history, and whatever a power cut may leave is sound and
-- holds that history's map, open calls whole or absent.
use Rattle.std.specs.Prelude.{◌<◌, ◌≤◌, ◌⊎◌, ◌≡◌, ◌≢◌, ℕ, List, length, map, slice_index}
use Rattle.std.specs.List.{AllByRecursion, AllZip}
use Rattle.trace.specs.Events.{Words}
use Rattle.trace.specs.Media.{IsPossible}
use Rattle.map_model.specs.Map.{Map}
use Rattle.map_model.specs.Weave.{all_of, draws, spent_count, weave}
use Rattle.map_model.specs.declared.entry.Reply.TheVariants.{Full, Spent}
use Rattle.map_model.specs.ByPlaces.{map_at}
use Rattle.session.specs.Session.{HadNoRoom}
use Rattle.map_model.specs.Legal.{IsLegal, replay}
use Rattle.image_layout.specs.Places.{Shape, words_of}
use Rattle.segment_head.specs.HeadWord.{free}
use Rattle.sound_image.specs.Segments.{frame_of, state_at}
use Rattle.sound_image.specs.Image.{IsSoundImage}
use Rattle.session.specs.Left.{IsLeft}
use Rattle.session.specs.Callers.{FollowsScript, undrawn}
use Rattle.world.specs.Ground.{HasSpentLock}
use Rattle.engine.specs.Core.{Core, tolds_of, histories}

-- every list of words that a power cut may leave now is a sound image, and holds the map of the history so far, each open
-- call whole or absent
pub record MediaAreGood (shape : Shape) (start : Words) (opening : Map) (core : Core) : Type 0 where
  pub sound : (medium : List ℕ) → length medium ≡ words_of shape → IsPossible (words_of shape) start core.trace (slice_index medium) → IsSoundImage shape medium
  pub left : (medium : List ℕ) → length medium ≡ words_of shape → IsPossible (words_of shape) start core.trace (slice_index medium)
      → IsLeft shape (slice_index medium) (replay opening (weave (histories core))) (undrawn (map (λ c. c.calls) core.callers) (tolds_of core))

-- in whatever words a power cut may leave now each slot is taken that was free in the image
abbrev pub HasNoFreeSlot : Shape → Words → Core → Type 0
HasNoFreeSlot shape start core = (medium : Words) → IsPossible (words_of shape) start core.trace medium → (s : ℕ) → s < shape.segments → state_at (frame_of shape start) s ≡ free → state_at (frame_of shape medium) s ≢ free

-- THE CORE IS GOOD: so it is between any two events
pub record IsGood (shape : Shape) (start : Words) (opening : Map) (core : Core) : Type 0 where
  -- the callers do the first of their calls, in their order
  pub scripted : AllZip FollowsScript (map (λ c. c.calls) core.callers) (tolds_of core)
  -- all replies are one legal history
  pub legal : IsLegal opening (histories core)
  pub media : MediaAreGood shape start opening core
  -- each insert that was refused for want of room had 56 keys in the map at its place
  pub had_no_room : AllByRecursion (λ e. HadNoRoom shape (map_at opening (all_of (histories core)) e.place) e) (all_of (histories core))
  -- where a reply is that the table is full, no slot is free that was free in the image
  pub full : AllByRecursion (λ e. e.reply ≡ Full → HasNoFreeSlot shape start core) (all_of (histories core))
  -- where a reply is that a number is spent, 2 ^ 63 changes are drawn, or some lock word of a live segment has the last version
  pub spent : AllByRecursion (λ e. e.reply ≡ Spent → (spent_count ≤ draws (all_of (histories core))) ⊎ HasSpentLock shape core.words) (all_of (histories core))
