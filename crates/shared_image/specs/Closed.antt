-- What a close of a shared image takes in, and what it gives.
use Rattle.std.specs.Prelude.{◌≡◌, ◌≢◌, ℕ, ◌+◌, ◌<◌, List, [], ◌∷◌, ◌++◌, map, slice_index}
use Rattle.std.specs.FinMap.{get}
use Rattle.atomic_table.specs.declared.shared.Seat.{Seat}
use Rattle.map_model.specs.declared.entry.Entry.{Entry}
use Rattle.map_model.specs.Map.{Map}
use Rattle.map_model.specs.Weave.{weave}
use Rattle.map_model.specs.Legal.{replay, IsLegal}
use Rattle.session.specs.Left.{HasPairsOf}
use Rattle.trace.specs.Events.{Words}
use Rattle.image_layout.specs.Places.{Shape, state_word, words_of}
use Rattle.op_core.specs.declared.want.Want.TheVariants.{Done}
use Rattle.restart_op.specs.Close.{wanted}
use Rattle.restart_op.specs.Closing.{close_after}
use Rattle.world.specs.Ground.{Ground}
use Rattle.world.specs.Views.{View}
use Rattle.vlock.specs.declared.knows.Watch.{Watch}
use Rattle.world.specs.Attempts.{OwesNothing}
use Rattle.vlock.specs.Seats.{both}
use Rattle.vlock.specs.Ends.{IsEnd}
use Rattle.shared_image.specs.declared.image.SharedImage.{SharedImage}
use Rattle.shared_image.specs.Powered.{IsPassOf}

-- a close of these words, event by event, led to those and has ended
pub record IsClosedFrom (shape : Shape) (before after : Words) : Type 0 where
  pub events : ℕ
  pub ended : wanted (close_after shape before [] events).op ≡ Done
  pub words_are : after ≡ (close_after shape before [] events).words

-- a pass of this image that is done with: it holds nothing and owes nothing
abbrev pub IsDone : SharedImage → Seat ℕ Watch → Type 0
IsDone image pass = IsPassOf image pass × OwesNothing pass.me.0.view

-- what a seat knows that takes in passes, one after another
abbrev pub with_all : Watch → List (Seat ℕ Watch) → Watch
with_all p [] = p
with_all p (pass ∷ passes) = with_all (both p pass.me.0) passes

-- for how many callers passes stand together
abbrev pub callers_of : List (Seat ℕ Watch) → ℕ
callers_of [] = 0
callers_of (pass ∷ passes) = pass.me.0.view.callers + callers_of passes

-- the replies of passes in their order, each with those of the passes that it took in behind it
abbrev pub replies_in : List (Seat ℕ Watch) → List (List Entry)
replies_in [] = []
replies_in (pass ∷ passes) = pass.me.0.view.own ∷ (map (λ v. v.own) pass.me.0.past ++ replies_in passes)

-- THE REPLIES of all callers: the keeper, which is caller 0, has none
abbrev pub replies_of : List (Seat ℕ Watch) → List (List Entry)
replies_of passes = [] ∷ replies_in passes

-- THE WORDS HAVE WHAT THE REPLIES SAY: these are one legal history of any plain map that starts with what keys had at power-on, and the words
-- have the pairs of its replay
abbrev pub HasWhatWasReplied : Ground → List (List Entry) → List ℕ → Type 0
HasWhatWasReplied site replies words =
    (start : Map) → ((k : ℕ) → get start k ≡ site.start k) → IsLegal start replies × HasPairsOf site.shape (slice_index words) (replay start (weave replies))

-- HOW THE IMAGE WAS WHEN ALL CALLERS HAD ENDED: words and views of which `vlock` says what an end is, with these replies; and the words that are
-- given are those, but for the state word
pub record WasEnded (site : Ground) (replies : List (List Entry)) (given : List ℕ) : Type 0 where
  pub words : Words
  pub views : List View
  pub ended : IsEnd site words views
  pub told : map (λ v. v.own) views ≡ replies
  pub same : (i : ℕ) → i < words_of site.shape → i ≢ state_word → slice_index given i ≡ words i
