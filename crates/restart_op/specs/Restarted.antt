-- What a restart does to the image that it is run on: after any number of its events, and at its end.
use Rattle.std.specs.Prelude.{◌≡◌, ◌≢◌, ℕ, ◌+◌, ◌<◌, ◌≤◌, ◌↔◌, true, List, [], ◌∷◌, length, replicate, slice_index}
use Rattle.std.specs.FinMap.{get}
use Rattle.segment_head.specs.Versions.{unversioned}
use Rattle.trace.specs.Events.{Words, Trace, HasLine, most_unfenced}
use Rattle.trace.specs.Progress.{pending}
use Rattle.trace.specs.Media.{IsPossible}
use Rattle.image_layout.specs.Places.{Shape, IsShape, state_word, words_of, front_words}
use Rattle.image_layout.specs.StateWord.{first_version, last_image_version}
use Rattle.image_layout.specs.Volatile.{all_words_of}
use Rattle.map_model.specs.Map.{Map}
use Rattle.map_model.specs.Weave.{first_caller, keeper_number}
use Rattle.sound_image.specs.Segments.{frame_of, IsClean}
use Rattle.sound_image.specs.Image.{IsSoundImage}
use Rattle.session.specs.Left.{HasPairsOf}
use Rattle.bucket_words.specs.Hits.{find}
use Rattle.op_core.specs.declared.want.Want.TheVariants as want
use Rattle.op_core.specs.declared.want.Want.TheVariants.{Done}
use Rattle.world.specs.Ground.{Ground, callers_bound}
use Rattle.world.specs.Views.{View, At}
use Rattle.world.specs.Wants.{word_of}
use Rattle.world.specs.World.{World, fresh_view}
use Rattle.world.specs.areas.Areas.{header_word}
use Rattle.world.specs.areas.Beginning.{Begins}
use Rattle.world.specs.areas.Restarting.{KeepsVersion, RaisesVersion, IsRestartOf}
use Rattle.restart_op.specs.declared.restart.Started.{Started}
use Rattle.restart_op.specs.declared.restart.RestartStep.{RestartStep}
use Rattle.restart_op.specs.declared.restart.RestartStep.TheVariants.{Load, Ended}
use Rattle.restart_op.specs.Restart.{started_for, begun, wanted, taken}
use Rattle.restart_op.specs.Budget.{events_of_restart, left_in}
use Rattle.restart_op.specs.Course.{Course, course_from}
use Rattle.restart_op.specs.AtRest.{IsCurrent, IsAtRest, IsOpenStructure, HasOwnRecords}

-- a restart over these words and after this trace, after so many of its events
abbrev pub restart_after : (shape : Shape) → Words → Trace → ℕ → Course wanted taken shape
restart_after shape words trace n = course_from wanted taken shape (begun shape) words trace n

-- a restart of an image with these words
abbrev pub restarted : (shape : Shape) → List ℕ → ℕ → Course wanted taken shape
restarted shape words n = restart_after shape (slice_index words) [] n

-- it at its end
abbrev pub restarted_wholly : (shape : Shape) → List ℕ → Course wanted taken shape
restarted_wholly shape words = restarted shape words (events_of_restart shape (slice_index words))

abbrev pub words_at_end : Shape → List ℕ → Words
words_at_end shape words = (restarted_wholly shape words).words

-- ---- how many events
-- so many are left at a step
abbrev pub left_at : Shape → Words → RestartStep → ℕ
left_at shape words Load = events_of_restart shape words
left_at shape words step = left_in shape step

-- EACH EVENT LEAVES ONE FEWER, to the end
abbrev pub RestartCounts : Type 0
RestartCounts = (shape : Shape) (words : List ℕ) (n : ℕ) → IsShape shape → n ≤ events_of_restart shape (slice_index words)
    → left_at shape (slice_index words) (restarted shape words n).op.step + n ≡ events_of_restart shape (slice_index words)

-- before its end it asks for an event that a memory of the image has: its word is one of the memory, its line one of the image, and before a flush
-- fewer than eight lines of caller 0 wait for a fence
pub record IsAsked (shape : Shape) (c : Course wanted taken shape) : Type 0 where
  pub asks : wanted c.op ≢ Done
  pub word : word_of shape (wanted c.op) < all_words_of shape
  pub line : (l : ℕ) → wanted c.op ≡ want.Flush l → HasLine (words_of shape) l
  pub few : (l : ℕ) → wanted c.op ≡ want.Flush l → length (pending keeper_number c.trace) < most_unfenced

abbrev pub RestartAsks : Type 0
RestartAsks = (shape : Shape) (words : List ℕ) (n : ℕ) → IsShape shape → n < events_of_restart shape (slice_index words) → IsAsked shape (restarted shape words n)

-- ---- a cut in the restart
-- the medium is a sound image with the pairs and the first four words of these words
pub record HasTheSame (shape : Shape) (words medium : List ℕ) : Type 0 where
  pub sound : IsSoundImage shape medium
  pub pairs : (m : Map) → HasPairsOf shape (slice_index words) m → HasPairsOf shape (slice_index medium) m
  pub front : (i : ℕ) → i < front_words → slice_index medium i ≡ slice_index words i

-- A CUT after any number of events, also in a sweep, leaves the same pairs in a sound image
abbrev pub RestartKeeps : Type 0
RestartKeeps = (shape : Shape) (words medium : List ℕ) (n : ℕ) → IsSoundImage shape words → length medium ≡ words_of shape
    → IsPossible (words_of shape) (slice_index words) (restarted shape words n).trace (slice_index medium) → HasTheSame shape words medium

-- ---- the end of the restart
-- WHICH WORDS a restart that left this has changed: the state word, which is the version alone; and in a sweep the version byte of each header
pub record HasStarted (shape : Shape) (started : Started) (before after : Words) : Type 0 where
  pub state : after state_word ≡ started.version
  pub heads : started.swept ≡ true → (s : ℕ) → s < shape.segments → after (header_word shape s) ≡ unversioned (before (header_word shape s))
  pub others : (i : ℕ) → i ≢ state_word → (started.swept ≡ true → (s : ℕ) → s < shape.segments → i ≢ header_word shape s) → after i ≡ before i

-- a restart has ended, by the state word that it found: a clean image keeps its version and its headers, and of any other the version is then above that of
-- each header; and in either case the version is one of an image
pub record IsStarted (shape : Shape) (words : List ℕ) : Type 0 where
  pub ended : (restarted_wholly shape words).op.step ≡ Ended (started_for (slice_index words state_word))
  pub wants_no_more : wanted (restarted_wholly shape words).op ≡ Done
  pub left : HasStarted shape (started_for (slice_index words state_word)) (slice_index words) (words_at_end shape words)
  pub kept : IsClean (frame_of shape (slice_index words)) → KeepsVersion shape (slice_index words) (words_at_end shape words)
  pub raised : (IsClean (frame_of shape (slice_index words)) → ⊥) → RaisesVersion shape (slice_index words) (words_at_end shape words)
  pub some : first_version ≤ (started_for (slice_index words state_word)).version
  pub fits : (started_for (slice_index words state_word)).version ≤ last_image_version

abbrev pub EndsStarted : Type 0
EndsStarted = (shape : Shape) (words : List ℕ) → IsSoundImage shape words → IsStarted shape words

-- where the callers run: on the words at the end, with the pairs that these have
abbrev pub site_of : Shape → List ℕ → ℕ → Ground
site_of shape words callers =
    let at_end = words_at_end shape words in
    record { shape = shape; front = at_end; start = find shape at_end; callers = callers }

-- caller 0, who stands for no caller of the table, and the callers 1, 2 and so on, who have done nothing yet
abbrev pub views_of : ℕ → List View
views_of callers = fresh_view 0 ∷ replicate callers (fresh_view 1)

abbrev pub world_of : Shape → List ℕ → ℕ → World
world_of shape words callers = record { words = words_at_end shape words; trace = (restarted_wholly shape words).trace; views = views_of callers }

-- THE WORLD IS THAT OF A RESTART of the image, for fewer callers than `callers_bound`
abbrev pub IsRestart : Type 0
IsRestart = (shape : Shape) (words : List ℕ) (callers : ℕ) → IsSoundImage shape words → callers < callers_bound
    → IsRestartOf (site_of shape words callers) words (world_of shape words callers)

-- SO IT BEGINS
abbrev pub RestartBegins : Type 0
RestartBegins = (shape : Shape) (words : List ℕ) (callers : ℕ) → IsSoundImage shape words → callers < callers_bound
    → Begins (site_of shape words callers) (slice_index words) (world_of shape words callers)

-- each caller has its seat
abbrev pub HasSeats : Type 0
HasSeats = (callers j : ℕ) → first_caller ≤ j → j ≤ callers → At (views_of callers) j (fresh_view 1)

-- what the image had is what the words at the end have
abbrev pub KeepsPairs : Type 0
KeepsPairs = (shape : Shape) (words : List ℕ) (m : Map) → IsSoundImage shape words
    → HasPairsOf shape (slice_index words) m ↔ ((k : ℕ) → get m k ≡ find shape (words_at_end shape words) k)

-- each current segment is at rest at the end: no lock of it is taken, a key stands once, and notes are exact
abbrev pub EndsAtRest : Type 0
EndsAtRest = (shape : Shape) (words : List ℕ) → IsSoundImage shape words → (s : ℕ) → IsCurrent shape (words_at_end shape words) s → IsAtRest shape (words_at_end shape words) s

-- and owns each record that stands in it
abbrev pub EndsOwned : Type 0
EndsOwned = (shape : Shape) (words : List ℕ) → IsSoundImage shape words → HasOwnRecords shape (words_at_end shape words)

-- and the structure is one on which callers run
abbrev pub EndsOpen : Type 0
EndsOpen = (shape : Shape) (words : List ℕ) → IsSoundImage shape words → IsOpenStructure shape (words_at_end shape words)
