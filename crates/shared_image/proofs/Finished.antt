-- What the close of a shared image leaves: a clean image, with the pairs of what was replied.
use Rattle.std.proofs.Common.{◌≡◌, ℕ, zero, suc, ◌^◌, ◌<◌, ◌≤◌, List, [], length, refl, sym, ap, ◌∙◌, subst, arith}
use Rattle.std.specs.Prelude.{slice_index, take, map}
use Rattle.std.proofs.lemmas.List.{get_or-take, length-take-le}
use Rattle.trace.specs.Events.{Words, line_of, value, value_at, after}
use Rattle.trace.specs.Progress.{settled_moment}
use Rattle.trace.specs.Steps.{HadSinceSettled}
use Rattle.trace.specs.Media.{IsPossible}
use Rattle.trace.proofs.Moments.{value_at_now, had_at}
use Rattle.trace.proofs.Flushes.{settled_before}
use Rattle.trace.proofs.Media.{may_of_had}
use Rattle.image_layout.specs.Places.{Shape, state_word, words_of}
use Rattle.image_layout.specs.StateWord.{marker_in}
use Rattle.map_model.specs.declared.entry.Entry.{Entry}
use Rattle.map_model.specs.Weave.{weave}
use Rattle.map_model.specs.Legal.{replay}
use Rattle.sound_image.specs.Segments.{frame_of, IsClean}
use Rattle.sound_image.specs.Image.{SaysShape, IsSoundImage}
use Rattle.world.specs.Ground.{Ground}
use Rattle.world.specs.Views.{View}
use Rattle.world.specs.World.{World}
use Rattle.world.specs.Wants.{word_of, event_of}
use Rattle.restart_op.specs.Close.{wanted}
use Rattle.restart_op.specs.Closing.{close_after, AllAreQuiet, IsKept}
use Rattle.restart_op.proofs.Currents.{current_in}
use Rattle.restart_op.proofs.Quiet.{fits_at_first}
use Rattle.restart_op.proofs.closes.CloseAlong.{changes_state_alone}
use Rattle.restart_op.proofs.closes.CloseKeeping.{close_keeps, close_settles}
use Rattle.vlock.specs.Ruling.{word}
use Rattle.vlock.specs.Ends.{IsEnd}
use Rattle.shared_image.specs.Closed.{IsClosedFrom, HasWhatWasReplied, WasEnded}

-- the words of a close are those that its events made
made : (shape : Shape) (ws : Words) (n : ℕ) → (close_after shape ws [] n).words ≡ value ws (close_after shape ws [] n).trace
made shape ws zero = refl
made shape ws (suc n) =
    let c = close_after shape ws [] n in
    ap (λ (f : Words). after (event_of shape (wanted c.op) (c.words (word_of shape (wanted c.op))) 0) f) (made shape ws n)

module _ (site : Ground) (before last : List ℕ) (views : List View) (ended : IsEnd site (word before) views) (fits : (i : ℕ) → slice_index before i < 2 ^ 64)
    (says : SaysShape site.shape site.front) (unmarked : marker_in (site.front state_word) ≡ 0) (run : IsClosedFrom site.shape (word before) (word last))
    (long : words_of site.shape ≤ length last) where
  abbrev world : World
  world = record { words = word before; trace = []; views = ended.nobody.views }

  abbrev medium : List ℕ
  medium = take (words_of site.shape) last

  state_stays : word before state_word ≡ site.front state_word
  state_stays = ended.structure.fixed state_word (omega arith) (λ e. omega (arith, e))

  quiet : AllAreQuiet site (word before) world
  quiet = record {
    well = ended.nobody.well;
    nothing = ended.nobody.nothing;
    fits = fits_at_first (word before) fits;
    says = says;
    structure = record {
      frame = ended.structure.sound;
      not_clean = ap marker_in state_stays ∙ unmarked;
      takes_calls = λ s current. (ended.repaired s (current_in site (word before) ended.structure s current)).normal;
    };
    fenced = refl;
  }

  pub whole : length medium ≡ words_of site.shape
  whole = length-take-le (words_of site.shape) last long

  -- the newest words are a medium that may be left
  possible : IsPossible (words_of site.shape) (word before) (close_after site.shape (word before) [] run.events).trace (slice_index medium)
  possible i within =
      let es = (close_after site.shape (word before) [] run.events).trace in
      let is : value_at (word before) es (length es) i ≡ slice_index medium i =
      value_at_now (word before) es i
      ∙ sym (ap (λ (ws : Words). ws i) (run.words_are ∙ made site.shape (word before) run.events))
      ∙ sym (get_or-take (words_of site.shape) last i 0 within) in
      may_of_had (word before) es i (slice_index medium i)
      (subst (λ (x : ℕ). HadSinceSettled (word before) es i x) is
      (had_at (word before) es (settled_moment (line_of i) es) (length es) i (settled_before es (line_of i)) (omega arith)))

  kept : IsKept site (word before) medium
  kept = close_keeps site (word before) world quiet run.events medium whole possible

  pub sound : IsSoundImage site.shape medium
  sound = kept.sound

  pub clean : IsClean (frame_of site.shape (slice_index medium))
  clean = (close_settles site (word before) world quiet run.events run.ended medium whole possible).clean

  pub replied : (replies : List (List Entry)) → map (λ v. v.own) views ≡ replies → HasWhatWasReplied site replies medium
  replied replies is = subst (λ (rs : List (List Entry)). HasWhatWasReplied site rs medium) is (λ start same. (
    ended.legal start same,
    kept.pairs (replay start (weave (map (λ v. v.own) views))) (ended.replay_is start same),
  ))

  -- and all words but the state word are those of before
  pub was_ended : (replies : List (List Entry)) → map (λ v. v.own) views ≡ replies → WasEnded site replies medium
  was_ended replies is = record {
    words = word before;
    views = views;
    ended = ended;
    told = is;
    same = λ i within other. get_or-take (words_of site.shape) last i 0 within ∙ ap (λ (ws : Words). ws i) run.words_are ∙ changes_state_alone site.shape (word before) [] run.events i other;
  }

-- THE CLOSE IS FINISHED, by another name of the shape, and of the words that are given
pub finish : (site : Ground) (shape : Shape) (before last out : List ℕ) (views : List View) (replies : List (List Entry)) → shape ≡ site.shape → IsEnd site (word before) views
    → ((i : ℕ) → slice_index before i < 2 ^ 64) → SaysShape site.shape site.front → marker_in (site.front state_word) ≡ 0 → IsClosedFrom shape (word before) (word last)
    → words_of site.shape ≤ length last → out ≡ take (words_of shape) last → map (λ v. v.own) views ≡ replies
    → IsSoundImage site.shape out × IsClean (frame_of site.shape (slice_index out)) × HasWhatWasReplied site replies out × WasEnded site replies out
finish site shape before last out views replies same ended fits says unmarked run long is told =
    let here : IsClosedFrom site.shape (word before) (word last) = subst (λ (g : Shape). IsClosedFrom g (word before) (word last)) same run in
    let given : out ≡ take (words_of site.shape) last = is ∙ ap (λ (g : Shape). take (words_of g) last) same in
    subst (λ (ws : List ℕ). IsSoundImage site.shape ws × IsClean (frame_of site.shape (slice_index ws)) × HasWhatWasReplied site replies ws × WasEnded site replies ws) (sym given) (
      sound site before last views ended fits says unmarked here long,
      clean site before last views ended fits says unmarked here long,
      replied site before last views ended fits says unmarked here long replies told,
      was_ended site before last views ended fits says unmarked here long replies told,
    )
