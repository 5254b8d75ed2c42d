-- The world at the end of a restart: settled, a table with the image's pairs, with the version kept or raised, and nobody has done anything.
use Rattle.std.proofs.Common.{◌≡◌, ◌≤◌, ℕ, zero, suc, ◌+◌, ◌^◌, ◌<◌, Bool, true, false, List, [], refl, sym, ap, subst, ◌∙◌, arith}
use Rattle.std.specs.Prelude.{if◌then◌else◌, slice_index, replicate}
use mathlib.Core.Option.{some-injective, some-ne-none}
use Rattle.std.specs.FinMap.{get}
use Rattle.trace.specs.Events.{Words, Trace, value}
use Rattle.trace.specs.Progress.{pending}
use Rattle.trace.specs.Steps.{HadSinceSettled}
use Rattle.image_layout.specs.Places.{Shape, state_word, words_of}
use Rattle.image_layout.specs.StateWord.{marker_in, last_image_version}
use Rattle.sound_image.specs.Image.{IsSoundImage}
use Rattle.bucket_words.specs.Hits.{find}
use Rattle.op_core.specs.declared.want.Want.TheVariants.{Done}
use Rattle.world.specs.Views.{View, At}
use Rattle.world.specs.Parts.{total}
use Rattle.world.specs.World.{fresh_view}
use Rattle.world.proofs.moving.beginning.Restarting.{sound_images_begin}
use Rattle.restart_op.specs.declared.restart.Started.{Started}
use Rattle.restart_op.specs.declared.restart.RestartStep.{RestartStep}
use Rattle.restart_op.specs.declared.restart.RestartStep.TheVariants.{Load, LoadHead, StoreHead, FlushHead, FenceHeads, Store, Flush, Fence, Ended}
use Rattle.restart_op.specs.Restart.{started_for, wanted_in, wanted, taken}
use Rattle.restart_op.specs.Budget.{events_of_sweep, events_of_restart}
use Rattle.restart_op.specs.Course.{Course}
use Rattle.restart_op.specs.AtRest.{IsOpenStructure}
use Rattle.restart_op.specs.Restarted.{left_at, restarted_wholly, words_at_end, HasStarted, site_of, views_of, world_of, EndsStarted, IsRestart, RestartBegins, HasSeats, KeepsPairs, EndsAtRest, EndsOwned, EndsOpen}
use Rattle.restart_op.proofs.images.Frames.{IsReversioned}
use Rattle.restart_op.proofs.Opened.{open_structure, open_rest, open_own, open_found, same_find, had_there}
use Rattle.restart_op.proofs.restarts.Counting.{restart_counts}
use Rattle.restart_op.proofs.restarts.Versions.{some_and_fits, marker_clear, kept_or_raised, kept_of_clean, raised_of_others, is_left, started_alike, started_fits}
use Rattle.restart_op.proofs.restarts.Phases.{IsStored, Phase, has_started, phase_at}
use Rattle.restart_op.proofs.restarts.Cuts.{leaving_now}

-- ---- the callers
only_fresh : (n j : ℕ) (v : View) → At (replicate n (fresh_view 1)) j v → v ≡ fresh_view 1
only_fresh zero j v at = absurd (some-ne-none v (sym at))
only_fresh (suc n) zero v at = sym (some-injective (fresh_view 1) v at)
only_fresh (suc n) (suc j) v at = only_fresh n j v at

each_fresh : (n j : ℕ) (v : View) → At (views_of n) j v → v ≡ fresh_view v.callers
each_fresh n zero v at = let is = sym (some-injective (fresh_view 0) v at) in is ∙ ap (λ (u : View). fresh_view u.callers) (sym is)
each_fresh n (suc j) v at = let is = only_fresh n j v at in is ∙ ap (λ (u : View). fresh_view u.callers) (sym is)

count_fresh : (n : ℕ) → total (λ v. v.callers) (replicate n (fresh_view 1)) ≡ n
count_fresh zero = refl
count_fresh (suc n) = let rest = count_fresh n in omega (arith, rest)

seat_in : (n j : ℕ) → j < n → At (replicate n (fresh_view 1)) j (fresh_view 1)
seat_in zero j low = absurd (omega (arith, low))
seat_in (suc n) zero low = refl
seat_in (suc n) (suc j) low = seat_in n j (omega (arith, low))

pub has_seats : HasSeats
has_seats n zero from most = absurd (omega (arith, from))
has_seats n (suc j) from most = seat_in n j (omega (arith, most))

-- ---- the end
-- no event is left where it has ended, and there alone
is_ended : (shape : Shape) (words : Words) (s : RestartStep) (all : ℕ) → 4 ≤ all → events_of_restart shape words ≡ all → left_at shape words s + all ≡ all
    → (started : Started) × (s ≡ Ended started)
is_ended shape words Load all some is count = absurd (omega (arith, some, is, count))
is_ended shape words (LoadHead first slot) all some is count = absurd (omega (arith, count))
is_ended shape words (StoreHead first slot head) all some is count = absurd (omega (arith, count))
is_ended shape words (FlushHead slot end) all some is count = absurd (omega (arith, count))
is_ended shape words (FenceHeads end) all some is count = absurd (omega (arith, count))
is_ended shape words (Store started) all some is count = absurd (omega (arith, count))
is_ended shape words (Flush started) all some is count = absurd (omega (arith, count))
is_ended shape words (Fence started) all some is count = absurd (omega (arith, count))
is_ended shape words (Ended started) all some is count = (started, refl)

some_events : (shape : Shape) (b : Bool) → 4 ≤ (if b then events_of_sweep shape else 4)
some_events shape true = omega arith
some_events shape false = omega arith

module _ (shape : Shape) (words : List ℕ) (image : IsSoundImage shape words) where
  abbrev word : Words
  word = slice_index words

  abbrev end : Course wanted taken shape
  end = restarted_wholly shape words

  abbrev started : Started
  started = started_for (word state_word)

  abbrev may : Trace → ℕ → ℕ → Type 0
  may es i x = HadSinceSettled word es i x

  abbrev PhaseNow : RestartStep → Type 0
  PhaseNow s = Phase shape image.in_range.some word word may (leaving_now word) s end.words end.trace

  has_ended : (left : Started) × (end.op.step ≡ Ended left)
  has_ended =
      let all = events_of_restart shape word in
      is_ended shape word end.op.step all (some_events shape _) refl (restart_counts shape words all image.in_range (omega arith))

  phase : PhaseNow (Ended has_ended.0)
  phase = subst PhaseNow has_ended.1 (phase_at shape image.in_range.some word word may (leaving_now word) [] refl (λ i x within had. had) refl (events_of_restart shape word))

  stored : IsStored shape image.in_range.some word word may (leaving_now word) has_ended.0 end.words end.trace
  stored = phase.0

  pub words_are : end.words ≡ value word end.trace
  words_are = sym stored.value_is

  pub settled : (i y : ℕ) → i < words_of shape → HadSinceSettled word end.trace i y → y ≡ end.words i
  settled i y within had = phase.1 i y within had

  pub none_waits : pending 0 end.trace ≡ []
  none_waits = phase.2

  pub left : HasStarted shape started word end.words
  left = has_started shape image.in_range.some word word may (leaving_now word) has_ended.0 end.words end.trace stored

  ended : end.op.step ≡ Ended started
  ended = has_ended.1 ∙ ap (λ s. Ended s) stored.started_is

  wants_no_more : wanted end.op ≡ Done
  wants_no_more = ap (wanted_in end.op.geometry) ended

  clear : marker_in (end.words state_word) ≡ 0
  clear = marker_clear shape words image end.words left

  alike : IsReversioned shape word end.words
  alike = started_alike shape words image end.words left

  fits : (i : ℕ) → end.words i < 2 ^ 64
  fits = started_fits shape words image end.words left

  open_now : IsOpenStructure shape end.words
  open_now = open_structure shape words image end.words alike clear (kept_or_raised shape words image end.words left)

  same_now : (k : ℕ) → find shape end.words k ≡ find shape word k
  same_now k = same_find shape words image end.words alike k

-- a byte is at most the last version
upto_last : (v : ℕ) → v < 2 ^ 8 → v ≤ last_image_version
upto_last v low = omega (arith, low)

pub ends_started : EndsStarted
ends_started shape words image =
    let version = some_and_fits shape words image (words_at_end shape words) (left shape words image) in
    record {
      ended = ended shape words image;
      wants_no_more = wants_no_more shape words image;
      left = left shape words image;
      kept = kept_of_clean shape words image (words_at_end shape words) (left shape words image);
      raised = raised_of_others shape words image (words_at_end shape words) (left shape words image);
      some = version.0;
      fits = upto_last (started_for (slice_index words state_word)).version version.1;
    }

pub is_restart : IsRestart
is_restart shape words callers image few = record {
  sound = image;
  few = few;
  words_are = words_are shape words image;
  settled = settled shape words image;
  left = is_left shape words image (words_at_end shape words) (left shape words image);
  front = λ i _ _. refl;
  heads = λ s slot. refl;
  pairs = λ k. sym (same_now shape words image k);
  fresh = each_fresh callers;
  callers = (let all = count_fresh callers in omega (arith, all));
}

pub restart_begins : RestartBegins
restart_begins shape words callers image few =
    sound_images_begin (site_of shape words callers) words (world_of shape words callers) (is_restart shape words callers image few)

pub keeps_pairs : KeepsPairs
keeps_pairs shape words m image =
    let at_end = words_at_end shape words in (
      λ has k. sym (open_found shape words image at_end (alike shape words image) (fits shape words image) k (get m k) (has k)),
      λ finds k. had_there shape words image at_end (alike shape words image) (fits shape words image) k (get m k) (sym (finds k)),
    )

pub ends_open : EndsOpen
ends_open shape words image = open_now shape words image

pub ends_at_rest : EndsAtRest
ends_at_rest shape words image =
    let at_end = words_at_end shape words in
    open_rest shape words image at_end (alike shape words image) (clear shape words image) (kept_or_raised shape words image at_end (left shape words image))

pub ends_owned : EndsOwned
ends_owned shape words image =
    let at_end = words_at_end shape words in
    open_own shape words image at_end (alike shape words image) (clear shape words image) (kept_or_raised shape words image at_end (left shape words image))
