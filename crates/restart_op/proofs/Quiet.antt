-- All values fit where those that events write do; and the world at the end of a restart is quiet.
use Rattle.std.proofs.Common.{◌≡◌, ℕ, ◌+◌, ◌-◌, ◌*◌, ◌/◌, ◌^◌, ◌<◌, List, [], ◌∷◌, length, inl, inr, refl, sym, ap, subst, ◌∙◌, arith}
use Rattle.std.specs.Prelude.{slice_index, drop}
use Rattle.std.proofs.lemmas.Bool.{cases_lt}
use Rattle.trace.specs.Events.{Words, Event, Trace, value}
use Rattle.trace.specs.Steps.{Writes, HadSinceSettled}
use Rattle.trace.proofs.Moments.{value_at_more, value_at_now, newest_is, only_newest, since_more}
use Rattle.image_layout.specs.Places.{Shape, first_segment}
use Rattle.sound_image.specs.Image.{IsSoundImage}
use Rattle.world.specs.Views.{View}
use Rattle.world.specs.World.{fresh_view}
use Rattle.world.proofs.moving.media.Tying.{restarts_move_well}
use Rattle.world.specs.Wants.{word_of, event_of}
use Rattle.world.specs.areas.Areas.{header_word}
use Rattle.restart_op.specs.declared.restart.Started.{Started}
use Rattle.restart_op.specs.declared.restart.RestartStep.{RestartStep}
use Rattle.restart_op.specs.declared.restart.RestartStep.TheVariants.{Load, LoadHead, StoreHead, FlushHead, FenceHeads, Store, Flush, Fence, Ended}
use Rattle.restart_op.specs.Restart.{wanted_in}
use Rattle.restart_op.specs.Budget.{events_of_restart}
use Rattle.restart_op.specs.Restarted.{restarted, words_at_end, site_of, world_of}
use Rattle.world.specs.Attempts.{OwesNothing}
use Rattle.restart_op.specs.Closing.{HaveFit, FitsByEvents, QuietAfterRestart}
use Rattle.restart_op.proofs.restarts.Along.{IsKeptBy, along}
use Rattle.restart_op.proofs.restarts.Phases.{Phase, phase_on}
use Rattle.restart_op.proofs.restarts.Cuts.{leaving_now}
use Rattle.restart_op.proofs.restarts.Beginning.{ends_started, restart_begins, ends_open, none_waits}

-- ---- values
-- values fit at first where the words do
pub fits_at_first : (start : Words) → ((i : ℕ) → start i < 2 ^ 64) → HaveFit start []
fits_at_first start fits i t =
    let none : length {A = Event} [] - t ≡ 0 = omega arith in
    subst (λ (n : ℕ). value start (drop n []) i < 2 ^ 64) (sym none) (fits i)

-- the newest values fit
fits_now : (start : Words) (es : Trace) → HaveFit start es → (i : ℕ) → value start es i < 2 ^ 64
fits_now start es fits i = subst (λ (n : ℕ). n < 2 ^ 64) (value_at_now start es i) (fits i (length es))

pub fits_by_events : FitsByEvents
fits_by_events start e es writes fits i t = elim (cases_lt (length es) t) [
  | inl late ↦
      let none : length (e ∷ es) - t ≡ 0 = omega (arith, late) in
      subst (λ (n : ℕ). value start (drop n (e ∷ es)) i < 2 ^ 64) (sym none) newest
  | inr early ↦ subst (λ (n : ℕ). n < 2 ^ 64) (sym (value_at_more start e es t i early)) (fits i t)
]
  where
    newest : value start (e ∷ es) i < 2 ^ 64
    newest = elim (since_more start e es (length es) i (value start (e ∷ es) i) (newest_is start (e ∷ es) (length es) i)) [
      | inl w ↦ writes i (value start (e ∷ es) i) w
      | inr h ↦ subst (λ (n : ℕ). n < 2 ^ 64) (sym (only_newest start es (length es) i (value start (e ∷ es) i) (omega arith) h)) (fits_now start es fits i)
    ]

-- ---- after a restart
owes_nothing : (v : View) → v ≡ fresh_view v.callers → OwesNothing v
owes_nothing v is = record {
  held = ap (λ (u : View). u.held) is;
  dirty = ap (λ (u : View). u.dirty) is;
  flushed = ap (λ (u : View). u.flushed) is;
  planned = ap (λ (u : View). u.planned) is;
  moving = ap (λ (u : View). u.moving) is;
  owed = ap (λ (u : View). u.owed) is;
  areas = ap (λ (u : View). u.areas) is;
}

module _ (shape : Shape) (words : List ℕ) (image : IsSoundImage shape words) where
  abbrev word : Words
  word = slice_index words

  abbrev PhaseNow : RestartStep → Words → Trace → Type 0
  PhaseNow = Phase shape image.in_range.some word word (λ es i x. HadSinceSettled word es i x) (leaving_now word)

  -- a restart writes headers without their version, and the version
  writes_fit : (s : RestartStep) (ws : Words) (es : Trace) → PhaseNow s ws es → (now : Words) (n i x : ℕ) → Writes now (event_of shape (wanted_in shape s) n 0) i x → x < 2 ^ 64
  writes_fit Load ws es h now n i x w = absurd w
  writes_fit (LoadHead first slot) ws es h now n i x w = absurd w
  writes_fit (StoreHead first slot head) ws es h now n i x w = lower x (word (header_word shape slot)) (w.1 ∙ h.3) (image.each_fits (header_word shape slot))
    where
      lower : (x y : ℕ) → x ≡ y / 2 ^ 8 * 2 ^ 8 → y < 2 ^ 64 → x < 2 ^ 64
      lower x y is low = omega (arith, is, low)
  writes_fit (FlushHead slot end) ws es h now n i x w = absurd w
  writes_fit (FenceHeads end) ws es h now n i x w = absurd w
  writes_fit (Store started) ws es h now n i x w =
      let fits = (ends_started shape words image).fits in
      let is = w.1 ∙ ap (λ (s : Started). s.version) h.started_is in omega (arith, is, fits)
  writes_fit (Flush started) ws es h now n i x w = absurd w
  writes_fit (Fence started) ws es h now n i x w = absurd w
  writes_fit (Ended started) ws es h now n i x w = absurd w

  abbrev FitsIn : RestartStep → Words → Trace → Type 0
  FitsIn s ws es = PhaseNow s ws es × HaveFit word es

  fits_on : IsKeptBy shape FitsIn
  fits_on s ws es h = (
    phase_on shape image.in_range.some word word (λ es i x. HadSinceSettled word es i x) (leaving_now word) s ws es h.0,
    fits_by_events word (event_of shape (wanted_in shape s) (ws (word_of shape (wanted_in shape s))) 0) es
        (λ i x w. writes_fit s ws es h.0 (value word es) (ws (word_of shape (wanted_in shape s))) i x w) h.1,
  )

  fits_restarted : (n : ℕ) → HaveFit word (restarted shape words n).trace
  fits_restarted n = (along shape FitsIn fits_on word [] ((refl, refl, (λ i x within had. had), refl), fits_at_first word image.each_fits) n).1

  -- the first four words stay
  before_heads : (f i t : ℕ) → i < f → i ≡ f + 2144 * t + 1 → ⊥
  before_heads f i t low e = omega (arith, low, e)

  early : (i : ℕ) → i < 4 → words_at_end shape words i ≡ word i
  early i low = (ends_started shape words image).left.others i (λ at. omega (arith, low, at)) (λ _ t _ e. before_heads (first_segment shape) i t (omega (arith, low)) e)

pub quiet_after_restart : QuietAfterRestart
quiet_after_restart shape words callers image few =
    let begins = restart_begins shape words callers image few in
    let says = image.says_shape in
    let same = early shape words image in
    record {
      well = restarts_move_well (site_of shape words callers) (slice_index words) (world_of shape words callers) begins;
      nothing = λ j v at. owes_nothing v (begins.restarted.fresh j v at);
      fits = fits_restarted shape words image (events_of_restart shape (slice_index words));
      says = record {
        magic_word = same 0 (omega arith) ∙ says.magic_word;
        format = same 1 (omega arith) ∙ says.format;
        segments = same 2 (omega arith) ∙ says.segments;
        depth = same 3 (omega arith) ∙ says.depth;
      };
      structure = ends_open shape words image;
      fenced = none_waits shape words image;
    }
