-- Behind a flush a stage stays, and behind a fence it stays or the next one begins.
use Rattle.std.proofs.Common.{◌≡◌, ◌≢◌, ℕ, ◌+◌, ◌-◌, ◌*◌, ◌/◌, ◌^◌, ◌<◌, ◌≤◌, inl, inr, Bool, true, false, cond, length, Option, None, Some, List, [], refl, sym, ap, ◌∙◌, subst, arith}
use Rattle.std.specs.Prelude.{⊤, nat_lt}
use Rattle.std.proofs.lemmas.Option.{none-some, same_Some}
use Rattle.op_core.specs.declared.want.Want.{Want}
use Rattle.op_core.specs.declared.want.Want.TheVariants.{Flush, Fence}
use Rattle.trace.specs.Events.{line_of}
use Rattle.image_layout.specs.Places.{Shape, root_word, entry_at, words_of, first_segment, segment_words}
use Rattle.image_layout.proofs.Areas.{entry_before}
use Rattle.map_model.specs.declared.call.Call.{Call}
use Rattle.world.specs.declared.site.Site.{Site}
use Rattle.world.specs.Ground.{Ground, IsGround}
use Rattle.world.specs.Views.{View, Has, IsLoose}
use Rattle.world.specs.Kinds.{flushes, view_after}
use Rattle.world.specs.areas.Areas.{header_word}
use Rattle.world.specs.areas.Kinds.{settles, view_then}
use Rattle.world.proofs.basics.Seats.{flush_loose}
use Rattle.world.proofs.moving.Known.{slot_within}
use Rattle.world.proofs.holders.directing.Known.{front_far}
use Rattle.world.proofs.fitting.OneHolder.{head_in_slot}
use Rattle.rounds.specs.declared.rounds.RoundStep.TheVariants.{Storing, Flushing, Fencing}
use Rattle.rounds.specs.declared.rounds.Rounds.{Rounds}
use Rattle.rounds.specs.Steps.{at_step, begun, rounds_wanted, rounds_taken}
use Rattle.rounds.specs.Stands.{RoundStands}
use Rattle.rounds.specs.Events.{IsStore, IsFlush}
use Rattle.trace.proofs.Listed.{has_of_contains}
use Rattle.whole_segment.specs.Rounds.{touched}
use Rattle.whole_segment.proofs.OneRound.{touched_has}
use Rattle.rounds.proofs.Lines.{lines_are_stored}
use Rattle.rounds.proofs.Settling.{round_behind}
use Rattle.directory_op.specs.declared.op.Stage.{Stage}
use Rattle.directory_op.specs.declared.op.Stage.TheVariants.{Fill, Filled, Deepen, Deepened, GoLive, Live, Enter, Entered}
use Rattle.directory_op.specs.declared.op.DirectoryStep.{DirectoryStep}
use Rattle.directory_op.specs.declared.op.DirectoryStep.TheVariants.{Store}
use Rattle.directory_op.specs.declared.op.DirectoryOp.{DirectoryOp}
use Rattle.directory_op.specs.Places.{entry_word_at}
use Rattle.directory_op.specs.Steps.{next_store}
use Rattle.directory_op.specs.Fits.{IsStoredIn, IsStoring, SuitsStage, SuitsStore}
use Rattle.directory_op.proofs.Words.{entry_is, head_is}
use Rattle.directory_op.proofs.Keeping.{Keeps}
use Rattle.directory_op.proofs.stages.Staying.{stage_stays}

-- ---- lines of the image
-- the line of a word of the image is one of the image
pub line_within : (shape : Shape) (i : ℕ) → i < words_of shape → 8 * line_of i + 8 ≤ words_of shape
line_within shape i low = by ((32 + 2 ^ (shape.depth + 1) - 1 + 31) / 32) shape.segments i low
  where
    by : (q s i : ℕ) → i < q * 32 + segment_words * s → 8 * (i / 8) + 8 ≤ q * 32 + segment_words * s
    by q s i low = omega (arith, low)

front_within : (shape : Shape) (i : ℕ) → i < first_segment shape → i < words_of shape
front_within shape i low = by (first_segment shape) shape.segments i low
  where
    by : (f s i : ℕ) → i < f → i < f + segment_words * s
    by f s i low = omega (arith, low)

-- behind a store a round has begun, and behind a flush it is to be fenced
pub stored_not_begun : (rounds : Rounds) (next : Option (ℕ × ℕ)) (w : Want) → IsStore rounds next w → rounds_taken rounds next ≡ begun → ⊥
stored_not_begun rounds next w s e =
    subst (λ (r : Rounds). Has (line_of s.word) r.round) (sym s.leaves ∙ e) (has_of_contains (line_of s.word) (touched rounds.round (line_of s.word)) (touched_has rounds.round (line_of s.word)))

flushed_by : (lines : List ℕ) (more : Bool) (i : ℕ) → at_step lines (cond more (Flushing (i + 1)) Fencing) ≡ begun → ⊥
flushed_by lines true i e = not_flushing (i + 1) (ap (λ (r : Rounds). r.step) e)
  where
    not_flushing : (k : ℕ) → Flushing k ≡ Storing → ⊥
    not_flushing k e = cc
flushed_by lines false i e = not_fencing (ap (λ (r : Rounds). r.step) e)
  where
    not_fencing : Fencing ≡ Storing → ⊥
    not_fencing e = cc

pub flushed_not_begun : (rounds : Rounds) (next : Option (ℕ × ℕ)) (w : Want) → IsFlush rounds next w → rounds_taken rounds next ≡ begun → ⊥
flushed_not_begun rounds next w f e = flushed_by rounds.round (nat_lt (f.number + 1) (length rounds.round)) f.number (sym f.leaves ∙ e)

module _ (site : Ground) (ground : IsGround site) (here : Site) (call : Call) (op : DirectoryOp) where
  -- ---- the words that are stored
  module _ (same : op.copied.whole.site.geometry ≡ site.shape) where
    pub entry_near : (depth index : ℕ) → depth ≤ site.shape.depth → index < 2 ^ depth → entry_word_at op.copied.whole.site.geometry depth index < words_of site.shape
    entry_near depth index low near = subst (λ i. i < words_of site.shape) (sym (entry_is op.copied.whole.site.geometry site.shape depth index same low ground.shape.depth near))
        (front_within site.shape (entry_at depth index) (entry_before site.shape depth index low near))

    root_near : root_word < words_of site.shape
    root_near = by (first_segment site.shape) (front_far site.shape) site.shape.segments
      where
        by : (f : ℕ) → 32 ≤ f → (s : ℕ) → 8 < f + segment_words * s
        by f far s = omega (arith, far)

  shape_here : (v : View) (stage : Stage) → SuitsStage site here op call stage v → op.copied.whole.site.geometry ≡ site.shape
  shape_here v (Fill place value) s = s.filling.new.split.is.located.shape
  shape_here v Filled s = s.new.split.is.located.shape
  shape_here v Deepen s = s.new.split.is.located.shape
  shape_here v Deepened s = s.new.split.is.located.shape
  shape_here v GoLive s = s.new.split.is.located.shape
  shape_here v Live s = s.split.is.located.shape
  shape_here v (Enter index) s = s.entering.live.split.is.located.shape
  shape_here v Entered s = s.live.split.is.located.shape

  pub next_near : (v : View) (stage : Stage) → SuitsStage site here op call stage v → (word value : ℕ) → next_store op stage ≡ Some (word, value) → word < words_of site.shape
  next_near v (Fill place x) s word value e = subst (λ (p : ℕ × ℕ). p.0 < words_of site.shape) (same_Some _ _ e) (entry_near (shape_here v (Fill place x) s) op.root place s.filling.doubles.deep s.low)
  next_near v Filled s word value e = absurd (none-some _ e)
  next_near v Deepen s word value e = subst (λ (p : ℕ × ℕ). p.0 < words_of site.shape) (same_Some _ _ e) (root_near (shape_here v Deepen s))
  next_near v Deepened s word value e = absurd (none-some _ e)
  next_near v GoLive s word value e = subst (λ (p : ℕ × ℕ). p.0 < words_of site.shape) (same_Some _ _ e)
      (subst (λ i. i < words_of site.shape) (sym (head_is op.copied.whole.site.geometry site.shape op.copied.side (shape_here v GoLive s) s.new.split.copy.slot))
      (slot_within site.shape op.copied.side (header_word site.shape op.copied.side) s.new.split.copy.slot (head_in_slot site.shape op.copied.side)))
  next_near v Live s word value e = absurd (none-some _ e)
  next_near v (Enter index) s word value e = subst (λ (p : ℕ × ℕ). p.0 < words_of site.shape) (same_Some _ _ e) (entry_near (shape_here v (Enter index) s) op.root index s.entering.root.deep s.low)
  next_near v Entered s word value e = absurd (none-some _ e)

  module _ (v : View) (stage : Stage) (s : SuitsStore site here op call stage v) where
    abbrev next : Option (ℕ × ℕ)
    next = next_store op stage

    abbrev later : DirectoryStep → DirectoryOp
    later step = record op { rounds = rounds_taken op.rounds next; step = step }

    pub lines_behind : (line : ℕ) → Has line (rounds_taken op.rounds next).round → 8 * line + 8 ≤ words_of site.shape
    lines_behind = (lines_are_stored (λ line. 8 * line + 8 ≤ words_of site.shape)).keeps op.rounds next s.storing.lines
        (λ word value e. line_within site.shape word (next_near v stage s.at word value e))

    -- ---- what is loose in the stage that is next
    pub storing_behind : (u : View) (then : Stage) (step : DirectoryStep) → RoundStands (rounds_taken op.rounds next) u → ((p : ℕ × ℕ) → IsLoose u p → IsStoredIn site here op then p.0)
        → IsStoring site here (later step) then u
    storing_behind u then step round loose = record {
      heads = record { head = s.storing.heads.head; side = s.storing.heads.side };
      round = round;
      loose = stored u then step loose;
      lines = lines_behind;
    }
      where
        stored : (u : View) (then : Stage) (step : DirectoryStep) → ((p : ℕ × ℕ) → IsLoose u p → IsStoredIn site here op then p.0) → (p : ℕ × ℕ) → IsLoose u p → IsStoredIn site here (later step) then p.0
        stored u (Fill place value) step loose = loose
        stored u Filled step loose = loose
        stored u Deepen step loose = loose
        stored u Deepened step loose = loose
        stored u GoLive step loose = loose
        stored u Live step loose = loose
        stored u (Enter index) step loose = loose
        stored u Entered step loose = loose

    -- ---- behind a flush
    module _ (n line : ℕ) (is : rounds_wanted op.rounds next ≡ Some (Flush line)) (not_begun : rounds_taken op.rounds next ≡ begun → ⊥) where
      abbrev flushed : View
      flushed = view_after site.shape (flushes line) n v

      keeps_flushed : Keeps (λ i. ⊤) v flushed
      keeps_flushed = record { held = refl; planned = refl; moving = refl; owed = refl; facts = λ fact no has. has; known = λ i x p has. has }

      pub flush_stands : SuitsStore site here (later (Store stage)) call stage flushed
      flush_stands = record {
        storing = storing_behind flushed stage (Store stage) (round_behind site.shape op.rounds next n v s.storing.round [] (Flush line) is)
            (λ p loose. s.storing.loose p (flush_loose line v.dirty v.flushed p loose));
        at = stage_stays site here call op (rounds_taken op.rounds next) (Store stage) v flushed keeps_flushed refl (λ fact has. has) stage s.at;
        open_round = λ e none. not_begun e;
      }

    -- ---- behind a fence that says nothing
    module _ (n : ℕ) (is : rounds_wanted op.rounds next ≡ Some Fence) where
      abbrev fenced : View
      fenced = view_then site.shape (settles []) n v

      pub keeps_fenced : Keeps (λ i. ⊤) v fenced
      keeps_fenced = record { held = refl; planned = refl; moving = refl; owed = refl; facts = λ fact no has. has; known = λ i x p has. has }

      pub round_fenced : RoundStands (rounds_taken op.rounds next) fenced
      round_fenced = round_behind site.shape op.rounds next n v s.storing.round [] Fence is

      fenced_loose : (p : ℕ × ℕ) → IsLoose fenced p → IsLoose v p
      fenced_loose p loose = elim loose [ inl d ↦ inl d | inr none ↦ absurd none ]

      next_same : (step : DirectoryStep) (of : Stage) → next_store (later step) of ≡ next_store op of
      next_same step (Fill place value) = refl
      next_same step Filled = refl
      next_same step Deepen = refl
      next_same step Deepened = refl
      next_same step GoLive = refl
      next_same step Live = refl
      next_same step (Enter index) = refl
      next_same step Entered = refl

      pub fence_stands : next ≢ None → SuitsStore site here (later (Store stage)) call stage fenced
      fence_stands some = record {
        storing = storing_behind fenced stage (Store stage) round_fenced (λ p loose. s.storing.loose p (fenced_loose p loose));
        at = stage_stays site here call op (rounds_taken op.rounds next) (Store stage) v fenced keeps_fenced refl (λ fact has. has) stage s.at;
        open_round = λ e none. some (sym (next_same (Store stage) stage) ∙ none);
      }
