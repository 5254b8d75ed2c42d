-- Each event is of its kind, may be taken, and leaves a view that stands for the next state.
use Rattle.std.proofs.Common.{◌≡◌, ◌≢◌, ℕ, ◌*◌, ◌/◌, ◌^◌, ◌<◌, ◌≤◌, ◌⊎◌, inl, inr, Bool, true, false, cond, Option, None, Some, List, [], ◌∷◌, refl, sym, ap, ◌∙◌, subst, arith}
use Rattle.std.specs.Prelude.{◌==◌}
use Rattle.std.proofs.lemmas.Option.{none-some, same_Some}
use Rattle.trace.specs.Events.{Words}
use Rattle.op_core.specs.declared.want.Want.{Want}
use Rattle.op_core.specs.declared.want.Want.TheVariants as want
use Rattle.op_core.specs.declared.want.Ans.TheVariants.{Won, Lost}
use Rattle.segment_head.specs.HeadWord.{depth_in}
use Rattle.image_layout.specs.Places.{Shape, block, first_segment}
use Rattle.image_layout.specs.Volatile.{directory_guard}
use Rattle.image_layout.proofs.Areas.{entry_before}
use Rattle.way.specs.Ways.{head_word}
use Rattle.frame_facts.specs.DeadSlots.{IsInSlot}
use Rattle.map_model.specs.declared.call.Call.{Call}
use Rattle.world.specs.declared.site.Site.{Site}
use Rattle.world.specs.Ground.{Ground, IsGround}
use Rattle.world.specs.Views.{View, Has, At}
use Rattle.world.specs.Wants.{answer_to, word_of}
use Rattle.world.specs.Kinds.{flushes, asks_power, view_after}
use Rattle.world.specs.areas.Areas.{Area, Segment, Side, Whole, Directory, header_word}
use Rattle.world.specs.Invariant.{Holds}
use Rattle.world.specs.areas.Kinds.{of_directory, reads, settles, with_guard, view_then}
use Rattle.world.specs.StepKinds.{StepKind, of_call, wanted_of, view_by, MayTake}
use Rattle.world.specs.areas.Splitting.{MayPublish}
use Rattle.world.proofs.fitting.OneHolder.{head_in_slot}
use Rattle.rounds.specs.Steps.{rounds_stores, rounds_wanted, want_or_done, event_wanted, rounds_taken}
use Rattle.rounds.specs.Events.{IsStore, IsFlush, IsFence}
use Rattle.rounds.proofs.Wanted.{by_event, event_is}
use Rattle.rounds.proofs.Settling.{settled_firm, fence_dirty}
use Rattle.split_op.specs.Copied.{split_head, side_head, copied_words, KeepsCopied}
use Rattle.directory_op.specs.declared.op.DirectoryEnd.TheVariants.{Off}
use Rattle.directory_op.specs.declared.op.Stage.{Stage}
use Rattle.directory_op.specs.declared.op.Stage.TheVariants.{Fill, Filled, Deepen, Deepened, GoLive, Live, Enter, Entered}
use Rattle.directory_op.specs.declared.op.DirectoryStep.{DirectoryStep}
use Rattle.directory_op.specs.declared.op.DirectoryStep.TheVariants.{LoadHead, LoadSideHead, TakeGuard, AskPower, LoadRoot, LoadEntry, Store, GiveGuard, Ended}
use Rattle.directory_op.specs.declared.op.DirectoryOp.{DirectoryOp}
use Rattle.directory_op.specs.Steps.{shape_of, next_store, stage_after, settled_to, passed, wanted_in, taken_in}
use Rattle.directory_op.specs.Fits.{SuitsStore, SuitsStep, IsWaiting}
use Rattle.directory_op.specs.DirectoryPart.{stage_kind, kind_in}
use Rattle.directory_op.proofs.Words.{doubled, head_is, entry_from}
use Rattle.directory_op.proofs.Sides.{head_kept, side_kept}
use Rattle.directory_op.proofs.guard.Waiting.{copied_stays, new_with_guard, settled_with_guard}
use Rattle.directory_op.proofs.stages.Passing.{at_rounds, behind_store, behind_flush, behind_fence, behind_last_fence}
use Rattle.directory_op.proofs.stages.Rounding.{stored_not_begun, flushed_not_begun, flush_stands, fence_stands}
use Rattle.directory_op.proofs.stages.Storing.{fill_stands, deepen_stands, live_stands, enter_stands}
use Rattle.directory_op.proofs.stages.Fencing.{filled_stands, deepened_stands, live_settled, entered_settled}
use Rattle.directory_op.proofs.guard.Guarding.{keeps_read, root_stands, old_is, entry_stands, published_left}
use Rattle.directory_op.proofs.Permitting.{fill_may, root_may, live_may, live_fence_may, enter_may, last_fence_may, new_dead, no_sides, fence_may}

-- ---- the kinds of flushes and fences
kind_flush : (op : DirectoryOp) (stage : Stage) (line : ℕ) → stage_kind op stage (Some (want.Flush line)) ≡ of_call (flushes line)
kind_flush op (Fill place value) line = refl
kind_flush op Filled line = refl
kind_flush op Deepen line = refl
kind_flush op Deepened line = refl
kind_flush op GoLive line = refl
kind_flush op Live line = refl
kind_flush op (Enter index) line = refl
kind_flush op Entered line = refl

module _ (site : Ground) (here : Site) (call : Call) (words : Words) (views : List View) (j : ℕ) (op : DirectoryOp) (v : View) (h : Holds site words views) (at : At views j v)
    (publish : MayPublish site v) where
  abbrev shape : Shape
  shape = site.shape

  abbrev ground : IsGround site
  ground = h.site_is

  knows : (i x : ℕ) → Has (i, x) v.known → words i ≡ x
  knows i x has = (h.known.knows j v i x at has).0

  abbrev Stood : Stage → Type 0
  Stood stage = SuitsStore site here op call stage v

  abbrev next : Stage → Option (ℕ × ℕ)
  next stage = next_store op stage

  -- ---- what is wanted
  fence_wants : (stage : Stage) → want.Fence ≡ wanted_of shape (stage_kind op stage (Some want.Fence))
  fence_wants (Fill place value) = refl
  fence_wants Filled = refl
  fence_wants Deepen = refl
  fence_wants Deepened = refl
  fence_wants GoLive = refl
  fence_wants Live = refl
  fence_wants (Enter index) = refl
  fence_wants Entered = refl

  store_wants : (stage : Stage) → Stood stage → (p : ℕ × ℕ) → next stage ≡ Some p → want.Store p.0 p.1 ≡ wanted_of shape (stage_kind op stage (Some (want.Store p.0 p.1)))
  store_wants (Fill place value) s p e = refl
  store_wants Filled s p e = refl
  store_wants Deepen s p e = refl
  store_wants Deepened s p e = refl
  store_wants GoLive s p e = ap (λ w. want.Store w p.1) (ap (λ (q : ℕ × ℕ). q.0) (sym (same_Some _ _ e)) ∙ head_is op.copied.whole.site.geometry shape op.copied.side s.at.new.split.is.located.shape s.at.new.split.copy.slot)
  store_wants Live s p e = refl
  store_wants (Enter index) s p e = refl
  store_wants Entered s p e = refl

  stage_wants : (stage : Stage) → Stood stage → rounds_wanted op.rounds (next stage) ≢ None
      → want_or_done (rounds_wanted op.rounds (next stage)) ≡ wanted_of shape (stage_kind op stage (rounds_wanted op.rounds (next stage)))
  stage_wants stage s some = by_event op.rounds (next_store op stage) (λ o. want_or_done o ≡ wanted_of shape (stage_kind op stage o))
      (λ p e on w is. store_wants stage s p e)
      (λ line e has w is. ap (wanted_of shape) (sym (kind_flush op stage line)))
      (λ e w is. fence_wants stage) some

  -- ---- what may be taken
  store_may : (stage : Stage) → Stood stage → (p : ℕ × ℕ) → next stage ≡ Some p → MayTake site (stage_kind op stage (Some (want.Store p.0 p.1))) v
  store_may (Fill place value) s p e = subst (λ (q : ℕ × ℕ). MayTake site (stage_kind op (Fill place value) (Some (want.Store q.0 q.1))) v) (same_Some _ _ e) (fill_may site here call op v ground place value s)
  store_may Filled s p e = absurd (none-some _ e)
  store_may Deepen s p e = subst (λ (q : ℕ × ℕ). MayTake site (stage_kind op Deepen (Some (want.Store q.0 q.1))) v) (same_Some _ _ e) (root_may site here call op v ground words knows s)
  store_may Deepened s p e = absurd (none-some _ e)
  store_may GoLive s p e = subst (λ (q : ℕ × ℕ). MayTake site (stage_kind op GoLive (Some (want.Store q.0 q.1))) v) (same_Some _ _ e) (live_may site here call op v ground publish s)
  store_may Live s p e = absurd (none-some _ e)
  store_may (Enter index) s p e = subst (λ (q : ℕ × ℕ). MayTake site (stage_kind op (Enter index) (Some (want.Store q.0 q.1))) v) (same_Some _ _ e) (enter_may site here call op v ground index s)
  store_may Entered s p e = absurd (none-some _ e)

  stage_fence_may : (stage : Stage) → Stood stage → v.dirty ≡ [] → MayTake site (stage_kind op stage (Some want.Fence)) v
  stage_fence_may (Fill place value) s dirty = fence_may site here call op v ground (new_dead site here call op v ground s.at.filling.new)
  stage_fence_may Filled s dirty = fence_may site here call op v ground (new_dead site here call op v ground s.at.new)
  stage_fence_may Deepen s dirty = fence_may site here call op v ground (new_dead site here call op v ground s.at.new)
  stage_fence_may Deepened s dirty = fence_may site here call op v ground (new_dead site here call op v ground s.at.new)
  stage_fence_may GoLive s dirty = fence_may site here call op v ground (new_dead site here call op v ground s.at.new)
  stage_fence_may Live s dirty = live_fence_may site here call op v ground s dirty
  stage_fence_may (Enter index) s dirty = fence_may site here call op v ground (λ m has. absurd (no_sides site here call op v ground s.at.entering.live.split.areas m has))
  stage_fence_may Entered s dirty = last_fence_may site here call op v ground s dirty

  stage_may : (stage : Stage) → Stood stage → rounds_wanted op.rounds (next stage) ≢ None → MayTake site (stage_kind op stage (rounds_wanted op.rounds (next stage))) v
  stage_may stage s some = by_event op.rounds (next_store op stage) (λ o. MayTake site (stage_kind op stage o) v)
      (λ p e on w is. store_may stage s p e)
      (λ line e has w is. subst (λ (k : StepKind). MayTake site k v) (sym (kind_flush op stage line)) (tt, tt))
      (λ e w is. stage_fence_may stage s (fence_dirty op.rounds (next stage) w v s.storing.round is)) some

  -- ---- the view behind an event
  module _ (n : ℕ) where
    abbrev StandsAt : DirectoryOp → View → Type 0
    StandsAt later u = SuitsStep site here later call later.step u

    -- behind the event of a stage
    abbrev Behind : Stage → Option Want → Type 0
    Behind stage o = StandsAt (taken_in op (Store stage) (answer_to (want_or_done o) n)) (view_by shape (stage_kind op stage o) n v)

    to_store : (stage : Stage) (w : Want) → IsStore op.rounds (next stage) w → (u : View) → StandsAt (at_rounds op (rounds_taken op.rounds (next stage)) (stage_after op stage)) u → StandsAt (passed op stage) u
    to_store stage w is u stands = subst (λ (o : DirectoryOp). StandsAt o u) (sym (behind_store op stage w is)) stands

    store_stands : (stage : Stage) → Stood stage → (p : ℕ × ℕ) → next stage ≡ Some p → rounds_stores op.rounds (next stage) ≡ true → (w : Want) → IsStore op.rounds (next stage) w → Behind stage (Some (want.Store p.0 p.1))
    store_stands (Fill place value) s p e on w is = subst (λ (q : ℕ × ℕ). Behind (Fill place value) (Some (want.Store q.0 q.1))) (same_Some _ _ e)
        (to_store (Fill place value) w is _ (fill_stands site ground here call op n v place value s on (stored_not_begun op.rounds (next (Fill place value)) w is)))
    store_stands Filled s p e on w is = absurd (none-some _ e)
    store_stands Deepen s p e on w is = subst (λ (q : ℕ × ℕ). Behind Deepen (Some (want.Store q.0 q.1))) (same_Some _ _ e)
        (to_store Deepen w is _ (deepen_stands site ground here call op n v s on (stored_not_begun op.rounds (next Deepen) w is)))
    store_stands Deepened s p e on w is = absurd (none-some _ e)
    store_stands GoLive s p e on w is = subst (λ (q : ℕ × ℕ). Behind GoLive (Some (want.Store q.0 q.1))) (same_Some _ _ e)
        (to_store GoLive w is _ (live_stands site ground here call op n v s on (stored_not_begun op.rounds (next GoLive) w is)))
    store_stands Live s p e on w is = absurd (none-some _ e)
    store_stands (Enter index) s p e on w is = subst (λ (q : ℕ × ℕ). Behind (Enter index) (Some (want.Store q.0 q.1))) (same_Some _ _ e)
        (to_store (Enter index) w is _ (enter_stands site ground here call op n v index s on (stored_not_begun op.rounds (next (Enter index)) w is)))
    store_stands Entered s p e on w is = absurd (none-some _ e)

    stage_flush_stands : (stage : Stage) → Stood stage → (line : ℕ) → rounds_wanted op.rounds (next stage) ≡ Some (want.Flush line) → (w : Want) → IsFlush op.rounds (next stage) w → Behind stage (Some (want.Flush line))
    stage_flush_stands stage s line e w is =
        subst (λ (k : StepKind). StandsAt (passed op stage) (view_by shape k n v)) (sym (kind_flush op stage line))
        (subst (λ (o : DirectoryOp). StandsAt o (view_after shape (flushes line) n v)) (sym (behind_flush op stage w is)) (flush_stands site ground here call op v stage s n line e (flushed_not_begun op.rounds (next stage) w is)))

    -- a fence behind which more is stored in the same stage
    on_fence : (stage : Stage) → Stood stage → next stage ≢ None → rounds_wanted op.rounds (next stage) ≡ Some want.Fence → (w : Want) → IsFence op.rounds (next stage) w
        → StandsAt (passed op stage) (view_then shape (settles []) n v)
    on_fence stage s some e w is = subst (λ (o : DirectoryOp). StandsAt o (view_then shape (settles []) n v)) (sym (behind_fence op stage w is some)) (fence_stands site ground here call op v stage s n e some)

    -- and the last one
    last_fence : (stage : Stage) → next stage ≡ None → (w : Want) → IsFence op.rounds (next stage) w → (u : View) → StandsAt (at_rounds op (rounds_taken op.rounds (next stage)) (settled_to op stage)) u
        → StandsAt (passed op stage) u
    last_fence stage none w is u stands = subst (λ (o : DirectoryOp). StandsAt o u) (sym (behind_last_fence op stage w is none)) stands

    stage_fence_stands : (stage : Stage) → Stood stage → rounds_wanted op.rounds (next stage) ≡ Some want.Fence → (w : Want) → IsFence op.rounds (next stage) w → Behind stage (Some want.Fence)
    stage_fence_stands (Fill place value) s e w is = on_fence (Fill place value) s (λ none. none-some _ (sym none)) e w is
    stage_fence_stands Filled s e w is = last_fence Filled refl w is _ (filled_stands site ground here call op n v e is.leaves s)
    stage_fence_stands Deepen s e w is = on_fence Deepen s (λ none. none-some _ (sym none)) e w is
    stage_fence_stands Deepened s e w is = last_fence Deepened refl w is _ (deepened_stands site ground here call op n v e is.leaves s)
    stage_fence_stands GoLive s e w is = on_fence GoLive s (λ none. none-some _ (sym none)) e w is
    stage_fence_stands Live s e w is = last_fence Live refl w is _ (live_settled site ground here call op n v e is.leaves s)
    stage_fence_stands (Enter index) s e w is = on_fence (Enter index) s (λ none. none-some _ (sym none)) e w is
    stage_fence_stands Entered s e w is = last_fence Entered refl w is _ (entered_settled site ground here call op n v e is.leaves s)

    stage_stands : (stage : Stage) → Stood stage → rounds_wanted op.rounds (next stage) ≢ None → Behind stage (rounds_wanted op.rounds (next stage))
    stage_stands stage s some = by_event op.rounds (next_store op stage) (Behind stage)
        (λ p e on w is. store_stands stage s p e on w is)
        (λ line e has w is. stage_flush_stands stage s line e w is)
        (λ e w is. stage_fence_stands stage s e w is) some

  -- ---- before the guard is held
  module _ (k : KeepsCopied site here call op.copied v) where
    head_here : head_word (shape_of op) op.copied.whole.segment ≡ header_word shape op.copied.whole.segment
    head_here = head_is (shape_of op) shape op.copied.whole.segment k.is.located.shape k.there.within

    side_here : head_word (shape_of op) op.copied.side ≡ header_word shape op.copied.side
    side_here = head_is (shape_of op) shape op.copied.side k.is.located.shape k.copy.slot

    -- the headers that are found are those that are kept
    head_found : words (head_word (shape_of op) op.copied.whole.segment) ≡ split_head op.copied.whole
    head_found = ap words head_here ∙ knows (header_word shape op.copied.whole.segment) (copied_words op.copied (header_word shape op.copied.whole.segment)) k.head.header.known
        ∙ head_kept site ground here call op.copied k.is k.whole k.copy

    side_found : words (head_word (shape_of op) op.copied.side) ≡ side_head op.copied.whole
    side_found = ap words side_here ∙ knows (header_word shape op.copied.side) (copied_words op.copied (header_word shape op.copied.side)) k.side_header.known
        ∙ side_kept site ground here call op.copied k.is k.whole k.copy

    abbrev OfBoth : ℕ → Type 0
    OfBoth i = IsInSlot shape op.copied.whole.segment i ⊎ IsInSlot shape op.copied.side i

    pub read_keeps : (i n : ℕ) → OfBoth i → KeepsCopied site here call op.copied (view_then shape (reads i) n v)
    read_keeps i n inside = copied_stays v (view_then shape (reads i) n v) (keeps_read shape i n v) refl refl site here call op.copied refl
        (λ p has. elim has [ inl e ↦ inr (subst (λ (q : ℕ × ℕ). OfBoth q.0) (sym e) inside) | inr was ↦ inl was ]) k

    head_inside : OfBoth (head_word (shape_of op) op.copied.whole.segment)
    head_inside = inl (subst (IsInSlot shape op.copied.whole.segment) (sym head_here) (head_in_slot shape op.copied.whole.segment))

    side_inside : OfBoth (head_word (shape_of op) op.copied.side)
    side_inside = inr (subst (IsInSlot shape op.copied.side) (sym side_here) (head_in_slot shape op.copied.side))

    pub power_keeps : (n : ℕ) → KeepsCopied site here call op.copied (view_after shape asks_power n v)
    power_keeps n = copied_stays v (view_after shape asks_power n v)
        (record { held = refl; planned = refl; moving = refl; owed = refl; facts = λ fact no has. has; known = λ i x p has. has }) refl refl site here call op.copied refl (λ p has. inl has) k

  -- ---- each step
  put_is : (stage : Stage) → Stood stage → event_wanted op.rounds (next stage) ≡ want_or_done (rounds_wanted op.rounds (next stage))
  put_is stage s = event_is op.rounds (next stage) s.storing.round.few

  asks_some : (stage : Stage) → Stood stage → wanted_in op (Store stage) ≢ want.Done → rounds_wanted op.rounds (next stage) ≢ None
  asks_some stage s asks none = asks (put_is stage s ∙ ap want_or_done none)

  pub wants_in : (step : DirectoryStep) → SuitsStep site here op call step v → wanted_in op step ≢ want.Done → wanted_in op step ≡ wanted_of shape (kind_in op step)
  wants_in LoadHead s asks = refl
  wants_in LoadSideHead s asks = refl
  wants_in TakeGuard s asks = ap (λ (g : Shape). want.Exchange (directory_guard g) 0 op.copied.whole.site.caller) s.keeps.is.located.shape
  wants_in AskPower s asks = refl
  wants_in LoadRoot s asks = refl
  wants_in (LoadEntry place) s asks = refl
  wants_in (Store stage) s asks = put_is stage s ∙ stage_wants stage s (asks_some stage s asks)
  wants_in GiveGuard s asks = ap (λ (g : Shape). want.Store (directory_guard g) 0) s.live.split.is.located.shape
  wants_in (Ended end) s asks = absurd (asks refl)

  -- the words that are loaded are held
  has_first : (areas : List Area) (a : Area) → v.areas ≡ areas → Has a areas → Has a v.areas
  has_first areas a e has = subst (λ (l : List Area). Has a l) (sym e) has

  pub may_in : (step : DirectoryStep) → SuitsStep site here op call step v → wanted_in op step ≢ want.Done → MayTake site (kind_in op step) v
  may_in LoadHead s asks = inr (Segment op.copied.whole.segment, has_first (Side op.copied.side ∷ Whole op.copied.whole.segment ∷ Segment op.copied.whole.segment ∷ []) (Segment op.copied.whole.segment) s.areas (inr (inr (inl refl))), inl (head_here s))
  may_in LoadSideHead s asks = inr (
    Side op.copied.side,
    has_first (Side op.copied.side ∷ Whole op.copied.whole.segment ∷ Segment op.copied.whole.segment ∷ []) (Side op.copied.side) s.keeps.areas (inl refl),
    subst (IsInSlot shape op.copied.side) (sym (side_here s.keeps)) (head_in_slot shape op.copied.side),
  )
  may_in TakeGuard s asks = subst (λ (c : ℕ). 0 < c) refl s.keeps.is.numbered
  may_in AskPower s asks = (tt, tt)
  may_in LoadRoot s asks = inr (Directory, has_first (Directory ∷ Side op.copied.side ∷ Whole op.copied.whole.segment ∷ Segment op.copied.whole.segment ∷ []) Directory s.new.split.areas (inl refl), inl refl)
  may_in (LoadEntry place) s asks =
      let is = old_is site here call words views j op v h at place 0 (omega arith) s in
      let doubles = s.filling.doubles in
      let root = doubles.root in
      let deep = doubles.deep in
      let near : place / 2 < 2 ^ depth_in op.copied.whole.head = (let low = s.low in let twice : 2 ^ op.root ≡ 2 * 2 ^ depth_in op.copied.whole.head = ap (λ k. 2 ^ k) root ∙ doubled (depth_in op.copied.whole.head) in omega (arith, low, twice)) in
      inr (
        Directory,
        has_first (Directory ∷ Side op.copied.side ∷ Whole op.copied.whole.segment ∷ Segment op.copied.whole.segment ∷ []) Directory s.filling.new.split.areas (inl refl),
        inr (
          subst (λ i. block ≤ i) (sym is) (entry_from (depth_in op.copied.whole.head) (place / 2)),
          subst (λ i. i < first_segment shape) (sym is) (entry_before shape (depth_in op.copied.whole.head) (place / 2) (omega (arith, root, deep)) near),
        ),
      )
  may_in (Store stage) s asks = stage_may stage s (asks_some stage s asks)
  may_in GiveGuard s asks = (
    has_first (Directory ∷ Whole op.copied.whole.segment ∷ Segment op.copied.whole.segment ∷ []) Directory s.live.split.areas (inl refl),
    (λ p loose inside. settled_firm v s.settled p loose),
    tt,
  )
  may_in (Ended end) s asks = absurd (asks refl)

  -- the guard is won, or another has it
  take_stands : (s : IsWaiting site here op call v) (won : Bool) → SuitsStep site here (taken_in op TakeGuard (cond won Won (Lost (words (directory_guard (shape_of op)))))) call
      (taken_in op TakeGuard (cond won Won (Lost (words (directory_guard (shape_of op)))))).step (with_guard won of_directory v)
  take_stands s true = record { heads = record { head = s.heads.head; side = s.heads.side }; new = new_with_guard site here call op.copied v s.keeps; settled = settled_with_guard site here call op.copied v s.keeps }
  take_stands s false = record { keeps = s.keeps; heads = record { head = s.heads.head; side = s.heads.side } }

  power_stands : (s : IsWaiting site here op call v) (n : ℕ) (on : Bool) → SuitsStep site here (record op { step = cond on TakeGuard (Ended Off) }) call (cond on TakeGuard (Ended Off)) (view_after shape asks_power n v)
  power_stands s n true = record { keeps = power_keeps s.keeps n; heads = record { head = s.heads.head; side = s.heads.side } }
  power_stands s n false = record { keeps = power_keeps s.keeps n; heads = record { head = s.heads.head; side = s.heads.side } }

  abbrev found : DirectoryStep → ℕ
  found step = words (word_of shape (wanted_in op step))

  pub stands_in : (step : DirectoryStep) → SuitsStep site here op call step v → wanted_in op step ≢ want.Done → found step < 2 ^ 64
      → StandsAt 0 (taken_in op step (answer_to (wanted_in op step) (found step))) (view_by shape (kind_in op step) (found step) v)
  stands_in LoadHead s asks small = record { keeps = read_keeps s (head_word (shape_of op) op.copied.whole.segment) (found LoadHead) (head_inside s); head = head_found s }
  stands_in LoadSideHead s asks small = record {
    keeps = read_keeps s.keeps (head_word (shape_of op) op.copied.side) (found LoadSideHead) (side_inside s.keeps);
    heads = record { head = s.head; side = side_found s.keeps };
  }
  stands_in TakeGuard s asks small = take_stands s (found TakeGuard == 0)
  stands_in AskPower s asks small = power_stands s (found AskPower) (found AskPower == 0)
  stands_in LoadRoot s asks small = root_stands site here call words views j op v h at s
  stands_in (LoadEntry place) s asks small = entry_stands site here call words views j op v h at place (found (LoadEntry place)) small s
  stands_in (Store stage) s asks small =
      subst (λ (w : Want). StandsAt 0 (taken_in op (Store stage) (answer_to w (found (Store stage)))) (view_by shape (kind_in op (Store stage)) (found (Store stage)) v)) (sym (put_is stage s))
      (stage_stands (found (Store stage)) stage s (asks_some stage s asks))
  stands_in GiveGuard s asks small = published_left site here call words views j op v h at (found GiveGuard) s
  stands_in (Ended end) s asks small = absurd (asks refl)
