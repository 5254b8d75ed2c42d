-- Each event is of its kind, may be taken, and leaves a view that stands for the next step.
use Rattle.std.proofs.Common.{◌≡◌, ◌≢◌, ℕ, inl, inr, None, Some, refl, sym, ap, ◌∙◌, subst}
use Rattle.std.specs.Prelude.{◌==◌}
use Rattle.trace.specs.Events.{Words}
use Rattle.op_core.specs.declared.want.Want.{Want}
use Rattle.op_core.specs.declared.want.Want.TheVariants as want
use Rattle.image_layout.specs.Places.{Shape}
use Rattle.image_layout.specs.Volatile.{directory_guard}
use Rattle.frame_facts.specs.Facts.{Lives}
use Rattle.map_model.specs.declared.call.Call.{Call}
use Rattle.world.specs.declared.site.Site.{Site}
use Rattle.world.specs.Ground.{Ground, IsGround}
use Rattle.world.specs.Views.{View}
use Rattle.world.specs.Wants.{answer_to, word_of}
use Rattle.world.specs.areas.Areas.{Directory}
use Rattle.world.specs.areas.Asking.{MayBeNewest}
use Rattle.world.specs.StepKinds.{wanted_of, view_by, MayTake}
use Rattle.rounds.specs.Steps.{rounds_wanted, want_or_done}
use Rattle.rounds.proofs.Wanted.{event_is}
use Rattle.repair_op.specs.declared.guarded.Guarded.{Guarded}
use Rattle.repair_op.proofs.Words.{guard_is}
use Rattle.repair_op.proofs.Giving.{give_may as guard_may, give_stands as guard_given}
use Rattle.directory_op.proofs.Words.{entry_is, head_is}
use Rattle.redirect_op.specs.declared.step.RedirectEnd.{RedirectEnd}
use Rattle.redirect_op.specs.declared.step.RedirectEnd.TheVariants as ends
use Rattle.redirect_op.specs.declared.step.RedirectStep.{RedirectStep}
use Rattle.redirect_op.specs.declared.step.RedirectStep.TheVariants.{Guard, Root, Entry, Head, Store, Settle, Fence, GiveDirectory, Give, Ended}
use Rattle.redirect_op.specs.declared.op.RedirectOp.{RedirectOp}
use Rattle.redirect_op.specs.Steps.{shape_of, store_to, wanted_in, next_in}
use Rattle.redirect_op.specs.Stands.{kind_at, SuitsStep}
use Rattle.redirect_op.proofs.Holding.{has_directory}
use Rattle.redirect_op.proofs.Onward.{root_stands, entry_stands, head_stands}
use Rattle.redirect_op.proofs.Rounding.{store_stands, store_wants, store_takes, settle_stands, settle_wants, settle_takes, fence_takes, fence_stands}
use Rattle.redirect_op.proofs.Guarding.{take_may, take_stands, give_may, given_stands}

module _ (site : Ground) (ground : IsGround site) (here : Site) (call : Call) (op : RedirectOp) (v : View) where
  abbrev g : Guarded
  g = op.guarded

  abbrev Suited : RedirectStep → Type 0
  Suited s = SuitsStep site here call op s v

  -- the rounds want an event where one is wanted
  store_some : (index : ℕ) → Suited (Store index) → wanted_in op (Store index) ≢ want.Done → rounds_wanted op.rounds (Some (store_to op index)) ≢ None
  store_some index s asks none = asks (event_is op.rounds (Some (store_to op index)) s.0.in_rounds.round.few ∙ ap want_or_done none)

  pub wants_at : (s : RedirectStep) (words : Words) → MayBeNewest site v words → op.step ≡ s → Suited s → wanted_in op s ≢ want.Done → wanted_in op s ≡ wanted_of site.shape (kind_at op s)
  wants_at Guard words new is s asks = ap (λ (t : Shape). want.Exchange (directory_guard t) 0 g.site.caller) s.0.here_is.shape
  wants_at Root words new is s asks = refl
  wants_at (Entry index) words new is s asks =
      ap want.Load (entry_is (shape_of op) site.shape op.root index s.below.rooted.guarding.here_is.shape s.below.rooted.within ground.shape.depth s.of_side.index)
  wants_at (Head index slot) words new is s asks = ap want.Load (head_is (shape_of op) site.shape slot s.0.below.rooted.guarding.here_is.shape (new.says (Lives slot) s.2).slot)
  wants_at (Store index) words new is s asks =
      event_is op.rounds (Some (store_to op index)) s.0.in_rounds.round.few ∙ store_wants site ground here call op v index s.0 is s.1 0 (store_some index s asks)
  wants_at Settle words new is s asks = event_is op.rounds None s.in_rounds.round.few ∙ settle_wants site ground here call op v s 0
  wants_at Fence words new is s asks = refl
  wants_at GiveDirectory words new is s asks = ap (λ (t : Shape). want.Store (directory_guard t) 0) s.guarding.here_is.shape
  wants_at (Give end) words new is s asks = ap (λ i. want.Store i 0) (guard_is site g s.0.shape s.2.within)
  wants_at (Ended end) words new is s asks = absurd (asks refl)

  pub may_at : (s : RedirectStep) → op.step ≡ s → Suited s → wanted_in op s ≢ want.Done → MayTake site (kind_at op s) v
  may_at Guard is s asks = take_may site ground here call op v s.0 s.1.0 s.1.1
  may_at Root is s asks = inr (Directory, has_directory site here g v s.0, inl refl)
  may_at (Entry index) is s asks = (has_directory site here g v s.below.rooted.guarding, s.below.rooted.known, s.of_side.index)
  may_at (Head index slot) is s asks = s.2
  may_at (Store index) is s asks = store_takes site ground here call op v index s.0 is s.1 0 (store_some index s asks)
  may_at Settle is s asks = settle_takes site ground here call op v s 0
  may_at Fence is s asks = fence_takes site ground here call op v s.0 s.1 0
  may_at GiveDirectory is s asks = give_may site ground here call op v s
  may_at (Give end) is s asks = guard_may site g v s.2
  may_at (Ended end) is s asks = absurd (asks refl)

  given_suits : (end : RedirectEnd) (n : ℕ) → Suited (Give end) → SuitsStep site here call op (Ended end) (view_by site.shape (kind_at op (Give end)) n v)
  given_suits (ends.Again why) n s = guard_given site g v s.2 n
  given_suits ends.Guarded n s = absurd s.1

  -- a machine suits a view
  abbrev Stood : RedirectOp → View → Type 0
  Stood o u = SuitsStep site here call o o.step u

  -- THE VIEW AFTER stands for the next step
  pub stands_at : (s : RedirectStep) (words : Words) (n : ℕ) → MayBeNewest site v words → op.step ≡ s → Suited s → wanted_in op s ≢ want.Done → words (word_of site.shape (wanted_in op s)) ≡ n
      → Stood (next_in op s (answer_to (wanted_in op s) n)) (view_by site.shape (kind_at op s) n v)
  stands_at Guard words n new is s asks found = take_stands site ground here call op v s.0 s.1.0 s.1.1 (n == 0) n
  stands_at Root words n new is s asks found = root_stands site ground here call op n v words new s.0 s.1 (sym found)
  stands_at (Entry index) words n new is s asks found = entry_stands site ground here call op n v words new index s
  stands_at (Head index slot) words n new is s asks found = head_stands site ground here call op n v words new index slot s.0 s.1 s.2 (sym found)
  stands_at (Store index) words n new is s asks found =
      subst (λ (w : Want). Stood (next_in op (Store index) (answer_to w n)) (view_by site.shape (kind_at op (Store index)) n v)) (sym (event_is op.rounds (Some (store_to op index)) s.0.in_rounds.round.few))
      (store_stands site ground here call op v index s.0 is s.1 n (store_some index s asks))
  stands_at Settle words n new is s asks found =
      subst (λ (w : Want). Stood (next_in op Settle (answer_to w n)) (view_by site.shape (kind_at op Settle) n v)) (sym (event_is op.rounds None s.in_rounds.round.few))
      (settle_stands site ground here call op v s n)
  stands_at Fence words n new is s asks found = fence_stands site ground here call op v s.0 s.1 n
  stands_at GiveDirectory words n new is s asks found = given_stands site ground here call op v s n
  stands_at (Give end) words n new is s asks found = given_suits end n s
  stands_at (Ended end) words n new is s asks found = absurd (asks refl)
