-- Each step keeps the view suitable: what the machine enters, and that it makes no change.
use Rattle.std.proofs.Common.{◌≡◌, ◌≢◌, ℕ, Bool, true, false, Option, None, Some, [], refl, sym, ◌∙◌, subst}
use Rattle.std.specs.Prelude.{◌==◌}
use Rattle.op_core.specs.declared.want.Want.{Want}
use Rattle.op_core.specs.declared.want.Want.TheVariants as want
use Rattle.image_layout.specs.Places.{Shape}
use Rattle.map_model.specs.declared.call.Call.{Call}
use Rattle.map_model.specs.declared.entry.Reply.{Reply}
use Rattle.world.specs.Ground.{Ground, IsGround}
use Rattle.world.specs.Views.{View}
use Rattle.world.specs.Wants.{answer_to, word_of}
use Rattle.world.specs.Kinds.{cuts_power}
use Rattle.world.specs.Attempts.{HasNoMore, EntersReply}
use Rattle.world.specs.areas.Kinds.{of_directory, with_guard}
use Rattle.world.specs.StepKinds.{of_call, view_by}
use Rattle.world.specs.areas.Splitting.{MayPublish}
use Rattle.part.specs.Outcomes.{Outcome, reply_of}
use Rattle.part.specs.Part.{KeepsSuits}
use Rattle.rounds.specs.Steps.{rounds_wanted}
use Rattle.rounds.proofs.Silent.{IsStill, round_still, round_power}
use Rattle.directory_op.specs.declared.op.DirectoryEnd.TheVariants.{Published, Off}
use Rattle.directory_op.specs.declared.op.Stage.{Stage}
use Rattle.directory_op.specs.declared.op.Stage.TheVariants.{Fill, Filled, Deepen, Deepened, GoLive, Live, Enter, Entered}
use Rattle.directory_op.specs.declared.op.DirectoryStep.{DirectoryStep}
use Rattle.directory_op.specs.declared.op.DirectoryStep.TheVariants.{LoadHead, LoadSideHead, TakeGuard, AskPower, LoadRoot, LoadEntry, Store, GiveGuard, Ended}
use Rattle.directory_op.specs.declared.op.DirectoryOp.{DirectoryOp}
use Rattle.directory_op.specs.Steps.{next_store, wanted}
use Rattle.directory_op.specs.DirectoryPart.{facts_of, stage_kind, kind_in, outcome_at, directory_part}
use Rattle.directory_op.proofs.Stepping.{wants_in, may_in, stands_in}

-- ---- the machine never enters a reply
no_reply : (step : DirectoryStep) → reply_of (outcome_at step) ≡ None
no_reply LoadHead = refl
no_reply LoadSideHead = refl
no_reply TakeGuard = refl
no_reply AskPower = refl
no_reply LoadRoot = refl
no_reply (LoadEntry place) = refl
no_reply (Store stage) = refl
no_reply GiveGuard = refl
no_reply (Ended Published) = refl
no_reply (Ended Off) = refl

module _ (shape : Shape) (n : ℕ) (v : View) (op : DirectoryOp) where
  live_still : (o : Option Want) → IsStill shape n v (stage_kind op GoLive o)
  live_still (Some (want.Store i x)) = record { own = refl; seen = refl; none = λ p. p }
  live_still o = round_still shape n v [] o

  settled_still : (o : Option Want) → IsStill shape n v (stage_kind op Live o)
  settled_still (Some want.Fence) = record { own = refl; seen = refl; none = λ p. p }
  settled_still o = round_still shape n v [] o

  -- an event of a stage, whichever it is
  stage_still : (stage : Stage) (o : Option Want) → IsStill shape n v (stage_kind op stage o)
  stage_still (Fill place value) o = round_still shape n v [] o
  stage_still Filled o = round_still shape n v [] o
  stage_still Deepen o = round_still shape n v [] o
  stage_still Deepened o = round_still shape n v [] o
  stage_still GoLive o = live_still o
  stage_still Live o = settled_still o
  stage_still (Enter index) o = round_still shape n v [] o
  stage_still Entered o = round_still shape n v (facts_of op Entered) o

  guard_own : (won : Bool) → (with_guard won of_directory v).own ≡ v.own
  guard_own true = refl
  guard_own false = refl

  guard_seen : (won : Bool) → (with_guard won of_directory v).seen ≡ v.seen
  guard_seen true = refl
  guard_seen false = refl

  step_still : (step : DirectoryStep) → IsStill shape n v (kind_in op step)
  step_still LoadHead = record { own = refl; seen = refl; none = λ p. p }
  step_still LoadSideHead = record { own = refl; seen = refl; none = λ p. p }
  step_still TakeGuard = record { own = guard_own (n == 0); seen = guard_seen (n == 0); none = λ p. p }
  step_still AskPower = record { own = refl; seen = refl; none = λ p. p }
  step_still LoadRoot = record { own = refl; seen = refl; none = λ p. p }
  step_still (LoadEntry place) = record { own = refl; seen = refl; none = λ p. p }
  step_still (Store stage) = stage_still stage (rounds_wanted op.rounds (next_store op stage))
  step_still GiveGuard = record { own = refl; seen = refl; none = λ p. p }
  step_still (Ended end) = record { own = refl; seen = refl; none = λ p. p }

-- ---- the power stays on
live_power : (op : DirectoryOp) (o : Option Want) → stage_kind op GoLive o ≢ of_call cuts_power
live_power op (Some (want.Store i x)) e = cc
live_power op o e = round_power [] o e

settled_power : (op : DirectoryOp) (o : Option Want) → stage_kind op Live o ≢ of_call cuts_power
settled_power op (Some want.Fence) e = cc
settled_power op o e = round_power [] o e

stage_power : (op : DirectoryOp) (stage : Stage) (o : Option Want) → stage_kind op stage o ≢ of_call cuts_power
stage_power op (Fill place value) o = round_power [] o
stage_power op Filled o = round_power [] o
stage_power op Deepen o = round_power [] o
stage_power op Deepened o = round_power [] o
stage_power op GoLive o = live_power op o
stage_power op Live o = settled_power op o
stage_power op (Enter index) o = round_power [] o
stage_power op Entered o = round_power (facts_of op Entered) o

kind_power : (op : DirectoryOp) (step : DirectoryStep) → kind_in op step ≢ of_call cuts_power
kind_power op LoadHead e = cc
kind_power op LoadSideHead e = cc
kind_power op TakeGuard e = cc
kind_power op AskPower e = cc
kind_power op LoadRoot e = cc
kind_power op (LoadEntry place) e = cc
kind_power op (Store stage) e = stage_power op stage (rounds_wanted op.rounds (next_store op stage)) e
kind_power op GiveGuard e = cc
kind_power op (Ended end) e = cc

-- no event cuts the power
pub never_cuts : (op : DirectoryOp) (n : ℕ) → kind_in op op.step ≢ of_call cuts_power
never_cuts op n = kind_power op op.step

-- ---- what is entered stays so
none_entered : (call : Call) (outcome later : Option Outcome) (before v u : View) → reply_of outcome ≡ None → reply_of later ≡ None → u.own ≡ v.own → u.seen ≡ v.seen → EntersReply call (reply_of outcome) before v
    → EntersReply call (reply_of later) before u
none_entered call outcome later before v u none after own seen e =
    let old : HasNoMore before v = subst (λ (r : Option (Reply × ℕ)). EntersReply call r before v) none e in
    subst (λ (r : Option (Reply × ℕ)). EntersReply call r before u) (sym after) (record { own = own ∙ old.own; seen = seen ∙ old.seen })

-- EACH STEP KEEPS THE VIEW SUITABLE, by the law of who makes a side live
pub steps_keep : ((site : Ground) (v : View) → IsGround site → MayPublish site v) → KeepsSuits directory_part
steps_keep publish site here call words views j op before v h at s asks =
    let n : ℕ = words (word_of site.shape (wanted op)) in
    let still = step_still site.shape n v op op.step in
    record {
      wants = wants_in site here call words views j op v h at (publish site v h.site_is) op.step s.stands asks;
      may = may_in site here call words views j op v h at (publish site v h.site_is) op.step s.stands asks;
      stands = λ small. stands_in site here call words views j op v h at (publish site v h.site_is) op.step s.stands asks small;
      enters = λ small. none_entered call (outcome_at op.step) (directory_part.outcome (directory_part.taken op (answer_to (wanted op) n))) before v (view_by site.shape (kind_in op op.step) n v)
          (no_reply op.step) (no_reply (directory_part.taken op (answer_to (wanted op) n)).step) still.own still.seen s.enters;
      makes = λ p. absurd (still.none p);
    }
