-- Which events free a slot, and which give a segment the image's version: of all machines one of the beginning of a repair does the one, and one of a
-- mending the other.
use Rattle.std.proofs.Common.{◌≡◌, ◌≢◌, ℕ, zero, suc, Option, None, Some, List, refl, subst}
use Rattle.std.specs.Prelude.{⊤}
use Rattle.op_core.specs.declared.want.Want.{Want}
use Rattle.op_core.specs.declared.want.Want.TheVariants as want
use Rattle.frame_facts.specs.Facts.{Fact}
use Rattle.world.specs.StepKinds.{StepKind, of_structure}
use Rattle.world.specs.areas.Rows.{frees, renews}
use Rattle.world.specs.areas.Kinds.{moves}
use Rattle.rounds.specs.Stands.{kind_of}
use Rattle.rounds.specs.Steps.{rounds_wanted}
use Rattle.enclose_op.specs.declared.enclosed.Enclosed.{Enclosed}
use Rattle.enclose_op.specs.declared.give.Give.{Give as Giving}
use Rattle.enclose_op.specs.declared.give.Give.TheVariants as giving
use Rattle.enclose_op.specs.declared.op.EncloseStep.{EncloseStep}
use Rattle.enclose_op.specs.declared.op.EncloseStep.TheVariants as enclose
use Rattle.enclose_op.specs.Fits.{give_kind, kind_at as enclose_kind}
use Rattle.split_op.specs.declared.batch.Batch.{Batch}
use Rattle.split_op.specs.declared.batch.Batch.TheVariants as batch
use Rattle.split_op.specs.declared.op.SplitOp.{SplitOp}
use Rattle.split_op.specs.declared.step.SplitStep.{SplitStep}
use Rattle.split_op.specs.declared.step.SplitStep.TheVariants as split
use Rattle.split_op.specs.Fits.{put_kind, look_kind, kind_at as split_kind}
use Rattle.split_op.specs.Batches.{due}
use Rattle.directory_op.specs.declared.op.DirectoryOp.{DirectoryOp}
use Rattle.directory_op.specs.declared.op.DirectoryStep.{DirectoryStep}
use Rattle.directory_op.specs.declared.op.DirectoryStep.TheVariants as publish
use Rattle.directory_op.specs.declared.op.Stage.{Stage}
use Rattle.directory_op.specs.declared.op.Stage.TheVariants as publish_stage
use Rattle.directory_op.specs.DirectoryPart.{facts_of as publish_facts, stage_kind, kind_in as publish_kind}
use Rattle.rest_op.specs.declared.op.RestOp.{RestOp}
use Rattle.rest_op.specs.declared.op.RestStep.{RestStep}
use Rattle.rest_op.specs.declared.op.RestStep.TheVariants as rest
use Rattle.rest_op.specs.Stands.{kind_at as rest_kind}
use Rattle.repair_op.specs.declared.guarded.Guarded.{Guarded}
use Rattle.repair_op.specs.declared.step.Settling.TheVariants as settling
use Rattle.repair_op.specs.declared.step.RepairStep.{RepairStep}
use Rattle.repair_op.specs.declared.step.RepairStep.TheVariants as repair
use Rattle.repair_op.specs.Stands.{kind_at as repair_kind}
use Rattle.redirect_op.specs.declared.op.RedirectOp.{RedirectOp}
use Rattle.redirect_op.specs.declared.step.RedirectStep.{RedirectStep}
use Rattle.redirect_op.specs.declared.step.RedirectStep.TheVariants as redirect
use Rattle.redirect_op.specs.Stands.{kind_at as redirect_kind}
use Rattle.mend_op.specs.declared.op.MendOp.{MendOp}
use Rattle.mend_op.specs.declared.op.MendStep.{MendStep}
use Rattle.mend_op.specs.declared.op.MendStep.TheVariants as mend
use Rattle.mend_op.specs.Stands.{kind_at as mend_kind}

-- a kind does neither
abbrev pub Spares : StepKind → Type 0
Spares (of_structure (moves (frees parent) s x)) = ⊥
Spares (of_structure (moves renews s x)) = ⊥
Spares kind = ⊤

pub no_frees : (kind : StepKind) → Spares kind → (parent s x : ℕ) → kind ≡ of_structure (moves (frees parent) s x) → ⊥
no_frees kind spares parent s x is = subst Spares is spares

pub no_renews : (kind : StepKind) → Spares kind → (s x : ℕ) → kind ≡ of_structure (moves renews s x) → ⊥
no_renews kind spares s x is = subst Spares is spares

-- ---- of rounds
round_spares : (facts : List Fact) (w : Option Want) → Spares (kind_of facts w)
round_spares facts (Some (want.Store word value)) = tt
round_spares facts (Some (want.Flush line)) = tt
round_spares facts (Some want.Fence) = tt
round_spares facts (Some w) = tt
round_spares facts None = tt

-- ---- of a split
give_spares : (e : Enclosed) (give : Giving) → Spares (give_kind e give)
give_spares e (giving.Lock b to) = tt
give_spares e giving.Guard = tt

pub enclose_spares : (e : Enclosed) (s : EncloseStep) → Spares (enclose_kind e s)
enclose_spares e enclose.Guard = tt
enclose_spares e (enclose.Lock b take) = tt
enclose_spares e enclose.Head = tt
enclose_spares e (enclose.Fill at) = tt
enclose_spares e (enclose.CountSpent b) = tt
enclose_spares e enclose.CountDeep = tt
enclose_spares e (enclose.Give give end) = give_spares e give
enclose_spares e (enclose.Ended end) = tt
enclose_spares e enclose.Whole = tt

module _ (op : SplitOp) where
  head_spares : (b : Batch) (w : Option Want) → Spares (put_kind op b w)
  head_spares (batch.Mark stored) (Some (want.Store word value)) = tt
  head_spares (batch.Mark stored) (Some (want.Flush line)) = tt
  head_spares (batch.Mark stored) (Some want.Fence) = tt
  head_spares (batch.Mark stored) (Some w) = tt
  head_spares (batch.Mark stored) None = tt
  head_spares (batch.New stored) (Some (want.Store word value)) = tt
  head_spares (batch.New stored) (Some (want.Flush line)) = tt
  head_spares (batch.New stored) (Some want.Fence) = tt
  head_spares (batch.New stored) (Some w) = tt
  head_spares (batch.New stored) None = tt
  head_spares (batch.Empty number) w = round_spares _ w
  head_spares (batch.Link stored) w = round_spares _ w
  head_spares (batch.Copy number) w = round_spares _ w

  look_spares : (b : ℕ) → Spares (look_kind op b)
  look_spares zero = tt
  look_spares (suc b) = tt

  pub split_spares : (s : SplitStep) → Spares (split_kind op s)
  split_spares split.Take = tt
  split_spares (split.Search slot) = tt
  split_spares split.Count = tt
  split_spares (split.Return count) = tt
  split_spares (split.Look b) = look_spares b
  split_spares (split.Put b rounds) = head_spares b (rounds_wanted rounds (due op.copied op.locks b))
  split_spares split.Release = tt
  split_spares (split.Back give end) = give_spares op.copied.whole give
  split_spares (split.Ended end) = tt

module _ (op : DirectoryOp) where
  stage_spares : (s : Stage) (w : Option Want) → Spares (stage_kind op s w)
  stage_spares publish_stage.GoLive (Some (want.Store word value)) = tt
  stage_spares publish_stage.GoLive (Some (want.Flush line)) = tt
  stage_spares publish_stage.GoLive (Some want.Fence) = tt
  stage_spares publish_stage.GoLive (Some w) = tt
  stage_spares publish_stage.GoLive None = tt
  stage_spares publish_stage.Live (Some (want.Store word value)) = tt
  stage_spares publish_stage.Live (Some (want.Flush line)) = tt
  stage_spares publish_stage.Live (Some want.Fence) = tt
  stage_spares publish_stage.Live (Some w) = tt
  stage_spares publish_stage.Live None = tt
  stage_spares s w = round_spares (publish_facts op s) w

  pub publish_spares : (s : DirectoryStep) → Spares (publish_kind op s)
  publish_spares publish.LoadHead = tt
  publish_spares publish.LoadSideHead = tt
  publish_spares publish.TakeGuard = tt
  publish_spares publish.AskPower = tt
  publish_spares publish.LoadRoot = tt
  publish_spares (publish.LoadEntry place) = tt
  publish_spares (publish.Store s) = stage_spares s (rounds_wanted op.rounds _)
  publish_spares publish.GiveGuard = tt
  publish_spares (publish.Ended end) = tt

pub rest_spares : (op : RestOp) (s : RestStep) → Spares (rest_kind op s)
rest_spares op (rest.Clear b rounds) = round_spares _ (rounds_wanted rounds _)
rest_spares op rest.Head = tt
rest_spares op rest.HeadFlush = tt
rest_spares op rest.HeadFence = tt
rest_spares op (rest.Note n) = tt
rest_spares op rest.Open = tt
rest_spares op (rest.Give give) = give_spares op.whole give
rest_spares op rest.Ended = tt

-- ---- of a repair
-- ITS BEGINNING frees a slot with one store, and renews none
pub data Repairs (kind : StepKind) (s : RepairStep) : Type 0 where
  repair_spares : Spares kind → Repairs kind s
  repair_frees : (slot side : ℕ) → s ≡ repair.Free slot side settling.Store → Repairs kind s

pub repairs_at : (g : Guarded) (s : RepairStep) → Repairs (repair_kind g s) s
repairs_at g repair.Guard = repair_spares tt
repairs_at g repair.Head = repair_spares tt
repairs_at g repair.Link = repair_spares tt
repairs_at g (repair.Side slot) = repair_spares tt
repairs_at g (repair.Slots slot side) = repair_spares tt
repairs_at g (repair.Free slot side settling.Store) = repair_frees slot side refl
repairs_at g (repair.Free slot side settling.Flush) = repair_spares tt
repairs_at g (repair.Free slot side settling.Fence) = repair_spares tt
repairs_at g repair.GiveSlots = repair_spares tt
repairs_at g (repair.Unmark settling.Store) = repair_spares tt
repairs_at g (repair.Unmark settling.Flush) = repair_spares tt
repairs_at g (repair.Unmark settling.Fence) = repair_spares tt
repairs_at g (repair.Give end) = repair_spares tt
repairs_at g (repair.Ended end) = repair_spares tt

pub redirect_spares : (op : RedirectOp) (s : RedirectStep) → Spares (redirect_kind op s)
redirect_spares op redirect.Guard = tt
redirect_spares op redirect.Root = tt
redirect_spares op (redirect.Entry index) = tt
redirect_spares op (redirect.Head index slot) = tt
redirect_spares op (redirect.Store index) = round_spares _ (rounds_wanted op.rounds _)
redirect_spares op redirect.Settle = round_spares _ (rounds_wanted op.rounds None)
redirect_spares op redirect.Fence = tt
redirect_spares op redirect.GiveDirectory = tt
redirect_spares op (redirect.Give end) = tt
redirect_spares op (redirect.Ended end) = tt

-- A MENDING renews its segment with one store, and frees none
pub data Mends (kind : StepKind) (s : MendStep) : Type 0 where
  mend_spares : Spares kind → s ≢ mend.Renew → Mends kind s
  mend_renews : s ≡ mend.Renew → Mends kind s

pub mends_at : (op : MendOp) (s : MendStep) → Mends (mend_kind op s) s
mends_at op (mend.Fill i) = mend_spares tt (λ is. absurd (cc))
mends_at op (mend.Round stage n rounds) = mend_spares (round_spares _ (rounds_wanted rounds _)) (λ is. absurd (cc))
mends_at op mend.Finish = mend_spares tt (λ is. absurd (cc))
mends_at op mend.FinishFlush = mend_spares tt (λ is. absurd (cc))
mends_at op mend.FinishFence = mend_spares tt (λ is. absurd (cc))
mends_at op (mend.Note n) = mend_spares tt (λ is. absurd (cc))
mends_at op mend.Renew = mend_renews refl
mends_at op mend.RenewFlush = mend_spares tt (λ is. absurd (cc))
mends_at op mend.RenewFence = mend_spares tt (λ is. absurd (cc))
mends_at op mend.Give = mend_spares tt (λ is. absurd (cc))
mends_at op mend.Ended = mend_spares tt (λ is. absurd (cc))
