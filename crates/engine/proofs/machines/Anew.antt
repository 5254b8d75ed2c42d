-- AT AN END the view suits the next attempt of the call: that which splits the segment that is to be split, that which repairs the one that is
-- stale, or the call begun anew.
use Rattle.std.proofs.Common.{◌≡◌, ◌≢◌, ℕ, Option, None, Some, refl, sym, subst}
use Rattle.map_model.specs.declared.call.Call.{Call}
use Rattle.map_model.specs.declared.change.Change.{Change}
use Rattle.map_model.specs.Changes.{change_of}
use Rattle.map_model.specs.Legal.{IsInsert}
use Rattle.world.specs.declared.site.Site.{Site}
use Rattle.part.specs.Outcomes.{Outcome, stale, need_split}
use Rattle.part.specs.Part.{KnowsStale, LeavesKnown}
use Rattle.release_op.specs.Split.{LeavesThere}
use Rattle.enclose_op.specs.EnclosePart.{BeginsAsPart as EncloseBegins, BeginsRemembering as EncloseRemembers}
use Rattle.repair_op.specs.RepairPart.{BeginsAsRepair as RepairBegins, BeginsRemembering as RepairRemembers}
use Rattle.engine.specs.Engine.{begun, splitting, repairing, anew_by}
use Rattle.engine.specs.OpPart.{op_part}
use Rattle.engine.specs.Fits.{Suits, BeginsSuited, AnewSuited}
use Rattle.engine.proofs.machines.Begins.{split_suits, repair_suits}
use Rattle.engine.proofs.machines.Ends.{ReleasesTellAlone}

-- where no segment is to be split, and none is stale, the call begins anew
anew_begins : (here : Site) (call : Call) (change : Option Change) (outcome : Option Outcome) → ((segment : ℕ) → outcome ≢ Some (need_split segment))
    → ((segment version : ℕ) → outcome ≢ Some (stale segment version)) → anew_by here call change outcome ≡ begun here call
anew_begins here call (Some change) (Some (need_split segment)) other fresh = absurd (other segment refl)
anew_begins here call change (Some (stale segment version)) other fresh = absurd (fresh segment version refl)
anew_begins here call (Some change) outcome other fresh = refl
anew_begins here call None outcome other fresh = refl

-- where one is stale it is repaired
pub anew_repairs : (here : Site) (call : Call) (change : Option Change) (segment version : ℕ) → anew_by here call change (Some (stale segment version)) ≡ repairing here segment
anew_repairs here call None segment version = refl
anew_repairs here call (Some change) segment version = refl

-- what is used of the machines
pub record AnewLaws : Type 0 where
  pub begins : BeginsSuited
  pub alone : ReleasesTellAlone
  pub leaves : LeavesThere
  pub enclose_begins : EncloseBegins
  pub enclose_remembers : EncloseRemembers
  pub relies : KnowsStale op_part
  pub repair_begins : RepairBegins
  pub repair_remembers : RepairRemembers

pub anew_suits : AnewLaws → AnewSuited
anew_suits laws site here call v good shape version number small bare callers op s (Some (need_split segment)) is =
    let told = laws.alone segment op is in
    let left = laws.leaves site here call told.0 v (subst (λ x. op_part.Stands site here call x v) told.1 s) segment (subst (λ x. op_part.outcome x ≡ Some (need_split segment)) told.1 is) in
    let change : Change = told.0.kept.change in
    let split = split_suits laws.enclose_begins laws.enclose_remembers site here change segment v shape version number (subst IsInsert (sym left.same) left.insert) left.key bare left.there callers in
    subst (λ c. Suits site here call (anew_by here call c (Some (need_split segment))) v v) (sym left.change) (subst (λ c. Suits site here c (splitting here change segment) v v) left.same split)
anew_suits laws site here call v good shape version number small bare callers op s (Some (stale segment byte)) is =
    let known = subst (λ o. LeavesKnown site o v.facts) is (laws.relies site here call op v s) in
    subst (λ e. Suits site here call e v v) (sym (anew_repairs here call (change_of call) segment byte))
    (repair_suits laws.repair_begins laws.repair_remembers site here call segment v shape version number bare known.lives callers)
anew_suits laws site here call v good shape version number small bare callers op s outcome is =
    subst (λ e. Suits site here call e v v) (sym (anew_begins here call (change_of call) outcome (λ segment told. cc) (λ segment byte told. cc))) (laws.begins site here call v good shape version small bare callers)
