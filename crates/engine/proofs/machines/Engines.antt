-- The laws of an engine, by those of the one part that its machines are.
use Rattle.std.proofs.Common.{◌≡◌, ◌≢◌, ◌<◌, ℕ, Some, refl, sym, subst}
use Rattle.op_core.specs.declared.want.Want.{Want}
use Rattle.map_model.specs.Changes.{change_of}
use Rattle.world.specs.Views.{View}
use Rattle.world.specs.Wants.{answer_to, word_of}
use Rattle.world.specs.StepKinds.{StepKind, view_by}
use Rattle.world.specs.Laws.{CallersStay}
use Rattle.world.specs.areas.Keeping.{StructureStepsReplyNothing}
use Rattle.world.specs.Attempts.{EntersReply}
use Rattle.part.specs.Doings.{Doings}
use Rattle.part.specs.Outcomes.{reply_of, off}
use Rattle.part.specs.Part.{IsPart}
use Rattle.part.specs.Causes.{EndsByCause}
use Rattle.part.specs.Splits.{EndsBySplitCause}
use Rattle.part.specs.Repairs.{EndsByRepairCause}
use Rattle.part.proofs.Turning.{as_many_callers}
use Rattle.engine.specs.declared.engine.Engine.{Engine}
use Rattle.engine.specs.Engine.{kind_of, anew_by}
use Rattle.engine.specs.OpPart.{OpState, call_part, whole_split, split_segment_in, whole_repair, repaired_segment_in, op_part, state_of}
use Rattle.engine.specs.Fits.{Suits, finds, next_engine, KeepsSuits}
use Rattle.engine.specs.Asks.{AsksWithin, AsksWords}
use Rattle.engine.specs.Causes.{EndsAreDecided}
use Rattle.engine.proofs.machines.Ops.{either_ops, renamed_at, never_hands_on}
use Rattle.engine.proofs.machines.Deciding.{IsAsking, doings_after, remembers_on, stays_on}
use Rattle.engine.proofs.machines.Anew.{AnewLaws, anew_suits}

-- what is used of the machines, and of the world
pub record EngineLaws : Type 0 where
  pub part : IsPart op_part
  pub says : EndsAreDecided
  pub call_causes : EndsByCause call_part
  pub split_causes : EndsBySplitCause whole_split split_segment_in
  pub repair_causes : EndsByRepairCause whole_repair repaired_segment_in
  pub anew : AnewLaws
  pub callers : CallersStay
  pub structure : StructureStepsReplyNothing

pub keeps_suits : EngineLaws → KeepsSuits
keeps_suits laws site here call e words views j before v shape version number small power h at s fits =
    let w = laws.part.steps site here call words views j e.op before v h at s.suits s.asks in
    let n : ℕ = finds site e words in
    let kind : StepKind = kind_of e n in
    let after : Engine = next_engine site e words in
    let now : View = view_by site.shape kind n v in
    let same : now.callers ≡ v.callers = subst (λ (x : Want). (view_by site.shape kind (words (word_of site.shape x)) v).callers ≡ v.callers) (sym w.wants)
    (as_many_callers laws.callers laws.structure site kind words v) in
    let some : 0 < now.callers = subst (λ c. 0 < c) (sym same) s.suits.callers in
    let m : OpState = state_of e.op in
    let did : Doings = s.remembers.0 in
    let asking : IsAsking laws.call_causes laws.split_causes laws.repair_causes site here call words views j before v h at did m
    = record { suits = record { stands = s.suits.stands; enters = s.suits.enters; callers = s.suits.callers }; asks = s.asks; small = fits; remembers = s.remembers.1 } in
    let on : op_part.outcome after.op ≢ Some off = renamed_at (λ x. either_ops.outcome x ≢ Some off) (either_ops.taken m (answer_to (either_ops.wanted m) n))
    (stays_on laws.call_causes laws.split_causes laws.repair_causes site here call words views j before v h at did power m asking s.on) in
    let memory = renamed_at (λ x. either_ops.Remembers site x (doings_after laws.call_causes laws.split_causes laws.repair_causes site here call words views j before v h at did m))
    (either_ops.taken m (answer_to (either_ops.wanted m) n)) (remembers_on laws.call_causes laws.split_causes laws.repair_causes site here call words views j before v h at did m asking) in
    record {
      wants = w.wants;
      may = w.may;
      suits = λ asks. record {
        asks = asks;
        on = on;
        suits = record { stands = w.stands fits; enters = w.enters fits; callers = some };
        remembers = (doings_after laws.call_causes laws.split_causes laws.repair_causes site here call words views j before v h at did m, memory);
      };
      ends = λ done.
          let stands = w.stands fits in
          let bare = laws.part.ends site here call after.op now stands done (never_hands_on after.op) on in
          let told = laws.says site here call after now stands done in
          record {
            nothing = bare;
            callers = some;
            enters = subst (λ o. EntersReply call (reply_of o) before now) told (w.enters fits);
            anew = λ none. subst (λ o. Suits site here call (anew_by here call (change_of call) o) now now) told
                (anew_suits laws.anew site here call now h.site_is shape version number small bare some after.op stands (op_part.outcome after.op) refl);
          };
    }

module _ (part : IsPart op_part) where
  pub asks_within : AsksWithin
  asks_within site here call e before v is s = part.within site here call e.op before v is s.suits

  pub asks_words : AsksWords
  asks_words site here call e before v s = part.words site here call e.op before v s.suits
