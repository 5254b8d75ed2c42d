-- What an attempt remembers it remembers after its next event; and while the power is on no attempt finds it off.
use Rattle.std.proofs.Common.{◌≡◌, ◌≢◌, ℕ, ◌^◌, ◌<◌, Option, None, Some, List, refl, sym, ◌∙◌}
use Rattle.op_core.specs.declared.want.Want.TheVariants.{Done}
use Rattle.op_core.specs.declared.want.Ans.{Ans}
use Rattle.trace.specs.Events.{Words}
use Rattle.image_layout.specs.Volatile.{power_word}
use Rattle.map_model.specs.declared.call.Call.{Call}
use Rattle.world.specs.declared.site.Site.{Site}
use Rattle.world.specs.Ground.{Ground}
use Rattle.world.specs.Views.{View, At}
use Rattle.world.specs.Wants.{answer_to}
use Rattle.world.specs.Invariant.{Holds}
use Rattle.part.specs.Doings.{Doings, with_event_of}
use Rattle.part.specs.Outcomes.{Outcome, off}
use Rattle.part.specs.Part.{Part, Suits, finds, next}
use Rattle.part.specs.Causes.{EndsByCause, StepsByCause}
use Rattle.part.specs.Splits.{EndsBySplitCause, SplitsByCause}
use Rattle.part.specs.Repairs.{EndsByRepairCause, RepairsByCause}
use Rattle.part.specs.Either.{one, other}
use Rattle.engine.specs.OpPart.{CallState, SplitState, RepairState, OpState, call_part, whole_split, split_segment_in, whole_repair, repaired_segment_in}
use Rattle.engine.proofs.machines.Ops.{either_ops}

-- where what is decided stays, and no event decides that the power is off, it is not found off
never_off : {M : Type 0} (p : Part M) (op : M) (ans : Ans) → ((end : Outcome) → p.outcome op ≡ Some end → p.outcome (p.taken op ans) ≡ Some end)
    → (p.outcome op ≡ None → p.outcome (p.taken op ans) ≢ Some off) → p.outcome op ≢ Some off → p.outcome (p.taken op ans) ≢ Some off
never_off p op ans stays undecided on = by (p.outcome op) refl
  where
    by : (o : Option Outcome) → p.outcome op ≡ o → p.outcome (p.taken op ans) ≢ Some off
    by None is = undecided is
    by (Some end) is = λ now. on (is ∙ (sym (stays end is) ∙ now))

module _ (by_call : EndsByCause call_part) (by_split : EndsBySplitCause whole_split split_segment_in)
    (by_repair : EndsByRepairCause whole_repair repaired_segment_in) (site : Ground) (here : Site) (call : Call) (words : Words) (views : List View) (j : ℕ)
    (before v : View) (h : Holds site words views) (at : At views j v) (did : Doings) where
  -- what is asked of a state before its next event
  pub record IsAsking (m : OpState) : Type 0 where
    pub suits : Suits either_ops site here call m before v
    pub asks : either_ops.wanted m ≢ Done
    pub small : finds either_ops site words m < 2 ^ 64
    pub remembers : either_ops.Remembers site m did

  pub call_steps : (m : CallState) → IsAsking (one m) → StepsByCause call_part site here call words m v did
  call_steps m a = by_call.steps site here call words views j m before v did h at (record { stands = a.suits.stands; enters = a.suits.enters; callers = a.suits.callers }) a.asks a.small a.remembers

  pub split_steps : (m : SplitState) → IsAsking (other (one m)) → SplitsByCause whole_split split_segment_in site here call words m v did
  split_steps m a = by_split.steps site here call words views j m before v did h at (record { stands = a.suits.stands; enters = a.suits.enters; callers = a.suits.callers }) a.asks a.small a.remembers

  pub repair_steps : (m : RepairState) → IsAsking (other (other m)) → RepairsByCause whole_repair repaired_segment_in site here call words m v did
  repair_steps m a = by_repair.steps site here call words views j m before v did h at (record { stands = a.suits.stands; enters = a.suits.enters; callers = a.suits.callers }) a.asks a.small a.remembers

  -- with what the event did
  abbrev pub doings_after : OpState → Doings
  doings_after m = with_event_of (either_ops.wanted m) (answer_to (either_ops.wanted m) (finds either_ops site words m)) did

  pub remembers_on : (m : OpState) → IsAsking m → either_ops.Remembers site (next either_ops site words m) (doings_after m)
  remembers_on (one m) a = (call_steps m a).remembers
  remembers_on (other (one m)) a = (split_steps m a).remembers
  remembers_on (other (other m)) a = (repair_steps m a).remembers

  module _ (power : words (power_word site.shape) ≡ 0) where
    pub stays_on : (m : OpState) → IsAsking m → either_ops.outcome m ≢ Some off → either_ops.outcome (next either_ops site words m) ≢ Some off
    stays_on (one m) a on =
        never_off call_part m (answer_to (call_part.wanted m) (finds call_part site words m)) (by_call.stays m _) (λ none now. ((call_steps m a).caused off none now).1 power) on
    stays_on (other (one m)) a on =
        never_off whole_split m (answer_to (whole_split.wanted m) (finds whole_split site words m)) (by_split.stays m _) (λ none now. ((split_steps m a).caused off none now).1 power) on
    stays_on (other (other m)) a on =
        never_off whole_repair m (answer_to (whole_repair.wanted m) (finds whole_repair site words m)) (by_repair.stays m _) (λ none now. ((repair_steps m a).caused off none now).1 power) on
