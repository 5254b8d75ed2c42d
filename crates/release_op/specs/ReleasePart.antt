-- The release as a part of a call: of what an insert kept it may begin, the view in each of its steps, and what it remembers.
use Rattle.std.specs.Prelude.{◌≡◌, ℕ, ◌^◌, ◌<◌, ⊤, false, Option, None, Some, List, []}
use Rattle.map_model.specs.declared.call.Call.{Call}
use Rattle.map_model.specs.Changes.{call_of}
use Rattle.map_model.specs.Legal.{IsInsert}
use Rattle.world.specs.declared.site.Site.{Site}
use Rattle.world.specs.Ground.{Ground}
use Rattle.world.specs.Views.{View}
use Rattle.world.specs.Kinds.{Kind}
use Rattle.world.specs.Attempts.{HoldsOnly}
use Rattle.world.specs.StepKinds.{of_call}
use Rattle.part.specs.Doings.{Doings}
use Rattle.part.specs.Outcomes.{Outcome, need_split}
use Rattle.part.specs.Part.{Part}
use Rattle.phase.specs.declared.held.Held.{Held}
use Rattle.phase.specs.declared.kept.Kept.{Kept}
use Rattle.phase.specs.Stands.{IsThere}
use Rattle.phase.specs.Giving.{IsLocated, IsQuiet, HoldsLocks, give_kind, give_left}
use Rattle.phase.specs.Keeps.{KeepsFull, RemembersRoom}
use Rattle.phase.specs.Third.{NothingToMove}
use Rattle.release_op.specs.declared.op.ReleaseStep.{ReleaseStep}
use Rattle.release_op.specs.declared.op.ReleaseStep.TheVariants.{Begin, Give, Ended}
use Rattle.release_op.specs.declared.op.ReleaseOp.{ReleaseOp}
use Rattle.release_op.specs.Steps.{begun, held_in, wanted, taken}

-- ---- its events
-- at most so many: six locks back
abbrev pub most_events : ℕ
most_events = 6

module _ (kept : Kept) where
  abbrev pub left_at : ReleaseStep → ℕ
  left_at at = give_left (held_in kept at)

  abbrev pub kind_at : ReleaseStep → Kind
  kind_at at = give_kind kept.site kept.hash kept.segment (held_in kept at)

  -- from the first lock on that is given back it is decided
  abbrev pub outcome_at : ReleaseStep → Option Outcome
  outcome_at Begin = None
  outcome_at (Give held) = Some (need_split kept.segment)
  outcome_at Ended = Some (need_split kept.segment)

  -- ---- THE VIEW in each step
  -- these locks are held, and nothing is unsettled, planned, under way or owed; the segment is known to be live and current
  pub record IsGivingBack (site : Ground) (held : Held) (v : View) : Type 0 where
    pub locks : HoldsLocks kept.site kept.hash kept.segment held v
    pub quiet : IsQuiet v
    pub there : IsThere site kept.segment v.facts

  -- nothing is held, known or owed, and the segment is known to be live and current
  pub record HasGivenBack (site : Ground) (v : View) : Type 0 where
    pub bare : HoldsOnly [] v
    pub there : IsThere site kept.segment v.facts

  abbrev pub SuitsStep : Ground → ReleaseStep → View → Type 0
  SuitsStep site Begin v = KeepsFull site kept v
  SuitsStep site (Give held) v = IsGivingBack site held v
  SuitsStep site Ended v = HasGivenBack site v

-- WHAT MAY BE RELEASED: what was kept for the call, of a key that is a word
pub record MayBeReleased (here : Site) (call : Call) (kept : Kept) : Type 0 where
  pub same : call_of kept.change ≡ call
  pub at : kept.site ≡ here
  pub key : kept.change.key < 2 ^ 64

-- it is an insert's, in a segment of the image
pub record ReleaseStands (site : Ground) (here : Site) (call : Call) (op : ReleaseOp) (v : View) : Type 0 where
  pub may : MayBeReleased here call op.kept
  pub insert : IsInsert (call_of op.kept.change)
  pub located : IsLocated site op.kept.site op.kept.segment
  pub view : SuitsStep op.kept site op.step v

-- ---- what it remembers
-- the way to its segment, the words of the buckets where its key may stand, and that nothing could be moved
abbrev pub RemembersAt : Ground → Kept → List (ℕ × ℕ) → ReleaseStep → Type 0
RemembersAt site kept loads Begin = RemembersRoom site kept loads × NothingToMove kept loads
RemembersAt site kept loads more = ⊤

-- THE RELEASE AS A PART
abbrev pub release_part : Part ReleaseOp
release_part = record {
  wanted = wanted;
  taken = taken;
  kind = λ op n. of_call (kind_at op.kept op.step);
  Stands = ReleaseStands;
  outcome = λ op. outcome_at op.kept op.step;
  Remembers = λ site op did. RemembersAt site op.kept did.loads op.step;
  HasWorked = λ site op did. ⊥;
  HasMade = λ op. ⊥;
  left = λ op. left_at op.kept op.step;
  most_events = most_events;
  is_waiting = λ op. false;
  waiting = λ op. 0;
  most_waiting = 0;
  hands_on = λ op. false;
}

-- ---- where it begins
-- with what may be released, by a caller that keeps all its locks and what it knows, those of the stash buckets among them
abbrev pub BeginsAsPart : Type 0
BeginsAsPart = (site : Ground) (here : Site) (call : Call) (kept : Kept) (v : View) → MayBeReleased here call kept → KeepsFull site kept v → ReleaseStands site here call (begun kept) v

-- it remembers what the insert does that hands on to it
abbrev pub BeginsRemembering : Type 0
BeginsRemembering = (site : Ground) (kept : Kept) (did : Doings) → RemembersRoom site kept did.loads → NothingToMove kept did.loads → release_part.Remembers site (begun kept) did

-- and nothing is decided
abbrev pub BeginsUndecided : Type 0
BeginsUndecided = (kept : Kept) → release_part.outcome (begun kept) ≡ None
