-- A record that comes to the stash, as a part of a call: where both stash buckets are full its locks are kept, and another part goes on.
use Rattle.std.specs.Prelude.{◌≡◌, ⊤, true, false, None}
use Rattle.map_model.specs.declared.call.Call.{Call}
use Rattle.world.specs.declared.site.Site.{Site}
use Rattle.world.specs.Ground.{Ground, spent_lock}
use Rattle.world.specs.Views.{View, Has}
use Rattle.world.specs.StepKinds.{of_call}
use Rattle.part.specs.Doings.{Doings}
use Rattle.part.specs.Part.{Part}
use Rattle.phase.specs.declared.role.Role.TheVariants as place
use Rattle.phase.specs.declared.held.Held.{Held}
use Rattle.phase.specs.declared.kept.Kept.{Kept}
use Rattle.phase.specs.Helds.{without_held}
use Rattle.phase.specs.Stands.{IsLoading}
use Rattle.phase.specs.Taking.{RemembersTake}
use Rattle.phase.specs.Keeps.{IsOfCall, KeepsAll, HoldsThirds, KeepsFull, ChangedLocks, LoadedFull, RemembersRoom}
use Rattle.phase.specs.Third.{NothingToMove}
use Rattle.phase.specs.Making.{most_waiting}
use Rattle.stash_op.specs.declared.step.StashBucket.{StashBucket}
use Rattle.stash_op.specs.declared.step.StashBucket.TheVariants.{First, Second}
use Rattle.stash_op.specs.declared.step.StashEnd.TheVariants.{NeedSplit}
use Rattle.stash_op.specs.declared.step.Seen.{Seen}
use Rattle.stash_op.specs.declared.step.StashStep.{StashStep}
use Rattle.stash_op.specs.declared.step.StashStep.TheVariants.{Lock, Fill, CountSpent, Ended}
use Rattle.stash_op.specs.declared.op.StashOp.{StashOp}
use Rattle.stash_op.specs.Search.{place_of}
use Rattle.stash_op.specs.Steps.{lock_of, begun, wanted, taken, end_at, needs_split, kept_in, kept_of}
use Rattle.stash_op.specs.Left.{most_events, left_at, waiting_at, HasMadeAt}
use Rattle.stash_op.specs.Fits.{kind_at, StashStands, outcome_at}

-- ---- what it remembers of what its attempt did
module _ (site : Ground) (kept : Kept) (seen : Seen) (did : Doings) where
  -- as much as of what it goes on from: the way was loaded, with the words of the buckets of these locks, and those by which nothing could
  -- be moved; and it changed no words but those of locks that it holds
  pub record RemembersKept (loaded : Held) : Type 0 where
    pub room : RemembersRoom site (kept_in kept (record seen { held = loaded })) did.loads
    pub nothing : NothingToMove (kept_in kept seen) did.loads
    pub changed : ChangedLocks (kept_in kept seen) did.changed

  -- before the second stash bucket is tried, the first one was loaded, and is full by its words
  abbrev pub HasPassed : StashBucket → Type 0
  HasPassed First = ⊤
  HasPassed Second = LoadedFull (kept_in kept seen) did.loads place.First

  -- the lock word of a stash bucket that had its turn was loaded as free with the last version
  abbrev pub LoadedSpent : Type 0
  LoadedSpent = (bucket : StashBucket) × HasPassed bucket × Has (lock_of kept (place_of bucket), spent_lock) did.loads

  abbrev pub RemembersIn : StashStep → Type 0
  RemembersIn (Lock bucket take) = RemembersKept seen.held × RemembersTake (lock_of kept (place_of bucket)) did.loads take × HasPassed bucket
  RemembersIn (Fill bucket load) = RemembersKept (without_held (place_of bucket) seen.held) × IsLoading (lock_of kept (place_of bucket)) did.loads load
  RemembersIn CountSpent = RemembersKept seen.held × LoadedSpent
  RemembersIn (Ended (NeedSplit segment)) = RemembersKept seen.held
  RemembersIn more = ⊤

-- A RECORD THAT COMES TO THE STASH, AS A PART
abbrev pub stash_part : Part StashOp
stash_part = record {
  wanted = wanted;
  taken = taken;
  kind = λ op n. of_call (kind_at op.kept op.stage.seen op.stage.step);
  Stands = StashStands;
  outcome = λ op. outcome_at op.stage.step;
  Remembers = λ site op did. RemembersIn site op.kept op.stage.seen did op.stage.step;
  HasWorked = λ site op did. ⊥;
  HasMade = λ op. HasMadeAt op.stage.step;
  left = λ op. left_at op.stage.step;
  most_events = most_events;
  is_waiting = λ op. false;
  waiting = λ op. waiting_at op.stage.step;
  most_waiting = most_waiting;
  hands_on = λ op. needs_split op.stage.step;
}

-- ---- where it begins
-- what it may go on from: what an insert of the call keeps, with the locks of both third buckets
pub record MayBeStashed (here : Site) (call : Call) (kept : Kept) : Type 0 where
  pub whose : IsOfCall here call kept
  pub thirds : HoldsThirds kept.held

-- by a caller who keeps all locks
abbrev pub BeginsAsPart : Type 0
BeginsAsPart = (site : Ground) (here : Site) (call : Call) (kept : Kept) (v : View) → MayBeStashed here call kept → KeepsAll site kept v → StashStands site here call (begun kept) v

-- it remembers what was handed on
abbrev pub BeginsRemembering : Type 0
BeginsRemembering = (site : Ground) (kept : Kept) (did : Doings) → RemembersRoom site kept did.loads → NothingToMove kept did.loads → ChangedLocks kept did.changed
    → stash_part.Remembers site (begun kept) did

-- and nothing is decided
abbrev pub BeginsUndecided : Type 0
BeginsUndecided = (kept : Kept) → outcome_at (begun kept).stage.step ≡ None

-- WHERE IT HANDS ON, both stash buckets are held and full too, and what was so where it began is so still; and it tells the segment that was kept
pub record HandsOnFull (site : Ground) (here : Site) (call : Call) (op : StashOp) (v : View) : Type 0 where
  pub may : MayBeStashed here call (kept_of op)
  pub full : KeepsFull site (kept_of op) v
  pub told : end_at op.stage.step ≡ NeedSplit op.kept.segment

abbrev pub HandsOnAll : Type 0
HandsOnAll = (site : Ground) (here : Site) (call : Call) (op : StashOp) (v : View) → StashStands site here call op v → needs_split op.stage.step ≡ true → HandsOnFull site here call op v

-- and it remembers as much, of each bucket that is held then
pub record RemembersFull (site : Ground) (kept : Kept) (did : Doings) : Type 0 where
  pub room : RemembersRoom site kept did.loads
  pub nothing : NothingToMove kept did.loads
  pub changed : ChangedLocks kept did.changed

abbrev pub HandsOnRemembering : Type 0
HandsOnRemembering = (site : Ground) (op : StashOp) (did : Doings) → needs_split op.stage.step ≡ true → stash_part.Remembers site op did → RemembersFull site (kept_of op) did
