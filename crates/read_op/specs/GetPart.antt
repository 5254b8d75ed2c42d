-- A get as a part of a call.
use Rattle.std.specs.Prelude.{◌≡◌, ℕ, ◌+◌, ◌^◌, ◌<◌, ⊤, Bool, true, false, Option, None, Some, List, []}
use Rattle.op_core.specs.declared.want.Want.TheVariants.{Done}
use Rattle.bucket_meta.specs.Bucket.{mark_place, rest_place, lock_bit}
use Rattle.image_layout.specs.Places.{buckets_of_key}
use Rattle.image_layout.specs.Volatile.{counter_word}
use Rattle.map_model.specs.declared.call.Call.{Call}
use Rattle.map_model.specs.declared.call.Call.TheVariants.{Get}
use Rattle.map_model.specs.declared.entry.Reply.TheVariants as reply
use Rattle.world.specs.declared.site.Site.{Site}
use Rattle.world.specs.Ground.{Ground, version_of}
use Rattle.world.specs.Views.{View, Has}
use Rattle.world.specs.Attempts.{HoldsOnly}
use Rattle.world.specs.StepKinds.{of_call}
use Rattle.part.specs.Doings.{Doings, nothing_done}
use Rattle.part.specs.Outcomes.{Outcome, replied, again, stale, off}
use Rattle.part.specs.Part.{Part}
use Rattle.part.specs.Causes.{MustVisit}
use Rattle.phase.specs.declared.load.Load.{Load}
use Rattle.phase.specs.Stands.{IsLoading}
use Rattle.phase.specs.Causes.{WasFound, RemembersWalk}
use Rattle.phase.specs.declared.role.Role.{Role}
use Rattle.phase.specs.declared.role.Role.TheVariants.{Home, Probing, First, Second}
use Rattle.read_op.specs.declared.step.Seen.{Seen}
use Rattle.read_op.specs.declared.step.ReadEnd.{ReadEnd}
use Rattle.read_op.specs.declared.step.ReadEnd.TheVariants as ends
use Rattle.read_op.specs.declared.step.ReadStep.{ReadStep}
use Rattle.read_op.specs.declared.step.ReadStep.TheVariants.{Way, Look, Fill, Count, Check, Relook, Ended}
use Rattle.read_op.specs.declared.step.Task.{Task}
use Rattle.read_op.specs.declared.op.ReadOp.{ReadOp}
use Rattle.phase.specs.Places.{stash_index}
use Rattle.phase.specs.Asked.{index, looked_by}
use Rattle.read_op.specs.Places.{free_at}
use Rattle.read_op.specs.Steps.{begun, wanted, taken, lock_of}
use Rattle.read_op.specs.Budget.{most_events, left}
use Rattle.read_op.specs.Fits.{is_asked, Upto, kind_of, IsIn, Suits}

abbrev pub outcome_of : ReadEnd → Outcome
outcome_of (ends.Found value place) = replied (reply.Found value) place
outcome_of (ends.Absent place) = replied reply.Absent place
outcome_of (ends.Again why) = again why
outcome_of (ends.Stale segment byte) = stale segment byte
outcome_of ends.Off = off

abbrev pub outcome_in : ReadStep → Option Outcome
outcome_in (Ended end) = Some (outcome_of end)
outcome_in step = None

-- it gets the call's key, in this image, and its caller holds and owes nothing
pub record Stands (site : Ground) (here : Site) (call : Call) (op : ReadOp) (v : View) : Type 0 where
  pub same : call ≡ Get op.task.key
  pub at : op.task.site ≡ here
  pub is_in : IsIn site op.task
  pub suits : Suits site op v
  pub nothing : HoldsOnly [] v

-- ---- what it remembers
module _ (task : Task) (loads : List (ℕ × ℕ)) where
  -- a stash bucket is visited where it has to be, by the words of home and probing bucket that were loaded
  abbrev pub HasReason : Seen → Bool → ℕ → Type 0
  HasReason s visited index = visited ≡ true → MustVisit task.site.geometry task.hash loads s.path.segment index

  -- the way to the segment was loaded, and the lock words of the buckets before the k-th, which had free values; and the stash buckets
  -- that are visited have to be
  pub record RemembersSeen (s : Seen) (k : ℕ) : Type 0 where
    pub path : WasFound task.site task.hash loads s.path
    pub free : (q : Role) → Upto s k q → Has (lock_of task s q, free_at s.free q) loads × (lock_bit (free_at s.free q) ≡ 0)
    pub first : HasReason s s.first (stash_index First)
    pub second : HasReason s s.second (stash_index Second)

  -- words 1 and 3 of the home bucket were loaded, as they are kept while the probing bucket is
  abbrev pub RemembersMeta : Seen → Role → Type 0
  RemembersMeta s Probing = Has (lock_of task s Home + mark_place, s.meta) loads × Has (lock_of task s Home + rest_place, s.fingers) loads
  RemembersMeta s p = ⊤

  -- a bucket that is asked for is loaded
  pub record RemembersFill (s : Seen) (p : Role) (load : Load) : Type 0 where
    pub seen : RemembersSeen s (looked_by p)
    pub asked : is_asked s p ≡ true
    pub filling : IsLoading (lock_of task s p) loads load
    pub meta : RemembersMeta s p

  -- and all lock words, and the place
  pub record RemembersPlaced (s : Seen) (placed : ℕ) : Type 0 where
    pub seen : RemembersSeen s buckets_of_key
    pub place : Has (counter_word task.site.geometry, placed) loads

  -- it looks at no bucket but those that are asked for
  abbrev pub RemembersIn : ReadStep → Type 0
  RemembersIn (Way walk) = RemembersWalk task.site task.hash loads walk
  RemembersIn (Look s p) = RemembersSeen s (index p) × (is_asked s p ≡ true)
  RemembersIn (Fill s p load) = RemembersFill s p load
  RemembersIn (Count s) = RemembersSeen s buckets_of_key
  RemembersIn (Check s placed back) = RemembersPlaced s placed
  RemembersIn (Relook s placed p) = RemembersPlaced s placed × (is_asked s p ≡ true)
  RemembersIn (Ended end) = ⊤

-- all that it keeps was loaded, and it changed nothing
pub record Remembers (site : Ground) (op : ReadOp) (did : Doings) : Type 0 where
  pub kept : RemembersIn op.task did.loads op.step
  pub none : did.changed ≡ []

abbrev pub get_part : Part ReadOp
get_part = record {
  wanted = wanted;
  taken = taken;
  kind = λ op n. of_call (kind_of op);
  Stands = Stands;
  outcome = λ op. outcome_in op.step;
  Remembers = Remembers;
  HasWorked = λ site op did. ⊥;
  HasMade = λ op. ⊥;
  left = λ op. left op.step;
  most_events = most_events;
  is_waiting = λ op. false;
  waiting = λ op. 0;
  most_waiting = 0;
  hands_on = λ op. false;
}

-- ---- where it begins and ends
-- a get of a key that is a word, in an image of this shape and version, by a caller that holds and owes nothing
abbrev pub BeginsAsPart : Type 0
BeginsAsPart = (site : Ground) (here : Site) (key : ℕ) (v : View) → here.geometry ≡ site.shape → here.version ≡ version_of site → key < 2 ^ 64 → HoldsOnly [] v
    → Stands site here (Get key) (begun key here) v

-- nothing is decided there
abbrev pub BeginsUndecided : Type 0
BeginsUndecided = (here : Site) (key : ℕ) → outcome_in (begun key here).step ≡ None

-- it remembers what it did, which is nothing
abbrev pub BeginsRemembering : Type 0
BeginsRemembering = (site : Ground) (here : Site) (key : ℕ) → Remembers site (begun key here) nothing_done

-- and at its end it tells its outcome
abbrev pub EndsAsSaid : Type 0
EndsAsSaid = (op : ReadOp) → wanted op ≡ Done → (end : ReadEnd) × (op.step ≡ Ended end)
