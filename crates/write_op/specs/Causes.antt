-- By what a change is made and answered, in any state; and its ends in a world, beside any other callers.
use Rattle.std.specs.Prelude.{◌≡◌, ◌≢◌, ℕ, ◌<◌, ◌≤◌, true, None, Some, List, ◌⊎◌, ◌↔◌, slice_index}
use Rattle.op_core.specs.declared.want.Want.TheVariants.{Load, Done as DoneWant}
use Rattle.op_core.specs.declared.want.Ans.{Ans}
use Rattle.op_core.specs.declared.want.Ans.TheVariants.{Value, Drawn}
use Rattle.op_core.specs.declared.why.Why.TheVariants.{Busy}
use Rattle.bucket_meta.specs.Bucket.{lock_bit, record_slots, mark_place, records_of}
use Rattle.bucket_meta.specs.Search.{IsThere, lowest_free}
use Rattle.trace.specs.Events.{Words}
use Rattle.image_layout.specs.Volatile.{counter_word}
use Rattle.map_model.specs.declared.call.Call.{Call}
use Rattle.map_model.specs.declared.change.Effect.TheVariants.{Insert}
use Rattle.map_model.specs.declared.entry.Reply.{Reply}
use Rattle.map_model.specs.declared.entry.Reply.TheVariants as reply
use Rattle.map_model.specs.Changes.{call_of}
use Rattle.map_model.specs.Legal.{IsInsert}
use Rattle.world.specs.declared.site.Site.{Site}
use Rattle.world.specs.Ground.{Ground, IsLockWord}
use Rattle.world.specs.Views.{View, At, HasLock}
use Rattle.world.specs.Pairs.{IsPublishingKind}
use Rattle.world.specs.Invariant.{Holds}
use Rattle.part.specs.Doings.{Doings}
use Rattle.part.specs.Outcomes.{Outcome, replied, again, stale}
use Rattle.part.specs.Part.{Suits, next}
use Rattle.phase.specs.declared.role.Role.{Role}
use Rattle.phase.specs.declared.role.Role.TheVariants.{Home, Probing}
use Rattle.phase.specs.declared.make.Make.TheVariants.{Publish}
use Rattle.phase.specs.declared.kept.Buckets.{Buckets}
use Rattle.phase.specs.Buckets.{words_in}
use Rattle.phase.specs.Stands.{IsCurrent}
use Rattle.phase.specs.Keeps.{WasLoaded}
use Rattle.write_op.specs.declared.step.WriteStep.TheVariants.{Make, Draw}
use Rattle.write_op.specs.declared.op.WriteOp.{WriteOp}
use Rattle.write_op.specs.Steps.{wanted, taken, kept_of}
use Rattle.write_op.specs.Left.{HasMadeAt}
use Rattle.write_op.specs.Fits.{is_asked, kind_of, ChangeStands, outcome_at}
use Rattle.write_op.specs.ChangePart.{Remembers, change_part}

-- ---- the one store
-- AN EVENT IS OF A KIND THAT MAKES A CHANGE exactly where the one store is next
abbrev pub PublishesThere : Type 0
PublishesThere = (op : WriteOp) (n : ℕ) → IsPublishingKind (kind_of op n) ↔ (op.stage.step ≡ Make Publish)

-- and nothing but that store makes the change, however it is answered
abbrev pub MadeOnlySo : Type 0
MadeOnlySo = (op : WriteOp) (a : Ans) → HasMadeAt (taken op a).stage.step → HasMadeAt op.stage.step ⊎ (op.stage.step ≡ Make Publish)

-- ---- where a new record comes
-- as many records has a bucket, by its words
abbrev pub records_in : List ℕ → ℕ
records_in words = records_of (slice_index words mark_place)

-- IT TAKES THE LOWEST FREE SLOT of the home bucket where that has no more records than the probing bucket, and else of the probing
-- bucket
pub record IsRoomiest (buckets : Buckets) (place : Role) (slot : ℕ) : Type 0 where
  pub fewer : ((place ≡ Home) × (records_in buckets.home ≤ records_in buckets.probing)) ⊎ ((place ≡ Probing) × (records_in buckets.probing < records_in buckets.home))
  pub lowest : lowest_free (slice_index (words_in buckets place) mark_place) ≡ Some slot

-- so by the words that are kept, where the one store of an insert is next
abbrev pub InsertsWhereFewer : Type 0
InsertsWhereFewer = (site : Ground) (here : Site) (call : Call) (op : WriteOp) (v : View) → ChangeStands site here call op v → op.stage.step ≡ Make Publish → (value : ℕ) → op.task.change.effect ≡ Insert value
    → IsRoomiest op.stage.seen.buckets op.stage.seen.place op.stage.seen.written.slot

-- ---- what is answered, for an attempt that did this, where its event is answered so
module _ (op : WriteOp) (did : Doings) (a : Ans) where
  -- the key is in a slot of a bucket that was asked for, by its words, which were loaded
  pub record FindsKey : Type 0 where
    pub place : Role
    pub asked : is_asked op.stage.seen place ≡ true
    pub slot : ℕ
    pub within : slot < record_slots
    pub there : IsThere (words_in op.stage.seen.buckets place) op.task.change.key slot
    pub loaded : WasLoaded (kept_of op) did.loads place

  -- it is in no slot of any of them
  pub record FindsNoKey : Type 0 where
    pub nowhere : (place : Role) → is_asked op.stage.seen place ≡ true → (slot : ℕ) → slot < record_slots → IsThere (words_in op.stage.seen.buckets place) op.task.change.key slot → ⊥
    pub loaded : (place : Role) → is_asked op.stage.seen place ≡ true → WasLoaded (kept_of op) did.loads place

  -- the event loaded the commit counter, which had this value
  abbrev pub Counts : ℕ → Type 0
  Counts place = (wanted op ≡ Load (counter_word op.task.site.geometry)) × (a ≡ Value place)

  -- BY WHAT IT IS ANSWERED, with this place: a refusal by the words that were loaded, with the counter's value; a change that is done
  -- by its draw, with the place that it drew
  abbrev pub Tells : Reply → ℕ → Type 0
  Tells reply.Exists place = Counts place × IsInsert (call_of op.task.change) × FindsKey
  Tells reply.Absent place = Counts place × (IsInsert (call_of op.task.change) → ⊥) × FindsNoKey
  Tells reply.Spent place = Counts place
  Tells reply.Done place = (op.stage.step ≡ Draw) × (a ≡ Drawn place)
  Tells other place = ⊥

-- EACH REPLY IS TOLD AS IT WAS SEEN, by the event that decides it, whatever it is answered
abbrev pub RepliesAsSeen : Type 0
RepliesAsSeen = (site : Ground) (op : WriteOp) (did : Doings) (a : Ans) → Remembers site op did → outcome_at op.stage.step ≡ None
    → (answer : Reply) (place : ℕ) → outcome_at (taken op a).stage.step ≡ Some (replied answer place) → Tells op did a answer place

-- ---- in a world
-- the next event decides that it ends so
pub record Decides (site : Ground) (op : WriteOp) (words : Words) (outcome : Outcome) : Type 0 where
  pub undecided : outcome_at op.stage.step ≡ None
  pub decided : outcome_at (next change_part site words op).stage.step ≡ Some outcome

-- where nobody else has a lock, none is found taken
abbrev pub NeverBusy : Type 0
NeverBusy = (site : Ground) (here : Site) (call : Call) (op : WriteOp) (words : Words) (views : List View) (j : ℕ) (before v : View) → Holds site words views → At views j v
    → Suits change_part site here call op before v → wanted op ≢ DoneWant → ((lock : ℕ) → IsLockWord site.shape lock → lock_bit (words lock) ≡ 1 → HasLock v.held lock)
    → (word value : ℕ) → Decides site op words (again (Busy word value)) → ⊥

-- where each live segment has the site's version, no segment is stale
abbrev pub NeverStale : Type 0
NeverStale = (site : Ground) (here : Site) (call : Call) (op : WriteOp) (words : Words) (views : List View) (j : ℕ) (before v : View) → Holds site words views → At views j v
    → Suits change_part site here call op before v → wanted op ≢ DoneWant → IsCurrent site.shape words op.task.site.version
    → (segment byte : ℕ) → Decides site op words (stale segment byte) → ⊥
