-- By what a change is made and answered, in any state; and in a world, that no lock is found taken but another's, and that no current
-- segment is stale.
use Rattle.std.proofs.Common.{◌≡◌, ℕ, ◌+◌, ◌-◌, ◌%◌, ◌^◌, Bool, true, false, None, Some, refl, sym, ap, ◌∙◌, subst, arith}
use Rattle.std.specs.Prelude.{⊤, ◌==◌, if◌then◌else◌}
use Rattle.std.proofs.lemmas.Bool.{eqb-true}
use Rattle.op_core.specs.declared.want.Want.TheVariants as want
use Rattle.op_core.specs.declared.want.Ans.{Ans}
use Rattle.op_core.specs.declared.want.Ans.TheVariants.{Value, Won, Lost}
use Rattle.op_core.specs.declared.why.Why.TheVariants.{Busy}
use Rattle.bucket_meta.proofs.Found.{found_with, none_with}
use Rattle.trace.specs.Events.{Words}
use Rattle.image_layout.specs.Places.{Shape}
use Rattle.image_layout.specs.Volatile.{counter_word}
use Rattle.world.specs.Ground.{Ground, IsLockWord}
use Rattle.world.specs.Views.{View, HasLock}
use Rattle.world.specs.Wants.{answer_to, word_of}
use Rattle.world.specs.Pairs.{IsPublishingKind}
use Rattle.part.specs.Doings.{Doings}
use Rattle.part.specs.Outcomes.{Outcome, replied, again, stale}
use Rattle.phase.specs.declared.walk.Walk.{Walk}
use Rattle.phase.specs.declared.walk.Walked.TheVariants as walked
use Rattle.phase.specs.declared.take.Take.{Take}
use Rattle.phase.specs.declared.take.Take.TheVariants.{Look, Try}
use Rattle.phase.specs.declared.take.Taken.TheVariants as taking
use Rattle.phase.specs.Walks.{walk_wanted, walk_taken}
use Rattle.phase.specs.Takes.{take_wanted, take_taken}
use Rattle.phase.specs.Backs.{back_taken}
use Rattle.phase.specs.Buckets.{words_in}
use Rattle.phase.proofs.asking.Asked.{few}
use Rattle.phase.proofs.Walking.{walk_never_stale}
use Rattle.phase.proofs.locks.Giving.{is_lock, has_not}
use Rattle.write_op.specs.declared.step.Task.{Task}
use Rattle.write_op.specs.declared.step.Spot.{Spot}
use Rattle.write_op.specs.declared.step.Seen.{Seen}
use Rattle.write_op.specs.declared.step.WriteStep.{WriteStep}
use Rattle.write_op.specs.declared.step.WriteStep.TheVariants.{Way, Lock, Count, CountSpent}
use Rattle.write_op.specs.declared.op.WriteOp.{WriteOp}
use Rattle.write_op.specs.Search.{found, leaves_note}
use Rattle.write_op.specs.Steps.{lock_of, wanted_in, next_in, wanted}
use Rattle.write_op.specs.Fits.{publish_by, kind_at, SuitsStep, IsIn, outcome_at}
use Rattle.write_op.specs.ChangePart.{LoadedUpto, RemembersIn, Remembers}
use Rattle.write_op.specs.Causes.{PublishesThere, FindsKey, FindsNoKey, Tells, RepliesAsSeen, NeverBusy, NeverStale}
use Rattle.write_op.proofs.finding.Searching.{found_none, found_some}
use Rattle.write_op.proofs.keeping.Going.{located}
use Rattle.write_op.proofs.keeping.Stepping.{walk_answer}
use Rattle.write_op.proofs.causing.Told.{Told, walked_told, locked_told, backed_told, counted_told, next_told}
use Rattle.write_op.proofs.parts.Parting.{only_there}

-- ---- the one store
publishes_by : (task : Task) (seen : Seen) (b : Bool) (i x : ℕ) → IsPublishingKind (publish_by task seen b i x)
publishes_by task seen true i x = tt
publishes_by task seen false i x = tt

pub publishes_there : PublishesThere
publishes_there op n = (
  λ p. only_there op.task op.stage.seen op.stage.step n p,
  λ e. subst (λ s. IsPublishingKind (kind_at op.task op.stage.seen s n)) (sym e)
      (publishes_by op.task op.stage.seen (leaves_note op.task.change.effect op.stage.seen.place) (lock_of op.task op.stage.seen op.stage.seen.place + op.stage.seen.written.published) op.stage.seen.written.mark),
)

-- ---- what is answered
module _ (site : Ground) (op : WriteOp) (did : Doings) (a : Ans) (r : Remembers site op did) where
  abbrev seen : Seen
  seen = op.stage.seen

  -- all buckets that were asked for are loaded at the counter
  all_loaded : op.stage.step ≡ Count → LoadedUpto op.task seen did 4
  all_loaded e = let kept : RemembersIn op.task seen did Count = subst (λ s. RemembersIn op.task seen did s) e r in kept.2

  counts : (n : ℕ) (s : WriteStep) → op.stage.step ≡ s → wanted_in op.task seen s ≡ want.Load (counter_word op.task.site.geometry) → a ≡ Value n
      → (wanted op ≡ want.Load (counter_word op.task.site.geometry)) × (a ≡ Value n)
  counts n s e load is = (ap (wanted_in op.task seen) e ∙ load, is)

  finds_key : op.stage.step ≡ Count → (spot : Spot) → found seen op.task.change.key ≡ Some spot → FindsKey op did a
  finds_key e spot is =
      let f = found_some seen op.task.change.key spot is in
      let there = found_with (words_in seen.buckets spot.place) op.task.change.key spot.slot f.slot in
      record {
        place = spot.place;
        asked = f.asked;
        slot = spot.slot;
        within = there.1;
        there = there.0;
        loaded = all_loaded e spot.place (record { low = few seen.first seen.second spot.place f.asked; asked = f.asked });
      }

  finds_no_key : op.stage.step ≡ Count → found seen op.task.change.key ≡ None → FindsNoKey op did a
  finds_no_key e is = record {
    nowhere = λ place asked. none_with (words_in seen.buckets place) op.task.change.key (found_none seen op.task.change.key is place asked);
    loaded = λ place asked. all_loaded e place (record { low = few seen.first seen.second place asked; asked = asked });
  }

  abbrev AsSeen : Outcome → Type 0
  AsSeen (replied answer place) = Tells op did a answer place
  AsSeen more = ⊤

  pub as_seen : outcome_at op.stage.step ≡ None → Told AsSeen (next_in op.task seen op.stage.step a).step
  as_seen none = next_told AsSeen op.task seen op.stage.step a none
      (λ w n e is. walked_told AsSeen op.task seen (walk_taken op.task.site op.task.hash w n) (λ x. tt) (λ word value x. tt) (λ segment byte x. tt))
      (λ place take e. locked_told AsSeen op.task seen place (lock_of op.task seen place) (take_taken take a) (λ value x. tt) (λ first after x. tt))
      (λ back n e is. backed_told AsSeen op.task seen (back_taken op.task.site op.task.hash seen.path back n) (λ word first after x. tt))
      (λ n e is. counted_told AsSeen op.task seen n (λ spot insert there. (counts n Count e refl is, insert, finds_key e spot there)) (λ other nowhere. (counts n Count e refl is, other, finds_no_key e nowhere))
      (λ t. counts n Count e refl is))
      (λ n e is. (e, is))
      (λ n e is. counts n CountSpent e refl is)

pub replies_as_seen : RepliesAsSeen
replies_as_seen site op did a r none answer place some = as_seen site op did a r none (replied answer place) some

-- ---- in a world
-- a lock that is told busy is odd
look_odd : (n value : ℕ) (odd spent : Bool) → (n % 2 == 1) ≡ odd → (if odd then taking.Busy n else if spent then taking.Spent else taking.On (Try n)) ≡ taking.Busy value → n % 2 ≡ 1
look_odd n value true spent test is = eqb-true (n % 2) 1 test
look_odd n value false true test is = absurd (let z : taking.Spent ≡ taking.Busy value = is in cc)
look_odd n value false false test is = absurd (let z : taking.On (Try n) ≡ taking.Busy value = is in cc)

lost_odd : (free n value : ℕ) (odd : Bool) → (n % 2 == 1) ≡ odd → (if odd then taking.Busy n else taking.Moved free n) ≡ taking.Busy value → n % 2 ≡ 1
lost_odd free n value true test is = eqb-true (n % 2) 1 test
lost_odd free n value false test is = absurd (let z : taking.Moved free n ≡ taking.Busy value = is in cc)

try_odd : (free n value : ℕ) (won : Bool) → take_taken (Try free) (if won then Won else Lost n) ≡ taking.Busy value → n % 2 ≡ 1
try_odd free n value true is = absurd (let z : taking.Held free ≡ taking.Busy value = is in cc)
try_odd free n value false is = lost_odd free n value (n % 2 == 1) refl is

busy_odd : (shape : Shape) (lock : ℕ) (t : Take) (words : Words) (value : ℕ) → take_taken t (answer_to (take_wanted lock t) (words (word_of shape (take_wanted lock t)))) ≡ taking.Busy value
    → words lock % 2 ≡ 1
busy_odd shape lock Look words value is = look_odd (words lock) value (words lock % 2 == 1) (words lock == 2 ^ 64 - 2) refl is
busy_odd shape lock (Try free) words value is = try_odd free (words lock) value (words lock == free) is

module _ (site : Ground) (task : Task) (is : IsIn site task) (seen : Seen) (v : View) (words : Words) (s : WriteStep) (suits : SuitsStep site task seen s v) (none : outcome_at s ≡ None) where
  abbrev met : WriteStep → Ans
  met z = answer_to (wanted_in task seen z) (words (word_of site.shape (wanted_in task seen z)))

  abbrev IsFree : Outcome → Type 0
  IsFree (again (Busy word value)) = ⊥
  IsFree more = ⊤

  pub free_told : ((lock : ℕ) → IsLockWord site.shape lock → words lock % 2 ≡ 1 → HasLock v.held lock) → Told IsFree (next_in task seen s (met s)).step
  free_told alone = next_told IsFree task seen s (met s) none
      (λ w n e x. walked_told IsFree task seen (walk_taken task.site task.hash w n) (λ y. tt) (λ word value y. tt) (λ segment byte y. tt))
      (λ place t e. locked_told IsFree task seen place (lock_of task seen place) (take_taken t (met s))
      (λ value busy.
      let fits : SuitsStep site task seen (Lock place t) v = subst (λ z. SuitsStep site task seen z v) e suits in
      let at = located site task is seen v.facts fits.0.there in
      let odd = busy_odd site.shape (lock_of task seen place) t words value (subst (λ z. take_taken t (met z) ≡ taking.Busy value) e busy) in
      has_not site task.site task.hash seen.path.segment seen.held place v at fits.0.locks (fits.0.upto.others place (λ u. let low = u.low in omega (arith, low)))
      (alone (lock_of task seen place) (is_lock site task.site task.hash seen.path.segment at place) odd))
      (λ first after y. tt))
      (λ back n e x. backed_told IsFree task seen (back_taken task.site task.hash seen.path back n) (λ word first after y. tt))
      (λ n e x. counted_told IsFree task seen n (λ spot insert there. tt) (λ other nowhere. tt) (λ t. tt))
      (λ n e x. tt)
      (λ n e x. tt)

  abbrev IsFresh : Outcome → Type 0
  IsFresh (stale segment byte) = ⊥
  IsFresh more = ⊤

  -- the value that is found on the way
  value_is : (w : Walk) (n : ℕ) → s ≡ Way w → met s ≡ Value n → n ≡ words (word_of site.shape (walk_wanted task.site task.hash w))
  value_is w n e x =
      let found : ℕ = words (word_of site.shape (walk_wanted task.site task.hash w)) in
      let same : Value found ≡ Value n = sym (walk_answer task.site task.hash w found) ∙ subst (λ z. met z ≡ Value n) e x in
      cc

  module _ (fresh : (w : Walk) → SuitsStep site task seen (Way w) v → (segment byte : ℕ) → walk_taken task.site task.hash w (words (word_of site.shape (walk_wanted task.site task.hash w))) ≡ walked.Stale segment byte → ⊥) where
    pub fresh_told : Told IsFresh (next_in task seen s (met s)).step
    fresh_told = next_told IsFresh task seen s (met s) none
        (λ w n e x. walked_told IsFresh task seen (walk_taken task.site task.hash w n) (λ y. tt) (λ word value y. tt)
        (λ segment byte y. fresh w (subst (λ z. SuitsStep site task seen z v) e suits) segment byte (subst (λ k. walk_taken task.site task.hash w k ≡ walked.Stale segment byte) (value_is w n e x) y)))
        (λ place t e. locked_told IsFresh task seen place (lock_of task seen place) (take_taken t (met s)) (λ value y. tt) (λ first after y. tt))
        (λ back n e x. backed_told IsFresh task seen (back_taken task.site task.hash seen.path back n) (λ word first after y. tt))
        (λ n e x. counted_told IsFresh task seen n (λ spot insert there. tt) (λ other nowhere. tt) (λ t. tt))
        (λ n e x. tt)
        (λ n e x. tt)

pub never_busy : NeverBusy
never_busy site here call op words views j before v h at s asks alone word value d =
    free_told site op.task s.stands.is_in op.stage.seen v words op.stage.step s.stands.view d.undecided alone (again (Busy word value)) d.decided

pub never_stale : NeverStale
never_stale site here call op words views j before v h at s asks current segment byte d =
    fresh_told site op.task s.stands.is_in op.stage.seen v words op.stage.step s.stands.view d.undecided
    (λ w suits. walk_never_stale site op.task.site op.task.hash words v.facts s.stands.is_in.shape current w suits.1 (words (word_of site.shape (walk_wanted op.task.site op.task.hash w))) refl)
    (stale segment byte) d.decided
