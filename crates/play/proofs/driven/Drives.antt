-- A run state is driven: event by event, round by round and line by line.
use Rattle.std.proofs.Common.{◌≡◌, ℕ, zero, suc, ◌+◌, ◌-◌, ◌<◌, ◌≤◌, Option, None, Some, Bool, true, false, refl, ap, sym, ◌∙◌, subst, arith}
use Rattle.std.specs.Prelude.{if◌then◌else◌}
use Rattle.core_run.specs.declared.deed.Deed.{Deed as ToldDeed}
use Rattle.core_run.specs.declared.goal.Goal.{Goal}
use Rattle.core_run.specs.State.{State, Deed, deed}
use Rattle.core_run.specs.Run.{counts, stops, by_deed, drive, ends_call, ends_in_again}
use Rattle.core_run.specs.Running.{Setup, IsRunning}
use Rattle.play.specs.declared.run_state.RunState.{RunState}
use Rattle.play.specs.RunStates.{Stands, IsAfter, HasDone, HasTurned}

-- ---- one turn
-- none is to be counted: the drive is over
pub turn_over : (t : Setup) (s : State) (run_state : RunState) (number : ℕ) (goal : Goal) → Stands t s run_state → HasTurned t s number goal 0 None run_state
turn_over t s run_state number goal st = (s, st, λ most. refl)

-- the caller has no event left
none_by : (t : Setup) (s : State) (run_state : RunState) (number : ℕ) (goal : Goal) (left : ℕ) (o : Option Deed) → o ≡ deed t.shape number s
    → HasDone t s None o run_state → HasTurned t s number goal (suc left) None run_state
none_by t s run_state number goal left None is has =
    (s, has, λ most. ap (λ (o : Option Deed). by_deed goal o s (λ d. drive t.shape most number goal (if counts goal d then left else suc left) d.state)) (sym is))
none_by t s run_state number goal left (Some d) is has = absurd has

pub turn_none : (t : Setup) (s : State) (run_state : RunState) (number : ℕ) (goal : Goal) (left : ℕ) → 0 < left → HasDone t s None (deed t.shape number s) run_state
    → HasTurned t s number goal left None run_state
turn_none t s run_state number goal zero some has = absurd (omega arith)
turn_none t s run_state number goal (suc left) some has = none_by t s run_state number goal left (deed t.shape number s) refl has

-- what is said of an event that was done is said of that of the definitions
abbrev IsSaidToStop : Goal → ToldDeed → Bool → Type 0
IsSaidToStop goal told b = (said : Deed) → told.again ≡ ends_in_again said.end → told.tried ≡ said.tried → told.waits ≡ said.waits → b ≡ stops goal said

-- an event was done: the drive ends where the caller stops, and else goes on
after_stands : (t : Setup) (s : State) (old new : RunState) (d : Deed) (told : ToldDeed) → Stands t s old → IsAfter t told d new → IsRunning t d.state
    → Stands t d.state new
after_stands t s old new d told st after running = record { setup = st.setup; is_of = after.left; running = running }

chosen : {A : Type 0} (b c : Bool) (x y : A) → b ≡ c → (if b then x else y) ≡ (if c then x else y)
chosen b c x y e = ap (λ (z : Bool). if z then x else y) e

stops_by : (t : Setup) (s : State) (old new : RunState) (number : ℕ) (goal : Goal) (left : ℕ) (o : Option Deed) (told : ToldDeed) → Stands t s old
    → o ≡ deed t.shape number s → HasDone t s (Some told) o new → IsSaidToStop goal told true → HasTurned t s number goal (suc left) None new
stops_by t s old new number goal left None told st is has stopped = absurd has
stops_by t s old new number goal left (Some d) told st is has stopped =
    let rest : ℕ → Deed → State = λ most e. drive t.shape most number goal (if counts goal e then left else suc left) e.state in (
      d.state,
      after_stands t s old new d told st has.0 has.1,
      λ most.
          ap (λ (o : Option Deed). by_deed goal o s (rest most)) (sym is)
          ∙ chosen (stops goal d) true d.state (rest most d) (sym (stopped d has.0.again has.0.tried has.0.waits)),
    )

pub turn_stops : (t : Setup) (s : State) (old new : RunState) (number : ℕ) (goal : Goal) (left : ℕ) (told : ToldDeed) → 0 < left → Stands t s old
    → HasDone t s (Some told) (deed t.shape number s) new → IsSaidToStop goal told true → HasTurned t s number goal left None new
turn_stops t s old new number goal zero told some st has stopped = absurd (omega arith)
turn_stops t s old new number goal (suc left) told some st has stopped = stops_by t s old new number goal left (deed t.shape number s) told st refl has stopped

goes_by : (t : Setup) (s : State) (old new : RunState) (number : ℕ) (goal : Goal) (left more : ℕ) (counted : Bool) (o : Option Deed) (told : ToldDeed)
    → Stands t s old
    → o ≡ deed t.shape number s → HasDone t s (Some told) o new → IsSaidToStop goal told false
    → ((said : Deed) → told.want ≡ said.want → told.replied ≡ ends_call said.end → counted ≡ counts goal said) → more ≡ (if counted then left else suc left)
    → HasTurned t s number goal (suc left) (Some more) new
goes_by t s old new number goal left more counted None told st is has goes_on count e = absurd has
goes_by t s old new number goal left more counted (Some d) told st is has goes_on count e =
    let rest : ℕ → Deed → State = λ most f. drive t.shape most number goal (if counts goal f then left else suc left) f.state in (
      d.state,
      after_stands t s old new d told st has.0 has.1,
      λ most.
          ap (λ (o : Option Deed). by_deed goal o s (rest most)) (sym is)
          ∙ chosen (stops goal d) false d.state (rest most d) (sym (goes_on d has.0.again has.0.tried has.0.waits))
          ∙ ap (λ (n : ℕ). drive t.shape most number goal n d.state) (sym (e ∙ chosen counted (counts goal d) left (suc left) (count d has.0.want has.0.replied))),
    )

one_less : (b : Bool) (left : ℕ) → (if b then suc left - 1 else suc left) ≡ (if b then left else suc left)
one_less true left = omega arith
one_less false left = refl

pub turn_goes : (t : Setup) (s : State) (old new : RunState) (number : ℕ) (goal : Goal) (left more : ℕ) (counted : Bool) (told : ToldDeed) → 0 < left → Stands t s old
    → HasDone t s (Some told) (deed t.shape number s) new → IsSaidToStop goal told false
    → ((said : Deed) → told.want ≡ said.want → told.replied ≡ ends_call said.end → counted ≡ counts goal said) → more ≡ (if counted then left - 1 else left)
    → HasTurned t s number goal left (Some more) new
turn_goes t s old new number goal zero more counted told some st has goes_on count e = absurd (omega arith)
turn_goes t s old new number goal (suc left) more counted told some st has goes_on count e =
    goes_by t s old new number goal left more counted (deed t.shape number s) told st refl has goes_on count (e ∙ one_less counted left)

-- ---- a drive: so many of its turns are done
pub record IsDriven (t : Setup) (s : State) (most number : ℕ) (goal : Goal) (n done left : ℕ) (run_state : RunState) : Type 0 where
  pub now : State
  pub stands : Stands t now run_state
  pub rest : drive t.shape most number goal n s ≡ drive t.shape (most - done) number goal left now

pub drive_begins : (t : Setup) (s : State) (most number : ℕ) (goal : Goal) (n : ℕ) (run_state : RunState) → Stands t s run_state → IsDriven t s most number goal n 0 n run_state
drive_begins t s most number goal n run_state st =
    let all : most ≡ most - 0 = omega arith in
    record { now = s; stands = st; rest = ap (λ (m : ℕ). drive t.shape m number goal n s) all }

turned_at : (t : Setup) (s : State) (most number : ℕ) (goal : Goal) (n done left : ℕ) (old : RunState) → done < most
    → (driven : IsDriven t s most number goal n done left old)
    → drive t.shape most number goal n s ≡ drive t.shape (suc (most - suc done)) number goal left driven.now
turned_at t s most number goal n done left old within driven =
    let one : most - done ≡ suc (most - suc done) = omega arith in
    driven.rest ∙ ap (λ (m : ℕ). drive t.shape m number goal left driven.now) one

pub drive_goes : (t : Setup) (s : State) (most number : ℕ) (goal : Goal) (n done left more : ℕ) (old new : RunState) → done < most
    → (driven : IsDriven t s most number goal n done left old) → HasTurned t driven.now number goal left (Some more) new
    → IsDriven t s most number goal n (done + 1) more new
drive_goes t s most number goal n done left more old new within driven turned =
    let fewer : most - suc done ≡ most - (done + 1) = omega arith in
    record {
      now = turned.0;
      stands = turned.1;
      rest = turned_at t s most number goal n done left old within driven ∙ turned.2 (most - suc done)
          ∙ ap (λ (m : ℕ). drive t.shape m number goal more turned.0) fewer;
    }

pub drive_stops : (t : Setup) (s : State) (most number : ℕ) (goal : Goal) (n done left : ℕ) (old new : RunState) → done < most
    → (driven : IsDriven t s most number goal n done left old) → HasTurned t driven.now number goal left None new → Stands t (drive t.shape most number goal n s) new
drive_stops t s most number goal n done left old new within driven turned =
    subst (λ (u : State). Stands t u new) (sym (turned_at t s most number goal n done left old within driven ∙ turned.2 (most - suc done))) turned.1

pub drive_ends : (t : Setup) (s : State) (most number : ℕ) (goal : Goal) (n done left : ℕ) (run_state : RunState) → most ≤ done
    → IsDriven t s most number goal n done left run_state → Stands t (drive t.shape most number goal n s) run_state
drive_ends t s most number goal n done left run_state over driven =
    let none : most - done ≡ 0 = omega arith in
    subst (λ (u : State). Stands t u run_state) (sym (driven.rest ∙ ap (λ (m : ℕ). drive t.shape m number goal left driven.now) none)) driven.stands
