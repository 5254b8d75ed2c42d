-- Each outcome of an enclosing has its cause, in the newest words and in what its attempt did.
use Rattle.std.proofs.Common.{◌≡◌, ◌⊎◌, ℕ, ◌+◌, ◌-◌, ◌%◌, ◌^◌, ◌<◌, Bool, true, false, None, Some, List, [], inl, inr, refl, sym, ap, ◌∙◌, subst, arith}
use Rattle.std.specs.Prelude.{◌==◌, nat_lt, if◌then◌else◌}
use Rattle.std.proofs.lemmas.Bool.{eqb-true, eqb-false}
use Rattle.std.proofs.lemmas.Option.{none-some, same_Some}
use Rattle.op_core.specs.declared.want.Want.{Want}
use Rattle.op_core.specs.declared.want.Want.TheVariants as want
use Rattle.op_core.specs.declared.want.Ans.{Ans}
use Rattle.op_core.specs.declared.want.Ans.TheVariants.{Value, Won, Lost, Passed}
use Rattle.op_core.specs.declared.why.Why.TheVariants.{Busy, Moved}
use Rattle.op_core.specs.Answers.{Finds}
use Rattle.hash_word.specs.Hash.{home_of}
use Rattle.segment_head.specs.HeadWord.{depth_in}
use Rattle.trace.specs.Events.{Words}
use Rattle.image_layout.specs.Places.{buckets, last_of_buckets}
use Rattle.whole_segment.specs.Room.{has_no_room}
use Rattle.map_model.specs.declared.call.Call.{Call}
use Rattle.map_model.specs.declared.entry.Reply.TheVariants.{Deep, Spent}
use Rattle.world.specs.declared.site.Site.{Site}
use Rattle.world.specs.Ground.{Ground}
use Rattle.world.specs.Views.{View, Has, HasLock}
use Rattle.world.specs.Wants.{answer_to, word_of}
use Rattle.part.specs.Doings.{Doings}
use Rattle.part.specs.Outcomes.{Outcome, replied, again, finished}
use Rattle.part.specs.Splits.{HasSplitCause, IsNeededLock, EndsBySplitCause}
use Rattle.phase.specs.declared.take.Take.TheVariants.{Look, Try}
use Rattle.phase.specs.declared.take.Taken.{Taken}
use Rattle.phase.specs.declared.take.Taken.TheVariants as taking
use Rattle.phase.specs.Takes.{take_wanted, take_taken}
use Rattle.phase.specs.Taking.{MayBeTaken}
use Rattle.phase.specs.Giving.{IsLocated}
use Rattle.phase.proofs.Wanting.{takes}
use Rattle.enclose_op.specs.declared.enclosed.Enclosed.{Enclosed}
use Rattle.enclose_op.specs.declared.op.NotEnclosed.TheVariants.{Room}
use Rattle.enclose_op.specs.declared.op.EncloseStep.{EncloseStep}
use Rattle.enclose_op.specs.declared.op.EncloseStep.TheVariants.{Guard, Lock, Head, Fill, CountSpent, CountDeep, Give, Ended, Whole}
use Rattle.enclose_op.specs.Whole.{kept_first, IsOf}
use Rattle.enclose_op.specs.Giving.{guard_of, lock_of, given}
use Rattle.enclose_op.specs.Steps.{giving as backing, next_lock, locked_to, is_followed, word_after, decided, with_word, is_whole, wanted_in, next_in, wanted}
use Rattle.enclose_op.specs.Fits.{outcome_of, outcome_at, HoldsPart, SuitsStep}
use Rattle.enclose_op.specs.Remembers.{RemembersLocks, RemembersAt}
use Rattle.enclose_op.specs.EnclosePart.{enclose_part, segment_of}
use Rattle.enclose_op.proofs.Places.{guard_is, lock_is, same_bucket, guard_apart}
use Rattle.enclose_op.proofs.causes.Recalling.{recalls_next}
use Rattle.enclose_op.proofs.causes.Found.{has_enclosed, has_depth, found_no_room}
use Rattle.enclose_op.proofs.Giving.{give_some}
use Rattle.enclose_op.proofs.EncloseIsPart.{same_outcome}

-- ---- what is decided where the header or a word was loaded: nothing, or that there may be room
abbrev GoesOn : EncloseStep → Type 0
GoesOn s = (outcome_at s ≡ None) ⊎ (outcome_at s ≡ Some finished)

head_on : (t : Bool) → GoesOn (if t then Fill 1 else backing buckets Room)
head_on true = inl refl
head_on false = inr refl

decided_on : (room deep : Bool) → GoesOn (if room then (if deep then CountDeep else Whole) else backing buckets Room)
decided_on true true = inl refl
decided_on true false = inl refl
decided_on false deep = inr refl

fill_on : (e : Enclosed) (at : ℕ) (t : Bool) → GoesOn (if t then Fill (word_after at) else decided e)
fill_on e at true = inl refl
fill_on e at false = decided_on (has_no_room (kept_first e) (home_of e.hash)) (depth_in e.head == e.site.geometry.depth)

-- after a lock that is taken nothing is
next_on : (b : ℕ) (t : Bool) → outcome_at (if t then Lock (b + 1) Look else Head) ≡ None
next_on b true = refl
next_on b false = refl

-- none is decided where another is
no_outcome : (s : EncloseStep) (outcome : Outcome) → outcome_at s ≡ None → outcome_at s ≡ Some outcome → ⊥
no_outcome s outcome none some = none-some outcome (sym none ∙ some)

module _ (site : Ground) (here : Site) (call : Call) (words : Words) (e : Enclosed) (is : IsOf site here call e) (did : Doings) where
  abbrev l : IsLocated site e.site e.segment
  l = is.located

  abbrev Cause : Want → Outcome → Type 0
  Cause event outcome = HasSplitCause site.shape words did call e.segment event outcome

  -- the cause of what was decided
  told : (event : Want) (is_told outcome : Outcome) → Cause event is_told → Some is_told ≡ Some outcome → Cause event outcome
  told event is_told outcome cause some = subst (Cause event) (same_Some is_told outcome some) cause

  -- ---- the guard
  module _ (none : did.changed ≡ []) where
    abbrev guarding : Want
    guarding = want.Exchange (guard_of e) 0 e.site.caller

    guard_lost : (words (guard_of e) == 0) ≡ false → Cause guarding (again (Busy (guard_of e) (words (guard_of e))))
    guard_lost lost = (
      subst (λ (t : Bool). Finds guarding (if t then Won else Lost (words (guard_of e))) (guard_of e) (words (guard_of e))) (sym lost) (refl, refl),
      record {
        needed = inr (inl (guard_is site e l), eqb-false (words (guard_of e)) 0 lost);
        newest = refl;
        by_others = λ has. subst (λ (l : List ℕ). Has (guard_of e) l) none has;
      },
    )

    guard_caused : (outcome : Outcome) (t : Bool) → (words (guard_of e) == 0) ≡ t → outcome_at (next_in e Guard (if t then Won else Lost (words (guard_of e)))).step ≡ Some outcome → Cause guarding outcome
    guard_caused outcome true won some = absurd (none-some outcome some)
    guard_caused outcome false lost some = told guarding (again (Busy (guard_of e) (words (guard_of e)))) outcome (guard_lost lost) some

  -- ---- a lock
  module _ (b : ℕ) (near : b < buckets) (r : RemembersLocks site e did b) where
    abbrev lock : ℕ
    lock = lock_of e b

    needs_lock : IsNeededLock site.shape words did call e.segment lock
    needs_lock = (r.taken.guard, (b, near, lock_is site e l b near))

    -- the attempt has not changed it
    not_taken : Has lock did.changed → ⊥
    not_taken has = elim (r.only lock has) [
      | inl guard ↦ guard_apart site e.segment b l.within near (sym (lock_is site e l b near) ∙ guard)
      | inr other ↦ (let low = other.1 in let same = same_bucket site.shape e.segment b other.0 (sym (lock_is site e l b near) ∙ other.2) in omega (arith, low, same))
    ]

    abbrev looking : Want
    looking = want.Load lock

    look_caused : (outcome : Outcome) (odd spent : Bool) → (words lock % 2 == 1) ≡ odd
        → outcome_at (locked_to e b (if odd then taking.Busy (words lock) else if spent then taking.Spent else taking.On (Try (words lock)))).step ≡ Some outcome → Cause looking outcome
    look_caused outcome true spent o some =
        told looking (again (Busy lock (words lock))) outcome
        ((refl, refl), record { needed = inl (needs_lock, eqb-true (words lock % 2) 1 o); newest = refl; by_others = not_taken }) some
    look_caused outcome false true o some = absurd (none-some outcome some)
    look_caused outcome false false o some = absurd (none-some outcome some)

    module _ (free : ℕ) (may : MayBeTaken free) (was : Has (lock, free) did.loads) (outcome : Outcome) where
      abbrev trying : Want
      trying = take_wanted lock (Try free)

      module _ (other : (words lock == free) ≡ false) where
        looked : Finds trying (if words lock == free then Won else Lost (words lock)) lock (words lock)
        looked = subst (λ (t : Bool). Finds trying (if t then Won else Lost (words lock)) lock (words lock)) (sym other) (refl, refl)

        lost_caused : (odd : Bool) → (words lock % 2 == 1) ≡ odd
            → outcome_at (locked_to e b (if odd then taking.Busy (words lock) else taking.Moved free (words lock))).step ≡ Some outcome → Cause trying outcome
        lost_caused true o some =
            told trying (again (Busy lock (words lock))) outcome
            (looked, record { needed = inl (needs_lock, eqb-true (words lock % 2) 1 o); newest = refl; by_others = not_taken }) some
        lost_caused false o some =
            told trying (again (Moved lock free (words lock))) outcome (
              looked,
              record {
                needed = needs_lock;
                loaded = was;
                free_before = may.0;
                free_after = (let even = eqb-false (words lock % 2) 1 o in omega (arith, even));
                newest = refl;
                differ = λ same. eqb-false (words lock) free other (sym same);
                by_others = not_taken;
              },
            ) some

      try_caused : (t : Bool) → (words lock == free) ≡ t → outcome_at (locked_to e b (take_taken (Try free) (if t then Won else Lost (words lock)))).step ≡ Some outcome → Cause trying outcome
      try_caused true won some = absurd (no_outcome (next_lock b) outcome (next_on b (nat_lt b 65)) some)
      try_caused false other some = lost_caused other (words lock % 2 == 1) refl some

  -- ---- the header, or a word
  on_caused : (event : Want) (s : EncloseStep) (outcome : Outcome) → GoesOn s → outcome_at s ≡ Some outcome → Cause event outcome
  on_caused event s outcome on some = elim on [
    | inl none ↦ absurd (no_outcome s outcome none some)
    | inr done ↦ told event finished outcome tt (sym done ∙ some)
  ]

  -- ---- EACH STEP
  caused_at : (v : View) (s : EncloseStep) → SuitsStep site here call e s v → RemembersAt site e did s → (outcome : Outcome) → outcome_at s ≡ None
      → outcome_at (next_in e s (answer_to (wanted_in e s) (words (word_of site.shape (wanted_in e s))))).step ≡ Some outcome → Cause (wanted_in e s) outcome
  caused_at v Guard s r outcome none some = guard_caused r outcome (words (guard_of e) == 0) refl some
  caused_at v (Lock b Look) s r outcome none some = look_caused b s.1 r.0 outcome (words (lock_of e b) % 2 == 1) (words (lock_of e b) == 2 ^ 64 - 2) refl some
  caused_at v (Lock b (Try free)) s r outcome none some = try_caused b s.1 r.0 free s.2 r.1 outcome (words (lock_of e b) == free) refl some
  caused_at v Head s r outcome none some =
      let n : ℕ = words (word_of site.shape (wanted_in e Head)) in
      on_caused (wanted_in e Head) (if is_followed e n then Fill 1 else backing buckets Room) outcome (head_on (is_followed e n)) some
  caused_at v (Fill at) s r outcome none some =
      let n : ℕ = words (word_of site.shape (wanted_in e (Fill at))) in
      let f : Enclosed = with_word e at n in
      on_caused (wanted_in e (Fill at)) (if nat_lt at last_of_buckets then Fill (word_after at) else decided f) outcome (fill_on f at (nat_lt at last_of_buckets)) some
  caused_at v (CountSpent b) s r outcome none some =
      told (wanted_in e (CountSpent b)) (replied Spent (words (word_of site.shape (wanted_in e (CountSpent b))))) outcome
      (lock_of e b, (r.guard, (b, r.near, lock_is site e l b r.near)), r.spent) some
  caused_at v CountDeep s r outcome none some =
      told (wanted_in e CountDeep) (replied Deep (words (word_of site.shape (wanted_in e CountDeep)))) outcome (
        has_enclosed site here call e is words did r.enclosing,
        found_no_room site here call e is words did r.enclosing s.0.no_room,
        has_depth site here call e is words did r.enclosing (λ (d : ℕ). d ≡ site.shape.depth) s.1,
      ) some
  caused_at v (Give give end) s r outcome none some = absurd (none-some (outcome_of end) (sym none))
  caused_at v (Ended end) s r outcome none some = absurd (none-some (outcome_of end) (sym none))
  caused_at v Whole s r outcome none some = absurd (none-some outcome some)

-- ---- who is told that a lock is taken does not hold it
module _ (e : Enclosed) (word value : ℕ) where
  abbrev told_busy : Outcome
  told_busy = again (Busy word value)

  -- a lock that is told is the one that was to be taken
  told_lock : (b : ℕ) (t : Taken) → outcome_at (locked_to e b t).step ≡ Some told_busy → lock_of e b ≡ word
  told_lock b (taking.On take) some = absurd (none-some told_busy some)
  told_lock b (taking.Held free) some = absurd (no_outcome (next_lock b) told_busy (next_on b (nat_lt b 65)) some)
  told_lock b (taking.Busy seen) some = let same = same_Some (again (Busy (lock_of e b) seen)) told_busy some in cc
  told_lock b (taking.Moved first later) some = absurd (let same = same_Some (again (Moved (lock_of e b) first later)) told_busy some in cc)
  told_lock b taking.Spent some = absurd (none-some told_busy some)

  -- none is told where the header or a word was loaded
  on_told : (s : EncloseStep) → GoesOn s → outcome_at s ≡ Some told_busy → ⊥
  on_told s on some = elim on [
    | inl none ↦ no_outcome s told_busy none some
    | inr done ↦ (let same = same_Some finished told_busy (sym done ∙ some) in absurd (cc))
  ]

  module _ (site : Ground) (here : Site) (call : Call) (is : IsOf site here call e) (v : View) where
    -- a lock that is to be taken is not held
    not_held : (b : ℕ) → b < buckets → HoldsPart site e 0 b v → HasLock v.held (lock_of e b) → ⊥
    not_held b near part has =
        let held = part.locks.only (lock_of e b, has.0) has.1 in
        let low = held.2 in
        let at = ap (λ (p : ℕ × ℕ). p.0) held.3 in
        let same = same_bucket site.shape e.segment b held.0 (sym (lock_is site e is.located b near) ∙ at) in
        omega (arith, low, same)

    not_own_at : (s : EncloseStep) (n : ℕ) → SuitsStep site here call e s v → outcome_at s ≡ None → outcome_at (next_in e s (answer_to (wanted_in e s) n)).step ≡ Some told_busy → HasLock v.held word → ⊥
    not_own_at Guard n s none some has = subst (λ (l : List (ℕ × ℕ)). Has (word, has.0) l) s.0.held has.1
    not_own_at (Lock b take) n s none some has =
        not_held b s.1 s.0.part (subst (HasLock v.held) (sym (told_lock b (take_taken take (answer_to (take_wanted (lock_of e b) take) n)) some)) has)
    not_own_at Head n s none some has = on_told (if is_followed e n then Fill 1 else backing buckets Room) (head_on (is_followed e n)) some
    not_own_at (Fill at) n s none some has =
        let f : Enclosed = with_word e at n in
        on_told (if nat_lt at last_of_buckets then Fill (word_after at) else decided f) (fill_on f at (nat_lt at last_of_buckets)) some
    not_own_at (CountSpent b) n s none some has = absurd (let same = same_Some (replied Spent n) told_busy some in cc)
    not_own_at CountDeep n s none some has = absurd (let same = same_Some (replied Deep n) told_busy some in cc)
    not_own_at (Give give end) n s none some has = none-some (outcome_of end) (sym none)
    not_own_at (Ended end) n s none some has = none-some (outcome_of end) (sym none)
    not_own_at Whole n s none some has = none-some told_busy some

-- ---- it stays as it was decided
stays_at : (e : Enclosed) (s : EncloseStep) (a : Ans) (outcome : Outcome) → outcome_at s ≡ Some outcome → outcome_at (next_in e s a).step ≡ Some outcome
stays_at e (Give give end) Passed outcome some = same_outcome (given give) end ∙ some
stays_at e (Give give end) a outcome some = some
stays_at e (Ended end) a outcome some = some
stays_at e s a outcome some = absurd (none-some outcome some)

-- where it wants nothing more and does not hand on, it is decided
decided_at : (e : Enclosed) (s : EncloseStep) → wanted_in e s ≡ want.Done → is_whole s ≡ false → (outcome : Outcome) × (outcome_at s ≡ Some outcome)
decided_at e (Ended end) done closed = (outcome_of end, refl)
decided_at e (Give give end) done closed = absurd (give_some e give done)
decided_at e (Lock b take) done closed = absurd (takes (lock_of e b) take done)
decided_at e Whole done closed = absurd (let z : true ≡ false = closed in cc)
decided_at e s done closed = absurd (cc)

undecided_at : (s : EncloseStep) → is_whole s ≡ true → outcome_at s ≡ None
undecided_at Whole hands = refl
undecided_at s hands = absurd (cc)

-- ---- it encloses the same segment
lock_same : (e : Enclosed) (b : ℕ) (t : Taken) → (locked_to e b t).enclosed.segment ≡ e.segment
lock_same e b (taking.On take) = refl
lock_same e b (taking.Held free) = refl
lock_same e b (taking.Busy seen) = refl
lock_same e b (taking.Moved first later) = refl
lock_same e b taking.Spent = refl

same_at : (e : Enclosed) (s : EncloseStep) (a : Ans) → (next_in e s a).enclosed.segment ≡ e.segment
same_at e (Lock b take) a = lock_same e b (take_taken take a)
same_at e Guard Won = refl
same_at e Guard (Lost seen) = refl
same_at e Head (Value head) = refl
same_at e (Fill at) (Value seen) = refl
same_at e (CountSpent b) (Value place) = refl
same_at e CountDeep (Value place) = refl
same_at e (Give give end) Passed = refl
same_at e s a = refl

-- EACH OUTCOME of an enclosing has its cause
pub ends_by_split_cause : EndsBySplitCause enclose_part segment_of
ends_by_split_cause = record {
  steps = λ site here call words views j op before v did h at s asks small r.
      let is = s.stands.is in
      let suits = s.stands.view in
      let n : ℕ = words (word_of site.shape (wanted op)) in
      record {
        remembers = recalls_next site here call op.enclosed is did v op.step n small suits asks r;
        caused = λ outcome none some. caused_at site here call words op.enclosed is did v op.step suits r outcome none some;
        not_own = λ word value none some has. not_own_at op.enclosed word value site here call is v op.step n suits none some has;
      };
  stays = λ op a outcome some. stays_at op.enclosed op.step a outcome some;
  decided = λ site here call op v s done closed. decided_at op.enclosed op.step done closed;
  undecided = λ op hands. undecided_at op.step hands;
  same_segment = λ op a. same_at op.enclosed op.step a;
}
