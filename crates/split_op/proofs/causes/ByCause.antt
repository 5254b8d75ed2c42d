-- Each outcome of a split has its cause, in the newest words and in what its attempt did.
use Rattle.std.proofs.Common.{◌≡◌, ℕ, ◌+◌, ◌*◌, ◌<◌, Bool, true, false, None, Some, inl, inr, refl, sym, ap, ◌∙◌, subst, arith}
use Rattle.std.specs.Prelude.{◌==◌, nat_lt, if◌then◌else◌}
use Rattle.std.proofs.lemmas.Bool.{eqb-false, cond_both}
use Rattle.std.proofs.lemmas.Option.{none-some, same_Some}
use Rattle.op_core.specs.declared.want.Want.{Want}
use Rattle.op_core.specs.declared.want.Want.TheVariants as want
use Rattle.op_core.specs.declared.want.Ans.{Ans}
use Rattle.op_core.specs.declared.want.Ans.TheVariants.{Value, Won, Lost, Passed}
use Rattle.op_core.specs.declared.why.Why.TheVariants.{Busy}
use Rattle.op_core.specs.Answers.{Finds}
use Rattle.segment_head.specs.HeadWord.{state_in, free}
use Rattle.trace.specs.Events.{Words}
use Rattle.image_layout.specs.Places.{Shape, bucket_at, buckets, first_segment}
use Rattle.image_layout.specs.Volatile.{segment_guard, allocation_guard}
use Rattle.map_model.specs.declared.call.Call.{Call}
use Rattle.map_model.specs.declared.entry.Reply.TheVariants.{Full}
use Rattle.world.specs.declared.site.Site.{Site}
use Rattle.world.specs.Ground.{Ground}
use Rattle.world.specs.Views.{View, Has, HasLock}
use Rattle.world.specs.Wants.{answer_to, word_of}
use Rattle.part.specs.Doings.{Doings}
use Rattle.part.specs.Outcomes.{Outcome, replied, again}
use Rattle.part.specs.Splits.{HasSplitCause, EndsBySplitCause}
use Rattle.enclose_op.specs.Phases.{IsLocated}
use Rattle.enclose_op.specs.declared.enclosed.Enclosed.{Enclosed}
use Rattle.enclose_op.specs.declared.give.Give.{Give}
use Rattle.enclose_op.specs.Giving.{given}
use Rattle.enclose_op.specs.Whole.{IsOf, IsWhole, HasChangedOnly, KeepsWhole, RemembersWhole}
use Rattle.enclose_op.proofs.causes.Found.{has_enclosed, has_depth, found_no_room}
use Rattle.rounds.specs.declared.rounds.Rounds.{Rounds}
use Rattle.split_op.specs.declared.batch.Batch.{Batch}
use Rattle.split_op.specs.declared.step.SplitEnd.{SplitEnd}
use Rattle.split_op.specs.declared.step.SplitEnd.TheVariants as ends
use Rattle.split_op.specs.declared.step.SplitStep.{SplitStep}
use Rattle.split_op.specs.declared.step.SplitStep.TheVariants.{Take, Search, Count, Return, Look, Put, Release, Back, Ended}
use Rattle.split_op.specs.declared.op.SplitOp.{SplitOp}
use Rattle.split_op.specs.Steps.{last_slot, searched, wanted_in, next_in, wanted}
use Rattle.split_op.specs.Fits.{outcome_of, outcome_at, is_copied_end, hands_on_at, SuitsStep}
use Rattle.split_op.specs.Remembers.{RemembersAt}
use Rattle.split_op.specs.SplitPart.{split_part, segment_of}
use Rattle.split_op.proofs.SplitIsPart.{open_search, open_look, open_put, same_outcome, put_asks}
use Rattle.split_op.proofs.causes.Recalling.{recalls_next}

-- the guard of free slots is neither the guard of a segment nor a lock word
guard_apart : (shape : Shape) (s : ℕ) → allocation_guard shape ≡ segment_guard shape s → ⊥
guard_apart shape s same = omega (arith, same)

lock_apart : (shape : Shape) (s b : ℕ) → s < shape.segments → b < buckets → allocation_guard shape ≡ bucket_at shape s b → ⊥
lock_apart shape s b within near same = by (first_segment shape) s shape.segments b within near same
  where
    by : (f s n b : ℕ) → s < n → b < 66 → f + 2144 * n + 2 ≡ f + 2144 * s + 32 + 32 * b → ⊥
    by f s n b within near same = omega (arith, within, near, same)

-- none is decided where another is
pub no_outcome : (s : SplitStep) (outcome : Outcome) → outcome_at s ≡ None → outcome_at s ≡ Some outcome → ⊥
no_outcome s outcome none some = none-some outcome (sym none ∙ some)

-- ---- what is decided behind an event
module _ (op : SplitOp) where
  -- nothing behind one of the rounds
  pub open_next : (batch : Batch) (rounds : Rounds) (a : Ans) → outcome_at (next_in op (Put batch rounds) a).step ≡ None
  open_next batch rounds Passed = open_put _ _ _
  open_next batch rounds a = refl

  -- and what was, where something is given back
  pub same_next : (give : Give) (end : SplitEnd) (a : Ans) → outcome_at (next_in op (Back give end) a).step ≡ outcome_of end
  same_next give end Passed = same_outcome (given give) end
  same_next give end a = refl

module _ (site : Ground) (here : Site) (call : Call) (words : Words) (op : SplitOp) (is : IsOf site here call op.copied.whole) (did : Doings) where
  abbrev e : Enclosed
  e = op.copied.whole

  abbrev l : IsLocated site e.site e.segment
  l = is.located

  abbrev Cause : Want → Outcome → Type 0
  Cause event outcome = HasSplitCause site.shape words did call e.segment event outcome

  -- the cause of what was decided
  told : (event : Want) (is_told outcome : Outcome) → Cause event is_told → Some is_told ≡ Some outcome → Cause event outcome
  told event is_told outcome cause some = subst (Cause event) (same_Some is_told outcome some) cause

  -- ---- the guard of free slots
  abbrev word : ℕ
  word = allocation_guard e.site.geometry

  guard_is : word ≡ allocation_guard site.shape
  guard_is = ap allocation_guard l.shape

  abbrev guarding : Want
  guarding = want.Exchange word 0 e.site.caller

  -- the attempt has not changed it
  not_taken : HasChangedOnly site e did buckets → Has word did.changed → ⊥
  not_taken only has = elim (only word has) [
    | inl guard ↦ guard_apart site.shape e.segment (sym guard_is ∙ guard)
    | inr lock ↦ lock_apart site.shape e.segment lock.0 l.within lock.1 (sym guard_is ∙ lock.2)
  ]

  module _ (whole : IsWhole site e) (r : RemembersWhole site e did) where
    guard_lost : (words word == 0) ≡ false → Cause guarding (again (Busy word (words word)))
    guard_lost lost = (
      subst (λ (t : Bool). Finds guarding (if t then Won else Lost (words word)) word (words word)) (sym lost) (refl, refl),
      record {
        needed = inr (
          inr (guard_is, has_enclosed site here call e is words did r.enclosing, found_no_room site here call e is words did r.enclosing whole.no_room),
          eqb-false (words word) 0 lost,
        );
        newest = refl;
        by_others = not_taken r.only;
      },
    )

    guard_caused : (outcome : Outcome) (t : Bool) → (words word == 0) ≡ t → outcome_at (next_in op Take (if t then Won else Lost (words word))).step ≡ Some outcome → Cause guarding outcome
    guard_caused outcome true won some = absurd (none-some outcome some)
    guard_caused outcome false lost some = told guarding (again (Busy word (words word))) outcome (guard_lost lost) some

  -- ---- EACH STEP
  caused_at : (v : View) (s : SplitStep) → SuitsStep site here call op.copied op.locks s v → RemembersAt site op.copied did s → (outcome : Outcome) → outcome_at s ≡ None
      → outcome_at (next_in op s (answer_to (wanted_in op s) (words (word_of site.shape (wanted_in op s))))).step ≡ Some outcome → Cause (wanted_in op s) outcome
  caused_at v Take s r outcome none some = guard_caused s.0.whole r outcome (words word == 0) refl some
  caused_at v (Search slot) s r outcome none some =
      let n : ℕ = words (word_of site.shape (wanted_in op (Search slot))) in absurd (no_outcome (searched op slot n).step outcome (open_search op slot n) some)
  caused_at v Count s r outcome none some =
      told (wanted_in op Count) (replied Full (words (word_of site.shape (wanted_in op Count)))) outcome (
        has_enclosed site here call e is words did r.enclosing,
        found_no_room site here call e is words did r.enclosing s.0.keeps.whole.no_room,
        has_depth site here call e is words did r.enclosing (λ (d : ℕ). d < site.shape.depth) s.0.keeps.whole.shallow,
        r.guard,
        r.none_free,
      ) some
  caused_at v (Return count) s r outcome none some = absurd (none-some (replied Full count) (sym none))
  caused_at v (Look b) s r outcome none some = absurd (none-some outcome (sym (open_look b) ∙ some))
  caused_at v (Put batch rounds) s r outcome none some = absurd (none-some outcome (sym (open_next op batch rounds _) ∙ some))
  caused_at v Release s r outcome none some = absurd (none-some outcome (sym (open_put _ _ _) ∙ some))
  caused_at v (Back give end) s r outcome none some = absurd (none-some outcome (sym none ∙ (sym (same_next op give end _) ∙ some)))
  caused_at v (Ended end) s r outcome none some = absurd (none-some outcome (sym none ∙ some))

  -- ---- who is told that a guard is taken does not hold it
  module _ (w value : ℕ) where
    abbrev told_busy : Outcome
    told_busy = again (Busy w value)

    guard_told : (t : Bool) (n : ℕ) → outcome_at (next_in op Take (if t then Won else Lost n)).step ≡ Some told_busy → word ≡ w
    guard_told true n some = absurd (none-some told_busy some)
    guard_told false n some = let same = same_Some (again (Busy word n)) told_busy some in cc

    not_held : (v : View) → KeepsWhole site here call e v → HasLock v.held word → ⊥
    not_held v keeps has =
        let held = keeps.locks.only (word, has.0) has.1 in
        lock_apart site.shape e.segment held.0 l.within held.2 (sym guard_is ∙ ap (λ (p : ℕ × ℕ). p.0) held.3)

    not_own_at : (v : View) (s : SplitStep) (n : ℕ) → SuitsStep site here call op.copied op.locks s v → outcome_at s ≡ None
        → outcome_at (next_in op s (answer_to (wanted_in op s) n)).step ≡ Some told_busy → HasLock v.held w → ⊥
    not_own_at v Take n s none some has = not_held v s.0 (subst (HasLock v.held) (sym (guard_told (n == 0) n some)) has)
    not_own_at v (Search slot) n s none some has = no_outcome (searched op slot n).step told_busy (open_search op slot n) some
    not_own_at v Count n s none some has = absurd (let same = same_Some (replied Full n) told_busy some in cc)
    not_own_at v (Return count) n s none some has = none-some (replied Full count) (sym none)
    not_own_at v (Look b) n s none some has = none-some told_busy (sym (open_look b) ∙ some)
    not_own_at v (Put batch rounds) n s none some has = none-some told_busy (sym (open_next op batch rounds _) ∙ some)
    not_own_at v Release n s none some has = none-some told_busy (sym (open_put _ _ _) ∙ some)
    not_own_at v (Back give end) n s none some has = none-some told_busy (sym none ∙ (sym (same_next op give end _) ∙ some))
    not_own_at v (Ended end) n s none some has = none-some told_busy (sym none ∙ some)

-- ---- it stays as it was decided
stays_at : (op : SplitOp) (s : SplitStep) (a : Ans) (outcome : Outcome) → outcome_at s ≡ Some outcome → outcome_at (next_in op s a).step ≡ Some outcome
stays_at op (Return count) Passed outcome some = some
stays_at op (Return count) a outcome some = some
stays_at op (Back give end) a outcome some = same_next op give end a ∙ some
stays_at op (Ended end) a outcome some = some
stays_at op s a outcome some = absurd (none-some outcome some)

-- where it wants nothing more and does not hand on, it is decided
decided_end : (end : SplitEnd) → is_copied_end end ≡ false → (outcome : Outcome) × (outcome_of end ≡ Some outcome)
decided_end ends.Copied closed = absurd (let z : true ≡ false = closed in cc)
decided_end (ends.Again why) closed = (again why, refl)
decided_end (ends.Full count) closed = (replied Full count, refl)

decided_at : (site : Ground) (here : Site) (call : Call) (op : SplitOp) (v : View) → IsOf site here call op.copied.whole → (s : SplitStep) → SuitsStep site here call op.copied op.locks s v
    → wanted_in op s ≡ want.Done → hands_on_at s ≡ false → (outcome : Outcome) × (outcome_at s ≡ Some outcome)
decided_at site here call op v is (Ended end) s done closed = decided_end end closed
decided_at site here call op v is (Back give end) s done closed = decided_end end s.1
decided_at site here call op v is (Put batch rounds) s done closed = absurd (put_asks site here call op is v batch rounds s done)
decided_at site here call op v is step s done closed = absurd (cc)

undecided_end : (end : SplitEnd) → is_copied_end end ≡ true → outcome_of end ≡ None
undecided_end ends.Copied hands = refl
undecided_end end hands = absurd (cc)

undecided_at : (s : SplitStep) → hands_on_at s ≡ true → outcome_at s ≡ None
undecided_at (Ended end) hands = undecided_end end hands
undecided_at s hands = absurd (cc)

-- ---- it splits the same segment
search_same : (op : SplitOp) (slot n : ℕ) → segment_of (searched op slot n) ≡ segment_of op
search_same op slot n = cond_both (state_in n == free) _ _ (λ (o : SplitOp). segment_of o ≡ segment_of op) (λ _. refl)
    (λ _. cond_both (nat_lt slot (last_slot op.copied.whole.site.geometry)) _ _ (λ (o : SplitOp). segment_of o ≡ segment_of op) (λ _. refl) (λ _. refl))

same_at : (op : SplitOp) (s : SplitStep) (a : Ans) → segment_of (next_in op s a) ≡ segment_of op
same_at op (Search slot) (Value head) = search_same op slot head
same_at op Take Won = refl
same_at op Take (Lost seen) = refl
same_at op Count (Value count) = refl
same_at op (Return count) Passed = refl
same_at op (Look b) (Value lock) = refl
same_at op (Put batch rounds) Passed = refl
same_at op Release Passed = refl
same_at op (Back give end) Passed = refl
same_at op s a = refl

-- EACH OUTCOME of a split has its cause
pub ends_by_split_cause : EndsBySplitCause split_part segment_of
ends_by_split_cause = record {
  steps = λ site here call words views j op before v did h at s asks small r.
      let is = s.stands.is in
      let suits = s.stands.view in
      let n : ℕ = words (word_of site.shape (wanted op)) in
      record {
        remembers = recalls_next site h.site_is here call op is did v op.step n suits asks r;
        caused = λ outcome none some. caused_at site here call words op is did v op.step suits r outcome none some;
        not_own = λ word value none some has. not_own_at site here call words op is did word value v op.step n suits none some has;
      };
  stays = λ op a outcome some. stays_at op op.step a outcome some;
  decided = λ site here call op v s done closed. decided_at site here call op v s.is op.step s.view done closed;
  undecided = λ op hands. undecided_at op.step hands;
  same_segment = λ op a. same_at op op.step a;
}
