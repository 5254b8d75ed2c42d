-- By what an answer comes; and in a world, whose lock is found taken, and that no current segment is stale.
use Rattle.std.proofs.Common.{◌≡◌, ◌≢◌, ℕ, ◌%◌, Bool, true, false, Option, None, Some, List, [], refl, sym, ◌∙◌, ap, subst, arith}
use Rattle.std.specs.Prelude.{◌==◌, ⊤, if◌then◌else◌}
use Rattle.std.proofs.lemmas.Bool.{eqb-true, eqb-false}
use Rattle.op_core.specs.declared.want.Want.TheVariants.{Load as LoadWord, Done}
use Rattle.op_core.specs.declared.why.Why.TheVariants.{Busy}
use Rattle.trace.specs.Events.{Words}
use Rattle.world.specs.Ground.{Ground, IsCurrentLock}
use Rattle.world.specs.Views.{View, At, HasLock}
use Rattle.world.specs.Wants.{word_of}
use Rattle.world.specs.Conditions.{IsKnownLock}
use Rattle.world.specs.Invariant.{Holds}
use Rattle.world.specs.Laws.{found_by}
use Rattle.world.proofs.basics.Lists.{same_at}
use Rattle.world.proofs.basics.Structures.{lock_of_current}
use Rattle.world.proofs.calls.deeds.Calls.{lock_current}
use Rattle.phase.specs.declared.walk.Walk.{Walk}
use Rattle.phase.specs.declared.walk.Walked.{Walked}
use Rattle.phase.specs.declared.walk.Walked.TheVariants as walked
use Rattle.phase.specs.declared.back.Backed.{Backed}
use Rattle.phase.specs.declared.back.Backed.TheVariants as backed
use Rattle.phase.specs.Walks.{walk_taken}
use Rattle.phase.specs.Backs.{back_taken}
use Rattle.phase.specs.Loads.{load_taken}
use Rattle.phase.proofs.Walking.{walk_never_stale}
use Rattle.phase.proofs.locks.Giving.{known_lock}
use Rattle.phase.specs.declared.role.Role.{Role}
use Rattle.phase.specs.declared.role.Role.TheVariants.{Home, Probing, First, Second}
use Rattle.phase.proofs.locks.Choosing.{by_both}
use Rattle.read_op.specs.declared.step.Seen.{Seen}
use Rattle.read_op.specs.declared.step.ReadEnd.TheVariants as ends
use Rattle.read_op.specs.declared.step.ReadStep.{ReadStep}
use Rattle.read_op.specs.declared.step.ReadStep.TheVariants.{Way, Look, Fill, Count, Check, Relook, Ended}
use Rattle.read_op.specs.declared.step.Task.{Task}
use Rattle.read_op.specs.declared.op.ReadOp.{ReadOp}
use Rattle.read_op.specs.Places.{free_at}
use Rattle.read_op.specs.Steps.{wanted, wanted_in, next_in, walked_to, with_free, looked, filled, backed_to, relook_first, relook_second, relook_next, busy, moved, end_of, lock_of}
use Rattle.read_op.specs.Fits.{IsIn, kind_of, suits_in, Suits}
use Rattle.read_op.specs.Causes.{FindsSame, AnswersBySame, IsAnothers, BusyIsAnothers, NeverBusy, NeverStale}
use Rattle.read_op.proofs.Opening.{IsOpen, looked_open, filled_open}
use Rattle.read_op.proofs.Fitting.{wants_in}

-- ---- an answer
module _ (step : ReadStep) (n : ℕ) where
  -- if it is an answer, it comes by a lock word that is as it was
  abbrev SameIf : ReadStep → Type 0
  SameIf (Ended (ends.Found x place)) = FindsSame step n (Some x) place
  SameIf (Ended (ends.Absent place)) = FindsSame step n None place
  SameIf next = ⊤

  same_of : (value : Option ℕ) (place : ℕ) → SameIf (Ended (end_of value place)) → FindsSame step n value place
  same_of (Some x) place f = f
  same_of None place f = f

  to_same : (value : Option ℕ) (place : ℕ) → FindsSame step n value place → SameIf (Ended (end_of value place))
  to_same (Some x) place f = f
  to_same None place f = f

  by_same : (b : Bool) (s t : ReadStep) → (b ≡ true → SameIf s) → (b ≡ false → SameIf t) → SameIf (if b then s else t)
  by_same true s t p q = p refl
  by_same false s t p q = q refl

  open_same : (s : ReadStep) → IsOpen s → SameIf s
  open_same (Ended end) goes = absurd goes
  open_same s goes = tt

walked_same : (step : ReadStep) (n : ℕ) (x : Walked) → SameIf step n (walked_to x)
walked_same step n (walked.On w) = tt
walked_same step n (walked.There path) = tt
walked_same step n walked.Off = tt
walked_same step n (walked.Amiss word seen) = tt
walked_same step n (walked.Stale segment version) = tt

backed_same : (step : ReadStep) (n : ℕ) (s : Seen) (placed : ℕ) (x : Backed) → SameIf step n (backed_to s placed x)
backed_same step n s placed (backed.On at) = tt
backed_same step n s placed backed.Same = tt
backed_same step n s placed (backed.Moved word before after) = tt

module _ (s : Seen) (placed : ℕ) (p : Role) (n : ℕ) (same : n ≡ free_at s.free p) (even : n % 2 ≢ 1) where
  abbrev here : ReadStep
  here = Relook s placed p

  answered : SameIf here n (Ended (end_of s.value placed))
  answered = to_same here n s.value placed (record { seen = s; last = p; at_last = refl; same = same; even = even; value_is = refl })

  second_same : SameIf here n (relook_second s placed)
  second_same = by_same here n s.second (Relook s placed Second) (Ended (end_of s.value placed)) (λ t. tt) (λ f. answered)

  first_same : SameIf here n (relook_first s placed)
  first_same = by_same here n s.first (Relook s placed First) (relook_second s placed) (λ t. tt) (λ f. second_same)

  next_same : (q : Role) → SameIf here n (relook_next s placed q)
  next_same Home = tt
  next_same Probing = first_same
  next_same First = second_same
  next_same q = answered

same_in : (task : Task) (s : ReadStep) (n : ℕ) → wanted_in task s ≢ Done → SameIf s n (next_in task s n)
same_in task (Way w) n asks = walked_same (Way w) n (walk_taken task.site task.hash w n)
same_in task (Look s p) n asks =
    by_same (Look s p) n (n % 2 == 0) (looked (with_free s p n) p) (busy (lock_of task s p) n) (λ t. open_same (Look s p) n (looked (with_free s p n) p) (looked_open (with_free s p n) p)) (λ f. tt)
same_in task (Fill s p load) n asks =
    open_same (Fill s p load) n (filled task.key task.hash s p (load_taken load n)) (filled_open task.key task.hash s p (load_taken load n))
same_in task (Count s) n asks = tt
same_in task (Check s placed at) n asks = backed_same (Check s placed at) n s placed (back_taken task.site task.hash s.path at n)
same_in task (Relook s placed p) n asks =
    by_same (Relook s placed p) n (n % 2 == 1) (busy (lock_of task s p) n) (if n == free_at s.free p then relook_next s placed p else moved (lock_of task s p) (free_at s.free p) n) (λ t. tt)
    (λ odd. by_same (Relook s placed p) n (n == free_at s.free p) (relook_next s placed p) (moved (lock_of task s p) (free_at s.free p) n)
    (λ t. next_same s placed p n (eqb-true n (free_at s.free p) t) (eqb-false (n % 2) 1 odd) p) (λ f. tt))
same_in task (Ended end) n asks = absurd (asks refl)

pub answers_by_same : AnswersBySame
answers_by_same op n value place asks so = same_of op.step n value place (subst (SameIf op.step n) so (same_in op.task op.step n asks))

-- ---- a lock that is found taken
module _ (site : Ground) (task : Task) (is : IsIn site task) (v : View) where
  module _ (step : ReadStep) (n : ℕ) where
    -- if that is the end, the event loaded a lock word of a segment that is known to be live and current, which is odd
    abbrev BusyIf : ReadStep → Type 0
    BusyIf (Ended (ends.Again (Busy word value))) = (wanted_in task step ≡ LoadWord word) × IsKnownLock site v word × (n ≡ value) × (value % 2 ≡ 1)
    BusyIf next = ⊤

    by_busy : (b : Bool) (s t : ReadStep) → (b ≡ true → BusyIf s) → (b ≡ false → BusyIf t) → BusyIf (if b then s else t)
    by_busy true s t p q = p refl
    by_busy false s t p q = q refl

    open_busy : (s : ReadStep) → IsOpen s → BusyIf s
    open_busy (Ended end) goes = absurd goes
    open_busy s goes = tt

    walked_busy : (x : Walked) → BusyIf (walked_to x)
    walked_busy (walked.On w) = tt
    walked_busy (walked.There path) = tt
    walked_busy walked.Off = tt
    walked_busy (walked.Amiss word seen) = tt
    walked_busy (walked.Stale segment version) = tt

    backed_busy : (s : Seen) (placed : ℕ) (x : Backed) → BusyIf (backed_to s placed x)
    backed_busy s placed (backed.On at) = tt
    backed_busy s placed backed.Same = tt
    backed_busy s placed (backed.Moved word before after) = tt

    end_busy : (a : Option ℕ) (placed : ℕ) → BusyIf (Ended (end_of a placed))
    end_busy (Some x) placed = tt
    end_busy None placed = tt

    second_busy : (s : Seen) (placed : ℕ) → BusyIf (relook_second s placed)
    second_busy s placed = by_busy s.second (Relook s placed Second) (Ended (end_of s.value placed)) (λ t. tt) (λ f. end_busy s.value placed)

    first_busy : (s : Seen) (placed : ℕ) → BusyIf (relook_first s placed)
    first_busy s placed = by_busy s.first (Relook s placed First) (relook_second s placed) (λ t. tt) (λ f. second_busy s placed)

    next_busy : (s : Seen) (placed : ℕ) (p : Role) → BusyIf (relook_next s placed p)
    next_busy s placed Home = tt
    next_busy s placed Probing = first_busy s placed
    next_busy s placed First = second_busy s placed
    next_busy s placed p = end_busy s.value placed

  -- an even number is not odd
  odd_of : (n : ℕ) → (n % 2 == 0) ≡ false → n % 2 ≡ 1
  odd_of n f = let other = eqb-false (n % 2) 0 f in omega (arith, other)

  busy_in : (s : ReadStep) (n : ℕ) → wanted_in task s ≢ Done → suits_in site task s v → BusyIf s n (next_in task s n)
  busy_in (Way w) n asks suits = walked_busy (Way w) n (walk_taken task.site task.hash w n)
  busy_in (Look s p) n asks suits =
      by_busy (Look s p) n (n % 2 == 0) (looked (with_free s p n) p) (busy (lock_of task s p) n)
      (λ t. open_busy (Look s p) n (looked (with_free s p n) p) (looked_open (with_free s p n) p))
      (λ f. (refl, known_lock site task.site task.hash s.path.segment p v is.shape suits.0.there, refl, odd_of n f))
  busy_in (Fill s p load) n asks suits =
      open_busy (Fill s p load) n (filled task.key task.hash s p (load_taken load n)) (filled_open task.key task.hash s p (load_taken load n))
  busy_in (Count s) n asks suits = tt
  busy_in (Check s placed at) n asks suits = backed_busy (Check s placed at) n s placed (back_taken task.site task.hash s.path at n)
  busy_in (Relook s placed p) n asks suits =
      by_busy (Relook s placed p) n (n % 2 == 1) (busy (lock_of task s p) n) (if n == free_at s.free p then relook_next s placed p else moved (lock_of task s p) (free_at s.free p) n)
      (λ t. (refl, known_lock site task.site task.hash s.path.segment p v is.shape suits.0.there, refl, eqb-true (n % 2) 1 t))
      (λ f. by_busy (Relook s placed p) n (n == free_at s.free p) (relook_next s placed p) (moved (lock_of task s p) (free_at s.free p) n) (λ t. next_busy (Relook s placed p) n s placed p) (λ g. tt))
  busy_in (Ended end) n asks suits = absurd (asks refl)

-- ---- in a world
module _ (site : Ground) (op : ReadOp) (words : Words) (views : List View) (j : ℕ) (v : View) (h : Holds site words views) (at : At views j v) (is : IsIn site op.task) (suits : Suits site op v)
    (asks : wanted op ≢ Done) where
  abbrev found : ℕ
  found = found_by site (kind_of op) words

  found_is : found ≡ words (word_of site.shape (wanted op))
  found_is = ap (λ w. words (word_of site.shape w)) (sym (wants_in op.task site is op.step asks))

  busy_found : (word value : ℕ) → next_in op.task op.step found ≡ Ended (ends.Again (Busy word value)) → IsCurrentLock site words word × (words word ≡ value) × (value % 2 ≡ 1)
  busy_found word value so =
      let b = subst (BusyIf site op.task is v op.step found) so (busy_in site op.task is v op.step found asks suits) in
      (lock_current site words views j v h at word b.1, sym (found_is ∙ ap (λ w. words (word_of site.shape w)) b.0) ∙ b.2, b.3)

  -- a lock word that is odd is another's, where this caller holds no lock
  held_elsewhere : v.held ≡ [] → (lock : ℕ) → IsCurrentLock site words lock → words lock % 2 ≡ 1 → IsAnothers views j v lock
  held_elsewhere nothing lock is_lock odd =
      let not_own : HasLock v.held lock → ⊥ = λ has. let none : HasLock [] lock = subst (λ locks. HasLock locks lock) nothing has in elim none.1 [ ] in
      let holder = h.locks.odd lock is_lock odd in
      record {
        not_own = not_own;
        seat = holder.0;
        elsewhere = λ same.
            let there : At views j holder.1 = subst (λ i. At views i holder.1) same holder.2 in
            not_own (subst (λ w. HasLock w.held lock) (same_at views j holder.1 v there at) holder.3);
        holder = holder.1;
        there = holder.2;
        holds = holder.3;
      }

pub busy_is_anothers : BusyIsAnothers
busy_is_anothers site op words views j v h at is suits nothing asks word value so =
    let b = busy_found site op words views j v h at is suits asks word value so in
    (lock_of_current site words word b.0, b.1, b.2, held_elsewhere site op words views j v h at is suits asks nothing word b.0 (ap (λ x. x % 2) b.1 ∙ b.2))

pub never_busy : NeverBusy
never_busy site op words views j v h at is suits asks free word value so =
    let b = busy_found site op words views j v h at is suits asks word value so in
    let even = free word b.0 in
    let found = b.1 in
    let odd = b.2 in
    omega (arith, even, found, odd)

-- ---- a stale segment
module _ (task : Task) where
  -- it is no such end
  abbrev NoStale : ReadStep → Type 0
  NoStale (Ended (ends.Stale segment byte)) = ⊥
  NoStale next = ⊤

  open_fresh : (s : ReadStep) → IsOpen s → NoStale s
  open_fresh (Ended end) goes = absurd goes
  open_fresh s goes = tt

  walked_fresh : (x : Walked) → ((segment byte : ℕ) → x ≡ walked.Stale segment byte → ⊥) → NoStale (walked_to x)
  walked_fresh (walked.On w) none = tt
  walked_fresh (walked.There path) none = tt
  walked_fresh walked.Off none = tt
  walked_fresh (walked.Amiss word seen) none = tt
  walked_fresh (walked.Stale segment version) none = absurd (none segment version refl)

  backed_fresh : (s : Seen) (placed : ℕ) (x : Backed) → NoStale (backed_to s placed x)
  backed_fresh s placed (backed.On at) = tt
  backed_fresh s placed backed.Same = tt
  backed_fresh s placed (backed.Moved word before after) = tt

  end_fresh : (a : Option ℕ) (placed : ℕ) → NoStale (Ended (end_of a placed))
  end_fresh (Some x) placed = tt
  end_fresh None placed = tt

  second_fresh : (s : Seen) (placed : ℕ) → NoStale (relook_second s placed)
  second_fresh s placed = by_both NoStale s.second (Relook s placed Second) (Ended (end_of s.value placed)) tt (end_fresh s.value placed)

  next_fresh : (s : Seen) (placed : ℕ) (p : Role) → NoStale (relook_next s placed p)
  next_fresh s placed Home = tt
  next_fresh s placed Probing = by_both NoStale s.first (Relook s placed First) (relook_second s placed) tt (second_fresh s placed)
  next_fresh s placed First = second_fresh s placed
  next_fresh s placed p = end_fresh s.value placed

  fresh_in : (s : ReadStep) (n : ℕ) → wanted_in task s ≢ Done → ((w : Walk) → s ≡ Way w → (segment byte : ℕ) → walk_taken task.site task.hash w n ≡ walked.Stale segment byte → ⊥) → NoStale (next_in task s n)
  fresh_in (Way w) n asks none = walked_fresh (walk_taken task.site task.hash w n) (none w refl)
  fresh_in (Look s p) n asks none =
      by_both NoStale (n % 2 == 0) (looked (with_free s p n) p) (busy (lock_of task s p) n) (open_fresh (looked (with_free s p n) p) (looked_open (with_free s p n) p)) tt
  fresh_in (Fill s p load) n asks none = open_fresh (filled task.key task.hash s p (load_taken load n)) (filled_open task.key task.hash s p (load_taken load n))
  fresh_in (Count s) n asks none = tt
  fresh_in (Check s placed at) n asks none = backed_fresh s placed (back_taken task.site task.hash s.path at n)
  fresh_in (Relook s placed p) n asks none =
      by_both NoStale (n % 2 == 1) (busy (lock_of task s p) n) (if n == free_at s.free p then relook_next s placed p else moved (lock_of task s p) (free_at s.free p) n) tt
      (by_both NoStale (n == free_at s.free p) (relook_next s placed p) (moved (lock_of task s p) (free_at s.free p) n) (next_fresh s placed p) tt)
  fresh_in (Ended end) n asks none = absurd (asks refl)

pub never_stale : NeverStale
never_stale site op words views j v h at is suits asks current segment byte so =
    let n : ℕ = found_by site (kind_of op) words in
    let found : n ≡ words (word_of site.shape (wanted op)) = found_is site op words views j v h at is suits asks in
    let none : (w : Walk) → op.step ≡ Way w → (s b : ℕ) → walk_taken op.task.site op.task.hash w n ≡ walked.Stale s b → ⊥ = λ w at_way.
    walk_never_stale site op.task.site op.task.hash words v.facts is.shape current w
    (subst (λ s. suits_in site op.task s v) at_way suits).0 n (found ∙ ap (λ s. words (word_of site.shape (wanted_in op.task s))) at_way) in
    absurd (subst (NoStale op.task) so (fresh_in op.task op.step n asks none))
