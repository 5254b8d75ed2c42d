-- What a get keeps was loaded by its events, in that order, whatever values they find.
use Rattle.std.proofs.Common.{◌≡◌, ℕ, ◌+◌, ◌%◌, inl, inr, Bool, true, false, List, [], ◌∷◌, ◌++◌, refl, sym, subst}
use Rattle.std.specs.Prelude.{◌==◌, nat_lt, nat_le, if◌then◌else◌}
use Rattle.op_core.specs.declared.want.Ans.TheVariants.{Value}
use Rattle.op_core.specs.Answers.{load_of}
use Rattle.image_layout.specs.Places.{root_word}
use Rattle.way.specs.Ways.{entry_word, head_word}
use Rattle.part.specs.Doings.{Doings, with_event_of, nothing_done}
use Rattle.phase.specs.declared.walk.Walk.TheVariants as walk
use Rattle.phase.specs.declared.walk.Walked.{Walked}
use Rattle.phase.specs.declared.walk.Walked.TheVariants as walked
use Rattle.phase.specs.declared.back.Backed.{Backed}
use Rattle.phase.specs.declared.back.Backed.TheVariants as backed
use Rattle.phase.specs.declared.load.Load.{Load}
use Rattle.phase.specs.declared.load.Loaded.{Loaded}
use Rattle.phase.specs.declared.load.Loaded.TheVariants as loaded
use Rattle.phase.specs.Backs.{back_taken}
use Rattle.phase.specs.Loads.{load_taken}
use Rattle.phase.specs.declared.role.Role.{Role}
use Rattle.phase.specs.declared.role.Role.TheVariants.{Home, Probing, First, Second}
use Rattle.phase.proofs.Walking.{by_head}
use Rattle.phase.proofs.locks.Choosing.{by_both}
use Rattle.read_op.specs.declared.step.Seen.{Seen}
use Rattle.read_op.specs.declared.step.ReadStep.{ReadStep}
use Rattle.read_op.specs.declared.step.ReadStep.TheVariants.{Way, Look, Fill, Count, Check, Relook, Ended}
use Rattle.read_op.specs.declared.step.Task.{Task}
use Rattle.read_op.specs.declared.op.ReadOp.{ReadOp}
use Rattle.read_op.specs.Places.{free_at}
use Rattle.read_op.specs.Steps.{begun, wanted, wanted_in, taken, next_in, walked_to, visit_first, visit_second, with_free, looked, with_value, read_probing, read_all, filled, backed_to, relook_second, relook_next, busy, moved, end_of, lock_of}
use Rattle.read_op.specs.Budget.{after_all}
use Rattle.read_op.specs.AnyMemory.{did_all, kept_near, lock_kept, kept_first, kept_locks, kept_in, IsWithin, KeepsLoads}

later : (xs : List (ℕ × ℕ)) (y : ℕ × ℕ) (ys : List (ℕ × ℕ)) → IsWithin xs ys → IsWithin xs (y ∷ ys)
later [] y ys within = tt
later (x ∷ xs) y ys within = inr within

-- a word that is kept or not
kept_or_not : (b : Bool) (x : ℕ × ℕ) (xs past : List (ℕ × ℕ)) → IsWithin xs past → IsWithin (if b then x ∷ xs else xs) (x ∷ past)
kept_or_not true x xs past within = inl (refl, within)
kept_or_not false x xs past within = later xs x past within

module _ (task : Task) where
  abbrev Kept : List (ℕ × ℕ) → ReadStep → Type 0
  Kept past s = IsWithin (kept_in task s) past

  -- ---- where a bucket is next
  second_within : (past : List (ℕ × ℕ)) (s : Seen) → IsWithin (kept_first task s) past → Kept past (visit_second s)
  second_within past s within = by s.second refl
    where
      by : (b : Bool) → s.second ≡ b → Kept past (if b then Look s Second else Count s)
      by true e = within
      by false e = subst (λ b. IsWithin (if b then lock_kept task s Second ∷ kept_first task s else kept_first task s) past) (sym e) within

  first_within : (past : List (ℕ × ℕ)) (s : Seen) → IsWithin (kept_near task s) past → Kept past (visit_first s)
  first_within past s within = by s.first refl
    where
      by : (b : Bool) → s.first ≡ b → Kept past (if b then Look s First else visit_second s)
      by true e = within
      by false e = second_within past s (subst (λ b. IsWithin (if b then lock_kept task s First ∷ kept_near task s else kept_near task s) past) (sym e) within)

  -- ---- one step, behind events that loaded all that it keeps
  module _ (past : List (ℕ × ℕ)) where
    look_within : (s : Seen) (p : Role) (n : ℕ) → Kept past (Look s p) → Kept ((lock_of task s p, n) ∷ past) (looked (with_free s p n) p)
    look_within s Home n within = inl (refl, within)
    look_within s Probing n within = inl (refl, within)
    look_within s First n within = kept_or_not s.first (lock_of task s First, n) (kept_near task s) past within
    look_within s Second n within = kept_or_not s.second (lock_of task s Second, n) (kept_first task s) past within
    look_within s p n within = later (kept_locks task s) (lock_of task s p, n) past within

    module _ (x : ℕ × ℕ) where
      fill_within : (s : Seen) (p : Role) (load next : Load) → Kept past (Fill s p load) → Kept (x ∷ past) (Fill s p next)
      fill_within s Home load next within = inr within
      fill_within s Probing load next within = inr within
      fill_within s First load next within = later (kept_first task s) x past within
      fill_within s p load next within = later (kept_locks task s) x past within

      read_within : (s : Seen) (p : Role) (load : Load) (ws : List ℕ) → Kept past (Fill s p load) → Kept (x ∷ past) (read_all task.key task.hash s p ws)
      read_within s Home load ws within = inr within
      read_within s Probing load ws within = first_within (x ∷ past) (read_probing task.key task.hash s ws) (inr within)
      read_within s First load ws within = second_within (x ∷ past) (with_value task.key s ws) (later (kept_first task s) x past within)
      read_within s p load ws within = later (kept_locks task s) x past within

      filled_within : (s : Seen) (p : Role) (load : Load) (next : Loaded) → Kept past (Fill s p load) → Kept (x ∷ past) (filled task.key task.hash s p next)
      filled_within s p load (loaded.On next) within = fill_within s p load next within
      filled_within s p load (loaded.All ws) within = read_within s p load ws within

      backed_within : (s : Seen) (placed : ℕ) (next : Backed) → IsWithin (kept_in task (Relook s placed Home)) past → Kept (x ∷ past) (backed_to s placed next)
      backed_within s placed (backed.On at) within = inr within
      backed_within s placed backed.Same within = inr within
      backed_within s placed (backed.Moved word before after) within = tt

      relook_second_within : (s : Seen) (placed : ℕ) → IsWithin (kept_in task (Relook s placed Home)) past → Kept (x ∷ past) (relook_second s placed)
      relook_second_within s placed within = by_both (Kept (x ∷ past)) s.second (Relook s placed Second) (Ended (end_of s.value placed)) (inr within) tt

      relook_within : (s : Seen) (placed : ℕ) (p : Role) → IsWithin (kept_in task (Relook s placed Home)) past → Kept (x ∷ past) (relook_next s placed p)
      relook_within s placed Home within = inr within
      relook_within s placed Probing within = by_both (Kept (x ∷ past)) s.first (Relook s placed First) (relook_second s placed) (inr within) (relook_second_within s placed within)
      relook_within s placed First within = relook_second_within s placed within
      relook_within s placed p within = tt

    step_within : (s : ReadStep) (n : ℕ) → Kept past s → Kept (load_of (wanted_in task s) (Value n) ++ past) (next_in task s n)
    step_within (Way walk.Power) n within = by_both (λ (x : Walked). Kept past (walked_to x)) (n == 0) (walked.On walk.Root) walked.Off tt tt
    step_within (Way walk.Root) n within =
        by_both (λ (x : Walked). Kept ((root_word, n) ∷ past) (walked_to x)) (nat_le n task.site.geometry.depth) (walked.On (walk.Entry n)) (walked.Amiss root_word n) (inl (refl, tt)) tt
    step_within (Way (walk.Entry root)) n within =
        let word = entry_word task.site.geometry task.hash root in
        by_both (λ (x : Walked). Kept ((word, n) ∷ past) (walked_to x)) (nat_lt n task.site.geometry.segments) (walked.On (walk.Head root n)) (walked.Amiss word n) (inl (refl, within)) tt
    step_within (Way (walk.Head root segment)) n within =
        let word = head_word task.site.geometry segment in
        by_head (λ x. Kept ((word, n) ∷ past) (walked_to x)) task.site task.hash root segment n (λ live current. inl (refl, within)) (λ live old. tt) (λ dead. tt)
    step_within (Look s p) n within = by_both (Kept ((lock_of task s p, n) ∷ past)) (n % 2 == 0) (looked (with_free s p n) p) (busy (lock_of task s p) n) (look_within s p n within) tt
    step_within (Fill s p load) n within = filled_within (lock_of task s p + load.next % 32, n) s p load (load_taken load n) within
    step_within (Count s) n within = inl (refl, within)
    step_within (Check s placed at) n within = backed_within (_, n) s placed (back_taken task.site task.hash s.path at n) within
    step_within (Relook s placed p) n within =
        let x : ℕ × ℕ = (lock_of task s p, n) in
        by_both (Kept (x ∷ past)) (n % 2 == 1) (busy (lock_of task s p) n) (if n == free_at s.free p then relook_next s placed p else moved (lock_of task s p) (free_at s.free p) n) tt
        (by_both (Kept (x ∷ past)) (n == free_at s.free p) (relook_next s placed p) (moved (lock_of task s p) (free_at s.free p) n) (relook_within x s placed p within) tt)
    step_within (Ended end) n within = tt

all_within : (seen : List ℕ) (op : ReadOp) (did : Doings) → IsWithin (kept_in op.task op.step) did.loads → IsWithin (kept_in (after_all op seen).task (after_all op seen).step) (did_all op seen did).loads
all_within [] op did within = within
all_within (n ∷ rest) op did within = all_within rest (taken op (Value n)) (with_event_of (wanted op) (Value n) did) (step_within op.task did.loads op.step n within)

pub keeps_loads : KeepsLoads
keeps_loads key site seen = all_within seen (begun key site) nothing_done tt
