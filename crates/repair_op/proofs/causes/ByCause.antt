-- The cause of each outcome: a guard that is told busy is another's, and a segment that is told repaired has the image's version.
use Rattle.std.proofs.Common.{◌≡◌, ◌≢◌, ℕ, zero, suc, ◌<◌, Bool, true, false, Option, None, Some, List, [], inl, inr, refl, sym, ap, ◌∙◌, subst}
use Rattle.std.specs.Prelude.{◌==◌, ◌||◌, if◌then◌else◌}
use Rattle.std.proofs.lemmas.Bool.{eqb-true, eqb-false}
use Rattle.std.proofs.lemmas.Option.{none-some, same_Some}
use Rattle.trace.specs.Events.{Words}
use Rattle.op_core.specs.declared.want.Want.{Want}
use Rattle.op_core.specs.declared.want.Want.TheVariants as want
use Rattle.op_core.specs.declared.want.Ans.{Ans}
use Rattle.op_core.specs.declared.want.Ans.TheVariants.{Value, Won, Lost, Passed}
use Rattle.op_core.specs.declared.why.Why.TheVariants.{Busy}
use Rattle.op_core.specs.Answers.{Finds}
use Rattle.segment_head.specs.HeadWord.{version_in, state_in, depth_in, pattern_in, normal, splitting, is_live, HasLiveState}
use Rattle.image_layout.specs.Volatile.{segment_guard, allocation_guard}
use Rattle.frame_facts.specs.Facts.{Lives}
use Rattle.way.specs.Ways.{head_word}
use Rattle.map_model.specs.declared.call.Call.{Call}
use Rattle.world.specs.declared.site.Site.{Site}
use Rattle.world.specs.Ground.{Ground, IsGround, version_of}
use Rattle.world.specs.Views.{View, Has, HasLock}
use Rattle.world.specs.Wants.{answer_to, word_of}
use Rattle.world.specs.areas.Areas.{header_word}
use Rattle.world.specs.areas.Kinds.{is_new_side, is_ready_side}
use Rattle.world.specs.areas.Asking.{MayBeNewest}
use Rattle.world.proofs.moving.Known.{known_is_so}
use Rattle.part.specs.Doings.{Doings, with_event_of}
use Rattle.part.specs.Outcomes.{Outcome, again, finished}
use Rattle.part.specs.Repairs.{HasRepaired, IsGuardTaken, HasRepairCause, EndsByRepairCause}
use Rattle.repair_op.specs.declared.guarded.Guarded.{Guarded}
use Rattle.repair_op.specs.declared.step.RepairEnd.{RepairEnd}
use Rattle.repair_op.specs.declared.step.RepairEnd.TheVariants as ends
use Rattle.repair_op.specs.declared.step.Settling.{Settling}
use Rattle.repair_op.specs.declared.step.Settling.TheVariants as settling
use Rattle.repair_op.specs.declared.step.RepairStep.{RepairStep}
use Rattle.repair_op.specs.declared.step.RepairStep.TheVariants.{Guard, Head, Link, Side, Slots, Free, GiveSlots, Unmark, Give, Ended}
use Rattle.repair_op.specs.declared.op.RepairOp.{RepairOp}
use Rattle.repair_op.specs.Guarded.{guard_of, RunsHere}
use Rattle.repair_op.specs.Steps.{settled, go, guarded_as, with_side, freed_by, unmarked_by, wanted_in, next_in, wanted, is_guarded}
use Rattle.repair_op.specs.Stands.{SuitsStep}
use Rattle.repair_op.specs.Remembers.{HasTakenGuard, RemembersAt}
use Rattle.repair_op.specs.RepairPart.{outcome_of, outcome_at, repair_part, segment_of}
use Rattle.repair_op.proofs.Words.{head_is, slots_is, guard_is}
use Rattle.repair_op.proofs.RepairIsPart.{kept_stays, within_by, ended_at}
use Rattle.repair_op.proofs.Recalling.{slots_apart, remembers_at}

-- in whichever step it goes on
pub side_none : (op : RepairOp) (slot n : ℕ) (r w : Bool) → outcome_at (if r then guarded_as (with_side op.guarded slot) else if w then go op (Slots slot n) else go op (Unmark settling.Store)).step ≡ None
side_none op slot n true w = refl
side_none op slot n false true = refl
side_none op slot n false false = refl

free_none : (slot side : ℕ) (s : Settling) → outcome_at (freed_by (settled s) slot side) ≡ None
free_none slot side settling.Store = refl
free_none slot side settling.Flush = refl
free_none slot side settling.Fence = refl

unmark_none : (op : RepairOp) (s : Settling) → outcome_at (unmarked_by (settled s) op).step ≡ None
unmark_none op settling.Store = refl
unmark_none op settling.Flush = refl
unmark_none op settling.Fence = refl

-- a header of a live state is that of a live segment
live_true : (head : ℕ) → HasLiveState head → is_live head ≡ true
live_true head live = elim live [
  | inl is ↦ ap (λ s. (s == normal) || (s == splitting)) is
  | inr is ↦ ap (λ s. (s == normal) || (s == splitting)) is
]

module _ (site : Ground) (here : Site) (call : Call) (words : Words) (op : RepairOp) (runs : RunsHere site here op.guarded) (v : View) (did : Doings) (ground : IsGround site) (new : MayBeNewest site v words) where
  abbrev g : Guarded
  g = op.guarded

  abbrev Suited : RepairStep → Type 0
  Suited s = SuitsStep site here call g s v

  abbrev found : RepairStep → ℕ
  found s = words (word_of site.shape (wanted_in op s))

  abbrev next : RepairStep → RepairOp
  next s = next_in op s (answer_to (wanted_in op s) (found s))

  abbrev after : RepairStep → Doings
  after s = with_event_of (wanted_in op s) (answer_to (wanted_in op s) (found s)) did

  abbrev Cause : Want → Outcome → Type 0
  Cause event o = HasRepairCause site.shape words did call g.segment event o

  -- WHAT AN EVENT DECIDES: nothing; or that a guard is another's, or that the segment is repaired
  pub data Decides (s : RepairStep) (o : Option Outcome) : Type 0 where
    nothing : o ≡ None → Decides s o
    busy : (word : ℕ) → o ≡ Some (again (Busy word (words word))) → Finds (wanted_in op s) (answer_to (wanted_in op s) (found s)) word (words word)
        → IsGuardTaken site.shape words did call g.segment word (words word) → Decides s o
    repaired : o ≡ Some finished → HasRepaired site.shape (version_of site) (next s).guarded.segment (after s) → Decides s o

  -- a guard is found taken
  lost_finds : (i b : ℕ) → (words i == 0) ≡ false → Finds (want.Exchange i 0 b) (answer_to (want.Exchange i 0 b) (words i)) i (words i)
  lost_finds i b other = subst (λ t. Finds (want.Exchange i 0 b) (if t then Won else Lost (words i)) i (words i)) (sym other) (refl, refl)

  guard_decides : (t : Bool) → (words (guard_of g) == 0) ≡ t → g.segment < site.shape.segments → did.changed ≡ []
      → Decides Guard (outcome_at (next_in op Guard (if t then Won else Lost (words (guard_of g)))).step)
  guard_decides true won within none = nothing refl
  guard_decides false other within none = busy (guard_of g) refl (lost_finds (guard_of g) g.site.caller other) (record {
    needed = inl (guard_is site g runs.shape within);
    newest = refl;
    taken = eqb-false (words (guard_of g)) 0 other;
    by_others = λ has. subst (λ (l : List ℕ). Has (guard_of g) l) none has;
  })

  slots_decides : (slot side : ℕ) (t : Bool) → (words (allocation_guard g.site.geometry) == 0) ≡ t → HasTakenGuard site g did
      → Decides (Slots slot side) (outcome_at (next_in op (Slots slot side) (if t then Won else Lost (words (allocation_guard g.site.geometry)))).step)
  slots_decides slot side true won taken = nothing refl
  slots_decides slot side false other taken =
      let word : ℕ = allocation_guard g.site.geometry in
      busy word refl (lost_finds word g.site.caller other) (record {
        needed = inr (inl (slots_is site g runs.shape), subst (λ (l : List ℕ). Has (segment_guard site.shape g.segment) l) (sym taken) (inl refl));
        newest = refl;
        taken = eqb-false (words word) 0 other;
        by_others = λ has. elim (subst (λ (l : List ℕ). Has word l) taken has) [ inl same ↦ slots_apart site.shape g.segment (sym (slots_is site g runs.shape) ∙ same) | inr none ↦ none ];
      })

  -- the segment has the image's version
  head_repaired : (n : ℕ) → n ≡ found Head → Suited Head → (version_in n == g.site.version) ≡ true → HasRepaired site.shape (version_of site) g.segment (after Head)
  head_repaired n is s current =
      let at = head_is site g runs.shape g.segment s.0 in
      let head : n ≡ words (header_word site.shape g.segment) = is ∙ ap words at in
      inl (
        n,
        inl (ap (λ i. (i, n)) (sym at) ∙ ap (λ x. (head_word g.site.geometry g.segment, x)) is),
        live_true n (subst (λ x. HasLiveState x) (sym head) (new.says (Lives g.segment) s.4).live),
        eqb-true (version_in n) g.site.version current ∙ runs.version,
      )

  head_decides : (t u : Bool) → (version_in (found Head) == g.site.version) ≡ t → Suited Head
      → Decides Head (outcome_at (if t then Give ends.Current else if u then Link else Ended ends.Guarded))
  head_decides true u current s = repaired refl (head_repaired (found Head) refl s current)
  head_decides false true other s = nothing refl
  head_decides false false other s = nothing refl

  link_decides : (n : ℕ) → Decides Link (outcome_at (next_in op Link (Value n)).step)
  link_decides zero = nothing refl
  link_decides (suc slot) = nothing refl

  decides : (s : RepairStep) → Suited s → RemembersAt site g did s → wanted_in op s ≢ want.Done → outcome_at s ≡ None → Decides s (outcome_at (next s).step)
  decides Guard s r asks yet = guard_decides (words (guard_of g) == 0) refl (within_by site ground here call op runs v Guard words new s asks) r
  decides Head s r asks yet = head_decides (version_in (found Head) == g.site.version) (state_in (found Head) == splitting) refl s
  decides Link s r asks yet = link_decides (found Link)
  decides (Side slot) s r asks yet = nothing (side_none op slot (found (Side slot)) (is_ready_side (depth_in g.head) (pattern_in g.head) (found (Side slot))) (is_new_side (depth_in g.head) (pattern_in g.head) (found (Side slot))))
  decides (Slots slot side) s r asks yet = slots_decides slot side (words (allocation_guard g.site.geometry) == 0) refl r
  decides (Free slot side settling.Store) s r asks yet = nothing refl
  decides (Free slot side settling.Flush) s r asks yet = nothing refl
  decides (Free slot side settling.Fence) s r asks yet = nothing refl
  decides GiveSlots s r asks yet = nothing refl
  decides (Unmark settling.Store) s r asks yet = nothing refl
  decides (Unmark settling.Flush) s r asks yet = nothing refl
  decides (Unmark settling.Fence) s r asks yet = nothing refl
  decides (Give end) s r asks yet = nothing yet
  decides (Ended end) s r asks yet = absurd (asks refl)

  -- THE CAUSE of what it decides
  caused_by : (s : RepairStep) (o : Option Outcome) (outcome : Outcome) → Decides s o → o ≡ Some outcome → Cause (wanted_in op s) outcome
  caused_by s o outcome (nothing none) some = absurd (none-some _ (sym none ∙ some))
  caused_by s o outcome (busy word is finds taken) some = subst (λ (x : Outcome). Cause (wanted_in op s) x) (same_Some _ _ (sym is ∙ some)) (finds, taken)
  caused_by s o outcome (repaired is done) some = subst (λ (x : Outcome). Cause (wanted_in op s) x) (same_Some _ _ (sym is ∙ some)) tt

  worked_by : (s : RepairStep) (o : Option Outcome) → Decides s o → o ≡ Some finished → HasRepaired site.shape (version_of site) (next s).guarded.segment (after s)
  worked_by s o (nothing none) some = absurd (none-some _ (sym none ∙ some))
  worked_by s o (busy word is finds taken) some = absurd (let no : again (Busy word (words word)) ≡ finished = same_Some _ _ (sym is ∙ some) in cc)
  worked_by s o (repaired is done) some = done

-- ---- no lock is held
end_held : (site : Ground) (here : Site) (call : Call) (g : Guarded) (end : RepairEnd) (v : View) → SuitsStep site here call g (Ended end) v → v.held ≡ []
end_held site here call g ends.Current v s = s.held
end_held site here call g (ends.Again why) v s = s.held
end_held site here call g ends.Guarded v s = s.no_locks

none_held : (site : Ground) (here : Site) (call : Call) (g : Guarded) (s : RepairStep) (v : View) → SuitsStep site here call g s v → v.held ≡ []
none_held site here call g Guard v s = s.0.held
none_held site here call g Head v s = s.1.no_locks
none_held site here call g Link v s = s.1.no_locks
none_held site here call g (Side slot) v s = s.2.no_locks
none_held site here call g (Slots slot side) v s = s.1.no_locks
none_held site here call g (Free slot side settling.Store) v s = s.1.0.no_locks
none_held site here call g (Free slot side settling.Flush) v s = s.1.no_locks
none_held site here call g (Free slot side settling.Fence) v s = s.1.no_locks
none_held site here call g GiveSlots v s = s.holds.no_locks
none_held site here call g (Unmark settling) v s = s.holds.no_locks
none_held site here call g (Give end) v s = s.1.no_locks
none_held site here call g (Ended end) v s = end_held site here call g end v s

-- ---- what is decided stays so
stays_at : (op : RepairOp) (s : RepairStep) (a : Ans) (outcome : Outcome) → outcome_at s ≡ Some outcome → outcome_at (next_in op s a).step ≡ Some outcome
stays_at op (Give end) Passed outcome some = some
stays_at op (Give end) a outcome some = some
stays_at op (Ended end) a outcome some = some
stays_at op s a outcome some = absurd (none-some _ some)

-- an end with which nothing is handed on is decided
end_decided : (end : RepairEnd) → is_guarded (Ended end) ≡ false → (outcome : Outcome) × (outcome_of end ≡ Some outcome)
end_decided ends.Current closed = (finished, refl)
end_decided (ends.Again why) closed = (again why, refl)
end_decided ends.Guarded closed = absurd (let no : true ≡ false = closed in cc)

guarded_none : (end : RepairEnd) → is_guarded (Ended end) ≡ true → outcome_of end ≡ None
guarded_none ends.Guarded hands = refl
guarded_none end hands = absurd (let no : false ≡ true = hands in cc)

undecided_at : (s : RepairStep) → is_guarded s ≡ true → outcome_at s ≡ None
undecided_at (Ended end) hands = guarded_none end hands
undecided_at s hands = absurd (let no : false ≡ true = hands in cc)

-- EACH OUTCOME HAS ITS CAUSE
pub ends_by_repair_cause : EndsByRepairCause repair_part segment_of
ends_by_repair_cause = record {
  steps = λ site here call words views j op before v did h at s asks small r.
      let new = known_is_so.newest site words views j v h at in
      let runs = s.stands.here_is in
      let within = within_by site h.site_is here call op runs v op.step words new s.stands.view asks in
      record {
        remembers = remembers_at site here call op runs v did op.step (words (word_of site.shape (wanted op))) within s.stands.view r;
        caused = λ outcome yet some. caused_by site here call words op runs v did h.site_is new op.step _ outcome (decides site here call words op runs v did h.site_is new op.step s.stands.view r asks yet) some;
        worked = λ yet some. worked_by site here call words op runs v did h.site_is new op.step _ (decides site here call words op runs v did h.site_is new op.step s.stands.view r asks yet) some;
        not_own = λ word value yet some has. (subst (λ (l : List (ℕ × ℕ)). HasLock l word) (none_held site here call op.guarded op.step v s.stands.view) has).1;
      };
  stays = λ op a outcome some. stays_at op op.step a outcome some;
  decided = λ site here call op v s done closed.
      let end = ended_at op op.step done in
      let told = end_decided end.0 (sym (ap is_guarded end.1) ∙ closed) in
      (told.0, ap outcome_at end.1 ∙ told.1);
  undecided = λ op hands. undecided_at op.step hands;
  same_segment = λ op a. kept_stays (λ g. g.segment) (λ g head. refl) (λ g slot. refl) op op.step a;
}
