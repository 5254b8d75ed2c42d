-- The cause of its outcome: another has the guard of the directory, which the attempt, that took the guard of the segment, did not change.
use Rattle.std.proofs.Common.{◌≡◌, ◌≢◌, ℕ, ◌+◌, Bool, true, false, Option, None, Some, List, inr, refl, sym, ap, ◌∙◌, subst}
use Rattle.std.specs.Prelude.{◌==◌, nat_le, nat_lt, if◌then◌else◌}
use Rattle.std.proofs.lemmas.Bool.{eqb-false}
use Rattle.std.proofs.lemmas.Option.{none-some, same_Some}
use Rattle.trace.specs.Events.{Words}
use Rattle.op_core.specs.declared.want.Want.{Want}
use Rattle.op_core.specs.declared.want.Want.TheVariants as want
use Rattle.op_core.specs.declared.want.Ans.{Ans}
use Rattle.op_core.specs.declared.want.Ans.TheVariants.{Value, Won, Lost, Passed}
use Rattle.op_core.specs.declared.why.Why.TheVariants.{Busy}
use Rattle.op_core.specs.Answers.{Finds}
use Rattle.segment_head.specs.HeadWord.{depth_in}
use Rattle.image_layout.specs.Volatile.{directory_guard}
use Rattle.map_model.specs.declared.call.Call.{Call}
use Rattle.world.specs.declared.site.Site.{Site}
use Rattle.world.specs.Ground.{Ground}
use Rattle.world.specs.Views.{View, Has, HasLock}
use Rattle.world.specs.Wants.{answer_to, word_of}
use Rattle.part.specs.Doings.{Doings}
use Rattle.part.specs.Outcomes.{Outcome, again, finished}
use Rattle.part.specs.Repairs.{IsGuardTaken, HasRepairCause, EndsByRepairCause}
use Rattle.rounds.specs.Steps.{rounds_stores, rounds_wanted, rounds_taken}
use Rattle.repair_op.specs.declared.guarded.Guarded.{Guarded}
use Rattle.repair_op.specs.Guarded.{RunsHere}
use Rattle.repair_op.specs.Remembers.{RemembersGuarded}
use Rattle.redirect_op.specs.declared.step.RedirectEnd.{RedirectEnd}
use Rattle.redirect_op.specs.declared.step.RedirectEnd.TheVariants as ends
use Rattle.redirect_op.specs.declared.step.RedirectStep.{RedirectStep}
use Rattle.redirect_op.specs.declared.step.RedirectStep.TheVariants.{Guard, Root, Entry, Head, Store, Settle, Fence, GiveDirectory, Give, Ended}
use Rattle.redirect_op.specs.declared.op.RedirectOp.{RedirectOp}
use Rattle.redirect_op.specs.Steps.{shape_of, last_entry, store_to, go, settle_by, behind, met_head, stored_by, with_rounds, stored, settled_to, wanted_in, next_in, wanted, is_redirected, begun_at}
use Rattle.redirect_op.specs.Stands.{SuitsStep}
use Rattle.redirect_op.specs.Ends.{outcome_of, outcome_at}
use Rattle.redirect_op.specs.RedirectPart.{RemembersAt, redirect_part, segment_of, BeginsRemembering}
use Rattle.redirect_op.proofs.Plain.{none_held, ended_at}

-- ---- what is so of each step of the loop is so in whichever step it goes on
module _ (P : RedirectStep → Type 0) (entry : (index : ℕ) → P (Entry index)) (store : (index : ℕ) → P (Store index)) (settle : P Settle) (fence : P Fence) (give : P GiveDirectory) where
  settle_is : (o : Option Want) → P (settle_by o)
  settle_is None = fence
  settle_is (Some w) = settle

  settled_is : (o : Option Want) → P (settled_to o)
  settled_is None = give
  settled_is (Some w) = settle

  behind_is : (op : RedirectOp) (index : ℕ) → P (behind op index).step
  behind_is op index = by (nat_lt index (last_entry op))
    where
      by : (b : Bool) → P (if b then Entry (index + 1) else settle_by (rounds_wanted op.rounds None))
      by true = entry (index + 1)
      by false = settle_is (rounds_wanted op.rounds None)

  pub head_is : (op : RedirectOp) (index n : ℕ) → P (met_head op index n).step
  head_is op index n = by (nat_le (depth_in n) (depth_in op.guarded.head))
    where
      by : (b : Bool) → P (if b then go op (Store index) else behind op index).step
      by true = store index
      by false = behind_is op index

  stored_is : (op : RedirectOp) (index : ℕ) → op.step ≡ Store index → P (stored op index).step
  stored_is op index at = by (rounds_stores op.rounds (Some (store_to op index)))
    where
      by : (b : Bool) → P (stored_by b (with_rounds op (Some (store_to op index))) index).step
      by true = behind_is (with_rounds op (Some (store_to op index))) index
      by false = subst P (sym at) (store index)

  -- whatever is answered to an event of the rounds
  pub store_is : (op : RedirectOp) (index : ℕ) (a : Ans) → op.step ≡ Store index → P (next_in op (Store index) a).step
  store_is op index Passed at = stored_is op index at
  store_is op index a at = store index

  pub settle_to_is : (op : RedirectOp) (a : Ans) → P (next_in op Settle a).step
  settle_to_is op Passed = settled_is (rounds_wanted (rounds_taken op.rounds None) None)
  settle_to_is op a = settle

-- ---- the segment stays the same
module _ (op : RedirectOp) where
  head_stays : (index n : ℕ) → (met_head op index n).guarded ≡ op.guarded
  head_stays index n = by (nat_le (depth_in n) (depth_in op.guarded.head))
    where
      by : (b : Bool) → (if b then go op (Store index) else behind op index).guarded ≡ op.guarded
      by true = refl
      by false = refl

  stored_stays : (index : ℕ) → (stored op index).guarded ≡ op.guarded
  stored_stays index = by (rounds_stores op.rounds (Some (store_to op index)))
    where
      by : (b : Bool) → (stored_by b (with_rounds op (Some (store_to op index))) index).guarded ≡ op.guarded
      by true = refl
      by false = refl

pub guarded_stays : (op : RedirectOp) (s : RedirectStep) (a : Ans) → (next_in op s a).guarded ≡ op.guarded
guarded_stays op Guard Won = refl
guarded_stays op Guard (Lost n) = refl
guarded_stays op Root (Value n) = refl
guarded_stays op (Entry index) (Value n) = refl
guarded_stays op (Head index slot) (Value n) = head_stays op index n
guarded_stays op (Store index) Passed = stored_stays op index
guarded_stays op Settle Passed = refl
guarded_stays op Fence Passed = refl
guarded_stays op GiveDirectory Passed = refl
guarded_stays op (Give end) Passed = refl
guarded_stays op s a = refl

-- ---- the cause
module _ (site : Ground) (here : Site) (call : Call) (words : Words) (op : RedirectOp) (v : View) (did : Doings) where
  abbrev g : Guarded
  g = op.guarded

  abbrev Suited : RedirectStep → Type 0
  Suited s = SuitsStep site here call op s v

  abbrev found : RedirectStep → ℕ
  found s = words (word_of site.shape (wanted_in op s))

  abbrev next : RedirectStep → RedirectOp
  next s = next_in op s (answer_to (wanted_in op s) (found s))

  abbrev Cause : Want → Outcome → Type 0
  Cause event o = HasRepairCause site.shape words did call g.segment event o

  -- WHAT AN EVENT DECIDES: nothing; or that the guard of the directory is another's
  pub data Decides (s : RedirectStep) (o : Option Outcome) : Type 0 where
    nothing : o ≡ None → Decides s o
    busy : (word : ℕ) → o ≡ Some (again (Busy word (words word))) → Finds (wanted_in op s) (answer_to (wanted_in op s) (found s)) word (words word)
        → IsGuardTaken site.shape words did call g.segment word (words word) → Decides s o

  lost_finds : (i b : ℕ) → (words i == 0) ≡ false → Finds (want.Exchange i 0 b) (answer_to (want.Exchange i 0 b) (words i)) i (words i)
  lost_finds i b other = subst (λ t. Finds (want.Exchange i 0 b) (if t then Won else Lost (words i)) i (words i)) (sym other) (refl, refl)

  abbrev guard : ℕ
  guard = directory_guard (shape_of op)

  guard_decides : (t : Bool) → (words guard == 0) ≡ t → RunsHere site here g → RemembersGuarded site g did → Decides Guard (outcome_at (next_in op Guard (if t then Won else Lost (words guard))).step)
  guard_decides true won runs r = nothing refl
  guard_decides false other runs r =
      let is : guard ≡ directory_guard site.shape = ap directory_guard runs.shape in
      busy guard refl (lost_finds guard g.site.caller other) (record {
        needed = inr (inr is, r.guard);
        newest = refl;
        taken = eqb-false (words guard) 0 other;
        by_others = λ has. r.no_directory (subst (λ i. Has i did.changed) is has);
      })

  abbrev IsOpen : RedirectStep → Type 0
  IsOpen s = outcome_at s ≡ None

  decides : (s : RedirectStep) → op.step ≡ s → Suited s → RemembersAt site g did s → wanted_in op s ≢ want.Done → outcome_at s ≡ None → Decides s (outcome_at (next s).step)
  decides Guard at s r asks yet = guard_decides (words guard == 0) refl s.0.here_is r
  decides Root at s r asks yet = nothing refl
  decides (Entry index) at s r asks yet = nothing refl
  decides (Head index slot) at s r asks yet = nothing (head_is IsOpen (λ i. refl) (λ i. refl) refl refl refl op index (found (Head index slot)))
  decides (Store index) at s r asks yet = nothing (store_is IsOpen (λ i. refl) (λ i. refl) refl refl refl op index (answer_to (wanted_in op (Store index)) (found (Store index))) at)
  decides Settle at s r asks yet = nothing (settle_to_is IsOpen (λ i. refl) (λ i. refl) refl refl refl op (answer_to (wanted_in op Settle) (found Settle)))
  decides Fence at s r asks yet = nothing refl
  decides GiveDirectory at s r asks yet = nothing refl
  decides (Give end) at s r asks yet = nothing yet
  decides (Ended end) at s r asks yet = absurd (asks refl)

  -- THE CAUSE of what it decides
  caused_by : (s : RedirectStep) (o : Option Outcome) (outcome : Outcome) → Decides s o → o ≡ Some outcome → Cause (wanted_in op s) outcome
  caused_by s o outcome (nothing none) some = absurd (none-some _ (sym none ∙ some))
  caused_by s o outcome (busy word is finds taken) some = subst (λ (x : Outcome). Cause (wanted_in op s) x) (same_Some _ _ (sym is ∙ some)) (finds, taken)

  unfinished : (s : RedirectStep) (o : Option Outcome) → Decides s o → o ≡ Some finished → ⊥
  unfinished s o (nothing none) some = none-some _ (sym none ∙ some)
  unfinished s o (busy word is finds taken) some = let no : again (Busy word (words word)) ≡ finished = same_Some _ _ (sym is ∙ some) in absurd (cc)

-- ---- nothing is remembered behind the guard
module _ (site : Ground) (op : RedirectOp) (n : ℕ) (h : Guarded) (after : Doings) where
  abbrev Recalls : RedirectStep → Type 0
  Recalls t = RemembersAt site h after t

  guard_recalls : (t : Bool) → Recalls (next_in op Guard (if t then Won else Lost n)).step
  guard_recalls true = tt
  guard_recalls false = tt

  recalls_at : (s : RedirectStep) → op.step ≡ s → Recalls (next_in op s (answer_to (wanted_in op s) n)).step
  recalls_at Guard at = guard_recalls (n == 0)
  recalls_at Root at = tt
  recalls_at (Entry index) at = tt
  recalls_at (Head index slot) at = head_is Recalls (λ i. tt) (λ i. tt) tt tt tt op index n
  recalls_at (Store index) at = store_is Recalls (λ i. tt) (λ i. tt) tt tt tt op index (answer_to (wanted_in op (Store index)) n) at
  recalls_at Settle at = settle_to_is Recalls (λ i. tt) (λ i. tt) tt tt tt op (answer_to (wanted_in op Settle) n)
  recalls_at Fence at = tt
  recalls_at GiveDirectory at = tt
  recalls_at (Give end) at = tt
  recalls_at (Ended end) at = tt

-- ---- what is decided stays so
stays_at : (op : RedirectOp) (s : RedirectStep) (a : Ans) (outcome : Outcome) → outcome_at s ≡ Some outcome → outcome_at (next_in op s a).step ≡ Some outcome
stays_at op (Give end) Passed outcome some = some
stays_at op (Give end) a outcome some = some
stays_at op (Ended end) a outcome some = some
stays_at op s a outcome some = absurd (none-some _ some)

-- an end with which nothing is handed on is decided
end_decided : (end : RedirectEnd) → is_redirected (Ended end) ≡ false → (outcome : Outcome) × (outcome_of end ≡ Some outcome)
end_decided (ends.Again why) closed = (again why, refl)
end_decided ends.Guarded closed = absurd (let no : true ≡ false = closed in cc)

none_handed : (end : RedirectEnd) → is_redirected (Ended end) ≡ true → outcome_of end ≡ None
none_handed ends.Guarded hands = refl
none_handed (ends.Again why) hands = absurd (let no : false ≡ true = hands in cc)

undecided_at : (s : RedirectStep) → is_redirected s ≡ true → outcome_at s ≡ None
undecided_at (Ended end) hands = none_handed end hands
undecided_at s hands = absurd (let no : false ≡ true = hands in cc)

-- EACH OUTCOME HAS ITS CAUSE
pub ends_by_repair_cause : EndsByRepairCause redirect_part segment_of
ends_by_repair_cause = record {
  steps = λ site here call words views j op before v did h at s asks small r.
      let n : ℕ = words (word_of site.shape (wanted op)) in
      record {
        remembers = recalls_at site op n _ _ op.step refl;
        caused = λ outcome yet some. caused_by site here call words op v did op.step _ outcome (decides site here call words op v did op.step refl s.stands r asks yet) some;
        worked = λ yet some. unfinished site here call words op v did op.step _ (decides site here call words op v did op.step refl s.stands r asks yet) some;
        not_own = λ word value yet some has. (subst (λ (l : List (ℕ × ℕ)). HasLock l word) (none_held site here call op v op.step s.stands) has).1;
      };
  stays = λ op a outcome some. stays_at op op.step a outcome some;
  decided = λ site here call op v s done closed.
      let end = ended_at site here call op v op.step s done in
      let told = end_decided end.0 (sym (ap is_redirected end.1) ∙ closed) in
      (told.0, ap outcome_at end.1 ∙ told.1);
  undecided = λ op hands. undecided_at op.step hands;
  same_segment = λ op a. ap (λ (g : Guarded). g.segment) (guarded_stays op op.step a);
}

-- ---- at first
remembering_by : (site : Ground) (g : Guarded) (did : Doings) (side : Option ℕ) → RemembersGuarded site g did → RemembersAt site g did (begun_at side)
remembering_by site g did None r = tt
remembering_by site g did (Some side) r = r

pub begins_remembering : BeginsRemembering
begins_remembering site g did r = remembering_by site g did g.side r
