-- Each end of a get has its cause, whatever values its events find.
use Rattle.std.proofs.Common.{◌≡◌, ℕ, inl, inr, ◌⊎◌, List, [], ◌∷◌, ◌++◌, refl, sym, ◌∙◌, ap, subst}
use Rattle.std.specs.Prelude.{◌==◌, nat_lt, nat_le}
use Rattle.std.proofs.lemmas.Bool.{leb-false, ltb-false, cond_both}
use Rattle.op_core.specs.declared.want.Want.TheVariants as want
use Rattle.op_core.specs.declared.want.Ans.TheVariants.{Value}
use Rattle.op_core.specs.declared.why.Why.TheVariants.{Busy, Moved}
use Rattle.trace.specs.Events.{Words}
use Rattle.image_layout.specs.Places.{root_word}
use Rattle.sound_image.specs.Records.{key_hash}
use Rattle.way.specs.Ways.{entry_word, head_word}
use Rattle.map_model.specs.declared.call.Call.TheVariants.{Get}
use Rattle.part.specs.Doings.{Doings, with_event_of, nothing_done}
use Rattle.part.specs.Outcomes.{Outcome, again}
use Rattle.part.specs.Causes.{HasCause}
use Rattle.phase.specs.declared.walk.Walk.{Walk}
use Rattle.phase.specs.declared.walk.Walk.TheVariants as walk
use Rattle.phase.specs.declared.walk.Walked.{Walked}
use Rattle.phase.specs.declared.walk.Walked.TheVariants as walked
use Rattle.phase.specs.Walks.{walk_wanted, walk_taken}
use Rattle.phase.proofs.Walking.{by_head}
use Rattle.phase.proofs.locks.Choosing.{by_both}
use Rattle.read_op.specs.declared.step.ReadStep.TheVariants.{Way}
use Rattle.read_op.specs.declared.step.Task.{Task}
use Rattle.read_op.specs.declared.op.ReadOp.{ReadOp}
use Rattle.read_op.specs.Steps.{begun, wanted, wanted_in, taken}
use Rattle.read_op.specs.Budget.{after_all}
use Rattle.read_op.specs.GetPart.{RemembersIn}
use Rattle.read_op.specs.AnyMemory.{did_all, IsAmiss, met, FindsAmiss, HasCauseThere, EndsByCauseAnywhere}
use Rattle.read_op.proofs.steps.Asked.{reads_alone}
use Rattle.read_op.proofs.causing.Causing.{step_caused}
use Rattle.read_op.proofs.parts.Remembering.{remembers_in, reading_changes}

-- ---- a value that no table has on the way
abbrev word_told : Walked → ℕ
word_told (walked.Amiss word seen) = word
word_told x = 0

abbrev seen_told : Walked → ℕ
seen_told (walked.Amiss word seen) = seen
seen_told x = 0

module _ (task : Task) (n word seen : ℕ) where
  -- it is such a value, of the word that is loaded
  abbrev IsTold : Walk → Type 0
  IsTold w = IsAmiss task (Way w) n × (walk_wanted task.site task.hash w ≡ want.Load word) × (seen ≡ n)

  abbrev ToldIf : Walk → Walked → Type 0
  ToldIf w x = x ≡ walked.Amiss word seen → IsTold w

  told : (w : Walk) (i : ℕ) → walk_wanted task.site task.hash w ≡ want.Load i → IsAmiss task (Way w) n → ToldIf w (walked.Amiss i n)
  told w i loads amiss e = (amiss, loads ∙ ap (λ x. want.Load (word_told x)) e, sym (ap seen_told e))

  amiss_is : (w : Walk) → ToldIf w (walk_taken task.site task.hash w n)
  amiss_is walk.Power = by_both (ToldIf walk.Power) (n == 0) (walked.On walk.Root) walked.Off (λ e. absurd (cc)) (λ e. absurd (cc))
  amiss_is walk.Root =
      cond_both (nat_le n task.site.geometry.depth) (walked.On (walk.Entry n)) (walked.Amiss root_word n) (ToldIf walk.Root)
      (λ t e. absurd (cc)) (λ f. told walk.Root root_word refl (leb-false n task.site.geometry.depth f))
  amiss_is (walk.Entry root) =
      let i = entry_word task.site.geometry task.hash root in
      cond_both (nat_lt n task.site.geometry.segments) (walked.On (walk.Head root n)) (walked.Amiss i n) (ToldIf (walk.Entry root))
      (λ t e. absurd (cc)) (λ f. told (walk.Entry root) i refl (ltb-false n task.site.geometry.segments f))
  amiss_is (walk.Head root segment) =
      by_head (ToldIf (walk.Head root segment)) task.site task.hash root segment n (λ live current e. absurd (cc)) (λ live old e. absurd (cc))
      (λ dead. told (walk.Head root segment) (head_word task.site.geometry segment) refl dead)

-- ---- after events that found any values
same_task : (seen : List ℕ) (op : ReadOp) → (after_all op seen).task ≡ op.task
same_task [] op = refl
same_task (n ∷ rest) op = same_task rest (taken op (Value n))

remembers_all : (seen : List ℕ) (op : ReadOp) (did : Doings) → RemembersIn op.task did.loads op.step
    → RemembersIn (after_all op seen).task (did_all op seen did).loads (after_all op seen).step
remembers_all [] op did r = r
remembers_all (n ∷ rest) op did r = remembers_all rest (taken op (Value n)) (with_event_of (wanted op) (Value n) did) (remembers_in op.task did.loads op.step n r)

changes_none : (seen : List ℕ) (op : ReadOp) (did : Doings) → did.changed ≡ [] → (did_all op seen did).changed ≡ []
changes_none [] op did none = none
changes_none (n ∷ rest) op did none =
    changes_none rest (taken op (Value n)) (with_event_of (wanted op) (Value n) did) (ap (λ cs. cs ++ did.changed) (reading_changes (wanted op) (Value n) (reads_alone op)) ∙ none)

-- ---- its cause
module _ (op : ReadOp) (did : Doings) (words : Words) where
  abbrev Amissed : Outcome → Type 0
  Amissed (again (Moved word before after)) = FindsAmiss op did words word before after
  Amissed outcome = ⊥

  cause_of : (outcome : Outcome) → HasCause op.task.site.geometry words did (Get op.task.key) (wanted op) op.task.site outcome ⊎ Amissed outcome → HasCauseThere op did words outcome
  cause_of (again (Moved word before after)) either = either
  cause_of (again (Busy word value)) (inl cause) = cause
  cause_of (again (Busy word value)) (inr none) = absurd none
  cause_of outcome (inl cause) = cause
  cause_of outcome (inr none) = absurd none

pub ends_by_cause_anywhere : EndsByCauseAnywhere
ends_by_cause_anywhere key site seen words outcome asks some =
    let first : ReadOp = begun key site in
    let op : ReadOp = after_all first seen in
    let did : Doings = did_all first seen nothing_done in
    let hash_is : op.task.hash ≡ key_hash op.task.site.geometry op.task.key = subst (λ (t : Task). t.hash ≡ key_hash t.site.geometry t.key) (sym (same_task seen first)) refl in
    let n : ℕ = met op did words in
    cause_of op did words outcome
    (step_caused op.task words did (Get op.task.key) hash_is (changes_none seen first nothing_done refl) (Amissed op did words) op.step n refl
    (remembers_all seen first nothing_done tt) asks
    (λ w at_way word told e. (let is = amiss_is op.task n word told w e in record {
      amiss = subst (λ s. IsAmiss op.task s n) (sym at_way) is.0;
      loads = ap (λ s. wanted_in op.task s) at_way ∙ is.1;
      before_is = is.2;
      after_is = is.2;
    })) outcome some)
