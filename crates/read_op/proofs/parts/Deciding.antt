-- Where the event of a get decides its outcome, the cause is there.
use Rattle.std.proofs.Common.{◌≡◌, ◌≢◌, ℕ, true, false, inl, inr, Some, List, [], refl, sym, ◌∙◌, ap, subst}
use Rattle.std.proofs.lemmas.Option.{none-some}
use Rattle.op_core.specs.declared.want.Want.TheVariants as want
use Rattle.op_core.specs.declared.want.Ans.{Ans}
use Rattle.op_core.specs.declared.want.Ans.TheVariants.{Value}
use Rattle.trace.specs.Events.{Words}
use Rattle.image_layout.specs.Places.{Shape}
use Rattle.sound_image.specs.Records.{key_hash}
use Rattle.map_model.specs.declared.call.Call.{Call}
use Rattle.map_model.specs.declared.call.Call.TheVariants.{Get}
use Rattle.map_model.specs.Map.{key_of}
use Rattle.world.specs.declared.site.Site.{Site}
use Rattle.world.specs.Ground.{Ground}
use Rattle.world.specs.Views.{View, At, HasLock}
use Rattle.world.specs.Wants.{answer_to, word_of}
use Rattle.world.specs.Kinds.{view_after}
use Rattle.world.specs.Invariant.{Holds}
use Rattle.world.proofs.stepping.Answers.{load_asked, load_value}
use Rattle.part.specs.Doings.{Doings}
use Rattle.part.specs.Outcomes.{Outcome}
use Rattle.part.specs.Part.{Suits}
use Rattle.part.specs.Causes.{HasCause, EndsByCause}
use Rattle.phase.specs.declared.walk.Walk.{Walk}
use Rattle.phase.specs.declared.walk.Walked.TheVariants as walked
use Rattle.phase.specs.Walks.{walk_taken}
use Rattle.phase.specs.Stands.{walk_kind, HasWalked}
use Rattle.read_op.specs.declared.step.ReadStep.{ReadStep}
use Rattle.read_op.specs.declared.step.ReadStep.TheVariants.{Way, Ended}
use Rattle.read_op.specs.declared.step.Task.{Task}
use Rattle.read_op.specs.declared.op.ReadOp.{ReadOp}
use Rattle.read_op.specs.Steps.{wanted, taken, wanted_in, next_in}
use Rattle.read_op.specs.Fits.{IsIn, suits_in}
use Rattle.read_op.specs.GetPart.{outcome_of, outcome_in, RemembersIn, Remembers, get_part}
use Rattle.read_op.proofs.Opening.{has_ended}
use Rattle.read_op.proofs.steps.Asked.{reads_alone}
use Rattle.read_op.proofs.Keeping.{has_walked}
use Rattle.read_op.proofs.causing.Causing.{step_caused}
use Rattle.read_op.proofs.parts.Remembering.{remembers_next}
use Rattle.read_op.proofs.parts.Beginning.{never_finished}

-- ---- in a world, for the caller with this view
module _ (site : Ground) (task : Task) (is : IsIn site task) (words : Words) (views : List View) (j : ℕ) (v : View) (h : Holds site words views) (at : At views j v)
    (bare : v.areas ≡ []) (did : Doings) (call : Call) (same : call ≡ Get task.key) (none : did.changed ≡ []) where
  hash_here : task.hash ≡ key_hash task.site.geometry (key_of call)
  hash_here = is.hash ∙ (ap (λ x. key_hash x task.key) (sym is.shape) ∙ ap (λ c. key_hash task.site.geometry (key_of c)) (sym same))

  -- no first look finds what no table has
  never_amiss : (s : ReadStep) (n : ℕ) → n ≡ words (word_of site.shape (wanted_in task s)) → suits_in site task s v
      → (w : Walk) → s ≡ Way w → (word seen : ℕ) → walk_taken task.site task.hash w n ≡ walked.Amiss word seen → ⊥
  never_amiss s n found suits w at_way word seen e = subst (λ x. HasWalked site x (view_after site.shape (walk_kind task.site task.hash w) n v).facts) e
      (has_walked site task is words views j v h at bare w n (found ∙ ap (λ s. words (word_of site.shape (wanted_in task s))) at_way) (subst (λ s. suits_in site task s v) at_way suits))

  caused_here : (s : ReadStep) (n : ℕ) → n ≡ words (word_of site.shape (wanted_in task s)) → suits_in site task s v → RemembersIn task did.loads s → wanted_in task s ≢ want.Done
      → (outcome : Outcome) → outcome_in (next_in task s n) ≡ Some outcome → HasCause task.site.geometry words did call (wanted_in task s) task.site outcome
  caused_here s n found suits r asks outcome some =
      let here : n ≡ words (word_of task.site.geometry (wanted_in task s)) = found ∙ ap (λ (z : Shape). words (word_of z (wanted_in task s))) (sym is.shape) in
      elim (step_caused task words did call hash_here none (λ outcome. ⊥) s n here r asks (never_amiss s n found suits) outcome some) [ inl cause ↦ cause | inr none ↦ absurd none ]

caused : (site : Ground) (here : Site) (call : Call) (words : Words) (views : List View) (j : ℕ) (op : ReadOp) (before v : View) → Holds site words views → At views j v
    → Suits get_part site here call op before v → wanted op ≢ want.Done → (did : Doings) → Remembers site op did → (outcome : Outcome)
    → outcome_in (taken op (answer_to (wanted op) (words (word_of site.shape (wanted op))))).step ≡ Some outcome → HasCause site.shape words did call (wanted op) here outcome
caused site here call words views j op before v h at s asks did r outcome some =
    let st = s.stands in
    let found : ℕ = words (word_of site.shape (wanted op)) in
    let told : outcome_in (next_in op.task op.step found) ≡ Some outcome =
    subst (λ a. outcome_in (taken op a).step ≡ Some outcome) (load_value (wanted op) found (load_asked (wanted op) (reads_alone op) asks)) some in
    let cause : HasCause op.task.site.geometry words did call (wanted op) op.task.site outcome =
    caused_here site op.task st.is_in words views j v h at st.nothing.areas did call st.same r.none op.step found refl st.suits r.kept asks outcome told in
    subst (λ shape. HasCause shape words did call (wanted op) here outcome) st.is_in.shape
    (subst (λ z. HasCause op.task.site.geometry words did call (wanted op) z outcome) st.at cause)

stays_in : (op : ReadOp) (s : ReadStep) (a : Ans) (outcome : Outcome) → outcome_in s ≡ Some outcome → outcome_in (taken (record op { step = s }) a).step ≡ Some outcome
stays_in op (Ended end) (Value n) outcome some = some
stays_in op (Ended end) a outcome some = some
stays_in op s a outcome some = absurd (none-some outcome some)

pub get_ends_by_cause : EndsByCause get_part
get_ends_by_cause = record {
  steps = λ site here call words views j op before v did h at s asks small r. record {
    remembers = remembers_next op site (words (word_of site.shape (wanted op))) did asks r;
    caused = λ outcome none some. caused site here call words views j op before v h at s asks did r outcome some;
    worked = λ none some. never_finished (taken op (answer_to (wanted op) (words (word_of site.shape (wanted op))))) some;
    not_own = λ word value none some has. (let none : HasLock [] word = subst (λ locks. HasLock locks word) s.stands.nothing.held has in none.1);
  };
  stays = λ op a outcome some. stays_in op op.step a outcome some;
  decided = λ site here call op v s done closed. let ended = has_ended op.task op.step done in (outcome_of ended.0, ap outcome_in ended.1);
  undecided = λ op h. absurd (let f : false ≡ true = h in cc);
}
