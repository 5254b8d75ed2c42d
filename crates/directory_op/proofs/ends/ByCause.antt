-- Its only outcome is that the power is off, which its event found.
use Rattle.std.proofs.Common.{◌≡◌, ◌≢◌, ℕ, Bool, true, false, cond, None, Some, List, refl, sym, ◌∙◌, subst}
use Rattle.std.specs.Prelude.{◌==◌}
use Rattle.std.proofs.lemmas.Bool.{eqb-false}
use Rattle.std.proofs.lemmas.Option.{none-some}
use Rattle.trace.specs.Events.{Words}
use Rattle.op_core.specs.declared.want.Want.TheVariants as want
use Rattle.op_core.specs.declared.want.Ans.{Ans}
use Rattle.op_core.specs.declared.want.Ans.TheVariants.{Value, Won, Lost, Passed}
use Rattle.op_core.specs.declared.why.Why.TheVariants.{Busy}
use Rattle.segment_head.specs.HeadWord.{depth_in}
use Rattle.image_layout.specs.Volatile.{power_word}
use Rattle.map_model.specs.declared.call.Call.{Call}
use Rattle.world.specs.declared.site.Site.{Site}
use Rattle.world.specs.Ground.{Ground}
use Rattle.world.specs.Views.{View, At}
use Rattle.world.specs.Wants.{answer_to, word_of}
use Rattle.world.specs.Invariant.{Holds}
use Rattle.world.proofs.stepping.Answers.{is_answer}
use Rattle.part.specs.Doings.{Doings}
use Rattle.part.specs.Outcomes.{Outcome, again, off}
use Rattle.part.specs.Splits.{HasSplitCause, EndsBySplitCause}
use Rattle.rounds.proofs.Wanted.{asked}
use Rattle.directory_op.specs.declared.op.DirectoryEnd.TheVariants.{Published, Off}
use Rattle.directory_op.specs.declared.op.Stage.TheVariants.{Fill}
use Rattle.directory_op.specs.declared.op.DirectoryStep.{DirectoryStep}
use Rattle.directory_op.specs.declared.op.DirectoryStep.TheVariants.{LoadHead, LoadSideHead, TakeGuard, AskPower, LoadRoot, LoadEntry, Store, GiveGuard, Ended}
use Rattle.directory_op.specs.declared.op.DirectoryOp.{DirectoryOp}
use Rattle.directory_op.specs.Steps.{shape_of, next_store, wanted_in, passed, rooted, is_over, with_root, taken_in}
use Rattle.directory_op.specs.Fits.{SuitsStep}
use Rattle.directory_op.specs.DirectoryPart.{outcome_at, goes_on, directory_part, segment_of}
use Rattle.directory_op.proofs.Plain.{ends_off}
use Rattle.directory_op.proofs.guard.Guarding.{root_within}
use Rattle.directory_op.proofs.ends.Onward.{passed_goes, root_none}

-- ---- what is decided is that the power is off
told_at : (step : DirectoryStep) (outcome : Outcome) → outcome_at step ≡ Some outcome → off ≡ outcome
told_at (Ended Off) outcome some = cc
told_at step outcome some = absurd (none-some _ some)

no_busy : (step : DirectoryStep) (word value : ℕ) → outcome_at step ≡ Some (again (Busy word value)) → ⊥
no_busy step word value some = let no = told_at step (again (Busy word value)) some in cc

-- ---- what an event decides
module _ (site : Ground) (here : Site) (call : Call) (words : Words) (views : List View) (j : ℕ) (op : DirectoryOp) (v : View) (h : Holds site words views) (at : At views j v) (did : Doings) where
  abbrev found : DirectoryStep → ℕ
  found step = words (word_of site.shape (wanted_in op step))

  -- where this step comes next, each outcome has its cause
  abbrev Caused : DirectoryStep → DirectoryStep → Type 0
  Caused step later = (outcome : Outcome) → outcome_at later ≡ Some outcome → HasSplitCause site.shape words did call op.copied.whole.segment (wanted_in op step) outcome

  none_caused : (step later : DirectoryStep) → outcome_at later ≡ None → Caused step later
  none_caused step later none outcome some = absurd (none-some _ (sym none ∙ some))

  guard_caused : (won : Bool) → Caused TakeGuard (taken_in op TakeGuard (cond won Won (Lost (found TakeGuard)))).step
  guard_caused true = none_caused TakeGuard LoadRoot refl
  guard_caused false = none_caused TakeGuard AskPower refl

  -- the power word was loaded, and was not 0
  power_caused : (on : Bool) → (words (power_word site.shape) == 0) ≡ on → Caused AskPower (cond on TakeGuard (Ended Off))
  power_caused true is = none_caused AskPower TakeGuard refl
  power_caused false is = λ outcome some.
      subst (λ (o : Outcome). HasSplitCause site.shape words did call op.copied.whole.segment want.Power o) (told_at (Ended Off) outcome some) (refl, eqb-false (words (power_word site.shape)) 0 is)

  caused_in : (step : DirectoryStep) → SuitsStep site here op call step v → wanted_in op step ≢ want.Done → Caused step (taken_in op step (answer_to (wanted_in op step) (found step))).step
  caused_in LoadHead s asks = none_caused LoadHead LoadSideHead refl
  caused_in LoadSideHead s asks = none_caused LoadSideHead TakeGuard refl
  caused_in TakeGuard s asks = guard_caused (found TakeGuard == 0)
  caused_in AskPower s asks = power_caused (words (power_word site.shape) == 0) refl
  caused_in LoadRoot s asks = none_caused LoadRoot (with_root op (found LoadRoot)).step (root_none op (found LoadRoot) (root_within site here call words views j op v h at s))
  caused_in (LoadEntry place) s asks = none_caused (LoadEntry place) (Store (Fill place (found (LoadEntry place)))) refl
  caused_in (Store stage) s asks =
      let a : Ans = answer_to (wanted_in op (Store stage)) (found (Store stage)) in
      let q = asked op.rounds (next_store op stage) a (is_answer (wanted_in op (Store stage)) (found (Store stage)) asks) in
      subst (λ (x : Ans). Caused (Store stage) (taken_in op (Store stage) x).step) (sym q.passed) (none_caused (Store stage) (passed op stage).step (passed_goes op stage).none)
  caused_in GiveGuard s asks = none_caused GiveGuard (Ended Published) refl
  caused_in (Ended end) s asks = absurd (asks refl)

-- ---- it stays as it was decided
stays_in : (op : DirectoryOp) (step : DirectoryStep) (a : Ans) (outcome : Outcome) → outcome_at op.step ≡ Some outcome → outcome_at step ≡ Some outcome
    → outcome_at (taken_in op step a).step ≡ Some outcome
stays_in op (Ended Off) a outcome was some = was
stays_in op step a outcome was some = absurd (none-some _ some)

undecided_in : (step : DirectoryStep) → goes_on step ≡ true → outcome_at step ≡ None
undecided_in (Ended Published) hands = refl
undecided_in step hands = absurd (let no : false ≡ true = hands in cc)

-- ---- what was copied stays
root_copied : (op : DirectoryOp) (root : ℕ) (over same : Bool) → (cond over (record op { step = Ended Off }) (rooted same op root)).copied ≡ op.copied
root_copied op root true same = refl
root_copied op root false true = refl
root_copied op root false false = refl

same_in : (op : DirectoryOp) (step : DirectoryStep) (a : Ans) → (taken_in op step a).copied.whole.segment ≡ op.copied.whole.segment
same_in op LoadRoot (Value root) = subst (λ c. c.whole.segment ≡ op.copied.whole.segment) (sym (root_copied op root (is_over (shape_of op) (root == depth_in op.head) root) (root == depth_in op.head))) refl
same_in op LoadHead (Value n) = refl
same_in op LoadSideHead (Value n) = refl
same_in op TakeGuard Won = refl
same_in op TakeGuard (Lost n) = refl
same_in op AskPower (Value n) = refl
same_in op (LoadEntry place) (Value n) = refl
same_in op (Store stage) Passed = refl
same_in op GiveGuard Passed = refl
same_in op step a = refl

-- ITS OUTCOME HAS ITS CAUSE
pub ends_by_split_cause : EndsBySplitCause directory_part segment_of
ends_by_split_cause = record {
  steps = λ site here call words views j op before v did h at s asks small r. record {
    remembers = tt;
    caused = λ outcome none some. caused_in site here call words views j op v h at did op.step s.stands asks outcome some;
    not_own = λ word value none some has. no_busy _ word value some;
  };
  stays = λ op a outcome some. stays_in op op.step a outcome some some;
  decided = λ site here call op v s done closed. (off, ends_off site here call op v s done closed);
  undecided = λ op hands. undecided_in op.step hands;
  same_segment = λ op a. same_in op op.step a;
}
