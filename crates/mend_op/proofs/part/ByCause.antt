-- Its only outcome is that it has finished, and then its attempt has stored the header with the image's version.
use Rattle.std.proofs.Common.{◌≡◌, ◌≢◌, ℕ, None, Some, false, true, inl, inr, refl, sym, ap, ◌∙◌, subst}
use Rattle.trace.specs.Events.{Words}
use Rattle.op_core.specs.declared.want.Want.{Want}
use Rattle.op_core.specs.declared.want.Want.TheVariants as wants
use Rattle.op_core.specs.declared.want.Ans.{Ans}
use Rattle.op_core.specs.declared.want.Ans.TheVariants.{Value, Passed}
use Rattle.op_core.specs.declared.why.Why.TheVariants.{Busy}
use Rattle.segment_head.specs.HeadWord.{version_in}
use Rattle.image_layout.specs.Places.{Shape}
use Rattle.map_model.specs.declared.call.Call.{Call}
use Rattle.world.specs.declared.site.Site.{Site}
use Rattle.world.specs.Ground.{Ground, version_of}
use Rattle.world.specs.Views.{View, Has}
use Rattle.world.specs.Wants.{answer_to}
use Rattle.world.specs.areas.Areas.{header_word}
use Rattle.world.proofs.moving.Known.{known_is_so}
use Rattle.part.specs.Doings.{Doings, with_event_of}
use Rattle.part.specs.Outcomes.{Outcome, again, finished}
use Rattle.part.specs.Repairs.{HasRepaired, HasRepairCause, EndsByRepairCause}
use Rattle.rounds.specs.Steps.{rounds_stores, rounds_taken}
use Rattle.mend_op.specs.declared.stage.Stage.TheVariants as stage
use Rattle.mend_op.specs.declared.op.MendStep.{MendStep}
use Rattle.mend_op.specs.declared.op.MendStep.TheVariants.{Fill, Round, Finish, FinishFlush, FinishFence, Note, Renew, RenewFlush, RenewFence, Give, Ended}
use Rattle.mend_op.specs.declared.op.MendOp.{MendOp}
use Rattle.mend_op.specs.Steps.{with_word, due, wanted_in, next_in, wanted}
use Rattle.repair_op.specs.Finishing.{HasImageVersion, FinishesCurrent}
use Rattle.mend_op.specs.Stands.{SuitsStep}
use Rattle.mend_op.specs.MendPart.{outcome_at, HasStoredHeader, RemembersAt, IsOf, mend_part, segment_of}
use Rattle.mend_op.proofs.whole.Located.{head_is}
use Rattle.mend_op.proofs.part.MendIsPart.{ends_repaired}
use Rattle.mend_op.proofs.part.Going.{IsEarly, early_none, early_remembers, GoesOn, filled_goes, rounded_goes, begin_goes, noted_goes}

-- what is decided is that it has finished
told_at : (s : MendStep) (outcome : Outcome) → outcome_at s ≡ Some outcome → finished ≡ outcome
told_at Ended outcome some = cc
told_at s outcome some = absurd (let no : None ≡ Some outcome = some in cc)

no_busy : (s : MendStep) (word value : ℕ) → outcome_at s ≡ Some (again (Busy word value)) → ⊥
no_busy s word value some = let no = told_at s (again (Busy word value)) some in cc

caused_at : (shape : Shape) (words : Words) (did : Doings) (call : Call) (segment : ℕ) (event : Want) (s : MendStep) (outcome : Outcome) → outcome_at s ≡ Some outcome
    → HasRepairCause shape words did call segment event outcome
caused_at shape words did call segment event s outcome some = subst (λ (o : Outcome). HasRepairCause shape words did call segment event o) (told_at s outcome some) tt

-- ---- WHERE ANSWERS LEAD
-- each step before the last header leads to another, but for the one that stores it
pub goes_at : (op : MendOp) (s : MendStep) (a : Ans) → IsEarly s → (s ≡ Renew → ⊥) → GoesOn op (next_in op s a)
goes_at op (Fill i) (Value seen) early apart = let g = filled_goes (with_word op i seen) i in record { early = g.early; same = g.same }
goes_at op (Fill i) a early apart = record { early = tt; same = refl }
goes_at op (Round t n rounds) Passed early apart = rounded_goes op t n (rounds_taken rounds (due op t n)) (rounds_stores rounds (due op t n))
goes_at op (Round t n rounds) a early apart = record { early = tt; same = refl }
goes_at op Finish Passed early apart = record { early = tt; same = refl }
goes_at op Finish a early apart = record { early = tt; same = refl }
goes_at op FinishFlush Passed early apart = record { early = tt; same = refl }
goes_at op FinishFlush a early apart = record { early = tt; same = refl }
goes_at op FinishFence Passed early apart = begin_goes op stage.Mend
goes_at op FinishFence a early apart = record { early = tt; same = refl }
goes_at op (Note n) Passed early apart = noted_goes op n
goes_at op (Note n) a early apart = record { early = tt; same = refl }
goes_at op Renew a early apart = absurd (apart refl)
goes_at op RenewFlush a early apart = absurd early
goes_at op RenewFence a early apart = absurd early
goes_at op Give a early apart = absurd early
goes_at op Ended a early apart = absurd early

same_segment : (op : MendOp) (s : MendStep) (a : Ans) → (next_in op s a).guarded.segment ≡ op.guarded.segment
same_segment op Renew Passed = refl
same_segment op Renew a = refl
same_segment op RenewFlush Passed = refl
same_segment op RenewFlush a = refl
same_segment op RenewFence Passed = refl
same_segment op RenewFence a = refl
same_segment op Give Passed = refl
same_segment op Give a = refl
same_segment op Ended a = refl
same_segment op s a = (goes_at op s a tt (λ same. cc)).same

stays_at : (op : MendOp) (s : MendStep) (a : Ans) (outcome : Outcome) → outcome_at s ≡ Some outcome → outcome_at (next_in op s a).step ≡ Some outcome
stays_at op Ended a outcome some = some
stays_at op s a outcome some = absurd (let no : None ≡ Some outcome = some in cc)

-- ---- one step
module _ (site : Ground) (here : Site) (op : MendOp) (is : IsOf site here op) (did : Doings) (n : ℕ) where
  abbrev answer : MendStep → Ans
  answer s = answer_to (wanted_in op s) n

  abbrev next : MendStep → MendOp
  next s = next_in op s (answer s)

  abbrev after : MendStep → Doings
  after s = with_event_of (wanted_in op s) (answer s) did

  -- THE HEADER WAS STORED, in the word of the segment
  stored : HasStoredHeader site op (after Renew)
  stored = inl (sym (head_is site op is.here_is.shape is.old.within))

  early_next : (s : MendStep) → IsEarly s → (s ≡ Renew → ⊥) → RemembersAt site (next s) (after s) (next s).step
  early_next s early apart = early_remembers site (next s) (after s) (next s).step (goes_at op s (answer s) early apart).early

  remembers_next : (s : MendStep) → wanted_in op s ≢ wants.Done → RemembersAt site op did s → RemembersAt site (next s) (after s) (next s).step
  remembers_next Renew asks kept = stored
  remembers_next RenewFlush asks kept = kept
  remembers_next RenewFence asks kept = kept
  remembers_next Give asks kept = inr kept
  remembers_next Ended asks kept = absurd (asks refl)
  remembers_next s asks kept = early_next s tt (λ same. cc)

  no_outcome : (s : MendStep) → IsEarly s → (s ≡ Renew → ⊥) → outcome_at (next s).step ≡ Some finished → ⊥
  no_outcome s early apart some = let no : None ≡ Some finished = sym (early_none (next s).step (goes_at op s (answer s) early apart).early) ∙ some in cc

  worked_next : (s : MendStep) → RemembersAt site op did s → outcome_at s ≡ None → outcome_at (next s).step ≡ Some finished
      → HasRepaired site.shape (version_of site) (next s).guarded.segment (after s)
  worked_next Renew kept none some = absurd (let no : None ≡ Some finished = some in cc)
  worked_next RenewFlush kept none some = absurd (let no : None ≡ Some finished = some in cc)
  worked_next RenewFence kept none some = absurd (let no : None ≡ Some finished = some in cc)
  worked_next Give kept none some = inr (inr kept)
  worked_next Ended kept none some = absurd (let no : Some finished ≡ None = none in cc)
  worked_next s kept none some = absurd (no_outcome s tt (λ same. cc) some)

-- ---- it decides that it has finished where it gives the guard back: it knows the header then
current_next : (site : Ground) (op : MendOp) (v : View) (words : Words) → ((i x : ℕ) → Has (i, x) v.known → words i ≡ x) → (s : MendStep) (a : Ans) → SuitsStep site op s v
    → outcome_at s ≡ None → outcome_at (next_in op s a).step ≡ Some finished → HasImageVersion site words op.guarded.segment
current_next site op v words knows Give a suits none some =
    let is = suits.0.current in
    ap version_in (knows (header_word site.shape op.guarded.segment) is.head is.header) ∙ is.version
current_next site op v words knows Renew Passed suits none some = absurd (let no : None ≡ Some finished = some in cc)
current_next site op v words knows Renew a suits none some = absurd (let no : None ≡ Some finished = some in cc)
current_next site op v words knows RenewFlush Passed suits none some = absurd (let no : None ≡ Some finished = some in cc)
current_next site op v words knows RenewFlush a suits none some = absurd (let no : None ≡ Some finished = some in cc)
current_next site op v words knows RenewFence Passed suits none some = absurd (let no : None ≡ Some finished = some in cc)
current_next site op v words knows RenewFence a suits none some = absurd (let no : None ≡ Some finished = some in cc)
current_next site op v words knows Ended a suits none some = absurd (let no : Some finished ≡ None = none in cc)
current_next site op v words knows s a suits none some =
    absurd (let no : None ≡ Some finished = sym (early_none (next_in op s a).step (goes_at op s a tt (λ same. cc)).early) ∙ some in cc)

pub finishes_current : FinishesCurrent mend_part segment_of
finishes_current site here call words views j op before v h at s none some =
    current_next site op v words (known_is_so.newest site words views j v h at).knows op.step _ s.stands.view none some

-- ITS OUTCOME HAS ITS CAUSE
pub ends_by_cause : EndsByRepairCause mend_part segment_of
ends_by_cause = record {
  steps = λ site here call words views j op before v did h at s asks small kept. record {
    remembers = remembers_next site here op s.stands.is did _ op.step asks kept;
    caused = λ outcome none some. caused_at site.shape words did call op.guarded.segment (wanted op) _ outcome some;
    worked = λ none some. worked_next site here op s.stands.is did _ op.step kept none some;
    not_own = λ word value none some has. no_busy _ word value some;
  };
  stays = λ op a outcome some. stays_at op op.step a outcome some;
  decided = λ site here call op v s done closed. (finished, (ends_repaired site here call op v s done).0);
  undecided = λ op hands. absurd (let no : false ≡ true = hands in cc);
  same_segment = λ op a. same_segment op op.step a;
}
