-- Two counts, one after another, are a part, and end by cause; and three end as the parts of a repair do.
use Rattle.std.proofs.Common.{◌≡◌, ◌≢◌, ◌==◌, ℕ, Bool, true, false, inl, inr, ◌⊎◌, Some, [], refl, sym, ◌∙◌, subst}
use Rattle.std.specs.Prelude.{if◌then◌else◌}
use Rattle.std.proofs.lemmas.Bool.{eq-eqb}
use Rattle.std.proofs.lemmas.Option.{none-some, same_Some}
use Rattle.op_core.specs.declared.want.Want.{Want}
use Rattle.op_core.specs.declared.want.Want.TheVariants as want
use Rattle.op_core.specs.declared.want.Ans.{Ans}
use Rattle.op_core.specs.declared.want.Ans.TheVariants.{Value}
use Rattle.trace.specs.Events.{Words}
use Rattle.image_layout.specs.Places.{Shape}
use Rattle.image_layout.specs.Volatile.{power_word}
use Rattle.map_model.specs.declared.call.Call.{Call}
use Rattle.world.specs.declared.site.Site.{Site}
use Rattle.world.specs.Ground.{Ground}
use Rattle.world.specs.Views.{HasLock}
use Rattle.world.specs.Wants.{answer_to, word_of}
use Rattle.part.specs.declared.count.CountEnd.TheVariants.{Counted, Off}
use Rattle.part.specs.declared.count.CountStep.{CountStep}
use Rattle.part.specs.declared.count.CountStep.TheVariants.{AskPower, LoadCounter, Ended}
use Rattle.part.specs.declared.count.CountOp.{CountOp}
use Rattle.part.specs.Doings.{Doings, with_event_of}
use Rattle.part.specs.Outcomes.{Outcome, off, finished}
use Rattle.part.specs.Part.{Part, IsPart, next}
use Rattle.part.specs.Causes.{HasCause, EndsByCause}
use Rattle.part.specs.Splits.{segment_of_then}
use Rattle.part.specs.Repairs.{HasRepairCause, EndsByRepairCause}
use Rattle.part.specs.Then.{Then, first, Passes}
use Rattle.part.specs.Count.{wanted_in, taken, outcome_of, outcome_in, first_outcome, EndsAsRepair, ThreeEndAsRepair, HasCounted, BeginsAsPart, BeginsRemembering, BeginsUndecided, count_part, first_count, begun_again, two_counts, one_or_two, two_or_one, two_or_one_counts}
use Rattle.part.specs.Either.{one, other, either_part}
use Rattle.part.specs.Renamed.{IsNamed}
use Rattle.part.proofs.Eithers.{either_is_part, either_ends_by_cause}
use Rattle.part.proofs.Renaming.{renamed_is_part, renamed_ends_by_cause}
use Rattle.part.proofs.Repairing.{then_ends_by_repair_cause}
use Rattle.part.proofs.Thens.{then_is_part, then_ends_by_cause}

-- ---- one count
module _ (site : Ground) (here : Site) (call : Call) (words : Words) (did : Doings) where
  abbrev Caused : Want → Outcome → Type 0
  Caused event end = HasCause site.shape words did call event here end

  -- the power word is 0, or the count ends with the power off
  asked : (b : Bool) → (words (power_word site.shape) == 0) ≡ b → (end : Outcome) → outcome_in (if b then LoadCounter else Ended Off) ≡ Some end → Caused want.Power end
  asked true is end some = absurd (none-some end some)
  asked false is end some = subst (λ e. Caused want.Power e) (same_Some off end some) (refl, λ zero. absurd (let both = sym (eq-eqb (words (power_word site.shape)) 0 zero) ∙ is in cc))

  -- a count that has counted has loaded the counter
  abbrev Worked : Shape → CountStep → CountOp → Type 0
  Worked shape now next = HasCounted next.site.geometry next.step (with_event_of (wanted_in shape now) (answer_to (wanted_in shape now) (words (word_of site.shape (wanted_in shape now)))) did)

  asked_works : (op : CountOp) (b : Bool) → outcome_in (if b then LoadCounter else Ended Off) ≡ Some finished → Worked op.site.geometry AskPower (record op { step = if b then LoadCounter else Ended Off })
  asked_works op true some = absurd (none-some finished some)
  asked_works op false some = absurd (let same : off ≡ finished = same_Some off finished some in cc)

  works : (op : CountOp) (s : CountStep) → wanted_in op.site.geometry s ≢ want.Done
      → outcome_in (taken (record op { step = s }) (answer_to (wanted_in op.site.geometry s) (words (word_of site.shape (wanted_in op.site.geometry s))))).step ≡ Some finished
      → Worked op.site.geometry s (taken (record op { step = s }) (answer_to (wanted_in op.site.geometry s) (words (word_of site.shape (wanted_in op.site.geometry s)))))
  works op AskPower asks some = asked_works op (words (power_word site.shape) == 0) some
  works op LoadCounter asks some = inl refl
  works op (Ended e) asks some = absurd (asks refl)

  by_step : (op : CountOp) (s : CountStep) → wanted_in op.site.geometry s ≢ want.Done → (end : Outcome)
      → outcome_in (taken (record op { step = s }) (answer_to (wanted_in op.site.geometry s) (words (word_of site.shape (wanted_in op.site.geometry s))))).step ≡ Some end
      → Caused (wanted_in op.site.geometry s) end
  by_step op AskPower asks end some = asked (words (power_word site.shape) == 0) refl end some
  by_step op LoadCounter asks end some = subst (λ e. Caused (wanted_in op.site.geometry LoadCounter) e) (same_Some finished end some) tt
  by_step op (Ended e) asks end some = absurd (asks refl)

  -- it changes nothing
  changes : (shape : Shape) (s : CountStep) (n : ℕ) → did.changed ≡ [] → (with_event_of (wanted_in shape s) (answer_to (wanted_in shape s) n) did).changed ≡ []
  changes shape AskPower n none = none
  changes shape LoadCounter n none = none
  changes shape (Ended e) n none = none

stays : (op : CountOp) (s : CountStep) (a : Ans) (end : Outcome) → outcome_in s ≡ Some end → outcome_in (taken (record op { step = s }) a).step ≡ Some end
stays op AskPower a end some = absurd (none-some end some)
stays op LoadCounter a end some = absurd (none-some end some)
stays op (Ended e) (Value n) end some = some
stays op (Ended e) a end some = some

ended : (shape : Shape) (s : CountStep) → wanted_in shape s ≡ want.Done → (end : Outcome) × (outcome_in s ≡ Some end)
ended shape AskPower done = absurd (let z = done in cc)
ended shape LoadCounter done = absurd (let z = done in cc)
ended shape (Ended e) done = (outcome_of e, refl)

pub ends_by_cause : EndsByCause count_part
ends_by_cause = record {
  steps = λ site here call words views j op before v did h at s asks small r. record {
    remembers = changes site here call words did op.site.geometry op.step (words (word_of site.shape (wanted_in op.site.geometry op.step))) r;
    caused = λ end none some. by_step site here call words did op op.step asks end some;
    worked = λ none some. works site here call words did op op.step asks some;
    not_own = λ word value none some has. (let none : HasLock [] word = subst (λ locks. HasLock locks word) s.stands.nothing.held has in none.1);
  };
  stays = λ op a end some. stays op op.step a end some;
  decided = λ site here call op v s done closed. ended op.site.geometry op.step done;
  undecided = λ op h. absurd (let z : false ≡ true = h in cc);
}

-- ---- where a count begins
pub begins_as_part : BeginsAsPart
begins_as_part site here call v same nothing = record { at = refl; shape = same; nothing = nothing }

pub begins_remembering : BeginsRemembering
begins_remembering site here = refl

pub begins_undecided : BeginsUndecided
begins_undecided here = refl

-- ---- two counts
passes : Passes first_count count_part begun_again
passes = record {
  stands = λ site here call op v good s h. record { at = s.at; shape = s.shape; nothing = s.nothing };
  undecided = λ op h. refl;
  remembers = λ site op did h r. r;
}

pub two_are_a_part : IsPart first_count → EndsByCause first_count → IsPart count_part → IsPart two_counts
two_are_a_part before causes after = then_is_part first_count count_part begun_again before causes.undecided after passes

pub two_end_by_cause : EndsByCause first_count → EndsByCause count_part → EndsByCause two_counts
two_end_by_cause before after = then_ends_by_cause first_count count_part begun_again passes before after

-- ---- two counts or one
each_named : IsNamed (either_part count_part two_counts) one_or_two two_or_one
each_named (one op) = refl
each_named (other counts) = refl

pub two_or_one_are_a_part : IsPart count_part → IsPart two_counts → IsPart two_or_one_counts
two_or_one_are_a_part count counts = renamed_is_part (either_part count_part two_counts) one_or_two two_or_one each_named (either_is_part count_part two_counts count counts)

pub two_or_one_end_by_cause : EndsByCause count_part → EndsByCause two_counts → EndsByCause two_or_one_counts
two_or_one_end_by_cause count counts = renamed_ends_by_cause (either_part count_part two_counts) one_or_two two_or_one each_named (either_ends_by_cause count_part two_counts count counts)

-- ---- three counts, as the parts of a repair
-- a part that finds the power off, or finishes, and ends otherwise never
module _ (p : Part CountOp) (causes : EndsByCause p) (few : (op : CountOp) (end : Outcome) → p.outcome op ≡ Some end → (end ≡ off) ⊎ (end ≡ finished)) (segment : ℕ) where
  by_few : (shape : Shape) (words : Words) (did : Doings) (call : Call) (event : Want) (here : Site) (end : Outcome) → (end ≡ off) ⊎ (end ≡ finished) → HasCause shape words did call event here end
      → HasRepairCause shape words did call segment event end
  by_few shape words did call event here end (inl is) c = subst (λ e. HasRepairCause shape words did call segment event e) (sym is) (subst (λ e. HasCause shape words did call event here e) is c)
  by_few shape words did call event here end (inr is) c = subst (λ e. HasRepairCause shape words did call segment event e) (sym is) tt

  ends_as_repair : EndsByRepairCause p (λ op. segment)
  ends_as_repair = record {
    steps = λ site here call words views j op before v did h at s asks small r.
        let w = causes.steps site here call words views j op before v did h at s asks small r in
        record {
          remembers = w.remembers;
          caused = λ end none some. by_few site.shape words did call (p.wanted op) here end (few (next p site words op) end some) (w.caused end none some);
          worked = w.worked;
          not_own = w.not_own;
        };
    stays = causes.stays;
    decided = causes.decided;
    undecided = causes.undecided;
    same_segment = λ op a. refl;
  }

count_few : (op : CountOp) (s : CountStep) (end : Outcome) → outcome_in s ≡ Some end → (end ≡ off) ⊎ (end ≡ finished)
count_few op AskPower end some = absurd (none-some end some)
count_few op LoadCounter end some = absurd (none-some end some)
count_few op (Ended (Counted n)) end some = inr (sym (same_Some finished end some))
count_few op (Ended Off) end some = inl (sym (same_Some off end some))

first_few : (op : CountOp) (s : CountStep) (end : Outcome) → first_outcome s ≡ Some end → (end ≡ off) ⊎ (end ≡ finished)
first_few op AskPower end some = absurd (none-some end some)
first_few op LoadCounter end some = absurd (none-some end some)
first_few op (Ended (Counted n)) end some = absurd (none-some end some)
first_few op (Ended Off) end some = inl (sym (same_Some off end some))

pub count_ends_as_repair : EndsByCause count_part → EndsAsRepair count_part
count_ends_as_repair causes segment = ends_as_repair count_part causes (λ op end some. count_few op op.step end some) segment

pub first_ends_as_repair : EndsByCause first_count → EndsAsRepair first_count
first_ends_as_repair causes segment = ends_as_repair first_count causes (λ op end some. first_few op op.step end some) segment

three_pass : Passes first_count two_counts (λ op. first (begun_again op))
three_pass = record {
  stands = λ site here call op v good s h. record { stands = record { at = s.at; shape = s.shape; nothing = s.nothing }; closed = refl };
  undecided = λ op h. refl;
  remembers = λ site op did h r. r;
}

pub three_end_as_repair : EndsAsRepair first_count → EndsAsRepair count_part → ThreeEndAsRepair
three_end_as_repair before after segment =
    let of_count : CountOp → ℕ = λ op. segment in
    let of_two : Then CountOp CountOp → ℕ = λ m. segment_of_then of_count of_count m in
    let two : EndsByRepairCause two_counts of_two = then_ends_by_repair_cause first_count count_part begun_again of_count of_count passes (λ op h. refl) (before segment) (after segment) in
    then_ends_by_repair_cause first_count two_counts (λ op. first (begun_again op)) of_count of_two three_pass (λ op h. refl) (before segment) two
