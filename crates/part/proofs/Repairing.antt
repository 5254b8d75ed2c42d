-- One part after another ends by the causes of a repair, where each of the two does and both repair the same segment.
use Rattle.std.proofs.Common.{◌≡◌, ◌≢◌, ℕ, ◌^◌, ◌<◌, Bool, true, false, List, None, Some, refl, sym, ◌∙◌}
use Rattle.op_core.specs.declared.want.Want.TheVariants.{Done}
use Rattle.op_core.specs.declared.want.Ans.{Ans}
use Rattle.trace.specs.Events.{Words}
use Rattle.map_model.specs.declared.call.Call.{Call}
use Rattle.world.specs.declared.site.Site.{Site}
use Rattle.world.specs.Ground.{Ground}
use Rattle.world.specs.Views.{View, At}
use Rattle.world.specs.Wants.{answer_to, word_of}
use Rattle.world.specs.Invariant.{Holds}
use Rattle.part.specs.Doings.{Doings, with_event_of}
use Rattle.part.specs.Outcomes.{Outcome}
use Rattle.part.specs.Part.{Part, Suits}
use Rattle.part.specs.Splits.{segment_of_then, KeepsSegment}
use Rattle.part.specs.Repairs.{RepairsByCause, EndsByRepairCause}
use Rattle.part.specs.Then.{Then, first, second, passed, wanted, taken, Stands, outcome, Remembers, hands_on, then_part, Passes}
use Rattle.part.proofs.Thens.{suits_first, suits_second, remembers_on, outcome_on, worked_on}

module _ {A B : Type 0} (a : Part A) (b : Part B) (next : A → B) (of_a : A → ℕ) (of_b : B → ℕ) (passes : Passes a b next) (same : KeepsSegment of_a of_b a next)
    (by_a : EndsByRepairCause a of_a) (by_b : EndsByRepairCause b of_b) where
  abbrev of : Then A B → ℕ
  of m = segment_of_then of_a of_b m

  segment_on : (x : A) (t : Bool) → a.hands_on x ≡ t → of (passed a b next t x) ≡ of_a x
  segment_on x true h = same x h
  segment_on x false h = refl

  steps : (site : Ground) (here : Site) (call : Call) (words : Words) (views : List View) (j : ℕ) (m : Then A B) (before v : View) (did : Doings) → Holds site words views → At views j v
      → Suits (then_part a b next) site here call m before v → wanted a b next m ≢ Done → words (word_of site.shape (wanted a b next m)) < 2 ^ 64
      → Remembers a b next site m did → RepairsByCause (then_part a b next) of site here call words m v did
  steps site here call words views j (first x) before v did h at s asks small r =
      let w = by_a.steps site here call words views j x before v did h at (suits_first a b next site here call x before v s) asks small r in
      let y : A = a.taken x (answer_to (a.wanted x) (words (word_of site.shape (a.wanted x)))) in
      let told : a.outcome y ≡ outcome a b next (passed a b next (a.hands_on y) y) = outcome_on a b next passes by_a.undecided y (a.hands_on y) refl in
      record {
        remembers = remembers_on a b next passes by_a.undecided site y (with_event_of (a.wanted x) (answer_to (a.wanted x) (words (word_of site.shape (a.wanted x)))) did) w.remembers (a.hands_on y) refl;
        caused = λ end none some. w.caused end none (told ∙ some);
        worked = λ none some. worked_on a b next passes by_a.undecided site y (with_event_of (a.wanted x) (answer_to (a.wanted x) (words (word_of site.shape (a.wanted x)))) did) (told ∙ some) (w.worked none (told ∙ some)) (a.hands_on y) refl;
        not_own = λ word value none some. w.not_own word value none (told ∙ some);
      }
  steps site here call words views j (second y) before v did h at s asks small r =
      let w = by_b.steps site here call words views j y before v did h at (suits_second a b next site here call y before v s) asks small r in
      record { remembers = w.remembers; caused = w.caused; worked = w.worked; not_own = w.not_own }

  stays : (m : Then A B) (ans : Ans) (end : Outcome) → outcome a b next m ≡ Some end → outcome a b next (taken a b next m ans) ≡ Some end
  stays (first x) ans end some = sym (outcome_on a b next passes by_a.undecided (a.taken x ans) (a.hands_on (a.taken x ans)) refl) ∙ by_a.stays x ans end some
  stays (second y) ans end some = by_b.stays y ans end some

  decided : (site : Ground) (here : Site) (call : Call) (m : Then A B) (v : View) → Stands a b next site here call m v → wanted a b next m ≡ Done → hands_on a b next m ≡ false
      → (end : Outcome) × (outcome a b next m ≡ Some end)
  decided site here call (first x) v s done closed = by_a.decided site here call x v s.stands done s.closed
  decided site here call (second y) v s done closed = by_b.decided site here call y v s done closed

  undecided : (m : Then A B) → hands_on a b next m ≡ true → outcome a b next m ≡ None
  undecided (first x) h = absurd (let z : false ≡ true = h in cc)
  undecided (second y) h = by_b.undecided y h

  same_segment : (m : Then A B) (ans : Ans) → of (taken a b next m ans) ≡ of m
  same_segment (first x) ans = segment_on (a.taken x ans) (a.hands_on (a.taken x ans)) refl ∙ by_a.same_segment x ans
  same_segment (second y) ans = by_b.same_segment y ans

  pub then_ends_by_repair_cause : EndsByRepairCause (then_part a b next) of
  then_ends_by_repair_cause = record { steps = steps; stays = stays; decided = decided; undecided = undecided; same_segment = same_segment }
