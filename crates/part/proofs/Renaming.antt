-- A part under other names is a part, with the same causes.
use Rattle.std.proofs.Common.{◌≡◌, ◌≢◌, ℕ, ◌+◌, ◌^◌, ◌<◌, ◌≤◌, ◌⊎◌, true, false, List, Some, sym, ap, ◌∙◌, subst}
use Rattle.op_core.specs.declared.want.Want.TheVariants.{Done}
use Rattle.trace.specs.Events.{Words}
use Rattle.map_model.specs.declared.call.Call.{Call}
use Rattle.world.specs.declared.site.Site.{Site}
use Rattle.world.specs.Ground.{Ground}
use Rattle.world.specs.Views.{View, At}
use Rattle.world.specs.Wants.{answer_to}
use Rattle.world.specs.Invariant.{Holds}
use Rattle.world.specs.Attempts.{EntersReply}
use Rattle.part.specs.Doings.{Doings, with_event_of}
use Rattle.part.specs.Outcomes.{reply_of}
use Rattle.part.specs.Part.{Part, Suits, finds, next, next_view, KeepsSuits, IsPart}
use Rattle.part.specs.Causes.{StepsByCause, EndsByCause}
use Rattle.part.specs.Renamed.{renamed_part, IsNamed}

module _ {A B : Type 0} (p : Part A) (to : B → A) (from : A → B) (named : IsNamed p to from) where
  abbrev q : Part B
  q = renamed_part p to from

  suits : (site : Ground) (here : Site) (call : Call) (m : B) (before v : View) → Suits q site here call m before v → Suits p site here call (to m) before v
  suits site here call m before v s = record { stands = s.stands; enters = s.enters; callers = s.callers }

  -- what holds of a state holds of the one that its name stands for
  at : (P : A → Type 0) (x : A) → P x → P (to (from x))
  at P x holds = subst P (sym (named x)) holds

  -- a state waits, and so does the one after it, with as many events left
  abbrev GoesOnWaiting : A → A → Type 0
  GoesOnWaiting x after = (p.is_waiting x ≡ true) × (p.is_waiting after ≡ true) × (p.left after ≡ p.left x) × (p.hands_on after ≡ false)

  module _ (is : IsPart p) where
    steps : KeepsSuits q
    steps site here call words views j m before v h seat s asks =
        let w = is.steps site here call words views j (to m) before v h seat (suits site here call m before v s) asks in
        let after : A = next p site words (to m) in
        let now : View = next_view p site words (to m) v in
        record {
          wants = w.wants;
          may = w.may;
          stands = λ small. at (λ x. p.Stands site here call x now) after (w.stands small);
          enters = λ small. at (λ x. EntersReply call (reply_of (p.outcome x)) before now) after (w.enters small);
          makes = λ change. let made = w.makes change in (made.0, at p.HasMade after made.1);
        }

    pub renamed_is_part : IsPart q
    renamed_is_part = record {
      steps = steps;
      ends = λ site here call m v s done closed on. is.ends site here call (to m) v s done closed on;
      time = record {
        falls = λ m ans answer. at (λ x. (p.left x < p.left (to m)) ⊎ GoesOnWaiting (to m) x) (p.taken (to m) ans) (is.time.falls (to m) ans answer);
        most = λ m. is.time.most (to m);
      };
      within = λ site here call m before v good s. is.within site here call (to m) before v good (suits site here call m before v s);
      words = λ site here call m before v s. is.words site here call (to m) before v (suits site here call m before v s);
      flushes = record {
        most = λ m. is.flushes.most (to m);
        flushes = λ m ans l answer flush. at (λ x. p.waiting (to m) + 1 ≤ p.waiting x) (p.taken (to m) ans) (is.flushes.flushes (to m) ans l answer flush);
        keeps = λ m ans answer other. at (λ x. p.waiting (to m) ≤ p.waiting x) (p.taken (to m) ans) (is.flushes.keeps (to m) ans answer other);
        ends = λ m done. is.flushes.ends (to m) done;
      };
      made = record {
        stays = λ m ans answer made. at p.HasMade (p.taken (to m) ans) (is.made.stays (to m) ans answer made);
        done = λ m made done. is.made.done (to m) made done;
      };
      plans = λ site here call m before v planned s. is.plans site here call (to m) before v planned (suits site here call m before v s);
      relies = λ site here call m v s. is.relies site here call (to m) v s;
      hands = λ m h. is.hands (to m) h;
      power = λ m n. is.power (to m) n;
    }

  module _ (by : EndsByCause p) where
    caused : (site : Ground) (here : Site) (call : Call) (words : Words) (views : List View) (j : ℕ) (m : B) (before v : View) (did : Doings) → Holds site words views → At views j v
        → Suits q site here call m before v → q.wanted m ≢ Done → finds q site words m < 2 ^ 64 → q.Remembers site m did → StepsByCause q site here call words m v did
    caused site here call words views j m before v did h seat s asks small r =
        let w = by.steps site here call words views j (to m) before v did h seat (suits site here call m before v s) asks small r in
        let after : A = next p site words (to m) in
        let same : p.outcome after ≡ p.outcome (to (from after)) = ap p.outcome (sym (named after)) in
        let doings : Doings = with_event_of (p.wanted (to m)) (answer_to (p.wanted (to m)) (finds p site words (to m))) did in
        record {
          remembers = at (λ x. p.Remembers site x doings) after w.remembers;
          caused = λ end none some. w.caused end none (same ∙ some);
          worked = λ none some. at (λ x. p.HasWorked site x doings) after (w.worked none (same ∙ some));
          not_own = λ word value none some. w.not_own word value none (same ∙ some);
        }

    pub renamed_ends_by_cause : EndsByCause q
    renamed_ends_by_cause = record {
      steps = caused;
      stays = λ m ans end some. at (λ x. p.outcome x ≡ Some end) (p.taken (to m) ans) (by.stays (to m) ans end some);
      decided = λ site here call m v s done closed. by.decided site here call (to m) v s done closed;
      undecided = λ m h. by.undecided (to m) h;
    }
