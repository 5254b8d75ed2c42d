-- How many events a caller has left that goes on while all others stand where they are: of an attempt that began before it went on, of the next one, and
-- from then on of its calls.
use Rattle.std.proofs.Common.{◌≡◌, ◌≢◌, ℕ, zero, suc, ◌+◌, ◌-◌, ◌*◌, ◌<◌, ◌≤◌, ◌⊎◌, inl, inr, true, false, Option, Some, None, List, [], ◌∷◌, ◌++◌, length, slice_get, refl, sym, ◌∙◌, ap, subst, arith}
use Rattle.std.specs.Prelude.{◌&&◌}
use Rattle.std.proofs.lemmas.Option.{none-some, same_Some, slice_get_within}
use Rattle.std.proofs.lemmas.Bool.{or_parts}
use Rattle.image_layout.specs.Places.{Shape}
use Rattle.op_core.specs.declared.want.Want.{Want}
use Rattle.op_core.specs.declared.want.Want.TheVariants as want
use Rattle.op_core.specs.declared.want.Ans.{Ans}
use Rattle.map_model.specs.declared.call.Call.{Call}
use Rattle.map_model.specs.declared.change.Change.{Change}
use Rattle.map_model.specs.declared.entry.Reply.{Reply}
use Rattle.map_model.specs.declared.entry.Entry.{Entry}
use Rattle.map_model.specs.Changes.{change_of}
use Rattle.world.specs.declared.site.Site.{Site}
use Rattle.part.specs.Doings.{nothing_done, IsStill}
use Rattle.part.specs.Outcomes.{Outcome, replied, again, stale, need_split, off, finished}
use Rattle.part.specs.Part.{Part}
use Rattle.part.specs.Then.{first, second}
use Rattle.part.specs.Either.{Either, one, other, either_part}
use Rattle.part.proofs.Still.{nothing_still}
use Rattle.engine.specs.declared.engine.Op.{Op}
use Rattle.engine.specs.declared.engine.Op.TheVariants.{Read, Write, Move, Stash, Release, Enclose, Split, Publish, Rest, Repair, Redirect, Mend}
use Rattle.engine.specs.declared.engine.Engine.{Engine}
use Rattle.engine.specs.Engine.{begun, wanted, end_of, outcome_of_end, reply_of_end, is_again, anew_by, anew}
use Rattle.engine.specs.OpPart.{SplitState, RepairState, named, whole_split, whole_repair, op_part, calls as of_calls, work_of}
use Rattle.engine.specs.Left.{left_alone, most_alone, events_left, events_of_call}
use Rattle.engine.specs.Core.{Caller, call_at, Core, current, engine_for, entry_of, with_entry, drawn_by, ended, ended_or_on, answered, with_event}
use Rattle.engine.specs.Laws.{AreScripts}
use Rattle.engine.specs.Causes.{Watched, answer_now, engine_next, watched_turn}
use Rattle.engine.specs.Alone.{IsDue, StandsDue, IsNext, at_start, along}
use Rattle.engine.specs.Driven.{waits_now}
use Rattle.engine.proofs.Places.{one_more}
use Rattle.engine.proofs.attempts.Doing.{one_more_turn}
use Rattle.core_run.specs.declared.keeper.Keeper.TheVariants.{Open}
use Rattle.core_run.specs.declared.goal.Goal.{Goal}
use Rattle.core_run.specs.declared.goal.Goal.TheVariants.{AnyEvent, Kind, StoreTo, Turn}
use Rattle.core_run.specs.State.{State, Deed, end_by, engine_deed, call_deed, caller_deed, open_deed}
use Rattle.core_run.specs.Run.{ends_in_again, pauses, stops}
use Rattle.core_run.specs.Running.{Setup, IsSetup}
use Rattle.core_run.proofs.ends.Working.{EngineLaws, less_of_attempt, less_before, next_attempt, call_anew, call_after, next_call_low, later_within, due_within, less_within, same_within}
use Rattle.core_run.proofs.ends.Staying.{set_here, turn_is, deed_is}
use Rattle.core_run.proofs.ends.Stopping.{StopsIn, none_stops}

-- ---- a split or a repair goes on as one
named_works : (m : Either SplitState RepairState) → work_of (named (other m)) ≢ of_calls
named_works (one (first op)) q = cc
named_works (one (second (first op))) q = cc
named_works (one (second (second (first op)))) q = cc
named_works (one (second (second (second op)))) q = cc
named_works (other (first op)) q = cc
named_works (other (second (first op))) q = cc
named_works (other (second (second op))) q = cc

abbrev beside : Part (Either SplitState RepairState)
beside = either_part whole_split whole_repair

pub works_on : (op : Op) (a : Ans) → work_of op ≢ of_calls → work_of (op_part.taken op a) ≢ of_calls
works_on (Read op) a some = absurd (some refl)
works_on (Write op) a some = absurd (some refl)
works_on (Move op) a some = absurd (some refl)
works_on (Stash op) a some = absurd (some refl)
works_on (Release op) a some = absurd (some refl)
works_on (Enclose op) a some = named_works (beside.taken (one (first op)) a)
works_on (Split op) a some = named_works (beside.taken (one (second (first op))) a)
works_on (Publish op) a some = named_works (beside.taken (one (second (second (first op)))) a)
works_on (Rest op) a some = named_works (beside.taken (one (second (second (second op)))) a)
works_on (Repair op) a some = named_works (beside.taken (other (first op)) a)
works_on (Redirect op) a some = named_works (beside.taken (other (second (first op))) a)
works_on (Mend op) a some = named_works (beside.taken (other (second (second op))) a)

-- the next attempt of a call is one of the call, or a split or a repair
anew_is : (here : Site) (call : Call) (change : Option Change) (outcome : Option Outcome)
    → (anew_by here call change outcome ≡ begun here call) ⊎ (work_of (anew_by here call change outcome).op ≢ of_calls)
anew_is here call None None = inl refl
anew_is here call (Some change) None = inl refl
anew_is here call None (Some (stale segment version)) = inr (λ q. cc)
anew_is here call (Some change) (Some (stale segment version)) = inr (λ q. cc)
anew_is here call None (Some (need_split segment)) = inl refl
anew_is here call (Some change) (Some (need_split segment)) = inr (λ q. cc)
anew_is here call None (Some (replied reply place)) = inl refl
anew_is here call (Some change) (Some (replied reply place)) = inl refl
anew_is here call None (Some (again why)) = inl refl
anew_is here call (Some change) (Some (again why)) = inl refl
anew_is here call None (Some off) = inl refl
anew_is here call (Some change) (Some off) = inl refl
anew_is here call None (Some finished) = inl refl
anew_is here call (Some change) (Some finished) = inl refl

-- ---- how far a caller is
-- so many calls come after the one that runs
abbrev pub later : Caller → ℕ
later c = length c.calls - suc (length c.entries)

-- of a caller at place j with this engine, and so many calls after the one that runs, at most n events are left: its attempt began before the caller
-- went on; or since, and it splits or repairs a segment; or what it does is due
pub data IsPhase (shape : Shape) (w : Watched) (j more : ℕ) (e : Engine) (n : ℕ) : Type 0 where
  before : left_alone e + (most_alone + 1) + events_of_call shape * (more + 1) ≤ n → IsPhase shape w j more e n
  began : work_of e.op ≢ of_calls → left_alone e + events_of_call shape * (more + 1) ≤ n → IsPhase shape w j more e n
  due : IsStill shape w.core.words (w.doings j) → StandsDue shape j w → events_left shape w.core.words e + events_of_call shape * more ≤ n → IsPhase shape w j more e n

pub record GoesOn (shape : Shape) (w : Watched) (j n : ℕ) : Type 0 where
  pub engine : Engine
  pub next : IsNext w j engine
  pub phase : IsPhase shape w j (later next.caller) engine n

-- behind an event it has no event left, or fewer
abbrev HasLess : Shape → Watched → ℕ → ℕ → Type 0
HasLess shape w j n = (open_deed shape j Open w.core ≡ None) ⊎ ((m : ℕ) × (m < n) × GoesOn shape w j m)

-- a caller without an engine has none
no_engine : (shape : Shape) (core : Core) (j : ℕ) (c : Caller) → slice_get core.callers j ≡ Some c → c.engine ≡ None → open_deed shape j Open core ≡ None
no_engine shape core j c there none =
    ap (λ o. caller_deed shape j core o) there ∙ ap (λ o. call_deed shape j core c (current c) o) none ∙ by (current c)
  where
    by : (o : Option Call) → call_deed shape j core c o None ≡ None
    by None = refl
    by (Some call) = refl

-- who does not pause does not wait
goes_past : (shape : Shape) (goal : Goal) (j : ℕ) (core : Core) (c : Caller) (call : Call) (e : Engine) → pauses goal (engine_deed shape j core c call e) ≡ false
    → waits_now shape core.words e ≡ false
goes_past shape Turn j core c call e on = on
goes_past shape AnyEvent j core c call e on = ap (λ b. b && op_part.is_waiting (engine_next shape core.words e).op) on
goes_past shape (Kind k) j core c call e on = ap (λ b. b && op_part.is_waiting (engine_next shape core.words e).op) on
goes_past shape (StoreTo word) j core c call e on = ap (λ b. b && op_part.is_waiting (engine_next shape core.words e).op) on

-- ---- one event of it
module _ (laws : EngineLaws) (t : Setup) (is : IsSetup t) (turns : List ℕ) (j n : ℕ) (e : Engine) (goal : Goal) where
  abbrev w : Watched
  w = along t.shape t.first t.scripts turns

  abbrev after : Watched
  after = watched_turn t.shape (suc j) w

  abbrev next : Engine
  next = engine_next t.shape w.core.words e

  abbrev of_call : ℕ
  of_call = events_of_call t.shape

  scripts_are : AreScripts t.scripts
  scripts_are = record { few = is.few; words = is.words }

  module _ (at : IsNext w j e) (phase : IsPhase t.shape w j (later at.caller) e n) (on : stops goal (engine_deed t.shape j w.core at.caller at.call e) ≡ false) where
    abbrev c : Caller
    c = at.caller

    abbrev call : Call
    call = at.call

    abbrev had : Caller
    had = record c { drew = drawn_by c call (answer_now t.shape w.core.words e) }

    goes : waits_now t.shape w.core.words e ≡ false
    goes = goes_past t.shape goal j w.core c call e (or_parts _ _ on).1

    fewer_alone : left_alone next < left_alone e
    fewer_alone = laws.goes t.shape t.first is.served t.scripts scripts_are turns j e at goes

    -- it does not end in Again
    calm : wanted next ≡ want.Done → is_again (end_of next) ≡ false
    calm done = ap (λ x. ends_in_again (end_by t.shape next x)) (sym done) ∙ (or_parts _ _ on).0

    -- where it ends the attempt has done nothing behind it
    rested : wanted next ≡ want.Done → (x : Caller) (g : Engine) → slice_get after.core.callers j ≡ Some x → x.engine ≡ Some g → after.doings j ≡ nothing_done
    rested done x g there runs = elim (laws.ended t.shape w j e at done x there) [
      | inl none ↦ absurd (none-some g (sym none ∙ runs))
      | inr has ↦ has.3
    ]

    -- what has just begun is still so, and due
    begun_still : wanted next ≡ want.Done → (x : Caller) (g : Engine) → slice_get after.core.callers j ≡ Some x → x.engine ≡ Some g → IsStill t.shape after.core.words (after.doings j)
    begun_still done x g there runs = subst (λ did. IsStill t.shape after.core.words did) (sym (rested done x g there runs)) (nothing_still t.shape after.core.words)

    begun_due : (x : Caller) (y : Call) (g : Engine) → slice_get after.core.callers j ≡ Some x → current x ≡ Some y → x.engine ≡ Some g → g ≡ begun x.site y → StandsDue t.shape j after
    begun_due x y g there now runs fresh x' y' g' there' now' runs' =
        let same : x ≡ x' = same_Some x x' (sym there ∙ there') in
        let calls_same : y ≡ y' = same_Some y y' (sym now ∙ ap (λ (z : Caller). current z) same ∙ now') in
        let engines_same : g ≡ g' = same_Some g g' (sym runs ∙ ap (λ (z : Caller). z.engine) same ∙ runs') in
        subst (λ (z : Engine). IsDue t.shape after.core.words y' z.op) (sym fresh ∙ engines_same)
        (subst (λ z. IsDue t.shape after.core.words z (begun x.site y).op) calls_same (laws.begins t.shape after.core.words x.site y))

    -- of the calls that come later there is room for all events
    later_low : of_call * later c ≤ n
    later_low = by phase
      where
        by : IsPhase t.shape w j (later c) e n → of_call * later c ≤ n
        by (before few) = later_within of_call (later c) (left_alone e + (most_alone + 1)) n few
        by (began some few) = later_within of_call (later c) (left_alone e) n few
        by (due still is_due few) = due_within of_call (later c) (events_left t.shape w.core.words e) n few

    -- ---- the attempt goes on
    on_less : slice_get after.core.callers j ≡ Some (record had { engine = Some next; begun = true }) → wanted next ≢ want.Done → HasLess t.shape after j n
    on_less there some = inr (by phase)
      where
        stands : IsNext after j next
        stands = record { caller = record had { engine = Some next; begun = true }; there = there; call = call; calls = at.calls; runs = refl }

        by : IsPhase t.shape w j (later c) e n → (m : ℕ) × (m < n) × GoesOn t.shape after j m
        by (before few) =
            let less = less_of_attempt of_call (later c) most_alone (left_alone next) (left_alone e) fewer_alone in (
              left_alone next + (most_alone + 1) + of_call * (later c + 1),
              less_within _ _ n less few,
              record { engine = next; next = stands; phase = before (same_within _) },
            )
        by (began other_work few) =
            let less = less_before of_call (later c + 1) (left_alone next) (left_alone e) fewer_alone in (
              left_alone next + of_call * (later c + 1),
              less_within _ _ n less few,
              record { engine = next; next = stands; phase = began (works_on e.op (answer_now t.shape w.core.words e) other_work) (same_within _) },
            )
        by (due still is_due few) =
            let fewer = (laws.fewer t.shape t.first is.served t.scripts scripts_are turns j e is_due at goes calm).goes_on some in
            let less = less_before of_call (later c) (events_left t.shape after.core.words next) (events_left t.shape w.core.words e) fewer in (
              events_left t.shape after.core.words next + of_call * later c,
              less_within _ _ n less few,
              record {
                engine = next;
                next = stands;
                phase = due (laws.still t.shape w j still) (laws.due t.shape t.first is.served t.scripts scripts_are turns j is_due) (same_within _);
              },
            )

    -- ---- the attempt ends without a reply
    abbrev again_on : Engine
    again_on = anew c.site call (end_of next)

    abbrev goes_anew : Caller
    goes_anew = record had { engine = Some again_on; begun = true; drew = None }

    module _ (done : wanted next ≡ want.Done) (there : slice_get after.core.callers j ≡ Some goes_anew) where
      abbrev anew_next : IsNext after j again_on
      anew_next = record { caller = goes_anew; there = there; call = call; calls = at.calls; runs = refl }

      -- with the call itself
      call_begins : again_on ≡ begun c.site call → events_left t.shape after.core.words again_on + of_call * later c < n → (m : ℕ) × (m < n) × GoesOn t.shape after j m
      call_begins fresh less = (
        events_left t.shape after.core.words again_on + of_call * later c,
        less,
        record {
          engine = again_on;
          next = anew_next;
          phase = due (begun_still done goes_anew again_on there refl) (begun_due goes_anew call again_on there at.calls refl fresh) (same_within _);
        },
      )

      anew_less : reply_of_end (end_of next) ≡ None → HasLess t.shape after j n
      anew_less silent = inr (by phase)
        where
          few_left : events_left t.shape after.core.words again_on < of_call
          few_left = laws.few t.shape after.core.words again_on

          by : IsPhase t.shape w j (later c) e n → (m : ℕ) × (m < n) × GoesOn t.shape after j m
          by (before few) = elim (anew_is c.site call (change_of call) (outcome_of_end (end_of next))) [
            | inl fresh ↦
                let less = call_after of_call (later c) most_alone (events_left t.shape after.core.words again_on) (left_alone e) few_left in
                call_begins fresh (less_within _ _ n less few)
            | inr other_work ↦
                let less = next_attempt of_call (later c) most_alone (left_alone again_on) (left_alone e) (laws.short again_on) in (
                  left_alone again_on + of_call * (later c + 1),
                  less_within _ _ n less few,
                  record { engine = again_on; next = anew_next; phase = began other_work (same_within _) },
                )
          ]
          by (began other_work few) =
              let less = call_anew of_call (later c) (events_left t.shape after.core.words again_on) (left_alone e) few_left in
              call_begins (laws.anew t.shape t.first is.served t.scripts scripts_are turns j e at done other_work silent (calm done)) (less_within _ _ n less few)
          by (due still is_due few) =
              let fewer = (laws.fewer t.shape t.first is.served t.scripts scripts_are turns j e is_due at goes calm).anew c call at.there at.calls done silent in
              let less = less_before of_call (later c) (events_left t.shape after.core.words again_on) (events_left t.shape w.core.words e) fewer in (
                events_left t.shape after.core.words again_on + of_call * later c,
                less_within _ _ n less few,
                record {
                  engine = again_on;
                  next = anew_next;
                  phase = due (laws.still t.shape w j still) (laws.due t.shape t.first is.served t.scripts scripts_are turns j is_due) (same_within _);
                },
              )

    -- ---- the call ends
    module _ (done : wanted next ≡ want.Done) (r : Reply × ℕ) where
      abbrev entry : Entry
      entry = entry_of had call r.0 r.1

      abbrev told : Caller
      told = with_entry had entry

      -- one entry more
      count : length told.entries ≡ suc (length c.entries)
      count = one_more c.entries entry

      module _ (there : slice_get after.core.callers j ≡ Some told) where
        by_call : (o : Option Call) → call_at had (suc (length c.entries)) ≡ o → HasLess t.shape after j n
        by_call None none = inl (no_engine t.shape after.core j told there (ap (λ x. engine_for c.site x) none))
        by_call (Some y) now =
            let runs : told.engine ≡ Some (begun c.site y) = ap (λ x. engine_for c.site x) now in
            let calls : current told ≡ Some y = ap (λ k. slice_get c.calls k) count ∙ now in
            let within = slice_get_within c.calls (suc (length c.entries)) y now in
            let one_entry = count in
            let fewer : later c ≡ suc (later told) = omega (arith, within, one_entry) in
            let few_left = laws.few t.shape after.core.words (begun c.site y) in
            inr (
              events_left t.shape after.core.words (begun c.site y) + of_call * later told,
              next_call_low of_call (later c) (later told) (events_left t.shape after.core.words (begun c.site y)) n few_left fewer later_low,
              record {
                engine = begun c.site y;
                next = record { caller = told; there = there; call = y; calls = calls; runs = runs };
                phase = due (begun_still done told (begun c.site y) there runs) (begun_due told y (begun c.site y) there calls runs refl) (same_within _);
              },
            )

        reply_less : HasLess t.shape after j n
        reply_less = by_call (call_at had (suc (length c.entries))) refl

    -- ---- so each event
    ends_less : wanted next ≡ want.Done → (o : Option (Reply × ℕ)) → reply_of_end (end_of next) ≡ o → slice_get after.core.callers j ≡ Some (ended had call (end_of next) o)
        → HasLess t.shape after j n
    ends_less done None silent there = anew_less done there silent
    ends_less done (Some r) replied_so there = reply_less done r there

    by_want : (x : Want) → wanted next ≡ x → slice_get after.core.callers j ≡ Some (ended_or_on had call next x) → HasLess t.shape after j n
    by_want want.Done is there = ends_less is (reply_of_end (end_of next)) refl there
    by_want (want.Load i) is there = on_less there (λ q. let z : want.Load i ≡ want.Done = sym is ∙ q in cc)
    by_want (want.Store i x) is there = on_less there (λ q. let z : want.Store i x ≡ want.Done = sym is ∙ q in cc)
    by_want (want.Exchange i a b) is there = on_less there (λ q. let z : want.Exchange i a b ≡ want.Done = sym is ∙ q in cc)
    by_want (want.Flush l) is there = on_less there (λ q. let z : want.Flush l ≡ want.Done = sym is ∙ q in cc)
    by_want want.Fence is there = on_less there (λ q. let z : want.Fence ≡ want.Done = sym is ∙ q in cc)
    by_want want.Draw is there = on_less there (λ q. let z : want.Draw ≡ want.Done = sym is ∙ q in cc)
    by_want want.Power is there = on_less there (λ q. let z : want.Power ≡ want.Done = sym is ∙ q in cc)

    core_after : after.core ≡ with_event t.shape j w.core c call e
    core_after = turn_is t.shape w.core j c call e at.there at.calls at.runs

    pub event_less : HasLess t.shape after j n
    event_less =
        by_want (wanted next) refl
        (ap (λ (core : Core). slice_get core.callers j) core_after ∙ set_here w.core.callers j c (answered c call e (answer_now t.shape w.core.words e)) at.there)

-- ---- and so it stops
module _ (laws : EngineLaws) (t : Setup) (is : IsSetup t) (goal : Goal) (j : ℕ) where
  abbrev at_turns : List ℕ → State
  at_turns turns = record { keeper = Open; core = (along t.shape t.first t.scripts turns).core }

  pub goes_less : (n m : ℕ) (shape : Shape) (w : Watched) → n ≤ m → GoesOn shape w j n → GoesOn shape w j m
  goes_less n m shape w few g = record { engine = g.engine; next = g.next; phase = by g.phase }
    where
      by : IsPhase shape w j (later g.next.caller) g.engine n → IsPhase shape w j (later g.next.caller) g.engine m
      by (before low) = let l = low in before (omega (arith, l, few))
      by (began some low) = let l = low in began some (omega (arith, l, few))
      by (due still is_due low) = let l = low in due still is_due (omega (arith, l, few))

  -- what it does behind its event
  module _ (turns : List ℕ) (n : ℕ) (g : GoesOn t.shape (along t.shape t.first t.scripts turns) j n)
      (rest : (m : ℕ) → suc m ≡ n → GoesOn t.shape (along t.shape t.first t.scripts (turns ++ suc j ∷ [])) j m → StopsIn t.shape goal (suc j) n (at_turns (turns ++ suc j ∷ []))) where
    abbrev at_now : Watched
    at_now = along t.shape t.first t.scripts turns

    abbrev at_next : Watched
    at_next = along t.shape t.first t.scripts (turns ++ suc j ∷ [])

    next_is : at_next ≡ watched_turn t.shape (suc j) at_now
    next_is = one_more_turn t.shape turns (suc j) (at_start t.shape t.first t.scripts)

    less_stops : HasLess t.shape at_next j n → StopsIn t.shape goal (suc j) n (at_turns (turns ++ suc j ∷ []))
    less_stops (inl none) = none_stops t.shape goal (suc j) n (at_turns (turns ++ suc j ∷ [])) none
    less_stops (inr (m, few, more)) = by n refl
      where
        by : (k : ℕ) → k ≡ n → StopsIn t.shape goal (suc j) n (at_turns (turns ++ suc j ∷ []))
        by zero none = absurd (omega (arith, few, none))
        by (suc k) same = rest k same (goes_less m k t.shape at_next (omega (arith, few, same)) more)

    pub one_stops : StopsIn t.shape goal (suc j) (suc n) (at_turns turns)
    one_stops = λ d e on.
        let x = g.next in
        let is_deed : engine_deed t.shape j at_now.core x.caller x.call g.engine ≡ d =
        same_Some _ d (sym (deed_is t.shape at_now.core j x.caller x.call g.engine x.there x.calls x.runs) ∙ e) in
        let goes_on : stops goal (engine_deed t.shape j at_now.core x.caller x.call g.engine) ≡ false = ap (λ (y : Deed). stops goal y) is_deed ∙ on in
        let less : HasLess t.shape at_next j n = subst (λ (y : Watched). HasLess t.shape y j n) (sym next_is) (event_less laws t is turns j n g.engine goal x g.phase goes_on) in
        let state_is : at_turns (turns ++ suc j ∷ []) ≡ d.state =
        ap (λ (core : Core). record { keeper = Open; core = core })
        (ap (λ (y : Watched). y.core) next_is ∙ turn_is t.shape at_now.core j x.caller x.call g.engine x.there x.calls x.runs) ∙ ap (λ (y : Deed). y.state) is_deed in
        subst (λ (y : State). StopsIn t.shape goal (suc j) n y) state_is (less_stops less)

  pub caller_stops : (n : ℕ) (turns : List ℕ) → GoesOn t.shape (along t.shape t.first t.scripts turns) j n → StopsIn t.shape goal (suc j) (suc n) (at_turns turns)
  caller_stops zero turns g = one_stops turns zero g (λ m same more. absurd (omega (arith, same)))
  caller_stops (suc n) turns g = one_stops turns (suc n) g (λ m same more.
      caller_stops n (turns ++ suc j ∷ []) (goes_less m n t.shape (along t.shape t.first t.scripts (turns ++ suc j ∷ [])) (omega (arith, same)) more))
