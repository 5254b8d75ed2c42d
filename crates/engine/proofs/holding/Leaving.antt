-- AN ATTEMPT THAT ENDS WITHOUT A REPLY leaves nothing behind.
use Rattle.std.proofs.Common.{◌≡◌, ℕ, zero, suc, inl, inr, true, Option, None, Some, List, [], ◌∷◌, slice_get, sym, ◌∙◌, ap, subst, arith}
use Rattle.std.proofs.lemmas.Option.{none-some, same_Some}
use mathlib.Core.Option.{some, some-injective, some-ne-none}
use Rattle.op_core.specs.declared.want.Want.{Want}
use Rattle.op_core.specs.declared.want.Want.TheVariants as want
use Rattle.op_core.specs.declared.want.Ans.{Ans}
use Rattle.trace.specs.Events.{Words}
use Rattle.bucket_words.specs.Hits.{find}
use Rattle.map_model.specs.declared.call.Call.{Call}
use Rattle.map_model.specs.declared.entry.Reply.{Reply}
use Rattle.world.specs.Ground.{Ground}
use Rattle.world.specs.Views.{View, At}
use Rattle.world.specs.World.{changed_at}
use Rattle.world.specs.Attempts.{HoldsOnly, HasNoMore, EntersReply}
use Rattle.engine.specs.declared.engine.Engine.{Engine}
use Rattle.engine.specs.Engine.{wanted, end_of, reply_of_end, anew}
use Rattle.engine.specs.Fits.{HasEnded, next_engine, next_view}
use Rattle.engine.specs.Core.{Caller, Core, drawn_by, ended, ended_or_on, answered, with_event, turn}
use Rattle.engine.specs.Holding.{IsCalling, DoesCall, CallerFits, CoreHolds}
use Rattle.engine.specs.Causes.{watched, answer_now, engine_next, Watched}
use Rattle.engine.specs.Pairs.{HasMade, EndsAsDone, MakesAt, TurnLeavesOrMakes}
use Rattle.engine.specs.Alone.{IsNext}
use Rattle.engine.specs.Driven.{LeavesNothing, EndsLeaveNothing}
use Rattle.engine.proofs.Places.{zip_at}
use Rattle.engine.proofs.holding.Turning.{TurnLaws, well_step, stepped}
use Rattle.engine.proofs.sessions.Goodness.{caller_at}
use Rattle.engine.proofs.attempts.Doing.{set_there}
use Rattle.engine.proofs.lonely.Lonely.{turn_is}

-- a view that is changed sits where it sat
changed_there : (change : View → View) (views : List View) (j : ℕ) (v : View) → At views j v → At (changed_at j change views) j (change v)
changed_there change [] j v at = absurd (some-ne-none v (sym at))
changed_there change (w ∷ views) zero v at = ap (λ (x : View). some (change x)) (some-injective w v at)
changed_there change (w ∷ views) (suc j) v at = changed_there change views j v at

-- a core behind the turn, by what the caller had been told and what it had seen
record LeavesBy (site : Ground) (start : Words) (j : ℕ) (c : Caller) (seen : ℕ) (later : Core) : Type 0 where
  pub holds : CoreHolds site start later
  pub view : View
  pub seated : At holds.views j view
  pub nothing : HoldsOnly [] view
  pub own : view.own ≡ c.entries
  pub sees : view.seen ≡ seen
  pub caller : Caller
  pub there : slice_get later.callers j ≡ Some caller
  pub entries : caller.entries ≡ c.entries
  pub drew : caller.drew ≡ None
  pub begun : caller.begun ≡ true

module _ (laws : TurnLaws) (leaves : TurnLeavesOrMakes) (as_done : EndsAsDone) (site : Ground) (start : Words) (core : Core) (h : CoreHolds site start core) (j : ℕ) (e : Engine)
    (n : IsNext (watched core) j e) (ends : wanted (engine_next site.shape core.words e) ≡ want.Done) (none : reply_of_end (end_of (engine_next site.shape core.words e)) ≡ None) where
  abbrev next : Engine
  next = engine_next site.shape core.words e

  -- ---- each key has what it had
  makes_none : MakesAt site core (suc j) → ⊥
  makes_none m =
      let place : m.seat ≡ j = (let same = m.is_number in omega (arith, same)) in
      let caller : m.caller ≡ n.caller = same_Some m.caller n.caller (sym (subst (λ i. slice_get core.callers i ≡ Some m.caller) place m.is_caller) ∙ n.there) in
      let engine : m.engine ≡ e = same_Some m.engine e (sym m.runs ∙ (ap (λ (x : Caller). x.engine) caller ∙ n.runs)) in
      let reply = as_done next (subst (λ (x : Engine). HasMade (next_engine site x core.words)) engine m.made) ends in
      none-some _ (sym none ∙ reply.1)

  pairs : (k : ℕ) → find site.shape (turn site.shape (suc j) core).words k ≡ find site.shape core.words k
  pairs = elim (leaves site start core (suc j) h) [ inl same ↦ same | inr makes ↦ absurd (makes_none makes) ]

  -- ---- its caller
  module _ (call : Call) where
    abbrev a : Ans
    a = answer_now site.shape core.words e

    abbrev drawn : Caller
    drawn = record n.caller { drew = drawn_by n.caller call a }

    abbrev begins : Caller
    begins = record n.caller { engine = Some (anew n.caller.site call (end_of next)); begun = true; drew = None }

    answered_is : answered n.caller call e a ≡ begins
    answered_is = ap (λ (asked : Want). ended_or_on drawn call next asked) ends ∙ ap (λ (o : Option (Reply × ℕ)). ended drawn call (end_of next) o) none

  module _ (v : View) (at : At h.views j v) (fits : CallerFits site n.caller v) (calling : IsCalling site n.caller e v) where
    abbrev after : Core
    after = with_event site.shape j core n.caller calling.call e

    abbrev holds_after : CoreHolds site start after
    holds_after = stepped laws site start core h j n.caller n.there v at fits e n.runs calling

    abbrev view : View
    view = next_view site e core.words v

    has_ended : HasEnded site n.caller.site calling.call next calling.before view
    has_ended = (well_step laws site start core h j n.caller n.there v at fits e n.runs calling).ends ends

    no_more : HasNoMore calling.before view
    no_more = subst (λ (o : Option (Reply × ℕ)). EntersReply calling.call o calling.before view) none has_ended.enters

    sits : At holds_after.views j view
    sits = changed_there (next_view site e core.words) h.views j v at

    left_by : LeavesBy site start j n.caller calling.before.seen after
    left_by =
        let z = caller_at site after.callers holds_after.views j view holds_after.each sits in
        let same : answered n.caller calling.call e (answer_now site.shape core.words e) ≡ z.0 = set_there core.callers j _ z.0 n.caller n.there z.1 in
        let is : begins calling.call ≡ z.0 = sym (answered_is calling.call) ∙ same in
        record {
          holds = holds_after;
          view = view;
          seated = sits;
          nothing = has_ended.nothing;
          own = no_more.own ∙ calling.own_before;
          sees = no_more.seen;
          caller = z.0;
          there = z.1;
          entries = ap (λ (x : Caller). x.entries) (sym is);
          drew = ap (λ (x : Caller). x.drew) (sym is);
          begun = ap (λ (x : Caller). x.begun) (sym is);
        }

    turned : after ≡ turn site.shape (suc j) core
    turned =
        ap (λ x. with_event site.shape j core n.caller x e) (same_Some calling.call n.call (sym calling.is_current ∙ n.calls))
        ∙ sym (ap (λ (w : Watched). w.core) (turn_is site.shape (watched core) j e n))

    left : LeavesNothing site start core h j n.caller e
    left =
        let l : LeavesBy site start j n.caller calling.before.seen (turn site.shape (suc j) core) = subst (λ x. LeavesBy site start j n.caller calling.before.seen x) turned left_by in
        record {
          before = v;
          seat = at;
          calling = calling;
          holds = l.holds;
          view = l.view;
          seated = l.seated;
          nothing = l.nothing;
          own = l.own;
          seen = l.sees;
          caller = l.caller;
          there = l.there;
          entries = l.entries;
          drew = l.drew;
          begun = l.begun;
          pairs = pairs;
        }

  leaves_nothing : LeavesNothing site start core h j n.caller e
  leaves_nothing =
      let z = zip_at (CallerFits site) core.callers h.views j n.caller h.each n.there in
      left z.0 z.1 z.2 (subst (λ o. DoesCall site n.caller o z.0) n.runs z.2.does)

pub ends_leave_nothing : TurnLaws → TurnLeavesOrMakes → EndsAsDone → EndsLeaveNothing
ends_leave_nothing laws leaves as_done site start core h j e n ends none = leaves_nothing laws leaves as_done site start core h j e n ends none
