-- Along any turns the engine of each caller remembers what its attempt did.
use Rattle.std.proofs.Common.{◌≡◌, ℕ, zero, suc, inl, inr, cond, ◌<◌, ◌^◌, Option, None, Some, List, [], ◌∷◌, ◌++◌, length, slice_get, slice_set, refl, sym, ◌∙◌, ap, subst}
use Rattle.std.proofs.lemmas.Bool.{cases_eq, eq-eqb, ne_eqb}
use Rattle.std.proofs.lemmas.Option.{none-some, same_Some}
use Rattle.op_core.specs.declared.want.Want.{Want}
use Rattle.op_core.specs.declared.want.Want.TheVariants as want
use Rattle.op_core.specs.declared.want.Ans.{Ans}
use Rattle.trace.specs.Events.{Words}
use Rattle.trace.proofs.Moments.{value_at_now}
use Rattle.image_layout.specs.Places.{Shape}
use Rattle.map_model.specs.declared.call.Call.{Call}
use Rattle.map_model.specs.declared.change.Change.{Change}
use Rattle.map_model.specs.Changes.{change_of}
use Rattle.map_model.specs.declared.entry.Reply.{Reply}
use Rattle.world.specs.declared.site.Site.{Site}
use Rattle.world.specs.Ground.{Ground}
use Rattle.world.specs.World.{fresh_view}
use Rattle.world.specs.Wants.{word_of}
use Rattle.part.specs.Doings.{Doings, nothing_done, with_event_of}
use Rattle.part.specs.Outcomes.{Outcome, stale, need_split}
use Rattle.engine.specs.declared.engine.Engine.{Engine}
use Rattle.engine.specs.declared.engine.End.{End}
use Rattle.engine.specs.Engine.{begun, wanted, end_of, outcome_of_end, reply_of_end, IsFresh, anew_by, anew}
use Rattle.engine.specs.OpPart.{op_part}
use Rattle.engine.specs.Core.{Caller, Core, call_at, current, engine_for, drawn_by, ended, ended_or_on, answered, callers_from, idle}
use Rattle.engine.specs.Holding.{IsCalling, DoesCall, CallerFits, CoreHolds, TurnKeeps}
use Rattle.engine.specs.Causes.{OpCauses, RemembersNothing, doings_by, Watched, with_doings, answer_now, engine_next, doings_of_call, doings_of_caller, watched_turn, watched_run, WatchingChangesNothing}
use Rattle.engine.proofs.Places.{zip_at, set_cases}
use Rattle.engine.proofs.attempts.Stepping.{op_remembers}

pub watching : WatchingChangesNothing
watching shape w [] = refl
watching shape w (c ∷ turns) = watching shape (watched_turn shape c w) turns

-- one turn more
pub one_more_turn : (shape : Shape) (turns : List ℕ) (c : ℕ) (w : Watched) → watched_run shape (turns ++ c ∷ []) w ≡ watched_turn shape c (watched_run shape turns w)
one_more_turn shape [] c w = refl
one_more_turn shape (d ∷ turns) c w = one_more_turn shape turns c (watched_turn shape d w)

pub set_there : (callers : List Caller) (j : ℕ) (c d x : Caller) → slice_get callers j ≡ Some x → slice_get (slice_set callers j c) j ≡ Some d → c ≡ d
set_there [] j c d x there is = absurd (none-some x there)
set_there (y ∷ callers) zero c d x there is = same_Some c d is
set_there (y ∷ callers) (suc j) c d x there is = set_there callers j c d x there is

-- the next attempt of a call has done nothing
pub anew_by_fresh : (here : Site) (call : Call) (change : Option Change) (outcome : Option Outcome) → IsFresh here (anew_by here call change outcome)
anew_by_fresh here call (Some change) (Some (need_split segment)) = inr (inl (change, segment, refl))
anew_by_fresh here call change (Some (stale segment version)) = inr (inr (segment, refl))
anew_by_fresh here call change outcome = inl (call, refl)

pub anew_fresh : (here : Site) (call : Call) (end : End) → IsFresh here (anew here call end)
anew_fresh here call end = anew_by_fresh here call (change_of call) (outcome_of_end end)

module _ (causes : OpCauses) (begins : RemembersNothing) (keeps : TurnKeeps) (site : Ground) (start : Words) where
  -- ---- a caller
  -- its engine, if one runs, remembers what its attempt did
  abbrev pub IsDoing : Caller → Doings → Type 0
  IsDoing c d = (e : Engine) → c.engine ≡ Some e → op_part.Remembers site e.op d

  engine_did : (here : Site) (o : Option Call) (e : Engine) → engine_for here o ≡ Some e → op_part.Remembers site e.op nothing_done
  engine_did here None e is = absurd (none-some e is)
  engine_did here (Some call) e is = begins site here e (inl (call, sym (same_Some (begun here call) e is)))

  ended_doing : (c : Caller) (call : Call) (end : End) (o : Option (Reply × ℕ)) → IsDoing (ended c call end o) nothing_done
  ended_doing c call end None e is = begins site c.site e (subst (IsFresh c.site) (same_Some (anew c.site call end) e is) (anew_fresh c.site call end))
  ended_doing c call end (Some r) e is = engine_did c.site (call_at c (suc (length c.entries))) e is

  gone_on_doing : (c : Caller) (call : Call) (e : Engine) (next w : Want) (a : Ans) (d : Doings) → op_part.Remembers site e.op (with_event_of w a d)
      → IsDoing (ended_or_on c call e next) (doings_by next w a d)
  gone_on_doing c call e want.Done w a d did x is = ended_doing c call (end_of e) (reply_of_end (end_of e)) x is
  gone_on_doing c call e next w a d did x is = subst (λ (z : Engine). op_part.Remembers site z.op (with_event_of w a d)) (same_Some e x is) did

  -- ---- the callers of a core
  abbrev pub EachDoes : Watched → Type 0
  EachDoes w = (j : ℕ) (c : Caller) → slice_get w.core.callers j ≡ Some c → IsDoing c (w.doings j)

  module _ (w : Watched) (h : CoreHolds site start w.core) (each : EachDoes w) where
    now_fits : (i : ℕ) → w.core.words i < 2 ^ 64
    now_fits i = subst (λ x. x < 2 ^ 64) (value_at_now start w.core.trace i ∙ sym (ap (λ (ws : Words). ws i) h.well.words_are)) (h.fits i (length w.core.trace))

    module _ (j : ℕ) (c : Caller) (there : slice_get w.core.callers j ≡ Some c) where
      abbrev new_doings : Engine → Doings
      new_doings e = doings_by (wanted (engine_next site.shape w.core.words e)) (wanted e) (answer_now site.shape w.core.words e) (w.doings j)

      remembers_next : (e : Engine) → c.engine ≡ Some e
          → op_part.Remembers site (engine_next site.shape w.core.words e).op (with_event_of (wanted e) (answer_now site.shape w.core.words e) (w.doings j))
      remembers_next e runs =
          let z = zip_at (CallerFits site) w.core.callers h.views j c h.each there in
          let calling : IsCalling site c e z.0 = subst (λ o. DoesCall site c o z.0) runs z.2.does in
          op_remembers causes site c.site calling.call w.core.words (fresh_view 0 ∷ h.views) (suc j) calling.before z.0 h.well.holds z.1 (w.doings j) e.op calling.suits.suits calling.suits.asks
          (now_fits (word_of site.shape (wanted e))) (each j c there e runs)

      stepped : (call : Call) (e : Engine) → c.engine ≡ Some e
          → EachDoes (record { core = Rattle.engine.specs.Core.with_event site.shape j w.core c call e; doings = with_doings j (new_doings e) w.doings })
      stepped call e runs i x at = elim (cases_eq i j) [
        | inl same ↦ (let now : answered c call e (answer_now site.shape w.core.words e) ≡ x
            = set_there w.core.callers j (answered c call e (answer_now site.shape w.core.words e)) x c there
            (subst (λ k. slice_get (slice_set w.core.callers j (answered c call e (answer_now site.shape w.core.words e))) k ≡ Some x) same at) in
            let new : IsDoing (answered c call e (answer_now site.shape w.core.words e)) (new_doings e)
            = gone_on_doing (record c { drew = drawn_by c call (answer_now site.shape w.core.words e) }) call (engine_next site.shape w.core.words e) (wanted (engine_next site.shape w.core.words e)) (wanted e)
            (answer_now site.shape w.core.words e) (w.doings j) (remembers_next e runs) in
            subst (λ b. IsDoing x (cond b (new_doings e) (w.doings i))) (sym (eq-eqb i j same)) (subst (λ z. IsDoing z (new_doings e)) now new))
        | inr other ↦ elim (set_cases w.core.callers j i (answered c call e (answer_now site.shape w.core.words e)) x at) [
          | inl here ↦ absurd (other here.0)
          | inr old ↦ subst (λ b. IsDoing x (cond b (new_doings e) (w.doings i))) (sym (ne_eqb i j other)) (each i x old)
        ]
      ]

      by_call : (call : Option Call) (engine : Option Engine) → c.engine ≡ engine
          → EachDoes (record { core = Rattle.engine.specs.Core.turn_of_call site.shape j w.core c call engine; doings = doings_of_call site.shape j w call engine })
      by_call None engine runs = each
      by_call (Some call) None runs = each
      by_call (Some call) (Some e) runs = stepped call e runs

    by_caller : (j : ℕ) (o : Option Caller) → slice_get w.core.callers j ≡ o
        → EachDoes (record { core = Rattle.engine.specs.Core.turn_of_caller site.shape j w.core o; doings = doings_of_caller site.shape j w o })
    by_caller j None there = each
    by_caller j (Some c) there = by_call j c there (current c) c.engine refl

    turn_does : (c : ℕ) → EachDoes (watched_turn site.shape c w)
    turn_does zero = each
    turn_does (suc j) = by_caller j (slice_get w.core.callers j) refl

  pub run_does : (w : Watched) (turns : List ℕ) → CoreHolds site start w.core → EachDoes w → EachDoes (watched_run site.shape turns w)
  run_does w [] h each = each
  run_does w (c ∷ turns) h each = run_does (watched_turn site.shape c w) turns (keeps site start w.core c h) (turn_does w h each c)

  -- ---- the callers of a core that begins
  pub begin_doing : (shape : Shape) (version number : ℕ) (scripts : List (List Call)) (j : ℕ) (c : Caller) → slice_get (callers_from shape version number scripts) j ≡ Some c → IsDoing c nothing_done
  begin_doing shape version number [] j c at = absurd (none-some c at)
  begin_doing shape version number (calls ∷ scripts) zero c at =
      let here : Site = record { geometry = shape; version = version; caller = number } in
      subst (λ z. IsDoing z nothing_done) (same_Some (idle here calls) c at) (λ e is. engine_did here (slice_get calls 0) e is)
  begin_doing shape version number (calls ∷ scripts) (suc j) c at = begin_doing shape version (suc number) scripts j c at
