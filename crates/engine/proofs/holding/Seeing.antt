-- WHAT A CALLER HAS SEEN grows by what it is told alone: turn by turn, and over any turns.
use Rattle.std.proofs.Common.{◌≡◌, ℕ, zero, suc, inl, inr, Option, None, Some, List, [], ◌∷◌, length, slice_get, refl, sym, ◌∙◌, ap, subst, arith, length-append}
use Rattle.std.proofs.lemmas.List.{nil_from_length}
use Rattle.std.proofs.lemmas.Option.{same_Some}
use mathlib.Core.Option.{some, some-injective, some-ne-none}
use Rattle.op_core.specs.declared.want.Want.{Want}
use Rattle.trace.specs.Events.{Words}
use Rattle.map_model.specs.declared.entry.Entry.{Entry}
use Rattle.world.specs.Ground.{Ground}
use Rattle.world.specs.Views.{View, At}
use Rattle.world.specs.StepKinds.{view_by}
use Rattle.world.specs.StepLaws.{RepliesComeLater}
use Rattle.world.specs.Wants.{word_of}
use Rattle.world.specs.World.{changed_at}
use Rattle.world.specs.Attempts.{HoldsOnly, HasNoMore, EntersReply}
use Rattle.world.specs.Later.{IsLater}
use Rattle.world.proofs.stepping.Later.{later_itself, later_joined}
use Rattle.part.specs.Outcomes.{Outcome, reply_of}
use Rattle.engine.specs.declared.engine.Engine.{Engine}
use Rattle.engine.specs.OpPart.{op_part}
use Rattle.engine.specs.Core.{Caller, Core, current, turn_of_call, turn_of_caller, turn, run}
use Rattle.engine.specs.Holding.{IsCalling, DoesCall, CallerFits, CoreHolds}
use Rattle.engine.specs.Causes.{BeginsBare, BeginsUndecided}
use Rattle.engine.specs.Alone.{IsBetween}
use Rattle.engine.specs.Seen.{HoldsBehind, ViewsGetLater, SeesNoMore, ToldNothingSeesNothing}
use Rattle.engine.proofs.Places.{zip_at}
use Rattle.engine.proofs.holding.Turning.{TurnLaws, kind, n, core_after, well_step, stepped}
use Rattle.engine.proofs.sessions.Goodness.{caller_at}

-- where one view is changed into a later one, each is a later one
changed_later : (change : View → View) (views : List View) (j i : ℕ) (u : View) → At views i u → (i ≡ j → IsLater u (change u))
    → (w : View) × At (changed_at j change views) i w × IsLater u w
changed_later change [] j i u at mine = absurd (some-ne-none u (sym at))
changed_later change (x ∷ views) zero zero u at mine = (change u, ap (λ (y : View). some (change y)) (some-injective x u at), mine refl)
changed_later change (x ∷ views) zero (suc i) u at mine = (u, at, later_itself u)
changed_later change (x ∷ views) (suc j) zero u at mine = (u, at, later_itself u)
changed_later change (x ∷ views) (suc j) (suc i) u at mine = changed_later change views j i u at (λ same. mine (ap suc same))

-- ---- a turn
module _ (laws : TurnLaws) (replies : RepliesComeLater) (site : Ground) (start : Words) (core : Core) (h : CoreHolds site start core) where
  stays : HoldsBehind site start core h core
  stays = record { holds = h; later = λ j v at. (v, at, later_itself v) }

  module _ (j : ℕ) (c : Caller) (is : slice_get core.callers j ≡ Some c) (v : View) (at : At h.views j v) (fits : CallerFits site c v) where
    module _ (e : Engine) (runs : c.engine ≡ Some e) (calling : IsCalling site c e v) where
      steps_later : (i : ℕ) (u : View) → At h.views i u → i ≡ j
          → IsLater u (view_by site.shape (kind laws site start core h j c is v at fits e runs calling) (n laws site start core h j c is v at fits e runs calling) u)
      steps_later i u there same =
          let k = kind laws site start core h j c is v at fits e runs calling in
          let w = well_step laws site start core h j c is v at fits e runs calling in
          subst (λ x. IsLater u (view_by site.shape k x u)) (sym (ap (λ (asked : Want). core.words (word_of site.shape asked)) w.wants))
          (replies site core.words _ (suc j) u k h.well.holds (subst (λ p. At h.views p u) same there))

      steps_behind : HoldsBehind site start core h (core_after laws site start core h j c is v at fits e runs calling)
      steps_behind = record {
        holds = stepped laws site start core h j c is v at fits e runs calling;
        later = λ i u there. changed_later _ h.views j i u there (steps_later i u there);
      }

    by_engine : (engine : Option Engine) → c.engine ≡ engine → DoesCall site c engine v → HoldsBehind site start core h (turn_of_call site.shape j core c (current c) engine)
    by_engine None runs through = subst (λ o. HoldsBehind site start core h (turn_of_call site.shape j core c o None)) (sym through.no_call) stays
    by_engine (Some e) runs calling = subst (λ o. HoldsBehind site start core h (turn_of_call site.shape j core c o (Some e))) (sym calling.is_current) (steps_behind e runs calling)

  by_caller : (j : ℕ) (o : Option Caller) → slice_get core.callers j ≡ o → HoldsBehind site start core h (turn_of_caller site.shape j core o)
  by_caller j None is = stays
  by_caller j (Some c) is = let z = zip_at (CallerFits site) core.callers h.views j c h.each is in by_engine j c is z.0 z.1 z.2 c.engine refl z.2.does

  turn_behind : (c : ℕ) → HoldsBehind site start core h (turn site.shape c core)
  turn_behind zero = stays
  turn_behind (suc j) = by_caller j (slice_get core.callers j) refl

-- ---- turns, one after another
pub views_get_later : TurnLaws → RepliesComeLater → ViewsGetLater
views_get_later laws replies site start core h [] = stays laws replies site start core h
views_get_later laws replies site start core h (c ∷ turns) =
    let a = turn_behind laws replies site start core h c in
    let b = views_get_later laws replies site start (turn site.shape c core) a.holds turns in
    record {
      holds = b.holds;
      later = λ j v at. let x = a.later j v at in let y = b.later j x.0 x.1 in (y.0, y.1, later_joined v x.0 y.0 x.2 y.2);
    }

-- ---- between two attempts
-- a caller that is between two attempts has the list that it was told, and holds nothing
between : BeginsUndecided → BeginsBare → (site : Ground) (c : Caller) (v : View) → CallerFits site c v → IsBetween c → (v.own ≡ c.entries) × HoldsOnly [] v
between first bare site c v fits rests = elim rests [
  | inl none ↦ (let through = subst (λ (o : Option Engine). DoesCall site c o v) none fits.does in (through.own, through.nothing))
  | inr running ↦
      (let calling : IsCalling site c running.0 v = subst (λ (o : Option Engine). DoesCall site c o v) running.1 fits.does in
      let no_more : HasNoMore calling.before v =
      subst (λ (o : Option Outcome). EntersReply calling.call (reply_of o) calling.before v) (first c.site running.0 running.2) calling.suits.suits.enters in
      (no_more.own ∙ calling.own_before, bare site c.site calling.call running.0 v running.2 calling.suits.suits.stands))
]

pub told_nothing : ViewsGetLater → BeginsUndecided → BeginsBare → ToldNothingSeesNothing
told_nothing laters first bare site start core h turns j v c behind at there rests is rested same =
    let b = laters site start core h turns in
    let w = b.later j v at in
    let was = caller_at site core.callers h.views j v h.each at in
    let now = caller_at site (run site.shape turns core).callers b.holds.views j w.0 b.holds.each w.1 in
    let old = between first bare site c v (subst (λ x. CallerFits site x v) (same_Some was.0 c (sym was.1 ∙ there)) was.2) rests in
    let new = between first bare site behind w.0 (subst (λ x. CallerFits site x w.0) (same_Some now.0 behind (sym now.1 ∙ is)) now.2) rested in
    let own : w.0.own ≡ v.own = new.0 ∙ (same ∙ sym old.0) in
    let l = ap (λ (es : List Entry). length es) (sym own ∙ w.2.own) in
    let m = length-append v.own w.2.rest in
    record {
      holds = b.holds;
      view = w.0;
      seated = w.1;
      nothing = new.1;
      own = own;
      seen = w.2.still (nil_from_length w.2.rest (omega (arith, l, m)));
    }
