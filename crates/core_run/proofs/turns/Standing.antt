-- How callers stand between two turns of the end rule, and that a turn of another leaves them so.
use Rattle.std.proofs.Common.{◌≡◌, ◌≢◌, ℕ, suc, inl, inr, ◌⊎◌, true, false, Some, slice_get, sym, ◌∙◌, ap, subst}
use Rattle.std.proofs.lemmas.Bool.{and_parts}
use Rattle.std.proofs.lemmas.Option.{none-some, same_Some}
use Rattle.op_core.specs.declared.want.Want.TheVariants as want
use Rattle.engine.specs.declared.engine.Engine.{Engine}
use Rattle.engine.specs.Engine.{wanted, IsFresh}
use Rattle.engine.specs.OpPart.{op_part}
use Rattle.engine.specs.Core.{Caller, Core}
use Rattle.engine.specs.Causes.{Watched, engine_next, watched_turn}
use Rattle.engine.specs.Alone.{IsRestingBy, IsResting, along, RestingIsAlone, OwnTurnsStayAlone, AloneNeverAgain, EndsTell, EndedRests, OthersStayResting}
use Rattle.engine.specs.Driven.{tries_now, IsHeldByOther, TriesAreOthers}
use Rattle.engine.specs.Laws.{AreScripts}
use Rattle.core_run.specs.Running.{Setup, IsSetup, DeedsAreWell}
use Rattle.core_run.specs.Ends.{RoundStays, DrivesAreEnough}
use Rattle.core_run.specs.Rounds.{IsWaiting}
use Rattle.core_run.proofs.turns.Stepping.{HasEvent, IsIdle, Leads, its_deed, next, after, is_next, own_after, others_after}
use Rattle.core_run.proofs.turns.Turning.{IsOver, over_told, over_again, over_waits}

-- the laws of turns that are used
pub record TurnLaws : Type 0 where
  pub wells : DeedsAreWell
  pub stays : RoundStays
  pub enough : DrivesAreEnough
  pub tries : TriesAreOthers
  pub ended : EndedRests
  pub others : OthersStayResting
  pub rests : RestingIsAlone
  pub own : OwnTurnsStayAlone
  pub never : AloneNeverAgain
  pub tell : EndsTell

pub scripts_are : (t : Setup) → IsSetup t → AreScripts t.scripts
scripts_are t is = record { few = is.few; words = is.words }

-- the caller at a place rests or waits
abbrev pub RestsOrWaits : Watched → ℕ → Type 0
RestsOrWaits w i = (c : Caller) → slice_get w.core.callers i ≡ Some c → IsRestingBy c (w.doings i) ⊎ IsWaiting c

pub rest_is_either : (w : Watched) (i : ℕ) → IsResting w i → RestsOrWaits w i
rest_is_either w i rest c at = inl (rest c at)

-- ---- who rests or waits has not the guard of the directory
pub held_by_none : (w : Watched) (j : ℕ) → IsHeldByOther w.core j → ((i : ℕ) → i ≢ j → RestsOrWaits w i) → ⊥
held_by_none w j held others = by (others held.place held.elsewhere held.caller held.there)
  where
    fresh_not : (e : Engine) → held.caller.engine ≡ Some e → IsFresh held.caller.site e → ⊥
    fresh_not e runs fresh = held.midst (subst (IsFresh held.caller.site) (same_Some e held.engine (sym runs ∙ held.runs)) fresh)

    waits_not : IsWaiting held.caller → ⊥
    waits_not waits =
        let yes : op_part.is_waiting held.engine.op ≡ true = subst (λ (x : Engine). op_part.is_waiting x.op ≡ true) (same_Some waits.0 held.engine (sym waits.1 ∙ held.runs)) waits.2 in
        let no : true ≡ false = sym yes ∙ held.goes_on in cc

    by : IsRestingBy held.caller (w.doings held.place) ⊎ IsWaiting held.caller → ⊥
    by (inl (inl none)) = none-some held.engine (sym none ∙ held.runs)
    by (inl (inr rest)) = fresh_not rest.0 rest.1 rest.2
    by (inr waits) = waits_not waits

module _ (laws : TurnLaws) (t : Setup) (is : IsSetup t) (core : Core) (j : ℕ) (v : HasEvent core j) (Q : Watched → Type 0) (h : Leads t core Q) where
  abbrev w : Watched
  w = along t.shape t.first t.scripts h.turns

  abbrev turned : Watched
  turned = watched_turn t.shape (suc j) w

  -- so who steps while all others do does not come to wait for it
  pub never_waits : ((i : ℕ) → i ≢ j → RestsOrWaits w i) → (its_deed t core j v).waits ≡ true → ⊥
  never_waits others waits =
      let tried : tries_now t.shape core.words v.engine ≡ true = (and_parts (tries_now t.shape core.words v.engine) (op_part.is_waiting (next t core j v).op) waits).0 in
      held_by_none w j (laws.tries t.shape t.first is.served t.scripts (scripts_are t is) h.turns j v.engine (is_next t core j v Q h)
      (subst (λ (k : Core). tries_now t.shape k.words v.engine ≡ true) h.core_is tried)) others

  -- ---- after its turn
  -- others stand as before
  pub other_rests : (i : ℕ) → i ≢ j → IsResting w i → IsResting turned i
  other_rests i other rest = laws.others t.shape w i j other rest

  pub other_either : (i : ℕ) → i ≢ j → RestsOrWaits w i → RestsOrWaits turned i
  other_either i other stands c at = by (stands c there)
    where
      there : slice_get w.core.callers i ≡ Some c
      there = others_after t core j v Q h i c other at

      by : IsRestingBy c (w.doings i) ⊎ IsWaiting c → IsRestingBy c (turned.doings i) ⊎ IsWaiting c
      by (inl rest) = inl (laws.others t.shape w i j other (λ d is. subst (λ (x : Caller). IsRestingBy x (w.doings i)) (same_Some c d (sym there ∙ is)) rest) c at)
      by (inr waits) = inr waits

  -- where its attempt has ended it rests
  pub own_rests : wanted (next t core j v) ≡ want.Done → IsResting turned j
  own_rests done = laws.ended t.shape w j v.engine (is_next t core j v Q h) (subst (λ (k : Core). wanted (engine_next t.shape k.words v.engine) ≡ want.Done) h.core_is done)

  -- and where the turn is over it rests or waits
  pub own_either : IsOver t j core v → RestsOrWaits turned j
  own_either (over_told done told) c at = inl (own_rests done c at)
  own_either (over_again done again) c at = inl (own_rests done c at)
  own_either (over_waits waits (inl done)) c at = inl (own_rests done c at)
  own_either (over_waits waits (inr on)) c at =
      let same : after t core j v ≡ c = own_after t core j v Q h c at in
      inr (next t core j v, ap (λ (x : Caller). x.engine) (sym same) ∙ on, (and_parts (tries_now t.shape core.words v.engine) (op_part.is_waiting (next t core j v).op) waits).1)

-- who has no event rests
pub idle_rests : (t : Setup) (core : Core) (j : ℕ) (Q : Watched → Type 0) (h : Leads t core Q) → IsIdle core j → IsResting (along t.shape t.first t.scripts h.turns) j
idle_rests t core j Q h idle c at = inl (idle c (subst (λ (k : Core). slice_get k.callers j ≡ Some c) (sym h.core_is) at)).0
