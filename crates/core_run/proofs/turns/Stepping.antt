-- An event of a caller while the image is open, and how it leaves the callers and the turns that led there.
use Rattle.std.proofs.Common.{◌≡◌, ◌≢◌, ℕ, suc, ◌+◌, ◌<◌, ◌≤◌, inl, inr, ◌⊎◌, true, false, Option, Some, None, is_some, List, [], ◌∷◌, ◌++◌, length, slice_get, refl, sym, ◌∙◌, ap, subst, arith, length-append}
use Rattle.std.proofs.lemmas.Option.{none-some, same_Some, slice_get_within}
use Rattle.image_layout.specs.Places.{Shape}
use Rattle.op_core.specs.declared.want.Want.{Want}
use Rattle.op_core.specs.declared.want.Want.TheVariants as want
use Rattle.op_core.specs.declared.want.Ans.{Ans}
use Rattle.map_model.specs.declared.call.Call.{Call}
use Rattle.map_model.specs.declared.entry.Reply.{Reply}
use Rattle.world.specs.Views.{View}
use Rattle.engine.specs.declared.engine.Engine.{Engine}
use Rattle.engine.specs.declared.engine.End.{End}
use Rattle.engine.specs.Engine.{wanted, end_of, reply_of_end}
use Rattle.engine.specs.Core.{Caller, Core, current, entry_of, drawn_by, ended, ended_or_on, answered, with_event, turn}
use Rattle.engine.specs.Holding.{IsCalling, DoesCall, CallerFits}
use Rattle.engine.specs.Causes.{Watched, answer_now, engine_next, watched_turn}
use Rattle.engine.specs.Alone.{IsNext, at_start, along}
use Rattle.engine.proofs.Places.{zip_at, set_cases}
use Rattle.engine.proofs.attempts.Doing.{one_more_turn}
use Rattle.core_run.specs.declared.keeper.Keeper.TheVariants.{Open}
use Rattle.core_run.specs.State.{State, Deed, end_by, engine_deed, call_deed, caller_deed, deed}
use Rattle.core_run.specs.Run.{ends_call}
use Rattle.core_run.specs.Running.{Setup, IsSetup, site_in, IsOpen, DeedsAreWell}
use Rattle.core_run.specs.Along.{behind, all_behind}
use Rattle.core_run.proofs.ends.Staying.{behind_set, set_here, turn_is as turn_at, deed_is as deed_at}

-- the state in which the image is open over a core
abbrev pub at : Core → State
at core = record { keeper = Open; core = core }

pub at_is : (s : State) → s.keeper ≡ Open → at s.core ≡ s
at_is s here = ap (λ k. record { keeper = k; core = s.core }) (sym here)

-- ---- how an event leaves its caller
module _ (shape : Shape) (c : Caller) (call : Call) (e : Engine) where
  -- where the attempt goes on
  goes_on : (w : Want) → end_by shape e w ≡ None → (ended_or_on c call e w).engine ≡ Some e
  goes_on want.Done none = absurd (none-some (end_of e) (sym none))
  goes_on w none = refl

  -- where it has ended
  has_ended : (w : Want) → wanted e ≡ w → (end : End) → end_by shape e w ≡ Some end → wanted e ≡ want.Done
  has_ended want.Done is end q = is
  has_ended w is end q = absurd (none-some end q)

  -- with no reply the call is the same, and as many are behind
  ended_same : (o : Option (Reply × ℕ)) → is_some o ≡ false → (behind (ended c call (end_of e) o) ≡ behind c) × (current (ended c call (end_of e) o) ≡ current c)
  ended_same None untold = (refl, refl)
  ended_same (Some r) untold = absurd (let no : true ≡ false = untold in cc)

  same_call : (w : Want) → ends_call (end_by shape e w) ≡ false → (behind (ended_or_on c call e w) ≡ behind c) × (current (ended_or_on c call e w) ≡ current c)
  same_call want.Done untold = ended_same (reply_of_end (end_of e)) untold
  same_call w untold = (refl, refl)

  -- and with its reply one is no more
  ended_fewer : length c.entries < length c.calls → (o : Option (Reply × ℕ)) → is_some o ≡ true → behind (ended c call (end_of e) o) + 1 ≡ behind c
  ended_fewer within None told = absurd (let no : false ≡ true = told in cc)
  ended_fewer within (Some r) told = let more = length-append c.entries (entry_of c call r.0 r.1 ∷ []) in omega (arith, more, within)

  fewer_calls : length c.entries < length c.calls → (w : Want) → ends_call (end_by shape e w) ≡ true → behind (ended_or_on c call e w) + 1 ≡ behind c
  fewer_calls within want.Done told = ended_fewer within (reply_of_end (end_of e)) told
  fewer_calls within w told = absurd (let no : false ≡ true = told in cc)

  -- in either case no more are
  ended_low : (o : Option (Reply × ℕ)) → behind (ended c call (end_of e) o) ≤ behind c
  ended_low None = omega arith
  ended_low (Some r) = let more = length-append c.entries (entry_of c call r.0 r.1 ∷ []) in omega (arith, more)

  no_more_calls : (w : Want) → behind (ended_or_on c call e w) ≤ behind c
  no_more_calls want.Done = ended_low (reply_of_end (end_of e))
  no_more_calls w = omega arith

-- ---- who stands at a place
-- a caller with a call that runs on this engine
pub record HasEvent (core : Core) (j : ℕ) : Type 0 where
  pub caller : Caller
  pub there : slice_get core.callers j ≡ Some caller
  pub call : Call
  pub calls : current caller ≡ Some call
  pub engine : Engine
  pub runs : caller.engine ≡ Some engine

-- or nobody, or a caller whose calls have run out
abbrev pub IsIdle : Core → ℕ → Type 0
IsIdle core j = (c : Caller) → slice_get core.callers j ≡ Some c → (c.engine ≡ None) × (current c ≡ None)

-- some turns led to the core, and this holds after them
pub record Leads (t : Setup) (core : Core) (Q : Watched → Type 0) : Type 0 where
  pub turns : List ℕ
  pub core_is : core ≡ (along t.shape t.first t.scripts turns).core
  pub holds : Q (along t.shape t.first t.scripts turns)

-- a state in which the image is open, and this holds of its core
pub record EndsAt (t : Setup) (P : Core → Type 0) (s : State) : Type 0 where
  pub still_open : s.keeper ≡ Open
  pub opened : IsOpen t s.core
  pub good : P s.core

module _ (t : Setup) where
  abbrev pub watched_at : {core : Core} {Q : Watched → Type 0} → Leads t core Q → Watched
  watched_at h = along t.shape t.first t.scripts h.turns

  pub event_or_idle : (core : Core) → IsOpen t core → (j : ℕ) → HasEvent core j ⊎ IsIdle core j
  event_or_idle core o j = by_caller (slice_get core.callers j) refl
    where
      by_engine : (c : Caller) → slice_get core.callers j ≡ Some c → (v : View) → DoesCall (site_in t) c c.engine v → (q : Option Engine) → c.engine ≡ q → HasEvent core j ⊎ IsIdle core j
      by_engine c there v does None runs = inr (λ d is. subst (λ (x : Caller). (x.engine ≡ None) × (current x ≡ None)) (same_Some c d (sym there ∙ is))
          (runs, (subst (λ q. DoesCall (site_in t) c q v) runs does).no_call))
      by_engine c there v does (Some e) runs =
          let calling : IsCalling (site_in t) c e v = subst (λ q. DoesCall (site_in t) c q v) runs does in
          inl (record { caller = c; there = there; call = calling.call; calls = calling.is_current; engine = e; runs = runs })

      by_caller : (q : Option Caller) → slice_get core.callers j ≡ q → HasEvent core j ⊎ IsIdle core j
      by_caller None there = inr (λ d is. absurd (none-some d (sym there ∙ is)))
      by_caller (Some c) there =
          let p = zip_at (CallerFits (site_in t)) core.callers o.holds.views j c o.holds.each there in
          by_engine c there p.0 p.2.does c.engine refl

  -- nobody there has an event
  pub idle_none : (core : Core) (j : ℕ) → ((c : Caller) → slice_get core.callers j ≡ Some c → current c ≡ None) → deed t.shape (suc j) (at core) ≡ None
  idle_none core j none = by_caller (slice_get core.callers j) refl
    where
      by_caller : (q : Option Caller) → slice_get core.callers j ≡ q → caller_deed t.shape j core q ≡ None
      by_caller None there = refl
      by_caller (Some c) there = ap (λ q. call_deed t.shape j core c q c.engine) (none c there)

  -- ---- an event of the caller at a place
  module _ (core : Core) (j : ℕ) (v : HasEvent core j) where
    abbrev pub next : Engine
    next = engine_next t.shape core.words v.engine

    abbrev pub answer : Ans
    answer = answer_now t.shape core.words v.engine

    abbrev pub drawn : Caller
    drawn = record v.caller { drew = drawn_by v.caller v.call answer }

    abbrev pub after : Caller
    after = answered v.caller v.call v.engine answer

    abbrev pub core_after : Core
    core_after = with_event t.shape j core v.caller v.call v.engine

    abbrev pub its_deed : Deed
    its_deed = engine_deed t.shape j core v.caller v.call v.engine

    pub deed_is : deed t.shape (suc j) (at core) ≡ Some its_deed
    deed_is = deed_at t.shape core j v.caller v.call v.engine v.there v.calls v.runs

    pub turn_is : turn t.shape (suc j) core ≡ core_after
    turn_is = turn_at t.shape core j v.caller v.call v.engine v.there v.calls v.runs

    pub open_after : IsSetup t → DeedsAreWell → IsOpen t core → IsOpen t core_after
    open_after is wells o = (wells t (suc j) (at core) its_deed is o deed_is).after

    pub longer : length core_after.trace ≡ suc (length core.trace)
    longer = refl

    pub there_after : slice_get core_after.callers j ≡ Some after
    there_after = set_here core.callers j v.caller after v.there

    -- as many calls are behind as before, or one fewer
    pub no_more : all_behind core_after.callers ≤ all_behind core.callers
    no_more =
        let sums = behind_set core.callers j v.caller after v.there in
        let low = no_more_calls t.shape drawn v.call next (wanted next) in
        omega (arith, sums, low)

    pub as_many : ends_call its_deed.end ≡ false → all_behind core_after.callers ≡ all_behind core.callers
    as_many untold =
        let sums = behind_set core.callers j v.caller after v.there in
        let same = (same_call t.shape drawn v.call next (wanted next) untold).0 in
        omega (arith, sums, same)

    pub one_fewer : ends_call its_deed.end ≡ true → all_behind core_after.callers + 1 ≡ all_behind core.callers
    one_fewer told =
        let sums = behind_set core.callers j v.caller after v.there in
        let less = fewer_calls t.shape drawn v.call next (slice_get_within v.caller.calls (length v.caller.entries) v.call v.calls) (wanted next) told in
        omega (arith, sums, less)

    -- and so it is of the caller's own
    pub own_as_many : ends_call its_deed.end ≡ false → behind after ≡ behind v.caller
    own_as_many untold = (same_call t.shape drawn v.call next (wanted next) untold).0

    pub own_fewer : ends_call its_deed.end ≡ true → behind after + 1 ≡ behind v.caller
    own_fewer told = fewer_calls t.shape drawn v.call next (slice_get_within v.caller.calls (length v.caller.entries) v.call v.calls) (wanted next) told

    -- and the call of the caller is the same, where it has no reply
    pub still_calls : ends_call its_deed.end ≡ false → (slice_get core_after.callers j ≡ Some after) × (current after ≡ Some v.call)
    still_calls untold = (there_after, (same_call t.shape drawn v.call next (wanted next) untold).1 ∙ v.calls)

    -- its attempt ended, or it goes on
    pub ended_or_goes_on : ((wanted next ≡ want.Done) ⊎ ((after.engine ≡ Some next) × (its_deed.end ≡ None)))
    ended_or_goes_on = by (end_by t.shape next (wanted next)) refl
      where
        by : (x : Option End) → end_by t.shape next (wanted next) ≡ x → (wanted next ≡ want.Done) ⊎ ((after.engine ≡ Some next) × (its_deed.end ≡ None))
        by None is = inr (goes_on t.shape drawn v.call next (wanted next) is, is)
        by (Some end) is = inl (has_ended t.shape drawn v.call next (wanted next) refl end is)

    -- ---- the turns that led there, and this one
    module _ (Q : Watched → Type 0) (h : Leads t core Q) where
      pub is_next : IsNext (along t.shape t.first t.scripts h.turns) j v.engine
      is_next = record { caller = v.caller; there = subst (λ (k : Core). slice_get k.callers j ≡ Some v.caller) h.core_is v.there; call = v.call; calls = v.calls; runs = v.runs }

      turned : core_after ≡ (watched_turn t.shape (suc j) (along t.shape t.first t.scripts h.turns)).core
      turned = sym turn_is ∙ ap (turn t.shape (suc j)) h.core_is

      pub leads_on : (R : Watched → Type 0) → R (watched_turn t.shape (suc j) (along t.shape t.first t.scripts h.turns)) → Leads t core_after R
      leads_on R r =
          let more = one_more_turn t.shape h.turns (suc j) (at_start t.shape t.first t.scripts) in
          record { turns = h.turns ++ suc j ∷ []; core_is = turned ∙ ap (λ (w : Watched). w.core) (sym more); holds = subst R (sym more) r }

      -- who stands there afterwards, and elsewhere
      pub own_after : (c : Caller) → slice_get (watched_turn t.shape (suc j) (along t.shape t.first t.scripts h.turns)).core.callers j ≡ Some c → after ≡ c
      own_after c is = same_Some after c (sym there_after ∙ subst (λ (k : Core). slice_get k.callers j ≡ Some c) (sym turned) is)

      pub others_after : (i : ℕ) (c : Caller) → i ≢ j → slice_get (watched_turn t.shape (suc j) (along t.shape t.first t.scripts h.turns)).core.callers i ≡ Some c
          → slice_get (along t.shape t.first t.scripts h.turns).core.callers i ≡ Some c
      others_after i c other is = subst (λ (k : Core). slice_get k.callers i ≡ Some c) h.core_is
          (by (set_cases core.callers j i after c (subst (λ (k : Core). slice_get k.callers i ≡ Some c) (sym turned) is)))
        where
          by : ((i ≡ j) × (after ≡ c)) ⊎ (slice_get core.callers i ≡ Some c) → slice_get core.callers i ≡ Some c
          by (inl here) = absurd (other here.0)
          by (inr old) = old
