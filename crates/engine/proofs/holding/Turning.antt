-- A turn keeps what holds of the core.
use Rattle.std.proofs.Common.{map, take, ◌≡◌, ◌≢◌, ℕ, zero, suc, ◌+◌, ◌-◌, ◌^◌, ◌<◌, ◌≤◌, Bool, true, false, cond, eqb, List, [], ◌∷◌, ◌++◌, length, drop, slice_get, Option, None, Some, inl, inr, refl, sym, ap, ◌∙◌, subst, arith, mod-lt}
use Rattle.std.proofs.lemmas.Bool.{cases_lt, ne_eqb}
use Rattle.std.proofs.lemmas.Option.{none-some, same_Some}
use Rattle.op_core.specs.declared.want.Ans.{Ans}
use Rattle.op_core.specs.declared.want.Ans.TheVariants.{Value, Won, Lost, Drawn, Passed}
use Rattle.map_model.specs.declared.entry.Reply.TheVariants as reply
use Rattle.engine.proofs.holding.Scripted.{replied_more, within_more, calls_set, gone_on_calls}
use Rattle.trace.specs.Events.Event.{loaded, exchanged}
use Rattle.trace.specs.Progress.{pending}
use Rattle.op_core.specs.declared.want.Want.{Want}
use Rattle.op_core.specs.declared.want.Want.TheVariants as want
use Rattle.trace.specs.Events.{Words, Event, Trace, value, value_at, with_word}
use Rattle.trace.proofs.Moments.{value_at_more, value_at_now}
use Rattle.image_layout.specs.Places.{Shape}
use Rattle.image_layout.specs.Volatile.{power_word}
use Rattle.map_model.specs.declared.call.Call.{Call}
use Rattle.map_model.specs.declared.entry.Reply.{Reply}
use Rattle.map_model.specs.declared.entry.Entry.{Entry}
use Rattle.world.specs.Ground.{Ground, IsGround, version_of}
use Rattle.map_model.specs.Map.{is_done}
use Rattle.world.specs.Views.{View, Has, At}
use Rattle.world.specs.StepKinds.{StepKind, view_by, MayTake}
use Rattle.world.specs.areas.Worlds.{IsWell}
use Rattle.world.specs.StepLaws.{found_of, words_of_step, views_of_step, KeepsWell, PowerStays}
use Rattle.world.specs.Slots.{FreeSlotsStayTakenInMedia, FullsAreTaken}
use Rattle.world.specs.Wants.{answer_to, word_of, left_by, event_of, words_after}
use Rattle.world.specs.World.{changed_at, fresh_view}
use Rattle.world.specs.Laws.{ChangesOneWord}
use Rattle.world.proofs.basics.Seats.{each as each_view}
use Rattle.world.proofs.device.Worlds.{changed_is}
use Rattle.world.specs.Attempts.{HoldsOnly, EntersReply}
use Rattle.part.specs.Part.{IsPart}
use Rattle.engine.specs.declared.engine.Engine.{Engine}
use Rattle.engine.specs.declared.engine.End.{End}
use Rattle.engine.specs.OpPart.{op_part}
use Rattle.engine.specs.Engine.{taken, wanted, end_of, reply_of_end, anew, kind_of}
use Rattle.engine.specs.Fits.{HasNumber, IsWordCall, Suits, HasEnded, BeginsSuited, finds, next_engine, StepsWell, KeepsSuits}
use Rattle.engine.specs.Core.{Caller, Core, call_at, current, engine_for, entry_of, drawn_by, ended, ended_or_on, answered, with_event, turn_of_call, turn_of_caller, turn}
use Rattle.engine.specs.Asks.{AsksWords}
use Rattle.engine.specs.Holding.{HasEntries, IsCalling, DoesCall, CallerFits, world_of, NoneIsFree, FullIsTaken, CoreHolds, CallsStay, TurnKeeps, RunKeeps}
use Rattle.engine.proofs.holding.Planned.{planned_is, at_most_one}
use Rattle.engine.proofs.holding.Told.{entries_by}
use Rattle.engine.proofs.holding.Fulls.{entered_full}
use Rattle.engine.proofs.Places.{zip_at, zip_set, one_more}

-- ---- words
left_fits : (shape : Shape) (w : Want) (n : ℕ) → ((i x : ℕ) → w ≡ want.Store i x → x < 2 ^ 64) → ((i a b : ℕ) → w ≡ want.Exchange i a b → b < 2 ^ 64) → n < 2 ^ 64
    → left_by shape w n < 2 ^ 64
left_fits shape (want.Load i) n stores exchanges fits = fits
left_fits shape (want.Store i x) n stores exchanges fits = stores i x refl
left_fits shape (want.Exchange i a b) n stores exchanges fits = by (eqb n a)
  where
    by : (t : Bool) → cond t b n < 2 ^ 64
    by true = exchanges i a b refl
    by false = fits
left_fits shape (want.Flush l) n stores exchanges fits = fits
left_fits shape want.Fence n stores exchanges fits = fits
left_fits shape want.Draw n stores exchanges fits = mod-lt (n + 1) (omega arith)
left_fits shape want.Power n stores exchanges fits = fits
left_fits shape want.Done n stores exchanges fits = fits

replaced_fits : (words : Words) (i x k : ℕ) → x < 2 ^ 64 → words k < 2 ^ 64 → with_word words i x k < 2 ^ 64
replaced_fits words i x k new old = by (eqb k i)
  where
    by : (t : Bool) → cond t x (words k) < 2 ^ 64
    by true = new
    by false = old

-- the values of a trace with one event more are words
pub values_fit : (start : Words) (e : Event) (es : Trace) → ((i t : ℕ) → value_at start es t i < 2 ^ 64) → ((i : ℕ) → value start (e ∷ es) i < 2 ^ 64) → (i t : ℕ)
    → value_at start (e ∷ es) t i < 2 ^ 64
values_fit start e es old new i t = elim (cases_lt t (suc (length es))) [
  | inl within ↦ subst (λ x. x < 2 ^ 64) (sym (value_at_more start e es t i (omega (arith, within)))) (old i t)
  | inr past ↦ (let none : length (e ∷ es) - t ≡ 0 = omega (arith, past) in subst (λ n. value start (drop n (e ∷ es)) i < 2 ^ 64) (sym none) (new i))
]

-- what was drawn is the call's
drawn_call : (c : Caller) (call : Call) → ((d : Entry) → c.drew ≡ Some d → d.call ≡ call) → (a : Ans) (d : Entry) → drawn_by c call a ≡ Some d → d.call ≡ call
drawn_call c call old (Drawn n) d is = sym (ap (λ (e : Entry). e.call) (same_Some (entry_of c call reply.Done n) d is))
drawn_call c call old (Value v) d is = old d is
drawn_call c call old Won d is = old d is
drawn_call c call old (Lost v) d is = old d is
drawn_call c call old Passed d is = old d is

-- a caller's event flushes and fences nothing of caller 0
pub fenced_still : (shape : Shape) (w : Want) (n j : ℕ) (es : Trace) → pending 0 (event_of shape w n (suc j) ∷ es) ≡ pending 0 es
fenced_still shape (want.Load i) n j es = refl
fenced_still shape (want.Store i x) n j es = refl
fenced_still shape (want.Exchange i a b) n j es = by (eqb n a)
  where
    by : (t : Bool) → pending 0 (cond t (exchanged (suc j) i b) (loaded (suc j) i) ∷ es) ≡ pending 0 es
    by true = refl
    by false = refl
fenced_still shape (want.Flush l) n j es = ap (λ b. cond b ((l, length es) ∷ pending 0 es) (pending 0 es)) (ne_eqb (suc j) 0 (λ q. omega (arith, q)))
fenced_still shape want.Fence n j es = ap (λ b. cond b [] (pending 0 es)) (ne_eqb (suc j) 0 (λ q. omega (arith, q)))
fenced_still shape want.Draw n j es = refl
fenced_still shape want.Power n j es = refl
fenced_still shape want.Done n j es = refl

-- ---- a caller
module _ (begins : BeginsSuited) (site : Ground) (is_site : IsGround site) (c : Caller) (place : c.site.geometry ≡ site.shape) (version : c.site.version ≡ version_of site)
    (number : HasNumber c.site) (words : (n : ℕ) (call : Call) → call_at c n ≡ Some call → IsWordCall call) (call : Call) (is_current : current c ≡ Some call)
    (replied : map (λ (e : Entry). e.call) c.entries ≡ take (length c.entries) c.calls) (within : length c.entries ≤ length c.calls)
    (before w : View) (own_before : before.own ≡ c.entries) (drew : Option Entry) (drew_call : (e : Entry) → drew ≡ Some e → e.call ≡ call) where
  -- the caller after the event, but for its engine
  abbrev drawn : Caller
  drawn = record c { drew = drew }

  goes_on : (e : Engine) → Suits site c.site call e before w → HasEntries c.entries drew w.own → CallerFits site (record drawn { engine = Some e; begun = true }) w
  goes_on e suits entries = record {
    place = place;
    version = version;
    number = number;
    words = words;
    callers = suits.suits.callers;
    replied = replied;
    within = within;
    does = record {
      call = call;
      is_current = is_current;
      before = before;
      own_before = own_before;
      suits = suits;
      entries = entries;
      drew = λ no. absurd (let n = no in cc);
      planned = λ no. absurd (let n = no in cc);
      drew_call = drew_call;
    };
  }

  module _ (nothing : HoldsOnly [] w) (callers : 0 < w.callers) where
    -- the next call begins, if there is one
    next : (e : Entry) → e.call ≡ call → (o : Option Call) → call_at c (suc (length c.entries)) ≡ o → w.own ≡ c.entries ++ e ∷ []
        → CallerFits site (record drawn { entries = c.entries ++ e ∷ []; engine = engine_for c.site o; begun = false; drew = None }) w
    next e its_call None is own = record {
      place = place;
      version = version;
      number = number;
      words = words;
      callers = callers;
      replied = replied_more c.entries c.calls e call replied its_call is_current;
      within = within_more c.entries c.calls e call is_current;
      does = record {
        no_call = ap (λ n. slice_get c.calls n) (one_more c.entries e) ∙ is;
        own = own;
        nothing = nothing;
        begun = refl;
        drew = refl;
      };
    }
    next e its_call (Some following) is own = record {
      place = place;
      version = version;
      number = number;
      words = words;
      callers = callers;
      replied = replied_more c.entries c.calls e call replied its_call is_current;
      within = within_more c.entries c.calls e call is_current;
      does = record {
        call = following;
        is_current = ap (λ n. slice_get c.calls n) (one_more c.entries e) ∙ is;
        before = w;
        own_before = own;
        suits = begins site c.site following w is_site place version (words (suc (length c.entries)) following is) nothing callers;
        entries = inl own;
        drew = λ _. refl;
        planned = λ _. nothing.planned;
        drew_call = λ d drawn_is. absurd (none-some d drawn_is);
      };
    }

    ended_fits : (end : End) (o : Option (Reply × ℕ)) → EntersReply call o before w → (o ≡ None → Suits site c.site call (anew c.site call end) w w) → CallerFits site (ended drawn call end o) w
    ended_fits end None enters suits = record {
      place = place;
      version = version;
      number = number;
      words = words;
      callers = callers;
      replied = replied;
      within = within;
      does = record {
        call = call;
        is_current = is_current;
        before = w;
        own_before = enters.own ∙ own_before;
        suits = suits refl;
        entries = inl (enters.own ∙ own_before);
        drew = λ _. refl;
        planned = λ _. nothing.planned;
        drew_call = λ d drawn_is. absurd (none-some d drawn_is);
      };
    }
    ended_fits end (Some r) enters suits = next (entry_of c call r.0 r.1) refl (call_at c (suc (length c.entries))) refl
        (enters.own ∙ ap (λ (es : List Entry). es ++ record { serial = suc (length es); call = call; reply = r.0; place = r.1; drew = is_done r.0 } ∷ []) own_before)

  gone_on_fits : (e : Engine) (asked : Want) → wanted e ≡ asked → (wanted e ≢ want.Done → Suits site c.site call e before w) → (wanted e ≡ want.Done → HasEnded site c.site call e before w)
      → (Suits site c.site call e before w → HasEntries c.entries drew w.own) → CallerFits site (ended_or_on drawn call e asked) w
  gone_on_fits e want.Done is suits ends has = let end = ends is in ended_fits end.nothing end.callers (end_of e) (reply_of_end (end_of e)) end.enters end.anew
  gone_on_fits e (want.Load i) is suits ends has = (let s = suits (λ q. let z : want.Load i ≡ want.Done = sym is ∙ q in cc) in goes_on e s (has s))
  gone_on_fits e (want.Store i x) is suits ends has = (let s = suits (λ q. let z : want.Store i x ≡ want.Done = sym is ∙ q in cc) in goes_on e s (has s))
  gone_on_fits e (want.Exchange i a b) is suits ends has = (let s = suits (λ q. let z : want.Exchange i a b ≡ want.Done = sym is ∙ q in cc) in goes_on e s (has s))
  gone_on_fits e (want.Flush l) is suits ends has = (let s = suits (λ q. let z : want.Flush l ≡ want.Done = sym is ∙ q in cc) in goes_on e s (has s))
  gone_on_fits e want.Fence is suits ends has = (let s = suits (λ q. let z : want.Fence ≡ want.Done = sym is ∙ q in cc) in goes_on e s (has s))
  gone_on_fits e want.Draw is suits ends has = (let s = suits (λ q. let z : want.Draw ≡ want.Done = sym is ∙ q in cc) in goes_on e s (has s))
  gone_on_fits e want.Power is suits ends has = (let s = suits (λ q. let z : want.Power ≡ want.Done = sym is ∙ q in cc) in goes_on e s (has s))

-- ---- turns, one after another
pub run_keeps : TurnKeeps → RunKeeps
run_keeps keeps site start core [] h = h
run_keeps keeps site start core (c ∷ turns) h = run_keeps keeps site start (turn site.shape c core) turns (keeps site start core c h)

calls_kept : (shape : Shape) (j : ℕ) (core : Core) (c : Caller) (is : slice_get core.callers j ≡ Some c) (call : Call) (e : Engine)
    → map (λ (c : Caller). c.calls) (with_event shape j core c call e).callers ≡ map (λ (c : Caller). c.calls) core.callers
calls_kept shape j core c is call e =
    let found : ℕ = core.words (word_of shape (wanted e)) in
    calls_set core.callers j c (answered c call e (answer_to (wanted e) found)) is
    (gone_on_calls (record c { drew = drawn_by c call (answer_to (wanted e) found) }) call (taken e (answer_to (wanted e) found)) (wanted (taken e (answer_to (wanted e) found))))

by_call : (shape : Shape) (j : ℕ) (core : Core) (c : Caller) (is : slice_get core.callers j ≡ Some c) (call : Option Call) (engine : Option Engine)
    → map (λ (c : Caller). c.calls) (turn_of_call shape j core c call engine).callers ≡ map (λ (c : Caller). c.calls) core.callers
by_call shape j core c is None engine = refl
by_call shape j core c is (Some call) None = refl
by_call shape j core c is (Some call) (Some e) = calls_kept shape j core c is call e

turn_calls : (shape : Shape) (c : ℕ) (core : Core) → map (λ (c : Caller). c.calls) (turn shape c core).callers ≡ map (λ (c : Caller). c.calls) core.callers
turn_calls shape zero core = refl
turn_calls shape (suc j) core = by_caller (slice_get core.callers j) refl
  where
    by_caller : (o : Option Caller) → slice_get core.callers j ≡ o → map (λ (c : Caller). c.calls) (turn_of_caller shape j core o).callers ≡ map (λ (c : Caller). c.calls) core.callers
    by_caller None is = refl
    by_caller (Some c) is = by_call shape j core c is (current c) c.engine

pub calls_stay : CallsStay
calls_stay shape core [] = refl
calls_stay shape core (c ∷ turns) = calls_stay shape (turn shape c core) turns ∙ turn_calls shape c core

-- what is used of the world, and of an engine
pub record TurnLaws : Type 0 where
  pub part : IsPart op_part
  pub begins : BeginsSuited
  pub steps : KeepsSuits
  pub words : AsksWords
  pub well : KeepsWell
  pub media : FreeSlotsStayTakenInMedia
  pub full : FullsAreTaken
  pub power : PowerStays
  pub one_word : ChangesOneWord

-- ---- the core
module _ (laws : TurnLaws) (site : Ground) (start : Words) (core : Core) (h : CoreHolds site start core) where
  now_fits : (i : ℕ) → core.words i < 2 ^ 64
  now_fits i = subst (λ x. x < 2 ^ 64) (value_at_now start core.trace i ∙ sym (ap (λ (ws : Words). ws i) h.well.words_are)) (h.fits i (length core.trace))

  abbrev seats : List View
  seats = fresh_view 0 ∷ h.views

  module _ (j : ℕ) (c : Caller) (is : slice_get core.callers j ≡ Some c) (v : View) (at : At h.views j v) (fits : CallerFits site c v) where
    module _ (e : Engine) (is_engine : c.engine ≡ Some e) (calling : IsCalling site c e v) where
      abbrev pub n : ℕ
      n = finds site e core.words

      abbrev pub kind : StepKind
      kind = kind_of e n

      abbrev pub after : List View
      after = changed_at j (view_by site.shape kind n) h.views

      abbrev pub core_after : Core
      core_after = with_event site.shape j core c calling.call e

      pub well_step : StepsWell site e core.words c.site calling.call calling.before v
      well_step = laws.steps site c.site calling.call e core.words seats (suc j) calling.before v fits.place fits.version fits.number (fits.words (length c.entries) calling.call calling.is_current)
          h.powered h.well.holds at calling.suits (now_fits (word_of site.shape (wanted e)))

      -- the world after an event of this want
      abbrev IsWellBy : Want → Type 0
      IsWellBy w = IsWell site start (record {
        words = words_after site.shape w (suc j) core.words;
        trace = event_of site.shape w (core.words (word_of site.shape w)) (suc j) ∷ core.trace;
        views = fresh_view 0 ∷ changed_at j (view_by site.shape kind (core.words (word_of site.shape w))) h.views;
      })

      pub well_after : IsWell site start (world_of core_after after)
      well_after = subst IsWellBy (sym well_step.wants) (laws.well site start kind (world_of core h.views) (suc j) v h.well at well_step.may)

      -- the event is the step of its kind, so that what holds after that holds after it
      by_step : (P : Words → List View → Type 0) → P (words_of_step site kind (suc j) core.words) (views_of_step site kind (suc j) v core.words seats) → P core_after.words (fresh_view 0 ∷ after)
      by_step P holds =
          subst (λ w. P (words_after site.shape w (suc j) core.words) (fresh_view 0 ∷ changed_at j (view_by site.shape kind (core.words (word_of site.shape w))) h.views)) (sym well_step.wants)
          (subst (λ (vs : List View). P (words_of_step site kind (suc j) core.words) (fresh_view 0 ∷ vs)) (sym (changed_is j (view_by site.shape kind (found_of site kind core.words)) h.views v at)) holds)

      pub powered_after : core_after.words (power_word site.shape) ≡ 0
      powered_after = by_step (λ ws vs. ws (power_word site.shape) ≡ 0)
          (laws.power site core.words seats (suc j) v kind (suc j) h.well.holds at (laws.part.power e.op n) well_step.may ∙ h.powered)

      -- whoever is told FULL was so before, or has found each slot taken
      told_full : (found : ℕ) (x : Entry) → Has x (view_by site.shape kind found v).own → x.reply ≡ reply.Full → NoneIsFree site core.words seats
      told_full found x has full = elim (entered_full site kind found v x has full) [
        | inl old ↦ h.full (suc j) v x at old full
        | inr tells ↦ λ s slot was. laws.full site core.words seats (suc j) v tells.0 h.well.holds at (subst (λ (k : StepKind). MayTake site k v) tells.1 well_step.may) s slot
      ]

      pub full_after : FullIsTaken site core_after.words (fresh_view 0 ∷ after)
      full_after = by_step (FullIsTaken site) (λ k u x a has full s slot was.
          laws.media site core.words seats (suc j) v kind (suc j) h.well.holds at well_step.may s slot was
          (each_view seats (suc j) v (view_by site.shape kind (found_of site kind core.words) v) at (λ _ (u : View). Has x u.own → NoneIsFree site core.words seats)
          (λ mine. told_full (found_of site kind core.words) x mine full) (λ i w _ there old. h.full i w x there old full) k u a has s slot was))

      pub word_after : (i : ℕ) → core_after.words i < 2 ^ 64
      word_after i =
          let a = laws.words site c.site calling.call e calling.before v calling.suits in
          subst (λ (ws : Words). ws i < 2 ^ 64) (sym (laws.one_word site.shape (wanted e) (suc j) core.words))
          (replaced_fits core.words (word_of site.shape (wanted e)) (left_by site.shape (wanted e) n) i
          (left_fits site.shape (wanted e) n a.stores a.exchanges (now_fits (word_of site.shape (wanted e)))) (now_fits i))

      -- the entries after it, where the attempt goes on
      entries_after : Suits site c.site calling.call (next_engine site e core.words) calling.before (view_by site.shape kind n v)
          → HasEntries c.entries (drawn_by c calling.call (answer_to (wanted e) n)) (view_by site.shape kind n v).own
      entries_after s =
          subst (λ w. HasEntries c.entries (drawn_by c calling.call (answer_to w n)) (view_by site.shape kind n v).own) (sym well_step.wants)
          (entries_by site c calling.call v n calling.entries
          (λ planned has. let p = planned_is site c.site calling.call calling.before v laws.part e planned calling.suits has in (p.0, p.1 ∙ calling.own_before))
          kind well_step.may
          (let l = at_most_one site c.site calling.call calling.before (view_by site.shape kind n v) (next_engine site e core.words) s in
          subst (λ (es : List Entry). length (view_by site.shape kind n v).own ≤ suc (length es)) calling.own_before l))

      pub caller_after : CallerFits site (answered c calling.call e (answer_to (wanted e) n)) (view_by site.shape kind n v)
      caller_after = gone_on_fits laws.begins site h.well.holds.site_is c fits.place fits.version fits.number fits.words calling.call calling.is_current fits.replied fits.within calling.before
          (view_by site.shape kind n v) calling.own_before (drawn_by c calling.call (answer_to (wanted e) n)) (drawn_call c calling.call calling.drew_call (answer_to (wanted e) n))
          (next_engine site e core.words) (wanted (next_engine site e core.words)) refl well_step.suits well_step.ends entries_after

      abbrev pub stepped : CoreHolds site start core_after
      stepped = record {
        views = after;
        well = well_after;
        powered = powered_after;
        fits = values_fit start _ core.trace h.fits (λ i. subst (λ (ws : Words). ws i < 2 ^ 64) well_after.words_are (word_after i));
        says = h.says;
        served = h.served;
        freed = h.freed;
        full = full_after;
        fenced = fenced_still site.shape (wanted e) n j core.trace ∙ h.fenced;
        each = zip_set (CallerFits site) core.callers h.views j (answered c calling.call e (answer_to (wanted e) n)) v (view_by site.shape kind n) h.each at caller_after;
      }

    by_engine : (engine : Option Engine) → c.engine ≡ engine → DoesCall site c engine v → CoreHolds site start (turn_of_call site.shape j core c (current c) engine)
    by_engine None is_engine through = subst (λ o. CoreHolds site start (turn_of_call site.shape j core c o None)) (sym through.no_call) h
    by_engine (Some e) is_engine calling = subst (λ o. CoreHolds site start (turn_of_call site.shape j core c o (Some e))) (sym calling.is_current) (stepped e is_engine calling)

  by_caller : (j : ℕ) (o : Option Caller) → slice_get core.callers j ≡ o → CoreHolds site start (turn_of_caller site.shape j core o)
  by_caller j None is = h
  by_caller j (Some c) is = let z = zip_at (CallerFits site) core.callers h.views j c h.each is in by_engine j c is z.0 z.1 z.2 c.engine refl z.2.does

  turned : (c : ℕ) → CoreHolds site start (turn site.shape c core)
  turned zero = h
  turned (suc j) = by_caller j (slice_get core.callers j) refl

pub turn_keeps : TurnLaws → TurnKeeps
turn_keeps laws site start core c h = turned laws site start core h c
