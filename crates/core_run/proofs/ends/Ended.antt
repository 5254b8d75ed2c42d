-- What a close has left: the newest words, and an answer to each call.
use Rattle.std.proofs.Common.{◌≡◌, ℕ, suc, ◌≤◌, List, [], ◌∷◌, length, map, slice_get, slice_index, None, inl, inr, sym, ap, ◌∙◌, subst, arith}
use Rattle.std.specs.List.{range_with_len, AllByRecursion, AllZip}
use Rattle.std.proofs.lemmas.Bool.{cases_lt}
use Rattle.std.proofs.lemmas.Option.{none-some, slice_get-get_or}
use Rattle.trace.specs.Events.{Words, Trace, value}
use Rattle.trace.specs.Media.{MayHold, IsPossible}
use Rattle.trace.proofs.Media.{may_of_had, newest_may}
use Rattle.map_model.specs.declared.call.Call.{Call}
use Rattle.map_model.specs.declared.call.Call.TheVariants.{Get}
use Rattle.map_model.specs.Map.{Map}
use Rattle.image_layout.specs.Places.{Shape, words_of}
use Rattle.session.specs.Left.{HasPairsOf}
use Rattle.session.specs.Callers.{IsAnswered}
use Rattle.world.specs.Ground.{Ground}
use Rattle.world.specs.Views.{View}
use Rattle.op_core.specs.declared.want.Want.TheVariants.{Done}
use Rattle.restart_op.specs.declared.close.CloseOp.{CloseOp}
use Rattle.restart_op.specs.Close.{wanted}
use Rattle.restart_op.specs.Restarted.{KeepsPairs}
use Rattle.restart_op.specs.Closing.{close_after, CloseKeeps, CloseSettles}
use Rattle.engine.specs.Core.{Caller, Core, open_of, told_of, tolds_of}
use Rattle.engine.specs.Holding.{DoesCall, CallerFits, world_of}
use Rattle.engine.specs.Laws.{ThroughIsQuiet, ThroughHasMap}
use Rattle.core_run.specs.declared.keeper.Keeper.{Keeper}
use Rattle.core_run.specs.declared.keeper.Keeper.TheVariants.{Closed}
use Rattle.core_run.specs.Running.{Setup, IsSetup, site_in, start_of, HasToldInOrder, AllTold, IsClosing, IsRunningBy}
use Rattle.core_run.specs.States.{last_words, IsClosedWell, ClosedIsClosed}
use Rattle.core_run.proofs.events.Closes.{same_core}
use Rattle.core_run.proofs.events.Newest.{close_newest}
use Rattle.core_run.proofs.Leaving.{words_listed, newest_length}
use Rattle.core_run.proofs.Goods.{quiet_before, kept_at, pairs_at}

-- ---- the newest words
newest_possible : (shape : Shape) (start words : Words) (es : Trace) → words ≡ value start es
    → IsPossible (words_of shape) start es (slice_index (map words (range_with_len 0 (words_of shape))))
newest_possible shape start words es is i within =
    subst (λ x. MayHold start es i x) (sym (words_listed shape words i within ∙ ap (λ (ws : Words). ws i) is)) (may_of_had start es i (value start es i) (newest_may start es i))

-- ---- each call is answered
past_end : (calls : List Call) (n : ℕ) → slice_get calls n ≡ None → length calls ≤ n
past_end calls n is = elim (cases_lt n (length calls)) [
  | inl within ↦ absurd (none-some _ (sym is ∙ slice_get-get_or calls n (Get 0) within))
  | inr past ↦ past
]

is_answered : (site : Ground) (t : Setup) (version number : ℕ) (c : Caller) (v : View) → CallerFits site c v → HasToldInOrder t version number c → c.engine ≡ None
    → IsAnswered c.calls (told_of c)
is_answered site t version number c v fits told none =
    let d = subst (λ o. DoesCall site c o v) none fits.does in
    record {
      each = (let most = past_end c.calls (length c.entries) d.no_call in let least = told.within in omega (arith, most, least));
      none_open = ap (λ b. open_of b c.drew) d.begun;
    }

all_answered : (site : Ground) (t : Setup) (version number : ℕ) (callers : List Caller) (views : List View) → AllZip (CallerFits site) callers views
    → AllTold t version number callers → AllByRecursion (λ (c : Caller). c.engine ≡ None) callers
    → AllZip IsAnswered (map (λ (c : Caller). c.calls) callers) (map told_of callers)
all_answered site t version number [] views fits told none = tt
all_answered site t version number (c ∷ callers) [] fits told none = absurd fits
all_answered site t version number (c ∷ callers) (v ∷ views) fits told none = (
  is_answered site t version number c v fits.0 told.0 none.0,
  all_answered site t version (suc number) callers views fits.1 told.1 none.1,
)

-- ---- all of it
module _ (quiet : ThroughIsQuiet) (maps : ThroughHasMap) (pairs : KeepsPairs) (cuts : CloseKeeps) (settles : CloseSettles) (t : Setup) (is : IsSetup t) (opening : Map)
    (has : HasPairsOf t.shape (start_of t) opening) where
  closed_well : (op : CloseOp) (core : Core) → IsClosing t op core → wanted op ≡ Done → IsClosedWell t opening core
  closed_well op core r done =
      let c = close_after t.shape r.before.words r.before.trace r.events in
      let now : Core = record { words = c.words; trace = c.trace; callers = r.before.callers } in
      let last = last_words t now in
      let o = r.was_open in
      let possible = newest_possible t.shape (start_of t) c.words c.trace
      (close_newest t.shape (start_of t) r.before.words r.before.trace o.holds.well.words_are r.events) in
      let whole = newest_length t.shape c.words in
      let end = settles (site_in t) (start_of t) (world_of r.before o.holds.views) (quiet_before quiet maps pairs cuts t is opening has r.before o r.run_out) r.events
      (ap wanted (sym r.op_is) ∙ done) last whole possible in
      subst (λ (k : Core). IsClosedWell t opening k) (sym (same_core t op core r)) (record {
        possible = possible;
        sound = end.sound;
        clean = end.clean;
        pairs = pairs_at quiet maps pairs cuts t is opening has r.before o r.run_out last (kept_at quiet maps pairs cuts t is opening has r.before o r.run_out r.events last whole possible);
        answered = subst (λ (scripts : List (List Call)). AllZip IsAnswered scripts (tolds_of r.before)) o.scripts
            (all_answered (site_in t) t _ 1 r.before.callers o.holds.views o.holds.each o.told r.run_out);
      })

  closed_by : (keeper : Keeper) (core : Core) → keeper ≡ Closed → IsRunningBy t keeper core → IsClosedWell t opening core
  closed_by keeper core at r = let closed = subst (λ (k : Keeper). IsRunningBy t k core) at r in closed_well closed.0 core closed.1 closed.2

pub closed_is_closed : ThroughIsQuiet → ThroughHasMap → KeepsPairs → CloseKeeps → CloseSettles → ClosedIsClosed
closed_is_closed quiet maps pairs cuts settles t s opening is run at has = closed_by quiet maps pairs cuts settles t is opening has s.keeper s.core at run
