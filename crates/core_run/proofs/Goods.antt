-- Each moment of a run is good.
use Rattle.std.proofs.Common.{◌≡◌, ℕ, zero, suc, ◌<◌, List, [], ◌∷◌, length, map, slice_index, inl, refl, sym, ap, ◌∙◌, subst, arith}
use Rattle.std.specs.List.{AllByRecursion}
use Rattle.trace.specs.Media.{IsPossible}
use Rattle.map_model.specs.declared.call.Call.{Call}
use Rattle.map_model.specs.declared.entry.Entry.{Entry}
use Rattle.map_model.specs.declared.entry.Reply.TheVariants.{Full}
use Rattle.map_model.specs.Map.{Map}
use Rattle.map_model.specs.Weave.{all_of, draws, weave_below, weave}
use Rattle.map_model.specs.Legal.{InOrder, IsPlace, AreReplies, IsLegal, replay}
use Rattle.image_layout.specs.Places.{Shape, words_of}
use Rattle.sound_image.specs.Image.{IsSoundImage}
use Rattle.session.specs.Left.{HasPairsOf, IsLeft}
use Rattle.session.specs.Callers.{history_of, undrawn}
use Rattle.restart_op.specs.declared.restart.RestartOp.{RestartOp}
use Rattle.restart_op.specs.declared.close.CloseOp.{CloseOp}
use Rattle.restart_op.specs.Restarted.{restarted, RestartKeeps, KeepsPairs}
use Rattle.restart_op.specs.Closing.{close_after, AllAreQuiet, IsKept, CloseKeeps, ChangesStateAlone}
use Rattle.engine.specs.Core.{Core, told_of, tolds_of, histories}
use Rattle.engine.specs.Good.{HasNoFreeSlot, IsGood}
use Rattle.engine.specs.Holding.{world_of, HoldingIsGood}
use Rattle.engine.specs.Laws.{NoneRuns, ThroughIsQuiet, ThroughHasMap}
use Rattle.core_run.specs.declared.keeper.Keeper.{Keeper}
use Rattle.core_run.specs.declared.keeper.Keeper.TheVariants.{Restarting, Open, Closing, Closed}
use Rattle.core_run.specs.State.{State, waiting_from}
use Rattle.core_run.specs.Running.{Setup, IsSetup, site_in, start_of, IsOpen, IsRestarting, IsClosing, IsRunningBy}
use Rattle.core_run.specs.States.{entries_so_far, HadNoRooms, WereSpent, IsGoodMoment, MomentsAreGood}
use Rattle.core_run.proofs.events.Opened.{same_core as same_restart}
use Rattle.core_run.proofs.events.Closes.{same_core as same_close}
use Rattle.core_run.proofs.events.Locks.{were_spent, were_taken}

-- ---- nothing is told
abbrev waiting_histories : Shape → ℕ → List (List Call) → List (List Entry)
waiting_histories shape number scripts = map history_of (map told_of (waiting_from shape number scripts))

none_in_all : (shape : Shape) (number : ℕ) (scripts : List (List Call)) → all_of (waiting_histories shape number scripts) ≡ []
none_in_all shape number [] = refl
none_in_all shape number (calls ∷ scripts) = none_in_all shape (suc number) scripts

none_in_order : (shape : Shape) (number : ℕ) (scripts : List (List Call)) → AllByRecursion (InOrder 1 0) (waiting_histories shape number scripts)
none_in_order shape number [] = tt
none_in_order shape number (calls ∷ scripts) = (tt, none_in_order shape (suc number) scripts)

module _ (lists : List (List Entry)) (none : all_of lists ≡ []) where
  none_woven : weave lists ≡ []
  none_woven = ap (λ (es : List Entry). weave_below es (suc (draws es))) none

  none_legal : (opening : Map) → AllByRecursion (InOrder 1 0) lists → IsLegal opening lists
  none_legal opening in_order = record {
    callers = in_order;
    places = subst (λ (es : List Entry). AllByRecursion (IsPlace (draws (all_of lists))) es) (sym none) tt;
    each_once = λ n below. absurd (let d : draws (all_of lists) ≡ 0 = ap (λ (es : List Entry). draws es) none in omega (arith, below, d));
    replies = subst (λ (es : List Entry). AreReplies opening es) (sym none_woven) tt;
  }

-- two sound images of a shape begin with the same four words
pub same_shape : (shape : Shape) (one other : List ℕ) → IsSoundImage shape one → IsSoundImage shape other → (i : ℕ) → i < 4 → slice_index one i ≡ slice_index other i
same_shape shape one other a b zero low = a.says_shape.magic_word ∙ sym b.says_shape.magic_word
same_shape shape one other a b (suc zero) low = a.says_shape.format ∙ sym b.says_shape.format
same_shape shape one other a b (suc (suc zero)) low = a.says_shape.segments ∙ sym b.says_shape.segments
same_shape shape one other a b (suc (suc (suc zero))) low = a.says_shape.depth ∙ sym b.says_shape.depth
same_shape shape one other a b (suc (suc (suc (suc i)))) low = absurd (omega (arith, low))

-- ---- during a close
module _ (quiet : ThroughIsQuiet) (maps : ThroughHasMap) (pairs : KeepsPairs) (cuts : CloseKeeps) (t : Setup) (is : IsSetup t) (opening : Map)
    (has : HasPairsOf t.shape (start_of t) opening) (before : Core) (o : IsOpen t before) (none : NoneRuns before) where
  pub quiet_before : AllAreQuiet (site_in t) (start_of t) (world_of before o.holds.views)
  quiet_before = quiet (site_in t) (start_of t) before o.holds none

  pub kept_at : (k : ℕ) (medium : List ℕ) → length medium ≡ words_of t.shape
      → IsPossible (words_of t.shape) (start_of t) (close_after t.shape before.words before.trace k).trace (slice_index medium) → IsKept (site_in t) before.words medium
  kept_at k medium whole possible = cuts (site_in t) (start_of t) (world_of before o.holds.views) quiet_before k medium whole possible

  pub pairs_at : (medium : List ℕ) → IsKept (site_in t) before.words medium → HasPairsOf t.shape (slice_index medium) (replay opening (weave (histories before)))
  pairs_at medium kept =
      kept.pairs (replay opening (weave (histories before)))
      (maps (site_in t) (start_of t) before opening o.holds ((pairs t.shape t.first opening is.served).0 has) none)

-- ---- at any time
module _ (good : HoldingIsGood) (quiet : ThroughIsQuiet) (maps : ThroughHasMap) (restarts : RestartKeeps) (pairs : KeepsPairs) (cuts : CloseKeeps)
    (others : ChangesStateAlone) (t : Setup) (is : IsSetup t) (opening : Map) (has : HasPairsOf t.shape (start_of t) opening) where
  -- by the core alone
  abbrev IsGoodCore : Core → Type 0
  IsGoodCore core = IsGoodMoment t opening (record { keeper = Open; core = core })

  restarting_good : (op : RestartOp) (core : Core) → IsRestarting t op core → IsGoodCore core
  restarting_good op core r =
      let none = none_in_all t.shape 1 t.scripts in
      let lists = waiting_histories t.shape 1 t.scripts in
      let so_far = restarted t.shape t.first r.events in
      let now : Core = record { words = so_far.words; trace = so_far.trace; callers = waiting_from t.shape 1 t.scripts } in
      subst IsGoodCore (sym (same_restart t op core r)) (record {
        legal = none_legal lists none opening (none_in_order t.shape 1 t.scripts);
        media = λ medium whole possible.
            let same = restarts t.shape t.first medium r.events is.served whole possible in
            record {
              sound = same.sound;
              same_shape = same.front;
              left = λ k. inl (subst (λ (es : List Entry). HasPairsOf t.shape (slice_index medium) (replay opening es)) (sym (none_woven lists none)) (same.pairs opening has) k);
            };
        had_no_room = subst (λ (es : List Entry). HadNoRooms t.shape opening es) (sym none) tt;
        full = subst (λ (es : List Entry). AllByRecursion (λ (e : Entry). e.reply ≡ Full → HasNoFreeSlot t.shape (start_of t) now) es) (sym none) tt;
        spent = subst (λ (es : List Entry). WereSpent t.shape so_far.words es) (sym none) tt;
      })

  open_is_good : (core : Core) → IsOpen t core → IsGood t.shape (start_of t) opening core
  open_is_good core o = good (site_in t) (start_of t) core opening o.holds ((pairs t.shape t.first opening is.served).0 has)

  open_good : (core : Core) → IsOpen t core → IsGoodCore core
  open_good core o =
      let g = open_is_good core o in
      record {
        legal = g.legal;
        media = λ medium whole possible.
            let sound = g.media.sound medium whole possible in
            record {
              sound = sound;
              same_shape = same_shape t.shape medium t.first sound is.served;
              left = subst (λ (scripts : List (List Call)). IsLeft t.shape (slice_index medium) (replay opening (weave (histories core))) (undrawn scripts (tolds_of core))) o.scripts
                  (g.media.left medium whole possible);
            };
        had_no_room = g.had_no_room;
        full = g.full;
        spent = g.spent;
      }

  closing_good : (op : CloseOp) (core : Core) → IsClosing t op core → IsGoodCore core
  closing_good op core r =
      let so_far = close_after t.shape r.before.words r.before.trace r.events in
      let now : Core = record { words = so_far.words; trace = so_far.trace; callers = r.before.callers } in
      subst IsGoodCore (sym (same_close t op core r)) (record {
        legal = (open_is_good r.before r.was_open).legal;
        had_no_room = (open_is_good r.before r.was_open).had_no_room;
        full = were_taken t.shape (start_of t) r.before r.events now refl (entries_so_far r.before) (open_is_good r.before r.was_open).full;
        spent = were_spent others t.shape r.before.words r.before.trace r.events (entries_so_far r.before) (open_is_good r.before r.was_open).spent;
        media = λ medium whole possible.
            let kept = kept_at quiet maps pairs cuts t is opening has r.before r.was_open r.run_out r.events medium whole possible in
            record {
              sound = kept.sound;
              same_shape = same_shape t.shape medium t.first kept.sound is.served;
              left = λ k. inl (pairs_at quiet maps pairs cuts t is opening has r.before r.was_open r.run_out medium kept k);
            };
      })

  good_core : (keeper : Keeper) (core : Core) → IsRunningBy t keeper core → IsGoodCore core
  good_core (Restarting op) core r = restarting_good op core r
  good_core Open core r = open_good core r
  good_core (Closing op) core r = closing_good op core r.0
  good_core Closed core r = closing_good r.0 core r.1

  good_moment : (s : State) → IsRunningBy t s.keeper s.core → IsGoodMoment t opening s
  good_moment s r = let g = good_core s.keeper s.core r in record { legal = g.legal; media = g.media; had_no_room = g.had_no_room; full = g.full; spent = g.spent }

pub moments_are_good : HoldingIsGood → ThroughIsQuiet → ThroughHasMap → RestartKeeps → KeepsPairs → CloseKeeps → ChangesStateAlone → MomentsAreGood
moments_are_good good quiet maps restarts pairs cuts others t s opening is run has = good_moment good quiet maps restarts pairs cuts others t is opening has s run
