-- A run that ends by a close is a session.
use Rattle.std.proofs.Common.{◌≡◌, ℕ, zero, suc, ◌+◌, ◌-◌, ◌^◌, ◌<◌, ◌≤◌, List, [], ◌∷◌, length, map, slice_get, slice_index, None, inl, inr, refl, sym, ap, ◌∙◌, subst, arith}
use Rattle.std.specs.List.{AllByRecursion, AllZip}
use Rattle.std.proofs.lemmas.Option.{none-some}
use Rattle.trace.specs.Events.{Words, value, with_word}
use Rattle.trace.specs.Media.{IsPossible}
use Rattle.trace.proofs.Media.{may_of_had, newest_may}
use Rattle.trace.proofs.Replaced.{replaced_other}
use Rattle.segment_head.specs.HeadWord.{state_in}
use Rattle.bucket_meta.specs.Bucket.{lock_version}
use Rattle.map_model.specs.declared.call.Call.{Call}
use Rattle.map_model.specs.Weave.{all_of}
use Rattle.image_layout.specs.Places.{Shape, head_at, bucket_at, state_word, words_of}
use Rattle.sound_image.specs.Segments.{frame_of}
use Rattle.segment_table.proofs.stores.Moved.{live_same}
use Rattle.session.specs.Callers.{FollowsScript, IsAnswered}
use Rattle.session.specs.Session.{HasSpentBucket}
use Rattle.world.specs.Ground.{Ground, HasSpentLock}
use Rattle.world.specs.Views.{View}
use Rattle.restart_op.specs.Restarted.{site_of, KeepsPairs}
use Rattle.restart_op.specs.Closing.{IsClosed, CloseKeeps, CloseSettles, CloseMarks}
use Rattle.engine.specs.Core.{Caller, Core, run, told_of, tolds_of, histories, open_of}
use Rattle.engine.specs.Holding.{DoesCall, CallerFits, world_of, RunKeeps}
use Rattle.engine.specs.Laws.{opened, OpenedHolds, TurnsKeep, CallsAreScripts, ThroughIsQuiet, ThroughHasMap}
use Rattle.engine.specs.Sessions.{CloseIsSession}
use Rattle.engine.proofs.sessions.CutSession.{same_shape, holds_at}

-- ---- all calls are answered
past_end : (calls : List Call) (n : ℕ) → slice_get calls n ≡ None → n ≤ length calls → n ≡ length calls
past_end [] n is le = omega (arith, le)
past_end (x ∷ calls) zero is le = absurd (none-some x (sym is))
past_end (x ∷ calls) (suc n) is le = let r = past_end calls n is (omega (arith, le)) in ap suc r

answered : (site : Ground) (c : Caller) (v : View) → CallerFits site c v → c.engine ≡ None → IsAnswered c.calls (told_of c)
answered site c v fits is =
    let d = subst (λ o. DoesCall site c o v) is fits.does in
    record { each = past_end c.calls (length c.entries) d.no_call fits.within; none_open = ap (λ b. open_of b c.drew) d.begun }

all_answered : (site : Ground) (callers : List Caller) (views : List View) → AllZip (CallerFits site) callers views → AllByRecursion (λ c. c.engine ≡ None) callers
    → AllZip IsAnswered (map (λ (c : Caller). c.calls) callers) (map told_of callers)
all_answered site [] views all none = tt
all_answered site (c ∷ callers) [] all none = absurd all
all_answered site (c ∷ callers) (v ∷ views) all none = (answered site c v all.0 none.0, all_answered site callers views all.1 none.1)

-- ---- a lock word of the last version stays through a close
module _ (shape : Shape) (words after : Words) (medium : List ℕ) (x : ℕ) (shut : IsClosed shape after medium) (marked : after ≡ with_word words state_word x) where
  -- and a header does
  header : (s : ℕ) → s < shape.segments → slice_index medium (head_at shape s + 1) ≡ words (head_at shape s + 1)
  header s slot =
      shut.settled (head_at shape s + 1) (omega (arith, slot))
      ∙ (ap (λ (ws : Words). ws (head_at shape s + 1)) marked ∙ replaced_other words state_word x (head_at shape s + 1) (λ q. omega (arith, q)))

  spent_bucket : HasSpentLock shape words → HasSpentBucket shape medium
  spent_bucket lock =
      let s = lock.1.0.0 in
      let b = lock.1.0.1 in
      let slot = lock.1.0.2 in
      let low = lock.1.0.3 in
      let at = lock.1.0.4 in
      let there : slice_index medium (bucket_at shape s b) ≡ 2 ^ 64 - 2 =
      shut.settled (bucket_at shape s b) (omega (arith, slot, low))
      ∙ (ap (λ (ws : Words). ws (bucket_at shape s b)) marked
      ∙ (replaced_other words state_word x (bucket_at shape s b) (λ q. omega (arith, q))
      ∙ (ap words (sym at) ∙ lock.1.1))) in
      record {
        s = s;
        b = b;
        slot = slot;
        bucket = low;
        live = live_same (frame_of shape words) (frame_of shape (slice_index medium)) s (header s slot) lock.1.0.5.live;
        spent = ap lock_version there;
      }

-- the newest words may be left
newest_possible : (start : Words) (core : Core) → core.words ≡ value start core.trace → (width : ℕ) → IsPossible width start core.trace core.words
newest_possible start core are width = subst (λ (ws : Words). IsPossible width start core.trace ws) (sym are) (λ i within. may_of_had start core.trace i (value start core.trace i) (newest_may start core.trace i))

pub close_is_session : TurnsKeep → CallsAreScripts → OpenedHolds → RunKeeps → ThroughIsQuiet → ThroughHasMap → KeepsPairs → CloseKeeps → CloseSettles → CloseMarks → CloseIsSession
close_is_session keep are opens keeps is_quiet has_map pairs close_keeps settles marks shape words image opening has scripts fit turns none n ended medium whole possible scheduled =
    let core = run shape turns (opened shape words scripts) in
    let site = site_of shape words (length scripts) in
    let good = keep shape words image opening has scripts fit turns in
    let calls = are shape words scripts turns in
    let h = keeps site (slice_index words) (opened shape words scripts) turns (opens shape words scripts image fit) in
    let quiet = is_quiet site (slice_index words) core h none in
    let kept = close_keeps site (slice_index words) (world_of core h.views) quiet n medium whole possible in
    let shut = settles site (slice_index words) (world_of core h.views) quiet n ended medium whole possible in
    let marked = marks site (slice_index words) (world_of core h.views) quiet n ended in
    record {
      tolds = tolds_of core;
      printed = refl;
      scripted = subst (λ css. AllZip FollowsScript css (tolds_of core)) calls good.scripted;
      opening = opening;
      opening_pairs = has;
      legal = good.legal;
      sound = kept.sound;
      same_shape = same_shape shape words medium image.says_shape kept.sound.says_shape;
      after_close = λ is. record {
        answered = subst (λ css. AllZip IsAnswered css (tolds_of core)) calls (all_answered site core.callers h.views h.each none);
        clean = shut.clean;
        pairs = kept.pairs _ (has_map site (slice_index words) core opening h ((pairs shape words opening image).0 has) none);
      };
      after_cut = λ cut. absurd (let z = cut in cc);
      had_no_room = good.had_no_room;
      none_free = λ e there full s low was_free is_free.
          holds_at _ (all_of (histories core)) e good.full there.0 there.1 there.2 full core.words (newest_possible (slice_index words) core h.well.words_are (words_of shape)) s low was_free
          (sym (ap state_in (header shape core.words _ medium _ shut marked s low)) ∙ is_free);
      spent = λ e there is few may. elim (holds_at _ (all_of (histories core)) e good.spent there.0 there.1 there.2 is) [
        | inl many ↦ absurd (omega (arith, many, few))
        | inr lock ↦ spent_bucket shape core.words _ medium _ shut marked lock
      ];
    }
