-- A close stores no lock word and no header, so that a cut in it leaves no slot free that was not to be left so before.
use Rattle.std.proofs.Common.{◌≡◌, ◌≢◌, ℕ, ◌+◌, ◌^◌, ◌≤◌, ◌⊎◌, cond, List, [], ◌∷◌, ◌∙◌, inl, inr, sym, ap, subst, arith}
use Rattle.std.specs.List.{AllByRecursion}
use Rattle.trace.specs.Events.{Words, Trace, with_word, value}
use Rattle.trace.specs.Media.{MayHold, IsPossible}
use Rattle.trace.specs.Steps.{Writes, HadSinceSettled}
use Rattle.trace.proofs.Media.{had_of_may, may_of_had, may_more, newest_may}
use Rattle.trace.proofs.Replaced.{cases_at, replaced_other}
use Rattle.segment_head.specs.HeadWord.{state_in}
use Rattle.image_layout.specs.Places.{Shape, state_word, head_at, words_of}
use Rattle.map_model.specs.declared.entry.Entry.{Entry}
use Rattle.map_model.specs.declared.entry.Reply.TheVariants.{Full, Spent}
use Rattle.map_model.specs.Weave.{draws}
use Rattle.sound_image.specs.Segments.{frame_of}
use Rattle.segment_table.proofs.stores.Moved.{live_same}
use Rattle.frame_facts.specs.Facts.{IsLiveSlot}
use Rattle.world.specs.Ground.{HasSpentLock}
use Rattle.world.specs.Wants.{word_of, event_of}
use Rattle.world.proofs.basics.Structures.{live_lock}
use Rattle.restart_op.specs.declared.close.CloseStep.{CloseStep}
use Rattle.restart_op.specs.declared.close.CloseStep.TheVariants as step
use Rattle.restart_op.specs.Close.{wanted_in}
use Rattle.restart_op.specs.Closing.{close_after, ChangesStateAlone}
use Rattle.restart_op.proofs.closes.CloseAlong.{along}
use Rattle.engine.specs.Core.{Core}
use Rattle.engine.specs.Good.{HasNoFreeSlot}
use Rattle.core_run.specs.States.{WereSpent}

-- where P holds of each element, so does what follows from it
each_has : {X : Type 0} (P Q : X → Type 0) → ((x : X) → P x → Q x) → (xs : List X) → AllByRecursion P xs → AllByRecursion Q xs
each_has P Q follows [] all = tt
each_has P Q follows (x ∷ xs) all = (follows x all.0, each_has P Q follows xs all.1)

module _ (others : ChangesStateAlone) (shape : Shape) (words : Words) (es : Trace) (n : ℕ) where
  -- so live segments stay so
  lives : (s : ℕ) → IsLiveSlot (frame_of shape words) s → IsLiveSlot (frame_of shape (close_after shape words es n).words) s
  lives s l = record {
    slot = l.slot;
    live = live_same (frame_of shape words) (frame_of shape (close_after shape words es n).words) s (others shape words es n (head_at shape s + 1) (λ q. omega (arith, q))) l.live;
  }

  spent_stays : HasSpentLock shape words → HasSpentLock shape (close_after shape words es n).words
  spent_stays (lock, (is, spent)) = (lock, (live_lock shape words (close_after shape words es n).words lock lives is, others shape words es n lock (λ q. let at = is.4 in omega (arith, q, at)) ∙ spent))

  pub were_spent : (entries : List Entry) → WereSpent shape words entries → WereSpent shape (close_after shape words es n).words entries
  were_spent entries =
      each_has (λ (e : Entry). e.reply ≡ Spent → (2 ^ 63 ≤ draws entries) ⊎ HasSpentLock shape words)
      (λ (e : Entry). e.reply ≡ Spent → (2 ^ 63 ≤ draws entries) ⊎ HasSpentLock shape (close_after shape words es n).words)
      (λ e had refused. elim (had refused) [ inl many ↦ inl many | inr lock ↦ inr (spent_stays lock) ]) entries

-- ---- what a cut may leave of a word that a close does not store
module _ (shape : Shape) (start : Words) (i : ℕ) (other : i ≢ state_word) where
  writes_none : (s : CloseStep) (now : Words) (n x : ℕ) → Writes now (event_of shape (wanted_in s) n 0) i x → ⊥
  writes_none (step.Flush line waiting) now n x w = w
  writes_none (step.Fence line) now n x w = w
  writes_none step.Load now n x w = w
  writes_none (step.Store state) now n x w = other w.0
  writes_none step.FlushState now n x w = w
  writes_none step.FenceState now n x w = w
  writes_none step.Ended now n x w = w

  -- since it was settled it had no other values than before the close
  had_before : (words : Words) (es : Trace) (n x : ℕ) → HadSinceSettled start (close_after shape words es n).trace i x → HadSinceSettled start es i x
  had_before words es n = along shape (λ s ws ts. (x : ℕ) → HadSinceSettled start ts i x → HadSinceSettled start es i x)
      (λ s ws ts before x had. elim (may_more start (event_of shape (wanted_in s) (ws (word_of shape (wanted_in s))) 0) ts i x had) [
        | inl w ↦ absurd (writes_none s (value start ts) (ws (word_of shape (wanted_in s))) x w)
        | inr h ↦ before x h
      ])
      words es (λ x had. had) n

module _ (shape : Shape) (start : Words) (before : Core) (n : ℕ) where
  abbrev closed_trace : Trace
  closed_trace = (close_after shape before.words before.trace n).trace

  -- what a cut in the close may leave, with the state word of before
  abbrev with_state : Words → Words
  with_state medium = with_word medium state_word (value start before.trace state_word)

  -- might have been left before the close
  was_possible : (medium : Words) → IsPossible (words_of shape) start closed_trace medium → IsPossible (words_of shape) start before.trace (with_state medium)
  was_possible medium possible i within = cases_at (λ b. MayHold start before.trace i (cond b (value start before.trace state_word) (medium i))) i state_word
      (λ at. may_of_had start before.trace i (value start before.trace state_word)
      (subst (λ k. HadSinceSettled start before.trace k (value start before.trace state_word)) (sym at) (newest_may start before.trace state_word)))
      (λ other. may_of_had start before.trace i (medium i)
      (had_before shape start i other before.words before.trace n (medium i) (had_of_may start closed_trace i (medium i) (possible i within))))

  -- so no slot is free in the one that was free in the image, where none is in the other
  stay_taken : (core : Core) → core.trace ≡ closed_trace → HasNoFreeSlot shape start before → HasNoFreeSlot shape start core
  stay_taken core is taken medium possible s slot was_free is_free =
      taken (with_state medium) (was_possible medium (subst (λ es. IsPossible (words_of shape) start es medium) is possible)) s slot was_free
      (ap state_in (replaced_other medium state_word (value start before.trace state_word) (head_at shape s + 1) (λ q. omega (arith, q))) ∙ is_free)

  pub were_taken : (core : Core) → core.trace ≡ closed_trace → (entries : List Entry) → AllByRecursion (λ (e : Entry). e.reply ≡ Full → HasNoFreeSlot shape start before) entries
      → AllByRecursion (λ (e : Entry). e.reply ≡ Full → HasNoFreeSlot shape start core) entries
  were_taken core is =
      each_has (λ (e : Entry). e.reply ≡ Full → HasNoFreeSlot shape start before) (λ (e : Entry). e.reply ≡ Full → HasNoFreeSlot shape start core)
      (λ e had refused. stay_taken core is (had refused))
