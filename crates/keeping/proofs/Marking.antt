-- A close, event by event, and what it leaves.
use Rattle.std.proofs.Common.{◌≡◌, ◌≢◌, ℕ, suc, ◌+◌, ◌*◌, ◌/◌, ◌%◌, ◌^◌, ◌<◌, ◌≤◌, inl, inr, cond, List, ◌∷◌, length, refl, sym, ap, subst, ◌∙◌, arith}
use Rattle.std.specs.Prelude.{slice_index}
use Rattle.std.proofs.lemmas.Bool.{cases_eq}
use Rattle.std.proofs.lemmas.List.{ext_get_or, length-set, get_or-set_same, get_or-set_other}
use Rattle.op_core.specs.declared.want.Want.{Want}
use Rattle.op_core.specs.declared.want.Want.TheVariants as want
use Rattle.op_core.specs.declared.want.Ans.{Ans}
use Rattle.trace.specs.Events.{Words, Event, Trace, value, after, with_word}
use Rattle.trace.specs.Progress.{pending}
use Rattle.trace.proofs.Replaced.{cases_at, replaced_same, replaced_other}
use Rattle.image_layout.specs.Places.{Shape, state_word, words_of}
use Rattle.image_layout.specs.Volatile.{all_words_of}
use Rattle.sound_image.specs.Image.{IsSoundImage}
use Rattle.world.specs.Wants.{answer_to, word_of, event_of}
use Rattle.restart_op.specs.declared.close.CloseStep.TheVariants.{Ended}
use Rattle.restart_op.specs.declared.close.CloseOp.{CloseOp}
use Rattle.restart_op.specs.Close.{wanted, taken, begun}
use Rattle.image_layout.specs.StateWord.{with_marker}
use Rattle.restart_op.specs.Closing.{close_after, left}
use Rattle.restart_op.proofs.closes.CloseAlong.{along}
use Rattle.restart_op.proofs.closes.CloseLines.{LineIn, line_on, word_in, line_in}
use Rattle.restart_op.proofs.closes.CloseEnding.{falls, few_wait}
use Rattle.restart_op.proofs.closes.ClosePhases.{Phase, phase_at, at_end}
use Rattle.pm_trace.specs.Memory.{Memory, unfenced}
use Rattle.pm_trace.specs.TraceOf.{IsTraceOf}
use Rattle.keeping.specs.Asked.{MayBeAsked, found_by}
use Rattle.keeping.specs.Kept.{IsTraced, image_of, marked_image, IsSettled, IsClosedFrom}
use Rattle.keeping.proofs.Pictures.{image_word, image_whole, none_pending, settled_had}
use Rattle.keeping.proofs.Events.{HasPassed}

-- ---- where it stands
-- after so many events of a close of the old memory the machine is this one, and the memory came from them
pub record IsAt (start : Words) (es : Trace) (old now : Memory) (op : CloseOp) : Type 0 where
  pub events : ℕ
  pub op_is : op ≡ (close_after old.shape (value start es) es events).op
  pub words_are : (close_after old.shape (value start es) es events).words ≡ value start (close_after old.shape (value start es) es events).trace
  pub traced : IsTraceOf start (close_after old.shape (value start es) es events).trace now

-- whatever led to the old memory
pub record ClosesOn (old now : Memory) (op : CloseOp) : Type 0 where
  pub shape : now.shape ≡ old.shape
  pub callers : now.callers ≡ old.callers
  pub at : (start : Words) (es : Trace) → IsTraceOf start es old → IsAt start es old now op

pub closes_first : (old : Memory) (op : CloseOp) → op ≡ begun old.shape → ClosesOn old old op
closes_first old op is = record {
  shape = refl;
  callers = refl;
  at = λ start es t. record { events = 0; op_is = is; words_are = refl; traced = t };
}

module _ (old now new : Memory) (op : CloseOp) (w : Want) (ans : Ans) (shape : now.shape ≡ old.shape) (w_is : w ≡ wanted op) (p : HasPassed now w ans new)
    (start : Words) (es : Trace) (a : IsAt start es old now op) where
  abbrev was_words : Words
  was_words = (close_after old.shape (value start es) es a.events).words

  abbrev was_trace : Trace
  was_trace = (close_after old.shape (value start es) es a.events).trace

  abbrev was_op : CloseOp
  was_op = (close_after old.shape (value start es) es a.events).op

  abbrev found : ℕ
  found = was_words (word_of old.shape (wanted was_op))

  want_is : w ≡ wanted was_op
  want_is = w_is ∙ ap wanted a.op_is

  found_is : found_by w now ≡ found
  found_is =
      a.traced.newest (word_of now.shape w)
      ∙ ap (λ (f : Words). f (word_of now.shape w)) (sym a.words_are)
      ∙ ap (λ (s : Shape). was_words (word_of s w)) shape
      ∙ ap (λ (v : Want). was_words (word_of old.shape v)) want_is

  answer_is : ans ≡ answer_to (wanted was_op) found
  answer_is = p.answer ∙ ap (λ (n : ℕ). answer_to w n) found_is ∙ ap (λ (v : Want). answer_to v found) want_is

  event_is : event_of now.shape w (found_by w now) 0 ≡ event_of old.shape (wanted was_op) found 0
  event_is =
      ap (λ (s : Shape). event_of s w (found_by w now) 0) shape
      ∙ ap (λ (n : ℕ). event_of old.shape w n 0) found_is
      ∙ ap (λ (v : Want). event_of old.shape v found 0) want_is

  at_next : IsAt start es old new (taken op ans)
  at_next = record {
    events = suc a.events;
    op_is = ap (λ (o : CloseOp). taken o ans) a.op_is ∙ ap (λ (b : Ans). taken was_op b) answer_is;
    words_are = ap (λ (f : Words). after (event_of old.shape (wanted was_op) found 0) f) a.words_are;
    traced = subst (λ (e : Event). IsTraceOf start (e ∷ was_trace) new) event_is (p.follows start was_trace a.traced);
  }

pub closes_on : (old now new : Memory) (op next : CloseOp) (w : Want) (ans : Ans) → ClosesOn old now op → w ≡ wanted op → HasPassed now w ans new
    → next ≡ taken op ans
    → ClosesOn old new next
closes_on old now new op next w ans c is p took =
    subst (λ (o : CloseOp). ClosesOn old new o) (sym took)
    (record {
      shape = p.shape ∙ c.shape;
      callers = p.callers ∙ c.callers;
      at = λ start es t. at_next old now new op w ans c.shape is p start es (c.at start es t);
    })

pub close_falls : (now : Memory) (op next : CloseOp) (w : Want) (ans : Ans) → (w ≡ want.Done → ⊥) → w ≡ wanted op → ans ≡ answer_to w (found_by w now)
    → next ≡ taken op ans → left next < left op
close_falls now op next w ans some is answer took =
    let all : next ≡ taken op (answer_to (wanted op) (found_by w now)) =
    took ∙ ap (λ (b : Ans). taken op b) (answer ∙ ap (λ (v : Want). answer_to v (found_by w now)) is) in
    subst (λ (o : CloseOp). left o < left op) (sym all) (falls op (found_by w now) (λ done. some (is ∙ done)))

-- ---- it may be asked for
module _ (old : Memory) (traced : IsTraced old) (none : unfenced 0 old ≡ 0) (now : Memory) (op : CloseOp) (c : ClosesOn old now op) where
  abbrev here : IsAt traced.0 traced.1 old now op
  here = c.at traced.0 traced.1 traced.2

  abbrev words_here : Words
  words_here = (close_after old.shape (value traced.0 traced.1) traced.1 here.events).words

  abbrev trace_here : Trace
  trace_here = (close_after old.shape (value traced.0 traced.1) traced.1 here.events).trace

  abbrev op_here : CloseOp
  op_here = (close_after old.shape (value traced.0 traced.1) traced.1 here.events).op

  in_image : LineIn old.shape op_here.step words_here trace_here
  in_image = along old.shape (LineIn old.shape) (line_on old.shape) (value traced.0 traced.1) traced.1 (omega arith) here.events

  few : (l : ℕ) → wanted op_here ≡ want.Flush l → unfenced 0 now < 8
  few l is =
      let most = few_wait old.shape (value traced.0 traced.1) traced.1 (none_pending old traced.0 traced.1 traced.2 none) (suc here.events) in
      let one_more : length (pending 0 trace_here) < 8 =
      subst (λ (w : Want). length (pending 0 (event_of old.shape w (words_here (word_of old.shape w)) 0 ∷ trace_here)) ≤ 8) is most in
      let once = here.traced.once 0 in omega (arith, one_more, once)

  may_here : wanted op_here ≢ want.Done → MayBeAsked 0 (wanted op_here) now
  may_here some = record {
    caller_is = omega arith;
    word = subst (λ (s : Shape). word_of s (wanted op_here) < all_words_of s) (sym c.shape) (word_in old.shape op_here.step words_here trace_here in_image);
    line = λ l is. subst (λ (s : Shape). 8 * l + 8 ≤ words_of s) (sym c.shape) (line_in old.shape op_here.step words_here trace_here in_image l is);
    few = few;
    some = some;
  }

  pub close_may : (w : Want) → w ≡ wanted op → (w ≡ want.Done → ⊥) → MayBeAsked 0 w now
  close_may w is some =
      let at : w ≡ wanted op_here = is ∙ ap wanted here.op_is in
      subst (λ (v : Want). MayBeAsked 0 v now) (sym at) (may_here (λ done. some (at ∙ done)))

-- ---- its end
module _ (old new : Memory) (op : CloseOp) (c : ClosesOn old new op) (done : wanted op ≡ want.Done) where
  pub closed_from : (start : Words) (es : Trace) → IsTraceOf start es old → IsClosedFrom start es old new
  closed_from start es t =
      let a = c.at start es t in
      record { events = a.events; ended = ap wanted (sym a.op_is) ∙ done; traced = a.traced }

  module _ (traced : IsTraced old) where
    abbrev was : Words
    was = value traced.0 traced.1

    abbrev end : IsClosedFrom traced.0 traced.1 old new
    end = closed_from traced.0 traced.1 traced.2

    abbrev trace_end : Trace
    trace_end = (close_after old.shape was traced.1 end.events).trace

    abbrev words_end : Words
    words_end = (close_after old.shape was traced.1 end.events).words

    phase : Phase old.shape traced.0 traced.1 was Ended words_end trace_end
    phase = at_end old.shape traced.0 traced.1 was (close_after old.shape was traced.1 end.events).op.step words_end trace_end end.ended
        (phase_at old.shape traced.0 traced.1 was refl end.events)

    newest_is : (w : ℕ) → slice_index new.newest w ≡ with_word was state_word (with_marker (was state_word)) w
    newest_is w = end.traced.newest w ∙ ap (λ (f : Words). f w) phase.0.value_is

    pub marker_set : slice_index new.newest state_word ≡ with_marker (slice_index old.newest state_word)
    marker_set = newest_is state_word ∙ replaced_same was state_word (with_marker (was state_word)) ∙ ap with_marker (sym (traced.2.newest state_word))

    pub others_closed : (w : ℕ) → (w ≡ state_word → ⊥) → slice_index new.newest w ≡ slice_index old.newest w
    others_closed w other = newest_is w ∙ replaced_other was state_word (with_marker (was state_word)) w other ∙ sym (traced.2.newest w)

    pub settled_all : IsSettled new
    settled_all w within =
        phase.1 w (slice_index new.settled w) (subst (λ (s : Shape). w < words_of s) c.shape within) (settled_had new traced.0 trace_end w end.traced)
        ∙ sym (newest_is w)

    pub image_is : image_of new ≡ marked_image old
    image_is =
        let state = with_marker (slice_index old.newest state_word) in
        let width = ap (λ (s : Shape). words_of s) c.shape in
        ext_get_or 0 (image_of new) (marked_image old) (image_whole new ∙ width ∙ sym (image_whole old) ∙ sym (length-set (image_of old) state_word state))
        (λ i within.
        let low : i < words_of new.shape = subst (λ (n : ℕ). i < n) (image_whole new) within in
        image_word new i low ∙ word_is i (subst (λ (n : ℕ). i < n) width low))
      where
        word_is : (i : ℕ) → i < words_of old.shape → slice_index new.newest i ≡ slice_index (marked_image old) i
        word_is i low = elim (cases_eq i state_word) [
          | inl at ↦ subst (λ (j : ℕ). slice_index new.newest j ≡ slice_index (marked_image old) j) (sym at)
              (marker_set ∙ sym (get_or-set_same (image_of old) state_word (with_marker (slice_index old.newest state_word)) 0
              (let whole = image_whole old in omega (arith, whole))))
          | inr other ↦ others_closed i other ∙ sym (image_word old i low)
              ∙ sym (get_or-set_other (image_of old) state_word i (with_marker (slice_index old.newest state_word)) 0 other)
        ]

    pub sound_closed : IsSoundImage old.shape (marked_image old) → IsSoundImage new.shape (image_of new)
    sound_closed sound =
        subst (λ (s : Shape). IsSoundImage s (image_of new)) (sym c.shape) (subst (λ (ws : List ℕ). IsSoundImage old.shape ws) (sym image_is) sound)

    has_marker : (x : ℕ) → with_marker x / 2 ^ 8 % 2 ≡ 1
    has_marker x = cases_at (λ b. cond b x (x + 2 ^ 8) / 2 ^ 8 % 2 ≡ 1) (x / 2 ^ 8 % 2) 1 (λ e. e) (λ n. omega (arith, n))

    pub clean_closed : slice_index (image_of new) state_word / 2 ^ 8 % 2 ≡ 1
    clean_closed = ap (λ (n : ℕ). n / 2 ^ 8 % 2) (image_word new state_word (omega arith) ∙ marker_set) ∙ has_marker (slice_index old.newest state_word)
