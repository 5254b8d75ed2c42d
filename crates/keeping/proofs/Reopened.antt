-- A restart, event by event, and what it leaves.
use Rattle.std.proofs.Common.{◌≡◌, ◌≢◌, ℕ, suc, ◌+◌, ◌-◌, ◌*◌, ◌<◌, ◌≤◌, ◌⊎◌, inl, inr, Bool, true, false, ◌∷◌, length, refl, sym, ap, subst, ◌∙◌, arith}
use Rattle.std.specs.Prelude.{slice_index, nat_lt, if◌then◌else◌}
use Rattle.std.proofs.lemmas.Bool.{cases_lt, ltb-false}
use Rattle.op_core.specs.declared.want.Want.{Want}
use Rattle.op_core.specs.declared.want.Want.TheVariants as want
use Rattle.op_core.specs.declared.want.Ans.{Ans}
use mathlib.Core.Path.{fun_ext}
use Rattle.segment_head.specs.Versions.{unversioned}
use Rattle.trace.specs.Events.{Words, line_of, Event, Trace, value, value_at, after}
use Rattle.trace.specs.Events.Event.{fenced}
use Rattle.trace.specs.Progress.{pending, latest_of, settled_moment, HadSince}
use Rattle.trace.specs.Listed.{Has}
use Rattle.trace.specs.Steps.{settled_value}
use Rattle.trace.proofs.Moments.{had_at}
use Rattle.trace.proofs.Flushes.{latest_is, latest_before}
use Rattle.trace.proofs.Media.{fence_since, settled_may}
use Rattle.trace.proofs.SettledValues.{is_settled, settled_value_more, settled_value_earlier, settled_value_later}
use Rattle.image_layout.specs.Places.{Shape, state_word, words_of}
use Rattle.image_layout.specs.Volatile.{all_words_of}
use Rattle.map_model.specs.Map.{Map}
use Rattle.sound_image.specs.Image.{IsSoundImage}
use Rattle.session.specs.Left.{HasPairsOf}
use Rattle.world.specs.Wants.{answer_to, word_of, event_of}
use Rattle.world.specs.areas.Areas.{header_word}
use Rattle.world.proofs.stepping.Answers.{is_answer}
use Rattle.restart_op.specs.declared.restart.Started.{Started}
use Rattle.restart_op.specs.declared.restart.RestartStep.{RestartStep}
use Rattle.restart_op.specs.declared.restart.RestartStep.TheVariants.{Load, LoadHead, StoreHead, FlushHead, FenceHeads, Store, Flush, Fence, Ended}
use Rattle.restart_op.specs.declared.restart.RestartOp.{RestartOp}
use Rattle.restart_op.specs.Restart.{started_for, swept_through, wanted_in, wanted, next_in, taken, begun}
use Rattle.restart_op.specs.Budget.{left, IsOnStateOrHead}
use Rattle.restart_op.specs.Restarted.{restart_after, HasStarted, HasTheSame}
use Rattle.restart_op.proofs.restarts.Along.{same_geometry}
use Rattle.restart_op.proofs.restarts.Counting.{falls, on_words}
use Rattle.restart_op.proofs.restarts.Phases.{Leaving, AllSettled, IsStored, Phase, has_started, phase_at}
use Rattle.restart_op.proofs.restarts.Asking.{word_in, line_in, few_in}
use Rattle.restart_op.proofs.restarts.Cuts.{stored}
use Rattle.restart_op.proofs.restarts.Versions.{some_and_fits}
use Rattle.pm_trace.specs.Memory.{Memory, unfenced}
use Rattle.pm_trace.specs.TraceOf.{IsTraceOf}
use Rattle.keeping.specs.Asked.{MayBeAsked, found_by}
use Rattle.keeping.specs.Kept.{IsTraced, image_of, IsSettled, steps_for, swept_slots, IsRestartedFrom}
use Rattle.keeping.proofs.Events.{HasPassed}
use Rattle.keeping.proofs.Pictures.{image_word, image_whole, image_past, none_pending}

-- ---- what is settled
-- the settled value of a word is what a restart may leave it as
leaving_settled : (base : Words) → Leaving base (λ es i x. x ≡ settled_value base es i)
leaving_settled base = record {
  more = λ e es i x other is. inr (is ∙ settled_value_more base e es i other);
  fence = λ es i x is. elim (cases_lt (settled_moment (line_of i) es) (latest_of (line_of i) (pending 0 es))) [
    | inl later ↦ inr (flushed es i x later (is ∙ settled_value_later base es 0 i (omega (arith, later))) (latest_is (line_of i) (pending 0 es)))
    | inr none ↦ inl (is ∙ settled_value_earlier base es 0 i none)
  ];
  since = λ es i m x has is. subst (λ y. HadSince base es m i y) (sym is) (fence_since base es 0 i m _ has (settled_may base (fenced 0 ∷ es) i));
}
  where
    flushed : (es : Trace) (i x : ℕ) → settled_moment (line_of i) es < latest_of (line_of i) (pending 0 es) → x ≡ value_at base es (latest_of (line_of i) (pending 0 es)) i
        → (latest_of (line_of i) (pending 0 es) ≡ 0) ⊎ Has (line_of i, latest_of (line_of i) (pending 0 es)) (pending 0 es)
        → (m : ℕ) × Has (line_of i, m) (pending 0 es) × HadSince base es m i x
    flushed es i x later is (inl none) = absurd (omega (arith, later, none))
    flushed es i x later is (inr has) =
        let m = latest_of (line_of i) (pending 0 es) in
        (m, has, subst (λ y. HadSince base es m i y) (sym is) (had_at base es m m i (omega arith) (latest_before 0 es (line_of i))))

-- ---- where it stands
-- after so many events of a restart of the old memory the machine is this one, and the memory came from them
pub record IsAt (start : Words) (es : Trace) (old now : Memory) (op : RestartOp) : Type 0 where
  pub events : ℕ
  pub op_is : op ≡ (restart_after old.shape (value start es) es events).op
  pub words_are : (restart_after old.shape (value start es) es events).words ≡ value start (restart_after old.shape (value start es) es events).trace
  pub traced : IsTraceOf start (restart_after old.shape (value start es) es events).trace now

-- how many steps it has taken
abbrev pub steps_in : Shape → RestartStep → ℕ
steps_in shape Load = 0
steps_in shape (LoadHead first slot) = 1 + slot
steps_in shape (StoreHead first slot head) = 2 + slot
steps_in shape (FlushHead slot end) = 1 + end
steps_in shape (FenceHeads end) = 1 + end
steps_in shape (Store started) = 1 + swept_slots shape started
steps_in shape (Flush started) = 1 + swept_slots shape started
steps_in shape (Fence started) = 1 + swept_slots shape started
steps_in shape (Ended started) = 1 + swept_slots shape started

-- whatever led to the old memory; and so many steps were counted
pub record RestartsOn (old now : Memory) (before counted : ℕ) (op : RestartOp) : Type 0 where
  pub shape : now.shape ≡ old.shape
  pub callers : now.callers ≡ old.callers
  pub at : (start : Words) (es : Trace) → IsTraceOf start es old → IsAt start es old now op
  pub count : counted ≡ before + steps_in old.shape op.step

pub restarts_first : (old : Memory) (before : ℕ) (op : RestartOp) → op ≡ begun old.shape → RestartsOn old old before before op
restarts_first old before op is = record {
  shape = refl;
  callers = refl;
  at = λ start es t. record { events = 0; op_is = is; words_are = refl; traced = t };
  count = subst (λ (o : RestartOp). before ≡ before + steps_in old.shape o.step) (sym is) (omega arith);
}

-- ---- one event
module _ (old now new : Memory) (op : RestartOp) (w : Want) (ans : Ans) (shape : now.shape ≡ old.shape) (w_is : w ≡ wanted op) (p : HasPassed now w ans new)
    (start : Words) (es : Trace) (a : IsAt start es old now op) where
  abbrev was_words : Words
  was_words = (restart_after old.shape (value start es) es a.events).words

  abbrev was_trace : Trace
  was_trace = (restart_after old.shape (value start es) es a.events).trace

  abbrev was_op : RestartOp
  was_op = (restart_after old.shape (value start es) es a.events).op

  abbrev found : ℕ
  found = was_words (word_of old.shape (wanted was_op))

  want_is : w ≡ wanted was_op
  want_is = w_is ∙ ap wanted a.op_is

  found_is : found_by w now ≡ found
  found_is =
      a.traced.newest (word_of now.shape w)
      ∙ ap (λ (f : Words). f (word_of now.shape w)) (sym a.words_are)
      ∙ ap (λ (s : Shape). was_words (word_of s w)) shape
      ∙ ap (λ (v : Want). was_words (word_of old.shape v)) want_is

  answer_is : ans ≡ answer_to (wanted was_op) found
  answer_is = p.answer ∙ ap (λ (n : ℕ). answer_to w n) found_is ∙ ap (λ (v : Want). answer_to v found) want_is

  event_is : event_of now.shape w (found_by w now) 0 ≡ event_of old.shape (wanted was_op) found 0
  event_is =
      ap (λ (s : Shape). event_of s w (found_by w now) 0) shape
      ∙ ap (λ (n : ℕ). event_of old.shape w n 0) found_is
      ∙ ap (λ (v : Want). event_of old.shape v found 0) want_is

  at_next : IsAt start es old new (taken op ans)
  at_next = record {
    events = suc a.events;
    op_is = ap (λ (o : RestartOp). taken o ans) a.op_is ∙ ap (λ (b : Ans). taken was_op b) answer_is;
    words_are = ap (λ (f : Words). after (event_of old.shape (wanted was_op) found 0) f) a.words_are;
    traced = subst (λ (e : Event). IsTraceOf start (e ∷ was_trace) new) event_is (p.follows start was_trace a.traced);
  }

-- ---- what holds by then
module _ (old : Memory) (image : IsSoundImage old.shape (image_of old)) (traced : IsTraced old) (settled : IsSettled old) (none : unfenced 0 old ≡ 0) where
  abbrev base : Words
  base = traced.0

  abbrev was : Words
  was = value traced.0 traced.1

  abbrev may : Trace → ℕ → ℕ → Type 0
  may es i x = x ≡ settled_value base es i

  abbrev some : 1 ≤ old.shape.segments
  some = image.in_range.some

  abbrev PhaseOf : RestartStep → Words → Trace → Type 0
  PhaseOf = Phase old.shape some base was may (leaving_settled base)

  settled_first : AllSettled old.shape some base was may (leaving_settled base) was traced.1
  settled_first i x within is =
      is ∙ sym (is_settled base traced.1 i (slice_index old.settled i) (traced.2.settled i)) ∙ settled i within ∙ traced.2.newest i

  phase_after : (n : ℕ) → PhaseOf (restart_after old.shape was traced.1 n).op.step (restart_after old.shape was traced.1 n).words (restart_after old.shape was traced.1 n).trace
  phase_after n = phase_at old.shape some base was may (leaving_settled base) traced.1 refl settled_first (none_pending old base traced.1 traced.2 none) n

  -- ---- the steps that are counted
  seen_count : (ws : Words) (b : Bool) (before counted : ℕ) → (started_for (ws state_word)).swept ≡ b → counted ≡ before
      → counted + 1 ≡ before + steps_in old.shape (if b then LoadHead 0 0 else Store (started_for (ws state_word)))
  seen_count ws true before counted p is = omega (arith, is)
  seen_count ws false before counted p is =
      let zero_more : swept_slots old.shape (started_for (ws state_word)) ≡ 0 = ap (λ (c : Bool). if c then old.shape.segments else 0) p in omega (arith, is, zero_more)

  stored_count : (first slot before counted : ℕ) (a b : Bool) → nat_lt slot (old.shape.segments - 1) ≡ a → slot < old.shape.segments → counted ≡ before + (2 + slot)
      → counted + 0 ≡ before + steps_in old.shape (if a then (if b then LoadHead first (slot + 1) else FlushHead first (slot + 1)) else FlushHead first old.shape.segments)
  stored_count first slot before counted true true p within is = omega (arith, is)
  stored_count first slot before counted true false p within is = omega (arith, is)
  stored_count first slot before counted false b p within is = let last = ltb-false slot (old.shape.segments - 1) p in omega (arith, is, last, within)

  flushed_count : (slot end before counted : ℕ) (a : Bool) → counted ≡ before + (1 + end)
      → counted + 0 ≡ before + steps_in old.shape (if a then FlushHead (slot + 1) end else FenceHeads end)
  flushed_count slot end before counted true is = omega (arith, is)
  flushed_count slot end before counted false is = omega (arith, is)

  fenced_count : (end before counted : ℕ) (a : Bool) → nat_lt end old.shape.segments ≡ a → end ≤ old.shape.segments → counted ≡ before + (1 + end)
      → counted + 0 ≡ before + steps_in old.shape (if a then LoadHead end end else Store swept_through)
  fenced_count end before counted true p most is = omega (arith, is)
  fenced_count end before counted false p most is = let last = ltb-false end old.shape.segments p in omega (arith, is, last, most)

  count_on : (s : RestartStep) (ws : Words) (es : Trace) (n before counted : ℕ) → PhaseOf s ws es → n ≡ ws (word_of old.shape (wanted_in old.shape s))
      → wanted_in old.shape s ≢ want.Done → counted ≡ before + steps_in old.shape s
      → counted + steps_for (wanted_in old.shape s) ≡ before + steps_in old.shape (next_in old.shape s (answer_to (wanted_in old.shape s) n))
  count_on Load ws es n before counted h is asks count =
      subst (λ (m : ℕ). counted + 1 ≡ before + steps_in old.shape (next_in old.shape Load (answer_to (want.Load state_word) m))) (sym is)
      (seen_count ws _ before counted refl (omega (arith, count)))
  count_on (LoadHead first slot) ws es n before counted h is asks count = omega (arith, count)
  count_on (StoreHead first slot head) ws es n before counted h is asks count = stored_count first slot before counted _ _ refl h.0.1 count
  count_on (FlushHead slot end) ws es n before counted h is asks count = flushed_count slot end before counted _ count
  count_on (FenceHeads end) ws es n before counted h is asks count = fenced_count end before counted _ refl h.1.most count
  count_on (Store started) ws es n before counted h is asks count = omega (arith, count)
  count_on (Flush started) ws es n before counted h is asks count = omega (arith, count)
  count_on (Fence started) ws es n before counted h is asks count = omega (arith, count)
  count_on (Ended started) ws es n before counted h is asks count = absurd (asks refl)

  -- ---- where it stands by then
  module _ (now : Memory) (before counted : ℕ) (op : RestartOp) (c : RestartsOn old now before counted op) where
    abbrev here : IsAt base traced.1 old now op
    here = c.at base traced.1 traced.2

    abbrev words_here : Words
    words_here = (restart_after old.shape was traced.1 here.events).words

    abbrev trace_here : Trace
    trace_here = (restart_after old.shape was traced.1 here.events).trace

    abbrev op_here : RestartOp
    op_here = (restart_after old.shape was traced.1 here.events).op

    geometry_is : op_here.geometry ≡ old.shape
    geometry_is = same_geometry old.shape was traced.1 here.events

    want_here : wanted op_here ≡ wanted_in old.shape op_here.step
    want_here = ap (λ (s : Shape). wanted_in s op_here.step) geometry_is

    phase_here : PhaseOf op_here.step words_here trace_here
    phase_here = phase_after here.events

    -- ---- it may be asked for
    in_here : IsOnStateOrHead old.shape (wanted op_here)
    in_here = subst (λ (s : Shape). IsOnStateOrHead s (wanted op_here)) geometry_is (on_words op_here)

    few : (l : ℕ) → wanted op_here ≡ want.Flush l → unfenced 0 now < 8
    few l is = let fewer = few_in old.shape some base was may (leaving_settled base) op_here.step words_here trace_here phase_here l (sym want_here ∙ is) in let once = here.traced.once 0 in omega (arith, fewer, once)

    may_here : wanted op_here ≢ want.Done → MayBeAsked 0 (wanted op_here) now
    may_here asks = record {
      caller_is = omega arith;
      word = subst (λ (s : Shape). word_of s (wanted op_here) < all_words_of s) (sym c.shape) (word_in old.shape some (wanted op_here) in_here);
      line = λ l is. subst (λ (s : Shape). 8 * l + 8 ≤ words_of s) (sym c.shape) (line_in old.shape some (wanted op_here) in_here l is);
      few = few;
      some = asks;
    }

    pub restart_may : (w : Want) → w ≡ wanted op → (w ≡ want.Done → ⊥) → MayBeAsked 0 w now
    restart_may w is asks =
        let at : w ≡ wanted op_here = is ∙ ap wanted here.op_is in
        subst (λ (v : Want). MayBeAsked 0 v now) (sym at) (may_here (λ done. asks (at ∙ done)))

    -- ---- and it was
    module _ (new : Memory) (w : Want) (ans : Ans) (w_is : w ≡ wanted op) (asks : w ≡ want.Done → ⊥) (p : HasPassed now w ans new) where
      abbrev seen : ℕ
      seen = words_here (word_of old.shape (wanted_in old.shape op_here.step))

      wants : w ≡ wanted_in old.shape op_here.step
      wants = want_is old now new op w ans c.shape w_is p base traced.1 here ∙ want_here

      step_is : (taken op ans).step ≡ next_in old.shape op_here.step (answer_to (wanted_in old.shape op_here.step) seen)
      step_is =
          ap (λ (o : RestartOp). (taken o ans).step) here.op_is
          ∙ ap (λ (s : Shape). next_in s op_here.step ans) geometry_is
          ∙ ap (λ (b : Ans). next_in old.shape op_here.step b) (answer_is old now new op w ans c.shape w_is p base traced.1 here)
          ∙ ap (λ (v : Want). next_in old.shape op_here.step (answer_to v (words_here (word_of old.shape v)))) want_here

      count_next : counted + steps_for w ≡ before + steps_in old.shape (taken op ans).step
      count_next =
          ap (λ (v : Want). counted + steps_for v) wants
          ∙ count_on op_here.step words_here trace_here seen before counted phase_here refl (λ done. asks (wants ∙ done))
          (c.count ∙ ap (λ (o : RestartOp). before + steps_in old.shape o.step) here.op_is)
          ∙ ap (λ (s : RestartStep). before + steps_in old.shape s) (sym step_is)

      pub restarts_on : (next : RestartOp) (counts : ℕ) → counts ≡ counted + steps_for w → next ≡ taken op ans → RestartsOn old new before counts next
      restarts_on next counts count took =
          subst (λ (o : RestartOp). RestartsOn old new before counts o) (sym took)
          (record {
            shape = p.shape ∙ c.shape;
            callers = p.callers ∙ c.callers;
            at = λ start es t. at_next old now new op w ans c.shape w_is p start es (c.at start es t);
            count = count ∙ count_next;
          })

    -- ---- its end
    module _ (leaves : Started) (ended : op.step ≡ Ended leaves) where
      ended_here : op_here.step ≡ Ended leaves
      ended_here = ap (λ (o : RestartOp). o.step) (sym here.op_is) ∙ ended

      phase_end : PhaseOf (Ended leaves) words_here trace_here
      phase_end = subst (λ (s : RestartStep). PhaseOf s words_here trace_here) ended_here phase_here

      stored_end : IsStored old.shape some base was may (leaving_settled base) leaves words_here trace_here
      stored_end = phase_end.0

      words_before : was ≡ slice_index old.newest
      words_before = fun_ext (λ i. sym (traced.2.newest i))

      words_after : words_here ≡ slice_index now.newest
      words_after = fun_ext (λ i. ap (λ (ws : Words). ws i) here.words_are ∙ sym (here.traced.newest i))

      pub leaves_is : leaves ≡ started_for (slice_index old.newest state_word)
      leaves_is = stored_end.started_is ∙ ap (λ (ws : Words). started_for (ws state_word)) words_before

      pub has_left : HasStarted old.shape leaves (slice_index old.newest) (slice_index now.newest)
      has_left =
          subst (λ (ws : Words). HasStarted old.shape leaves (slice_index old.newest) ws) words_after
          (subst (λ (ws : Words). HasStarted old.shape leaves ws words_here) words_before
          (subst (λ (s : Started). HasStarted old.shape s was words_here) (sym stored_end.started_is)
          (has_started old.shape some base was may (leaving_settled base) leaves words_here trace_here stored_end)))

      pub steps_taken : counted ≡ before + (1 + swept_slots old.shape leaves)
      steps_taken = c.count ∙ ap (λ (s : RestartStep). before + steps_in old.shape s) ended

      pub settled_again : IsSettled now
      settled_again w within =
          let inside : w < words_of old.shape = subst (λ (s : Shape). w < words_of s) c.shape within in
          phase_end.1 w (slice_index now.settled w) inside (is_settled base trace_here w (slice_index now.settled w) (here.traced.settled w))
          ∙ ap (λ (ws : Words). ws w) words_after

      pub none_waits : unfenced 0 now ≡ 0
      none_waits = let once = here.traced.once 0 in let none_left = ap length phase_end.2 in omega (arith, once, none_left)

      pub restarted_from : (start : Words) (es : Trace) → IsTraceOf start es old → IsRestartedFrom start es old now
      restarted_from start es t =
          let a = c.at start es t in
          record {
            events = a.events;
            ended = ap wanted (sym a.op_is) ∙ ap (wanted_in op.geometry) ended;
            traced = a.traced;
          }

      -- ---- the image
      abbrev picture : Words
      picture = slice_index (image_of old)

      width : words_of now.shape ≡ words_of old.shape
      width = ap (λ (s : Shape). words_of s) c.shape

      state_is : picture state_word ≡ slice_index old.newest state_word
      state_is = image_word old state_word (omega arith)

      left_is : leaves ≡ started_for (picture state_word)
      left_is = leaves_is ∙ ap started_for (sym state_is)

      new_word : (i : ℕ) → i < words_of old.shape → slice_index (image_of now) i ≡ slice_index now.newest i
      new_word i within = image_word now i (subst (λ (n : ℕ). i < n) (sym width) within)

      image_left : HasStarted old.shape (started_for (picture state_word)) picture (slice_index (image_of now))
      image_left = subst (λ (s : Started). HasStarted old.shape s picture (slice_index (image_of now))) left_is (record {
        state = new_word state_word (omega arith) ∙ has_left.state;
        heads = λ sweeps s slot.
            let inside : header_word old.shape s < words_of old.shape = omega (arith, slot) in
            new_word (header_word old.shape s) inside ∙ has_left.heads sweeps s slot ∙ ap unversioned (sym (image_word old (header_word old.shape s) inside));
        others = λ i away none_of. elim (cases_lt i (words_of old.shape)) [
          | inl within ↦ new_word i within ∙ has_left.others i away none_of ∙ sym (image_word old i within)
          | inr past ↦ image_past now i (subst (λ (n : ℕ). n ≤ i) (sym width) past) ∙ sym (image_past old i past)
        ];
      })

      same_image : HasTheSame old.shape (image_of old) (image_of now)
      same_image = stored old.shape (image_of old) (image_of now) image (image_whole now ∙ width) image_left

      pub some_version : 1 ≤ leaves.version
      some_version = subst (λ (s : Started). 1 ≤ s.version) (sym left_is) (some_and_fits old.shape (image_of old) image (slice_index (image_of now)) image_left).0

      pub sound_again : IsSoundImage now.shape (image_of now)
      sound_again = subst (λ (s : Shape). IsSoundImage s (image_of now)) (sym c.shape) same_image.sound

      pub pairs_again : (m : Map) → HasPairsOf old.shape picture m → HasPairsOf now.shape (slice_index (image_of now)) m
      pairs_again m has = subst (λ (s : Shape). HasPairsOf s (slice_index (image_of now)) m) (sym c.shape) (same_image.pairs m has)

-- ---- each event leaves fewer
pub restart_falls : (now : Memory) (op next : RestartOp) (w : Want) (ans : Ans) → (w ≡ want.Done → ⊥) → w ≡ wanted op → ans ≡ answer_to w (found_by w now)
    → next ≡ taken op ans → left next < left op
restart_falls now op next w ans asks is answer took =
    let all : next ≡ taken op (answer_to (wanted op) (found_by w now)) =
    took ∙ ap (λ (b : Ans). taken op b) (answer ∙ ap (λ (v : Want). answer_to v (found_by w now)) is) in
    subst (λ (o : RestartOp). left o < left op) (sym all)
    (falls op (answer_to (wanted op) (found_by w now)) (is_answer (wanted op) (found_by w now) (λ done. asks (is ∙ done))))
