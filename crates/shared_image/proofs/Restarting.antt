-- The restart of a medium over words in memory, event by event, and what it leaves.
use Rattle.std.proofs.Common.{◌≡◌, ◌≢◌, inl, inr, ℕ, suc, ◌+◌, ◌<◌, ◌≤◌, List, length, sym, ap, ◌∙◌, subst, arith}
use Rattle.std.specs.Prelude.{slice_index, false}
use Rattle.std.proofs.lemmas.Bool.{cases_eq}
use Rattle.op_core.specs.declared.want.Want.{Want}
use Rattle.op_core.specs.declared.want.Want.TheVariants.{Done}
use Rattle.op_core.specs.declared.want.Ans.{Ans}
use Rattle.op_core.specs.Answers.{IsAnswer}
use Rattle.trace.specs.Events.{Words}
use Rattle.image_layout.specs.Places.{Shape, state_word}
use Rattle.image_layout.specs.Volatile.{all_words_of}
use Rattle.sound_image.specs.Image.{IsSoundImage}
use Rattle.world.specs.Wants.{answer_to, word_of, words_after}
use Rattle.world.proofs.stepping.Answers.{is_answer}
use Rattle.restart_op.specs.declared.restart.Started.{Started}
use Rattle.restart_op.specs.declared.restart.RestartStep.{RestartStep}
use Rattle.restart_op.specs.declared.restart.RestartStep.TheVariants.{Ended}
use Rattle.restart_op.specs.declared.restart.RestartOp.{RestartOp}
use Rattle.restart_op.specs.Restart.{started_for, begun, wanted, taken}
use Rattle.restart_op.specs.Budget.{events_of_restart, left, IsOnStateOrHead}
use Rattle.restart_op.specs.Restarted.{restarted, left_at, words_at_end}
use Rattle.restart_op.proofs.restarts.Along.{same_geometry}
use Rattle.restart_op.proofs.restarts.Counting.{falls, on_words, restart_counts}
use Rattle.restart_op.proofs.restarts.Beginning.{ends_started}
use Rattle.vlock.specs.Ruling.{word}
use Rattle.shared_image.specs.Memory.{IsPlain}
use Rattle.shared_image.proofs.Asked.{restart_plain}

-- after so many events the machine and the words are these
pub record RestartsAt (shape : Shape) (base items : List ℕ) (op : RestartOp) : Type 0 where
  pub events : ℕ
  pub within : events ≤ events_of_restart shape (slice_index base)
  pub op_is : op ≡ (restarted shape base events).op
  pub words_are : word items ≡ (restarted shape base events).words
  pub whole : length items ≡ all_words_of shape

pub starts : (shape : Shape) (base items : List ℕ) (op : RestartOp) → op ≡ begun shape → word items ≡ slice_index base → length items ≡ all_words_of shape → RestartsAt shape base items op
starts shape base items op is same whole = record { events = 0; within = omega arith; op_is = is; words_are = same; whole = whole }

-- how a step has ended
ended_with : RestartStep → Started
ended_with (Ended started) = started
ended_with step = record { version = 0; swept = false }

module _ (shape : Shape) (base : List ℕ) (sound : IsSoundImage shape base) (items : List ℕ) (op : RestartOp) (r : RestartsAt shape base items op) where
  abbrev all : ℕ
  all = events_of_restart shape (slice_index base)

  not_over : wanted op ≢ Done → r.events < all
  not_over asks = elim (cases_eq r.events all) [
    | inl e ↦ absurd (asks (ap wanted (r.op_is ∙ ap (λ (n : ℕ). (restarted shape base n).op) e) ∙ (ends_started shape base sound).wants_no_more))
    | inr ne ↦ (let w = r.within in omega (arith, ne, w))
  ]

  geometry_is : op.geometry ≡ shape
  geometry_is = ap (λ (o : RestartOp). o.geometry) r.op_is ∙ same_geometry shape (slice_index base) _ r.events

  pub asks_plain : (w : Want) → w ≡ wanted op → w ≢ Done → IsPlain (length items) w
  asks_plain w is asks =
      let some = sound.in_range.some in
      let whole = r.whole in
      restart_plain shape (length items) some (omega (arith, whole)) w
      (subst (λ (v : Want). IsOnStateOrHead shape v) (sym is) (subst (λ (g : Shape). IsOnStateOrHead g (wanted op)) geometry_is (on_words op)))
      asks

  pub goes_on : (w : Want) (ans : Ans) (after : List ℕ) (next : RestartOp) → w ≡ wanted op → w ≢ Done → next ≡ taken op ans
      → ((g : Shape) → ans ≡ answer_to w (word items (word_of g w))) → ((g : Shape) → word after ≡ words_after g w 0 (word items)) → length after ≡ length items → RestartsAt shape base after next
  goes_on w ans after next is asks took answers leaves long =
      let was = restarted shape base r.events in
      let here : w ≡ wanted was.op = is ∙ ap wanted r.op_is in
      let ans_is : ans ≡ answer_to (wanted was.op) (was.words (word_of shape (wanted was.op))) =
      answers shape ∙ ap (λ (v : Want). answer_to v (word items (word_of shape v))) here
      ∙ ap (λ (ws : Words). answer_to (wanted was.op) (ws (word_of shape (wanted was.op)))) r.words_are in
      record {
        events = suc r.events;
        within = not_over (λ done. asks (is ∙ done));
        op_is = took ∙ ap (λ (o : RestartOp). taken o ans) r.op_is ∙ ap (λ (a : Ans). taken was.op a) ans_is;
        words_are = leaves shape ∙ ap (λ (v : Want). words_after shape v 0 (word items)) here ∙ ap (λ (ws : Words). words_after shape (wanted was.op) 0 ws) r.words_are;
        whole = long ∙ r.whole;
      }

  pub fewer : (w : Want) (ans : Ans) (next : RestartOp) → w ≡ wanted op → w ≢ Done → next ≡ taken op ans → ((g : Shape) → ans ≡ answer_to w (word items (word_of g w))) → left next < left op
  fewer w ans next is asks took answers =
      subst (λ (o : RestartOp). left o < left op) (sym took)
      (falls op ans (subst (λ (v : Want). IsAnswer v ans) is
      (subst (λ (a : Ans). IsAnswer w a) (sym (answers shape)) (is_answer w (word items (word_of shape w)) asks))))

  module _ (started : Started) (over : op.step ≡ Ended started) where
    all_done : r.events ≡ all
    all_done =
        let step_is : (restarted shape base r.events).op.step ≡ Ended started = sym (ap (λ (o : RestartOp). o.step) r.op_is) ∙ over in
        let count = restart_counts shape base r.events sound.in_range r.within in
        let none_left : left_at shape (slice_index base) (Ended started) + r.events ≡ all = subst (λ (s : RestartStep). left_at shape (slice_index base) s + r.events ≡ all) step_is count in
        omega (arith, none_left)

    pub words_left : word items ≡ words_at_end shape base
    words_left = r.words_are ∙ ap (λ (n : ℕ). (restarted shape base n).words) all_done

    pub started_is : started ≡ started_for (slice_index base state_word)
    unfolding ended_with
    started_is =
        ap ended_with (sym over ∙ ap (λ (o : RestartOp). o.step) (r.op_is ∙ ap (λ (n : ℕ). (restarted shape base n).op) all_done) ∙ (ends_started shape base sound).ended)
