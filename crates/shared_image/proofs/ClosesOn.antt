-- The close over words in memory, event by event.
use Rattle.std.proofs.Common.{◌≡◌, ◌≢◌, ℕ, suc, ◌<◌, ◌≤◌, List, [], length, refl, sym, ap, ◌∙◌, subst, arith}
use Rattle.op_core.specs.declared.want.Want.{Want}
use Rattle.op_core.specs.declared.want.Want.TheVariants.{Done}
use Rattle.op_core.specs.declared.want.Ans.{Ans}
use Rattle.trace.specs.Events.{Words}
use Rattle.image_layout.specs.Places.{Shape, IsShape, words_of}
use Rattle.world.specs.Wants.{answer_to, word_of, words_after}
use Rattle.restart_op.specs.declared.close.CloseOp.{CloseOp}
use Rattle.restart_op.specs.Close.{begun, wanted, taken}
use Rattle.restart_op.specs.Closing.{close_after, left}
use Rattle.restart_op.proofs.closes.CloseEnding.{falls}
use Rattle.vlock.specs.Ruling.{word}
use Rattle.shared_image.specs.Memory.{IsPlain}
use Rattle.shared_image.specs.Closed.{IsClosedFrom}
use Rattle.shared_image.proofs.Asked.{close_plain}

-- after so many events the machine and the words are these
pub record ClosesAt (shape : Shape) (base items : List ℕ) (op : CloseOp) : Type 0 where
  pub events : ℕ
  pub op_is : op ≡ (close_after shape (word base) [] events).op
  pub words_are : word items ≡ (close_after shape (word base) [] events).words
  pub whole : length items ≡ length base

pub starts : (shape : Shape) (base : List ℕ) (op : CloseOp) → op ≡ begun shape → ClosesAt shape base base op
starts shape base op is = record { events = 0; op_is = is; words_are = refl; whole = refl }

module _ (shape : Shape) (base : List ℕ) (is_shape : IsShape shape) (most : words_of shape ≤ length base) (items : List ℕ) (op : CloseOp) (r : ClosesAt shape base items op) where
  pub asks_plain : (w : Want) → w ≡ wanted op → w ≢ Done → IsPlain (length items) w
  asks_plain w is asks =
      let some = is_shape.some in
      let whole = r.whole in
      subst (λ (v : Want). IsPlain (length items) v) (sym is) (close_plain (length items) (omega (arith, some, whole, most)) op.step (λ done. asks (is ∙ done)))

  pub goes_on : (w : Want) (ans : Ans) (after : List ℕ) (next : CloseOp) → w ≡ wanted op → next ≡ taken op ans
      → ((g : Shape) → ans ≡ answer_to w (word items (word_of g w))) → ((g : Shape) → word after ≡ words_after g w 0 (word items)) → length after ≡ length items → ClosesAt shape base after next
  goes_on w ans after next is took answers leaves long =
      let was = close_after shape (word base) [] r.events in
      let here : w ≡ wanted was.op = is ∙ ap wanted r.op_is in
      let ans_is : ans ≡ answer_to (wanted was.op) (was.words (word_of shape (wanted was.op))) =
      answers shape ∙ ap (λ (v : Want). answer_to v (word items (word_of shape v))) here
      ∙ ap (λ (ws : Words). answer_to (wanted was.op) (ws (word_of shape (wanted was.op)))) r.words_are in
      record {
        events = suc r.events;
        op_is = took ∙ ap (λ (o : CloseOp). taken o ans) r.op_is ∙ ap (λ (a : Ans). taken was.op a) ans_is;
        words_are = leaves shape ∙ ap (λ (v : Want). words_after shape v 0 (word items)) here ∙ ap (λ (ws : Words). words_after shape (wanted was.op) 0 ws) r.words_are;
        whole = long ∙ r.whole;
      }

  pub fewer : (w : Want) (ans : Ans) (next : CloseOp) → w ≡ wanted op → w ≢ Done → next ≡ taken op ans → ((g : Shape) → ans ≡ answer_to w (word items (word_of g w))) → left next < left op
  fewer w ans next is asks took answers =
      subst (λ (o : CloseOp). left o < left op)
      (sym (took ∙ ap (λ (a : Ans). taken op a) (answers shape ∙ ap (λ (v : Want). answer_to v (word items (word_of shape w))) is)))
      (falls op (word items (word_of shape w)) (λ done. asks (is ∙ done)))

  pub closed : (w : Want) → w ≡ wanted op → w ≡ Done → IsClosedFrom shape (word base) (word items)
  closed w is done = record { events = r.events; ended = sym (is ∙ ap wanted r.op_is) ∙ done; words_are = r.words_are }
