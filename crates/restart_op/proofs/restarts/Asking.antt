-- What a restart asks of a memory: words of it, lines of the image, and fewer than eight of them before a fence.
use Rattle.std.proofs.Common.{◌≡◌, ◌≢◌, ℕ, ◌+◌, ◌*◌, ◌/◌, ◌%◌, ◌<◌, ◌≤◌, inl, inr, [], length, refl, sym, ap, subst, ◌∙◌, arith}
use Rattle.std.specs.Prelude.{slice_index}
use Rattle.op_core.specs.declared.want.Want.{Want}
use Rattle.op_core.specs.declared.want.Want.TheVariants as want
use Rattle.trace.specs.Events.{Words, Trace}
use Rattle.trace.specs.Progress.{pending}
use Rattle.trace.specs.Steps.{HadSinceSettled}
use Rattle.image_layout.specs.Places.{Shape, words_of}
use Rattle.image_layout.specs.Volatile.{all_words_of}
use Rattle.world.specs.Wants.{word_of}
use Rattle.restart_op.specs.declared.restart.RestartStep.{RestartStep}
use Rattle.restart_op.specs.declared.restart.RestartStep.TheVariants.{Load, LoadHead, StoreHead, FlushHead, FenceHeads, Store, Flush, Fence, Ended}
use Rattle.restart_op.specs.Restart.{wanted_in, wanted}
use Rattle.restart_op.specs.Budget.{IsStateOrHead, IsOnStateOrHead}
use Rattle.restart_op.specs.Restarted.{restarted, left_at, RestartAsks}
use Rattle.restart_op.proofs.restarts.Along.{same_geometry}
use Rattle.restart_op.proofs.restarts.Counting.{on_words, restart_counts}
use Rattle.restart_op.proofs.restarts.Phases.{Leaving, Phase, phase_at}
use Rattle.restart_op.proofs.restarts.Cuts.{leaving_now}

module _ (shape : Shape) (some : 1 ≤ shape.segments) where
  on_word : (i : ℕ) → IsStateOrHead shape i → i < words_of shape
  on_word i (inl at) = omega (arith, at, some)
  on_word i (inr (s, slot, at)) = omega (arith, slot, at)

  line_fits : (i width : ℕ) → i < width → width % 8 ≡ 0 → 8 * (i / 8) + 8 ≤ width
  line_fits i width within whole = omega (arith, within, whole)

  pub word_in : (w : Want) → IsOnStateOrHead shape w → word_of shape w < all_words_of shape
  word_in (want.Load i) is = let low = on_word i is in omega (arith, low)
  word_in (want.Store i x) is = let low = on_word i is in omega (arith, low)
  word_in (want.Flush l) (i, is, at) = let low = on_word i is in omega (arith, low, at)
  word_in want.Fence is = omega arith
  word_in want.Done is = omega arith
  word_in (want.Exchange i a b) is = absurd is
  word_in want.Draw is = absurd is
  word_in want.Power is = absurd is

  pub line_in : (w : Want) → IsOnStateOrHead shape w → (l : ℕ) → w ≡ want.Flush l → 8 * l + 8 ≤ words_of shape
  line_in (want.Flush k) (i, is, at) l e =
      let same : k ≡ l = cc in
      let fits = line_fits i (words_of shape) (on_word i is) (omega arith) in omega (arith, fits, at, same)
  line_in (want.Load i) is l e = cc
  line_in (want.Store i x) is l e = cc
  line_in want.Fence is l e = cc
  line_in want.Done is l e = cc
  line_in (want.Exchange i a b) is l e = cc
  line_in want.Draw is l e = cc
  line_in want.Power is l e = cc

  module _ (base was : Words) (Left : Trace → ℕ → ℕ → Type 0) (leaving : Leaving base Left) where
    pub few_in : (s : RestartStep) (ws : Words) (es : Trace) → Phase shape some base was Left leaving s ws es → (l : ℕ) → wanted_in shape s ≡ want.Flush l
        → length (pending 0 es) < 8
    few_in Load ws es h l is = cc
    few_in (LoadHead first slot) ws es h l is = cc
    few_in (StoreHead first slot head) ws es h l is = cc
    few_in (FlushHead slot end) ws es h l is = let near = h.2 in let few = h.3 in let low = h.1 in let count = h.5.count in omega (arith, near, few, low, count)
    few_in (FenceHeads end) ws es h l is = cc
    few_in (Store started) ws es h l is = cc
    few_in (Flush started) ws es h l is = let none = ap length h.1 in omega (arith, none)
    few_in (Fence started) ws es h l is = cc
    few_in (Ended started) ws es h l is = cc

-- where events are left, there is one that it asks for
asks_while_left : (shape : Shape) (words : Words) (s : RestartStep) → left_at shape words s ≢ 0 → wanted_in shape s ≢ want.Done
asks_while_left shape words Load some e = cc
asks_while_left shape words (LoadHead first slot) some e = cc
asks_while_left shape words (StoreHead first slot head) some e = cc
asks_while_left shape words (FlushHead slot end) some e = cc
asks_while_left shape words (FenceHeads end) some e = cc
asks_while_left shape words (Store started) some e = cc
asks_while_left shape words (Flush started) some e = cc
asks_while_left shape words (Fence started) some e = cc
asks_while_left shape words (Ended started) some e = some refl

pub restart_asks : RestartAsks
restart_asks shape words n is few =
    let c = restarted shape words n in
    let word = slice_index words in
    let geometry = same_geometry shape word [] n in
    let want_is : wanted c.op ≡ wanted_in shape c.op.step = ap (λ (g : Shape). wanted_in g c.op.step) geometry in
    let count = restart_counts shape words n is (omega (arith, few)) in
    let on : IsOnStateOrHead shape (wanted c.op) = subst (λ (g : Shape). IsOnStateOrHead g (wanted c.op)) geometry (on_words c.op) in
    let phase = phase_at shape is.some word word (λ es i x. HadSinceSettled word es i x) (leaving_now word) [] refl (λ i x within had. had) refl n in
    record {
      asks = λ done. asks_while_left shape word c.op.step (λ none. omega (arith, none, count, few)) (sym want_is ∙ done);
      word = word_in shape is.some (wanted c.op) on;
      line = line_in shape is.some (wanted c.op) on;
      few = λ l at. few_in shape is.some word word (λ es i x. HadSinceSettled word es i x) (leaving_now word) c.op.step c.words c.trace phase l (sym want_is ∙ at);
    }
