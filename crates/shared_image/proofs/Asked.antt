-- The restart and the close ask for plain events alone, on words that are there.
use Rattle.std.proofs.Common.{◌≢◌, inl, inr, ℕ, ◌<◌, ◌≤◌, refl, arith}
use Rattle.op_core.specs.declared.want.Want.{Want}
use Rattle.op_core.specs.declared.want.Want.TheVariants as want
use Rattle.image_layout.specs.Places.{Shape, words_of}
use Rattle.restart_op.specs.Budget.{IsStateOrHead, IsOnStateOrHead}
use Rattle.restart_op.specs.declared.close.CloseStep.{CloseStep}
use Rattle.restart_op.specs.declared.close.CloseStep.TheVariants.{Flush, Fence, Load, Store, FlushState, FenceState, Ended}
use Rattle.restart_op.specs.Close.{wanted_in}
use Rattle.shared_image.specs.Memory.{IsPlain}

on_word : (shape : Shape) (count : ℕ) → 1 ≤ shape.segments → words_of shape ≤ count → (i : ℕ) → IsStateOrHead shape i → i < count
on_word shape count some most i (inl at) = omega (arith, at, some, most)
on_word shape count some most i (inr (s, slot, at)) = omega (arith, slot, at, most)

pub restart_plain : (shape : Shape) (count : ℕ) → 1 ≤ shape.segments → words_of shape ≤ count → (w : Want) → IsOnStateOrHead shape w → w ≢ want.Done → IsPlain count w
restart_plain shape count some most (want.Load i) is asks = on_word shape count some most i is
restart_plain shape count some most (want.Store i x) is asks = on_word shape count some most i is
restart_plain shape count some most (want.Flush l) is asks = tt
restart_plain shape count some most want.Fence is asks = tt
restart_plain shape count some most want.Done is asks = absurd (asks refl)
restart_plain shape count some most (want.Exchange i a b) is asks = absurd is
restart_plain shape count some most want.Draw is asks = absurd is
restart_plain shape count some most want.Power is asks = absurd is

pub close_plain : (count : ℕ) → 16 < count → (s : CloseStep) → wanted_in s ≢ want.Done → IsPlain count (wanted_in s)
close_plain count most (Flush line waiting) asks = tt
close_plain count most (Fence line) asks = tt
close_plain count most Load asks = most
close_plain count most (Store state) asks = most
close_plain count most FlushState asks = tt
close_plain count most FenceState asks = tt
close_plain count most Ended asks = absurd (asks refl)
