-- The lines that a close flushes are those of the image, and the words that it asks for those of its memory.
use Rattle.std.proofs.Common.{◌≡◌, ℕ, ◌+◌, ◌-◌, ◌*◌, ◌/◌, ◌<◌, ◌≤◌, Bool, true, false, refl, subst, arith}
use Rattle.std.specs.Prelude.{if◌then◌else◌, nat_lt, ⊤}
use Rattle.std.proofs.lemmas.Bool.{ltb-true}
use Rattle.op_core.specs.declared.want.Want.TheVariants as want
use Rattle.trace.specs.Events.{Words, Trace}
use Rattle.image_layout.specs.Places.{Shape, words_of}
use Rattle.image_layout.specs.Volatile.{all_words_of}
use Rattle.world.specs.Wants.{word_of}
use Rattle.restart_op.specs.declared.close.CloseStep.{CloseStep}
use Rattle.restart_op.specs.declared.close.CloseStep.TheVariants.{Flush, Fence, Load, Store, FlushState, FenceState, Ended}
use Rattle.restart_op.specs.Close.{lines_of, wanted_in}
use Rattle.restart_op.proofs.closes.CloseAlong.{IsKeptBy}

module _ (shape : Shape) where
  -- the line that a step is to flush is one of the image
  abbrev pub LineIn : CloseStep → Words → Trace → Type 0
  LineIn (Flush line waiting) words es = line < lines_of shape
  LineIn s words es = ⊤

  flushed_in : (line waiting : ℕ) (a b : Bool) (words : Words) (es : Trace) → nat_lt line (lines_of shape - 1) ≡ a
      → LineIn (if a then (if b then Flush (line + 1) (waiting + 1) else Fence (line + 1)) else Fence (lines_of shape)) words es
  flushed_in line waiting true true words es p = let l = ltb-true line (lines_of shape - 1) p in below (lines_of shape) l
    where
      below : (lines : ℕ) → line < lines - 1 → line + 1 < lines
      below lines h = omega (arith, h)
  flushed_in line waiting true false words es p = tt
  flushed_in line waiting false b words es p = tt

  fenced_in : (line : ℕ) (a : Bool) (words : Words) (es : Trace) → nat_lt line (lines_of shape) ≡ a → LineIn (if a then Flush line 0 else Load) words es
  fenced_in line true words es p = ltb-true line (lines_of shape) p
  fenced_in line false words es p = tt

  pub line_on : IsKeptBy shape LineIn
  line_on (Flush line waiting) words es h = flushed_in line waiting _ _ _ _ refl
  line_on (Fence line) words es h = fenced_in line _ _ _ refl
  line_on Load words es h = tt
  line_on (Store state) words es h = tt
  line_on FlushState words es h = tt
  line_on FenceState words es h = tt
  line_on Ended words es h = tt

  line_fits : (line : ℕ) → line < lines_of shape → 8 * line + 8 ≤ words_of shape
  line_fits line h = fits (words_of shape) h
    where
      fits : (width : ℕ) → line < width / 8 → 8 * line + 8 ≤ width
      fits width h = omega (arith, h)

  pub word_in : (s : CloseStep) (words : Words) (es : Trace) → LineIn s words es → word_of shape (wanted_in s) < all_words_of shape
  word_in (Flush line waiting) words es h = let l = line_fits line h in omega (arith, l)
  word_in (Fence line) words es h = omega arith
  word_in Load words es h = omega arith
  word_in (Store state) words es h = omega arith
  word_in FlushState words es h = omega arith
  word_in FenceState words es h = omega arith
  word_in Ended words es h = omega arith

  pub line_in : (s : CloseStep) (words : Words) (es : Trace) → LineIn s words es → (l : ℕ) → wanted_in s ≡ want.Flush l → 8 * l + 8 ≤ words_of shape
  line_in (Flush line waiting) words es h l q = let f = line_fits line h in let z : line ≡ l = cc in subst (λ k. 8 * k + 8 ≤ words_of shape) z f
  line_in (Fence line) words es h l q = cc
  line_in Load words es h l q = cc
  line_in (Store state) words es h l q = cc
  line_in FlushState words es h l q = let z : 2 ≡ l = cc in subst (λ k. 8 * k + 8 ≤ words_of shape) z (omega arith)
  line_in FenceState words es h l q = cc
  line_in Ended words es h l q = cc
