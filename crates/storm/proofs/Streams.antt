-- Numbers that are taken one after another.
use Rattle.std.proofs.Common.{◌≡◌, ℕ, zero, suc, ◌+◌, ◌*◌, refl, ap, sym, ◌∙◌, arith}
use Rattle.pm_trace.specs.Choice.{next_state}
use Rattle.storm.specs.Stream.{behind}

-- a stream behind some numbers, and then behind some more
behind_more : (state n m : ℕ) → behind (behind state n) m ≡ behind state (n + m)
unfolding behind
behind_more state n zero = ap (behind state) (omega arith)
behind_more state n (suc m) =
    let e : n + suc m ≡ suc (n + m) = omega arith in
    ap next_state (behind_more state n m) ∙ sym (ap (behind state) e)

pub behind_both : (state n m now next : ℕ) → now ≡ behind state n → next ≡ behind now m → next ≡ behind state (n + m)
behind_both state n m now next e more = more ∙ ap (λ s. behind s m) e ∙ behind_more state n m

pub behind_three : (state one two three : ℕ) → one ≡ behind state 1 → two ≡ behind one 1 → three ≡ behind two 1 → three ≡ behind state 3
behind_three state one two three e f g = behind_both state 2 1 two three (behind_both state 1 1 one two e f) g

-- no number yet
pub behind_none : (state : ℕ) → state ≡ behind state 0
unfolding behind
behind_none state = refl

-- one turn more of so many numbers
pub behind_turn : (state k i now next : ℕ) → now ≡ behind state (k * i) → next ≡ behind now k → next ≡ behind state (k * (i + 1))
behind_turn state k i now next e more =
    let count : k * i + k ≡ k * (i + 1) = omega arith in
    behind_both state (k * i) k now next e more ∙ ap (behind state) count

pub no_turn : (state k : ℕ) → state ≡ behind state (k * 0)
no_turn state k =
    let none : 0 ≡ k * 0 = omega arith in
    behind_none state ∙ ap (behind state) none
