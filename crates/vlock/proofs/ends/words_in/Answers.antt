use Rattle.std.proofs.Common.{◌≡◌, ◌≢◌, ◌∙◌, ℕ, get_or, set, sym, arith, subst, length-set, get_or-set_other, get_or-set_same}
use Rattle.std.proofs.lemmas.Grind.{same_number_lists}
use mathlib.Core.Logic.{dite}
use native.Mathlib.Decide.{ℕ_discrete}
use Rattle.vlock.proofs.Ended.{got}
use Rattle.vlock.proofs.ends.words_in.Goals as goal

pub loop-i-preserved : goal.loop-i-preserved
loop-i-preserved c =
    let i = c.loop-i.invariant in
    let xs = c.loop-i.room.items in
    let ys = c.args.closed.words.items in
    let at = c.loop-i.i in (
      length-set xs at c.word.result ∙ i.0,
      λ j h. dite (ℕ_discrete j at)
          (λ (e : j ≡ at). subst (λ (n : ℕ). get_or (set xs at c.word.result) n 0 ≡ get_or ys n 0) (sym e) (get_or-set_same xs at c.word.result 0 (omega arith) ∙ sym (got ys at c.word.result c.word.ensures)))
          (λ (ne : j ≢ at). get_or-set_other xs at j c.word.result 0 ne ∙ i.1 j (omega arith)),
    )

pub returns : goal.returns
returns c =
    let i = c.loop-i.invariant in
    let ok = c.args.closed.words.ok in
    let done = c.loop-i-test.false in
    same_number_lists c.loop-i.room.items c.args.closed.words.items (i.0 ∙ ok.0) (λ j h. i.1 j (omega arith))
