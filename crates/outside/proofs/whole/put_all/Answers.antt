-- What a push takes behind the bytes before `at` is a longer front.
use Rattle.std.proofs.Common.{arith, ◌+◌, ◌-◌, ◌≡◌, ◌++◌, ℕ, List, length, take, drop, sym, ap, ◌∙◌}
use Rattle.std.proofs.lemmas.Grind.{common_steps}
use Rattle.std.proofs.lemmas.List.{take_all}
use Rattle.std.proofs.Math.Seq.{take-add}
use Rattle.std.proofs.KnownBytes.{Appends-trans}
use Rattle.outside.proofs.whole.put_all.Goals as goal

-- a front and the next n bytes are a longer front
take-next : (bytes : List ℕ) (at n : ℕ)
    → take at bytes ++ take n (take (length bytes - at) (drop at bytes)) ≡ take (at + n) bytes
take-next bytes at n =
    let whole : take (length bytes - at) (drop at bytes) ≡ drop at bytes = grind (arith, common_steps) in
    ap (λ (rest : List ℕ). take at bytes ++ take n rest) whole ∙ sym (take-add at n bytes)

pub pushes-preserved : goal.pushes-preserved
pushes-preserved g c = record {
  within = grind (arith, common_steps);
  given = rw (← take-next c.args.bytes.now c.pushes.at c.in_ok-taken.taken) (Appends-trans _ _ _ _ _ c.pushes.invariant.given c.in_ok-taken.ensures.bytes);
  later = omega (arith, c.in_ok-taken.ensures.cause.later);
}

pub returns-clause-ok : goal.returns-clause-ok
returns-clause-ok g c = rw (take_all c.pushes.at c.args.bytes.now (omega arith)) at c.pushes.invariant.given
