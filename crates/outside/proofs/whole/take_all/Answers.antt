-- What a pull gives is appended. Where memory is wanting, the bytes so far and those of the last pull are lost from the source.
use Rattle.std.proofs.Common.{Result, Ok, Err, OnErr, ℕ, ◌≤◌, ◌++◌, length, take, arith, rules}
use Rattle.std.proofs.lemmas.List.{length-append, length-take, take-append-le}
use Rattle.std.proofs.KnownBytes.{Consumes-trans}
use Rattle.std.specs.Io.KnownBytes.{Consumes}
use Rattle.outside.specs.Causes.{LosesFront}
use Rattle.outside.proofs.whole.take_all.Goals as goal

OnErr-of : {T E P : Type 0} (result : Result T E) → P → OnErr result P
OnErr-of (Ok value) p = tt
OnErr-of (Err error) p = p

pub returns-in_err-extend_from_slice-clause-err : goal.returns-in_err-extend_from_slice-clause-err
returns-in_err-extend_from_slice-clause-err g c =
    let lost : LosesFront (g.S.Source.left c.args.source.now) (g.S.Source.left c.pull.new.self) =
    (_, Consumes-trans _ _ _ _ _ c.pulls.invariant.taken c.in_ok-count.ensures.bytes.0) in
    OnErr-of c.from_residual-in_err-extend_from_slice.result lost

pub returns-clause-end : goal.returns-clause-end
returns-clause-end g c = search rules

pub pulls-preserved : goal.pulls-preserved
pulls-preserved g c =
    let taken : Consumes (g.S.Source.left c.args.source.now) (g.S.Source.left c.pull.new.self) (c.pulls.bytes.items ++ take c.in_ok-count.count c.pull.new.buf) =
    Consumes-trans _ _ _ _ _ c.pulls.invariant.taken c.in_ok-count.ensures.bytes.0 in
    let within : c.in_ok-count.count ≤ length c.pull.new.buf = c.in_ok-count.ensures.bound.0 in
    record {
      bound = rw (c.in_ok-extend_from_slice.ensures.items, length-append) (omega (arith, length-take {A = ℕ}, within));
      taken = rw (c.in_ok-extend_from_slice.ensures.items, take-append-le) taken;
      later = omega (arith, c.in_ok-count.ensures.cause.later);
    }
