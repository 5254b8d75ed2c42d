-- Each stop comes to its place.
use Rattle.std.proofs.Common.{◌≡◌, ℕ, suc, ◌-◌, None, Some, List, ◌++◌, length, map, take, refl, ap, sym, ◌∙◌, add-one, arith}
use Rattle.std.specs.Prelude.{replicate, slice_get, slice_set}
use Rattle.std.proofs.lemmas.List.{take_all}
use Rattle.std.proofs.lemmas.Option.{slice_get_read}
use Rattle.core_run.specs.Engines.{Caller}
use Rattle.core_run.specs.Run.{stop_of}
use Rattle.play.specs.declared.caller.Caller.{Caller as PlayCaller}
use Rattle.play.specs.Callers.{caller_of, callers_of}
use Rattle.play.proofs.Mapped.{map_set}
use Rattle.play.proofs.driven.Listed.{listed_at, callers_many}
use Rattle.play.proofs.leaving.stops_of.Goals as goal

pub loop-index-preserved : goal.loop-index-preserved
loop-index-preserved c lists room =
    let callers = c.args.callers.now in let i : ℕ = c.loop-index.index in let r : PlayCaller = c.index-callers-index.result in
    let cs : List Caller = callers_of callers lists in
    let its : slice_get callers i ≡ Some r = slice_get_read callers (length callers) i r refl (omega arith) c.index-callers-index.is in
    let listed = listed_at callers lists i r room its in
    let few = c.requires in
    let one : 64 - i ≡ suc (63 - i) = omega arith in
    let less : 63 - i ≡ 64 - suc i = omega arith in
    ap (λ ss. slice_set ss i c.stop.result)
    (c.loop-index.invariant lists room ∙ ap (λ (n : ℕ). map stop_of (take i cs) ++ replicate n None) one)
    ∙ ap (λ o. slice_set (map stop_of (take i cs) ++ replicate (suc (63 - i)) None) i o) (c.stop.ensures listed.kept.entries (sym listed.room.counted))
    ∙ map_set stop_of None cs i (63 - i) (caller_of r listed.kept.entries) listed.its_caller
    ∙ ap (λ (n : ℕ). map stop_of (take (suc i) cs) ++ replicate n None) less
    ∙ ap (λ (n : ℕ). map stop_of (take n cs) ++ replicate (64 - n) None) (sym (add-one i))

pub returns : goal.returns
returns c lists room =
    let callers = c.args.callers.now in let i : ℕ = c.loop-index.index in
    let cs : List Caller = callers_of callers lists in
    let many : length cs ≡ length callers = callers_many callers lists room in
    let all : i ≡ length cs = omega arith in
    c.loop-index.invariant lists room
    ∙ ap (λ xs. map stop_of xs ++ replicate (64 - i) None) (take_all i cs (omega arith))
    ∙ ap (λ (n : ℕ). map stop_of cs ++ replicate (64 - n) None) all
