-- The words are those of the medium, and zeros behind them.
use Rattle.std.proofs.Common.{◌≡◌, List, ℕ, [], ◌+◌, ◌-◌, ◌≤◌, ◌++◌, ap, subst, sym, refl, ◌∙◌, length, arith}
use Rattle.std.proofs.lemmas.List.{length-append, length-replicate}
use Rattle.std.specs.Prelude.{All, slice_index, replicate, Result, Ok, Err, IsErr, IfOk}
use Rattle.pm_trace.specs.declared.flushes.Flush.{Flush}
use Rattle.pm_trace.specs.Memory.{flushes_of}
use Rattle.pm_trace.specs.FlushLists.{IsFlush}
use Rattle.pm_trace.specs.TraceOf.{IsTraceOf}
use Rattle.pm_trace.proofs.Begins.{begins}
use Rattle.pm_trace.proofs.device.Device.new.Goals as goal

-- with the zeros behind them the words are as many as there are to be
long : (words items : List ℕ) (total : ℕ) → items ≡ words ++ replicate (total - length words) 0 → length words ≤ total → length items ≡ total
long words items total is fit =
    omega (arith, ap length is, length-append words (replicate (total - length words) 0), length-replicate {A = ℕ} (total - length words) 0)

-- what is said of a value holds where a failure stands in its place
of_none : {T E : Type 0} (P : T → Type 0) (result : Result T E) → IsErr result → IfOk result P
of_none P (Ok device) failed = absurd (cc)
of_none P (Err error) failed = tt

pub padded-requires : goal.padded-requires
padded-requires c = omega (arith, ap length c.as_slice-words.ensures.value, c.requires, c.all_words-total.ensures.is)

pub padded-requires-2 : goal.padded-requires-2
padded-requires-2 c = omega (arith, ap length c.as_slice-words.ensures.value, c.requires, c.all_words-total.ensures.is)

pub invariant_of-result : goal.invariant_of-result
invariant_of-result c =
    let total = c.all_words-total.result in
    let fit : length c.as_slice-words.result.now ≤ total = omega (arith, ap length c.as_slice-words.ensures.value, c.requires, c.all_words-total.ensures.is) in
    let none = sym c.in_ok-flushes.ensures.items in (
      long c.as_slice-words.result.now c.in_ok-newest.newest.items total c.in_ok-newest.ensures fit ∙ c.all_words-total.ensures.is,
      long c.as_slice-words.result.now c.in_ok-settled.settled.items total c.in_ok-settled.ensures fit ∙ c.all_words-total.ensures.is,
      subst (λ fs. All (IsFlush c.args.medium.geometry c.args.callers) fs) none (λ k d h. absurd (omega arith)),
      λ caller. subst (λ fs. length (flushes_of caller fs) ≤ 8) none (omega arith),
      omega (arith, c.in_ok-flushes.ensures.exact, c.from.ensures),
    )

pub returns-clause-shape : goal.returns-clause-shape
returns-clause-shape c = refl

pub returns-clause-callers : goal.returns-clause-callers
returns-clause-callers c = refl

pub returns-clause-begins : goal.returns-clause-begins
returns-clause-begins c =
    let words = c.args.medium.words in
    let all = λ (ws : List ℕ). ws ++ replicate (c.all_words-total.result - length ws) 0 in
    let newest : c.in_ok-newest.newest.items ≡ all words = c.in_ok-newest.ensures ∙ ap all c.as_slice-words.ensures.value in
    let settled : c.in_ok-settled.settled.items ≡ all words = c.in_ok-settled.ensures ∙ ap all c.as_slice-words.ensures.value in
    subst (λ fs. IsTraceOf (slice_index words) []
    (record { shape = c.args.medium.geometry; callers = c.args.callers; newest = c.in_ok-newest.newest.items; settled = c.in_ok-settled.settled.items; flushes = fs })) (sym c.in_ok-flushes.ensures.items)
    (begins words c.in_ok-newest.newest.items c.in_ok-settled.settled.items _ _ c.args.medium.geometry c.args.callers newest settled)

-- where memory ran out
pub returns-in_err-newest-clause-shape : goal.returns-in_err-newest-clause-shape
returns-in_err-newest-clause-shape c = of_none _ c.from_residual.result c.from_residual.ensures.0

pub returns-in_err-newest-clause-callers : goal.returns-in_err-newest-clause-callers
returns-in_err-newest-clause-callers c = of_none _ c.from_residual.result c.from_residual.ensures.0

pub returns-in_err-newest-clause-begins : goal.returns-in_err-newest-clause-begins
returns-in_err-newest-clause-begins c = of_none _ c.from_residual.result c.from_residual.ensures.0

pub returns-in_err-settled-clause-shape : goal.returns-in_err-settled-clause-shape
returns-in_err-settled-clause-shape c = of_none _ c.from_residual-in_err-settled.result c.from_residual-in_err-settled.ensures.0

pub returns-in_err-settled-clause-callers : goal.returns-in_err-settled-clause-callers
returns-in_err-settled-clause-callers c = of_none _ c.from_residual-in_err-settled.result c.from_residual-in_err-settled.ensures.0

pub returns-in_err-settled-clause-begins : goal.returns-in_err-settled-clause-begins
returns-in_err-settled-clause-begins c = of_none _ c.from_residual-in_err-settled.result c.from_residual-in_err-settled.ensures.0

pub returns-in_err-flushes-clause-shape : goal.returns-in_err-flushes-clause-shape
returns-in_err-flushes-clause-shape c = of_none _ c.from_residual-in_err-flushes.result c.from_residual-in_err-flushes.ensures.0

pub returns-in_err-flushes-clause-callers : goal.returns-in_err-flushes-clause-callers
returns-in_err-flushes-clause-callers c = of_none _ c.from_residual-in_err-flushes.result c.from_residual-in_err-flushes.ensures.0

pub returns-in_err-flushes-clause-begins : goal.returns-in_err-flushes-clause-begins
returns-in_err-flushes-clause-begins c = of_none _ c.from_residual-in_err-flushes.result c.from_residual-in_err-flushes.ensures.0
