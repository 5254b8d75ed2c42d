-- A script that is accepted has no fault, and the lines of an accepted script are determined by its bytes.
use Rattle.std.proofs.Common.{◌≡◌, ℕ, ◌≤◌, ⊎_elim, List, [], ◌∷◌, ◌++◌, length, refl, sym, ◌∙◌, subst, arith}
use Rattle.std.specs.List.{AllByRecursion}
use Rattle.script_text.specs.declared.line.Line.{Line}
use Rattle.script_text.specs.declared.line.Mode.{Mode}
use Rattle.script_text.specs.declared.reading.Reading.{Reading}
use Rattle.script_text.specs.declared.reading.Reading.TheVariants.{BadWord, BadNumber, BadCaller, BadOrder}
use Rattle.script_text.specs.declared.fault.ScriptFault.{ScriptFault}
use Rattle.script_text.specs.declared.fault.ScriptFault.TheVariants.{Word, Number, Caller, Order, TooLong, NoMemory}
use Rattle.script_text.specs.Splits.{lines}
use Rattle.script_text.specs.Script.{IsGood, IsScript, IsFirstBad, HasFault}

good_behind : (front rest : List Reading) (next : Reading) → AllByRecursion IsGood (front ++ next ∷ rest) → IsGood next
good_behind [] rest next h = h.0
good_behind (reading ∷ front) rest next h = good_behind front rest next h.1

none_bad : (mode : Mode) (bytes : List ℕ) (script : List Line) (bad : Reading) (n : ℕ) → IsScript mode bytes script → IsFirstBad mode bytes bad n → IsGood bad
none_bad mode bytes script bad n good first = good_behind first.front first.rest bad (subst (AllByRecursion IsGood) first.split good.good)

pub no_fault : (mode : Mode) (bytes : List ℕ) (script : List Line) (fault : ScriptFault) → IsScript mode bytes script → HasFault mode bytes fault → fault ≡ NoMemory
no_fault mode bytes script (Word line) good h = absurd (none_bad mode bytes script BadWord line good h)
no_fault mode bytes script (Number line) good h = absurd (none_bad mode bytes script BadNumber line good h)
no_fault mode bytes script (Caller line) good h = absurd (none_bad mode bytes script BadCaller line good h)
no_fault mode bytes script (Order line) good h = absurd (none_bad mode bytes script BadOrder line good h)
no_fault mode bytes script (TooLong line) good h =
    ⊎_elim (λ a. let few : length bytes ≤ 16777216 = good.short.few_bytes in absurd (omega arith)) (λ b. let few : length (lines bytes) ≤ 1000000 = good.short.few_lines in absurd (omega arith)) h.1
no_fault mode bytes script NoMemory good h = refl

pub one_script : (mode : Mode) (bytes : List ℕ) (script other : List Line) → IsScript mode bytes script → IsScript mode bytes other → script ≡ other
one_script mode bytes script other good also = good.all ∙ sym also.all
