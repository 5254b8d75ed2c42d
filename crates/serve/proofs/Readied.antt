-- A job is made ready, with the calls that a script gives to its caller.
use Rattle.std.proofs.Common.{ℕ, zero, suc, ◌≤◌, ◌==◌, Bool, true, false, List, [], ◌∷◌, refl, arith, if◌then◌else◌}
use Rattle.std.specs.Prelude.{All}
use Rattle.map_model.specs.declared.call.Call.{Call}
use Rattle.map_model.specs.declared.call.Call.TheVariants.{Get, Insert, Update, Remove}
use Rattle.std.specs.List.{AllByRecursion}
use Rattle.script_text.specs.Calls.{calls_of, last_caller, IsCallSoFar, IsLineSoFar}
use Rattle.script_text.proofs.SoFar.{last_so_far}
use Rattle.script_text.specs.declared.line.Line.{Line}
use Rattle.script_text.specs.declared.line.Line.TheVariants.{Call as CallLine, Fuse, Step, Until, At, Close, Cut}
use Rattle.shared_image.specs.Engines.{IsWordCall}
use Rattle.world.specs.Attempts.{HoldsOnly}
use Rattle.shared_image.specs.Watch.{Watch}
use Rattle.shared_image.specs.Seats.{pass_right}

word_call : (call : Call) → IsCallSoFar call → IsWordCall call
word_call (Get k) is = (is, omega arith)
word_call (Insert k v) is = is
word_call (Update k v) is = is
word_call (Remove k) is = (is, omega arith)

all_with : (x : Call) (xs : List Call) → IsWordCall x → All IsWordCall xs → All IsWordCall (x ∷ xs)
all_with x xs p all zero d low = p
all_with x xs p all (suc k) d low = all k d (omega (arith, low))

tail : (line : Line) (lines : List Line) → All IsLineSoFar (line ∷ lines) → All IsLineSoFar lines
tail line lines all k d low = all (suc k) d (omega (arith, low))

by_caller : (t : Bool) (call : Call) (calls : List Call) → IsWordCall call → All IsWordCall calls → All IsWordCall (if t then call ∷ calls else calls)
by_caller true call calls p all = all_with call calls p all
by_caller false call calls p all = all

pub word_calls : (caller : ℕ) (lines : List Line) → All IsLineSoFar lines → All IsWordCall (calls_of caller lines)
word_calls caller [] all = λ k d low. absurd (omega (arith, low))
word_calls caller (CallLine c call ∷ lines) all =
    by_caller (c == caller) call (calls_of caller lines) (word_call call (all 0 (CallLine c call) (omega arith)).2) (word_calls caller lines (tail (CallLine c call) lines all))
word_calls caller (Fuse c n ∷ lines) all = word_calls caller lines (tail (Fuse c n) lines all)
word_calls caller (Step c n ∷ lines) all = word_calls caller lines (tail (Step c n) lines all)
word_calls caller (Until c event n ∷ lines) all = word_calls caller lines (tail (Until c event n) lines all)
word_calls caller (At c n ∷ lines) all = word_calls caller lines (tail (At c n) lines all)
word_calls caller (Close ∷ lines) all = word_calls caller lines (tail Close lines all)
word_calls caller (Cut n ∷ lines) all = word_calls caller lines (tail (Cut n) lines all)

-- what a pass knows that was cut off just now
pub fresh : (p : Watch) → HoldsOnly [] (pass_right p).view
fresh p = record { held = refl; known = refl; dirty = refl; flushed = refl; planned = refl; moving = refl; owed = refl; areas = refl }

by_recursion : (lines : List Line) → All IsLineSoFar lines → AllByRecursion IsLineSoFar lines
by_recursion [] all = tt
by_recursion (line ∷ lines) all = (all 0 line (omega arith), by_recursion lines (tail line lines all))

-- there are up to 64 callers
pub few_callers : (lines : List Line) → All IsLineSoFar lines → last_caller lines ≤ 64
few_callers lines all = last_so_far lines (by_recursion lines all)
