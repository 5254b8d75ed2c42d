-- The lines of an accepted script are few, they are of the forms that there are so far, and each may stand where it does.
use Rattle.std.proofs.Common.{◌≡◌, ℕ, ◌+◌, ◌-◌, ◌*◌, ◌^◌, ◌<◌, ◌≤◌, List, [], ◌∷◌, length, Bool, true, false, cond, Option, None, Some, inl, inr, refl, sym, ap, subst, arith}
use Rattle.std.specs.Prelude.{map, codes, nat_lt, nat_le, ◌==◌, ◌&&◌, ⊤, if◌then◌else◌, IfSome, All}
use Rattle.std.specs.Str.{bytes_eq}
use Rattle.std.specs.List.{AllByRecursion}
use Rattle.std.proofs.Math.Nat.{max-le}
use Rattle.std.proofs.lemmas.Bool.{cases_Bool}
use Rattle.std.proofs.lemmas.Bool.Decides.{nat_tests}
use Rattle.std.proofs.lemmas.List.Elements.{All-from_recursion}
use Rattle.map_model.specs.declared.call.Call.{Call}
use Rattle.script_text.specs.declared.line.Line.{Line}
use Rattle.script_text.specs.declared.line.Line.TheVariants.{Call as CallLine, Fuse, Step, Until, At, Close, Cut}
use Rattle.script_text.specs.declared.line.Mode.{Mode}
use Rattle.script_text.specs.declared.line.Mode.TheVariants.{Play, Serve}
use Rattle.script_text.specs.declared.phase.Phase.{Phase}
use Rattle.script_text.specs.declared.phase.Phase.TheVariants.{Calling}
use Rattle.script_text.specs.declared.run_form.Aim.{Aim}
use Rattle.script_text.specs.declared.run_form.Aim.TheVariants.{Steps, Events, StoreTo}
use Rattle.script_text.specs.declared.reading.Reading.{Reading}
use Rattle.script_text.specs.declared.reading.Reading.TheVariants.{Skipped, Says, BadWord, BadNumber, BadCaller, BadOrder}
use Rattle.script_text.specs.Splits.{begins_with, lines, words}
use Rattle.script_text.specs.Readings.{is_digit, number_behind, number, is_caller, may_have_runs, get_call, remove_call, insert_call, update_call, says_call, aim_named, run_line, says_run, says_until, says_cut, says_one, says_two, says_three, says_four, says_words, says, line_says}
use Rattle.script_text.specs.Order.{phase_after, phase_behind, may_follow, in_place, in_order, IsOrdered}
use Rattle.script_text.specs.Script.{readings, said, IsScript}
use Rattle.script_text.specs.Calls.{calls_of, last_caller, IsCallSoFar, IsLineSoFar}
use Rattle.script_text.proofs.Progress.{length-readings}

-- NUMBERS
-- a number has 64 bits, where it is one
abbrev IsSmall : Option ℕ → Type 0
IsSmall n = IfSome n (λ k. k < 2 ^ 64)

small_either : (t : Bool) (n other : Option ℕ) → IsSmall n → IsSmall other → IsSmall (cond t n other)
small_either true n other h k = h
small_either false n other h k = k

small_by_test : (t : Bool) (n : ℕ) → nat_lt n (2 ^ 64) ≡ t → IsSmall (cond t (Some n) None)
small_by_test true n e = grind (arith, nat_tests, e)
small_by_test false n e = tt

behind_small : (n : ℕ) (bytes : List ℕ) → IsSmall (number_behind n bytes)
behind_small n [] = small_by_test (nat_lt n (2 ^ 64)) n refl
behind_small n (byte ∷ bytes) = small_either (is_digit byte) (number_behind (n * 10 + (byte - 48)) bytes) None (behind_small (n * 10 + (byte - 48)) bytes) tt

number_small : (word : List ℕ) → IsSmall (number word)
number_small word = small_either (nat_le 1 (length word) && nat_le (length word) 20) (number_behind 0 word) None (behind_small 0 word) tt

-- ONE LINE
-- a line that a reading says is one that there is so far
abbrev SaysSoFar : Reading → Type 0
SaysSoFar Skipped = ⊤
SaysSoFar (Says line) = IsLineSoFar line
SaysSoFar BadWord = ⊤
SaysSoFar BadNumber = ⊤
SaysSoFar BadCaller = ⊤
SaysSoFar BadOrder = ⊤

either : (t : Bool) (reading other : Reading) → SaysSoFar reading → SaysSoFar other → SaysSoFar (cond t reading other)
either true reading other h k = h
either false reading other h k = k

-- CALLS
from_one : (c : ℕ) → is_caller c ≡ true → 1 ≤ c
from_one c e = grind (arith, nat_tests, e)

to_last : (c : ℕ) → is_caller c ≡ true → c ≤ 64
to_last c e = grind (arith, nat_tests, e)

in_range : (t : Bool) (c : ℕ) (call : Call) → is_caller c ≡ t → IsCallSoFar call → SaysSoFar (cond t (Says (CallLine c call)) BadCaller)
in_range true c call e h = (from_one c e, to_last c e, h)
in_range false c call e h = tt

call_so_far : (c : Option ℕ) (call : Option Call) → IfSome call IsCallSoFar → SaysSoFar (says_call c call)
call_so_far None call h = tt
call_so_far (Some c) None h = tt
call_so_far (Some c) (Some call) h = in_range (is_caller c) c call refl h

get_so_far : (k : Option ℕ) → IsSmall k → IfSome (get_call k) IsCallSoFar
get_so_far None h = tt
get_so_far (Some k) h = h

remove_so_far : (k : Option ℕ) → IsSmall k → IfSome (remove_call k) IsCallSoFar
remove_so_far None h = tt
remove_so_far (Some k) h = h

insert_so_far : (k v : Option ℕ) → IsSmall k → IsSmall v → IfSome (insert_call k v) IsCallSoFar
insert_so_far None v h i = tt
insert_so_far (Some k) None h i = tt
insert_so_far (Some k) (Some v) h i = (h, i)

update_so_far : (k v : Option ℕ) → IsSmall k → IsSmall v → IfSome (update_call k v) IsCallSoFar
update_so_far None v h i = tt
update_so_far (Some k) None h i = tt
update_so_far (Some k) (Some v) h i = (h, i)

-- SCHEDULES
runs_to_last : (c : ℕ) → may_have_runs c ≡ true → c ≤ 64
runs_to_last c e = grind (arith, nat_tests, e)

run_in_range : (t : Bool) (aim : Aim) (c n : ℕ) → may_have_runs c ≡ t → n < 2 ^ 64 → SaysSoFar (cond t (Says (run_line aim c n)) BadCaller)
run_in_range true Steps c n e h = (runs_to_last c e, h)
run_in_range true (Events event) c n e h = (runs_to_last c e, h)
run_in_range true StoreTo c n e h = (runs_to_last c e, h)
run_in_range false aim c n e h = tt

run_so_far : (aim : Aim) (c n : Option ℕ) → IsSmall n → SaysSoFar (says_run aim c n)
run_so_far aim None n h = tt
run_so_far aim (Some c) None h = tt
run_so_far aim (Some c) (Some n) h = run_in_range (may_have_runs c) aim c n refl h

until_so_far : (aim : Option Aim) (c n : Option ℕ) → IsSmall n → SaysSoFar (says_until aim c n)
until_so_far None c n h = tt
until_so_far (Some aim) c n h = run_so_far aim c n h

cut_so_far : (n : Option ℕ) → IsSmall n → SaysSoFar (says_cut n)
cut_so_far None h = tt
cut_so_far (Some n) h = h

-- FORMS
one_so_far : (a : List ℕ) → SaysSoFar (says_one a)
one_so_far a = either (bytes_eq a (codes "close")) (Says Close) BadWord tt tt

two_so_far : (a b : List ℕ) → SaysSoFar (says_two a b)
two_so_far a b = either (bytes_eq a (codes "cut")) (says_cut (number b)) BadWord (cut_so_far (number b) (number_small b)) tt

three_so_far : (a b c : List ℕ) → SaysSoFar (says_three a b c)
three_so_far a b c =
    either (bytes_eq a (codes "step")) (says_run Steps (number b) (number c)) _ (run_so_far Steps (number b) (number c) (number_small c))
    (either (bytes_eq b (codes "get")) (says_call (number a) (get_call (number c))) _ (call_so_far (number a) (get_call (number c)) (get_so_far (number c) (number_small c)))
    (either (bytes_eq b (codes "remove")) (says_call (number a) (remove_call (number c))) BadWord
    (call_so_far (number a) (remove_call (number c)) (remove_so_far (number c) (number_small c))) tt))

four_so_far : (a b c d : List ℕ) → SaysSoFar (says_four a b c d)
four_so_far a b c d =
    either (bytes_eq a (codes "until")) (says_until (aim_named c) (number b) (number d)) _ (until_so_far (aim_named c) (number b) (number d) (number_small d))
    (either (bytes_eq b (codes "insert")) (says_call (number a) (insert_call (number c) (number d))) _
    (call_so_far (number a) (insert_call (number c) (number d)) (insert_so_far (number c) (number d) (number_small c) (number_small d)))
    (either (bytes_eq b (codes "update")) (says_call (number a) (update_call (number c) (number d))) BadWord
    (call_so_far (number a) (update_call (number c) (number d)) (update_so_far (number c) (number d) (number_small c) (number_small d))) tt))

words_so_far : (ws : List (List ℕ)) → SaysSoFar (says_words ws)
words_so_far [] = tt
words_so_far (a ∷ []) = one_so_far a
words_so_far (a ∷ b ∷ []) = two_so_far a b
words_so_far (a ∷ b ∷ c ∷ []) = three_so_far a b c
words_so_far (a ∷ b ∷ c ∷ d ∷ []) = four_so_far a b c d
words_so_far (a ∷ b ∷ c ∷ d ∷ more ∷ others) = tt

mode_so_far : (mode : Mode) (ws : List (List ℕ)) → SaysSoFar (says mode ws)
mode_so_far Play ws = words_so_far ws
mode_so_far Serve ws = words_so_far ws

line_so_far : (mode : Mode) (line : List ℕ) → SaysSoFar (line_says mode line)
line_so_far mode line = either (begins_with 35 line) Skipped (says mode (words line)) tt (mode_so_far mode (words line))

place_so_far : (mode : Mode) (phase : Phase) (reading : Reading) → SaysSoFar reading → SaysSoFar (in_place mode phase reading)
place_so_far mode phase Skipped h = tt
place_so_far mode phase (Says line) h = either (may_follow mode phase line) (Says line) BadOrder h tt
place_so_far mode phase BadWord h = tt
place_so_far mode phase BadNumber h = tt
place_so_far mode phase BadCaller h = tt
place_so_far mode phase BadOrder h = tt

-- ALL LINES
one_more : (reading : Reading) (rest : List Reading) → SaysSoFar reading → AllByRecursion IsLineSoFar (said rest) → AllByRecursion IsLineSoFar (said (reading ∷ rest))
one_more Skipped rest h all = all
one_more (Says line) rest h all = (h, all)
one_more BadWord rest h all = all
one_more BadNumber rest h all = all
one_more BadCaller rest h all = all
one_more BadOrder rest h all = all

lines_so_far : (mode : Mode) (phase : Phase) (ls : List (List ℕ)) → AllByRecursion IsLineSoFar (said (in_order mode phase (map (line_says mode) ls)))
lines_so_far mode phase [] = tt
lines_so_far mode phase (line ∷ ls) =
    let next : Reading = in_place mode phase (line_says mode line) in
    one_more next (in_order mode (phase_behind phase next) (map (line_says mode) ls)) (place_so_far mode phase (line_says mode line) (line_so_far mode line))
    (lines_so_far mode (phase_behind phase next) ls)

pub script_so_far : (mode : Mode) (bytes : List ℕ) (script : List Line) → IsScript mode bytes script → AllByRecursion IsLineSoFar script
script_so_far mode bytes script good = subst (AllByRecursion IsLineSoFar) (sym good.all) (lines_so_far mode Calling (lines bytes))

pub all_so_far : (mode : Mode) (bytes : List ℕ) (script : List Line) → IsScript mode bytes script → All IsLineSoFar script
all_so_far mode bytes script good = All-from_recursion IsLineSoFar script (script_so_far mode bytes script good)

-- THE CALLS
pub calls_so_far : (caller : ℕ) (script : List Line) → AllByRecursion IsLineSoFar script → AllByRecursion IsCallSoFar (calls_of caller script)
calls_so_far caller [] h = tt
calls_so_far caller (CallLine c call ∷ rest) h =
    let others = calls_so_far caller rest h.1 in
    let P : Bool → Type 0 = λ b. AllByRecursion IsCallSoFar (if b then call ∷ calls_of caller rest else calls_of caller rest) in
    elim (cases_Bool (c == caller)) [
      | inl t ↦ subst P (sym t) (h.0.2, others)
      | inr t ↦ subst P (sym t) others
    ]
calls_so_far caller (Fuse c n ∷ rest) h = absurd h.0
calls_so_far caller (Step c n ∷ rest) h = calls_so_far caller rest h.1
calls_so_far caller (Until c event n ∷ rest) h = calls_so_far caller rest h.1
calls_so_far caller (At c n ∷ rest) h = calls_so_far caller rest h.1
calls_so_far caller (Close ∷ rest) h = calls_so_far caller rest h.1
calls_so_far caller (Cut n ∷ rest) h = calls_so_far caller rest h.1

-- no call is of a caller behind the last
pub last_so_far : (script : List Line) → AllByRecursion IsLineSoFar script → last_caller script ≤ 64
last_so_far [] h = omega arith
last_so_far (CallLine c call ∷ rest) h = max-le h.0.1 (last_so_far rest h.1)
last_so_far (Fuse c n ∷ rest) h = absurd h.0
last_so_far (Step c n ∷ rest) h = last_so_far rest h.1
last_so_far (Until c event n ∷ rest) h = last_so_far rest h.1
last_so_far (At c n ∷ rest) h = last_so_far rest h.1
last_so_far (Close ∷ rest) h = last_so_far rest h.1
last_so_far (Cut n ∷ rest) h = last_so_far rest h.1

-- THE ORDER
ordered_by_test : (t : Bool) (mode : Mode) (phase : Phase) (line : Line) (rest : List Reading) → may_follow mode phase line ≡ t
    → ((next : Phase) → IsOrdered mode next (said (in_order mode next rest)))
    → IsOrdered mode phase (said (cond t (Says line) BadOrder ∷ in_order mode (phase_behind phase (cond t (Says line) BadOrder)) rest))
ordered_by_test true mode phase line rest e all = (e, all (phase_after phase line))
ordered_by_test false mode phase line rest e all = all phase

ordered : (mode : Mode) (phase : Phase) (rs : List Reading) → IsOrdered mode phase (said (in_order mode phase rs))
ordered mode phase [] = tt
ordered mode phase (Skipped ∷ rest) = ordered mode phase rest
ordered mode phase (Says line ∷ rest) = ordered_by_test (may_follow mode phase line) mode phase line rest refl (λ next. ordered mode next rest)
ordered mode phase (BadWord ∷ rest) = ordered mode phase rest
ordered mode phase (BadNumber ∷ rest) = ordered mode phase rest
ordered mode phase (BadCaller ∷ rest) = ordered mode phase rest
ordered mode phase (BadOrder ∷ rest) = ordered mode phase rest

pub script_ordered : (mode : Mode) (bytes : List ℕ) (script : List Line) → IsScript mode bytes script → IsOrdered mode Calling script
script_ordered mode bytes script good = subst (IsOrdered mode Calling) (sym good.all) (ordered mode Calling (map (line_says mode) (lines bytes)))

-- FEW
at_most : (reading : Reading) (rest : List Reading) (n : ℕ) → length (said rest) ≤ n → length (said (reading ∷ rest)) ≤ n + 1
at_most Skipped rest n h = omega arith
at_most (Says line) rest n h = omega arith
at_most BadWord rest n h = omega arith
at_most BadNumber rest n h = omega arith
at_most BadCaller rest n h = omega arith
at_most BadOrder rest n h = omega arith

length-said : (rs : List Reading) → length (said rs) ≤ length rs
length-said [] = omega arith
length-said (reading ∷ rs) = omega (arith, at_most reading rs (length rs) (length-said rs))

pub few_lines : (mode : Mode) (bytes : List ℕ) (script : List Line) → IsScript mode bytes script → length script ≤ 1000000
few_lines mode bytes script good =
    let same : length script ≡ length (said (readings mode bytes)) = ap (λ (x : List Line). length x) good.all in
    let few : length (lines bytes) ≤ 1000000 = good.short.few_lines in
    omega (arith, same, few, length-said (readings mode bytes), length-readings mode Calling bytes)
