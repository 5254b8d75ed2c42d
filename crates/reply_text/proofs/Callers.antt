-- The lines of the callers from one on are its own, and then those of the callers behind it; and so are their calls, counted.
use Rattle.std.proofs.Common.{◌≡◌, ℕ, suc, ◌-◌, ◌+◌, ◌<◌, ◌≤◌, Option, None, Some, List, [], ◌∷◌, ◌++◌, drop, length, get_or, append_assoc, arith}
use Rattle.std.specs.Prelude.{slice_get}
use Rattle.std.proofs.Math.Seq.{drop-cons}
use Rattle.std.proofs.lemmas.Option.{get_or_from_slice_get, slice_get_within}
use Rattle.map_model.specs.declared.entry.Entry.{Entry}
use Rattle.map_model.specs.declared.entry.Stop.{Stop}
use Rattle.session.specs.Transcript.{lines_from, caller_lines}
use Rattle.session.specs.Callers.{open_count}
use Rattle.reply_text.specs.Told.{left_by, told_by, tolds_of, replies_in, opens_in}

-- what stands at a place of a list, and behind it
drop-found : {A : Type 0} (xs : List A) (i : ℕ) (x : A) → slice_get xs i ≡ Some x → drop i xs ≡ x ∷ drop (suc i) xs
drop-found xs i x found = grind (arith, drop-cons xs i x (slice_get_within xs i x found), get_or_from_slice_get xs i x x found)

-- callers are counted from 1, and their lists from 0
list_of-caller : (lists : List (List Entry)) (i : ℕ) (es : List Entry) → slice_get lists (i + 1 - 1) ≡ Some es → slice_get lists i ≡ Some es
list_of-caller lists i es found =
    let same : i + 1 - 1 ≡ i = omega arith in
    grind (arith, same)

lines_from-next : (i : ℕ) (lists : List (List Entry)) (stops : List (Option Stop)) (es : List Entry) (stop : Option Stop)
    → slice_get lists (i + 1 - 1) ≡ Some es → i < length stops → stop ≡ get_or stops i stop
    → lines_from (suc i) (tolds_of (drop i lists) (drop i stops))
    ≡ caller_lines (suc i) (told_by es stop) ++ lines_from (suc (suc i)) (tolds_of (drop (suc i) lists) (drop (suc i) stops))
lines_from-next i lists stops es stop list within e =
    let a : drop i lists ≡ es ∷ drop (suc i) lists = drop-found lists i es (list_of-caller lists i es list) in
    let b : drop i stops ≡ stop ∷ drop (suc i) stops = grind (arith, drop-cons stops i stop within) in
    grind (arith, a, b)

-- with the lines of one caller more, those of the callers behind it are still to come
pub caller_written : (i : ℕ) (lists : List (List Entry)) (stops : List (Option Stop)) (es : List Entry) (stop : Option Stop) (old new all : List ℕ)
    → new ≡ old ++ caller_lines (i + 1) (told_by es stop)
    → old ++ lines_from (suc i) (tolds_of (drop i lists) (drop i stops)) ≡ all
    → slice_get lists (i + 1 - 1) ≡ Some es → i < length stops → stop ≡ get_or stops i stop
    → new ++ lines_from (suc (i + 1)) (tolds_of (drop (i + 1) lists) (drop (i + 1) stops)) ≡ all
caller_written i lists stops es stop old new all written so_far list within e =
    let next = lines_from-next i lists stops es stop list within e in
    grind (arith, append_assoc, next)

-- with the replies of one caller more, those of the callers behind it are still to come
pub caller_counted : (i : ℕ) (lists : List (List Entry)) (es : List Entry) (old all : ℕ) → old + replies_in (drop i lists) ≡ all → slice_get lists (i + 1 - 1) ≡ Some es
    → old + length es + replies_in (drop (i + 1) lists) ≡ all
caller_counted i lists es old all so_far list =
    let a : drop i lists ≡ es ∷ drop (suc i) lists = drop-found lists i es (list_of-caller lists i es list) in
    grind (arith, a)

-- and they are no more than all
pub caller_within : (i : ℕ) (lists : List (List Entry)) (es : List Entry) (old all : ℕ) → old + replies_in (drop i lists) ≡ all → slice_get lists (i + 1 - 1) ≡ Some es
    → old + length es ≤ all
caller_within i lists es old all so_far list =
    let next = caller_counted i lists es old all so_far list in
    omega (arith, next)

-- and so are the open calls
pub open_counted : (i : ℕ) (lists : List (List Entry)) (stops : List (Option Stop)) (old more all : ℕ)
    → old + opens_in (tolds_of (drop i lists) (drop i stops)) ≡ all
    → i < length lists → i < length stops → more ≡ open_count (left_by (get_or stops i None))
    → old + more + opens_in (tolds_of (drop (i + 1) lists) (drop (i + 1) stops)) ≡ all
open_counted i lists stops old more all so_far many within e =
    let a = drop-cons lists i [] many in
    let b = drop-cons stops i None within in
    grind (arith, a, b)
