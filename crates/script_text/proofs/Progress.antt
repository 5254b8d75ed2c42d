-- What has been read of a script: the readings of its first lines, all good, and the lines that they say.
use Rattle.std.proofs.Common.{◌≡◌, ℕ, ◌+◌, ◌<◌, ◌≤◌, List, [], ◌∷◌, ◌++◌, length, refl, sym, ap, ◌∙◌, subst, arith, length-append, eqb-true}
use Rattle.std.specs.Prelude.{◌==◌, true, map}
use Rattle.std.specs.List.{AllByRecursion}
use Rattle.std.proofs.lemmas.Grind.{common_steps}
use Rattle.std.proofs.lemmas.List.{length_push, append-nil, length-map}
use Rattle.script_text.specs.declared.line.Line.{Line}
use Rattle.script_text.specs.declared.line.Mode.{Mode}
use Rattle.script_text.specs.declared.phase.Phase.{Phase}
use Rattle.script_text.specs.declared.phase.Phase.TheVariants.{Calling}
use Rattle.script_text.specs.declared.reading.Reading.{Reading}
use Rattle.script_text.specs.declared.reading.Reading.TheVariants.{Skipped, Says, BadWord, BadNumber, BadCaller, BadOrder}
use Rattle.script_text.specs.Splits.{lines}
use Rattle.script_text.specs.Readings.{line_says}
use Rattle.script_text.specs.Order.{phase_after, phase_behind, in_place, in_order}
use Rattle.script_text.specs.Script.{readings, IsGood, said, IsShort, IsScript, IsFirstBad}

-- what the lines of a rest say, behind lines that led to this phase
abbrev pub readings_behind : Mode → Phase → List ℕ → List Reading
readings_behind mode phase rest = in_order mode phase (map (line_says mode) (lines rest))

-- so many lines have been read, all good, they led to this phase, and the rest is to come
pub record IsReadTo (mode : Mode) (bytes rest : List ℕ) (phase : Phase) (script : List Line) (number : ℕ) : Type 0 where
  pub front : List Reading
  pub split : readings mode bytes ≡ front ++ readings_behind mode phase rest
  pub good_so_far : AllByRecursion IsGood front
  pub all : script ≡ said front
  pub place : number ≡ length front

said-append : (front back : List Reading) → said (front ++ back) ≡ said front ++ said back
said-append [] back = refl
said-append (Skipped ∷ front) back = said-append front back
said-append (Says line ∷ front) back = ap (λ (x : List Line). line ∷ x) (said-append front back)
said-append (BadWord ∷ front) back = said-append front back
said-append (BadNumber ∷ front) back = said-append front back
said-append (BadCaller ∷ front) back = said-append front back
said-append (BadOrder ∷ front) back = said-append front back

good_more : (front : List Reading) (next : Reading) → AllByRecursion IsGood front → IsGood next → AllByRecursion IsGood (front ++ next ∷ [])
good_more [] next h good = (good, tt)
good_more (reading ∷ front) next h good = (h.0, good_more front next h.1 good)

-- the readings of lines with one line in front
next_reading : (mode : Mode) (rest after line : List ℕ) (phase : Phase) (reading next : Reading) → lines rest ≡ line ∷ lines after → reading ≡ line_says mode line
    → next ≡ in_place mode phase reading → readings_behind mode phase rest ≡ next ∷ readings_behind mode (phase_behind phase next) after
next_reading mode rest after line phase reading next e f g =
    ap (λ (ls : List (List ℕ)). in_order mode phase (map (line_says mode) ls)) e
    ∙ ap (λ (r : Reading). in_place mode phase r ∷ in_order mode (phase_behind phase (in_place mode phase r)) (map (line_says mode) (lines after))) (sym f)
    ∙ ap (λ (r : Reading). r ∷ readings_behind mode (phase_behind phase r) after) (sym g)

regroup : (front back : List Reading) (next : Reading) → front ++ next ∷ back ≡ (front ++ next ∷ []) ++ back
regroup front back next = grind (arith, common_steps)

pub begin_reading : (mode : Mode) (bytes : List ℕ) → IsReadTo mode bytes bytes Calling [] 0
begin_reading mode bytes = record { front = []; split = refl; good_so_far = tt; all = refl; place = refl }

read_more : (mode : Mode) (bytes rest after line : List ℕ) (phase : Phase) (script : List Line) (number : ℕ) (reading next : Reading) → IsReadTo mode bytes rest phase script number
    → lines rest ≡ line ∷ lines after → reading ≡ line_says mode line → next ≡ in_place mode phase reading → IsGood next
    → IsReadTo mode bytes after (phase_behind phase next) (script ++ said (next ∷ [])) (number + 1)
read_more mode bytes rest after line phase script number reading next read e f g good = record {
  front = read.front ++ next ∷ [];
  split = read.split
      ∙ ap (λ (x : List Reading). read.front ++ x) (next_reading mode rest after line phase reading next e f g)
      ∙ regroup read.front (readings_behind mode (phase_behind phase next) after) next;
  good_so_far = good_more read.front next read.good_so_far good;
  all = ap (λ (x : List Line). x ++ said (next ∷ [])) read.all ∙ sym (said-append read.front (next ∷ []));
  place = ap (λ (n : ℕ). n + 1) read.place ∙ sym (length_push read.front next);
}

pub read_skipped : (mode : Mode) (bytes rest after line : List ℕ) (phase : Phase) (script : List Line) (number : ℕ) (reading : Reading) → IsReadTo mode bytes rest phase script number
    → lines rest ≡ line ∷ lines after → reading ≡ line_says mode line → Skipped ≡ in_place mode phase reading → IsReadTo mode bytes after phase script (number + 1)
read_skipped mode bytes rest after line phase script number reading read e f g =
    subst (λ (x : List Line). IsReadTo mode bytes after phase x (number + 1)) (append-nil script) (read_more mode bytes rest after line phase script number reading Skipped read e f g tt)

pub read_line : (mode : Mode) (bytes rest after line : List ℕ) (phase : Phase) (script : List Line) (number : ℕ) (reading : Reading) (one : Line) → IsReadTo mode bytes rest phase script number
    → lines rest ≡ line ∷ lines after → reading ≡ line_says mode line → Says one ≡ in_place mode phase reading
    → IsReadTo mode bytes after (phase_after phase one) (script ++ one ∷ []) (number + 1)
read_line mode bytes rest after line phase script number reading one read e f g = read_more mode bytes rest after line phase script number reading (Says one) read e f g tt

pub first_bad : (mode : Mode) (bytes rest after line : List ℕ) (phase : Phase) (script : List Line) (number : ℕ) (reading bad : Reading) → IsShort bytes
    → IsReadTo mode bytes rest phase script number → lines rest ≡ line ∷ lines after → reading ≡ line_says mode line → bad ≡ in_place mode phase reading
    → IsFirstBad mode bytes bad (number + 1)
first_bad mode bytes rest after line phase script number reading bad short read e f g = record {
  short = short;
  front = read.front;
  rest = readings_behind mode (phase_behind phase bad) after;
  split = read.split ∙ ap (λ (x : List Reading). read.front ++ x) (next_reading mode rest after line phase reading bad e f g);
  good_so_far = read.good_so_far;
  place = ap (λ (n : ℕ). n + 1) read.place;
}

pub none_left : (rest : List ℕ) → (length rest == 0) ≡ true → rest ≡ []
none_left [] e = refl
none_left (b ∷ rest) e = absurd (omega (arith, eqb-true (length (b ∷ rest)) 0 e))

pub read_all : (mode : Mode) (bytes rest : List ℕ) (phase : Phase) (script : List Line) (number : ℕ) → IsShort bytes → IsReadTo mode bytes rest phase script number → rest ≡ []
    → IsScript mode bytes script
read_all mode bytes rest phase script number short read e =
    let whole : readings mode bytes ≡ read.front = read.split ∙ ap (λ (x : List ℕ). read.front ++ readings_behind mode phase x) e ∙ append-nil read.front in
    record {
      short = short;
      good = subst (AllByRecursion IsGood) (sym whole) read.good_so_far;
      all = read.all ∙ ap said (sym whole);
    }

-- FEW LINES
length-in_order : (mode : Mode) (phase : Phase) (rs : List Reading) → length (in_order mode phase rs) ≡ length rs
length-in_order mode phase [] = refl
length-in_order mode phase (r ∷ rs) = omega (arith, length-in_order mode (phase_behind phase (in_place mode phase r)) rs)

pub length-readings : (mode : Mode) (phase : Phase) (bytes : List ℕ) → length (readings_behind mode phase bytes) ≡ length (lines bytes)
length-readings mode phase bytes = length-in_order mode phase (map (line_says mode) (lines bytes)) ∙ length-map (lines bytes) (line_says mode)

pub still_few : (mode : Mode) (bytes rest after line : List ℕ) (phase : Phase) (script : List Line) (number : ℕ) → IsShort bytes → IsReadTo mode bytes rest phase script number
    → lines rest ≡ line ∷ lines after → number < 1000000
still_few mode bytes rest after line phase script number short read e =
    let few : length (lines bytes) ≤ 1000000 = short.few_lines in
    let whole : length (readings mode bytes) ≡ length read.front + length (readings_behind mode phase rest) =
    ap (λ (x : List Reading). length x) read.split ∙ length-append read.front (readings_behind mode phase rest) in
    let one : length (lines rest) ≡ length (line ∷ lines after) = ap (λ (x : List (List ℕ)). length x) e in
    omega (arith, few, whole, one, length-readings mode Calling bytes, length-readings mode phase rest, read.place)
