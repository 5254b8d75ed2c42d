-- What one line says.
use Rattle.std.specs.Prelude.{ℕ, ◌+◌, ◌-◌, ◌*◌, ◌^◌, nat_lt, nat_le, ◌&&◌, Bool, Option, Some, None, List, [], ◌∷◌, length, codes, if◌then◌else◌}
use Rattle.std.specs.Str.{bytes_eq}
use Rattle.map_model.specs.declared.call.Call.{Call}
use Rattle.map_model.specs.declared.call.Call.TheVariants.{Get, Insert, Update, Remove}
use Rattle.map_model.specs.Weave.{most_callers, first_caller}
use Rattle.script_text.specs.declared.line.Line.{Line}
use Rattle.script_text.specs.declared.line.Line.TheVariants.{Call as CallLine, Step, Until, At, Close, Cut}
use Rattle.script_text.specs.declared.line.Counted.TheVariants.{Store, Exchange, Flush, Fence, Draw, End}
use Rattle.script_text.specs.declared.line.Mode.{Mode}
use Rattle.script_text.specs.declared.line.Mode.TheVariants.{Play, Serve}
use Rattle.script_text.specs.declared.run_form.Aim.{Aim}
use Rattle.script_text.specs.declared.run_form.Aim.TheVariants.{Steps, Events, StoreTo}
use Rattle.script_text.specs.declared.reading.Reading.{Reading}
use Rattle.script_text.specs.declared.reading.Reading.TheVariants.{Skipped, Says, BadWord, BadNumber, BadCaller}
use Rattle.script_text.specs.Splits.{begins_with, words}

-- NUMBERS
abbrev pub is_digit : ℕ → Bool
is_digit byte = nat_le 48 byte && nat_le byte 57

-- the value of decimal digits that stand behind a number, where it has 64 bits
abbrev pub number_behind : ℕ → List ℕ → Option ℕ
number_behind n [] = if nat_lt n (2 ^ 64) then Some n else None
number_behind n (byte ∷ bytes) = if is_digit byte then number_behind (n * 10 + (byte - 48)) bytes else None

-- the most digits that a number may have: as many as the greatest number below 2^64 has
abbrev pub most_digits : ℕ
most_digits = 20

-- a number is at least one decimal digit and at most so many, of a value of 64 bits
abbrev pub number : List ℕ → Option ℕ
number word = if nat_le 1 (length word) && nat_le (length word) most_digits then number_behind 0 word else None

-- CALLERS
-- the range of those who call: 1 to 64
abbrev pub is_caller : ℕ → Bool
is_caller c = nat_le first_caller c && nat_le c most_callers

-- the range of those whom a schedule names: 0, who starts and closes the image, and those who call
abbrev pub may_have_runs : ℕ → Bool
may_have_runs c = nat_le c most_callers

-- CALLS
abbrev pub get_call : Option ℕ → Option Call
get_call None = None
get_call (Some k) = Some (Get k)

abbrev pub remove_call : Option ℕ → Option Call
remove_call None = None
remove_call (Some k) = Some (Remove k)

abbrev pub insert_call : Option ℕ → Option ℕ → Option Call
insert_call None v = None
insert_call (Some k) None = None
insert_call (Some k) (Some v) = Some (Insert k v)

abbrev pub update_call : Option ℕ → Option ℕ → Option Call
update_call None v = None
update_call (Some k) None = None
update_call (Some k) (Some v) = Some (Update k v)

-- a call of a caller, where each number is one, and then the caller is in range
abbrev pub says_call : Option ℕ → Option Call → Reading
says_call None call = BadNumber
says_call (Some c) None = BadNumber
says_call (Some c) (Some call) = if is_caller c then Says (CallLine c call) else BadCaller

-- SCHEDULES
-- what an `until` waits for, by its name
abbrev pub aim_named : List ℕ → Option Aim
aim_named name =
    if bytes_eq name (codes "store") then Some (Events Store) else
    if bytes_eq name (codes "exchange") then Some (Events Exchange) else
    if bytes_eq name (codes "flush") then Some (Events Flush) else
    if bytes_eq name (codes "fence") then Some (Events Fence) else
    if bytes_eq name (codes "draw") then Some (Events Draw) else
    if bytes_eq name (codes "end") then Some (Events End) else
    if bytes_eq name (codes "at") then Some StoreTo else None

-- the line that lets a caller run to an aim
abbrev pub run_line : Aim → ℕ → ℕ → Line
run_line Steps c n = Step c n
run_line (Events event) c n = Until c event n
run_line StoreTo c n = At c n

-- a run of a caller, where each number is one, and then the caller is in range
abbrev pub says_run : Aim → Option ℕ → Option ℕ → Reading
says_run aim None n = BadNumber
says_run aim (Some c) None = BadNumber
says_run aim (Some c) (Some n) = if may_have_runs c then Says (run_line aim c n) else BadCaller

-- a run to an aim that has a name
abbrev pub says_until : Option Aim → Option ℕ → Option ℕ → Reading
says_until None c n = BadWord
says_until (Some aim) c n = says_run aim c n

-- a cut, where its number is one
abbrev pub says_cut : Option ℕ → Reading
says_cut None = BadNumber
says_cut (Some n) = Says (Cut n)

-- LINES
-- the form of one word: close
abbrev pub says_one : List ℕ → Reading
says_one a = if bytes_eq a (codes "close") then Says Close else BadWord

-- the form of two words: cut c
abbrev pub says_two : List ℕ → List ℕ → Reading
says_two a b = if bytes_eq a (codes "cut") then says_cut (number b) else BadWord

-- the forms of three words: step C n, C get K, and C remove K
abbrev pub says_three : List ℕ → List ℕ → List ℕ → Reading
says_three a b c =
    if bytes_eq a (codes "step") then says_run Steps (number b) (number c) else
    if bytes_eq b (codes "get") then says_call (number a) (get_call (number c)) else
    if bytes_eq b (codes "remove") then says_call (number a) (remove_call (number c)) else BadWord

-- the forms of four words: until C KIND n, until C at W, C insert K V, and C update K V
abbrev pub says_four : List ℕ → List ℕ → List ℕ → List ℕ → Reading
says_four a b c d =
    if bytes_eq a (codes "until") then says_until (aim_named c) (number b) (number d) else
    if bytes_eq b (codes "insert") then says_call (number a) (insert_call (number c) (number d)) else
    if bytes_eq b (codes "update") then says_call (number a) (update_call (number c) (number d)) else BadWord

-- the number of words decides which forms there are
abbrev pub says_words : List (List ℕ) → Reading
says_words [] = Skipped
says_words (a ∷ []) = says_one a
says_words (a ∷ b ∷ []) = says_two a b
says_words (a ∷ b ∷ c ∷ []) = says_three a b c
says_words (a ∷ b ∷ c ∷ d ∷ []) = says_four a b c d
says_words (a ∷ b ∷ c ∷ d ∷ more ∷ others) = BadWord

-- the forms of each mode: so far the same, since where a line may stand is a matter of order
abbrev pub says : Mode → List (List ℕ) → Reading
says Play line = says_words line
says Serve line = says_words line

-- a line whose first byte is # (35) is skipped, and one with no words
abbrev pub line_says : Mode → List ℕ → Reading
line_says mode line = if begins_with 35 line then Skipped else says mode (words line)
