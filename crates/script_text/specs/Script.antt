-- A script that is accepted, and why another is refused.
use Rattle.std.specs.Prelude.{◌≡◌, ℕ, ◌+◌, ◌<◌, ◌≤◌, ◌⊎◌, ⊤, List, [], ◌∷◌, ◌++◌, length, map}
use Rattle.std.specs.List.{AllByRecursion}
use Rattle.script_text.specs.declared.line.Line.{Line}
use Rattle.script_text.specs.declared.line.Mode.{Mode}
use Rattle.script_text.specs.declared.reading.Reading.{Reading}
use Rattle.script_text.specs.declared.reading.Reading.TheVariants.{Skipped, Says, BadWord, BadNumber, BadCaller, BadOrder}
use Rattle.script_text.specs.declared.phase.Phase.TheVariants.{Calling}
use Rattle.script_text.specs.declared.fault.ScriptFault.{ScriptFault}
use Rattle.script_text.specs.declared.fault.ScriptFault.TheVariants.{Word, Number, Caller, Order, TooLong, NoMemory}
use Rattle.script_text.specs.Splits.{lines}
use Rattle.script_text.specs.Readings.{line_says}
use Rattle.script_text.specs.Order.{in_order}

-- what each line of the input says, one after another, behind those before it
abbrev pub readings : Mode → List ℕ → List Reading
readings mode bytes = in_order mode Calling (map (line_says mode) (lines bytes))

-- the line is skipped, or is one of the grammar
abbrev pub IsGood : Reading → Type 0
IsGood Skipped = ⊤
IsGood (Says line) = ⊤
IsGood BadWord = ⊥
IsGood BadNumber = ⊥
IsGood BadCaller = ⊥
IsGood BadOrder = ⊥

-- the lines of the grammar, in their order
abbrev pub said : List Reading → List Line
said [] = []
said (Skipped ∷ rest) = said rest
said (Says line ∷ rest) = line ∷ said rest
said (BadWord ∷ rest) = said rest
said (BadNumber ∷ rest) = said rest
said (BadCaller ∷ rest) = said rest
said (BadOrder ∷ rest) = said rest

-- how many bytes a script may have at most, 16 MiB, and how many lines, the skipped ones counted
abbrev pub most_script_bytes : ℕ
most_script_bytes = 16777216

abbrev pub most_script_lines : ℕ
most_script_lines = 1000000

-- the input has no more bytes and no more lines
pub record IsShort (bytes : List ℕ) : Type 0 where
  pub few_bytes : length bytes ≤ most_script_bytes
  pub few_lines : length (lines bytes) ≤ most_script_lines

-- the input is short, each of its lines is good, and these are the lines that they say
pub record IsScript (mode : Mode) (bytes : List ℕ) (script : List Line) : Type 0 where
  pub short : IsShort bytes
  pub good : AllByRecursion IsGood (readings mode bytes)
  pub all : script ≡ said (readings mode bytes)

-- line n, counted from 1 with the skipped ones, is bad in this way, and all before it are good
pub record IsFirstBad (mode : Mode) (bytes : List ℕ) (bad : Reading) (n : ℕ) : Type 0 where
  pub short : IsShort bytes
  pub front : List Reading
  pub rest : List Reading
  pub split : readings mode bytes ≡ front ++ bad ∷ rest
  pub good_so_far : AllByRecursion IsGood front
  pub place : n ≡ length front + 1

-- the cause of a fault; want of memory has none
abbrev pub HasFault : Mode → List ℕ → ScriptFault → Type 0
HasFault mode bytes (Word line) = IsFirstBad mode bytes BadWord line
HasFault mode bytes (Number line) = IsFirstBad mode bytes BadNumber line
HasFault mode bytes (Caller line) = IsFirstBad mode bytes BadCaller line
HasFault mode bytes (Order line) = IsFirstBad mode bytes BadOrder line
HasFault mode bytes (TooLong line) = (line ≡ 0) × ((most_script_bytes < length bytes) ⊎ (most_script_lines < length (lines bytes)))
HasFault mode bytes NoMemory = ⊤
