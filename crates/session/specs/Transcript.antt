-- The printed lines of a session: one for each call that began, callers ascending, and serials ascending from 1.
use Rattle.std.specs.Prelude.{ℕ, suc, Option, None, Some, List, [], ◌∷◌, ◌++◌, length, codes}
use Rattle.std.specs.Fmt.{decimal}
use Rattle.map_model.specs.declared.entry.Reply.{Reply}
use Rattle.map_model.specs.declared.entry.Entry.{Entry}
use Rattle.map_model.specs.Weave.{first_caller}
use Rattle.map_model.specs.ReplyText.{reply_text}

-- a line: the caller's number, the call's serial, what became of the call, and a line feed
abbrev pub line : ℕ → ℕ → List ℕ → List ℕ
line caller serial text = decimal caller ++ (codes " " ++ (decimal serial ++ (codes " " ++ (text ++ 10 ∷ []))))

-- a reply with its place
abbrev pub placed_text : Reply → ℕ → List ℕ
placed_text reply place = reply_text reply ++ (codes " @" ++ decimal place)

-- the lines of a caller's answered calls
abbrev pub entry_lines : ℕ → List Entry → List ℕ
entry_lines caller [] = []
entry_lines caller (e ∷ es) = line caller e.serial (placed_text e.reply e.place) ++ entry_lines caller es

-- an open call is printed with its reply and place where it drew one
abbrev pub open_text : Option Entry → List ℕ
open_text None = codes "OPEN"
open_text (Some e) = codes "OPEN " ++ placed_text e.reply e.place

-- what one caller was told: its entries, and whether a call of it was left open, with its entry where that drew
pub record Told : Type 0 where
  pub entries : List Entry
  pub left_open : Option (Option Entry)

abbrev pub open_line : ℕ → ℕ → Option (Option Entry) → List ℕ
open_line caller serial None = []
open_line caller serial (Some drew) = line caller serial (open_text drew)

-- a caller's lines: its answered calls, then the one that is open
abbrev pub caller_lines : ℕ → Told → List ℕ
caller_lines caller told = entry_lines caller told.entries ++ open_line caller (suc (length told.entries)) told.left_open

-- the lines of all callers, the first of whom has this number
abbrev pub lines_from : ℕ → List Told → List ℕ
lines_from caller [] = []
lines_from caller (told ∷ others) = caller_lines caller told ++ lines_from (suc caller) others

-- the transcript: the lines of callers 1, 2, 3 and so on
abbrev pub transcript_of : List Told → List ℕ
transcript_of tolds = lines_from first_caller tolds
