-- The definitions, computed on worked sessions: what is printed, and what is woven, of one caller and of two.
use Rattle.std.proofs.Common.{◌≡◌, ℕ, List, [], ◌∷◌, ◌++◌, refl, Option, None, Some, Bool, true, false}
use Rattle.std.specs.Prelude.{codes}
use Rattle.std.specs.Fmt.{digits}
use Rattle.map_model.specs.declared.call.Call.{Call}
use Rattle.map_model.specs.declared.call.Call.TheVariants.{Get, Insert}
use Rattle.map_model.specs.declared.entry.Reply.{Reply}
use Rattle.map_model.specs.declared.entry.Reply.TheVariants.{Found, Done, Exists}
use Rattle.map_model.specs.declared.entry.Entry.{Entry}
use Rattle.map_model.specs.Weave.{weave}
use Rattle.session.specs.Transcript.{Told, transcript_of}
use Rattle.session.specs.Callers.{history_of, undrawn}

abbrev entry : ℕ → Call → Reply → ℕ → Bool → Entry
entry serial call reply place drew = record { serial = serial; call = call; reply = reply; place = place; drew = drew }

abbrev told : List Entry → Option (Option Entry) → Told
told entries left_open = record { entries = entries; left_open = left_open }

-- an insert and a get of one caller
abbrev inserted : Entry
inserted = entry 1 (Insert 5 7) Done 0 true

abbrev found : Entry
found = entry 2 (Get 5) (Found 7) 1 false

two_calls : transcript_of (told (inserted ∷ found ∷ []) None ∷ []) ≡ codes "1 1 DONE @0" ++ 10 ∷ codes "1 2 FOUND 7 @1" ++ 10 ∷ []
unfolding digits
two_calls = refl

woven_in_order : weave ((inserted ∷ found ∷ []) ∷ []) ≡ inserted ∷ found ∷ []
woven_in_order = refl

-- a call that a cut left open, without its place and with it
open_call : transcript_of (told [] (Some None) ∷ []) ≡ codes "1 1 OPEN" ++ 10 ∷ []
unfolding digits
open_call = refl

open_call_that_drew : transcript_of (told [] (Some (Some inserted)) ∷ []) ≡ codes "1 1 OPEN DONE @0" ++ 10 ∷ []
unfolding digits
open_call_that_drew = refl

open_call_left : undrawn ((Insert 5 7 ∷ Get 5 ∷ []) ∷ []) (told [] (Some None) ∷ []) ≡ Insert 5 7 ∷ []
open_call_left = refl

drawn_call_is_history : history_of (told [] (Some (Some inserted))) ≡ inserted ∷ []
drawn_call_is_history = refl

-- two callers insert, and the second one is first
abbrev later : Entry
later = entry 1 (Insert 5 7) Done 1 true

abbrev earlier : Entry
earlier = entry 1 (Insert 512 9) Done 0 true

second_is_first : weave ((later ∷ []) ∷ (earlier ∷ []) ∷ []) ≡ earlier ∷ later ∷ []
second_is_first = refl

printed_by_caller : transcript_of (told (later ∷ []) None ∷ told (earlier ∷ []) None ∷ []) ≡ codes "1 1 DONE @1" ++ 10 ∷ codes "2 1 DONE @0" ++ 10 ∷ []
unfolding digits
printed_by_caller = refl

-- a place that is loaded stands before the change that draws it
abbrev refused : Entry
refused = entry 1 (Insert 5 8) Exists 1 false

loaded_before_drawn : weave ((inserted ∷ entry 2 (Insert 6 1) Done 1 true ∷ []) ∷ (refused ∷ []) ∷ []) ≡ inserted ∷ refused ∷ entry 2 (Insert 6 1) Done 1 true ∷ []
loaded_before_drawn = refl
