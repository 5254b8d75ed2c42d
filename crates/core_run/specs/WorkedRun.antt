-- A worked run: the events of an insert into a new image, written out, and after which of them each kind of line stops.
use Rattle.std.specs.Prelude.{◌≡◌, ℕ, ◌+◌, ◌==◌, true, false, None, Some, List, [], ◌∷◌, ◌++◌, map, replicate, reverse, take, if◌then◌else◌}
use Rattle.std.specs.List.{AllByRecursion, range_with_len}
use Rattle.trace.specs.Events.{Words, with_word, Event, Trace, loaded, stored, exchanged, drawn, flushed, fenced}
use Rattle.image_layout.specs.Places.{Shape, block}
use Rattle.map_model.specs.declared.call.Call.{Call}
use Rattle.map_model.specs.declared.call.Call.TheVariants.{Insert}
use Rattle.map_model.specs.declared.change.Effect.TheVariants as effect
use Rattle.script_text.specs.declared.line.Counted.TheVariants.{Store, Exchange, Flush, Fence, Draw, End}
use Rattle.script_text.specs.declared.line.Line.{Line}
use Rattle.script_text.specs.declared.line.Line.TheVariants.{Step, Until, At, Close, Cut}
use Rattle.restart_op.specs.Close.{begun as close_begun}
use Rattle.phase.specs.declared.role.Role.{Role}
use Rattle.phase.specs.declared.role.Role.TheVariants.{Home, Probing}
use Rattle.phase.specs.declared.make.Record.{Record}
use Rattle.phase.specs.declared.make.Make.TheVariants.{Key}
use Rattle.phase.specs.Buckets.{no_words}
use Rattle.write_op.specs.declared.step.WriteStep.{WriteStep}
use Rattle.write_op.specs.declared.step.WriteStep.TheVariants.{Fill, Count, Make}
use Rattle.write_op.specs.Steps.{nothing}
use Rattle.engine.specs.declared.engine.Op.TheVariants.{Write}
use Rattle.engine.specs.Core.{Caller}
use Rattle.core_run.specs.declared.keeper.Keeper.TheVariants.{Open, Closing}
use Rattle.core_run.specs.State.{State, beginning}
use Rattle.core_run.specs.Run.{line_done, most_events, state_at_end, cut_of}

-- a new image of one segment, of depth 0 and with the keys as their hashes, as far as the run looks at its words
abbrev pub small : Shape
small = record { segments = 1; depth = 0; kind = 0 }

abbrev pub new_word : Words
new_word word = if word == 16 then 257 else if word == 65 then 257 else 0

-- one caller with one call
abbrev pub one_insert : List (List Call)
one_insert = (Insert 5 7 ∷ []) ∷ []

abbrev pub at_first : State
at_first = beginning small new_word one_insert

-- THE RESTART, by caller 0
abbrev pub restart_events : List Event
restart_events = loaded 0 16 ∷ stored 0 16 1 ∷ flushed 0 2 ∷ fenced 0 ∷ []

-- THE INSERT. Events 1 to 11: the power word, root, entry and header, two lock words that are locked, and root, entry and
-- header again
abbrev pub way_events : List Event
way_events =
    loaded 1 2209 ∷ loaded 1 8 ∷ loaded 1 32 ∷ loaded 1 65 ∷ loaded 1 96 ∷ exchanged 1 96 1 ∷ loaded 1 128 ∷ exchanged 1 128 1 ∷ loaded 1 8
    ∷ loaded 1 32 ∷ loaded 1 65 ∷ []

-- events 12 to 73: the other words of the home bucket, and of the probing bucket
abbrev pub bucket_events : List Event
bucket_events = map (loaded 1) (range_with_len 97 31) ++ map (loaded 1) (range_with_len 129 31)

-- events 74 to 85: the counter; key, value and fingerprint, flushed and fenced; the word that makes the record count, flushed
-- and fenced; the draw; the locks back
abbrev pub change_events : List Event
change_events =
    loaded 1 2208 ∷ stored 1 100 5 ∷ stored 1 101 7 ∷ stored 1 98 5 ∷ flushed 1 12 ∷ fenced 1 ∷ stored 1 97 1 ∷ flushed 1 12 ∷ fenced 1
    ∷ drawn 1 2208 ∷ stored 1 96 2 ∷ stored 1 128 2 ∷ []

abbrev pub insert_events : List Event
insert_events = way_events ++ (bucket_events ++ change_events)

-- the trace when the restart and the first so many events of the insert are done
abbrev pub done_of_insert : ℕ → Trace
done_of_insert n = reverse (restart_events ++ take n insert_events)

-- A LINE leaves this state
abbrev pub after_line : Line → State → State
after_line l s = line_done small (most_events small one_insert) l s

-- FROM THE BEGINNING a line of caller 0 stops after so many events of the restart
abbrev pub StopsInRestart : Line × ℕ → Type 0
StopsInRestart row = (after_line row.0 at_first).core.trace ≡ reverse (take row.1 restart_events)

abbrev pub restart_rows : List (Line × ℕ)
restart_rows =
    (Step 0 1, 1) ∷ (Until 0 Store 1, 2) ∷ (At 0 16, 2) ∷ (Until 0 Flush 1, 3) ∷ (Until 0 Fence 1, 4) ∷ (Until 0 Exchange 1, 4) ∷ []

-- and one of caller 1 after so many of the insert
abbrev pub StopsOnTheWay : Line × ℕ → Type 0
StopsOnTheWay row = (after_line row.0 at_first).core.trace ≡ done_of_insert row.1

abbrev pub way_rows : List (Line × ℕ)
way_rows = (Step 1 7, 7) ∷ (Until 1 Exchange 1, 6) ∷ (Until 1 Exchange 2, 8) ∷ []

-- THE BUCKETS are loaded by lines that count each event, which lead to the state before the change. In between the insert
-- holds both locks, has seen no word but 0 in its buckets, and stands at this step
abbrev pub locked_word : Words
locked_word = with_word (with_word (with_word new_word 16 1) 96 1) 128 1

abbrev pub caller_at : Record → WriteStep → Caller
caller_at written step = record {
  site = record { geometry = small; version = 1; caller = 1 };
  calls = Insert 5 7 ∷ [];
  entries = [];
  engine =
      Some
      (record {
        op =
            Write
            (record {
              task = record {
                site = record { geometry = small; version = 1; caller = 1 };
                change = record { key = 5; effect = effect.Insert 7 };
                hash = 5;
              };
              stage = record {
                seen = record {
                  path = record { root = 0; segment = 0; head = 257 };
                  first = false;
                  second = false;
                  held = record { home = Some 0; probing = Some 0; first = None; second = None; next = None; previous = None };
                  buckets = no_words;
                  place = Home;
                  written = written;
                };
                step = step;
              };
            });
      });
  begun = true;
  drew = None;
}

abbrev pub standing_with : Record → ℕ → WriteStep → State
standing_with written n step =
    record { keeper = Open; core = record { words = locked_word; trace = done_of_insert n; callers = caller_at written step ∷ [] } }

abbrev pub standing : ℕ → WriteStep → State
standing n step = standing_with nothing.written n step

-- so many words of a bucket are loaded
abbrev pub loading : Role → ℕ → WriteStep
loading place n = Fill place (record { words = replicate block 0; next = n + 1 })

-- what is stored of its record, in the first slot
abbrev pub its_record : Record
its_record = record { slot = 0; key = 5; value = 7; fingers = 5; published = 1; mark = 1 }

abbrev pub before_change : State
before_change = standing_with its_record 74 (Make Key)

-- FROM THERE a line stops after so many events of the insert
abbrev pub StopsInChange : Line × ℕ → Type 0
StopsInChange row = (after_line row.0 before_change).core.trace ≡ done_of_insert row.1

abbrev pub change_rows : List (Line × ℕ)
change_rows =
    (Step 1 3, 77) ∷ (Until 1 Store 1, 75) ∷ (Until 1 Store 4, 80) ∷ (Until 1 Flush 1, 78) ∷ (Until 1 Flush 2, 81) ∷ (Until 1 Fence 1, 79)
    ∷ (Until 1 Fence 2, 82) ∷ (Until 1 Draw 1, 83) ∷ (Until 1 End 1, 85) ∷ (Until 1 Exchange 1, 85) ∷ (At 1 97, 80) ∷ (At 1 96, 84)
    ∷ (At 1 99, 85) ∷ []

-- A CLOSE lets the calls run out, and is begun then
pub record ClosesAfter (n : ℕ) (s : State) : Type 0 where
  pub begun : s.keeper ≡ Closing (close_begun small)
  pub run_out : s.core.trace ≡ done_of_insert n

-- A SCRIPT'S END: from the state before the change these lines lead here
abbrev pub at_end : List Line → State
at_end lines = state_at_end small (most_events small one_insert) lines (cut_of lines) before_change

-- EACH LINE STOPS where its row says
pub record LinesStop : Type 0 where
  pub in_restart : AllByRecursion StopsInRestart restart_rows
  pub on_the_way : AllByRecursion StopsOnTheWay way_rows
  pub locked : after_line (Step 1 11) at_first ≡ standing 11 (loading Home 0)
  pub home_ten : after_line (Step 1 10) (standing 11 (loading Home 0)) ≡ standing 21 (loading Home 10)
  pub home_twenty : after_line (Step 1 10) (standing 21 (loading Home 10)) ≡ standing 31 (loading Home 20)
  pub home_all : after_line (Step 1 11) (standing 31 (loading Home 20)) ≡ standing 42 (loading Probing 0)
  pub probing_ten : after_line (Step 1 10) (standing 42 (loading Probing 0)) ≡ standing 52 (loading Probing 10)
  pub probing_twenty : after_line (Step 1 10) (standing 52 (loading Probing 10)) ≡ standing 62 (loading Probing 20)
  pub probing_all : after_line (Step 1 11) (standing 62 (loading Probing 20)) ≡ standing 73 Count
  pub counted : after_line (Step 1 1) (standing 73 Count) ≡ before_change
  pub in_change : AllByRecursion StopsInChange change_rows
  pub closing : ClosesAfter 85 (after_line Close before_change)
  pub at_cut : after_line (Cut 2) before_change ≡ before_change
  pub ends_in_cut : at_end (Step 1 3 ∷ Cut 2 ∷ []) ≡ after_line (Step 1 3) before_change
