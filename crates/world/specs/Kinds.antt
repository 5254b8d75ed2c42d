-- The kinds of step: why an event is made, with its numbers. For each: which event it is, and what the stepping view becomes.
use Rattle.std.specs.Prelude.{◌==◌, ◌&&◌, ℕ, suc, nat_lt, Bool, true, false, Option, None, Some, List, [], ◌∷◌, ◌++◌, length, if◌then◌else◌}
use Rattle.op_core.specs.declared.want.Want.{Want}
use Rattle.op_core.specs.declared.want.Want.TheVariants.{Load, Store, Exchange, Flush, Fence, Draw, Power}
use Rattle.trace.specs.Events.{line_of}
use Rattle.bucket_meta.specs.Bucket.{lock_bit, locked}
pub use Rattle.hash_word.specs.Hash.{first_hash_of}
use Rattle.segment_head.specs.HeadWord.{version_in, depth_in, pattern_in, is_live}
use Rattle.image_layout.specs.Places.{Shape, root_word, entry_at, header_word}
use Rattle.image_layout.specs.Ranges.{is_under}
use Rattle.image_layout.specs.Volatile.{counter_word, power_word, power_off}
use Rattle.map_model.specs.declared.call.Call.{Call}
use Rattle.map_model.specs.declared.call.Call.TheVariants.{Get}
use Rattle.map_model.specs.declared.entry.Reply.{Reply}
use Rattle.map_model.specs.declared.entry.Reply.TheVariants.{Done, Spent}
use Rattle.map_model.specs.declared.entry.Entry.{Entry}
use Rattle.world.specs.Ground.{spent_lock}
use Rattle.map_model.specs.Map.{key_of, shown}
use Rattle.map_model.specs.Legal.{seen_after}
use Rattle.map_model.specs.Weave.{spent_count}
use Rattle.frame_facts.specs.Core.{core_of}
use Rattle.frame_facts.specs.Facts.{Fact, Lives, Current, Rooted, Begins}
use Rattle.world.specs.Views.{Glance, Answer, Move, Owed, View}
use Rattle.world.specs.History.{Log, change_of}

pub data Kind : Type 0 where
  -- a load of any word, of which nothing is kept
  peeks : (word : ℕ) → Kind
  -- a load of the power word, with which an attempt begins: what was noted before is forgotten
  asks_power : Kind
  -- a load of the root depth, after which the entries of that depth may be relied on
  meets_root : Kind
  -- a load of an entry of such a depth: the segment that it names is live
  meets_entry : (depth index : ℕ) → Kind
  -- a load of the header of such a segment, which is noted; where it is live with this version, the image's, that stays so
  meets_head : (slot version : ℕ) → Kind
  -- a load of a header under one of the locks of its segment, which keep it as it is
  pins : (slot bucket : ℕ) → Kind
  -- a load of the commit counter before a change is stored: there is room for one place more, or else the call is
  -- answered as spent
  finds_room : (call : Call) → Kind
  -- a load of the commit counter that places the reply to a call that changes nothing
  refuses : (call : Call) (reply : Reply) → Kind
  -- a load of the commit counter that places what a key has by the notes
  places : (key : ℕ) (value : Option ℕ) → Kind
  -- a first load of a lock word
  looks : (lock : ℕ) → Kind
  -- a load of a word of a bucket that is noted
  glances_word : (lock word : ℕ) → Kind
  -- a load of a noted lock word, or of the noted header, once more; the last of these makes the entry of a get
  validates : (word : ℕ) → Kind
  -- a load of a word under one's own lock
  learns : (word : ℕ) → Kind
  -- a load of a lock word by who wants the lock: one that is free with the last version is remembered
  meets_lock : (lock : ℕ) → Kind
  -- an exchange of a lock word from a free value to the locked one
  tries : (lock free : ℕ) → Kind
  -- a store under one's own lock that changes no pair
  stores : (word value : ℕ) → Kind
  -- such a store by which a record stands a second time, and one that clears its source
  copies : (word value : ℕ) (move : Move) → Kind
  clears : (word value : ℕ) (move : Move) → Kind
  -- such a store after which a note that was owed is stored, or taken away
  repays : (word value : ℕ) (owed : Owed) → Kind
  -- the one store that makes a change
  publishes : (word value : ℕ) (call : Call) → Kind
  -- such a store by which a record comes to the stash or leaves it, so that a note is owed
  stashes : (word value : ℕ) (call : Call) (owed : Owed) → Kind
  flushes : (line : ℕ) → Kind
  fences : Kind
  -- a change draws its place
  draws_place : (call : Call) → Kind
  -- a store that frees a lock
  unlocks : (lock next : ℕ) → Kind
  -- a store of the power word, by a caller that turns the power off
  cuts_power : Kind

-- what is wanted of the memory
abbrev pub wanted : Shape → Kind → Want
wanted shape (peeks i) = Load i
wanted shape asks_power = Power
wanted shape meets_root = Load root_word
wanted shape (meets_entry e i) = Load (entry_at e i)
wanted shape (meets_head s version) = Load (header_word shape s)
wanted shape (pins s b) = Load (header_word shape s)
wanted shape (finds_room call) = Load (counter_word shape)
wanted shape (refuses call reply) = Load (counter_word shape)
wanted shape (places k a) = Load (counter_word shape)
wanted shape (looks lock) = Load lock
wanted shape (glances_word lock i) = Load i
wanted shape (validates i) = Load i
wanted shape (learns i) = Load i
wanted shape (meets_lock lock) = Load lock
wanted shape (tries lock free) = Exchange lock free (locked free)
wanted shape (stores i x) = Store i x
wanted shape (copies i x m) = Store i x
wanted shape (clears i x m) = Store i x
wanted shape (repays i x o) = Store i x
wanted shape (publishes i x call) = Store i x
wanted shape (stashes i x call o) = Store i x
wanted shape (flushes l) = Flush l
wanted shape fences = Fence
wanted shape (draws_place call) = Draw
wanted shape (unlocks lock next) = Store lock next
wanted shape cuts_power = Store (power_word shape) power_off

-- ---- what becomes of the lists of a view
-- the pairs of other words
abbrev pub without : ℕ → List (ℕ × ℕ) → List (ℕ × ℕ)
without i [] = []
without i (p ∷ ps) = if p.0 == i then without i ps else p ∷ without i ps

-- the pairs of words that do not lie under a lock
abbrev pub not_under : ℕ → List (ℕ × ℕ) → List (ℕ × ℕ)
not_under lock [] = []
not_under lock (p ∷ ps) = if is_under lock p.0 then not_under lock ps else p ∷ not_under lock ps

-- the pairs of words of a line, and the others
abbrev pub on_line : ℕ → List (ℕ × ℕ) → List (ℕ × ℕ)
on_line l [] = []
on_line l (p ∷ ps) = if line_of p.0 == l then p ∷ on_line l ps else on_line l ps

abbrev pub off_line : ℕ → List (ℕ × ℕ) → List (ℕ × ℕ)
off_line l [] = []
off_line l (p ∷ ps) = if line_of p.0 == l then off_line l ps else p ∷ off_line l ps

-- a word becomes loose where a store changes its core
abbrev pub loosened : Shape → ℕ → ℕ → ℕ → List (ℕ × ℕ) → List (ℕ × ℕ)
loosened shape i old new dirty = if core_of shape i old == core_of shape i new then dirty else (i, old) ∷ dirty

-- the planned changes of other keys
abbrev pub of_other_keys : ℕ → List Call → List Call
of_other_keys k [] = []
of_other_keys k (call ∷ calls) = if key_of call == k then of_other_keys k calls else call ∷ of_other_keys k calls

-- the moves of other records
abbrev pub of_other_records : Move → List Move → List Move
of_other_records m [] = []
of_other_records m (n ∷ moves) = if (n.segment == m.segment) && (n.key == m.key) then of_other_records m moves else n ∷ of_other_records m moves

-- what is owed for other homes
abbrev pub of_other_homes : Owed → List Owed → List Owed
of_other_homes o [] = []
of_other_homes o (n ∷ owed) = if (n.segment == o.segment) && (n.home == o.home) then of_other_homes o owed else n ∷ of_other_homes o owed

-- the notes of a bucket with one word more
abbrev pub with_noted : ℕ → ℕ → ℕ → List Glance → List Glance
with_noted lock i x [] = []
with_noted lock i x (note ∷ notes) =
    (if note.word == lock then (record note { words = (i, x) ∷ note.words }) else note) ∷ with_noted lock i x notes

-- the notes, of none of which the word was loaded again
abbrev pub unmarked : List Glance → List Glance
unmarked [] = []
unmarked (note ∷ notes) = record note { again = false } ∷ unmarked notes

-- the notes, where a noted word was loaded again and found to be x
abbrev pub marked : ℕ → ℕ → List Glance → List Glance
marked word x [] = []
marked word x (note ∷ notes) =
    (if (note.word == word) && (note.value == x) then (record note { again = true }) else note) ∷ marked word x notes

abbrev pub all_again : List Glance → Bool
all_again [] = true
all_again (note ∷ notes) = note.again && all_again notes

-- ---- what becomes of a view
abbrev pub next_entry : View → Call → Reply → ℕ → Bool → Entry
next_entry v call reply place drew = record { serial = suc (length v.own); call = call; reply = reply; place = place; drew = drew }

-- a view with one reply more, and without its notes
abbrev pub with_reply : View → Entry → View
with_reply v e = record v { own = v.own ++ e ∷ []; seen = seen_after e; notes = []; answer = None }

-- a view with a store's word known
abbrev pub with_store : Shape → ℕ → ℕ → ℕ → List Call → List Move → List Owed → View → View
with_store shape i old new calls moves owed v =
    record v { known = (i, new) ∷ without i v.known; dirty = loosened shape i old new v.dirty; planned = calls; moving = moves; owed = owed }

-- a view whose notes are all good gives its answer
abbrev pub with_answer : Bool → Option Answer → View → View
with_answer false answer v = v
with_answer true None v = v
with_answer true (Some a) v = with_reply v (next_entry v (Get a.key) (shown a.value) a.place false)

abbrev pub validated : View → View
validated v = with_answer (all_again v.notes) v.answer v

-- the note of a word that was found to have this value, and that of a header
abbrev pub new_note : ℕ → ℕ → Glance
new_note word value = record { word = word; value = value; words = []; again = false }

abbrev pub noted_header : Shape → ℕ → ℕ → Glance
noted_header shape s head = new_note (header_word shape s) head

-- a view that found a lock free, or not
abbrev pub with_look : Bool → ℕ → ℕ → View → View
with_look true lock n v = record v { notes = new_note lock n ∷ v.notes }
with_look false lock n v = record v { notes = []; answer = None }

-- a view that found room in the commit counter, or not
abbrev pub with_count : Bool → Call → ℕ → View → View
with_count true call n v = record v { room = v.callers }
with_count false call n v = with_reply v (next_entry v call Spent n false)

-- the spent locks with one more, where its word was found so, or not
abbrev pub with_spent : Bool → ℕ → List ℕ → List ℕ
with_spent true lock locks = lock ∷ locks
with_spent false lock locks = locks

-- a view that won a lock, or not
abbrev pub with_lock : Bool → ℕ → ℕ → View → View
with_lock true lock free v = record v { held = (lock, locked free) ∷ v.held }
with_lock false lock free v = v

-- a view that drew the place of a change
abbrev pub with_draw : Call → ℕ → View → View
with_draw call n v = record v {
  planned = of_other_keys (key_of call) v.planned;
  room = 0;
  own = v.own ++ next_entry v call Done n true ∷ [];
  seen = suc n;
  notes = [];
  answer = None;
}

-- what a header tells who looks for a version: where it is live and has that version, it is current, and where its region begins
abbrev pub says_current : Bool → ℕ → ℕ → List Fact
says_current true s head = Current s ∷ Begins s (first_hash_of (depth_in head) (pattern_in head)) ∷ []
says_current false s head = []

-- a view that met a header
abbrev pub with_head : Shape → ℕ → ℕ → ℕ → View → View
with_head shape s version head v = record v {
  facts = says_current (is_live head && (version_in head == version)) s head ++ v.facts;
  notes = noted_header shape s head ∷ v.notes;
}

-- the view after, by the word that was found
abbrev pub view_after : Shape → Kind → ℕ → View → View
view_after shape (peeks i) n v = v
view_after shape asks_power n v = record v { notes = []; answer = None }
view_after shape meets_root n v = record v { facts = Rooted n ∷ v.facts }
view_after shape (meets_entry e i) n v = record v { facts = Lives n ∷ v.facts }
view_after shape (meets_head s version) n v = with_head shape s version n v
view_after shape (pins s b) n v = record v { pinned = (s, n) ∷ v.pinned }
view_after shape (finds_room call) n v = with_count (nat_lt n spent_count) call n v
view_after shape (refuses call reply) n v = with_reply v (next_entry v call reply n false)
view_after shape (places k a) n v = record v { notes = unmarked v.notes; answer = Some (record { key = k; value = a; place = n }) }
view_after shape (looks lock) n v = with_look (lock_bit n == 0) lock n v
view_after shape (glances_word lock i) n v = record v { notes = with_noted lock i n v.notes }
view_after shape (validates i) n v = validated (record v { notes = marked i n v.notes })
view_after shape (learns i) n v = record v { known = (i, n) ∷ v.known }
view_after shape (meets_lock lock) n v = record v { spent_locks = with_spent (n == spent_lock) lock v.spent_locks }
view_after shape (tries lock free) n v = with_lock (n == free) lock free v
view_after shape (stores i x) n v = with_store shape i n x v.planned v.moving v.owed v
view_after shape (copies i x m) n v = with_store shape i n x v.planned (m ∷ v.moving) v.owed v
view_after shape (clears i x m) n v = with_store shape i n x v.planned (of_other_records m v.moving) v.owed v
view_after shape (repays i x o) n v = with_store shape i n x v.planned v.moving (of_other_homes o v.owed) v
view_after shape (publishes i x call) n v = with_store shape i n x (call ∷ v.planned) v.moving v.owed v
view_after shape (stashes i x call o) n v = with_store shape i n x (call ∷ v.planned) v.moving (o ∷ v.owed) v
view_after shape (flushes l) n v = record v { dirty = off_line l v.dirty; flushed = on_line l v.dirty ++ v.flushed }
view_after shape fences n v = record v { flushed = [] }
view_after shape (draws_place call) n v = with_draw call n v
view_after shape (unlocks lock next) n v = record v { held = without lock v.held; known = not_under lock v.known; pinned = [] }
view_after shape cuts_power n v = record v { stored_power = true }

-- the history after: a draw adds a change
abbrev pub log_after : Kind → Log → Log
log_after (draws_place call) log = change_of call ∷ log
log_after _ log = log
