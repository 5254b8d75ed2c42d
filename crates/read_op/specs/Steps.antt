-- What a get wants in each step, and what an answer makes of it.
use Rattle.std.specs.Prelude.{◌==◌, ℕ, ◌+◌, Bool, true, false, if◌then◌else◌, Option, Some, None, List, slice_index}
use Rattle.std.specs.Option.{option_or}
use Rattle.hash_word.specs.Hash.{finger_of}
use Rattle.image_layout.specs.Volatile.{counter_word}
use Rattle.sound_image.specs.Records.{key_hash}
use Rattle.op_core.specs.declared.want.Want.{Want}
use Rattle.op_core.specs.declared.want.Want.TheVariants.{Load as LoadWord, Done}
use Rattle.op_core.specs.declared.want.Ans.{Ans}
use Rattle.op_core.specs.declared.want.Ans.TheVariants.{Value}
use Rattle.op_core.specs.declared.why.Why.TheVariants.{Busy, Moved}
use Rattle.bucket_words.specs.Buckets.{find_below}
use Rattle.bucket_meta.specs.Bucket.{lock_bit, record_slots, mark_place, rest_place}
use Rattle.bucket_meta.specs.Visits.{must_visit}
use Rattle.world.specs.declared.site.Site.{Site}
use Rattle.phase.specs.declared.walk.Path.{Path}
use Rattle.phase.specs.declared.walk.Walk.TheVariants.{Power}
use Rattle.phase.specs.declared.walk.Walked.{Walked}
use Rattle.phase.specs.declared.walk.Walked.TheVariants as walked
use Rattle.phase.specs.declared.back.Back.TheVariants.{Root}
use Rattle.phase.specs.declared.back.Backed.{Backed}
use Rattle.phase.specs.declared.back.Backed.TheVariants as backed
use Rattle.phase.specs.declared.load.Loaded.{Loaded}
use Rattle.phase.specs.declared.load.Loaded.TheVariants as loaded
use Rattle.phase.specs.Walks.{walk_wanted, walk_taken}
use Rattle.phase.specs.Backs.{back_word, back_taken}
use Rattle.phase.specs.Loads.{load_begun, load_taken}
use Rattle.phase.specs.declared.role.Role.{Role}
use Rattle.phase.specs.declared.role.Role.TheVariants.{Home, Probing, First, Second, Next, Previous}
use Rattle.read_op.specs.declared.step.Seen.{Seen}
use Rattle.read_op.specs.declared.step.ReadEnd.{ReadEnd}
use Rattle.read_op.specs.declared.step.ReadEnd.TheVariants as ends
use Rattle.read_op.specs.declared.step.ReadStep.{ReadStep}
use Rattle.read_op.specs.declared.step.ReadStep.TheVariants.{Way, Look, Fill, Count, Check, Relook, Ended}
use Rattle.read_op.specs.declared.step.Task.{Task}
use Rattle.read_op.specs.declared.op.ReadOp.{ReadOp}
use Rattle.phase.specs.Places.{stash_index, lock_word}
use Rattle.read_op.specs.Places.{free_at}
use Rattle.image_layout.specs.Places.{place_in_bucket}

-- what a key has in a bucket of these words
abbrev pub value_of : List ℕ → ℕ → Option ℕ
value_of words key = find_below (λ i. slice_index words i) 0 key record_slots

-- ---- ends
abbrev pub moved : ℕ → ℕ → ℕ → ReadStep
moved word before after = Ended (ends.Again (Moved word before after))

abbrev pub busy : ℕ → ℕ → ReadStep
busy word seen = Ended (ends.Again (Busy word seen))

-- what it ends with if all words were found the same
abbrev pub end_of : Option ℕ → ℕ → ReadEnd
end_of (Some value) place = ends.Found value place
end_of None place = ends.Absent place

-- ---- the way
-- nothing was seen in a segment yet
abbrev pub seen_none : Path → Seen
seen_none path = record { path = path; free = record { home = 0; probing = 0; first = 0; second = 0 }; meta = 0; fingers = 0; first = false; second = false; value = None }

abbrev pub walked_to : Walked → ReadStep
walked_to (walked.On walk) = Way walk
walked_to (walked.There path) = Look (seen_none path) Home
walked_to walked.Off = Ended ends.Off
walked_to (walked.Amiss word seen) = moved word seen seen
walked_to (walked.Stale segment version) = Ended (ends.Stale segment version)

-- ---- looks at lock words. A third bucket would be looked at like the last one; it never is
abbrev pub visit_second : Seen → ReadStep
visit_second seen = if seen.second then Look seen Second else Count seen

abbrev pub visit_first : Seen → ReadStep
visit_first seen = if seen.first then Look seen First else visit_second seen

abbrev pub with_free : Seen → Role → ℕ → Seen
with_free seen Home free = record seen { free = record (seen.free) { home = free } }
with_free seen Probing free = record seen { free = record (seen.free) { probing = free } }
with_free seen First free = record seen { free = record (seen.free) { first = free } }
with_free seen Second free = record seen { free = record (seen.free) { second = free } }
with_free seen Next free = seen
with_free seen Previous free = seen

abbrev pub looked : Seen → Role → ReadStep
looked seen Home = Look seen Probing
looked seen Probing = Fill seen Home load_begun
looked seen place = Fill seen place load_begun

-- ---- buckets
module _ (key : ℕ) where
  -- the value in the bucket that was loaded last counts, where there is one
  abbrev pub with_value : Seen → List ℕ → Seen
  with_value seen words = record seen { value = option_or (value_of words key) seen.value }

  abbrev pub read_home : Seen → List ℕ → Seen
  read_home seen words = record (with_value seen words) { meta = slice_index words mark_place; fingers = slice_index words rest_place }

  module _ (hash : ℕ) where
    abbrev pub read_probing : Seen → List ℕ → Seen
    read_probing seen words = record (with_value seen words) {
      first = must_visit seen.meta seen.fingers (slice_index words mark_place) (slice_index words rest_place) (finger_of hash) (stash_index First);
      second = must_visit seen.meta seen.fingers (slice_index words mark_place) (slice_index words rest_place) (finger_of hash) (stash_index Second);
    }

    abbrev pub read_all : Seen → Role → List ℕ → ReadStep
    read_all seen Home words = Fill (read_home seen words) Probing load_begun
    read_all seen Probing words = visit_first (read_probing seen words)
    read_all seen First words = visit_second (with_value seen words)
    read_all seen place words = Count (with_value seen words)

    abbrev pub filled : Seen → Role → Loaded → ReadStep
    filled seen place (loaded.On load) = Fill seen place load
    filled seen place (loaded.All words) = read_all seen place words

-- ---- the way again, and lock words again
abbrev pub backed_to : Seen → ℕ → Backed → ReadStep
backed_to seen placed (backed.On back) = Check seen placed back
backed_to seen placed backed.Same = Relook seen placed Home
backed_to seen placed (backed.Moved word before after) = moved word before after

abbrev pub relook_second : Seen → ℕ → ReadStep
relook_second seen placed = if seen.second then Relook seen placed Second else Ended (end_of seen.value placed)

abbrev pub relook_first : Seen → ℕ → ReadStep
relook_first seen placed = if seen.first then Relook seen placed First else relook_second seen placed

abbrev pub relook_next : Seen → ℕ → Role → ReadStep
relook_next seen placed Home = Relook seen placed Probing
relook_next seen placed Probing = relook_first seen placed
relook_next seen placed First = relook_second seen placed
relook_next seen placed place = Ended (end_of seen.value placed)

-- ---- the machine
-- a get that has done nothing yet
abbrev pub begun : ℕ → Site → ReadOp
begun key site = record { task = record { key = key; hash = key_hash site.geometry key; site = site }; step = Way Power }

module _ (task : Task) where
  -- the lock word of a bucket
  abbrev pub lock_of : Seen → Role → ℕ
  lock_of seen place = lock_word task.site task.hash seen.path.segment place

  -- THE EVENT that it wants
  abbrev pub wanted_in : ReadStep → Want
  wanted_in (Way walk) = walk_wanted task.site task.hash walk
  wanted_in (Look seen place) = LoadWord (lock_of seen place)
  wanted_in (Fill seen place load) = LoadWord (lock_of seen place + place_in_bucket load.next)
  wanted_in (Count seen) = LoadWord (counter_word task.site.geometry)
  wanted_in (Check seen placed back) = LoadWord (back_word task.site task.hash seen.path back)
  wanted_in (Relook seen placed place) = LoadWord (lock_of seen place)
  wanted_in (Ended end) = Done

  -- a lock word that was seen again
  abbrev pub relooked : Seen → ℕ → Role → ℕ → ReadStep
  relooked seen placed place value =
      if lock_bit value == 1 then busy (lock_of seen place) value
      else if value == free_at seen.free place then relook_next seen placed place
      else moved (lock_of seen place) (free_at seen.free place) value

  -- WHAT A VALUE makes of it
  abbrev pub next_in : ReadStep → ℕ → ReadStep
  next_in (Way walk) x = walked_to (walk_taken task.site task.hash walk x)
  next_in (Look seen place) x = if lock_bit x == 0 then looked (with_free seen place x) place else busy (lock_of seen place) x
  next_in (Fill seen place load) x = filled task.key task.hash seen place (load_taken load x)
  next_in (Count seen) x = Check seen x Root
  next_in (Check seen placed back) x = backed_to seen placed (back_taken task.site task.hash seen.path back x)
  next_in (Relook seen placed place) x = relooked seen placed place x
  next_in (Ended end) x = Ended end

-- the step behind the last word of a bucket
abbrev pub read_on : Task → ReadStep → ReadStep
read_on task (Fill seen place load) = read_all task.key task.hash seen place load.words
read_on task step = step

-- whether the words of a bucket are being loaded
abbrev pub is_filling : ReadStep → Bool
is_filling (Fill seen place load) = true
is_filling step = false

abbrev pub next_of : ReadOp → ℕ → ReadStep
next_of op seen = next_in op.task op.step seen

-- the event that a get wants
abbrev pub wanted : ReadOp → Want
wanted op = wanted_in op.task op.step

-- the get that an answer leaves: a value that was loaded leads on, and any other answer leaves it as it was
abbrev pub taken : ReadOp → Ans → ReadOp
taken op (Value seen) = record op { step = next_of op seen }
taken op ans = op
