-- WHATEVER VALUES ITS EVENTS FIND: by what each end of a get comes, and that what it tells was loaded, in that order. No world, and
-- no other caller, is named.
use Rattle.std.specs.Prelude.{◌≡◌, ◌≢◌, ℕ, ◌<◌, ◌≤◌, ⊤, false, Some, List, [], ◌∷◌, ◌⊎◌, if◌then◌else◌}
use Rattle.op_core.specs.declared.want.Want.TheVariants.{Load, Done}
use Rattle.op_core.specs.declared.want.Ans.TheVariants.{Value}
use Rattle.op_core.specs.declared.why.Why.TheVariants.{Moved}
use Rattle.segment_head.specs.HeadWord.{is_live}
use Rattle.trace.specs.Events.{Words}
use Rattle.image_layout.specs.Places.{root_word}
use Rattle.image_layout.specs.Volatile.{counter_word}
use Rattle.way.specs.Ways.{entry_word, head_word}
use Rattle.map_model.specs.declared.call.Call.TheVariants.{Get}
use Rattle.world.specs.declared.site.Site.{Site}
use Rattle.world.specs.Wants.{word_of}
use Rattle.part.specs.Doings.{Doings, with_event_of, nothing_done}
use Rattle.part.specs.Outcomes.{Outcome, again}
use Rattle.part.specs.Causes.{HasAgainCause, HasCause}
use Rattle.phase.specs.declared.walk.Path.{Path}
use Rattle.phase.specs.declared.walk.Walk.TheVariants as walk
use Rattle.phase.specs.declared.role.Role.{Role}
use Rattle.phase.specs.declared.role.Role.TheVariants.{Home, Probing, First, Second}
use Rattle.read_op.specs.declared.step.Seen.{Seen}
use Rattle.read_op.specs.declared.step.ReadStep.{ReadStep}
use Rattle.read_op.specs.declared.step.ReadStep.TheVariants.{Way, Look, Fill, Count, Check, Relook, Ended}
use Rattle.read_op.specs.declared.step.Task.{Task}
use Rattle.read_op.specs.declared.op.ReadOp.{ReadOp}
use Rattle.read_op.specs.Places.{free_at}
use Rattle.read_op.specs.Steps.{begun, wanted, taken, lock_of}
use Rattle.read_op.specs.Budget.{after_all}
use Rattle.read_op.specs.GetPart.{outcome_in}

-- what an attempt did by events that found these values, beside what it did before
abbrev pub did_all : ReadOp → List ℕ → Doings → Doings
did_all op [] did = did
did_all op (seen ∷ rest) did = did_all (taken op (Value seen)) rest (with_event_of (wanted op) (Value seen) did)

-- ---- causes
-- a value that no table has at a first look at this word of the way: a root depth greater than the greatest, an entry that names no
-- slot, or a header that is not live
abbrev pub IsAmiss : Task → ReadStep → ℕ → Type 0
IsAmiss task (Way walk.Root) n = task.site.geometry.depth < n
IsAmiss task (Way (walk.Entry root)) n = task.site.geometry.segments ≤ n
IsAmiss task (Way (walk.Head root segment)) n = is_live n ≡ false
IsAmiss task step n = ⊥

-- for an attempt that did this, whose event is done over these words
module _ (op : ReadOp) (did : Doings) (words : Words) where
  abbrev pub met : ℕ
  met = words (word_of op.task.site.geometry (wanted op))

  -- the event loaded a word of the way for the first time, and found such a value, which is told as before and after
  pub record FindsAmiss (word before after : ℕ) : Type 0 where
    pub amiss : IsAmiss op.task op.step met
    pub loads : wanted op ≡ Load word
    pub before_is : before ≡ met
    pub after_is : after ≡ met

  -- THE CAUSE of each outcome: that of any part's, or that a word moved which no table has so
  abbrev pub HasCauseThere : Outcome → Type 0
  HasCauseThere (again (Moved word before after)) = HasAgainCause op.task.site.geometry words did (Get op.task.key) (wanted op) op.task.site.version (Moved word before after) ⊎ FindsAmiss word before after
  HasCauseThere outcome = HasCause op.task.site.geometry words did (Get op.task.key) (wanted op) op.task.site outcome

  abbrev pub EndsByCauseThere : Type 0
  EndsByCauseThere = (outcome : Outcome) → wanted op ≢ Done → outcome_in (taken op (Value met)).step ≡ Some outcome → HasCauseThere outcome

-- EACH END HAS ITS CAUSE, at the event by which it comes, whatever the events before it found and whatever words there are then
abbrev pub EndsByCauseAnywhere : Type 0
EndsByCauseAnywhere = (key : ℕ) (site : Site) (seen : List ℕ) (words : Words)
    → EndsByCauseThere (after_all (begun key site) seen) (did_all (begun key site) seen nothing_done) words

-- ---- what a get keeps
module _ (task : Task) where
  -- the three words on the way to a segment, each with the value that was loaded from it, the newest first
  abbrev pub kept_path : Path → List (ℕ × ℕ)
  kept_path path = (head_word task.site.geometry path.segment, path.head) ∷ (entry_word task.site.geometry task.hash path.root, path.segment) ∷ (root_word, path.root) ∷ []

  -- and the lock words of home and probing bucket, and of each stash bucket that is visited
  abbrev pub lock_kept : Seen → Role → ℕ × ℕ
  lock_kept s p = (lock_of task s p, free_at s.free p)

  abbrev pub kept_home : Seen → List (ℕ × ℕ)
  kept_home s = lock_kept s Home ∷ kept_path s.path

  abbrev pub kept_near : Seen → List (ℕ × ℕ)
  kept_near s = lock_kept s Probing ∷ kept_home s

  abbrev pub kept_first : Seen → List (ℕ × ℕ)
  kept_first s = if s.first then lock_kept s First ∷ kept_near s else kept_near s

  abbrev pub kept_locks : Seen → List (ℕ × ℕ)
  kept_locks s = if s.second then lock_kept s Second ∷ kept_first s else kept_first s

  -- THE WORDS THAT A GET KEEPS in this step, each with the value that was loaded from it, the newest first; in the end it tells of these
  abbrev pub kept_in : ReadStep → List (ℕ × ℕ)
  kept_in (Way walk.Power) = []
  kept_in (Way walk.Root) = []
  kept_in (Way (walk.Entry root)) = (root_word, root) ∷ []
  kept_in (Way (walk.Head root segment)) = (entry_word task.site.geometry task.hash root, segment) ∷ (root_word, root) ∷ []
  kept_in (Look s Home) = kept_path s.path
  kept_in (Look s Probing) = kept_home s
  kept_in (Look s First) = kept_near s
  kept_in (Look s Second) = kept_first s
  kept_in (Look s p) = kept_locks s
  kept_in (Fill s Home load) = kept_near s
  kept_in (Fill s Probing load) = kept_near s
  kept_in (Fill s First load) = kept_first s
  kept_in (Fill s p load) = kept_locks s
  kept_in (Count s) = kept_locks s
  kept_in (Check s placed back) = (counter_word task.site.geometry, placed) ∷ kept_locks s
  kept_in (Relook s placed p) = (counter_word task.site.geometry, placed) ∷ kept_locks s
  kept_in (Ended end) = []

-- one list is found in another, in its order
abbrev pub IsWithin : List (ℕ × ℕ) → List (ℕ × ℕ) → Type 0
IsWithin [] ys = ⊤
IsWithin (x ∷ xs) [] = ⊥
IsWithin (x ∷ xs) (y ∷ ys) = ((x ≡ y) × IsWithin xs ys) ⊎ IsWithin (x ∷ xs) ys

-- WHAT IS KEPT WAS LOADED, by this attempt and in this order
abbrev pub KeepsLoads : Type 0
KeepsLoads = (key : ℕ) (site : Site) (seen : List ℕ)
    → IsWithin (kept_in (after_all (begun key site) seen).task (after_all (begun key site) seen).step) (did_all (begun key site) seen nothing_done).loads
