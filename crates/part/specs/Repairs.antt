-- The causes by which an attempt ends that repairs a segment, where this may be stale: in the newest words, and in what it did.
use Rattle.std.specs.Prelude.{◌≡◌, ◌≢◌, ℕ, ◌^◌, ◌<◌, ⊤, true, false, None, Some, List, ◌⊎◌}
use Rattle.op_core.specs.declared.want.Want.{Want}
use Rattle.op_core.specs.declared.want.Want.TheVariants.{Done}
use Rattle.op_core.specs.declared.want.Ans.{Ans}
use Rattle.op_core.specs.declared.why.Why.TheVariants.{Busy, Moved}
use Rattle.trace.specs.Events.{Words}
use Rattle.segment_head.specs.HeadWord.{version_in, is_live}
use Rattle.image_layout.specs.Places.{Shape, header_word}
use Rattle.image_layout.specs.Volatile.{segment_guard, allocation_guard, directory_guard, free_guard}
use Rattle.map_model.specs.declared.call.Call.{Call}
use Rattle.world.specs.declared.site.Site.{Site}
use Rattle.world.specs.Ground.{Ground}
use Rattle.world.specs.Views.{View, Has, At, HasLock}
use Rattle.world.specs.Wants.{answer_to}
use Rattle.world.specs.Invariant.{Holds}
use Rattle.part.specs.Doings.{Doings, with_event_of}
use Rattle.part.specs.Outcomes.{Outcome, replied, again, stale, need_split, off, finished}
use Rattle.part.specs.Causes.{Looked, IsOff}
use Rattle.part.specs.Part.{Part, Suits, finds, next}

-- THE SEGMENT IS REPAIRED, in an image of this version: the attempt loaded its header as that of a live segment of the version, so that
-- another had repaired it, or it stored the header. It is what a part that repairs has done where it has worked
abbrev pub HasRepaired : Shape → ℕ → ℕ → Doings → Type 0
HasRepaired shape version segment did =
    ((head : ℕ) × Has (header_word shape segment, head) did.loads × (is_live head ≡ true) × (version_in head ≡ version)) ⊎ Has (header_word shape segment) did.changed

module _ (shape : Shape) (words : Words) (did : Doings) (call : Call) (segment : ℕ) where
  -- the guard of free slots, or that of the directory
  abbrev pub IsSharedGuard : ℕ → Type 0
  IsSharedGuard word = (word ≡ allocation_guard shape) ⊎ (word ≡ directory_guard shape)

  -- A GUARD THAT IT NEEDS: that of the segment, and once it took that, those of free slots and of the directory
  abbrev pub IsRepairGuard : ℕ → Type 0
  IsRepairGuard word = (word ≡ segment_guard shape segment) ⊎ (IsSharedGuard word × Has (segment_guard shape segment) did.changed)

  -- IT IS TAKEN, and not by this attempt
  pub record IsGuardTaken (word value : ℕ) : Type 0 where
    pub needed : IsRepairGuard word
    pub newest : words word ≡ value
    pub taken : value ≢ free_guard
    pub by_others : Has word did.changed → ⊥

  -- THE CAUSE of each outcome: a repair tells no reply, finds no word moved, no segment stale and none to be split; that it has done its
  -- work is its part's to say
  abbrev pub HasRepairCause : Want → Outcome → Type 0
  HasRepairCause event (replied reply place) = ⊥
  HasRepairCause event (again (Busy word value)) = Looked shape words did call event word value × IsGuardTaken word value
  HasRepairCause event (again (Moved word before after)) = ⊥
  HasRepairCause event (stale slot version) = ⊥
  HasRepairCause event (need_split slot) = ⊥
  HasRepairCause event off = IsOff shape words did call event
  HasRepairCause event finished = ⊤

-- EACH OUTCOME HAS ITS CAUSE, beside any other callers, of a part that repairs the segment that its state names; it stays as it was
-- decided; who has finished has done its work; where the part wants nothing more and does not hand on, it is decided
module _ {M : Type 0} (p : Part M) (segment_of : M → ℕ) where
  pub record RepairsByCause (site : Ground) (here : Site) (call : Call) (words : Words) (op : M) (v : View) (did : Doings) : Type 0 where
    pub remembers : p.Remembers site (next p site words op) (with_event_of (p.wanted op) (answer_to (p.wanted op) (finds p site words op)) did)
    pub caused : (outcome : Outcome) → p.outcome op ≡ None → p.outcome (next p site words op) ≡ Some outcome → HasRepairCause site.shape words did call (segment_of op) (p.wanted op) outcome
    pub worked : p.outcome op ≡ None → p.outcome (next p site words op) ≡ Some finished
        → p.HasWorked site (next p site words op) (with_event_of (p.wanted op) (answer_to (p.wanted op) (finds p site words op)) did)
    pub not_own : (word value : ℕ) → p.outcome op ≡ None → p.outcome (next p site words op) ≡ Some (again (Busy word value)) → HasLock v.held word → ⊥

  pub record EndsByRepairCause : Type 0 where
    pub steps : (site : Ground) (here : Site) (call : Call) (words : Words) (views : List View) (j : ℕ) (op : M) (before v : View) (did : Doings)
        → Holds site words views → At views j v → Suits p site here call op before v → p.wanted op ≢ Done → finds p site words op < 2 ^ 64 → p.Remembers site op did
        → RepairsByCause site here call words op v did
    pub stays : (op : M) (a : Ans) (outcome : Outcome) → p.outcome op ≡ Some outcome → p.outcome (p.taken op a) ≡ Some outcome
    pub decided : (site : Ground) (here : Site) (call : Call) (op : M) (v : View) → p.Stands site here call op v → p.wanted op ≡ Done → p.hands_on op ≡ false
        → (outcome : Outcome) × (p.outcome op ≡ Some outcome)
    pub undecided : (op : M) → p.hands_on op ≡ true → p.outcome op ≡ None
    pub same_segment : (op : M) (a : Ans) → segment_of (p.taken op a) ≡ segment_of op
