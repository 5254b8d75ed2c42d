-- What a split remembers of what its attempt did, in each step: how the segment was enclosed, the guard of free slots, and which headers were
-- loaded.
use Rattle.std.specs.Prelude.{◌≢◌, ℕ, ◌<◌, ⊤}
use Rattle.segment_head.specs.HeadWord.{state_in, free}
use Rattle.image_layout.specs.Volatile.{allocation_guard}
use Rattle.world.specs.Ground.{Ground}
use Rattle.world.specs.Views.{Has}
use Rattle.world.specs.areas.Areas.{header_word}
use Rattle.part.specs.Doings.{Doings}
use Rattle.enclose_op.specs.Whole.{RemembersEnclosing, RemembersWhole}
use Rattle.split_op.specs.declared.copied.Copied.{Copied}
use Rattle.split_op.specs.declared.step.SplitStep.{SplitStep}
use Rattle.split_op.specs.declared.step.SplitStep.TheVariants.{Take, Search, Count, Return, Look, Put, Release, Back, Ended}

module _ (site : Ground) (c : Copied) (did : Doings) where
  -- the segment was enclosed, the guard of free slots was taken, and the header of each slot before this one was loaded, and was not free
  pub record RemembersSearch (to : ℕ) : Type 0 where
    pub enclosing : RemembersEnclosing site c.whole did
    pub guard : Has (allocation_guard site.shape) did.changed
    pub none_free : (slot : ℕ) → slot < to → (head : ℕ) × Has (header_word site.shape slot, head) did.loads × (state_in head ≢ free)

  -- IN EACH STEP; once a free slot is found, or it is decided that none is, nothing has to be remembered
  abbrev pub RemembersAt : SplitStep → Type 0
  RemembersAt Take = RemembersWhole site c.whole did
  RemembersAt (Search slot) = RemembersSearch slot
  RemembersAt Count = RemembersSearch site.shape.segments
  RemembersAt (Return count) = ⊤
  RemembersAt (Look b) = ⊤
  RemembersAt (Put batch rounds) = ⊤
  RemembersAt Release = ⊤
  RemembersAt (Back give end) = ⊤
  RemembersAt (Ended end) = ⊤
