-- WHAT IS COPIED: a segment that is being split and whole, and the slot of its side, which has its records of the 1-side, as a split hands
-- it on to who publishes the side.
use Rattle.std.specs.Prelude.{◌≡◌, ◌≢◌, ℕ, ◌<◌, ◌==◌, ◌⊎◌, [], ◌∷◌, length, slice_index, if◌then◌else◌}
use Rattle.trace.specs.Events.{Words}
use Rattle.segment_head.specs.HeadWord.{splitting, fresh, link_to}
use Rattle.segment_head.specs.SplitHeads.{with_state, one_side_head}
use Rattle.image_layout.specs.Places.{number_at, words_of_buckets}
use Rattle.bucket_words.specs.Standing.{KeysStandOnce, NotesAreExact}
use Rattle.frame_facts.specs.Copies.{IsSlotCopy}
use Rattle.frame_facts.specs.DeadSlots.{IsInSlot}
use Rattle.map_model.specs.declared.call.Call.{Call}
use Rattle.world.specs.declared.site.Site.{Site}
use Rattle.world.specs.Ground.{Ground}
use Rattle.world.specs.Views.{View, Has}
use Rattle.world.specs.Holders.{KnowsWord}
use Rattle.world.specs.areas.Areas.{Segment, Side, Whole, header_word}
use Rattle.world.specs.areas.Asking.{KnowsFree}
use Rattle.world.specs.areas.Kinds.{is_in_slot}
use Rattle.world.specs.areas.Splitting.{link_word, KnowsHead, KnowsBuckets, KnowsRecords}
use Rattle.enclose_op.specs.Phases.{IsThere, IsQuiet}
use Rattle.enclose_op.specs.declared.enclosed.Enclosed.{Enclosed}
use Rattle.enclose_op.specs.Whole.{kept_words, IsOf, IsWhole, HoldsLocks}
use Rattle.split_op.specs.declared.copied.Copied.{Copied}

-- ---- headers
-- that of a segment while it is split
abbrev pub split_head : Enclosed → ℕ
split_head e = with_state e.head splitting

-- that of its new side
abbrev pub side_head : Enclosed → ℕ
side_head e = one_side_head e.site.version fresh e.head

-- ---- words
-- those of a side, of which these are the words of its buckets
abbrev pub side_words : Copied → Words
side_words c i = if i == header_word c.whole.site.geometry c.side then side_head c.whole else slice_index c.words (number_at c.whole.site.geometry c.side i)

-- those of the segment that is split
abbrev pub split_words : Copied → Words
split_words c i =
    if i == header_word c.whole.site.geometry c.whole.segment then split_head c.whole
    else if i == link_word c.whole.site.geometry c.whole.segment then link_to c.side else kept_words c.whole i

-- THE WORDS of both
abbrev pub copied_words : Copied → Words
copied_words c i = if is_in_slot c.whole.site.geometry c.side i then side_words c i else split_words c i

-- ---- what is so of them, whatever the view
-- THE SIDE HAS THE RECORDS of the 1-side, slot by slot, with exact notes; and each key stands once in the segment
pub record IsCopy (site : Ground) (c : Copied) : Type 0 where
  pub slot : c.side < site.shape.segments
  pub apart : c.side ≢ c.whole.segment
  pub each_word : length c.words ≡ words_of_buckets
  pub copied : IsSlotCopy site.shape (copied_words c) c.whole.segment c.side
  pub exact : NotesAreExact site.shape (copied_words c) c.side
  pub once : KeysStandOnce site.shape (copied_words c) c.whole.segment

-- ---- what a view holds of them
-- words of both slots alone are known
abbrev pub KnowsOnlyOfBoth : Ground → Copied → View → Type 0
KnowsOnlyOfBoth site c v = (p : ℕ × ℕ) → Has p v.known → IsInSlot site.shape c.whole.segment p.0 ⊎ IsInSlot site.shape c.side p.0

-- WHAT IS HANDED ON: the segment is splitting, with its side linked, and all its locks are held; the side is new, and has the copies; both
-- headers and all words that are looked at are known and settled; nothing is planned, under way or owed
pub record KeepsCopied (site : Ground) (here : Site) (call : Call) (c : Copied) (v : View) : Type 0 where
  pub is : IsOf site here call c.whole
  pub whole : IsWhole site c.whole
  pub copy : IsCopy site c
  pub there : IsThere site c.whole.segment v.facts
  pub areas : v.areas ≡ Side c.side ∷ Whole c.whole.segment ∷ Segment c.whole.segment ∷ []
  pub locks : HoldsLocks site c.whole v
  pub head : KnowsHead site.shape v c.whole.segment (copied_words c)
  pub side_header : KnowsWord v (header_word site.shape c.side) (copied_words c (header_word site.shape c.side))
  pub buckets_are : KnowsBuckets site.shape v c.whole.segment (copied_words c)
  pub side_buckets : KnowsRecords site.shape v c.side (copied_words c)
  pub free : KnowsFree site v c.side
  pub known : KnowsOnlyOfBoth site c v
  pub quiet : IsQuiet v
