-- The kinds of step at the structure: guards, headers, links, the root, entries, and the words of slots that nobody else touches. For
-- each: which event it is, and what the stepping view becomes. No kind of calls is among them.
use Rattle.std.specs.Prelude.{◌==◌, ◌&&◌, not, ℕ, suc, ◌<◌, Bool, true, false, List, [], ◌∷◌, ◌++◌, filter, ⊤}
use Rattle.op_core.specs.declared.want.Want.{Want}
use Rattle.op_core.specs.declared.want.Want.TheVariants.{Load, Store, Exchange, Fence}
use Rattle.hash_word.specs.Hash.{first_hash_of}
use Rattle.segment_head.specs.HeadWord.{version_in, state_in, depth_in, pattern_in, free, fresh, is_live, no_link}
use Rattle.segment_head.specs.Prefixes.{pattern_of_one_side, is_side_prefix}
use Rattle.image_layout.specs.Places.{Shape, entry_at}
pub use Rattle.image_layout.specs.Ranges.{is_in_slot}
use Rattle.image_layout.specs.Ranges.{is_directory_word}
use Rattle.image_layout.specs.Volatile.{allocation_guard, directory_guard, segment_guard, free_guard}
use Rattle.frame_facts.specs.Facts.{Fact, Lives, Current, Rooted, Owns, Lacks, Deep, Begins, Used, Taken}
use Rattle.world.specs.Views.{View}
use Rattle.world.specs.Kinds.{with_store, without}
use Rattle.world.specs.areas.Areas.{Area, Segment, Stale, Side, Free, Whole, Allocation, Directory, header_word, link_word, all_but, is_side_at, is_of_segment, is_of_allocation, is_of_directory}
pub use Rattle.world.specs.areas.Areas.{is_whole_at}
use Rattle.world.specs.areas.Rows.{Row, goes_live, frees, renews, areas_by}

-- ---- guards
pub data Guard : Type 0 where
  -- of the segment in a slot
  of_segment : (slot : ℕ) → Guard
  -- of all free slots
  of_free_slots : Guard
  of_directory : Guard

-- the word of a guard: `free_guard` where nobody has it, and else a number that its holder stored
abbrev pub guard_word : Shape → Guard → ℕ
guard_word shape (of_segment s) = segment_guard shape s
guard_word shape of_free_slots = allocation_guard shape
guard_word shape of_directory = directory_guard shape

-- there is such a guard: one for each slot, that of free slots and that of the directory
abbrev pub HasGuard : Shape → Guard → Type 0
HasGuard shape (of_segment s) = s < shape.segments
HasGuard shape guard = ⊤

-- the area that comes with it
abbrev pub area_of : Guard → Area
area_of (of_segment s) = Segment s
area_of of_free_slots = Allocation
area_of of_directory = Directory

-- and those that are given up with it
abbrev pub goes_with : Guard → Area → Bool
goes_with (of_segment s) = is_of_segment s
goes_with of_free_slots = is_of_allocation
goes_with of_directory = is_of_directory

-- THE KINDS
pub data StructureKind : Type 0 where
  -- an exchange of a guard's word from that of a free one, by the caller of this number
  takes : (guard : Guard) (caller : ℕ) → StructureKind
  -- the same of the guard of free slots, by a caller that found this slot to be a new side: with the guard lost, the side is given up
  takes_for_side : (slot caller : ℕ) → StructureKind
  -- the store that gives a guard back
  gives : (guard : Guard) → StructureKind
  -- a load of the header of a segment whose guard is held: it has not this version, the image's, or it has
  finds_stale : (slot version : ℕ) → StructureKind
  -- a load of a held word by who has the guard and all locks of a segment: from then on the segment is whole
  closes : (slot word : ℕ) → StructureKind
  -- a load of the header of a slot under the guard of free slots: it is free, or it is known to be taken
  finds_free : (slot : ℕ) → StructureKind
  -- a load of the link of a stale segment of this depth and pattern, which is splitting: where it names no slot, the segment has its 1-side
  finds_link : (parent depth pattern : ℕ) → StructureKind
  -- a load of the header of the slot that such a segment has linked: it is the new side, or a ready one, or neither
  finds_side : (parent slot depth pattern : ℕ) → StructureKind
  -- a load of an entry of the root's area under the guard of the directory: the segment that it names lives
  finds_entry : (depth index : ℕ) → StructureKind
  -- a load of the header of a live segment that others may store to: where the segment begins
  finds_begin : (slot : ℕ) → StructureKind
  -- a load of a word that is held by a lock or an area
  reads : (word : ℕ) → StructureKind
  -- a store to a held word that is no header: a link, the root, an entry, a word of a slot that nobody else touches
  sets : (word value : ℕ) → StructureKind
  -- a store to a header
  moves : (row : Row) (slot value : ℕ) → StructureKind
  -- a fence, after which these facts hold of whatever may be left
  settles : (facts : List Fact) → StructureKind
  -- the fence that settles the header of a side as a live one of this depth and pattern, with which the side is given up
  settles_side : (slot depth pattern : ℕ) → StructureKind
  -- the first store that frees a lock of a whole segment, with which it is whole no more
  opens : (slot lock next : ℕ) → StructureKind

-- what is wanted of the memory
abbrev pub wanted_at : Shape → StructureKind → Want
wanted_at shape (takes guard caller) = Exchange (guard_word shape guard) free_guard caller
wanted_at shape (takes_for_side n caller) = Exchange (allocation_guard shape) free_guard caller
wanted_at shape (gives guard) = Store (guard_word shape guard) free_guard
wanted_at shape (finds_stale s version) = Load (header_word shape s)
wanted_at shape (closes s i) = Load i
wanted_at shape (finds_free n) = Load (header_word shape n)
wanted_at shape (finds_link p depth pattern) = Load (link_word shape p)
wanted_at shape (finds_side p n depth pattern) = Load (header_word shape n)
wanted_at shape (finds_entry e i) = Load (entry_at e i)
wanted_at shape (finds_begin s) = Load (header_word shape s)
wanted_at shape (reads i) = Load i
wanted_at shape (sets i x) = Store i x
wanted_at shape (moves row s x) = Store (header_word shape s) x
wanted_at shape (settles facts) = Fence
wanted_at shape (settles_side n depth pattern) = Fence
wanted_at shape (opens s lock next) = Store lock next

-- ---- what becomes of the lists of a view
-- the pairs of words that do not lie in a slot, and of those that are no word of the directory
abbrev pub out_of_slot : Shape → ℕ → List (ℕ × ℕ) → List (ℕ × ℕ)
out_of_slot shape s pairs = filter (λ p. not (is_in_slot shape s p.0)) pairs

abbrev pub out_of_directory : Shape → List (ℕ × ℕ) → List (ℕ × ℕ)
out_of_directory shape pairs = filter (λ p. not (is_directory_word shape p.0)) pairs

-- the words that are known no more when a guard is given back: those of its segment's slot, those of slots found free, the directory's
abbrev pub known_without : Shape → Guard → List Area → List (ℕ × ℕ) → List (ℕ × ℕ)
known_without shape (of_segment s) areas known = out_of_slot shape s known
known_without shape of_free_slots [] known = known
known_without shape of_free_slots (Free n ∷ areas) known = known_without shape of_free_slots areas (out_of_slot shape n known)
known_without shape of_free_slots (area ∷ areas) known = known_without shape of_free_slots areas known
known_without shape of_directory areas known = out_of_directory shape known

-- who says that a segment claims hashes has its guard, or that of the directory; so this is said no more
abbrev pub is_claim : Fact → Bool
is_claim (Owns s depth pattern) = true
is_claim fact = false

-- and who says that a slot is taken has the guard of free slots
abbrev pub is_taken : Fact → Bool
is_taken (Taken n) = true
is_taken fact = false

abbrev pub facts_without : Guard → List Fact → List Fact
facts_without of_free_slots facts = filter (λ fact. not (is_taken fact)) facts
facts_without guard facts = filter (λ fact. not (is_claim fact)) facts

-- a view that won a guard, or not
abbrev pub with_guard : Bool → Guard → View → View
with_guard true guard v = record v { areas = area_of guard ∷ v.areas }
with_guard false guard v = v

-- a view that won the guard of free slots for a side, or not: then it has the side no more, and knows no word of it
abbrev pub with_guard_for : Shape → Bool → ℕ → View → View
with_guard_for shape true n v = with_guard true of_free_slots v
with_guard_for shape false n v = record v { areas = all_but (is_side_at n) v.areas; known = out_of_slot shape n v.known }

-- a view that found an area, and knows the word by which it did, or not
abbrev pub with_area : Bool → Area → ℕ → ℕ → View → View
with_area true area i x v = record v { areas = area ∷ v.areas; known = (i, x) ∷ v.known }
with_area false area i x v = v

-- a view that looked at the header of a slot: a free one is an area of it, and one that is not is known to be taken
abbrev pub with_slot : Bool → ℕ → ℕ → ℕ → View → View
with_slot true n i x v = with_area true (Free n) i x v
with_slot false n i x v = record v { facts = Taken n ∷ v.facts }

-- a header is that of the new side of a segment of this depth and pattern
abbrev pub is_new_side : ℕ → ℕ → ℕ → Bool
is_new_side depth pattern head = (state_in head == fresh) && ((depth_in head == suc depth) && (pattern_in head == pattern_of_one_side pattern))

-- a header is that of a ready side of a segment of this depth and pattern: it is live and deeper, and its pattern is that of the 1-side, followed by zeros alone
abbrev pub is_ready_side : ℕ → ℕ → ℕ → Bool
is_ready_side depth pattern head = is_live head && is_side_prefix depth pattern (depth_in head) (pattern_in head)

-- what the linked slot tells of a segment of this depth and pattern: with a ready side there, which begins where the 1-side does, the segment has
-- none of its 1-side; else it has all of it
abbrev pub told_by_side : Bool → ℕ → ℕ → ℕ → ℕ → List Fact
told_by_side true p n depth pattern = Begins n (first_hash_of (suc depth) (pattern_of_one_side pattern)) ∷ Lacks p (suc depth) (pattern_of_one_side pattern) ∷ []
told_by_side false p n depth pattern = Owns p (suc depth) (pattern_of_one_side pattern) ∷ []

-- and what a link tells of it: that it has all of its 1-side, where no slot is linked
abbrev pub told_by_link : Bool → ℕ → ℕ → ℕ → List Fact
told_by_link true p depth pattern = Owns p (suc depth) (pattern_of_one_side pattern) ∷ []
told_by_link false p depth pattern = []

-- a view that relies on these facts too
abbrev pub with_facts : List Fact → View → View
with_facts facts v = record v { facts = facts ++ v.facts }

-- a header of the image's version was stored: others may lock the buckets of the segment, so nothing is known of the slot but the header
abbrev pub known_by : Shape → Row → ℕ → ℕ → List (ℕ × ℕ) → List (ℕ × ℕ)
known_by shape renews s x known = (header_word shape s, x) ∷ out_of_slot shape s known
known_by shape row s x known = known

-- the claims of a segment are said no more when a side of it goes live
abbrev pub is_claim_of : ℕ → Fact → Bool
is_claim_of p (Lives s) = false
is_claim_of p (Current s) = false
is_claim_of p (Rooted e) = false
is_claim_of p (Owns s depth pattern) = s == p
is_claim_of p (Lacks s depth pattern) = false
is_claim_of p (Deep f depth pattern) = false
is_claim_of p (Begins s hash) = false
is_claim_of p (Used n) = false
is_claim_of p (Taken n) = false

-- and that a slot is taken when it is freed
abbrev pub is_taken_at : ℕ → Fact → Bool
is_taken_at s (Taken n) = n == s
is_taken_at s fact = false

abbrev pub facts_by : Row → ℕ → List Fact → List Fact
facts_by (goes_live p) s facts = filter (λ fact. not (is_claim_of p fact)) facts
facts_by (frees p) s facts = filter (λ fact. not (is_taken_at s fact)) facts
facts_by row s facts = facts

-- THE VIEW AFTER, by the word that was found
abbrev pub view_then : Shape → StructureKind → ℕ → View → View
view_then shape (takes guard caller) n v = with_guard (n == free_guard) guard v
view_then shape (takes_for_side m caller) n v = with_guard_for shape (n == free_guard) m v
view_then shape (gives guard) n v =
    record v { areas = all_but (goes_with guard) v.areas; facts = facts_without guard v.facts; known = known_without shape guard v.areas v.known }
view_then shape (finds_stale s version) n v = with_area (not (version_in n == version)) (Stale s) (header_word shape s) n v
view_then shape (closes s i) n v = with_area true (Whole s) i n v
view_then shape (finds_free m) n v = with_slot (state_in n == free) m (header_word shape m) n v
view_then shape (finds_link p depth pattern) n v = with_facts (told_by_link (n == no_link) p depth pattern) (record v { known = (link_word shape p, n) ∷ v.known })
view_then shape (finds_side p m depth pattern) n v =
    with_facts (told_by_side (is_ready_side depth pattern n) p m depth pattern) (with_area (is_new_side depth pattern n) (Side m) (header_word shape m) n v)
view_then shape (finds_entry e i) n v = with_facts (Lives n ∷ []) (record v { known = (entry_at e i, n) ∷ v.known })
view_then shape (finds_begin s) n v = with_facts (Begins s (first_hash_of (depth_in n) (pattern_in n)) ∷ []) v
view_then shape (reads i) n v = record v { known = (i, n) ∷ v.known }
view_then shape (sets i x) n v = with_store shape i n x v.planned v.moving v.owed v
view_then shape (moves row s x) n v =
    let stored = with_store shape (header_word shape s) n x v.planned v.moving v.owed v in
    record stored { areas = areas_by row s v.areas; known = known_by shape row s x stored.known; pinned = without s v.pinned; facts = facts_by row s v.facts }
view_then shape (settles facts) n v = record v { flushed = []; facts = facts ++ v.facts }
view_then shape (settles_side m depth pattern) n v =
    record v { flushed = []; areas = all_but (is_side_at m) v.areas; facts = Owns m depth pattern ∷ v.facts; known = out_of_slot shape m v.known }
view_then shape (opens s lock next) n v = record v { held = without lock v.held; known = out_of_slot shape s v.known; pinned = []; areas = all_but (is_whole_at s) v.areas }
