-- The new side of a stale segment becomes free: no segment of the image's version splits to it.
use Rattle.std.proofs.Common.{◌≡◌, ℕ, suc, ◌+◌, ◌*◌, ◌<◌, ◌≤◌, refl, sym, ap, subst, ◌∙◌, arith, add-one}
use Rattle.trace.specs.Events.{Words}
use Rattle.segment_head.specs.HeadWord.{version_in, state_in, depth_in, pattern_in, free, fresh, splitting}
use Rattle.image_layout.specs.Places.{Shape}
use Rattle.sound_image.specs.Segments.{frame_of, image_version}
use Rattle.frame_facts.specs.Stores.{FreesSlot}
use Rattle.frame_facts.proofs.StoreLaws.{frees_slot}
use Rattle.frame_facts.specs.Facts.{IsNewSide}
use Rattle.frame_facts.proofs.Sides.{one_parent}
use Rattle.frame_facts.proofs.Stores.{frees}
use Rattle.world.specs.Ground.{Ground, IsGround, version_of, IsStructured}
use Rattle.world.specs.Views.{View, Has}
use Rattle.world.specs.Holders.{KnowsWord}
use Rattle.world.specs.areas.Areas.{Side, Allocation, header_word, link_word}
use Rattle.world.specs.areas.Rows.{frees as frees_row, IsSideOf, IsRow}
use Rattle.world.specs.areas.Kinds.{moves}
use Rattle.world.specs.areas.Asking.{MayBeNewest, MayStandBeside, KeepsAll, ends_by, MayAt}
use Rattle.world.specs.areas.Splitting.{IsHeader}
use Rattle.world.specs.areas.Repairing.{side_depth_in, side_pattern_in, HasStale, IsSplittingInto}
use Rattle.world.proofs.basics.Structures.{header_is}
use Rattle.world.proofs.holders.filling.Known.{slot_far, structure_stays, both_sound, known_there, table_stays}

-- what a splitting segment has linked is a slot
pub linked_slot : (site : Ground) (us : Words) (s n : ℕ) → s < site.shape.segments → IsStructured site us → state_in (us (header_word site.shape s)) ≡ splitting → us (link_word site.shape s) ≡ suc n
    → n < site.shape.segments
linked_slot site us s n slot structure splits link = by n (us (link_word site.shape s)) site.shape.segments link (structure.sound.link s slot (two (state_in (us (header_word site.shape s))) splits))
  where
    by : (n l m : ℕ) → l ≡ suc n → l ≤ m → n < m
    by n l m e most = omega (arith, e, most)

    two : (z : ℕ) → z ≡ splitting → z ≡ free → ⊥
    two z e f = omega (arith, e, f)

module _ (site : Ground) (ground : IsGround site) (v : View) (s n x : ℕ) (word : Words) (mine : HasStale site v s word) (into : IsSplittingInto site s word v n)
    (side_head : KnowsWord v (header_word site.shape n) (word (header_word site.shape n))) (was : state_in (word (header_word site.shape n)) ≡ fresh)
    (deep : depth_in (word (header_word site.shape n)) ≡ side_depth_in (word (header_word site.shape s)))
    (behind : pattern_in (word (header_word site.shape n)) ≡ side_pattern_in (word (header_word site.shape s)))
    (becomes : IsHeader x free (depth_in (word (header_word site.shape n))) (pattern_in (word (header_word site.shape n))) (version_in (word (header_word site.shape n)))) where
  abbrev shape : Shape
  shape = site.shape

  abbrev i : ℕ
  i = header_word shape n

  abbrev depth : ℕ
  depth = depth_in (word (header_word shape s))

  -- ---- in words that have both known heads
  module _ (us : Words) (structure : IsStructured site us) (parent : us (header_word shape s) ≡ word (header_word shape s)) (link : us (link_word shape s) ≡ suc n) (header : us i ≡ word i) where
    side_slot : n < shape.segments
    side_slot = linked_slot site us s n mine.slot structure (ap state_in parent ∙ into.splits) link

    frees_there : FreesSlot (frame_of shape us) n x
    frees_there = record {
      slot = side_slot;
      was = ap state_in header ∙ was;
      becomes = becomes.state_is;
      past = subst (λ (z : ℕ). z ≤ image_version (frame_of shape us)) (sym (becomes.version_is ∙ ap version_in (sym header))) (structure.sound.past n side_slot);
    }

    side_of : IsSideOf site us s n (us i)
    side_of = record {
      slot = mine.slot;
      splits = ap state_in parent ∙ into.splits;
      linked = link;
      depth = ap depth_in header ∙ deep ∙ sym (add-one depth) ∙ ap (λ (z : ℕ). depth_in z + 1) (sym parent);
      pattern = ap pattern_in header ∙ behind ∙ ap (λ (z : ℕ). 2 * pattern_in z + 1) (sym parent);
    }

    old : version_in (us (header_word shape s)) ≡ version_of site → ⊥
    old e = mine.old (ap version_in (sym parent) ∙ e)

    row : IsRow site us (frees_row s) n x
    row = (frees_there, side_of, old)

    -- the slot has one parent, which is not current
    new_side : IsNewSide (frame_of shape us) (version_in (us (header_word shape s))) s n
    new_side = record {
      slot = side_of.slot;
      splits = side_of.splits;
      current = refl;
      linked = side_of.linked;
      side_slot = side_slot;
      new = frees_there.was;
      depth = side_of.depth;
      pattern = side_of.pattern;
    }

    unused : (t : ℕ) → IsNewSide (frame_of shape us) (version_of site) t n → ⊥
    unused t side =
        let one : t ≡ s = one_parent shape.depth (frame_of shape us) ground.shape.depth structure.sound (version_of site) (version_in (us (header_word shape s))) t s n side new_side in
        old (ap (λ (u : ℕ). version_in (us (header_word shape u))) (sym one) ∙ side.current)

  -- ---- in the newest words, and in a medium beside them
  row_now : (words : Words) → MayBeNewest site v words → IsRow site words (frees_row s) n x
  row_now words new = row words new.structure (new.knows (header_word shape s) (word (header_word shape s)) mine.header.known) (new.knows (link_word shape s) (suc n) into.linked.known)
      (new.knows i (word i) side_head.known)

  module _ (words medium : Words) (new : MayBeNewest site v words) (side : MayStandBeside site v words medium) where
    there : (k y : ℕ) → KnowsWord v k y → medium k ≡ y
    there = known_there site ground v words medium new side

    parent_there : medium (header_word shape s) ≡ word (header_word shape s)
    parent_there = there (header_word shape s) (word (header_word shape s)) mine.header

    row_there : IsRow site medium (frees_row s) n x
    row_there = row medium side.structure parent_there (there (link_word shape s) (suc n) into.linked) (there i (word i) side_head)

    unused_there : (t : ℕ) → IsNewSide (frame_of shape medium) (version_of site) t n → ⊥
    unused_there = unused medium side.structure parent_there (there (link_word shape s) (suc n) into.linked) (there i (word i) side_head)

    harmless_there : KeepsAll site (ends_by site (frees_row s) n medium) words medium i x
    harmless_there =
        let keeps = frees_slot shape medium ground.shape side.structure.sound n x row_there.0 in
        record {
          structure = structure_stays site medium i x (slot_far shape n 1) side.structure keeps;
          table = table_stays site ground v words medium new side i x (header_is shape n row_there.0.slot) keeps;
          facts = λ fact other. frees shape (version_of site) words medium (both_sound site ground v words medium new side) n x ((row_now words new).0, row_there.0) unused_there fact other;
        }

  pub free_side : Has Allocation v.areas → Has (Side n) v.areas → MayAt site (moves (frees_row s) n x) v
  free_side guard has = ((λ words new. (row_now words new, (has, guard, mine.stale))), mine.holder.planned, harmless_there, tt, row_there)
