-- The first two headers of a split: the segment is marked, and the slot that it has linked becomes its new side.
use Rattle.std.proofs.Common.{◌≡◌, ℕ, suc, ◌+◌, ◌*◌, ◌%◌, ◌^◌, ◌<◌, ◌≤◌, sym, ap, ◌∙◌, subst, arith, add-one}
use Rattle.trace.specs.Events.{Words}
use Rattle.segment_head.specs.HeadWord.{version_in, state_in, depth_in, pattern_in, free, normal, splitting, fresh}
use Rattle.image_layout.specs.Places.{state_word}
use Rattle.sound_image.specs.Segments.{frame_of, image_version}
use Rattle.frame_facts.specs.Stores.{BeginsSplit, TakesSlot}
use Rattle.frame_facts.proofs.StoreLaws.{begins_split, takes_slot}
use Rattle.frame_facts.proofs.frames.Regions.{doubled_fits}
use Rattle.frame_facts.proofs.Stores.{takes, begins}
use Rattle.world.specs.Ground.{Ground, IsGround, version_of, IsStructured}
use Rattle.world.specs.Views.{View, Has}
use Rattle.world.specs.areas.Areas.{Free, Whole, header_word}
use Rattle.world.specs.areas.Kinds.{moves}
use Rattle.world.specs.areas.Rows.{marks, news, IsSideOf, IsRow}
use Rattle.world.specs.areas.Asking.{ends_by, IsHarmlessStore, MayBeNewest, MayStandBeside, MayAt}
use Rattle.world.specs.areas.Splitting.{link_word, IsSettledHolder, KnowsHead, IsHeader, MayBegin}
use Rattle.world.proofs.basics.Structures.{header_is}
use Rattle.world.proofs.holders.filling.Known.{slot_far, structure_stays, both_sound, known_there, table_stays}

-- words have the header and the link of a slot that others have
pub record HasHead (site : Ground) (word words : Words) (s : ℕ) : Type 0 where
  pub header : words (header_word site.shape s) ≡ word (header_word site.shape s)
  pub link : words (link_word site.shape s) ≡ word (link_word site.shape s)

module _ (site : Ground) (ground : IsGround site) (v : View) (s : ℕ) (word : Words) (knows : KnowsHead site.shape v s word) where
  -- so have the newest words and a medium beside them, where the view knows them
  pub head_now : (words : Words) → MayBeNewest site v words → HasHead site word words s
  head_now words new = record {
    header = new.knows (header_word site.shape s) (word (header_word site.shape s)) knows.header.known;
    link = new.knows (link_word site.shape s) (word (link_word site.shape s)) knows.link.known;
  }

  pub head_there : (words medium : Words) → MayBeNewest site v words → MayStandBeside site v words medium → HasHead site word medium s
  head_there words medium new side = record {
    header = known_there site ground v words medium new side (header_word site.shape s) (word (header_word site.shape s)) knows.header;
    link = known_there site ground v words medium new side (link_word site.shape s) (word (link_word site.shape s)) knows.link;
  }

-- ---- the segment is marked
module _ (site : Ground) (ground : IsGround site) (v : View) (s n x : ℕ) (word : Words) (knows : KnowsHead site.shape v s word)
    (was : state_in (word (header_word site.shape s)) ≡ normal) (named : word (link_word site.shape s) ≡ suc n)
    (is : IsHeader x splitting (depth_in (word (header_word site.shape s))) (pattern_in (word (header_word site.shape s))) (version_in (word (header_word site.shape s)))) where
  begins_there : (words : Words) → IsStructured site words → HasHead site word words s → BeginsSplit (frame_of site.shape words) s x
  begins_there words sound same = record {
    slot = knows.slot;
    was = ap state_in same.header ∙ was;
    becomes = is.state_is;
    region = record { depth = is.depth_is ∙ ap depth_in (sym same.header); pattern = is.pattern_is ∙ ap pattern_in (sym same.header) };
    past = subst (λ (z : ℕ). z ≤ image_version (frame_of site.shape words)) (sym (is.version_is ∙ ap version_in (sym same.header))) (sound.sound.past s knows.slot);
  }

  marks_there : (words : Words) → IsStructured site words → HasHead site word words s → IsRow site words (marks n) s x
  marks_there words sound same = (begins_there words sound same, same.link ∙ named, is.version_is ∙ ap version_in (sym same.header))

  marks_harmless : IsHarmlessStore site v (ends_by site (marks n) s) (header_word site.shape s) x
  marks_harmless words medium new side =
      let now = begins_there words new.structure (head_now site ground v s word knows words new) in
      let there = begins_there medium side.structure (head_there site ground v s word knows words medium new side) in
      let keeps = begins_split site.shape medium ground.shape side.structure.sound s x there in
      record {
        structure = structure_stays site medium (header_word site.shape s) x (slot_far site.shape s 1) side.structure keeps;
        table = table_stays site ground v words medium new side (header_word site.shape s) x (header_is site.shape s knows.slot) keeps;
        facts = λ fact _. begins site.shape (version_of site) words medium (both_sound site ground v words medium new side) s x (now, there)
            (λ e. is.version_is ∙ ap version_in (sym (head_now site ground v s word knows words new).header) ∙ e) fact;
      }

  pub may_mark : IsSettledHolder site.shape v → Has (Whole s) v.areas → Has (Free n) v.areas → MayAt site (moves (marks n) s x) v
  may_mark holder whole has = (
    (λ words new. (marks_there words new.structure (head_now site ground v s word knows words new), (whole, has))),
    holder.planned,
    marks_harmless,
    tt,
    (λ words medium new side. marks_there medium side.structure (head_there site ground v s word knows words medium new side)),
  )

-- ---- the slot becomes the new side
module _ (site : Ground) (ground : IsGround site) (v : View) (s n x : ℕ) (word : Words) (knows : KnowsHead site.shape v s word) (finds : KnowsHead site.shape v n word)
    (splits : state_in (word (header_word site.shape s)) ≡ splitting) (named : word (link_word site.shape s) ≡ suc n)
    (was : state_in (word (header_word site.shape n)) ≡ free) (unlinked : word (link_word site.shape n) ≡ 0) (room : depth_in (word (header_word site.shape s)) < site.shape.depth)
    (is : IsHeader x fresh (suc (depth_in (word (header_word site.shape s)))) (2 * pattern_in (word (header_word site.shape s)) + 1) (version_of site)) where
  abbrev depth : ℕ
  depth = depth_in (word (header_word site.shape s))

  abbrev pattern : ℕ
  pattern = pattern_in (word (header_word site.shape s))

  -- the pattern of the 1-side has as many bits as its depth says
  pattern_fits : (words : Words) → IsStructured site words → HasHead site word words s → pattern_in x < 2 ^ depth_in x
  pattern_fits words sound same =
      let parent : pattern < 2 ^ depth = subst (λ (z : ℕ). pattern_in z < 2 ^ depth_in z) same.header ((sound.sound.head s knows.slot).pattern_fits not_free) in
      subst (λ (z : ℕ). pattern_in x < 2 ^ z) (add-one depth ∙ sym is.depth_is) (subst (λ (z : ℕ). z < 2 ^ (depth + 1)) (sym is.pattern_is) (doubled_fits depth pattern parent))
    where
      two : (z : ℕ) → z ≡ splitting → z ≡ free → ⊥
      two z e f = omega (arith, e, f)

      not_free : state_in (words (header_word site.shape s)) ≡ free → ⊥
      not_free e = two (state_in (words (header_word site.shape s))) (ap state_in same.header ∙ splits) e

  -- its version is the image's
  past_version : (words : Words) → IsStructured site words → version_in x ≤ image_version (frame_of site.shape words)
  past_version words sound =
      let same : version_in x ≡ image_version (frame_of site.shape words) = is.version_is ∙ ap (λ (z : ℕ). z % 2 ^ 8) (sym (sound.fixed state_word (omega arith) (λ e. omega (arith, e)))) in
      most (version_in x) (image_version (frame_of site.shape words)) same
    where
      most : (a b : ℕ) → a ≡ b → a ≤ b
      most a b e = omega (arith, e)

  takes_there : (words : Words) → IsStructured site words → HasHead site word words s → HasHead site word words n → TakesSlot (frame_of site.shape words) site.shape.depth n x
  takes_there words sound parent same = record {
    slot = finds.slot;
    was = ap state_in same.header ∙ was;
    unlinked = same.link ∙ unlinked;
    becomes = is.state_is;
    depth = deep (depth_in x) depth site.shape.depth is.depth_is room;
    pattern = pattern_fits words sound parent;
    past = past_version words sound;
  }
    where
      deep : (a d g : ℕ) → a ≡ suc d → d < g → a ≤ g
      deep a d g e low = omega (arith, e, low)

  side_there : (words : Words) → HasHead site word words s → IsSideOf site words s n x
  side_there words same = record {
    slot = knows.slot;
    splits = ap state_in same.header ∙ splits;
    linked = same.link ∙ named;
    depth = is.depth_is ∙ sym (add-one depth) ∙ ap (λ (z : ℕ). depth_in z + 1) (sym same.header);
    pattern = is.pattern_is ∙ ap (λ (z : ℕ). 2 * pattern_in z + 1) (sym same.header);
  }

  news_there : (words : Words) → IsStructured site words → HasHead site word words s → HasHead site word words n → IsRow site words (news s) n x
  news_there words sound parent same = (takes_there words sound parent same, side_there words parent, is.version_is)

  news_now : (words : Words) → MayBeNewest site v words → IsRow site words (news s) n x
  news_now words new = news_there words new.structure (head_now site ground v s word knows words new) (head_now site ground v n word finds words new)

  news_beside : (words medium : Words) → MayBeNewest site v words → MayStandBeside site v words medium → IsRow site medium (news s) n x
  news_beside words medium new side = news_there medium side.structure (head_there site ground v s word knows words medium new side) (head_there site ground v n word finds words medium new side)

  news_harmless : IsHarmlessStore site v (ends_by site (news s) n) (header_word site.shape n) x
  news_harmless words medium new side =
      let there = (news_beside words medium new side).0 in
      let keeps = takes_slot site.shape medium ground.shape side.structure.sound n x there in
      record {
        structure = structure_stays site medium (header_word site.shape n) x (slot_far site.shape n 1) side.structure keeps;
        table = table_stays site ground v words medium new side (header_word site.shape n) x (header_is site.shape n finds.slot) keeps;
        facts = λ fact _. takes site.shape (version_of site) words medium (both_sound site ground v words medium new side) n x ((news_now words new).0, there) fact;
      }

  pub may_take : IsSettledHolder site.shape v → Has (Whole s) v.areas → Has (Free n) v.areas → MayAt site (moves (news s) n x) v
  may_take holder whole has = (
    (λ words new. (news_now words new, (has, whole))),
    holder.planned,
    news_harmless,
    tt,
    news_beside,
  )

pub may_begin : (site : Ground) (v : View) → IsGround site → MayBegin site v
may_begin site v ground = record {
  marks = λ s n x word holder whole has knows was named is. may_mark site ground v s n x word knows was named is holder whole has;
  news = λ s n x word holder whole has knows finds splits named was unlinked room is. may_take site ground v s n x word knows finds splits named was unlinked room is holder whole has;
}
