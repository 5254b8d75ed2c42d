-- The split ends: the segment has none of its 1-side, whose entries name deeper ones, so its header may say one bit more.
use Rattle.std.proofs.Common.{◌≡◌, ℕ, suc, ◌+◌, ◌*◌, ◌<◌, ◌≤◌, inr, sym, ap, subst, ◌∙◌, arith, add-one}
use Rattle.trace.specs.Events.{Words}
use Rattle.segment_head.specs.HeadWord.{version_in, state_in, depth_in, pattern_in, normal, splitting}
use Rattle.image_layout.specs.Places.{Shape, root_word}
use Rattle.sound_image.specs.Segments.{frame_of, image_version}
use Rattle.frame_facts.specs.Stores.{EndsSplit}
use Rattle.frame_facts.proofs.Claimers.{ready_claims_none}
use Rattle.frame_facts.proofs.StoreLaws.{ends_split}
use Rattle.frame_facts.specs.Claims.{ClaimsNone}
use Rattle.frame_facts.specs.Facts.{Lacks, Deep, NamesDeeper}
use Rattle.frame_facts.proofs.Records.{structure_apart}
use Rattle.frame_facts.proofs.Stores.{ends}
use Rattle.world.specs.Ground.{Ground, IsGround, IsStructured, IsCurrentIn, version_of}
use Rattle.world.specs.Views.{View, Has}
use Rattle.world.specs.Holders.{KnowsWord}
use Rattle.world.specs.areas.Areas.{Segment, Whole, header_word}
use Rattle.world.specs.areas.Rows.{finishes, HasNoSides, IsRow}
use Rattle.world.specs.areas.Kinds.{moves}
use Rattle.world.specs.areas.Asking.{MayBeNewest, MayStandBeside, IsHarmlessStore, ends_by, MayAt}
use Rattle.world.specs.areas.Splitting.{IsSettledHolder, IsHeader}
use Rattle.world.proofs.basics.Structures.{header_is}
use Rattle.world.proofs.holders.filling.Known.{slot_far, both_sound, known_there}
use Rattle.world.proofs.holders.directing.Known.{kept_all}

-- the header of a slot is none of the first words
pub head_far : (shape : Shape) (s : ℕ) → header_word shape s < 32 → header_word shape s ≡ root_word
head_far shape s low = absurd (omega (arith, low, slot_far shape s 1))

module _ (site : Ground) (ground : IsGround site) (v : View) (s x : ℕ) (word : Words) (holder : IsSettledHolder site.shape v)
    (whole : (words : Words) → MayBeNewest site v words → IsCurrentIn site words s → Has (Whole s) v.areas) (guard : Has (Segment s) v.areas)
    (sides : HasNoSides v.areas) (slot : s < site.shape.segments) (known : KnowsWord v (header_word site.shape s) (word (header_word site.shape s))) (splits : state_in (word (header_word site.shape s)) ≡ splitting)
    (lacks : Has (Lacks s (suc (depth_in (word (header_word site.shape s)))) (2 * pattern_in (word (header_word site.shape s)) + 1)) v.facts)
    (deep : Has (Deep (depth_in (word (header_word site.shape s))) (suc (depth_in (word (header_word site.shape s)))) (2 * pattern_in (word (header_word site.shape s)) + 1)) v.facts)
    (becomes : IsHeader x normal (suc (depth_in (word (header_word site.shape s)))) (2 * pattern_in (word (header_word site.shape s))) (version_in (word (header_word site.shape s)))) where
  abbrev shape : Shape
  shape = site.shape

  abbrev i : ℕ
  i = header_word shape s

  -- ---- in words that have the known header
  module _ (us : Words) (structure : IsStructured site us) (header : us i ≡ word i) (none : ClaimsNone (frame_of shape us) s (suc (depth_in (word i))) (2 * pattern_in (word i) + 1))
      (deeper : NamesDeeper (frame_of shape us) (depth_in (word i)) (suc (depth_in (word i))) (2 * pattern_in (word i) + 1)) where
    same_version : version_in x ≡ version_in (us i)
    same_version = becomes.version_is ∙ ap version_in (sym header)

    none_there : ClaimsNone (frame_of shape us) s (depth_in (us i) + 1) (2 * pattern_in (us i) + 1)
    none_there = subst (λ (k : ℕ). ClaimsNone (frame_of shape us) s k (2 * pattern_in (us i) + 1)) (sym (add-one (depth_in (us i))))
        (subst (λ (z : ℕ). ClaimsNone (frame_of shape us) s (suc (depth_in z)) (2 * pattern_in z + 1)) (sym header) none)

    deep_there : NamesDeeper (frame_of shape us) (depth_in (us i)) (depth_in (us i) + 1) (2 * pattern_in (us i) + 1)
    deep_there = subst (λ (k : ℕ). NamesDeeper (frame_of shape us) (depth_in (us i)) k (2 * pattern_in (us i) + 1)) (sym (add-one (depth_in (us i))))
        (subst (λ (z : ℕ). NamesDeeper (frame_of shape us) (depth_in z) (suc (depth_in z)) (2 * pattern_in z + 1)) (sym header) deeper)

    ends_there : EndsSplit (frame_of shape us) s x
    ends_there = record {
      slot = slot;
      was = ap state_in header ∙ splits;
      ready = (ready_claims_none shape.depth ground.shape.depth (frame_of shape us) structure.sound s slot (inr (ap state_in header ∙ splits))).1 none_there;
      deep = deep_there;
      becomes = becomes.state_is;
      depth = becomes.depth_is ∙ ap (λ (z : ℕ). suc (depth_in z)) (sym header) ∙ sym (add-one (depth_in (us i)));
      pattern = becomes.pattern_is ∙ ap (λ (z : ℕ). 2 * pattern_in z) (sym header);
      past = subst (λ (z : ℕ). z ≤ image_version (frame_of shape us)) (sym same_version) (structure.sound.past s slot);
    }

    row : IsRow site us finishes s x
    row = (ends_there, same_version)

  -- ---- in the newest words, and in a medium beside them
  row_now : (words : Words) → MayBeNewest site v words → IsRow site words finishes s x
  row_now words new = row words new.structure (new.knows i (word i) known.known) (new.says _ lacks).1 (new.says _ deep)

  row_there : (words medium : Words) → MayBeNewest site v words → MayStandBeside site v words medium → IsRow site medium finishes s x
  row_there words medium new side = row medium side.structure (known_there site ground v words medium new side i (word i) known) (side.says _ lacks).1 (side.says _ deep)

  harmless : IsHarmlessStore site v (ends_by site finishes s) i x
  harmless words medium new side =
      let here = row_now words new in
      let other = row_there words medium new side in
      kept_all site ground words medium (ends_by site finishes s medium) i x side.structure side.table (head_far shape s) (structure_apart shape i (header_is shape s slot))
      (ends_split shape medium ground.shape side.structure.sound s x other.0)
      (ends shape (version_of site) words medium (both_sound site ground v words medium new side) s x (here.0, other.0) (λ was. here.1 ∙ was))

  pub finish : MayAt site (moves finishes s x) v
  finish = ((λ words new. (row_now words new, (guard, whole words new, sides))), holder.planned, harmless, tt, row_there)
