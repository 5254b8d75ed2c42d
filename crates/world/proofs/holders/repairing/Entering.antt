-- An entry of the 1-side that names a segment which begins no later than the stale one is to name the ready side.
use Rattle.std.proofs.Common.{◌≡◌, ℕ, suc, ◌+◌, ◌*◌, ◌≤◌, inl, sym, ap, subst, ◌∙◌}
use Rattle.trace.specs.Events.{Words}
use Rattle.hash_word.specs.Hash.{first_hash_of}
use Rattle.segment_head.specs.HeadWord.{depth_in, pattern_in}
use Rattle.image_layout.specs.Places.{Shape, root_word, entry_at}
use Rattle.sound_image.specs.Segments.{frame_of, IsReadySide}
use Rattle.frame_facts.specs.Media.{first_hash}
use Rattle.frame_facts.specs.Stores.{NamesSide, StoreKeeps}
use Rattle.frame_facts.proofs.StoreLaws.{names_side as side_named}
use Rattle.frame_facts.specs.Claims.{ClaimsNone}
use Rattle.frame_facts.specs.Facts.{Begins, IsLiveSlot}
use Rattle.frame_facts.specs.Keeping.{KeepsFacts}
use Rattle.frame_facts.proofs.Records.{structure_apart}
use Rattle.frame_facts.proofs.Stores.{named_side}
use Rattle.frame_facts.proofs.Told.{names_side}
use Rattle.image_layout.proofs.Areas.{entry_before}
use Rattle.world.specs.Ground.{Ground, IsGround, version_of, IsStructured}
use Rattle.world.specs.Views.{View, Has}
use Rattle.world.specs.Holders.{KnowsWord}
use Rattle.world.specs.areas.Areas.{header_word, link_word}
use Rattle.world.specs.areas.Kinds.{sets}
use Rattle.world.specs.areas.Asking.{MayBeNewest, MayStandBeside, MayAt, EndsNothing}
use Rattle.world.specs.areas.Repairing.{lacks_side, HasReadySideOf, IsEntryOfSide}
use Rattle.world.proofs.holders.filling.Known.{both_sound, known_there}
use Rattle.world.proofs.holders.directing.Known.{kept_all}
use Rattle.world.proofs.holders.directing.Directory.{set_front, entry_word, first_is_root}
use Rattle.world.proofs.holders.repairing.SideEntries.{stands_in_row}
use Rattle.world.proofs.holders.repairing.Ready.{ready, small}

module _ (site : Ground) (ground : IsGround site) (v : View) (s n g i t begin : ℕ) (word : Words) (has : HasReadySideOf site v s n g word)
    (entry : IsEntryOfSide g (depth_in (word (header_word site.shape s))) (pattern_in (word (header_word site.shape s))) i) (names : KnowsWord v (entry_at g i) t)
    (begins : Has (Begins t begin) v.facts) (early : begin ≤ first_hash_of (depth_in (word (header_word site.shape s))) (pattern_in (word (header_word site.shape s)))) where
  abbrev shape : Shape
  shape = site.shape

  abbrev i_head : ℕ
  i_head = header_word shape s

  -- ---- in words that have the known header, link, root and entry
  module _ (us : Words) (structure : IsStructured site us) (header : us i_head ≡ word i_head) (link : us (link_word shape s) ≡ suc n) (root : us root_word ≡ g)
      (none : ClaimsNone (frame_of shape us) s (suc (depth_in (word i_head))) (2 * pattern_in (word i_head) + 1)) (named : us (entry_at g i) ≡ t)
      (is_begin : IsLiveSlot (frame_of shape us) t × (first_hash (frame_of shape us) t ≡ begin)) where
    named_by_root : us (entry_at (us root_word) i) ≡ t
    named_by_root = ap (λ (r : ℕ). us (entry_at r i)) root ∙ named

    in_side : IsEntryOfSide (us root_word) (depth_in (us i_head)) (pattern_in (us i_head)) i
    in_side = subst (λ (r : ℕ). IsEntryOfSide r (depth_in (us i_head)) (pattern_in (us i_head)) i) (sym root) (subst (λ (z : ℕ). IsEntryOfSide g (depth_in z) (pattern_in z) i) (sym header) entry)

    is_ready : IsReadySide (frame_of shape us) s n
    is_ready = ready site ground word us s n g has.mine.slot has.into.splits structure header link root none

    names_there : NamesSide (frame_of shape us) s n i
    names_there =
        let is = subst (λ (m : ℕ). IsLiveSlot (frame_of shape us) m × (first_hash (frame_of shape us) m ≡ begin)) (sym named_by_root) is_begin in
        names_side shape.depth ground.shape.depth (frame_of shape us) structure.sound s n i has.mine.slot is_ready in_side.index
        (stands_in_row (frame_of shape us) s (small site ground word us s n g has.mine.slot has.into.splits structure header link root none) i in_side) begin is.0 is.1
        (subst (λ (z : ℕ). begin ≤ first_hash_of (depth_in z) (pattern_in z)) (sym header) early)

  -- ---- in the newest words, and in a medium beside them
  names_now : (words : Words) → MayBeNewest site v words → NamesSide (frame_of shape words) s n i
  names_now words new = names_there words new.structure (new.knows i_head (word i_head) has.mine.header.known) (new.knows (link_word shape s) (suc n) has.into.linked.known)
      (new.knows root_word g has.root.known) (new.says (lacks_side site s word) has.lacks).1 (new.knows (entry_at g i) t names.known) (new.says (Begins t begin) begins)

  names_beside : (words medium : Words) → MayBeNewest site v words → MayStandBeside site v words medium → NamesSide (frame_of shape medium) s n i
  names_beside words medium new side =
      let there = known_there site ground v words medium new side in
      names_there medium side.structure (there i_head (word i_head) has.mine.header) (there (link_word shape s) (suc n) has.into.linked) (there root_word g has.root)
      (side.says (lacks_side site s word) has.lacks).1 (there (entry_at g i) t names) (side.says (Begins t begin) begins)

  pub redirect : g ≤ shape.depth → MayAt site (sets (entry_at g i) n) v
  redirect within = set_front site ground v has.mine.holder has.directory (entry_at g i) n (entry_word shape g i within entry.index) (λ words medium new side.
      let here = new.knows root_word g has.root.known in
      let other = known_there site ground v words medium new side root_word g has.root in
      let may_now = names_now words new in
      let may_there = names_beside words medium new side in
      kept_all site ground words medium (EndsNothing site medium) (entry_at g i) n side.structure side.table (first_is_root shape (entry_at g i) (entry_word shape g i within entry.index))
      (structure_apart shape (entry_at g i) (inl (entry_before shape g i within entry.index)))
      (subst (λ (r : ℕ). StoreKeeps shape medium (entry_at r i) n) other (side_named shape medium ground.shape side.structure.sound s n i may_there))
      (subst (λ (r : ℕ). KeepsFacts shape (version_of site) words medium (entry_at r i) n) here
      (named_side shape (version_of site) words medium (both_sound site ground v words medium new side) (other ∙ sym here) s n i (may_now, may_there))))
