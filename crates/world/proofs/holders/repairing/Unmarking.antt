-- A stale segment without a ready side is normal again, as deep as before.
use Rattle.std.proofs.Common.{◌≡◌, ℕ, suc, ◌+◌, ◌*◌, ◌≤◌, ◌⊎◌, inl, inr, sym, ap, subst, ◌∙◌, arith, add-one}
use Rattle.trace.specs.Events.{Words}
use Rattle.segment_head.specs.HeadWord.{version_in, state_in, depth_in, pattern_in, normal, splitting}
use Rattle.image_layout.specs.Places.{Shape}
use Rattle.sound_image.specs.Segments.{frame_of, image_version, HasReadySide}
use Rattle.frame_facts.specs.Stores.{DropsSplit}
use Rattle.frame_facts.proofs.Claimers.{unready_claims_all}
use Rattle.frame_facts.proofs.StoreLaws.{drops_split}
use Rattle.frame_facts.proofs.Stores.{drops}
use Rattle.world.specs.Ground.{Ground, IsGround, version_of, IsStructured}
use Rattle.world.specs.Views.{View, Has}
use Rattle.world.specs.Holders.{KnowsWord}
use Rattle.world.specs.areas.Areas.{header_word, link_word}
use Rattle.world.specs.areas.Rows.{unmarks, HasNoSides, IsRow}
use Rattle.world.specs.areas.Kinds.{moves}
use Rattle.world.specs.areas.Asking.{MayBeNewest, MayStandBeside, KeepsAll, ends_by, MayAt}
use Rattle.world.specs.areas.Splitting.{IsHeader}
use Rattle.world.specs.areas.Repairing.{owns_side, HasStale}
use Rattle.world.proofs.basics.Structures.{header_is}
use Rattle.world.proofs.holders.filling.Known.{slot_far, structure_stays, both_sound, known_there, table_stays}
use Rattle.frame_facts.specs.Claims.{ClaimsAll}

module _ (site : Ground) (ground : IsGround site) (v : View) (s x : ℕ) (word : Words) (mine : HasStale site v s word) (splits : state_in (word (header_word site.shape s)) ≡ splitting)
    (becomes : IsHeader x normal (depth_in (word (header_word site.shape s))) (pattern_in (word (header_word site.shape s))) (version_in (word (header_word site.shape s)))) where
  abbrev shape : Shape
  shape = site.shape

  abbrev i : ℕ
  i = header_word shape s

  -- ---- in words that have the known header
  -- it links nothing, or claims its 1-side: so it has no ready side
  unlinked : (us : Words) → us (link_word shape s) ≡ 0 → HasReadySide (frame_of shape us) s → ⊥
  unlinked us none side = zero_suc side.0 (sym none ∙ side.1.named)
    where
      zero_suc : (n : ℕ) → 0 ≡ suc n → ⊥
      zero_suc n e = omega (arith, e)

  module _ (us : Words) (structure : IsStructured site us) (header : us i ≡ word i) where
    claimed : ClaimsAll (frame_of shape us) s (suc (depth_in (word i))) (2 * pattern_in (word i) + 1) → HasReadySide (frame_of shape us) s → ⊥
    claimed claims = (unready_claims_all shape.depth ground.shape.depth (frame_of shape us) structure.sound s mine.slot (inr (ap state_in header ∙ splits))).1
        (subst (λ (k : ℕ). ClaimsAll (frame_of shape us) s k (2 * pattern_in (us i) + 1)) (sym (add-one (depth_in (us i))))
        (subst (λ (z : ℕ). ClaimsAll (frame_of shape us) s (suc (depth_in z)) (2 * pattern_in z + 1)) (sym header) claims))

    drops_there : (HasReadySide (frame_of shape us) s → ⊥) → DropsSplit (frame_of shape us) s x
    drops_there unready = record {
      slot = mine.slot;
      was = ap state_in header ∙ splits;
      unready = unready;
      becomes = becomes.state_is;
      region = record { depth = becomes.depth_is ∙ ap depth_in (sym header); pattern = becomes.pattern_is ∙ ap pattern_in (sym header) };
      past = subst (λ (z : ℕ). z ≤ image_version (frame_of shape us)) (sym (becomes.version_is ∙ ap version_in (sym header))) (structure.sound.past s mine.slot);
    }

    old : version_in (us i) ≡ version_of site → ⊥
    old e = mine.old (ap version_in (sym header) ∙ e)

    row : (HasReadySide (frame_of shape us) s → ⊥) → IsRow site us unmarks s x
    row unready = (drops_there unready, becomes.version_is ∙ ap version_in (sym header))

  -- ---- in the newest words, and in a medium beside them
  module _ (unready : KnowsWord v (link_word shape s) 0 ⊎ Has (owns_side site s word) v.facts) where
    row_now : (words : Words) → MayBeNewest site v words → IsRow site words unmarks s x
    row_now words new =
        let header = new.knows i (word i) mine.header.known in
        row words new.structure header (elim unready [
          | inl none ↦ unlinked words (new.knows (link_word shape s) 0 none.known)
          | inr has ↦ claimed words new.structure header (new.says (owns_side site s word) has)
        ])

    module _ (words medium : Words) (new : MayBeNewest site v words) (side : MayStandBeside site v words medium) where
      header_there : medium i ≡ word i
      header_there = known_there site ground v words medium new side i (word i) mine.header

      row_there : IsRow site medium unmarks s x
      row_there = row medium side.structure header_there (elim unready [
        | inl none ↦ unlinked medium (known_there site ground v words medium new side (link_word shape s) 0 none)
        | inr has ↦ claimed medium side.structure header_there (side.says (owns_side site s word) has)
      ])

      harmless_there : KeepsAll site (ends_by site unmarks s medium) words medium i x
      harmless_there =
          let keeps = drops_split shape medium ground.shape side.structure.sound s x row_there.0 in
          record {
            structure = structure_stays site medium i x (slot_far shape s 1) side.structure keeps;
            table = table_stays site ground v words medium new side i x (header_is shape s mine.slot) keeps;
            facts = λ fact _. drops shape (version_of site) words medium (both_sound site ground v words medium new side) s x ((row_now words new).0, row_there.0)
                (λ e. absurd (old words new.structure (new.knows i (word i) mine.header.known) e)) (λ n new_side. old medium side.structure header_there new_side.current) fact;
          }

    pub unmark : HasNoSides v.areas → MayAt site (moves unmarks s x) v
    unmark sides = ((λ words new. (row_now words new, (mine.stale, sides))), mine.holder.planned, harmless_there, tt, row_there)
