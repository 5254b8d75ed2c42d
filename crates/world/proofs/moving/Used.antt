-- A slot that is used, by a live segment or as the new side of a current one, stays so at each kind of step at the structure; and one that was free
-- at the start is used where it is taken.
use Rattle.std.proofs.Common.{◌≡◌, ◌≢◌, ℕ, ◌+◌, ◌*◌, ◌<◌, List, inl, inr, sym, ap, ◌∙◌, subst, arith}
use Rattle.std.proofs.lemmas.Bool.{cases_eq}
use Rattle.trace.specs.Events.{Words, with_word}
use Rattle.trace.proofs.Replaced.{replaced_same, replaced_other}
use Rattle.segment_head.specs.HeadWord.{version_in, state_in, depth_in, pattern_in, free}
use Rattle.image_layout.specs.Places.{first_segment}
use Rattle.sound_image.specs.Segments.{frame_of}
use Rattle.frame_facts.specs.Claims.{HasSoundFrame}
use Rattle.frame_facts.specs.Owners.{HasStructure}
use Rattle.frame_facts.specs.Facts.{Used, Taken, IsUsedSlot}
use Rattle.frame_facts.proofs.Structure.{followed}
use Rattle.world.specs.Ground.{Ground, IsGround, version_of}
use Rattle.world.specs.Views.{View, At}
use Rattle.world.specs.Invariant.{UsedSlots, Holds}
use Rattle.world.specs.areas.Areas.{header_word, link_word}
use Rattle.world.specs.areas.Rows.{Row, marks, news, goes_live, finishes, unmarks, frees, renews, IsRow, HasForRow}
use Rattle.world.specs.areas.Kinds.{moves}
use Rattle.world.specs.areas.Asking.{MaySet, ends_by, MayAt}
use Rattle.world.specs.areas.Keeping.{KeepsUsedSlots}
use Rattle.world.proofs.basics.Structures.{header_is}
use Rattle.world.proofs.fitting.Rows.{one_head}
use Rattle.world.proofs.moving.Known.{grounds, held_living, newest_is, beside_self}
use Rattle.world.proofs.moving.Leaving.{by_structure}

module _ (site : Ground) (words : Words) where
  abbrev pub IsUsed : Words → ℕ → Type 0
  IsUsed word n = IsUsedSlot (frame_of site.shape word) (version_of site) n

  -- a used slot is taken
  pub used_taken : (n : ℕ) → IsUsed words n → state_in (words (header_word site.shape n)) ≢ free
  used_taken n (inl lives) e = elim lives.live [ inl a ↦ omega (arith, a, e) | inr a ↦ omega (arith, a, e) ]
  used_taken n (inr side) e = omega (arith, side.1.new, e)

  -- ---- words of the same structure
  module _ (is : IsGround site) (sound : HasSoundFrame site.shape words) (later : Words) (same : HasStructure site.shape words later) where
    pub used_same : (n : ℕ) → IsUsed words n → IsUsed later n
    used_same n used = followed site.shape (version_of site) words later words later (record { shape_fits = is.shape; newest = sound; there = sound }) same same (Used n) used

    pub slots_same : UsedSlots site words → UsedSlots site later
    slots_same used n slot was some = used_same n (used n slot was (λ e. some (ap state_in (same (header_word site.shape n) (header_is site.shape n slot)) ∙ e)))

-- no row ends that a slot is used
ends_none : (site : Ground) (row : Row) (s n : ℕ) (m : Words) → ends_by site row s m (Used n) → ⊥
ends_none site (marks k) s n m ends = ends
ends_none site (news p) s n m ends = ends
ends_none site (goes_live p) s n m ends = ends tt
ends_none site finishes s n m ends = ends
ends_none site unmarks s n m ends = ends
ends_none site (frees p) s n m ends = let e : Used n ≡ Taken s = ends in cc
ends_none site renews s n m ends = ends

module _ (site : Ground) (words : Words) (views : List View) (j : ℕ) (v : View) (h : Holds site words views) (at : At views j v) where
  -- ---- what is used stays used
  pub set_uses : (i x n : ℕ) → MaySet site v i x → IsUsed site words words n → IsUsed site words (with_word words i x) n
  set_uses i x n may used = ((may.harmless words words (newest_is site words views h j v at) (beside_self site words views h j v at)).facts (Used n) (λ ends. ends)).has used

  pub row_uses : (row : Row) (s x n : ℕ) → MayAt site (moves row s x) v → IsUsed site words words n → IsUsed site words (with_word words (header_word site.shape s) x) n
  row_uses row s x n may used =
      ((may.2 words words (newest_is site words views h j v at) (beside_self site words views h j v at)).facts (Used n) (ends_none site row s n words)).has used

  -- ---- slots that were free at the start
  abbrev Uses : Words → Type 0
  Uses later = UsedSlots site later

  set_slots : (i x : ℕ) → MaySet site v i x → Uses (with_word words i x)
  set_slots i x may n slot was some = set_uses i x n may
      (h.structure.used_slots n slot was (λ e. some (ap state_in (replaced_other words i x (header_word site.shape n) (λ k. may.no_header n slot (sym k))) ∙ e)))

  module _ (row : Row) (s x : ℕ) (may : MayAt site (moves row s x) v) where
    abbrev later : Words
    later = with_word words (header_word site.shape s) x

    apart : (n : ℕ) → n ≢ s → later (header_word site.shape n) ≡ words (header_word site.shape n)
    apart n ne = replaced_other words (header_word site.shape s) x (header_word site.shape n) (λ e. ne (one_head site n s e))

    link_apart : (n : ℕ) → later (link_word site.shape n) ≡ words (link_word site.shape n)
    link_apart n = replaced_other words (header_word site.shape s) x (link_word site.shape n) (λ e. by (first_segment site.shape) n s e)
      where
        by : (f n s : ℕ) → f + 2144 * n + 2 ≡ f + 2144 * s + 1 → ⊥
        by f n s e = omega (arith, e)

    -- a slot that was free is taken by one row alone, for a segment that its holder has whole, and that is current so
    takes_slot : (r : Row) → IsRow site words r s x → HasForRow site words r s v.areas → state_in (words (header_word site.shape s)) ≡ free → state_in x ≢ free → IsUsed site words later s
    takes_slot (marks n) q has was some = absurd (omega (arith, q.0.was, was))
    takes_slot (news p) q has was some =
        let side = q.1 in
        let other : p ≢ s = λ e. clash (subst (λ (z : ℕ). state_in (words (header_word site.shape z)) ≡ 2) e side.splits) was in
        let whole = h.structure.fits.whole j v p at has.1 in
        inr (
          p,
          record {
            slot = side.slot;
            splits = ap state_in (apart p other) ∙ side.splits;
            current = ap version_in (apart p other) ∙ (held_living site words views h j v at p 0 (omega arith) (whole.1 0 (omega arith))).0.current;
            linked = link_apart p ∙ side.linked;
            side_slot = q.0.slot;
            new = ap state_in (replaced_same words (header_word site.shape s) x) ∙ q.0.becomes;
            depth = ap depth_in (replaced_same words (header_word site.shape s) x) ∙ side.depth ∙ ap (λ z. depth_in z + 1) (sym (apart p other));
            pattern = ap pattern_in (replaced_same words (header_word site.shape s) x) ∙ side.pattern ∙ ap (λ z. 2 * pattern_in z + 1) (sym (apart p other));
          },
        )
      where
        clash : state_in (words (header_word site.shape s)) ≡ 2 → state_in (words (header_word site.shape s)) ≡ free → ⊥
        clash a b = omega (arith, a, b)
    takes_slot (goes_live p) q has was some = absurd (omega (arith, q.0.was, was))
    takes_slot finishes q has was some = absurd (omega (arith, q.0.was, was))
    takes_slot unmarks q has was some = absurd (omega (arith, q.0.was, was))
    takes_slot (frees p) q has was some = absurd (some q.0.becomes)
    takes_slot renews q has was some = absurd (omega (arith, q.1, was))

    at_slot : s < site.shape.segments → state_in (site.front (header_word site.shape s)) ≡ free → state_in x ≢ free → IsUsed site words later s
    at_slot slot was some = let q = may.0 words (newest_is site words views h j v at) in elim (cases_eq (state_in (words (header_word site.shape s))) free) [
      | inl none ↦ takes_slot row q.0 q.1 none some
      | inr taken ↦ row_uses row s x s may (h.structure.used_slots s slot was taken)
    ]

    row_slots : Uses later
    row_slots n slot was some = elim (cases_eq n s) [
      | inl same ↦ subst (λ (z : ℕ). IsUsed site words later z) (sym same) (at_slot (subst (λ (z : ℕ). z < site.shape.segments) same slot)
          (subst (λ (z : ℕ). state_in (site.front (header_word site.shape z)) ≡ free) same was)
          (λ e. some (ap (λ (z : ℕ). state_in (later (header_word site.shape z))) same ∙ ap state_in (replaced_same words (header_word site.shape s) x) ∙ e)))
      | inr ne ↦ row_uses row s x n may (h.structure.used_slots n slot was (λ e. some (ap state_in (apart n ne) ∙ e)))
    ]

pub used_kept : KeepsUsedSlots
used_kept site kind words views j v h at may =
    by_structure site words views j v h at j (UsedSlots site) (λ later same. slots_same site words h.site_is (grounds site words views h).sound later same h.structure.used_slots)
    (λ i x set. set_slots site words views j v h at i x set) kind may (λ row s x is moved. row_slots site words views j v h at row s x moved)
