-- What a step of a view with areas leaves of media: no more of them, or with a store those with the store beside the old ones.
use Rattle.std.proofs.Common.{◌≡◌, ◌⊎◌, ℕ, ◌<◌, Bool, true, false, List, set, inl, inr, refl, sym, ap, ◌∙◌, subst, arith}
use Rattle.trace.specs.Events.{Words, with_word}
use Rattle.trace.proofs.Replaced.{replaced_other}
use Rattle.image_layout.specs.Places.{Shape, words_of}
use Rattle.sound_image.specs.Segments.{frame_of}
use Rattle.frame_facts.proofs.Roots.{untouched_keeps}
use Rattle.frame_facts.specs.Core.{core_of, core}
use Rattle.frame_facts.specs.Owners.{HasStructure}
use Rattle.frame_facts.specs.Facts.{Fact}
use Rattle.frame_facts.proofs.Structure.{beside as same_frame}
use Rattle.world.specs.Ground.{Ground, IsGround, IsStructured}
use Rattle.world.specs.Views.{View, Has, At, IsLoose}
use Rattle.world.specs.Media.{IsPossible}
use Rattle.world.specs.areas.Areas.{Area}
use Rattle.world.specs.areas.Rows.{HasStored}
use Rattle.world.specs.areas.Kinds.{Guard, of_segment, of_free_slots, of_directory, guard_word, with_area, with_slot, with_facts}
use Rattle.world.specs.areas.Keeping.{whole_beside}
use Rattle.world.proofs.basics.Structures.{front_is}
use Rattle.world.proofs.basics.Tables.{core_structure_same, cores_with}
use Rattle.world.proofs.invariant.KeepMedia.{possible_fewer, grown}
use Rattle.world.proofs.fitting.Stored.{as_stored}
use Rattle.world.proofs.moving.Known.{whole_cores}

-- ---- words of one structure
-- words of the structure of sound ones are sound
pub structured_by : (site : Ground) → IsGround site → (one other : Words) → HasStructure site.shape one other → IsStructured site one → IsStructured site other
structured_by site is one other same s = record {
  fixed = λ i low no_root. same i (front_is site.shape i low) ∙ s.fixed i low no_root;
  sound = (untouched_keeps site.shape.depth is.shape.depth (frame_of site.shape one) (frame_of site.shape other) s.sound (same_frame site.shape one other same s.sound.root)).goes_on.sound;
}

pub structure_of : (site : Ground) (one other : Words) → ((n : ℕ) → core site.shape one n ≡ core site.shape other n) → HasStructure site.shape one other
structure_of site one other same = core_structure_same site one other (λ n _. sym (same n))

-- ---- steps that store to no word of the image
-- a guard's word is none of the image
guard_above : (shape : Shape) (guard : Guard) (n : ℕ) → n < words_of shape → n ≡ guard_word shape guard → ⊥
guard_above shape (of_segment s) n near e = omega (arith, near, e)
guard_above shape of_free_slots n near e = omega (arith, near, e)
guard_above shape of_directory n near e = omega (arith, near, e)

pub guard_cores : (site : Ground) (words : Words) (guard : Guard) (x n : ℕ) → n < words_of site.shape → core site.shape (with_word words (guard_word site.shape guard) x) n ≡ core site.shape words n
guard_cores site words guard x n near = ap (core_of site.shape n) (replaced_other words (guard_word site.shape guard) x n (guard_above site.shape guard n near))

-- a step leaves the cores of the image, and no more is loose in the stepping view
pub record IsStill (site : Ground) (words later : Words) (v w : View) : Type 0 where
  pub cores : (n : ℕ) → n < words_of site.shape → core site.shape later n ≡ core site.shape words n
  pub less : (p : ℕ × ℕ) → IsLoose w p → IsLoose v p

pub still_back : (site : Ground) (words later : Words) (views : List View) (j : ℕ) (v w : View) → At views j v → IsStill site words later v w → (m : Words)
    → IsPossible site later (set views j w) m → IsPossible site words views m
still_back site words later views j v w at still m p = possible_fewer site words later views j v w at still.cores still.less m p

pub calm_still : (site : Ground) (words : Words) (v w : View) → ((p : ℕ × ℕ) → IsLoose w p → IsLoose v p) → IsStill site words words v w
calm_still site words v w less = record { cores = λ n _. refl; less = less }

pub guard_still : (site : Ground) (words : Words) (v w : View) (guard : Guard) (x : ℕ) → ((p : ℕ × ℕ) → IsLoose w p → IsLoose v p)
    → IsStill site words (with_word words (guard_word site.shape guard) x) v w
guard_still site words v w guard x less = record { cores = λ n near. guard_cores site words guard x n near; less = less }

-- a view that found an area, or not, has what it had
pub found_less : (t : Bool) (area : Area) (i x : ℕ) (v : View) (p : ℕ × ℕ) → IsLoose (with_area t area i x v) p → IsLoose v p
found_less true area i x v p l = l
found_less false area i x v p l = l

pub told_less : (facts : List Fact) (t : Bool) (area : Area) (i x : ℕ) (v : View) (p : ℕ × ℕ) → IsLoose (with_facts facts (with_area t area i x v)) p → IsLoose v p
told_less facts true area i x v p l = l
told_less facts false area i x v p l = l

pub slot_less : (t : Bool) (n i x : ℕ) (v : View) (p : ℕ × ℕ) → IsLoose (with_slot t n i x v) p → IsLoose v p
slot_less true n i x v p l = l
slot_less false n i x v p l = l

-- what is loose once all that was flushed is settled was loose
pub fenced_less : (v w : View) → w.dirty ≡ v.dirty → ((p : ℕ × ℕ) → Has p w.flushed → ⊥) → (p : ℕ × ℕ) → IsLoose w p → IsLoose v p
fenced_less v w dirty none p l = elim l [ inl d ↦ inl (subst (Has p) dirty d) | inr f ↦ absurd (none p f) ]

-- ---- a store
module _ (site : Ground) (words : Words) (views : List View) (j : ℕ) (v w : View) (i x : ℕ) (at : At views j v) (st : HasStored site.shape i (words i) x w.areas v w)
    (near : i < words_of site.shape) where
  -- A MEDIUM AFTER is one from before, or has the cores of one with the store, which had the newest words where it had their cores
  pub grown_whole : (m : Words) → IsPossible site (with_word words i x) (set views j w) m
      → IsPossible site words views m
      ⊎ ((q : Words) × IsPossible site words views q × ((n : ℕ) → core site.shape (with_word (whole_beside site words q) i x) n ≡ core site.shape m n))
  grown_whole m p = elim (grown site words views j v at i x v.planned v.moving v.owed near m (as_stored site words views j v w i x w.areas at st m p)) [
    | inl q ↦ inl q
    | inr q ↦ inr (q.0, q.1, λ n. cores_with site (whole_beside site words q.0) q.0 i x (whole_cores site words q.0) n ∙ q.2 n)
  ]
