-- What is known once a fence has settled what was flushed; and a store that keeps the claims of a medium is harmless there.
use Rattle.std.proofs.Common.{◌≡◌, ℕ, ◌+◌, ◌<◌, ◌≤◌, inl, inr, subst, ◌∙◌, arith}
use Rattle.std.proofs.lemmas.Nat.{pow_pos}
use Rattle.trace.specs.Events.{Words, with_word}
use Rattle.trace.proofs.Replaced.{replaced_other}
use Rattle.image_layout.specs.Places.{Shape, root_word, first_segment}
use Rattle.frame_facts.specs.Stores.{StoreKeeps}
use Rattle.frame_facts.specs.Standing.{IsTable}
use Rattle.frame_facts.specs.Facts.{Fact}
use Rattle.frame_facts.specs.Keeping.{KeepsFacts}
use Rattle.frame_facts.specs.Copies.{IsNoBucketWord}
use Rattle.frame_facts.proofs.Records.{kept_table}
use Rattle.world.specs.Ground.{Ground, IsGround, IsStructured, version_of}
use Rattle.world.specs.Views.{View, Has}
use Rattle.world.specs.Holders.{KnowsWord}
use Rattle.world.specs.areas.Asking.{KeepsAll, once_fenced}

-- the first segment begins behind the first words
pub front_far : (shape : Shape) → 32 ≤ first_segment shape
front_far shape = omega (arith, pow_pos (shape.depth + 1))

-- ---- known words
-- what is settled stays so at a fence
pub still_firm : (v : View) (i x : ℕ) → KnowsWord v i x → KnowsWord (once_fenced v) i x
still_firm v i x k = record { known = k.known; firm = λ y l. elim l [ inl d ↦ k.firm y (inl d) | inr f ↦ absurd f ] }

-- and what is not dirty is settled by it
pub fenced : (v : View) (i x : ℕ) → Has (i, x) v.known → ((y : ℕ) → Has (i, y) v.dirty → ⊥) → KnowsWord (once_fenced v) i x
fenced v i x known clean = record { known = known; firm = λ y l. elim l [ inl d ↦ clean y d | inr f ↦ absurd f ] }

-- ---- stores
-- a store to no first word but the root leaves the first words, and with a sound frame the structure is sound
pub structure_with : (site : Ground) (medium : Words) (i x : ℕ) → IsStructured site medium → (i < 32 → i ≡ root_word) → StoreKeeps site.shape medium i x → IsStructured site (with_word medium i x)
structure_with site medium i x is near keeps = record {
  fixed = λ j low no_root. replaced_other medium i x j (λ e. no_root (e ∙ near (subst (λ (z : ℕ). z < 32) e low))) ∙ is.fixed j low no_root;
  sound = keeps.goes_on.sound;
}

-- A STORE TO NO BUCKET that keeps the claims and the facts is harmless
pub kept_all : (site : Ground) → IsGround site → (words medium : Words) (ends : Fact → Type 0) (i x : ℕ) → IsStructured site medium → IsTable site.shape medium
    → (i < 32 → i ≡ root_word) → IsNoBucketWord site.shape i → StoreKeeps site.shape medium i x → KeepsFacts site.shape (version_of site) words medium i x
    → KeepsAll site ends words medium i x
kept_all site ground words medium ends i x structure table near apart keeps facts = record {
  structure = structure_with site medium i x structure near keeps;
  table = kept_table site.shape medium i x apart ground.shape structure.sound table keeps;
  facts = λ fact _. facts fact;
}
