-- What a view knows is so in both, the newest words and a medium beside them; and what a store behind the first words leaves.
use Rattle.std.proofs.Common.{◌≡◌, ℕ, ◌+◌, ◌≤◌, ◌∙◌, arith}
use Rattle.trace.specs.Events.{Words, with_word}
use Rattle.trace.proofs.Replaced.{replaced_other}
use Rattle.image_layout.specs.Places.{Shape, block, head_at}
use Rattle.frame_facts.specs.Stores.{StoreKeeps}
use Rattle.frame_facts.specs.Owners.{IsStructure}
use Rattle.frame_facts.specs.TableChanges.{KeepsTable}
use Rattle.frame_facts.specs.Keeping.{AreSound}
use Rattle.frame_facts.proofs.Records.{structure_apart, kept_table}
use Rattle.world.specs.Ground.{Ground, IsGround, IsStructured}
use Rattle.world.specs.Views.{View}
use Rattle.world.specs.Holders.{KnowsWord}
use Rattle.world.specs.areas.Asking.{MayBeNewest, MayStandBeside}

-- no word of a slot is one of the first
pub slot_far : (shape : Shape) (s w : ℕ) → block ≤ head_at shape s + w
slot_far shape s w = omega arith

-- a store behind the first words leaves a sound structure where it keeps the claims
pub structure_stays : (site : Ground) (medium : Words) (i x : ℕ) → block ≤ i → IsStructured site medium → StoreKeeps site.shape medium i x → IsStructured site (with_word medium i x)
structure_stays site medium i x far is keeps = record {
  fixed = λ n low apart. replaced_other medium i x n (λ e. omega (arith, e, low, far)) ∙ is.fixed n low apart;
  sound = keeps.goes_on.sound;
}

module _ (site : Ground) (ground : IsGround site) (v : View) (words medium : Words) (new : MayBeNewest site v words) (side : MayStandBeside site v words medium) where
  -- both have sound frames
  pub both_sound : AreSound site.shape words medium
  both_sound = record { shape_fits = ground.shape; newest = new.structure.sound; there = side.structure.sound }

  -- the medium has a word that the view knows
  pub known_there : (i x : ℕ) → KnowsWord v i x → medium i ≡ x
  known_there i x k = side.agrees i x k.known k.firm

  -- a store to a word of the structure that keeps the claims keeps the table
  pub table_stays : (i x : ℕ) → IsStructure site.shape i → StoreKeeps site.shape medium i x → KeepsTable site.shape medium (with_word medium i x)
  table_stays i x is keeps = kept_table site.shape medium i x (structure_apart site.shape i is) ground.shape side.structure.sound side.table keeps
