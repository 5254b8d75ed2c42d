-- The events of the rounds reply nothing, make no change and cut no power.
use Rattle.std.proofs.Common.{◌≡◌, ◌≢◌, ℕ, Option, Some, List, refl}
use Rattle.op_core.specs.declared.want.Want.{Want}
use Rattle.op_core.specs.declared.want.Want.TheVariants.{Store, Flush, Fence}
use Rattle.image_layout.specs.Places.{Shape}
use Rattle.world.specs.Facts.{Fact}
use Rattle.world.specs.Views.{View}
use Rattle.world.specs.Kinds.{cuts_power}
use Rattle.world.specs.StepKinds.{StepKind, of_call, view_by}
use Rattle.world.specs.StepLaws.{IsPublishingStep}
use Rattle.rounds.specs.Stands.{kind_of}

-- no change is made
pub round_makes : (facts : List Fact) (want : Option Want) → IsPublishingStep (kind_of facts want) → ⊥
round_makes facts (Some (Store i x)) p = p
round_makes facts (Some (Flush line)) p = p
round_makes facts (Some Fence) p = p
round_makes facts other p = p

-- what is replied and seen is the same, and no change is made
pub record IsStill (shape : Shape) (n : ℕ) (v : View) (kind : StepKind) : Type 0 where
  pub own : (view_by shape kind n v).own ≡ v.own
  pub seen : (view_by shape kind n v).seen ≡ v.seen
  pub none : IsPublishingStep kind → ⊥

module _ (shape : Shape) (n : ℕ) (v : View) (facts : List Fact) where
  round_own : (want : Option Want) → (view_by shape (kind_of facts want) n v).own ≡ v.own
  round_own (Some (Store i x)) = refl
  round_own (Some (Flush line)) = refl
  round_own (Some Fence) = refl
  round_own other = refl

  round_seen : (want : Option Want) → (view_by shape (kind_of facts want) n v).seen ≡ v.seen
  round_seen (Some (Store i x)) = refl
  round_seen (Some (Flush line)) = refl
  round_seen (Some Fence) = refl
  round_seen other = refl

  pub round_still : (want : Option Want) → IsStill shape n v (kind_of facts want)
  round_still want = record { own = round_own want; seen = round_seen want; none = round_makes facts want }

pub round_power : (facts : List Fact) (want : Option Want) → kind_of facts want ≢ of_call cuts_power
round_power facts (Some (Store i x)) same = absurd (cc)
round_power facts (Some (Flush line)) same = absurd (cc)
round_power facts (Some Fence) same = absurd (cc)
round_power facts other same = absurd (cc)
