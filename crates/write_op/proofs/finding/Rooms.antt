-- The slot that a new record takes is a free one of home or probing bucket, and where there is none both are full.
use Rattle.std.proofs.Common.{◌≡◌, ◌⊎◌, ℕ, None, Some, inl, inr, refl, sym, subst, slice_index}
use Rattle.std.proofs.lemmas.Option.{none-some}
use Rattle.bucket_meta.specs.Search.{lowest_free}
use Rattle.balance.specs.declared.choice.Choice.{Choice}
use Rattle.balance.specs.declared.choice.Choice.TheVariants as choice
use Rattle.balance.specs.Choices.{choice_of}
use Rattle.balance.proofs.Rooms.{has_room}
use Rattle.phase.specs.declared.role.Role.{Role}
use Rattle.phase.specs.declared.role.Role.TheVariants.{Home, Probing}
use Rattle.phase.specs.declared.kept.Buckets.{Buckets}
use Rattle.phase.specs.Buckets.{words_in}
use Rattle.write_op.specs.declared.step.Spot.{Spot}
use Rattle.write_op.specs.Search.{spot_or, room_by, room_in}
use Rattle.write_op.proofs.finding.Searching.{or_none, or_some}

module _ (buckets : Buckets) where
  abbrev home : ℕ
  home = slice_index buckets.home 1

  abbrev probing : ℕ
  probing = slice_index buckets.probing 1

  -- it is free, in one of the two
  pub record IsRoom (spot : Spot) : Type 0 where
    pub near : (spot.place ≡ Home) ⊎ (spot.place ≡ Probing)
    pub slot : lowest_free (slice_index (words_in buckets spot.place) 1) ≡ Some spot.slot

  room_at : (spot : Spot) (place : Role) → (place ≡ Home) ⊎ (place ≡ Probing) → spot.place ≡ place → lowest_free (slice_index (words_in buckets place) 1) ≡ Some spot.slot → IsRoom spot
  room_at spot place near same slot = record {
    near = subst (λ (p : Role). (p ≡ Home) ⊎ (p ≡ Probing)) (sym same) near;
    slot = subst (λ (p : Role). lowest_free (slice_index (words_in buckets p) 1) ≡ Some spot.slot) (sym same) slot;
  }

  room_of : (spot : Spot) (place : Role) → (place ≡ Home) ⊎ (place ≡ Probing)
      → spot_or place (lowest_free (slice_index (words_in buckets place) 1)) None ≡ Some spot → IsRoom spot
  room_of spot place near is = elim (or_some place (lowest_free (slice_index (words_in buckets place) 1)) None spot is) [
    | inl at ↦ room_at spot place near at.place at.slot
    | inr none ↦ absurd (none-some _ none)
  ]

  some_by : (c : Choice) (spot : Spot) → room_by c buckets ≡ Some spot → IsRoom spot
  some_by choice.Home spot is = room_of spot Home (inl refl) is
  some_by choice.Probe spot is = room_of spot Probing (inr refl) is
  some_by choice.Neither spot is = absurd (none-some _ is)

  pub room_some : (spot : Spot) → room_in buckets ≡ Some spot → IsRoom spot
  room_some spot is = some_by (choice_of home probing) spot is

  -- and where there is none
  none_by : (c : Choice) → choice_of home probing ≡ c → room_by c buckets ≡ None → (lowest_free home ≡ None) × (lowest_free probing ≡ None)
  none_by choice.Home e is = absurd ((has_room home probing).home e (or_none Home (lowest_free home) None is).0)
  none_by choice.Probe e is = absurd ((has_room home probing).probe e (or_none Probing (lowest_free probing) None is).0)
  none_by choice.Neither e is = (has_room home probing).neither e

  pub room_none : room_in buckets ≡ None → (lowest_free home ≡ None) × (lowest_free probing ≡ None)
  room_none is = none_by (choice_of home probing) refl is
