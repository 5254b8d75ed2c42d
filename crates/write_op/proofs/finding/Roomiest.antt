-- A new record comes to the lowest free slot of the bucket with fewer records, and home where both have as many.
use Rattle.std.proofs.Common.{◌≡◌, ◌⊎◌, ℕ, ◌<◌, ◌≤◌, Bool, true, false, Option, None, Some, inl, inr, refl, subst, slice_index}
use Rattle.std.specs.Prelude.{nat_lt, if◌then◌else◌}
use Rattle.std.proofs.lemmas.Bool.{ltb-true, ltb-false}
use Rattle.std.proofs.lemmas.Option.{none-some}
use Rattle.bucket_meta.specs.Bucket.{record_slots}
use Rattle.bucket_meta.specs.Search.{lowest_free}
use Rattle.balance.specs.declared.choice.Choice.TheVariants as choice
use Rattle.map_model.specs.declared.change.Effect.{Effect}
use Rattle.map_model.specs.declared.change.Effect.TheVariants.{Insert}
use Rattle.phase.specs.declared.role.Role.{Role}
use Rattle.phase.specs.declared.role.Role.TheVariants.{Home, Probing}
use Rattle.phase.specs.declared.make.Make.TheVariants.{Publish}
use Rattle.phase.specs.declared.kept.Buckets.{Buckets}
use Rattle.write_op.specs.declared.step.Spot.{Spot}
use Rattle.write_op.specs.declared.step.WriteStep.{WriteStep}
use Rattle.write_op.specs.declared.step.WriteStep.TheVariants.{Make}
use Rattle.write_op.specs.Search.{spot_or, room_by, room_in, found}
use Rattle.write_op.specs.Fits.{IsSpot, SuitsStep}
use Rattle.write_op.specs.Causes.{records_in, IsRoomiest, InsertsWhereFewer}
use Rattle.write_op.proofs.finding.Searching.{or_some}
use Rattle.write_op.proofs.finding.Rooms.{room_some}

-- the place of what is found in one bucket
placed : (place : Role) (slot : Option ℕ) (spot : Spot) → spot_or place slot None ≡ Some spot → spot.place ≡ place
placed place slot spot is = elim (or_some place slot None spot is) [ inl at ↦ at.place | inr none ↦ absurd (none-some _ none) ]

module _ (buckets : Buckets) (spot : Spot) where
  abbrev home : ℕ
  home = records_in buckets.home

  abbrev probing : ℕ
  probing = records_in buckets.probing

  -- by the two tests of the choice
  fewer_by : (b c : Bool) → nat_lt probing home ≡ b → room_by (if b then choice.Probe else if c then choice.Home else choice.Neither) buckets ≡ Some spot
      → ((spot.place ≡ Home) × (home ≤ probing)) ⊎ ((spot.place ≡ Probing) × (probing < home))
  fewer_by true c test is = inr (placed Probing (lowest_free (slice_index buckets.probing 1)) spot is, ltb-true probing home test)
  fewer_by false true test is = inl (placed Home (lowest_free (slice_index buckets.home 1)) spot is, ltb-false probing home test)
  fewer_by false false test is = absurd (none-some _ is)

  pub roomiest : room_in buckets ≡ Some spot → IsRoomiest buckets spot.place spot.slot
  roomiest is = record { fewer = fewer_by (nat_lt probing home) (nat_lt home record_slots) refl is; lowest = (room_some buckets spot is).slot }

pub inserts_where_fewer : InsertsWhereFewer
inserts_where_fewer site here call op v st next value e =
    let task = op.task in
    let seen = op.stage.seen in
    let suits : SuitsStep site task seen (Make Publish) v = subst (λ (z : WriteStep). SuitsStep site task seen z v) next st.view in
    let right : IsSpot site task seen (Insert value) (found seen task.change.key) = subst (λ (z : Effect). IsSpot site task seen z (found seen task.change.key)) e suits.chosen.spot in
    roomiest seen.buckets (record { place = seen.place; slot = seen.written.slot }) right.1
