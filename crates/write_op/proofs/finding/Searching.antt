-- What a search of the loaded buckets says: where the key was found, and that it stands in none of them.
use Rattle.std.proofs.Common.{◌≡◌, ◌⊎◌, ℕ, Bool, true, false, Option, None, Some, List, inl, inr, refl, sym, ap, subst}
use Rattle.std.proofs.lemmas.Option.{none-some}
use Rattle.bucket_meta.specs.Search.{lowest_with}
use Rattle.phase.specs.declared.role.Role.{Role}
use Rattle.phase.specs.declared.role.Role.TheVariants.{Home, Probing, First, Second, Next, Previous}
use Rattle.phase.specs.Buckets.{words_in}
use Rattle.write_op.specs.declared.step.Spot.{Spot}
use Rattle.write_op.specs.declared.step.Seen.{Seen}
use Rattle.write_op.specs.Search.{spot_or, slot_in, found}
use Rattle.write_op.specs.Fits.{is_asked}

pub or_none : (place : Role) (a : Option ℕ) (rest : Option Spot) → spot_or place a rest ≡ None → (a ≡ None) × (rest ≡ None)
or_none place (Some slot) rest e = absurd (none-some _ (sym e))
or_none place None rest e = (refl, e)

-- the slot of a bucket
pub record IsIn (bucket : Role) (a : Option ℕ) (spot : Spot) : Type 0 where
  pub place : spot.place ≡ bucket
  pub slot : a ≡ Some spot.slot

pub or_some : (place : Role) (a : Option ℕ) (rest : Option Spot) (spot : Spot) → spot_or place a rest ≡ Some spot → IsIn place a spot ⊎ (rest ≡ Some spot)
or_some place (Some slot) rest spot e =
    let one : Some (record { place = place; slot = slot }) ≡ Some spot = e in
    let same : record { place = place; slot = slot } ≡ spot = cc in
    inl (record { place = ap (λ (s : Spot). s.place) (sym same); slot = ap (λ (s : Spot). Some s.slot) same })
or_some place None rest spot e = inr e

visited_slot : (visited : Bool) (words : List ℕ) (key slot : ℕ) → slot_in visited words key ≡ Some slot → (visited ≡ true) × (lowest_with words key ≡ Some slot)
visited_slot true words key slot e = (refl, e)
visited_slot false words key slot e = absurd (none-some _ e)

visited_none : (visited : Bool) (words : List ℕ) (key : ℕ) → slot_in visited words key ≡ None → visited ≡ true → lowest_with words key ≡ None
visited_none true words key e asked = e
visited_none false words key e asked = absurd (let a : false ≡ true = asked in cc)

module _ (seen : Seen) (key : ℕ) where
  abbrev in_second : Option Spot
  in_second = spot_or Second (slot_in seen.second seen.buckets.second key) None

  abbrev in_first : Option Spot
  in_first = spot_or First (slot_in seen.first seen.buckets.first key) in_second

  abbrev in_probing : Option Spot
  in_probing = spot_or Probing (slot_in true seen.buckets.probing key) in_first

  -- nowhere in a bucket that was asked
  pub found_none : found seen key ≡ None → (place : Role) → is_asked seen place ≡ true → lowest_with (words_in seen.buckets place) key ≡ None
  found_none e place asked =
      let a = or_none Home (slot_in true seen.buckets.home key) in_probing e in
      let b = or_none Probing (slot_in true seen.buckets.probing key) in_first a.1 in
      let c = or_none First (slot_in seen.first seen.buckets.first key) in_second b.1 in
      let d = or_none Second (slot_in seen.second seen.buckets.second key) None c.1 in
      by place asked a.0 b.0 c.0 d.0
    where
      by : (place : Role) → is_asked seen place ≡ true → lowest_with seen.buckets.home key ≡ None → lowest_with seen.buckets.probing key ≡ None
          → slot_in seen.first seen.buckets.first key ≡ None → slot_in seen.second seen.buckets.second key ≡ None → lowest_with (words_in seen.buckets place) key ≡ None
      by Home asked a b c d = a
      by Probing asked a b c d = b
      by First asked a b c d = visited_none seen.first seen.buckets.first key c asked
      by Second asked a b c d = visited_none seen.second seen.buckets.second key d asked
      by Next asked a b c d = absurd (let z : false ≡ true = asked in cc)
      by Previous asked a b c d = absurd (let z : false ≡ true = asked in cc)

  -- or in a spot of one that was
  pub record IsFound (spot : Spot) : Type 0 where
    pub asked : is_asked seen spot.place ≡ true
    pub slot : lowest_with (words_in seen.buckets spot.place) key ≡ Some spot.slot

  at_place : (spot : Spot) (place : Role) → spot.place ≡ place → is_asked seen place ≡ true → lowest_with (words_in seen.buckets place) key ≡ Some spot.slot → IsFound spot
  at_place spot place same asked slot = record {
    asked = subst (λ (p : Role). is_asked seen p ≡ true) (sym same) asked;
    slot = subst (λ (p : Role). lowest_with (words_in seen.buckets p) key ≡ Some spot.slot) (sym same) slot;
  }

  pub found_some : (spot : Spot) → found seen key ≡ Some spot → IsFound spot
  found_some spot e = elim (or_some Home (slot_in true seen.buckets.home key) in_probing spot e) [
    | inl a ↦ at_place spot Home a.place refl a.slot
    | inr e1 ↦ elim (or_some Probing (slot_in true seen.buckets.probing key) in_first spot e1) [
      | inl a ↦ at_place spot Probing a.place refl a.slot
      | inr e2 ↦ elim (or_some First (slot_in seen.first seen.buckets.first key) in_second spot e2) [
        | inl a ↦ (let s = visited_slot seen.first seen.buckets.first key spot.slot a.slot in at_place spot First a.place s.0 s.1)
        | inr e3 ↦ elim (or_some Second (slot_in seen.second seen.buckets.second key) None spot e3) [
          | inl a ↦ (let s = visited_slot seen.second seen.buckets.second key spot.slot a.slot in at_place spot Second a.place s.0 s.1)
          | inr none ↦ absurd (none-some _ none)
        ]
      ]
    ]
  ]
