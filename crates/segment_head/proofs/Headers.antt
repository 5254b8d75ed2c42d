-- The fields of a header word that is put together are what it is put together of, each where it fits its field; and what the test of a live one tells.
use Rattle.std.proofs.Common.{◌≡◌, ℕ, ◌^◌, ◌<◌, inl, inr, true, arith}
use Rattle.std.specs.Prelude.{◌==◌}
use Rattle.std.proofs.lemmas.Bool.{eq-eqb, eqb-true, or_cases, or_left, or_right}
use Rattle.segment_head.specs.HeadWord.{version_in, state_in, depth_in, pattern_in, normal, splitting, is_live, HasLiveState, header_of}
use Rattle.segment_head.specs.Written.{spare_in}

module _ (version state depth pattern : ℕ) (small : version < 2 ^ 8) (low : state < 2 ^ 8) (shallow : depth < 2 ^ 8) where
  pub header_version : version_in (header_of version state depth pattern) ≡ version
  header_version = omega (arith, small, low, shallow)

  pub header_state : state_in (header_of version state depth pattern) ≡ state
  header_state = omega (arith, small, low, shallow)

  pub header_depth : depth_in (header_of version state depth pattern) ≡ depth
  header_depth = omega (arith, small, low, shallow)

  pub header_pattern : pattern_in (header_of version state depth pattern) ≡ pattern
  header_pattern = omega (arith, small, low, shallow)

  -- no other bit is set
  pub header_spare : spare_in (header_of version state depth pattern) ≡ 0
  header_spare = omega (arith, small, low, shallow)

  pub header_below : pattern < 2 ^ 32 → header_of version state depth pattern < 2 ^ 64
  header_below fits = omega (arith, small, low, shallow, fits)

-- ---- the test of a live header
pub live_test : (head : ℕ) → HasLiveState head → is_live head ≡ true
live_test head (inl is) = or_left (state_in head == normal) (state_in head == splitting) (eq-eqb (state_in head) normal is)
live_test head (inr is) = or_right (state_in head == normal) (state_in head == splitting) (eq-eqb (state_in head) splitting is)

pub live_by_test : (head : ℕ) → is_live head ≡ true → HasLiveState head
live_by_test head live = elim (or_cases (state_in head == normal) (state_in head == splitting) live) [
  | inl is ↦ inl (eqb-true (state_in head) normal is)
  | inr is ↦ inr (eqb-true (state_in head) splitting is)
]
