-- A header leads to a hash where it is that of a normal segment, has a depth of at most 64, and its pattern is the hash's top bits.
use Rattle.std.proofs.Common.{◌≡◌, ℕ, ◌≤◌, true}
use Rattle.std.specs.Prelude.{◌==◌, nat_le}
use Rattle.std.proofs.lemmas.Bool.{eq-eqb, eqb-true, le-leb, leb-true, and_parts}
use Rattle.std.specs.Cmp.Derive.{both_true}
use Rattle.hash_word.specs.Hash.{top}
use Rattle.segment_head.specs.HeadWord.{state_in, depth_in, pattern_in, normal}
use Rattle.way.specs.Ways.{is_covering, is_leading}

pub record Leading (head hash : ℕ) : Type 0 where
  pub normal : state_in head ≡ normal
  pub low : depth_in head ≤ 64
  pub covers : top (depth_in head) hash ≡ pattern_in head

pub leading_is : (head hash : ℕ) → is_leading head hash ≡ true → Leading head hash
leading_is head hash leads =
    let parts = and_parts (state_in head == normal) (is_covering head hash) leads in
    let covering = and_parts (nat_le (depth_in head) 64) (top (depth_in head) hash == pattern_in head) parts.1 in
    record {
      normal = eqb-true (state_in head) normal parts.0;
      low = leb-true (depth_in head) 64 covering.0;
      covers = eqb-true (top (depth_in head) hash) (pattern_in head) covering.1;
    }

pub is_leading_by : (head hash : ℕ) → Leading head hash → is_leading head hash ≡ true
is_leading_by head hash leads =
    both_true (eq-eqb (state_in head) normal leads.normal)
    (both_true (le-leb (depth_in head) 64 leads.low)
    (eq-eqb (top (depth_in head) hash) (pattern_in head) leads.covers))
