-- A header is stored, flushed and fenced: what it is, and what is loose of it.
use Rattle.std.proofs.Common.{◌≡◌, ◌≢◌, ℕ, ◌+◌, ◌*◌, ◌^◌, ◌<◌, ◌≤◌, Bool, true, false, cond, eqb, List, [], ◌∷◌, inl, inr, refl, ap, ◌∙◌, subst, arith}
use Rattle.std.specs.Prelude.{not, nat_le, nat_lt}
use Rattle.std.proofs.lemmas.Bool.{cases_Bool, eqb-false, and_parts, leb-true, ltb-true}
use Rattle.trace.specs.Events.{line_of}
use Rattle.segment_head.specs.HeadWord.{version_in, depth_in, pattern_in}
use Rattle.segment_head.proofs.Headers.{header_version, header_state, header_depth, header_pattern, header_below}
use Rattle.image_layout.specs.Places.{Shape, first_segment, head_at}
use Rattle.frame_facts.specs.DeadSlots.{IsInSlot}
use Rattle.world.specs.Ground.{Ground}
use Rattle.world.specs.Views.{View, Has}
use Rattle.world.specs.Kinds.{off_line, loosened}
use Rattle.world.specs.areas.Areas.{header_word, link_word}
use Rattle.world.specs.areas.Rows.{HasNoSides}
use Rattle.world.specs.areas.Kinds.{is_in_slot, out_of_slot, settles}
use Rattle.world.specs.areas.Asking.{MayAt}
use Rattle.world.specs.areas.Splitting.{IsHeader}
use Rattle.world.proofs.basics.Seats.{loosened_has}
use Rattle.world.proofs.fitting.Filtered.{has_filtered}
use Rattle.phase.proofs.locks.Giving.{nothing_left}
use Rattle.rounds.specs.Stands.{IsSettled}
use Rattle.repair_op.specs.Steps.{with_state}
use Rattle.repair_op.specs.Stands.{HasStoredAlone}

-- ---- a header with another state
module _ (head state : ℕ) (fits : head < 2 ^ 64) (low : state < 2 ^ 8) where
  pattern_low : pattern_in head < 2 ^ 32
  pattern_low = omega (arith, fits)

  pub state_header : IsHeader (with_state head state) state (depth_in head) (pattern_in head) (version_in head)
  state_header = record {
    state_is = header_state (version_in head) state (depth_in head) (pattern_in head) (omega arith) low (omega arith);
    depth_is = header_depth (version_in head) state (depth_in head) (pattern_in head) (omega arith) low (omega arith);
    pattern_is = header_pattern (version_in head) state (depth_in head) (pattern_in head) (omega arith) low (omega arith);
    version_is = header_version (version_in head) state (depth_in head) (pattern_in head) (omega arith) low (omega arith);
  }

  pub state_small : with_state head state < 2 ^ 64
  state_small = header_below (version_in head) state (depth_in head) (pattern_in head) (omega arith) low (omega arith) pattern_low

-- ---- words of other slots
-- what is known of words that do not lie in a slot stays known
out_test : (shape : Shape) (s n : ℕ) → (IsInSlot shape s n → ⊥) → (t : Bool) → is_in_slot shape s n ≡ t → not t ≡ true
out_test shape s n out true is =
    let parts = and_parts (nat_le (head_at shape s) n) (nat_lt n (head_at shape s + 2144)) is in
    absurd (out (record { from = leb-true (head_at shape s) n parts.0; to = ltb-true n (head_at shape s + 2144) parts.1 }))
out_test shape s n out false is = refl

pub stays_out : (shape : Shape) (s n y : ℕ) (ps : List (ℕ × ℕ)) → (IsInSlot shape s n → ⊥) → Has (n, y) ps → Has (n, y) (out_of_slot shape s ps)
stays_out shape s n y ps out has =
    has_filtered (λ (p : ℕ × ℕ). not (is_in_slot shape s p.0)) ps (n, y) has (out_test shape s n out (is_in_slot shape s n) refl)

-- header and link of a slot lie in no other
pub header_out : (shape : Shape) (s n : ℕ) → n ≢ s → IsInSlot shape n (header_word shape s) → ⊥
header_out shape s n apart inside = apart (by (first_segment shape) s n inside.from inside.to)
  where
    by : (f s n : ℕ) → f + 2144 * n ≤ f + 2144 * s + 1 → f + 2144 * s + 1 < f + 2144 * n + 2144 → n ≡ s
    by f s n from to = omega (arith, from, to)

pub link_out : (shape : Shape) (s n : ℕ) → n ≢ s → IsInSlot shape n (link_word shape s) → ⊥
link_out shape s n apart inside = apart (by (first_segment shape) s n inside.from inside.to)
  where
    by : (f s n : ℕ) → f + 2144 * n ≤ f + 2144 * s + 2 → f + 2144 * s + 2 < f + 2144 * n + 2144 → n ≡ s
    by f s n from to = omega (arith, from, to)

-- ---- what is loose
-- behind the store of a word
pub stored_loose : (shape : Shape) (i old x : ℕ) (v u : View) → IsSettled v → u.dirty ≡ loosened shape i old x v.dirty → u.flushed ≡ v.flushed → HasStoredAlone i u
stored_loose shape i old x v u settled dirty flushed = record {
  flushed = flushed ∙ settled.flushed;
  loose = λ p has. elim (loosened_has shape i old x v.dirty p (subst (λ (l : List (ℕ × ℕ)). Has p l) dirty has)) [
    | inl same ↦ ap (λ (q : ℕ × ℕ). q.0) same
    | inr was ↦ absurd (subst (λ (l : List (ℕ × ℕ)). Has p l) settled.dirty was)
  ];
}

-- behind the flush of its line
off_line_none : (line i : ℕ) (d : List (ℕ × ℕ)) (p : ℕ × ℕ) → line_of i ≡ line → ((q : ℕ × ℕ) → Has q d → q.0 ≡ i) → Has p (off_line line d) → ⊥
off_line_none line i [] p is only has = has
off_line_none line i (q ∷ d) p is only has = elim (cases_Bool (eqb (line_of q.0) line)) [
  | inl on ↦ off_line_none line i d p is (λ r h. only r (inr h)) (subst (λ b. Has p (cond b (off_line line d) (q ∷ off_line line d))) on has)
  | inr off ↦ absurd (eqb-false (line_of q.0) line off (ap line_of (only q (inl refl)) ∙ is))
]

pub flushed_none : (line i : ℕ) (v : View) → line_of i ≡ line → HasStoredAlone i v → off_line line v.dirty ≡ []
flushed_none line i v is stored = nothing_left (off_line line v.dirty) (λ p has. off_line_none line i v.dirty p is stored.loose has)

-- ---- the fence, where no side is held
pub fence_may : (site : Ground) (v : View) → HasNoSides v.areas → MayAt site (settles []) v
fence_may site v sides = ((λ n side. absurd (sides n side)), (λ fact none. absurd none))
