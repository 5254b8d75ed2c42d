-- Where the words of a repair stand: the guard, the header and the link of its segment, the header of another slot, and the guard of free slots.
use Rattle.std.proofs.Common.{◌≡◌, ℕ, ◌+◌, ◌*◌, ◌<◌, ◌≤◌, inl, inr, sym, ap, ◌∙◌, subst, arith}
use Rattle.std.specs.Prelude.{nat_lt, if◌then◌else◌}
use Rattle.std.proofs.lemmas.Bool.{cases_lt, lt-ltb, le-ltb}
use Rattle.trace.specs.Events.{line_of}
use Rattle.image_layout.specs.Places.{Shape, root_word, first_segment, head_at, words_of}
use Rattle.image_layout.specs.Volatile.{allocation_guard, segment_guard, all_words_of}
use Rattle.way.specs.Ways.{head_word}
use Rattle.world.specs.Ground.{Ground}
use Rattle.world.specs.areas.Areas.{header_word, link_word}
use Rattle.repair_op.specs.declared.guarded.Guarded.{Guarded}
use Rattle.repair_op.specs.Guarded.{guard_of, link_of}

-- header words are apart, and apart from links
pub one_header : (shape : Shape) (s n : ℕ) → header_word shape s ≡ header_word shape n → s ≡ n
one_header shape s n same = by (first_segment shape) s n same
  where
    by : (f s n : ℕ) → f + 2144 * s + 1 ≡ f + 2144 * n + 1 → s ≡ n
    by f s n same = omega (arith, same)

pub header_no_link : (shape : Shape) (s n : ℕ) → header_word shape s ≡ link_word shape n → ⊥
header_no_link shape s n same = by (first_segment shape) s n same
  where
    by : (f s n : ℕ) → f + 2144 * s + 1 ≡ f + 2144 * n + 2 → ⊥
    by f s n same = omega (arith, same)

-- words of a header are words of the image, and so is its line
module _ (shape : Shape) (s : ℕ) (within : s < shape.segments) where
  slot_low : (f s n w : ℕ) → s < n → w < 2144 → f + 2144 * s + w < f + 2144 * n
  slot_low f s n w inside low = omega (arith, inside, low)

  pub header_low : header_word shape s < words_of shape
  header_low = slot_low (first_segment shape) s shape.segments 1 within (omega arith)

  pub link_low : link_word shape s < words_of shape
  link_low = slot_low (first_segment shape) s shape.segments 2 within (omega arith)

  eight_low : (i far end : ℕ) → far < end → i + 8 ≤ far → 8 * (line_of i) + 8 ≤ end
  eight_low i far end low near = omega (arith, low, near)

  pub header_line : 8 * line_of (header_word shape s) + 8 ≤ words_of shape
  header_line = eight_low (header_word shape s) (head_at shape s + 9) (words_of shape) (slot_low (first_segment shape) s shape.segments 9 within (omega arith)) (omega arith)

module _ (site : Ground) (g : Guarded) (shape_is : g.site.geometry ≡ site.shape) where
  pub head_is : (slot : ℕ) → slot < site.shape.segments → head_word g.site.geometry slot ≡ header_word site.shape slot
  head_is slot within =
      ap (λ (s : Shape). head_word s slot) shape_is
      ∙ ap (λ t. if t then header_word site.shape slot else root_word) (lt-ltb slot site.shape.segments within)

  pub slots_is : allocation_guard g.site.geometry ≡ allocation_guard site.shape
  slots_is = ap allocation_guard shape_is

  here_is : guard_of g ≡ (if nat_lt g.segment site.shape.segments then segment_guard site.shape g.segment else root_word)
  here_is = ap (λ (s : Shape). if nat_lt g.segment s.segments then segment_guard s g.segment else root_word) shape_is

  pub guard_is : g.segment < site.shape.segments → guard_of g ≡ segment_guard site.shape g.segment
  guard_is within = here_is ∙ ap (λ t. if t then segment_guard site.shape g.segment else root_word) (lt-ltb g.segment site.shape.segments within)

  pub link_is : g.segment < site.shape.segments → link_of g ≡ link_word site.shape g.segment
  link_is within =
      ap (λ (s : Shape). if nat_lt g.segment s.segments then link_word s g.segment else root_word) shape_is
      ∙ ap (λ t. if t then link_word site.shape g.segment else root_word) (lt-ltb g.segment site.shape.segments within)

  -- wherever its slot is, the word of the guard is one of the image or behind it
  guard_by : (n : ℕ) → (if nat_lt g.segment site.shape.segments then segment_guard site.shape g.segment else root_word) ≡ n → n < all_words_of site.shape
  guard_by n is = elim (cases_lt g.segment site.shape.segments) [
    | inl low ↦ (let at = sym (ap (λ t. if t then segment_guard site.shape g.segment else root_word) (lt-ltb g.segment site.shape.segments low)) ∙ is in
        subst (λ m. m < all_words_of site.shape) at (by (words_of site.shape) g.segment site.shape.segments low))
    | inr high ↦ (let at = sym (ap (λ t. if t then segment_guard site.shape g.segment else root_word) (le-ltb g.segment site.shape.segments high)) ∙ is in
        subst (λ m. m < all_words_of site.shape) at (far (first_segment site.shape) site.shape.segments (omega arith)))
  ]
    where
      by : (w s n : ℕ) → s < n → w + 4 + s < w + 4 + n
      by w s n low = omega (arith, low)

      far : (f n : ℕ) → 32 ≤ f → 8 < f + 2144 * n + 4 + n
      far f n low = omega (arith, low)

  pub guard_low : guard_of g < all_words_of site.shape
  guard_low = guard_by (guard_of g) (sym here_is)
