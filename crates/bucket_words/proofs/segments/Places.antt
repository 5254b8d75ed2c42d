-- Words of the buckets of all segments are apart, from one another and from the structure; and the owner of a hash depends on the structure.
use Rattle.std.proofs.Common.{◌≡◌, ℕ, ◌+◌, ◌*◌, ◌<◌, Some, refl, ap, sym, subst, ◌∙◌, arith, inl, inr}
use Rattle.std.specs.Option.{unwrap_or}
use Rattle.hash_word.specs.Hash.{home_of}
use Rattle.trace.specs.Events.{Words, with_word}
use Rattle.trace.proofs.Replaced.{replaced_same, replaced_other}
use Rattle.image_layout.specs.Places.{Shape, first_segment, head_at, bucket_at, block, buckets}
use Rattle.segment_table.specs.Segments.{frame_of}
use Rattle.segment_table.specs.Records.{key_hash}
use Rattle.segment_table.proofs.frames.Owner.{found_owns, same_owner}
use Rattle.bucket_words.specs.Owners.{IsStructure, HasStructure, owner_of, home_at, SameOwners}

-- THE NUMBERS of words
one_segment : (f s q b c m n : ℕ) → b < buckets → c < buckets → m < block → n < block
    → f + 2144 * q + 32 + 32 * c + n ≡ f + 2144 * s + 32 + 32 * b + m → q ≡ s
one_segment f s q b c m n lb lc lm ln e = omega arith

one_bucket : (f s q b c m n : ℕ) → b < buckets → c < buckets → m < block → n < block
    → f + 2144 * q + 32 + 32 * c + n ≡ f + 2144 * s + 32 + 32 * b + m → c ≡ b
one_bucket f s q b c m n lb lc lm ln e = omega arith

one_word : (f s q b c m n : ℕ) → b < buckets → c < buckets → m < block → n < block
    → f + 2144 * q + 32 + 32 * c + n ≡ f + 2144 * s + 32 + 32 * b + m → n ≡ m
one_word f s q b c m n lb lc lm ln e = omega arith

no_header : (f s q b w n : ℕ) → b < buckets → n < block → w < block → f + 2144 * q + w ≡ f + 2144 * s + 32 + 32 * b + n → ⊥
no_header f s q b w n lb ln lw e = omega arith

no_front : (f s b n i : ℕ) → i < f → i ≡ f + 2144 * s + 32 + 32 * b + n → ⊥
no_front f s b n i below e = omega arith

-- no word of a bucket is one of the structure
pub not_structure : (shape : Shape) (s b n i : ℕ) → b < buckets → n < block → i ≡ bucket_at shape s b + n → IsStructure shape i → ⊥
not_structure shape s b n i bucket inside place is = elim is [
  | inl front ↦ no_front (first_segment shape) s b n i front place
  | inr h ↦ no_header (first_segment shape) s h.0 b h.1 n bucket inside h.3 (sym h.4 ∙ place)
]

-- THE OWNER of a hash is that of the same structure, and one of the slots
pub owner_kept : (shape : Shape) (word other : Words) → HasStructure shape word other → SameOwners shape word other
owner_kept shape word other same h =
    same_owner (frame_of shape word) (frame_of shape other) h refl (λ s slot. same (head_at shape s + 1) (inr (s, 1, slot, omega arith, refl)))

pub owner_within : (shape : Shape) (word : Words) (h s : ℕ) → owner_of shape word h ≡ Some s → s < shape.segments
owner_within shape word h s own = (found_owns (frame_of shape word) h s own).own.slot

-- so the home bucket of a key begins in its owner, and where owners stay, homes do
pub home_in_owner : (shape : Shape) (word : Words) (s k : ℕ) → owner_of shape word (key_hash shape k) ≡ Some s
    → home_at shape word k ≡ bucket_at shape s (home_of (key_hash shape k))
home_in_owner shape word s k own = ap (λ o. bucket_at shape (unwrap_or o 0) (home_of (key_hash shape k))) own

pub home_kept : (shape : Shape) (word other : Words) → SameOwners shape word other → (k : ℕ) → home_at shape other k ≡ home_at shape word k
home_kept shape word other same k = ap (λ o. bucket_at shape (unwrap_or o 0) (home_of (key_hash shape k))) (same (key_hash shape k))

-- A WORD OF A BUCKET IS REPLACED
module _ (shape : Shape) (word : Words) (s b m x i : ℕ) (bucket : b < buckets) (inside : m < block) (place : i ≡ bucket_at shape s b + m) where
  abbrev other : Words
  other = with_word word i x

  pub structure_kept : HasStructure shape word other
  structure_kept j is = replaced_other word i x j (λ e. not_structure shape s b m i bucket inside place (subst (IsStructure shape) e is))

  pub owners_kept : SameOwners shape word other
  owners_kept = owner_kept shape word other structure_kept

  pub other_word : (q c n j : ℕ) → c < buckets → n < block → j ≡ bucket_at shape q c + n → (q ≡ s → c ≡ b → n ≡ m → ⊥) → other j ≡ word j
  other_word q c n j lc ln at apart =
      replaced_other word i x j
      (λ e.
      let p : bucket_at shape q c + n ≡ bucket_at shape s b + m = sym at ∙ e ∙ place in
      let f = first_segment shape in
      apart (one_segment f s q b c m n bucket lc inside ln p) (one_bucket f s q b c m n bucket lc inside ln p) (one_word f s q b c m n bucket lc inside ln p))

  pub this_word : (j : ℕ) → j ≡ bucket_at shape s b + m → other j ≡ x
  this_word j at = ap other (at ∙ sym place) ∙ replaced_same word i x
