-- Words of the same cores have the same structure and the same slots in each bucket of each segment.
use Rattle.std.proofs.Common.{◌≡◌, ℕ, zero, suc, ◌+◌, ◌-◌, ◌*◌, ◌/◌, ◌%◌, ◌<◌, ◌≤◌, Bool, true, false, Option, None, Some, refl, ap, sym, ◌∙◌, arith, inl, inr}
use Rattle.std.specs.Prelude.{◌||◌, if◌then◌else◌}
use Rattle.std.proofs.lemmas.Bool.{lt-ltb, le-ltb, eq-eqb, ne_eqb}
use Rattle.trace.specs.Events.{Words}
use Rattle.bucket_meta.specs.Bucket.{record_slots}
use Rattle.image_layout.specs.Places.{Shape, first_segment, bucket_at, words_of, block, buckets}
use Rattle.segment_table.proofs.LowBits.{same_allocated, same_member, same_finger}
use Rattle.bucket_words.specs.Core.{core_in_bucket, group_of, core_of, core}
use Rattle.bucket_words.specs.Slots.{SameSlot}
use Rattle.segment_table.specs.Records.{key_hash}
use Rattle.bucket_words.specs.Owners.{IsStructure, owner_of, SameOwners}
use Rattle.bucket_words.specs.Hits.{Hit, find_by, find}
use Rattle.bucket_words.specs.Standing.{IsTable}
use Rattle.bucket_words.specs.TableChanges.{KeepsTable}
use Rattle.bucket_words.proofs.segments.Places.{owner_kept, owner_within}
use Rattle.bucket_words.proofs.segments.Finding.{from_same}
use Rattle.bucket_words.proofs.segments.changes.NoSlot.{keeps}

record_is_whole : (n x : ℕ) → 4 ≤ n → core_in_bucket n x ≡ x
record_is_whole zero x h = absurd (omega arith)
record_is_whole (suc zero) x h = absurd (omega arith)
record_is_whole (suc (suc zero)) x h = absurd (omega arith)
record_is_whole (suc (suc (suc zero))) x h = absurd (omega arith)
record_is_whole (suc (suc (suc (suc n)))) x h = refl

by_first : (a b c : Bool) (x y : ℕ) → a ≡ true → (if a || b || c then x else y) ≡ x
by_first a b c x y e = rw e refl

by_second : (a b c : Bool) (x y : ℕ) → b ≡ true → (if a || b || c then x else y) ≡ x
by_second true b c x y e = refl
by_second false b c x y e = rw e refl

by_none : (a b c : Bool) (x y : ℕ) → a ≡ false → b ≡ false → c ≡ false → (if a || b || c then x else y) ≡ y
by_none a b c x y e f g = rw (e, f, g) refl

in_header : (f s w : ℕ) → w < block → (f + 2144 * s + w - f) / 32 % 67 ≡ 0
in_header f s w below = omega arith

not_in_header : (f s b n : ℕ) → b < buckets → n < block → (f + 2144 * s + 32 + 32 * b + n - f) / 32 % 67 ≡ 0 → ⊥
not_in_header f s b n bucket inside e = omega arith

in_place : (f s b n : ℕ) → n < block → (f + 2144 * s + 32 + 32 * b + n - f) % 32 ≡ n
in_place f s b n inside = omega arith

before_end : (f g s b n : ℕ) → s < g → b < buckets → n < block → f + 2144 * s + 32 + 32 * b + n ≤ f + 2144 * g - 1
before_end f g s b n some bucket inside = omega arith

pub within_image : (shape : Shape) (s b n : ℕ) → s < shape.segments → b < buckets → n < block → bucket_at shape s b + n < words_of shape
within_image shape s b n seg bucket inside = omega (arith, seg, bucket, inside)

header_within : (f g s w i : ℕ) → s < g → w < block → i ≡ f + 2144 * s + w → i < f + 2144 * g
header_within f g s w i seg below e = omega arith

module _ (shape : Shape) where
  pub structure_within : (i : ℕ) → IsStructure shape i → i < words_of shape
  structure_within i is = elim is [
    | inl front ↦ omega (arith, front)
    | inr h ↦ header_within (first_segment shape) shape.segments h.0 h.1 i h.2 h.3 h.4
  ]

  pub core_structure : (i x : ℕ) → IsStructure shape i → core_of shape i x ≡ x
  core_structure i x is = elim is [
    | inl front ↦ by_first _ _ _ _ _ (lt-ltb i (first_segment shape) front)
    | inr h ↦ by_second _ _ _ _ _ (eq-eqb (group_of shape i) 0 (ap (group_of shape) h.4 ∙ in_header (first_segment shape) h.0 h.1 h.3))
  ]

  pub core_in : (s b n x : ℕ) → s < shape.segments → b < buckets → n < block → core_of shape (bucket_at shape s b + n) x ≡ core_in_bucket n x
  core_in s b n x seg bucket inside =
      by_none _ _ _ _ _
      (le-ltb (bucket_at shape s b + n) (first_segment shape) (omega arith))
      (ne_eqb (group_of shape (bucket_at shape s b + n)) 0 (not_in_header (first_segment shape) s b n bucket inside))
      (le-ltb (words_of shape - 1) (bucket_at shape s b + n) (before_end (first_segment shape) shape.segments s b n seg bucket inside))
      ∙ ap (λ p. core_in_bucket p x) (in_place (first_segment shape) s b n inside)

module _ (shape : Shape) (word other : Words) where
  -- the cores of one bucket
  module _ (s b : ℕ) (seg : s < shape.segments) (bucket : b < buckets) (same : (n : ℕ) → 1 ≤ n → n < block → core shape word (bucket_at shape s b + n) ≡ core shape other (bucket_at shape s b + n)) where
    in_bucket : (n : ℕ) → 1 ≤ n → n < block → core_in_bucket n (other (bucket_at shape s b + n)) ≡ core_in_bucket n (word (bucket_at shape s b + n))
    in_bucket n above inside = sym (core_in shape s b n _ seg bucket inside) ∙ sym (same n above inside) ∙ core_in shape s b n _ seg bucket inside

    record_word : (n i : ℕ) → 4 ≤ n → n < block → bucket_at shape s b + n ≡ i → other i ≡ word i
    record_word n i above inside place =
        sym (ap other place) ∙ sym (record_is_whole n _ above) ∙ in_bucket n (omega (arith, above)) inside ∙ record_is_whole n _ above ∙ ap word place

    pub slots_of_cores : (t : ℕ) → t < record_slots → SameSlot word other (bucket_at shape s b) t
    slots_of_cores t slot = record {
      taken = same_allocated t _ _ slot (in_bucket 1 (omega arith) (omega arith));
      membership = λ _. same_member t _ _ slot (in_bucket 1 (omega arith) (omega arith));
      key = λ _. record_word (4 + 2 * t) (bucket_at shape s b + 4 + 2 * t) (omega arith) (omega (arith, slot)) (omega arith);
      value = λ _. record_word (5 + 2 * t) (bucket_at shape s b + 5 + 2 * t) (omega arith) (omega (arith, slot)) (omega arith);
      fingerprint = λ _. same_finger t _ _ _ _ slot (in_bucket 2 (omega arith) (omega arith)) (in_bucket 3 (omega arith) (omega arith));
    }

    -- a record there stands in the other too
    pub hit_of_cores : (t k : ℕ) → Hit shape word s b t k → Hit shape other s b t k
    hit_of_cores t k h = let o = slots_of_cores t h.slot in record { segment = seg; bucket = bucket; slot = h.slot; taken = o.taken ∙ h.taken; key = o.key h.taken ∙ h.key }

  pub owners_of_cores : ((i : ℕ) → i < words_of shape → core shape word i ≡ core shape other i) → SameOwners shape word other
  owners_of_cores same = owner_kept shape word other
      (λ i is. sym (core_structure shape i (other i) is) ∙ sym (same i (structure_within shape i is)) ∙ core_structure shape i (word i) is)

  pub keeps_of_cores : IsTable shape word → ((i : ℕ) → i < words_of shape → core shape word i ≡ core shape other i)
      → KeepsTable shape word other
  keeps_of_cores table same = keeps shape word other table (owners_of_cores same)
      (λ q c t seg near l. slots_of_cores q c seg near (λ n _ inside. same (bucket_at shape q c + n) (within_image shape q c n seg near inside)) t l)

-- what a key has depends on the cores
pub find_of_cores : (shape : Shape) (word other : Words) → ((i : ℕ) → i < words_of shape → core shape word i ≡ core shape other i) → (k : ℕ)
    → find shape other k ≡ find shape word k
find_of_cores shape word other same k =
    let own = owners_of_cores shape word other same (key_hash shape k) in
    ap (λ o. find_by shape other o k) own ∙ for_owner (owner_of shape word (key_hash shape k)) refl
  where
    for_owner : (o : Option ℕ) → owner_of shape word (key_hash shape k) ≡ o → find_by shape other (owner_of shape word (key_hash shape k)) k ≡ find_by shape word (owner_of shape word (key_hash shape k)) k
    for_owner None own = ap (λ o. find_by shape other o k) own ∙ sym (ap (λ o. find_by shape word o k) own)
    for_owner (Some s) own = let within = owner_within shape word (key_hash shape k) s own in
        ap (λ o. find_by shape other o k) own
        ∙ from_same shape word other s k buckets (λ b near t l. slots_of_cores shape word other s b within near
        (λ n _ inside. same (bucket_at shape s b + n) (within_image shape s b n within near inside)) t l)
        ∙ sym (ap (λ o. find_by shape word o k) own)
