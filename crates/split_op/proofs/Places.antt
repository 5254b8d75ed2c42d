-- Where the words of the slot of a side stand, and that they are none of the segment.
use Rattle.std.proofs.Common.{◌≡◌, ℕ, ◌+◌, ◌-◌, ◌*◌, ◌/◌, ◌%◌, ◌<◌, ◌≤◌, ◌⊎◌, Bool, List, slice_index, inl, inr, sym, ap, ◌∙◌, subst, arith}
use Rattle.std.specs.Prelude.{nat_lt, ◌||◌, ◌&&◌, not, ◌==◌, min, if◌then◌else◌}
use Rattle.std.proofs.lemmas.Bool.{cases_lt, cases_Bool, lt-ltb, le-ltb, eqb-true}
use Rattle.bucket_meta.specs.Bucket.{without_lock}
use Rattle.image_layout.specs.Places.{Shape, root_word, head_at, bucket_at, bucket_behind, buckets, segment_words, most_segments}
use Rattle.frame_facts.specs.DeadSlots.{IsInSlot}
use Rattle.world.proofs.fitting.OneHolder.{one_slot}
use Rattle.way.specs.Ways.{slot_word}
use Rattle.split_op.specs.Batches.{empty_value, first_of, after_empty}

pub slot_is : (geometry shape : Shape) → geometry ≡ shape → (n number : ℕ) → n < shape.segments → slot_word geometry n number ≡ head_at shape n + number
slot_is geometry shape g n number low =
    ap (λ (z : Shape). slot_word z n number) g ∙ ap (λ (b : Bool). if b then head_at shape n + number else root_word) (lt-ltb n shape.segments low)

-- the slots of an image are those up to the last one in which a free one is looked for
pub all_slots : (n slot : ℕ) → n ≤ most_segments → min n most_segments - 1 ≤ slot → n ≤ slot + 1
all_slots n slot few last = omega (arith, few, last)

-- a word of a slot, by its number
pub in_slot_at : (shape : Shape) (n p : ℕ) → p < segment_words → IsInSlot shape n (head_at shape n + p)
in_slot_at shape n p low = record { from = omega arith; to = by (head_at shape n) p low }
  where
    by : (f p : ℕ) → p < 2144 → f + p < f + 2144
    by f p low = omega (arith, low)

-- it is none of another slot
pub slot_apart : (shape : Shape) (s n i p : ℕ) → (n ≡ s → ⊥) → IsInSlot shape s i → p < segment_words → i ≡ head_at shape n + p → ⊥
slot_apart shape s n i p apart inside low e = apart (sym (one_slot shape s n i inside (subst (IsInSlot shape n) (sym e) (in_slot_at shape n p low))))

-- words of other numbers are others
pub number_apart : (shape : Shape) (n p q : ℕ) → (p ≡ q → ⊥) → head_at shape n + p ≡ head_at shape n + q → ⊥
number_apart shape n p q apart e = apart (by (head_at shape n) p q e)
  where
    by : (f p q : ℕ) → f + p ≡ f + q → p ≡ q
    by f p q e = omega (arith, e)

-- word m of bucket b, by its number
pub bucket_number : (shape : Shape) (n b m : ℕ) → bucket_at shape n b + m ≡ head_at shape n + (32 + 32 * b + m)
bucket_number shape n b m = by (head_at shape n) b m
  where
    by : (f b m : ℕ) → f + 32 + 32 * b + m ≡ f + (32 + 32 * b + m)
    by f b m = omega arith

pub lock_number : (shape : Shape) (n b : ℕ) → bucket_at shape n b ≡ head_at shape n + (32 + 32 * b)
lock_number shape n b = by (head_at shape n) b
  where
    by : (f b : ℕ) → f + 32 + 32 * b ≡ f + (32 + 32 * b)
    by f b = omega arith

-- a word of a bucket is neither header nor link
pub bucket_no_head : (shape : Shape) (s b m p : ℕ) → p < 32 → bucket_at shape s b + m ≡ head_at shape s + p → ⊥
bucket_no_head shape s b m p low e = by (head_at shape s) b m p low e
  where
    by : (f b m p : ℕ) → p < 32 → f + 32 + 32 * b + m ≡ f + p → ⊥
    by f b m p low e = omega (arith, low, e)

-- ---- what words are emptied to
pub other_value : (locks : List ℕ) (p : ℕ) → (p < 32) ⊎ (0 < p % 32) → empty_value locks p ≡ 0
other_value locks p (inl low) = ap (λ (b : Bool). if b || nat_lt 0 (p % 32) then 0 else without_lock (slice_index locks (p / 32 - 1))) (lt-ltb p 32 low)
other_value locks p (inr some) = elim (cases_Bool (nat_lt p 32)) [
  | inl is ↦ ap (λ (b : Bool). if b || nat_lt 0 (p % 32) then 0 else without_lock (slice_index locks (p / 32 - 1))) is
  | inr is ↦ ap (λ (b : Bool). if b || nat_lt 0 (p % 32) then 0 else without_lock (slice_index locks (p / 32 - 1))) is
      ∙ ap (λ (b : Bool). if b then 0 else without_lock (slice_index locks (p / 32 - 1))) (lt-ltb 0 (p % 32) some)
]

pub lock_value : (locks : List ℕ) (b : ℕ) → empty_value locks (32 + 32 * b) ≡ without_lock (slice_index locks b)
lock_value locks b =
    let p : ℕ = 32 + 32 * b in
    ap (λ (t : Bool). if t || nat_lt 0 (p % 32) then 0 else without_lock (slice_index locks (p / 32 - 1))) (le-ltb p 32 (omega arith))
    ∙ ap (λ (t : Bool). if t then 0 else without_lock (slice_index locks (p / 32 - 1))) (le-ltb 0 (p % 32) (omega arith))
    ∙ ap (λ (n : ℕ). without_lock (slice_index locks n)) (let same : p / 32 - 1 ≡ b = omega arith in same)

pub even_value : (x : ℕ) → x % 2 ≡ 0 → without_lock x ≡ x
even_value x even = omega (arith, even)

-- ---- which word is emptied behind one
-- a word of the slot that is emptied
abbrev pub IsFirst : ℕ → Type 0
IsFirst p = (p ≡ 2) ⊎ ((32 ≤ p) × (p < segment_words) × (p % 32 < 4))

module _ (locks : List ℕ) (k : ℕ) where
  -- behind the link and behind the metadata of a bucket it is the first one of the next bucket
  first_cases : (b : ℕ) → ((b < 66) × (slice_index locks b % 2 ≡ 0) × (first_of locks b ≡ 32 + 32 * b + 1)) ⊎ ((b < 66) × (first_of locks b ≡ 32 + 32 * b)) ⊎ ((66 ≤ b) × (first_of locks b ≡ segment_words))
  first_cases b = elim (cases_lt b buckets) [
    | inl low ↦ elim (cases_Bool (slice_index locks b % 2 == 0)) [
      | inl even ↦ inl (low, eqb-true (slice_index locks b % 2) 0 even, near low ∙ ap (λ (t : Bool). if t then 32 + 32 * b + 1 else 32 + 32 * b) even)
      | inr odd ↦ inr (inl (low, near low ∙ ap (λ (t : Bool). if t then 32 + 32 * b + 1 else 32 + 32 * b) odd))
    ]
    | inr high ↦ inr (inr (high, ap (λ (t : Bool). if t then (if slice_index locks b % 2 == 0 then 32 + 32 * b + 1 else 32 + 32 * b) else segment_words) (le-ltb b buckets high)))
  ]
    where
      near : b < 66 → first_of locks b ≡ (if slice_index locks b % 2 == 0 then 32 + 32 * b + 1 else 32 + 32 * b)
      near low = ap (λ (t : Bool). if t then (if slice_index locks b % 2 == 0 then 32 + 32 * b + 1 else 32 + 32 * b) else segment_words) (lt-ltb b buckets low)

  after_cases : IsFirst k → ((32 ≤ k) × (k % 32 < 3) × (after_empty locks k ≡ k + 1)) ⊎ (((k ≡ 2) ⊎ ((32 ≤ k) × (k % 32 ≡ 3))) × (after_empty locks k ≡ first_of locks (bucket_behind k)))
  after_cases (inl two) = inr (inl two, ap (λ (t : Bool). if not t && nat_lt (k % 32) 3 then k + 1 else first_of locks (bucket_behind k)) (lt-ltb k 32 (omega (arith, two))))
  after_cases (inr first) =
      let from = first.0 in
      let small = first.2 in
      let high : after_empty locks k ≡ (if nat_lt (k % 32) 3 then k + 1 else first_of locks (bucket_behind k)) =
      ap (λ (t : Bool). if not t && nat_lt (k % 32) 3 then k + 1 else first_of locks (bucket_behind k)) (le-ltb k 32 from) in
      elim (cases_lt (k % 32) 3) [
        | inl low ↦ inl (from, low, high ∙ ap (λ (t : Bool). if t then k + 1 else first_of locks (bucket_behind k)) (lt-ltb (k % 32) 3 low))
        | inr last ↦ inr (inr (from, omega (arith, small, last)), high ∙ ap (λ (t : Bool). if t then k + 1 else first_of locks (bucket_behind k)) (le-ltb (k % 32) 3 last))
      ]

  -- it is emptied too, or all are
  pub after_first : k < segment_words → IsFirst k → IsFirst (after_empty locks k) ⊎ (segment_words ≤ after_empty locks k)
  after_first low is = elim (after_cases is) [
    | inl one ↦ (let from = one.0 in let small = one.1 in let next = one.2 in inl (inr (omega (arith, from, next), omega (arith, low, small, next), omega (arith, small, next))))
    | inr more ↦ (let next = more.1 in elim (first_cases (bucket_behind k)) [
      | inl even ↦ (let near = even.0 in let at = even.2 in inl (inr (omega (arith, next, at), omega (arith, next, at, near), omega (arith, next, at))))
      | inr (inl odd) ↦ (let near = odd.0 in let at = odd.1 in inl (inr (omega (arith, next, at), omega (arith, next, at, near), omega (arith, next, at))))
      | inr (inr none) ↦ (let at = none.1 in inr (omega (arith, next, at)))
    ])
  ]

  -- what is passed over is a free lock word
  pub passed_over : k < segment_words → IsFirst k → (p : ℕ) → IsFirst p → k < p → p < after_empty locks k → (b : ℕ) × (b < buckets) × (p ≡ 32 + 32 * b) × (slice_index locks b % 2 ≡ 0)
  passed_over low is p first from to = elim (after_cases is) [
    | inl one ↦ absurd (let next = one.2 in omega (arith, next, from, to))
    | inr more ↦ (let next = more.1 in elim (first_cases (bucket_behind k)) [
      | inl even ↦ (let near = even.0 in let at = even.2 in (bucket_behind k, near, at_lock more.0 first (omega (arith, next, at, to)), even.1))
      | inr (inl odd) ↦ absurd (let at = odd.1 in no_lock more.0 first (omega (arith, next, at, to)))
      | inr (inr none) ↦ absurd (let high = none.0 in last_none more.0 first high)
    ])
  ]
    where
      at_lock : (k ≡ 2) ⊎ ((32 ≤ k) × (k % 32 ≡ 3)) → IsFirst p → p < 32 * bucket_behind k + 33 → p ≡ 32 + 32 * bucket_behind k
      at_lock (inl two) (inl small) high = omega (arith, two, small, from)
      at_lock (inl two) (inr first) high = let start = first.0 in omega (arith, two, start, high)
      at_lock (inr last) (inl small) high = let start = last.0 in omega (arith, small, from, start)
      at_lock (inr last) (inr first) high = let three = last.1 in let four = first.2 in omega (arith, three, four, from, high)

      no_lock : (k ≡ 2) ⊎ ((32 ≤ k) × (k % 32 ≡ 3)) → IsFirst p → p < 32 * bucket_behind k + 32 → ⊥
      no_lock (inl two) (inl small) high = omega (arith, two, small, from)
      no_lock (inl two) (inr first) high = let start = first.0 in omega (arith, two, start, high)
      no_lock (inr last) (inl small) high = let start = last.0 in omega (arith, small, from, start)
      no_lock (inr last) (inr first) high = let three = last.1 in let four = first.2 in omega (arith, three, four, from, high)

      last_none : (k ≡ 2) ⊎ ((32 ≤ k) × (k % 32 ≡ 3)) → IsFirst p → 66 ≤ bucket_behind k → ⊥
      last_none (inl two) f high = omega (arith, two, high)
      last_none (inr last) (inl small) high = let start = last.0 in omega (arith, small, from, start)
      last_none (inr last) (inr first) high = let three = last.1 in let four = first.2 in let end = first.1 in omega (arith, three, four, end, from, high)
