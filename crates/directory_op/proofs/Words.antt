-- Words and numbers: which words are meant, that they are apart, and what is kept of the two slots.
use Rattle.std.proofs.Common.{◌≡◌, ◌≢◌, ℕ, suc, ◌+◌, ◌*◌, ◌^◌, ◌<◌, ◌≤◌, inl, inr, true, false, cond, sym, ap, ◌∙◌, subst, arith}
use Rattle.std.specs.Prelude.{◌&&◌, nat_le, nat_lt}
use Rattle.std.proofs.lemmas.Bool.{cases_Bool, lt-ltb, le-leb, and_parts, leb-true, ltb-true}
use Rattle.std.proofs.Math.Nat.{pow-suc}
use Rattle.std.proofs.lemmas.Nat.{pow_pos}
use Rattle.segment_head.specs.HeadWord.{version_in, depth_in, pattern_in, normal}
use Rattle.segment_head.proofs.Headers.{header_version, header_state, header_depth, header_pattern}
use Rattle.image_layout.specs.Places.{Shape, block, root_word, entry_at, first_segment, head_at, most_depth, segment_words}
use Rattle.image_layout.proofs.Areas.{entry_before}
use Rattle.way.specs.Ways.{head_word}
use Rattle.frame_facts.specs.DeadSlots.{IsInSlot}
use Rattle.world.specs.areas.Areas.{header_word}
use Rattle.world.specs.areas.Kinds.{is_in_slot}
use Rattle.world.specs.areas.Splitting.{IsHeader}
use Rattle.world.proofs.holders.directing.Known.{front_far}
use Rattle.world.proofs.fitting.OneHolder.{one_slot, head_in_slot}
use Rattle.directory_op.specs.Places.{entries_there, entry_word_at, live_head}

-- ---- numbers
-- an area that an image may have has all its entries
pub all_entries : (depth : ℕ) → depth ≤ most_depth → entries_there depth ≡ 2 ^ depth
all_entries depth low = ap (λ b. cond b (2 ^ depth) 0) (le-leb depth most_depth low)

pub doubled : (depth : ℕ) → 2 ^ suc depth ≡ 2 * 2 ^ depth
doubled depth = let e = pow-suc 2 depth in omega (arith, e)

-- ---- the words that are meant
pub entry_is : (here shape : Shape) (depth index : ℕ) → here ≡ shape → depth ≤ shape.depth → shape.depth ≤ most_depth → index < 2 ^ depth → entry_word_at here depth index ≡ entry_at depth index
entry_is here shape depth index same low most near = subst (λ (s : Shape). entry_word_at s depth index ≡ entry_at depth index) (sym same)
    (ap (λ b. cond (b && nat_lt index (entries_there depth)) (entry_at depth index) root_word) (le-leb depth shape.depth low)
    ∙ ap (λ b. cond b (entry_at depth index) root_word) (lt-ltb index (entries_there depth) (subst (λ n. index < n) (sym (all_entries depth (omega (arith, low, most)))) near)))

pub head_is : (here shape : Shape) (s : ℕ) → here ≡ shape → s < shape.segments → head_word here s ≡ header_word shape s
head_is here shape s same within = subst (λ (t : Shape). head_word t s ≡ header_word shape s) (sym same) (ap (λ b. cond b (head_at shape s + 1) root_word) (lt-ltb s shape.segments within))

-- ---- words are apart
-- an entry is no root, and lies where entries stand
pub entry_from : (depth index : ℕ) → block ≤ entry_at depth index
entry_from depth index = let some = pow_pos depth in omega (arith, some)

pub entry_no_root : (depth index : ℕ) → root_word ≡ entry_at depth index → ⊥
entry_no_root depth index e = let from = entry_from depth index in omega (arith, e, from)

pub entry_same : (depth i j : ℕ) → entry_at depth i ≡ entry_at depth j → i ≡ j
entry_same depth i j e = let some = pow_pos depth in omega (arith, e, some)

-- an entry of the deeper area is none of the other
pub entry_deeper : (depth i j : ℕ) → j < 2 ^ depth → entry_at (suc depth) i ≡ entry_at depth j → ⊥
entry_deeper depth i j low e = let some = pow_pos depth in let twice = doubled depth in omega (arith, e, low, some, twice)

-- a word of a slot lies behind the directory
pub slot_behind : (shape : Shape) (s i : ℕ) → IsInSlot shape s i → first_segment shape ≤ i
slot_behind shape s i inside = by (first_segment shape) s i inside.from
  where
    by : (f s i : ℕ) → f + segment_words * s ≤ i → f ≤ i
    by f s i from = omega (arith, from)

pub entry_no_slot : (shape : Shape) (depth index i : ℕ) → depth ≤ shape.depth → index < 2 ^ depth → first_segment shape ≤ i → i ≡ entry_at depth index → ⊥
entry_no_slot shape depth index i low near far e = by (first_segment shape) (entry_at depth index) i (entry_before shape depth index low near) far e
  where
    by : (f n i : ℕ) → n < f → f ≤ i → i ≡ n → ⊥
    by f n i below far e = omega (arith, below, far, e)

pub root_no_slot : (shape : Shape) (i : ℕ) → first_segment shape ≤ i → i ≡ root_word → ⊥
root_no_slot shape i far e = by (first_segment shape) i (front_far shape) far e
  where
    by : (f i : ℕ) → 32 ≤ f → f ≤ i → i ≡ 8 → ⊥
    by f i front far e = omega (arith, front, far, e)

pub root_no_header : (shape : Shape) (s : ℕ) → root_word ≡ header_word shape s → ⊥
root_no_header shape s e = root_no_slot shape (header_word shape s) (slot_behind shape s (header_word shape s) (head_in_slot shape s)) (sym e)

-- ---- slots
-- a word that does not lie in a slot passes no test of it
pub not_in_slot : (shape : Shape) (s i : ℕ) → (IsInSlot shape s i → ⊥) → is_in_slot shape s i ≡ false
not_in_slot shape s i out = elim (cases_Bool (is_in_slot shape s i)) [
  | inl on ↦ (let parts = and_parts (nat_le (head_at shape s) i) (nat_lt i (head_at shape s + segment_words)) on in
      absurd (out (record { from = leb-true (head_at shape s) i parts.0; to = ltb-true i (head_at shape s + segment_words) parts.1 })))
  | inr off ↦ off
]

pub in_slot : (shape : Shape) (s i : ℕ) → IsInSlot shape s i → is_in_slot shape s i ≡ true
in_slot shape s i inside = ap (λ b. b && nat_lt i (head_at shape s + segment_words)) (le-leb (head_at shape s) i inside.from) ∙ lt-ltb i (head_at shape s + segment_words) inside.to

pub before_slot : (shape : Shape) (s i : ℕ) → i < first_segment shape → IsInSlot shape s i → ⊥
before_slot shape s i low inside = by (first_segment shape) i low (slot_behind shape s i inside)
  where
    by : (f i : ℕ) → i < f → f ≤ i → ⊥
    by f i low far = omega (arith, low, far)

pub other_slot : (shape : Shape) (s n i : ℕ) → n ≢ s → IsInSlot shape s i → IsInSlot shape n i → ⊥
other_slot shape s n i apart inside there = apart (sym (one_slot shape s n i inside there))

-- ---- a header that is live is else as it was
pub live_header : (head : ℕ) → IsHeader (live_head head) normal (depth_in head) (pattern_in head) (version_in head)
live_header head =
    let v = version_in head in
    let d = depth_in head in
    let p = pattern_in head in
    let small : v < 2 ^ 8 = omega arith in
    let few : d < 2 ^ 8 = omega arith in
    record {
      state_is = header_state v normal d p small (omega arith) few;
      depth_is = header_depth v normal d p small (omega arith) few;
      pattern_is = header_pattern v normal d p small (omega arith) few;
      version_is = header_version v normal d p small (omega arith) few;
    }
