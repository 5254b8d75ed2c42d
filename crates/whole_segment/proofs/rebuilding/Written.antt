-- THE REBUILT NOTES of a segment, as values: words 1 and 3 that are made of them say them, and are exact.
use Rattle.std.proofs.Common.{◌≡◌, ℕ, zero, suc, ◌+◌, ◌*◌, ◌/◌, ◌%◌, ◌^◌, ◌<◌, ◌≤◌, ◌==◌, cond, Bool, true, false, List, [], ◌∷◌, ◌++◌, length, sym, ap, ◌∙◌, subst, arith, length-append}
use Rattle.std.specs.Prelude.{All}
use Rattle.std.specs.List.{flat_map}
use Rattle.std.proofs.lemmas.Grind.{flat_map-append}
use Rattle.std.proofs.lemmas.Nat.{shr-shr}
use Rattle.word_bits.specs.Bits.{bit}
use Rattle.std.proofs.lemmas.List.Elements.{All-nil, All-cons, All-append}
use Rattle.bucket_meta.specs.Bucket.{allocated, note_used, note_member, note_index, note_finger, overflow_count, record_slots, KeepsRecords}
use Rattle.bucket_meta.specs.Notes.{OverflowNote, numbers_below, AreExact, note_piece, notes_by}
use Rattle.hash_word.specs.Hash.{probing_of}
use Rattle.image_layout.specs.Places.{homes, stash_buckets}
use Rattle.stash.specs.Segment.{Stashed}
use Rattle.bucket_meta.proofs.Counts.{same_note_piece, same_pieces}
use Rattle.stash.proofs.Pieces.{piece}
use Rattle.stash.proofs.Buckets.{of_home_at_most}
use Rattle.image_layout.specs.Standing.{stashed_of, HasExactNotes}
use Rattle.whole_segment.specs.Notes.{entry_of, entries_below, stash_entries}
use Rattle.bucket_meta.specs.NoteWords.{four}
use Rattle.whole_segment.specs.Rebuilding.{Overflow, no_overflow, first_with, third_with, rebuilt}
use Rattle.whole_segment.proofs.StashLists.{entries_of_home}
use Rattle.whole_segment.proofs.rebuilding.Noting.{said, IsExactAt, IsInRange, IsEntry, all_exact, all_in_range, none_exact, none_in_range}

-- ---- the records that are noted
module _ (first : ℕ → ℕ) (key : ℕ → ℕ → ℕ) (hash : ℕ → ℕ) where
  module _ (c : ℕ) (stash : c < stash_buckets) where
    abbrev of_slot : ℕ → List Stashed
    of_slot r = cond (allocated r (first (homes + c)) == 1) (entry_of key hash c r ∷ []) []

    is_entry : (r : ℕ) → IsEntry (entry_of key hash c r)
    is_entry r = record { home = omega arith; finger = omega arith; index = stash }

    slot_are : (taken : Bool) (r : ℕ) → All IsEntry (cond taken (entry_of key hash c r ∷ []) [])
    slot_are true r = All-cons IsEntry (entry_of key hash c r) [] (is_entry r) (All-nil IsEntry)
    slot_are false r = All-nil IsEntry

    slot_long : (taken : Bool) (r : ℕ) → length (cond taken (entry_of key hash c r ∷ []) []) ≤ 1
    slot_long true r = omega arith
    slot_long false r = omega arith

    below_are : (n : ℕ) → All IsEntry (entries_below first key hash c n)
    below_are zero = All-nil IsEntry
    below_are (suc n) = subst (All IsEntry) (sym (flat_map-append of_slot (numbers_below n) (n ∷ [])))
        (All-append IsEntry (flat_map of_slot (numbers_below n)) (of_slot n ++ []) (below_are n) (All-append IsEntry (of_slot n) [] (slot_are (allocated n (first (homes + c)) == 1) n) (All-nil IsEntry)))

    below_long : (n : ℕ) → length (entries_below first key hash c n) ≤ n
    below_long zero = omega arith
    below_long (suc n) =
        let parts = ap length (flat_map-append of_slot (numbers_below n) (n ∷ [])) ∙ length-append (flat_map of_slot (numbers_below n)) (of_slot n ++ []) in
        let last = length-append (of_slot n) [] in
        omega (arith, parts, last, below_long n, slot_long (allocated n (first (homes + c)) == 1) n)

  entries_are : All IsEntry (stash_entries first key hash)
  entries_are = All-append IsEntry (entries_below first key hash 0 record_slots) (entries_below first key hash 1 record_slots) (below_are 0 (omega arith) record_slots) (below_are 1 (omega arith) record_slots)

  entries_long : length (stash_entries first key hash) ≤ record_slots * stash_buckets
  entries_long =
      let parts = length-append (entries_below first key hash 0 record_slots) (entries_below first key hash 1 record_slots) in
      omega (arith, parts, below_long 0 (omega arith) record_slots, below_long 1 (omega arith) record_slots)

  -- ---- what is noted of them
  made_exact : (b : ℕ) → b < homes → IsExactAt (rebuilt first key hash) (stash_entries first key hash) b
  made_exact b low = all_exact (stash_entries first key hash) [] (λ c. no_overflow) entries_are none_exact b low

  pub rebuilt_exact : (b : ℕ) → b < homes
      → AreExact (said (rebuilt first key hash b) 0 ++ said (rebuilt first key hash (probing_of b)) 1) (rebuilt first key hash b).count (stashed_of first key hash b)
  rebuilt_exact b low =
      subst (λ (l : List OverflowNote). AreExact (said (rebuilt first key hash b) 0 ++ said (rebuilt first key hash (probing_of b)) 1) (rebuilt first key hash b).count l)
      (entries_of_home first key hash b) (made_exact b low)

  pub rebuilt_ranges : (b i : ℕ) → IsInRange ((rebuilt first key hash b).slots i)
  rebuilt_ranges = all_in_range (stash_entries first key hash) (λ b. no_overflow) entries_are none_in_range

  pub rebuilt_count : (b : ℕ) → b < homes → (rebuilt first key hash b).count < 2 ^ 5
  rebuilt_count b low =
      let counts = (made_exact b low).counts_others in
      let most = of_home_at_most (stash_entries first key hash) b in
      omega (arith, counts, most, entries_long)

-- ---- words 1 and 3 that say it
-- one of four
by_four : (P : ℕ → Type 0) → P 0 → P 1 → P 2 → P 3 → (i : ℕ) → i < 4 → P i
by_four P a b c d zero low = a
by_four P a b c d (suc zero) low = b
by_four P a b c d (suc (suc zero)) low = c
by_four P a b c d (suc (suc (suc zero))) low = d
by_four P a b c d (suc (suc (suc (suc i)))) low = absurd (omega (arith, low))

-- the bits of a number of four bits
bits_of_four : (v at : ℕ) (f : ℕ → ℕ) → ((i : ℕ) → f i < 2) → v / 2 ^ at % 2 ^ 4 ≡ four f → (i : ℕ) → i < 4 → bit (at + i) v ≡ f i
bits_of_four v at f small is i low = ap (λ q. q % 2 ^ 1) (sym (shr-shr v at i)) ∙ in_four (v / 2 ^ at) is i low
  where
    in_four : (q : ℕ) → q % 2 ^ 4 ≡ four f → (i : ℕ) → i < 4 → q / 2 ^ i % 2 ^ 1 ≡ f i
    in_four q same = by_four (λ i. q / 2 ^ i % 2 ^ 1 ≡ f i) (omega (arith, same, small 0)) (omega (arith, same, small 0, small 1))
        (omega (arith, same, small 0, small 1, small 2)) (omega (arith, same, small 0, small 1, small 2, small 3))

-- word 1 has these fields
record HasFields (v low u s x n f2 f3 : ℕ) : Type 0 where
  small : v < 2 ^ 64
  slots : v % 2 ^ 28 ≡ low
  used : v / 2 ^ 28 % 2 ^ 4 ≡ u
  side : v / 2 ^ 32 % 2 ^ 4 ≡ s
  index : v / 2 ^ 36 % 2 ^ 4 ≡ x
  count : v / 2 ^ 40 % 2 ^ 5 ≡ n
  second : v / 2 ^ 45 % 2 ^ 8 ≡ f2
  last : v / 2 ^ 53 % 2 ^ 8 ≡ f3

has_fields : (low u s x n f2 f3 : ℕ) → low < 2 ^ 28 → u < 2 ^ 4 → s < 2 ^ 4 → x < 2 ^ 4 → n < 2 ^ 5 → f2 < 2 ^ 8 → f3 < 2 ^ 8
    → HasFields (low + 2 ^ 28 * u + 2 ^ 32 * s + 2 ^ 36 * x + 2 ^ 40 * n + 2 ^ 45 * f2 + 2 ^ 53 * f3) low u s x n f2 f3
has_fields low u s x n f2 f3 a b c d e f g = record {
  small = omega (arith, a, b, c, d, e, f, g);
  slots = omega (arith, a);
  used = omega (arith, a, b);
  side = omega (arith, a, b, c);
  index = omega (arith, a, b, c, d);
  count = omega (arith, a, b, c, d, e);
  second = omega (arith, a, b, c, d, e, f);
  last = omega (arith, a, b, c, d, e, f, g);
}

module _ (w1 w3 : ℕ) (o : Overflow) (ranges : (i : ℕ) → IsInRange (o.slots i)) (counts : o.count < 2 ^ 5) where
  abbrev v1 : ℕ
  v1 = first_with w1 o

  abbrev v3 : ℕ
  v3 = third_with w3 o

  nibble : (f : ℕ → ℕ) → ((i : ℕ) → f i < 2) → four f < 2 ^ 4
  nibble f low = omega (arith, low 0, low 1, low 2, low 3)

  fields : HasFields v1 (w1 % 2 ^ 28) (four (λ i. (o.slots i).used)) (four (λ i. (o.slots i).side)) (four (λ i. (o.slots i).index)) o.count (o.slots 2).finger (o.slots 3).finger
  fields = has_fields (w1 % 2 ^ 28) (four (λ i. (o.slots i).used)) (four (λ i. (o.slots i).side)) (four (λ i. (o.slots i).index)) o.count (o.slots 2).finger (o.slots 3).finger
      (omega arith) (nibble (λ i. (o.slots i).used) (λ i. (ranges i).used)) (nibble (λ i. (o.slots i).side) (λ i. (ranges i).side)) (nibble (λ i. (o.slots i).index) (λ i. (ranges i).index))
      counts (ranges 2).finger (ranges 3).finger

  pub first_small : v1 < 2 ^ 64
  first_small = fields.small

  pub third_small : v3 < 2 ^ 64
  third_small = omega (arith, (ranges 0).finger, (ranges 1).finger)

  pub keeps : KeepsRecords w1 w3 v1 v3
  keeps = record { slots = fields.slots; fingers = omega (arith, (ranges 0).finger, (ranges 1).finger) }

  -- ---- note slot by note slot
  used_is : (i : ℕ) → i < 4 → note_used i v1 ≡ (o.slots i).used
  used_is = bits_of_four v1 28 (λ i. (o.slots i).used) (λ i. (ranges i).used) fields.used

  side_is : (i : ℕ) → i < 4 → note_member i v1 ≡ (o.slots i).side
  side_is = bits_of_four v1 32 (λ i. (o.slots i).side) (λ i. (ranges i).side) fields.side

  index_is : (i : ℕ) → i < 4 → note_index i v1 ≡ (o.slots i).index
  index_is = bits_of_four v1 36 (λ i. (o.slots i).index) (λ i. (ranges i).index) fields.index

  finger_is : (i : ℕ) → i < 4 → note_finger i v1 v3 ≡ (o.slots i).finger
  finger_is = by_four (λ i. note_finger i v1 v3 ≡ (o.slots i).finger) (omega (arith, (ranges 0).finger)) (omega (arith, (ranges 0).finger, (ranges 1).finger)) fields.second fields.last

  pub said_is : (side : ℕ) → notes_by v1 v3 side ≡ said o side
  said_is side = same_pieces (λ i. piece side (o.slots i)) (λ i. note_piece side (note_used i v1) (note_member i v1) (note_finger i v1 v3) (note_index i v1)) 4
      (λ i low. same_note_piece side (note_used i v1) (note_member i v1) (note_finger i v1 v3) (note_index i v1) (o.slots i).used (o.slots i).side (o.slots i).finger (o.slots i).index
      (used_is i low) (side_is i low) (finger_is i low) (index_is i low))

  pub count_is : overflow_count v1 ≡ o.count
  count_is = fields.count

-- ---- THE NOTES of a segment
module _ (first third : ℕ → ℕ) (key : ℕ → ℕ → ℕ) (hash : ℕ → ℕ) where
  abbrev made : ℕ → Overflow
  made = rebuilt first key hash

  abbrev first_made : ℕ → ℕ
  first_made b = first_with (first b) (made b)

  abbrev third_made : ℕ → ℕ
  third_made b = third_with (third b) (made b)

  -- are words
  pub first_made_small : (b : ℕ) → b < homes → first_made b < 2 ^ 64
  first_made_small b low = first_small (first b) (third b) (made b) (rebuilt_ranges first key hash b) (rebuilt_count first key hash b low)

  pub third_made_small : (b : ℕ) → b < homes → third_made b < 2 ^ 64
  third_made_small b low = third_small (first b) (third b) (made b) (rebuilt_ranges first key hash b) (rebuilt_count first key hash b low)

  -- that say of the record slots what was said
  pub made_keeps : (b : ℕ) → b < homes → KeepsRecords (first b) (third b) (first_made b) (third_made b)
  made_keeps b low = keeps (first b) (third b) (made b) (rebuilt_ranges first key hash b) (rebuilt_count first key hash b low)

  -- AND ARE EXACT
  pub made_notes : (b : ℕ) → b < homes → HasExactNotes first_made third_made b (stashed_of first key hash b)
  made_notes b low =
      let next : ℕ = probing_of b in
      let near : next < homes = omega arith in
      let stashed : List OverflowNote = stashed_of first key hash b in
      subst (λ (n : ℕ). AreExact (notes_by (first_made b) (third_made b) 0 ++ notes_by (first_made next) (third_made next) 1) n stashed)
      (sym (count_is (first b) (third b) (made b) (rebuilt_ranges first key hash b) (rebuilt_count first key hash b low)))
      (subst (λ (l : List OverflowNote). AreExact (notes_by (first_made b) (third_made b) 0 ++ l) (made b).count stashed)
      (sym (said_is (first next) (third next) (made next) (rebuilt_ranges first key hash next) (rebuilt_count first key hash next near) 1))
      (subst (λ (l : List OverflowNote). AreExact (l ++ said (made next) 1) (made b).count stashed)
      (sym (said_is (first b) (third b) (made b) (rebuilt_ranges first key hash b) (rebuilt_count first key hash b low) 0)) (rebuilt_exact first key hash b low)))
