-- A table of two segments, worked through: a record in the stash, its copy at home, the stash's cleared, a key of the other segment;
-- and two tables gone wrong.
use Rattle.std.proofs.Common.{◌≡◌, ◌≢◌, ℕ, ◌+◌, ◌*◌, ◌%◌, ◌^◌, ◌<◌, ◌≤◌, Some, refl, ap, sym, ◌∙◌, lit≤, arith, inl, inr}
use Rattle.std.specs.Prelude.{◌==◌, if◌then◌else◌}
use Rattle.std.proofs.lemmas.Bool.{ne_eqb}
use Rattle.std.proofs.lemmas.Nat.Bits.{bit_at_above}
use Rattle.std.proofs.Math.Nat.{zero-div}
use Rattle.bucket_meta.specs.Bucket.{allocated}
use Rattle.bucket_meta.specs.Marks.{SameButSlot}
use Rattle.trace.specs.Events.{Words, with_word}
use Rattle.image_layout.specs.Places.{Shape, buckets}
use Rattle.segment_table.specs.Owner.{owner_below}
use Rattle.bucket_words.specs.Owners.{owner_of, home_at}
use Rattle.bucket_words.specs.Hits.{Hit, HasNone, find}
use Rattle.bucket_words.specs.Standing.{IsTable}
use Rattle.bucket_words.specs.TableChanges.{KeepsTable, ChangesKey}
use Rattle.bucket_words.proofs.segments.Finding.{find_none, none_found}
use Rattle.bucket_words.proofs.segments.changes.OneRecord.{insert_key, copy_key, clear_key}
use Rattle.bucket_words.proofs.segments.changes.Prepared.{key_keeps, value_keeps, low_keeps}

-- two segments of depth 1, keys that are their own hashes: of segment 0 bucket 0 begins at word 96 and stash bucket 64 at word 2144;
-- of segment 1 stash bucket 64 begins at word 4288
abbrev two : Shape
two = record { segments = 2; depth = 1; kind = 0 }

-- AN EMPTY TABLE of version 1: root, state word, the second entry, and a header for each half of the hashes
abbrev empty : Words
empty i = if i == 8 then 1 else (if i == 16 then 1 else (if i == 34 then 1 else (if i == 65 then 65793 else (if i == 2209 then 4295033089 else 0))))

-- key 5 is in the lower half of the hashes, and 2 ^ 63 + 5 in the upper
abbrev five : ℕ
five = 5

abbrev high_five : ℕ
high_five = 9223372036854775813

five_is_low : owner_of two empty five ≡ Some 0
unfolding owner_below
five_is_low = refl

high_five_is_high : owner_of two empty high_five ≡ Some 1
unfolding owner_below
high_five_is_high = refl

home_of_five : home_at two empty five ≡ 96
unfolding owner_below
home_of_five = refl

home_of_high_five : home_at two empty high_five ≡ 2240
unfolding owner_below
home_of_high_five = refl

zero_bit : (r : ℕ) → allocated r 0 ≡ 0
zero_bit r = ap (λ n. n % 2) (zero-div (2 ^ r))

no_bit : (n r : ℕ) → n ≡ 0 → allocated r n ≡ 1 → ⊥
no_bit n r zero_word taken = never _ taken (ap (allocated r) zero_word ∙ zero_bit r)
  where
    never : (m : ℕ) → m ≡ 1 → m ≡ 0 → ⊥
    never m e f = omega arith

bare : (s b : ℕ) → b < buckets → empty (64 + 2144 * s + 32 + 32 * b + 1) ≡ 0
bare s b bucket = rw (
  ne_eqb (64 + 2144 * s + 32 + 32 * b + 1) 8 (λ e. omega arith),
  ne_eqb (64 + 2144 * s + 32 + 32 * b + 1) 16 (λ e. omega arith),
  ne_eqb (64 + 2144 * s + 32 + 32 * b + 1) 34 (λ e. omega arith),
  ne_eqb (64 + 2144 * s + 32 + 32 * b + 1) 65 (λ e. omega arith),
  ne_eqb (64 + 2144 * s + 32 + 32 * b + 1) 2209 (λ e. omega arith),
) refl

no_hit : (s b r k : ℕ) → Hit two empty s b r k → ⊥
no_hit s b r k hit = no_bit _ r (bare s b hit.bucket) hit.taken

empty-IsTable : IsTable two empty
empty-IsTable = record {
  stands = λ s b r k hit own. absurd (no_hit s b r k hit);
  one_value = λ s b r c t k hit other own. absurd (no_hit s b r k hit);
}

-- slot 0 is taken, where none was, or freed
taken_first : SameButSlot 0 0 1
taken_first = record {
  taken = λ t slot other. none_above t (omega (arith, other)) ∙ sym (zero_bit t);
  members = λ t slot other. none_above (14 + t) (omega arith) ∙ sym (zero_bit (14 + t));
}
  where
    none_above : (i : ℕ) → 1 ≤ i → allocated i 1 ≡ 0
    none_above i above = bit_at_above 1 1 i (lit≤ tt) above

freed_first : SameButSlot 0 1 0
freed_first = record {
  taken = λ t slot other. sym (taken_first.taken t slot other);
  members = λ t slot other. sym (taken_first.members t slot other);
}

-- IN THE STASH: key 5 with the value 7 in slot 0 of bucket 64, stored word by word; it appears with the last one
abbrev at_stash : Words
at_stash = with_word (with_word (with_word empty 2148 5) 2149 7) 2146 5

abbrev stashed : Words
stashed = with_word at_stash 2145 1

keyed : KeepsTable two empty (with_word empty 2148 5)
keyed = key_keeps two empty empty-IsTable 0 64 5 (lit≤ tt) (lit≤ tt) 0 (lit≤ tt) refl

valued : KeepsTable two (with_word empty 2148 5) (with_word (with_word empty 2148 5) 2149 7)
valued = value_keeps two (with_word empty 2148 5) keyed.table 0 64 7 (lit≤ tt) (lit≤ tt) 0 (lit≤ tt) refl

fingered : KeepsTable two (with_word (with_word empty 2148 5) 2149 7) at_stash
fingered = low_keeps two (with_word (with_word empty 2148 5) 2149 7) valued.table 0 64 5 (lit≤ tt) (lit≤ tt) (λ t slot taken. absurd (no_bit _ t refl taken))

five_is_low_still : owner_of two at_stash five ≡ Some 0
unfolding owner_below
five_is_low_still = refl

-- as yet the key stands nowhere
none_yet : HasNone two at_stash 0 five
none_yet = none_found two at_stash 0 five five_is_low_still
    (fingered.pairs five ∙ valued.pairs five ∙ keyed.pairs five ∙ find_none two empty 0 five (lit≤ tt) five_is_low (λ b r hit. no_hit 0 b r five hit))

stashed-ChangesKey : ChangesKey two at_stash stashed five (Some 7)
stashed-ChangesKey = insert_key two at_stash fingered.table 0 64 (lit≤ tt) (lit≤ tt) 0 1 (lit≤ tt) taken_first five
    (record { segment = lit≤ tt; bucket = lit≤ tt; slot = lit≤ tt; is_free = refl; has_key = refl; has_finger = refl })
    refl (inr (inr (lit≤ tt))) (λ own c t hit. absurd (none_yet c t hit)) five_is_low_still

in_stash : Hit two stashed 0 64 0 five
in_stash = record { segment = lit≤ tt; bucket = lit≤ tt; slot = lit≤ tt; taken = refl; key = refl }

-- AT HOME TOO: a copy in slot 0 of bucket 0 keeps what each key has
abbrev at_home : Words
at_home = with_word (with_word (with_word stashed 100 5) 101 7) 98 5

abbrev twice : Words
twice = with_word at_home 97 1

home_keyed : KeepsTable two stashed (with_word stashed 100 5)
home_keyed = key_keeps two stashed stashed-ChangesKey.table 0 0 5 (lit≤ tt) (lit≤ tt) 0 (lit≤ tt) refl

home_valued : KeepsTable two (with_word stashed 100 5) (with_word (with_word stashed 100 5) 101 7)
home_valued = value_keeps two (with_word stashed 100 5) home_keyed.table 0 0 7 (lit≤ tt) (lit≤ tt) 0 (lit≤ tt) refl

home_fingered : KeepsTable two (with_word (with_word stashed 100 5) 101 7) at_home
home_fingered = low_keeps two (with_word (with_word stashed 100 5) 101 7) home_valued.table 0 0 5 (lit≤ tt) (lit≤ tt) (λ t slot taken. absurd (no_bit _ t refl taken))

source : Hit two at_home 0 64 0 five
source = record { segment = lit≤ tt; bucket = lit≤ tt; slot = lit≤ tt; taken = refl; key = refl }

-- the other records of the key have the value 7 by the table's rule
twice-KeepsTable : KeepsTable two at_home twice
twice-KeepsTable = copy_key two at_home home_fingered.table 0 0 (lit≤ tt) (lit≤ tt) 0 1 (lit≤ tt) taken_first five
    (record { segment = lit≤ tt; bucket = lit≤ tt; slot = lit≤ tt; is_free = refl; has_key = refl; has_finger = refl })
    refl (inl (refl, refl)) (λ own c t hit. home_fingered.table.one_value 0 c t 64 0 five hit source own) 64 0 source

-- THE STASH'S CLEARED: the key stands at home alone, and has what it had
abbrev moved : Words
moved = with_word twice 2145 0

moved-KeepsTable : KeepsTable two twice moved
moved-KeepsTable = clear_key two twice twice-KeepsTable.table 0 64 (lit≤ tt) (lit≤ tt) 0 0 (lit≤ tt) freed_first five
    (record { segment = lit≤ tt; bucket = lit≤ tt; slot = lit≤ tt; taken = refl; key = refl }) refl 0 0
    (record { segment = lit≤ tt; bucket = lit≤ tt; slot = lit≤ tt; taken = refl; key = refl }) (λ e _. never e)
  where
    never : ◌≡◌ {A = ℕ} 0 64 → ⊥
    never e = omega (arith, e)

five_has_seven : find two moved five ≡ Some 7
five_has_seven = moved-KeepsTable.pairs five ∙ twice-KeepsTable.pairs five ∙ home_fingered.pairs five ∙ home_valued.pairs five ∙ home_keyed.pairs five
    ∙ stashed-ChangesKey.here

-- IN THE OTHER SEGMENT: key 2 ^ 63 + 5 with the value 9 in slot 0 of stash bucket 64, beside the record of the stash of segment 0
abbrev at_other : Words
at_other = with_word (with_word (with_word stashed 4292 high_five) 4293 9) 4290 5

abbrev both : Words
both = with_word at_other 4289 1

other_keyed : KeepsTable two stashed (with_word stashed 4292 high_five)
other_keyed = key_keeps two stashed stashed-ChangesKey.table 1 64 high_five (lit≤ tt) (lit≤ tt) 0 (lit≤ tt) refl

other_valued : KeepsTable two (with_word stashed 4292 high_five) (with_word (with_word stashed 4292 high_five) 4293 9)
other_valued = value_keeps two (with_word stashed 4292 high_five) other_keyed.table 1 64 9 (lit≤ tt) (lit≤ tt) 0 (lit≤ tt) refl

other_fingered : KeepsTable two (with_word (with_word stashed 4292 high_five) 4293 9) at_other
other_fingered = low_keeps two (with_word (with_word stashed 4292 high_five) 4293 9) other_valued.table 1 64 5 (lit≤ tt) (lit≤ tt)
    (λ t slot taken. absurd (no_bit _ t refl taken))

high_five_is_high_still : owner_of two at_other high_five ≡ Some 1
unfolding owner_below
high_five_is_high_still = refl

keys_differ : high_five ≢ five
keys_differ e = omega (arith, e)

none_there : HasNone two at_other 1 high_five
none_there = none_found two at_other 1 high_five high_five_is_high_still
    (other_fingered.pairs high_five ∙ other_valued.pairs high_five ∙ other_keyed.pairs high_five ∙ stashed-ChangesKey.elsewhere high_five keys_differ
    ∙ fingered.pairs high_five ∙ valued.pairs high_five ∙ keyed.pairs high_five
    ∙ find_none two empty 1 high_five (lit≤ tt) high_five_is_high (λ b r hit. no_hit 1 b r high_five hit))

both-ChangesKey : ChangesKey two at_other both high_five (Some 9)
both-ChangesKey = insert_key two at_other other_fingered.table 1 64 (lit≤ tt) (lit≤ tt) 0 1 (lit≤ tt) taken_first high_five
    (record { segment = lit≤ tt; bucket = lit≤ tt; slot = lit≤ tt; is_free = refl; has_key = refl; has_finger = refl })
    refl (inr (inr (lit≤ tt))) (λ own c t hit. absurd (none_there c t hit)) high_five_is_high_still

-- A COPY WITH ANOTHER VALUE is no table
abbrev torn : Words
torn = with_word (with_word at_home 101 8) 97 1

low_in_torn : owner_of two torn five ≡ Some 0
unfolding owner_below
low_in_torn = refl

no_table : IsTable two torn → ⊥
no_table table = never (table.one_value 0 0 0 64 0 five
    (record { segment = lit≤ tt; bucket = lit≤ tt; slot = lit≤ tt; taken = refl; key = refl })
    (record { segment = lit≤ tt; bucket = lit≤ tt; slot = lit≤ tt; taken = refl; key = refl }) low_in_torn)
  where
    never : ◌≡◌ {A = ℕ} 8 7 → ⊥
    never e = omega (arith, e)

-- A RECORD IN BUCKET 1, the probing bucket of key 5, without the membership bit is in no place of its own
abbrev astray : Words
astray = with_word (with_word (with_word (with_word empty 132 5) 133 7) 130 5) 129 1

low_in_astray : owner_of two astray five ≡ Some 0
unfolding owner_below
low_in_astray = refl

not_right : IsTable two astray → ⊥
not_right table = elim (table.stands 0 1 0 five (record { segment = lit≤ tt; bucket = lit≤ tt; slot = lit≤ tt; taken = refl; key = refl }) low_in_astray).bucket [
  | inl home ↦ no_home home.0
  | inr e ↦ elim e [ inl probing ↦ no_member probing.1 | inr stash ↦ no_stash stash ]
]
  where
    no_home : ◌≡◌ {A = ℕ} 1 0 → ⊥
    no_home e = omega (arith, e)

    no_member : ◌≡◌ {A = ℕ} 0 1 → ⊥
    no_member e = omega (arith, e)

    no_stash : 64 ≤ 1 → ⊥
    no_stash e = omega (arith, e)
