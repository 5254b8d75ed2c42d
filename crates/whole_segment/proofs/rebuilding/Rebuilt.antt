-- Buckets whose notes are made anew say what the definition says.
use Rattle.std.proofs.Common.{◌≡◌, ◌≢◌, ℕ, zero, suc, ◌+◌, ◌%◌, ◌^◌, ◌<◌, ◌==◌, cond, Bool, true, false, Option, None, Some, List, [], ◌∷◌, slice_index, refl, sym, ap, ◌∙◌, subst, inl, inr, arith, lit<}
use Rattle.std.specs.Prelude.{All}
use Rattle.std.proofs.lemmas.Bool.{cases_eq, eq-eqb, ne_eqb, eqb-true, eqb-false}
use Rattle.std.proofs.lemmas.List.Elements.{All-head, All-tail}
use Rattle.std.proofs.lemmas.Nat.Bits.{bit_at-zero}
use Rattle.word_bits.specs.Bits.{bit, bits}
use Rattle.bucket_meta.specs.declared.metadata.Meta.{Meta}
use Rattle.bucket_meta.specs.Bucket.{note_used, note_member, note_index, note_finger, overflow_count}
use Rattle.bucket_meta.specs.MetaWords.{IsMetaOf}
use Rattle.bucket_meta.proofs.fields.FieldBits.{note_used_is, note_member_is, note_index_is}
use Rattle.hash_word.specs.Hash.{probing_of}
use Rattle.stash.specs.NoteSlots.{NoteSlot, note_slot_at, filled_note_slot, IsUnused, IsLowest, HoldsNowhere, NoteSlotBecomes, CountBecomes, IsBare}
use Rattle.stash.specs.Noted.{IsNotedIn, IsNotedInSegment, AreNotedInOrder, IsRebuilt}
use Rattle.stash.specs.Segment.{Stashed, IsStashed, bucket}
use Rattle.bucket_meta.specs.Search.{lowest_among}
use Rattle.whole_segment.specs.Rebuilding.{Overflow, no_overflow, unused_in, with_note, with_count, changed, noted_by, noted, all_noted, first_with, third_with}

-- a bucket says of the stash what is said here
pub record Says (m : Meta) (o : Overflow) : Type 0 where
  pub slots : (i : ℕ) → i < 4 → note_slot_at m i ≡ o.slots i
  pub count : m.ocount ≡ o.count

-- each of the 64 does
abbrev pub AllSay : List Meta → (ℕ → Overflow) → Type 0
AllSay metas all = (b : ℕ) (d : Meta) → b < 64 → Says (bucket metas b d) (all b)

-- ---- the lowest unused note slot
abbrev Finds : Meta → Option ℕ → Type 0
Finds m (Some k) = IsLowest (IsUnused m) k
Finds m None = HoldsNowhere (IsUnused m)

module _ (m : Meta) (o : Overflow) (says : Says m o) where
  used_is : (i : ℕ) → i < 4 → bit i m.used ≡ (o.slots i).used
  used_is i low = ap (λ s. s.used) (says.slots i low)

  unused : (i : ℕ) → i < 4 → (o.slots i).used ≡ 0 → IsUnused m i
  unused i low e = used_is i low ∙ e

  in_use : (i : ℕ) → i < 4 → (o.slots i).used ≢ 0 → IsUnused m i → ⊥
  in_use i low some e = some (sym (used_is i low) ∙ e)

  finds_by : (a b c e : Bool) → ((o.slots 0).used == 0) ≡ a → ((o.slots 1).used == 0) ≡ b → ((o.slots 2).used == 0) ≡ c → ((o.slots 3).used == 0) ≡ e
      → Finds m (cond a (Some 0) (cond b (Some 1) (cond c (Some 2) (cond e (Some 3) None))))
  finds_by true b c e p q r s = record { within = lit< tt; here = unused 0 (lit< tt) (eqb-true _ 0 p); below = λ j low. absurd (omega (arith, low)) }
  finds_by false true c e p q r s = record {
    within = lit< tt;
    here = unused 1 (lit< tt) (eqb-true _ 0 q);
    below = λ j low. subst (λ n. IsUnused m n → ⊥) (zero_of j low) (in_use 0 (lit< tt) (eqb-false _ 0 p));
  }
    where
      zero_of : (j : ℕ) → j < 1 → 0 ≡ j
      zero_of j low = omega (arith, low)
  finds_by false false true e p q r s = record {
    within = lit< tt;
    here = unused 2 (lit< tt) (eqb-true _ 0 r);
    below = λ j low. two j low;
  }
    where
      two : (j : ℕ) → j < 2 → IsUnused m j → ⊥
      two zero low = in_use 0 (lit< tt) (eqb-false _ 0 p)
      two (suc zero) low = in_use 1 (lit< tt) (eqb-false _ 0 q)
      two (suc (suc j)) low = absurd (omega (arith, low))
  finds_by false false false true p q r s = record {
    within = lit< tt;
    here = unused 3 (lit< tt) (eqb-true _ 0 s);
    below = λ j low. three j low;
  }
    where
      three : (j : ℕ) → j < 3 → IsUnused m j → ⊥
      three zero low = in_use 0 (lit< tt) (eqb-false _ 0 p)
      three (suc zero) low = in_use 1 (lit< tt) (eqb-false _ 0 q)
      three (suc (suc zero)) low = in_use 2 (lit< tt) (eqb-false _ 0 r)
      three (suc (suc (suc j))) low = absurd (omega (arith, low))
  finds_by false false false false p q r s = four_used
    where
      four_used : (j : ℕ) → j < 4 → IsUnused m j → ⊥
      four_used zero low = in_use 0 (lit< tt) (eqb-false _ 0 p)
      four_used (suc zero) low = in_use 1 (lit< tt) (eqb-false _ 0 q)
      four_used (suc (suc zero)) low = in_use 2 (lit< tt) (eqb-false _ 0 r)
      four_used (suc (suc (suc zero))) low = in_use 3 (lit< tt) (eqb-false _ 0 s)
      four_used (suc (suc (suc (suc j)))) low = absurd (omega (arith, low))

  finds : Finds m (unused_in o)
  unfolding lowest_among
  finds = finds_by ((o.slots 0).used == 0) ((o.slots 1).used == 0) ((o.slots 2).used == 0) ((o.slots 3).used == 0) refl refl refl refl

-- ---- one bucket changes
says_filled : (m n : Meta) (o : Overflow) (k : ℕ) (note : NoteSlot) → Says m o → NoteSlotBecomes m n k note → Says n (with_note o k note)
says_filled m n o k note says becomes = record {
  slots = λ i low. elim (cases_eq i k) [
    | inl same ↦ ap (note_slot_at n) same ∙ (becomes.here ∙ sym (ap (λ b. cond b note (o.slots i)) (eq-eqb i k same)))
    | inr apart ↦ becomes.elsewhere i apart ∙ (says.slots i low ∙ sym (ap (λ b. cond b note (o.slots i)) (ne_eqb i k apart)))
  ];
  count = becomes.ocount ∙ says.count;
}

says_counted : (m n : Meta) (o : Overflow) → Says m o → CountBecomes m n (m.ocount + 1) → Says n (with_count o)
says_counted m n o says becomes = record {
  slots = λ i low. becomes.note_slots i ∙ says.slots i low;
  count = becomes.ocount ∙ ap (λ c. c + 1) says.count;
}

-- ---- one record is noted
module _ (old new : List Meta) (all : (ℕ → Overflow)) (entry : Stashed) (home : entry.0 < 64) (says : AllSay old all) (step : IsNotedInSegment old new entry) where
  abbrev probing : ℕ
  probing = probing_of entry.0

  probing_low : probing < 64
  probing_low = omega arith

  -- bucket x says o, and each other says what it said
  all_change : (x : ℕ) (o : Overflow) → ((d : Meta) → Says (bucket new x d) o) → ((b : ℕ) (d : Meta) → b < 64 → b ≢ x → Says (bucket new b d) (all b)) → AllSay new (changed all x o)
  all_change x o here others b d low = elim (cases_eq b x) [
    | inl same ↦
        let P : ℕ → Type 0 = λ c. Says (bucket new c d) o in
        subst (Says (bucket new b d)) (sym (ap (λ t. cond t o (all b)) (eq-eqb b x same))) (subst P (sym same) (here d))
    | inr apart ↦ subst (Says (bucket new b d)) (sym (ap (λ t. cond t o (all b)) (ne_eqb b x apart))) (others b d low apart)
  ]

  -- a bucket that is as it was says what it said
  still : (b : ℕ) (d : Meta) → b < 64 → bucket new b d ≡ bucket old b d → Says (bucket new b d) (all b)
  still b d low same = subst (λ m. Says m (all b)) (sym same) (says b d low)

  abbrev Two : Meta → Type 0
  Two d = IsNotedIn (bucket old entry.0 d) (bucket old probing d) (bucket new entry.0 d) (bucket new probing d) (entry.1, entry.2)

  abbrev Lowest : ℕ → ℕ → Type 0
  Lowest b k = (d : Meta) → IsLowest (IsUnused (bucket old b d)) k

  abbrev Nowhere : ℕ → Type 0
  Nowhere b = (d : Meta) → HoldsNowhere (IsUnused (bucket old b d))

  by_home : (k : ℕ) → Lowest entry.0 k → AllSay new (changed all entry.0 (with_note (all entry.0) k (filled_note_slot 0 (entry.1, entry.2))))
  by_home k lowest =
      all_change entry.0 (with_note (all entry.0) k (filled_note_slot 0 (entry.1, entry.2)))
      (λ d. says_filled (bucket old entry.0 d) (bucket new entry.0 d) (all entry.0) k (filled_note_slot 0 (entry.1, entry.2)) (says entry.0 d home) ((step.in_two d).in_home k (lowest d)).0)
      (λ b d low apart. elim (cases_eq b probing) [
        | inl same ↦ still b d low (subst (λ c. bucket new c d ≡ bucket old c d) (sym same) ((step.in_two d).in_home k (lowest d)).1)
        | inr other ↦ still b d low (step.others b d low apart other)
      ])

  by_probing : (k : ℕ) → Nowhere entry.0 → Lowest probing k → AllSay new (changed all probing (with_note (all probing) k (filled_note_slot 1 (entry.1, entry.2))))
  by_probing k none lowest =
      all_change probing (with_note (all probing) k (filled_note_slot 1 (entry.1, entry.2)))
      (λ d. says_filled (bucket old probing d) (bucket new probing d) (all probing) k (filled_note_slot 1 (entry.1, entry.2)) (says probing d probing_low)
      ((step.in_two d).in_probe (none d) k (lowest d)).0)
      (λ b d low apart. elim (cases_eq b entry.0) [
        | inl same ↦ still b d low (subst (λ c. bucket new c d ≡ bucket old c d) (sym same) ((step.in_two d).in_probe (none d) k (lowest d)).1)
        | inr other ↦ still b d low (step.others b d low other apart)
      ])

  by_count : Nowhere entry.0 → Nowhere probing → AllSay new (changed all entry.0 (with_count (all entry.0)))
  by_count none nor =
      all_change entry.0 (with_count (all entry.0))
      (λ d. says_counted (bucket old entry.0 d) (bucket new entry.0 d) (all entry.0) (says entry.0 d home) ((step.in_two d).counted (none d) (nor d)).0)
      (λ b d low apart. elim (cases_eq b probing) [
        | inl same ↦ still b d low (subst (λ c. bucket new c d ≡ bucket old c d) (sym same) ((step.in_two d).counted (none d) (nor d)).1)
        | inr other ↦ still b d low (step.others b d low apart other)
      ])

  by_found : (one two : Option ℕ) → ((d : Meta) → Finds (bucket old entry.0 d) one) → ((d : Meta) → Finds (bucket old probing d) two) → AllSay new (noted_by one two all entry)
  by_found (Some k) two at_home at_probing = by_home k at_home
  by_found None (Some k) at_home at_probing = by_probing k at_home at_probing
  by_found None None at_home at_probing = by_count at_home at_probing

  pub all_say_noted : AllSay new (noted all entry)
  all_say_noted =
      by_found (unused_in (all entry.0)) (unused_in (all probing)) (λ d. finds (bucket old entry.0 d) (all entry.0) (says entry.0 d home))
      (λ d. finds (bucket old probing d) (all probing) (says probing d probing_low))

-- ---- all are
say_in_order : (entries : List Stashed) (old new : List Meta) (all : (ℕ → Overflow)) → All IsStashed entries → AreNotedInOrder entries old new → AllSay old all
    → AllSay new (all_noted entries all)
unfolding all_noted
say_in_order [] old new all stashed same says = subst (λ metas. AllSay metas all) (sym same) says
say_in_order (entry ∷ entries) old new all stashed steps says =
    say_in_order entries steps.0 new (noted all entry) (All-tail IsStashed entry entries stashed) steps.2
    (all_say_noted old steps.0 all entry (All-head IsStashed entry entries stashed).0 says steps.1)

bare_says : (m : Meta) → IsBare m → Says m no_overflow
bare_says m bare = record {
  slots = λ i low. same_slot (bit i m.used) (bit i m.omember) (bit i m.oindex) (slice_index m.ofps i) (none i m.used bare.used) (none i m.omember bare.omember)
      (none i m.oindex bare.oindex) (ap (λ xs. slice_index xs i) bare.ofps ∙ zeros i low);
  count = bare.ocount;
}
  where
    none : (i n : ℕ) → n ≡ 0 → bit i n ≡ 0
    none i n e = ap (bit i) e ∙ bit_at-zero i

    zeros : (i : ℕ) → i < 4 → slice_index (0 ∷ 0 ∷ 0 ∷ 0 ∷ []) i ≡ 0
    zeros zero low = refl
    zeros (suc zero) low = refl
    zeros (suc (suc zero)) low = refl
    zeros (suc (suc (suc zero))) low = refl
    zeros (suc (suc (suc (suc i)))) low = absurd (omega (arith, low))

    slot_of : ℕ → ℕ → ℕ → ℕ → NoteSlot
    slot_of u s x f = record { used = u; side = s; index = x; finger = f }

    same_slot : (u s x f : ℕ) → u ≡ 0 → s ≡ 0 → x ≡ 0 → f ≡ 0 → slot_of u s x f ≡ slot_of 0 0 0 0
    same_slot u s x f a b c e = cc

pub rebuilt_says : (entries : List Stashed) (old new : List Meta) → All IsStashed entries → IsRebuilt old new entries → AllSay new (all_noted entries (λ b. no_overflow))
rebuilt_says entries old new stashed is =
    say_in_order entries is.0 new (λ b. no_overflow) stashed is.2 (λ b d low. bare_says (bucket is.0 b d) (is.1.bare b d low))

-- ---- the words that say so
module _ (m : Meta) (o : Overflow) (w1 w3 v1 v2 v3 : ℕ) (says : Says m o) (is : IsMetaOf m v1 v2 v3) where
  used : (i : ℕ) → i < 4 → note_used i v1 ≡ (o.slots i).used
  used i low = note_used_is m v1 v2 v3 i is low ∙ ap (λ s. s.used) (says.slots i low)

  side : (i : ℕ) → i < 4 → note_member i v1 ≡ (o.slots i).side
  side i low = note_member_is m v1 v2 v3 i is low ∙ ap (λ s. s.side) (says.slots i low)

  index : (i : ℕ) → i < 4 → note_index i v1 ≡ (o.slots i).index
  index i low = note_index_is m v1 v2 v3 i is low ∙ ap (λ s. s.index) (says.slots i low)

  finger : (i : ℕ) → i < 4 → note_finger i v1 v3 ≡ (o.slots i).finger
  finger i low = sym (is.ofps i low) ∙ ap (λ s. s.finger) (says.slots i low)

  count : overflow_count v1 ≡ o.count
  count = sym is.ocount ∙ says.count

  pub first_says : v1 < 2 ^ 64 → bits 61 3 v1 ≡ 0 → v1 % 2 ^ 28 ≡ w1 % 2 ^ 28 → v1 ≡ first_with w1 o
  first_says small upper low =
      let u0 = used 0 (lit< tt) in
      let u1 = used 1 (lit< tt) in
      let u2 = used 2 (lit< tt) in
      let u3 = used 3 (lit< tt) in
      let s0 = side 0 (lit< tt) in
      let s1 = side 1 (lit< tt) in
      let s2 = side 2 (lit< tt) in
      let s3 = side 3 (lit< tt) in
      let x0 = index 0 (lit< tt) in
      let x1 = index 1 (lit< tt) in
      let x2 = index 2 (lit< tt) in
      let x3 = index 3 (lit< tt) in
      let f2 = finger 2 (lit< tt) in
      let f3 = finger 3 (lit< tt) in
      let c = count in
      omega (arith, u0, u1, u2, u3, s0, s1, s2, s3, x0, x1, x2, x3, f2, f3, c, small, upper, low)

  pub third_says : v3 < 2 ^ 64 → v3 % 2 ^ 48 ≡ w3 % 2 ^ 48 → v3 ≡ third_with w3 o
  third_says small low =
      let f0 = finger 0 (lit< tt) in
      let f1 = finger 1 (lit< tt) in
      omega (arith, f0, f1, small, low)
