-- Records that are noted one after the other, as a value, are noted exactly, and the notes have their ranges.
use Rattle.std.proofs.Common.{◌≡◌, ◌≢◌, ℕ, ◌+◌, ◌^◌, ◌<◌, ◌==◌, cond, Bool, true, false, Option, None, Some, List, [], ◌∷◌, ◌++◌, refl, sym, ap, ◌∙◌, subst, inl, inr, arith, lit<, append-nil, append_assoc}
use Rattle.std.specs.Prelude.{All}
use Rattle.std.proofs.lemmas.Bool.{cases_eq, eq-eqb, ne_eqb, eqb-true}
use Rattle.std.proofs.lemmas.List.Elements.{All-head, All-tail}
use Rattle.bucket_meta.specs.Notes.{OverflowNote, notes_on, AreExact}
use Rattle.hash_word.specs.Hash.{probing_of}
use Rattle.image_layout.specs.Places.{homes, stash_buckets}
use Rattle.stash.specs.NoteSlots.{NoteSlot, filled_note_slot}
use Rattle.stash.specs.Segment.{Stashed, of_home}
use Rattle.bucket_meta.proofs.Counts.{same_pieces, changed_piece}
use Rattle.stash.proofs.Pieces.{piece, piece_of_unused}
use Rattle.stash.proofs.Buckets.{of_home_own, of_home_other}
use Rattle.bucket_meta.proofs.ExactNotes.{IsOneMore, one_more_by_sums, more_left, more_right, exact_with_note, exact_with_count, exact_moves}
use Rattle.bucket_meta.specs.Search.{lowest_among}
use Rattle.whole_segment.specs.Rebuilding.{Overflow, no_overflow, unused_in, with_note, with_count, changed, noted_by, noted, all_noted}

-- the notes of a bucket that are of one side
abbrev pub said : Overflow → ℕ → List OverflowNote
said o side = notes_on (λ i. (o.slots i).used) (λ i. (o.slots i).side) (λ i. (o.slots i).finger) (λ i. (o.slots i).index) side

-- what is said of a home is exact for its records
abbrev pub IsExactAt : (ℕ → Overflow) → List Stashed → ℕ → Type 0
IsExactAt all records b = AreExact (said (all b) 0 ++ said (all (probing_of b)) 1) (all b).count (of_home records b)

abbrev pub AreAllExact : (ℕ → Overflow) → List Stashed → Type 0
AreAllExact all records = (b : ℕ) → b < homes → IsExactAt all records b

-- ---- an unused note slot
abbrev IsFound : Overflow → Option ℕ → Type 0
IsFound o (Some k) = (k < 4) × ((o.slots k).used ≡ 0)
IsFound o None = Unit {0}

found : (o : Overflow) → IsFound o (unused_in o)
unfolding lowest_among
found o = by ((o.slots 0).used == 0) ((o.slots 1).used == 0) ((o.slots 2).used == 0) ((o.slots 3).used == 0) refl refl refl refl
  where
    by : (a b c e : Bool) → ((o.slots 0).used == 0) ≡ a → ((o.slots 1).used == 0) ≡ b → ((o.slots 2).used == 0) ≡ c → ((o.slots 3).used == 0) ≡ e
        → IsFound o (cond a (Some 0) (cond b (Some 1) (cond c (Some 2) (cond e (Some 3) None))))
    by true b c e p q r s = (lit< tt, eqb-true _ 0 p)
    by false true c e p q r s = (lit< tt, eqb-true _ 0 q)
    by false false true e p q r s = (lit< tt, eqb-true _ 0 r)
    by false false false true p q r s = (lit< tt, eqb-true _ 0 s)
    by false false false false p q r s = tt

-- ---- one note slot is filled
own_piece : (side : ℕ) (note : OverflowNote) → piece side (filled_note_slot side note) ≡ note ∷ []
own_piece side note = ap (λ t. cond t (note ∷ []) []) (eq-eqb side side refl)

other_piece : (side other : ℕ) (note : OverflowNote) → side ≢ other → piece other (filled_note_slot side note) ≡ []
other_piece side other note apart = ap (λ t. cond t (note ∷ []) []) (ne_eqb side other apart)

module _ (o : Overflow) (k side : ℕ) (note : OverflowNote) (low : k < 4) (unused : (o.slots k).used ≡ 0) where
  abbrev filled : Overflow
  filled = with_note o k (filled_note_slot side note)

  here : filled.slots k ≡ filled_note_slot side note
  here = ap (λ t. cond t (filled_note_slot side note) (o.slots k)) (eq-eqb k k refl)

  there : (i : ℕ) → i ≢ k → filled.slots i ≡ o.slots i
  there i apart = ap (λ t. cond t (filled_note_slot side note) (o.slots i)) (ne_eqb i k apart)

  one_side : (more less old new : ℕ) → more + old ≡ less + new → old ≡ 0 → more ≡ less + new
  one_side more less old new a b = omega arith

  filled_more : IsOneMore (said filled side) (said o side) note
  filled_more = one_more_by_sums (said filled side) (said o side) note (λ f is.
      one_side (f (said filled side)) (f (said o side)) (f (piece side (o.slots k))) (f (note ∷ []))
      (changed_piece f is (λ i. piece side (o.slots i)) (λ i. piece side (filled.slots i)) k 4 low (λ i _ apart. ap (piece side) (there i apart))
      ∙ ap (λ (l : List OverflowNote). f (said o side) + f l) (ap (piece side) here ∙ own_piece side note))
      (ap f (piece_of_unused side (o.slots k) unused) ∙ is.none))

  filled_stays : (other : ℕ) → side ≢ other → said filled other ≡ said o other
  filled_stays other apart = same_pieces (λ i. piece other (o.slots i)) (λ i. piece other (filled.slots i)) 4 (λ i _. elim (cases_eq i k) [
    | inl same ↦ subst (λ (j : ℕ). piece other (filled.slots j) ≡ piece other (o.slots j)) (sym same)
        (ap (piece other) here ∙ other_piece side other note apart ∙ sym (piece_of_unused other (o.slots k) unused))
    | inr differs ↦ ap (piece other) (there i differs)
  ])

-- ---- one bucket is changed
module _ (all : ℕ → Overflow) (x : ℕ) (o : Overflow) where
  changed_here : changed all x o x ≡ o
  changed_here = ap (λ t. cond t o (all x)) (eq-eqb x x refl)

  changed_there : (b : ℕ) → b ≢ x → changed all x o b ≡ all b
  changed_there b apart = ap (λ t. cond t o (all b)) (ne_eqb b x apart)

  -- what o says as the bucket said it, each bucket says as it did
  changed_same : {X : Type 0} (f : Overflow → X) → f o ≡ f (all x) → (b : ℕ) → f (changed all x o b) ≡ f (all b)
  changed_same f same b = elim (cases_eq b x) [
    | inl e ↦ subst (λ (c : ℕ). f (changed all x o c) ≡ f (all c)) (sym e) (ap f changed_here ∙ same)
    | inr apart ↦ ap f (changed_there b apart)
  ]

-- ---- one record is noted
exact_by : (own other own2 other2 : List OverflowNote) (count count2 : ℕ) (stashed stashed2 : List OverflowNote) → own2 ≡ own → other2 ≡ other → count2 ≡ count → stashed2 ≡ stashed
    → AreExact (own ++ other) count stashed → AreExact (own2 ++ other2) count2 stashed2
exact_by own other own2 other2 count count2 stashed stashed2 p q r s is =
    subst (λ (l : List OverflowNote). AreExact (l ++ other2) count2 stashed2) (sym p)
    (subst (λ (l : List OverflowNote). AreExact (own ++ l) count2 stashed2) (sym q)
    (subst (λ (n : ℕ). AreExact (own ++ other) n stashed2) (sym r) (subst (λ (l : List OverflowNote). AreExact (own ++ other) count l) (sym s) is)))

module _ (all : ℕ → Overflow) (records : List Stashed) (h finger index : ℕ) (home : h < homes) (exact : AreAllExact all records) where
  abbrev note : OverflowNote
  note = (finger, index)

  abbrev more : List Stashed
  more = records ++ (h, finger, index) ∷ []

  abbrev probing : ℕ
  probing = probing_of h

  probing_apart : probing ≢ h
  probing_apart e = omega (arith, e, home)

  -- another home has another probing bucket
  other_probing : (b : ℕ) → b < homes → b ≢ h → probing_of b ≢ probing
  other_probing b low apart e = apart (omega (arith, e, low, home))

  by_home : (k : ℕ) → k < 4 → ((all h).slots k).used ≡ 0 → AreAllExact (changed all h (with_note (all h) k (filled_note_slot 0 note))) more
  by_home k low unused b small =
      let o : Overflow = with_note (all h) k (filled_note_slot 0 note) in
      let next : ℕ → Overflow = changed all h o in
      let other : (c : ℕ) → said (next c) 1 ≡ said (all c) 1 = changed_same all h o (λ z. said z 1) (filled_stays (all h) k 0 note low unused 1 (λ e. omega (arith, e))) in
      elim (cases_eq b h) [
        | inl same ↦ subst (λ (c : ℕ). IsExactAt next more c) (sym same)
            (exact_by (said o 0) (said (all probing) 1) (said (next h) 0) (said (next probing) 1) (all h).count (next h).count (of_home records h ++ note ∷ []) (of_home more h)
            (ap (λ z. said z 0) (changed_here all h o)) (other probing) (ap (λ z. z.count) (changed_here all h o)) (of_home_own records h finger index)
            (exact_moves (said o 0 ++ said (all probing) 1) (all h).count note (of_home records h)
            (exact_with_note (said o 0 ++ said (all probing) 1) (said (all h) 0 ++ said (all probing) 1) (all h).count note (of_home records h)
            (more_left (said o 0) (said (all h) 0) (said (all probing) 1) note (filled_more (all h) k 0 note low unused)) (exact h home))))
        | inr apart ↦ exact_by (said (all b) 0) (said (all (probing_of b)) 1) (said (next b) 0) (said (next (probing_of b)) 1) (all b).count (next b).count (of_home records b) (of_home more b)
            (ap (λ z. said z 0) (changed_there all h o b apart)) (other (probing_of b)) (ap (λ z. z.count) (changed_there all h o b apart))
            (of_home_other records h finger index b (λ e. apart (sym e))) (exact b small)
      ]

  by_probing : (k : ℕ) → k < 4 → ((all probing).slots k).used ≡ 0 → AreAllExact (changed all probing (with_note (all probing) k (filled_note_slot 1 note))) more
  by_probing k low unused b small =
      let o : Overflow = with_note (all probing) k (filled_note_slot 1 note) in
      let next : ℕ → Overflow = changed all probing o in
      let own : (c : ℕ) → said (next c) 0 ≡ said (all c) 0 = changed_same all probing o (λ z. said z 0) (filled_stays (all probing) k 1 note low unused 0 (λ e. omega (arith, e))) in
      let count : (c : ℕ) → (next c).count ≡ (all c).count = changed_same all probing o (λ z. z.count) refl in
      elim (cases_eq b h) [
        | inl same ↦ subst (λ (c : ℕ). IsExactAt next more c) (sym same)
            (exact_by (said (all h) 0) (said o 1) (said (next h) 0) (said (next probing) 1) (all h).count (next h).count (of_home records h ++ note ∷ []) (of_home more h)
            (own h) (ap (λ z. said z 1) (changed_here all probing o)) (count h) (of_home_own records h finger index)
            (exact_moves (said (all h) 0 ++ said o 1) (all h).count note (of_home records h)
            (exact_with_note (said (all h) 0 ++ said o 1) (said (all h) 0 ++ said (all probing) 1) (all h).count note (of_home records h)
            (more_right (said o 1) (said (all probing) 1) (said (all h) 0) note (filled_more (all probing) k 1 note low unused)) (exact h home))))
        | inr apart ↦ exact_by (said (all b) 0) (said (all (probing_of b)) 1) (said (next b) 0) (said (next (probing_of b)) 1) (all b).count (next b).count (of_home records b) (of_home more b)
            (own b) (ap (λ z. said z 1) (changed_there all probing o (probing_of b) (other_probing b small apart))) (count b)
            (of_home_other records h finger index b (λ e. apart (sym e))) (exact b small)
      ]

  by_count : AreAllExact (changed all h (with_count (all h))) more
  by_count b small =
      let o : Overflow = with_count (all h) in
      let next : ℕ → Overflow = changed all h o in
      let notes : (side c : ℕ) → said (next c) side ≡ said (all c) side = λ side. changed_same all h o (λ z. said z side) refl in
      elim (cases_eq b h) [
        | inl same ↦ subst (λ (c : ℕ). IsExactAt next more c) (sym same)
            (exact_by (said (all h) 0) (said (all probing) 1) (said (next h) 0) (said (next probing) 1) ((all h).count + 1) (next h).count (of_home records h ++ note ∷ []) (of_home more h)
            (notes 0 h) (notes 1 probing) (ap (λ z. z.count) (changed_here all h o)) (of_home_own records h finger index)
            (exact_moves (said (all h) 0 ++ said (all probing) 1) ((all h).count + 1) note (of_home records h)
            (exact_with_count (said (all h) 0 ++ said (all probing) 1) (all h).count note (of_home records h) (exact h home))))
        | inr apart ↦ exact_by (said (all b) 0) (said (all (probing_of b)) 1) (said (next b) 0) (said (next (probing_of b)) 1) (all b).count (next b).count (of_home records b) (of_home more b)
            (notes 0 b) (notes 1 (probing_of b)) (ap (λ z. z.count) (changed_there all h o b apart))
            (of_home_other records h finger index b (λ e. apart (sym e))) (exact b small)
      ]

  by_found : (one two : Option ℕ) → IsFound (all h) one → IsFound (all probing) two → AreAllExact (noted_by one two all (h, finger, index)) more
  by_found (Some k) two at_home at_probing = by_home k at_home.0 at_home.1
  by_found None (Some k) at_home at_probing = by_probing k at_probing.0 at_probing.1
  by_found None None at_home at_probing = by_count

  noted_exact : AreAllExact (noted all (h, finger, index)) more
  noted_exact = by_found (unused_in (all h)) (unused_in (all probing)) (found (all h)) (found (all probing))

-- ---- the ranges
-- a note slot has bits and a byte
pub record IsInRange (slot : NoteSlot) : Type 0 where
  pub used : slot.used < 2
  pub side : slot.side < 2
  pub index : slot.index < 2
  pub finger : slot.finger < 2 ^ 8

abbrev pub AreInRange : (ℕ → Overflow) → Type 0
AreInRange all = (b i : ℕ) → IsInRange ((all b).slots i)

-- a record of one of the homes, in one of the stash buckets, with a fingerprint of a byte
pub record IsEntry (entry : Stashed) : Type 0 where
  pub home : entry.0 < homes
  pub finger : entry.1 < 2 ^ 8
  pub index : entry.2 < stash_buckets

module _ (all : ℕ → Overflow) (entry : Stashed) (is : IsEntry entry) (ranges : AreInRange all) where
  filled_range : (o : Overflow) (k side : ℕ) → side < 2 → ((i : ℕ) → IsInRange (o.slots i)) → (i : ℕ) → IsInRange ((with_note o k (filled_note_slot side (entry.1, entry.2))).slots i)
  filled_range o k side low before i = elim (cases_eq i k) [
    | inl e ↦ subst IsInRange (sym (ap (λ t. cond t (filled_note_slot side (entry.1, entry.2)) (o.slots i)) (eq-eqb i k e)))
        (record { used = omega arith; side = low; index = is.index; finger = is.finger })
    | inr apart ↦ subst IsInRange (sym (ap (λ t. cond t (filled_note_slot side (entry.1, entry.2)) (o.slots i)) (ne_eqb i k apart))) (before i)
  ]

  changed_range : (x : ℕ) (o : Overflow) → ((i : ℕ) → IsInRange (o.slots i)) → AreInRange (changed all x o)
  changed_range x o now b i = elim (cases_eq b x) [
    | inl e ↦ subst (λ (z : Overflow). IsInRange (z.slots i)) (sym (ap (λ t. cond t o (all b)) (eq-eqb b x e))) (now i)
    | inr apart ↦ subst (λ (z : Overflow). IsInRange (z.slots i)) (sym (ap (λ t. cond t o (all b)) (ne_eqb b x apart))) (ranges b i)
  ]

  range_by : (one two : Option ℕ) → AreInRange (noted_by one two all entry)
  range_by (Some k) two = changed_range entry.0 (with_note (all entry.0) k (filled_note_slot 0 (entry.1, entry.2))) (filled_range (all entry.0) k 0 (omega arith) (ranges entry.0))
  range_by None (Some k) =
      changed_range (probing_of entry.0) (with_note (all (probing_of entry.0)) k (filled_note_slot 1 (entry.1, entry.2))) (filled_range (all (probing_of entry.0)) k 1 (omega arith) (ranges (probing_of entry.0)))
  range_by None None = changed_range entry.0 (with_count (all entry.0)) (ranges entry.0)

  noted_range : AreInRange (noted all entry)
  noted_range = range_by (unused_in (all entry.0)) (unused_in (all (probing_of entry.0)))

-- ---- all records are
pub all_exact : (entries records : List Stashed) (all : ℕ → Overflow) → All IsEntry entries → AreAllExact all records → AreAllExact (all_noted entries all) (records ++ entries)
unfolding all_noted
all_exact [] records all are exact = subst (AreAllExact all) (sym (append-nil records)) exact
all_exact (entry ∷ entries) records all are exact =
    subst (AreAllExact (all_noted entries (noted all entry))) (append_assoc records (entry ∷ []) entries)
    (all_exact entries (records ++ entry ∷ []) (noted all entry) (All-tail IsEntry entry entries are)
    (noted_exact all records entry.0 entry.1 entry.2 (All-head IsEntry entry entries are).home exact))

pub all_in_range : (entries : List Stashed) (all : ℕ → Overflow) → All IsEntry entries → AreInRange all → AreInRange (all_noted entries all)
unfolding all_noted
all_in_range [] all are ranges = ranges
all_in_range (entry ∷ entries) all are ranges =
    all_in_range entries (noted all entry) (All-tail IsEntry entry entries are) (noted_range all entry (All-head IsEntry entry entries are) ranges)

-- nothing is exact for no records
pub none_exact : AreAllExact (λ b. no_overflow) []
none_exact b low = record { names_different = λ note. omega arith; counts_others = refl }

pub none_in_range : AreInRange (λ b. no_overflow)
none_in_range b i = record { used = omega arith; side = omega arith; index = omega arith; finger = omega arith }
