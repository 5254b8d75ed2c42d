-- A record that is noted in its home's two buckets leaves the data of the 63 other homes as it was.
use Rattle.std.proofs.Common.{◌≡◌, ◌≢◌, ℕ, ◌+◌, ◌<◌, ◌≤◌, ◌==◌, Bool, List, [], ◌∷◌, ◌++◌, length, filter, map, set, get_or, ap, sym, subst, ◌∙◌, refl, inl, inr, arith, length-append, length-set, append-nil}
use Rattle.std.proofs.lemmas.Bool.{cases_eq}
use Rattle.std.proofs.lemmas.Bool.Decides.{eqb_tells}
use Rattle.std.proofs.lemmas.List.{get_or-set_same, get_or-set_other, map-append}
use Rattle.std.proofs.lemmas.List.Elements.{filter-append}
use Rattle.std.proofs.lemmas.Nat.Bits.{bit_at-zero}
use Rattle.bucket_meta.specs.declared.metadata.Meta.{Meta}
use Rattle.word_bits.specs.Bits.{bit}
use Rattle.bucket_meta.specs.Notes.{OverflowNote, AreExact}
use Rattle.stash.specs.Exact.{notes_at, notes_of, IsExactFor}
use Rattle.stash.specs.Noted.{IsNotedIn, IsNotedInSegment, AreNotedInOrder}
use Rattle.stash.specs.NoteSlots.{note_slot_at, IsBare}
use Rattle.stash.specs.Segment.{Stashed, of_home, bucket, IsExactSegment}
use Rattle.hash_word.specs.Hash.{probing_of}
use Rattle.bucket_meta.proofs.Counts.{same_pieces}
use Rattle.bucket_meta.proofs.ExactNotes.{exact_moves}
use Rattle.stash.proofs.Pieces.{piece, piece_of_unused}

-- ---- the records of one home

pub of_home-append : (a b : List Stashed) (home : ℕ) → of_home (a ++ b) home ≡ of_home a home ++ of_home b home
of_home-append a b home =
    let passes : Stashed → Bool = λ entry. entry.0 == home in
    let note_in_stash : Stashed → OverflowNote = λ entry. (entry.1, entry.2) in
    ap (λ entries. map note_in_stash entries) (filter-append passes a b) ∙ map-append note_in_stash (filter passes a) (filter passes b)

own_alone : (home finger index : ℕ) → of_home ((home, finger, index) ∷ []) home ≡ (finger, index) ∷ []
own_alone home finger index =
    elim (eqb_tells home home) [ inl same ↦ rw (same.0) refl | inr differs ↦ absurd (differs.1 refl) ]

other_alone : (home finger index b : ℕ) → home ≢ b → of_home ((home, finger, index) ∷ []) b ≡ []
other_alone home finger index b other =
    elim (eqb_tells home b) [ inl same ↦ absurd (other same.1) | inr differs ↦ rw (differs.0) refl ]

pub of_home_own : (records : List Stashed) (home finger index : ℕ) → of_home (records ++ (home, finger, index) ∷ []) home ≡ of_home records home ++ (finger, index) ∷ []
of_home_own records home finger index =
    of_home-append records ((home, finger, index) ∷ []) home ∙ ap (λ last. of_home records home ++ last) (own_alone home finger index)

pub of_home_other : (records : List Stashed) (home finger index b : ℕ) → home ≢ b → of_home (records ++ (home, finger, index) ∷ []) b ≡ of_home records b
of_home_other records home finger index b other =
    of_home-append records ((home, finger, index) ∷ []) b ∙ ap (λ last. of_home records b ++ last) (other_alone home finger index b other) ∙ append-nil (of_home records b)

one_at_most : (entry : Stashed) (b : ℕ) → length (of_home (entry ∷ []) b) ≤ 1
one_at_most entry b =
    elim (eqb_tells entry.0 b) [ inl same ↦ rw (same.0) (omega arith) | inr differs ↦ rw (differs.0) (omega arith) ]

pub of_home_at_most : (records : List Stashed) (b : ℕ) → length (of_home records b) ≤ length records
of_home_at_most [] b = omega arith
of_home_at_most (entry ∷ records) b =
    let parts : length (of_home (entry ∷ records) b) ≡ length (of_home (entry ∷ []) b) + length (of_home records b) =
    ap length (of_home-append (entry ∷ []) records b) ∙ length-append (of_home (entry ∷ []) b) (of_home records b) in
    omega (arith, parts, one_at_most entry b, of_home_at_most records b)

-- ---- two buckets are changed

-- what holds of the two changed buckets and of each unchanged one holds of each bucket
pub changed_two : (R : Meta → Meta → Type 0) (metas : List Meta) (home next : ℕ) (own probe : Meta) (b : ℕ) (d : Meta)
    → length metas ≡ 64 → home < 64 → next < 64 → home ≢ next
    → (b ≡ home → R (bucket metas b d) own) → (b ≡ next → R (bucket metas b d) probe) → (b ≢ home → b ≢ next → R (bucket metas b d) (bucket metas b d))
    → R (bucket metas b d) (bucket (set (set metas home own) next probe) b d)
changed_two R metas home next own probe b d long home_in next_in apart at_home at_next elsewhere =
    let Q : Meta → Type 0 = λ new. R (bucket metas b d) new in
    let P : ℕ → Type 0 = λ i. get_or (set (set metas home own) next probe) i d ≡ get_or (set (set metas home own) next probe) b d in
    elim (cases_eq b next) [
      | inl is_next ↦
          let inside : next < length (set metas home own) = omega (arith, length-set metas home own) in
          let e : get_or (set (set metas home own) next probe) next d ≡ probe = get_or-set_same (set metas home own) next probe d inside in
          subst Q (sym (ap (λ i. get_or (set (set metas home own) next probe) i d) is_next ∙ e)) (at_next is_next)
      | inr not_next ↦
          let after : get_or (set (set metas home own) next probe) b d ≡ get_or (set metas home own) b d = get_or-set_other (set metas home own) next b probe d not_next in
          elim (cases_eq b home) [
            | inl is_home ↦
                let inside : home < length metas = omega arith in
                let e : get_or (set metas home own) home d ≡ own = get_or-set_same metas home own d inside in
                subst Q (sym (after ∙ ap (λ i. get_or (set metas home own) i d) is_home ∙ e)) (at_home is_home)
            | inr not_home ↦
                subst Q (sym (after ∙ get_or-set_other metas home b own d not_home)) (elsewhere not_home not_next)
          ]
    ]

-- the data of a home whose notes, count and records are as they were is exact as it was
exact_along : (home home2 probe probe2 : Meta) (stashed stashed2 : List OverflowNote) → notes_at home2 0 ≡ notes_at home 0 → notes_at probe2 1 ≡ notes_at probe 1
    → home2.ocount ≡ home.ocount → stashed2 ≡ stashed → IsExactFor home probe stashed → IsExactFor home2 probe2 stashed2
exact_along home home2 probe probe2 stashed stashed2 own other count records exact =
    let P : List OverflowNote → Type 0 = λ notes. AreExact notes home2.ocount stashed2 in
    let Q : ℕ → Type 0 = λ n. AreExact (notes_of home probe) n stashed2 in
    let R : List OverflowNote → Type 0 = λ held. AreExact (notes_of home probe) home.ocount held in
    let notes : notes_of home2 probe2 ≡ notes_of home probe = ap (λ front. front ++ notes_at probe2 1) own ∙ ap (λ back. notes_at home 0 ++ back) other in
    subst P (sym notes) (subst Q (sym count) (subst R (sym records) exact))

-- a home's bucket and its probing bucket after one more of its records was noted
pub record IsNoted (own probe own2 probe2 : Meta) (note : OverflowNote) : Type 0 where
  pub exact : (stashed : List OverflowNote) → IsExactFor own probe stashed → IsExactFor own2 probe2 (note ∷ stashed)
  pub home_before : notes_at own2 1 ≡ notes_at own 1
  pub home_after : notes_at probe2 0 ≡ notes_at probe 0
  pub count_after : probe2.ocount ≡ probe.ocount

-- side 0 and the count of a bucket are as they were
record SameOwn (old new : Meta) : Type 0 where
  own : notes_at new 0 ≡ notes_at old 0
  count : new.ocount ≡ old.ocount

abbrev SameOther : Meta → Meta → Type 0
SameOther old new = notes_at new 1 ≡ notes_at old 1

-- the two changed buckets, and each other one
home_now : (metas : List Meta) (home next : ℕ) (own probe : Meta) (d : Meta) → length metas ≡ 64 → home < 64 → next < 64 → home ≢ next
    → bucket (set (set metas home own) next probe) home d ≡ own
home_now metas home next own probe d long home_in next_in apart =
    let IsOwn : Meta → Meta → Type 0 = λ old new. new ≡ own in
    changed_two IsOwn metas home next own probe home d long home_in next_in apart (λ e. refl) (λ e. absurd (apart e)) (λ e f. absurd (e refl))

next_now : (metas : List Meta) (home next : ℕ) (own probe : Meta) (d : Meta) → length metas ≡ 64 → home < 64 → next < 64 → home ≢ next
    → bucket (set (set metas home own) next probe) next d ≡ probe
next_now metas home next own probe d long home_in next_in apart =
    let IsProbe : Meta → Meta → Type 0 = λ old new. new ≡ probe in
    changed_two IsProbe metas home next own probe next d long home_in next_in apart (λ e. absurd (apart (sym e))) (λ e. refl) (λ e f. absurd (f refl))

other_now : (metas : List Meta) (home next : ℕ) (own probe : Meta) (b : ℕ) (d : Meta) → b ≢ home → b ≢ next
    → bucket (set (set metas home own) next probe) b d ≡ bucket metas b d
other_now metas home next own probe b d not_home not_next =
    get_or-set_other (set metas home own) next b probe d not_next ∙ get_or-set_other metas home b own d not_home

-- the home whose record it is
noted_own : (metas : List Meta) (home next : ℕ) (own probe own2 probe2 : Meta) (finger index : ℕ) → length metas ≡ 64 → home < 64 → next < 64 → home ≢ next
    → ((d : Meta) → bucket metas home d ≡ own) → ((d : Meta) → bucket metas next d ≡ probe) → IsNoted own probe own2 probe2 (finger, index)
    → (records : List Stashed) (d : Meta) → IsExactFor (bucket metas home d) (bucket metas next d) (of_home records home)
    → IsExactFor (bucket (set (set metas home own2) next probe2) home d) (bucket (set (set metas home own2) next probe2) next d) (of_home (records ++ (home, finger, index) ∷ []) home)
noted_own metas home next own probe own2 probe2 finger index long home_in next_in apart is_own is_probe noted records d exact =
    let note : OverflowNote = (finger, index) in
    let held = of_home records home in
    let later = set (set metas home own2) next probe2 in
    let own_now = home_now metas home next own2 probe2 d long home_in next_in apart in
    let probe_now = next_now metas home next own2 probe2 d long home_in next_in apart in
    let before : IsExactFor own probe held =
    exact_along (bucket metas home d) own (bucket metas next d) probe held held (ap (λ m. notes_at m 0) (sym (is_own d))) (ap (λ m. notes_at m 1) (sym (is_probe d)))
    (ap (λ m. m.ocount) (sym (is_own d))) refl exact in
    let after : IsExactFor own2 probe2 (held ++ note ∷ []) = exact_moves (notes_of own2 probe2) own2.ocount note held (noted.exact held before) in
    exact_along own2 (bucket later home d) probe2 (bucket later next d) (held ++ note ∷ []) (of_home (records ++ (home, finger, index) ∷ []) home)
    (ap (λ m. notes_at m 0) own_now) (ap (λ m. notes_at m 1) probe_now) (ap (λ m. m.ocount) own_now) (of_home_own records home finger index) after

-- another home, b, whose probing bucket is q
noted_other : (metas : List Meta) (home next : ℕ) (own probe own2 probe2 : Meta) (finger index : ℕ) → length metas ≡ 64 → home < 64 → next < 64 → home ≢ next
    → ((d : Meta) → bucket metas home d ≡ own) → ((d : Meta) → bucket metas next d ≡ probe) → IsNoted own probe own2 probe2 (finger, index)
    → (records : List Stashed) (b q : ℕ) (d : Meta) → b ≢ home → q ≢ next → IsExactFor (bucket metas b d) (bucket metas q d) (of_home records b)
    → IsExactFor (bucket (set (set metas home own2) next probe2) b d) (bucket (set (set metas home own2) next probe2) q d) (of_home (records ++ (home, finger, index) ∷ []) b)
noted_other metas home next own probe own2 probe2 finger index long home_in next_in apart is_own is_probe noted records b q d not_home not_next exact =
    let later = set (set metas home own2) next probe2 in
    let first : SameOwn (bucket metas b d) (bucket later b d) =
    changed_two SameOwn metas home next own2 probe2 b d long home_in next_in apart (λ e. absurd (not_home e))
    (λ e.
    let was : bucket metas b d ≡ probe = ap (λ i. bucket metas i d) e ∙ is_probe d in
    record { own = noted.home_after ∙ sym (ap (λ m. notes_at m 0) was); count = noted.count_after ∙ sym (ap (λ m. m.ocount) was) })
    (λ e f. record { own = refl; count = refl }) in
    let second : SameOther (bucket metas q d) (bucket later q d) =
    changed_two SameOther metas home next own2 probe2 q d long home_in next_in apart
    (λ e.
    let was : bucket metas q d ≡ own = ap (λ i. bucket metas i d) e ∙ is_own d in
    noted.home_before ∙ sym (ap (λ m. notes_at m 1) was))
    (λ e. absurd (not_next e)) (λ e f. refl) in
    exact_along (bucket metas b d) (bucket later b d) (bucket metas q d) (bucket later q d) (of_home records b) (of_home (records ++ (home, finger, index) ∷ []) b)
    first.own second first.count (of_home_other records home finger index b (λ e. not_home (sym e))) exact

next_apart : (home : ℕ) → home < 64 → home ≢ probing_of home
next_apart home within = omega arith

next_within : (home : ℕ) → probing_of home < 64
next_within home = omega arith

next_one_to_one : (b home : ℕ) → b < 64 → home < 64 → b ≢ home → probing_of b ≢ probing_of home
next_one_to_one b home b_in home_in other same = absurd (omega arith)

pub noted_in : (metas : List Meta) (home : ℕ) (own probe own2 probe2 : Meta) (finger index : ℕ) → length metas ≡ 64 → home < 64
    → ((d : Meta) → bucket metas home d ≡ own) → ((d : Meta) → bucket metas (probing_of home) d ≡ probe) → IsNoted own probe own2 probe2 (finger, index)
    → (records : List Stashed) → IsExactSegment metas records
    → IsExactSegment (set (set metas home own2) (probing_of home) probe2) (records ++ (home, finger, index) ∷ [])
noted_in metas home own probe own2 probe2 finger index long home_in is_own is_probe noted records exact b d within =
    let later = set (set metas home own2) (probing_of home) probe2 in
    let IsExactAt : ℕ → Type 0 = λ i. IsExactFor (bucket later i d) (bucket later (probing_of i) d) (of_home (records ++ (home, finger, index) ∷ []) i) in
    elim (cases_eq b home) [
      | inl is_home ↦
          subst IsExactAt (sym is_home) (noted_own metas home (probing_of home) own probe own2 probe2 finger index long home_in (next_within home) (next_apart home home_in)
          is_own is_probe noted records d (exact home d home_in))
      | inr not_home ↦
          noted_other metas home (probing_of home) own probe own2 probe2 finger index long home_in (next_within home) (next_apart home home_in)
          is_own is_probe noted records b (probing_of b) d not_home (next_one_to_one b home within home_in not_home) (exact b d within)
    ]

-- a home has no more records without a note than the segment has records in the stash
pub count_at_most : (metas : List Meta) (records : List Stashed) (b : ℕ) (d : Meta) → IsExactSegment metas records → b < 64 → (bucket metas b d).ocount ≤ length records
count_at_most metas records b d exact within =
    omega (arith, (exact b d within).counts_others, of_home_at_most records b)

-- ---- buckets that say nothing of the stash are exact for a stash without records

bare_notes : (meta : Meta) (side : ℕ) → IsBare meta → notes_at meta side ≡ []
bare_notes meta side bare =
    same_pieces (λ i. []) (λ i. piece side (note_slot_at meta i)) 4
    (λ i within. piece_of_unused side (note_slot_at meta i) (ap (λ n. bit i n) bare.used ∙ bit_at-zero i))

pub exact_bare : (metas : List Meta) → ((b : ℕ) (d : Meta) → b < 64 → IsBare (bucket metas b d)) → IsExactSegment metas []
exact_bare metas bare b d within =
    let home = bucket metas b d in
    let probe = bucket metas (probing_of b) d in
    let none : notes_of home probe ≡ [] =
    ap (λ front. front ++ notes_at probe 1) (bare_notes home 0 (bare b d within)) ∙ bare_notes probe 1 (bare (probing_of b) d (next_within b)) in
    let P : List OverflowNote → Type 0 = λ notes. AreExact notes home.ocount [] in
    subst P (sym none) (record { names_different = λ note. omega arith; counts_others = omega (arith, (bare b d within).ocount) })

-- ---- records noted in turn

noted_along : (own own' probe probe' own2 own2' probe2 probe2' : Meta) (note : OverflowNote) → own' ≡ own → probe' ≡ probe → own2' ≡ own2 → probe2' ≡ probe2
    → IsNotedIn own probe own2 probe2 note → IsNotedIn own' probe' own2' probe2' note
noted_along own own' probe probe' own2 own2' probe2 probe2' note a b c d noted =
    let P : Meta → Type 0 = λ m. IsNotedIn m probe own2 probe2 note in
    let Q : Meta → Type 0 = λ m. IsNotedIn own' m own2 probe2 note in
    let R : Meta → Type 0 = λ m. IsNotedIn own' probe' m probe2 note in
    let S : Meta → Type 0 = λ m. IsNotedIn own' probe' own2' m note in
    subst S (sym d) (subst R (sym c) (subst Q (sym b) (subst P (sym a) noted)))

pub noted_in_segment : (metas : List Meta) (home : ℕ) (own probe own2 probe2 : Meta) (finger index : ℕ) → length metas ≡ 64 → home < 64
    → ((d : Meta) → bucket metas home d ≡ own) → ((d : Meta) → bucket metas (probing_of home) d ≡ probe) → IsNotedIn own probe own2 probe2 (finger, index)
    → IsNotedInSegment metas (set (set metas home own2) (probing_of home) probe2) (home, finger, index)
noted_in_segment metas home own probe own2 probe2 finger index long home_in is_own is_probe noted =
    record {
      in_two = λ d. noted_along own _ probe _ own2 _ probe2 _ (finger, index) (is_own d) (is_probe d)
          (home_now metas home (probing_of home) own2 probe2 d long home_in (next_within home) (next_apart home home_in))
          (next_now metas home (probing_of home) own2 probe2 d long home_in (next_within home) (next_apart home home_in)) noted;
      others = λ b d within not_home not_next. other_now metas home (probing_of home) own2 probe2 b d not_home not_next;
    }

pub one_more_in_order : (records : List Stashed) (entry : Stashed) (old between new : List Meta) → AreNotedInOrder records old between → IsNotedInSegment between new entry
    → AreNotedInOrder (records ++ entry ∷ []) old new
one_more_in_order [] entry old between new noted last =
    let P : List Meta → Type 0 = λ metas. IsNotedInSegment metas new entry in
    (new, subst P noted last, refl)
one_more_in_order (first ∷ records) entry old between new noted last =
    (noted.0, noted.1, one_more_in_order records entry noted.0 between new noted.2 last)
