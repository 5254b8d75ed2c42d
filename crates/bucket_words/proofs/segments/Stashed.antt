-- The records of a home in the stash: notes that are exact name them, and a record that comes there or leaves is one more or one less.
use Rattle.std.proofs.Common.{◌≡◌, ℕ, zero, suc, ◌+◌, ◌<◌, ◌≤◌, List, [], ◌∷◌, ◌++◌, length, refl, sym, ap, subst, ◌∙◌, inl, inr, arith}
use Rattle.std.proofs.lemmas.Bool.{cases_eq, eq-eqb, ne_eqb}
use Rattle.hash_word.specs.Hash.{home_of, finger_of}
use Rattle.bucket_meta.specs.Notes.{OverflowNote, how_often, AreExact}
use Rattle.bucket_meta.specs.Bucket.{allocated, overflow_count, record_slots}
use Rattle.bucket_meta.proofs.Counts.{IsSum, same_pieces, changed_piece, piece_at_most, how_often-is_sum, length-is_sum, how_often-append}
use Rattle.bucket_meta.proofs.ExactNotes.{same_or_other, often_head, each_is_named}
use Rattle.trace.specs.Events.{Words}
use Rattle.image_layout.specs.Places.{Shape, bucket_at, key_at, homes, stash_buckets}
use Rattle.image_layout.specs.Standing.{stash_piece}
use Rattle.segment_table.specs.Records.{key_hash, word_in, notes_of, stashed_in, stashed_of, HasExactNotes}
use Rattle.bucket_words.specs.Buckets.{IsTaken}
use Rattle.bucket_words.specs.Slots.{SameSlot}
use Rattle.bucket_words.specs.Hits.{Hit}
use Rattle.bucket_words.specs.HomeNotes.{IsUnnoted}
use Rattle.bucket_words.specs.TableChanges.{ChangesSlot}
use Rattle.bucket_words.proofs.segments.changes.OneSlot.{cases_place, new_key, old_key}

-- what a slot of stash bucket c gives home d, by its allocation bit and its key: its note, or nothing
abbrev pub piece_by : Shape → ℕ → ℕ → ℕ → ℕ → List OverflowNote
piece_by shape d c bit key = stash_piece d c bit (key_hash shape key)

pub taken_piece : (shape : Shape) (d c bit key : ℕ) → bit ≡ 1 → home_of (key_hash shape key) ≡ d → piece_by shape d c bit key ≡ (finger_of (key_hash shape key), c) ∷ []
taken_piece shape d c bit key taken home = rw (eq-eqb bit 1 taken, eq-eqb (home_of (key_hash shape key)) d home) refl

pub free_piece : (shape : Shape) (d c bit key : ℕ) → (bit ≡ 1 → ⊥) → piece_by shape d c bit key ≡ []
free_piece shape d c bit key free = rw (ne_eqb bit 1 free) refl

pub other_piece : (shape : Shape) (d c bit key : ℕ) → (bit ≡ 1 → home_of (key_hash shape key) ≡ d → ⊥) → piece_by shape d c bit key ≡ []
other_piece shape d c bit key apart = elim (cases_eq bit 1) [
  | inl e ↦ rw (eq-eqb bit 1 e, ne_eqb (home_of (key_hash shape key)) d (apart e)) refl
  | inr n ↦ free_piece shape d c bit key n
]

once_there : (note : OverflowNote) → how_often note (note ∷ []) ≡ 1
once_there note = elim (same_or_other note note) [ inl same ↦ same.1 | inr differs ↦ absurd (differs.0 refl) ]

module _ (shape : Shape) (word : Words) (s : ℕ) where
  abbrev pub pieces : ℕ → ℕ → ℕ → List OverflowNote
  pieces d c t = piece_by shape d c (allocated t (word_in shape word s (homes + c) 1)) (word (key_at shape s (homes + c) t))

  -- A RECORD IN THE STASH is one of its home's there
  hit_piece : (c t k : ℕ) → Hit shape word s (homes + c) t k → pieces (home_of (key_hash shape k)) c t ≡ (finger_of (key_hash shape k), c) ∷ []
  hit_piece c t k h =
      let key : word (key_at shape s (homes + c) t) ≡ k = h.key in
      taken_piece shape (home_of (key_hash shape k)) c (allocated t (word_in shape word s (homes + c) 1)) (word (key_at shape s (homes + c) t)) h.taken
      (ap (λ z. home_of (key_hash shape z)) key) ∙ ap (λ z. (finger_of (key_hash shape z), c) ∷ []) key

  in_bucket : (c t k : ℕ) → Hit shape word s (homes + c) t k → 0 < how_often (finger_of (key_hash shape k), c) (stashed_in shape word s (home_of (key_hash shape k)) c)
  in_bucket c t k h =
      let note : OverflowNote = (finger_of (key_hash shape k), c) in
      let most = piece_at_most (how_often note) (how_often-is_sum note) (pieces (home_of (key_hash shape k)) c) t 14 h.slot in
      let one : how_often note (pieces (home_of (key_hash shape k)) c t) ≡ 1 = ap (how_often note) (hit_piece c t k h) ∙ once_there note in
      omega (arith, most, one)

  pub hit_stashed : (c t k : ℕ) → c < stash_buckets → Hit shape word s (homes + c) t k
      → 0 < how_often (finger_of (key_hash shape k), c) (stashed_of shape word s (home_of (key_hash shape k)))
  hit_stashed zero t k small h =
      let here = in_bucket 0 t k h in
      let both = how_often-append (finger_of (key_hash shape k), 0) (stashed_in shape word s (home_of (key_hash shape k)) 0) (stashed_in shape word s (home_of (key_hash shape k)) 1) in
      omega (arith, here, both)
  hit_stashed (suc zero) t k small h =
      let here = in_bucket 1 t k h in
      let both = how_often-append (finger_of (key_hash shape k), 1) (stashed_in shape word s (home_of (key_hash shape k)) 0) (stashed_in shape word s (home_of (key_hash shape k)) 1) in
      omega (arith, here, both)
  hit_stashed (suc (suc c)) t k small h = absurd (omega (arith, small))

  -- what exact notes do not name is not there
  pub not_there : (c t k : ℕ) → c < stash_buckets → HasExactNotes shape word s (home_of (key_hash shape k))
      → IsUnnoted shape word s (home_of (key_hash shape k)) (finger_of (key_hash shape k)) c → Hit shape word s (homes + c) t k → ⊥
  not_there c t k small exact unnoted h =
      let named = each_is_named (notes_of shape word s (home_of (key_hash shape k))) (stashed_of shape word s (home_of (key_hash shape k)))
      (overflow_count (word_in shape word s (home_of (key_hash shape k)) 1)) (finger_of (key_hash shape k), c) exact unnoted.counted (hit_stashed c t k small h) in
      let none = unnoted.none in
      omega (arith, named, none)

-- a slot that stays gives what it gave
module _ (shape : Shape) (word other : Words) (s : ℕ) where
  pub piece_same : (d c t : ℕ) → SameSlot word other (bucket_at shape s (homes + c)) t → pieces shape other s d c t ≡ pieces shape word s d c t
  piece_same d c t same = elim (cases_eq (allocated t (word_in shape word s (homes + c) 1)) 1) [
    | inl taken ↦
        ap (λ a. piece_by shape d c a (other (key_at shape s (homes + c) t))) same.taken
        ∙ ap (piece_by shape d c (allocated t (word_in shape word s (homes + c) 1))) (same.key taken)
    | inr free ↦
        free_piece shape d c (allocated t (word_in shape other s (homes + c) 1)) (other (key_at shape s (homes + c) t)) (λ e. free (sym same.taken ∙ e))
        ∙ sym (free_piece shape d c (allocated t (word_in shape word s (homes + c) 1)) (word (key_at shape s (homes + c) t)) free)
  ]

  pub stashed_by_pieces : (d : ℕ) → ((c t : ℕ) → c < stash_buckets → t < record_slots → pieces shape other s d c t ≡ pieces shape word s d c t)
      → stashed_of shape other s d ≡ stashed_of shape word s d
  stashed_by_pieces d same =
      ap (λ z. z ++ stashed_in shape other s d 1) (same_pieces (pieces shape word s d 0) (pieces shape other s d 0) 14 (λ t slot. same 0 t (omega arith) slot))
      ∙ ap (λ z. stashed_in shape word s d 0 ++ z) (same_pieces (pieces shape word s d 1) (pieces shape other s d 1) 14 (λ t slot. same 1 t (omega arith) slot))

  -- where no slot of the stash changes, the home has there what it had
  pub stashed_same : (d : ℕ) → ((c t : ℕ) → c < stash_buckets → t < record_slots → SameSlot word other (bucket_at shape s (homes + c)) t)
      → stashed_of shape other s d ≡ stashed_of shape word s d
  stashed_same d same = stashed_by_pieces d (λ c t small slot. piece_same d c t (same c t small slot))

-- A CHANGE OF ONE SLOT leaves the stash records of each home but the key's, and those too unless the slot is one of the stash
module _ (shape : Shape) (word other : Words) (s b r k : ℕ) (change : ChangesSlot shape word other s b r k) where
  pub others_stashed : (q d : ℕ) → q < shape.segments → (q ≡ s → homes ≤ b → d ≡ home_of (key_hash shape k) → ⊥) → stashed_of shape other q d ≡ stashed_of shape word q d
  others_stashed q d segment apart = stashed_by_pieces shape word other q d each
    where
      not_own : (c t l : ℕ) → (q ≡ s) × (homes + c ≡ b) × (t ≡ r) → l ≡ k → home_of (key_hash shape l) ≡ d → ⊥
      not_own c t l place key home =
          let at = place.1 in apart place.0 (omega (arith, at)) (sym home ∙ ap (λ z. home_of (key_hash shape z)) key)

      none_after : (c t : ℕ) → c < stash_buckets → t < record_slots → (q ≡ s) × (homes + c ≡ b) × (t ≡ r) → pieces shape other q d c t ≡ []
      none_after c t small slot place = other_piece shape d c (allocated t (word_in shape other q (homes + c) 1)) (other (key_at shape q (homes + c) t))
          (λ taken home. not_own c t (other (key_at shape q (homes + c) t)) place
          (new_key shape word other s b r k change q (homes + c) t (other (key_at shape q (homes + c) t))
          (record { segment = segment; bucket = omega (arith, small); slot = slot; taken = taken; key = refl }) place) home)

      none_before : (c t : ℕ) → c < stash_buckets → t < record_slots → (q ≡ s) × (homes + c ≡ b) × (t ≡ r) → pieces shape word q d c t ≡ []
      none_before c t small slot place = other_piece shape d c (allocated t (word_in shape word q (homes + c) 1)) (word (key_at shape q (homes + c) t))
          (λ taken home. not_own c t (word (key_at shape q (homes + c) t)) place
          (old_key shape word other s b r k change q (homes + c) t (word (key_at shape q (homes + c) t))
          (record { segment = segment; bucket = omega (arith, small); slot = slot; taken = taken; key = refl }) place) home)

      each : (c t : ℕ) → c < stash_buckets → t < record_slots → pieces shape other q d c t ≡ pieces shape word q d c t
      each c t small slot = elim (cases_place shape word other s b r k change q (homes + c) t) [
        | inl place ↦ none_after c t small slot place ∙ sym (none_before c t small slot place)
        | inr away ↦ piece_same shape word other q d c t (change.others q (homes + c) t segment (omega (arith, small)) slot away)
      ]

-- and where it is one, the key's home has there one more, or one less
module _ (shape : Shape) (word other : Words) (s c r k : ℕ) (small : c < stash_buckets) (slot : r < record_slots)
    (change : ChangesSlot shape word other s (homes + c) r k) where
  abbrev home : ℕ
  home = home_of (key_hash shape k)

  abbrev note : OverflowNote
  note = (finger_of (key_hash shape k), c)

  module _ (f : List OverflowNote → ℕ) (is : IsSum f) where
    in_this : f (stashed_in shape other s home c) + f (pieces shape word s home c r) ≡ f (stashed_in shape word s home c) + f (pieces shape other s home c r)
    in_this = changed_piece f is (pieces shape word s home c) (pieces shape other s home c) r 14 slot
        (λ t below apart. piece_same shape word other s home c t (change.others s (homes + c) t change.segment (omega (arith, small)) below (λ _ _ e. apart e)))

    in_other : (e : ℕ) → e < stash_buckets → (e ≡ c → ⊥) → f (stashed_in shape other s home e) ≡ f (stashed_in shape word s home e)
    in_other e near apart = ap f (same_pieces (pieces shape word s home e) (pieces shape other s home e) 14
        (λ t below. piece_same shape word other s home e t
        (change.others s (homes + e) t change.segment (omega (arith, near)) below (λ _ same _. apart (omega (arith, same))))))

    in_both : f (stashed_of shape other s home) + f (pieces shape word s home c r) ≡ f (stashed_of shape word s home) + f (pieces shape other s home c r)
    in_both =
        let after : f (stashed_of shape other s home) ≡ f (stashed_in shape other s home 0) + f (stashed_in shape other s home 1) = is.both _ _ in
        let before : f (stashed_of shape word s home) ≡ f (stashed_in shape word s home 0) + f (stashed_in shape word s home 1) = is.both _ _ in
        elim (cases_eq c 0) [
          | inl e ↦
              let here = subst (λ (z : ℕ). f (stashed_in shape other s home z) + f (pieces shape word s home c r) ≡ f (stashed_in shape word s home z) + f (pieces shape other s home c r)) e in_this in
              let there = in_other 1 (omega arith) (λ x. omega (arith, x, e)) in
              omega (arith, after, before, here, there)
          | inr n ↦
              let one : c ≡ 1 = omega (arith, n, small) in
              let here = subst (λ (z : ℕ). f (stashed_in shape other s home z) + f (pieces shape word s home c r) ≡ f (stashed_in shape word s home z) + f (pieces shape other s home c r)) one in_this in
              let there = in_other 0 (omega arith) (λ x. n (sym x)) in
              omega (arith, after, before, here, there)
        ]

  -- A RECORD COMES TO THE STASH
  module _ (free : IsTaken word (bucket_at shape s (homes + c)) r → ⊥) (there : Hit shape other s (homes + c) r k) where
    pub one_more : (f : List OverflowNote → ℕ) → IsSum f → f (stashed_of shape other s home) ≡ f (stashed_of shape word s home) + f (note ∷ [])
    one_more f is =
        let before : f (pieces shape word s home c r) ≡ 0 =
        ap f (free_piece shape home c (allocated r (word_in shape word s (homes + c) 1)) (word (key_at shape s (homes + c) r)) free) ∙ is.none in
        let after : f (pieces shape other s home c r) ≡ f (note ∷ []) = ap f (hit_piece shape other s c r k there) in
        omega (arith, before, after, in_both f is)

    -- its note is owed
    pub comes : (notes : List OverflowNote) (count : ℕ) → AreExact notes count (stashed_of shape word s home) → AreExact (note ∷ notes) count (stashed_of shape other s home)
    comes notes count exact = record {
      names_different = λ n.
          let more = one_more (how_often n) (how_often-is_sum n) in
          let head = often_head n note notes in
          omega (arith, more, head, exact.names_different n);
      counts_others =
          let more : length (stashed_of shape other s home) ≡ length (stashed_of shape word s home) + 1 = one_more length length-is_sum in
          let longer : length (note ∷ notes) ≡ length notes + 1 = omega arith in
          let counts = exact.counts_others in
          omega (arith, more, longer, counts);
    }

  -- A RECORD LEAVES THE STASH
  module _ (there : Hit shape word s (homes + c) r k) (free : IsTaken other (bucket_at shape s (homes + c)) r → ⊥) where
    pub one_less : (f : List OverflowNote → ℕ) → IsSum f → f (stashed_of shape word s home) ≡ f (stashed_of shape other s home) + f (note ∷ [])
    one_less f is =
        let after : f (pieces shape other s home c r) ≡ 0 =
        ap f (free_piece shape home c (allocated r (word_in shape other s (homes + c) 1)) (other (key_at shape s (homes + c) r)) free) ∙ is.none in
        let before : f (pieces shape word s home c r) ≡ f (note ∷ []) = ap f (hit_piece shape word s c r k there) in
        omega (arith, before, after, in_both f is)

    -- its note is to be taken away
    pub leaves : (notes : List OverflowNote) (count : ℕ) → AreExact notes count (stashed_of shape word s home) → AreExact notes count (note ∷ stashed_of shape other s home)
    leaves notes count exact = record {
      names_different = λ n.
          let less = one_less (how_often n) (how_often-is_sum n) in
          let head = often_head n note (stashed_of shape other s home) in
          omega (arith, less, head, exact.names_different n);
      counts_others =
          let less : length (stashed_of shape word s home) ≡ length (stashed_of shape other s home) + 1 = one_less length length-is_sum in
          let longer : length (note ∷ stashed_of shape other s home) ≡ length (stashed_of shape other s home) + 1 = omega arith in
          let counts = exact.counts_others in
          omega (arith, less, longer, counts);
    }
