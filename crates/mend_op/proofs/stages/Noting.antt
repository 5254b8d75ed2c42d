-- A word of the notes is stored, and what the segment is once all are.
use Rattle.std.proofs.Common.{◌≡◌, ℕ, ◌+◌, ◌*◌, ◌/◌, ◌%◌, ◌^◌, ◌<◌, ◌≤◌, List, ◌++◌, slice_index, inl, inr, sym, ap, ◌∙◌, subst, arith}
use Rattle.std.proofs.lemmas.Bool.{cases_eq, cases_lt}
use Rattle.trace.specs.Events.{Words}
use Rattle.hash_word.specs.Hash.{probing_of}
use Rattle.word_bits.specs.Bits.{bit}
use Rattle.word_bits.proofs.OneBit.{bit_of_bits}
use Rattle.bucket_meta.specs.Bucket.{overflow_count, record_slots}
use Rattle.bucket_meta.specs.Notes.{OverflowNote, AreExact, notes_by}
use Rattle.image_layout.specs.Places.{Shape, bucket_at, homes, buckets, block, words_of_buckets}
use Rattle.sound_image.specs.Records.{key_hash, word_in, slot_key}
use Rattle.sound_image.specs.Records as image
use Rattle.whole_segment.specs.Records.{Stands}
use Rattle.image_layout.specs.Standing.{stashed_of}
use Rattle.whole_segment.specs.Rebuilding.{first_with, third_with}
use Rattle.whole_segment.proofs.Stashing.{stashed_same}
use Rattle.whole_segment.proofs.rebuilding.Written.{made_keeps, made_notes}
use Rattle.bucket_words.specs.Core.{core_of}
use Rattle.bucket_words.proofs.segments.Cores.{core_in}
use Rattle.world.specs.Ground.{Ground, IsGround}
use Rattle.world.specs.Views.{View}
use Rattle.world.specs.Holders.{KnowsWord}
use Rattle.world.specs.areas.Kinds.{sets}
use Rattle.world.specs.areas.Asking.{MayAt}
use Rattle.world.proofs.holders.mending.Mending.{may_mend}
use Rattle.rounds.specs.Stands.{IsSettled}
use Rattle.rounds.proofs.Settling.{settled_firm}
use Rattle.repair_op.specs.declared.guarded.Guarded.{Guarded}
use Rattle.repair_op.specs.Guarded.{IsOld}
use Rattle.mend_op.specs.declared.stage.Stage.TheVariants.{Note}
use Rattle.mend_op.specs.declared.op.MendOp.{MendOp}
use Rattle.mend_op.specs.Words.{first_of, third_of, key_of, notes_of}
use Rattle.mend_op.specs.Stages.{most, place, made_word, made}
use Rattle.mend_op.specs.Stands.{place_of, AreMended, HasAll, IsPartly}
use Rattle.mend_op.proofs.stages.Placing.{place_low, made_is, first_at, third_at, noted_else, noted_stash}
use Rattle.mend_op.proofs.whole.Words.{mend_words, header_here, bucket_here, key_here, number_is}
use Rattle.mend_op.proofs.whole.Known.{has_stale, knows_place, no_sides}

-- ---- the store of a word
module _ (site : Ground) (ground : IsGround site) (op : MendOp) (same_shape : op.guarded.site.geometry ≡ site.shape) (old : IsOld site op.guarded)
    (base : List ℕ) (n : ℕ) (near : n < most Note) (partly : IsPartly op.guarded op.words op.next Note base n) where
  abbrev s : ℕ
  s = op.guarded.segment

  abbrev head : ℕ
  head = op.guarded.head

  abbrev here : ℕ
  here = place Note n

  value_is : slice_index op.next here ≡ made_word Note site.shape head base here
  value_is =
      ap (λ (l : List ℕ). slice_index l here) partly.makes ∙ made_is base op.guarded.site.geometry head Note here (place_low Note n near)
      ∙ ap (λ (g : Shape). made_word Note g head base here) same_shape

  -- it has the core of the word there
  abbrev SameCore : (b m : ℕ) → Type 0
  SameCore b m = core_of site.shape (bucket_at site.shape s b + m) (slice_index op.next here) ≡ core_of site.shape (bucket_at site.shape s b + m) (slice_index base here)

  first_core : (b : ℕ) → b < homes → here ≡ block * b + 1 → SameCore b 1
  first_core b home is =
      let near : b < buckets = omega (arith, home) in
      let value = value_is ∙ ap (made_word Note site.shape head base) is ∙ first_at base site.shape head b home in
      let keeps = (made_keeps (first_of base) (third_of base) (key_of base) (key_hash site.shape) b home).slots in
      core_in site.shape s b 1 (slice_index op.next here) old.within near (omega arith)
      ∙ (ap (λ w. w % 2 ^ 28) value ∙ keeps ∙ ap (λ i. slice_index base i % 2 ^ 28) (sym is))
      ∙ sym (core_in site.shape s b 1 (slice_index base here) old.within near (omega arith))

  third_core : (b : ℕ) → b < homes → here ≡ block * b + 3 → SameCore b 3
  third_core b home is =
      let near : b < buckets = omega (arith, home) in
      let value = value_is ∙ ap (made_word Note site.shape head base) is ∙ third_at base site.shape head b home in
      let keeps = (made_keeps (first_of base) (third_of base) (key_of base) (key_hash site.shape) b home).fingers in
      core_in site.shape s b 3 (slice_index op.next here) old.within near (omega arith)
      ∙ (ap (λ w. w % 2 ^ 48) value ∙ keeps ∙ ap (λ i. slice_index base i % 2 ^ 48) (sym is))
      ∙ sym (core_in site.shape s b 3 (slice_index base here) old.within near (omega arith))

  pub was : slice_index op.words here ≡ slice_index base here
  was = partly.behind n (omega arith) near

  -- where it stands in its bucket
  pub record IsNote : Type 0 where
    pub home : ℕ
    pub number : ℕ
    pub low : home < homes
    pub from : 1 ≤ number
    pub to : number ≤ 3
    pub is : here ≡ block * home + number
    pub core : SameCore home number

  note_is : IsNote
  note_is = elim (cases_eq (n % 2) 0) [
    | inl even ↦ (let is : here ≡ block * (n / 2) + 1 = omega (arith, even) in let low : n / 2 < homes = omega (arith, near) in
        record { home = n / 2; number = 1; low = low; from = omega arith; to = omega arith; is = is; core = first_core (n / 2) low is })
    | inr odd ↦ (let is : here ≡ block * (n / 2) + 3 = omega (arith, odd) in let low : n / 2 < homes = omega (arith, near) in
        record { home = n / 2; number = 3; low = low; from = omega arith; to = omega arith; is = is; core = third_core (n / 2) low is })
  ]

  module _ (v : View) (all : HasAll site op.guarded op.words v) (settled : IsSettled v) where
    abbrev at : ℕ → ℕ
    at b = bucket_at site.shape s b

    place_is : at note_is.home + note_is.number ≡ place_of site op.guarded here
    place_is = number_is site.shape s note_is.home note_is.number ∙ ap (place_of site op.guarded) (sym note_is.is)

    pub note_may : MayAt site (sets (place_of site op.guarded here) (slice_index op.next here)) v
    note_may =
        let b : ℕ = note_is.home in
        let m : ℕ = note_is.number in
        let near : b < buckets = (let low = note_is.low in omega (arith, low)) in
        subst (λ i. MayAt site (sets i (slice_index op.next here)) v) place_is
        ((may_mend site v ground).rebuild s b m (slice_index op.next here) (slice_index base here) (mend_words site.shape s base head)
        (has_stale site op.guarded op.words words_of_buckets v all old (mend_words site.shape s base head) (header_here site.shape s base head) (λ y loose. settled_firm v settled _ loose))
        (no_sides site op.guarded op.words words_of_buckets v all) near note_is.from note_is.to
        (subst (λ i. KnowsWord v i (slice_index base here)) (sym place_is)
        (knows_place site op.guarded op.words words_of_buckets v all here (slice_index base here) (place_low Note n near_here) was (λ y loose. settled_firm v settled _ loose)))
        note_is.core)
      where
        near_here : n < most Note
        near_here = near

    pub same_core : core_of site.shape (place_of site op.guarded here) (slice_index op.next here) ≡ core_of site.shape (place_of site op.guarded here) (slice_index base here)
    same_core = subst (λ i. core_of site.shape i (slice_index op.next here) ≡ core_of site.shape i (slice_index base here)) place_is note_is.core

-- ---- ONCE ALL ARE STORED
module _ (site : Ground) (guarded : Guarded) (old : IsOld site guarded) (base : List ℕ) (mended : AreMended site guarded base) where
  abbrev shape : Shape
  shape = site.shape

  abbrev left : List ℕ
  left = made Note shape guarded.head base

  abbrev words : Words
  words = mend_words shape guarded.segment left guarded.head

  -- words 1 and 3 of homes say of the record slots what they said, and the others are as they were
  low_bit : (r w x : ℕ) → r < 14 → w % 2 ^ 28 ≡ x % 2 ^ 28 → bit r w ≡ bit r x
  low_bit r w x low same =
      let bits_same : w / 2 ^ 0 % 2 ^ 28 ≡ x / 2 ^ 0 % 2 ^ 28 = omega (arith, same) in
      let from_first : 0 + r ≡ r = omega arith in
      sym (bit_of_bits 0 28 r w (omega (arith, low)) ∙ ap (λ i. bit i w) from_first) ∙ ap (bit r) bits_same ∙ (bit_of_bits 0 28 r x (omega (arith, low)) ∙ ap (λ i. bit i x) from_first)

  first_home : (b : ℕ) → b < homes → first_of left b ≡ first_with (first_of base b) (notes_of base shape guarded.head b)
  first_home b home = made_is base shape guarded.head Note (block * b + 1) (omega (arith, home)) ∙ first_at base shape guarded.head b home

  third_home : (b : ℕ) → b < homes → third_of left b ≡ third_with (third_of base b) (notes_of base shape guarded.head b)
  third_home b home = made_is base shape guarded.head Note (block * b + 3) (omega (arith, home)) ∙ third_at base shape guarded.head b home

  first_stash : (b : ℕ) → homes ≤ b → b < buckets → first_of left b ≡ first_of base b
  first_stash b stash near = made_is base shape guarded.head Note (block * b + 1) (omega (arith, near)) ∙ noted_stash base shape guarded.head (block * b + 1) (omega (arith, stash))

  slots : (b : ℕ) → b < buckets → first_of left b % 2 ^ 28 ≡ first_of base b % 2 ^ 28
  slots b near = elim (cases_lt b homes) [
    | inl home ↦ ap (λ w. w % 2 ^ 28) (first_home b home) ∙ (made_keeps (first_of base) (third_of base) (key_of base) (key_hash shape) b home).slots
    | inr stash ↦ ap (λ w. w % 2 ^ 28) (first_stash b stash near)
  ]

  left_key : (b r : ℕ) → b < buckets → r < record_slots → key_of left b r ≡ key_of base b r
  left_key b r near low =
      let i : ℕ = block * b + (4 + 2 * r) in
      made_is base shape guarded.head Note i (omega (arith, near, low)) ∙ noted_else base shape guarded.head i (λ one. omega (arith, one, low)) (λ three. omega (arith, three, low))

  stood : (b r k : ℕ) → Stands (first_of left) (key_of left) b r k → Stands (first_of base) (key_of base) b r k
  stood b r k stands = record {
    bucket = stands.bucket;
    slot = stands.slot;
    taken = sym (low_bit r (first_of left b) (first_of base b) stands.slot (slots b stands.bucket)) ∙ stands.taken;
    has_key = sym (left_key b r stands.bucket stands.slot) ∙ stands.has_key;
  }

  -- the segment is mended still
  pub still_mended : AreMended site guarded left
  still_mended = record {
    own = λ b r k stands. mended.own b r k (stood b r k stands);
    once = λ b r c t k one other. mended.once b r c t k (stood b r k one) (stood c t k other);
    free = λ b near. ap (λ w. w % 2) (made_is base shape guarded.head Note (block * b) (omega (arith, near)) ∙ noted_else base shape guarded.head (block * b) (λ one. omega (arith, one)) (λ three. omega (arith, three))) ∙ mended.free b near;
  }

  -- ---- NOTES ARE EXACT
  abbrev first_made : ℕ → ℕ
  first_made b = first_with (first_of base b) (notes_of base shape guarded.head b)

  abbrev third_made : ℕ → ℕ
  third_made b = third_with (third_of base b) (notes_of base shape guarded.head b)

  first_here : (b : ℕ) → b < homes → word_in shape words guarded.segment b 1 ≡ first_made b
  first_here b home = bucket_here shape guarded.segment left guarded.head b 1 ∙ first_home b home

  third_here : (b : ℕ) → b < homes → word_in shape words guarded.segment b 3 ≡ third_made b
  third_here b home = bucket_here shape guarded.segment left guarded.head b 3 ∙ third_home b home

  stashed_here : (b : ℕ) → image.stashed_of shape words guarded.segment b ≡ stashed_of (first_of base) (key_of base) (key_hash shape) b
  stashed_here b = stashed_same (first_of base) (λ c. word_in shape words guarded.segment c 1) (key_of base) (λ c r. slot_key shape words guarded.segment c r) (key_hash shape)
      (λ c stash near. bucket_here shape guarded.segment left guarded.head c 1 ∙ first_stash c stash near)
      (λ c r near low. key_here shape guarded.segment left guarded.head c r ∙ left_key c r near low) b

  abbrev Exact : ℕ → ℕ → ℕ → ℕ → List OverflowNote → Type 0
  Exact w1 w3 x1 x3 stashed = AreExact (notes_by w1 w3 0 ++ notes_by x1 x3 1) (overflow_count w1) stashed

  pub exact : (b : ℕ) → b < homes → image.HasExactNotes shape words guarded.segment b
  exact b low =
      let c : ℕ = probing_of b in
      let near : c < homes = omega arith in
      let s : ℕ = guarded.segment in
      subst (λ w. Exact w (word_in shape words s b 3) (word_in shape words s c 1) (word_in shape words s c 3) (image.stashed_of shape words s b)) (sym (first_here b low))
      (subst (λ w. Exact (first_made b) w (word_in shape words s c 1) (word_in shape words s c 3) (image.stashed_of shape words s b)) (sym (third_here b low))
      (subst (λ w. Exact (first_made b) (third_made b) w (word_in shape words s c 3) (image.stashed_of shape words s b)) (sym (first_here c near))
      (subst (λ w. Exact (first_made b) (third_made b) (first_made c) w (image.stashed_of shape words s b)) (sym (third_here c near))
      (subst (λ (stashed : List OverflowNote). Exact (first_made b) (third_made b) (first_made c) (third_made c) stashed) (sym (stashed_here b))
      (made_notes (first_of base) (third_of base) (key_of base) (key_hash shape) b low)))))
