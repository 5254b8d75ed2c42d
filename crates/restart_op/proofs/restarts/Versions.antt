-- What a restart leaves, by the state word that it finds; and words that differ from an image as it leaves them: they differ in versions alone, the
-- marker is clear, and the version is kept or raised.
use Rattle.std.proofs.Common.{◌≡◌, ◌≢◌, ℕ, zero, suc, ◌+◌, ◌*◌, ◌/◌, ◌%◌, ◌^◌, ◌<◌, ◌≤◌, ◌⊎◌, inl, inr, Bool, true, false, List, refl, sym, ap, subst, ◌∙◌, arith}
use Rattle.std.specs.Prelude.{if◌then◌else◌, ◌==◌, slice_index}
use Rattle.std.proofs.lemmas.Bool.{cases_eq, eqb-true, eqb-false}
use Rattle.segment_head.specs.HeadWord.{version_in}
use Rattle.segment_head.specs.Versions.{unversioned}
use Rattle.trace.specs.Events.{Words}
use Rattle.image_layout.specs.Places.{Shape, state_word}
use Rattle.image_layout.specs.StateWord.{marker_in, IsMarked}
use Rattle.sound_image.specs.Segments.{frame_of, image_version, IsClean}
use Rattle.sound_image.specs.Image.{IsSoundImage}
use Rattle.world.specs.areas.Areas.{header_word}
use Rattle.world.specs.areas.Restarting.{SameButVersion, KeepsVersion, RaisesVersion, IsLeftOf}
use Rattle.restart_op.specs.declared.restart.Started.{Started}
use Rattle.restart_op.specs.Restart.{started_with, swept_through, started_for}
use Rattle.restart_op.specs.Restarted.{HasStarted}
use Rattle.restart_op.proofs.images.Facts.{frame_is}
use Rattle.restart_op.proofs.images.Frames.{IsReversioned}

-- ---- by the state word
-- one of three: a clean image keeps its version; of another the headers are swept where it is 255, and else it gets the next one
pub record IsClosedWith (state : ℕ) (started : Started) : Type 0 where
  pub marked : IsMarked state
  pub keeps : started ≡ started_with (version_in state)

pub record IsSwept (state : ℕ) (started : Started) : Type 0 where
  pub unmarked : marker_in state ≡ 0
  pub last : version_in state ≡ 255
  pub sweeps : started ≡ swept_through

pub record IsRaisedTo (state : ℕ) (started : Started) : Type 0 where
  pub unmarked : marker_in state ≡ 0
  pub less : version_in state < 255
  pub raises : started ≡ started_with (version_in state + 1)

abbrev pub IsOneOf : ℕ → Started → Type 0
IsOneOf state started = IsClosedWith state started ⊎ IsSwept state started ⊎ IsRaisedTo state started

by_tests : (state : ℕ) (a b : Bool) → (marker_in state == 1) ≡ a → (version_in state == 255) ≡ b
    → IsOneOf state (if a then started_with (version_in state) else (if b then swept_through else started_with (version_in state + 1)))
by_tests state true b p q = inl (record { marked = eqb-true (marker_in state) 1 p; keeps = refl })
by_tests state false true p q = inr (inl (record { unmarked = clear state (eqb-false (marker_in state) 1 p); last = eqb-true (version_in state) 255 q; sweeps = refl }))
  where
    clear : (x : ℕ) → (x / 2 ^ 8 % 2 ≡ 1 → ⊥) → x / 2 ^ 8 % 2 ≡ 0
    clear x ne = omega (arith, ne)
by_tests state false false p q = inr (inr (record { unmarked = clear state (eqb-false (marker_in state) 1 p); less = below state (eqb-false (version_in state) 255 q); raises = refl }))
  where
    clear : (x : ℕ) → (x / 2 ^ 8 % 2 ≡ 1 → ⊥) → x / 2 ^ 8 % 2 ≡ 0
    clear x ne = omega (arith, ne)

    below : (x : ℕ) → (x % 2 ^ 8 ≡ 255 → ⊥) → x % 2 ^ 8 < 255
    below x ne = omega (arith, ne)

pub one_of : (state : ℕ) → IsOneOf state (started_for state)
one_of state = by_tests state _ _ refl refl

pub swept_by : (state : ℕ) → (started_for state).swept ≡ true → IsSwept state (started_for state)
swept_by state swept_is = elim (one_of state) [
  | inl closed ↦ absurd (let none = ap (λ (s : Started). s.swept) closed.keeps in cc)
  | inr other ↦ elim other [
    | inl swept ↦ swept
    | inr raised ↦ absurd (let none = ap (λ (s : Started). s.swept) raised.raises in cc)
  ]
]

pub all_swept : (state : ℕ) → (started_for state).swept ≡ true → started_for state ≡ swept_through
all_swept state swept_is = (swept_by state swept_is).sweeps

-- ---- a header without its version
pub only_version : (h : ℕ) → SameButVersion (unversioned h) h
only_version h = record { state = omega arith; depth = omega arith; pattern = omega arith }

pub no_version : (h : ℕ) → version_in (unversioned h) ≡ 0
no_version h = omega arith

same_head : (x y : ℕ) → x ≡ y → SameButVersion x y
same_head x y e = subst (λ n. SameButVersion n y) (sym e) (record { state = refl; depth = refl; pattern = refl })

-- a word is the header of one of these slots, or of none of them
pub head_or_not : (shape : Shape) (n i : ℕ) → ((j : ℕ) × (j < n) × (i ≡ header_word shape j)) ⊎ ((j : ℕ) → j < n → i ≢ header_word shape j)
head_or_not shape zero i = inr (λ j low. absurd (omega (arith, low)))
head_or_not shape (suc n) i = elim (cases_eq i (header_word shape n)) [
  | inl at ↦ inl (n, omega arith, at)
  | inr other ↦ elim (head_or_not shape n i) [
    | inl h ↦ inl (h.0, omega (arith, h.1), h.2)
    | inr none ↦ inr (λ j low. elim (cases_eq j n) [
      | inl e ↦ λ at. other (at ∙ ap (header_word shape) e)
      | inr ne ↦ none j (omega (arith, low, ne))
    ])
  ]
]

-- ---- words that a restart leaves
module _ (shape : Shape) (words : List ℕ) (image : IsSoundImage shape words) (other : Words)
    (left : HasStarted shape (started_for (slice_index words state_word)) (slice_index words) other) where
  abbrev word : Words
  word = slice_index words

  abbrev started : Started
  started = started_for (word state_word)

  one : IsOneOf (word state_word) started
  one = one_of (word state_word)

  -- where it swept nothing, each header is the same
  kept_head : started.swept ≡ false → (s : ℕ) → s < shape.segments → other (header_word shape s) ≡ word (header_word shape s)
  kept_head none s slot = left.others (header_word shape s) (λ e. omega (arith, e)) (λ swept_is. absurd (let q = sym swept_is ∙ none in cc))

  version_is : started.version < 2 ^ 8 → image_version (frame_of shape other) ≡ started.version
  version_is low = let state = left.state in omega (arith, state, low)

  pub some_and_fits : (1 ≤ started.version) × (started.version < 2 ^ 8)
  some_and_fits = elim one [
    | inl closed ↦ by (version_in (word state_word)) closed.keeps (frame_is shape words image).version (omega arith)
    | inr o ↦ elim o [
      | inl swept ↦ subst (λ (s : Started). (1 ≤ s.version) × (s.version < 2 ^ 8)) (sym swept.sweeps) (omega arith, omega arith)
      | inr raised ↦ by (version_in (word state_word) + 1) raised.raises (omega arith) (let less = raised.less in omega (arith, less))
    ]
  ]
    where
      by : (v : ℕ) → started ≡ started_with v → 1 ≤ v → v < 2 ^ 8 → (1 ≤ started.version) × (started.version < 2 ^ 8)
      by v is some fits = subst (λ (s : Started). (1 ≤ s.version) × (s.version < 2 ^ 8)) (sym is) (some, fits)

  pub marker_clear : marker_in (other state_word) ≡ 0
  marker_clear = let state = left.state in let low = some_and_fits.1 in omega (arith, state, low)

  kept_by : IsClosedWith (word state_word) started → KeepsVersion shape word other
  kept_by closed = record {
    clean = closed.marked;
    version = version_is some_and_fits.1 ∙ ap (λ (s : Started). s.version) closed.keeps;
    headers = kept_head (ap (λ (s : Started). s.swept) closed.keeps);
  }

  pub kept_or_raised : KeepsVersion shape word other ⊎ RaisesVersion shape word other
  kept_or_raised = elim one [
    | inl closed ↦ inl (kept_by closed)
    | inr o ↦ elim o [
      | inl swept ↦ inr (λ s slot.
          let h = left.heads (ap (λ (s : Started). s.swept) swept.sweeps) s slot in
          let none : version_in (other (header_word shape s)) ≡ 0 = ap version_in h ∙ no_version (word (header_word shape s)) in
          let now = version_is some_and_fits.1 in let some = some_and_fits.0 in
          less_than (version_in (other (header_word shape s))) (image_version (frame_of shape other)) none (subst (λ n. 1 ≤ n) (sym now) some))
      | inr raised ↦ inr (λ s slot.
          let h = kept_head (ap (λ (s : Started). s.swept) raised.raises) s slot in
          let now = version_is some_and_fits.1 ∙ ap (λ (s : Started). s.version) raised.raises in
          above (version_in (other (header_word shape s))) (version_in (word state_word)) (image_version (frame_of shape other))
          (subst (λ n. version_in n ≤ version_in (word state_word)) (sym h) ((frame_is shape words image).past s slot)) now)
    ]
  ]
    where
      less_than : (has now : ℕ) → has ≡ 0 → 1 ≤ now → has < now
      less_than has now none some = omega (arith, none, some)

      above : (has was now : ℕ) → has ≤ was → now ≡ was + 1 → has < now
      above has was now past is = omega (arith, past, is)

  -- it is kept of a clean image, and raised of any other
  pub kept_of_clean : IsClean (frame_of shape word) → KeepsVersion shape word other
  kept_of_clean clean = elim one [
    | inl closed ↦ kept_by closed
    | inr o ↦ elim o [
      | inl swept ↦ absurd (both (marker_in (word state_word)) clean swept.unmarked)
      | inr raised ↦ absurd (both (marker_in (word state_word)) clean raised.unmarked)
    ]
  ]
    where
      both : (marker : ℕ) → marker ≡ 1 → marker ≡ 0 → ⊥
      both marker one none = omega (arith, one, none)

  pub raised_of_others : (IsClean (frame_of shape word) → ⊥) → RaisesVersion shape word other
  raised_of_others unclean = elim kept_or_raised [ inl kept ↦ absurd (unclean kept.clean) | inr raised ↦ raised ]

  heads_alike : (s : ℕ) → s < shape.segments → SameButVersion (other (header_word shape s)) (word (header_word shape s))
  heads_alike s slot = elim one [
    | inl closed ↦ same_head _ _ (kept_head (ap (λ (s : Started). s.swept) closed.keeps) s slot)
    | inr o ↦ elim o [
      | inl swept ↦ subst (λ n. SameButVersion n (word (header_word shape s))) (sym (left.heads (ap (λ (s : Started). s.swept) swept.sweeps) s slot)) (only_version (word (header_word shape s)))
      | inr raised ↦ same_head _ _ (kept_head (ap (λ (s : Started). s.swept) raised.raises) s slot)
    ]
  ]

  pub is_left : IsLeftOf shape word other
  is_left = record { same = λ i away none. left.others i away (λ _. none); heads = heads_alike; version = kept_or_raised }

  pub started_alike : IsReversioned shape word other
  started_alike = record {
    same = λ i _ away none. left.others i away (λ _. none);
    heads = heads_alike;
    some = subst (λ n. 1 ≤ n) (sym (version_is some_and_fits.1)) some_and_fits.0;
    past = λ s slot. elim kept_or_raised [
      | inl k ↦ subst (λ n. version_in (other (header_word shape s)) ≤ n) (sym k.version) (subst (λ h. version_in h ≤ image_version (frame_of shape word)) (sym (k.headers s slot)) ((frame_is shape words image).past s slot))
      | inr up ↦ at_most (version_in (other (header_word shape s))) (image_version (frame_of shape other)) (up s slot)
    ];
  }
    where
      at_most : (a b : ℕ) → a < b → a ≤ b
      at_most a b less = omega (arith, less)

  -- all of them fit
  lower : (x y : ℕ) → x ≡ y / 2 ^ 8 * 2 ^ 8 → y < 2 ^ 64 → x < 2 ^ 64
  lower x y is low = omega (arith, is, low)

  head_fits : (j : ℕ) → j < shape.segments → (b : Bool) → started.swept ≡ b → other (header_word shape j) < 2 ^ 64
  head_fits j slot true swept_is = lower (other (header_word shape j)) (word (header_word shape j)) (left.heads swept_is j slot) (image.each_fits (header_word shape j))
  head_fits j slot false none = subst (λ n. n < 2 ^ 64) (sym (kept_head none j slot)) (image.each_fits (header_word shape j))

  pub started_fits : (i : ℕ) → other i < 2 ^ 64
  started_fits i = elim (cases_eq i state_word) [
    | inl at ↦ let low = some_and_fits.1 in let state = left.state in subst (λ n. other n < 2 ^ 64) (sym at) (omega (arith, state, low))
    | inr away ↦ elim (head_or_not shape shape.segments i) [
      | inl head ↦ subst (λ n. other n < 2 ^ 64) (sym head.2) (head_fits head.0 head.1 started.swept refl)
      | inr none ↦ subst (λ n. n < 2 ^ 64) (sym (left.others i away (λ _. none))) (image.each_fits i)
    ]
  ]
