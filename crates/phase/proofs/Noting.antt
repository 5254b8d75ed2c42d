-- The notes of a home, by words 1 and 3 of its home bucket and of its probing bucket, and what is said there of the homes beside it.
use Rattle.std.proofs.Common.{◌≡◌, ◌≢◌, ℕ, ◌+◌, ◌<◌, List, ◌++◌, refl, sym, ap, ◌∙◌, arith}
use Rattle.hash_word.specs.Hash.{probing_of}
use Rattle.bucket_meta.specs.Bucket.{overflow_count}
use Rattle.bucket_meta.specs.Notes.{OverflowNote, notes_by}
use Rattle.trace.specs.Events.{Words, with_word}
use Rattle.image_layout.specs.Places.{Shape, bucket_at, homes}
use Rattle.sound_image.specs.Records.{notes_in, notes_of}
use Rattle.bucket_words.proofs.segments.Places.{other_word, this_word}
use Rattle.world.specs.Holders.{KeepsNeighbours}

-- those four words
pub record Four : Type 0 where
  pub h1 : ℕ
  pub h3 : ℕ
  pub p1 : ℕ
  pub p3 : ℕ

-- the notes of the home
abbrev pub notes_four : Four → List OverflowNote
notes_four f = notes_by f.h1 f.h3 0 ++ notes_by f.p1 f.p3 1

-- what is said of the homes beside it stays
pub record KeepsBeside (f g : Four) : Type 0 where
  pub before : notes_by g.h1 g.h3 1 ≡ notes_by f.h1 f.h3 1
  pub after : notes_by g.p1 g.p3 0 ≡ notes_by f.p1 f.p3 0
  pub count : overflow_count g.p1 ≡ overflow_count f.p1

-- the sides of the two buckets are two
pub apart : ◌≢◌ {A = ℕ} 0 1
apart e = omega (arith, e)

pub apart_back : ◌≢◌ {A = ℕ} 1 0
apart_back e = omega (arith, e)

-- ---- words 1 and 3 of two buckets, among all words
module _ (shape : Shape) (s b : ℕ) (near : b < homes) where
  abbrev at_home : ℕ
  at_home = bucket_at shape s b

  abbrev at_probing : ℕ
  at_probing = bucket_at shape s (probing_of b)

  pub record HasFour (w : Words) (f : Four) : Type 0 where
    pub h1 : w (at_home + 1) ≡ f.h1
    pub h3 : w (at_home + 3) ≡ f.h3
    pub p1 : w (at_probing + 1) ≡ f.p1
    pub p3 : w (at_probing + 3) ≡ f.p3

  pub next_near : probing_of b < 64
  next_near = omega arith

  next_other : b ≢ probing_of b
  next_other e = omega (arith, e, near)

  pub four_notes : (w : Words) (f : Four) → HasFour w f → notes_of shape w s b ≡ notes_four f
  four_notes w f h =
      ap (λ z. notes_by z (w (at_home + 3)) 0 ++ notes_by (w (at_probing + 1)) (w (at_probing + 3)) 1) h.h1
      ∙ ap (λ z. notes_by f.h1 z 0 ++ notes_by (w (at_probing + 1)) (w (at_probing + 3)) 1) h.h3
      ∙ ap (λ z. notes_by f.h1 f.h3 0 ++ notes_by z (w (at_probing + 3)) 1) h.p1
      ∙ ap (λ z. notes_by f.h1 f.h3 0 ++ notes_by f.p1 z 1) h.p3

  pub home_notes : (w : Words) (f : Four) (side : ℕ) → HasFour w f → notes_in shape w s b side ≡ notes_by f.h1 f.h3 side
  home_notes w f side h = ap (λ z. notes_by z (w (at_home + 3)) side) h.h1 ∙ ap (λ z. notes_by f.h1 z side) h.h3

  pub probing_notes : (w : Words) (f : Four) (side : ℕ) → HasFour w f → notes_in shape w s (probing_of b) side ≡ notes_by f.p1 f.p3 side
  probing_notes w f side h = ap (λ z. notes_by z (w (at_probing + 3)) side) h.p1 ∙ ap (λ z. notes_by f.p1 z side) h.p3

  -- a store to one of them
  pub store_h1 : (w : Words) (f : Four) (x : ℕ) → HasFour w f → HasFour (with_word w (at_home + 1) x) (record f { h1 = x })
  store_h1 w f x h =
      let other = other_word shape w s b 1 x (at_home + 1) (omega (arith, near)) (omega arith) refl in
      record {
        h1 = this_word shape w s b 1 x (at_home + 1) (omega (arith, near)) (omega arith) refl (at_home + 1) refl;
        h3 = other s b 3 (at_home + 3) (omega (arith, near)) (omega arith) refl (λ p q r. omega (arith, r)) ∙ h.h3;
        p1 = other s (probing_of b) 1 (at_probing + 1) (omega arith) (omega arith) refl (λ p q r. next_other (sym q)) ∙ h.p1;
        p3 = other s (probing_of b) 3 (at_probing + 3) (omega arith) (omega arith) refl (λ p q r. next_other (sym q)) ∙ h.p3;
      }

  pub store_h3 : (w : Words) (f : Four) (x : ℕ) → HasFour w f → HasFour (with_word w (at_home + 3) x) (record f { h3 = x })
  store_h3 w f x h =
      let other = other_word shape w s b 3 x (at_home + 3) (omega (arith, near)) (omega arith) refl in
      record {
        h1 = other s b 1 (at_home + 1) (omega (arith, near)) (omega arith) refl (λ p q r. omega (arith, r)) ∙ h.h1;
        h3 = this_word shape w s b 3 x (at_home + 3) (omega (arith, near)) (omega arith) refl (at_home + 3) refl;
        p1 = other s (probing_of b) 1 (at_probing + 1) (omega arith) (omega arith) refl (λ p q r. next_other (sym q)) ∙ h.p1;
        p3 = other s (probing_of b) 3 (at_probing + 3) (omega arith) (omega arith) refl (λ p q r. next_other (sym q)) ∙ h.p3;
      }

  pub store_p1 : (w : Words) (f : Four) (x : ℕ) → HasFour w f → HasFour (with_word w (at_probing + 1) x) (record f { p1 = x })
  store_p1 w f x h =
      let other = other_word shape w s (probing_of b) 1 x (at_probing + 1) (omega arith) (omega arith) refl in
      record {
        h1 = other s b 1 (at_home + 1) (omega (arith, near)) (omega arith) refl (λ p q r. next_other q) ∙ h.h1;
        h3 = other s b 3 (at_home + 3) (omega (arith, near)) (omega arith) refl (λ p q r. next_other q) ∙ h.h3;
        p1 = this_word shape w s (probing_of b) 1 x (at_probing + 1) (omega arith) (omega arith) refl (at_probing + 1) refl;
        p3 = other s (probing_of b) 3 (at_probing + 3) (omega arith) (omega arith) refl (λ p q r. omega (arith, r)) ∙ h.p3;
      }

  pub store_p3 : (w : Words) (f : Four) (x : ℕ) → HasFour w f → HasFour (with_word w (at_probing + 3) x) (record f { p3 = x })
  store_p3 w f x h =
      let other = other_word shape w s (probing_of b) 3 x (at_probing + 3) (omega arith) (omega arith) refl in
      record {
        h1 = other s b 1 (at_home + 1) (omega (arith, near)) (omega arith) refl (λ p q r. next_other q) ∙ h.h1;
        h3 = other s b 3 (at_home + 3) (omega (arith, near)) (omega arith) refl (λ p q r. next_other q) ∙ h.h3;
        p1 = other s (probing_of b) 1 (at_probing + 1) (omega arith) (omega arith) refl (λ p q r. omega (arith, r)) ∙ h.p1;
        p3 = this_word shape w s (probing_of b) 3 x (at_probing + 3) (omega arith) (omega arith) refl (at_probing + 3) refl;
      }

  -- what such a store leaves of the neighbours
  pub neighbours : (w u : Words) (f g : Four) → HasFour w f → HasFour u g → KeepsBeside f g → KeepsNeighbours shape w u s b
  neighbours w u f g h k beside = record {
    home_before = home_notes u g 1 k ∙ beside.before ∙ sym (home_notes w f 1 h);
    home_after = probing_notes u g 0 k ∙ beside.after ∙ sym (probing_notes w f 0 h);
    count_after = ap overflow_count k.p1 ∙ beside.count ∙ ap overflow_count (sym h.p1);
  }
