-- A fact is carried to other newest words and another medium, where what it looks at is.
use Rattle.std.proofs.Common.{◌≡◌, ℕ, ◌+◌, ◌^◌, ◌<◌, ◌≤◌, inl, inr, refl, sym, ap, subst, ◌∙◌, arith}
use Rattle.std.specs.Prelude.{⊤}
use Rattle.std.proofs.lemmas.Bool.{cases_eq}
use Rattle.trace.specs.Events.{Words, with_word}
use Rattle.trace.proofs.Replaced.{replaced_same, replaced_other}
use Rattle.segment_head.specs.HeadWord.{version_in}
use Rattle.image_layout.specs.Places.{Shape, root_word, entry_at, head_at}
use Rattle.bucket_words.specs.Segments.{frame_of, depth_at}
use Rattle.bucket_words.specs.Claims.{Claims, named_for, ClaimsAll}
use Rattle.bucket_words.specs.Media.{first_hash}
use Rattle.bucket_words.specs.Stores.{GoesOn}
use Rattle.frame_facts.specs.Facts.{Fact, Lives, Current, Rooted, Owns, Lacks, Deep, Begins, Used, Taken, IsLiveSlot, IsCurrentSlot, IsNewSide, IsUsedSlot, IsTakenSlot, HoldsFact}
use Rattle.frame_facts.specs.Keeping.{IsEntry, KeepsFact}

-- all that facts look at but the claims that one may lose, and the slots that are taken
pub record Carries (shape : Shape) (version : ℕ) (words later medium other : Words) : Type 0 where
  pub lives : (s : ℕ) → IsLiveSlot (frame_of shape medium) s → IsLiveSlot (frame_of shape other) s
  pub current : (s : ℕ) → IsCurrentSlot (frame_of shape words) version s → IsCurrentSlot (frame_of shape later) version s
  pub root : words root_word ≤ later root_word
  pub entries : (e k : ℕ) → e ≤ words root_word → k < 2 ^ e → IsLiveSlot (frame_of shape medium) (words (entry_at e k))
      → IsLiveSlot (frame_of shape other) (later (entry_at e k))
  pub deeper : (h : ℕ) → h < 2 ^ 64
      → depth_at (frame_of shape medium) (named_for (frame_of shape medium) h) ≤ depth_at (frame_of shape other) (named_for (frame_of shape other) h)
  pub begins : (s : ℕ) → IsLiveSlot (frame_of shape medium) s → first_hash (frame_of shape other) s ≡ first_hash (frame_of shape medium) s
  pub used : (s n : ℕ) → IsNewSide (frame_of shape medium) version s n → IsUsedSlot (frame_of shape other) version n
  pub gains : (s h : ℕ) → h < 2 ^ 64 → IsLiveSlot (frame_of shape medium) s → Claims (frame_of shape other) s h → Claims (frame_of shape medium) s h

-- what one fact says of claims, or of a taken slot, stays so
abbrev pub StaysSo : Shape → Words → Words → Fact → Type 0
StaysSo shape medium other (Owns s d p) = ClaimsAll (frame_of shape medium) s d p → ClaimsAll (frame_of shape other) s d p
StaysSo shape medium other (Taken n) = IsTakenSlot (frame_of shape medium) n → IsTakenSlot (frame_of shape other) n
StaysSo shape medium other fact = ⊤

module _ (shape : Shape) (version : ℕ) (words later medium other : Words) (carries : Carries shape version words later medium other) where
  pub carried : (fact : Fact) → StaysSo shape medium other fact → HoldsFact shape version words fact medium → HoldsFact shape version later fact other
  carried (Lives s) stay was = carries.lives s was
  carried (Current s) stay was = carries.current s was
  carried (Rooted e) stay was = (omega (arith, was.0, carries.root), λ i below. carries.entries e i was.0 below (was.1 i below))
  carried (Owns s d p) stay was = stay was
  carried (Lacks s d p) stay was = (carries.lives s was.0, λ h fits covers claims. was.1 h fits covers (carries.gains s h fits was.0 claims))
  carried (Deep f d p) stay was = λ h fits covers. omega (arith, was h fits covers, carries.deeper h fits)
  carried (Begins s h) stay was = (carries.lives s was.0, carries.begins s was.0 ∙ was.1)
  carried (Used n) stay was = elim was [
    | inl live ↦ inl (carries.lives n live)
    | inr side ↦ carries.used side.0 n side.1
  ]
  carried (Taken n) stay was = stay was

-- A STORE to both, or to the newest words alone
module _ (shape : Shape) (version : ℕ) (words medium : Words) (i x : ℕ)
    (newest : GoesOn shape.depth (frame_of shape words) (frame_of shape (with_word words i x)))
    (current : (s : ℕ) → IsCurrentSlot (frame_of shape words) version s → i ≡ head_at shape s + 1 → version_in x ≡ version)
    (root : i ≡ root_word → words root_word ≤ x) (entries : IsEntry words i → IsLiveSlot (frame_of shape medium) x) where
  abbrev later : Words
  later = with_word words i x

  abbrev other : Words
  other = with_word medium i x

  live_later : (s : ℕ) → IsLiveSlot (frame_of shape words) s → IsLiveSlot (frame_of shape later) s
  live_later s is = record { slot = is.slot; live = (newest.steady.stays s is.slot is.live).0 }

  current_later : (s : ℕ) → IsCurrentSlot (frame_of shape words) version s → IsCurrentSlot (frame_of shape later) version s
  current_later s is = record {
    live = live_later s is.live;
    current = elim (cases_eq (head_at shape s + 1) i) [
      | inl e ↦ ap version_in (ap (with_word words i x) e ∙ replaced_same words i x) ∙ current s is (sym e)
      | inr apart ↦ ap version_in (replaced_other words i x (head_at shape s + 1) apart) ∙ is.current
    ];
  }

  root_later : words root_word ≤ later root_word
  root_later = elim (cases_eq root_word i) [
    | inl e ↦ subst (λ r. words root_word ≤ r) (sym (ap (with_word words i x) e ∙ replaced_same words i x)) (root (sym e))
    | inr apart ↦ subst (λ r. words root_word ≤ r) (sym (replaced_other words i x root_word apart)) (omega arith)
  ]

  -- what an entry names lives in a medium, if all that was named does
  named_later : (left : Words) → ((s : ℕ) → IsLiveSlot (frame_of shape medium) s → IsLiveSlot (frame_of shape left) s) → (e k : ℕ) → e ≤ words root_word → k < 2 ^ e
      → IsLiveSlot (frame_of shape medium) (words (entry_at e k)) → IsLiveSlot (frame_of shape left) (later (entry_at e k))
  named_later left lives e k low below was = elim (cases_eq (entry_at e k) i) [
    | inl same ↦
        subst (IsLiveSlot (frame_of shape left)) (sym (ap (with_word words i x) same ∙ replaced_same words i x)) (lives x (entries (e, k, low, below, sym same)))
    | inr apart ↦ subst (IsLiveSlot (frame_of shape left)) (sym (replaced_other words i x (entry_at e k) apart)) (lives (words (entry_at e k)) was)
  ]

  pub carries_without : Carries shape version words later medium medium
  carries_without = record {
    lives = λ s is. is;
    current = current_later;
    root = root_later;
    entries = named_later medium (λ s is. is);
    deeper = λ h fits. omega arith;
    begins = λ s is. refl;
    used = λ s n side. inr (s, side);
    gains = λ s h fits is claims. claims;
  }

  all_stay : (fact : Fact) → StaysSo shape medium medium fact
  all_stay (Lives s) = tt
  all_stay (Current s) = tt
  all_stay (Rooted e) = tt
  all_stay (Owns s d p) = λ claims. claims
  all_stay (Lacks s d p) = tt
  all_stay (Deep f d p) = tt
  all_stay (Begins s h) = tt
  all_stay (Used n) = tt
  all_stay (Taken n) = λ was. was

  module _ (there : GoesOn shape.depth (frame_of shape medium) (frame_of shape other))
      (used : (s n : ℕ) → IsNewSide (frame_of shape medium) version s n → IsUsedSlot (frame_of shape other) version n)
      (gains : (s h : ℕ) → h < 2 ^ 64 → IsLiveSlot (frame_of shape medium) s → Claims (frame_of shape other) s h → Claims (frame_of shape medium) s h) where
    live_there : (s : ℕ) → IsLiveSlot (frame_of shape medium) s → IsLiveSlot (frame_of shape other) s
    live_there s is = record { slot = is.slot; live = (there.steady.stays s is.slot is.live).0 }

    carries_has : Carries shape version words later medium other
    carries_has = record {
      lives = live_there;
      current = current_later;
      root = root_later;
      entries = named_later other live_there;
      deeper = there.deeper;
      begins = λ s is. (there.steady.stays s is.slot is.live).1;
      used = used;
      gains = gains;
    }

    pub keeps_fact : (fact : Fact) → StaysSo shape medium other fact → KeepsFact shape version words medium i x fact
    keeps_fact fact stay = record {
      has = carried shape version words later medium other carries_has fact stay;
      without = carried shape version words later medium medium carries_without fact (all_stay fact);
    }
