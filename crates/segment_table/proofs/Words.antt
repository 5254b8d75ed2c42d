-- One word is stored: what becomes of the frame, by what the word is for.
use Rattle.std.proofs.Common.{◌≡◌, ◌≢◌, ℕ, ◌+◌, ◌^◌, ◌<◌, ◌≤◌, inl, inr, refl, sym, ap, ◌∙◌, arith}
use Rattle.trace.specs.Events.{with_word}
use Rattle.trace.proofs.Replaced.{replaced_same, replaced_other}
use Rattle.sound_image.specs.Places.{Shape, root_word, state_word, entry_at, head_at, first_segment}
use Rattle.sound_image.proofs.Areas.{entry_before}
use Rattle.sound_image.specs.Segments.{ImageWords, Frame, frame_of}
use Rattle.segment_table.specs.Stores.{IsFrameWord}
use Rattle.segment_table.proofs.stores.Moved.{HeaderStored, SameHeaders}
use Rattle.segment_table.proofs.stores.Roots.{Beside}
use Rattle.segment_table.proofs.stores.Entries.{EntryStored}

module _ (shape : Shape) (word : ImageWords) (low : word root_word ≤ shape.depth) where
  abbrev before : Frame
  before = frame_of shape word

  abbrev after : ℕ → ℕ → Frame
  after i x = frame_of shape (with_word word i x)

  front : 32 ≤ first_segment shape
  front = omega arith

  entry_low : (j : ℕ) → j < 2 ^ word root_word → entry_at (word root_word) j < first_segment shape
  entry_low j below = entry_before shape (word root_word) j low below

  -- an entry of the root's area, after a store that is none to the root
  entry_after : (i x j : ℕ) → i ≢ root_word → entry_at (word root_word) j ≢ i → (after i x).entry j ≡ before.entry j
  entry_after i x j not_root other =
      ap (λ r. with_word word i x (entry_at r j)) (replaced_other word i x root_word (λ e. not_root (sym e))) ∙ replaced_other word i x (entry_at (word root_word) j) other

  -- A HEADER
  pub header_stored : (s x : ℕ) → HeaderStored before (after (head_at shape s + 1) x) s x
  header_stored s x = record {
    segments = refl;
    root = replaced_other word _ x root_word (λ e. omega (arith, e, front));
    status = replaced_other word _ x state_word (λ e. omega (arith, e, front));
    here = replaced_same word (head_at shape s + 1) x;
    others = λ t slot other. replaced_other word _ x (head_at shape t + 1) (λ e. other (omega (arith, e)));
    links = λ t slot. replaced_other word _ x (head_at shape t + 2) (λ e. omega (arith, e));
    entries = λ j below. entry_after (head_at shape s + 1) x j (λ e. omega (arith, e, front)) (λ e. omega (arith, e, entry_low j below));
  }

  -- A LINK
  pub link_stored : (s l : ℕ)
      → SameHeaders before (after (head_at shape s + 2) l) × ((after (head_at shape s + 2) l).root ≡ before.root) × ((after (head_at shape s + 2) l).status ≡ before.status)
      × ((after (head_at shape s + 2) l).link s ≡ l) × ((t : ℕ) → t < before.segments → t ≢ s → (after (head_at shape s + 2) l).link t ≡ before.link t)
      × ((j : ℕ) → j < 2 ^ before.root → (after (head_at shape s + 2) l).entry j ≡ before.entry j)
  link_stored s l = (
    record { segments = refl; headers = λ t slot. replaced_other word _ l (head_at shape t + 1) (λ e. omega (arith, e)) },
    replaced_other word _ l root_word (λ e. omega (arith, e, front)),
    replaced_other word _ l state_word (λ e. omega (arith, e, front)),
    replaced_same word (head_at shape s + 2) l,
    λ t slot other. replaced_other word _ l (head_at shape t + 2) (λ e. other (omega (arith, e))),
    λ j below. entry_after (head_at shape s + 2) l j (λ e. omega (arith, e, front)) (λ e. omega (arith, e, entry_low j below)),
  )

  -- THE ROOT
  pub root_stored : (x : ℕ)
      → SameHeaders before (after root_word x) × ((after root_word x).root ≡ x) × ((after root_word x).status ≡ before.status)
      × ((t : ℕ) → t < before.segments → (after root_word x).link t ≡ before.link t) × ((j : ℕ) → (after root_word x).entry j ≡ word (entry_at x j))
  root_stored x = (
    record { segments = refl; headers = λ t slot. replaced_other word _ x (head_at shape t + 1) (λ e. omega (arith, e, front)) },
    replaced_same word root_word x,
    replaced_other word root_word x state_word (λ e. omega (arith, e)),
    λ t slot. replaced_other word _ x (head_at shape t + 2) (λ e. omega (arith, e, front)),
    λ j. ap (λ r. with_word word root_word x (entry_at r j)) (replaced_same word root_word x) ∙ replaced_other word root_word x (entry_at x j) (λ e. omega (arith, e)),
  )

  -- THE STATE WORD
  pub status_stored : (x : ℕ)
      → SameHeaders before (after state_word x) × ((after state_word x).root ≡ before.root) × ((after state_word x).status ≡ x)
      × ((t : ℕ) → t < before.segments → (after state_word x).link t ≡ before.link t) × ((j : ℕ) → j < 2 ^ before.root → (after state_word x).entry j ≡ before.entry j)
  status_stored x = (
    record { segments = refl; headers = λ t slot. replaced_other word _ x (head_at shape t + 1) (λ e. omega (arith, e, front)) },
    replaced_other word state_word x root_word (λ e. omega (arith, e)),
    replaced_same word state_word x,
    λ t slot. replaced_other word _ x (head_at shape t + 2) (λ e. omega (arith, e, front)),
    λ j below. entry_after state_word x j (λ e. omega (arith, e)) (λ e. omega (arith, e)),
  )

  -- AN ENTRY of the root's area
  pub entry_stored : (i n : ℕ) → i < 2 ^ word root_word → EntryStored before (after (entry_at (word root_word) i) n) i n
  entry_stored i n below = record {
    same = record { segments = refl; headers = λ t slot. replaced_other word _ n (head_at shape t + 1) (λ e. omega (arith, e, entry_low i below)) };
    root = replaced_other word _ n root_word (λ e. omega (arith, e));
    status = replaced_other word _ n state_word (λ e. omega (arith, e));
    links = λ t slot. replaced_other word _ n (head_at shape t + 2) (λ e. omega (arith, e, entry_low i below));
    here = ap (λ r. with_word word (entry_at (word root_word) i) n (entry_at r i)) (replaced_other word _ n root_word (λ e. omega (arith, e)))
        ∙ replaced_same word (entry_at (word root_word) i) n;
    others = λ j below_j other. entry_after (entry_at (word root_word) i) n j (λ e. omega (arith, e)) (λ e. other (omega (arith, e)));
  }

  -- ANY OTHER WORD
  pub other_stored : (i x : ℕ) → (IsFrameWord shape word i → ⊥) → Beside before (after i x)
  other_stored i x other = record {
    same = record { segments = refl; headers = λ t slot. replaced_other word i x (head_at shape t + 1) (λ e. other (inr (inr (inl (t, slot, inl (sym e)))))) };
    root = replaced_other word i x root_word (λ e. other (inl (sym e)));
    status = replaced_other word i x state_word (λ e. other (inr (inl (sym e))));
    links = λ t slot. replaced_other word i x (head_at shape t + 2) (λ e. other (inr (inr (inl (t, slot, inr (sym e))))));
    entries = λ j below. entry_after i x j (λ e. other (inl e)) (λ e. other (inr (inr (inr (j, below, sym e)))));
  }
