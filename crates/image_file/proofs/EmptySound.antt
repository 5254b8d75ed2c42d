-- The image of an empty table is a sound image, and holds no pair.
use Rattle.std.proofs.Common.{◌≡◌, ℕ, ◌+◌, ◌/◌, ◌%◌, ◌^◌, ◌<◌, ◌≤◌, sym, ap, subst, ◌∙◌, arith, inl, inr, ⊎_elim, List}
use Rattle.std.specs.Prelude.{slice_index}
use Rattle.std.proofs.lemmas.Bool.{cases_lt}
use Rattle.std.proofs.Math.Nat.{zero-div, zero-mod}
use Rattle.bucket_meta.specs.Bucket.{lock_bit, allocated, note_used, overflow_count}
use Rattle.word_bits.specs.Bits.{bits}
use Rattle.segment_head.specs.HeadWord.{version_in, state_in, depth_in, pattern_in, normal}
use Rattle.image_layout.specs.Places.{Shape, IsShape, entry_at, head_at, bucket_at}
use Rattle.sound_image.specs.Segments.{ImageWords, Frame, frame_of, image_version, IsClean, state_at, IsLive}
use Rattle.sound_image.specs.Directory.{HeadInRange, VersionIsPast}
use Rattle.sound_image.specs.Records.{word_in, HasRecord, HasPair, HasExactNotes}
use Rattle.sound_image.specs.Rules.{FollowsRules}
use Rattle.sound_image.specs.Image.{IsSoundImage}
use Rattle.image_file.specs.Formatted.{IsFormatted}
use Rattle.sound_image.proofs.Unnoted.{HasNote}
use Rattle.sound_image.proofs.OneLive.{IsOneLive, has_owners, shares_well, entry_leads}
use Rattle.sound_image.proofs.NoNotes.{unnoted-exact}

bits_of_zero : (low count : ℕ) → bits low count 0 ≡ 0
bits_of_zero low count = ap (λ x. x % 2 ^ count) (zero-div (2 ^ low)) ∙ zero-mod (2 ^ count)

-- a header word of 0 is of a free segment
not_live : (frame : Frame) (s : ℕ) → frame.header s ≡ 0 → IsLive frame s → ⊥
not_live frame s zero (inl h) = absurd (omega (arith, ap state_in zero, h))
not_live frame s zero (inr h) = absurd (omega (arith, ap state_in zero, h))

module _ (shape : Shape) (words : List ℕ) (i : IsFormatted shape words) where
  abbrev word : ImageWords
  word = slice_index words

  abbrev frame : Frame
  frame = frame_of shape word

  zero_behind : (at : ℕ) → head_at shape 0 + 2 ≤ at → word at ≡ 0
  zero_behind at h = i.others at (omega arith) (omega arith) (omega arith)

  root_is : frame.root ≡ 0
  root_is = i.others 8 (omega arith) (omega arith) (omega arith)

  entry_is : frame.entry 0 ≡ 0
  entry_is = ap (λ g. word (entry_at g 0)) root_is ∙ i.others 32 (omega arith) (omega arith) (omega arith)

  is_clean : IsClean frame
  is_clean = ap (λ status. status / 2 ^ 8 % 2) i.status

  version_is : image_version frame ≡ 1
  version_is = ap (λ status. status % 2 ^ 8) i.status

  later_header : (s : ℕ) → 0 < s → frame.header s ≡ 0
  later_header s h = zero_behind (head_at shape s + 1) (omega arith)

  link_is : (s : ℕ) → frame.link s ≡ 0
  link_is s = zero_behind (head_at shape s + 2) (omega arith)

  first_is : (s : ℕ) → IsLive frame s → s ≡ 0
  first_is s live =
      ⊎_elim (λ later. absurd (not_live frame s (later_header s later) live)) (λ first. omega arith) (cases_lt 0 s)

  pub formatted-IsOneLive : 0 < shape.segments → IsOneLive frame
  formatted-IsOneLive some =
      record {
        some = some;
        is_normal = ap state_in i.header;
        no_depth = ap depth_in i.header;
        no_pattern = ap pattern_in i.header;
        alone = λ s h live. first_is s live;
        root = root_is;
      }

  head_in_range : (s : ℕ) → HeadInRange frame shape.depth s
  head_in_range s =
      ⊎_elim
      (λ later. record {
        known = omega (arith, ap state_in (later_header s later));
        depth_fits = λ used. absurd (used (ap state_in (later_header s later)));
        pattern_fits = λ used. absurd (used (ap state_in (later_header s later)));
      })
      (λ (first : s ≤ 0). let same : s ≡ 0 = omega arith in
      subst (λ s. HeadInRange frame shape.depth s) (sym same)
      (record {
        known = omega (arith, ap state_in i.header);
        depth_fits = λ _. omega (arith, ap depth_in i.header);
        pattern_fits = λ _. rw (ap depth_in i.header, ap pattern_in i.header) (omega arith);
      }))
      (cases_lt 0 s)

  version_is_past : (s : ℕ) → VersionIsPast frame s
  version_is_past s =
      ⊎_elim (λ later. omega (arith, ap version_in (later_header s later), version_is))
      (λ (first : s ≤ 0). let same : s ≡ 0 = omega arith in
      subst (λ s. VersionIsPast frame s) (sym same) (omega (arith, ap version_in i.header, version_is)))
      (cases_lt 0 s)

  meta_is : (s b n : ℕ) → word_in shape word s b n ≡ 0
  meta_is s b n = zero_behind (bucket_at shape s b + n) (omega arith)

  pub formatted-no_record : (s b r : ℕ) → HasRecord shape word s b r → ⊥
  formatted-no_record s b r h = absurd (omega (arith, h.is_allocated, ap (allocated r) (meta_is s b 1) ∙ bits_of_zero r 1))

  no_note : (s b side : ℕ) → HasNote (word_in shape word s b 1) side → ⊥
  no_note s b side n = absurd (omega (arith, n.used, ap (note_used n.note_slot) (meta_is s b 1) ∙ bits_of_zero (28 + n.note_slot) 1))

  exact_notes : (s b : ℕ) → HasExactNotes shape word s b
  exact_notes s b =
      unnoted-exact shape word s b
      (λ k r two slot taken home. absurd (omega (arith, taken, ap (allocated r) (meta_is s (64 + k) 1) ∙ bits_of_zero r 1)))
      (record {
        no_count = ap overflow_count (meta_is s b 1) ∙ bits_of_zero 40 5;
        none_here = no_note s b 0;
        none_beside = no_note s _ 1;
      })

  unlocked : (s b w : ℕ) → w ≡ bucket_at shape s b → lock_bit (word w) ≡ 0
  unlocked s b w at = ap lock_bit (zero_behind w (omega (arith, at))) ∙ zero-mod 2

  follows_rules : 0 < shape.segments → FollowsRules shape word
  follows_rules some n w =
      let f = formatted-IsOneLive some in
      record {
        one = λ _. record {
          root = λ _. omega (arith, root_is);
          version_fits = λ _. omega (arith, version_is);
          head = λ s h _. head_in_range s;
          side = λ s h _ used. omega (arith, link_is s);
        };
        two = λ _. record { entry = λ i h _. has_owners frame f i; head = λ s h _ live. shares_well frame f s h live };
        three = λ _ i h _. entry_leads frame f entry_is i h;
        four = λ _ s b r own _. absurd (formatted-no_record s b r own.record_there);
        five = λ _ s b r own _. absurd (formatted-no_record s b r own.record_there);
        six = λ _ s h _. version_is_past s;
        seven = λ _. record {
          head = λ s current _. subst (λ s. state_at frame s ≡ normal) (sym (first_is s current.live)) (ap state_in i.header);
          lock = λ s b current fits at. unlocked s b w at;
          own = λ s b r current there _. absurd (formatted-no_record s b r there);
          once = λ s b r current there _. absurd (formatted-no_record s b r there);
          notes = λ s b current fits _. exact_notes s b;
        };
      }

  pub formatted-IsSoundImage : IsShape shape → ((k : ℕ) → slice_index words k < 2 ^ 64) → IsSoundImage shape words
  formatted-IsSoundImage is fits =
      record { in_range = is; whole = i.whole; each_fits = fits; says_shape = i.says_shape; follows = follows_rules is.some }

  pub formatted-no_pair : (k v : ℕ) → HasPair shape word k v → ⊥
  formatted-no_pair k v pair = formatted-no_record pair.s pair.b pair.r pair.own.record_there
