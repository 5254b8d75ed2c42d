-- Words that differ from others in versions alone have their frame: a sound one, with the same live segments and owners.
use Rattle.std.proofs.Common.{◌≡◌, ◌≢◌, ℕ, ◌+◌, ◌%◌, ◌^◌, ◌<◌, ◌≤◌, inl, inr, refl, sym, ap, subst, ◌∙◌, arith}
use Rattle.segment_head.specs.HeadWord.{version_in}
use Rattle.trace.specs.Events.{Words}
use Rattle.image_layout.specs.Places.{Shape, IsShape, root_word, state_word, first_segment, entry_at, head_at, words_of}
use Rattle.image_layout.proofs.Areas.{entry_before}
use Rattle.sound_image.specs.Segments.{Frame, frame_of, image_version, state_at, depth_at, pattern_at, IsLive}
use Rattle.segment_table.specs.Claims.{HasSoundFrame}
use Rattle.segment_table.specs.Stores.{Keeps}
use Rattle.segment_table.proofs.stores.Moved.{HasNumbers, ready_same}
use Rattle.segment_table.proofs.stores.SameRegion.{same_entries}
use Rattle.segment_table.proofs.stores.Alike.{alike_keeps}
use Rattle.bucket_words.specs.Owners.{SameOwners}
use Rattle.world.proofs.Owners.{owner_stays}
use Rattle.world.specs.areas.Areas.{header_word}
use Rattle.world.specs.areas.Restarting.{SameButVersion}
use Rattle.restart_op.specs.AtRest.{IsCurrent}
use Rattle.world.proofs.moving.beginning.Restarting.{no_link, before_heads}

-- THE OTHER WORDS differ from these in the state word, whose version is one, and in the version bytes of headers, none of which is above it
pub record IsReversioned (shape : Shape) (word other : Words) : Type 0 where
  pub same : (i : ℕ) → i < words_of shape → i ≢ state_word → ((s : ℕ) → s < shape.segments → i ≢ header_word shape s) → other i ≡ word i
  pub heads : (s : ℕ) → s < shape.segments → SameButVersion (other (header_word shape s)) (word (header_word shape s))
  pub some : 1 ≤ image_version (frame_of shape other)
  pub past : (s : ℕ) → s < shape.segments → version_in (other (header_word shape s)) ≤ image_version (frame_of shape other)

-- ---- the structure
module _ (shape : Shape) (word other : Words) (is : IsShape shape) (sound : HasSoundFrame shape word) (of : IsReversioned shape word other) where
  abbrev before : Frame
  before = frame_of shape word

  abbrev after : Frame
  after = frame_of shape other

  front_same : (i : ℕ) → i < first_segment shape → i ≢ state_word → other i ≡ word i
  front_same i low away = of.same i (omega (arith, low)) away (λ t slot e. before_heads (first_segment shape) i t low e)

  root : other root_word ≡ word root_word
  root = front_same root_word (let f = entry_before shape 0 0 (omega arith) (omega arith) in omega (arith, f)) (λ e. omega (arith, e))

  link : (s : ℕ) → s < shape.segments → after.link s ≡ before.link s
  link s slot = of.same (head_at shape s + 2) (omega (arith, slot)) (λ e. omega (arith, e)) (λ t _ e. no_link (first_segment shape) s t e)

  entry : (i : ℕ) → i < 2 ^ before.root → after.entry i ≡ before.entry i
  entry i below = ap (λ r. other (entry_at r i)) root ∙ front_same (entry_at (word root_word) i) (entry_before shape (word root_word) i sound.root below) (λ e. omega (arith, e))

  state : (s : ℕ) → s < shape.segments → state_at after s ≡ state_at before s
  state s slot = (of.heads s slot).state

  depth : (s : ℕ) → s < shape.segments → depth_at after s ≡ depth_at before s
  depth s slot = (of.heads s slot).depth

  pattern : (s : ℕ) → s < shape.segments → pattern_at after s ≡ pattern_at before s
  pattern s slot = (of.heads s slot).pattern

  there : (s : ℕ) → s < shape.segments → IsLive before s → IsLive after s
  there s slot live = elim live [ inl e ↦ inl (state s slot ∙ e) | inr e ↦ inr (state s slot ∙ e) ]

  pub live_back : (s : ℕ) → s < shape.segments → IsLive after s → IsLive before s
  live_back s slot live = elim live [ inl e ↦ inl (sym (state s slot) ∙ e) | inr e ↦ inr (sym (state s slot) ∙ e) ]

  numbers : HasNumbers shape.depth after
  numbers = record {
    root = subst (λ r. r ≤ shape.depth) (sym root) sound.root;
    version = of.some;
    head = λ s slot. let was = sound.head s slot in record {
      known = subst (λ n. n ≤ 3) (sym (state s slot)) was.known;
      depth_fits = λ taken. subst (λ d. d ≤ shape.depth) (sym (depth s slot)) (was.depth_fits (λ e. taken (state s slot ∙ e)));
      pattern_fits = λ taken. subst (λ p. p < 2 ^ depth_at after s) (sym (pattern s slot))
          (subst (λ d. pattern_at before s < 2 ^ d) (sym (depth s slot)) (was.pattern_fits (λ e. taken (state s slot ∙ e))));
    };
    link = λ s slot taken. subst (λ l. l ≤ shape.segments) (sym (link s slot)) (sound.link s slot (λ e. taken (state s slot ∙ e)));
    past = of.past;
  }

  keeps_frame : Keeps shape.depth before after
  keeps_frame = alike_keeps shape.depth before after sound (record {
    segments = refl;
    there = there;
    back = live_back;
    depth = λ s slot _. depth s slot;
    pattern = λ s slot _. pattern s slot;
    ready = λ s n slot side. ready_same before after s n refl (link s slot) (state s slot ∙ side.splits) (there n side.slot side.live) (depth s slot) (pattern s slot)
        (depth n side.slot) (pattern n side.slot) side;
    unready = λ s n slot side. ready_same after before s n refl (sym (link s slot)) (sym (state s slot) ∙ side.splits) (live_back n side.slot side.live) (sym (depth s slot))
        (sym (pattern s slot)) (sym (depth n side.slot)) (sym (pattern n side.slot)) side;
    entries = same_entries shape.depth is.depth before after sound root entry;
    root = omega (arith, root);
    numbers = numbers;
  })

  pub sound_frame : HasSoundFrame shape other
  sound_frame = keeps_frame.goes_on.sound

  pub owners : SameOwners shape word other
  owners h = owner_stays shape.depth is.depth before after sound keeps_frame h

  -- ---- where headers and version are the same, so are current segments
  module _ (version : image_version after ≡ image_version before) (headers : (s : ℕ) → s < shape.segments → other (header_word shape s) ≡ word (header_word shape s)) where
    pub current_back : (s : ℕ) → IsCurrent shape other s → IsCurrent shape word s
    current_back s c = record {
      live = record { slot = c.live.slot; live = live_back s c.live.slot c.live.live };
      current = ap version_in (sym (headers s c.live.slot)) ∙ c.current ∙ version;
    }

-- ---- words that differ in the state word alone
abbrev pub AgreeButForState : Shape → Words → Words → Type 0
AgreeButForState shape word other = (i : ℕ) → i < words_of shape → i ≢ state_word → other i ≡ word i

module _ (shape : Shape) (word other : Words) (sound : HasSoundFrame shape word) (agree : AgreeButForState shape word other)
    (version : other state_word % 2 ^ 8 ≡ word state_word % 2 ^ 8) where
  pub same_headers : (s : ℕ) → s < shape.segments → other (header_word shape s) ≡ word (header_word shape s)
  same_headers s slot = agree (header_word shape s) (omega (arith, slot)) (λ e. omega (arith, e))

  pub reversioned : IsReversioned shape word other
  reversioned = record {
    same = λ i within away _. agree i within away;
    heads = λ s slot. subst (λ h. SameButVersion h (word (header_word shape s))) (sym (same_headers s slot)) (record { state = refl; depth = refl; pattern = refl });
    some = subst (λ n. 1 ≤ n) (sym version) sound.version;
    past = λ s slot. subst (λ h. version_in h ≤ other state_word % 2 ^ 8) (sym (same_headers s slot))
        (subst (λ n. version_in (word (header_word shape s)) ≤ n) (sym version) (sound.past s slot));
  }
