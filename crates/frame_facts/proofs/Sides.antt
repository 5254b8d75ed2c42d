-- A new side has one parent, and stays a new side where the words that say it do.
use Rattle.std.proofs.Common.{◌≡◌, ◌≢◌, ℕ, ◌+◌, ◌*◌, ◌<◌, ◌≤◌, inr, sym, ap, subst, ◌∙◌, refl, arith}
use Rattle.trace.specs.Events.{Words, with_word}
use Rattle.trace.proofs.Replaced.{replaced_other}
use Rattle.segment_head.specs.HeadWord.{version_in, state_in, depth_in, pattern_in}
use Rattle.image_layout.specs.Places.{Shape, head_at}
use Rattle.bucket_words.specs.Segments.{Frame, frame_of, state_at, depth_at, pattern_at}
use Rattle.bucket_words.specs.Claims.{IsSoundFrame}
use Rattle.bucket_words.proofs.frames.SoundFrames.{apart}
use Rattle.frame_facts.specs.Facts.{IsNewSide, IsUsedSlot}

-- by what its two headers and the link say
pub side_moved : (one other : Frame) (version s n : ℕ) → other.segments ≡ one.segments → state_at other s ≡ state_at one s
    → version_in (other.header s) ≡ version → other.link s ≡ one.link s → depth_at other s ≡ depth_at one s → pattern_at other s ≡ pattern_at one s
    → state_at other n ≡ state_at one n → depth_at other n ≡ depth_at one n → pattern_at other n ≡ pattern_at one n
    → IsNewSide one version s n → IsNewSide other version s n
side_moved one other version s n slots state_s current link depth_s pattern_s state_n depth_n pattern_n side = record {
  slot = subst (λ m. s < m) (sym slots) side.slot;
  splits = state_s ∙ side.splits;
  current = current;
  linked = link ∙ side.linked;
  side_slot = subst (λ m. n < m) (sym slots) side.side_slot;
  new = state_n ∙ side.new;
  depth = depth_n ∙ side.depth ∙ ap (λ d. d + 1) (sym depth_s);
  pattern = pattern_n ∙ side.pattern ∙ ap (λ p. 2 * p + 1) (sym pattern_s);
}

pub side_kept : (one other : Frame) (version s n : ℕ) → other.segments ≡ one.segments → other.header s ≡ one.header s → other.link s ≡ one.link s
    → other.header n ≡ one.header n → IsNewSide one version s n → IsNewSide other version s n
side_kept one other version s n slots same_s link same_n side =
    side_moved one other version s n slots (ap state_in same_s) (ap version_in same_s ∙ side.current) link (ap depth_in same_s) (ap pattern_in same_s)
    (ap state_in same_n) (ap depth_in same_n) (ap pattern_in same_n) side

-- a store to none of the three words
pub side_apart : (shape : Shape) (version : ℕ) (medium : Words) (i x s n : ℕ) → head_at shape s + 1 ≢ i → head_at shape s + 2 ≢ i → head_at shape n + 1 ≢ i
    → IsNewSide (frame_of shape medium) version s n → IsUsedSlot (frame_of shape (with_word medium i x)) version n
side_apart shape version medium i x s n apart_s apart_l apart_n side =
    inr (
      s,
      side_kept (frame_of shape medium) (frame_of shape (with_word medium i x)) version s n refl (replaced_other medium i x (head_at shape s + 1) apart_s)
          (replaced_other medium i x (head_at shape s + 2) apart_l) (replaced_other medium i x (head_at shape n + 1) apart_n) side,
    )

-- what differs in its state is another slot
pub other_slot : (frame : Frame) (s t a b : ℕ) → state_at frame s ≡ a → state_at frame t ≡ b → a ≢ b → s ≢ t
other_slot frame s t a b is_s is_t differ same = differ (sym is_s ∙ ap (state_at frame) same ∙ is_t)

-- ONE PARENT: two segments with one new side have one region
pub one_parent : (greatest : ℕ) (frame : Frame) → greatest ≤ 16 → IsSoundFrame greatest frame → (version other s t n : ℕ)
    → IsNewSide frame version s n → IsNewSide frame other t n → s ≡ t
one_parent greatest frame most sound version other s t n a b =
    apart greatest most frame sound s t a.slot (inr a.splits) b.slot (inr b.splits)
    (omega (arith, a.depth, b.depth)) (omega (arith, a.pattern, b.pattern))
