-- The store that frees the first lock of a whole segment, by what its holder knows of the segment.
use Rattle.std.proofs.Common.{◌≡◌, ℕ, suc, ◌^◌, ◌<◌, ◌≤◌, Some, inl, refl, ap, subst, sym, ◌∙◌, arith}
use Rattle.trace.specs.Events.{Words}
use Rattle.hash_word.specs.Hash.{Covers}
use Rattle.segment_head.specs.HeadWord.{state_in, depth_in, pattern_in, normal, splitting}
use Rattle.image_layout.specs.Places.{bucket_at, homes, buckets}
use Rattle.sound_image.specs.Segments.{Frame, frame_of, state_at, depth_at, pattern_at, IsLive, CoversHash}
use Rattle.sound_image.specs.Records.{key_hash, HasExactNotes}
use Rattle.frame_facts.specs.Claims.{IsSoundFrame, HasSoundFrame}
use Rattle.frame_facts.specs.Owner.{owner}
use Rattle.frame_facts.proofs.frames.SoundFrames.{live_low, live_pattern}
use Rattle.frame_facts.proofs.frames.Owner.{claimer_found}
use Rattle.frame_facts.specs.Hits.{Hit}
use Rattle.frame_facts.specs.DeadSlots.{IsInSlot}
use Rattle.frame_facts.proofs.Owners.{region_fits}
use Rattle.frame_facts.proofs.Told.{unready_claims, normal_unready}
use Rattle.world.specs.Ground.{Ground, IsGround}
use Rattle.world.specs.Views.{View, Has}
use Rattle.world.specs.areas.Areas.{Whole, header_word}
use Rattle.world.specs.areas.Kinds.{opens}
use Rattle.world.specs.areas.Asking.{MayBeNewest, IsInOrder, IsFirmIn, MayAt}
use Rattle.world.specs.areas.Splitting.{IsSettledHolder, KnowsHead, KnowsBuckets}
use Rattle.world.proofs.holders.publishing.Shown.{HasBuckets, shown_now, shown_buckets}
use Rattle.world.proofs.holders.publishing.Copied.{hit_before, exact_there}

-- a normal segment owns what it covers
pub normal_owns : (greatest : ℕ) → greatest ≤ 16 → (frame : Frame) → IsSoundFrame greatest frame → (s h : ℕ) → s < frame.segments → state_at frame s ≡ normal → CoversHash frame s h
    → owner frame h ≡ Some s
normal_owns greatest most frame sound s h slot is covers = claimer_found greatest frame most sound s h fits
    (unready_claims frame s (record { slot = slot; live = live }) (normal_unready frame s is) h fits covers)
  where
    live : IsLive frame s
    live = inl is

    low : depth_at frame s ≤ 64
    low = omega (arith, live_low greatest most frame sound s slot live)

    fits : h < 2 ^ 64
    fits = region_fits (depth_at frame s) (pattern_at frame s) h low (live_pattern greatest most frame sound s slot live) covers

-- A NORMAL SEGMENT IS IN ORDER in words that have its buckets, where its records are its own, each key stands once, and notes are exact
module _ (site : Ground) (ground : IsGround site) (w : Words) (sound : HasSoundFrame site.shape w) (s head : ℕ) (word : Words) (slot : s < site.shape.segments)
    (header : w (header_word site.shape s) ≡ head) (is : state_in head ≡ normal) (same : HasBuckets site.shape word w s)
    (own : (c r k : ℕ) → Hit site.shape word s c r k → Covers (depth_in head) (pattern_in head) (key_hash site.shape k))
    (once : (c r e t k : ℕ) → Hit site.shape word s c r k → Hit site.shape word s e t k → (c ≡ e) × (r ≡ t))
    (exact : (c : ℕ) → c < homes → HasExactNotes site.shape word s c) where
  pub in_order_by : IsInOrder site w s
  in_order_by = record {
    own = λ c r k hit. normal_owns site.shape.depth ground.shape.depth (frame_of site.shape w) sound s (key_hash site.shape k) slot (ap state_in header ∙ is)
        (subst (λ z. Covers (depth_in z) (pattern_in z) (key_hash site.shape k)) (sym header) (own c r k (hit_before site.shape word w s same c r k hit)));
    once = λ c r e t k hit other. once c r e t k (hit_before site.shape word w s same c r k hit) (hit_before site.shape word w s same e t k other);
    exact = λ c home. exact_there site.shape word w s same c slot home (exact c home);
  }

normal_or_splitting : (a : ℕ) → a ≡ normal → a ≡ splitting → ⊥
normal_or_splitting a e f = omega (arith, e, f)

module _ (site : Ground) (ground : IsGround site) (v : View) (s b x : ℕ) (word : Words) (holder : IsSettledHolder site.shape v) (whole : Has (Whole s) v.areas) (near : b < buckets)
    (held : Has (bucket_at site.shape s b, x) v.held) (head : KnowsHead site.shape v s word) (is : state_in (word (header_word site.shape s)) ≡ normal)
    (known : KnowsBuckets site.shape v s word) (firm : IsFirmIn v (IsInSlot site.shape s))
    (own : (c r k : ℕ) → Hit site.shape word s c r k → Covers (depth_in (word (header_word site.shape s))) (pattern_in (word (header_word site.shape s))) (key_hash site.shape k))
    (once : (c r e t k : ℕ) → Hit site.shape word s c r k → Hit site.shape word s e t k → (c ≡ e) × (r ≡ t))
    (exact : (c : ℕ) → c < homes → HasExactNotes site.shape word s c) where
  module _ (words : Words) (now : MayBeNewest site v words) where
    same_head : words (header_word site.shape s) ≡ word (header_word site.shape s)
    same_head = shown_now site v words now (header_word site.shape s) (word (header_word site.shape s)) head.header

    is_normal : state_in (words (header_word site.shape s)) ≡ normal
    is_normal = ap state_in same_head ∙ is

    same : HasBuckets site.shape word words s
    same = shown_buckets site.shape v word words s (shown_now site v words now) known

    in_order : IsInOrder site words s
    in_order = in_order_by site ground words now.structure.sound s (word (header_word site.shape s)) word head.slot same_head is same own once exact

  pub may_open : MayAt site (opens s (bucket_at site.shape s b) (suc x)) v
  may_open = (
    whole,
    (b, near, refl),
    (x, held, refl),
    firm,
    holder.planned,
    holder.moving,
    holder.owed,
    in_order,
    (λ words now. normal_or_splitting (state_in (words (header_word site.shape s))) (is_normal words now)),
  )
