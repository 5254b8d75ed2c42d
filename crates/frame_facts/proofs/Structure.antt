-- Facts look at the structure alone.
use Rattle.std.proofs.Common.{◌≡◌, ℕ, ◌+◌, ◌^◌, ◌<◌, ◌≤◌, inl, inr, refl, sym, ap, subst, ◌∙◌, arith}
use Rattle.trace.specs.Events.{Words}
use Rattle.segment_head.specs.HeadWord.{version_in, state_in}
use Rattle.image_layout.specs.Places.{Shape, root_word, state_word, entry_at, head_at}
use Rattle.image_layout.proofs.Areas.{entry_before}
use Rattle.bucket_words.specs.Segments.{frame_of}
use Rattle.bucket_words.specs.Stores.{Keeps}
use Rattle.bucket_words.proofs.stores.Moved.{live_same}
use Rattle.bucket_words.proofs.stores.Roots.{Beside, untouched_keeps}
use Rattle.bucket_words.proofs.Claimers.{kept_back}
use Rattle.bucket_words.specs.Owners.{HasStructure}
use Rattle.frame_facts.specs.Facts.{Fact, Lives, Current, Rooted, Owns, Lacks, Deep, Begins, Used, Taken, IsLiveSlot, HoldsFact}
use Rattle.frame_facts.specs.Keeping.{AreSound}
use Rattle.frame_facts.proofs.Carrying.{Carries, StaysSo, carried}
use Rattle.frame_facts.proofs.Sides.{side_kept}

module _ (shape : Shape) (one other : Words) (same : HasStructure shape one other) where
  header_same : (s : ℕ) → s < shape.segments → other (head_at shape s + 1) ≡ one (head_at shape s + 1)
  header_same s slot = same (head_at shape s + 1) (inr (s, 1, slot, omega arith, refl))

  link_same : (s : ℕ) → s < shape.segments → other (head_at shape s + 2) ≡ one (head_at shape s + 2)
  link_same s slot = same (head_at shape s + 2) (inr (s, 2, slot, omega arith, refl))

  root_same : other root_word ≡ one root_word
  root_same = same root_word (inl (omega arith))

  entry_same : (e i : ℕ) → e ≤ shape.depth → i < 2 ^ e → other (entry_at e i) ≡ one (entry_at e i)
  entry_same e i low below = same (entry_at e i) (inl (entry_before shape e i low below))

  live_slot_same : (s : ℕ) → IsLiveSlot (frame_of shape one) s → IsLiveSlot (frame_of shape other) s
  live_slot_same s is = record { slot = is.slot; live = live_same (frame_of shape one) (frame_of shape other) s (header_same s is.slot) is.live }

  pub beside : one root_word ≤ shape.depth → Beside (frame_of shape one) (frame_of shape other)
  beside low = record {
    same = record { segments = refl; headers = header_same };
    root = root_same;
    status = same state_word (inl (omega arith));
    links = link_same;
    entries = λ i below. ap (λ r. other (entry_at r i)) root_same ∙ entry_same (one root_word) i low below;
  }

module _ (shape : Shape) (version : ℕ) (words later medium other : Words) (sound : AreSound shape words medium) (newest : HasStructure shape words later)
    (there : HasStructure shape medium other) where
  kept : Keeps shape.depth (frame_of shape medium) (frame_of shape other)
  kept = untouched_keeps shape.depth sound.shape_fits.depth (frame_of shape medium) (frame_of shape other) sound.there (beside shape medium other there sound.there.root)

  low : words root_word ≤ shape.depth
  low = sound.newest.root

  carries : Carries shape version words later medium other
  carries = record {
    lives = live_slot_same shape medium other there;
    current = λ s is. record {
      live = live_slot_same shape words later newest s is.live;
      current = ap version_in (header_same shape words later newest s is.live.slot) ∙ is.current;
    };
    root = omega (arith, root_same shape words later newest);
    entries = λ e k at_most below was.
        subst (IsLiveSlot (frame_of shape other)) (sym (entry_same shape words later newest e k (omega (arith, at_most, low)) below))
        (live_slot_same shape medium other there (words (entry_at e k)) was);
    deeper = kept.goes_on.deeper;
    begins = λ s is. (kept.goes_on.steady.stays s is.slot is.live).1;
    used = λ s n side. inr (
      s,
      side_kept (frame_of shape medium) (frame_of shape other) version s n refl (header_same shape medium other there s side.slot)
          (link_same shape medium other there s side.slot) (header_same shape medium other there n side.side_slot) side,
    );
    gains = λ s h fits is claims. kept_back shape.depth sound.shape_fits.depth (frame_of shape medium) (frame_of shape other) sound.there kept s h fits claims;
  }

  stay : (fact : Fact) → StaysSo shape medium other fact
  stay (Lives s) = tt
  stay (Current s) = tt
  stay (Rooted e) = tt
  stay (Owns s d p) = λ claims h fits covers. kept.claims s h fits (claims h fits covers)
  stay (Lacks s d p) = tt
  stay (Deep f d p) = tt
  stay (Begins s h) = tt
  stay (Used n) = tt
  stay (Taken n) = λ was. record { slot = was.slot; taken = λ is. was.taken (sym (ap state_in (header_same shape medium other there n was.slot)) ∙ is) }

  pub followed : (fact : Fact) → HoldsFact shape version words fact medium → HoldsFact shape version later fact other
  followed fact = carried shape version words later medium other carries fact (stay fact)
