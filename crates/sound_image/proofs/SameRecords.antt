-- Images that agree in headers, in what slots are taken, in keys and in values have the same owners, records and pairs.
use Rattle.std.proofs.Common.{◌≡◌, ℕ, ◌+◌, ◌<◌, ◌≤◌, ◌⊎◌, Option, None, Some, ap, sym, subst, ◌∙◌}
use Rattle.hash_word.specs.Hash.{Covers}
use Rattle.segment_head.specs.HeadWord.{state_in, depth_in, pattern_in, normal, splitting}
use Rattle.image_layout.specs.Bucket.{allocated}
use Rattle.image_layout.specs.Places.{Shape, head_at}
use Rattle.sound_image.specs.Segments.{ImageWords, frame_of, depth_at, IsLiveFor, Owns}
use Rattle.sound_image.specs.Records.{key_hash, word_in, slot_key, slot_value, HasRecord, HasOwnRecord, HasPair, HasAt}

pub record HasSameRecords (shape : Shape) (word other : ImageWords) : Type 0 where
  pub header : (s : ℕ) → word (head_at shape s + 1) ≡ other (head_at shape s + 1)
  pub taken : (s b r : ℕ) → s < shape.segments → b < 66 → r < 14 → allocated r (word_in shape word s b 1) ≡ allocated r (word_in shape other s b 1)
  pub key : (s b r : ℕ) → b < 66 → r < 14 → slot_key shape word s b r ≡ slot_key shape other s b r
  pub value : (s b r : ℕ) → b < 66 → r < 14 → slot_value shape word s b r ≡ slot_value shape other s b r

pub turned : (shape : Shape) (word other : ImageWords) → HasSameRecords shape word other → HasSameRecords shape other word
turned shape word other same = record {
  header = λ s. sym (same.header s);
  taken = λ s b r segment bucket slot. sym (same.taken s b r segment bucket slot);
  key = λ s b r bucket slot. sym (same.key s b r bucket slot);
  value = λ s b r bucket slot. sym (same.value s b r bucket slot);
}

-- OWNERS, by the headers alone
live_there : (shape : Shape) (word other : ImageWords) → ((s : ℕ) → word (head_at shape s + 1) ≡ other (head_at shape s + 1))
    → (h s : ℕ) → IsLiveFor (frame_of shape word) h s → IsLiveFor (frame_of shape other) h s
live_there shape word other header h s live = record {
  slot = live.slot;
  live = subst (λ h1. (state_in h1 ≡ normal) ⊎ (state_in h1 ≡ splitting)) (header s) live.live;
  covers = subst (λ h1. Covers (depth_in h1) (pattern_in h1) h) (header s) live.covers;
}

module _ (shape : Shape) (word other : ImageWords) (same : HasSameRecords shape word other) where
  pub owns_there : (s h : ℕ) → Owns (frame_of shape word) s h → Owns (frame_of shape other) s h
  owns_there s h owns = record {
    own = live_there shape word other same.header h s owns.own;
    deepest = λ t live.
        subst (λ h1. depth_in h1 ≤ depth_at (frame_of shape other) s) (same.header t)
        (subst (λ h1. depth_at (frame_of shape word) t ≤ depth_in h1) (same.header s)
        (owns.deepest t (live_there shape other word (λ u. sym (same.header u)) h t live)));
  }

  -- RECORDS
  pub record_there : (s b r : ℕ) → HasRecord shape word s b r → HasRecord shape other s b r
  record_there s b r has = record {
    segment = has.segment;
    bucket = has.bucket;
    slot = has.slot;
    is_allocated = sym (same.taken s b r has.segment has.bucket has.slot) ∙ has.is_allocated;
  }

  pub own_there : (s b r : ℕ) → HasOwnRecord shape word s b r → HasOwnRecord shape other s b r
  own_there s b r own =
      let has = own.record_there in
      record {
        record_there = record_there s b r has;
        owned = subst (λ h. Owns (frame_of shape other) s h) (ap (key_hash shape) (same.key s b r has.bucket has.slot)) (owns_there s _ own.owned);
      }

  -- PAIRS
  pub pair_there : (k v : ℕ) → HasPair shape word k v → HasPair shape other k v
  pair_there k v pair =
      let has = pair.own.record_there in
      record {
        s = pair.s;
        b = pair.b;
        r = pair.r;
        own = own_there pair.s pair.b pair.r pair.own;
        key_is = sym (same.key pair.s pair.b pair.r has.bucket has.slot) ∙ pair.key_is;
        value_is = sym (same.value pair.s pair.b pair.r has.bucket has.slot) ∙ pair.value_is;
      }

-- what one has at a key the other has
pub has_there : (shape : Shape) (word other : ImageWords) → HasSameRecords shape word other → (k : ℕ) (a : Option ℕ) → HasAt shape word k a → HasAt shape other k a
has_there shape word other same k None none = λ v pair. none v (pair_there shape other word (turned shape word other same) k v pair)
has_there shape word other same k (Some v) pair = pair_there shape word other same k v pair
