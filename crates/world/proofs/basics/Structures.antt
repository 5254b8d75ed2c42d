-- What is said of the structure holds in all words that have it: current segments, that it is sound, and each fact.
use Rattle.std.proofs.Common.{◌≡◌, ℕ, ◌+◌, ◌*◌, ◌^◌, ◌<◌, ◌≤◌, inl, inr, refl, sym, ap, subst, ◌∙◌, arith}
use Rattle.trace.specs.Events.{Words, with_word}
use Rattle.trace.proofs.Replaced.{replaced_other}
use Rattle.segment_head.specs.HeadWord.{version_in}
use Rattle.image_layout.specs.Places.{Shape, root_word, entry_at, first_segment, head_at, bucket_at, buckets}
use Rattle.image_layout.specs.Volatile.{counter_word, power_word}
use Rattle.image_layout.proofs.Areas.{entry_before}
use Rattle.sound_image.specs.Segments.{frame_of}
use Rattle.frame_facts.specs.Claims.{HasSoundFrame}
use Rattle.frame_facts.proofs.Moved.{live_same}
use Rattle.frame_facts.proofs.Roots.{untouched_keeps}
use Rattle.frame_facts.specs.Owners.{IsStructure, HasStructure}
use Rattle.frame_facts.proofs.segments.Places.{not_structure}
use Rattle.frame_facts.specs.Facts.{Fact, Rooted, IsLiveSlot, HoldsFact}
use Rattle.frame_facts.specs.Keeping.{AreSound}
use Rattle.frame_facts.proofs.Structure.{beside, followed}
use Rattle.frame_facts.proofs.Told.{rooted_told}
use Rattle.world.specs.Ground.{Ground, IsGround, IsLockWord, IsLiveLock, IsUnder, version_of, IsStructured, IsCurrentIn, IsCurrentLock}
use Rattle.world.specs.Views.{View}
use Rattle.world.specs.Conditions.{IsKnownLock}
use Rattle.world.proofs.basics.Grounds.{under_lock}

-- ---- which words are none of the structure
module _ (shape : Shape) where
  pub lock_no_structure : (lock : ℕ) → IsLockWord shape lock → IsStructure shape lock → ⊥
  lock_no_structure lock (s, b, seg, near, is) = not_structure shape s b 0 lock near (omega arith) (omega (arith, is))

  pub under_no_structure : (lock i : ℕ) → IsLockWord shape lock → IsUnder lock i → IsStructure shape i → ⊥
  under_no_structure lock i (s, b, seg, near, is) under = let u = under_lock shape s b i (subst (λ (z : ℕ). IsUnder z i) is under) in not_structure shape s b u.0 i near u.2 u.3

  behind : (f n s w i c : ℕ) → s < n → w < 32 → i ≡ f + 2144 * n + c → i ≡ f + 2144 * s + w → ⊥
  behind f n s w i c slot low at is = omega (arith, slot, low, at, is)

  before : (f n i c : ℕ) → i < f → i ≡ f + 2144 * n + c → ⊥
  before f n i c low at = omega (arith, low, at)

  pub counter_no_structure : IsStructure shape (counter_word shape) → ⊥
  counter_no_structure is = elim is [
    | inl front ↦ before (first_segment shape) shape.segments (counter_word shape) 0 front (omega arith)
    | inr h ↦ behind (first_segment shape) shape.segments h.0 h.1 (counter_word shape) 0 h.2 h.3 (omega arith) h.4
  ]

  pub power_no_structure : IsStructure shape (power_word shape) → ⊥
  power_no_structure is = elim is [
    | inl front ↦ before (first_segment shape) shape.segments (power_word shape) 1 front (omega arith)
    | inr h ↦ behind (first_segment shape) shape.segments h.0 h.1 (power_word shape) 1 h.2 h.3 (omega arith) h.4
  ]

  -- a store to such a word leaves the structure
  pub kept_structure : (words : Words) (i x : ℕ) → (IsStructure shape i → ⊥) → HasStructure shape words (with_word words i x)
  kept_structure words i x apart j is = replaced_other words i x j (λ e. apart (subst (IsStructure shape) e is))

  pub lock_structure : (words : Words) (lock x : ℕ) → IsLockWord shape lock → HasStructure shape words (with_word words lock x)
  lock_structure words lock x is = kept_structure words lock x (lock_no_structure lock is)

  pub counter_structure : (words : Words) (x : ℕ) → HasStructure shape words (with_word words (counter_word shape) x)
  counter_structure words x = kept_structure words (counter_word shape) x counter_no_structure

  pub power_structure : (words : Words) (x : ℕ) → HasStructure shape words (with_word words (power_word shape) x)
  power_structure words x = kept_structure words (power_word shape) x power_no_structure

  -- no lock word is a header, and a bucket is one of one segment
  pub lock_no_head : (lock s : ℕ) → IsLockWord shape lock → lock ≡ head_at shape s + 1 → ⊥
  lock_no_head lock s (q, b, seg, near, is) e = no_head (first_segment shape) q b s lock near is e
    where
      no_head : (f q b s lock : ℕ) → b < 66 → lock ≡ f + 2144 * q + 32 + 32 * b → lock ≡ f + 2144 * s + 1 → ⊥
      no_head f q b s lock near is e = omega (arith, near, is, e)

  pub one_segment : (s b q c : ℕ) → b < buckets → c < buckets → bucket_at shape s b ≡ bucket_at shape q c → q ≡ s
  one_segment s b q c near near' e = by (first_segment shape) s b q c near near' e
    where
      by : (f s b q c : ℕ) → b < 66 → c < 66 → f + 2144 * s + 32 + 32 * b ≡ f + 2144 * q + 32 + 32 * c → q ≡ s
      by f s b q c near near' e = omega (arith, near, near', e)

  -- headers, links and entries are words of the structure
  front_word : (i : ℕ) → i < 32 → i < first_segment shape
  front_word i low = let f = entry_before shape 0 0 (omega arith) (omega arith) in omega (arith, low, f)

  pub header_is : (s : ℕ) → s < shape.segments → IsStructure shape (head_at shape s + 1)
  header_is s slot = inr (s, 1, slot, omega arith, refl)

  pub link_is : (s : ℕ) → s < shape.segments → IsStructure shape (head_at shape s + 2)
  link_is s slot = inr (s, 2, slot, omega arith, refl)

  pub front_is : (i : ℕ) → i < 32 → IsStructure shape i
  front_is i low = inl (front_word i low)

  pub entry_is : (e i : ℕ) → e ≤ shape.depth → i < 2 ^ e → IsStructure shape (entry_at e i)
  entry_is e i within below = inl (entry_before shape e i within below)

-- ---- locks of live segments
module _ (shape : Shape) where
  pub lock_of_live : (words : Words) (lock : ℕ) → IsLiveLock shape words lock → IsLockWord shape lock
  lock_of_live words lock l = (l.0, l.1, l.2, l.3, l.4)

  -- such a lock stays one where live segments stay so
  pub live_lock : (words us : Words) (lock : ℕ) → ((s : ℕ) → IsLiveSlot (frame_of shape words) s → IsLiveSlot (frame_of shape us) s) → IsLiveLock shape words lock → IsLiveLock shape us lock
  live_lock words us lock lives l = (l.0, l.1, l.2, l.3, l.4, lives l.0 l.5)

  -- words of one structure have the same live segments
  pub lives_there : (words us : Words) → HasStructure shape words us → (s : ℕ) → IsLiveSlot (frame_of shape words) s → IsLiveSlot (frame_of shape us) s
  lives_there words us same s l = record { slot = l.slot; live = live_same (frame_of shape words) (frame_of shape us) s (same (head_at shape s + 1) (header_is shape s l.slot)) l.live }

-- ---- locks of current segments
module _ (site : Ground) where
  pub lock_of_current : (words : Words) (lock : ℕ) → IsCurrentLock site words lock → IsLockWord site.shape lock
  lock_of_current words lock l = (l.0, l.1, l.2, l.3, l.4)

  pub known_lock : (v : View) (lock : ℕ) → IsKnownLock site v lock → IsLockWord site.shape lock
  known_lock v lock k = (k.0, k.1, k.2, k.3, k.4)

  -- the segment of such a lock is current
  pub current_of_lock : (words : Words) (s b : ℕ) → b < buckets → IsCurrentLock site words (bucket_at site.shape s b) → IsCurrentIn site words s
  current_of_lock words s b near l = subst (λ (z : ℕ). IsCurrentIn site words z) (one_segment site.shape s b l.0 l.1 near l.3 l.4) l.5

  -- ---- words of one structure have the same current segments
  module _ (word other : Words) (same : HasStructure site.shape word other) where
    pub same_current : (s : ℕ) → IsCurrentIn site word s → IsCurrentIn site other s
    same_current s c = let e = same (head_at site.shape s + 1) (header_is site.shape s c.live.slot) in record {
      live = record { slot = c.live.slot; live = live_same (frame_of site.shape word) (frame_of site.shape other) s e c.live.live };
      current = ap version_in e ∙ c.current;
    }

    pub current_back : (s : ℕ) → IsCurrentIn site other s → IsCurrentIn site word s
    current_back s c = let e = sym (same (head_at site.shape s + 1) (header_is site.shape s c.live.slot)) in record {
      live = record { slot = c.live.slot; live = live_same (frame_of site.shape other) (frame_of site.shape word) s e c.live.live };
      current = ap version_in e ∙ c.current;
    }

    pub lock_back : (lock : ℕ) → IsCurrentLock site other lock → IsCurrentLock site word lock
    lock_back lock l = (l.0, l.1, l.2, l.3, l.4, current_back l.0 l.5)

-- ---- words of the front's structure
module _ (site : Ground) (is : IsGround site) (sound : HasSoundFrame site.shape site.front) where
  -- they are sound
  pub structured : (word : Words) → HasStructure site.shape site.front word → IsStructured site word
  structured word has = record {
    fixed = λ i low _. has i (front_is site.shape i low);
    sound = (untouched_keeps site.shape.depth is.shape.depth (frame_of site.shape site.front) (frame_of site.shape word) sound (beside site.shape site.front word has sound.root)).goes_on.sound;
  }

  fronts : AreSound site.shape site.front site.front
  fronts = record { shape_fits = is.shape; newest = sound; there = sound }

  -- EACH FACT of the front holds of such newest words, and of such a medium beside them
  pub follow : (words medium : Words) → HasStructure site.shape site.front words → HasStructure site.shape site.front medium → (f : Fact)
      → HoldsFact site.shape (version_of site) site.front f site.front → HoldsFact site.shape (version_of site) words f medium
  follow words medium has has' f was = followed site.shape (version_of site) site.front words site.front medium fronts has has' f was

  -- the root is as deep as it is, and each of its entries names a live segment
  pub rooted : HoldsFact site.shape (version_of site) site.front (Rooted (site.front root_word)) site.front
  rooted = rooted_told site.shape (version_of site) site.front site.front is.shape sound (λ s live. live)
