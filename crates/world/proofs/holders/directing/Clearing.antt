-- The stores to buckets of a segment of one's own after a split: of metadata words, that free records of which the segment has nothing, or keep the core.
use Rattle.std.proofs.Common.{◌≡◌, ℕ, ◌+◌, ◌-◌, ◌*◌, ◌%◌, ◌^◌, ◌<◌, ◌≤◌, Some, inl, inr, refl, sym, ap, subst, ◌∙◌, arith}
use Rattle.bucket_meta.specs.Bucket.{allocated, member, record_slots}
use Rattle.trace.specs.Events.{Words, with_word}
use Rattle.hash_word.specs.Hash.{Covers}
use Rattle.image_layout.specs.Places.{Shape, block, first_segment, bucket_at, buckets}
use Rattle.sound_image.specs.Segments.{frame_of}
use Rattle.sound_image.specs.Records.{key_hash}
use Rattle.frame_facts.proofs.frames.Owner.{found_owns}
use Rattle.frame_facts.proofs.frames.SoundFrames.{owner_claims}
use Rattle.frame_facts.proofs.FrameWords.{buckets_apart}
use Rattle.frame_facts.proofs.StoreLaws.{stores_apart}
use Rattle.frame_facts.specs.Buckets.{key_in}
use Rattle.frame_facts.specs.Core.{core_of}
use Rattle.frame_facts.specs.Owners.{owner_of}
use Rattle.frame_facts.specs.TableChanges.{KeepsTable, KeepsOrLeaves}
use Rattle.frame_facts.proofs.segments.changes.Foreign.{cleared_keeps}
use Rattle.frame_facts.proofs.segments.changes.Prepared.{core_keeps}
use Rattle.frame_facts.specs.Facts.{Lacks}
use Rattle.frame_facts.specs.DeadSlots.{IsInSlot}
use Rattle.frame_facts.proofs.Owners.{owned_fits}
use Rattle.frame_facts.proofs.Stores.{in_bucket}
use Rattle.world.specs.Ground.{Ground, IsGround, IsLockWord, IsSpentLock, version_of}
use Rattle.world.specs.Views.{View, Has}
use Rattle.world.specs.Holders.{KnowsWord}
use Rattle.world.specs.areas.Areas.{Side, header_word}
use Rattle.world.specs.areas.Fitting.{HoldsWord}
use Rattle.world.specs.areas.Kinds.{sets}
use Rattle.world.specs.areas.Asking.{MayBeNewest, MayStandBeside, IsHarmlessStore, EndsNothing, MayAt}
use Rattle.world.specs.areas.Splitting.{IsSettledHolder, ClearsRegion}
use Rattle.world.proofs.basics.Grounds.{lock_apart}
use Rattle.world.proofs.basics.Structures.{lock_of_live}
use Rattle.world.proofs.fitting.OneHolder.{one_slot}
use Rattle.world.proofs.holders.filling.Known.{structure_stays, both_sound, known_there}
use Rattle.world.proofs.holders.filling.Filling.{under_whole}

-- where the words of a bucket stand
pub bucket_in_slot : (shape : Shape) (s b m : ℕ) → b < buckets → m < block → IsInSlot shape s (bucket_at shape s b + m)
bucket_in_slot shape s b m near inside = record { from = omega arith; to = by (first_segment shape) s b m near inside }
  where
    by : (f s b m : ℕ) → b < 66 → m < 32 → f + 2144 * s + 32 + 32 * b + m < f + 2144 * s + 2144
    by f s b m near inside = omega (arith, near, inside)

bucket_no_header : (shape : Shape) (s b m t : ℕ) → b < buckets → m < block → bucket_at shape s b + m ≡ header_word shape t → ⊥
bucket_no_header shape s b m t near inside e = by (first_segment shape) s b m t near inside e
  where
    by : (f s b m t : ℕ) → b < 66 → m < 32 → f + 2144 * s + 32 + 32 * b + m ≡ f + 2144 * t + 1 → ⊥
    by f s b m t near inside e = omega (arith, near, inside, e)

-- none is a first word of the image
bucket_far : (shape : Shape) (s b m : ℕ) → 32 ≤ bucket_at shape s b + m
bucket_far shape s b m = by (first_segment shape) s b m
  where
    by : (f s b m : ℕ) → 32 ≤ f + 2144 * s + 32 + 32 * b + m
    by f s b m = omega arith

module _ (site : Ground) (ground : IsGround site) (v : View) (holder : IsSettledHolder site.shape v) (s b : ℕ) (slot : s < site.shape.segments) (near : b < buckets)
    (no_side : Has (Side s) v.areas → ⊥) where
  abbrev shape : Shape
  shape = site.shape

  abbrev at : ℕ
  at = bucket_at shape s b

  -- A STORE TO A HELD WORD OF THE BUCKET, that keeps the table of each medium
  module _ (m x : ℕ) (inside : m < block) (held : HoldsWord shape v (at + m)) where
    abbrev pub KeepsTables : Type 0
    KeepsTables = (words medium : Words) → MayBeNewest site v words → MayStandBeside site v words medium → KeepsTable shape medium (with_word medium (at + m) x)

    harmless : KeepsTables → IsHarmlessStore site v (EndsNothing site) (at + m) x
    harmless keeps words medium new side = record {
      structure = structure_stays site medium (at + m) x (bucket_far shape s b m) side.structure
          (stores_apart shape medium ground.shape side.structure.sound (at + m) x (buckets_apart shape medium side.structure.sound.root s b m near inside));
      table = keeps words medium new side;
      facts = λ fact _. in_bucket shape (version_of site) words medium (both_sound site ground v words medium new side) s b m x near inside fact;
    }

    pub set_any : (IsLockWord shape (at + m) → x % 2 ≡ 0) → ((words : Words) → MayBeNewest site v words → IsSpentLock shape words (at + m) → x ≡ 2 ^ 64 - 2) → KeepsTables
        → MayAt site (sets (at + m) x) v
    set_any even spent keeps = record {
      holds = held;
      no_header = λ t slot e. bucket_no_header shape s b m t near inside e;
      no_state = λ e. omega (arith, e, bucket_far shape s b m);
      under_whole = under_whole site v holder (at + m);
      under_dead = λ n side there. absurd (no_side (subst (λ (z : ℕ). Has (Side z) v.areas) (one_slot shape n s (at + m) there (bucket_in_slot shape s b m near inside)) side));
      planned = holder.planned;
      owed = holder.owed;
      even = even;
      spent = spent;
      harmless = harmless keeps;
    }

    -- behind the lock word
    module _ (from : 1 ≤ m) where
      no_lock : IsLockWord shape (at + m) → ⊥
      no_lock lock = lock_apart shape at (at + m) (s, b, slot, near, refl) lock (omega (arith, from), omega (arith, inside))

      pub set_word : KeepsTables → MayAt site (sets (at + m) x) v
      set_word keeps = set_any (λ lock. absurd (no_lock lock)) (λ words new spent. absurd (no_lock (lock_of_live shape words (at + m) spent.0))) keeps

  -- ---- a word of the core that is known
  pub rebuild : (m x w : ℕ) → 1 ≤ m → m ≤ 3 → HoldsWord shape v (at + m) → KnowsWord v (at + m) w → core_of shape (at + m) x ≡ core_of shape (at + m) w → MayAt site (sets (at + m) x) v
  rebuild m x w from to held known same = set_word m x (omega (arith, to)) held from (λ words medium new side.
      core_keeps shape medium (at + m) x side.table (same ∙ ap (core_of shape (at + m)) (sym (known_there site ground v words medium new side (at + m) w known))))

  -- ---- records of a region of which the segment has nothing
  module _ (x d p : ℕ) (word : Words) (lacks : Has (Lacks s d p) v.facts) (known : (n : ℕ) → 1 ≤ n → n < block → KnowsWord v (at + n) (word (at + n)))
      (clears : ClearsRegion site word at d p (word (at + 1)) x) where
    module _ (words medium : Words) (new : MayBeNewest site v words) (side : MayStandBeside site v words medium) where
      same : (n : ℕ) → 1 ≤ n → n < block → medium (at + n) ≡ word (at + n)
      same n from inside = known_there site ground v words medium new side (at + n) (word (at + n)) (known n from inside)

      same_key : (r : ℕ) → r < record_slots → key_in medium at r ≡ key_in word at r
      same_key r low = subst (λ (z : ℕ). medium z ≡ word z) (place at r) (same (4 + 2 * r) (omega arith) (omega (arith, low)))
        where
          place : (a r : ℕ) → a + (4 + 2 * r) ≡ a + 4 + 2 * r
          place a r = omega arith

      -- who owns a hash in the medium claims it there
      not_owned : (h : ℕ) → Covers d p h → owner_of shape medium h ≡ Some s → ⊥
      not_owned h covers own =
          let fits = owned_fits shape.depth ground.shape.depth (frame_of shape medium) side.structure.sound s h own in
          (side.says (Lacks s d p) lacks).1 h fits covers
          (owner_claims shape.depth ground.shape.depth (frame_of shape medium) side.structure.sound s h fits (found_owns (frame_of shape medium) h s own))

      each : (r : ℕ) → r < record_slots → KeepsOrLeaves shape medium s b x r
      each r low = elim (clears.slots r low) [
        | inl e ↦ inl (e.0 ∙ ap (allocated r) (sym meta), e.1 ∙ ap (member r) (sym meta))
        | inr f ↦ inr (
          f.0,
          λ taken. not_owned (key_hash shape (key_in medium at r))
              (subst (λ (k : ℕ). Covers d p (key_hash shape k)) (sym (same_key r low)) (f.1 (ap (allocated r) (sym meta) ∙ taken))),
        )
      ]
        where
          meta : medium (at + 1) ≡ word (at + 1)
          meta = same 1 (omega arith) (omega arith)

      cleared : KeepsTable shape medium (with_word medium (at + 1) x)
      cleared = cleared_keeps shape medium side.table s b x slot near each

    pub clear : HoldsWord shape v (at + 1) → MayAt site (sets (at + 1) x) v
    clear held = set_word 1 x (omega arith) held (omega arith) cleared
