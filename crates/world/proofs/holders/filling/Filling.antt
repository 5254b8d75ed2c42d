-- The stores to a slot of one's own, and those of links.
use Rattle.std.proofs.Common.{◌≡◌, ◌≢◌, ℕ, ◌+◌, ◌*◌, ◌%◌, ◌<◌, ◌≤◌, inl, inr, refl, sym, ap, ◌∙◌, subst, arith}
use Rattle.trace.specs.Events.{Words}
use Rattle.segment_head.specs.HeadWord.{state_in, splitting, HasLiveState}
use Rattle.image_layout.specs.Places.{Shape, state_word, first_segment}
use Rattle.sound_image.specs.Segments.{frame_of, IsLive}
use Rattle.frame_facts.specs.Stores.{Links}
use Rattle.frame_facts.proofs.StoreLaws.{links, stores_apart}
use Rattle.frame_facts.specs.DeadSlots.{IsInSlot, IsPlainInSlot}
use Rattle.frame_facts.proofs.Stores.{linked, untouched}
use Rattle.frame_facts.proofs.DeadSlots.{plain_apart, plain_no_entry, dead_store}
use Rattle.world.specs.Ground.{Ground, IsGround, version_of, IsLockWord, IsLiveLock}
use Rattle.world.specs.Views.{View, Has}
use Rattle.world.specs.Holders.{KnowsWord}
use Rattle.world.specs.areas.Areas.{Segment, Side, Free, header_word}
use Rattle.world.specs.areas.Fitting.{HoldsWord}
use Rattle.world.specs.areas.Kinds.{sets}
use Rattle.world.specs.areas.Asking.{MayBeNewest, IsUnderWhole, IsUnderDead, KnowsDead, EndsNothing, IsHarmlessStore, MayAt}
use Rattle.world.specs.areas.Splitting.{link_word, IsSettledHolder, HasOwnSlot, MayFill}
use Rattle.world.proofs.basics.Structures.{lock_no_structure, link_is, lock_of_live}
use Rattle.world.proofs.fitting.OneHolder.{one_slot, head_in_slot, link_in_slot}
use Rattle.world.proofs.moving.Holding.{bucket_in_slot}
use Rattle.world.proofs.holders.filling.Known.{slot_far, structure_stays, both_sound, known_there, table_stays}

-- the link of a slot is a word of it, and no header
link_no_header : (shape : Shape) (s t : ℕ) → link_word shape s ≡ header_word shape t → ⊥
link_no_header shape s t e = by (first_segment shape) s t e
  where
    by : (f s t : ℕ) → f + 2144 * s + 2 ≡ f + 2144 * t + 1 → ⊥
    by f s t e = omega (arith, e)

-- no word of a slot is the state word
no_state : (shape : Shape) (s i : ℕ) → IsInSlot shape s i → i ≢ state_word
no_state shape s i inside e = omega (arith, e, inside.from, slot_far shape s 0)

-- a plain word of a slot is the header of none
plain_no_header : (shape : Shape) (n i s : ℕ) → IsPlainInSlot shape n i → i ≢ header_word shape s
plain_no_header shape n i s plain e =
    let same : s ≡ n = one_slot shape s n i (subst (IsInSlot shape s) (sym e) (head_in_slot shape s)) plain.inside in
    plain.no_header (e ∙ ap (header_word shape) same)

-- a word under a lock of who splits lies in a segment that it has whole
pub under_whole : (site : Ground) (v : View) → IsSettledHolder site.shape v → (i : ℕ) → IsUnderWhole site v i
under_whole site v holder i lock has under = let o = holder.locks lock has in (o.0, o.1, o.3, o.4, o.5)

-- ---- a slot of one's own
module _ (site : Ground) (ground : IsGround site) (v : View) (n head : ℕ) (own : HasOwnSlot site.shape v n head) where
  -- its words are held
  holds_own : (i : ℕ) → IsInSlot site.shape n i → HoldsWord site.shape v i
  holds_own i inside = elim own.own [
    | inl is ↦ inr (Free n, is, inside)
    | inr is ↦ inr (Side n, is, inside)
  ]

  -- a side that has one of them is this slot, and is known dead
  own_dead : (i : ℕ) → IsInSlot site.shape n i → IsUnderDead site v i
  own_dead i inside m has there = subst (KnowsDead site v) (one_slot site.shape n m i inside there) (head, own.header.known, own.dead)

  -- no segment lives there in words with the known header
  dead_there : (word : Words) → word (header_word site.shape n) ≡ head → IsLive (frame_of site.shape word) n → ⊥
  dead_there word is live = own.dead (subst HasLiveState is live)

  -- a store to any plain word of it is nobody's matter
  word_harmless : (i x : ℕ) → IsPlainInSlot site.shape n i → IsHarmlessStore site v (EndsNothing site) i x
  word_harmless i x plain words medium new side =
      let apart = plain_apart site.shape n i plain in
      record {
        structure = structure_stays site medium i x (omega (arith, plain.inside.from, slot_far site.shape n 0)) side.structure
            (stores_apart site.shape medium ground.shape side.structure.sound i x (apart medium side.structure.sound.root));
        table = dead_store site.shape medium n i x plain.inside plain.no_header
            (dead_there medium (known_there site ground v words medium new side (header_word site.shape n) head own.header)) side.table;
        facts = λ fact _. untouched site.shape (version_of site) words medium (both_sound site ground v words medium new side) i x
            (apart words new.structure.sound.root, apart medium side.structure.sound.root) (plain_no_entry site.shape n i plain words new.structure.sound.root) fact;
      }

  -- so no lock word there is one of a live segment
  no_live_lock : (i : ℕ) → IsInSlot site.shape n i → (words : Words) → MayBeNewest site v words → IsLiveLock site.shape words i → ⊥
  no_live_lock i inside words new lock =
      let same : lock.0 ≡ n = one_slot site.shape lock.0 n i (subst (IsInSlot site.shape lock.0) (sym lock.4) (bucket_in_slot site.shape lock.0 lock.1 lock.3)) inside in
      dead_there words (new.knows (header_word site.shape n) head own.header.known) (subst (IsLive (frame_of site.shape words)) same lock.5.live)

  pub word_set : (i x : ℕ) → IsSettledHolder site.shape v → IsPlainInSlot site.shape n i → (IsLockWord site.shape i → x % 2 ≡ 0) → MayAt site (sets i x) v
  word_set i x holder plain even = record {
    holds = holds_own i plain.inside;
    no_header = λ s _. plain_no_header site.shape n i s plain;
    no_state = no_state site.shape n i plain.inside;
    under_whole = under_whole site v holder i;
    under_dead = own_dead i plain.inside;
    planned = holder.planned;
    owed = holder.owed;
    even = even;
    spent = λ words new is. absurd (no_live_lock i plain.inside words new is.0);
    harmless = word_harmless i x plain;
  }

-- ---- the link of a slot whose segment is not splitting
module _ (site : Ground) (ground : IsGround site) (v : View) (s l head : ℕ) (slot : s < site.shape.segments) (knows : KnowsWord v (header_word site.shape s) head)
    (still : state_in head ≢ splitting) (low : l ≤ site.shape.segments) where
  may_link : (word : Words) → word (header_word site.shape s) ≡ head → Links (frame_of site.shape word) s l
  may_link word is = record { slot = slot; not_splitting = λ splits. still (ap state_in (sym is) ∙ splits); in_range = low }

  link_harmless : IsHarmlessStore site v (EndsNothing site) (link_word site.shape s) l
  link_harmless words medium new side =
      let there = may_link medium (known_there site ground v words medium new side (header_word site.shape s) head knows) in
      let keeps = links site.shape medium ground.shape side.structure.sound s l there in
      record {
        structure = structure_stays site medium (link_word site.shape s) l (slot_far site.shape s 2) side.structure keeps;
        table = table_stays site ground v words medium new side (link_word site.shape s) l (link_is site.shape s slot) keeps;
        facts = λ fact _. linked site.shape (version_of site) words medium (both_sound site ground v words medium new side) s l
            (may_link words (new.knows (header_word site.shape s) head knows.known), there) fact;
      }

  no_lock : IsLockWord site.shape (link_word site.shape s) → ⊥
  no_lock is = lock_no_structure site.shape (link_word site.shape s) is (link_is site.shape s slot)

  pub link_set : IsSettledHolder site.shape v → HoldsWord site.shape v (link_word site.shape s) → IsUnderDead site v (link_word site.shape s) → MayAt site (sets (link_word site.shape s) l) v
  link_set holder holds dead = record {
    holds = holds;
    no_header = λ t _. link_no_header site.shape s t;
    no_state = no_state site.shape s (link_word site.shape s) (link_in_slot site.shape s);
    under_whole = under_whole site v holder (link_word site.shape s);
    under_dead = dead;
    planned = holder.planned;
    owed = holder.owed;
    even = λ is. absurd (no_lock is);
    spent = λ words new is. absurd (no_lock (lock_of_live site.shape words (link_word site.shape s) is.0));
    harmless = link_harmless;
  }

-- a slot in which no segment lives is not splitting
not_splitting : (head : ℕ) → (HasLiveState head → ⊥) → state_in head ≢ splitting
not_splitting head dead is = dead (inr is)

pub may_fill : (site : Ground) (v : View) → IsGround site → MayFill site v
may_fill site v ground = record {
  word = λ n i x head holder own plain even. word_set site ground v n head own i x holder plain even;
  side_link = λ n l head holder own low. link_set site ground v n l head own.slot own.header (not_splitting head own.dead) low holder
      (holds_own site ground v n head own (link_word site.shape n) (link_in_slot site.shape n)) (own_dead site ground v n head own (link_word site.shape n) (link_in_slot site.shape n));
  link = λ s l head holder slot has none knows still low. link_set site ground v s l head slot knows still low holder (inr (Segment s, has, inr refl))
      (λ m side there. absurd (none (subst (λ (z : ℕ). Has (Side z) v.areas) (one_slot site.shape m s (link_word site.shape s) there (link_in_slot site.shape s)) side)));
}
