-- What keeps the split: a step that leaves locks and areas, and each word that is known of the slots.
use Rattle.std.proofs.Common.{◌≡◌, ℕ, ◌+◌, ◌*◌, ◌/◌, ◌<◌, ◌≤◌, inl, inr, false, List, refl, sym, ap, ◌∙◌, subst, arith}
use Rattle.std.specs.Prelude.{slice_index}
use Rattle.segment_head.specs.HeadWord.{depth_in}
use Rattle.image_layout.specs.Places.{Shape, root_word, first_segment, entry_at, bucket_at, buckets}
use Rattle.frame_facts.specs.Facts.{Fact, Lives, Current, Owns}
use Rattle.frame_facts.specs.DeadSlots.{IsInSlot}
use Rattle.map_model.specs.declared.call.Call.{Call}
use Rattle.world.specs.declared.site.Site.{Site}
use Rattle.world.specs.Ground.{Ground}
use Rattle.world.specs.Views.{View, Has, IsLoose}
use Rattle.world.specs.Holders.{KnowsWord}
use Rattle.world.specs.areas.Areas.{Area, Whole, header_word}
use Rattle.world.specs.areas.Kinds.{is_claim}
use Rattle.world.specs.areas.Splitting.{link_word, IsSettledHolder, KnowsHead, KnowsBuckets}
use Rattle.world.proofs.fitting.OneHolder.{head_in_slot, link_in_slot}
use Rattle.world.proofs.moving.media.MediaKept.{bucket_in_slot}
use Rattle.split_op.specs.Whole.{HoldsLocks}
use Rattle.split_op.specs.declared.copied.Copied.{Copied}
use Rattle.split_op.specs.Copied.{copied_words}
use Rattle.rounds.specs.declared.rounds.Rounds.{Rounds}
use Rattle.directory_op.specs.declared.op.DirectoryStep.{DirectoryStep}
use Rattle.directory_op.specs.declared.op.DirectoryOp.{DirectoryOp}
use Rattle.directory_op.specs.Fits.{IsKeptWord, IsSideWord, SplitStands, SideIsNew, SideIsLive, with_side, Doubles, FilledBelow, IsDeepEnough, EnteredBelow, side_depth, side_pattern}
use Rattle.directory_op.proofs.Words.{slot_behind}

-- A STEP KEEPS what is held and planned, what is said but for claims, and each known word of which P is so
pub record Keeps (P : ℕ → Type 0) (v u : View) : Type 0 where
  pub held : u.held ≡ v.held
  pub planned : u.planned ≡ v.planned
  pub moving : u.moving ≡ v.moving
  pub owed : u.owed ≡ v.owed
  pub facts : (fact : Fact) → is_claim fact ≡ false → Has fact v.facts → Has fact u.facts
  pub known : (i x : ℕ) → P i → Has (i, x) v.known → Has (i, x) u.known

-- locks are held as before
pub locks_stay : (site : Ground) (c : Copied) (v u : View) → u.held ≡ v.held → HoldsLocks site c.whole v → HoldsLocks site c.whole u
locks_stay site c v u same locks = record {
  has = λ b from low. subst (λ (held : List (ℕ × ℕ)). Has (bucket_at site.shape c.whole.segment b, slice_index c.whole.locks b + 1) held) (sym same) (locks.has b from low);
  only = λ p has. locks.only p (subst (λ (held : List (ℕ × ℕ)). Has p held) same has);
  free = locks.free;
}

-- ---- where the words are
module _ (shape : Shape) (c : Copied) where
  pub kept_in_slot : (i : ℕ) → IsKeptWord shape c.whole.segment i → IsInSlot shape c.whole.segment i
  kept_in_slot i is = elim is [
    | inl e ↦ subst (IsInSlot shape c.whole.segment) (sym e) (head_in_slot shape c.whole.segment)
    | inr is ↦ elim is [
      | inl e ↦ subst (IsInSlot shape c.whole.segment) (sym e) (link_in_slot shape c.whole.segment)
      | inr w ↦ subst (IsInSlot shape c.whole.segment) (sym w.5) (bucket_in_slot shape c.whole.segment w.0 w.1 w.2 w.4)
    ]
  ]

  pub side_in_slot : (i : ℕ) → IsSideWord shape c i → IsInSlot shape c.side i
  side_in_slot i is = elim is [
    | inl e ↦ subst (IsInSlot shape c.side) (sym e) (head_in_slot shape c.side)
    | inr is ↦ elim is [
      | inl w ↦ subst (IsInSlot shape c.side) (sym w.5) (bucket_in_slot shape c.side w.0 w.1 w.2 (let few = w.4 in omega (arith, few)))
      | inr w ↦ (let few = w.3 in elim w.5 [
        | inl e ↦ subst (IsInSlot shape c.side) (sym (e ∙ behind (bucket_at shape c.side w.0) 4 w.1)) (bucket_in_slot shape c.side w.0 (4 + 2 * w.1) w.2 (omega (arith, few)))
        | inr e ↦ subst (IsInSlot shape c.side) (sym (e ∙ behind (bucket_at shape c.side w.0) 5 w.1)) (bucket_in_slot shape c.side w.0 (5 + 2 * w.1) w.2 (omega (arith, few)))
      ])
    ]
  ]
    where
      behind : (at m r : ℕ) → at + m + 2 * r ≡ at + (m + 2 * r)
      behind at m r = omega arith

  pub lock_in_slot : (b : ℕ) → b < buckets → IsInSlot shape c.side (bucket_at shape c.side b)
  lock_in_slot b near = subst (IsInSlot shape c.side) (none (bucket_at shape c.side b)) (bucket_in_slot shape c.side b 0 near (omega arith))
    where
      none : (at : ℕ) → at + 0 ≡ at
      none at = omega arith

-- ---- the split
module _ (site : Ground) (here : Site) (call : Call) (c : Copied) (P : ℕ → Type 0) (v u : View) (k : Keeps P v u) where
  pub split_stays : (areas : List Area) → u.areas ≡ areas → (was : List Area) → ((i : ℕ) → IsKeptWord site.shape c.whole.segment i → P i) → SplitStands site here call c was v
      → SplitStands site here call c areas u
  split_stays areas is was far s = record {
    is = s.is;
    whole = s.whole;
    copy = s.copy;
    there = record { live = record { within = s.there.within; lives = k.facts (Lives c.whole.segment) refl s.there.lives }; current = k.facts (Current c.whole.segment) refl s.there.current };
    areas = is;
    locks = locks_stay site c v u k.held s.locks;
    known = λ i word. k.known i (copied_words c i) (far i word) (s.known i word);
    planned = k.planned ∙ s.planned;
    moving = k.moving ∙ s.moving;
    owed = k.owed ∙ s.owed;
  }

  module _ (areas : u.areas ≡ v.areas) (far : (i : ℕ) → first_segment site.shape ≤ i → P i) where
    kept_far : (i : ℕ) → IsKeptWord site.shape c.whole.segment i → P i
    kept_far i is = far i (slot_behind site.shape c.whole.segment i (kept_in_slot site.shape c i is))

    pub new_stays : SideIsNew site here call c v → SideIsNew site here call c u
    new_stays new = record {
      split = split_stays (with_side site here call c) (areas ∙ new.split.areas) (with_side site here call c) kept_far new.split;
      side = λ i is. k.known i (copied_words c i) (far i (slot_behind site.shape c.side i (side_in_slot site.shape c i is))) (new.side i is);
      free = λ b near. (let f = new.free b near in (f.0, k.known (bucket_at site.shape c.side b) f.0 (far (bucket_at site.shape c.side b) (slot_behind site.shape c.side _ (lock_in_slot site.shape c b near))) f.1, f.2));
    }

    pub live_stays : (Has (Owns c.side (side_depth c) (side_pattern c)) v.facts → Has (Owns c.side (side_depth c) (side_pattern c)) u.facts) → SideIsLive site here call c v → SideIsLive site here call c u
    live_stays claims live = record {
      split = split_stays _ (areas ∙ live.split.areas) _ kept_far live.split;
      owns = claims live.owns;
    }

-- ---- the directory
-- behind the step the rounds and the step may be others
module _ (site : Ground) (here : Site) (op : DirectoryOp) (rounds : Rounds) (step : DirectoryStep) (P : ℕ → Type 0) (v u : View) (k : Keeps P v u) where
  abbrev later : DirectoryOp
  later = record op { rounds = rounds; step = step }

  pub doubles_stays : P root_word → Doubles site here op v → Doubles site here later u
  doubles_stays root d = record { root = d.root; deep = d.deep; known = k.known root_word (depth_in op.copied.whole.head) root d.known }

  pub deep_stays : P root_word → IsDeepEnough site here op v → IsDeepEnough site here later u
  deep_stays root d = record { deeper = d.deeper; deep = d.deep; known = k.known root_word op.root root d.known }

  pub filled_stays : (place : ℕ) → ((j : ℕ) → j < place → P (entry_at (depth_in op.copied.whole.head) (j / 2)) × P (entry_at op.root j)) → FilledBelow site here op place v → FilledBelow site here later place u
  filled_stays place are filled j low =
      let f = filled j low in
      let p = are j low in
      (f.0, k.known (entry_at (depth_in op.copied.whole.head) (j / 2)) f.0 p.0 f.1, k.known (entry_at op.root j) f.0 p.1 f.2)

  pub entered_stays : (index : ℕ) → ((j : ℕ) → j < index → P (entry_at op.root j)) → EnteredBelow site here op index v → EnteredBelow site here later index u
  entered_stays index are entered j low near of_side = k.known (entry_at op.root j) op.copied.side (are j low) (entered j low near of_side)

-- ---- what the laws of the holder of a split ask for
module _ (site : Ground) (here : Site) (call : Call) (c : Copied) (areas : List Area) (v : View) (s : SplitStands site here call c areas v) where
  pub holder : Has (Whole c.whole.segment) areas → IsSettledHolder site.shape v
  holder whole = record {
    planned = s.planned;
    moving = s.moving;
    owed = s.owed;
    locks = λ lock has.
        let o = s.locks.only (lock, has.0) has.1 in
        (c.whole.segment, o.0, s.there.within, o.2, ap (λ (p : ℕ × ℕ). p.0) o.3, subst (λ (l : List Area). Has (Whole c.whole.segment) l) (sym s.areas) whole);
  }

  module _ (firm : (i y : ℕ) → IsKeptWord site.shape c.whole.segment i → IsLoose v (i, y) → ⊥) where
    pub knows_kept : (i : ℕ) → IsKeptWord site.shape c.whole.segment i → KnowsWord v i (copied_words c i)
    knows_kept i is = record { known = s.known i is; firm = λ y loose. firm i y is loose }

    pub knows_head : KnowsHead site.shape v c.whole.segment (copied_words c)
    knows_head = record {
      slot = s.there.within;
      header = knows_kept (header_word site.shape c.whole.segment) (inl refl);
      link = knows_kept (link_word site.shape c.whole.segment) (inr (inl refl));
    }

    pub knows_buckets : KnowsBuckets site.shape v c.whole.segment (copied_words c)
    knows_buckets b m near above inside = knows_kept (bucket_at site.shape c.whole.segment b + m) (inr (inr (b, m, near, above, inside, refl)))
