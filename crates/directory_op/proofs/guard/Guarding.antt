-- Under the guard of the directory: what loads of the root and of entries tell, and what is left when the guard is given back.
use Rattle.std.proofs.Common.{◌≡◌, ◌≢◌, ℕ, suc, ◌+◌, ◌-◌, ◌*◌, ◌/◌, ◌^◌, ◌<◌, ◌≤◌, inl, inr, Bool, true, false, cond, List, [], ◌∷◌, refl, sym, ap, ◌∙◌, subst, arith}
use Rattle.std.specs.Prelude.{⊤, ◌==◌, ◌&&◌, ◌||◌, not, nat_le, nat_lt}
use Rattle.std.proofs.lemmas.Bool.{cases_lt, le-ltb, lt-leb, eqb-true, eqb-false, ne_eqb}
use Rattle.std.proofs.lemmas.Nat.{pow_pos}
use Rattle.std.proofs.lemmas.Option.{none-some}
use Rattle.trace.specs.Events.{Words}
use Rattle.segment_head.specs.HeadWord.{state_in, depth_in, splitting}
use Rattle.image_layout.specs.Places.{Shape, block, root_word, entry_at, first_segment, bucket_at}
use Rattle.frame_facts.specs.Facts.{Fact, Lives, Current, Lacks, Deep}
use Rattle.frame_facts.specs.DeadSlots.{IsInSlot}
use Rattle.map_model.specs.declared.call.Call.{Call}
use Rattle.world.specs.declared.site.Site.{Site}
use Rattle.world.specs.Ground.{Ground, IsGround, IsUnder}
use Rattle.world.specs.Views.{View, Has, At, IsLoose}
use Rattle.world.specs.Holders.{KnowsWord}
use Rattle.world.specs.areas.Areas.{Area, Segment, Whole, Directory, header_word, InArea, IsDirectoryWord, is_of_directory, all_but}
use Rattle.world.specs.areas.Fitting.{HoldsWord}
use Rattle.world.specs.Invariant.{Holds}
use Rattle.world.specs.areas.Kinds.{of_directory, reads, gives, is_claim, view_then}
use Rattle.world.specs.areas.Splitting.{link_word}
use Rattle.world.proofs.holders.directing.Known.{front_far}
use Rattle.world.proofs.fitting.Filtered.{has_filtered}
use Rattle.world.proofs.moving.Holding.{out_of_directory_has, under_in_slot}
use Rattle.world.proofs.moving.Known.{guard_in_slot, possible_now}
use Rattle.rounds.specs.Steps.{begun}
use Rattle.rounds.specs.Stands.{RoundStands, IsSettled}
use Rattle.rounds.proofs.Settling.{settled_firm, round_same, rounds_settle}
use Rattle.split_op.specs.Copied.{split_head, copied_words}
use Rattle.directory_op.specs.declared.op.DirectoryEnd.TheVariants.{Off}
use Rattle.directory_op.specs.declared.op.Stage.TheVariants.{Fill, GoLive}
use Rattle.directory_op.specs.declared.op.DirectoryStep.TheVariants.{LoadEntry, Store, Ended}
use Rattle.directory_op.specs.declared.op.DirectoryOp.{DirectoryOp}
use Rattle.directory_op.specs.Places.{entry_word_at}
use Rattle.directory_op.specs.Steps.{shape_of, rooted, is_over, with_root}
use Rattle.directory_op.specs.Fits.{side_depth, side_pattern, IsGuarding, IsDirected, FillsFrom, KeepsPublished, SuitsStep, IsKeptWord}
use Rattle.directory_op.proofs.Words.{doubled, entry_is, slot_behind}
use Rattle.directory_op.proofs.Keeping.{Keeps, locks_stay, kept_in_slot, new_stays}
use Rattle.directory_op.proofs.Sides.{split_state, split_depth, head_kept}
use Rattle.directory_op.proofs.stages.Staying.{filling_stays}

-- a word of a slot is no word of the directory
pub not_directory : (f i : ℕ) → 32 ≤ f → f ≤ i → not ((i == root_word) || (nat_le block i && nat_lt i f)) ≡ true
not_directory f i front far = ap (λ b. not (b || (nat_le block i && nat_lt i f))) (ne_eqb i 8 (λ e. omega (arith, e, front, far)))
    ∙ ap (λ b. not (nat_le block i && b)) (le-ltb i f far) ∙ ends (nat_le block i)
  where
    ends : (b : Bool) → not (b && false) ≡ true
    ends true = refl
    ends false = refl

-- ---- a word is loaded
module _ (shape : Shape) (i n : ℕ) (v : View) where
  abbrev read : View
  read = view_then shape (reads i) n v

  pub keeps_read : Keeps (λ i. ⊤) v read
  keeps_read = record { held = refl; planned = refl; moving = refl; owed = refl; facts = λ fact no has. has; known = λ i x p has. inr has }

module _ (site : Ground) (here : Site) (call : Call) (words : Words) (views : List View) (j : ℕ) (op : DirectoryOp) (v : View) (h : Holds site words views) (at : At views j v) where
  abbrev shape : Shape
  shape = site.shape

  abbrev ground : IsGround site
  ground = h.site_is

  -- ---- the root
  module _ (s : IsGuarding site here op call v) where
    abbrev d : ℕ
    d = depth_in op.copied.whole.head

    abbrev rooted_view : View
    rooted_view = view_then shape (reads root_word) (words root_word) v

    -- the header of the segment is the newest word
    head_now : words (header_word shape op.copied.whole.segment) ≡ split_head op.copied.whole
    head_now = (h.known.knows j v (header_word shape op.copied.whole.segment) (copied_words op.copied (header_word shape op.copied.whole.segment)) at (s.new.split.known (header_word shape op.copied.whole.segment) (inl refl))).0
        ∙ head_kept site ground here call op.copied s.new.split.is s.new.split.whole s.new.split.copy

    is_live : state_in (words (header_word shape op.copied.whole.segment)) ≡ splitting
    is_live = ap state_in head_now ∙ split_state site ground here call op.copied s.new.split.is s.new.split.whole

    depth_now : depth_in (words (header_word shape op.copied.whole.segment)) ≡ d
    depth_now = ap depth_in head_now ∙ split_depth site ground here call op.copied s.new.split.is s.new.split.whole

    -- so the root is as deep, and no deeper than the image allows
    root_deep : d ≤ words root_word
    root_deep = subst (λ k. k ≤ words root_word) depth_now ((h.structure.sound words (possible_now site words views h)).sound.not_deep op.copied.whole.segment s.new.split.there.within (inr is_live))

    root_low : words root_word ≤ shape.depth
    root_low = (h.structure.sound words (possible_now site words views h)).sound.root

    begins : (u : View) → IsSettled u → RoundStands begun u
    begins u settled = rounds_settle.begins u settled

    settled_read : IsSettled rooted_view
    settled_read = record { dirty = s.settled.dirty; flushed = s.settled.flushed }

    head_depth : depth_in op.head ≡ d
    head_depth = ap depth_in s.heads.head ∙ split_depth site ground here call op.copied s.new.split.is s.new.split.whole

    -- the segment is as deep
    doubling : words root_word ≡ d → SuitsStep site here (rooted true op (words root_word)) call (LoadEntry 0) rooted_view
    doubling same = record {
      filling = record {
        new = new_stays site here call op.copied (λ i. ⊤) v rooted_view (keeps_read shape root_word (words root_word) v) refl (λ i far. tt) s.new;
        doubles = record {
          root = (let e = same in omega (arith, e));
          deep = (let e = same in let less = s.new.split.whole.shallow in omega (arith, e, less));
          known = inl (ap (λ k. (root_word, k)) (sym same));
        };
        filled = λ k low. absurd (none k low);
      };
      even = refl;
      low = pow_pos (words root_word + 1);
      storing = record {
        heads = record { head = s.heads.head; side = s.heads.side };
        round = begins rooted_view settled_read;
        loose = λ p loose. absurd (settled_firm rooted_view settled_read p loose);
        lines = λ line has. absurd has;
      };
    }
      where
        none : (k : ℕ) → k < 0 → ⊥
        none k low = omega (arith, low)

    -- the root is deeper
    publishing : words root_word ≢ d → SuitsStep site here (rooted false op (words root_word)) call (Store GoLive) rooted_view
    publishing other = record {
      storing = record {
        heads = record { head = s.heads.head; side = s.heads.side };
        round = begins rooted_view settled_read;
        loose = λ p loose. absurd (settled_firm rooted_view settled_read p loose);
        lines = λ line has. absurd has;
      };
      at = record {
        new = new_stays site here call op.copied (λ i. ⊤) v rooted_view (keeps_read shape root_word (words root_word) v) refl (λ i far. tt) s.new;
        root = record { deeper = deeper (words root_word) d root_deep other; deep = root_low; known = inl refl };
      };
      open_round = λ e none. none-some _ (sym none);
    }
      where
        deeper : (a b : ℕ) → b ≤ a → a ≢ b → suc b ≤ a
        deeper a b low other = elim (cases_lt b a) [ inl less ↦ omega (arith, less) | inr more ↦ absurd (other (omega (arith, low, more))) ]

    by_root : (same : Bool) → (words root_word == depth_in op.head) ≡ same
        → SuitsStep site here (rooted same op (words root_word)) call (rooted same op (words root_word)).step rooted_view
    by_root true e = doubling (eqb-true (words root_word) (depth_in op.head) e ∙ head_depth)
    by_root false e = publishing (λ same. eqb-false (words root_word) (depth_in op.head) e (same ∙ sym head_depth))

    here_low : (shape_of op).depth ≡ shape.depth
    here_low = ap (λ (g : Shape). g.depth) s.new.split.is.located.shape

    within_by : (same : Bool) → (words root_word == depth_in op.head) ≡ same → is_over (shape_of op) same (words root_word) ≡ false
    within_by true e =
        let same : words root_word ≡ d = eqb-true (words root_word) (depth_in op.head) e ∙ head_depth in
        let less = s.new.split.whole.shallow in
        lt-leb (shape_of op).depth (words root_word) (subst (λ k. words root_word < k) (sym here_low) (omega (arith, same, less)))
    within_by false e = le-ltb (shape_of op).depth (words root_word) (subst (λ k. words root_word ≤ k) (sym here_low) root_low)

    -- so the image has the areas that are needed
    pub root_within : is_over (shape_of op) (words root_word == depth_in op.head) (words root_word) ≡ false
    root_within = within_by (words root_word == depth_in op.head) refl

    pub root_stands : SuitsStep site here (with_root op (words root_word)) call (with_root op (words root_word)).step rooted_view
    root_stands =
        subst (λ b. SuitsStep site here (cond b (record op { step = Ended Off }) (rooted (words root_word == depth_in op.head) op (words root_word))) call
        (cond b (record op { step = Ended Off }) (rooted (words root_word == depth_in op.head) op (words root_word))).step rooted_view)
        (sym root_within) (by_root (words root_word == depth_in op.head) refl)

  -- ---- an entry
  module _ (place n : ℕ) (small : n < 2 ^ 64) (s : FillsFrom site here op call place v) where
    abbrev entry : ℕ
    entry = entry_word_at op.copied.whole.site.geometry (op.root - 1) (place / 2)

    abbrev entry_view : View
    entry_view = view_then shape (reads entry) n v

    pub old_is : entry ≡ entry_at (depth_in op.copied.whole.head) (place / 2)
    old_is =
        let root = s.filling.doubles.root in
        let deep = s.filling.doubles.deep in
        let near = s.low in
        let one : op.root - 1 ≡ depth_in op.copied.whole.head = omega (arith, root) in
        let twice : 2 ^ op.root ≡ 2 * 2 ^ depth_in op.copied.whole.head = ap (λ k. 2 ^ k) root ∙ doubled (depth_in op.copied.whole.head) in
        ap (λ k. entry_word_at op.copied.whole.site.geometry k (place / 2)) one
        ∙ entry_is op.copied.whole.site.geometry shape (depth_in op.copied.whole.head) (place / 2) s.filling.new.split.is.located.shape (omega (arith, root, deep)) ground.shape.depth (omega (arith, near, twice))

    pub entry_stands : SuitsStep site here (record op { step = Store (Fill place n) }) call (Store (Fill place n)) entry_view
    entry_stands = record {
      storing = record {
        heads = record { head = s.storing.heads.head; side = s.storing.heads.side };
        round = round_same v entry_view refl refl op.rounds s.storing.round;
        loose = s.storing.loose;
        lines = s.storing.lines;
      };
      at = record {
        filling = filling_stays site here call op op.rounds (Store (Fill place n)) v entry_view (keeps_read shape entry n v) refl (λ fact has. has) place s.filling;
        low = s.low;
        small = small;
        known = inl (ap (λ i. (i, n)) (sym old_is));
      };
      open_round = λ e none. none-some _ (sym none);
    }

  -- ---- the guard is given back
  module _ (n : ℕ) (s : IsDirected site here op call v) where
    abbrev left : View
    left = view_then shape (gives of_directory) n v

    said : (fact : Fact) → is_claim fact ≡ false → Has fact v.facts → Has fact left.facts
    said fact none has = has_filtered (λ f. not (is_claim f)) v.facts fact has (ap not none)

    known_left : (i x : ℕ) → first_segment shape ≤ i → Has (i, x) v.known → Has (i, x) left.known
    known_left i x far has = has_filtered (λ (p : ℕ × ℕ). not ((p.0 == root_word) || (nat_le block p.0 && nat_lt p.0 (first_segment shape)))) v.known (i, x) has
        (not_directory (first_segment shape) i (front_far shape) far)

    none_loose : (p : ℕ × ℕ) → IsLoose left p → ⊥
    none_loose p loose = settled_firm v s.settled p loose

    kept_word : (i : ℕ) → IsKeptWord shape op.copied.whole.segment i → KnowsWord left i (copied_words op.copied i)
    kept_word i is = record {
      known = known_left i (copied_words op.copied i) (slot_behind shape op.copied.whole.segment i (kept_in_slot shape op.copied i is)) (s.live.split.known i is);
      firm = λ y loose. none_loose (i, y) loose;
    }

    -- what is known is held, so it lies in the slot
    in_area : (i : ℕ) → (a : Area) → Has a (Directory ∷ Whole op.copied.whole.segment ∷ Segment op.copied.whole.segment ∷ []) → InArea shape a i → (IsDirectoryWord shape i → ⊥)
        → IsInSlot shape op.copied.whole.segment i
    in_area i a has inside none = elim has [
      | inl e ↦ absurd (none (subst (λ (b : Area). InArea shape b i) e inside))
      | inr has ↦ elim has [
        | inl e ↦ absurd (subst (λ (b : Area). InArea shape b i) e inside)
        | inr has ↦ elim has [
          | inl e ↦ guard_in_slot shape op.copied.whole.segment i (subst (λ (b : Area). InArea shape b i) e inside)
          | inr has ↦ absurd has
        ]
      ]
    ]

    held_in_slot : (i : ℕ) → HoldsWord shape v i → (IsDirectoryWord shape i → ⊥) → IsInSlot shape op.copied.whole.segment i
    held_in_slot i holds none = elim holds [
      | inl g ↦ (let lock = s.live.split.locks.only (g.0, g.1.0) g.1.1 in
          under_in_slot shape op.copied.whole.segment lock.0 i lock.2 (subst (λ l. IsUnder l i) (ap (λ (p : ℕ × ℕ). p.0) lock.3) g.2))
      | inr a ↦ in_area i a.0 (subst (λ (l : List Area). Has a.0 l) s.live.split.areas a.1) a.2 none
    ]

    pub published_left : KeepsPublished site here call op.copied left
    published_left = record {
      is = s.live.split.is;
      whole = s.live.split.whole;
      copy = s.live.split.copy;
      there = record {
        live = record { within = s.live.split.there.within; lives = said (Lives op.copied.whole.segment) refl s.live.split.there.lives };
        current = said (Current op.copied.whole.segment) refl s.live.split.there.current;
      };
      areas = ap (all_but is_of_directory) s.live.split.areas;
      locks = locks_stay site op.copied v left refl s.live.split.locks;
      head = record {
        slot = s.live.split.there.within;
        header = kept_word (header_word shape op.copied.whole.segment) (inl refl);
        link = kept_word (link_word shape op.copied.whole.segment) (inr (inl refl));
      };
      buckets_are = λ b m near above inside. kept_word (bucket_at shape op.copied.whole.segment b + m) (inr (inr (b, m, near, above, inside, refl)));
      known = λ p has. (let k = out_of_directory_has shape p.0 p.1 v.known has in held_in_slot p.0 (h.known.knows j v p.0 p.1 at k.1).1 k.0);
      lacks = said (Lacks op.copied.whole.segment (side_depth op.copied) (side_pattern op.copied)) refl s.lacks;
      deep = said (Deep (depth_in op.copied.whole.head) (side_depth op.copied) (side_pattern op.copied)) refl s.deep;
      quiet = record {
        dirty = s.settled.dirty;
        flushed = s.settled.flushed;
        planned = s.live.split.planned;
        moving = s.live.split.moving;
        owed = s.live.split.owed;
      };
    }
