-- Behind a store: the next entry is filled or the last one was, the root is deeper, the side is live, the next entry names it or the last
-- one does.
use Rattle.std.proofs.Common.{◌≡◌, ◌≢◌, ℕ, ◌+◌, ◌-◌, ◌*◌, ◌/◌, ◌%◌, ◌^◌, ◌<◌, ◌≤◌, ◌⊎◌, inl, inr, Bool, true, false, cond, [], refl, sym, ap, ◌∙◌, subst, arith}
use Rattle.std.specs.Prelude.{◌==◌, not}
use Rattle.std.proofs.lemmas.Bool.{cases_lt, lt-ltb, le-ltb, eqb-true, eq-eqb, true≢false}
use Rattle.std.proofs.lemmas.Option.{none-some}
use Rattle.op_core.specs.declared.want.Want.TheVariants.{Store as StoreWord}
use Rattle.segment_head.specs.HeadWord.{depth_in}
use Rattle.image_layout.specs.Places.{Shape, root_word, entry_at, first_segment, most_depth}
use Rattle.way.specs.Ways.{head_word}
use Rattle.frame_facts.specs.Facts.{Fact, Lives, Current, Rooted, Owns, Lacks, Deep, Begins, Used, Taken}
use Rattle.frame_facts.specs.DeadSlots.{IsInSlot}
use Rattle.map_model.specs.declared.call.Call.{Call}
use Rattle.world.specs.declared.site.Site.{Site}
use Rattle.world.specs.Ground.{Ground, IsGround}
use Rattle.world.specs.Views.{View, Has, IsLoose}
use Rattle.world.specs.Kinds.{loosened}
use Rattle.world.specs.areas.Areas.{header_word}
use Rattle.world.specs.areas.Rows.{goes_live}
use Rattle.world.specs.areas.Kinds.{sets, moves, is_claim, is_claim_of, view_then}
use Rattle.world.proofs.basics.Seats.{without_stays, loosened_has}
use Rattle.world.proofs.fitting.Filtered.{has_filtered}
use Rattle.world.proofs.fitting.OneHolder.{head_in_slot}
use Rattle.rounds.specs.Steps.{begun, rounds_stores, rounds_taken}
use Rattle.rounds.specs.Stands.{RoundStands}
use Rattle.rounds.proofs.Events.{store_wanted}
use Rattle.rounds.proofs.Settling.{round_same, round_behind}
use Rattle.split_op.specs.Copied.{side_head}
use Rattle.directory_op.specs.declared.op.Stage.{Stage}
use Rattle.directory_op.specs.declared.op.Stage.TheVariants.{Fill, Filled, Deepen, Deepened, GoLive, Live, Enter, Entered}
use Rattle.directory_op.specs.declared.op.DirectoryStep.{DirectoryStep}
use Rattle.directory_op.specs.declared.op.DirectoryStep.TheVariants.{LoadEntry, Store}
use Rattle.directory_op.specs.declared.op.DirectoryOp.{DirectoryOp}
use Rattle.directory_op.specs.Places.{entries_there, entry_word_at, side_last, live_head}
use Rattle.directory_op.specs.Steps.{next_store, fill_on, stage_after}
use Rattle.directory_op.specs.Fits.{with_side, SuitsStore, SuitsStep, FilledBelow, EnteredBelow, IsFilling, IsEntering}
use Rattle.directory_op.proofs.Words.{all_entries, doubled, entry_is, head_is, entry_no_root, entry_same, entry_deeper, entry_no_slot, root_no_slot, root_no_header, other_slot}
use Rattle.directory_op.proofs.Keeping.{Keeps, kept_in_slot, split_stays, new_stays, live_stays, doubles_stays, deep_stays, filled_stays, entered_stays}
use Rattle.directory_op.proofs.Sides.{is_of_side, first_of, last_of, near_of}
use Rattle.directory_op.proofs.stages.Rounding.{storing_behind}

-- what is no claim is none of a segment
no_claim_of : (s : ℕ) (fact : Fact) → is_claim fact ≡ false → not (is_claim_of s fact) ≡ true
no_claim_of s (Lives t) e = refl
no_claim_of s (Current t) e = refl
no_claim_of s (Rooted t) e = refl
no_claim_of s (Owns t d p) e = absurd (cc)
no_claim_of s (Lacks t d p) e = refl
no_claim_of s (Deep f d p) e = refl
no_claim_of s (Begins t h) e = refl
no_claim_of s (Used t) e = refl
no_claim_of s (Taken t) e = refl

-- a place is below another one, or it is the last before that
below_or_last : (j place : ℕ) → j < place + 1 → (j < place) ⊎ (j ≡ place)
below_or_last j place low = elim (cases_lt j place) [ inl less ↦ inl less | inr more ↦ inr (omega (arith, low, more)) ]

module _ (site : Ground) (ground : IsGround site) (here : Site) (call : Call) (op : DirectoryOp) (n : ℕ) (v : View) where
  abbrev d : ℕ
  d = depth_in op.copied.whole.head

  abbrev shape : Shape
  shape = site.shape

  -- ---- a store of a word
  module _ (w x : ℕ) where
    abbrev stored : View
    stored = view_then shape (sets w x) n v

    keeps_stored : Keeps (λ i. i ≢ w) v stored
    keeps_stored = record { held = refl; planned = refl; moving = refl; owed = refl; facts = λ fact no has. has; known = λ i y apart has. inr (without_stays w i y v.known apart has) }

    -- it is loose then, beside what was
    stored_loose : (P : ℕ → Type 0) → ((p : ℕ × ℕ) → IsLoose v p → P p.0) → P w → (p : ℕ × ℕ) → IsLoose stored p → P p.0
    stored_loose P old new p loose = elim loose [
      | inl dirty ↦ elim (loosened_has shape w n x v.dirty p dirty) [ inl e ↦ subst (λ (q : ℕ × ℕ). P q.0) (sym e) new | inr was ↦ old p (inl was) ]
      | inr flushed ↦ old p (inr flushed)
    ]

  -- ---- a store to an entry of the root's area, as it is to be
  module _ (index w x : ℕ) (near : index < 2 ^ op.root) (deep : op.root ≤ shape.depth) (is : w ≡ entry_at op.root index) where
    entry_far : (i : ℕ) → first_segment shape ≤ i → i ≢ w
    entry_far i far e = entry_no_slot shape op.root index i deep near far (e ∙ is)

    entry_root : root_word ≢ w
    entry_root e = entry_no_root op.root index (e ∙ is)

    entry_other : (j : ℕ) → j ≢ index → entry_at op.root j ≢ w
    entry_other j apart e = apart (entry_same op.root j index (e ∙ is))

  -- ---- an entry is filled
  module _ (place value : ℕ) (s : SuitsStore site here op call (Fill place value) v) (on : rounds_stores op.rounds (next_store op (Fill place value)) ≡ true)
      (not_begun : rounds_taken op.rounds (next_store op (Fill place value)) ≡ begun → ⊥) where
    abbrev fill : Stage
    fill = Fill place value

    abbrev w : ℕ
    w = entry_word_at op.copied.whole.site.geometry op.root place

    abbrev filled : View
    filled = view_then shape (sets w value) n v

    abbrev later : DirectoryStep → DirectoryOp
    later step = record op { rounds = rounds_taken op.rounds (next_store op fill); step = step }

    fill_is : w ≡ entry_at op.root place
    fill_is = entry_is op.copied.whole.site.geometry shape op.root place s.at.filling.new.split.is.located.shape s.at.filling.doubles.deep ground.shape.depth s.at.low

    shallow : op.root ≤ most_depth
    shallow = let most = ground.shape.depth in let deep = s.at.filling.doubles.deep in omega (arith, most, deep)

    all : entries_there op.root ≡ 2 ^ op.root
    all = all_entries op.root shallow

    half : (j : ℕ) → j < 2 ^ op.root → j / 2 < 2 ^ d
    half j low =
        let twice : 2 ^ op.root ≡ 2 * 2 ^ d = ap (λ k. 2 ^ k) s.at.filling.doubles.root ∙ doubled d in
        omega (arith, low, twice)

    old_entry : (j : ℕ) → j < 2 ^ op.root → entry_at d (j / 2) ≢ w
    old_entry j low e = entry_deeper d place (j / 2) (half j low) (sym (e ∙ fill_is ∙ ap (λ k. entry_at k place) s.at.filling.doubles.root))

    abbrev Other : ℕ → Type 0
    Other i = i ≢ w

    far : (i : ℕ) → first_segment shape ≤ i → i ≢ w
    far = entry_far place w value s.at.low s.at.filling.doubles.deep fill_is

    below : (j : ℕ) → j < place → Other (entry_at d (j / 2)) × Other (entry_at op.root j)
    below j low =
        let near = s.at.low in
        (old_entry j (omega (arith, low, near)), entry_other place w value s.at.low s.at.filling.doubles.deep fill_is j (λ e. omega (arith, low, e)))

    filled_more : (step : DirectoryStep) → FilledBelow site here (later step) (place + 1) filled
    filled_more step j low = elim (below_or_last j place low) [
      | inl less ↦ filled_stays site here op (rounds_taken op.rounds (next_store op fill)) step Other v filled (keeps_stored w value) place below s.at.filling.filled j less
      | inr e ↦ (
        value,
        (keeps_stored w value).known (entry_at d (j / 2)) value (old_entry j (let near = s.at.low in omega (arith, e, near))) (subst (λ k. Has (entry_at d (k / 2), value) v.known) (sym e) s.at.known),
        subst (λ i. Has (i, value) filled.known) (fill_is ∙ ap (λ k. entry_at op.root k) (sym e)) (inl refl),
      )
    ]

    filling_more : (step : DirectoryStep) → IsFilling site here (later step) call (place + 1) filled
    filling_more step = record {
      new = new_stays site here call op.copied Other v filled (keeps_stored w value) refl far s.at.filling.new;
      doubles = doubles_stays site here op (rounds_taken op.rounds (next_store op fill)) step Other v filled (keeps_stored w value) (entry_root place w value s.at.low s.at.filling.doubles.deep fill_is) s.at.filling.doubles;
      filled = filled_more step;
    }

    round : RoundStands (rounds_taken op.rounds (next_store op fill)) filled
    round = round_behind shape op.rounds (next_store op fill) n v s.storing.round [] (StoreWord w value) (store_wanted op.rounds w value on)

    loose : (p : ℕ × ℕ) → IsLoose filled p → (j : ℕ) × (j < 2 ^ op.root) × (p.0 ≡ entry_at op.root j)
    loose = stored_loose w value (λ i. (j : ℕ) × (j < 2 ^ op.root) × (i ≡ entry_at op.root j)) s.storing.loose (place, s.at.low, fill_is)

    -- the next one is not the last
    next_fill : place < entries_there op.root - 1 → (even : Bool) → (place % 2 == 0) ≡ even → SuitsStep site here (later (fill_on even place value)) call (fill_on even place value) filled
    next_fill less true e =
        let even = eqb-true (place % 2) 0 e in
        let whole = all in
        let more : place + 1 < 2 ^ op.root = omega (arith, less, whole) in
        record {
          storing = storing_behind site ground here call op v fill s filled (Fill (place + 1) value) (Store (Fill (place + 1) value)) round loose;
          at = record {
            filling = filling_more (Store (Fill (place + 1) value));
            low = more;
            small = s.at.small;
            known = subst (λ k. Has (entry_at d k, value) filled.known) (same_half place even) ((keeps_stored w value).known (entry_at d (place / 2)) value (old_entry place s.at.low) s.at.known);
          };
          open_round = λ e none. none-some _ (sym none);
        }
      where
        same_half : (place : ℕ) → place % 2 ≡ 0 → place / 2 ≡ (place + 1) / 2
        same_half place e = omega (arith, e)
    next_fill less false e =
        let whole = all in
        let more : place + 1 < 2 ^ op.root = omega (arith, less, whole) in
        record {
          filling = filling_more (LoadEntry (place + 1));
          even = next_even place (λ is. true≢false (sym (eq-eqb (place % 2) 0 is) ∙ e));
          low = more;
          storing = storing_behind site ground here call op v fill s filled Filled (LoadEntry (place + 1)) round loose;
        }
      where
        next_even : (place : ℕ) → (place % 2 ≡ 0 → ⊥) → (place + 1) % 2 ≡ 0
        next_even place odd = elim (cases_lt 0 (place % 2)) [ inl one ↦ omega (arith, one) | inr none ↦ absurd (odd (omega (arith, none))) ]

    last_fill : entries_there op.root - 1 ≤ place → SuitsStep site here (later (Store Filled)) call (Store Filled) filled
    last_fill last =
        let whole = all in
        let near = s.at.low in
        let over : place + 1 ≡ 2 ^ op.root = omega (arith, last, whole, near) in
        record {
          storing = storing_behind site ground here call op v fill s filled Filled (Store Filled) round loose;
          at = subst (λ k. IsFilling site here (later (Store Filled)) call k filled) over (filling_more (Store Filled));
          open_round = λ e none. not_begun e;
        }

    pub fill_stands : SuitsStep site here (later (stage_after op fill)) call (stage_after op fill) filled
    fill_stands = elim (cases_lt place (entries_there op.root - 1)) [
      | inl less ↦ subst (λ b. SuitsStep site here (later (cond b (fill_on (place % 2 == 0) place value) (Store Filled))) call (cond b (fill_on (place % 2 == 0) place value) (Store Filled)) filled)
          (sym (lt-ltb place (entries_there op.root - 1) less)) (next_fill less (place % 2 == 0) refl)
      | inr last ↦ subst (λ b. SuitsStep site here (later (cond b (fill_on (place % 2 == 0) place value) (Store Filled))) call (cond b (fill_on (place % 2 == 0) place value) (Store Filled)) filled)
          (sym (le-ltb place (entries_there op.root - 1) last)) (last_fill last)
    ]

  -- ---- the root gets deeper
  module _ (s : SuitsStore site here op call Deepen v) (on : rounds_stores op.rounds (next_store op Deepen) ≡ true) (not_begun : rounds_taken op.rounds (next_store op Deepen) ≡ begun → ⊥) where
    abbrev deepened : View
    deepened = view_then shape (sets root_word op.root) n v

    pub deepen_stands : SuitsStep site here (record op { rounds = rounds_taken op.rounds (next_store op Deepen); step = Store Deepened }) call (Store Deepened) deepened
    deepen_stands = record {
      storing = storing_behind site ground here call op v Deepen s deepened Deepened (Store Deepened)
          (round_behind shape op.rounds (next_store op Deepen) n v s.storing.round [] (StoreWord root_word op.root) (store_wanted op.rounds root_word op.root on))
          (stored_loose root_word op.root (λ i. i ≡ root_word) (λ p loose. absurd (s.storing.loose p loose)) refl);
      at = record {
        new = new_stays site here call op.copied (λ i. i ≢ root_word) v deepened (keeps_stored root_word op.root) refl (λ i far. root_no_slot shape i far) s.at.new;
        root = record { deeper = (let e = s.at.doubles.root in omega (arith, e)); deep = s.at.doubles.deep; known = inl refl };
      };
      open_round = λ e none. not_begun e;
    }

  -- ---- the side goes live
  module _ (s : SuitsStore site here op call GoLive v) (on : rounds_stores op.rounds (next_store op GoLive) ≡ true) (not_begun : rounds_taken op.rounds (next_store op GoLive) ≡ begun → ⊥) where
    abbrev x : ℕ
    x = live_head op.side_head

    abbrev lives : View
    lives = view_then shape (moves (goes_live op.copied.whole.segment) op.copied.side x) n v

    abbrev word : ℕ
    word = header_word shape op.copied.side

    word_is : head_word op.copied.whole.site.geometry op.copied.side ≡ word
    word_is = head_is op.copied.whole.site.geometry shape op.copied.side s.at.new.split.is.located.shape s.at.new.split.copy.slot

    keeps_live : Keeps (λ i. i ≢ word) v lives
    keeps_live = record {
      held = refl;
      planned = refl;
      moving = refl;
      owed = refl;
      facts = λ fact no has. has_filtered (λ f. not (is_claim_of op.copied.whole.segment f)) v.facts fact has (no_claim_of op.copied.whole.segment fact no);
      known = λ i y apart has. inr (without_stays word i y v.known apart has);
    }

    pub live_stands : SuitsStep site here (record op { rounds = rounds_taken op.rounds (next_store op GoLive); step = Store Live }) call (Store Live) lives
    live_stands = record {
      storing = storing_behind site ground here call op v GoLive s lives Live (Store Live)
          (round_same (view_then shape (sets (head_word op.copied.whole.site.geometry op.copied.side) x) n v) lives (ap (λ i. loosened shape i n x v.dirty) (sym word_is)) refl
          (rounds_taken op.rounds (next_store op GoLive))
          (round_behind shape op.rounds (next_store op GoLive) n v s.storing.round [] (StoreWord (head_word op.copied.whole.site.geometry op.copied.side) x)
          (store_wanted op.rounds (head_word op.copied.whole.site.geometry op.copied.side) x on)))
          (stored_loose word x (λ i. i ≡ word) (λ p loose. absurd (s.storing.loose p loose)) refl);
      at = record {
        split = split_stays site here call op.copied (λ i. i ≢ word) v lives keeps_live (with_side site here call op.copied) s.at.new.split.areas (with_side site here call op.copied)
            (λ i is e. other_slot shape op.copied.whole.segment op.copied.side i s.at.new.split.copy.apart (kept_in_slot shape op.copied i is) (subst (IsInSlot shape op.copied.side) (sym e) (head_in_slot shape op.copied.side)))
            s.at.new.split;
        root = deep_stays site here op (rounds_taken op.rounds (next_store op GoLive)) (Store Live) (λ i. i ≢ word) v lives keeps_live (root_no_header shape op.copied.side) s.at.root;
        known = inl refl;
      };
      open_round = λ e none. not_begun e;
    }

  -- ---- an entry names the side
  module _ (index : ℕ) (s : SuitsStore site here op call (Enter index) v) (on : rounds_stores op.rounds (next_store op (Enter index)) ≡ true)
      (not_begun : rounds_taken op.rounds (next_store op (Enter index)) ≡ begun → ⊥) where
    abbrev enter : Stage
    enter = Enter index

    abbrev entry : ℕ
    entry = entry_word_at op.copied.whole.site.geometry op.root index

    abbrev side : ℕ
    side = op.copied.side

    abbrev entered : View
    entered = view_then shape (sets entry side) n v

    abbrev next : DirectoryStep → DirectoryOp
    next step = record op { rounds = rounds_taken op.rounds (next_store op enter); step = step }

    entry_here : entry ≡ entry_at op.root index
    entry_here = entry_is op.copied.whole.site.geometry shape op.root index s.at.entering.live.split.is.located.shape s.at.entering.root.deep ground.shape.depth s.at.low

    not_deep : op.root ≤ most_depth
    not_deep = let most = ground.shape.depth in let deep = s.at.entering.root.deep in omega (arith, most, deep)

    entered_more : (step : DirectoryStep) → EnteredBelow site here (next step) (index + 1) entered
    entered_more step j low near of_side = elim (below_or_last j index low) [
      | inl less ↦ entered_stays site here op (rounds_taken op.rounds (next_store op enter)) step (λ i. i ≢ entry) v entered (keeps_stored entry side) index
          (λ k before. entry_other index entry side s.at.low s.at.entering.root.deep entry_here k (λ e. omega (arith, before, e))) s.at.entering.entered j less near of_side
      | inr e ↦ subst (λ i. Has (i, side) entered.known) (entry_here ∙ ap (λ k. entry_at op.root k) (sym e)) (inl refl)
    ]

    entering_by : (step : DirectoryStep) (to : ℕ) → EnteredBelow site here (next step) to entered → IsEntering site here (next step) call to entered
    entering_by step to below = record {
      live = live_stays site here call op.copied (λ i. i ≢ entry) v entered (keeps_stored entry side) refl (entry_far index entry side s.at.low s.at.entering.root.deep entry_here) (λ has. has) s.at.entering.live;
      root = deep_stays site here op (rounds_taken op.rounds (next_store op enter)) step (λ i. i ≢ entry) v entered (keeps_stored entry side) (entry_root index entry side s.at.low s.at.entering.root.deep entry_here) s.at.entering.root;
      entered = below;
    }

    round_on : RoundStands (rounds_taken op.rounds (next_store op enter)) entered
    round_on = round_behind shape op.rounds (next_store op enter) n v s.storing.round [] (StoreWord entry side) (store_wanted op.rounds entry side on)

    loose_on : (p : ℕ × ℕ) → IsLoose entered p → (j : ℕ) × (j < 2 ^ op.root) × (p.0 ≡ entry_at op.root j)
    loose_on = stored_loose entry side (λ i. (j : ℕ) × (j < 2 ^ op.root) × (i ≡ entry_at op.root j)) s.storing.loose (index, s.at.low, entry_here)

    abbrev last : ℕ
    last = side_last op.root op.side_head

    -- the last entry is that of the side's header
    of_last : (P : ℕ → Type 0) → P last → P (side_last op.root (side_head op.copied.whole))
    of_last P p = subst (λ h. P (side_last op.root h)) s.storing.heads.side p

    next_enter : index < last → SuitsStep site here (next (Store (Enter (index + 1)))) call (Store (Enter (index + 1))) entered
    next_enter less =
        let split = s.at.entering.live.split in
        let less : index < side_last op.root (side_head op.copied.whole) = of_last (λ k. index < k) less in
        let from = first_of site ground here call op.copied split.is split.whole op.root s.at.entering.root.deeper not_deep index s.at.of_side in
        let upto : index + 1 ≤ side_last op.root (side_head op.copied.whole) = omega (arith, less) in
        record {
          storing = storing_behind site ground here call op v enter s entered (Enter (index + 1)) (Store (Enter (index + 1))) round_on loose_on;
          at = record {
            entering = entering_by (Store (Enter (index + 1))) (index + 1) (entered_more (Store (Enter (index + 1))));
            low = near_of site ground here call op.copied split.is split.whole op.root s.at.entering.root.deeper not_deep (index + 1) upto;
            of_side = is_of_side site ground here call op.copied split.is split.whole op.root s.at.entering.root.deeper not_deep (index + 1) (omega (arith, from)) upto;
            small = s.at.small;
          };
          open_round = λ e none. none-some _ (sym none);
        }

    last_enter : last ≤ index → SuitsStep site here (next (Store Entered)) call (Store Entered) entered
    last_enter over =
        let split = s.at.entering.live.split in
        let over : side_last op.root (side_head op.copied.whole) ≤ index = of_last (λ k. k ≤ index) over in
        record {
          storing = storing_behind site ground here call op v enter s entered Entered (Store Entered) round_on loose_on;
          at = entering_by (Store Entered) (2 ^ op.root) (λ j low near of_side.
              let before = last_of site ground here call op.copied split.is split.whole op.root s.at.entering.root.deeper not_deep j of_side in
              entered_more (Store Entered) j (omega (arith, before, over)) near of_side);
          open_round = λ e none. not_begun e;
        }

    pub enter_stands : SuitsStep site here (next (stage_after op enter)) call (stage_after op enter) entered
    enter_stands = elim (cases_lt index last) [
      | inl less ↦ subst (λ b. SuitsStep site here (next (cond b (Store (Enter (index + 1))) (Store Entered))) call (cond b (Store (Enter (index + 1))) (Store Entered)) entered)
          (sym (lt-ltb index last less)) (next_enter less)
      | inr over ↦ subst (λ b. SuitsStep site here (next (cond b (Store (Enter (index + 1))) (Store Entered))) call (cond b (Store (Enter (index + 1))) (Store Entered)) entered)
          (sym (le-ltb index last over)) (last_enter over)
    ]
