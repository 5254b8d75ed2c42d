-- The events of a batch: each is of its kind, which the view may take, and leaves a view that suits what comes next.
use Rattle.std.proofs.Common.{◌≡◌, ℕ, suc, ◌+◌, ◌-◌, ◌*◌, ◌/◌, ◌%◌, ◌^◌, ◌<◌, ◌≤◌, Bool, true, false, Option, Some, List, [], ◌∷◌, slice_index, inl, inr, refl, sym, ap, ◌∙◌, subst, arith}
use Rattle.std.specs.Prelude.{nat_lt, not, if◌then◌else◌}
use Rattle.std.proofs.lemmas.Bool.{ltb-true, eq-eqb}
use Rattle.std.proofs.lemmas.Option.{none-some, same_Some, cond_some}
use Rattle.op_core.specs.declared.want.Want.{Want}
use Rattle.op_core.specs.declared.want.Want.TheVariants as want
use Rattle.op_core.specs.declared.want.Ans.TheVariants.{Passed}
use Rattle.image_layout.specs.Places.{words_of, head_at, segment_words}
use Rattle.trace.specs.Events.{line_of}
use Rattle.rounds.proofs.Lines.{lines_are_stored}
use Rattle.map_model.specs.declared.call.Call.{Call}
use Rattle.world.specs.declared.site.Site.{Site}
use Rattle.world.specs.Ground.{Ground, IsGround}
use Rattle.world.specs.Views.{View, Has, IsLoose}
use Rattle.world.specs.Wants.{answer_to}
use Rattle.world.specs.Kinds.{flushes}
use Rattle.world.specs.areas.Areas.{Area, Segment, Side, Free, Whole, Allocation, header_word, all_but, is_side_at}
use Rattle.world.specs.areas.Asking.{KnowsDead, MayAt}
use Rattle.world.specs.areas.Kinds.{sets, moves, settles}
use Rattle.world.specs.areas.Rows.{marks, news}
use Rattle.world.specs.areas.Splitting.{link_word}
use Rattle.world.specs.StepKinds.{StepKind, of_call, of_structure, wanted_of, view_by, MayTake}
use Rattle.world.proofs.basics.Seats.{flush_loose, loosened_has}
use Rattle.rounds.specs.declared.rounds.Rounds.{Rounds}
use Rattle.rounds.specs.Steps.{rounds_stores, rounds_wanted, rounds_taken}
use Rattle.rounds.specs.Events.{IsRoundEvent}
use Rattle.rounds.specs.Stands.{kind_of, RoundStands, KnowsSidesDead}
use Rattle.rounds.proofs.Settling.{round_same, round_behind}
use Rattle.rounds.proofs.Keeping.{rounds_may}
use Rattle.split_op.specs.declared.copied.Copied.{Copied}
use Rattle.split_op.specs.declared.batch.Batch.{Batch}
use Rattle.split_op.specs.declared.batch.Batch.TheVariants.{Empty, Link, Mark, New, Copy}
use Rattle.split_op.specs.declared.op.SplitOp.{SplitOp}
use Rattle.split_op.specs.Copied.{split_head, side_head}
use Rattle.way.specs.Ways.{slot_word}
use Rattle.split_op.specs.Batches.{empty_value, after_empty, copied_from, due, after}
use Rattle.split_op.specs.Steps.{put_to, batch_after, stored}
use Rattle.split_op.specs.Fits.{put_kind, KeepsOn, side_at, areas_at, KnowsFreeHeader, KnowsLink, KnowsSideHeader, KnowsSideWords, IsEmptying, IsSplitting, SuitsStep}
use Rattle.split_op.proofs.Places.{slot_is}
use Rattle.split_op.proofs.Stored.{HasStored, keeps_by, empty_more, copy_more, link_more, mark_more, new_more}
use Rattle.split_op.proofs.Finished.{to_suits}
use Rattle.split_op.proofs.Asking.{side_is, fresh_dead, may_empty, may_copy, may_link, may_mark, may_new}

module _ (site : Ground) (ground : IsGround site) (here : Site) (call : Call) (op : SplitOp) (v : View) where
  abbrev c : Copied
  c = op.copied

  abbrev locks : List ℕ
  locks = op.locks

  abbrev Splits : Batch → View → Type 0
  Splits batch u = IsSplitting site here call c locks batch u

  -- ---- where nothing is stored
  -- a view is another, but that less is loose
  module _ (u : View) (held : u.held ≡ v.held) (facts : u.facts ≡ v.facts) (planned : u.planned ≡ v.planned) (moving : u.moving ≡ v.moving) (owed : u.owed ≡ v.owed)
      (known : u.known ≡ v.known) (areas : u.areas ≡ v.areas) (loose : (p : ℕ × ℕ) → IsLoose u p → IsLoose v p) where
    calm_has : (i x : ℕ) → Has (i, x) v.known → Has (i, x) u.known
    calm_has i x has = subst (λ (l : List (ℕ × ℕ)). Has (i, x) l) (sym known) has

    calm_free : KnowsFreeHeader site here call c v → KnowsFreeHeader site here call c u
    calm_free k = (k.0, calm_has (side_at site here call c 1) k.0 k.1, k.2)

    calm_link : (batch : Batch) → KnowsLink site here call c locks batch v → KnowsLink site here call c locks batch u
    calm_link (Empty k) is = tt
    calm_link (Link false) is = tt
    calm_link (Link true) is = calm_has (link_word site.shape c.whole.segment) (suc c.side) is
    calm_link (Mark stored) is = calm_has (link_word site.shape c.whole.segment) (suc c.side) is
    calm_link (New stored) is = calm_has (link_word site.shape c.whole.segment) (suc c.side) is
    calm_link (Copy k) is = calm_has (link_word site.shape c.whole.segment) (suc c.side) is

    calm_header : (batch : Batch) → KnowsSideHeader site here call c locks batch v → KnowsSideHeader site here call c locks batch u
    calm_header (Empty k) is = calm_free is
    calm_header (Link stored) is = calm_free is
    calm_header (Mark stored) is = calm_free is
    calm_header (New false) is = calm_free is
    calm_header (New true) is = calm_has (side_at site here call c 1) (side_head c.whole) is
    calm_header (Copy k) is = calm_has (side_at site here call c 1) (side_head c.whole) is

    calm_emptying : (k : ℕ) → IsEmptying site here call c locks k v → IsEmptying site here call c locks k u
    calm_emptying k w = record {
      next = w.next;
      below = λ p of_slot small. calm_has (side_at site here call c p) (empty_value locks p) (w.below p of_slot small);
      above = λ b near past. calm_has (side_at site here call c (32 + 32 * b)) (slice_index locks b) (w.above b near past);
    }

    calm_words : (batch : Batch) → KnowsSideWords site here call c locks batch v → KnowsSideWords site here call c locks batch u
    calm_words (Empty k) w = calm_emptying k w
    calm_words (Link stored) w = calm_emptying segment_words w
    calm_words (Mark stored) w = calm_emptying segment_words w
    calm_words (New stored) w = calm_emptying segment_words w
    calm_words (Copy k) w = record {
      next = w.next;
      below = λ p from small low is. calm_has (side_at site here call c p) (slice_index c.words (p - 32)) (w.below p from small low is);
      rest = λ p from small meta none. calm_has (side_at site here call c p) (empty_value locks p) (w.rest p from small meta none);
    }

    pub calm : (batch : Batch) → Splits batch v → Splits batch u
    calm batch is = record {
      keeps = keeps_by site here call c v u is.keeps held facts planned moving owed (λ b m y _ _ _ has. calm_has _ y has);
      slot = is.slot;
      areas = areas ∙ is.areas;
      header = calm_has _ _ is.header;
      link = calm_link batch is.link;
      side_header = calm_header batch is.side_header;
      side_words = calm_words batch is.side_words;
      loose = λ p l. is.loose p (loose p l);
      only = λ p has. is.only p (subst (λ (l : List (ℕ × ℕ)). Has p l) known has);
    }

  -- ---- an event of the rounds
  module _ (batch : Batch) (rounds : Rounds) (is : Splits batch v) (stands : RoundStands rounds v) (lines : (line : ℕ) → Has line rounds.round → 8 * line + 8 ≤ words_of site.shape) where
    abbrev next : Option (ℕ × ℕ)
    next = due c locks batch

    -- WHAT IS SO OF AN EVENT of a kind
    pub record Fits (w : Want) (kind : StepKind) : Type 0 where
      pub wants : w ≡ wanted_of site.shape kind
      pub may : MayTake site kind v
      pub suits : (n : ℕ) → SuitsStep site here call c locks (stored op batch rounds) (view_by site.shape kind n v)
      pub own : (n : ℕ) → (view_by site.shape kind n v).own ≡ v.own
      pub seen : (n : ℕ) → (view_by site.shape kind n v).seen ≡ v.seen
      pub answer : (n : ℕ) → answer_to w n ≡ Passed

    -- how the round stands after it
    round_after : (w : Want) (n : ℕ) → rounds_wanted rounds next ≡ Some w → RoundStands (rounds_taken rounds next) (view_by site.shape (kind_of [] (Some w)) n v)
    round_after w n e = round_behind site.shape rounds next n v stands [] w e

    -- its lines are lines of the image, since words of slots are stored
    in_image : (n p : ℕ) → n < site.shape.segments → p < segment_words → 8 * line_of (head_at site.shape n + p) + 8 ≤ words_of site.shape
    in_image n p low small = by ((32 + 2 ^ (site.shape.depth + 1) - 1 + 31) / 32) n p site.shape.segments low small
      where
        by : (f n p k : ℕ) → n < k → p < 2144 → 8 * ((f * 32 + 2144 * n + p) / 8) + 8 ≤ f * 32 + 2144 * k
        by f n p k low small = omega (arith, low, small)

    word_in_image : (n p word : ℕ) → n < site.shape.segments → p < segment_words → slot_word c.whole.site.geometry n p ≡ word → 8 * line_of word + 8 ≤ words_of site.shape
    word_in_image n p word low small e =
        subst (λ (i : ℕ). 8 * line_of i + 8 ≤ words_of site.shape) (sym (slot_is c.whole.site.geometry site.shape is.keeps.is.located.shape n p low) ∙ e) (in_image n p low small)

    first_is : (q r : ℕ × ℕ) → Some q ≡ Some r → q.0 ≡ r.0
    first_is q r e = ap (λ (z : ℕ × ℕ). z.0) (same_Some _ _ e)

    pub due_in_image : (t : Batch) (word value : ℕ) → due c locks t ≡ Some (word, value) → 8 * line_of word + 8 ≤ words_of site.shape
    due_in_image (Empty k) word value e =
        let o = cond_some (nat_lt k segment_words) (slot_word c.whole.site.geometry c.side k, empty_value locks k) (word, value) e in
        word_in_image c.side k word is.slot.slot (ltb-true k segment_words o.0) (ap (λ (z : ℕ × ℕ). z.0) o.1)
    due_in_image (Link false) word value e = word_in_image c.whole.segment 2 word is.keeps.is.located.within (omega arith) (first_is (slot_word c.whole.site.geometry c.whole.segment 2, suc c.side % 2 ^ 64) (word, value) e)
    due_in_image (Link true) word value e = absurd (none-some _ e)
    due_in_image (Mark false) word value e = word_in_image c.whole.segment 1 word is.keeps.is.located.within (omega arith) (first_is (slot_word c.whole.site.geometry c.whole.segment 1, split_head c.whole) (word, value) e)
    due_in_image (Mark true) word value e = absurd (none-some _ e)
    due_in_image (New false) word value e = word_in_image c.side 1 word is.slot.slot (omega arith) (first_is (slot_word c.whole.site.geometry c.side 1, side_head c.whole) (word, value) e)
    due_in_image (New true) word value e = absurd (none-some _ e)
    due_in_image (Copy k) word value e =
        let o = cond_some (nat_lt k segment_words) (slot_word c.whole.site.geometry c.side k, slice_index c.words (k - 32)) (word, value) e in
        word_in_image c.side k word is.slot.slot (ltb-true k segment_words o.0) (ap (λ (z : ℕ × ℕ). z.0) o.1)

    lines_after : (line : ℕ) → Has line (rounds_taken rounds next).round → 8 * line + 8 ≤ words_of site.shape
    lines_after = (lines_are_stored (λ line. 8 * line + 8 ≤ words_of site.shape)).keeps rounds next lines (due_in_image batch)

    -- the batch that is at it then
    module _ (u : View) (t : Batch) (stores : Bool) (e : rounds_stores rounds next ≡ stores) (at : (if stores then after c locks batch else batch) ≡ t) where
      pub suits_then : Splits t u → RoundStands (rounds_taken rounds next) u → SuitsStep site here call c locks (stored op batch rounds) u
      suits_then later r =
          let same : batch_after op batch rounds ≡ t = ap (λ (b : Bool). if b then after c locks batch else batch) e ∙ at in
          subst (λ (z : Batch). SuitsStep site here call c locks (put_to op z (rounds_taken rounds next)) u) (sym same) (to_suits site here call c locks u (rounds_taken rounds next) r lines_after t later)

    -- ---- a flush
    flush_kind : (batch : Batch) (l : ℕ) → put_kind op batch (Some (want.Flush l)) ≡ of_call (flushes l)
    flush_kind (Empty k) l = refl
    flush_kind (Link stored) l = refl
    flush_kind (Mark stored) l = refl
    flush_kind (New stored) l = refl
    flush_kind (Copy k) l = refl

    flushed : (l : ℕ) → rounds_wanted rounds next ≡ Some (want.Flush l) → rounds_stores rounds next ≡ false → Fits (want.Flush l) (put_kind op batch (Some (want.Flush l)))
    flushed l e none = subst (λ (k : StepKind). Fits (want.Flush l) k) (sym (flush_kind batch l)) (record {
      wants = refl;
      may = (tt, tt);
      suits = λ n. (let u : View = view_by site.shape (of_call (flushes l)) n v in
          suits_then u batch false none refl (calm u refl refl refl refl refl refl refl (λ p h. flush_loose l v.dirty v.flushed p h) batch is) (round_after (want.Flush l) n e));
      own = λ n. refl;
      seen = λ n. refl;
      answer = λ n. refl;
    })

    -- ---- a fence
    fence_kind : (batch : Batch) → put_kind op batch (Some want.Fence) ≡ of_structure (settles [])
    fence_kind (Empty k) = refl
    fence_kind (Link stored) = refl
    fence_kind (Mark stored) = refl
    fence_kind (New stored) = refl
    fence_kind (Copy k) = refl

    less_loose : (u : View) → u ≡ record v { flushed = [] } → (p : ℕ × ℕ) → IsLoose u p → IsLoose v p
    less_loose u e p l = elim (subst (λ (z : View). IsLoose z p) e l) [ inl dirty ↦ inl dirty | inr none ↦ absurd none ]

    -- each side is known dead
    no_side : (m : ℕ) → Has (Side m) (Whole c.whole.segment ∷ Free c.side ∷ Allocation ∷ Segment c.whole.segment ∷ []) → ⊥
    no_side m (inl e) = absurd (cc)
    no_side m (inr (inl e)) = absurd (cc)
    no_side m (inr (inr (inl e))) = absurd (cc)
    no_side m (inr (inr (inr (inl e)))) = absurd (cc)
    no_side m (inr (inr (inr (inr e)))) = e

    same_side : (m n : ℕ) → Side m ≡ Side n → m ≡ n
    same_side m n e = cc

    new_dead : KeepsOn site here call c v → Has (side_at site here call c 1, side_head c.whole) v.known → (m : ℕ) → m ≡ c.side → KnowsDead site v m
    new_dead keeps has m same = subst (λ (z : ℕ). KnowsDead site v z) (sym same) (side_head c.whole, has, fresh_dead (side_head c.whole) (side_is site ground here call c v keeps).state_is)

    sides_dead : (batch : Batch) → Splits batch v → KnowsSidesDead site v
    sides_dead (Empty k) is m has = absurd (no_side m (subst (λ (l : List Area). Has (Side m) l) is.areas has))
    sides_dead (Link stored) is m has = absurd (no_side m (subst (λ (l : List Area). Has (Side m) l) is.areas has))
    sides_dead (Mark stored) is m has = absurd (no_side m (subst (λ (l : List Area). Has (Side m) l) is.areas has))
    sides_dead (New false) is m has = absurd (no_side m (subst (λ (l : List Area). Has (Side m) l) is.areas has))
    sides_dead (New true) is m has = elim (subst (λ (l : List Area). Has (Side m) l) is.areas has) [
      | inl e ↦ new_dead is.keeps is.side_header m (same_side m c.side e)
      | inr more ↦ elim more [ inl e ↦ absurd (cc) | inr more ↦ elim more [ inl e ↦ absurd (cc) | inr more ↦ elim more [ inl e ↦ absurd (cc) | inr none ↦ absurd none ] ] ]
    ]
    sides_dead (Copy k) is m has = elim (subst (λ (l : List Area). Has (Side m) l) is.areas has) [
      | inl e ↦ new_dead is.keeps is.side_header m (same_side m c.side e)
      | inr more ↦ elim more [ inl e ↦ absurd (cc) | inr more ↦ elim more [ inl e ↦ absurd (cc) | inr none ↦ absurd none ] ]
    ]

    fenced : rounds_wanted rounds next ≡ Some want.Fence → rounds_stores rounds next ≡ false → Fits want.Fence (put_kind op batch (Some want.Fence))
    fenced e none = subst (λ (k : StepKind). Fits want.Fence k) (sym (fence_kind batch)) (record {
      wants = refl;
      may = rounds_may.fence site v (sides_dead batch is);
      suits = λ n. (let u : View = view_by site.shape (of_structure (settles [])) n v in
          suits_then u batch false none refl (calm u refl refl refl refl refl refl refl (less_loose u refl) batch is) (round_after want.Fence n e));
      own = λ n. refl;
      seen = λ n. refl;
      answer = λ n. refl;
    })

    -- ---- a store
    -- what it leaves
    left_stored : (i x n : ℕ) → HasStored v (view_by site.shape (of_structure (sets i x)) n v) i x
    left_stored i x n = record {
      held = refl;
      facts = refl;
      planned = refl;
      moving = refl;
      owed = refl;
      known = refl;
      loose = λ p l. elim l [
        | inl dirty ↦ elim (loosened_has site.shape i n x v.dirty p dirty) [ inl at ↦ inr (ap (λ (q : ℕ × ℕ). q.0) at) | inr was ↦ inl (inl was) ]
        | inr flushed ↦ inl (inr flushed)
      ];
    }

    -- of a word that is no header
    set_fits : (i x : ℕ) (t : Batch) → rounds_wanted rounds next ≡ Some (want.Store i x) → rounds_stores rounds next ≡ true → after c locks batch ≡ t
        → MayAt site (sets i x) v → ((u : View) → HasStored v u i x → u.areas ≡ v.areas → Splits t u) → Fits (want.Store i x) (of_structure (sets i x))
    set_fits i x t e stores at may more = record {
      wants = refl;
      may = may;
      suits = λ n. (let u : View = view_by site.shape (of_structure (sets i x)) n v in
          suits_then u t true stores at (more u (left_stored i x n) refl) (round_after (want.Store i x) n e));
      own = λ n. refl;
      seen = λ n. refl;
      answer = λ n. refl;
    }

    -- the segment is marked
    mark_fits : (x : ℕ) → x ≡ split_head c.whole → rounds_wanted rounds next ≡ Some (want.Store (header_word site.shape c.whole.segment) x) → rounds_stores rounds next ≡ true → after c locks batch ≡ Mark true
        → Splits (Mark false) v → Fits (want.Store (header_word site.shape c.whole.segment) x) (of_structure (moves (marks c.side) c.whole.segment (split_head c.whole)))
    mark_fits x same e stores at is = record {
      wants = ap (want.Store (header_word site.shape c.whole.segment)) same;
      may = may_mark site ground here call c v locks is;
      suits = λ n. (let u : View = view_by site.shape (of_structure (moves (marks c.side) c.whole.segment (split_head c.whole))) n v in
          let i : ℕ = header_word site.shape c.whole.segment in
          let st = left_stored i (split_head c.whole) n in
          suits_then u (Mark true) true stores at
          (mark_more site here call c locks v u is (record { held = refl; facts = refl; planned = refl; moving = refl; owed = refl; known = refl; loose = st.loose }) refl)
          (round_same (view_by site.shape (of_structure (sets i (split_head c.whole))) n v) u refl refl (rounds_taken rounds next)
          (subst (λ (z : ℕ). RoundStands (rounds_taken rounds next) (view_by site.shape (of_structure (sets i z)) n v)) same (round_after (want.Store i x) n e))));
      own = λ n. refl;
      seen = λ n. refl;
      answer = λ n. refl;
    }

    -- the side is new
    new_areas : v.areas ≡ areas_at site here call c locks (New false) → Side c.side ∷ all_but (is_side_at c.side) v.areas ≡ areas_at site here call c locks (New true)
    new_areas areas = ap (λ (l : List Area). Side c.side ∷ all_but (is_side_at c.side) l) areas
        ∙ ap (λ (t : Bool). Side c.side ∷ (Whole c.whole.segment ∷ (if not t then Free c.side ∷ (Allocation ∷ Segment c.whole.segment ∷ []) else Allocation ∷ Segment c.whole.segment ∷ []))) (eq-eqb c.side c.side refl)

    new_fits : (x : ℕ) → x ≡ side_head c.whole → rounds_wanted rounds next ≡ Some (want.Store (header_word site.shape c.side) x) → rounds_stores rounds next ≡ true → after c locks batch ≡ New true
        → Splits (New false) v → Fits (want.Store (header_word site.shape c.side) x) (of_structure (moves (news c.whole.segment) c.side (side_head c.whole)))
    new_fits x same e stores at is = record {
      wants = ap (want.Store (header_word site.shape c.side)) same;
      may = may_new site ground here call c v locks is;
      suits = λ n. (let u : View = view_by site.shape (of_structure (moves (news c.whole.segment) c.side (side_head c.whole))) n v in
          let i : ℕ = header_word site.shape c.side in
          let st = left_stored i (side_head c.whole) n in
          suits_then u (New true) true stores at
          (new_more site here call c locks v u is (record { held = refl; facts = refl; planned = refl; moving = refl; owed = refl; known = refl; loose = st.loose }) (new_areas is.areas))
          (round_same (view_by site.shape (of_structure (sets i (side_head c.whole))) n v) u refl refl (rounds_taken rounds next)
          (subst (λ (z : ℕ). RoundStands (rounds_taken rounds next) (view_by site.shape (of_structure (sets i z)) n v)) same (round_after (want.Store i x) n e))));
      own = λ n. refl;
      seen = λ n. refl;
      answer = λ n. refl;
    }

  -- ---- the stores of each batch
  module _ (rounds : Rounds) (stands : RoundStands rounds v) (lines : (line : ℕ) → Has line rounds.round → 8 * line + 8 ≤ words_of site.shape) where
    -- what is due stands where the image has it
    at_slot : (k : KeepsOn site here call c v) (n number x : ℕ) → n < site.shape.segments → (q : ℕ × ℕ) → (slot_word c.whole.site.geometry n number, x) ≡ q → (head_at site.shape n + number, x) ≡ q
    at_slot k n number x low q e = ap (λ (z : ℕ). (z, x)) (sym (slot_is c.whole.site.geometry site.shape k.is.located.shape n number low)) ∙ e

    store_by : (batch : Batch) (is : Splits batch v) (i x : ℕ) → due c locks batch ≡ Some (i, x) → rounds_wanted rounds (due c locks batch) ≡ Some (want.Store i x) → rounds_stores rounds (due c locks batch) ≡ true
        → Fits batch rounds is stands lines (want.Store i x) (put_kind op batch (Some (want.Store i x)))
    store_by (Empty k) is i x is_due e stores =
        let o = cond_some (nat_lt k segment_words) (slot_word c.whole.site.geometry c.side k, empty_value locks k) (i, x) is_due in
        let low = ltb-true k segment_words o.0 in
        let q = at_slot is.keeps c.side k (empty_value locks k) is.slot.slot (i, x) o.1 in
        set_fits (Empty k) rounds is stands lines i x (Empty (after_empty locks k)) e stores (ap (λ (b : Bool). if b then Empty (after_empty locks k) else Empty k) o.0)
        (subst (λ (z : ℕ × ℕ). MayAt site (sets z.0 z.1) v) q (may_empty site ground here call c v locks k low is))
        (λ u st areas. empty_more site here call c locks v u k low is (subst (λ (z : ℕ × ℕ). HasStored v u z.0 z.1) (sym q) st) areas)
    store_by (Link false) is i x is_due e stores =
        let slot = is.slot.slot in
        let most = ground.shape.segments in
        let next_is : suc c.side % 2 ^ 64 ≡ suc c.side = omega (arith, slot, most) in
        let q = ap (λ (z : ℕ). (link_word site.shape c.whole.segment, z)) (sym next_is) ∙ at_slot is.keeps c.whole.segment 2 (suc c.side % 2 ^ 64) is.keeps.is.located.within (i, x) (same_Some _ _ is_due) in
        set_fits (Link false) rounds is stands lines i x (Link true) e stores refl
        (subst (λ (z : ℕ × ℕ). MayAt site (sets z.0 z.1) v) q (may_link site ground here call c v locks is))
        (λ u st areas. link_more site here call c locks v u is (subst (λ (z : ℕ × ℕ). HasStored v u z.0 z.1) (sym q) st) areas)
    store_by (Link true) is i x is_due e stores = absurd (none-some _ is_due)
    store_by (Mark false) is i x is_due e stores =
        let q = at_slot is.keeps c.whole.segment 1 (split_head c.whole) is.keeps.is.located.within (i, x) (same_Some _ _ is_due) in
        let at : header_word site.shape c.whole.segment ≡ i = ap (λ (z : ℕ × ℕ). z.0) q in
        subst (λ (j : ℕ). Fits (Mark false) rounds is stands lines (want.Store j x) (put_kind op (Mark false) (Some (want.Store j x)))) at
        (mark_fits (Mark false) rounds is stands lines x (sym (ap (λ (z : ℕ × ℕ). z.1) q)) (e ∙ ap (λ (j : ℕ). Some (want.Store j x)) (sym at)) stores refl is)
    store_by (Mark true) is i x is_due e stores = absurd (none-some _ is_due)
    store_by (New false) is i x is_due e stores =
        let q = at_slot is.keeps c.side 1 (side_head c.whole) is.slot.slot (i, x) (same_Some _ _ is_due) in
        let at : header_word site.shape c.side ≡ i = ap (λ (z : ℕ × ℕ). z.0) q in
        subst (λ (j : ℕ). Fits (New false) rounds is stands lines (want.Store j x) (put_kind op (New false) (Some (want.Store j x)))) at
        (new_fits (New false) rounds is stands lines x (sym (ap (λ (z : ℕ × ℕ). z.1) q)) (e ∙ ap (λ (j : ℕ). Some (want.Store j x)) (sym at)) stores refl is)
    store_by (New true) is i x is_due e stores = absurd (none-some _ is_due)
    store_by (Copy k) is i x is_due e stores =
        let o = cond_some (nat_lt k segment_words) (slot_word c.whole.site.geometry c.side k, slice_index c.words (k - 32)) (i, x) is_due in
        let low = ltb-true k segment_words o.0 in
        let q = at_slot is.keeps c.side k (slice_index c.words (k - 32)) is.slot.slot (i, x) o.1 in
        set_fits (Copy k) rounds is stands lines i x (Copy (copied_from c.words (k + 1))) e stores (ap (λ (b : Bool). if b then Copy (copied_from c.words (k + 1)) else Copy k) o.0)
        (subst (λ (z : ℕ × ℕ). MayAt site (sets z.0 z.1) v) q (may_copy site ground here call c v locks k low is))
        (λ u st areas. copy_more site here call c locks v u k low is (subst (λ (z : ℕ × ℕ). HasStored v u z.0 z.1) (sym q) st) areas)

    -- ---- EACH EVENT
    pub event_fits : (batch : Batch) (is : Splits batch v) (w : Want) → rounds_wanted rounds (due c locks batch) ≡ Some w → IsRoundEvent rounds (due c locks batch) w
        → Fits batch rounds is stands lines w (put_kind op batch (Some w))
    event_fits batch is w e (inl s) = subst (λ (z : Want). Fits batch rounds is stands lines z (put_kind op batch (Some z))) (sym s.wants) (store_by batch is s.word s.value s.comes (e ∙ ap Some s.wants) s.stores)
    event_fits batch is w e (inr (inl f)) =
        subst (λ (z : Want). Fits batch rounds is stands lines z (put_kind op batch (Some z))) (sym f.wants) (flushed batch rounds is stands lines (slice_index rounds.round f.number) (e ∙ ap Some f.wants) f.stores)
    event_fits batch is w e (inr (inr f)) = subst (λ (z : Want). Fits batch rounds is stands lines z (put_kind op batch (Some z))) (sym f.wants) (fenced batch rounds is stands lines (e ∙ ap Some f.wants) f.stores)
