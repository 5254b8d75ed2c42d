-- Each step of a split: its event is of its kind, which the view may take, and leaves a view that suits the next.
use Rattle.std.proofs.Common.{◌≡◌, ◌≢◌, ℕ, zero, suc, ◌+◌, ◌-◌, ◌*◌, ◌%◌, ◌^◌, ◌<◌, ◌≤◌, Bool, true, false, Option, None, Some, List, [], ◌∷◌, slice_index, inl, inr, refl, sym, ap, ◌∙◌, subst, arith}
use Rattle.std.specs.Prelude.{nat_lt, ◌==◌, not, slice_set, min, if◌then◌else◌}
use Rattle.std.proofs.lemmas.Bool.{cases_lt, cases_eq, ltb-true, ltb-false, eqb-true, both_ways}
use Rattle.std.proofs.lemmas.List.{get_or-set_same, get_or-set_other, length-set}
use Rattle.std.proofs.lemmas.Option.{none-some}
use Rattle.op_core.specs.declared.why.Why.TheVariants.{Busy}
use Rattle.op_core.specs.declared.want.Ans.TheVariants.{Won, Lost}
use Rattle.image_layout.specs.Places.{Shape, buckets, segment_words, most_segments}
use Rattle.image_layout.specs.Volatile.{allocation_guard}
use Rattle.frame_facts.specs.DeadSlots.{IsInSlot}
use Rattle.frame_facts.specs.Facts.{Lives, Current, Taken}
use Rattle.map_model.specs.declared.call.Call.{Call}
use Rattle.map_model.specs.declared.entry.Reply.TheVariants.{Full}
use Rattle.map_model.specs.Changes.{call_of}
use Rattle.segment_head.specs.HeadWord.{state_in, free, normal}
use Rattle.world.specs.declared.site.Site.{Site}
use Rattle.world.specs.Ground.{Ground, IsGround}
use Rattle.world.specs.Views.{View, Has}
use Rattle.world.specs.Kinds.{next_entry, with_reply}
use Rattle.world.specs.areas.Areas.{Area, Segment, Free, Whole, Allocation, header_word, all_but}
use Rattle.world.specs.areas.Bridging.{HasNoWhole}
use Rattle.world.specs.areas.Fitting.{HoldsWord}
use Rattle.world.specs.areas.Kinds.{of_free_slots, goes_with, known_without, is_taken, facts_without, with_guard, with_slot, gives}
use Rattle.world.specs.StepKinds.{of_structure, view_by, MayTake}
use Rattle.world.proofs.fitting.Filtered.{has_filtered}
use Rattle.enclose_op.specs.Phases.{IsThere}
use Rattle.rounds.specs.Steps.{rounds_wanted}
use Rattle.rounds.specs.Steps as round
use Rattle.rounds.specs.Stands.{IsSettled}
use Rattle.rounds.proofs.Settling.{settled_firm, rounds_settle}
use Rattle.enclose_op.specs.declared.enclosed.Enclosed.{Enclosed}
use Rattle.enclose_op.specs.declared.give.Give.{Give}
use Rattle.enclose_op.specs.Giving.{give_from}
use Rattle.enclose_op.specs.Whole.{KnowsOnlyOf, KeepsWhole}
use Rattle.enclose_op.specs.Fits.{HoldsPart}
use Rattle.enclose_op.specs.GiveLaws.{SuitsNext}
use Rattle.enclose_op.proofs.Backing.{give_suits}
use Rattle.enclose_op.proofs.Held.{hold_same}
use Rattle.enclose_op.proofs.causes.Causing.{IsCrowd}
use Rattle.split_op.specs.declared.copied.Copied.{Copied}
use Rattle.split_op.specs.declared.batch.Batch.TheVariants.{Empty, Copy}
use Rattle.split_op.specs.declared.step.SplitEnd.{SplitEnd}
use Rattle.split_op.specs.declared.step.SplitEnd.TheVariants as ends
use Rattle.split_op.specs.declared.step.SplitStep.{SplitStep}
use Rattle.split_op.specs.declared.step.SplitStep.TheVariants.{Take, Search, Count, Return, Look, Put, Release, Back}
use Rattle.split_op.specs.declared.op.SplitOp.{SplitOp}
use Rattle.split_op.specs.Copied.{KnowsOnlyOfBoth}
use Rattle.split_op.specs.Batches.{is_copied, copied_from}
use Rattle.split_op.specs.Steps.{last_slot, searched, looked, given_to, copying, next_in}
use Rattle.split_op.specs.Fits.{look_word, look_kind, is_copied_end, CopiesFrom, IsLockRow, KnowsTaken, KeepsOn, IsSearching, HasSlot, side_at, look_areas, IsLooking, IsEmptying, SuitsStep}
use Rattle.split_op.proofs.Places.{slot_is, in_slot_at, all_slots}
use Rattle.split_op.proofs.sides.Seeking.{found_at, copied_behind, none_before}
use Rattle.split_op.proofs.Stored.{keeps_there, keeps_by}
use Rattle.split_op.proofs.Finished.{to_suits}
use Rattle.split_op.proofs.Asking.{head_normal}

least_slots : (n : ℕ) → min n most_segments ≤ n
least_slots n = omega arith

free_or_normal : (a : ℕ) → a ≡ free → a ≡ normal → ⊥
free_or_normal a e f = omega (arith, e, f)

module _ (site : Ground) (ground : IsGround site) (here : Site) (call : Call) (op : SplitOp) (v : View) where
  abbrev c : Copied
  c = op.copied

  abbrev e : Enclosed
  e = op.copied.whole

  abbrev s : ℕ
  s = op.copied.whole.segment

  abbrev locks : List ℕ
  locks = op.locks

  abbrev Suited : SplitStep → Type 0
  Suited step = SuitsStep site here call c locks step v

  -- it suits another state
  abbrev SuitsOp : SplitOp → View → Type 0
  SuitsOp o u = SuitsStep site here call o.copied o.locks o.step u

  guard_is : KeepsOn site here call c v → allocation_guard e.site.geometry ≡ allocation_guard site.shape
  guard_is k = ap allocation_guard k.is.located.shape

  -- ---- what is held of the segment
  part : (u : View) → u.areas ≡ Segment s ∷ [] → u.held ≡ v.held → u.planned ≡ v.planned → u.moving ≡ v.moving → u.owed ≡ v.owed → u.dirty ≡ v.dirty → u.flushed ≡ v.flushed
      → KnowsOnlyOf site e u → IsSettled v → KeepsOn site here call c v → HoldsPart site e 0 buckets u
  part u areas held planned moving owed dirty flushed only q k = record {
    areas = areas;
    locks = hold_same site e 0 buckets v u e refl refl held k.locks;
    known = only;
    quiet = record { dirty = dirty ∙ q.dirty; flushed = flushed ∙ q.flushed; planned = planned ∙ k.planned; moving = moving ∙ k.moving; owed = owed ∙ k.owed };
  }

  back_suits : (u : View) (end : SplitEnd) → is_copied_end end ≡ false → HoldsPart site e 0 buckets u → SuitsStep site here call c locks (Back (give_from 0 buckets) end) u
  back_suits u end bare p = (give_suits site e 0 buckets u (omega arith) (omega arith) p, bare)

  -- ---- the guard of free slots is taken
  begins_keeps : KeepsWhole site here call e v → CopiesFrom site e c.words → KeepsOn site here call c v
  begins_keeps w from = record {
    is = w.is;
    whole = w.whole;
    words = from;
    there = w.there;
    locks = w.locks;
    buckets_are = λ b m near low small. (w.buckets_are b m near low small).known;
    planned = w.quiet.planned;
    moving = w.quiet.moving;
    owed = w.quiet.owed;
  }

  pub take_suits : Suited Take → (t : Bool) (n : ℕ) → SuitsOp (next_in op Take (if t then Won else Lost n)) (with_guard t of_free_slots v)
  take_suits st true n =
      let w = st.0 in
      let k = begins_keeps w st.1 in
      let u : View = with_guard true of_free_slots v in (
        record {
          keeps = keeps_by site here call c v u k refl refl refl refl refl (λ b m y _ _ _ has. has);
          areas = ap (λ (l : List Area). Allocation ∷ l) w.areas;
          header = w.header.known;
          settled = record { dirty = w.quiet.dirty; flushed = w.quiet.flushed };
          only = w.known;
        },
        (let within = k.is.located.within in omega (arith, within)),
        st.2,
        (λ m low. absurd (omega (arith, low))),
      )
  take_suits st false n =
      let w = st.0 in
      back_suits v (ends.Again (Busy (allocation_guard e.site.geometry) n)) refl (record { areas = w.areas; locks = w.locks; known = w.known; quiet = w.quiet })

  -- ---- a header of a slot is loaded
  pub search_suits : (slot n : ℕ) → Suited (Search slot) → (slot ≡ s → n ≡ e.head) → SuitsOp (searched op slot n) (with_slot (state_in n == free) slot (header_word site.shape slot) n v)
  search_suits slot n st same = by (state_in n == free) refl
    where
      k : KeepsOn site here call c v
      k = st.0.keeps

      apart : state_in n ≡ free → slot ≢ s
      apart is at = free_or_normal (state_in n) is (ap state_in (same at) ∙ head_normal site ground here call c v k)

      on : SplitOp
      on = record op { copied = record op.copied { side = slot }; step = Look 0 }

      found : state_in n ≡ free → SuitsOp on (with_slot true slot (header_word site.shape slot) n v)
      found is =
          let u : View = with_slot true slot (header_word site.shape slot) n v in
          record {
            keeps = (let more = keeps_by site here call c v u k refl refl refl refl refl (λ b m y _ _ _ has. inr has) in
                record { is = more.is; whole = more.whole; words = more.words; there = more.there; locks = more.locks; buckets_are = more.buckets_are; planned = more.planned; moving = more.moving; owed = more.owed });
            slot = record { slot = st.1; apart = apart is; row = st.2 };
            near = omega arith;
            areas = ap (λ (l : List Area). Free slot ∷ l) st.0.areas;
            header = inr st.0.header;
            side_header = (n, inl refl, is);
            looked = λ d low. absurd (omega (arith, low));
            settled = record { dirty = st.0.settled.dirty; flushed = st.0.settled.flushed };
            only = λ p has. elim has [
              | inl at ↦ inr (subst (IsInSlot site.shape slot) (sym (ap (λ (q : ℕ × ℕ). q.0) at)) (in_slot_at site.shape slot 1 (omega arith)))
              | inr was ↦ inl (st.0.only p was)
            ];
          }

      -- a slot that is not free is known to be taken, and so are those before it
      more : View
      more = with_slot false slot (header_word site.shape slot) n v

      searching : IsSearching site here call c more
      searching = record {
        keeps = keeps_there site here call c v more k (record { live = record { within = k.there.within; lives = inr k.there.lives }; current = inr k.there.current }) refl refl refl refl (λ b m y _ _ _ has. has);
        areas = st.0.areas;
        header = st.0.header;
        settled = record { dirty = st.0.settled.dirty; flushed = st.0.settled.flushed };
        only = st.0.only;
      }

      taken : (to : ℕ) → to ≤ slot + 1 → KnowsTaken to more
      taken to most m low = elim (cases_eq m slot) [ inl same ↦ inl (ap Taken same) | inr apart ↦ inr (st.3 m (omega (arith, low, most, apart))) ]

      all : nat_lt slot (last_slot e.site.geometry) ≡ false → site.shape.segments ≤ slot + 1
      all is =
          let shape = ap (λ (g : Shape). g.segments) k.is.located.shape in
          let few = ground.shape.segments in
          subst (λ (z : ℕ). z ≤ slot + 1) shape (all_slots e.site.geometry.segments slot (omega (arith, shape, few)) (ltb-false slot (last_slot e.site.geometry) is))

      past : (t : Bool) → nat_lt slot (last_slot e.site.geometry) ≡ t → SuitsOp (if t then record op { step = Search (slot + 1) } else record op { step = Count }) more
      past true is = (
        searching,
        (let low = ltb-true slot (last_slot e.site.geometry) is in let most = least_slots e.site.geometry.segments in
            let shape = ap (λ (g : Shape). g.segments) k.is.located.shape in omega (arith, low, most, shape)),
        st.2,
        taken (slot + 1) (omega arith),
      )
      past false is = (searching, taken site.shape.segments (all is))

      by : (t : Bool) → (state_in n == free) ≡ t → SuitsOp (if t then on else (if nat_lt slot (last_slot e.site.geometry) then record op { step = Search (slot + 1) } else record op { step = Count }))
          (with_slot t slot (header_word site.shape slot) n v)
      by true is = found (eqb-true (state_in n) free is)
      by false is = past (nat_lt slot (last_slot e.site.geometry)) refl

  -- ---- the reply is placed, and the guard of free slots is given back
  pub searching_none : IsSearching site here call c v → HasNoWhole v
  searching_none st m has = no_whole (subst (λ (l : List Area). Has (Whole m) l) st.areas has)
    where
      no_whole : Has (Whole m) (Allocation ∷ Segment s ∷ []) → ⊥
      no_whole (inl e) = absurd (cc)
      no_whole (inr (inl e)) = absurd (cc)
      no_whole (inr (inr e)) = e

  pub crowd : IsSearching site here call c v → IsCrowd site e v
  crowd st =
      let k = st.keeps in
      record {
        located = k.is.located;
        hashed = k.is.hashed;
        leads = k.whole.head.leads;
        locks = λ b near. (slice_index e.locks b + 1, k.locks.has b (omega arith) near);
        header = st.header;
        words = λ b m near low small. record { known = k.buckets_are b m near low small; firm = λ y l. settled_firm v st.settled _ l };
        planned = k.planned;
        moving = k.moving;
        no_room = k.whole.no_room;
      }

  pub count_suits : (n : ℕ) → Suited Count → SuitsStep site here call c locks (Return n) (with_reply v (next_entry v (call_of e.change) Full n false))
  count_suits n st =
      let u : View = with_reply v (next_entry v (call_of e.change) Full n false) in
      record {
        keeps = keeps_by site here call c v u st.0.keeps refl refl refl refl refl (λ b m y _ _ _ has. has);
        areas = st.0.areas;
        header = st.0.header;
        settled = record { dirty = st.0.settled.dirty; flushed = st.0.settled.flushed };
        only = st.0.only;
      }

  pub return_suits : (count n : ℕ) → Suited (Return count) → SuitsStep site here call c locks (Back (give_from 0 buckets) (ends.Full count)) (view_by site.shape (of_structure (gives of_free_slots)) n v)
  return_suits count n st =
      let u : View = view_by site.shape (of_structure (gives of_free_slots)) n v in
      back_suits u (ends.Full count) refl
      (part u (ap (λ (l : List Area). all_but (goes_with of_free_slots) l) st.areas) refl refl refl refl refl refl
      (λ p has. st.only p (subst (λ (l : List (ℕ × ℕ)). Has p l) (ap (λ (l : List Area). known_without site.shape of_free_slots l v.known) st.areas) has)) st.settled st.keeps)

  -- ---- the lock words of the slot are loaded
  pub look_is : (b : ℕ) → IsLooking site here call c locks b v → look_word op b ≡ side_at site here call c (32 + 32 * b)
  look_is b st = slot_is e.site.geometry site.shape st.keeps.is.located.shape c.side (32 + 32 * (b % buckets)) st.slot.slot
      ∙ ap (λ (z : ℕ). side_at site here call c (32 + 32 * z)) (let near = st.near in let same : b % buckets ≡ b = omega (arith, near) in same)

  has_free : (b : ℕ) → IsLooking site here call c locks b v → Has (Free c.side) v.areas
  has_free zero st = subst (λ (l : List Area). Has (Free c.side) l) (sym st.areas) (inl refl)
  has_free (suc b) st = subst (λ (l : List Area). Has (Free c.side) l) (sym st.areas) (inr (inl refl))

  look_holds : (b : ℕ) → IsLooking site here call c locks b v → HoldsWord site.shape v (look_word op b)
  look_holds b st = inr (Free c.side, has_free b st, subst (IsInSlot site.shape c.side) (sym (look_is b st)) (let near = st.near in in_slot_at site.shape c.side (32 + 32 * b) (omega (arith, near))))

  pub look_may : (b : ℕ) → IsLooking site here call c locks b v → MayTake site (look_kind op b) v
  look_may zero st = (
    subst (λ (l : List Area). Has (Segment s) l) (sym st.areas) (inr (inr (inl refl))),
    (λ b near. (slice_index e.locks b + 1, st.keeps.locks.has b (omega arith) near)),
    look_holds zero st,
  )
  look_may (suc b) st = look_holds (suc b) st

  module _ (b n : ℕ) (small : n < 2 ^ 64) (st : IsLooking site here call c locks b v) where
    abbrev more : List ℕ
    more = slice_set locks (b % buckets) n

    same_b : b % buckets ≡ b
    same_b = let near = st.near in omega (arith, near)

    row : IsLockRow more
    row = record {
      each_lock = length-set locks (b % buckets) n ∙ st.slot.row.each_lock;
      small = λ i. elim (cases_eq i (b % buckets)) [
        | inl is ↦ subst (λ (z : ℕ). z < 2 ^ 64) (sym (ap (slice_index more) is ∙ own_is)) small
        | inr apart ↦ subst (λ (z : ℕ). z < 2 ^ 64) (sym (get_or-set_other locks (b % buckets) i n 0 apart)) (st.slot.row.small i)
      ];
    }
      where
        own_is : slice_index more (b % buckets) ≡ n
        own_is = get_or-set_same locks (b % buckets) n 0 (let each = st.slot.row.each_lock in omega (arith, each))

    own_is : slice_index more b ≡ n
    own_is = ap (slice_index more) (sym same_b) ∙ get_or-set_same locks (b % buckets) n 0 (let each = st.slot.row.each_lock in omega (arith, each))

    other_is : (d : ℕ) → d < b → slice_index more d ≡ slice_index locks d
    other_is d low = get_or-set_other locks (b % buckets) d n 0 (λ is. (let same = same_b in omega (arith, is, low, same)))

    -- the word is known
    module _ (u : View) (known : u.known ≡ (look_word op b, n) ∷ v.known) (held : u.held ≡ v.held) (facts : u.facts ≡ v.facts) (planned : u.planned ≡ v.planned) (moving : u.moving ≡ v.moving)
        (owed : u.owed ≡ v.owed) (dirty : u.dirty ≡ v.dirty) (flushed : u.flushed ≡ v.flushed) (areas : u.areas ≡ Whole s ∷ Free c.side ∷ Allocation ∷ Segment s ∷ []) where
      had : (i x : ℕ) → Has (i, x) v.known → Has (i, x) u.known
      had i x has = subst (λ (l : List (ℕ × ℕ)). Has (i, x) l) (sym known) (inr has)

      now : Has (side_at site here call c (32 + 32 * b), n) u.known
      now = subst (λ (i : ℕ). Has (i, n) u.known) (look_is b st) (subst (λ (l : List (ℕ × ℕ)). Has (look_word op b, n) l) (sym known) (inl refl))

      upto : (d : ℕ) → d < b + 1 → Has (side_at site here call c (32 + 32 * d), slice_index more d) u.known
      upto d low = elim (cases_lt d b) [
        | inl less ↦ subst (λ (x : ℕ). Has (side_at site here call c (32 + 32 * d), x) u.known) (sym (other_is d less)) (had _ _ (st.looked d less))
        | inr last ↦ (let same : d ≡ b = omega (arith, low, last) in
            subst (λ (z : ℕ). Has (side_at site here call c (32 + 32 * z), slice_index more z) u.known) (sym same)
            (subst (λ (x : ℕ). Has (side_at site here call c (32 + 32 * b), x) u.known) (sym own_is) now))
      ]

      keeps_look : KeepsOn site here call c u
      keeps_look = keeps_by site here call c v u st.keeps held facts planned moving owed (λ b m y _ _ _ has. had _ y has)

      only_look : KnowsOnlyOfBoth site c u
      only_look p has = elim (subst (λ (l : List (ℕ × ℕ)). Has p l) known has) [
        | inl at ↦ inr (subst (IsInSlot site.shape c.side) (sym (ap (λ (q : ℕ × ℕ). q.0) at ∙ look_is b st)) (let near = st.near in in_slot_at site.shape c.side (32 + 32 * b) (omega (arith, near))))
        | inr was ↦ st.only p was
      ]

      settled_look : IsSettled u
      settled_look = record { dirty = dirty ∙ st.settled.dirty; flushed = flushed ∙ st.settled.flushed }

      slot_look : HasSlot site here call c more
      slot_look = record { slot = st.slot.slot; apart = st.slot.apart; row = row }

      areas_more : u.areas ≡ look_areas site here call c (b + 1)
      areas_more = areas ∙ ap (look_areas site here call c) (let one : suc b ≡ b + 1 = omega arith in one)

      looked_by : (t : Bool) → nat_lt b (buckets - 1) ≡ t → SuitsStep site here call c more (if t then Look (b + 1) else Put (Empty 2) round.begun) u
      looked_by true is = record {
        keeps = keeps_look;
        slot = slot_look;
        near = (let low = ltb-true b (buckets - 1) is in omega (arith, low));
        areas = areas_more;
        header = had _ _ st.header;
        side_header = (st.side_header.0, had _ _ st.side_header.1, st.side_header.2);
        looked = upto;
        settled = settled_look;
        only = only_look;
      }
      looked_by false is =
          let last = ltb-false b (buckets - 1) is in
          let near = st.near in
          record {
            splits = record {
              keeps = keeps_look;
              slot = slot_look;
              areas = areas;
              header = had _ _ st.header;
              link = tt;
              side_header = (st.side_header.0, had _ _ st.side_header.1, st.side_header.2);
              side_words = record {
                next = inl (inl refl);
                below = λ p of_slot low. absurd (elim of_slot [ inl two ↦ omega (arith, two, low) | inr far ↦ (let from = far.0 in omega (arith, from, low)) ]);
                above = λ d small past. upto d (omega (arith, last, small));
              };
              loose = λ p l. absurd (settled_firm u settled_look p l);
              only = only_look;
            };
            stands = rounds_settle.begins u settled_look;
            lines = λ l has. absurd has;
            asks = λ none. none-some _ (sym none);
          }

  pub look_suits : (b n : ℕ) → n < 2 ^ 64 → IsLooking site here call c locks b v → SuitsOp (looked op b n) (view_by site.shape (look_kind op b) n v)
  look_suits zero n small st = looked_by zero n small st (view_by site.shape (look_kind op zero) n v) refl refl refl refl refl refl refl refl (ap (λ (l : List Area). Whole s ∷ l) st.areas) (nat_lt zero (buckets - 1)) refl
  look_suits (suc b) n small st = looked_by (suc b) n small st (view_by site.shape (look_kind op (suc b)) n v) refl refl refl refl refl refl refl refl st.areas (nat_lt (suc b) (buckets - 1)) refl

  -- ---- the guard of free slots is given back, and the copies begin
  pub release_suits : (n : ℕ) → Suited Release → SuitsStep site here call c locks (copying op) (view_by site.shape (of_structure (gives of_free_slots)) n v)
  release_suits n st =
      let u : View = view_by site.shape (of_structure (gives of_free_slots)) n v in
      let is = st.0 in
      let q : IsSettled u = record { dirty = st.1.dirty; flushed = st.1.flushed } in
      let known : u.known ≡ v.known = ap (λ (l : List Area). known_without site.shape of_free_slots l v.known) is.areas in
      let w : IsEmptying site here call c locks segment_words v = is.side_words in
      to_suits site here call c locks u round.begun (rounds_settle.begins u q) (λ l has. absurd has) (Copy (copied_from c.words 32)) (record {
        keeps = keeps_there site here call c v u is.keeps (there_still is.keeps.there) refl refl refl refl (λ b m y _ _ _ has. still known _ y has);
        slot = is.slot;
        areas = ap (λ (l : List Area). all_but (goes_with of_free_slots) l) is.areas;
        header = still known _ _ is.header;
        link = still known _ _ is.link;
        side_header = still known _ _ is.side_header;
        side_words = record {
          next = elim (found_at c.words 32 (omega arith)) [ inl at ↦ inl (copied_behind c.words 32 (omega arith), at.0, at.1) | inr past ↦ inr past ];
          below = λ p from small low yes_it. absurd (both_ways (is_copied c.words p) (none_before c.words 32 (omega arith) p from low) yes_it);
          rest = λ p from small meta none. still known _ _ (w.below p (inr (from, small, meta)) small);
        };
        loose = λ p l. absurd (settled_firm u q p l);
        only = λ p has. is.only p (subst (λ (l : List (ℕ × ℕ)). Has p l) known has);
      })
    where
      still : {l : List (ℕ × ℕ)} → l ≡ v.known → (i x : ℕ) → Has (i, x) v.known → Has (i, x) l
      still same i x has = subst (λ (z : List (ℕ × ℕ)). Has (i, x) z) (sym same) has

      -- with the guard goes only which slots are taken
      there_still : IsThere site s v.facts → IsThere site s (facts_without of_free_slots v.facts)
      there_still there = record {
        live = record { within = there.within; lives = has_filtered (λ fact. not (is_taken fact)) v.facts (Lives s) there.lives refl };
        current = has_filtered (λ fact. not (is_taken fact)) v.facts (Current s) there.current refl;
      }

  -- ---- what is held is given back
  pub given_suits : (next : Option Give) (end : SplitEnd) (u : View) → is_copied_end end ≡ false → SuitsNext site e next u → SuitsStep site here call c locks (given_to next end) u
  given_suits (Some give) end u bare n = (n, bare)
  given_suits None (ends.Again why) u bare n = n
  given_suits None (ends.Full count) u bare n = n
  given_suits None ends.Copied u bare n = absurd (let f : true ≡ false = bare in cc)
