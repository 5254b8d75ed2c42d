-- What a store of a split leaves: the word is known, and all else is as it was.
use Rattle.std.proofs.Common.{◌≡◌, ℕ, suc, ◌+◌, ◌-◌, ◌*◌, ◌%◌, ◌<◌, ◌≤◌, ◌⊎◌, true, false, List, ◌∷◌, slice_index, inl, inr, refl, sym, ap, ◌∙◌, subst, arith}
use Rattle.std.proofs.lemmas.Bool.{cases_lt, cases_eq, both_ways}
use Rattle.image_layout.specs.Places.{head_at, bucket_at, buckets, block, segment_words}
use Rattle.frame_facts.specs.DeadSlots.{IsInSlot}
use Rattle.frame_facts.specs.Facts.{Fact}
use Rattle.map_model.specs.declared.call.Call.{Call}
use Rattle.world.specs.declared.site.Site.{Site}
use Rattle.world.specs.Ground.{Ground}
use Rattle.world.specs.Views.{View, Has, IsLoose}
use Rattle.world.specs.Kinds.{without}
use Rattle.world.specs.areas.Areas.{header_word}
use Rattle.world.specs.areas.Splitting.{link_word}
use Rattle.world.proofs.basics.Seats.{without_has, without_stays}
use Rattle.enclose_op.specs.Phases.{IsThere}
use Rattle.enclose_op.specs.Whole.{kept_words}
use Rattle.enclose_op.proofs.Held.{hold_same}
use Rattle.enclose_op.proofs.Places.{in_slot}
use Rattle.split_op.specs.declared.copied.Copied.{Copied}
use Rattle.split_op.specs.declared.batch.Batch.TheVariants.{Empty, Link, Mark, New, Copy}
use Rattle.split_op.specs.Copied.{split_head, side_head, KnowsOnlyOfBoth}
use Rattle.split_op.specs.Batches.{empty_value, after_empty, is_copied, copied_from}
use Rattle.split_op.specs.Fits.{KeepsOn, HasSlot, side_at, areas_at, IsEmptied, IsEmptying, IsCopying, IsSplitting}
use Rattle.split_op.proofs.Falling.{empty_behind}
use Rattle.split_op.proofs.sides.Seeking.{found_at, copied_behind, none_before}
use Rattle.split_op.proofs.Places.{in_slot_at, slot_apart, number_apart, bucket_no_head, lock_value, even_value, after_first, passed_over}

-- A STORE: locks and what is relied on are as they were, the word is known, and nothing else became loose
pub record HasStored (v u : View) (i x : ℕ) : Type 0 where
  pub held : u.held ≡ v.held
  pub facts : u.facts ≡ v.facts
  pub planned : u.planned ≡ v.planned
  pub moving : u.moving ≡ v.moving
  pub owed : u.owed ≡ v.owed
  pub known : u.known ≡ (i, x) ∷ without i v.known
  pub loose : (p : ℕ × ℕ) → IsLoose u p → IsLoose v p ⊎ (p.0 ≡ i)

module _ (v u : View) (i x : ℕ) (st : HasStored v u i x) where
  pub here : Has (i, x) u.known
  here = subst (λ (l : List (ℕ × ℕ)). Has (i, x) l) (sym st.known) (inl refl)

  pub still : (j y : ℕ) → (j ≡ i → ⊥) → Has (j, y) v.known → Has (j, y) u.known
  still j y apart has = subst (λ (l : List (ℕ × ℕ)). Has (j, y) l) (sym st.known) (inr (without_stays i j y v.known apart has))

  pub only_known : (p : ℕ × ℕ) → Has p u.known → (p.0 ≡ i) ⊎ Has p v.known
  only_known p has = elim (subst (λ (l : List (ℕ × ℕ)). Has p l) st.known has) [ inl is ↦ inl (ap (λ (q : ℕ × ℕ). q.0) is) | inr was ↦ inr (without_has i p.0 p.1 v.known was).1 ]

module _ (site : Ground) (here_site : Site) (call : Call) (c : Copied) where
  abbrev s : ℕ
  s = c.whole.segment

  -- what is kept stays so, where these lists do, the segment is relied on, and the words of its buckets are known
  pub keeps_there : (v u : View) → KeepsOn site here_site call c v → IsThere site s u.facts → u.held ≡ v.held → u.planned ≡ v.planned → u.moving ≡ v.moving → u.owed ≡ v.owed
      → ((b m y : ℕ) → b < buckets → 1 ≤ m → m < block → Has (bucket_at site.shape s b + m, y) v.known → Has (bucket_at site.shape s b + m, y) u.known) → KeepsOn site here_site call c u
  keeps_there v u k there held planned moving owed more = record {
    is = k.is;
    whole = k.whole;
    words = k.words;
    there = there;
    locks = hold_same site c.whole 0 buckets v u c.whole refl refl held k.locks;
    buckets_are = λ b m near from low. more b m (kept_words c.whole (bucket_at site.shape s b + m)) near from low (k.buckets_are b m near from low);
    planned = planned ∙ k.planned;
    moving = moving ∙ k.moving;
    owed = owed ∙ k.owed;
  }

  -- and where what is relied on does
  pub keeps_by : (v u : View) → KeepsOn site here_site call c v → u.held ≡ v.held → u.facts ≡ v.facts → u.planned ≡ v.planned → u.moving ≡ v.moving → u.owed ≡ v.owed
      → ((b m y : ℕ) → b < buckets → 1 ≤ m → m < block → Has (bucket_at site.shape s b + m, y) v.known → Has (bucket_at site.shape s b + m, y) u.known) → KeepsOn site here_site call c u
  keeps_by v u k held facts planned moving owed more = keeps_there v u k (subst (λ (l : List Fact). IsThere site s l) (sym facts) k.there) held planned moving owed more

  module _ (locks : List ℕ) (v u : View) where
    -- ---- a store to a word of the side's slot
    module _ (k x : ℕ) (low : k < segment_words) (slot : HasSlot site here_site call c locks) (st : HasStored v u (side_at site here_site call c k) x) where
      abbrev at : ℕ
      at = side_at site here_site call c k

      -- words of the segment, and other words of the slot, are known as they were
      pub own_still : (j y : ℕ) → IsInSlot site.shape s j → Has (j, y) v.known → Has (j, y) u.known
      own_still j y inside has = still v u at x st j y (slot_apart site.shape s c.side j k slot.apart inside low) has

      pub side_still : (p y : ℕ) → (p ≡ k → ⊥) → Has (side_at site here_site call c p, y) v.known → Has (side_at site here_site call c p, y) u.known
      side_still p y apart has = still v u at x st (side_at site here_site call c p) y (number_apart site.shape c.side p k apart) has

      pub keeps_side : KeepsOn site here_site call c v → KeepsOn site here_site call c u
      keeps_side keeps = keeps_by v u keeps st.held st.facts st.planned st.moving st.owed
          (λ b m y near from small has. own_still (bucket_at site.shape s b + m) y (in_slot site.shape s b m near small) has)

      pub only_side : KnowsOnlyOfBoth site c v → KnowsOnlyOfBoth site c u
      only_side only p has = elim (only_known v u at x st p has) [
        | inl is ↦ inr (subst (IsInSlot site.shape c.side) (sym is) (in_slot_at site.shape c.side k low))
        | inr was ↦ only p was
      ]

    -- ---- a store to the header or the link of the segment
    module _ (q x : ℕ) (low : q < 32) (slot : HasSlot site here_site call c locks) (st : HasStored v u (head_at site.shape s + q) x) where
      abbrev own_at : ℕ
      own_at = head_at site.shape s + q

      own_inside : IsInSlot site.shape s own_at
      own_inside = in_slot_at site.shape s q (omega (arith, low))

      pub slot_still : (p y : ℕ) → p < segment_words → Has (side_at site here_site call c p, y) v.known → Has (side_at site here_site call c p, y) u.known
      slot_still p y small has = still v u own_at x st (side_at site here_site call c p) y (λ e. slot_apart site.shape s c.side own_at p slot.apart own_inside small (sym e)) has

      pub head_still : (p y : ℕ) → (p ≡ q → ⊥) → Has (head_at site.shape s + p, y) v.known → Has (head_at site.shape s + p, y) u.known
      head_still p y apart has = still v u own_at x st (head_at site.shape s + p) y (number_apart site.shape s p q apart) has

      pub keeps_own : KeepsOn site here_site call c v → KeepsOn site here_site call c u
      keeps_own keeps = keeps_by v u keeps st.held st.facts st.planned st.moving st.owed
          (λ b m y near from small has. still v u own_at x st (bucket_at site.shape s b + m) y (bucket_no_head site.shape s b m q low) has)

      pub only_own : KnowsOnlyOfBoth site c v → KnowsOnlyOfBoth site c u
      only_own only p has = elim (only_known v u own_at x st p has) [
        | inl is ↦ inl (subst (IsInSlot site.shape s) (sym is) own_inside)
        | inr was ↦ only p was
      ]

      pub emptied_own : IsEmptying site here_site call c locks segment_words v → IsEmptying site here_site call c locks segment_words u
      emptied_own w = record {
        next = inr (omega arith);
        below = λ p is small. slot_still p (empty_value locks p) small (w.below p is small);
        above = λ b near past. absurd (omega (arith, near, past));
      }

    -- ---- the stores, one after another: a word is emptied
    module _ (k : ℕ) (low : k < segment_words) (is : IsSplitting site here_site call c locks (Empty k) v) (st : HasStored v u (side_at site here_site call c k) (empty_value locks k)) where
      abbrev w : IsEmptying site here_site call c locks k v
      w = is.side_words

      first : IsEmptied site here_site call c locks k
      first = elim w.next [ inl at ↦ at | inr past ↦ absurd (omega (arith, low, past)) ]

      no_header : k ≡ 1 → ⊥
      no_header e = elim first [ inl two ↦ omega (arith, e, two) | inr far ↦ (let from = far.0 in omega (arith, e, from)) ]

      some_number : 2 ≤ k
      some_number = elim first [ inl two ↦ omega (arith, two) | inr far ↦ (let from = far.0 in omega (arith, from)) ]

      -- a free lock word that is passed over is as it is emptied
      over : (p : ℕ) → k < p → p < after_empty locks k → (b : ℕ) × (b < buckets) × (p ≡ 32 + 32 * b) × (slice_index locks b % 2 ≡ 0) → Has (side_at site here_site call c p, empty_value locks p) u.known
      over p more small o =
          let b : ℕ = o.0 in
          let at : p ≡ 32 + 32 * b = o.2 in
          let same : empty_value locks (32 + 32 * b) ≡ slice_index locks b = lock_value locks b ∙ even_value (slice_index locks b) o.3 in
          subst (λ (n : ℕ). Has (side_at site here_site call c n, empty_value locks n) u.known) (sym at)
          (side_still k (empty_value locks k) low is.slot st (32 + 32 * b) (empty_value locks (32 + 32 * b)) (λ e. omega (arith, e, at, more))
          (subst (λ (n : ℕ). Has (side_at site here_site call c (32 + 32 * b), n) v.known) (sym same) (w.above b o.1 (omega (arith, at, more)))))

      emptied : (p : ℕ) → IsEmptied site here_site call c locks p → p < after_empty locks k → Has (side_at site here_site call c p, empty_value locks p) u.known
      emptied p of_slot small = elim (cases_lt p k) [
        | inl before ↦ side_still k (empty_value locks k) low is.slot st p (empty_value locks p) (λ e. omega (arith, e, before)) (w.below p of_slot before)
        | inr from ↦ elim (cases_eq p k) [
          | inl same ↦ subst (λ (n : ℕ). Has (side_at site here_site call c n, empty_value locks n) u.known) (sym same) (here v u (side_at site here_site call c k) (empty_value locks k) st)
          | inr apart ↦ (let more : k < p = omega (arith, from, apart) in over p more small (passed_over locks k low first p of_slot more small))
        ]
      ]

      pub empty_more : u.areas ≡ v.areas → IsSplitting site here_site call c locks (Empty (after_empty locks k)) u
      empty_more areas = record {
        keeps = keeps_side k (empty_value locks k) low is.slot st is.keeps;
        slot = is.slot;
        areas = areas ∙ is.areas;
        header = own_still k (empty_value locks k) low is.slot st (header_word site.shape s) c.whole.head (in_slot_at site.shape s 1 (omega arith)) is.header;
        link = tt;
        side_header = (is.side_header.0, side_still k (empty_value locks k) low is.slot st 1 is.side_header.0 (λ e. no_header (sym e)) is.side_header.1, is.side_header.2);
        side_words = record {
          next = after_first locks k low first;
          below = emptied;
          above = λ b near past. (let more = empty_behind locks k low in
              side_still k (empty_value locks k) low is.slot st (32 + 32 * b) (slice_index locks b) (λ e. omega (arith, e, past, more)) (w.above b near (omega (arith, past, more))));
        };
        loose = λ p l. elim (st.loose p l) [ inl was ↦ is.loose p was | inr at ↦ (k, some_number, low, at) ];
        only = only_side k (empty_value locks k) low is.slot st is.only;
      }

    -- a word is copied
    module _ (k : ℕ) (low : k < segment_words) (is : IsSplitting site here_site call c locks (Copy k) v) (st : HasStored v u (side_at site here_site call c k) (slice_index c.words (k - 32))) where
      abbrev cw : IsCopying site here_site call c locks k v
      cw = is.side_words

      abbrev val : ℕ
      val = slice_index c.words (k - 32)

      this : (32 ≤ k) × (k < segment_words) × (is_copied c.words k ≡ true)
      this = elim cw.next [ inl at ↦ at | inr past ↦ absurd (omega (arith, low, past)) ]

      from_k : 32 ≤ k
      from_k = this.0

      abbrev later : ℕ
      later = copied_from c.words (k + 1)

      behind : k + 1 ≤ later
      behind = copied_behind c.words (k + 1) (omega (arith, low))

      copied_below : (p : ℕ) → 32 ≤ p → p < segment_words → p < later → is_copied c.words p ≡ true → Has (side_at site here_site call c p, slice_index c.words (p - 32)) u.known
      copied_below p from small before yes_it = elim (cases_lt p k) [
        | inl less ↦ side_still k val low is.slot st p (slice_index c.words (p - 32)) (λ e. omega (arith, e, less)) (cw.below p from small less yes_it)
        | inr more ↦ elim (cases_eq p k) [
          | inl same ↦ subst (λ (n : ℕ). Has (side_at site here_site call c n, slice_index c.words (n - 32)) u.known) (sym same) (here v u (side_at site here_site call c k) val st)
          | inr apart ↦ absurd (both_ways (is_copied c.words p) (none_before c.words (k + 1) (omega (arith, low)) p (omega (arith, more, apart)) before) yes_it)
        ]
      ]

      rest_there : (p : ℕ) → 32 ≤ p → p < segment_words → p % 32 < 4 → (p < later → is_copied c.words p ≡ false) → Has (side_at site here_site call c p, empty_value locks p) u.known
      rest_there p from small meta none = elim (cases_eq p k) [
        | inl same ↦ absurd (both_ways (is_copied c.words p) (none (omega (arith, same, behind))) (ap (is_copied c.words) same ∙ this.2))
        | inr apart ↦ side_still k val low is.slot st p (empty_value locks p) apart (cw.rest p from small meta (λ less. none (omega (arith, less, behind))))
      ]

      found : ((32 ≤ later) × (later < segment_words) × (is_copied c.words later ≡ true)) ⊎ (segment_words ≤ later)
      found = elim (found_at c.words (k + 1) (omega (arith, low))) [
        | inl at ↦ inl (omega (arith, behind, from_k), at.0, at.1)
        | inr past ↦ inr past
      ]

      pub copy_more : u.areas ≡ v.areas → IsSplitting site here_site call c locks (Copy later) u
      copy_more areas = record {
        keeps = keeps_side k val low is.slot st is.keeps;
        slot = is.slot;
        areas = areas ∙ is.areas;
        header = own_still k val low is.slot st (header_word site.shape s) (split_head c.whole) (in_slot_at site.shape s 1 (omega arith)) is.header;
        link = own_still k val low is.slot st (link_word site.shape s) (suc c.side) (in_slot_at site.shape s 2 (omega arith)) is.link;
        side_header = side_still k val low is.slot st 1 (side_head c.whole) (λ e. omega (arith, e, from_k)) is.side_header;
        side_words = record { next = found; below = copied_below; rest = rest_there };
        loose = λ p l. elim (st.loose p l) [ inl was ↦ is.loose p was | inr at ↦ (k, omega (arith, from_k), low, at) ];
        only = only_side k val low is.slot st is.only;
      }

    -- the slot is linked
    pub link_more : IsSplitting site here_site call c locks (Link false) v → HasStored v u (link_word site.shape s) (suc c.side) → u.areas ≡ v.areas → IsSplitting site here_site call c locks (Link true) u
    link_more is st areas = record {
      keeps = keeps_own 2 (suc c.side) (omega arith) is.slot st is.keeps;
      slot = is.slot;
      areas = areas ∙ is.areas;
      header = head_still 2 (suc c.side) (omega arith) is.slot st 1 c.whole.head (λ e. omega (arith, e)) is.header;
      link = here v u (link_word site.shape s) (suc c.side) st;
      side_header = (is.side_header.0, slot_still 2 (suc c.side) (omega arith) is.slot st 1 is.side_header.0 (omega arith) is.side_header.1, is.side_header.2);
      side_words = emptied_own 2 (suc c.side) (omega arith) is.slot st is.side_words;
      loose = λ p l. elim (st.loose p l) [ inl was ↦ absurd (is.loose p was) | inr at ↦ at ];
      only = only_own 2 (suc c.side) (omega arith) is.slot st is.only;
    }

    -- the segment is marked
    pub mark_more : IsSplitting site here_site call c locks (Mark false) v → HasStored v u (header_word site.shape s) (split_head c.whole) → u.areas ≡ v.areas → IsSplitting site here_site call c locks (Mark true) u
    mark_more is st areas = record {
      keeps = keeps_own 1 (split_head c.whole) (omega arith) is.slot st is.keeps;
      slot = is.slot;
      areas = areas ∙ is.areas;
      header = here v u (header_word site.shape s) (split_head c.whole) st;
      link = head_still 1 (split_head c.whole) (omega arith) is.slot st 2 (suc c.side) (λ e. omega (arith, e)) is.link;
      side_header = (is.side_header.0, slot_still 1 (split_head c.whole) (omega arith) is.slot st 1 is.side_header.0 (omega arith) is.side_header.1, is.side_header.2);
      side_words = emptied_own 1 (split_head c.whole) (omega arith) is.slot st is.side_words;
      loose = λ p l. elim (st.loose p l) [ inl was ↦ absurd (is.loose p was) | inr at ↦ at ];
      only = only_own 1 (split_head c.whole) (omega arith) is.slot st is.only;
    }

    -- the side is new
    pub new_more : IsSplitting site here_site call c locks (New false) v → HasStored v u (side_at site here_site call c 1) (side_head c.whole) → u.areas ≡ areas_at site here_site call c locks (New true)
        → IsSplitting site here_site call c locks (New true) u
    new_more is st areas = record {
      keeps = keeps_side 1 (side_head c.whole) (omega arith) is.slot st is.keeps;
      slot = is.slot;
      areas = areas;
      header = own_still 1 (side_head c.whole) (omega arith) is.slot st (header_word site.shape s) (split_head c.whole) (in_slot_at site.shape s 1 (omega arith)) is.header;
      link = own_still 1 (side_head c.whole) (omega arith) is.slot st (link_word site.shape s) (suc c.side) (in_slot_at site.shape s 2 (omega arith)) is.link;
      side_header = here v u (side_at site here_site call c 1) (side_head c.whole) st;
      side_words = (let w : IsEmptying site here_site call c locks segment_words v = is.side_words in record {
        next = inr (omega arith);
        below = λ p of_slot small. side_still 1 (side_head c.whole) (omega arith) is.slot st p (empty_value locks p) (no_one p of_slot) (w.below p of_slot small);
        above = λ b near past. absurd (omega (arith, near, past));
      });
      loose = λ p l. elim (st.loose p l) [ inl was ↦ absurd (is.loose p was) | inr at ↦ at ];
      only = only_side 1 (side_head c.whole) (omega arith) is.slot st is.only;
    }
      where
        no_one : (p : ℕ) → IsEmptied site here_site call c locks p → p ≡ 1 → ⊥
        no_one p (inl two) e = omega (arith, two, e)
        no_one p (inr far) e = let from = far.0 in omega (arith, from, e)
