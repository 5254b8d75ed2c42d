-- What the view of a split may do: empty a slot of its own, link it, begin the split, and copy.
use Rattle.std.proofs.Common.{◌≡◌, ◌≢◌, ℕ, suc, ◌+◌, ◌-◌, ◌*◌, ◌/◌, ◌%◌, ◌^◌, ◌<◌, ◌≤◌, Bool, true, false, List, [], ◌∷◌, slice_index, inl, inr, refl, sym, ap, ◌∙◌, subst, arith}
use Rattle.std.specs.Prelude.{nat_lt, ◌==◌, ◌||◌, not, if◌then◌else◌}
use Rattle.word_bits.specs.Bits.{bit}
use Rattle.std.proofs.lemmas.Bool.{eq-eqb, ne_eqb, both_ways, cond_both}
use Rattle.trace.specs.Events.{Words}
use Rattle.bucket_meta.specs.Bucket.{without_lock}
use Rattle.segment_head.specs.HeadWord.{version_in, state_in, depth_in, pattern_in, free, normal, splitting, fresh, HasLiveState, header_of}
use Rattle.image_layout.specs.Places.{head_at, segment_words}
use Rattle.frame_facts.specs.DeadSlots.{IsPlainInSlot}
use Rattle.hash_word.specs.Hash.{top}
use Rattle.segment_table.proofs.frames.Regions.{top_below}
use Rattle.image_layout.proofs.Areas.{power_le}
use Rattle.way.proofs.Leading.{leading_is}
use Rattle.map_model.specs.declared.call.Call.{Call}
use Rattle.segment_head.proofs.Headers.{header_version, header_state, header_depth, header_pattern}
use Rattle.world.specs.declared.site.Site.{Site}
use Rattle.world.specs.Ground.{Ground, IsGround, IsLockWord, version_of}
use Rattle.world.specs.Views.{View, Has, IsLoose}
use Rattle.world.specs.Holders.{KnowsWord}
use Rattle.world.specs.areas.Areas.{Area, Segment, Side, Free, Whole, Allocation, header_word}
use Rattle.world.specs.areas.Asking.{MayAt}
use Rattle.world.specs.areas.Kinds.{sets, moves}
use Rattle.world.specs.areas.Rows.{marks, news}
use Rattle.world.specs.areas.Splitting.{link_word, IsSettledHolder, KnowsHead, HasOwnSlot, IsHeader}
use Rattle.world.proofs.holders.filling.Filling.{may_fill}
use Rattle.world.proofs.holders.filling.Beginning.{may_begin}
use Rattle.enclose_op.specs.declared.enclosed.Enclosed.{Enclosed}
use Rattle.split_op.specs.declared.copied.Copied.{Copied}
use Rattle.split_op.specs.declared.batch.Batch.TheVariants.{Empty, Link, Mark, New, Copy}
use Rattle.split_op.specs.Copied.{split_head, side_head}
use Rattle.split_op.specs.Batches.{empty_value, is_copied}
use Rattle.split_op.specs.Fits.{KeepsOn, side_at, IsEmptying, IsCopying, IsSplitting}
use Rattle.split_op.proofs.Places.{in_slot_at, slot_apart, number_apart, other_value}

-- ---- headers
-- fields of a header that is made of them
pub fields_are : (v t d p : ℕ) → v < 2 ^ 8 → t < 2 ^ 8 → d < 2 ^ 8 → IsHeader (header_of v t d p) t d p v
fields_are v t d p small state depth = record {
  state_is = header_state v t d p small state depth;
  depth_is = header_depth v t d p small state depth;
  pattern_is = header_pattern v t d p small state depth;
  version_is = header_version v t d p small state depth;
}

free_dead : (head : ℕ) → state_in head ≡ free → HasLiveState head → ⊥
free_dead head is (inl live) = omega (arith, is, live)
free_dead head is (inr live) = omega (arith, is, live)

pub fresh_dead : (head : ℕ) → state_in head ≡ fresh → HasLiveState head → ⊥
fresh_dead head is (inl live) = omega (arith, is, live)
fresh_dead head is (inr live) = omega (arith, is, live)

normal_still : (a : ℕ) → a ≡ normal → a ≢ splitting
normal_still a e f = omega (arith, e, f)

module _ (site : Ground) (ground : IsGround site) (here : Site) (call : Call) (c : Copied) (v : View) where
  abbrev e : Enclosed
  e = c.whole

  abbrev s : ℕ
  s = c.whole.segment

  abbrev n : ℕ
  n = c.side

  module _ (k : KeepsOn site here call c v) where
    pub holder : Has (Whole s) v.areas → IsSettledHolder site.shape v
    holder whole = record {
      planned = k.planned;
      moving = k.moving;
      owed = k.owed;
      locks = λ lock has. (let at = k.locks.only (lock, has.0) has.1 in (s, at.0, k.is.located.within, at.2, ap (λ (p : ℕ × ℕ). p.0) at.3, whole));
    }

    low_depth : depth_in e.head < 16
    low_depth = let shallow = k.whole.shallow in let most = ground.shape.depth in omega (arith, shallow, most)

    low_pattern : pattern_in e.head < 2 ^ 16
    low_pattern =
        let lead = leading_is e.head e.hash k.whole.head.leads in
        let below : top (depth_in e.head) e.hash < 2 ^ depth_in e.head = top_below (depth_in e.head) e.hash lead.low k.is.fits in
        let most = power_le (depth_in e.head) 16 (let low = low_depth in omega (arith, low)) in
        let is = lead.covers in
        omega (arith, below, most, is)

    pub split_is : IsHeader (split_head e) splitting (depth_in e.head) (pattern_in e.head) (version_in e.head)
    split_is = fields_are (version_in e.head) splitting (depth_in e.head) (pattern_in e.head) (omega arith) (omega arith) (omega arith)

    pub side_is : IsHeader (side_head e) fresh (suc (depth_in e.head)) (2 * pattern_in e.head + 1) (version_of site)
    side_is =
        let low = low_depth in
        let depth : (depth_in e.head + 1) % 2 ^ 8 ≡ suc (depth_in e.head) = omega (arith, low) in
        let few = low_pattern in
        let pattern : (2 * pattern_in e.head + 1) % 2 ^ 32 ≡ 2 * pattern_in e.head + 1 = omega (arith, few) in
        subst (λ (d : ℕ). IsHeader (side_head e) fresh d (2 * pattern_in e.head + 1) (version_of site)) depth
        (subst (λ (p : ℕ). IsHeader (side_head e) fresh ((depth_in e.head + 1) % 2 ^ 8) p (version_of site)) pattern
        (subst (λ (z : ℕ). IsHeader (side_head e) fresh ((depth_in e.head + 1) % 2 ^ 8) ((2 * pattern_in e.head + 1) % 2 ^ 32) z) k.is.version
        (fields_are e.site.version fresh ((depth_in e.head + 1) % 2 ^ 8) ((2 * pattern_in e.head + 1) % 2 ^ 32) (let is = k.is.version in omega (arith, is)) (omega arith) (omega arith))))

    pub head_normal : state_in e.head ≡ normal
    head_normal = (leading_is e.head e.hash k.whole.head.leads).normal

  -- ---- a slot of one's own
  own_free : (h : ℕ) → Has (Free n) v.areas → n < site.shape.segments → state_in h ≡ free → KnowsWord v (header_word site.shape n) h → HasOwnSlot site.shape v n h
  own_free h has slot is known = record { slot = slot; own = inl has; header = known; dead = free_dead h is }

  own_side : (h : ℕ) → Has (Side n) v.areas → n < site.shape.segments → state_in h ≡ fresh → KnowsWord v (header_word site.shape n) h → HasOwnSlot site.shape v n h
  own_side h has slot is known = record { slot = slot; own = inr has; header = known; dead = fresh_dead h is }

  -- a word of it that is neither header nor link
  plain : (p : ℕ) → 32 ≤ p → p < segment_words → IsPlainInSlot site.shape n (head_at site.shape n + p)
  plain p from low = record {
    inside = in_slot_at site.shape n p low;
    no_header = number_apart site.shape n p 1 (λ e. omega (arith, e, from));
    no_link = number_apart site.shape n p 2 (λ e. omega (arith, e, from));
  }

  -- a lock word has a number that 32 divides
  lock_at : (p : ℕ) → IsLockWord site.shape (head_at site.shape n + p) → p % 32 ≡ 0
  lock_at p is = by ((32 + 2 ^ (site.shape.depth + 1) - 1 + 31) / 32) n p is.0 is.1 is.4
    where
      by : (f n p s b : ℕ) → f * 32 + 2144 * n + p ≡ f * 32 + 2144 * s + 32 + 32 * b → p % 32 ≡ 0
      by f n p s b e = omega (arith, e)

  empty_even : (locks : List ℕ) (p : ℕ) → empty_value locks p % 2 ≡ 0
  empty_even locks p = cond_both (nat_lt p 32 || nat_lt 0 (p % 32)) 0 (without_lock (slice_index locks (p / 32 - 1))) (λ (z : ℕ). z % 2 ≡ 0) (λ _. refl) (λ _. omega arith)

  module _ (locks : List ℕ) where
    -- what may be loose is no header of the side, and no word of the segment, while words of the slot are stored
    header_firm : (h : ℕ) → ((p : ℕ × ℕ) → IsLoose v p → (q : ℕ) × (2 ≤ q) × (q < segment_words) × (p.0 ≡ side_at site here call c q)) → Has (header_word site.shape n, h) v.known → KnowsWord v (header_word site.shape n) h
    header_firm h loose has = record { known = has; firm = λ y l. (let at = loose (header_word site.shape n, y) l in number_apart site.shape n 1 at.0 (λ e. (let from = at.1 in omega (arith, e, from))) at.3) }

    -- a word is emptied
    pub may_empty : (k : ℕ) → k < segment_words → IsSplitting site here call c locks (Empty k) v → MayAt site (sets (head_at site.shape n + k) (empty_value locks k)) v
    may_empty k low is =
        let h : ℕ = is.side_header.0 in
        let whole : Has (Whole s) v.areas = subst (λ (l : List Area). Has (Whole s) l) (sym is.areas) (inl refl) in
        let has : Has (Free n) v.areas = subst (λ (l : List Area). Has (Free n) l) (sym is.areas) (inr (inl refl)) in
        let own = own_free h has is.slot.slot is.side_header.2 (header_firm h is.loose is.side_header.1) in
        let w : IsEmptying site here call c locks k v = is.side_words in
        elim w.next [
          | inl first ↦ elim first [
            | inl two ↦ subst (λ (x : ℕ). MayAt site (sets (head_at site.shape n + k) x) v) (sym (other_value locks k (inl (omega (arith, two)))))
                (subst (λ (p : ℕ). MayAt site (sets (head_at site.shape n + p) 0) v) (sym two) ((may_fill site v ground).side_link n 0 h (holder is.keeps whole) own (omega arith)))
            | inr far ↦ (may_fill site v ground).word n (head_at site.shape n + k) (empty_value locks k) h (holder is.keeps whole) own (plain k far.0 low) (λ _. empty_even locks k)
          ]
          | inr past ↦ absurd (omega (arith, low, past))
        ]

    -- a word is copied
    pub may_copy : (k : ℕ) → k < segment_words → IsSplitting site here call c locks (Copy k) v → MayAt site (sets (head_at site.shape n + k) (slice_index c.words (k - 32))) v
    may_copy k low is =
        let whole : Has (Whole s) v.areas = subst (λ (l : List Area). Has (Whole s) l) (sym is.areas) (inr (inl refl)) in
        let has : Has (Side n) v.areas = subst (λ (l : List Area). Has (Side n) l) (sym is.areas) (inl refl) in
        let own = own_side (side_head e) has is.slot.slot (side_is is.keeps).state_is (header_firm (side_head e) is.loose is.side_header) in
        let w : IsCopying site here call c locks k v = is.side_words in
        elim w.next [
          | inl this ↦ (may_fill site v ground).word n (head_at site.shape n + k) (slice_index c.words (k - 32)) (side_head e) (holder is.keeps whole) own (plain k this.0 low)
              (λ lock. absurd (no_lock k this.2 (lock_at k lock)))
          | inr past ↦ absurd (omega (arith, low, past))
        ]
      where
        no_lock : (k : ℕ) → is_copied c.words k ≡ true → k % 32 ≡ 0 → ⊥
        no_lock k copied even = both_ways (is_copied c.words k)
            (ap (λ (t : Bool). if t then false else if nat_lt (k % 32) 4 then not (slice_index c.words (k - 32) == 0) else bit ((k % 32 - 4) / 2) (slice_index c.words (k - k % 32 - 31)) == 1) (eq-eqb (k % 32) 0 even)) copied

    -- nothing is loose while a link or a header is still to be stored
    firm_all : ((p : ℕ × ℕ) → IsLoose v p → ⊥) → (i x : ℕ) → Has (i, x) v.known → KnowsWord v i x
    firm_all none i x has = record { known = has; firm = λ y l. none (i, y) l }

    -- the slot is linked
    pub may_link : IsSplitting site here call c locks (Link false) v → MayAt site (sets (link_word site.shape s) (suc n)) v
    may_link is =
        let whole : Has (Whole s) v.areas = subst (λ (l : List Area). Has (Whole s) l) (sym is.areas) (inl refl) in
        let has : Has (Segment s) v.areas = subst (λ (l : List Area). Has (Segment s) l) (sym is.areas) (inr (inr (inr (inl refl)))) in
        let slot = is.slot.slot in
        (may_fill site v ground).link s (suc n) e.head (holder is.keeps whole) is.keeps.is.located.within has
        (λ side. no_side (subst (λ (l : List Area). Has (Side s) l) is.areas side))
        (firm_all is.loose (header_word site.shape s) e.head is.header) (normal_still (state_in e.head) (head_normal is.keeps)) (omega (arith, slot))
      where
        no_side : Has (Side s) (Whole s ∷ Free n ∷ Allocation ∷ Segment s ∷ []) → ⊥
        no_side (inl e) = absurd (cc)
        no_side (inr (inl e)) = absurd (cc)
        no_side (inr (inr (inl e))) = absurd (cc)
        no_side (inr (inr (inr (inl e)))) = absurd (cc)
        no_side (inr (inr (inr (inr e)))) = e

    -- ---- the two headers: words that have them
    abbrev heads : ℕ → ℕ → ℕ → ℕ → Words
    heads h l a b i = if i == header_word site.shape s then h else if i == link_word site.shape s then l else if i == header_word site.shape n then a else b

    module _ (apart : n ≡ s → ⊥) (h l a b : ℕ) where
      own_header : heads h l a b (header_word site.shape s) ≡ h
      own_header = ap (λ (t : Bool). if t then h else if header_word site.shape s == link_word site.shape s then l else if header_word site.shape s == header_word site.shape n then a else b)
          (eq-eqb (header_word site.shape s) (header_word site.shape s) refl)

      own_link : heads h l a b (link_word site.shape s) ≡ l
      own_link = ap (λ (t : Bool). if t then h else if link_word site.shape s == link_word site.shape s then l else if link_word site.shape s == header_word site.shape n then a else b)
          (ne_eqb (link_word site.shape s) (header_word site.shape s) (number_apart site.shape s 2 1 (λ e. omega (arith, e))))
          ∙ ap (λ (t : Bool). if t then l else if link_word site.shape s == header_word site.shape n then a else b) (eq-eqb (link_word site.shape s) (link_word site.shape s) refl)

      other : (q p : ℕ) → q < 32 → p < 32 → head_at site.shape n + q ≡ head_at site.shape s + p → ⊥
      other q p small low e = slot_apart site.shape s n (head_at site.shape s + p) q apart (in_slot_at site.shape s p (omega (arith, low))) (omega (arith, small)) (sym e)

      side_header : heads h l a b (header_word site.shape n) ≡ a
      side_header = ap (λ (t : Bool). if t then h else if header_word site.shape n == link_word site.shape s then l else if header_word site.shape n == header_word site.shape n then a else b)
          (ne_eqb (header_word site.shape n) (header_word site.shape s) (other 1 1 (omega arith) (omega arith)))
          ∙ ap (λ (t : Bool). if t then l else if header_word site.shape n == header_word site.shape n then a else b) (ne_eqb (header_word site.shape n) (link_word site.shape s) (other 1 2 (omega arith) (omega arith)))
          ∙ ap (λ (t : Bool). if t then a else b) (eq-eqb (header_word site.shape n) (header_word site.shape n) refl)

      side_link : heads h l a b (link_word site.shape n) ≡ b
      side_link = ap (λ (t : Bool). if t then h else if link_word site.shape n == link_word site.shape s then l else if link_word site.shape n == header_word site.shape n then a else b)
          (ne_eqb (link_word site.shape n) (header_word site.shape s) (other 2 1 (omega arith) (omega arith)))
          ∙ ap (λ (t : Bool). if t then l else if link_word site.shape n == header_word site.shape n then a else b) (ne_eqb (link_word site.shape n) (link_word site.shape s) (other 2 2 (omega arith) (omega arith)))
          ∙ ap (λ (t : Bool). if t then a else b) (ne_eqb (link_word site.shape n) (header_word site.shape n) (number_apart site.shape n 2 1 (λ e. omega (arith, e))))

      knows_own : s < site.shape.segments → KnowsWord v (header_word site.shape s) h → KnowsWord v (link_word site.shape s) l → KnowsHead site.shape v s (heads h l a b)
      knows_own slot header link = record {
        slot = slot;
        header = subst (λ (z : ℕ). KnowsWord v (header_word site.shape s) z) (sym own_header) header;
        link = subst (λ (z : ℕ). KnowsWord v (link_word site.shape s) z) (sym own_link) link;
      }

      knows_side : n < site.shape.segments → KnowsWord v (header_word site.shape n) a → KnowsWord v (link_word site.shape n) b → KnowsHead site.shape v n (heads h l a b)
      knows_side slot header link = record {
        slot = slot;
        header = subst (λ (z : ℕ). KnowsWord v (header_word site.shape n) z) (sym side_header) header;
        link = subst (λ (z : ℕ). KnowsWord v (link_word site.shape n) z) (sym side_link) link;
      }

    -- the segment is marked
    pub may_mark : IsSplitting site here call c locks (Mark false) v → MayAt site (moves (marks n) s (split_head e)) v
    may_mark is =
        let whole : Has (Whole s) v.areas = subst (λ (l : List Area). Has (Whole s) l) (sym is.areas) (inl refl) in
        let has : Has (Free n) v.areas = subst (λ (l : List Area). Has (Free n) l) (sym is.areas) (inr (inl refl)) in
        let apart = is.slot.apart in
        let word : Words = heads e.head (suc n) 0 0 in
        let header = own_header apart e.head (suc n) 0 0 in
        (may_begin site v ground).marks s n (split_head e) word (holder is.keeps whole) whole has
        (knows_own apart e.head (suc n) 0 0 is.keeps.is.located.within (firm_all is.loose (header_word site.shape s) e.head is.header) (firm_all is.loose (link_word site.shape s) (suc n) is.link))
        (ap state_in header ∙ head_normal is.keeps) (own_link apart e.head (suc n) 0 0)
        (subst (λ (z : ℕ). IsHeader (split_head e) splitting (depth_in z) (pattern_in z) (version_in z)) (sym header) (split_is is.keeps))

    -- the side is new
    pub may_new : IsSplitting site here call c locks (New false) v → MayAt site (moves (news s) n (side_head e)) v
    may_new is =
        let whole : Has (Whole s) v.areas = subst (λ (l : List Area). Has (Whole s) l) (sym is.areas) (inl refl) in
        let has : Has (Free n) v.areas = subst (λ (l : List Area). Has (Free n) l) (sym is.areas) (inr (inl refl)) in
        let apart = is.slot.apart in
        let h : ℕ = is.side_header.0 in
        let word : Words = heads (split_head e) (suc n) h 0 in
        let header = own_header apart (split_head e) (suc n) h 0 in
        let w : IsEmptying site here call c locks segment_words v = is.side_words in
        let si = split_is is.keeps in
        let link : Has (link_word site.shape n, 0) v.known = subst (λ (x : ℕ). Has (link_word site.shape n, x) v.known) (other_value locks 2 (inl (omega arith))) (w.below 2 (inl refl) (omega arith)) in
        (may_begin site v ground).news s n (side_head e) word (holder is.keeps whole) whole has
        (knows_own apart (split_head e) (suc n) h 0 is.keeps.is.located.within (firm_all is.loose (header_word site.shape s) (split_head e) is.header) (firm_all is.loose (link_word site.shape s) (suc n) is.link))
        (knows_side apart (split_head e) (suc n) h 0 is.slot.slot (firm_all is.loose (header_word site.shape n) h is.side_header.1) (firm_all is.loose (link_word site.shape n) 0 link))
        (ap state_in header ∙ si.state_is) (own_link apart (split_head e) (suc n) h 0)
        (ap state_in (side_header apart (split_head e) (suc n) h 0) ∙ is.side_header.2) (side_link apart (split_head e) (suc n) h 0)
        (subst (λ (d : ℕ). d < site.shape.depth) (sym (ap depth_in header ∙ si.depth_is)) is.keeps.whole.shallow)
        (subst (λ (d : ℕ). IsHeader (side_head e) fresh (suc d) (2 * pattern_in (word (header_word site.shape s)) + 1) (version_of site)) (sym (ap depth_in header ∙ si.depth_is))
        (subst (λ (p : ℕ). IsHeader (side_head e) fresh (suc (depth_in e.head)) (2 * p + 1) (version_of site)) (sym (ap pattern_in header ∙ si.pattern_is)) (side_is is.keeps)))
