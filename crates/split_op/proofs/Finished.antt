-- What comes once all of a batch is stored and settled suits the view; behind the last one the side has its copies.
use Rattle.std.proofs.Common.{◌≡◌, ◌≢◌, ℕ, suc, ◌+◌, ◌-◌, ◌*◌, ◌/◌, ◌%◌, ◌<◌, ◌≤◌, ◌⊎◌, Bool, true, false, Option, None, Some, List, slice_index, inl, inr, refl, sym, ap, ◌∙◌, subst, arith}
use Rattle.std.specs.Prelude.{nat_lt, nat_le, ◌==◌, ◌&&◌, not, if◌then◌else◌}
use Rattle.std.proofs.lemmas.Bool.{cases_Bool, lt-ltb, le-ltb, ltb-true, ltb-false, le-leb, leb-true, eq-eqb, ne_eqb, eqb-true, and_parts}
use Rattle.std.proofs.lemmas.Option.{none-some}
use Rattle.op_core.specs.declared.want.Want.{Want}
use Rattle.word_bits.specs.Bits.{bit}
use Rattle.bucket_meta.specs.Bucket.{record_slots, allocated}
use Rattle.image_layout.specs.Places.{Shape, words_of, head_at, bucket_at, buckets, block, segment_words}
use Rattle.bucket_words.specs.Buckets.{IsTaken}
use Rattle.frame_facts.specs.DeadSlots.{IsInSlot}
use Rattle.map_model.specs.declared.call.Call.{Call}
use Rattle.world.specs.declared.site.Site.{Site}
use Rattle.world.specs.Ground.{Ground}
use Rattle.world.specs.Views.{View, Has}
use Rattle.world.specs.Holders.{KnowsWord}
use Rattle.world.specs.areas.Areas.{header_word}
use Rattle.world.specs.areas.Kinds.{is_in_slot}
use Rattle.world.specs.areas.Splitting.{link_word}
use Rattle.rounds.specs.declared.rounds.Rounds.{Rounds}
use Rattle.rounds.specs.Steps.{rounds_wanted}
use Rattle.rounds.specs.Stands.{RoundStands, IsSettled}
use Rattle.rounds.proofs.Events.{events_end}
use Rattle.rounds.proofs.Settling.{settled_firm, rounds_settle}
use Rattle.enclose_op.specs.Whole.{kept_words}
use Rattle.enclose_op.proofs.Places.{in_slot}
use Rattle.split_op.specs.declared.copied.Copied.{Copied}
use Rattle.split_op.specs.declared.batch.Batch.{Batch}
use Rattle.split_op.specs.declared.batch.Batch.TheVariants.{Empty, Link, Mark, New, Copy}
use Rattle.split_op.specs.Copied.{split_head, side_head, copied_words, KeepsCopied}
use Rattle.split_op.specs.Batches.{empty_value, is_copied, due}
use Rattle.split_op.specs.Steps.{finished, put_by}
use Rattle.split_op.specs.Fits.{side_at, IsEmptying, IsCopying, IsSplitting, SuitsStep}
use Rattle.split_op.proofs.Places.{in_slot_at, slot_apart, number_apart, bucket_number, lock_number, bucket_no_head, other_value, lock_value}

-- ---- a word is in a slot
in_slot_true : (shape : Shape) (n i : ℕ) → IsInSlot shape n i → is_in_slot shape n i ≡ true
in_slot_true shape n i inside = ap (λ (b : Bool). b && nat_lt i (head_at shape n + 2144)) (le-leb (head_at shape n) i inside.from) ∙ lt-ltb i (head_at shape n + 2144) inside.to

in_slot_false : (shape : Shape) (n i : ℕ) → (IsInSlot shape n i → ⊥) → is_in_slot shape n i ≡ false
in_slot_false shape n i out = elim (cases_Bool (is_in_slot shape n i)) [
  | inl is ↦ absurd (let both = and_parts (nat_le (head_at shape n) i) (nat_lt i (head_at shape n + 2144)) is in
      out (record { from = leb-true (head_at shape n) i both.0; to = ltb-true i (head_at shape n + 2144) both.1 }))
  | inr is ↦ is
]

module _ (site : Ground) (c : Copied) (g : c.whole.site.geometry ≡ site.shape) (apart : c.side ≢ c.whole.segment) where
  abbrev s : ℕ
  s = c.whole.segment

  abbrev n : ℕ
  n = c.side

  -- ---- the words of both
  -- the same, over the shape of the image
  abbrev side_by : Shape → ℕ → ℕ
  side_by shape i = if i == header_word shape n then side_head c.whole else slice_index c.words (i - bucket_at shape n 0)

  abbrev own_by : Shape → ℕ → ℕ
  own_by shape i = if i == header_word shape s then split_head c.whole else if i == link_word shape s then suc n else kept_words c.whole i

  of_side : (i : ℕ) → IsInSlot site.shape n i → copied_words c i ≡ side_by site.shape i
  of_side i inside =
      ap (λ (shape : Shape). if is_in_slot shape n i then side_by shape i else own_by shape i) g
      ∙ ap (λ (b : Bool). if b then side_by site.shape i else own_by site.shape i) (in_slot_true site.shape n i inside)

  of_own : (i : ℕ) → IsInSlot site.shape s i → copied_words c i ≡ own_by site.shape i
  of_own i inside =
      ap (λ (shape : Shape). if is_in_slot shape n i then side_by shape i else own_by shape i) g
      ∙ ap (λ (b : Bool). if b then side_by site.shape i else own_by site.shape i) (in_slot_false site.shape n i other)
    where
      other : IsInSlot site.shape n i → ⊥
      other there = slot_apart site.shape s n i (i - head_at site.shape n) apart inside (by (head_at site.shape n) i there.from there.to) (is (head_at site.shape n) i there.from)
        where
          by : (f i : ℕ) → f ≤ i → i < f + 2144 → i - f < 2144
          by f i from to = omega (arith, from, to)

          is : (f i : ℕ) → f ≤ i → i ≡ f + (i - f)
          is f i from = omega (arith, from)

  pub own_header : copied_words c (header_word site.shape s) ≡ split_head c.whole
  own_header = of_own (header_word site.shape s) (in_slot_at site.shape s 1 (omega arith))
      ∙ ap (λ (b : Bool). if b then split_head c.whole else if header_word site.shape s == link_word site.shape s then suc n else kept_words c.whole (header_word site.shape s)) (eq-eqb (header_word site.shape s) (header_word site.shape s) refl)

  pub own_link : copied_words c (link_word site.shape s) ≡ suc n
  own_link = of_own (link_word site.shape s) (in_slot_at site.shape s 2 (omega arith))
      ∙ ap (λ (b : Bool). if b then split_head c.whole else if link_word site.shape s == link_word site.shape s then suc n else kept_words c.whole (link_word site.shape s))
      (ne_eqb (link_word site.shape s) (header_word site.shape s) (number_apart site.shape s 2 1 (λ e. omega (arith, e))))
      ∙ ap (λ (b : Bool). if b then suc n else kept_words c.whole (link_word site.shape s)) (eq-eqb (link_word site.shape s) (link_word site.shape s) refl)

  pub own_bucket : (b m : ℕ) → b < buckets → m < block → copied_words c (bucket_at site.shape s b + m) ≡ kept_words c.whole (bucket_at site.shape s b + m)
  own_bucket b m near small =
      let i : ℕ = bucket_at site.shape s b + m in
      of_own i (in_slot site.shape s b m near small)
      ∙ ap (λ (t : Bool). if t then split_head c.whole else if i == link_word site.shape s then suc n else kept_words c.whole i) (ne_eqb i (header_word site.shape s) (bucket_no_head site.shape s b m 1 (omega arith)))
      ∙ ap (λ (t : Bool). if t then suc n else kept_words c.whole i) (ne_eqb i (link_word site.shape s) (bucket_no_head site.shape s b m 2 (omega arith)))

  pub side_header_is : copied_words c (header_word site.shape n) ≡ side_head c.whole
  side_header_is = of_side (header_word site.shape n) (in_slot_at site.shape n 1 (omega arith))
      ∙ ap (λ (b : Bool). if b then side_head c.whole else slice_index c.words (header_word site.shape n - bucket_at site.shape n 0)) (eq-eqb (header_word site.shape n) (header_word site.shape n) refl)

  pub side_bucket : (b m : ℕ) → b < buckets → m < block → copied_words c (bucket_at site.shape n b + m) ≡ slice_index c.words (32 * b + m)
  side_bucket b m near small =
      let i : ℕ = bucket_at site.shape n b + m in
      of_side i (in_slot site.shape n b m near small)
      ∙ ap (λ (t : Bool). if t then side_head c.whole else slice_index c.words (i - bucket_at site.shape n 0)) (ne_eqb i (header_word site.shape n) (bucket_no_head site.shape n b m 1 (omega arith)))
      ∙ ap (slice_index c.words) (by (head_at site.shape n) b m)
    where
      by : (f b m : ℕ) → f + 32 + 32 * b + m - (f + 32 + 32 * 0) ≡ 32 * b + m
      by f b m = omega arith

-- ---- which words are copied
copied_meta : (words : List ℕ) (b m : ℕ) → 1 ≤ m → m ≤ 3 → (is_copied words (32 + 32 * b + m) ≡ true) ⊎ ((is_copied words (32 + 32 * b + m) ≡ false) × (slice_index words (32 * b + m) ≡ 0))
copied_meta words b m from to =
    let p : ℕ = 32 + 32 * b + m in
    let word : ℕ = slice_index words (p - 32) in
    let mark : ℕ = slice_index words (p - p % 32 - 31) in
    let is : is_copied words p ≡ not (word == 0) =
    ap (λ (t : Bool). if t then false else if nat_lt (p % 32) 4 then not (word == 0) else bit ((p % 32 - 4) / 2) mark == 1) (ne_eqb (p % 32) 0 (λ e. omega (arith, e, from, to)))
    ∙ ap (λ (t : Bool). if t then not (word == 0) else bit ((p % 32 - 4) / 2) mark == 1) (lt-ltb (p % 32) 4 (omega (arith, to))) in
    elim (cases_Bool (word == 0)) [
      | inl none ↦ inr (is ∙ ap not none, ap (slice_index words) (let same : 32 * b + m ≡ p - 32 = omega arith in same) ∙ eqb-true word 0 none)
      | inr some ↦ inl (is ∙ ap not some)
    ]

copied_slot : (words : List ℕ) (b r q : ℕ) → r < 14 → (q ≡ 4 + 2 * r) ⊎ (q ≡ 5 + 2 * r) → allocated r (slice_index words (32 * b + 1)) ≡ 1 → is_copied words (32 + 32 * b + q) ≡ true
copied_slot words b r q small which taken =
    let p : ℕ = 32 + 32 * b + q in
    let word : ℕ = slice_index words (p - 32) in
    let mark : ℕ = slice_index words (p - p % 32 - 31) in
    let at : (32 * b + 1 ≡ p - p % 32 - 31) × (r ≡ (p % 32 - 4) / 2) × (4 ≤ p % 32) = elim which [
      | inl even ↦ (omega (arith, even, small), omega (arith, even, small), omega (arith, even, small))
      | inr odd ↦ (omega (arith, odd, small), omega (arith, odd, small), omega (arith, odd, small))
    ] in
    let four = at.2 in
    ap (λ (t : Bool). if t then false else if nat_lt (p % 32) 4 then not (word == 0) else bit ((p % 32 - 4) / 2) mark == 1) (ne_eqb (p % 32) 0 (λ e. omega (arith, e, four)))
    ∙ ap (λ (t : Bool). if t then not (word == 0) else bit ((p % 32 - 4) / 2) mark == 1) (le-ltb (p % 32) 4 four)
    ∙ eq-eqb (bit ((p % 32 - 4) / 2) mark) 1 (ap (λ (z : ℕ). bit z mark) (sym at.1) ∙ ap (λ (z : ℕ). bit r (slice_index words z)) (sym at.0) ∙ taken)

module _ (site : Ground) (here : Site) (call : Call) (c : Copied) (locks : List ℕ) (u : View) where
  knows : IsSettled u → (i x : ℕ) → Has (i, x) u.known → KnowsWord u i x
  knows e i x has = record { known = has; firm = λ y l. settled_firm u e (i, y) l }

  -- ---- THE COPIES ARE THERE
  module _ (k : ℕ) (past : segment_words ≤ k) (is : IsSplitting site here call c locks (Copy k) u) (e : IsSettled u) where
    abbrev g : c.whole.site.geometry ≡ site.shape
    g = is.keeps.is.located.shape

    abbrev apart : c.side ≢ c.whole.segment
    apart = is.slot.apart

    abbrev w : IsCopying site here call c locks k u
    w = is.side_words

    -- a word of a bucket of the side is known, where it was copied, or is 0
    side_word : (b m x : ℕ) → b < buckets → m < block → slice_index c.words (32 * b + m) ≡ x → is_copied c.words (32 + 32 * b + m) ≡ true → KnowsWord u (bucket_at site.shape c.side b + m) x
    side_word b m x near small value yes_it =
        let p : ℕ = 32 + 32 * b + m in
        subst (λ (i : ℕ). KnowsWord u i x) (sym (bucket_number site.shape c.side b m))
        (subst (λ (z : ℕ). KnowsWord u (side_at site here call c p) z) (ap (slice_index c.words) (let same : p - 32 ≡ 32 * b + m = omega arith in same) ∙ value)
        (knows e (side_at site here call c p) (slice_index c.words (p - 32)) (w.below p (omega arith) (omega (arith, near, small)) (omega (arith, near, small, past)) yes_it)))

    meta_word : (b m : ℕ) → b < buckets → 1 ≤ m → m ≤ 3 → KnowsWord u (bucket_at site.shape c.side b + m) (copied_words c (bucket_at site.shape c.side b + m))
    meta_word b m near from to =
        let p : ℕ = 32 + 32 * b + m in
        subst (λ (z : ℕ). KnowsWord u (bucket_at site.shape c.side b + m) z) (sym (side_bucket site c g apart b m near (omega (arith, to))))
        (elim (copied_meta c.words b m from to) [
          | inl yes_it ↦ side_word b m (slice_index c.words (32 * b + m)) near (omega (arith, to)) refl yes_it
          | inr none ↦ subst (λ (i : ℕ). KnowsWord u i (slice_index c.words (32 * b + m))) (sym (bucket_number site.shape c.side b m))
              (subst (λ (z : ℕ). KnowsWord u (side_at site here call c p) z) (other_value locks p (inr (omega (arith, from, to))) ∙ sym none.1)
              (knows e (side_at site here call c p) (empty_value locks p) (w.rest p (omega arith) (omega (arith, near, to)) (omega (arith, to)) (λ _. none.0))))
        ])

    record_word : (b r q : ℕ) → b < buckets → r < record_slots → (q ≡ 4 + 2 * r) ⊎ (q ≡ 5 + 2 * r) → IsTaken (copied_words c) (bucket_at site.shape c.side b) r
        → KnowsWord u (bucket_at site.shape c.side b + q) (copied_words c (bucket_at site.shape c.side b + q))
    record_word b r q near small which taken =
        let low : q < block = elim which [ inl even ↦ omega (arith, even, small) | inr odd ↦ omega (arith, odd, small) ] in
        subst (λ (z : ℕ). KnowsWord u (bucket_at site.shape c.side b + q) z) (sym (side_bucket site c g apart b q near low))
        (side_word b q (slice_index c.words (32 * b + q)) near low refl
        (copied_slot c.words b r q small which (ap (allocated r) (sym (side_bucket site c g apart b 1 near (omega arith))) ∙ taken)))

    joined : (f a r : ℕ) → f + a + 2 * r ≡ f + (a + 2 * r)
    joined f a r = omega arith

    at_number : (b a r : ℕ) → KnowsWord u (bucket_at site.shape c.side b + (a + 2 * r)) (copied_words c (bucket_at site.shape c.side b + (a + 2 * r)))
        → KnowsWord u (bucket_at site.shape c.side b + a + 2 * r) (copied_words c (bucket_at site.shape c.side b + a + 2 * r))
    at_number b a r known = subst (λ (i : ℕ). KnowsWord u i (copied_words c i)) (sym (joined (bucket_at site.shape c.side b) a r)) known

    free_lock : (b : ℕ) → b < buckets → (x : ℕ) × Has (bucket_at site.shape c.side b, x) u.known × (x % 2 ≡ 0)
    free_lock b near =
        let p : ℕ = 32 + 32 * b in (
          empty_value locks p,
          subst (λ (i : ℕ). Has (i, empty_value locks p) u.known) (sym (lock_number site.shape c.side b))
              (w.rest p (omega arith) (omega (arith, near)) (omega arith)
              (λ _. ap (λ (t : Bool). if t then false else if nat_lt (p % 32) 4 then not (slice_index c.words (p - 32) == 0) else bit ((p % 32 - 4) / 2) (slice_index c.words (p - p % 32 - 31)) == 1) (eq-eqb (p % 32) 0 (omega arith)))),
          (let is_even = lock_value locks b in omega (arith, is_even)),
        )

    pub all_copied : KeepsCopied site here call c u
    all_copied = record {
      is = is.keeps.is;
      whole = is.keeps.whole;
      copy = is.keeps.words.copy c.side is.slot.slot apart;
      there = is.keeps.there;
      areas = is.areas;
      locks = is.keeps.locks;
      head = record {
        slot = is.keeps.is.located.within;
        header = subst (λ (z : ℕ). KnowsWord u (header_word site.shape c.whole.segment) z) (sym (own_header site c g apart)) (knows e (header_word site.shape c.whole.segment) (split_head c.whole) is.header);
        link = subst (λ (z : ℕ). KnowsWord u (link_word site.shape c.whole.segment) z) (sym (own_link site c g apart)) (knows e (link_word site.shape c.whole.segment) (suc c.side) is.link);
      };
      side_header = subst (λ (z : ℕ). KnowsWord u (header_word site.shape c.side) z) (sym (side_header_is site c g apart)) (knows e (header_word site.shape c.side) (side_head c.whole) is.side_header);
      buckets_are = λ b m near from small. subst (λ (z : ℕ). KnowsWord u (bucket_at site.shape c.whole.segment b + m) z) (sym (own_bucket site c g apart b m near small))
          (knows e (bucket_at site.shape c.whole.segment b + m) (kept_words c.whole (bucket_at site.shape c.whole.segment b + m)) (is.keeps.buckets_are b m near from small));
      side_buckets = record {
        meta = meta_word;
        key = λ b r near small taken. at_number b 4 r (record_word b r (4 + 2 * r) near small (inl refl) taken);
        value = λ b r near small taken. at_number b 5 r (record_word b r (5 + 2 * r) near small (inr refl) taken);
      };
      free = free_lock;
      known = is.only;
      quiet = record { dirty = e.dirty; flushed = e.flushed; planned = is.keeps.planned; moving = is.keeps.moving; owed = is.keeps.owed };
    }

  -- ---- WHAT COMES THEN
  module _ (rounds : Rounds) (stands : RoundStands rounds u) (lines : (line : ℕ) → Has line rounds.round → 8 * line + 8 ≤ words_of site.shape) where
    past_by : {X : Type 0} (k : ℕ) (x : X) (b : Bool) → nat_lt k segment_words ≡ b → (if b then Some x else None) ≡ None → segment_words ≤ k
    past_by k x true is none = absurd (none-some _ (sym none))
    past_by k x false is none = ltb-false k segment_words is

    pub finished_suits : (batch : Batch) → IsSplitting site here call c locks batch u → rounds_wanted rounds (due c locks batch) ≡ None → SuitsStep site here call c locks (finished batch) u
    finished_suits (Empty k) is none =
        let e = rounds_settle.ends rounds (due c locks (Empty k)) u stands none in
        let past = past_by k _ (nat_lt k segment_words) refl (events_end rounds (due c locks (Empty k)) none).1 in
        let w : IsEmptying site here call c locks k u = is.side_words in
        record {
          splits = record {
            keeps = is.keeps;
            slot = is.slot;
            areas = is.areas;
            header = is.header;
            link = tt;
            side_header = is.side_header;
            side_words = record {
              next = inr (omega arith);
              below = λ p of_slot small. w.below p of_slot (omega (arith, small, past));
              above = λ b near high. absurd (omega (arith, near, high));
            };
            loose = λ p l. settled_firm u e p l;
            only = is.only;
          };
          stands = rounds_settle.begins u e;
          lines = λ l has. absurd has;
          asks = λ none. none-some _ (sym none);
        }
    finished_suits (Link false) is none = absurd (none-some _ (sym (events_end rounds (due c locks (Link false)) none).1))
    finished_suits (Link true) is none =
        let e = rounds_settle.ends rounds None u stands none in
        record {
          splits = record { keeps = is.keeps; slot = is.slot; areas = is.areas; header = is.header; link = is.link; side_header = is.side_header; side_words = is.side_words; loose = λ p l. settled_firm u e p l; only = is.only };
          stands = rounds_settle.begins u e;
          lines = λ l has. absurd has;
          asks = λ none. none-some _ (sym none);
        }
    finished_suits (Mark false) is none = absurd (none-some _ (sym (events_end rounds (due c locks (Mark false)) none).1))
    finished_suits (Mark true) is none =
        let e = rounds_settle.ends rounds None u stands none in
        record {
          splits = record { keeps = is.keeps; slot = is.slot; areas = is.areas; header = is.header; link = is.link; side_header = is.side_header; side_words = is.side_words; loose = λ p l. settled_firm u e p l; only = is.only };
          stands = rounds_settle.begins u e;
          lines = λ l has. absurd has;
          asks = λ none. none-some _ (sym none);
        }
    finished_suits (New false) is none = absurd (none-some _ (sym (events_end rounds (due c locks (New false)) none).1))
    finished_suits (New true) is none = (is, rounds_settle.ends rounds None u stands none)
    finished_suits (Copy k) is none =
        all_copied k (past_by k _ (nat_lt k segment_words) refl (events_end rounds (due c locks (Copy k)) none).1) is (rounds_settle.ends rounds (due c locks (Copy k)) u stands none)

    by_suits : (batch : Batch) → IsSplitting site here call c locks batch u → (want : Option Want) → rounds_wanted rounds (due c locks batch) ≡ want → SuitsStep site here call c locks (put_by want batch rounds) u
    by_suits batch is (Some w) e = record { splits = is; stands = stands; lines = lines; asks = λ none. none-some _ (sym none ∙ e) }
    by_suits batch is None e = finished_suits batch is e

    pub to_suits : (batch : Batch) → IsSplitting site here call c locks batch u → SuitsStep site here call c locks (put_by (rounds_wanted rounds (due c locks batch)) batch rounds) u
    to_suits batch is = by_suits batch is (rounds_wanted rounds (due c locks batch)) refl
