-- Each kind of step at the structure is mild.
use Rattle.std.proofs.Common.{◌≡◌, ◌⊎◌, ℕ, ◌+◌, ◌*◌, ◌<◌, ◌≤◌, Bool, true, false, cond, eqb, List, Option, inl, inr, refl, sym, ap, ◌∙◌, subst, arith}
use Rattle.std.proofs.lemmas.Bool.{cases_eq, ne_eqb}
use Rattle.std.specs.Option.{unwrap_or}
use Rattle.std.specs.Prelude.{not}
use Rattle.hash_word.specs.Hash.{top}
use Rattle.trace.specs.Events.{Words, with_word, after}
use Rattle.trace.specs.Events.Event.{loaded, exchanged}
use Rattle.trace.proofs.Replaced.{replaced_same, replaced_other}
use Rattle.segment_head.specs.HeadWord.{version_in, state_in, depth_in, pattern_in, free, HasLiveState}
use Rattle.image_layout.specs.Places.{Shape, first_segment, block, words_of, head_at, bucket_at, buckets}
use Rattle.sound_image.specs.Segments.{frame_of}
use Rattle.frame_facts.proofs.frames.Owner.{same_owner}
use Rattle.frame_facts.proofs.StoreLaws.{goes_live as side_goes_live}
use Rattle.frame_facts.specs.Core.{core_of}
use Rattle.frame_facts.specs.Owners.{owner_of}
use Rattle.frame_facts.proofs.segments.Cores.{within_image}
use Rattle.frame_facts.proofs.segments.Places.{not_structure}
use Rattle.frame_facts.specs.DeadSlots.{IsInSlot}
use Rattle.frame_facts.proofs.Owners.{owner_moves}
use Rattle.frame_facts.specs.Facts.{Fact}
use Rattle.world.specs.Ground.{Ground, IsUnder, IsLockWord, version_of, IsCurrentIn}
use Rattle.world.specs.Views.{View, Has, At}
use Rattle.world.specs.areas.Areas.{Area, Segment, Stale, Side, Free, Whole, Allocation, Directory, header_word, InArea, is_side_at, is_whole_at}
use Rattle.world.specs.areas.Fitting.{HasGrounds}
use Rattle.world.specs.areas.Rows.{Row, marks, news, goes_live, finishes, unmarks, frees, renews, IsRow, HasForRow}
use Rattle.world.specs.areas.Kinds.{Guard, of_segment, of_free_slots, of_directory, guard_word, goes_with, StructureKind, takes, takes_for_side, gives, finds_stale, closes, finds_free, finds_link, finds_side, finds_entry, finds_begin, reads, sets, moves, settles, settles_side, opens, with_guard, with_area, with_slot, is_new_side, is_ready_side, told_by_side, with_facts, view_then, with_guard_for}
use Rattle.world.specs.areas.Asking.{MayBeNewest, MayStandBeside, IsInOrder, AsksForRow, MaySet, HasOpened, MayAt}
use Rattle.world.specs.Invariant.{Holds}
use Rattle.world.specs.areas.Keeping.{found_at, words_then}
use Rattle.world.proofs.basics.Structures.{header_is, lock_no_head}
use Rattle.world.proofs.basics.Tables.{same_find, lock_cores}
use Rattle.world.proofs.holding.Beside.{newest}
use Rattle.world.proofs.fitting.OneHolder.{one_slot}
use Rattle.world.proofs.fitting.lasting.Lasting.{live_back}
use Rattle.world.proofs.fitting.lasting.Owning.{row_owner, spared_owner}
use Rattle.world.proofs.fitting.Rows.{but_after, row_after, row_slot, head_near, one_head}
use Rattle.world.proofs.mild.Mild.{SameBuckets, IsSafe, IsMild, order_stays}

-- the words of guards stand behind the image
pub guard_behind : (shape : Shape) (guard : Guard) → words_of shape + 2 ≤ guard_word shape guard
guard_behind shape (of_segment s) = omega arith
guard_behind shape of_free_slots = omega arith
guard_behind shape of_directory = omega arith

module _ (shape : Shape) (t c n : ℕ) (near : c < buckets) (inside : n < block) where
  in_slot : IsInSlot shape t (bucket_at shape t c + n)
  in_slot = record { from = omega arith; to = omega (arith, near, inside) }

  pub no_head_word : (s : ℕ) → bucket_at shape t c + n ≡ head_at shape s + 1 → ⊥
  no_head_word s e = by (first_segment shape) t c n s near inside e
    where
      by : (f t c n s : ℕ) → c < 66 → n < 32 → f + 2144 * t + 32 + 32 * c + n ≡ f + 2144 * s + 1 → ⊥
      by f t c n s near inside e = omega (arith, near, inside, e)

  no_link : (s : ℕ) → bucket_at shape t c + n ≡ head_at shape s + 2 → ⊥
  no_link s e = by (first_segment shape) t c n s near inside e
    where
      by : (f t c n s : ℕ) → c < 66 → n < 32 → f + 2144 * t + 32 + 32 * c + n ≡ f + 2144 * s + 2 → ⊥
      by f t c n s near inside e = omega (arith, near, inside, e)

  no_front : bucket_at shape t c + n < first_segment shape → ⊥
  no_front low = omega (arith, low)

  -- it is no lock word where it stands behind one
  no_lock : (s b : ℕ) → 1 ≤ n → b < buckets → bucket_at shape t c + n ≡ bucket_at shape s b → ⊥
  no_lock s b above lb e = by (first_segment shape) t c n s b near above inside lb e
    where
      by : (f t c n s b : ℕ) → c < 66 → 1 ≤ n → n < 32 → b < 66 → f + 2144 * t + 32 + 32 * c + n ≡ f + 2144 * s + 32 + 32 * b → ⊥
      by f t c n s b near above inside lb e = omega (arith, near, above, inside, lb, e)

  -- what lies under a lock is of its segment
  of_lock : (s b : ℕ) → b < buckets → IsUnder (bucket_at shape s b) (bucket_at shape t c + n) → s ≡ t
  of_lock s b lb u = by (first_segment shape) t c n s b near inside lb u.0 u.1
    where
      by : (f t c n s b : ℕ) → c < 66 → n < 32 → b < 66 → f + 2144 * s + 32 + 32 * b < f + 2144 * t + 32 + 32 * c + n
          → f + 2144 * t + 32 + 32 * c + n < f + 2144 * s + 32 + 32 * b + 32 → s ≡ t
      by f t c n s b near inside lb u0 u1 = omega (arith, near, inside, lb, u0, u1)

-- headers stay
module _ (site : Ground) (words us : Words) (heads : (s : ℕ) → s < site.shape.segments → us (header_word site.shape s) ≡ words (header_word site.shape s)) where
  pub owners_stay : (h : ℕ) → owner_of site.shape us h ≡ owner_of site.shape words h
  owners_stay h = same_owner (frame_of site.shape words) (frame_of site.shape us) h refl heads

  pub was_current : (t : ℕ) → IsCurrentIn site us t → IsCurrentIn site words t
  was_current t c = record { live = live_back site.shape words us heads t c.live; current = ap version_in (sym (heads t c.live.slot)) ∙ c.current }

module _ (site : Ground) (words : Words) (views : List View) (j : ℕ) (v : View) (h : Holds site words views) (at : At views j v) where
  -- no word of the image changes, and no whole segment is opened
  pub behind : (us : Words) (w : View) → ((i : ℕ) → i < words_of site.shape → us i ≡ words i) → (w.planned ≡ v.planned) × (w.moving ≡ v.moving) × (w.owed ≡ v.owed) × (w.held ≡ v.held)
      → ((t : ℕ) → Has (Whole t) v.areas → Has (Whole t) w.areas) → IsMild site words us v w
  behind us w same lists wholes = record {
    stays = λ t _. stays t;
    owners = λ hash _. owners_stay site words us heads hash;
    watched = λ t current none. inr (was_current site words us heads t current, λ whole. none (wholes t whole));
    pairs = λ k. same_find site us words k (λ i within. ap (core_of site.shape i) (same i within));
    planned = lists.0;
    moving = lists.1;
    owed = lists.2;
    plans = inr (stays, owners_stay site words us heads, lists.3);
    moves = inr lists.3;
    owes = inr (stays, lists.3);
  }
    where
      heads : (s : ℕ) → s < site.shape.segments → us (header_word site.shape s) ≡ words (header_word site.shape s)
      heads s slot = same (header_word site.shape s) (head_near site s slot)

      stays : (t : ℕ) → SameBuckets site.shape words us t
      stays t slot c n near above inside = same (bucket_at site.shape t c + n) (within_image site.shape t c n slot near inside)

  guarded : (guard : Guard) (x i : ℕ) → i < words_of site.shape → with_word words (guard_word site.shape guard) x i ≡ words i
  guarded guard x i within = replaced_other words (guard_word site.shape guard) x i (λ e. omega (arith, guard_behind site.shape guard, within, e))

  taken : (guard : Guard) (caller : ℕ) (t : Bool)
      → IsMild site words (after (cond t (exchanged j (guard_word site.shape guard) caller) (loaded j (guard_word site.shape guard))) words) v (with_guard t guard v)
  taken guard caller true = behind _ (with_guard true guard v) (guarded guard caller) (refl, refl, refl, refl) (λ t whole. inr whole)
  taken guard caller false = behind words v (λ i _. refl) (refl, refl, refl, refl) (λ t whole. whole)

  taken_for : (n caller : ℕ) (t : Bool)
      → IsMild site words (after (cond t (exchanged j (guard_word site.shape of_free_slots) caller) (loaded j (guard_word site.shape of_free_slots))) words) v (with_guard_for site.shape t n v)
  taken_for n caller true = taken of_free_slots caller true
  taken_for n caller false = behind words (with_guard_for site.shape false n v) (λ i _. refl) (refl, refl, refl, refl) (λ t whole. but_after (is_side_at n) v.areas (Whole t) whole refl)

  found : (area : Area) (i x : ℕ) (t : Bool) → IsMild site words words v (with_area t area i x v)
  found area i x true = behind words (with_area true area i x v) (λ n _. refl) (refl, refl, refl, refl) (λ t whole. inr whole)
  found area i x false = behind words v (λ n _. refl) (refl, refl, refl, refl) (λ t whole. whole)

  told : (facts : List Fact) (area : Area) (i x : ℕ) (t : Bool) → IsMild site words words v (with_facts facts (with_area t area i x v))
  told facts area i x true = behind words (with_facts facts (with_area true area i x v)) (λ n _. refl) (refl, refl, refl, refl) (λ t whole. inr whole)
  told facts area i x false = behind words (with_facts facts v) (λ n _. refl) (refl, refl, refl, refl) (λ t whole. whole)

  found_slot : (n i x : ℕ) (t : Bool) → IsMild site words words v (with_slot t n i x v)
  found_slot n i x true = found (Free n) i x true
  found_slot n i x false = behind words (with_slot false n i x v) (λ k _. refl) (refl, refl, refl, refl) (λ t whole. whole)

  -- a guard is given back once its segment is whole no more
  wholes_stay : (guard : Guard) → HasOpened site.shape v guard → (t : ℕ) → Has (Whole t) v.areas → goes_with guard (Whole t) ≡ false
  wholes_stay (of_segment s) opened t whole = elim (cases_eq t s) [
    | inl e ↦ absurd (opened.1 (subst (λ (z : ℕ). Has (Whole z) v.areas) e whole))
    | inr n ↦ ne_eqb t s n
  ]
  wholes_stay of_free_slots opened t whole = refl
  wholes_stay of_directory opened t whole = refl

  given : (guard : Guard) → HasOpened site.shape v guard → IsMild site words (with_word words (guard_word site.shape guard) 0) v (view_then site.shape (gives guard) (words (guard_word site.shape guard)) v)
  given guard opened = behind _ _ (guarded guard 0) (refl, refl, refl, refl) (λ t whole. but_after (goes_with guard) v.areas (Whole t) whole (wholes_stay guard opened t whole))

  module _ (now : MayBeNewest site v words) (itself : MayStandBeside site v words words) where
    -- ---- a store to a held word
    module _ (i x : ℕ) (may : MaySet site v i x) where
      pub in_area : (t c n : ℕ) → IsCurrentIn site words t → c < buckets → n < block → i ≡ bucket_at site.shape t c + n → (a : Area) → Has a v.areas → InArea site.shape a i → ⊥
      in_area t c n is_current near inside e (Segment s) has w = elim w [
        | inl q ↦ no_head_word site.shape t c n near inside s (sym e ∙ q)
        | inr q ↦ no_link site.shape t c n near inside s (sym e ∙ q)
      ]
      in_area t c n is_current near inside e (Stale s) has w =
          let same = one_slot site.shape s t i w (subst (λ (z : ℕ). IsInSlot site.shape t z) (sym e) (in_slot site.shape t c n near inside)) in
          (h.structure.fits.stale j v s at has).1 (subst (λ (z : ℕ). version_in (words (header_word site.shape z)) ≡ version_of site) (sym same) is_current.current)
      in_area t c n is_current near inside e (Side s) has w =
          let same = one_slot site.shape s t i w (subst (λ (z : ℕ). IsInSlot site.shape t z) (sym e) (in_slot site.shape t c n near inside)) in
          let dead = may.under_dead s has w in
          dead.2 (subst HasLiveState (now.knows (header_word site.shape s) dead.0 dead.1)
          (subst (λ (z : ℕ). HasLiveState (words (header_word site.shape z))) (sym same) is_current.live.live))
      in_area t c n is_current near inside e (Free s) has w =
          let same = one_slot site.shape s t i w (subst (λ (z : ℕ). IsInSlot site.shape t z) (sym e) (in_slot site.shape t c n near inside)) in
          let was = (h.structure.fits.free_slot j v s at has).2 in
          let live = subst (λ (z : ℕ). HasLiveState (words (header_word site.shape z))) (sym same) is_current.live.live in
          elim live [ inl a ↦ omega (arith, a, was) | inr a ↦ omega (arith, a, was) ]
      in_area t c n is_current near inside e (Whole s) has w = w
      in_area t c n is_current near inside e Allocation has w = w
      in_area t c n is_current near inside e Directory has w = no_front site.shape t c n near inside (elim w [ inl q ↦ omega (arith, q, e) | inr q ↦ omega (arith, q.1, e) ])

      -- it lies in no bucket of a safe segment
      pub set_apart : (t c n : ℕ) → IsSafe site words v t → c < buckets → n < block → i ≡ bucket_at site.shape t c + n → ⊥
      set_apart t c n safe near inside e = elim may.holds [
        | inl g ↦ (let q = may.under_whole g.0 g.1 g.2 in
            let u = subst (λ (z : ℕ). IsUnder z (bucket_at site.shape t c + n)) q.3 (subst (λ (z : ℕ). IsUnder g.0 z) e g.2) in
            safe.1 (subst (λ (z : ℕ). Has (Whole z) v.areas) (of_lock site.shape t c n near inside q.0 q.1 q.2 u) q.4))
        | inr q ↦ in_area t c n safe.0 near inside e q.0 q.1 q.2
      ]

      pub set_heads : (s : ℕ) → s < site.shape.segments → with_word words i x (header_word site.shape s) ≡ words (header_word site.shape s)
      set_heads s slot = replaced_other words i x (header_word site.shape s) (λ e. may.no_header s slot (sym e))

      set : IsMild site words (with_word words i x) v (view_then site.shape (sets i x) (words i) v)
      set = record {
        stays = λ t safe slot c n near above inside. replaced_other words i x (bucket_at site.shape t c + n) (λ e. set_apart t c n safe near inside (sym e));
        owners = λ hash _. owners_stay site words (with_word words i x) set_heads hash;
        watched = λ t current none. inr (was_current site words (with_word words i x) set_heads t current, none);
        pairs = (may.harmless words words now itself).table.pairs;
        planned = refl;
        moving = refl;
        owed = refl;
        plans = inl may.planned;
        moves = inr refl;
        owes = inl may.owed;
      }

    -- ---- a row
    module _ (row : Row) (s x : ℕ) (may : MayAt site (moves row s x) v) where
      abbrev us : Words
      us = with_word words (header_word site.shape s) x

      pub is : IsRow site words row s x
      is = (may.0 words now).0

      pub has : HasForRow site words row s v.areas
      has = (may.0 words now).1

      pub slot : s < site.shape.segments
      slot = row_slot site words s x row is

      grounds : HasGrounds site words views
      grounds = record { site_is = h.site_is; sound = (h.structure.sound words (newest site words views)).sound; alone = h.locks.alone }

      row_stays : (t : ℕ) → SameBuckets site.shape words us t
      row_stays t _ c n near above inside = replaced_other words (header_word site.shape s) x (bucket_at site.shape t c + n)
          (λ e. not_structure site.shape t c n (header_word site.shape s) near inside (sym e) (header_is site.shape s slot))

      row_owners : (r : Row) → IsRow site words r s x → HasForRow site words r s v.areas → (hash : ℕ) → IsSafe site words v (unwrap_or (owner_of site.shape words hash) 0)
          → owner_of site.shape us hash ≡ owner_of site.shape words hash
      row_owners (marks n) q k hash safe = row_owner site words views words grounds grounds.sound s x (marks n) tt q hash
      row_owners (news p) q k hash safe = row_owner site words views words grounds grounds.sound s x (news p) tt q hash
      row_owners (goes_live p) q k hash safe = elim (cases_eq (top (depth_in x) hash) (pattern_in x)) [
        | inr off ↦ spared_owner site words views words grounds grounds.sound s x p q hash off
        | inl on ↦ (let own = (owner_moves site.shape.depth grounds.site_is.shape.depth (frame_of site.shape words) (frame_of site.shape us) grounds.sound p s q.0.slot (inr q.0.splits)
            (side_goes_live site.shape words grounds.site_is.shape grounds.sound p s x q.0) hash (ap (λ d. top d hash) (sym q.0.depth) ∙ on ∙ q.0.pattern)).0 in
            absurd (safe.1 (subst (λ (o : Option ℕ). Has (Whole (unwrap_or o 0)) v.areas) (sym own) k.1)))
      ]
      row_owners finishes q k hash safe = row_owner site words views words grounds grounds.sound s x finishes tt q hash
      row_owners unmarks q k hash safe = row_owner site words views words grounds grounds.sound s x unmarks tt q hash
      row_owners (frees p) q k hash safe = row_owner site words views words grounds grounds.sound s x (frees p) tt q hash
      row_owners renews q k hash safe = row_owner site words views words grounds grounds.sound s x renews tt q hash

      -- the header's own segment, where it is current after
      current_by : HasLiveState (words (header_word site.shape s)) → version_in x ≡ version_in (words (header_word site.shape s)) → version_in x ≡ version_of site → IsCurrentIn site words s
      current_by live same e = record { live = record { slot = slot; live = live }; current = sym same ∙ e }

      here : (r : Row) → IsRow site words r s x → AsksForRow site r s x v → HasLiveState x → version_in x ≡ version_of site → IsInOrder site us s ⊎ IsCurrentIn site words s
      here (marks n) q asks live e = inr (current_by (inl q.0.was) q.2 e)
      here (news p) q asks live e = absurd (elim live [ inl a ↦ omega (arith, a, q.0.becomes) | inr a ↦ omega (arith, a, q.0.becomes) ])
      here (goes_live p) q asks live e = inl (asks.1 words now)
      here finishes q asks live e = inr (current_by (inr q.0.was) q.1 e)
      here unmarks q asks live e = inr (current_by (inr q.0.was) q.1 e)
      here (frees p) q asks live e = absurd (elim live [ inl a ↦ omega (arith, a, q.0.becomes) | inr a ↦ omega (arith, a, q.0.becomes) ])
      here renews q asks live e = inl (asks.2 words now)

      row_watched : (t : ℕ) → IsCurrentIn site us t → IsInOrder site us t ⊎ IsCurrentIn site words t
      row_watched t c = elim (cases_eq t s) [
        | inl e ↦ subst (λ (z : ℕ). IsInOrder site us z ⊎ IsCurrentIn site words z) (sym e)
            (here row is may.3 (subst HasLiveState (replaced_same words (header_word site.shape s) x) (subst (λ (z : ℕ). HasLiveState (us (header_word site.shape z))) e c.live.live))
            (sym (ap version_in (replaced_same words (header_word site.shape s) x)) ∙ subst (λ (z : ℕ). version_in (us (header_word site.shape z)) ≡ version_of site) e c.current))
        | inr n ↦
            let same = replaced_other words (header_word site.shape s) x (header_word site.shape t) (λ e. n (one_head site t s e)) in
            inr (record {
              live = record { slot = c.live.slot; live = subst HasLiveState same c.live.live };
              current = ap version_in (sym same) ∙ c.current;
            })
      ]

      moved : IsMild site words us v (view_then site.shape (moves row s x) (words (header_word site.shape s)) v)
      moved = record {
        stays = λ t _. row_stays t;
        owners = row_owners row is has;
        watched = λ t current none. elim (row_watched t current) [
          | inl order ↦ inl order
          | inr was ↦ inr (was, λ whole. none (row_after row s (Whole t) v.areas refl refl whole))
        ];
        pairs = (may.2 words words now itself).table.pairs;
        planned = refl;
        moving = refl;
        owed = refl;
        plans = inl may.1;
        moves = inr refl;
        owes = inr (row_stays, refl);
      }

    -- ---- the first lock of a whole segment is given back
    opened : (s lock next : ℕ) → MayAt site (opens s lock next) v → IsMild site words (with_word words lock next) v (view_then site.shape (opens s lock next) (words lock) v)
    opened s lock next may = record {
      stays = λ t _. stays t;
      owners = λ hash _. owners_stay site words us' heads hash;
      watched = λ t current none. elim (cases_eq t s) [
        | inl e ↦ inl (subst (λ (z : ℕ). IsInOrder site us' z) (sym e) order)
        | inr n ↦ inr (was_current site words us' heads t current, λ whole. none (but_after (is_whole_at s) v.areas (Whole t) whole (ne_eqb t s n)))
      ];
      pairs = λ k. same_find site us' words k (λ i _. lock_cores site words lock next lock_is i);
      planned = refl;
      moving = refl;
      owed = refl;
      plans = inl may.4;
      moves = inl may.5;
      owes = inl may.6;
    }
      where
        us' : Words
        us' = with_word words lock next

        lock_is : IsLockWord site.shape lock
        lock_is = (h.locks.locked j v lock may.2.0 at may.2.1).0

        heads : (t : ℕ) → t < site.shape.segments → us' (header_word site.shape t) ≡ words (header_word site.shape t)
        heads t _ = replaced_other words lock next (header_word site.shape t) (λ e. lock_no_head site.shape lock t lock_is (sym e))

        stays : (t : ℕ) → SameBuckets site.shape words us' t
        stays t _ c n near above inside = replaced_other words lock next (bucket_at site.shape t c + n)
            (λ e. no_lock site.shape t c n near inside s may.1.0 above may.1.1 (e ∙ may.1.2))

        order : IsInOrder site us' s
        order = order_stays site words us' s (h.structure.fits.segment j v s at (h.structure.fits.whole j v s at may.0).0 words (newest site words views)).slot (stays s)
            (owners_stay site words us' heads) (may.7 words now)

    -- EACH KIND
    pub mild_step : (kind : StructureKind) → MayAt site kind v → IsMild site words (words_then site kind j words) v (view_then site.shape kind (found_at site kind words) v)
    mild_step (takes guard caller) may = taken guard caller (eqb (words (guard_word site.shape guard)) 0)
    mild_step (takes_for_side n caller) may = taken_for n caller (eqb (words (guard_word site.shape of_free_slots)) 0)
    mild_step (gives guard) may = given guard may.2
    mild_step (finds_stale s version) may = found (Stale s) (header_word site.shape s) (words (header_word site.shape s)) (not (eqb (version_in (words (header_word site.shape s))) version))
    mild_step (closes s i) may = found (Whole s) i (words i) true
    mild_step (finds_free n) may = found_slot n (header_word site.shape n) (words (header_word site.shape n)) (eqb (state_in (words (header_word site.shape n))) free)
    mild_step (finds_link p depth pattern) may = behind words _ (λ n _. refl) (refl, refl, refl, refl) (λ t whole. whole)
    mild_step (finds_side p n depth pattern) may = let x = words (header_word site.shape n) in
        told (told_by_side (is_ready_side depth pattern x) p n depth pattern) (Side n) (header_word site.shape n) x (is_new_side depth pattern x)
    mild_step (finds_entry e i) may = behind words _ (λ n _. refl) (refl, refl, refl, refl) (λ t whole. whole)
    mild_step (finds_begin s) may = behind words _ (λ n _. refl) (refl, refl, refl, refl) (λ t whole. whole)
    mild_step (reads i) may = behind words _ (λ n _. refl) (refl, refl, refl, refl) (λ t whole. whole)
    mild_step (sets i x) may = set i x may
    mild_step (moves row s x) may = moved row s x may
    mild_step (settles facts) may = behind words _ (λ i _. refl) (refl, refl, refl, refl) (λ t whole. whole)
    mild_step (settles_side n depth pattern) may = behind words _ (λ i _. refl) (refl, refl, refl, refl) (λ t whole. but_after (is_side_at n) v.areas (Whole t) whole refl)
    mild_step (opens s lock next) may = opened s lock next may
