-- Whatever a cut may leave is a table and stands in the history, at each kind of step at the structure.
use Rattle.std.proofs.Common.{◌≡◌, ◌≢◌, ◌⊎◌, ℕ, ◌+◌, ◌*◌, ◌-◌, ◌/◌, ◌^◌, ◌<◌, ◌≤◌, Bool, true, false, eqb, List, [], set, Option, Some, inl, inr, refl, sym, ap, ◌∙◌, subst, arith}
use Rattle.std.proofs.lemmas.Bool.{cases_eq, ne_eqb}
use Rattle.trace.specs.Events.{Words, with_word}
use Rattle.trace.proofs.Replaced.{replaced_same, replaced_other}
use Rattle.segment_head.specs.HeadWord.{version_in, state_in, depth_in, free, fresh, HasLiveState}
use Rattle.image_layout.specs.Places.{Shape, first_segment, block, words_of, head_at, bucket_at, buckets}
use Rattle.map_model.specs.declared.call.Call.{Call}
use Rattle.map_model.specs.declared.call.Call.TheVariants.{Remove}
use Rattle.sound_image.specs.Segments.{frame_of, IsLive}
use Rattle.sound_image.specs.Records.{key_hash}
use Rattle.frame_facts.specs.Claims.{HasSoundFrame, Claims}
use Rattle.frame_facts.proofs.Moved.{live_same, covers_same}
use Rattle.frame_facts.proofs.frames.SoundFrames.{owner_claims}
use Rattle.frame_facts.proofs.frames.Owner.{found_owns, claimer_found}
use Rattle.frame_facts.specs.Core.{core_of, core}
use Rattle.frame_facts.specs.Hits.{Hit, find}
use Rattle.frame_facts.specs.Owners.{owner_of}
use Rattle.frame_facts.proofs.segments.Cores.{hit_of_cores, core_structure}
use Rattle.frame_facts.specs.Facts.{Fact, Owns, Taken}
use Rattle.frame_facts.specs.DeadSlots.{IsInSlot}
use Rattle.frame_facts.proofs.Owners.{owned_fits}
use Rattle.world.specs.Ground.{Ground, version_of, IsUnder, IsCurrentIn}
use Rattle.world.specs.Views.{View, Has, At, HasLock, IsLoose}
use Rattle.world.specs.Media.{IsPossible, Stands}
use Rattle.world.specs.Parts.{IsRemoving}
use Rattle.world.specs.Invariant.{IsWatched, Media, Holds}
use Rattle.world.specs.areas.Areas.{Area, Segment, Stale, Side, Free, Whole, Allocation, Directory, header_word, InArea, is_side_at, is_whole_at, all_but}
use Rattle.world.specs.areas.Fitting.{HoldsWord}
use Rattle.world.specs.areas.Rows.{Row, marks, news, goes_live, finishes, unmarks, frees, renews, IsRow, HasForRow, HasStored}
use Rattle.world.specs.areas.Kinds.{Guard, of_segment, of_free_slots, of_directory, guard_word, goes_with, view_then, StructureKind, takes, takes_for_side, gives, finds_stale, closes, finds_free, finds_link, finds_side, finds_entry, finds_begin, reads, sets, moves, settles, settles_side, opens, with_guard, with_area, with_slot, with_facts, with_guard_for}
use Rattle.world.specs.areas.Asking.{IsFirmIn, HasOpened, IsUnderWhole, IsUnderDead, KeepsAll, EndsNothing, ends_by, MaySet, AsksForRow, MayAt}
use Rattle.world.specs.areas.Keeping.{whole_beside, found_at, words_then, KeepsMedia}
use Rattle.world.proofs.basics.Lists.{set_here}
use Rattle.world.proofs.basics.Seats.{carry, is_v}
use Rattle.world.proofs.basics.Structures.{current_back, header_is}
use Rattle.world.proofs.basics.Tables.{core_structure_same, core_owner, same_keeps, same_find, same_hit}
use Rattle.world.proofs.invariant.KeepMedia.{planned_stays, removing_stays}
use Rattle.world.proofs.fitting.OneHolder.{one_holder, one_slot, head_in_slot}
use Rattle.world.proofs.fitting.Rows.{but_after, row_after, row_slot, head_near}
use Rattle.world.proofs.moving.Known.{grounds, whole_possible, held_within, newest_is}
use Rattle.world.proofs.moving.Stepping.{IsStill, still_back, calm_still, grown_whole}
use Rattle.world.proofs.moving.media.Said.{by_known, taken_still, taken_for_still, found_still, told_still, slot_still, fence_still, opened_still, row_stored}
use Rattle.world.proofs.moving.Stepping.{guard_still}

-- ---- which words are none of a segment's buckets
-- a word is no word of a bucket of the segment but a lock word
abbrev pub IsApart : Shape → ℕ → ℕ → Type 0
IsApart shape s i = (b n : ℕ) → b < buckets → 1 ≤ n → n < block → bucket_at shape s b + n ≢ i

pub head_apart : (shape : Shape) (s t : ℕ) → IsApart shape s (header_word shape t)
head_apart shape s t b n near above inside e = by (first_segment shape) s t b n near inside e
  where
    by : (f s t b n : ℕ) → b < 66 → n < 32 → f + 2144 * s + 32 + 32 * b + n ≡ f + 2144 * t + 1 → ⊥
    by f s t b n near inside e = omega (arith, near, inside, e)

link_apart : (shape : Shape) (s t : ℕ) → IsApart shape s (head_at shape t + 2)
link_apart shape s t b n near above inside e = by (first_segment shape) s t b n near inside e
  where
    by : (f s t b n : ℕ) → b < 66 → n < 32 → f + 2144 * s + 32 + 32 * b + n ≡ f + 2144 * t + 2 → ⊥
    by f s t b n near inside e = omega (arith, near, inside, e)

front_apart : (shape : Shape) (s i : ℕ) → InArea shape Directory i → IsApart shape s i
front_apart shape s i w b n near above inside e = elim w [ inl root ↦ omega (arith, e, root) | inr q ↦ by (first_segment shape) s b n i q.1 e ]
  where
    by : (f s b n i : ℕ) → i < f → f + 2144 * s + 32 + 32 * b + n ≡ i → ⊥
    by f s b n i low e = omega (arith, low, e)

pub bucket_in_slot : (shape : Shape) (s b n : ℕ) → b < buckets → n < block → IsInSlot shape s (bucket_at shape s b + n)
bucket_in_slot shape s b n near inside = record { from = omega arith; to = omega (arith, near, inside) }

-- a word under a lock of one segment and in a bucket of another is in no two
one_owner : (shape : Shape) (s t b c n : ℕ) → b < buckets → c < buckets → n < block → IsUnder (bucket_at shape t c) (bucket_at shape s b + n) → t ≡ s
one_owner shape s t b c n near near' inside under = by (first_segment shape) s t b c n near near' inside under.0 under.1
  where
    by : (f s t b c n : ℕ) → b < 66 → c < 66 → n < 32 → f + 2144 * t + 32 + 32 * c < f + 2144 * s + 32 + 32 * b + n
        → f + 2144 * s + 32 + 32 * b + n < f + 2144 * t + 32 + 32 * c + 32 → t ≡ s
    by f s t b c n near near' inside low high = omega (arith, near, near', inside, low, high)

other_head : (shape : Shape) (s t : ℕ) → s ≢ t → header_word shape s ≢ header_word shape t
other_head shape s t ne e = ne (by (first_segment shape) s t e)
  where
    by : (f s t : ℕ) → f + 2144 * s + 1 ≡ f + 2144 * t + 1 → s ≡ t
    by f s t e = omega (arith, e)

-- ---- records after a store to a word that is none of the bucket's
module _ (shape : Shape) (word : Words) (i x s b t k : ℕ) (apart : IsApart shape s i) where
  hit_stays : Hit shape word s b t k → Hit shape (with_word word i x) s b t k
  hit_stays hit = hit_of_cores shape word (with_word word i x) s b hit.segment hit.bucket
      (λ n above inside. ap (core_of shape (bucket_at shape s b + n)) (sym (replaced_other word i x (bucket_at shape s b + n) (apart b n hit.bucket above inside)))) t k hit

  hit_back : Hit shape (with_word word i x) s b t k → Hit shape word s b t k
  hit_back hit = hit_of_cores shape (with_word word i x) word s b hit.segment hit.bucket
      (λ n above inside. ap (core_of shape (bucket_at shape s b + n)) (replaced_other word i x (bucket_at shape s b + n) (apart b n hit.bucket above inside))) t k hit

-- ---- owners before a store to the header of a dead slot
module _ (shape : Shape) (word other : Words) (n : ℕ) (most : shape.depth ≤ 16) (sound : HasSoundFrame shape word) (later : HasSoundFrame shape other)
    (same : (t : ℕ) → t < shape.segments → t ≢ n → other (header_word shape t) ≡ word (header_word shape t)) (dead : IsLive (frame_of shape word) n → ⊥) where
  -- a segment in another slot that owns a hash owned it before
  owned_before : (s h : ℕ) → s ≢ n → owner_of shape other h ≡ Some s → owner_of shape word h ≡ Some s
  owned_before s h ne own =
      let owns = found_owns (frame_of shape other) h s own in
      let fits = owned_fits shape.depth most (frame_of shape other) later s h own in
      let e = sym (same s owns.own.slot ne) in
      claimer_found shape.depth (frame_of shape word) most sound s h fits (owner_claims shape.depth most (frame_of shape word) sound s h fits (record {
        own = record {
          slot = owns.own.slot;
          live = live_same (frame_of shape other) (frame_of shape word) s e owns.own.live;
          covers = covers_same (frame_of shape other) (frame_of shape word) s h e owns.own.covers;
        };
        deepest = λ t live. elim (cases_eq t n) [
          | inl at ↦ absurd (dead (subst (IsLive (frame_of shape word)) at live.live))
          | inr not_at ↦ (let f = same t live.slot not_at in no_deeper (other (header_word shape t)) (word (header_word shape t)) (other (header_word shape s)) (word (header_word shape s)) f (sym e) (owns.deepest t (record {
            slot = live.slot;
            live = live_same (frame_of shape word) (frame_of shape other) t f live.live;
            covers = covers_same (frame_of shape word) (frame_of shape other) t h f live.covers;
          })))
        ];
      }))
    where
      no_deeper : (a b c d : ℕ) → a ≡ b → c ≡ d → depth_in a ≤ depth_in c → depth_in b ≤ depth_in d
      no_deeper a b c d e f less = subst (λ (z : ℕ). depth_in z ≤ depth_in d) e (subst (λ (z : ℕ). depth_in a ≤ depth_in z) f less)

module _ (site : Ground) (words : Words) (views : List View) (j : ℕ) (v : View) (h : Holds site words views) (at : At views j v) where
  abbrev old_of : Words → Words
  old_of m = whole_beside site words m

  -- ---- segments that are watched, and those of which nothing is loose
  -- a segment that is watched after a step was so before, where it was current, and the stepping view is the last to have it whole
  pub watched_before : (later : Words) (w : View) (s : ℕ) → IsCurrentIn site words s → (Has (Whole s) v.areas → Has (Whole s) w.areas) → IsWatched site later (set views j w) s
      → IsWatched site words views s
  watched_before later w s current keeps watched = (
    current,
    λ c u a whole. (let k = carry views j v w at (λ _ y. Has (Whole s) y.areas) keeps c u a whole in watched.1 c k.0 k.1 k.2),
  )

  -- whatever a cut may leave has the buckets of a segment as they are now
  abbrev pub AreFirm : ℕ → Type 0
  AreFirm s = (m : Words) → IsPossible site words views m → (b n : ℕ) → b < buckets → 1 ≤ n → n < block
      → core site.shape m (bucket_at site.shape s b + n) ≡ core site.shape words (bucket_at site.shape s b + n)

  -- so it has a held word of which nothing is loose
  pub firm_word : (i : ℕ) → HoldsWord site.shape v i → ((y : ℕ) → IsLoose v (i, y) → ⊥) → (m : Words) → IsPossible site words views m → core site.shape m i ≡ core site.shape words i
  firm_word i holds firm m p = elim (p i (held_within site words views h j v i at holds)) [
    | inl e ↦ e
    | inr e ↦ absurd (let q = one_holder site words views (grounds site words views h) h.structure.fits e.0 j i e.1 v e.3 at (h.known.loose e.0 e.1 i e.2 e.3 e.4) holds in
        firm e.2 (subst (λ (u : View). IsLoose u (i, e.2)) (is_v views j v v at e.0 e.1 e.3 q) e.4))
  ]

  whole_firm : (s : ℕ) → Has (Whole s) v.areas → IsFirmIn v (IsInSlot site.shape s) → AreFirm s
  whole_firm s has firm m p b n near above inside = firm_word (bucket_at site.shape s b + n)
      (inl (bucket_at site.shape s b, (h.structure.fits.whole j v s at has).1 b near, (omega (arith, above), omega (arith, inside))))
      (λ y l. firm (bucket_at site.shape s b + n, y) l (bucket_in_slot site.shape s b n near inside)) m p

  area_firm : (s : ℕ) (a : Area) → Has a v.areas → ((i : ℕ) → IsInSlot site.shape s i → InArea site.shape a i) → IsFirmIn v (IsInSlot site.shape s) → AreFirm s
  area_firm s a has all firm m p b n near above inside = firm_word (bucket_at site.shape s b + n)
      (inr (a, has, all (bucket_at site.shape s b + n) (bucket_in_slot site.shape s b n near inside)))
      (λ y l. firm (bucket_at site.shape s b + n, y) l (bucket_in_slot site.shape s b n near inside)) m p

  firm_hit : (s b t k : ℕ) (m : Words) → AreFirm s → IsPossible site words views m → Hit site.shape m s b t k → Hit site.shape words s b t k
  firm_hit s b t k m firm p hit = hit_of_cores site.shape m words s b hit.segment hit.bucket (λ n above inside. firm m p b n hit.bucket above inside) t k hit

  -- ---- steps that store to no word of the image
  module _ (later : Words) (w : View) (still : IsStill site words later v w) (keeps : (call : Call) → Has call v.planned → Has call w.planned × ((lock : ℕ) → HasLock v.held lock → HasLock w.held lock))
      (watch : (s : ℕ) → IsWatched site later (set views j w) s → (Has (Whole s) v.areas → Has (Whole s) w.areas) ⊎ AreFirm s) where
    was_current : (s : ℕ) → IsCurrentIn site later s → IsCurrentIn site words s
    was_current s = current_back site words later (core_structure_same site words later still.cores) s

    stays_there : (s b t k : ℕ) → Hit site.shape words s b t k → Hit site.shape later s b t k
    stays_there s b t k hit = same_hit site words later (λ n near. sym (still.cores n near)) s b t k hit

    pub media_still : Media site later (set views j w) h.log
    media_still =
        let back : (m : Words) → IsPossible site later (set views j w) m → IsPossible site words views m = λ m p. still_back site words later views j v w at still m p in
        record {
          table = λ m p. h.media.table m (back m p);
          stands = λ m p k. elim (h.media.stands m (back m p) k) [
            | inl e ↦ inl e
            | inr s ↦ inr (planned_stays views j v w at k (find site.shape m k) (λ call has _. (keeps call has).0) s)
          ];
          stashed = λ m p s c t k watched small own hit. elim (watch s watched) [
            | inl stays ↦ elim (h.media.stashed m (back m p) s c t k (watched_before later w s (was_current s watched.0) stays watched) small own hit) [
              | inl e ↦ inl (stays_there s (64 + c) t k e)
              | inr r ↦ inr (removing_stays views j v w at k (bucket_at site.shape s (64 + c)) (λ has l. let q = keeps (Remove k) has in (q.0, q.1 (bucket_at site.shape s (64 + c)) l)) r)
            ]
            | inr firm ↦ inl (stays_there s (64 + c) t k (firm_hit s (64 + c) t k m firm (back m p) hit))
          ];
        }

  -- ---- stores
  -- in each medium the segment owned what it owns there with the store
  abbrev IsBack : ℕ → ℕ → ℕ → Type 0
  IsBack i x s = (q : Words) → IsPossible site words views q → (k : ℕ) → owner_of site.shape (with_word (old_of q) i x) k ≡ Some s → owner_of site.shape (old_of q) k ≡ Some s

  old_sound : (q : Words) → IsPossible site words views q → HasSoundFrame site.shape (old_of q)
  old_sound q p = (h.structure.sound (old_of q) (whole_possible site words views h q p)).sound

  module _ (i x : ℕ) (ends : Words → Fact → Type 0) (harmless : (q : Words) → IsPossible site words views q → KeepsAll site (ends (old_of q)) words (old_of q) i x) where
    -- facts tell owners, where none of them is ended
    pub facts_back : (s : ℕ) → ((m : Words) (c d e : ℕ) → ends m (Owns c d e) → ⊥) → IsBack i x s
    facts_back s never q p k own =
        let there = (harmless q p).structure.sound in
        let most = h.site_is.shape.depth in
        let fits = owned_fits site.shape.depth most (frame_of site.shape (with_word (old_of q) i x)) there s k own in
        let was = (old_sound q p).some k fits in
        let stays = ((harmless q p).facts (Owns was.0 64 k) (never (old_of q) was.0 64 k)).has
        (λ l below covers. subst (λ (z : ℕ). Claims (frame_of site.shape (old_of q)) was.0 z) (sym (all_bits l k covers)) was.1) in
        claimer_found site.shape.depth (frame_of site.shape (old_of q)) most (old_sound q p) was.0 k fits was.1
        ∙ sym (claimer_found site.shape.depth (frame_of site.shape (with_word (old_of q) i x)) most there was.0 k fits (stays k fits (no_bits k))) ∙ own
      where
        all_bits : (l k : ℕ) → l / 2 ^ (64 - 64) ≡ k → l ≡ k
        all_bits l k e = omega (arith, e)

        no_bits : (k : ℕ) → k / 2 ^ (64 - 64) ≡ k
        no_bits k = omega arith

  module _ (i x : ℕ) (w : View) (st : HasStored site.shape i (words i) x w.areas v w) (near : i < words_of site.shape) (planned : v.planned ≡ []) (ends : Words → Fact → Type 0)
      (harmless : (q : Words) → IsPossible site words views q → KeepsAll site (ends (old_of q)) words (old_of q) i x) where
    none : (call : Call) → Has call v.planned → ⊥
    none call has = subst (Has call) planned has

    still_stands : (m : Words) (k : ℕ) → Stands site views h.log k (find site.shape m k) → Stands site (set views j w) h.log k (find site.shape m k)
    still_stands m k s = elim s [ inl e ↦ inl e | inr s ↦ inr (planned_stays views j v w at k (find site.shape m k) (λ call has _. absurd (none call has)) s) ]

    still_removing : (k lock : ℕ) → IsRemoving views k lock → IsRemoving (set views j w) k lock
    still_removing k lock r = removing_stays views j v w at k lock (λ has l. absurd (none (Remove k) has)) r

    pub media_stored : ((s : ℕ) → IsWatched site (with_word words i x) (set views j w) s → IsApart site.shape s i × ((IsWatched site words views s × IsBack i x s) ⊎ AreFirm s))
        → Media site (with_word words i x) (set views j w) h.log
    media_stored watch = record {
      table = λ m p. elim (grown_whole site words views j v w i x at st near m p) [
        | inl q ↦ h.media.table m q
        | inr q ↦ (same_keeps site (with_word (old_of q.0) i x) m (λ n _. q.2 n) (harmless q.0 q.1).table.table).table
      ];
      stands = λ m p k. elim (grown_whole site words views j v w i x at st near m p) [
        | inl q ↦ still_stands m k (h.media.stands m q k)
        | inr q ↦ subst (λ (a : Option ℕ). Stands site (set views j w) h.log k a) (sym (same_find site m (with_word (old_of q.0) i x) k (λ n _. sym (q.2 n)) ∙ (harmless q.0 q.1).table.pairs k))
            (still_stands (old_of q.0) k (h.media.stands (old_of q.0) (whole_possible site words views h q.0 q.1) k))
      ];
      stashed = λ m p s c t k watched small own hit.
          let a = watch s watched in
          elim (grown_whole site words views j v w i x at st near m p) [
            | inl q ↦ stash s c t k m q a.0 small hit (elim a.1 [ inl b ↦ inl (b.0, own) | inr firm ↦ inr firm ])
            | inr q ↦ (let hit' = hit_back site.shape (old_of q.0) i x s (64 + c) t k a.0 (same_hit site m (with_word (old_of q.0) i x) (λ n _. sym (q.2 n)) s (64 + c) t k hit) in
                stash s c t k (old_of q.0) (whole_possible site words views h q.0 q.1) a.0 small hit'
                (elim a.1 [
                  | inl b ↦ inl (b.0, b.1 q.0 q.1 (key_hash site.shape k) (core_owner site m (with_word (old_of q.0) i x) (λ n _. q.2 n) (key_hash site.shape k) ∙ own))
                  | inr firm ↦ inr firm
                ]))
          ];
    }
      where
        stash : (s c t k : ℕ) (m : Words) → IsPossible site words views m → IsApart site.shape s i → c < 2 → Hit site.shape m s (64 + c) t k
            → (IsWatched site words views s × (owner_of site.shape m (key_hash site.shape k) ≡ Some s)) ⊎ AreFirm s
            → Hit site.shape (with_word words i x) s (64 + c) t k ⊎ IsRemoving (set views j w) k (bucket_at site.shape s (64 + c))
        stash s c t k m p apart small hit (inl b) = elim (h.media.stashed m p s c t k b.0 small b.1 hit) [
          | inl e ↦ inl (hit_stays site.shape words i x s (64 + c) t k apart e)
          | inr r ↦ inr (still_removing k (bucket_at site.shape s (64 + c)) r)
        ]
        stash s c t k m p apart small hit (inr firm) = inl (hit_stays site.shape words i x s (64 + c) t k apart (firm_hit s (64 + c) t k m firm p hit))

  -- ---- a store to a word that is no header
  -- a held word lies in no bucket of a current segment but of a whole one
  apart_area : (a : Area) → Has a v.areas → (i : ℕ) → InArea site.shape a i → IsUnderDead site v i → (s : ℕ) → IsCurrentIn site words s → IsApart site.shape s i
  apart_area (Segment t) has i w dead s current b n near above inside e = elim w [
    | inl is ↦ head_apart site.shape s t b n near above inside (e ∙ is)
    | inr is ↦ link_apart site.shape s t b n near above inside (e ∙ is)
  ]
  apart_area (Stale t) has i w dead s current b n near above inside e =
      let same : t ≡ s = one_slot site.shape t s i w (subst (IsInSlot site.shape s) e (bucket_in_slot site.shape s b n near inside)) in
      (h.structure.fits.stale j v t at has).1 (subst (λ (z : ℕ). version_in (words (header_word site.shape z)) ≡ version_of site) (sym same) current.current)
  apart_area (Side t) has i w dead s current b n near above inside e =
      let same : t ≡ s = one_slot site.shape t s i w (subst (IsInSlot site.shape s) e (bucket_in_slot site.shape s b n near inside)) in
      let known = dead t has w in
      known.2 (subst HasLiveState (ap (λ (z : ℕ). words (header_word site.shape z)) (sym same) ∙ (h.known.knows j v (header_word site.shape t) known.0 at known.1).0) current.live.live)
  apart_area (Free t) has i w dead s current b n near above inside e =
      let same : t ≡ s = one_slot site.shape t s i w (subst (IsInSlot site.shape s) e (bucket_in_slot site.shape s b n near inside)) in
      not_free (words (header_word site.shape s)) (subst (λ (z : ℕ). state_in (words (header_word site.shape z)) ≡ free) same (h.structure.fits.free_slot j v t at has).2) current.live.live
    where
      not_free : (head : ℕ) → state_in head ≡ free → HasLiveState head → ⊥
      not_free head e l = elim l [ inl a ↦ omega (arith, a, e) | inr a ↦ omega (arith, a, e) ]
  apart_area (Whole t) has i w dead s current b n near above inside e = absurd w
  apart_area Allocation has i w dead s current b n near above inside e = absurd w
  apart_area Directory has i w dead s current b n near above inside e = front_apart site.shape s i w b n near above inside e

  held_apart : (i : ℕ) → HoldsWord site.shape v i → IsUnderWhole site v i → IsUnderDead site v i → (s : ℕ) → IsCurrentIn site words s → (Has (Whole s) v.areas → ⊥) → IsApart site.shape s i
  held_apart i (inl g) whole dead s current alone b n near above inside e =
      let q = whole g.0 g.1 g.2 in
      let under : IsUnder (bucket_at site.shape q.0 q.1) (bucket_at site.shape s b + n) = subst (IsUnder (bucket_at site.shape q.0 q.1)) (sym e) (subst (λ (z : ℕ). IsUnder z i) q.3 g.2) in
      alone (subst (λ (z : ℕ). Has (Whole z) v.areas) (one_owner site.shape s q.0 b q.1 n near q.2 inside under) q.4)
  held_apart i (inr q) whole dead s current alone b n near above inside e = apart_area q.0 q.1 i q.2 dead s current b n near above inside e

  set_media : (i x : ℕ) → MaySet site v i x → Media site (with_word words i x) (set views j (view_then site.shape (sets i x) (words i) v)) h.log
  set_media i x may =
      let w : View = view_then site.shape (sets i x) (words i) v in
      let harmless = by_known site words views j v h at i x (EndsNothing site) may.harmless in
      media_stored i x w (record { held = refl; dirty = refl; flushed = refl; areas_are = refl }) (held_within site words views h j v i at may.holds) may.planned (EndsNothing site) harmless
      (λ s watched.
      let current = was s watched.0 in
      let before = watched_before (with_word words i x) w s current (λ has. has) watched in (
        held_apart i may.holds may.under_whole may.under_dead s current (λ has. before.1 j v at has),
        inl (before, facts_back i x (EndsNothing site) harmless s (λ m c d e none. none)),
      ))
    where
      was : (s : ℕ) → IsCurrentIn site (with_word words i x) s → IsCurrentIn site words s
      was s c = let e = replaced_other words i x (header_word site.shape s) (λ e. may.no_header s c.live.slot (sym e)) in record {
        live = record { slot = c.live.slot; live = live_same (frame_of site.shape (with_word words i x)) (frame_of site.shape words) s (sym e) c.live.live };
        current = ap version_in (sym e) ∙ c.current;
      }

  -- ---- a store to a header
  module _ (s x : ℕ) where
    -- the segment itself, where it is watched after: it was not, and all its words are settled
    firm_here : (row : Row) → IsRow site words row s x → HasForRow site words row s v.areas → AsksForRow site row s x v → HasLiveState x → version_in x ≡ version_of site
        → (Has (Whole s) v.areas → ⊥) → AreFirm s
    firm_here (marks n) is has asks live current none = absurd (none has.0)
    firm_here (news p) is has asks live current none = absurd (elim live [ inl a ↦ omega (arith, a, is.0.becomes) | inr a ↦ omega (arith, a, is.0.becomes) ])
    firm_here (goes_live p) is has asks live current none = area_firm s (Side s) has.0 (λ i inside. inside) asks.2
    firm_here finishes is has asks live current none = absurd (none (has.1 (record { live = record { slot = is.0.slot; live = inr is.0.was }; current = sym is.1 ∙ current })))
    firm_here unmarks is has asks live current none = absurd ((h.structure.fits.stale j v s at has.0).1 (sym is.1 ∙ current))
    firm_here (frees p) is has asks live current none = absurd (elim live [ inl a ↦ omega (arith, a, is.0.becomes) | inr a ↦ omega (arith, a, is.0.becomes) ])
    firm_here renews is has asks live current none = area_firm s (Stale s) has (λ i inside. inside) asks.0

    -- the header of a side that goes live is settled as a dead one
    side_dead : (p : ℕ) → IsRow site words (goes_live p) s x → Has (Side s) v.areas → IsFirmIn v (IsInSlot site.shape s) → (q : Words) → IsPossible site words views q
        → IsLive (frame_of site.shape (old_of q)) s → ⊥
    side_dead p is has firm q possible live =
        let i = header_word site.shape s in
        let head = header_is site.shape s is.0.side_slot in
        let inside = head_in_slot site.shape s in
        let same : old_of q i ≡ words i = sym (core_structure site.shape i (old_of q i) head)
        ∙ firm_word i (inr (Side s, has, inside)) (λ y l. firm (i, y) l inside) (old_of q) (whole_possible site words views h q possible) ∙ core_structure site.shape i (words i) head in
        new_dead (words i) is.0.was (subst HasLiveState same live)
      where
        new_dead : (head : ℕ) → state_in head ≡ fresh → HasLiveState head → ⊥
        new_dead head e l = elim l [ inl a ↦ omega (arith, a, e) | inr a ↦ omega (arith, a, e) ]

    -- a claim is not that the slot is taken
    no_claim : (c d e : ℕ) → Owns c d e ≡ Taken s → ⊥
    no_claim c d e ended = cc

    -- other segments own in each medium what they own there after
    back_by : (row : Row) → IsRow site words row s x → HasForRow site words row s v.areas → AsksForRow site row s x v
        → ((q : Words) → IsPossible site words views q → KeepsAll site (ends_by site row s (old_of q)) words (old_of q) (header_word site.shape s) x)
        → (t : ℕ) → t ≢ s → IsBack (header_word site.shape s) x t
    back_by (marks n) is has asks harmless t ne q possible k own = facts_back (header_word site.shape s) x (ends_by site (marks n) s) harmless t (λ m c d e ended. ended) q possible k own
    back_by (news p) is has asks harmless t ne q possible k own = facts_back (header_word site.shape s) x (ends_by site (news p) s) harmless t (λ m c d e ended. ended) q possible k own
    back_by (goes_live p) is has asks harmless t ne q possible k own =
        owned_before site.shape (old_of q) (with_word (old_of q) (header_word site.shape s) x) s h.site_is.shape.depth (old_sound q possible) (harmless q possible).structure.sound
        (λ c slot other. replaced_other (old_of q) (header_word site.shape s) x (header_word site.shape c) (other_head site.shape c s other))
        (side_dead p is has.0 asks.2 q possible) t k ne own
    back_by finishes is has asks harmless t ne q possible k own = facts_back (header_word site.shape s) x (ends_by site finishes s) harmless t (λ m c d e ended. ended) q possible k own
    back_by unmarks is has asks harmless t ne q possible k own = facts_back (header_word site.shape s) x (ends_by site unmarks s) harmless t (λ m c d e ended. ended) q possible k own
    back_by (frees p) is has asks harmless t ne q possible k own = facts_back (header_word site.shape s) x (ends_by site (frees p) s) harmless t (λ m c d e ended. no_claim c d e ended) q possible k own
    back_by renews is has asks harmless t ne q possible k own = facts_back (header_word site.shape s) x (ends_by site renews s) harmless t (λ m c d e ended. ended) q possible k own

  abbrev row_view : Row → ℕ → ℕ → View
  row_view row s x = view_then site.shape (moves row s x) (words (header_word site.shape s)) v

  row_media : (row : Row) (s x : ℕ) → MayAt site (moves row s x) v → Media site (with_word words (header_word site.shape s) x) (set views j (row_view row s x)) h.log
  row_media row s x may =
      let w = row_view row s x in
      let i = header_word site.shape s in
      let is = may.0 words (newest_is site words views h j v at) in
      let harmless = by_known site words views j v h at i x (ends_by site row s) may.2 in
      media_stored i x w (row_stored site words views j v h at row s x w refl refl refl) (head_near site s (row_slot site words s x row is.0)) may.1 (ends_by site row s) harmless
      (λ t watched. (
        head_apart site.shape t s,
        elim (cases_eq t s) [
          | inl same ↦ inr (subst AreFirm (sym same) (firm_here s x row is.0 is.1 may.3 (subst HasLiveState (here t same) watched.0.live.live) (sym (ap version_in (here t same)) ∙ watched.0.current)
              (λ whole. watched.1 j w (set_here views j v w at) (row_after row s (Whole t) v.areas refl refl (subst (λ (z : ℕ). Has (Whole z) v.areas) (sym same) whole)))))
          | inr ne ↦ inl (
            watched_before (with_word words i x) w t (was t ne watched.0) (λ whole. row_after row s (Whole t) v.areas refl refl whole) watched,
            back_by s x row is.0 is.1 may.3 harmless t ne,
          )
        ],
      ))
    where
      here : (t : ℕ) → t ≡ s → with_word words (header_word site.shape s) x (header_word site.shape t) ≡ x
      here t same = ap (λ (z : ℕ). with_word words (header_word site.shape s) x (header_word site.shape z)) same ∙ replaced_same words (header_word site.shape s) x

      was : (t : ℕ) → t ≢ s → IsCurrentIn site (with_word words (header_word site.shape s) x) t → IsCurrentIn site words t
      was t ne c = let e = replaced_other words (header_word site.shape s) x (header_word site.shape t) (other_head site.shape t s ne) in record {
        live = record { slot = c.live.slot; live = live_same (frame_of site.shape (with_word words (header_word site.shape s) x)) (frame_of site.shape words) t (sym e) c.live.live };
        current = ap version_in (sym e) ∙ c.current;
      }

  -- ---- each kind
  taken_keeps : (guard : Guard) (t : Bool) (call : Call) → Has call v.planned → Has call (with_guard t guard v).planned × ((lock : ℕ) → HasLock v.held lock → HasLock (with_guard t guard v).held lock)
  taken_keeps guard true call has = (has, (λ lock l. l))
  taken_keeps guard false call has = (has, (λ lock l. l))

  taken_whole : (guard : Guard) (t : Bool) (s : ℕ) → Has (Whole s) v.areas → Has (Whole s) (with_guard t guard v).areas
  taken_whole guard true s has = inr has
  taken_whole guard false s has = has

  taken_for_keeps : (n : ℕ) (t : Bool) (call : Call) → Has call v.planned
      → Has call (with_guard_for site.shape t n v).planned × ((lock : ℕ) → HasLock v.held lock → HasLock (with_guard_for site.shape t n v).held lock)
  taken_for_keeps n true call has = (has, (λ lock l. l))
  taken_for_keeps n false call has = (has, (λ lock l. l))

  taken_for_whole : (n : ℕ) (t : Bool) (s : ℕ) → Has (Whole s) v.areas → Has (Whole s) (with_guard_for site.shape t n v).areas
  taken_for_whole n true s has = inr has
  taken_for_whole n false s has = but_after (is_side_at n) v.areas (Whole s) has refl

  found_keeps : (t : Bool) (area : Area) (i x : ℕ) (call : Call) → Has call v.planned
      → Has call (with_area t area i x v).planned × ((lock : ℕ) → HasLock v.held lock → HasLock (with_area t area i x v).held lock)
  found_keeps true area i x call has = (has, (λ lock l. l))
  found_keeps false area i x call has = (has, (λ lock l. l))

  found_whole : (t : Bool) (area : Area) (i x : ℕ) (s : ℕ) → Has (Whole s) v.areas → Has (Whole s) (with_area t area i x v).areas
  found_whole true area i x s has = inr has
  found_whole false area i x s has = has

  slot_keeps : (t : Bool) (n i x : ℕ) (call : Call) → Has call v.planned
      → Has call (with_slot t n i x v).planned × ((lock : ℕ) → HasLock v.held lock → HasLock (with_slot t n i x v).held lock)
  slot_keeps true n i x call has = (has, (λ lock l. l))
  slot_keeps false n i x call has = (has, (λ lock l. l))

  slot_whole : (t : Bool) (n i x : ℕ) (s : ℕ) → Has (Whole s) v.areas → Has (Whole s) (with_slot t n i x v).areas
  slot_whole true n i x s has = inr has
  slot_whole false n i x s has = has

  slot_media : (t : Bool) (n i x : ℕ) → Media site words (set views j (with_slot t n i x v)) h.log
  slot_media t n i x = media_still words (with_slot t n i x v) (slot_still site words views j v h at t n i x) (slot_keeps t n i x) (λ s watched. inl (slot_whole t n i x s))

  found_media : (t : Bool) (area : Area) (i x : ℕ) → Media site words (set views j (with_area t area i x v)) h.log
  found_media t area i x = media_still words (with_area t area i x v) (found_still site words views j v h at t area i x) (found_keeps t area i x) (λ s watched. inl (found_whole t area i x s))

  told_media : (facts : List Fact) (t : Bool) (area : Area) (i x : ℕ) → Media site words (set views j (with_facts facts (with_area t area i x v))) h.log
  told_media facts t area i x = media_still words (with_facts facts (with_area t area i x v)) (told_still site words views j v h at facts t area i x) (found_keeps t area i x)
      (λ s watched. inl (found_whole t area i x s))

  given_whole : (guard : Guard) → HasOpened site.shape v guard → (s : ℕ) → Has (Whole s) v.areas → Has (Whole s) (all_but (goes_with guard) v.areas)
  given_whole (of_segment t) opened s has = elim (cases_eq s t) [
    | inl e ↦ absurd (opened.1 (subst (λ (z : ℕ). Has (Whole z) v.areas) e has))
    | inr ne ↦ but_after (goes_with (of_segment t)) v.areas (Whole s) has (ne_eqb s t ne)
  ]
  given_whole of_free_slots opened s has = but_after (goes_with of_free_slots) v.areas (Whole s) has refl
  given_whole of_directory opened s has = but_after (goes_with of_directory) v.areas (Whole s) has refl

  pub keeps_media : (kind : StructureKind) → MayAt site kind v → Media site (words_then site kind j words) (set views j (view_then site.shape kind (found_at site kind words) v)) h.log
  keeps_media (takes guard caller) may = let t = eqb (words (guard_word site.shape guard)) 0 in
      media_still _ _ (taken_still site words views j v h at guard caller t) (taken_keeps guard t) (λ s watched. inl (taken_whole guard t s))
  keeps_media (takes_for_side n caller) may = let t = eqb (words (guard_word site.shape of_free_slots)) 0 in
      media_still _ _ (taken_for_still site words views j v h at n caller t) (taken_for_keeps n t) (λ s watched. inl (taken_for_whole n t s))
  keeps_media (gives guard) may = media_still _ _ (guard_still site words v _ guard 0 (λ p l. l)) (λ call has. (has, (λ lock l. l))) (λ s watched. inl (given_whole guard may.2 s))
  keeps_media (finds_stale s version) may = found_media _ _ _ _
  keeps_media (closes s i) may = found_media true (Whole s) i (words i)
  keeps_media (finds_free n) may = slot_media _ _ _ _
  keeps_media (finds_link p depth pattern) may = media_still _ _ (calm_still site words v _ (λ p l. l)) (λ call has. (has, (λ lock l. l))) (λ s watched. inl (λ has. has))
  keeps_media (finds_side p n depth pattern) may = told_media _ _ _ _ _
  keeps_media (finds_entry e i) may = media_still _ _ (calm_still site words v _ (λ p l. l)) (λ call has. (has, (λ lock l. l))) (λ s watched. inl (λ has. has))
  keeps_media (finds_begin s) may = media_still _ _ (calm_still site words v _ (λ p l. l)) (λ call has. (has, (λ lock l. l))) (λ s watched. inl (λ has. has))
  keeps_media (reads i) may = media_still _ _ (calm_still site words v _ (λ p l. l)) (λ call has. (has, (λ lock l. l))) (λ s watched. inl (λ has. has))
  keeps_media (sets i x) may = set_media i x may
  keeps_media (moves row s x) may = row_media row s x may
  keeps_media (settles facts) may = media_still _ _ (fence_still site words views j v h at _ refl refl) (λ call has. (has, (λ lock l. l))) (λ s watched. inl (λ has. has))
  keeps_media (settles_side n depth pattern) may = media_still _ _ (fence_still site words views j v h at _ refl refl) (λ call has. (has, (λ lock l. l)))
      (λ s watched. inl (λ has. but_after (is_side_at n) v.areas (Whole s) has refl))
  keeps_media (opens s lock next) may = media_still _ _ (opened_still site words views j v h at s lock next _ may refl refl) (λ call has. absurd (subst (Has call) may.4 has))
      (λ t watched. elim (cases_eq t s) [
        | inl e ↦ inr (subst AreFirm (sym e) (whole_firm s may.0 may.3))
        | inr ne ↦ inl (λ has. but_after (is_whole_at s) v.areas (Whole t) has (ne_eqb t s ne))
      ])

pub media_kept : KeepsMedia
media_kept site kind words views j v h at may = keeps_media site words views j v h at kind may
