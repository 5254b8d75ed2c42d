-- Which segment owns a hash in whatever a cut may leave, and that each step keeps it.
use Rattle.std.proofs.Common.{◌≡◌, ◌≢◌, ◌⊎◌, ℕ, ◌<◌, List, set, Some, inl, inr, refl, sym, ap, ◌∙◌, subst, arith, cond}
use Rattle.std.specs.Prelude.{⊤}
use Rattle.std.proofs.lemmas.Bool.{cases_eq, ne_eqb}
use Rattle.std.proofs.lemmas.Option.{same_Some}
use Rattle.hash_word.specs.Hash.{top}
use Rattle.trace.specs.Events.{Words, with_word}
use Rattle.trace.proofs.Replaced.{cases_at, replaced_other}
use Rattle.segment_head.specs.HeadWord.{state_in, depth_in, pattern_in, normal, splitting, HasLiveState}
use Rattle.image_layout.specs.Places.{Shape, words_of, bucket_at}
use Rattle.sound_image.specs.Segments.{frame_of}
use Rattle.frame_facts.specs.Claims.{HasSoundFrame}
use Rattle.frame_facts.specs.Stores.{GoesOn, StoreKeeps, StoreHandsOver}
use Rattle.frame_facts.proofs.StoreLaws.{takes_slot, frees_slot, begins_split, goes_live as side_goes_live, ends_split, drops_split, renews as byte_renews}
use Rattle.frame_facts.proofs.Roots.{untouched_keeps}
use Rattle.frame_facts.proofs.Moved.{live_for_same}
use Rattle.frame_facts.proofs.frames.Owner.{found_owns, claimer_found, same_owner}
use Rattle.frame_facts.specs.Owners.{HasStructure, SameOwners, owner_of}
use Rattle.frame_facts.proofs.segments.Places.{owner_kept}
use Rattle.frame_facts.proofs.segments.Cores.{core_structure}
use Rattle.frame_facts.proofs.Structure.{beside}
use Rattle.frame_facts.proofs.Owners.{owners_stay, owner_moves, owner_spared, owned_fits}
use Rattle.world.specs.Ground.{Ground}
use Rattle.world.specs.Views.{View, Has, At, IsLoose}
use Rattle.world.specs.Media.{IsPossible}
use Rattle.world.specs.areas.Areas.{Area, Side, header_word, is_side_at, is_stale_at}
use Rattle.world.specs.areas.Fitting.{LivesOn, Fits, HasGrounds}
use Rattle.world.specs.areas.Rows.{Row, marks, news, goes_live, finishes, unmarks, frees, renews, IsRow, IsRowIn, HasForRow, areas_by, HasStored}
use Rattle.world.specs.areas.Spared.{HasFenced, LooseIsHeld, AreaChange, SparesAreas}
use Rattle.world.specs.areas.Lasting.{IsHeldSide, Owners, AreSoundMedia, OwnersLast, LockedOwnersLast, RowsKeepFrames, RowsKeepOwners, GivesUp}
use Rattle.world.proofs.basics.Lists.{set_here}
use Rattle.world.proofs.basics.Seats.{each, carry}
use Rattle.world.proofs.basics.Structures.{header_is, one_segment}
use Rattle.world.proofs.basics.Tables.{core_owner}
use Rattle.world.proofs.holding.Beside.{newest}
use Rattle.world.proofs.invariant.KeepMedia.{possible_fewer}
use Rattle.world.proofs.fitting.OneHolder.{one_holder, head_in_slot, side_dies}
use Rattle.world.proofs.fitting.Stored.{grown_by}
use Rattle.world.proofs.fitting.Spared.{sides_stay}
use Rattle.world.proofs.fitting.Rows.{but_after, row_slot, head_near}

pub owners_last : OwnersLast
owners_last site words views f o s h lives is m p = elim (o.same m p h) [
  | inl e ↦ e ∙ is
  | inr t ↦ absurd (let e : Some s ≡ Some t.0 = sym is ∙ t.1 in
      side_dies site words views t.0 (f.side t.2.0 t.2.1 t.0 t.2.2 t.2.3).1 (subst (λ z. LivesOn site words views z) (same_Some s t.0 e) lives))
]

pub locked_owners : LockedOwnersLast
locked_owners site words views f o j v s b h at near has is =
    let l = f.lock j v (bucket_at site.shape s b) at has in
    owners_last site words views f o s h (subst (λ z. LivesOn site words views z) (one_segment site.shape s b l.segment l.bucket near l.near l.is) l.lives) is

-- ---- what a row does to a frame
abbrev MovesNone : Row → Type 0
MovesNone (marks n) = ⊤
MovesNone (news p) = ⊤
MovesNone (goes_live p) = ⊥
MovesNone finishes = ⊤
MovesNone unmarks = ⊤
MovesNone (frees p) = ⊤
MovesNone renews = ⊤

module _ (site : Ground) (word : Words) (views : List View) (now : Words) (g : HasGrounds site now views) (sound : HasSoundFrame site.shape word) (s x : ℕ) where
  abbrev i : ℕ
  i = header_word site.shape s

  abbrev Does : Row → Type 0
  Does (marks n) = StoreKeeps site.shape word i x
  Does (news p) = StoreKeeps site.shape word i x
  Does (goes_live p) = StoreHandsOver site.shape word p s i x
  Does finishes = StoreKeeps site.shape word i x
  Does unmarks = StoreKeeps site.shape word i x
  Does (frees p) = StoreKeeps site.shape word i x
  Does renews = StoreKeeps site.shape word i x

  does : (row : Row) → IsRow site word row s x → Does row
  does (marks n) q = begins_split site.shape word g.site_is.shape sound s x q.0
  does (news p) q = takes_slot site.shape word g.site_is.shape sound s x q.0
  does (goes_live p) q = side_goes_live site.shape word g.site_is.shape sound p s x q.0
  does finishes q = ends_split site.shape word g.site_is.shape sound s x q.0
  does unmarks q = drops_split site.shape word g.site_is.shape sound s x q.0
  does (frees p) q = frees_slot site.shape word g.site_is.shape sound s x q.0
  does renews q = byte_renews site.shape word g.site_is.shape sound s x q.0

  goes_on_by : (row : Row) → Does row → GoesOn site.shape.depth (frame_of site.shape word) (frame_of site.shape (with_word word i x))
  goes_on_by (marks n) d = d.goes_on
  goes_on_by (news p) d = d.goes_on
  goes_on_by (goes_live p) d = d.goes_on
  goes_on_by finishes d = d.goes_on
  goes_on_by unmarks d = d.goes_on
  goes_on_by (frees p) d = d.goes_on
  goes_on_by renews d = d.goes_on

  pub row_goes_on : (row : Row) → IsRow site word row s x → GoesOn site.shape.depth (frame_of site.shape word) (frame_of site.shape (with_word word i x))
  row_goes_on row is = goes_on_by row (does row is)

  stays_by : StoreKeeps site.shape word i x → SameOwners site.shape word (with_word word i x)
  stays_by k = owners_stay site.shape word g.site_is.shape sound i x k

  -- no row but one moves an owner
  pub row_owner : (row : Row) → MovesNone row → IsRow site word row s x → SameOwners site.shape word (with_word word i x)
  row_owner (marks n) k q = stays_by (does (marks n) q)
  row_owner (news p) k q = stays_by (does (news p) q)
  row_owner (goes_live p) k q = absurd k
  row_owner finishes k q = stays_by (does finishes q)
  row_owner unmarks k q = stays_by (does unmarks q)
  row_owner (frees p) k q = stays_by (does (frees p) q)
  row_owner renews k q = stays_by (does renews q)

  -- and that one moves those of the hashes that x covers
  module _ (p : ℕ) (q : IsRow site word (goes_live p) s x) (h : ℕ) where
    pub moved_owner : top (depth_in x) h ≡ pattern_in x → owner_of site.shape (with_word word i x) h ≡ Some s
    moved_owner on = (owner_moves site.shape.depth g.site_is.shape.depth (frame_of site.shape word) (frame_of site.shape (with_word word i x)) sound p s q.0.slot (inr q.0.splits)
        (does (goes_live p) q) h (ap (λ d. top d h) (sym q.0.depth) ∙ on ∙ q.0.pattern)).1

    pub spared_owner : (top (depth_in x) h ≡ pattern_in x → ⊥) → owner_of site.shape (with_word word i x) h ≡ owner_of site.shape word h
    spared_owner off = owner_spared site.shape.depth g.site_is.shape.depth (frame_of site.shape word) (frame_of site.shape (with_word word i x)) sound p s (does (goes_live p) q) h
        (λ inside. off (ap (λ d. top d h) q.0.depth ∙ inside ∙ sym q.0.pattern))

pub rows_go_on : RowsKeepFrames
rows_go_on site words medium views row s x g sound is = row_goes_on site medium views words g sound s x row is

-- ---- a store
module _ (site : Ground) (words : Words) (views : List View) (j : ℕ) (v w : View) (i x : ℕ) (areas : List Area) (at : At views j v)
    (st : HasStored site.shape i (words i) x areas v w) (near : i < words_of site.shape) (o : Owners site words views)
    (keeps : (n h : ℕ) → owner_of site.shape words h ≡ Some n → Has (Side n) v.areas → Has (Side n) w.areas) where
  abbrev us : Words
  us = with_word words i x

  abbrev IsSame : Words → ℕ → Type 0
  IsSame m h = (owner_of site.shape m h ≡ owner_of site.shape us h) ⊎ ((n : ℕ) × (owner_of site.shape us h ≡ Some n) × IsHeldSide (set views j w) n)

  moved_on : (m q : Words) (h : ℕ) → owner_of site.shape m h ≡ owner_of site.shape q h → owner_of site.shape us h ≡ owner_of site.shape words h → IsPossible site words views q → IsSame m h
  moved_on m q h e now p = elim (o.same q p h) [
    | inl s ↦ inl (e ∙ s ∙ sym now)
    | inr t ↦ inr (let k = carry views j v w at (λ _ u. Has (Side t.0) u.areas) (keeps t.0 h t.1) t.2.0 t.2.1 t.2.2 t.2.3 in (t.0, now ∙ t.1, (t.2.0, k.0, k.1, k.2)))
  ]

  -- a hash whose owner moves in no medium
  pub by_store : (h : ℕ) → ((q : Words) → IsPossible site words views q → owner_of site.shape (with_word q i x) h ≡ owner_of site.shape q h)
      → (m : Words) → IsPossible site us (set views j w) m → IsSame m h
  by_store h same m p =
      let now = same words (newest site words views) in
      elim (grown_by site words views j v w i x areas at st near m p) [
        | inl q ↦ moved_on m m h refl now q
        | inr q ↦ moved_on m q.0 h (owner_kept site.shape (with_word q.0 i x) m q.2 h ∙ same q.0 q.1) now q.1
      ]

-- a side that a row gives up is not live
pub keeps_side : (site : Ground) (words : Words) (row : Row) (s x : ℕ) (areas : List Area) → IsRow site words row s x
    → (n : ℕ) → HasLiveState (words (header_word site.shape n)) → Has (Side n) areas → Has (Side n) (areas_by row s areas)
keeps_side site words (marks m) s x areas q n live has = has
keeps_side site words (news p) s x areas q n live has = elim (cases_eq n s) [
  | inl e ↦ inl (ap Side e)
  | inr k ↦ inr (but_after (is_side_at s) areas (Side n) has (ne_eqb n s k))
]
keeps_side site words (goes_live p) s x areas q n live has = has
keeps_side site words finishes s x areas q n live has = has
keeps_side site words unmarks s x areas q n live has = has
keeps_side site words (frees p) s x areas q n live has = elim (cases_eq n s) [
  | inl e ↦ absurd (elim (subst (λ z. HasLiveState (words (header_word site.shape z))) e live) [
    | inl a ↦ omega (arith, a, q.0.was)
    | inr a ↦ omega (arith, a, q.0.was)
  ])
  | inr k ↦ inr (but_after (is_side_at s) areas (Side n) has (ne_eqb n s k))
]
keeps_side site words renews s x areas q n live has = but_after (is_stale_at s) areas (Side n) has refl

-- words of one structure are sound together, and stores keep it
pub sound_same : (site : Ground) (words : Words) (views : List View) → HasGrounds site words views → (m other : Words) → HasSoundFrame site.shape m → HasStructure site.shape m other → HasSoundFrame site.shape other
sound_same site words views g m other sound same =
    (untouched_keeps site.shape.depth g.site_is.shape.depth (frame_of site.shape m) (frame_of site.shape other) sound (beside site.shape m other same sound.root)).goes_on.sound

pub stored_same : (shape : Shape) (m other : Words) (i x : ℕ) → HasStructure shape m other → HasStructure shape (with_word m i x) (with_word other i x)
stored_same shape m other i x same n is = cases_at (λ b. cond b x (other n) ≡ cond b x (m n)) n i (λ _. refl) (λ _. same n is)

module _ (site : Ground) (words : Words) (views : List View) (j : ℕ) (v w : View) (row : Row) (s x : ℕ) (g : HasGrounds site words views) (sound : AreSoundMedia site words views)
    (at : At views j v) (now : IsRow site words row s x) (is : (medium : Words) → IsPossible site words views medium → IsRowIn site medium row s x)
    (has : HasForRow site words row s v.areas)
    (st : HasStored site.shape (header_word site.shape s) (words (header_word site.shape s)) x (areas_by row s v.areas) v w) (o : Owners site words views) where
  stored : (h : ℕ) → ((q : Words) → IsPossible site words views q → owner_of site.shape (with_word q (header_word site.shape s) x) h ≡ owner_of site.shape q h)
      → (m : Words) → IsPossible site (with_word words (header_word site.shape s) x) (set views j w) m
      → (owner_of site.shape m h ≡ owner_of site.shape (with_word words (header_word site.shape s) x) h)
      ⊎ ((n : ℕ) × (owner_of site.shape (with_word words (header_word site.shape s) x) h ≡ Some n) × IsHeldSide (set views j w) n)
  stored = by_store site words views j v w (header_word site.shape s) x (areas_by row s v.areas) at st (head_near site s (row_slot site words s x row now)) o
      (λ n h own has. subst (Has (Side n)) (sym st.areas_are) (keeps_side site words row s x v.areas now n (found_owns (frame_of site.shape words) h n own).own.live has))

  -- an owner that stays in words of the same structure stays
  stays_in : (q other : Words) (h : ℕ) → HasStructure site.shape q other → owner_of site.shape (with_word other (header_word site.shape s) x) h ≡ owner_of site.shape other h
      → owner_of site.shape (with_word q (header_word site.shape s) x) h ≡ owner_of site.shape q h
  stays_in q other h same stays =
      sym (owner_kept site.shape (with_word q (header_word site.shape s) x) (with_word other (header_word site.shape s) x) (stored_same site.shape q other (header_word site.shape s) x same) h)
      ∙ stays ∙ owner_kept site.shape q other same h

  pub none_moves : MovesNone row → Owners site (with_word words (header_word site.shape s) x) (set views j w)
  none_moves k = record {
    same = λ m p h. stored h (λ q r. let z = is q r in
        stays_in q z.0 h z.1 (row_owner site z.0 views words g (sound_same site words views g q z.0 (sound q r) z.1) s x row k z.2 h)) m p;
  }

pub rows_keep_owners : RowsKeepOwners
rows_keep_owners site words views j v w (marks n) s x g sound at now is has st o = none_moves site words views j v w (marks n) s x g sound at now is has st o tt
rows_keep_owners site words views j v w (news p) s x g sound at now is has st o = none_moves site words views j v w (news p) s x g sound at now is has st o tt
rows_keep_owners site words views j v w (goes_live p) s x g sound at now is has st o = record {
  same = λ m k h. elim (cases_eq (top (depth_in x) h) (pattern_in x)) [
    | inl on ↦ inr (
      s,
      moved_owner site words views words g g.sound s x p now h on,
      (j, w, set_here views j v w at, subst (Has (Side s)) (sym st.areas_are) has.0),
    )
    | inr off ↦ stored site words views j v w (goes_live p) s x g sound at now is has st o h
        (λ q r. let z = is q r in stays_in site words views j v w (goes_live p) s x g sound at now is has st o q z.0 h z.1
        (spared_owner site z.0 views words g (sound_same site words views g q z.0 (sound q r) z.1) s x p z.2 h off)) m k
  ];
}
rows_keep_owners site words views j v w finishes s x g sound at now is has st o = none_moves site words views j v w finishes s x g sound at now is has st o tt
rows_keep_owners site words views j v w unmarks s x g sound at now is has st o = none_moves site words views j v w unmarks s x g sound at now is has st o tt
rows_keep_owners site words views j v w (frees p) s x g sound at now is has st o = none_moves site words views j v w (frees p) s x g sound at now is has st o tt
rows_keep_owners site words views j v w renews s x g sound at now is has st o = none_moves site words views j v w renews s x g sound at now is has st o tt

-- ---- other stores, and steps that leave all cores
no_head_owner : (site : Ground) (i x : ℕ) → ((s : ℕ) → s < site.shape.segments → i ≢ header_word site.shape s) → (q : Words) → SameOwners site.shape q (with_word q i x)
no_head_owner site i x none q h = same_owner (frame_of site.shape q) (frame_of site.shape (with_word q i x)) h refl
    (λ s slot. replaced_other q i x (header_word site.shape s) (λ e. none s slot (sym e)))

pub other_owners : (site : Ground) (words : Words) (views : List View) (j : ℕ) (v w : View) (i x : ℕ) → At views j v → i < words_of site.shape
    → ((s : ℕ) → s < site.shape.segments → i ≢ header_word site.shape s) → HasStored site.shape i (words i) x v.areas v w
    → Owners site words views → Owners site (with_word words i x) (set views j w)
other_owners site words views j v w i x at near none st o = record {
  same = λ m p h. by_store site words views j v w i x v.areas at st near o (λ n k own has. subst (Has (Side n)) (sym st.areas_are) has) h
      (λ q r. no_head_owner site i x none q h) m p;
}

pub sparing_owners : (site : Ground) (words later : Words) (views : List View) (j : ℕ) (v w : View) (change : AreaChange) → At views j v → SparesAreas site words views later change v w
    → Owners site words views → Owners site later (set views j w)
sparing_owners site words later views j v w change at st o =
    let now : SameOwners site.shape words later = core_owner site words later st.cores in
    record {
      same = λ m p h. elim (o.same m (possible_fewer site words later views j v w at st.cores st.no_more m p) h) [
        | inl e ↦ inl (e ∙ sym (now h))
        | inr t ↦ inr (let k = carry views j v w at (λ _ u. Has (Side t.0) u.areas) (sides_stay site words views change v w st.areas_are st.may t.0 (found_owns (frame_of site.shape words) h t.0 t.1).own.live) t.2.0 t.2.1 t.2.2 t.2.3 in
            (t.0, now h ∙ t.1, (t.2.0, k.0, k.1, k.2)))
      ];
    }

-- ---- fences
module _ (site : Ground) (words : Words) (views : List View) (j : ℕ) (v w : View) (areas : List Area) (g : HasGrounds site words views) (f : Fits site words views)
    (at : At views j v) (loose : LooseIsHeld site.shape views) (st : HasFenced areas v w) where
  pub less : (p : ℕ × ℕ) → IsLoose w p → IsLoose v p
  less p l = elim l [ inl d ↦ inl (subst (Has p) st.dirty d) | inr h ↦ absurd (subst (Has p) st.flushed h) ]

  pub fewer : (m : Words) → IsPossible site words (set views j w) m → IsPossible site words views m
  fewer m p = possible_fewer site words words views j v w at (λ n _. refl) less m p

  -- THE HEADER OF A SIDE that is not dirty is settled
  pub settled : (n : ℕ) → Has (Side n) v.areas → ((y : ℕ) → Has (header_word site.shape n, y) v.dirty → ⊥) → (m : Words) → IsPossible site words (set views j w) m
      → m (header_word site.shape n) ≡ words (header_word site.shape n)
  settled n has clean m p =
      let i = header_word site.shape n in
      let slot = (f.side j v n at has).0.slot in
      let is = header_is site.shape n slot in
      elim (p i (head_near site n slot)) [
        | inl e ↦ sym (core_structure site.shape i (m i) is) ∙ e ∙ core_structure site.shape i (words i) is
        | inr l ↦ absurd (each views j v w at (λ c u. IsLoose u (i, l.2) → ⊥)
            (λ k. elim k [ inl d ↦ clean l.2 (subst (Has (i, l.2)) st.dirty d) | inr h ↦ subst (Has (i, l.2)) st.flushed h ])
            (λ c u ne a k. ne (one_holder site words views g f c j i u v a at (loose c u i l.2 a k) (inr (Side n, has, head_in_slot site.shape n)))) l.0 l.1 l.3 l.4)
      ]

  -- a side that another has, or that is not given up, is one after
  pub still_side : (n : ℕ) → (Has (Side n) v.areas → Has (Side n) w.areas) → IsHeldSide views n → IsHeldSide (set views j w) n
  still_side n keeps t = let k = carry views j v w at (λ _ u. Has (Side n) u.areas) keeps t.0 t.1 t.2 t.3 in (t.0, k.0, k.1, k.2)

  pub fenced_owners : AreSoundMedia site words views → GivesUp site words v areas → Owners site words views → Owners site words (set views j w)
  fenced_owners sound (inl e) o = record {
    same = λ m p h. elim (o.same m (fewer m p) h) [
      | inl q ↦ inl q
      | inr t ↦ inr (t.0, t.1, still_side t.0 (λ has. subst (Has (Side t.0)) (sym (st.areas_are ∙ e)) has) t.2)
    ];
  }
  fenced_owners sound (inr (n, e, has, is, clean)) o = record {
    same = λ m p h. elim (o.same m (fewer m p) h) [
      | inl q ↦ inl q
      | inr t ↦ elim (cases_eq t.0 n) [
        | inr k ↦ inr (t.0, t.1, still_side t.0 (λ h. subst (Has (Side t.0)) (sym (st.areas_are ∙ e)) (but_after (is_side_at n) v.areas (Side t.0) h (ne_eqb t.0 n k))) t.2)
        | inl k ↦ inl (owned m p h (t.1 ∙ ap Some k) ∙ sym (t.1 ∙ ap Some k))
      ]
    ];
  }
    where
      -- a NORMAL header that is the same everywhere owns the same everywhere
      owned : (m : Words) → IsPossible site words (set views j w) m → (h : ℕ) → owner_of site.shape words h ≡ Some n → owner_of site.shape m h ≡ Some n
      owned m p h own =
          let was = (found_owns (frame_of site.shape words) h n own).own in
          let head = settled n has clean m p in
          claimer_found site.shape.depth (frame_of site.shape m) g.site_is.shape.depth (sound m (fewer m p)) n h
          (owned_fits site.shape.depth g.site_is.shape.depth (frame_of site.shape words) g.sound n h own) (record {
            live = live_for_same (frame_of site.shape words) (frame_of site.shape m) n h refl head was;
            kept = λ side inside. clash (sym side.1.splits ∙ ap state_in head ∙ is);
          })
        where
          clash : splitting ≡ normal → ⊥
          clash e = omega (arith, e)
