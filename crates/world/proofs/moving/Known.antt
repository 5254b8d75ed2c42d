-- What a view with areas knows of the newest words, and of a medium that may be left beside them.
use Rattle.std.proofs.Common.{◌≡◌, ◌⊎◌, ℕ, ◌+◌, ◌*◌, ◌<◌, cond, eqb, Some, List, inl, inr, refl, sym, ap, ◌∙◌, subst, arith}
use Rattle.std.proofs.lemmas.Bool.{cases_Bool, eq-eqb, eqb-true}
use Rattle.std.proofs.lemmas.Option.{same_Some}
use Rattle.trace.specs.Events.{Words}
use Rattle.hash_word.specs.Hash.{home_of}
use Rattle.image_layout.specs.Places.{Shape, first_segment, words_of, bucket_at, buckets}
use Rattle.sound_image.specs.Records.{key_hash}
use Rattle.frame_facts.specs.Core.{core_of, core}
use Rattle.frame_facts.specs.Owners.{owner_of}
use Rattle.frame_facts.specs.DeadSlots.{IsInSlot}
use Rattle.world.specs.Ground.{Ground, IsCurrentIn}
use Rattle.world.specs.Views.{View, Has, At, HasLock, IsLoose}
use Rattle.world.specs.Media.{IsPossible}
use Rattle.world.specs.Conditions.{Agrees}
use Rattle.world.specs.areas.Areas.{Area, Segment, Stale, Side, Free, Whole, Allocation, Directory, InArea, IsDirectoryWord}
use Rattle.world.specs.areas.Fitting.{HoldsWord, LivesOn, HasGrounds}
use Rattle.world.specs.areas.Asking.{IsNotWhole, MayBeNewest, MayStandBeside}
use Rattle.world.specs.Invariant.{IsWatched, Holds}
use Rattle.world.specs.areas.Keeping.{whole_beside, KnownIsSo}
use Rattle.world.proofs.basics.Grounds.{home_near}
use Rattle.world.proofs.basics.Seats.{is_v, guarded_within}
use Rattle.world.proofs.basics.Structures.{one_segment}
use Rattle.world.proofs.holding.Beside.{newest}
use Rattle.world.proofs.fitting.OneHolder.{one_holder, side_dies}

-- a word of a slot that is there lies within the image, and so does one of the directory
pub slot_within : (shape : Shape) (s i : ℕ) → s < shape.segments → IsInSlot shape s i → i < words_of shape
slot_within shape s i slot inside = by (first_segment shape) s shape.segments i slot inside.to
  where
    by : (f s n i : ℕ) → s < n → i < f + 2144 * s + 2144 → i < f + 2144 * n
    by f s n i slot to = omega (arith, slot, to)

front_within : (shape : Shape) (i : ℕ) → IsDirectoryWord shape i → i < words_of shape
front_within shape i w = elim w [ inl e ↦ omega (arith, e) | inr q ↦ by (first_segment shape) shape.segments i q.1 ]
  where
    by : (f n i : ℕ) → i < f → i < f + 2144 * n
    by f n i low = omega (arith, low)

-- the header and the link of a slot are words of it
pub guard_in_slot : (shape : Shape) (s i : ℕ) → InArea shape (Segment s) i → IsInSlot shape s i
guard_in_slot shape s i w = elim w [ inl e ↦ record { from = omega (arith, e); to = omega (arith, e) } | inr e ↦ record { from = omega (arith, e); to = omega (arith, e) } ]

-- it has the cores that it had
pub whole_cores : (site : Ground) (words m : Words) (n : ℕ) → core site.shape (whole_beside site words m) n ≡ core site.shape m n
whole_cores site words m n = elim (cases_Bool (eqb (core site.shape m n) (core site.shape words n))) [
  | inl t ↦ ap (λ b. core_of site.shape n (cond b (words n) (m n))) t ∙ sym (eqb-true (core site.shape m n) (core site.shape words n) t)
  | inr f ↦ ap (λ b. core_of site.shape n (cond b (words n) (m n))) f
]

module _ (site : Ground) (words : Words) (views : List View) (h : Holds site words views) where
  -- the newest words may be left
  pub possible_now : IsPossible site words views words
  possible_now = newest site words views

  pub grounds : HasGrounds site words views
  grounds = record { site_is = h.site_is; sound = (h.structure.sound words possible_now).sound; alone = h.locks.alone }

  -- a word that a view holds lies within the image
  in_area : (j : ℕ) (v : View) (i : ℕ) → At views j v → (a : Area) → Has a v.areas → InArea site.shape a i → i < words_of site.shape
  in_area j v i at (Segment s) has w = slot_within site.shape s i (h.structure.fits.segment j v s at has words possible_now).slot (guard_in_slot site.shape s i w)
  in_area j v i at (Stale s) has w = slot_within site.shape s i (h.structure.fits.segment j v s at (h.structure.fits.stale j v s at has).0 words possible_now).slot w
  in_area j v i at (Side n) has w = slot_within site.shape n i (h.structure.fits.side j v n at has).0.slot w
  in_area j v i at (Free n) has w = slot_within site.shape n i (h.structure.fits.free_slot j v n at has).1 w
  in_area j v i at (Whole s) has w = absurd w
  in_area j v i at Allocation has w = absurd w
  in_area j v i at Directory has w = front_within site.shape i w

  pub held_within : (j : ℕ) (v : View) (i : ℕ) → At views j v → HoldsWord site.shape v i → i < words_of site.shape
  held_within j v i at (inl g) = guarded_within site words views h.locks j v i at g
  held_within j v i at (inr q) = in_area j v i at q.0 q.1 q.2

  -- a medium of the cores of one that may be left may be left
  pub possible_same : (m other : Words) → ((i : ℕ) → core site.shape other i ≡ core site.shape m i) → IsPossible site words views m → IsPossible site words views other
  possible_same m other same p i within = elim (p i within) [
    | inl e ↦ inl (same i ∙ e)
    | inr e ↦ inr (e.0, e.1, e.2, e.3, e.4, same i ∙ e.5)
  ]

  pub whole_possible : (m : Words) → IsPossible site words views m → IsPossible site words views (whole_beside site words m)
  whole_possible m p = possible_same m (whole_beside site words m) (whole_cores site words m) p

  module _ (j : ℕ) (v : View) (at : At views j v) where
    -- who holds a lock that this view holds is this view
    pub same_view : (i : ℕ) (u : View) (lock other : ℕ) → At views i u → HasLock u.held other → HasLock v.held lock → other ≡ lock → u ≡ v
    same_view i u lock other a g has e = is_v views j v v at i u a (h.locks.alone i j u v lock g.0 has.0 a at (subst (λ (z : ℕ). Has (z, g.0) u.held) e g.1) has.1)

    -- the segment of a lock that it holds is current, and lives on
    pub held_living : (s b : ℕ) → b < buckets → HasLock v.held (bucket_at site.shape s b) → IsCurrentIn site words s × LivesOn site words views s
    held_living s b near has =
        let l = h.structure.fits.lock j v (bucket_at site.shape s b) at has in
        let e = one_segment site.shape s b l.segment l.bucket near l.near l.is in
        (subst (λ (z : ℕ). IsCurrentIn site words z) e l.current, subst (λ (z : ℕ). LivesOn site words views z) e l.lives)

    -- and nobody else has it whole
    pub held_watched : (s b : ℕ) → b < buckets → IsNotWhole v s → HasLock v.held (bucket_at site.shape s b) → IsWatched site words views s
    held_watched s b near none has = (
      (held_living s b near has).0,
      λ i u a whole. none (subst (λ (u : View). Has (Whole s) u.areas)
          (same_view i u (bucket_at site.shape s b) (bucket_at site.shape s b) a ((h.structure.fits.whole i u s a whole).1 b near) has refl) whole),
    )

    pub newest_is : MayBeNewest site v words
    newest_is = record {
      structure = h.structure.sound words possible_now;
      says = λ fact has. h.structure.says j v fact words at has possible_now;
      pinned = λ s x has. (h.structure.pinned j v s x at has).3;
      table = h.media.table words possible_now;
      knows = λ i x known. (h.known.knows j v i x at known).0;
      own = λ s b r k none lock hit. h.records.own s b r k (held_watched s b hit.bucket none lock) hit;
      once = λ s b r c t k none lock hit hit'. elim (h.records.once s b r c t k
          (held_watched s (home_of (key_hash site.shape k)) (let near = home_near site.shape k in omega (arith, near)) none lock) hit hit') [
            | inl e ↦ inl e
            | inr m ↦ inr (
              m.2,
              subst (λ (u : View). Has m.2 u.moving)
                  (same_view m.0 m.1 (bucket_at site.shape s (home_of (key_hash site.shape k))) (bucket_at site.shape m.2.segment (home_of (key_hash site.shape m.2.key))) m.3 (h.records.held m.0 m.1 m.2 m.3 m.4).0 lock
                  (ap (λ z. bucket_at site.shape z (home_of (key_hash site.shape m.2.key))) (sym m.5.0) ∙ ap (λ z. bucket_at site.shape s (home_of (key_hash site.shape z))) (sym m.5.1))) m.4,
              m.5,
            )
          ];
      exact = λ s b none seg near lock owes. h.notes_of_homes.exact s b (held_watched s b (omega (arith, near)) none lock) near (λ i u o a has e f.
          owes o (subst (λ (u : View). Has o u.owed) (same_view i u (bucket_at site.shape s b) (bucket_at site.shape o.segment o.home) a (h.notes_of_homes.held i u o a has) lock
          (ap (λ z. bucket_at site.shape z o.home) e ∙ ap (bucket_at site.shape s) f)) has) e f);
      owes = λ o has. h.notes_of_homes.owes j v o at has;
    }

    -- ---- media
    -- at a held word a possible medium has the newest core, or that of a value that the view has loose there
    pub own_leaves : (m : Words) → IsPossible site words views m → (i : ℕ) → HoldsWord site.shape v i
        → (core site.shape m i ≡ core site.shape words i) ⊎ ((x : ℕ) × IsLoose v (i, x) × (core site.shape m i ≡ core_of site.shape i x))
    own_leaves m p i holds = elim (p i (held_within j v i at holds)) [
      | inl e ↦ inl e
      | inr e ↦ (let q = one_holder site words views grounds h.structure.fits e.0 j i e.1 v e.3 at (h.known.loose e.0 e.1 i e.2 e.3 e.4) holds in
          inr (e.2, subst (λ (u : View). IsLoose u (i, e.2)) (is_v views j v v at e.0 e.1 e.3 q) e.4, e.5))
    ]

    -- so it has the cores of the words that the view knows and has not loose
    core_agrees : (m : Words) → IsPossible site words views m → (i x : ℕ) → Has (i, x) v.known → ((y : ℕ) → IsLoose v (i, y) → ⊥) → core site.shape m i ≡ core site.shape words i
    core_agrees m p i x known firm = elim (own_leaves m p i (h.known.knows j v i x at known).1) [ inl e ↦ e | inr e ↦ absurd (firm e.0 e.1) ]

    -- so it has them whole, once it has the newest words wherever it has their cores
    whole_agrees : (m : Words) → IsPossible site words views m → Agrees site v (whole_beside site words m)
    whole_agrees m p i x known firm =
        ap (λ b. cond b (words i) (m i)) (eq-eqb (core site.shape m i) (core site.shape words i) (core_agrees m p i x known firm)) ∙ (h.known.knows j v i x at known).0

    -- the owner of a hash is that of now, where it is the segment of a lock that the view holds
    pub medium_owner : (m : Words) → IsPossible site words views m → (s b k : ℕ) → b < buckets → HasLock v.held (bucket_at site.shape s b) → owner_of site.shape words k ≡ Some s
        → owner_of site.shape m k ≡ Some s
    medium_owner m p s b k near lock own = elim (h.structure.owners.same m p k) [
      | inl e ↦ e ∙ own
      | inr q ↦ absurd (let e : q.0 ≡ s = same_Some q.0 s (sym q.1 ∙ own) in
          side_dies site words views q.0 (h.structure.fits.side q.2.0 q.2.1 q.0 q.2.2 q.2.3).1 (subst (λ (z : ℕ). LivesOn site words views z) (sym e) (held_living s b near lock).1))
    ]

    -- a possible medium of which the known words are whole stands beside the newest
    stands : (m : Words) → IsPossible site words views m → Agrees site v m → MayStandBeside site v words m
    stands m p agree = record {
      structure = h.structure.sound m p;
      says = λ fact has. h.structure.says j v fact m at has p;
      table = h.media.table m p;
      agrees = agree;
      leaves = own_leaves m p;
      owner = λ s b k near lock own. medium_owner m p s b k near lock own;
    }

    pub beside : (m : Words) → IsPossible site words views m → MayStandBeside site v words (whole_beside site words m)
    beside m p = stands (whole_beside site words m) (whole_possible m p) (whole_agrees m p)

    pub beside_self : MayStandBeside site v words words
    beside_self = stands words possible_now (λ i x known firm. (h.known.knows j v i x at known).0)

pub known_is_so : KnownIsSo
known_is_so = record {
  newest = λ site words views j v h at. newest_is site words views h j v at;
  beside = λ site words medium views j v h at p. beside site words views h j v at medium p;
  itself = λ site words views j v h at. beside_self site words views h j v at;
}
