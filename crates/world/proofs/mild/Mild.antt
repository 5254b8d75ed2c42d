-- A step is mild: what it changes of buckets lies in no current segment but one that the stepper has whole. Such a step keeps plans,
-- records and the notes of homes.
use Rattle.std.proofs.Common.{◌≡◌, ◌≢◌, ◌⊎◌, ℕ, ◌+◌, ◌<◌, ◌≤◌, List, [], set, Option, Some, inl, inr, refl, sym, ap, ◌∙◌, subst, arith}
use Rattle.std.proofs.lemmas.Bool.{cases_eq}
use Rattle.std.specs.Option.{unwrap_or}
use Rattle.hash_word.specs.Hash.{home_of}
use Rattle.trace.specs.Events.{Words}
use Rattle.image_layout.specs.Places.{Shape, block, bucket_at, homes, buckets}
use Rattle.map_model.specs.declared.call.Call.{Call}
use Rattle.map_model.specs.Map.{key_of}
use Rattle.sound_image.specs.Records.{key_hash}
use Rattle.frame_facts.specs.Core.{core_of}
use Rattle.frame_facts.specs.Hits.{Hit, find}
use Rattle.frame_facts.specs.Owners.{SameOwners, owner_of, home_at}
use Rattle.frame_facts.proofs.segments.Cores.{hit_of_cores}
use Rattle.frame_facts.proofs.segments.Noted.{exact_same}
use Rattle.world.specs.Ground.{Ground, IsCurrentIn}
use Rattle.world.specs.Views.{Move, Owed, View, Has, At, HasLock}
use Rattle.world.specs.Conditions.{IsOwed, HoldsMove}
use Rattle.world.specs.Parts.{Plans, NobodyOwes}
use Rattle.world.specs.Invariant.{IsWatched, Records, Overflow, Holds}
use Rattle.world.specs.areas.Areas.{Whole}
use Rattle.world.specs.areas.Asking.{IsInOrder}
use Rattle.world.proofs.basics.Grounds.{home_near}
use Rattle.world.proofs.basics.Lists.{set_here, set_there}
use Rattle.world.proofs.basics.Seats.{each, is_v, carry}
use Rattle.world.proofs.basics.Structures.{one_segment}
use Rattle.world.proofs.holding.Owing.{same_notes, owed_same}
use Rattle.world.proofs.invariant.KeepPlans.{IsKept, plans_law}

-- the buckets of a segment are as they were, but for their lock words
abbrev pub SameBuckets : Shape → Words → Words → ℕ → Type 0
SameBuckets shape words us t = t < shape.segments → (c n : ℕ) → c < buckets → 1 ≤ n → n < block → us (bucket_at shape t c + n) ≡ words (bucket_at shape t c + n)

-- a segment is safe from a view: it is current, and the view has it not whole
abbrev pub IsSafe : Ground → Words → View → ℕ → Type 0
IsSafe site words v t = IsCurrentIn site words t × (Has (Whole t) v.areas → ⊥)

-- A STEP IS MILD, where a view w comes after v and words us after words: safe segments keep their buckets, and their hashes; what others may
-- rest on after is in order, or was safe; and the view does what it does with nothing planned or owed, or changes no bucket
pub record IsMild (site : Ground) (words us : Words) (v w : View) : Type 0 where
  pub stays : (t : ℕ) → IsSafe site words v t → SameBuckets site.shape words us t
  pub owners : (h : ℕ) → IsSafe site words v (unwrap_or (owner_of site.shape words h) 0) → owner_of site.shape us h ≡ owner_of site.shape words h
  pub watched : (t : ℕ) → IsCurrentIn site us t → (Has (Whole t) w.areas → ⊥) → IsInOrder site us t ⊎ IsSafe site words v t
  pub pairs : (k : ℕ) → find site.shape us k ≡ find site.shape words k
  pub planned : w.planned ≡ v.planned
  pub moving : w.moving ≡ v.moving
  pub owed : w.owed ≡ v.owed
  pub plans : (v.planned ≡ []) ⊎ (((t : ℕ) → SameBuckets site.shape words us t) × SameOwners site.shape words us × (w.held ≡ v.held))
  pub moves : (v.moving ≡ []) ⊎ (w.held ≡ v.held)
  pub owes : (v.owed ≡ []) ⊎ (((t : ℕ) → SameBuckets site.shape words us t) × (w.held ≡ v.held))

-- a record in such a bucket stood there before
pub hit_there : (shape : Shape) (words us : Words) (t : ℕ) → SameBuckets shape words us t → (b r k : ℕ) → Hit shape us t b r k → Hit shape words t b r k
hit_there shape words us t same b r k hit = hit_of_cores shape us words t b hit.segment hit.bucket
    (λ n above inside. ap (core_of shape (bucket_at shape t b + n)) (same hit.segment b n hit.bucket above inside)) r k hit

-- a segment whose buckets and hashes stay is in order as it was
pub order_stays : (site : Ground) (words us : Words) (s : ℕ) → s < site.shape.segments → SameBuckets site.shape words us s → SameOwners site.shape words us → IsInOrder site words s → IsInOrder site us s
order_stays site words us s slot same owners o = record {
  own = λ b r k hit. owners (key_hash site.shape k) ∙ o.own b r k (hit_there site.shape words us s same b r k hit);
  once = λ b r c t k hit other. o.once b r c t k (hit_there site.shape words us s same b r k hit) (hit_there site.shape words us s same c t k other);
  exact = λ b near. exact_same site.shape words us s b (same_notes site.shape words us s b slot near (same slot)) (o.exact b near);
}

-- what another view has a lock of is safe
pub locked : (site : Ground) (words : Words) (views : List View) (j : ℕ) (v : View) → Holds site words views → At views j v
    → (c : ℕ) (u : View) (t b : ℕ) → c ≢ j → At views c u → b < buckets → HasLock u.held (bucket_at site.shape t b) → IsSafe site words v t
locked site words views j v h at c u t b ne a near l =
    let q = h.structure.fits.lock c u (bucket_at site.shape t b) a l in (
      subst (λ (z : ℕ). IsCurrentIn site words z) (one_segment site.shape t b q.segment q.bucket near q.near q.is) q.current,
      λ whole. let mine = (h.structure.fits.whole j v t at whole).1 b near in
          ne (h.locks.alone c j u v (bucket_at site.shape t b) l.0 mine.0 a at l.1 mine.1),
    )

module _ (site : Ground) (words us : Words) (views : List View) (j : ℕ) (v w : View) (h : Holds site words views) (at : At views j v) (mild : IsMild site words us v w) where
  still_owner : (t hash : ℕ) → IsSafe site words v t → owner_of site.shape words hash ≡ Some t → owner_of site.shape us hash ≡ Some t
  still_owner t hash safe own = mild.owners hash (subst (λ (o : Option ℕ). IsSafe site words v (unwrap_or o 0)) (sym own) safe) ∙ own

  -- what others may rest on after is in order, or they could before
  watched_before : (t : ℕ) → IsWatched site us (set views j w) t → IsInOrder site us t ⊎ (IsSafe site words v t × IsWatched site words views t)
  watched_before t q = elim (mild.watched t q.0 (q.1 j w (set_here views j v w at))) [
    | inl order ↦ inl order
    | inr safe ↦ inr (
      safe,
      (
        safe.0,
        λ c u a whole. elim (cases_eq c j) [
          | inl e ↦ safe.1 (subst (λ (z : View). Has (Whole t) z.areas) (is_v views j v w at c u a e) whole)
          | inr n ↦ q.1 c u (set_there views j c u w n a) whole
        ],
      ),
    )
  ]

  was : (t b r k : ℕ) → IsSafe site words v t → Hit site.shape us t b r k → Hit site.shape words t b r k
  was t b r k safe hit = hit_there site.shape words us t (mild.stays t safe) b r k hit

  -- ---- records
  my_moves : (m : Move) → Has m w.moving → HoldsMove site.shape w.held m
  my_moves m has =
      let old = subst (λ (ms : List Move). Has m ms) mild.moving has in elim mild.moves [
        | inl none ↦ absurd (subst (λ (ms : List Move). Has m ms) none old)
        | inr held ↦ subst (λ (l : List (ℕ × ℕ)). HoldsMove site.shape l m) (sym held) (h.records.held j v m at old)
      ]

  pub records : Records site us (set views j w)
  records = record {
    own = λ t b r k watched hit. elim (watched_before t watched) [
      | inl order ↦ order.own b r k hit
      | inr safe ↦ still_owner t (key_hash site.shape k) safe.0 (h.records.own t b r k safe.1 (was t b r k safe.0 hit))
    ];
    once = λ t b r c e k watched hit other. elim (watched_before t watched) [
      | inl order ↦ inl (order.once b r c e k hit other)
      | inr safe ↦ elim (h.records.once t b r c e k safe.1 (was t b r k safe.0 hit) (was t c e k safe.0 other)) [
        | inl same ↦ inl same
        | inr m ↦ inr (let q = carry views j v w at (λ _ u. Has m.2 u.moving) (λ has. subst (λ (ms : List Move). Has m.2 ms) (sym mild.moving) has) m.0 m.1 m.3 m.4 in
            (m.0, q.0, m.2, q.1, q.2, m.5))
      ]
    ];
    held = λ c u m a. each views j v w at (λ _ u. Has m u.moving → HoldsMove site.shape u.held m) (my_moves m) (λ c u n a has. h.records.held c u m a has) c u a;
  }

  -- ---- the notes of homes
  nobody_before : (t b : ℕ) → NobodyOwes (set views j w) t b → NobodyOwes views t b
  nobody_before t b none c u o a has e f = elim (cases_eq c j) [
    | inl q ↦ none j w o (set_here views j v w at) (subst (λ (os : List Owed). Has o os) (sym mild.owed) (subst (λ (z : View). Has o z.owed) (is_v views j v w at c u a q) has)) e f
    | inr n ↦ none c u o (set_there views j c u w n a) has e f
  ]

  still_owed : (o : Owed) → o.segment < site.shape.segments → o.home < homes → SameBuckets site.shape words us o.segment → IsOwed site.shape words o → IsOwed site.shape us o
  still_owed o slot near same is = owed_same site.shape words us o (same_notes site.shape words us o.segment o.home slot near (same slot)).stashed is

  my_debt : (o : Owed) → Has o w.owed → IsOwed site.shape us o × HasLock w.held (bucket_at site.shape o.segment o.home)
  my_debt o has =
      let old = subst (λ (os : List Owed). Has o os) mild.owed has in
      let f = h.notes_of_homes.fits j v o at old in elim mild.owes [
        | inl none ↦ absurd (subst (λ (os : List Owed). Has o os) none old)
        | inr q ↦ (
          still_owed o f.0 f.1 (q.0 o.segment) (h.notes_of_homes.owes j v o at old),
          subst (λ (l : List (ℕ × ℕ)). HasLock l (bucket_at site.shape o.segment o.home)) (sym q.1) (h.notes_of_homes.held j v o at old),
        )
      ]

  pub notes_of_homes : Overflow site us (set views j w)
  notes_of_homes = record {
    exact = λ t b watched near none. elim (watched_before t watched) [
      | inl order ↦ order.exact b near
      | inr safe ↦ exact_same site.shape words us t b (same_notes site.shape words us t b safe.0.0.live.slot near (mild.stays t safe.0 safe.0.0.live.slot))
          (h.notes_of_homes.exact t b safe.1 near (nobody_before t b none))
    ];
    owes = λ c u o a. each views j v w at (λ _ u. Has o u.owed → IsOwed site.shape us o) (λ has. (my_debt o has).0)
        (λ c u n a has. let f = h.notes_of_homes.fits c u o a has in
        still_owed o f.0 f.1 (mild.stays o.segment (locked site words views j v h at c u o.segment o.home n a (omega (arith, f.1)) (h.notes_of_homes.held c u o a has)))
        (h.notes_of_homes.owes c u o a has)) c u a;
    held = λ c u o a. each views j v w at (λ _ u. Has o u.owed → HasLock u.held (bucket_at site.shape o.segment o.home)) (λ has. (my_debt o has).1)
        (λ c u n a has. h.notes_of_homes.held c u o a has) c u a;
    fits = λ c u o a. each views j v w at (λ _ u. Has o u.owed → (o.segment < site.shape.segments) × (o.home < homes))
        (λ has. h.notes_of_homes.fits j v o at (subst (λ (os : List Owed). Has o os) mild.owed has)) (λ c u n a has. h.notes_of_homes.fits c u o a has) c u a;
  }

  -- ---- planned changes
  -- what is said of one, where the segment that owns its key keeps its buckets and the key
  kept : (u x : View) (c : Call) → x.held ≡ u.held → owner_of site.shape us (key_hash site.shape (key_of c)) ≡ owner_of site.shape words (key_hash site.shape (key_of c))
      → ((t : ℕ) → owner_of site.shape words (key_hash site.shape (key_of c)) ≡ Some t → SameBuckets site.shape words us t)
      → IsKept site words u h.log c → IsKept site us x h.log c
  kept u x c held same there o = (
    (λ t b r own hit. subst (λ (l : List (ℕ × ℕ)). HasLock l (bucket_at site.shape t b)) (sym held)
        (o.0 t b r (sym same ∙ own) (hit_there site.shape words us t (there t (sym same ∙ own)) b r (key_of c) hit))),
    subst (λ (l : List (ℕ × ℕ)). HasLock l (home_at site.shape us (key_of c))) (sym held)
        (subst (λ (z : Option ℕ). HasLock u.held (bucket_at site.shape (unwrap_or z 0) (home_of (key_hash site.shape (key_of c))))) (sym same) o.1),
    mild.pairs (key_of c) ∙ o.2,
    o.3,
  )

  pub plans : Plans site us (set views j w) h.log
  plans = plans_law site words us views h.log h.log j v w at h.plans
      (λ a u c n b has o.
      let safe = locked site words views j v h at a u (unwrap_or (owner_of site.shape words (key_hash site.shape (key_of c))) 0)
      (home_of (key_hash site.shape (key_of c))) n b (omega (arith, home_near site.shape (key_of c))) o.1 in
      kept u u c refl (mild.owners (key_hash site.shape (key_of c)) safe)
      (λ t own. mild.stays t (subst (λ (z : Option ℕ). IsSafe site words v (unwrap_or z 0)) own safe)) o)
      (λ c has.
      let old = subst (λ (cs : List Call). Has c cs) mild.planned has in elim mild.plans [
        | inl none ↦ absurd (subst (λ (cs : List Call). Has c cs) none old)
        | inr q ↦ kept v w c q.2 (q.1 (key_hash site.shape (key_of c))) (λ t own. q.0 t)
            (h.plans.places j v c at old, h.plans.held j v c at old, h.plans.stored j v c at old, h.plans.fits j v c at old)
      ])
