-- A view that has no segment whole knows what the conditions of callers' kinds rest on.
use Rattle.std.proofs.Common.{◌≡◌, ℕ, ◌+◌, ◌<◌, List, [], Some, inl, inr, refl, sym, ap, ◌∙◌, subst, arith}
use Rattle.std.specs.Option.{unwrap_or}
use Rattle.hash_word.specs.Hash.{home_of}
use Rattle.trace.specs.Events.{Words}
use Rattle.image_layout.specs.Places.{bucket_at, buckets, homes}
use Rattle.map_model.specs.declared.call.Call.TheVariants.{Remove}
use Rattle.map_model.specs.Map.{key_of}
use Rattle.sound_image.specs.Records.{key_hash}
use Rattle.frame_facts.specs.Buckets.{value_in}
use Rattle.frame_facts.specs.Hits.{Hit, find}
use Rattle.frame_facts.specs.Owners.{owner_of, home_at}
use Rattle.frame_facts.proofs.segments.Finding.{find_is}
use Rattle.world.specs.Ground.{Ground}
use Rattle.world.specs.Views.{Move, View, Has, At, HasLock}
use Rattle.world.specs.History.{map_now}
use Rattle.world.specs.Media.{IsPossible}
use Rattle.world.specs.Parts.{IsRemoving}
use Rattle.world.specs.Invariant.{Holds}
use Rattle.world.specs.Conditions.{IsUnplanned, IsNewest, StandsBeside, IsMapNow}
use Rattle.world.specs.areas.Asking.{MayStandBeside}
use Rattle.world.specs.areas.Keeping.{whole_beside}
use Rattle.world.specs.areas.Bridging.{HasNoWhole, CallersKnowAsBefore}
use Rattle.world.proofs.basics.Grounds.{home_near}
use Rattle.world.proofs.fitting.OneHolder.{side_dies}
use Rattle.world.proofs.moving.Known as known

module _ (site : Ground) (words : Words) (views : List View) (j : ℕ) (v : View) (h : Holds site words views) (at : At views j v) (none : HasNoWhole v) where
  newest_is : IsNewest site v words
  newest_is = let n = known.newest_is site words views h j v at in record {
    structure = n.structure;
    says = n.says;
    pinned = n.pinned;
    table = n.table;
    knows = n.knows;
    own = λ s b r k. n.own s b r k (none s);
    once = λ s b r c t k. n.once s b r c t k (none s);
    exact = λ s b. n.exact s b (none s);
    owes = n.owes;
  }

  home_low : (k : ℕ) → home_of (key_hash site.shape k) < buckets
  home_low k = omega (arith, home_near site.shape k)

  -- whoever removes a key whose home lock the view holds, in the segment that owns it in a medium, is this view
  remover : (m : Words) → IsPossible site words views m → (s k lock : ℕ) → HasLock v.held (bucket_at site.shape s (home_of (key_hash site.shape k)))
      → owner_of site.shape m (key_hash site.shape k) ≡ Some s → IsRemoving views k lock → Has (Remove k) v.planned
  remover m p s k lock has own r =
      let g = h.plans.held r.0 r.1 (Remove k) r.2 r.3 in elim (h.structure.owners.same m p (key_hash site.shape k)) [
        | inl e ↦
            let same : home_at site.shape words k ≡ bucket_at site.shape s (home_of (key_hash site.shape k)) =
            ap (λ z. bucket_at site.shape (unwrap_or z 0) (home_of (key_hash site.shape k))) (sym e ∙ own) in
            subst (λ (u : View). Has (Remove k) u.planned)
            (known.same_view site words views h j v at r.0 r.1 (bucket_at site.shape s (home_of (key_hash site.shape k))) (home_at site.shape words k) r.2 g has same) r.3
        | inr q ↦
            let there : home_at site.shape words k ≡ bucket_at site.shape q.0 (home_of (key_hash site.shape k)) =
            ap (λ z. bucket_at site.shape (unwrap_or z 0) (home_of (key_hash site.shape k))) q.1 in
            absurd (side_dies site words views q.0 (h.structure.fits.side q.2.0 q.2.1 q.0 q.2.2 q.2.3).1
            (known.held_living site words views h r.0 r.1 r.2 q.0 (home_of (key_hash site.shape k)) (home_low k) (subst (λ (z : ℕ). HasLock r.1.held z) there g)).1)
      ]

  -- a medium that may be left and stands beside the newest words does so for the conditions of callers
  stands : (m : Words) → IsPossible site words views m → MayStandBeside site v words m → StandsBeside site v words m
  stands m p o = record {
    structure = o.structure;
    says = o.says;
    table = o.table;
    agrees = o.agrees;
    owner = λ s k lock own. o.owner s (home_of (key_hash site.shape k)) (key_hash site.shape k) (home_low k) lock own;
    stashed = λ s c t k small lock free own hit.
        elim (h.media.stashed m p s c t k (known.held_watched site words views h j v at s (home_of (key_hash site.shape k)) (home_low k) (none s) lock) small own hit) [
          | inl e ↦ e
          | inr r ↦ absurd (free (Remove k) (remover m p s k (bucket_at site.shape s (homes + c)) lock own r) refl)
        ];
  }

  -- where no change of a key is planned, whose home lock is held, the newest words have what the history gives
  held_is_map : (k : ℕ) → HasLock v.held (home_at site.shape words k) → IsUnplanned site v k → find site.shape words k ≡ map_now site.start h.log k
  held_is_map k has free = elim (h.media.stands words (known.possible_now site words views h) k) [
    | inl e ↦ e
    | inr s ↦ absurd (free s.2 (subst (λ (u : View). Has s.2 u.planned)
        (known.same_view site words views h j v at s.0 s.1 (home_at site.shape words k) (home_at site.shape words (key_of s.2)) s.3 (h.plans.held s.0 s.1 s.2 s.3 s.4) has
        (ap (home_at site.shape words) s.5)) s.4) s.5)
  ]

  slot_is_pair : (s b r k : ℕ) → HasLock v.held (bucket_at site.shape s b) → IsUnplanned site v k → owner_of site.shape words (key_hash site.shape k) ≡ Some s → Hit site.shape words s b r k
      → map_now site.start h.log k ≡ Some (value_in words (bucket_at site.shape s b) r)
  slot_is_pair s b r k lock free own hit =
      let found = find_is site.shape words (h.media.table words (known.possible_now site words views h)) s b r k hit own in
      elim (h.media.stands words (known.possible_now site words views h) k) [
        | inl e ↦ sym e ∙ found
        | inr p ↦ absurd (let l = h.plans.places p.0 p.1 p.2 p.3 p.4 s b r (subst (λ (z : ℕ). owner_of site.shape words (key_hash site.shape z) ≡ Some s) (sym p.5) own)
            (subst (λ (z : ℕ). Hit site.shape words s b r z) (sym p.5) hit) in
            let e = known.same_view site words views h j v at p.0 p.1 (bucket_at site.shape s b) (bucket_at site.shape s b) p.3 l lock refl in
            free p.2 (subst (λ (u : View). Has p.2 u.planned) e p.4) p.5)
      ]

  slots_differ : (s b r c t k : ℕ) → HasLock v.held (bucket_at site.shape s b) → v.moving ≡ [] → Hit site.shape words s b r k → Hit site.shape words s c t k → (b ≡ c) × (r ≡ t)
  slots_differ s b r c t k lock still x y = elim (h.records.once s b r c t k (known.held_watched site words views h j v at s b x.bucket (none s) lock) x y) [
    | inl e ↦ e
    | inr m ↦ absurd (let l = h.records.held m.0 m.1 m.2 m.3 m.4 in let is = m.5 in
        let has : HasLock m.1.held (bucket_at site.shape s b) = elim is.2 [
          | inl p ↦ subst (λ (z : ℕ). HasLock m.1.held (bucket_at site.shape z b)) (sym is.0) (subst (λ (z : ℕ). HasLock m.1.held (bucket_at site.shape m.2.segment z)) (sym p.0) l.1)
          | inr p ↦ subst (λ (z : ℕ). HasLock m.1.held (bucket_at site.shape z b)) (sym is.0) (subst (λ (z : ℕ). HasLock m.1.held (bucket_at site.shape m.2.segment z)) (sym p.0) l.2)
        ] in
        let e = known.same_view site words views h j v at m.0 m.1 (bucket_at site.shape s b) (bucket_at site.shape s b) m.3 has lock refl in
        subst (λ (ms : List Move). Has m.2 ms) still (subst (λ (u : View). Has m.2 u.moving) e m.4))
  ]

  map_is : IsMapNow site v words (map_now site.start h.log)
  map_is = record {
    known = λ k held free. sym (held_is_map k held free);
    records = slot_is_pair;
    differ = slots_differ;
  }

pub callers_know : CallersKnowAsBefore
callers_know = record {
  newest = λ site words views j v h at none. newest_is site words views j v h at none;
  beside = λ site words medium views j v h at none p.
      stands site words views j v h at none (whole_beside site words medium) (known.whole_possible site words views h medium p) (known.beside site words views h j v at medium p);
  itself = λ site words views j v h at none. stands site words views j v h at none words (known.possible_now site words views h) (known.beside_self site words views h j v at);
  map = λ site words views j v h at none. map_is site words views j v h at none;
}
