-- Whatever a cut may leave is a table and stands in the history after a change drew its place.
use Rattle.std.proofs.Common.{◌≡◌, ℕ, ◌+◌, ◌<◌, List, ◌∷◌, set, cond, None, Some, inl, inr, sym, ap, ◌∙◌, subst, arith}
use Rattle.std.proofs.lemmas.Bool.{cases_eq, eq-eqb, ne_eqb}
use Rattle.std.specs.Option.{unwrap_or}
use Rattle.trace.specs.Events.{Words, with_word}
use Rattle.hash_word.specs.Hash.{home_of, probing_of}
use Rattle.image_layout.specs.Places.{bucket_at, buckets}
use Rattle.image_layout.specs.Volatile.{counter_word}
use Rattle.map_model.specs.declared.call.Call.{Call}
use Rattle.map_model.specs.declared.call.Call.TheVariants.{Remove}
use Rattle.map_model.specs.Map.{key_of}
use Rattle.sound_image.specs.Records.{key_hash}
use Rattle.frame_facts.specs.Core.{core}
use Rattle.frame_facts.specs.Buckets.{value_in}
use Rattle.frame_facts.specs.Hits.{Hit, find}
use Rattle.frame_facts.specs.Owners.{owner_of, home_at}
use Rattle.frame_facts.proofs.segments.Finding.{find_is}
use Rattle.world.specs.Ground.{Ground, IsUnder}
use Rattle.world.specs.Views.{View, At, HasLock}
use Rattle.world.specs.History.{Log, map_now, result_of, change_of}
use Rattle.world.specs.Media.{IsPossible}
use Rattle.world.specs.Parts.{IsRemoving}
use Rattle.world.specs.Invariant.{IsWatched, Media, Holds}
use Rattle.world.specs.Kinds.{draws_place, with_draw}
use Rattle.world.specs.Conditions.{IsNewest, IsKept, May}
use Rattle.world.specs.areas.Bridging.{HasNoWhole}
use Rattle.world.proofs.basics.Grounds.{home_near}
use Rattle.world.proofs.basics.Seats.{of_other_keys_stays}
use Rattle.world.proofs.basics.Structures.{current_back, counter_structure}
use Rattle.world.proofs.basics.Tables.{same_hit, find_places, counter_cores}
use Rattle.world.proofs.invariant.KeepMedia.{planned_stays, removing_stays, possible_fewer}
use Rattle.world.proofs.moving.Known.{possible_now, same_view, held_watched, medium_owner}
use Rattle.world.proofs.moving.media.MediaKept.{watched_before, firm_word}
use Rattle.world.proofs.mild.Bridging.{callers_know}

-- a change that stands in every medium draws its place
module _ (site : Ground) (words : Words) (views : List View) (j : ℕ) (v : View) (h : Holds site words views) (at : At views j v) (none : HasNoWhole v)
    (call : Call) (n x : ℕ) (may : May site (draws_place call) v) where
  abbrev k : ℕ
  k = key_of call

  abbrev s : ℕ
  s = may.2.0

  is_newest : IsNewest site v words
  is_newest = callers_know.newest site words views j v h at none

  own : owner_of site.shape words (key_hash site.shape k) ≡ Some s
  own = may.2.1.0 words is_newest

  near : home_of (key_hash site.shape k) < buckets
  near = omega (arith, home_near site.shape k)

  -- nobody has the segment of the key's home whole
  watched : IsWatched site words views s
  watched = held_watched site words views h j v at s (home_of (key_hash site.shape k)) near (none s) may.2.1.1

  -- each medium has the cores under a lock of which nothing is loose
  firm : (lock : ℕ) → IsKept site v lock → (m : Words) → IsPossible site words views m → (i : ℕ) → IsUnder lock i → core site.shape words i ≡ core site.shape m i
  firm lock q m p i u = sym (firm_word site words views j v h at i (inl (lock, q.0, u)) (λ y l. q.1 (i, y) l u) m p)

  -- the segment owns the key in each medium
  own_there : (m : Words) → IsPossible site words views m → owner_of site.shape m (key_hash site.shape k) ≡ Some s
  own_there m p = medium_owner site words views h j v at m p s (home_of (key_hash site.shape k)) (key_hash site.shape k) near may.2.1.1 own

  -- who removes the key is the view, which holds the lock of the bucket from which it does
  remover : (lock : ℕ) → IsRemoving views k lock → HasLock v.held lock
  remover lock r =
      let e = same_view site words views h j v at r.0 r.1 (bucket_at site.shape s (home_of (key_hash site.shape k))) (home_at site.shape words k) r.2 (h.plans.held r.0 r.1 (Remove k) r.2 r.3) may.2.1.1
      (ap (λ z. bucket_at site.shape (unwrap_or z 0) (home_of (key_hash site.shape k))) own) in
      subst (λ (u : View). HasLock u.held lock) e r.4

  stands_now : (m : Words) → IsPossible site words views m → find site.shape m k ≡ find site.shape words k
  stands_now m p = find_places site words m (h.media.table words (possible_now site words views h)) (h.media.table m p) s k own (own_there m p)
      (firm (bucket_at site.shape s (home_of (key_hash site.shape k))) (may.2.1.1, may.2.2) m p) (firm (bucket_at site.shape s (probing_of (home_of (key_hash site.shape k)))) may.2.3 m p)
      (λ c small. elim (may.2.4 c small) [
        | inl q ↦ inl (firm (bucket_at site.shape s (64 + c)) q m p)
        | inr q ↦ inr (
          q.1 words is_newest,
          (λ t hit. elim (h.media.stashed m p s c t k watched small (own_there m p) hit) [
            | inl e ↦ q.1 words is_newest t e
            | inr r ↦ q.0 (remover (bucket_at site.shape s (64 + c)) r)
          ]),
        )
      ])

  -- a record of the key that is being removed would be found
  gone : (m : Words) → IsPossible site words views m → (q c t l : ℕ) → owner_of site.shape m (key_hash site.shape l) ≡ Some q → Hit site.shape m q (64 + c) t l → l ≡ k
      → IsRemoving views l (bucket_at site.shape q (64 + c)) → ⊥
  gone m p q c t l own' hit e r =
      let there : find site.shape m l ≡ Some (value_in m (bucket_at site.shape q (64 + c)) t) = find_is site.shape m (h.media.table m p) q (64 + c) t l hit own' in
      let absent : find site.shape words l ≡ None = h.plans.stored r.0 r.1 (Remove l) r.2 r.3 in
      let same : find site.shape m l ≡ find site.shape words l = subst (λ (z : ℕ). find site.shape m z ≡ find site.shape words z) (sym e) (stands_now m p) in
      absurd (cc)

  pub drawn : Media site (with_word words (counter_word site.shape) x) (set views j (with_draw call n v)) (change_of call ∷ h.log)
  drawn =
      let w = with_draw call n v in
      let later = with_word words (counter_word site.shape) x in
      let log' : Log = change_of call ∷ h.log in
      let back : (m : Words) → IsPossible site later (set views j w) m → IsPossible site words views m =
      possible_fewer site words later views j v w at (counter_cores site words x) (λ p l. l) in
      let was : (q : ℕ) → IsWatched site later (set views j w) q → IsWatched site words views q =
      λ q is. watched_before site words views j v h at later w q (current_back site words later (counter_structure site.shape words x) q is.0) (λ has. has) is in
      record {
        table = λ m p. h.media.table m (back m p);
        stands = λ m p l. elim (cases_eq l k) [
          | inl e ↦ inl (ap (find site.shape m) e ∙ (stands_now m (back m p)
              ∙ (h.plans.stored j v call at may.0 ∙ sym (ap (λ b. cond b (result_of call) (map_now site.start h.log l)) (eq-eqb l k e)))))
          | inr n ↦ let other : map_now site.start log' l ≡ map_now site.start h.log l = ap (λ b. cond b (result_of call) (map_now site.start h.log l)) (ne_eqb l k n) in
              elim (h.media.stands m (back m p) l) [
                | inl e ↦ inl (e ∙ sym other)
                | inr s ↦ inr (planned_stays views j v w at l (find site.shape m l)
                    (λ c has' key. of_other_keys_stays k v.planned c (λ e. n (sym key ∙ e)) has') s)
              ]
        ];
        stashed = λ m p q c t l is small own' hit. elim (h.media.stashed m (back m p) q c t l (was q is) small own' hit) [
          | inl e ↦ inl (same_hit site words later (λ n near. sym (counter_cores site words x n near)) q (64 + c) t l e)
          | inr r ↦ elim (cases_eq l k) [
            | inl e ↦ absurd (gone m (back m p) q c t l own' hit e r)
            | inr n ↦ inr (removing_stays views j v w at l (bucket_at site.shape q (64 + c)) (λ has lk. (of_other_keys_stays k v.planned (Remove l) n has, lk)) r)
          ]
        ];
      }
