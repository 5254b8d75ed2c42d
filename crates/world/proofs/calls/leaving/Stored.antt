-- Whatever a cut may leave is a table and stands in the history after a store of a caller.
use Rattle.std.proofs.Common.{◌≡◌, ◌⊎◌, ℕ, ◌+◌, ◌<◌, List, ◌∷◌, set, Option, Some, inl, inr, refl, sym, ap, ◌∙◌, subst}
use Rattle.std.proofs.lemmas.Bool.{cases_eq}
use Rattle.trace.specs.Events.{Words, with_word}
use Rattle.image_layout.specs.Places.{bucket_at}
use Rattle.map_model.specs.declared.call.Call.{Call}
use Rattle.map_model.specs.declared.call.Call.TheVariants.{Remove}
use Rattle.map_model.specs.Map.{key_of}
use Rattle.sound_image.specs.Records.{key_hash}
use Rattle.frame_facts.specs.Core.{core}
use Rattle.frame_facts.specs.Standing.{IsTable}
use Rattle.frame_facts.specs.Hits.{Hit, find}
use Rattle.frame_facts.specs.Owners.{owner_of}
use Rattle.frame_facts.proofs.segments.Places.{owner_kept}
use Rattle.world.specs.Ground.{Ground}
use Rattle.world.specs.Views.{Move, Owed, View, Has, At, HasLock}
use Rattle.world.specs.Media.{IsPossible, Stands}
use Rattle.world.specs.Parts.{IsRemoving}
use Rattle.world.specs.Invariant.{IsWatched, Media, Holds}
use Rattle.world.specs.Conditions.{IsNewest, StandsBeside, IsTidy, TakesFromStash, IsHarmless, IsPublishing}
use Rattle.world.specs.areas.Keeping.{whole_beside}
use Rattle.world.specs.areas.Bridging.{HasNoWhole}
use Rattle.world.proofs.basics.Lists.{set_here}
use Rattle.world.proofs.basics.Seats.{guarded_within, guarded_structure}
use Rattle.world.proofs.basics.Structures.{current_back}
use Rattle.world.proofs.basics.Tables.{same_keeps, same_hit, core_owner, cores_with}
use Rattle.world.proofs.invariant.KeepMedia.{planned_stays, removing_stays, storer, grown}
use Rattle.world.proofs.moving.Known.{whole_cores, whole_possible}
use Rattle.world.proofs.moving.media.MediaKept.{watched_before}
use Rattle.world.proofs.mild.Bridging.{callers_know}

module _ (site : Ground) (words : Words) (views : List View) (j : ℕ) (v : View) (h : Holds site words views) (at : At views j v) (none : HasNoWhole v) where
  abbrev old_of : Words → Words
  old_of m = whole_beside site words m

  is_newest : IsNewest site v words
  is_newest = callers_know.newest site words views j v h at none

  is_beside : (m : Words) → IsPossible site words views m → StandsBeside site v words (old_of m)
  is_beside m p = callers_know.beside site words m views j v h at none p

  -- what is said of one medium after a store
  abbrev IsFine : ℕ → ℕ → View → Words → Type 0
  IsFine i x w m = IsTable site.shape m × ((k : ℕ) → Stands site (set views j w) h.log k (find site.shape m k))
      × ((s c t k : ℕ) → IsWatched site (with_word words i x) (set views j w) s → c < 2 → owner_of site.shape m (key_hash site.shape k) ≡ Some s → Hit site.shape m s (64 + c) t k
      → Hit site.shape (with_word words i x) s (64 + c) t k ⊎ IsRemoving (set views j w) k (bucket_at site.shape s (64 + c)))

  module _ (i x : ℕ) (calls : List Call) (moves : List Move) (owed : List Owed) {twin : ℕ → ℕ → ℕ → ℕ → ℕ → ℕ → Type 0} {home taken : ℕ → ℕ → Type 0}
      (tidy : IsTidy site v i x twin home taken) (keeps : (call : Call) → Has call v.planned → Has call calls) (take : (k lock : ℕ) → taken k lock → Has (Remove k) calls × HasLock v.held lock) where
    abbrev w : View
    w = storer site words i x calls moves owed v

    -- a segment that is watched after it was so before: a guarded word is no header, and no areas change
    was_watched : (s : ℕ) → IsWatched site (with_word words i x) (set views j w) s → IsWatched site words views s
    was_watched s watched = watched_before site words views j v h at (with_word words i x) w s
        (current_back site words (with_word words i x) (guarded_structure site words views h.locks j v i x at tidy.guarded words) s watched.0) (λ has. has) watched

    -- a record of the stash stays there in the newest words, or its key is being removed
    removes : (s c t k : ℕ) → c < 2 → Hit site.shape words s (64 + c) t k ⊎ IsRemoving views k (bucket_at site.shape s (64 + c))
        → Hit site.shape (with_word words i x) s (64 + c) t k ⊎ IsRemoving (set views j w) k (bucket_at site.shape s (64 + c))
    removes s c t k small (inl hit) = elim (tidy.stash words is_newest s c t k small hit) [
      | inl e ↦ inl e
      | inr q ↦ (let r = take k (bucket_at site.shape s (64 + c)) q in inr (j, w, set_here views j v w at, r.0, r.1))
    ]
    removes s c t k small (inr r) = inr (removing_stays views j v w at k (bucket_at site.shape s (64 + c)) (λ has l. (keeps (Remove k) has, l)) r)

    -- so does one that a medium had there before
    stood : (m : Words) → IsPossible site words views m → (s c t k : ℕ) → IsWatched site (with_word words i x) (set views j w) s → c < 2
        → owner_of site.shape m (key_hash site.shape k) ≡ Some s → Hit site.shape m s (64 + c) t k
        → Hit site.shape (with_word words i x) s (64 + c) t k ⊎ IsRemoving (set views j w) k (bucket_at site.shape s (64 + c))
    stood m p s c t k watched small own hit = removes s c t k small (h.media.stashed m p s c t k (was_watched s watched) small own hit)

    old : (m : Words) → IsPossible site words views m → IsFine i x w m
    old m p = (
      h.media.table m p,
      (λ k. elim (h.media.stands m p k) [
        | inl e ↦ inl e
        | inr s ↦ inr (planned_stays views j v w at k (find site.shape m k) (λ call has _. keeps call has) s)
      ]),
      (λ s c t k watched small own hit. stood m p s c t k watched small own hit),
    )

    -- what a store does to a medium it does to the one with whole words
    stored_cores : (m : Words) (n : ℕ) → core site.shape (with_word (old_of m) i x) n ≡ core site.shape (with_word m i x) n
    stored_cores m = cores_with site (old_of m) m i x (whole_cores site words m)

    -- who owns a hash with the store owned it without
    owned : (m n : Words) → ((a : ℕ) → core site.shape (with_word (old_of m) i x) a ≡ core site.shape n a) → (s k : ℕ) → owner_of site.shape n (key_hash site.shape k) ≡ Some s
        → owner_of site.shape (old_of m) (key_hash site.shape k) ≡ Some s
    owned m n cores s k own = sym (owner_kept site.shape (old_of m) (with_word (old_of m) i x) (guarded_structure site words views h.locks j v i x at tidy.guarded (old_of m)) (key_hash site.shape k))
        ∙ (core_owner site n (with_word (old_of m) i x) (λ a _. cores a) (key_hash site.shape k) ∙ own)

    new : (m : Words) → IsPossible site words views m → IsTable site.shape (with_word (old_of m) i x)
        → ((k : ℕ) → Stands site (set views j w) h.log k (find site.shape (with_word (old_of m) i x) k)) → (n : Words) → ((a : ℕ) → core site.shape (with_word m i x) a ≡ core site.shape n a) → IsFine i x w n
    new m p table stands n same =
        let cores : (a : ℕ) → core site.shape (with_word (old_of m) i x) a ≡ core site.shape n a = λ a. stored_cores m a ∙ same a in
        let kept = same_keeps site (with_word (old_of m) i x) n (λ a _. cores a) table in (
          kept.table,
          (λ k. subst (λ (a : Option ℕ). Stands site (set views j w) h.log k a) (sym (kept.pairs k)) (stands k)),
          (λ s c t k watched small own hit. elim (tidy.alike words (old_of m) is_newest (is_beside m p) s c t k small
              (same_hit site n (with_word (old_of m) i x) (λ a _. sym (cores a)) s (64 + c) t k hit)) [
                | inl e ↦ inl e
                | inr q ↦ stood (old_of m) (whole_possible site words views h m p) s c t k watched small (owned m n cores s k own) q
              ]),
        )

    media_store : ((m : Words) → IsPossible site words views m → IsTable site.shape (with_word (old_of m) i x)
        × ((k : ℕ) → Stands site (set views j w) h.log k (find site.shape (with_word (old_of m) i x) k))) → Media site (with_word words i x) (set views j w) h.log
    media_store made =
        let all : (m : Words) → IsPossible site (with_word words i x) (set views j w) m → IsFine i x w m =
        λ m p. elim (grown site words views j v at i x calls moves owed (guarded_within site words views h.locks j v i at tidy.guarded) m p) [
          | inl q ↦ old m q
          | inr q ↦ (let r = made q.0 q.1 in new q.0 q.1 r.0 r.1 m q.2)
        ] in
        record { table = λ m p. (all m p).0; stashed = λ m p. (all m p).2; stands = λ m p k. (all m p).1 k }

  -- a store that changes no pair
  pub harmless : (i x : ℕ) (moves : List Move) (owed : List Owed) {twin : ℕ → ℕ → ℕ → ℕ → ℕ → ℕ → Type 0} {home : ℕ → ℕ → Type 0} → IsTidy site v i x twin home (λ k lock. ⊥) → IsHarmless site v i x
      → Media site (with_word words i x) (set views j (storer site words i x v.planned moves owed v)) h.log
  harmless i x moves owed tidy keeps = let w = storer site words i x v.planned moves owed v in media_store i x v.planned moves owed tidy (λ call has. has) (λ k lock q. absurd q)
      (λ m p. let r = keeps words (old_of m) is_newest (is_beside m p) in (
        r.table,
        λ k. subst (λ (a : Option ℕ). Stands site (set views j w) h.log k a) (sym (r.pairs k))
            (elim (h.media.stands (old_of m) (whole_possible site words views h m p) k) [
              | inl e ↦ inl e
              | inr s ↦ inr (planned_stays views j v w at k (find site.shape (old_of m) k) (λ call has _. has) s)
            ]),
      ))

  -- a store that makes a change
  pub published : (i x : ℕ) (call : Call) (moves : List Move) (owed : List Owed) {twin : ℕ → ℕ → ℕ → ℕ → ℕ → ℕ → Type 0} {home : ℕ → ℕ → Type 0} → IsTidy site v i x twin home (TakesFromStash site v call)
      → IsPublishing site v call i x → Media site (with_word words i x) (set views j (storer site words i x (call ∷ v.planned) moves owed v)) h.log
  published i x call moves owed tidy publishing = let w = storer site words i x (call ∷ v.planned) moves owed v in
      media_store i x (call ∷ v.planned) moves owed tidy (λ c has. inr has) (λ k lock q. (inl (sym q.0), q.1))
      (λ m p. let r = (publishing words (old_of m) is_newest (is_beside m p)).1 in (
        r.table,
        λ k. elim (cases_eq k (key_of call)) [
          | inl e ↦ inr (j, w, call, set_here views j v w at, inl refl, sym e, sym (ap (find site.shape (with_word (old_of m) i x)) e ∙ r.here))
          | inr n ↦ subst (λ (a : Option ℕ). Stands site (set views j w) h.log k a) (sym (r.elsewhere k n))
              (elim (h.media.stands (old_of m) (whole_possible site words views h m p) k) [
                | inl e ↦ inl e
                | inr s ↦ inr (planned_stays views j v w at k (find site.shape (old_of m) k) (λ c has _. inr has) s)
              ])
        ],
      ))
