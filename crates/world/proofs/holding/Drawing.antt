-- What a holder has to know to draw the place of a change.
use Rattle.std.proofs.Common.{◌≡◌, ◌⊎◌, ℕ, ◌+◌, ◌/◌, ◌%◌, ◌^◌, ◌<◌, Bool, true, false, List, [], ◌∷◌, inl, inr, sym, ap, ◌∙◌, subst, arith}
use Rattle.bucket_meta.specs.Notes.{OverflowNote, how_often}
use Rattle.hash_word.specs.Hash.{home_of, finger_of}
use Rattle.frame_facts.proofs.ExactNotes.{each_is_named, often_head}
use Rattle.trace.specs.Events.{Words}
use Rattle.image_layout.specs.Places.{bucket_at}
use Rattle.sound_image.specs.Records.{key_hash, stashed_of}
use Rattle.map_model.specs.declared.call.Call.{Call}
use Rattle.map_model.specs.Map.{key_of}
use Rattle.frame_facts.specs.Hits.{Hit}
use Rattle.world.specs.Ground.{Ground}
use Rattle.world.specs.Views.{Move, View, Has, HasLock}
use Rattle.world.specs.Kinds.{draws_place}
use Rattle.world.specs.Conditions.{IsNewest, IsOwedOf, IsKept, May}
use Rattle.frame_facts.specs.HomeNotes.{IsUnnoted}
use Rattle.world.specs.Holders.{KnowsBucket, DrawsWell, OwesAsKnown, MayDraw}
use Rattle.world.proofs.holding.Owing.{notes_known, count_known}
use Rattle.frame_facts.proofs.segments.Stashed.{hit_stashed, not_there}
use Rattle.world.proofs.holding.Known.{newest_same, hit_from}

module _ (site : Ground) (v : View) (call : Call) (s : ℕ) (word : Words) (d : DrawsWell site v call s word) where
  abbrev k : ℕ
  k = key_of call

  abbrev b : ℕ
  b = home_of (key_hash site.shape k)

  near : b < 64
  near = let h = key_hash site.shape k in let r : h / 2 ^ 8 % 64 < 64 = omega arith in r

  -- what was exact before a record left does not name another that is there
  not_left : (added : Bool) (note : OverflowNote) (notes : List OverflowNote) (count : ℕ) (stashed : List OverflowNote) (sought : OverflowNote) → added ≡ false → IsOwedOf added note notes count stashed → how_often sought notes ≡ 0 → count ≡ 0
      → 0 < how_often sought stashed → ⊥
  not_left true note notes count stashed sought e owed none zero some = absurd (cc)
  not_left false note notes count stashed sought e owed none zero some =
      let more = often_head sought note stashed in
      let named = each_is_named notes (note ∷ stashed) count sought owed zero (omega (arith, more, some)) in
      omega (arith, named, none)

  nowhere : OwesAsKnown site v word s b → (c : ℕ) → c < 2 → IsUnnoted site.shape word s b (finger_of (key_hash site.shape k)) c → (words : Words) → IsNewest site v words → (t : ℕ) → Hit site.shape words s (64 + c) t k → ⊥
  nowhere owes c small u words n t h = elim owes [
    | inl none ↦ not_there site.shape words s c t k small (n.exact s b h.segment near d.led.1 none) (record {
      none = ap (how_often (finger_of (key_hash site.shape k), c)) (notes_known site v words word s b n d.home_words d.probing_words) ∙ u.none;
      counted = count_known site v words word s b n d.home_words ∙ u.counted;
    }) h
    | inr o ↦ not_left o.0.added o.0.note o.0.notes o.0.count (stashed_of site.shape words o.0.segment o.0.home) (finger_of (key_hash site.shape k), c) o.4 (n.owes o.0 o.1)
        (ap (how_often (finger_of (key_hash site.shape k), c)) o.5 ∙ u.none) (o.6 ∙ u.counted) (moved o.0.segment o.0.home o.2 o.3 (hit_stashed site.shape words s c t k small h))
  ]
    where
      moved : (q e : ℕ) → q ≡ s → e ≡ b → 0 < how_often (finger_of (key_hash site.shape k), c) (stashed_of site.shape words s b) → 0 < how_often (finger_of (key_hash site.shape k), c) (stashed_of site.shape words q e)
      moved q e f g z = subst (λ (a : ℕ). 0 < how_often (finger_of (key_hash site.shape k), c) (stashed_of site.shape words a e)) (sym f)
          (subst (λ (a : ℕ). 0 < how_often (finger_of (key_hash site.shape k), c) (stashed_of site.shape words s a)) (sym g) z)

  pub may_unnoted : OwesAsKnown site v word s b
      → ((c : ℕ) → c < 2 → IsKept site v (bucket_at site.shape s (64 + c)) ⊎ ((HasLock v.held (bucket_at site.shape s (64 + c)) → ⊥) × IsUnnoted site.shape word s b (finger_of (key_hash site.shape k)) c))
      → May site (draws_place call) v
  may_unnoted owes stash = (
    d.planned,
    d.room,
    (
      s,
      d.led,
      d.firm,
      d.probing,
      λ c small. elim (stash c small) [
        | inl q ↦ inl q
        | inr q ↦ inr (q.0, λ words n t h. nowhere owes c small q.1 words n t h)
      ],
    ),
    d.noted,
  )

  pub may_shown : (e r : ℕ) → KnowsBucket site.shape v s e word → Hit site.shape word s e r k → v.moving ≡ []
      → ((c : ℕ) → c < 2 → IsKept site v (bucket_at site.shape s (64 + c)) ⊎ (HasLock v.held (bucket_at site.shape s (64 + c)) → ⊥)) → May site (draws_place call) v
  may_shown e r known hit still stash = (
    d.planned,
    d.room,
    (
      s,
      d.led,
      d.firm,
      d.probing,
      λ c small. elim (stash c small) [
        | inl q ↦ inl q
        | inr q ↦ inr (
          q,
          λ words n t h. elim (n.once s (64 + c) t e r k d.led.1 h (hit_from site.shape word words s e (newest_same site v words word s e n known) r k hit)) [
            | inl same ↦ q (subst (λ (z : ℕ). HasLock v.held (bucket_at site.shape s z)) (sym same.0) known.lock)
            | inr m ↦ absurd (subst (λ (ms : List Move). Has m.0 ms) still m.1)
          ],
        )
      ],
    ),
    d.noted,
  )

pub may_draw : (site : Ground) (v : View) → MayDraw site v
may_draw site v = record {
  shown = λ call s b r word d known hit still stash. may_shown site v call s word d b r known hit still stash;
  unnoted = λ call s word d owes stash. may_unnoted site v call s word d owes stash;
}
