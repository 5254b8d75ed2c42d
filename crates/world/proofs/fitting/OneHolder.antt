-- A word has one holder.
use Rattle.std.proofs.Common.{◌≡◌, ◌≢◌, ℕ, ◌+◌, ◌*◌, ◌<◌, ◌≤◌, ◌⊎◌, cond, inl, inr, List, sym, subst, arith}
use Rattle.trace.specs.Events.{Words, with_word}
use Rattle.trace.proofs.Replaced.{cases_at, replaced_same}
use Rattle.segment_head.specs.HeadWord.{version_in, free, HasLiveState}
use Rattle.image_layout.specs.Places.{Shape, block, root_word, first_segment, head_at, words_of, bucket_at, buckets}
use Rattle.image_layout.proofs.Areas.{entry_before}
use Rattle.sound_image.specs.Segments.{frame_of, state_at}
use Rattle.frame_facts.proofs.frames.SoundFrames.{apart}
use Rattle.frame_facts.specs.Facts.{IsLiveSlot}
use Rattle.frame_facts.specs.DeadSlots.{IsInSlot}
use Rattle.world.specs.Ground.{Ground, IsUnder, version_of, IsCurrentIn}
use Rattle.world.specs.Views.{View, Has, At, HasLock}
use Rattle.world.specs.Media.{MayLeave, IsPossible}
use Rattle.world.specs.areas.Areas.{Area, Segment, Stale, Side, Free, Whole, Allocation, Directory, header_word, link_word, IsDirectoryWord, InArea}
use Rattle.world.specs.areas.Fitting.{HoldsWord, IsGuardedSide, LivesOn, MayStayDead, Fits, HasGrounds, HeldWordsAreNear}
use Rattle.world.proofs.holding.Beside.{newest}

pub one_slot : (shape : Shape) (s t i : ℕ) → IsInSlot shape s i → IsInSlot shape t i → s ≡ t
one_slot shape s t i a b = by (first_segment shape) s t i a.from a.to b.from b.to
  where
    by : (f s t i : ℕ) → f + 2144 * s ≤ i → i < f + 2144 * s + 2144 → f + 2144 * t ≤ i → i < f + 2144 * t + 2144 → s ≡ t
    by f s t i a b c d = omega (arith, a, b, c, d)

pub head_in_slot : (shape : Shape) (s : ℕ) → IsInSlot shape s (header_word shape s)
head_in_slot shape s = record { from = omega arith; to = omega arith }

pub link_in_slot : (shape : Shape) (s : ℕ) → IsInSlot shape s (link_word shape s)
link_in_slot shape s = record { from = omega arith; to = omega arith }

-- a slot whose dead header may be left does not live on
pub side_dies : (site : Ground) (words : Words) (views : List View) (n : ℕ) → MayStayDead site words views n → LivesOn site words views n → ⊥
side_dies site words views n f lives =
    let m = with_word words (header_word site.shape n) f.old in
    let possible : IsPossible site words views m = λ i within. cases_at (λ b. MayLeave site words views i (cond b f.old (words i))) i (header_word site.shape n)
    (λ e. subst (λ z. MayLeave site words views z f.old) (sym e) f.may) (λ _. newest site words views i within) in
    f.dead (subst HasLiveState (replaced_same words (header_word site.shape n) f.old) (lives m possible).live)

module _ (site : Ground) (words : Words) (views : List View) (g : HasGrounds site words views) (f : Fits site words views) where
  abbrev shape : Shape
  shape = site.shape

  -- by what a view holds a word of a slot
  data By (j : ℕ) (v : View) (s i : ℕ) : Type 0 where
    by_guard : Has (Segment s) v.areas → ((i ≡ head_at shape s + 1) ⊎ (i ≡ head_at shape s + 2)) ⊎ (version_in (words (header_word shape s)) ≢ version_of site) → By j v s i
    by_side : IsGuardedSide (frame_of shape words) v.areas s → MayStayDead site words views s → By j v s i
    by_free : Has Allocation v.areas → state_at (frame_of shape words) s ≡ free → By j v s i
    by_lock : (b : ℕ) → b < buckets → HasLock v.held (bucket_at shape s b) → IsUnder (bucket_at shape s b) i → IsCurrentIn site words s → LivesOn site words views s → By j v s i

  lives_now : (s : ℕ) → LivesOn site words views s → IsLiveSlot (frame_of shape words) s
  lives_now s l = l words (newest site words views)

  not_free : (s : ℕ) → IsLiveSlot (frame_of shape words) s → state_at (frame_of shape words) s ≡ free → ⊥
  not_free s l e = elim l.live [ inl a ↦ omega (arith, a, e) | inr a ↦ omega (arith, a, e) ]

  under_no_head : (s b i : ℕ) → IsUnder (bucket_at shape s b) i → (i ≡ head_at shape s + 1) ⊎ (i ≡ head_at shape s + 2) → ⊥
  under_no_head s b i under w = elim w [ inl e ↦ omega (arith, under.0, e) | inr e ↦ omega (arith, under.0, e) ]

  -- the parents of one side are one
  one_parent : (u v : View) (n : ℕ) (a : IsGuardedSide (frame_of shape words) u.areas n) (b : IsGuardedSide (frame_of shape words) v.areas n) → a.parent ≡ b.parent
  one_parent u v n a b = apart shape.depth g.site_is.shape.depth (frame_of shape words) g.sound a.parent b.parent a.parent_slot (inr a.splits) b.parent_slot (inr b.splits)
      (omega (arith, a.depth, b.depth)) (omega (arith, a.pattern, b.pattern))

  same : (i j s n : ℕ) (u v : View) → At views i u → At views j v → By i u s n → By j v s n → i ≡ j
  same i j s n u v ai aj (by_guard a w) (by_guard b x) = f.one_segment i j u v s ai aj a b
  same i j s n u v ai aj (by_guard a w) (by_side d k) = absurd (side_dies site words views s k (f.segment i u s ai a))
  same i j s n u v ai aj (by_guard a w) (by_free b e) = absurd (not_free s (lives_now s (f.segment i u s ai a)) e)
  same i j s n u v ai aj (by_guard a (inl w)) (by_lock b lb h under c l) = absurd (under_no_head s b n under w)
  same i j s n u v ai aj (by_guard a (inr w)) (by_lock b lb h under c l) = absurd (w c.current)
  same i j s n u v ai aj (by_side d k) (by_guard b x) = absurd (side_dies site words views s k (f.segment j v s aj b))
  same i j s n u v ai aj (by_side d k) (by_side e m) = f.one_segment i j u v d.parent ai aj d.guarded (subst (λ p. Has (Segment p) v.areas) (sym (one_parent u v s d e)) e.guarded)
  same i j s n u v ai aj (by_side d k) (by_free a e) = absurd (d.taken e)
  same i j s n u v ai aj (by_side d k) (by_lock b lb h under c l) = absurd (side_dies site words views s k l)
  same i j s n u v ai aj (by_free a e) (by_guard b x) = absurd (not_free s (lives_now s (f.segment j v s aj b)) e)
  same i j s n u v ai aj (by_free a e) (by_side d k) = absurd (d.taken e)
  same i j s n u v ai aj (by_free a e) (by_free b c) = f.one_allocation i j u v ai aj a b
  same i j s n u v ai aj (by_free a e) (by_lock b lb h under c l) = absurd (not_free s (lives_now s l) e)
  same i j s n u v ai aj (by_lock b lb h under c l) (by_guard a (inl w)) = absurd (under_no_head s b n under w)
  same i j s n u v ai aj (by_lock b lb h under c l) (by_guard a (inr w)) = absurd (w c.current)
  same i j s n u v ai aj (by_lock b lb h under c l) (by_side d k) = absurd (side_dies site words views s k l)
  same i j s n u v ai aj (by_lock b lb h under c l) (by_free a e) = absurd (not_free s (lives_now s l) e)
  same i j s n u v ai aj (by_lock b lb h under c l) (by_lock b' lb' h' under' c' l') =
      let e : b ≡ b' = omega (arith, under.0, under.1, under'.0, under'.1) in
      g.alone i j u v (bucket_at shape s b) h.0 h'.0 ai aj h.1 (subst (λ z. Has (bucket_at shape s z, h'.0) v.held) (sym e) h'.1)

  -- a word that is held is one of the directory, or one of a slot
  abbrev IsHeld : ℕ → View → ℕ → Type 0
  IsHeld j v i = (Has Directory v.areas × (i < first_segment shape)) ⊎ ((s : ℕ) × IsInSlot shape s i × By j v s i)

  in_front : (i : ℕ) → InArea shape Directory i → i < first_segment shape
  in_front i w = elim w [ inl e ↦ omega (arith, e) | inr q ↦ q.1 ]

  by_area : (j : ℕ) (v : View) (i : ℕ) → At views j v → (a : Area) → Has a v.areas → InArea shape a i → IsHeld j v i
  by_area j v i at (Segment s) h w = inr (
    s,
    elim w [ inl e ↦ record { from = omega (arith, e); to = omega (arith, e) } | inr e ↦ record { from = omega (arith, e); to = omega (arith, e) } ],
    by_guard h (inl w),
  )
  by_area j v i at (Stale s) h w = inr (s, w, (let q = f.stale j v s at h in by_guard q.0 (inr q.1)))
  by_area j v i at (Side s) h w = inr (s, w, (let q = f.side j v s at h in by_side q.0 q.1))
  by_area j v i at (Free s) h w = inr (s, w, (let q = f.free_slot j v s at h in by_free q.0 q.2))
  by_area j v i at (Whole s) h w = absurd w
  by_area j v i at Allocation h w = absurd w
  by_area j v i at Directory h w = inl (h, in_front i w)

  held : (j : ℕ) (v : View) (i : ℕ) → At views j v → HoldsWord shape v i → IsHeld j v i
  held j v i at (inr q) = by_area j v i at q.0 q.1 q.2
  held j v i at (inl q) =
      let l = f.lock j v q.0 at q.1 in
      let u : IsUnder (bucket_at shape l.segment l.bucket) i = subst (λ z. IsUnder z i) l.is q.2 in
      inr (
        l.segment,
        record { from = omega (arith, u.0); to = omega (arith, u.1, l.near) },
        by_lock l.bucket l.near (subst (λ z. HasLock v.held z) l.is q.1) u l.current l.lives,
      )

  pub one_holder : (i j n : ℕ) (u v : View) → At views i u → At views j v → HoldsWord shape u n → HoldsWord shape v n → i ≡ j
  one_holder i j n u v ai aj hi hj = elim (held i u n ai hi) [
    | inl a ↦ elim (held j v n aj hj) [
      | inl b ↦ f.one_directory i j u v ai aj a.0 b.0
      | inr b ↦ absurd (omega (arith, a.1, b.1.from))
    ]
    | inr a ↦ elim (held j v n aj hj) [
      | inl b ↦ absurd (omega (arith, b.1, a.1.from))
      | inr b ↦ same i j a.0 n u v ai aj a.2 (subst (λ s. By j v s n) (sym (one_slot shape a.0 b.0 n a.1 b.1)) b.2)
    ]
  ]

-- ---- held words are near
module _ (site : Ground) (words : Words) (views : List View) (f : Fits site words views) where
  abbrev IsNear : ℕ → Type 0
  IsNear i = (i < words_of site.shape) × (i < block → i ≡ root_word)

  in_slot_near : (s i : ℕ) → s < site.shape.segments → IsInSlot site.shape s i → IsNear i
  in_slot_near s i slot k = (
    by (first_segment site.shape) s site.shape.segments i slot k.to,
    λ low. absurd (omega (arith, entry_before site.shape 0 0 (omega arith) (omega arith), low, k.from)),
  )
    where
      by : (f s n i : ℕ) → s < n → i < f + 2144 * s + 2144 → i < f + 2144 * n
      by f s n i slot k = omega (arith, slot, k)

  front_near : (i : ℕ) → IsDirectoryWord site.shape i → IsNear i
  front_near i (inl e) = (omega (arith, e), λ low. e)
  front_near i (inr k) = (omega (arith, k.1), λ low. absurd (omega (arith, low, k.0)))

  area_near : (j : ℕ) (v : View) (i : ℕ) → At views j v → (a : Area) → Has a v.areas → InArea site.shape a i → IsNear i
  area_near j v i at (Segment s) h w = in_slot_near s i (f.segment j v s at h words (newest site words views)).slot
      (elim w [ inl e ↦ record { from = omega (arith, e); to = omega (arith, e) } | inr e ↦ record { from = omega (arith, e); to = omega (arith, e) } ])
  area_near j v i at (Stale s) h w = in_slot_near s i (f.segment j v s at (f.stale j v s at h).0 words (newest site words views)).slot w
  area_near j v i at (Side n) h w = in_slot_near n i (f.side j v n at h).0.slot w
  area_near j v i at (Free n) h w = in_slot_near n i (f.free_slot j v n at h).1 w
  area_near j v i at (Whole s) h w = absurd w
  area_near j v i at Allocation h w = absurd w
  area_near j v i at Directory h w = front_near i w

  pub near : (j : ℕ) (v : View) (i : ℕ) → At views j v → HoldsWord site.shape v i → IsNear i
  near j v i at (inr q) = area_near j v i at q.0 q.1 q.2
  near j v i at (inl q) =
      let l = f.lock j v q.0 at q.1 in
      let u : IsUnder (bucket_at site.shape l.segment l.bucket) i = subst (λ z. IsUnder z i) l.is q.2 in
      in_slot_near l.segment i l.current.live.slot (record { from = omega (arith, u.0); to = omega (arith, u.1, l.near) })

pub held_near : HeldWordsAreNear
held_near site words views f = near site words views f
