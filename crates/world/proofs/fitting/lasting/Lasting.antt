-- What is live in whatever a cut may leave is live now, and what is live now lives there or is a side that is not settled: each step keeps it.
use Rattle.std.proofs.Common.{◌≡◌, ◌⊎◌, ℕ, ◌*◌, ◌-◌, ◌^◌, ◌<◌, List, set, inl, inr, refl, sym, ap, ◌∙◌, subst, arith}
use Rattle.std.proofs.lemmas.Bool.{cases_eq, ne_eqb}
use Rattle.trace.specs.Events.{Words, with_word}
use Rattle.trace.proofs.Replaced.{replaced_same, replaced_other}
use Rattle.segment_head.specs.HeadWord.{depth_in, pattern_in, HasLiveState}
use Rattle.image_layout.specs.Places.{Shape, words_of}
use Rattle.sound_image.specs.Segments.{frame_of}
use Rattle.frame_facts.specs.Media.{IsSteady}
use Rattle.frame_facts.proofs.Media.{steady_on}
use Rattle.frame_facts.proofs.Moved.{live_same}
use Rattle.frame_facts.proofs.GoesLive.{steady_same}
use Rattle.frame_facts.specs.Owners.{HasStructure}
use Rattle.frame_facts.specs.Facts.{IsLiveSlot}
use Rattle.world.specs.Ground.{Ground}
use Rattle.world.specs.Views.{View, Has, At}
use Rattle.world.specs.Media.{IsPossible}
use Rattle.world.specs.areas.Areas.{Area, Side, header_word, is_side_at}
use Rattle.world.specs.areas.Fitting.{LivesOn, Fits, HasGrounds}
use Rattle.world.specs.areas.Rows.{Row, marks, news, goes_live, finishes, unmarks, frees, renews, IsRow, HasForRow, areas_by, HasStored}
use Rattle.world.specs.areas.Spared.{HasFenced, LooseIsHeld}
use Rattle.world.specs.areas.Lasting.{IsHeldSide, Lasting, RowsKeepLasting, OtherStoresKeepLasting, SparingStepsKeepLasting, GivesUp, FencesKeepLasting}
use Rattle.world.proofs.basics.Lists.{set_here}
use Rattle.world.proofs.basics.Seats.{carry}
use Rattle.world.proofs.basics.Structures.{header_is}
use Rattle.world.proofs.basics.Tables.{core_structure_same}
use Rattle.world.proofs.invariant.KeepMedia.{possible_fewer}
use Rattle.world.proofs.fitting.Stored.{grown_by, lives_by}
use Rattle.world.proofs.fitting.Spared.{sides_stay}
use Rattle.world.proofs.fitting.Rows.{but_after, row_slot, head_near, one_head, lives}
use Rattle.world.proofs.fitting.lasting.Owning.{row_goes_on, keeps_side, other_owners, sparing_owners, fewer, settled, still_side, fenced_owners}

-- ---- frames of one structure
pub heads_of : (shape : Shape) (one other : Words) → HasStructure shape one other → (s : ℕ) → s < shape.segments → other (header_word shape s) ≡ one (header_word shape s)
heads_of shape one other same s slot = same (header_word shape s) (header_is shape s slot)

module _ (shape : Shape) (one other : Words) (same : (s : ℕ) → s < shape.segments → other (header_word shape s) ≡ one (header_word shape s)) where
  pub same_steady : IsSteady (frame_of shape one) (frame_of shape other)
  same_steady = record { slots = refl; stays = λ s slot live. steady_same (frame_of shape one) (frame_of shape other) s (same s slot) live }

  pub same_live : (s : ℕ) → IsLiveSlot (frame_of shape one) s → IsLiveSlot (frame_of shape other) s
  same_live s l = record { slot = l.slot; live = live_same (frame_of shape one) (frame_of shape other) s (same s l.slot) l.live }

  pub live_back : (s : ℕ) → IsLiveSlot (frame_of shape other) s → IsLiveSlot (frame_of shape one) s
  live_back s l = record { slot = l.slot; live = live_same (frame_of shape other) (frame_of shape one) s (sym (same s l.slot)) l.live }

-- a store to both
stored_steady : (shape : Shape) (m words : Words) (i x : ℕ) → IsSteady (frame_of shape m) (frame_of shape words) → IsSteady (frame_of shape (with_word m i x)) (frame_of shape (with_word words i x))
stored_steady shape m words i x steady = record {
  slots = refl;
  stays = λ s slot live. elim (cases_eq (header_word shape s) i) [
    | inl e ↦
        let same : with_word words i x (header_word shape s) ≡ with_word m i x (header_word shape s) =
        ap (with_word words i x) e ∙ replaced_same words i x ∙ sym (ap (with_word m i x) e ∙ replaced_same m i x) in
        steady_same (frame_of shape (with_word m i x)) (frame_of shape (with_word words i x)) s same live
    | inr n ↦
        let there = replaced_other m i x (header_word shape s) n in
        let here = replaced_other words i x (header_word shape s) n in
        let a = steady.stays s slot (live_same (frame_of shape (with_word m i x)) (frame_of shape m) s (sym there) live) in (
          live_same (frame_of shape words) (frame_of shape (with_word words i x)) s here a.0,
          ap (λ z. pattern_in z * 2 ^ (64 - depth_in z)) here ∙ a.1 ∙ sym (ap (λ z. pattern_in z * 2 ^ (64 - depth_in z)) there),
          omega (arith, ap depth_in here, ap depth_in there, a.2),
        )
  ];
}

-- ---- a store
module _ (site : Ground) (words : Words) (views : List View) (j : ℕ) (v w : View) (i x : ℕ) (areas : List Area) (at : At views j v)
    (st : HasStored site.shape i (words i) x areas v w) (near : i < words_of site.shape) (o : Lasting site words views)
    (on : IsSteady (frame_of site.shape words) (frame_of site.shape (with_word words i x)))
    (goes : (s : ℕ) → LivesOn site words views s → LivesOn site (with_word words i x) (set views j w) s)
    (rises : (s : ℕ) → IsLiveSlot (frame_of site.shape (with_word words i x)) s → IsLiveSlot (frame_of site.shape words) s ⊎ Has (Side s) w.areas)
    (keeps : (s : ℕ) → IsLiveSlot (frame_of site.shape words) s → Has (Side s) v.areas → Has (Side s) w.areas) where
  abbrev us : Words
  us = with_word words i x

  pub lasting_by : Lasting site us (set views j w)
  lasting_by = record {
    steady = λ m p. elim (grown_by site words views j v w i x areas at st near m p) [
      | inl q ↦ steady_on (frame_of site.shape m) (frame_of site.shape words) (frame_of site.shape us) (o.steady m q) on
      | inr q ↦ steady_on (frame_of site.shape m) (frame_of site.shape (with_word q.0 i x)) (frame_of site.shape us)
          (same_steady site.shape m (with_word q.0 i x) (λ s slot. sym (heads_of site.shape (with_word q.0 i x) m q.2 s slot)))
          (stored_steady site.shape q.0 words i x (o.steady q.0 q.1))
    ];
    living = λ s l. elim (rises s l) [
      | inr side ↦ inr (j, w, set_here views j v w at, side)
      | inl was ↦ elim (o.living s was) [
        | inl a ↦ inl (goes s a)
        | inr t ↦ inr (let k = carry views j v w at (λ _ u. Has (Side s) u.areas) (keeps s was) t.0 t.1 t.2 t.3 in (t.0, k.0, k.1, k.2))
      ]
    ];
  }

-- which rows make a header live
row_rises : (site : Ground) (words : Words) (row : Row) (s x : ℕ) (areas : List Area) → IsRow site words row s x → HasForRow site words row s areas → HasLiveState x
    → HasLiveState (words (header_word site.shape s)) ⊎ Has (Side s) (areas_by row s areas)
row_rises site words (marks n) s x areas q has l = inl (inl q.0.was)
row_rises site words (news p) s x areas q has l = absurd (elim l [ inl a ↦ omega (arith, a, q.0.becomes) | inr a ↦ omega (arith, a, q.0.becomes) ])
row_rises site words (goes_live p) s x areas q has l = inr has.0
row_rises site words finishes s x areas q has l = inl (inr q.0.was)
row_rises site words unmarks s x areas q has l = inl (inr q.0.was)
row_rises site words (frees p) s x areas q has l = absurd (elim l [ inl a ↦ omega (arith, a, q.0.becomes) | inr a ↦ omega (arith, a, q.0.becomes) ])
row_rises site words renews s x areas q has l = inl (inl q.1)

pub rows_last : RowsKeepLasting
rows_last site words views j v w row s x g f at is has st o =
    let i = header_word site.shape s in
    let slot = row_slot site words s x row is in
    lasting_by site words views j v w i x (areas_by row s v.areas) at st (head_near site s slot) o
    (row_goes_on site words views words g g.sound s x row is).steady
    (lives site words views j v w row s x g f at is has st)
    (λ t l. elim (cases_eq t s) [
      | inl e ↦ elim (row_rises site words row s x v.areas is has (subst HasLiveState (replaced_same words i x) (subst (λ z. HasLiveState (with_word words i x (header_word site.shape z))) e l.live))) [
        | inl was ↦ inl (record { slot = l.slot; live = subst (λ z. HasLiveState (words (header_word site.shape z))) (sym e) was })
        | inr side ↦ inr (subst (λ z. Has (Side z) w.areas) (sym e) (subst (Has (Side s)) (sym st.areas_are) side))
      ]
      | inr n ↦ inl (record {
        slot = l.slot;
        live = live_same (frame_of site.shape (with_word words i x)) (frame_of site.shape words) t (sym (replaced_other words i x (header_word site.shape t) (λ e. n (one_head site t s e)))) l.live;
      })
    ])
    (λ t l h. subst (Has (Side t)) (sym st.areas_are) (keeps_side site words row s x v.areas is t l.live h))

-- ---- other stores
pub others_last : OtherStoresKeepLasting
others_last site words views j v w i x at near none st = (
  other_owners site words views j v w i x at near none st,
  λ o.
      let heads : (q : Words) (s : ℕ) → s < site.shape.segments → with_word q i x (header_word site.shape s) ≡ q (header_word site.shape s) =
      λ q s slot. replaced_other q i x (header_word site.shape s) (λ e. none s slot (sym e)) in
      lasting_by site words views j v w i x v.areas at st near o (same_steady site.shape words (with_word words i x) (heads words))
      (λ s. lives_by site words views j v w i x v.areas at st near s (λ q p. same_live site.shape q (with_word q i x) (heads q) s))
      (λ s l. inl (live_back site.shape words (with_word words i x) (heads words) s l)) (λ s l h. subst (Has (Side s)) (sym st.areas_are) h),
)

-- ---- steps that leave all cores
pub sparing_lasts : SparingStepsKeepLasting
sparing_lasts site words later views j v w change at st = (
  sparing_owners site words later views j v w change at st,
  λ o.
      let heads = heads_of site.shape words later (core_structure_same site words later st.cores) in
      let back : (m : Words) → IsPossible site later (set views j w) m → IsPossible site words views m = possible_fewer site words later views j v w at st.cores st.no_more in
      record {
        steady = λ m p. steady_on (frame_of site.shape m) (frame_of site.shape words) (frame_of site.shape later) (o.steady m (back m p)) (same_steady site.shape words later heads);
        living = λ s l. elim (o.living s (live_back site.shape words later heads s l)) [
          | inl a ↦ inl (λ m p. a m (back m p))
          | inr t ↦ inr (let k = carry views j v w at (λ _ u. Has (Side s) u.areas) (sides_stay site words views change v w st.areas_are st.may s (live_back site.shape words later heads s l).live) t.0 t.1 t.2 t.3 in (t.0, k.0, k.1, k.2))
        ];
      },
)

-- ---- fences
module _ (site : Ground) (words : Words) (views : List View) (j : ℕ) (v w : View) (areas : List Area) (g : HasGrounds site words views) (f : Fits site words views)
    (at : At views j v) (loose : LooseIsHeld site.shape views) (st : HasFenced areas v w) (o : Lasting site words views) where
  abbrev back : (m : Words) → IsPossible site words (set views j w) m → IsPossible site words views m
  back = fewer site words views j v w areas g f at loose st

  abbrev still : (n : ℕ) → (Has (Side n) v.areas → Has (Side n) w.areas) → IsHeldSide views n → IsHeldSide (set views j w) n
  still = still_side site words views j v w areas g f at loose st

  pub fenced_lasts : GivesUp site words v areas → Lasting site words (set views j w)
  fenced_lasts (inl e) = record {
    steady = λ m p. o.steady m (back m p);
    living = λ s l. elim (o.living s l) [
      | inl a ↦ inl (λ m p. a m (back m p))
      | inr t ↦ inr (still s (λ h. subst (Has (Side s)) (sym (st.areas_are ∙ e)) h) t)
    ];
  }
  fenced_lasts (inr (n, e, has, is, clean)) = record {
    steady = λ m p. o.steady m (back m p);
    living = λ s l. elim (o.living s l) [
      | inl a ↦ inl (λ m p. a m (back m p))
      | inr t ↦ elim (cases_eq s n) [
        | inr k ↦ inr (still s (λ h. subst (Has (Side s)) (sym (st.areas_are ∙ e)) (but_after (is_side_at n) v.areas (Side s) h (ne_eqb s n k))) t)
        | inl k ↦ inl (λ m p. record {
          slot = l.slot;
          live = subst (λ z. HasLiveState (m (header_word site.shape z))) (sym k)
              (subst HasLiveState (sym (settled site words views j v w areas g f at loose st n has clean m p)) (subst (λ z. HasLiveState (words (header_word site.shape z))) k l.live));
        })
      ]
    ];
  }

pub fences_last : FencesKeepLasting
fences_last site words views j v w areas g f sound at loose up st = (
  λ o. fenced_owners site words views j v w areas g f at loose st sound up o,
  λ o. fenced_lasts site words views j v w areas g f at loose st o up,
)
