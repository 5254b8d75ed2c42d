-- A store to a held word leaves what is said of the locks and areas of all other views.
use Rattle.std.proofs.Common.{◌≡◌, ◌≢◌, ℕ, ◌+◌, ◌*◌, List, set, inl, inr, refl, sym, ap, ◌∙◌, subst}
use Rattle.trace.specs.Events.{Words, with_word}
use Rattle.trace.proofs.Replaced.{replaced_other}
use Rattle.segment_head.specs.HeadWord.{version_in, state_in, depth_in, pattern_in}
use Rattle.world.specs.Ground.{Ground, version_of, IsCurrentIn}
use Rattle.world.specs.Views.{View, At}
use Rattle.world.specs.areas.Areas.{Segment, Stale, Side, Free, header_word}
use Rattle.world.specs.areas.Fitting.{HoldsWord, LivesOn, Fits, HasGrounds}
use Rattle.world.specs.areas.Rows.{HasStored, OthersFit, StoresSpareOthers}
use Rattle.world.proofs.basics.Lists.{at_set}
use Rattle.world.proofs.fitting.OneHolder.{one_holder, head_in_slot}
use Rattle.world.proofs.fitting.Stored.{may_stays}

module _ (site : Ground) (words : Words) (views : List View) (j : ℕ) (v w : View) (i x : ℕ) (g : HasGrounds site words views) (f : Fits site words views) (at : At views j v)
    (holds : HoldsWord site.shape v i) (st : HasStored site.shape i (words i) x w.areas v w)
    (current : (s : ℕ) → IsCurrentIn site words s → IsCurrentIn site (with_word words i x) s)
    (lives : (s : ℕ) → LivesOn site words views s → LivesOn site (with_word words i x) (set views j w) s) where
  abbrev us : Words
  us = with_word words i x

  before : (c : ℕ) (u : View) → c ≢ j → At (set views j w) c u → At views c u
  before c u ne a = elim (at_set views j c w u a) [ inl t ↦ absurd (ne t.0) | inr t ↦ t.1 ]

  -- what another view holds is as it was
  kept : (c : ℕ) (u : View) → c ≢ j → At (set views j w) c u → (n : ℕ) → HoldsWord site.shape u n → us n ≡ words n
  kept c u ne a n h = replaced_other words i x n
      (λ e. ne (one_holder site words views g f c j i u v (before c u ne a) at (subst (λ z. HoldsWord site.shape u z) e h) holds))

  pub others : OthersFit site us (set views j w) j
  others = record {
    lock = λ c u lock ne a h. let q = f.lock c u lock (before c u ne a) h in
        record { segment = q.segment; bucket = q.bucket; near = q.near; is = q.is; current = current q.segment q.current; lives = lives q.segment q.lives };
    segment = λ c u s ne a h. lives s (f.segment c u s (before c u ne a) h);
    stale = λ c u s ne a h. let q = f.stale c u s (before c u ne a) h in
        (q.0, subst (λ z. version_in z ≢ version_of site) (sym (kept c u ne a (header_word site.shape s) (inr (Stale s, h, head_in_slot site.shape s)))) q.1);
    side = λ c u n ne a h. let q = f.side c u n (before c u ne a) h in let o = q.0 in
        let hn = kept c u ne a (header_word site.shape n) (inr (Side n, h, head_in_slot site.shape n)) in
        let hp = kept c u ne a (header_word site.shape o.parent) (inr (Segment o.parent, o.guarded, inl refl)) in (
          record {
            slot = o.slot;
            taken = λ e. o.taken (sym (ap state_in hn) ∙ e);
            parent = o.parent;
            parent_slot = o.parent_slot;
            guarded = o.guarded;
            splits = ap state_in hp ∙ o.splits;
            depth = ap depth_in hn ∙ o.depth ∙ ap (λ z. depth_in z + 1) (sym hp);
            pattern = ap pattern_in hn ∙ o.pattern ∙ ap (λ z. 2 * pattern_in z + 1) (sym hp);
          },
          record { old = q.1.old; may = may_stays site words views j v w i x w.areas at st (header_word site.shape n) q.1.old q.1.may; dead = q.1.dead },
        );
    free_slot = λ c u n ne a h. let q = f.free_slot c u n (before c u ne a) h in
        (q.0, q.1, ap state_in (kept c u ne a (header_word site.shape n) (inr (Free n, h, head_in_slot site.shape n))) ∙ q.2);
    whole = λ c u s ne a h. f.whole c u s (before c u ne a) h;
  }

pub spare_others : StoresSpareOthers
spare_others site words views j v w i x g f at holds st current lives = others site words views j v w i x g f at holds st current lives
