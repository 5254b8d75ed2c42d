-- What views say of all media stays said, over each step.
use Rattle.std.proofs.Common.{◌≡◌, ◌≢◌, ℕ, ◌<◌, cond, List, set, inl, inr, refl, sym, ap, ◌∙◌, subst}
use Rattle.trace.specs.Events.{Words, with_word}
use Rattle.trace.proofs.Replaced.{cases_at, replaced_same}
use Rattle.segment_head.specs.HeadWord.{version_in}
use Rattle.image_layout.specs.Places.{Shape, words_of}
use Rattle.sound_image.specs.Segments.{frame_of}
use Rattle.frame_facts.specs.Claims.{HasSoundFrame}
use Rattle.frame_facts.specs.Core.{core_of}
use Rattle.frame_facts.specs.Owners.{HasStructure}
use Rattle.frame_facts.specs.Facts.{Fact, HoldsFact, Lives, Current, Rooted, Owns, Lacks, Deep, Begins, Used, Taken, IsNewSide}
use Rattle.frame_facts.specs.Keeping.{AreSound, ClaimsNoneOfSide, KeepsFact}
use Rattle.frame_facts.proofs.Structure.{followed}
use Rattle.frame_facts.proofs.Stores.{takes, frees as frees_facts, begins, ends, drops, renewed, went_live}
use Rattle.frame_facts.proofs.Sides.{one_parent}
use Rattle.world.specs.Ground.{Ground, version_of}
use Rattle.world.specs.Views.{View, Has, At}
use Rattle.world.specs.Media.{MayLeave, IsPossible}
use Rattle.world.specs.areas.Areas.{Area, Segment, Allocation, Directory, header_word}
use Rattle.world.specs.areas.Fitting.{Fits, HasGrounds}
use Rattle.world.specs.areas.Rows.{Row, marks, news, goes_live, finishes, unmarks, frees, renews, IsRow, IsRowIn, HasForRow, areas_by, HasStored}
use Rattle.world.specs.areas.Lasting.{AreSoundMedia}
use Rattle.world.specs.areas.Saying.{IsSaid, KeepsFactIn, MaySay, Saying, IsSpared, StoresKeepSaid, FencesKeepSaid, SparingStepsKeepSaid, RowsKeepSaying}
use Rattle.world.proofs.basics.Seats.{each}
use Rattle.world.proofs.basics.Tables.{core_structure_same}
use Rattle.world.proofs.holding.Beside.{newest}
use Rattle.world.proofs.invariant.KeepMedia.{possible_fewer}
use Rattle.world.proofs.fitting.Stored.{may_stays, grown_by}
use Rattle.world.proofs.fitting.Rows.{row_slot, row_after, head_near}
use Rattle.world.proofs.fitting.lasting.Owning.{row_goes_on, sound_same, stored_same}

pub same_words : (shape : Shape) (word : Words) → HasStructure shape word word
same_words shape word i is = refl

-- ---- a store
module _ (site : Ground) (words : Words) (views : List View) (j : ℕ) (v w : View) (i x : ℕ) (areas : List Area) (g : HasGrounds site words views) (at : At views j v)
    (near : i < words_of site.shape) (st : HasStored site.shape i (words i) x areas v w) where
  abbrev us : Words
  us = with_word words i x

  -- a medium with the store is possible after it
  pub with_new : (q : Words) → IsPossible site words views q → IsPossible site us (set views j w) (with_word q i x)
  with_new q p n within = cases_at (λ b. MayLeave site us (set views j w) n (cond b x (q n))) n i
      (λ e. inl (ap (core_of site.shape n) (sym (ap us e ∙ replaced_same words i x))))
      (λ _. may_stays site words views j v w i x areas at st n (q n) (p n within))

  module _ (fact : Fact) (sound : AreSoundMedia site words views) (sound_after : (q : Words) → IsPossible site words views q → HasSoundFrame site.shape (with_word q i x))
      (keeps : (q : Words) → IsPossible site words views q → KeepsFactIn site words q i x fact) where
    us_sound : HasSoundFrame site.shape us
    us_sound = sound_after words (newest site words views)

    -- a fact follows the structure, beside the newest words before and after
    follows : (one other : Words) → HasSoundFrame site.shape one → HasStructure site.shape one other
        → HoldsFact site.shape (version_of site) words fact one → HoldsFact site.shape (version_of site) words fact other
    follows one other is same = followed site.shape (version_of site) words words one other (record { shape_fits = g.site_is.shape; newest = g.sound; there = is })
        (same_words site.shape words) same fact

    follows_after : (one other : Words) → HasSoundFrame site.shape one → HasStructure site.shape one other
        → HoldsFact site.shape (version_of site) us fact one → HoldsFact site.shape (version_of site) us fact other
    follows_after one other is same = followed site.shape (version_of site) us us one other (record { shape_fits = g.site_is.shape; newest = us_sound; there = is })
        (same_words site.shape us) same fact

    turned : (one other : Words) → HasStructure site.shape one other → HasStructure site.shape other one
    turned one other same n is = sym (same n is)

    pub stays_said : IsSaid site words views fact → IsSaid site us (set views j w) fact
    stays_said said m p = elim (grown_by site words views j v w i x areas at st near m p) [
      | inl q ↦
          let k = keeps m q in
          let there = sound_same site words views g m k.0 (sound m q) k.1 in
          follows_after k.0 m there (turned m k.0 k.1) (k.2.without (follows m k.0 (sound m q) k.1 (said m q)))
      | inr q ↦
          let k = keeps q.0 q.1 in
          let same : HasStructure site.shape (with_word q.0 i x) (with_word k.0 i x) = stored_same site.shape q.0 k.0 i x k.1 in
          let there = sound_same site words views g (with_word q.0 i x) (with_word k.0 i x) (sound_after q.0 q.1) same in
          follows_after (with_word k.0 i x) m there (λ n is. q.2 n is ∙ sym (same n is)) (k.2.has (follows q.0 k.0 (sound q.0 q.1) k.1 (said q.0 q.1)))
    ]

pub stores_keep_said : StoresKeepSaid
stores_keep_said site words views j v w i x fact g sound at near st sound_after keeps said =
    stays_said site words views j v w i x w.areas g at near st fact sound
    (λ q p. sound_after (with_word q i x) (with_new site words views j v w i x w.areas g at near st q p)) keeps said

-- ---- other steps
pub fences_keep_said : FencesKeepSaid
fences_keep_said site words views j v w fact at st said m p = said m (possible_fewer site words words views j v w at (λ n _. refl)
    (λ p l. elim l [ inl d ↦ inl (subst (Has p) st.dirty d) | inr h ↦ absurd (subst (Has p) st.flushed h) ]) m p)

pub sparing_keeps_said : SparingStepsKeepSaid
sparing_keeps_said site words later views j v w change fact g sound at st said m p =
    let back = possible_fewer site words later views j v w at st.cores st.no_more m p in
    followed site.shape (version_of site) words later m m (record { shape_fits = g.site_is.shape; newest = g.sound; there = sound m back })
    (core_structure_same site words later st.cores) (same_words site.shape m) fact (said m back)

-- ---- rows
module _ (site : Ground) (words q : Words) (s x : ℕ) (a : AreSound site.shape words q) where
  abbrev i : ℕ
  i = header_word site.shape s

  -- a segment of another version has no new side of a current one
  stale_side : (n : ℕ) → version_in (q (header_word site.shape s)) ≢ version_of site → IsNewSide (frame_of site.shape q) (version_of site) s n → ⊥
  stale_side n other side = other side.current

  -- the slot that a segment of another version has linked is no new side of a current one
  freed_side : (p : ℕ) → IsRow site q (frees p) s x → (t : ℕ) → IsNewSide (frame_of site.shape q) (version_of site) t s → ⊥
  freed_side p row t side =
      let of_p : IsNewSide (frame_of site.shape q) (version_in (q (header_word site.shape p))) p s = record {
        slot = row.1.slot;
        splits = row.1.splits;
        current = refl;
        linked = row.1.linked;
        side_slot = row.0.slot;
        new = row.0.was;
        depth = row.1.depth;
        pattern = row.1.pattern;
      } in
      let one : t ≡ p = one_parent site.shape.depth (frame_of site.shape q) a.shape_fits.depth a.there (version_of site) (version_in (q (header_word site.shape p))) t p s side of_p in
      row.2 (subst (λ z. version_in (q (header_word site.shape z)) ≡ version_of site) one side.current)

  spared_claims : (p : ℕ) (fact : Fact) → IsSpared (goes_live p) s fact → ClaimsNoneOfSide (frame_of site.shape q) p fact
  spared_claims p (Lives t) k = tt
  spared_claims p (Current t) k = tt
  spared_claims p (Rooted e) k = tt
  spared_claims p (Owns t d y) k = λ e h fits covers inside. k e
  spared_claims p (Lacks t d y) k = tt
  spared_claims p (Deep f d y) k = tt
  spared_claims p (Begins t h) k = tt
  spared_claims p (Used n) k = tt
  spared_claims p (Taken n) k = tt

  pub row_keeps_fact : (row : Row) → IsRow site words row s x → IsRow site q row s x → (row ≡ unmarks → version_in (words (header_word site.shape s)) ≢ version_of site)
      → (fact : Fact) → IsSpared row s fact → KeepsFact site.shape (version_of site) words q i x fact
  row_keeps_fact (marks n) now there stale fact k = begins site.shape (version_of site) words q a s x (now.0, there.0) (λ e. now.2 ∙ e) fact
  row_keeps_fact (news p) now there stale fact k = takes site.shape (version_of site) words q a s x (now.0, there.0) fact
  row_keeps_fact (goes_live p) now there stale fact k = went_live site.shape (version_of site) words q a p s x (now.0, there.0) fact (spared_claims p fact k)
  row_keeps_fact finishes now there stale fact k = ends site.shape (version_of site) words q a s x (now.0, there.0) (λ e. now.1 ∙ e) fact
  row_keeps_fact unmarks now there stale fact k = drops site.shape (version_of site) words q a s x (now.0, there.0) (λ e. now.1 ∙ e)
      (λ n. stale_side n (λ e. stale refl (sym now.1 ∙ there.1 ∙ e))) fact
  row_keeps_fact (frees p) now there stale fact k = frees_facts site.shape (version_of site) words q a s x (now.0, there.0) (freed_side p there) fact k
  row_keeps_fact renews now there stale fact k = renewed site.shape (version_of site) words q a s x (now.0, there.0) ((λ e. now.2), (λ e. now.2)) fact

module _ (site : Ground) (words : Words) (views : List View) (j : ℕ) (v w : View) (row : Row) (s x : ℕ) (g : HasGrounds site words views) (f : Fits site words views)
    (sound : AreSoundMedia site words views) (at : At views j v) (now : IsRow site words row s x)
    (is : (medium : Words) → IsPossible site words views medium → IsRowIn site medium row s x)
    (has : HasForRow site words row s v.areas)
    (st : HasStored site.shape (header_word site.shape s) (words (header_word site.shape s)) x (areas_by row s v.areas) v w)
    (facts : (fact : Fact) → Has fact w.facts → Has fact v.facts × IsSpared row s fact) (o : Saying site words views) where
  stale_by : (r : Row) → HasForRow site words r s v.areas → r ≡ unmarks → version_in (words (header_word site.shape s)) ≢ version_of site
  stale_by (marks n) h e = absurd (let k : marks n ≡ unmarks = e in cc)
  stale_by (news p) h e = absurd (let k : news p ≡ unmarks = e in cc)
  stale_by (goes_live p) h e = absurd (let k : goes_live p ≡ unmarks = e in cc)
  stale_by finishes h e = absurd (let k : finishes ≡ unmarks = e in cc)
  stale_by unmarks h e = (f.stale j v s at h.0).1
  stale_by (frees p) h e = absurd (let k : frees p ≡ unmarks = e in cc)
  stale_by renews h e = absurd (let k : renews ≡ unmarks = e in cc)

  stays : (fact : Fact) → IsSpared row s fact → IsSaid site words views fact → IsSaid site (with_word words (header_word site.shape s) x) (set views j w) fact
  stays fact k = stays_said site words views j v w (header_word site.shape s) x (areas_by row s v.areas) g at (head_near site s (row_slot site words s x row now)) st fact sound
      (λ q p. let z = is q p in let there = sound_same site words views g q z.0 (sound q p) z.1 in
      sound_same site words views g (with_word z.0 (header_word site.shape s) x) (with_word q (header_word site.shape s) x)
      (row_goes_on site z.0 views words g there s x row z.2).sound
      (λ n l. sym (stored_same site.shape q z.0 (header_word site.shape s) x z.1 n l)))
      (λ q p. let z = is q p in (
        z.0,
        z.1,
        row_keeps_fact site words z.0 s x (record { shape_fits = g.site_is.shape; newest = g.sound; there = sound_same site words views g q z.0 (sound q p) z.1 })
            row now z.2 (stale_by row has) fact k,
      ))

  -- what another view says the row does not end: it would have a guard that the stepper has
  spared_by : (r : Row) → HasForRow site words r s v.areas → (c : ℕ) (u : View) → c ≢ j → At views c u → (fact : Fact) → MaySay u.areas fact → IsSpared r s fact
  spared_by (marks n) h c u ne a fact may = tt
  spared_by (news p) h c u ne a fact may = tt
  spared_by (goes_live p) h c u ne a (Owns t d y) may = λ e. elim may [
    | inl guard ↦ ne (f.one_segment c j u v p a at (subst (λ z. Has (Segment z) u.areas) e guard) (f.whole j v p at h.1).0)
    | inr guard ↦ ne (f.one_directory c j u v a at guard h.2)
  ]
  spared_by (goes_live p) h c u ne a (Lives t) may = tt
  spared_by (goes_live p) h c u ne a (Current t) may = tt
  spared_by (goes_live p) h c u ne a (Rooted e) may = tt
  spared_by (goes_live p) h c u ne a (Lacks t d y) may = tt
  spared_by (goes_live p) h c u ne a (Deep k d y) may = tt
  spared_by (goes_live p) h c u ne a (Begins t y) may = tt
  spared_by (goes_live p) h c u ne a (Used n) may = tt
  spared_by (goes_live p) h c u ne a (Taken n) may = tt
  spared_by finishes h c u ne a fact may = tt
  spared_by unmarks h c u ne a fact may = tt
  spared_by (frees p) h c u ne a fact may = λ e. ne (f.one_allocation c j u v a at (subst (MaySay u.areas) e may) h.1)
  spared_by renews h c u ne a fact may = tt

  -- guards stay
  may_after : (fact : Fact) → MaySay v.areas fact → MaySay w.areas fact
  may_after (Lives t) m = tt
  may_after (Current t) m = tt
  may_after (Rooted e) m = tt
  may_after (Owns t d y) m = elim m [
    | inl h ↦ inl (subst (Has (Segment t)) (sym st.areas_are) (row_after row s (Segment t) v.areas refl refl h))
    | inr h ↦ inr (subst (Has Directory) (sym st.areas_are) (row_after row s Directory v.areas refl refl h))
  ]
  may_after (Lacks t d y) m = tt
  may_after (Deep k d y) m = tt
  may_after (Begins t y) m = tt
  may_after (Used n) m = tt
  may_after (Taken n) m = subst (Has Allocation) (sym st.areas_are) (row_after row s Allocation v.areas refl refl m)

  pub saying : Saying site (with_word words (header_word site.shape s) x) (set views j w)
  saying = record {
    said = λ c u fact a. each views j v w at (λ c u. Has fact u.facts → IsSaid site (with_word words (header_word site.shape s) x) (set views j w) fact)
        (λ h. let q = facts fact h in stays fact q.1 (o.said j v fact at q.0))
        (λ c u ne a h. stays fact (spared_by row has c u ne a fact (o.may c u fact a h)) (o.said c u fact a h)) c u a;
    may = λ c u fact a. each views j v w at (λ c u. Has fact u.facts → MaySay u.areas fact) (λ h. may_after fact (o.may j v fact at (facts fact h).0)) (λ c u ne a h. o.may c u fact a h) c u a;
  }

pub rows_keep_saying : RowsKeepSaying
rows_keep_saying site words views j v w row s x g f sound at now is has st facts o = saying site words views j v w row s x g f sound at now is has st facts o
