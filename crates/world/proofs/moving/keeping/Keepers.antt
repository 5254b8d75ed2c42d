-- Each kind of step at the structure keeps guards, who may say a fact, and pinned headers.
use Rattle.std.proofs.Common.{◌≡◌, ◌≢◌, ℕ, ◌<◌, Bool, true, false, cond, eqb, List, [], ◌∷◌, ◌++◌, set, inl, inr, refl, sym, ap, ◌∙◌, subst, arith}
use Rattle.std.specs.Prelude.{not}
use Rattle.std.proofs.lemmas.Bool.{eq-eqb, false≢true, true≢false}
use Rattle.trace.specs.Events.{Words, with_word, after}
use Rattle.trace.specs.Events.Event.{loaded, exchanged}
use Rattle.trace.proofs.Replaced.{replaced_other}
use Rattle.hash_word.specs.Hash.{first_hash_of}
use Rattle.segment_head.specs.HeadWord.{version_in, state_in, free, depth_in, pattern_in}
use Rattle.image_layout.specs.Places.{Shape, words_of, bucket_at, buckets, entry_at}
use Rattle.frame_facts.specs.Facts.{Fact, Lives, Current, Rooted, Owns, Lacks, Deep, Begins, Used, Taken}
use Rattle.world.specs.Ground.{Ground, IsCurrentIn}
use Rattle.world.specs.Views.{View, Has, At, HasLock}
use Rattle.world.specs.Kinds.{without}
use Rattle.world.specs.Parts.{IsPinned}
use Rattle.world.specs.Invariant.{Holds}
use Rattle.world.specs.areas.Areas.{Area, Segment, Stale, Side, Free, Whole, Allocation, Directory, header_word, is_side_at, is_whole_at, all_but, link_word}
use Rattle.world.specs.areas.Rows.{Row, marks, news, goes_live, finishes, unmarks, frees, renews, IsRow, HasForRow, areas_by}
use Rattle.world.specs.areas.Guarding.{IsGuardOf, Guards}
use Rattle.world.specs.areas.Saying.{MaySay}
use Rattle.world.specs.areas.Kinds.{Guard, of_segment, of_free_slots, of_directory, guard_word, area_of, goes_with, StructureKind, takes, takes_for_side, gives, finds_stale, closes, finds_free, finds_link, finds_side, finds_entry, finds_begin, reads, sets, moves, settles, settles_side, opens, with_guard, with_area, with_slot, is_new_side, is_ready_side, told_by_side, told_by_link, with_facts, is_claim, is_taken, is_taken_at, facts_without, facts_by, is_claim_of, view_then, with_guard_for}
use Rattle.world.specs.areas.Asking.{MayAt}
use Rattle.world.specs.areas.Keeping.{words_then, views_then, KeepsGuards, KeepsSayers, KeepsPins}
use Rattle.world.proofs.basics.Lists.{has_joined}
use Rattle.world.proofs.basics.Seats.{each, without_has}
use Rattle.world.proofs.basics.Structures.{lock_no_head}
use Rattle.world.proofs.basics.Grounds.{lock_within}
use Rattle.world.proofs.holding.Beside.{newest}
use Rattle.world.proofs.fitting.Filtered.{filtered_has}
use Rattle.world.proofs.fitting.Rows.{but_before, but_after, row_before, row_after, row_slot, head_near, one_head}
use Rattle.world.proofs.fitting.Guarding.{taken_guards, given_guards, other_guards}
use Rattle.world.proofs.moving.Known.{held_within, newest_is, held_living}
use Rattle.world.proofs.moving.keeping.Fitting.{guard_behind}

-- ---- guards, by areas and by sorts
pub guards_of : (site : Ground) (words : Words) (views : List View)
    → ((c : ℕ) (u : View) (guard : Guard) → At views c u → Has (area_of guard) u.areas → words (guard_word site.shape guard) ≢ 0) → Guards site words views
guards_of site words views taken = record { taken = by }
  where
    by : (c : ℕ) (u : View) (a : Area) (i : ℕ) → At views c u → Has a u.areas → IsGuardOf site.shape a i → words i ≢ 0
    by c u (Segment s) i at has is = λ z. taken c u (of_segment s) at has (ap words (sym is) ∙ z)
    by c u Allocation i at has is = λ z. taken c u of_free_slots at has (ap words (sym is) ∙ z)
    by c u Directory i at has is = λ z. taken c u of_directory at has (ap words (sym is) ∙ z)
    by c u (Stale s) i at has is = absurd is
    by c u (Side s) i at has is = absurd is
    by c u (Free s) i at has is = absurd is
    by c u (Whole s) i at has is = absurd is

is_guard : (shape : Shape) (guard : Guard) → IsGuardOf shape (area_of guard) (guard_word shape guard)
is_guard shape (of_segment s) = refl
is_guard shape of_free_slots = refl
is_guard shape of_directory = refl

by_guards : (site : Ground) (words : Words) (views : List View) → Guards site words views
    → (c : ℕ) (u : View) (guard : Guard) → At views c u → Has (area_of guard) u.areas → words (guard_word site.shape guard) ≢ 0
by_guards site words views o c u guard at has = o.taken c u (area_of guard) (guard_word site.shape guard) at has (is_guard site.shape guard)

no_guard_in : (shape : Shape) (i : ℕ) → i < words_of shape → (a : Area) → IsGuardOf shape a i → ⊥
no_guard_in shape i within (Segment s) is = omega (arith, within, is)
no_guard_in shape i within Allocation is = omega (arith, within, is)
no_guard_in shape i within Directory is = omega (arith, within, is)
no_guard_in shape i within (Stale s) is = is
no_guard_in shape i within (Side s) is = is
no_guard_in shape i within (Free s) is = is
no_guard_in shape i within (Whole s) is = is

-- it goes with itself
goes_itself : (guard : Guard) → goes_with guard (area_of guard) ≡ false → ⊥
goes_itself (of_segment s) e = true≢false (sym (eq-eqb s s refl) ∙ e)
goes_itself of_free_slots e = cc
goes_itself of_directory e = cc

module _ (site : Ground) (words : Words) (views : List View) (j : ℕ) (v : View) (h : Holds site words views) (at : At views j v) where
  was : Guards site words views
  was = guards_of site words views h.structure.guards

  -- no more guards, and the words as they are
  abbrev NoMore : View → Type 0
  NoMore w = (a : Area) (n : ℕ) → Has a w.areas → IsGuardOf site.shape a n → Has a v.areas

  same_guards : (w : View) → NoMore w → Guards site words (set views j w)
  same_guards w less = record {
    taken = λ c u a n ac. each views j v w at (λ c u. Has a u.areas → IsGuardOf site.shape a n → words n ≢ 0) (λ has is. was.taken j v a n at (less a n has is) is)
        (λ c u ne ac has is. was.taken c u a n ac has is) c u ac;
  }

  near_guards : (i x : ℕ) (w : View) → i < words_of site.shape → NoMore w → Guards site (with_word words i x) (set views j w)
  near_guards i x w near less = other_guards site words views j v w i x at was (no_guard_in site.shape i near) less

  -- one area more that is no guard
  found_less : (t : Bool) (area : Area) (i x : ℕ) → ((n : ℕ) → IsGuardOf site.shape area n → ⊥) → NoMore (with_area t area i x v)
  found_less true area i x none a n has is = elim has [ inl e ↦ absurd (none n (subst (λ z. IsGuardOf site.shape z n) e is)) | inr old ↦ old ]
  found_less false area i x none a n has is = has

  slot_less : (t : Bool) (m i x : ℕ) → NoMore (with_slot t m i x v)
  slot_less true m i x = found_less true (Free m) i x (λ n k. k)
  slot_less false m i x = λ a n has is. has

  taken : (guard : Guard) (caller : ℕ) → caller ≢ 0 → (t : Bool)
      → Guards site (after (cond t (exchanged j (guard_word site.shape guard) caller) (loaded j (guard_word site.shape guard))) words) (set views j (with_guard t guard v))
  taken guard caller some true = taken_guards site words views j v (with_guard true guard v) (area_of guard) (guard_word site.shape guard) caller at was (is_guard site.shape guard) some refl
  taken guard caller some false = same_guards v (λ a n has is. has)

  some_caller : (guard : Guard) (caller : ℕ) → MayAt site (takes guard caller) v → caller ≢ 0
  some_caller (of_segment s) caller may e = omega (arith, may.0, e)
  some_caller of_free_slots caller may e = omega (arith, may, e)
  some_caller of_directory caller may e = omega (arith, may, e)

  row_less : (row : Row) (s : ℕ) (w : View) → w.areas ≡ areas_by row s v.areas → NoMore w
  row_less row s w e (Segment t) n has is = row_before row s (Segment t) v.areas refl (subst (Has (Segment t)) e has)
  row_less row s w e Allocation n has is = row_before row s Allocation v.areas refl (subst (Has Allocation) e has)
  row_less row s w e Directory n has is = row_before row s Directory v.areas refl (subst (Has Directory) e has)
  row_less row s w e (Stale t) n has is = absurd is
  row_less row s w e (Side t) n has is = absurd is
  row_less row s w e (Free t) n has is = absurd is
  row_less row s w e (Whole t) n has is = absurd is

  dropped_less : (test : Area → Bool) (w : View) → w.areas ≡ all_but test v.areas → NoMore w
  dropped_less test w e a n has is = (but_before test v.areas a (subst (Has a) e has)).0

  -- a guard that is taken for a side, or the side is given up, which is no guard
  taken_for : (n caller : ℕ) → caller ≢ 0 → (t : Bool)
      → Guards site (after (cond t (exchanged j (guard_word site.shape of_free_slots) caller) (loaded j (guard_word site.shape of_free_slots))) words) (set views j (with_guard_for site.shape t n v))
  taken_for n caller some true = taken of_free_slots caller some true
  taken_for n caller some false = same_guards (with_guard_for site.shape false n v) (dropped_less (is_side_at n) (with_guard_for site.shape false n v) refl)

  pub row_near : (row : Row) (s x : ℕ) → MayAt site (moves row s x) v → header_word site.shape s < words_of site.shape
  row_near row s x may = head_near site s (row_slot site words s x row (may.0 words (newest_is site words views h j v at)).0)

  pub lock_near : (s lock next : ℕ) → MayAt site (opens s lock next) v → lock < words_of site.shape
  lock_near s lock next may =
      let slot = (h.structure.fits.segment j v s at (h.structure.fits.whole j v s at may.0).0 words (newest site words views)).slot in
      let w = lock_within site.shape lock (s, may.1.0, slot, may.1.1, may.1.2) in omega (arith, w)

  -- ---- who may say a fact
  abbrev AllMaySay : View → Type 0
  AllMaySay w = (c : ℕ) (u : View) (fact : Fact) → At (set views j w) c u → Has fact u.facts → MaySay u.areas fact

  says_all : (w : View) → ((fact : Fact) → Has fact w.facts → MaySay w.areas fact) → AllMaySay w
  says_all w mine c u fact a = each views j v w at (λ c u. Has fact u.facts → MaySay u.areas fact) (mine fact) (λ c u ne a has. h.structure.may_say c u fact a has) c u a

  -- areas have a guard that those of the view have
  abbrev Keeps : List Area → Area → Type 0
  Keeps areas guard = Has guard v.areas → Has guard areas

  -- areas that have the guards that others have
  may_after : (areas : List Area) → ((s : ℕ) → Keeps areas (Segment s)) → Keeps areas Directory → Keeps areas Allocation → (fact : Fact) → MaySay v.areas fact → MaySay areas fact
  may_after areas segments directory allocation (Owns s d p) m = elim m [ inl a ↦ inl (segments s a) | inr a ↦ inr (directory a) ]
  may_after areas segments directory allocation (Lives s) m = tt
  may_after areas segments directory allocation (Current s) m = tt
  may_after areas segments directory allocation (Rooted e) m = tt
  may_after areas segments directory allocation (Lacks s d p) m = tt
  may_after areas segments directory allocation (Deep f d p) m = tt
  may_after areas segments directory allocation (Begins s k) m = tt
  may_after areas segments directory allocation (Used n) m = tt
  may_after areas segments directory allocation (Taken n) m = allocation m

  same_says : (w : View) → ((fact : Fact) → Has fact w.facts → Has fact v.facts) → ((s : ℕ) → Keeps w.areas (Segment s)) → Keeps w.areas Directory → Keeps w.areas Allocation → AllMaySay w
  same_says w facts segments directory allocation = says_all w (λ fact has. may_after w.areas segments directory allocation fact (h.structure.may_say j v fact at (facts fact has)))

  found_says : (t : Bool) (area : Area) (i x : ℕ) → AllMaySay (with_area t area i x v)
  found_says true area i x = same_says (with_area true area i x v) (λ fact has. has) (λ s a. inr a) (λ a. inr a) (λ a. inr a)
  found_says false area i x = same_says v (λ fact has. has) (λ s a. a) (λ a. a) (λ a. a)

  slot_says : (t : Bool) (m i x : ℕ) → Has Allocation v.areas → AllMaySay (with_slot t m i x v)
  slot_says true m i x guard = found_says true (Free m) i x
  slot_says false m i x guard = says_all (with_slot false m i x v) (λ fact has. elim has [ inl e ↦ subst (MaySay v.areas) (sym e) guard | inr old ↦ h.structure.may_say j v fact at old ])

  taken_says : (t : Bool) (guard : Guard) → AllMaySay (with_guard t guard v)
  taken_says true guard = same_says (with_guard true guard v) (λ fact has. has) (λ s a. inr a) (λ a. inr a) (λ a. inr a)
  taken_says false guard = same_says v (λ fact has. has) (λ s a. a) (λ a. a) (λ a. a)

  taken_for_says : (t : Bool) (n : ℕ) → AllMaySay (with_guard_for site.shape t n v)
  taken_for_says true n = taken_says true of_free_slots
  taken_for_says false n = same_says (with_guard_for site.shape false n v) (λ fact has. has) (λ s a. but_after (is_side_at n) v.areas (Segment s) a refl)
      (λ a. but_after (is_side_at n) v.areas Directory a refl) (λ a. but_after (is_side_at n) v.areas Allocation a refl)

  -- without claims, where the guard of free slots is kept
  no_claims : (areas : List Area) → Keeps areas Allocation → (fact : Fact) → Has fact (facts_without (of_segment 0) v.facts) → MaySay areas fact
  no_claims areas allocation (Owns s d p) has = absurd (false≢true (filtered_has (λ k. not (is_claim k)) v.facts (Owns s d p) has).1)
  no_claims areas allocation (Lives s) has = tt
  no_claims areas allocation (Current s) has = tt
  no_claims areas allocation (Rooted e) has = tt
  no_claims areas allocation (Lacks s d p) has = tt
  no_claims areas allocation (Deep f d p) has = tt
  no_claims areas allocation (Begins s k) has = tt
  no_claims areas allocation (Used n) has = tt
  no_claims areas allocation (Taken n) has = allocation (h.structure.may_say j v (Taken n) at (filtered_has (λ k. not (is_claim k)) v.facts (Taken n) has).0)

  -- without taken slots, where the other guards are kept
  no_taken : (areas : List Area) → ((s : ℕ) → Keeps areas (Segment s)) → Keeps areas Directory → (fact : Fact) → Has fact (facts_without of_free_slots v.facts) → MaySay areas fact
  no_taken areas segments directory (Owns s d p) has =
      elim (h.structure.may_say j v (Owns s d p) at (filtered_has (λ k. not (is_taken k)) v.facts (Owns s d p) has).0) [ inl a ↦ inl (segments s a) | inr a ↦ inr (directory a) ]
  no_taken areas segments directory (Lives s) has = tt
  no_taken areas segments directory (Current s) has = tt
  no_taken areas segments directory (Rooted e) has = tt
  no_taken areas segments directory (Lacks s d p) has = tt
  no_taken areas segments directory (Deep f d p) has = tt
  no_taken areas segments directory (Begins s k) has = tt
  no_taken areas segments directory (Used n) has = tt
  no_taken areas segments directory (Taken n) has = absurd (false≢true (filtered_has (λ k. not (is_taken k)) v.facts (Taken n) has).1)

  -- a guard is kept that does not go with the one that is given back
  given_keeps : (guard : Guard) (w : View) → w.areas ≡ all_but (goes_with guard) v.areas → (other : Area) → goes_with guard other ≡ false → Keeps w.areas other
  given_keeps guard w a other apart k = subst (Has other) (sym a) (but_after (goes_with guard) v.areas other k apart)

  given_says : (guard : Guard) (w : View) → w.facts ≡ facts_without guard v.facts → w.areas ≡ all_but (goes_with guard) v.areas → AllMaySay w
  given_says (of_segment s) w e a = says_all w (λ fact has. no_claims w.areas (given_keeps (of_segment s) w a Allocation refl) fact (subst (Has fact) e has))
  given_says of_directory w e a = says_all w (λ fact has. no_claims w.areas (given_keeps of_directory w a Allocation refl) fact (subst (Has fact) e has))
  given_says of_free_slots w e a = says_all w (λ fact has. no_taken w.areas (λ s. given_keeps of_free_slots w a (Segment s) refl) (given_keeps of_free_slots w a Directory refl) fact (subst (Has fact) e has))

  -- a row forgets some facts
  row_facts : (row : Row) (s : ℕ) (fact : Fact) → Has fact (facts_by row s v.facts) → Has fact v.facts
  row_facts (goes_live p) s fact has = (filtered_has (λ k. not (is_claim_of p k)) v.facts fact has).0
  row_facts (marks n) s fact has = has
  row_facts (news p) s fact has = has
  row_facts finishes s fact has = has
  row_facts unmarks s fact has = has
  row_facts (frees p) s fact has = (filtered_has (λ k. not (is_taken_at s k)) v.facts fact has).0
  row_facts renews s fact has = has

  row_says : (row : Row) (s : ℕ) (w : View) → w.facts ≡ facts_by row s v.facts → w.areas ≡ areas_by row s v.areas → AllMaySay w
  row_says row s w e a = same_says w (λ fact has. row_facts row s fact (subst (Has fact) e has))
      (λ t k. subst (Has (Segment t)) (sym a) (row_after row s (Segment t) v.areas refl refl k)) (λ k. subst (Has Directory) (sym a) (row_after row s Directory v.areas refl refl k))
      (λ k. subst (Has Allocation) (sym a) (row_after row s Allocation v.areas refl refl k))

  settled_says : (facts : List Fact) (w : View) → ((fact : Fact) → Has fact facts → MaySay v.areas fact) → w.facts ≡ facts ++ v.facts → w.areas ≡ v.areas → AllMaySay w
  settled_says facts w may e a = says_all w (λ fact has. subst (λ z. MaySay z fact) (sym a) (elim (has_joined facts v.facts fact (subst (Has fact) e has)) [
    | inl new ↦ may fact new
    | inr old ↦ h.structure.may_say j v fact at old
  ]))

  -- facts that are told, each of which the view may say
  told_says : (facts : List Fact) (t : Bool) (area : Area) (i x : ℕ) → ((fact : Fact) → Has fact facts → MaySay v.areas fact) → AllMaySay (with_facts facts (with_area t area i x v))
  told_says facts true area i x may = says_all (with_facts facts (with_area true area i x v)) (λ fact has. may_after (area ∷ v.areas) (λ s a. inr a) (λ a. inr a) (λ a. inr a) fact
      (elim (has_joined facts v.facts fact has) [ inl new ↦ may fact new | inr old ↦ h.structure.may_say j v fact at old ]))
  told_says facts false area i x may = settled_says facts (with_facts facts v) may refl refl

  owned : (p : ℕ) → Has (Stale p) v.areas → Has (Segment p) v.areas
  owned p has = (h.structure.fits.stale j v p at has).0

  -- who has the segment of a linked slot may say what that tells
  side_may : (t : Bool) (p n depth pattern : ℕ) → Has (Stale p) v.areas → (fact : Fact) → Has fact (told_by_side t p n depth pattern) → MaySay v.areas fact
  side_may true p n depth pattern stale fact has = elim has [
    | inl is ↦ subst (MaySay v.areas) (sym is) tt
    | inr rest ↦ elim rest [ inl is ↦ subst (MaySay v.areas) (sym is) tt | inr more ↦ absurd more ]
  ]
  side_may false p n depth pattern stale fact has = elim has [ inl is ↦ subst (MaySay v.areas) (sym is) (inl (owned p stale)) | inr more ↦ absurd more ]

  link_may : (t : Bool) (p depth pattern : ℕ) → Has (Stale p) v.areas → (fact : Fact) → Has fact (told_by_link t p depth pattern) → MaySay v.areas fact
  link_may true p depth pattern stale fact has = elim has [ inl is ↦ subst (MaySay v.areas) (sym is) (inl (owned p stale)) | inr more ↦ absurd more ]
  link_may false p depth pattern stale fact has = absurd has

  -- of a fact that anybody may say
  plain_may : (f : Fact) → MaySay v.areas f → (fact : Fact) → Has fact (f ∷ []) → MaySay v.areas fact
  plain_may f may fact has = elim has [ inl is ↦ subst (MaySay v.areas) (sym is) may | inr more ↦ absurd more ]

  side_says : (n depth pattern : ℕ) (w : View) → Has Directory v.areas → w.facts ≡ Owns n depth pattern ∷ v.facts → w.areas ≡ all_but (is_side_at n) v.areas → AllMaySay w
  side_says n depth pattern w guard e a = says_all w (λ fact has. elim (subst (Has fact) e has) [
    | inl new ↦ subst (MaySay w.areas) (sym new) (inr (subst (Has Directory) (sym a) (but_after (is_side_at n) v.areas Directory guard refl)))
    | inr old ↦ may_after w.areas (λ s k. subst (Has (Segment s)) (sym a) (but_after (is_side_at n) v.areas (Segment s) k refl))
        (λ k. subst (Has Directory) (sym a) (but_after (is_side_at n) v.areas Directory k refl)) (λ k. subst (Has Allocation) (sym a) (but_after (is_side_at n) v.areas Allocation k refl))
        fact (h.structure.may_say j v fact at old)
  ])

  opened_says : (s : ℕ) (w : View) → w.facts ≡ v.facts → w.areas ≡ all_but (is_whole_at s) v.areas → AllMaySay w
  opened_says s w e a = same_says w (λ fact has. subst (Has fact) e has) (λ t k. subst (Has (Segment t)) (sym a) (but_after (is_whole_at s) v.areas (Segment t) k refl))
      (λ k. subst (Has Directory) (sym a) (but_after (is_whole_at s) v.areas Directory k refl)) (λ k. subst (Has Allocation) (sym a) (but_after (is_whole_at s) v.areas Allocation k refl))

  -- ---- pinned headers
  abbrev AllPinned : Words → View → Type 0
  AllPinned later w = (c : ℕ) (u : View) (s x : ℕ) → At (set views j w) c u → Has (s, x) u.pinned → IsPinned site later u s x

  -- a pinned header is one of a slot that is there
  pinned_slot : (c : ℕ) (u : View) (s x : ℕ) → At views c u → IsPinned site words u s x → s < site.shape.segments
  pinned_slot c u s x a p = (held_living site words views h c u a s p.0 p.1 p.2).0.live.slot

  -- where headers stay
  pub pins_by : (later : Words) (w : View) → ((s : ℕ) → s < site.shape.segments → later (header_word site.shape s) ≡ words (header_word site.shape s))
      → ((s x : ℕ) → Has (s, x) w.pinned → Has (s, x) v.pinned × ((lock : ℕ) → HasLock v.held lock → HasLock w.held lock)) → AllPinned later w
  pins_by later w heads mine c u s x a = each views j v w at (λ c u. Has (s, x) u.pinned → IsPinned site later u s x)
      (λ has. let q = mine s x has in let p = h.structure.pinned j v s x at q.0 in (p.0, p.1, q.1 (bucket_at site.shape s p.0) p.2, heads s (pinned_slot j v s x at p) ∙ p.3))
      (λ c u ne a has. let p = h.structure.pinned c u s x a has in (p.0, p.1, p.2, heads s (pinned_slot c u s x a p) ∙ p.3)) c u a

  loaded_pins : (w : View) → w.pinned ≡ v.pinned → w.held ≡ v.held → AllPinned words w
  loaded_pins w e k = pins_by words w (λ s slot. refl) (λ s x has. (subst (Has (s, x)) e has, λ lock l. subst (λ z. HasLock z lock) (sym k) l))

  stored_pins : (i x : ℕ) (w : View) → ((s : ℕ) → s < site.shape.segments → i ≢ header_word site.shape s) → w.pinned ≡ v.pinned → w.held ≡ v.held → AllPinned (with_word words i x) w
  stored_pins i x w none e k = pins_by (with_word words i x) w (λ s slot. replaced_other words i x (header_word site.shape s) (λ z. none s slot (sym z)))
      (λ s y has. (subst (Has (s, y)) e has, λ lock l. subst (λ z. HasLock z lock) (sym k) l))

  found_pins : (t : Bool) (area : Area) (i x : ℕ) → AllPinned words (with_area t area i x v)
  found_pins true area i x = loaded_pins (with_area true area i x v) refl refl
  found_pins false area i x = loaded_pins v refl refl

  told_pins : (facts : List Fact) (t : Bool) (area : Area) (i x : ℕ) → AllPinned words (with_facts facts (with_area t area i x v))
  told_pins facts true area i x = loaded_pins (with_facts facts (with_area true area i x v)) refl refl
  told_pins facts false area i x = loaded_pins (with_facts facts v) refl refl

  slot_pins : (t : Bool) (m i x : ℕ) → AllPinned words (with_slot t m i x v)
  slot_pins true m i x = found_pins true (Free m) i x
  slot_pins false m i x = loaded_pins (with_slot false m i x v) refl refl

  no_guard_head : (guard : Guard) (s : ℕ) → s < site.shape.segments → guard_word site.shape guard ≢ header_word site.shape s
  no_guard_head guard s slot e = omega (arith, e, head_near site s slot, guard_behind site.shape guard)

  taken_pins : (guard : Guard) (caller : ℕ) (t : Bool)
      → AllPinned (after (cond t (exchanged j (guard_word site.shape guard) caller) (loaded j (guard_word site.shape guard))) words) (with_guard t guard v)
  taken_pins guard caller true = stored_pins (guard_word site.shape guard) caller (with_guard true guard v) (no_guard_head guard) refl refl
  taken_pins guard caller false = loaded_pins v refl refl

  taken_for_pins : (n caller : ℕ) (t : Bool)
      → AllPinned (after (cond t (exchanged j (guard_word site.shape of_free_slots) caller) (loaded j (guard_word site.shape of_free_slots))) words) (with_guard_for site.shape t n v)
  taken_for_pins n caller true = taken_pins of_free_slots caller true
  taken_for_pins n caller false = loaded_pins (with_guard_for site.shape false n v) refl refl

  opened_pins : (s lock next : ℕ) (w : View) → MayAt site (opens s lock next) v → w.pinned ≡ [] → AllPinned (with_word words lock next) w
  opened_pins s lock next w may e =
      let slot = (h.structure.fits.segment j v s at (h.structure.fits.whole j v s at may.0).0 words (newest site words views)).slot in
      pins_by (with_word words lock next) w
      (λ t k. replaced_other words lock next (header_word site.shape t) (λ z. lock_no_head site.shape lock t (s, may.1.0, slot, may.1.1, may.1.2) (sym z)))
      (λ t x has. absurd (subst (Has (t, x)) e has))

  -- the header of a segment of which another view holds a lock is not stored: it is live and current, and who stores that of such a segment has it whole
  foreign : (row : Row) (s x : ℕ) → IsRow site words row s x → HasForRow site words row s v.areas → (c : ℕ) (u : View) → c ≢ j → At views c u
      → (b : ℕ) → b < buckets → HasLock u.held (bucket_at site.shape s b) → ⊥
  foreign row s x now has c u ne a b near lock = by row now has
    where
      current : IsCurrentIn site words s
      current = (held_living site words views h c u a s b near lock).0

      alone : Has (Whole s) v.areas → ⊥
      alone whole = let mine = (h.structure.fits.whole j v s at whole).1 b near in ne (h.locks.alone c j u v (bucket_at site.shape s b) lock.0 mine.0 a at lock.1 mine.1)

      old : Has (Stale s) v.areas → ⊥
      old stale = (h.structure.fits.stale j v s at stale).1 current.current

      dead : (n : ℕ) → state_in (words (header_word site.shape s)) ≡ n → (n ≡ 1 → ⊥) → (n ≡ 2 → ⊥) → ⊥
      dead n e p q = elim current.live.live [ inl l ↦ p (sym e ∙ l) | inr l ↦ q (sym e ∙ l) ]

      by : (r : Row) → IsRow site words r s x → HasForRow site words r s v.areas → ⊥
      by (marks n) q k = alone k.0
      by (news p) q k = dead 0 q.0.was (λ e. omega (arith, e)) (λ e. omega (arith, e))
      by (goes_live p) q k = dead 3 q.0.was (λ e. omega (arith, e)) (λ e. omega (arith, e))
      by finishes q k = alone (k.1 current)
      by unmarks q k = old k.0
      by (frees p) q k = dead 3 q.0.was (λ e. omega (arith, e)) (λ e. omega (arith, e))
      by renews q k = old k

  row_pins : (row : Row) (s x : ℕ) (w : View) → MayAt site (moves row s x) v → w.held ≡ v.held → w.pinned ≡ without s v.pinned → AllPinned (with_word words (header_word site.shape s) x) w
  row_pins row s x w may k e c u t y a =
      let now = may.0 words (newest_is site words views h j v at) in
      let heads : t ≢ s → with_word words (header_word site.shape s) x (header_word site.shape t) ≡ words (header_word site.shape t) =
      λ n. replaced_other words (header_word site.shape s) x (header_word site.shape t) (λ z. n (one_head site t s z)) in
      each views j v w at (λ c u. Has (t, y) u.pinned → IsPinned site (with_word words (header_word site.shape s) x) u t y)
      (λ has. let q = without_has s t y v.pinned (subst (Has (t, y)) e has) in let p = h.structure.pinned j v t y at q.1 in
      (p.0, p.1, subst (λ l. HasLock l (bucket_at site.shape t p.0)) (sym k) p.2, heads q.0 ∙ p.3))
      (λ c u ne a has. let p = h.structure.pinned c u t y a has in (
        p.0,
        p.1,
        p.2,
        heads (λ z.
            foreign row s x now.0 now.1 c u ne a p.0 p.1 (subst (λ q. HasLock u.held (bucket_at site.shape q p.0)) z p.2)) ∙ p.3,
      )) c u a

-- EACH KIND
pub keep_guards : KeepsGuards
keep_guards site kind words views j v h at may = by_guards site (words_then site kind j words) (views_then site kind j v words views) (by kind may)
  where
    by : (kind : StructureKind) → MayAt site kind v → Guards site (words_then site kind j words) (views_then site kind j v words views)
    by (takes guard caller) may = taken site words views j v h at guard caller (some_caller site words views j v h at guard caller may) (eqb (words (guard_word site.shape guard)) 0)
    by (takes_for_side n caller) may = taken_for site words views j v h at n caller (some_caller site words views j v h at of_free_slots caller may.0) (eqb (words (guard_word site.shape of_free_slots)) 0)
    by (gives guard) may = given_guards site words views j v (view_then site.shape (gives guard) (words (guard_word site.shape guard)) v) (area_of guard) (guard_word site.shape guard) at h.structure.fits
        (was site words views j v h at) (is_guard site.shape guard) may.0 (λ b has. (but_before (goes_with guard) v.areas b has).0)
        (λ has. goes_itself guard (but_before (goes_with guard) v.areas (area_of guard) has).1)
    by (finds_stale s version) may = same_guards site words views j v h at _
        (found_less site words views j v h at (not (eqb (version_in (words (header_word site.shape s))) version)) (Stale s) (header_word site.shape s) (words (header_word site.shape s)) (λ n k. k))
    by (closes s i) may = same_guards site words views j v h at _ (found_less site words views j v h at true (Whole s) i (words i) (λ n k. k))
    by (finds_free m) may = same_guards site words views j v h at _
        (slot_less site words views j v h at (eqb (state_in (words (header_word site.shape m))) free) m (header_word site.shape m) (words (header_word site.shape m)))
    by (finds_link p depth pattern) may = same_guards site words views j v h at _ (λ a n has is. has)
    by (finds_side p m depth pattern) may = same_guards site words views j v h at _
        (found_less site words views j v h at (is_new_side depth pattern (words (header_word site.shape m))) (Side m) (header_word site.shape m) (words (header_word site.shape m)) (λ n k. k))
    by (finds_entry e i) may = same_guards site words views j v h at _ (λ a n has is. has)
    by (finds_begin s) may = same_guards site words views j v h at _ (λ a n has is. has)
    by (reads i) may = same_guards site words views j v h at _ (λ a n has is. has)
    by (sets i x) may = near_guards site words views j v h at i x _ (held_within site words views h j v i at may.holds) (λ a n has is. has)
    by (moves row s x) may = near_guards site words views j v h at (header_word site.shape s) x _ (row_near site words views j v h at row s x may)
        (row_less site words views j v h at row s (view_then site.shape (moves row s x) (words (header_word site.shape s)) v) refl)
    by (settles facts) may = same_guards site words views j v h at _ (λ a n has is. has)
    by (settles_side m depth pattern) may = same_guards site words views j v h at _
        (dropped_less site words views j v h at (is_side_at m) (record v { areas = all_but (is_side_at m) v.areas }) refl)
    by (opens s lock next) may = near_guards site words views j v h at lock next _ (lock_near site words views j v h at s lock next may)
        (dropped_less site words views j v h at (is_whole_at s) (record v { areas = all_but (is_whole_at s) v.areas }) refl)

pub keep_sayers : KeepsSayers
keep_sayers site (takes guard caller) words views j v h at may = taken_says site words views j v h at (eqb (words (guard_word site.shape guard)) 0) guard
keep_sayers site (takes_for_side n caller) words views j v h at may = taken_for_says site words views j v h at (eqb (words (guard_word site.shape of_free_slots)) 0) n
keep_sayers site (gives guard) words views j v h at may = given_says site words views j v h at guard _ refl refl
keep_sayers site (finds_stale s version) words views j v h at may =
    found_says site words views j v h at (not (eqb (version_in (words (header_word site.shape s))) version)) (Stale s) (header_word site.shape s) (words (header_word site.shape s))
keep_sayers site (closes s i) words views j v h at may = found_says site words views j v h at true (Whole s) i (words i)
keep_sayers site (finds_free m) words views j v h at may =
    slot_says site words views j v h at (eqb (state_in (words (header_word site.shape m))) free) m (header_word site.shape m) (words (header_word site.shape m)) may.0
keep_sayers site (finds_link p depth pattern) words views j v h at may =
    let facts = told_by_link (eqb (words (link_word site.shape p)) 0) p depth pattern in
    settled_says site words views j v h at facts _ (link_may site words views j v h at (eqb (words (link_word site.shape p)) 0) p depth pattern may.0.stale) refl refl
keep_sayers site (finds_side p m depth pattern) words views j v h at may =
    let n = words (header_word site.shape m) in
    told_says site words views j v h at (told_by_side (is_ready_side depth pattern n) p m depth pattern) (is_new_side depth pattern n) (Side m) (header_word site.shape m) n
    (side_may site words views j v h at (is_ready_side depth pattern n) p m depth pattern may.0.stale)
keep_sayers site (finds_entry e i) words views j v h at may =
    settled_says site words views j v h at (Lives (words (entry_at e i)) ∷ []) _ (plain_may site words views j v h at (Lives (words (entry_at e i))) tt) refl refl
keep_sayers site (finds_begin s) words views j v h at may =
    let n = words (header_word site.shape s) in
    settled_says site words views j v h at (Begins s (first_hash_of (depth_in n) (pattern_in n)) ∷ []) _
    (plain_may site words views j v h at (Begins s (first_hash_of (depth_in n) (pattern_in n))) tt) refl refl
keep_sayers site (reads i) words views j v h at may = same_says site words views j v h at _ (λ fact has. has) (λ s a. a) (λ a. a) (λ a. a)
keep_sayers site (sets i x) words views j v h at may = same_says site words views j v h at _ (λ fact has. has) (λ s a. a) (λ a. a) (λ a. a)
keep_sayers site (moves row s x) words views j v h at may = row_says site words views j v h at row s _ refl refl
keep_sayers site (settles facts) words views j v h at may = settled_says site words views j v h at facts _ (λ fact has. (may.1 fact has).0) refl refl
keep_sayers site (settles_side m depth pattern) words views j v h at may = side_says site words views j v h at m depth pattern _ may.1 refl refl
keep_sayers site (opens s lock next) words views j v h at may = opened_says site words views j v h at s _ refl refl

pub keep_pins : KeepsPins
keep_pins site (takes guard caller) words views j v h at may = taken_pins site words views j v h at guard caller (eqb (words (guard_word site.shape guard)) 0)
keep_pins site (takes_for_side n caller) words views j v h at may = taken_for_pins site words views j v h at n caller (eqb (words (guard_word site.shape of_free_slots)) 0)
keep_pins site (gives guard) words views j v h at may = stored_pins site words views j v h at (guard_word site.shape guard) 0 _ (no_guard_head site words views j v h at guard) refl refl
keep_pins site (finds_stale s version) words views j v h at may =
    found_pins site words views j v h at (not (eqb (version_in (words (header_word site.shape s))) version)) (Stale s) (header_word site.shape s) (words (header_word site.shape s))
keep_pins site (closes s i) words views j v h at may = found_pins site words views j v h at true (Whole s) i (words i)
keep_pins site (finds_free m) words views j v h at may =
    slot_pins site words views j v h at (eqb (state_in (words (header_word site.shape m))) free) m (header_word site.shape m) (words (header_word site.shape m))
keep_pins site (finds_link p depth pattern) words views j v h at may = loaded_pins site words views j v h at _ refl refl
keep_pins site (finds_side p m depth pattern) words views j v h at may =
    let n = words (header_word site.shape m) in
    told_pins site words views j v h at (told_by_side (is_ready_side depth pattern n) p m depth pattern) (is_new_side depth pattern n) (Side m) (header_word site.shape m) n
keep_pins site (finds_entry e i) words views j v h at may = loaded_pins site words views j v h at _ refl refl
keep_pins site (finds_begin s) words views j v h at may = loaded_pins site words views j v h at _ refl refl
keep_pins site (reads i) words views j v h at may = loaded_pins site words views j v h at _ refl refl
keep_pins site (sets i x) words views j v h at may = stored_pins site words views j v h at i x _ may.no_header refl refl
keep_pins site (moves row s x) words views j v h at may = row_pins site words views j v h at row s x _ may refl refl
keep_pins site (settles facts) words views j v h at may = loaded_pins site words views j v h at _ refl refl
keep_pins site (settles_side m depth pattern) words views j v h at may = loaded_pins site words views j v h at _ refl refl
keep_pins site (opens s lock next) words views j v h at may = opened_pins site words views j v h at s lock next _ may refl
