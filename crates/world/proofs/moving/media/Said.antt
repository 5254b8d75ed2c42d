-- The structure is sound in whatever a cut may leave, and the facts of all views hold beside it, at each kind of step at the structure.
use Rattle.std.proofs.Common.{◌≡◌, ◌≢◌, ◌⊎◌, ℕ, ◌<◌, Bool, true, false, cond, eqb, List, [], ◌∷◌, ◌++◌, set, inl, inr, refl, sym, ap, ◌∙◌, subst, arith}
use Rattle.std.specs.Prelude.{not, ⊤}
use Rattle.std.proofs.lemmas.Bool.{eq-eqb, eqb-false}
use Rattle.trace.specs.Events.{Words, with_word, after}
use Rattle.trace.specs.Events.Event.{loaded, exchanged}
use Rattle.hash_word.specs.Hash.{Covers}
use Rattle.segment_head.specs.HeadWord.{state_in, depth_in, pattern_in, free, normal, splitting}
use Rattle.image_layout.specs.Places.{root_word, entry_at, words_of}
use Rattle.sound_image.specs.Segments.{Frame, frame_of}
use Rattle.frame_facts.specs.Media.{first_hash}
use Rattle.frame_facts.specs.Core.{core_of, core}
use Rattle.frame_facts.proofs.segments.Cores.{core_structure}
use Rattle.frame_facts.specs.Facts.{Fact, Lives, Current, Rooted, Owns, Lacks, Deep, Begins, Used, Taken, HoldsFact}
use Rattle.frame_facts.specs.Keeping.{AreSound, ClaimsNoneOfSide}
use Rattle.frame_facts.specs.DeadSlots.{IsInSlot}
use Rattle.frame_facts.proofs.Structure.{followed}
use Rattle.world.specs.Ground.{Ground, version_of, IsStructured}
use Rattle.world.specs.Views.{View, Has, At, IsLoose}
use Rattle.world.specs.Media.{IsPossible}
use Rattle.world.specs.Kinds.{loosened}
use Rattle.world.specs.Conditions.{Agrees}
use Rattle.world.specs.areas.Areas.{Area, Segment, Side, header_word, link_word}
use Rattle.world.specs.areas.Fitting.{HoldsWord}
use Rattle.world.specs.areas.Rows.{Row, marks, news, goes_live, finishes, unmarks, frees, renews, IsRow, HasForRow, HasStored}
use Rattle.world.specs.areas.Saying.{MaySay}
use Rattle.world.specs.areas.Kinds.{Guard, of_segment, of_free_slots, of_directory, guard_word, view_then, StructureKind, takes, takes_for_side, gives, finds_stale, closes, finds_free, finds_link, finds_side, finds_entry, finds_begin, reads, sets, moves, settles, settles_side, opens, with_guard, with_area, with_slot, is_new_side, is_ready_side, told_by_side, told_by_link, with_facts, facts_without, is_claim_of, is_taken_at, facts_by, with_guard_for}
use Rattle.world.specs.areas.Asking.{MayBeNewest, MayStandBeside, KeepsAll, EndsNothing, ends_by, once_fenced, MayAt}
use Rattle.world.specs.Invariant.{Holds}
use Rattle.world.specs.areas.Keeping.{whole_beside, found_at, words_then, KeepsSound, KeepsFacts}
use Rattle.world.proofs.basics.Lists.{has_joined}
use Rattle.world.proofs.basics.Seats.{each, is_v}
use Rattle.world.proofs.basics.Structures.{header_is}
use Rattle.world.proofs.basics.Tables.{core_structure_same, lock_cores}
use Rattle.world.proofs.holding.Beside.{newest}
use Rattle.world.proofs.fitting.Filtered.{filtered_has, not_false}
use Rattle.world.proofs.fitting.Learning.{roots_tell, entries_tell, headers_tell}
use Rattle.world.proofs.fitting.OneHolder.{one_holder, head_in_slot}
use Rattle.world.proofs.fitting.Rows.{head_near, row_slot}
use Rattle.world.proofs.moving.Known.{grounds, whole_cores, whole_possible, held_within, newest_is, beside}
use Rattle.world.proofs.moving.Stepping.{IsStill, structured_by, structure_of, still_back, calm_still, guard_still, found_less, told_less, slot_less, fenced_less, grown_whole}
use Rattle.world.proofs.moving.media.Linked.{side_said, link_said}
use Rattle.world.proofs.moving.media.Settled.{held_settled, head_settled}
use Rattle.world.proofs.fitting.lasting.Saying.{same_words}

-- ---- facts that are said no more
some_facts : (guard : Guard) (facts : List Fact) (fact : Fact) → Has fact (facts_without guard facts) → Has fact facts
some_facts (of_segment s) facts fact has = (filtered_has _ facts fact has).0
some_facts of_free_slots facts fact has = (filtered_has _ facts fact has).0
some_facts of_directory facts fact has = (filtered_has _ facts fact has).0

-- a view that found an area, or not, relies on what it did
found_facts : (t : Bool) (area : Area) (i x : ℕ) (v : View) (fact : Fact) → Has fact (with_area t area i x v).facts → Has fact v.facts
found_facts true area i x v fact has = has
found_facts false area i x v fact has = has

-- a fact is none that a row ends
abbrev pub IsNoneOf : Row → ℕ → Fact → Type 0
IsNoneOf (goes_live p) n fact = (s d q : ℕ) → fact ≡ Owns s d q → s ≢ p
IsNoneOf (frees p) n fact = fact ≢ Taken n
IsNoneOf row n fact = ⊤

no_claim : (frame : Frame) (p : ℕ) (fact : Fact) → ((s d q : ℕ) → fact ≡ Owns s d q → s ≢ p) → ClaimsNoneOfSide frame p fact
no_claim frame p (Lives t) k = tt
no_claim frame p (Current t) k = tt
no_claim frame p (Rooted e) k = tt
no_claim frame p (Owns t d q) k = λ e. absurd (k t d q refl e)
no_claim frame p (Lacks t d q) k = tt
no_claim frame p (Deep f d q) k = tt
no_claim frame p (Begins t h) k = tt
no_claim frame p (Used n) k = tt
no_claim frame p (Taken n) k = tt

not_ended : (site : Ground) (row : Row) (s : ℕ) (m : Words) (fact : Fact) → IsNoneOf row s fact → ends_by site row s m fact → ⊥
not_ended site (marks n) s m fact k ends = ends
not_ended site (news p) s m fact k ends = ends
not_ended site (goes_live p) s m fact k ends = ends (no_claim (frame_of site.shape m) p fact k)
not_ended site finishes s m fact k ends = ends
not_ended site unmarks s m fact k ends = ends
not_ended site (frees p) s m fact k ends = k ends
not_ended site renews s m fact k ends = ends

-- the facts after a row, each of which it leaves
row_facts : (row : Row) (n : ℕ) (facts : List Fact) (fact : Fact) → Has fact (facts_by row n facts) → Has fact facts × IsNoneOf row n fact
row_facts (marks m) n facts fact has = (has, tt)
row_facts (news p) n facts fact has = (has, tt)
row_facts (goes_live p) n facts fact has = let q = filtered_has (λ f. not (is_claim_of p f)) facts fact has in
    (q.0, λ s d e is same. not_false (is_claim_of p fact) q.1 (ap (is_claim_of p) is ∙ eq-eqb s p same))
row_facts finishes n facts fact has = (has, tt)
row_facts unmarks n facts fact has = (has, tt)
row_facts (frees p) n facts fact has = let q = filtered_has (λ f. not (is_taken_at n f)) facts fact has in
    (q.0, λ is. not_false (is_taken_at n fact) q.1 (ap (is_taken_at n) is ∙ eq-eqb n n refl))
row_facts renews n facts fact has = (has, tt)

module _ (site : Ground) (words : Words) (views : List View) (j : ℕ) (v : View) (h : Holds site words views) (at : At views j v) where
  -- a fact is said beside the newest words
  abbrev IsSaidBy : Words → View → Fact → Type 0
  IsSaidBy later w fact = (m : Words) → IsPossible site later (set views j w) m → HoldsFact site.shape (version_of site) later fact m

  abbrev IsSaidNow : Fact → Type 0
  IsSaidNow fact = (m : Words) → IsPossible site words views m → HoldsFact site.shape (version_of site) words fact m

  abbrev AllSaid : Words → View → Type 0
  AllSaid later w = (c : ℕ) (u : View) (fact : Fact) (m : Words) → At (set views j w) c u → Has fact u.facts → IsPossible site later (set views j w) m
      → HoldsFact site.shape (version_of site) later fact m

  abbrev AllSound : Words → View → Type 0
  AllSound later w = (m : Words) → IsPossible site later (set views j w) m → IsStructured site m

  now : (c : ℕ) (u : View) → At views c u → (fact : Fact) → Has fact u.facts → IsSaidNow fact
  now c u a fact has m p = h.structure.says c u fact m a has p

  -- of the stepping view and of the others
  all_said : (later : Words) (w : View) → ((fact : Fact) → Has fact w.facts → IsSaidBy later w fact)
      → ((c : ℕ) (u : View) → c ≢ j → At views c u → (fact : Fact) → Has fact u.facts → IsSaidBy later w fact) → AllSaid later w
  all_said later w mine others c u fact m a has p = each views j v w at (λ _ y. Has fact y.facts → IsSaidBy later w fact) (mine fact) (λ c u ne b. others c u ne b fact) c u a has m p

  -- ---- steps that store to no word of the image
  module _ (later : Words) (w : View) (still : IsStill site words later v w) where
    back : (m : Words) → IsPossible site later (set views j w) m → IsPossible site words views m
    back m p = still_back site words later views j v w at still m p

    pub sound_still : AllSound later w
    sound_still m p = h.structure.sound m (back m p)

    goes_on : (fact : Fact) → IsSaidNow fact → IsSaidBy later w fact
    goes_on fact said m p = followed site.shape (version_of site) words later m m
        (record { shape_fits = h.site_is.shape; newest = (grounds site words views h).sound; there = (h.structure.sound m (back m p)).sound })
        (core_structure_same site words later still.cores) (same_words site.shape m) fact (said m (back m p))

    pub said_still : ((fact : Fact) → Has fact w.facts → Has fact v.facts ⊎ IsSaidBy later w fact) → AllSaid later w
    said_still facts = all_said later w (λ fact has. elim (facts fact has) [ inl old ↦ goes_on fact (now j v at fact old) | inr new ↦ new ])
        (λ c u ne a fact has. goes_on fact (now c u a fact has))

  -- ---- stores
  abbrev old_of : Words → Words
  old_of m = whole_beside site words m

  module _ (i x : ℕ) (w : View) (st : HasStored site.shape i (words i) x w.areas v w) (near : i < words_of site.shape) (ends : Words → Fact → Type 0)
      (harmless : (q : Words) → IsPossible site words views q → KeepsAll site (ends (old_of q)) words (old_of q) i x) where
    pub sound_stored : AllSound (with_word words i x) w
    sound_stored m p = elim (grown_whole site words views j v w i x at st near m p) [
      | inl q ↦ h.structure.sound m q
      | inr q ↦ structured_by site h.site_is (with_word (old_of q.0) i x) m (structure_of site (with_word (old_of q.0) i x) m q.2) (harmless q.0 q.1).structure
    ]

    sound_with : (m : Words) → IsStructured site m → AreSound site.shape (with_word words i x) m
    sound_with m s = record { shape_fits = h.site_is.shape; newest = (sound_stored (with_word words i x) (newest site (with_word words i x) (set views j w))).sound; there = s.sound }

    stays : (fact : Fact) → ((m : Words) → ends m fact → ⊥) → IsSaidNow fact → IsSaidBy (with_word words i x) w fact
    stays fact none said m p = elim (grown_whole site words views j v w i x at st near m p) [
      | inl q ↦ followed site.shape (version_of site) (with_word words i x) (with_word words i x) (old_of m) m (sound_with (old_of m) (h.structure.sound (old_of m) (whole_possible site words views h m q)))
          (same_words site.shape (with_word words i x)) (structure_of site (old_of m) m (whole_cores site words m)) fact
          (((harmless m q).facts fact (none (old_of m))).without (said (old_of m) (whole_possible site words views h m q)))
      | inr q ↦ followed site.shape (version_of site) (with_word words i x) (with_word words i x) (with_word (old_of q.0) i x) m (sound_with (with_word (old_of q.0) i x) (harmless q.0 q.1).structure)
          (same_words site.shape (with_word words i x)) (structure_of site (with_word (old_of q.0) i x) m q.2) fact
          (((harmless q.0 q.1).facts fact (none (old_of q.0))).has (said (old_of q.0) (whole_possible site words views h q.0 q.1)))
    ]

    pub said_stored : ((fact : Fact) → Has fact w.facts → Has fact v.facts × ((m : Words) → ends m fact → ⊥))
        → ((c : ℕ) (u : View) → c ≢ j → At views c u → (fact : Fact) → Has fact u.facts → (m : Words) → ends m fact → ⊥) → AllSaid (with_word words i x) w
    said_stored mine others = all_said (with_word words i x) w (λ fact has. let q = mine fact has in stays fact q.1 (now j v at fact q.0)) (λ c u ne a fact has. stays fact (others c u ne a fact has) (now c u a fact has))

  -- who knows what is so asks for its stores to be harmless beside each medium
  pub by_known : (i x : ℕ) (ends : Words → Fact → Type 0)
      → ((words medium : Words) → MayBeNewest site v words → MayStandBeside site v words medium → KeepsAll site (ends medium) words medium i x)
      → (q : Words) → IsPossible site words views q → KeepsAll site (ends (whole_beside site words q)) words (whole_beside site words q) i x
  by_known i x ends harmless q p = harmless words (whole_beside site words q) (newest_is site words views h j v at) (beside site words views h j v at q p)

  -- ---- rows
  module _ (row : Row) (s x : ℕ) (may : MayAt site (moves row s x) v) where
    row_is : IsRow site words row s x × HasForRow site words row s v.areas
    row_is = may.0 words (newest_is site words views h j v at)

    head_within : header_word site.shape s < words_of site.shape
    head_within = head_near site s (row_slot site words s x row row_is.0)

    -- what another view says the row does not end: it would have a guard that the stepper has
    others_none : (r : Row) → HasForRow site words r s v.areas → (c : ℕ) (u : View) → c ≢ j → At views c u → (fact : Fact) → MaySay u.areas fact → IsNoneOf r s fact
    others_none (marks n) has c u ne a fact said = tt
    others_none (news p) has c u ne a fact said = tt
    others_none (goes_live p) has c u ne a fact said = λ t d q is same. elim (subst (MaySay u.areas) is said) [
      | inl guard ↦ ne (h.structure.fits.one_segment c j u v p a at (subst (λ (z : ℕ). Has (Segment z) u.areas) same guard) (h.structure.fits.whole j v p at has.1).0)
      | inr guard ↦ ne (h.structure.fits.one_directory c j u v a at guard has.2)
    ]
    others_none finishes has c u ne a fact said = tt
    others_none unmarks has c u ne a fact said = tt
    others_none (frees p) has c u ne a fact said = λ is. ne (h.structure.fits.one_allocation c j u v a at (subst (MaySay u.areas) is said) has.1)
    others_none renews has c u ne a fact said = tt

  -- ---- fences
  module _ (w : View) (held : w.held ≡ v.held) (dirty : w.dirty ≡ v.dirty) (flushed : w.flushed ≡ []) where
    less : (p : ℕ × ℕ) → IsLoose w p → IsLoose v p
    less = fenced_less v w dirty (λ p f. subst (Has p) flushed f)

    -- a held word of which nothing is dirty is settled
    settled : (m : Words) → IsPossible site words (set views j w) m → (i : ℕ) → HoldsWord site.shape v i → ((y : ℕ) → Has (i, y) v.dirty → ⊥) → core site.shape m i ≡ core site.shape words i
    settled m p i holds firm = held_settled site words views j v h at words w i holds
        (λ y l. elim l [ inl d ↦ firm y (subst (Has (i, y)) dirty d) | inr f ↦ subst (Has (i, y)) flushed f ]) m p

    fenced_agrees : (m : Words) → IsPossible site words (set views j w) m → Agrees site (once_fenced v) (whole_beside site words m)
    fenced_agrees m p i x known firm = let k = h.known.knows j v i x at known in
        ap (λ b. cond b (words i) (m i)) (eq-eqb (core site.shape m i) (core site.shape words i) (settled m p i k.1 (λ y d. firm y (inl d)))) ∙ k.0

    fenced_leaves : (m : Words) → IsPossible site words (set views j w) m → (i : ℕ) → HoldsWord site.shape v i
        → (core site.shape (whole_beside site words m) i ≡ core site.shape words i)
        ⊎ ((x : ℕ) × IsLoose (once_fenced v) (i, x) × (core site.shape (whole_beside site words m) i ≡ core_of site.shape i x))
    fenced_leaves m p i holds = elim (p i (held_within site words views h j v i at holds)) [
      | inl e ↦ inl (whole_cores site words m i ∙ e)
      | inr e ↦ inr (
        e.2,
        each views j v w at (λ c u. IsLoose u (i, e.2) → IsLoose (once_fenced v) (i, e.2))
            (λ l. elim l [ inl d ↦ inl (subst (Has (i, e.2)) dirty d) | inr f ↦ absurd (subst (Has (i, e.2)) flushed f) ])
            (λ c u ne a l. absurd (ne (one_holder site words views (grounds site words views h) h.structure.fits c j i u v a at (h.known.loose c u i e.2 a l) holds))) e.0 e.1 e.3 e.4,
        whole_cores site words m i ∙ e.5,
      )
    ]

    pub fenced_newest : MayBeNewest site (once_fenced v) words
    fenced_newest = let n = newest_is site words views h j v at in record {
      structure = n.structure;
      says = n.says;
      pinned = n.pinned;
      table = n.table;
      knows = n.knows;
      own = n.own;
      once = n.once;
      exact = n.exact;
      owes = n.owes;
    }

    pub fenced_beside : (m : Words) → IsPossible site words (set views j w) m → MayStandBeside site (once_fenced v) words (whole_beside site words m)
    fenced_beside m p = let b = beside site words views h j v at m (possible_back m p) in record {
      structure = b.structure;
      says = b.says;
      table = b.table;
      agrees = fenced_agrees m p;
      leaves = fenced_leaves m p;
      owner = b.owner;
    }
      where
        possible_back : (m : Words) → IsPossible site words (set views j w) m → IsPossible site words views m
        possible_back m p = still_back site words words views j v w at (calm_still site words v w less) m p

    -- what follows of the words that a view knows is said
    follows : (fact : Fact) → ((us medium : Words) → MayBeNewest site (once_fenced v) us → MayStandBeside site (once_fenced v) us medium → HoldsFact site.shape (version_of site) us fact medium)
        → IsSaidBy words w fact
    follows fact so m p = let b = fenced_beside m p in followed site.shape (version_of site) words words (whole_beside site words m) m
        (record { shape_fits = h.site_is.shape; newest = (grounds site words views h).sound; there = b.structure.sound })
        (same_words site.shape words) (structure_of site (whole_beside site words m) m (whole_cores site words m)) fact (so words (whole_beside site words m) fenced_newest b)

    -- a side whose header is settled as a live one claims each hash of its region
    claims_now : (n d q : ℕ) → Has (Side n) v.areas → ((p : ℕ × ℕ) → Has p v.dirty → IsInSlot site.shape n p.0 → ⊥)
        → ((head : ℕ) × Has (header_word site.shape n, head) v.known × (state_in head ≡ normal) × (depth_in head ≡ d) × (pattern_in head ≡ q)) → IsSaidBy words w (Owns n d q)
    claims_now n d q side firm k m p below fits covers =
        let slot = (h.structure.fits.side j v n at side).0.slot in
        let same : m (header_word site.shape n) ≡ k.0 = head_same ∙ (h.known.knows j v (header_word site.shape n) k.0 at k.1).0 in
        record {
          live = record {
            slot = slot;
            live = inl (ap state_in same ∙ k.2);
            covers = subst (λ (z : ℕ). Covers (depth_in z) (pattern_in z) below) (sym same) (subst (λ (z : ℕ). Covers z (pattern_in k.0) below) (sym k.3) (subst (λ (z : ℕ). Covers d z below) (sym k.4) covers));
          };
          kept = λ ready inside. clash (m (header_word site.shape n)) (ap state_in same ∙ k.2) ready.1.splits;
        }
      where
        clash : (z : ℕ) → state_in z ≡ normal → state_in z ≡ splitting → ⊥
        clash z e f = omega (arith, e, f)

        head_same : m (header_word site.shape n) ≡ words (header_word site.shape n)
        head_same =
            let is = header_is site.shape n (h.structure.fits.side j v n at side).0.slot in
            let i = header_word site.shape n in
            sym (core_structure site.shape i (m i) is) ∙ settled m p i (inr (Side n, side, head_in_slot site.shape n)) (λ y dirty. firm (i, y) dirty (head_in_slot site.shape n)) ∙ core_structure site.shape i (words i) is

  -- ---- each kind
  -- a guard is taken, or not
  pub taken_still : (guard : Guard) (caller : ℕ) (t : Bool)
      → IsStill site words (after (cond t (exchanged j (guard_word site.shape guard) caller) (loaded j (guard_word site.shape guard))) words) v (with_guard t guard v)
  taken_still guard caller true = guard_still site words v (with_guard true guard v) guard caller (λ p l. l)
  taken_still guard caller false = calm_still site words v v (λ p l. l)

  taken_facts : (guard : Guard) (t : Bool) (fact : Fact) → Has fact (with_guard t guard v).facts → Has fact v.facts
  taken_facts guard true fact has = has
  taken_facts guard false fact has = has

  -- one for a side
  pub taken_for_still : (n caller : ℕ) (t : Bool)
      → IsStill site words (after (cond t (exchanged j (guard_word site.shape of_free_slots) caller) (loaded j (guard_word site.shape of_free_slots))) words) v (with_guard_for site.shape t n v)
  taken_for_still n caller true = taken_still of_free_slots caller true
  taken_for_still n caller false = calm_still site words v (with_guard_for site.shape false n v) (λ p l. l)

  taken_for_facts : (n : ℕ) (t : Bool) (fact : Fact) → Has fact (with_guard_for site.shape t n v).facts → Has fact v.facts
  taken_for_facts n true fact has = has
  taken_for_facts n false fact has = has

  pub found_still : (t : Bool) (area : Area) (i x : ℕ) → IsStill site words words v (with_area t area i x v)
  found_still t area i x = calm_still site words v (with_area t area i x v) (found_less t area i x v)

  pub told_still : (facts : List Fact) (t : Bool) (area : Area) (i x : ℕ) → IsStill site words words v (with_facts facts (with_area t area i x v))
  told_still facts t area i x = calm_still site words v (with_facts facts (with_area t area i x v)) (told_less facts t area i x v)

  -- a view that is told facts which are said of whatever a cut may leave
  told_facts : (facts : List Fact) (u w : View) → IsStill site words words v w → ((fact : Fact) → Has fact u.facts → Has fact v.facts) → w.facts ≡ facts ++ u.facts
      → ((fact : Fact) → Has fact facts → IsSaidNow fact) → AllSaid words w
  told_facts facts u w still old is said = said_still words w still (λ fact has. elim (has_joined facts u.facts fact (subst (Has fact) is has)) [
    | inl new ↦ inr (goes_on words w still fact (said fact new))
    | inr more ↦ inl (old fact more)
  ])

  one_said : (f : Fact) → IsSaidNow f → (fact : Fact) → Has fact (f ∷ []) → IsSaidNow fact
  one_said f said fact has = elim has [ inl is ↦ subst IsSaidNow (sym is) said | inr more ↦ absurd more ]

  -- the entry that the newest root tells names a segment that lives there
  entry_said : (e i : ℕ) → MayAt site (finds_entry e i) v → IsSaidNow (Lives (words (entry_at e i)))
  entry_said e i may = entries_tell site words views e i may.2
      (subst (λ (z : ℕ). IsSaidNow (Rooted z)) (h.known.knows j v root_word e at may.1).0 (roots_tell site words views (grounds site words views h) (λ m p. (h.structure.sound m p).sound)))

  begin_said : (s : ℕ) → Has (Lives s) v.facts → IsSaidNow (Begins s (first_hash (frame_of site.shape words) s))
  begin_said s lives = (headers_tell site words views s h.structure.lasting (now j v at (Lives s) lives)).1

  pub slot_still : (t : Bool) (n i x : ℕ) → IsStill site words words v (with_slot t n i x v)
  slot_still t n i x = calm_still site words v (with_slot t n i x v) (slot_less t n i x v)

  -- a slot whose header is not that of a free one is taken in whatever a cut may leave: nothing of it is loose in who has the guard of free slots
  taken_said : (n : ℕ) (w : View) → MayAt site (finds_free n) v → ((p : ℕ × ℕ) → IsLoose w p → IsLoose v p) → state_in (words (header_word site.shape n)) ≢ free → IsSaidBy words w (Taken n)
  taken_said n w may less some m p = record {
    slot = may.1;
    taken = elim (h.structure.settled_slots n may.1 some) [
      | inl o ↦ (let mine = subst (λ (u : View). Has (Side n) u.areas) (is_v views j v w at o.0 o.1 o.2 (h.structure.fits.one_allocation o.0 j o.1 v o.2 at o.3 may.0)) o.4 in
          λ is. some (sym (ap state_in (head_settled site words views j v h at words w n may.1 (inr (Side n, mine, head_in_slot site.shape n))
          (λ y l. may.2 (header_word site.shape n, y) (less (header_word site.shape n, y) l) (head_in_slot site.shape n)) m p)) ∙ is))
      | inr taken ↦ taken m (still_back site words words views j v w at (calm_still site words v w less) m p)
    ];
  }

  slot_facts : (n : ℕ) (t : Bool) → eqb (state_in (words (header_word site.shape n))) free ≡ t → MayAt site (finds_free n) v
      → (fact : Fact) → Has fact (with_slot t n (header_word site.shape n) (words (header_word site.shape n)) v).facts
      → Has fact v.facts ⊎ IsSaidBy words (with_slot t n (header_word site.shape n) (words (header_word site.shape n)) v) fact
  slot_facts n true e may fact has = inl has
  slot_facts n false e may fact has = elim has [
    | inl is ↦ (let w = with_slot false n (header_word site.shape n) (words (header_word site.shape n)) v in
        inr (subst (IsSaidBy words w) (sym is) (taken_said n w may (λ p l. l) (eqb-false (state_in (words (header_word site.shape n))) free e))))
    | inr old ↦ inl old
  ]

  pub fence_still : (w : View) → w.dirty ≡ v.dirty → w.flushed ≡ [] → IsStill site words words v w
  fence_still w dirty flushed = calm_still site words v w (fenced_less v w dirty (λ p f. subst (Has p) flushed f))

  pub opened_still : (s lock next : ℕ) (w : View) → MayAt site (opens s lock next) v → w.dirty ≡ v.dirty → w.flushed ≡ v.flushed → IsStill site words (with_word words lock next) v w
  opened_still s lock next w may dirty flushed = record {
    cores = λ n _. lock_cores site words lock next (h.locks.locked j v lock may.2.0 at may.2.1).0 n;
    less = λ p l. elim l [ inl d ↦ inl (subst (Has p) dirty d) | inr f ↦ inr (subst (Has p) flushed f) ];
  }

  pub row_stored : (row : Row) (s x : ℕ) (w : View) → w.held ≡ v.held → w.dirty ≡ loosened site.shape (header_word site.shape s) (words (header_word site.shape s)) x v.dirty → w.flushed ≡ v.flushed
      → HasStored site.shape (header_word site.shape s) (words (header_word site.shape s)) x w.areas v w
  row_stored row s x w held dirty flushed = record { held = held; dirty = dirty; flushed = flushed; areas_are = refl }

  pub keeps_sound : (kind : StructureKind) → MayAt site kind v → AllSound (words_then site kind j words) (view_then site.shape kind (found_at site kind words) v)
  keeps_sound (takes guard caller) may = sound_still _ _ (taken_still guard caller (eqb (words (guard_word site.shape guard)) 0))
  keeps_sound (takes_for_side n caller) may = sound_still _ _ (taken_for_still n caller (eqb (words (guard_word site.shape of_free_slots)) 0))
  keeps_sound (gives guard) may = sound_still _ _ (guard_still site words v _ guard 0 (λ p l. l))
  keeps_sound (finds_stale s version) may = sound_still _ _ (found_still _ _ _ _)
  keeps_sound (closes s i) may = sound_still _ _ (calm_still site words v _ (λ p l. l))
  keeps_sound (finds_free n) may = sound_still _ _ (slot_still _ _ _ _)
  keeps_sound (finds_link p depth pattern) may = sound_still _ _ (calm_still site words v _ (λ p l. l))
  keeps_sound (finds_side p n depth pattern) may = sound_still _ _ (told_still _ _ _ _ _)
  keeps_sound (finds_entry e i) may = sound_still _ _ (calm_still site words v _ (λ p l. l))
  keeps_sound (finds_begin s) may = sound_still _ _ (calm_still site words v _ (λ p l. l))
  keeps_sound (reads i) may = sound_still _ _ (calm_still site words v _ (λ p l. l))
  keeps_sound (sets i x) may = sound_stored i x _ (record { held = refl; dirty = refl; flushed = refl; areas_are = refl }) (held_within site words views h j v i at may.holds)
      (EndsNothing site) (by_known i x (EndsNothing site) may.harmless)
  keeps_sound (moves row s x) may = sound_stored (header_word site.shape s) x _ (row_stored row s x _ refl refl refl) (head_within row s x may) (ends_by site row s) (by_known (header_word site.shape s) x (ends_by site row s) may.2)
  keeps_sound (settles facts) may = sound_still _ _ (fence_still _ refl refl)
  keeps_sound (settles_side n depth pattern) may = sound_still _ _ (fence_still _ refl refl)
  keeps_sound (opens s lock next) may = sound_still _ _ (opened_still s lock next _ may refl refl)

  pub keeps_facts : (kind : StructureKind) → MayAt site kind v → AllSaid (words_then site kind j words) (view_then site.shape kind (found_at site kind words) v)
  keeps_facts (takes guard caller) may = said_still _ _ (taken_still guard caller (eqb (words (guard_word site.shape guard)) 0)) (λ fact has. inl (taken_facts guard (eqb (words (guard_word site.shape guard)) 0) fact has))
  keeps_facts (takes_for_side n caller) may = let t = eqb (words (guard_word site.shape of_free_slots)) 0 in
      said_still _ _ (taken_for_still n caller t) (λ fact has. inl (taken_for_facts n t fact has))
  keeps_facts (gives guard) may = said_still _ _ (guard_still site words v _ guard 0 (λ p l. l)) (λ fact has. inl (some_facts guard v.facts fact has))
  keeps_facts (finds_stale s version) may = said_still _ _ (found_still _ _ _ _) (λ fact has. inl (found_facts _ _ _ _ v fact has))
  keeps_facts (closes s i) may = said_still _ _ (calm_still site words v _ (λ p l. l)) (λ fact has. inl has)
  keeps_facts (finds_free n) may = said_still _ _ (slot_still _ _ _ _) (slot_facts n (eqb (state_in (words (header_word site.shape n))) free) refl may)
  keeps_facts (finds_link p depth pattern) may =
      told_facts (told_by_link (eqb (words (link_word site.shape p)) 0) p depth pattern) v _ (calm_still site words v _ (λ p l. l)) (λ fact has. has) refl (link_said site words views j v h at p depth pattern may)
  keeps_facts (finds_side p n depth pattern) may = let x = words (header_word site.shape n) in let t = is_new_side depth pattern x in
      told_facts (told_by_side (is_ready_side depth pattern x) p n depth pattern) (with_area t (Side n) (header_word site.shape n) x v) _ (told_still _ t (Side n) (header_word site.shape n) x)
      (found_facts t (Side n) (header_word site.shape n) x v) refl (side_said site words views j v h at p n depth pattern may)
  keeps_facts (finds_entry e i) may =
      told_facts (Lives (words (entry_at e i)) ∷ []) v _ (calm_still site words v _ (λ p l. l)) (λ fact has. has) refl (one_said (Lives (words (entry_at e i))) (entry_said e i may))
  keeps_facts (finds_begin s) may = let b = first_hash (frame_of site.shape words) s in
      told_facts (Begins s b ∷ []) v _ (calm_still site words v _ (λ p l. l)) (λ fact has. has) refl (one_said (Begins s b) (begin_said s may))
  keeps_facts (reads i) may = said_still _ _ (calm_still site words v _ (λ p l. l)) (λ fact has. inl has)
  keeps_facts (sets i x) may = said_stored i x _ (record { held = refl; dirty = refl; flushed = refl; areas_are = refl }) (held_within site words views h j v i at may.holds)
      (EndsNothing site) (by_known i x (EndsNothing site) may.harmless) (λ fact has. (has, (λ m none. none))) (λ c u ne a fact has m none. none)
  keeps_facts (moves row s x) may = said_stored (header_word site.shape s) x _ (row_stored row s x _ refl refl refl) (head_within row s x may) (ends_by site row s) (by_known (header_word site.shape s) x (ends_by site row s) may.2)
      (λ fact has. let q = row_facts row s v.facts fact has in (q.0, λ m. not_ended site row s m fact q.1))
      (λ c u ne a fact has m. not_ended site row s m fact (others_none row s x may row (row_is row s x may).1 c u ne a fact (h.structure.may_say c u fact a has)))
  keeps_facts (settles facts) may = said_still _ _ (fence_still _ refl refl) (λ fact has. elim (has_joined facts v.facts fact has) [
    | inl new ↦ inr (follows _ refl refl refl fact (may.1 fact new).1)
    | inr old ↦ inl old
  ])
  keeps_facts (settles_side n depth pattern) may = said_still _ _ (fence_still _ refl refl) (λ fact has. elim has [
    | inl is ↦ inr (subst (IsSaidBy words (view_then site.shape (settles_side n depth pattern) (found_at site (settles_side n depth pattern) words) v)) (sym is)
        (claims_now _ refl refl refl n depth pattern may.0 may.2 may.3))
    | inr old ↦ inl old
  ])
  keeps_facts (opens s lock next) may = said_still _ _ (opened_still s lock next _ may refl refl) (λ fact has. inl has)

pub sound_kept : KeepsSound
sound_kept site kind words views j v h at may = keeps_sound site words views j v h at kind may

pub facts_kept : KeepsFacts
facts_kept site kind words views j v h at may = keeps_facts site words views j v h at kind may
