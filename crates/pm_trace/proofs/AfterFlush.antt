-- A flush is kept with the newest words of its line, behind those that were made before.
use Rattle.std.proofs.Common.{◌≡◌, ℕ, ◌+◌, ◌-◌, ◌*◌, ◌<◌, ◌≤◌, inl, inr, Bool, true, false, not, cond, eqb, max, List, [], ◌∷◌, ◌++◌, length, get_or, drop, filter, refl, sym, ◌∙◌, ap, subst, arith}
use Rattle.std.specs.Prelude.{slice_index, slice_range, All, Any, AllPairs, Contains}
use Rattle.std.proofs.lemmas.Bool.{cases_eq, eq-eqb, ne_eqb}
use Rattle.std.proofs.lemmas.List.{get_or-take, get_or-drop, length-append}
use Rattle.std.proofs.lemmas.List.Elements.{All-append, filter-append}
use Rattle.std.proofs.lemmas.List.Kept.{AllPairs-filter}
use Rattle.std.proofs.lemmas.List.Quantifiers.{all_pairs_push}
use Rattle.trace.specs.Events.{Words, line_of, Trace, value_at}
use Rattle.trace.specs.Events.Event.{flushed, fenced}
use Rattle.trace.specs.Progress.{pending, latest_of, settled_moment}
use Rattle.trace.proofs.Listed.{has_of_contains, contains_of_has}
use Rattle.trace.specs.Listed.{Has}
use Rattle.trace.proofs.Moments.{value_at_more, value_at_now}
use Rattle.trace.proofs.Flushes.{flush_pending, pending_more, pending_flush_own, pending_flush_other, settled_before, latest_before}
use Rattle.trace.proofs.SettledValues.{settled_here, settled_value_fence}
use Rattle.pm_trace.specs.declared.flushes.Flush.{Flush}
use Rattle.pm_trace.specs.Memory.{Memory, flushes_of}
use Rattle.pm_trace.specs.TraceOf.{moment_of, HoldsSettled, IsTraceOf, Follows}
use Rattle.pm_trace.specs.FlushLists.{is_of, added}
use Rattle.trace.proofs.Listed.{has_append_left, has_append_right}
use Rattle.pm_trace.proofs.Elements.{has_at, all_of_has, has_of_all, any_of_has, has_of_any, filter_has, has_filter, filter_fewer, pairs_same, one_other, both_is}
use Rattle.pm_trace.proofs.Calm.{holds_more, settled_more}

is_no_fence : (c l d : ℕ) → flushed c l ≡ fenced d → ⊥
is_no_fence c l d q = cc

-- ---- moments

latest_other : (l t k : ℕ) (ps : List (ℕ × ℕ)) → (l ≡ k → ⊥) → latest_of k ((l, t) ∷ ps) ≡ latest_of k ps
latest_other l t k ps n = ap (λ b. cond b (max t (latest_of k ps)) (latest_of k ps)) (ne_eqb l k n)

latest_own : (l t : ℕ) (ps : List (ℕ × ℕ)) → latest_of l ps ≤ t → latest_of l ((l, t) ∷ ps) ≡ t
latest_own l t ps h = ap (λ b. cond b (max t (latest_of l ps)) (latest_of l ps)) (eq-eqb l l refl) ∙ omega arith

module _ (c l : ℕ) (es : Trace) where
  -- the flush itself is of now
  pub latest_new : latest_of l (pending c (flushed c l ∷ es)) ≡ length es
  latest_new = ap (λ ps. latest_of l ps) (pending_flush_own es c l) ∙ latest_own l (length es) (pending c es) (latest_before c es l)

  -- another keeps its moment
  pub latest_old : (f : Flush) → ((f.caller ≡ c) × (f.line ≡ l) → ⊥) → moment_of (flushed c l ∷ es) f ≡ moment_of es f
  latest_old f n = elim (cases_eq c f.caller) [
    | inl e ↦ subst (λ d. latest_of f.line (pending d (flushed c l ∷ es)) ≡ latest_of f.line (pending d es)) e
        (ap (λ ps. latest_of f.line ps) (pending_flush_own es c l) ∙ latest_other l (length es) f.line (pending c es) (λ q. n (sym e, sym q)))
    | inr d ↦ ap (λ ps. latest_of f.line ps) (pending_flush_other es f.caller c l d)
  ]

-- ---- the device

abbrev stays : ℕ → ℕ → Flush → Bool
stays c l f = not (is_of c l f)

module _ (start : Words) (es : Trace) (memory : Memory) (traced : IsTraceOf start es memory) (new : Flush)
    (words : (k : ℕ) → k < 8 → slice_index new.words k ≡ slice_index memory.newest (8 * new.line + k)) where
  abbrev then : Trace
  then = flushed new.caller new.line ∷ es

  abbrev old : List Flush
  old = filter (stays new.caller new.line) memory.flushes

  was : (f : Flush) → Has f old → Has f memory.flushes
  was f h = (filter_has (stays new.caller new.line) f memory.flushes h).0

  differs : (f : Flush) → Has f old → (f.caller ≡ new.caller) × (f.line ≡ new.line) → ⊥
  differs f h q =
      let t : not (is_of new.caller new.line f) ≡ true = (filter_has (stays new.caller new.line) f memory.flushes h).1 in
      let u : not (is_of new.caller new.line f) ≡ false = ap not (both_is f.caller new.caller f.line new.line q.0 q.1) in cc

  old_moment : (f : Flush) → Has f old → moment_of then f ≡ moment_of es f
  old_moment f h = latest_old new.caller new.line es f (differs f h)

  each_old : (f : Flush) → Has f old → Contains (pending f.caller then) (f.line, moment_of then f)
  each_old f h =
      subst (λ t. Contains (pending f.caller then) (f.line, t)) (sym (old_moment f h))
      (contains_of_has (f.line, moment_of es f) (pending f.caller then)
      (pending_more (flushed new.caller new.line) es f.caller (f.line, moment_of es f) (is_no_fence new.caller new.line f.caller)
      (has_of_contains (f.line, moment_of es f) (pending f.caller es) (has_of_all (λ g. Contains (pending g.caller es) (g.line, moment_of es g)) memory.flushes traced.each f (was f h)))))

  each_new : Contains (pending new.caller then) (new.line, moment_of then new)
  each_new = subst (λ t. Contains (pending new.caller then) (new.line, t)) (sym (latest_new new.caller new.line es))
      (contains_of_has (new.line, length es) (pending new.caller then) (flush_pending es new.caller new.line))

  one_more : (P : Flush → Type 0) → ((f : Flush) → Has f old → P f) → P new → All P (old ++ new ∷ [])
  one_more P before behind = All-append P old (new ∷ []) (all_of_has P old before) (all_of_has P (new ∷ []) (λ f h. elim h [ inl e ↦ subst P (sym e) behind | inr q ↦ absurd q ]))

  -- what was pending is the new flush, or stays
  kept : (c k : ℕ) → Any (λ f. (f.caller ≡ c) × (f.line ≡ k)) memory.flushes → Any (λ f. (f.caller ≡ c) × (f.line ≡ k)) (old ++ new ∷ [])
  kept c k any =
      let a = has_of_any (λ (f : Flush). (f.caller ≡ c) × (f.line ≡ k)) memory.flushes any in
      elim (cases_eq (a.0).caller new.caller) [
        | inl e ↦ elim (cases_eq (a.0).line new.line) [
          | inl q ↦ any_of_has (λ (f : Flush). (f.caller ≡ c) × (f.line ≡ k)) (old ++ new ∷ []) new (has_append_right new old (new ∷ []) (inl refl)) (sym e ∙ a.2.0, sym q ∙ a.2.1)
          | inr n ↦ stay a.0 a.1 (λ p. n p.1) a.2
        ]
        | inr n ↦ stay a.0 a.1 (λ p. n p.0) a.2
      ]
    where
      stay : (f : Flush) → Has f memory.flushes → ((f.caller ≡ new.caller) × (f.line ≡ new.line) → ⊥) → (f.caller ≡ c) × (f.line ≡ k) → Any (λ g. (g.caller ≡ c) × (g.line ≡ k)) (old ++ new ∷ [])
      stay f h n p = any_of_has (λ (g : Flush). (g.caller ≡ c) × (g.line ≡ k)) (old ++ new ∷ []) f
          (has_append_left f old (new ∷ []) (has_filter (stays new.caller new.line) f memory.flushes h (one_other f.caller new.caller f.line new.line n))) p

  is_new : Any (λ f. (f.caller ≡ new.caller) × (f.line ≡ new.line)) (old ++ new ∷ [])
  is_new = any_of_has (λ (f : Flush). (f.caller ≡ new.caller) × (f.line ≡ new.line)) (old ++ new ∷ []) new (has_append_right new old (new ∷ []) (inl refl)) (refl, refl)

  whole : (c k t : ℕ) → Contains (pending c then) (k, t) → Any (λ f. (f.caller ≡ c) × (f.line ≡ k)) (old ++ new ∷ [])
  whole c k t h = elim (cases_eq new.caller c) [
    | inl e ↦ elim (subst (λ ps. Has (k, t) ps) (pending_flush_own es c new.line) (subst (λ d. Has (k, t) (pending c (flushed d new.line ∷ es))) e (has_of_contains (k, t) (pending c then) h))) [
      | inl q ↦ let at : k ≡ new.line = ap (λ (z : ℕ × ℕ). z.0) q in
          subst (λ d. Any (λ f. (f.caller ≡ d) × (f.line ≡ k)) (old ++ new ∷ [])) e (subst (λ j. Any (λ f. (f.caller ≡ new.caller) × (f.line ≡ j)) (old ++ new ∷ [])) (sym at) is_new)
      | inr q ↦ kept c k (traced.whole c k t (contains_of_has (k, t) (pending c es) q))
    ]
    | inr n ↦ kept c k (traced.whole c k t (subst (λ ps. Contains ps (k, t)) (pending_flush_other es c new.caller new.line n) h))
  ]

  once : (c : ℕ) → length (flushes_of c (old ++ new ∷ [])) ≤ length (pending c then)
  once c =
      let parts : length (flushes_of c (old ++ new ∷ [])) ≡ length (flushes_of c old) + length (flushes_of c (new ∷ [])) =
      ap length (filter-append (λ (f : Flush). eqb f.caller c) old (new ∷ [])) ∙ length-append (flushes_of c old) (flushes_of c (new ∷ [])) in
      let fewer : length (flushes_of c old) ≤ length (flushes_of c memory.flushes) = filter_fewer (λ (f : Flush). eqb f.caller c) (stays new.caller new.line) memory.flushes in
      let before : length (flushes_of c memory.flushes) ≤ length (pending c es) = traced.once c in
      elim (cases_eq new.caller c) [
        | inl e ↦ let one : length (flushes_of c (new ∷ [])) ≡ 1 = ap (λ b. length {A = Flush} (cond b (new ∷ []) [])) (eq-eqb new.caller c e) in
            let more : length (pending c then) ≡ length (pending c es) + 1 =
            subst (λ d. length (pending c (flushed d new.line ∷ es)) ≡ length (pending c es) + 1) (sym e) (ap length (pending_flush_own es c new.line) ∙ omega arith) in
            omega arith
        | inr n ↦ let none : length (flushes_of c (new ∷ [])) ≡ 0 = ap (λ b. length {A = Flush} (cond b (new ∷ []) [])) (ne_eqb new.caller c n) in
            let same : length (pending c then) ≡ length (pending c es) = ap length (pending_flush_other es c new.caller new.line n) in
            omega arith
      ]

  ordered : AllPairs (λ f g. moment_of then f ≤ moment_of then g) (old ++ new ∷ [])
  ordered =
      let before : AllPairs (λ f g. moment_of then f ≤ moment_of then g) old =
      pairs_same (λ f g. moment_of es f ≤ moment_of es g) (λ f g. moment_of then f ≤ moment_of then g) old
      (λ f g h k q. let a = old_moment f h in let b = old_moment g k in omega (arith, q))
      (AllPairs-filter (λ f g. moment_of es f ≤ moment_of es g) (stays new.caller new.line) memory.flushes traced.ordered) in
      all_pairs_push (λ f g. moment_of then f ≤ moment_of then g) old new before
      (λ k d h. let f = get_or old k d in
      let a : moment_of then f ≡ moment_of es f = old_moment f (has_at old k d h) in
      let b : moment_of es f ≤ length es = latest_before f.caller es f.line in
      let n : moment_of then new ≡ length es = latest_new new.caller new.line es in
      omega arith)

  held_new : HoldsSettled start then new
  held_new k small =
      let on : line_of (8 * new.line + k) ≡ new.line = omega arith in
      let late : latest_of (line_of (8 * new.line + k)) (pending new.caller then) ≡ length es =
      subst (λ j. latest_of j (pending new.caller then) ≡ length es) (sym on) (latest_new new.caller new.line es) in
      let s : settled_moment (line_of (8 * new.line + k)) then ≤ length es = settled_before es (line_of (8 * new.line + k)) in
      let t : max (settled_moment (line_of (8 * new.line + k)) then) (latest_of (line_of (8 * new.line + k)) (pending new.caller then)) ≡ length es = omega arith in
      settled_here start (fenced new.caller ∷ then) (8 * new.line + k) (slice_index new.words k)
      (words k small ∙ traced.newest (8 * new.line + k)
      ∙ sym (settled_value_fence start then new.caller (8 * new.line + k)
      ∙ ap (λ u. value_at start then u (8 * new.line + k)) t
      ∙ value_at_more start (flushed new.caller new.line) es (length es) (8 * new.line + k) (omega arith)
      ∙ value_at_now start es (8 * new.line + k)))

  pub after_flush : IsTraceOf start then (record memory { flushes = old ++ new ∷ [] })
  after_flush = record {
    newest = traced.newest;
    settled = λ w. settled_more start (flushed new.caller new.line) es w (slice_index memory.settled w) (is_no_fence new.caller new.line) (traced.settled w);
    each = one_more (λ f. Contains (pending f.caller then) (f.line, moment_of then f)) each_old each_new;
    whole = whole;
    once = once;
    ordered = ordered;
    held = one_more (HoldsSettled start then)
        (λ f h. holds_more start (flushed new.caller new.line) es f (is_no_fence new.caller new.line) (old_moment f h) (has_of_all (HoldsSettled start es) memory.flushes traced.held f (was f h)))
        held_new;
  }

-- the words of a line, as a slice of all
range_word : (words : List ℕ) (line k : ℕ) → k < 8 → slice_index (slice_range words (8 * line) (8 * line + 8)) k ≡ slice_index words (8 * line + k)
range_word words line k small =
    let room : k < 8 * line + 8 - 8 * line = omega arith in
    get_or-take (8 * line + 8 - 8 * line) (drop (8 * line) words) k 0 room ∙ get_or-drop (8 * line) words k 0

pub flush_follows : (memory : Memory) (new : Flush) → new.words ≡ slice_range memory.newest (8 * new.line) (8 * new.line + 8)
    → Follows memory (flushed new.caller new.line) (record memory { flushes = added new memory.flushes })
flush_follows memory new words start es traced =
    after_flush start es memory traced new (λ k small. ap (λ ws. slice_index ws k) words ∙ range_word memory.newest new.line k small)
