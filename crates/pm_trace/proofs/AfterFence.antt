-- A fence settles what its caller has flushed; an earlier flush of such a line by another caller no longer decides.
use Rattle.std.proofs.Common.{◌≡◌, ℕ, ◌+◌, ◌-◌, ◌*◌, ◌<◌, ◌≤◌, ◌⊎◌, inl, inr, Bool, not, eqb, max, List, [], ◌∷◌, length, refl, sym, ◌∙◌, ap, subst, arith}
use Rattle.std.specs.Prelude.{slice_index, Any, AllPairs, Contains}
use Rattle.std.proofs.lemmas.Bool.{cases_eq, ne_eqb}
use Rattle.std.proofs.lemmas.List.Kept.{AllPairs-filter}
use Rattle.trace.specs.Events.{Words, line_of, Trace, value_at}
use Rattle.trace.specs.Events.Event.{fenced}
use Rattle.trace.specs.Progress.{pending, latest_of, settled_moment}
use Rattle.trace.specs.Steps.{settled_value}
use Rattle.trace.specs.Settling.{IsSettledValue}
use Rattle.trace.proofs.Listed.{has_of_contains, contains_of_has}
use Rattle.trace.specs.Listed.{Has}
use Rattle.trace.proofs.Moments.{value_at_more}
use Rattle.trace.proofs.Flushes.{latest_is, pending_fence_own, pending_fence_other, settled_before, latest_before}
use Rattle.trace.proofs.SettledValues.{is_settled, settled_here, settled_value_fence, settled_value_earlier}
use Rattle.pm_trace.specs.declared.flushes.Flush.{Flush}
use Rattle.pm_trace.specs.Memory.{Memory, flushes_of}
use Rattle.pm_trace.specs.TraceOf.{moment_of, HoldsSettled, IsTraceOf, Follows}
use Rattle.pm_trace.specs.FlushLists.{settled_by, last_words, renewed_by, left_by}
use Rattle.pm_trace.proofs.Elements.{all_of_has, has_of_all, any_of_has, has_of_any, filter_has, has_filter, filter_fewer, filter_none, pairs_head, pairs_tail, pairs_same, not_true, not_is}
use Rattle.pm_trace.proofs.Settles.{Fits, settled_at}
use Rattle.pm_trace.proofs.Renews.{last_is, Same, renewed_from, renewed_to, renewed_count, renewed_pairs}

-- ---- what two callers' fences settle

both_fences : (start : Words) (es : Trace) (c d i : ℕ) → (c ≡ d → ⊥) → settled_value start (fenced d ∷ fenced c ∷ es) i
    ≡ value_at start es (max (max (settled_moment (line_of i) es) (latest_of (line_of i) (pending c es))) (latest_of (line_of i) (pending d es))) i
both_fences start es c d i n =
    let t : latest_of (line_of i) (pending d (fenced c ∷ es)) ≡ latest_of (line_of i) (pending d es) = ap (λ ps. latest_of (line_of i) ps) (pending_fence_other es d c n) in
    settled_value_fence start (fenced c ∷ es) d i
    ∙ ap (λ u. value_at start (fenced c ∷ es) (max (max (settled_moment (line_of i) es) (latest_of (line_of i) (pending c es))) u) i) t
    ∙ value_at_more start (fenced c) es (max (max (settled_moment (line_of i) es) (latest_of (line_of i) (pending c es))) (latest_of (line_of i) (pending d es))) i
    (omega (arith, settled_before es (line_of i), latest_before c es (line_of i), latest_before d es (line_of i)))

-- where d flushed the line later than c, d's words are settled by both fences
later_stays : (start : Words) (es : Trace) (c d i x : ℕ) → (c ≡ d → ⊥) → latest_of (line_of i) (pending c es) ≤ latest_of (line_of i) (pending d es)
    → IsSettledValue start (fenced d ∷ es) i x → IsSettledValue start (fenced d ∷ fenced c ∷ es) i x
later_stays start es c d i x n h s =
    let t : max (max (settled_moment (line_of i) es) (latest_of (line_of i) (pending c es))) (latest_of (line_of i) (pending d es)) ≡ max (settled_moment (line_of i) es) (latest_of (line_of i) (pending d es)) = omega arith in
    settled_here start (fenced d ∷ fenced c ∷ es) i x
    (is_settled start (fenced d ∷ es) i x s ∙ settled_value_fence start es d i ∙ ap (λ u. value_at start es u i) (sym t) ∙ sym (both_fences start es c d i n))

-- where d flushed it earlier, c's are
earlier_yields : (start : Words) (es : Trace) (c d i x : ℕ) → (c ≡ d → ⊥) → latest_of (line_of i) (pending d es) ≤ latest_of (line_of i) (pending c es)
    → IsSettledValue start (fenced c ∷ es) i x → IsSettledValue start (fenced d ∷ fenced c ∷ es) i x
earlier_yields start es c d i x n h s =
    let t : max (max (settled_moment (line_of i) es) (latest_of (line_of i) (pending c es))) (latest_of (line_of i) (pending d es)) ≡ max (settled_moment (line_of i) es) (latest_of (line_of i) (pending c es)) = omega arith in
    settled_here start (fenced d ∷ fenced c ∷ es) i x
    (is_settled start (fenced c ∷ es) i x s ∙ settled_value_fence start es c i ∙ ap (λ u. value_at start es u i) (sym t) ∙ sym (both_fences start es c d i n))

-- ---- what the flushes that are left hold

-- the caller has flushed the line before all of these, or one of these is its flush, or it has not flushed it
abbrev IsAccounted : Trace → ℕ → List Flush → ℕ → Type 0
IsAccounted es c flushes l =
    ((g : Flush) → Has g flushes → latest_of l (pending c es) ≤ moment_of es g) ⊎ ((f : Flush) × Has f flushes × (f.caller ≡ c) × (f.line ≡ l))

module _ (start : Words) (es : Trace) (c : ℕ) where
  -- a flush whose line the caller did not flush later holds what it held
  holds_alone : (g : Flush) → (g.caller ≡ c → ⊥) → latest_of g.line (pending c es) ≤ moment_of es g → HoldsSettled start es g → HoldsSettled start (fenced c ∷ es) g
  holds_alone g n h held k small =
      let on : g.line ≡ line_of (8 * g.line + k) = omega arith in
      later_stays start es c g.caller (8 * g.line + k) (slice_index g.words k) (λ q. n (sym q))
      (subst (λ l. latest_of l (pending c es) ≤ latest_of l (pending g.caller es)) on h) (held k small)

  -- a flush that a later one of the caller outdates holds what that one holds
  holds_outdated : (f g : Flush) (words : List ℕ) → (g.caller ≡ c → ⊥) → f.caller ≡ c → f.line ≡ g.line → words ≡ f.words → moment_of es g ≤ moment_of es f
      → HoldsSettled start es f → HoldsSettled start (fenced c ∷ es) (record g { words = words })
  holds_outdated f g words n is_c is_l same h held k small =
      let on : g.line ≡ line_of (8 * g.line + k) = omega arith in
      let later : latest_of g.line (pending g.caller es) ≤ latest_of g.line (pending c es) =
      subst (λ l. latest_of g.line (pending g.caller es) ≤ latest_of l (pending c es)) is_l
      (subst (λ d. latest_of g.line (pending g.caller es) ≤ latest_of f.line (pending d es)) is_c h) in
      let one : IsSettledValue start (fenced c ∷ es) (8 * g.line + k) (slice_index f.words k) =
      subst (λ l. IsSettledValue start (fenced c ∷ es) (8 * l + k) (slice_index f.words k)) is_l
      (subst (λ d. IsSettledValue start (fenced d ∷ es) (8 * f.line + k) (slice_index f.words k)) is_c (held k small)) in
      earlier_yields start es c g.caller (8 * g.line + k) (slice_index words k) (λ q. n (sym q))
      (subst (λ l. latest_of l (pending g.caller es) ≤ latest_of l (pending c es)) on later)
      (subst (λ ws. IsSettledValue start (fenced c ∷ es) (8 * g.line + k) (slice_index ws k)) (sym same) one)

  -- the rest is accounted for, too
  accounted_rest : (f : Flush) (flushes : List Flush) → ((g : Flush) → Has g flushes → moment_of es f ≤ moment_of es g)
      → ((l : ℕ) → IsAccounted es c (f ∷ flushes) l) → (l : ℕ) → IsAccounted es c flushes l
  accounted_rest f flushes later all l = elim (all l) [
    | inl first ↦ inl (λ g h. first g (inr h))
    | inr p ↦ elim p.1 [
      | inl e ↦ let is_c : f.caller ≡ c = sym (ap (λ (z : Flush). z.caller) e) ∙ p.2 in
          let is_l : f.line ≡ l = sym (ap (λ (z : Flush). z.line) e) ∙ p.3 in
          inl (λ g h. subst (λ k. latest_of k (pending c es) ≤ moment_of es g) is_l (subst (λ d. latest_of f.line (pending d es) ≤ moment_of es g) is_c (later g h)))
      | inr q ↦ inr (p.0, q, p.2, p.3)
    ]
  ]

  -- the first is not outdated if no later one is the caller's
  first_alone : (f : Flush) (flushes : List Flush) → (f.caller ≡ c → ⊥) → ((g : Flush) → Has g flushes → g.caller ≡ c → g.line ≡ f.line → ⊥)
      → IsAccounted es c (f ∷ flushes) f.line → latest_of f.line (pending c es) ≤ moment_of es f
  first_alone f flushes n none all = elim all [
    | inl first ↦ first f (inl refl)
    | inr p ↦ elim p.1 [
      | inl e ↦ absurd (n (sym (ap (λ (z : Flush). z.caller) e) ∙ p.2))
      | inr q ↦ absurd (none p.0 q p.2 p.3)
    ]
  ]

  held_left : (flushes : List Flush) → AllPairs (λ f g. moment_of es f ≤ moment_of es g) flushes → ((f : Flush) → Has f flushes → HoldsSettled start es f)
      → ((l : ℕ) → IsAccounted es c flushes l) → (g : Flush) → Has g (renewed_by c flushes) → (g.caller ≡ c → ⊥) → HoldsSettled start (fenced c ∷ es) g
  held_left [] pairs held all g h n = absurd h
  held_left (f ∷ flushes) pairs held all g h n = elim h [
    | inl e ↦ let other : f.caller ≡ c → ⊥ = λ q. n (ap (λ (z : Flush). z.caller) e ∙ q) in
        subst (HoldsSettled start (fenced c ∷ es)) (sym e) (elim (last_is c flushes f.line f.words) [
          | inl a ↦ subst (λ ws. HoldsSettled start (fenced c ∷ es) (record f { words = ws })) (sym a.same)
              (holds_alone f other (first_alone f flushes other a.none (all f.line)) (held f (inl refl)))
          | inr o ↦ holds_outdated o.by f (last_words c flushes f.line f.words) other o.is_caller o.is_line o.value
              (pairs_head (λ f g. moment_of es f ≤ moment_of es g) f flushes pairs o.by o.is_one) (held o.by (inr o.is_one))
        ])
    | inr q ↦ held_left flushes (pairs_tail (λ f g. moment_of es f ≤ moment_of es g) f flushes pairs) (λ f' k. held f' (inr k))
        (accounted_rest f flushes (pairs_head (λ f g. moment_of es f ≤ moment_of es g) f flushes pairs) all) g q n
  ]

-- ---- the device

abbrev others : ℕ → Flush → Bool
others c f = not (eqb f.caller c)

module _ (start : Words) (es : Trace) (memory : Memory) (traced : IsTraceOf start es memory) (c : ℕ)
    (fit : (f : Flush) → Has f memory.flushes → Fits (length memory.settled) f) where
  abbrev then : Trace
  then = fenced c ∷ es

  abbrev left : List Flush
  left = left_by c memory.flushes

  is_other : (g : Flush) → Has g left → g.caller ≡ c → ⊥
  is_other g h = not_true g.caller c (filter_has (others c) g (renewed_by c memory.flushes) h).1

  is_renewed : (g : Flush) → Has g left → Has g (renewed_by c memory.flushes)
  is_renewed g h = (filter_has (others c) g (renewed_by c memory.flushes) h).0

  same_pending : (d : ℕ) → (d ≡ c → ⊥) → pending d then ≡ pending d es
  same_pending d n = pending_fence_other es d c (λ q. n (sym q))

  same_moment : (g : Flush) → (g.caller ≡ c → ⊥) → moment_of then g ≡ moment_of es g
  same_moment g n = ap (λ ps. latest_of g.line ps) (same_pending g.caller n)

  -- the caller has no flush of a line that it has not flushed
  none_flushed : (l : ℕ) → ((f : Flush) → Has f memory.flushes → f.caller ≡ c → f.line ≡ l → ⊥) → latest_of l (pending c es) ≡ 0
  none_flushed l none = elim (latest_is l (pending c es)) [
    | inl z ↦ z
    | inr h ↦ let a = has_of_any (λ (f : Flush). (f.caller ≡ c) × (f.line ≡ l)) memory.flushes (traced.whole c l (latest_of l (pending c es)) (contains_of_has (l, latest_of l (pending c es)) (pending c es) h)) in
        absurd (none a.0 a.1 a.2.0 a.2.1)
  ]

  accounted : (l : ℕ) → IsAccounted es c memory.flushes l
  accounted l = elim (latest_is l (pending c es)) [
    | inl z ↦ inl (λ g h. omega arith)
    | inr h ↦ let a = has_of_any (λ (f : Flush). (f.caller ≡ c) × (f.line ≡ l)) memory.flushes (traced.whole c l (latest_of l (pending c es)) (contains_of_has (l, latest_of l (pending c es)) (pending c es) h)) in
        inr (a.0, a.1, a.2.0, a.2.1)
  ]

  settled_word : (w : ℕ) → IsSettledValue start then w (slice_index (settled_by c memory.flushes memory.settled) w)
  settled_word w = elim (settled_at c memory.flushes memory.settled w fit) [
    | inl u ↦
        let none : latest_of (line_of w) (pending c es) ≡ 0 = none_flushed (line_of w) u.none in
        let low : latest_of (line_of w) (pending c es) ≤ settled_moment (line_of w) es = omega arith in
        settled_here start then w (slice_index (settled_by c memory.flushes memory.settled) w)
        (u.same ∙ is_settled start es w (slice_index memory.settled w) (traced.settled w) ∙ sym (settled_value_earlier start es c w low))
    | inr s ↦
        let l : (s.by).line ≡ line_of w = s.is_line in
        let small : w - 8 * (s.by).line < 8 = omega arith in
        let place : 8 * (s.by).line + (w - 8 * (s.by).line) ≡ w = omega arith in
        let held : IsSettledValue start (fenced (s.by).caller ∷ es) (8 * (s.by).line + (w - 8 * (s.by).line)) (slice_index (s.by).words (w - 8 * (s.by).line)) =
        has_of_all (HoldsSettled start es) memory.flushes traced.held s.by s.is_one (w - 8 * (s.by).line) small in
        let here : IsSettledValue start then (8 * (s.by).line + (w - 8 * (s.by).line)) (slice_index (s.by).words (w - 8 * (s.by).line)) =
        subst (λ d. IsSettledValue start (fenced d ∷ es) (8 * (s.by).line + (w - 8 * (s.by).line)) (slice_index (s.by).words (w - 8 * (s.by).line))) s.is_caller held in
        subst (λ x. IsSettledValue start then w x) (sym s.value) (subst (λ i. IsSettledValue start then i (slice_index (s.by).words (w - 8 * (s.by).line))) place here)
  ]

  each_left : (g : Flush) → Has g left → Contains (pending g.caller then) (g.line, moment_of then g)
  each_left g h =
      let r = renewed_from c memory.flushes g (is_renewed g h) in
      let f : Flush = r.0 in
      let was : Contains (pending f.caller es) (f.line, moment_of es f) = has_of_all (λ e. Contains (pending e.caller es) (e.line, moment_of es e)) memory.flushes traced.each f r.1 in
      let is : Contains (pending g.caller es) (g.line, latest_of g.line (pending g.caller es)) =
      subst (λ l. Contains (pending g.caller es) (l, latest_of l (pending g.caller es))) r.2.1
      (subst (λ d. Contains (pending d es) (f.line, latest_of f.line (pending d es))) r.2.0 was) in
      subst (λ ps. Contains ps (g.line, latest_of g.line ps)) (sym (same_pending g.caller (is_other g h))) is

  whole_left : (d l t : ℕ) → Contains (pending d then) (l, t) → Any (λ f. (f.caller ≡ d) × (f.line ≡ l)) left
  whole_left d l t h = elim (cases_eq d c) [
    | inl e ↦ absurd (subst (λ ps. Has (l, t) ps) (pending_fence_own es c) (subst (λ k. Has (l, t) (pending k then)) e (has_of_contains (l, t) (pending d then) h)))
    | inr n ↦
        let a = has_of_any (λ (f : Flush). (f.caller ≡ d) × (f.line ≡ l)) memory.flushes (traced.whole d l t (subst (λ ps. Contains ps (l, t)) (same_pending d n) h)) in
        let r = renewed_to c memory.flushes a.0 a.1 in
        let g : Flush = r.0 in
        let is_d : g.caller ≡ d = sym r.2.0 ∙ a.2.0 in
        any_of_has (λ (f : Flush). (f.caller ≡ d) × (f.line ≡ l)) left g
        (has_filter (others c) g (renewed_by c memory.flushes) r.1 (not_is g.caller c (λ q. n (sym is_d ∙ q)))) (is_d, sym r.2.1 ∙ a.2.1)
  ]

  once_left : (d : ℕ) → length (flushes_of d left) ≤ length (pending d then)
  once_left d = elim (cases_eq d c) [
    | inl e ↦
        let none : flushes_of d left ≡ [] = filter_none (λ (f : Flush). eqb f.caller d) left (λ g h. ne_eqb g.caller d (λ q. is_other g h (q ∙ e))) in
        let zero_left : length (flushes_of d left) ≡ 0 = ap length none in
        omega arith
    | inr n ↦
        let fewer : length (flushes_of d left) ≤ length (flushes_of d (renewed_by c memory.flushes)) = filter_fewer (λ (f : Flush). eqb f.caller d) (others c) (renewed_by c memory.flushes) in
        let same : length (flushes_of d (renewed_by c memory.flushes)) ≡ length (flushes_of d memory.flushes) = renewed_count c d memory.flushes in
        let was : length (flushes_of d memory.flushes) ≤ length (pending d es) = traced.once d in
        let kept : length (pending d then) ≡ length (pending d es) = ap length (same_pending d n) in
        omega arith
  ]

  same_order : (f g f' g' : Flush) → Same f f' → Same g g' → moment_of es f ≤ moment_of es g → moment_of es f' ≤ moment_of es g'
  same_order f g f' g' p q h =
      let a : moment_of es f ≡ moment_of es f' = ap (λ d. latest_of f.line (pending d es)) p.0 ∙ ap (λ l. latest_of l (pending f'.caller es)) p.1 in
      let b : moment_of es g ≡ moment_of es g' = ap (λ d. latest_of g.line (pending d es)) q.0 ∙ ap (λ l. latest_of l (pending g'.caller es)) q.1 in
      omega arith

  ordered_left : AllPairs (λ f g. moment_of then f ≤ moment_of then g) left
  ordered_left =
      pairs_same (λ f g. moment_of es f ≤ moment_of es g) (λ f g. moment_of then f ≤ moment_of then g) left
      (λ f g h k q. let a = same_moment f (is_other f h) in let b = same_moment g (is_other g k) in omega (arith, q))
      (AllPairs-filter (λ f g. moment_of es f ≤ moment_of es g) (others c) (renewed_by c memory.flushes)
      (renewed_pairs (λ f g. moment_of es f ≤ moment_of es g) same_order c memory.flushes traced.ordered))

  pub after_fence : IsTraceOf start then (record memory { settled = settled_by c memory.flushes memory.settled; flushes = left })
  after_fence = record {
    newest = traced.newest;
    settled = settled_word;
    each = all_of_has (λ f. Contains (pending f.caller then) (f.line, moment_of then f)) left each_left;
    whole = whole_left;
    once = once_left;
    ordered = ordered_left;
    held = all_of_has (HoldsSettled start then) left
        (λ g h. held_left start es c memory.flushes traced.ordered (has_of_all (HoldsSettled start es) memory.flushes traced.held) accounted g (is_renewed g h) (is_other g h));
  }

pub fence_follows : (memory : Memory) (c : ℕ) → ((f : Flush) → Has f memory.flushes → Fits (length memory.settled) f)
    → Follows memory (fenced c) (record memory { settled = settled_by c memory.flushes memory.settled; flushes = left_by c memory.flushes })
fence_follows memory c fit start es traced = after_fence start es memory traced c fit
