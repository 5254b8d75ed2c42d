-- What the caller flushed settles, and the flushes that are left are as many as before or fewer.
use Rattle.std.proofs.Common.{◌≡◌, ℕ, List, ◌∷◌, ◌++◌, ◌≤◌, ◌+◌, ◌*◌, ap, subst, sym, ◌∙◌, arith, length, take, drop, take_at}
use Rattle.std.specs.Prelude.{All}
use Rattle.image_layout.specs.Places.{Shape}
use Rattle.trace.specs.Events.Event.{fenced}
use Rattle.trace.specs.Listed.{Has}
use Rattle.pm_trace.specs.contracts.device.Device.{the_view}
use Rattle.pm_trace.specs.declared.flushes.Flush.{Flush}
use Rattle.image_layout.specs.Volatile.{all_words_of}
use Rattle.pm_trace.specs.Memory.{Memory, flushes_of}
use Rattle.pm_trace.specs.TraceOf.{IsTraceOf}
use Rattle.pm_trace.specs.FlushLists.{IsFlush, settled_by, left_by}
use Rattle.pm_trace.proofs.Settles.{Fits, length-settled_by}
use Rattle.pm_trace.proofs.AfterFence.{fence_follows}
use Rattle.pm_trace.proofs.Within.{left_fit, left_few, lines_fit}
use Rattle.pm_trace.proofs.device.Device.fence.Goals as goal

-- the lines of a device lie within its words
fits : (shape : Shape) (callers : ℕ) (settled : List ℕ) (flushes : List Flush) → length settled ≡ all_words_of shape → All (IsFlush shape callers) flushes
    → ((c : ℕ) → length (flushes_of c flushes) ≤ 8) → (f : Flush) → Has f flushes → Fits (length settled) f
fits shape callers settled flushes long fit few =
    lines_fit shape callers flushes fit few (length settled) (λ l h. omega arith)

-- a slice of the settled words that was written is they
written : (len : ℕ) (words items : List ℕ) (caller : ℕ) (flushes lent : List Flush) (slice : List ℕ) → len ≡ length items → ((f : Flush) → Has f flushes → Fits (length items) f)
    → words ≡ settled_by caller lent slice → lent ≡ flushes → slice ≡ items → take len (words ++ drop (length words) items) ≡ settled_by caller flushes items
written len words items caller flushes lent slice long fit is same_flushes same_words =
    let e : words ≡ settled_by caller flushes items = is ∙ ap (λ fs. settled_by caller fs slice) same_flushes ∙ ap (λ ws. settled_by caller flushes ws) same_words in
    take_at words (drop (length words) items) len (ap length e ∙ length-settled_by caller flushes items fit ∙ sym long) ∙ e

pub invariant_of-self : goal.invariant_of-self
invariant_of-self c =
    let d = c.self.inside in
    let v = c.self.invariant in
    let fit = fits d.geometry d.callers d.settled.items d.flushes.items v.1 v.2 v.3 in
    let settled = written d.settled.len c.settle.new.words d.settled.items c.args.caller d.flushes.items c.deref.result.now c.deref_mut.result.now d.settled.ok.0 fit c.settle.ensures c.deref.ensures.value c.deref_mut.ensures.value in (
      v.0,
      ap length settled ∙ length-settled_by c.args.caller d.flushes.items d.settled.items fit ∙ v.1,
      subst (λ fs. All (IsFlush d.geometry d.callers) fs) (sym c.fence.ensures.items) (left_fit d.geometry d.callers d.flushes.items v.2 v.3 c.args.caller),
      λ caller. subst (λ fs. length (flushes_of caller fs) ≤ 8) (sym c.fence.ensures.items) (left_few d.geometry d.callers d.flushes.items v.2 v.3 c.args.caller caller),
      subst (λ n. 8 * (d.callers + 1) ≤ n) (sym c.fence.ensures.room) v.4,
    )

pub returns-clause-follows : goal.returns-clause-follows
returns-clause-follows c start es traced =
    let d = c.self.inside in
    let v = c.self.invariant in
    let fit = fits d.geometry d.callers d.settled.items d.flushes.items v.1 v.2 v.3 in
    let settled = written d.settled.len c.settle.new.words d.settled.items c.args.caller d.flushes.items c.deref.result.now c.deref_mut.result.now d.settled.ok.0 fit c.settle.ensures c.deref.ensures.value c.deref_mut.ensures.value in
    subst (λ fs. IsTraceOf start (fenced c.args.caller ∷ es) (record (the_view d) { settled = take d.settled.len (c.settle.new.words ++ drop (length c.settle.new.words) d.settled.items); flushes = fs })) (sym c.fence.ensures.items)
    (subst (λ ws. IsTraceOf start (fenced c.args.caller ∷ es) (record (the_view d) { settled = ws; flushes = left_by c.args.caller d.flushes.items })) (sym settled)
    (fence_follows (the_view d) c.args.caller fit start es (subst (λ m. IsTraceOf start es m) (sym c.self.view_is) traced)))

pub returns-clause-shape : goal.returns-clause-shape
returns-clause-shape c = ap (λ (m : Memory). m.shape) c.self.view_is

pub returns-clause-callers : goal.returns-clause-callers
returns-clause-callers c = ap (λ (m : Memory). m.callers) c.self.view_is
