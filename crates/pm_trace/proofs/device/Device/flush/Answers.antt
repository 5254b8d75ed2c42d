-- A flush is kept with the words of its line, in room that was made for it.
use Rattle.std.proofs.Common.{◌≡◌, ℕ, ◌∷◌, ◌<◌, ◌≤◌, ◌+◌, ◌*◌, ap, subst, sym, ◌∙◌, arith, length}
use Rattle.std.specs.Prelude.{All, slice_range}
use Rattle.trace.specs.Events.Event.{flushed}
use Rattle.pm_trace.specs.contracts.device.Device.{the_view}
use Rattle.pm_trace.specs.declared.flushes.Flush.{Flush}
use Rattle.pm_trace.specs.Memory.{Memory, IsLine, unfenced, flushes_of}
use Rattle.pm_trace.specs.TraceOf.{IsTraceOf}
use Rattle.pm_trace.specs.FlushLists.{IsFlush}
use Rattle.pm_trace.proofs.AfterFlush.{flush_follows}
use Rattle.pm_trace.proofs.Within.{added_fit, added_few, room_for_one}
use Rattle.pm_trace.proofs.device.Device.flush.Goals as goal

-- what the call asks of the device, asked of its fields
asked_line : (m n : Memory) (line : ℕ) → m ≡ n → IsLine n.shape line → IsLine m.shape line
asked_line m n line e h = subst (λ (k : Memory). IsLine k.shape line) (sym e) h

asked_caller : (m n : Memory) (caller : ℕ) → m ≡ n → caller ≤ n.callers → caller ≤ m.callers
asked_caller m n caller e h = subst (λ (k : Memory). caller ≤ k.callers) (sym e) h

asked_room : (m n : Memory) (caller : ℕ) → m ≡ n → unfenced caller n < 8 → unfenced caller m < 8
asked_room m n caller e h = subst (λ (k : Memory). unfenced caller k < 8) (sym e) h

pub add-requires : goal.add-requires
add-requires c =
    let d = c.self.inside in
    let new : Flush = record { caller = c.args.caller; line = c.args.line; words = c.copy_from_slice.new.self } in
    let is_flush : IsFlush d.geometry d.callers new = (
      asked_line (the_view d) c.args.self.now c.args.line c.self.view_is c.requires.line,
      asked_caller (the_view d) c.args.self.now c.args.caller c.self.view_is c.requires.caller,
      c.copy_from_slice.ensures.len,
    ) in
    let room : length d.flushes.items < 8 * (d.callers + 1) =
    room_for_one d.geometry d.callers d.flushes.items c.self.invariant.2 c.self.invariant.3 new is_flush (asked_room (the_view d) c.args.self.now c.args.caller c.self.view_is c.requires.room) in
    let long = d.flushes.ok.0 in
    let most = c.self.invariant.4 in
    omega arith

pub invariant_of-self : goal.invariant_of-self
invariant_of-self c =
    let d = c.self.inside in
    let new : Flush = record { caller = c.args.caller; line = c.args.line; words = c.copy_from_slice.new.self } in
    let is_flush : IsFlush d.geometry d.callers new = (
      asked_line (the_view d) c.args.self.now c.args.line c.self.view_is c.requires.line,
      asked_caller (the_view d) c.args.self.now c.args.caller c.self.view_is c.requires.caller,
      c.copy_from_slice.ensures.len,
    ) in
    let room = asked_room (the_view d) c.args.self.now c.args.caller c.self.view_is c.requires.room in
    let most = c.self.invariant.4 in (
      c.self.invariant.0,
      c.self.invariant.1,
      subst (λ fs. All (IsFlush d.geometry d.callers) fs) (sym c.add.ensures.items) (added_fit d.geometry d.callers d.flushes.items c.self.invariant.2 c.self.invariant.3 new is_flush room),
      λ caller. subst (λ fs. length (flushes_of caller fs) ≤ 8) (sym c.add.ensures.items) (added_few d.geometry d.callers d.flushes.items c.self.invariant.2 c.self.invariant.3 new is_flush room caller),
      subst (λ n. 8 * (d.callers + 1) ≤ n) (sym c.add.ensures.room) most,
    )

pub returns-clause-follows : goal.returns-clause-follows
returns-clause-follows c start es traced =
    let d = c.self.inside in
    let new : Flush = record { caller = c.args.caller; line = c.args.line; words = c.copy_from_slice.new.self } in
    let words : new.words ≡ slice_range d.newest.items (8 * c.args.line) (8 * c.args.line + 8) =
    c.copy_from_slice.ensures.after ∙ ap (λ xs. slice_range xs (8 * c.args.line) (8 * c.args.line + 8)) c.as_slice-newest.ensures.value in
    subst (λ fs. IsTraceOf start (flushed c.args.caller c.args.line ∷ es) (record (the_view d) { flushes = fs })) (sym c.add.ensures.items)
    (flush_follows (the_view d) new words start es (subst (λ m. IsTraceOf start es m) (sym c.self.view_is) traced))

pub returns-clause-shape : goal.returns-clause-shape
returns-clause-shape c = ap (λ (m : Memory). m.shape) c.self.view_is

pub returns-clause-callers : goal.returns-clause-callers
returns-clause-callers c = ap (λ (m : Memory). m.callers) c.self.view_is
