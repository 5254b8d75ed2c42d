-- A draw replaces the counter by one more.
use Rattle.std.proofs.Common.{◌≡◌, ℕ, ◌+◌, ◌%◌, ◌^◌, ◌<◌, ◌∙◌, ◌∷◌, length, ap, subst, sym, arith}
use Rattle.std.specs.Prelude.{slice_index, slice_set}
use Rattle.std.proofs.lemmas.Grind.{get_or_default_zero}
use Rattle.image_layout.specs.Places.{words_of}
use Rattle.image_layout.specs.Volatile.{counter_word}
use Rattle.trace.specs.Events.Event.{drawn}
use Rattle.pm_trace.specs.contracts.device.Device.{the_view}
use Rattle.pm_trace.specs.Memory.{Memory}
use Rattle.pm_trace.specs.TraceOf.{IsTraceOf}
use Rattle.pm_trace.proofs.Calm.{draw_follows}
use Rattle.pm_trace.proofs.device.Device.draw.Goals as goal

pub returns-clause-follows : goal.returns-clause-follows
returns-clause-follows c caller start es traced =
    let items = c.self.inside.newest.items in
    let counter : ℕ = c.words-counter.result in
    let within : counter < length items = omega (arith, c.self.invariant.0, c.words-counter.ensures.is) in
    let place : c.index-place.result.now ≡ slice_index items counter = c.index-place.ensures ∙ get_or_default_zero items counter c.index-place.result.now within in
    let drew : IsTraceOf start (drawn caller counter ∷ es) (record (the_view c.self.inside) { newest = slice_set items counter ((slice_index items counter + 1) % 2 ^ 64) }) =
    draw_follows (the_view c.self.inside) caller counter within start es (subst (λ m. IsTraceOf start es m) (sym c.self.view_is) traced) in
    let is_counter : counter ≡ words_of c.args.self.now.shape = c.words-counter.ensures.is ∙ ap (λ (m : Memory). words_of m.shape) c.self.view_is in
    subst (λ w. IsTraceOf start (drawn caller w ∷ es) (record (the_view c.self.inside) { newest = slice_set items counter ((c.index-place.result.now + 1) % 2 ^ 64) })) is_counter
    (subst (λ x. IsTraceOf start (drawn caller counter ∷ es) (record (the_view c.self.inside) { newest = slice_set items counter ((x + 1) % 2 ^ 64) })) (sym place) drew)

pub returns-clause-place : goal.returns-clause-place
returns-clause-place c =
    let items = c.self.inside.newest.items in
    let counter : ℕ = c.words-counter.result in
    let within : counter < length items = omega (arith, c.self.invariant.0, c.words-counter.ensures.is) in
    c.index-place.ensures ∙ get_or_default_zero items counter c.index-place.result.now within
    ∙ ap (slice_index items) c.words-counter.ensures.is
    ∙ ap (λ (m : Memory). slice_index m.newest (counter_word m.shape)) c.self.view_is

pub returns-clause-shape : goal.returns-clause-shape
returns-clause-shape c = ap (λ (m : Memory). m.shape) c.self.view_is

pub returns-clause-callers : goal.returns-clause-callers
returns-clause-callers c = ap (λ (m : Memory). m.callers) c.self.view_is
