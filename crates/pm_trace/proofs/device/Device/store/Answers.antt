-- A store replaces one of the newest words.
use Rattle.std.proofs.Common.{ap, subst, sym, ◌<◌}
use Rattle.pm_trace.specs.contracts.device.Device.{the_view}
use Rattle.image_layout.specs.Volatile.{all_words_of}
use Rattle.pm_trace.specs.Memory.{Memory}
use Rattle.pm_trace.specs.TraceOf.{IsTraceOf}
use Rattle.pm_trace.proofs.Calm.{store_follows}
use Rattle.pm_trace.proofs.device.Device.store.Goals as goal

pub returns-clause-follows : goal.returns-clause-follows
returns-clause-follows c start es traced =
    let within : c.args.w < all_words_of c.self.inside.geometry = subst (λ (m : Memory). c.args.w < all_words_of m.shape) (sym c.self.view_is) c.requires.word in
    store_follows (the_view c.self.inside) c.args.caller c.args.w c.args.v (subst (λ n. c.args.w < n) (sym c.self.invariant.0) within) start es
    (subst (λ m. IsTraceOf start es m) (sym c.self.view_is) traced)

pub returns-clause-shape : goal.returns-clause-shape
returns-clause-shape c = ap (λ (m : Memory). m.shape) c.self.view_is

pub returns-clause-callers : goal.returns-clause-callers
returns-clause-callers c = ap (λ (m : Memory). m.callers) c.self.view_is
