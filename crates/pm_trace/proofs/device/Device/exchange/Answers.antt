-- An exchange that finds what it expected replaces one of the newest words, and another one is a load.
use Rattle.std.proofs.Common.{ap, subst, sym, refl, ◌<◌}
use Rattle.pm_trace.specs.contracts.device.Device.{the_view}
use Rattle.image_layout.specs.Volatile.{all_words_of}
use Rattle.pm_trace.specs.Memory.{Memory}
use Rattle.pm_trace.specs.TraceOf.{IsTraceOf}
use Rattle.pm_trace.proofs.Calm.{load_follows, exchange_follows}
use Rattle.pm_trace.proofs.device.Device.exchange.Goals as goal

pub returns-then-seen-expected-clause-lost_follows : goal.returns-then-seen-expected-clause-lost_follows
returns-then-seen-expected-clause-lost_follows c = load_follows c.args.self.now c.args.caller c.args.w

pub returns-clause-won_follows : goal.returns-clause-won_follows
returns-clause-won_follows c start es traced =
    let within : c.args.w < all_words_of c.self.inside.geometry = subst (λ (m : Memory). c.args.w < all_words_of m.shape) (sym c.self.view_is) c.requires.word in
    exchange_follows (the_view c.self.inside) c.args.caller c.args.w c.args.new (subst (λ n. c.args.w < n) (sym c.self.invariant.0) within) start es
    (subst (λ m. IsTraceOf start es m) (sym c.self.view_is) traced)

pub returns-then-seen-expected-clause-lost : goal.returns-then-seen-expected-clause-lost
returns-then-seen-expected-clause-lost c = refl

pub returns-then-seen-expected-clause-shape : goal.returns-then-seen-expected-clause-shape
returns-then-seen-expected-clause-shape c = refl

pub returns-then-seen-expected-clause-callers : goal.returns-then-seen-expected-clause-callers
returns-then-seen-expected-clause-callers c = refl

pub returns-clause-shape : goal.returns-clause-shape
returns-clause-shape c = ap (λ (m : Memory). m.shape) c.self.view_is

pub returns-clause-callers : goal.returns-clause-callers
returns-clause-callers c = ap (λ (m : Memory). m.callers) c.self.view_is
