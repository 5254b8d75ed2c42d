-- Each kind of event is what the device does for it.
use Rattle.std.proofs.Common.{ℕ, refl, subst, ap, ◌∙◌, rules}
use Rattle.std.proofs.lemmas.Bool.{false≢true}
use Rattle.op_core.specs.declared.want.Want.TheVariants.{Load, Store, Exchange, Flush, Fence, Draw, Power}
use Rattle.trace.specs.Events.Event.{loaded}
use Rattle.image_layout.specs.Volatile.{power_word}
use Rattle.pm_trace.specs.TraceOf.{Follows}
use Rattle.keeping.proofs.Events.{follows_wanted, follows_won, follows_lost}
use Rattle.keeping.proofs.doing.do_any_event.Goals as goal

pub returns-in-Load-clause-follows : goal.returns-in-Load-clause-follows
returns-in-Load-clause-follows c =
    follows_wanted c.args.device.now c.args.device.now c.args.caller (Load c.in-Load.word) c.args.want c.in-Load.is (c.load.ensures.follows c.args.caller)

pub returns-in-Store-clause-follows : goal.returns-in-Store-clause-follows
returns-in-Store-clause-follows c =
    follows_wanted c.args.device.now c.store.new.self c.args.caller (Store c.in-Store.word c.in-Store.value) c.args.want c.in-Store.is c.store.ensures.follows

pub returns-in-Ok-clause-follows : goal.returns-in-Ok-clause-follows
returns-in-Ok-clause-follows c =
    follows_wanted c.args.device.now c.exchange.new.self c.args.caller (Exchange c.in-Exchange.word c.in-Exchange.expected c.in-Exchange.new) c.args.want
    c.in-Exchange.is
    (follows_won c.args.device.now c.exchange.new.self c.args.caller c.in-Exchange.word c.in-Exchange.expected c.in-Exchange.new
    (c.in-Ok.ensures.won.0 refl) c.in-Ok.ensures.won_follows)

pub returns-in-Err-clause-follows : goal.returns-in-Err-clause-follows
returns-in-Err-clause-follows c =
    follows_wanted c.args.device.now c.exchange.new.self c.args.caller (Exchange c.in-Exchange.word c.in-Exchange.expected c.in-Exchange.new) c.args.want
    c.in-Exchange.is
    (follows_lost c.args.device.now c.exchange.new.self c.args.caller c.in-Exchange.word c.in-Exchange.expected c.in-Exchange.new
    (λ e. false≢true (c.in-Err.ensures.won.1 e)) c.in-Err.ensures.lost_follows)

pub returns-in-Flush-clause-follows : goal.returns-in-Flush-clause-follows
returns-in-Flush-clause-follows c =
    follows_wanted c.args.device.now c.flush.new.self c.args.caller (Flush c.in-Flush.line) c.args.want c.in-Flush.is c.flush.ensures.follows

pub returns-in-Fence-clause-follows : goal.returns-in-Fence-clause-follows
returns-in-Fence-clause-follows c =
    follows_wanted c.args.device.now c.fence.new.self c.args.caller Fence c.args.want c.in-Fence.is c.fence.ensures.follows

pub returns-in-Draw-clause-follows : goal.returns-in-Draw-clause-follows
returns-in-Draw-clause-follows c =
    follows_wanted c.args.device.now c.draw.new.self c.args.caller Draw c.args.want c.in-Draw.is (c.draw.ensures.follows c.args.caller)

pub returns-in-Power-clause-follows : goal.returns-in-Power-clause-follows
returns-in-Power-clause-follows c =
    follows_wanted c.args.device.now c.args.device.now c.args.caller Power c.args.want c.in-Power.is
    (subst (λ (w : ℕ). Follows c.args.device.now (loaded c.args.caller w) c.args.device.now) (c.power_word.ensures.is ∙ ap power_word c.geometry.ensures)
    (c.load-in-Power.ensures.follows c.args.caller))

pub returns-in-Err-clause-answer : goal.returns-in-Err-clause-answer
returns-in-Err-clause-answer c = search rules
