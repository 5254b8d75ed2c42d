-- What a rule says of the records of the key before one is what it says of the one.
use Rattle.std.proofs.Common.{◌↔◌, refl, sym, ap, subst, IsTrue, not, slice_index}
use Rattle.image_rules.specs.declared.records.RecordRule.{RecordRule}
use Rattle.image_rules.specs.declared.records.RecordRule.TheVariants.{Value, Once}
use Rattle.image_rules.specs.Slots.{AgreeBefore, Follows}
use Rattle.image_rules.proofs.Answered.{never, fails}
use Rattle.image_rules.proofs.records.RecordRule.holds.Goals as goal

pub returns-then-not-is_own : goal.returns-then-not-is_own
returns-then-not-is_own c =
    subst (λ (rule : RecordRule). IsTrue (not c.is_own.result) ↔ Follows c.args.geometry.now (slice_index c.args.words.now) rule c.args.record_slot.segment c.args.record_slot.bucket c.args.record_slot.slot)
    (sym c.in-Stand.is) (λ _ own. absurd (never c.is_own.result c.is_own.ensures c.if-not-is_own.true own), λ _. ap not c.if-not-is_own.true)

pub returns-else-not-is_own : goal.returns-else-not-is_own
returns-else-not-is_own c =
    subst (λ (rule : RecordRule). IsTrue c.stands_right.result ↔ Follows c.args.geometry.now (slice_index c.args.words.now) rule c.args.record_slot.segment c.args.record_slot.bucket c.args.record_slot.slot)
    (sym c.in-Stand.is) (λ stands _. c.stands_right.ensures.0 stands, λ follows. c.stands_right.ensures.1 (follows (c.if-not-is_own.ensures.0 refl)))

pub returns-then-not-is_own-2 : goal.returns-then-not-is_own-2
returns-then-not-is_own-2 c =
    subst (λ (rule : RecordRule). IsTrue (not c.is_own-in-Value.result) ↔ Follows c.args.geometry.now (slice_index c.args.words.now) rule c.args.record_slot.segment c.args.record_slot.bucket c.args.record_slot.slot)
    (sym c.in-Value.is) (λ _ own. absurd (never c.is_own-in-Value.result c.is_own-in-Value.ensures c.if-not-is_own-2.true own), λ _. ap not c.if-not-is_own-2.true)

pub returns-else-is_own : goal.returns-else-is_own
returns-else-is_own c =
    subst (λ (rule : RecordRule). IsTrue c.is_own-in-Once.result ↔ Follows c.args.geometry.now (slice_index c.args.words.now) rule c.args.record_slot.segment c.args.record_slot.bucket c.args.record_slot.slot)
    (sym c.in-Once.is) (fails c.is_own-in-Once.result c.if-is_own.false (λ follows. c.is_own-in-Once.ensures.1 follows.0))

pub returns-else-not-is_own-2 : goal.returns-else-not-is_own-2
returns-else-not-is_own-2 c =
    let shape = c.args.geometry.now in
    let word = slice_index c.args.words.now in
    let says = c.agree_before.ensures in
    let agree : IsTrue c.agree_before.result ↔ AgreeBefore shape word Value c.args.record_slot =
    subst (λ (rule : RecordRule). IsTrue c.agree_before.result ↔ AgreeBefore shape word rule c.args.record_slot) c.in-Value.is says in
    subst (λ (rule : RecordRule). IsTrue c.agree_before.result ↔ Follows shape word rule c.args.record_slot.segment c.args.record_slot.bucket c.args.record_slot.slot)
    (sym c.in-Value.is) (λ holds own. agree.0 holds, λ follows. agree.1 (follows (c.if-not-is_own-2.ensures.0 refl)))

pub returns-then-is_own : goal.returns-then-is_own
returns-then-is_own c =
    let shape = c.args.geometry.now in
    let word = slice_index c.args.words.now in
    let says = c.agree_before-then-is_own.ensures in
    let agree : IsTrue c.agree_before-then-is_own.result ↔ AgreeBefore shape word Once c.args.record_slot =
    subst (λ (rule : RecordRule). IsTrue c.agree_before-then-is_own.result ↔ AgreeBefore shape word rule c.args.record_slot) c.in-Once.is says in
    subst (λ (rule : RecordRule). IsTrue c.agree_before-then-is_own.result ↔ Follows shape word rule c.args.record_slot.segment c.args.record_slot.bucket c.args.record_slot.slot)
    (sym c.in-Once.is) (λ holds. (c.if-is_own.ensures.0 refl, agree.0 holds), λ follows. agree.1 follows.1)
