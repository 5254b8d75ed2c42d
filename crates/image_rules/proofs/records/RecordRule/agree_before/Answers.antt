-- The records before it agree where those of the four buckets do.
use Rattle.std.proofs.Common.{◌∙◌, ap, subst, refl, arith, slice_index}
use Rattle.hash_word.specs.Hash.{home_of}
use Rattle.image_rules.specs.Slots.{AgreeIn}
use Rattle.image_rules.proofs.Answered.{untrue}
use Rattle.image_rules.proofs.standing.Twins.{before-in, four-before}
use Rattle.image_rules.proofs.records.RecordRule.agree_before.Goals as goal

pub returns-then-not-agree_in : goal.returns-then-not-agree_in
returns-then-not-agree_in c = (
  untrue,
  λ all. c.if-not-agree_in.ensures.1
      (before-in c.args.geometry.now (slice_index c.args.words.now) c.args.self c.args.record_slot c.requires.record_slot all c.home-home.result
      (omega (arith, c.home-home.ensures.range))),
)

pub returns-then-not-agree_in-2 : goal.returns-then-not-agree_in-2
returns-then-not-agree_in-2 c = (
  untrue,
  λ all. c.if-not-agree_in-2.ensures.1
      (before-in c.args.geometry.now (slice_index c.args.words.now) c.args.self c.args.record_slot c.requires.record_slot all c.probing.result
      (omega (arith, c.probing.ensures.range))),
)

pub returns-then-not-agree_in-3 : goal.returns-then-not-agree_in-3
returns-then-not-agree_in-3 c = (
  untrue,
  λ all. c.if-not-agree_in-3.ensures.1
      (before-in c.args.geometry.now (slice_index c.args.words.now) c.args.self c.args.record_slot c.requires.record_slot all 64 (omega arith)),
)

pub returns : goal.returns
returns c = (
  (λ last.
      four-before c.args.geometry.now (slice_index c.args.words.now) c.args.self c.args.record_slot c.requires.record_slot c.requires.standing c.requires.own
      c.home-home.result (c.home-home.ensures.of ∙ ap home_of c.hash_in.ensures) (c.if-not-agree_in.ensures.0 refl)
      (subst (AgreeIn c.args.geometry.now (slice_index c.args.words.now) c.args.self c.args.record_slot) c.probing.ensures.of (c.if-not-agree_in-2.ensures.0 refl))
      (c.if-not-agree_in-3.ensures.0 refl) (c.agree_in-4.ensures.0 last)),
  (λ all. c.agree_in-4.ensures.1
      (before-in c.args.geometry.now (slice_index c.args.words.now) c.args.self c.args.record_slot c.requires.record_slot all 65 (omega arith))),
)
