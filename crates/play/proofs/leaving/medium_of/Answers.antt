use Rattle.std.proofs.Common.{◌∙◌, length, sym, ap}
use Rattle.image_layout.specs.Places.{words_of}
use Rattle.trace.specs.Steps.{settled_value}
use Rattle.core_run.specs.Run.{medium_words}
use Rattle.play.proofs.ended.Media.{kept_is, newest_is}
use Rattle.play.proofs.leaving.medium_of.Goals as goal

pub returns-in-Some-clause-words : goal.returns-in-Some-clause-words
returns-in-Some-clause-words c start core traced words =
    c.cut.ensures.words
    ∙ kept_is c.settled_values.ensures.is start core c.args.device c.in-Some.choice traced words
    (ap (λ ws. length ws) (sym c.cut.ensures.words) ∙ c.cut.ensures.whole)
    ∙ ap (λ o. medium_words c.args.device.shape start core o) (sym c.in-Some.is)

pub returns-in-None-clause-words : goal.returns-in-None-clause-words
returns-in-None-clause-words c start core traced words =
    c.cut-in-None.ensures.words
    ∙ kept_is c.settled_values.ensures.is start core c.args.device 1 traced words
    (ap (λ ws. length ws) (sym c.cut-in-None.ensures.words) ∙ c.cut-in-None.ensures.whole)
    ∙ newest_is (settled_value start core.trace) core.words (words_of c.args.device.shape)
    ∙ ap (λ o. medium_words c.args.device.shape start core o) (sym c.in-None.is)
