use Rattle.std.proofs.Common.{ℕ, List, ◌++◌, ◌∙◌, ap, arith}
use Rattle.shared_image.proofs.Laid.{laid}
use Rattle.shared_image.proofs.power.laid_out.Goals as goal

pub returns-clause-words : goal.returns-clause-words
returns-clause-words c =
    let whole = c.requires.whole in
    let total = c.all_words-total.ensures.is in
    laid c.args.medium.now.words c.extend_from_slice.new.self.items c.resize.new.self.items c.all_words-total.result _ c.in_ok-resize.ensures.items
    (c.in_ok-extend_from_slice.ensures.items ∙ ap (λ (ws : List ℕ). ws ++ c.as_slice.result.now) c.in_ok-words.ensures.items ∙ c.as_slice.ensures.value)
    (omega (arith, whole, total))
