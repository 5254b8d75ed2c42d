use Rattle.script_text.specs.declared.line.Mode.TheVariants.{Play}
use Rattle.script_text.proofs.SoFar.{few_lines}
use Rattle.example.proofs.pairs_after.Goals as goal

-- a good script has few enough lines
pub play-requires-clause-few : goal.play-requires-clause-few
play-requires-clause-few c = few_lines Play _ c.in_ok-lines.lines c.in_ok-lines.ensures.good
