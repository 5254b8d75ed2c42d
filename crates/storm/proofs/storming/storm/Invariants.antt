use Rattle.std.proofs.Common.{◌≡◌, ◌*◌, ◌≤◌}
use Rattle.sound_image.specs.Image.{IsSoundImage}
use Rattle.script_text.specs.Script.{most_script_lines}
use Rattle.map_model.specs.Weave.{most_callers}
use Rattle.storm.specs.Storm.{storm_shape, state_at, AreCut}
use Rattle.storm.proofs.storming.storm.Given as goal

abbrev pub invariant-loop-cut : goal.invariant-loop-cut
invariant-loop-cut l = record {
  cut : AreCut l.seed l.calls l._cut l.tally;
  state : l.state ≡ state_at l.seed l.calls l._cut;
  shape : l.tally.medium.geometry ≡ storm_shape;
  sound : IsSoundImage storm_shape l.tally.medium.words;
  few_replies : l.tally.replies ≤ l._cut * most_script_lines;
  few_opens : l.tally.opens ≤ l._cut * most_callers;
}
