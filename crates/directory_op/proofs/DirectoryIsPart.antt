-- THE MACHINE IS A PART of a call, by the law of who makes a side live.
use Rattle.world.specs.Ground.{Ground, IsGround}
use Rattle.world.specs.Views.{View}
use Rattle.world.specs.areas.Splitting.{MayPublish}
use Rattle.part.specs.Part.{IsPart}
use Rattle.directory_op.specs.DirectoryPart.{directory_part}
use Rattle.directory_op.proofs.Suiting.{steps_keep}
use Rattle.directory_op.proofs.Plain.{asks_within, puts_words, ends_as_done, plans_its_call, knows_stale, hands_on_at_end, keeps_power, ends_off}
use Rattle.directory_op.proofs.stages.Flushing.{flushes_few}
use Rattle.directory_op.proofs.ends.Falling.{ends_in_time}

pub directory_is_part : ((site : Ground) (v : View) → IsGround site → MayPublish site v) → IsPart directory_part
directory_is_part publish = record {
  steps = steps_keep publish;
  ends = λ site here call op v s done closed on. absurd (on (ends_off site here call op v s done closed));
  time = ends_in_time;
  within = asks_within;
  words = puts_words;
  flushes = flushes_few;
  made = ends_as_done;
  plans = plans_its_call;
  relies = knows_stale;
  hands = hands_on_at_end;
  power = keeps_power;
}
