-- The laws are lemmas, with membership as the library says it.
use Rattle.std.proofs.Common.{◌∷◌, length}
use Rattle.trace.specs.Events.{line_of}
use Rattle.trace.specs.Events.Event.{flushed}
use Rattle.trace.specs.Progress.{pending}
use Rattle.trace.proofs.Listed.{has_of_contains, contains_of_has}
use Rattle.trace.proofs.Moments.{since_earlier}
use Rattle.trace.proofs.Flushes.{flush_pending, pending_more}
use Rattle.trace.proofs.Media.{fence_since, flush_since}
use Rattle.trace.proofs.laws.fences_settle.Goals as goal

pub returns : goal.returns
returns c = record {
  begun = λ es d l. contains_of_has (l, length es) (pending d (flushed d l ∷ es)) (flush_pending es d l);
  kept = λ e es d l t n h. contains_of_has (l, t) (pending d (e ∷ es)) (pending_more e es d (l, t) n (has_of_contains (l, t) (pending d es) h));
  newest = flush_since;
  since = λ start es d i t x h. fence_since start es d i t x (has_of_contains (line_of i, t) (pending d es) h);
  fewer = since_earlier;
}
