-- By the clauses of the machines.
use Rattle.engine.proofs.laws.attempts_have_causes.Goals as goal

pub returns : goal.returns
returns c = record {
  part = c.calls_are_parts.ensures.part;
  causes = record { call = c.calls_are_parts.ensures.causes; split = c.calls_are_parts.ensures.split_causes; repair = c.calls_are_parts.ensures.repair_causes; current = c.calls_are_parts.ensures.repair_current };
  begins = c.calls_are_parts.ensures.remembers;
  never = c.calls_are_parts.ensures.finished;
}
