-- A file of a sound image has no fault.
use Rattle.std.proofs.Common.{ℕ, List, sym, subst}
use Rattle.image_file.specs.Fault.{HasFault}
use Rattle.image_rules.proofs.Answered.{if_err}
use Rattle.image_file.proofs.Accepted.{no_fault}
use Rattle.image_file.proofs.read.from_bytes.Goals as goal

pub returns-in-Err-clause-complete : goal.returns-in-Err-clause-complete
returns-in-Err-clause-complete c sound = no_fault c.args.bytes.now sound c.in-Err.fault c.in-Err.ensures.fault

pub returns-clause-complete : goal.returns-clause-complete
returns-clause-complete c sound =
    if_err c.image_of.result
    (λ fault has. no_fault c.args.bytes.now sound fault (subst (λ (bytes : List ℕ). HasFault bytes fault) (sym c.in-Ok-words_in.ensures) has))
    c.image_of.ensures.fault
