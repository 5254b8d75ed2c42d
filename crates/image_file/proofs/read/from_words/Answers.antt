-- The file of a sound image's words has no fault.
use Rattle.std.proofs.Common.{ℕ, List, subst}
use Rattle.sound_image.specs.Image.{image_bytes}
use Rattle.image_file.specs.Fault.{HasFault}
use Rattle.image_rules.proofs.Answered.{if_err}
use Rattle.image_file.proofs.Accepted.{no_fault}
use Rattle.image_file.proofs.read.from_words.Goals as goal

pub returns-in-Err-clause-fault : goal.returns-in-Err-clause-fault
returns-in-Err-clause-fault c =
    subst (λ (words : List ℕ). HasFault (image_bytes words) c.in-Err.fault) c.as_slice.ensures.value c.in-Err.ensures.fault

pub returns-in-Err-clause-complete : goal.returns-in-Err-clause-complete
returns-in-Err-clause-complete c sound =
    no_fault (image_bytes c.args.words) sound c.in-Err.fault
    (subst (λ (words : List ℕ). HasFault (image_bytes words) c.in-Err.fault) c.as_slice.ensures.value c.in-Err.ensures.fault)

pub returns-clause-complete : goal.returns-clause-complete
returns-clause-complete c sound = if_err c.image_of.result (λ fault has. no_fault (image_bytes c.args.words) sound fault has) c.image_of.ensures.fault
