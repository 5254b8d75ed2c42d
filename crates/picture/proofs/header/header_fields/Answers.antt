-- By the rules that all proofs share.
use Rattle.std.proofs.Common.{rules}
use Rattle.picture.proofs.header.header_fields.Goals as goal

pub returns-clause-version : goal.returns-clause-version
returns-clause-version c = search rules

pub returns-clause-state : goal.returns-clause-state
returns-clause-state c = search rules

pub returns-clause-depth : goal.returns-clause-depth
returns-clause-depth c = search rules

pub returns-clause-pattern : goal.returns-clause-pattern
returns-clause-pattern c = search rules
