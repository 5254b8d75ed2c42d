-- By the rules that all proofs share.
use Rattle.std.proofs.Common.{rules}
use Rattle.outside.proofs.file.FileStoreStore.read_all.Goals as goal

pub returns-in-Err-Because-clause-cause : goal.returns-in-Err-Because-clause-cause
returns-in-Err-Because-clause-cause g c = search rules
