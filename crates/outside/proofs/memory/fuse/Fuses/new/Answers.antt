-- A table of one value has it at each index, and past its end.
use Rattle.std.proofs.Common.{◌≡◌, ℕ, get_or, length, ◌≤◌, ⊎_elim}
use Rattle.std.proofs.Math.ListN.{replicate, length-replicate}
use Rattle.std.proofs.lemmas.List.{get_or-replicate, get_or_past}
use Rattle.std.proofs.lemmas.Bool.{cases_lt}
use Rattle.outside.proofs.memory.fuse.Fuses.new.Goals as goal

get_or-replicate_any : {A : Type 0} (n i : ℕ) (a : A) → get_or (replicate n a) i a ≡ a
get_or-replicate_any n i a =
    ⊎_elim (λ lt. get_or-replicate n i a a lt)
    (λ le. let past : length (replicate n a) ≤ i = rw length-replicate le in get_or_past (replicate n a) i a past)
    (cases_lt i n)

pub returns : goal.returns
returns c = λ caller. get_or-replicate_any 256 caller _
