use Rattle.std.proofs.Common.{◌≡◌, ◌<◌, ℕ, length, get_or}
use Rattle.vlock.proofs.ends.words_in.Given as goal

abbrev pub invariant-loop-i : goal.invariant-loop-i
invariant-loop-i l = (length l.room.items ≡ l.fn.closed.words.len) × ((j : ℕ) → j < l.i → get_or l.room.items j 0 ≡ get_or l.fn.closed.words.items j 0)
