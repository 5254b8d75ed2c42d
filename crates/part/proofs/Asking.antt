-- What an event of each kind puts into the memory is a word: where it stores or exchanges one, as far as that is; the others put nothing.
use Rattle.std.proofs.Common.{◌≡◌, ℕ, ◌^◌, ◌<◌, subst}
use Rattle.op_core.specs.declared.want.Want.TheVariants as want
use Rattle.part.specs.Asks.{PutsWord}

pub store_puts : (i x : ℕ) → x < 2 ^ 64 → PutsWord (want.Store i x)
store_puts i x small = record { stores = λ k y e. (let same : x ≡ y = (let z : want.Store i x ≡ want.Store k y = e in cc) in subst (λ z. z < 2 ^ 64) same small); exchanges = λ k a b e. absurd (cc) }

pub exchange_puts : (i x : ℕ) → x < 2 ^ 64 → PutsWord (want.Exchange i 0 x)
exchange_puts i x small = record { stores = λ k y e. absurd (cc); exchanges = λ k a b e. (let same : x ≡ b = (let z : want.Exchange i 0 x ≡ want.Exchange k a b = e in cc) in subst (λ z. z < 2 ^ 64) same small) }

pub flush_puts : (line : ℕ) → PutsWord (want.Flush line)
flush_puts line = record { stores = λ k y e. absurd (cc); exchanges = λ k a b e. absurd (cc) }

pub load_puts : (i : ℕ) → PutsWord (want.Load i)
load_puts i = record { stores = λ k y e. absurd (cc); exchanges = λ k a b e. absurd (cc) }

pub fence_puts : PutsWord want.Fence
fence_puts = record { stores = λ k y e. absurd (cc); exchanges = λ k a b e. absurd (cc) }

pub done_puts : PutsWord want.Done
done_puts = record { stores = λ k y e. absurd (cc); exchanges = λ k a b e. absurd (cc) }
