-- What the machines of caller 0 ask of words in memory.
use Rattle.std.specs.Prelude.{ℕ, ◌<◌, ⊤}
use Rattle.op_core.specs.declared.want.Want.{Want}
use Rattle.op_core.specs.declared.want.Want.TheVariants.{Load, Store, Exchange, Flush, Fence, Draw, Power, Done}

-- a load or a store of one of so many words, a flush or a fence
abbrev pub IsPlain : ℕ → Want → Type 0
IsPlain count (Load i) = i < count
IsPlain count (Store i x) = i < count
IsPlain count (Exchange i a b) = ⊥
IsPlain count (Flush l) = ⊤
IsPlain count Fence = ⊤
IsPlain count Draw = ⊥
IsPlain count Power = ⊥
IsPlain count Done = ⊥
