-- The words of the buckets that are locked, by their places.
use Rattle.std.specs.Prelude.{ℕ, List, replicate}
use Rattle.phase.specs.declared.role.Role.{Role}
use Rattle.phase.specs.declared.role.Role.TheVariants.{Home, Probing, First, Second, Next, Previous}
use Rattle.phase.specs.declared.kept.Buckets.{Buckets}
use Rattle.image_layout.specs.Places.{block}

abbrev pub no_words : Buckets
no_words = record { home = replicate block 0; probing = replicate block 0; first = replicate block 0; second = replicate block 0; next = replicate block 0; previous = replicate block 0 }

-- with the words of one bucket put in
abbrev pub with_words : Role → List ℕ → Buckets → Buckets
with_words Home words buckets = record buckets { home = words }
with_words Probing words buckets = record buckets { probing = words }
with_words First words buckets = record buckets { first = words }
with_words Second words buckets = record buckets { second = words }
with_words Next words buckets = record buckets { next = words }
with_words Previous words buckets = record buckets { previous = words }

-- the words of a bucket
abbrev pub words_in : Buckets → Role → List ℕ
words_in buckets Home = buckets.home
words_in buckets Probing = buckets.probing
words_in buckets First = buckets.first
words_in buckets Second = buckets.second
words_in buckets Next = buckets.next
words_in buckets Previous = buckets.previous
