-- What a step does to the pairs of the table.
use Rattle.std.specs.Prelude.{⊤}
use Rattle.world.specs.Kinds.{Kind, publishes, stashes}

-- the two kinds of step that make a change
abbrev pub IsPublishingKind : Kind → Type 0
IsPublishingKind (publishes i x call) = ⊤
IsPublishingKind (stashes i x call o) = ⊤
IsPublishingKind kind = ⊥
