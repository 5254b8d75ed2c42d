-- How many events a get takes at most, whatever values they find; and that it asks for words of the memory alone.
use Rattle.std.specs.Prelude.{◌≡◌, ◌≢◌, ℕ, ◌+◌, ◌<◌, ◌≤◌, ◌^◌, List, [], ◌∷◌, length}
use Rattle.op_core.specs.declared.want.Want.TheVariants.{Done}
use Rattle.op_core.specs.declared.want.Ans.TheVariants.{Value}
use Rattle.image_layout.specs.Places.{IsShape}
use Rattle.image_layout.specs.Volatile.{all_words_of}
use Rattle.world.specs.declared.site.Site.{Site}
use Rattle.world.specs.Wants.{word_of}
use Rattle.phase.specs.Stands.{walk_left, back_left, load_left}
use Rattle.phase.specs.declared.role.Role.{Role}
use Rattle.phase.specs.declared.role.Role.TheVariants.{Home, Probing, First}
use Rattle.read_op.specs.declared.step.ReadStep.{ReadStep}
use Rattle.read_op.specs.declared.step.ReadStep.TheVariants.{Way, Look, Fill, Count, Check, Relook, Ended}
use Rattle.read_op.specs.declared.op.ReadOp.{ReadOp}
use Rattle.read_op.specs.Steps.{begun, wanted, taken}

-- a get makes at most so many events: 74 without the stash, and 33 for each stash bucket
abbrev pub most_events : ℕ
most_events = 140

-- from the look at a lock word on
abbrev pub left_of_look : Role → ℕ
left_of_look Home = 136
left_of_look Probing = 135
left_of_look First = 72
left_of_look place = 40

-- behind the last word of a bucket
abbrev pub left_behind : Role → ℕ
left_behind Home = 103
left_behind Probing = 72
left_behind First = 40
left_behind place = 8

-- from the second look at a lock word on
abbrev pub left_of_relook : Role → ℕ
left_of_relook Home = 4
left_of_relook Probing = 3
left_of_relook First = 2
left_of_relook place = 1

-- at most so many events are left
abbrev pub left : ReadStep → ℕ
left (Way walk) = 136 + walk_left walk
left (Look seen place) = left_of_look place
left (Fill seen place load) = left_behind place + load_left load
left (Count seen) = 8
left (Check seen placed back) = 4 + back_left back
left (Relook seen placed place) = left_of_relook place
left (Ended end) = 0

-- a get that wants something has fewer events left after it, whatever value that finds
abbrev pub Falls : Type 0
Falls = (op : ReadOp) (seen : ℕ) → wanted op ≢ Done → left (taken op (Value seen)).step < left op.step

-- the get after events that found these values
abbrev pub after_all : ReadOp → List ℕ → ReadOp
after_all op [] = op
after_all op (seen ∷ rest) = after_all (taken op (Value seen)) rest

-- whatever values that many events find, a get wants nothing more after them
abbrev pub EndsInTime : Type 0
EndsInTime = (key : ℕ) (site : Site) (seen : List ℕ) → most_events ≤ length seen → wanted (after_all (begun key site) seen) ≡ Done

-- in any state a get asks for a word of the image or one behind it alone
abbrev pub AsksWithin : Type 0
AsksWithin = (op : ReadOp) → IsShape op.task.site.geometry → op.task.hash < 2 ^ 64 → word_of op.task.site.geometry (wanted op) < all_words_of op.task.site.geometry
