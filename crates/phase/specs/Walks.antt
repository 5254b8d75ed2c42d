-- The way: what it wants, and what a loaded word makes of it.
use Rattle.std.specs.Prelude.{◌==◌, ℕ, nat_le, nat_lt, if◌then◌else◌}
use Rattle.segment_head.specs.HeadWord.{version_in, is_live}
use Rattle.image_layout.specs.Places.{root_word}
use Rattle.image_layout.specs.Volatile.{power_on}
use Rattle.way.specs.Ways.{entry_word, head_word}
use Rattle.op_core.specs.declared.want.Want.{Want}
use Rattle.op_core.specs.declared.want.Want.TheVariants.{Load, Power as LoadPower}
use Rattle.world.specs.declared.site.Site.{Site}
use Rattle.phase.specs.declared.walk.Walk.{Walk}
use Rattle.phase.specs.declared.walk.Walk.TheVariants.{Power, Root, Entry, Head}
use Rattle.phase.specs.declared.walk.Walked.{Walked}
use Rattle.phase.specs.declared.walk.Walked.TheVariants.{On, There, Off, Amiss, Stale}

-- a header that was seen: the way is at its end where it is live and of the image's version, whether or not it leads to the hash
abbrev pub head_taken : Site → ℕ → ℕ → ℕ → Walked
head_taken site root segment head =
    if is_live head then (if version_in head == site.version then There (record { root = root; segment = segment; head = head }) else Stale segment (version_in head))
    else Amiss (head_word site.geometry segment) head

module _ (site : Site) (hash : ℕ) where
  abbrev pub walk_wanted : Walk → Want
  walk_wanted Power = LoadPower
  walk_wanted Root = Load root_word
  walk_wanted (Entry root) = Load (entry_word site.geometry hash root)
  walk_wanted (Head root segment) = Load (head_word site.geometry segment)

  abbrev pub walk_taken : Walk → ℕ → Walked
  walk_taken Power seen = if seen == power_on then On Root else Off
  walk_taken Root seen = if nat_le seen site.geometry.depth then On (Entry seen) else Amiss root_word seen
  walk_taken (Entry root) seen =
      if nat_lt seen site.geometry.segments then On (Head root seen) else Amiss (entry_word site.geometry hash root) seen
  walk_taken (Head root segment) seen = head_taken site root segment seen
