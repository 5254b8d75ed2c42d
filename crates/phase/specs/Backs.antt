-- The way again: which word it looks at, and what a loaded word makes of it.
use Rattle.std.specs.Prelude.{◌==◌, ◌&&◌, ℕ, Bool, true, if◌then◌else◌}
use Rattle.image_layout.specs.Places.{root_word}
use Rattle.way.specs.Ways.{entry_word, head_word, is_leading}
use Rattle.world.specs.declared.site.Site.{Site}
use Rattle.phase.specs.declared.walk.Path.{Path}
use Rattle.phase.specs.declared.back.Back.{Back}
use Rattle.phase.specs.declared.back.Back.TheVariants.{Root, Entry, Head}
use Rattle.phase.specs.declared.back.Backed.{Backed}
use Rattle.phase.specs.declared.back.Backed.TheVariants.{On, Same, Moved}

-- the value that was seen first
abbrev pub back_before : Path → Back → ℕ
back_before path Root = path.root
back_before path Entry = path.segment
back_before path Head = path.head

abbrev pub back_on : Back → Backed
back_on Root = On Entry
back_on Entry = On Head
back_on Head = Same

module _ (site : Site) (hash : ℕ) (path : Path) where
  abbrev pub back_word : Back → ℕ
  back_word Root = root_word
  back_word Entry = entry_word site.geometry hash path.root
  back_word Head = head_word site.geometry path.segment

  -- of a header is asked that it leads to the hash
  abbrev pub back_leads : Back → Bool
  back_leads Root = true
  back_leads Entry = true
  back_leads Head = is_leading path.head hash

  abbrev pub back_taken : Back → ℕ → Backed
  back_taken back seen = if (seen == back_before path back) && back_leads back then back_on back else Moved (back_word back) (back_before path back) seen
