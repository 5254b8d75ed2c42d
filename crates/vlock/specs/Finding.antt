-- What finding the segment of a hash tells.
use Rattle.std.specs.Prelude.{◌≡◌, ◌≢◌, true, false, ℕ, ◌<◌, ◌≤◌, Some, List, ◌∷◌}
use Rattle.hash_word.specs.Hash.{index_of}
use Rattle.segment_head.specs.HeadWord.{version_in, HasLiveState}
use Rattle.image_layout.specs.Places.{Shape, root_word, entry_at, header_word}
use Rattle.way.specs.Ways.{is_leading}
use Rattle.op_core.specs.declared.want.Want.{Want}
use Rattle.op_core.specs.declared.want.Want.TheVariants.{Load}
use Rattle.bucket_words.specs.Owners.{owner_of}
use Rattle.world.specs.Facts.{Fact, Lives, Current, Rooted}
use Rattle.world.specs.Ground.{Ground, version_of}
use Rattle.world.specs.Kinds.{noted_header}
use Rattle.world.specs.Views.{View, Has}
use Rattle.vlock.specs.declared.knows.Watch.{Watch}
use Rattle.vlock.specs.declared.find.FindReply.{FindReply}
use Rattle.vlock.specs.declared.find.FindReply.TheVariants.{Found, Astray, Stale}
use Rattle.vlock.specs.Plays.{Moment}

-- a view is as another was but for what it relies on of the structure, and for what it noted
abbrev pub IsBesideWay : View → View → Type 0
IsBesideWay v w = w ≡ record v { facts = w.facts; notes = w.notes }

-- ONE MOMENT that met the invariant, with this view there but for what it relied on, at which a word was this
pub record WasMet (site : Ground) (v : View) (at x : ℕ) : Type 0 where
  pub then : View
  pub same_view : IsBesideWay v then
  pub moment : Moment site then
  pub was : moment.words at ≡ x

-- such a moment at which the header of a segment was this, and the segment owned a hash
pub record WasOwner (site : Ground) (v : View) (segment header hash : ℕ) : Type 0 where
  pub header_met : WasMet site v (header_word site.shape segment) header
  pub owned : owner_of site.shape header_met.moment.words hash ≡ Some segment

-- the three loads, the newest first, with what each found
abbrev pub three_loads : Shape → ℕ → ℕ → ℕ → ℕ → List (Want × ℕ) → List (Want × ℕ)
three_loads shape hash root segment header took =
    (Load (header_word shape segment), header) ∷ (Load (entry_at root (index_of root hash)), segment) ∷ (Load root_word, root) ∷ took

-- THE WAY WAS GONE to a live segment: the root depth, the entry of the hash in its directory and the header of the segment that the entry named
-- were loaded, each as it was at a moment. The view relies on what it relied on before, on the depth, and on the segment to be live; it has
-- noted the header
pub record WentTo (site : Ground) (hash segment header : ℕ) (p q : Watch) : Type 0 where
  pub root : ℕ
  pub low : root ≤ site.shape.depth
  pub within : segment < site.shape.segments
  pub live : HasLiveState header
  pub took : q.took ≡ three_loads site.shape hash root segment header p.took
  pub root_was : WasMet site p.view root_word root
  pub entry_was : WasMet site p.view (entry_at root (index_of root hash)) segment
  pub header_was : WasMet site p.view (header_word site.shape segment) header
  pub noted : q.view.notes ≡ noted_header site.shape segment header ∷ p.view.notes
  pub still : (fact : Fact) → Has fact p.view.facts → Has fact q.view.facts
  pub rooted : Has (Rooted root) q.view.facts
  pub lives : Has (Lives segment) q.view.facts

-- WHAT FINDING TELLS, of what the seat knew before and knows after
abbrev pub Finds : Ground → ℕ → Watch → FindReply → Watch → Type 0
Finds site hash p (Found segment header) q =
    WentTo site hash segment header p q × Has (Current segment) q.view.facts × (version_in header ≡ version_of site) × (is_leading header hash ≡ true) × WasOwner site p.view segment header hash
Finds site hash p (Astray segment header) q =
    WentTo site hash segment header p q × Has (Current segment) q.view.facts × (version_in header ≡ version_of site) × (is_leading header hash ≡ false)
Finds site hash p (Stale segment header) q = WentTo site hash segment header p q × (version_in header ≢ version_of site)
