-- The laws of the phases.
use Rattle.std.specs.Prelude.{◌≡◌, ◌≢◌, ℕ, ◌+◌, ◌^◌, ◌<◌, true, false, Some, List, ◌∷◌, ◌++◌}
use Rattle.op_core.specs.declared.want.Want.TheVariants.{Load as LoadWord}
use Rattle.op_core.specs.declared.want.Ans.TheVariants.{Value}
use Rattle.op_core.specs.Answers.{load_of}
use Rattle.trace.specs.Events.{Words}
use Rattle.image_layout.specs.Places.{Shape, IsShape, header_word, words_of, place_in_bucket}
use Rattle.image_layout.specs.Volatile.{all_words_of}
use Rattle.sound_image.specs.Records.{key_hash}
use Rattle.bucket_words.specs.Owners.{owner_of}
use Rattle.world.specs.Facts.{Fact}
use Rattle.way.specs.Ways.{head_word, is_leading}
use Rattle.map_model.specs.declared.call.Call.{Call}
use Rattle.map_model.specs.Map.{key_of}
use Rattle.world.specs.declared.site.Site.{Site}
use Rattle.world.specs.Ground.{Ground, version_of, IsStructured}
use Rattle.world.specs.Views.{Glance, View, Has}
use Rattle.world.specs.Wants.{word_of}
use Rattle.world.specs.Kinds.{Kind, validates, pins, wanted, view_after}
use Rattle.world.specs.Conditions.{May, IsNewest, IsNow}
use Rattle.part.specs.Doings.{Doings}
use Rattle.phase.specs.declared.walk.Path.{Path}
use Rattle.phase.specs.declared.walk.Walk.{Walk}
use Rattle.phase.specs.declared.walk.Walked.TheVariants.{Stale}
use Rattle.phase.specs.declared.back.Back.{Back}
use Rattle.phase.specs.declared.back.Back.TheVariants.{Head}
use Rattle.phase.specs.declared.back.Backed.TheVariants.{Same}
use Rattle.phase.specs.declared.load.Load.{Load}
use Rattle.phase.specs.Walks.{walk_wanted, walk_taken}
use Rattle.phase.specs.Backs.{back_word, back_taken}
use Rattle.phase.specs.Loads.{load_taken}
use Rattle.phase.specs.Stands.{walk_kind, back_kind, IsCurrent, Leads, IsWalking, HasWalked, HasBegun, NotesWay, IsButWay, walk_left, walked_left, back_left, backed_left, IsLoading, HasLoaded, load_left, loaded_left}
use Rattle.phase.specs.Causes.{WasFound, RemembersWalk, RemembersWalked, HasWalkCause, HasBackCause}

-- ---- where the way leads
-- THE OWNER of a hash is the segment whose header leads to it, in words whose structure is sound
abbrev pub HeadersLead : Type 0
HeadersLead = (site : Ground) → IsShape site.shape → (words : Words) → IsStructured site words → (s hash : ℕ) → s < site.shape.segments → hash < 2 ^ 64
    → is_leading (words (header_word site.shape s)) hash ≡ true → owner_of site.shape words hash ≡ Some s

-- so who has pinned such a header knows the owner while it is pinned
abbrev pub PinnedLead : Type 0
PinnedLead = (site : Ground) (hash segment : ℕ) (v : View) → Leads site hash segment v.pinned
    → (words : Words) → IsNewest site v words → owner_of site.shape words hash ≡ Some segment

-- and who has noted one, whenever it is as it was
abbrev pub NotedLead : Type 0
NotedLead = (site : Ground) (hash : ℕ) (path : Path) (notes : List Glance) → IsShape site.shape → hash < 2 ^ 64 → path.segment < site.shape.segments
    → (note : Glance) → Has note notes → note.word ≡ header_word site.shape path.segment → note.value ≡ path.head → is_leading path.head hash ≡ true
    → (words : Words) → IsNow site notes words → owner_of site.shape words hash ≡ Some path.segment

-- ---- the way
-- each event is of its kind, which who relies on what it loaded may take; and it leaves all but that and the notes as it was
pub record WalkFits : Type 0 where
  pub wants : (shape : Shape) (here : Site) (hash : ℕ) (w : Walk) → here.geometry ≡ shape → walk_wanted here hash w ≡ wanted shape (walk_kind here hash w)
  pub may : (site : Ground) (here : Site) (hash : ℕ) (w : Walk) (v : View) → IsShape site.shape → here.geometry ≡ site.shape → here.version ≡ version_of site → hash < 2 ^ 64
      → IsWalking site w v.facts → May site (walk_kind here hash w) v
  pub leaves : (shape : Shape) (here : Site) (hash : ℕ) (w : Walk) (n : ℕ) (v : View) → IsButWay v (view_after shape (walk_kind here hash w) n v)

-- WHAT A VIEW RELIES ON on the way is kept by each event, whatever words may be the newest as far as it can know
abbrev pub WalkStands : Type 0
WalkStands = (site : Ground) (here : Site) (hash : ℕ) (words : Words) (v : View) → IsShape site.shape → here.geometry ≡ site.shape → hash < 2 ^ 64 → IsNewest site v words
    → (w : Walk) → IsWalking site w v.facts → (n : ℕ) → n ≡ words (word_of site.shape (walk_wanted here hash w))
    → HasWalked site (walk_taken here hash w n) (view_after site.shape (walk_kind here hash w) n v).facts

-- WHAT IT HAS NOTED: nothing on the way, and at its end the header
abbrev pub WalkNotes : Type 0
WalkNotes = (site : Ground) (here : Site) (hash : ℕ) (v : View) → here.geometry ≡ site.shape → (w : Walk) → IsWalking site w v.facts → HasBegun w v
    → (n : ℕ) → NotesWay site.shape (walk_taken here hash w n) (view_after site.shape (walk_kind here hash w) n v)

-- where each live segment has the image's version, no segment is stale
abbrev pub WalkNeverStale : Type 0
WalkNeverStale = (site : Ground) (here : Site) (hash : ℕ) (words : Words) (facts : List Fact) → here.geometry ≡ site.shape → IsCurrent site.shape words here.version
    → (w : Walk) → IsWalking site w facts → (n : ℕ) → n ≡ words (word_of site.shape (walk_wanted here hash w)) → (segment byte : ℕ) → walk_taken here hash w n ≡ Stale segment byte → ⊥

abbrev pub WalkFalls : Type 0
WalkFalls = (here : Site) (hash : ℕ) (w : Walk) (n : ℕ) → walked_left (walk_taken here hash w n) < walk_left w

-- a way asks for words of the image, and for the power word
abbrev pub WalkAsksWithin : Type 0
WalkAsksWithin = (here : Site) (hash : ℕ) → IsShape here.geometry → hash < 2 ^ 64 → (w : Walk) → word_of here.geometry (walk_wanted here hash w) < all_words_of here.geometry

-- ---- the way again
-- each event is of its kind, where the last one looks at the header; whoever may take that may take each; and those before it leave
-- the view as it was
pub record BackFits : Type 0 where
  pub wants : (shape : Shape) (here : Site) (hash : ℕ) (path : Path) (last : Kind) (at : Back) → wanted shape last ≡ LoadWord (back_word here hash path Head)
      → LoadWord (back_word here hash path at) ≡ wanted shape (back_kind here hash path last at)
  pub may : (site : Ground) (here : Site) (hash : ℕ) (path : Path) (last : Kind) (at : Back) (v : View) → May site last v → May site (back_kind here hash path last at) v
  pub view : (shape : Shape) (here : Site) (hash : ℕ) (path : Path) (last : Kind) (at : Back) (n : ℕ) (v : View) → at ≢ Head → view_after shape (back_kind here hash path last at) n v ≡ v
  -- such a look is that of who validates the noted header, and of who pins it
  pub validates : (shape : Shape) (here : Site) (hash : ℕ) (path : Path) → wanted shape (validates (head_word here.geometry path.segment)) ≡ LoadWord (back_word here hash path Head)
  pub pins : (shape : Shape) (here : Site) (hash : ℕ) (path : Path) (b : ℕ) → here.geometry ≡ shape → path.segment < shape.segments
      → wanted shape (pins path.segment b) ≡ LoadWord (back_word here hash path Head)

-- IT ENDS at a header that is as it was and leads to the hash
abbrev pub BackLeads : Type 0
BackLeads = (here : Site) (hash : ℕ) (path : Path) (at : Back) (n : ℕ) → back_taken here hash path at n ≡ Same → (at ≡ Head) × (n ≡ path.head) × (is_leading path.head hash ≡ true)

-- and at none that does not
abbrev pub BackLeadsAway : Type 0
BackLeadsAway = (here : Site) (hash : ℕ) (path : Path) (at : Back) (n : ℕ) → is_leading path.head hash ≡ false → back_taken here hash path at n ≢ Same

abbrev pub BackFalls : Type 0
BackFalls = (here : Site) (hash : ℕ) (path : Path) (at : Back) (n : ℕ) → backed_left (back_taken here hash path at n) < back_left at

-- it asks for words of the image
abbrev pub BackAsksWithin : Type 0
BackAsksWithin = (here : Site) (hash : ℕ) → IsShape here.geometry → hash < 2 ^ 64 → (path : Path) (at : Back) → back_word here hash path at < words_of here.geometry

-- ---- the load of a bucket
abbrev pub LoadStands : Type 0
LoadStands = (lock : ℕ) (pairs : List (ℕ × ℕ)) (load : Load) (n : ℕ) → IsLoading lock pairs load → HasLoaded lock ((lock + place_in_bucket load.next, n) ∷ pairs) (load_taken load n)

abbrev pub LoadFalls : Type 0
LoadFalls = (load : Load) (n : ℕ) → loaded_left (load_taken load n) < load_left load

-- ---- causes
-- WHAT IS KEPT on the way was loaded
abbrev pub WalkRemembers : Type 0
WalkRemembers = (here : Site) (hash : ℕ) (loads : List (ℕ × ℕ)) (w : Walk) (n : ℕ) → RemembersWalk here hash loads w
    → RemembersWalked here hash (load_of (walk_wanted here hash w) (Value n) ++ loads) (walk_taken here hash w n)

-- EACH END of a way HAS ITS CAUSE
abbrev pub WalkHasCauses : Type 0
WalkHasCauses = (here : Site) (hash : ℕ) (words : Words) (did : Doings) (call : Call) → hash ≡ key_hash here.geometry (key_of call) → (w : Walk) → RemembersWalk here hash did.loads w
    → (n : ℕ) → n ≡ words (word_of here.geometry (walk_wanted here hash w)) → HasWalkCause here hash words did call w (walk_taken here hash w n)

-- and of a way again, where the attempt did not change its words itself
abbrev pub BackHasCauses : Type 0
BackHasCauses = (here : Site) (hash : ℕ) (words : Words) (did : Doings) (call : Call) → hash ≡ key_hash here.geometry (key_of call) → (path : Path) → WasFound here hash did.loads path
    → ((at : Back) → Has (back_word here hash path at) did.changed → ⊥)
    → (at : Back) (n : ℕ) → n ≡ words (back_word here hash path at) → HasBackCause here hash words did call path at (back_taken here hash path at n)
