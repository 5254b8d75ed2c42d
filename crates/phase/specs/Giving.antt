-- How the locks that are held fit the world, and how they are given back.
use Rattle.std.specs.Prelude.{◌≡◌, ◌≢◌, ℕ, ◌+◌, ◌<◌, Option, None, Some, List, [], ◌∷◌}
use Rattle.op_core.specs.declared.want.Want.TheVariants.{Done}
use Rattle.bucket_meta.specs.Bucket.{locked, given_back}
use Rattle.image_layout.specs.Places.{Shape, root_word, bucket_at}
use Rattle.map_model.specs.declared.call.Call.{Call}
use Rattle.world.specs.declared.site.Site.{Site}
use Rattle.world.specs.Ground.{Ground, IsLockWord, IsUnder}
use Rattle.world.specs.Views.{Move, Owed, View, Has, HasLock, IsGuarded}
use Rattle.world.specs.Kinds.{Kind, peeks, learns, unlocks, with_store, wanted, view_after}
use Rattle.world.specs.Conditions.{May, IsKnownLock}
use Rattle.world.specs.Attempts.{HoldsOnly}
use Rattle.phase.specs.declared.role.Role.{Role}
use Rattle.phase.specs.declared.held.Held.{Held}
use Rattle.phase.specs.Places.{bucket_of_role, lock_word}
use Rattle.phase.specs.Helds.{none_held, with_held, free_of, give_next, give_wanted, given}
use Rattle.phase.specs.Taking.{MayBeTaken}
use Rattle.phase.specs.Stands.{IsThere}

-- the segment is one of the image, which is laid out as the machine's site says
pub record IsLocated (site : Ground) (here : Site) (segment : ℕ) : Type 0 where
  pub shape : here.geometry ≡ site.shape
  pub within : segment < site.shape.segments

-- ---- what is held
-- the lock of a place is held
abbrev pub IsHeld : Held → Role → Type 0
IsHeld held place = (free : ℕ) × (free_of held place ≡ Some free)

-- nothing is unsettled, planned, under way or owed
pub record IsQuiet (v : View) : Type 0 where
  pub dirty : v.dirty ≡ []
  pub flushed : v.flushed ≡ []
  pub planned : v.planned ≡ []
  pub moving : v.moving ≡ []
  pub owed : v.owed ≡ []

module _ (here : Site) (hash segment : ℕ) (held : Held) where
  -- word i lies under a lock that is held
  abbrev pub IsOfHeld : ℕ → Type 0
  IsOfHeld i = (place : Role) × IsHeld held place × IsUnder (lock_word here hash segment place) i

  -- THESE LOCKS ARE HELD, and no others, in any order: each may be given back with its next version, words are known under them alone,
  -- and no area is held
  pub record HoldsLocks (v : View) : Type 0 where
    pub has : (place : Role) (value : ℕ) → free_of held place ≡ Some value → Has (lock_word here hash segment place, locked value) v.held
    pub only : (p : ℕ × ℕ) → Has p v.held → (place : Role) × (value : ℕ) × (free_of held place ≡ Some value) × (p ≡ (lock_word here hash segment place, locked value))
    pub free : (place : Role) (value : ℕ) → free_of held place ≡ Some value → MayBeTaken value
    pub known : (p : ℕ × ℕ) → Has p v.known → IsGuarded v.held p.0
    pub areas : v.areas ≡ []

-- ---- given back
-- while they are given back: the segment is there, these locks are held, and nothing is unsettled, planned, under way or owed
pub record GivesBack (site : Ground) (here : Site) (hash segment : ℕ) (held : Held) (v : View) : Type 0 where
  pub located : IsLocated site here segment
  pub locks : HoldsLocks here hash segment held v
  pub quiet : IsQuiet v

module _ (here : Site) (hash segment : ℕ) where
  abbrev pub give_kind_of : Option (Role × ℕ) → Kind
  give_kind_of (Some next) = unlocks (lock_word here hash segment next.0) (given_back next.1)
  give_kind_of None = peeks root_word

  abbrev pub give_kind : Held → Kind
  give_kind held = give_kind_of (give_next held)

-- ---- at most so many events are left
abbrev pub lock_left : Option ℕ → ℕ
lock_left (Some free) = 1
lock_left None = 0

abbrev pub give_left : Held → ℕ
give_left held = lock_left held.home + lock_left held.probing + lock_left held.first + lock_left held.second + lock_left held.next + lock_left held.previous

-- ---- the laws
-- where a place's lock word stands, that it is one of a segment that is known to be live and current at the end of a way, and that the
-- six are apart
pub record PlacesStand : Type 0 where
  pub at : (site : Ground) (here : Site) (hash segment : ℕ) (place : Role) → IsLocated site here segment
      → lock_word here hash segment place ≡ bucket_at site.shape segment (bucket_of_role hash place)
  pub are_locks : (site : Ground) (here : Site) (hash segment : ℕ) (place : Role) → IsLocated site here segment → IsLockWord site.shape (lock_word here hash segment place)
  pub are_known : (site : Ground) (here : Site) (hash segment : ℕ) (place : Role) (v : View) → here.geometry ≡ site.shape → IsThere site segment v.facts
      → IsKnownLock site v (lock_word here hash segment place)
  pub apart : (site : Ground) (here : Site) (hash segment : ℕ) (place other : Role) → IsLocated site here segment → place ≢ other
      → lock_word here hash segment place ≢ lock_word here hash segment other

-- what is held of the locks: none at first, and one more where one was taken that was not held; whose lock is held, by the places; and
-- what keeps them
pub record HeldStands : Type 0 where
  pub none : (here : Site) (hash segment : ℕ) (v : View) → HoldsOnly [] v → HoldsLocks here hash segment none_held v
  pub more : (here : Site) (hash segment : ℕ) (held : Held) (place : Role) (free : ℕ) (v u : View) → free_of held place ≡ None → MayBeTaken free → HoldsLocks here hash segment held v
      → u ≡ record v { held = (lock_word here hash segment place, locked free) ∷ v.held } → HoldsLocks here hash segment (with_held place free held) u
  pub has : (here : Site) (hash segment : ℕ) (held : Held) (place : Role) (v : View) → HoldsLocks here hash segment held v → IsHeld held place
      → HasLock v.held (lock_word here hash segment place)
  -- a store under one of them, or a load there, keeps them, and so does what leaves the locks, the areas and what is known
  pub store : (shape : Shape) (here : Site) (hash segment : ℕ) (held : Held) (v : View) (i old x : ℕ) (calls : List Call) (moves : List Move) (owed : List Owed)
      → HoldsLocks here hash segment held v → IsGuarded v.held i → HoldsLocks here hash segment held (with_store shape i old x calls moves owed v)
  pub learn : (shape : Shape) (here : Site) (hash segment : ℕ) (held : Held) (v : View) (i n : ℕ) → HoldsLocks here hash segment held v → IsGuarded v.held i
      → HoldsLocks here hash segment held (view_after shape (learns i) n v)
  pub same : (here : Site) (hash segment : ℕ) (held : Held) (v u : View) → u.held ≡ v.held → u.known ≡ v.known → u.areas ≡ v.areas → HoldsLocks here hash segment held v
      → HoldsLocks here hash segment held u
  pub has_not : (site : Ground) (here : Site) (hash segment : ℕ) (held : Held) (place : Role) (v : View) → IsLocated site here segment → HoldsLocks here hash segment held v
      → free_of held place ≡ None → HasLock v.held (lock_word here hash segment place) → ⊥

-- each event is of its kind, which who has nothing unsettled, planned, under way or owed may take; it leaves one lock less; and
-- with the last of them nothing is held, known, unsettled, planned, under way or owed
pub record GiveStands : Type 0 where
  pub wants : (shape : Shape) (here : Site) (hash segment : ℕ) (held : Held) (v : View) → HoldsLocks here hash segment held v → give_wanted here hash segment held ≢ Done
      → give_wanted here hash segment held ≡ wanted shape (give_kind here hash segment held)
  pub may : (site : Ground) (here : Site) (hash segment : ℕ) (held : Held) (v : View) → HoldsLocks here hash segment held v → IsQuiet v → May site (give_kind here hash segment held) v
  pub locks : (site : Ground) (here : Site) (hash segment : ℕ) (held : Held) (v : View) (n : ℕ) → IsLocated site here segment → HoldsLocks here hash segment held v
      → HoldsLocks here hash segment (given held) (view_after site.shape (give_kind here hash segment held) n v)
  pub quiet : (shape : Shape) (here : Site) (hash segment : ℕ) (held : Held) (v : View) (n : ℕ) → IsQuiet v → IsQuiet (view_after shape (give_kind here hash segment held) n v)
  pub ends : (here : Site) (hash segment : ℕ) (held : Held) (v : View) → HoldsLocks here hash segment held v → IsQuiet v → give_wanted here hash segment held ≡ Done → HoldsOnly [] v

abbrev pub GiveFalls : Type 0
GiveFalls = (here : Site) (hash segment : ℕ) (held : Held) → give_wanted here hash segment held ≢ Done → give_left (given held) < give_left held
