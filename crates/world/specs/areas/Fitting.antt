-- What the words are for views to have their locks and areas, and that a word has one holder.
use Rattle.std.specs.Prelude.{◌≡◌, ◌≢◌, ℕ, ◌<◌, ◌⊎◌, List}
use Rattle.trace.specs.Events.{Words}
use Rattle.segment_head.specs.HeadWord.{version_in, free, splitting, HasLiveState}
use Rattle.image_layout.specs.Places.{Shape, block, root_word, words_of, bucket_at, buckets}
use Rattle.sound_image.specs.Segments.{Frame, frame_of, state_at, depth_at, pattern_at, side_depth_at, side_pattern_at}
use Rattle.frame_facts.specs.Claims.{HasSoundFrame}
use Rattle.frame_facts.specs.Facts.{IsLiveSlot}
use Rattle.world.specs.Ground.{Ground, IsGround, version_of, IsCurrentIn}
use Rattle.world.specs.Views.{View, Has, At, HasLock, IsGuarded}
use Rattle.world.specs.Media.{MayLeave, IsPossible}
use Rattle.world.specs.areas.Areas.{Area, Segment, Stale, Side, Free, Whole, Allocation, Directory, header_word, InArea}

-- a view holds a word: by one of its locks, or by one of its areas
abbrev pub HoldsWord : Shape → View → ℕ → Type 0
HoldsWord shape v i = IsGuarded v.held i ⊎ ((a : Area) × Has a v.areas × InArea shape a i)

-- a view holds all locks of a segment
abbrev pub HoldsAll : Shape → View → ℕ → Type 0
HoldsAll shape v s = (b : ℕ) → b < buckets → HasLock v.held (bucket_at shape s b)

-- a slot that is not free has the 1-side of a splitting segment whose guard is among the areas
pub record IsGuardedSide (frame : Frame) (areas : List Area) (n : ℕ) : Type 0 where
  pub slot : n < frame.segments
  pub taken : state_at frame n ≢ free
  pub parent : ℕ
  pub parent_slot : parent < frame.segments
  pub guarded : Has (Segment parent) areas
  pub splits : state_at frame parent ≡ splitting
  pub depth : depth_at frame n ≡ side_depth_at frame parent
  pub pattern : pattern_at frame n ≡ side_pattern_at frame parent

module _ (site : Ground) (words : Words) (views : List View) where
  -- the segment of a slot lives in whatever a cut may leave
  abbrev pub LivesOn : ℕ → Type 0
  LivesOn s = (medium : Words) → IsPossible site words views medium → IsLiveSlot (frame_of site.shape medium) s

  -- a cut may leave a slot with a header that is not live
  pub record MayStayDead (n : ℕ) : Type 0 where
    pub old : ℕ
    pub may : MayLeave site words views (header_word site.shape n) old
    pub dead : HasLiveState old → ⊥

  -- a lock is one of a current segment that lives in whatever a cut may leave
  pub record IsLivingLock (lock : ℕ) : Type 0 where
    pub segment : ℕ
    pub bucket : ℕ
    pub near : bucket < buckets
    pub is : lock ≡ bucket_at site.shape segment bucket
    pub current : IsCurrentIn site words segment
    pub lives : LivesOn segment

  -- AREAS: what the words are for views to have their locks and areas. All that is said of an area but of a lock is about words of
  -- that area, which no other view stores to
  pub record Fits : Type 0 where
    pub lock : (j : ℕ) (v : View) (lock : ℕ) → At views j v → HasLock v.held lock → IsLivingLock lock
    pub segment : (j : ℕ) (v : View) (s : ℕ) → At views j v → Has (Segment s) v.areas → LivesOn s
    pub stale : (j : ℕ) (v : View) (s : ℕ) → At views j v → Has (Stale s) v.areas → Has (Segment s) v.areas × (version_in (words (header_word site.shape s)) ≢ version_of site)
    pub side : (j : ℕ) (v : View) (n : ℕ) → At views j v → Has (Side n) v.areas → IsGuardedSide (frame_of site.shape words) v.areas n × MayStayDead n
    pub free_slot : (j : ℕ) (v : View) (n : ℕ) → At views j v → Has (Free n) v.areas
        → Has Allocation v.areas × (n < site.shape.segments) × (state_at (frame_of site.shape words) n ≡ free)
    pub whole : (j : ℕ) (v : View) (s : ℕ) → At views j v → Has (Whole s) v.areas → Has (Segment s) v.areas × HoldsAll site.shape v s
    -- who splits a current segment has it whole
    pub splits : (s : ℕ) → IsCurrentIn site words s → state_at (frame_of site.shape words) s ≡ splitting → (j : ℕ) × (v : View) × At views j v × Has (Whole s) v.areas
    -- a guard has one holder
    pub one_segment : (i j : ℕ) (u v : View) (s : ℕ) → At views i u → At views j v → Has (Segment s) u.areas → Has (Segment s) v.areas → i ≡ j
    pub one_allocation : (i j : ℕ) (u v : View) → At views i u → At views j v → Has Allocation u.areas → Has Allocation v.areas → i ≡ j
    pub one_directory : (i j : ℕ) (u v : View) → At views i u → At views j v → Has Directory u.areas → Has Directory v.areas → i ≡ j

  -- what it rests on of the other parts: the newest words have a sound structure, and one view holds a lock
  pub record HasGrounds : Type 0 where
    pub site_is : IsGround site
    pub sound : HasSoundFrame site.shape words
    pub alone : (i j : ℕ) (u v : View) (lock x y : ℕ) → At views i u → At views j v → Has (lock, x) u.held → Has (lock, y) v.held → i ≡ j

-- A WORD HAS ONE HOLDER
abbrev pub OneHolder : Type 0
OneHolder = (site : Ground) (words : Words) (views : List View) → HasGrounds site words views → Fits site words views
    → (i j n : ℕ) (u v : View) → At views i u → At views j v → HoldsWord site.shape u n → HoldsWord site.shape v n → i ≡ j

-- A HELD WORD is one of the image, and of the first words the root alone: all others are as the restart left them
abbrev pub HeldWordsAreNear : Type 0
HeldWordsAreNear = (site : Ground) (words : Words) (views : List View) → Fits site words views → (j : ℕ) (v : View) (i : ℕ) → At views j v → HoldsWord site.shape v i
    → (i < words_of site.shape) × (i < block → i ≡ root_word)
