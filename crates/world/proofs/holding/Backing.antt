-- What those parts of the invariant rest on that say nothing of the structure, at a step of the view of a seat. So they are kept where the
-- structure stays, and where it moves.
use Rattle.std.proofs.Common.{◌≡◌, ℕ, List, Some, sym, ap, subst}
use Rattle.std.specs.Option.{unwrap_or}
use Rattle.hash_word.specs.Hash.{home_of}
use Rattle.trace.specs.Events.{Words}
use Rattle.image_layout.specs.Places.{bucket_at}
use Rattle.sound_image.specs.Records.{key_hash}
use Rattle.frame_facts.specs.Owners.{home_at}
use Rattle.world.specs.Ground.{Ground, IsGround}
use Rattle.world.specs.Views.{Glance, Answer, View, Has, HasLock}
use Rattle.world.specs.History.{Log, map_now}
use Rattle.world.specs.Parts.{Locks, Plans, History, Room, Powered, IsUnmoved, IsAnswer}
use Rattle.world.specs.Conditions.{IsNewest, StandsBeside, HoldsHome, IsMapNow}

pub record Backing (site : Ground) (words : Words) (views : List View) (j : ℕ) (v : View) : Type 0 where
  pub site_is : IsGround site
  pub log : Log
  pub locks : Locks site words views
  pub plans : Plans site words views log
  pub history : History site words views log
  pub room : Room site views log
  pub powered : Powered site words views
  -- where each noted word is unmoved the noted answer is right
  pub answered : (a : Answer) → v.answer ≡ Some a → ((note : Glance) → Has note v.notes → IsUnmoved words note) → IsAnswer site log v.seen a
  -- what the view knows of the newest words, of themselves beside them, and of the map
  pub newest : IsNewest site v words
  pub itself : StandsBeside site v words words
  pub map : IsMapNow site v words (map_now site.start log)

-- a home that is led to is where the key's is, so its lock is held
pub home_held : (site : Ground) (words : Words) (views : List View) (j : ℕ) (v : View) (h : Backing site words views j v) (s k : ℕ) → HoldsHome site v s k → HasLock v.held (home_at site.shape words k)
home_held site words views j v h s k o =
    subst (λ (z : ℕ). HasLock v.held z) (sym (ap (λ z. bucket_at site.shape (unwrap_or z 0) (home_of (key_hash site.shape k))) (o.0 words h.newest))) o.1
