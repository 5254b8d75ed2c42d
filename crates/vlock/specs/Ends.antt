-- How an image is opened, and what is known of it when all callers have ended, or where its power was cut.
use Rattle.std.specs.Prelude.{◌≡◌, ◌⊎◌, ℕ, suc, ◌<◌, ◌≤◌, List, [], length, map}
use Rattle.std.specs.FinMap.{get}
use Rattle.map_model.specs.declared.call.Call.{Call}
use Rattle.map_model.specs.declared.entry.Entry.{Entry}
use Rattle.map_model.specs.declared.entry.Reply.TheVariants.{Done, Full, Spent}
use Rattle.map_model.specs.Map.{Map, key_of}
use Rattle.map_model.specs.Weave.{spent_count, weave}
use Rattle.map_model.specs.Legal.{replay, IsLegal}
use Rattle.trace.specs.Events.{Words}
use Rattle.image_layout.specs.Places.{words_of}
use Rattle.image_layout.specs.Volatile.{all_words_of, free_guard}
use Rattle.bucket_words.specs.Standing.{IsTable}
use Rattle.world.specs.Claims.{HasSoundFrame}
use Rattle.world.specs.Hits.{find}
use Rattle.world.specs.Ground.{Ground, callers_bound, IsGround, IsStructured, IsCurrentIn, HasSpentLock}
use Rattle.world.specs.Views.{View, Has, At}
use Rattle.world.specs.History.{Log, map_now, reply_by}
use Rattle.world.specs.Media.{IsPossible}
use Rattle.world.specs.Parts.{History}
use Rattle.world.specs.StepLaws.{IsGoodMedium}
use Rattle.world.specs.areas.Beginning.{IsRepaired}
use Rattle.world.specs.areas.Kinds.{Guard, HasGuard, guard_word}
use Rattle.world.specs.areas.Worlds.{IsWell}
use Rattle.vlock.specs.declared.table.Opening.{Opening}
use Rattle.vlock.specs.Refused.{HasNoFreeSlot}
use Rattle.world.specs.Attempts.{OwesNothing}
use Rattle.vlock.specs.Ruling.{word, ground_of}

-- the words are those of an image as a restart leaves it: its structure is sound, it is a table, and each current segment is repaired; the
-- words behind it are 0
pub record IsOpened (key : Opening) : Type 0 where
  pub words : length key.words.value.items ≡ all_words_of key.geometry
  pub ground : IsGround (ground_of key)
  pub sound : HasSoundFrame key.geometry (word key.words.value.items)
  pub table : IsTable key.geometry (word key.words.value.items)
  pub behind : (i : ℕ) → words_of key.geometry ≤ i → i < all_words_of key.geometry → word key.words.value.items i ≡ 0
  pub repaired : (s : ℕ) → IsCurrentIn (ground_of key) (word key.words.value.items) s → IsRepaired (ground_of key) (word key.words.value.items) s

-- NOBODY IS LEFT: the views of all seats, some of which were taken in and some of which are idle, hold nothing and owe nothing; and with no event
-- of a device these words are a world of them that is well, as a close asks
pub record NobodyIsLeft (site : Ground) (words : Words) : Type 0 where
  pub views : List View
  pub well : IsWell site words (record { words = words; trace = []; views = views })
  pub nothing : (j : ℕ) (v : View) → At views j v → OwesNothing v

-- WHAT REFUSALS CAME FROM: where it was replied that a number is spent, 2 ^ 63 changes are drawn, or some lock word of a live segment is free with the last
-- version; and where it was replied that no slot is free, none is that was free at the start
pub record RefusalsHadCauses (site : Ground) (words : Words) (views : List View) (log : Log) : Type 0 where
  pub spent : (j : ℕ) (v : View) (e : Entry) → At views j v → Has e v.own → e.reply ≡ Spent → (spent_count ≤ length log) ⊎ HasSpentLock site.shape words
  pub full : (j : ℕ) (v : View) (e : Entry) → At views j v → Has e v.own → e.reply ≡ Full → HasNoFreeSlot site words

-- these views have one history, and the words are a table with a sound structure that has what the history leaves
pub record IsEnd (site : Ground) (words : Words) (views : List View) : Type 0 where
  pub log : Log
  pub history : History site words views log
  pub structure : IsStructured site words
  pub table : IsTable site.shape words
  pub pairs : (k : ℕ) → find site.shape words k ≡ map_now site.start log k
  -- and their replies are one legal history of a plain map, whose replay has what the table has
  pub legal : (start : Map) → ((k : ℕ) → get start k ≡ site.start k) → IsLegal start (map (λ v. v.own) views)
  pub replay_is : (start : Map) → ((k : ℕ) → get start k ≡ site.start k) → (k : ℕ) → get (replay start (weave (map (λ v. v.own) views))) k ≡ find site.shape words k
  -- no guard is taken, and each current segment is repaired, so that none of its locks is
  pub nobody : NobodyIsLeft site words
  pub guards : (guard : Guard) → HasGuard site.shape guard → words (guard_word site.shape guard) ≡ free_guard
  pub repaired : (s : ℕ) → IsCurrentIn site words s → IsRepaired site words s
  pub causes : RefusalsHadCauses site words views log

-- THE POWER WAS CUT, and callers stood anywhere: of these views, whose first is that of who took the others in, there is one history, and whatever the
-- cut may leave of these words is good over it
pub record IsPowerCut (site : Ground) (words : Words) (views : List View) : Type 0 where
  pub log : Log
  pub history : History site words views log
  pub media : (medium : Words) → IsPossible site words views medium → IsGoodMedium site views log medium
  -- and the words themselves may be left
  pub newest : IsPossible site words views words
  -- their replies are one legal history of a plain map, whose replay has what the history gives
  pub legal : (start : Map) → ((k : ℕ) → get start k ≡ site.start k) → IsLegal start (map (λ v. v.own) views)
  pub replay_is : (start : Map) → ((k : ℕ) → get start k ≡ site.start k) → (k : ℕ) → get (replay start (weave (map (λ v. v.own) views))) k ≡ map_now site.start log k
  -- a change that is stored and not drawn is still to be answered as done
  pub planned : (j : ℕ) (v : View) (call : Call) → At views j v → Has call v.planned → Done ≡ reply_by (map_now site.start log (key_of call)) call
  -- and the views that were taken in owe nothing: what may be left beside the words themselves is so by the first view alone
  pub taken_in : (j : ℕ) (v : View) → At views (suc j) v → OwesNothing v
  pub causes : RefusalsHadCauses site words views log

-- an opening of what was left: the words of the image, with 0 in those behind it, for callers that are few enough
pub record IsOfWhatWasLeft (site : Ground) (words : Words) (key : Opening) : Type 0 where
  pub geometry : key.geometry ≡ site.shape
  pub few : key.callers < callers_bound
  pub length_is : length key.words.value.items ≡ all_words_of key.geometry
  pub same : (i : ℕ) → i < words_of site.shape → word key.words.value.items i ≡ words i
  pub behind : (i : ℕ) → words_of key.geometry ≤ i → i < all_words_of key.geometry → word key.words.value.items i ≡ 0

-- WHAT WAS CLOSED MAY BE OPENED AGAIN
abbrev pub OpensAgain : Type 0
OpensAgain = (site : Ground) (words : Words) (views : List View) (key : Opening) → IsEnd site words views → IsOfWhatWasLeft site words key → IsOpened key
