-- What a session is: a script run from one image to another, with what it prints.
use Rattle.std.specs.Prelude.{◌≡◌, ◌≢◌, ℕ, ◌<◌, ⊤, Bool, true, false, List, length, map, slice_index, IsSome, Contains}
use Rattle.std.specs.List.{AllByRecursion, AllZip}
use Rattle.std.specs.List.Sorted.{IsStrictlyIncreasing}
use Rattle.std.specs.FinMap.{get}
use Rattle.map_model.specs.declared.call.Call.{Call}
use Rattle.map_model.specs.declared.entry.Reply.TheVariants.{Full, Deep, Spent}
use Rattle.map_model.specs.declared.entry.Entry.{Entry}
use Rattle.map_model.specs.Map.{Map, key_of}
use Rattle.map_model.specs.Weave.{all_of, draws, spent_count, weave}
use Rattle.map_model.specs.Legal.{IsLegal, replay}
use Rattle.map_model.specs.ByPlaces.{map_at}
use Rattle.hash_word.specs.Hash.{top}
use Rattle.sound_image.specs.Bucket.{lock_version, last_lock_version}
use Rattle.sound_image.specs.HeadWord.{free}
use Rattle.sound_image.specs.Places.{Shape, front_words, bucket_at, buckets, slots_of_key}
use Rattle.sound_image.specs.Segments.{frame_of, IsClean, IsLive, state_at}
use Rattle.sound_image.specs.Records.{key_hash}
use Rattle.sound_image.specs.Image.{IsSoundImage}
use Rattle.session.specs.Left.{HasPairsOf, IsLeft}
use Rattle.session.specs.Transcript.{Told, transcript_of}
use Rattle.session.specs.Callers.{FollowsScript, IsAnswered, history_of, undrawn}

-- how a session ended: by a close, or else by a power cut; and whether it was scheduled, as `play` is
pub record SessionEnd : Type 0 where
  pub closed : Bool
  pub scheduled : Bool

-- at least n keys of a map pass a test: there is a list of so many different ones
pub record HasAtLeast (n : ℕ) (Passes : ℕ → Type 0) (m : Map) : Type 0 where
  pub keys : List ℕ
  pub count : length keys ≡ n
  pub different : IsStrictlyIncreasing keys
  pub in_map : AllByRecursion (λ k. IsSome (get m k)) keys
  pub pass : AllByRecursion Passes keys

-- Full stands where the map has at least so many pairs; Deep where it has so many whose hashes have the same top
-- bits as the call's, so many bits as the image's greatest depth
pub record HadNoRoom (shape : Shape) (m : Map) (e : Entry) : Type 0 where
  pub full : e.reply ≡ Full → HasAtLeast slots_of_key (λ k. ⊤) m
  pub deep : e.reply ≡ Deep
      → HasAtLeast slots_of_key (λ k. top shape.depth (key_hash shape k) ≡ top shape.depth (key_hash shape (key_of e.call))) m

-- some bucket of a live segment has the last version
pub record HasSpentBucket (shape : Shape) (words : List ℕ) : Type 0 where
  pub s : ℕ
  pub b : ℕ
  pub slot : s < shape.segments
  pub bucket : b < buckets
  pub live : IsLive (frame_of shape (slice_index words)) s
  pub spent : lock_version (slice_index words (bucket_at shape s b)) ≡ last_lock_version

-- what a close leaves: every call of the script has its reply, the marker is set, and the pairs are the map's
pub record IsClosed (shape : Shape) (words : List ℕ) (scripts : List (List Call)) (tolds : List Told) (m : Map) : Type 0 where
  pub answered : AllZip IsAnswered scripts tolds
  pub clean : IsClean (frame_of shape (slice_index words))
  pub pairs : HasPairsOf shape (slice_index words) m

-- A session of a script: `scripts` are the calls of callers 1, 2, 3 and so on, `first` and `last` the words of the
-- image before and after it, and `transcript` is what it printed.
pub record IsSession (shape : Shape) (first last : List ℕ) (scripts : List (List Call)) (ending : SessionEnd) (transcript : List ℕ) : Type 0 where
  -- each line printed is a call of its caller's script, in order, with what became of it
  pub tolds : List Told
  pub printed : transcript ≡ transcript_of tolds
  pub scripted : AllZip FollowsScript scripts tolds
  -- woven by their places, the calls are one legal history of a plain map that starts with the image's pairs
  pub opening : Map
  pub opening_pairs : HasPairsOf shape (slice_index first) opening
  pub legal : IsLegal opening (map history_of tolds)
  -- the image that is left is sound and of the same shape, and holds that history's map, open calls whole or absent
  pub sound : IsSoundImage shape last
  pub same_shape : (i : ℕ) → i < front_words → slice_index last i ≡ slice_index first i
  pub after_close : ending.closed ≡ true → IsClosed shape last scripts tolds (replay opening (weave (map history_of tolds)))
  pub after_cut : ending.closed ≡ false → IsLeft shape (slice_index last) (replay opening (weave (map history_of tolds))) (undrawn scripts tolds)
  -- refusals had their causes
  pub had_no_room : AllByRecursion (λ e. HadNoRoom shape (map_at opening (all_of (map history_of tolds)) e.place) e) (all_of (map history_of tolds))
  pub none_free : (e : Entry) → Contains (all_of (map history_of tolds)) e → e.reply ≡ Full → (s : ℕ) → s < shape.segments
      → state_at (frame_of shape (slice_index first)) s ≡ free → state_at (frame_of shape (slice_index last)) s ≢ free
  pub spent : (e : Entry) → Contains (all_of (map history_of tolds)) e → e.reply ≡ Spent → draws (all_of (map history_of tolds)) < spent_count
      → (ending.scheduled ≡ true → ending.closed ≡ true) → HasSpentBucket shape last
