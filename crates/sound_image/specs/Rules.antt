-- The seven rules of a sound image, each said of single words: a rule says something of the words that it names,
-- and nothing of others. So the word at which a rule is broken first is one word.
use Rattle.std.specs.Prelude.{◌≡◌, ◌≢◌, ℕ, ◌+◌, ◌<◌}
use Rattle.hash_word.specs.Hash.{finger_of}
use Rattle.image_layout.specs.Bucket.{mark_place, fingers_place, rest_place, lock_bit, member, finger}
use Rattle.segment_head.specs.HeadWord.{version_in, normal}
use Rattle.image_layout.specs.Places.{Shape, homes, buckets, root_word, state_word, entries_of, entry_at, header_word, link_word, bucket_at, key_at}
use Rattle.image_layout.specs.Standing.{StandsAt}
use Rattle.sound_image.specs.Segments.{ImageWords, Frame, frame_of, image_version, IsClean, state_at, IsLive, Owns}
use Rattle.sound_image.specs.Directory.{RootInRange, VersionInRange, HeadInRange, LinkInRange, HasOwners, SharesWell, EntryLeads, VersionIsPast}
use Rattle.sound_image.specs.Records.{word_in, slot_key, slot_value, slot_hash, HasRecord, HasOwnRecord, HasExactNotes}

-- the number of each rule, in the order in which they are looked at
abbrev pub numbers_rule : ℕ
numbers_rule = 1

abbrev pub owners_rule : ℕ
owners_rule = 2

abbrev pub entries_rule : ℕ
entries_rule = 3

abbrev pub records_rule : ℕ
records_rule = 4

abbrev pub values_rule : ℕ
values_rule = 5

abbrev pub versions_rule : ℕ
versions_rule = 6

abbrev pub repaired_rule : ℕ
repaired_rule = 7

module _ (shape : Shape) (word : ImageWords) where
  abbrev frame : Frame
  frame = frame_of shape word

  -- a record stands in its home bucket without the membership bit, in its probing bucket with it, or in the stash
  abbrev pub InItsBucket : ℕ → ℕ → ℕ → Type 0
  InItsBucket s b r = StandsAt shape b (slot_key shape word s b r) (member r (word_in shape word s b mark_place))

  pub record StandsRight (s b r : ℕ) : Type 0 where
    pub bucket : InItsBucket s b r
    pub fingerprint : finger r (word_in shape word s b fingers_place) (word_in shape word s b rest_place) ≡ finger_of (slot_hash shape word s b r)

  -- a record of the same key that stands before it in the segment has the same value
  abbrev pub SameValueAsBefore : ℕ → ℕ → ℕ → Type 0
  SameValueAsBefore s b r =
      (b' r' : ℕ) → HasRecord shape word s b' r' → key_at shape s b' r' < key_at shape s b r → slot_key shape word s b' r' ≡ slot_key shape word s b r
      → slot_value shape word s b' r' ≡ slot_value shape word s b r

  -- no record of the same key stands before it in the segment
  abbrev pub NotBefore : ℕ → ℕ → ℕ → Type 0
  NotBefore s b r =
      (b' r' : ℕ) → HasRecord shape word s b' r' → key_at shape s b' r' < key_at shape s b r → slot_key shape word s b' r' ≢ slot_key shape word s b r

  -- in a clean image, a live segment of the image's version
  pub record IsCleanAndCurrent (s : ℕ) : Type 0 where
    pub clean : IsClean frame
    pub slot : s < shape.segments
    pub live : IsLive frame s
    pub same_version : version_in (frame.header s) ≡ image_version frame

  -- the numbers of the image and of its headers are in their ranges
  pub record NumbersFit (w : ℕ) : Type 0 where
    pub root : w ≡ root_word → RootInRange frame shape.depth
    pub version_fits : w ≡ state_word → VersionInRange frame
    pub head : (s : ℕ) → s < shape.segments → w ≡ header_word shape s → HeadInRange frame shape.depth s
    pub side : (s : ℕ) → s < shape.segments → w ≡ link_word shape s → LinkInRange frame s

  -- each hash has one owner, beside segments that are splitting it off
  pub record HashesAreOwned (w : ℕ) : Type 0 where
    pub entry : (i : ℕ) → i < entries_of frame.root → w ≡ entry_at frame.root i → HasOwners frame i
    pub head : (s : ℕ) → s < shape.segments → w ≡ header_word shape s → IsLive frame s → SharesWell frame s

  -- the entries of the directory lead to the owners
  abbrev pub EntriesLead : ℕ → Type 0
  EntriesLead w = (i : ℕ) → i < entries_of frame.root → w ≡ entry_at frame.root i → EntryLeads frame i

  -- a record in its owner stands where it is looked for, with its fingerprint
  abbrev pub RecordsStandRight : ℕ → Type 0
  RecordsStandRight w = (s b r : ℕ) → HasOwnRecord shape word s b r → w ≡ key_at shape s b r → StandsRight s b r

  -- a key that stands twice in its owner has one value
  abbrev pub KeysHaveOneValue : ℕ → Type 0
  KeysHaveOneValue w = (s b r : ℕ) → HasOwnRecord shape word s b r → w ≡ key_at shape s b r → SameValueAsBefore s b r

  -- no version byte is above the image's version
  abbrev pub VersionsArePast : ℕ → Type 0
  VersionsArePast w = (s : ℕ) → s < shape.segments → w ≡ header_word shape s → VersionIsPast frame s

  -- in a clean image each live segment of the image's version is normal and unlocked, holds its own records alone
  -- and each key once, and has exact overflow notes
  pub record CleanMeansRepaired (w : ℕ) : Type 0 where
    pub head : (s : ℕ) → IsCleanAndCurrent s → w ≡ header_word shape s → state_at frame s ≡ normal
    pub lock : (s b : ℕ) → IsCleanAndCurrent s → b < buckets → w ≡ bucket_at shape s b → lock_bit (word w) ≡ 0
    pub own : (s b r : ℕ) → IsCleanAndCurrent s → HasRecord shape word s b r → w ≡ key_at shape s b r → Owns frame s (slot_hash shape word s b r)
    pub once : (s b r : ℕ) → IsCleanAndCurrent s → HasRecord shape word s b r → w ≡ key_at shape s b r → NotBefore s b r
    pub notes : (s b : ℕ) → IsCleanAndCurrent s → b < homes → w ≡ bucket_at shape s b + mark_place → HasExactNotes shape word s b

  -- the rules by their numbers
  pub record Rule (n w : ℕ) : Type 0 where
    pub one : n ≡ numbers_rule → NumbersFit w
    pub two : n ≡ owners_rule → HashesAreOwned w
    pub three : n ≡ entries_rule → EntriesLead w
    pub four : n ≡ records_rule → RecordsStandRight w
    pub five : n ≡ values_rule → KeysHaveOneValue w
    pub six : n ≡ versions_rule → VersionsArePast w
    pub seven : n ≡ repaired_rule → CleanMeansRepaired w

  -- each rule holds of each word
  abbrev pub FollowsRules : Type 0
  FollowsRules = (n w : ℕ) → Rule n w
