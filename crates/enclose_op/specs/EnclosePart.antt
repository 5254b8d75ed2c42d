-- The enclosing as a part of a call: what may be enclosed, where it begins, what it hands on, and where there is room.
use Rattle.std.specs.Prelude.{◌≡◌, ◌≢◌, ℕ, ◌<◌, ◌^◌, ⊤, true, false, None, Some, List, []}
use Rattle.trace.specs.Events.{Words}
use Rattle.segment_head.specs.HeadWord.{version_in}
use Rattle.image_layout.specs.Places.{buckets}
use Rattle.sound_image.specs.Records.{key_hash}
use Rattle.op_core.specs.declared.want.Want.TheVariants.{Done}
use Rattle.map_model.specs.declared.call.Call.{Call}
use Rattle.map_model.specs.declared.change.Change.{Change}
use Rattle.map_model.specs.declared.entry.Reply.TheVariants.{Deep}
use Rattle.map_model.specs.Map.{key_of}
use Rattle.map_model.specs.Changes.{call_of}
use Rattle.map_model.specs.Legal.{IsInsert}
use Rattle.world.specs.declared.site.Site.{Site}
use Rattle.world.specs.Ground.{Ground, version_of}
use Rattle.world.specs.Views.{View, At}
use Rattle.world.specs.Wants.{words_after}
use Rattle.world.specs.Invariant.{Holds}
use Rattle.world.specs.areas.Areas.{header_word}
use Rattle.world.specs.Attempts.{HoldsOnly}
use Rattle.part.specs.Doings.{Doings}
use Rattle.part.specs.Outcomes.{Outcome, replied, finished}
use Rattle.part.specs.Room.{HasNoRoom}
use Rattle.part.specs.Part.{Part, Suits, finds, next}
use Rattle.phase.specs.Stands.{IsThere}
use Rattle.enclose_op.specs.declared.op.EncloseOp.{EncloseOp}
use Rattle.enclose_op.specs.Whole.{IsOf, KeepsWhole, RemembersWhole}
use Rattle.enclose_op.specs.Steps.{begun, wanted, taken, is_whole}
use Rattle.enclose_op.specs.Fits.{kind_at, outcome_at, left_at, most_events, HoldsPart, SuitsStep}
use Rattle.enclose_op.specs.Remembers.{RemembersAt}

pub record EnclosureStands (site : Ground) (here : Site) (call : Call) (op : EncloseOp) (v : View) : Type 0 where
  pub is : IsOf site here call op.enclosed
  pub view : SuitsStep site here call op.enclosed op.step v

-- THE ENCLOSING AS A PART
abbrev pub enclose_part : Part EncloseOp
enclose_part = record {
  wanted = wanted;
  taken = taken;
  kind = λ op n. kind_at op.enclosed op.step;
  Stands = EnclosureStands;
  outcome = λ op. outcome_at op.step;
  Remembers = λ site op did. RemembersAt site op.enclosed did op.step;
  HasWorked = λ site op did. ⊥;
  HasMade = λ op. ⊥;
  left = λ op. left_at op.step;
  most_events = most_events;
  is_waiting = λ op. false;
  waiting = λ op. 0;
  most_waiting = 0;
  hands_on = λ op. is_whole op.step;
}

-- the segment that it encloses
abbrev pub segment_of : EncloseOp → ℕ
segment_of op = op.enclosed.segment

-- ---- where it begins
-- with an insert of a key that is a word, by a caller that has a number, in an image of this version; its caller holds, knows and owes
-- nothing, and knows the segment to be live and current
abbrev pub BeginsAsPart : Type 0
BeginsAsPart = (site : Ground) (here : Site) (change : Change) (segment : ℕ) (v : View) → here.geometry ≡ site.shape → here.version ≡ version_of site → 0 < here.caller → here.caller < 2 ^ 64
    → IsInsert (call_of change) → change.key < 2 ^ 64 → HoldsOnly [] v → IsThere site segment v.facts → EnclosureStands site here (call_of change) (begun here change segment) v

-- and nothing is decided
abbrev pub BeginsUndecided : Type 0
BeginsUndecided = (here : Site) (change : Change) (segment : ℕ) → outcome_at (begun here change segment).step ≡ None

-- in an attempt that has changed no word so far
abbrev pub BeginsRemembering : Type 0
BeginsRemembering = (site : Ground) (here : Site) (change : Change) (segment : ℕ) (did : Doings) → did.changed ≡ [] → enclose_part.Remembers site (begun here change segment) did

-- WHERE IT HANDS ON the segment is kept whole
abbrev pub HandsOnWhole : Type 0
HandsOnWhole = (site : Ground) (here : Site) (call : Call) (op : EncloseOp) (v : View) → EnclosureStands site here call op v → is_whole op.step ≡ true → KeepsWhole site here call op.enclosed v

-- and what the attempt did is remembered of all of it
abbrev pub HandsOnRemembered : Type 0
HandsOnRemembered = (site : Ground) (op : EncloseOp) (did : Doings) → is_whole op.step ≡ true → enclose_part.Remembers site op did → RemembersWhole site op.enclosed did

-- ---- where there is room
-- WHERE IT SAYS THAT THERE MAY BE ROOM, the segment is not one of the image's version without room for the call's key, by the newest words
abbrev pub FindsRoom : Type 0
FindsRoom = (site : Ground) (here : Site) (call : Call) (words : Words) (views : List View) (j : ℕ) (op : EncloseOp) (before v : View)
    → Holds site words views → At views j v → Suits enclose_part site here call op before v → wanted op ≢ Done → finds enclose_part site words op < 2 ^ 64
    → outcome_at op.step ≡ None → outcome_at (next enclose_part site words op).step ≡ Some finished
    → version_in (words (header_word site.shape (segment_of op))) ≡ version_of site → HasNoRoom site.shape words (segment_of op) (key_hash site.shape (key_of call)) → ⊥

-- AND NO EVENT OF IT MAKES ROOM: it stores to no header and to no metadata word, so that a segment without room is so after it
abbrev pub KeepsRoom : Type 0
KeepsRoom = (site : Ground) (here : Site) (call : Call) (words : Words) (op : EncloseOp) (before v : View) → Suits enclose_part site here call op before v
    → (number s hash : ℕ) → s < site.shape.segments → HasNoRoom site.shape words s hash → HasNoRoom site.shape (words_after site.shape (wanted op) number words) s hash

-- ---- what is said of a segment that is held
-- that there may be room, and that it is as deep as the image allows
abbrev pub IsSaidOfHeld : Outcome → Type 0
IsSaidOfHeld finished = ⊤
IsSaidOfHeld (replied Deep place) = ⊤
IsSaidOfHeld outcome = ⊥

-- WHERE ONE OF THESE IS DECIDED the guard and all locks of the segment are held
abbrev pub SaysOfHeld : Type 0
SaysOfHeld = (site : Ground) (here : Site) (call : Call) (words : Words) (op : EncloseOp) (before v : View) → Suits enclose_part site here call op before v
    → outcome_at op.step ≡ None → (outcome : Outcome) → outcome_at (next enclose_part site words op).step ≡ Some outcome → IsSaidOfHeld outcome → HoldsPart site op.enclosed 0 buckets v
