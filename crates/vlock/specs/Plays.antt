-- What a step asks of its seat, and what it tells.
use Rattle.std.specs.Prelude.{◌≡◌, ℕ, ◌^◌, ◌<◌, List, [], ◌∷◌}
use Rattle.atomic_table.specs.Table.{Me}
use Rattle.atomic_table.specs.Seated.{TableId}
use Rattle.atomic_table.specs.declared.shared.Seat.{Seat}
use Rattle.trace.specs.Events.{Words}
use Rattle.image_layout.specs.Places.{Shape}
use Rattle.image_layout.specs.Volatile.{all_words_of}
use Rattle.op_core.specs.declared.want.Want.{Want}
use Rattle.op_core.specs.declared.want.Ans.{Ans}
use Rattle.world.specs.Ground.{Ground, IsGround}
use Rattle.world.specs.Views.{View, At}
use Rattle.world.specs.Wants.{word_of, answer_to}
use Rattle.world.specs.StepKinds.{StepKind, wanted_of, view_by, MayTake}
use Rattle.world.specs.Invariant.{Holds}
use Rattle.vlock.specs.declared.knows.Watch.{Watch}
use Rattle.vlock.specs.declared.table.Opening.{Opening}
use Rattle.vlock.specs.Ruling.{ground_of}

-- the table has all words of the image and those behind it, and no slot; and the image has a shape
pub record IsWhole (z : TableId) (key : Opening) : Type 0 where
  pub words : z.words ≡ all_words_of key.geometry
  pub slots : z.slots ≡ 0
  pub ground : IsGround (ground_of key)

-- the seat is one of this table, which is whole, and it holds no slot
abbrev pub IsSeatOf : TableId → Opening → Seat ℕ Watch → Type 0
IsSeatOf z key seat = (seat.table_id ≡ z) × IsWhole z key × (seat.me.1 ≡ [])

-- words and views that meet the invariant, with this view among them; that some table had them is not said
pub record Moment (site : Ground) (v : View) : Type 0 where
  pub words : Words
  pub views : List View
  pub seat : ℕ
  pub holds : Holds site words views
  pub there : At views seat v

-- at such a moment the word of the event had this value
abbrev pub Met : Ground → Want → View → ℕ → Type 0
Met site want v found = (m : Moment site v) × (found < 2 ^ 64) × (m.words (word_of site.shape want) ≡ found)

-- WHAT A STEP ASKS: its seat stands for a caller; and whatever the word is found to be, the event is that of its kind, which the view may take
abbrev pub MayDo : Ground → Want → (ℕ → StepKind) → View → Type 0
MayDo site want kind v = (0 < v.callers) × ((found : ℕ) → Met site want v found → (want ≡ wanted_of site.shape (kind found)) × MayTake site (kind found) v)

-- what becomes of what a seat knows
abbrev pub watched : Shape → Want → StepKind → ℕ → Watch → Watch
watched shape want kind found p = record {
  view = view_by shape kind found p.view;
  past = p.past;
  took = (want, found) ∷ p.took;
}

-- WHAT A STEP TELLS: what the seat knows after it, by the value that was found, and that the word had this value at a moment that met the invariant
abbrev pub Tells : Ground → Want → (ℕ → StepKind) → Watch → ℕ → Watch → Type 0
Tells site want kind p found q = (q ≡ watched site.shape want (kind found) found p) × Met site want p.view found

-- the same of a seat with its slots
abbrev pub Acted : Ground → Want → (ℕ → StepKind) → Me ℕ Watch → ℕ → Me ℕ Watch → Type 0
Acted site want kind m found n = (n ≡ (watched site.shape want (kind found) found m.0, m.1)) × Met site want m.0.view found

-- WHAT AN EVENT TELLS: the same, where the answer is that of the value found
abbrev pub Answers : Ground → Want → (ℕ → StepKind) → Watch → Ans → Watch → Type 0
Answers site want kind p ans q = (found : ℕ) × (ans ≡ answer_to want found) × Tells site want kind p found q
