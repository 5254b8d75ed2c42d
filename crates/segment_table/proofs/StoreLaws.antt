-- The law of each store, over the words of an image.
use Rattle.std.proofs.Common.{ℕ, ◌+◌, ◌∙◌}
use Rattle.trace.specs.Events.{with_word}
use Rattle.sound_image.specs.Places.{Shape, IsShape, root_word, state_word, entry_at, head_at}
use Rattle.sound_image.specs.Segments.{ImageWords, Frame, frame_of}
use Rattle.segment_table.specs.Claims.{HasSoundFrame}
use Rattle.segment_table.specs.Stores.{TakesSlot, FreesSlot, Links, BeginsSplit, GoesLive, NamesClaimer, NamesSide, EndsSplit, DropsSplit, Renews, Opens}
use Rattle.segment_table.specs.Stores.{Doubles, IsFrameWord, StoreKeeps, StoreHandsOver}
use Rattle.segment_table.proofs.Words.{header_stored, link_stored, root_stored, status_stored, entry_stored, other_stored}
use Rattle.segment_table.proofs.stores.Slots.{takes_keeps, frees_keeps}
use Rattle.segment_table.proofs.stores.SameRegion.{begins_split_keeps, drops_split_keeps, renews_keeps}
use Rattle.segment_table.proofs.stores.Roots.{links_keeps, doubles_keeps, opens_keeps, untouched_keeps}
use Rattle.segment_table.proofs.stores.GoesLive.{hands_over}
use Rattle.segment_table.proofs.stores.Entries.{names_claimer_keeps, names_side_keeps}
use Rattle.segment_table.proofs.stores.EndsSplit.{ends_split_keeps}

module _ (shape : Shape) (word : ImageWords) (is_shape : IsShape shape) (sound : HasSoundFrame shape word) where
  abbrev frame : Frame
  frame = frame_of shape word

  abbrev after : ℕ → ℕ → Frame
  after i x = frame_of shape (with_word word i x)

  pub takes_slot : (n x : ℕ) → TakesSlot frame shape.depth n x → StoreKeeps shape word (head_at shape n + 1) x
  takes_slot n x may = takes_keeps shape.depth is_shape.depth frame (after (head_at shape n + 1) x) n x sound (header_stored shape word sound.root n x) may

  pub frees_slot : (n x : ℕ) → FreesSlot frame n x → StoreKeeps shape word (head_at shape n + 1) x
  frees_slot n x may = frees_keeps shape.depth is_shape.depth frame (after (head_at shape n + 1) x) n x sound (header_stored shape word sound.root n x) may

  pub links : (s l : ℕ) → Links frame s l → StoreKeeps shape word (head_at shape s + 2) l
  links s l may =
      let is = link_stored shape word sound.root s l in
      links_keeps shape.depth is_shape.depth frame (after (head_at shape s + 2) l) sound s l is.0 is.1 is.2 is.3 is.4 is.5 may

  pub begins_split : (s x : ℕ) → BeginsSplit frame s x → StoreKeeps shape word (head_at shape s + 1) x
  begins_split s x may =
      begins_split_keeps shape.depth is_shape.depth frame (after (head_at shape s + 1) x) s x sound (header_stored shape word sound.root s x) may

  pub doubles : Doubles shape word → StoreKeeps shape word root_word (word root_word + 1)
  doubles may =
      let is = root_stored shape word sound.root (word root_word + 1) in
      doubles_keeps shape.depth is_shape.depth frame (after root_word (word root_word + 1)) sound is.0 is.1 is.2 is.3 (λ i below. is.4 i ∙ may.filled i below) may.room

  pub goes_live : (s n x : ℕ) → GoesLive frame s n x → StoreHandsOver shape word s n (head_at shape n + 1) x
  goes_live s n x may = hands_over shape.depth is_shape.depth frame (after (head_at shape n + 1) x) s n x sound (header_stored shape word sound.root n x) may

  pub names_claimer : (i n : ℕ) → NamesClaimer frame i n → StoreKeeps shape word (entry_at (word root_word) i) n
  names_claimer i n may =
      names_claimer_keeps shape.depth is_shape.depth frame (after (entry_at (word root_word) i) n) i n sound (entry_stored shape word sound.root i n may.index) may

  pub ends_split : (s x : ℕ) → EndsSplit frame s x → StoreKeeps shape word (head_at shape s + 1) x
  ends_split s x may = ends_split_keeps shape.depth is_shape.depth frame (after (head_at shape s + 1) x) s x sound (header_stored shape word sound.root s x) may

  pub names_side : (s n i : ℕ) → NamesSide frame s n i → StoreKeeps shape word (entry_at (word root_word) i) n
  names_side s n i may =
      names_side_keeps shape.depth is_shape.depth frame (after (entry_at (word root_word) i) n) s i n sound (entry_stored shape word sound.root i n may.index) may

  pub drops_split : (s x : ℕ) → DropsSplit frame s x → StoreKeeps shape word (head_at shape s + 1) x
  drops_split s x may = drops_split_keeps shape.depth is_shape.depth frame (after (head_at shape s + 1) x) s x sound (header_stored shape word sound.root s x) may

  pub renews : (s x : ℕ) → Renews frame s x → StoreKeeps shape word (head_at shape s + 1) x
  renews s x may = renews_keeps shape.depth is_shape.depth frame (after (head_at shape s + 1) x) s x sound (header_stored shape word sound.root s x) may

  pub opens : (x : ℕ) → Opens frame x → StoreKeeps shape word state_word x
  opens x may =
      let is = status_stored shape word sound.root x in
      opens_keeps shape.depth is_shape.depth frame (after state_word x) sound x is.0 is.1 is.2 is.3 is.4 may

  pub stores_apart : (i x : ℕ) → (IsFrameWord shape word i → ⊥) → StoreKeeps shape word i x
  stores_apart i x apart = untouched_keeps shape.depth is_shape.depth frame (after i x) sound (other_stored shape word sound.root i x apart)
