-- What the store and the source tell before a call and after it, and what was read of them.
use Rattle.std.specs.Prelude.{◌≡◌, ◌≢◌, ℕ, ◌+◌, ◌*◌, ◌≤◌, Bool, true, false, List, length, Option}
use Rattle.std.specs.Io.KnownBytes.{Consumes, IsAtEnd}
use Rattle.outside.specs.Causes.{Rose}
use Rattle.outside.specs.Storing.{IsFront}
use Rattle.image_layout.specs.Places.{Shape, most_words}
use Rattle.sound_image.specs.Image.{word_bytes, image_bytes, IsSoundImage}
use Rattle.image_file.specs.Fault.{HasFault}
use Rattle.image_file.specs.declared.fault.ImageFault.{ImageFault}
use Rattle.image_file.specs.declared.fault.ImageFault.TheVariants.{NoMemory as NoMemoryForImage}
use Rattle.script_text.specs.declared.line.Mode.{Mode}
use Rattle.script_text.specs.declared.fault.ScriptFault.{ScriptFault}
use Rattle.script_text.specs.declared.fault.ScriptFault.TheVariants.{NoMemory as NoMemoryForScript}
use Rattle.script_text.specs.declared.line.Line.{Line}
use Rattle.script_text.specs.Script.{most_script_bytes, IsScript, HasFault as HasScriptFault}

-- the bytes of the store, how often it was written, whether its last write failed, and the bytes that the source has left
pub record Bytes : Type 0 where
  pub store_old : Option (List ℕ)
  pub store_new : Option (List ℕ)
  pub writes_old : ℕ
  pub writes_new : ℕ
  pub lost : Bool
  pub source_old : Option (List ℕ)
  pub source_new : Option (List ℕ)

abbrev pub bytes_told : Option (List ℕ) → Option (List ℕ) → ℕ → ℕ → Bool → Option (List ℕ) → Option (List ℕ) → Bytes
bytes_told store_old store_new writes_old writes_new lost source_old source_new = record {
  store_old = store_old;
  store_new = store_new;
  writes_old = writes_old;
  writes_new = writes_new;
  lost = lost;
  source_old = source_old;
  source_new = source_new;
}

-- the most bytes that an image can have
abbrev pub image_limit : ℕ
image_limit = word_bytes * most_words

-- the store is as it was, and was not written
pub record KeepsStore (t : Bytes) : Type 0 where
  pub same : t.store_new ≡ t.store_old
  pub unwritten : t.writes_new ≡ t.writes_old

-- the store was written once, and that did not fail
pub record WritesOnce (t : Bytes) : Type 0 where
  pub once : t.writes_new ≡ t.writes_old + 1
  pub kept : t.lost ≡ false

-- it was written once, and that failed
pub record LosesWrite (t : Bytes) : Type 0 where
  pub once : t.writes_new ≡ t.writes_old + 1
  pub failed : t.lost ≡ true

-- THE SCRIPT
-- a script was read: all that was left, or a byte more than may be
pub record ReadsScript (source_old source_new : Option (List ℕ)) (script : List ℕ) : Type 0 where
  pub taken : Consumes source_old source_new script
  pub to_its_end : length script ≤ most_script_bytes → IsAtEnd source_new
  pub no_more : length script ≤ most_script_bytes + 1

-- and it is one of the grammar of this mode
pub record ReadsGoodScript (source_old source_new : Option (List ℕ)) (mode : Mode) : Type 0 where
  pub script : List ℕ
  pub reads : ReadsScript source_old source_new script
  pub lines : List Line
  pub good : IsScript mode script lines

-- the script that was read has this fault, which is not want of memory
pub record RefusesScript (source_old source_new : Option (List ℕ)) (mode : Mode) (fault : ScriptFault) : Type 0 where
  pub script : List ℕ
  pub reads : ReadsScript source_old source_new script
  pub has_fault : HasScriptFault mode script fault
  pub not_memory : fault ≢ NoMemoryForScript

-- THE IMAGE
-- the file of a sound image was read, all that the store has
pub record ReadsSound (store : Option (List ℕ)) (shape : Shape) (words : List ℕ) : Type 0 where
  pub front : IsFront store image_limit (image_bytes words)
  pub all : length (image_bytes words) ≤ image_limit
  pub sound : IsSoundImage shape words

-- some such file was
pub record ReadsSomeSound (store : Option (List ℕ)) : Type 0 where
  pub shape : Shape
  pub words : List ℕ
  pub reads : ReadsSound store shape words

-- what was read, all of the store or a byte more than an image can have, has this fault, which is not want of memory
pub record RefusesImage (store : Option (List ℕ)) (fault : ImageFault) : Type 0 where
  pub start : List ℕ
  pub reads : IsFront store image_limit start
  pub has_fault : HasFault start fault
  pub not_memory : fault ≢ NoMemoryForImage

-- THE COUNTS of faults of the source, the sink and the store, before the call and after it
pub record Counts : Type 0 where
  pub source_old : ℕ
  pub source_new : ℕ
  pub sink_old : ℕ
  pub sink_new : ℕ
  pub store_old : ℕ
  pub store_new : ℕ

abbrev pub counts : ℕ → ℕ → ℕ → ℕ → ℕ → ℕ → Counts
counts source_old source_new sink_old sink_new store_old store_new =
    record { source_old = source_old; source_new = source_new; sink_old = sink_old; sink_new = sink_new; store_old = store_old; store_new = store_new }

-- no count rose
pub record NoneRose (n : Counts) : Type 0 where
  pub source : Rose n.source_old n.source_new → ⊥
  pub sink : Rose n.sink_old n.sink_new → ⊥
  pub store : Rose n.store_old n.store_new → ⊥
