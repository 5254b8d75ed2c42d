-- What each command does, and why one stops before it is done.
use Rattle.std.specs.Prelude.{◌≡◌, ℕ, ◌+◌, ◌≤◌, ◌↔◌, Option, List, [], length, slice_index, string_bytes, IsTrue, Bool, true}
use Rattle.std.specs.List.Sorted.{IsStrictlyIncreasing}
use Rattle.outside.specs.Causes.{Rose}
use Rattle.outside.specs.Storing.{Holds}
use Rattle.image_layout.specs.Places.{Shape}
use Rattle.sound_image.specs.Segments.{frame_of, image_version, IsClean}
use Rattle.sound_image.specs.Image.{image_bytes}
use Rattle.image_file.specs.Formatted.{IsFormatted}
use Rattle.image_file.specs.Pairs.{live_slots, keys_of, ArePairs}
use Rattle.image_file.specs.declared.fault.ImageFault.{ImageFault}
use Rattle.image_file.specs.declared.summary.Summary.{Summary}
use Rattle.dash_top.specs.declared.work.Output.{Output}
use Rattle.dash_top.specs.declared.work.Output.TheVariants.{Nothing, Text, Lines}
use Rattle.dash_top.specs.declared.work.Refused.{Refused}
use Rattle.dash_top.specs.declared.work.Refused.TheVariants.{Words, Script, Image, Source, Store, NoMemory}
use Rattle.script_text.specs.declared.line.Mode.{Mode}
use Rattle.script_text.specs.Script.{most_script_bytes}
use Rattle.storm.specs.Storm.{IsStorm}
use Rattle.command_line.specs.declared.command.StormSize.{StormSize}
use Rattle.command_line.specs.Commands.{check_words, list_words, SaysFormat, SaysStorm, IsNoCommand, ReadsImage, RunsScript, ReadsSource}
use Rattle.reply_text.specs.declared.left.StormSum.{StormSum}
use Rattle.reply_text.specs.Texts.{check_text, list_text, storm_text}
use Rattle.dash_top.specs.Modes.{IsRunIn}
use Rattle.dash_top.specs.Bytes.{Bytes, KeepsStore, WritesOnce, LosesWrite, ReadsScript, ReadsGoodScript, RefusesScript, ReadsSound, ReadsSomeSound, RefusesImage}

-- WHAT IS DONE
-- the file of the image of an empty table of this shape stands in the store
pub record StoresNew (store_old store_new : Option (List ℕ)) (shape : Shape) : Type 0 where
  pub words : List ℕ
  pub formatted : IsFormatted shape words
  pub stores : Holds store_old store_new (image_bytes words)

-- the numbers are those of the image
pub record IsSummary (shape : Shape) (words : List ℕ) (s : Summary) : Type 0 where
  pub version : s.version ≡ image_version (frame_of shape (slice_index words))
  pub depth : s.depth ≡ (frame_of shape (slice_index words)).root
  pub live : s.live ≡ length (live_slots (frame_of shape (slice_index words)) shape.segments)
  pub pairs : (pairs : List (ℕ × ℕ)) × ArePairs shape (slice_index words) pairs × (s.pairs ≡ length pairs)
  pub clean : IsTrue s.clean ↔ IsClean (frame_of shape (slice_index words))

-- the text has the numbers of the sound image in the store
pub record Checks (store : Option (List ℕ)) (text : List ℕ) : Type 0 where
  pub shape : Shape
  pub words : List ℕ
  pub reads : ReadsSound store shape words
  pub summary : Summary
  pub is_summary : IsSummary shape words summary
  pub text_is : text ≡ check_text summary

-- the text has the pairs of the sound image in the store, by rising key, each key once
pub record ListsPairs (store : Option (List ℕ)) (text : List ℕ) : Type 0 where
  pub shape : Shape
  pub words : List ℕ
  pub reads : ReadsSound store shape words
  pub pairs : List (ℕ × ℕ)
  pub are_pairs : ArePairs shape (slice_index words) pairs
  pub rising : IsStrictlyIncreasing (keys_of pairs)
  pub text_is : text ≡ list_text pairs

-- the script and the image that were read, the text and what stands in the store now are those of a run in this mode, a session
pub record Runs (mode : Mode) (t : Bytes) (transcript : List ℕ) : Type 0 where
  pub script : List ℕ
  pub reads_script : ReadsScript t.source_old t.source_new script
  pub shape : Shape
  pub words : List ℕ
  pub reads : ReadsSound t.store_old shape words
  pub ending : List ℕ
  pub stores : Holds t.store_old t.store_new ending
  pub few : length script ≤ most_script_bytes
  pub run : IsRunIn mode (image_bytes words) script transcript ending

-- the text has the numbers of a storm of this size
pub record TellsStorm (size : StormSize) (text : List ℕ) : Type 0 where
  pub sum : StormSum
  pub storm : IsStorm size.seed size.sessions size.calls sum
  pub text_is : text ≡ storm_text sum

-- what the words ask for was done, with one write of the store or none, and this is to be written
pub data IsDone (t : Bytes) (words : List (List ℕ)) : List ℕ → Type 0 where
  by_format : {shape : Shape} → SaysFormat words shape → StoresNew t.store_old t.store_new shape → WritesOnce t → IsDone t words []
  by_check : {text : List ℕ} → words ≡ check_words → Checks t.store_old text → KeepsStore t → IsDone t words text
  by_list : {text : List ℕ} → words ≡ list_words → ListsPairs t.store_old text → KeepsStore t → IsDone t words text
  by_run : (mode : Mode) {transcript : List ℕ} → RunsScript words mode → Runs mode t transcript → WritesOnce t → IsDone t words transcript
  by_storm : {size : StormSize} {text : List ℕ} → SaysStorm words size → TellsStorm size text → KeepsStore t → IsDone t words text

-- THE ORDER: the image is read after the script, where there is one, was read to its end and found good
abbrev pub FindsScriptGood : Bytes → List (List ℕ) → Type 0
FindsScriptGood t words = (mode : Mode) → RunsScript words mode → ReadsGoodScript t.source_old t.source_new mode

-- WHY AN IMAGE IS REFUSED, by each command that reads it
pub record IsRefused (t : Bytes) (words : List (List ℕ)) (fault : ImageFault) : Type 0 where
  pub reads : ReadsImage words
  pub script : FindsScriptGood t words
  pub refused : RefusesImage t.store_old fault

-- WHERE THE STORE FAILED: in a read, and it is as it was; or in its one write, of a new image, or of the image that a
-- play or a serve left which had read script and image and found both good
pub data StoreFailed (t : Bytes) (words : List (List ℕ)) : Type 0 where
  in_reading : ReadsImage words → FindsScriptGood t words → KeepsStore t → StoreFailed t words
  in_formatting : {shape : Shape} → SaysFormat words shape → LosesWrite t → StoreFailed t words
  in_running : ReadsSource words → FindsScriptGood t words → ReadsSomeSound t.store_old → LosesWrite t → StoreFailed t words

-- WHY A COMMAND STOPS, by the counts of faults of the source and of the store
abbrev pub HasCause : Bytes → List (List ℕ) → ℕ → ℕ → ℕ → ℕ → Refused → Type 0
HasCause t words source_old source_new store_old store_new Words = IsNoCommand words × KeepsStore t
HasCause t words source_old source_new store_old store_new (Script fault) = ((mode : Mode) × RunsScript words mode × RefusesScript t.source_old t.source_new mode fault) × KeepsStore t
HasCause t words source_old source_new store_old store_new (Image fault) = IsRefused t words fault × KeepsStore t
HasCause t words source_old source_new store_old store_new Source = ReadsSource words × Rose source_old source_new × KeepsStore t
HasCause t words source_old source_new store_old store_new Store = Rose store_old store_new × StoreFailed t words
HasCause t words source_old source_new store_old store_new NoMemory = KeepsStore t

-- of a new image, by what the store tells, how often it was written and whether that failed: its one write failed, or memory was
-- wanting before it
abbrev pub HasFormatCause : Option (List ℕ) → Option (List ℕ) → ℕ → ℕ → Bool → ℕ → ℕ → Refused → Type 0
HasFormatCause store_old store_new writes_old writes_new lost faults_old faults_new Words = ⊥
HasFormatCause store_old store_new writes_old writes_new lost faults_old faults_new (Script fault) = ⊥
HasFormatCause store_old store_new writes_old writes_new lost faults_old faults_new (Image fault) = ⊥
HasFormatCause store_old store_new writes_old writes_new lost faults_old faults_new Source = ⊥
HasFormatCause store_old store_new writes_old writes_new lost faults_old faults_new Store = Rose faults_old faults_new × ((writes_new ≡ writes_old + 1) × (lost ≡ true))
HasFormatCause store_old store_new writes_old writes_new lost faults_old faults_new NoMemory = (store_new ≡ store_old) × (writes_new ≡ writes_old)

-- WHAT A COMMAND WRITES
abbrev pub output_bytes : Output → List ℕ
output_bytes Nothing = []
output_bytes (Text text) = string_bytes text
output_bytes (Lines bytes) = bytes.items
