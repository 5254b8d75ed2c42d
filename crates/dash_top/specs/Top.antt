-- What the top call promises of a whole run.
use Rattle.std.specs.Prelude.{◌≡◌, ℕ, List, ◌++◌, Option, Some}
use Rattle.image_layout.specs.Places.{Shape}
use Rattle.script_text.specs.declared.line.Line.{Line}
use Rattle.script_text.specs.declared.line.Mode.{Mode}
use Rattle.script_text.specs.declared.fault.ScriptFault.{ScriptFault}
use Rattle.script_text.specs.Script.{IsScript}
use Rattle.image_file.specs.declared.fault.ImageFault.{ImageFault}
use Rattle.image_file.specs.Fault.{IsSoundFile}
use Rattle.command_line.specs.declared.command.StormSize.{StormSize}
use Rattle.command_line.specs.Commands.{check_words, list_words, SaysFormat, SaysStorm, IsNoCommand, RunsScript}
use Rattle.reply_text.specs.Texts.{usage_text, script_fault_text, image_fault_text}
use Rattle.dash_top.specs.Modes.{IsRunIn}
use Rattle.dash_top.specs.Bytes.{Bytes, KeepsStore, RefusesScript}
use Rattle.dash_top.specs.Work.{IsDone, IsRefused}

-- THE HEADLINE: wherever store, source and sink tell their bytes, the script is all that the source had left, and
-- the store's bytes, the script, the bytes that the sink took and the store's bytes now are those of its run, a session:
-- of a play (`IsPlayed`) or of a serve (`IsServed`)
abbrev pub Headline : Mode → Bytes → Option (List ℕ) → Option (List ℕ) → Type 0
Headline mode t sink_old sink_new =
    (start script before : List ℕ) → t.store_old ≡ Some start → t.source_old ≡ Some script → sink_old ≡ Some before
    → (transcript ending : List ℕ) × (sink_new ≡ Some (before ++ transcript)) × (t.store_new ≡ Some ending) × IsRunIn mode start script transcript ending

-- WHAT WAS TO BE WRITTEN: the text of each outcome that writes one; a refusal has left the store as it was
pub data IsText (t : Bytes) (words : List (List ℕ)) : List ℕ → Type 0 where
  of_done : {text : List ℕ} → IsDone t words text → IsText t words text
  of_bad_words : IsNoCommand words → KeepsStore t → IsText t words usage_text
  of_bad_script : (mode : Mode) {fault : ScriptFault} → RunsScript words mode → RefusesScript t.source_old t.source_new mode fault → KeepsStore t
      → IsText t words (script_fault_text fault)
  of_bad_image : {fault : ImageFault} → IsRefused t words fault → KeepsStore t → IsText t words (image_fault_text fault)

-- COMPLETE: a good command meets no refusal; so it is done, or memory was wanting
-- the store tells the file of a sound image
pub record HasGoodImage (t : Bytes) : Type 0 where
  pub start : List ℕ
  pub store_tells : t.store_old ≡ Some start
  pub good : IsSoundFile start

-- the source tells a script of the grammar of this mode
pub record HasGoodScript (t : Bytes) (mode : Mode) : Type 0 where
  pub script : List ℕ
  pub source_tells : t.source_old ≡ Some script
  pub lines : List Line
  pub good : IsScript mode script lines

pub data IsGoodCommand (t : Bytes) (words : List (List ℕ)) : Type 0 where
  good_format : {shape : Shape} → SaysFormat words shape → IsGoodCommand t words
  good_check : words ≡ check_words → HasGoodImage t → IsGoodCommand t words
  good_list : words ≡ list_words → HasGoodImage t → IsGoodCommand t words
  good_run : (mode : Mode) → RunsScript words mode → HasGoodImage t → HasGoodScript t mode → IsGoodCommand t words
  good_storm : {size : StormSize} → SaysStorm words size → IsGoodCommand t words
