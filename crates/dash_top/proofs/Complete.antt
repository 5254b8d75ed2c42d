-- What is good is not refused: a good script has no fault, and a good image is taken.
use Rattle.std.proofs.Common.{◌≡◌, ℕ, ◌+◌, ◌≤◌, List, [], ◌∷◌, length, take, refl, sym, ◌∙◌, subst, arith, inl, inr, Option, None, Some, false}
use Rattle.std.proofs.lemmas.Grind.{common_steps}
use Rattle.std.specs.Prelude.{codes}
use Rattle.std.specs.Str.{bytes_eq}
use Rattle.std.proofs.lemmas.Slice.Eq.{bytes_eq-Decides}
use Rattle.std.specs.Io.KnownBytes.{Consumes}
use Rattle.std.proofs.lemmas.Bool.{both_ways}
use Rattle.outside.specs.Storing.{IsFront}
use Rattle.image_file.specs.declared.fault.ImageFault.{ImageFault}
use Rattle.image_layout.specs.Places.{Shape}
use Rattle.image_file.specs.Fault.{HasFault}
use Rattle.script_text.specs.declared.line.Mode.{Mode}
use Rattle.script_text.specs.declared.line.Mode.TheVariants.{Play, Serve}
use Rattle.script_text.specs.declared.fault.ScriptFault.{ScriptFault}
use Rattle.script_text.specs.Script.{IsScript}
use Rattle.script_text.proofs.Complete.{no_fault as no_script_fault}
use Rattle.image_file.proofs.Accepted.{no_fault}
use Rattle.command_line.specs.declared.command.StormSize.{StormSize}
use Rattle.command_line.specs.Commands.{SaysFormat, SaysStorm, LeavesStore, check_words, list_words, words_of_mode, IsNoCommand, ReadsImage, RunsScript, ReadsSource}
use Rattle.command_line.specs.Commands.ReadsImage.{for_check, for_list, for_run}
use Rattle.command_line.proofs.Forms.{differ, one_is_not_four, check_is_no_run, list_is_no_run, run_is_no_storm}
use Rattle.dash_top.specs.Bytes.{Bytes, ReadsGoodScript, RefusesImage, RefusesScript}
use Rattle.dash_top.specs.Top.{HasGoodImage, HasGoodScript, IsGoodCommand}
use Rattle.dash_top.specs.Top.IsGoodCommand.{good_format, good_check, good_list, good_run, good_storm}
use Rattle.dash_top.specs.Work.{Runs, IsDone, IsRefused}
use Rattle.dash_top.specs.Work.IsDone.{by_format, by_check, by_list, by_run, by_storm}
use Rattle.dash_top.proofs.Sizes.{file-le}
use Rattle.dash_top.proofs.Headlines.{consumed_all}

-- THE IMAGE
take_short : (n : ℕ) (xs : List ℕ) → length xs ≤ n → take (n + 1) xs ≡ xs
take_short n xs h = grind (arith, common_steps)

whole_front : (told : Option (List ℕ)) (limit : ℕ) (read held : List ℕ) → told ≡ Some held → IsFront told limit read → length held ≤ limit → read ≡ held
whole_front told limit read held e front le =
    let taken : read ≡ take (limit + 1) held = subst (λ (o : Option (List ℕ)). IsFront o limit read) e front in
    taken ∙ take_short limit held le

-- THE SCRIPT
taken_is_shorter : (now : Option (List ℕ)) (taken all : List ℕ) → Consumes (Some all) now taken → length taken ≤ length all
taken_is_shorter None taken all h = absurd h
taken_is_shorter (Some rest) taken all h = rw h (grind (arith, common_steps))

pub good_script_is_taken : (t : Bytes) (mode : Mode) (fault : ScriptFault) → RefusesScript t.source_old t.source_new mode fault → HasGoodScript t mode → ⊥
good_script_is_taken t mode fault refused good =
    let taken : Consumes (Some good.script) t.source_new refused.script =
    subst (λ (o : Option (List ℕ)). Consumes o t.source_new refused.script) good.source_tells refused.reads.taken in
    let shorter : length refused.script ≤ length good.script = taken_is_shorter t.source_new refused.script good.script taken in
    let short : length good.script ≤ 16777216 = good.good.short.few_bytes in
    let whole : good.script ≡ refused.script = consumed_all t.source_new refused.script good.script taken (refused.reads.to_its_end (omega arith)) in
    refused.not_memory (no_script_fault mode refused.script good.lines fault (subst (λ (x : List ℕ). IsScript mode x good.lines) whole good.good) refused.has_fault)

pub good_image_is_taken : (t : Bytes) (fault : ImageFault) → RefusesImage t.store_old fault → HasGoodImage t → ⊥
good_image_is_taken t fault refused good =
    let short : length good.start ≤ 282067200 = subst (λ (x : List ℕ). length x ≤ 282067200) (sym good.good.1.file) (file-le good.good.0 good.good.1.words good.good.1.sound) in
    let whole : refused.start ≡ good.start = whole_front t.store_old 282067200 refused.start good.start good.store_tells refused.reads short in
    refused.not_memory (no_fault good.start good.good fault (subst (λ (x : List ℕ). HasFault x fault) whole refused.has_fault))

-- THE WORDS
-- a run has one mode
same_mode : (words : List (List ℕ)) (mode other : Mode) → RunsScript words mode → RunsScript words other → mode ≡ other
same_mode words Play Play h k = refl
same_mode words Play Serve h k = absurd (differ words (codes "play") (codes "serve") refl h k)
same_mode words Serve Play h k = absurd (differ words (codes "serve") (codes "play") refl h k)
same_mode words Serve Serve h k = refl

-- who found the script of its mode good found it so
pub found_good : {source_old source_new : Option (List ℕ)} (mode : Mode) → ReadsGoodScript source_old source_new mode → (other : Mode) → RunsScript (words_of_mode mode) other
    → ReadsGoodScript source_old source_new other
found_good {source_old} {source_new} mode read other h =
    subst (λ (m : Mode). ReadsGoodScript source_old source_new m) (same_mode (words_of_mode mode) mode other refl h) read

run_is_no_format : (words : List (List ℕ)) (mode : Mode) {shape : Shape} → SaysFormat words shape → RunsScript words mode → ⊥
run_is_no_format words Play f h = one_is_not_four words _ _ f.segments f.depth f.kind h f.says
run_is_no_format words Serve f h = one_is_not_four words _ _ f.segments f.depth f.kind h f.says

pub image_of_good : (t : Bytes) (words : List (List ℕ)) → ReadsImage words → IsGoodCommand t words → HasGoodImage t
image_of_good t words (for_check h) (good_format f) = absurd (one_is_not_four words _ _ f.segments f.depth f.kind h f.says)
image_of_good t words (for_list h) (good_format f) = absurd (one_is_not_four words _ _ f.segments f.depth f.kind h f.says)
image_of_good t words (for_run mode h) (good_format f) = absurd (run_is_no_format words mode f h)
image_of_good t words (for_check h) (good_storm s) = absurd (one_is_not_four words _ _ s.seed s.sessions s.calls h s.says)
image_of_good t words (for_list h) (good_storm s) = absurd (one_is_not_four words _ _ s.seed s.sessions s.calls h s.says)
image_of_good t words (for_run mode h) (good_storm s) = absurd (run_is_no_storm words mode s h)
image_of_good t words reads (good_check k image) = image
image_of_good t words reads (good_list k image) = image
image_of_good t words reads (good_run mode k image script) = image

pub script_of_good : (t : Bytes) (words : List (List ℕ)) (mode : Mode) → RunsScript words mode → IsGoodCommand t words → HasGoodScript t mode
script_of_good t words mode h (good_format f) = absurd (run_is_no_format words mode f h)
script_of_good t words mode h (good_check k image) = absurd (check_is_no_run words k (mode, h))
script_of_good t words mode h (good_list k image) = absurd (list_is_no_run words k (mode, h))
script_of_good t words mode h (good_storm s) = absurd (run_is_no_storm words mode s h)
script_of_good t words mode h (good_run other k image script) = subst (λ (m : Mode). HasGoodScript t m) (same_mode words other mode k h) script

pub good_words : (t : Bytes) (words : List (List ℕ)) → IsNoCommand words → IsGoodCommand t words → ⊥
good_words t words none (good_format f) = none.no_format _ f
good_words t words none (good_check k image) = none.no_check k
good_words t words none (good_list k image) = none.no_list k
good_words t words none (good_run Play k image script) = none.no_play k
good_words t words none (good_run Serve k image script) = none.no_serve k
good_words t words none (good_storm s) = none.no_storm _ s

-- SO a good command meets no refusal
pub good_image : (t : Bytes) (words : List (List ℕ)) (fault : ImageFault) → IsRefused t words fault → IsGoodCommand t words → ⊥
good_image t words fault refused good = good_image_is_taken t fault refused.refused (image_of_good t words refused.reads good)

pub good_script : (t : Bytes) (words : List (List ℕ)) (mode : Mode) (fault : ScriptFault) → RunsScript words mode → RefusesScript t.source_old t.source_new mode fault → IsGoodCommand t words → ⊥
good_script t words mode fault reads refused good = good_script_is_taken t mode fault refused (script_of_good t words mode reads good)

-- what is done at the words of a run is one
pub run_of_done : (t : Bytes) (words : List (List ℕ)) (text : List ℕ) (mode : Mode) → RunsScript words mode → IsDone t words text → Runs mode t text
run_of_done t words text mode h (by_format f stores once) = absurd (run_is_no_format words mode f h)
run_of_done t words text mode h (by_check k checks keeps) = absurd (check_is_no_run words k (mode, h))
run_of_done t words text mode h (by_list k lists keeps) = absurd (list_is_no_run words k (mode, h))
run_of_done t words text mode h (by_storm s tells keeps) = absurd (run_is_no_storm words mode s h)
run_of_done t words text mode h (by_run other k runs once) = subst (λ (m : Mode). Runs m t text) (same_mode words other mode k h) runs
