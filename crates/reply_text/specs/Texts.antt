-- What is written: the lines of `check`, `list` and `storm`, and the line of a refusal.
use Rattle.std.specs.Prelude.{ℕ, Bool, true, false, List, [], ◌∷◌, ◌++◌, codes}
use Rattle.std.specs.List.{flat_map}
use Rattle.std.specs.Fmt.{decimal}
use Rattle.script_text.specs.declared.fault.ScriptFault.{ScriptFault}
use Rattle.script_text.specs.declared.fault.ScriptFault.TheVariants.{Word, Number, Caller, Order, TooLong, NoMemory as NoMemoryForScript}
use Rattle.image_rules.specs.Breach.{number_of}
use Rattle.image_file.specs.declared.fault.ImageFault.{ImageFault}
use Rattle.image_file.specs.declared.fault.ImageFault.TheVariants.{Length, Magic, Format, Geometry, Unsound, NoMemory as NoMemoryForImage}
use Rattle.image_file.specs.declared.summary.Summary.{Summary}
use Rattle.reply_text.specs.declared.left.StormSum.{StormSum}

-- `sound V g LIVE PAIRS clean`, or `unclean` in place of `clean`
abbrev pub marker_text : Bool → List ℕ
marker_text true = codes "clean"
marker_text false = codes "unclean"

abbrev pub check_text : Summary → List ℕ
check_text s =
    codes "sound " ++ (decimal s.version ++ (codes " " ++ (decimal s.depth ++ (codes " " ++ (decimal s.live ++ (codes " " ++ (decimal s.pairs
    ++ (codes " " ++ (marker_text s.clean ++ 10 ∷ [])))))))))

-- one line `KEY VALUE` for each pair
abbrev pub pair_line : ℕ × ℕ → List ℕ
pair_line pair = decimal pair.0 ++ (codes " " ++ (decimal pair.1 ++ 10 ∷ []))

abbrev pub list_text : List (ℕ × ℕ) → List ℕ
list_text pairs = flat_map pair_line pairs

-- `fault script KIND line N`; want of memory is no fault of the script, and has no line
abbrev pub script_fault_text : ScriptFault → List ℕ
script_fault_text (Word n) = codes "fault script word line " ++ (decimal n ++ 10 ∷ [])
script_fault_text (Number n) = codes "fault script number line " ++ (decimal n ++ 10 ∷ [])
script_fault_text (Caller n) = codes "fault script caller line " ++ (decimal n ++ 10 ∷ [])
script_fault_text (Order n) = codes "fault script order line " ++ (decimal n ++ 10 ∷ [])
script_fault_text (TooLong n) = codes "fault script toolong line " ++ (decimal n ++ 10 ∷ [])
script_fault_text NoMemoryForScript = []

-- `fault image KIND`, or `fault image rule R word W`; want of memory is no fault of the image
abbrev pub image_fault_text : ImageFault → List ℕ
image_fault_text Length = codes "fault image length" ++ 10 ∷ []
image_fault_text Magic = codes "fault image magic" ++ 10 ∷ []
image_fault_text Format = codes "fault image format" ++ 10 ∷ []
image_fault_text Geometry = codes "fault image geometry" ++ 10 ∷ []
image_fault_text (Unsound rule word) = codes "fault image rule " ++ (decimal (number_of rule) ++ (codes " word " ++ (decimal word ++ 10 ∷ [])))
image_fault_text NoMemoryForImage = []

-- `storm SESSIONS REPLIES OPENS PAIRS V`
abbrev pub storm_text : StormSum → List ℕ
storm_text s =
    codes "storm " ++ (decimal s.sessions ++ (codes " " ++ (decimal s.replies ++ (codes " " ++ (decimal s.opens ++ (codes " " ++ (decimal s.pairs
    ++ (codes " " ++ (decimal s.version ++ 10 ∷ [])))))))))

abbrev pub usage_text : List ℕ
usage_text = codes "fault usage" ++ 10 ∷ []
