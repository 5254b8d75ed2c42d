-- The words of the commands, each word as its bytes.
use Rattle.std.specs.Prelude.{◌≡◌, ◌≢◌, ◌≤◌, ◌⊎◌, ℕ, List, [], ◌∷◌, codes, Some}
use Rattle.image_layout.specs.Places.{Shape, IsShape}
use Rattle.script_text.specs.Readings.{number}
use Rattle.script_text.specs.declared.line.Mode.{Mode}
use Rattle.script_text.specs.declared.line.Mode.TheVariants.{Play as PlayMode, Serve as ServeMode}
use Rattle.storm.specs.Storm.{most_sessions, most_calls}
use Rattle.command_line.specs.declared.command.StormSize.{StormSize}
use Rattle.command_line.specs.declared.command.Command.{Command}
use Rattle.command_line.specs.declared.command.Command.TheVariants.{Format, Check, List as ListPairs, Play, Serve, Storm, Unknown}

abbrev pub check_words : List (List ℕ)
check_words = codes "check" ∷ []

abbrev pub list_words : List (List ℕ)
list_words = codes "list" ∷ []

abbrev pub play_words : List (List ℕ)
play_words = codes "play" ∷ []

abbrev pub serve_words : List (List ℕ)
serve_words = codes "serve" ∷ []

-- `format SEGMENTS DEPTH KIND`, with three numbers that are in their ranges
pub record SaysFormat (words : List (List ℕ)) (shape : Shape) : Type 0 where
  pub segments : List ℕ
  pub depth : List ℕ
  pub kind : List ℕ
  pub says : words ≡ codes "format" ∷ segments ∷ depth ∷ kind ∷ []
  pub segments_is : number segments ≡ Some shape.segments
  pub depth_is : number depth ≡ Some shape.depth
  pub kind_is : number kind ≡ Some shape.kind
  pub in_range : IsShape shape

-- a storm has 1 to 1000 sessions, and the script of each has 1 to 10000 calls of each caller
pub record IsStormSize (size : StormSize) : Type 0 where
  pub some_sessions : 1 ≤ size.sessions
  pub sessions : size.sessions ≤ most_sessions
  pub some_calls : 1 ≤ size.calls
  pub calls : size.calls ≤ most_calls

-- `storm SEED SESSIONS CALLS`, with three numbers that are in their ranges
pub record SaysStorm (words : List (List ℕ)) (size : StormSize) : Type 0 where
  pub seed : List ℕ
  pub sessions : List ℕ
  pub calls : List ℕ
  pub says : words ≡ codes "storm" ∷ seed ∷ sessions ∷ calls ∷ []
  pub seed_is : number seed ≡ Some size.seed
  pub sessions_is : number sessions ≡ Some size.sessions
  pub calls_is : number calls ≡ Some size.calls
  pub in_range : IsStormSize size

-- none of the forms
pub record IsNoCommand (words : List (List ℕ)) : Type 0 where
  pub no_format : (shape : Shape) → SaysFormat words shape → ⊥
  pub no_check : words ≢ check_words
  pub no_list : words ≢ list_words
  pub no_play : words ≢ play_words
  pub no_serve : words ≢ serve_words
  pub no_storm : (size : StormSize) → SaysStorm words size → ⊥

abbrev pub IsCommand : List (List ℕ) → Command → Type 0
IsCommand words (Format geometry) = SaysFormat words geometry
IsCommand words Check = words ≡ check_words
IsCommand words ListPairs = words ≡ list_words
IsCommand words Play = words ≡ play_words
IsCommand words Serve = words ≡ serve_words
IsCommand words (Storm size) = SaysStorm words size
IsCommand words Unknown = IsNoCommand words

-- the commands that run a script on the image, by the mode in which they read the script
abbrev pub words_of_mode : Mode → List (List ℕ)
words_of_mode PlayMode = play_words
words_of_mode ServeMode = serve_words

abbrev pub RunsScript : List (List ℕ) → Mode → Type 0
RunsScript words mode = words ≡ words_of_mode mode

-- the commands that read the image
pub data ReadsImage (words : List (List ℕ)) : Type 0 where
  for_check : words ≡ check_words → ReadsImage words
  for_list : words ≡ list_words → ReadsImage words
  for_run : (mode : Mode) → RunsScript words mode → ReadsImage words

-- by whichever mode
abbrev pub ReadsSource : List (List ℕ) → Type 0
ReadsSource words = (mode : Mode) × RunsScript words mode

-- the commands that leave the store as it is
abbrev pub LeavesStore : List (List ℕ) → Type 0
LeavesStore words = (words ≡ check_words) ⊎ ((words ≡ list_words) ⊎ ((size : StormSize) × SaysStorm words size))
