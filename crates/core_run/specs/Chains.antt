-- Runs one after another, each on the words that the one before has left, by a close or by a power cut; and one map that goes through them all.
use Rattle.std.specs.Prelude.{◌≡◌, ℕ, ◌⊎◌, List, [], ◌∷◌, map, Contains, if◌then◌else◌}
use Rattle.std.specs.List.{AllByRecursion}
use Rattle.std.specs.FinMap.{get}
use Rattle.image_layout.specs.Places.{Shape}
use Rattle.map_model.specs.declared.call.Call.{Call}
use Rattle.map_model.specs.Map.{Map, key_of, reply_of, after}
use Rattle.map_model.specs.Weave.{weave}
use Rattle.map_model.specs.Legal.{replay}
use Rattle.sound_image.specs.Image.{IsSoundImage}
use Rattle.session.specs.Transcript.{transcript_of}
use Rattle.session.specs.Callers.{history_of, undrawn}
use Rattle.session.specs.Session.{SessionEnd, IsSession}
use Rattle.script_text.specs.declared.line.Line.{Line}
use Rattle.engine.specs.Core.{tolds_of}
use Rattle.engine.specs.Laws.{AreScripts}
use Rattle.core_run.specs.Running.{Setup}
use Rattle.core_run.specs.Sessions.{end_state, left_words, ending_of}

-- a script: the calls of callers 1, 2 and so on, and its lines, which may end with a power cut
pub record Script : Type 0 where
  pub calls : List (List Call)
  pub lines : List Line

module _ (shape : Shape) where
  -- what its run on an image with these words is set up with
  abbrev pub setup_of : List ℕ → Script → Setup
  setup_of first script = record { shape = shape; first = first; scripts = script.calls }

  -- the words that the run leaves, and what is printed
  abbrev pub left_by : List ℕ → Script → List ℕ
  left_by first script = left_words (setup_of first script) script.lines

  abbrev pub printed_by : List ℕ → Script → List ℕ
  printed_by first script = transcript_of (tolds_of (end_state (setup_of first script) script.lines).core)

  -- THE RUN IS A SESSION, from a sound image with these words to the one that it leaves
  pub record RunsAsSession (first : List ℕ) (script : Script) : Type 0 where
    pub sound : IsSoundImage shape first
    pub session : IsSession shape first (left_by first script) script.calls (ending_of script.lines) (printed_by first script)

  -- EACH RUN IS A SESSION, the first on an image with these words, and each other one on that which the one before has left; and the last leaves a
  -- sound image, if there is none the first is one
  abbrev pub AreSessions : List ℕ → List Script → Type 0
  AreSessions first [] = IsSoundImage shape first
  AreSessions first (script ∷ scripts) = RunsAsSession first script × AreSessions (left_by first script) scripts

-- so it is from any sound image on, with any scripts of up to 64 callers, of calls whose keys and values are words
abbrev pub SessionsCompose : Type 0
SessionsCompose = (shape : Shape) (first : List ℕ) (scripts : List Script) → IsSoundImage shape first
    → AllByRecursion (λ script. AreScripts script.calls) scripts → AreSessions shape first scripts

-- ---- from one session to the next
-- a map has at each key what another one has, or what that has there after one of these calls, which is on this key
abbrev pub CarriesOn : Map → List Call → Map → Type 0
CarriesOn m calls next = (k : ℕ) → (get next k ≡ get m k) ⊎ ((call : Call) × Contains calls call × (key_of call ≡ k) × (get next k ≡ get (after m call (reply_of m call)) k))

-- A SESSION BEGINS WITH THE MAP that the one before has left: that of its history, each call that a cut left open whole or absent, and after a close
-- there is none
abbrev pub MapsCarryOn : Type 0
MapsCarryOn = (shape : Shape) (first between last : List ℕ) (scripts later : List (List Call)) (ending end : SessionEnd) (transcript printed : List ℕ)
    → (before : IsSession shape first between scripts ending transcript) → (next : IsSession shape between last later end printed)
    → CarriesOn (replay before.opening (weave (map history_of before.tolds))) (if ending.closed then [] else undrawn scripts before.tolds) next.opening
