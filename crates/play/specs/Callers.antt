-- What the callers and lists of a run state are to the callers of the core.
use Rattle.std.specs.Prelude.{◌≡◌, ℕ, suc, ◌+◌, ⊤, Option, None, Some, List, [], ◌∷◌, ◌++◌, length, slice_get, is_some, Bool, true, false, if◌then◌else◌}
use Rattle.map_model.specs.declared.entry.Entry.{Entry}
use Rattle.map_model.specs.Roomed.{Roomed}
use Rattle.core_run.specs.Engines.{Caller, engine_for, Engine, wanted}
use Rattle.map_model.specs.declared.call.Call.{Call}
use Rattle.image_layout.specs.Places.{Shape}
use Rattle.core_run.specs.State.{waiting}
use Rattle.play.specs.declared.caller.Caller.{Caller as PlayCaller}
use Rattle.play.specs.declared.caller.RunningCall.{RunningCall}

-- the caller of the core that a caller is, with the entries that it was told
abbrev pub caller_of : PlayCaller → List Entry → Caller
caller_of r told = record { site = r.site; calls = r.calls.items; entries = told; engine = r.engine; begun = r.begun; drew = r.drew }

-- the call of a caller and the event that its engine wants, where it has a call left
abbrev pub running_with : Option Call → Option Engine → Option RunningCall
running_with None engine = None
running_with (Some call) None = None
running_with (Some call) (Some e) = Some (record { call = call; want = wanted e })

abbrev pub running_by : PlayCaller → Option RunningCall
running_by r = running_with (slice_get r.calls.items r.ended) r.engine

-- a caller whose engine took an answer
abbrev pub taken_to : Engine → PlayCaller → PlayCaller
taken_to e r = record r { engine = Some e; begun = true }

-- some caller has a call left
abbrev pub calls_left : List PlayCaller → Bool
calls_left [] = false
calls_left (r ∷ callers) = if is_some (slice_get r.calls.items r.ended) then true else calls_left callers

-- a caller that begins, on an image of a version
abbrev pub awoken : ℕ → PlayCaller → PlayCaller
awoken version r = record r {
  site = record r.site { version = version };
  ended = 0;
  engine = engine_for (record r.site { version = version }) (slice_get r.calls.items 0);
  begun = false;
  drew = None;
}

-- a caller that waits for the end of the restart, with none of its calls begun
pub record IsWaiting (shape : Shape) (number : ℕ) (calls : List Call) (r : PlayCaller) : Type 0 where
  pub caller : caller_of r [] ≡ waiting shape number calls
  pub ended : r.ended ≡ 0

-- callers that do, numbered from this number on
abbrev pub AreWaiting : Shape → ℕ → List (List Call) → List PlayCaller → Type 0
AreWaiting shape number [] [] = ⊤
AreWaiting shape number [] (r ∷ callers) = ⊥
AreWaiting shape number (calls ∷ scripts) [] = ⊥
AreWaiting shape number (calls ∷ scripts) (r ∷ callers) = IsWaiting shape number calls r × AreWaiting shape (suc number) scripts callers

-- how many calls they have
abbrev pub calls_in : List PlayCaller → ℕ
calls_in [] = 0
calls_in (r ∷ callers) = length r.calls.items + calls_in callers

-- one entry more, where there is one
abbrev pub told_with : Option Entry → List Entry → List Entry
told_with None told = told
told_with (Some e) told = told ++ e ∷ []

abbrev pub counted_with : Option Entry → ℕ → ℕ
counted_with None n = n
counted_with (Some e) n = n + 1

-- callers with their lists, one by one
abbrev pub callers_of : List PlayCaller → List Roomed → List Caller
callers_of [] lists = []
callers_of (r ∷ callers) [] = []
callers_of (r ∷ callers) (k ∷ lists) = caller_of r k.entries ∷ callers_of callers lists

-- a caller counts its entries, and its list has room for those of its other calls
pub record HasRoom (r : PlayCaller) (k : Roomed) : Type 0 where
  pub counted : r.ended ≡ length k.entries
  pub spare : length k.entries + k.spare ≡ length r.calls.items

abbrev pub HaveRoom : List PlayCaller → List Roomed → Type 0
HaveRoom [] [] = ⊤
HaveRoom [] (k ∷ lists) = ⊥
HaveRoom (r ∷ callers) [] = ⊥
HaveRoom (r ∷ callers) (k ∷ lists) = HasRoom r k × HaveRoom callers lists
