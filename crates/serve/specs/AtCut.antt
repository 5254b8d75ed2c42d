-- What callers are told where the power of the image was cut, and where they stood.
use Rattle.std.specs.Prelude.{◌≡◌, ◌⊎◌, ℕ, suc, Bool, true, false, Option, None, Some, List, [], length, map, take, slice_get, slice_index}
use Rattle.std.specs.List.{AllByRecursion}
use Rattle.atomic_table.specs.declared.shared.Seat.{Seat}
use Rattle.map_model.specs.declared.call.Call.{Call}
use Rattle.map_model.specs.declared.entry.Entry.{Entry}
use Rattle.map_model.specs.declared.entry.Stop.{Stop}
use Rattle.map_model.specs.declared.entry.Reply.TheVariants.{Done}
use Rattle.map_model.specs.Map.{Map}
use Rattle.session.specs.Left.{HasPairsOf}
use Rattle.session.specs.Session.{IsSession}
use Rattle.session.specs.Transcript.{Told, transcript_of}
use Rattle.reply_text.specs.Told.{told_by}
use Rattle.shared_image.specs.Closed.{replies_of}
use Rattle.shared_image.specs.Cutting.{LeavesGoodMedia, WasCut}
use Rattle.shared_image.specs.Headway.{PlansCall, HasDrawn}
use Rattle.shared_image.specs.Watch.{Watch}
use Rattle.world.specs.Ground.{Ground}
use Rattle.world.specs.Views.{View}
use Rattle.serve.specs.Served.{AreMade, WasPoweredOn}

-- the entry of a call that drew this place, behind these of its caller
abbrev pub drawn_entry : List Entry → Call → ℕ → Entry
drawn_entry entries call place = record { serial = suc (length entries); call = call; reply = Done; place = place; drew = true }

-- where a caller stopped whose next call had begun, or not, and had drawn this place, if it had one
abbrev pub stop_at : List Entry → Call → Bool → Option ℕ → Stop
stop_at entries call begun None = record { begun = begun; drew = None }
stop_at entries call begun (Some place) = record { begun = begun; drew = Some (drawn_entry entries call place) }

-- a caller when the power was cut: the calls of its script, the entries that it was told, where it stopped, if it did, and its pass
pub record CallerAtCut : Type 0 where
  pub script : List Call
  pub entries : List Entry
  pub stop : Option Stop
  pub pass : Seat ℕ Watch

-- what it was told
abbrev pub told_of : CallerAtCut → Told
told_of c = told_by c.entries c.stop

-- IT HAD MADE ALL ITS CALLS: its pass has their entries, which it was told, and has planned nothing
pub record HadMadeAll (c : CallerAtCut) : Type 0 where
  pub stop : c.stop ≡ None
  pub own : c.pass.me.0.view.own ≡ c.entries
  pub made : AreMade c.script c.entries
  pub planned : c.pass.me.0.view.planned ≡ []

-- IT GAVE UP AT THE NEXT CALL of its script: before that its pass had the entries that it was told, and of that call its headway and its pass say what
-- `make` says
pub record GaveUpAtCall (c : CallerAtCut) : Type 0 where
  pub call : Call
  pub before : View
  pub begun : Bool
  pub drew : Option ℕ
  pub stop : c.stop ≡ Some (stop_at c.entries call begun drew)
  pub own : before.own ≡ c.entries
  pub made : map (λ e. e.call) c.entries ≡ take (length c.entries) c.script
  pub next : slice_get c.script (length c.entries) ≡ Some call
  -- it had planned nothing then, and a call of which no event was taken leaves the pass as it was
  pub rested : before.planned ≡ []
  pub idle : begun ≡ false → c.pass.me.0.view ≡ before
  pub drawn : HasDrawn call before drew c.pass.me.0.view
  pub planned : PlansCall call before c.pass.me.0.view

-- A CALLER STOOD SO when the power was cut: it had made all its calls, or gave up at one; and its pass took in no other
abbrev pub StoodAtCut : CallerAtCut → Type 0
StoodAtCut c = (HadMadeAll c ⊎ GaveUpAtCall c) × (c.pass.me.0.past ≡ [])

-- an image was restarted, shared and cut, with these passes of its callers, and these words were given
pub record WasSharedAndCut (site : Ground) (first : List ℕ) (passes : List (Seat ℕ Watch)) (last : List ℕ) : Type 0 where
  pub power_on : WasPoweredOn site first
  pub media : LeavesGoodMedia site passes last
  pub cut : WasCut site (replies_of passes) last

-- WHAT THE CALLERS WERE TOLD IS A SESSION that a power cut ended, and left these words
abbrev pub ServedCutIsSession : Type 0
ServedCutIsSession = (site : Ground) (first last : List ℕ) (callers : List CallerAtCut) → WasSharedAndCut site first (map (λ c. c.pass) callers) last → AllByRecursion StoodAtCut callers
    → (opening : Map) → HasPairsOf site.shape (slice_index first) opening
    → IsSession site.shape first last (map (λ c. c.script) callers) (record { closed = false; scheduled = false }) (transcript_of (map told_of callers))
