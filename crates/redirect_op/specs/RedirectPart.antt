-- The redirecting of entries as a part: with what it may begin, how it ends, and what it hands on.
use Rattle.std.specs.Prelude.{◌≡◌, ℕ, ◌≤◌, ⊤, true, false, None, Some}
use Rattle.op_core.specs.declared.want.Want.TheVariants as want
use Rattle.whole_segment.specs.Rounds.{most_lines}
use Rattle.map_model.specs.declared.call.Call.{Call}
use Rattle.world.specs.declared.site.Site.{Site}
use Rattle.world.specs.Ground.{Ground}
use Rattle.world.specs.Views.{View}
use Rattle.part.specs.Doings.{Doings}
use Rattle.part.specs.Part.{Part}
use Rattle.repair_op.specs.declared.guarded.Guarded.{Guarded}
use Rattle.repair_op.specs.Guarded.{KeepsGuarded, KeepsRedirected}
use Rattle.repair_op.specs.Remembers.{RemembersGuarded}
use Rattle.redirect_op.specs.declared.step.RedirectEnd.{RedirectEnd}
use Rattle.redirect_op.specs.declared.step.RedirectStep.{RedirectStep}
use Rattle.redirect_op.specs.declared.step.RedirectStep.TheVariants.{Guard}
use Rattle.redirect_op.specs.declared.op.RedirectOp.{RedirectOp}
use Rattle.redirect_op.specs.Steps.{begun, wanted, taken, end_of, is_redirected}
use Rattle.redirect_op.specs.Stands.{kind_at, SuitsStep}
use Rattle.redirect_op.specs.Ends.{outcome_of, outcome_at}
use Rattle.redirect_op.specs.Left.{left_of, events_in, most_events, waiting_of}

-- ---- what it remembers of what its attempt did
-- until it has tried the guard of the directory, what is remembered of a guarded segment: that its guard was taken, and that of the directory was not
abbrev pub RemembersAt : Ground → Guarded → Doings → RedirectStep → Type 0
RemembersAt site g did Guard = RemembersGuarded site g did
RemembersAt site g did step = ⊤

-- THE REDIRECTING OF ENTRIES AS A PART
abbrev pub redirect_part : Part RedirectOp
redirect_part = record {
  wanted = wanted;
  taken = taken;
  kind = λ op n. kind_at op op.step;
  Stands = λ site here call op v. SuitsStep site here call op op.step v;
  outcome = λ op. outcome_at op.step;
  Remembers = λ site op did. RemembersAt site op.guarded did op.step;
  HasWorked = λ site op did. ⊥;
  HasMade = λ op. ⊥;
  left = left_of;
  most_events = most_events;
  is_waiting = λ op. false;
  waiting = waiting_of;
  most_waiting = most_lines;
  hands_on = λ op. is_redirected op.step;
}

-- the segment that is repaired
abbrev pub segment_of : RedirectOp → ℕ
segment_of op = op.guarded.segment

-- ---- where it begins
-- with a guarded segment
abbrev pub BeginsAsPart : Type 0
BeginsAsPart = (site : Ground) (here : Site) (call : Call) (g : Guarded) (v : View) → KeepsGuarded site here call g v → redirect_part.Stands site here call (begun g) v

-- and nothing is decided
abbrev pub BeginsUndecided : Type 0
BeginsUndecided = (g : Guarded) → redirect_part.outcome (begun g) ≡ None

-- with no more events left than the shape of the image allows
abbrev pub BeginsWithinImage : Type 0
BeginsWithinImage = (g : Guarded) → left_of (begun g) ≤ events_in g.site.geometry

-- in an attempt that took the guard of the segment, and not that of the directory
abbrev pub BeginsRemembering : Type 0
BeginsRemembering = (site : Ground) (g : Guarded) (did : Doings) → RemembersGuarded site g did → redirect_part.Remembers site (begun g) did

-- ---- how it ends
-- WHERE IT HANDS ON no entry leads past the ready side
abbrev pub HandsOnRedirected : Type 0
HandsOnRedirected = (site : Ground) (here : Site) (call : Call) (op : RedirectOp) (v : View) → redirect_part.Stands site here call op v → redirect_part.hands_on op ≡ true
    → KeepsRedirected site here call op.guarded v

-- WHERE IT WANTS NOTHING MORE, the end that it tells is the outcome that was decided
abbrev pub EndsAsSaid : Type 0
EndsAsSaid = (site : Ground) (here : Site) (call : Call) (op : RedirectOp) (v : View) → redirect_part.Stands site here call op v → wanted op ≡ want.Done
    → (end : RedirectEnd) × (end_of op ≡ Some end) × (redirect_part.outcome op ≡ outcome_of end)
