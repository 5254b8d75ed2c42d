-- A turn of a caller that runs a part: what it leaves of the world, and of its caller's view.
use Rattle.std.specs.Prelude.{◌≡◌, ◌≢◌, ℕ, ◌^◌, ◌<◌, false, Option, Some, List, [], set, ◌⊎◌}
use Rattle.op_core.specs.declared.want.Want.TheVariants.{Done}
use Rattle.trace.specs.Events.{Words}
use Rattle.image_layout.specs.Volatile.{power_word}
use Rattle.map_model.specs.declared.call.Call.{Call}
use Rattle.map_model.specs.declared.entry.Reply.{Reply}
use Rattle.world.specs.Hits.{find}
use Rattle.world.specs.declared.site.Site.{Site}
use Rattle.world.specs.Ground.{Ground}
use Rattle.world.specs.Views.{View, At}
use Rattle.world.specs.Wants.{words_after}
use Rattle.world.specs.Invariant.{Holds}
use Rattle.world.specs.Attempts.{HoldsOnly, EntersReply}
use Rattle.part.specs.Outcomes.{off, reply_of}
use Rattle.part.specs.Part.{Part, Suits, finds, next, next_view}

-- AN ATTEMPT HAS ENDED: the caller holds and owes nothing, and has its reply, if there is one, as its next entry
pub record HasEnded (call : Call) (reply : Option (Reply × ℕ)) (before v : View) : Type 0 where
  pub nothing : HoldsOnly [] v
  pub callers : 0 < v.callers
  pub enters : EntersReply call reply before v

module _ {M : Type 0} (p : Part M) where
  -- the invariant holds after the event, and the view suits the machine; the event leaves what every key has, or makes the change;
  -- it leaves the power word; and where nothing more is wanted, no other part goes on, and the power was not found off, the attempt has
  -- ended
  pub record TurnIsWell (site : Ground) (here : Site) (call : Call) (words : Words) (views : List View) (j : ℕ) (op : M) (before v : View) : Type 0 where
    pub holds : Holds site (words_after site.shape (p.wanted op) j words) (set views j (next_view p site words op v))
    pub suits : Suits p site here call (next p site words op) before (next_view p site words op v)
    pub pairs : ((k : ℕ) → find site.shape (words_after site.shape (p.wanted op) j words) k ≡ find site.shape words k)
        ⊎ ((p.HasMade op → ⊥) × p.HasMade (next p site words op))
    pub power : words_after site.shape (p.wanted op) j words (power_word site.shape) ≡ words (power_word site.shape)
    pub ends : p.wanted (next p site words op) ≡ Done → p.hands_on (next p site words op) ≡ false → p.outcome (next p site words op) ≢ Some off
        → HasEnded call (reply_of (p.outcome (next p site words op))) before (next_view p site words op v)

  -- A TURN of the part, beside any other callers
  abbrev pub TurnKeeps : Type 0
  TurnKeeps = (site : Ground) (here : Site) (call : Call) (words : Words) (views : List View) (j : ℕ) (op : M) (before v : View) → Holds site words views → At views j v
      → Suits p site here call op before v → p.wanted op ≢ Done → finds p site words op < 2 ^ 64 → TurnIsWell site here call words views j op before v
