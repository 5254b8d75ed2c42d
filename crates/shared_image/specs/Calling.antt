-- A caller that makes calls on a shared image.
use Rattle.std.specs.Prelude.{◌≡◌, ◌≢◌, ℕ, ◌<◌, Bool, true, false, Option, []}
use Rattle.atomic_table.specs.declared.shared.Seat.{Seat}
use Rattle.map_model.specs.declared.call.Call.{Call}
use Rattle.world.specs.declared.site.Site.{Site}
use Rattle.world.specs.Ground.{Ground, version_of}
use Rattle.world.specs.Attempts.{HoldsOnly}
use Rattle.shared_call.specs.Engines.{Engine, begun, IsWordCall, HasNumber, most_of_attempt, calls}
use Rattle.shared_call.specs.declared.tries.Answer.{Answer}
use Rattle.shared_call.specs.declared.tries.Answer.TheVariants as answers
use Rattle.shared_call.specs.Tries.{Tells, HasTried}
use Rattle.vlock.specs.declared.knows.Watch.{Watch}
use Rattle.shared_image.specs.declared.image.SharedImage.{SharedImage}
use Rattle.shared_image.specs.Powered.{ground_in, IsOn, IsPassOf}

-- machines run on this image for a caller that has a number
pub record IsSiteOf (image : SharedImage) (site : Site) : Type 0 where
  pub shape : site.geometry ≡ (ground_in image).shape
  pub version : site.version ≡ version_of (ground_in image)
  pub number : HasNumber site

-- A CALLER of this image: the image is on, and so are its pass and its site; its last call is one of words
pub record IsCallerOf (image : SharedImage) (pass : Seat ℕ Watch) (site : Site) (call : Call) : Type 0 where
  pub on : IsOn image
  pub pass_of : IsPassOf image pass
  pub site_of : IsSiteOf image site
  pub words : IsWordCall call

-- a pass that rests: it stands for a caller, and holds and owes nothing
abbrev pub Rests : Seat ℕ Watch → Type 0
Rests pass = HoldsOnly [] pass.me.0.view × (0 < pass.me.0.view.callers)

-- it is told that the power is off
abbrev pub says_off : Answer → Bool
says_off answers.Off = true
says_off answer = false

-- what comes of a call by a caller whose power was off before: no event is taken, and the gate has as many passes left and has cut as often as before
abbrev pub IsOffStill : Watch → Option (Option ℕ) → ℕ → Answer → Watch → Option (Option ℕ) → ℕ → Type 0
IsOffStill p left before answer q now cuts = (answer ≡ answers.Off) × (q ≡ p) × (now ≡ left) × (cuts ≡ before)

-- THE FIRST TRY OF A CALL, where the power was off before, or not; the gate had cut so often before, and has cut so often now
abbrev pub HasCalled : Ground → Site → Call → Bool → Watch → Option (Option ℕ) → ℕ → Answer → Engine → Watch → Option (Option ℕ) → ℕ → Type 0
HasCalled site here call true p left before answer next q now cuts = IsOffStill p left before answer q now cuts
HasCalled site here call false p left before answer next q now cuts =
    HasTried site here call most_of_attempt (begun here call) p left answer next q now cuts × Tells site here call calls (begun here call) p answer next q × (answer ≢ answers.Left)

-- A TRY BEHIND IT
abbrev pub HasGoneOnTrying : Ground → Site → Call → ℕ → Bool → Engine → Watch → Option (Option ℕ) → ℕ → Answer → Engine → Watch → Option (Option ℕ) → ℕ → Type 0
HasGoneOnTrying site here call most true e p left before answer next q now cuts = IsOffStill p left before answer q now cuts
HasGoneOnTrying site here call most false e p left before answer next q now cuts = HasTried site here call most e p left answer next q now cuts
