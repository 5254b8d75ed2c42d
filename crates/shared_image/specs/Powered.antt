-- An image that was powered on, and the passes of its threads.
use Rattle.std.specs.Prelude.{◌≡◌, ℕ, ◌<◌, length}
use Rattle.atomic_table.specs.declared.shared.Seat.{Seat}
use Rattle.image_layout.specs.Places.{state_word}
use Rattle.image_layout.specs.StateWord.{marker_in}
use Rattle.sound_image.specs.Image.{SaysShape}
use Rattle.world.specs.Ground.{Ground, version_of}
use Rattle.vlock.specs.declared.knows.Watch.{Watch}
use Rattle.vlock.specs.declared.table.Opening.{Opening}
use Rattle.vlock.specs.Ruling.{ground_of, IsIdle}
use Rattle.vlock.specs.Plays.{IsSeatOf, IsWhole}
use Rattle.shared_image.specs.declared.image.SharedImage.{SharedImage}
use Rattle.shared_image.specs.declared.image.Keeper.{Keeper}

-- what was fixed when the image was opened
abbrev pub opening : SharedImage → Opening
opening image = image.table.shared.key

-- its shape, the words of its structure as the restart left them, what each key had then, and how many callers there are
abbrev pub ground_in : SharedImage → Ground
ground_in image = ground_of (opening image)

-- a pass of this image
abbrev pub IsPassOf : SharedImage → Seat ℕ Watch → Type 0
IsPassOf image pass = IsSeatOf image.table.shared.table_id (opening image) pass

-- THE IMAGE IS ON: it is laid out as it was opened, the restart left its version, and its front says what it is and is not marked clean
pub record IsOn (image : SharedImage) : Type 0 where
  pub whole : IsWhole image.table.shared.table_id (opening image)
  pub laid_out : image.geometry ≡ (opening image).geometry
  pub version : image.started.version ≡ version_of (ground_in image)
  pub room : length image.room.items ≡ image.table.shared.table_id.words
  pub says : SaysShape (ground_in image).shape (ground_in image).front
  pub unmarked : marker_in ((ground_in image).front state_word) ≡ 0

-- what a keeper knows, which takes no event of its own: it stands for a caller, and is idle, so that it took in nobody yet
pub record KeepsStill (p : Watch) : Type 0 where
  pub stands : 0 < p.view.callers
  pub idle : IsIdle p

-- A KEEPER of this image
pub record IsKeeperOf (image : SharedImage) (keeper : Keeper) : Type 0 where
  pub seat : IsPassOf image keeper.seat
  pub still : KeepsStill keeper.seat.me.0

-- for how many callers it stands still, itself one of them
abbrev pub callers_left : Keeper → ℕ
callers_left keeper = keeper.seat.me.0.view.callers
