-- A caller's calls, as one thread makes them.
use Rattle.std.specs.Prelude.{◌≡◌, ℕ, ◌<◌, ◌≤◌, true, Some, List, [], ◌∷◌, ◌++◌, length, map, vec_capacity, All}
use Rattle.std.specs.List.{AllZip}
use Rattle.atomic_table.specs.declared.shared.Seat.{Seat}
use Rattle.map_model.specs.declared.call.Call.{Call}
use Rattle.map_model.specs.declared.entry.Entry.{Entry}
use Rattle.map_model.specs.Roomed.{Roomed, with_room}
use Rattle.shared_image.specs.Engines.{IsWordCall}
use Rattle.shared_image.specs.Watch.{Watch}
use Rattle.world.specs.Attempts.{HoldsOnly}
use Rattle.shared_image.specs.declared.image.SharedImage.{SharedImage}
use Rattle.shared_image.specs.Powered.{IsPassOf}
use Rattle.shared_image.specs.Calling.{Rests}
use Rattle.shared_image.specs.Closed.{IsDone, callers_of, replies_in}
use Rattle.serve.specs.declared.job.Job.{Job}
use Rattle.serve.specs.Served.{AreMade}

-- a pass has replied to these calls in their order, with these entries and no others, since it knew this; and it holds and owes nothing
pub record HasMade (image : SharedImage) (calls : List Call) (p : Watch) (told : List Entry) (pass : Seat ℕ Watch) : Type 0 where
  pub pass_of : IsPassOf image pass
  pub entries : told ≡ pass.me.0.view.own
  pub made : AreMade calls told
  pub nothing : HoldsOnly [] pass.me.0.view
  pub callers : pass.me.0.view.callers ≡ p.view.callers
  pub past : pass.me.0.past ≡ p.past

-- A JOB IS READY: its pass stands for one caller, rests and has replied nothing, and there is room for the entries of its calls
pub record IsReadyJob (image : SharedImage) (job : Job) : Type 0 where
  pub token : Seat ℕ Watch
  pub is : job.pass ≡ Some token
  pub pass_of : IsPassOf image token
  pub rests : Rests token
  pub own : token.me.0.view.own ≡ []
  pub past : token.me.0.past ≡ []
  pub one : token.me.0.view.callers ≡ 1
  pub told : job.told.items ≡ []
  pub room : length job.calls.items ≤ vec_capacity job.told
  pub words : All IsWordCall job.calls.items
  pub number : 0 < job.number

-- A JOB IS DONE: each of its calls has its entry, and these are all replies of its pass, which holds and owes nothing
pub record IsDoneJob (image : SharedImage) (job : Job) : Type 0 where
  pub token : Seat ℕ Watch
  pub is : job.pass ≡ Some token
  pub pass_of : IsPassOf image token
  pub nothing : HoldsOnly [] token.me.0.view
  pub one : token.me.0.view.callers ≡ 1
  pub past : token.me.0.past ≡ []
  pub entries : job.told.items ≡ token.me.0.view.own
  pub made : AreMade job.calls.items job.told.items

-- what becomes of a job whose calls are made
abbrev pub ServesJob : SharedImage → Job → Job → Type 0
ServesJob image old new = (new.calls ≡ old.calls) × (new.all ≡ true → IsDoneJob image new)

-- a job whose calls were tried: where all were made, it is done
abbrev pub IsLeftJob : SharedImage → Job → Type 0
IsLeftJob image job = job.all ≡ true → IsDoneJob image job

-- ---- the lists of entries
-- lists with one among them
abbrev pub among : List Roomed → Roomed → List Roomed → List Roomed
among before one behind = before ++ one ∷ behind

-- a list that is full of these entries
abbrev pub full_of : List Entry → Roomed
full_of told = record { entries = told; spare = 0 }

-- the list at a place has no entry yet, and room for so many
abbrev pub HasRoomAt : List Roomed → ℕ → ℕ → Type 0
HasRoomAt lists at count = (before : List Roomed) × (behind : List Roomed) × (length before ≡ at) × (lists ≡ among before (with_room count) behind)

-- it is full of these entries now, and the others are as before
abbrev pub IsListed : List Roomed → ℕ → List Entry → List Roomed → Type 0
IsListed old at told new = (before behind : List Roomed) → length before ≡ at → old ≡ among before (with_room (length told)) behind → new ≡ among before (full_of told) behind

-- THE PASSES AND THE ENTRIES of all jobs, each of which is done
pub record AreCollected (image : SharedImage) (jobs : List Job) (passes : List (Seat ℕ Watch)) (lists : List Roomed) : Type 0 where
  pub done : All (IsDone image) passes
  pub callers : callers_of passes ≡ length jobs
  pub count : length passes ≡ length jobs
  pub replies : replies_in passes ≡ map (λ j. j.told.items) jobs
  pub listed : lists ≡ map (λ j. full_of j.told.items) jobs
  pub made : AllZip AreMade (map (λ j. j.calls.items) jobs) (map (λ j. j.told.items) jobs)
