-- What one play leaves is what the next reads: the bytes of an image say its words, and these its shape.
use Rattle.std.proofs.Common.{◌≡◌, ℕ, List, [], ◌∷◌, sym, ◌∙◌, subst}
use Rattle.image_layout.specs.Places.{Shape}
use Rattle.sound_image.specs.Image.{image_bytes, IsSoundImage, IsSoundFileOf}
use Rattle.image_file.proofs.RoundTrip.{same_words, same_shape}
use Rattle.session.specs.Session.{IsSession}
use Rattle.serve.specs.Played.{scripts_of}
use Rattle.serve.specs.Runs.{ending_of, CarriesOn, MapsCarryOn}
use Rattle.dash_top.specs.Played.{IsPlayed}
use Rattle.dash_top.specs.Chains.{PlaysLeaveSound, map_before, map_after, open_calls, PlaysShareMap}

-- ---- two sound images with one file
module _ (s t : Shape) (xs ys bytes : List ℕ) (one : IsSoundImage s xs) (other : IsSoundImage t ys) (first : bytes ≡ image_bytes xs) (second : bytes ≡ image_bytes ys) where
  one_file : xs ≡ ys
  one_file = same_words xs ys one.each_fits other.each_fits (sym first ∙ second)

  one_shape : s ≡ t
  one_shape = same_shape s t xs ys one_file one other

-- ---- one play
module _ (shape : Shape) (start script transcript ending : List ℕ) where
  leaves_sound : IsSoundFileOf shape start → IsPlayed start script transcript ending → IsSoundFileOf shape ending
  leaves_sound good played = record {
    words = played.last;
    sound = subst (λ s. IsSoundImage s played.last)
        (one_shape played.shape shape played.first good.words start played.start_sound good.sound played.start_is good.file) played.session.sound;
    file = played.ending_is;
  }

pub plays_leave_sound : PlaysLeaveSound
plays_leave_sound shape start [] good played = tt
plays_leave_sound shape start (play ∷ plays) good played =
    let left = leaves_sound shape start play.script play.transcript play.ending good played.0 in
    (left, plays_leave_sound shape play.ending plays left played.1)

-- ---- two in a row
module _ (maps : MapsCarryOn) (start script transcript between later printed ending : List ℕ) (before : IsPlayed start script transcript between)
    (next : IsPlayed between later printed ending) where
  abbrev Carries : Shape → List ℕ → Type 0
  Carries shape first = (session : IsSession shape first next.last (scripts_of next.lines) (ending_of next.lines) printed)
      → CarriesOn (map_after before) (open_calls before) session.opening

  carries_on : CarriesOn (map_after before) (open_calls before) (map_before next)
  carries_on =
      let here : Carries before.shape before.last = λ session.
      maps before.shape before.first before.last next.last (scripts_of before.lines) (scripts_of next.lines) (ending_of before.lines) (ending_of next.lines) transcript printed
      before.session session in
      let words : before.last ≡ next.first =
      one_file before.shape next.shape before.last next.first between before.session.sound next.start_sound before.ending_is next.start_is in
      let shapes : before.shape ≡ next.shape =
      one_shape before.shape next.shape before.last next.first between before.session.sound next.start_sound before.ending_is next.start_is in
      subst (λ shape. Carries shape next.first) shapes (subst (λ first. Carries before.shape first) words here) next.session

pub plays_share_map : MapsCarryOn → PlaysShareMap
plays_share_map maps start [] played = tt
plays_share_map maps start (only ∷ []) played = tt
plays_share_map maps start (play ∷ next ∷ plays) played = (
  carries_on maps start play.script play.transcript play.ending next.script next.transcript next.ending played.0 played.1.0,
  plays_share_map maps play.ending (next ∷ plays) played.1,
)
