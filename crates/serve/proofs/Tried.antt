-- Jobs whose calls were tried keep their calls, and are done where all were made.
use Rattle.std.proofs.Common.{◌≡◌, ℕ, suc, ◌<◌, List, [], ◌∷◌, length, refl, sym, ap, ◌∙◌, arith, map}
use Rattle.std.specs.Prelude.{All, slice_index_or}
use Rattle.map_model.specs.declared.call.Call.{Call}
use Rattle.map_model.specs.Roomed.{Roomed, with_room}
use Rattle.shared_image.specs.declared.image.SharedImage.{SharedImage}
use Rattle.serve.specs.declared.job.Job.{Job}
use Rattle.serve.specs.Jobs.{ServesJob, IsLeftJob}

abbrev AllServed : SharedImage → List Job → List Job → Type 0
AllServed image olds news = (i : ℕ) (d : Job) → i < length olds → ServesJob image (slice_index_or olds i d) (slice_index_or news i d)

pub left_all : (image : SharedImage) (olds news : List Job) → length news ≡ length olds → AllServed image olds news → All (IsLeftJob image) news
left_all image olds news long served k d low = (served k d (omega (arith, long, low))).1

pub calls_kept : (image : SharedImage) (olds news : List Job) → length news ≡ length olds → AllServed image olds news
    → map (λ (j : Job). j.calls.items) news ≡ map (λ (j : Job). j.calls.items) olds
calls_kept image [] [] long served = refl
calls_kept image [] (y ∷ news) long served = absurd (omega (arith, long))
calls_kept image (x ∷ olds) [] long served = absurd (omega (arith, long))
calls_kept image (x ∷ olds) (y ∷ news) long served =
    ap (λ (cs : List Call). cs ∷ map (λ (j : Job). j.calls.items) news) (ap (λ cs. cs.items) (served 0 x (omega arith)).0)
    ∙ ap (λ (css : List (List Call)). x.calls.items ∷ css) (calls_kept image olds news (omega (arith, long)) (λ i d low. served (suc i) d (omega (arith, low))))

abbrev rooms_of : List (List Call) → List Roomed
rooms_of css = map (λ (cs : List Call). with_room (length cs)) css

of_calls : (jobs : List Job) → map (λ (j : Job). with_room (length j.calls.items)) jobs ≡ rooms_of (map (λ (j : Job). j.calls.items) jobs)
of_calls [] = refl
of_calls (j ∷ jobs) = ap (λ (rs : List Roomed). with_room (length j.calls.items) ∷ rs) (of_calls jobs)

of_counts : (jobs : List Job) → map with_room (map (λ (j : Job). length j.calls.items) jobs) ≡ rooms_of (map (λ (j : Job). j.calls.items) jobs)
of_counts [] = refl
of_counts (j ∷ jobs) = ap (λ (rs : List Roomed). with_room (length j.calls.items) ∷ rs) (of_counts jobs)

-- the room that was made for them is room for their calls
pub rooms_fit : (image : SharedImage) (olds news : List Job) → length news ≡ length olds → AllServed image olds news
    → map with_room (map (λ (j : Job). length j.calls.items) olds) ≡ map (λ (j : Job). with_room (length j.calls.items)) news
rooms_fit image olds news long served = of_counts olds ∙ sym (ap rooms_of (calls_kept image olds news long served)) ∙ sym (of_calls news)
