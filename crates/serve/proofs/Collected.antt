-- The passes and the entries of jobs are collected one after another.
use Rattle.std.proofs.Common.{◌≡◌, ℕ, suc, ◌+◌, List, [], ◌∷◌, ◌++◌, length, Some, refl, sym, ap, ◌∙◌, subst, arith, map, append_assoc, append-nil, length-append}
use Rattle.std.specs.Prelude.{All}
use Rattle.std.specs.List.{AllZip}
use Rattle.std.proofs.lemmas.List.{map-append, length-map}
use Rattle.std.proofs.lemmas.List.Elements.{All-push}
use Rattle.atomic_table.specs.declared.shared.Seat.{Seat}
use Rattle.map_model.specs.declared.call.Call.{Call}
use Rattle.map_model.specs.declared.entry.Entry.{Entry}
use Rattle.map_model.specs.Roomed.{Roomed, with_room}
use Rattle.shared_image.specs.Watch.{Watch}
use Rattle.world.specs.Views.{View}
use Rattle.shared_image.specs.declared.image.SharedImage.{SharedImage}
use Rattle.shared_image.specs.Closed.{IsDone, callers_of, replies_in}
use Rattle.serve.specs.declared.job.Job.{Job}
use Rattle.serve.specs.Served.{AreMade}
use Rattle.serve.specs.Jobs.{IsDoneJob, IsListed, AreCollected, full_of, among}

-- some jobs are collected, and these are still to be
pub record IsCollecting (image : SharedImage) (jobs others : List Job) (passes : List (Seat ℕ Watch)) (lists : List Roomed) : Type 0 where
  pub done : All (IsDone image) passes
  pub callers : callers_of passes ≡ length jobs
  pub count : length passes ≡ length jobs
  pub replies : replies_in passes ≡ map (λ (j : Job). j.told.items) jobs
  pub listed : lists ≡ map (λ (j : Job). full_of j.told.items) jobs ++ map (λ (j : Job). with_room (length j.calls.items)) others
  pub made : AllZip AreMade (map (λ (j : Job). j.calls.items) jobs) (map (λ (j : Job). j.told.items) jobs)

pub starts : (image : SharedImage) (jobs : List Job) (passes : List (Seat ℕ Watch)) (lists : List Roomed) → passes ≡ [] → lists ≡ map (λ (j : Job). with_room (length j.calls.items)) jobs
    → IsCollecting image [] jobs passes lists
starts image jobs passes lists none is = subst (λ (ps : List (Seat ℕ Watch)). IsCollecting image [] jobs ps lists) (sym none)
    (record { done = λ k d low. absurd (omega (arith, low)); callers = refl; count = refl; replies = refl; listed = is; made = tt })

callers_more : (xs : List (Seat ℕ Watch)) (x : Seat ℕ Watch) → callers_of (xs ++ x ∷ []) ≡ callers_of xs + x.me.0.view.callers
callers_more [] x = omega arith
callers_more (y ∷ xs) x = let r = callers_more xs x in omega (arith, r)

replies_more : (xs : List (Seat ℕ Watch)) (x : Seat ℕ Watch) → x.me.0.past ≡ [] → replies_in (xs ++ x ∷ []) ≡ replies_in xs ++ x.me.0.view.own ∷ []
replies_more [] x none = ap (λ (vs : List View). x.me.0.view.own ∷ (map (λ (v : View). v.own) vs ++ [])) none
replies_more (y ∷ xs) x none = ap (λ (rs : List (List Entry)). y.me.0.view.own ∷ (map (λ (v : View). v.own) y.me.0.past ++ rs)) (replies_more xs x none)
    ∙ ap (λ (rs : List (List Entry)). y.me.0.view.own ∷ rs) (sym (append_assoc (map (λ (v : View). v.own) y.me.0.past) (replies_in xs) (x.me.0.view.own ∷ [])))

zip_more : (xs : List (List Call)) (ys : List (List Entry)) (x : List Call) (y : List Entry) → AllZip AreMade xs ys → AreMade x y → AllZip AreMade (xs ++ x ∷ []) (ys ++ y ∷ [])
zip_more [] [] x y all m = (m, tt)
zip_more [] (b ∷ ys) x y all m = absurd all
zip_more (a ∷ xs) [] x y all m = absurd all
zip_more (a ∷ xs) (b ∷ ys) x y all m = (all.0, zip_more xs ys x y all.1 m)

pub goes_on : (image : SharedImage) (jobs others : List Job) (job : Job) (passes : List (Seat ℕ Watch)) (lists new : List Roomed) (pass : Seat ℕ Watch)
    → IsCollecting image jobs (job ∷ others) passes lists → IsDoneJob image job → job.pass ≡ Some pass
    → ((d : IsDoneJob image job) → d.token ≡ pass)
    → new ≡ among (map (λ (j : Job). full_of j.told.items) jobs) (full_of job.told.items) (map (λ (j : Job). with_room (length j.calls.items)) others)
    → IsCollecting image (jobs ++ job ∷ []) others (passes ++ pass ∷ []) new
goes_on image jobs others job passes lists new pass c d is same listed =
    let token = same d in
    let n = d.nothing in
    let own = d.entries ∙ ap (λ (s : Seat ℕ Watch). s.me.0.view.own) token in
    record {
      done = All-push (IsDone image) passes pass c.done (subst (λ (s : Seat ℕ Watch). IsDone image s) token (
        d.pass_of,
        record { held = n.held; dirty = n.dirty; flushed = n.flushed; planned = n.planned; moving = n.moving; owed = n.owed; areas = n.areas },
      ));
      callers = (let m = callers_more passes pass in let k = c.callers in let one = sym (ap (λ (s : Seat ℕ Watch). s.me.0.view.callers) token) ∙ d.one in let l = length-append jobs (job ∷ []) in omega (arith, m, k, one, l));
      count = (let k = c.count in let l = length-append jobs (job ∷ []) in let m = length-append passes (pass ∷ []) in omega (arith, k, l, m));
      replies = replies_more passes pass (sym (ap (λ (s : Seat ℕ Watch). s.me.0.past) token) ∙ d.past)
          ∙ ap (λ (rs : List (List Entry)). rs ++ pass.me.0.view.own ∷ []) c.replies
          ∙ ap (λ (es : List Entry). map (λ (j : Job). j.told.items) jobs ++ es ∷ []) (sym own)
          ∙ sym (map-append (λ (j : Job). j.told.items) jobs (job ∷ []));
      listed = listed
          ∙ sym (ap (λ (ls : List Roomed). ls ++ map (λ (j : Job). with_room (length j.calls.items)) others) (map-append (λ (j : Job). full_of j.told.items) jobs (job ∷ []))
          ∙ append_assoc (map (λ (j : Job). full_of j.told.items) jobs) (full_of job.told.items ∷ []) (map (λ (j : Job). with_room (length j.calls.items)) others));
      made = subst (λ (css : List (List Call)). AllZip AreMade css (map (λ (j : Job). j.told.items) (jobs ++ job ∷ []))) (sym (map-append (λ (j : Job). j.calls.items) jobs (job ∷ [])))
          (subst (λ (ess : List (List Entry)). AllZip AreMade (map (λ (j : Job). j.calls.items) jobs ++ job.calls.items ∷ []) ess) (sym (map-append (λ (j : Job). j.told.items) jobs (job ∷ [])))
          (zip_more (map (λ (j : Job). j.calls.items) jobs) (map (λ (j : Job). j.told.items) jobs) job.calls.items job.told.items c.made d.made));
    }

pub ends : (image : SharedImage) (jobs all others : List Job) (passes : List (Seat ℕ Watch)) (lists : List Roomed) → IsCollecting image jobs others passes lists → others ≡ [] → jobs ≡ all
    → AreCollected image all passes lists
ends image jobs all others passes lists c none is =
    subst (λ (js : List Job). AreCollected image js passes lists) is (record {
      done = c.done;
      callers = c.callers;
      count = c.count;
      replies = c.replies;
      listed = c.listed ∙ ap (λ (js : List Job). map (λ (j : Job). full_of j.told.items) jobs ++ map (λ (j : Job). with_room (length j.calls.items)) js) none ∙ append-nil (map (λ (j : Job). full_of j.told.items) jobs);
      made = c.made;
    })

-- a job among others is as all are
pub left_one : (P : Job → Type 0) (before behind : List Job) (job : Job) (all : List Job) → before ++ job ∷ behind ≡ all → All P all → P job
left_one P before behind job all is each = one before (subst (λ (js : List Job). All P js) (sym is) each)
  where
    one : (js : List Job) → All P (js ++ job ∷ behind) → P job
    one [] a = a 0 job (omega arith)
    one (j ∷ js) a = one js (λ k d low. a (suc k) d (omega (arith, low)))

-- the entries of a job are listed behind those of the jobs before it
pub listing : (image : SharedImage) (jobs others : List Job) (job : Job) (passes : List (Seat ℕ Watch)) (lists new : List Roomed) (told : List Entry) (at : ℕ)
    → IsCollecting image jobs (job ∷ others) passes lists → IsDoneJob image job → told ≡ job.told.items → at ≡ length passes → IsListed lists at told new
    → new ≡ among (map (λ (j : Job). full_of j.told.items) jobs) (full_of job.told.items) (map (λ (j : Job). with_room (length j.calls.items)) others)
listing image jobs others job passes lists new told at c d is place listed =
    let before : List Roomed = map (λ (j : Job). full_of j.told.items) jobs in
    let behind : List Roomed = map (λ (j : Job). with_room (length j.calls.items)) others in
    let long : length before ≡ at = length-map jobs (λ (j : Job). full_of j.told.items) ∙ sym c.count ∙ sym place in
    let as_many : length job.calls.items ≡ length told = sym (ap length d.made) ∙ length-map job.told.items (λ (e : Entry). e.call) ∙ ap length (sym is) in
    listed before behind long (c.listed ∙ ap (λ (n : ℕ). among before (with_room n) behind) as_many)
    ∙ ap (λ (es : List Entry). among before (full_of es) behind) is
