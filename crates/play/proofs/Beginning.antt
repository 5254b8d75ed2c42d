-- Callers before the restart, and the run state that they begin.
use Rattle.std.proofs.Common.{◌≡◌, ℕ, suc, ◌+◌, List, [], ◌∷◌, ◌++◌, length, map, refl, ap, ◌∙◌, subst, arith}
use Rattle.image_layout.specs.Places.{Shape}
use Rattle.map_model.specs.declared.call.Call.{Call}
use Rattle.map_model.specs.Roomed.{Roomed, with_room}
use Rattle.core_run.specs.Engines.{Caller}
use Rattle.core_run.specs.State.{waiting, waiting_from}
use Rattle.core_run.specs.Run.{all_calls}
use Rattle.play.specs.declared.caller.Caller.{Caller as PlayCaller}
use Rattle.play.specs.Callers.{callers_of, calls_in, IsWaiting, AreWaiting, HasRoom, HaveRoom}

-- a caller more, behind the others
pub one_more_waits : (shape : Shape) (n : ℕ) (scripts : List (List Call)) (callers : List PlayCaller) (calls : List Call) (r : PlayCaller)
    → AreWaiting shape n scripts callers → IsWaiting shape (n + length scripts) calls r → AreWaiting shape n (scripts ++ calls ∷ []) (callers ++ r ∷ [])
one_more_waits shape n [] [] calls r all it =
    let here : n + 0 ≡ n = omega arith in (subst (λ (m : ℕ). IsWaiting shape m calls r) here it, tt)
one_more_waits shape n [] (q ∷ callers) calls r all it = absurd all
one_more_waits shape n (cs ∷ scripts) [] calls r all it = absurd all
one_more_waits shape n (cs ∷ scripts) (q ∷ callers) calls r all it =
    let here : n + suc (length scripts) ≡ suc n + length scripts = omega arith in
    (all.0, one_more_waits shape (suc n) scripts callers calls r all.1 (subst (λ (m : ℕ). IsWaiting shape m calls r) here it))

-- lists with room for their calls, and no entry yet
abbrev pub rooms_of : List PlayCaller → List Roomed
rooms_of callers = map with_room (map (λ r. length r.calls.items) callers)

pub they_wait : (shape : Shape) (n : ℕ) (scripts : List (List Call)) (callers : List PlayCaller) → AreWaiting shape n scripts callers
    → callers_of callers (rooms_of callers) ≡ waiting_from shape n scripts
they_wait shape n [] [] all = refl
they_wait shape n [] (q ∷ callers) all = absurd all
they_wait shape n (cs ∷ scripts) [] all = absurd all
they_wait shape n (cs ∷ scripts) (q ∷ callers) all =
    ap (λ (c : Caller). c ∷ callers_of callers (rooms_of callers)) all.0.caller
    ∙ ap (λ cs'. waiting shape n cs ∷ cs') (they_wait shape (suc n) scripts callers all.1)

pub they_have_room : (shape : Shape) (n : ℕ) (scripts : List (List Call)) (callers : List PlayCaller) → AreWaiting shape n scripts callers
    → HaveRoom callers (rooms_of callers)
they_have_room shape n [] [] all = tt
they_have_room shape n [] (q ∷ callers) all = absurd all
they_have_room shape n (cs ∷ scripts) [] all = absurd all
they_have_room shape n (cs ∷ scripts) (q ∷ callers) all =
    let room : HasRoom q (with_room (length q.calls.items)) = record { counted = all.0.ended; spare = omega arith } in
    (room, they_have_room shape (suc n) scripts callers all.1)

-- they have the calls of the scripts
pub their_calls : (shape : Shape) (n : ℕ) (scripts : List (List Call)) (callers : List PlayCaller) → AreWaiting shape n scripts callers
    → calls_in callers ≡ all_calls scripts
their_calls shape n [] [] all = refl
their_calls shape n [] (q ∷ callers) all = absurd all
their_calls shape n (cs ∷ scripts) [] all = absurd all
their_calls shape n (cs ∷ scripts) (q ∷ callers) all =
    let here : length q.calls.items ≡ length cs = ap (λ (c : Caller). length c.calls) all.0.caller in
    let others = their_calls shape (suc n) scripts callers all.1 in
    omega arith
