-- One room more, for the calls of the caller at hand.
use Rattle.std.proofs.Common.{◌≡◌, ℕ, ◌+◌, ◌<◌, List, [], ◌∷◌, ◌++◌, length, get_or, map, drop, append_assoc, ap, sym, ◌∙◌, arith}
use Rattle.std.proofs.lemmas.List.{drop_more}
use Rattle.play.specs.declared.caller.Caller.{Caller as PlayCaller}
use Rattle.play.proofs.starting.rooms_for.Goals as goal

one_room_more : (callers : List PlayCaller) (i : ℕ) (r : PlayCaller) (rooms more : List ℕ) (n : ℕ) → i < length callers → r ≡ get_or callers i r
    → n ≡ length r.calls.items → more ≡ rooms ++ n ∷ []
    → rooms ++ map (λ (q : PlayCaller). length q.calls.items) (drop i callers) ≡ map (λ (q : PlayCaller). length q.calls.items) callers
    → more ++ map (λ (q : PlayCaller). length q.calls.items) (drop (i + 1) callers) ≡ map (λ (q : PlayCaller). length q.calls.items) callers
one_room_more callers i r rooms more n within read its_room items so_far =
    let rest : List ℕ = map (λ (q : PlayCaller). length q.calls.items) (drop (i + 1) callers) in
    ap (λ (ns : List ℕ). ns ++ rest) items
    ∙ append_assoc rooms (n ∷ []) rest
    ∙ ap (λ (m : ℕ). rooms ++ m ∷ rest) (its_room ∙ ap (λ (q : PlayCaller). length q.calls.items) read)
    ∙ ap (λ (qs : List PlayCaller). rooms ++ map (λ (q : PlayCaller). length q.calls.items) qs) (sym (drop_more callers i r within))
    ∙ so_far

pub loop-caller-preserved : goal.loop-caller-preserved
loop-caller-preserved c =
    let r : PlayCaller = c.caller-item.result in
    let is_len = r.calls.ok.0 in let said = c.len.ensures in
    one_room_more c.args.callers.now c.loop-caller.caller-index r c.loop-caller.rooms.items c.push.new.self.items c.len.result c.loop-caller-test.true c.caller-item.is
    (omega arith) c.in_ok-push.ensures.items c.loop-caller.invariant
