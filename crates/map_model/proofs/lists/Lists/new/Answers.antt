-- Room for one caller more.
use Rattle.std.proofs.Common.{◌≡◌, ℕ, ◌+◌, ◌-◌, ◌<◌, List, [], ◌∷◌, ◌++◌, map, take, length, get_or, ap, sym, ◌∙◌, arith, vec_len, vec_capacity, Vec, Global}
use Rattle.std.proofs.lemmas.List.{take_more, map-append}
use Rattle.map_model.specs.declared.entry.Entry.{Entry}
use Rattle.map_model.specs.Roomed.{with_room}
use Rattle.map_model.proofs.KeptViews.{kept_of, all_kept}
use Rattle.map_model.proofs.lists.Lists.new.Goals as goal

-- a vector that is new has the room that was asked for
new_kept : (list : Vec Entry Global) (n : ℕ) → list.items ≡ [] → vec_len list ≡ 0 → vec_capacity list ≡ n → kept_of list ≡ with_room n
new_kept list n items len capacity =
    let spare : vec_capacity list - vec_len list ≡ n = omega arith in
    λ j. record { entries = items j; spare = spare j }

one_more : (lists : List (Vec Entry Global)) (list : Vec Entry Global) (room : List ℕ) (i : ℕ) → i < length room → kept_of list ≡ with_room (get_or room i 0)
    → all_kept lists ≡ map with_room (take i room) → all_kept (lists ++ list ∷ []) ≡ map with_room (take (i + 1) room)
one_more lists list room i within kept before =
    map-append (λ list. kept_of list) lists (list ∷ [])
    ∙ ap (λ first. first ++ kept_of list ∷ []) before
    ∙ ap (λ last. map with_room (take i room) ++ last ∷ []) kept
    ∙ sym (map-append with_room (take i room) (get_or room i 0 ∷ []))
    ∙ ap (λ some. map with_room some) (sym (take_more room i 0 within))

pub loop-entries-preserved : goal.loop-entries-preserved
loop-entries-preserved c =
    let list = c.in_ok-with_capacity in
    ap all_kept c.in_ok-push.ensures.items
    ∙ one_more c.loop-entries.lists.items list.field-0 c.args.room.now c.loop-entries.entries-index c.loop-entries-test.true
    (new_kept list.field-0 (get_or c.args.room.now c.loop-entries.entries-index 0) list.ensures.items list.ensures.len list.ensures.exact)
    c.loop-entries.invariant
