-- The callers of a run state one by one.
use Rattle.std.proofs.Common.{◌≡◌, ℕ, zero, suc, ◌+◌, ◌<◌, Option, None, Some, List, [], ◌∷◌, ◌++◌, length, map, length-append, refl, ap, sym, ◌∙◌, subst, arith}
use Rattle.std.specs.Prelude.{get_or, slice_get, slice_set}
use Rattle.std.proofs.lemmas.Option.{slice_get_within, get_or_from_slice_get}
use Rattle.map_model.specs.declared.call.Call.{Call}
use Rattle.map_model.specs.declared.entry.Entry.{Entry}
use Rattle.map_model.specs.Roomed.{Roomed, lists_of, one_more}
use Rattle.core_run.specs.State.{awake}
use Rattle.play.specs.declared.caller.Caller.{Caller as PlayCaller}
use Rattle.play.specs.Callers.{caller_of, callers_of, awoken, told_with, counted_with, HasRoom, HaveRoom}
use Rattle.play.specs.Deeds.{NoneTold, lists_with}

-- the caller at an index, with its list, is that of the core there
pub record IsListed (callers : List PlayCaller) (lists : List Roomed) (index : ℕ) (r : PlayCaller) : Type 0 where
  pub kept : Roomed
  pub its_list : slice_get lists index ≡ Some kept
  pub its_caller : slice_get (callers_of callers lists) index ≡ Some (caller_of r kept.entries)
  pub room : HasRoom r kept

pub listed_at : (callers : List PlayCaller) (lists : List Roomed) (index : ℕ) (r : PlayCaller) → HaveRoom callers lists → slice_get callers index ≡ Some r
    → IsListed callers lists index r
listed_at [] [] index r room is = absurd (cc)
listed_at [] (k ∷ lists) index r room is = absurd room
listed_at (q ∷ callers) [] index r room is = absurd room
listed_at (q ∷ callers) (k ∷ lists) zero r room is =
    let same : q ≡ r = cc in
    subst (λ (r' : PlayCaller). IsListed (q ∷ callers) (k ∷ lists) zero r') same (record { kept = k; its_list = refl; its_caller = refl; room = room.0 })
listed_at (q ∷ callers) (k ∷ lists) (suc index) r room is =
    let there = listed_at callers lists index r room.1 is in
    record { kept = there.kept; its_list = there.its_list; its_caller = there.its_caller; room = there.room }

-- what is read at an index is what is there
pub at_index : (callers : List PlayCaller) (index : ℕ) (r read : PlayCaller) → slice_get callers index ≡ Some r → read ≡ get_or callers index read → r ≡ read
at_index callers index r read is reads = sym (reads ∙ get_or_from_slice_get callers index r read is)

-- where there is none, the core has none
pub none_listed : (callers : List PlayCaller) (lists : List Roomed) (index : ℕ) → slice_get callers index ≡ None → slice_get (callers_of callers lists) index ≡ None
none_listed [] lists index is = refl
none_listed (q ∷ callers) [] index is = refl
none_listed (q ∷ callers) (k ∷ lists) zero is = absurd (cc)
none_listed (q ∷ callers) (k ∷ lists) (suc index) is = none_listed callers lists index is

pub callers_many : (callers : List PlayCaller) (lists : List Roomed) → HaveRoom callers lists → length (callers_of callers lists) ≡ length callers
callers_many [] [] room = refl
callers_many [] (k ∷ lists) room = refl
callers_many (q ∷ callers) [] room = absurd room
callers_many (q ∷ callers) (k ∷ lists) room = ap suc (callers_many callers lists room.1)

pub lists_many : (callers : List PlayCaller) (lists : List Roomed) → HaveRoom callers lists → length lists ≡ length callers
lists_many [] [] room = refl
lists_many [] (k ∷ lists) room = absurd room
lists_many (q ∷ callers) [] room = absurd room
lists_many (q ∷ callers) (k ∷ lists) room = ap suc (lists_many callers lists room.1)

-- the lists are those of the callers
pub entries_are : (callers : List PlayCaller) (lists : List Roomed) → HaveRoom callers lists → lists_of lists ≡ map (λ c. c.entries) (callers_of callers lists)
entries_are [] [] room = refl
entries_are [] (k ∷ lists) room = absurd room
entries_are (q ∷ callers) [] room = absurd room
entries_are (q ∷ callers) (k ∷ lists) room = ap (λ es. k.entries ∷ es) (entries_are callers lists room.1)

-- no caller was told anything: the callers that begin are those of the core that begin
pub awake_callers : (version : ℕ) (callers : List PlayCaller) (lists : List Roomed) → NoneTold lists → HaveRoom callers lists
    → callers_of (map (awoken version) callers) lists ≡ map (awake version) (callers_of callers lists)
awake_callers version [] lists none room = refl
awake_callers version (q ∷ callers) [] none room = refl
awake_callers version (q ∷ callers) (k ∷ lists) none room =
    ap (λ es. caller_of (awoken version q) es ∷ callers_of (map (awoken version) callers) lists) none.0
    ∙ ap (λ cs. awake version (caller_of q k.entries) ∷ cs) (awake_callers version callers lists none.1 room.1)

pub awake_room : (version : ℕ) (callers : List PlayCaller) (lists : List Roomed) → NoneTold lists → HaveRoom callers lists
    → HaveRoom (map (awoken version) callers) lists
awake_room version [] [] none room = room
awake_room version [] (k ∷ lists) none room = room
awake_room version (q ∷ callers) [] none room = room
awake_room version (q ∷ callers) (k ∷ lists) none room =
    (record { counted = sym (ap length none.0); spare = room.0.spare }, awake_room version callers lists none.1 room.1)

-- ---- an entry more
pub kept_with : Roomed → Option Entry → Roomed
kept_with k None = k
kept_with k (Some e) = one_more k e

-- the caller at an index and its list are replaced: so is that of the core
pub listed_set : (callers : List PlayCaller) (lists : List Roomed) (index : ℕ) (r new : PlayCaller) (entry : Option Entry) (k : Roomed) → HaveRoom callers lists
    → slice_get lists index ≡ Some k
    → callers_of (slice_set callers index new) (lists_with lists index entry)
    ≡ slice_set (callers_of callers lists) index (caller_of new (told_with entry k.entries))
listed_set [] [] index r new entry k room is = absurd (cc)
listed_set [] (l ∷ lists) index r new entry k room is = absurd room
listed_set (q ∷ callers) [] index r new entry k room is = absurd room
listed_set (q ∷ callers) (l ∷ lists) zero r new None k room is =
    let same : l ≡ k = cc in ap (λ (k' : Roomed). caller_of new k'.entries ∷ callers_of callers lists) same
listed_set (q ∷ callers) (l ∷ lists) zero r new (Some e) k room is =
    let same : l ≡ k = cc in ap (λ (k' : Roomed). caller_of new (k'.entries ++ e ∷ []) ∷ callers_of callers lists) same
listed_set (q ∷ callers) (l ∷ lists) (suc index) r new None k room is =
    ap (λ cs. caller_of q l.entries ∷ cs) (listed_set callers lists index r new None k room.1 is)
listed_set (q ∷ callers) (l ∷ lists) (suc index) r new (Some e) k room is =
    ap (λ cs. caller_of q l.entries ∷ cs) (listed_set callers lists index r new (Some e) k room.1 is)

-- the new caller counts the entry, and had room for it
pub has_room_more : (r new : PlayCaller) (entry : Option Entry) (k : Roomed) (call : Call) → HasRoom r k → new.ended ≡ counted_with entry r.ended
    → new.calls ≡ r.calls → slice_get r.calls.items r.ended ≡ Some call → HasRoom new (kept_with k entry)
unfolding kept_with
has_room_more r new None k call room count calls is =
    record { counted = count ∙ room.counted; spare = room.spare ∙ sym (ap (λ v. length v.items) calls) }
has_room_more r new (Some e) k call room count calls is =
    let within = slice_get_within r.calls.items r.ended call is in
    let same : length new.calls.items ≡ length r.calls.items = ap (λ v. length v.items) calls in
    let long : length (k.entries ++ e ∷ []) ≡ length k.entries + 1 = length-append k.entries (e ∷ []) in
    let counts = room.counted in
    let spares = room.spare in
    record { counted = omega arith; spare = omega arith }

pub room_set : (callers : List PlayCaller) (lists : List Roomed) (index : ℕ) (new : PlayCaller) (entry : Option Entry) (k : Roomed) → HaveRoom callers lists
    → slice_get lists index ≡ Some k → HasRoom new (kept_with k entry)
    → HaveRoom (slice_set callers index new) (lists_with lists index entry)
unfolding kept_with
room_set [] [] index new entry k room is has = absurd (cc)
room_set [] (l ∷ lists) index new entry k room is has = absurd room
room_set (q ∷ callers) [] index new entry k room is has = absurd room
room_set (q ∷ callers) (l ∷ lists) zero new None k room is has =
    let same : k ≡ l = cc in (subst (λ (k' : Roomed). HasRoom new k') same has, room.1)
room_set (q ∷ callers) (l ∷ lists) zero new (Some e) k room is has =
    let same : k ≡ l = cc in (subst (λ (k' : Roomed). HasRoom new (one_more k' e)) same has, room.1)
room_set (q ∷ callers) (l ∷ lists) (suc index) new None k room is has =
    (room.0, room_set callers lists index new None k room.1 is has)
room_set (q ∷ callers) (l ∷ lists) (suc index) new (Some e) k room is has =
    (room.0, room_set callers lists index new (Some e) k room.1 is has)

-- there is room for an entry where a call is left
pub room_left : (r : PlayCaller) (k : Roomed) (call : Call) → HasRoom r k → slice_get r.calls.items r.ended ≡ Some call → 0 < k.spare
room_left r k call room is =
    let within = slice_get_within r.calls.items r.ended call is in
    let counts = room.counted in
    let spares = room.spare in
    omega arith
