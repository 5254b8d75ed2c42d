-- What machines cite that go on from one another with their locks: which replies are entered, what locks that are given back leave of
-- them, that nothing is loose where nothing is unsettled, that no segment is told stale then, and that a change speaks of its key.
use Rattle.std.proofs.Common.{◌≡◌, ℕ, suc, ◌≤◌, cond, true, false, Option, None, Some, List, [], ◌∷◌, ◌++◌, length, inl, inr, refl, sym, ap, ◌∙◌, subst, arith}
use Rattle.std.specs.Prelude.{◌==◌, ◌&&◌, if◌then◌else◌}
use Rattle.std.proofs.lemmas.Bool.{eq-eqb}
use Rattle.op_core.specs.declared.want.Ans.TheVariants.{Passed}
use Rattle.image_layout.specs.Places.{Shape}
use Rattle.map_model.specs.declared.call.Call.{Call}
use Rattle.map_model.specs.declared.change.Effect.{Effect}
use Rattle.map_model.specs.declared.change.Effect.TheVariants.{Insert, Update, Remove}
use Rattle.map_model.specs.declared.change.Change.{Change}
use Rattle.map_model.specs.declared.entry.Reply.{Reply}
use Rattle.map_model.specs.declared.entry.Reply.TheVariants as reply
use Rattle.map_model.specs.Map.{key_of, is_done}
use Rattle.map_model.specs.Changes.{doing, call_of}
use Rattle.bucket_words.specs.Core.{core_of}
use Rattle.world.specs.Facts.{Fact}
use Rattle.world.specs.declared.site.Site.{Site}
use Rattle.world.specs.Ground.{Ground}
use Rattle.world.specs.Views.{Move, Owed, View, Has}
use Rattle.world.specs.Wants.{answer_to}
use Rattle.world.specs.Kinds.{next_entry, with_reply, with_draw, with_store, of_other_keys, of_other_homes, view_after}
use Rattle.world.specs.Attempts.{HasNoMore, HasOneMore, EntersReply}
use Rattle.part.specs.Outcomes.{replied, need_split, finished, IsDone}
use Rattle.part.specs.Part.{LeavesKnown}
use Rattle.phase.specs.declared.role.Role.{Role}
use Rattle.phase.specs.declared.held.Held.{Held}
use Rattle.phase.specs.declared.ending.Ending.{Ending}
use Rattle.phase.specs.declared.ending.Ending.TheVariants as ending
use Rattle.phase.specs.Endings.{outcome_then, HasMadeThen}
use Rattle.phase.specs.Helds.{give_wanted_of}
use Rattle.phase.specs.Giving.{IsQuiet, give_kind_of, lock_left, give_left}
use Rattle.phase.specs.Knows.{HasNoneLoose}

-- ---- who gives back does not end since a segment is stale
pub ending_known : (site : Ground) (end : Ending) (facts : List Fact) → LeavesKnown site (Some (outcome_then end)) facts
ending_known site (ending.Replied answer place) facts = tt
ending_known site (ending.Again why) facts = tt

-- ---- a change speaks of its key
pub key_done : (key : ℕ) (d : Effect) → key_of (doing key d) ≡ key
key_done key (Insert value) = refl
key_done key (Update value) = refl
key_done key Remove = refl

pub key_called : (change : Change) → key_of (call_of change) ≡ change.key
key_called change = key_done change.key change.effect

-- ---- a reply that says that something changed is that one
pub done_is : (answer : Reply) → IsDone answer → answer ≡ reply.Done
done_is reply.Done d = refl
done_is answer d = absurd d

-- ---- while locks are given back the outcome is decided: that it is done, where the change is made, and never that it is finished or is to
-- be split
pub done_then : (end : Ending) → HasMadeThen end → (place : ℕ) × (Some (outcome_then end) ≡ Some (replied reply.Done place))
done_then (ending.Replied answer place) d = (place, ap (λ r. Some (replied r place)) (done_is answer d))
done_then (ending.Again why) d = absurd d

pub not_finished : (end : Ending) → Some (outcome_then end) ≡ Some finished → ⊥
not_finished (ending.Replied answer place) is = absurd (cc)
not_finished (ending.Again why) is = absurd (cc)

pub not_split : (end : Ending) (segment : ℕ) → Some (outcome_then end) ≡ Some (need_split segment) → ⊥
not_split (ending.Replied answer place) segment is = absurd (cc)
not_split (ending.Again why) segment is = absurd (cc)

-- ---- what is entered
module _ (call : Call) (before v : View) where
  -- nothing more
  pub none_more : (o : Option (Reply × ℕ)) (u : View) → o ≡ None → HasNoMore before v → u.own ≡ v.own → u.seen ≡ v.seen → EntersReply call o before u
  none_more o u none same own seen = subst (λ (r : Option (Reply × ℕ)). EntersReply call r before u) (sym none) (record { own = own ∙ same.own; seen = seen ∙ same.seen })

  -- a reply that changes nothing
  pub one_more : (r : Reply) (place : ℕ) → is_done r ≡ false → HasNoMore before v → HasOneMore call r place before (with_reply v (next_entry v call r place false))
  one_more r place plain same = record {
    own = ap (λ o. o ++ record { serial = suc (length o); call = call; reply = r; place = place; drew = false } ∷ []) same.own
        ∙ ap (λ d. before.own ++ next_entry before call r place d ∷ []) (sym plain);
    seen = ap (λ d. cond d (suc place) place) (sym plain);
  }

  -- the reply of a draw
  pub one_drawn : (place : ℕ) → HasNoMore before v → HasOneMore call reply.Done place before (with_draw call place v)
  one_drawn place same = record {
    own = ap (λ o. o ++ record { serial = suc (length o); call = call; reply = reply.Done; place = place; drew = true } ∷ []) same.own;
    seen = refl;
  }

  -- what was entered before, while locks are given back
  pub same_more : (o : Option (Reply × ℕ)) (u : View) → EntersReply call o before v → u.own ≡ v.own → u.seen ≡ v.seen → EntersReply call o before u
  same_more None u e own seen = record { own = own ∙ e.own; seen = seen ∙ e.seen }
  same_more (Some r) u e own seen = record { own = own ∙ e.own; seen = seen ∙ e.seen }

-- ---- locks that are given back
pub give_answer : (here : Site) (hash segment : ℕ) (next : Option (Role × ℕ)) (n : ℕ) → answer_to (give_wanted_of here hash segment next) n ≡ Passed
give_answer here hash segment (Some next) n = refl
give_answer here hash segment None n = refl

pub give_own : (shape : Shape) (here : Site) (hash segment : ℕ) (next : Option (Role × ℕ)) (n : ℕ) (v : View) → (view_after shape (give_kind_of here hash segment next) n v).own ≡ v.own
give_own shape here hash segment (Some next) n v = refl
give_own shape here hash segment None n v = refl

pub give_seen : (shape : Shape) (here : Site) (hash segment : ℕ) (next : Option (Role × ℕ)) (n : ℕ) (v : View) → (view_after shape (give_kind_of here hash segment next) n v).seen ≡ v.seen
give_seen shape here hash segment (Some next) n v = refl
give_seen shape here hash segment None n v = refl

lock_one : (o : Option ℕ) → lock_left o ≤ 1
lock_one (Some free) = omega arith
lock_one None = omega arith

pub give_few : (held : Held) → give_left held ≤ 6
give_few held =
    let a = lock_one held.home in
    let b = lock_one held.probing in
    let c = lock_one held.first in
    let d = lock_one held.second in
    let e = lock_one held.next in
    let f = lock_one held.previous in
    omega (arith, a, b, c, d, e, f)

-- ---- what is planned and owed
pub none_has : {X : Type 0} (xs : List X) (x : X) → xs ≡ [] → Has x xs → ⊥
none_has xs x none h = subst (λ zs. Has x zs) none h

pub one_has : (call x : Call) → Has x (call ∷ []) → x ≡ call
one_has call x h = elim h [ inl e ↦ e | inr n ↦ absurd n ]

-- what is planned of a key alone is drawn
pub own_drawn : (call : Call) → of_other_keys (key_of call) (call ∷ []) ≡ []
own_drawn call = ap (λ b. if b then [] else call ∷ []) (eq-eqb (key_of call) (key_of call) refl)

-- what is owed for a home alone is repaid
pub own_repaid : (o : Owed) → of_other_homes o (o ∷ []) ≡ []
own_repaid o =
    ap (λ t. if t && (o.home == o.home) then [] else o ∷ []) (eq-eqb o.segment o.segment refl)
    ∙ ap (λ t. if t then [] else o ∷ []) (eq-eqb o.home o.home refl)

-- ---- a store that keeps the core of its word leaves nothing loose
pub core_settled : (shape : Shape) (i m x : ℕ) (planned : List Call) (moving : List Move) (owed : List Owed) (v : View) → core_of shape i m ≡ core_of shape i x
    → HasNoneLoose v → HasNoneLoose (with_store shape i m x planned moving owed v)
core_settled shape i m x planned moving owed v core settled p loose = elim loose [
  | inl d ↦ settled p (inl (subst (λ (l : List (ℕ × ℕ)). Has p l) (ap (λ t. if t then v.dirty else (i, m) ∷ v.dirty) (eq-eqb (core_of shape i m) (core_of shape i x) core)) d))
  | inr f ↦ settled p (inr f)
]

-- ---- nothing is loose where nothing is unsettled
pub none_loose : (v : View) → IsQuiet v → HasNoneLoose v
none_loose v q p loose = elim loose [
  | inl d ↦ subst (λ (l : List (ℕ × ℕ)). Has p l) q.dirty d
  | inr f ↦ subst (λ (l : List (ℕ × ℕ)). Has p l) q.flushed f
]
