-- What the keeper knows that has taken in all passes.
use Rattle.std.proofs.Common.{◌≡◌, ℕ, suc, ◌+◌, ◌<◌, List, [], ◌∷◌, ◌++◌, refl, sym, ap, ◌∙◌, arith, append_assoc}
use Rattle.std.specs.Prelude.{map, All}
use Rattle.std.proofs.lemmas.List.{append-nil}
use Rattle.atomic_table.specs.declared.shared.Seat.{Seat}
use Rattle.map_model.specs.declared.entry.Entry.{Entry}
use Rattle.world.specs.Views.{View}
use Rattle.vlock.specs.declared.knows.Watch.{Watch}
use Rattle.world.specs.Attempts.{OwesNothing}
use Rattle.vlock.specs.Seats.{both}
use Rattle.shared_image.specs.declared.image.SharedImage.{SharedImage}
use Rattle.shared_image.specs.Closed.{IsDone, with_all, callers_of, replies_in, replies_of}

-- for how many callers it stands
pub callers_with : (p : Watch) (passes : List (Seat ℕ Watch)) → (with_all p passes).view.callers ≡ p.view.callers + callers_of passes
callers_with p [] = omega arith
callers_with p (pass ∷ passes) = let r = callers_with (both p pass.me.0) passes in omega (arith, r)

own_of : List View → List (List Entry)
own_of views = map (λ v. v.own) views

own_joined : (xs ys : List View) → own_of (xs ++ ys) ≡ own_of xs ++ own_of ys
unfolding own_of
own_joined [] ys = refl
own_joined (x ∷ xs) ys = ap (λ (zs : List (List Entry)). x.own ∷ zs) (own_joined xs ys)

own_stays : (p : Watch) (passes : List (Seat ℕ Watch)) → (with_all p passes).view.own ≡ p.view.own
own_stays p [] = refl
own_stays p (pass ∷ passes) = own_stays (both p pass.me.0) passes

-- the replies of those that it took in are theirs, in their order
past_with : (p : Watch) (passes : List (Seat ℕ Watch)) → own_of (with_all p passes).past ≡ own_of p.past ++ replies_in passes
unfolding own_of
past_with p [] = sym (append-nil (own_of p.past))
past_with p (pass ∷ passes) =
    past_with (both p pass.me.0) passes
    ∙ ap (λ (zs : List (List Entry)). zs ++ replies_in passes) (own_joined p.past (_ ∷ pass.me.0.past))
    ∙ append_assoc (own_of p.past) (pass.me.0.view.own ∷ own_of pass.me.0.past) (replies_in passes)

pub replies_with : (p : Watch) (passes : List (Seat ℕ Watch)) → p.view.own ≡ [] → p.past ≡ []
    → map (λ v. v.own) ((with_all p passes).view ∷ (with_all p passes).past) ≡ replies_of passes
unfolding own_of
replies_with p passes none nobody =
    ap (λ (zs : List (List Entry)). (with_all p passes).view.own ∷ zs) (past_with p passes ∙ ap (λ (vs : List View). own_of vs ++ replies_in passes) nobody)
    ∙ ap (λ (es : List Entry). es ∷ replies_in passes) (own_stays p passes ∙ none)

-- it owes nothing where none of them does
joined_nothing : {A : Type 0} (xs ys : List A) → xs ≡ [] → ys ≡ [] → xs ++ ys ≡ []
joined_nothing xs ys a b = ap (λ zs. zs ++ ys) a ∙ b

pub both_owe_nothing : (p q : Watch) → OwesNothing p.view → OwesNothing q.view → OwesNothing (both p q).view
both_owe_nothing p q a b = record {
  held = joined_nothing p.view.held q.view.held a.held b.held;
  dirty = joined_nothing p.view.dirty q.view.dirty a.dirty b.dirty;
  flushed = joined_nothing p.view.flushed q.view.flushed a.flushed b.flushed;
  planned = joined_nothing p.view.planned q.view.planned a.planned b.planned;
  moving = joined_nothing p.view.moving q.view.moving a.moving b.moving;
  owed = joined_nothing p.view.owed q.view.owed a.owed b.owed;
  areas = joined_nothing p.view.areas q.view.areas a.areas b.areas;
}

pub owes_nothing_with : (image : SharedImage) (p : Watch) (passes : List (Seat ℕ Watch)) → OwesNothing p.view → All (IsDone image) passes → OwesNothing (with_all p passes).view
owes_nothing_with image p [] nothing all = nothing
owes_nothing_with image p (pass ∷ passes) nothing all =
    owes_nothing_with image (both p pass.me.0) passes (both_owe_nothing p pass.me.0 nothing (all 0 pass (omega arith)).1) (λ k d low. all (suc k) d (omega (arith, low)))

-- ---- one after another
pub with_more : (p : Watch) (xs : List (Seat ℕ Watch)) (x : Seat ℕ Watch) → with_all p (xs ++ x ∷ []) ≡ both (with_all p xs) x.me.0
with_more p [] x = refl
with_more p (y ∷ xs) x = with_more (both p y.me.0) xs x

pub stands_with : (p : Watch) (xs : List (Seat ℕ Watch)) → 0 < p.view.callers → 0 < (with_all p xs).view.callers
stands_with p xs some = let c = callers_with p xs in omega (arith, c, some)
