-- How the rule begins.
use Rattle.std.proofs.Common.{◌≡◌, inl, inr, ℕ, zero, suc, List, [], ◌∷◌, refl, sym, ap, ◌∙◌, subst, arith}
use Rattle.std.proofs.lemmas.Bool.{false≢true}
use mathlib.Core.Option.{some, some-injective, some-ne-none}
use lib.ListN.{get_elem?}
use Rattle.atomic_table.specs.Table.{opening}
use Rattle.world.specs.Views.{View, Has}
use Rattle.world.specs.World.{World, fresh_view}
use Rattle.world.specs.Invariant.{Holds}
use Rattle.world.proofs.moving.beginning.Begun.{restarts_begin}
use Rattle.vlock.specs.declared.knows.Watch.{Watch}
use Rattle.vlock.specs.declared.table.Opening.{Opening}
use Rattle.vlock.specs.Ruling.{word, ground_of, first_of, IsIdle, Kept}
use Rattle.vlock.specs.Ends.{IsOpened}

one_at : {A : Type 0} (x y : A) (i : ℕ) → get_elem? (x ∷ []) i ≡ some y → x ≡ y
one_at x y zero e = some-injective x y e
one_at x y (suc i) e = absurd (some-ne-none y (sym e))

-- the words as they are, without an event, and the view of all callers are a world that is restarted
holds : (key : Opening) → IsOpened key → Holds (ground_of key) (word key.words.value.items) (fresh_view key.callers ∷ [])
holds key o =
    let start = word key.words.value.items in
    let world : World = record { words = start; trace = []; views = fresh_view key.callers ∷ [] } in
    restarts_begin (ground_of key) start world (record {
      restarted = record {
        site_is = o.ground;
        words_are = refl;
        settled = λ i y within had. had;
        structured = record { fixed = λ i below other. refl; sound = o.sound };
        heads = λ s below. refl;
        table = o.table;
        pairs = λ k. refl;
        behind = o.behind;
        fresh = λ j v at. (let e = one_at (fresh_view key.callers) v j at in sym e ∙ ap (λ (u : View). fresh_view u.callers) e);
        callers = omega arith;
      };
      repaired = o.repaired;
    })

-- the first seat is idle
pub first_is_idle : (key : Opening) → IsIdle (first_of key)
first_is_idle key = record {
  nothing = record { held = refl; dirty = refl; flushed = refl; planned = refl; moving = refl; owed = refl; areas = refl };
  own = refl;
  past = refl;
}

pub begins : (key : Opening) (ws : List ℕ) → key.words.value.items ≡ ws → IsOpened key → Kept (ground_of key) (opening ws [] (first_of key))
begins key ws same o = subst (λ (xs : List ℕ). Kept (ground_of key) (opening xs [] (first_of key))) same (record {
  words = o.words;
  holds = holds key o;
  past = λ i p u a q. absurd (subst (λ (z : Watch). Has u z.past) (sym (one_at (first_of key) p i a)) q);
  idle = λ i p a none. subst IsIdle (one_at (first_of key) p i a) (first_is_idle key);
  off = λ i p a on. absurd (false≢true (ap (λ (z : Watch). z.view.stored_power) (one_at (first_of key) p i a) ∙ on));
  full = λ i p u e a among has no_slot. elim (subst (λ (z : Watch). Has u (z.view ∷ z.past)) (sym (one_at (first_of key) p i a)) among) [
    | inl is ↦ absurd (subst (λ (z : View). Has e z.own) is has)
    | inr none ↦ absurd none
  ];
})
