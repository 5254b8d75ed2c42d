-- No step takes back what its caller has seen, and each reply is at a place not before that.
use Rattle.std.proofs.Common.{◌≡◌, inl, inr, ℕ, ◌%◌, ◌^◌, ◌≤◌, Bool, true, false, Option, None, Some, List, [], ◌∷◌, ◌++◌, length, refl, sym, ap, ◌∙◌, arith, append-nil, append_assoc, length-append}
use Rattle.std.specs.Prelude.{nat_lt, ◌==◌}
use Rattle.std.proofs.lemmas.List.{nil_from_length}
use Rattle.trace.specs.Events.{Words}
use Rattle.image_layout.specs.Volatile.{counter_word}
use Rattle.map_model.specs.declared.call.Call.{Call}
use Rattle.map_model.specs.declared.entry.Entry.{Entry}
use Rattle.world.specs.Ground.{Ground}
use Rattle.world.specs.Views.{Glance, Answer, View, Has, At}
use Rattle.world.specs.History.{Log}
use Rattle.world.specs.Parts.{History, IsUnmoved, IsAnswer}
use Rattle.world.specs.Kinds.{Kind, peeks, asks_power, meets_root, meets_entry, meets_head, pins, finds_room, refuses, places, looks, glances_word, validates, learns, meets_lock, tries, stores, copies, clears, repays, publishes, stashes, flushes, fences, draws_place, unlocks, cuts_power, wanted, with_answer, with_look, with_count, with_lock, all_again, marked, view_after}
use Rattle.world.specs.Wants.{word_of}
use Rattle.world.proofs.basics.Lists.{has_joined}
use Rattle.world.proofs.basics.NotedLists.{marked_to, again_all}
use Rattle.world.specs.Later.{IsLater}

pub later_same : (v w : View) → w.own ≡ v.own → w.seen ≡ v.seen → IsLater v w
later_same v w own seen = record { rest = []; own = own ∙ sym (append-nil v.own); places = λ e q. absurd q; seen = omega (arith, seen); still = λ none. seen }

one : (v w : View) (e : Entry) → w.own ≡ v.own ++ e ∷ [] → v.seen ≤ e.place → v.seen ≤ w.seen → IsLater v w
one v w e own place seen = record {
  rest = e ∷ [];
  own = own;
  places = λ x q. elim q [ inl is ↦ (let n = ap (λ (z : Entry). z.place) is in omega (arith, n, place)) | inr none ↦ absurd none ];
  seen = seen;
  still = λ none. (let n = ap length none in omega (arith, n));
}

-- a view is a later one of itself, and one that is later of a later one is so of the first
pub later_itself : (v : View) → IsLater v v
later_itself v = later_same v v refl refl

pub later_joined : (u v w : View) → IsLater u v → IsLater v w → IsLater u w
later_joined u v w p q = record {
  rest = p.rest ++ q.rest;
  own = q.own ∙ (ap (λ (es : List Entry). es ++ q.rest) p.own ∙ append_assoc u.own p.rest q.rest);
  places = λ e has. elim (has_joined p.rest q.rest e has) [ inl first ↦ p.places e first | inr second ↦ (let n = q.places e second in let s = p.seen in omega (arith, n, s)) ];
  seen = (let a = p.seen in let b = q.seen in omega (arith, a, b));
  still = λ none.
      let n = ap length none in
      let l = length-append p.rest q.rest in
      let first = nil_from_length p.rest (omega (arith, n, l)) in
      let second = nil_from_length q.rest (omega (arith, n, l)) in q.still second ∙ p.still first;
}

module _ (site : Ground) (words : Words) (views : List View) (j : ℕ) (v : View) (log : Log) (history : History site words views log)
    (answered : (a : Answer) → v.answer ≡ Some a → ((note : Glance) → Has note v.notes → IsUnmoved words note) → IsAnswer site log v.seen a) (at : At views j v) where
  at_counter : (n : ℕ) → words (counter_word site.shape) ≡ n → v.seen ≤ n
  at_counter n is = let c = history.counter in let s = history.within j v at in omega (arith, c, s, is)

  look : (t : Bool) (lock n : ℕ) → IsLater v (with_look t lock n v)
  look true lock n = later_same v _ refl refl
  look false lock n = later_same v _ refl refl

  count : (t : Bool) (call : Call) (n : ℕ) → words (counter_word site.shape) ≡ n → IsLater v (with_count t call n v)
  count true call n is = later_same v _ refl refl
  count false call n is = one v _ _ refl (at_counter n is) (at_counter n is)

  lock_won : (t : Bool) (lock free : ℕ) → IsLater v (with_lock t lock free v)
  lock_won true lock free = later_same v _ refl refl
  lock_won false lock free = later_same v _ refl refl

  answer : (lock : ℕ) (t : Bool) (o : Option Answer) → all_again (marked lock (words lock) v.notes) ≡ t → v.answer ≡ o
      → IsLater v (with_answer t o (record v { notes = marked lock (words lock) v.notes }))
  answer lock false o again is = later_same v _ refl refl
  answer lock true None again is = later_same v _ refl refl
  answer lock true (Some a) again is =
      let good : IsAnswer site log v.seen a = answered a is (marked_to words lock v.notes (again_all words (marked lock (words lock) v.notes) again)) in
      one v _ _ refl good.after_seen good.after_seen

  pub later_at : (kind : Kind) → IsLater v (view_after site.shape kind (words (word_of site.shape (wanted site.shape kind))) v)
  later_at (peeks i) = later_same v _ refl refl
  later_at asks_power = later_same v _ refl refl
  later_at meets_root = later_same v _ refl refl
  later_at (meets_entry e i) = later_same v _ refl refl
  later_at (meets_head s version) = later_same v _ refl refl
  later_at (pins s b) = later_same v _ refl refl
  later_at (finds_room call) = count (nat_lt (words (counter_word site.shape)) (2 ^ 63)) call (words (counter_word site.shape)) refl
  later_at (refuses call reply) = one v _ _ refl (at_counter _ refl) (at_counter _ refl)
  later_at (places k a) = later_same v _ refl refl
  later_at (looks lock) = look (words lock % 2 == 0) lock (words lock)
  later_at (glances_word lock i) = later_same v _ refl refl
  later_at (validates lock) = answer lock (all_again (marked lock (words lock) v.notes)) v.answer refl refl
  later_at (learns i) = later_same v _ refl refl
  later_at (meets_lock lock) = later_same v _ refl refl
  later_at (tries lock free) = lock_won (words lock == free) lock free
  later_at (stores i x) = later_same v _ refl refl
  later_at (copies i x m) = later_same v _ refl refl
  later_at (clears i x m) = later_same v _ refl refl
  later_at (repays i x o) = later_same v _ refl refl
  later_at (publishes i x call) = later_same v _ refl refl
  later_at (stashes i x call o) = later_same v _ refl refl
  later_at (flushes l) = later_same v _ refl refl
  later_at fences = later_same v _ refl refl
  later_at (draws_place call) = one v _ _ refl (at_counter _ refl) (let s = at_counter (words (counter_word site.shape)) refl in omega (arith, s))
  later_at (unlocks lock next) = later_same v _ refl refl
  later_at cuts_power = later_same v _ refl refl
