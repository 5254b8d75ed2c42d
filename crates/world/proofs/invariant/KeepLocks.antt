-- The locks are kept, at each kind of step.
use Rattle.std.proofs.Common.{◌≡◌, ◌≢◌, ℕ, ◌+◌, ◌%◌, ◌^◌, List, set, cond, eqb, Bool, true, false, Option, None, Some, inl, inr, refl, sym, ap, ◌∙◌, arith, subst}
use Rattle.std.proofs.lemmas.Bool.{eqb-true}
use Rattle.std.specs.Prelude.{nat_lt}
use mathlib.Core.Logic.{dite}
use native.Mathlib.Decide.{ℕ_discrete}
use Rattle.trace.specs.Events.{Words, with_word, after}
use Rattle.trace.specs.Events.Event.{loaded, exchanged}
use Rattle.trace.proofs.Replaced.{replaced_same, replaced_other}
use Rattle.image_layout.specs.Volatile.{counter_word, power_word}
use Rattle.frame_facts.specs.Owners.{HasStructure}
use Rattle.world.specs.Ground.{Ground, IsLockWord}
use Rattle.world.specs.Views.{Answer, View, Has, At, HasLock, IsGuarded}
use Rattle.world.specs.Parts.{Locks}
use Rattle.map_model.specs.declared.call.Call.{Call}
use Rattle.world.specs.Kinds.{Kind, peeks, asks_power, meets_root, meets_entry, meets_head, pins, finds_room, refuses, places, looks, glances_word, validates, learns, meets_lock, tries, stores, copies, clears, repays, publishes, stashes, flushes, fences, draws_place, unlocks, cuts_power, without, marked, all_again, with_answer, with_look, with_count, with_lock}
use Rattle.world.specs.Conditions.{May}
use Rattle.world.specs.Laws.{words_by, views_by}
use Rattle.world.proofs.basics.Structures.{lock_of_current, known_lock, lock_back, lock_structure, counter_structure, power_structure}
use Rattle.world.proofs.basics.Grounds.{lock_within}
use Rattle.world.proofs.basics.Lists.{set_here}
use Rattle.world.proofs.basics.Seats.{each, carry, guarded_no_lock, guarded_structure, has_first, without_has, without_stays}

module _ (site : Ground) (words us : Words) (views : List View) (j : ℕ) (v w : View) (at : At views j v) (l : Locks site words views) where
  -- no lock word changes, nor the structure, and the view holds what it held
  pub locks_same : w.held ≡ v.held → HasStructure site.shape words us → ((lock : ℕ) → IsLockWord site.shape lock → us lock ≡ words lock) → Locks site us (set views j w)
  locks_same held structure same = record {
    alone = λ i n x y lock c d a a' h h'. (let p = was i x a in let q = was n y a' in
        l.alone i n p.0 q.0 lock c d p.1 q.1 (subst (λ z. Has (lock, c) z) p.2 h) (subst (λ z. Has (lock, d) z) q.2 h'));
    locked = λ i x lock c a h. (let p = was i x a in let r = l.locked i p.0 lock c p.1 (subst (λ z. Has (lock, c) z) p.2 h) in (r.0, same lock r.0 ∙ r.1, r.2));
    odd = λ lock is odd. (let o = l.odd lock (lock_back site words us structure lock is) (ap (λ n. n % 2) (sym (same lock (lock_of_current site us lock is))) ∙ odd) in
        let s = carry views j v w at (λ i u. HasLock u.held lock) (λ q. (q.0, subst (λ z. Has (lock, q.0) z) (sym held) q.1)) o.0 o.1 o.2 o.3 in (o.0, s.0, s.1, s.2));
  }
    where
      was : (i : ℕ) (u : View) → At (set views j w) i u → (o : View) × At views i o × (u.held ≡ o.held)
      was = each views j v w at (λ i u. (o : View) × At views i o × (u.held ≡ o.held)) (v, at, held) (λ i u n a. (u, a, refl))

-- a free lock is taken
module _ (site : Ground) (words : Words) (views : List View) (j : ℕ) (v : View) (at : At views j v) (l : Locks site words views)
    (lock free : ℕ) (is : IsLockWord site.shape lock) (even : free % 2 ≡ 0) (now : words lock ≡ free) where
  abbrev us : Words
  us = with_word words lock (free + 1)

  abbrev taker : View
  taker = with_lock true lock free v

  not_held : (i : ℕ) (u : View) (c m : ℕ) → At views i u → Has (c, m) u.held → c ≡ lock → ⊥
  not_held i u c m a h e = let r = l.locked i u c m a h in let q = ap words e in omega (arith, r.1, r.2, now, even, q)

  others : (i : ℕ) (x : View) (c p : ℕ) → At views i x → Has (c, p) x.held → IsLockWord site.shape c × (us c ≡ p) × (p % 2 ≡ 1)
  others i x c p a h = let r = l.locked i x c p a h in (r.0, replaced_other words lock (free + 1) c (not_held i x c p a h) ∙ r.1, r.2)

  pub locks_taken : Locks site us (set views j taker)
  locks_taken = record {
    alone = λ i n x y c p q a a' h h'. each views j v taker at (λ i x. Has (c, p) x.held → i ≡ n)
        (λ h. each views j v taker at (λ n y. Has (c, q) y.held → j ≡ n) (λ _. refl)
        (λ n y m a h'. elim (has_first lock (free + 1) c p v.held h) [ inl e ↦ absurd (not_held n y c q a h' e.0) | inr r ↦ l.alone j n v y c p q at a r h' ]) n y a' h')
        (λ i x m a h. each views j v taker at (λ n y. Has (c, q) y.held → i ≡ n)
        (λ h'. elim (has_first lock (free + 1) c q v.held h') [ inl e ↦ absurd (not_held i x c p a h e.0) | inr r ↦ l.alone i j x v c p q a at h r ])
        (λ n y m a' h'. l.alone i n x y c p q a a' h h') n y a' h') i x a h;
    locked = λ i x c p a h. each views j v taker at (λ i x. Has (c, p) x.held → IsLockWord site.shape c × (us c ≡ p) × (p % 2 ≡ 1))
        (λ h. elim (has_first lock (free + 1) c p v.held h) [
          | inl e ↦ (let e0 = e.0 in let e1 = e.1 in
              (subst (λ z. IsLockWord site.shape z) (sym e0) is, ap us e0 ∙ (replaced_same words lock (free + 1) ∙ sym e1), omega (arith, e1, even)))
          | inr r ↦ others j v c p at r
        ])
        (λ i x n a h. others i x c p a h) i x a h;
    odd = λ c is' odd. dite (ℕ_discrete c lock)
        (λ (e : c ≡ lock). (j, taker, set_here views j v taker at, (free + 1, inl (ap (λ z. (z, free + 1)) e))))
        (λ (ne : c ≢ lock). let o = l.odd c (lock_back site words us (lock_structure site.shape words lock (free + 1) is) c is') (ap (λ n. n % 2) (sym (replaced_other words lock (free + 1) c ne)) ∙ odd) in
        let s = carry views j v taker at (λ i u. HasLock u.held c) (λ q. (q.0, inr q.1)) o.0 o.1 o.2 o.3 in (o.0, s.0, s.1, s.2));
  }

-- a lock is freed
module _ (site : Ground) (words : Words) (views : List View) (j : ℕ) (v w : View) (at : At views j v) (l : Locks site words views)
    (lock m next : ℕ) (mine : Has (lock, m) v.held) (is_next : next ≡ m + 1) (held : w.held ≡ without lock v.held) where
  kept : (c p : ℕ) → Has (c, p) w.held → (c ≡ lock → ⊥) × Has (c, p) v.held
  kept c p h = without_has lock c p v.held (subst (λ z. Has (c, p) z) held h)

  away : (i : ℕ) (x : View) (c p : ℕ) → At views i x → Has (c, p) x.held → (c ≡ lock → ⊥) → IsLockWord site.shape c × (with_word words lock next c ≡ p) × (p % 2 ≡ 1)
  away i x c p a h n = let r = l.locked i x c p a h in (r.0, replaced_other words lock next c n ∙ r.1, r.2)

  pub locks_freed : Locks site (with_word words lock next) (set views j w)
  locks_freed = record {
    alone = λ i n x y c p q a a' h h'. each views j v w at (λ i x. Has (c, p) x.held → i ≡ n)
        (λ h. each views j v w at (λ n y. Has (c, q) y.held → j ≡ n) (λ _. refl) (λ n y m a h'. l.alone j n v y c p q at a (kept c p h).1 h') n y a' h')
        (λ i x m a h. each views j v w at (λ n y. Has (c, q) y.held → i ≡ n) (λ h'. l.alone i j x v c p q a at h (kept c q h').1) (λ n y m a' h'. l.alone i n x y c p q a a' h h') n y a' h') i x a h;
    locked = λ i x c p a h. each views j v w at (λ i x. Has (c, p) x.held → IsLockWord site.shape c × (with_word words lock next c ≡ p) × (p % 2 ≡ 1))
        (λ h. let k = kept c p h in away j v c p at k.1 k.0)
        (λ i x n a h. away i x c p a h (λ e. n (l.alone i j x v lock p m a at (subst (λ z. Has (z, p) x.held) e h) mine))) i x a h;
    odd = λ c is odd. dite (ℕ_discrete c lock)
        (λ (e : c ≡ lock). let r = l.locked j v lock m at mine in
        let s : with_word words lock next c ≡ next = ap (with_word words lock next) e ∙ replaced_same words lock next in absurd (omega (arith, s, odd, r.2, is_next)))
        (λ (ne : c ≢ lock). let o = l.odd c (lock_back site words (with_word words lock next) (lock_structure site.shape words lock next (l.locked j v lock m at mine).0) c is)
        (ap (λ n. n % 2) (sym (replaced_other words lock next c ne)) ∙ odd) in
        let s = carry views j v w at (λ i u. HasLock u.held c) (λ q. (q.0, subst (λ z. Has (c, q.0) z) (sym held) (without_stays lock c q.0 v.held ne q.1))) o.0 o.1 o.2 o.3 in
        (o.0, s.0, s.1, s.2));
  }

-- what a look, a count and a validation leave as it was
pub look_held : (t : Bool) (lock n : ℕ) (v : View) → (with_look t lock n v).held ≡ v.held
look_held true lock n v = refl
look_held false lock n v = refl

pub count_held : (t : Bool) (call : Call) (n : ℕ) (v : View) → (with_count t call n v).held ≡ v.held
count_held true call n v = refl
count_held false call n v = refl

pub answer_held : (t : Bool) (a : Option Answer) (v : View) → (with_answer t a v).held ≡ v.held
answer_held false a v = refl
answer_held true None v = refl
answer_held true (Some a) v = refl

module _ (site : Ground) (words : Words) (views : List View) (j : ℕ) (v : View) (l : Locks site words views) (at : At views j v) where
  calm : (w : View) → w.held ≡ v.held → Locks site words (set views j w)
  calm w held = locks_same site words words views j v w at l held (λ i is. refl) (λ lock is. refl)

  stored : (i x : ℕ) (w : View) → w.held ≡ v.held → IsGuarded v.held i → Locks site (with_word words i x) (set views j w)
  stored i x w held g = locks_same site words (with_word words i x) views j v w at l held (guarded_structure site words views l j v i x at g words)
      (λ lock is. replaced_other words i x lock (λ e. guarded_no_lock site words views l j v i lock at g is (sym e)))

  tried : (lock free : ℕ) → IsLockWord site.shape lock → free % 2 ≡ 0 → (t : Bool) → eqb (words lock) free ≡ t
      → Locks site (after (cond t (exchanged j lock (free + 1)) (loaded j lock)) words) (set views j (with_lock t lock free v))
  tried lock free is even true e = locks_taken site words views j v at l lock free is even (eqb-true (words lock) free e)
  tried lock free is even false e = calm v refl

  drawn : (w : View) → w.held ≡ v.held → (x : ℕ) → Locks site (with_word words (counter_word site.shape) x) (set views j w)
  drawn w held x = locks_same site words (with_word words (counter_word site.shape) x) views j v w at l held (counter_structure site.shape words x)
      (λ lock is. replaced_other words (counter_word site.shape) x lock
      (λ e. let near = lock_within site.shape lock is in omega (arith, near, e)))

  pub keep_locks : (kind : Kind) → May site kind v → Locks site (words_by site kind j words) (views_by site kind j v words views)
  keep_locks (peeks i) may = calm _ refl
  keep_locks asks_power may = calm _ refl
  keep_locks meets_root may = calm _ refl
  keep_locks (meets_entry e i) may = calm _ refl
  keep_locks (meets_head s version) may = calm _ refl
  keep_locks (pins s b) may = calm _ refl
  keep_locks (finds_room call) may = calm _ (count_held (nat_lt (words (counter_word site.shape)) (2 ^ 63)) call (words (counter_word site.shape)) v)
  keep_locks (refuses call reply) may = calm _ refl
  keep_locks (places k a) may = calm _ refl
  keep_locks (looks lock) may = calm _ (look_held (eqb (words lock % 2) 0) lock (words lock) v)
  keep_locks (glances_word lock i) may = calm _ refl
  keep_locks (validates lock) may = calm _ (answer_held (all_again (marked lock (words lock) v.notes)) v.answer (record v { notes = marked lock (words lock) v.notes }))
  keep_locks (learns i) may = calm _ refl
  keep_locks (meets_lock lock) may = calm _ refl
  keep_locks (tries lock free) may = tried lock free (known_lock site v lock may.0) may.1 (eqb (words lock) free) refl
  keep_locks (stores i x) may = stored i x _ refl may.0.guarded
  keep_locks (copies i x m) may = stored i x _ refl may.0.guarded
  keep_locks (clears i x m) may = stored i x _ refl may.0.guarded
  keep_locks (repays i x o) may = stored i x _ refl may.0.guarded
  keep_locks (publishes i x call) may = stored i x _ refl may.0.guarded
  keep_locks (stashes i x call o) may = stored i x _ refl may.0.guarded
  keep_locks (flushes l) may = calm _ refl
  keep_locks fences may = calm _ refl
  keep_locks (draws_place call) may = drawn _ refl _
  keep_locks (unlocks lock next) may = locks_freed site words views j v _ at l lock may.0 next may.1 may.6 refl
  keep_locks cuts_power may = locks_same site words (with_word words (power_word site.shape) 1) views j v _ at l refl (power_structure site.shape words 1)
      (λ lock is. replaced_other words (power_word site.shape) 1 lock (λ e. let near = lock_within site.shape lock is in omega (arith, near, e)))
