-- Each reply that a number is spent has its cause, and a lock word that was found spent stays so, at each kind of step.
use Rattle.std.proofs.Common.{◌≡◌, ◌⊎◌, ℕ, ◌-◌, ◌%◌, ◌^◌, ◌≤◌, Bool, true, false, eqb, List, [], ◌∷◌, ◌++◌, length, Option, None, Some, inl, inr, refl, sym, ap, ◌∙◌, subst, arith}
use Rattle.std.proofs.lemmas.Bool.{eqb-true, ltb-false}
use Rattle.std.specs.Prelude.{nat_lt}
use Rattle.trace.specs.Events.{Words}
use Rattle.image_layout.specs.Volatile.{counter_word}
use Rattle.map_model.specs.declared.call.Call.{Call}
use Rattle.map_model.specs.declared.call.Call.TheVariants.{Get}
use Rattle.map_model.specs.declared.entry.Reply.TheVariants.{Spent, Done}
use Rattle.map_model.specs.declared.entry.Entry.{Entry}
use Rattle.map_model.specs.Map.{shown}
use Rattle.world.specs.Ground.{Ground, IsSpentLock, HasSpentLock}
use Rattle.world.specs.Views.{Answer, View, Has, At}
use Rattle.world.specs.History.{Log}
use Rattle.world.specs.Parts.{Spending}
use Rattle.world.specs.Kinds.{Kind, peeks, asks_power, meets_root, meets_entry, meets_head, pins, finds_room, refuses, places, looks, glances_word, validates, learns, meets_lock, tries, stores, copies, clears, repays, publishes, stashes, flushes, fences, draws_place, unlocks, cuts_power, marked, all_again, next_entry, with_answer, with_look, with_count, with_spent, with_lock, log_after, view_after}
use Rattle.world.specs.Conditions.{May}
use Rattle.world.specs.areas.SpentNumbers.{SpendingParts}
use Rattle.world.specs.Laws.{found_by, words_by, views_by}
use Rattle.world.proofs.basics.Lists.{has_joined}
use Rattle.world.proofs.basics.Seats.{each}
use Rattle.world.proofs.stepping.SpentLocks.{spent_lock_stays}

-- a reply that a number is spent is right over these words and so many changes
abbrev IsCaused : Ground → Words → Log → Type 0
IsCaused site words log = (2 ^ 63 ≤ length log) ⊎ HasSpentLock site.shape words

shown_other : (a : Option ℕ) → shown a ≡ Spent → ⊥
shown_other None e = cc
shown_other (Some v) e = cc

-- a view with one entry more
one_more : (own : List Entry) (e x : Entry) → Has x (own ++ e ∷ []) → Has x own ⊎ (x ≡ e)
one_more own e x h = elim (has_joined own (e ∷ []) x h) [ inl old ↦ inl old | inr new ↦ elim new [ inl is ↦ inr is | inr none ↦ absurd none ] ]

module _ (site : Ground) (words : Words) (views : List View) (j : ℕ) (v : View) (h : SpendingParts site words views) (at : At views j v) where
  module _ (kind : Kind) (may : May site kind v) where
    abbrev w : View
    w = view_after site.shape kind (found_by site kind words) v

    abbrev after : Words
    after = words_by site kind j words

    still : (lock : ℕ) → IsSpentLock site.shape words lock → IsSpentLock site.shape after lock
    still lock s = spent_lock_stays site words views j v h at lock kind may s

    still_caused : length h.log ≤ length (log_after kind h.log) → IsCaused site words h.log → IsCaused site after (log_after kind h.log)
    still_caused grows c = elim c [ inl many ↦ inl (omega (arith, many, grows)) | inr s ↦ inr (s.0, still s.0 s.1) ]

    law : length h.log ≤ length (log_after kind h.log)
        → ((lock : ℕ) → Has lock w.spent_locks → Has lock v.spent_locks ⊎ IsSpentLock site.shape words lock)
        → ((e : Entry) → Has e w.own → Has e v.own ⊎ (e.reply ≡ Spent → IsCaused site words h.log))
        → Spending site after (views_by site kind j v words views) (log_after kind h.log)
    law grows met told = record {
      met = λ i u lock a has. each views j v w at (λ i u. Has lock u.spent_locks → IsSpentLock site.shape after lock)
          (λ has. still lock (elim (met lock has) [ inl old ↦ h.spending.met j v lock at old | inr new ↦ new ]))
          (λ i u ne a has. still lock (h.spending.met i u lock a has)) i u a has;
      told = λ i u e a has is. each views j v w at (λ i u. Has e u.own → IsCaused site after (log_after kind h.log))
          (λ has. still_caused grows (elim (told e has) [ inl old ↦ h.spending.told j v e at old is | inr new ↦ new is ]))
          (λ i u ne a has. still_caused grows (h.spending.told i u e a has is)) i u a has;
    }

    -- a step that adds no reply and finds no such lock word
    calm : log_after kind h.log ≡ h.log → w.spent_locks ≡ v.spent_locks → w.own ≡ v.own → Spending site after (views_by site kind j v words views) (log_after kind h.log)
    calm same locks own = law (let s = ap length same in omega (arith, s)) (λ lock has. inl (subst (λ ls. Has lock ls) locks has)) (λ e has. inl (subst (λ es. Has e es) own has))

    -- one reply more, which has its cause if it says so
    replied : (e : Entry) → length h.log ≤ length (log_after kind h.log) → w.spent_locks ≡ v.spent_locks → w.own ≡ v.own ++ e ∷ []
        → (e.reply ≡ Spent → IsCaused site words h.log) → Spending site after (views_by site kind j v words views) (log_after kind h.log)
    replied e grows locks own cause = law grows (λ lock has. inl (subst (λ ls. Has lock ls) locks has))
        (λ x has. elim (one_more v.own e x (subst (λ es. Has x es) own has)) [
          | inl old ↦ inl old
          | inr is ↦ inr (λ spent. cause (sym (ap (λ (z : Entry). z.reply) is) ∙ spent))
        ])

  abbrev n : ℕ
  n = words (counter_word site.shape)

  -- the view with a lock word looked at again
  abbrev noted : ℕ → View
  noted lock = record v { notes = marked lock (words lock) v.notes }

  counted : (call : Call) (may : May site (finds_room call) v) (t : Bool) → nat_lt n (2 ^ 63) ≡ t → (w (finds_room call) may).spent_locks ≡ v.spent_locks
      → (w (finds_room call) may).own ≡ (with_count t call n v).own → Spending site words (views_by site (finds_room call) j v words views) h.log
  counted call may true is locks own = calm (finds_room call) may refl locks own
  counted call may false is locks own = replied (finds_room call) may (next_entry v call Spent n false) (omega arith) locks own
      (λ _. inl (let low = ltb-false n (2 ^ 63) is in let c = h.history.counter in omega (arith, low, c)))

  pub keep_spending : (kind : Kind) (may : May site kind v) → Spending site (words_by site kind j words) (views_by site kind j v words views) (log_after kind h.log)
  keep_spending (peeks i) may = calm (peeks i) may refl refl refl
  keep_spending asks_power may = calm asks_power may refl refl refl
  keep_spending meets_root may = calm meets_root may refl refl refl
  keep_spending (meets_entry e i) may = calm (meets_entry e i) may refl refl refl
  keep_spending (meets_head s version) may = calm (meets_head s version) may refl refl refl
  keep_spending (pins s b) may = calm (pins s b) may refl refl refl
  keep_spending (finds_room call) may = counted call may (nat_lt n (2 ^ 63)) refl (locks_by (nat_lt n (2 ^ 63))) refl
    where
      locks_by : (t : Bool) → (with_count t call n v).spent_locks ≡ v.spent_locks
      locks_by true = refl
      locks_by false = refl
  keep_spending (refuses call reply) may = replied (refuses call reply) may (next_entry v call reply n false) (omega arith) refl refl
      (λ is. let s = may.3 is in inr (s.0, h.spending.met j v s.0 at s.1))
  keep_spending (places k a) may = calm (places k a) may refl refl refl
  keep_spending (looks lock) may = calm (looks lock) may refl (locks_by (eqb (words lock % 2) 0)) (own_by (eqb (words lock % 2) 0))
    where
      locks_by : (t : Bool) → (with_look t lock (words lock) v).spent_locks ≡ v.spent_locks
      locks_by true = refl
      locks_by false = refl

      own_by : (t : Bool) → (with_look t lock (words lock) v).own ≡ v.own
      own_by true = refl
      own_by false = refl
  keep_spending (glances_word lock i) may = calm (glances_word lock i) may refl refl refl
  keep_spending (validates lock) may = by (all_again (marked lock (words lock) v.notes)) v.answer refl refl
    where
      by : (t : Bool) (a : Option Answer) → (w (validates lock) may).spent_locks ≡ (with_answer t a (noted lock)).spent_locks → (w (validates lock) may).own ≡ (with_answer t a (noted lock)).own
          → Spending site words (views_by site (validates lock) j v words views) h.log
      by false a locks own = calm (validates lock) may refl locks own
      by true None locks own = calm (validates lock) may refl locks own
      by true (Some a) locks own = replied (validates lock) may (next_entry (noted lock) (Get a.key) (shown a.value) a.place false) (omega arith) locks own (λ is. absurd (shown_other a.value is))
  keep_spending (learns i) may = calm (learns i) may refl refl refl
  keep_spending (meets_lock lock) may = law (meets_lock lock) may (omega arith) (λ l has. by (eqb (words lock) (2 ^ 64 - 2)) refl l has) (λ e has. inl has)
    where
      by : (t : Bool) → eqb (words lock) (2 ^ 64 - 2) ≡ t → (l : ℕ) → Has l (with_spent t lock v.spent_locks) → Has l v.spent_locks ⊎ IsSpentLock site.shape words l
      by true is l has = elim has [
        | inl same ↦ inr (subst (λ k. IsSpentLock site.shape words k) (sym same) ((may.0, may.1, may.2, may.3, may.4, h.living j v may.0 at may.5), eqb-true (words lock) (2 ^ 64 - 2) is))
        | inr old ↦ inl old
      ]
      by false is l has = inl has
  keep_spending (tries lock free) may = calm (tries lock free) may refl (locks_by (eqb (words lock) free)) (own_by (eqb (words lock) free))
    where
      locks_by : (t : Bool) → (with_lock t lock free v).spent_locks ≡ v.spent_locks
      locks_by true = refl
      locks_by false = refl

      own_by : (t : Bool) → (with_lock t lock free v).own ≡ v.own
      own_by true = refl
      own_by false = refl
  keep_spending (stores i x) may = calm (stores i x) may refl refl refl
  keep_spending (copies i x m) may = calm (copies i x m) may refl refl refl
  keep_spending (clears i x m) may = calm (clears i x m) may refl refl refl
  keep_spending (repays i x o) may = calm (repays i x o) may refl refl refl
  keep_spending (publishes i x call) may = calm (publishes i x call) may refl refl refl
  keep_spending (stashes i x call o) may = calm (stashes i x call o) may refl refl refl
  keep_spending (flushes l) may = calm (flushes l) may refl refl refl
  keep_spending fences may = calm fences may refl refl refl
  keep_spending (draws_place call) may = replied (draws_place call) may (next_entry v call Done n true) (omega arith) refl refl
      (λ is. absurd (let e : Done ≡ Spent = is in cc))
  keep_spending (unlocks lock next) may = calm (unlocks lock next) may refl refl refl
  keep_spending cuts_power may = calm cuts_power may refl refl refl
