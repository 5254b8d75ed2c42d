-- What a step leaves of its caller's replies and number, and of the power word.
use Rattle.std.proofs.Common.{◌≡◌, ◌≢◌, ℕ, ◌+◌, ◌%◌, ◌^◌, nat_lt, eqb, Bool, true, false, cond, Option, Some, None, List, inl, inr, refl, sym, arith}
use Rattle.std.proofs.lemmas.Bool.{ltb-false}
use Rattle.trace.specs.Events.{Words, with_word, after}
use Rattle.trace.specs.Events.Event.{loaded, exchanged}
use Rattle.trace.proofs.Replaced.{replaced_other}
use Rattle.image_layout.specs.Volatile.{counter_word, power_word}
use Rattle.map_model.specs.declared.call.Call.TheVariants.{Get}
use Rattle.map_model.specs.declared.entry.Reply.TheVariants.{Done, Spent}
use Rattle.map_model.specs.Map.{shown}
use Rattle.world.specs.Ground.{Ground, IsLockWord}
use Rattle.world.specs.Views.{Answer, View, At, IsGuarded}
use Rattle.world.specs.Wants.{words_after}
use Rattle.world.specs.Kinds.{Kind, peeks, asks_power, meets_root, meets_entry, meets_head, pins, finds_room, refuses, places, looks, glances_word, validates, learns, meets_lock, tries, stores, copies, clears, repays, publishes, stashes, flushes, fences, draws_place, unlocks, cuts_power}
use Rattle.world.specs.Kinds.{wanted, with_look, with_count, with_lock, with_answer, next_entry, marked, all_again}
use Rattle.world.specs.Conditions.{May}
use Rattle.world.specs.Entering.{Enters}
use Rattle.world.specs.Parts.{Locks}
use Rattle.world.specs.Laws.{StepsEnter, CallersStay}
use Rattle.world.proofs.basics.Structures.{known_lock}
use Rattle.world.proofs.basics.Grounds.{lock_within, under_within}

-- ---- the replies
pub steps_enter : StepsEnter
steps_enter shape (finds_room call) n v = by (nat_lt n (2 ^ 63)) refl
  where
    by : (b : Bool) → nat_lt n (2 ^ 63) ≡ b → Enters (finds_room call) n v (with_count b call n v).own
    by true e = inl refl
    by false e = inr (next_entry v call Spent n false, refl, (ltb-false n (2 ^ 63) e, refl))
steps_enter shape (refuses call r) n v = inr (next_entry v call r n false, refl, refl)
steps_enter shape (looks lock) n v = by (eqb (n % 2) 0)
  where
    by : (b : Bool) → Enters (looks lock) n v (with_look b lock n v).own
    by true = inl refl
    by false = inl refl
steps_enter shape (validates lock) n v = by (all_again (marked lock n v.notes)) v.answer refl
  where
    by : (b : Bool) (o : Option Answer) → v.answer ≡ o → Enters (validates lock) n v (with_answer b o (record v { notes = marked lock n v.notes })).own
    by false o is = inl refl
    by true None is = inl refl
    by true (Some a) is = inr (next_entry v (Get a.key) (shown a.value) a.place false, refl, (a, is, refl))
steps_enter shape (tries lock free) n v = by (eqb n free)
  where
    by : (b : Bool) → Enters (tries lock free) n v (with_lock b lock free v).own
    by true = inl refl
    by false = inl refl
steps_enter shape (draws_place call) n v = inr (next_entry v call Done n true, refl, refl)
steps_enter shape kind n v = inl refl

-- ---- for how many callers a view stands
pub callers_stay : CallersStay
callers_stay shape (finds_room call) n v = by (nat_lt n (2 ^ 63))
  where
    by : (b : Bool) → (with_count b call n v).callers ≡ v.callers
    by true = refl
    by false = refl
callers_stay shape (looks lock) n v = by (eqb (n % 2) 0)
  where
    by : (b : Bool) → (with_look b lock n v).callers ≡ v.callers
    by true = refl
    by false = refl
callers_stay shape (validates lock) n v = by (all_again (marked lock n v.notes)) v.answer
  where
    by : (b : Bool) (o : Option Answer) → (with_answer b o (record v { notes = marked lock n v.notes })).callers ≡ v.callers
    by false o = refl
    by true None = refl
    by true (Some a) = refl
callers_stay shape (tries lock free) n v = by (eqb n free)
  where
    by : (b : Bool) → (with_lock b lock free v).callers ≡ v.callers
    by true = refl
    by false = refl
callers_stay shape kind n v = refl

-- ---- the power word
module _ (site : Ground) (words : Words) (views : List View) (j : ℕ) (v : View) (l : Locks site words views) (at : At views j v) (c : ℕ) where
  abbrev power : ℕ
  power = power_word site.shape

  elsewhere : (i x : ℕ) → i ≢ power → with_word words i x power ≡ words power
  elsewhere i x other = replaced_other words i x power (λ q. other (sym q))

  lock_apart : (lock : ℕ) → IsLockWord site.shape lock → lock ≢ power
  lock_apart lock is same = let low = lock_within site.shape lock is in omega (arith, low, same)

  guarded_apart : (i : ℕ) → IsGuarded v.held i → i ≢ power
  guarded_apart i g same =
      let low = under_within site.shape g.0 i (l.locked j v g.0 g.1.0 at g.1.1).0 g.2 in omega (arith, low, same)

  tried : (t : Bool) (lock x : ℕ) → lock ≢ power → after (cond t (exchanged c lock x) (loaded c lock)) words power ≡ words power
  tried true lock x other = elsewhere lock x other
  tried false lock x other = refl

  pub power_kept : (kind : Kind) → (kind ≡ cuts_power → ⊥) → May site kind v → words_after site.shape (wanted site.shape kind) c words power ≡ words power
  power_kept (peeks i) other may = refl
  power_kept asks_power other may = refl
  power_kept meets_root other may = refl
  power_kept (meets_entry e i) other may = refl
  power_kept (meets_head s version) other may = refl
  power_kept (pins s b) other may = refl
  power_kept (finds_room call) other may = refl
  power_kept (refuses call reply) other may = refl
  power_kept (places k a) other may = refl
  power_kept (looks lock) other may = refl
  power_kept (glances_word lock i) other may = refl
  power_kept (validates lock) other may = refl
  power_kept (learns i) other may = refl
  power_kept (meets_lock lock) other may = refl
  power_kept (tries lock free) other may = tried (eqb (words lock) free) lock (free + 1) (lock_apart lock (known_lock site v lock may.0))
  power_kept (stores i x) other may = elsewhere i x (guarded_apart i may.0.guarded)
  power_kept (copies i x m) other may = elsewhere i x (guarded_apart i may.0.guarded)
  power_kept (clears i x m) other may = elsewhere i x (guarded_apart i may.0.guarded)
  power_kept (repays i x o) other may = elsewhere i x (guarded_apart i may.0.guarded)
  power_kept (publishes i x call) other may = elsewhere i x (guarded_apart i may.0.guarded)
  power_kept (stashes i x call o) other may = elsewhere i x (guarded_apart i may.0.guarded)
  power_kept (flushes l) other may = refl
  power_kept fences other may = refl
  power_kept (draws_place call) other may = elsewhere (counter_word site.shape) ((words (counter_word site.shape) + 1) % 2 ^ 64) (λ q. omega (arith, q))
  power_kept (unlocks lock next) other may = elsewhere lock next (lock_apart lock (l.locked j v lock may.0 at may.1).0)
  power_kept cuts_power other may = absurd (other refl)
