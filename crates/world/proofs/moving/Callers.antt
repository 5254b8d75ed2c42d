-- Known words are the newest, and known and loose words are held by their view, at each kind of step of a caller.
use Rattle.std.proofs.Common.{◌≡◌, ℕ, ◌+◌, ◌%◌, ◌^◌, ◌≤◌, List, ◌∷◌, set, cond, eqb, Bool, true, false, Option, None, Some, inl, inr, refl, sym, ap, ◌∙◌, subst, arith}
use Rattle.std.specs.Prelude.{nat_lt}
use Rattle.trace.specs.Events.{Words, with_word, after}
use Rattle.trace.specs.Events.Event.{loaded, exchanged}
use Rattle.trace.proofs.Replaced.{replaced_other}
use Rattle.image_layout.specs.Places.{Shape, words_of}
use Rattle.image_layout.specs.Volatile.{counter_word, power_word}
use Rattle.map_model.specs.declared.call.Call.{Call}
use Rattle.frame_facts.specs.Facts.{Lives, Current}
use Rattle.world.specs.Ground.{Ground, IsUnder, IsCurrentIn}
use Rattle.world.specs.Views.{Answer, Move, Owed, View, Has, At, HasLock, IsGuarded, IsLoose}
use Rattle.world.specs.Kinds.{of_other_records, of_other_homes, with_store, Kind, peeks, asks_power, meets_root, meets_entry, meets_head, pins, finds_room, refuses, places, looks, glances_word, validates, learns, meets_lock, tries, stores, copies, clears, repays, publishes, stashes, flushes, fences, draws_place, unlocks, cuts_power, without, marked, all_again, with_answer, with_look, with_count, with_lock, with_draw}
use Rattle.world.specs.Conditions.{IsKnownLock, May}
use Rattle.world.specs.Laws.{words_by, views_by}
use Rattle.world.specs.areas.Fitting.{HoldsWord, LivesOn, IsLivingLock}
use Rattle.world.specs.Invariant.{KnownWords, Holds}
use Rattle.world.specs.areas.Calling.{CallersKeepLocks, CallersKeepHeldWords}
use Rattle.world.proofs.basics.Seats.{has_first, without_stays, not_under_has, flush_loose, lock_of}
use Rattle.world.proofs.holding.Beside.{newest}
use Rattle.world.proofs.invariant.KeepLocks.{keep_locks}
use Rattle.world.proofs.fitting.OneHolder.{side_dies}
use Rattle.world.proofs.moving.Known.{held_within}
use Rattle.world.proofs.moving.Holding.{stale, side, free, IsHeldBy, HasSlot, holder_has}
use Rattle.world.proofs.moving.Words.{HasWords, words_law, stored}

look_words : (shape : Shape) (words : Words) (t : Bool) (lock n : ℕ) (v : View) → HasWords shape words v → HasWords shape words (with_look t lock n v)
look_words shape words true lock n v f = f
look_words shape words false lock n v f = f

count_words : (shape : Shape) (words : Words) (t : Bool) (call : Call) (n : ℕ) (v : View) → HasWords shape words v → HasWords shape words (with_count t call n v)
count_words shape words true call n v f = f
count_words shape words false call n v f = f

answer_words : (shape : Shape) (words : Words) (t : Bool) (a : Option Answer) (v : View) → HasWords shape words v → HasWords shape words (with_answer t a v)
answer_words shape words false a v f = f
answer_words shape words true None v f = f
answer_words shape words true (Some a) v f = f

module _ (site : Ground) (words : Words) (views : List View) (j : ℕ) (v : View) (h : Holds site words views) (at : At views j v) where
  abbrev shape : Shape
  shape = site.shape

  mine : HasWords shape words v
  mine = ((λ i x q. h.known.knows j v i x at q), (λ i x q. h.known.loose j v i x at q))

  calm : (w : View) → HasWords shape words w → KnownWords site words (set views j w)
  calm w own = words_law site words words views j v w at h.known (λ i u n a m g. refl) own

  -- ---- a lock word changes, of a current segment that lives on: nobody holds it
  nobody_has : (s : ℕ) → IsCurrentIn site words s → LivesOn site words views s → (i : ℕ) (u : View) → At views i u → HasSlot u.areas s → ⊥
  nobody_has s current lives i u a (stale k) = (h.structure.fits.stale i u s a k).1 current.current
  nobody_has s current lives i u a (side k) = side_dies site words views s (h.structure.fits.side i u s a k).1 lives
  nobody_has s current lives i u a (free k) = let e = (h.structure.fits.free_slot i u s a k).2 in elim current.live.live [ inl x ↦ omega (arith, x, e) | inr x ↦ omega (arith, x, e) ]

  no_holder : (lock : ℕ) → IsLivingLock site words views lock → (i : ℕ) (u : View) (n : ℕ) → At views i u → HoldsWord shape u n → n ≡ lock → ⊥
  no_holder lock q i u n a holds e = nobody_has q.segment q.current q.lives i u a (holder_has shape u.areas q.segment q.bucket q.current.live.slot q.near u.held
      (λ other. lock_of site words views h.locks i u other a) (subst (λ (z : ℕ). HoldsWord shape u z) (e ∙ q.is) holds))

  spared : (lock x : ℕ) → IsLivingLock site words views lock → (i : ℕ) (u : View) → At views i u → (n : ℕ) → HoldsWord shape u n → with_word words lock x n ≡ words n
  spared lock x q i u a n holds = replaced_other words lock x n (no_holder lock q i u n a holds)

  -- a known lock is one of such a segment
  known_living : (lock : ℕ) → IsKnownLock site v lock → IsLivingLock site words views lock
  known_living lock k = record {
    segment = k.0;
    bucket = k.1;
    near = k.3;
    is = k.4;
    current = h.structure.says j v (Current k.0) words at k.6 (newest site words views);
    lives = λ medium possible. h.structure.says j v (Lives k.0) medium at k.5 possible;
  }

  holds_locked : (lock x n : ℕ) → HoldsWord shape v n → HoldsWord shape (with_lock true lock x v) n
  holds_locked lock x n (inl g) = inl (g.0, (g.1.0, inr g.1.1), g.2)
  holds_locked lock x n (inr q) = inr q

  tried : (lock value : ℕ) → IsLivingLock site words views lock → (t : Bool)
      → KnownWords site (after (cond t (exchanged j lock (value + 1)) (loaded j lock)) words) (set views j (with_lock t lock value v))
  tried lock value q true = words_law site words (with_word words lock (value + 1)) views j v (with_lock true lock value v) at h.known
      (λ i u ne a n g. spared lock (value + 1) q i u a n g) (
        (λ i x k. (let r = mine.0 i x k in (spared lock (value + 1) q j v at i r.1 ∙ r.0, holds_locked lock value i r.1))),
        (λ i x k. holds_locked lock value i (mine.1 i x k)),
      )
  tried lock value q false = calm v mine

  still : (lock n : ℕ) → (IsUnder lock n → ⊥) → HoldsWord shape v n → IsHeldBy shape (without lock v.held) v.areas n
  still lock n none (inl g) = inl (g.0, (g.1.0, without_stays lock g.0 g.1.0 v.held (λ e. none (subst (λ (z : ℕ). IsUnder z n) e g.2)) g.1.1), g.2)
  still lock n none (inr q) = inr q

  freed : (lock next : ℕ) → HasLock v.held lock → ((p : ℕ × ℕ) → IsLoose v p → IsUnder lock p.0 → ⊥)
      → KnownWords site (with_word words lock next) (views_by site (unlocks lock next) j v words views)
  freed lock next has firm = let q = h.structure.fits.lock j v lock at has in
      words_law site words (with_word words lock next) views j v _ at h.known (λ i u ne a n g. spared lock next q i u a n g) (
        (λ n y k. (let o = not_under_has lock n y v.known k in let r = mine.0 n y o.1 in (spared lock next q j v at n r.1 ∙ r.0, still lock n o.0 r.1))),
        (λ n y k. still lock n (firm (n, y) k) (mine.1 n y k)),
      )

  -- ---- a word behind the image changes
  behind : (g x : ℕ) (w : View) → words_of shape ≤ g → HasWords shape (with_word words g x) w → KnownWords site (with_word words g x) (set views j w)
  behind g x w far own = words_law site words (with_word words g x) views j v w at h.known
      (λ i u ne a n holds. replaced_other words g x n (λ e. let near = held_within site words views h i u n a holds in omega (arith, near, far, e))) own

  away : (g x : ℕ) → words_of shape ≤ g → (i y : ℕ) → Has (i, y) v.known → (with_word words g x i ≡ y) × HoldsWord shape v i
  away g x far i y k = let r = mine.0 i y k in
      (replaced_other words g x i (λ e. let near = held_within site words views h j v i at r.1 in omega (arith, near, far, e)) ∙ r.0, r.1)

  set_by : (i x : ℕ) (calls : List Call) (moves : List Move) (owed : List Owed) → IsGuarded v.held i
      → KnownWords site (with_word words i x) (set views j (with_store shape i (words i) x calls moves owed v))
  set_by i x calls moves owed g = stored site words views j v h at i x v.areas _ refl refl refl refl refl (inl g) (λ n k. k)

  keep : (kind : Kind) → May site kind v → KnownWords site (words_by site kind j words) (views_by site kind j v words views)
  keep (peeks i) may = calm _ mine
  keep asks_power may = calm _ mine
  keep meets_root may = calm _ mine
  keep (meets_entry e i) may = calm _ mine
  keep (meets_head s version) may = calm _ mine
  keep (pins s b) may = calm _ mine
  keep (finds_room call) may = calm _ (count_words shape words (nat_lt (words (counter_word shape)) (2 ^ 63)) call (words (counter_word shape)) v mine)
  keep (refuses call reply) may = calm _ mine
  keep (places k a) may = calm _ mine
  keep (looks lock) may = calm _ (look_words shape words (eqb (words lock % 2) 0) lock (words lock) v mine)
  keep (glances_word lock i) may = calm _ mine
  keep (validates lock) may = calm _ (answer_words shape words (all_again (marked lock (words lock) v.notes)) v.answer (record v { notes = marked lock (words lock) v.notes }) mine)
  keep (learns i) may = calm _ (
    (λ n y q. elim (has_first i (words i) n y v.known q) [
      | inl e ↦ (ap words e.0 ∙ sym e.1, subst (λ (m : ℕ). HoldsWord shape v m) (sym e.0) (inl may))
      | inr r ↦ mine.0 n y r
    ]),
    mine.1,
  )
  keep (meets_lock lock) may = calm _ mine
  keep (tries lock value) may = tried lock value (known_living lock may.0) (eqb (words lock) value)
  keep (stores i x) may = set_by i x v.planned v.moving v.owed may.0.guarded
  keep (copies i x m) may = set_by i x v.planned (m ∷ v.moving) v.owed may.0.guarded
  keep (clears i x m) may = set_by i x v.planned (of_other_records m v.moving) v.owed may.0.guarded
  keep (repays i x o) may = set_by i x v.planned v.moving (of_other_homes o v.owed) may.0.guarded
  keep (publishes i x call) may = set_by i x (call ∷ v.planned) v.moving v.owed may.0.guarded
  keep (stashes i x call o) may = set_by i x (call ∷ v.planned) v.moving (o ∷ v.owed) may.0.guarded
  keep (flushes l) may = calm _ (mine.0, (λ n y q. mine.1 n y (flush_loose l v.dirty v.flushed (n, y) q)))
  keep fences may = calm _ (mine.0, (λ n y q. elim q [ inl d ↦ mine.1 n y (inl d) | inr f ↦ absurd f ]))
  keep (draws_place call) may = behind (counter_word shape) _ (with_draw call (words (counter_word shape)) v) (omega arith) (away (counter_word shape) _ (omega arith), mine.1)
  keep (unlocks lock next) may = freed lock next (may.0, may.1) may.2
  keep cuts_power may = behind (power_word shape) 1 _ (omega arith) (away (power_word shape) 1 (omega arith), mine.1)

pub callers_keep_locks : CallersKeepLocks
callers_keep_locks site kind words views j v l at may = keep_locks site words views j v l at kind may

pub callers_keep_words : CallersKeepHeldWords
callers_keep_words site kind words views j v h at may = keep site words views j v h at kind may
