-- The commit counter does not wrap, at each kind of step.
use Rattle.std.proofs.Common.{◌≡◌, ℕ, ◌+◌, ◌%◌, ◌^◌, ◌≤◌, Bool, true, false, eqb, List, length, set, Option, None, Some, refl, arith}
use Rattle.std.proofs.lemmas.Bool.{ltb-true}
use Rattle.std.specs.Prelude.{nat_lt}
use Rattle.trace.specs.Events.{Words}
use Rattle.image_layout.specs.Volatile.{counter_word}
use Rattle.map_model.specs.declared.call.Call.{Call}
use Rattle.world.specs.Ground.{Ground}
use Rattle.world.specs.Views.{Answer, View, At}
use Rattle.world.specs.History.{Log}
use Rattle.world.proofs.holding.Backing.{Backing}
use Rattle.world.specs.Parts.{total, Room}
use Rattle.world.specs.Kinds.{Kind, peeks, asks_power, meets_root, meets_entry, meets_head, pins, finds_room, refuses, places, looks, glances_word, validates, learns, meets_lock, tries, stores, copies, clears, repays, publishes, stashes, flushes, fences, draws_place, unlocks, cuts_power, marked, all_again, with_answer, with_look, with_count, with_lock, with_draw, log_after}
use Rattle.world.specs.Conditions.{May}
use Rattle.world.specs.Laws.{views_by}
use Rattle.world.proofs.basics.Lists.{total_set, total_most}
use Rattle.world.proofs.basics.Seats.{each}

abbrev callers_of : View → ℕ
callers_of v = v.callers

abbrev room_of : View → ℕ
room_of v = v.room

pub room_law : (site : Ground) (views : List View) (j : ℕ) (v w : View) (log log' : Log) → At views j v → Room site views log → w.callers ≡ v.callers → w.room ≤ w.callers
    → length log' + total room_of views + w.room ≤ 2 ^ 63 + site.callers + v.room → Room site (set views j w) log'
room_law site views j v w log log' at r callers most few = record {
  callers = (let s = total_set callers_of views j v w at in let p = r.callers in omega (arith, s, p, callers));
  each = each views j v w at (λ i u. u.room ≤ u.callers) most (λ i u n a. r.each i u a);
  few = (let s = total_set room_of views j v w at in omega (arith, s, few));
}

module _ (site : Ground) (words : Words) (views : List View) (j : ℕ) (v : View) (h : Backing site words views j v) (at : At views j v) where
  calm : (w : View) → w.callers ≡ v.callers → w.room ≡ v.room → Room site (set views j w) h.log
  calm w p d = let r = h.room.few in let m = h.room.each j v at in room_law site views j v w h.log h.log at h.room p (omega (arith, p, d, m)) (omega (arith, r, d))

  tried : (lock free : ℕ) (t : Bool) → Room site (set views j (with_lock t lock free v)) h.log
  tried lock free true = calm (with_lock true lock free v) refl refl
  tried lock free false = calm v refl refl

  looked : (lock n : ℕ) (t : Bool) → Room site (set views j (with_look t lock n v)) h.log
  looked lock n true = calm (with_look true lock n v) refl refl
  looked lock n false = calm (with_look false lock n v) refl refl

  answered : (o : View) → o.callers ≡ v.callers → o.room ≡ v.room → (t : Bool) (a : Option Answer) → Room site (set views j (with_answer t a o)) h.log
  answered o p d false a = calm o p d
  answered o p d true None = calm o p d
  answered o p d true (Some a) = calm (with_answer true (Some a) o) p d

  -- a counter below 2 ^ 63 leaves room for each caller
  counted : (call : Call) (n : ℕ) → n ≡ words (counter_word site.shape) → (t : Bool) → nat_lt n (2 ^ 63) ≡ t → Room site (set views j (with_count t call n v)) h.log
  counted call n is true t =
      let w : View = with_count true call n v in
      let below = ltb-true n (2 ^ 63) t in
      let all : (i : ℕ) (u : View) → At (set views j w) i u → u.room ≤ u.callers = each views j v w at (λ i u. u.room ≤ u.callers) (omega arith) (λ i u n b. h.room.each i u b) in
      let most = total_most room_of callers_of (set views j w) all in
      let s = total_set room_of views j v w at in
      let q = total_set callers_of views j v w at in
      let p = h.room.callers in
      let c = h.history.counter in
      room_law site views j v w h.log h.log at h.room refl (omega arith) (omega (arith, below, is, most, s, q, p, c))
  counted call n is false t = calm (with_count false call n v) refl refl

  pub keep_room : (kind : Kind) → May site kind v → Room site (views_by site kind j v words views) (log_after kind h.log)
  keep_room (peeks i) may = calm _ refl refl
  keep_room asks_power may = calm _ refl refl
  keep_room meets_root may = calm _ refl refl
  keep_room (meets_entry e i) may = calm _ refl refl
  keep_room (meets_head s version) may = calm _ refl refl
  keep_room (pins s b) may = calm _ refl refl
  keep_room (finds_room call) may = counted call (words (counter_word site.shape)) refl (nat_lt (words (counter_word site.shape)) (2 ^ 63)) refl
  keep_room (refuses call reply) may = calm _ refl refl
  keep_room (places k a) may = calm _ refl refl
  keep_room (looks lock) may = looked lock (words lock) (eqb (words lock % 2) 0)
  keep_room (glances_word lock i) may = calm _ refl refl
  keep_room (validates lock) may = answered (record v { notes = marked lock (words lock) v.notes }) refl refl (all_again (marked lock (words lock) v.notes)) v.answer
  keep_room (learns i) may = calm _ refl refl
  keep_room (meets_lock lock) may = calm _ refl refl
  keep_room (tries lock free) may = tried lock free (eqb (words lock) free)
  keep_room (stores i x) may = calm _ refl refl
  keep_room (copies i x m) may = calm _ refl refl
  keep_room (clears i x m) may = calm _ refl refl
  keep_room (repays i x o) may = calm _ refl refl
  keep_room (publishes i x call) may = calm _ refl refl
  keep_room (stashes i x call o) may = calm _ refl refl
  keep_room (flushes l) may = calm _ refl refl
  keep_room fences may = calm _ refl refl
  keep_room (draws_place call) may = let r = h.room.few in let some = may.1 in
      room_law site views j v (with_draw call (words (counter_word site.shape)) v) h.log _ at h.room refl (omega arith) (omega (arith, r, some))
  keep_room (unlocks lock next) may = calm _ refl refl
  keep_room cuts_power may = calm _ refl refl
