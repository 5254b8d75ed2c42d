-- The history is kept, at each kind of step.
use Rattle.std.proofs.Common.{◌≡◌, ℕ, suc, ◌+◌, ◌%◌, ◌^◌, ◌<◌, ◌≤◌, Bool, true, false, cond, ◌&&◌, eqb, List, [], ◌∷◌, ◌++◌, length, set, Option, None, Some, inl, inr, refl, sym, ap, ◌∙◌, subst, arith}
use Rattle.std.proofs.lemmas.Bool.{cases_eq, eq-eqb, cases_Bool}
use Rattle.std.specs.Prelude.{filter, nat_lt}
use Rattle.trace.specs.Events.{Words, with_word, after}
use Rattle.trace.specs.Events.Event.{loaded, exchanged}
use Rattle.trace.proofs.Replaced.{replaced_same, replaced_other}
use Rattle.image_layout.specs.Volatile.{counter_word, power_word}
use Rattle.map_model.specs.declared.call.Call.{Call}
use Rattle.map_model.specs.declared.call.Call.TheVariants.{Get}
use Rattle.map_model.specs.declared.entry.Reply.{Reply}
use Rattle.map_model.specs.declared.entry.Reply.TheVariants.{Done, Spent}
use Rattle.map_model.specs.declared.entry.Entry.{Entry}
use Rattle.map_model.specs.Map.{key_of, is_done, shown}
use Rattle.map_model.specs.Weave.{draws, drew_at}
use Rattle.map_model.specs.Legal.{IsChange, InOrder, seen_of, seen_after}
use Rattle.world.specs.Ground.{Ground, IsLockWord}
use Rattle.world.specs.Views.{Answer, View, Has, At}
use Rattle.world.specs.History.{Log, map_now, map_when, MayReply, HasRoomCause, IsRight, change_of}
use Rattle.world.specs.Parts.{total, History, IsAnswer}
use Rattle.world.specs.Kinds.{Kind, peeks, asks_power, meets_root, meets_entry, meets_head, pins, finds_room, refuses, places, looks, glances_word, validates, learns, meets_lock, tries, stores, copies, clears, repays, publishes, stashes, flushes, fences, draws_place, unlocks, cuts_power, marked, all_again, next_entry, with_reply, with_answer, with_look, with_count, with_lock, with_draw, log_after}
use Rattle.world.specs.Conditions.{IsKnownReply, IsKnownCause, May}
use Rattle.world.specs.Laws.{words_by, views_by}
use Rattle.world.proofs.basics.Structures.{known_lock}
use Rattle.world.proofs.basics.Grounds.{lock_within}
use Rattle.world.proofs.basics.Lists.{total_set, has_joined}
use Rattle.world.proofs.basics.Seats.{each, guarded_no_counter}
use Rattle.world.proofs.basics.Entries.{in_order_more, seen_of_more, count_more, count_none, total_none, drew_here, when_now, when_more, right_more, shown_may, shown_keeps, shown_cause, cause_alike}
use Rattle.world.proofs.basics.NotedLists.{marked_to, again_all}
use Rattle.world.proofs.holding.Backing.{Backing, home_held}

abbrev drew_of : ℕ → View → ℕ
drew_of n v = length (filter (drew_at n) v.own)

abbrev draws_of : View → ℕ
draws_of v = draws v.own

-- nobody drew a place that is not reached
beyond : (site : Ground) (words : Words) (views : List View) (log : Log) → History site words views log → (n : ℕ) → length log ≤ n → total (drew_of n) views ≡ 0
beyond site words views log o n le = total_none (drew_of n) views (λ j v a. count_none (drew_at n) v.own (λ e has. none e (o.right j v e a has)))
  where
    none : (e : Entry) → IsRight site.shape site.start log e → drew_at n e ≡ false
    none e r = elim (cases_Bool e.drew) [
      | inl t ↦ drew_here e n t (λ q. let w = subst (λ b. cond b (suc e.place) e.place ≤ length log) t r.within in omega (arith, w, le, q))
      | inr f ↦ ap (λ b. b && eqb e.place n) f
    ]

-- the view keeps its replies
pub history_same : (site : Ground) (words us : Words) (views : List View) (j : ℕ) (v w : View) (log : Log) → At views j v → History site words views log
    → us (counter_word site.shape) ≡ words (counter_word site.shape) → w.own ≡ v.own → w.seen ≡ v.seen → History site us (set views j w) log
history_same site words us views j v w log at o same own seen = record {
  counter = same ∙ o.counter;
  right = λ i u e a has. each views j v w at (λ i u. Has e u.own → IsRight site.shape site.start log e) (λ q. o.right j v e at (subst (λ (es : List Entry). Has e es) own q))
      (λ i u n a q. o.right i u e a q) i u a has;
  in_order = each views j v w at (λ i u. InOrder 1 0 u.own) (subst (λ (es : List Entry). InOrder 1 0 es) (sym own) (o.in_order j v at)) (λ i u n a. o.in_order i u a);
  after_own = each views j v w at (λ i u. seen_of 0 u.own ≤ u.seen) (let a = o.after_own j v at in let q = ap (seen_of 0) own in omega (arith, a, q, seen)) (λ i u n a. o.after_own i u a);
  within = each views j v w at (λ i u. u.seen ≤ length log) (let a = o.within j v at in omega (arith, a, seen)) (λ i u n a. o.within i u a);
  drawn = (let s = total_set draws_of views j v w at in let d = o.drawn in let q = ap draws own in omega (arith, s, d, q));
  each_once = λ n below. (let s = total_set (drew_of n) views j v w at in let d = o.each_once n below in let q = ap (λ es. length (filter (drew_at n) es)) own in omega (arith, s, d, q));
}

-- the view has one reply more, which may have drawn the next place
module _ (site : Ground) (words us : Words) (views : List View) (j : ℕ) (v w : View) (log log' : Log) (at : At views j v) (o : History site words views log) (e : Entry)
    (counter : us (counter_word site.shape) ≡ length log') (more : (x : Entry) → IsRight site.shape site.start log x → IsRight site.shape site.start log' x)
    (own : w.own ≡ v.own ++ e ∷ []) (seen : w.seen ≡ seen_after e)
    (serial : e.serial ≡ suc (length v.own)) (drew : e.drew ≡ is_done e.reply) (later : v.seen ≤ e.place)
    (right : IsRight site.shape site.start log' e) (count : length log' ≡ length log + cond e.drew 1 0) (place : e.drew ≡ true → e.place ≡ length log) where
  once_at : (n : ℕ) → n < length log' → total (drew_of n) (set views j w) ≡ 1
  once_at n below =
      let s = total_set (drew_of n) views j v w at in
      let q : drew_of n w ≡ drew_of n v + cond (drew_at n e) 1 0 = ap (λ es. length (filter (drew_at n) es)) own ∙ count_more (drew_at n) v.own e in
      elim (cases_Bool e.drew) [
        | inl t ↦ (let c = count ∙ ap (λ b. length log + cond b 1 0) t in let p = place t in elim (cases_eq n e.place) [
          | inl same ↦ (let z = beyond site words views log o n (omega (arith, same, p)) in
              let d : drew_at n e ≡ true = ap (λ b. b && eqb e.place n) t ∙ eq-eqb e.place n (sym same) in
              let q' = q ∙ ap (λ b. drew_of n v + cond b 1 0) d in omega (arith, s, q', z))
          | inr other ↦ (let z = o.each_once n (omega (arith, c, below, p, other)) in
              let q' = q ∙ ap (λ b. drew_of n v + cond b 1 0) (drew_here e n t other) in omega (arith, s, q', z))
        ])
        | inr f ↦ (let c = count ∙ ap (λ b. length log + cond b 1 0) f in let z = o.each_once n (omega (arith, c, below)) in
            let d : drew_at n e ≡ false = ap (λ b. b && eqb e.place n) f in
            let q' = q ∙ ap (λ b. drew_of n v + cond b 1 0) d in omega (arith, s, q', z))
      ]

  pub history_more : History site us (set views j w) log'
  history_more = record {
    counter = counter;
    right = λ i u x a has. each views j v w at (λ i u. Has x u.own → IsRight site.shape site.start log' x)
        (λ q. elim (has_joined v.own (e ∷ []) x (subst (λ (es : List Entry). Has x es) own q)) [
          | inl old ↦ more x (o.right j v x at old)
          | inr new ↦ elim new [ inl is ↦ subst (λ (z : Entry). IsRight site.shape site.start log' z) (sym is) right | inr none ↦ absurd none ]
        ])
        (λ i u n a q. more x (o.right i u x a q)) i u a has;
    in_order = each views j v w at (λ i u. InOrder 1 0 u.own)
        (subst (λ (es : List Entry). InOrder 1 0 es) (sym own) (in_order_more 1 0 v.own e (o.in_order j v at) (omega (arith, serial)) drew (let a = o.after_own j v at in omega (arith, a, later))))
        (λ i u n a. o.in_order i u a);
    after_own = each views j v w at (λ i u. seen_of 0 u.own ≤ u.seen)
        (let q = ap (seen_of 0) own ∙ seen_of_more 0 v.own e in omega (arith, q, seen)) (λ i u n a. o.after_own i u a);
    within = each views j v w at (λ i u. u.seen ≤ length log') (let r = right.within in omega (arith, r, seen)) (λ i u n a. let b = o.within i u a in omega (arith, b, count));
    drawn = (let s = total_set draws_of views j v w at in let d = o.drawn in let q = ap draws own ∙ count_more (λ (x : Entry). x.drew) v.own e in omega (arith, s, d, q, count));
    each_once = once_at;
  }

module _ (site : Ground) (words : Words) (views : List View) (j : ℕ) (v : View) (h : Backing site words views j v) (at : At views j v) where
  calm : (w : View) → w.own ≡ v.own → w.seen ≡ v.seen → History site words (set views j w) h.log
  calm w own seen = history_same site words words views j v w h.log at h.history refl own seen

  elsewhere : (i x : ℕ) (w : View) → (counter_word site.shape ≡ i → ⊥) → w.own ≡ v.own → w.seen ≡ v.seen → History site (with_word words i x) (set views j w) h.log
  elsewhere i x w other own seen = history_same site words (with_word words i x) views j v w h.log at h.history (replaced_other words i x (counter_word site.shape) other) own seen

  no_lock : (lock : ℕ) → IsLockWord site.shape lock → counter_word site.shape ≡ lock → ⊥
  no_lock lock is e = let near = lock_within site.shape lock is in omega (arith, near, e)

  tried : (lock free : ℕ) → IsLockWord site.shape lock → (t : Bool) → History site (after (cond t (exchanged j lock (free + 1)) (loaded j lock)) words) (set views j (with_lock t lock free v)) h.log
  tried lock free is true = elsewhere lock (free + 1) (with_lock true lock free v) (no_lock lock is) refl refl
  tried lock free is false = calm v refl refl

  -- a reply that changes nothing, at a place that the history has reached
  replied : (w : View) (call : Call) (reply : Reply) (place : ℕ) → w.own ≡ v.own ++ next_entry v call reply place false ∷ [] → w.seen ≡ place
      → is_done reply ≡ false → v.seen ≤ place → place ≤ length h.log → MayReply (map_when site.start h.log place (key_of call)) call reply
      → HasRoomCause site.shape (map_when site.start h.log place) call reply → History site words (set views j w) h.log
  replied w call reply place own seen keeps later within may cause =
      history_more site words words views j v w h.log h.log at h.history (next_entry v call reply place false) h.history.counter (λ x r. r) own seen refl (sym keeps) later
      (record { within = within; reply = may; cause = cause; drew = λ d. absurd (cc) }) (omega arith) (λ d. absurd (cc))

  counted : (w : View) (call : Call) (reply : Reply) (n : ℕ) → n ≡ words (counter_word site.shape) → w.own ≡ v.own ++ next_entry v call reply n false ∷ [] → w.seen ≡ n
      → is_done reply ≡ false → MayReply (map_now site.start h.log (key_of call)) call reply → HasRoomCause site.shape (map_now site.start h.log) call reply → History site words (set views j w) h.log
  counted w call reply n is own seen keeps may cause =
      let c = h.history.counter in
      let s = h.history.within j v at in
      replied w call reply n own seen keeps (omega (arith, is, c, s)) (omega (arith, is, c))
      (subst (λ (a : Option ℕ). MayReply a call reply) (sym (when_now site.start h.log n (key_of call) (is ∙ c))) may)
      (cause_alike site.shape _ _ call reply (λ k. sym (when_now site.start h.log n k (is ∙ c))) cause)

  refused : (call : Call) (reply : Reply) → is_done reply ≡ false → IsKnownReply site v call reply → IsKnownCause site v call reply
      → History site words (set views j (with_reply v (next_entry v call reply (words (counter_word site.shape)) false))) h.log
  refused call reply keeps known caused = counted _ call reply (words (counter_word site.shape)) refl refl refl keeps (elim known [
    | inl any ↦ any (map_now site.start h.log (key_of call))
    | inr k ↦ subst (λ (a : Option ℕ). MayReply a call reply) (sym (h.map.known (key_of call) (home_held site words views j v h k.0 (key_of call) k.1) k.2))
        (k.3 words h.newest)
  ])
      (caused (map_now site.start h.log) words h.newest h.map)

  room : (call : Call) → IsChange call → (t : Bool) → History site words (set views j (with_count t call (words (counter_word site.shape)) v)) h.log
  room call change true = calm (with_count true call (words (counter_word site.shape)) v) refl refl
  room call change false = counted _ call Spent (words (counter_word site.shape)) refl refl refl refl change tt

  -- a get whose notes are all good
  answered : (lock : ℕ) (t : Bool) (o : Option Answer) → all_again (marked lock (words lock) v.notes) ≡ t → v.answer ≡ o
      → History site words (set views j (with_answer t o (record v { notes = marked lock (words lock) v.notes }))) h.log
  answered lock false o again is = calm (record v { notes = marked lock (words lock) v.notes }) refl refl
  answered lock true None again is = calm (record v { notes = marked lock (words lock) v.notes }) refl refl
  answered lock true (Some a) again is =
      let good : IsAnswer site h.log v.seen a = h.answered a is (marked_to words lock v.notes (again_all words (marked lock (words lock) v.notes) again)) in
      replied _ (Get a.key) (shown a.value) a.place refl refl (shown_keeps a.value) good.after_seen good.within
      (subst (λ (x : Option ℕ). MayReply x (Get a.key) (shown a.value)) (sym good.had) (shown_may a.value a.key)) (shown_cause site.shape a.value _ (Get a.key))

  -- a change draws the next place
  no_wrap : (words (counter_word site.shape) + 1) % 2 ^ 64 ≡ suc (length h.log)
  no_wrap = let c = h.history.counter in let r = h.room.few in let f = h.site_is.few in omega (arith, c, r, f)

  drawn : (call : Call) → Has call v.planned → History site (with_word words (counter_word site.shape) ((words (counter_word site.shape) + 1) % 2 ^ 64))
      (set views j (with_draw call (words (counter_word site.shape)) v)) (change_of call ∷ h.log)
  drawn call has =
      let n = words (counter_word site.shape) in
      let c : n ≡ length h.log = h.history.counter in
      let s = h.history.within j v at in
      history_more site words _ views j v (with_draw call n v) h.log (change_of call ∷ h.log) at h.history (next_entry v call Done n true)
      (replaced_same words (counter_word site.shape) _ ∙ no_wrap) (λ x r. right_more site.start h.log (change_of call) site.shape x r) refl refl refl refl (omega (arith, c, s))
      (record {
        within = omega (arith, c);
        reply = subst (λ (a : Option ℕ). MayReply a call Done)
            (sym (when_more site.start h.log (change_of call) n (key_of call) (omega (arith, c)) ∙ when_now site.start h.log n (key_of call) c)) (h.plans.fits j v call at has);
        cause = tt;
        drew = λ _. inl (c, refl);
      })
      (omega arith) (λ _. c)

  pub keep_history : (kind : Kind) → May site kind v → History site (words_by site kind j words) (views_by site kind j v words views) (log_after kind h.log)
  keep_history (peeks i) may = calm _ refl refl
  keep_history asks_power may = calm _ refl refl
  keep_history meets_root may = calm _ refl refl
  keep_history (meets_entry e i) may = calm _ refl refl
  keep_history (meets_head s version) may = calm _ refl refl
  keep_history (pins s b) may = calm _ refl refl
  keep_history (finds_room call) may = room call may.0 (nat_lt (words (counter_word site.shape)) (2 ^ 63))
  keep_history (refuses call reply) may = refused call reply may.0 may.1 may.2
  keep_history (places k a) may = calm _ refl refl
  keep_history (looks lock) may = looked (eqb (words lock % 2) 0)
    where
      looked : (t : Bool) → History site words (set views j (with_look t lock (words lock) v)) h.log
      looked true = calm (with_look true lock (words lock) v) refl refl
      looked false = calm (with_look false lock (words lock) v) refl refl
  keep_history (glances_word lock i) may = calm _ refl refl
  keep_history (validates lock) may = answered lock (all_again (marked lock (words lock) v.notes)) v.answer refl refl
  keep_history (learns i) may = calm _ refl refl
  keep_history (meets_lock lock) may = calm _ refl refl
  keep_history (tries lock free) may = tried lock free (known_lock site v lock may.0) (eqb (words lock) free)
  keep_history (stores i x) may = elsewhere i x _ (λ e. guarded_no_counter site words views h.locks j v i at may.0.guarded (sym e)) refl refl
  keep_history (copies i x m) may = elsewhere i x _ (λ e. guarded_no_counter site words views h.locks j v i at may.0.guarded (sym e)) refl refl
  keep_history (clears i x m) may = elsewhere i x _ (λ e. guarded_no_counter site words views h.locks j v i at may.0.guarded (sym e)) refl refl
  keep_history (repays i x o) may = elsewhere i x _ (λ e. guarded_no_counter site words views h.locks j v i at may.0.guarded (sym e)) refl refl
  keep_history (publishes i x call) may = elsewhere i x _ (λ e. guarded_no_counter site words views h.locks j v i at may.0.guarded (sym e)) refl refl
  keep_history (stashes i x call o) may = elsewhere i x _ (λ e. guarded_no_counter site words views h.locks j v i at may.0.guarded (sym e)) refl refl
  keep_history (flushes l) may = calm _ refl refl
  keep_history fences may = calm _ refl refl
  keep_history (draws_place call) may = drawn call may.0
  keep_history (unlocks lock next) may = elsewhere lock next _ (no_lock lock (h.locks.locked j v lock may.0 at may.1).0) refl refl
  keep_history cuts_power may = elsewhere (power_word site.shape) 1 _ (λ e. omega (arith, e)) refl refl
