-- Planned changes stay stored, guarded and to be answered as done, at each kind of step.
use Rattle.std.proofs.Common.{◌≡◌, ◌≢◌, ℕ, ◌+◌, ◌%◌, ◌^◌, ◌<◌, List, ◌∷◌, set, cond, eqb, Bool, true, false, Option, Some, inl, inr, refl, sym, ap, ◌∙◌, subst}
use Rattle.std.proofs.lemmas.Bool.{ne_eqb}
use Rattle.std.specs.Prelude.{nat_lt}
use Rattle.trace.specs.Events.{Words, with_word, after}
use Rattle.trace.specs.Events.Event.{loaded, exchanged}
use Rattle.image_layout.specs.Places.{words_of, bucket_at}
use Rattle.image_layout.specs.Volatile.{counter_word, power_word}
use Rattle.map_model.specs.declared.call.Call.{Call}
use Rattle.map_model.specs.declared.entry.Reply.TheVariants.{Done}
use Rattle.map_model.specs.Map.{key_of}
use Rattle.frame_facts.specs.Core.{core}
use Rattle.frame_facts.specs.Hits.{Hit, find}
use Rattle.frame_facts.specs.Owners.{owner_of, home_at}
use Rattle.std.specs.Option.{unwrap_or}
use Rattle.world.specs.Ground.{Ground, IsLockWord}
use Rattle.world.specs.Views.{Move, Owed, View, Has, At, HasLock, IsGuarded}
use Rattle.world.specs.History.{Log, map_now, result_of, reply_by, change_of}
use Rattle.world.specs.Parts.{Plans}
use Rattle.world.specs.Kinds.{Kind, peeks, asks_power, meets_root, meets_entry, meets_head, pins, finds_room, refuses, places, looks, glances_word, validates, learns, meets_lock, tries, stores, copies, clears, repays, publishes, stashes, flushes, fences, draws_place, unlocks, cuts_power, marked, all_again, with_lock, with_draw, log_after, of_other_records, of_other_homes}
use Rattle.world.specs.Conditions.{IsHarmless, IsPublishing, IsUnplanned, HoldsHome, AddsHeld, HoldsPlaces, May}
use Rattle.world.specs.Laws.{words_by, views_by}
use Rattle.world.proofs.basics.Structures.{known_lock}
use Rattle.frame_facts.proofs.segments.Places.{owner_kept, home_kept}
use Rattle.hash_word.specs.Hash.{home_of}
use Rattle.sound_image.specs.Records.{key_hash}
use Rattle.world.proofs.basics.Tables.{core_owner, same_hit, same_home, same_find, lock_cores, counter_cores, power_cores}
use Rattle.world.proofs.basics.Seats.{each, guarded_structure, of_other_keys_has}
use Rattle.world.proofs.invariant.KeepLocks.{look_held, count_held, answer_held}
use Rattle.world.proofs.holding.Backing.{Backing, home_held}
use Rattle.world.proofs.invariant.KeepMedia.{look_quiet, count_quiet, answer_quiet, storer}

-- a view holds the locks of the buckets in which a key stands
abbrev pub HoldsAll : Ground → Words → View → ℕ → Type 0
HoldsAll site us w k = (s b r : ℕ) → owner_of site.shape us (key_hash site.shape k) ≡ Some s → Hit site.shape us s b r k → HasLock w.held (bucket_at site.shape s b)

-- what is said of one planned change
abbrev pub IsKept : Ground → Words → View → Log → Call → Type 0
IsKept site us w log c = HoldsAll site us w (key_of c) × HasLock w.held (home_at site.shape us (key_of c)) × (find site.shape us (key_of c) ≡ result_of c) × (Done ≡ reply_by (map_now site.start log (key_of c)) c)

pub plans_law : (site : Ground) (words us : Words) (views : List View) (log log' : Log) (j : ℕ) (v w : View) → At views j v → Plans site words views log
    → ((i : ℕ) (u : View) (c : Call) → i ≢ j → At views i u → Has c u.planned → IsKept site words u log c → IsKept site us u log' c)
    → ((c : Call) → Has c w.planned → IsKept site us w log' c) → Plans site us (set views j w) log'
plans_law site words us views log log' j v w at o others own = record {
  places = λ i u c a h. (all c i u a h).0;
  held = λ i u c a h. (all c i u a h).1;
  stored = λ i u c a h. (all c i u a h).2;
  fits = λ i u c a h. (all c i u a h).3;
}
  where
    all : (c : Call) (i : ℕ) (u : View) → At (set views j w) i u → Has c u.planned → IsKept site us u log' c
    all c = each views j v w at (λ i u. Has c u.planned → IsKept site us u log' c) (λ h. own c h)
        (λ i u n a h. others i u c n a h (o.places i u c a h, o.held i u c a h, o.stored i u c a h, o.fits i u c a h))

module _ (site : Ground) (words : Words) (views : List View) (j : ℕ) (v : View) (h : Backing site words views j v) (at : At views j v) where
  mine : (c : Call) → Has c v.planned → IsKept site words v h.log c
  mine c has = (h.plans.places j v c at has, h.plans.held j v c at has, h.plans.stored j v c at has, h.plans.fits j v c at has)

  moved : (us : Words) (u : View) (k : ℕ) → home_at site.shape us k ≡ home_at site.shape words k → HasLock u.held (home_at site.shape words k) → HasLock u.held (home_at site.shape us k)
  moved us u k e l = subst (λ (z : ℕ). HasLock u.held z) (sym e) l

  -- no core of the image changes
  places_same : (us : Words) (u w : View) (k : ℕ) → ((n : ℕ) → n < words_of site.shape → core site.shape us n ≡ core site.shape words n) → ((lock : ℕ) → HasLock u.held lock → HasLock w.held lock)
      → HoldsAll site words u k → HoldsAll site us w k
  places_same us u w k same more all s b r own hit = more (bucket_at site.shape s b)
      (all s b r (sym (core_owner site words us same (key_hash site.shape k)) ∙ own) (same_hit site us words same s b r k hit))

  quiet : (us : Words) (w : View) → ((n : ℕ) → n < words_of site.shape → core site.shape us n ≡ core site.shape words n) → w.planned ≡ v.planned
      → ((c : Call) → Has c v.planned → (lock : ℕ) → HasLock v.held lock → HasLock w.held lock) → Plans site us (set views j w) h.log
  quiet us w same planned held = plans_law site words us views h.log h.log j v w at h.plans
      (λ i u c n a has r. (places_same us u u (key_of c) same (λ lock l. l) r.0, moved us u (key_of c) (same_home site words us same (key_of c)) r.1, same_find site us words (key_of c) same ∙ r.2, r.3))
      (λ c has. let has' = subst (λ (cs : List Call). Has c cs) planned has in let r = mine c has' in
      (places_same us v w (key_of c) same (held c has') r.0, moved us w (key_of c) (same_home site words us same (key_of c)) (held c has' _ r.1), same_find site us words (key_of c) same ∙ r.2, r.3))

  calm : (w : View) → w.planned ≡ v.planned → w.held ≡ v.held → Plans site words (set views j w) h.log
  calm w planned held = quiet words w (λ n _. refl) planned (λ c has lock l. subst (λ z. HasLock z lock) (sym held) l)

  tried : (lock free : ℕ) → IsLockWord site.shape lock → (t : Bool) → Plans site (after (cond t (exchanged j lock (free + 1)) (loaded j lock)) words) (set views j (with_lock t lock free v)) h.log
  tried lock free is true = quiet (with_word words lock (free + 1)) (with_lock true lock free v) (λ n _. lock_cores site words lock (free + 1) is n) refl (λ c has k l. (l.0, inr l.1))
  tried lock free is false = calm v refl refl

  -- another view's planned change is of another key than one whose lock is held here
  apart : (i : ℕ) (u : View) (c : Call) (k : ℕ) → i ≢ j → At views i u → HasLock u.held (home_at site.shape words (key_of c)) → HasLock v.held (home_at site.shape words k) → key_of c ≡ k → ⊥
  apart i u c k n a g has e = n (h.locks.alone i j u v (home_at site.shape words k) g.0 has.0 a at (subst (λ (z : ℕ). Has (home_at site.shape words z, g.0) u.held) e g.1) has.1)

  -- a store to a bucket moves no home
  stays : (i x k : ℕ) → IsGuarded v.held i → home_at site.shape (with_word words i x) k ≡ home_at site.shape words k
  stays i x k g = home_kept site.shape words (with_word words i x) (owner_kept site.shape words (with_word words i x) (guarded_structure site words views h.locks j v i x at g words)) k

  -- what is said of a change of another view, or of another planned here, after a store
  module _ (i x : ℕ) (g : IsGuarded v.held i) (adds : AddsHeld site v i x) where
    own_after : (k s : ℕ) → owner_of site.shape (with_word words i x) (key_hash site.shape k) ≡ Some s → owner_of site.shape words (key_hash site.shape k) ≡ Some s
    own_after k s own = sym (owner_kept site.shape words (with_word words i x) (guarded_structure site words views h.locks j v i x at g words) (key_hash site.shape k)) ∙ own

    places_mine : (k : ℕ) → HoldsAll site words v k → HoldsAll site (with_word words i x) v k
    places_mine k all s b r own hit = elim (adds words h.newest s b r k hit) [ inl old ↦ all s b r (own_after k s own) old | inr new ↦ new.1 ]

    places_other : (a : ℕ) (u : View) (c : Call) → a ≢ j → At views a u → HasLock u.held (home_at site.shape words (key_of c)) → HoldsAll site words u (key_of c) → HoldsAll site (with_word words i x) u (key_of c)
    places_other a u c n there held all s b r own hit = elim (adds words h.newest s b r (key_of c) hit) [
      | inl old ↦ all s b r (own_after (key_of c) s own) old
      | inr new ↦ absurd (let e : bucket_at site.shape s (home_of (key_hash site.shape (key_of c))) ≡ home_at site.shape words (key_of c) =
          ap (λ z. bucket_at site.shape (unwrap_or z 0) (home_of (key_hash site.shape (key_of c)))) (sym (own_after (key_of c) s own)) in
          n (h.locks.alone a j u v (home_at site.shape words (key_of c)) held.0 new.0.0 there at held.1 (subst (λ (z : ℕ). Has (z, new.0.0) v.held) e new.0.1)))
    ]

  harmless : (i x : ℕ) (moves : List Move) (owed : List Owed) → IsGuarded v.held i → AddsHeld site v i x → IsHarmless site v i x → Plans site (with_word words i x) (set views j (storer site words i x v.planned moves owed v)) h.log
  harmless i x moves owed g adds keeps = let r = keeps words words h.newest h.itself in
      plans_law site words (with_word words i x) views h.log h.log j v _ at h.plans
      (λ a u c n b has o. (places_other i x g adds a u c n b o.1 o.0, moved (with_word words i x) u (key_of c) (stays i x (key_of c) g) o.1, r.pairs (key_of c) ∙ o.2, o.3))
      (λ c has. let o = mine c has in (places_mine i x g adds (key_of c) o.0, moved (with_word words i x) v (key_of c) (stays i x (key_of c) g) o.1, r.pairs (key_of c) ∙ o.2, o.3))

  published : (i x : ℕ) (call : Call) (moves : List Move) (owed : List Owed) → IsGuarded v.held i → AddsHeld site v i x → ((s : ℕ) × HoldsHome site v s (key_of call)) → IsUnplanned site v (key_of call) → IsPublishing site v call i x
      → HoldsPlaces site v (key_of call) → Plans site (with_word words i x) (set views j (storer site words i x (call ∷ v.planned) moves owed v)) h.log
  published i x call moves owed g adds led none publishing placed =
      let has = home_held site words views j v h led.0 (key_of call) led.1 in
      let r = publishing words words h.newest h.itself in
      plans_law site words (with_word words i x) views h.log h.log j v _ at h.plans
      (λ a u c n b has' o. (places_other i x g adds a u c n b o.1 o.0, moved (with_word words i x) u (key_of c) (stays i x (key_of c) g) o.1, r.1.elsewhere (key_of c) (apart a u c (key_of call) n b o.1 has) ∙ o.2, o.3))
      (λ c has'. elim has' [
        | inl e ↦ subst (λ (z : Call). IsKept site (with_word words i x) v h.log z) (sym e) (
          places_mine i x g adds (key_of call) (placed words h.newest),
          moved (with_word words i x) v (key_of call) (stays i x (key_of call) g) has,
          r.1.here,
          subst (λ (a : Option ℕ). Done ≡ reply_by a call) (sym (h.map.known (key_of call) has none)) r.0,
        )
        | inr q ↦ (let o = mine c q in (places_mine i x g adds (key_of c) o.0, moved (with_word words i x) v (key_of c) (stays i x (key_of c) g) o.1, r.1.elsewhere (key_of c) (none c q) ∙ o.2, o.3))
      ])

  -- a draw changes what the history gives at its own key alone
  drawn : (call : Call) (n x : ℕ) → Has call v.planned → Plans site (with_word words (counter_word site.shape) x) (set views j (with_draw call n v)) (change_of call ∷ h.log)
  drawn call n x has =
      let us = with_word words (counter_word site.shape) x in
      let found : (c : Call) → find site.shape us (key_of c) ≡ find site.shape words (key_of c) =
      λ c. same_find site us words (key_of c) (counter_cores site words x) in
      let home : (c : Call) → home_at site.shape us (key_of c) ≡ home_at site.shape words (key_of c) = λ c. same_home site words us (counter_cores site words x) (key_of c) in
      let other : (c : Call) → (key_of c ≡ key_of call → ⊥) → map_now site.start h.log (key_of c) ≡ map_now site.start (change_of call ∷ h.log) (key_of c) =
      λ c n. sym (ap (λ b. cond b (result_of call) (map_now site.start h.log (key_of c))) (ne_eqb (key_of c) (key_of call) n)) in
      plans_law site words _ views h.log (change_of call ∷ h.log) j v (with_draw call n v) at h.plans
      (λ a u c n b has' o. (places_same us u u (key_of c) (counter_cores site words x) (λ lock l. l) o.0, moved us u (key_of c) (home c) o.1, found c ∙ o.2, subst (λ (z : Option ℕ). Done ≡ reply_by z c) (other c (apart a u c (key_of call) n b o.1 (h.plans.held j v call at has))) o.3))
      (λ c has'. let s = of_other_keys_has (key_of call) v.planned c has' in let o = mine c s.1 in
      (places_same us v v (key_of c) (counter_cores site words x) (λ lock l. l) o.0, moved us v (key_of c) (home c) o.1, found c ∙ o.2, subst (λ (z : Option ℕ). Done ≡ reply_by z c) (other c s.0) o.3))

  pub keep_plans : (kind : Kind) → May site kind v → Plans site (words_by site kind j words) (views_by site kind j v words views) (log_after kind h.log)
  keep_plans (peeks i) may = calm _ refl refl
  keep_plans asks_power may = calm _ refl refl
  keep_plans meets_root may = calm _ refl refl
  keep_plans (meets_entry e i) may = calm _ refl refl
  keep_plans (meets_head s version) may = calm _ refl refl
  keep_plans (pins s b) may = calm _ refl refl
  keep_plans (finds_room call) may = let t = nat_lt (words (counter_word site.shape)) (2 ^ 63) in let n = words (counter_word site.shape) in calm _ (count_quiet t call n v).1 (count_held t call n v)
  keep_plans (refuses call reply) may = calm _ refl refl
  keep_plans (places k a) may = calm _ refl refl
  keep_plans (looks lock) may = let t = eqb (words lock % 2) 0 in calm _ (look_quiet t lock (words lock) v).1 (look_held t lock (words lock) v)
  keep_plans (glances_word lock i) may = calm _ refl refl
  keep_plans (validates lock) may = let o = record v { notes = marked lock (words lock) v.notes } in let t = all_again (marked lock (words lock) v.notes) in calm _ (answer_quiet t v.answer o).1 (answer_held t v.answer o)
  keep_plans (learns i) may = calm _ refl refl
  keep_plans (meets_lock lock) may = calm _ refl refl
  keep_plans (tries lock free) may = tried lock free (known_lock site v lock may.0) (eqb (words lock) free)
  keep_plans (stores i x) may = harmless i x v.moving v.owed may.0.guarded may.0.adds may.1
  keep_plans (copies i x m) may = harmless i x (m ∷ v.moving) v.owed may.0.guarded may.0.adds may.1
  keep_plans (clears i x m) may = harmless i x (of_other_records m v.moving) v.owed may.0.guarded may.0.adds may.1
  keep_plans (repays i x o) may = harmless i x v.moving (of_other_homes o v.owed) may.0.guarded may.0.adds may.1
  keep_plans (publishes i x call) may = published i x call v.moving v.owed may.0.guarded may.0.adds may.1 may.2 may.3 may.4
  keep_plans (stashes i x call o) may = published i x call v.moving (o ∷ v.owed) may.0.guarded may.0.adds may.1 may.2 may.3 may.9
  keep_plans (flushes l) may = calm _ refl refl
  keep_plans fences may = calm _ refl refl
  keep_plans (draws_place call) may = drawn call _ _ may.0
  keep_plans (unlocks lock next) may = let is = (h.locks.locked j v lock may.0 at may.1).0 in
      quiet (with_word words lock next) _ (λ n _. lock_cores site words lock next is n) refl
      (λ c has lock l. absurd (subst (λ (cs : List Call). Has c cs) may.3 has))
  keep_plans cuts_power may = quiet (with_word words (power_word site.shape) 1) _ (λ n within. power_cores site words 1 n within) refl (λ c has lock l. l)
