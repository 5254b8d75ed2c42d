-- Each kind of step of a caller keeps areas, owners and live segments.
use Rattle.std.proofs.Common.{◌≡◌, ◌≢◌, ◌⊎◌, ℕ, ◌+◌, ◌*◌, ◌%◌, ◌^◌, ◌<◌, Bool, true, false, cond, eqb, Option, None, Some, List, [], ◌∷◌, ◌++◌, set, inl, inr, refl, sym, ap, subst, arith}
use Rattle.std.specs.Prelude.{nat_lt}
use Rattle.std.proofs.lemmas.Bool.{cases_Bool}
use Rattle.trace.specs.Events.{Words, with_word, after, line_of}
use Rattle.trace.specs.Events.Event.{loaded, exchanged}
use Rattle.image_layout.specs.Places.{first_segment, words_of, bucket_at}
use Rattle.image_layout.specs.Volatile.{counter_word}
use Rattle.frame_facts.specs.Core.{core}
use Rattle.map_model.specs.declared.call.Call.{Call}
use Rattle.frame_facts.specs.Facts.{Lives, Current}
use Rattle.world.specs.Ground.{Ground, IsLockWord, IsUnder}
use Rattle.world.specs.Views.{Answer, View, Has, At, HasLock, IsGuarded}
use Rattle.world.specs.Kinds.{peeks, asks_power, meets_root, meets_entry, meets_head, pins, finds_room, refuses, places, looks, glances_word, validates, learns, meets_lock, tries, stores, copies, clears, repays, publishes, stashes, flushes, fences, draws_place, unlocks, cuts_power, without, on_line, off_line, marked, all_again, with_answer, with_look, with_count, with_lock}
use Rattle.world.specs.Conditions.{IsKnownLock}
use Rattle.world.specs.areas.Areas.{Whole, header_word}
use Rattle.world.specs.areas.Fitting.{IsLivingLock, Fits, HasGrounds}
use Rattle.world.specs.areas.Rows.{HasStored}
use Rattle.world.specs.areas.Spared.{HasFenced, LooseIsHeld, stays, SparesAreas}
use Rattle.world.specs.areas.Lasting.{Owners, Lasting}
use Rattle.world.specs.areas.Beginning.{AreasStand}
use Rattle.world.specs.areas.Calling.{AsksOfAreas, CallersKeepAreas}
use Rattle.world.proofs.basics.Seats.{without_has, flush_loose}
use Rattle.world.proofs.basics.Structures.{known_lock}
use Rattle.world.proofs.basics.Tables.{lock_cores, counter_cores, power_cores}
use Rattle.world.proofs.holding.Beside.{newest}
use Rattle.world.proofs.fitting.OneHolder.{near}
use Rattle.world.proofs.fitting.Spared.{other_stores, fences_keep, sparing_steps}
use Rattle.world.proofs.fitting.lasting.Lasting.{others_last, sparing_lasts, fences_last}

-- a flush loses nothing
pub flush_keeps : (l : ℕ) (d f : List (ℕ × ℕ)) (p : ℕ × ℕ) → Has p d ⊎ Has p f → Has p (off_line l d) ⊎ Has p (on_line l d ++ f)
flush_keeps l [] f p h = elim h [ inl a ↦ absurd a | inr b ↦ inr b ]
flush_keeps l (q ∷ d) f p h = elim (cases_Bool (eqb (line_of q.0) l)) [
  | inl t ↦ subst (λ b. Has p (cond b (off_line l d) (q ∷ off_line l d)) ⊎ Has p (cond b (q ∷ on_line l d) (on_line l d) ++ f)) (sym t) (elim h [
    | inl a ↦ elim a [
      | inl e ↦ inr (inl e)
      | inr r ↦ elim (flush_keeps l d f p (inl r)) [ inl x ↦ inl x | inr x ↦ inr (inr x) ]
    ]
    | inr b ↦ elim (flush_keeps l d f p (inr b)) [ inl x ↦ inl x | inr x ↦ inr (inr x) ]
  ])
  | inr n ↦ subst (λ b. Has p (cond b (off_line l d) (q ∷ off_line l d)) ⊎ Has p (cond b (q ∷ on_line l d) (on_line l d) ++ f)) (sym n) (elim h [
    | inl a ↦ elim a [
      | inl e ↦ inl (inl e)
      | inr r ↦ elim (flush_keeps l d f p (inl r)) [ inl x ↦ inl (inr x) | inr x ↦ inr x ]
    ]
    | inr b ↦ elim (flush_keeps l d f p (inr b)) [ inl x ↦ inl (inr x) | inr x ↦ inr x ]
  ])
]

module _ (site : Ground) (words : Words) (views : List View) (j : ℕ) (v : View) (g : HasGrounds site words views) (a : AreasStand site words views)
    (loose : LooseIsHeld site.shape views) (at : At views j v) where
  abbrev AllFit : Words → View → Type 0
  AllFit later w = Fits site later (set views j w) × Owners site later (set views j w) × Lasting site later (set views j w)

  spared : (later : Words) (w : View) → SparesAreas site words views later stays v w → AllFit later w
  spared later w st =
      let q = sparing_lasts site words later views j v w stays at st in
      (sparing_steps site words later views j v w stays a.fits at st, q.0 a.owners, q.1 a.lasting)

  -- the locks, the loose words and the areas stay
  quiet : (later : Words) (w : View) → ((i : ℕ) → i < words_of site.shape → core site.shape later i ≡ core site.shape words i) → w.held ≡ v.held → w.dirty ≡ v.dirty → w.flushed ≡ v.flushed
      → w.areas ≡ v.areas → AllFit later w
  quiet later w cores held dirty flushed areas = spared later w (record {
    cores = cores;
    no_more = λ p l. elim l [ inl d ↦ inl (subst (Has p) dirty d) | inr f ↦ inr (subst (Has p) flushed f) ];
    no_less = λ p l. elim l [ inl d ↦ inl (subst (Has p) (sym dirty) d) | inr f ↦ inr (subst (Has p) (sym flushed) f) ];
    locks = λ lock has. inl (subst (λ l. HasLock l lock) held has);
    wholes = λ s has all b near. subst (λ l. HasLock l (bucket_at site.shape s b)) (sym held) (all b near);
    areas_are = areas;
    may = tt;
  })

  load : (w : View) → w.held ≡ v.held → w.dirty ≡ v.dirty → w.flushed ≡ v.flushed → w.areas ≡ v.areas → AllFit words w
  load w = quiet words w (λ i _. refl)

  look : (t : Bool) (lock n : ℕ) → AllFit words (with_look t lock n v)
  look true lock n = load (with_look true lock n v) refl refl refl refl
  look false lock n = load (with_look false lock n v) refl refl refl refl

  count : (t : Bool) (call : Call) (n : ℕ) → AllFit words (with_count t call n v)
  count true call n = load (with_count true call n v) refl refl refl refl
  count false call n = load (with_count false call n v) refl refl refl refl

  answer : (t : Bool) (o : Option Answer) (w : View) → w.held ≡ v.held → w.dirty ≡ v.dirty → w.flushed ≡ v.flushed → w.areas ≡ v.areas → AllFit words (with_answer t o w)
  answer false o w p q r s = load (with_answer false o w) p q r s
  answer true None w p q r s = load (with_answer true None w) p q r s
  answer true (Some x) w p q r s = load (with_answer true (Some x) w) p q r s

  -- a known lock is one of a living segment
  living : (lock : ℕ) → IsKnownLock site v lock → IsLivingLock site words views lock
  living lock k = record {
    segment = k.0;
    bucket = k.1;
    near = k.3;
    is = k.4;
    current = a.saying.said j v (Current k.0) at k.6 words (newest site words views);
    lives = a.saying.said j v (Lives k.0) at k.5;
  }

  won : (lock free : ℕ) → IsKnownLock site v lock → (t : Bool) → AllFit (after (cond t (exchanged j lock (free + 1)) (loaded j lock)) words) (with_lock t lock free v)
  won lock free k true = spared (with_word words lock (free + 1)) (with_lock true lock free v) (record {
    cores = λ i _. lock_cores site words lock (free + 1) (known_lock site v lock k) i;
    no_more = λ p l. l;
    no_less = λ p l. l;
    locks = λ other has. elim has.1 [
      | inl e ↦ inr (subst (λ z. IsLivingLock site words views z) (sym (ap (λ (z : ℕ × ℕ). z.0) e)) (living lock k))
      | inr old ↦ inl (has.0, old)
    ];
    wholes = λ s has all b near. let l = all b near in (l.0, inr l.1);
    areas_are = refl;
    may = tt;
  })
  won lock free k false = load v refl refl refl refl

  -- a word under a lock is no header
  no_head : (i : ℕ) → IsGuarded v.held i → (s : ℕ) → s < site.shape.segments → i ≢ header_word site.shape s
  no_head i guard s slot e =
      let l = a.fits.lock j v guard.0 at guard.1 in
      let u : IsUnder (bucket_at site.shape l.segment l.bucket) i = subst (λ z. IsUnder z i) l.is guard.2 in
      by (first_segment site.shape) l.segment l.bucket s i l.near u.0 u.1 e
    where
      by : (f q b s i : ℕ) → b < 66 → f + 2144 * q + 32 + 32 * b < i → i < f + 2144 * q + 32 + 32 * b + 32 → i ≡ f + 2144 * s + 1 → ⊥
      by f q b s i lb low high e = omega (arith, lb, low, high, e)

  store : (i x : ℕ) (w : View) → IsGuarded v.held i → HasStored site.shape i (words i) x v.areas v w → AllFit (with_word words i x) w
  store i x w guard st =
      let within = (near site words views a.fits j v i at (inl guard)).0 in
      let q = others_last site words views j v w i x at within (no_head i guard) st in
      (other_stores site words views j v w i x a.fits at within (no_head i guard) st, q.0 a.owners, q.1 a.lasting)

  flush : (l : ℕ) → AllFit words (record v { dirty = off_line l v.dirty; flushed = on_line l v.dirty ++ v.flushed })
  flush l = spared words (record v { dirty = off_line l v.dirty; flushed = on_line l v.dirty ++ v.flushed }) (record {
    cores = λ i _. refl;
    no_more = λ p q. flush_loose l v.dirty v.flushed p q;
    no_less = λ p q. flush_keeps l v.dirty v.flushed p q;
    locks = λ lock has. inl has;
    wholes = λ s has all. all;
    areas_are = refl;
    may = tt;
  })

  fence : AsksOfAreas site words fences v → AllFit words (record v { flushed = [] })
  fence unborn =
      let st : HasFenced v.areas v (record v { flushed = [] }) = record { held = refl; dirty = refl; flushed = refl; areas_are = refl } in
      let q = fences_last site words views j v (record v { flushed = [] }) v.areas g a.fits a.sound at loose (inl refl) st in
      (fences_keep site words views j v (record v { flushed = [] }) v.areas g a.fits at loose (inl refl) st unborn, q.0 a.owners, q.1 a.lasting)

  unlock : (lock next : ℕ) (w : View) → IsLockWord site.shape lock → AsksOfAreas site words (unlocks lock next) v → w.held ≡ without lock v.held → w.dirty ≡ v.dirty → w.flushed ≡ v.flushed
      → w.areas ≡ v.areas → AllFit (with_word words lock next) w
  unlock lock next w is none held dirty flushed areas = spared (with_word words lock next) w (record {
    cores = λ i _. lock_cores site words lock next is i;
    no_more = λ p l. elim l [ inl d ↦ inl (subst (Has p) dirty d) | inr f ↦ inr (subst (Has p) flushed f) ];
    no_less = λ p l. elim l [ inl d ↦ inl (subst (Has p) (sym dirty) d) | inr f ↦ inr (subst (Has p) (sym flushed) f) ];
    locks = λ other has. let o = subst (λ l. HasLock l other) held has in inl (o.0, (without_has lock other o.0 v.held o.1).1);
    wholes = λ s has. absurd (none s (subst (Has (Whole s)) areas has));
    areas_are = areas;
    may = tt;
  })

  -- the lock word of a lock that it holds
  held_lock : (lock x : ℕ) → Has (lock, x) v.held → IsLockWord site.shape lock
  held_lock lock x has = let l = a.fits.lock j v lock at (x, has) in (l.segment, l.bucket, l.current.live.slot, l.near, l.is)

pub callers_keep_areas : CallersKeepAreas
callers_keep_areas site (peeks i) words views j v g a loose at may ask = load site words views j v g a loose at _ refl refl refl refl
callers_keep_areas site asks_power words views j v g a loose at may ask = load site words views j v g a loose at _ refl refl refl refl
callers_keep_areas site meets_root words views j v g a loose at may ask = load site words views j v g a loose at _ refl refl refl refl
callers_keep_areas site (meets_entry e i) words views j v g a loose at may ask = load site words views j v g a loose at _ refl refl refl refl
callers_keep_areas site (meets_head s version) words views j v g a loose at may ask = load site words views j v g a loose at _ refl refl refl refl
callers_keep_areas site (pins s b) words views j v g a loose at may ask = load site words views j v g a loose at _ refl refl refl refl
callers_keep_areas site (finds_room call) words views j v g a loose at may ask =
    count site words views j v g a loose at (nat_lt (words (counter_word site.shape)) (2 ^ 63)) call (words (counter_word site.shape))
callers_keep_areas site (refuses call reply) words views j v g a loose at may ask = load site words views j v g a loose at _ refl refl refl refl
callers_keep_areas site (places k o) words views j v g a loose at may ask = load site words views j v g a loose at _ refl refl refl refl
callers_keep_areas site (looks lock) words views j v g a loose at may ask = look site words views j v g a loose at (eqb (words lock % 2) 0) lock (words lock)
callers_keep_areas site (glances_word lock i) words views j v g a loose at may ask = load site words views j v g a loose at _ refl refl refl refl
callers_keep_areas site (validates i) words views j v g a loose at may ask =
    answer site words views j v g a loose at (all_again (marked i (words i) v.notes)) v.answer (record v { notes = marked i (words i) v.notes }) refl refl refl refl
callers_keep_areas site (learns i) words views j v g a loose at may ask = load site words views j v g a loose at _ refl refl refl refl
callers_keep_areas site (meets_lock lock) words views j v g a loose at may ask = load site words views j v g a loose at _ refl refl refl refl
callers_keep_areas site (tries lock free) words views j v g a loose at may ask = won site words views j v g a loose at lock free may.0 (eqb (words lock) free)
callers_keep_areas site (stores i x) words views j v g a loose at may ask =
    store site words views j v g a loose at i x _ may.0.guarded (record { held = refl; dirty = refl; flushed = refl; areas_are = refl })
callers_keep_areas site (copies i x m) words views j v g a loose at may ask =
    store site words views j v g a loose at i x _ may.0.guarded (record { held = refl; dirty = refl; flushed = refl; areas_are = refl })
callers_keep_areas site (clears i x m) words views j v g a loose at may ask =
    store site words views j v g a loose at i x _ may.0.guarded (record { held = refl; dirty = refl; flushed = refl; areas_are = refl })
callers_keep_areas site (repays i x o) words views j v g a loose at may ask =
    store site words views j v g a loose at i x _ may.0.guarded (record { held = refl; dirty = refl; flushed = refl; areas_are = refl })
callers_keep_areas site (publishes i x call) words views j v g a loose at may ask =
    store site words views j v g a loose at i x _ may.0.guarded (record { held = refl; dirty = refl; flushed = refl; areas_are = refl })
callers_keep_areas site (stashes i x call o) words views j v g a loose at may ask =
    store site words views j v g a loose at i x _ may.0.guarded (record { held = refl; dirty = refl; flushed = refl; areas_are = refl })
callers_keep_areas site (flushes l) words views j v g a loose at may ask = flush site words views j v g a loose at l
callers_keep_areas site fences words views j v g a loose at may ask = fence site words views j v g a loose at ask
callers_keep_areas site (draws_place call) words views j v g a loose at may ask =
    quiet site words views j v g a loose at _ _ (λ i within. counter_cores site words _ i within) refl refl refl refl
callers_keep_areas site (unlocks lock next) words views j v g a loose at may ask =
    unlock site words views j v g a loose at lock next _ (held_lock site words views j v g a loose at lock may.0 may.1) ask refl refl refl refl
callers_keep_areas site cuts_power words views j v g a loose at may ask =
    quiet site words views j v g a loose at _ _ (λ i within. power_cores site words 1 i within) refl refl refl refl
