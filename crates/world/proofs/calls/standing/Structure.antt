-- Each kind of step of a caller that has no segment whole keeps what is said of the structure: no such kind stores to a word of it or of a
-- guard, and what loads tell holds beside whatever a cut may leave.
use Rattle.std.proofs.Common.{◌≡◌, ◌⊎◌, ℕ, ◌+◌, ◌%◌, ◌^◌, ◌<◌, Bool, true, false, cond, eqb, List, [], ◌∷◌, ◌++◌, set, Option, None, Some, inl, inr, refl, sym, ap, ◌∙◌, subst, arith}
use Rattle.std.specs.Prelude.{nat_lt, ◌&&◌}
use Rattle.std.proofs.lemmas.Bool.{eqb-true, and_parts}
use Rattle.trace.specs.Events.{Words, with_word, after}
use Rattle.trace.specs.Events.Event.{loaded, exchanged}
use Rattle.trace.proofs.Replaced.{replaced_other}
use Rattle.segment_head.specs.HeadWord.{version_in, state_in, is_live}
use Rattle.image_layout.specs.Places.{root_word, entry_at, head_at, words_of, bucket_at}
use Rattle.image_layout.specs.Volatile.{counter_word, power_word}
use Rattle.map_model.specs.declared.call.Call.{Call}
use Rattle.frame_facts.specs.Core.{core}
use Rattle.frame_facts.specs.Owners.{HasStructure}
use Rattle.frame_facts.specs.Facts.{Fact, Lives, Rooted}
use Rattle.frame_facts.proofs.Structure.{followed}
use Rattle.world.specs.Ground.{Ground, IsLockWord, version_of}
use Rattle.world.specs.Views.{Answer, View, Has, At, HasLock, IsGuarded, IsLoose}
use Rattle.world.specs.Media.{IsPossible}
use Rattle.world.specs.Kinds.{Kind, peeks, asks_power, meets_root, meets_entry, meets_head, pins, finds_room, refuses, places, looks, glances_word, validates, learns, meets_lock, tries, stores, copies, clears, repays, publishes, stashes, flushes, fences, draws_place, unlocks, cuts_power, says_current, marked, all_again, with_answer, with_look, with_count, with_lock, view_after}
use Rattle.world.specs.Conditions.{May}
use Rattle.world.specs.Parts.{IsPinned}
use Rattle.world.specs.Invariant.{Structure, Holds}
use Rattle.world.specs.Laws.{found_by, words_by, views_by}
use Rattle.world.specs.areas.Areas.{Side, Allocation, header_word}
use Rattle.world.specs.areas.Fitting.{Fits}
use Rattle.world.specs.areas.Rows.{HasStored}
use Rattle.world.specs.areas.Lasting.{Owners, Lasting, AreSoundMedia}
use Rattle.world.specs.areas.Saying.{IsSaid, MaySay}
use Rattle.world.specs.areas.Beginning.{AreasStand}
use Rattle.world.specs.areas.Kinds.{Guard, guard_word, area_of}
use Rattle.world.specs.areas.Bridging.{CallersKeepStructure}
use Rattle.world.proofs.basics.Grounds.{lock_within}
use Rattle.world.proofs.basics.Structures.{known_lock, header_is}
use Rattle.world.proofs.basics.Seats.{each, guarded_within, guarded_structure, flush_loose}
use Rattle.world.proofs.basics.Tables.{core_structure_same, lock_cores, counter_cores, power_cores}
use Rattle.world.proofs.invariant.Stays.{areas_stay}
use Rattle.world.proofs.fitting.Stored.{grown_by}
use Rattle.world.proofs.fitting.Calling.{callers_keep_areas}
use Rattle.world.proofs.fitting.Learning.{roots_tell, entries_tell, headers_tell}
use Rattle.world.proofs.moving.Known.{grounds, held_living}
use Rattle.world.proofs.moving.Stepping.{structured_by, still_back, fenced_less}
use Rattle.world.proofs.moving.keeping.Keepers.{guards_of}
use Rattle.world.proofs.moving.keeping.HeldGuards.{held_same}
use Rattle.world.proofs.moving.Used.{slots_same}
use Rattle.world.proofs.moving.media.Settled.{stays_settled}
use Rattle.world.proofs.mild.Steps.{guard_behind}

-- ---- what becomes of a view
-- a view relies on what another does, and has pinned, holds and has loose what it has
abbrev pub IsLike : View → View → Type 0
IsLike w v = (w.facts ≡ v.facts) × (w.pinned ≡ v.pinned) × (w.held ≡ v.held) × (w.dirty ≡ v.dirty) × (w.flushed ≡ v.flushed)

look_like : (t : Bool) (lock n : ℕ) (v : View) → IsLike (with_look t lock n v) v
look_like true lock n v = (refl, refl, refl, refl, refl)
look_like false lock n v = (refl, refl, refl, refl, refl)

count_like : (t : Bool) (call : Call) (n : ℕ) (v : View) → IsLike (with_count t call n v) v
count_like true call n v = (refl, refl, refl, refl, refl)
count_like false call n v = (refl, refl, refl, refl, refl)

answer_like : (t : Bool) (a : Option Answer) (v : View) → IsLike (with_answer t a v) v
answer_like false a v = (refl, refl, refl, refl, refl)
answer_like true None v = (refl, refl, refl, refl, refl)
answer_like true (Some a) v = (refl, refl, refl, refl, refl)

-- such a view has no more loose
like_less : (v w : View) → IsLike w v → (p : ℕ × ℕ) → IsLoose w p → IsLoose v p
like_less v w like p l = elim l [ inl d ↦ inl (subst (Has p) like.3 d) | inr f ↦ inr (subst (Has p) like.4 f) ]

-- what a view relies on after a step: on what it did, or on what is said of all media; and its locks keep what it has pinned
pub record Relies (site : Ground) (words : Words) (views : List View) (v w : View) : Type 0 where
  pub facts : (fact : Fact) → Has fact w.facts → Has fact v.facts ⊎ (IsSaid site words views fact × MaySay v.areas fact)
  pub pinned : (s x : ℕ) → Has (s, x) w.pinned → IsPinned site words v s x × ((lock : ℕ) → HasLock v.held lock → HasLock w.held lock)

-- what a step leaves of the words: no word of the structure is stored, be it in the newest words or in a medium, and no word of a guard
pub record LeavesStructure (site : Ground) (words us : Words) (views views' : List View) : Type 0 where
  pub now : HasStructure site.shape words us
  pub media : (m : Words) → IsPossible site us views' m → (q : Words) × IsPossible site words views q × HasStructure site.shape q m
  pub guards : (guard : Guard) → us (guard_word site.shape guard) ≡ words (guard_word site.shape guard)

-- all that is said of areas is so
pub areas_stand : (site : Ground) (words : Words) (views : List View) → Structure site words views → AreasStand site words views
areas_stand site words views s = record {
  fits = s.fits;
  sound = λ m p. (s.sound m p).sound;
  owners = s.owners;
  lasting = s.lasting;
  saying = record { said = λ c u fact a has m p. s.says c u fact m a has p; may = λ c u fact a has. s.may_say c u fact a has };
  guards = guards_of site words views s.guards;
}

module _ (site : Ground) (words : Words) (views : List View) (j : ℕ) (v : View) (h : Holds site words views) (at : At views j v) where
  sound : AreSoundMedia site words views
  sound m p = (h.structure.sound m p).sound

  -- what a view of the time before relied on was said of all media
  said_of : (c : ℕ) (u : View) → At views c u → (fact : Fact) → Has fact u.facts → IsSaid site words views fact
  said_of c u a fact has m p = h.structure.says c u fact m a has p

  -- ---- a step that leaves the structure keeps what is said of it
  module _ (us : Words) (w : View) (leaves : LeavesStructure site words us views (set views j w)) (relies : Relies site words views v w) (areas : w.areas ≡ v.areas) where
    goes_on : (fact : Fact) → IsSaid site words views fact → IsSaid site us (set views j w) fact
    goes_on fact said m p = let q = leaves.media m p in followed site.shape (version_of site) words us q.0 m
        (record { shape_fits = h.site_is.shape; newest = (grounds site words views h).sound; there = sound q.0 q.1 }) leaves.now q.2 fact (said q.0 q.1)

    -- what a view may say it may say with the same areas
    says_with : (fact : Fact) → MaySay v.areas fact → MaySay w.areas fact
    says_with fact said = subst (λ l. MaySay l fact) (sym areas) said

    -- a guard's word is as it was
    still_taken : (c : ℕ) (u : View) (guard : Guard) → At views c u → Has (area_of guard) u.areas → us (guard_word site.shape guard) ≡ 0 → ⊥
    still_taken c u guard a has z = h.structure.guards c u guard a has (sym (leaves.guards guard) ∙ z)

    -- so is a header that some lock of its segment keeps
    still_pinned : (c : ℕ) (u u' : View) (s x : ℕ) → At views c u → IsPinned site words u s x → ((lock : ℕ) → HasLock u.held lock → HasLock u'.held lock) → IsPinned site us u' s x
    still_pinned c u u' s x a p more =
        let slot = (held_living site words views h c u a s p.0 p.1 p.2).0.live.slot in
        (p.0, p.1, more (bucket_at site.shape s p.0) p.2, leaves.now (head_at site.shape s + 1) (header_is site.shape s slot) ∙ p.3)

    pub standing : Fits site us (set views j w) × Owners site us (set views j w) × Lasting site us (set views j w) → Structure site us (set views j w)
    standing fit = record {
      sound = λ m p. let q = leaves.media m p in structured_by site h.site_is q.0 m q.2 (h.structure.sound q.0 q.1);
      fits = fit.0;
      guards = λ c u guard a has. each views j v w at (λ c u. Has (area_of guard) u.areas → us (guard_word site.shape guard) ≡ 0 → ⊥)
          (λ has. still_taken j v guard at (subst (Has (area_of guard)) areas has)) (λ c u ne a has. still_taken c u guard a has) c u a has;
      held_guards = held_same site words views j v at h.structure.held_guards us w leaves.guards (λ guard has. subst (Has (area_of guard)) (sym areas) has);
      says = λ c u fact m a has p. each views j v w at (λ c u. Has fact u.facts → IsSaid site us (set views j w) fact)
          (λ has. elim (relies.facts fact has) [ inl old ↦ goes_on fact (said_of j v at fact old) | inr new ↦ goes_on fact new.0 ])
          (λ c u ne a has. goes_on fact (said_of c u a fact has)) c u a has m p;
      may_say = λ c u fact a has. each views j v w at (λ c u. Has fact u.facts → MaySay u.areas fact)
          (λ has. elim (relies.facts fact has) [ inl old ↦ says_with fact (h.structure.may_say j v fact at old) | inr new ↦ says_with fact new.1 ])
          (λ c u ne a has. h.structure.may_say c u fact a has) c u a has;
      pinned = λ c u s x a has. each views j v w at (λ c u. Has (s, x) u.pinned → IsPinned site us u s x)
          (λ has. let p = relies.pinned s x has in still_pinned j v w s x at p.0 p.1)
          (λ c u ne a has. still_pinned c u u s x a (h.structure.pinned c u s x a has) (λ lock l. l)) c u a has;
      owners = fit.1;
      lasting = fit.2;
      settled_slots = λ n slot some. stays_settled site words views j v h at us w n slot
          (λ is. some (ap state_in (leaves.now (header_word site.shape n) (header_is site.shape n slot)) ∙ is))
          (λ guard side. inl (subst (Has Allocation) (sym areas) guard, subst (Has (Side n)) (sym areas) side))
          (λ m p is. let q = leaves.media m p in (q.0, q.1, sym (ap state_in (q.2 (header_word site.shape n) (header_is site.shape n slot))) ∙ is));
      used_slots = slots_same site words h.site_is (grounds site words views h).sound us leaves.now h.structure.used_slots;
    }

  -- ---- which words a step leaves
  -- those of the image, by their cores, and those of guards
  cores_leave : (us : Words) (w : View) → ((n : ℕ) → n < words_of site.shape → core site.shape us n ≡ core site.shape words n) → ((p : ℕ × ℕ) → IsLoose w p → IsLoose v p)
      → ((guard : Guard) → us (guard_word site.shape guard) ≡ words (guard_word site.shape guard)) → LeavesStructure site words us views (set views j w)
  cores_leave us w cores less guards = record {
    now = core_structure_same site words us cores;
    media = λ m p. (m, still_back site words us views j v w at (record { cores = cores; less = less }) m p, λ i is. refl);
    guards = guards;
  }

  -- a load, a flush or a fence
  less_leaves : (w : View) → ((p : ℕ × ℕ) → IsLoose w p → IsLoose v p) → LeavesStructure site words words views (set views j w)
  less_leaves w less = cores_leave words w (λ n _. refl) less (λ guard. refl)

  like_leaves : (w : View) → IsLike w v → LeavesStructure site words words views (set views j w)
  like_leaves w like = less_leaves w (like_less v w like)

  fence_leaves : (w : View) → w.dirty ≡ v.dirty → w.flushed ≡ [] → LeavesStructure site words words views (set views j w)
  fence_leaves w dirty flushed = less_leaves w (fenced_less v w dirty (λ p f. subst (Has p) flushed f))

  -- a store to a lock word
  lock_leaves : (lock x : ℕ) (w : View) → IsLockWord site.shape lock → ((p : ℕ × ℕ) → IsLoose w p → IsLoose v p) → LeavesStructure site words (with_word words lock x) views (set views j w)
  lock_leaves lock x w is less = cores_leave (with_word words lock x) w (λ n _. lock_cores site words lock x is n) less
      (λ guard. replaced_other words lock x (guard_word site.shape guard) (λ e. let near = lock_within site.shape lock is in omega (arith, near, guard_behind site.shape guard, e)))

  tried_leaves : (lock free : ℕ) → IsLockWord site.shape lock → (t : Bool)
      → LeavesStructure site words (after (cond t (exchanged j lock (free + 1)) (loaded j lock)) words) views (set views j (with_lock t lock free v))
  tried_leaves lock free is true = lock_leaves lock (free + 1) (with_lock true lock free v) is (λ p l. l)
  tried_leaves lock free is false = less_leaves v (λ p l. l)

  -- one to the counter or the power word
  counter_leaves : (x : ℕ) (w : View) → IsLike w v → LeavesStructure site words (with_word words (counter_word site.shape) x) views (set views j w)
  counter_leaves x w like = cores_leave (with_word words (counter_word site.shape) x) w (λ n within. counter_cores site words x n within) (like_less v w like)
      (λ guard. replaced_other words (counter_word site.shape) x (guard_word site.shape guard) (λ e. omega (arith, guard_behind site.shape guard, e)))

  power_leaves : (x : ℕ) (w : View) → IsLike w v → LeavesStructure site words (with_word words (power_word site.shape) x) views (set views j w)
  power_leaves x w like = cores_leave (with_word words (power_word site.shape) x) w (λ n within. power_cores site words x n within) (like_less v w like)
      (λ guard. replaced_other words (power_word site.shape) x (guard_word site.shape guard) (λ e. omega (arith, guard_behind site.shape guard, e)))

  -- one to a word under a lock that the view holds
  stored_leaves : (i x : ℕ) (w : View) → IsGuarded v.held i → HasStored site.shape i (words i) x v.areas v w → LeavesStructure site words (with_word words i x) views (set views j w)
  stored_leaves i x w guarded st =
      let near = guarded_within site words views h.locks j v i at guarded in
      record {
        now = guarded_structure site words views h.locks j v i x at guarded words;
        media = λ m p. elim (grown_by site words views j v w i x v.areas at st near m p) [
          | inl q ↦ (m, q, λ n is. refl)
          | inr q ↦ (q.0, q.1, λ n is. q.2 n is ∙ guarded_structure site words views h.locks j v i x at guarded q.0 n is)
        ];
        guards = λ guard. replaced_other words i x (guard_word site.shape guard) (λ e. omega (arith, near, guard_behind site.shape guard, e));
      }

  pub leaves : (kind : Kind) → May site kind v → LeavesStructure site words (words_by site kind j words) views (views_by site kind j v words views)
  leaves (peeks i) may = like_leaves _ (refl, refl, refl, refl, refl)
  leaves asks_power may = like_leaves _ (refl, refl, refl, refl, refl)
  leaves meets_root may = less_leaves _ (λ p l. l)
  leaves (meets_entry e i) may = less_leaves _ (λ p l. l)
  leaves (meets_head s version) may = less_leaves _ (λ p l. l)
  leaves (pins s b) may = less_leaves _ (λ p l. l)
  leaves (finds_room call) may = like_leaves _ (count_like (nat_lt (words (counter_word site.shape)) (2 ^ 63)) call (words (counter_word site.shape)) v)
  leaves (refuses call reply) may = like_leaves _ (refl, refl, refl, refl, refl)
  leaves (places k a) may = like_leaves _ (refl, refl, refl, refl, refl)
  leaves (looks lock) may = like_leaves _ (look_like (eqb (words lock % 2) 0) lock (words lock) v)
  leaves (glances_word lock i) may = like_leaves _ (refl, refl, refl, refl, refl)
  leaves (validates lock) may = like_leaves _ (answer_like (all_again (marked lock (words lock) v.notes)) v.answer (record v { notes = marked lock (words lock) v.notes }))
  leaves (learns i) may = like_leaves _ (refl, refl, refl, refl, refl)
  leaves (meets_lock lock) may = like_leaves _ (refl, refl, refl, refl, refl)
  leaves (tries lock free) may = tried_leaves lock free (known_lock site v lock may.0) (eqb (words lock) free)
  leaves (stores i x) may = stored_leaves i x _ may.0.guarded (record { held = refl; dirty = refl; flushed = refl; areas_are = refl })
  leaves (copies i x m) may = stored_leaves i x _ may.0.guarded (record { held = refl; dirty = refl; flushed = refl; areas_are = refl })
  leaves (clears i x m) may = stored_leaves i x _ may.0.guarded (record { held = refl; dirty = refl; flushed = refl; areas_are = refl })
  leaves (repays i x o) may = stored_leaves i x _ may.0.guarded (record { held = refl; dirty = refl; flushed = refl; areas_are = refl })
  leaves (publishes i x call) may = stored_leaves i x _ may.0.guarded (record { held = refl; dirty = refl; flushed = refl; areas_are = refl })
  leaves (stashes i x call o) may = stored_leaves i x _ may.0.guarded (record { held = refl; dirty = refl; flushed = refl; areas_are = refl })
  leaves (flushes l) may = less_leaves _ (λ p q. flush_loose l v.dirty v.flushed p q)
  leaves fences may = fence_leaves _ refl refl
  leaves (draws_place call) may = counter_leaves _ _ (refl, refl, refl, refl, refl)
  leaves (unlocks lock next) may = lock_leaves lock next _ (h.locks.locked j v lock may.0 at may.1).0 (λ p l. l)
  leaves cuts_power may = power_leaves 1 _ (refl, refl, refl, refl, refl)

  -- ---- what a view relies on after a step
  -- a fact that is said of all media, and that the view may say
  abbrev IsLearnt : Fact → Type 0
  IsLearnt fact = IsSaid site words views fact × MaySay v.areas fact

  old_pins : (w : View) → w.pinned ≡ v.pinned → ((lock : ℕ) → HasLock v.held lock → HasLock w.held lock) → (s x : ℕ) → Has (s, x) w.pinned
      → IsPinned site words v s x × ((lock : ℕ) → HasLock v.held lock → HasLock w.held lock)
  old_pins w pinned more s x has = (h.structure.pinned j v s x at (subst (λ ps. Has (s, x) ps) pinned has), more)

  -- on what it did
  relies_still : (w : View) → w.facts ≡ v.facts → w.pinned ≡ v.pinned → ((lock : ℕ) → HasLock v.held lock → HasLock w.held lock) → Relies site words views v w
  relies_still w facts pinned more = record { facts = λ fact has. inl (subst (Has fact) facts has); pinned = old_pins w pinned more }

  relies_like : (w : View) → IsLike w v → Relies site words views v w
  relies_like w like = relies_still w like.0 like.1 (λ lock l. subst (λ ls. HasLock ls lock) (sym like.2) l)

  -- on more
  relies_more : (w : View) → w.pinned ≡ v.pinned → w.held ≡ v.held → ((fact : Fact) → Has fact w.facts → Has fact v.facts ⊎ IsLearnt fact) → Relies site words views v w
  relies_more w pinned held facts = record { facts = facts; pinned = old_pins w pinned (λ lock l. subst (λ ls. HasLock ls lock) (sym held) l) }

  one_more : (new fact : Fact) → IsLearnt new → Has fact (new ∷ v.facts) → Has fact v.facts ⊎ IsLearnt fact
  one_more new fact so has = elim has [ inl is ↦ inr (subst IsLearnt (sym is) so) | inr old ↦ inl old ]

  tried_relies : (lock free : ℕ) (t : Bool) → Relies site words views v (with_lock t lock free v)
  tried_relies lock free true = relies_still (with_lock true lock free v) refl refl (λ k l. (l.0, inr l.1))
  tried_relies lock free false = relies_still v refl refl (λ k l. l)

  -- where the header of a live segment is live with the version
  module _ (s version : ℕ) (may : May site (meets_head s version) v) where
    abbrev head : ℕ
    head = words (head_at site.shape s + 1)

    says_so : (t : Bool) → (is_live head && eqb (version_in head) version) ≡ t → (fact : Fact) → Has fact (says_current t s head ++ v.facts) → Has fact v.facts ⊎ IsLearnt fact
    says_so false is fact has = inl has
    says_so true is fact has =
        let tells = headers_tell site words views s h.structure.lasting (said_of j v at (Lives s) may.0) in
        let both = and_parts (is_live head) (eqb (version_in head) version) is in
        elim has [
          | inl current ↦ inr (subst IsLearnt (sym current) (tells.0 (eqb-true (version_in head) version both.1 ∙ may.1), tt))
          | inr more ↦ elim more [
            | inl begins ↦ inr (subst IsLearnt (sym begins) (tells.1, tt))
            | inr old ↦ inl old
          ]
        ]

  relies : (kind : Kind) → May site kind v → Relies site words views v (view_after site.shape kind (found_by site kind words) v)
  relies (peeks i) may = relies_like _ (refl, refl, refl, refl, refl)
  relies asks_power may = relies_like _ (refl, refl, refl, refl, refl)
  relies meets_root may = relies_more _ refl refl (λ fact has. one_more (Rooted (words root_word)) fact (roots_tell site words views (grounds site words views h) sound, tt) has)
  relies (meets_entry e i) may = relies_more _ refl refl
      (λ fact has. one_more (Lives (words (entry_at e i))) fact (entries_tell site words views e i may.2 (said_of j v at (Rooted e) may.0), tt) has)
  relies (meets_head s version) may = relies_more _ refl refl (says_so s version may (is_live (head s version may) && eqb (version_in (head s version may)) version) refl)
  relies (pins s b) may = record {
    facts = λ fact has. inl has;
    pinned = λ t x has. elim has [
      | inl is ↦ (
        (
          b,
          may.0,
          subst (λ (z : ℕ). HasLock v.held (bucket_at site.shape z b)) (sym (ap (λ (z : ℕ × ℕ). z.0) is)) may.1,
          ap (λ (z : ℕ × ℕ). words (head_at site.shape z.0 + 1)) is ∙ sym (ap (λ (z : ℕ × ℕ). z.1) is),
        ),
        λ lock l. l,
      )
      | inr old ↦ (h.structure.pinned j v t x at old, λ lock l. l)
    ];
  }
  relies (finds_room call) may = relies_like _ (count_like (nat_lt (words (counter_word site.shape)) (2 ^ 63)) call (words (counter_word site.shape)) v)
  relies (refuses call reply) may = relies_like _ (refl, refl, refl, refl, refl)
  relies (places k a) may = relies_like _ (refl, refl, refl, refl, refl)
  relies (looks lock) may = relies_like _ (look_like (eqb (words lock % 2) 0) lock (words lock) v)
  relies (glances_word lock i) may = relies_like _ (refl, refl, refl, refl, refl)
  relies (validates lock) may = relies_like _ (answer_like (all_again (marked lock (words lock) v.notes)) v.answer (record v { notes = marked lock (words lock) v.notes }))
  relies (learns i) may = relies_like _ (refl, refl, refl, refl, refl)
  relies (meets_lock lock) may = relies_like _ (refl, refl, refl, refl, refl)
  relies (tries lock free) may = tried_relies lock free (eqb (words lock) free)
  relies (stores i x) may = relies_still _ refl refl (λ lock l. l)
  relies (copies i x m) may = relies_still _ refl refl (λ lock l. l)
  relies (clears i x m) may = relies_still _ refl refl (λ lock l. l)
  relies (repays i x o) may = relies_still _ refl refl (λ lock l. l)
  relies (publishes i x call) may = relies_still _ refl refl (λ lock l. l)
  relies (stashes i x call o) may = relies_still _ refl refl (λ lock l. l)
  relies (flushes l) may = relies_still _ refl refl (λ lock l. l)
  relies fences may = relies_still _ refl refl (λ lock l. l)
  relies (draws_place call) may = relies_like _ (refl, refl, refl, refl, refl)
  relies (unlocks lock next) may = record { facts = λ fact has. inl has; pinned = λ s x has. absurd has }
  relies cuts_power may = relies_like _ (refl, refl, refl, refl, refl)

pub structure_by_callers : CallersKeepStructure
structure_by_callers site kind words views j v h at none may ask =
    standing site words views j v h at (words_by site kind j words) (view_after site.shape kind (found_by site kind words) v) (leaves site words views j v h at kind may)
    (relies site words views j v h at kind may) (areas_stay site.shape kind (found_by site kind words) v)
    (callers_keep_areas site kind words views j v (grounds site words views h) (areas_stand site words views h.structure) (λ c u i x a l. h.known.loose c u i x a l) at may ask)
