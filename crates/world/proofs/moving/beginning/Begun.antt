-- A restart begins the invariant: nobody has anything, and whatever a cut may leave has the cores of the newest words.
use Rattle.std.proofs.Common.{◌≡◌, ◌≢◌, ℕ, ◌+◌, ◌%◌, ◌<◌, ◌≤◌, List, [], inl, inr, refl, sym, ap, ◌∙◌, subst, arith}
use Rattle.trace.specs.Events.{Words}
use Rattle.segment_head.specs.HeadWord.{version_in, state_in, splitting}
use Rattle.image_layout.specs.Places.{words_of}
use Rattle.image_layout.specs.Volatile.{counter_word, power_word}
use Rattle.map_model.specs.Weave.{draws}
use Rattle.map_model.specs.Legal.{InOrder, seen_of}
use Rattle.sound_image.specs.Segments.{frame_of, image_version, state_at}
use Rattle.frame_facts.specs.Core.{core}
use Rattle.world.specs.Ground.{Ground, version_of, IsCurrentIn, IsCurrentLock}
use Rattle.world.specs.Views.{View, Has, At, IsLoose}
use Rattle.world.specs.Media.{IsPossible}
use Rattle.world.specs.World.{World, fresh_view}
use Rattle.world.specs.areas.Areas.{header_word}
use Rattle.world.specs.areas.Kinds.{guard_word}
use Rattle.world.specs.Invariant.{Holds}
use Rattle.world.specs.areas.Beginning.{AreasStand, IsRestarted, Begins, RestartsBegin, RaisedVersionsLeaveNoneCurrent, RaisedVersionsBegin}
use Rattle.world.proofs.basics.Structures.{front_is, header_is}
use Rattle.world.proofs.basics.Tables.{core_structure_same, same_keeps, same_hit, same_find}
use Rattle.world.proofs.basics.Entries.{total_none}
use Rattle.world.proofs.fitting.Beginning.{fresh_stand}
use Rattle.world.proofs.moving.keeping.Fitting.{guard_behind}
use Rattle.world.proofs.moving.keeping.HeldGuards.{guard_within}

module _ (site : Ground) (start : Words) (world : World) (b : Begins site start world) where
  abbrev r : IsRestarted site start world
  r = b.restarted

  -- nobody has anything in a list
  none : {X : Type 0} (f : View → List X) → ((n : ℕ) → f (fresh_view n) ≡ []) → (j : ℕ) (v : View) (x : X) → At world.views j v → Has x (f v) → ⊥
  none f empty j v x at h = subst (λ zs. Has x zs) (ap f (r.fresh j v at) ∙ empty v.callers) h

  not_loose : (j : ℕ) (v : View) (p : ℕ × ℕ) → At world.views j v → IsLoose v p → ⊥
  not_loose j v p at l = elim l [ inl d ↦ none (λ v. v.dirty) (λ _. refl) j v p at d | inr f ↦ none (λ v. v.flushed) (λ _. refl) j v p at f ]

  cores : (m : Words) → IsPossible site world.words world.views m → (i : ℕ) → i < words_of site.shape → core site.shape m i ≡ core site.shape world.words i
  cores m p i within = elim (p i within) [ inl e ↦ e | inr e ↦ absurd (not_loose e.0 e.1 (i, e.2) e.3 e.4) ]

  is_fresh : (P : View → Type 0) → ((n : ℕ) → P (fresh_view n)) → (j : ℕ) (v : View) → At world.views j v → P v
  is_fresh P p j v at = subst P (sym (r.fresh j v at)) (p v.callers)

  unsplit : (s : ℕ) → IsCurrentIn site world.words s → state_at (frame_of site.shape world.words) s ≢ splitting
  unsplit s is split = let n = (b.repaired s is).normal in omega (arith, n, split)

  stand : AreasStand site world.words world.views
  stand = fresh_stand site world.words world.views r.site_is r.structured.sound r.fresh unsplit

  counter : world.words (counter_word site.shape) ≡ 0
  counter = r.behind (counter_word site.shape) (omega arith) (omega arith)

  power : world.words (power_word site.shape) ≡ 0
  power = r.behind (power_word site.shape) (omega arith) (omega arith)

  lock_is_free : (lock : ℕ) → IsCurrentLock site world.words lock → world.words lock % 2 ≡ 0
  lock_is_free lock is = subst (λ (n : ℕ). world.words n % 2 ≡ 0) (sym is.4) ((b.repaired is.0 is.5).free is.1 is.3)

  holds : Holds site world.words world.views
  holds = record {
    site_is = r.site_is;
    log = [];
    structure = record {
      sound = λ m p. record {
        fixed = λ i low other. core_structure_same site world.words m (cores m p) i (front_is site.shape i low) ∙ r.structured.fixed i low other;
        sound = stand.sound m p;
      };
      fits = stand.fits;
      owners = stand.owners;
      lasting = stand.lasting;
      settled_slots = λ n slot some. inr (λ m p is. some
          (sym (ap state_in (core_structure_same site world.words m (cores m p) (header_word site.shape n) (header_is site.shape n slot))) ∙ is));
      used_slots = λ n slot was some. absurd (some (ap state_in (r.heads n slot) ∙ was));
      guards = λ j v guard at h. absurd (none (λ v. v.areas) (λ _. refl) j v _ at h);
      held_guards = λ guard is some. absurd (some (r.behind (guard_word site.shape guard) (guard_behind site.shape guard) (guard_within site.shape guard is)));
      says = λ j v fact m at h p. absurd (none (λ v. v.facts) (λ _. refl) j v fact at h);
      may_say = λ j v fact at h. absurd (none (λ v. v.facts) (λ _. refl) j v fact at h);
      pinned = λ j v s x at h. absurd (none (λ v. v.pinned) (λ _. refl) j v (s, x) at h);
    };
    locks = record {
      alone = λ i j u v lock x y at at' h h'. absurd (none (λ v. v.held) (λ _. refl) i u (lock, x) at h);
      locked = λ j v lock x at h. absurd (none (λ v. v.held) (λ _. refl) j v (lock, x) at h);
      odd = λ lock is odd. absurd (let f = lock_is_free lock is in omega (arith, f, odd));
    };
    known = record {
      knows = λ j v i x at h. absurd (none (λ v. v.known) (λ _. refl) j v (i, x) at h);
      loose = λ j v i x at h. absurd (not_loose j v (i, x) at h);
    };
    plans = record {
      places = λ j v c at h s b n own hit. absurd (none (λ v. v.planned) (λ _. refl) j v c at h);
      held = λ j v c at h. absurd (none (λ v. v.planned) (λ _. refl) j v c at h);
      stored = λ j v c at h. absurd (none (λ v. v.planned) (λ _. refl) j v c at h);
      fits = λ j v c at h. absurd (none (λ v. v.planned) (λ _. refl) j v c at h);
    };
    history = record {
      counter = counter;
      right = λ j v e at h. absurd (none (λ v. v.own) (λ _. refl) j v e at h);
      in_order = is_fresh (λ v. InOrder 1 0 v.own) (λ n. tt);
      after_own = is_fresh (λ v. seen_of 0 v.own ≤ v.seen) (λ n. omega arith);
      within = is_fresh (λ v. v.seen ≤ 0) (λ n. omega arith);
      drawn = total_none (λ v. draws v.own) world.views (is_fresh (λ v. draws v.own ≡ 0) (λ n. refl));
      each_once = λ n below. absurd (omega (arith, below));
    };
    records = record {
      own = λ s c q k watched hit. (b.repaired s watched.0).in_order.own c q k hit;
      once = λ s c q d t k watched x y. inl ((b.repaired s watched.0).in_order.once c q d t k x y);
      held = λ j v m at h. absurd (none (λ v. v.moving) (λ _. refl) j v m at h);
    };
    notes_of_homes = record {
      exact = λ s c watched near _. (b.repaired s watched.0).in_order.exact c near;
      owes = λ j v o at h. absurd (none (λ v. v.owed) (λ _. refl) j v o at h);
      held = λ j v o at h. absurd (none (λ v. v.owed) (λ _. refl) j v o at h);
      fits = λ j v o at h. absurd (none (λ v. v.owed) (λ _. refl) j v o at h);
    };
    media = record {
      table = λ m p. (same_keeps site world.words m (λ i within. sym (cores m p i within)) r.table).table;
      stashed = λ m p s c t k watched small own hit. inl (same_hit site m world.words (cores m p) s (64 + c) t k hit);
      stands = λ m p k. inl (same_find site m world.words k (cores m p) ∙ r.pairs k);
    };
    notes = record {
      past = λ j v n at h. absurd (none (λ v. v.notes) (λ _. refl) j v n at h);
      inside = λ j v n i x at h l. absurd (none (λ v. v.notes) (λ _. refl) j v n at h);
      same = λ j v n i x at h e l. absurd (none (λ v. v.notes) (λ _. refl) j v n at h);
      answered = λ j v a at is all. absurd (let q = ap (λ (z : View). z.answer) (r.fresh j v at) in cc);
    };
    room = record {
      callers = r.callers;
      each = is_fresh (λ v. v.room ≤ v.callers) (λ n. omega arith);
      few = (let z = total_none (λ v. v.room) world.views (is_fresh (λ v. v.room ≡ 0) (λ n. refl)) in omega (arith, z));
    };
    spending = record {
      met = λ j v lock at h. absurd (none (λ v. v.spent_locks) (λ _. refl) j v lock at h);
      told = λ j v e at h. absurd (none (λ v. v.own) (λ _. refl) j v e at h);
    };
    powered = λ off. absurd (off power);
  }

pub restarts_begin : RestartsBegin
restarts_begin site start world b = holds site start world b

-- ---- a raised version
pub none_current : RaisedVersionsLeaveNoneCurrent
none_current site before words raised s is = below (version_in (words (header_word site.shape s))) (image_version (frame_of site.shape before)) (version_of site)
    (subst (λ (n : ℕ). version_in n ≤ image_version (frame_of site.shape before)) (sym (raised.headers s is.live.slot)) (raised.past s is.live.slot)) raised.raised is.current
  where
    below : (has was now : ℕ) → has ≤ was → was < now → has ≡ now → ⊥
    below has was now past up e = omega (arith, past, up, e)

pub raised_begins : RaisedVersionsBegin
raised_begins site start before world restarted raised = record { restarted = restarted; repaired = λ s is. absurd (none_current site before world.words raised s is) }
