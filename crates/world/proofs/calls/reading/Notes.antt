-- Notes of readers stay notes, and noted answers right, at each kind of step of a caller.
use Rattle.std.proofs.Common.{◌≡◌, ℕ, ◌+◌, ◌%◌, ◌^◌, ◌≤◌, Bool, true, false, cond, eqb, List, ◌∷◌, set, Option, None, Some, inl, inr, refl, sym, ap, ◌∙◌, subst, arith}
use Rattle.std.proofs.lemmas.Bool.{eqb-true}
use Rattle.std.specs.Option.{unwrap_or}
use Rattle.std.specs.Prelude.{nat_lt}
use Rattle.trace.specs.Events.{Words, with_word, after}
use Rattle.trace.specs.Events.Event.{loaded, exchanged}
use Rattle.image_layout.specs.Places.{bucket_at}
use Rattle.image_layout.specs.Volatile.{counter_word, power_word}
use Rattle.hash_word.specs.Hash.{home_of}
use Rattle.map_model.specs.declared.call.Call.{Call}
use Rattle.sound_image.specs.Records.{key_hash}
use Rattle.frame_facts.specs.Owners.{owner_of, home_at}
use Rattle.frame_facts.proofs.segments.Places.{owner_within}
use Rattle.frame_facts.specs.Facts.{Lives, Current}
use Rattle.world.specs.Ground.{Ground, IsLockWord, IsUnder, version_of, IsCurrentLock}
use Rattle.world.specs.Views.{Glance, Answer, View, Has, At, IsGuarded}
use Rattle.world.specs.History.{change_of}
use Rattle.world.specs.Kinds.{Kind, peeks, asks_power, meets_root, meets_entry, meets_head, pins, finds_room, refuses, places, looks, glances_word, validates, learns, meets_lock, tries, stores, copies, clears, repays, publishes, stashes, flushes, fences, draws_place, unlocks, cuts_power, with_noted, unmarked, marked, all_again, with_answer, with_look, with_head, with_count, with_lock, with_draw, log_after}
use Rattle.world.specs.Conditions.{IsKnownLock, IsNow, May}
use Rattle.world.specs.Parts.{IsPastLock, IsAnswer}
use Rattle.world.specs.Invariant.{rank, Notes, Holds}
use Rattle.world.specs.Laws.{words_by, views_by}
use Rattle.world.specs.areas.Areas.{header_word}
use Rattle.world.specs.areas.Bridging.{CallersKeepReadersNotes}
use Rattle.world.proofs.basics.Structures.{current_of_lock, known_lock, counter_structure, power_structure}
use Rattle.world.proofs.basics.Grounds.{home_near}
use Rattle.world.proofs.basics.Lists.{set_there}
use Rattle.world.proofs.basics.Entries.{when_now}
use Rattle.world.proofs.basics.NotedLists.{noted_from, noted_to, marked_from, marked_to, unmarked_from, unmarked_to}
use Rattle.world.proofs.holding.Beside.{newest}
use Rattle.world.proofs.mild.Noted.{SparesNotes, notes_stay}
use Rattle.world.proofs.calls.reading.Rising.{spares_behind, spares_growing, spares_guarded}
use Rattle.world.proofs.calls.reading.FreeLocks.{free_exact, free_is_map}
use Rattle.world.proofs.calls.reading.Readers.{IsNote, AreNotes, of_view, of_all, none_noted, notes_more, marked_note, lock_note}

module _ (site : Ground) (words : Words) (views : List View) (j : ℕ) (v : View) (h : Holds site words views) (at : At views j v) where
  mine : AreNotes site words h.log v.notes v.answer v.seen
  mine = of_view site words views h.log h.notes j v at

  -- no word changes
  calm : (w : View) → AreNotes site words h.log w.notes w.answer w.seen → Notes site words (set views j w) h.log
  calm w own = of_all site words views h.log j v w at (λ c u n a. of_view site words views h.log h.notes c u a) own

  -- the view keeps its notes
  moved : (us : Words) (w : View) → SparesNotes site words us → w.notes ≡ v.notes → w.answer ≡ v.answer → w.seen ≡ v.seen → Notes site us (set views j w) h.log
  moved us w spares notes answer seen = notes_stay site words us views h.log j v w at h.notes spares (record { notes = notes; answer = answer; seen = seen })

  -- a lock that is known is one of a current segment
  known_current : (lock : ℕ) → IsKnownLock site v lock → IsCurrentLock site words lock
  known_current lock k = (k.0, k.1, k.2, k.3, k.4, h.structure.says j v (Current k.0) words at k.6 (newest site words views))

  tried : (lock free : ℕ) → IsLockWord site.shape lock → (t : Bool) → eqb (words lock) free ≡ t
      → Notes site (after (cond t (exchanged j lock (free + 1)) (loaded j lock)) words) (set views j (with_lock t lock free v)) h.log
  tried lock free is true e = moved (with_word words lock (free + 1)) (with_lock true lock free v)
      (spares_growing site words lock (free + 1) is (let q = eqb-true (words lock) free e in omega (arith, q))) refl refl refl
  tried lock free is false e = calm v mine

  -- a change draws its place: all others keep their notes
  drawn : (call : Call) (n x : ℕ) → Notes site (with_word words (counter_word site.shape) x) (set views j (with_draw call n v)) (change_of call ∷ h.log)
  drawn call n x = of_all site us views (change_of call ∷ h.log) j v (with_draw call n v) at
      (λ c u other a. notes_more site us h.log (change_of call) u.notes u.answer u.seen (of_view site us (set views j v) h.log before c u (set_there views j c u v other a)))
      (none_noted site us (change_of call ∷ h.log) (with_draw call n v).seen)
    where
      us : Words
      us = with_word words (counter_word site.shape) x

      before : Notes site us (set views j v) h.log
      before = moved us v (spares_behind site words (counter_word site.shape) x (omega arith) (counter_structure site.shape words x)) refl refl refl

  looked : (lock : ℕ) → IsCurrentLock site words lock → (t : Bool) → eqb (words lock % 2) 0 ≡ t → Notes site words (set views j (with_look t lock (words lock) v)) h.log
  looked lock is false e = calm (with_look false lock (words lock) v) (none_noted site words h.log v.seen)
  looked lock is true e = calm (with_look true lock (words lock) v) (record {
    noted = λ n has. elim has [
      | inl new ↦ subst (λ (z : Glance). IsNote site words z) (sym new) (record {
        past = inl (record { lock = is; free = eqb-true (words lock % 2) 0 e; past = omega arith });
        inside = λ i x q. absurd q;
        same = λ _ i x q. absurd q;
      })
      | inr old ↦ mine.noted n old
    ];
    answered = λ a is all. mine.answered a is (λ n has. all n (inr has));
  })

  -- the header of a segment that lives
  headed : (s version : ℕ) → May site (meets_head s version) v → Notes site words (set views j (with_head site.shape s version (words (header_word site.shape s)) v)) h.log
  headed s version may = calm (with_head site.shape s version (words (header_word site.shape s)) v) (record {
    noted = λ n has. elim has [
      | inl new ↦ subst (λ (z : Glance). IsNote site words z) (sym new) (record {
        past = inr (record {
          slot = s;
          head = refl;
          lives = h.structure.says j v (Lives s) words at may.0 (newest site words views);
          past = level (rank (version_of site) (words (header_word site.shape s)));
          again = λ e. refl;
          alone = λ i x q. absurd q;
        });
        inside = λ i x q. absurd q;
        same = λ _ i x q. absurd q;
      })
      | inr old ↦ mine.noted n old
    ];
    answered = λ a is all. mine.answered a is (λ n has. all n (inr has));
  })
    where
      level : (a : ℕ) → a ≤ a
      level a = omega arith

  -- a word of a bucket
  glanced : (lock i : ℕ) → IsLockWord site.shape lock → IsUnder lock i → AreNotes site words h.log (with_noted lock i (words i) v.notes) v.answer v.seen
  glanced lock i is under = record {
    noted = λ o has. let s = noted_from lock i (words i) v.notes o has in elim s.2 [
      | inl same ↦ subst (λ (z : Glance). IsNote site words z) (sym same) (mine.noted s.0 s.1)
      | inr more ↦ subst (λ (z : Glance). IsNote site words z) (sym more.1) (with_one s.0 (mine.noted s.0 s.1) more.0)
    ];
    answered = λ a is all. mine.answered a is (noted_to words lock i (words i) v.notes all);
  }
    where
      with_one : (n : Glance) → IsNote site words n → n.word ≡ lock → IsNote site words (record n { words = (i, words i) ∷ n.words })
      with_one n f e = let l = lock_note site words n f (subst (λ (z : ℕ). IsLockWord site.shape z) (sym e) is) in record {
        past = inl (record { lock = l.lock; free = l.free; past = l.past });
        inside = λ m y q. elim q [
          | inl first ↦ subst (λ (z : ℕ). IsUnder n.word z) (sym (ap (λ (z : ℕ × ℕ). z.0) first)) (subst (λ (z : ℕ). IsUnder z i) (sym e) under)
          | inr r ↦ f.inside m y r
        ];
        same = λ s m y q. elim q [
          | inl first ↦ ap words (ap (λ (z : ℕ × ℕ). z.0) first) ∙ sym (ap (λ (z : ℕ × ℕ). z.1) first)
          | inr r ↦ f.same s m y r
        ];
      }

  -- a noted word that was loaded again
  found_again : (word : ℕ) → AreNotes site words h.log (marked word (words word) v.notes) v.answer v.seen
  found_again word = record {
    noted = λ o has. let s = marked_from word (words word) v.notes o has in let f = mine.noted s.0 s.1 in elim s.2 [
      | inl same ↦ subst (λ (z : Glance). IsNote site words z) (sym same) f
      | inr mark ↦ subst (λ (z : Glance). IsNote site words z) (sym mark) (marked_note site words s.0 true f)
    ];
    answered = λ a is all. mine.answered a is (marked_to words word v.notes all);
  }

  validated : (word : ℕ) (t : Bool) (a : Option Answer) → Notes site words (set views j (with_answer t a (record v { notes = marked word (words word) v.notes }))) h.log
  validated word false a = calm (record v { notes = marked word (words word) v.notes }) (found_again word)
  validated word true None = calm (record v { notes = marked word (words word) v.notes }) (found_again word)
  validated word true (Some a) = let w = with_answer true (Some a) (record v { notes = marked word (words word) v.notes }) in calm w (none_noted site words h.log w.seen)

  -- while each noted word has the value that it had, a noted lock is free, so the newest words are as a reader's condition has it
  unmoved_is_now : ((n : Glance) → Has n v.notes → words n.word ≡ n.value) → IsNow site v.notes words
  unmoved_is_now same = record {
    structure = h.structure.sound words (newest site words views);
    table = h.media.table words (newest site words views);
    agrees = λ n i x has in_words. (mine.noted n has).same (same n has) i x in_words;
    heads = λ s n slot has place. ap words (sym place) ∙ same n has;
    exact = λ s b n slot near has place.
        let l = lock_note site words n (mine.noted n has) (s, b, slot, (omega (arith, near)), place) in
        free_exact site words views h s b near (ap (λ (z : ℕ). words z % 2) (sym place) ∙ (ap (λ (z : ℕ). z % 2) (same n has) ∙ l.free))
        (current_of_lock site words s b (omega (arith, near)) (subst (λ (z : ℕ). IsCurrentLock site words z) place l.lock));
  }

  -- what a key has by the notes, placed while all noted locks are free
  placed : (k : ℕ) (a : Option ℕ) → May site (places k a) v
      → AreNotes site words h.log (unmarked v.notes) (Some (record { key = k; value = a; place = words (counter_word site.shape) })) v.seen
  placed k a may = record {
    noted = λ o has. let s = unmarked_from v.notes o has in subst (λ (z : Glance). IsNote site words z) (sym s.2) (marked_note site words s.0 false (mine.noted s.0 s.1));
    answered = λ b is all. subst (λ (z : Answer). IsAnswer site h.log v.seen z) (some_same is) (right (unmarked_to words v.notes all));
  }
    where
      some_same : {b : Answer} → Some (record { key = k; value = a; place = words (counter_word site.shape) }) ≡ Some b → record { key = k; value = a; place = words (counter_word site.shape) } ≡ b
      some_same e = cc

      -- the note of the home of the key is one of a lock word
      home_note : (n : Glance) → IsNote site words n → (s : ℕ) → owner_of site.shape words (key_hash site.shape k) ≡ Some s
          → n.word ≡ bucket_at site.shape s (home_of (key_hash site.shape k)) → IsPastLock site words n
      home_note n f s own place = lock_note site words n f (
        s,
        home_of (key_hash site.shape k),
        owner_within site.shape words (key_hash site.shape k) s own,
        (let near = home_near site.shape k in omega (arith, near)),
        place,
      )

      right : ((n : Glance) → Has n v.notes → words n.word ≡ n.value) → IsAnswer site h.log v.seen (record { key = k; value = a; place = words (counter_word site.shape) })
      right same =
          let n = may.1.0 in
          let told = may.2 words (unmoved_is_now same) in
          let place : n.word ≡ home_at site.shape words k = may.1.2 ∙ ap (λ z. bucket_at site.shape (unwrap_or z 0) (home_of (key_hash site.shape k))) (sym told.0) in
          let l = home_note n (mine.noted n may.1.1) may.0 told.0 may.1.2 in
          let even : words (home_at site.shape words k) % 2 ≡ 0 = ap (λ (z : ℕ). words z % 2) (sym place) ∙ (ap (λ (z : ℕ). z % 2) (same n may.1.1) ∙ l.free) in
          let c = h.history.counter in
          record {
            within = omega (arith, c);
            had = when_now site.start h.log (words (counter_word site.shape)) k c ∙ (sym (free_is_map site words views h k even) ∙ told.1);
            after_seen = (let s = h.history.within j v at in omega (arith, c, s));
          }

  counted : (call : Call) (n : ℕ) (t : Bool) → Notes site words (set views j (with_count t call n v)) h.log
  counted call n true = calm (with_count true call n v) mine
  counted call n false = let w = with_count false call n v in calm w (none_noted site words h.log w.seen)

  -- a store under a lock
  stored : (i x : ℕ) (w : View) → IsGuarded v.held i → w.notes ≡ v.notes → w.answer ≡ v.answer → w.seen ≡ v.seen → Notes site (with_word words i x) (set views j w) h.log
  stored i x w g notes answer seen = moved (with_word words i x) w (spares_guarded site words views j v h.locks at i x g) notes answer seen

  -- EACH KIND, whatever areas the view has
  pub keep_readers_notes : (kind : Kind) → May site kind v → Notes site (words_by site kind j words) (views_by site kind j v words views) (log_after kind h.log)
  keep_readers_notes (peeks i) may = calm _ mine
  keep_readers_notes asks_power may = calm _ (none_noted site words h.log v.seen)
  keep_readers_notes meets_root may = calm _ mine
  keep_readers_notes (meets_entry e i) may = calm _ mine
  keep_readers_notes (meets_head s version) may = headed s version may
  keep_readers_notes (pins s b) may = calm _ mine
  keep_readers_notes (finds_room call) may = counted call (words (counter_word site.shape)) (nat_lt (words (counter_word site.shape)) (2 ^ 63))
  keep_readers_notes (refuses call reply) may = calm _ (none_noted site words h.log _)
  keep_readers_notes (places k a) may = calm _ (placed k a may)
  keep_readers_notes (looks lock) may = looked lock (known_current lock may) (eqb (words lock % 2) 0) refl
  keep_readers_notes (glances_word lock i) may = calm _ (glanced lock i may.0 may.1)
  keep_readers_notes (validates word) may = validated word (all_again (marked word (words word) v.notes)) v.answer
  keep_readers_notes (learns i) may = calm _ mine
  keep_readers_notes (meets_lock lock) may = calm _ mine
  keep_readers_notes (tries lock free) may = tried lock free (known_lock site v lock may.0) (eqb (words lock) free) refl
  keep_readers_notes (stores i x) may = stored i x _ may.0.guarded refl refl refl
  keep_readers_notes (copies i x m) may = stored i x _ may.0.guarded refl refl refl
  keep_readers_notes (clears i x m) may = stored i x _ may.0.guarded refl refl refl
  keep_readers_notes (repays i x o) may = stored i x _ may.0.guarded refl refl refl
  keep_readers_notes (publishes i x call) may = stored i x _ may.0.guarded refl refl refl
  keep_readers_notes (stashes i x call o) may = stored i x _ may.0.guarded refl refl refl
  keep_readers_notes (flushes l) may = calm _ mine
  keep_readers_notes fences may = calm _ mine
  keep_readers_notes (draws_place call) may = drawn call _ _
  keep_readers_notes (unlocks lock next) may = let l = h.locks.locked j v lock may.0 at may.1 in let e = may.6 in let now = l.1 in
      moved _ _ (spares_growing site words lock next l.0 (omega (arith, now, e))) refl refl refl
  keep_readers_notes cuts_power may = moved _ _ (spares_behind site words (power_word site.shape) 1 (omega arith) (power_structure site.shape words 1)) refl refl refl

-- so for a view that has no segment whole
pub notes_by_callers : CallersKeepReadersNotes
notes_by_callers site kind words views j v h at none may = keep_readers_notes site words views j v h at kind may
