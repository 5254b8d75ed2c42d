-- Each step of a get keeps its view suited.
use Rattle.std.proofs.Common.{◌≡◌, ◌⊎◌, ℕ, ◌+◌, ◌%◌, ◌<◌, ◌≤◌, Bool, true, false, Option, None, Some, List, [], ◌∷◌, inl, inr, refl, sym, ◌∙◌, ap, subst, arith, slice_index}
use Rattle.std.specs.Prelude.{nat_lt, if◌then◌else◌}
use Rattle.std.specs.Option.{option_or}
use Rattle.std.proofs.lemmas.Bool.{le-ltb}
use Rattle.std.proofs.lemmas.Option.{none-some}
use Rattle.hash_word.specs.Hash.{home_of, finger_of}
use Rattle.trace.specs.Events.{Words}
use Rattle.bucket_meta.specs.Bucket.{record_slots}
use Rattle.bucket_meta.specs.Visits.{must_visit}
use Rattle.bucket_words.specs.Buckets.{find_below}
use Rattle.world.specs.Ground.{Ground}
use Rattle.world.specs.Views.{Glance, View, Has}
use Rattle.image_layout.specs.Volatile.{counter_word}
use Rattle.world.specs.Kinds.{peeks, places, with_noted, unmarked, view_after}
use Rattle.world.specs.Conditions.{IsNow}
use Rattle.world.proofs.basics.NotedLists.{unmarked_from}
use Rattle.phase.specs.declared.walk.Path.{Path}
use Rattle.phase.specs.declared.walk.Walked.{Walked}
use Rattle.phase.specs.declared.walk.Walked.TheVariants as walked
use Rattle.phase.specs.declared.back.Back.TheVariants as back
use Rattle.phase.specs.declared.load.Load.{Load}
use Rattle.phase.specs.declared.load.Loaded.{Loaded}
use Rattle.phase.specs.declared.load.Loaded.TheVariants as loaded
use Rattle.phase.specs.Loads.{load_begun, load_taken}
use Rattle.phase.specs.Stands.{IsThere, HasWalked, head_note, NotesHead, NotesWay, HasLoaded}
use Rattle.phase.proofs.Walking.{head_is}
use Rattle.phase.proofs.Loading.{load_begins, load_stands, same_below}
use Rattle.phase.specs.declared.role.Role.{Role}
use Rattle.phase.specs.declared.role.Role.TheVariants.{Home, Probing, First, Second, Next, Previous}
use Rattle.read_op.specs.declared.step.Seen.{Seen}
use Rattle.read_op.specs.declared.step.ReadStep.TheVariants.{Look, Fill, Count, Check}
use Rattle.read_op.specs.declared.step.Task.{Task}
use Rattle.phase.specs.Asked.{index, looked_by}
use Rattle.phase.proofs.asking.Asked.{few, near_asked, none_before, upto_more, upto_less, upto_up}
use Rattle.read_op.specs.Places.{free_at}
use Rattle.read_op.specs.Steps.{value_of, walked_to, visit_first, visit_second, with_free, looked, with_value, read_home, read_probing, read_all, filled, seen_none, lock_of}
use Rattle.read_op.specs.Fits.{IsIn, is_asked, Upto, Watched, at_head, at_bucket, watched_word, watched_value, is_watched, IsNoted, rank, leads, Tells, IsSkipped, Skips, IsFilling, IsReading, FillsAt, IsChecked, suits_in}
use Rattle.world.proofs.stepping.Noting.{noted_one, noted_to, noted_from, one_word, one_value, one_here, now_noted, now_more, unmarked_to}
use Rattle.read_op.proofs.Places.{value_other}
use Rattle.world.proofs.stepping.Telling.{unvisited}
use Rattle.read_op.proofs.Fitting.{lock_at}

-- ---- two values, of which the first counts
else_none : (a b : Option ℕ) → option_or a b ≡ None → (a ≡ None) × (b ≡ None)
else_none None b e = (refl, e)
else_none (Some x) b e = absurd (cc)

else_some : (a b : Option ℕ) (x : ℕ) → option_or a b ≡ Some x → (a ≡ Some x) ⊎ (b ≡ Some x)
else_some None b x e = inr e
else_some (Some y) b x e = inl e

-- ---- which words are noted
noted_more : (s : Seen) (p : Role) (w : Watched) → IsNoted s (index p) w → IsNoted s (index p + 1) w
noted_more s p at_head u = tt
noted_more s p (at_bucket q) u = upto_up s.first s.second (index p) (index p + 1) q (omega arith) u

noted_like : (s s' : Seen) (k : ℕ) → ((q : Role) → index q < k → is_asked s' q ≡ is_asked s q) → (w : Watched) → IsNoted s k w → IsNoted s' k w
noted_like s s' k asks at_head u = tt
noted_like s s' k asks (at_bucket q) u = record { low = u.low; asked = asks q u.low ∙ u.asked }

noted_watched : (s : Seen) (k : ℕ) (w : Watched) → IsNoted s k w → is_watched s w ≡ true
noted_watched s k at_head u = refl
noted_watched s k (at_bucket q) u = u.asked

watched_noted : (s : Seen) (w : Watched) → is_watched s w ≡ true → IsNoted s 4 w
watched_noted s at_head asked = tt
watched_noted s (at_bucket q) asked = record { low = few s.first s.second q asked; asked = asked }

module _ (site : Ground) (task : Task) (is : IsIn site task) where
  -- ---- the way
  there_to : (u : View) (path : Path) → NotesHead site.shape path u → path.segment < site.shape.segments → (w : Watched) → IsNoted (seen_none path) 0 w
      → (n : Glance) × Has n u.notes × (n.word ≡ watched_word task (seen_none path) w) × (n.value ≡ watched_value (seen_none path) w)
  there_to u path noted within at_head t =
      (head_note site.shape path, subst (Has (head_note site.shape path)) (sym noted.notes) (inl refl), sym (head_is site task.site task.hash is.shape path.segment within), refl)
  there_to u path noted within (at_bucket q) t = absurd (none_before false false q t)

  pub walked_suits : (u : View) (x : Walked) → HasWalked site x u.facts → NotesWay site.shape x u → suits_in site task (walked_to x) u
  walked_suits u (walked.On w) has noted = (has, noted)
  walked_suits u (walked.There path) has noted = (
    record {
      there = has;
      no_answer = noted.answer;
      noted_at = record {
        from = λ n h. elim (subst (Has n) noted.notes h) [
          | inl e ↦ (at_head, tt, ap (λ (z : Glance). z.word) e ∙ sym (head_is site task.site task.hash is.shape path.segment has.within), ap (λ (z : Glance). z.value) e)
          | inr none ↦ absurd none
        ];
        to = there_to u path noted has.within;
      };
      knows = record { none = λ e q l. absurd (none_before false false q l); some = λ x e. absurd (none-some _ e) };
    },
    tt,
  )
  walked_suits u walked.Off has noted = tt
  walked_suits u (walked.Amiss word seen) has noted = absurd has
  walked_suits u (walked.Stale segment version) has noted = has

  -- ---- a look at a lock word
  module _ (v : View) (s s' : Seen) (p : Role) (n k : ℕ) where
    abbrev new : Glance
    new = record { word = lock_of task s p; value = n; words = []; again = false }

    abbrev looked_view : View
    looked_view = record v { notes = new ∷ v.notes }

    module _ (words : (w : Watched) → watched_word task s' w ≡ watched_word task s w) (values : (w : Watched) → IsNoted s (index p) w → watched_value s' w ≡ watched_value s w)
        (here : free_at s'.free p ≡ n) (asks : (q : Role) → is_asked s' q ≡ is_asked s q) (r : IsReading site task s (index p) k v) where
      -- each word that is noted has its note
      look_to : (w : Watched) → IsNoted s' (index p + 1) w → (m : Glance) × Has m (new ∷ v.notes) × (m.word ≡ watched_word task s' w) × (m.value ≡ watched_value s' w)
      look_to at_head u = let t = r.noted_at.to at_head tt in (t.0, inr t.1, t.2 ∙ sym (words at_head), t.3 ∙ sym (values at_head tt))
      look_to (at_bucket q) u = elim (upto_more s.first s.second p q (record { low = u.low; asked = sym (asks q) ∙ u.asked })) [
        | inl e ↦ (new, inl refl, ap (lock_of task s) (sym e) ∙ sym (words (at_bucket q)), sym here ∙ ap (free_at s'.free) (sym e))
        | inr old ↦ (let t = r.noted_at.to (at_bucket q) old in (t.0, inr t.1, t.2 ∙ sym (words (at_bucket q)), t.3 ∙ sym (values (at_bucket q) old)))
      ]

      noted_up : (w : Watched) → IsNoted s (index p) w → IsNoted s' (index p + 1) w
      noted_up w u = noted_like s s' (index p + 1) (λ q low. asks q) w (noted_more s p w u)

      look_more : s'.value ≡ s.value → IsThere site s'.path.segment v.facts → is_asked s p ≡ true → IsReading site task s' (index p + 1) k looked_view
      look_more value there asked = record {
        there = there;
        no_answer = r.no_answer;
        noted_at = record {
          from = λ m h. elim h [
            | inl e ↦ (at_bucket p, record { low = omega arith; asked = asks p ∙ asked }, ap (λ (z : Glance). z.word) e ∙ sym (words (at_bucket p)), ap (λ (z : Glance). z.value) e ∙ sym here)
            | inr old ↦ (let f = r.noted_at.from m old in (f.0, noted_up f.0 f.1, f.2 ∙ sym (words f.0), f.3 ∙ sym (values f.0 f.1)))
          ];
          to = look_to;
        };
        knows = record {
          none = λ e q u m a. ap (λ l. find_below m l task.key record_slots) (words (at_bucket q))
              ∙ r.knows.none (sym value ∙ e) q (record { low = u.low; asked = sym (asks q) ∙ u.asked }) m (now_more site m new v.notes a);
          some = λ x e. let t = r.knows.some x (sym value ∙ e) in
              (t.0, λ m a. ap (λ l. find_below m l task.key record_slots) (words (at_bucket t.0)) ∙ t.1 m (now_more site m new v.notes a));
        };
      }

  begins_at : (v : View) (s : Seen) (k r : ℕ) (p : Role) → IsReading site task s k r v → Upto s k p → IsFilling site v.notes task s p load_begun
  begins_at v s k r p reading u = let t = reading.noted_at.to (at_bucket p) u in record { note = t.0; has = t.1; lock = t.2; loads = load_begins (lock_of task s p) t.0.words }

  pub look_suits : (v : View) (s : Seen) (p : Role) (n : ℕ) → suits_in site task (Look s p) v
      → suits_in site task (looked (with_free s p n) p) (record v { notes = record { word = lock_of task s p; value = n; words = []; again = false } ∷ v.notes })
  look_suits v s Home n (r, beside) = (look_more v s (with_free s Home n) Home n 0 (λ w. refl) (λ w u. value_other s Home n w u) refl (λ q. refl) r refl r.there refl, tt)
  look_suits v s Probing n (r, beside) =
      let reading = look_more v s (with_free s Probing n) Probing n 0 (λ w. refl) (λ w u. value_other s Probing n w u) refl (λ q. refl) r refl r.there refl in
      (reading, tt, begins_at _ _ 2 0 Home reading (record { low = omega arith; asked = refl }))
  look_suits v s First n (r, beside) =
      let reading = look_more v s (with_free s First n) First n 2 (λ w. refl) (λ w u. value_other s First n w u) refl (λ q. refl) r refl r.there beside.1 in (
        reading,
        ((λ out m a. beside.0.0 out m (now_more site m _ v.notes a), λ out m a. beside.0.1 out m (now_more site m _ v.notes a)), beside.1),
        begins_at _ _ 3 2 First reading (record { low = omega arith; asked = beside.1 }),
      )
  look_suits v s Second n (r, beside) =
      let reading = look_more v s (with_free s Second n) Second n 3 (λ w. refl) (λ w u. value_other s Second n w u) refl (λ q. refl) r refl r.there beside.1 in (
        reading,
        ((λ out m a. beside.0.0 out m (now_more site m _ v.notes a), λ out m a. beside.0.1 out m (now_more site m _ v.notes a)), beside.1),
        begins_at _ _ 4 3 Second reading (record { low = omega arith; asked = beside.1 }),
      )
  look_suits v s Next n (r, beside) = absurd beside
  look_suits v s Previous n (r, beside) = absurd beside

  -- ---- where a bucket is not visited
  reading_skip : (v : View) (s : Seen) (p : Role) → is_asked s p ≡ false → IsReading site task s (index p) (index p) v → IsReading site task s (index p + 1) (index p + 1) v
  reading_skip v s p out r = record {
    there = r.there;
    no_answer = r.no_answer;
    noted_at = record { from = λ n h. (let f = r.noted_at.from n h in (f.0, noted_more s p f.0 f.1, f.2, f.3)); to = λ w u. r.noted_at.to w (fewer w u) };
    knows = record { none = λ e q u. r.knows.none e q (upto_less s.first s.second p q out u); some = r.knows.some };
  }
    where
      fewer : (w : Watched) → IsNoted s (index p + 1) w → IsNoted s (index p) w
      fewer at_head u = tt
      fewer (at_bucket q) u = upto_less s.first s.second p q out u

  second_suits : (v : View) (s : Seen) → IsReading site task s 3 3 v → Skips site v.notes task s → suits_in site task (visit_second s) v
  second_suits v s r skips = by s.second refl
    where
      by : (b : Bool) → s.second ≡ b → suits_in site task (if b then Look s Second else Count s) v
      by true e = (r, (skips, e))
      by false e = (reading_skip v s Second e r, skips)

  first_suits : (v : View) (s : Seen) → IsReading site task s 2 2 v → Skips site v.notes task s → suits_in site task (visit_first s) v
  first_suits v s r skips = by s.first refl
    where
      by : (b : Bool) → s.first ≡ b → suits_in site task (if b then Look s First else visit_second s) v
      by true e = (r, (skips, e))
      by false e = second_suits v s (reading_skip v s First e r) skips

  -- ---- a bucket that was read
  read_more : (v : View) (s s' : Seen) (p : Role) (k : ℕ) (a : Option ℕ) → ((w : Watched) → watched_word task s' w ≡ watched_word task s w) → ((w : Watched) → watched_value s' w ≡ watched_value s w)
      → ((q : Role) → index q < k → is_asked s' q ≡ is_asked s q) → s'.value ≡ option_or a s.value → IsThere site s'.path.segment v.facts → index p + 1 ≤ k
      → Tells site v.notes task.key (lock_of task s p) a → IsReading site task s k (index p) v → IsReading site task s' k (index p + 1) v
  read_more v s s' p k a words values asks value there most tell r = record {
    there = there;
    no_answer = r.no_answer;
    noted_at = record {
      from = λ n h. (let f = r.noted_at.from n h in (f.0, noted_like s s' k asks f.0 f.1, f.2 ∙ sym (words f.0), f.3 ∙ sym (values f.0)));
      to = λ w u. (let t = r.noted_at.to w (noted_like s' s k (λ q low. sym (asks q low)) w u) in (t.0, t.1, t.2 ∙ sym (words w), t.3 ∙ sym (values w)));
    };
    knows = record {
      none = λ e q u.
          let both = else_none a s.value (sym value ∙ e) in
          let low : index q < k = (let low = u.low in omega (arith, low, most)) in
          elim (upto_more s.first s.second p q (record { low = u.low; asked = sym (asks q low) ∙ u.asked })) [
            | inl same ↦ λ m ag. ap (λ l. find_below m l task.key record_slots) (words (at_bucket q) ∙ ap (lock_of task s) same) ∙ tell m ag ∙ both.0
            | inr old ↦ λ m ag. ap (λ l. find_below m l task.key record_slots) (words (at_bucket q)) ∙ r.knows.none both.1 q old m ag
          ];
      some = λ x e. elim (else_some a s.value x (sym value ∙ e)) [
        | inl here ↦ (p, λ m ag. ap (λ l. find_below m l task.key record_slots) (words (at_bucket p)) ∙ tell m ag ∙ here)
        | inr old ↦ (let t = r.knows.some x old in (t.0, λ m ag. ap (λ l. find_below m l task.key record_slots) (words (at_bucket t.0)) ∙ t.1 m ag))
      ];
    };
  }

  -- ---- a word of a bucket
  module _ (v : View) (s : Seen) (p : Role) (load : Load) (n : ℕ) (r : IsReading site task s (looked_by p) (index p) v) (f : IsFilling site v.notes task s p load) where
    abbrev lock : ℕ
    lock = lock_of task s p

    abbrev i : ℕ
    i = lock + load.next % 32

    abbrev notes : List Glance
    notes = with_noted lock i n v.notes

    abbrev filled_view : View
    filled_view = record v { notes = notes }

    abbrev note : Glance
    note = record (f.note) { words = (i, n) ∷ f.note.words }

    has : Has note notes
    has = subst (λ (z : Glance). Has z notes) (one_here lock i n f.note f.lock) (noted_to lock i n v.notes f.note f.has)

    reading : IsReading site task s (looked_by p) (index p) filled_view
    reading = record {
      there = r.there;
      no_answer = r.no_answer;
      noted_at = record {
        from = λ o h.
            let b = noted_from lock i n v.notes o h in
            let g = r.noted_at.from b.0 b.1 in
            (g.0, g.1, ap (λ (z : Glance). z.word) b.2 ∙ one_word lock i n b.0 ∙ g.2, ap (λ (z : Glance). z.value) b.2 ∙ one_value lock i n b.0 ∙ g.3);
        to = λ w u. (let t = r.noted_at.to w u in (noted_one lock i n t.0, noted_to lock i n v.notes t.0 t.1, one_word lock i n t.0 ∙ t.2, one_value lock i n t.0 ∙ t.3));
      };
      knows = record {
        none = λ e q u m a. r.knows.none e q u m (now_noted site m lock i n v.notes a);
        some = λ x e. let t = r.knows.some x e in (t.0, λ m a. t.1 m (now_noted site m lock i n v.notes a));
      };
    }

    skips_still : Skips site v.notes task s → Skips site notes task s
    skips_still k = (λ out m a. k.0 out m (now_noted site m lock i n v.notes a), λ out m a. k.1 out m (now_noted site m lock i n v.notes a))

    beside_still : (q : Role) → FillsAt site v.notes task s q → FillsAt site notes task s q
    beside_still Home b = tt
    beside_still Probing b = λ m a. b m (now_noted site m lock i n v.notes a)
    beside_still First b = (skips_still b.0, b.1)
    beside_still Second b = (skips_still b.0, b.1)
    beside_still Next b = b
    beside_still Previous b = b

    loads : HasLoaded lock note.words (load_taken load n)
    loads = load_stands lock f.note.words load n f.loads

    module _ (ws : List ℕ) (all : (j : ℕ) → 1 ≤ j → j < 32 → Has (lock + j, slice_index ws j) note.words) where
      word_at : (m : Words) → IsNow site notes m → (j : ℕ) → 1 ≤ j → j < 32 → m (lock + j) ≡ slice_index ws j
      word_at m a j from low = a.agrees note (lock + j) (slice_index ws j) has (all j from low)

      tell : Tells site notes task.key lock (value_of ws task.key)
      tell m a = same_below m ws lock task.key record_slots (omega arith) (word_at m a)

  all_suits : (v : View) (s : Seen) (p : Role) (load : Load) (n : ℕ) (r : IsReading site task s (looked_by p) (index p) v) → FillsAt site v.notes task s p
      → (f : IsFilling site v.notes task s p load) (ws : List ℕ)
      → ((j : ℕ) → 1 ≤ j → j < 32 → Has (lock_of task s p + j, slice_index ws j) ((lock_of task s p + load.next % 32, n) ∷ f.note.words))
      → suits_in site task (read_all task.key task.hash s p ws) (record v { notes = with_noted (lock_of task s p) (lock_of task s p + load.next % 32) n v.notes })
  all_suits v s Home load n r beside f ws all =
      let R = read_more (filled_view v s Home load n r f) s (read_home task.key s ws) Home 2 (value_of ws task.key) (λ w. refl) (λ w. refl) (λ q low. refl) refl r.there (omega arith)
      (tell v s Home load n r f ws all) (reading v s Home load n r f) in (
        R,
        (λ m a. (word_at v s Home load n r f ws all m a 1 (omega arith) (omega arith), word_at v s Home load n r f ws all m a 3 (omega arith) (omega arith))),
        begins_at _ _ 2 1 Probing R (record { low = omega arith; asked = refl }),
      )
  all_suits v s Probing load n r beside f ws all =
      let s' : Seen = read_probing task.key task.hash s ws in
      let R = read_more (filled_view v s Probing load n r f) s s' Probing 2 (value_of ws task.key) (λ w. refl) (λ w. refl)
      (λ q low. near_asked s'.first s'.second q low ∙ sym (near_asked s.first s.second q low)) refl r.there (omega arith) (tell v s Probing load n r f ws all) (reading v s Probing load n r f) in
      let meta = beside_still v s Probing load n r f Probing beside in
      let home = lock_at site task is s Home r.there.within in
      let probing = lock_at site task is s Probing r.there.within in
      let skip : (c : ℕ) (out : Bool) → (out ≡ false → must_visit s.meta s.fingers (slice_index ws 1) (slice_index ws 3) (finger_of task.hash) c ≡ false)
      → IsSkipped site (notes v s Probing load n r f) task s' out c = λ c out is_out gone m a.
      unvisited site.shape m s.path.segment (home_of task.hash) c (finger_of task.hash) s.meta s.fingers (slice_index ws 1) (slice_index ws 3)
      (ap (λ l. m (l + 1)) (sym home) ∙ (meta m a).0) (ap (λ l. m (l + 3)) (sym home) ∙ (meta m a).1)
      (ap (λ l. m (l + 1)) (sym probing) ∙ word_at v s Probing load n r f ws all m a 1 (omega arith) (omega arith))
      (ap (λ l. m (l + 3)) (sym probing) ∙ word_at v s Probing load n r f ws all m a 3 (omega arith) (omega arith)) (is_out gone) in
      first_suits _ s' R (skip 0 s'.first (λ e. e), skip 1 s'.second (λ e. e))
  all_suits v s First load n r beside f ws all =
      let R = read_more (filled_view v s First load n r f) s (with_value task.key s ws) First 3 (value_of ws task.key) (λ w. refl) (λ w. refl) (λ q low. refl) refl r.there (omega arith)
      (tell v s First load n r f ws all) (reading v s First load n r f) in
      second_suits _ (with_value task.key s ws) R (skips_still v s First load n r f beside.0)
  all_suits v s Second load n r beside f ws all = (
    read_more (filled_view v s Second load n r f) s (with_value task.key s ws) Second 4 (value_of ws task.key) (λ w. refl) (λ w. refl) (λ q low. refl) refl r.there (omega arith)
        (tell v s Second load n r f ws all) (reading v s Second load n r f),
    skips_still v s Second load n r f beside.0,
  )
  all_suits v s Next load n r beside f ws all = absurd beside
  all_suits v s Previous load n r beside f ws all = absurd beside

  pub fill_suits : (v : View) (s : Seen) (p : Role) (load : Load) (n : ℕ) → suits_in site task (Fill s p load) v
      → suits_in site task (filled task.key task.hash s p (load_taken load n)) (record v { notes = with_noted (lock_of task s p) (lock_of task s p + load.next % 32) n v.notes })
  fill_suits v s p load n (r, beside, f) = by (load_taken load n) (loads v s p load n r f)
    where
      by : (x : Loaded) → HasLoaded (lock_of task s p) ((lock_of task s p + load.next % 32, n) ∷ f.note.words) x
          → suits_in site task (filled task.key task.hash s p x) (record v { notes = with_noted (lock_of task s p) (lock_of task s p + load.next % 32) n v.notes })
      by (loaded.On next) l = (reading v s p load n r f, beside_still v s p load n r f p beside, record { note = note v s p load n r f; has = has v s p load n r f; lock = f.lock; loads = l })
      by (loaded.All ws) l = all_suits v s p load n r beside f ws l

  -- ---- the counter
  none_again : (w : Watched) → nat_lt (rank w) 0 ≡ false
  none_again w = le-ltb (rank w) 0 (omega arith)

  -- no word was looked at again yet
  count_checked : (v : View) (s : Seen) → IsReading site task s 4 4 v → IsChecked site (unmarked v.notes) task s 0
  count_checked v s r = record {
    from = λ o h.
        let b = unmarked_from v.notes o h in
        let f = r.noted_at.from b.0 b.1 in (
          f.0,
          noted_watched s 4 f.0 f.1,
          ap (λ (z : Glance). z.word) b.2 ∙ f.2,
          ap (λ (z : Glance). z.value) b.2 ∙ f.3,
          ap (λ (z : Glance). z.again) b.2 ∙ sym (none_again f.0),
        );
    to = λ w asked. (let t = r.noted_at.to w (watched_noted s w asked) in (record (t.0) { again = false }, unmarked_to v.notes t.0 t.1, t.2, t.3));
  }

  pub count_suits : (v : View) (s : Seen) (n : ℕ) → suits_in site task (Count s) v → (b : Bool) → leads task s ≡ b
      → suits_in site task (Check s n back.Root) (view_after site.shape (if b then places task.key s.value else peeks (counter_word task.site.geometry)) n v)
  count_suits v s n (r, skips) true leading = inl (record { there = r.there; leads = leading; checked = count_checked v s r; answer = refl })
  count_suits v s n (r, skips) false away = inr (record { away = away; no_answer = r.no_answer })
