-- A get remembers what its attempt loaded, after each of its events.
use Rattle.std.proofs.Common.{◌≡◌, ◌≢◌, ℕ, ◌+◌, ◌%◌, ◌<◌, Bool, true, false, inl, inr, List, [], ◌∷◌, ◌++◌, refl, sym, ◌∙◌, ap, subst, arith}
use Rattle.std.specs.Prelude.{◌==◌, if◌then◌else◌, slice_index}
use Rattle.std.proofs.lemmas.Bool.{eqb-true, false≢true}
use Rattle.op_core.specs.declared.want.Want.{Want}
use Rattle.op_core.specs.declared.want.Want.TheVariants as want
use Rattle.op_core.specs.declared.want.Ans.{Ans}
use Rattle.op_core.specs.declared.want.Ans.TheVariants.{Value}
use Rattle.op_core.specs.Answers.{IsReading, load_of, change_of}
use Rattle.bucket_meta.specs.Visits.{must_visit}
use Rattle.hash_word.specs.Hash.{finger_of}
use Rattle.image_layout.specs.Volatile.{counter_word}
use Rattle.world.specs.Ground.{Ground}
use Rattle.world.specs.Views.{Has}
use Rattle.world.specs.Wants.{answer_to}
use Rattle.world.proofs.stepping.Answers.{load_asked, load_value}
use Rattle.part.specs.Doings.{Doings, with_event_of}
use Rattle.part.specs.Causes.{MustVisit}
use Rattle.phase.specs.declared.walk.Path.{Path}
use Rattle.phase.specs.declared.walk.Walked.{Walked}
use Rattle.phase.specs.declared.walk.Walked.TheVariants as walked
use Rattle.phase.specs.declared.back.Backed.{Backed}
use Rattle.phase.specs.declared.back.Backed.TheVariants as backed
use Rattle.phase.specs.declared.load.Loaded.{Loaded}
use Rattle.phase.specs.declared.load.Loaded.TheVariants as loaded
use Rattle.phase.specs.Walks.{walk_wanted, walk_taken}
use Rattle.phase.specs.Backs.{back_word, back_taken}
use Rattle.phase.specs.Loads.{load_taken}
use Rattle.phase.specs.Stands.{HasLoaded}
use Rattle.phase.specs.Causes.{WasFound, RemembersWalked}
use Rattle.phase.proofs.Loading.{load_begins, load_stands}
use Rattle.phase.proofs.asking.Needing.{must_visit_by}
use Rattle.phase.proofs.asking.Causing.{found_more, walk_remembers}
use Rattle.read_op.specs.declared.role.Free.{Free}
use Rattle.phase.specs.declared.role.Role.{Role}
use Rattle.phase.specs.declared.role.Role.TheVariants.{Home, Probing, First, Second}
use Rattle.read_op.specs.declared.step.Seen.{Seen}
use Rattle.read_op.specs.declared.step.ReadStep.{ReadStep}
use Rattle.read_op.specs.declared.step.ReadStep.TheVariants.{Way, Look, Fill, Count, Check, Relook, Ended}
use Rattle.read_op.specs.declared.step.Task.{Task}
use Rattle.read_op.specs.declared.op.ReadOp.{ReadOp}
use Rattle.phase.specs.Places.{lock_word}
use Rattle.phase.specs.Asked.{index, asked_by, looked_by}
use Rattle.phase.proofs.asking.Asked.{near_asked, none_before, upto_more, upto_less}
use Rattle.read_op.specs.Places.{free_at}
use Rattle.read_op.specs.Steps.{wanted, wanted_in, taken, next_in, walked_to, visit_first, visit_second, with_free, looked, with_value, read_home, read_probing, read_all, filled, backed_to, relook_second, relook_next, busy, moved, end_of, lock_of}
use Rattle.read_op.specs.Fits.{is_asked}
use Rattle.read_op.specs.GetPart.{HasReason, RemembersSeen, RemembersMeta, RemembersPlaced, RemembersIn, Remembers}
use Rattle.read_op.proofs.Places.{free_other}
use Rattle.read_op.proofs.steps.Asked.{reads_alone}

module _ (task : Task) where
  -- ---- with one word more
  visit_more : (x : ℕ × ℕ) (loads : List (ℕ × ℕ)) (segment index : ℕ) → MustVisit task.site.geometry task.hash loads segment index → MustVisit task.site.geometry task.hash (x ∷ loads) segment index
  visit_more x loads segment index m = record {
    home = m.home;
    home_fingers = m.home_fingers;
    probing = m.probing;
    probing_fingers = m.probing_fingers;
    home_loaded = inr m.home_loaded;
    home_fingers_loaded = inr m.home_fingers_loaded;
    probing_loaded = inr m.probing_loaded;
    probing_fingers_loaded = inr m.probing_fingers_loaded;
    visits = m.visits;
  }

  seen_more : (x : ℕ × ℕ) (loads : List (ℕ × ℕ)) (s : Seen) (k : ℕ) → RemembersSeen task loads s k → RemembersSeen task (x ∷ loads) s k
  seen_more x loads s k r = record {
    path = found_more task.site task.hash (x ∷ []) loads s.path r.path;
    free = λ q u. let f = r.free q u in (inr f.0, f.1);
    first = λ e. visit_more x loads s.path.segment 0 (r.first e);
    second = λ e. visit_more x loads s.path.segment 1 (r.second e);
  }

  meta_more : (x : ℕ × ℕ) (loads : List (ℕ × ℕ)) (s : Seen) (p : Role) → RemembersMeta task loads s p → RemembersMeta task (x ∷ loads) s p
  meta_more x loads s Probing r = (inr r.0, inr r.1)
  meta_more x loads s p r = tt

  placed_more : (x : ℕ × ℕ) (loads : List (ℕ × ℕ)) (s : Seen) (placed : ℕ) → RemembersPlaced task loads s placed → RemembersPlaced task (x ∷ loads) s placed
  placed_more x loads s placed r = record { seen = seen_more x loads s 4 r.seen; place = inr r.place }

  module _ (loads : List (ℕ × ℕ)) where
    either_in : (b : Bool) (s t : ReadStep) → (b ≡ true → RemembersIn task loads s) → (b ≡ false → RemembersIn task loads t) → RemembersIn task loads (if b then s else t)
    either_in true s t p q = p refl
    either_in false s t p q = q refl

    -- ---- the way
    walked_in : (x : Walked) → RemembersWalked task.site task.hash loads x → RemembersIn task loads (walked_to x)
    walked_in (walked.On w) r = r
    walked_in (walked.There path) r = (record { path = r; free = λ q u. absurd (none_before false false q u); first = λ e. absurd (false≢true e); second = λ e. absurd (false≢true e) }, refl)
    walked_in walked.Off r = tt
    walked_in (walked.Amiss word seen) r = tt
    walked_in (walked.Stale segment version) r = tt

    -- ---- what was seen, with the same way and the same free values
    seen_same : (s s' : Seen) (k : ℕ) → s'.path ≡ s.path → s'.free ≡ s.free → ((q : Role) → index q < k → is_asked s' q ≡ is_asked s q) → HasReason task loads s' s'.first 0 → HasReason task loads s' s'.second 1
        → RemembersSeen task loads s k → RemembersSeen task loads s' k
    seen_same s s' k path free asks first second r = record {
      path = subst (λ p. WasFound task.site task.hash loads p) (sym path) r.path;
      free = λ q u.
          let f = r.free q (record { low = u.low; asked = sym (asks q u.low) ∙ u.asked }) in
          subst (λ p. Has (lock_word task.site task.hash p.segment q, free_at s'.free q) loads × (free_at s'.free q % 2 ≡ 0)) (sym path)
          (subst (λ (z : Free). Has (lock_of task s q, free_at z q) loads × (free_at z q % 2 ≡ 0)) (sym free) f);
      first = first;
      second = second;
    }

    -- where one is not asked
    seen_skip : (s : Seen) (p : Role) → is_asked s p ≡ false → RemembersSeen task loads s (index p) → RemembersSeen task loads s (index p + 1)
    seen_skip s p out r = record { path = r.path; free = λ q u. r.free q (upto_less s.first s.second p q out u); first = r.first; second = r.second }

    second_in : (s : Seen) → RemembersSeen task loads s 3 → RemembersIn task loads (visit_second s)
    second_in s r = either_in s.second (Look s Second) (Count s) (λ t. (r, t)) (λ f. seen_skip s Second f r)

    first_in : (s : Seen) → RemembersSeen task loads s 2 → RemembersIn task loads (visit_first s)
    first_in s r = either_in s.first (Look s First) (visit_second s) (λ t. (r, t)) (λ f. second_in s (seen_skip s First f r))

    -- ---- a bucket that was read, each word of which was loaded
    -- which stash buckets have to be visited, by home and probing bucket
    visit_is : (s : Seen) (ws : List ℕ) (n : ℕ) → s.path.segment < task.site.geometry.segments → RemembersMeta task loads s Probing → HasLoaded (lock_of task s Probing) loads (loaded.All ws)
        → must_visit s.meta s.fingers (slice_index ws 1) (slice_index ws 3) (finger_of task.hash) n ≡ true → MustVisit task.site.geometry task.hash loads s.path.segment n
    visit_is s ws n within meta has visits = must_visit_by task.site.geometry task.hash loads s.path.segment within n s.meta s.fingers (slice_index ws 1) (slice_index ws 3)
        meta.0 meta.1 (has 1 (omega arith) (omega arith)) (has 3 (omega arith) (omega arith)) visits

    all_in : (s : Seen) (p : Role) (ws : List ℕ) → RemembersSeen task loads s (looked_by p) → is_asked s p ≡ true → RemembersMeta task loads s p → HasLoaded (lock_of task s p) loads (loaded.All ws)
        → RemembersIn task loads (read_all task.key task.hash s p ws)
    all_in s Home ws r asked meta has = record {
      seen = seen_same s (read_home task.key s ws) 2 refl refl (λ q low. refl) r.first r.second r;
      asked = refl;
      filling = load_begins _ _;
      meta = (has 1 (omega arith) (omega arith), has 3 (omega arith) (omega arith));
    }
    all_in s Probing ws r asked meta has =
        let s' : Seen = read_probing task.key task.hash s ws in
        first_in s'
        (seen_same s s' 2 refl refl (λ q low. near_asked s'.first s'.second q low ∙ sym (near_asked s.first s.second q low)) (visit_is s ws 0 r.path.0.2 meta has) (visit_is s ws 1 r.path.0.2 meta has) r)
    all_in s First ws r asked meta has = second_in (with_value task.key s ws) (seen_same s (with_value task.key s ws) 3 refl refl (λ q low. refl) r.first r.second r)
    all_in s Second ws r asked meta has = seen_same s (with_value task.key s ws) 4 refl refl (λ q low. refl) r.first r.second r
    all_in s p ws r asked meta has = absurd (false≢true asked)

    filled_in : (s : Seen) (p : Role) (x : Loaded) → RemembersSeen task loads s (looked_by p) → is_asked s p ≡ true → RemembersMeta task loads s p → HasLoaded (lock_of task s p) loads x
        → RemembersIn task loads (filled task.key task.hash s p x)
    filled_in s p (loaded.On load) r asked meta has = record { seen = r; asked = asked; filling = has; meta = meta }
    filled_in s p (loaded.All ws) r asked meta has = all_in s p ws r asked meta has

    -- ---- the way again, and lock words again
    backed_in : (s : Seen) (placed : ℕ) (x : Backed) → RemembersPlaced task loads s placed → RemembersIn task loads (backed_to s placed x)
    backed_in s placed (backed.On at) r = r
    backed_in s placed backed.Same r = (r, refl)
    backed_in s placed (backed.Moved word before after) r = tt

    relook_second_in : (s : Seen) (placed : ℕ) → RemembersPlaced task loads s placed → RemembersIn task loads (relook_second s placed)
    relook_second_in s placed r = either_in s.second (Relook s placed Second) (Ended (end_of s.value placed)) (λ t. (r, t)) (λ f. tt)

    relook_in : (s : Seen) (placed : ℕ) (p : Role) → RemembersPlaced task loads s placed → RemembersIn task loads (relook_next s placed p)
    relook_in s placed Home r = (r, refl)
    relook_in s placed Probing r = either_in s.first (Relook s placed First) (relook_second s placed) (λ t. (r, t)) (λ f. relook_second_in s placed r)
    relook_in s placed First r = relook_second_in s placed r
    relook_in s placed p r = tt

    -- ---- a look at a lock word
    module _ (s : Seen) (p : Role) (n : ℕ) (even : n % 2 ≡ 0) (r : RemembersSeen task loads s (index p)) where
      abbrev more : List (ℕ × ℕ)
      more = (lock_of task s p, n) ∷ loads

      look_more : (s' : Seen) → s'.path ≡ s.path → ((q : Role) → index q < index p → free_at s'.free q ≡ free_at s.free q) → free_at s'.free p ≡ n → s'.first ≡ s.first → s'.second ≡ s.second
          → RemembersSeen task more s' (index p + 1)
      look_more s' path frees here first second =
          let asks : (q : Role) → is_asked s' q ≡ is_asked s q = λ q. ap (λ b. asked_by b s'.second q) first ∙ ap (λ b. asked_by s.first b q) second in
          let locks : (q : Role) → lock_of task s' q ≡ lock_of task s q = λ q. ap (λ (z : Path). lock_word task.site task.hash z.segment q) path in
          record {
            path = subst (λ z. WasFound task.site task.hash more z) (sym path) (found_more task.site task.hash ((lock_of task s p, n) ∷ []) loads s.path r.path);
            free = λ q u. elim (upto_more s.first s.second p q (record { low = u.low; asked = sym (asks q) ∙ u.asked })) [
              | inl e ↦
                  subst (λ (z : Role). Has (lock_of task s' z, free_at s'.free z) more × (free_at s'.free z % 2 ≡ 0)) (sym e)
                  (inl (ap (λ l. (l, free_at s'.free p)) (locks p) ∙ ap (λ x. (lock_of task s p, x)) here), ap (λ x. x % 2) here ∙ even)
              | inr old ↦
                  let f = r.free q old in
                  let same = frees q old.low in (
                    inr (subst (λ l. Has (l, free_at s'.free q) loads) (sym (locks q)) (subst (λ x. Has (lock_of task s q, x) loads) (sym same) f.0)),
                    ap (λ x. x % 2) same ∙ f.1,
                  )
            ];
            first = λ e. let m = visit_more (lock_of task s p, n) loads s.path.segment 0 (r.first (sym first ∙ e)) in subst (λ (z : Path). MustVisit task.site.geometry task.hash more z.segment 0) (sym path) m;
            second = λ e. let m = visit_more (lock_of task s p, n) loads s.path.segment 1 (r.second (sym second ∙ e)) in subst (λ (z : Path). MustVisit task.site.geometry task.hash more z.segment 1) (sym path) m;
          }

    look_in : (s : Seen) (p : Role) (n : ℕ) → n % 2 ≡ 0 → RemembersSeen task loads s (index p) × (is_asked s p ≡ true) → RemembersIn task ((lock_of task s p, n) ∷ loads) (looked (with_free s p n) p)
    look_in s Home n even r = (look_more s Home n even r.0 (with_free s Home n) refl (λ q low. free_other s Home q n low) refl refl refl, refl)
    look_in s Probing n even r = record {
      seen = look_more s Probing n even r.0 (with_free s Probing n) refl (λ q low. free_other s Probing q n low) refl refl refl;
      asked = refl;
      filling = load_begins _ _;
      meta = tt;
    }
    look_in s First n even r =
        record { seen = look_more s First n even r.0 (with_free s First n) refl (λ q low. free_other s First q n low) refl refl refl; asked = r.1; filling = load_begins _ _; meta = tt }
    look_in s Second n even r =
        record { seen = look_more s Second n even r.0 (with_free s Second n) refl (λ q low. free_other s Second q n low) refl refl refl; asked = r.1; filling = load_begins _ _; meta = tt }
    look_in s p n even r = absurd (false≢true r.1)

  -- ---- an event that found a value
  pub remembers_in : (loads : List (ℕ × ℕ)) (s : ReadStep) (n : ℕ) → RemembersIn task loads s
      → RemembersIn task (load_of (wanted_in task s) (Value n) ++ loads) (next_in task s n)
  remembers_in loads (Way w) n r =
      walked_in (load_of (walk_wanted task.site task.hash w) (Value n) ++ loads) (walk_taken task.site task.hash w n) (walk_remembers task.site task.hash loads w n r)
  remembers_in loads (Look s p) n r =
      either_in ((lock_of task s p, n) ∷ loads) (n % 2 == 0) (looked (with_free s p n) p) (busy (lock_of task s p) n) (λ t. look_in loads s p n (eqb-true (n % 2) 0 t) r) (λ f. tt)
  remembers_in loads (Fill s p load) n r =
      let x : ℕ × ℕ = (lock_of task s p + load.next % 32, n) in
      filled_in (x ∷ loads) s p (load_taken load n) (seen_more x loads s (looked_by p) r.seen) r.asked (meta_more x loads s p r.meta) (load_stands (lock_of task s p) loads load n r.filling)
  remembers_in loads (Count s) n r =
      record { seen = seen_more (counter_word task.site.geometry, n) loads s 4 r; place = inl refl }
  remembers_in loads (Check s placed at) n r =
      let x : ℕ × ℕ = (back_word task.site task.hash s.path at, n) in
      backed_in (x ∷ loads) s placed (back_taken task.site task.hash s.path at n) (placed_more x loads s placed r)
  remembers_in loads (Relook s placed p) n r =
      let x : ℕ × ℕ = (lock_of task s p, n) in
      let more : List (ℕ × ℕ) = x ∷ loads in
      either_in more (n % 2 == 1) (busy (lock_of task s p) n) (if n == free_at s.free p then relook_next s placed p else moved (lock_of task s p) (free_at s.free p) n) (λ t. tt)
      (λ f. either_in more (n == free_at s.free p) (relook_next s placed p) (moved (lock_of task s p) (free_at s.free p) n) (λ t. relook_in more s placed p (placed_more x loads s placed r.0)) (λ g. tt))
  remembers_in loads (Ended end) n r = tt

pub reading_changes : (w : Want) (a : Ans) → IsReading w → change_of w a ≡ []
reading_changes (want.Load i) a r = refl
reading_changes want.Power a r = refl
reading_changes want.Done a r = refl
reading_changes w a r = absurd r

pub remembers_next : (op : ReadOp) (site : Ground) (n : ℕ) (did : Doings) → wanted op ≢ want.Done → Remembers site op did
    → Remembers site (taken op (answer_to (wanted op) n)) (with_event_of (wanted op) (answer_to (wanted op) n) did)
remembers_next op site n did asks r =
    subst (λ a. Remembers site (taken op a) (with_event_of (wanted op) a did)) (sym (load_value (wanted op) n (load_asked (wanted op) (reads_alone op) asks))) (record {
      kept = remembers_in op.task did.loads op.step n r.kept;
      none = ap (λ cs. cs ++ did.changed) (reading_changes (wanted op) (Value n) (reads_alone op)) ∙ r.none;
    })
