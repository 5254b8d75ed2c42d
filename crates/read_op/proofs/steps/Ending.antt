-- The header and the lock words again: the last one that is found the same enters the answer, and nothing else does.
use Rattle.std.proofs.Common.{◌≡◌, ◌≢◌, ℕ, suc, ◌+◌, ◌%◌, ◌<◌, Bool, true, false, Option, None, Some, List, inl, inr, refl, sym, ◌∙◌, ap, subst, arith}
use Rattle.std.specs.Prelude.{◌==◌, ◌&&◌, nat_lt, if◌then◌else◌}
use Rattle.std.proofs.lemmas.Bool.{cases_eq, cases_lt, lt-ltb, le-ltb, eq-eqb, ne_eqb, and_right}
use Rattle.map_model.specs.declared.call.Call.TheVariants.{Get}
use Rattle.map_model.specs.Map.{shown}
use Rattle.image_layout.specs.Places.{Shape}
use Rattle.way.specs.Ways.{head_word}
use Rattle.world.specs.Ground.{Ground}
use Rattle.world.specs.Views.{Glance, Answer, View, Has}
use Rattle.world.specs.Attempts.{HasNoMore}
use Rattle.world.specs.Kinds.{validates, next_entry, with_reply, with_answer, marked, all_again, view_after}
use Rattle.phase.specs.declared.back.Back.{Back}
use Rattle.phase.specs.declared.back.Back.TheVariants as back
use Rattle.phase.specs.declared.back.Backed.TheVariants as backed
use Rattle.phase.specs.Backs.{back_taken}
use Rattle.phase.specs.Stands.{IsThere, back_kind}
use Rattle.phase.proofs.Backing.{back_cases}
use Rattle.phase.specs.declared.role.Role.{Role}
use Rattle.phase.specs.declared.role.Role.TheVariants.{Home, Probing, First, Second}
use Rattle.read_op.specs.declared.step.Seen.{Seen}
use Rattle.read_op.specs.declared.step.ReadStep.{ReadStep}
use Rattle.read_op.specs.declared.step.ReadStep.TheVariants.{Check, Relook, Ended}
use Rattle.read_op.specs.declared.step.Task.{Task}
use Rattle.phase.specs.Asked.{index}
use Rattle.phase.proofs.asking.Asked.{few}
use Rattle.read_op.specs.Places.{free_at}
use Rattle.read_op.specs.Steps.{backed_to, relook_first, relook_second, relook_next, relooked, busy, moved, end_of, lock_of}
use Rattle.read_op.specs.Fits.{IsIn, is_asked, Watched, at_head, at_bucket, watched_word, watched_value, is_watched, rank, leads, IsChecked, suits_in, EntersAnswer}
use Rattle.world.proofs.stepping.Noting.{never, marked_one, marked_to, marked_from, mark_word, mark_value, mark_here, mark_there, mark_unlike, all_marked, one_unmarked}
use Rattle.read_op.proofs.Places.{watched_apart, cases_watched}

-- ---- numbers
lt_same : (a b : ℕ) → a ≢ b → nat_lt a b ≡ nat_lt a (b + 1)
lt_same a b other = elim (cases_lt a b) [
  | inl low ↦ lt-ltb a b low ∙ sym (lt-ltb a (b + 1) (omega (arith, low)))
  | inr high ↦ le-ltb a b high ∙ sym (le-ltb a (b + 1) (omega (arith, high, other)))
]

few_watched : (s : Seen) (w : Watched) → is_watched s w ≡ true → rank w < 5
few_watched s at_head asked = omega arith
few_watched s (at_bucket q) asked = let low = few s.first s.second q asked in omega (arith, low)

module _ (site : Ground) (task : Task) (is : IsIn site task) (s : Seen) (there : s.path.segment < site.shape.segments) where
  within : s.path.segment < task.site.geometry.segments
  within = subst (λ (g : Shape). s.path.segment < g.segments) (sym is.shape) there

  -- ---- one word further
  checked_skip : (notes : List Glance) (w : Watched) → is_watched s w ≡ false → IsChecked site notes task s (rank w) → IsChecked site notes task s (rank w + 1)
  checked_skip notes w out c = record {
    from = λ n h.
        let f = c.from n h in (
          f.0,
          f.1,
          f.2,
          f.3,
          f.4 ∙ lt_same (rank f.0) (rank w) (λ e. elim (cases_watched f.0 w) [
            | inl same ↦ never (sym out ∙ subst (λ (z : Watched). is_watched s z ≡ true) same f.1)
            | inr other ↦ other e
          ]),
        );
    to = c.to;
  }

  checked_more : (notes : List Glance) (w : Watched) (n : ℕ) → n ≡ watched_value s w → IsChecked site notes task s (rank w)
      → IsChecked site (marked (watched_word task s w) n notes) task s (rank w + 1)
  checked_more notes w n same c = record {
    from = λ o h.
        let b = marked_from (watched_word task s w) n notes o h in
        let f = c.from b.0 b.1 in
        let again : (marked_one (watched_word task s w) n b.0).again ≡ nat_lt (rank f.0) (rank w + 1) = elim (cases_watched f.0 w) [
          | inl e ↦
              let number = ap rank e in
              mark_here (watched_word task s w) n b.0 (f.2 ∙ ap (watched_word task s) e) (f.3 ∙ ap (watched_value s) e ∙ sym same) ∙ sym (lt-ltb (rank f.0) (rank w + 1) (omega (arith, number)))
          | inr other ↦
              mark_there (watched_word task s w) n b.0 (λ e. other (ap rank (watched_apart task s f.0 w within (sym f.2 ∙ e))))
              ∙ f.4 ∙ lt_same (rank f.0) (rank w) other
        ] in (
          f.0,
          f.1,
          ap (λ (z : Glance). z.word) b.2 ∙ mark_word (watched_word task s w) n b.0 ∙ f.2,
          ap (λ (z : Glance). z.value) b.2 ∙ mark_value (watched_word task s w) n b.0 ∙ f.3,
          ap (λ (z : Glance). z.again) b.2 ∙ again,
        );
    to = λ o asked. (let t = c.to o asked in (
      marked_one (watched_word task s w) n t.0,
      marked_to (watched_word task s w) n notes t.0 t.1,
      mark_word (watched_word task s w) n t.0 ∙ t.2,
      mark_value (watched_word task s w) n t.0 ∙ t.3,
    ));
  }

  -- ---- whether all are marked
  ends_all : (notes : List Glance) → IsChecked site notes task s 5 → all_again notes ≡ true
  ends_all notes c = all_marked notes (λ n h. let f = c.from n h in f.4 ∙ lt-ltb (rank f.0) 5 (few_watched s f.0 f.1))

  -- the note of a word that is next is not
  not_again : (notes : List Glance) (w : Watched) (k : ℕ) → rank w ≡ k → (n : Glance) → Has n notes → n.word ≡ watched_word task s w → IsChecked site notes task s k → n.again ≡ false
  not_again notes w k at n has word c =
      let f = c.from n has in
      let same = ap rank (watched_apart task s f.0 w within (sym f.2 ∙ word)) in
      f.4 ∙ le-ltb (rank f.0) k (omega (arith, same, at))

  one_left : (notes : List Glance) (w : Watched) → is_watched s w ≡ true → IsChecked site notes task s (rank w) → all_again notes ≡ false
  one_left notes w asked c = let t = c.to w asked in one_unmarked notes t.0 t.1 (not_again notes w (rank w) refl t.0 t.1 t.2 c)

  -- a word that is not the same marks nothing
  one_unlike : (notes : List Glance) (w : Watched) (n : ℕ) → is_watched s w ≡ true → (watched_value s w ≡ n → ⊥) → IsChecked site notes task s (rank w)
      → all_again (marked (watched_word task s w) n notes) ≡ false
  one_unlike notes w n asked other c =
      let t = c.to w asked in
      one_unmarked (marked (watched_word task s w) n notes) (marked_one (watched_word task s w) n t.0) (marked_to (watched_word task s w) n notes t.0 t.1)
      (mark_unlike (watched_word task s w) n t.0 (λ e. other (sym t.3 ∙ e)) ∙ not_again notes w (rank w) refl t.0 t.1 t.2 c)

module _ (site : Ground) (task : Task) (is : IsIn site task) (v : View) where
  abbrev pub Kept : ReadStep → View → Type 0
  Kept s u = suits_in site task s u × EntersAnswer task.key s v u

  -- ---- the step, where the header leads to the hash
  module _ (s : Seen) (placed : ℕ) (there : IsThere site s.path.segment v.facts) (leading : leads task s ≡ true) where
    abbrev answer : Answer
    answer = record { key = task.key; value = s.value; place = placed }

    module _ (notes : List Glance) where
      abbrev told : View
      told = record v { notes = notes; answer = Some answer }

      silent : HasNoMore v told
      silent = record { own = refl; seen = refl }

      -- not all are marked: nothing is entered
      not_all : (step : ReadStep) → suits_in site task step told → EntersAnswer task.key step v told → all_again notes ≡ false → Kept step (with_answer (all_again notes) (Some answer) told)
      not_all step suits quiet f = subst (λ b. Kept step (with_answer b (Some answer) told)) (sym f) (suits, quiet)

      go_to : (p : Role) → is_asked s p ≡ true → IsChecked site notes task s (suc (index p)) → Kept (Relook s placed p) (with_answer (all_again notes) (Some answer) told)
      go_to p asked c = not_all (Relook s placed p) (record { there = there; leads = leading; checked = c; answer = refl }, asked) silent
          (one_left site task is s there.within notes (at_bucket p) asked c)

      finish_by : (a : Option ℕ) → Kept (Ended (end_of a placed)) (with_reply told (next_entry told (Get task.key) (shown a) placed false))
      finish_by (Some x) = (tt, record { own = refl; seen = refl })
      finish_by None = (tt, record { own = refl; seen = refl })

      finish : IsChecked site notes task s 5 → Kept (Ended (end_of s.value placed)) (with_answer (all_again notes) (Some answer) told)
      finish c = subst (λ b. Kept (Ended (end_of s.value placed)) (with_answer b (Some answer) told)) (sym (ends_all site task is s there.within notes c)) (finish_by s.value)

      second_kept : IsChecked site notes task s 4 → Kept (relook_second s placed) (with_answer (all_again notes) (Some answer) told)
      second_kept c = by s.second refl
        where
          by : (b : Bool) → s.second ≡ b → Kept (if b then Relook s placed Second else Ended (end_of s.value placed)) (with_answer (all_again notes) (Some answer) told)
          by true e = go_to Second e c
          by false e = finish (checked_skip site task is s there.within notes (at_bucket Second) e c)

      first_kept : IsChecked site notes task s 3 → Kept (relook_first s placed) (with_answer (all_again notes) (Some answer) told)
      first_kept c = by s.first refl
        where
          by : (b : Bool) → s.first ≡ b → Kept (if b then Relook s placed First else relook_second s placed) (with_answer (all_again notes) (Some answer) told)
          by true e = go_to First e c
          by false e = second_kept (checked_skip site task is s there.within notes (at_bucket First) e c)

      next_kept : (p : Role) → is_asked s p ≡ true → IsChecked site notes task s (suc (index p) + 1) → Kept (relook_next s placed p) (with_answer (all_again notes) (Some answer) told)
      next_kept Home asked c = go_to Probing refl c
      next_kept Probing asked c = first_kept c
      next_kept First asked c = second_kept c
      next_kept Second asked c = finish c
      next_kept p asked c = never asked

    module _ (w : Watched) (n : ℕ) (asked : is_watched s w ≡ true) (c : IsChecked site v.notes task s (rank w)) where
      abbrev after : List Glance
      after = marked (watched_word task s w) n v.notes

      abbrev u : View
      u = with_answer (all_again after) (Some answer) (told after)

      -- where the word is not the same nothing is entered
      unlike : (n ≡ watched_value s w → ⊥) → (step : ReadStep) → suits_in site task step (told after) → EntersAnswer task.key step v (told after) → Kept step u
      unlike other step suits quiet = not_all after step suits quiet (one_unlike site task is s there.within v.notes w n asked (λ e. other (sym e)) c)

    module _ (p : Role) (n : ℕ) (asked : is_asked s p ≡ true) (c : IsChecked site v.notes task s (suc (index p))) (even : free_at s.free p % 2 ≡ 0) where
      abbrev lock : ℕ
      lock = lock_of task s p

      abbrev seen_view : View
      seen_view = u (at_bucket p) n asked c

      relook_unlike : (n ≡ free_at s.free p → ⊥) → (b : Bool) → Kept (if b then busy lock n else moved lock (free_at s.free p) n) seen_view
      relook_unlike other true = unlike (at_bucket p) n asked c other (busy lock n) tt (silent (after (at_bucket p) n asked c))
      relook_unlike other false = unlike (at_bucket p) n asked c other (moved lock (free_at s.free p) n) tt (silent (after (at_bucket p) n asked c))

      relook_by : Kept (relooked task s placed p n) seen_view
      relook_by = elim (cases_eq n (free_at s.free p)) [
        | inl e ↦
            subst (λ b. Kept (if b then busy lock n else if n == free_at s.free p then relook_next s placed p else moved lock (free_at s.free p) n) seen_view)
            (sym (ne_eqb (n % 2) 1 (λ odd. omega (arith, odd, e, even))))
            (subst (λ b. Kept (if b then relook_next s placed p else moved lock (free_at s.free p) n) seen_view) (sym (eq-eqb n (free_at s.free p) e))
            (next_kept (after (at_bucket p) n asked c) p asked (checked_more site task is s there.within v.notes (at_bucket p) n e c)))
        | inr other ↦
            subst (λ b. Kept (if n % 2 == 1 then busy lock n else if b then relook_next s placed p else moved lock (free_at s.free p) n) seen_view)
            (sym (ne_eqb n (free_at s.free p) other)) (relook_unlike other (n % 2 == 1))
      ]

    module _ (n : ℕ) (c : IsChecked site v.notes task s 0) where
      abbrev head_view : View
      head_view = u at_head n refl c

      abbrev head_moved : ReadStep
      head_moved = moved (head_word task.site.geometry s.path.segment) s.path.head n

      head_by : Kept (backed_to s placed (back_taken task.site task.hash s.path back.Head n)) head_view
      head_by = elim (cases_eq n s.path.head) [
        | inl e ↦
            subst (λ b. Kept (backed_to s placed (if b then backed.Same else backed.Moved (head_word task.site.geometry s.path.segment) s.path.head n)) head_view)
            (sym (ap (λ b. b && leads task s) (eq-eqb n s.path.head e) ∙ leading))
            (go_to (after at_head n refl c) Home refl (checked_more site task is s there.within v.notes at_head n e c))
        | inr other ↦
            subst (λ b. Kept (backed_to s placed (if b then backed.Same else backed.Moved (head_word task.site.geometry s.path.segment) s.path.head n)) head_view)
            (sym (ap (λ b. b && leads task s) (ne_eqb n s.path.head other)))
            (unlike at_head n refl c other head_moved tt (silent (after at_head n refl c)))
      ]

  -- ---- a lock word again
  pub relook_kept : (s : Seen) (placed : ℕ) (p : Role) (n : ℕ) → suits_in site task (Relook s placed p) v → free_at s.free p % 2 ≡ 0
      → Kept (relooked task s placed p n) (view_after site.shape (validates (lock_of task s p)) n v)
  relook_kept s placed p n (a, asked) even =
      let notes : List Glance = marked (lock_of task s p) n v.notes in
      subst (λ o. Kept (relooked task s placed p n) (with_answer (all_again notes) o (record v { notes = notes; answer = o }))) (sym a.answer)
      (relook_by s placed a.there a.leads p n asked a.checked even)

  -- ---- the way again
  -- where the header leads away nothing is entered
  astray_more : (b : Bool) (notes : List Glance) (o : Option Answer) → o ≡ None → HasNoMore v (with_answer b o (record v { notes = notes; answer = o }))
  astray_more false notes o none = record { own = refl; seen = refl }
  astray_more true notes o none = subst (λ a. HasNoMore v (with_answer true a (record v { notes = notes; answer = a }))) (sym none) (record { own = refl; seen = refl })

  pub check_kept : (s : Seen) (placed n : ℕ) (at : Back) → suits_in site task (Check s placed at) v
      → Kept (backed_to s placed (back_taken task.site task.hash s.path at n))
      (view_after site.shape (back_kind task.site task.hash s.path (validates (head_word task.site.geometry s.path.segment)) at) n v)
  check_kept s placed n back.Root suits =
      back_cases (λ x. Kept (backed_to s placed x) v) task.site task.hash s.path back.Root n (suits, record { own = refl; seen = refl }) (tt, record { own = refl; seen = refl })
  check_kept s placed n back.Entry suits =
      back_cases (λ x. Kept (backed_to s placed x) v) task.site task.hash s.path back.Entry n (suits, record { own = refl; seen = refl }) (tt, record { own = refl; seen = refl })
  check_kept s placed n back.Head (inl a) =
      let notes : List Glance = marked (head_word task.site.geometry s.path.segment) n v.notes in
      subst (λ o. Kept (backed_to s placed (back_taken task.site task.hash s.path back.Head n)) (with_answer (all_again notes) o (record v { notes = notes; answer = o }))) (sym a.answer)
      (head_by s placed a.there a.leads n a.checked)
  check_kept s placed n back.Head (inr a) =
      let notes : List Glance = marked (head_word task.site.geometry s.path.segment) n v.notes in
      let u : View = with_answer (all_again notes) v.answer (record v { notes = notes }) in
      subst (λ b. Kept (backed_to s placed (if b then backed.Same else backed.Moved (head_word task.site.geometry s.path.segment) s.path.head n)) u)
      (sym (and_right (n == s.path.head) (leads task s) a.away)) (tt, astray_more (all_again notes) notes v.answer a.no_answer)
