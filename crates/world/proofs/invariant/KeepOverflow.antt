-- The notes of a home are exact, or one view owes it a note, at each kind of step.
use Rattle.std.proofs.Common.{◌≡◌, ◌≢◌, ◌⊎◌, ℕ, ◌+◌, ◌*◌, ◌%◌, ◌^◌, ◌<◌, ◌≤◌, List, [], ◌∷◌, set, cond, eqb, ◌&&◌, Bool, true, false, inl, inr, refl, sym, ap, ◌∙◌, subst, arith}
use Rattle.std.specs.Prelude.{nat_lt}
use Rattle.std.proofs.lemmas.Bool.{cases_eq, cases_Bool, eq-eqb}
use mathlib.Core.Logic.{dite}
use native.Mathlib.Decide.{ℕ_discrete}
use Rattle.trace.specs.Events.{Words, with_word, after}
use Rattle.trace.specs.Events.Event.{loaded, exchanged}
use Rattle.trace.proofs.Replaced.{replaced_other}
use Rattle.image_layout.specs.Places.{first_segment, bucket_at, homes}
use Rattle.image_layout.specs.Volatile.{counter_word, power_word}
use Rattle.sound_image.specs.Records.{HasExactNotes}
use Rattle.map_model.specs.declared.call.Call.{Call}
use Rattle.frame_facts.proofs.segments.Cores.{within_image}
use Rattle.frame_facts.specs.Owners.{HasStructure}
use Rattle.world.specs.Ground.{Ground, IsLockWord}
use Rattle.world.specs.Views.{Move, Owed, View, Has, At, HasLock}
use Rattle.world.specs.Parts.{NobodyOwes}
use Rattle.world.specs.Kinds.{Kind, peeks, asks_power, meets_root, meets_entry, meets_head, pins, finds_room, refuses, places, looks, glances_word, validates, learns, meets_lock, tries, stores, copies, clears, repays, publishes, stashes, flushes, fences, draws_place, unlocks, cuts_power, marked, all_again, with_lock, of_other_records, of_other_homes}
use Rattle.world.specs.Conditions.{IsOwed, IsHomeOf, OwesNone, IsTidy, May}
use Rattle.world.specs.Laws.{words_by, views_by}
use Rattle.world.proofs.basics.Structures.{known_lock, lock_structure, counter_structure, power_structure}
use Rattle.world.proofs.basics.Lists.{set_here, set_there}
use Rattle.world.proofs.basics.Seats.{each, is_v}
use Rattle.world.proofs.holding.Backing.{Backing}
use Rattle.world.proofs.invariant.KeepMedia.{storer}
use Rattle.world.proofs.invariant.KeepCopies.{same_test, look_moving, count_moving, answer_moving}
use Rattle.world.proofs.holding.Owing.{same_notes, owed_same}
use Rattle.frame_facts.proofs.segments.Noted.{exact_same}

not_test : (a b c d : ℕ) → (eqb a b && eqb c d) ≡ false → a ≡ b → c ≡ d → ⊥
not_test a b c d f e g = let p : (eqb a b && eqb c d) ≡ true = rw (eq-eqb a b e, eq-eqb c d g) refl in absurd (cc)

other_homes_has : (o n : Owed) (owed : List Owed) → Has n (of_other_homes o owed) → (n.segment ≡ o.segment → n.home ≡ o.home → ⊥) × Has n owed
other_homes_has o n [] h = absurd h
other_homes_has o n (p ∷ owed) h = elim (cases_Bool (eqb p.segment o.segment && eqb p.home o.home)) [
  | inl t ↦ (let r = other_homes_has o n owed (subst (λ b. Has n (cond b (of_other_homes o owed) (p ∷ of_other_homes o owed))) t h) in (r.0, inr r.1))
  | inr f ↦ elim (subst (λ b. Has n (cond b (of_other_homes o owed) (p ∷ of_other_homes o owed))) f h) [
    | inl e ↦ ((λ q s. not_test p.segment o.segment p.home o.home f (sym (ap (λ (z : Owed). z.segment) e) ∙ q) (sym (ap (λ (z : Owed). z.home) e) ∙ s)), inl e)
    | inr r ↦ (let s = other_homes_has o n owed r in (s.0, inr s.1))
  ]
]

other_homes_stays : (o n : Owed) (owed : List Owed) → (n.segment ≡ o.segment → n.home ≡ o.home → ⊥) → Has n owed → Has n (of_other_homes o owed)
other_homes_stays o n [] apart h = absurd h
other_homes_stays o n (p ∷ owed) apart h = elim (cases_Bool (eqb p.segment o.segment && eqb p.home o.home)) [
  | inl t ↦ subst (λ b. Has n (cond b (of_other_homes o owed) (p ∷ of_other_homes o owed))) (sym t) (elim h [
    | inl e ↦ absurd (let s = same_test p.segment o.segment p.home o.home t in apart (ap (λ (z : Owed). z.segment) e ∙ s.0) (ap (λ (z : Owed). z.home) e ∙ s.1))
    | inr r ↦ other_homes_stays o n owed apart r
  ])
  | inr f ↦ subst (λ b. Has n (cond b (of_other_homes o owed) (p ∷ of_other_homes o owed))) (sym f) (elim h [ inl e ↦ inl e | inr r ↦ inr (other_homes_stays o n owed apart r) ])
]

abbrev lock_of_owed : Ground → Owed → ℕ
lock_of_owed site o = bucket_at site.shape o.segment o.home

-- what is said of one debt
abbrev IsDue : Ground → Words → View → Owed → Type 0
IsDue site us w o = IsOwed site.shape us o × HasLock w.held (lock_of_owed site o) × (o.segment < site.shape.segments) × (o.home < 64)

-- the notes of each home of a segment of those that P names are exact where nobody owes it one; and what is owed is owed as it should be
pub record HomesOf (site : Ground) (P : ℕ → Type 0) (words : Words) (views : List View) : Type 0 where
  pub exact : (s b : ℕ) → P s → b < homes → NobodyOwes views s b → HasExactNotes site.shape words s b
  pub owes : (j : ℕ) (v : View) (o : Owed) → At views j v → Has o v.owed → IsOwed site.shape words o
  pub held : (j : ℕ) (v : View) (o : Owed) → At views j v → Has o v.owed → HasLock v.held (bucket_at site.shape o.segment o.home)
  pub fits : (j : ℕ) (v : View) (o : Owed) → At views j v → Has o v.owed → (o.segment < site.shape.segments) × (o.home < homes)

overflow_law : (site : Ground) (P W : ℕ → Type 0) (words us : Words) (views : List View) (j : ℕ) (v w : View) → At views j v → HomesOf site P words views
    → ((s b : ℕ) → W s → b < 64 → NobodyOwes (set views j w) s b → HasExactNotes site.shape us s b)
    → ((i : ℕ) (u : View) (o : Owed) → i ≢ j → At views i u → Has o u.owed → IsOwed site.shape us o)
    → ((o : Owed) → Has o w.owed → IsDue site us w o) → HomesOf site W us (set views j w)
overflow_law site P W words us views j v w at o exact others own = record {
  exact = exact;
  owes = λ i u d a has. (all i u d a has).0;
  held = λ i u d a has. (all i u d a has).1;
  fits = λ i u d a has. let r = all i u d a has in (r.2, r.3);
}
  where
    all : (i : ℕ) (u : View) (d : Owed) → At (set views j w) i u → Has d u.owed → IsDue site us u d
    all i u d a = each views j v w at (λ i u. Has d u.owed → IsDue site us u d) (own d)
        (λ i u n a has. let f = o.fits i u d a has in (others i u d n a has, o.held i u d a has, f.0, f.1)) i u a

module _ (site : Ground) (words : Words) (views : List View) (j : ℕ) (v : View) (h : Backing site words views j v) (at : At views j v) (P W : ℕ → Type 0)
    (back : (s : ℕ) → W s → P s) (slot : (s : ℕ) → W s → s < site.shape.segments) (o0 : HomesOf site P words views) where
  due : (o : Owed) → Has o v.owed → IsDue site words v o
  due o has = let f = o0.fits j v o at has in (o0.owes j v o at has, o0.held j v o at has, f.0, f.1)

  -- who owes a home nothing after owed it nothing before, where the view keeps what it owes to it
  nobody : (w : View) (s b : ℕ) → ((o : Owed) → o.segment ≡ s → o.home ≡ b → Has o v.owed → Has o w.owed) → NobodyOwes (set views j w) s b → NobodyOwes views s b
  nobody w s b keeps none i u o a has e f = dite (ℕ_discrete i j)
      (λ (q : i ≡ j). none j w o (set_here views j v w at) (keeps o e f (subst (λ (z : View). Has o z.owed) (is_v views j v w at i u a q) has)) e f)
      (λ (n : i ≢ j). none i u o (set_there views j i u w n a) has e f)

  -- the words behind the lock words stay, and the structure
  quiet : (us : Words) (w : View) → HasStructure site.shape words us → ((s c n : ℕ) → s < site.shape.segments → c < 66 → 1 ≤ n → n < 32 → us (bucket_at site.shape s c + n) ≡ words (bucket_at site.shape s c + n))
      → w.owed ≡ v.owed → ((o : Owed) → Has o v.owed → HasLock w.held (lock_of_owed site o)) → HomesOf site W us (set views j w)
  quiet us w structure same owed held = overflow_law site P W words us views j v w at o0
      (λ s b current near none. let seg = slot s current in exact_same site.shape words us s b (same_notes site.shape words us s b seg near (λ c n. same s c n seg))
      (o0.exact s b (back s current) near (nobody w s b (λ o _ _ has. subst (λ (os : List Owed). Has o os) (sym owed) has) none)))
      (λ i u o n a has. let f = o0.fits i u o a has in
      owed_same site.shape words us o (same_notes site.shape words us o.segment o.home f.0 f.1 (λ c n. same o.segment c n f.0)).stashed (o0.owes i u o a has))
      (λ o has. let has' = subst (λ (os : List Owed). Has o os) owed has in let d = due o has' in
      (owed_same site.shape words us o (same_notes site.shape words us o.segment o.home d.2 d.3 (λ c n. same o.segment c n d.2)).stashed d.0, held o has', d.2, d.3))

  calm : (w : View) → (w.moving ≡ v.moving) × (w.owed ≡ v.owed) × (w.held ≡ v.held) → HomesOf site W words (set views j w)
  calm w q = quiet words w (λ i is. refl) (λ s c n _ _ _ _. refl) q.1 (λ o has. subst (λ z. HasLock z (lock_of_owed site o)) (sym q.2) (due o has).1)

  not_lock : (f s c n q b lock : ℕ) → c < 66 → 1 ≤ n → n < 32 → b < 66 → lock ≡ f + 2144 * q + 32 + 32 * b → f + 2144 * s + 32 + 32 * c + n ≡ lock → ⊥
  not_lock f s c n q b lock near above below nb e g = omega arith

  relocked : (lock x : ℕ) (w : View) → IsLockWord site.shape lock → w.owed ≡ v.owed → ((o : Owed) → Has o v.owed → HasLock w.held (lock_of_owed site o)) → HomesOf site W (with_word words lock x) (set views j w)
  relocked lock x w is owed held = quiet (with_word words lock x) w (lock_structure site.shape words lock x is)
      (λ s c n seg near above below. replaced_other words lock x (bucket_at site.shape s c + n) (λ e. not_lock (first_segment site.shape) s c n is.0 is.1 lock near above below is.3 is.4 e)) owed held

  tried : (lock free : ℕ) → IsLockWord site.shape lock → (t : Bool) → HomesOf site W (after (cond t (exchanged j lock (free + 1)) (loaded j lock)) words) (set views j (with_lock t lock free v))
  tried lock free is true = relocked lock (free + 1) (with_lock true lock free v) is refl (λ o has. let l = (due o has).1 in (l.0, inr l.1))
  tried lock free is false = calm v (refl, refl, refl)

  -- a store
  module _ (i x : ℕ) (calls : List Call) (moves : List Move) (owed : List Owed) {twin : ℕ → ℕ → ℕ → ℕ → ℕ → ℕ → Type 0} {home taken : ℕ → ℕ → Type 0} (tidy : IsTidy site v i x twin home taken) where
    abbrev w : View
    w = storer site words i x calls moves owed v

    abbrev us : Words
    us = with_word words i x

    stored : ((s b : ℕ) → s < site.shape.segments → b < 64 → NobodyOwes (set views j w) s b → NobodyOwes views s b ⊎ HasExactNotes site.shape us s b)
        → ((s b : ℕ) → s < site.shape.segments → b < 64 → NobodyOwes (set views j w) s b → home s b → HasExactNotes site.shape us s b)
        → ((u : View) (o : Owed) (n : ℕ) → n ≢ j → At views n u → Has o u.owed → home o.segment o.home → ⊥)
        → ((o : Owed) → Has o owed → IsDue site us v o) → HomesOf site W us (set views j w)
    stored before again apart own = overflow_law site P W words us views j v w at o0
        (λ s b current near none. let seg = slot s current in elim (before s b seg near none) [
          | inr e ↦ e
          | inl nobody ↦ elim (tidy.notes words h.newest s b seg near) [
            | inl same ↦ exact_same site.shape words us s b same
                (o0.exact s b (back s current) near nobody)
            | inr e ↦ elim e [
              | inl o ↦ absurd (nobody j v o.1.0 at o.1.1 o.1.2 o.1.3)
              | inr is ↦ again s b seg near none is
            ]
          ]
        ])
        (λ n u o ne a has. let f = o0.fits n u o a has in elim (tidy.notes words h.newest o.segment o.home f.0 f.1) [
          | inl same ↦ owed_same site.shape words us o same.stashed (o0.owes n u o a has)
          | inr e ↦ elim e [
            | inl q ↦ owed_same site.shape words us o q.0 (o0.owes n u o a has)
            | inr is ↦ absurd (apart u o n ne a has is)
          ]
        ])
        own

    -- a debt that stays
    stays : (o : Owed) → Has o v.owed → (home o.segment o.home → ⊥) → IsDue site us v o
    stays o has apart = let d = due o has in elim (tidy.notes words h.newest o.segment o.home d.2 d.3) [
      | inl same ↦ (owed_same site.shape words us o same.stashed d.0, d.1, d.2, d.3)
      | inr e ↦ elim e [ inl q ↦ (owed_same site.shape words us o q.0 d.0, d.1, d.2, d.3) | inr is ↦ absurd (apart is) ]
    ]

  plain : (i x : ℕ) (calls : List Call) (moves : List Move) {twin : ℕ → ℕ → ℕ → ℕ → ℕ → ℕ → Type 0} {taken : ℕ → ℕ → Type 0} → IsTidy site v i x twin (λ s b. ⊥) taken
      → HomesOf site W (with_word words i x) (set views j (storer site words i x calls moves v.owed v))
  plain i x calls moves tidy = let w = storer site words i x calls moves v.owed v in stored i x calls moves v.owed tidy
      (λ s b seg near none. inl (nobody w s b (λ o _ _ has. has) none)) (λ s b seg near none q. absurd q) (λ u o n ne a has q. absurd q)
      (λ o has. stays i x calls moves v.owed tidy o has (λ q. q))

  -- nobody else owes a home whose lock is held here
  alone : (d : Owed) → HasLock v.held (lock_of_owed site d) → (u : View) (o : Owed) (n : ℕ) → n ≢ j → At views n u → Has o u.owed → IsHomeOf site d o.segment o.home → ⊥
  alone d lock u o n ne a has q =
      let g = o0.held n u o a has in
      let e : lock_of_owed site o ≡ lock_of_owed site d = ap (λ z. bucket_at site.shape z o.home) (sym q.0) ∙ ap (bucket_at site.shape d.segment) (sym q.1) in
      ne (h.locks.alone n j u v (lock_of_owed site d) g.0 lock.0 a at (subst (λ (z : ℕ). Has (z, g.0) u.held) e g.1) lock.1)

  repaid : (i x : ℕ) (o : Owed) {twin : ℕ → ℕ → ℕ → ℕ → ℕ → ℕ → Type 0} {taken : ℕ → ℕ → Type 0} → IsTidy site v i x twin (IsHomeOf site o) taken
      → HasExactNotes site.shape (with_word words i x) o.segment o.home → Has o v.owed
      → HomesOf site W (with_word words i x) (set views j (storer site words i x v.planned v.moving (of_other_homes o v.owed) v))
  repaid i x o tidy exact has = let w = storer site words i x v.planned v.moving (of_other_homes o v.owed) v in stored i x v.planned v.moving (of_other_homes o v.owed) tidy
      (λ s b seg near none. elim (cases_eq s o.segment) [
        | inr n ↦ inl (nobody w s b (λ d e _ q. other_homes_stays o d v.owed (λ f _. n (sym e ∙ f)) q) none)
        | inl e ↦ elim (cases_eq b o.home) [
          | inr n ↦ inl (nobody w s b (λ d _ f q. other_homes_stays o d v.owed (λ _ g. n (sym f ∙ g)) q) none)
          | inl f ↦ inr (here s b e f)
        ]
      ])
      (λ s b seg near none is. here s b (sym is.0) (sym is.1))
      (alone o (due o has).1)
      (λ d q. let r = other_homes_has o d v.owed q in stays i x v.planned v.moving (of_other_homes o v.owed) tidy d r.1 (λ is. r.0 (sym is.0) (sym is.1)))
    where
      here : (s b : ℕ) → s ≡ o.segment → b ≡ o.home → HasExactNotes site.shape (with_word words i x) s b
      here s b e f = subst (λ (z : ℕ). HasExactNotes site.shape (with_word words i x) z b) (sym e) (subst (λ (z : ℕ). HasExactNotes site.shape (with_word words i x) o.segment z) (sym f) exact)

  incurred : (i x : ℕ) (calls : List Call) (o : Owed) {twin : ℕ → ℕ → ℕ → ℕ → ℕ → ℕ → Type 0} {taken : ℕ → ℕ → Type 0} → IsTidy site v i x twin (IsHomeOf site o) taken
      → o.segment < site.shape.segments → o.home < 64 → HasLock v.held (lock_of_owed site o) → OwesNone site v o.segment o.home → IsOwed site.shape (with_word words i x) o
      → HomesOf site W (with_word words i x) (set views j (storer site words i x calls v.moving (o ∷ v.owed) v))
  incurred i x calls o tidy seg near lock none is = let w = storer site words i x calls v.moving (o ∷ v.owed) v in stored i x calls v.moving (o ∷ v.owed) tidy
      (λ s b _ _ nobody'. inl (nobody w s b (λ d _ _ q. inr q) nobody'))
      (λ s b _ _ nobody' q. absurd (nobody' j w o (set_here views j v w at) (inl refl) q.0 q.1))
      (alone o lock)
      (λ d q. elim q [
        | inl e ↦ subst (λ (z : Owed). IsDue site (with_word words i x) v z) (sym e) (is, lock, seg, near)
        | inr r ↦ stays i x calls v.moving (o ∷ v.owed) tidy d r (λ at_home. none d r (sym at_home.0) (sym at_home.1))
      ])

  pub keep_overflow : (kind : Kind) → May site kind v → HomesOf site W (words_by site kind j words) (views_by site kind j v words views)
  keep_overflow (peeks i) may = calm _ (refl, refl, refl)
  keep_overflow asks_power may = calm _ (refl, refl, refl)
  keep_overflow meets_root may = calm _ (refl, refl, refl)
  keep_overflow (meets_entry e i) may = calm _ (refl, refl, refl)
  keep_overflow (meets_head s version) may = calm _ (refl, refl, refl)
  keep_overflow (pins s b) may = calm _ (refl, refl, refl)
  keep_overflow (finds_room call) may = calm _ (count_moving (nat_lt (words (counter_word site.shape)) (2 ^ 63)) call (words (counter_word site.shape)) v)
  keep_overflow (refuses call reply) may = calm _ (refl, refl, refl)
  keep_overflow (places k a) may = calm _ (refl, refl, refl)
  keep_overflow (looks lock) may = calm _ (look_moving (eqb (words lock % 2) 0) lock (words lock) v)
  keep_overflow (glances_word lock i) may = calm _ (refl, refl, refl)
  keep_overflow (validates lock) may = calm _ (answer_moving (all_again (marked lock (words lock) v.notes)) v.answer (record v { notes = marked lock (words lock) v.notes }))
  keep_overflow (learns i) may = calm _ (refl, refl, refl)
  keep_overflow (meets_lock lock) may = calm _ (refl, refl, refl)
  keep_overflow (tries lock free) may = tried lock free (known_lock site v lock may.0) (eqb (words lock) free)
  keep_overflow (stores i x) may = plain i x v.planned v.moving may.0
  keep_overflow (copies i x m) may = plain i x v.planned (m ∷ v.moving) may.0
  keep_overflow (clears i x m) may = plain i x v.planned (of_other_records m v.moving) may.0
  keep_overflow (repays i x o) may = repaid i x o may.0 (may.2 words h.newest) may.3
  keep_overflow (publishes i x call) may = plain i x (call ∷ v.planned) v.moving may.0
  keep_overflow (stashes i x call o) may = incurred i x (call ∷ v.planned) o may.0 may.4 may.5 may.6 may.7 (may.8 words h.newest)
  keep_overflow (flushes l) may = calm _ (refl, refl, refl)
  keep_overflow fences may = calm _ (refl, refl, refl)
  keep_overflow (draws_place call) may = quiet (with_word words (counter_word site.shape) _) _ (counter_structure site.shape words _)
      (λ s c n seg near above below. replaced_other words (counter_word site.shape) _ (bucket_at site.shape s c + n) (λ e. let q = within_image site.shape s c n seg near below in omega (arith, q, e))) refl (λ o has. (due o has).1)
  keep_overflow (unlocks lock next) may = relocked lock next _ (h.locks.locked j v lock may.0 at may.1).0 refl (λ o has. absurd (subst (λ (os : List Owed). Has o os) may.5 has))
  keep_overflow cuts_power may = quiet (with_word words (power_word site.shape) 1) _ (power_structure site.shape words 1)
      (λ s c n seg near above below. replaced_other words (power_word site.shape) 1 (bucket_at site.shape s c + n) (λ e. let q = within_image site.shape s c n seg near below in omega (arith, q, e))) refl (λ o has. (due o has).1)
