-- A key stands once in the newest words, or one view has it under way, at each kind of step.
use Rattle.std.proofs.Common.{◌≡◌, ◌⊎◌, ℕ, ◌+◌, ◌%◌, ◌^◌, ◌<◌, List, [], ◌∷◌, set, cond, eqb, ◌&&◌, Bool, true, false, Option, None, Some, inl, inr, refl, sym, ap, ◌∙◌, subst}
use Rattle.std.specs.Prelude.{nat_lt}
use Rattle.std.proofs.lemmas.Bool.{cases_eq, cases_Bool, eqb-true}
use Rattle.trace.specs.Events.{Words, with_word, after}
use Rattle.trace.specs.Events.Event.{loaded, exchanged}
use Rattle.image_layout.specs.Places.{words_of}
use Rattle.image_layout.specs.Volatile.{counter_word, power_word}
use Rattle.map_model.specs.declared.call.Call.{Call}
use Rattle.frame_facts.specs.Core.{core}
use Rattle.frame_facts.specs.Hits.{Hit, HasOnly}
use Rattle.world.specs.Ground.{Ground, IsLockWord}
use Rattle.world.specs.Views.{Answer, Move, Owed, View, Has, At, HasLock}
use Rattle.world.specs.Parts.{IsMoving}
use Rattle.world.specs.Kinds.{Kind, peeks, asks_power, meets_root, meets_entry, meets_head, pins, finds_room, refuses, places, looks, glances_word, validates, learns, meets_lock, tries, stores, copies, clears, repays, publishes, stashes, flushes, fences, draws_place, unlocks, cuts_power, marked, all_again, with_answer, with_look, with_count, with_lock, of_other_records, of_other_homes}
use Rattle.world.specs.Conditions.{IsMoveOf, HoldsMove, IsTidy, May}
use Rattle.world.specs.Laws.{words_by, views_by}
use Rattle.world.proofs.basics.Structures.{known_lock}
use Rattle.world.proofs.basics.Tables.{same_hit, lock_cores, counter_cores, power_cores}
use Rattle.world.proofs.basics.Lists.{set_here}
use Rattle.world.proofs.basics.Seats.{each, carry}
use Rattle.world.proofs.holding.Backing.{Backing}
use Rattle.world.proofs.invariant.KeepMedia.{storer}

other_records_has : (m n : Move) (moves : List Move) → Has n (of_other_records m moves) → Has n moves
other_records_has m n [] h = absurd h
other_records_has m n (p ∷ moves) h = elim (cases_Bool (eqb p.segment m.segment && eqb p.key m.key)) [
  | inl t ↦ inr (other_records_has m n moves (subst (λ b. Has n (cond b (of_other_records m moves) (p ∷ of_other_records m moves))) t h))
  | inr f ↦ elim (subst (λ b. Has n (cond b (of_other_records m moves) (p ∷ of_other_records m moves))) f h) [ inl e ↦ inl e | inr r ↦ inr (other_records_has m n moves r) ]
]

-- two tests at once
pub same_test : (a b c d : ℕ) → (eqb a b && eqb c d) ≡ true → (a ≡ b) × (c ≡ d)
same_test a b c d t = elim (cases_Bool (eqb a b)) [
  | inl e ↦ (eqb-true a b e, eqb-true c d (sym (ap (λ z. z && eqb c d) e) ∙ t))
  | inr e ↦ absurd (let q = ap (λ z. z && eqb c d) e in cc)
]

other_records_stays : (m n : Move) (moves : List Move) → (n.segment ≡ m.segment → n.key ≡ m.key → ⊥) → Has n moves → Has n (of_other_records m moves)
other_records_stays m n [] apart h = absurd h
other_records_stays m n (p ∷ moves) apart h = elim (cases_Bool (eqb p.segment m.segment && eqb p.key m.key)) [
  | inl t ↦ subst (λ b. Has n (cond b (of_other_records m moves) (p ∷ of_other_records m moves))) (sym t) (elim h [
    | inl e ↦ absurd (let s = same_test p.segment m.segment p.key m.key t in apart (ap (λ (z : Move). z.segment) e ∙ s.0) (ap (λ (z : Move). z.key) e ∙ s.1))
    | inr r ↦ other_records_stays m n moves apart r
  ])
  | inr f ↦ subst (λ b. Has n (cond b (of_other_records m moves) (p ∷ of_other_records m moves))) (sym f) (elim h [ inl e ↦ inl e | inr r ↦ inr (other_records_stays m n moves apart r) ])
]

-- what a look, a count and a validation leave as it was
pub look_moving : (t : Bool) (lock n : ℕ) (v : View) → ((with_look t lock n v).moving ≡ v.moving) × ((with_look t lock n v).owed ≡ v.owed) × ((with_look t lock n v).held ≡ v.held)
look_moving true lock n v = (refl, refl, refl)
look_moving false lock n v = (refl, refl, refl)

pub count_moving : (t : Bool) (call : Call) (n : ℕ) (v : View) → ((with_count t call n v).moving ≡ v.moving) × ((with_count t call n v).owed ≡ v.owed) × ((with_count t call n v).held ≡ v.held)
count_moving true call n v = (refl, refl, refl)
count_moving false call n v = (refl, refl, refl)

pub answer_moving : (t : Bool) (a : Option Answer) (v : View) → ((with_answer t a v).moving ≡ v.moving) × ((with_answer t a v).owed ≡ v.owed) × ((with_answer t a v).held ≡ v.held)
answer_moving false a v = (refl, refl, refl)
answer_moving true None v = (refl, refl, refl)
answer_moving true (Some a) v = (refl, refl, refl)

abbrev Held : Ground → List (ℕ × ℕ) → Move → Type 0
Held site held m = HoldsMove site.shape held m

-- more locks hold a move too
more_held : (site : Ground) (held more : List (ℕ × ℕ)) (m : Move) → ((lock : ℕ) → HasLock held lock → HasLock more lock) → Held site held m → Held site more m
more_held site held more m stays o = (stays _ o.0, stays _ o.1, stays _ o.2)

-- a key stands once in a segment of those that P names, or one view has it under way
pub record CopiesOf (site : Ground) (P : ℕ → Type 0) (words : Words) (views : List View) : Type 0 where
  pub once : (s b r c t k : ℕ) → P s → Hit site.shape words s b r k → Hit site.shape words s c t k → ((b ≡ c) × (r ≡ t)) ⊎ IsMoving views s k b r c t
  pub held : (j : ℕ) (v : View) (m : Move) → At views j v → Has m v.moving → HoldsMove site.shape v.held m

copies_law : (site : Ground) (P W : ℕ → Type 0) (words us : Words) (views : List View) (j : ℕ) (v w : View) → At views j v → CopiesOf site P words views
    → ((s b r c t k : ℕ) → W s → Hit site.shape us s b r k → Hit site.shape us s c t k → ((b ≡ c) × (r ≡ t)) ⊎ IsMoving (set views j w) s k b r c t)
    → ((m : Move) → Has m w.moving → Held site w.held m) → CopiesOf site W us (set views j w)
copies_law site P W words us views j v w at o once held = record {
  once = once;
  held = λ i u m a has. each views j v w at (λ i u. Has m u.moving → Held site u.held m) (held m) (λ i u n a. o.held i u m a) i u a has;
}

module _ (site : Ground) (words : Words) (views : List View) (j : ℕ) (v : View) (h : Backing site words views j v) (at : At views j v) (P W : ℕ → Type 0)
    (back : (s : ℕ) → W s → P s) (o0 : CopiesOf site P words views) where
  mine : (m : Move) → Has m v.moving → Held site v.held m
  mine m has = o0.held j v m at has

  -- a move stays under way where its view keeps it
  still_moving : (w : View) (s k b r c t : ℕ) → ((m : Move) → IsMoveOf m s k b r c t → Has m v.moving → Has m w.moving) → IsMoving views s k b r c t → IsMoving (set views j w) s k b r c t
  still_moving w s k b r c t keeps o = let q = carry views j v w at (λ i u. Has o.2 u.moving) (keeps o.2 o.5) o.0 o.1 o.3 o.4 in (o.0, q.0, o.2, q.1, q.2, o.5)

  -- no core of the image changes
  quiet : (us : Words) (w : View) → ((n : ℕ) → n < words_of site.shape → core site.shape us n ≡ core site.shape words n) → w.moving ≡ v.moving
      → ((m : Move) → Has m v.moving → Held site w.held m) → CopiesOf site W us (set views j w)
  quiet us w same moving held = copies_law site P W words us views j v w at o0
      (λ s b r c t k current x y. elim (o0.once s b r c t k (back s current) (same_hit site us words same s b r k x) (same_hit site us words same s c t k y)) [
        | inl e ↦ inl e
        | inr o ↦ inr (still_moving w s k b r c t (λ m _ has. subst (λ (ms : List Move). Has m ms) (sym moving) has) o)
      ])
      (λ m has. held m (subst (λ (ms : List Move). Has m ms) moving has))

  calm : (w : View) → (w.moving ≡ v.moving) × (w.owed ≡ v.owed) × (w.held ≡ v.held) → CopiesOf site W words (set views j w)
  calm w q = quiet words w (λ n _. refl) q.0 (λ m has. subst (λ z. Held site z m) (sym q.2) (mine m has))

  tried : (lock free : ℕ) → IsLockWord site.shape lock → (t : Bool) → CopiesOf site W (after (cond t (exchanged j lock (free + 1)) (loaded j lock)) words) (set views j (with_lock t lock free v))
  tried lock free is true = quiet (with_word words lock (free + 1)) (with_lock true lock free v) (λ n _. lock_cores site words lock (free + 1) is n) refl (λ m has. more_held site v.held (with_lock true lock free v).held m (λ k l. (l.0, inr l.1)) (mine m has))
  tried lock free is false = calm v (refl, refl, refl)

  -- a store
  module _ (i x : ℕ) (calls : List Call) (moves : List Move) (owed : List Owed) {twin : ℕ → ℕ → ℕ → ℕ → ℕ → ℕ → Type 0} {home taken : ℕ → ℕ → Type 0} (tidy : IsTidy site v i x twin home taken) where
    abbrev w : View
    w = storer site words i x calls moves owed v

    stored : ((s k b r c t : ℕ) → twin s k b r c t → IsMoving (set views j w) s k b r c t)
        → ((s b r c t k : ℕ) → Hit site.shape (with_word words i x) s b r k → Hit site.shape (with_word words i x) s c t k → IsMoving views s k b r c t
        → ((b ≡ c) × (r ≡ t)) ⊎ IsMoving (set views j w) s k b r c t)
        → ((m : Move) → Has m moves → Held site v.held m) → CopiesOf site W (with_word words i x) (set views j w)
    stored twins stays held = copies_law site P W words (with_word words i x) views j v w at o0
        (λ s b r c t k current p q. elim (tidy.twins words (h.newest) s b r c t k p q) [
          | inl e ↦ inl e
          | inr e ↦ elim e [
            | inl both ↦ elim (o0.once s b r c t k (back s current) both.0 both.1) [ inl f ↦ inl f | inr o ↦ stays s b r c t k p q o ]
            | inr two ↦ inr (twins s k b r c t two)
          ]
        ]) held

  plain : (i x : ℕ) (calls : List Call) (owed : List Owed) {home taken : ℕ → ℕ → Type 0} → IsTidy site v i x (λ s k b r c t. ⊥) home taken
      → CopiesOf site W (with_word words i x) (set views j (storer site words i x calls v.moving owed v))
  plain i x calls owed tidy = stored i x calls v.moving owed tidy (λ s k b r c t q. absurd q)
      (λ s b r c t k p q o. inr (still_moving (storer site words i x calls v.moving owed v) s k b r c t (λ m _ has. has) o)) mine

  copied : (i x : ℕ) (m : Move) {home taken : ℕ → ℕ → Type 0} → IsTidy site v i x (IsMoveOf m) home taken → Held site v.held m
      → CopiesOf site W (with_word words i x) (set views j (storer site words i x v.planned (m ∷ v.moving) v.owed v))
  copied i x m tidy lock = let w = storer site words i x v.planned (m ∷ v.moving) v.owed v in stored i x v.planned (m ∷ v.moving) v.owed tidy
      (λ s k b r c t q. (j, w, m, set_here views j v w at, inl refl, q))
      (λ s b r c t k p q o. inr (still_moving w s k b r c t (λ n _ has. inr has) o))
      (λ n has. elim has [ inl e ↦ subst (λ (z : Move). Held site v.held z) (sym e) lock | inr r ↦ mine n r ])

  cleared : (i x : ℕ) (m : Move) {home taken : ℕ → ℕ → Type 0} → IsTidy site v i x (λ s k b r c t. ⊥) home taken
      → HasOnly site.shape (with_word words i x) m.segment m.to_bucket m.to_slot m.key
      → CopiesOf site W (with_word words i x) (set views j (storer site words i x v.planned (of_other_records m v.moving) v.owed v))
  cleared i x m tidy only = let w = storer site words i x v.planned (of_other_records m v.moving) v.owed v in stored i x v.planned (of_other_records m v.moving) v.owed tidy
      (λ s k b r c t q. absurd q)
      (λ s b r c t k p q o. elim (cases_eq s m.segment) [
        | inr n ↦ inr (still_moving w s k b r c t (λ a is has. other_records_stays m a v.moving (λ e _. n (is.0 ∙ e)) has) o)
        | inl e ↦ elim (cases_eq k m.key) [
          | inr n ↦ inr (still_moving w s k b r c t (λ a is has. other_records_stays m a v.moving (λ _ f. n (is.1 ∙ f)) has) o)
          | inl f ↦ (let y = only b r (moved s k b r e f p) in let z = only c t (moved s k c t e f q) in inl (y.0 ∙ sym z.0, y.1 ∙ sym z.1))
        ]
      ])
      (λ n has. mine n (other_records_has m n v.moving has))
    where
      moved : (s k b r : ℕ) → s ≡ m.segment → k ≡ m.key → Hit site.shape (with_word words i x) s b r k → Hit site.shape (with_word words i x) m.segment b r m.key
      moved s k b r e f p = subst (λ (z : ℕ). Hit site.shape (with_word words i x) z b r m.key) e (subst (λ (z : ℕ). Hit site.shape (with_word words i x) s b r z) f p)

  pub keep_copies : (kind : Kind) → May site kind v → CopiesOf site W (words_by site kind j words) (views_by site kind j v words views)
  keep_copies (peeks i) may = calm _ (refl, refl, refl)
  keep_copies asks_power may = calm _ (refl, refl, refl)
  keep_copies meets_root may = calm _ (refl, refl, refl)
  keep_copies (meets_entry e i) may = calm _ (refl, refl, refl)
  keep_copies (meets_head s version) may = calm _ (refl, refl, refl)
  keep_copies (pins s b) may = calm _ (refl, refl, refl)
  keep_copies (finds_room call) may = calm _ (count_moving (nat_lt (words (counter_word site.shape)) (2 ^ 63)) call (words (counter_word site.shape)) v)
  keep_copies (refuses call reply) may = calm _ (refl, refl, refl)
  keep_copies (places k a) may = calm _ (refl, refl, refl)
  keep_copies (looks lock) may = calm _ (look_moving (eqb (words lock % 2) 0) lock (words lock) v)
  keep_copies (glances_word lock i) may = calm _ (refl, refl, refl)
  keep_copies (validates lock) may = calm _ (answer_moving (all_again (marked lock (words lock) v.notes)) v.answer (record v { notes = marked lock (words lock) v.notes }))
  keep_copies (learns i) may = calm _ (refl, refl, refl)
  keep_copies (meets_lock lock) may = calm _ (refl, refl, refl)
  keep_copies (tries lock free) may = tried lock free (known_lock site v lock may.0) (eqb (words lock) free)
  keep_copies (stores i x) may = plain i x v.planned v.owed may.0
  keep_copies (copies i x m) may = copied i x m may.0 may.2
  keep_copies (clears i x m) may = cleared i x m may.0 (may.2 words (h.newest))
  keep_copies (repays i x o) may = plain i x v.planned (of_other_homes o v.owed) may.0
  keep_copies (publishes i x call) may = plain i x (call ∷ v.planned) v.owed may.0
  keep_copies (stashes i x call o) may = plain i x (call ∷ v.planned) (o ∷ v.owed) may.0
  keep_copies (flushes l) may = calm _ (refl, refl, refl)
  keep_copies fences may = calm _ (refl, refl, refl)
  keep_copies (draws_place call) may = quiet (with_word words (counter_word site.shape) _) _ (counter_cores site words _) refl mine
  keep_copies (unlocks lock next) may = quiet (with_word words lock next) _ (λ n _. lock_cores site words lock next (h.locks.locked j v lock may.0 at may.1).0 n) refl
      (λ m has. absurd (subst (λ (ms : List Move). Has m ms) may.4 has))
  keep_copies cuts_power may = quiet (with_word words (power_word site.shape) 1) _ (power_cores site words 1) refl mine
