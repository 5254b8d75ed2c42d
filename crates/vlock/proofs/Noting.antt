-- What the loads of a bucket add up to, and what comes of trying a lock and of giving it back.
use Rattle.std.proofs.Common.{◌≡◌, ◌≢◌, inl, inr, ℕ, zero, suc, ◌+◌, ◌-◌, ◌*◌, ◌/◌, ◌%◌, ◌^◌, ◌<◌, ◌≤◌, Bool, true, false, cond, Option, None, List, [], ◌∷◌, length, get_or, set, refl, sym, ap, ◌∙◌, subst, arith, length-set, get_or-set_other, get_or-set_same, eqb, slice_index, slice_set}
use Rattle.std.proofs.lemmas.Bool.{eq-eqb, ne_eqb, cases_eq, eqb-true, eqb-false}
use Rattle.std.specs.Prelude.{◌==◌, ◌&&◌}
use Rattle.bucket_meta.specs.Bucket.{lock_bit}
use Rattle.op_core.specs.declared.want.Want.{Want}
use Rattle.op_core.specs.declared.want.Want.TheVariants.{Load, Store, Exchange}
use Rattle.op_core.specs.declared.want.Ans.{Ans}
use Rattle.op_core.specs.declared.want.Ans.TheVariants.{Value, Won, Lost, Drawn, Passed}
use Rattle.world.specs.Ground.{Ground}
use Rattle.world.specs.Views.{Glance, Answer, View, Has}
use Rattle.world.specs.Kinds.{looks, glances_word, validates, meets_lock, peeks, unlocks, tries, with_look, with_lock, with_noted, with_spent, with_answer, all_again, marked}
use Rattle.world.specs.StepKinds.{StepKind, of_call, view_by}
use Rattle.vlock.specs.declared.knows.Watch.{Watch}
use Rattle.vlock.specs.declared.bucket.LockReply.{LockReply}
use Rattle.vlock.specs.declared.bucket.LockReply.TheVariants.{Locked}
use Rattle.vlock.specs.declared.bucket.LockReply.TheVariants as locking
use Rattle.vlock.specs.declared.bucket.ReadReply.{ReadReply}
use Rattle.vlock.specs.Plays.{Met, MayDo, Tells, Answers, watched}
use Rattle.vlock.specs.Buckets.{MayCall, Loads, IsBesideNotes, WasFound, WasBucket, NotesBucket, WasAt, IsReading, with_loads, LookedOnce, ReadToItsEnd, ReadSays, LockSays, LockTook, TakeTook, MayUnlock, Unlocks}

-- ---- a load
number : Ans → ℕ
number (Value x) = x
number Won = 0
number (Lost x) = x
number (Drawn x) = x
number Passed = 0

told_as : (site : Ground) (kind : ℕ → StepKind) (p q : Watch) (word x n : ℕ) → Value x ≡ Value n → Tells site (Load word) kind p n q → Loads site word kind p x q
unfolding number
told_as site kind p q word x n e t = subst (λ (y : ℕ). Tells site (Load word) kind p y q) (sym (ap number e)) t

pub told : (site : Ground) (want : Want) (kind : ℕ → StepKind) (p q : Watch) (word x : ℕ) → Load word ≡ want → Answers site want kind p (Value x) q → Loads site word kind p x q
told site want kind p q word x is a =
    let b = subst (λ (w : Want). Answers site w kind p (Value x) q) (sym is) a in told_as site kind p q word x b.0 b.1 b.2

-- ---- a view as another but for what it noted
pub noted_view : (v w u : View) (notes : List Glance) → IsBesideNotes v w → u ≡ record w { notes = notes } → IsBesideNotes v u
noted_view v w u notes same is =
    is ∙ (ap (λ (z : View). record z { notes = notes }) same ∙ ap (λ (ns : List Glance). record v { notes = ns }) (sym (ap (λ (z : View). z.notes) is)))

pub may_call : (v w : View) → IsBesideNotes v w → MayCall v → MayCall w
may_call v w same may = subst (λ (z : View). MayCall z) (sym same) may

pub no_answer : (v w : View) → IsBesideNotes v w → v.answer ≡ None → w.answer ≡ None
no_answer v w same none = ap (λ (z : View). z.answer) same ∙ none

-- what the test of a lock word says of its lock bit
pub odd_of : (n : ℕ) → true ≡ (lock_bit n == 1) → lock_bit n ≡ 1
odd_of n test = eqb-true (lock_bit n) 1 (sym test)

pub even_of : (n : ℕ) → false ≡ (lock_bit n == 1) → lock_bit n ≡ 0
even_of n test = let apart = eqb-false (lock_bit n) 1 (sym test) in omega (arith, apart)

-- what a load found was so at a moment
pub found_at : (site : Ground) (v : View) (at x : ℕ) (kind : ℕ → StepKind) (p q : Watch) → IsBesideNotes v p.view → Loads site at kind p x q → WasFound site v at x
found_at site v at x kind p q same l = (p.view, same, (l.1.0, l.1.2))

-- ---- a first look
look_leaves : (t : Bool) (lock n : ℕ) (v : View) → v.answer ≡ None → IsBesideNotes v (with_look t lock n v)
look_leaves true lock n v none = refl
look_leaves false lock n v none = ap (λ (a : Option Answer). record v { notes = []; answer = a }) (sym none)

pub looked : (site : Ground) (lock x : ℕ) (p q : Watch) → Loads site lock (λ n. of_call (looks lock)) p x q → p.view.answer ≡ None → IsBesideNotes p.view q.view
looked site lock x p q l none =
    let after : q.view ≡ with_look (x % 2 == 0) lock x p.view = ap (λ (w : Watch). w.view) l.0 in
    subst (λ (v : View). IsBesideNotes p.view v) (sym after) (look_leaves (x % 2 == 0) lock x p.view none)

pub starts : (site : Ground) (lock x : ℕ) (bits : List ℕ) (p q : Watch) → Loads site lock (λ n. of_call (looks lock)) p x q → x % 2 ≡ 0 → length bits ≡ 32 → slice_index bits 0 ≡ x → p.view.answer ≡ None
    → IsReading site p.view lock x bits 1 q.view
starts site lock x bits p q l even whole first none =
    let after : q.view ≡ with_look (x % 2 == 0) lock x p.view = ap (λ (w : Watch). w.view) l.0 in
    let there : q.view ≡ with_look true lock x p.view = after ∙ ap (λ t. with_look t lock x p.view) (eq-eqb (x % 2) 0 even) in
    subst (λ (v : View). IsReading site p.view lock x bits 1 v) (sym there) (record {
      note = record { word = lock; value = x; words = []; again = false };
      rest = p.view.notes;
      notes = refl;
      lock_is = refl;
      value = refl;
      even = even;
      has = λ j from low. absurd (omega (arith, from, low));
      whole = whole;
      first = first;
      same_view = refl;
      found = (p.view, refl, (l.1.0, l.1.2));
    })

-- ---- one word more
noted_first : (lock i x : ℕ) (note : Glance) (rest : List Glance) → note.word ≡ lock → with_noted lock i x (note ∷ rest) ≡ record note { words = (i, x) ∷ note.words } ∷ with_noted lock i x rest
noted_first lock i x note rest is = ap (λ t. cond t (record note { words = (i, x) ∷ note.words }) note ∷ with_noted lock i x rest) (eq-eqb note.word lock is)

pub goes_on : (site : Ground) (v : View) (lock before : ℕ) (bits : List ℕ) (i x : ℕ) (p q : Watch) → 1 ≤ i → i < 32 → IsReading site v lock before bits i p.view
    → Loads site (lock + i) (λ n. of_call (glances_word lock (lock + i))) p x q → IsReading site v lock before (slice_set bits i x) (i + 1) q.view
goes_on site v lock before bits i x p q from low r l =
    let after : q.view ≡ record p.view { notes = with_noted lock (lock + i) x p.view.notes } = ap (λ (w : Watch). w.view) l.0 in
    record {
      note = record r.note { words = (lock + i, x) ∷ r.note.words };
      rest = with_noted lock (lock + i) x r.rest;
      notes = ap (λ (z : View). z.notes) after ∙ (ap (λ (ns : List Glance). with_noted lock (lock + i) x ns) r.notes ∙ noted_first lock (lock + i) x r.note r.rest r.lock_is);
      lock_is = r.lock_is;
      value = r.value;
      even = r.even;
      has = λ j lower upper. elim (cases_eq j i) [
        | inl e ↦ inl (ap (λ (n : ℕ). (lock + n, get_or (set bits i x) n 0)) e ∙ ap (λ (y : ℕ). (lock + i, y)) (get_or-set_same bits i x 0 (let w = r.whole in omega (arith, w, low))))
        | inr ne ↦ inr (subst (λ (y : ℕ). Has (lock + j, y) r.note.words) (sym (get_or-set_other bits i j x 0 ne)) (r.has j lower (let n = ne in omega (arith, n, upper))))
      ];
      whole = length-set bits i x ∙ r.whole;
      first = get_or-set_other bits i 0 x 0 (λ e. (omega (arith, e, from))) ∙ r.first;
      same_view = noted_view v p.view q.view (with_noted lock (lock + i) x p.view.notes) r.same_view after;
      found = r.found;
    }

-- ---- the loads among the events that were taken
-- the words loaded so far are those that they were when a further one is put behind them
loads_stay : (lock : ℕ) (bits : List ℕ) (i x n : ℕ) (took : List (Want × ℕ)) → n ≤ i → with_loads lock (set bits i x) n took ≡ with_loads lock bits n took
loads_stay lock bits i x zero took most = refl
loads_stay lock bits i x (suc n) took most =
    ap (λ (y : ℕ). (Load (lock + n), y) ∷ with_loads lock (set bits i x) n took) (get_or-set_other bits i n x 0 (λ e. (omega (arith, e, most))))
    ∙ ap (λ (events : List (Want × ℕ)). (Load (lock + n), get_or bits n 0) ∷ events) (loads_stay lock bits i x n took (omega (arith, most)))

one_load_more : (lock : ℕ) (bits : List ℕ) (i x : ℕ) (took : List (Want × ℕ)) → i < length bits → (Load (lock + i), x) ∷ with_loads lock bits i took ≡ with_loads lock (set bits i x) (suc i) took
one_load_more lock bits i x took low =
    ap (λ (events : List (Want × ℕ)). (Load (lock + i), x) ∷ events) (sym (loads_stay lock bits i x i took (omega arith)))
    ∙ ap (λ (y : ℕ). (Load (lock + i), y) ∷ with_loads lock (set bits i x) i took) (sym (get_or-set_same bits i x 0 low))

pub first_load : (site : Ground) (lock x : ℕ) (kind : ℕ → StepKind) (p q : Watch) → Loads site lock kind p x q → q.took ≡ (Load (lock + 0), x) ∷ p.took
first_load site lock x kind p q l = ap (λ (w : Watch). w.took) l.0 ∙ ap (λ (n : ℕ). (Load n, x) ∷ p.took) (omega arith)

pub next_load : (site : Ground) (lock : ℕ) (bits : List ℕ) (i x : ℕ) (kind : ℕ → StepKind) (o p q : Watch) → length bits ≡ 32 → i < 32 → p.took ≡ with_loads lock bits i o.took
    → Loads site (lock + i) kind p x q → q.took ≡ with_loads lock (slice_set bits i x) (i + 1) o.took
next_load site lock bits i x kind o p q whole low so_far l =
    let one_more : suc i ≡ i + 1 = omega arith in
    ap (λ (w : Watch). w.took) l.0
    ∙ (ap (λ (events : List (Want × ℕ)). (Load (lock + i), x) ∷ events) so_far
    ∙ (one_load_more lock bits i x o.took (omega (arith, whole, low))
    ∙ ap (λ (n : ℕ). with_loads lock (set bits i x) n o.took) one_more))

-- and the look behind them
pub last_load : (site : Ground) (lock before after : ℕ) (bits : List ℕ) (i : ℕ) (kind : ℕ → StepKind) (o p q : Watch) → i ≡ 32 → after ≡ before → before % 2 ≡ 0 → p.took ≡ with_loads lock bits i o.took
    → Loads site lock kind p after q → q.took ≡ (Load lock, 2 * (before / 2)) ∷ with_loads lock bits 32 o.took
last_load site lock before after bits i kind o p q all same even so_far l =
    ap (λ (w : Watch). w.took) l.0
    ∙ (ap (λ (events : List (Want × ℕ)). (Load lock, after) ∷ events) (so_far ∙ ap (λ (n : ℕ). with_loads lock bits n o.took) all)
    ∙ ap (λ (y : ℕ). (Load lock, y) ∷ with_loads lock bits 32 o.took) (omega (arith, same, even)))

pub read_to_its_end : (site : Ground) (lock before after : ℕ) (bits : List ℕ) (i : ℕ) (kind : ℕ → StepKind) (o p q : Watch) → i ≡ 32 → slice_index bits 0 ≡ before
    → p.took ≡ with_loads lock bits i o.took → Loads site lock kind p after q → ReadToItsEnd lock before after o.took q.took
read_to_its_end site lock before after bits i kind o p q all first so_far l = (
  bits,
  first,
  ap (λ (w : Watch). w.took) l.0 ∙ ap (λ (events : List (Want × ℕ)). (Load lock, after) ∷ events) (so_far ∙ ap (λ (n : ℕ). with_loads lock bits n o.took) all),
)

pub looked_once : (site : Ground) (lock x : ℕ) (kind : ℕ → StepKind) (p q : Watch) → Loads site lock kind p x q → LookedOnce lock x p.took q.took
looked_once site lock x kind p q l = ap (λ (w : Watch). w.took) l.0

-- ---- a last look
validated_leaves : (t : Bool) (o : Option Answer) (v : View) → o ≡ None → with_answer t o v ≡ v
validated_leaves false o v none = refl
validated_leaves true o v none = ap (λ (a : Option Answer). with_answer true a v) none

pub validated_view : (site : Ground) (v : View) (lock x : ℕ) (p q : Watch) → Loads site lock (λ n. of_call (validates lock)) p x q → IsBesideNotes v p.view → v.answer ≡ None → IsBesideNotes v q.view
validated_view site v lock x p q l same none =
    let w : View = record p.view { notes = marked lock x p.view.notes } in
    let after : q.view ≡ with_answer (all_again w.notes) p.view.answer w = ap (λ (z : Watch). z.view) l.0 in
    noted_view v p.view q.view (marked lock x p.view.notes) same (after ∙ validated_leaves (all_again w.notes) p.view.answer w (no_answer v p.view same none))

pub clean : (site : Ground) (v : View) (lock before after : ℕ) (bits : List ℕ) (i : ℕ) (p q : Watch) → IsReading site v lock before bits i p.view → 32 ≤ i
    → Loads site lock (λ n. of_call (validates lock)) p after q → after ≡ before → WasBucket site v lock (before / 2) bits
clean site v lock before after bits i p q r all l same =
    let m = l.1.0 in
    let there : m.words lock ≡ before = l.1.2 ∙ same in
    let of_note : m.words r.note.word ≡ r.note.value = ap (λ (n : ℕ). m.words n) r.lock_is ∙ (there ∙ sym r.value) in
    let has : Has r.note p.view.notes = subst (λ (ns : List Glance). Has r.note ns) (sym r.notes) (inl refl) in
    record {
      then = p.view;
      same_view = r.same_view;
      moment = m;
      free = (let e = r.even in omega (arith, there, e));
      same = λ j low. elim (cases_eq j 0) [
        | inl e ↦ ap (λ (n : ℕ). m.words (lock + n)) e ∙ (ap (λ (n : ℕ). m.words n) (omega arith) ∙ (there ∙ (sym r.first ∙ ap (λ (n : ℕ). get_or bits n 0) (sym e))))
        | inr ne ↦ m.holds.notes.same m.seat p.view r.note (lock + j) (slice_index bits j) m.there has of_note (r.has j (let n = ne in omega (arith, n)) (omega (arith, low, all)))
      ];
    }

-- the first note gets its mark by a look that finds the value that it has
marked_first : (lock x : ℕ) (note : Glance) (rest : List Glance) → note.word ≡ lock → note.value ≡ x → marked lock x (note ∷ rest) ≡ record note { again = true } ∷ marked lock x rest
marked_first lock x note rest word value =
    ap (λ t. cond (t && (note.value == x)) (record note { again = true }) note ∷ marked lock x rest) (eq-eqb note.word lock word)
    ∙ ap (λ t. cond t (record note { again = true }) note ∷ marked lock x rest) (eq-eqb note.value x value)

pub notes_bucket : (site : Ground) (v : View) (lock before after : ℕ) (bits : List ℕ) (i : ℕ) (p q : Watch) → IsReading site v lock before bits i p.view → 32 ≤ i
    → Loads site lock (λ n. of_call (validates lock)) p after q → after ≡ before → v.answer ≡ None → NotesBucket lock (before / 2) bits q.view
notes_bucket site v lock before after bits i p q r all l same none =
    let w : View = record p.view { notes = marked lock after p.view.notes } in
    let view_is : q.view ≡ w =
    ap (λ (z : Watch). z.view) l.0 ∙ validated_leaves (all_again w.notes) p.view.answer w (no_answer v p.view r.same_view none) in
    let notes_are : q.view.notes ≡ record r.note { again = true } ∷ marked lock after r.rest =
    ap (λ (z : View). z.notes) view_is ∙ (ap (λ (ns : List Glance). marked lock after ns) r.notes ∙ marked_first lock after r.note r.rest r.lock_is (r.value ∙ sym same)) in (
      record r.note { again = true },
      subst (λ (ns : List Glance). Has (record r.note { again = true }) ns) (sym notes_are) (inl refl),
      r.lock_is,
      r.value ∙ (let e = r.even in omega (arith, e)),
      refl,
      λ j lower upper. r.has j lower (omega (arith, upper, all)),
    )

-- what is said of a lock word is so by any of its names
pub says_there : (site : Ground) (lock there : ℕ) (p q : Watch) (reply : ReadReply) → lock ≡ there → ReadSays site lock p reply q → ReadSays site there p reply q
says_there site lock there p q reply e says = subst (λ (n : ℕ). ReadSays site n p reply q) e says

-- ---- trying a lock
pub met_leaves : (site : Ground) (lock x : ℕ) (p q : Watch) → Loads site lock (λ n. of_call (meets_lock lock)) p x q → x ≢ 2 ^ 64 - 2 → q.view ≡ p.view
met_leaves site lock x p q l ne =
    ap (λ (w : Watch). w.view) l.0 ∙ ap (λ t. record p.view { spent_locks = with_spent t lock p.view.spent_locks }) (ne_eqb x (2 ^ 64 - 2) ne)

pub met_spent : (site : Ground) (lock x : ℕ) (p q : Watch) → Loads site lock (λ n. of_call (meets_lock lock)) p x q → x ≡ 2 ^ 64 - 2
    → q.view ≡ record p.view { spent_locks = lock ∷ p.view.spent_locks }
met_spent site lock x p q l is =
    ap (λ (w : Watch). w.view) l.0 ∙ ap (λ t. record p.view { spent_locks = with_spent t lock p.view.spent_locks }) (eq-eqb x (2 ^ 64 - 2) is)

pub was_at : (site : Ground) (at x : ℕ) (kind : ℕ → StepKind) (p q : Watch) → Loads site at kind p x q → WasAt site p.view at x
was_at site at x kind p q l = (l.1.0, l.1.2)

won_view : (site : Ground) (lock free found : ℕ) (v : View) → found ≡ free → free % 2 ≡ 0 → view_by site.shape (of_call (tries lock free)) found v ≡ record v { held = (lock, 2 * (free / 2) + 1) ∷ v.held }
won_view site lock free found v same even =
    ap (λ t. with_lock t lock free v) (eq-eqb found free same) ∙ ap (λ (n : ℕ). record v { held = (lock, n) ∷ v.held }) (omega (arith, even))

lost_view : (site : Ground) (lock free found : ℕ) (v : View) → found ≢ free → view_by site.shape (of_call (tries lock free)) found v ≡ v
lost_view site lock free found v other = ap (λ t. with_lock t lock free v) (ne_eqb found free other)

-- an exchange that is won found what it expected, and one that is lost found what it tells
won_by : (t : Bool) (n : ℕ) → Won ≡ cond t Won (Lost n) → t ≡ true
won_by true n e = refl
won_by false n e = absurd (cc)

lost_by : (t : Bool) (seen n : ℕ) → Lost seen ≡ cond t Won (Lost n) → (t ≡ false) × (n ≡ seen)
unfolding number
lost_by true seen n e = absurd (cc)
lost_by false seen n e = (refl, sym (ap number e))

abbrev Tried : Ground → ℕ → ℕ → Watch → Ans → Watch → Type 0
Tried site lock free p ans q = Answers site (Exchange lock free (free + 1)) (λ n. of_call (tries lock free)) p ans q

pub won : (site : Ground) (lock free : ℕ) (p q : Watch) → free % 2 ≡ 0 → free ≢ 2 ^ 64 - 2 → free < 2 ^ 64 → Tried site lock free p Won q → LockSays site lock p.view (Locked (free / 2)) q.view
won site lock free p q even ne fits a =
    let same : a.0 ≡ free = eqb-true a.0 free (won_by (eqb a.0 free) a.0 a.1) in
    let there : a.2.1.0.words lock ≡ free = a.2.1.2 ∙ same in (
      ap (λ (w : Watch). w.view) a.2.0 ∙ won_view site lock free a.0 p.view same even,
      omega (arith, even, ne, fits),
      (a.2.1.0, omega (arith, even, there)),
    )

pub lost : (site : Ground) (lock free seen : ℕ) (p q : Watch) → Tried site lock free p (Lost seen) q → (q.view ≡ p.view) × (free ≢ seen) × WasAt site p.view lock seen
lost site lock free seen p q a =
    let b = lost_by (eqb a.0 free) seen a.0 a.1 in
    let other : a.0 ≢ free = eqb-false a.0 free b.0 in
    (ap (λ (w : Watch). w.view) a.2.0 ∙ lost_view site lock free a.0 p.view other, (λ e. other (b.1 ∙ sym e)), (a.2.1.0, a.2.1.2 ∙ b.1))

-- the events that an exchange was
pub won_took : (site : Ground) (lock free : ℕ) (p q : Watch) → free % 2 ≡ 0 → Tried site lock free p Won q → TakeTook lock free p.took (Locked (free / 2)) q.took
won_took site lock free p q even a =
    let same : a.0 ≡ free = eqb-true a.0 free (won_by (eqb a.0 free) a.0 a.1) in
    (omega (arith, even), ap (λ (w : Watch). w.took) a.2.0 ∙ ap (λ (n : ℕ). (Exchange lock free (free + 1), n) ∷ p.took) same)

pub lost_took : (site : Ground) (lock free seen : ℕ) (p q : Watch) → Tried site lock free p (Lost seen) q → q.took ≡ (Exchange lock free (free + 1), seen) ∷ p.took
lost_took site lock free seen p q a =
    let b = lost_by (eqb a.0 free) seen a.0 a.1 in
    ap (λ (w : Watch). w.took) a.2.0 ∙ ap (λ (n : ℕ). (Exchange lock free (free + 1), n) ∷ p.took) b.1

-- and with the look before it
pub took_behind : (lock free : ℕ) (reply : LockReply) (took seen later : List (Want × ℕ)) → free % 2 ≡ 0 → free ≢ 2 ^ 64 - 2 → seen ≡ (Load lock, free) ∷ took → TakeTook lock free seen reply later
    → LockTook lock took reply later
took_behind lock free (locking.Locked version) took seen later even more is t =
    t.1
    ∙ (ap (λ (events : List (Want × ℕ)). (Exchange lock free (free + 1), free) ∷ events) is
    ∙ ap (λ (n : ℕ). (Exchange lock n (n + 1), n) ∷ (Load lock, n) ∷ took) t.0)
took_behind lock free (locking.Held x) took seen later even more is t =
    (t.0, inr (free, even, more, t.1 ∙ ap (λ (events : List (Want × ℕ)). (Exchange lock free (free + 1), x) ∷ events) is))
took_behind lock free (locking.Moved before after) took seen later even more is t =
    t.1
    ∙ (ap (λ (events : List (Want × ℕ)). (Exchange lock free (free + 1), after) ∷ events) is
    ∙ ap (λ (n : ℕ). (Exchange lock n (n + 1), after) ∷ (Load lock, n) ∷ took) (sym t.0))
took_behind lock free locking.Spent took seen later even more is t = absurd t

-- ---- giving it back
-- what a lock word that is held was found to be
held_is : (site : Ground) (lock x found : ℕ) (p : Watch) → Has (lock, x) p.view.held → Met site (Load lock) p.view found → found ≡ x
held_is site lock x found p has met = sym met.2 ∙ (met.0.holds.locks.locked met.0.seat p.view lock x met.0.there has).1

pub peeked : (site : Ground) (lock found : ℕ) (p q : Watch) (m : MayUnlock p.view lock) → Loads site lock (λ n. of_call (peeks lock)) p found q → found ≡ m.value
peeked site lock found p q m l = held_is site lock m.value found p m.held l.1

pub gives : (site : Ground) (lock found : ℕ) (p q : Watch) → MayCall p.view → MayUnlock p.view lock → Loads site lock (λ n. of_call (peeks lock)) p found q
    → MayDo site (Store lock (found + 1)) (λ n. of_call (unlocks lock (found + 1))) q.view
gives site lock found p q may m l =
    subst (λ (v : View). MayDo site (Store lock (found + 1)) (λ n. of_call (unlocks lock (found + 1))) v) (sym (ap (λ (w : Watch). w.view) l.0))
    (may.0, λ n met. (refl, ((m.value, m.held, m.firm, m.planned, m.moving, m.owed, ap (λ (n : ℕ). n + 1) (peeked site lock found p q m l)), may.1)))

-- the view that held the lock holds it when it stores, so it found what it had found
pub given : (site : Ground) (lock found : ℕ) (p q r : Watch) (ans : Ans) → MayUnlock p.view lock → Loads site lock (λ n. of_call (peeks lock)) p found q
    → Answers site (Store lock (found + 1)) (λ n. of_call (unlocks lock (found + 1))) q ans r → (x : ℕ) × Has (lock, x) p.view.held × Unlocks site lock x p r
given site lock found p q r ans m l a =
    let same : found ≡ m.value = peeked site lock found p q m l in
    let view_is : q.view ≡ p.view = ap (λ (w : Watch). w.view) l.0 in
    let stored : a.0 ≡ m.value = held_is site lock m.value a.0 q (subst (λ (v : View). Has (lock, m.value) v.held) (sym view_is) m.held) a.2.1 in
    let after : r ≡ watched site.shape (Store lock (m.value + 1)) (of_call (unlocks lock (m.value + 1))) m.value (watched site.shape (Load lock) (of_call (peeks lock)) m.value p) =
    a.2.0
    ∙ (ap (λ (n : ℕ). watched site.shape (Store lock (found + 1)) (of_call (unlocks lock (found + 1))) n q) stored
    ∙ (ap (λ (n : ℕ). watched site.shape (Store lock (n + 1)) (of_call (unlocks lock (n + 1))) m.value q) same
    ∙ (ap (λ (w : Watch). watched site.shape (Store lock (m.value + 1)) (of_call (unlocks lock (m.value + 1))) m.value w) l.0
    ∙ ap (λ (n : ℕ). watched site.shape (Store lock (m.value + 1)) (of_call (unlocks lock (m.value + 1))) m.value (watched site.shape (Load lock) (of_call (peeks lock)) n p)) same))) in
    let odd = (l.1.0.holds.locks.locked l.1.0.seat p.view lock m.value l.1.0.there m.held).2 in
    (m.value, m.held, (odd, ap (λ (w : Watch). w.view) after, ap (λ (w : Watch). w.past) after, ap (λ (w : Watch). w.took) after))
