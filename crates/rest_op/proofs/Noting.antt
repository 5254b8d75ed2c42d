-- Notes are stored: which words have theirs, what each store asks, and what it leaves.
use Rattle.std.proofs.Common.{◌≡◌, ◌≢◌, ℕ, ◌+◌, ◌*◌, ◌/◌, ◌%◌, ◌^◌, ◌<◌, ◌≤◌, Bool, true, false, inl, inr, refl, sym, ap, ◌∙◌, subst, arith}
use Rattle.std.specs.Prelude.{◌==◌, ◌&&◌, if◌then◌else◌, slice_index, nat_lt}
use Rattle.std.proofs.lemmas.Bool.{cases_eq, cases_lt, eqb-true, eq-eqb, ne_eqb, lt-ltb, le-ltb, ltb-true, ltb-false, not-false, and_right}
use Rattle.segment_head.specs.SplitHeads.{finished_head}
use Rattle.image_layout.specs.Places.{bucket_at, homes, buckets, block, place_of_note}
use Rattle.bucket_words.specs.Core.{core_of}
use Rattle.bucket_words.proofs.segments.Cores.{core_in}
use Rattle.world.specs.Ground.{Ground, IsGround}
use Rattle.world.specs.Views.{View, Has}
use Rattle.world.specs.areas.Kinds.{sets, view_then}
use Rattle.world.specs.areas.Asking.{MayAt}
use Rattle.world.proofs.holders.directing.Finishing.{may_finish}
use Rattle.enclose_op.specs.Phases.{IsLocated}
use Rattle.rounds.specs.Stands.{IsSettled}
use Rattle.rounds.proofs.Settling.{settled_firm, stays_firm}
use Rattle.enclose_op.specs.declared.enclosed.Enclosed.{Enclosed}
use Rattle.enclose_op.specs.Whole.{kept_word, kept_third}
use Rattle.enclose_op.specs.Giving.{lock_of}
use Rattle.rest_op.specs.declared.op.RestOp.{RestOp}
use Rattle.rest_op.specs.declared.op.RestStep.TheVariants.{Note, Open}
use Rattle.rest_op.specs.Steps.{note_home, note_value, note_old, note_word, is_noted, note_from, noting}
use Rattle.rest_op.specs.Reckoned.{IsReckoned}
use Rattle.rest_op.specs.Stands.{value_of, first_before, third_before, HasAll, IsNoting, SuitsStep}
use Rattle.enclose_op.proofs.Places.{lock_is}
use Rattle.rest_op.proofs.whole.Words.{same_value}
use Rattle.rounds.proofs.Seeking.{seek_behind, seek_within, seek_fails}
use Rattle.rest_op.proofs.whole.Known.{all_same, all_stored, settled_holder, holds_bucket}

-- ---- the words of the notes, by their homes
module _ (op : RestOp) where
  -- word 1 of a home is an even one, and word 3 an odd one
  even_home : (c : ℕ) → c < homes → note_home (2 * c) ≡ c
  even_home c low = omega (arith, low)

  odd_home : (c : ℕ) → c < homes → note_home (2 * c + 1) ≡ c
  odd_home c low = omega (arith, low)

  is_even : (c : ℕ) → (2 * c % 2 == 0) ≡ true
  is_even c = let even : 2 * c % 2 ≡ 0 = omega arith in eq-eqb (2 * c % 2) 0 even

  is_odd : (c : ℕ) → ((2 * c + 1) % 2 == 0) ≡ false
  is_odd c = ne_eqb ((2 * c + 1) % 2) 0 (λ e. omega (arith, e))

  pub even_value : (c : ℕ) → c < homes → note_value op (2 * c) ≡ slice_index op.notes.first c
  even_value c low =
      ap (λ t. if t then slice_index op.notes.first (note_home (2 * c)) else slice_index op.notes.third (note_home (2 * c))) (is_even c) ∙ ap (slice_index op.notes.first) (even_home c low)

  pub odd_value : (c : ℕ) → c < homes → note_value op (2 * c + 1) ≡ slice_index op.notes.third c
  odd_value c low =
      ap (λ t. if t then slice_index op.notes.first (note_home (2 * c + 1)) else slice_index op.notes.third (note_home (2 * c + 1))) (is_odd c) ∙ ap (slice_index op.notes.third) (odd_home c low)

  even_old : (c : ℕ) → c < homes → note_old op (2 * c) ≡ slice_index op.cleared c
  even_old c low =
      ap (λ t. if t then slice_index op.cleared (note_home (2 * c)) else kept_word op.whole (note_home (2 * c)) 3) (is_even c) ∙ ap (slice_index op.cleared) (even_home c low)

  odd_old : (c : ℕ) → c < homes → note_old op (2 * c + 1) ≡ kept_third op.whole c
  odd_old c low =
      ap (λ t. if t then slice_index op.cleared (note_home (2 * c + 1)) else kept_word op.whole (note_home (2 * c + 1)) 3) (is_odd c) ∙ ap (kept_third op.whole) (odd_home c low)

  even_word : (c : ℕ) → c < homes → note_word op (2 * c) ≡ lock_of op.whole c + 1
  even_word c low =
      ap (λ h. lock_of op.whole h + place_of_note (2 * c)) (even_home c low) ∙ ap (λ n. lock_of op.whole c + n) (let even : place_of_note (2 * c) ≡ 1 = omega arith in even)

  odd_word : (c : ℕ) → c < homes → note_word op (2 * c + 1) ≡ lock_of op.whole c + 3
  odd_word c low =
      ap (λ h. lock_of op.whole h + place_of_note (2 * c + 1)) (odd_home c low) ∙ ap (λ n. lock_of op.whole c + n) (let odd : place_of_note (2 * c + 1) ≡ 3 = omega arith in odd)

  -- ---- words 1 and 3 of each bucket, of which those before one have their notes
  abbrev first_by : ℕ → Bool → Bool → ℕ
  first_by c home done = if home && done then slice_index op.notes.first c else slice_index op.cleared c

  abbrev third_by : ℕ → Bool → Bool → ℕ
  third_by c home done = if home && done then slice_index op.notes.third c else kept_third op.whole c

  first_done : (n c : ℕ) → c < homes → 2 * c < n → first_before op n c ≡ slice_index op.notes.first c
  first_done n c low done = ap (λ t. first_by c t (nat_lt (2 * c) n)) (lt-ltb c homes low) ∙ ap (first_by c true) (lt-ltb (2 * c) n done)

  first_undone : (n c : ℕ) → n ≤ 2 * c → first_before op n c ≡ slice_index op.cleared c
  first_undone n c high = ap (first_by c (nat_lt c homes)) (le-ltb (2 * c) n high) ∙ ap (λ t. if t then slice_index op.notes.first c else slice_index op.cleared c) (and_right (nat_lt c homes) false refl)

  first_stash : (n c : ℕ) → homes ≤ c → first_before op n c ≡ slice_index op.cleared c
  first_stash n c high = ap (λ t. first_by c t (nat_lt (2 * c) n)) (le-ltb c homes high)

  third_done : (n c : ℕ) → c < homes → 2 * c + 1 < n → third_before op n c ≡ slice_index op.notes.third c
  third_done n c low done = ap (λ t. third_by c t (nat_lt (2 * c + 1) n)) (lt-ltb c homes low) ∙ ap (third_by c true) (lt-ltb (2 * c + 1) n done)

  third_undone : (n c : ℕ) → n ≤ 2 * c + 1 → third_before op n c ≡ kept_third op.whole c
  third_undone n c high = ap (third_by c (nat_lt c homes)) (le-ltb (2 * c + 1) n high) ∙ ap (λ t. if t then slice_index op.notes.third c else kept_third op.whole c) (and_right (nat_lt c homes) false refl)

  third_stash : (n c : ℕ) → homes ≤ c → third_before op n c ≡ kept_third op.whole c
  third_stash n c high = ap (λ t. third_by c t (nat_lt (2 * c + 1) n)) (le-ltb c homes high)

  -- none has at first, and all have at the end
  pub first_none : (c : ℕ) → first_before op 0 c ≡ slice_index op.cleared c
  first_none c = first_undone 0 c (omega arith)

  pub third_none : (c : ℕ) → third_before op 0 c ≡ kept_third op.whole c
  third_none c = third_undone 0 c (omega arith)

  pub first_all : (c : ℕ) → c < homes → first_before op (2 * homes) c ≡ slice_index op.notes.first c
  first_all c low = first_done (2 * homes) c low (omega (arith, low))

  pub third_all : (c : ℕ) → c < homes → third_before op (2 * homes) c ≡ slice_index op.notes.third c
  third_all c low = third_done (2 * homes) c low (omega (arith, low))

  pub first_behind : (c : ℕ) → homes ≤ c → first_before op (2 * homes) c ≡ slice_index op.cleared c
  first_behind c high = first_stash (2 * homes) c high

  -- ---- those that are passed over are as they are to be
  as_it_was : (n : ℕ) → is_noted op n ≡ false → note_value op n ≡ note_old op n
  as_it_was n fails = eqb-true (note_value op n) (note_old op n) (not-false (note_value op n == note_old op n) fails)

  module _ (from c : ℕ) where
    abbrev to : ℕ
    to = note_from op from

    on : from ≤ to
    on = seek_behind (is_noted op) (2 * homes) from

    passed : (n : ℕ) → from ≤ n → n < to → note_value op n ≡ note_old op n
    passed n behind low = as_it_was n (seek_fails (is_noted op) (2 * homes) from n behind low)

    pub first_passed : first_before op to c ≡ first_before op from c
    first_passed = elim (cases_lt c homes) [
      | inr high ↦ first_stash to c high ∙ sym (first_stash from c high)
      | inl low ↦ elim (cases_lt (2 * c) from) [
        | inl done ↦ first_done to c low (omega (arith, done, on)) ∙ sym (first_done from c low done)
        | inr behind ↦ elim (cases_lt (2 * c) to) [
          | inl between ↦ first_done to c low between ∙ sym (even_value c low) ∙ passed (2 * c) behind between ∙ even_old c low ∙ sym (first_undone from c behind)
          | inr after ↦ first_undone to c after ∙ sym (first_undone from c behind)
        ]
      ]
    ]

    pub third_passed : third_before op to c ≡ third_before op from c
    third_passed = elim (cases_lt c homes) [
      | inr high ↦ third_stash to c high ∙ sym (third_stash from c high)
      | inl low ↦ elim (cases_lt (2 * c + 1) from) [
        | inl done ↦ third_done to c low (omega (arith, done, on)) ∙ sym (third_done from c low done)
        | inr behind ↦ elim (cases_lt (2 * c + 1) to) [
          | inl between ↦ third_done to c low between ∙ sym (odd_value c low) ∙ passed (2 * c + 1) behind between ∙ odd_old c low ∙ sym (third_undone from c behind)
          | inr after ↦ third_undone to c after ∙ sym (third_undone from c behind)
        ]
      ]
    ]

  -- ---- with one more
  -- word 1 of a home
  first_even : (c d : ℕ) → d ≢ c → first_before op (2 * c + 1) d ≡ first_before op (2 * c) d
  first_even c d apart = elim (cases_lt d homes) [
    | inr high ↦ first_stash (2 * c + 1) d high ∙ sym (first_stash (2 * c) d high)
    | inl low ↦ elim (cases_lt d c) [
      | inl less ↦ first_done (2 * c + 1) d low (omega (arith, less)) ∙ sym (first_done (2 * c) d low (omega (arith, less)))
      | inr more ↦ first_undone (2 * c + 1) d (omega (arith, more, apart)) ∙ sym (first_undone (2 * c) d (omega (arith, more)))
    ]
  ]

  third_even : (c d : ℕ) → third_before op (2 * c + 1) d ≡ third_before op (2 * c) d
  third_even c d = elim (cases_lt d homes) [
    | inr high ↦ third_stash (2 * c + 1) d high ∙ sym (third_stash (2 * c) d high)
    | inl low ↦ elim (cases_lt d c) [
      | inl less ↦ third_done (2 * c + 1) d low (omega (arith, less)) ∙ sym (third_done (2 * c) d low (omega (arith, less)))
      | inr more ↦ third_undone (2 * c + 1) d (omega (arith, more)) ∙ sym (third_undone (2 * c) d (omega (arith, more)))
    ]
  ]

  -- word 3
  first_odd : (c d : ℕ) → first_before op (2 * c + 1 + 1) d ≡ first_before op (2 * c + 1) d
  first_odd c d = elim (cases_lt d homes) [
    | inr high ↦ first_stash (2 * c + 1 + 1) d high ∙ sym (first_stash (2 * c + 1) d high)
    | inl low ↦ elim (cases_lt c d) [
      | inr less ↦ first_done (2 * c + 1 + 1) d low (omega (arith, less)) ∙ sym (first_done (2 * c + 1) d low (omega (arith, less)))
      | inl more ↦ first_undone (2 * c + 1 + 1) d (omega (arith, more)) ∙ sym (first_undone (2 * c + 1) d (omega (arith, more)))
    ]
  ]

  third_odd : (c d : ℕ) → d ≢ c → third_before op (2 * c + 1 + 1) d ≡ third_before op (2 * c + 1) d
  third_odd c d apart = elim (cases_lt d homes) [
    | inr high ↦ third_stash (2 * c + 1 + 1) d high ∙ sym (third_stash (2 * c + 1) d high)
    | inl low ↦ elim (cases_lt d c) [
      | inl less ↦ third_done (2 * c + 1 + 1) d low (omega (arith, less)) ∙ sym (third_done (2 * c + 1) d low (omega (arith, less)))
      | inr more ↦ third_undone (2 * c + 1 + 1) d (omega (arith, more, apart)) ∙ sym (third_undone (2 * c + 1) d (omega (arith, more)))
    ]
  ]

-- ---- what it leaves loose
-- THE STORE of a word that has the core of the word there
module _ (site : Ground) (ground : IsGround site) (op : RestOp) (l : IsLocated site op.whole.site op.whole.segment) where
  abbrev e : Enclosed
  e = op.whole

  abbrev at : ℕ → ℕ → ℕ
  at b m = bucket_at site.shape e.segment b + m

  module _ (first third : ℕ → ℕ) (v : View) (a : HasAll site e first third (finished_head e.head) v) (settled : IsSettled v) (b m x : ℕ) (near : b < buckets) (from : 1 ≤ m) (to : m ≤ 3)
      (same : core_of site.shape (at b m) x ≡ core_of site.shape (at b m) (value_of e first third b m)) where
    inside : m < block
    inside = omega (arith, to)

    pub known_here : Has (at b m, value_of e first third b m) v.known
    known_here = a.words b m near from inside

    pub word_may : MayAt site (sets (at b m) x) v
    word_may = (may_finish site v ground).rebuild e.segment b m x (value_of e first third b m) (settled_holder site e first third (finished_head e.head) v a l) (holds_bucket site e first third (finished_head e.head) v a l b near) from to
        (record { known = known_here; firm = λ y loose. settled_firm v settled _ loose }) same

    pub word_settled : (n : ℕ) → n ≡ value_of e first third b m → IsSettled (view_then site.shape (sets (at b m) x) n v)
    word_settled n is = record {
      dirty = stays_firm site.shape (at b m) n x v.dirty (ap (core_of site.shape (at b m)) is ∙ sym same) ∙ settled.dirty;
      flushed = settled.flushed;
    }

  -- ---- cores
  core_one : (b x w : ℕ) → b < buckets → x % 2 ^ 28 ≡ w % 2 ^ 28 → core_of site.shape (at b 1) x ≡ core_of site.shape (at b 1) w
  core_one b x w near same = core_in site.shape e.segment b 1 x l.within near (omega arith) ∙ same ∙ sym (core_in site.shape e.segment b 1 w l.within near (omega arith))

  core_three : (b x w : ℕ) → b < buckets → x % 2 ^ 48 ≡ w % 2 ^ 48 → core_of site.shape (at b 3) x ≡ core_of site.shape (at b 3) w
  core_three b x w near same = core_in site.shape e.segment b 3 x l.within near (omega arith) ∙ same ∙ sym (core_in site.shape e.segment b 3 w l.within near (omega arith))

  -- ---- word 1 of a home
  module _ (reckoned : IsReckoned op) (v : View) (c : ℕ) (low : c < homes) where
    near : c < buckets
    near = omega (arith, low)

    other_one : (first later third : ℕ → ℕ) (d k : ℕ) → k ≢ 1 → value_of e later third d k ≡ value_of e first third d k
    other_one first later third d k apart =
        ap (λ t. if t then later d else if k == 3 then third d else kept_word e d k) (ne_eqb k 1 apart) ∙ sym (ap (λ t. if t then first d else if k == 3 then third d else kept_word e d k) (ne_eqb k 1 apart))

    other_three : (first third later : ℕ → ℕ) (d k : ℕ) → k ≢ 3 → value_of e first later d k ≡ value_of e first third d k
    other_three first third later d k apart = ap (λ x. if k == 1 then first d else x)
        (ap (λ t. if t then later d else kept_word e d k) (ne_eqb k 3 apart) ∙ sym (ap (λ t. if t then third d else kept_word e d k) (ne_eqb k 3 apart)))

    module _ (a : IsNoting site op (2 * c) v) where
      abbrev first : ℕ → ℕ
      first = first_before op (2 * c)

      abbrev third : ℕ → ℕ
      third = third_before op (2 * c)

      one_same : core_of site.shape (at c 1) (slice_index op.notes.first c) ≡ core_of site.shape (at c 1) (value_of e first third c 1)
      one_same = core_one c (slice_index op.notes.first c) (first c) near
          ((reckoned.records c low).slots ∙ sym (ap (λ w. w % 2 ^ 28) (first_undone op (2 * c) c (omega arith) ∙ reckoned.cleared c near)))

      pub one_may : MayAt site (sets (at c 1) (slice_index op.notes.first c)) v
      one_may = word_may first third v a.all a.settled c 1 (slice_index op.notes.first c) near (omega arith) (omega arith) one_same

      pub one_known : Has (at c 1, value_of e first third c 1) v.known
      one_known = known_here first third v a.all a.settled c 1 (slice_index op.notes.first c) near (omega arith) (omega arith) one_same

      one_others : (d k : ℕ) → d < buckets → k < block → (d ≡ c → k ≡ 1 → ⊥) → value_of e (first_before op (2 * c + 1)) (third_before op (2 * c + 1)) d k ≡ value_of e first third d k
      one_others d k there _ apart = elim (cases_eq d c) [
        | inl same ↦ other_one first (first_before op (2 * c + 1)) (third_before op (2 * c + 1)) d k (apart same)
            ∙ same_value e first third first (third_before op (2 * c + 1)) d k refl (third_even op c d)
        | inr other ↦ same_value e first third (first_before op (2 * c + 1)) (third_before op (2 * c + 1)) d k (first_even op c d other) (third_even op c d)
      ]

      pub one_stands : (n : ℕ) → n ≡ value_of e first third c 1 → IsNoting site op (2 * c + 1) (view_then site.shape (sets (at c 1) (slice_index op.notes.first c)) n v)
      one_stands n is = record {
        all = all_stored site e first third (first_before op (2 * c + 1)) (third_before op (2 * c + 1)) (finished_head e.head) c 1 (slice_index op.notes.first c) n v near (omega arith)
            (first_done op (2 * c + 1) c low (omega arith)) one_others a.all;
        settled = word_settled first third v a.all a.settled c 1 (slice_index op.notes.first c) near (omega arith) (omega arith) one_same n is;
      }

    -- ---- word 3
    module _ (a : IsNoting site op (2 * c + 1) v) where
      abbrev first_now : ℕ → ℕ
      first_now = first_before op (2 * c + 1)

      abbrev third_now : ℕ → ℕ
      third_now = third_before op (2 * c + 1)

      three_same : core_of site.shape (at c 3) (slice_index op.notes.third c) ≡ core_of site.shape (at c 3) (value_of e first_now third_now c 3)
      three_same = core_three c (slice_index op.notes.third c) (third_now c) near
          ((reckoned.records c low).fingers ∙ sym (ap (λ w. w % 2 ^ 48) (third_undone op (2 * c + 1) c (omega arith))))

      pub three_may : MayAt site (sets (at c 3) (slice_index op.notes.third c)) v
      three_may = word_may first_now third_now v a.all a.settled c 3 (slice_index op.notes.third c) near (omega arith) (omega arith) three_same

      pub three_known : Has (at c 3, value_of e first_now third_now c 3) v.known
      three_known = known_here first_now third_now v a.all a.settled c 3 (slice_index op.notes.third c) near (omega arith) (omega arith) three_same

      three_others : (d k : ℕ) → d < buckets → k < block → (d ≡ c → k ≡ 3 → ⊥) → value_of e (first_before op (2 * c + 1 + 1)) (third_before op (2 * c + 1 + 1)) d k ≡ value_of e first_now third_now d k
      three_others d k there _ apart = elim (cases_eq d c) [
        | inl same ↦ other_three (first_before op (2 * c + 1 + 1)) third_now (third_before op (2 * c + 1 + 1)) d k (apart same)
            ∙ same_value e first_now third_now (first_before op (2 * c + 1 + 1)) third_now d k (first_odd op c d) refl
        | inr other ↦ same_value e first_now third_now (first_before op (2 * c + 1 + 1)) (third_before op (2 * c + 1 + 1)) d k (first_odd op c d) (third_odd op c d other)
      ]

      pub three_stands : (n : ℕ) → n ≡ value_of e first_now third_now c 3 → IsNoting site op (2 * c + 1 + 1) (view_then site.shape (sets (at c 3) (slice_index op.notes.third c)) n v)
      three_stands n is = record {
        all = all_stored site e first_now third_now (first_before op (2 * c + 1 + 1)) (third_before op (2 * c + 1 + 1)) (finished_head e.head) c 3 (slice_index op.notes.third c) n v near (omega arith)
            (third_done op (2 * c + 1 + 1) c low (omega arith)) three_others a.all;
        settled = word_settled first_now third_now v a.all a.settled c 3 (slice_index op.notes.third c) near (omega arith) (omega arith) three_same n is;
      }

  -- ---- EITHER of them: the event may be done, and leaves one more
  pub record NoteGoes (n : ℕ) (v : View) : Type 0 where
    pub old : ℕ
    pub may : MayAt site (sets (note_word op n) (note_value op n)) v
    pub known : Has (note_word op n, old) v.known
    pub stands : (found : ℕ) → found ≡ old → IsNoting site op (n + 1) (view_then site.shape (sets (note_word op n) (note_value op n)) found v)

  one_goes : IsReckoned op → (v : View) (c : ℕ) → c < homes → IsNoting site op (2 * c) v → NoteGoes (2 * c) v
  one_goes reckoned v c low a =
      let i : note_word op (2 * c) ≡ at c 1 = even_word op c low ∙ ap (λ w. w + 1) (lock_is site e l c (omega (arith, low))) in
      let x : note_value op (2 * c) ≡ slice_index op.notes.first c = even_value op c low in
      record {
        old = value_of e (first_before op (2 * c)) (third_before op (2 * c)) c 1;
        may = subst (λ w. MayAt site (sets w (note_value op (2 * c))) v) (sym i) (subst (λ y. MayAt site (sets (at c 1) y) v) (sym x) (one_may reckoned v c low a));
        known = subst (λ w. Has (w, value_of e (first_before op (2 * c)) (third_before op (2 * c)) c 1) v.known) (sym i) (one_known reckoned v c low a);
        stands = λ found is. subst (λ w. IsNoting site op (2 * c + 1) (view_then site.shape (sets w (note_value op (2 * c))) found v)) (sym i)
            (subst (λ y. IsNoting site op (2 * c + 1) (view_then site.shape (sets (at c 1) y) found v)) (sym x) (one_stands reckoned v c low a found is));
      }

  three_goes : IsReckoned op → (v : View) (c : ℕ) → c < homes → IsNoting site op (2 * c + 1) v → NoteGoes (2 * c + 1) v
  three_goes reckoned v c low a =
      let i : note_word op (2 * c + 1) ≡ at c 3 = odd_word op c low ∙ ap (λ w. w + 3) (lock_is site e l c (omega (arith, low))) in
      let x : note_value op (2 * c + 1) ≡ slice_index op.notes.third c = odd_value op c low in
      record {
        old = value_of e (first_before op (2 * c + 1)) (third_before op (2 * c + 1)) c 3;
        may = subst (λ w. MayAt site (sets w (note_value op (2 * c + 1))) v) (sym i) (subst (λ y. MayAt site (sets (at c 3) y) v) (sym x) (three_may reckoned v c low a));
        known = subst (λ w. Has (w, value_of e (first_before op (2 * c + 1)) (third_before op (2 * c + 1)) c 3) v.known) (sym i) (three_known reckoned v c low a);
        stands = λ found is. subst (λ w. IsNoting site op (2 * c + 1 + 1) (view_then site.shape (sets w (note_value op (2 * c + 1))) found v)) (sym i)
            (subst (λ y. IsNoting site op (2 * c + 1 + 1) (view_then site.shape (sets (at c 3) y) found v)) (sym x) (three_stands reckoned v c low a found is));
      }

  pub note_goes : IsReckoned op → (v : View) (n : ℕ) → n < 2 * homes → IsNoting site op n v → NoteGoes n v
  note_goes reckoned v n low a = elim (cases_eq (n % 2) 0) [
    | inl even ↦
        let is : n ≡ 2 * (n / 2) = omega (arith, even) in
        subst (λ m. NoteGoes m v) (sym is) (one_goes reckoned v (n / 2) (omega (arith, low)) (subst (λ m. IsNoting site op m v) is a))
    | inr odd ↦
        let is : n ≡ 2 * (n / 2) + 1 = omega (arith, odd) in
        subst (λ m. NoteGoes m v) (sym is) (three_goes reckoned v (n / 2) (omega (arith, low)) (subst (λ m. IsNoting site op m v) is a))
  ]

  -- ---- where the next one is stored, or the segment is opened
  over : (from : ℕ) (v : View) → IsNoting site op from v → IsNoting site op (note_from op from) v
  over from v a = record {
    all = all_same site e (first_before op from) (third_before op from) (first_before op (note_from op from)) (third_before op (note_from op from)) (finished_head e.head) v
        (λ c _. first_passed op from c) (λ c _. third_passed op from c) a.all;
    settled = a.settled;
  }

  next_suits : (n : ℕ) (v : View) → n ≤ 2 * homes → IsNoting site op n v → (t : Bool) → nat_lt n (2 * homes) ≡ t → SuitsStep site op (if t then Note n else Open) v
  next_suits n v most a true is = (ltb-true n (2 * homes) is, a)
  next_suits n v most a false is = let high = ltb-false n (2 * homes) is in let last : n ≡ 2 * homes = omega (arith, most, high) in subst (λ m. IsNoting site op m v) last a

  pub noting_suits : (from : ℕ) (v : View) → from ≤ 2 * homes → IsNoting site op from v → SuitsStep site op (noting (note_from op from)) v
  noting_suits from v most a =
      next_suits (note_from op from) v (seek_within (is_noted op) (2 * homes) from most) (over from v a) (nat_lt (note_from op from) (2 * homes)) refl

  -- none is stored at first
  pub none_noted : (v : View) → HasAll site e (λ c. slice_index op.cleared c) (kept_third e) (finished_head e.head) v → IsSettled v → IsNoting site op 0 v
  none_noted v a settled = record {
    all = all_same site e (λ c. slice_index op.cleared c) (kept_third e) (first_before op 0) (third_before op 0) (finished_head e.head) v (λ c _. first_none op c) (λ c _. third_none op c) a;
    settled = settled;
  }
