-- What is not settled lies on lines of the round, and at the end all is settled.
use Rattle.std.proofs.Common.{◌≡◌, ℕ, ◌+◌, ◌<◌, ◌≤◌, inl, inr, true, cond, Option, None, Some, List, [], ◌∷◌, ◌++◌, length, take, drop, refl, sym, ap, ◌∙◌, subst, arith}
use Rattle.std.specs.Prelude.{slice_index}
use Rattle.std.proofs.lemmas.Bool.{cases_lt, lt-ltb, le-ltb, eq-eqb}
use Rattle.std.proofs.lemmas.List.{drop_more, drop_all, take_more}
use Rattle.trace.specs.Events.{line_of}
use Rattle.trace.proofs.Listed.{has_append_left, has_append_right}
use Rattle.op_core.specs.declared.want.Want.{Want}
use Rattle.image_layout.specs.Places.{Shape}
use Rattle.world.specs.Facts.{Fact}
use Rattle.world.specs.Core.{core_of}
use Rattle.world.specs.Views.{View, Has, IsLoose}
use Rattle.world.specs.Kinds.{on_line, off_line, loosened, flushes, view_after}
use Rattle.world.specs.areas.Kinds.{sets, settles, view_then}
use Rattle.world.specs.StepKinds.{wanted_of, view_by}
use Rattle.world.proofs.basics.Lists.{has_joined}
use Rattle.world.proofs.basics.Seats.{loosened_has}
use Rattle.whole_segment.specs.Rounds.{takes, touched}
use Rattle.whole_segment.proofs.Settling.{touched_few}
use Rattle.rounds.specs.declared.rounds.RoundStep.{RoundStep}
use Rattle.rounds.specs.declared.rounds.RoundStep.TheVariants.{Storing, Flushing, Fencing}
use Rattle.rounds.specs.declared.rounds.Rounds.{Rounds}
use Rattle.rounds.specs.Steps.{at_step, begun, flushed_to, rounds_wanted, rounds_taken}
use Rattle.rounds.specs.Events.{IsFlush, IsFence, IsRoundEvent}
use Rattle.rounds.specs.Stands.{kind_of, rounds_kind, AreOnLines, IsLooseOn, RoundStands, IsSettled}
use Rattle.rounds.specs.Laws.{RoundsSettle}
use Rattle.rounds.proofs.Events.{event_cases, events_end, cases_wanted}
use Rattle.rounds.proofs.Lines.{none_left, has_touched, still_touched, on_line_is, off_line_has}

-- nothing is loose where all is settled
pub settled_firm : (v : View) → IsSettled v → (p : ℕ × ℕ) → IsLoose v p → ⊥
settled_firm v settled p loose = elim loose [
  | inl dirty ↦ subst (λ (l : List (ℕ × ℕ)). Has p l) settled.dirty dirty
  | inr flushed ↦ subst (λ (l : List (ℕ × ℕ)). Has p l) settled.flushed flushed
]

-- where as much is loose, a round stands as well
module _ (v u : View) (dirty : u.dirty ≡ v.dirty) (flushed : u.flushed ≡ v.flushed) where
  loose_same : (lines : List ℕ) (step : RoundStep) → IsLooseOn lines step v → IsLooseOn lines step u
  loose_same lines Storing l = ((λ p has. l.0 p (subst (λ (ps : List (ℕ × ℕ)). Has p ps) dirty has)), flushed ∙ l.1)
  loose_same lines (Flushing i) l = (l.0, (λ p has. l.1 p (subst (λ (ps : List (ℕ × ℕ)). Has p ps) dirty has)), (λ p has. l.2 p (subst (λ (ps : List (ℕ × ℕ)). Has p ps) flushed has)))
  loose_same lines Fencing l = dirty ∙ l

  pub round_same : (rounds : Rounds) → RoundStands rounds v → RoundStands rounds u
  round_same rounds r = record { few = r.few; loose = loose_same rounds.round rounds.step r.loose }

-- ---- a store
-- a word that gets a value of the same core is not loose
pub stays_firm : (shape : Shape) (i old new : ℕ) (dirty : List (ℕ × ℕ)) → core_of shape i old ≡ core_of shape i new → loosened shape i old new dirty ≡ dirty
stays_firm shape i old new dirty same =
    let more : List (ℕ × ℕ) = (i, old) ∷ dirty in
    ap (λ b. cond b dirty more) (eq-eqb (core_of shape i old) (core_of shape i new) same)

stored_on : (shape : Shape) (lines : List ℕ) (word value n : ℕ) (dirty : List (ℕ × ℕ)) → AreOnLines lines dirty
    → AreOnLines (touched lines (line_of word)) (loosened shape word n value dirty)
stored_on shape lines word value n dirty on p has = elim (loosened_has shape word n value dirty p has) [
  | inl e ↦ subst (λ (q : ℕ × ℕ). Has (line_of q.0) (touched lines (line_of word))) (sym e) (has_touched lines (line_of word))
  | inr old ↦ still_touched lines (line_of word) (line_of p.0) (on p old)
]

store_stands : (shape : Shape) (lines : List ℕ) (word value n : ℕ) (v : View) → takes lines (line_of word) ≡ true → length lines ≤ 8 → IsLooseOn lines Storing v
    → RoundStands (at_step (touched lines (line_of word)) Storing) (view_then shape (sets word value) n v)
store_stands shape lines word value n v room few loose = record {
  few = touched_few lines (line_of word) few room;
  loose = (stored_on shape lines word value n v.dirty loose.0, loose.1);
}

-- ---- a flush
module _ (lines : List ℕ) (i : ℕ) (low : i < length lines) (dirty flushed : List (ℕ × ℕ)) (on_dirty : AreOnLines (drop i lines) dirty) (on_flushed : AreOnLines (take i lines) flushed) where
  abbrev line : ℕ
  line = slice_index lines i

  -- what is not flushed lies on lines behind this one
  behind : AreOnLines (drop (i + 1) lines) (off_line line dirty)
  behind p has =
      let q = off_line_has line p dirty has in
      elim (subst (λ (l : List ℕ). Has (line_of p.0) l) (drop_more lines i 0 low) (on_dirty p q.0)) [ inl same ↦ absurd (q.1 same) | inr rest ↦ rest ]

  -- and what is not fenced on this one or before it
  before : AreOnLines (take (i + 1) lines) (on_line line dirty ++ flushed)
  before p has = subst (λ (l : List ℕ). Has (line_of p.0) l) (sym (take_more lines i 0 low)) (elim (has_joined (on_line line dirty) flushed p has) [
    | inl here ↦ has_append_right (line_of p.0) (take i lines) (line ∷ []) (inl (on_line_is line p dirty here))
    | inr old ↦ has_append_left (line_of p.0) (take i lines) (line ∷ []) (on_flushed p old)
  ])

  -- behind the last line nothing is dirty
  all_flushed : length lines ≤ i + 1 → off_line line dirty ≡ []
  all_flushed last = none_left (off_line line dirty) (λ p has. subst (λ (l : List ℕ). Has (line_of p.0) l) (drop_all (i + 1) lines last) (behind p has))

  flush_leaves : (u : View) → u.dirty ≡ off_line line dirty → u.flushed ≡ on_line line dirty ++ flushed → IsLooseOn lines (flushed_to lines i) u
  flush_leaves u is_dirty is_flushed = elim (cases_lt (i + 1) (length lines)) [
    | inl more ↦ subst (λ (t : RoundStep). IsLooseOn lines t u) (sym (ap (λ b. cond b (Flushing (i + 1)) Fencing) (lt-ltb (i + 1) (length lines) more)))
        (more, subst (AreOnLines (drop (i + 1) lines)) (sym is_dirty) behind, subst (AreOnLines (take (i + 1) lines)) (sym is_flushed) before)
    | inr last ↦ subst (λ (t : RoundStep). IsLooseOn lines t u) (sym (ap (λ b. cond b (Flushing (i + 1)) Fencing) (le-ltb (i + 1) (length lines) last)))
        (is_dirty ∙ all_flushed last)
  ]

-- ---- a fence
-- all is flushed where one is wanted
pub fence_dirty : (rounds : Rounds) (next : Option (ℕ × ℕ)) (want : Want) (v : View) → RoundStands rounds v → IsFence rounds next want → v.dirty ≡ []
fence_dirty rounds next want v stands f = elim f.step [
  | inl fencing ↦ subst (λ (t : RoundStep). IsLooseOn rounds.round t v) fencing stands.loose
  | inr past ↦
      let loose : IsLooseOn rounds.round (Flushing past.0) v = subst (λ (t : RoundStep). IsLooseOn rounds.round t v) past.1 stands.loose in
      let low = loose.0 in
      let high = past.2 in absurd (omega (arith, low, high))
]

-- ---- each event
module _ (shape : Shape) (facts : List Fact) (rounds : Rounds) (next : Option (ℕ × ℕ)) (n : ℕ) (v : View) (stands : RoundStands rounds v) where
  loose_at : (step : RoundStep) → rounds.step ≡ step → IsLooseOn rounds.round step v
  loose_at step e = subst (λ (t : RoundStep). IsLooseOn rounds.round t v) e stands.loose

  -- where no store is taken, nothing was flushed before the first line
  none_flushed : v.flushed ≡ [] → AreOnLines [] v.flushed
  none_flushed e p has = subst (λ (l : List (ℕ × ℕ)). Has p l) e has

  flush_stands : (want : Want) → (f : IsFlush rounds next want) → RoundStands (at_step rounds.round (flushed_to rounds.round f.number)) (view_after shape (flushes (slice_index rounds.round f.number)) n v)
  flush_stands want f = record {
    few = stands.few;
    loose = elim f.step [
      | inl first ↦ (let loose = loose_at Storing first.0 in
          flush_leaves rounds.round f.number f.low v.dirty v.flushed (subst (λ i. AreOnLines (drop i rounds.round) v.dirty) (sym first.1) loose.0)
          (subst (λ i. AreOnLines (take i rounds.round) v.flushed) (sym first.1) (none_flushed loose.1)) (view_after shape (flushes (slice_index rounds.round f.number)) n v) refl refl)
      | inr more ↦ (let loose = loose_at (Flushing f.number) more in
          flush_leaves rounds.round f.number f.low v.dirty v.flushed loose.1 loose.2 (view_after shape (flushes (slice_index rounds.round f.number)) n v) refl refl)
    ];
  }

  fence_stands : (want : Want) → IsFence rounds next want → RoundStands begun (view_then shape (settles facts) n v)
  fence_stands want f = record { few = omega arith; loose = (λ p has. subst (λ (l : List (ℕ × ℕ)). Has p l) (fence_dirty rounds next want v stands f) has, refl) }

  -- by what is wanted
  stands_by : (want : Want) → IsRoundEvent rounds next want → RoundStands (rounds_taken rounds next) (view_by shape (kind_of facts (Some want)) n v)
  stands_by want event = elim event [
    | inl s ↦ subst (λ (w : Want). RoundStands (rounds_taken rounds next) (view_by shape (kind_of facts (Some w)) n v)) (sym s.wants)
        (subst (λ (r : Rounds). RoundStands r (view_then shape (sets s.word s.value) n v)) (sym s.leaves) (store_stands shape rounds.round s.word s.value n v s.takes stands.few (loose_at Storing s.step)))
    | inr f ↦ elim f [
      | inl f ↦ subst (λ (w : Want). RoundStands (rounds_taken rounds next) (view_by shape (kind_of facts (Some w)) n v)) (sym f.wants)
          (subst (λ (r : Rounds). RoundStands r (view_after shape (flushes (slice_index rounds.round f.number)) n v)) (sym f.leaves) (flush_stands want f))
      | inr f ↦ subst (λ (w : Want). RoundStands (rounds_taken rounds next) (view_by shape (kind_of facts (Some w)) n v)) (sym f.wants)
          (subst (λ (r : Rounds). RoundStands r (view_then shape (settles facts) n v)) (sym f.leaves) (fence_stands want f))
    ]
  ]

  round_stands : RoundStands (rounds_taken rounds next) (view_by shape (rounds_kind rounds next facts) n v)
  round_stands = elim (cases_wanted (rounds_wanted rounds next)) [
    | inl none ↦ (let ends = events_end rounds next none in
        subst (λ (o : Option Want). RoundStands (rounds_taken rounds next) (view_by shape (kind_of facts o) n v)) (sym none)
        (subst (λ (o : Option (ℕ × ℕ)). RoundStands (rounds_taken rounds o) v) (sym ends.1)
        (subst (λ (r : Rounds). RoundStands (rounds_taken r None) v) (sym ends.0) (subst (λ (r : Rounds). RoundStands r v) ends.0 stands))))
    | inr some ↦ subst (λ (o : Option Want). RoundStands (rounds_taken rounds next) (view_by shape (kind_of facts o) n v)) (sym some.1) (stands_by some.0 (event_cases rounds next some.0 some.1))
  ]

-- behind this event
pub round_behind : (shape : Shape) (rounds : Rounds) (next : Option (ℕ × ℕ)) (n : ℕ) (v : View) → RoundStands rounds v → (facts : List Fact) (want : Want) → rounds_wanted rounds next ≡ Some want
    → RoundStands (rounds_taken rounds next) (view_by shape (kind_of facts (Some want)) n v)
round_behind shape rounds next n v stands facts want is = stands_by shape facts rounds next n v stands want (event_cases rounds next want is)

-- ---- begin and end
nothing_loose : (v : View) → RoundStands begun v → IsSettled v
nothing_loose v stands = record { dirty = none_left v.dirty (λ p has. stands.loose.0 p has); flushed = stands.loose.1 }

pub begun_settled : (rounds : Rounds) (v : View) → rounds ≡ begun → RoundStands rounds v → IsSettled v
begun_settled rounds v is stands = nothing_loose v (subst (λ (r : Rounds). RoundStands r v) is stands)

round_begins : (v : View) → IsSettled v → RoundStands begun v
round_begins v settled = record { few = omega arith; loose = (λ p has. subst (λ (l : List (ℕ × ℕ)). Has p l) settled.dirty has, settled.flushed) }

-- ---- what is wanted
kind_wants : (shape : Shape) (facts : List Fact) (rounds : Rounds) (next : Option (ℕ × ℕ)) (want : Want) → IsRoundEvent rounds next want → want ≡ wanted_of shape (kind_of facts (Some want))
kind_wants shape facts rounds next want event = elim event [
  | inl s ↦ subst (λ (w : Want). w ≡ wanted_of shape (kind_of facts (Some w))) (sym s.wants) refl
  | inr f ↦ elim f [
    | inl f ↦ subst (λ (w : Want). w ≡ wanted_of shape (kind_of facts (Some w))) (sym f.wants) refl
    | inr f ↦ subst (λ (w : Want). w ≡ wanted_of shape (kind_of facts (Some w))) (sym f.wants) refl
  ]
]

pub rounds_settle : RoundsSettle
rounds_settle = record {
  wants = λ shape facts rounds next want e. kind_wants shape facts rounds next want (event_cases rounds next want e) ∙ ap (λ (o : Option Want). wanted_of shape (kind_of facts o)) (sym e);
  begins = round_begins;
  stands = λ shape facts rounds next n v stands. round_stands shape facts rounds next n v stands;
  ends = λ rounds next v stands e. begun_settled rounds v (events_end rounds next e).0 stands;
}
