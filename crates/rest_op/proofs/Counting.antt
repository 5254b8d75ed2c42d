-- How many events are left, and how many lines are flushed and not fenced.
use Rattle.std.proofs.Common.{◌≡◌, ◌≢◌, ℕ, suc, ◌+◌, ◌-◌, ◌*◌, ◌<◌, ◌≤◌, Bool, true, false, Option, None, Some, length, inl, inr, refl, sym, ap, ◌∙◌, subst, arith}
use Rattle.std.specs.Prelude.{if◌then◌else◌, nat_lt}
use Rattle.std.proofs.lemmas.Bool.{cases_lt, ltb-true}
use Rattle.std.proofs.lemmas.Option.{none-some}
use Rattle.op_core.specs.declared.want.Want.{Want}
use Rattle.op_core.specs.declared.want.Want.TheVariants as wants
use Rattle.op_core.specs.declared.want.Ans.{Ans}
use Rattle.op_core.specs.declared.want.Ans.TheVariants.{Passed}
use Rattle.op_core.specs.Answers.{IsAnswer}
use Rattle.image_layout.specs.Places.{homes, buckets}
use Rattle.whole_segment.specs.Rounds.{most_lines}
use Rattle.rounds.specs.declared.rounds.Rounds.{Rounds}
use Rattle.rounds.specs.Steps.{rounds_stores, rounds_wanted, event_wanted, rounds_taken}
use Rattle.rounds.specs.Events.{IsStore, IsRoundEvent}
use Rattle.rounds.specs.Waiting.{rounds_waiting}
use Rattle.rounds.specs.Left.{rounds_left}
use Rattle.rounds.proofs.Wanted.{IsAsked, asked}
use Rattle.rounds.proofs.Falling.{step_most, fewer_stores, few_is, few_below, few_most, rounds_fall}
use Rattle.rounds.proofs.Waiting.{most_wait, none_waits, event_ends, event_flushes, event_keeps}
use Rattle.enclose_op.specs.declared.give.Give.{Give as Giving}
use Rattle.enclose_op.specs.Giving.{given}
use Rattle.enclose_op.specs.GiveLaws.{left_of}
use Rattle.enclose_op.specs.Fits.{give_left}
use Rattle.enclose_op.proofs.Backing.{give_falls, give_most}
use Rattle.enclose_op.proofs.Giving.{give_answered, give_flushes}
use Rattle.rest_op.specs.declared.op.RestOp.{RestOp}
use Rattle.rest_op.specs.declared.op.RestStep.{RestStep}
use Rattle.rest_op.specs.declared.op.RestStep.TheVariants.{Clear, Head, HeadFlush, HeadFence, Note, Open, Give, Ended}
use Rattle.rest_op.specs.Steps.{due, is_cleared, clear_from, next_clear, clearing, clearing_by, cleared, is_noted, note_from, noting, given_by, wanted_in, next_in}
use Rattle.rest_op.specs.RestPart.{after_head, notes_left, clear_left, left_at, most_events, waiting_at}
use Rattle.rounds.proofs.Seeking.{seek_behind}
use Rattle.rest_op.proofs.Rounding.{due_is}

-- ---- EVENTS that are left
-- while buckets are cleared
abbrev all_left : ℕ → Rounds → ℕ
all_left b rounds = rounds_left rounds (buckets - b) + 3 + after_head

clearing_left : (op : RestOp) (b : ℕ) (rounds : Rounds) (o : Option Want) → left_at (clearing_by op o b rounds) ≤ all_left b rounds
clearing_left op b rounds (Some want) = few_below rounds (all_left b rounds)
clearing_left op b rounds None = omega arith

module _ (op : RestOp) (b : ℕ) (rounds : Rounds) (few : length rounds.round ≤ 8) (want : Want) (is : rounds_wanted rounds (due op b) ≡ Some want) where
  abbrev after : Rounds
  after = rounds_taken rounds (due op b)

  store_fewer : IsStore rounds (due op b) want → rounds_left after (buckets - clear_from op (b + 1)) < rounds_left rounds (buckets - b)
  store_fewer s =
      let near : b < buckets = (due_is op b s.word s.value s.comes).0 in
      let one : buckets - b ≡ suc (buckets - (b + 1)) = omega (arith, near) in
      let on : b + 1 ≤ clear_from op (b + 1) = seek_behind (is_cleared op) buckets (b + 1) in
      let less = fewer_stores after (buckets - clear_from op (b + 1)) (buckets - (b + 1)) (omega (arith, on)) in
      let falls = subst (λ n. rounds_left after (buckets - (b + 1)) < rounds_left rounds n) (sym one) (rounds_fall.stores rounds (due op b) (buckets - (b + 1)) s.stores) in
      omega (arith, less, falls)

  other_fewer : rounds_stores rounds (due op b) ≡ false → rounds_left after (buckets - b) < rounds_left rounds (buckets - b)
  other_fewer none = rounds_fall.others rounds (due op b) (buckets - b) (λ e. none-some _ (sym e ∙ is)) none

  fewer : IsRoundEvent rounds (due op b) want → rounds_left after (buckets - next_clear op (rounds_stores rounds (due op b)) b) < rounds_left rounds (buckets - b)
  fewer event = elim event [
    | inl s ↦ subst (λ t. rounds_left after (buckets - next_clear op t b) < rounds_left rounds (buckets - b)) (sym s.stores) (store_fewer s)
    | inr f ↦ elim f [
      | inl f ↦ subst (λ t. rounds_left after (buckets - next_clear op t b) < rounds_left rounds (buckets - b)) (sym f.stores) (other_fewer f.stores)
      | inr f ↦ subst (λ t. rounds_left after (buckets - next_clear op t b) < rounds_left rounds (buckets - b)) (sym f.stores) (other_fewer f.stores)
    ]
  ]

clear_falls : (op : RestOp) (b : ℕ) (rounds : Rounds) (a : Ans) → IsAnswer (event_wanted rounds (due op b)) a → left_at (next_in op (Clear b rounds) a) < clear_left b rounds
clear_falls op b rounds a answer =
    let q = asked rounds (due op b) a answer in
    let later : ℕ = next_clear op (rounds_stores rounds (due op b)) b in
    let after : Rounds = rounds_taken rounds (due op b) in
    let left = clearing_left op later after (rounds_wanted after (due op later)) in
    let falls = fewer op b rounds q.few q.want q.is q.event in
    subst (λ n. left_at (next_in op (Clear b rounds) a) < n) (sym (few_is rounds (all_left b rounds) q.few))
    (subst (λ (x : Ans). left_at (next_in op (Clear b rounds) x) < all_left b rounds) (sym q.passed) (omega (arith, left, falls)))

-- while notes are stored
note_left : (from n : ℕ) → from ≤ n → (t : Bool) → nat_lt n (2 * homes) ≡ t → left_at (if t then Note n else Open) ≤ notes_left from
note_left from n behind true is = omega (arith, behind)
note_left from n behind false is = omega arith

noting_left : (op : RestOp) (from : ℕ) → left_at (noting (note_from op from)) ≤ notes_left from
noting_left op from = note_left from (note_from op from) (seek_behind (is_noted op) (2 * homes) from) (nat_lt (note_from op from) (2 * homes)) refl

note_on : (op : RestOp) (n : ℕ) (t : Bool) → nat_lt n (2 * homes) ≡ t → left_at (if t then noting (note_from op (n + 1)) else Open) < notes_left n
note_on op n true is =
    let low : n < 2 * homes = ltb-true n (2 * homes) is in
    note_by n low
  where
    note_by : (n : ℕ) → n < 2 * homes → left_at (noting (note_from op (n + 1))) < notes_left n
    note_by n low = elim (cases_lt n (2 * homes - 1)) [
      | inl less ↦ (let most = noting_left op (n + 1) in omega (arith, most, less))
      | inr last ↦ (let most = end_left (n + 1) (omega (arith, last)) in omega (arith, most))
    ]
      where
        end_by : (m : ℕ) → 2 * homes ≤ m → (t : Bool) → nat_lt m (2 * homes) ≡ t → left_at (if t then Note m else Open) ≤ buckets + 1
        end_by m high true is = (let low = ltb-true m (2 * homes) is in absurd (omega (arith, low, high)))
        end_by m high false is = omega arith

        end_left : (from : ℕ) → 2 * homes ≤ from → left_at (noting (note_from op from)) ≤ buckets + 1
        end_left from high = (let on = seek_behind (is_noted op) (2 * homes) from in end_by (note_from op from) (omega (arith, on, high)) (nat_lt (note_from op from) (2 * homes)) refl)
note_on op n false is = omega arith

-- while it is given back
given_left : (o : Option Giving) → left_at (given_by o) ≡ left_of o
given_left (Some more) = refl
given_left None = refl

-- EACH ANSWER leaves fewer
pub falls_at : (op : RestOp) (s : RestStep) (a : Ans) → IsAnswer (wanted_in op s) a → left_at (next_in op s a) < left_at s
falls_at op (Clear b rounds) a i = clear_falls op b rounds a i
falls_at op Head Passed i = omega arith
falls_at op Head a i = absurd i
falls_at op HeadFlush Passed i = omega arith
falls_at op HeadFlush a i = absurd i
falls_at op HeadFence Passed i = (let most = noting_left op 0 in omega (arith, most))
falls_at op HeadFence a i = absurd i
falls_at op (Note n) Passed i = note_on op n (nat_lt n (2 * homes)) refl
falls_at op (Note n) a i = absurd i
falls_at op Open Passed i = omega arith
falls_at op Open a i = absurd i
falls_at op (Give give) a i =
    let fewer = give_falls give in
    let same = given_left (given give) in
    subst (λ (x : Ans). left_at (next_in op (Give give) x) < give_left give) (sym (give_answered op.whole give a i)) (omega (arith, fewer, same))
falls_at op Ended a i = absurd i

-- at most so many are left
pub most_at : (s : RestStep) → left_at s ≤ most_events
most_at (Clear b rounds) = few_most rounds (all_left b rounds) most_events (λ few. let lines = step_most rounds.round few rounds.step in omega (arith, lines))
most_at Head = omega arith
most_at HeadFlush = omega arith
most_at HeadFence = omega arith
most_at (Note n) = omega arith
most_at Open = omega arith
most_at (Give give) = (let most = give_most give in omega (arith, most))
most_at Ended = omega arith

-- ---- LINES that are flushed and not fenced
pub waits_few : (s : RestStep) → waiting_at s ≤ most_lines
waits_few (Clear b rounds) = most_wait rounds
waits_few HeadFence = omega arith
waits_few s = omega arith

-- as many wait at the bucket that comes next as in its rounds
clearing_waits : (op : RestOp) (b : ℕ) (rounds : Rounds) → waiting_at (clearing op b rounds) ≡ rounds_waiting rounds
clearing_waits op b rounds = by (rounds_wanted rounds (due op b)) refl
  where
    by : (o : Option Want) → rounds_wanted rounds (due op b) ≡ o → waiting_at (clearing_by op o b rounds) ≡ rounds_waiting rounds
    by (Some want) is = refl
    by None is = sym (none_waits rounds (due op b) is)

cleared_waits : (op : RestOp) (b : ℕ) (rounds : Rounds) → waiting_at (cleared op b rounds) ≡ rounds_waiting (rounds_taken rounds (due op b))
cleared_waits op b rounds = clearing_waits op (next_clear op (rounds_stores rounds (due op b)) b) (rounds_taken rounds (due op b))

-- ---- while buckets are cleared
module _ (op : RestOp) (b : ℕ) (rounds : Rounds) (a : Ans) (answer : IsAnswer (event_wanted rounds (due op b)) a) where
  abbrev next : Option (ℕ × ℕ)
  next = due op b

  q : IsAsked rounds next a
  q = asked rounds next a answer

  passed_waits : waiting_at (next_in op (Clear b rounds) a) ≡ rounds_waiting (rounds_taken rounds next)
  passed_waits = ap (λ (x : Ans). waiting_at (next_in op (Clear b rounds) x)) q.passed ∙ cleared_waits op b rounds

  clear_flushes : (line : ℕ) → event_wanted rounds next ≡ wants.Flush line → waiting_at (Clear b rounds) + 1 ≤ waiting_at (next_in op (Clear b rounds) a)
  clear_flushes line flush = event_flushes rounds next q.few (waiting_at (next_in op (Clear b rounds) a)) (λ w f. passed_waits) line flush

  clear_keeps : event_wanted rounds next ≢ wants.Fence → waiting_at (Clear b rounds) ≤ waiting_at (next_in op (Clear b rounds) a)
  clear_keeps no_fence = event_keeps rounds next q.few (waiting_at (next_in op (Clear b rounds) a)) (λ w f. passed_waits) no_fence

pub flushes_at : (op : RestOp) (s : RestStep) (a : Ans) (line : ℕ) → IsAnswer (wanted_in op s) a → wanted_in op s ≡ wants.Flush line → waiting_at s + 1 ≤ waiting_at (next_in op s a)
flushes_at op (Clear b rounds) a line i flush = clear_flushes op b rounds a i line flush
flushes_at op Head a line i flush = absurd (cc)
flushes_at op HeadFlush Passed line i flush = omega arith
flushes_at op HeadFlush a line i flush = absurd i
flushes_at op HeadFence a line i flush = absurd (cc)
flushes_at op (Note n) a line i flush = absurd (cc)
flushes_at op Open a line i flush = absurd (cc)
flushes_at op (Give give) a line i flush = absurd (give_flushes op.whole give line flush)
flushes_at op Ended a line i flush = absurd (cc)

pub keeps_at : (op : RestOp) (s : RestStep) (a : Ans) → IsAnswer (wanted_in op s) a → wanted_in op s ≢ wants.Fence → waiting_at s ≤ waiting_at (next_in op s a)
keeps_at op (Clear b rounds) a i no_fence = clear_keeps op b rounds a i no_fence
keeps_at op HeadFence a i no_fence = absurd (no_fence refl)
keeps_at op s a i no_fence = omega arith

-- ---- at the end none waits
pub ends_waiting : (op : RestOp) (s : RestStep) → wanted_in op s ≡ wants.Done → waiting_at s ≡ 0
ends_waiting op (Clear b rounds) done = event_ends rounds (due op b) done
ends_waiting op HeadFence done = absurd (cc)
ends_waiting op s done = refl
