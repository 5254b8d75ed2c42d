-- How many events are left.
use Rattle.std.proofs.Common.{◌≡◌, ℕ, suc, ◌+◌, ◌-◌, ◌*◌, ◌<◌, ◌≤◌, Bool, true, false, Option, None, Some, length, inl, inr, refl, sym, ◌∙◌, subst, arith}
use Rattle.std.specs.Prelude.{if◌then◌else◌, nat_lt}
use Rattle.std.proofs.lemmas.Bool.{ltb-true}
use Rattle.std.proofs.lemmas.Option.{none-some}
use Rattle.op_core.specs.declared.want.Want.{Want}
use Rattle.op_core.specs.declared.want.Ans.{Ans}
use Rattle.op_core.specs.declared.want.Ans.TheVariants.{Passed, Value}
use Rattle.op_core.specs.Answers.{IsAnswer}
use Rattle.image_layout.specs.Places.{homes, last_of_buckets}
use Rattle.rounds.specs.declared.rounds.Rounds.{Rounds}
use Rattle.rounds.specs.Steps.{rounds_stores, rounds_wanted, event_wanted, rounds_taken}
use Rattle.rounds.specs.Steps as rounds
use Rattle.rounds.specs.Events.{IsStore, IsRoundEvent}
use Rattle.rounds.specs.Left.{rounds_left}
use Rattle.rounds.proofs.Wanted.{asked}
use Rattle.rounds.proofs.Falling.{step_most, fewer_stores, few_is, few_below, few_most, rounds_fall}
use Rattle.mend_op.specs.declared.stage.Stage.{Stage}
use Rattle.mend_op.specs.declared.stage.Stage.TheVariants as stage
use Rattle.mend_op.specs.declared.op.MendStep.{MendStep}
use Rattle.mend_op.specs.declared.op.MendStep.TheVariants.{Fill, Round, Finish, FinishFlush, FinishFence, Note, Renew, RenewFlush, RenewFence, Give, Ended}
use Rattle.mend_op.specs.declared.op.MendOp.{MendOp}
use Rattle.mend_op.specs.Stages.{most, place}
use Rattle.mend_op.specs.Steps.{at_step, with_word, with_stored, prepared, is_changed, changed_from, due, noted_from, over, rounding_by, begin, rounded_by, loaded_by, wanted_in, next_in}
use Rattle.mend_op.specs.MendPart.{after_stage, notes_left, round_left, fills_left, left_at, most_events}
use Rattle.rounds.proofs.Seeking.{seek_behind}
use Rattle.mend_op.proofs.Dues.{due_is, stored_passed}

abbrev left_of : MendOp → ℕ
left_of op = left_at op.step

-- the first word that is changed is not before where it is sought from
from_behind : (op : MendOp) (stage : Stage) (from : ℕ) → from ≤ changed_from op stage from
from_behind op stage from = seek_behind (is_changed op stage) (most stage) from

-- ---- while notes are stored
note_left : (from n : ℕ) → from ≤ n → (t : Bool) → nat_lt n (2 * homes) ≡ t → left_at (if t then Note n else Renew) ≤ notes_left from
note_left from n behind true is = let low = ltb-true n (2 * homes) is in omega (arith, behind, low)
note_left from n behind false is = omega arith

noted_left : (op : MendOp) (from : ℕ) → left_of (noted_from op from) ≤ notes_left from
noted_left op from = note_left from (changed_from op stage.Note from) (from_behind op stage.Note from) (nat_lt (changed_from op stage.Note from) (2 * homes)) refl

note_falls : (op : MendOp) (n : ℕ) (t : Bool) → left_of (if t then noted_from (with_stored op (place stage.Note n)) (n + 1) else at_step op Renew) < suc (notes_left (n + 1))
note_falls op n true = let most = noted_left (with_stored op (place stage.Note n)) (n + 1) in omega (arith, most)
note_falls op n false = omega arith

-- ---- while words are stored in rounds
abbrev all_left : Stage → ℕ → Rounds → ℕ
all_left stage n rounds = rounds_left rounds (most stage - n) + after_stage stage

over_left : (op : MendOp) (stage : Stage) → left_of (over stage op) ≤ after_stage stage
over_left op stage.Clear = omega arith
over_left op stage.Mend = noted_left (prepared stage.Note op) 0
over_left op stage.Note = omega arith

rounding_left : (op : MendOp) (stage : Stage) (n : ℕ) (rounds : Rounds) (o : Option Want) → left_of (rounding_by o stage n rounds op) ≤ all_left stage n rounds
rounding_left op stage n rounds (Some want) = few_below rounds (all_left stage n rounds)
rounding_left op stage n rounds None = more (left_of (over stage op)) (after_stage stage) (rounds_left rounds (most stage - n)) (over_left op stage)
  where
    more : (a b c : ℕ) → a ≤ b → a ≤ c + b
    more a b c low = omega (arith, low)

begin_left : (op : MendOp) (stage : Stage) → left_of (begin stage op) ≤ 3 * most stage + after_stage stage
begin_left op stage =
    let p : MendOp = prepared stage op in
    let n : ℕ = changed_from p stage 0 in
    let left = rounding_left p stage n rounds.begun (rounds_wanted rounds.begun (due p stage n)) in
    let fewer = fewer_stores rounds.begun (most stage - n) (most stage) (omega arith) in
    let all = rounds_fall.begins (most stage) in
    omega (arith, left, fewer, all)

module _ (op : MendOp) (stage : Stage) (n : ℕ) (rounds : Rounds) (few : length rounds.round ≤ 8) (want : Want) (is : rounds_wanted rounds (due op stage n) ≡ Some want) where
  abbrev after : Rounds
  after = rounds_taken rounds (due op stage n)

  abbrev stored : MendOp
  stored = with_stored op (place stage n)

  abbrev Fewer : Bool → Type 0
  Fewer t = left_of (rounded_by t stage n after op) < all_left stage n rounds

  store_fewer : IsStore rounds (due op stage n) want → Fewer true
  store_fewer s =
      let low : n < most stage = (due_is op stage n s.word s.value s.comes).low in
      let one : most stage - n ≡ suc (most stage - (n + 1)) = omega (arith, low) in
      let m : ℕ = changed_from stored stage (n + 1) in
      let on : n + 1 ≤ m = from_behind stored stage (n + 1) in
      let less = fewer_stores after (most stage - m) (most stage - (n + 1)) (omega (arith, on)) in
      let falls = subst (λ k. rounds_left after (most stage - (n + 1)) < rounds_left rounds k) (sym one) (rounds_fall.stores rounds (due op stage n) (most stage - (n + 1)) s.stores) in
      let left = rounding_left stored stage m after (rounds_wanted after (due stored stage m)) in
      omega (arith, left, less, falls)

  other_fewer : rounds_stores rounds (due op stage n) ≡ false → Fewer false
  other_fewer none =
      let falls = rounds_fall.others rounds (due op stage n) (most stage - n) (λ e. none-some _ (sym e ∙ is)) none in
      let left = rounding_left op stage n after (rounds_wanted after (due op stage n)) in
      omega (arith, left, falls)

  fewer : IsRoundEvent rounds (due op stage n) want → Fewer (rounds_stores rounds (due op stage n))
  fewer event = elim event [
    | inl s ↦ subst (λ t. Fewer t) (sym s.stores) (store_fewer s)
    | inr f ↦ elim f [
      | inl f ↦ subst (λ t. Fewer t) (sym f.stores) (other_fewer f.stores)
      | inr f ↦ subst (λ t. Fewer t) (sym f.stores) (other_fewer f.stores)
    ]
  ]

round_falls : (op : MendOp) (stage : Stage) (n : ℕ) (rounds : Rounds) (a : Ans) → IsAnswer (event_wanted rounds (due op stage n)) a → left_of (next_in op (Round stage n rounds) a) < round_left stage n rounds
round_falls op stage n rounds a answer =
    let q = asked rounds (due op stage n) a answer in
    subst (λ k. left_of (next_in op (Round stage n rounds) a) < k) (sym (few_is rounds (all_left stage n rounds) q.few))
    (subst (λ (x : Ans). left_of (next_in op (Round stage n rounds) x) < all_left stage n rounds) (sym q.passed) (fewer op stage n rounds q.few q.want q.is q.event))

-- ---- while words are loaded
loaded_left : (o : Option ℕ) (op : MendOp) → left_of (loaded_by o op) ≤ 3 * most stage.Clear + after_stage stage.Clear
loaded_left (Some side) op = begin_left op stage.Clear
loaded_left None op = let left = begin_left op stage.Mend in omega (arith, left)

fill_falls : (i : ℕ) (op : MendOp) (t : Bool) → nat_lt i last_of_buckets ≡ t → left_of (if t then at_step op (Fill (i + 1)) else loaded_by op.guarded.side op) < suc (fills_left (i + 1))
fill_falls i op true is = let low = ltb-true i last_of_buckets is in omega (arith, low)
fill_falls i op false is = let left = loaded_left op.guarded.side op in omega (arith, left)

-- EACH ANSWER leaves fewer
pub falls_at : (op : MendOp) (s : MendStep) (a : Ans) → IsAnswer (wanted_in op s) a → left_of (next_in op s a) < left_at s
falls_at op (Fill i) (Value seen) is = fill_falls i (with_word op i seen) (nat_lt i last_of_buckets) refl
falls_at op (Fill i) a is = absurd is
falls_at op (Round stage n rounds) a is = round_falls op stage n rounds a is
falls_at op Finish Passed is = omega arith
falls_at op Finish a is = absurd is
falls_at op FinishFlush Passed is = omega arith
falls_at op FinishFlush a is = absurd is
falls_at op FinishFence Passed is = let left = begin_left op stage.Mend in omega (arith, left)
falls_at op FinishFence a is = absurd is
falls_at op (Note n) a is =
    subst (λ (x : Ans). left_of (next_in op (Note n) x) < suc (notes_left (n + 1))) (sym (stored_passed (due op stage.Note n) a is)) (note_falls op n (nat_lt n (2 * homes)))
falls_at op Renew Passed is = omega arith
falls_at op Renew a is = absurd is
falls_at op RenewFlush Passed is = omega arith
falls_at op RenewFlush a is = absurd is
falls_at op RenewFence Passed is = omega arith
falls_at op RenewFence a is = absurd is
falls_at op Give Passed is = omega arith
falls_at op Give a is = absurd is
falls_at op Ended a is = absurd is

-- at most so many are left
stage_most : (stage : Stage) (n : ℕ) → 3 * (most stage - n) + after_stage stage ≤ 800
stage_most stage.Clear n = omega arith
stage_most stage.Mend n = omega arith
stage_most stage.Note n = omega arith

pub most_at : (s : MendStep) → left_at s ≤ most_events
most_at (Fill i) = omega arith
most_at (Round stage n rounds) = few_most rounds (all_left stage n rounds) most_events (λ few. let lines = step_most rounds.round few rounds.step in let stores = stage_most stage n in omega (arith, lines, stores))
most_at Finish = omega arith
most_at FinishFlush = omega arith
most_at FinishFence = omega arith
most_at (Note n) = omega arith
most_at Renew = omega arith
most_at RenewFlush = omega arith
most_at RenewFence = omega arith
most_at Give = omega arith
most_at Ended = omega arith
