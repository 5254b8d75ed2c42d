-- Fewer events are left after each, but while the guard is waited for.
use Rattle.std.proofs.Common.{◌≡◌, ◌≢◌, ℕ, suc, ◌+◌, ◌-◌, ◌*◌, ◌%◌, ◌^◌, ◌<◌, ◌≤◌, ◌⊎◌, inl, inr, Bool, true, false, cond, Option, None, length, refl, sym, ap, subst, arith}
use Rattle.std.specs.Prelude.{◌==◌, min}
use Rattle.std.proofs.Math.Pow.{pow_mono}
use Rattle.std.proofs.lemmas.Bool.{cases_Bool, cases_lt, lt-ltb, le-ltb, le-leb, lt-leb}
use Rattle.std.proofs.lemmas.Option.{none-some}
use Rattle.op_core.specs.declared.want.Want.{Want}
use Rattle.op_core.specs.declared.want.Ans.{Ans}
use Rattle.op_core.specs.declared.want.Ans.TheVariants.{Value, Won, Lost, Passed}
use Rattle.op_core.specs.Answers.{IsAnswer}
use Rattle.segment_head.specs.HeadWord.{depth_in, pattern_in}
use Rattle.image_layout.specs.Places.{Shape, most_depth}
use Rattle.part.specs.Part.{EndsInTime}
use Rattle.rounds.specs.declared.rounds.Rounds.{Rounds}
use Rattle.rounds.specs.Steps.{begun, rounds_stores, rounds_wanted, rounds_taken}
use Rattle.rounds.specs.Left.{left_at, rounds_left}
use Rattle.rounds.proofs.Events.{events_end, cases_wanted, none_stored}
use Rattle.rounds.proofs.Wanted.{asked, asked_some}
use Rattle.rounds.proofs.Falling.{step_most, few_is, few_below, few_most, rounds_fall}
use Rattle.directory_op.specs.declared.op.DirectoryEnd.TheVariants.{Off}
use Rattle.directory_op.specs.declared.op.Stage.{Stage}
use Rattle.directory_op.specs.declared.op.Stage.TheVariants.{Fill, Filled, Deepen, Deepened, GoLive, Live, Enter, Entered}
use Rattle.directory_op.specs.declared.op.DirectoryStep.{DirectoryStep}
use Rattle.directory_op.specs.declared.op.DirectoryStep.TheVariants.{LoadHead, LoadSideHead, TakeGuard, AskPower, LoadRoot, LoadEntry, Store, GiveGuard, Ended}
use Rattle.directory_op.specs.declared.op.DirectoryOp.{DirectoryOp}
use Rattle.directory_op.specs.Places.{entries_there, run_of, side_first, side_last}
use Rattle.directory_op.specs.Steps.{shape_of, next_store, fill_on, stage_after, settled_to, settled_by, passed_to, passed, wanted_in, power_step, rooted, is_over, with_root, taken_in}
use Rattle.directory_op.specs.Left.{most_entries, deepest_entries, after_filled, fill_left, stage_left, guarded_with, guarded_left, step_left, left_of, is_trying}
use Rattle.directory_op.specs.DirectoryPart.{goes_on, directory_part}

-- ---- numbers
pub few_entries : (depth : ℕ) → entries_there depth ≤ most_entries
few_entries depth = elim (cases_lt most_depth depth) [
  | inl high ↦ (let e = ap (λ b. cond b (2 ^ depth) 0) (lt-leb depth most_depth high) in omega (arith, e))
  | inr low ↦ (let e = ap (λ b. cond b (2 ^ depth) 0) (le-leb depth most_depth low) in let most = pow_mono {i = depth} {j = most_depth} low in omega (arith, e, most))
]

-- an area that the image has is no larger than its deepest one, and this than the deepest of all
least_depth : (root depth : ℕ) → root ≤ depth → root ≤ most_depth → root ≤ min depth most_depth
least_depth root depth low most = omega (arith, low, most)

pub entries_within : (root : ℕ) (shape : Shape) → root ≤ shape.depth → entries_there root ≤ deepest_entries shape
entries_within root shape within = elim (cases_lt most_depth root) [
  | inl high ↦ (let e = ap (λ b. cond b (2 ^ root) 0) (lt-leb root most_depth high) in omega (arith, e))
  | inr low ↦ (let e = ap (λ b. cond b (2 ^ root) 0) (le-leb root most_depth low) in let most = pow_mono {i = root} {j = min shape.depth most_depth} (least_depth root shape.depth within low) in omega (arith, e, most))
]

pub few_deepest : (shape : Shape) → deepest_entries shape ≤ most_entries
few_deepest shape = pow_mono {i = min shape.depth most_depth} {j = most_depth} (by shape.depth)
  where
    by : (depth : ℕ) → min depth most_depth ≤ most_depth
    by depth = omega arith

-- behind one of several entries the next one is to be stored
next_entry : (all place l m k : ℕ) → place < all → 3 * (all - place) + l < 3 * suc (all - place) + m
    → 3 * suc (all - (place + 1)) + l + (all - (place + 1)) + k < 3 * suc (all - place) + m + (all - place) + k
next_entry all place l m k low law = omega (arith, low, law)

load_next : (all place l m k : ℕ) → place < all → 3 * (all - place) + l < 3 * suc (all - place) + m
    → 1 + (3 * suc (all - (place + 1)) + l + (all - (place + 1)) + k) < 3 * suc (all - place) + m + (all - place) + k
load_next all place l m k low law = omega (arith, low, law)

none_next : (all place l m k : ℕ) → 3 * (all - place) + l < 3 * suc (all - place) + m → 3 * 0 + l + k < 3 * suc (all - place) + m + (all - place) + k
none_next all place l m k law = omega (arith, law)

side_next : (all place l m : ℕ) → place < all → 3 * (all - place) + l < 3 * suc (all - place) + m → 3 * suc (all - (place + 1)) + l + 1 < 3 * suc (all - place) + m + 1
side_next all place l m low law = omega (arith, low, law)

side_over : (all place l m : ℕ) → 3 * (all - place) + l < 3 * suc (all - place) + m → 3 * 0 + l + 1 < 3 * suc (all - place) + m + 1
side_over all place l m law = omega (arith, law)

below_all : (a b c : ℕ) → a < min b c - 1 → a < c
below_all a b c low = omega (arith, low)

-- ---- what is left whether or not a round has more lines than it may have
abbrev raw_left : DirectoryOp → DirectoryStep → ℕ
raw_left op LoadHead = 3 + guarded_left op
raw_left op LoadSideHead = 2 + guarded_left op
raw_left op TakeGuard = 1 + guarded_left op
raw_left op AskPower = 1 + guarded_left op
raw_left op LoadRoot = guarded_left op
raw_left op (LoadEntry place) = 1 + fill_left op place
raw_left op (Store stage) = stage_left op stage
raw_left op GiveGuard = 1
raw_left op (Ended end) = 0

below_raw : (op : DirectoryOp) (step : DirectoryStep) → step_left op step ≤ raw_left op step
below_raw op LoadHead = omega arith
below_raw op LoadSideHead = omega arith
below_raw op TakeGuard = omega arith
below_raw op AskPower = omega arith
below_raw op LoadRoot = omega arith
below_raw op (LoadEntry place) = let low = few_below op.rounds (fill_left op place) in omega (arith, low)
below_raw op (Store stage) = few_below op.rounds (stage_left op stage)
below_raw op GiveGuard = omega arith
below_raw op (Ended end) = omega arith

-- ---- the stores of a stage
module _ (op : DirectoryOp) where
  -- the state with the rounds behind an event
  abbrev after : Stage → DirectoryOp
  after stage = record op { rounds = rounds_taken op.rounds (next_store op stage) }

  abbrev lines_left : Rounds → ℕ
  lines_left rounds = left_at rounds.round rounds.step

  abbrev all : ℕ
  all = entries_there op.root

  store_falls : (stage : Stage) → rounds_stores op.rounds (next_store op stage) ≡ true → raw_left (after stage) (stage_after op stage) < stage_left op stage
  store_falls (Fill place value) is =
      let stage : Stage = Fill place value in
      let law = rounds_fall.stores op.rounds (next_store op stage) (all - place) is in
      let l = lines_left (rounds_taken op.rounds (next_store op stage)) in
      elim (cases_lt place (all - 1)) [
        | inl low ↦ subst (λ b. raw_left (after stage) (cond b (fill_on (place % 2 == 0) place value) (Store Filled)) < stage_left op stage) (sym (lt-ltb place (all - 1) low))
            (elim (cases_Bool (place % 2 == 0)) [
              | inl even ↦ subst (λ b. raw_left (after stage) (fill_on b place value) < stage_left op stage) (sym even) (next_entry all place l (lines_left op.rounds) (after_filled op) (omega (arith, low)) law)
              | inr odd ↦ subst (λ b. raw_left (after stage) (fill_on b place value) < stage_left op stage) (sym odd) (load_next all place l (lines_left op.rounds) (after_filled op) (omega (arith, low)) law)
            ])
        | inr last ↦ subst (λ b. raw_left (after stage) (cond b (fill_on (place % 2 == 0) place value) (Store Filled)) < stage_left op stage) (sym (le-ltb place (all - 1) last))
            (none_next all place l (lines_left op.rounds) (after_filled op) law)
      ]
  store_falls Filled is = absurd (none_stored op.rounds is)
  store_falls Deepen is = let law = rounds_fall.stores op.rounds (next_store op Deepen) 0 is in omega (arith, law)
  store_falls Deepened is = absurd (none_stored op.rounds is)
  store_falls GoLive is = let law = rounds_fall.stores op.rounds (next_store op GoLive) 0 is in omega (arith, law)
  store_falls Live is = absurd (none_stored op.rounds is)
  store_falls (Enter index) is =
      let stage : Stage = Enter index in
      let law = rounds_fall.stores op.rounds (next_store op stage) (all - index) is in
      let l = lines_left (rounds_taken op.rounds (next_store op stage)) in
      elim (cases_lt index (side_last op.root op.side_head)) [
        | inl low ↦ subst (λ b. raw_left (after stage) (cond b (Store (Enter (index + 1))) (Store Entered)) < stage_left op stage) (sym (lt-ltb index (side_last op.root op.side_head) low))
            (side_next all index l (lines_left op.rounds) (below_all index ((pattern_in op.side_head + 1) * run_of op.root op.side_head) all low) law)
        | inr last ↦ subst (λ b. raw_left (after stage) (cond b (Store (Enter (index + 1))) (Store Entered)) < stage_left op stage) (sym (le-ltb index (side_last op.root op.side_head) last))
            (side_over all index l (lines_left op.rounds) law)
      ]
  store_falls Entered is = absurd (none_stored op.rounds is)

  -- ---- the flushes and fences of a stage
  stage_falls : (stage : Stage) → rounds_wanted op.rounds (next_store op stage) ≢ None → rounds_stores op.rounds (next_store op stage) ≡ false
      → stage_left (after stage) stage < stage_left op stage
  stage_falls (Fill place value) some off = let law = rounds_fall.others op.rounds (next_store op (Fill place value)) (suc (all - place)) some off in omega (arith, law)
  stage_falls Filled some off = let law = rounds_fall.others op.rounds None 0 some off in omega (arith, law)
  stage_falls Deepen some off = let law = rounds_fall.others op.rounds (next_store op Deepen) 1 some off in omega (arith, law)
  stage_falls Deepened some off = let law = rounds_fall.others op.rounds None 0 some off in omega (arith, law)
  stage_falls GoLive some off = let law = rounds_fall.others op.rounds (next_store op GoLive) 1 some off in omega (arith, law)
  stage_falls Live some off = let law = rounds_fall.others op.rounds None 0 some off in omega (arith, law)
  stage_falls (Enter index) some off = let law = rounds_fall.others op.rounds (next_store op (Enter index)) (suc (all - index)) some off in omega (arith, law)
  stage_falls Entered some off = let law = rounds_fall.others op.rounds None 0 some off in omega (arith, law)

  -- a stage without a store that is settled leaves more than the next one has
  settled_falls : (stage : Stage) → next_store op stage ≡ None → rounds_taken op.rounds (next_store op stage) ≡ begun → rounds_wanted op.rounds (next_store op stage) ≢ None
      → rounds_stores op.rounds (next_store op stage) ≡ false → raw_left (after stage) (settled_to op stage) < stage_left op stage
  settled_falls (Fill place value) none is some off = absurd (none-some _ (sym none))
  settled_falls Filled none is some off =
      let law = rounds_fall.others op.rounds None 0 some off in
      let begins = ap (λ (r : Rounds). rounds_left r 1) is in omega (arith, law, begins)
  settled_falls Deepen none is some off = absurd (none-some _ (sym none))
  settled_falls Deepened none is some off =
      let law = rounds_fall.others op.rounds None 0 some off in
      let begins = ap (λ (r : Rounds). rounds_left r 1) is in omega (arith, law, begins)
  settled_falls GoLive none is some off = absurd (none-some _ (sym none))
  settled_falls Live none is some off =
      let law = rounds_fall.others op.rounds None 0 some off in
      let begins = ap (λ (r : Rounds). rounds_left r (suc (all - side_first op.root op.side_head))) is in omega (arith, law, begins)
  settled_falls (Enter index) none is some off = absurd (none-some _ (sym none))
  settled_falls Entered none is some off = let law = rounds_fall.others op.rounds None 0 some off in omega (arith, law)

  others_fall : (stage : Stage) → rounds_wanted op.rounds (next_store op stage) ≢ None → rounds_stores op.rounds (next_store op stage) ≡ false
      → raw_left (after stage) (passed_to op stage false) < stage_left op stage
  others_fall stage some off =
      let next = next_store op stage in
      let later = rounds_taken op.rounds next in
      elim (cases_wanted (rounds_wanted later next)) [
        | inl none ↦ subst (λ (o : Option Want). raw_left (after stage) (settled_by op stage o) < stage_left op stage) (sym none)
            (settled_falls stage (events_end later next none).1 (events_end later next none).0 some off)
        | inr more ↦ subst (λ (o : Option Want). raw_left (after stage) (settled_by op stage o) < stage_left op stage) (sym more.1) (stage_falls stage some off)
      ]

  -- ---- each event of a stage
  pass_falls : (stage : Stage) → rounds_wanted op.rounds (next_store op stage) ≢ None → raw_left (passed op stage) (passed op stage).step < stage_left op stage
  pass_falls stage some = elim (cases_Bool (rounds_stores op.rounds (next_store op stage))) [
    | inl on ↦ subst (λ b. raw_left (after stage) (passed_to op stage b) < stage_left op stage) (sym on) (store_falls stage on)
    | inr off ↦ subst (λ b. raw_left (after stage) (passed_to op stage b) < stage_left op stage) (sym off) (others_fall stage some off)
  ]

  -- ---- the root
  abbrev met_root : ℕ → Bool → Bool → DirectoryOp
  met_root root same over = cond over (record op { step = Ended Off }) (rooted same op root)

  root_falls : (root : ℕ) → left_of (with_root op root) < guarded_left op
  root_falls root = by (root == depth_in op.head)
    where
      by : (same : Bool) → left_of (met_root root same (is_over (shape_of op) same root)) < guarded_left op
      by true = elim (cases_lt root (shape_of op).depth) [
        | inl low ↦ subst (λ b. left_of (met_root root true b) < guarded_left op) (sym (lt-leb (shape_of op).depth root low)) (let few = entries_within (root + 1) (shape_of op) (omega (arith, low)) in omega (arith, few))
        | inr over ↦ subst (λ b. left_of (met_root root true b) < guarded_left op) (sym (le-leb (shape_of op).depth root over)) (omega arith)
      ]
      by false = elim (cases_lt (shape_of op).depth root) [
        | inl over ↦ subst (λ b. left_of (met_root root false b) < guarded_left op) (sym (lt-ltb (shape_of op).depth root over)) (omega arith)
        | inr low ↦ subst (λ b. left_of (met_root root false b) < guarded_left op) (sym (le-ltb (shape_of op).depth root low)) (let few = entries_within root (shape_of op) low in omega (arith, few))
      ]

  -- ---- each event
  abbrev FallsOrWaits : DirectoryStep → DirectoryOp → Type 0
  FallsOrWaits step later = (left_of later < step_left op step) ⊎ ((is_trying step ≡ true) × (is_trying later.step ≡ true) × (left_of later ≡ step_left op step) × (goes_on later.step ≡ false))

  power_waits : (value : ℕ) → FallsOrWaits AskPower (record op { step = power_step value })
  power_waits value = elim (cases_Bool (value == 0)) [
    | inl on ↦ subst (λ b. FallsOrWaits AskPower (record op { step = cond b TakeGuard (Ended Off) })) (sym on) (inr (refl, refl, refl, refl))
    | inr off ↦ subst (λ b. FallsOrWaits AskPower (record op { step = cond b TakeGuard (Ended Off) })) (sym off) (inl (omega arith))
  ]

  falls_in : (step : DirectoryStep) (a : Ans) → IsAnswer (wanted_in op step) a → FallsOrWaits step (taken_in op step a)
  falls_in LoadHead (Value n) i = inl (omega arith)
  falls_in LoadHead a i = absurd i
  falls_in LoadSideHead (Value n) i = inl (omega arith)
  falls_in LoadSideHead a i = absurd i
  falls_in TakeGuard Won i = inl (omega arith)
  falls_in TakeGuard (Lost n) i = inr (refl, refl, refl, refl)
  falls_in TakeGuard a i = absurd i
  falls_in AskPower (Value n) i = power_waits n
  falls_in AskPower a i = absurd i
  falls_in LoadRoot (Value n) i = inl (root_falls n)
  falls_in LoadRoot a i = absurd i
  falls_in (LoadEntry place) (Value n) i = inl (omega arith)
  falls_in (LoadEntry place) a i = absurd i
  falls_in (Store stage) a i =
      let q = asked op.rounds (next_store op stage) a i in
      let fewer = pass_falls stage (asked_some op.rounds (next_store op stage) a q) in
      let below = below_raw (passed op stage) (passed op stage).step in
      let now = few_is op.rounds (stage_left op stage) q.few in
      subst (λ (x : Ans). FallsOrWaits (Store stage) (taken_in op (Store stage) x)) (sym q.passed)
      (inl (omega (arith, fewer, below, now)))
  falls_in GiveGuard Passed i = inl (omega arith)
  falls_in GiveGuard a i = absurd i
  falls_in (Ended end) a i = absurd i

-- ---- at most so many
module _ (op : DirectoryOp) (few : length op.rounds.round ≤ 8) where
  stage_most : (stage : Stage) → stage_left op stage ≤ guarded_with most_entries + 8
  stage_most (Fill place value) = let lines = step_most op.rounds.round few op.rounds.step in let all = few_entries op.root in omega (arith, lines, all)
  stage_most Filled = let lines = step_most op.rounds.round few op.rounds.step in let all = few_entries op.root in omega (arith, lines, all)
  stage_most Deepen = let lines = step_most op.rounds.round few op.rounds.step in let all = few_entries op.root in omega (arith, lines, all)
  stage_most Deepened = let lines = step_most op.rounds.round few op.rounds.step in let all = few_entries op.root in omega (arith, lines, all)
  stage_most GoLive = let lines = step_most op.rounds.round few op.rounds.step in let all = few_entries op.root in omega (arith, lines, all)
  stage_most Live = let lines = step_most op.rounds.round few op.rounds.step in let all = few_entries op.root in omega (arith, lines, all)
  stage_most (Enter index) = let lines = step_most op.rounds.round few op.rounds.step in let all = few_entries op.root in omega (arith, lines, all)
  stage_most Entered = let lines = step_most op.rounds.round few op.rounds.step in omega (arith, lines)

module _ (op : DirectoryOp) where
  most_at : (step : DirectoryStep) → step_left op step ≤ 3 + guarded_with most_entries + 8
  most_at LoadHead = let few = few_deepest (shape_of op) in omega (arith, few)
  most_at LoadSideHead = let few = few_deepest (shape_of op) in omega (arith, few)
  most_at TakeGuard = let few = few_deepest (shape_of op) in omega (arith, few)
  most_at AskPower = let few = few_deepest (shape_of op) in omega (arith, few)
  most_at LoadRoot = let few = few_deepest (shape_of op) in omega (arith, few)
  most_at (LoadEntry place) = let most = few_most op.rounds (fill_left op place) (guarded_with most_entries + 8) (λ few. stage_most op few (Fill place 0)) in omega (arith, most)
  most_at (Store stage) = let most = few_most op.rounds (stage_left op stage) (guarded_with most_entries + 8) (λ few. stage_most op few stage) in omega (arith, most)
  most_at GiveGuard = omega arith
  most_at (Ended end) = omega arith

-- FEWER EVENTS ARE LEFT, unless it waits
pub ends_in_time : EndsInTime directory_part
ends_in_time = record { falls = λ op a i. falls_in op op.step a i; most = λ op. most_at op op.step }
