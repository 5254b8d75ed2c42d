-- Fewer events are left after each, and at most so many from any state on.
use Rattle.std.proofs.Common.{◌≡◌, ◌≢◌, ℕ, suc, ◌+◌, ◌-◌, ◌*◌, ◌<◌, ◌≤◌, inl, inr, cond, Option, None, Some, length, sym, ap, subst, arith}
use Rattle.std.specs.Prelude.{min, nat_le}
use Rattle.std.proofs.lemmas.Nat.{pow_pos}
use Rattle.std.proofs.lemmas.Bool.{cases_Bool, cases_lt, lt-ltb, le-ltb}
use Rattle.op_core.specs.declared.want.Want.{Want}
use Rattle.op_core.specs.declared.want.Ans.{Ans}
use Rattle.op_core.specs.declared.want.Ans.TheVariants.{Value, Won, Lost, Passed}
use Rattle.op_core.specs.Answers.{IsAnswer}
use Rattle.segment_head.specs.HeadWord.{depth_in, pattern_in}
use Rattle.image_layout.specs.Places.{Shape, most_depth}
use Rattle.rounds.specs.Steps.{rounds_stores, rounds_wanted}
use Rattle.rounds.specs.Left.{rounds_left}
use Rattle.rounds.proofs.Events.{cases_wanted, none_stored}
use Rattle.rounds.proofs.Wanted.{asked, asked_some}
use Rattle.rounds.proofs.Falling.{step_most, few_is, few_below, few_most, few_less, fewer_stores, rounds_fall}
use Rattle.directory_op.specs.Places.{entries_there, run_of, side_first}
use Rattle.directory_op.specs.Left.{most_entries, deepest_entries}
use Rattle.directory_op.proofs.ends.Falling.{few_entries, entries_within, few_deepest}
use Rattle.redirect_op.specs.declared.step.RedirectStep.{RedirectStep}
use Rattle.redirect_op.specs.declared.step.RedirectStep.TheVariants.{Guard, Root, Entry, Head, Store, Settle, Fence, GiveDirectory, Give, Ended}
use Rattle.redirect_op.specs.declared.op.RedirectOp.{RedirectOp}
use Rattle.redirect_op.specs.Steps.{shape_of, side_region_head, last_entry, store_to, go, settle_by, behind, rooted_at, rooted, met_head, stored_by, with_rounds, stored, settled_to, settled, wanted_in, next_in}
use Rattle.redirect_op.specs.Left.{rooted_with, entries_behind, stores_left, left_at, left_of, most_events}

-- ---- numbers
some_deepest : (shape : Shape) → 1 ≤ deepest_entries shape
some_deepest shape = pow_pos (min shape.depth most_depth)

-- no more entries come behind one than an area has beside it
behind_few : (a b i : ℕ) → min a b - 1 - i ≤ b - 1
behind_few a b i = omega arith

-- ---- what is left
-- one store less is no more
stores_less : (op : RedirectOp) (fewer more : ℕ) → fewer ≤ more → stores_left op fewer ≤ stores_left op more
stores_less op fewer more less = few_less op.rounds (rounds_left op.rounds fewer) (rounds_left op.rounds more) (fewer_stores op.rounds fewer more less)

-- behind an entry with which so many stores are to come, no more than one less
settle_falls : (op : RedirectOp) (most : ℕ) → stores_left op 0 + 1 < most → 2 < most → left_at op (settle_by (rounds_wanted op.rounds None)) < most
settle_falls op most settles fences = elim (cases_wanted (rounds_wanted op.rounds None)) [
  | inl none ↦ subst (λ (o : Option Want). left_at op (settle_by o) < most) (sym none) fences
  | inr some ↦ subst (λ (o : Option Want). left_at op (settle_by o) < most) (sym some.1) settles
]

behind_falls : (op : RedirectOp) (index most : ℕ) → 2 * entries_behind op index + stores_left op (entries_behind op index) + 2 < most → left_of (behind op index) < most
behind_falls op index most less = elim (cases_lt index (last_entry op)) [
  | inl low ↦ subst (λ b. left_at op (cond b (Entry (index + 1)) (settle_by (rounds_wanted op.rounds None))) < most) (sym (lt-ltb index (last_entry op) low)) (next_falls low)
  | inr over ↦ subst (λ b. left_at op (cond b (Entry (index + 1)) (settle_by (rounds_wanted op.rounds None))) < most) (sym (le-ltb index (last_entry op) over)) (last_falls over)
]
  where
    one : (last i : ℕ) → i < last → suc (last - (i + 1)) ≡ last - i
    one last i low = omega (arith, low)

    next_falls : index < last_entry op → left_at op (Entry (index + 1)) < most
    next_falls low =
        let same = one (last_entry op) index low in
        let stores : stores_left op (suc (entries_behind op (index + 1))) ≡ stores_left op (entries_behind op index) = ap (stores_left op) same in
        by (entries_behind op (index + 1)) (entries_behind op index) (stores_left op (suc (entries_behind op (index + 1)))) (stores_left op (entries_behind op index)) most same stores less
      where
        by : (a b x y m : ℕ) → suc a ≡ b → x ≡ y → 2 * b + y + 2 < m → 2 * a + 2 + x + 2 < m
        by a b x y m same stores less = omega (arith, same, stores, less)

    last_falls : last_entry op ≤ index → left_at op (settle_by (rounds_wanted op.rounds None)) < most
    last_falls over =
        let stores = stores_less op 0 (entries_behind op index) (omega arith) in
        settle_falls op most (omega (arith, less, stores)) (omega (arith, less))

-- ---- an entry is stored
module _ (op : RedirectOp) (index : ℕ) where
  abbrev next : Option (ℕ × ℕ)
  next = Some (store_to op index)

  abbrev later : RedirectOp
  later = with_rounds op next

  abbrev m : ℕ
  m = entries_behind op index

  store_falls : op.step ≡ Store index → length op.rounds.round ≤ 8 → rounds_wanted op.rounds next ≢ None → left_of (stored op index) < left_at op (Store index)
  store_falls at few some =
      let now = few_is op.rounds (rounds_left op.rounds (suc m)) few in
      elim (cases_Bool (rounds_stores op.rounds next)) [
        | inl on ↦
            let law = rounds_fall.stores op.rounds next m on in
            let low = few_below later.rounds (rounds_left later.rounds m) in
            subst (λ b. left_of (stored_by b later index) < left_at op (Store index)) (sym on) (behind_falls later index (left_at op (Store index)) (omega (arith, law, low, now)))
        | inr off ↦
            let law = rounds_fall.others op.rounds next (suc m) some off in
            let low = few_below later.rounds (rounds_left later.rounds (suc m)) in
            subst (λ b. left_of (stored_by b later index) < left_at op (Store index)) (sym off) (subst (λ t. left_at later t < left_at op (Store index)) (sym at) (omega (arith, law, low, now)))
      ]

-- all is settled
settling_falls : (op : RedirectOp) → length op.rounds.round ≤ 8 → rounds_wanted op.rounds None ≢ None → left_of (settled op) < left_at op Settle
settling_falls op few some =
    let now = few_is op.rounds (rounds_left op.rounds 0) few in
    elim (cases_Bool (rounds_stores op.rounds None)) [
      | inl on ↦ absurd (none_stored op.rounds on)
      | inr off ↦
          let later : RedirectOp = with_rounds op None in
          let law = rounds_fall.others op.rounds None 0 some off in
          let low = few_below later.rounds (rounds_left later.rounds 0) in
          elim (cases_wanted (rounds_wanted later.rounds None)) [
            | inl none ↦ subst (λ (o : Option Want). left_at later (settled_to o) < left_at op Settle) (sym none) (omega (arith, law, now))
            | inr more ↦ subst (λ (o : Option Want). left_at later (settled_to o) < left_at op Settle) (sym more.1) (omega (arith, law, low, now))
          ]
    ]

-- ---- the root
root_falls : (op : RedirectOp) (n : ℕ) → left_of (rooted op n) < rooted_with (deepest_entries (shape_of op))
root_falls op n =
    let root = min n (shape_of op).depth in
    let few = entries_within root (shape_of op) (least n (shape_of op).depth) in
    let some = some_deepest (shape_of op) in
    let head = side_region_head op.guarded.head in
    let most = behind_few ((pattern_in head + 1) * run_of root head) (entries_there root) (side_first root head) in
    by (entries_behind (rooted_at op root) (side_first root head)) (entries_there root) (deepest_entries (shape_of op)) most few some
  where
    least : (a b : ℕ) → min a b ≤ b
    least a b = omega arith

    by : (m e deepest : ℕ) → m ≤ e - 1 → e ≤ deepest → 1 ≤ deepest → 2 * m + 2 + (3 * suc m + 0) + 2 < 5 * deepest + 3
    by m e deepest most few some = omega (arith, most, few, some)

-- ---- each event
head_falls : (op : RedirectOp) (index slot n : ℕ) → left_of (met_head op index n) < left_at op (Head index slot)
head_falls op index slot n = elim (cases_Bool (nat_le (depth_in n) (depth_in op.guarded.head))) [
  | inl up ↦ subst (λ b. left_of (cond b (go op (Store index)) (behind op index)) < left_at op (Head index slot)) (sym up) (omega arith)
  | inr deeper ↦
      let stores = stores_less op (entries_behind op index) (suc (entries_behind op index)) (omega arith) in
      subst (λ b. left_of (cond b (go op (Store index)) (behind op index)) < left_at op (Head index slot)) (sym deeper) (behind_falls op index (left_at op (Head index slot)) (omega (arith, stores)))
]

pub falls_at : (op : RedirectOp) (s : RedirectStep) (a : Ans) → op.step ≡ s → IsAnswer (wanted_in op s) a → left_of (next_in op s a) < left_at op s
falls_at op Guard Won at i = omega arith
falls_at op Guard (Lost n) at i = omega arith
falls_at op Guard a at i = absurd i
falls_at op Root (Value n) at i = root_falls op n
falls_at op Root a at i = absurd i
falls_at op (Entry index) (Value n) at i = omega arith
falls_at op (Entry index) a at i = absurd i
falls_at op (Head index slot) (Value n) at i = head_falls op index slot n
falls_at op (Head index slot) a at i = absurd i
falls_at op (Store index) a at i =
    let q = asked op.rounds (Some (store_to op index)) a i in
    subst (λ (x : Ans). left_of (next_in op (Store index) x) < left_at op (Store index)) (sym q.passed) (store_falls op index at q.few (asked_some op.rounds (Some (store_to op index)) a q))
falls_at op Settle a at i =
    let q = asked op.rounds None a i in
    subst (λ (x : Ans). left_of (next_in op Settle x) < left_at op Settle) (sym q.passed) (settling_falls op q.few (asked_some op.rounds None a q))
falls_at op Fence Passed at i = omega arith
falls_at op Fence a at i = absurd i
falls_at op GiveDirectory Passed at i = omega arith
falls_at op GiveDirectory a at i = absurd i
falls_at op (Give end) Passed at i = omega arith
falls_at op (Give end) a at i = absurd i
falls_at op (Ended end) a at i = absurd i

-- ---- at most so many
stores_most : (op : RedirectOp) (stores : ℕ) → stores_left op stores ≤ 3 * stores + 9
stores_most op stores = few_most op.rounds (rounds_left op.rounds stores) (3 * stores + 9) (λ few. let lines = step_most op.rounds.round few op.rounds.step in omega (arith, lines))

-- behind an entry come fewer than an area has
behind_most : (op : RedirectOp) (index : ℕ) → suc (entries_behind op index) ≤ most_entries
behind_most op index =
    let head = side_region_head op.guarded.head in
    let most = behind_few ((pattern_in head + 1) * run_of op.root head) (entries_there op.root) index in
    let all = few_entries op.root in
    by (entries_behind op index) (entries_there op.root) most_entries most all (omega arith)
  where
    by : (m e most : ℕ) → m ≤ e - 1 → e ≤ most → 1 ≤ most → suc m ≤ most
    by m e most low all some = omega (arith, low, all, some)

pub most_at : (op : RedirectOp) (s : RedirectStep) → left_at op s ≤ most_events
most_at op Guard = let few = few_deepest (shape_of op) in omega (arith, few)
most_at op Root = let few = few_deepest (shape_of op) in omega (arith, few)
most_at op (Entry index) = let few = behind_most op index in let stores = stores_most op (suc (entries_behind op index)) in omega (arith, few, stores)
most_at op (Head index slot) = let few = behind_most op index in let stores = stores_most op (suc (entries_behind op index)) in omega (arith, few, stores)
most_at op (Store index) = let few = behind_most op index in let stores = stores_most op (suc (entries_behind op index)) in omega (arith, few, stores)
most_at op Settle = let stores = stores_most op 0 in omega (arith, stores)
most_at op Fence = omega arith
most_at op GiveDirectory = omega arith
most_at op (Give end) = omega arith
most_at op (Ended end) = omega arith
