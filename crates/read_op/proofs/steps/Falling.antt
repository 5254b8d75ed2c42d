-- Each event of a get leaves fewer to do.
use Rattle.std.proofs.Common.{◌≡◌, ◌≢◌, ℕ, ◌+◌, ◌-◌, ◌<◌, ◌≤◌, List, [], ◌∷◌, length, refl, arith}
use Rattle.std.specs.Prelude.{if◌then◌else◌, ◌==◌, ◌%◌}
use Rattle.op_core.specs.declared.want.Want.TheVariants.{Done}
use Rattle.op_core.specs.declared.want.Ans.TheVariants.{Value}
use Rattle.phase.specs.declared.walk.Walked.{Walked}
use Rattle.phase.specs.declared.walk.Walked.TheVariants as walked
use Rattle.phase.specs.declared.back.Backed.{Backed}
use Rattle.phase.specs.declared.back.Backed.TheVariants as backed
use Rattle.phase.specs.declared.load.Loaded.{Loaded}
use Rattle.phase.specs.declared.load.Loaded.TheVariants as loaded
use Rattle.phase.specs.Walks.{walk_taken}
use Rattle.phase.specs.Backs.{back_taken}
use Rattle.phase.specs.Loads.{load_taken}
use Rattle.phase.specs.Stands.{walked_left, backed_left, loaded_left}
use Rattle.phase.proofs.Walking.{walk_few, walk_falls}
use Rattle.phase.proofs.Loading.{load_falls}
use Rattle.phase.proofs.Backing.{back_few, back_falls}
use Rattle.phase.specs.declared.role.Role.{Role}
use Rattle.phase.specs.declared.role.Role.TheVariants.{Home, Probing, First, Second}
use Rattle.phase.proofs.locks.Choosing.{by_both}
use Rattle.read_op.specs.declared.step.Seen.{Seen}
use Rattle.read_op.specs.declared.step.ReadStep.{ReadStep}
use Rattle.read_op.specs.declared.step.ReadStep.TheVariants.{Way, Look, Fill, Count, Check, Relook, Ended}
use Rattle.read_op.specs.declared.step.Task.{Task}
use Rattle.read_op.specs.declared.op.ReadOp.{ReadOp}
use Rattle.read_op.specs.Places.{free_at}
use Rattle.read_op.specs.Steps.{begun, wanted, wanted_in, taken, next_in, walked_to, visit_first, visit_second, with_free, looked, read_all, read_probing, with_value, filled, backed_to, relook_first, relook_second, relook_next, relooked, busy, moved, end_of, lock_of}
use Rattle.read_op.specs.Budget.{most_events, left, left_of_look, left_behind, left_of_relook, Falls, EndsInTime, after_all}

walked_most : (x : Walked) → left (walked_to x) ≤ 136 + walked_left x
walked_most (walked.On w) = omega arith
walked_most (walked.There path) = omega arith
walked_most walked.Off = omega arith
walked_most (walked.Amiss word seen) = omega arith
walked_most (walked.Stale segment version) = omega arith

second_most : (s : Seen) → left (visit_second s) ≤ 40
second_most s = by_both (λ (s : ReadStep). left s ≤ 40) s.second (Look s Second) (Count s) (omega arith) (omega arith)

first_most : (s : Seen) → left (visit_first s) ≤ 72
first_most s = let rest = second_most s in by_both (λ (s : ReadStep). left s ≤ 72) s.first (Look s First) (visit_second s) (omega arith) (omega (arith, rest))

all_most : (key hash : ℕ) (s : Seen) (p : Role) (words : List ℕ) → left (read_all key hash s p words) ≤ left_behind p
all_most key hash s Home words = omega arith
all_most key hash s Probing words = first_most (read_probing key hash s words)
all_most key hash s First words = second_most (with_value key s words)
all_most key hash s p words = omega arith

filled_most : (key hash : ℕ) (s : Seen) (p : Role) (x : Loaded) → left (filled key hash s p x) ≤ left_behind p + loaded_left x
filled_most key hash s p (loaded.On load) = omega arith
filled_most key hash s p (loaded.All words) = let most = all_most key hash s p words in omega (arith, most)

looked_most : (s : Seen) (p : Role) → left (looked s p) < left_of_look p
looked_most s Home = omega arith
looked_most s Probing = omega arith
looked_most s p = omega arith

some_look : (p : Role) → 0 < left_of_look p
some_look Home = omega arith
some_look Probing = omega arith
some_look First = omega arith
some_look p = omega arith

backed_most : (s : Seen) (placed : ℕ) (x : Backed) → left (backed_to s placed x) ≤ 4 + backed_left x
backed_most s placed (backed.On b) = omega arith
backed_most s placed backed.Same = omega arith
backed_most s placed (backed.Moved word before after) = omega arith

relook_second_most : (s : Seen) (placed : ℕ) → left (relook_second s placed) ≤ 1
relook_second_most s placed = by_both (λ (s : ReadStep). left s ≤ 1) s.second (Relook s placed Second) (Ended (end_of s.value placed)) (omega arith) (omega arith)

relook_first_most : (s : Seen) (placed : ℕ) → left (relook_first s placed) ≤ 2
relook_first_most s placed = let rest = relook_second_most s placed in by_both (λ (s : ReadStep). left s ≤ 2) s.first (Relook s placed First) (relook_second s placed) (omega arith) (omega (arith, rest))

relook_most : (s : Seen) (placed : ℕ) (p : Role) → left (relook_next s placed p) + 1 ≤ left_of_relook p
relook_most s placed Home = omega arith
relook_most s placed Probing = let most = relook_first_most s placed in omega (arith, most)
relook_most s placed First = let most = relook_second_most s placed in omega (arith, most)
relook_most s placed p = omega arith

relooked_most : (task : Task) (s : Seen) (placed : ℕ) (p : Role) (n : ℕ) → left (relooked task s placed p n) ≤ left_of_relook p - 1
relooked_most task s placed p n =
    let next = relook_most s placed p in
    by_both (λ (s : ReadStep). left s ≤ (left_of_relook p - 1)) (n % 2 == 1) (busy (lock_of task s p) n) (if n == free_at s.free p then relook_next s placed p else moved (lock_of task s p) (free_at s.free p) n) (omega arith)
    (by_both (λ (s : ReadStep). left s ≤ (left_of_relook p - 1)) (n == free_at s.free p) (relook_next s placed p) (moved (lock_of task s p) (free_at s.free p) n) (omega (arith, next)) (omega arith))

some_relook : (p : Role) → 0 < left_of_relook p
some_relook Home = omega arith
some_relook Probing = omega arith
some_relook First = omega arith
some_relook p = omega arith

-- each event leaves one less at least; none, where none was left
lowers : (task : Task) (s : ReadStep) (n : ℕ) → left (next_in task s n) ≤ left s - 1
lowers task (Way w) n =
    let most = walked_most (walk_taken task.site task.hash w n) in let low = walk_falls task.site task.hash w n in omega (arith, most, low)
lowers task (Look s p) n =
    let next = looked_most (with_free s p n) p in let some = some_look p in
    by_both (λ (s : ReadStep). left s ≤ (left_of_look p - 1)) (n % 2 == 0) (looked (with_free s p n) p) (busy (lock_of task s p) n) (omega (arith, next, some)) (omega arith)
lowers task (Fill s p load) n = let most = filled_most task.key task.hash s p (load_taken load n) in let low = load_falls load n in omega (arith, most, low)
lowers task (Count s) n = omega arith
lowers task (Check s placed at) n =
    let most = backed_most s placed (back_taken task.site task.hash s.path at n) in let low = back_falls task.site task.hash s.path at n in omega (arith, most, low)
lowers task (Relook s placed p) n = let most = relooked_most task s placed p n in let some = some_relook p in omega (arith, most, some)
lowers task (Ended end) n = omega arith

some_left : (task : Task) (s : ReadStep) → wanted_in task s ≢ Done → 0 < left s
some_left task (Way w) asks = omega arith
some_left task (Look s p) asks = some_look p
some_left task (Fill s p load) asks = omega arith
some_left task (Count s) asks = omega arith
some_left task (Check s placed at) asks = omega arith
some_left task (Relook s placed p) asks = some_relook p
some_left task (Ended end) asks = absurd (asks refl)

pub falls : Falls
falls op n asks = let some = some_left op.task op.step asks in let low = lowers op.task op.step n in omega (arith, some, low)

-- ---- at most so many are left
most_look : (p : Role) → left_of_look p ≤ 136
most_look Home = omega arith
most_look Probing = omega arith
most_look First = omega arith
most_look p = omega arith

most_behind : (p : Role) → left_behind p ≤ 103
most_behind Home = omega arith
most_behind Probing = omega arith
most_behind First = omega arith
most_behind p = omega arith

most_relook : (p : Role) → left_of_relook p ≤ 4
most_relook Home = omega arith
most_relook Probing = omega arith
most_relook First = omega arith
most_relook p = omega arith

most_in : (s : ReadStep) → left s ≤ most_events
most_in (Way w) = let most = walk_few w in omega (arith, most)
most_in (Look s p) = let most = most_look p in omega (arith, most)
most_in (Fill s p load) = let most = most_behind p in omega (arith, most)
most_in (Count s) = omega arith
most_in (Check s placed at) = let most = back_few at in omega (arith, most)
most_in (Relook s placed p) = let most = most_relook p in omega (arith, most)
most_in (Ended end) = omega arith

pub most : (op : ReadOp) → left op.step ≤ most_events
most op = most_in op.step

-- ---- so it ends in time: with none left, nothing is wanted
none_left : (task : Task) (s : ReadStep) → left s ≤ 0 → wanted_in task s ≡ Done
none_left task (Way w) low = absurd (omega (arith, low))
none_left task (Look s p) low = absurd (let some = some_look p in omega (arith, some, low))
none_left task (Fill s p load) low = absurd (omega (arith, low))
none_left task (Count s) low = absurd (omega (arith, low))
none_left task (Check s placed at) low = absurd (omega (arith, low))
none_left task (Relook s placed p) low = absurd (let some = some_relook p in omega (arith, some, low))
none_left task (Ended end) low = refl

runs_out : (seen : List ℕ) (op : ReadOp) → left op.step ≤ length seen → wanted (after_all op seen) ≡ Done
runs_out [] op low = none_left op.task op.step low
runs_out (value ∷ rest) op low = let next = lowers op.task op.step value in runs_out rest (taken op (Value value)) (omega (arith, next, low))

pub ends_in_time : EndsInTime
ends_in_time key site seen low = runs_out seen (begun key site) low
