-- Each row of the worked run, by computing the definitions on it.
use Rattle.std.proofs.Common.{◌≡◌, ℕ, zero, suc, ◌≤◌, true, false, [], ◌∷◌, refl, ◌∙◌, ap, arith}
use Rattle.std.specs.Prelude.{if◌then◌else◌}
use Rattle.image_layout.specs.Places.{Shape}
use Rattle.script_text.specs.declared.line.Counted.TheVariants.{Store, Exchange, Flush, Fence, Draw, End}
use Rattle.script_text.specs.declared.line.Line.TheVariants.{Step, Until, At, Close, Cut}
use Rattle.phase.specs.declared.role.Role.TheVariants.{Home, Probing}
use Rattle.write_op.specs.declared.step.WriteStep.TheVariants.{Count}
use Rattle.bucket_meta.specs.Search.{lowest_among}
use Rattle.engine.specs.Core.{Core}
use Rattle.core_run.specs.declared.keeper.Keeper.TheVariants.{Open}
use Rattle.core_run.specs.State.{State}
use Rattle.core_run.specs.Run.{most_events, has_calls, round, rounds, line_done}
use Rattle.core_run.specs.WorkedRun.{small, one_insert, StopsInRestart, StopsOnTheWay, StopsInChange, ClosesAfter, at_first, at_end, after_line, standing, loading, before_change}

pub step_0_1 : StopsInRestart (Step 0 1, 1)
step_0_1 = refl

pub until_0_store_1 : StopsInRestart (Until 0 Store 1, 2)
until_0_store_1 = refl

pub at_0_16 : StopsInRestart (At 0 16, 2)
at_0_16 = refl

pub until_0_flush_1 : StopsInRestart (Until 0 Flush 1, 3)
until_0_flush_1 = refl

pub until_0_fence_1 : StopsInRestart (Until 0 Fence 1, 4)
until_0_fence_1 = refl

pub until_0_exchange_1 : StopsInRestart (Until 0 Exchange 1, 4)
until_0_exchange_1 = refl

pub step_1_7 : StopsOnTheWay (Step 1 7, 7)
step_1_7 = refl

pub until_1_exchange_1 : StopsOnTheWay (Until 1 Exchange 1, 6)
until_1_exchange_1 = refl

pub until_1_exchange_2 : StopsOnTheWay (Until 1 Exchange 2, 8)
until_1_exchange_2 = refl

pub then_step_1_3 : StopsInChange (Step 1 3, 77)
then_step_1_3 = refl

pub then_until_1_store_1 : StopsInChange (Until 1 Store 1, 75)
then_until_1_store_1 = refl

pub then_until_1_store_4 : StopsInChange (Until 1 Store 4, 80)
then_until_1_store_4 = refl

pub then_until_1_flush_1 : StopsInChange (Until 1 Flush 1, 78)
then_until_1_flush_1 = refl

pub then_until_1_flush_2 : StopsInChange (Until 1 Flush 2, 81)
then_until_1_flush_2 = refl

pub then_until_1_fence_1 : StopsInChange (Until 1 Fence 1, 79)
then_until_1_fence_1 = refl

pub then_until_1_fence_2 : StopsInChange (Until 1 Fence 2, 82)
then_until_1_fence_2 = refl

pub then_until_1_draw_1 : StopsInChange (Until 1 Draw 1, 83)
then_until_1_draw_1 = refl

pub then_until_1_end_1 : StopsInChange (Until 1 End 1, 85)
then_until_1_end_1 = refl

pub then_until_1_exchange_1 : StopsInChange (Until 1 Exchange 1, 85)
then_until_1_exchange_1 = refl

pub then_at_1_97 : StopsInChange (At 1 97, 80)
then_at_1_97 = refl

pub then_at_1_96 : StopsInChange (At 1 96, 84)
then_at_1_96 = refl

pub then_at_1_99 : StopsInChange (At 1 99, 85)
then_at_1_99 = refl

pub locked : after_line (Step 1 11) at_first ≡ standing 11 (loading Home 0)
locked = refl

pub home_ten : after_line (Step 1 10) (standing 11 (loading Home 0)) ≡ standing 21 (loading Home 10)
home_ten = refl

pub home_twenty : after_line (Step 1 10) (standing 21 (loading Home 10)) ≡ standing 31 (loading Home 20)
home_twenty = refl

pub home_all : after_line (Step 1 11) (standing 31 (loading Home 20)) ≡ standing 42 (loading Probing 0)
home_all = refl

pub probing_ten : after_line (Step 1 10) (standing 42 (loading Probing 0)) ≡ standing 52 (loading Probing 10)
probing_ten = refl

pub probing_twenty : after_line (Step 1 10) (standing 52 (loading Probing 10)) ≡ standing 62 (loading Probing 20)
probing_twenty = refl

pub probing_all : after_line (Step 1 11) (standing 62 (loading Probing 20)) ≡ standing 73 Count
probing_all = refl

pub counted : after_line (Step 1 1) (standing 73 Count) ≡ before_change
unfolding lowest_among lib.Count.ones
counted = refl

-- the end rule is not computed to so many rounds: the second of them leaves no call
module _ (shape : Shape) (most : ℕ) where
  second_rests : (n : ℕ) (s u : State) → 2 ≤ n → has_calls shape most s.core.callers ≡ true → round shape most 1 s.core.callers s ≡ u → has_calls shape most u.core.callers ≡ false
      → rounds shape most n s ≡ u
  second_rests zero s u few some is none = absurd (omega (arith, few))
  second_rests (suc zero) s u few some is none = absurd (omega (arith, few))
  second_rests (suc (suc n)) s u few some is none =
      ap (λ b. if b then rounds shape most (suc n) (round shape most 1 s.core.callers s) else s) some
      ∙ ap (λ (x : State). rounds shape most (suc n) x) is
      ∙ ap (λ b. if b then rounds shape most n (round shape most 1 u.core.callers u) else u) none

  closed_by_one : (core : Core) (u : State) → 2 ≤ most → has_calls shape most core.callers ≡ true → round shape most 1 core.callers (record { keeper = Open; core = core }) ≡ u
      → has_calls shape most u.core.callers ≡ false → (line_done shape most Close (record { keeper = Open; core = core })).core.trace ≡ u.core.trace
  closed_by_one core u few some is none = ap (λ (x : State). x.core.trace) (second_rests most (record { keeper = Open; core = core }) u few some is none)

pub closing : ClosesAfter 85 (after_line Close before_change)
closing = record {
  begun = refl;
  run_out = closed_by_one small (most_events small one_insert) before_change.core (after_line (Until 1 End 1) before_change) (omega arith) refl refl refl ∙ then_until_1_end_1;
}

pub at_cut : after_line (Cut 2) before_change ≡ before_change
at_cut = refl

pub ends_in_cut : at_end (Step 1 3 ∷ Cut 2 ∷ []) ≡ after_line (Step 1 3) before_change
ends_in_cut = refl
