-- Each row stops where it says.
use Rattle.core_run.proofs.WorkedRun.{step_0_1, until_0_store_1, at_0_16, until_0_flush_1, until_0_fence_1, until_0_exchange_1, step_1_7, until_1_exchange_1, until_1_exchange_2, then_step_1_3, then_until_1_store_1, then_until_1_store_4, then_until_1_flush_1, then_until_1_flush_2, then_until_1_fence_1, then_until_1_fence_2, then_until_1_draw_1, then_until_1_end_1, then_until_1_exchange_1, then_at_1_97, then_at_1_96, then_at_1_99, locked, home_ten, home_twenty, home_all, probing_ten, probing_twenty, probing_all, counted, closing, at_cut, ends_in_cut}
use Rattle.core_run.proofs.worked_run.lines_stop.Goals as goal

pub returns : goal.returns
returns c = record {
  in_restart = (step_0_1, (until_0_store_1, (at_0_16, (until_0_flush_1, (until_0_fence_1, (until_0_exchange_1, tt))))));
  on_the_way = (step_1_7, (until_1_exchange_1, (until_1_exchange_2, tt)));
  locked = locked;
  home_ten = home_ten;
  home_twenty = home_twenty;
  home_all = home_all;
  probing_ten = probing_ten;
  probing_twenty = probing_twenty;
  probing_all = probing_all;
  counted = counted;
  in_change = (then_step_1_3, (then_until_1_store_1, (then_until_1_store_4, (then_until_1_flush_1, (then_until_1_flush_2, (then_until_1_fence_1, (then_until_1_fence_2, (then_until_1_draw_1, (then_until_1_end_1, (then_until_1_exchange_1, (then_at_1_97, (then_at_1_96, (then_at_1_99, tt)))))))))))));
  closing = closing;
  at_cut = at_cut;
  ends_in_cut = ends_in_cut;
}
