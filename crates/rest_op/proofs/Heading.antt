-- The header is stored by one event, behind which the split may be told as made.
use Rattle.std.proofs.Common.{◌≡◌, ℕ, Bool, true, false, Option, None, Some, refl}
use Rattle.std.proofs.lemmas.Bool.{both_ways}
use Rattle.segment_head.specs.SplitHeads.{finished_head}
use Rattle.op_core.specs.declared.want.Want.{Want}
use Rattle.op_core.specs.declared.want.Want.TheVariants as want
use Rattle.op_core.specs.declared.want.Ans.{Ans}
use Rattle.op_core.specs.declared.want.Ans.TheVariants.{Passed}
use Rattle.way.specs.Ways.{head_word}
use Rattle.part.specs.Outcomes.{finished}
use Rattle.rounds.specs.declared.rounds.Rounds.{Rounds}
use Rattle.rounds.specs.Steps.{begun, rounds_stores, rounds_wanted, rounds_taken}
use Rattle.rest_op.specs.declared.op.RestOp.{RestOp}
use Rattle.rest_op.specs.declared.op.RestStep.{RestStep}
use Rattle.rest_op.specs.declared.op.RestStep.TheVariants.{Clear, Head, Ended}
use Rattle.rest_op.specs.Steps.{due, clear_from, next_clear, clearing_by, cleared, wanted_in, next_in}
use Rattle.rest_op.specs.RestPart.{outcome_at, is_headed, StoresHeader}
use Rattle.rest_op.proofs.whole.Halving.{rest_is}

module _ (op : RestOp) where
  -- while buckets are cleared, and behind that, it is still to be stored
  old_by : (o : Option Want) (b : ℕ) (rounds : Rounds) → is_headed (clearing_by op o b rounds) ≡ false
  old_by (Some want) b rounds = refl
  old_by None b rounds = refl

  cleared_old : (b : ℕ) (rounds : Rounds) → is_headed (cleared op b rounds) ≡ false
  cleared_old b rounds =
      let later : ℕ = next_clear op (rounds_stores rounds (due op b)) b in
      let next : Rounds = rounds_taken rounds (due op b) in
      old_by (rounds_wanted next (due op later)) later next

  begins_old : is_headed (clearing_by op (rounds_wanted begun (due op (clear_from op 0))) (clear_from op 0) begun) ≡ false
  begins_old = old_by (rounds_wanted begun (due op (clear_from op 0))) (clear_from op 0) begun

  -- ---- EACH STEP
  stores_at : (s : RestStep) (a : Ans) → is_headed s ≡ false → is_headed (next_in op s a) ≡ true → wanted_in op s ≡ want.Store (head_word op.whole.site.geometry op.whole.segment) (finished_head op.whole.head)
  stores_at (Clear b rounds) Passed old new = absurd (both_ways (is_headed (cleared op b rounds)) (cleared_old b rounds) new)
  stores_at (Clear b rounds) a old new = absurd (let z : false ≡ true = new in cc)
  stores_at Head a old new = refl
  stores_at s a old new = absurd (let z : true ≡ false = old in cc)

ends_at : (s : RestStep) → outcome_at s ≡ Some finished → is_headed s ≡ true
ends_at Ended some = refl
ends_at s some = absurd (cc)

pub stores_header : StoresHeader
stores_header = record {
  begins = λ op. begins_old op;
  stores = λ op a old new. stores_at op op.step a old new;
  same = λ op a. refl;
  ends = λ op some. ends_at op.step some;
  header = λ site here call e ground is whole. rest_is site ground here call e is whole;
}
