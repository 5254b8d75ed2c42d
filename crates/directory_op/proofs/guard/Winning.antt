-- The guard is won where it is free: as long as its word is 0 whenever it is waited for, each event leaves fewer events.
use Rattle.std.proofs.Common.{◌≡◌, ◌+◌, ◌<◌, ◌≤◌, inl, inr, Bool, true, false, cond, List, refl, sym, ap, ◌∙◌, subst, arith}
use Rattle.std.specs.Prelude.{◌==◌}
use Rattle.std.proofs.lemmas.Bool.{cases_Bool, false≢true}
use Rattle.trace.specs.Events.{Words}
use Rattle.op_core.specs.declared.want.Want.TheVariants as want
use Rattle.op_core.specs.declared.want.Ans.{Ans}
use Rattle.op_core.specs.declared.want.Ans.TheVariants.{Value, Passed}
use Rattle.op_core.specs.Answers.{IsAnswer}
use Rattle.image_layout.specs.Places.{Shape}
use Rattle.image_layout.specs.Volatile.{directory_guard}
use Rattle.map_model.specs.declared.call.Call.{Call}
use Rattle.world.specs.declared.site.Site.{Site}
use Rattle.world.specs.Ground.{Ground}
use Rattle.world.specs.Views.{View, Has}
use Rattle.world.specs.Wants.{answer_to, word_of}
use Rattle.world.specs.areas.Areas.{Area, Directory}
use Rattle.world.proofs.stepping.Answers.{is_answer}
use Rattle.split_op.specs.Copied.{KeepsCopied}
use Rattle.rounds.proofs.Wanted.{asked}
use Rattle.directory_op.specs.declared.op.DirectoryEnd.TheVariants.{Off}
use Rattle.directory_op.specs.declared.op.DirectoryStep.{DirectoryStep}
use Rattle.directory_op.specs.declared.op.DirectoryStep.TheVariants.{LoadHead, LoadSideHead, TakeGuard, AskPower, LoadRoot, LoadEntry, Store, GiveGuard, Ended}
use Rattle.directory_op.specs.declared.op.DirectoryOp.{DirectoryOp}
use Rattle.directory_op.specs.Steps.{shape_of, next_store, passed, wanted_in, taken_in, taken, wanted}
use Rattle.directory_op.specs.Left.{guarded_left, step_left, left_of, is_trying, alone_in, left_alone}
use Rattle.directory_op.specs.Fits.{SuitsStep}
use Rattle.directory_op.specs.DirectoryPart.{WinsWhereFree}
use Rattle.directory_op.proofs.ends.Falling.{ends_in_time}
use Rattle.directory_op.proofs.ends.Onward.{passed_goes, root_alone}

-- ---- who waits may have one event more
module _ (op : DirectoryOp) where
  left_below : (step : DirectoryStep) → step_left op step ≤ alone_in op step
  left_below AskPower = omega arith
  left_below step = omega arith

  alone_most : (step : DirectoryStep) → alone_in op step ≤ step_left op step + 1
  alone_most AskPower = omega arith
  alone_most step = omega arith

  -- behind an event of who does not wait as many are left as where others may have the guard
  alone_same : (step : DirectoryStep) (a : Ans) → IsAnswer (wanted_in op step) a → is_trying step ≡ false → left_alone (taken_in op step a) ≡ left_of (taken_in op step a)
  alone_same LoadHead (Value n) i other = refl
  alone_same LoadHead a i other = absurd i
  alone_same LoadSideHead (Value n) i other = refl
  alone_same LoadSideHead a i other = absurd i
  alone_same TakeGuard a i other = absurd (false≢true (sym other))
  alone_same AskPower a i other = absurd (false≢true (sym other))
  alone_same LoadRoot (Value n) i other = root_alone op n
  alone_same LoadRoot a i other = absurd i
  alone_same (LoadEntry place) (Value n) i other = refl
  alone_same (LoadEntry place) a i other = absurd i
  alone_same (Store stage) a i other =
      subst (λ (x : Ans). left_alone (taken_in op (Store stage) x) ≡ left_of (taken_in op (Store stage) x)) (sym (asked op.rounds (next_store op stage) a i).passed)
      ((passed_goes op stage).alone (passed op stage))
  alone_same GiveGuard Passed i other = refl
  alone_same GiveGuard a i other = absurd i
  alone_same (Ended end) a i other = absurd i

  other_falls : (a : Ans) → IsAnswer (wanted op) a → is_trying op.step ≡ false → left_alone (taken op a) < left_alone op
  other_falls a i other =
      let same = alone_same op.step a i other in
      let below = left_below op.step in
      elim (ends_in_time.falls op a i) [
        | inl fewer ↦ omega (arith, same, below, fewer)
        | inr waits ↦ absurd (false≢true (sym other ∙ waits.0))
      ]

  -- ---- and who waits tries it next, and wins
  power_falls : (on : Bool) → left_alone (record op { step = cond on TakeGuard (Ended Off) }) < 2 + guarded_left op
  power_falls true = omega arith
  power_falls false = omega arith

  module _ (site : Ground) (here : Site) (call : Call) (v : View) where
    trying_falls : (words : Words) → words (directory_guard site.shape) ≡ 0 → (step : DirectoryStep) → SuitsStep site here op call step v → is_trying step ≡ true
        → left_alone (taken_in op step (answer_to (wanted_in op step) (words (word_of site.shape (wanted_in op step))))) < alone_in op step
    trying_falls words free TakeGuard s trying =
        let none : words (directory_guard (shape_of op)) ≡ 0 = ap (λ (g : Shape). words (directory_guard g)) s.keeps.is.located.shape ∙ free in
        subst (λ n. left_alone (taken_in op TakeGuard (answer_to (wanted_in op TakeGuard) n)) < alone_in op TakeGuard) (sym none) (omega arith)
    trying_falls words free AskPower s trying = power_falls (words (word_of site.shape want.Power) == 0)
    trying_falls words free step s trying = absurd (false≢true trying)

    -- who waits has it not
    copied_others : KeepsCopied site here call op.copied v → Has Directory v.areas → ⊥
    copied_others k has = elim (subst (λ (l : List Area). Has Directory l) k.areas has) [
      | inl e ↦ cc
      | inr has ↦ elim has [
        | inl e ↦ cc
        | inr has ↦ elim has [
          | inl e ↦ cc
          | inr none ↦ absurd none
        ]
      ]
    ]

    trying_others : (step : DirectoryStep) → SuitsStep site here op call step v → is_trying step ≡ true → Has Directory v.areas → ⊥
    trying_others TakeGuard s trying has = copied_others s.keeps has
    trying_others AskPower s trying has = copied_others s.keeps has
    trying_others step s trying has = false≢true trying

pub wins_where_free : WinsWhereFree
wins_where_free = record {
  falls = λ site here call words op before v s asks free. elim (cases_Bool (is_trying op.step)) [
    | inl trying ↦ trying_falls op site here call v words (free trying) op.step s.stands trying
    | inr other ↦ other_falls op _ (is_answer (wanted op) (words (word_of site.shape (wanted op))) asks) other
  ];
  most = λ op. alone_most op op.step;
  others = λ site here call op v s waits has. trying_others op site here call v op.step s waits has;
}
