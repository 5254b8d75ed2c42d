-- Which events of an engine, and which turns of the core, leave the pairs.
use Rattle.std.proofs.Common.{◌≡◌, ◌⊎◌, ℕ, zero, suc, inl, inr, ◌∷◌, slice_get, Option, None, Some, refl, sym, ap, ◌∙◌, subst}
use Rattle.op_core.specs.declared.want.Want.TheVariants.{Done}
use Rattle.op_core.specs.declared.want.Want.{Want}
use Rattle.trace.specs.Events.{Words}
use Rattle.map_model.specs.declared.entry.Reply.TheVariants as reply
use Rattle.bucket_words.specs.Hits.{find}
use Rattle.world.specs.Ground.{Ground}
use Rattle.world.specs.Views.{View, At}
use Rattle.world.specs.Wants.{words_after}
use Rattle.world.specs.StepKinds.{StepKind}
use Rattle.world.specs.StepLaws.{OtherStepsKeepPairs}
use Rattle.world.specs.World.{fresh_view}
use Rattle.part.specs.Outcomes.{reply_of}
use Rattle.part.specs.Part.{IsPart, EndsAsTold}
use Rattle.part.proofs.Turning.{publishing_or_not}
use Rattle.write_op.specs.ChangePart.{change_part}
use Rattle.move_op.specs.MovePart.{move_part}
use Rattle.stash_op.specs.StashPart.{stash_part}
use Rattle.engine.specs.declared.engine.Engine.{Engine}
use Rattle.engine.specs.declared.engine.Op.{Op}
use Rattle.engine.specs.declared.engine.Op.TheVariants.{Read, Write, Move, Stash, Release, Enclose, Split, Publish, Rest, Repair, Redirect, Mend}
use Rattle.engine.specs.Engine.{kind_of, end_of_op, outcome_of_end, reply_of_end}
use Rattle.engine.specs.OpPart.{op_part}
use Rattle.engine.specs.Fits.{finds}
use Rattle.engine.specs.Core.{Caller, Core, current, turn_of_call, turn_of_caller, turn}
use Rattle.engine.specs.Holding.{IsCalling, DoesCall, CallerFits, CoreHolds}
use Rattle.engine.specs.Pairs.{LeavesOrMakes, EndsAsDone, MakesAt, TurnLeavesOrMakes}
use Rattle.engine.proofs.Places.{zip_at}

pub leaves_or_makes : IsPart op_part → OtherStepsKeepPairs → LeavesOrMakes
leaves_or_makes part others site here call e words views j before v number h at s =
    let w = part.steps site here call words views j e.op before v h at s.suits s.asks in
    let k : StepKind = kind_of e (finds site e words) in
    let Same : Want → Type 0 = λ x. (key : ℕ) → find site.shape (words_after site.shape x number words) key ≡ find site.shape words key in
    elim (publishing_or_not k) [
      | inl change ↦ inr (w.makes change)
      | inr other ↦ inl (subst Same (sym w.wants) (others site words views j v k number h at w.may other))
    ]

-- a change, a move and a stash alone make a change, and where they made it they tell so
pub ends_as_done : IsPart op_part → EndsAsTold change_part (λ op. outcome_of_end (end_of_op (Write op))) → EndsAsTold move_part (λ op. outcome_of_end (end_of_op (Move op)))
    → EndsAsTold stash_part (λ op. outcome_of_end (end_of_op (Stash op))) → EndsAsDone
ends_as_done part change move stash e made done = by e.op made done
  where
    by : (op : Op) → op_part.HasMade op → op_part.wanted op ≡ Done → (place : ℕ) × (reply_of_end (end_of_op op) ≡ Some (reply.Done, place))
    by (Read op) made done = absurd made
    by (Write op) made done = let d = part.made.done (Write op) made done in (d.0, ap reply_of (sym (change op done)) ∙ ap reply_of d.1)
    by (Move op) made done = let d = part.made.done (Move op) made done in (d.0, ap reply_of (sym (move op done)) ∙ ap reply_of d.1)
    by (Stash op) made done = let d = part.made.done (Stash op) made done in (d.0, ap reply_of (sym (stash op done)) ∙ ap reply_of d.1)
    by (Release op) made done = absurd made
    by (Enclose op) made done = absurd made
    by (Split op) made done = absurd made
    by (Publish op) made done = absurd made
    by (Rest op) made done = absurd made
    by (Repair op) made done = absurd made
    by (Redirect op) made done = absurd made
    by (Mend op) made done = absurd made

-- ---- the turns
module _ (leaves : LeavesOrMakes) (site : Ground) (start : Words) (core : Core) (h : CoreHolds site start core) where
  abbrev LeavesTo : ℕ → Core → Type 0
  LeavesTo c then = ((k : ℕ) → find site.shape then.words k ≡ find site.shape core.words k) ⊎ MakesAt site core c

  module _ (j : ℕ) (c : Caller) (is : slice_get core.callers j ≡ Some c) (v : View) (at : At h.views j v) where
    by_call : (e : Engine) → c.engine ≡ Some e → IsCalling site c e v → LeavesTo (suc j) (turn_of_call site.shape j core c (current c) (Some e))
    by_call e is_engine calling = subst (λ o. LeavesTo (suc j) (turn_of_call site.shape j core c o (Some e))) (sym calling.is_current)
        (elim (leaves site c.site calling.call e core.words (fresh_view 0 ∷ h.views) (suc j) calling.before v (suc j) h.well.holds at calling.suits) [
          | inl same ↦ inl same
          | inr made ↦ inr (record { seat = j; is_number = refl; caller = c; is_caller = is; engine = e; runs = is_engine; not_before = made.0; made = made.1 })
        ])

    by_engine : (engine : Option Engine) → c.engine ≡ engine → DoesCall site c engine v → LeavesTo (suc j) (turn_of_call site.shape j core c (current c) engine)
    by_engine None is_engine through = subst (λ o. LeavesTo (suc j) (turn_of_call site.shape j core c o None)) (sym through.no_call) (inl (λ k. refl))
    by_engine (Some e) is_engine calling = by_call e is_engine calling

  by_caller : (j : ℕ) (o : Option Caller) → slice_get core.callers j ≡ o → LeavesTo (suc j) (turn_of_caller site.shape j core o)
  by_caller j None is = inl (λ k. refl)
  by_caller j (Some c) is = let z = zip_at (CallerFits site) core.callers h.views j c h.each is in by_engine j c is z.0 z.1 c.engine refl z.2.does

  turned : (c : ℕ) → LeavesTo c (turn site.shape c core)
  turned zero = inl (λ k. refl)
  turned (suc j) = by_caller j (slice_get core.callers j) refl

pub turn_leaves_or_makes : LeavesOrMakes → TurnLeavesOrMakes
turn_leaves_or_makes leaves site start core c h = turned leaves site start core h c
