-- EACH STEP of a displacement leaves a view that suits, with the reply entered that is decided.
use Rattle.std.proofs.Common.{◌≡◌, ◌≢◌, ℕ, ◌+◌, ◌%◌, ◌^◌, ◌<◌, false, Option, List, inl, inr, refl, sym, ap, ◌∙◌, subst}
use Rattle.op_core.specs.declared.want.Want.TheVariants as want
use Rattle.op_core.specs.declared.want.Ans.{Ans}
use Rattle.trace.specs.Events.{Words}
use Rattle.map_model.specs.declared.call.Call.{Call}
use Rattle.map_model.specs.declared.entry.Reply.{Reply}
use Rattle.map_model.specs.declared.entry.Reply.TheVariants as reply
use Rattle.map_model.specs.Changes.{call_of}
use Rattle.world.specs.Ground.{Ground}
use Rattle.world.specs.Views.{View, Has, At, IsGuarded}
use Rattle.world.specs.Wants.{answer_to, word_of}
use Rattle.world.specs.Kinds.{with_draw, next_entry, with_reply, view_after}
use Rattle.world.specs.Invariant.{Holds}
use Rattle.world.specs.Conditions.{IsNewest}
use Rattle.world.proofs.calls.deeds.Calls.{newest_without}
use Rattle.world.specs.Attempts.{HasNoMore, EntersReply}
use Rattle.part.specs.Outcomes.{reply_of}
use Rattle.phase.specs.declared.take.Take.{Take}
use Rattle.phase.specs.declared.take.Taken.{Taken}
use Rattle.phase.specs.declared.load.Load.{Load}
use Rattle.phase.specs.declared.held.Held.{Held}
use Rattle.phase.specs.declared.kept.Kept.{Kept}
use Rattle.phase.specs.Takes.{take_wanted, take_taken}
use Rattle.phase.specs.Loads.{load_taken}
use Rattle.phase.specs.Helds.{give_next, given}
use Rattle.phase.specs.Taking.{take_kind}
use Rattle.phase.proofs.Handing.{none_more, one_more, same_more, give_answer, give_own, give_seen, one_drawn}
use Rattle.phase.proofs.Wanting.{make_answer, take_own, take_seen}
use Rattle.phase.proofs.locks.Taking.{take_stands}
use Rattle.phase.proofs.Loading.{load_stands}
use Rattle.phase.proofs.locks.Holding.{learn_may}
use Rattle.phase.proofs.locks.Replying.{reply_gives, draw_gives}
use Rattle.phase.proofs.locks.Giving.{held_has, give_stands}
use Rattle.phase.specs.declared.ending.Ending.{Ending}
use Rattle.phase.specs.declared.ending.Ending.TheVariants as ending
use Rattle.move_op.specs.declared.step.Direction.{Direction}
use Rattle.move_op.specs.declared.step.Shift.{Shift}
use Rattle.move_op.specs.declared.step.MoveStep.{MoveStep}
use Rattle.move_op.specs.declared.step.MoveStep.TheVariants.{Lock, Fill, CountSpent, Draw, Give, Ended}
use Rattle.move_op.specs.declared.step.MoveStep.TheVariants as step
use Rattle.move_op.specs.declared.op.MoveOp.{MoveOp}
use Rattle.move_op.specs.Shifts.{target_of, record_of}
use Rattle.move_op.specs.Steps.{go, giving, give, locked_to, filled_to, lock_of, lock_at, wanted_in, next_in}
use Rattle.move_op.specs.Fits.{kind_at, IsGiving, IsDrawing, SuitsStep}
use Rattle.move_op.proofs.keeping.Going.{giving_suits, give_suits, keeps_gives, locked_suits, learnt_but, filled_suits}
use Rattle.move_op.proofs.keeping.Entering.{reply_at, giving_outcome, taken_quiet, filled_quiet}
use Rattle.move_op.proofs.keeping.Storing.{Goes, make_goes}

-- ---- the counter, the draw, and locks back
module _ (site : Ground) (kept : Kept) (before v : View) where
  spent_goes : HasNoMore before v → IsGiving site kept kept.held v → (n : ℕ) → Goes site before (give kept (ending.Replied reply.Spent n)) (view_after site.shape (kind_at kept CountSpent) n v)
  spent_goes same g n =
      let u : View = with_reply v (next_entry v (call_of kept.change) reply.Spent n false) in (
        give_suits site kept (ending.Replied reply.Spent n) u (reply_gives site kept.site kept.hash kept.segment kept.held v (next_entry v (call_of kept.change) reply.Spent n false) g),
        subst (λ (o : Option (Reply × ℕ)). EntersReply (call_of kept.change) o before u) (sym (ap reply_of (giving_outcome kept.held (ending.Replied reply.Spent n))))
            (one_more (call_of kept.change) before v reply.Spent n refl same),
      )

  draw_goes : HasNoMore before v → (shift : Shift) → IsDrawing site kept shift v → (n : ℕ) → Goes site before (give kept (ending.Replied reply.Done n)) (view_after site.shape (kind_at kept (Draw shift)) n v)
  draw_goes same shift d n =
      let call : Call = call_of kept.change in
      let u : View = with_draw call n v in (
        give_suits site kept (ending.Replied reply.Done n) u
            (draw_gives site kept.site kept.hash kept.segment kept.held v call n d.all.located d.all.locks d.settled d.planned d.moving d.all.owes),
        subst (λ (o : Option (Reply × ℕ)). EntersReply call o before u) (sym (ap reply_of (giving_outcome kept.held (ending.Replied reply.Done n)))) (one_drawn call before v n same),
      )

  give_goes : (held : Held) (end : Ending) (n : ℕ) → IsGiving site kept held v → EntersReply (call_of kept.change) (reply_at (Give held end)) before v
      → Goes site before (go kept (giving (given held) end)) (view_after site.shape (kind_at kept (Give held end)) n v)
  give_goes held end n g enters =
      let u : View = view_after site.shape (kind_at kept (Give held end)) n v in (
        giving_suits site kept (given held) end u (record {
          located = g.located;
          locks = give_stands.locks site kept.site kept.hash kept.segment held v n g.located g.locks;
          quiet = give_stands.quiet site.shape kept.site kept.hash kept.segment held v n g.quiet;
        }),
        subst (λ (o : Option (Reply × ℕ)). EntersReply (call_of kept.change) o before u)
            (sym (ap reply_of (giving_outcome (given held) end)))
            (same_more (call_of kept.change) before v (reply_at (Give held end)) u enters (give_own site.shape kept.site kept.hash kept.segment (give_next held) n v)
            (give_seen site.shape kept.site kept.hash kept.segment (give_next held) n v)),
      )

  -- ---- a lock
  lock_goes : HasNoMore before v → (d : Direction) (t : Take) (n : ℕ) → n < 2 ^ 64 → SuitsStep site kept (Lock d t) v
      → Goes site before (next_in kept (Lock d t) (answer_to (take_wanted (lock_of kept (target_of d)) t) n)) (view_after site.shape (take_kind (lock_of kept (target_of d)) t) n v)
  lock_goes same d t n small suits =
      let lock : ℕ = lock_of kept (target_of d) in
      let x : Taken = take_taken t (answer_to (take_wanted lock t) n) in
      let u : View = view_after site.shape (take_kind lock t) n v in
      let o : MoveOp = locked_to kept d lock x in (
        locked_suits site kept d v u suits.0 suits.1 x (take_stands site.shape lock t v n suits.2 small),
        none_more (call_of o.kept.change) before v (reply_at o.step) u (taken_quiet kept d lock x) same (take_own site.shape lock t n v) (take_seen site.shape lock t n v),
      )

-- ---- a bucket
pub fill_guard : (site : Ground) (kept : Kept) (v : View) (d : Direction) (load : Load) → SuitsStep site kept (Fill d load) v → IsGuarded v.held (lock_of kept (target_of d) + load.next % 32)
fill_guard site kept v d load suits = learn_may site (lock_of kept (target_of d)) load v suits.2 (held_has kept.site kept.hash kept.segment kept.held (target_of d) v suits.0.locks suits.0.third)

module _ (site : Ground) (kept : Kept) (words : Words) (views : List View) (j : ℕ) (before v : View) (h : Holds site words views) (at : At views j v) where
  -- what is known then is the newest
  learnt_newest : (d : Direction) (load : Load) (n : ℕ) → n ≡ words (lock_of kept (target_of d) + load.next % 32)
      → IsNewest site v words → (i x : ℕ) → Has (i, x) (view_after site.shape (kind_at kept (Fill d load)) n v).known → words i ≡ x
  learnt_newest d load n found new i x has = elim has [
    | inl e ↦ ap (λ (p : ℕ × ℕ). words p.0) e ∙ sym found ∙ sym (ap (λ (p : ℕ × ℕ). p.1) e)
    | inr old ↦ new.knows i x old
  ]

  fill_goes : HasNoMore before v → (d : Direction) (load : Load) (n : ℕ) → n ≡ words (lock_of kept (target_of d) + load.next % 32) → SuitsStep site kept (Fill d load) v
      → Goes site before (filled_to kept d (load_taken load n)) (view_after site.shape (kind_at kept (Fill d load)) n v)
  fill_goes same d load n found suits =
      let new : IsNewest site v words = newest_without site words views j v h at suits.0.locks.areas in
      let u : View = view_after site.shape (kind_at kept (Fill d load)) n v in
      let o : MoveOp = filled_to kept d (load_taken load n) in (
        filled_suits site words new.table kept d u
            (learnt_but site kept d (lock_of kept (target_of d) + load.next % 32) n v suits.0 (fill_guard site kept v d load suits)) suits.1 (load_taken load n)
            (load_stands (lock_of kept (target_of d)) v.known load n suits.2) (learnt_newest d load n found new) new.own,
        none_more (call_of o.kept.change) before v (reply_at o.step) u (filled_quiet kept d (load_taken load n)) same refl refl,
      )

  -- ---- any of them
  pub step_in : (s : MoveStep) (n : ℕ) → n < 2 ^ 64 → n ≡ words (word_of site.shape (wanted_in kept s)) → SuitsStep site kept s v
      → EntersReply (call_of kept.change) (reply_at s) before v → wanted_in kept s ≢ want.Done
      → Goes site before (next_in kept s (answer_to (wanted_in kept s) n)) (view_after site.shape (kind_at kept s) n v)
  step_in (Lock d t) n low found suits enters asks = lock_goes site kept before v enters d t n low suits
  step_in (Fill d load) n low found suits enters asks = fill_goes enters d load n found suits
  step_in CountSpent n low found suits enters asks = spent_goes site kept before v enters (keeps_gives site kept v suits.0) n
  step_in (step.Make shift leg m) n low found suits enters asks =
      subst (λ (a : Ans). Goes site before (next_in kept (step.Make shift leg m) a) (view_after site.shape (kind_at kept (step.Make shift leg m)) n v)) (sym (make_answer (lock_at kept shift leg) (record_of shift leg) m n))
      (make_goes site kept shift before v enters n leg m suits)
  step_in (Draw shift) n low found suits enters asks = draw_goes site kept before v enters shift suits n
  step_in (Give held end) n low found suits enters asks =
      subst (λ (a : Ans). Goes site before (next_in kept (Give held end) a) (view_after site.shape (kind_at kept (Give held end)) n v)) (sym (give_answer kept.site kept.hash kept.segment (give_next held) n))
      (give_goes site kept before v held end n suits enters)
  step_in (Ended end) n low found suits enters asks = absurd (asks refl)
