-- The draw keeps the view suited: its reply is entered, and the locks go back, but that a note may be owed.
use Rattle.std.proofs.Common.{◌≡◌, ℕ, Bool, true, false, [], refl, sym, ap, ◌∙◌, subst}
use Rattle.std.specs.Prelude.{if◌then◌else◌}
use Rattle.map_model.specs.declared.call.Call.{Call}
use Rattle.map_model.specs.declared.entry.Reply.TheVariants as reply
use Rattle.map_model.specs.Map.{key_of}
use Rattle.map_model.specs.Changes.{call_of}
use Rattle.world.specs.Ground.{Ground}
use Rattle.world.specs.Views.{View}
use Rattle.world.specs.Kinds.{of_other_keys, with_draw}
use Rattle.world.specs.Attempts.{HasNoMore, HasOneMore, EntersReply}
use Rattle.part.specs.Outcomes.{reply_of}
use Rattle.phase.proofs.locks.Replying.{draw_gives}
use Rattle.phase.proofs.Handing.{own_drawn, one_drawn}
use Rattle.write_op.specs.declared.step.Task.{Task}
use Rattle.write_op.specs.declared.step.Seen.{Seen}
use Rattle.phase.specs.declared.ending.Ending.TheVariants as ending
use Rattle.phase.specs.declared.note.NoteWord.TheVariants.{Mark}
use Rattle.write_op.specs.declared.step.WriteStep.TheVariants.{Unnote}
use Rattle.write_op.specs.Search.{leaves_note}
use Rattle.write_op.specs.Steps.{go, answered, drawn_to}
use Rattle.write_op.specs.Fits.{owed_by, IsDrawing, IsIn}
use Rattle.write_op.proofs.keeping.Going.{located, give_suits}
use Rattle.write_op.proofs.keeping.Entering.{giving_outcome}
use Rattle.write_op.proofs.keeping.Counting.{Goes}

module _ (site : Ground) (task : Task) (is : IsIn site task) (seen : Seen) (before v : View) (same : HasNoMore before v) (d : IsDrawing site task seen v) (n : ℕ) where
  abbrev call : Call
  call = call_of task.change

  abbrev after : View
  after = with_draw call n v

  drawn : after.planned ≡ []
  drawn = ap (of_other_keys (key_of call)) d.planned ∙ own_drawn call

  entered : HasOneMore call reply.Done n before after
  entered = one_drawn call before v n same

  by : (b : Bool) → leaves_note task.change.effect seen.place ≡ b → Goes site task before (if b then go seen (Unnote Mark n) else answered seen n reply.Done) after
  by true e = (
    record {
      all = record {
        there = d.all.there;
        pinned = d.all.pinned;
        locks = record { has = d.all.locks.has; only = d.all.locks.only; free = d.all.locks.free; known = d.all.locks.known; areas = d.all.locks.areas };
        upto = d.all.upto;
        visits = d.all.visits;
        still = d.all.still;
      };
      chosen = d.chosen;
      leaves = e;
      knows = d.knows;
      settled = d.settled;
      planned = drawn;
      owes = d.owes ∙ ap (owed_by site task seen) e;
    },
    entered,
  )
  by false e = (
    give_suits site task is seen (ending.Replied reply.Done n) after
        (draw_gives site task.site task.hash seen.path.segment seen.held v call n (located site task is seen v.facts d.all.there) d.all.locks d.settled d.planned d.all.still (d.owes ∙ ap (owed_by site task seen) e)),
    subst (λ o. EntersReply call o before after) (sym (ap reply_of (giving_outcome seen.held (ending.Replied reply.Done n)))) entered,
  )

  pub draw_goes : Goes site task before (drawn_to task seen n) after
  draw_goes = by (leaves_note task.change.effect seen.place) refl
