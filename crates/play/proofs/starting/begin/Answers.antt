-- The run state begins where the definitions do.
use Rattle.std.proofs.Common.{◌≡◌, List, refl, ap, ◌∙◌, sym, subst}
use Rattle.map_model.specs.Roomed.{with_room}
use Rattle.core_run.specs.declared.keeper.Keeper.TheVariants.{Restarting}
use Rattle.std.specs.Prelude.{map}
use Rattle.play.specs.declared.caller.Caller.{Caller as PlayCaller}
use Rattle.play.specs.Callers.{callers_of, HaveRoom}
use Rattle.play.proofs.Beginning.{rooms_of, they_wait, they_have_room}
use Rattle.play.proofs.starting.begin.Goals as goal

pub returns : goal.returns
returns c scripts all =
    let shape = c.args.medium.geometry in let callers = c.args.callers.items in
    let lists : c.in_ok-lists.lists ≡ rooms_of callers =
    c.in_ok-lists.ensures ∙ ap (λ rooms. map with_room rooms) (c.deref-2.ensures.value ∙ c.in_ok-rooms.ensures)
    ∙ ap (λ (rs : List PlayCaller). rooms_of rs) c.deref.ensures.value in
    record {
      shape = c.in_ok-new.ensures.shape;
      callers = c.in_ok-new.ensures.callers;
      traced = c.in_ok-new.ensures.begins;
      words = refl;
      keeper = ap Restarting c.new-3.ensures;
      its_callers = ap (λ ks. callers_of callers ks) lists ∙ they_wait shape 1 scripts callers all;
      room = subst (λ ks. HaveRoom callers ks) (sym lists) (they_have_room shape 1 scripts callers all);
    }
