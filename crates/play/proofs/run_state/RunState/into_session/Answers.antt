-- What is left is what the state leaves.
use Rattle.std.proofs.Common.{ap, sym, ◌∙◌, subst, map}
use Rattle.image_layout.specs.Places.{Shape}
use Rattle.core_run.specs.Run.{medium_words}
use Rattle.core_run.specs.Running.{start_of}
use Rattle.play.specs.Callers.{callers_of, HaveRoom}
use Rattle.play.specs.Played.{stops_of}
use Rattle.play.proofs.driven.Listed.{entries_are}
use Rattle.play.proofs.run_state.RunState.into_session.Goals as goal

pub returns-clause-left : goal.returns-clause-left
returns-clause-left c t s is =
    let callers = c.args.self.callers.items in let lists = c.args.self.lists in
    record {
      same_shape = c.medium_of.ensures.geometry ∙ is.shape;
      lists = entries_are callers lists is.room ∙ ap (λ cs. map (λ c. c.entries) cs) is.its_callers;
      stops = c.stops_of-stops.ensures lists (subst (λ cs. HaveRoom cs lists) (sym c.deref.ensures.value) is.room)
          ∙ ap (λ cs. stops_of (callers_of cs lists)) c.deref.ensures.value ∙ ap (λ cs. stops_of cs) is.its_callers;
      words = c.medium_of.ensures.words (start_of t) s.core is.traced is.words
          ∙ ap (λ (shape : Shape). medium_words shape (start_of t) s.core c.args.cut) is.shape;
      cut = c.is_some.ensures;
    }
