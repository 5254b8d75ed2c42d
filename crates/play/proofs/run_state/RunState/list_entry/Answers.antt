-- The list at the index has room, and is that of the caller with the next number.
use Rattle.std.proofs.Common.{◌≡◌, ℕ, ◌+◌, ◌-◌, ◌<◌, Option, arith, sym, ap, ◌∙◌, subst}
use Rattle.std.specs.Prelude.{slice_get}
use Rattle.std.specs.Option.{IfSome}
use Rattle.std.proofs.lemmas.Option.{slice_get_within}
use Rattle.map_model.specs.Roomed.{Roomed}
use Rattle.play.proofs.run_state.RunState.list_entry.Goals as goal

pub push-requires-clause-is_caller : goal.push-requires-clause-is_caller
push-requires-clause-is_caller c =
    let within = slice_get_within c.args.self.now.lists c.args.index c.requires.room.0 c.requires.room.1 in omega arith

pub push-requires-clause-has_spare : goal.push-requires-clause-has_spare
push-requires-clause-has_spare c =
    let here : c.args.index + 1 - 1 ≡ c.args.index = omega arith in
    subst (λ (o : Option Roomed). IfSome o (λ (kept : Roomed). 0 < kept.spare)) (sym (ap (λ (n : ℕ). slice_get c.args.self.now.lists n) here ∙ c.requires.room.1)) c.requires.room.2

pub overflow_cast-index : goal.overflow_cast-index
overflow_cast-index c = let few = c.requires.few in record { fits = omega arith }

pub overflow_add-index : goal.overflow_add-index
overflow_add-index c = let few = c.requires.few in record { fits = omega arith }
