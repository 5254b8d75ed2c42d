-- The keeper has taken in all passes, and stands for all callers.
use Rattle.std.proofs.Common.{◌∷◌, ℕ, ◌^◌, ◌<◌, List, sym, ap, subst, ◌∙◌, arith}
use Rattle.std.specs.Prelude.{slice_index, take, map}
use Rattle.vlock.specs.declared.knows.Watch.{Watch}
use Rattle.world.specs.Attempts.{OwesNothing}
use Rattle.shared_image.specs.Powered.{ground_in}
use Rattle.shared_image.specs.Closed.{replies_of}
use Rattle.shared_image.proofs.TakenIn.{callers_with, replies_with, owes_nothing_with}
use Rattle.shared_image.proofs.Finished.{finish}
use Rattle.shared_image.proofs.closing.close.Goals as goal

pub take_all-seat-requires-clause-passes : goal.take_all-seat-requires-clause-passes
take_all-seat-requires-clause-passes c = λ k d low. (c.requires.done k d low).0

pub close-words-requires-clause-callers : goal.close-words-requires-clause-callers
close-words-requires-clause-callers c = ap (λ (w : Watch). w.view.callers) c.take_all-seat.ensures.taken ∙ callers_with c.args.keeper.seat.me.0 c.args.passes.items ∙ c.requires.all

pub close-words-requires-clause-owes : goal.close-words-requires-clause-owes
close-words-requires-clause-owes c =
    subst (λ (w : Watch). OwesNothing w.view) (sym c.take_all-seat.ensures.taken)
    (owes_nothing_with c.args.image c.args.keeper.seat.me.0 c.args.passes.items c.requires.keeper.still.idle.nothing c.requires.done)

pub returns-clause-sound : goal.returns-clause-sound
returns-clause-sound c =
    let p = c.args.keeper.seat.me.0 in
    let w = c.take_all-seat.result.me.0 in
    let long = c.run_close.ensures.length in
    let given = c.close-words.ensures.length in
    let words = c.requires.on.whole.words in
    (finish (ground_in c.args.image) c.args.image.geometry c.close-words.result.items c.run_close.new.words.items c.truncate.new.self.items (w.view ∷ w.past)
    (replies_of c.args.passes.items) c.requires.on.laid_out c.close-words.ensures.end (subst (λ (ws : List ℕ). (i : ℕ) → slice_index ws i < 2 ^ 64) c.as_slice.ensures.value c.each_fits.ensures)
    c.requires.on.says c.requires.on.unmarked c.run_close.ensures.closed (omega (arith, long, given, words)) (c.truncate.ensures.items ∙ ap (λ (n : ℕ). take n c.run_close.new.words.items) c.words.ensures.is)
    (ap (λ w. map (λ v. v.own) (w.view ∷ w.past)) c.take_all-seat.ensures.taken ∙ replies_with p c.args.passes.items c.requires.keeper.still.idle.own c.requires.keeper.still.idle.past)).0

pub returns-clause-length : goal.returns-clause-length
returns-clause-length c = (returns-clause-sound c).whole

pub returns-clause-clean : goal.returns-clause-clean
returns-clause-clean c =
    let p = c.args.keeper.seat.me.0 in
    let w = c.take_all-seat.result.me.0 in
    let long = c.run_close.ensures.length in
    let given = c.close-words.ensures.length in
    let words = c.requires.on.whole.words in
    (finish (ground_in c.args.image) c.args.image.geometry c.close-words.result.items c.run_close.new.words.items c.truncate.new.self.items (w.view ∷ w.past)
    (replies_of c.args.passes.items) c.requires.on.laid_out c.close-words.ensures.end (subst (λ (ws : List ℕ). (i : ℕ) → slice_index ws i < 2 ^ 64) c.as_slice.ensures.value c.each_fits.ensures)
    c.requires.on.says c.requires.on.unmarked c.run_close.ensures.closed (omega (arith, long, given, words)) (c.truncate.ensures.items ∙ ap (λ (n : ℕ). take n c.run_close.new.words.items) c.words.ensures.is)
    (ap (λ w. map (λ v. v.own) (w.view ∷ w.past)) c.take_all-seat.ensures.taken ∙ replies_with p c.args.passes.items c.requires.keeper.still.idle.own c.requires.keeper.still.idle.past)).1

pub returns-clause-replies : goal.returns-clause-replies
returns-clause-replies c =
    let p = c.args.keeper.seat.me.0 in
    let w = c.take_all-seat.result.me.0 in
    let long = c.run_close.ensures.length in
    let given = c.close-words.ensures.length in
    let words = c.requires.on.whole.words in
    (finish (ground_in c.args.image) c.args.image.geometry c.close-words.result.items c.run_close.new.words.items c.truncate.new.self.items (w.view ∷ w.past)
    (replies_of c.args.passes.items) c.requires.on.laid_out c.close-words.ensures.end (subst (λ (ws : List ℕ). (i : ℕ) → slice_index ws i < 2 ^ 64) c.as_slice.ensures.value c.each_fits.ensures)
    c.requires.on.says c.requires.on.unmarked c.run_close.ensures.closed (omega (arith, long, given, words)) (c.truncate.ensures.items ∙ ap (λ (n : ℕ). take n c.run_close.new.words.items) c.words.ensures.is)
    (ap (λ w. map (λ v. v.own) (w.view ∷ w.past)) c.take_all-seat.ensures.taken ∙ replies_with p c.args.passes.items c.requires.keeper.still.idle.own c.requires.keeper.still.idle.past)).2

pub returns-clause-ended : goal.returns-clause-ended
returns-clause-ended c =
    let p = c.args.keeper.seat.me.0 in
    let w = c.take_all-seat.result.me.0 in
    let long = c.run_close.ensures.length in
    let given = c.close-words.ensures.length in
    let words = c.requires.on.whole.words in
    (finish (ground_in c.args.image) c.args.image.geometry c.close-words.result.items c.run_close.new.words.items c.truncate.new.self.items (w.view ∷ w.past)
    (replies_of c.args.passes.items) c.requires.on.laid_out c.close-words.ensures.end (subst (λ (ws : List ℕ). (i : ℕ) → slice_index ws i < 2 ^ 64) c.as_slice.ensures.value c.each_fits.ensures)
    c.requires.on.says c.requires.on.unmarked c.run_close.ensures.closed (omega (arith, long, given, words)) (c.truncate.ensures.items ∙ ap (λ (n : ℕ). take n c.run_close.new.words.items) c.words.ensures.is)
    (ap (λ w. map (λ v. v.own) (w.view ∷ w.past)) c.take_all-seat.ensures.taken ∙ replies_with p c.args.passes.items c.requires.keeper.still.idle.own c.requires.keeper.still.idle.past)).3
