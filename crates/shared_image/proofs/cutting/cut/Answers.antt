-- The keeper has taken in all passes, wherever their callers stood.
use Rattle.std.proofs.Common.{◌∷◌, ℕ, ◌^◌, ◌<◌, List, ap, subst, ◌∙◌, arith}
use Rattle.std.specs.Prelude.{slice_index, take, map}
use Rattle.vlock.specs.declared.knows.Watch.{Watch}
use Rattle.shared_image.specs.Powered.{ground_in}
use Rattle.shared_image.specs.Closed.{replies_of}
use Rattle.shared_image.specs.Cutting.{LeavesGoodMedia, WasCut}
use Rattle.shared_image.proofs.TakenIn.{callers_with, replies_with}
use Rattle.shared_image.proofs.CutShort.{cut_leaves}
use Rattle.shared_image.proofs.cutting.cut.Goals as goal

pub cut-words-requires-clause-callers : goal.cut-words-requires-clause-callers
cut-words-requires-clause-callers c = ap (λ (w : Watch). w.view.callers) c.take_all-seat.ensures.taken ∙ callers_with c.args.keeper.seat.me.0 c.args.passes.items ∙ c.requires.all

left_by : (c : goal.After-each_fits) → LeavesGoodMedia (ground_in c.args.image) c.args.passes.items c.truncate.new.self.items
    × WasCut (ground_in c.args.image) (replies_of c.args.passes.items) c.truncate.new.self.items
left_by c =
    let p = c.args.keeper.seat.me.0 in
    let given = c.cut-words.ensures.length in
    let words = c.requires.on.whole.words in
    cut_leaves (ground_in c.args.image) c.args.image.geometry c.cut-words.result.items c.truncate.new.self.items p c.take_all-seat.result.me.0 c.args.passes.items c.requires.on.laid_out
    c.requires.on.whole.ground.shape c.take_all-seat.ensures.taken c.cut-words.ensures.left c.requires.keeper.still.idle.nothing
    (ap (λ w. map (λ v. v.own) (w.view ∷ w.past)) c.take_all-seat.ensures.taken ∙ replies_with p c.args.passes.items c.requires.keeper.still.idle.own c.requires.keeper.still.idle.past)
    c.requires.on.says c.requires.on.unmarked (c.truncate.ensures.items ∙ ap (λ (n : ℕ). take n c.cut-words.result.items) c.words.ensures.is) (omega (arith, given, words))
    (subst (λ (ws : List ℕ). (i : ℕ) → slice_index ws i < 2 ^ 64) c.as_slice.ensures.value c.each_fits.ensures)

pub returns-clause-media : goal.returns-clause-media
returns-clause-media c = (left_by c).0

pub returns-clause-was_cut : goal.returns-clause-was_cut
returns-clause-was_cut c = (left_by c).1

pub returns-clause-sound : goal.returns-clause-sound
returns-clause-sound c = (let m = returns-clause-media c in m.sound _ m.newest_may)

pub returns-clause-length : goal.returns-clause-length
returns-clause-length c = (returns-clause-media c).newest_may.whole
