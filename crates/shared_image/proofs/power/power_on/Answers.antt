-- The words that the restart left are opened, and the image is on.
use Rattle.std.proofs.Common.{◌+◌, length, refl, sym, ap, ◌∙◌, arith}
use Rattle.vlock.specs.declared.table.Opening.{Opening}
use Rattle.vlock.specs.Ruling.{word}
use Rattle.shared_image.proofs.Opens.{IsOfRestart, opens, on, keeps, starts_with}
use Rattle.shared_image.proofs.power.power_on.Goals as goal

pub open-requires : goal.open-requires
open-requires c =
    let key : Opening = record { geometry = c.args.medium.now.geometry; words = c.of.result; callers = c.args.callers + 1 } in
    let few = c.requires.callers in
    let o : IsOfRestart key c.args.medium.now.words = record {
      sound = c.requires.sound;
      some = omega arith;
      few = few;
      words_are = ap (λ v. word v.items) c.of.ensures ∙ c.restart-started.ensures.words;
      whole = ap (λ v. length v.items) c.of.ensures ∙ c.restart-started.ensures.length ∙ c.in_ok-room.ensures.length;
    } in
    (ap (λ v. v.items) c.of.ensures ∙ sym c.deref.ensures.value, opens key c.args.medium.now.words o)

pub returns-clause-on : goal.returns-clause-on
returns-clause-on c =
    let key : Opening = record { geometry = c.args.medium.now.geometry; words = c.of.result; callers = c.args.callers + 1 } in
    let few = c.requires.callers in
    let o : IsOfRestart key c.args.medium.now.words = record {
      sound = c.requires.sound;
      some = omega arith;
      few = few;
      words_are = ap (λ v. word v.items) c.of.ensures ∙ c.restart-started.ensures.words;
      whole = ap (λ v. length v.items) c.of.ensures ∙ c.restart-started.ensures.length ∙ c.in_ok-room.ensures.length;
    } in
    on key c.args.medium.now.words o _ c.in_ok-table.ensures.table refl c.restart-started.ensures.started (sym (ap (λ v. v.items) c.of.ensures)) c.in_ok-table.ensures.seat.0.1

pub returns-clause-keeper : goal.returns-clause-keeper
returns-clause-keeper c =
    let key : Opening = record { geometry = c.args.medium.now.geometry; words = c.of.result; callers = c.args.callers + 1 } in
    let few = c.requires.callers in
    let o : IsOfRestart key c.args.medium.now.words = record {
      sound = c.requires.sound;
      some = omega arith;
      few = few;
      words_are = ap (λ v. word v.items) c.of.ensures ∙ c.restart-started.ensures.words;
      whole = ap (λ v. length v.items) c.of.ensures ∙ c.restart-started.ensures.length ∙ c.in_ok-room.ensures.length;
    } in
    keeps key c.args.medium.now.words o
    (record { table = c.in_ok-table.table; geometry = c.args.medium.now.geometry; started = c.restart-started.result; room = c.restart-started.new.words })
    c.in_ok-table.ensures.table (record { seat = c.in_ok-table.seat }) c.in_ok-table.ensures.seat.0 c.in_ok-table.ensures.seat.1

pub returns-clause-callers : goal.returns-clause-callers
returns-clause-callers c = (ap (λ m. m.0.view.callers) c.in_ok-table.ensures.seat.1, ap (λ (k : Opening). k.callers) c.in_ok-table.ensures.table)

pub returns-clause-pairs : goal.returns-clause-pairs
returns-clause-pairs c m has k =
    let key : Opening = record { geometry = c.args.medium.now.geometry; words = c.of.result; callers = c.args.callers + 1 } in
    let few = c.requires.callers in
    let o : IsOfRestart key c.args.medium.now.words = record {
      sound = c.requires.sound;
      some = omega arith;
      few = few;
      words_are = ap (λ v. word v.items) c.of.ensures ∙ c.restart-started.ensures.words;
      whole = ap (λ v. length v.items) c.of.ensures ∙ c.restart-started.ensures.length ∙ c.in_ok-room.ensures.length;
    } in
    starts_with key c.args.medium.now.words o
    (record { table = c.in_ok-table.table; geometry = c.args.medium.now.geometry; started = c.restart-started.result; room = c.restart-started.new.words })
    c.in_ok-table.ensures.table m has k
