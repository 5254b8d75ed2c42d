use Rattle.std.proofs.Common.{ap, sym, subst, ◌∙◌, ◌<◌}
use Rattle.image_layout.specs.Places.{Shape}
use Rattle.image_layout.specs.Volatile.{all_words_of}
use Rattle.world.specs.Wants.{word_of}
use Rattle.vlock.proofs.Allowed.{for_load, for_store, for_exchange, for_draw}
use Rattle.vlock.proofs.steps.step.Goals as goal

pub word_of-word-requires : goal.word_of-word-requires
word_of-word-requires g c = subst (λ (s : Shape). word_of s c.args.want < all_words_of s) (sym c.requires.geometry) c.requires.word.1

pub load-requires : goal.load-requires
load-requires g c = let t = for_load c.args.image.now.key g.N.Acting.ground g.N.Acting.want c.args.want g.N.Acting.kind _ _ _ c.args.seat.now.me c.requires.acting.0 c.requires.acting.1 c.requires.table.1.words c.requires.word.1 c.requires.table.2 c.requires.may _ (c.word_of-word.ensures ∙ ap (λ (s : Shape). word_of s c.args.want) c.requires.geometry) c.in-Load.is in (c.requires.table.0, t.0, t.1)

pub swap-requires : goal.swap-requires
swap-requires g c = let t = for_store c.args.image.now.key g.N.Acting.ground g.N.Acting.want c.args.want g.N.Acting.kind _ _ _ c.args.seat.now.me c.requires.acting.0 c.requires.acting.1 c.requires.table.1.words c.requires.word.1 c.requires.table.2 c.requires.may _ _ _ (c.word_of-word.ensures ∙ ap (λ (s : Shape). word_of s c.args.want) c.requires.geometry) c.in-Store.is in (c.requires.table.0, t.0, t.1)

pub compare_exchange-requires : goal.compare_exchange-requires
compare_exchange-requires g c = let t = for_exchange c.args.image.now.key g.N.Acting.ground g.N.Acting.want c.args.want g.N.Acting.kind _ _ _ c.args.seat.now.me c.requires.acting.0 c.requires.acting.1 c.requires.table.1.words c.requires.word.1 c.requires.table.2 c.requires.may _ _ _ _ (c.word_of-word.ensures ∙ ap (λ (s : Shape). word_of s c.args.want) c.requires.geometry) c.in-Exchange.is in (c.requires.table.0, t.0, t.1)

pub fetch_add-requires : goal.fetch_add-requires
fetch_add-requires g c = let t = for_draw c.args.image.now.key g.N.Acting.ground g.N.Acting.want c.args.want g.N.Acting.kind _ _ _ c.args.seat.now.me c.requires.acting.0 c.requires.acting.1 c.requires.table.1.words c.requires.word.1 c.requires.table.2 c.requires.may _ (c.word_of-word.ensures ∙ ap (λ (s : Shape). word_of s c.args.want) c.requires.geometry) c.in-Draw.is in (c.requires.table.0, t.0, t.1)
