use Rattle.std.proofs.Common.{refl}
use Rattle.script_text.proofs.Words.{words_of_spaces, words_of_rest, words_of_last}
use Rattle.script_text.proofs.word.next_word.Goals as goal

pub returns-in_default : goal.returns-in_default
returns-in_default c = words_of_spaces c.args.bytes.now c.in_default.ensures

pub returns-in-Some-first_place : goal.returns-in-Some-first_place
returns-in-Some-first_place c =
    words_of_rest c.args.bytes.now _ c.in-Some.start c.in-Some-first_place.end refl c.in-Some.ensures c.in-Some-first_place.ensures

pub returns-in-None : goal.returns-in-None
returns-in-None c = words_of_last c.args.bytes.now _ c.in-Some.start refl c.in-Some.ensures c.in-None.ensures
