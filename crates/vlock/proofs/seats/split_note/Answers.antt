use Rattle.std.proofs.Common.{rules}
use Rattle.vlock.specs.Ruling.{ground_of}
use Rattle.vlock.proofs.Seated.{owes_note}
use Rattle.vlock.proofs.seats.split_note.Goals as goal

pub split_seat-requires : goal.split_seat-requires
split_seat-requires c = (c.requires.table.0, (let e = c.requires.table.1.words in search rules), owes_note (ground_of c.args.image.now.key) _ c.args.seat.now.me.0)
