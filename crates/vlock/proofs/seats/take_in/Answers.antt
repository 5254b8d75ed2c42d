use Rattle.std.proofs.Common.{rules}
use Rattle.vlock.specs.Ruling.{ground_of}
use Rattle.vlock.proofs.Seated.{owes_take}
use Rattle.vlock.proofs.seats.take_in.Goals as goal

pub join_seat-requires : goal.join_seat-requires
join_seat-requires c = (c.requires.table.0, c.requires.other.0, c.requires.other.2, (let e = c.requires.table.1.words in search rules), owes_take (ground_of c.args.image.now.key) _ c.args.seat.now.me.0 _ c.args.other.me.0 c.requires.callers)
