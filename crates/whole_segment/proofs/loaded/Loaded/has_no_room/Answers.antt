-- The home is that of the hash.
use Rattle.std.proofs.Common.{ℕ, sym, subst}
use Rattle.hash_word.specs.Hash.{home_of}
use Rattle.whole_segment.specs.Records.{first_in}
use Rattle.whole_segment.specs.Room.{IsCrowded, NothingMoves, HasNoRoom, has_no_room}
use Rattle.whole_segment.proofs.Telling.{Tells, same_test, tells_room}
use Rattle.whole_segment.proofs.loaded.Loaded.has_no_room.Goals as goal

pub returns-then-is_crowded-clause-room : goal.returns-then-is_crowded-clause-room
returns-then-is_crowded-clause-room c =
    let P : ℕ → Type 0 = IsCrowded (first_in c.args.self.now) in
    let Q : ℕ → Type 0 = NothingMoves (first_in c.args.self.now) in
    let home_is = c.home-then-is_crowded.ensures.of in (
      λ yes. record {
        crowded = subst P c.home.ensures.of (c.is_crowded.ensures.0 c.if-is_crowded.true);
        moves = subst Q home_is (c.has_none_to_move.ensures.0 yes);
      },
      λ room. c.has_none_to_move.ensures.1 (subst Q (sym home_is) room.moves),
    )

pub returns-then-is_crowded-clause-is : goal.returns-then-is_crowded-clause-is
returns-then-is_crowded-clause-is c =
    let first : ℕ → ℕ = first_in c.args.self.now in
    let home = home_of c.args.h in
    same_test c.has_none_to_move.result (has_no_room first home) (HasNoRoom first home) (returns-then-is_crowded-clause-room c) (tells_room first home)

pub returns-else-is_crowded-clause-is : goal.returns-else-is_crowded-clause-is
returns-else-is_crowded-clause-is c =
    let first : ℕ → ℕ = first_in c.args.self.now in
    let home = home_of c.args.h in
    let P : ℕ → Type 0 = IsCrowded first in
    let none : Tells c.is_crowded.result (HasNoRoom first home) = (
      λ yes. absurd (let not = c.if-is_crowded.false in cc),
      λ room. c.is_crowded.ensures.1 (subst P (sym c.home.ensures.of) room.crowded),
    ) in
    same_test c.is_crowded.result (has_no_room first home) (HasNoRoom first home) none (tells_room first home)
