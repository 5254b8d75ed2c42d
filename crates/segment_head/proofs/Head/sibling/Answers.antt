-- A hash has the side's pattern exactly where it has the head's, and then a 1.
use Rattle.std.proofs.Common.{ℕ, ◌+◌, ◌≡◌, ◌↔◌, sym, subst, rules, arith}
use Rattle.hash_word.specs.Hash.{Covers}
use Rattle.segment_head.specs.Sides.{CoversHash, next_bit}
use Rattle.segment_head.proofs.Tops.{one_more_bit}
use Rattle.segment_head.proofs.Head.sibling.Goals as goal

pub returns-clause-covers : goal.returns-clause-covers
returns-clause-covers c h fits =
    let head = c.args.self.now in
    subst (λ (depth : ℕ). Covers depth c.pattern_of_one_side.result h ↔ (CoversHash head h × (next_bit head.depth h ≡ 1))) (sym c.depth_of_sides.ensures)
    (subst (λ (pattern : ℕ). Covers (head.depth + 1) pattern h ↔ (CoversHash head h × (next_bit head.depth h ≡ 1))) (sym c.pattern_of_one_side.ensures)
    (one_more_bit head.depth head.pattern h (omega arith)))

pub returns-clause-fields : goal.returns-clause-fields
returns-clause-fields c = search rules
