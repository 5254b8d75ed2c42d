-- By what the two tests say of the words of the four buckets.
use Rattle.std.proofs.Common.{◌≡◌, ◌∙◌, ◌↔◌, ◌⊎◌, ℕ, Bool, true, false, IsTrue, subst, sym}
use Rattle.std.proofs.lemmas.Bool.{false≢true}
use Rattle.bucket_meta.specs.Slots.{IsFull, HasOnlyMembers, HasNoMembers}
use Rattle.hash_word.specs.Hash.{probing_of, next_of, previous_of}
use Rattle.whole_segment.specs.Records.{first_in}
use Rattle.whole_segment.specs.Room.{NothingMoves}
use Rattle.whole_segment.proofs.loaded.Loaded.has_none_to_move.Goals as goal

-- what is said of two words is said of the buckets that have them
said_of : (P Q : ℕ → Type 0) (first : ℕ → ℕ) (b c w u : ℕ) (found : Bool) → w ≡ first b → u ≡ first c → (IsTrue found ↔ P w ⊎ Q u) → (IsTrue found ↔ P (first b) ⊎ Q (first c))
said_of P Q first b c w u found of_b of_c says = subst (λ (v : ℕ). IsTrue found ↔ P v ⊎ Q (first c)) of_b (subst (λ (v : ℕ). IsTrue found ↔ P w ⊎ Q v) of_c says)

not_on : (first : ℕ → ℕ) (home : ℕ) (on : Bool) → (IsTrue on ↔ HasOnlyMembers (first (probing_of home)) ⊎ IsFull (first (next_of home))) → on ≡ false → IsTrue on ↔ NothingMoves first home
not_on first home on says is_not = (λ is. absurd (false≢true (sym is_not ∙ is)), λ moves. says.1 moves.forward)

if_back : (first : ℕ → ℕ) (home : ℕ) (on back : Bool) → (IsTrue on ↔ HasOnlyMembers (first (probing_of home)) ⊎ IsFull (first (next_of home)))
    → (IsTrue back ↔ HasNoMembers (first home) ⊎ IsFull (first (previous_of home))) → on ≡ true → IsTrue back ↔ NothingMoves first home
if_back first home on back says says_back is = (λ free. record { forward = says.0 is; backward = says_back.0 free }, λ moves. says_back.1 moves.backward)

pub returns-else-none_moves_on : goal.returns-else-none_moves_on
returns-else-none_moves_on c =
    let first = first_in c.args.self.now in
    let home = c.args.home in
    not_on first home _ (said_of HasOnlyMembers IsFull first (probing_of home) (next_of home) c.mark.result c.mark-2.result c.none_moves_on.result (cc) (cc) c.none_moves_on.ensures) c.if-none_moves_on.false

pub returns-then-none_moves_on : goal.returns-then-none_moves_on
returns-then-none_moves_on c =
    let first = first_in c.args.self.now in
    let home = c.args.home in
    if_back first home _ _ (said_of HasOnlyMembers IsFull first (probing_of home) (next_of home) c.mark.result c.mark-2.result c.none_moves_on.result (cc) (cc) c.none_moves_on.ensures)
    (said_of HasNoMembers IsFull first home (previous_of home) c.mark-then-none_moves_on.result c.mark-then-none_moves_on-2.result c.none_moves_back.result (cc) (cc) c.none_moves_back.ensures) c.if-none_moves_on.true
