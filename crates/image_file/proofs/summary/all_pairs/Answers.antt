-- A record slot more adds its pair, if it is the first of its key.
use Rattle.std.proofs.Common.{◌≡◌, ℕ, ◌+◌, ◌*◌, ◌<◌, ◌++◌, ◌∷◌, [], List, ◌∙◌, refl, sym, ap, subst, arith, slice_index, Vec, Global}
use Rattle.image_rules.specs.Own.{pair_at}
use Rattle.image_file.specs.Pairs.{ArePairsBelow}
use Rattle.image_file.proofs.Listed.{none_below, one_added, one_skipped}
use Rattle.image_file.proofs.summary.all_pairs.Goals as goal
use Rattle.image_file.proofs.summary.all_pairs.Goals.{then-is_first_at+in_ok-push, else-is_first_at}

pub loop-n-init : goal.loop-n-init
loop-n-init c =
    subst (λ (xs : List (ℕ × ℕ)). ArePairsBelow c.args.geometry.now (slice_index c.args.words.now) 0 xs) (sym c.new-pairs.ensures.items)
    (none_below c.args.geometry.now (slice_index c.args.words.now))

pub loop-n-preserved : goal.loop-n-preserved
loop-n-preserved c =
    let shape = c.args.geometry.now in
    let word = slice_index c.args.words.now in
    let below : c.loop-n.n < 924 * shape.segments = omega (arith, c.loop-n-test.true, c.segments-n-end.ensures.is) in
    elim c.if-is_first_at.branch [
      | then-is_first_at+in_ok-push w ↦
          let items : c.if-is_first_at.pairs.items ≡ c.loop-n.pairs.items ++ pair_at shape word c.loop-n.n ∷ [] =
          ap (λ (v : Vec (ℕ × ℕ) Global). v.items) w.pairs-is ∙ w.in_ok-push.ensures.items
          ∙ ap (λ (pair : ℕ × ℕ). c.loop-n.pairs.items ++ pair ∷ []) w.pair_at.ensures in
          subst (λ (xs : List (ℕ × ℕ)). ArePairsBelow shape word (c.loop-n.n + 1) xs) (sym items)
          (one_added shape word c.requires.standing c.requires.values c.loop-n.n below c.loop-n.pairs.items c.loop-n.invariant (w.if-is_first_at.ensures.0 refl))
      | else-is_first_at w ↦
          subst (λ (xs : List (ℕ × ℕ)). ArePairsBelow shape word (c.loop-n.n + 1) xs) (sym (ap (λ (v : Vec (ℕ × ℕ) Global). v.items) w.pairs-is))
          (one_skipped shape word c.requires.standing c.requires.values c.loop-n.n below c.loop-n.pairs.items c.loop-n.invariant
          (λ first. absurd (let no = w.if-is_first_at.ensures.1 first in cc)))
    ]
