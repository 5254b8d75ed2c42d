-- Its three records are those of the words of the two buckets.
use Rattle.std.proofs.Common.{◌≡◌, ℕ, List, ap, ◌∙◌}
use Rattle.phase.specs.declared.make.Record.{Record}
use Rattle.phase.specs.Buckets.{words_in}
use Rattle.move_op.specs.declared.step.Direction.{Direction}
use Rattle.move_op.specs.declared.step.Shift.{Shift}
use Rattle.move_op.specs.Shifts.{source_of, target_of, copied, cleared, placed}
use Rattle.move_op.proofs.shift.shift_at.Goals as goal

-- a shift of these records
abbrev shift_of : Direction → Record → Record → Record → Shift
shift_of d copy clearing insert = record { direction = d; copy = copy; clearing = clearing; insert = insert }

pub returns : goal.returns
returns c =
    let kept = c.args.kept.now in
    let d = c.args.direction in
    let from = c.args.from in
    let to = c.args.to in
    let source : c.of-source.result ≡ words_in kept.buckets (source_of d) = c.of-source.ensures ∙ ap (words_in kept.buckets) c.source_of.ensures in
    let target : c.of-target.result ≡ words_in kept.buckets (target_of d) = c.of-target.ensures ∙ ap (words_in kept.buckets) c.target_of.ensures in
    let copy : c.copied.result ≡ copied d (words_in kept.buckets (source_of d)) from (words_in kept.buckets (target_of d)) to =
    c.copied.ensures ∙ ap (λ (s : List ℕ). copied d s from c.of-target.result to) source ∙ ap (λ (t : List ℕ). copied d (words_in kept.buckets (source_of d)) from t to) target in
    let clearing : c.cleared.result ≡ cleared (words_in kept.buckets (source_of d)) from = c.cleared.ensures ∙ ap (λ (s : List ℕ). cleared s from) source in
    let insert : c.placed.result ≡ placed d kept (words_in kept.buckets (source_of d)) from = c.placed.ensures ∙ ap (λ (s : List ℕ). placed d kept s from) source in
    ap (λ (r : Record). shift_of d r c.cleared.result c.placed.result) copy
    ∙ ap (λ (r : Record). shift_of d (copied d (words_in kept.buckets (source_of d)) from (words_in kept.buckets (target_of d)) to) r c.placed.result) clearing
    ∙ ap (λ (r : Record). shift_of d (copied d (words_in kept.buckets (source_of d)) from (words_in kept.buckets (target_of d)) to) (cleared (words_in kept.buckets (source_of d)) from) r) insert
