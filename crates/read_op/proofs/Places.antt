-- The words that are watched, and the values that are kept of them.
use Rattle.std.proofs.Common.{◌≡◌, ◌⊎◌, ℕ, ◌+◌, ◌*◌, ◌<◌, inl, inr, refl, sym, ap, ◌∙◌, arith}
use Rattle.std.specs.Prelude.{if◌then◌else◌}
use Rattle.std.proofs.lemmas.Bool.{lt-ltb, cases_eq}
use Rattle.image_layout.specs.Places.{root_word, head_at, bucket_at}
use Rattle.way.specs.Ways.{head_word}
use Rattle.phase.specs.declared.role.Role.{Role}
use Rattle.phase.specs.declared.role.Role.TheVariants.{Home, Probing, First, Second, Next, Previous}
use Rattle.phase.specs.Places.{bucket_of_role}
use Rattle.phase.specs.Asked.{index}
use Rattle.phase.proofs.asking.Asked.{one_place}
use Rattle.phase.proofs.locks.Giving as giving
use Rattle.read_op.specs.declared.step.Seen.{Seen}
use Rattle.read_op.specs.declared.step.Task.{Task}
use Rattle.read_op.specs.Places.{free_at}
use Rattle.read_op.specs.Steps.{with_free, lock_of}
use Rattle.read_op.specs.Fits.{Watched, at_head, at_bucket, watched_word, watched_value, IsNoted, rank}

-- ---- lock words
pub lock_is : (task : Task) (s : Seen) (q : Role) → s.path.segment < task.site.geometry.segments
    → lock_of task s q ≡ bucket_at task.site.geometry s.path.segment (bucket_of_role task.hash q)
lock_is task s q within = giving.lock_is task.site task.hash s.path.segment within q

pub locks_apart : (task : Task) (s : Seen) (p q : Role) → s.path.segment < task.site.geometry.segments → lock_of task s p ≡ lock_of task s q → p ≡ q
locks_apart task s p q within e = giving.one_lock_word task.site task.hash s.path.segment within p q e

-- ---- words that are watched
head_is : (task : Task) (s : Seen) → s.path.segment < task.site.geometry.segments → head_word task.site.geometry s.path.segment ≡ head_at task.site.geometry s.path.segment + 1
head_is task s within = ap (λ b. if b then head_at task.site.geometry s.path.segment + 1 else root_word) (lt-ltb s.path.segment task.site.geometry.segments within)

-- the header's word is no lock word of its segment
head_apart : (f b : ℕ) → f + 1 ≡ f + 32 + 32 * b → ⊥
head_apart f b e = omega (arith, e)

head_no_lock : (task : Task) (s : Seen) (q : Role) → s.path.segment < task.site.geometry.segments → head_word task.site.geometry s.path.segment ≡ lock_of task s q → ⊥
head_no_lock task s q within e = head_apart (head_at task.site.geometry s.path.segment) (bucket_of_role task.hash q) (sym (head_is task s within) ∙ e ∙ lock_is task s q within)

pub watched_apart : (task : Task) (s : Seen) (w o : Watched) → s.path.segment < task.site.geometry.segments → watched_word task s w ≡ watched_word task s o → w ≡ o
watched_apart task s at_head at_head within e = refl
watched_apart task s at_head (at_bucket q) within e = absurd (head_no_lock task s q within e)
watched_apart task s (at_bucket p) at_head within e = absurd (head_no_lock task s p within (sym e))
watched_apart task s (at_bucket p) (at_bucket q) within e = ap at_bucket (locks_apart task s p q within e)

one_watched : (w o : Watched) → rank w ≡ rank o → w ≡ o
one_watched at_head at_head e = refl
one_watched at_head (at_bucket q) e = absurd (omega (arith, e))
one_watched (at_bucket p) at_head e = absurd (omega (arith, e))
one_watched (at_bucket p) (at_bucket q) e = ap at_bucket (one_place p q (omega (arith, e)))

pub cases_watched : (w o : Watched) → (w ≡ o) ⊎ (rank w ≡ rank o → ⊥)
cases_watched w o = elim (cases_eq (rank w) (rank o)) [ inl e ↦ inl (one_watched w o e) | inr other ↦ inr other ]

-- ---- free values
pub free_other : (s : Seen) (p q : Role) (n : ℕ) → index q < index p → free_at (with_free s p n).free q ≡ free_at s.free q
free_other s Home q n low = absurd (omega (arith, low))
free_other s Probing Home n low = refl
free_other s Probing q n low = absurd (omega (arith, low))
free_other s First Home n low = refl
free_other s First Probing n low = refl
free_other s First q n low = absurd (omega (arith, low))
free_other s Second Second n low = absurd (omega (arith, low))
free_other s Second Next n low = absurd (omega (arith, low))
free_other s Second Previous n low = absurd (omega (arith, low))
free_other s Second q n low = refl
free_other s Next q n low = refl
free_other s Previous q n low = refl

head_other : (s : Seen) (p : Role) (n : ℕ) → (with_free s p n).path.head ≡ s.path.head
head_other s Home n = refl
head_other s Probing n = refl
head_other s First n = refl
head_other s Second n = refl
head_other s Next n = refl
head_other s Previous n = refl

pub value_other : (s : Seen) (p : Role) (n : ℕ) (w : Watched) → IsNoted s (index p) w → watched_value (with_free s p n) w ≡ watched_value s w
value_other s p n at_head u = head_other s p n
value_other s p n (at_bucket q) u = free_other s p q n u.low
