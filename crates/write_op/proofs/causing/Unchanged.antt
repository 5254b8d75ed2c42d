-- An attempt has not changed the words on its way, nor a lock word that it does not hold.
use Rattle.std.proofs.Common.{◌≡◌, ℕ, ◌+◌, ◌^◌, ◌<◌, ◌≤◌, Bool, true, false, None, List, inl, inr, refl, sym, ap, ◌∙◌, arith}
use Rattle.std.specs.Prelude.{nat_le, nat_lt, if◌then◌else◌}
use Rattle.std.proofs.lemmas.Bool.{ltb-true}
use Rattle.std.proofs.lemmas.Option.{none-some}
use Rattle.hash_word.specs.Hash.{index_of}
use Rattle.image_layout.specs.Places.{Shape, root_word, entry_at, head_at, bucket_at}
use Rattle.image_layout.proofs.Areas.{entry_before}
use Rattle.way.proofs.Indexes.{index_below}
use Rattle.bucket_words.specs.Owners.{IsStructure}
use Rattle.bucket_words.proofs.segments.Places.{not_structure}
use Rattle.world.specs.Views.{Has}
use Rattle.phase.specs.declared.role.Role.{Role}
use Rattle.phase.specs.declared.back.Back.{Back}
use Rattle.phase.specs.declared.back.Back.TheVariants as back
use Rattle.phase.specs.Places.{bucket_of_role}
use Rattle.phase.specs.Backs.{back_word}
use Rattle.phase.specs.Helds.{free_of}
use Rattle.phase.specs.Keeps.{ChangedLocks}
use Rattle.phase.specs.Causes.{WasFound}
use Rattle.phase.proofs.locks.Giving.{bucket_near, lock_is, one_lock_word}
use Rattle.write_op.specs.declared.step.Task.{Task}
use Rattle.write_op.specs.declared.step.Seen.{Seen}
use Rattle.write_op.specs.Steps.{lock_of, kept_in}

-- words on the way are words of the structure
module _ (shape : Shape) (few : shape.depth ≤ 16) (hash : ℕ) (fits : hash < 2 ^ 64) where
  entry_structure : (root : ℕ) → root ≤ shape.depth → (b : Bool) → IsStructure shape (if b then entry_at root (index_of root hash) else root_word)
  entry_structure root low true = inl (entry_before shape root (index_of root hash) low (index_below root hash (omega (arith, low, few)) fits))
  entry_structure root low false = inl (omega arith)

  head_structure : (segment : ℕ) (b : Bool) → nat_lt segment shape.segments ≡ b → IsStructure shape (if b then head_at shape segment + 1 else root_word)
  head_structure segment true low = inr (segment, 1, ltb-true segment shape.segments low, omega arith, refl)
  head_structure segment false low = inl (omega arith)

module _ (task : Task) (seen : Seen) (loads : List (ℕ × ℕ)) (path : WasFound task.site task.hash loads seen.path) (changed : List ℕ) where
  abbrev g : Shape
  g = task.site.geometry

  -- which the locks of buckets are not
  module _ (few : g.depth ≤ 16) (fits : task.hash < 2 ^ 64) where
    back_structure : (at : Back) → IsStructure g (back_word task.site task.hash seen.path at)
    back_structure back.Root = inl (omega arith)
    back_structure back.Entry = entry_structure g few task.hash fits seen.path.root path.0.0.1 (nat_le seen.path.root g.depth)
    back_structure back.Head = head_structure g few task.hash fits seen.path.segment (nat_lt seen.path.segment g.segments) refl

    pub back_unchanged : (at : Back) → ChangedLocks (kept_in task seen) changed → Has (back_word task.site task.hash seen.path at) changed → ⊥
    back_unchanged at locks has =
        let was = locks (back_word task.site task.hash seen.path at) has in
        let at_bucket : back_word task.site task.hash seen.path at ≡ bucket_at g seen.path.segment (bucket_of_role task.hash was.0) = was.2 ∙ lock_is task.site task.hash seen.path.segment path.0.2 was.0 in
        not_structure g seen.path.segment (bucket_of_role task.hash was.0) 0 (back_word task.site task.hash seen.path at) (bucket_near task.hash was.0) (omega arith) (omega (arith, at_bucket)) (back_structure at)

  -- nor is one that is not held one of those that are
  pub lock_unchanged : (place : Role) → free_of seen.held place ≡ None → ChangedLocks (kept_in task seen) changed → Has (lock_of task seen place) changed → ⊥
  lock_unchanged place out locks has =
      let was = locks (lock_of task seen place) has in
      none-some _ (sym out ∙ ap (free_of seen.held) (one_lock_word task.site task.hash seen.path.segment path.0.2 place was.0 was.2) ∙ was.1.1)
