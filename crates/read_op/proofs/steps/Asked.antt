-- A get only reads; and the words that it asks for lie in the image or right behind it.
use Rattle.std.proofs.Common.{◌%◌, ◌^◌, ◌<◌, arith}
use Rattle.image_layout.specs.Places.{IsShape}
use Rattle.image_layout.specs.Volatile.{all_words_of}
use Rattle.op_core.specs.Answers.{IsReading}
use Rattle.world.specs.Wants.{word_of}
use Rattle.phase.specs.declared.walk.Walk.TheVariants as walk
use Rattle.phase.proofs.asking.Asking.{bucket_within, walk_within, back_within}
use Rattle.read_op.specs.declared.step.ReadStep.{ReadStep}
use Rattle.read_op.specs.declared.step.ReadStep.TheVariants.{Way, Look, Fill, Count, Check, Relook, Ended}
use Rattle.read_op.specs.declared.step.Task.{Task}
use Rattle.phase.specs.Places.{bucket_of_role}
use Rattle.read_op.specs.Steps.{wanted_in}
use Rattle.read_op.specs.Budget.{AsksWithin}
use Rattle.read_op.specs.Causes.{ReadsAlone}
use Rattle.phase.proofs.locks.Giving.{bucket_near}

-- ---- loads alone
reads_in : (task : Task) (s : ReadStep) → IsReading (wanted_in task s)
reads_in task (Way walk.Power) = tt
reads_in task (Way walk.Root) = tt
reads_in task (Way (walk.Entry root)) = tt
reads_in task (Way (walk.Head root segment)) = tt
reads_in task (Look s p) = tt
reads_in task (Fill s p load) = tt
reads_in task (Count s) = tt
reads_in task (Check s placed at) = tt
reads_in task (Relook s placed p) = tt
reads_in task (Ended end) = tt

pub reads_alone : ReadsAlone
reads_alone op = reads_in op.task op.step

-- ---- words of the image
module _ (task : Task) (is : IsShape task.site.geometry) (fits : task.hash < 2 ^ 64) where
  within_in : (s : ReadStep) → word_of task.site.geometry (wanted_in task s) < all_words_of task.site.geometry
  within_in (Way w) = walk_within task.site task.hash is fits w
  within_in (Look s p) = let low = bucket_within task.site.geometry is s.path.segment (bucket_of_role task.hash p) 0 (bucket_near task.hash p) (omega arith) in omega (arith, low)
  within_in (Fill s p load) =
      let low = bucket_within task.site.geometry is s.path.segment (bucket_of_role task.hash p) (load.next % 32) (bucket_near task.hash p) (omega arith) in omega (arith, low)
  within_in (Count s) = omega arith
  within_in (Check s placed at) = let low = back_within task.site task.hash is fits s.path at in omega (arith, low)
  within_in (Relook s placed p) = let low = bucket_within task.site.geometry is s.path.segment (bucket_of_role task.hash p) 0 (bucket_near task.hash p) (omega arith) in omega (arith, low)
  within_in (Ended end) = omega arith

pub asks_within : AsksWithin
asks_within op is fits = within_in op.task is fits op.step
