-- An entry names where the way to a claimer begins.
use Rattle.std.proofs.Common.{◌<◌, ap, subst, sym, ◌∙◌}
use Rattle.image_layout.specs.Places.{entry_at}
use Rattle.bucket_words.specs.Segments.{frame_of, depth_at}
use Rattle.frame_facts.proofs.Told.{rooted_told, deep_told, deep_there}
use Rattle.frame_facts.proofs.learning.entries_tell.Goals as goal

pub returns-clause-root : goal.returns-clause-root
returns-clause-root c = rooted_told

pub returns-clause-lives : goal.returns-clause-lives
returns-clause-lives c shape version words medium e i rooted below = rooted.1 i below

pub returns-clause-deep : goal.returns-clause-deep
returns-clause-deep c shape version words medium f i deep = deep_told (frame_of shape medium) f i deep

pub returns-clause-deep_now : goal.returns-clause-deep_now
returns-clause-deep_now c shape version words medium sound steady one s i is header low inside entry deep =
    deep_there shape.depth sound.shape_fits.depth (frame_of shape medium) (frame_of shape words) sound.there sound.newest steady s is header (sym one) i
    (subst (λ r. depth_at (frame_of shape medium) s < r) (sym one) low) inside (entry ∙ ap (λ r. medium (entry_at r i)) (sym one)) deep
