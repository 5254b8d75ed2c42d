-- A stale segment gets the image's version, once it is in order by what its holder knows.
use Rattle.std.proofs.Common.{◌≡◌, ℕ, ◌+◌, ◌%◌, ◌^◌, ◌<◌, ◌≤◌, sym, ap, subst, ◌∙◌, arith}
use Rattle.hash_word.specs.Hash.{Covers}
use Rattle.segment_head.specs.HeadWord.{version_in, state_in, depth_in, pattern_in, normal}
use Rattle.trace.specs.Events.{Words, with_word}
use Rattle.trace.proofs.Replaced.{replaced_same, replaced_other}
use Rattle.image_layout.specs.Places.{Shape, bucket_at, homes, state_word}
use Rattle.sound_image.specs.Segments.{frame_of, image_version}
use Rattle.sound_image.specs.Records.{key_hash, HasExactNotes}
use Rattle.frame_facts.specs.Stores.{Renews, StoreKeeps}
use Rattle.frame_facts.proofs.StoreLaws.{renews as version_kept}
use Rattle.frame_facts.specs.Hits.{Hit}
use Rattle.frame_facts.specs.Copies.{IsNoBucketWord}
use Rattle.frame_facts.specs.DeadSlots.{IsInSlot}
use Rattle.frame_facts.proofs.Records.{structure_apart}
use Rattle.frame_facts.proofs.Stores.{renewed}
use Rattle.world.specs.Ground.{Ground, IsGround, IsStructured, version_of}
use Rattle.world.specs.Views.{View}
use Rattle.world.specs.areas.Areas.{header_word}
use Rattle.world.specs.areas.Rows.{IsRow, renews}
use Rattle.world.specs.areas.Kinds.{moves}
use Rattle.world.specs.areas.Asking.{MayBeNewest, MayStandBeside, IsHarmlessStore, ends_by, BringsInOrder, KnowsFree, IsFirmIn, MayAt}
use Rattle.world.specs.areas.Splitting.{KnowsBuckets, IsHeader}
use Rattle.world.specs.areas.Repairing.{HasStale, head_now}
use Rattle.world.proofs.basics.Structures.{header_is}
use Rattle.world.proofs.holders.filling.Known.{both_sound, known_there}
use Rattle.world.proofs.holders.publishing.Shown.{HasBuckets, shown_now, shown_buckets}
use Rattle.world.proofs.holders.publishing.Opening.{in_order_by}
use Rattle.world.proofs.holders.directing.Known.{kept_all}
use Rattle.world.proofs.holders.directing.Ending.{head_far}

module _ (site : Ground) (ground : IsGround site) (v : View) (s x : ℕ) (word : Words) (mine : HasStale site v s word) (is : state_in (head_now site s word) ≡ normal)
    (known : KnowsBuckets site.shape v s word) (free : KnowsFree site v s) (firm : IsFirmIn v (IsInSlot site.shape s))
    (own : (c r k : ℕ) → Hit site.shape word s c r k → Covers (depth_in (head_now site s word)) (pattern_in (head_now site s word)) (key_hash site.shape k))
    (once : (c r e t k : ℕ) → Hit site.shape word s c r k → Hit site.shape word s e t k → (c ≡ e) × (r ≡ t))
    (exact : (c : ℕ) → c < homes → HasExactNotes site.shape word s c)
    (becomes : IsHeader x normal (depth_in (head_now site s word)) (pattern_in (head_now site s word)) (version_of site)) where
  abbrev shape : Shape
  shape = site.shape

  abbrev i : ℕ
  i = header_word shape s

  apart : IsNoBucketWord shape i
  apart = structure_apart shape i (header_is shape s mine.slot)

  -- ---- in words that have the known header
  module _ (us : Words) (structure : IsStructured site us) (header : us i ≡ word i) where
    version : version_in x ≡ image_version (frame_of shape us)
    version = becomes.version_is ∙ ap (λ (z : ℕ). z % 2 ^ 8) (sym (structure.fixed state_word (omega arith) (λ e. omega (arith, e))))

    renews_there : Renews (frame_of shape us) s x
    renews_there = record {
      slot = mine.slot;
      becomes = becomes.state_is ∙ sym is ∙ ap state_in (sym header);
      region = record { depth = becomes.depth_is ∙ ap depth_in (sym header); pattern = becomes.pattern_is ∙ ap pattern_in (sym header) };
      past = most (version_in x) (image_version (frame_of shape us)) version;
    }
      where
        most : (a b : ℕ) → a ≡ b → a ≤ b
        most a b e = omega (arith, e)

    row : IsRow site us renews s x
    row = (renews_there, ap state_in header ∙ is, becomes.version_is)

    keeps : StoreKeeps shape us i x
    keeps = version_kept shape us ground.shape structure.sound s x renews_there

  -- ---- in the newest words, and in a medium beside them
  head_there : (words : Words) → MayBeNewest site v words → words i ≡ word i
  head_there words new = new.knows i (word i) mine.header.known

  row_now : (words : Words) → MayBeNewest site v words → IsRow site words renews s x
  row_now words new = row words new.structure (head_there words new)

  row_there : (words medium : Words) → MayBeNewest site v words → MayStandBeside site v words medium → IsRow site medium renews s x
  row_there words medium new side = row medium side.structure (known_there site ground v words medium new side i (word i) mine.header)

  harmless : IsHarmlessStore site v (ends_by site renews s) i x
  harmless words medium new side =
      let here = row_now words new in
      let other = row_there words medium new side in
      kept_all site ground words medium (ends_by site renews s medium) i x side.structure side.table (head_far shape s) apart
      (version_kept shape medium ground.shape side.structure.sound s x other.0)
      (renewed shape (version_of site) words medium (both_sound site ground v words medium new side) s x (here.0, other.0) ((λ _. becomes.version_is), (λ _. becomes.version_is)))

  -- once the segment has the version, others may lock its buckets: it is in order
  in_order : BringsInOrder site v s i x
  in_order words new = in_order_by site ground (with_word words i x) (keeps words new.structure (head_there words new)).goes_on.sound s x word mine.slot
      (replaced_same words i x) becomes.state_is same covered once exact
    where
      same : HasBuckets shape word (with_word words i x) s
      same b m near from inside = replaced_other words i x (bucket_at shape s b + m) (apart s b m mine.slot near inside)
          ∙ shown_buckets shape v word words s (shown_now site v words new) known b m near from inside

      covered : (c r k : ℕ) → Hit shape word s c r k → Covers (depth_in x) (pattern_in x) (key_hash shape k)
      covered c r k hit = subst (λ (d : ℕ). Covers d (pattern_in x) (key_hash shape k)) (sym becomes.depth_is)
          (subst (λ (p : ℕ). Covers (depth_in (head_now site s word)) p (key_hash shape k)) (sym becomes.pattern_is) (own c r k hit))

  pub renew : MayAt site (moves renews s x) v
  renew = ((λ words new. (row_now words new, mine.stale)), mine.holder.planned, harmless, (firm, free, in_order), row_there)
