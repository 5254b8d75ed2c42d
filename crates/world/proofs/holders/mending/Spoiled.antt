-- The store that clears spoiled records of a bucket: whatever was cleared of the other buckets in a medium, a record that stays stands there.
use Rattle.std.proofs.Common.{◌≡◌, ℕ, ◌+◌, ◌*◌, ◌%◌, ◌^◌, ◌<◌, Bool, true, false, Some, inl, inr, sym, ap, subst, ◌∙◌, arith}
use Rattle.hash_word.specs.Hash.{Covers}
use Rattle.bucket_meta.specs.Bucket.{allocated, member, record_slots}
use Rattle.segment_head.specs.HeadWord.{depth_in, pattern_in}
use Rattle.trace.specs.Events.{Words, with_word}
use Rattle.image_layout.specs.Places.{Shape, bucket_at, buckets}
use Rattle.sound_image.specs.Segments.{frame_of}
use Rattle.sound_image.specs.Records.{key_hash}
use Rattle.sound_image.proofs.LowBits.{same_allocated, same_member}
use Rattle.frame_facts.proofs.frames.Owner.{found_owns}
use Rattle.frame_facts.specs.Buckets.{key_in}
use Rattle.frame_facts.specs.Core.{core_of}
use Rattle.frame_facts.specs.Owners.{owner_of}
use Rattle.frame_facts.specs.Hits.{Hit}
use Rattle.frame_facts.specs.TableChanges.{KeepsTable, KeepsOrVacates}
use Rattle.frame_facts.proofs.segments.Cores.{core_in}
use Rattle.frame_facts.proofs.segments.changes.Vacated.{cleared_keeps}
use Rattle.world.specs.Ground.{Ground, IsGround}
use Rattle.world.specs.Views.{View}
use Rattle.world.specs.Holders.{KnowsWord}
use Rattle.world.specs.areas.Areas.{header_word}
use Rattle.world.specs.areas.Kinds.{sets}
use Rattle.world.specs.areas.Asking.{MayBeNewest, MayStandBeside, MayAt}
use Rattle.world.specs.areas.Repairing.{head_now, IsMendable, FreesSpoiled, IsMending}
use Rattle.world.proofs.holders.filling.Known.{known_there}
use Rattle.world.proofs.holders.directing.Clearing.{set_word}
use Rattle.world.proofs.holders.mending.Stale.{holds_bucket}

-- what a word frees its core tells
frees_same : (site : Ground) (s : ℕ) (word : Words) (spoiled : ℕ → ℕ → Bool) (c y z : ℕ) → s < site.shape.segments → c < buckets
    → core_of site.shape (bucket_at site.shape s c + 1) z ≡ core_of site.shape (bucket_at site.shape s c + 1) y → FreesSpoiled site s word spoiled c y → FreesSpoiled site s word spoiled c z
frees_same site s word spoiled c y z slot near same frees = record {
  slots = λ r low. elim (frees.slots r low) [
    | inl e ↦ inl (same_allocated r z y low bits ∙ e.0, same_member r z y low bits ∙ e.1)
    | inr f ↦ inr (same_allocated r z y low bits ∙ f.0, f.1)
  ];
}
  where
    bits : z % 2 ^ 28 ≡ y % 2 ^ 28
    bits = sym (core_in site.shape s c 1 z slot near (omega arith)) ∙ same ∙ core_in site.shape s c 1 y slot near (omega arith)

module _ (site : Ground) (ground : IsGround site) (v : View) (s b x : ℕ) (word : Words) (spoiled : ℕ → ℕ → Bool) (able : IsMendable site s word spoiled)
    (mending : IsMending site s word spoiled v) (near : b < buckets) (first : KnowsWord v (bucket_at site.shape s b + 1) (word (bucket_at site.shape s b + 1)))
    (frees : FreesSpoiled site s word spoiled b x) where
  abbrev shape : Shape
  shape = site.shape

  abbrev at : ℕ
  at = bucket_at shape s b

  module _ (words medium : Words) (new : MayBeNewest site v words) (side : MayStandBeside site v words medium) where
    there : (i y : ℕ) → KnowsWord v i y → medium i ≡ y
    there = known_there site ground v words medium new side

    -- whatever word 1 of a bucket was left as frees spoiled slots alone
    left : (c : ℕ) → c < buckets → FreesSpoiled site s word spoiled c (medium (bucket_at shape s c + 1))
    left c small =
        let i = bucket_at shape s c + 1 in
        let k = mending.first c small in
        elim (side.leaves i (holds_bucket site v s word mending.mine c 1 small (omega arith))) [
          | inl e ↦ frees_same site s word spoiled c k.0 (medium i) mending.mine.slot small (e ∙ ap (core_of shape i) (new.knows i k.0 k.1)) k.2
          | inr l ↦ frees_same site s word spoiled c l.0 (medium i) mending.mine.slot small l.2 (mending.loose c l.0 small l.1)
        ]

    same_key : (c r : ℕ) → c < buckets → r < record_slots → key_in medium (bucket_at shape s c) r ≡ key_in word (bucket_at shape s c) r
    same_key c r small low = subst (λ (z : ℕ). medium z ≡ word z) (place (bucket_at shape s c) r)
        (there (bucket_at shape s c + (4 + 2 * r)) (word (bucket_at shape s c + (4 + 2 * r))) (mending.behind c (4 + 2 * r) small (omega arith) (omega (arith, low))))
      where
        place : (a r : ℕ) → a + (4 + 2 * r) ≡ a + 4 + 2 * r
        place a r = omega arith

    -- a record that is not spoiled stands in the medium
    stays : (c t k : ℕ) → Hit shape word s c t k → spoiled c t ≡ false → Hit shape medium s c t k
    stays c t k hit is = record {
      segment = hit.segment;
      bucket = hit.bucket;
      slot = hit.slot;
      taken = elim ((left c hit.bucket).slots t hit.slot) [ inl e ↦ e.0 ∙ hit.taken | inr f ↦ absurd (both f.1) ];
      key = same_key c t hit.bucket hit.slot ∙ hit.key;
    }
      where
        both : spoiled c t ≡ true → ⊥
        both e = cc

    meta : medium (at + 1) ≡ word (at + 1)
    meta = there (at + 1) (word (at + 1)) first

    -- and x leaves it
    leaves : (c t k : ℕ) → Hit shape word s c t k → spoiled c t ≡ false → c ≡ b → allocated t x ≡ 1
    leaves c t k hit is same = elim (frees.slots t hit.slot) [
      | inl e ↦ e.0 ∙ ap (λ (z : ℕ). allocated t (word (bucket_at shape s z + 1))) (sym same) ∙ hit.taken
      | inr f ↦ absurd (both f.1)
    ]
      where
        both : spoiled b t ≡ true → ⊥
        both e = cc

    -- who owns a hash covers it by the known header
    covers : (h : ℕ) → owner_of shape medium h ≡ Some s → Covers (depth_in (head_now site s word)) (pattern_in (head_now site s word)) h
    covers h own = subst (λ (z : ℕ). Covers (depth_in z) (pattern_in z) h) (there (header_word shape s) (word (header_word shape s)) mending.mine.header)
        (found_owns (frame_of shape medium) h s own).own.covers

    each : (r : ℕ) → r < record_slots → KeepsOrVacates shape medium s b x r
    each r low = elim (frees.slots r low) [
      | inl e ↦ inl (e.0 ∙ ap (allocated r) (sym meta), e.1 ∙ ap (member r) (sym meta))
      | inr f ↦ inr (
        f.0,
        λ taken own. elim (able.why b r near low f.1) [
          | inl foreign ↦ absurd (foreign (subst (λ (k : ℕ). Covers (depth_in (head_now site s word)) (pattern_in (head_now site s word)) (key_hash shape k)) key (covers (key_hash shape (key_in medium at r)) own)))
          | inr o ↦ (
            o.0,
            o.1,
            subst (λ (k : ℕ). Hit shape medium s o.0 o.1 k) (sym key) (stays o.0 o.1 (key_in word at r) o.2 o.3),
            leaves o.0 o.1 (key_in word at r) o.2 o.3,
          )
        ],
      )
    ]
      where
        key : key_in medium at r ≡ key_in word at r
        key = same_key b r near low

    cleared : KeepsTable shape medium (with_word medium (at + 1) x)
    cleared = cleared_keeps shape medium side.table s b x mending.mine.slot near each

  pub mend : MayAt site (sets (at + 1) x) v
  mend = set_word site ground v mending.mine.holder s b mending.mine.slot near (mending.no_sides s) 1 x (omega arith)
      (holds_bucket site v s word mending.mine b 1 near (omega arith)) (omega arith) cleared
