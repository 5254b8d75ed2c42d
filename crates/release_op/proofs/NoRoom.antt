-- Where a release decides that its segment is to be split, there is no room in it for the key by the newest words: the locks of all six
-- buckets are still held, so that their words are as they were loaded, and the header is pinned.
use Rattle.std.proofs.Common.{◌≡◌, ℕ, ◌+◌, ◌<◌, ◌≤◌, true, None, List, sym, ap, ◌∙◌, subst, arith, slice_index}
use Rattle.std.proofs.lemmas.Option.{none-some}
use Rattle.bucket_meta.specs.Slots.{IsFull}
use Rattle.bucket_meta.proofs.Found.{none_free}
use Rattle.trace.specs.Events.{Words}
use Rattle.image_layout.specs.Places.{bucket_at}
use Rattle.sound_image.specs.Records.{key_hash}
use Rattle.way.specs.Ways.{is_leading}
use Rattle.map_model.specs.declared.call.Call.{Call}
use Rattle.map_model.specs.Map.{key_of}
use Rattle.map_model.specs.Changes.{call_of}
use Rattle.world.specs.declared.site.Site.{Site}
use Rattle.world.specs.Ground.{Ground}
use Rattle.world.specs.Views.{View}
use Rattle.world.specs.Conditions.{IsNewest}
use Rattle.world.specs.Holders.{KnowsBucket}
use Rattle.world.proofs.calls.deeds.Calls.{newest_without}
use Rattle.part.specs.Outcomes.{need_split}
use Rattle.part.specs.Part.{next}
use Rattle.part.specs.Room.{NothingMoves, HasNoRoom}
use Rattle.phase.specs.declared.role.Role.{Role}
use Rattle.phase.specs.declared.role.Role.TheVariants.{Home, Probing, First, Second, Next, Previous}
use Rattle.phase.specs.declared.kept.Kept.{Kept}
use Rattle.phase.specs.Buckets.{words_in}
use Rattle.phase.specs.Giving.{IsHeld}
use Rattle.phase.specs.Keeps.{kept_words, KeepsAll, KeepsFull}
use Rattle.phase.specs.Places.{bucket_of_role}
use Rattle.phase.specs.Third.{NothingToMove}
use Rattle.phase.proofs.Handing.{key_called, none_loose}
use Rattle.phase.proofs.locks.Giving.{lock_at}
use Rattle.phase.proofs.locks.Finding.{words_stand, holders_find}
use Rattle.release_op.specs.declared.op.ReleaseStep.{ReleaseStep}
use Rattle.release_op.specs.declared.op.ReleaseStep.TheVariants.{Begin, Give, Ended}
use Rattle.release_op.specs.ReleasePart.{outcome_at, ReleaseStands, RemembersAt, release_part}
use Rattle.release_op.specs.Split.{NeedsSplitNow}
use Rattle.release_op.proofs.ReleaseIsPart.{no_areas}
use Rattle.release_op.proofs.Ends.{no_other_at}

-- nothing can be moved by equal words
same_moves : (a b c d w x y z : ℕ) → a ≡ w → b ≡ x → c ≡ y → d ≡ z → NothingMoves w x y z → NothingMoves a b c d
same_moves a b c d w x y z wa xb yc zd moves =
    subst (λ m. NothingMoves m b c d) (sym wa) (subst (λ m. NothingMoves w m c d) (sym xb) (subst (λ m. NothingMoves w x m d) (sym yc) (subst (λ m. NothingMoves w x y m) (sym zd) moves)))

module _ (site : Ground) (kept : Kept) (v : View) (all : KeepsFull site kept v) where
  abbrev keeps : KeepsAll site kept v
  keeps = all.keeps

  abbrev at : Role → ℕ
  at place = bucket_at site.shape kept.segment (bucket_of_role kept.hash place)

  -- a word of a bucket stands where its lock word does
  pub word_here : (place : Role) (j : ℕ) → 1 ≤ j → j < 32 → kept_words kept (at place + j) ≡ slice_index (words_in kept.buckets place) j
  word_here place j from low =
      ap (λ l. kept_words kept (l + j)) (sym (lock_at site kept.site kept.hash kept.segment keeps.holds.located place))
      ∙ words_stand site kept.site kept.hash kept.segment kept.buckets place keeps.holds.located j from low

  bucket : (place : Role) → IsHeld kept.held place → KnowsBucket site.shape v kept.segment (bucket_of_role kept.hash place) (kept_words kept)
  bucket place held = holders_find.bucket site kept.site kept.hash kept.segment kept.held (kept_words kept) kept.change.key v keeps.holds (none_loose v keeps.quiet) place held

  module _ (words : Words) (new : IsNewest site v words) where
    -- and is the newest one where the bucket's lock is held
    meta_is : (place : Role) → IsHeld kept.held place → words (at place + 1) ≡ slice_index (words_in kept.buckets place) 1
    meta_is place held =
        new.knows (at place + 1) (kept_words kept (at place + 1)) ((bucket place held).words (at place + 1) (omega arith, omega arith)).known
        ∙ word_here place 1 (omega arith) (omega arith)

    full_now : (place : Role) → IsHeld kept.held place → IsFull (slice_index (words_in kept.buckets place) 1) → IsFull (words (at place + 1))
    full_now place held full = subst IsFull (sym (meta_is place held)) full

    no_room_now : (loads : List (ℕ × ℕ)) → NothingToMove kept loads → HasNoRoom site.shape words kept.segment kept.hash
    no_room_now loads nothing = record {
      leads = subst (λ head. is_leading head kept.hash ≡ true) (sym (new.pinned kept.segment kept.head keeps.pinned)) keeps.leads;
      home_full = full_now Home keeps.holds.home (none_free (slice_index kept.buckets.home 1) keeps.home);
      probing_full = full_now Probing keeps.holds.probing (none_free (slice_index kept.buckets.probing 1) keeps.probing);
      moves = same_moves _ _ _ _ _ _ _ _ (meta_is Home keeps.holds.home) (meta_is Probing keeps.holds.probing) (meta_is Next all.thirds.next) (meta_is Previous all.thirds.previous) nothing.moves;
      first_full = full_now First all.first.held (none_free (slice_index kept.buckets.first 1) all.first.full);
      second_full = full_now Second all.second.held (none_free (slice_index kept.buckets.second 1) all.second.full);
    }

-- ---- by the step
module _ (site : Ground) (here : Site) (call : Call) (kept : Kept) (v : View) (words : Words) (new : IsNewest site v words) (loads : List (ℕ × ℕ)) where
  hash_is : KeepsAll site kept v → call_of kept.change ≡ call → kept.hash ≡ key_hash site.shape (key_of call)
  hash_is keeps same = keeps.holds.hashed ∙ ap (key_hash site.shape) (sym (key_called kept.change) ∙ ap key_of same)

  no_room_at : (s : ReleaseStep) → ReleaseStands site here call (record { kept = kept; step = s }) v → RemembersAt site kept loads s → outcome_at kept s ≡ None
      → HasNoRoom site.shape words kept.segment (key_hash site.shape (key_of call))
  no_room_at Begin st r none = subst (λ h. HasNoRoom site.shape words kept.segment h) (hash_is st.view.keeps st.may.same) (no_room_now site kept v st.view words new loads r.1)
  no_room_at (Give held) st r none = absurd (none-some (need_split kept.segment) (sym none))
  no_room_at Ended st r none = absurd (none-some (need_split kept.segment) (sym none))

pub needs_split_now : NeedsSplitNow
needs_split_now site here call words views j op before v did h at s r asks none segment some =
    let told : need_split segment ≡ need_split op.kept.segment = no_other_at op.kept (next release_part site words op).step (need_split segment) some in
    let same : op.kept.segment ≡ segment = cc in
    subst (λ t. HasNoRoom site.shape words t (key_hash site.shape (key_of call))) same
    (no_room_at site here call op.kept v words (newest_without site words views j v h at (no_areas site here call op.kept op.step v s.stands)) did.loads op.step s.stands r none)
