-- What the machines of a call owe each other where one goes on from another, so that those of a change are one part, those of a split
-- another, and those of a repair a third, whose outcomes have their causes.
use Rattle.std.proofs.Common.{◌≡◌, Bool, true, false, None, refl}
use Rattle.map_model.specs.declared.call.Call.{Call}
use Rattle.world.specs.declared.site.Site.{Site}
use Rattle.world.specs.Ground.{Ground, IsGround}
use Rattle.world.specs.Views.{View}
use Rattle.part.specs.Doings.{Doings}
use Rattle.part.specs.Part.{IsPart}
use Rattle.part.specs.Causes.{EndsByCause}
use Rattle.part.specs.Splits.{EndsBySplitCause, segment_of_then}
use Rattle.part.specs.Repairs.{EndsByRepairCause}
use Rattle.part.specs.Then.{Then, first, passed, Passes}
use Rattle.part.proofs.Thens.{then_is_part, then_ends_by_cause}
use Rattle.part.proofs.Splitting.{then_ends_by_split_cause}
use Rattle.part.proofs.Repairing.{then_ends_by_repair_cause}
use Rattle.write_op.specs.Steps.{kept_of}
use Rattle.write_op.specs.ChangePart.{change_part, HandsOnAll as ChangeHands, HandsOnRemembering as ChangeTells}
use Rattle.move_op.specs.MovePart.{move_part, MoveBeginsAsPart as MoveBegins, MoveBeginsRemembering as MoveRemembers, MoveBeginsUndecided as MoveUndecided, MoveHandsOnAll as MoveHands}
use Rattle.stash_op.specs.declared.op.StashOp.{StashOp}
use Rattle.stash_op.specs.Steps.{kept_of as stash_kept}
use Rattle.stash_op.specs.Fits.{StashStands}
use Rattle.stash_op.specs.StashPart.{stash_part, BeginsAsPart as StashBegins, BeginsRemembering as StashRemembers, BeginsUndecided as StashUndecided, HandsOnAll as StashHands, HandsOnRemembering as StashTells}
use Rattle.release_op.specs.ReleasePart.{release_part, BeginsAsPart as ReleaseBegins, BeginsRemembering as ReleaseRemembers, BeginsUndecided as ReleaseUndecided}
use Rattle.enclose_op.specs.EnclosePart.{enclose_part, segment_of as enclosed_segment, HandsOnWhole, HandsOnRemembered}
use Rattle.split_op.specs.Sides.{side_words}
use Rattle.split_op.specs.Steps.{split_of}
use Rattle.split_op.specs.SplitPart.{split_part, segment_of as made_segment, BeginsAsPart as SplitBegins, CopiesSide, BeginsUndecided as SplitUndecided, BeginsRemembering as SplitRemembers, HandsOnCopied}
use Rattle.directory_op.specs.DirectoryPart.{directory_part, segment_of as published_segment, BeginsAsPart as PublishBegins, BeginsUndecided as PublishUndecided, HandsOnSplit}
use Rattle.rest_op.specs.RestPart.{rest_part, segment_of as rest_segment, BeginsAsPart as RestBegins, ReckonsRight, BeginsUndecided as RestUndecided}
use Rattle.repair_op.specs.Finishing.{FinishesCurrent}
use Rattle.repair_op.specs.RepairPart.{repair_part, segment_of as repaired_segment, HandsOnGuarded, HandsOnRemembered as RepairTells}
use Rattle.redirect_op.specs.declared.op.RedirectOp.{RedirectOp}
use Rattle.redirect_op.specs.RedirectPart.{redirect_part, segment_of as redirected_segment, BeginsAsPart as RedirectBegins, BeginsUndecided as RedirectUndecided, BeginsRemembering as RedirectRemembers, HandsOnRedirected}
use Rattle.mend_op.specs.declared.op.MendOp.{MendOp}
use Rattle.mend_op.specs.MendPart.{mend_part, segment_of as mended_segment, BeginsAsPart as MendBegins, BeginsUndecided as MendUndecided}
use Rattle.engine.specs.OpPart.{move_of, stash_of, release_of, stash_or_release, entered, after_move, move_or_more, whole_change, publish_of, rest_after, publish_and_rest, split_and_more, whole_split, split_segment_in, redirect_of, mend_of, redirect_and_mend, after_guard, whole_repair, repaired_segment_in}

-- ---- a change
-- what is used of its machines
pub record ChangeLaws : Type 0 where
  pub change : IsPart change_part
  pub change_causes : EndsByCause change_part
  pub change_hands : ChangeHands
  pub change_tells : ChangeTells
  pub move : IsPart move_part
  pub move_causes : EndsByCause move_part
  pub move_begins : MoveBegins
  pub move_remembers : MoveRemembers
  pub move_undecided : MoveUndecided
  pub move_hands : MoveHands
  pub stash : IsPart stash_part
  pub stash_causes : EndsByCause stash_part
  pub stash_begins : StashBegins
  pub stash_remembers : StashRemembers
  pub stash_undecided : StashUndecided
  pub stash_hands : StashHands
  pub stash_tells : StashTells
  pub release : IsPart release_part
  pub release_causes : EndsByCause release_part
  pub release_begins : ReleaseBegins
  pub release_remembers : ReleaseRemembers
  pub release_undecided : ReleaseUndecided

module _ (laws : ChangeLaws) where
  stash_passes : Passes stash_part release_part release_of
  stash_passes = record {
    stands = λ site here call op v ground s h.
        let k = laws.stash_hands site here call op v s h in
        laws.release_begins site here call (stash_kept op) v (record { same = k.may.whose.same; at = k.may.whose.at; key = k.may.whose.key }) k.full;
    undecided = λ op h. laws.release_undecided (stash_kept op);
    remembers = λ site op did h r. let k = laws.stash_tells site op did h r in laws.release_remembers site (stash_kept op) did k.room k.nothing;
  }

  stash_is_part : IsPart stash_or_release
  stash_is_part = then_is_part stash_part release_part release_of laws.stash laws.stash_causes.undecided laws.release stash_passes

  stash_ends_by_cause : EndsByCause stash_or_release
  stash_ends_by_cause = then_ends_by_cause stash_part release_part release_of stash_passes laws.stash_causes laws.release_causes

  -- where a move hands on, either of the two may be the one that goes on
  entered_stands : (site : Ground) (here : Site) (call : Call) (op : StashOp) (v : View) → IsGround site → StashStands site here call op v → (t : Bool) → stash_part.hands_on op ≡ t
      → stash_or_release.Stands site here call (entered t op) v
  entered_stands site here call op v ground s true h = stash_passes.stands site here call op v ground s h
  entered_stands site here call op v ground s false h = record { stands = s; closed = h }

  entered_undecided : (op : StashOp) → stash_part.outcome op ≡ None → (t : Bool) → stash_or_release.outcome (entered t op) ≡ None
  entered_undecided op none true = laws.release_undecided (stash_kept op)
  entered_undecided op none false = none

  entered_remembers : (site : Ground) (op : StashOp) (did : Doings) → stash_part.Remembers site op did → (t : Bool) → stash_part.hands_on op ≡ t
      → stash_or_release.Remembers site (entered t op) did
  entered_remembers site op did r true h = stash_passes.remembers site op did h r
  entered_remembers site op did r false h = r

  move_passes : Passes move_part stash_or_release after_move
  move_passes = record {
    stands = λ site here call op v ground s h.
        let k = laws.move_hands.keeps site here call op v s h in
        let may = k.0 in
        entered_stands site here call (stash_of op) v ground
        (laws.stash_begins site here call op.kept v
        (record { whose = may; thirds = k.2 }) k.1) (stash_part.hands_on (stash_of op)) refl;
    undecided = λ op h. entered_undecided (stash_of op) (laws.stash_undecided op.kept) (stash_part.hands_on (stash_of op));
    remembers = λ site op did h r.
        let k = laws.move_hands.remembers site op did r h in
        entered_remembers site (stash_of op) did (laws.stash_remembers site op.kept did k.0 k.2 k.1) (stash_part.hands_on (stash_of op)) refl;
  }

  move_is_part : IsPart move_or_more
  move_is_part = then_is_part move_part stash_or_release after_move laws.move laws.move_causes.undecided stash_is_part move_passes

  move_ends_by_cause : EndsByCause move_or_more
  move_ends_by_cause = then_ends_by_cause move_part stash_or_release after_move move_passes laws.move_causes stash_ends_by_cause

  change_passes : Passes change_part move_or_more (λ op. first (move_of op))
  change_passes = record {
    stands = λ site here call op v ground s h.
        let k = laws.change_hands site here call op v s h in
        record {
          stands = laws.move_begins site here call (kept_of op) v k.whose k.keeps k.thirds;
          closed = refl;
        };
    undecided = λ op h. laws.move_undecided (kept_of op);
    remembers = λ site op did h r. let k = laws.change_tells site op did r h in laws.move_remembers site (kept_of op) did k.0 k.1;
  }

  pub whole_is_part : IsPart whole_change
  whole_is_part = then_is_part change_part move_or_more (λ op. first (move_of op)) laws.change laws.change_causes.undecided move_is_part change_passes

  pub whole_ends_by_cause : EndsByCause whole_change
  whole_ends_by_cause = then_ends_by_cause change_part move_or_more (λ op. first (move_of op)) change_passes laws.change_causes move_ends_by_cause

-- ---- a split
-- what is used of its machines
pub record SplitLaws : Type 0 where
  pub enclose : IsPart enclose_part
  pub enclose_causes : EndsBySplitCause enclose_part enclosed_segment
  pub enclose_hands : HandsOnWhole
  pub enclose_tells : HandsOnRemembered
  pub split : IsPart split_part
  pub split_causes : EndsBySplitCause split_part made_segment
  pub split_begins : SplitBegins
  pub split_copies : CopiesSide
  pub split_undecided : SplitUndecided
  pub split_remembers : SplitRemembers
  pub split_hands : HandsOnCopied
  pub publish : IsPart directory_part
  pub publish_causes : EndsBySplitCause directory_part published_segment
  pub publish_begins : PublishBegins
  pub publish_undecided : PublishUndecided
  pub publish_hands : HandsOnSplit
  pub rest : IsPart rest_part
  pub rest_causes : EndsBySplitCause rest_part rest_segment
  pub rest_begins : RestBegins
  pub rest_reckons : ReckonsRight
  pub rest_undecided : RestUndecided

module _ (laws : SplitLaws) where
  publish_passes : Passes directory_part rest_part rest_after
  publish_passes = record {
    stands = λ site here call op v ground s h.
        let k = laws.publish_hands site here call op v ground s h in
        laws.rest_begins site here call (rest_after op) v k (laws.rest_reckons site here call op.copied.whole ground k.is k.whole) refl;
    undecided = λ op h. laws.rest_undecided (rest_after op);
    remembers = λ site op did h r. tt;
  }

  publish_is_part : IsPart publish_and_rest
  publish_is_part = then_is_part directory_part rest_part rest_after laws.publish laws.publish_causes.undecided laws.rest publish_passes

  publish_ends : EndsBySplitCause publish_and_rest (λ o. segment_of_then published_segment rest_segment o)
  publish_ends = then_ends_by_split_cause directory_part rest_part rest_after published_segment rest_segment publish_passes (λ op h. refl) laws.publish_causes laws.rest_causes

  split_passes : Passes split_part publish_and_rest (λ op. first (publish_of op))
  split_passes = record {
    stands = λ site here call op v ground s h. record { stands = laws.publish_begins site here call op.copied v (laws.split_hands site here call op v s h); closed = refl };
    undecided = λ op h. laws.publish_undecided op.copied;
    remembers = λ site op did h r. tt;
  }

  split_is_part : IsPart split_and_more
  split_is_part = then_is_part split_part publish_and_rest (λ op. first (publish_of op)) laws.split laws.split_causes.undecided publish_is_part split_passes

  enclose_passes : Passes enclose_part split_and_more (λ op. first (split_of op.enclosed))
  enclose_passes = record {
    stands = λ site here call op v ground s h.
        let k = laws.enclose_hands site here call op v s h in
        record { stands = laws.split_begins site here call op.enclosed (side_words op.enclosed) v k (laws.split_copies site here call op.enclosed ground k.is k.whole); closed = refl };
    undecided = λ op h. laws.split_undecided op.enclosed (side_words op.enclosed);
    remembers = λ site op did h r. laws.split_remembers site op.enclosed (side_words op.enclosed) did (laws.enclose_tells site op did h r);
  }

  pub split_whole_is_part : IsPart whole_split
  split_whole_is_part = then_is_part enclose_part split_and_more (λ op. first (split_of op.enclosed)) laws.enclose laws.enclose_causes.undecided split_is_part enclose_passes

  split_ends : EndsBySplitCause split_and_more (λ n. segment_of_then made_segment (λ o. segment_of_then published_segment rest_segment o) n)
  split_ends = then_ends_by_split_cause split_part publish_and_rest (λ op. first (publish_of op)) made_segment (λ o. segment_of_then published_segment rest_segment o) split_passes (λ op h. refl)
      laws.split_causes publish_ends

  pub split_whole_ends : EndsBySplitCause whole_split split_segment_in
  split_whole_ends = then_ends_by_split_cause enclose_part split_and_more (λ op. first (split_of op.enclosed)) enclosed_segment
      (λ n. segment_of_then made_segment (λ o. segment_of_then published_segment rest_segment o) n) enclose_passes (λ op h. refl) laws.enclose_causes split_ends

-- ---- a repair
-- what is used of its machines
pub record RepairLaws : Type 0 where
  pub repair : IsPart repair_part
  pub repair_causes : EndsByRepairCause repair_part repaired_segment
  pub repair_current : FinishesCurrent repair_part repaired_segment
  pub repair_hands : HandsOnGuarded
  pub repair_tells : RepairTells
  pub redirect : IsPart redirect_part
  pub redirect_causes : EndsByRepairCause redirect_part redirected_segment
  pub redirect_begins : RedirectBegins
  pub redirect_undecided : RedirectUndecided
  pub redirect_remembers : RedirectRemembers
  pub redirect_hands : HandsOnRedirected
  pub mend : IsPart mend_part
  pub mend_causes : EndsByRepairCause mend_part mended_segment
  pub mend_current : FinishesCurrent mend_part mended_segment
  pub mend_begins : MendBegins
  pub mend_undecided : MendUndecided

module _ (laws : RepairLaws) where
  pub redirect_passes : Passes redirect_part mend_part mend_of
  redirect_passes = record {
    stands = λ site here call op v ground s h. laws.mend_begins site here call op.guarded v (laws.redirect_hands site here call op v s h);
    undecided = λ op h. laws.mend_undecided op.guarded;
    remembers = λ site op did h r. tt;
  }

  redirect_is_part : IsPart redirect_and_mend
  redirect_is_part = then_is_part redirect_part mend_part mend_of laws.redirect laws.redirect_causes.undecided laws.mend redirect_passes

  redirect_ends : EndsByRepairCause redirect_and_mend (λ n. segment_of_then redirected_segment mended_segment n)
  redirect_ends = then_ends_by_repair_cause redirect_part mend_part mend_of redirected_segment mended_segment redirect_passes (λ op h. refl) laws.redirect_causes laws.mend_causes

  -- where a segment is guarded, either of the two may be the one that goes on
  abbrev met : Bool → RedirectOp → Then RedirectOp MendOp
  met t op = passed redirect_part mend_part mend_of t op

  met_stands : (site : Ground) (here : Site) (call : Call) (op : RedirectOp) (v : View) → IsGround site → redirect_part.Stands site here call op v → (t : Bool) → redirect_part.hands_on op ≡ t
      → redirect_and_mend.Stands site here call (met t op) v
  met_stands site here call op v ground s true h = redirect_passes.stands site here call op v ground s h
  met_stands site here call op v ground s false h = record { stands = s; closed = h }

  met_undecided : (op : RedirectOp) → redirect_part.outcome op ≡ None → (t : Bool) → redirect_and_mend.outcome (met t op) ≡ None
  met_undecided op none true = laws.mend_undecided op.guarded
  met_undecided op none false = none

  met_remembers : (site : Ground) (op : RedirectOp) (did : Doings) → redirect_part.Remembers site op did → (t : Bool) → redirect_part.hands_on op ≡ t
      → redirect_and_mend.Remembers site (met t op) did
  met_remembers site op did r true h = redirect_passes.remembers site op did h r
  met_remembers site op did r false h = r

  met_segment : (op : RedirectOp) (t : Bool) → segment_of_then redirected_segment mended_segment (met t op) ≡ op.guarded.segment
  met_segment op true = refl
  met_segment op false = refl

  pub repair_passes : Passes repair_part redirect_and_mend after_guard
  repair_passes = record {
    stands = λ site here call op v ground s h.
        met_stands site here call (redirect_of op) v ground (laws.redirect_begins site here call op.guarded v (laws.repair_hands site here call op v s h)) (redirect_part.hands_on (redirect_of op)) refl;
    undecided = λ op h. met_undecided (redirect_of op) (laws.redirect_undecided op.guarded) (redirect_part.hands_on (redirect_of op));
    remembers = λ site op did h r.
        met_remembers site (redirect_of op) did (laws.redirect_remembers site op.guarded did (laws.repair_tells site op did h r)) (redirect_part.hands_on (redirect_of op)) refl;
  }

  pub repair_whole_is_part : IsPart whole_repair
  repair_whole_is_part = then_is_part repair_part redirect_and_mend after_guard laws.repair laws.repair_causes.undecided redirect_is_part repair_passes

  pub repair_whole_ends : EndsByRepairCause whole_repair repaired_segment_in
  repair_whole_ends = then_ends_by_repair_cause repair_part redirect_and_mend after_guard repaired_segment (λ n. segment_of_then redirected_segment mended_segment n) repair_passes
      (λ op h. met_segment (redirect_of op) (redirect_part.hands_on (redirect_of op))) laws.repair_causes redirect_ends
