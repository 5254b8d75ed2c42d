-- Each answer leaves fewer events of a split or of a repair, by the shape of its image: those of its machine fall, and one that goes on has at its beginning as
-- many as were counted for it.
use Rattle.std.proofs.Common.{◌≡◌, ℕ, ◌+◌, ◌-◌, ◌^◌, ◌<◌, ◌≤◌, ◌⊎◌, inl, inr, Bool, true, false, refl, sym, ap, ◌∙◌, arith}
use Rattle.std.specs.Prelude.{min}
use Rattle.std.proofs.Math.Pow.{pow_mono}
use Rattle.std.proofs.lemmas.Bool.{false≢true}
use Rattle.op_core.specs.declared.want.Ans.{Ans}
use Rattle.op_core.specs.Answers.{IsAnswer}
use Rattle.image_layout.specs.Places.{most_segments, most_depth}
use Rattle.world.specs.declared.site.Site.{Site}
use Rattle.part.specs.Part.{EndsInTime, IsWait}
use Rattle.part.specs.Then.{Then, first, second, passed}
use Rattle.part.specs.Either.{one, other}
use Rattle.enclose_op.specs.declared.op.EncloseOp.{EncloseOp}
use Rattle.enclose_op.specs.EnclosePart.{enclose_part}
use Rattle.split_op.specs.declared.op.SplitOp.{SplitOp}
use Rattle.split_op.specs.Steps.{split_of}
use Rattle.split_op.specs.SplitPart.{split_part}
use Rattle.directory_op.specs.declared.op.DirectoryOp.{DirectoryOp}
use Rattle.rest_op.specs.declared.op.RestOp.{RestOp}
use Rattle.repair_op.specs.declared.op.RepairOp.{RepairOp}
use Rattle.repair_op.specs.RepairPart.{repair_part}
use Rattle.redirect_op.specs.declared.op.RedirectOp.{RedirectOp}
use Rattle.redirect_op.specs.Left.{events_in as redirecting_events}
use Rattle.redirect_op.specs.RedirectPart.{redirect_part, BeginsWithinImage}
use Rattle.mend_op.specs.declared.op.MendOp.{MendOp}
use Rattle.mend_op.specs.MendPart.{mend_part}
use Rattle.engine.specs.declared.engine.Op.{Op}
use Rattle.engine.specs.declared.engine.Op.TheVariants.{Read, Write, Move, Stash, Release, Enclose, Split, Publish, Rest, Repair, Redirect, Mend}
use Rattle.engine.specs.OpPart.{CallState, named, call_part, op_part, split_and_more, publish_and_rest, publish_of, redirect_of, mend_of, redirect_and_mend, after_guard, repairs, work_of}
use Rattle.engine.specs.Short.{left_once_made, left_once_enclosed, left_once_guarded, work_left, FallsOrWaits, RepairsFall, BeginsShort, RepairBeginsShort, StaysWithin, RepairStaysWithin}
use Rattle.engine.specs.Engine.{running}
use Rattle.engine.proofs.splits.Images.{enclosed_site, made_whole, guarded_site}

-- ---- of which as many are counted as are left of the attempt
own_left : (m : CallState) → work_left (named (one m)) ≡ op_part.left (named (one m))
own_left (one op) = refl
own_left (other (first op)) = refl
own_left (other (second (first op))) = refl
own_left (other (second (second (first op)))) = refl
own_left (other (second (second (second op)))) = refl

published_left : (m : Then DirectoryOp RestOp) → work_left (named (other (one (second (second m))))) ≡ op_part.left (named (other (one (second (second m)))))
published_left (first op) = refl
published_left (second op) = refl

mended_left : (m : Then RedirectOp MendOp) → work_left (named (other (other (second m)))) ≡ op_part.left (named (other (other (second m))))
mended_left (first op) = refl
mended_left (second op) = refl

-- ---- where one goes on from another
-- the side is published that was made
made_left : (op : SplitOp) (hands : Bool) → work_left (named (other (one (second (passed split_part publish_and_rest (λ o. first (publish_of o)) hands op))))) ≤ split_part.left op + left_once_made op.copied.whole.site.geometry
made_left op true = omega arith
made_left op false = omega arith

-- the side is made of what was enclosed
enclosed_left : (op : EncloseOp) (hands : Bool) → work_left (named (other (one (passed enclose_part split_and_more (λ o. first (split_of o.enclosed)) hands op))))
    ≤ enclose_part.left op + left_once_enclosed op.enclosed.site.geometry
enclosed_left op true = omega arith
enclosed_left op false = omega arith

-- entries are redirected of what was guarded, or that is mended at once
module _ (begins : BeginsWithinImage) (mending : EndsInTime mend_part) where
  redirected_left : (op : RedirectOp) (hands : Bool) → redirect_part.left op ≤ redirecting_events op.guarded.site.geometry
      → work_left (named (other (other (second (passed redirect_part mend_part mend_of hands op))))) ≤ left_once_guarded op.guarded.site.geometry
  redirected_left op true few = let most = mending.most (mend_of op) in omega (arith, most)
  redirected_left op false few = omega (arith, few)

  guarded_left : (op : RepairOp) (hands : Bool) → work_left (named (other (other (passed repair_part redirect_and_mend after_guard hands op)))) ≤ repair_part.left op + left_once_guarded op.guarded.site.geometry
  guarded_left op true =
      let few = redirected_left (redirect_of op) (redirect_part.hands_on (redirect_of op)) (begins op.guarded) in omega (arith, few)
  guarded_left op false = omega arith

  module _ (whole : EndsInTime op_part) (guarding : EndsInTime repair_part) where
    guard_falls : (op : RepairOp) (a : Ans) → IsAnswer (repair_part.wanted op) a → work_left (op_part.taken (Repair op) a) < work_left (Repair op)
    guard_falls op a i = elim (guarding.falls op a i) [
      | inl low ↦
          let later : RepairOp = repair_part.taken op a in
          let most = guarded_left later (repair_part.hands_on later) in
          let same = ap (λ (s : Site). left_once_guarded s.geometry) (guarded_site op op.step a) in
          omega (arith, most, low, same)
      | inr wait ↦ absurd (false≢true wait.0)
    ]

    by_whole : (op : Op) (a : Ans) → op_part.is_waiting op ≡ false → work_left op ≡ op_part.left op → work_left (op_part.taken op a) ≡ op_part.left (op_part.taken op a) → IsAnswer (op_part.wanted op) a
        → work_left (op_part.taken op a) < work_left op
    by_whole op a steady now later i = elim (whole.falls op a i) [
      | inl low ↦ omega (arith, now, later, low)
      | inr wait ↦ absurd (false≢true (sym steady ∙ wait.0))
    ]

    -- A REPAIR NEVER WAITS
    repairs_fall_at : (op : Op) (a : Ans) (segment : ℕ) → work_of op ≡ repairs segment → IsAnswer (op_part.wanted op) a → work_left (op_part.taken op a) < work_left op
    repairs_fall_at (Repair op) a segment is i = guard_falls op a i
    repairs_fall_at (Redirect op) a segment is i = by_whole (Redirect op) a refl refl (mended_left (redirect_and_mend.taken (first op) a)) i
    repairs_fall_at (Mend op) a segment is i = by_whole (Mend op) a refl refl refl i
    repairs_fall_at op a segment is i = absurd (cc)

    pub repairs_fall : RepairsFall
    repairs_fall e a segment is i = repairs_fall_at e.op a segment is i

-- ---- each answer
abbrev Fewer : Op → Ans → Type 0
Fewer op a = (work_left (op_part.taken op a) < work_left op) ⊎ (IsWait op_part op a × (work_left (op_part.taken op a) ≡ work_left op))

module _ (whole : EndsInTime op_part) (enclosing : EndsInTime enclose_part) (making : EndsInTime split_part) (repairing : RepairsFall) where
  by_attempt : (op : Op) (a : Ans) → work_left op ≡ op_part.left op → work_left (op_part.taken op a) ≡ op_part.left (op_part.taken op a) → IsAnswer (op_part.wanted op) a → Fewer op a
  by_attempt op a now later i = elim (whole.falls op a i) [
    | inl low ↦ inl (omega (arith, now, later, low))
    | inr wait ↦ inr (wait, later ∙ wait.2 ∙ sym now)
  ]

  enclose_falls : (op : EncloseOp) (a : Ans) → IsAnswer (enclose_part.wanted op) a → work_left (op_part.taken (Enclose op) a) < work_left (Enclose op)
  enclose_falls op a i = elim (enclosing.falls op a i) [
    | inl low ↦
        let later : EncloseOp = enclose_part.taken op a in
        let most = enclosed_left later (enclose_part.hands_on later) in
        let same = ap (λ (s : Site). left_once_enclosed s.geometry) (enclosed_site op.enclosed op.step a) in
        omega (arith, most, low, same)
    | inr wait ↦ absurd (false≢true wait.0)
  ]

  make_falls : (op : SplitOp) (a : Ans) → IsAnswer (split_part.wanted op) a → work_left (op_part.taken (Split op) a) < work_left (Split op)
  make_falls op a i = elim (making.falls op a i) [
    | inl low ↦
        let later : SplitOp = split_part.taken op a in
        let most = made_left later (split_part.hands_on later) in
        let same = ap (λ w. left_once_made w.site.geometry) (made_whole op op.step a) in
        omega (arith, most, low, same)
    | inr wait ↦ absurd (false≢true wait.0)
  ]

  falls_at : (op : Op) (a : Ans) → IsAnswer (op_part.wanted op) a → Fewer op a
  falls_at (Read op) a i = by_attempt (Read op) a refl refl i
  falls_at (Write op) a i = by_attempt (Write op) a refl (own_left (call_part.taken (other (first op)) a)) i
  falls_at (Move op) a i = by_attempt (Move op) a refl (own_left (call_part.taken (other (second (first op))) a)) i
  falls_at (Stash op) a i = by_attempt (Stash op) a refl (own_left (call_part.taken (other (second (second (first op)))) a)) i
  falls_at (Release op) a i = by_attempt (Release op) a refl refl i
  falls_at (Enclose op) a i = inl (enclose_falls op a i)
  falls_at (Split op) a i = inl (make_falls op a i)
  falls_at (Publish op) a i = by_attempt (Publish op) a refl (published_left (publish_and_rest.taken (first op) a)) i
  falls_at (Rest op) a i = by_attempt (Rest op) a refl refl i
  falls_at (Repair op) a i = inl (repairing (running (Repair op)) a op.guarded.segment refl i)
  falls_at (Redirect op) a i = inl (repairing (running (Redirect op)) a op.guarded.segment refl i)
  falls_at (Mend op) a i = inl (repairing (running (Mend op)) a op.guarded.segment refl i)

  pub falls_or_waits : FallsOrWaits
  falls_or_waits e a i = falls_at e.op a i

-- ---- at its beginning
deepest : (depth : ℕ) → 2 ^ min depth most_depth ≤ 2 ^ depth
deepest depth = pow_mono {i = min depth most_depth} {j = depth} (by depth)
  where
    by : (n : ℕ) → min n most_depth ≤ n
    by n = omega arith

slots : (n : ℕ) → 1 ≤ n → min n most_segments - 1 + 1 ≤ n
slots n some = omega (arith, some)

pub begins_short : BeginsShort
begins_short here change segment is =
    let entries = deepest here.geometry.depth in
    let headers = slots here.geometry.segments is.some in
    omega (arith, entries, headers)

pub stays_within : StaysWithin
stays_within shape = omega arith

pub repair_begins_short : RepairBeginsShort
repair_begins_short here segment = let entries = deepest here.geometry.depth in omega (arith, entries)

pub repair_stays_within : RepairStaysWithin
repair_stays_within shape = omega arith
