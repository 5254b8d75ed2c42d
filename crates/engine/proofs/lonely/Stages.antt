-- THE NEXT EVENT of a machine leaves it as far in its call, takes or frees a slot, or renews a segment; and leaves fewer events of its attempt, but where
-- it waits for the guard of the directory.
use Rattle.std.proofs.Common.{◌≡◌, ◌≢◌, ℕ, ◌+◌, ◌<◌, ◌≤◌, inl, inr, Bool, true, false, Some, List, refl, sym, ◌∙◌, ap, subst, arith}
use Rattle.std.specs.Prelude.{◌==◌, ◌&&◌, if◌then◌else◌}
use Rattle.std.proofs.lemmas.Bool.{cases_Bool, cases_eq, eq-eqb, ne_eqb, false≢true}
use Rattle.std.proofs.lemmas.Option.{none-some, same_Some}
use Rattle.op_core.specs.declared.want.Want.TheVariants.{Done}
use Rattle.op_core.specs.declared.want.Ans.{Ans}
use Rattle.op_core.specs.declared.want.Ans.TheVariants.{Won, Lost}
use Rattle.trace.specs.Events.{Words}
use Rattle.segment_head.specs.HeadWord.{free}
use Rattle.image_layout.specs.Places.{Shape}
use Rattle.image_layout.specs.Volatile.{directory_guard, power_word}
use Rattle.map_model.specs.declared.call.Call.{Call}
use Rattle.map_model.specs.declared.entry.Reply.TheVariants.{Full}
use Rattle.world.specs.declared.site.Site.{Site}
use Rattle.world.specs.Ground.{Ground}
use Rattle.world.specs.Views.{View, At}
use Rattle.world.specs.Wants.{answer_to, word_of}
use Rattle.world.specs.StepKinds.{StepKind, of_structure}
use Rattle.world.specs.Invariant.{Holds}
use Rattle.world.specs.areas.Rows.{news, frees, renews}
use Rattle.world.specs.areas.Kinds.{moves}
use Rattle.world.proofs.stepping.Answers.{is_answer}
use Rattle.part.specs.Outcomes.{replied, again, finished}
use Rattle.part.specs.Part.{IsPart, Suits, finds, next}
use Rattle.part.specs.Then.{first, second, passed}
use Rattle.part.specs.Either.{one, other}
use Rattle.enclose_op.specs.declared.op.EncloseOp.{EncloseOp}
use Rattle.enclose_op.specs.EnclosePart.{enclose_part}
use Rattle.split_op.specs.declared.op.SplitOp.{SplitOp}
use Rattle.split_op.specs.declared.step.SplitEnd.{SplitEnd}
use Rattle.split_op.specs.declared.step.SplitEnd.TheVariants as split_ends
use Rattle.split_op.specs.declared.step.SplitStep.{SplitStep}
use Rattle.split_op.specs.declared.step.SplitStep.TheVariants as split
use Rattle.split_op.specs.Fits.{outcome_of as split_outcome_of, outcome_at as split_outcome_at}
use Rattle.split_op.specs.Steps.{split_of}
use Rattle.split_op.specs.SplitPart.{split_part, segment_of, is_new_slot, TakesFreeSlot, NewSlotStays}
use Rattle.directory_op.specs.declared.op.DirectoryOp.{DirectoryOp}
use Rattle.directory_op.specs.declared.op.DirectoryEnd.TheVariants.{Off}
use Rattle.directory_op.specs.declared.op.DirectoryStep.{DirectoryStep}
use Rattle.directory_op.specs.declared.op.DirectoryStep.TheVariants as publish
use Rattle.directory_op.specs.Steps.{shape_of, wanted_in as publish_wanted, taken_in as publish_taken}
use Rattle.directory_op.specs.Fits.{SuitsStep as PublishSuits}
use Rattle.directory_op.specs.DirectoryPart.{directory_part, WinsWhereFree}
use Rattle.directory_op.specs.Left.{guarded_left, alone_in, is_trying, left_alone as publish_alone}
use Rattle.rest_op.specs.RestPart.{rest_part}
use Rattle.repair_op.specs.declared.op.RepairOp.{RepairOp}
use Rattle.repair_op.specs.declared.step.Settling.TheVariants as settling
use Rattle.repair_op.specs.declared.step.RepairStep.{RepairStep}
use Rattle.repair_op.specs.declared.step.RepairStep.TheVariants as repair
use Rattle.repair_op.specs.Steps.{with_state, wanted_in as repair_wanted_in, next_in as repair_next_in}
use Rattle.repair_op.specs.Stands.{kind_at as repair_kind}
use Rattle.repair_op.specs.RepairPart.{repair_part}
use Rattle.redirect_op.specs.declared.op.RedirectOp.{RedirectOp}
use Rattle.redirect_op.specs.RedirectPart.{redirect_part}
use Rattle.mend_op.specs.declared.op.MendOp.{MendOp}
use Rattle.mend_op.specs.declared.op.MendStep.{MendStep}
use Rattle.mend_op.specs.declared.op.MendStep.TheVariants as mend
use Rattle.mend_op.specs.Words.{renewed_head}
use Rattle.mend_op.specs.Steps.{wanted_in as mend_wanted_in, next_in as mend_next_in}
use Rattle.mend_op.specs.Stands.{kind_at as mend_kind}
use Rattle.mend_op.specs.MendPart.{mend_part, outcome_at as mend_outcome_at}
use Rattle.engine.specs.declared.engine.Op.{Op}
use Rattle.engine.specs.declared.engine.Op.TheVariants.{Read, Write, Move, Stash, Release, Enclose, Split, Publish, Rest, Repair, Redirect, Mend}
use Rattle.engine.specs.Engine.{running}
use Rattle.engine.specs.OpPart.{CallState, publish_of, rest_after, publish_and_rest, split_and_more, redirect_of, mend_of, redirect_and_mend, after_guard, call_part, named, op_part, calls, work_of}
use Rattle.engine.specs.Left.{most_events, op_left_alone, has_freed, is_renewed, stage}
use Rattle.engine.specs.Alone.{IsDue}
use Rattle.engine.specs.Driven.{waits_after, waits_now}
use Rattle.engine.proofs.machines.Ops.{call_kind}
use Rattle.engine.proofs.attempts.Stepping.{next_work}
use Rattle.engine.proofs.lonely.counts.Storing.{Spares, no_frees, enclose_spares, split_spares, publish_spares, rest_spares, repair_spares, repair_frees, repairs_at, redirect_spares, mend_spares, mend_renews, mends_at}
use Rattle.engine.proofs.lonely.Repairing.{freed_stays, redirect_never, renewed_same, ended_renewed}

-- what is used of the machines
pub record StageLaws : Type 0 where
  pub part : IsPart op_part
  pub rest : IsPart rest_part
  pub takes : TakesFreeSlot
  pub stays : NewSlotStays
  pub wins : WinsWhereFree
  pub never : (op : Op) → work_of op ≡ calls → op_part.outcome op ≡ Some finished → ⊥

-- ---- stages
abbrev side_stage : Bool → ℕ
side_stage new = if new then 4 else 2

abbrev guard_stage : Bool → ℕ
guard_stage freed = if freed then 0 else 2

abbrev mend_stage : Bool → ℕ
mend_stage renewed = if renewed then 4 else 0

call_stage : (m : CallState) → stage (named (one m)) ≡ 3
call_stage (one op) = refl
call_stage (other (first op)) = refl
call_stage (other (second (first op))) = refl
call_stage (other (second (second (first op)))) = refl
call_stage (other (second (second (second op)))) = refl

call_left : (m : CallState) → op_left_alone (named (one m)) ≡ op_part.left (named (one m))
call_left (one op) = refl
call_left (other (first op)) = refl
call_left (other (second (first op))) = refl
call_left (other (second (second (first op)))) = refl
call_left (other (second (second (second op)))) = refl

module _ (laws : StageLaws) where
  enclose_stage : (t : Bool) (op : EncloseOp) → stage (named (other (one (passed enclose_part split_and_more (λ x. first (split_of x.enclosed)) t op)))) ≡ 2
  enclose_stage true op = refl
  enclose_stage false op = refl

  split_stage : (t : Bool) (op : SplitOp) → split_part.hands_on op ≡ t → stage (named (other (one (second (passed split_part publish_and_rest (λ x. first (publish_of x)) t op))))) ≡ side_stage (is_new_slot op)
  split_stage true op hands = ap side_stage (sym (laws.stays.hands op hands))
  split_stage false op hands = refl

  publish_stage : (t : Bool) (op : DirectoryOp) → stage (named (other (one (second (second (passed directory_part rest_part rest_after t op)))))) ≡ 4
  publish_stage true op = refl
  publish_stage false op = refl

  -- a repair goes on to the redirecting or to the mending
  redirect_stage : (t : Bool) (op : RedirectOp) → stage (named (other (other (second (passed redirect_part mend_part mend_of t op))))) ≡ 0
  redirect_stage true op = refl
  redirect_stage false op = refl

  repair_stage : (t : Bool) (op : RepairOp) → stage (named (other (other (passed repair_part redirect_and_mend after_guard t op)))) ≤ guard_stage (has_freed op.step)
  repair_stage true op = let none = redirect_stage (redirect_part.hands_on (redirect_of op)) (redirect_of op) in omega (arith, none)
  repair_stage false op = omega arith

  -- where it goes on it is at the beginning of these
  passed_stage : (t : Bool) (op : RepairOp) → t ≡ true → stage (named (other (other (passed repair_part redirect_and_mend after_guard t op)))) ≡ 0
  passed_stage true op hands = redirect_stage (redirect_part.hands_on (redirect_of op)) (redirect_of op)
  passed_stage false op hands = absurd (cc)

  one_above : (op : Op) → op_part.left op ≤ most_events → op_part.left op ≤ most_events + 1
  one_above op few = by (op_part.left op) most_events few
    where
      by : (left most : ℕ) → left ≤ most → left ≤ most + 1
      by left most few = omega (arith, few)

  -- no machine has more events left than an attempt has, but for one
  pub few_left : (op : Op) → op_left_alone op ≤ most_events + 1
  few_left (Publish op) = let most = laws.part.time.most (Publish op) in let one_more = laws.wins.most op in by (directory_part.left op) (rest_part.most_events) most_events _ most one_more
    where
      by : (left rest most alone : ℕ) → left + rest ≤ most → alone ≤ left + 1 → alone + rest ≤ most + 1
      by left rest most alone few low = omega (arith, few, low)
  few_left (Read op) = one_above (Read op) (laws.part.time.most (Read op))
  few_left (Write op) = one_above (Write op) (laws.part.time.most (Write op))
  few_left (Move op) = one_above (Move op) (laws.part.time.most (Move op))
  few_left (Stash op) = one_above (Stash op) (laws.part.time.most (Stash op))
  few_left (Release op) = one_above (Release op) (laws.part.time.most (Release op))
  few_left (Enclose op) = one_above (Enclose op) (laws.part.time.most (Enclose op))
  few_left (Split op) = one_above (Split op) (laws.part.time.most (Split op))
  few_left (Rest op) = one_above (Rest op) (laws.part.time.most (Rest op))
  few_left (Repair op) = one_above (Repair op) (laws.part.time.most (Repair op))
  few_left (Redirect op) = one_above (Redirect op) (laws.part.time.most (Redirect op))
  few_left (Mend op) = one_above (Mend op) (laws.part.time.most (Mend op))

-- ---- the making of a side never ends as one that has done its work
never_ends : (end : SplitEnd) → split_outcome_of end ≡ Some finished → ⊥
never_ends split_ends.Copied some = none-some finished some
never_ends (split_ends.Again why) some = absurd (let same = same_Some (again why) finished some in cc)
never_ends (split_ends.Full count) some = absurd (let same = same_Some (replied Full count) finished some in cc)

never_works : (s : SplitStep) → split_outcome_at s ≡ Some finished → ⊥
never_works (split.Return count) some = absurd (let same = same_Some (replied Full count) finished some in cc)
never_works (split.Back give end) some = never_ends end some
never_works (split.Ended end) some = never_ends end some
never_works s some = none-some finished some

-- ---- the publishing, while it waits for the guard of the directory
module _ (shape : Shape) (op : DirectoryOp) where
  -- it waits behind an event with this answer
  abbrev waits_behind : DirectoryStep → Ans → Bool
  waits_behind step a =
      let behind : DirectoryOp = publish_taken op step a in
      waits_after shape (publish_wanted op step) a (running (named (other (one (second (second (passed directory_part rest_part rest_after (directory_part.hands_on behind) behind)))))))

  -- as it does where the guard is another's
  taken_waits : (n : ℕ) → shape_of op ≡ shape → n ≢ 0 → waits_behind publish.TakeGuard (if n == 0 then Won else Lost n) ≡ true
  taken_waits n same taken =
      subst (λ t. waits_behind publish.TakeGuard (if t then Won else Lost n) ≡ true) (sym (ne_eqb n 0 taken))
      (ap (λ b. b && true) (eq-eqb (directory_guard (shape_of op)) (directory_guard shape) (ap directory_guard same)))

  -- a load of the power word is one event fewer, whoever has the guard
  power_low : (on : Bool) → publish_alone (record op { step = if on then publish.TakeGuard else publish.Ended Off }) < 2 + guarded_left op
  power_low true = omega arith
  power_low false = omega arith

-- ---- in the world, for the caller with this view
module _ (laws : StageLaws) (site : Ground) (here : Site) (call : Call) (words : Words) (views : List View) (j : ℕ) (before v : View) (h : Holds site words views) (at : At views j v) where
  abbrev kind : Op → StepKind
  kind op = op_part.kind op (finds op_part site words op)

  -- a slot was free that is made new
  abbrev TakesSlot : Op → Type 0
  TakesSlot op = (parent : ℕ) × (slot : ℕ) × (head : ℕ) × (kind op ≡ of_structure (moves (news parent) slot head))

  -- one is freed; or none is
  abbrev FreesSlot : Op → Type 0
  FreesSlot op = (parent : ℕ) × (slot : ℕ) × (head : ℕ) × (kind op ≡ of_structure (moves (frees parent) slot head))

  abbrev FreesNone : Op → Type 0
  FreesNone op = (parent slot head : ℕ) → kind op ≡ of_structure (moves (frees parent) slot head) → ⊥

  -- a segment gets the image's version
  abbrev RenewsOne : Op → Type 0
  RenewsOne op = (segment : ℕ) × (head : ℕ) × (kind op ≡ of_structure (moves renews segment head))

  -- ---- how far the call has come: no further; two further where it takes a slot; two less far where it frees one; and four further where it renews a segment
  pub data Comes (op : Op) : Type 0 where
    no_further : FreesNone op → stage (next op_part site words op) ≤ stage op → Comes op
    by_a_slot : TakesSlot op → stage (next op_part site words op) ≤ stage op + 2 → Comes op
    by_freeing : FreesSlot op → stage (next op_part site words op) ≡ 0 → stage op ≡ 2 → Comes op
    by_renewing : RenewsOne op → stage (next op_part site words op) ≤ 4 → stage op ≡ 0 → Comes op

  spared : (op : Op) → Spares (kind op) → stage (next op_part site words op) ≤ stage op → Comes op
  spared op spares low = no_further (no_frees (kind op) spares) low

  call_comes : (op : Op) → work_of op ≡ calls → (m : CallState) → next op_part site words op ≡ named (one m) → stage op ≡ 3 → Comes op
  call_comes op own m is now =
      no_further (λ parent slot head same. (let k = call_kind op (finds op_part site words op) own in let both = sym k.1 ∙ same in cc))
      (let later = ap stage is ∙ call_stage m in omega (arith, later, now))

  module _ (op : SplitOp) (s : Suits op_part site here call (Split op) before v) (asks : op_part.wanted (Split op) ≢ Done) where
    abbrev behind : SplitOp
    behind = next split_part site words op

    none_freed : Spares (kind (Split op))
    none_freed = split_spares op op.step

    side_is : stage (next op_part site words (Split op)) ≡ side_stage (is_new_slot behind)
    side_is = split_stage laws (split_part.hands_on behind) behind refl

    split_comes : (was is : Bool) → is_new_slot op ≡ was → is_new_slot behind ≡ is → Comes (Split op)
    split_comes true is old new =
        let stays = laws.stays.stays op (answer_to (split_part.wanted op) (finds split_part site words op)) old in
        let later = side_is ∙ ap side_stage stays in
        let now = ap side_stage old in
        spared (Split op) none_freed (omega (arith, later, now))
    split_comes false true old new =
        let slot = laws.takes site here call words views j op before v h at (record { stands = s.stands.stands; enters = s.enters; callers = s.callers }) asks old new in
        let later = side_is ∙ ap side_stage new in
        let now = ap side_stage old in
        by_a_slot (segment_of op, slot.0, slot.2, slot.3) (omega (arith, later, now))
    split_comes false false old new =
        let later = side_is ∙ ap side_stage new in
        let now = ap side_stage old in
        spared (Split op) none_freed (omega (arith, later, now))

  -- ---- a repair
  module _ (op : RepairOp) where
    abbrev guarding : RepairOp
    guarding = next repair_part site words op

    abbrev hands : Bool
    hands = repair_part.hands_on guarding

    low : stage (next op_part site words (Repair op)) ≤ guard_stage (has_freed guarding.step)
    low = repair_stage laws hands guarding

    guard_most : (t : Bool) → guard_stage t ≤ 2
    guard_most true = omega arith
    guard_most false = omega arith

    no_less : (t : Bool) → has_freed op.step ≡ t → stage (next op_part site words (Repair op)) ≤ guard_stage t
    no_less false old = let most = guard_most (has_freed guarding.step) in let under = low in omega (arith, most, under)
    no_less true old = elim (freed_stays op op.step (finds repair_part site words op) old) [
      | inl handed ↦ (let none = passed_stage laws hands guarding handed in omega (arith, none))
      | inr freed ↦ (let none = ap guard_stage freed in let under = low in omega (arith, none, under))
    ]

    -- the store that frees a slot
    frees_side : (s : RepairStep) (slot side : ℕ) → s ≡ repair.Free slot side settling.Store
        → (has_freed s ≡ false) × (has_freed (repair_next_in op s (answer_to (repair_wanted_in op s) (words (word_of site.shape (repair_wanted_in op s))))).step ≡ true)
        × (repair_kind op.guarded s ≡ of_structure (moves (frees op.guarded.segment) slot (with_state side free)))
    frees_side s slot side is = (
      ap has_freed is,
      ap (λ (z : RepairStep). has_freed (repair_next_in op z (answer_to (repair_wanted_in op z) (words (word_of site.shape (repair_wanted_in op z))))).step) is,
      ap (λ (z : RepairStep). repair_kind op.guarded z) is,
    )

    repair_comes : Comes (Repair op)
    repair_comes = elim (repairs_at op.guarded op.step) [
      | repair_spares spares ↦ spared (Repair op) spares (no_less (has_freed op.step) refl)
      | repair_frees slot side step ↦
          let store = frees_side op.step slot side step in
          let now = ap guard_stage store.0 in
          let none = ap guard_stage store.1 in
          let under = low in
          by_freeing (op.guarded.segment, slot, with_state side free, store.2) (omega (arith, none, under)) now
    ]

  redirect_comes : (op : RedirectOp) → Comes (Redirect op)
  redirect_comes op =
      let directing : RedirectOp = next redirect_part site words op in
      let none = redirect_stage laws (redirect_part.hands_on directing) directing in
      spared (Redirect op) (redirect_spares op op.step) (omega (arith, none))

  module _ (op : MendOp) where
    abbrev mending : MendOp
    mending = next mend_part site words op

    renews_kind : (s : MendStep) → s ≡ mend.Renew → mend_kind op s ≡ of_structure (moves renews op.guarded.segment (renewed_head op.guarded.site.version op.guarded.head))
    renews_kind mend.Renew is = refl
    renews_kind s is = absurd (cc)

    mend_most : (t : Bool) → mend_stage t ≤ 4
    mend_most true = omega arith
    mend_most false = omega arith

    mend_comes : Comes (Mend op)
    mend_comes = elim (mends_at op op.step) [
      | mend_spares spares apart ↦
          (let same = ap mend_stage (renewed_same op op.step (answer_to (mend_part.wanted op) (finds mend_part site words op)) apart) in
          spared (Mend op) spares (omega (arith, same)))
      | mend_renews step ↦
          by_renewing (op.guarded.segment, renewed_head op.guarded.site.version op.guarded.head, renews_kind op.step step) (mend_most (is_renewed mending.step)) (ap (λ (z : MendStep). mend_stage (is_renewed z)) step)
    ]

  pub comes : (op : Op) → Suits op_part site here call op before v → op_part.wanted op ≢ Done → Comes op
  comes (Read op) s asks = call_comes (Read op) refl (next call_part site words (one op)) refl refl
  comes (Write op) s asks = call_comes (Write op) refl (next call_part site words (other (first op))) refl refl
  comes (Move op) s asks = call_comes (Move op) refl (next call_part site words (other (second (first op)))) refl refl
  comes (Stash op) s asks = call_comes (Stash op) refl (next call_part site words (other (second (second (first op))))) refl refl
  comes (Release op) s asks = call_comes (Release op) refl (next call_part site words (other (second (second (second op))))) refl refl
  comes (Enclose op) s asks =
      let behind : EncloseOp = next enclose_part site words op in
      spared (Enclose op) (enclose_spares op.enclosed op.step) (let later = enclose_stage laws (enclose_part.hands_on behind) behind in omega (arith, later))
  comes (Split op) s asks = split_comes op s asks (is_new_slot op) (is_new_slot (next split_part site words op)) refl refl
  comes (Publish op) s asks =
      let behind : DirectoryOp = next directory_part site words op in
      spared (Publish op) (publish_spares op op.step) (let later = publish_stage laws (directory_part.hands_on behind) behind in omega (arith, later))
  comes (Rest op) s asks = spared (Rest op) (rest_spares op op.step) (omega arith)
  comes (Repair op) s asks = repair_comes op
  comes (Redirect op) s asks = redirect_comes op
  comes (Mend op) s asks = mend_comes op

  -- ---- and fewer events are left of its attempt, where it does not wait for the guard of the directory
  abbrev Falls : Op → Type 0
  Falls op = op_left_alone (next op_part site words op) < op_left_alone op

  -- a machine that does not wait
  steady_falls : (op : Op) → op_part.wanted op ≢ Done → op_part.is_waiting op ≡ false → op_left_alone (next op_part site words op) ≡ op_part.left (next op_part site words op)
      → op_left_alone op ≡ op_part.left op → Falls op
  steady_falls op asks steady later now = elim (laws.part.time.falls op (answer_to (op_part.wanted op) (finds op_part site words op)) (is_answer (op_part.wanted op) (finds op_part site words op) asks)) [
    | inl low ↦ omega (arith, low, later, now)
    | inr wait ↦ absurd (let z : false ≡ true = sym steady ∙ wait.0 in cc)
  ]

  enclose_left : (t : Bool) (op : EncloseOp) → op_left_alone (named (other (one (passed enclose_part split_and_more (λ x. first (split_of x.enclosed)) t op))))
      ≡ op_part.left (named (other (one (passed enclose_part split_and_more (λ x. first (split_of x.enclosed)) t op))))
  enclose_left true op = refl
  enclose_left false op = refl

  split_left : (t : Bool) (op : SplitOp) → op_left_alone (named (other (one (second (passed split_part publish_and_rest (λ x. first (publish_of x)) t op)))))
      ≡ op_part.left (named (other (one (second (passed split_part publish_and_rest (λ x. first (publish_of x)) t op)))))
  split_left true op = refl
  split_left false op = refl

  redirect_left : (t : Bool) (op : RedirectOp) → op_left_alone (named (other (other (second (passed redirect_part mend_part mend_of t op)))))
      ≡ op_part.left (named (other (other (second (passed redirect_part mend_part mend_of t op)))))
  redirect_left true op = refl
  redirect_left false op = refl

  repair_left : (t : Bool) (op : RepairOp) → op_left_alone (named (other (other (passed repair_part redirect_and_mend after_guard t op))))
      ≡ op_part.left (named (other (other (passed repair_part redirect_and_mend after_guard t op))))
  repair_left true op = redirect_left (redirect_part.hands_on (redirect_of op)) (redirect_of op)
  repair_left false op = refl

  -- the publishing has fewer, where it does not wait for the guard of the directory
  module _ (op : DirectoryOp) (s : Suits directory_part site here call op before v) (asks : directory_part.wanted op ≢ Done) (on : waits_now site.shape words (running (Publish op)) ≡ false) where
    abbrev Low : Type 0
    Low = publish_alone (next directory_part site words op) < publish_alone op

    -- of a step, as if it were there
    abbrev answer_at : DirectoryStep → Ans
    answer_at step = answer_to (publish_wanted op step) (words (word_of site.shape (publish_wanted op step)))

    trying_low : (step : DirectoryStep) → op.step ≡ step → is_trying step ≡ true → Low
    trying_low publish.TakeGuard is trying =
        let same : shape_of op ≡ site.shape = (subst (λ (x : DirectoryStep). PublishSuits site here op call x v) is s.stands).keeps.is.located.shape in
        elim (cases_eq (words (directory_guard site.shape)) 0) [
          | inl none ↦ laws.wins.falls site here call words op before v s asks (λ waits. none)
          | inr taken ↦ absurd (false≢true (sym on ∙ subst (λ (x : DirectoryStep). waits_behind site.shape op x (answer_at x) ≡ true) (sym is)
              (taken_waits site.shape op (words (directory_guard (shape_of op))) same (subst (λ (g : Shape). words (directory_guard g) ≢ 0) (sym same) taken))))
        ]
    trying_low publish.AskPower is trying =
        subst (λ (x : DirectoryStep). publish_alone (publish_taken op x (answer_at x)) < alone_in op x) (sym is) (power_low site.shape op (words (power_word site.shape) == 0))
    trying_low step is trying = absurd (false≢true trying)

    publish_low : Low
    publish_low = elim (cases_Bool (directory_part.is_waiting op)) [
      | inl waits ↦ trying_low op.step refl waits
      | inr none ↦ laws.wins.falls site here call words op before v s asks (λ waits. absurd (false≢true (sym none ∙ waits)))
    ]

  publish_falls : (t : Bool) (op behind : DirectoryOp) → publish_alone behind < publish_alone op
      → op_left_alone (named (other (one (second (second (passed directory_part rest_part rest_after t behind)))))) < op_left_alone (Publish op)
  publish_falls true op behind low = let most = laws.rest.time.most (rest_after behind) in omega (arith, low, most)
  publish_falls false op behind low = omega (arith, low)

  pub falls : (op : Op) → Suits op_part site here call op before v → op_part.wanted op ≢ Done → waits_now site.shape words (running op) ≡ false → Falls op
  falls (Read op) s asks on = steady_falls (Read op) asks refl (call_left (next call_part site words (one op))) refl
  falls (Write op) s asks on = steady_falls (Write op) asks refl (call_left (next call_part site words (other (first op)))) refl
  falls (Move op) s asks on = steady_falls (Move op) asks refl (call_left (next call_part site words (other (second (first op))))) refl
  falls (Stash op) s asks on = steady_falls (Stash op) asks refl (call_left (next call_part site words (other (second (second (first op)))))) refl
  falls (Release op) s asks on = steady_falls (Release op) asks refl (call_left (next call_part site words (other (second (second (second op)))))) refl
  falls (Enclose op) s asks on =
      let behind : EncloseOp = next enclose_part site words op in steady_falls (Enclose op) asks refl (enclose_left (enclose_part.hands_on behind) behind) refl
  falls (Split op) s asks on = let behind : SplitOp = next split_part site words op in steady_falls (Split op) asks refl (split_left (split_part.hands_on behind) behind) refl
  falls (Publish op) s asks on =
      let behind : DirectoryOp = next directory_part site words op in
      publish_falls (directory_part.hands_on behind) op behind (publish_low op (record { stands = s.stands.stands; enters = s.enters; callers = s.callers }) asks on)
  falls (Rest op) s asks on = steady_falls (Rest op) asks refl refl refl
  falls (Repair op) s asks on = let guarding : RepairOp = next repair_part site words op in steady_falls (Repair op) asks refl (repair_left (repair_part.hands_on guarding) guarding) refl
  falls (Redirect op) s asks on = let directing : RedirectOp = next redirect_part site words op in steady_falls (Redirect op) asks refl (redirect_left (redirect_part.hands_on directing) directing) refl
  falls (Mend op) s asks on = steady_falls (Mend op) asks refl refl refl

  -- ---- which machine has done its work: the rest, behind the publishing; and a mending, behind the store of the image's version
  call_works : (op : Op) → work_of op ≡ calls → op_part.outcome (next op_part site words op) ≡ Some finished → stage op ≡ 4
  call_works op own some = absurd (laws.never (next op_part site words op) (next_work site words op own) some)

  enclose_works : (ws : Words) (t : Bool) (op : EncloseOp) → IsDue site.shape ws call (named (other (one (passed enclose_part split_and_more (λ x. first (split_of x.enclosed)) t op))))
      → op_part.outcome (named (other (one (passed enclose_part split_and_more (λ x. first (split_of x.enclosed)) t op)))) ≡ Some finished → ⊥
  enclose_works ws true op due some = none-some finished some
  enclose_works ws false op due some = due.1 some

  split_works : (t : Bool) (op : SplitOp) → op_part.outcome (named (other (one (second (passed split_part publish_and_rest (λ x. first (publish_of x)) t op))))) ≡ Some finished → ⊥
  split_works true op some = none-some finished some
  split_works false op some = never_works op.step some

  -- what goes on from the beginning of a repair has decided nothing
  redirect_works : (t : Bool) (op : RedirectOp) → op_part.outcome (named (other (other (second (passed redirect_part mend_part mend_of t op))))) ≡ Some finished → ⊥
  redirect_works true op some = none-some finished some
  redirect_works false op some = redirect_never op.step some

  repair_works : (ws : Words) (t : Bool) (op : RepairOp) → IsDue site.shape ws call (named (other (other (passed repair_part redirect_and_mend after_guard t op))))
      → op_part.outcome (named (other (other (passed repair_part redirect_and_mend after_guard t op)))) ≡ Some finished → ⊥
  repair_works ws true op due some = redirect_works (redirect_part.hands_on (redirect_of op)) (redirect_of op) some
  repair_works ws false op due some = due.1 some

  mend_works : (op : MendOp) → op_part.outcome (next op_part site words (Mend op)) ≡ Some finished → stage (Mend op) ≡ 4
  mend_works op some = elim (mends_at op op.step) [
    | mend_spares spares apart ↦
        ap mend_stage (sym (renewed_same op op.step (answer_to (mend_part.wanted op) (finds mend_part site words op)) apart) ∙ ended_renewed (next mend_part site words op).step some)
    | mend_renews step ↦ absurd (never_stored op.step step some)
  ]
    where
      never_stored : (s : MendStep) → s ≡ mend.Renew → mend_outcome_at (mend_next_in op s (answer_to (mend_wanted_in op s) (words (word_of site.shape (mend_wanted_in op s))))).step ≡ Some finished → ⊥
      never_stored mend.Renew is some = none-some finished some
      never_stored s is some = absurd (cc)

  pub works : (ws : Words) (op : Op) → IsDue site.shape ws call (next op_part site words op) → op_part.outcome (next op_part site words op) ≡ Some finished → stage op ≡ 4
  works ws (Repair op) due some =
      let guarding : RepairOp = next repair_part site words op in absurd (repair_works ws (repair_part.hands_on guarding) guarding due some)
  works ws (Redirect op) due some =
      let directing : RedirectOp = next redirect_part site words op in absurd (redirect_works (redirect_part.hands_on directing) directing some)
  works ws (Mend op) due some = mend_works op some
  works ws (Enclose op) due some =
      let behind : EncloseOp = next enclose_part site words op in absurd (enclose_works ws (enclose_part.hands_on behind) behind due some)
  works ws (Split op) due some = let behind : SplitOp = next split_part site words op in absurd (split_works (split_part.hands_on behind) behind some)
  works ws (Publish op) due some = refl
  works ws (Rest op) due some = refl
  works ws (Read op) due some = call_works (Read op) refl some
  works ws (Write op) due some = call_works (Write op) refl some
  works ws (Move op) due some = call_works (Move op) refl some
  works ws (Stash op) due some = call_works (Stash op) refl some
  works ws (Release op) due some = call_works (Release op) refl some
