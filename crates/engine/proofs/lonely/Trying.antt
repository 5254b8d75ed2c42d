-- WHO TRIES IN VAIN FOR THE GUARD of the directory publishes the side of a split, or directs entries to the side of a stale segment, and has not the
-- guard itself. Who has it is another caller, in the midst of an attempt, and does not wait for it.
use Rattle.std.proofs.Common.{◌≡◌, ◌≢◌, ℕ, zero, suc, ◌+◌, ◌*◌, ◌<◌, ◌⊎◌, inl, inr, true, cond, Option, None, Some, List, [], ◌∷◌, slice_get, slice_index, refl, sym, ◌∙◌, ap, subst, arith}
use Rattle.std.specs.Prelude.{◌==◌, ⊤}
use Rattle.std.proofs.lemmas.Bool.{cases_Bool, cases_eq, eq-eqb, ne_eqb, false≢true}
use mathlib.Core.Option.{some-injective}
use Rattle.op_core.specs.declared.want.Want.{Want}
use Rattle.op_core.specs.declared.want.Want.TheVariants as want
use Rattle.op_core.specs.declared.want.Ans.TheVariants.{Won, Lost}
use Rattle.trace.specs.Events.{Words}
use Rattle.image_layout.specs.Places.{Shape, first_segment, bucket_at, buckets}
use Rattle.image_layout.specs.Volatile.{allocation_guard, directory_guard, segment_guard}
use Rattle.frame_facts.specs.Facts.{Fact}
use Rattle.map_model.specs.declared.call.Call.{Call}
use Rattle.world.specs.declared.site.Site.{Site}
use Rattle.world.specs.Ground.{Ground}
use Rattle.world.specs.Views.{View, At, Has}
use Rattle.world.specs.Wants.{answer_to, word_of}
use Rattle.world.specs.World.{fresh_view}
use Rattle.world.specs.Kinds.{tries}
use Rattle.world.specs.StepKinds.{StepKind, of_call, of_structure, wanted_of, MayTake}
use Rattle.world.specs.areas.Areas.{Segment, Stale, Directory}
use Rattle.world.specs.areas.Kinds.{of_segment, of_free_slots, of_directory, takes, takes_for_side}
use Rattle.part.specs.Part.{finds}
use Rattle.rounds.specs.Stands.{kind_of}
use Rattle.rounds.specs.Steps.{rounds_wanted}
use Rattle.enclose_op.specs.declared.enclosed.Enclosed.{Enclosed}
use Rattle.enclose_op.specs.declared.give.Give.{Give as Giving}
use Rattle.enclose_op.specs.declared.give.Give.TheVariants as giving
use Rattle.enclose_op.specs.declared.op.EncloseStep.{EncloseStep}
use Rattle.enclose_op.specs.declared.op.EncloseStep.TheVariants as enclose
use Rattle.enclose_op.specs.Fits.{give_kind, kind_at as enclose_kind}
use Rattle.split_op.specs.declared.batch.Batch.{Batch}
use Rattle.split_op.specs.declared.batch.Batch.TheVariants as batch
use Rattle.split_op.specs.declared.op.SplitOp.{SplitOp}
use Rattle.split_op.specs.declared.step.SplitStep.{SplitStep}
use Rattle.split_op.specs.declared.step.SplitStep.TheVariants as split
use Rattle.split_op.specs.Fits.{put_kind, look_kind, kind_at as split_kind}
use Rattle.split_op.specs.Batches.{due}
use Rattle.directory_op.specs.declared.op.DirectoryOp.{DirectoryOp}
use Rattle.directory_op.specs.declared.op.DirectoryStep.{DirectoryStep}
use Rattle.directory_op.specs.declared.op.DirectoryStep.TheVariants as publish
use Rattle.directory_op.specs.declared.op.Stage.{Stage}
use Rattle.directory_op.specs.declared.op.Stage.TheVariants as publish_stage
use Rattle.directory_op.specs.Left.{is_trying}
use Rattle.directory_op.specs.DirectoryPart.{facts_of as publish_facts, stage_kind, kind_in as publish_kind, WinsWhereFree}
use Rattle.rest_op.specs.declared.op.RestOp.{RestOp}
use Rattle.rest_op.specs.declared.op.RestStep.{RestStep}
use Rattle.rest_op.specs.declared.op.RestStep.TheVariants as rest
use Rattle.rest_op.specs.Stands.{kind_at as rest_kind}
use Rattle.repair_op.specs.declared.guarded.Guarded.{Guarded}
use Rattle.repair_op.specs.declared.step.Settling.TheVariants as settling
use Rattle.repair_op.specs.declared.step.RepairStep.{RepairStep}
use Rattle.repair_op.specs.declared.step.RepairStep.TheVariants as repair
use Rattle.repair_op.specs.Stands.{kind_at as repair_kind}
use Rattle.redirect_op.specs.declared.op.RedirectOp.{RedirectOp}
use Rattle.redirect_op.specs.declared.step.RedirectStep.{RedirectStep}
use Rattle.redirect_op.specs.declared.step.RedirectStep.TheVariants as redirect
use Rattle.redirect_op.specs.Stands.{kind_at as redirect_kind, SuitsStep as RedirectSuits}
use Rattle.mend_op.specs.declared.op.MendOp.{MendOp}
use Rattle.mend_op.specs.declared.op.MendStep.{MendStep}
use Rattle.mend_op.specs.declared.op.MendStep.TheVariants as mend
use Rattle.mend_op.specs.Stands.{kind_at as mend_kind}
use Rattle.engine.specs.declared.engine.Op.{Op}
use Rattle.engine.specs.declared.engine.Op.TheVariants.{Read, Write, Move, Stash, Release, Enclose, Split, Publish, Rest, Repair, Redirect, Mend}
use Rattle.engine.specs.declared.engine.Engine.{Engine}
use Rattle.engine.specs.Engine.{wanted}
use Rattle.engine.specs.OpPart.{op_part, calls as of_calls, work_of}
use Rattle.engine.specs.Core.{Caller, Core}
use Rattle.engine.specs.Holding.{DoesCall, CoreHolds, TurnKeeps}
use Rattle.engine.specs.Laws.{IsServedImage, OpenedHolds, AreScripts}
use Rattle.engine.specs.Causes.{Watched, BeginsBare, CallCauses}
use Rattle.engine.specs.Alone.{IsNext}
use Rattle.engine.specs.Driven.{tries_in_vain, tries_now, IsHeldByOther, TriesAreOthers}
use Rattle.engine.proofs.machines.Ops.{call_kind}
use Rattle.engine.proofs.sessions.Goodness.{caller_at}
use Rattle.engine.proofs.attempts.Seats.{IsSeated, seat_steps, site_there, there, holds_there, seat_there}

-- ---- a try in vain for the guard
-- it is an exchange of its word, which has another value
record IsLostTry (shape : Shape) (w : Want) (n : ℕ) : Type 0 where
  pub old : ℕ
  pub new : ℕ
  pub is : w ≡ want.Exchange (directory_guard shape) old new
  pub other : n ≢ old

lost_try : (shape : Shape) (w : Want) (n : ℕ) → tries_in_vain shape w (answer_to w n) ≡ true → IsLostTry shape w n
lost_try shape (want.Exchange i a b) n vain = elim (cases_eq n a) [
  | inl won ↦ absurd (false≢true (subst (λ t. tries_in_vain shape (want.Exchange i a b) (cond t Won (Lost n)) ≡ true) (eq-eqb n a won) vain))
  | inr lost ↦
      let same : (i == directory_guard shape) ≡ true = subst (λ t. tries_in_vain shape (want.Exchange i a b) (cond t Won (Lost n)) ≡ true) (ne_eqb n a lost) vain in
      elim (cases_eq i (directory_guard shape)) [
        | inl guard ↦ record { old = a; new = b; is = ap (λ k. want.Exchange k a b) guard; other = lost }
        | inr apart ↦ absurd (false≢true (sym (ne_eqb i (directory_guard shape) apart) ∙ same))
      ]
]
lost_try shape w n vain = absurd (false≢true vain)

-- ---- which kind of step it is
-- the word of an exchange, and the value that it asks for
abbrev tried : Want → ℕ
tried (want.Exchange i a b) = i
tried w = 0

abbrev compared : Want → ℕ
compared (want.Exchange i a b) = a
compared w = 0

module _ (shape : Shape) where
  lock_apart : (s b : ℕ) → s < shape.segments → b < buckets → bucket_at shape s b ≡ directory_guard shape → ⊥
  lock_apart s b within near is = by (first_segment shape) s shape.segments b within near is
    where
      by : (f s n b : ℕ) → s < n → b < 66 → f + 2144 * s + 32 + 32 * b ≡ f + 2144 * n + 3 → ⊥
      by f s n b within near is = omega (arith, within, near, is)

  segment_apart : (s : ℕ) → segment_guard shape s ≡ directory_guard shape → ⊥
  segment_apart s is = by (first_segment shape) shape.segments s is
    where
      by : (f n s : ℕ) → f + 2144 * n + 4 + s ≡ f + 2144 * n + 3 → ⊥
      by f n s is = omega (arith, is)

  slots_apart : allocation_guard shape ≡ directory_guard shape → ⊥
  slots_apart is = by (first_segment shape) shape.segments is
    where
      by : (f n : ℕ) → f + 2144 * n + 2 ≡ f + 2144 * n + 3 → ⊥
      by f n is = omega (arith, is)

-- it takes that guard
takes_directory : (site : Ground) (v : View) (kind : StepKind) (old new : ℕ) → wanted_of site.shape kind ≡ want.Exchange (directory_guard site.shape) old new → MayTake site kind v
    → ((c : ℕ) × (kind ≡ of_structure (takes of_directory c))) × (old ≡ 0)
takes_directory site v (of_call (tries lock free)) old new is may =
    let known = may.0.0 in absurd (lock_apart site.shape known.0 known.1 known.2 known.3 (sym known.4 ∙ ap tried is))
takes_directory site v (of_structure (takes (of_segment s) c)) old new is may = absurd (segment_apart site.shape s (ap tried is))
takes_directory site v (of_structure (takes of_free_slots c)) old new is may = absurd (slots_apart site.shape (ap tried is))
takes_directory site v (of_structure (takes of_directory c)) old new is may = ((c, refl), sym (ap compared is))
takes_directory site v (of_structure (takes_for_side s c)) old new is may = absurd (slots_apart site.shape (ap tried is))
takes_directory site v (of_call kind) old new is may = absurd (cc)
takes_directory site v (of_structure kind) old new is may = absurd (cc)

-- ---- which machines do so
-- a kind does not
abbrev Passes : StepKind → Type 0
Passes (of_structure (takes of_directory c)) = ⊥
Passes kind = ⊤

no_takes : (kind : StepKind) → Passes kind → (c : ℕ) → kind ≡ of_structure (takes of_directory c) → ⊥
no_takes kind passes c is = subst Passes is passes

round_passes : (facts : List Fact) (w : Option Want) → Passes (kind_of facts w)
round_passes facts (Some (want.Store word value)) = tt
round_passes facts (Some (want.Flush line)) = tt
round_passes facts (Some want.Fence) = tt
round_passes facts (Some w) = tt
round_passes facts None = tt

give_passes : (e : Enclosed) (give : Giving) → Passes (give_kind e give)
give_passes e (giving.Lock b to) = tt
give_passes e giving.Guard = tt

enclose_passes : (e : Enclosed) (s : EncloseStep) → Passes (enclose_kind e s)
enclose_passes e (enclose.Give give end) = give_passes e give
enclose_passes e s = tt

module _ (op : SplitOp) where
  put_passes : (b : Batch) (w : Option Want) → Passes (put_kind op b w)
  put_passes (batch.Mark stored) (Some (want.Store word value)) = tt
  put_passes (batch.Mark stored) (Some (want.Flush line)) = tt
  put_passes (batch.Mark stored) (Some want.Fence) = tt
  put_passes (batch.Mark stored) (Some w) = tt
  put_passes (batch.Mark stored) None = tt
  put_passes (batch.New stored) (Some (want.Store word value)) = tt
  put_passes (batch.New stored) (Some (want.Flush line)) = tt
  put_passes (batch.New stored) (Some want.Fence) = tt
  put_passes (batch.New stored) (Some w) = tt
  put_passes (batch.New stored) None = tt
  put_passes (batch.Empty number) w = round_passes _ w
  put_passes (batch.Link stored) w = round_passes _ w
  put_passes (batch.Copy number) w = round_passes _ w

  look_passes : (b : ℕ) → Passes (look_kind op b)
  look_passes zero = tt
  look_passes (suc b) = tt

  split_passes : (s : SplitStep) → Passes (split_kind op s)
  split_passes (split.Look b) = look_passes b
  split_passes (split.Put b rounds) = put_passes b (rounds_wanted rounds (due op.copied op.locks b))
  split_passes (split.Back give end) = give_passes op.copied.whole give
  split_passes s = tt

-- the publishing does, in one of its steps
module _ (op : DirectoryOp) where
  stage_passes : (s : Stage) (w : Option Want) → Passes (stage_kind op s w)
  stage_passes publish_stage.GoLive (Some (want.Store word value)) = tt
  stage_passes publish_stage.GoLive (Some (want.Flush line)) = tt
  stage_passes publish_stage.GoLive (Some want.Fence) = tt
  stage_passes publish_stage.GoLive (Some w) = tt
  stage_passes publish_stage.GoLive None = tt
  stage_passes publish_stage.Live (Some (want.Store word value)) = tt
  stage_passes publish_stage.Live (Some (want.Flush line)) = tt
  stage_passes publish_stage.Live (Some want.Fence) = tt
  stage_passes publish_stage.Live (Some w) = tt
  stage_passes publish_stage.Live None = tt
  stage_passes s w = round_passes (publish_facts op s) w

  publish_tries : (s : DirectoryStep) → (s ≡ publish.TakeGuard) ⊎ Passes (publish_kind op s)
  publish_tries publish.TakeGuard = inl refl
  publish_tries (publish.Store s) = inr (stage_passes s (rounds_wanted op.rounds _))
  publish_tries s = inr tt

rest_passes : (op : RestOp) (s : RestStep) → Passes (rest_kind op s)
rest_passes op (rest.Clear b rounds) = round_passes _ (rounds_wanted rounds _)
rest_passes op (rest.Give give) = give_passes op.whole give
rest_passes op s = tt

repair_passes : (g : Guarded) (s : RepairStep) → Passes (repair_kind g s)
repair_passes g (repair.Free slot side settling.Store) = tt
repair_passes g (repair.Free slot side settling.Flush) = tt
repair_passes g (repair.Free slot side settling.Fence) = tt
repair_passes g (repair.Unmark settling.Store) = tt
repair_passes g (repair.Unmark settling.Flush) = tt
repair_passes g (repair.Unmark settling.Fence) = tt
repair_passes g s = tt

-- and so does the redirecting
redirect_tries : (op : RedirectOp) (s : RedirectStep) → (s ≡ redirect.Guard) ⊎ Passes (redirect_kind op s)
redirect_tries op redirect.Guard = inl refl
redirect_tries op (redirect.Store index) = inr (round_passes _ (rounds_wanted op.rounds _))
redirect_tries op redirect.Settle = inr (round_passes _ (rounds_wanted op.rounds None))
redirect_tries op s = inr tt

mend_passes : (op : MendOp) (s : MendStep) → Passes (mend_kind op s)
mend_passes op (mend.Round stage n rounds) = round_passes _ (rounds_wanted rounds _)
mend_passes op s = tt

-- ---- neither has the guard
-- beside a stale segment it has not that of the directory
no_directory : (v : View) (s : ℕ) → v.areas ≡ Stale s ∷ Segment s ∷ [] → Has Directory v.areas → ⊥
no_directory v s areas has = elim (subst (Has Directory) areas has) [
  | inl stale ↦ absurd (cc)
  | inr one ↦ elim one [ inl segment ↦ absurd (cc) | inr none ↦ none ]
]

none_has : (v : View) → v.areas ≡ [] → Has Directory v.areas → ⊥
none_has v areas has = subst (Has Directory) areas has

module _ (wins : WinsWhereFree) (site : Ground) (here : Site) (call : Call) (v : View) where
  call_none : (op : Op) (n c : ℕ) → work_of op ≡ of_calls → op_part.kind op n ≡ of_structure (takes of_directory c) → ⊥
  call_none op n c own is = (let k = call_kind op n own in let same = sym k.1 ∙ is in cc)

  tries_without : (op : Op) (n c : ℕ) → op_part.Stands site here call op v → op_part.kind op n ≡ of_structure (takes of_directory c) → Has Directory v.areas → ⊥
  tries_without (Read op) n c stands is has = call_none (Read op) n c refl is
  tries_without (Write op) n c stands is has = call_none (Write op) n c refl is
  tries_without (Move op) n c stands is has = call_none (Move op) n c refl is
  tries_without (Stash op) n c stands is has = call_none (Stash op) n c refl is
  tries_without (Release op) n c stands is has = call_none (Release op) n c refl is
  tries_without (Enclose op) n c stands is has = no_takes _ (enclose_passes op.enclosed op.step) c is
  tries_without (Split op) n c stands is has = no_takes _ (split_passes op op.step) c is
  tries_without (Publish op) n c stands is has = elim (publish_tries op op.step) [
    | inl trying ↦ wins.others site here call op v stands.stands (ap is_trying trying) has
    | inr passes ↦ no_takes _ passes c is
  ]
  tries_without (Rest op) n c stands is has = no_takes _ (rest_passes op op.step) c is
  tries_without (Repair op) n c stands is has = no_takes _ (repair_passes op.guarded op.step) c is
  tries_without (Redirect op) n c stands is has = elim (redirect_tries op op.step) [
    | inl trying ↦ no_directory v op.guarded.segment (subst (λ (s : RedirectStep). RedirectSuits site here call op s v) trying stands.stands).0.areas has
    | inr passes ↦ no_takes _ passes c is
  ]
  tries_without (Mend op) n c stands is has = no_takes _ (mend_passes op op.step) c is

  -- nor has one that waits
  waits_without : (op : Op) → op_part.is_waiting op ≡ true → op_part.Stands site here call op v → Has Directory v.areas → ⊥
  waits_without (Publish op) waits stands has = wins.others site here call op v stands.stands waits has
  waits_without op waits stands has = absurd (false≢true waits)

-- ---- who has it
module _ (bare : BeginsBare) (wins : WinsWhereFree) (site : Ground) (start : Words) (core : Core) (h : CoreHolds site start core) (j : ℕ) where
  runs_it : (k : ℕ) → k ≢ j → (c : Caller) → slice_get core.callers k ≡ Some c → (u : View) → At h.views k u → Has Directory u.areas → (o : Option Engine) → c.engine ≡ o → DoesCall site c o u
      → IsHeldByOther core j
  runs_it k apart c at u seat has None runs through = absurd (none_has u through.nothing.areas has)
  runs_it k apart c at u seat has (Some e) runs calling = record {
    place = k;
    elsewhere = apart;
    caller = c;
    there = at;
    engine = e;
    runs = runs;
    midst = λ fresh. none_has u (bare site c.site calling.call e u fresh calling.suits.suits.stands).areas has;
    goes_on = elim (cases_Bool (op_part.is_waiting e.op)) [
      | inl waits ↦ absurd (waits_without wins site c.site calling.call u e.op waits calling.suits.suits.stands has)
      | inr none ↦ none
    ];
    site = site;
    start = start;
    holds = h;
    view = u;
    seated = seat;
    has = has;
  }

  by_seat : (k : ℕ) (u : View) → At (fresh_view 0 ∷ h.views) k u → k ≢ suc j → Has Directory u.areas → IsHeldByOther core j
  by_seat zero u seat apart has = absurd (none_has u (ap (λ (x : View). x.areas) (sym (some-injective (fresh_view 0) u seat))) has)
  by_seat (suc k) u seat apart has =
      let z = caller_at site core.callers h.views k u h.each seat in
      runs_it k (λ same. apart (ap suc same)) z.0 z.1 u seat has z.0.engine refl z.2.does

module _ (laws : CallCauses) (bare : BeginsBare) (wins : WinsWhereFree) (opens : OpenedHolds) (keeps : TurnKeeps) (shape : Shape) (words : List ℕ) (image : IsServedImage shape words)
    (scripts : List (List Call)) (are : AreScripts scripts) (turns : List ℕ) (j : ℕ) (e : Engine) (n : IsNext (there opens keeps shape words image scripts are turns) j e) where
  abbrev site : Ground
  site = site_there opens keeps shape words image scripts are turns

  abbrev w : Watched
  w = there opens keeps shape words image scripts are turns

  abbrev h : CoreHolds site (slice_index words) w.core
  h = holds_there opens keeps shape words image scripts are turns

  abbrev views : List View
  views = fresh_view 0 ∷ h.views

  abbrev seated : IsSeated site w.core.words views (suc j) n.caller.site n.call e (w.doings j)
  seated = seat_there opens keeps shape words image scripts are turns laws j n.caller n.call e n.there n.calls n.runs

  abbrev found : ℕ
  found = w.core.words (word_of shape (wanted e))

  held_by_other : tries_now shape w.core.words e ≡ true → IsHeldByOther w.core j
  held_by_other vain =
      let lost : IsLostTry shape (wanted e) found = lost_try shape (wanted e) found vain in
      let step = seat_steps laws.part site w.core.words views h.well.holds (suc j) n.caller.site n.call e (w.doings j) seated in
      let kind : StepKind = op_part.kind e.op (finds op_part site w.core.words e.op) in
      let t = takes_directory site seated.view kind lost.old lost.new (sym step.wants ∙ lost.is) step.may in
      let value : w.core.words (directory_guard shape) ≡ found = ap (λ x. w.core.words (word_of shape x)) (sym lost.is) in
      let taken : w.core.words (directory_guard shape) ≢ 0 = (λ none. lost.other (sym value ∙ (none ∙ sym t.1))) in
      let holder = h.well.holds.structure.held_guards of_directory tt taken in
      by_seat bare wins site (slice_index words) w.core h j holder.0 holder.1 holder.2
      (λ same. tries_without wins site n.caller.site n.call seated.view e.op (finds op_part site w.core.words e.op) t.0.0 seated.suits.stands t.0.1
      (subst (λ (u : View). Has Directory u.areas) (same_view holder.0 holder.1 holder.2 same) holder.3))
      holder.3
    where
      same_view : (i : ℕ) (u : View) → At views i u → i ≡ suc j → u ≡ seated.view
      same_view i u at same = some-injective u seated.view (sym (subst (λ k. At views k u) same at) ∙ seated.at)

pub tries_are_others : CallCauses → BeginsBare → WinsWhereFree → OpenedHolds → TurnKeeps → TriesAreOthers
tries_are_others laws bare wins opens keeps shape words image scripts are turns j e n vain =
    held_by_other laws bare wins opens keeps shape words image scripts are turns j e n vain
