-- WHO IS ALONE splits no segment but one without room, and repairs none but one that is stale: where it is decided that a segment is to be split there is no
-- room, and no event makes room until that is enclosed; where it is told that one is stale it is, and stays so until it has the image's version.
use Rattle.std.proofs.Common.{◌≡◌, ◌≢◌, ℕ, ◌+◌, ◌*◌, ◌^◌, ◌<◌, inl, inr, Bool, true, false, cond, Option, None, Some, List, refl, sym, ◌∙◌, ap, subst, arith}
use Rattle.std.specs.Prelude.{nat_lt, ◌==◌, ◌||◌}
use Rattle.std.proofs.lemmas.Bool.{cases_lt, lt-ltb, le-ltb, false≢true}
use Rattle.std.proofs.lemmas.Option.{none-some, same_Some}
use Rattle.op_core.specs.declared.want.Want.{Want}
use Rattle.op_core.specs.declared.want.Want.TheVariants.{Done}
use Rattle.trace.specs.Events.{Words, with_word}
use Rattle.trace.proofs.Replaced.{replaced_other}
use Rattle.segment_head.specs.HeadWord.{version_in, state_in, is_live, normal, splitting}
use Rattle.image_layout.specs.Places.{Shape, root_word, first_segment, bucket_at}
use Rattle.sound_image.specs.Records.{key_hash}
use Rattle.map_model.specs.declared.call.Call.{Call}
use Rattle.map_model.specs.Map.{key_of}
use Rattle.way.specs.Ways.{head_word}
use Rattle.world.specs.declared.site.Site.{Site}
use Rattle.world.specs.Ground.{Ground, IsLockWord, version_of}
use Rattle.world.specs.Views.{View, At}
use Rattle.world.specs.Wants.{answer_to, word_of, words_after}
use Rattle.world.specs.Invariant.{Holds}
use Rattle.world.specs.StepKinds.{of_structure}
use Rattle.world.specs.areas.Areas.{header_word}
use Rattle.world.specs.areas.Rows.{renews}
use Rattle.world.specs.areas.Kinds.{moves}
use Rattle.world.proofs.stepping.Answers.{finds_newest}
use Rattle.world.proofs.moving.Known.{possible_now}
use Rattle.part.specs.Doings.{Doings}
use Rattle.part.specs.Outcomes.{Outcome, stale, need_split, finished}
use Rattle.part.specs.Causes.{IsStale}
use Rattle.part.specs.Part.{Suits, finds, next}
use Rattle.part.specs.Room.{HasNoRoom}
use Rattle.part.specs.Then.{Then, first, second, passed}
use Rattle.part.specs.Either.{one, other}
use Rattle.phase.specs.declared.role.Role.{Role}
use Rattle.phase.specs.Helds.{give_next, give_wanted_of}
use Rattle.phase.specs.Stands.{IsThere}
use Rattle.phase.specs.Giving.{IsLocated}
use Rattle.phase.specs.Places.{lock_word}
use Rattle.phase.proofs.locks.Giving.{is_lock}
use Rattle.write_op.specs.declared.op.WriteOp.{WriteOp}
use Rattle.write_op.specs.ChangePart.{change_part}
use Rattle.move_op.specs.declared.op.MoveOp.{MoveOp}
use Rattle.move_op.specs.MovePart.{move_part}
use Rattle.stash_op.specs.declared.op.StashOp.{StashOp}
use Rattle.stash_op.specs.StashPart.{stash_part}
use Rattle.release_op.specs.declared.op.ReleaseOp.{ReleaseOp}
use Rattle.release_op.specs.Steps.{held_in}
use Rattle.release_op.specs.ReleasePart.{release_part}
use Rattle.release_op.specs.Split.{NeedsSplitNow}
use Rattle.enclose_op.specs.declared.enclosed.Enclosed.{Enclosed}
use Rattle.enclose_op.specs.declared.op.EncloseOp.{EncloseOp}
use Rattle.enclose_op.specs.declared.op.EncloseStep.{EncloseStep}
use Rattle.enclose_op.specs.declared.op.EncloseStep.TheVariants as enclose
use Rattle.enclose_op.specs.Steps.{wanted_in as enclose_wanted_in, next_in as enclose_next_in}
use Rattle.enclose_op.specs.Fits.{outcome_of as enclose_outcome_of, outcome_at as enclose_outcome_at, SuitsStep as EncloseSuits}
use Rattle.enclose_op.specs.EnclosePart.{enclose_part, segment_of, FindsRoom, KeepsRoom}
use Rattle.enclose_op.proofs.Rooms.{same_room}
use Rattle.split_op.specs.declared.op.SplitOp.{SplitOp}
use Rattle.split_op.specs.SplitPart.{split_part}
use Rattle.split_op.specs.Steps.{split_of}
use Rattle.directory_op.specs.declared.op.DirectoryOp.{DirectoryOp}
use Rattle.directory_op.specs.DirectoryPart.{directory_part}
use Rattle.rest_op.specs.declared.op.RestOp.{RestOp}
use Rattle.rest_op.specs.RestPart.{rest_part}
use Rattle.repair_op.specs.declared.op.RepairOp.{RepairOp}
use Rattle.repair_op.specs.declared.step.RepairStep.{RepairStep}
use Rattle.repair_op.specs.declared.step.RepairStep.TheVariants as repair
use Rattle.repair_op.specs.Guarded.{RunsHere}
use Rattle.repair_op.specs.Steps.{wanted_in as repair_wanted_in}
use Rattle.repair_op.specs.Stands.{kind_at as repair_kind}
use Rattle.repair_op.specs.RepairPart.{repair_part}
use Rattle.redirect_op.specs.declared.op.RedirectOp.{RedirectOp}
use Rattle.redirect_op.specs.RedirectPart.{redirect_part}
use Rattle.mend_op.specs.declared.op.MendOp.{MendOp}
use Rattle.mend_op.specs.MendPart.{mend_part}
use Rattle.engine.specs.declared.engine.Op.{Op}
use Rattle.engine.specs.declared.engine.Op.TheVariants.{Read, Write, Move, Stash, Release, Enclose, Split, Publish, Rest, Repair, Redirect, Mend}
use Rattle.engine.specs.OpPart.{OpState, state_of, move_of, stash_of, release_of, stash_or_release, entered, after_move, move_or_more, publish_of, rest_after, publish_and_rest, split_and_more, whole_split, split_segment_in, redirect_of, mend_of, redirect_and_mend, after_guard, whole_repair, repaired_segment_in, named, op_part, calls, work_of}
use Rattle.engine.specs.Left.{is_stale}
use Rattle.engine.specs.Alone.{IsStaleIn, TellsStale, TellsFull, IsDue}
use Rattle.engine.specs.Causes.{CallCauses}
use Rattle.engine.proofs.machines.Ops.{call_kind}
use Rattle.engine.proofs.holding.Served.{sound_now}
use Rattle.engine.proofs.attempts.Stepping.{work_in, work_is, CausedIn, op_caused, op_stays}
use Rattle.engine.proofs.lonely.Looking.{header_none}
use Rattle.engine.proofs.lonely.counts.Storing.{no_renews, repair_spares, repair_frees, repairs_at, redirect_spares, mend_spares, mend_renews, mends_at}
use Rattle.engine.proofs.lonely.counts.Stale.{stale_test, slot_stale, version_now}
use Rattle.engine.proofs.lonely.Repairing.{finds_current, renewed_same, renew_renews}

-- what is used of the machines
pub record RoomLaws : Type 0 where
  pub splits : NeedsSplitNow
  pub finds : FindsRoom
  pub keeps : KeepsRoom

-- ---- a store to a lock word makes no room
meta_none : (shape : Shape) (s b : ℕ) → IsLockWord shape (bucket_at shape s b + 1) → ⊥
meta_none shape s b lock = by (first_segment shape) s b lock.0 lock.1 lock.4
  where
    by : (f s b q c : ℕ) → f + 2144 * s + 32 + 32 * b + 1 ≡ f + 2144 * q + 32 + 32 * c → ⊥
    by f s b q c is = omega (arith, is)

module _ (site : Ground) (words : Words) (number s hash : ℕ) where
  lock_keeps : (lock value : ℕ) → IsLockWord site.shape lock → HasNoRoom site.shape words s hash → HasNoRoom site.shape (with_word words lock value) s hash
  lock_keeps lock value is had =
      same_room site.shape words (with_word words lock value) s hash
      (replaced_other words lock value (header_word site.shape s) (λ same. header_none site.shape s (subst (IsLockWord site.shape) (sym same) is)))
      (λ b near. replaced_other words lock value (bucket_at site.shape s b + 1) (λ same. meta_none site.shape s b (subst (IsLockWord site.shape) (sym same) is))) had

  give_keeps : (here : Site) (key segment : ℕ) (o : Option (Role × ℕ)) → IsLocated site here segment → HasNoRoom site.shape words s hash
      → HasNoRoom site.shape (words_after site.shape (give_wanted_of here key segment o) number words) s hash
  give_keeps here key segment (Some next) located had = lock_keeps (lock_word here key segment next.0) _ (is_lock site here key segment located next.0) had
  give_keeps here key segment None located had = had

-- ---- a segment that is enclosed is current, where it is found to have room
module _ (site : Ground) (here : Site) (call : Call) (words : Words) (views : List View) (j : ℕ) (v : View) (h : Holds site words views) (at : At views j v) (e : Enclosed) where
  abbrev IsOfVersion : Type 0
  IsOfVersion = version_in (words (header_word site.shape e.segment)) ≡ version_of site

  there_current : IsThere site e.segment v.facts → IsOfVersion
  there_current there = (h.structure.says j v _ words at there.current (possible_now site words views h)).current

  current_at : (s : EncloseStep) (n : ℕ) → EncloseSuits site here call e s v → enclose_wanted_in e s ≢ Done → enclose_outcome_at s ≡ None
      → enclose_outcome_at (enclose_next_in e s (answer_to (enclose_wanted_in e s) n)).step ≡ Some finished → IsOfVersion
  current_at enclose.Guard n suits asks none some = there_current suits.1
  current_at (enclose.Lock b take) n suits asks none some = there_current suits.0.there
  current_at enclose.Head n suits asks none some = there_current suits.0.there
  current_at (enclose.Fill i) n suits asks none some = there_current suits.0.taking.there
  current_at (enclose.CountSpent b) n suits asks none some = absurd (let same = same_Some _ finished some in cc)
  current_at enclose.CountDeep n suits asks none some = there_current suits.0.headed.taking.there
  current_at (enclose.Give give end) n suits asks none some = absurd (none-some (enclose_outcome_of end) (sym none))
  current_at (enclose.Ended end) n suits asks none some = absurd (none-some (enclose_outcome_of end) (sym none))
  current_at enclose.Whole n suits asks none some = absurd (asks refl)

-- ---- a small number is no header of a live segment
small_is_dead : (head : ℕ) → head < 2 ^ 8 → is_live head ≡ true → ⊥
small_is_dead head small live =
    let none : state_in head ≡ 0 = omega (arith, small) in
    absurd (false≢true (subst (λ n. ((n == normal) || (n == splitting)) ≡ true) none live))

module _ (site : Ground) (words : Words) (views : List View) (h : Holds site words views) where
  root_small : words root_word < 2 ^ 8
  root_small =
      let low = (sound_now site words views h).sound.root in
      let most = h.site_is.shape.depth in
      omega (arith, low, most)

  -- the header of a segment is that of a slot, or no segment's
  head_is : (segment : ℕ) → segment < site.shape.segments → words (head_word site.shape segment) ≡ words (header_word site.shape segment)
  head_is segment within = ap (λ b. words (cond b (header_word site.shape segment) root_word)) (lt-ltb segment site.shape.segments within)

  none_beyond : (segment : ℕ) → nat_lt segment site.shape.segments ≡ false → words (head_word site.shape segment) ≡ words root_word
  none_beyond segment none = ap (λ b. words (cond b (header_word site.shape segment) root_word)) none

  -- WHAT IS TOLD STALE is so
  is_stale_now : (did : Doings) (call : Call) (event : Want) (version segment byte : ℕ) → version ≡ version_of site → IsStale site.shape words did call event version segment byte
      → IsStaleIn site.shape words segment
  is_stale_now did call event version segment byte same c =
      let newest : words (head_word site.shape segment) ≡ c.head = (finds_newest site.shape words event (head_word site.shape segment) c.head c.looked).1 in
      elim (cases_lt segment site.shape.segments) [
        | inl within ↦
            let head : c.head ≡ words (header_word site.shape segment) = sym newest ∙ head_is segment within in (
              within,
              subst (λ n. is_stale words n ≡ true) head
                  (stale_test words c.head c.live (λ current. c.other (sym c.found ∙ (current ∙ (version_now site words views h ∙ sym same))))),
            )
        | inr beyond ↦
            let root : words root_word ≡ c.head = sym (none_beyond segment (le-ltb segment site.shape.segments beyond)) ∙ newest in
            absurd (small_is_dead c.head (subst (λ n. n < 2 ^ 8) root root_small) c.live)
      ]

-- ---- in the world, for the caller with this view
module _ (laws : CallCauses) (rooms : RoomLaws) (site : Ground) (here : Site) (call : Call) (words : Words) (views : List View) (j : ℕ) (before v : View) (h : Holds site words views)
    (at : At views j v) (did : Doings) (number : ℕ) (version : here.version ≡ version_of site) where
  abbrev hash : ℕ
  hash = key_hash site.shape (key_of call)

  -- the words behind the next event of a machine
  abbrev later : Op → Words
  later op = words_after site.shape (op_part.wanted op) number words

  abbrev IsDueThen : Op → Type 0
  IsDueThen op = IsDue site.shape (later op) call (next op_part site words op)

  -- where that renews no segment, one that is stale is so behind it
  abbrev pub StaysStale : Op → Type 0
  StaysStale op = ((s x : ℕ) → op_part.kind op (finds op_part site words op) ≡ of_structure (moves renews s x) → ⊥) → (s : ℕ) → IsStaleIn site.shape words s → IsStaleIn site.shape (later op) s

  module _ (op : Op) (s : Suits op_part site here call op before v) (asks : op_part.wanted op ≢ Done) (small : finds op_part site words op < 2 ^ 64) (r : op_part.Remembers site op did)
      (stays : StaysStale op) where
    -- ---- a machine of the call itself tells of no segment but one that is stale
    call_renews_none : work_of op ≡ calls → (s x : ℕ) → op_part.kind op (finds op_part site words op) ≡ of_structure (moves renews s x) → ⊥
    call_renews_none own s x is = (let k = call_kind op (finds op_part site words op) own in let same = sym k.1 ∙ is in cc)

    by_state : (m : OpState) → work_in m ≡ calls → (segment byte : ℕ) → CausedIn laws.causes site here call words views j before v h at did m (stale segment byte) → IsStaleIn site.shape words segment
    by_state (one m) own segment byte c = is_stale_now site words views h did call _ here.version segment byte version c
    by_state (other (one m)) own segment byte c = absurd (cc)
    by_state (other (other m)) own segment byte c = absurd (cc)

    tells_stale : work_of op ≡ calls → TellsStale site.shape words op → TellsStale site.shape (later op) (next op_part site words op)
    tells_stale own had segment byte some = stays (call_renews_none own) segment (by (op_part.outcome op) refl)
      where
        by : (o : Option Outcome) → op_part.outcome op ≡ o → IsStaleIn site.shape words segment
        by None none =
            by_state (state_of op) (sym (work_is op) ∙ own) segment byte
            (op_caused laws.causes site here call words views j before v h at did op s asks small r (stale segment byte) none some)
        by (Some outcome) told =
            had segment byte (told ∙ (sym (op_stays laws.causes op (answer_to (op_part.wanted op) (finds op_part site words op)) outcome told) ∙ some))

  -- one that gives back has decided nothing when it begins
  release_due : (ws : Words) (op : StashOp) → IsDue site.shape ws call (Release (release_of op))
  release_due ws op = (λ segment byte some. absurd (none-some (stale segment byte) some), λ segment some. absurd (none-some (need_split segment) some))

  -- what goes on from one that is not decided tells of none either
  write_on : (ws : Words) (t : Bool) (op : WriteOp) → TellsStale site.shape ws (named (one (other (passed change_part move_or_more (λ x. first (move_of x)) t op))))
      → IsDue site.shape ws call (named (one (other (passed change_part move_or_more (λ x. first (move_of x)) t op))))
  write_on ws true op tells = tells
  write_on ws false op tells = tells

  stash_on : (ws : Words) (t : Bool) (op : StashOp) → TellsStale site.shape ws (named (one (other (second (second (entered t op))))))
      → IsDue site.shape ws call (named (one (other (second (second (entered t op))))))
  stash_on ws true op tells = release_due ws op
  stash_on ws false op tells = tells

  move_on : (ws : Words) (t : Bool) (op : MoveOp) → TellsStale site.shape ws (named (one (other (second (passed move_part stash_or_release after_move t op)))))
      → IsDue site.shape ws call (named (one (other (second (passed move_part stash_or_release after_move t op)))))
  move_on ws true op tells = stash_on ws (stash_part.hands_on (stash_of op)) (stash_of op) tells
  move_on ws false op tells = tells

  release_on : (op : ReleaseOp) → Suits op_part site here call (Release op) before v → op_part.wanted (Release op) ≢ Done → op_part.Remembers site (Release op) did
      → TellsFull site.shape words call (Release op) → TellsFull site.shape (later (Release op)) call (next op_part site words (Release op))
  release_on op s asks r had segment some =
      give_keeps site words number segment hash op.kept.site op.kept.hash op.kept.segment (give_next (held_in op.kept op.step)) s.stands.located (by (release_part.outcome op) refl)
    where
      by : (o : Option Outcome) → release_part.outcome op ≡ o → HasNoRoom site.shape words segment hash
      by None none =
          rooms.splits site here call words views j op before v did h at (record { stands = s.stands; enters = s.enters; callers = s.callers }) r asks none segment some
      by (Some outcome) told =
          let stays = laws.causes.call.stays (other (second (second (second op)))) (answer_to (release_part.wanted op) (finds release_part site words op)) outcome told in
          had segment (told ∙ (sym stays ∙ some))

  -- ---- a machine of a split
  split_on : (ws : Words) (t : Bool) (op : SplitOp) → IsDue site.shape ws call (named (other (one (second (passed split_part publish_and_rest (λ x. first (publish_of x)) t op)))))
  split_on ws true op = tt
  split_on ws false op = tt

  publish_on : (ws : Words) (t : Bool) (op : DirectoryOp)
      → IsDue site.shape ws call (named (other (one (second (second (passed directory_part rest_part rest_after t op))))))
  publish_on ws true op = tt
  publish_on ws false op = tt

  module _ (op : EncloseOp) (s : Suits op_part site here call (Enclose op) before v) (asks : op_part.wanted (Enclose op) ≢ Done) (small : finds op_part site words (Enclose op) < 2 ^ 64)
      (had : IsDue site.shape words call (Enclose op)) where
    abbrev behind : EncloseOp
    behind = next enclose_part site words op

    suits : Suits enclose_part site here call op before v
    suits = record { stands = s.stands.stands; enters = s.enters; callers = s.callers }

    within : segment_of op < site.shape.segments
    within = s.stands.stands.is.located.within

    -- what is decided stays, and the segment is the same
    abbrev on : Bool → Then EncloseOp (Then SplitOp (Then DirectoryOp RestOp))
    on t = passed enclose_part split_and_more (λ x. first (split_of x.enclosed)) t behind

    same : (t : Bool) → enclose_part.hands_on behind ≡ t → split_segment_in (on t) ≡ segment_of op
    same t hands = ap (λ (u : Bool). split_segment_in (on u)) (sym hands) ∙ laws.causes.split.same_segment (first op) (answer_to (enclose_part.wanted op) (finds enclose_part site words op))

    stays : (outcome : Outcome) → enclose_part.outcome op ≡ Some outcome → (t : Bool) → enclose_part.hands_on behind ≡ t → whole_split.outcome (on t) ≡ Some outcome
    stays outcome told t hands =
        ap (λ (u : Bool). whole_split.outcome (on u)) (sym hands) ∙ laws.causes.split.stays (first op) (answer_to (enclose_part.wanted op) (finds enclose_part site words op)) outcome told

    not_done : enclose_part.hands_on behind ≡ false → enclose_part.outcome behind ≢ Some finished
    not_done hands some = by (enclose_part.outcome op) refl
      where
        by : (o : Option Outcome) → enclose_part.outcome op ≡ o → ⊥
        by None none =
            rooms.finds site here call words views j op before v h at suits asks small none some
            (current_at site here call words views j v h at op.enclosed op.step (finds enclose_part site words op) s.stands.stands.view asks none some) had.0
        by (Some outcome) told = had.1 (told ∙ (sym (stays outcome told false hands) ∙ some))

    enclosed_on : (t : Bool) → enclose_part.hands_on behind ≡ t → IsDue site.shape (later (Enclose op)) call (named (other (one (passed enclose_part split_and_more (λ x. first (split_of x.enclosed)) t behind))))
    enclosed_on true hands = tt
    enclosed_on false hands = (
      subst (λ segment. HasNoRoom site.shape (later (Enclose op)) segment hash) (sym (same false hands))
          (rooms.keeps site here call words op before v suits number (segment_of op) hash within had.0),
      not_done hands,
    )

  -- ---- a machine of a repair
  -- the entries are redirected, or the mending goes on at once
  redirect_due : (ws : Words) (t : Bool) (op : RedirectOp) → IsStaleIn site.shape ws op.guarded.segment → IsDue site.shape ws call (named (other (other (second (passed redirect_part mend_part mend_of t op)))))
  redirect_due ws true op is = λ new. is
  redirect_due ws false op is = is

  -- which works on the same segment
  in_redirect : (t : Bool) (op : RedirectOp) → repaired_segment_in (second (passed redirect_part mend_part mend_of t op)) ≡ op.guarded.segment
  in_redirect true op = refl
  in_redirect false op = refl

  module _ (op : RepairOp) (s : Suits op_part site here call (Repair op) before v) (stays : StaysStale (Repair op)) (had : IsDue site.shape words call (Repair op)) where
    abbrev guarding : RepairOp
    guarding = next repair_part site words op

    in_repair : (t : Bool) → repaired_segment_in (passed repair_part redirect_and_mend after_guard t guarding) ≡ guarding.guarded.segment
    in_repair true = in_redirect (redirect_part.hands_on (redirect_of guarding)) (redirect_of guarding)
    in_repair false = refl

    same_guarded : guarding.guarded.segment ≡ op.guarded.segment
    same_guarded = sym (in_repair (repair_part.hands_on guarding)) ∙ laws.causes.repair.same_segment (first op) (answer_to (repair_part.wanted op) (finds repair_part site words op))

    renews_none : (x y : ℕ) → repair_part.kind op (finds repair_part site words op) ≡ of_structure (moves renews x y) → ⊥
    renews_none x y is = elim (repairs_at op.guarded op.step) [
      | repair_spares spares ↦ no_renews (repair_part.kind op (finds repair_part site words op)) spares x y is
      | repair_frees slot side store ↦ absurd (let kind = sym (ap (λ (z : RepairStep). repair_kind op.guarded z) store) ∙ is in cc)
    ]

    stale_on : IsStaleIn site.shape (later (Repair op)) guarding.guarded.segment
    stale_on = subst (IsStaleIn site.shape (later (Repair op))) (sym same_guarded) (stays renews_none op.guarded.segment had.0)

    runs : RunsHere site here op.guarded
    runs = s.stands.stands.here_is

    -- the header that it loads is that of the segment
    head_loaded : op.step ≡ repair.Head → finds repair_part site words op ≡ words (header_word site.shape op.guarded.segment)
    head_loaded step =
        ap (λ (z : RepairStep). words (word_of site.shape (repair_wanted_in op z))) step ∙ (ap (λ (g : Shape). words (head_word g op.guarded.segment)) runs.shape ∙ head_is site words views h op.guarded.segment had.0.0)

    not_current : repair_part.hands_on guarding ≡ false → repair_part.outcome guarding ≢ Some finished
    not_current hands some = by (repair_part.outcome op) refl
      where
        by : (o : Option Outcome) → repair_part.outcome op ≡ o → ⊥
        by None none =
            let found = finds_current op op.step (finds repair_part site words op) none some in
            (slot_stale site words (version_now site words views h) op.guarded.segment had.0.0 had.0.1).old
            (ap version_in (sym (head_loaded found.0)) ∙ (found.1 ∙ runs.version))
        by (Some outcome) told =
            let on = ap (λ (u : Bool). whole_repair.outcome (passed repair_part redirect_and_mend after_guard u guarding)) (sym hands)
            ∙ laws.causes.repair.stays (first op) (answer_to (repair_part.wanted op) (finds repair_part site words op)) outcome told in
            had.1 (told ∙ (sym on ∙ some))

    repair_on : (t : Bool) → repair_part.hands_on guarding ≡ t → IsDue site.shape (later (Repair op)) call (named (other (other (passed repair_part redirect_and_mend after_guard t guarding))))
    repair_on true hands = redirect_due (later (Repair op)) (redirect_part.hands_on (redirect_of guarding)) (redirect_of guarding) stale_on
    repair_on false hands = (stale_on, not_current hands)

  module _ (op : RedirectOp) (stays : StaysStale (Redirect op)) (had : IsDue site.shape words call (Redirect op)) where
    abbrev directing : RedirectOp
    directing = next redirect_part site words op

    same_directed : directing.guarded.segment ≡ op.guarded.segment
    same_directed = sym (in_redirect (redirect_part.hands_on directing) directing) ∙ laws.causes.repair.same_segment (second (first op)) (answer_to (redirect_part.wanted op) (finds redirect_part site words op))

    redirect_on : IsDue site.shape (later (Redirect op)) call (next op_part site words (Redirect op))
    redirect_on =
        redirect_due (later (Redirect op)) (redirect_part.hands_on directing) directing
        (subst (IsStaleIn site.shape (later (Redirect op))) (sym same_directed)
        (stays (λ x y is. no_renews (redirect_part.kind op (finds redirect_part site words op)) (redirect_spares op op.step) x y is) op.guarded.segment had))

  module _ (op : MendOp) (asks : op_part.wanted (Mend op) ≢ Done) (stays : StaysStale (Mend op)) (had : IsDue site.shape words call (Mend op)) where
    abbrev mending : MendOp
    mending = next mend_part site words op

    same_mended : mending.guarded.segment ≡ op.guarded.segment
    same_mended = laws.causes.repair.same_segment (second (second op)) (answer_to (mend_part.wanted op) (finds mend_part site words op))

    mend_on : IsDue site.shape (later (Mend op)) call (Mend mending)
    mend_on new = elim (mends_at op op.step) [
      | mend_spares spares apart ↦
          subst (IsStaleIn site.shape (later (Mend op))) (sym same_mended)
          (stays (λ x y is. no_renews (mend_part.kind op (finds mend_part site words op)) spares x y is) op.guarded.segment
          (had (sym (renewed_same op op.step (answer_to (mend_part.wanted op) (finds mend_part site words op)) apart) ∙ new)))
      | mend_renews step ↦ absurd (let same : true ≡ false = sym (renew_renews op (finds mend_part site words op) op.step step) ∙ new in cc)
    ]

  -- WHAT IS DUE stays so
  pub due_on : (op : Op) → Suits op_part site here call op before v → op_part.wanted op ≢ Done → finds op_part site words op < 2 ^ 64 → op_part.Remembers site op did
      → StaysStale op → IsDue site.shape words call op → IsDueThen op
  due_on (Read op) s asks small r stays had = tells_stale (Read op) s asks small r stays refl had
  due_on (Write op) s asks small r stays had =
      write_on (later (Write op)) (change_part.hands_on (next change_part site words op)) (next change_part site words op) (tells_stale (Write op) s asks small r stays refl had)
  due_on (Move op) s asks small r stays had =
      move_on (later (Move op)) (move_part.hands_on (next move_part site words op)) (next move_part site words op) (tells_stale (Move op) s asks small r stays refl had)
  due_on (Stash op) s asks small r stays had =
      stash_on (later (Stash op)) (stash_part.hands_on (next stash_part site words op)) (next stash_part site words op) (tells_stale (Stash op) s asks small r stays refl had)
  due_on (Release op) s asks small r stays had = (tells_stale (Release op) s asks small r stays refl had.0, release_on op s asks r had.1)
  due_on (Enclose op) s asks small r stays had = enclosed_on op s asks small had (enclose_part.hands_on (next enclose_part site words op)) refl
  due_on (Split op) s asks small r stays had = split_on (later (Split op)) (split_part.hands_on (next split_part site words op)) (next split_part site words op)
  due_on (Publish op) s asks small r stays had = publish_on (later (Publish op)) (directory_part.hands_on (next directory_part site words op)) (next directory_part site words op)
  due_on (Rest op) s asks small r stays had = tt
  due_on (Repair op) s asks small r stays had = repair_on op s stays had (repair_part.hands_on (next repair_part site words op)) refl
  due_on (Redirect op) s asks small r stays had = redirect_on op stays had
  due_on (Mend op) s asks small r stays had = mend_on op asks stays had
