-- A machine of a call itself looks at the lock words of segments alone that its caller knows to be live and current; and it has no areas.
use Rattle.std.proofs.Common.{◌≡◌, ℕ, ◌+◌, ◌*◌, ◌^◌, ◌<◌, ◌≤◌, Bool, true, false, Option, None, Some, List, [], refl, sym, subst, arith}
use Rattle.std.specs.Prelude.{⊤, nat_le, nat_lt, if◌then◌else◌}
use Rattle.std.proofs.lemmas.Bool.{leb-true}
use Rattle.op_core.specs.declared.want.Want.{Want}
use Rattle.op_core.specs.declared.want.Want.TheVariants.{Load, Exchange}
use Rattle.op_core.specs.declared.want.Ans.{Ans}
use Rattle.op_core.specs.declared.want.Ans.TheVariants.{Value, Lost}
use Rattle.op_core.specs.Answers.{Finds}
use Rattle.hash_word.specs.Hash.{index_of}
use Rattle.trace.specs.Events.{Words}
use Rattle.image_layout.specs.Places.{Shape, root_word, entry_at, first_segment, head_at, bucket_at, buckets}
use Rattle.image_layout.specs.Volatile.{counter_word}
use Rattle.image_layout.proofs.Areas.{entry_before}
use Rattle.way.specs.Ways.{entry_word, head_word}
use Rattle.way.proofs.Indexes.{index_below}
use Rattle.frame_facts.specs.Facts.{Current}
use Rattle.map_model.specs.declared.call.Call.{Call}
use Rattle.map_model.specs.declared.change.Effect.{Effect}
use Rattle.map_model.specs.declared.change.Effect.TheVariants.{Insert, Update, Remove}
use Rattle.world.specs.declared.site.Site.{Site}
use Rattle.world.specs.Ground.{Ground, IsLockWord, IsCurrentLock, IsUnder}
use Rattle.world.specs.Views.{View, At}
use Rattle.world.specs.Kinds.{Kind, peeks, meets_root, meets_entry, meets_head, pins, finds_room, refuses, places, looks, glances_word, validates, learns, meets_lock, tries, wanted}
use Rattle.world.specs.StepKinds.{of_call}
use Rattle.world.specs.Conditions.{May, IsKnownLock}
use Rattle.world.specs.Invariant.{Holds}
use Rattle.world.proofs.moving.Known.{possible_now}
use Rattle.part.specs.Either.{one, other}
use Rattle.part.specs.Then.{first, second}
use Rattle.phase.specs.declared.walk.Walk.{Walk}
use Rattle.phase.specs.declared.walk.Walk.TheVariants as walk
use Rattle.phase.specs.declared.walk.Path.{Path}
use Rattle.phase.specs.declared.back.Back.{Back}
use Rattle.phase.specs.declared.back.Back.TheVariants as back
use Rattle.phase.specs.declared.take.Take.{Take}
use Rattle.phase.specs.declared.take.Take.TheVariants.{Look, Try}
use Rattle.phase.specs.declared.make.Make.{Make}
use Rattle.phase.specs.declared.make.Make.TheVariants as make
use Rattle.phase.specs.declared.make.Record.{Record}
use Rattle.phase.specs.declared.note.NoteWord.{NoteWord}
use Rattle.phase.specs.declared.note.NoteWord.TheVariants.{Mark, Fingers}
use Rattle.phase.specs.declared.role.Role.{Role}
use Rattle.phase.specs.Helds.{give_next}
use Rattle.phase.specs.Stands.{walk_kind, back_kind}
use Rattle.phase.specs.Taking.{take_kind}
use Rattle.phase.specs.Giving.{give_kind_of}
use Rattle.phase.specs.Making.{make_kind}
use Rattle.phase.proofs.locks.Giving.{known_lock}
use Rattle.read_op.specs.declared.step.Task.{Task as ReadTask}
use Rattle.read_op.specs.declared.step.ReadStep.{ReadStep}
use Rattle.read_op.specs.declared.step.ReadStep.TheVariants as read
use Rattle.read_op.specs.Fits.{IsIn as IsReadIn, leads as read_leads, kind_in as read_kind, suits_in as read_suits}
use Rattle.write_op.specs.declared.step.Task.{Task as WriteTask}
use Rattle.write_op.specs.declared.step.Seen.{Seen as WriteSeen}
use Rattle.write_op.specs.declared.step.Spot.{Spot}
use Rattle.write_op.specs.declared.step.WriteStep.{WriteStep}
use Rattle.write_op.specs.declared.step.WriteStep.TheVariants as write
use Rattle.write_op.specs.Search.{found as write_found, leaves_note, has_finger as write_has_finger, unnoted}
use Rattle.write_op.specs.Fits.{IsIn as IsWriteIn, publish_by, deciding_kind, inserting_kind, changing_kind, mark_kind as write_mark_kind, note_kind as write_note_kind, kind_at as write_kind}
use Rattle.write_op.proofs.keeping.Areas.{no_areas as write_no_areas}
use Rattle.move_op.specs.declared.step.Shift.{Shift}
use Rattle.move_op.specs.declared.step.Leg.{Leg}
use Rattle.move_op.specs.declared.step.Leg.TheVariants as leg
use Rattle.move_op.specs.declared.step.MoveStep.{MoveStep}
use Rattle.move_op.specs.declared.step.MoveStep.TheVariants as move
use Rattle.move_op.specs.Fits.{leg_kind, kind_at as move_kind}
use Rattle.move_op.proofs.keeping.Areas.{no_areas as move_no_areas}
use Rattle.phase.specs.declared.kept.Kept.{Kept}
use Rattle.stash_op.specs.declared.step.Seen.{Seen as StashSeen}
use Rattle.stash_op.specs.declared.step.StashStep.{StashStep}
use Rattle.stash_op.specs.declared.step.StashStep.TheVariants as stash
use Rattle.stash_op.specs.Search.{has_finger as stash_has_finger, noted}
use Rattle.stash_op.specs.Fits.{publish_kind as stash_publish_kind, mark_kind as stash_mark_kind, note_kind as stash_note_kind, kind_at as stash_kind}
use Rattle.stash_op.proofs.keeping.Areas.{no_areas as stash_no_areas}
use Rattle.release_op.specs.declared.op.ReleaseStep.{ReleaseStep}
use Rattle.release_op.specs.declared.op.ReleaseStep.TheVariants as release
use Rattle.release_op.specs.Steps.{held_in}
use Rattle.release_op.specs.ReleasePart.{kind_at as release_kind, SuitsStep as ReleaseSuits}
use Rattle.engine.specs.declared.engine.Op.{Op}
use Rattle.engine.specs.declared.engine.Op.TheVariants.{Read, Write, Move, Stash, Release}
use Rattle.engine.specs.OpPart.{CallState, call_part, op_part, calls, work_of}

-- ---- the word that an event is about, if it finds its value
abbrev pub IsAbout : Want → ℕ → Type 0
IsAbout (Load i) word = i ≡ word
IsAbout (Exchange i x y) word = i ≡ word
IsAbout w word = ⊥

pub finds_about : (w : Want) (a : Ans) (word seen : ℕ) → Finds w a word seen → IsAbout w word
finds_about (Load i) (Value n) word seen f = f.0
finds_about (Exchange i x y) (Lost n) word seen f = f.0
finds_about w a word seen f = absurd f

-- ---- which words are no lock words
module _ (shape : Shape) where
  abbrev IsNone : ℕ → Type 0
  IsNone i = IsLockWord shape i → ⊥

  pub root_none : IsNone root_word
  root_none lock = by (first_segment shape) lock.0 lock.1 lock.4
    where
      by : (f s b : ℕ) → 8 ≡ f + 2144 * s + 32 + 32 * b → ⊥
      by f s b is = omega (arith, is)

  pub header_none : (q : ℕ) → IsNone (head_at shape q + 1)
  header_none q lock = by (first_segment shape) q lock.0 lock.1 lock.4
    where
      by : (f q s b : ℕ) → f + 2144 * q + 1 ≡ f + 2144 * s + 32 + 32 * b → ⊥
      by f q s b is = omega (arith, is)

  pub counter_apart : (s b : ℕ) → b < buckets → counter_word shape ≡ bucket_at shape s b → ⊥
  counter_apart s b near is = by (first_segment shape) shape.segments s b near is
    where
      by : (f n s b : ℕ) → b < 66 → f + 2144 * n ≡ f + 2144 * s + 32 + 32 * b → ⊥
      by f n s b near is = omega (arith, near, is)

  pub counter_none : IsNone (counter_word shape)
  counter_none lock = counter_apart lock.0 lock.1 lock.3 lock.4

  entry_none : (e i : ℕ) → e ≤ shape.depth → i < 2 ^ e → IsNone (entry_at e i)
  entry_none e i within below lock = by (first_segment shape) (entry_at e i) lock.0 lock.1 (entry_before shape e i within below) lock.4
    where
      by : (f at s b : ℕ) → at < f → at ≡ f + 2144 * s + 32 + 32 * b → ⊥
      by f at s b before is = omega (arith, before, is)

  under_none : (lock i : ℕ) → IsLockWord shape lock → IsUnder lock i → IsNone i
  under_none lock i is under same =
      by (first_segment shape) is.0 is.1 same.0 same.1 lock i is.4 under.0 under.1 same.4
    where
      by : (f q c s b lock i : ℕ) → lock ≡ f + 2144 * q + 32 + 32 * c → lock < i → i < lock + 32 → i ≡ f + 2144 * s + 32 + 32 * b → ⊥
      by f q c s b lock i is above below at = omega (arith, is, above, below, at)

  head_by : (segment : ℕ) (t : Bool) → IsNone (if t then head_at shape segment + 1 else root_word)
  head_by segment true = header_none segment
  head_by segment false = root_none

  pub head_none : (segment : ℕ) → IsNone (head_word shape segment)
  head_none segment = head_by segment (nat_lt segment shape.segments)

  module _ (deep : shape.depth ≤ 16) (hash : ℕ) (fits : hash < 2 ^ 64) where
    entry_by : (root : ℕ) (t : Bool) → nat_le root shape.depth ≡ t → IsNone (if t then entry_at root (index_of root hash) else root_word)
    entry_by root true low =
        let within = leb-true root shape.depth low in entry_none root (index_of root hash) within (index_below root hash (omega (arith, within, deep)) fits)
    entry_by root false low = root_none

    way_none : (root : ℕ) → IsNone (entry_word shape hash root)
    way_none root = entry_by root (nat_le root shape.depth) refl

-- ---- in the world, for the caller with this view
module _ (site : Ground) (words : Words) (views : List View) (h : Holds site words views) (j : ℕ) (v : View) (at : At views j v) where
  pub known_current : (lock : ℕ) → IsKnownLock site v lock → IsCurrentLock site words lock
  known_current lock (s, b, within, near, is, lives, current) = (s, b, within, near, is, h.structure.says j v (Current s) words at current (possible_now site words views h))

  -- a lock word that is looked at is that of a current segment
  abbrev pub Looks : ℕ → Type 0
  Looks i = IsLockWord site.shape i → IsCurrentLock site words i

  -- so it is with the kinds that ask nothing of the word
  abbrev pub LooksAt : Kind → Type 0
  LooksAt (peeks i) = Looks i
  LooksAt (validates i) = Looks i
  LooksAt kind = ⊤

  -- THE LOCK that an event of such a kind is about
  pub by_kind : (kind : Kind) → May site kind v → LooksAt kind → (word : ℕ) → IsLockWord site.shape word → IsAbout (wanted site.shape kind) word → IsCurrentLock site words word
  by_kind (peeks i) may l word lock about = subst (IsCurrentLock site words) about (l (subst (IsLockWord site.shape) (sym about) lock))
  by_kind (validates i) may l word lock about = subst (IsCurrentLock site words) about (l (subst (IsLockWord site.shape) (sym about) lock))
  by_kind meets_root may l word lock about = absurd (root_none site.shape (subst (IsLockWord site.shape) (sym about) lock))
  by_kind (meets_entry e i) may l word lock about = absurd (entry_none site.shape e i may.1 may.2 (subst (IsLockWord site.shape) (sym about) lock))
  by_kind (meets_head s version) may l word lock about = absurd (header_none site.shape s (subst (IsLockWord site.shape) (sym about) lock))
  by_kind (pins s b) may l word lock about = absurd (header_none site.shape s (subst (IsLockWord site.shape) (sym about) lock))
  by_kind (finds_room call) may l word lock about = absurd (counter_none site.shape (subst (IsLockWord site.shape) (sym about) lock))
  by_kind (refuses call reply) may l word lock about = absurd (counter_none site.shape (subst (IsLockWord site.shape) (sym about) lock))
  by_kind (places k a) may l word lock about = absurd (counter_none site.shape (subst (IsLockWord site.shape) (sym about) lock))
  by_kind (looks i) may l word lock about = subst (IsCurrentLock site words) about (known_current i may)
  by_kind (meets_lock i) may l word lock about = subst (IsCurrentLock site words) about (known_current i may)
  by_kind (tries i free) may l word lock about = subst (IsCurrentLock site words) about (known_current i may.0)
  by_kind (glances_word bucket i) may l word lock about = absurd (under_none site.shape bucket i may.0 may.1 (subst (IsLockWord site.shape) (sym about) lock))
  by_kind (learns i) may l word lock about =
      let held = h.structure.fits.lock j v may.0 at may.1 in
      absurd (under_none site.shape may.0 i (held.segment, held.bucket, held.current.live.slot, held.near, held.is) may.2 (subst (IsLockWord site.shape) (sym about) lock))
  by_kind kind may l word lock about = absurd about

  -- ---- the kinds of the phases
  either_looks : (t : Bool) (k l : Kind) → LooksAt k → LooksAt l → LooksAt (if t then k else l)
  either_looks true k l p q = p
  either_looks false k l p q = q

  root_looks : Looks root_word
  root_looks lock = absurd (root_none site.shape lock)

  module _ (here : Site) (hash : ℕ) (same : here.geometry ≡ site.shape) (fits : hash < 2 ^ 64) where
    walk_looks : (w : Walk) → LooksAt (walk_kind here hash w)
    walk_looks walk.Power = tt
    walk_looks walk.Root = tt
    walk_looks (walk.Entry root) = either_looks (nat_le root here.geometry.depth) (meets_entry root (index_of root hash)) (peeks root_word) tt root_looks
    walk_looks (walk.Head root segment) = either_looks (nat_lt segment here.geometry.segments) (meets_head segment here.version) (peeks root_word) tt root_looks

    entry_looks : (root : ℕ) → Looks (entry_word here.geometry hash root)
    entry_looks root =
        subst (λ (g : Shape). Looks (entry_word g hash root)) (sym same) (λ lock. absurd (way_none site.shape h.site_is.shape.depth hash fits root lock))

    back_looks : (path : Path) (last : Kind) → LooksAt last → (b : Back) → LooksAt (back_kind here hash path last b)
    back_looks path last l back.Root = root_looks
    back_looks path last l back.Entry = entry_looks path.root
    back_looks path last l back.Head = l

  take_looks : (lock : ℕ) (take : Take) → LooksAt (take_kind lock take)
  take_looks lock Look = tt
  take_looks lock (Try free) = tt

  make_looks : (publish : ℕ → ℕ → Kind) → ((i x : ℕ) → LooksAt (publish i x)) → (lock : ℕ) (written : Record) (m : Make) → LooksAt (make_kind publish lock written m)
  make_looks publish p lock written make.Publish = p _ _
  make_looks publish p lock written make.Key = tt
  make_looks publish p lock written make.Value = tt
  make_looks publish p lock written make.Fingers = tt
  make_looks publish p lock written make.FlushFingers = tt
  make_looks publish p lock written make.FlushRecord = tt
  make_looks publish p lock written make.FenceRecord = tt
  make_looks publish p lock written make.FlushPublished = tt
  make_looks publish p lock written make.FencePublished = tt

  give_looks : (here : Site) (hash segment : ℕ) (o : Option (Role × ℕ)) → LooksAt (give_kind_of here hash segment o)
  give_looks here hash segment (Some next) = tt
  give_looks here hash segment None = root_looks

  -- ---- the machines
  get_looks : (task : ReadTask) → IsReadIn site task → (s : ReadStep) → read_suits site task s v → LooksAt (read_kind task s)
  get_looks task is (read.Way w) suits = walk_looks task.site task.hash is.shape is.fits w
  get_looks task is (read.Look s p) suits = tt
  get_looks task is (read.Fill s p load) suits = tt
  get_looks task is (read.Count s) suits =
      either_looks (read_leads task s) (places task.key s.value) (peeks (counter_word task.site.geometry)) tt
      (subst (λ (g : Shape). Looks (counter_word g)) (sym is.shape) (λ lock. absurd (counter_none site.shape lock)))
  get_looks task is (read.Check s placed b) suits =
      back_looks task.site task.hash is.shape is.fits s.path (validates (head_word task.site.geometry s.path.segment))
      (subst (λ (g : Shape). Looks (head_word g s.path.segment)) (sym is.shape) (λ lock. absurd (head_none site.shape s.path.segment lock))) b
  get_looks task is (read.Relook s placed p) suits = λ lock. known_current _ (known_lock site task.site task.hash s.path.segment p v is.shape suits.0.there)
  get_looks task is (read.Ended end) suits = subst (λ (g : Shape). Looks (counter_word g)) (sym is.shape) (λ lock. absurd (counter_none site.shape lock))

  module _ (task : WriteTask) (seen : WriteSeen) where
    inserting_looks : (o : Option Spot) → LooksAt (inserting_kind task seen o)
    inserting_looks (Some there) = tt
    inserting_looks None = tt

    changing_looks : (o : Option Spot) → LooksAt (changing_kind task seen o)
    changing_looks (Some there) = tt
    changing_looks None = tt

    deciding_looks : (effect : Effect) → LooksAt (deciding_kind task seen effect)
    deciding_looks (Insert value) = inserting_looks (write_found seen task.change.key)
    deciding_looks (Update value) = changing_looks (write_found seen task.change.key)
    deciding_looks Remove = changing_looks (write_found seen task.change.key)

    publish_looks : (t : Bool) (i x : ℕ) → LooksAt (publish_by task seen t i x)
    publish_looks true i x = tt
    publish_looks false i x = tt

    mark_looks : (t : Bool) (i x : ℕ) → LooksAt (write_mark_kind task seen t i x)
    mark_looks true i x = tt
    mark_looks false i x = tt

    note_looks : (part : NoteWord) → LooksAt (write_note_kind task seen part (unnoted task.hash seen))
    note_looks Mark = mark_looks (write_has_finger seen (unnoted task.hash seen)) _ _
    note_looks Fingers = tt

    change_looks : IsWriteIn site task → (s : WriteStep) (n : ℕ) → LooksAt (write_kind task seen s n)
    change_looks is (write.Way w) n = walk_looks task.site task.hash is.shape is.fits w
    change_looks is (write.Lock place take) n = take_looks _ take
    change_looks is (write.Check b) n = back_looks task.site task.hash is.shape is.fits seen.path _ tt b
    change_looks is (write.Fill place load) n = tt
    change_looks is write.Count n = either_looks (nat_le (2 ^ 63) n) _ _ tt (deciding_looks task.change.effect)
    change_looks is (write.Make m) n = make_looks _ (publish_looks (leaves_note task.change.effect seen.place)) _ _ m
    change_looks is write.Draw n = tt
    change_looks is (write.Unnote part place) n = note_looks part
    change_looks is write.CountSpent n = tt
    change_looks is (write.Give held end) n = give_looks task.site task.hash seen.path.segment (give_next held)
    change_looks is (write.Ended end) n = root_looks

  leg_looks : (kept : Kept) (shift : Shift) (l : Leg) (i x : ℕ) → LooksAt (leg_kind kept shift l i x)
  leg_looks kept shift leg.Copy i x = tt
  leg_looks kept shift leg.Clear i x = tt
  leg_looks kept shift leg.Insert i x = tt

  move_looks : (kept : Kept) (s : MoveStep) → LooksAt (move_kind kept s)
  move_looks kept (move.Lock direction take) = take_looks _ take
  move_looks kept (move.Fill direction load) = tt
  move_looks kept move.CountSpent = tt
  move_looks kept (move.Make shift l m) = make_looks _ (leg_looks kept shift l) _ _ m
  move_looks kept (move.Draw shift) = tt
  move_looks kept (move.Give held end) = give_looks kept.site kept.hash kept.segment (give_next held)
  move_looks kept (move.Ended end) = root_looks

  stash_mark_looks : (kept : Kept) (seen : StashSeen) (t : Bool) (i x : ℕ) → LooksAt (stash_mark_kind kept seen t i x)
  stash_mark_looks kept seen true i x = tt
  stash_mark_looks kept seen false i x = tt

  stash_note_looks : (kept : Kept) (seen : StashSeen) (part : NoteWord) → LooksAt (stash_note_kind kept seen part (noted kept.hash seen))
  stash_note_looks kept seen Mark = stash_mark_looks kept seen (stash_has_finger seen (noted kept.hash seen)) _ _
  stash_note_looks kept seen Fingers = tt

  stash_looks : (kept : Kept) (seen : StashSeen) (s : StashStep) → LooksAt (stash_kind kept seen s)
  stash_looks kept seen (stash.Lock bucket take) = take_looks _ take
  stash_looks kept seen (stash.Fill bucket load) = tt
  stash_looks kept seen (stash.Make m) = make_looks (stash_publish_kind kept seen) (λ i x. tt) _ seen.written m
  stash_looks kept seen (stash.Note part) = stash_note_looks kept seen part
  stash_looks kept seen stash.Draw = tt
  stash_looks kept seen stash.CountSpent = tt
  stash_looks kept seen (stash.Give held end) = give_looks kept.site kept.hash kept.segment (give_next held)
  stash_looks kept seen (stash.Ended end) = root_looks

  -- ---- A MACHINE OF THE CALL ITSELF
  pub call_looks : (here : Site) (call : Call) (m : CallState) (n : ℕ) → call_part.Stands site here call m v → (kind : Kind) × (call_part.kind m n ≡ of_call kind) × LooksAt kind
  call_looks here call (one op) n s = (read_kind op.task op.step, refl, get_looks op.task s.is_in op.step s.suits)
  call_looks here call (other (first op)) n s =
      (write_kind op.task op.stage.seen op.stage.step n, refl, change_looks op.task op.stage.seen s.stands.is_in op.stage.step n)
  call_looks here call (other (second (first op))) n s = (move_kind op.kept op.step, refl, move_looks op.kept op.step)
  call_looks here call (other (second (second (first op)))) n s = (stash_kind op.kept op.stage.seen op.stage.step, refl, stash_looks op.kept op.stage.seen op.stage.step)
  call_looks here call (other (second (second (second op)))) n s =
      (release_kind op.kept op.step, refl, give_looks op.kept.site op.kept.hash op.kept.segment (give_next (held_in op.kept op.step)))

-- ---- it has no areas
release_no_areas : (site : Ground) (kept : Kept) (v : View) (s : ReleaseStep) → ReleaseSuits kept site s v → v.areas ≡ []
release_no_areas site kept v release.Begin s = s.keeps.holds.locks.areas
release_no_areas site kept v (release.Give held) s = s.locks.areas
release_no_areas site kept v release.Ended s = s.bare.areas

pub call_no_areas : (site : Ground) (here : Site) (call : Call) (m : CallState) (v : View) → call_part.Stands site here call m v → v.areas ≡ []
call_no_areas site here call (one op) v s = s.nothing.areas
call_no_areas site here call (other (first op)) v s = write_no_areas site op.task op.stage.seen v op.stage.step s.stands.view
call_no_areas site here call (other (second (first op))) v s = move_no_areas site op.kept v op.step s.stands.view
call_no_areas site here call (other (second (second (first op)))) v s = stash_no_areas site op.kept op.stage.seen v op.stage.step s.stands.view
call_no_areas site here call (other (second (second (second op)))) v s = release_no_areas site op.kept v op.step s.view

pub own_no_areas : (site : Ground) (here : Site) (call : Call) (op : Op) (v : View) → work_of op ≡ calls → op_part.Stands site here call op v → v.areas ≡ []
own_no_areas site here call (Read op) v own s = call_no_areas site here call (one op) v s
own_no_areas site here call (Write op) v own s = call_no_areas site here call (other (first op)) v s
own_no_areas site here call (Move op) v own s = call_no_areas site here call (other (second (first op))) v s
own_no_areas site here call (Stash op) v own s = call_no_areas site here call (other (second (second (first op)))) v s
own_no_areas site here call (Release op) v own s = call_no_areas site here call (other (second (second (second op)))) v s
own_no_areas site here call op v own s = absurd (cc)
