-- Each step of a get keeps its view suited, enters the answer where there is one, and leaves what is held and owed.
use Rattle.std.proofs.Common.{◌≡◌, ◌≢◌, ℕ, ◌%◌, ◌<◌, Bool, true, false, Option, None, Some, List, [], inl, inr, refl, sym, ◌∙◌, ap, subst}
use Rattle.std.specs.Prelude.{◌==◌, ⊤, if◌then◌else◌}
use Rattle.trace.specs.Events.{Words}
use Rattle.image_layout.specs.Places.{Shape}
use Rattle.image_layout.specs.Volatile.{counter_word}
use Rattle.op_core.specs.declared.want.Want.TheVariants.{Done}
use Rattle.way.specs.Ways.{head_word}
use Rattle.world.specs.Ground.{Ground}
use Rattle.world.specs.Views.{Glance, Answer, View, Has, At}
use Rattle.world.specs.Wants.{word_of}
use Rattle.world.specs.Kinds.{peeks, places, validates, view_after, with_look, with_answer, marked, all_again}
use Rattle.world.specs.Invariant.{Holds}
use Rattle.world.specs.Laws.{found_by}
use Rattle.world.specs.Attempts.{HasNoMore}
use Rattle.phase.specs.declared.walk.Walk.{Walk}
use Rattle.phase.specs.declared.walk.Walked.{Walked}
use Rattle.phase.specs.declared.walk.Walked.TheVariants as walked
use Rattle.phase.specs.declared.back.Back.TheVariants as back
use Rattle.phase.specs.Walks.{walk_taken}
use Rattle.phase.specs.Loads.{load_taken}
use Rattle.phase.specs.Stands.{walk_kind, HasWalked}
use Rattle.phase.proofs.Walking.{walk_stands, walk_noted, walk_keeps}
use Rattle.world.proofs.basics.Structures.{lock_no_head}
use Rattle.world.proofs.calls.deeds.Calls.{newest_without}
use Rattle.phase.specs.declared.role.Role.{Role}
use Rattle.read_op.specs.declared.step.Seen.{Seen}
use Rattle.read_op.specs.declared.step.ReadEnd.TheVariants as ends
use Rattle.read_op.specs.declared.step.ReadStep.{ReadStep}
use Rattle.read_op.specs.declared.step.ReadStep.TheVariants.{Way, Look, Fill, Count, Check, Relook, Ended}
use Rattle.read_op.specs.declared.step.Task.{Task}
use Rattle.read_op.specs.Places.{free_at}
use Rattle.read_op.specs.Steps.{wanted_in, next_in, walked_to, with_free, looked, busy, filled, lock_of}
use Rattle.read_op.specs.Fits.{IsIn, at_bucket, leads, kind_in, kind_of, suits_in, OwesTheSame, EntersAnswer, KeepsSuits}
use Rattle.read_op.proofs.Opening.{IsOpen, looked_open, filled_open}
use Rattle.read_op.proofs.Fitting.{lock_word_is, wants_in}
use Rattle.read_op.proofs.steps.Stepping.{walked_suits, look_suits, fill_suits, count_suits}
use Rattle.read_op.proofs.steps.Ending.{Kept, relook_kept, check_kept}

-- ---- no event of a get changes what is held, known or owed
module _ (v : View) where
  owes_nothing_more : OwesTheSame v v
  owes_nothing_more = record { held = refl; known = refl; dirty = refl; flushed = refl; planned = refl; moving = refl; owed = refl }

  answer_owes : (b : Bool) (a : Option Answer) (u : View) → OwesTheSame v u → OwesTheSame v (with_answer b a u)
  answer_owes false a u o = o
  answer_owes true None u o = o
  answer_owes true (Some a) u o = record { held = o.held; known = o.known; dirty = o.dirty; flushed = o.flushed; planned = o.planned; moving = o.moving; owed = o.owed }

  look_owes : (b : Bool) (lock n : ℕ) → OwesTheSame v (with_look b lock n v)
  look_owes true lock n = record { held = refl; known = refl; dirty = refl; flushed = refl; planned = refl; moving = refl; owed = refl }
  look_owes false lock n = record { held = refl; known = refl; dirty = refl; flushed = refl; planned = refl; moving = refl; owed = refl }

  validated_owes : (shape : Shape) (word n : ℕ) → OwesTheSame v (view_after shape (validates word) n v)
  validated_owes shape word n =
      let w : View = record v { notes = marked word n v.notes } in
      answer_owes (all_again w.notes) w.answer w (record { held = refl; known = refl; dirty = refl; flushed = refl; planned = refl; moving = refl; owed = refl })

  owes_in : (task : Task) (shape : Shape) (s : ReadStep) (n : ℕ) → OwesTheSame v (view_after shape (kind_in task s) n v)
  owes_in task shape (Way w) n = walk_keeps shape task.site task.hash (OwesTheSame v) w n v
      (λ facts notes answer. record { held = refl; known = refl; dirty = refl; flushed = refl; planned = refl; moving = refl; owed = refl })
  owes_in task shape (Look s p) n = look_owes (n % 2 == 0) (lock_of task s p) n
  owes_in task shape (Fill s p load) n = record { held = refl; known = refl; dirty = refl; flushed = refl; planned = refl; moving = refl; owed = refl }
  owes_in task shape (Count s) n = count_owes (leads task s)
    where
      count_owes : (b : Bool) → OwesTheSame v (view_after shape (if b then places task.key s.value else peeks (counter_word task.site.geometry)) n v)
      count_owes true = record { held = refl; known = refl; dirty = refl; flushed = refl; planned = refl; moving = refl; owed = refl }
      count_owes false = owes_nothing_more
  owes_in task shape (Check s placed back.Root) n = owes_nothing_more
  owes_in task shape (Check s placed back.Entry) n = owes_nothing_more
  owes_in task shape (Check s placed back.Head) n = validated_owes shape (head_word task.site.geometry s.path.segment) n
  owes_in task shape (Relook s placed p) n = validated_owes shape (lock_of task s p) n
  owes_in task shape (Ended end) n = owes_nothing_more

-- ---- a step that is no answer
abbrev IsQuiet : ReadStep → Type 0
IsQuiet (Ended (ends.Found x place)) = ⊥
IsQuiet (Ended (ends.Absent place)) = ⊥
IsQuiet s = ⊤

quiet : (key : ℕ) (s : ReadStep) (v u : View) → IsQuiet s → HasNoMore v u → EntersAnswer key s v u
quiet key (Ended (ends.Found x place)) v u q h = absurd q
quiet key (Ended (ends.Absent place)) v u q h = absurd q
quiet key s v u q h = h

open_quiet : (s : ReadStep) → IsOpen s → IsQuiet s
open_quiet (Ended end) goes = absurd goes
open_quiet s goes = tt

walked_quiet : (x : Walked) → IsQuiet (walked_to x)
walked_quiet (walked.On w) = tt
walked_quiet (walked.There path) = tt
walked_quiet walked.Off = tt
walked_quiet (walked.Amiss word seen) = tt
walked_quiet (walked.Stale segment version) = tt

-- ---- one step
module _ (site : Ground) (task : Task) (is : IsIn site task) (words : Words) (views : List View) (j : ℕ) (v : View) (h : Holds site words views) (at : At views j v) (none : v.areas ≡ []) where
  -- what the way makes of a word is what is relied on there
  pub has_walked : (w : Walk) (n : ℕ) → n ≡ words (word_of site.shape (wanted_in task (Way w))) → suits_in site task (Way w) v
      → HasWalked site (walk_taken task.site task.hash w n) (view_after site.shape (walk_kind task.site task.hash w) n v).facts
  has_walked w n found suits = walk_stands site task.site task.hash words v h.site_is.shape is.shape is.fits (newest_without site words views j v h at none) w suits.0 n found

  -- a note of a lock word has a free value
  note_even : (s : Seen) (p : Role) (note : Glance) → s.path.segment < site.shape.segments → note.word ≡ lock_of task s p → Has note v.notes → note.value % 2 ≡ 0
  note_even s p note within word has = elim (h.notes.past j v note at has) [
    | inl lock ↦ lock.free
    | inr header ↦ absurd (lock_no_head site.shape (lock_of task s p) header.slot (lock_word_is site task is s p within) (sym word ∙ header.head))
  ]

  -- the free value of a lock word that is looked at again is even
  pub free_even : (s : Seen) (placed : ℕ) (p : Role) → suits_in site task (Relook s placed p) v → free_at s.free p % 2 ≡ 0
  free_even s placed p suits =
      let t = suits.0.checked.to (at_bucket p) suits.1 in
      subst (λ m. m % 2 ≡ 0) t.3 (note_even s p t.0 suits.0.there.within t.2 t.1)

  silent : (u : View) → u.own ≡ v.own → u.seen ≡ v.seen → HasNoMore v u
  silent u own seen = record { own = own; seen = seen }

  quietly : (s : ReadStep) (u : View) → suits_in site task s u → IsQuiet s → HasNoMore v u → Kept site task is v s u
  quietly s u suits q none = (suits, quiet task.key s v u q none)

  look_by : (s : Seen) (p : Role) (n : ℕ) → suits_in site task (Look s p) v → (b : Bool)
      → Kept site task is v (if b then looked (with_free s p n) p else busy (lock_of task s p) n) (with_look b (lock_of task s p) n v)
  look_by s p n suits true = quietly _ _ (look_suits site task is v s p n suits) (open_quiet (looked (with_free s p n) p) (looked_open (with_free s p n) p)) (silent _ refl refl)
  look_by s p n suits false = quietly (busy (lock_of task s p) n) (record v { notes = []; answer = None }) tt tt (silent _ refl refl)

  step_in : (s : ReadStep) (n : ℕ) → n ≡ words (word_of site.shape (wanted_in task s)) → suits_in site task s v → wanted_in task s ≢ Done
      → Kept site task is v (next_in task s n) (view_after site.shape (kind_in task s) n v)
  step_in (Way w) n found suits asks =
      let x : Walked = walk_taken task.site task.hash w n in
      quietly _ _ (walked_suits site task is _ x (has_walked w n found suits) (walk_noted site task.site task.hash v is.shape w suits.0 suits.1 n)) (walked_quiet x)
      (walk_keeps site.shape task.site task.hash (HasNoMore v) w n v (λ facts notes answer. record { own = refl; seen = refl }))
  step_in (Look s p) n found suits asks = look_by s p n suits (n % 2 == 0)
  step_in (Fill s p load) n found suits asks = quietly _ _ (fill_suits site task is v s p load n suits) (open_quiet (filled task.key task.hash s p (load_taken load n)) (filled_open task.key task.hash s p (load_taken load n))) (silent _ refl refl)
  step_in (Count s) n found suits asks =
      quietly (next_in task (Count s) n) (view_after site.shape (kind_in task (Count s)) n v) (count_suits site task is v s n suits (leads task s) refl) tt (count_silent (leads task s))
    where
      count_silent : (b : Bool) → HasNoMore v (view_after site.shape (if b then places task.key s.value else peeks (counter_word task.site.geometry)) n v)
      count_silent true = record { own = refl; seen = refl }
      count_silent false = record { own = refl; seen = refl }
  step_in (Check s placed back) n found suits asks = check_kept site task is v s placed n back suits
  step_in (Relook s placed p) n found suits asks = relook_kept site task is v s placed p n suits (free_even s placed p suits)
  step_in (Ended end) n found suits asks = absurd (asks refl)

pub keeps_suits : KeepsSuits
keeps_suits site op words views j v h at none is suits asks =
    let n : ℕ = found_by site (kind_of op) words in
    let found : n ≡ words (word_of site.shape (wanted_in op.task op.step)) = ap (λ w. words (word_of site.shape w)) (sym (wants_in op.task site is op.step asks)) in
    let kept = step_in site op.task is words views j v h at none op.step n found suits asks in
    record { is_in = is; suits = kept.0; owes = owes_in v op.task site.shape op.step n; answers = kept.1 }
