-- EACH STEP of a change leaves a view that suits, with the reply entered that is decided.
use Rattle.std.proofs.Common.{◌≡◌, ℕ, ◌+◌, ◌%◌, ◌^◌, ◌<◌, Option, None, List, [], refl, sym, ap, subst, arith}
use Rattle.op_core.specs.declared.want.Ans.TheVariants.{Value}
use Rattle.trace.specs.Events.{Words}
use Rattle.map_model.specs.declared.entry.Reply.{Reply}
use Rattle.map_model.specs.Changes.{call_of}
use Rattle.world.specs.declared.site.Site.{Site}
use Rattle.world.specs.Ground.{Ground}
use Rattle.world.specs.Views.{View, At, IsGuarded}
use Rattle.world.specs.Wants.{answer_to, word_of}
use Rattle.world.specs.Kinds.{view_after}
use Rattle.world.specs.Invariant.{Holds}
use Rattle.world.specs.Attempts.{HoldsOnly, HasNoMore, EntersReply}
use Rattle.world.proofs.calls.deeds.Calls.{newest_without}
use Rattle.part.specs.Outcomes.{reply_of}
use Rattle.phase.specs.declared.role.Role.{Role}
use Rattle.phase.specs.declared.role.Role.TheVariants.{Home, Probing, First, Second, Next, Previous}
use Rattle.phase.specs.declared.walk.Walk.{Walk}
use Rattle.phase.specs.declared.walk.Walk.TheVariants as walk
use Rattle.phase.specs.declared.walk.Walked.{Walked}
use Rattle.phase.specs.declared.take.Take.{Take}
use Rattle.phase.specs.declared.back.Back.{Back}
use Rattle.phase.specs.declared.back.Backed.{Backed}
use Rattle.phase.specs.declared.load.Load.{Load}
use Rattle.phase.specs.declared.held.Held.{Held}
use Rattle.phase.specs.Walks.{walk_wanted, walk_taken}
use Rattle.phase.specs.Takes.{take_wanted, take_taken}
use Rattle.phase.specs.Backs.{back_taken}
use Rattle.phase.specs.Loads.{load_taken}
use Rattle.phase.specs.Asked.{index, looked_by}
use Rattle.phase.specs.Helds.{give_next, given}
use Rattle.phase.specs.Stands.{walk_kind, HasWalked}
use Rattle.phase.specs.Taking.{take_kind}
use Rattle.phase.specs.Giving.{IsHeld}
use Rattle.phase.proofs.Walking.{walk_stands, walk_keeps}
use Rattle.phase.proofs.locks.Taking.{take_stands}
use Rattle.phase.proofs.Loading.{load_stands}
use Rattle.phase.proofs.Handing.{none_more, same_more, give_own, give_seen}
use Rattle.phase.proofs.Wanting.{take_own, take_seen}
use Rattle.phase.proofs.locks.Holding.{learn_may}
use Rattle.phase.proofs.locks.Giving.{held_has, give_stands}
use Rattle.write_op.specs.declared.step.Task.{Task}
use Rattle.write_op.specs.declared.step.Seen.{Seen}
use Rattle.phase.specs.declared.ending.Ending.{Ending}
use Rattle.write_op.specs.declared.step.WriteStep.TheVariants.{Way, Lock, Check, Fill, Give}
use Rattle.write_op.specs.declared.step.Stage.{Stage}
use Rattle.write_op.specs.Steps.{go, giving, lock_of, walked_to, locked_to, backed_to, filled_to, next_in}
use Rattle.write_op.specs.Fits.{HasLoaded, VisitsAt, IsGiving, SuitsStep, SuitsStage, kind_at, IsIn}
use Rattle.write_op.proofs.keeping.Going.{walked_suits, locked_suits, looked, looked_is, looked_pinned, backed_suits, learnt_loaded, learnt_quiet, filled_suits, giving_suits}
use Rattle.write_op.proofs.keeping.Entering.{reply_at, giving_outcome, walked_quiet, taken_quiet, backed_quiet, filled_quiet}
use Rattle.write_op.proofs.keeping.Counting.{Goes}

-- ---- answers
pub walk_answer : (here : Site) (hash : ℕ) (w : Walk) (n : ℕ) → answer_to (walk_wanted here hash w) n ≡ Value n
walk_answer here hash walk.Power n = refl
walk_answer here hash walk.Root n = refl
walk_answer here hash (walk.Entry root) n = refl
walk_answer here hash (walk.Head root segment) n = refl

-- ---- one step
module _ (site : Ground) (task : Task) (is : IsIn site task) (words : Words) (views : List View) (j : ℕ) (before v : View) (h : Holds site words views) (at : At views j v) (some : 0 < v.callers) (seen : Seen) where
  pub quietly : (s : Stage) (u : View) → SuitsStage site task s u → reply_at s.step ≡ None → HasNoMore before v → u.own ≡ v.own → u.seen ≡ v.seen → Goes site task before s u
  quietly s u suits quiet same own sees = (suits, none_more (call_of task.change) before v (reply_at s.step) u quiet same own sees)

  pub way_goes : (w : Walk) (n : ℕ) → n ≡ words (word_of site.shape (walk_wanted task.site task.hash w)) → SuitsStep site task seen (Way w) v → HasNoMore before v
      → Goes site task before (walked_to seen (walk_taken task.site task.hash w n)) (view_after site.shape (walk_kind task.site task.hash w) n v)
  way_goes w n found suits same =
      let u : View = view_after site.shape (walk_kind task.site task.hash w) n v in
      let x : Walked = walk_taken task.site task.hash w n in
      let has : HasWalked site x u.facts = walk_stands site task.site task.hash words v h.site_is.shape is.shape is.fits (newest_without site words views j v h at suits.0.areas) w suits.1 n found in
      let k = suits.0 in
      let only : HoldsOnly [] u = walk_keeps site.shape task.site task.hash (HoldsOnly []) w n v
      (λ facts notes answer. record { held = k.held; known = k.known; dirty = k.dirty; flushed = k.flushed; planned = k.planned; moving = k.moving; owed = k.owed; areas = k.areas }) in
      quietly (walked_to seen x) u (walked_suits site task is seen u only suits.2 x has) (walked_quiet seen x) same
      (walk_keeps site.shape task.site task.hash (λ (z : View). z.own ≡ v.own) w n v (λ facts notes answer. refl))
      (walk_keeps site.shape task.site task.hash (λ (z : View). z.seen ≡ v.seen) w n v (λ facts notes answer. refl))

  pub back_goes : (at : Back) (n : ℕ) → SuitsStep site task seen (Check at) v → HasNoMore before v
      → Goes site task before (backed_to seen (back_taken task.site task.hash seen.path at n)) (view_after site.shape (kind_at task seen (Check at) n) n v)
  back_goes at n suits same =
      let u : View = looked site task is seen v at n in
      let but = looked_is site task is seen v at n in
      let x : Backed = back_taken task.site task.hash seen.path at n in
      quietly (backed_to seen x) u (backed_suits site task is seen v suits.0 suits.1 u but.0 but.1 x (looked_pinned site task is seen v suits.0 suits.1 h.site_is.shape at n))
      (backed_quiet seen x) same (ap (λ (z : View). z.own) but.1) (ap (λ (z : View). z.seen) but.1)

  -- the bucket that is loaded is held
  fill_held : (place : Role) (m : ℕ) → HasLoaded site task seen (looked_by place) m v → VisitsAt site task seen place → IsHeld seen.held place
  fill_held Home m l vis = l.upto.these Home (record { low = omega arith; asked = refl })
  fill_held Probing m l vis = l.upto.these Probing (record { low = omega arith; asked = refl })
  fill_held First m l vis = l.upto.these First (record { low = omega arith; asked = vis.1 })
  fill_held Second m l vis = l.upto.these Second (record { low = omega arith; asked = vis.1 })
  fill_held Next m l vis = absurd vis
  fill_held Previous m l vis = absurd vis

  pub fill_guard : (place : Role) (load : Load) → SuitsStep site task seen (Fill place load) v → IsGuarded v.held (lock_of task seen place + load.next % 32)
  fill_guard place load suits = learn_may site (lock_of task seen place) load v suits.3
      (held_has task.site task.hash seen.path.segment seen.held place v suits.0.locks (fill_held place (index place) suits.0 suits.2))

  pub fill_goes : (place : Role) (load : Load) (n : ℕ) → SuitsStep site task seen (Fill place load) v → HasNoMore before v
      → Goes site task before (filled_to task.hash seen place (load_taken load n)) (view_after site.shape (kind_at task seen (Fill place load) n) n v)
  fill_goes place load n suits same =
      let guard = fill_guard place load suits in
      let i : ℕ = lock_of task seen place + load.next % 32 in
      let u : View = view_after site.shape (kind_at task seen (Fill place load) n) n v in
      quietly (filled_to task.hash seen place (load_taken load n)) u
      (filled_suits site task is seen place u (learnt_loaded site task is seen (looked_by place) (index place) i n v suits.0 suits.1 guard)
      (learnt_quiet site task is seen (looked_by place) (index place) i n v suits.0 suits.1 guard) suits.2 suits.4 (load_taken load n) (load_stands (lock_of task seen place) v.known load n suits.3))
      (filled_quiet task.hash seen place (load_taken load n)) same refl refl

  pub lock_goes : (place : Role) (t : Take) (n : ℕ) → n < 2 ^ 64 → SuitsStep site task seen (Lock place t) v → HasNoMore before v
      → Goes site task before (next_in task seen (Lock place t) (answer_to (take_wanted (lock_of task seen place) t) n)) (view_after site.shape (take_kind (lock_of task seen place) t) n v)
  lock_goes place t n small suits same =
      let lock : ℕ = lock_of task seen place in
      let x = take_taken t (answer_to (take_wanted lock t) n) in
      let u : View = view_after site.shape (take_kind lock t) n v in
      quietly (locked_to seen place lock x) u (locked_suits site task is seen place v u suits.0 suits.1 suits.2 suits.4 x (take_stands site.shape lock t v n suits.3 small))
      (taken_quiet seen place lock x) same (take_own site.shape lock t n v) (take_seen site.shape lock t n v)

  pub give_goes : (held : Held) (end : Ending) (n : ℕ) → IsGiving site task seen held v → EntersReply (call_of task.change) (reply_at (Give held end)) before v
      → Goes site task before (go seen (giving (given held) end)) (view_after site.shape (kind_at task seen (Give held end) n) n v)
  give_goes held end n g enters =
      let u : View = view_after site.shape (kind_at task seen (Give held end) n) n v in (
        giving_suits site task is seen (given held) end u (record {
          located = g.located;
          locks = give_stands.locks site task.site task.hash seen.path.segment held v n g.located g.locks;
          quiet = give_stands.quiet site.shape task.site task.hash seen.path.segment held v n g.quiet;
        }),
        subst (λ (o : Option (Reply × ℕ)). EntersReply (call_of task.change) o before u)
            (sym (ap reply_of (giving_outcome (given held) end)))
            (same_more (call_of task.change) before v (reply_at (Give held end)) u enters (give_own site.shape task.site task.hash seen.path.segment (give_next held) n v)
            (give_seen site.shape task.site task.hash seen.path.segment (give_next held) n v)),
      )
