-- On the way, at the locks, and while buckets are loaded: what each phase makes of an answer leaves a view that suits.
use Rattle.std.proofs.Common.{◌≡◌, ℕ, ◌+◌, Bool, true, false, None, List, [], ◌∷◌, inl, inr, refl, sym, ap, subst, arith}
use Rattle.std.specs.Prelude.{if◌then◌else◌}
use Rattle.op_core.specs.declared.why.Why.TheVariants.{Busy, Moved}
use Rattle.hash_word.specs.Hash.{home_of}
use Rattle.image_layout.specs.Places.{IsShape}
use Rattle.frame_facts.specs.Facts.{Fact}
use Rattle.way.specs.Ways.{is_leading}
use Rattle.world.specs.Ground.{Ground}
use Rattle.world.specs.Kinds.{pins, view_after}
use Rattle.world.specs.Views.{View, Has, IsGuarded}
use Rattle.world.specs.Attempts.{HoldsOnly}
use Rattle.phase.specs.declared.role.Role.{Role}
use Rattle.phase.specs.declared.role.Role.TheVariants.{Home, Probing, First, Second, Next, Previous}
use Rattle.phase.specs.declared.walk.Path.{Path}
use Rattle.phase.specs.declared.walk.Walked.{Walked}
use Rattle.phase.specs.declared.walk.Walked.TheVariants as walked
use Rattle.phase.specs.declared.take.Take.TheVariants.{Look}
use Rattle.phase.specs.declared.take.Taken.{Taken}
use Rattle.phase.specs.declared.take.Taken.TheVariants as taking
use Rattle.phase.specs.declared.back.Back.{Back}
use Rattle.phase.specs.declared.back.Back.TheVariants as back
use Rattle.phase.specs.declared.back.Backed.{Backed}
use Rattle.phase.specs.declared.back.Backed.TheVariants as backed
use Rattle.phase.specs.declared.load.Loaded.{Loaded}
use Rattle.phase.specs.declared.load.Loaded.TheVariants as loaded
use Rattle.phase.specs.declared.held.Held.{Held}
use Rattle.phase.specs.Asked.{index, looked_by, loaded_by}
use Rattle.phase.specs.Helds.{none_held, with_held, free_of, give_wanted_of}
use Rattle.phase.specs.Buckets.{with_words, words_in}
use Rattle.phase.specs.Backs.{back_taken}
use Rattle.phase.specs.Stands.{back_kind, IsThere, HasLoaded as HasLoadedWords, HasWalked}
use Rattle.phase.specs.Taking.{MayBeTaken, IsButSpent, HasTaken}
use Rattle.phase.specs.Giving.{IsLocated, IsQuiet, HoldsLocks}
use Rattle.phase.specs.Knows.{IsWhole}
use Rattle.phase.proofs.Backing.{back_ends}
use Rattle.phase.proofs.Loading.{load_begins}
use Rattle.phase.proofs.asking.Asked.{near_asked, upto_more, upto_less}
use Rattle.phase.proofs.Wording.{words_this, words_other}
use Rattle.phase.proofs.locks.Giving.{none_free, held_none, held_stands, give_stands}
use Rattle.phase.proofs.locks.Choosing.{by_held}
use Rattle.write_op.specs.declared.step.Task.{Task}
use Rattle.write_op.specs.declared.step.Seen.{Seen}
use Rattle.phase.specs.declared.ending.Ending.{Ending}
use Rattle.phase.specs.declared.ending.Ending.TheVariants as ending
use Rattle.write_op.specs.declared.step.WriteStep.{WriteStep}
use Rattle.write_op.specs.declared.step.WriteStep.TheVariants.{Lock, Count, Give, Ended}
use Rattle.write_op.specs.Search.{visits}
use Rattle.write_op.specs.Steps.{end_of, giving, give, walked_to, locked_to, lock_of, backed_to, visit_second, with_visits, filled_with, filled_to}
use Rattle.write_op.specs.Fits.{is_asked, Upto, IsVisiting, HasLoaded, IsPinned, PinnedAt, VisitsAt, IsGiving, SuitsEnd, SuitsStep, SuitsStage, IsIn}
use Rattle.write_op.proofs.finding.Places.{holds_more, holds_less}

pub quiet_only : (v : View) → HoldsOnly [] v → IsQuiet v
quiet_only v o = record { dirty = o.dirty; flushed = o.flushed; planned = o.planned; moving = o.moving; owed = o.owed }

module _ (site : Ground) (task : Task) (is : IsIn site task) where
  pub located : (seen : Seen) (facts : List Fact) → IsThere site seen.path.segment facts → IsLocated site task.site seen.path.segment
  located seen facts there = record { shape = is.shape; within = there.within }

  -- ---- locks back
  end_suits : (seen : Seen) (end : Ending) (u : View) → HoldsOnly [] u → SuitsEnd site task seen (end_of end) u
  end_suits seen (ending.Replied answer place) u o = o
  end_suits seen (ending.Again why) u o = o

  pub giving_suits : (seen : Seen) (held : Held) (end : Ending) (u : View) → IsGiving site task seen held u → SuitsStep site task seen (giving held end) u
  giving_suits seen held end u g =
      by_held (λ (s : WriteStep). SuitsStep site task seen s u) held (Give held end) (Ended (end_of end)) g
      (λ none. end_suits seen end u (give_stands.ends task.site task.hash seen.path.segment held u g.locks g.quiet (ap (give_wanted_of task.site task.hash seen.path.segment) none)))

  pub give_suits : (seen : Seen) (end : Ending) (u : View) → IsGiving site task seen seen.held u → SuitsStage site task (give seen end) u
  give_suits seen end u g = giving_suits seen seen.held end u g

  loaded_gives : (seen : Seen) (n m : ℕ) (u : View) → HasLoaded site task seen n m u → IsQuiet u → IsGiving site task seen seen.held u
  loaded_gives seen n m u h q = record { located = located seen u.facts h.there; locks = h.locks; quiet = q }

  -- ---- the way
  module _ (seen : Seen) (u : View) (o : HoldsOnly [] u) (none : seen.held ≡ none_held) where
    begun_loaded : (path : Path) → IsThere site path.segment u.facts → HasLoaded site task (record seen { path = path }) 0 0 u
    begun_loaded path there = record {
      there = there;
      locks = subst (λ (h : Held). HoldsLocks task.site task.hash path.segment h u) (sym none) (held_none task.site task.hash path.segment u o);
      upto = record { these = λ q w. absurd (let low = w.low in omega (arith, low)); others = λ q out. subst (λ (h : Held). free_of h q ≡ None) (sym none) (none_free q) };
      whole = λ q w. absurd (let low = w.low in omega (arith, low));
    }

    pub walked_suits : (x : Walked) → HasWalked site x u.facts → SuitsStage site task (walked_to seen x) u
    walked_suits (walked.On w) has = (o, has, none)
    walked_suits (walked.There path) has = (begun_loaded path has, quiet_only u o, tt, tt, tt)
    walked_suits walked.Off has = o
    walked_suits (walked.Amiss word value) has = absurd has
    walked_suits (walked.Stale segment version) has = (o, has)

  -- ---- a lock
  module _ (seen : Seen) (n m : ℕ) (v u : View) (h : HasLoaded site task seen n m v) (q : IsQuiet v) where
    spent_loaded : IsButSpent v u → HasLoaded site task seen n m u
    spent_loaded s = subst (HasLoaded site task seen n m) (sym s.1) (record {
      there = h.there;
      locks = record { has = h.locks.has; only = h.locks.only; free = h.locks.free; known = h.locks.known; areas = h.locks.areas };
      upto = h.upto;
      whole = h.whole;
    })

    spent_quiet : IsButSpent v u → IsQuiet u
    spent_quiet s = subst IsQuiet (sym s.1) (record { dirty = q.dirty; flushed = q.flushed; planned = q.planned; moving = q.moving; owed = q.owed })

    spent_gives : IsButSpent v u → IsGiving site task seen seen.held u
    spent_gives s = loaded_gives seen n m u (spent_loaded s) (spent_quiet s)

  module _ (seen : Seen) (place : Role) (free m : ℕ) (v u : View) (h : HasLoaded site task seen (index place) m v) (q : IsQuiet v)
      (may : MayBeTaken free) (same : u ≡ record v { held = (lock_of task seen place, free + 1) ∷ v.held }) where
    more_loaded : is_asked seen place ≡ true → HasLoaded site task (record seen { held = with_held place free seen.held }) (index place + 1) m u
    more_loaded asked = record {
      there = subst (λ (z : View). IsThere site seen.path.segment z.facts) (sym same) h.there;
      locks = held_stands.more task.site task.hash seen.path.segment seen.held place free v u (h.upto.others place (λ w. let low = w.low in omega (arith, low))) may h.locks same;
      upto = holds_more seen place free asked h.upto;
      whole = λ p w. subst (λ (z : View). IsWhole (lock_of task seen p) (words_in seen.buckets p) z) (sym same) (h.whole p w);
    }

    more_quiet : IsQuiet u
    more_quiet = subst IsQuiet (sym same) (record { dirty = q.dirty; flushed = q.flushed; planned = q.planned; moving = q.moving; owed = q.owed })

  -- a header that is pinned stays so while locks are taken
  spent_pinned : (seen : Seen) (place : Role) (v u : View) → IsButSpent v u → PinnedAt site task seen place v → PinnedAt site task seen place u
  spent_pinned seen Home v u s p = tt
  spent_pinned seen Probing v u s p = tt
  spent_pinned seen First v u s p = subst (λ (z : View). IsPinned site task.hash seen.path z.pinned) (sym s.1) p
  spent_pinned seen Second v u s p = subst (λ (z : View). IsPinned site task.hash seen.path z.pinned) (sym s.1) p
  spent_pinned seen Next v u s p = tt
  spent_pinned seen Previous v u s p = tt

  visits_still : (seen : Seen) (held : Held) → IsVisiting task seen → IsVisiting task (record seen { held = held })
  visits_still seen held vis = record { first = vis.first; second = vis.second }

  held_suits : (seen : Seen) (place : Role) (free : ℕ) (v u : View) → HasLoaded site task seen (index place) (loaded_by place) v → IsQuiet v → VisitsAt site task seen place
      → PinnedAt site task seen place v → MayBeTaken free → u ≡ record v { held = (lock_of task seen place, free + 1) ∷ v.held }
      → SuitsStage site task (locked_to seen place (lock_of task seen place) (taking.Held free)) u
  held_suits seen Home free v u h q vis pinned may same = (more_loaded seen Home free 0 v u h q may same refl, more_quiet seen Home free 0 v u h q may same, tt, tt, tt)
  held_suits seen Probing free v u h q vis pinned may same = (more_loaded seen Probing free 0 v u h q may same refl, more_quiet seen Probing free 0 v u h q may same)
  held_suits seen First free v u h q vis pinned may same = (
    more_loaded seen First free 2 v u h q may same vis.1,
    more_quiet seen First free 2 v u h q may same,
    (visits_still seen _ vis.0, vis.1),
    load_begins _ _,
    subst (λ (z : View). IsPinned site task.hash seen.path z.pinned) (sym same) pinned,
  )
  held_suits seen Second free v u h q vis pinned may same = (
    more_loaded seen Second free 3 v u h q may same vis.1,
    more_quiet seen Second free 3 v u h q may same,
    (visits_still seen _ vis.0, vis.1),
    load_begins _ _,
    subst (λ (z : View). IsPinned site task.hash seen.path z.pinned) (sym same) pinned,
  )
  held_suits seen Next free v u h q vis pinned may same = absurd vis
  held_suits seen Previous free v u h q vis pinned may same = absurd vis

  pub locked_suits : (seen : Seen) (place : Role) (v u : View) → HasLoaded site task seen (index place) (loaded_by place) v → IsQuiet v → VisitsAt site task seen place
      → PinnedAt site task seen place v → (x : Taken) → HasTaken (lock_of task seen place) v x u → SuitsStage site task (locked_to seen place (lock_of task seen place) x) u
  locked_suits seen place v u h q vis pinned (taking.On take) t =
      (spent_loaded seen (index place) (loaded_by place) v u h q t.1, spent_quiet seen (index place) (loaded_by place) v u h q t.1, vis, t.0, spent_pinned seen place v u t.1 pinned)
  locked_suits seen place v u h q vis pinned (taking.Held free) t = held_suits seen place free v u h q vis pinned t.0 t.1
  locked_suits seen place v u h q vis pinned (taking.Busy value) t = give_suits seen (ending.Again (Busy (lock_of task seen place) value)) u (spent_gives seen (index place) (loaded_by place) v u h q t)
  locked_suits seen place v u h q vis pinned (taking.Moved before after) t =
      give_suits seen (ending.Again (Moved (lock_of task seen place) before after)) u (spent_gives seen (index place) (loaded_by place) v u h q t)
  locked_suits seen place v u h q vis pinned taking.Spent t = (spent_gives seen (index place) (loaded_by place) v u h q t.1, (lock_of task seen place, t.0))

  -- ---- the way again
  module _ (seen : Seen) (v : View) where
    abbrev pub looked : Back → ℕ → View
    looked at n = view_after site.shape (back_kind task.site task.hash seen.path (pins seen.path.segment (home_of task.hash)) at) n v

    -- a look changes nothing but what is pinned
    pub looked_is : (at : Back) (n : ℕ) → (headers : List (ℕ × ℕ)) × (looked at n ≡ record v { pinned = headers })
    looked_is back.Root n = (v.pinned, refl)
    looked_is back.Entry n = (v.pinned, refl)
    looked_is back.Head n = ((seen.path.segment, n) ∷ v.pinned, refl)

    module _ (h : HasLoaded site task seen 2 0 v) (q : IsQuiet v) where
      -- the header that is found as it was, and leads to the hash, is pinned
      pub looked_pinned : IsShape site.shape → (at : Back) (n : ℕ) → back_taken task.site task.hash seen.path at n ≡ backed.Same → IsPinned site task.hash seen.path (looked at n).pinned
      looked_pinned good at n same =
          let found = back_ends task.site task.hash seen.path at n same in
          subst (λ (b : Back). IsPinned site task.hash seen.path (looked b n).pinned) (sym found.0) (record {
            leads = record {
              shape = good;
              fits = is.fits;
              within = h.there.within;
              head = n;
              has = inl refl;
              leads = subst (λ m. is_leading m task.hash ≡ true) (sym found.1) found.2;
            };
            same = found.1;
          })

      module _ (u : View) (headers : List (ℕ × ℕ)) (but : u ≡ record v { pinned = headers }) where
        back_loaded : HasLoaded site task seen 2 0 u
        back_loaded = subst (HasLoaded site task seen 2 0) (sym but) (record {
          there = h.there;
          locks = record { has = h.locks.has; only = h.locks.only; free = h.locks.free; known = h.locks.known; areas = h.locks.areas };
          upto = h.upto;
          whole = h.whole;
        })

        back_quiet : IsQuiet u
        back_quiet = subst IsQuiet (sym but) (record { dirty = q.dirty; flushed = q.flushed; planned = q.planned; moving = q.moving; owed = q.owed })

        pub backed_suits : (x : Backed) → (x ≡ backed.Same → IsPinned site task.hash seen.path u.pinned) → SuitsStage site task (backed_to seen x) u
        backed_suits (backed.On at) pinned = (back_loaded, back_quiet)
        backed_suits backed.Same pinned = (back_loaded, back_quiet, tt, load_begins _ _, pinned refl)
        backed_suits (backed.Moved word before after) pinned = give_suits seen (ending.Again (Moved word before after)) u (loaded_gives seen 2 0 u back_loaded back_quiet)

  -- ---- a bucket
  module _ (seen : Seen) (n m i x : ℕ) (v : View) (h : HasLoaded site task seen n m v) (q : IsQuiet v) (guarded : IsGuarded v.held i) where
    abbrev after : View
    after = record v { known = (i, x) ∷ v.known }

    learnt_known : (p : ℕ × ℕ) → Has p after.known → IsGuarded v.held p.0
    learnt_known p k = elim k [
      | inl e ↦ subst (λ (z : ℕ × ℕ). IsGuarded v.held z.0) (sym e) guarded
      | inr old ↦ h.locks.known p old
    ]

    pub learnt_loaded : HasLoaded site task seen n m after
    learnt_loaded = record {
      there = h.there;
      locks = record { has = h.locks.has; only = h.locks.only; free = h.locks.free; known = learnt_known; areas = h.locks.areas };
      upto = h.upto;
      whole = λ p w j from low. inr (h.whole p w j from low);
    }

    pub learnt_quiet : IsQuiet after
    learnt_quiet = record { dirty = q.dirty; flushed = q.flushed; planned = q.planned; moving = q.moving; owed = q.owed }

  -- with its words put in
  module _ (seen : Seen) (place : Role) (words : List ℕ) (n : ℕ) (u : View) (h : HasLoaded site task seen n (index place) u) (all : IsWhole (lock_of task seen place) words u) where
    abbrev put : Seen
    put = record seen { buckets = with_words place words seen.buckets }

    put_whole : (p : Role) → Upto put (index place + 1) p → IsWhole (lock_of task seen p) (words_in put.buckets p) u
    put_whole p w = elim (upto_more seen.first seen.second place p w) [
      | inl same ↦
          subst (λ (z : Role). IsWhole (lock_of task seen z) (words_in put.buckets z) u) (sym same)
          (subst (λ (ws : List ℕ). IsWhole (lock_of task seen place) ws u) (sym (words_this seen.buckets words place)) all)
      | inr before ↦ subst (λ (ws : List ℕ). IsWhole (lock_of task seen p) ws u)
          (sym (words_other seen.buckets words place p (λ e. let low = before.low in omega (arith, low, e)))) (h.whole p before)
    ]

    put_loaded : HasLoaded site task put n (index place + 1) u
    put_loaded = record {
      there = h.there;
      locks = h.locks;
      upto = record { these = h.upto.these; others = h.upto.others };
      whole = put_whole;
    }

  -- where one is not asked
  skip : (seen : Seen) (p : Role) (u : View) → is_asked seen p ≡ false → HasLoaded site task seen (index p) (index p) u → HasLoaded site task seen (index p + 1) (index p + 1) u
  skip seen p u out h = record {
    there = h.there;
    locks = h.locks;
    upto = holds_less seen p out h.upto;
    whole = λ r w. h.whole r (upto_less seen.first seen.second p r out w);
  }

  second_suits : (seen : Seen) (u : View) → HasLoaded site task seen 3 3 u → IsQuiet u → IsVisiting task seen → IsPinned site task.hash seen.path u.pinned → (b : Bool) → seen.second ≡ b
      → SuitsStep site task seen (if b then Lock Second Look else Count) u
  second_suits seen u h q vis pinned true e = (h, q, (vis, e), tt, pinned)
  second_suits seen u h q vis pinned false e = (skip seen Second u e h, q, vis, pinned)

  first_suits : (seen : Seen) (u : View) → HasLoaded site task seen 2 2 u → IsQuiet u → IsVisiting task seen → IsPinned site task.hash seen.path u.pinned → (b : Bool) → seen.first ≡ b
      → SuitsStep site task seen (if b then Lock First Look else visit_second seen) u
  first_suits seen u h q vis pinned true e = (h, q, (vis, e), tt, pinned)
  first_suits seen u h q vis pinned false e = second_suits seen u (skip seen First u e h) q vis pinned seen.second refl

  -- which stash buckets are visited is known behind the words of the probing bucket
  visiting_loaded : (seen : Seen) (u : View) → HasLoaded site task seen 2 2 u → HasLoaded site task (with_visits task.hash seen) 2 2 u
  visiting_loaded seen u h = record {
    there = h.there;
    locks = h.locks;
    upto = record {
      these = λ p w. h.upto.these p (record { low = w.low; asked = near_asked seen.first seen.second p w.low });
      others = λ p out. h.upto.others p (λ w. out (record { low = w.low; asked = near_asked (visits task.hash seen.buckets 0) (visits task.hash seen.buckets 1) p w.low }));
    };
    whole = λ p w. h.whole p (record { low = w.low; asked = near_asked seen.first seen.second p w.low });
  }

  all_suits : (seen : Seen) (place : Role) (words : List ℕ) (u : View) → HasLoaded site task seen (looked_by place) (index place) u → IsQuiet u → VisitsAt site task seen place
      → IsPinned site task.hash seen.path u.pinned → IsWhole (lock_of task seen place) words u → SuitsStage site task (filled_with task.hash seen place words) u
  all_suits seen Home words u h q vis pinned all = (put_loaded seen Home words 2 u h all, q, tt, load_begins _ _, pinned)
  all_suits seen Probing words u h q vis pinned all =
      let put_in : Seen = record seen { buckets = with_words Probing words seen.buckets } in
      first_suits (with_visits task.hash put_in) u (visiting_loaded put_in u (put_loaded seen Probing words 2 u h all)) q (record { first = refl; second = refl }) pinned (with_visits task.hash put_in).first refl
  all_suits seen First words u h q vis pinned all =
      second_suits (record seen { buckets = with_words First words seen.buckets }) u (put_loaded seen First words 3 u h all) q
      (record { first = vis.0.first; second = vis.0.second }) pinned seen.second refl
  all_suits seen Second words u h q vis pinned all = (put_loaded seen Second words 4 u h all, q, record { first = vis.0.first; second = vis.0.second }, pinned)
  all_suits seen Next words u h q vis pinned all = absurd vis
  all_suits seen Previous words u h q vis pinned all = absurd vis

  pub filled_suits : (seen : Seen) (place : Role) (u : View) → HasLoaded site task seen (looked_by place) (index place) u → IsQuiet u → VisitsAt site task seen place
      → IsPinned site task.hash seen.path u.pinned → (x : Loaded) → HasLoadedWords (lock_of task seen place) u.known x → SuitsStage site task (filled_to task.hash seen place x) u
  filled_suits seen place u h q vis pinned (loaded.On load) has = (h, q, vis, has, pinned)
  filled_suits seen place u h q vis pinned (loaded.All words) has = all_suits seen place words u h q vis pinned has
