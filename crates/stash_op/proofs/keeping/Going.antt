-- At the locks, and while stash buckets are loaded: what each phase makes of an answer leaves a view that suits, and enters no reply.
use Rattle.std.proofs.Common.{◌≡◌, ℕ, ◌+◌, ◌%◌, ◌<◌, Option, None, Some, List, [], ◌∷◌, inr, refl, sym, ap, ◌∙◌, subst}
use Rattle.op_core.specs.declared.why.Why.{Why}
use Rattle.op_core.specs.declared.why.Why.TheVariants.{Busy, Moved}
use Rattle.trace.specs.Events.{Words}
use Rattle.map_model.specs.declared.entry.Reply.{Reply}
use Rattle.map_model.specs.Changes.{call_of}
use Rattle.world.specs.Ground.{Ground}
use Rattle.world.specs.Views.{View, Has, IsGuarded}
use Rattle.world.specs.Kinds.{learns, view_after}
use Rattle.world.specs.Conditions.{IsNewest}
use Rattle.world.specs.Attempts.{HoldsOnly, EntersReply}
use Rattle.part.specs.Outcomes.{reply_of}
use Rattle.phase.specs.declared.role.Role.TheVariants as place
use Rattle.phase.specs.declared.take.Taken.{Taken}
use Rattle.phase.specs.declared.take.Taken.TheVariants as taking
use Rattle.phase.specs.declared.load.Load.{Load}
use Rattle.phase.specs.declared.load.Loaded.{Loaded}
use Rattle.phase.specs.declared.load.Loaded.TheVariants as loaded
use Rattle.phase.specs.declared.held.Held.{Held}
use Rattle.phase.specs.declared.kept.Kept.{Kept}
use Rattle.phase.specs.Helds.{free_of, give_wanted_of}
use Rattle.phase.specs.Buckets.{words_in}
use Rattle.phase.specs.Stands.{IsThere, Leads, HasLoaded as HasLoadedWords}
use Rattle.phase.specs.Taking.{MayBeTaken, IsButSpent, HasTaken}
use Rattle.phase.specs.Giving.{IsHeld, IsQuiet}
use Rattle.phase.specs.Knows.{IsWhole}
use Rattle.phase.specs.Keeps.{IsFullHeld, HoldsThirds, KeepsAll}
use Rattle.phase.proofs.Handing.{none_loose}
use Rattle.phase.proofs.Loading.{load_begins}
use Rattle.phase.proofs.locks.Giving.{held_this, held_more, held_same, held_learn, give_stands}
use Rattle.phase.proofs.locks.Finding.{known_was_loaded}
use Rattle.phase.proofs.locks.Making.{make_knows}
use Rattle.phase.proofs.locks.Choosing.{by_held, by_step}
use Rattle.stash_op.specs.declared.step.StashBucket.{StashBucket}
use Rattle.stash_op.specs.declared.step.StashBucket.TheVariants.{First, Second}
use Rattle.stash_op.specs.declared.step.Seen.{Seen}
use Rattle.phase.specs.declared.ending.Ending.{Ending}
use Rattle.phase.specs.declared.ending.Ending.TheVariants as ending
use Rattle.phase.specs.Endings.{outcome_then}
use Rattle.stash_op.specs.declared.step.StashStep.{StashStep}
use Rattle.stash_op.specs.declared.step.StashStep.TheVariants.{Give, Ended}
use Rattle.stash_op.specs.declared.step.Stage.{Stage}
use Rattle.stash_op.specs.Search.{place_of, free_slot, record_in}
use Rattle.stash_op.specs.Steps.{end_of, giving, give, putting, in_second, at_second, in_first, at_first, searched, put_in, filled_to, with_lock, locked_to, lock_of, nothing, begun, kept_in}
use Rattle.stash_op.specs.Fits.{IsHere, prepared, IsNext, HasLoaded, IsFilling, IsChanging, IsGiving, SuitsEnd, SuitsStep, IsIn, outcome_at}
use Rattle.stash_op.specs.Fits as fits
use Rattle.stash_op.proofs.finding.Standing.{located, holds_loaded, put_loaded}

-- the view suits a stage
abbrev pub SuitsStage : Ground → Kept → Stage → View → Type 0
SuitsStage site kept stage v = SuitsStep site kept stage.seen stage.step v

-- the reply that is decided
abbrev pub reply_at : StashStep → Option (Reply × ℕ)
reply_at s = reply_of (outcome_at s)

-- and that it is entered
abbrev pub Goes : Ground → Kept → View → Stage → View → Type 0
Goes site kept before stage u = SuitsStage site kept stage u × EntersReply (call_of kept.change) (reply_at stage.step) before u

-- ---- locks back
end_outcome : (end : Ending) → outcome_at (Ended (end_of end)) ≡ Some (outcome_then end)
end_outcome (ending.Replied answer place) = refl
end_outcome (ending.Again why) = refl

pub giving_outcome : (held : Held) (end : Ending) → outcome_at (giving held end) ≡ Some (outcome_then end)
giving_outcome held end = by_step (λ (s : StashStep). outcome_at s ≡ Some (outcome_then end)) held (Give held end) (Ended (end_of end)) refl (end_outcome end)

giving_again : (held : Held) (why : Why) → reply_at (giving held (ending.Again why)) ≡ None
giving_again held why = ap reply_of (giving_outcome held (ending.Again why))

-- ---- nothing is entered where a slot is sought
second_quiet : (kept : Kept) (seen : Seen) (slot : Option ℕ) → outcome_at (in_second kept seen slot).step ≡ None
second_quiet kept seen (Some slot) = refl
second_quiet kept seen None = refl

at_second_quiet : (kept : Kept) (seen : Seen) (lock : Option ℕ) → outcome_at (at_second kept seen lock).step ≡ None
at_second_quiet kept seen (Some free) = second_quiet kept seen (free_slot seen.buckets Second)
at_second_quiet kept seen None = refl

first_quiet : (kept : Kept) (seen : Seen) (slot : Option ℕ) → outcome_at (in_first kept seen slot).step ≡ None
first_quiet kept seen (Some slot) = refl
first_quiet kept seen None = at_second_quiet kept seen seen.held.second

pub at_first_quiet : (kept : Kept) (seen : Seen) (lock : Option ℕ) → outcome_at (at_first kept seen lock).step ≡ None
at_first_quiet kept seen (Some free) = first_quiet kept seen (free_slot seen.buckets First)
at_first_quiet kept seen None = refl

searched_quiet : (kept : Kept) (seen : Seen) (bucket : StashBucket) → outcome_at (searched kept seen bucket).step ≡ None
searched_quiet kept seen First = first_quiet kept seen (free_slot seen.buckets First)
searched_quiet kept seen Second = second_quiet kept seen (free_slot seen.buckets Second)

pub filled_quiet : (kept : Kept) (seen : Seen) (bucket : StashBucket) (x : Loaded) → outcome_at (filled_to kept seen bucket x).step ≡ None
filled_quiet kept seen bucket (loaded.On load) = refl
filled_quiet kept seen bucket (loaded.All words) = searched_quiet kept (put_in seen bucket words) bucket

pub taken_quiet : (seen : Seen) (bucket : StashBucket) (lock : ℕ) (x : Taken) → reply_at (locked_to seen bucket lock x).step ≡ None
taken_quiet seen bucket lock (taking.On take) = refl
taken_quiet seen bucket lock (taking.Held free) = refl
taken_quiet seen bucket lock (taking.Busy value) = giving_again seen.held (Busy lock value)
taken_quiet seen bucket lock (taking.Moved before after) = giving_again seen.held (Moved lock before after)
taken_quiet seen bucket lock taking.Spent = refl

-- ---- views
module _ (site : Ground) (kept : Kept) (is : IsIn site kept) where
  end_suits : (seen : Seen) (end : Ending) (u : View) → HoldsOnly [] u → SuitsEnd site kept seen (end_of end) u
  end_suits seen (ending.Replied answer place) u o = o
  end_suits seen (ending.Again why) u o = o

  pub giving_suits : (seen : Seen) (held : Held) (end : Ending) (u : View) → IsGiving site kept seen held u → SuitsStep site kept seen (giving held end) u
  giving_suits seen held end u g =
      by_held (λ (s : StashStep). SuitsStep site kept seen s u) held (Give held end) (Ended (end_of end)) g
      (λ none. end_suits seen end u (give_stands.ends kept.site kept.hash kept.segment held u g.locks g.quiet (ap (give_wanted_of kept.site kept.hash kept.segment) none)))

  pub give_suits : (seen : Seen) (end : Ending) (u : View) → IsGiving site kept seen seen.held u → SuitsStage site kept (give seen end) u
  give_suits seen end u g = giving_suits seen seen.held end u g

  -- ---- a free slot
  module _ (seen : Seen) (u : View) (h : HasLoaded site kept seen seen.held u) where
    putting_suits : (b : StashBucket) → IsHeld seen.held (place_of b) → (slot : ℕ) → free_slot seen.buckets b ≡ Some slot → SuitsStage site kept (putting kept seen b slot) u
    putting_suits b held slot e = record {
      all = record {
        there = h.there;
        leads = h.leads;
        locks = h.locks;
        home = h.home;
        probing = h.probing;
        bucket = held;
        nowhere = h.nowhere;
        still = h.quiet.moving;
        room = h.room;
      };
      chosen = record { free = e; written = refl };
      making = (make_knows (IsHere kept seen)).new (lock_of kept (place_of b)) (record_in kept seen.buckets b slot) (fits.loaded kept seen) u
          (holds_loaded site kept is seen u h).knows (none_loose u h.quiet);
      planned = h.quiet.planned;
      owes = h.quiet.owed;
    }

    keeps : KeepsAll site (kept_in kept seen) u
    keeps = record {
      insert = is.insert;
      pinned = h.pinned;
      leads = is.leading;
      holds = holds_loaded site kept is seen u h;
      quiet = h.quiet;
      nowhere = h.nowhere;
      home = h.full_home;
      probing = h.full_probing;
      room = h.room;
    }

    second_suits : IsFullHeld (kept_in kept seen) place.First → IsHeld seen.held place.Second → (slot : Option ℕ) → free_slot seen.buckets Second ≡ slot → SuitsStage site kept (in_second kept seen slot) u
    second_suits full held (Some slot) e = putting_suits Second held slot e
    second_suits full held None e = (record { keeps = keeps; thirds = record { next = h.thirds.next; previous = h.thirds.previous }; first = full; second = record { held = held; full = e } }, refl)

    at_second_suits : IsFullHeld (kept_in kept seen) place.First → (lock : Option ℕ) → seen.held.second ≡ lock → SuitsStage site kept (at_second kept seen lock) u
    at_second_suits full (Some free) e = second_suits full (free, e) (free_slot seen.buckets Second) refl
    at_second_suits full None e = (h, e, full, tt)

    first_suits : IsHeld seen.held place.First → (slot : Option ℕ) → free_slot seen.buckets First ≡ slot → SuitsStage site kept (in_first kept seen slot) u
    first_suits held (Some slot) e = putting_suits First held slot e
    first_suits held None e = at_second_suits (record { held = held; full = e }) seen.held.second refl

    at_first_suits : (lock : Option ℕ) → seen.held.first ≡ lock → SuitsStage site kept (at_first kept seen lock) u
    at_first_suits (Some free) e = first_suits (free, e) (free_slot seen.buckets First) refl
    at_first_suits None e = (h, e, tt, tt)

    searched_suits : (b : StashBucket) → IsHeld seen.held (place_of b) → IsNext kept seen b → SuitsStage site kept (searched kept seen b) u
    searched_suits First held next = first_suits held (free_slot seen.buckets First) refl
    searched_suits Second held next = second_suits next held (free_slot seen.buckets Second) refl

  -- ---- a lock
  module _ (seen : Seen) (v u : View) (h : HasLoaded site kept seen seen.held v) where
    spent_loaded : IsButSpent v u → HasLoaded site kept seen seen.held u
    spent_loaded s = subst (HasLoaded site kept seen seen.held) (sym s.1) (record {
      pinned = h.pinned;
      there = h.there;
      leads = h.leads;
      locks = held_same kept.site kept.hash kept.segment seen.held v (record v { spent_locks = s.0 }) refl refl refl h.locks;
      home = h.home;
      probing = h.probing;
      thirds = h.thirds;
      whole = h.whole;
      nowhere = h.nowhere;
      quiet = record { dirty = h.quiet.dirty; flushed = h.quiet.flushed; planned = h.quiet.planned; moving = h.quiet.moving; owed = h.quiet.owed };
      room = h.room;
      full_home = h.full_home;
      full_probing = h.full_probing;
    })

    spent_gives : IsButSpent v u → IsGiving site kept seen seen.held u
    spent_gives s = let l = spent_loaded s in record { located = located site kept is h.there.within; locks = l.locks; quiet = l.quiet }

    module _ (b : StashBucket) (out : free_of seen.held (place_of b) ≡ None) (next : IsNext kept seen b) where
      abbrev lock : ℕ
      lock = lock_of kept (place_of b)

      next_with : (free : ℕ) (c : StashBucket) → IsNext kept seen c → c ≡ b → IsNext kept (with_lock seen b free) c
      next_with free First n e = tt
      next_with free Second n e = subst (λ (d : StashBucket). IsFullHeld (kept_in kept (with_lock seen d free)) place.First) e (record { held = n.held; full = n.full })

      held_suits : (free : ℕ) → MayBeTaken free → u ≡ record v { held = (lock, free + 1) ∷ v.held } → SuitsStage site kept (locked_to seen b lock (taking.Held free)) u
      held_suits free may same = record {
        before = seen.held;
        free = free;
        more = refl;
        out = out;
        has = record {
          pinned = subst (λ (z : View). Has (kept.segment, kept.head) z.pinned) (sym same) h.pinned;
          there = subst (λ (z : View). IsThere site kept.segment z.facts) (sym same) h.there;
          leads = subst (λ (z : View). Leads site kept.hash kept.segment z.pinned) (sym same) h.leads;
          locks = held_more kept.site kept.hash kept.segment seen.held (place_of b) free v out h.locks u may same;
          home = h.home;
          probing = h.probing;
          thirds = h.thirds;
          whole = λ p is_held. subst (λ (z : View). IsWhole (lock_of kept p) (words_in seen.buckets p) z) (sym same) (h.whole p is_held);
          nowhere = h.nowhere;
          quiet = subst IsQuiet (sym same) (record { dirty = h.quiet.dirty; flushed = h.quiet.flushed; planned = h.quiet.planned; moving = h.quiet.moving; owed = h.quiet.owed });
          room = subst (λ (z : View). 0 < z.room) (sym same) h.room;
          full_home = h.full_home;
          full_probing = h.full_probing;
        };
        next = next_with free b next refl;
        loading = load_begins _ _;
      }

      pub locked_suits : (x : Taken) → HasTaken lock v x u → SuitsStage site kept (locked_to seen b lock x) u
      locked_suits (taking.On take) t = (spent_loaded t.1, out, next, t.0)
      locked_suits (taking.Held free) t = held_suits free t.0 t.1
      locked_suits (taking.Busy value) t = give_suits seen (ending.Again (Busy lock value)) u (spent_gives t)
      locked_suits (taking.Moved before after) t = give_suits seen (ending.Again (Moved lock before after)) u (spent_gives t)
      locked_suits taking.Spent t = (spent_gives t.1, (lock, t.0))

  -- ---- a stash bucket
  module _ (seen : Seen) (b : StashBucket) (load : Load) (v : View) (f : IsFilling site kept seen b load v) (n : ℕ) (guarded : IsGuarded v.held (lock_of kept (place_of b) + load.next % 32))
      (words : Words) (new : IsNewest site (view_after site.shape (learns (lock_of kept (place_of b) + load.next % 32)) n v) words) where
    abbrev i : ℕ
    i = lock_of kept (place_of b) + load.next % 32

    abbrev after : View
    after = view_after site.shape (learns i) n v

    learnt : HasLoaded site kept seen f.before after
    learnt = record {
      pinned = f.has.pinned;
      there = f.has.there;
      leads = f.has.leads;
      locks = held_learn kept.site kept.hash kept.segment site.shape seen.held v i n f.has.locks guarded;
      home = f.has.home;
      probing = f.has.probing;
      thirds = f.has.thirds;
      whole = λ p w j from low. inr (f.has.whole p w j from low);
      nowhere = f.has.nowhere;
      quiet = record { dirty = f.has.quiet.dirty; flushed = f.has.quiet.flushed; planned = f.has.quiet.planned; moving = f.has.quiet.moving; owed = f.has.quiet.owed };
      room = f.has.room;
      full_home = f.has.full_home;
      full_probing = f.has.full_probing;
    }

    next_put : (ws : List ℕ) (c : StashBucket) → IsNext kept seen c → c ≡ b → IsNext kept (put_in seen b ws) c
    next_put ws First n e = tt
    next_put ws Second n e = subst (λ (d : StashBucket). IsFullHeld (kept_in kept (put_in seen d ws)) place.First) e (record { held = n.held; full = n.full })

    all_suits : (ws : List ℕ) → IsWhole (lock_of kept (place_of b)) ws after → SuitsStage site kept (searched kept (put_in seen b ws) b) after
    all_suits ws all =
        searched_suits (put_in seen b ws) after (put_loaded site kept is seen b ws f.before f.free f.more f.out after learnt all words new) b
        (f.free, ap (λ (z : Held). free_of z (place_of b)) f.more ∙ held_this f.before f.free (place_of b)) (next_put ws b f.next refl)

    pub filled_suits : (x : Loaded) → HasLoadedWords (lock_of kept (place_of b)) after.known x → SuitsStage site kept (filled_to kept seen b x) after
    filled_suits (loaded.On more) has = record { before = f.before; free = f.free; more = f.more; out = f.out; has = learnt; next = f.next; loading = has }
    filled_suits (loaded.All ws) has = all_suits ws has

-- ---- where it begins
pub begin_suits : (site : Ground) (kept : Kept) (v : View) → KeepsAll site kept v → HoldsThirds kept.held → IsIn site kept → SuitsStage site kept (begun kept).stage v
begin_suits site kept v k thirds is = at_first_suits site kept is (nothing kept) v (record {
  pinned = k.pinned;
  there = k.holds.there;
  leads = k.holds.leads;
  locks = k.holds.locks;
  home = k.holds.home;
  probing = k.holds.probing;
  thirds = thirds;
  whole = known_was_loaded site kept.site kept.hash kept.segment kept.held kept.buckets v k.holds.located k.holds.knows;
  nowhere = k.nowhere;
  quiet = k.quiet;
  room = k.room;
  full_home = k.home;
  full_probing = k.probing;
}) kept.held.first refl
