-- The release of the locks of an insert that found no slot, nothing to move, and both stash buckets full, is a part of a call.
use Rattle.std.proofs.Common.{◌≡◌, ◌≢◌, ℕ, ◌<◌, ◌≤◌, true, false, Option, None, Some, List, [], inl, refl, sym, ap, subst, arith}
use Rattle.op_core.specs.declared.want.Want.{Want}
use Rattle.op_core.specs.declared.want.Want.TheVariants as want
use Rattle.op_core.specs.declared.want.Ans.{Ans}
use Rattle.op_core.specs.declared.want.Ans.TheVariants.{Passed}
use Rattle.op_core.specs.Answers.{IsAnswer}
use Rattle.image_layout.specs.Places.{Shape}
use Rattle.map_model.specs.declared.call.Call.{Call}
use Rattle.map_model.specs.declared.entry.Reply.{Reply}
use Rattle.frame_facts.specs.Facts.{Fact}
use Rattle.world.specs.declared.site.Site.{Site}
use Rattle.world.specs.Ground.{Ground, IsGround}
use Rattle.world.specs.Views.{View, Has}
use Rattle.world.specs.Wants.{answer_to, word_of}
use Rattle.world.specs.Kinds.{wanted as wanted_by, view_after}
use Rattle.world.specs.Conditions.{May}
use Rattle.world.specs.Attempts.{HoldsOnly, HasNoMore, EntersReply}
use Rattle.world.proofs.basics.Grounds.{lock_within}
use Rattle.world.proofs.calls.deeds.Calls.{calls_may}
use Rattle.part.specs.Outcomes.{reply_of}
use Rattle.part.specs.Part.{LeavesKnown, IsPart}
use Rattle.part.specs.Asks.{IsWithin}
use Rattle.phase.specs.declared.role.Role.{Role}
use Rattle.phase.specs.declared.held.Held.{Held}
use Rattle.phase.specs.declared.kept.Kept.{Kept}
use Rattle.phase.specs.Helds.{give_next, give_wanted_of, given}
use Rattle.phase.specs.Places.{lock_word}
use Rattle.phase.specs.Stands.{IsThere}
use Rattle.phase.specs.Giving.{IsLocated, give_left, give_kind_of}
use Rattle.phase.proofs.locks.Giving.{is_lock, held_none, give_stands, give_falls}
use Rattle.phase.proofs.locks.Choosing.{by_held, by_step}
use Rattle.phase.proofs.Handing.{none_more, give_answer, give_own, give_seen, give_few}
use Rattle.phase.proofs.asking.Events.{puts_word}
use Rattle.phase.proofs.Wanting.{give_answered, give_small, HasFlush, give_no_flush, plain_give, cuts_call, give_on}
use Rattle.release_op.specs.declared.op.ReleaseStep.{ReleaseStep}
use Rattle.release_op.specs.declared.op.ReleaseStep.TheVariants.{Begin, Give, Ended}
use Rattle.release_op.specs.Steps.{giving, held_in, wanted_in, next_in, wanted}
use Rattle.release_op.specs.ReleasePart.{left_at, kind_at, outcome_at, IsGivingBack, SuitsStep, ReleaseStands, release_part, BeginsAsPart, BeginsUndecided}

-- ---- in each step locks are given back, and no reply is entered
pub is_giving : (site : Ground) (kept : Kept) (s : ReleaseStep) (v : View) → SuitsStep kept site s v → IsGivingBack kept site (held_in kept s) v
is_giving site kept Begin v suits = record { locks = suits.keeps.holds.locks; quiet = suits.keeps.quiet; there = suits.keeps.holds.there }
is_giving site kept (Give held) v suits = suits
is_giving site kept Ended v suits =
    let b = suits.bare in
    record {
      locks = held_none kept.site kept.hash kept.segment v b;
      quiet = record { dirty = b.dirty; flushed = b.flushed; planned = b.planned; moving = b.moving; owed = b.owed };
      there = suits.there;
    }

no_reply : (kept : Kept) (s : ReleaseStep) → reply_of (outcome_at kept s) ≡ None
no_reply kept Begin = refl
no_reply kept (Give held) = refl
no_reply kept Ended = refl

no_more : (call : Call) (before v : View) (o : Option (Reply × ℕ)) → o ≡ None → EntersReply call o before v → HasNoMore before v
no_more call before v o none e = subst (λ (r : Option (Reply × ℕ)). EntersReply call r before v) none e

-- a lock that is given back leaves what is known of the structure
give_facts : (shape : Shape) (here : Site) (hash segment : ℕ) (next : Option (Role × ℕ)) (n : ℕ) (v : View) → (view_after shape (give_kind_of here hash segment next) n v).facts ≡ v.facts
give_facts shape here hash segment (Some next) n v = refl
give_facts shape here hash segment None n v = refl

module _ (site : Ground) (kept : Kept) where
  giving_suits : (held : Held) (u : View) → IsGivingBack kept site held u → SuitsStep kept site (giving held) u
  giving_suits held u g = by_held (λ (s : ReleaseStep). SuitsStep kept site s u) held (Give held) Ended g (λ none. record {
    bare = give_stands.ends kept.site kept.hash kept.segment held u g.locks g.quiet (ap (give_wanted_of kept.site kept.hash kept.segment) none);
    there = g.there;
  })

-- ---- one step
module _ (site : Ground) (here : Site) (call : Call) (kept : Kept) (s : ReleaseStep) (v : View) (stood : ReleaseStands site here call (record { kept = kept; step = s }) v) where
  abbrev Stood : ReleaseStep → View → Type 0
  Stood t u = ReleaseStands site here call (record { kept = kept; step = t }) u

  abbrev held : Held
  held = held_in kept s

  g : IsGivingBack kept site held v
  g = is_giving site kept s v stood.view

  abbrev next_view : ℕ → View
  next_view n = view_after site.shape (kind_at kept s) n v

  wants : wanted_in kept s ≢ want.Done → wanted_in kept s ≡ wanted_by site.shape (kind_at kept s)
  wants asks = give_stands.wants site.shape kept.site kept.hash kept.segment held v g.locks asks

  may : May site (kind_at kept s) v
  may = give_stands.may site kept.site kept.hash kept.segment held v g.locks g.quiet

  -- what is answered is that the store passed
  answered : (n : ℕ) → answer_to (wanted_in kept s) n ≡ Passed
  answered n = give_answer kept.site kept.hash kept.segment (give_next held) n

  stands : (n : ℕ) → Stood (next_in kept s (answer_to (wanted_in kept s) n)) (next_view n)
  stands n =
      let u : View = next_view n in
      subst (λ (a : Ans). Stood (next_in kept s a) u) (sym (answered n)) (record {
        may = stood.may;
        insert = stood.insert;
        located = stood.located;
        view = giving_suits site kept (given held) u (record {
          locks = give_stands.locks site kept.site kept.hash kept.segment held v n stood.located g.locks;
          quiet = give_stands.quiet site.shape kept.site kept.hash kept.segment held v n g.quiet;
          there = subst (λ (facts : List Fact). IsThere site kept.segment facts) (sym (give_facts site.shape kept.site kept.hash kept.segment (give_next held) n v)) g.there;
        });
      })

  enters : (before : View) (t : ReleaseStep) (n : ℕ) → EntersReply call (reply_of (outcome_at kept s)) before v → EntersReply call (reply_of (outcome_at kept t)) before (next_view n)
  enters before t n e =
      none_more call before v (reply_of (outcome_at kept t)) (next_view n) (no_reply kept t) (no_more call before v (reply_of (outcome_at kept s)) (no_reply kept s) e)
      (give_own site.shape kept.site kept.hash kept.segment (give_next held) n v)
      (give_seen site.shape kept.site kept.hash kept.segment (give_next held) n v)

  -- it has no areas, nothing is planned, and nothing held at the end
  pub no_areas : v.areas ≡ []
  no_areas = g.locks.areas

  no_plan : v.planned ≡ []
  no_plan = g.quiet.planned

  pub bare_at : wanted_in kept s ≡ want.Done → HoldsOnly [] v
  bare_at done = give_stands.ends kept.site kept.hash kept.segment held v g.locks g.quiet done

-- ---- in any state
giving_most : (kept : Kept) (held : Held) → left_at kept (giving held) ≤ give_left held
giving_most kept held = by_step (λ (s : ReleaseStep). left_at kept s ≤ give_left held) held (Give held) Ended (omega arith) (omega arith)

falls_at : (kept : Kept) (s : ReleaseStep) (a : Ans) → IsAnswer (wanted_in kept s) a → left_at kept (next_in kept s a) < left_at kept s
falls_at kept s a i =
    let held : Held = held_in kept s in
    let low = giving_most kept (given held) in
    let fewer = give_falls kept.site kept.hash kept.segment held (λ e. absurd (subst (λ w. IsAnswer w a) e i)) in
    subst (λ (x : Ans). left_at kept (next_in kept s x) < give_left held) (sym (give_answered kept.site kept.hash kept.segment (give_next held) a i)) (omega (arith, low, fewer))

-- ---- what it asks
module _ (site : Ground) (good : IsGround site) (here : Site) (hash segment : ℕ) (l : IsLocated site here segment) where
  give_within : (next : Option (Role × ℕ)) → IsWithin site.shape (give_wanted_of here hash segment next)
  give_within (Some next) = record {
    word = (let low = lock_within site.shape (lock_word here hash segment next.0) (is_lock site here hash segment l next.0) in omega (arith, low));
    line = λ n e. absurd (cc);
  }
  give_within None = record { word = (let some = good.shape.some in omega (arith, some)); line = λ n e. absurd (cc) }

-- A RELEASE IS A PART of a call
-- it never ends since a segment is stale
known_at : (site : Ground) (kept : Kept) (s : ReleaseStep) (facts : List Fact) → LeavesKnown site (outcome_at kept s) facts
known_at site kept Begin facts = tt
known_at site kept (Give held) facts = tt
known_at site kept Ended facts = tt

pub release_is_part : IsPart release_part
release_is_part = record {
  steps = λ site here call words views j op before v h at s asks.
      let n : ℕ = words (word_of site.shape (wanted op)) in
      let t : ReleaseStep = next_in op.kept op.step (answer_to (wanted op) n) in
      record {
        wants = wants site here call op.kept op.step v s.stands asks;
        may = calls_may site (kind_at op.kept op.step) v (no_areas site here call op.kept op.step v s.stands) (may site here call op.kept op.step v s.stands);
        stands = λ small. stands site here call op.kept op.step v s.stands n;
        enters = λ small. enters site here call op.kept op.step v s.stands before t n s.enters;
        makes = λ p. absurd (plain_give op.kept.site op.kept.hash op.kept.segment (give_next (held_in op.kept op.step)) p);
      };
  ends = λ site here call op v s done closed on. bare_at site here call op.kept op.step v s done;
  time = record { falls = λ op a i. inl (falls_at op.kept op.step a i); most = λ op. give_few (held_in op.kept op.step) };
  within = λ site here call op before v good s. give_within site good op.kept.site op.kept.hash op.kept.segment s.stands.located (give_next (held_in op.kept op.step));
  words = λ site here call op before v s. puts_word (wanted op) (give_small op.kept.site op.kept.hash op.kept.segment (give_next (held_in op.kept op.step)));
  flushes = record {
    most = λ op. omega arith;
    flushes = λ op a l i f. absurd (give_no_flush op.kept.site op.kept.hash op.kept.segment (give_next (held_in op.kept op.step)) (subst (λ (w : Want). HasFlush w) (sym f) tt));
    keeps = λ op a i f. omega arith;
    ends = λ op done. refl;
  };
  made = record { stays = λ op a i made. absurd made; done = λ op made done. absurd made };
  plans = λ site here call op before v planned s has. absurd (subst (λ (l : List Call). Has planned l) (no_plan site here call op.kept op.step v s.stands) has);
  relies = λ site here call op v s. known_at site op.kept op.step v.facts;
  hands = λ op hands. absurd (let f : false ≡ true = hands in cc);
  power = λ op n e. give_on op.kept.site op.kept.hash op.kept.segment (give_next (held_in op.kept op.step)) (cuts_call (kind_at op.kept op.step) e);
}

-- ---- where it begins
pub begins_as_part : BeginsAsPart
begins_as_part site here call kept v may full = record { may = may; insert = full.keeps.insert; located = full.keeps.holds.located; view = full }

pub begins_undecided : BeginsUndecided
begins_undecided kept = refl
