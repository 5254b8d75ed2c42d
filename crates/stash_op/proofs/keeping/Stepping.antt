-- At the locks, while stash buckets are loaded, at the draw, and while locks are given back: each event leaves a view that suits.
use Rattle.std.proofs.Common.{ℕ, ◌+◌, ◌%◌, ◌^◌, ◌<◌, false, Option, refl, sym, ap, ◌∙◌, subst}
use Rattle.trace.specs.Events.{Words}
use Rattle.map_model.specs.declared.call.Call.{Call}
use Rattle.map_model.specs.declared.entry.Reply.{Reply}
use Rattle.map_model.specs.declared.entry.Reply.TheVariants as reply
use Rattle.map_model.specs.Changes.{call_of}
use Rattle.world.specs.Ground.{Ground}
use Rattle.world.specs.Views.{View, IsGuarded}
use Rattle.world.specs.Wants.{answer_to}
use Rattle.world.specs.Kinds.{next_entry, with_reply, with_draw, view_after}
use Rattle.world.specs.Conditions.{IsNewest}
use Rattle.world.specs.Attempts.{HasNoMore, EntersReply}
use Rattle.part.specs.Outcomes.{reply_of}
use Rattle.phase.specs.declared.take.Take.{Take}
use Rattle.phase.specs.declared.load.Load.{Load}
use Rattle.phase.specs.declared.held.Held.{Held}
use Rattle.phase.specs.declared.kept.Kept.{Kept}
use Rattle.phase.specs.Helds.{free_of, give_next, given}
use Rattle.phase.specs.Takes.{take_wanted, take_taken}
use Rattle.phase.specs.Loads.{load_taken}
use Rattle.phase.specs.Taking.{take_kind}
use Rattle.phase.specs.Giving.{IsHeld}
use Rattle.phase.proofs.Handing.{none_more, one_more, same_more, give_own, give_seen, one_drawn}
use Rattle.phase.proofs.Loading.{load_stands}
use Rattle.phase.proofs.locks.Holding.{learn_may}
use Rattle.phase.proofs.locks.Taking.{take_stands}
use Rattle.phase.proofs.locks.Replying.{reply_gives, draw_gives}
use Rattle.phase.proofs.locks.Giving.{held_this, held_has, give_stands}
use Rattle.phase.proofs.Wanting.{take_own, take_seen}
use Rattle.stash_op.specs.declared.step.StashBucket.{StashBucket}
use Rattle.stash_op.specs.declared.step.Seen.{Seen}
use Rattle.phase.specs.declared.ending.Ending.{Ending}
use Rattle.phase.specs.declared.ending.Ending.TheVariants as ending
use Rattle.stash_op.specs.declared.step.StashStep.TheVariants.{Lock, Fill, Give}
use Rattle.stash_op.specs.Search.{place_of}
use Rattle.stash_op.specs.Steps.{go, giving, answered, filled_to, locked_to, lock_of}
use Rattle.stash_op.specs.Fits.{kind_at, IsFilling, IsDrawing, IsGiving, SuitsStep, IsIn}
use Rattle.stash_op.proofs.finding.Standing.{located}
use Rattle.stash_op.proofs.keeping.Going.{reply_at, Goes, giving_outcome, giving_suits, give_suits, taken_quiet, filled_quiet, locked_suits, filled_suits}

module _ (site : Ground) (kept : Kept) (is : IsIn site kept) (seen : Seen) (before v : View) where
  -- ---- a lock
  pub lock_goes : (b : StashBucket) (t : Take) (n : ℕ) → n < 2 ^ 64 → SuitsStep site kept seen (Lock b t) v → HasNoMore before v
      → Goes site kept before (locked_to seen b (lock_of kept (place_of b)) (take_taken t (answer_to (take_wanted (lock_of kept (place_of b)) t) n))) (view_after site.shape (take_kind (lock_of kept (place_of b)) t) n v)
  lock_goes b t n small suits same =
      let lock : ℕ = lock_of kept (place_of b) in
      let x = take_taken t (answer_to (take_wanted lock t) n) in
      let u : View = view_after site.shape (take_kind lock t) n v in (
        locked_suits site kept is seen v u suits.0 b suits.1 suits.2 x (take_stands site.shape lock t v n suits.3 small),
        none_more (call_of kept.change) before v (reply_at (locked_to seen b lock x).step) u (taken_quiet seen b lock x) same (take_own site.shape lock t n v) (take_seen site.shape lock t n v),
      )

  -- ---- a stash bucket
  fill_held : (b : StashBucket) (load : Load) → IsFilling site kept seen b load v → IsHeld seen.held (place_of b)
  fill_held b load f = (f.free, ap (λ (z : Held). free_of z (place_of b)) f.more ∙ held_this f.before f.free (place_of b))

  pub fill_guard : (b : StashBucket) (load : Load) → IsFilling site kept seen b load v → IsGuarded v.held (lock_of kept (place_of b) + load.next % 32)
  fill_guard b load f = learn_may site (lock_of kept (place_of b)) load v f.loading (held_has kept.site kept.hash kept.segment seen.held (place_of b) v f.has.locks (fill_held b load f))

  pub fill_goes : (b : StashBucket) (load : Load) (n : ℕ) (words : Words) → IsNewest site (view_after site.shape (kind_at kept seen (Fill b load)) n v) words
      → IsFilling site kept seen b load v → HasNoMore before v
      → Goes site kept before (filled_to kept seen b (load_taken load n)) (view_after site.shape (kind_at kept seen (Fill b load)) n v)
  fill_goes b load n words new f same =
      let u : View = view_after site.shape (kind_at kept seen (Fill b load)) n v in (
        filled_suits site kept is seen b load v f n (fill_guard b load f) words new (load_taken load n) (load_stands (lock_of kept (place_of b)) v.known load n f.loading),
        none_more (call_of kept.change) before v (reply_at (filled_to kept seen b (load_taken load n)).step) u (ap reply_of (filled_quiet kept seen b (load_taken load n))) same refl refl,
      )

  -- ---- a lock that is spent
  pub spent_goes : IsGiving site kept seen seen.held v → (n : ℕ) → HasNoMore before v
      → Goes site kept before (answered seen n reply.Spent) (with_reply v (next_entry v (call_of kept.change) reply.Spent n false))
  spent_goes g n same =
      let u : View = with_reply v (next_entry v (call_of kept.change) reply.Spent n false) in (
        give_suits site kept is seen (ending.Replied reply.Spent n) u (reply_gives site kept.site kept.hash kept.segment seen.held v (next_entry v (call_of kept.change) reply.Spent n false) g),
        subst (λ (o : Option (Reply × ℕ)). EntersReply (call_of kept.change) o before u) (sym (ap reply_of (giving_outcome seen.held (ending.Replied reply.Spent n))))
            (one_more (call_of kept.change) before v reply.Spent n refl same),
      )

  -- ---- the draw
  module _ (d : IsDrawing site kept seen v) (n : ℕ) (same : HasNoMore before v) where
    abbrev call : Call
    call = call_of kept.change

    abbrev after : View
    after = with_draw call n v

    pub draw_goes : Goes site kept before (answered seen n reply.Done) after
    draw_goes = (
      give_suits site kept is seen (ending.Replied reply.Done n) after
          (draw_gives site kept.site kept.hash kept.segment seen.held v call n (located site kept is d.all.there.within) d.all.locks d.settled d.planned d.all.still d.owes),
      subst (λ (o : Option (Reply × ℕ)). EntersReply call o before after) (sym (ap reply_of (giving_outcome seen.held (ending.Replied reply.Done n)))) (one_drawn call before v n same),
    )

  -- ---- locks back
  pub give_goes : (held : Held) (end : Ending) (n : ℕ) → IsGiving site kept seen held v → EntersReply (call_of kept.change) (reply_at (Give held end)) before v
      → Goes site kept before (go seen (giving (given held) end)) (view_after site.shape (kind_at kept seen (Give held end)) n v)
  give_goes held end n g enters =
      let u : View = view_after site.shape (kind_at kept seen (Give held end)) n v in (
        giving_suits site kept is seen (given held) end u (record {
          located = g.located;
          locks = give_stands.locks site kept.site kept.hash kept.segment held v n g.located g.locks;
          quiet = give_stands.quiet site.shape kept.site kept.hash kept.segment held v n g.quiet;
        }),
        subst (λ (o : Option (Reply × ℕ)). EntersReply (call_of kept.change) o before u) (sym (ap reply_of (giving_outcome (given held) end)))
            (same_more (call_of kept.change) before v (reply_at (Give held end)) u enters (give_own site.shape kept.site kept.hash kept.segment (give_next held) n v)
            (give_seen site.shape kept.site kept.hash kept.segment (give_next held) n v)),
      )
