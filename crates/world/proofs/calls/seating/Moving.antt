-- Views that are cut in two or joined keep the invariant: each part of it goes with the views to their seats.
use Rattle.std.proofs.Common.{◌≡◌, ◌⊎◌, ℕ, ◌+◌, List, inl, inr, subst}
use Rattle.trace.specs.Events.{Words}
use Rattle.image_layout.specs.Places.{bucket_at, homes}
use Rattle.frame_facts.specs.Hits.{find}
use Rattle.world.specs.Ground.{Ground, IsUnder}
use Rattle.world.specs.Views.{Glance, View, Has}
use Rattle.world.specs.History.{Log}
use Rattle.world.specs.Parts.{IsPastLock}
use Rattle.world.specs.Invariant.{IsWatched, Structure, KnownWords, Records, Overflow, Media, IsPastHeader, Notes, Holds}
use Rattle.world.specs.areas.Areas.{Area, Side, Whole, Allocation}
use Rattle.world.specs.areas.Fitting.{HoldsWord}
use Rattle.world.specs.areas.Kinds.{area_of}
use Rattle.world.specs.StepLaws.{CutsKeep, JoinsKeep}
use Rattle.world.proofs.basics.Lists.{same_at}
use Rattle.world.proofs.stepping.Reseated.{Reseats, fewer, still_stands, still_removing, still_moving, none_owed, pinned_go, locks_go, plans_go, history_goes, moves_held, owed_held, room_goes, spending_goes, powered_goes, noted, answered_goes, cut_reseats, join_reseats}
use Rattle.world.proofs.fitting.lasting.Seated.{SeatsMove, may_move, fits_go, owners_go, lasting_goes, cut_moves, join_moves}

module _ (site : Ground) (words : Words) (views views' : List View) (r : Reseats views views') (g : SeatsMove views views') where
  -- who has all locks and areas of a view holds all words that it held
  holds_more : (u o : View) (n : ℕ) → ((p : ℕ × ℕ) → Has p o.held → Has p u.held) → ((a : Area) → Has a o.areas → Has a u.areas) → HoldsWord site.shape o n → HoldsWord site.shape u n
  holds_more u o n locks areas (inl q) = inl (q.0, (q.1.0, locks (q.0, q.1.0) q.1.1), q.2)
  holds_more u o n locks areas (inr q) = inr (q.0, areas q.0 q.1, q.2)

  -- a segment that is watched was watched
  was_watched : (s : ℕ) → IsWatched site words views' s → IsWatched site words views s
  was_watched s q = (q.0, λ j o at whole. let t = g.areas_stay j o (Whole s) at whole in q.1 (g.goes j) t.0 t.1 t.2)

  -- ---- each part of the invariant
  structure_goes : Structure site words views → Structure site words views'
  structure_goes q = record {
    sound = λ m p. q.sound m (fewer site words views views' r m p);
    fits = fits_go site words views views' g q.fits;
    guards = λ j v guard at has. let f = g.areas j v (area_of guard) at has in q.guards f.seat f.old guard f.at f.has;
    held_guards = λ guard is some. let o = q.held_guards guard is some in let t = g.areas_stay o.0 o.1 (area_of guard) o.2 o.3 in (g.goes o.0, t.0, t.1, t.2);
    says = λ j v fact m at has p. let f = g.facts j v fact at has in q.says f.seat f.old fact m f.at f.has (fewer site words views views' r m p);
    may_say = λ j v fact at has. let f = g.facts j v fact at has in may_move site words views views' g j v f fact (q.may_say f.seat f.old fact f.at f.has);
    pinned = λ j v s x at has. pinned_go site words views views' r j v s x at has (λ i o a is. q.pinned i o s x a is);
    owners = owners_go site words views views' g q.owners;
    lasting = lasting_goes site words views views' g q.lasting;
    settled_slots = λ n slot some. elim (q.settled_slots n slot some) [
      | inl o ↦
          let a = g.areas_stay o.0 o.1 Allocation o.2 o.3 in
          let b = g.areas_stay o.0 o.1 (Side n) o.2 o.4 in
          let same : b.0 ≡ a.0 = same_at views' (g.goes o.0) b.0 a.0 b.1 a.1 in
          inl (g.goes o.0, a.0, a.1, a.2, subst (λ (z : View). Has (Side n) z.areas) same b.2)
      | inr taken ↦ inr (λ m p. taken m (fewer site words views views' r m p))
    ];
    used_slots = q.used_slots;
  }

  words_go : KnownWords site words views → KnownWords site words views'
  words_go q = record {
    knows = λ j v i x at has. let f = r.known j v (i, x) at has in let k = q.knows f.seat f.old i x f.at f.has in (k.0, holds_more v f.old i f.locks f.areas k.1);
    loose = λ j v i x at has. let f = r.loose j v (i, x) at has in holds_more v f.old i f.locks f.areas (q.loose f.seat f.old i x f.at f.has);
  }

  records_go : Records site words views → Records site words views'
  records_go q = record {
    own = λ s b n k watched hit. q.own s b n k (was_watched s watched) hit;
    once = λ s b n c t k watched one other. elim (q.once s b n c t k (was_watched s watched) one other) [
      | inl e ↦ inl e
      | inr o ↦ inr (still_moving site words views views' r s k b n c t o)
    ];
    held = λ j v m at has. moves_held site words views views' r j v m at has (λ i o a is. q.held i o m a is);
  }

  notes_of_homes_go : Overflow site words views → Overflow site words views'
  notes_of_homes_go q = record {
    exact = λ s b watched near none. q.exact s b (was_watched s watched) near (none_owed site words views views' r s b none);
    owes = λ j v d at has. let f = r.owed j v d at has in q.owes f.seat f.old d f.at f.has;
    held = λ j v d at has. owed_held site words views views' r j v d at has (λ i o a is. q.held i o d a is);
    fits = λ j v d at has. let f = r.owed j v d at has in q.fits f.seat f.old d f.at f.has;
  }

  media_go : (log : Log) → Media site words views log → Media site words views' log
  media_go log q = record {
    table = λ m p. q.table m (fewer site words views views' r m p);
    stashed = λ m p s c t k watched small own hit. elim (q.stashed m (fewer site words views views' r m p) s c t k (was_watched s watched) small own hit) [
      | inl e ↦ inl e
      | inr o ↦ inr (still_removing site words views views' r k (bucket_at site.shape s (homes + c)) o)
    ];
    stands = λ m p k. still_stands site words views views' r log k (find site.shape m k) (q.stands m (fewer site words views views' r m p) k);
  }

  notes_go : (log : Log) → Notes site words views log → Notes site words views' log
  notes_go log q = record {
    past = λ j v note at has. noted site words views views' r (λ (n : Glance). IsPastLock site words n ⊎ IsPastHeader site words n) q.past j v note at has;
    inside = λ j v note i x at has. noted site words views views' r (λ (n : Glance). Has (i, x) n.words → IsUnder n.word i) (λ k o n a is. q.inside k o n i x a is) j v note at has;
    same = λ j v note i x at has. noted site words views views' r (λ (n : Glance). words n.word ≡ n.value → Has (i, x) n.words → words i ≡ x) (λ k o n a is. q.same k o n i x a is) j v note at has;
    answered = answered_goes site words views views' r log q.answered;
  }

  pub holding_goes : Holds site words views → Holds site words views'
  holding_goes h = record {
    site_is = h.site_is;
    log = h.log;
    structure = structure_goes h.structure;
    locks = locks_go site words views views' r h.locks;
    known = words_go h.known;
    plans = plans_go site words views views' r h.log h.plans;
    history = history_goes site words views views' r h.log h.history;
    records = records_go h.records;
    notes_of_homes = notes_of_homes_go h.notes_of_homes;
    media = media_go h.log h.media;
    notes = notes_go h.log h.notes;
    room = room_goes site words views views' r h.log h.room;
    spending = spending_goes site words views views' r h.log h.spending;
    powered = powered_goes site words views views' r h.powered;
  }

pub cuts_keep : CutsKeep
cuts_keep site words views j v n h at fits = holding_goes site words views _ (cut_reseats views j v n at fits h.room.each) (cut_moves views j v n at) h

pub joins_keep : JoinsKeep
joins_keep site words views j i v w h at at' apart =
    holding_goes site words views _ (join_reseats views j i v w at at' apart h.room.each) (join_moves views j i v w at at' apart) h
