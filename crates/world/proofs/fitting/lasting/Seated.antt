-- What is said of areas stays so where a view is cut in two, or two are joined.
use Rattle.std.proofs.Common.{◌≡◌, ◌≢◌, ℕ, List, [], ◌∷◌, ◌++◌, set, inl, inr, sym, ap, ◌∙◌}
use Rattle.trace.specs.Events.{Words}
use Rattle.image_layout.specs.Places.{bucket_at}
use Rattle.frame_facts.specs.Facts.{Fact, Lives, Current, Rooted, Owns, Lacks, Deep, Begins, Used, Taken}
use Rattle.world.specs.Ground.{Ground}
use Rattle.world.specs.Views.{View, Has, At, IsLoose}
use Rattle.world.specs.Media.{IsPossible}
use Rattle.world.specs.Seats.{cut_off, left_of, joined, spent}
use Rattle.world.specs.areas.Areas.{Area, Segment, Stale, Side, Free, Whole, Allocation, Directory, header_word}
use Rattle.world.specs.areas.Fitting.{LivesOn, MayStayDead, Fits}
use Rattle.world.specs.areas.Lasting.{Owners, Lasting}
use Rattle.world.specs.areas.Saying.{MaySay, Saying}
use Rattle.world.specs.areas.Beginning.{AreasStand}
use Rattle.world.specs.areas.Seated.{CutsKeepAreas, JoinsKeepAreas}
use Rattle.world.proofs.basics.Lists.{has_joined}
use Rattle.world.proofs.stepping.Reseated.{From, new_views, still, from_v, from_other, goes, joint_views, stays, of_v, of_w, of_other, before, behind}

-- each area, lock, loose word and fact of the new views is one of an old view, which went there with all that it had
pub record SeatsMove (views views' : List View) : Type 0 where
  pub goes : ℕ → ℕ
  pub held : (i : ℕ) (u : View) (p : ℕ × ℕ) → At views' i u → Has p u.held → From views goes i u (λ o. Has p o.held)
  pub loose : (i : ℕ) (u : View) (p : ℕ × ℕ) → At views' i u → IsLoose u p → From views goes i u (λ o. IsLoose o p)
  pub areas : (i : ℕ) (u : View) (a : Area) → At views' i u → Has a u.areas → From views goes i u (λ o. Has a o.areas)
  pub facts : (i : ℕ) (u : View) (f : Fact) → At views' i u → Has f u.facts → From views goes i u (λ o. Has f o.facts)
  pub loose_stays : (j : ℕ) (o : View) (p : ℕ × ℕ) → At views j o → IsLoose o p → (u : View) × At views' (goes j) u × IsLoose u p
  pub areas_stay : (j : ℕ) (o : View) (a : Area) → At views j o → Has a o.areas → (u : View) × At views' (goes j) u × Has a u.areas

module _ (site : Ground) (words : Words) (views views' : List View) (r : SeatsMove views views') where
  fewer : (m : Words) → IsPossible site words views' m → IsPossible site words views m
  fewer m p i within = elim (p i within) [
    | inl e ↦ inl e
    | inr s ↦ (let f = r.loose s.0 s.1 (i, s.2) s.3 s.4 in inr (f.seat, f.old, s.2, f.at, f.has, s.5))
  ]

  lives : (s : ℕ) → LivesOn site words views s → LivesOn site words views' s
  lives s l m p = l m (fewer m p)

  dead : (n : ℕ) → MayStayDead site words views n → MayStayDead site words views' n
  dead n q = record {
    old = q.old;
    may = elim q.may [
      | inl e ↦ inl e
      | inr l ↦ (let k = r.loose_stays l.0 l.1 (header_word site.shape n, l.2) l.3 l.4 in inr (r.goes l.0, k.0, l.2, k.1, k.2, l.5))
    ];
    dead = q.dead;
  }

  -- what an old view may say, the view may to which it went
  pub may_move : {P : View → Type 0} (i : ℕ) (u : View) (f : From views r.goes i u P) → (fact : Fact) → MaySay f.old.areas fact → MaySay u.areas fact
  may_move i u f (Owns s d p) m = elim m [ inl a ↦ inl (f.areas (Segment s) a) | inr a ↦ inr (f.areas Directory a) ]
  may_move i u f (Lives s) m = tt
  may_move i u f (Current s) m = tt
  may_move i u f (Rooted e) m = tt
  may_move i u f (Lacks s d p) m = tt
  may_move i u f (Deep k d p) m = tt
  may_move i u f (Begins s k) m = tt
  may_move i u f (Used n) m = tt
  may_move i u f (Taken n) m = f.areas Allocation m

  -- a guard has one holder
  one : (a : Area) → ((i k : ℕ) (u y : View) → At views i u → At views k y → Has a u.areas → Has a y.areas → i ≡ k)
      → (i k : ℕ) (u y : View) → At views' i u → At views' k y → Has a u.areas → Has a y.areas → i ≡ k
  one a was i k u y ai ak hu hy =
      let f = r.areas i u a ai hu in let q = r.areas k y a ak hy in
      sym f.went ∙ (ap r.goes (was f.seat q.seat f.old q.old f.at q.at f.has q.has) ∙ q.went)

  -- ---- each part of what is said of areas
  pub fits_go : Fits site words views → Fits site words views'
  fits_go q = record {
    lock = λ j v lock at has. let f = r.held j v (lock, has.0) at has.1 in let l = q.lock f.seat f.old lock f.at (has.0, f.has) in
        record { segment = l.segment; bucket = l.bucket; near = l.near; is = l.is; current = l.current; lives = lives l.segment l.lives };
    segment = λ j v s at has. let f = r.areas j v (Segment s) at has in lives s (q.segment f.seat f.old s f.at f.has);
    stale = λ j v s at has. let f = r.areas j v (Stale s) at has in let k = q.stale f.seat f.old s f.at f.has in (f.areas (Segment s) k.0, k.1);
    side = λ j v n at has. let f = r.areas j v (Side n) at has in let k = q.side f.seat f.old n f.at f.has in let a = k.0 in (
      record {
        slot = a.slot;
        taken = a.taken;
        parent = a.parent;
        parent_slot = a.parent_slot;
        guarded = f.areas (Segment a.parent) a.guarded;
        splits = a.splits;
        depth = a.depth;
        pattern = a.pattern;
      },
      dead n k.1,
    );
    free_slot = λ j v n at has. let f = r.areas j v (Free n) at has in let k = q.free_slot f.seat f.old n f.at f.has in (f.areas Allocation k.0, k.1, k.2);
    whole = λ j v s at has. let f = r.areas j v (Whole s) at has in let k = q.whole f.seat f.old s f.at f.has in
        (f.areas (Segment s) k.0, λ b near. let l = k.1 b near in (l.0, f.locks (bucket_at site.shape s b, l.0) l.1));
    splits = λ s c split. let o = q.splits s c split in let t = r.areas_stay o.0 o.1 (Whole s) o.2 o.3 in (r.goes o.0, t.0, t.1, t.2);
    one_segment = λ i k u y s. one (Segment s) (λ i k u y. q.one_segment i k u y s) i k u y;
    one_allocation = one Allocation q.one_allocation;
    one_directory = one Directory q.one_directory;
  }

  pub owners_go : Owners site words views → Owners site words views'
  owners_go q = record {
    same = λ m p k. elim (q.same m (fewer m p) k) [
      | inl e ↦ inl e
      | inr o ↦ (let t = r.areas_stay o.2.0 o.2.1 (Side o.0) o.2.2 o.2.3 in inr (o.0, o.1, (r.goes o.2.0, t.0, t.1, t.2)))
    ];
  }

  pub lasting_goes : Lasting site words views → Lasting site words views'
  lasting_goes q = record {
    steady = λ m p. q.steady m (fewer m p);
    living = λ s l. elim (q.living s l) [
      | inl on ↦ inl (lives s on)
      | inr o ↦ (let t = r.areas_stay o.0 o.1 (Side s) o.2 o.3 in inr (r.goes o.0, t.0, t.1, t.2))
    ];
  }

  pub saying_goes : Saying site words views → Saying site words views'
  saying_goes q = record {
    said = λ j v fact at has m p. let f = r.facts j v fact at has in q.said f.seat f.old fact f.at f.has m (fewer m p);
    may = λ j v fact at has. let f = r.facts j v fact at has in may_move j v f fact (q.may f.seat f.old fact f.at f.has);
  }

  pub seated : AreasStand site words views → AreasStand site words views'
  seated h = record {
    fits = fits_go h.fits;
    sound = λ m p. h.sound m (fewer m p);
    owners = owners_go h.owners;
    lasting = lasting_goes h.lasting;
    saying = saying_goes h.saying;
    guards = record { taken = λ j v a i at q is. let f = r.areas j v a at q in h.guards.taken f.seat f.old a i f.at f.has is };
  }

-- ---- a view cut in two
module _ (views : List View) (j : ℕ) (v : View) (n : ℕ) (at : At views j v) where
  pub cut_moves : SeatsMove views (set views j (left_of v n) ++ cut_off v n ∷ [])
  cut_moves = record {
    goes = λ i. i;
    held = λ i u p a q. new_views views j v n at (λ i u. Has p u.held → From views (λ i. i) i u (λ o. Has p o.held))
        (λ q. from_v views j v n at q) (λ i u ne a q. from_other views j v n at i u a q) (λ i q. absurd q) i u a q;
    loose = λ i u p a q. new_views views j v n at (λ i u. IsLoose u p → From views (λ i. i) i u (λ o. IsLoose o p))
        (λ q. from_v views j v n at q) (λ i u ne a q. from_other views j v n at i u a q)
        (λ i q. elim q [ inl d ↦ absurd d | inr f ↦ absurd f ]) i u a q;
    areas = λ i u c a q. new_views views j v n at (λ i u. Has c u.areas → From views (λ i. i) i u (λ o. Has c o.areas))
        (λ q. from_v views j v n at q) (λ i u ne a q. from_other views j v n at i u a q) (λ i q. absurd q) i u a q;
    facts = λ i u c a q. new_views views j v n at (λ i u. Has c u.facts → From views (λ i. i) i u (λ o. Has c o.facts))
        (λ q. from_v views j v n at q) (λ i u ne a q. from_other views j v n at i u a q) (λ i q. absurd q) i u a q;
    loose_stays = λ i o p a q. still views j v n at (λ z. IsLoose z p) (λ q. q) i o a q;
    areas_stay = λ i o c a q. still views j v n at (λ z. Has c z.areas) (λ q. q) i o a q;
  }

pub cuts_keep_areas : CutsKeepAreas
cuts_keep_areas site words views j v n h at = seated site words views _ (cut_moves views j v n at) h

-- ---- two views joined
module _ (views : List View) (j i : ℕ) (v w : View) (at : At views j v) (at' : At views i w) (apart : i ≢ j) where
  pub join_moves : SeatsMove views (set (set views j (joined v w)) i (spent w))
  join_moves = record {
    goes = goes views j i v w at at' apart;
    held = λ n u p a q. joint_views views j i v w at at' apart (λ n u. Has p u.held → From views (goes views j i v w at at' apart) n u (λ o. Has p o.held))
        (λ q. elim (has_joined v.held w.held p q) [ inl l ↦ of_v views j i v w at at' apart (λ o. Has p o.held) l | inr l ↦ of_w views j i v w at at' apart (λ o. Has p o.held) l ])
        (λ q. absurd q) (λ n u ne ne' a q. of_other views j i v w at at' apart (λ o. Has p o.held) n u ne' a q) n u a q;
    loose = λ n u p a q. joint_views views j i v w at at' apart (λ n u. IsLoose u p → From views (goes views j i v w at at' apart) n u (λ o. IsLoose o p))
        (λ q. elim q [
          | inl d ↦ elim (has_joined v.dirty w.dirty p d) [ inl l ↦ of_v views j i v w at at' apart (λ o. IsLoose o p) (inl l) | inr l ↦ of_w views j i v w at at' apart (λ o. IsLoose o p) (inl l) ]
          | inr f ↦ elim (has_joined v.flushed w.flushed p f) [ inl l ↦ of_v views j i v w at at' apart (λ o. IsLoose o p) (inr l) | inr l ↦ of_w views j i v w at at' apart (λ o. IsLoose o p) (inr l) ]
        ])
        (λ q. elim q [ inl d ↦ absurd d | inr f ↦ absurd f ]) (λ n u ne ne' a q. of_other views j i v w at at' apart (λ o. IsLoose o p) n u ne' a q) n u a q;
    areas = λ n u c a q. joint_views views j i v w at at' apart (λ n u. Has c u.areas → From views (goes views j i v w at at' apart) n u (λ o. Has c o.areas))
        (λ q. elim (has_joined v.areas w.areas c q) [ inl l ↦ of_v views j i v w at at' apart (λ o. Has c o.areas) l | inr l ↦ of_w views j i v w at at' apart (λ o. Has c o.areas) l ])
        (λ q. absurd q) (λ n u ne ne' a q. of_other views j i v w at at' apart (λ o. Has c o.areas) n u ne' a q) n u a q;
    facts = λ n u c a q. joint_views views j i v w at at' apart (λ n u. Has c u.facts → From views (goes views j i v w at at' apart) n u (λ o. Has c o.facts))
        (λ q. elim (has_joined v.facts w.facts c q) [ inl l ↦ of_v views j i v w at at' apart (λ o. Has c o.facts) l | inr l ↦ of_w views j i v w at at' apart (λ o. Has c o.facts) l ])
        (λ q. absurd q) (λ n u ne ne' a q. of_other views j i v w at at' apart (λ o. Has c o.facts) n u ne' a q) n u a q;
    loose_stays = λ n o p a q. stays views j i v w at at' apart (λ z. IsLoose z p)
        (λ q. elim q [ inl d ↦ inl (before v.dirty w.dirty p d) | inr f ↦ inr (before v.flushed w.flushed p f) ])
        (λ q. elim q [ inl d ↦ inl (behind v.dirty w.dirty p d) | inr f ↦ inr (behind v.flushed w.flushed p f) ]) n o a q;
    areas_stay = λ n o c a q. stays views j i v w at at' apart (λ z. Has c z.areas) (λ q. before v.areas w.areas c q) (λ q. behind v.areas w.areas c q) n o a q;
  }

pub joins_keep_areas : JoinsKeepAreas
joins_keep_areas site words views j i v w h at at' apart = seated site words views _ (join_moves views j i v w at at' apart) h
