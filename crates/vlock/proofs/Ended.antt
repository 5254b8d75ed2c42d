-- What is known when one seat stands for all callers, also where these stood anywhere.
use Rattle.std.proofs.Common.{◌≡◌, ◌≢◌, inl, inr, ℕ, zero, suc, ◌+◌, ◌%◌, ◌<◌, ◌≤◌, List, [], ◌∷◌, ◌++◌, length, get_or, Option, refl, sym, ap, ◌∙◌, subst, arith}
use Rattle.std.specs.Prelude.{filter}
use Rattle.std.proofs.lemmas.Bool.{cases_eq}
use mathlib.Core.Logic.{dite}
use mathlib.Core.Option.{some, some-injective, some-ne-none}
use native.Mathlib.Decide.{ℕ_discrete}
use lib.ListN.{get_elem?}
use Rattle.atomic_table.specs.Table.{State}
use Rattle.map_model.specs.declared.call.Call.{Call}
use Rattle.map_model.specs.Weave.{draws, drew_at}
use Rattle.trace.specs.Events.{Words}
use Rattle.world.specs.Hits.{find}
use Rattle.segment_head.specs.HeadWord.{normal}
use Rattle.image_layout.specs.Places.{bucket_at, buckets}
use Rattle.sound_image.specs.Segments.{frame_of, state_at}
use Rattle.bucket_words.specs.Core.{core_of}
use Rattle.world.specs.Ground.{Ground, IsCurrentIn}
use Rattle.world.specs.Views.{Move, Owed, View, Has, At}
use Rattle.world.specs.History.{map_now}
use Rattle.world.specs.Media.{IsPossible, Stands}
use Rattle.world.specs.Parts.{total, History}
use Rattle.world.proofs.basics.Lists.{has_joined}
use Rattle.world.specs.areas.Areas.{Area, Whole}
use Rattle.world.specs.areas.Asking.{IsInOrder}
use Rattle.world.specs.areas.Worlds.{IsWell}
use Rattle.world.specs.Invariant.{IsWatched}
use Rattle.world.proofs.Legality.{entries_legal}
use Rattle.world.proofs.stepping.Rests.{rests_are_quiet, current_segments_rest}
use Rattle.vlock.specs.declared.knows.Watch.{Watch}
use Rattle.world.specs.Attempts.{OwesNothing}
use Rattle.vlock.specs.Ruling.{word, all_views, IsIdle, Kept}
use Rattle.vlock.specs.Ends.{RefusalsHadCauses, IsEnd, IsPowerCut}
use Rattle.vlock.proofs.Lists.{behind}

-- ---- sums over all views
total_joined : (f : View → ℕ) (xs ys : List View) → total f (xs ++ ys) ≡ total f xs + total f ys
total_joined f [] ys = omega arith
total_joined f (x ∷ xs) ys = let r = total_joined f xs ys in omega (arith, r)

one_of : (f : View → ℕ) (ps : List Watch) (i : ℕ) (p : Watch) → get_elem? ps i ≡ some p → f p.view ≤ total f (all_views ps)
one_of f [] i p e = absurd (some-ne-none p (sym e))
one_of f (t ∷ ps) zero p e = let s = ap (λ (z : Watch). f z.view) (some-injective t p e) in omega (arith, s)
one_of f (t ∷ ps) (suc i) p e = let r = one_of f ps i p e in let a = total_joined f t.past (all_views ps) in omega (arith, r, a)

two_of : (f : View → ℕ) (ps : List Watch) (i j : ℕ) (p q : Watch) → i ≢ j → get_elem? ps i ≡ some p → get_elem? ps j ≡ some q → f p.view + f q.view ≤ total f (all_views ps)
two_of f [] i j p q ne a b = absurd (some-ne-none p (sym a))
two_of f (t ∷ ps) zero zero p q ne a b = absurd (ne refl)
two_of f (t ∷ ps) zero (suc j) p q ne a b =
    let s = ap (λ (z : Watch). f z.view) (some-injective t p a) in let r = one_of f ps j q b in let d = total_joined f t.past (all_views ps) in omega (arith, s, r, d)
two_of f (t ∷ ps) (suc i) zero p q ne a b =
    let s = ap (λ (z : Watch). f z.view) (some-injective t q b) in let r = one_of f ps i p a in let d = total_joined f t.past (all_views ps) in omega (arith, s, r, d)
two_of f (t ∷ ps) (suc i) (suc j) p q ne a b = let r = two_of f ps i j p q (λ e. ne (ap suc e)) a b in let d = total_joined f t.past (all_views ps) in omega (arith, r, d)

-- where nobody has anything the sum is nothing, and where one alone has it the sum is that one's
none_of : (f : View → ℕ) (ps : List Watch) → ((i : ℕ) (p : Watch) → get_elem? ps i ≡ some p → (f p.view ≡ 0) × (p.past ≡ [])) → total f (all_views ps) ≡ 0
none_of f [] idle = refl
none_of f (t ∷ ps) idle =
    let h = idle 0 t refl in
    let r = none_of f ps (λ i p e. idle (suc i) p e) in
    let d = total_joined f t.past (all_views ps) in
    let z : total f t.past ≡ 0 = ap (total f) h.1 in
    let y = h.0 in omega (arith, r, d, z, y)

only : (f : View → ℕ) (ps : List Watch) (id : ℕ) (k : Watch) → get_elem? ps id ≡ some k → ((i : ℕ) (p : Watch) → i ≢ id → get_elem? ps i ≡ some p → (f p.view ≡ 0) × (p.past ≡ []))
    → total f (all_views ps) ≡ total f (k.view ∷ k.past)
only f [] id k e idle = absurd (some-ne-none k (sym e))
only f (t ∷ ps) zero k e idle =
    let r = none_of f ps (λ i p a. idle (suc i) p (λ q. absurd (let x = q in omega (arith, x))) a) in
    let d = total_joined f t.past (all_views ps) in
    let s : f t.view + total f t.past ≡ f k.view + total f k.past = ap (λ (z : Watch). f z.view + total f z.past) (some-injective t k e) in omega (arith, r, d, s)
only f (t ∷ ps) (suc id) k e idle =
    let h = idle 0 t (λ q. absurd (let x = q in omega (arith, x))) refl in
    let r = only f ps id k e (λ i p ne a. idle (suc i) p (λ q. ne (let x = q in omega (arith, x))) a) in
    let d = total_joined f t.past (all_views ps) in
    let z : total f t.past ≡ 0 = ap (total f) h.1 in
    let y = h.0 in omega (arith, r, d, z, y)

-- ---- the views of one seat among all
at_front : (xs ys : List View) (i : ℕ) (u : View) → At xs i u → At (xs ++ ys) i u
at_front [] ys i u e = absurd (some-ne-none u (sym e))
at_front (x ∷ xs) ys zero u e = e
at_front (x ∷ xs) ys (suc i) u e = at_front xs ys i u e

at_back : (xs ys : List View) (i : ℕ) (u : View) → At ys i u → At (xs ++ ys) (behind xs i) u
at_back [] ys i u e = e
at_back (x ∷ xs) ys i u e = at_back xs ys i u e

among : (ps : List Watch) (id : ℕ) (k : Watch) → get_elem? ps id ≡ some k → (j : ℕ) (u : View) → At (k.view ∷ k.past) j u → (n : ℕ) × At (all_views ps) n u
among [] id k e j u a = absurd (some-ne-none k (sym e))
among (t ∷ ps) zero k e j u a = (j, subst (λ (z : Watch). At ((z.view ∷ z.past) ++ all_views ps) j u) (sym (some-injective t k e)) (at_front (k.view ∷ k.past) (all_views ps) j u a))
among (t ∷ ps) (suc id) k e j u a = let r = among ps id k e j u a in (suc (behind t.past r.0), at_back t.past (all_views ps) r.0 u r.1)

-- what holds of each seat's own view, and of those that it took in, holds of all
has_at : (xs : List View) (i : ℕ) (u : View) → At xs i u → Has u xs
has_at [] i u e = absurd (some-ne-none u (sym e))
has_at (x ∷ xs) zero u e = inl (sym (some-injective x u e))
has_at (x ∷ xs) (suc i) u e = inr (has_at xs i u e)

each_has : (Q : View → Type 0) (ps : List Watch) → ((i : ℕ) (p : Watch) → get_elem? ps i ≡ some p → Q p.view) → ((i : ℕ) (p : Watch) (u : View) → get_elem? ps i ≡ some p → Has u p.past → Q u)
    → (u : View) → Has u (all_views ps) → Q u
each_has Q [] own past u h = absurd h
each_has Q (t ∷ ps) own past u h = elim h [
  | inl e ↦ subst Q (sym e) (own 0 t refl)
  | inr r ↦ elim (has_joined t.past (all_views ps) u r) [
    | inl b ↦ past 0 t u refl b
    | inr b ↦ each_has Q ps (λ i p e. own (suc i) p e) (λ i p x e q. past (suc i) p x e q) u b
  ]
]

-- ---- one seat stands for all callers
module _ (site : Ground) (s : State ℕ Watch) (id : ℕ) (k : Watch) (h : Kept site s) (at : get_elem? s.views id ≡ some k) (all : k.view.callers ≡ site.callers) where
  others : (i : ℕ) (p : Watch) → i ≢ id → get_elem? s.views i ≡ some p → IsIdle p
  others i p ne a = h.idle i p a (let t = two_of (λ v. v.callers) s.views i id p k ne a at in let r = h.holds.room.callers in omega (arith, t, r, all))

  sums : (f : View → ℕ) → ((v : View) → v.own ≡ [] → f v ≡ 0) → total f (all_views s.views) ≡ total f (k.view ∷ k.past)
  sums f of_own = only f s.views id k at (λ i p ne a. let o = others i p ne a in (of_own p.view o.own, o.past))

  -- the history of all is that of its views
  history : History site (word s.words) (k.view ∷ k.past) h.holds.log
  history = record {
    counter = h.holds.history.counter;
    right = λ j v e a q. (let n = among s.views id k at j v a in h.holds.history.right n.0 v e n.1 q);
    in_order = λ j v a. (let n = among s.views id k at j v a in h.holds.history.in_order n.0 v n.1);
    after_own = λ j v a. (let n = among s.views id k at j v a in h.holds.history.after_own n.0 v n.1);
    within = λ j v a. (let n = among s.views id k at j v a in h.holds.history.within n.0 v n.1);
    drawn = sym (sums (λ v. draws v.own) (λ v e. ap draws e)) ∙ h.holds.history.drawn;
    each_once = λ n below. sym (sums (λ v. length (filter (drew_at n) v.own)) (λ v e. ap (λ es. length (filter (drew_at n) es)) e)) ∙ h.holds.history.each_once n below;
  }

  causes : RefusalsHadCauses site (word s.words) (k.view ∷ k.past) h.holds.log
  causes = record {
    spent = λ j v e a has is. (let n = among s.views id k at j v a in h.holds.spending.told n.0 v e n.1 has is);
    full = λ j v e a has is. h.full id k v e at (has_at (k.view ∷ k.past) j v a) has is;
  }

  -- ---- wherever the callers stood
  -- what is possible by its views is so by all
  possible : (medium : Words) → IsPossible site (word s.words) (k.view ∷ k.past) medium → IsPossible site (word s.words) (all_views s.views) medium
  possible medium may i within = elim (may i within) [
    | inl same ↦ inl same
    | inr l ↦ (let n = among s.views id k at l.0 l.1 l.3 in inr (n.0, l.1, l.2, n.1, l.4, l.5))
  ]

  -- it alone has changes planned
  its_plan : (u : View) → Has u (all_views s.views) → (call : Call) → Has call u.planned → Has call k.view.planned
  its_plan u has = each_has (λ (v : View). (call : Call) → Has call v.planned → Has call k.view.planned) s.views
      (λ i p a call q. dite (ℕ_discrete i id)
      (λ (e : i ≡ id). subst (λ (z : Watch). Has call z.view.planned) (some-injective p k (sym a ∙ (ap (λ (n : ℕ). get_elem? s.views n) e ∙ at))) q)
      (λ (ne : i ≢ id). absurd (subst (λ (calls : List Call). Has call calls) (others i p ne a).nothing.planned q)))
      (λ i p v a in_past call q. absurd (subst (λ (calls : List Call). Has call calls) (h.past i p v a in_past).planned q)) u has

  stands : (key : ℕ) (a : Option ℕ) → Stands site (all_views s.views) h.holds.log key a → Stands site (k.view ∷ k.past) h.holds.log key a
  stands key a st = elim st [
    | inl same ↦ inl same
    | inr p ↦ inr (0, k.view, p.2, refl, its_plan p.1 (has_at (all_views s.views) p.0 p.1 p.3) p.2 p.4, p.5, p.6)
  ]

  pub power_cut : IsPowerCut site (word s.words) (k.view ∷ k.past)
  power_cut = record {
    log = h.holds.log;
    history = history;
    media = λ medium may. record {
      structure = h.holds.structure.sound medium (possible medium may);
      table = h.holds.media.table medium (possible medium may);
      stands = λ key. stands key (find site.shape medium key) (h.holds.media.stands medium (possible medium may) key);
    };
    newest = λ i within. inl refl;
    legal = λ start same. (entries_legal site (word s.words) (k.view ∷ k.past) h.holds.log history start same).0;
    replay_is = λ start same. (entries_legal site (word s.words) (k.view ∷ k.past) h.holds.log history start same).1;
    planned = λ j v call a has. (let n = among s.views id k at j v a in h.holds.plans.fits n.0 v call n.1 has);
    taken_in = λ j v a. h.past id k v at (has_at k.past j v a);
    causes = causes;
  }

  module _ (nothing : OwesNothing k.view) where
    -- each view owes nothing
    nobody : (u : View) → Has u (all_views s.views) → OwesNothing u
    nobody u has = each_has OwesNothing s.views
        (λ i p a. dite (ℕ_discrete i id)
        (λ (e : i ≡ id). subst (λ (z : Watch). OwesNothing z.view) (some-injective k p (sym at ∙ (sym (ap (λ (n : ℕ). get_elem? s.views n) e) ∙ a))) nothing)
        (λ (ne : i ≢ id). (others i p ne a).nothing))
        (λ i p x a in_past. h.past i p x a in_past) u has

    nobody_at : (j : ℕ) (u : View) → At (all_views s.views) j u → OwesNothing u
    nobody_at j u a = nobody u (has_at (all_views s.views) j u a)

    no_areas : (j : ℕ) (u : View) → At (all_views s.views) j u → u.areas ≡ []
    no_areas j u a = (nobody_at j u a).areas

    -- nobody has a change planned
    nobody_plans : (u : View) (call : Call) → Has u (all_views s.views) → Has call u.planned → ⊥
    nobody_plans u call has q = subst (λ (calls : List Call). Has call calls) (nobody u has).planned q

    -- what a cut would leave is what there is, since nothing is loose
    well : IsWell site (word s.words) (record { words = word s.words; trace = []; views = all_views s.views })
    well = record {
      words_are = refl;
      holds = h.holds;
      tied = record {
        covered = λ i y within had. inl (ap (λ (x : ℕ). core_of site.shape i x) had);
        fresh = λ c v i x a has. absurd (subst (λ (ps : List (ℕ × ℕ)). Has (i, x) ps) (nobody_at c v a).flushed has);
      };
    }

    -- nobody has a segment whole, so that each current one is watched
    watched : (n : ℕ) → IsCurrentIn site (word s.words) n → IsWatched site (word s.words) (all_views s.views) n
    watched n current = (current, λ j v a whole. subst (λ (areas : List Area). Has (Whole n) areas) (no_areas j v a) whole)

    -- nobody has a record under way, and nobody owes a note
    in_order : (n : ℕ) → IsCurrentIn site (word s.words) n → IsInOrder site (word s.words) n
    in_order n current = record {
      own = λ b r x hit. h.holds.records.own n b r x (watched n current) hit;
      once = λ b r c t x one other. elim (h.holds.records.once n b r c t x (watched n current) one other) [
        | inl same ↦ same
        | inr p ↦ absurd (subst (λ (moves : List Move). Has p.2 moves) (nobody_at p.0 p.1 p.3).moving p.4)
      ];
      exact = λ b near. h.holds.notes_of_homes.exact n b (watched n current) near (λ j v o a has segment home. subst (λ (owed : List Owed). Has o owed) (nobody_at j v a).owed has);
    }

    -- and nobody holds a lock
    free : (n : ℕ) → IsCurrentIn site (word s.words) n → (b : ℕ) → b < buckets → word s.words (bucket_at site.shape n b) % 2 ≡ 0
    free n current b near = elim (cases_eq (word s.words (bucket_at site.shape n b) % 2) 1) [
      | inl odd ↦ (let o = h.holds.locks.odd (bucket_at site.shape n b) (n, b, current.live.slot, near, refl, current) odd in
          absurd (subst (λ (held : List (ℕ × ℕ)). Has (bucket_at site.shape n b, o.3.0) held) (nobody_at o.0 o.1 o.2).held o.3.1))
      | inr other ↦ omega (arith, other)
    ]

    normal_now : (n : ℕ) → IsCurrentIn site (word s.words) n → state_at (frame_of site.shape (word s.words)) n ≡ normal
    normal_now n current = elim current.live.live [
      | inl is ↦ is
      | inr splits ↦ absurd (current_segments_rest.nobody site (word s.words) (all_views s.views) h.holds no_areas n current splits)
    ]

    pub ended : IsEnd site (word s.words) (k.view ∷ k.past)
    ended =
        let pairs : (key : ℕ) → find site.shape (word s.words) key ≡ map_now site.start h.holds.log key = λ key. elim (h.holds.media.stands (word s.words) (λ i _. inl refl) key) [
          | inl e ↦ e
          | inr p ↦ absurd (nobody_plans p.1 p.2 (has_at (all_views s.views) p.0 p.1 p.3) p.4)
        ] in
        record {
          log = h.holds.log;
          history = history;
          structure = h.holds.structure.sound (word s.words) (λ i _. inl refl);
          table = h.holds.media.table (word s.words) (λ i _. inl refl);
          pairs = pairs;
          legal = λ start same. (entries_legal site (word s.words) (k.view ∷ k.past) h.holds.log history start same).0;
          nobody = record { views = all_views s.views; well = well; nothing = nobody_at };
          guards = λ guard is. rests_are_quiet.guards site (word s.words) (all_views s.views) h.holds no_areas guard is;
          causes = causes;
          repaired = λ n current. record { normal = normal_now n current; in_order = in_order n current; free = free n current };
          replay_is = λ start same key. (entries_legal site (word s.words) (k.view ∷ k.past) h.holds.log history start same).1 key ∙ sym (pairs key);
        }

-- ---- a list that is copied number by number
pub got : (xs : List ℕ) (i x : ℕ) → get_elem? xs i ≡ some x → get_or xs i 0 ≡ x
got [] i x e = absurd (some-ne-none x (sym e))
got (y ∷ ys) zero x e = some-injective y x e
got (y ∷ ys) (suc i) x e = got ys i x e
