-- A history in log form makes the replies of all callers one legal history of a plain map, and its map is that map's.
use Rattle.std.proofs.Common.{◌≡◌, ℕ, zero, suc, ◌+◌, ◌<◌, ◌≤◌, Bool, true, cond, eqb, List, [], ◌∷◌, ◌++◌, length, map, Option, None, Some, inl, inr, refl, sym, ap, ◌∙◌, subst, arith, length-append}
use Rattle.std.proofs.lemmas.Bool.{eqb-true, eq-eqb, le-leb, lt-leb, and_parts}
use Rattle.std.proofs.lemmas.List.Elements.{filter-append}
use Rattle.std.specs.Prelude.{filter}
use Rattle.std.specs.List.{AllByRecursion}
use Rattle.std.specs.Cmp.{nat_cmp_total, unsigned_tied}
use Rattle.std.specs.FinMap.{get, get-insert, get-remove}
use Rattle.trace.specs.Events.{Words}
use Rattle.map_model.specs.declared.call.Call.{Call}
use Rattle.map_model.specs.declared.call.Call.TheVariants.{Get, Insert, Update, Remove}
use Rattle.map_model.specs.declared.entry.Reply.{Reply}
use Rattle.map_model.specs.declared.entry.Reply.TheVariants.{Found, Absent, Done, Exists, Full, Deep, Spent}
use Rattle.map_model.specs.declared.entry.Entry.{Entry}
use Rattle.map_model.specs.Map.{Map, key_of, shown, reply_of, is_done, changed, after}
use Rattle.map_model.specs.Weave.{all_of, draws, drew_at, weave}
use Rattle.map_model.specs.Legal.{IsReplyOf, replay, InOrder, IsPlace, IsLegal, seen_after}
use Rattle.map_model.specs.ByPlaces.{draws_below, map_at, IsRightAtPlace}
use Rattle.map_model.proofs.Elements.{Has as IsIn, All-from_each, Has-append_cases, Has-filter_parts}
use Rattle.map_model.proofs.Rows.{replay-append}
use Rattle.map_model.proofs.Histories.{from_places, replay-weave}
use Rattle.world.specs.Ground.{Ground}
use Rattle.world.specs.Views.{View, Has, At}
use Rattle.world.specs.History.{DrawnChange, Log, map_now, map_when, Drew, result_of, change_of, reply_by, MayReply, IsRight}
use Rattle.world.specs.Parts.{total, History}
use Rattle.world.specs.Laws.{EntriesAreLegal}
use Rattle.world.proofs.basics.Entries.{when_now, place_le}

-- ---- a reply in the map and by what the key has
same_reply : (m : Map) (call : Call) → reply_by (get m (key_of call)) call ≡ reply_of m call
same_reply m (Get k) = refl
same_reply m (Insert k v) = refl
same_reply m (Update k v) = refl
same_reply m (Remove k) = refl

reply_is : (m : Map) (call : Call) (reply : Reply) → MayReply (get m (key_of call)) call reply → IsReplyOf m call reply
reply_is m call (Found v) may = may ∙ same_reply m call
reply_is m call Absent may = may ∙ same_reply m call
reply_is m call Done may = may ∙ same_reply m call
reply_is m call Exists may = may ∙ same_reply m call
reply_is m call Full may = may
reply_is m call Deep may = may
reply_is m call Spent may = may

not_shown : (a : Option ℕ) → Done ≡ shown a → ⊥
not_shown None e = cc
not_shown (Some v) e = cc

change_is_done : (reply : Reply) → is_done reply ≡ true → reply ≡ Done
change_is_done (Found v) e = absurd (cc)
change_is_done Absent e = absurd (cc)
change_is_done Done e = refl
change_is_done Exists e = absurd (cc)
change_is_done Full e = absurd (cc)
change_is_done Deep e = absurd (cc)
change_is_done Spent e = absurd (cc)

-- a change that is done leaves its key with its result, and the others as they were
changed_is : (m : Map) (call : Call) (k : ℕ) → Done ≡ reply_by (get m (key_of call)) call → get (changed m call) k ≡ cond (eqb k (key_of call)) (result_of call) (get m k)
changed_is m (Get q) k done = absurd (not_shown (get m q) done)
changed_is m (Insert q v) k done = get-insert nat_cmp_total m q v k ∙ ap (λ b. cond b (Some v) (get m k)) (unsigned_tied k q)
changed_is m (Update q v) k done = get-insert nat_cmp_total m q v k ∙ ap (λ b. cond b (Some v) (get m k)) (unsigned_tied k q)
changed_is m (Remove q) k done = get-remove nat_cmp_total m q k ∙ ap (λ b. cond b None (get m k)) (unsigned_tied k q)

changed_has : (m : Map) (call : Call) → Done ≡ reply_by (get m (key_of call)) call → get (changed m call) (key_of call) ≡ result_of call
changed_has m call done = changed_is m call (key_of call) done ∙ ap (λ b. cond b (result_of call) (get m (key_of call))) (eq-eqb (key_of call) (key_of call) refl)

pub after_has : (m : Map) (call : Call) → Done ≡ reply_by (get m (key_of call)) call → get (after m call (reply_of m call)) (key_of call) ≡ result_of call
after_has m call done = ap (λ r. get (after m call r) (key_of call)) (sym (same_reply m call) ∙ sym done) ∙ changed_has m call done

-- ---- the map after one change more
when_zero : (start : ℕ → Option ℕ) (log : Log) (k : ℕ) → map_when start log 0 k ≡ start k
when_zero start [] k = refl
when_zero start (c ∷ log) k = ap (λ b. cond b (map_when start log 0 k) (map_now start (c ∷ log) k)) (le-leb 0 (length log) (omega arith)) ∙ when_zero start log k

drew_below : (log : Log) (n : ℕ) (c : DrawnChange) → Drew log n c → n < length log
drew_below [] n c d = absurd d
drew_below (e ∷ log) n c d = elim d [ inl q ↦ (let p = q.0 in omega (arith, p)) | inr r ↦ (let p = drew_below log n c r in omega (arith, p)) ]

when_next : (start : ℕ → Option ℕ) (log : Log) (n k : ℕ) (c : DrawnChange) → Drew log n c → map_when start log (suc n) k ≡ cond (eqb k c.0) c.1 (map_when start log n k)
when_next start [] n k c d = absurd d
when_next start (e ∷ log) n k c d = elim d [
  | inl q ↦ (let p = q.0 in
      ap (λ b. cond b (map_when start log (suc n) k) (map_now start (e ∷ log) k)) (lt-leb (suc n) (length log) (omega (arith, p)))
      ∙ (ap (λ (x : DrawnChange). cond (eqb k x.0) x.1 (map_now start log k)) (sym q.1)
      ∙ ap (λ a. cond (eqb k c.0) c.1 a) (sym (ap (λ b. cond b (map_when start log n k) (map_now start (e ∷ log) k)) (le-leb n (length log) (omega (arith, p))) ∙ when_now start log n k p))))
  | inr r ↦ (let p = drew_below log n c r in
      ap (λ b. cond b (map_when start log (suc n) k) (map_now start (e ∷ log) k)) (le-leb (suc n) (length log) (omega (arith, p)))
      ∙ (when_next start log n k c r
      ∙ ap (λ a. cond (eqb k c.0) c.1 a) (sym (ap (λ b. cond b (map_when start log n k) (map_now start (e ∷ log) k)) (le-leb n (length log) (omega (arith, p)))))))
]

-- ---- the lists of all views
abbrev own_of : View → List Entry
own_of v = v.own

count_all : (p : Entry → Bool) (views : List View) → length (filter p (all_of (map own_of views))) ≡ total (λ v. length (filter p v.own)) views
count_all p [] = refl
count_all p (v ∷ views) = ap length (filter-append p v.own (all_of (map own_of views))) ∙ (length-append (filter p v.own) (filter p (all_of (map own_of views)))
    ∙ ap (λ n. length (filter p v.own) + n) (count_all p views))

pub turned : (es : List Entry) (e : Entry) → IsIn es e → Has e es
turned [] e h = absurd h
turned (x ∷ es) e h = elim h [ inl q ↦ inl (sym q) | inr r ↦ inr (turned es e r) ]

whose : (views : List View) (e : Entry) → IsIn (all_of (map own_of views)) e → (j : ℕ) × (v : View) × At views j v × Has e v.own
whose [] e h = absurd h
whose (v ∷ views) e h = elim (Has-append_cases v.own (all_of (map own_of views)) e h) [
  | inl mine ↦ (0, v, refl, turned v.own e mine)
  | inr r ↦ (let s = whose views e r in (suc s.0, s.1, s.2, s.3))
]

all_in_order : (views : List View) → ((j : ℕ) (v : View) → At views j v → InOrder 1 0 v.own) → AllByRecursion (InOrder 1 0) (map own_of views)
all_in_order [] h = tt
all_in_order (v ∷ views) h = (h 0 v refl, all_in_order views (λ j u a. h (suc j) u a))

order_drew : (serial seen : ℕ) (es : List Entry) (e : Entry) → InOrder serial seen es → Has e es → e.drew ≡ is_done e.reply
order_drew serial seen [] e o h = absurd h
order_drew serial seen (x ∷ es) e o h = elim h [ inl q ↦ subst (λ (z : Entry). z.drew ≡ is_done z.reply) (sym q) o.1 | inr r ↦ order_drew (suc serial) (seen_after x) es e o.3 r ]

only_one : (es : List Entry) → length es ≡ 1 → (e : Entry) × (es ≡ e ∷ [])
only_one [] one = absurd (omega (arith, one))
only_one (x ∷ []) one = (x, refl)
only_one (x ∷ y ∷ es) one = absurd (omega (arith, one))

module _ (site : Ground) (words : Words) (views : List View) (log : Log) (o : History site words views log) (start : Map) (same : (k : ℕ) → get start k ≡ site.start k) where
  abbrev all : List Entry
  all = all_of (map own_of views)

  count : draws all ≡ length log
  count = count_all (λ (e : Entry). e.drew) views ∙ o.drawn

  right : (e : Entry) → IsIn all e → IsRight site.shape site.start log e
  right e h = let w = whose views e h in o.right w.0 w.1 e w.2 w.3

  drew_for_change : (e : Entry) → IsIn all e → e.drew ≡ is_done e.reply
  drew_for_change e h = let w = whose views e h in order_drew 1 0 w.1.own e (o.in_order w.0 w.1 w.2) w.3

  -- what the replay of the draws has is what the history had
  next : (n k : ℕ) → ((q : ℕ) → get (map_at start all n) q ≡ map_when site.start log n q) → n < length log → get (map_at start all (suc n)) k ≡ map_when site.start log (suc n) k
  next n k so_far below =
      let one = only_one (filter (drew_at n) all) (count_all (drew_at n) views ∙ o.each_once n below) in
      let e = one.0 in
      let parts = Has-filter_parts (drew_at n) all e (subst (λ (es : List Entry). IsIn es e) (sym one.1) (inl refl)) in
      let tests = and_parts e.drew (eqb e.place n) parts.0 in
      let place : e.place ≡ n = eqb-true e.place n tests.1 in
      let change : is_done e.reply ≡ true = sym (drew_for_change e parts.1) ∙ tests.0 in
      let r = right e parts.1 in
      let m = map_at start all n in
      let done : Done ≡ reply_by (get m (key_of e.call)) e.call =
      subst (λ (a : Option ℕ). Done ≡ reply_by a e.call) (ap (λ p. map_when site.start log p (key_of e.call)) place ∙ sym (so_far (key_of e.call)))
      (subst (λ (x : Reply). MayReply (map_when site.start log e.place (key_of e.call)) e.call x) (change_is_done e.reply change) r.reply) in
      ap (λ z. get z k) (ap (λ es. replay start (draws_below all n ++ es)) one.1 ∙ replay-append start (draws_below all n) (e ∷ []))
      ∙ (ap (λ b. get (cond b (changed m e.call) m) k) change
      ∙ (changed_is m e.call k done
      ∙ (ap (λ a. cond (eqb k (key_of e.call)) (result_of e.call) a) (so_far k)
      ∙ sym (when_next site.start log n k (change_of e.call) (subst (λ p. Drew log p (change_of e.call)) place (r.drew tests.0))))))

  pub map_is : (n : ℕ) → n ≤ length log → (k : ℕ) → get (map_at start all n) k ≡ map_when site.start log n k
  map_is zero le k = same k ∙ sym (when_zero site.start log k)
  map_is (suc n) le k = next n k (λ q. map_is n (omega (arith, le)) q) (omega (arith, le))

  legal : IsLegal start (map own_of views)
  legal = from_places start (map own_of views) (record {
    callers = all_in_order views o.in_order;
    places = All-from_each (IsPlace (draws all)) all (λ e h. let w = (right e h).within in let c = count in omega (arith, w, c));
    each_once = λ n below. count_all (drew_at n) views ∙ o.each_once n (let c = count in omega (arith, below, c));
    replies = All-from_each (IsRightAtPlace start all) all (λ e h. let r = right e h in
        reply_is (map_at start all e.place) e.call e.reply
        (subst (λ (a : Option ℕ). MayReply a e.call e.reply) (sym (map_is e.place (place_le e.drew e.place (length log) r.within) (key_of e.call))) r.reply));
  })

  replays : (k : ℕ) → get (replay start (weave (map own_of views))) k ≡ map_now site.start log k
  replays k = ap (λ m. get m k) (replay-weave start (map own_of views) legal ∙ ap (map_at start all) count)
      ∙ (map_is (length log) (omega arith) k ∙ when_now site.start log (length log) k refl)

pub entries_legal : EntriesAreLegal
entries_legal site words views log o start same = (legal site words views log o start same, replays site words views log o start same)
