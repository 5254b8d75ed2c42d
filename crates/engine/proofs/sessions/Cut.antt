-- The replies that the callers were told are a history: those that are not told yet are cut off.
use Rattle.std.proofs.Common.{◌⊎◌, ◌^◌, ◌≡◌, ℕ, zero, suc, ◌+◌, ◌≤◌, ◌&&◌, eqb, Bool, true, false, cond, List, [], ◌∷◌, ◌++◌, length, filter, map, Option, None, Some, inl, inr, refl, sym, ap, ◌∙◌, subst, arith, append-nil, ◌<◌}
use mathlib.Core.Option.{some-injective, some-ne-none}
use Rattle.std.specs.List.{AllByRecursion, AllZip}
use Rattle.std.proofs.lemmas.List.Elements.{filter-append}
use Rattle.image_layout.specs.Places.{Shape}
use Rattle.map_model.specs.ByPlaces.{draws_below, map_at}
use Rattle.map_model.proofs.Elements.{Has as IsIn, All-from_each, Has-append_cases}
use Rattle.session.specs.Session.{HadNoRoom}
use Rattle.map_model.specs.declared.entry.Reply.TheVariants.{Full, Spent}
use Rattle.std.specs.FinMap.{get}
use Rattle.trace.specs.Events.{Words}
use Rattle.map_model.specs.declared.entry.Entry.{Entry}
use Rattle.map_model.specs.Map.{Map}
use Rattle.map_model.specs.Weave.{all_of, draws, weave, drew_at}
use Rattle.map_model.specs.Legal.{InOrder, IsLegal, seen_of, seen_after, replay}
use Rattle.session.specs.Callers.{with_open, history_of}
use Rattle.world.specs.Ground.{Ground, HasSpentLock}
use Rattle.world.specs.Views.{View, Has, At}
use Rattle.world.specs.History.{Log, map_now}
use Rattle.world.specs.Parts.{total, History}
use Rattle.world.specs.World.{fresh_view}
use Rattle.world.specs.Laws.{EntriesAreLegal}
use Rattle.world.specs.areas.Worlds.{IsWell, DeviceLeaves}
use Rattle.world.proofs.basics.Entries.{count_more, seen_of_more}
use Rattle.world.proofs.Legality.{turned}
use Rattle.engine.specs.Core.{Caller, Core, open_of, told_of, histories}
use Rattle.engine.specs.Good.{HasNoFreeSlot}
use Rattle.engine.specs.Holding.{NoneIsFree, KeepsFree, FullIsTaken, HadSpent, all_own, FullHad, HasUntold, HasEntries, DoesCall, CallerFits, world_of}

one_fails : (p : Entry → Bool) (es : List Entry) (x : Entry) → p x ≡ false → filter p (es ++ x ∷ []) ≡ filter p es
one_fails p es x fails = filter-append p es (x ∷ []) ∙ (ap (λ b. filter p es ++ cond b (x ∷ []) []) fails ∙ append-nil (filter p es))

same_below : (all other : List Entry) (n : ℕ) → ((m : ℕ) → m < n → filter (drew_at m) all ≡ filter (drew_at m) other) → draws_below all n ≡ draws_below other n
same_below all other zero same = refl
same_below all other (suc n) same = ap (λ es. es ++ filter (drew_at n) all) (same_below all other n (λ m low. same m (omega (arith, low))))
    ∙ ap (λ es. draws_below other n ++ es) (same n (omega arith))

-- ---- one caller
told_or_open : (told own : List Entry) (begun : Bool) (drew : Option Entry) → (begun ≡ false → drew ≡ None) → HasEntries told drew own
    → HasUntold (with_open told (open_of begun drew)) own
told_or_open told own false drew none has = subst (λ d. HasEntries told d own) (none refl) has
told_or_open told own true None none has = has
told_or_open told own true (Some e) none has = inl has

untold_of : (site : Ground) (c : Caller) (v : View) → CallerFits site c v → HasUntold (history_of (told_of c)) v.own
untold_of site c v fits = by c.engine fits.does
  where
    by : (engine : _) → DoesCall site c engine v → HasUntold (history_of (told_of c)) v.own
    by None d = told_or_open c.entries v.own c.begun c.drew (λ _. d.drew) (subst (λ o. HasEntries c.entries o v.own) (sym d.drew) (inl d.own))
    by (Some e) d = told_or_open c.entries v.own c.begun c.drew d.drew d.entries

-- a view with the told replies alone
abbrev cut_off : Caller → View → View
cut_off c v = record v { own = history_of (told_of c) }

abbrev all_cut : List Caller → List View → List View
all_cut [] views = []
all_cut (c ∷ callers) [] = []
all_cut (c ∷ callers) (v ∷ views) = cut_off c v ∷ all_cut callers views

-- a view, and the same one cut
abbrev IsCut : View → View → Type 0
IsCut v w = HasUntold w.own v.own × (w.seen ≡ v.seen)

cuts : (site : Ground) (callers : List Caller) (views : List View) → AllZip (CallerFits site) callers views → AllZip IsCut views (all_cut callers views)
cuts site [] [] all = tt
cuts site [] (v ∷ views) all = absurd all
cuts site (c ∷ callers) [] all = absurd all
cuts site (c ∷ callers) (v ∷ views) all = ((untold_of site c v all.0, refl), cuts site callers views all.1)

own_of_cut : (site : Ground) (callers : List Caller) (views : List View) → AllZip (CallerFits site) callers views
    → map (λ (v : View). v.own) (all_cut callers views) ≡ map history_of (map told_of callers)
own_of_cut site [] views all = refl
own_of_cut site (c ∷ callers) [] all = absurd all
own_of_cut site (c ∷ callers) (v ∷ views) all = ap (λ (es : List (List Entry)). history_of (told_of c) ∷ es) (own_of_cut site callers views all.1)

-- ---- replies without the last one
has_before : (es : List Entry) (x e : Entry) → Has x es → Has x (es ++ e ∷ [])
has_before [] x e h = absurd h
has_before (y ∷ es) x e h = elim h [ inl q ↦ inl q | inr r ↦ inr (has_before es x e r) ]

order_before : (serial seen : ℕ) (es : List Entry) (e : Entry) → InOrder serial seen (es ++ e ∷ []) → InOrder serial seen es × (seen_of seen es ≤ e.place)
order_before serial seen [] e o = (tt, o.2)
order_before serial seen (x ∷ es) e o = let r = order_before (suc serial) (seen_after x) es e o.3 in ((o.0, o.1, o.2, r.0), r.1)

module _ (v w : View) (cut : IsCut v w) where
  cut_has : (e : Entry) → Has e w.own → Has e v.own
  cut_has e h = elim cut.0 [
    | inl same ↦ subst (λ es. Has e es) (sym same) h
    | inr one ↦ subst (λ es. Has e es) (sym one.1) (has_before w.own e one.0 h)
  ]

  cut_order : InOrder 1 0 v.own → InOrder 1 0 w.own
  cut_order o = elim cut.0 [
    | inl same ↦ subst (λ es. InOrder 1 0 es) same o
    | inr one ↦ (order_before 1 0 w.own one.0 (subst (λ es. InOrder 1 0 es) one.1 o)).0
  ]

  cut_seen : InOrder 1 0 v.own → seen_of 0 v.own ≤ v.seen → seen_of 0 w.own ≤ w.seen
  cut_seen o le = elim cut.0 [
    | inl same ↦ (let q = ap (λ es. seen_of 0 es) same in let s = cut.1 in omega (arith, q, s, le))
    | inr one ↦ (let p = (order_before 1 0 w.own one.0 (subst (λ es. InOrder 1 0 es) one.1 o)).1 in
        let q : seen_of 0 v.own ≡ one.0.place = ap (λ es. seen_of 0 es) one.1 ∙ (seen_of_more 0 w.own one.0 ∙ ap (λ b. cond b (suc one.0.place) one.0.place) one.2) in
        let s = cut.1 in omega (arith, p, q, s, le))
  ]

  cut_count : (p : Entry → Bool) → ((e : Entry) → e.drew ≡ false → p e ≡ false) → length (filter p v.own) ≡ length (filter p w.own)
  cut_count p none = elim cut.0 [
    | inl same ↦ ap (λ es. length (filter p es)) same
    | inr one ↦ (let q = ap (λ es. length (filter p es)) one.1 ∙ (count_more p w.own one.0 ∙ ap (λ b. length (filter p w.own) + cond b 1 0) (none one.0 one.2)) in omega (arith, q))
  ]

-- ---- all callers
cut_at : (views others : List View) (j : ℕ) (w : View) → AllZip IsCut views others → At others j w → (v : View) × At views j v × IsCut v w
cut_at [] [] j w all at = absurd (some-ne-none w (sym at))
cut_at [] (y ∷ others) j w all at = absurd all
cut_at (x ∷ views) [] j w all at = absurd all
cut_at (x ∷ views) (y ∷ others) zero w all at = (x, refl, subst (λ z. IsCut x z) (some-injective y w at) all.0)
cut_at (x ∷ views) (y ∷ others) (suc j) w all at = cut_at views others j w all.1 at

cut_total : (p : Entry → Bool) → ((e : Entry) → e.drew ≡ false → p e ≡ false) → (views others : List View) → AllZip IsCut views others
    → total (λ v. length (filter p v.own)) others ≡ total (λ v. length (filter p v.own)) views
cut_total p none [] [] all = refl
cut_total p none [] (y ∷ others) all = absurd all
cut_total p none (x ∷ views) [] all = absurd all
cut_total p none (x ∷ views) (y ∷ others) all = let a = cut_count x y all.0 p none in let r = cut_total p none views others all.1 in omega (arith, a, r)

module _ (site : Ground) (words : Words) (views others : List View) (log : Log) (all : AllZip IsCut views others) (o : History site words views log) where
  pub cut_history : History site words others log
  cut_history = record {
    counter = o.counter;
    right = λ j w e at has. let c = cut_at views others j w all at in o.right j c.0 e c.1 (cut_has c.0 w c.2 e has);
    in_order = λ j w at. let c = cut_at views others j w all at in cut_order c.0 w c.2 (o.in_order j c.0 c.1);
    after_own = λ j w at. let c = cut_at views others j w all at in cut_seen c.0 w c.2 (o.in_order j c.0 c.1) (o.after_own j c.0 c.1);
    within = λ j w at. (let c = cut_at views others j w all at in let l = o.within j c.0 c.1 in let s = c.2.1 in omega (arith, l, s));
    drawn = cut_total (λ (e : Entry). e.drew) (λ e q. q) views others all ∙ o.drawn;
    each_once = λ n below. cut_total (drew_at n) (λ e q. ap (λ b. b && eqb e.place n) q) views others all ∙ o.each_once n below;
  }

-- ---- refusals
cut_filter : (p : Entry → Bool) → ((e : Entry) → e.drew ≡ false → p e ≡ false) → (v w : View) → IsCut v w → filter p v.own ≡ filter p w.own
cut_filter p none v w cut = elim cut.0 [
  | inl same ↦ ap (filter p) same
  | inr one ↦ ap (filter p) one.1 ∙ one_fails p w.own one.0 (none one.0 one.2)
]

all_filter : (p : Entry → Bool) → ((e : Entry) → e.drew ≡ false → p e ≡ false) → (views others : List View) → AllZip IsCut views others
    → filter p (all_own views) ≡ filter p (all_own others)
all_filter p none [] [] all = refl
all_filter p none [] (y ∷ others) all = absurd all
all_filter p none (x ∷ views) [] all = absurd all
all_filter p none (x ∷ views) (y ∷ others) all =
    filter-append p x.own (all_own views) ∙ (ap (λ es. es ++ filter p (all_own views)) (cut_filter p none x y all.0)
    ∙ (ap (λ es. filter p y.own ++ es) (all_filter p none views others all.1) ∙ sym (filter-append p y.own (all_own others))))

whose : (views : List View) (e : Entry) → IsIn (all_own views) e → (j : ℕ) × (v : View) × At views j v × Has e v.own
whose [] e h = absurd h
whose (v ∷ views) e h = elim (Has-append_cases v.own (all_own views) e h) [
  | inl mine ↦ (0, v, refl, turned v.own e mine)
  | inr r ↦ (let s = whose views e r in (suc s.0, s.1, s.2, s.3))
]

abbrev pub HadAll : Shape → Map → List (List Entry) → Type 0
HadAll shape opening lists = AllByRecursion (λ e. HadNoRoom shape (map_at opening (all_of lists) e.place) e) (all_of lists)

pub told_had : (site : Ground) (core : Core) (views : List View) → AllZip (CallerFits site) core.callers views → FullHad site (fresh_view 0 ∷ views)
    → (opening : Map) → ((k : ℕ) → get opening k ≡ site.start k) → HadAll site.shape opening (histories core)
told_had site core views each had opening same =
    let others = all_cut core.callers views in
    let fits = cuts site core.callers views each in
    subst (λ lists. HadAll site.shape opening lists) (own_of_cut site core.callers views each)
    (All-from_each (λ e. HadNoRoom site.shape (map_at opening (all_own others) e.place) e) (all_own others) (λ e is_in.
    let w = whose others e is_in in
    let c = cut_at views others w.0 w.1 fits w.2 in
    subst (λ m. HadNoRoom site.shape m e)
    (ap (replay opening) (same_below (all_own views) (all_own others) e.place
    (λ m low. all_filter (drew_at m) (λ x q. ap (λ b. b && eqb x.place m) q) views others fits)))
    (had opening same (suc w.0) c.0 e c.1 (cut_has c.0 w.1 c.2 e w.3))))

abbrev pub SpentAll : Shape → Words → List (List Entry) → Type 0
SpentAll shape words lists = AllByRecursion (λ e. e.reply ≡ Spent → (2 ^ 63 ≤ draws (all_of lists)) ⊎ HasSpentLock shape words) (all_of lists)

pub told_spent : (site : Ground) (core : Core) (views : List View) → AllZip (CallerFits site) core.callers views → HadSpent site.shape core.words (fresh_view 0 ∷ views)
    → SpentAll site.shape core.words (histories core)
told_spent site core views each had =
    let others = all_cut core.callers views in
    let fits = cuts site core.callers views each in
    subst (λ lists. SpentAll site.shape core.words lists) (own_of_cut site core.callers views each)
    (All-from_each (λ e. e.reply ≡ Spent → (2 ^ 63 ≤ draws (all_own others)) ⊎ HasSpentLock site.shape core.words) (all_own others) (λ e is_in spent.
    let w = whose others e is_in in
    let c = cut_at views others w.0 w.1 fits w.2 in
    subst (λ n. (2 ^ 63 ≤ n) ⊎ HasSpentLock site.shape core.words)
    (ap length (all_filter (λ (x : Entry). x.drew) (λ x q. q) views others fits))
    (had (suc w.0) c.0 e c.1 (cut_has c.0 w.1 c.2 e w.3) spent)))

abbrev pub FullAll : Shape → Words → Core → List (List Entry) → Type 0
FullAll shape start core lists = AllByRecursion (λ e. e.reply ≡ Full → HasNoFreeSlot shape start core) (all_of lists)

-- whatever the device may leave is what the views say
none_free : DeviceLeaves → (site : Ground) (start : Words) (core : Core) (views : List View) → IsWell site start (world_of core views) → KeepsFree site start
    → NoneIsFree site core.words (fresh_view 0 ∷ views) → HasNoFreeSlot site.shape start core
none_free leaves site start core views well freed none medium possible s slot was = none s slot (freed s slot was) medium (leaves site start (world_of core views) medium well possible)

pub told_full : DeviceLeaves → (site : Ground) (start : Words) (core : Core) (views : List View) → IsWell site start (world_of core views) → AllZip (CallerFits site) core.callers views
    → KeepsFree site start → FullIsTaken site core.words (fresh_view 0 ∷ views) → FullAll site.shape start core (histories core)
told_full leaves site start core views well each freed taken =
    let others = all_cut core.callers views in
    let fits = cuts site core.callers views each in
    subst (FullAll site.shape start core) (own_of_cut site core.callers views each)
    (All-from_each (λ e. e.reply ≡ Full → HasNoFreeSlot site.shape start core) (all_own others) (λ e is_in full.
    let w = whose others e is_in in
    let c = cut_at views others w.0 w.1 fits w.2 in
    none_free leaves site start core views well freed (taken (suc w.0) c.0 e c.1 (cut_has c.0 w.1 c.2 e w.3) full)))

-- an empty list in front says nothing
abbrev pub IsLegalWith : Map → Log → (ℕ → Option ℕ) → List (List Entry) → Type 0
IsLegalWith opening log start lists = IsLegal opening lists × ((k : ℕ) → get (replay opening (weave lists)) k ≡ map_now start log k)

without_front : (opening : Map) (log : Log) (start : ℕ → Option ℕ) (lists : List (List Entry)) → IsLegalWith opening log start ([] ∷ lists) → IsLegalWith opening log start lists
without_front opening log start lists l = (record { callers = l.0.callers.1; places = l.0.places; each_once = l.0.each_once; replies = l.0.replies }, l.1)

-- THE TOLD REPLIES are one legal history, and its map is what the log gives
pub told_legal : EntriesAreLegal → (site : Ground) (words : Words) (core : Core) (views : List View) (log : Log) → AllZip (CallerFits site) core.callers views
    → History site words (fresh_view 0 ∷ views) log → (opening : Map) → ((k : ℕ) → get opening k ≡ site.start k) → IsLegalWith opening log site.start (histories core)
told_legal legal site words core views log each o opening same =
    let fits = cuts site core.callers views each in
    let others = all_cut core.callers views in
    subst (λ lists. IsLegalWith opening log site.start lists) (own_of_cut site core.callers views each)
    (without_front opening log site.start (map (λ (v : View). v.own) others)
    (legal site words (fresh_view 0 ∷ others) log (cut_history site words (fresh_view 0 ∷ views) (fresh_view 0 ∷ others) log ((inl refl, refl), fits) o) opening same))
