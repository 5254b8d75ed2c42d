-- A call that is tried again and again, by what each try tells.
use Rattle.std.proofs.Common.{◌≡◌, ◌≢◌, ℕ, suc, ◌+◌, Bool, true, false, Option, None, Some, List, [], ◌∷◌, ◌++◌, length, inl, inr, refl, sym, ap, ◌∙◌, subst, arith, append_assoc, length-append}
use Rattle.std.specs.Bool.{⊤}
use Rattle.std.proofs.lemmas.List.{append_cancel_right}
use Rattle.op_core.specs.declared.want.Want.{Want}
use Rattle.op_core.specs.declared.want.Want.TheVariants.{Done}
use Rattle.map_model.specs.declared.call.Call.{Call}
use Rattle.map_model.specs.declared.entry.Entry.{Entry}
use Rattle.map_model.specs.declared.entry.Reply.{Reply}
use Rattle.map_model.specs.Map.{is_done}
use Rattle.map_model.specs.Legal.{seen_after}
use Rattle.world.specs.declared.site.Site.{Site}
use Rattle.world.specs.Ground.{Ground}
use Rattle.world.specs.Views.{View}
use Rattle.world.specs.Attempts.{HasNoMore, HasOneMore}
use Rattle.shared_call.specs.Engines.{Engine, begun, wanted, HasNumber, Work, calls, work_of}
use Rattle.vlock.specs.declared.knows.Watch.{Watch}
use Rattle.shared_call.specs.declared.tries.Answer.{Answer}
use Rattle.shared_call.specs.declared.tries.Answer.TheVariants as answers
use Rattle.shared_call.specs.Attempts.{after_events}
use Rattle.shared_call.specs.Gated.{IsLowered, HasNoneLeft}
use Rattle.shared_call.specs.Tries.{IsTrying, Tells, HasTried}
use Rattle.shared_call.specs.declared.headway.Headway.{Headway}
use Rattle.shared_call.specs.Headway.{no_headway, headway_after, HasHeadway, PlansCall, HasDrawn}
use Rattle.shared_call.proofs.Headways.{unbegun, after_both, after_same, none_drawn, drawn_since, headway_on}
use Rattle.shared_call.proofs.Gating.{not_lowered}
use Rattle.shared_call.proofs.FoundOff.{found_off, found_by, since_before}
use Rattle.shared_image.specs.Calling.{says_off, HasCalled, HasGoneOnTrying}
use Rattle.shared_image.specs.Waiting.{HasTaken, GaveUpFor, HasFoundOff, IsTryingSince, StandsAt}

-- ---- the passes of a gate
lowered_on : (l k m : Option (Option ℕ)) (a b : ℕ) → IsLowered l a k → IsLowered k b m → IsLowered l (b + a) m
lowered_on None k m a b first then = tt
lowered_on (Some None) k m a b first then = subst (λ (x : Option (Option ℕ)). IsLowered x b m) first then
lowered_on (Some (Some l)) k m a b first then =
    let next = subst (λ (x : Option (Option ℕ)). IsLowered x b m) first.1 then in
    let low = first.2 in
    let more = next.2 in (next.0, next.1, omega (arith, low, more))

none_left_on : (l k m : Option (Option ℕ)) (a : ℕ) → IsLowered l a k → HasNoneLeft k m → HasNoneLeft l m
none_left_on None k m a low none = tt
none_left_on (Some None) k m a low none = subst (λ (x : Option (Option ℕ)). HasNoneLeft x m) low none
none_left_on (Some (Some l)) k m a low none = subst (λ (x : Option (Option ℕ)). HasNoneLeft x m) low.1 none

pub nothing_taken : (p : Watch) (left : Option (Option ℕ)) → HasTaken p left p left
nothing_taken p left = record { events = []; took = refl; past = refl; callers = refl; lowered = not_lowered left }

taken_on : (p q r : Watch) (left now after : Option (Option ℕ)) (events : List (Want × ℕ)) → HasTaken p left q now → r.took ≡ events ++ q.took → r.past ≡ q.past → r.view.callers ≡ q.view.callers → IsLowered now (length events) after
    → HasTaken p left r after
taken_on p q r left now after events k took past callers low = record {
  events = events ++ k.events;
  took = took ∙ (ap (λ (es : List (Want × ℕ)). events ++ es) k.took ∙ sym (append_assoc events k.events p.took));
  past = past ∙ k.past;
  callers = callers ∙ k.callers;
  lowered = subst (λ (n : ℕ). IsLowered left n after) (sym (length-append events k.events)) (lowered_on left now after (length k.events) (length events) k.lowered low);
}

pub taken_then : (p q r : Watch) (left now after : Option (Option ℕ)) → HasTaken p left q now → HasTaken q now r after → HasTaken p left r after
taken_then p q r left now after k then = taken_on p q r left now after then.events k then.took then.past then.callers then.lowered

-- ---- the entry of a call
no_more_on : (u v w : View) → HasNoMore u v → HasNoMore v w → HasNoMore u w
no_more_on u v w a b = record { own = b.own ∙ a.own; seen = b.seen ∙ a.seen }

one_more_on : (call : Call) (reply : Reply) (place : ℕ) (u v w : View) → HasNoMore u v → HasOneMore call reply place v w → HasOneMore call reply place u w
one_more_on call reply place u v w a b =
    let entry : List Entry → Entry = λ es. record { serial = suc (length es); call = call; reply = reply; place = place; drew = is_done reply } in
    record { own = b.own ∙ ap (λ (es : List Entry). es ++ entry es ∷ []) a.own; seen = b.seen ∙ ap (λ (es : List Entry). seen_after (entry es)) a.own }

-- ---- how far a call has come
-- the place that was drawn since a seat knew this
abbrev pub DrewSince : Watch → Watch → Headway → Type 0
DrewSince first q n = (events : List (Want × ℕ)) → q.took ≡ events ++ first.took → n.drew ≡ (headway_after events no_headway).drew

drew_of : (p q : Watch) (n : Headway) → HasHeadway p no_headway q n → DrewSince p q n
drew_of p q n headway events took = ap (λ (x : Headway). x.drew) (headway events took)

drew_on : (first q r : Watch) (n now : Headway) (old more : List (Want × ℕ)) → q.took ≡ old ++ first.took → r.took ≡ more ++ q.took → DrewSince first q n → HasHeadway q n r now → DrewSince first r now
drew_on first q r n now old more took then drew headway events all =
    let same : events ≡ more ++ old = append_cancel_right events (more ++ old) first.took
    (sym all ∙ (then ∙ (ap (λ (es : List (Want × ℕ)). more ++ es) took ∙ sym (append_assoc more old first.took)))) in
    ap (λ (x : Headway). x.drew) (headway more then)
    ∙ (after_same more n (headway_after old no_headway) (drew old took)
    ∙ (ap (λ (x : Headway). x.drew) (sym (after_both more old no_headway)) ∙ ap (λ (es : List (Want × ℕ)). (headway_after es no_headway).drew) (sym same)))

-- a seat took no event where a call has not begun by then
none_since : (p q : Watch) (before now : Headway) (events : List (Want × ℕ)) → q.took ≡ events ++ p.took → HasHeadway p before q now → now.begun ≡ false → events ≡ []
none_since p q before now events took headway idle = unbegun events before (ap (λ (x : Headway). x.begun) (sym (headway events took)) ∙ idle)

-- where a call stands that was told this, by the place that it drew
abbrev pub DrewAt : Ground → Site → Call → Watch → Answer → Engine → Watch → Headway → Type 0
DrewAt site here call p (answers.Replied reply place) e q n = ⊤
DrewAt site here call p answers.Off e q n = HasDrawn call p.view n.drew q.view
DrewAt site here call p answer e q n = (t : IsTryingSince site here call p e q) × DrewSince t.first q n

-- ---- where a call stands, what was taken for it, and why it gave up, where it was told that the power is off
pub record IsWaiting (site : Ground) (here : Site) (call : Call) (off : Bool) (p : Watch) (left : Option (Option ℕ)) (answer : Answer) (e : Engine) (q : Watch) (now : Option (Option ℕ))
    (cuts : ℕ) (n : Headway) : Type 0 where
  pub taken : HasTaken p left q now
  pub stands : StandsAt site here call p answer e q
  pub why : answer ≡ answers.Off → GaveUpFor off p left q now cuts
  pub headway : HasHeadway p no_headway q n
  pub idle : n.begun ≡ false → q ≡ p
  pub drew : DrewAt site here call p answer e q n
  pub plans : answer ≡ answers.Off → off ≡ false → PlansCall call p.view q.view

module _ (site : Ground) (here : Site) (call : Call) (number : HasNumber here) (p : Watch) where
  -- what a try tells of an attempt that began with the entries of p, behind the events `some`; by now `all` were taken
  stands_by : (work : Work) (start : Engine) (first : Watch) (answer : Answer) (next : Engine) (q : Watch) (some all : List (Want × ℕ)) → (answer ≡ answers.Left → wanted start ≢ Done)
      → HasNoMore p.view first.view → first.took ≡ some ++ p.took → q.took ≡ all ++ p.took → Tells site here call work start first answer next q → StandsAt site here call p answer next q
  stands_by work start first (answers.Replied reply place) next q some all asks same since took t = record {
    entry = one_more_on call reply place p.view first.view q.view same t.1;
    placed = (let seen = same.seen in let low = t.2 in omega (arith, seen, low));
    nothing = t.0.nothing;
    callers = t.0.over.callers;
  }
  stands_by work start first answers.Left next q some all asks same since took t =
      record { work = work; start = start; first = first; going = t.0; asks = asks refl; same = same; events = some; since = since }
  stands_by work start first answers.Off next q some all asks same since took t = tt
  stands_by work start first answer next q some all asks same since took t =
      let ready = t.2 number in
      record { work = work_of next.op; start = next; first = q; going = ready.going; asks = ready.asks; same = no_more_on p.view first.view q.view same t.1; events = all; since = took }

  -- and which place was drawn
  drew_by : (work : Work) (start : Engine) (first : Watch) (answer : Answer) (next : Engine) (q : Watch) (some all : List (Want × ℕ)) (n : Headway) → (answer ≡ answers.Left → wanted start ≢ Done)
      → HasNoMore p.view first.view → first.took ≡ some ++ p.took → q.took ≡ all ++ p.took → DrewSince first q n → Tells site here call work start first answer next q
      → DrewAt site here call p answer next q n
  drew_by work start first (answers.Replied reply place) next q some all n asks same since took drew t = tt
  drew_by work start first answers.Left next q some all n asks same since took drew t =
      (record { work = work; start = start; first = first; going = t.0; asks = asks refl; same = same; events = some; since = since }, drew)
  drew_by work start first answers.Off next q some all n asks same since took drew t =
      drawn_since call p.view first.view q.view n.drew same
      (subst (λ (d : Option ℕ). HasDrawn call first.view d q.view) (sym (drew t.1.events t.1.took)) t.1.draws)
  drew_by work start first answer next q some all n asks same since took drew t =
      let ready = t.2 number in
      let none : n.drew ≡ None = none_drawn call first.view q.view n.drew t.1
      (subst (λ (d : Option ℕ). HasDrawn call first.view d q.view) (sym (drew t.0.over.events t.0.over.took)) t.0.over.draws) in (
        record { work = work_of next.op; start = next; first = q; going = ready.going; asks = ready.asks; same = no_more_on p.view first.view q.view same t.1; events = all; since = took },
        λ events own. none ∙ ap (λ (es : List (Want × ℕ)). (headway_after es no_headway).drew) (append_cancel_right [] events q.took own),
      )

  pub called : (left now : Option (Option ℕ)) (before cuts : ℕ) (off : Bool) (answer : Answer) (next : Engine) (q : Watch) (n : Headway)
      → HasCalled site here call off p left before answer next q now cuts → HasHeadway p no_headway q n → IsWaiting site here call off p left answer next q now cuts n
  called left now before cuts true answer next q n c headway = record {
    taken = subst (λ (x : Watch). HasTaken p left x now) (sym c.1) (subst (λ (x : Option (Option ℕ)). HasTaken p left p x) (sym c.2) (nothing_taken p left));
    stands = subst (λ (x : Answer). StandsAt site here call p x next q) (sym c.0) tt;
    why = λ _. inl (refl, c.1);
    headway = headway;
    idle = λ _. c.1;
    drew = subst (λ (x : Answer). DrewAt site here call p x next q n) (sym c.0)
        (subst (λ (d : Option ℕ). HasDrawn call p.view d q.view) (sym (ap (λ (x : Headway). x.drew) (headway [] (ap (λ (x : Watch). x.took) c.1))))
        (inl (ap (λ (x : Watch). x.view.own) c.1)));
    plans = λ is on. absurd (let no : true ≡ false = on in cc);
  }
  called left now before cuts false answer next q n c headway = record {
    taken = taken_on p p q left left now c.0.events (nothing_taken p left) c.0.took c.0.past c.0.callers c.0.lowered;
    stands = stands_by calls (begun here call) p answer next q [] c.0.events (λ is. absurd (c.2 is)) (record { own = refl; seen = refl }) refl c.0.took c.1;
    why = λ is.
        elim (c.0.off_by is) [
          | inl cut ↦ inr (inl cut)
          | inr out ↦
              let g = subst (λ (x : Answer). Tells site here call calls (begun here call) p x next q) is c.1 in
              inr (inr (found_by site here call calls (begun here call) p g.0 q c.0.events g.1 c.0.took out))
        ];
    headway = headway;
    idle = λ unbegun. c.0.idle (none_since p q no_headway n c.0.events c.0.took headway unbegun);
    drew = drew_by calls (begun here call) p answer next q [] c.0.events n (λ is. absurd (c.2 is)) (record { own = refl; seen = refl }) refl c.0.took (drew_of p q n headway) c.1;
    plans = λ is on. (subst (λ (x : Answer). Tells site here call calls (begun here call) p x next q) is c.1).1.plans;
  }

  -- without a reply, while the power is on, it is under way
  pub trying_of : (answer : Answer) (e : Engine) (q : Watch) → ((reply : Reply) (place : ℕ) → answer ≢ answers.Replied reply place) → answer ≢ answers.Off → StandsAt site here call p answer e q
      → IsTryingSince site here call p e q
  trying_of (answers.Replied reply place) e q unreplied on s = absurd (unreplied reply place refl)
  trying_of answers.Off e q unreplied on s = absurd (on refl)
  trying_of answer e q unreplied on s = s

  pub drew_trying : (answer : Answer) (e : Engine) (q : Watch) (n : Headway) → ((reply : Reply) (place : ℕ) → answer ≢ answers.Replied reply place) → answer ≢ answers.Off
      → DrewAt site here call p answer e q n → (t : IsTryingSince site here call p e q) × DrewSince t.first q n
  drew_trying (answers.Replied reply place) e q n unreplied on d = absurd (unreplied reply place refl)
  drew_trying answers.Off e q n unreplied on d = absurd (on refl)
  drew_trying answer e q n unreplied on d = d

  pub trying_now : (e : Engine) (q : Watch) → IsTryingSince site here call p e q → IsTrying site here call e q
  trying_now e q t = record { work = t.work; start = t.start; first = t.first; going = t.going; asks = t.asks }

  pub waited_on : (off : Bool) (left now after : Option (Option ℕ)) (cuts most : ℕ) (then : Answer) (e next : Engine) (q r : Watch) (n last : Headway) (t : IsTryingSince site here call p e q)
      → DrewSince t.first q n → HasTaken p left q now → HasHeadway p no_headway q n → (n.begun ≡ false → q ≡ p) → HasTried site here call most e q now then next r after cuts → HasHeadway q n r last
      → IsWaiting site here call off p left then next r after cuts last
  waited_on off left now after cuts most then e next q r n last t drew k headway idle tried more =
      let taken = taken_on p q r left now after tried.events k tried.took tried.past tried.callers tried.lowered in
      record {
        taken = taken;
        stands = stands_by t.work t.start t.first then next r t.events taken.events (λ _. t.asks) t.same t.since taken.took (tried.tells t.work t.start t.first t.asks t.going);
        why = λ is.
            elim (tried.off_by is) [
              | inl cut ↦ inr (inl (none_left_on left now after (length k.events) k.lowered cut.0, cut.1))
              | inr out ↦
                  let found = found_off site here call t.work t.start t.first (after_events e tried.events) r (tried.going t.work t.start t.first t.going) out in
                  inr (inr (since_before p t.first r t.events found t.since))
            ];
        headway = headway_on p q r no_headway n last k.events tried.events k.took tried.took headway more;
        idle = λ unbegun.
            (let none = none_since q r n last tried.events tried.took more unbegun in
            let same : last ≡ n = more tried.events tried.took ∙ ap (λ (es : List (Want × ℕ)). headway_after es n) none in
            tried.idle none ∙ idle (ap (λ (x : Headway). x.begun) (sym same) ∙ unbegun));
        drew = drew_by t.work t.start t.first then next r t.events taken.events last (λ _. t.asks) t.same t.since taken.took
            (drew_on t.first q r n last t.going.events tried.events t.going.took tried.took drew more) (tried.tells t.work t.start t.first t.asks t.going);
        plans = λ is on planned has.
            (let g = subst (λ (x : Answer). Tells site here call t.work t.start t.first x next r) is (tried.tells t.work t.start t.first t.asks t.going) in
            let of = g.1.plans planned has in (of.0, of.1 ∙ t.same.own));
      }

-- while the power is not told off, it is on
pub not_off : (answer : Answer) → answer ≢ answers.Off → says_off answer ≡ false
not_off answers.Off on = absurd (on refl)
not_off answer on = refl

pub gone_on : (site : Ground) (here : Site) (call : Call) (most : ℕ) (off : Bool) (e : Engine) (p : Watch) (left : Option (Option ℕ)) (before : ℕ) (answer : Answer) (next : Engine) (q : Watch)
    (now : Option (Option ℕ)) (cuts : ℕ) → off ≡ false → HasGoneOnTrying site here call most off e p left before answer next q now cuts → HasTried site here call most e p left answer next q now cuts
gone_on site here call most off e p left before answer next q now cuts is t = subst (λ (b : Bool). HasGoneOnTrying site here call most b e p left before answer next q now cuts) is t

-- ---- a caller whose gate never cuts the power gave up since it found the power off
pub stopped : (p q r : Watch) (off : Bool) (now after : Option (Option ℕ)) (cuts : ℕ) → off ≡ false → HasTaken p (Some None) q now → GaveUpFor off q now r after cuts → HasFoundOff p r
stopped p q r off now after cuts on k (inl was) = absurd (let both = sym on ∙ was.0 in cc)
stopped p q r off now after cuts on k (inr (inl cut)) = absurd (subst (λ (x : Option (Option ℕ)). HasNoneLeft x after) k.lowered cut.0)
stopped p q r off now after cuts on k (inr (inr found)) = since_before p q r k.events found k.took
