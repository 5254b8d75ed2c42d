-- What a gate lets through, one event after another.
use Rattle.std.proofs.Common.{◌≡◌, ◌≢◌, ℕ, zero, suc, ◌+◌, ◌<◌, ◌≤◌, Option, None, Some, List, [], ◌∷◌, length, refl, sym, ap, ◌∙◌, subst, arith}
use Rattle.op_core.specs.declared.want.Want.{Want}
use Rattle.op_core.specs.declared.want.Want.TheVariants.{Done}
use Rattle.map_model.specs.declared.call.Call.{Call}
use Rattle.world.specs.declared.site.Site.{Site}
use Rattle.world.specs.Ground.{Ground, IsGround, version_of}
use Rattle.world.specs.Attempts.{HoldsOnly}
use Rattle.world.specs.Wants.{answer_to}
use Rattle.world.proofs.stepping.Later.{later_itself, later_joined}
use Rattle.engine.specs.declared.engine.Engine.{Engine}
use Rattle.engine.specs.declared.engine.End.{End}
use Rattle.engine.specs.Engine.{begun, wanted, taken, end_of}
use Rattle.engine.specs.OpPart.{calls}
use Rattle.engine.specs.Fits.{IsWordCall}
use Rattle.outside.specs.Gating.{Passes, Cuts}
use Rattle.outside.specs.declared.gates.Power.TheVariants.{On, Off}
use Rattle.vlock.specs.declared.knows.Watch.{Watch}
use Rattle.shared_call.specs.Laws.{AttemptLaws}
use Rattle.shared_call.specs.declared.going.Stop.TheVariants as stop
use Rattle.shared_call.specs.Suited.{IsRunning}
use Rattle.shared_call.specs.Turns.{Turns}
use Rattle.shared_call.specs.Attempts.{IsUnderWay}
use Rattle.shared_call.specs.Gated.{IsLowered, HasNoneLeft, IsLetting, IsLetThrough, IsCutOff, IsTaking, HasGoneOn}
use Rattle.shared_call.proofs.Attempted.{begins, running, goes_on, over, call_begins, attempted}

-- ---- the passes that are left
pub not_lowered : (l : Option (Option ℕ)) → IsLowered l 0 l
not_lowered None = tt
not_lowered (Some None) = refl
not_lowered (Some (Some n)) = (n, refl, omega arith)

lets : (l k m : Option (Option ℕ)) (n : ℕ) → IsLowered l n k → Passes k On m → IsLowered l (suc n) m
lets None k m n low p = tt
lets (Some None) k m n low p = (subst (λ (x : Option (Option ℕ)). Passes x On m) low p).1
lets (Some (Some l)) k m n low p = by (low.0) (low.2) (subst (λ (x : Option (Option ℕ)). Passes x On m) low.1 p)
  where
    by : (a : ℕ) → a + n ≡ l → Passes (Some (Some a)) On m → IsLowered (Some (Some l)) (suc n) m
    by zero e p = absurd (let q = p.0 in cc)
    by (suc a) e p = (a, p.1, omega (arith, e))

cuts_off : (l k m : Option (Option ℕ)) (n : ℕ) → IsLowered l n k → Passes k Off m → IsLowered l n m
cuts_off None k m n low p = tt
cuts_off (Some None) k m n low p = absurd (let q = subst (λ (x : Option (Option ℕ)). Passes x Off m) low p in let e = q.0 in cc)
cuts_off (Some (Some l)) k m n low p = by (low.0) (low.2) (subst (λ (x : Option (Option ℕ)). Passes x Off m) low.1 p)
  where
    by : (a : ℕ) → a + n ≡ l → Passes (Some (Some a)) Off m → IsLowered (Some (Some l)) n m
    by zero e p = (0, p.1, e)
    by (suc a) e p = absurd (let q = p.0 in cc)

none_left : (l k m : Option (Option ℕ)) (n : ℕ) → IsLowered l n k → Passes k Off m → HasNoneLeft l m
none_left None k m n low p = tt
none_left (Some None) k m n low p = absurd (let q = subst (λ (x : Option (Option ℕ)). Passes x Off m) low p in let e = q.0 in cc)
none_left (Some (Some l)) k m n low p = by (low.0) (subst (λ (x : Option (Option ℕ)). Passes x Off m) low.1 p)
  where
    by : (a : ℕ) → Passes (Some (Some a)) Off m → m ≡ Some (Some 0)
    by zero p = p.1
    by (suc a) p = absurd (let q = p.0 in cc)

-- ---- and how often it has cut
cut_now : (old new : ℕ) → Cuts old Off new → 0 < new
cut_now zero new is = omega (arith, is)
cut_now (suc n) new is = omega (arith, is)

-- ---- an attempt of a call itself
module _ (laws : AttemptLaws) (site : Ground) (here : Site) (call : Call) (ground : IsGround site) (shape : here.geometry ≡ site.shape) (version : here.version ≡ version_of site)
    (small : IsWordCall call) (p : Watch) (nothing : HoldsOnly [] p.view) (some : 0 < p.view.callers) (left : Option (Option ℕ)) where
  pub lets_begin : (e : Engine) (cuts : ℕ) → e ≡ begun here call → IsLetting site here call p left e p left cuts
  unfolding call_begins begins
  lets_begin e cuts now = record {
    going = call_begins laws site here call ground shape version small p nothing some e now;
    lowered = not_lowered left;
    uncut = λ more. absurd (omega (arith, more));
  }

  pub lets_on : (q r : Watch) (e next : Engine) (now after : Option (Option ℕ)) (cuts new : ℕ) → wanted e ≢ Done → IsLetting site here call p left e q now cuts → Passes now On after → Cuts cuts On new
      → Turns site e q next r → IsLetting site here call p left next r after new
  unfolding goes_on
  lets_on q r e next now after cuts new asks l passes uncut t = record {
    going = goes_on site here call calls laws (begun here call) p q r e next asks l.going t;
    lowered = lets left now after (length l.going.events) l.lowered passes;
    uncut = λ more. uncut.1;
  }

  pub let_through : (q : Watch) (e : Engine) (end : End) (now : Option (Option ℕ)) (cuts : ℕ) → IsLetting site here call p left e q now cuts → wanted e ≡ Done → end ≡ end_of e
      → IsLetThrough site here call p left end q now cuts
  unfolding attempted over
  let_through q e end now cuts l done is =
      let a = attempted laws site here call ground shape version small p nothing some q e end l.going done is in
      record { attempted = a; lowered = l.lowered; uncut = l.uncut a.over.some }

  pub cut_off : (q : Watch) (e : Engine) (now after : Option (Option ℕ)) (cuts new : ℕ) → wanted e ≢ Done → IsLetting site here call p left e q now cuts → Passes now Off after → Cuts cuts Off new
      → IsCutOff site here call p left q after new
  cut_off q e now after cuts new asks l passes is = record {
    engine = e;
    going = l.going;
    asks = asks;
    lowered = cuts_off left now after (length l.going.events) l.lowered passes;
    none = none_left left now after (length l.going.events) l.lowered passes;
    cut = cut_now cuts new is;
  }

-- ---- an attempt at whatever work
module _ (site : Ground) (e : Engine) (p : Watch) (left : Option (Option ℕ)) where
  -- in the midst, after so many events
  pub record IsOn (n : ℕ) (next : Engine) (q : Watch) (now : Option (Option ℕ)) (cuts : ℕ) : Type 0 where
    pub taking : IsTaking site e p left next q now
    pub count : length taking.events ≡ n
    pub uncut : 0 < n → cuts ≡ 0

  pub none_taken : (cuts : ℕ) → IsOn 0 e p left cuts
  none_taken cuts = record {
    taking = record {
      events = [];
      took = refl;
      asked = tt;
      engine = refl;
      past = refl;
      later = later_itself p.view;
      callers = refl;
      lowered = not_lowered left;
      idle = λ none. refl;
      going = λ here call work start first g. g;
    };
    count = refl;
    uncut = λ more. absurd (omega (arith, more));
  }

  pub runs : AttemptLaws → (n : ℕ) (next : Engine) (q : Watch) (now : Option (Option ℕ)) (cuts : ℕ) → IsUnderWay site e p → IsOn n next q now cuts → wanted next ≢ Done → IsRunning site next q.view
  runs laws n next q now cuts u on asks = running site u.here u.call u.work laws u.start u.first q next (on.taking.going u.here u.call u.work u.start u.first u.going) asks

  pub one_taken : AttemptLaws → (n : ℕ) (next then : Engine) (q r : Watch) (now after : Option (Option ℕ)) (cuts new : ℕ) → wanted next ≢ Done → IsOn n next q now cuts → Passes now On after → Cuts cuts On new
      → Turns site next q then r → IsOn (n + 1) then r after new
  one_taken laws n next then q r now after cuts new asks on passes uncut t =
      let k = on.taking in
      record {
        taking = record {
          events = (wanted next, t.found) ∷ k.events;
          took = t.took ∙ ap (λ (es : List (Want × ℕ)). (wanted next, t.found) ∷ es) k.took;
          asked = (ap wanted (sym k.engine), k.asked);
          engine = t.engine ∙ ap (λ (x : Engine). taken x (answer_to (wanted next) t.found)) k.engine;
          past = t.past ∙ k.past;
          later = later_joined p.view q.view r.view k.later t.later;
          callers = t.callers ∙ k.callers;
          lowered = lets left now after (length k.events) k.lowered passes;
          idle = λ none. absurd (cc);
          going = λ here call work start first g. goes_on site here call work laws start first q r next then asks (k.going here call work start first g) t;
        };
        count = (let c = on.count in omega (arith, c));
        uncut = λ more. uncut.1;
      }

  pub over_now : (n most : ℕ) (next : Engine) (q : Watch) (now : Option (Option ℕ)) (cuts : ℕ) → n ≤ most → IsOn n next q now cuts → wanted next ≡ Done
      → HasGoneOn site most e p left stop.Over next q now cuts
  over_now n most next q now cuts few on done = record {
    taking = on.taking;
    few = (let c = on.count in omega (arith, few, c));
    stops = (done, λ more. on.uncut (let c = on.count in omega (arith, more, c)));
  }

  pub left_now : (n most : ℕ) (next : Engine) (q : Watch) (now : Option (Option ℕ)) (cuts : ℕ) → n ≡ most → IsOn n next q now cuts → wanted next ≢ Done
      → HasGoneOn site most e p left stop.Left next q now cuts
  left_now n most next q now cuts all on asks = record {
    taking = on.taking;
    few = (let c = on.count in omega (arith, all, c));
    stops = (asks, on.count ∙ all, λ more. on.uncut (let c = on.count in omega (arith, more, c)));
  }

  pub cut_now_on : (n most : ℕ) (next : Engine) (q : Watch) (now after : Option (Option ℕ)) (cuts new : ℕ) → n ≤ most → IsOn n next q now cuts → wanted next ≢ Done → Passes now Off after → Cuts cuts Off new
      → HasGoneOn site most e p left stop.Cut next q after new
  cut_now_on n most next q now after cuts new few on asks passes is =
      let k = on.taking in
      record {
        taking = record {
          events = k.events;
          took = k.took;
          asked = k.asked;
          engine = k.engine;
          past = k.past;
          later = k.later;
          callers = k.callers;
          lowered = cuts_off left now after (length k.events) k.lowered passes;
          idle = k.idle;
          going = k.going;
        };
        few = (let c = on.count in omega (arith, few, c));
        stops = (asks, none_left left now after (length k.events) k.lowered passes, cut_now cuts new is);
      }
