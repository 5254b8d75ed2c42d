-- One reply more: the replies of a caller stay in order, and how many of them drew a place.
use Rattle.std.proofs.Common.{◌≡◌, ℕ, suc, ◌+◌, ◌≤◌, Bool, true, false, cond, ◌&&◌, eqb, List, [], ◌∷◌, ◌++◌, length, Option, None, Some, inl, inr, refl, sym, ap, ◌∙◌, subst, arith}
use Rattle.std.proofs.lemmas.Bool.{ne_eqb, le-leb, lt-leb}
use Rattle.std.specs.Prelude.{filter, is_some}
use Rattle.map_model.specs.declared.entry.Reply.{Reply}
use Rattle.map_model.specs.declared.entry.Reply.TheVariants.{Full, Deep}
use Rattle.image_layout.specs.Places.{Shape}
use Rattle.map_model.specs.declared.call.Call.{Call}
use Rattle.map_model.specs.declared.call.Call.TheVariants.{Get}
use Rattle.map_model.specs.declared.entry.Entry.{Entry}
use Rattle.map_model.specs.Map.{is_done, shown}
use Rattle.map_model.specs.Weave.{drew_at}
use Rattle.map_model.specs.Legal.{InOrder, seen_of, seen_after}
use Rattle.world.specs.Views.{View, Has, At}
use Rattle.world.specs.History.{DrawnChange, Log, map_now, map_when, MayReply, HasFullKeys, HasRoomCause, IsRight}
use Rattle.world.specs.Parts.{total}

-- ---- replies in order
pub in_order_more : (serial seen : ℕ) (es : List Entry) (e : Entry) → InOrder serial seen es → e.serial ≡ serial + length es → e.drew ≡ is_done e.reply → seen_of seen es ≤ e.place
    → InOrder serial seen (es ++ e ∷ [])
in_order_more serial seen [] e order numbered drew sees = (omega (arith, numbered), drew, sees, tt)
in_order_more serial seen (x ∷ es) e order numbered drew sees = (order.0, order.1, order.2, in_order_more (suc serial) (seen_after x) es e order.3 (omega (arith, numbered)) drew sees)

pub seen_of_more : (seen : ℕ) (es : List Entry) (e : Entry) → seen_of seen (es ++ e ∷ []) ≡ seen_after e
seen_of_more seen [] e = refl
seen_of_more seen (x ∷ es) e = seen_of_more (seen_after x) es e

-- ---- how many replies pass a test
module _ (p : Entry → Bool) where
  pub count_more : (es : List Entry) (e : Entry) → length (filter p (es ++ e ∷ [])) ≡ length (filter p es) + cond (p e) 1 0
  count_more [] e = one (p e)
    where
      one : (b : Bool) → length (cond b (e ∷ []) []) ≡ 0 + cond b 1 0
      one true = refl
      one false = refl
  count_more (x ∷ es) e = here (count_more es e) (p x)
    where
      here : length (filter p (es ++ e ∷ [])) ≡ length (filter p es) + cond (p e) 1 0 → (b : Bool)
          → length (cond b (x ∷ filter p (es ++ e ∷ [])) (filter p (es ++ e ∷ []))) ≡ length (cond b (x ∷ filter p es) (filter p es)) + cond (p e) 1 0
      here r true = omega (arith, r)
      here r false = r

  pub count_none : (es : List Entry) → ((e : Entry) → Has e es → p e ≡ false) → length (filter p es) ≡ 0
  count_none [] none = refl
  count_none (x ∷ es) none = ap (λ b. length (cond b (x ∷ filter p es) (filter p es))) (none x (inl refl)) ∙ count_none es (λ e h. none e (inr h))

pub total_none : (f : View → ℕ) (views : List View) → ((j : ℕ) (v : View) → At views j v → f v ≡ 0) → total f views ≡ 0
total_none f [] none = refl
total_none f (v ∷ views) none = let a = none 0 v refl in let r = total_none f views (λ j u e. none (suc j) u e) in omega (arith, a, r)

-- an entry that drew is at its own place alone
pub drew_here : (e : Entry) (n : ℕ) → e.drew ≡ true → (n ≡ e.place → ⊥) → drew_at n e ≡ false
drew_here e n drew other = ap (λ b. b && eqb e.place n) drew ∙ ne_eqb e.place n (λ q. other (sym q))

-- ---- the history with one change more
map_when_now : (start : ℕ → Option ℕ) (log : Log) (n k : ℕ) → n ≡ length log → map_when start log n k ≡ map_now start log k
map_when_now start [] n k e = refl
map_when_now start (c ∷ log) n k e = ap (λ b. cond b (map_when start log n k) (map_now start (c ∷ log) k)) (lt-leb n (length log) (omega (arith, e)))

keys_alike : (m l : ℕ → Option ℕ) (Passes : ℕ → Type 0) → ((k : ℕ) → m k ≡ l k) → HasFullKeys Passes m → HasFullKeys Passes l
keys_alike m l Passes same c = record { key = c.key; differ = c.differ; there = λ r low. ap is_some (sym (same (c.key r))) ∙ c.there r low; pass = c.pass }

pub cause_alike : (shape : Shape) (m l : ℕ → Option ℕ) (call : Call) (r : Reply) → ((k : ℕ) → m k ≡ l k) → HasRoomCause shape m call r → HasRoomCause shape l call r
cause_alike shape m l call Full same c = keys_alike m l _ same c
cause_alike shape m l call Deep same c = keys_alike m l _ same c
cause_alike shape m l call r same c = tt

pub when_now : (start : ℕ → Option ℕ) (log : Log) (n k : ℕ) → n ≡ length log → map_when start log n k ≡ map_now start log k
when_now start log n k e = map_when_now start log n k e

-- the place of an entry is not past what its caller has seen then
pub place_le : (b : Bool) (place n : ℕ) → cond b (suc place) place ≤ n → place ≤ n
place_le true place n le = omega (arith, le)
place_le false place n le = le

module _ (start : ℕ → Option ℕ) (log : Log) (c : DrawnChange) where
  pub when_more : (n k : ℕ) → n ≤ length log → map_when start (c ∷ log) n k ≡ map_when start log n k
  when_more n k le = ap (λ b. cond b (map_when start log n k) (map_now start (c ∷ log) k)) (le-leb n (length log) le)

  pub right_more : (shape : Shape) (e : Entry) → IsRight shape start log e → IsRight shape start (c ∷ log) e
  right_more shape e r = record {
    within = (let w = r.within in omega (arith, w));
    reply = subst (λ (a : Option ℕ). MayReply a e.call e.reply) (sym (when_more e.place _ (place_le e.drew e.place (length log) r.within))) r.reply;
    cause = cause_alike shape _ _ e.call e.reply (λ k. sym (when_more e.place k (place_le e.drew e.place (length log) r.within))) r.cause;
    drew = λ d. inr (r.drew d);
  }

-- a get may answer what its key has
pub shown_may : (a : Option ℕ) (k : ℕ) → MayReply a (Get k) (shown a)
shown_may None k = refl
shown_may (Some v) k = refl

pub shown_keeps : (a : Option ℕ) → is_done (shown a) ≡ false
shown_keeps None = refl
shown_keeps (Some v) = refl

pub shown_cause : (shape : Shape) (a : Option ℕ) (m : ℕ → Option ℕ) (call : Call) → HasRoomCause shape m call (shown a)
shown_cause shape None m call = tt
shown_cause shape (Some v) m call = tt
