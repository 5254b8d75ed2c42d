-- What is held of a segment is given back: each event is of its kind, which the view may take, and leaves one less; at the end nothing is held
-- or known.
use Rattle.std.proofs.Common.{◌≡◌, ℕ, ◌+◌, ◌-◌, ◌%◌, ◌^◌, ◌<◌, ◌≤◌, Bool, true, false, Some, [], slice_index, inl, inr, refl, sym, ap, ◌∙◌, subst, arith}
use Rattle.std.specs.Prelude.{nat_lt, ◌&&◌, if◌then◌else◌}
use Rattle.std.proofs.lemmas.Bool.{cases_lt, lt-ltb, ltb-true, and_parts, and_from}
use Rattle.op_core.specs.declared.want.Want.TheVariants.{Store}
use Rattle.image_layout.specs.Places.{buckets}
use Rattle.world.specs.Ground.{Ground}
use Rattle.world.specs.Views.{View, Has}
use Rattle.world.specs.Kinds.{unlocks}
use Rattle.world.specs.Conditions.{May}
use Rattle.world.specs.Attempts.{HoldsOnly}
use Rattle.world.specs.areas.Areas.{Segment, all_but, is_of_segment}
use Rattle.world.specs.StepKinds.{wanted_of, view_by, MayTake}
use Rattle.world.proofs.basics.Seats.{not_under_has}
use Rattle.world.proofs.fitting.Rows.{but_before}
use Rattle.world.proofs.moving.Holding.{out_of_slot_has}
use Rattle.std.proofs.lemmas.Bool.{eq-eqb, both_ways}
use Rattle.phase.specs.Giving.{IsLocated, IsQuiet}
use Rattle.phase.proofs.Handing.{none_loose}
pub use Rattle.phase.proofs.locks.Giving.{nothing_left}
use Rattle.enclose_op.specs.declared.enclosed.Enclosed.{Enclosed}
use Rattle.enclose_op.specs.declared.give.Give.{Give}
use Rattle.enclose_op.specs.declared.give.Give.TheVariants.{Lock, Guard}
use Rattle.enclose_op.specs.Whole.{HoldsBetween}
use Rattle.enclose_op.specs.Giving.{lock_of, free_value, give_from, give_wanted, given}
use Rattle.enclose_op.specs.Fits.{give_kind, give_left, HoldsPart, SuitsGive}
use Rattle.enclose_op.specs.GiveLaws.{SuitsNext, left_of, GiveStands}
use Rattle.enclose_op.proofs.Places.{free_is, lock_is, guard_is}
use Rattle.enclose_op.proofs.Held.{only_guard, no_whole, no_side, has_guard, hold_at, holds_none, hold_less}

-- nothing unsettled, planned, under way or owed stays so, where these lists do
pub quiet_still : (v u : View) → u.dirty ≡ v.dirty → u.flushed ≡ v.flushed → u.planned ≡ v.planned → u.moving ≡ v.moving → u.owed ≡ v.owed → IsQuiet v → IsQuiet u
quiet_still v u d f p m o q = record { dirty = d ∙ q.dirty; flushed = f ∙ q.flushed; planned = p ∙ q.planned; moving = m ∙ q.moving; owed = o ∙ q.owed }

module _ (site : Ground) (e : Enclosed) where
  -- ---- where it begins
  module _ (b to : ℕ) (v : View) (from : b ≤ to) (most : to ≤ buckets) (part : HoldsPart site e b to v) where
    suits_by : (t : Bool) → (nat_lt b to && nat_lt b buckets) ≡ t → SuitsGive site e (if t then Lock b to else Guard) v
    suits_by true is = (ltb-true b to (and_parts (nat_lt b to) (nat_lt b buckets) is).0, most, part)
    suits_by false is = elim (cases_lt b to) [
      | inl low ↦ absurd (both_ways (nat_lt b to && nat_lt b buckets) is (and_from (nat_lt b to) (nat_lt b buckets) (lt-ltb b to low) (lt-ltb b buckets (omega (arith, low, most)))))
      | inr high ↦ record {
        areas = part.areas;
        locks = hold_at site e b 0 v (subst (λ (n : ℕ). HoldsBetween site e b n v) (let same : to ≡ b = omega (arith, from, high) in same) part.locks);
        known = part.known;
        quiet = part.quiet;
      }
    ]

    pub give_suits : SuitsGive site e (give_from b to) v
    give_suits = suits_by (nat_lt b to && nat_lt b buckets) refl

  module _ (l : IsLocated site e.site e.segment) (v : View) where
    -- ---- each event is of its kind
    lock_wants : (b to : ℕ) → SuitsGive site e (Lock b to) v → give_wanted e (Lock b to) ≡ wanted_of site.shape (give_kind e (Lock b to))
    lock_wants b to s =
        let low = s.0 in
        let most = s.1 in
        let near : b < buckets = omega (arith, low, most) in
        let may = s.2.locks.free b (omega arith) low in
        let fits = may.1 in
        let is = free_is e b near in
        ap (λ (n : ℕ). Store (lock_of e b) n) (let small : (free_value e b + 2) % 2 ^ 64 ≡ free_value e b + 2 = omega (arith, fits, is) in small)

    pub give_wants : (give : Give) → SuitsGive site e give v → give_wanted e give ≡ wanted_of site.shape (give_kind e give)
    give_wants (Lock b to) s = lock_wants b to s
    give_wants Guard s = ap (λ (n : ℕ). Store n 0) (guard_is site e l)

    -- ---- which may be taken
    lock_may : (b to : ℕ) → SuitsGive site e (Lock b to) v → May site (unlocks (lock_of e b) (free_value e b + 2)) v
    lock_may b to s =
        let low = s.0 in
        let most = s.1 in
        let near : b < buckets = omega (arith, low, most) in
        let is = free_is e b near in (
          slice_index e.locks b + 1,
          subst (λ (n : ℕ). Has (n, slice_index e.locks b + 1) v.held) (sym (lock_is site e l b near)) (s.2.locks.has b (omega arith) low),
          (λ p loose under. none_loose v s.2.quiet p loose),
          s.2.quiet.planned,
          s.2.quiet.moving,
          s.2.quiet.owed,
          (let next : free_value e b + 2 ≡ slice_index e.locks b + 1 + 1 = omega (arith, is) in next),
        )

    pub give_may : (give : Give) → SuitsGive site e give v → MayTake site (give_kind e give) v
    give_may (Lock b to) s = (lock_may b to s, no_whole e v s.2.areas)
    give_may Guard s = (has_guard e v s.areas, (λ p loose of_it. none_loose v s.quiet p loose), (no_side e v s.areas, no_whole e v s.areas e.segment))

    -- ---- and leaves one less
    lock_gone : (b to n : ℕ) (s : SuitsGive site e (Lock b to) v) → HoldsPart site e (b + 1) to (view_by site.shape (give_kind e (Lock b to)) n v)
    lock_gone b to n s =
        let u : View = view_by site.shape (give_kind e (Lock b to)) n v in
        record {
          areas = s.2.areas;
          locks = hold_less site e l b to v s.0 s.1 s.2.locks u refl;
          known = λ p has. s.2.known p (not_under_has (lock_of e b) p.0 p.1 v.known has).1;
          quiet = quiet_still v u refl refl refl refl refl s.2.quiet;
        }

    -- until nothing is held
    guard_gone : (n : ℕ) → SuitsGive site e Guard v → HoldsOnly [] (view_by site.shape (give_kind e Guard) n v)
    guard_gone n s = record {
      held = nothing_left v.held (λ p. holds_none site e 0 v s.locks p);
      known = nothing_left _ (λ p has. (let was = out_of_slot_has site.shape p.0 e.segment p.1 v.known has in was.0 (s.known p was.1)));
      dirty = s.quiet.dirty;
      flushed = s.quiet.flushed;
      planned = s.quiet.planned;
      moving = s.quiet.moving;
      owed = s.quiet.owed;
      areas = nothing_left (all_but (is_of_segment e.segment) v.areas) (λ a has.
          (let was = but_before (is_of_segment e.segment) v.areas a has in
          let is = only_guard e v s.areas a was.0 in
          both_ways (is_of_segment e.segment (Segment e.segment)) (ap (is_of_segment e.segment) (sym is) ∙ was.1) (eq-eqb e.segment e.segment refl)));
    }

    -- what is given back next suits the view
    pub give_next : (give : Give) (n : ℕ) → SuitsGive site e give v → SuitsNext site e (given give) (view_by site.shape (give_kind e give) n v)
    give_next (Lock b to) n s =
        let u : View = view_by site.shape (give_kind e (Lock b to)) n v in
        let low = s.0 in
        let most = s.1 in
        subst (λ (t : Bool). SuitsNext site e (if t then Some (give_from (b + 1) to) else Some Guard) u) (sym (lt-ltb b buckets (omega (arith, low, most))))
        (give_suits (b + 1) to u (omega (arith, low)) most (lock_gone b to n s))
    give_next Guard n s = guard_gone n s

-- ---- fewer events are left
left_from : (b to : ℕ) (t : Bool) → (nat_lt b to && nat_lt b buckets) ≡ t → give_left (if t then Lock b to else Guard) < 2 + (66 - b)
left_from b to true is = let low = ltb-true b buckets (and_parts (nat_lt b to) (nat_lt b buckets) is).1 in omega (arith, low)
left_from b to false is = omega arith

left_by : (b to : ℕ) (t : Bool) → nat_lt b buckets ≡ t → left_of (if t then Some (give_from (b + 1) to) else Some Guard) < 2 + (65 - b)
left_by b to true is =
    let low = ltb-true b buckets is in
    let fewer = left_from (b + 1) to (nat_lt (b + 1) to && nat_lt (b + 1) buckets) refl in
    omega (arith, low, fewer)
left_by b to false is = omega arith

pub give_falls : (give : Give) → left_of (given give) < give_left give
give_falls (Lock b to) = left_by b to (nat_lt b buckets) refl
give_falls Guard = omega arith

-- at most so many
pub give_few : (b to : ℕ) → give_left (give_from b to) ≤ 67
give_few b to = let few = left_from b to (nat_lt b to && nat_lt b buckets) refl in omega (arith, few)

pub give_most : (give : Give) → give_left give ≤ 67
give_most (Lock b to) = omega arith
give_most Guard = omega arith

pub give_laws : GiveStands
give_laws = record {
  begins = λ site e b to v from most part. give_suits site e b to v from most part;
  wants = λ site e v give l s. give_wants site e l v give s;
  may = λ site e v give l s. give_may site e l v give s;
  next = λ site e v give n l s. give_next site e l v give n s;
  falls = give_falls;
}
