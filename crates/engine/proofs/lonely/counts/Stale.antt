-- How many segments are stale: no event leaves more, one by which a segment gets the image's version leaves one less, and one that is stale stays so until
-- then.
use Rattle.std.proofs.Common.{◌≡◌, ◌≢◌, ℕ, zero, suc, ◌%◌, ◌^◌, ◌<◌, ◌≤◌, inl, inr, Bool, true, false, List, refl, sym, ◌∙◌, ap, subst, arith}
use Rattle.std.specs.Prelude.{◌==◌, ◌&&◌, not}
use Rattle.std.proofs.lemmas.Bool.{cases_eq, ne_eqb, eqb-false, and_parts, not-true, false_from_ne_true}
use Rattle.op_core.specs.declared.want.Want.{Want}
use Rattle.trace.specs.Events.{Words}
use Rattle.segment_head.specs.HeadWord.{version_in, is_live}
use Rattle.segment_head.proofs.Headers.{live_test, live_by_test}
use Rattle.image_layout.specs.Places.{Shape, state_word}
use Rattle.map_model.specs.declared.call.Call.{Call}
use Rattle.world.specs.declared.site.Site.{Site}
use Rattle.world.specs.Ground.{Ground, version_of}
use Rattle.world.specs.Views.{View}
use Rattle.world.specs.Wants.{words_after}
use Rattle.world.specs.StepKinds.{StepKind, of_structure, wanted_of, MayTake}
use Rattle.world.specs.Slots.{IsStaleSlot, NothingGrowsStale, StaleStays, RenewedAreCurrent}
use Rattle.world.specs.Invariant.{Holds}
use Rattle.world.specs.areas.Areas.{header_word}
use Rattle.world.specs.areas.Rows.{renews}
use Rattle.world.specs.areas.Kinds.{moves}
use Rattle.part.specs.Doings.{Doings}
use Rattle.part.specs.Part.{finds}
use Rattle.engine.specs.declared.engine.Engine.{Engine}
use Rattle.engine.specs.Engine.{wanted}
use Rattle.engine.specs.OpPart.{op_part}
use Rattle.engine.specs.Left.{is_stale, stale_below, stale_segments}
use Rattle.engine.specs.Alone.{IsStaleIn}
use Rattle.engine.specs.Causes.{CallCauses}
use Rattle.engine.proofs.holding.Served.{sound_now}
use Rattle.engine.proofs.attempts.Seats.{IsSeated, seat_steps}
use Rattle.engine.proofs.lonely.counts.Slots.{one_if}

-- ---- the test of a stale header
old_by : (words : Words) (head : ℕ) → is_stale words head ≡ true → version_in head ≢ words state_word % 2 ^ 8
old_by words head is = eqb-false (version_in head) (words state_word % 2 ^ 8) (not-true (version_in head == words state_word % 2 ^ 8) (and_parts (is_live head) _ is).1)

pub stale_test : (words : Words) (head : ℕ) → is_live head ≡ true → version_in head ≢ words state_word % 2 ^ 8 → is_stale words head ≡ true
stale_test words head live old =
    ap (λ t. t && not (version_in head == words state_word % 2 ^ 8)) live ∙ ap not (ne_eqb (version_in head) (words state_word % 2 ^ 8) old)

module _ (site : Ground) (words : Words) (same : words state_word % 2 ^ 8 ≡ version_of site) (s : ℕ) where
  abbrev head : ℕ
  head = words (header_word site.shape s)

  pub slot_stale : s < site.shape.segments → is_stale words head ≡ true → IsStaleSlot site words s
  slot_stale within is = record {
    live = record { slot = within; live = live_by_test head (and_parts (is_live head) _ is).0 };
    old = λ current. old_by words head is (current ∙ sym same);
  }

  pub stale_slot : IsStaleSlot site words s → is_stale words head ≡ true
  stale_slot stale = stale_test words head (live_test head stale.live.live) (λ current. stale.old (current ∙ same))

-- ---- how many are stale
one_falls : (old new : Bool) → (new ≡ true → old ≡ true) → one_if new ≤ one_if old
one_falls old false was = omega arith
one_falls true true was = omega arith
one_falls false true was = absurd (let none = was refl in cc)

module _ (shape : Shape) (words later : Words) where
  abbrev was_stale : ℕ → Bool
  was_stale s = is_stale words (words (header_word shape s))

  abbrev now_stale : ℕ → Bool
  now_stale s = is_stale later (later (header_word shape s))

  -- a slot below this one that is stale was so before
  abbrev WasBelow : ℕ → Type 0
  WasBelow n = (s : ℕ) → s < n → now_stale s ≡ true → was_stale s ≡ true

  below_falls : (n : ℕ) → WasBelow n → stale_below shape later n ≤ stale_below shape words n
  below_falls zero was = omega arith
  below_falls (suc n) was =
      let one = one_falls (was_stale n) (now_stale n) (was n (omega arith)) in
      let rest = below_falls n (λ s low. was s (omega (arith, low))) in
      omega (arith, one, rest)

  -- and where one was stale that is not, there is one less
  below_loses : (n slot : ℕ) → slot < n → was_stale slot ≡ true → now_stale slot ≡ false → WasBelow n → suc (stale_below shape later n) ≤ stale_below shape words n
  below_loses zero slot low old new was = absurd (omega (arith, low))
  below_loses (suc n) slot low old new was = elim (cases_eq slot n) [
    | inl same ↦
        let one : one_if (was_stale n) ≡ 1 = ap one_if (subst (λ s. was_stale s ≡ true) same old) in
        let none : one_if (now_stale n) ≡ 0 = ap one_if (subst (λ s. now_stale s ≡ false) same new) in
        let rest = below_falls n (λ s below. was s (omega (arith, below))) in
        omega (arith, one, none, rest)
    | inr apart ↦
        let one = one_falls (was_stale n) (now_stale n) (was n (omega arith)) in
        let rest = below_loses n slot (omega (arith, low, apart)) old new (λ s below. was s (omega (arith, below))) in
        omega (arith, one, rest)
  ]

-- ---- the image's version is that of the words
pub version_now : (site : Ground) (words : Words) (views : List View) → Holds site words views → words state_word % 2 ^ 8 ≡ version_of site
version_now site words views h = ap (λ (z : ℕ). z % 2 ^ 8) ((sound_now site words views h).fixed state_word (omega arith) (λ e. omega (arith, e)))

-- what is used of the world
pub record StaleLaws : Type 0 where
  pub grows : NothingGrowsStale
  pub stays : StaleStays
  pub renewed : RenewedAreCurrent

-- ---- the next event of who sits there
module _ (laws : CallCauses) (stale : StaleLaws) (site : Ground) (words : Words) (views : List View) (h : Holds site words views)
    (j : ℕ) (here : Site) (call : Call) (e : Engine) (did : Doings) (seat : IsSeated site words views j here call e did)
    (same : words_after site.shape (wanted e) j words state_word % 2 ^ 8 ≡ version_of site) where
  -- the words behind it
  abbrev later : Words
  later = words_after site.shape (wanted e) j words

  abbrev kind : StepKind
  kind = op_part.kind e.op (finds op_part site words e.op)

  was_below : WasBelow site.shape words later site.shape.segments
  was_below s within now =
      let step = seat_steps laws.part site words views h j here call e did seat in
      stale_slot site words (version_now site words views h) s
      (stale.grows site words views j seat.view kind j h seat.at step.may s
      (subst (λ (event : Want). IsStaleSlot site (words_after site.shape event j words) s) step.wants (slot_stale site later same s within now)))

  pub seat_stale : stale_segments site.shape later ≤ stale_segments site.shape words
  seat_stale = below_falls site.shape words later site.shape.segments was_below

  -- where it renews no segment, one that is stale is so behind it
  pub seat_stays : ((s x : ℕ) → kind ≡ of_structure (moves renews s x) → ⊥) → (s : ℕ) → IsStaleIn site.shape words s → IsStaleIn site.shape later s
  seat_stays none s (within, is) =
      let step = seat_steps laws.part site words views h j here call e did seat in
      elim (stale.stays site words views j seat.view kind j h seat.at step.may s (slot_stale site words (version_now site words views h) s within is)) [
        | inl old ↦ (within, stale_slot site later same s (subst (λ (event : Want). IsStaleSlot site (words_after site.shape event j words) s) (sym step.wants) old))
        | inr new ↦ absurd (none s new.0 new.1)
      ]

  -- where it renews one, there is one less
  pub seat_renews : (s x : ℕ) → kind ≡ of_structure (moves renews s x) → suc (stale_segments site.shape later) ≤ stale_segments site.shape words
  seat_renews s x is =
      let step = seat_steps laws.part site words views h j here call e did seat in
      let may : MayTake site (of_structure (moves renews s x)) seat.view = subst (λ k. MayTake site k seat.view) is step.may in
      let new = stale.renewed site words views j seat.view s x j h seat.at may in
      let wants : wanted e ≡ wanted_of site.shape (of_structure (moves renews s x)) = step.wants ∙ ap (wanted_of site.shape) is in
      below_loses site.shape words later site.shape.segments s new.0.live.slot (stale_slot site words (version_now site words views h) s new.0)
      (false_from_ne_true (is_stale later (later (header_word site.shape s)))
      (λ yes. (slot_stale site later same s new.0.live.slot yes).old
      (subst (λ (event : Want). version_in (words_after site.shape event j words (header_word site.shape s)) ≡ version_of site) (sym wants) new.1.current)))
      was_below
