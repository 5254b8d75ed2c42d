-- How many slots are free: an event takes one at which a side is made new, one at which a repair frees its side leaves one more at the most, and no
-- other leaves more.
use Rattle.std.proofs.Common.{◌≡◌, ◌≢◌, ℕ, zero, suc, ◌+◌, ◌<◌, ◌≤◌, inl, inr, Bool, true, false, List, refl, sym, ◌∙◌, ap, subst, arith}
use Rattle.std.specs.Prelude.{◌==◌, if◌then◌else◌}
use Rattle.std.proofs.lemmas.Bool.{cases_eq, eq-eqb, eqb-true, eqb-false}
use Rattle.op_core.specs.declared.want.Want.{Want}
use Rattle.trace.specs.Events.{Words}
use Rattle.segment_head.specs.HeadWord.{state_in, free}
use Rattle.image_layout.specs.Places.{Shape}
use Rattle.map_model.specs.declared.call.Call.{Call}
use Rattle.world.specs.declared.site.Site.{Site}
use Rattle.world.specs.Ground.{Ground}
use Rattle.world.specs.Views.{View}
use Rattle.world.specs.Wants.{words_after}
use Rattle.world.specs.StepKinds.{StepKind, of_structure, wanted_of, MayTake}
use Rattle.world.specs.Slots.{NewSlotsWereFree, FreedByRepairs}
use Rattle.world.specs.Invariant.{Holds}
use Rattle.world.specs.areas.Areas.{header_word}
use Rattle.world.specs.areas.Rows.{news, frees}
use Rattle.world.specs.areas.Kinds.{moves}
use Rattle.part.specs.Doings.{Doings}
use Rattle.part.specs.Part.{finds}
use Rattle.engine.specs.declared.engine.Engine.{Engine}
use Rattle.engine.specs.Engine.{wanted}
use Rattle.engine.specs.OpPart.{op_part}
use Rattle.engine.specs.Left.{free_below, free_slots}
use Rattle.engine.specs.Causes.{CallCauses}
use Rattle.engine.proofs.attempts.Seats.{IsSeated, seat_steps}

-- ---- how many are free
abbrev pub one_if : Bool → ℕ
one_if t = if t then 1 else 0

abbrev one_free : ℕ → ℕ
one_free head = one_if (state_in head == free)

one_falls : (old new : ℕ) → (state_in old ≢ free → state_in new ≢ free) → one_free new ≤ one_free old
one_falls old new stays = by (state_in old == free) (state_in new == free) refl refl
  where
    by : (s t : Bool) → (state_in old == free) ≡ s → (state_in new == free) ≡ t → one_if t ≤ one_if s
    by true t was now = within t
      where
        within : (t : Bool) → one_if t ≤ 1
        within true = omega arith
        within false = omega arith
    by false true was now = absurd (stays (eqb-false (state_in old) free was) (eqb-true (state_in new) free now))
    by false false was now = omega arith

is_one : (head : ℕ) → state_in head ≡ free → one_free head ≡ 1
is_one head is = ap one_if (eq-eqb (state_in head) free is)

is_none : (head : ℕ) → state_in head ≢ free → one_free head ≡ 0
is_none head other = by (state_in head == free) refl
  where
    by : (t : Bool) → (state_in head == free) ≡ t → one_if t ≡ 0
    by true now = absurd (other (eqb-true (state_in head) free now))
    by false now = refl

one_most : (head : ℕ) → one_free head ≤ 1
one_most head = by (state_in head == free)
  where
    by : (t : Bool) → one_if t ≤ 1
    by true = omega arith
    by false = omega arith

module _ (shape : Shape) (words later : Words) where
  -- a slot below this one that was taken is so later
  abbrev StaysBelow : ℕ → Type 0
  StaysBelow n = (s : ℕ) → s < n → state_in (words (header_word shape s)) ≢ free → state_in (later (header_word shape s)) ≢ free

  below_falls : (n : ℕ) → StaysBelow n → free_below shape later n ≤ free_below shape words n
  below_falls zero stays = omega arith
  below_falls (suc n) stays =
      let one = one_falls (words (header_word shape n)) (later (header_word shape n)) (stays n (omega arith)) in
      let rest = below_falls n (λ s low. stays s (omega (arith, low))) in
      omega (arith, one, rest)

  -- and where one was free that is not, there is one less
  below_loses : (n slot : ℕ) → slot < n → state_in (words (header_word shape slot)) ≡ free → state_in (later (header_word shape slot)) ≢ free → StaysBelow n
      → suc (free_below shape later n) ≤ free_below shape words n
  below_loses zero slot low was now stays = absurd (omega (arith, low))
  below_loses (suc n) slot low was now stays = elim (cases_eq slot n) [
    | inl same ↦
        let old = is_one (words (header_word shape n)) (subst (λ s. state_in (words (header_word shape s)) ≡ free) same was) in
        let new = is_none (later (header_word shape n)) (subst (λ s. state_in (later (header_word shape s)) ≢ free) same now) in
        let rest = below_falls n (λ s below. stays s (omega (arith, below))) in
        omega (arith, old, new, rest)
    | inr apart ↦
        let one = one_falls (words (header_word shape n)) (later (header_word shape n)) (stays n (omega arith)) in
        let rest = below_loses n slot (omega (arith, low, apart)) was now (λ s below. stays s (omega (arith, below))) in
        omega (arith, one, rest)
  ]

  -- but for one slot: then one more is free at the most
  abbrev StaysBut : ℕ → ℕ → Type 0
  StaysBut slot n = (s : ℕ) → s < n → s ≢ slot → state_in (words (header_word shape s)) ≢ free → state_in (later (header_word shape s)) ≢ free

  below_rises : (slot n : ℕ) → StaysBut slot n → free_below shape later n ≤ free_below shape words n + 1
  below_rises slot zero stays = omega arith
  below_rises slot (suc n) stays = elim (cases_eq n slot) [
    | inl same ↦
        let one = one_most (later (header_word shape n)) in
        let rest = below_falls n (λ s low. stays s (omega (arith, low)) (λ at. omega (arith, low, same, at))) in
        omega (arith, one, rest)
    | inr apart ↦
        let one = one_falls (words (header_word shape n)) (later (header_word shape n)) (stays n (omega arith) apart) in
        let rest = below_rises slot n (λ s low. stays s (omega (arith, low))) in
        omega (arith, one, rest)
  ]

-- ---- the next event of who sits there
module _ (laws : CallCauses) (freed : FreedByRepairs) (site : Ground) (words : Words) (views : List View) (h : Holds site words views)
    (j : ℕ) (here : Site) (call : Call) (e : Engine) (did : Doings) (seat : IsSeated site words views j here call e did) where
  -- the words behind it
  abbrev later : Words
  later = words_after site.shape (wanted e) j words

  abbrev kind : StepKind
  kind = op_part.kind e.op (finds op_part site words e.op)

  -- it frees none
  abbrev FreesNone : Type 0
  FreesNone = (parent s x : ℕ) → kind ≡ of_structure (moves (frees parent) s x) → ⊥

  -- a slot that was taken and is free behind it was freed by it
  freed_by : (s : ℕ) → s < site.shape.segments → state_in (words (header_word site.shape s)) ≢ free → state_in (later (header_word site.shape s)) ≡ free
      → (parent : ℕ) × (x : ℕ) × (kind ≡ of_structure (moves (frees parent) s x))
  freed_by s within taken now =
      let step = seat_steps laws.part site words views h j here call e did seat in
      let by = freed site words views j seat.view kind j h seat.at step.may s within taken
      (subst (λ (event : Want). state_in (words_after site.shape event j words (header_word site.shape s)) ≡ free) step.wants now) in
      (by.0, by.1, by.2)

  stays_taken : FreesNone → StaysBelow site.shape words later site.shape.segments
  stays_taken none s within taken now = (let by = freed_by s within taken now in none by.0 s by.1 by.2)

  pub seat_falls : FreesNone → free_slots site.shape later ≤ free_slots site.shape words
  seat_falls none = below_falls site.shape words later site.shape.segments (stays_taken none)

  -- where it frees a slot, there is one more at the most
  pub seat_frees : (parent slot x : ℕ) → kind ≡ of_structure (moves (frees parent) slot x) → free_slots site.shape later ≤ free_slots site.shape words + 1
  seat_frees parent slot x is = below_rises site.shape words later slot site.shape.segments
      (λ s within apart taken now. (let by = freed_by s within taken now in apart (same_slot by.0 parent s slot by.1 x (sym by.2 ∙ is))))
    where
      same_slot : (p q s t x y : ℕ) → of_structure (moves (frees p) s x) ≡ of_structure (moves (frees q) t y) → s ≡ t
      same_slot p q s t x y same = cc

  -- where it makes a side new, there is one slot less
  pub seat_takes : NewSlotsWereFree → (parent slot head : ℕ) → kind ≡ of_structure (moves (news parent) slot head) → suc (free_slots site.shape later) ≤ free_slots site.shape words
  seat_takes new parent slot head is =
      let step = seat_steps laws.part site words views h j here call e did seat in
      let may : MayTake site (of_structure (moves (news parent) slot head)) seat.view = subst (λ k. MayTake site k seat.view) is step.may in
      let was = new site words views j seat.view parent slot head h seat.at may in
      below_loses site.shape words later site.shape.segments slot was.0 was.1
      (subst (λ (event : Want). state_in (words_after site.shape event j words (header_word site.shape slot)) ≢ free) (sym (step.wants ∙ ap (wanted_of site.shape) is)) (stored head was.2))
      (stays_taken (λ p s x other. news_alone parent p slot s head x (sym is ∙ other)))
    where
      news_alone : (q p s t y x : ℕ) → of_structure (moves (news q) s y) ≡ of_structure (moves (frees p) t x) → ⊥
      news_alone q p s t y x same = cc

      stored : (x : ℕ) → state_in x ≢ free → state_in (words_after site.shape (wanted_of site.shape (of_structure (moves (news parent) slot x))) j words (header_word site.shape slot)) ≢ free
      stored x some = subst (λ (t : Bool). state_in (if t then x else words (header_word site.shape slot)) ≢ free) (sym (eq-eqb (header_word site.shape slot) (header_word site.shape slot) refl)) some
