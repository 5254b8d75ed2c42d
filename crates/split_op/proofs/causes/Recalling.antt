-- What a split remembers it remembers after its next event, with what that did: the guard of free slots, then header after header.
use Rattle.std.proofs.Common.{◌≡◌, ◌≢◌, ℕ, ◌+◌, ◌-◌, ◌<◌, ◌≤◌, Bool, true, false, Option, Some, None, ◌∷◌, inl, inr, refl, sym, ap, ◌∙◌, subst, arith}
use Rattle.std.specs.Prelude.{nat_lt, ◌==◌, if◌then◌else◌}
use Rattle.std.proofs.lemmas.Bool.{cases_eq, eqb-false, ltb-false}
use Rattle.op_core.specs.declared.want.Want.{Want}
use Rattle.op_core.specs.declared.want.Want.TheVariants as want
use Rattle.op_core.specs.declared.want.Ans.{Ans}
use Rattle.op_core.specs.declared.want.Ans.TheVariants.{Won, Lost, Passed}
use Rattle.segment_head.specs.HeadWord.{state_in, free}
use Rattle.image_layout.specs.Places.{Shape, buckets}
use Rattle.image_layout.specs.Volatile.{allocation_guard}
use Rattle.map_model.specs.declared.call.Call.{Call}
use Rattle.world.specs.declared.site.Site.{Site}
use Rattle.world.specs.Ground.{Ground, IsGround}
use Rattle.world.specs.Views.{View, Has}
use Rattle.world.specs.Wants.{answer_to}
use Rattle.world.specs.areas.Areas.{header_word}
use Rattle.part.specs.Doings.{Doings, with_event_of}
use Rattle.rounds.specs.declared.rounds.Rounds.{Rounds}
use Rattle.rounds.specs.Steps as round
use Rattle.enclose_op.specs.declared.enclosed.Enclosed.{Enclosed}
use Rattle.enclose_op.specs.declared.give.Give.{Give}
use Rattle.enclose_op.specs.Giving.{given}
use Rattle.enclose_op.specs.Whole.{IsOf, RemembersEnclosing, RemembersWhole}
use Rattle.split_op.specs.declared.batch.Batch.{Batch}
use Rattle.split_op.specs.declared.batch.Batch.TheVariants.{Empty, Link, Mark, New, Copy}
use Rattle.split_op.specs.declared.step.SplitEnd.{SplitEnd}
use Rattle.split_op.specs.declared.step.SplitStep.{SplitStep}
use Rattle.split_op.specs.declared.step.SplitStep.TheVariants.{Take, Search, Count, Return, Look, Put, Release, Back, Ended}
use Rattle.split_op.specs.declared.op.SplitOp.{SplitOp}
use Rattle.way.specs.Ways.{slot_word}
use Rattle.split_op.specs.Steps.{go, last_slot, finished, put_by, given_to, wanted_in, next_in}
use Rattle.split_op.specs.Fits.{SuitsStep}
use Rattle.split_op.specs.Remembers.{RemembersSearch, RemembersAt}
use Rattle.split_op.specs.SplitPart.{BeginsRemembering}
use Rattle.split_op.proofs.Places.{slot_is, all_slots}

-- THE NEXT STATE remembers
abbrev Recalls : Ground → SplitOp → Doings → Type 0
Recalls site op did = RemembersAt site op.copied did op.step

-- what enclosed the segment stays so where more is done
enclosing_still : (site : Ground) (e : Enclosed) (did more : Doings) → ((word : ℕ) → Has word did.changed → Has word more.changed) → ((p : ℕ × ℕ) → Has p did.loads → Has p more.loads)
    → RemembersEnclosing site e did → RemembersEnclosing site e more
enclosing_still site e did more changed loads r = record {
  taken = record {
    guard = changed _ r.taken.guard;
    locks = λ b low. changed _ (r.taken.locks b low);
    free = λ b low. loads _ (r.taken.free b low);
  };
  header = loads _ r.header;
  words = λ b n near from low. loads _ (r.words b n near from low);
}

-- ---- where nothing has to be remembered
module _ (site : Ground) (op : SplitOp) (did : Doings) where
  finished_recalls : (batch : Batch) → RemembersAt site op.copied did (finished batch)
  finished_recalls (Empty k) = tt
  finished_recalls (Link stored) = tt
  finished_recalls (Mark stored) = tt
  finished_recalls (New stored) = tt
  finished_recalls (Copy k) = tt

  put_recalls : (some : Option Want) (batch : Batch) (rounds : Rounds) → RemembersAt site op.copied did (put_by some batch rounds)
  put_recalls (Some w) batch rounds = tt
  put_recalls None batch rounds = finished_recalls batch

  put_next : (batch : Batch) (rounds : Rounds) (a : Ans) → Recalls site (next_in op (Put batch rounds) a) did
  put_next batch rounds Passed = put_recalls _ _ _
  put_next batch rounds a = tt

  given_recalls : (more : Option Give) (end : SplitEnd) → RemembersAt site op.copied did (given_to more end)
  given_recalls (Some more) end = tt
  given_recalls None end = tt

  back_next : (give : Give) (end : SplitEnd) (a : Ans) → Recalls site (next_in op (Back give end) a) did
  back_next give end Passed = given_recalls (given give) end
  back_next give end a = tt

  look_next : (b n : ℕ) (t : Bool) → RemembersAt site op.copied did (if t then Look (b + 1) else Put (Empty 2) round.begun)
  look_next b n true = tt
  look_next b n false = tt

module _ (site : Ground) (ground : IsGround site) (here : Site) (call : Call) (op : SplitOp) (is : IsOf site here call op.copied.whole) (did : Doings) where
  abbrev e : Enclosed
  e = op.copied.whole

  abbrev g : e.site.geometry ≡ site.shape
  g = is.located.shape

  -- ---- the guard of free slots
  abbrev guarding : Want
  guarding = want.Exchange (allocation_guard e.site.geometry) 0 e.site.caller

  take_by : (n : ℕ) → RemembersWhole site e did → (t : Bool) → Recalls site (next_in op Take (if t then Won else Lost n)) (with_event_of guarding (if t then Won else Lost n) did)
  take_by n r true = record {
    enclosing = enclosing_still site e did (with_event_of guarding Won did) (λ word has. inr has) (λ p has. has) r.enclosing;
    guard = inl (sym (ap allocation_guard g));
    none_free = λ slot low. absurd (omega (arith, low));
  }
  take_by n r false = tt

  -- ---- a header
  module _ (slot n : ℕ) (low : slot < site.shape.segments) (r : RemembersSearch site op.copied did slot) where
    abbrev loaded : Doings
    loaded = record { loads = (slot_word e.site.geometry slot 1, n) ∷ did.loads; changed = did.changed }

    more : (to : ℕ) → to ≤ slot + 1 → state_in n ≢ free → RemembersSearch site op.copied loaded to
    more to most taken = record {
      enclosing = enclosing_still site e did loaded (λ word has. has) (λ p has. inr has) r.enclosing;
      guard = r.guard;
      none_free = λ other below. elim (cases_eq other slot) [
        | inl same ↦ (n, inl (ap (λ (z : ℕ). (z, n)) (ap (header_word site.shape) same ∙ sym (slot_is e.site.geometry site.shape g slot 1 low))), taken)
        | inr apart ↦ (let was = r.none_free other (omega (arith, below, most, apart)) in (was.0, inr was.1, was.2))
      ];
    }

    past : state_in n ≢ free → (t : Bool) → nat_lt slot (last_slot e.site.geometry) ≡ t → Recalls site (if t then go op (Search (slot + 1)) else go op Count) loaded
    past taken true is_before = more (slot + 1) (omega arith) taken
    past taken false is_last =
        let shape = ap (λ (z : Shape). z.segments) g in
        let few = ground.shape.segments in
        more site.shape.segments (subst (λ (z : ℕ). z ≤ slot + 1) shape (all_slots e.site.geometry.segments slot (omega (arith, shape, few)) (ltb-false slot (last_slot e.site.geometry) is_last))) taken

    search_by : (t : Bool) → (state_in n == free) ≡ t
        → Recalls site (if t then record op { copied = record op.copied { side = slot }; step = Look 0 } else if nat_lt slot (last_slot e.site.geometry) then go op (Search (slot + 1)) else go op Count) loaded
    search_by true is_free = tt
    search_by false is_taken = past (eqb-false (state_in n) free is_taken) (nat_lt slot (last_slot e.site.geometry)) refl

  -- ---- EACH STEP
  pub recalls_next : (v : View) (s : SplitStep) (n : ℕ) → SuitsStep site here call op.copied op.locks s v → wanted_in op s ≢ want.Done → RemembersAt site op.copied did s
      → Recalls site (next_in op s (answer_to (wanted_in op s) n)) (with_event_of (wanted_in op s) (answer_to (wanted_in op s) n) did)
  recalls_next v Take n s asks r = take_by n r (n == 0)
  recalls_next v (Search slot) n s asks r = search_by slot n s.1 r (state_in n == free) refl
  recalls_next v Count n s asks r = tt
  recalls_next v (Return count) n s asks r = tt
  recalls_next v (Look b) n s asks r = look_next site op (with_event_of (wanted_in op (Look b)) (answer_to (wanted_in op (Look b)) n) did) b n (nat_lt b (buckets - 1))
  recalls_next v (Put batch rounds) n s asks r = put_next site op _ batch rounds (answer_to (wanted_in op (Put batch rounds)) n)
  recalls_next v Release n s asks r = put_recalls site op _ _ _ _
  recalls_next v (Back give end) n s asks r = back_next site op _ give end (answer_to (wanted_in op (Back give end)) n)
  recalls_next v (Ended end) n s asks r = absurd (asks refl)

-- ---- where it begins
pub begins_remembering : BeginsRemembering
begins_remembering site e words did r = r
