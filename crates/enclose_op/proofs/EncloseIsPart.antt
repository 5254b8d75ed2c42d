-- The enclosing of a segment is a part of a call.
use Rattle.std.proofs.Common.{◌≡◌, ◌≢◌, ℕ, ◌+◌, ◌-◌, ◌*◌, ◌%◌, ◌^◌, ◌<◌, ◌≤◌, Bool, true, false, Option, None, Some, List, [], inl, refl, sym, ap, subst, arith}
use Rattle.std.specs.Prelude.{◌==◌, nat_lt, if◌then◌else◌}
use Rattle.std.proofs.lemmas.Bool.{ltb-true}
use Rattle.std.proofs.lemmas.List.{length-replicate}
use Rattle.op_core.specs.declared.want.Want.TheVariants as want
use Rattle.op_core.specs.declared.want.Ans.{Ans}
use Rattle.op_core.specs.declared.want.Ans.TheVariants.{Value, Won, Lost}
use Rattle.op_core.specs.Answers.{IsAnswer}
use Rattle.hash_word.specs.Hash.{home_of}
use Rattle.segment_head.specs.HeadWord.{depth_in}
use Rattle.image_layout.specs.Places.{Shape, buckets, first_segment, last_of_buckets}
use Rattle.image_layout.specs.Volatile.{counter_word, all_words_of}
use Rattle.sound_image.specs.Records.{key_hash}
use Rattle.sound_image.proofs.Hashes.{key_hash-fits}
use Rattle.way.specs.Ways.{head_word, bucket_word}
use Rattle.whole_segment.specs.Room.{has_no_room}
use Rattle.whole_segment.proofs.Zeros.{zeros_small}
use Rattle.map_model.specs.declared.call.Call.{Call}
use Rattle.map_model.specs.declared.entry.Reply.{Reply}
use Rattle.map_model.specs.declared.entry.Reply.TheVariants.{Deep, Spent}
use Rattle.map_model.specs.Map.{is_done}
use Rattle.map_model.specs.Changes.{call_of}
use Rattle.world.specs.declared.site.Site.{Site}
use Rattle.world.specs.Facts.{Fact}
use Rattle.world.specs.Ground.{Ground, IsGround}
use Rattle.world.specs.Views.{View, Has}
use Rattle.world.specs.Wants.{answer_to, word_of}
use Rattle.world.specs.Kinds.{cuts_power, with_reply, next_entry}
use Rattle.world.specs.Attempts.{HoldsOnly, HasNoMore, EntersReply}
use Rattle.world.specs.areas.Kinds.{with_guard, of_segment}
use Rattle.world.specs.areas.Bridging.{HasNoWhole}
use Rattle.world.specs.StepKinds.{of_call, view_by}
use Rattle.world.specs.StepLaws.{IsPublishingStep}
use Rattle.world.proofs.calls.deeds.Calls.{has_no_whole}
use Rattle.world.proofs.mild.Bridging.{callers_know}
use Rattle.part.specs.Outcomes.{Outcome, reply_of}
use Rattle.part.specs.Part.{LeavesKnown, IsPart, EndsAsTold}
use Rattle.part.specs.Asks.{IsWithin, PutsWord}
use Rattle.phase.specs.declared.take.Take.{Take}
use Rattle.phase.specs.declared.take.Take.TheVariants.{Look, Try}
use Rattle.phase.specs.declared.take.Taken.{Taken}
use Rattle.phase.specs.declared.take.Taken.TheVariants as taken
use Rattle.phase.specs.Takes.{take_wanted, take_taken}
use Rattle.phase.specs.Taking.{take_kind, take_left, taken_left}
use Rattle.phase.specs.Giving.{IsLocated}
use Rattle.phase.proofs.locks.Taking.{take_falls}
use Rattle.phase.proofs.Handing.{one_more, none_more, same_more}
use Rattle.phase.proofs.Wanting.{takes, plain_take, take_own, take_seen}
use Rattle.enclose_op.specs.declared.enclosed.Enclosed.{Enclosed}
use Rattle.enclose_op.specs.declared.give.Give.{Give as Giving}
use Rattle.enclose_op.specs.declared.op.NotEnclosed.{NotEnclosed}
use Rattle.enclose_op.specs.declared.op.NotEnclosed.TheVariants.{Replied, Again, Room}
use Rattle.enclose_op.specs.declared.op.EncloseStep.{EncloseStep}
use Rattle.enclose_op.specs.declared.op.EncloseStep.TheVariants.{Guard, Lock, Head, Fill, CountSpent, CountDeep, Give, Ended, Whole}
use Rattle.enclose_op.specs.Whole.{kept_first, IsOf, KeepsWhole}
use Rattle.enclose_op.specs.Giving.{guard_of, lock_of, given}
use Rattle.enclose_op.specs.Steps.{giving as backing, given_by, locked_to, is_followed, word_after, decided, with_word, end_at, is_whole, wanted_in, next_in, wanted}
use Rattle.enclose_op.specs.Fits.{kind_at, give_left, outcome_of, outcome_at, left_at, SuitsStep}
use Rattle.enclose_op.specs.EnclosePart.{enclose_part, BeginsAsPart, BeginsUndecided, HandsOnWhole}
use Rattle.enclose_op.proofs.Places.{bucket_is, head_is}
use Rattle.enclose_op.proofs.Held.{no_whole}
use Rattle.enclose_op.specs.GiveLaws.{left_of}
use Rattle.enclose_op.specs.Ends.{outcome_told}
use Rattle.enclose_op.proofs.Backing.{give_falls, give_few, give_most}
use Rattle.enclose_op.proofs.Giving.{give_some, give_answer, give_answered, give_flushes, give_puts, give_makes, give_power, give_own, give_seen, give_plan, give_whole, guard_low, lock_low, give_in}
use Rattle.enclose_op.proofs.Stepping.{wants, may, stands}

-- ---- which replies are entered
-- none in a step before all is given back
abbrev IsSilent : EncloseStep → Type 0
IsSilent s = reply_of (outcome_at s) ≡ None

silent_next : (b : ℕ) (t : Bool) → IsSilent (if t then Lock (b + 1) Look else Head)
silent_next b true = refl
silent_next b false = refl

silent_lock : (e : Enclosed) (b : ℕ) (t : Taken) → IsSilent (locked_to e b t).step
silent_lock e b (taken.On take) = refl
silent_lock e b (taken.Held free) = silent_next b (nat_lt b 65)
silent_lock e b (taken.Busy seen) = refl
silent_lock e b (taken.Moved first later) = refl
silent_lock e b taken.Spent = refl

silent_head : (t : Bool) → IsSilent (if t then Fill 1 else backing buckets Room)
silent_head true = refl
silent_head false = refl

silent_decided : (room deep : Bool) → IsSilent (if room then (if deep then CountDeep else Whole) else backing buckets Room)
silent_decided true true = refl
silent_decided true false = refl
silent_decided false deep = refl

silent_fill : (e : Enclosed) (at : ℕ) (t : Bool) → IsSilent (if t then Fill (word_after at) else decided e)
silent_fill e at true = refl
silent_fill e at false = silent_decided (has_no_room (kept_first e) (home_of e.hash)) (depth_in e.head == e.site.geometry.depth)

pub same_outcome : (more : Option Giving) (end : NotEnclosed) → outcome_at (given_by more end) ≡ Some (outcome_of end)
same_outcome (Some more) end = refl
same_outcome None end = refl

guard_silent : (e : Enclosed) (t : Bool) (n : ℕ) → IsSilent (next_in e Guard (if t then Won else Lost n)).step
guard_silent e true n = refl
guard_silent e false n = refl

guard_own : (e : Enclosed) (t : Bool) (v : View) → (with_guard t (of_segment e.segment) v).own ≡ v.own
guard_own e true v = refl
guard_own e false v = refl

guard_seen : (e : Enclosed) (t : Bool) (v : View) → (with_guard t (of_segment e.segment) v).seen ≡ v.seen
guard_seen e true v = refl
guard_seen e false v = refl

module _ (site : Ground) (here : Site) (call : Call) (e : Enclosed) (is : IsOf site here call e) (before v : View) where
  abbrev Enters : EncloseStep → View → Type 0
  Enters s u = EntersReply call (reply_of (outcome_at s)) before u

  abbrev next_view : EncloseStep → ℕ → View
  next_view s n = view_by site.shape (kind_at e s) n v

  one : (reply : Reply) (n : ℕ) → is_done reply ≡ false → HasNoMore before v → EntersReply call (Some (reply, n)) before (with_reply v (next_entry v (call_of e.change) reply n false))
  one reply n plain same =
      subst (λ (c : Call). EntersReply call (Some (reply, n)) before (with_reply v (next_entry v c reply n false))) (sym is.same) (one_more call before v reply n plain same)

  enters : (s : EncloseStep) (n : ℕ) → Enters s v → wanted_in e s ≢ want.Done → Enters (next_in e s (answer_to (wanted_in e s) n)).step (next_view s n)
  enters Guard n same asks =
      none_more call before v (reply_of (outcome_at (next_in e Guard (answer_to (wanted_in e Guard) n)).step)) (next_view Guard n) (guard_silent e (n == 0) n) same (guard_own e (n == 0) v) (guard_seen e (n == 0) v)
  enters (Lock b take) n same asks =
      let t : Taken = take_taken take (answer_to (take_wanted (lock_of e b) take) n) in
      none_more call before v (reply_of (outcome_at (locked_to e b t).step)) (next_view (Lock b take) n) (silent_lock e b t) same
      (take_own site.shape (lock_of e b) take n v) (take_seen site.shape (lock_of e b) take n v)
  enters Head n same asks =
      none_more call before v (reply_of (outcome_at (next_in e Head (Value n)).step)) (next_view Head n) (silent_head (is_followed e n)) same refl refl
  enters (Fill at) n same asks =
      none_more call before v (reply_of (outcome_at (next_in e (Fill at) (Value n)).step)) (next_view (Fill at) n) (silent_fill (with_word e at n) at (nat_lt at last_of_buckets)) same refl refl
  enters (CountSpent b) n same asks = one Spent n refl same
  enters CountDeep n same asks = one Deep n refl same
  enters (Give give end) n same asks =
      let u : View = next_view (Give give end) n in
      subst (λ (a : Ans). Enters (next_in e (Give give end) a).step u) (sym (give_answer e give n))
      (subst (λ (o : Option Outcome). EntersReply call (reply_of o) before u) (sym (same_outcome (given give) end))
      (same_more call before v (reply_of (Some (outcome_of end))) u same (give_own site.shape e give n v) (give_seen site.shape e give n v)))
  enters (Ended end) n same asks = absurd (asks refl)
  enters Whole n same asks = absurd (asks refl)

-- ---- no step makes a change, or cuts the power
makes_none : (e : Enclosed) (s : EncloseStep) → IsPublishingStep (kind_at e s) → ⊥
makes_none e Guard p = p
makes_none e (Lock b take) p = plain_take (lock_of e b) take p
makes_none e Head p = p
makes_none e (Fill at) p = p
makes_none e (CountSpent b) p = p
makes_none e CountDeep p = p
makes_none e (Give give end) p = give_makes e give p
makes_none e (Ended end) p = p
makes_none e Whole p = p

take_power : (lock : ℕ) (take : Take) → of_call (take_kind lock take) ≢ of_call cuts_power
take_power lock Look same = absurd (cc)
take_power lock (Try free) same = absurd (cc)

power_at : (e : Enclosed) (s : EncloseStep) → kind_at e s ≢ of_call cuts_power
power_at e Guard same = absurd (cc)
power_at e (Lock b take) same = take_power (lock_of e b) take same
power_at e Head same = absurd (cc)
power_at e (Fill at) same = absurd (cc)
power_at e (CountSpent b) same = absurd (cc)
power_at e CountDeep same = absurd (cc)
power_at e (Give give end) same = give_power e give same
power_at e (Ended end) same = absurd (cc)
power_at e Whole same = absurd (cc)

-- ---- fewer events are left
next_left : (b left : ℕ) → 0 < left → (t : Bool) → nat_lt b 65 ≡ t → left_at (if t then Lock (b + 1) Look else Head) < 2180 + 2 * (65 - b) + left
next_left b left some true low = let below = ltb-true b 65 low in omega (arith, below, some)
next_left b left some false high = omega (arith, some)

lock_left : (e : Enclosed) (b left : ℕ) (t : Taken) → taken_left t < left → left_at (locked_to e b t).step < 2180 + 2 * (65 - b) + left
lock_left e b left (taken.On take) fewer = omega (arith, fewer)
lock_left e b left (taken.Held free) fewer = next_left b left fewer (nat_lt b 65) refl
lock_left e b left (taken.Busy seen) fewer = let few = give_few 0 b in omega (arith, few)
lock_left e b left (taken.Moved first later) fewer = let few = give_few 0 b in omega (arith, few)
lock_left e b left taken.Spent fewer = omega arith

head_left : (t : Bool) → left_at (if t then Fill 1 else backing buckets Room) < 2180
head_left true = omega arith
head_left false = let few = give_few 0 buckets in omega (arith, few)

decided_left : (room deep : Bool) → left_at (if room then (if deep then CountDeep else Whole) else backing buckets Room) < 69
decided_left true true = omega arith
decided_left true false = omega arith
decided_left false deep = let few = give_few 0 buckets in omega (arith, few)

after_left : (at : ℕ) → at < last_of_buckets → (t : Bool) → 69 + (last_of_buckets - (if t then at + 2 else at + 1)) < 69 + (last_of_buckets - at)
after_left at low true = omega (arith, low)
after_left at low false = omega (arith, low)

fill_left : (e : Enclosed) (at : ℕ) (t : Bool) → nat_lt at last_of_buckets ≡ t → left_at (if t then Fill (word_after at) else decided e) < 69 + (last_of_buckets - at)
fill_left e at true low = after_left at (ltb-true at last_of_buckets low) ((at + 1) % 32 == 0)
fill_left e at false high =
    let low = decided_left (has_no_room (kept_first e) (home_of e.hash)) (depth_in e.head == e.site.geometry.depth) in
    omega (arith, low)

given_left : (more : Option Giving) (end : NotEnclosed) (n : ℕ) → left_of more < n → left_at (given_by more end) < n
given_left (Some more) end n fewer = fewer
given_left None end n fewer = fewer

falls_at : (e : Enclosed) (s : EncloseStep) (a : Ans) → IsAnswer (wanted_in e s) a → left_at (next_in e s a).step < left_at s
falls_at e Guard Won i = omega arith
falls_at e Guard (Lost n) i = omega arith
falls_at e Guard a i = absurd i
falls_at e (Lock b take) a i = lock_left e b (take_left take) (take_taken take a) (take_falls (lock_of e b) take a i)
falls_at e Head (Value n) i = head_left (is_followed e n)
falls_at e Head a i = absurd i
falls_at e (Fill at) (Value n) i = fill_left (with_word e at n) at (nat_lt at last_of_buckets) refl
falls_at e (Fill at) a i = absurd i
falls_at e (CountSpent b) (Value n) i = let few = give_few 0 b in omega (arith, few)
falls_at e (CountSpent b) a i = absurd i
falls_at e CountDeep (Value n) i = let few = give_few 0 buckets in omega (arith, few)
falls_at e CountDeep a i = absurd i
falls_at e (Give give end) a i =
    subst (λ (x : Ans). left_at (next_in e (Give give end) x).step < give_left give) (sym (give_answered e give a i)) (given_left (given give) end (give_left give) (give_falls give))
falls_at e (Ended end) a i = absurd i
falls_at e Whole a i = absurd i

take_most : (take : Take) → take_left take ≤ 2
take_most Look = omega arith
take_most (Try free) = omega arith

most_at : (s : EncloseStep) → left_at s ≤ 2313
most_at Guard = omega arith
most_at (Lock b take) = let most = take_most take in omega (arith, most)
most_at Head = omega arith
most_at (Fill at) = omega arith
most_at (CountSpent b) = omega arith
most_at CountDeep = omega arith
most_at (Give give end) = let most = give_most give in omega (arith, most)
most_at (Ended end) = omega arith
most_at Whole = omega arith

-- ---- what it asks
module _ (site : Ground) (good : IsGround site) (here : Site) (call : Call) (e : Enclosed) (is : IsOf site here call e) where
  abbrev l : IsLocated site e.site e.segment
  l = is.located

  counter_in : IsWithin site.shape (want.Load (counter_word e.site.geometry))
  counter_in = subst (λ (g : Shape). IsWithin site.shape (want.Load (counter_word g))) (sym l.shape) (record { word = omega arith; line = λ n e. absurd (cc) })

  take_in : (b : ℕ) (take : Take) → b < buckets → IsWithin site.shape (take_wanted (lock_of e b) take)
  take_in b Look near = record { word = lock_low site e l b near; line = λ n e. absurd (cc) }
  take_in b (Try free) near = record { word = lock_low site e l b near; line = λ n e. absurd (cc) }

  slot_low : (f s n w : ℕ) → s < n → w < 2144 → f + 2144 * s + w < f + 2144 * n + 4 + n
  slot_low f s n w within low = omega (arith, within, low)

  fill_low : (f s n at : ℕ) → s < n → at < 2112 → f + 2144 * s + 32 + 32 * 0 + at < f + 2144 * n + 4 + n
  fill_low f s n at within low = omega (arith, within, low)

  none_in : IsWithin site.shape want.Done
  none_in = record { word = (let some = good.shape.some in omega (arith, some)); line = λ n e. absurd (cc) }

  within_at : (s : EncloseStep) (v : View) → SuitsStep site here call e s v → IsWithin site.shape (wanted_in e s)
  within_at Guard v s = record { word = guard_low site e l; line = λ n e. absurd (cc) }
  within_at (Lock b take) v s = take_in b take s.1
  within_at Head v s = record {
    word = subst (λ (n : ℕ). n < all_words_of site.shape) (sym (head_is site e l)) (slot_low (first_segment site.shape) e.segment site.shape.segments 1 l.within (omega arith));
    line = λ n e. absurd (cc);
  }
  within_at (Fill at) v s = record {
    word = subst (λ (n : ℕ). n + at < all_words_of site.shape) (sym (bucket_is site e l 0)) (fill_low (first_segment site.shape) e.segment site.shape.segments at l.within s.1.last);
    line = λ n e. absurd (cc);
  }
  within_at (CountSpent b) v s = counter_in
  within_at CountDeep v s = counter_in
  within_at (Give give end) v s = give_in site e l give v s
  within_at (Ended end) v s = none_in
  within_at Whole v s = none_in

-- ---- what it puts into the memory
module _ (site : Ground) (here : Site) (call : Call) (e : Enclosed) (is : IsOf site here call e) where
  take_puts : (b : ℕ) (take : Take) → PutsWord (take_wanted (lock_of e b) take)
  take_puts b Look = record { stores = λ i x e. absurd (cc); exchanges = λ i a b e. absurd (cc) }
  take_puts b (Try free) = record { stores = λ i x e. absurd (cc); exchanges = λ i a b same. (let is : (free + 1) % 2 ^ 64 ≡ b = cc in omega (arith, is)) }

  puts_at : (s : EncloseStep) → PutsWord (wanted_in e s)
  puts_at Guard = record { stores = λ i x e. absurd (cc); exchanges = λ i a b same. (let is_caller : e.site.caller ≡ b = cc in let low = is.caller in omega (arith, is_caller, low)) }
  puts_at (Lock b take) = take_puts b take
  puts_at (Give give end) = give_puts e give
  puts_at s = record { stores = λ i x e. absurd (cc); exchanges = λ i a b e. absurd (cc) }

take_flushes : (lock : ℕ) (take : Take) (l : ℕ) → take_wanted lock take ≡ want.Flush l → ⊥
take_flushes lock Look l same = absurd (cc)
take_flushes lock (Try free) l same = absurd (cc)

flushes_none : (e : Enclosed) (s : EncloseStep) (l : ℕ) → wanted_in e s ≡ want.Flush l → ⊥
flushes_none e Guard l same = absurd (cc)
flushes_none e (Lock b take) l same = take_flushes (lock_of e b) take l same
flushes_none e Head l same = absurd (cc)
flushes_none e (Fill at) l same = absurd (cc)
flushes_none e (CountSpent b) l same = absurd (cc)
flushes_none e CountDeep l same = absurd (cc)
flushes_none e (Give give end) l same = give_flushes e give l same
flushes_none e (Ended end) l same = absurd (cc)
flushes_none e Whole l same = absurd (cc)

-- ---- nothing is planned, no segment is whole, and nothing is held at the end but what is handed on
no_plan : (site : Ground) (here : Site) (call : Call) (e : Enclosed) (s : EncloseStep) (v : View) → SuitsStep site here call e s v → v.planned ≡ []
no_plan site here call e Guard v s = s.0.planned
no_plan site here call e (Lock b take) v s = s.0.part.quiet.planned
no_plan site here call e Head v s = s.0.part.quiet.planned
no_plan site here call e (Fill at) v s = s.0.taking.part.quiet.planned
no_plan site here call e (CountSpent b) v s = s.0.quiet.planned
no_plan site here call e CountDeep v s = s.0.headed.taking.part.quiet.planned
no_plan site here call e (Give give end) v s = give_plan site e give v s
no_plan site here call e (Ended end) v s = s.planned
no_plan site here call e Whole v s = s.quiet.planned

none_whole : (site : Ground) (here : Site) (call : Call) (e : Enclosed) (s : EncloseStep) (v : View) → SuitsStep site here call e s v → HasNoWhole v
none_whole site here call e Guard v s = has_no_whole v s.0.areas
none_whole site here call e (Lock b take) v s = no_whole e v s.0.part.areas
none_whole site here call e Head v s = no_whole e v s.0.part.areas
none_whole site here call e (Fill at) v s = no_whole e v s.0.taking.part.areas
none_whole site here call e (CountSpent b) v s = no_whole e v s.0.areas
none_whole site here call e CountDeep v s = no_whole e v s.0.headed.taking.part.areas
none_whole site here call e (Give give end) v s = give_whole site e give v s
none_whole site here call e (Ended end) v s = has_no_whole v s.areas
none_whole site here call e Whole v s = no_whole e v s.areas

bare_at : (site : Ground) (here : Site) (call : Call) (e : Enclosed) (s : EncloseStep) (v : View) → SuitsStep site here call e s v → wanted_in e s ≡ want.Done → is_whole s ≡ false → HoldsOnly [] v
bare_at site here call e Guard v s done closed = absurd (let z : want.Exchange (guard_of e) 0 e.site.caller ≡ want.Done = done in cc)
bare_at site here call e (Lock b take) v s done closed = absurd (takes (lock_of e b) take done)
bare_at site here call e Head v s done closed = absurd (let z : want.Load (head_word e.site.geometry e.segment) ≡ want.Done = done in cc)
bare_at site here call e (Fill at) v s done closed = absurd (let z : want.Load (bucket_word e.site.geometry e.segment 0 + at) ≡ want.Done = done in cc)
bare_at site here call e (CountSpent b) v s done closed = absurd (let z : want.Load (counter_word e.site.geometry) ≡ want.Done = done in cc)
bare_at site here call e CountDeep v s done closed = absurd (let z : want.Load (counter_word e.site.geometry) ≡ want.Done = done in cc)
bare_at site here call e (Give give end) v s done closed = absurd (give_some e give done)
bare_at site here call e (Ended end) v s done closed = s
bare_at site here call e Whole v s done closed = absurd (let z : true ≡ false = closed in cc)

hands_at : (e : Enclosed) (s : EncloseStep) → is_whole s ≡ true → wanted_in e s ≡ want.Done
hands_at e Whole hands = refl
hands_at e s hands = absurd (cc)

whole_at : (site : Ground) (here : Site) (call : Call) (e : Enclosed) (s : EncloseStep) (v : View) → SuitsStep site here call e s v → is_whole s ≡ true → KeepsWhole site here call e v
whole_at site here call e Whole v s hands = s
whole_at site here call e s v suits hands = absurd (cc)

-- AN ENCLOSING IS A PART of a call
-- it never ends since a segment is stale
known_end : (site : Ground) (end : NotEnclosed) (facts : List Fact) → LeavesKnown site (Some (outcome_of end)) facts
known_end site (Replied reply place) facts = tt
known_end site (Again why) facts = tt
known_end site Room facts = tt

known_at : (site : Ground) (s : EncloseStep) (facts : List Fact) → LeavesKnown site (outcome_at s) facts
known_at site (Give give end) facts = known_end site end facts
known_at site (Ended end) facts = known_end site end facts
known_at site s facts = tt

pub enclose_is_part : IsPart enclose_part
enclose_is_part = record {
  steps = λ site here call words views j op before v h at s asks.
      let n : ℕ = words (word_of site.shape (wanted op)) in
      let is = s.stands.is in
      let new = callers_know.newest site words views j v h at (none_whole site here call op.enclosed op.step v s.stands.view) in
      record {
        wants = wants site here call op.enclosed is v op.step s.stands.view asks;
        may = may site here call op.enclosed is v op.step s.stands.view;
        stands = λ small. stands site here call op.enclosed is v op.step n s.stands.view asks small words refl new;
        enters = λ small. enters site here call op.enclosed is before v op.step n s.enters asks;
        makes = λ p. absurd (makes_none op.enclosed op.step p);
      };
  ends = λ site here call op v s done closed on. bare_at site here call op.enclosed op.step v s.view done closed;
  time = record { falls = λ op a i. inl (falls_at op.enclosed op.step a i); most = λ op. most_at op.step };
  within = λ site here call op before v good s. within_at site good here call op.enclosed s.stands.is op.step v s.stands.view;
  words = λ site here call op before v s. puts_at site here call op.enclosed s.stands.is op.step;
  flushes = record {
    most = λ op. omega arith;
    flushes = λ op a l i f. absurd (flushes_none op.enclosed op.step l f);
    keeps = λ op a i f. omega arith;
    ends = λ op done. refl;
  };
  made = record { stays = λ op a i made. absurd made; done = λ op made done. absurd made };
  plans = λ site here call op before v planned s has. absurd (subst (λ (l : List Call). Has planned l) (no_plan site here call op.enclosed op.step v s.stands.view) has);
  relies = λ site here call op v s. known_at site op.step v.facts;
  hands = λ op hands. hands_at op.enclosed op.step hands;
  power = λ op n. power_at op.enclosed op.step;
}

-- ---- where it begins
pub begins_as_part : BeginsAsPart
begins_as_part site here change segment v shape version numbered caller insert small nothing there = record {
  is = record {
    at = refl;
    same = refl;
    insert = insert;
    located = record { shape = shape; within = there.within };
    hashed = ap (λ (g : Shape). key_hash g change.key) shape;
    fits = key_hash-fits here.geometry change.key small;
    version = version;
    numbered = numbered;
    caller = caller;
    each_lock = length-replicate {A = ℕ} 66 0;
    each_word = length-replicate {A = ℕ} 2112 0;
  };
  view = (nothing, there, zeros_small 2112);
}

pub begins_undecided : BeginsUndecided
begins_undecided here change segment = refl

-- ---- where it hands on
pub hands_on_whole : HandsOnWhole
hands_on_whole site here call op v s hands = whole_at site here call op.enclosed op.step v s.view hands

-- ---- what it tells at its end
ends_at : (e : Enclosed) (s : EncloseStep) → wanted_in e s ≡ want.Done → outcome_at s ≡ outcome_told (end_at s)
ends_at e Guard done = absurd (let z : want.Exchange (guard_of e) 0 e.site.caller ≡ want.Done = done in cc)
ends_at e (Lock b take) done = absurd (takes (lock_of e b) take done)
ends_at e Head done = absurd (let z : want.Load (head_word e.site.geometry e.segment) ≡ want.Done = done in cc)
ends_at e (Fill at) done = absurd (let z : want.Load (bucket_word e.site.geometry e.segment 0 + at) ≡ want.Done = done in cc)
ends_at e (CountSpent b) done = absurd (let z : want.Load (counter_word e.site.geometry) ≡ want.Done = done in cc)
ends_at e CountDeep done = absurd (let z : want.Load (counter_word e.site.geometry) ≡ want.Done = done in cc)
ends_at e (Give give end) done = absurd (give_some e give done)
ends_at e (Ended end) done = refl
ends_at e Whole done = refl

pub ends_as_told : EndsAsTold enclose_part (λ op. outcome_told (end_at op.step))
ends_as_told op done = ends_at op.enclosed op.step done
