-- Where an enclosing says that there may be room, the newest words of its segment say so too; and none of its events makes room.
use Rattle.std.proofs.Common.{◌≡◌, ◌≢◌, ◌⊎◌, ℕ, ◌+◌, ◌*◌, ◌%◌, ◌^◌, ◌<◌, ◌≤◌, Bool, true, false, None, Some, ◌∷◌, inl, inr, refl, sym, ap, ◌∙◌, subst, arith}
use Rattle.std.specs.Prelude.{◌==◌, nat_lt, if◌then◌else◌}
use Rattle.std.proofs.lemmas.Bool.{eq-eqb, ne_eqb, ltb-false, and_from, both_ways}
use Rattle.std.proofs.lemmas.Option.{none-some, same_Some}
use Rattle.op_core.specs.declared.want.Want.{Want}
use Rattle.op_core.specs.declared.want.Want.TheVariants as want
use Rattle.op_core.specs.declared.want.Ans.TheVariants.{Won, Lost}
use Rattle.op_core.specs.declared.why.Why.TheVariants.{Busy, Moved}
use Rattle.hash_word.specs.Hash.{home_of, probing_of, next_of, previous_of}
use Rattle.bucket_meta.specs.Slots.{IsFull}
use Rattle.segment_head.specs.HeadWord.{version_in, depth_in}
use Rattle.trace.specs.Events.{Words, after}
use Rattle.trace.specs.Events.Event.{loaded, exchanged}
use Rattle.image_layout.specs.Places.{Shape, bucket_at, buckets, homes, first_segment, last_of_buckets}
use Rattle.image_layout.specs.Volatile.{segment_guard}
use Rattle.sound_image.specs.Records.{key_hash}
use Rattle.way.specs.Ways.{head_word, bucket_word, is_leading}
use Rattle.whole_segment.specs.Room.{has_no_room}
use Rattle.whole_segment.proofs.Telling.{tells_room}
use Rattle.map_model.specs.declared.call.Call.{Call}
use Rattle.map_model.specs.declared.entry.Reply.TheVariants.{Deep, Spent}
use Rattle.map_model.specs.Map.{key_of}
use Rattle.world.specs.declared.site.Site.{Site}
use Rattle.world.specs.Ground.{Ground, version_of}
use Rattle.world.specs.Views.{View, Has}
use Rattle.world.specs.Wants.{answer_to, word_of, words_after}
use Rattle.world.specs.areas.Areas.{header_word}
use Rattle.part.specs.Outcomes.{Outcome, replied, again, finished}
use Rattle.part.specs.Room.{NothingMoves, HasNoRoom, meta_now}
use Rattle.phase.specs.declared.take.Take.{Take}
use Rattle.phase.specs.declared.take.Take.TheVariants.{Look, Try}
use Rattle.phase.specs.declared.take.Taken.{Taken}
use Rattle.phase.specs.declared.take.Taken.TheVariants as taken
use Rattle.phase.specs.Takes.{take_wanted, take_taken}
use Rattle.phase.specs.Giving.{IsLocated}
use Rattle.phase.proofs.Handing.{key_called}
use Rattle.enclose_op.specs.declared.enclosed.Enclosed.{Enclosed}
use Rattle.enclose_op.specs.declared.give.Give.{Give as Giving}
use Rattle.enclose_op.specs.declared.give.Give.TheVariants as giving
use Rattle.enclose_op.specs.declared.op.NotEnclosed.TheVariants.{Room}
use Rattle.enclose_op.specs.declared.op.EncloseStep.{EncloseStep}
use Rattle.enclose_op.specs.declared.op.EncloseStep.TheVariants.{Guard, Lock, Head, Fill, CountSpent, CountDeep, Give, Ended, Whole}
use Rattle.enclose_op.specs.Whole.{kept_words, kept_first, IsOf}
use Rattle.enclose_op.specs.Giving.{guard_of, lock_of, give_wanted}
use Rattle.enclose_op.specs.Steps.{giving as backing, locked_to, is_followed, word_after, decided, with_word, wanted_in, next_in}
use Rattle.enclose_op.specs.Fits.{outcome_of, outcome_at, SuitsGive, SuitsStep}
use Rattle.enclose_op.specs.EnclosePart.{FindsRoom, KeepsRoom}
use Rattle.enclose_op.proofs.Places.{guard_is, lock_is, head_is, kept_there}
use Rattle.enclose_op.proofs.Filling.{all_known}

-- ---- what decides that there may be room
-- another outcome does not
not_finished : (outcome : Outcome) → outcome ≢ finished → Some outcome ≡ Some finished → ⊥
not_finished outcome other some = other (same_Some outcome finished some)

-- nor does a lock
next_goes_on : (b : ℕ) (t : Bool) → outcome_at (if t then Lock (b + 1) Look else Head) ≡ Some finished → ⊥
next_goes_on b true some = none-some finished some
next_goes_on b false some = none-some finished some

lock_goes_on : (e : Enclosed) (b : ℕ) (t : Taken) → outcome_at (locked_to e b t).step ≡ Some finished → ⊥
lock_goes_on e b (taken.On take) some = none-some finished some
lock_goes_on e b (taken.Held free) some = next_goes_on b (nat_lt b 65) some
lock_goes_on e b (taken.Busy seen) some = not_finished (again (Busy (lock_of e b) seen)) (λ same. absurd (cc)) some
lock_goes_on e b (taken.Moved first later) some = not_finished (again (Moved (lock_of e b) first later)) (λ same. absurd (cc)) some
lock_goes_on e b taken.Spent some = none-some finished some

guard_goes_on : (e : Enclosed) (t : Bool) (n : ℕ) → outcome_at (next_in e Guard (if t then Won else Lost n)).step ≡ Some finished → ⊥
guard_goes_on e true n some = none-some finished some
guard_goes_on e false n some = not_finished (again (Busy (guard_of e) n)) (λ same. absurd (cc)) some

-- a header that is not followed does, and a segment that is not full
head_tells : (t : Bool) → outcome_at (if t then Fill 1 else backing buckets Room) ≡ Some finished → t ≡ false
head_tells true some = absurd (none-some finished some)
head_tells false some = refl

decided_tells : (room deep : Bool) → outcome_at (if room then (if deep then CountDeep else Whole) else backing buckets Room) ≡ Some finished → room ≡ false
decided_tells true true some = absurd (none-some finished some)
decided_tells true false some = absurd (none-some finished some)
decided_tells false deep some = refl

fill_tells : (f : Enclosed) (at : ℕ) (t : Bool) → nat_lt at last_of_buckets ≡ t → outcome_at (if t then Fill (word_after at) else decided f) ≡ Some finished
    → (last_of_buckets ≤ at) × (has_no_room (kept_first f) (home_of f.hash) ≡ false)
fill_tells f at true is some = absurd (none-some finished some)
fill_tells f at false is some = (ltb-false at last_of_buckets is, decided_tells (has_no_room (kept_first f) (home_of f.hash)) (depth_in f.head == f.site.geometry.depth) some)

-- ---- where nothing can be moved by some words nothing can by the same
same_moves : (home probing further back h p f b : ℕ) → home ≡ h → probing ≡ p → further ≡ f → back ≡ b → NothingMoves home probing further back → NothingMoves h p f b
same_moves home probing further back h p f b home_is probing_is further_is back_is moves =
    subst (λ (z : ℕ). NothingMoves z p f b) home_is
    (subst (λ (z : ℕ). NothingMoves home z f b) probing_is
    (subst (λ (z : ℕ). NothingMoves home probing z b) further_is
    (subst (λ (z : ℕ). NothingMoves home probing further z) back_is moves)))

-- ---- the words that it loaded are the newest
module _ (site : Ground) (here : Site) (call : Call) (words : Words) (e : Enclosed) (is : IsOf site here call e) (v : View) (newest : (i x : ℕ) → Has (i, x) v.known → words i ≡ x)
    (current : version_in (words (header_word site.shape e.segment)) ≡ version_of site) (crammed : HasNoRoom site.shape words e.segment (key_hash site.shape (key_of call))) where
  abbrev l : IsLocated site e.site e.segment
  l = is.located

  -- the hash is that of the call's key
  hash_is : e.hash ≡ key_hash site.shape (key_of call)
  hash_is = is.hashed ∙ ap (key_hash site.shape) (sym (key_called e.change) ∙ ap key_of is.same)

  -- the header is followed
  followed : is_followed e (words (head_word e.site.geometry e.segment)) ≡ true
  followed =
      subst (λ (i : ℕ). is_followed e (words i) ≡ true) (sym (head_is site e l))
      (let head : ℕ = words (header_word site.shape e.segment) in
      and_from (version_in head == e.site.version) (is_leading head e.hash) (eq-eqb (version_in head) e.site.version (current ∙ sym is.version))
      (subst (λ (h : ℕ). is_leading head h ≡ true) (sym hash_is) crammed.leads))

  -- after the last word
  module _ (at : ℕ) (s : SuitsStep site here call e (Fill at) v) (small : words (bucket_word e.site.geometry e.segment 0 + at) < 2 ^ 64) (last : last_of_buckets ≤ at) where
    abbrev word : ℕ
    word = bucket_word e.site.geometry e.segment 0 + at

    abbrev f : Enclosed
    f = with_word e at (words word)

    known_now : (i : ℕ) → Has (i, kept_words f i) ((word, words word) ∷ v.known) → words i ≡ kept_words f i
    known_now i has = elim has [
      | inl same ↦ ap words (ap (λ (p : ℕ × ℕ). p.0) same) ∙ sym (ap (λ (p : ℕ × ℕ). p.1) same)
      | inr was ↦ newest i (kept_words f i) was
    ]

    first_now : (b : ℕ) → b < buckets → words (bucket_at site.shape e.segment b + 1) ≡ kept_first f b
    first_now b near =
        known_now (bucket_at site.shape e.segment b + 1) (all_known site here call e is v at s (words word) small last b 1 near (omega arith) (omega arith)).known
        ∙ kept_there site f (record { shape = l.shape; within = l.within }) b 1

    -- there is no room
    crammed_there : has_no_room (kept_first f) (home_of f.hash) ≡ true
    crammed_there =
        subst (λ (h : ℕ). has_no_room (kept_first f) (home_of h) ≡ true) (sym hash_is)
        (let home : ℕ = home_of (key_hash site.shape (key_of call)) in
        let own = first_now home (omega arith) in
        let probing = first_now (probing_of home) (omega arith) in
        let further = first_now (next_of home) (omega arith) in
        let back = first_now (previous_of home) (omega arith) in
        let moved = same_moves _ _ _ _ (kept_first f home) (kept_first f (probing_of home)) (kept_first f (next_of home)) (kept_first f (previous_of home)) own probing further back crammed.moves in
        (tells_room (kept_first f) home).1 (record {
          crowded = record {
            own = subst IsFull own crammed.home_full;
            probing = subst IsFull probing crammed.probing_full;
            stash = subst IsFull (first_now homes (omega arith)) crammed.first_full;
            last = subst IsFull (first_now (homes + 1) (omega arith)) crammed.second_full;
          };
          moves = record { forward = moved.forward; backward = moved.backward };
        }))

  -- ---- EACH STEP
  pub not_told : (s : EncloseStep) → SuitsStep site here call e s v → words (word_of site.shape (wanted_in e s)) < 2 ^ 64 → outcome_at s ≡ None
      → outcome_at (next_in e s (answer_to (wanted_in e s) (words (word_of site.shape (wanted_in e s))))).step ≡ Some finished → ⊥
  not_told Guard s small none some = guard_goes_on e (words (guard_of e) == 0) (words (guard_of e)) some
  not_told (Lock b take) s small none some =
      lock_goes_on e b (take_taken take (answer_to (take_wanted (lock_of e b) take) (words (word_of site.shape (take_wanted (lock_of e b) take))))) some
  not_told Head s small none some =
      let i : ℕ = head_word e.site.geometry e.segment in
      both_ways (is_followed e (words i)) (head_tells (is_followed e (words i)) some) followed
  not_told (Fill at) s small none some =
      let f : Enclosed = with_word e at (words (bucket_word e.site.geometry e.segment 0 + at)) in
      let tells = fill_tells f at (nat_lt at last_of_buckets) refl some in
      both_ways (has_no_room (kept_first f) (home_of f.hash)) tells.1 (crammed_there at s small tells.0)
  not_told (CountSpent b) s small none some = not_finished (replied Spent _) (λ same. absurd (cc)) some
  not_told CountDeep s small none some = not_finished (replied Deep _) (λ same. absurd (cc)) some
  not_told (Give give end) s small none some = none-some (outcome_of end) (sym none)
  not_told (Ended end) s small none some = none-some (outcome_of end) (sym none)
  not_told Whole s small none some = none-some finished some

-- WHERE IT SAYS that there may be room, the segment is not without it
pub finds_room : FindsRoom
finds_room site here call words views j op before v h at s asks small none some current crammed =
    not_told site here call words op.enclosed s.stands.is v (λ i x has. (h.known.knows j v i x at has).0) current crammed op.step s.stands.view small none some

-- ---- which words say whether there is room
-- where the header and the first metadata word of each bucket are the same, there is no room as before
pub same_room : (shape : Shape) (words later : Words) (s hash : ℕ) → later (header_word shape s) ≡ words (header_word shape s)
    → ((b : ℕ) → b < buckets → later (bucket_at shape s b + 1) ≡ words (bucket_at shape s b + 1)) → HasNoRoom shape words s hash → HasNoRoom shape later s hash
same_room shape words later s hash head meta crammed =
    let home : ℕ = home_of hash in
    let own = sym (meta home (omega arith)) in
    let probing = sym (meta (probing_of home) (omega arith)) in
    let further = sym (meta (next_of home) (omega arith)) in
    let back = sym (meta (previous_of home) (omega arith)) in
    record {
      leads = subst (λ (z : ℕ). is_leading z hash ≡ true) (sym head) crammed.leads;
      home_full = subst IsFull own crammed.home_full;
      probing_full = subst IsFull probing crammed.probing_full;
      moves = same_moves _ _ _ _ (meta_now shape later s home) (meta_now shape later s (probing_of home)) (meta_now shape later s (next_of home)) (meta_now shape later s (previous_of home)) own probing further back crammed.moves;
      first_full = subst IsFull (sym (meta homes (omega arith))) crammed.first_full;
      second_full = subst IsFull (sym (meta (homes + 1) (omega arith))) crammed.second_full;
    }

-- they are no lock word, and no guard's
abbrev TellsRoom : Shape → ℕ → ℕ → Type 0
TellsRoom shape s i = (i ≡ header_word shape s) ⊎ ((b : ℕ) × (b < buckets) × (i ≡ bucket_at shape s b + 1))

lock_other : (shape : Shape) (q c s i : ℕ) → TellsRoom shape s i → i ≡ bucket_at shape q c → ⊥
lock_other shape q c s i (inl head) same = by (first_segment shape) q c s (sym head ∙ same)
  where
    by : (f q c s : ℕ) → f + 2144 * s + 1 ≡ f + 2144 * q + 32 + 32 * c → ⊥
    by f q c s same = omega (arith, same)
lock_other shape q c s i (inr (b, near, meta)) same = by (first_segment shape) q c s b (sym meta ∙ same)
  where
    by : (f q c s b : ℕ) → f + 2144 * s + 32 + 32 * b + 1 ≡ f + 2144 * q + 32 + 32 * c → ⊥
    by f q c s b same = omega (arith, same)

guard_other : (shape : Shape) (q s i : ℕ) → s < shape.segments → TellsRoom shape s i → i ≡ segment_guard shape q → ⊥
guard_other shape q s i within (inl head) same = by (first_segment shape) shape.segments q s within (sym head ∙ same)
  where
    by : (f n q s : ℕ) → s < n → f + 2144 * s + 1 ≡ f + 2144 * n + 4 + q → ⊥
    by f n q s within same = omega (arith, within, same)
guard_other shape q s i within (inr (b, near, meta)) same = by (first_segment shape) shape.segments q s b within near (sym meta ∙ same)
  where
    by : (f n q s b : ℕ) → s < n → b < 66 → f + 2144 * s + 32 + 32 * b + 1 ≡ f + 2144 * n + 4 + q → ⊥
    by f n q s b within near same = omega (arith, within, near, same)

-- ---- a store or an exchange of another word leaves a word as it is
module _ (shape : Shape) (words : Words) (number i : ℕ) where
  abbrev Stays : Want → Type 0
  Stays w = words_after shape w number words i ≡ words i

  store_stays : (other value : ℕ) → (i ≡ other → ⊥) → Stays (want.Store other value)
  store_stays other value apart = ap (λ (t : Bool). if t then value else words i) (ne_eqb i other apart)

  exchange_by : (other old new : ℕ) → (i ≡ other → ⊥) → (t : Bool) → after (if t then exchanged number other new else loaded number other) words i ≡ words i
  exchange_by other old new apart true = ap (λ (t : Bool). if t then new else words i) (ne_eqb i other apart)
  exchange_by other old new apart false = refl

  exchange_stays : (other old new : ℕ) → (i ≡ other → ⊥) → Stays (want.Exchange other old new)
  exchange_stays other old new apart = exchange_by other old new apart (words other == old)

module _ (site : Ground) (here : Site) (call : Call) (words : Words) (e : Enclosed) (is : IsOf site here call e) (v : View) (number s i : ℕ) (within : s < site.shape.segments) (tells : TellsRoom site.shape s i) where
  abbrev StaysHere : Want → Type 0
  StaysHere w = Stays site.shape words number i w

  guard_apart : i ≡ guard_of e → ⊥
  guard_apart same = guard_other site.shape e.segment s i within tells (same ∙ guard_is site e is.located)

  lock_apart : (b : ℕ) → b < buckets → i ≡ lock_of e b → ⊥
  lock_apart b near same = lock_other site.shape e.segment b s i tells (same ∙ lock_is site e is.located b near)

  take_stays : (b : ℕ) (take : Take) → b < buckets → StaysHere (take_wanted (lock_of e b) take)
  take_stays b Look near = refl
  take_stays b (Try free) near = exchange_stays site.shape words number i (lock_of e b) free ((free + 1) % 2 ^ 64) (lock_apart b near)

  give_stays : (give : Giving) → SuitsGive site e give v → StaysHere (give_wanted e give)
  give_stays (giving.Lock b to) g = store_stays site.shape words number i (lock_of e b) _ (lock_apart b (let low = g.0 in let most = g.1 in omega (arith, low, most)))
  give_stays giving.Guard g = store_stays site.shape words number i (guard_of e) 0 guard_apart

  pub room_stays : (step : EncloseStep) → SuitsStep site here call e step v → StaysHere (wanted_in e step)
  room_stays Guard g = exchange_stays site.shape words number i (guard_of e) 0 e.site.caller guard_apart
  room_stays (Lock b take) g = take_stays b take g.1
  room_stays Head g = refl
  room_stays (Fill at) g = refl
  room_stays (CountSpent b) g = refl
  room_stays CountDeep g = refl
  room_stays (Give give end) g = give_stays give g
  room_stays (Ended end) g = refl
  room_stays Whole g = refl

-- NO EVENT makes room
pub keeps_room : KeepsRoom
keeps_room site here call words op before v suits number s hash within =
    let stays : (i : ℕ) → TellsRoom site.shape s i → words_after site.shape (wanted_in op.enclosed op.step) number words i ≡ words i
    = λ i tells. room_stays site here call words op.enclosed suits.stands.is v number s i within tells op.step suits.stands.view in
    same_room site.shape words (words_after site.shape (wanted_in op.enclosed op.step) number words) s hash (stays (header_word site.shape s) (inl refl))
    (λ b near. stays (bucket_at site.shape s b + 1) (inr (b, near, refl)))
