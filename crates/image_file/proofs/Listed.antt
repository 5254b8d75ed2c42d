-- The pairs of all record slots that are their segment's own, without those of a key that stands before, are the
-- image's pairs.
use Rattle.std.proofs.Common.{◌≡◌, ◌≢◌, ℕ, zero, suc, ◌+◌, ◌*◌, ◌/◌, ◌%◌, ◌<◌, ◌≤◌, ◌⊎◌, refl, sym, ap, subst, ◌∙◌, arith, inl, inr, ⊎_elim, true, false, List, [], ◌∷◌, ◌++◌, length, add-one, length-append, get_or}
use Rattle.std.specs.Prelude.{◌==◌, Contains, if◌then◌else◌, slice_index}
use Rattle.std.specs.List.{IsDistinct, list_any}
use Rattle.std.specs.List.Sorted.{IsPermutation, IsNonDecreasing, IsNonDecreasingBy, IsStrictlyIncreasing}
use Rattle.std.proofs.lemmas.List.Sorted.{Contains-permutation, IsPermutation-sym, IsPermutation-map}
use Rattle.std.proofs.lemmas.Map.Keys.{IsDistinct-push, IsDistinct-IsPermutation, IsStrictlyIncreasing-from_distinct}
use Rattle.std.proofs.lemmas.List.Folds.{list_any_none}
use Rattle.std.proofs.Math.Dec.{eqb}
use Rattle.std.specs.Cmp.{nat_eq_equiv}
use Rattle.std.proofs.lemmas.Bool.{cases_lt, cases_eq, ne_eqb}
use Rattle.std.proofs.lemmas.Bool.Decides.{nat_tests}
use Rattle.std.proofs.lemmas.List.{map-append, get_or-map, length-map}
use Rattle.std.proofs.lemmas.List.Elements.{All-map, All-contains_itself, Contains-append_left, Contains-push, Contains-push_cases, filter-append}
use Rattle.segment_head.specs.HeadWord.{is_live}
use Rattle.bucket_meta.specs.Notes.{numbers_below}
use Rattle.hash_word.specs.Hash.{top}
use Rattle.image_layout.specs.Places.{Shape, key_at}
use Rattle.sound_image.specs.Segments.{ImageWords, Frame, frame_of, depth_at, pattern_at, Owns}
use Rattle.sound_image.specs.Records.{key_hash, slot_key, slot_value, slot_hash, HasRecord, HasPair}
use Rattle.sound_image.specs.Rules.{KeysHaveOneValue}
use Rattle.image_rules.specs.declared.record_slot.RecordSlot.{RecordSlot}
use Rattle.sound_image.specs.Image.{IsSoundImage}
use Rattle.image_rules.specs.Divided.{IsDivided}
use Rattle.image_rules.specs.Slots.{IsRecordSlot, IsTaken, IsStanding}
use Rattle.image_rules.specs.Own.{record_slot_at, pair_at, IsOwnAt, IsFirstAt}
use Rattle.image_file.specs.Pairs.{live_slots, keys_of, ArePairs, HasPairBelow, ArePairsBelow}
use Rattle.image_rules.proofs.covered.Owners.{shares}

-- ONE LIVE SLOT MORE
pub live_more : (frame : Frame) (n : ℕ) → is_live (frame.header n) ≡ true → length (live_slots frame (n + 1)) ≡ length (live_slots frame n) + 1
live_more frame n holds =
    ap (λ m. length (live_slots frame m)) (add-one n)
    ∙ ap length (filter-append (λ s. is_live (frame.header s)) (numbers_below n) (n ∷ []))
    ∙ length-append (live_slots frame n) _
    ∙ ap (λ b. length (live_slots frame n) + length (if b then n ∷ [] else [])) holds

pub live_same : (frame : Frame) (n : ℕ) → is_live (frame.header n) ≡ false → length (live_slots frame (n + 1)) ≡ length (live_slots frame n)
live_same frame n fails =
    ap (λ m. length (live_slots frame m)) (add-one n)
    ∙ ap length (filter-append (λ s. is_live (frame.header s)) (numbers_below n) (n ∷ []))
    ∙ length-append (live_slots frame n) _
    ∙ ap (λ b. length (live_slots frame n) + length (if b then n ∷ [] else [])) fails
    ∙ omega arith

-- A PAIR is among pairs, or it is not
same_pair : (p q : ℕ × ℕ) → (p ≡ q) ⊎ (p ≢ q)
same_pair p q =
    ⊎_elim
    (λ (first : p.0 ≡ q.0).
    ⊎_elim (λ (second : p.1 ≡ q.1). inl (λ j. (first j, second j)))
    (λ (other : p.1 ≢ q.1). inr (λ (e : p ≡ q). other (ap (λ (r : ℕ × ℕ). r.1) e)))
    (cases_eq p.1 q.1))
    (λ (other : p.0 ≢ q.0). inr (λ (e : p ≡ q). other (ap (λ (r : ℕ × ℕ). r.0) e)))
    (cases_eq p.0 q.0)

no_pair : (pair : ℕ × ℕ) → Contains [] pair → ⊥
no_pair pair h = absurd (omega (arith, h.1))

later : (x : ℕ × ℕ) (xs : List (ℕ × ℕ)) (pair : ℕ × ℕ) → (x ≢ pair) → (Contains xs pair → ⊥) → (k : ℕ) → k < length (x ∷ xs) → get_or (x ∷ xs) k pair ≡ pair → ⊥
later x xs pair other none zero below is = other is
later x xs pair other none (suc k) below is = none (k, omega arith, is)

decided : (pairs : List (ℕ × ℕ)) (pair : ℕ × ℕ) → Contains pairs pair ⊎ (Contains pairs pair → ⊥)
decided [] pair = inr (no_pair pair)
decided (x ∷ xs) pair =
    ⊎_elim (λ (same : x ≡ pair). inl (zero, omega arith, same))
    (λ (other : x ≢ pair).
    ⊎_elim (λ (there : Contains xs pair). inl (suc there.0, omega (arith, there.1), there.2))
    (λ (none : Contains xs pair → ⊥). inr (λ (there : Contains (x ∷ xs) pair). later x xs pair other none there.0 there.1 there.2))
    (decided xs pair))
    (same_pair x pair)

-- NO KEY of the list is this one
keys_differ : (pairs : List (ℕ × ℕ)) (y : ℕ) → ((pair : ℕ × ℕ) → Contains pairs pair → pair.0 ≢ y) → list_any (λ k. y == k) (keys_of pairs) ≡ false
keys_differ pairs y other =
    list_any_none (λ k. y == k) (keys_of pairs)
    (All-map (λ k. (y == k) ≡ false) (λ (pair : ℕ × ℕ). pair.0) pairs
    (λ i d h. ne_eqb y (get_or pairs i d).0 (λ e. other (get_or pairs i d) (All-contains_itself pairs i d h) (sym e))))

distinct_nil : IsDistinct eqb []
unfolding IsDistinct
distinct_nil = tt

-- RECORD SLOTS by their numbers
pub record_slot_number : (s b r : ℕ) → b < 66 → r < 14 → record_slot_at (924 * s + 14 * b + r) ≡ record { segment = s; bucket = b; slot = r }
record_slot_number s b r bucket slot =
    let segment : (924 * s + 14 * b + r) / 924 ≡ s = omega arith in
    let in_segment : (924 * s + 14 * b + r) % 924 / 14 ≡ b = omega arith in
    let in_bucket : (924 * s + 14 * b + r) % 14 ≡ r = omega arith in
    λ j. record { segment = segment j; bucket = in_segment j; slot = in_bucket j }

pub in_image : (shape : Shape) (n : ℕ) → n < 924 * shape.segments → IsRecordSlot shape (record_slot_at n)
in_image shape n below = record { segment = omega arith; bucket = omega arith; slot = omega arith }

-- ONE OWNER of a hash
module _ (shape : Shape) (word : ImageWords) (i : IsDivided shape word) where
  owner_before : (s t h : ℕ) → Owns (frame_of shape word) s h → Owns (frame_of shape word) t h → s < t → ⊥
  owner_before s t h one two less =
      let frame = frame_of shape word in
      let depth : depth_at frame s ≡ depth_at frame t = omega (arith, one.deepest t two.own, two.deepest s one.own) in
      let pattern : pattern_at frame s ≡ pattern_at frame t =
      sym one.own.covers ∙ ap (λ (d : ℕ). top d h) depth ∙ two.own.covers in
      (shares shape word i t two.own.slot two.own.live).alone s less one.own.live depth pattern

  one_owner : (s t h : ℕ) → Owns (frame_of shape word) s h → Owns (frame_of shape word) t h → s ≡ t
  one_owner s t h one two =
      ⊎_elim (λ (less : s < t). absurd (owner_before s t h one two less))
      (λ (more : t ≤ s).
      ⊎_elim (λ (less : t < s). absurd (owner_before t s h two one less)) (λ (level : s ≤ t). omega arith) (cases_lt t s))
      (cases_lt s t)

-- PAIRS of the record slots below a limit
module _ (shape : Shape) (word : ImageWords) where
  pub none_below : ArePairsBelow shape word 0 []
  none_below =
      record { each = λ n below. absurd (omega (arith, below)); others = λ pair there. absurd (no_pair pair there); once = distinct_nil }

  there_at : (n : ℕ) → n < 924 * shape.segments → IsOwnAt shape word n
      → HasRecord shape word (record_slot_at n).segment (record_slot_at n).bucket (record_slot_at n).slot
  there_at n below own =
      let is = in_image shape n below in
      record { segment = is.segment; bucket = is.bucket; slot = is.slot; is_allocated = own.taken }

  raised : (n : ℕ) (pair : ℕ × ℕ) → HasPairBelow shape word n pair → HasPairBelow shape word (n + 1) pair
  raised n pair has = record { n = has.n; below = omega (arith, has.below); own = has.own; is = has.is }

  -- a record slot by its numbers
  own_at : (s b r : ℕ) → b < 66 → r < 14 → IsTaken shape word s b r → Owns (frame_of shape word) s (slot_hash shape word s b r)
      → IsOwnAt shape word (924 * s + 14 * b + r)
  own_at s b r bucket slot taken owned =
      let same = record_slot_number s b r bucket slot in
      record {
        taken = subst (λ (p : RecordSlot). IsTaken shape word p.segment p.bucket p.slot) (sym same) taken;
        owned = subst (λ (p : RecordSlot). Owns (frame_of shape word) p.segment (slot_hash shape word p.segment p.bucket p.slot)) (sym same) owned;
      }

  pair_of : (s b r : ℕ) → b < 66 → r < 14 → pair_at shape word (924 * s + 14 * b + r) ≡ (slot_key shape word s b r, slot_value shape word s b r)
  pair_of s b r bucket slot =
      ap (λ (p : RecordSlot). (slot_key shape word p.segment p.bucket p.slot, slot_value shape word p.segment p.bucket p.slot)) (record_slot_number s b r bucket slot)

  module _ (i : IsStanding shape word) (values : (w : ℕ) → KeysHaveOneValue shape word w) (n : ℕ) (below : n < 924 * shape.segments)
      (pairs : List (ℕ × ℕ)) (are : ArePairsBelow shape word n pairs) where
    -- a record that has one of its key before it: its pair is there
    module _ (own : IsOwnAt shape word n) (none : Contains pairs (pair_at shape word n) → ⊥) (c t : ℕ)
        (there : HasRecord shape word (record_slot_at n).segment c t)
        (less : key_at shape (record_slot_at n).segment c t < key_at shape (record_slot_at n).segment (record_slot_at n).bucket (record_slot_at n).slot)
        (same : slot_key shape word (record_slot_at n).segment c t ≡ slot_key shape word (record_slot_at n).segment (record_slot_at n).bucket (record_slot_at n).slot) where
      same_hash : slot_hash shape word (record_slot_at n).segment c t ≡ slot_hash shape word (record_slot_at n).segment (record_slot_at n).bucket (record_slot_at n).slot
      same_hash = ap (key_hash shape) same

      earlier_own : IsOwnAt shape word (924 * (record_slot_at n).segment + 14 * c + t)
      earlier_own =
          own_at (record_slot_at n).segment c t there.bucket there.slot there.is_allocated
          (subst (Owns (frame_of shape word) (record_slot_at n).segment) (sym same_hash) own.owned)

      earlier : 924 * (record_slot_at n).segment + 14 * c + t < n
      earlier = omega (arith, less, there.bucket, there.slot)

      same_value : slot_value shape word (record_slot_at n).segment c t ≡ slot_value shape word (record_slot_at n).segment (record_slot_at n).bucket (record_slot_at n).slot
      same_value =
          values (key_at shape (record_slot_at n).segment (record_slot_at n).bucket (record_slot_at n).slot) (record_slot_at n).segment (record_slot_at n).bucket (record_slot_at n).slot
          (record { record_there = there_at n below own; owned = own.owned }) refl c t there less same

      pair_same : pair_at shape word (924 * (record_slot_at n).segment + 14 * c + t) ≡ pair_at shape word n
      pair_same = pair_of (record_slot_at n).segment c t there.bucket there.slot ∙ (λ j. (same j, same_value j))

      no_twin : ⊥
      no_twin =
          none (subst (λ (pair : ℕ × ℕ). Contains pairs pair) pair_same (are.each (924 * (record_slot_at n).segment + 14 * c + t) earlier earlier_own))

    contained_anyway : (IsFirstAt shape word n → ⊥) → IsOwnAt shape word n → Contains pairs (pair_at shape word n)
    contained_anyway other own =
        ⊎_elim (λ (there : Contains pairs (pair_at shape word n)). there)
        (λ (none : Contains pairs (pair_at shape word n) → ⊥).
        absurd (other (record { own = own; first = λ c t there less same. no_twin own none c t there less same })))
        (decided pairs (pair_at shape word n))

    pub one_skipped : (IsFirstAt shape word n → ⊥) → ArePairsBelow shape word (n + 1) pairs
    one_skipped other =
        record {
          each = λ m less own.
              ⊎_elim (λ (lower : m < n). are.each m lower own)
              (λ (last : n ≤ m).
              let same : m ≡ n = omega arith in
              subst (λ (k : ℕ). Contains pairs (pair_at shape word k)) (sym same) (contained_anyway other (subst (IsOwnAt shape word) same own)))
              (cases_lt m n);
          others = λ pair there. raised n pair (are.others pair there);
          once = are.once;
        }

    -- a record that has none before it: no pair has its key
    module _ (first : IsFirstAt shape word n) where
      module _ (m : ℕ) (lower : m < n) (own : IsOwnAt shape word m)
          (same : slot_key shape word (record_slot_at m).segment (record_slot_at m).bucket (record_slot_at m).slot
          ≡ slot_key shape word (record_slot_at n).segment (record_slot_at n).bucket (record_slot_at n).slot) where
        hash_same : slot_hash shape word (record_slot_at m).segment (record_slot_at m).bucket (record_slot_at m).slot
            ≡ slot_hash shape word (record_slot_at n).segment (record_slot_at n).bucket (record_slot_at n).slot
        hash_same = ap (key_hash shape) same

        segment_same : (record_slot_at m).segment ≡ (record_slot_at n).segment
        segment_same =
            one_owner shape word i.divided (record_slot_at m).segment (record_slot_at n).segment
            (slot_hash shape word (record_slot_at n).segment (record_slot_at n).bucket (record_slot_at n).slot)
            (subst (Owns (frame_of shape word) (record_slot_at m).segment) hash_same own.owned) first.own.owned

        twin_there : HasRecord shape word (record_slot_at n).segment (record_slot_at m).bucket (record_slot_at m).slot
        twin_there =
            subst (λ (s : ℕ). HasRecord shape word s (record_slot_at m).bucket (record_slot_at m).slot) segment_same (there_at m (omega arith) own)

        twin_key : slot_key shape word (record_slot_at n).segment (record_slot_at m).bucket (record_slot_at m).slot
            ≡ slot_key shape word (record_slot_at n).segment (record_slot_at n).bucket (record_slot_at n).slot
        twin_key = ap (λ (s : ℕ). slot_key shape word s (record_slot_at m).bucket (record_slot_at m).slot) (sym segment_same) ∙ same

        impossible : ⊥
        impossible =
            first.first (record_slot_at m).bucket (record_slot_at m).slot twin_there (omega (arith, lower, segment_same)) twin_key

      key_new : (pair : ℕ × ℕ) → Contains pairs pair → pair.0 ≢ slot_key shape word (record_slot_at n).segment (record_slot_at n).bucket (record_slot_at n).slot
      key_new pair there same =
          let has = are.others pair there in
          impossible has.n has.below has.own (ap (λ (p : ℕ × ℕ). p.0) has.is ∙ same)

      pub one_added : ArePairsBelow shape word (n + 1) (pairs ++ pair_at shape word n ∷ [])
      one_added =
          record {
            each = λ m less own.
                ⊎_elim (λ (lower : m < n). Contains-append_left pairs (pair_at shape word n ∷ []) (pair_at shape word m) (are.each m lower own))
                (λ (last : n ≤ m).
                let same : m ≡ n = omega arith in
                subst (λ (k : ℕ). Contains (pairs ++ pair_at shape word n ∷ []) (pair_at shape word k)) (sym same)
                (Contains-push pairs (pair_at shape word n)))
                (cases_lt m n);
            others = λ pair there.
                ⊎_elim (λ (old : Contains pairs pair). raised n pair (are.others pair old))
                (λ (new : pair_at shape word n ≡ pair). record { n = n; below = omega arith; own = first.own; is = new })
                (Contains-push_cases pairs (pair_at shape word n) pair there);
            once = subst (IsDistinct eqb) (sym (map-append _ pairs (pair_at shape word n ∷ [])))
                (IsDistinct-push nat_eq_equiv (keys_of pairs) (pair_at shape word n).0 are.once (keys_differ pairs (pair_at shape word n).0 key_new));
          }

  -- ALL OF THEM are the image's pairs
  pub all-ArePairs : (pairs : List (ℕ × ℕ)) → ArePairsBelow shape word (924 * shape.segments) pairs → ArePairs shape word pairs
  all-ArePairs pairs are =
      record {
        each = λ k v. (
          (λ (p : HasPair shape word k v).
              let there = p.own.record_there in
              let own = own_at p.s p.b p.r there.bucket there.slot there.is_allocated p.own.owned in
              let is : pair_at shape word (924 * p.s + 14 * p.b + p.r) ≡ (k, v) =
              pair_of p.s p.b p.r there.bucket there.slot ∙ (λ j. (p.key_is j, p.value_is j)) in
              subst (λ (pair : ℕ × ℕ). Contains pairs pair) is
              (are.each (924 * p.s + 14 * p.b + p.r) (omega (arith, there.segment, there.bucket, there.slot)) own)),
          (λ (there : Contains pairs (k, v)).
              let has = are.others (k, v) there in
              record {
                s = (record_slot_at has.n).segment;
                b = (record_slot_at has.n).bucket;
                r = (record_slot_at has.n).slot;
                own = record { record_there = there_at has.n has.below has.own; owned = has.own.owned };
                key_is = ap (λ (pair : ℕ × ℕ). pair.0) has.is;
                value_is = ap (λ (pair : ℕ × ℕ). pair.1) has.is;
              }),
        );
        once = are.once;
      }

-- SORTED: pairs in another order are the same pairs, and their keys rise where they do not fall
pub sorted-ArePairs : (shape : Shape) (word : ImageWords) (xs ys : List (ℕ × ℕ)) → IsPermutation xs ys → ArePairs shape word xs → ArePairs shape word ys
sorted-ArePairs shape word xs ys p a =
    record {
      each = λ k v. (
        (λ pair. Contains-permutation xs ys (k, v) p ((a.each k v).0 pair)),
        (λ there. (a.each k v).1 (Contains-permutation ys xs (k, v) (IsPermutation-sym xs ys p) there)),
      );
      once = IsDistinct-IsPermutation eqb flips (keys_of xs) (keys_of ys) (IsPermutation-map (λ (pair : ℕ × ℕ). pair.0) xs ys p) a.once;
    }
  where
    flips : (x y : ℕ) → eqb x y ≡ eqb y x
    flips x y = grind (arith, nat_tests)

pub rising : (pairs : List (ℕ × ℕ)) → IsDistinct eqb (keys_of pairs) → IsNonDecreasingBy (λ (pair : ℕ × ℕ). pair.0) pairs → IsStrictlyIncreasing (keys_of pairs)
rising pairs once sorted = IsStrictlyIncreasing-from_distinct (keys_of pairs) keys_sorted once
  where
    key_at_place : (i d : ℕ) → i < length pairs → get_or (keys_of pairs) i d ≡ (get_or pairs i (0, 0)).0
    key_at_place i d h = get_or-map (λ (pair : ℕ × ℕ). pair.0) pairs i (0, 0) d h

    keys_sorted : IsNonDecreasing (keys_of pairs)
    keys_sorted i j d h below =
        let long : j < length pairs = omega (arith, below, length-map pairs (λ (pair : ℕ × ℕ). pair.0)) in
        let first : i < length pairs = omega (arith, h, long) in
        omega (arith, key_at_place i d first, key_at_place j d long, sorted i j (0, 0) h long)

pub sound-IsStanding : (shape : Shape) (words lent : List ℕ) → lent ≡ words → IsSoundImage shape words → IsStanding shape (slice_index lent)
sound-IsStanding shape words lent same sound =
    subst (λ (ws : List ℕ). IsStanding shape (slice_index ws)) (sym same)
    (record {
      divided = record {
        numbered = record { in_range = sound.in_range; each_fits = sound.each_fits; numbers_fit = λ w. (sound.follows 1 w).one refl };
        hashes_owned = λ w. (sound.follows 2 w).two refl;
      };
      stand = λ w. (sound.follows 4 w).four refl;
    })

pub sound-values : (shape : Shape) (words lent : List ℕ) → lent ≡ words → IsSoundImage shape words → (w : ℕ) → KeysHaveOneValue shape (slice_index lent) w
sound-values shape words lent same sound w =
    subst (λ (ws : List ℕ). KeysHaveOneValue shape (slice_index ws) w) (sym same) ((sound.follows 5 w).five refl)
