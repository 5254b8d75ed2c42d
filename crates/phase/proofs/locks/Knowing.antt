-- What a holder knows after a store, after the load of a bucket, and of a bucket of which nothing is loose.
use Rattle.std.proofs.Common.{◌≡◌, ℕ, ◌+◌, ◌-◌, ◌<◌, ◌≤◌, Bool, true, false, cond, List, ◌∷◌, ◌⊎◌, inl, inr, refl, sym, ap, ◌∙◌, subst, arith, slice_index}
use Rattle.std.specs.Prelude.{◌&&◌, nat_lt}
use Rattle.std.proofs.lemmas.Bool.{cases_lt, lt-ltb, le-ltb}
use Rattle.trace.specs.Events.{Words, with_word}
use Rattle.trace.proofs.Replaced.{cases_at}
use Rattle.image_layout.specs.Places.{Shape, bucket_at}
use Rattle.map_model.specs.declared.call.Call.{Call}
use Rattle.world.specs.Ground.{IsUnder}
use Rattle.world.specs.Views.{Move, Owed, View, Has, HasLock, IsLoose}
use Rattle.world.specs.Kinds.{without, with_store}
use Rattle.world.specs.Holders.{KnowsBucket, KnowsMeta}
use Rattle.world.proofs.basics.Seats.{without_stays, loosened_has}
use Rattle.phase.specs.Knows.{Knows, OnlyLoose, IsWhole, with_loaded, KnowsMore}

-- ---- a bucket's words among others
module _ (lock : ℕ) (ws : List ℕ) (word : Words) (i : ℕ) where
  pub loaded_here : IsUnder lock i → with_loaded lock ws word i ≡ slice_index ws (i - lock)
  loaded_here (above, below) = ap (λ b. cond (b && nat_lt i (lock + 32)) (slice_index ws (i - lock)) (word i)) (lt-ltb lock i above)
      ∙ ap (λ b. cond b (slice_index ws (i - lock)) (word i)) (lt-ltb i (lock + 32) below)

  pub loaded_there : (IsUnder lock i → ⊥) → with_loaded lock ws word i ≡ word i
  loaded_there other = elim (cases_lt lock i) [
    | inr low ↦ ap (λ b. cond (b && nat_lt i (lock + 32)) (slice_index ws (i - lock)) (word i)) (le-ltb lock i low)
    | inl above ↦ elim (cases_lt i (lock + 32)) [
      | inl below ↦ absurd (other (above, below))
      | inr high ↦ ap (λ b. cond (nat_lt lock i && b) (slice_index ws (i - lock)) (word i)) (le-ltb i (lock + 32) high) ∙ off (nat_lt lock i)
    ]
  ]
    where
      off : (b : Bool) → cond (b && false) (slice_index ws (i - lock)) (word i) ≡ word i
      off true = refl
      off false = refl

-- word j of a bucket
pub loaded_at : (lock : ℕ) (ws : List ℕ) (word : Words) (j : ℕ) → 1 ≤ j → j < 32 → with_loaded lock ws word (lock + j) ≡ slice_index ws j
loaded_at lock ws word j from low = loaded_here lock ws word (lock + j) (omega (arith, from), omega (arith, low)) ∙ ap (slice_index ws) (back lock j)
  where
    back : (a j : ℕ) → a + j - a ≡ j
    back a j = omega arith

-- a word under a lock by its number in the bucket
pub under_at : (lock i : ℕ) → IsUnder lock i → (lock + (i - lock) ≡ i) × (1 ≤ i - lock) × (i - lock < 32)
under_at lock i (above, below) = (omega (arith, above), omega (arith, above), omega (arith, above, below))

-- what is said of each word of a bucket by its number in it is said of each word under its lock
pub whole_known : (lock : ℕ) (ws : List ℕ) (v : View) → IsWhole lock ws v → (i : ℕ) → IsUnder lock i → Has (i, slice_index ws (i - lock)) v.known
whole_known lock ws v whole i u = let at = under_at lock i u in subst (λ (z : ℕ). Has (z, slice_index ws (i - lock)) v.known) at.0 (whole (i - lock) at.1 at.2)

-- ---- what is known
pub known_store : (S : ℕ → Type 0) (word : Words) (shape : Shape) (i old x : ℕ) (calls : List Call) (moves : List Move) (owed : List Owed) (v : View)
    → Knows S word v → Knows S (with_word word i x) (with_store shape i old x calls moves owed v)
known_store S word shape i old x calls moves owed v k j s =
    cases_at (λ b. Has (j, cond b x (word j)) ((i, x) ∷ without i v.known)) j i
    (λ e. inl (ap (λ z. (z, x)) e))
    (λ n. inr (without_stays i j (word j) v.known n (k j s)))

pub loose_store : (S : ℕ → Type 0) (shape : Shape) (i old x : ℕ) (calls : List Call) (moves : List Move) (owed : List Owed) (v : View)
    → OnlyLoose S v → OnlyLoose (λ j. (j ≡ i) ⊎ S j) (with_store shape i old x calls moves owed v)
loose_store S shape i old x calls moves owed v only p loose = elim loose [
  | inl d ↦ elim (loosened_has shape i old x v.dirty p d) [ inl e ↦ inl (ap (λ (z : ℕ × ℕ). z.0) e) | inr r ↦ inr (only p (inl r)) ]
  | inr f ↦ inr (only p (inr f))
]

known_load : (S : ℕ → Type 0) (word : Words) (lock : ℕ) (words : List ℕ) (v : View) → ((i : ℕ) → S i → IsUnder lock i → ⊥) → Knows S word v → IsWhole lock words v
    → Knows (λ i. IsUnder lock i ⊎ S i) (with_loaded lock words word) v
known_load S word lock words v apart k whole i s = elim s [
  | inl u ↦ subst (λ x. Has (i, x) v.known) (sym (loaded_here lock words word i u)) (whole_known lock words v whole i u)
  | inr other ↦ subst (λ x. Has (i, x) v.known) (sym (loaded_there lock words word i (apart i other))) (k i other)
]

pub known_bucket : (S : ℕ → Type 0) (word : Words) (shape : Shape) (s b : ℕ) (v : View) → HasLock v.held (bucket_at shape s b) → Knows S word v
    → ((i : ℕ) → IsUnder (bucket_at shape s b) i → S i) → ((p : ℕ × ℕ) → IsLoose v p → IsUnder (bucket_at shape s b) p.0 → ⊥) → KnowsBucket shape v s b word
known_bucket S word shape s b v lock k covers firm = record { lock = lock; words = λ i u. record { known = k i (covers i u); firm = λ y loose. firm (i, y) loose u } }

pub known_meta : (S : ℕ → Type 0) (word : Words) (shape : Shape) (s b : ℕ) (v : View) → HasLock v.held (bucket_at shape s b) → Knows S word v
    → ((i : ℕ) → IsUnder (bucket_at shape s b) i → S i) → ((p : ℕ × ℕ) → IsLoose v p → bucket_at shape s b + 3 < p.0) → KnowsMeta shape v s b word
known_meta S word shape s b v lock k covers far = record {
  lock = lock;
  words = λ n from most. record {
    known = k (bucket_at shape s b + n) (covers (bucket_at shape s b + n) (omega (arith, from), omega (arith, most)));
    firm = λ y loose. (let behind = far (bucket_at shape s b + n, y) loose in omega (arith, behind, most));
  };
}

pub knows_more : (S : ℕ → Type 0) → KnowsMore S
knows_more S = record {
  store = known_store S;
  loose = loose_store S;
  load = known_load S;
  bucket = known_bucket S;
  meta = known_meta S;
}
