-- What tables are by the cores of their words, as the parts of the invariant use it.
use Rattle.std.proofs.Common.{◌≡◌, ℕ, ◌+◌, ◌<◌, refl, cond, sym, ap, ◌∙◌, subst, arith, inl, inr, ◌⊎◌, Some}
use Rattle.hash_word.specs.Hash.{home_of, probing_of}
use Rattle.trace.specs.Events.{Words, with_word}
use Rattle.trace.proofs.Replaced.{cases_at, replaced_other}
use Rattle.image_layout.specs.Places.{words_of, bucket_at}
use Rattle.image_layout.specs.Volatile.{counter_word, power_word}
use Rattle.sound_image.specs.Records.{key_hash}
use Rattle.frame_facts.specs.Core.{core_of, core, SameCoresIn}
use Rattle.frame_facts.specs.Owners.{HasStructure, SameOwners, owner_of, home_at}
use Rattle.frame_facts.specs.Standing.{IsTable}
use Rattle.frame_facts.specs.Hits.{Hit, find}
use Rattle.frame_facts.specs.TableChanges.{KeepsTable}
use Rattle.frame_facts.proofs.segments.Places.{owner_kept, home_kept}
use Rattle.frame_facts.proofs.segments.Deciding.{find_places as places_decide}
use Rattle.frame_facts.proofs.segments.Cores.{keeps_of_cores, find_of_cores, core_structure, structure_within, hit_of_cores}
use Rattle.world.specs.Ground.{Ground, IsLockWord, IsUnder}
use Rattle.world.proofs.basics.Grounds.{lock_within, lock_core}

-- ---- over a site
module _ (site : Ground) where
  -- words of the cores of a table are one, with the same pairs
  pub same_keeps : (word other : Words) → ((i : ℕ) → i < words_of site.shape → core site.shape word i ≡ core site.shape other i) → IsTable site.shape word
      → KeepsTable site.shape word other
  same_keeps word other same table = keeps_of_cores site.shape word other table same

  -- what a key has depends on the cores of the image's words
  pub same_find : (word other : Words) (k : ℕ) → ((i : ℕ) → i < words_of site.shape → core site.shape word i ≡ core site.shape other i) → find site.shape word k ≡ find site.shape other k
  same_find word other k same = sym (find_of_cores site.shape word other same k)

  -- a store that keeps its word's core keeps all cores
  pub cores_replaced : (words : Words) (i x : ℕ) → core_of site.shape i x ≡ core_of site.shape i (words i)
      → (n : ℕ) → core site.shape (with_word words i x) n ≡ core site.shape words n
  cores_replaced words i x same n = cases_at (λ b. core_of site.shape n (cond b x (words n)) ≡ core_of site.shape n (words n)) n i
      (λ e. subst (λ (z : ℕ). core_of site.shape z x ≡ core_of site.shape z (words z)) (sym e) same) (λ _. refl)

  -- a store leaves words of one core such
  pub cores_with : (word other : Words) (i x : ℕ) → ((n : ℕ) → core site.shape word n ≡ core site.shape other n)
      → (n : ℕ) → core site.shape (with_word word i x) n ≡ core site.shape (with_word other i x) n
  cores_with word other i x same n = cases_at (λ b. core_of site.shape n (cond b x (word n)) ≡ core_of site.shape n (cond b x (other n))) n i (λ _. refl) (λ _. same n)

  -- so does one to a lock word
  pub lock_cores : (words : Words) (lock x : ℕ) → IsLockWord site.shape lock → (n : ℕ) → core site.shape (with_word words lock x) n ≡ core site.shape words n
  lock_cores words lock x l = cores_replaced words lock x (lock_core site.shape lock x l ∙ sym (lock_core site.shape lock (words lock) l))

  -- a draw changes no word of the image
  pub counter_cores : (words : Words) (x n : ℕ) → n < words_of site.shape → core site.shape (with_word words (counter_word site.shape) x) n ≡ core site.shape words n
  counter_cores words x n within = ap (core_of site.shape n) (replaced_other words (counter_word site.shape) x n (λ e. omega (arith, within, e)))

  pub power_cores : (words : Words) (x n : ℕ) → n < words_of site.shape → core site.shape (with_word words (power_word site.shape) x) n ≡ core site.shape words n
  power_cores words x n within = ap (core_of site.shape n) (replaced_other words (power_word site.shape) x n (λ e. omega (arith, within, e)))

  -- the structure is the cores', and so are the owners
  pub core_structure_same : (word other : Words) → ((i : ℕ) → i < words_of site.shape → core site.shape other i ≡ core site.shape word i) → HasStructure site.shape word other
  core_structure_same word other same i s = sym (core_structure site.shape i (other i) s) ∙ same i (structure_within site.shape i s) ∙ core_structure site.shape i (word i) s

  pub core_owner : (word other : Words) → ((i : ℕ) → i < words_of site.shape → core site.shape other i ≡ core site.shape word i) → SameOwners site.shape word other
  core_owner word other same = owner_kept site.shape word other (core_structure_same word other same)

  -- and the places of homes
  pub same_home : (word other : Words) → ((i : ℕ) → i < words_of site.shape → core site.shape other i ≡ core site.shape word i) → (k : ℕ) → home_at site.shape other k ≡ home_at site.shape word k
  same_home word other same k = home_kept site.shape word other (core_owner word other same) k

  -- a record stands in all words of the same cores
  pub same_hit : (word other : Words) → ((i : ℕ) → i < words_of site.shape → core site.shape word i ≡ core site.shape other i) → (s b r k : ℕ) → Hit site.shape word s b r k → Hit site.shape other s b r k
  same_hit word other same s b r k h = hit_of_cores site.shape word other s b h.segment h.bucket
      (λ n _ inside. same (bucket_at site.shape s b + n) (let w = lock_within site.shape (bucket_at site.shape s b) (s, b, h.segment, h.bucket, refl) in omega (arith, w, inside))) r k h

  -- WHAT A KEY HAS depends on the buckets where it may stand
  module _ (word other : Words) (w : IsTable site.shape word) (o : IsTable site.shape other) (s k : ℕ)
      (own : owner_of site.shape word (key_hash site.shape k) ≡ Some s) (own' : owner_of site.shape other (key_hash site.shape k) ≡ Some s)
      (home : (i : ℕ) → IsUnder (bucket_at site.shape s (home_of (key_hash site.shape k))) i → core site.shape word i ≡ core site.shape other i)
      (probing : (i : ℕ) → IsUnder (bucket_at site.shape s (probing_of (home_of (key_hash site.shape k)))) i → core site.shape word i ≡ core site.shape other i)
      (stash : (c : ℕ) → c < 2 → ((i : ℕ) → IsUnder (bucket_at site.shape s (64 + c)) i → core site.shape word i ≡ core site.shape other i)
      ⊎ (((t : ℕ) → Hit site.shape word s (64 + c) t k → ⊥) × ((t : ℕ) → Hit site.shape other s (64 + c) t k → ⊥))) where
    under_bucket : (b : ℕ) → ((i : ℕ) → IsUnder (bucket_at site.shape s b) i → core site.shape word i ≡ core site.shape other i) → SameCoresIn site.shape word other s b
    under_bucket b same n above inside = same (bucket_at site.shape s b + n) (omega (arith, above), omega (arith, inside))

    pub find_places : find site.shape other k ≡ find site.shape word k
    find_places = places_decide site.shape word other w o s k own own' (under_bucket (home_of (key_hash site.shape k)) home) (under_bucket (probing_of (home_of (key_hash site.shape k))) probing)
        (λ c small. elim (stash c small) [
          | inl same ↦ inl (under_bucket (64 + c) same)
          | inr none ↦ inr none
        ])
