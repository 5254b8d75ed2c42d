-- The words of one bucket put in: they are there, and the others stay. What is loaded of a bucket are words, and so are those of all
-- buckets with the words of one put in.
use Rattle.std.proofs.Common.{◌≡◌, ◌∙◌, ℕ, ◌+◌, ◌^◌, ◌<◌, Bool, true, false, inl, inr, List, refl, sym, ap, subst, arith, length, slice_index, slice_set, get_or-set_same, get_or-set_other, length-set}
use Rattle.std.specs.Prelude.{replicate, nat_lt, if◌then◌else◌}
use Rattle.std.proofs.lemmas.Bool.{cases_eq, cases_lt}
use Rattle.std.proofs.lemmas.List.{set_past}
use Rattle.world.proofs.basics.Lists.{zeros}
use Rattle.phase.specs.declared.role.Role.{Role}
use Rattle.phase.specs.declared.role.Role.TheVariants.{Home, Probing, First, Second, Next, Previous}
use Rattle.phase.specs.declared.load.Load.{Load}
use Rattle.phase.specs.declared.load.Loaded.{Loaded}
use Rattle.phase.specs.declared.load.Loaded.TheVariants.{On, All}
use Rattle.phase.specs.declared.kept.Buckets.{Buckets}
use Rattle.phase.specs.AreWords.{AreWords}
use Rattle.phase.specs.Asked.{index}
use Rattle.phase.specs.Buckets.{with_words, words_in}
use Rattle.phase.specs.Loads.{load_taken}
use Rattle.phase.proofs.asking.Asked.{cases_place}

-- ---- one of two words is one
pub either_small : (b : Bool) (x y : ℕ) → x < 2 ^ 64 → y < 2 ^ 64 → (if b then x else y) < 2 ^ 64
either_small true x y p q = p
either_small false x y p q = q

-- ---- the words of one bucket
module _ (buckets : Buckets) (words : List ℕ) where
  pub words_this : (p : Role) → words_in (with_words p words buckets) p ≡ words
  words_this Home = refl
  words_this Probing = refl
  words_this First = refl
  words_this Second = refl
  words_this Next = refl
  words_this Previous = refl

  pub words_other : (p q : Role) → (index q ≡ index p → ⊥) → words_in (with_words p words buckets) q ≡ words_in buckets q
  words_other Home Home n = absurd (n refl)
  words_other Home q n = refl
  words_other Probing Probing n = absurd (n refl)
  words_other Probing q n = refl
  words_other First First n = absurd (n refl)
  words_other First q n = refl
  words_other Second Second n = absurd (n refl)
  words_other Second q n = refl
  words_other Next Next n = absurd (n refl)
  words_other Next q n = refl
  words_other Previous Previous n = absurd (n refl)
  words_other Previous q n = refl

-- ---- words that are loaded
set_below : (words : List ℕ) (at v : ℕ) → v < 2 ^ 64 → ((i : ℕ) → slice_index words i < 2 ^ 64) → (i : ℕ) → slice_index (slice_set words at v) i < 2 ^ 64
set_below words at v small all i = elim (cases_lt at (length words)) [
  | inl near ↦ elim (cases_eq i at) [
    | inl e ↦ (let got : slice_index (slice_set words at v) i ≡ v = ap (slice_index (slice_set words at v)) e ∙ get_or-set_same words at v 0 near in subst (λ x. x < 2 ^ 64) (sym got) small)
    | inr apart ↦ subst (λ x. x < 2 ^ 64) (sym (get_or-set_other words at i v 0 apart)) (all i)
  ]
  | inr far ↦ subst (λ ws. slice_index ws i < 2 ^ 64) (sym (set_past words at v far)) (all i)
]

-- none is loaded yet
pub none_words : AreWords (replicate 32 0)
none_words = record { small = λ i. subst (λ x. x < 2 ^ 64) (sym (zeros 32 i)) (omega arith); whole = refl }

-- one more is
pub set_words : (words : List ℕ) (at v : ℕ) → v < 2 ^ 64 → AreWords words → AreWords (slice_set words at v)
set_words words at v small a = record { small = set_below words at v small a.small; whole = length-set words at v ∙ a.whole }

abbrev pub AreLoaded : Loaded → Type 0
AreLoaded (On load) = AreWords load.words
AreLoaded (All words) = AreWords words

pub load_words : (load : Load) (n : ℕ) → n < 2 ^ 64 → AreWords load.words → AreLoaded (load_taken load n)
load_words load n small a = by (nat_lt load.next 31) (set_words load.words load.next n small a)
  where
    by : (b : Bool) → AreWords (slice_set load.words load.next n) → AreLoaded (if b then On (record { words = slice_set load.words load.next n; next = load.next + 1 }) else All (slice_set load.words load.next n))
    by true w = w
    by false w = w

-- those of a bucket are put in
pub put_words : (buckets : Buckets) (place : Role) (words : List ℕ) → AreWords words → ((p : Role) → AreWords (words_in buckets p)) → (p : Role) → AreWords (words_in (with_words place words buckets) p)
put_words buckets place words a all p = elim (cases_place p place) [
  | inl e ↦ subst (λ (q : Role). AreWords (words_in (with_words place words buckets) q)) (sym e) (subst AreWords (sym (words_this buckets words place)) a)
  | inr other ↦ subst AreWords (sym (words_other buckets words place p other)) (all p)
]
