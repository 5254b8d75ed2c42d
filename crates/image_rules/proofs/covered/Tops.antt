-- The top bits of a hash: fewer of them are those of its leaf, and each prefix has its leaves in a row.
use Rattle.std.proofs.Common.{◌≡◌, ℕ, ◌+◌, ◌-◌, ◌*◌, ◌/◌, ◌^◌, ◌<◌, ◌≤◌, ◌∙◌, sym, ap, subst, arith, ⊎_elim}
use Rattle.std.proofs.lemmas.Bool.{cases_lt}
use Rattle.std.proofs.lemmas.Nat.{pow_pos, pow-add, shr-shr, shl-shr}
use Rattle.std.proofs.Math.Nat.{div-eq_of_lt-le, div-mul-le_self, lt-div-mul-add, mul-le-mul_right, mul-lt-mul_of_pos_right}
use Rattle.image_layout.proofs.Areas.{power_le, power_double}
use Rattle.hash_word.specs.Hash.{top, index_of, Covers}
use Rattle.segment_head.specs.declared.prefix.Prefix.{Prefix}
use Rattle.image_rules.specs.Leaves.{IsLeafUnder}

-- FEWER TOP BITS
pub top_of_top : (d e h : ℕ) → d ≤ e → e ≤ 64 → top d h ≡ top e h / 2 ^ (e - d)
top_of_top d e h less most =
    let parts : 64 - d ≡ (64 - e) + (e - d) = omega arith in
    ap (λ (n : ℕ). h / 2 ^ n) parts ∙ sym (shr-shr h (64 - e) (e - d))

pub one_fewer : (d h : ℕ) → d < 64 → top d h ≡ top (d + 1) h / 2
one_fewer d h less =
    let one : d + 1 - d ≡ 1 = omega arith in
    top_of_top d (d + 1) h (omega arith) (omega arith) ∙ ap (λ (n : ℕ). top (d + 1) h / 2 ^ n) one

-- a quotient by its bounds
quotient_from : (x m q : ℕ) → x / m ≡ q → q * m ≤ x
quotient_from x m q is = subst (λ (n : ℕ). n * m ≤ x) is (div-mul-le_self x m)

quotient_to : (x m q : ℕ) → 0 < m → x / m ≡ q → x < (q + 1) * m
quotient_to x m q pos is =
    let above : x < x / m * m + m = lt-div-mul-add pos in
    let here : x < q * m + m = subst (λ (n : ℕ). x < n * m + m) is above in
    omega arith

-- LEAVES under a prefix
module _ (greatest : ℕ) (prefix : Prefix) (most : greatest ≤ 16) (deep : prefix.depth ≤ greatest) where
  pub covered_under : (h : ℕ) → Covers prefix.depth prefix.pattern h → IsLeafUnder greatest prefix (index_of greatest h)
  covered_under h covers =
      let is : top greatest h / 2 ^ (greatest - prefix.depth) ≡ prefix.pattern = sym (top_of_top prefix.depth greatest h deep (omega arith)) ∙ covers in
      record {
        from = quotient_from (top greatest h) (2 ^ (greatest - prefix.depth)) prefix.pattern is;
        to = quotient_to (top greatest h) (2 ^ (greatest - prefix.depth)) prefix.pattern (pow_pos (greatest - prefix.depth)) is;
      }

  pub under_covered : (h : ℕ) → IsLeafUnder greatest prefix (index_of greatest h) → Covers prefix.depth prefix.pattern h
  under_covered h under =
      top_of_top prefix.depth greatest h deep (omega arith) ∙ div-eq_of_lt-le (2 ^ (greatest - prefix.depth)) under.from under.to

  pub under_below : (l : ℕ) → prefix.pattern < 2 ^ prefix.depth → IsLeafUnder greatest prefix l → l < 2 ^ greatest
  under_below l fits under =
      let more : (prefix.pattern + 1) * 2 ^ (greatest - prefix.depth) ≤ 2 ^ prefix.depth * 2 ^ (greatest - prefix.depth) =
      mul-le-mul_right (2 ^ (greatest - prefix.depth)) (omega arith) in
      let parts : greatest ≡ prefix.depth + (greatest - prefix.depth) = omega arith in
      let whole : 2 ^ greatest ≡ 2 ^ prefix.depth * 2 ^ (greatest - prefix.depth) =
      ap (λ (n : ℕ). 2 ^ n) parts ∙ pow-add 2 prefix.depth (greatest - prefix.depth) in
      omega (arith, under.to, more, whole)

-- A HASH of each leaf
unfoldable pub leaf_hash : ℕ → ℕ → ℕ
leaf_hash greatest l = l * 2 ^ (64 - greatest)

pub leaf_hash-index : (greatest l : ℕ) → index_of greatest (leaf_hash greatest l) ≡ l
unfolding leaf_hash
leaf_hash-index greatest l = shl-shr l (64 - greatest)

pub leaf_hash-fits : (greatest l : ℕ) → greatest ≤ 64 → l < 2 ^ greatest → leaf_hash greatest l < 2 ^ 64
unfolding leaf_hash
leaf_hash-fits greatest l most below =
    let more : l * 2 ^ (64 - greatest) < 2 ^ greatest * 2 ^ (64 - greatest) = mul-lt-mul_of_pos_right below (pow_pos (64 - greatest)) in
    let parts : 64 ≡ greatest + (64 - greatest) = omega arith in
    let whole : 2 ^ 64 ≡ 2 ^ greatest * 2 ^ (64 - greatest) = ap (λ (n : ℕ). 2 ^ n) parts ∙ pow-add 2 greatest (64 - greatest) in
    omega (arith, more, whole)

pub index-below : (greatest h : ℕ) → greatest ≤ 64 → h < 2 ^ 64 → index_of greatest h < 2 ^ greatest
index-below greatest h most fits =
    let parts : 64 ≡ (64 - greatest) + greatest = omega arith in
    let whole : 2 ^ 64 ≡ 2 ^ (64 - greatest) * 2 ^ greatest = ap (λ (n : ℕ). 2 ^ n) parts ∙ pow-add 2 (64 - greatest) greatest in
    let low : h / 2 ^ (64 - greatest) * 2 ^ (64 - greatest) ≤ h = div-mul-le_self h (2 ^ (64 - greatest)) in
    ⊎_elim (λ (below : top greatest h < 2 ^ greatest). below)
    (λ (above : 2 ^ greatest ≤ top greatest h).
    let more : 2 ^ greatest * 2 ^ (64 - greatest) ≤ h / 2 ^ (64 - greatest) * 2 ^ (64 - greatest) = mul-le-mul_right (2 ^ (64 - greatest)) above in
    absurd (omega (arith, more, low, whole, fits)))
    (cases_lt (top greatest h) (2 ^ greatest))

-- NODES 2^d + p differ where depth or pattern do
node_depth : (d p e q : ℕ) → p < 2 ^ d → 2 ^ d + p ≡ 2 ^ e + q → d < e → ⊥
node_depth d p e q fits same less =
    let more : 2 ^ (d + 1) ≤ 2 ^ e = power_le (d + 1) e (omega arith) in
    absurd (omega (arith, more, power_double d, fits, same))

pub node-depth : (d p e q : ℕ) → p < 2 ^ d → q < 2 ^ e → 2 ^ d + p ≡ 2 ^ e + q → d ≡ e
node-depth d p e q one two same =
    ⊎_elim (λ (less : d < e). absurd (node_depth d p e q one same less))
    (λ (more : e ≤ d).
    ⊎_elim (λ (less : e < d). absurd (node_depth e q d p two (sym same) less))
    (λ (level : d ≤ e). omega arith)
    (cases_lt e d))
    (cases_lt d e)

pub node-pattern : (d p e q : ℕ) → p < 2 ^ d → q < 2 ^ e → 2 ^ d + p ≡ 2 ^ e + q → p ≡ q
node-pattern d p e q one two same =
    let level = node-depth d p e q one two same in
    let here : 2 ^ d ≡ 2 ^ e = ap (λ (n : ℕ). 2 ^ n) level in
    omega (arith, here, same)

pub node-within : (d p greatest : ℕ) → d ≤ greatest → p < 2 ^ d → 2 ^ d + p < 2 ^ (greatest + 1)
node-within d p greatest most fits = omega (arith, power_le (d + 1) (greatest + 1) (omega arith), power_double d)
