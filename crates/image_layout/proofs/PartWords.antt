-- Each part of an image lies within its words, and parts with the same word number are the same part.
use Rattle.std.proofs.Common.{◌≡◌, ℕ, ◌+◌, ◌^◌, ◌<◌, ap, ⊎_elim, arith}
use Rattle.std.proofs.lemmas.Bool.{cases_lt}
use Rattle.std.proofs.lemmas.Nat.{pow_pos}
use Rattle.image_layout.specs.Places.{entry_at}
use Rattle.image_layout.specs.Parts.{front, entry, head, meta, key, value, PartsWithin, PartsApart}
use Rattle.image_layout.proofs.Areas.{entry_before, power_le, power_double}

pub parts_within : PartsWithin
parts_within shape (front w) has = omega arith
parts_within shape (entry e i) has = omega (arith, entry_before shape e i has.0 has.1)
parts_within shape (head s w) has = omega arith
parts_within shape (meta s b w) has = omega arith
parts_within shape (key s b r) has = omega arith
parts_within shape (value s b r) has = omega arith

-- an entry of one area lies before each entry of a deeper area
area_before : (e f i : ℕ) → i < 2 ^ e → e < f → entry_at e i < entry_at f 0
area_before e f i below deeper = omega (arith, power_double e, power_le (e + 1) f (omega arith), pow_pos e)

-- entries with the same word number are of the same area
same_area : (e f i j : ℕ) → i < 2 ^ e → j < 2 ^ f → entry_at e i ≡ entry_at f j → e ≡ f
same_area e f i j below_e below_f same =
    let shallow : e < f → e ≡ f = λ less. absurd (omega (arith, area_before e f i below_e less)) in
    let deep : f < e → e ≡ f = λ less. absurd (omega (arith, area_before f e j below_f less)) in
    ⊎_elim shallow (λ more. ⊎_elim deep (λ least. omega arith) (cases_lt f e)) (cases_lt e f)

pub parts_apart : PartsApart
parts_apart shape (front w) (front v) has_p has_q same = ap front same
parts_apart shape (front w) (entry f j) has_p has_q same = absurd (omega (arith, pow_pos f))
parts_apart shape (front w) (head t v) has_p has_q same = absurd (omega arith)
parts_apart shape (front w) (meta t c v) has_p has_q same = absurd (omega arith)
parts_apart shape (front w) (key t c q) has_p has_q same = absurd (omega arith)
parts_apart shape (front w) (value t c q) has_p has_q same = absurd (omega arith)
parts_apart shape (entry e i) (front v) has_p has_q same = absurd (omega (arith, pow_pos e))
parts_apart shape (entry e i) (entry f j) has_p has_q same =
    let area : e ≡ f = same_area e f i j has_p.1 has_q.1 same in
    let place : i ≡ j = omega (arith, ap (λ n. 2 ^ n) area) in
    cc
parts_apart shape (entry e i) (head t v) has_p has_q same = absurd (omega (arith, entry_before shape e i has_p.0 has_p.1))
parts_apart shape (entry e i) (meta t c v) has_p has_q same = absurd (omega (arith, entry_before shape e i has_p.0 has_p.1))
parts_apart shape (entry e i) (key t c q) has_p has_q same = absurd (omega (arith, entry_before shape e i has_p.0 has_p.1))
parts_apart shape (entry e i) (value t c q) has_p has_q same = absurd (omega (arith, entry_before shape e i has_p.0 has_p.1))
parts_apart shape (head s w) (front v) has_p has_q same = absurd (omega arith)
parts_apart shape (head s w) (entry f j) has_p has_q same = absurd (omega (arith, entry_before shape f j has_q.0 has_q.1))
parts_apart shape (head s w) (head t v) has_p has_q same =
    let same_s : s ≡ t = omega arith in
    let same_w : w ≡ v = omega arith in
    cc
parts_apart shape (head s w) (meta t c v) has_p has_q same = absurd (omega arith)
parts_apart shape (head s w) (key t c q) has_p has_q same = absurd (omega arith)
parts_apart shape (head s w) (value t c q) has_p has_q same = absurd (omega arith)
parts_apart shape (meta s b w) (front v) has_p has_q same = absurd (omega arith)
parts_apart shape (meta s b w) (entry f j) has_p has_q same = absurd (omega (arith, entry_before shape f j has_q.0 has_q.1))
parts_apart shape (meta s b w) (head t v) has_p has_q same = absurd (omega arith)
parts_apart shape (meta s b w) (meta t c v) has_p has_q same =
    let same_s : s ≡ t = omega arith in
    let same_b : b ≡ c = omega arith in
    let same_w : w ≡ v = omega arith in
    cc
parts_apart shape (meta s b w) (key t c q) has_p has_q same = absurd (omega arith)
parts_apart shape (meta s b w) (value t c q) has_p has_q same = absurd (omega arith)
parts_apart shape (key s b r) (front v) has_p has_q same = absurd (omega arith)
parts_apart shape (key s b r) (entry f j) has_p has_q same = absurd (omega (arith, entry_before shape f j has_q.0 has_q.1))
parts_apart shape (key s b r) (head t v) has_p has_q same = absurd (omega arith)
parts_apart shape (key s b r) (meta t c v) has_p has_q same = absurd (omega arith)
parts_apart shape (key s b r) (key t c q) has_p has_q same =
    let same_s : s ≡ t = omega arith in
    let same_b : b ≡ c = omega arith in
    let same_r : r ≡ q = omega arith in
    cc
parts_apart shape (key s b r) (value t c q) has_p has_q same = absurd (omega arith)
parts_apart shape (value s b r) (front v) has_p has_q same = absurd (omega arith)
parts_apart shape (value s b r) (entry f j) has_p has_q same = absurd (omega (arith, entry_before shape f j has_q.0 has_q.1))
parts_apart shape (value s b r) (head t v) has_p has_q same = absurd (omega arith)
parts_apart shape (value s b r) (meta t c v) has_p has_q same = absurd (omega arith)
parts_apart shape (value s b r) (key t c q) has_p has_q same = absurd (omega arith)
parts_apart shape (value s b r) (value t c q) has_p has_q same =
    let same_s : s ≡ t = omega arith in
    let same_b : b ≡ c = omega arith in
    let same_r : r ≡ q = omega arith in
    cc
