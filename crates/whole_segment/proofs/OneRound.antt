-- The lines of a round, before and after one is touched; and the fields by which it is held.
use Rattle.std.proofs.Common.{◌≡◌, ℕ, suc, ◌+◌, ◌-◌, ◌<◌, ◌≤◌, ◌⊎◌, Bool, true, false, cond, List, [], ◌∷◌, ◌++◌, length, set, replicate, refl, sym, ap, ◌∙◌, subst, inl, lit<, arith, length-append}
use Rattle.std.specs.Prelude.{◌||◌, nat_lt, IsTrue}
use Rattle.std.specs.List.{Contains}
use Rattle.std.proofs.lemmas.Bool.{eqb-true, ltb-true}
use Rattle.std.proofs.lemmas.List.{length-replicate, append_assoc}
use Rattle.std.proofs.Math.Seq.{take-append_seam, set-append_seam}
use Rattle.std.proofs.lemmas.List.Elements.{Contains-append_left, Contains-append_right, Contains-push, Contains-push_cases}
use Rattle.whole_segment.specs.declared.round.Round.TheInside.{Inside}
use Rattle.whole_segment.specs.Rounds.{most_lines, ends_with, takes, touched}
use Rattle.whole_segment.specs.OneRound.{lines_of, round_of, IsRound}

ends_has : (lines : List ℕ) (line : ℕ) → ends_with lines line ≡ true → Contains lines line
ends_has [] line e = absurd (cc)
ends_has (first ∷ []) line e = (0, lit< tt, eqb-true first line e)
ends_has (first ∷ (second ∷ rest)) line e = Contains-append_right (first ∷ []) (second ∷ rest) line (ends_has (second ∷ rest) line e)

pub touched_has : (lines : List ℕ) (line : ℕ) → Contains (touched lines line) line
touched_has lines line = by (ends_with lines line) refl
  where
    by : (b : Bool) → ends_with lines line ≡ b → Contains (cond b lines (lines ++ line ∷ [])) line
    by true e = ends_has lines line e
    by false e = Contains-push lines line

pub touched_keeps : (lines : List ℕ) (line other : ℕ) → Contains lines other → Contains (touched lines line) other
touched_keeps lines line other has = by (ends_with lines line)
  where
    by : (b : Bool) → Contains (cond b lines (lines ++ line ∷ [])) other
    by true = has
    by false = Contains-append_left lines (line ∷ []) other has

pub touched_only : (lines : List ℕ) (line other : ℕ) → Contains (touched lines line) other → Contains lines other ⊎ (line ≡ other)
touched_only lines line other = by (ends_with lines line)
  where
    by : (b : Bool) → Contains (cond b lines (lines ++ line ∷ [])) other → Contains lines other ⊎ (line ≡ other)
    by true has = inl has
    by false has = Contains-push_cases lines line other has

-- ---- the fields
-- a round that takes a line with which it does not end has room for it
pub has_room : (lines : List ℕ) (line : ℕ) → IsTrue (takes lines line) → ends_with lines line ≡ false → length lines < 8
has_room lines line h e = ltb-true (length lines) 8 (subst (λ b. (b || nat_lt (length lines) 8) ≡ true) e h)

-- at most eight lines are those of their fields
fields_stand : (lines : List ℕ) → length lines ≤ 8 → IsRound (round_of lines)
fields_stand lines most = record {
  eight = (let zeros = length-replicate {A = ℕ} (most_lines - length lines) 0 in let all = length-append lines (replicate (most_lines - length lines) 0) in omega (arith, zeros, all, most));
  most = most;
  fields = ap round_of (take-append_seam lines (replicate (most_lines - length lines) 0));
}

-- the first place that is not used gets a line
place_filled : (lines : List ℕ) (line n : ℕ) → most_lines - length lines ≡ suc n → set (lines ++ replicate (most_lines - length lines) 0) (length lines) line ≡ (lines ++ line ∷ []) ++ replicate n 0
place_filled lines line n e = ap (λ m. set (lines ++ replicate m 0) (length lines) line) e ∙ set-append_seam lines 0 (replicate n 0) line
    ∙ sym (append_assoc lines (line ∷ []) (replicate n 0))

fields_touched : (lines : List ℕ) (line : ℕ) → length lines < 8 → IsRound (record { lines = set (lines ++ replicate (most_lines - length lines) 0) (length lines) line; count = length lines + 1 })
fields_touched lines line less =
    let more = length-append lines (line ∷ []) in
    let places = place_filled lines line (most_lines - length (lines ++ line ∷ [])) (omega (arith, more, less)) in
    subst IsRound (λ i. record { lines = sym places i; count = more i }) (fields_stand (lines ++ line ∷ []) (omega (arith, more, less)))

pub fields_more : (a : Inside) (line : ℕ) → IsRound a → (lines : List ℕ) → lines_of a ≡ lines → length lines < 8
    → IsRound (record { lines = set a.lines a.count line; count = a.count + 1 })
fields_more a line is lines same less =
    subst (λ (b : Inside). IsRound (record { lines = set b.lines b.count line; count = b.count + 1 })) is.fields
    (fields_touched (lines_of a) line (subst (λ (l : List ℕ). length l < 8) (sym same) less))
