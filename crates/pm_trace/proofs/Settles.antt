-- What a word is after a caller's flushes settled: what one of them held there, or as it was.
use Rattle.std.proofs.Common.{◌≡◌, ℕ, ◌+◌, ◌-◌, ◌*◌, ◌<◌, ◌≤◌, ◌⊎◌, inl, inr, true, false, cond, eqb, List, [], ◌∷◌, ◌++◌, length, get_or, take, drop, refl, sym, ◌∙◌, ap, subst, arith}
use Rattle.std.specs.Prelude.{slice_index}
use Rattle.std.proofs.lemmas.Bool.{cases_Bool, cases_eq, cases_lt, eqb-true, eqb-false}
use Rattle.std.proofs.lemmas.List.{get_or_append_left, get_or-append_right, get_or-take, get_or-drop, length-take-le, length-append, length-drop}
use Rattle.trace.specs.Events.{line_of}
use Rattle.trace.specs.Listed.{Has}
use Rattle.pm_trace.specs.declared.flushes.Flush.{Flush}
use Rattle.pm_trace.specs.FlushLists.{with_line, settled_by}

-- ---- one line

module _ (words : List ℕ) (line : ℕ) (values : List ℕ) (fits : 8 * line + 8 ≤ length words) (eight : length values ≡ 8) where
  before : length (take (8 * line) words) ≡ 8 * line
  before = length-take-le (8 * line) words (omega arith)

  through : length (take (8 * line) words ++ values) ≡ 8 * line + 8
  through = length-append (take (8 * line) words) values ∙ ap (λ n. n + length values) before ∙ ap (λ n. 8 * line + n) eight

  pub length-with_line : length (with_line words line values) ≡ length words
  length-with_line =
      let rest : length (drop (8 * line + 8) words) ≡ length words - (8 * line + 8) = length-drop (8 * line + 8) words in
      let all : length (with_line words line values) ≡ length (take (8 * line) words ++ values) + length (drop (8 * line + 8) words) =
      length-append (take (8 * line) words ++ values) (drop (8 * line + 8) words) in
      let t : length (take (8 * line) words ++ values) ≡ 8 * line + 8 = through in
      omega arith

  pub in_line : (w : ℕ) → line_of w ≡ line → slice_index (with_line words line values) w ≡ slice_index values (w - 8 * line)
  in_line w h =
      let t : length (take (8 * line) words ++ values) ≡ 8 * line + 8 = through in
      let low : 8 * line ≤ w = omega arith in
      let high : w < length (take (8 * line) words ++ values) = omega arith in
      get_or_append_left (take (8 * line) words ++ values) (drop (8 * line + 8) words) 0 w high
      ∙ get_or-append_right (take (8 * line) words) values (8 * line) w 0 before low

  pub off_line : (w : ℕ) → (line_of w ≡ line → ⊥) → slice_index (with_line words line values) w ≡ slice_index words w
  off_line w n =
      let t : length (take (8 * line) words ++ values) ≡ 8 * line + 8 = through in
      let b : length (take (8 * line) words) ≡ 8 * line = before in
      elim (cases_lt w (8 * line)) [
        | inl low ↦ let high : w < length (take (8 * line) words ++ values) = omega arith in
            let within : w < length (take (8 * line) words) = omega arith in
            get_or_append_left (take (8 * line) words ++ values) (drop (8 * line + 8) words) 0 w high
            ∙ get_or_append_left (take (8 * line) words) values 0 w within
            ∙ get_or-take (8 * line) words w 0 low
        | inr low ↦ elim (cases_lt w (8 * line + 8)) [
          | inl high ↦ let on : line_of w ≡ line = omega arith in absurd (n on)
          | inr high ↦ let place : 8 * line + 8 + (w - (8 * line + 8)) ≡ w = omega arith in
              get_or-append_right (take (8 * line) words ++ values) (drop (8 * line + 8) words) (8 * line + 8) w 0 through high
              ∙ get_or-drop (8 * line + 8) words (w - (8 * line + 8)) 0
              ∙ ap (λ i. get_or words i 0) place
        ]
      ]

-- ---- all lines of a caller

-- a line that fits into so many words
abbrev pub Fits : ℕ → Flush → Type 0
Fits count f = (8 * f.line + 8 ≤ count) × (length f.words ≡ 8)

-- the word is as it was, and no flush of the caller is of its line
pub record IsUnsettled (caller : ℕ) (flushes : List Flush) (words : List ℕ) (w : ℕ) : Type 0 where
  pub same : slice_index (settled_by caller flushes words) w ≡ slice_index words w
  pub none : (f : Flush) → Has f flushes → f.caller ≡ caller → f.line ≡ line_of w → ⊥

-- the word is what a flush of the caller holds of it
pub record IsSettledBy (caller : ℕ) (flushes : List Flush) (words : List ℕ) (w : ℕ) : Type 0 where
  pub by : Flush
  pub is_one : Has by flushes
  pub is_caller : by.caller ≡ caller
  pub is_line : by.line ≡ line_of w
  pub value : slice_index (settled_by caller flushes words) w ≡ slice_index by.words (w - 8 * by.line)

abbrev step : ℕ → Flush → List ℕ → List ℕ
step caller f words = cond (eqb f.caller caller) (with_line words f.line f.words) words

step_own : (caller : ℕ) (f : Flush) (words : List ℕ) → eqb f.caller caller ≡ true → step caller f words ≡ with_line words f.line f.words
step_own caller f words t = ap (λ b. cond b (with_line words f.line f.words) words) t

step_other : (caller : ℕ) (f : Flush) (words : List ℕ) → eqb f.caller caller ≡ false → step caller f words ≡ words
step_other caller f words t = ap (λ b. cond b (with_line words f.line f.words) words) t

length-step : (caller : ℕ) (f : Flush) (words : List ℕ) → Fits (length words) f → length (step caller f words) ≡ length words
length-step caller f words fits = elim (cases_Bool (eqb f.caller caller)) [
  | inl t ↦ ap length (step_own caller f words t) ∙ length-with_line words f.line f.words fits.0 fits.1
  | inr t ↦ ap length (step_other caller f words t)
]

pub settled_at : (caller : ℕ) (flushes : List Flush) (words : List ℕ) (w : ℕ) → ((f : Flush) → Has f flushes → Fits (length words) f)
    → IsUnsettled caller flushes words w ⊎ IsSettledBy caller flushes words w
settled_at caller [] words w fit = inl (record { same = refl; none = λ f h c l. h })
settled_at caller (f ∷ flushes) words w fit =
    let same_length : length (step caller f words) ≡ length words = length-step caller f words (fit f (inl refl)) in
    elim (settled_at caller flushes (step caller f words) w (λ g h. subst (λ n. Fits n g) (sym same_length) (fit g (inr h)))) [
      | inr s ↦ inr (record { by = s.by; is_one = inr s.is_one; is_caller = s.is_caller; is_line = s.is_line; value = s.value })
      | inl u ↦ elim (cases_Bool (eqb f.caller caller)) [
        | inl t ↦ let own : slice_index (settled_by caller flushes (step caller f words)) w ≡ slice_index (with_line words f.line f.words) w =
            u.same ∙ ap (λ ws. slice_index ws w) (step_own caller f words t) in
            elim (cases_eq (line_of w) f.line) [
              | inl e ↦ inr (record {
                by = f;
                is_one = inl refl;
                is_caller = eqb-true f.caller caller t;
                is_line = sym e;
                value = own ∙ in_line words f.line f.words (fit f (inl refl)).0 (fit f (inl refl)).1 w e;
              })
              | inr n ↦ inl (record {
                same = own ∙ off_line words f.line f.words (fit f (inl refl)).0 (fit f (inl refl)).1 w n;
                none = λ g h c l. elim h [ inl e ↦ n (sym (sym (ap (λ (z : Flush). z.line) e) ∙ l)) | inr q ↦ u.none g q c l ];
              })
            ]
        | inr t ↦ inl (record {
          same = u.same ∙ ap (λ ws. slice_index ws w) (step_other caller f words t);
          none = λ g h c l. elim h [
            | inl e ↦ eqb-false f.caller caller t (sym (ap (λ (z : Flush). z.caller) e) ∙ c)
            | inr q ↦ u.none g q c l
          ];
        })
      ]
    ]

pub length-settled_by : (caller : ℕ) (flushes : List Flush) (words : List ℕ) → ((f : Flush) → Has f flushes → Fits (length words) f)
    → length (settled_by caller flushes words) ≡ length words
length-settled_by caller [] words fit = refl
length-settled_by caller (f ∷ flushes) words fit =
    let same_length : length (step caller f words) ≡ length words = length-step caller f words (fit f (inl refl)) in
    length-settled_by caller flushes (step caller f words) (λ g h. subst (λ n. Fits n g) (sym same_length) (fit g (inr h))) ∙ same_length
