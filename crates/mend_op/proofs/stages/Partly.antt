-- A stage in the middle: it begins, words that are as they are to be are passed over, one is stored, and at the end all are made.
use Rattle.std.proofs.Common.{◌≡◌, ◌≢◌, ℕ, ◌+◌, ◌^◌, ◌<◌, ◌≤◌, ◌⊎◌, false, List, length, slice_index, slice_set, inl, inr, refl, sym, ap, ◌∙◌, arith}
use Rattle.std.specs.Prelude.{◌==◌}
use Rattle.std.proofs.lemmas.Bool.{cases_eq, cases_lt, eqb-true, not-false}
use Rattle.std.proofs.lemmas.List.{get_or-set_same, get_or-set_other}
use Rattle.std.proofs.lemmas.Grind.{same_number_lists}
use Rattle.image_layout.specs.Places.{words_of_buckets}
use Rattle.whole_segment.proofs.Words.{words_long}
use Rattle.mend_op.specs.declared.stage.Stage.{Stage}
use Rattle.mend_op.specs.declared.op.MendOp.{MendOp}
use Rattle.mend_op.specs.Stages.{most, place, made_word, made}
use Rattle.mend_op.specs.Steps.{with_stored, prepared, is_changed, changed_from}
use Rattle.mend_op.specs.Stands.{IsPartly}
use Rattle.rounds.proofs.Seeking.{seek_behind, seek_within, seek_fails}
use Rattle.mend_op.proofs.stages.Placing.{place_low, place_apart, made_cases, made_is}

-- IT BEGINS
pub partly_begun : (op : MendOp) (stage : Stage) → ((i : ℕ) → slice_index op.words i < 2 ^ 64) → IsPartly op.guarded op.words (prepared stage op).next stage op.words 0
partly_begun op stage small = record {
  near = omega arith;
  small = small;
  makes = refl;
  behind = λ m from low. refl;
  others = λ i low. elim (made_cases op.words op.guarded.site.geometry op.guarded.head stage i low) [
    | inl same ↦ inl (sym (made_is op.words op.guarded.site.geometry op.guarded.head stage i low ∙ same))
    | inr p ↦ inr (p.0, omega arith, p.1, p.2)
  ];
}

module _ (op : MendOp) (stage : Stage) (base : List ℕ) (n : ℕ) (partly : IsPartly op.guarded op.words op.next stage base n) where
  -- a word that the stage may not change is as it was
  pub untouched : (i : ℕ) → i < words_of_buckets → ((m : ℕ) → m < most stage → i ≢ place stage m) → slice_index op.words i ≡ slice_index base i
  untouched i low apart = elim (partly.others i low) [
    | inr p ↦ absurd (apart p.0 p.2 p.3)
    | inl same ↦ same ∙ ap (λ (l : List ℕ). slice_index l i) partly.makes ∙ made_is base op.guarded.site.geometry op.guarded.head stage i low
        ∙ elim (made_cases base op.guarded.site.geometry op.guarded.head stage i low) [ inl kept ↦ kept | inr p ↦ absurd (apart p.0 p.1 p.2) ]
  ]

  -- one that it may change is as it was, or as it is to be
  pub either_way : (m : ℕ) → m < most stage → (slice_index op.words (place stage m) ≡ slice_index base (place stage m)) ⊎ (slice_index op.words (place stage m) ≡ slice_index op.next (place stage m))
  either_way m low = elim (cases_lt m n) [
    | inr behind ↦ inl (partly.behind m behind low)
    | inl before ↦ elim (partly.others (place stage m) (place_low stage m low)) [
      | inl same ↦ inr same
      | inr p ↦ (let is = place_apart stage m p.0 p.3 in let from = p.1 in absurd (omega (arith, is, from, before)))
    ]
  ]

  -- ---- those that are as they are to be are passed over
  same_here : (m : ℕ) → is_changed op stage m ≡ false → slice_index op.words (place stage m) ≡ slice_index op.next (place stage m)
  same_here m fails = eqb-true (slice_index op.words (place stage m)) (slice_index op.next (place stage m)) (not-false (slice_index op.words (place stage m) == slice_index op.next (place stage m)) fails)

  pub passed_over : IsPartly op.guarded op.words op.next stage base (changed_from op stage n)
  passed_over =
      let on = seek_behind (is_changed op stage) (most stage) n in
      record {
        near = seek_within (is_changed op stage) (most stage) n partly.near;
        small = partly.small;
        makes = partly.makes;
        behind = λ m from low. partly.behind m (omega (arith, on, from)) low;
        others = λ i low. elim (partly.others i low) [
          | inl same ↦ inl same
          | inr p ↦ elim (cases_lt p.0 (changed_from op stage n)) [
            | inr behind ↦ inr (p.0, behind, p.2, p.3)
            | inl before ↦ inl (ap (slice_index op.words) p.3 ∙ same_here p.0 (seek_fails (is_changed op stage) (most stage) n p.0 p.1 before) ∙ ap (slice_index op.next) (sym p.3))
          ]
        ];
      }

  -- ---- THE WORD OF THIS NUMBER IS STORED
  module _ (long : length op.words ≡ words_of_buckets) (low : n < most stage) where
    abbrev here : ℕ
    here = place stage n

    abbrev value : ℕ
    value = slice_index op.next here

    within : here < length op.words
    within = let inside = place_low stage n low in omega (arith, inside, long)

    pub stored_here : slice_index (slice_set op.words here value) here ≡ value
    stored_here = get_or-set_same op.words here value 0 within

    pub stored_other : (j : ℕ) → (j ≡ here → ⊥) → slice_index (slice_set op.words here value) j ≡ slice_index op.words j
    stored_other j apart = get_or-set_other op.words here j value 0 apart

    pub partly_stored : IsPartly op.guarded (with_stored op here).words op.next stage base (n + 1)
    partly_stored = record {
      near = omega (arith, low);
      small = partly.small;
      makes = partly.makes;
      behind = λ m from far. stored_other (place stage m) (λ same. (let is = place_apart stage m n same in omega (arith, is, from))) ∙ partly.behind m (omega (arith, from)) far;
      others = λ j inside. elim (cases_eq j here) [
        | inl same ↦ inl (ap (slice_index (slice_set op.words here value)) same ∙ stored_here ∙ ap (slice_index op.next) (sym same))
        | inr apart ↦ elim (partly.others j inside) [
          | inl same ↦ inl (stored_other j apart ∙ same)
          | inr p ↦ inr (p.0, later p.0 p.1 (λ is. apart (p.3 ∙ ap (place stage) is)), p.2, p.3)
        ]
      ];
    }
      where
        later : (m : ℕ) → n ≤ m → (m ≡ n → ⊥) → n + 1 ≤ m
        later m from apart = omega (arith, from, apart)

  -- ---- AT THE END ALL WORDS ARE MADE
  pub all_made : length op.words ≡ words_of_buckets → n ≡ most stage → op.words ≡ made stage op.guarded.site.geometry op.guarded.head base
  all_made long last =
      let each : length op.next ≡ words_of_buckets = ap length partly.makes ∙ words_long words_of_buckets (made_word stage op.guarded.site.geometry op.guarded.head base) in
      same_number_lists op.words op.next (long ∙ sym each) (λ i low. same i (omega (arith, low, long))) ∙ partly.makes
    where
      same : (i : ℕ) → i < words_of_buckets → slice_index op.words i ≡ slice_index op.next i
      same i low = elim (partly.others i low) [
        | inl is ↦ is
        | inr p ↦ (let from = p.1 in let far = p.2 in absurd (omega (arith, from, far, last)))
      ]
