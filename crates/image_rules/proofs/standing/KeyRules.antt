-- A rule of records is broken first at the key of the first record of which it does not hold: rules 4 and 5.
use Rattle.std.proofs.Common.{◌≡◌, ℕ, ◌<◌, ◌≤◌, sym, subst, arith, ⊎_elim}
use Rattle.std.proofs.lemmas.Bool.{cases_lt}
use Rattle.image_layout.specs.Places.{Shape, key_at}
use Rattle.sound_image.specs.Segments.{ImageWords}
use Rattle.sound_image.specs.Records.{HasRecord}
use Rattle.sound_image.specs.Rules.{RecordsStandRight, KeysHaveOneValue}
use Rattle.image_rules.specs.declared.records.RecordRule.{RecordRule}
use Rattle.image_rules.specs.declared.records.RecordRule.TheVariants.{Stand, Value}
use Rattle.image_rules.specs.Breach.{IsLeast}
use Rattle.image_rules.specs.Slots.{IsTaken, Follows, FollowBelow, BucketsFollow, IsFirstKey, SegmentsFollow, IsFirstOfAll}

-- KEYS IN ORDER: what holds of the records before one holds of each whose key stands before its key
module _ (shape : Shape) (word : ImageWords) where
  in_bucket : (rule : RecordRule) (s b r c t : ℕ) → FollowBelow shape word rule s b r → c ≡ b → t < r → IsTaken shape word s c t → Follows shape word rule s c t
  in_bucket rule s b r c t before same less taken =
      subst (λ (d : ℕ). Follows shape word rule s d t) (sym same) (before t less (subst (λ (d : ℕ). IsTaken shape word s d t) same taken))

  pub keys_before : (rule : RecordRule) (s b r c t : ℕ) → BucketsFollow shape word rule s b → FollowBelow shape word rule s b r
      → r < 14 → t < 14 → IsTaken shape word s c t → key_at shape s c t < key_at shape s b r → Follows shape word rule s c t
  keys_before rule s b r c t buckets before slot fits taken less =
      ⊎_elim (λ (lower : c < b). buckets c lower t fits taken)
      (λ (higher : b ≤ c).
      let same : c ≡ b = omega (arith, less) in
      let earlier : t < r = omega (arith, less) in
      in_bucket rule s b r c t before same earlier taken)
      (cases_lt c b)

  segment_before : (rule : RecordRule) (s w c t : ℕ) → IsFirstKey shape word rule s w → HasRecord shape word s c t → key_at shape s c t < w
      → Follows shape word rule s c t
  segment_before rule s w c t k there less =
      keys_before rule s k.b k.r c t k.buckets_before k.first.before k.first.slot there.slot there.is_allocated (omega (arith, less, k.at_key))

  in_segment : (rule : RecordRule) (s w d c t : ℕ) → IsFirstKey shape word rule s w → d ≡ s → HasRecord shape word d c t → key_at shape d c t < w
      → Follows shape word rule d c t
  in_segment rule s w d c t k same there less =
      subst (λ (e : ℕ). Follows shape word rule e c t) (sym same)
      (segment_before rule s w c t k (subst (λ (e : ℕ). HasRecord shape word e c t) same there) (subst (λ (e : ℕ). key_at shape e c t < w) same less))

  pub records_before : (rule : RecordRule) (w d c t : ℕ) → IsFirstOfAll shape word rule w → HasRecord shape word d c t → key_at shape d c t < w
      → Follows shape word rule d c t
  records_before rule w d c t k there less =
      ⊎_elim (λ (lower : d < k.s). k.segments_before d lower c there.bucket t there.slot there.is_allocated)
      (λ (higher : k.s ≤ d).
      let same : d ≡ k.s = omega (arith, less, k.first.at_key, k.first.bucket, k.first.first.slot) in
      in_segment rule k.s w d c t k.first same there less)
      (cases_lt d k.s)

  pub first_there : (rule : RecordRule) (w : ℕ) (k : IsFirstOfAll shape word rule w) → HasRecord shape word k.s k.first.b k.first.r
  first_there rule w k =
      record { segment = k.segment; bucket = k.first.bucket; slot = k.first.first.slot; is_allocated = k.first.first.taken }

  -- RULE 4
  pub records_stand : SegmentsFollow shape word Stand shape.segments → (w : ℕ) → RecordsStandRight shape word w
  records_stand each w s b r own at =
      each s own.record_there.segment b own.record_there.bucket r own.record_there.slot own.record_there.is_allocated own.owned

  pub first_astray : (w : ℕ) → IsFirstOfAll shape word Stand w → IsLeast (RecordsStandRight shape word) w
  first_astray w k =
      record {
        broken = λ stand. k.first.first.broken
            (λ owned. stand k.s k.first.b k.first.r (record { record_there = first_there Stand w k; owned = owned }) k.first.at_key);
        words_before = λ v less s b r own at. records_before Stand w s b r k own.record_there (omega (arith, less, at)) own.owned;
      }

  -- RULE 5
  pub keys_have_one_value : SegmentsFollow shape word Value shape.segments → (w : ℕ) → KeysHaveOneValue shape word w
  keys_have_one_value each w s b r own at =
      each s own.record_there.segment b own.record_there.bucket r own.record_there.slot own.record_there.is_allocated own.owned

  pub first_of_two_values : (w : ℕ) → IsFirstOfAll shape word Value w → IsLeast (KeysHaveOneValue shape word) w
  first_of_two_values w k =
      record {
        broken = λ one. k.first.first.broken
            (λ owned. one k.s k.first.b k.first.r (record { record_there = first_there Value w k; owned = owned }) k.first.at_key);
        words_before = λ v less s b r own at. records_before Value w s b r k own.record_there (omega (arith, less, at)) own.owned;
      }
