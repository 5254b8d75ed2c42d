-- Images that agree but for locks and overflow parts have the same records, and the same records stand right.
use Rattle.std.proofs.Common.{◌≡◌, ◌≢◌, ℕ, ◌+◌, ◌*◌, ◌<◌, ◌≤◌, ◌⊎◌, ap, sym, ◌∙◌, arith, inl, inr}
use Rattle.hash_word.specs.Hash.{home_of, finger_of, probing_of}
use Rattle.image_layout.specs.Bucket.{member, record_slots}
use Rattle.image_layout.specs.Places.{Shape, head_at, bucket_at, key_at, value_at, buckets}
use Rattle.sound_image.specs.Segments.{ImageWords}
use Rattle.sound_image.specs.Records.{key_hash, word_in, slot_key, slot_value, slot_hash, HasRecord}
use Rattle.sound_image.specs.Rules.{InItsBucket, StandsRight, RecordsStandRight, KeysHaveOneValue}
use Rattle.sound_image.specs.Agreement.{AgreeButForLocksAndOverflow}
use Rattle.sound_image.proofs.LowBits.{same_allocated, same_member, same_finger}
use Rattle.sound_image.proofs.SameRecords.{HasSameRecords, record_there, own_there}

pub turned : (shape : Shape) (word other : ImageWords) → AgreeButForLocksAndOverflow shape word other → AgreeButForLocksAndOverflow shape other word
turned shape word other agree = record {
  elsewhere = λ i apart. sym (agree.elsewhere i apart);
  records = λ s b segment bucket. let there = agree.records s b segment bucket in record { slots = sym there.slots; fingers = sym there.fingers };
}

-- WHERE A HEADER, fingerprints, a key and a value stand there is no lock and no overflow part
low_part : (n : ℕ) → (n ≡ 0) ⊎ (n ≡ 1) ⊎ (n ≡ 3) → (n ≤ 3) × (n ≢ 2)
low_part n (inl e) = (omega arith, λ two. omega arith)
low_part n (inr (inl e)) = (omega arith, λ two. omega arith)
low_part n (inr (inr e)) = (omega arith, λ two. omega arith)

not_head : (f s t b n m : ℕ) → b < buckets → n ≤ 3 → m < 32 → f + 2144 * s + m ≡ f + 2144 * t + 32 + 32 * b + n → ⊥
not_head f s t b n m bucket low inside e = omega arith

not_part : (f s t a b m n : ℕ) → a < buckets → b < buckets → n < 32 → m < 32 → m ≢ n → f + 2144 * s + 32 + 32 * a + m ≡ f + 2144 * t + 32 + 32 * b + n → ⊥
not_part f s t a b m n bucket_a bucket_b inside_n inside_m other e = omega arith

module _ (shape : Shape) (word other : ImageWords) (agree : AgreeButForLocksAndOverflow shape word other) where
  same_header : (s : ℕ) → word (head_at shape s + 1) ≡ other (head_at shape s + 1)
  same_header s =
      agree.elsewhere (head_at shape s + 1) (λ o. not_head _ s o.s o.b o.part 1 o.bucket (low_part o.part o.which).0 (omega arith) o.place)

  same_part : (s b m i : ℕ) → b < buckets → m < 32 → m ≡ 2 ⊎ 4 ≤ m → i ≡ bucket_at shape s b + m → word i ≡ other i
  same_part s b m i bucket inside kept place =
      agree.elsewhere i
      (λ o. let low = low_part o.part o.which in not_part _ s o.s b o.b m o.part bucket o.bucket (omega (arith, low.0)) inside (apart o.part low kept) (sym place ∙ o.place))
    where
      apart : (n : ℕ) → (n ≤ 3) × (n ≢ 2) → m ≡ 2 ⊎ 4 ≤ m → m ≢ n
      apart n low (inl two) e = low.1 (sym e ∙ two)
      apart n low (inr high) e = omega (arith, low.0)

  same_key : (s b r : ℕ) → b < buckets → r < record_slots → slot_key shape word s b r ≡ slot_key shape other s b r
  same_key s b r bucket slot = same_part s b (4 + 2 * r) (key_at shape s b r) bucket (omega arith) (inr (omega arith)) (omega arith)

  same_value : (s b r : ℕ) → b < buckets → r < record_slots → slot_value shape word s b r ≡ slot_value shape other s b r
  same_value s b r bucket slot = same_part s b (5 + 2 * r) (value_at shape s b r) bucket (omega arith) (inr (omega arith)) (omega arith)

  pub same_records : HasSameRecords shape word other
  same_records = record {
    header = same_header;
    taken = λ s b r segment bucket slot. same_allocated r _ _ slot (agree.records s b segment bucket).slots;
    key = same_key;
    value = same_value;
  }

  pub right_there : (s b r : ℕ) → HasRecord shape word s b r → StandsRight shape word s b r → StandsRight shape other s b r
  right_there s b r has right =
      let hash = ap (key_hash shape) (same_key s b r has.bucket has.slot) in
      let second = same_part s b 2 (bucket_at shape s b + 2) has.bucket (omega arith) (inl (omega arith)) (omega arith) in
      record {
        bucket = moved hash (same_member r _ _ has.slot (agree.records s b has.segment has.bucket).slots) right.bucket;
        fingerprint = sym (same_finger r _ _ _ _ has.slot second (agree.records s b has.segment has.bucket).fingers) ∙ right.fingerprint ∙ ap finger_of hash;
      }
    where
      moved : slot_hash shape word s b r ≡ slot_hash shape other s b r → member r (word_in shape word s b 1) ≡ member r (word_in shape other s b 1)
          → InItsBucket shape word s b r → InItsBucket shape other s b r
      moved hash is_member (inl home) = inl (home.0 ∙ ap home_of hash, sym is_member ∙ home.1)
      moved hash is_member (inr (inl probing)) = inr (inl (probing.0 ∙ ap (λ h. probing_of (home_of h)) hash, sym is_member ∙ probing.1))
      moved hash is_member (inr (inr stash)) = inr (inr stash)

-- WHAT HOLDS OF ONE holds of the other
module _ (shape : Shape) (word other : ImageWords) (agree : AgreeButForLocksAndOverflow shape word other) where
  back : AgreeButForLocksAndOverflow shape other word
  back = turned shape word other agree

  same_back : HasSameRecords shape other word
  same_back = same_records shape other word back

  pub rule_4_there : (w : ℕ) → RecordsStandRight shape word w → RecordsStandRight shape other w
  rule_4_there w right s b r own at =
      let here = own_there shape other word same_back s b r own in
      right_there shape word other agree s b r here.record_there (right s b r here at)

  pub rule_5_there : (w : ℕ) → KeysHaveOneValue shape word w → KeysHaveOneValue shape other w
  rule_5_there w one s b r own at b' r' has before same =
      let here = own_there shape other word same_back s b r own in
      let earlier = record_there shape other word same_back s b' r' has in
      let this = own.record_there in
      sym (same_value shape word other agree s b' r' has.bucket has.slot)
      ∙ one s b r here at b' r' earlier before
      (same_key shape word other agree s b' r' has.bucket has.slot ∙ same ∙ sym (same_key shape word other agree s b r this.bucket this.slot))
      ∙ same_value shape word other agree s b r this.bucket this.slot
