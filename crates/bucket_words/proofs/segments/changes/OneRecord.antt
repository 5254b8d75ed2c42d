-- The changes of one word: those by which a record appears, has another value, or vanishes, and those that keep a table.
use Rattle.std.proofs.Common.{◌≡◌, ◌≢◌, ℕ, ◌+◌, ◌*◌, ◌<◌, None, Some, refl, ap, subst, sym, ◌∙◌, arith, inl, inr}
use Rattle.std.proofs.lemmas.Bool.{cases_eq}
use Rattle.bucket_meta.specs.Bucket.{allocated, member, finger, record_slots}
use Rattle.trace.specs.Events.{Words, with_word}
use Rattle.image_layout.specs.Places.{Shape, bucket_at, block, buckets}
use Rattle.image_layout.specs.Standing.{StandsAt}
use Rattle.segment_table.specs.Records.{key_hash}
use Rattle.bucket_words.specs.Buckets.{IsTaken, key_in, value_in, finger_in}
use Rattle.bucket_meta.specs.Marks.{SameButSlot}
use Rattle.bucket_words.specs.Slots.{SameSlot}
use Rattle.bucket_words.specs.Owners.{owner_of}
use Rattle.bucket_words.specs.Hits.{Hit, HasOnly}
use Rattle.bucket_words.specs.Standing.{IsTable}
use Rattle.bucket_words.specs.TableChanges.{KeepsTable, ChangesKey, IsReadyAt, OnlyNewHit, ChangesSlot}
use Rattle.bucket_words.proofs.segments.Places.{other_word, this_word, owners_kept}
use Rattle.bucket_words.proofs.segments.changes.OneSlot.{changed_table, elsewhere, now_taken, now_free, still, only_new}

pub not_both : (n : ℕ) → n ≡ 1 → n ≡ 0 → ⊥
not_both n e f = omega arith

pub finger_of_words : (t v2 v3 w2 w3 : ℕ) → v2 ≡ w2 → v3 ≡ w3 → finger t v2 v3 ≡ finger t w2 w3
finger_of_words t v2 v3 w2 w3 low high = ap (λ w. finger t w v3) low ∙ ap (finger t w2) high

-- a slot of the same four words
slot_of_words : (word other : Words) (at t : ℕ) → other (at + 1) ≡ word (at + 1) → other (at + 2) ≡ word (at + 2) → other (at + 3) ≡ word (at + 3)
    → key_in other at t ≡ key_in word at t → value_in other at t ≡ value_in word at t → SameSlot word other at t
slot_of_words word other at t meta low high key value = record {
  taken = ap (allocated t) meta;
  membership = λ _. ap (member t) meta;
  key = λ _. key;
  value = λ _. value;
  fingerprint = λ _. finger_of_words t _ _ _ _ low high;
}

module _ (shape : Shape) (word : Words) (table : IsTable shape word) (s b : ℕ) (segment : s < shape.segments) (bucket : b < buckets) where
  abbrev at : ℕ
  at = bucket_at shape s b

  -- ANOTHER METADATA WORD, which says the same of all slots but one
  module _ (r x : ℕ) (slot : r < record_slots) (same : SameButSlot r (word (at + 1)) x) where
    abbrev pub told : Words
    told = with_word word (at + 1) x

    pub told_kept : (q c n j : ℕ) → c < buckets → n < block → j ≡ bucket_at shape q c + n → (q ≡ s → c ≡ b → n ≡ 1 → ⊥) → told j ≡ word j
    told_kept = other_word shape word s b 1 x (at + 1) bucket (omega arith) refl

    pub told_meta : told (at + 1) ≡ x
    told_meta = this_word shape word s b 1 x (at + 1) bucket (omega arith) refl (at + 1) refl

    told_key : (t : ℕ) → t < record_slots → key_in told at t ≡ key_in word at t
    told_key t l = told_kept s b (4 + 2 * t) (at + 4 + 2 * t) bucket (omega (arith, l)) (omega arith) (λ _ _ e. omega (arith, e))

    told_value : (t : ℕ) → t < record_slots → value_in told at t ≡ value_in word at t
    told_value t l = told_kept s b (5 + 2 * t) (at + 5 + 2 * t) bucket (omega (arith, l)) (omega arith) (λ _ _ e. omega (arith, e))

    told_finger : (t : ℕ) → finger_in told at t ≡ finger_in word at t
    told_finger t = finger_of_words t _ _ _ _ (told_kept s b 2 (at + 2) bucket (omega arith) refl (λ _ _ e. omega (arith, e))) (told_kept s b 3 (at + 3) bucket (omega arith) refl (λ _ _ e. omega (arith, e)))

    -- in the bucket itself
    told_here : (t : ℕ) → t < record_slots → t ≢ r → SameSlot word told at t
    told_here t l apart = record {
      taken = ap (allocated t) told_meta ∙ same.taken t l apart;
      membership = λ _. ap (member t) told_meta ∙ same.members t l apart;
      key = λ _. told_key t l;
      value = λ _. told_value t l;
      fingerprint = λ _. told_finger t;
    }

    told_there : (q c t : ℕ) → c < buckets → t < record_slots → (q ≡ s → c ≡ b → ⊥) → SameSlot word told (bucket_at shape q c) t
    told_there q c t near l apart = slot_of_words word told (bucket_at shape q c) t
        (told_kept q c 1 (bucket_at shape q c + 1) near (omega arith) refl (λ e f _. apart e f))
        (told_kept q c 2 (bucket_at shape q c + 2) near (omega arith) refl (λ e f _. apart e f))
        (told_kept q c 3 (bucket_at shape q c + 3) near (omega arith) refl (λ e f _. apart e f))
        (told_kept q c (4 + 2 * t) (bucket_at shape q c + 4 + 2 * t) near (omega (arith, l)) (omega arith) (λ e f _. apart e f))
        (told_kept q c (5 + 2 * t) (bucket_at shape q c + 5 + 2 * t) near (omega (arith, l)) (omega arith) (λ e f _. apart e f))

    pub told_others : (q c t : ℕ) → q < shape.segments → c < buckets → t < record_slots → (q ≡ s → c ≡ b → t ≡ r → ⊥) → SameSlot word told (bucket_at shape q c) t
    told_others q c t seg near l apart = elim (cases_eq q s) [
      | inr n ↦ told_there q c t near l (λ e _. n e)
      | inl e ↦ elim (cases_eq c b) [
        | inr n ↦ told_there q c t near l (λ _ f. n f)
        | inl f ↦ subst (λ (z : ℕ). SameSlot word told (bucket_at shape z c) t) (sym e) (subst (λ (z : ℕ). SameSlot word told (bucket_at shape s z) t) (sym f) (told_here t l (λ g. apart e f g)))
      ]
    ]

    module _ (k : ℕ) where
      -- A RECORD APPEARS
      module _ (ready : IsReadyAt shape word s b r k) (taken : allocated r x ≡ 1) (stands : StandsAt shape b k (member r x))
          (agree : owner_of shape word (key_hash shape k) ≡ Some s → (c t : ℕ) → Hit shape word s c t k → value_in word (bucket_at shape s c) t ≡ value_in word at r) where
        pub appears : ChangesSlot shape word told s b r k
        appears = record {
          segment = segment;
          owners = owners_kept shape word s b 1 x (at + 1) bucket (omega arith) refl;
          others = told_others;
          was = λ there. absurd (not_both _ there ready.is_free);
          placed = λ _. (
            told_key r slot ∙ ready.has_key,
            record {
              bucket = subst (λ (z : ℕ). StandsAt shape b k (member r z)) (sym told_meta) stands;
              fingerprint = told_finger r ∙ ready.has_finger;
            },
          );
          agree = λ own _ c t h _. agree own c t h ∙ sym (told_value r slot);
        }

        pub now : IsTaken told at r
        now = ap (allocated r) told_meta ∙ taken

        pub appears_only : OnlyNewHit shape word told s b r k
        appears_only = only_new shape word told s b r k appears

        -- of a key that stood nowhere
        pub insert_key : owner_of shape word (key_hash shape k) ≡ Some s → ChangesKey shape word told k (Some (value_in word at r))
        insert_key own = record {
          table = changed_table shape word told s b r k appears table;
          here = now_taken shape word told s b r k appears table now bucket slot own ∙ ap Some (told_value r slot);
          elsewhere = elsewhere shape word told s b r k appears table;
        }

        -- of a key that stands elsewhere too
        pub copy_key : (c t : ℕ) → Hit shape word s c t k → KeepsTable shape word told
        copy_key c t h = record {
          table = changed_table shape word told s b r k appears table;
          pairs = still shape word told s b r k appears table c t h
              (λ e f. not_both _ (subst (λ (z : ℕ). IsTaken word at z) f (subst (λ (z : ℕ). IsTaken word (bucket_at shape s z) t) e h.taken)) ready.is_free);
        }

      -- A RECORD VANISHES
      module _ (stood : Hit shape word s b r k) (free : allocated r x ≡ 0) where
        pub not_taken : IsTaken told at r → ⊥
        not_taken there = not_both _ there (ap (allocated r) told_meta ∙ free)

        pub vanishes : ChangesSlot shape word told s b r k
        vanishes = record {
          segment = segment;
          owners = owners_kept shape word s b 1 x (at + 1) bucket (omega arith) refl;
          others = told_others;
          was = λ _. stood.key;
          placed = λ there. absurd (not_taken there);
          agree = λ _ there. absurd (not_taken there);
        }

        -- of a key that stands elsewhere too
        pub clear_key : (c t : ℕ) → Hit shape word s c t k → (c ≡ b → t ≡ r → ⊥) → KeepsTable shape word told
        clear_key c t h apart = record {
          table = changed_table shape word told s b r k vanishes table;
          pairs = still shape word told s b r k vanishes table c t h apart;
        }

        pub remove_key : owner_of shape word (key_hash shape k) ≡ Some s → HasOnly shape word s b r k → ChangesKey shape word told k None
        remove_key own only = record {
          table = changed_table shape word told s b r k vanishes table;
          here = now_free shape word told s b r k vanishes table not_taken (λ c t h apart. let o = only c t h in apart o.0 o.1) own;
          elsewhere = elsewhere shape word told s b r k vanishes table;
        }

  -- A RECORD'S VALUE IS ANOTHER
  module _ (r k x : ℕ) (stood : Hit shape word s b r k) (own : owner_of shape word (key_hash shape k) ≡ Some s) (only : HasOnly shape word s b r k) where
    abbrev pub updated : Words
    updated = with_word word (at + 5 + 2 * r) x

    in_slot : 5 + 2 * r < block
    in_slot = let l = stood.slot in omega (arith, l)

    pub updated_kept : (q c n j : ℕ) → c < buckets → n < block → j ≡ bucket_at shape q c + n → (q ≡ s → c ≡ b → n ≡ 5 + 2 * r → ⊥) → updated j ≡ word j
    updated_kept = other_word shape word s b (5 + 2 * r) x (at + 5 + 2 * r) bucket in_slot (omega arith)

    updated_slot : (q c t : ℕ) → c < buckets → t < record_slots → (q ≡ s → c ≡ b → t ≡ r → ⊥) → SameSlot word updated (bucket_at shape q c) t
    updated_slot q c t near l apart = slot_of_words word updated (bucket_at shape q c) t
        (updated_kept q c 1 (bucket_at shape q c + 1) near (omega arith) refl (λ _ _ e. omega (arith, e)))
        (updated_kept q c 2 (bucket_at shape q c + 2) near (omega arith) refl (λ _ _ e. omega (arith, e)))
        (updated_kept q c 3 (bucket_at shape q c + 3) near (omega arith) refl (λ _ _ e. omega (arith, e)))
        (updated_kept q c (4 + 2 * t) (bucket_at shape q c + 4 + 2 * t) near (omega (arith, l)) (omega arith) (λ _ _ e. omega (arith, e)))
        (updated_kept q c (5 + 2 * t) (bucket_at shape q c + 5 + 2 * t) near (omega (arith, l)) (omega arith) (λ e f g. apart e f (omega (arith, g))))

    meta_kept : updated (at + 1) ≡ word (at + 1)
    meta_kept = updated_kept s b 1 (at + 1) bucket (omega arith) refl (λ _ _ e. omega (arith, e))

    pub update_changes : ChangesSlot shape word updated s b r k
    update_changes = let right = table.stands s b r k stood own in record {
      segment = segment;
      owners = owners_kept shape word s b (5 + 2 * r) x (at + 5 + 2 * r) bucket in_slot (omega arith);
      others = λ q c t _ near l apart. updated_slot q c t near l apart;
      was = λ _. stood.key;
      placed = λ _. (
        updated_kept s b (4 + 2 * r) (at + 4 + 2 * r) bucket (omega (arith, in_slot)) (omega arith) (λ _ _ e. omega (arith, e)) ∙ stood.key,
        record {
          bucket = subst (λ (z : ℕ). StandsAt shape b k (member r z)) (sym meta_kept) right.bucket;
          fingerprint = finger_of_words r _ _ _ _ (updated_kept s b 2 (at + 2) bucket (omega arith) refl (λ _ _ e. omega (arith, e)))
              (updated_kept s b 3 (at + 3) bucket (omega arith) refl (λ _ _ e. omega (arith, e))) ∙ right.fingerprint;
        },
      );
      agree = λ _ _ c t h apart. let o = only c t h in absurd (apart o.0 o.1);
    }

    pub update_key : ChangesKey shape word updated k (Some x)
    update_key = record {
      table = changed_table shape word updated s b r k update_changes table;
      here = now_taken shape word updated s b r k update_changes table (ap (allocated r) meta_kept ∙ stood.taken) bucket stood.slot own
          ∙ ap Some (this_word shape word s b (5 + 2 * r) x (at + 5 + 2 * r) bucket in_slot (omega arith) (at + 5 + 2 * r) (omega arith));
      elsewhere = elsewhere shape word updated s b r k update_changes table;
    }
