-- A side whose metadata and records are known has the same records, and the same notes, in all words that show what is known.
use Rattle.std.proofs.Common.{◌≡◌, ℕ, ◌+◌, ◌*◌, ◌<◌, ◌≤◌, ap, sym, ◌∙◌, arith}
use Rattle.bucket_meta.specs.Bucket.{allocated, member, finger, overflow_count, record_slots}
use Rattle.trace.specs.Events.{Words}
use Rattle.image_layout.specs.Places.{Shape, bucket_at, homes, buckets}
use Rattle.sound_image.specs.Records.{HasExactNotes}
use Rattle.hash_word.specs.Hash.{probing_of}
use Rattle.frame_facts.specs.Hits.{Hit}
use Rattle.frame_facts.specs.Slots.{SameSlot}
use Rattle.frame_facts.proofs.segments.Noted.{notes_same, exact_same}
use Rattle.frame_facts.proofs.segments.Stashed.{stashed_same}
use Rattle.world.specs.Views.{View}
use Rattle.world.specs.areas.Splitting.{KnowsRecords}
use Rattle.world.proofs.holders.publishing.Shown.{Shows, HasBuckets}

in_key : (at r : ℕ) → at + 4 + 2 * r ≡ at + (4 + 2 * r)
in_key at r = omega arith

in_value : (at r : ℕ) → at + 5 + 2 * r ≡ at + (5 + 2 * r)
in_value at r = omega arith

-- WORDS HAVE THE RECORDS of a slot that others have: the same metadata, and in record slots that are taken the same keys and values
pub record HasRecords (shape : Shape) (word w : Words) (n : ℕ) : Type 0 where
  pub meta : (b m : ℕ) → b < buckets → 1 ≤ m → m ≤ 3 → w (bucket_at shape n b + m) ≡ word (bucket_at shape n b + m)
  pub slots : (b r : ℕ) → b < buckets → r < record_slots → SameSlot word w (bucket_at shape n b) r

-- so have those that show what is known
pub shown_records : (shape : Shape) (v : View) (word w : Words) (n : ℕ) → Shows v w → KnowsRecords shape v n word → HasRecords shape word w n
shown_records shape v word w n shows knows = record { meta = meta; slots = slots }
  where
    meta : (b m : ℕ) → b < buckets → 1 ≤ m → m ≤ 3 → w (bucket_at shape n b + m) ≡ word (bucket_at shape n b + m)
    meta b m near above inside = shows (bucket_at shape n b + m) (word (bucket_at shape n b + m)) (knows.meta b m near above inside)

    slots : (b r : ℕ) → b < buckets → r < record_slots → SameSlot word w (bucket_at shape n b) r
    slots b r near small = record {
      taken = ap (allocated r) (meta b 1 near (omega arith) (omega arith));
      membership = λ _. ap (member r) (meta b 1 near (omega arith) (omega arith));
      key = λ t. shows (bucket_at shape n b + 4 + 2 * r) (word (bucket_at shape n b + 4 + 2 * r)) (knows.key b r near small t);
      value = λ t. shows (bucket_at shape n b + 5 + 2 * r) (word (bucket_at shape n b + 5 + 2 * r)) (knows.value b r near small t);
      fingerprint = λ _. ap (λ z. finger r z (w (bucket_at shape n b + 3))) (meta b 2 near (omega arith) (omega arith)) ∙ ap (finger r (word (bucket_at shape n b + 2))) (meta b 3 near (omega arith) (omega arith));
    }

module _ (shape : Shape) (word w : Words) (n : ℕ) (same : HasRecords shape word w n) where
  -- so have words that have all its buckets from such
  pub later_records : (later : Words) → HasBuckets shape w later n → HasRecords shape word later n
  later_records later more = record { meta = meta; slots = slots }
    where
      meta : (b m : ℕ) → b < buckets → 1 ≤ m → m ≤ 3 → later (bucket_at shape n b + m) ≡ word (bucket_at shape n b + m)
      meta b m near above inside = more b m near above (omega (arith, inside)) ∙ same.meta b m near above inside

      slots : (b r : ℕ) → b < buckets → r < record_slots → SameSlot word later (bucket_at shape n b) r
      slots b r near small =
          let o = same.slots b r near small in
          record {
            taken = ap (allocated r) (meta b 1 near (omega arith) (omega arith));
            membership = λ _. ap (member r) (meta b 1 near (omega arith) (omega arith));
            key = λ t. ap later (in_key (bucket_at shape n b) r) ∙ more b (4 + 2 * r) near (omega arith) (omega (arith, small)) ∙ sym (ap w (in_key (bucket_at shape n b) r)) ∙ o.key t;
            value = λ t. ap later (in_value (bucket_at shape n b) r) ∙ more b (5 + 2 * r) near (omega arith) (omega (arith, small)) ∙ sym (ap w (in_value (bucket_at shape n b) r)) ∙ o.value t;
            fingerprint = λ _. ap (λ z. finger r z (later (bucket_at shape n b + 3))) (meta b 2 near (omega arith) (omega arith)) ∙ ap (finger r (word (bucket_at shape n b + 2))) (meta b 3 near (omega arith) (omega arith));
          }

  -- a record stood there before
  pub record_before : (b r k : ℕ) → Hit shape w n b r k → Hit shape word n b r k
  record_before b r k hit =
      let o = same.slots b r hit.bucket hit.slot in
      let taken : allocated r (word (bucket_at shape n b + 1)) ≡ 1 = sym o.taken ∙ hit.taken in
      record { segment = hit.segment; bucket = hit.bucket; slot = hit.slot; taken = taken; key = sym (o.key taken) ∙ hit.key }

  -- exact notes stay exact
  pub notes_there : (b : ℕ) → b < homes → HasExactNotes shape word n b → HasExactNotes shape w n b
  notes_there b near exact = exact_same shape word w n b
      (record {
        notes = notes_same shape word w n b (λ m above below. same.meta b m (omega (arith, near)) above (omega (arith, below)))
            (λ m above below. same.meta (probing_of b) m (omega arith) above (omega (arith, below)));
        count = ap overflow_count (same.meta b 1 (omega (arith, near)) (omega arith) (omega arith));
        stashed = stashed_same shape word w n b (λ c t small slot. same.slots (homes + c) t (omega (arith, small)) slot);
      })
      exact
