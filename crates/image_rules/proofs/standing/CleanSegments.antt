-- Rule 7 speaks of the segments of the image's version one by one, and of each bucket by bucket.
use Rattle.std.proofs.Common.{◌≡◌, ◌≢◌, ℕ, ◌+◌, ◌*◌, ◌%◌, ◌<◌, ◌≤◌, refl, sym, ap, subst, ◌∙◌, arith, ⊎_elim, false}
use Rattle.std.specs.Prelude.{◌==◌}
use Rattle.std.proofs.lemmas.Bool.{cases_lt}
use Rattle.std.proofs.lemmas.Bool.Decides.{nat_tests}
use Rattle.bucket_meta.specs.Bucket.{lock_bit}
use Rattle.segment_head.specs.HeadWord.{normal}
use Rattle.image_layout.specs.Places.{Shape, head_at, bucket_at}
use Rattle.sound_image.specs.Segments.{ImageWords, frame_of, state_at, IsClean}
use Rattle.sound_image.specs.Records.{word_in, HasRecord, HasExactNotes}
use Rattle.sound_image.specs.Rules.{IsCleanAndCurrent, CleanMeansRepaired}
use Rattle.image_rules.specs.declared.records.RecordRule.TheVariants.{Once}
use Rattle.image_rules.specs.Breach.{IsLeast}
use Rattle.image_rules.specs.Slots.{FollowBelow, IsFirstBroken, IsRepairedAt, IsBrokenIn, AreRepaired}
use Rattle.image_rules.specs.Repairs.{IsRepairedSegmentAt, IsBrokenSegment, SegmentsRepaired}

module _ (shape : Shape) (word : ImageWords) where
  -- A WORD is as rule 7 wants it where each segment of the image's version is
  pub repaired_at : (w : ℕ) → ((s : ℕ) → IsCleanAndCurrent shape word s → IsRepairedSegmentAt shape word s w) → CleanMeansRepaired shape word w
  repaired_at w each =
      record {
        head = λ s current at. (each s current).head at;
        lock = λ s b current below at.
            ap (λ (v : ℕ). lock_bit (word v)) (at ∙ omega arith) ∙ ((each s current).in_buckets b below).lock at;
        own = λ s b r current there at. (((each s current).in_buckets b there.bucket).once r there.slot there.is_allocated at).0;
        once = λ s b r current there at. (((each s current).in_buckets b there.bucket).once r there.slot there.is_allocated at).1;
        notes = λ s b current below at. ((each s current).in_buckets b (omega arith)).notes below at;
      }

  -- and they are where rule 7 holds
  bucket_from : (s b w : ℕ) → IsCleanAndCurrent shape word s → b < 66 → CleanMeansRepaired shape word w → IsRepairedAt shape word s b w
  bucket_from s b w current below rule =
      record {
        lock = λ at. ap (λ (v : ℕ). lock_bit (word v)) (omega (arith, at)) ∙ rule.lock s b current below at;
        notes = λ home at. rule.notes s b current home at;
        once = λ r slot taken at.
            let there : HasRecord shape word s b r = record { segment = current.slot; bucket = below; slot = slot; is_allocated = taken } in
            (rule.own s b r current there at, rule.once s b r current there at);
      }

  pub from_rule : (s w : ℕ) → IsCleanAndCurrent shape word s → CleanMeansRepaired shape word w → IsRepairedSegmentAt shape word s w
  from_rule s w current rule =
      record { head = λ at. rule.head s current at; in_buckets = λ b below. bucket_from s b w current below rule }

  -- THE WORDS of a later bucket and of a later segment stand behind
  bucket_behind : (s b v : ℕ) → v < bucket_at shape s b → IsRepairedAt shape word s b v
  bucket_behind s b v less =
      record {
        lock = λ at. absurd (omega (arith, at, less));
        notes = λ home at. absurd (omega (arith, at, less));
        once = λ r slot taken at. absurd (omega (arith, at, less));
      }

  segment_behind : (s v : ℕ) → v < head_at shape s → IsRepairedSegmentAt shape word s v
  segment_behind s v less =
      record { head = λ at. absurd (omega (arith, at, less)); in_buckets = λ b below. bucket_behind s b v (omega (arith, less)) }

  -- ONE SEGMENT
  pub head_breaks : (s : ℕ) → state_at (frame_of shape word) s ≢ normal → IsBrokenSegment shape word s (head_at shape s + 1)
  head_breaks s other =
      record {
        from = omega arith;
        within = omega arith;
        broken = λ repaired. other (repaired.head refl);
        before = λ v less. record {
          head = λ at. absurd (omega (arith, at, less));
          in_buckets = λ b below. bucket_behind s b v (omega (arith, less));
        };
      }

  pub bucket_breaks : (s b w : ℕ) → state_at (frame_of shape word) s ≡ normal → b < 66 → AreRepaired shape word s b → IsBrokenIn shape word s b w
      → IsBrokenSegment shape word s w
  bucket_breaks s b w is below each broken =
      record {
        from = omega (arith, broken.from);
        within = omega (arith, broken.within, below);
        broken = λ repaired. broken.broken (repaired.in_buckets b below);
        before = λ v less. record {
          head = λ _. is;
          in_buckets = λ c bucket.
              ⊎_elim (λ (lower : c < b). each c lower v)
              (λ (higher : b ≤ c).
              ⊎_elim (λ (later : b < c). bucket_behind s c v (omega (arith, later, less, broken.within)))
              (λ (level : c ≤ b).
              let same : c ≡ b = omega arith in
              subst (λ (d : ℕ). IsRepairedAt shape word s d v) (sym same) (broken.before v less))
              (cases_lt b c))
              (cases_lt c b);
        };
      }

  -- ALL SEGMENTS
  pub segment_breaks : (s w : ℕ) → IsCleanAndCurrent shape word s → SegmentsRepaired shape word s → IsBrokenSegment shape word s w
      → IsLeast (CleanMeansRepaired shape word) w
  segment_breaks s w current each broken =
      record {
        broken = λ rule. broken.broken (from_rule s w current rule);
        words_before = λ v less. repaired_at v
            (λ t there.
            ⊎_elim (λ (lower : t < s). each t lower there v)
            (λ (higher : s ≤ t).
            ⊎_elim (λ (later : s < t). segment_behind t v (omega (arith, later, less, broken.within)))
            (λ (level : t ≤ s).
            let same : t ≡ s = omega arith in
            subst (λ (d : ℕ). IsRepairedSegmentAt shape word d v) (sym same) (broken.before v less))
            (cases_lt s t))
            (cases_lt t s));
      }

  pub all_repaired : SegmentsRepaired shape word shape.segments → (w : ℕ) → CleanMeansRepaired shape word w
  all_repaired each w = repaired_at w (λ s current. each s current.slot current w)

  pub unclean_repaired : (IsClean (frame_of shape word) → ⊥) → (w : ℕ) → CleanMeansRepaired shape word w
  unclean_repaired unclean w = repaired_at w (λ s current. absurd (unclean current.clean))

-- a lock word that is not locked
pub unlocked_word : (w : ℕ) → false ≡ (lock_bit w == 1) → w % 2 ≢ 1
unlocked_word w test = grind (arith, nat_tests, test)

-- ONE BUCKET: its least broken word, where it is unlocked and its notes are exact, is the first key that is not its
-- segment's own or stands before
pub once_breaks : (shape : Shape) (word : ImageWords) (s b r at : ℕ) → at ≡ bucket_at shape s b → word at % 2 ≢ 1
    → (b < 64 → HasExactNotes shape word s b) → IsFirstBroken shape word Once s b r → IsBrokenIn shape word s b (at + 4 + 2 * r)
once_breaks shape word s b r at is unlocked exact first =
    let lock : lock_bit (word_in shape word s b 0) ≡ 0 =
    let same : word (bucket_at shape s b + 0) ≡ word at = ap word (omega (arith, is)) in
    omega (arith, same, unlocked) in
    record {
      from = omega (arith, is);
      within = omega (arith, is, first.slot);
      broken = λ repaired. first.broken (repaired.once r first.slot first.taken (omega (arith, is)));
      before = λ v less. record {
        lock = λ _. lock;
        notes = λ home _. exact home;
        once = λ t slot taken place. first.before t (omega (arith, less, place, is)) taken;
      };
    }

-- where it is unlocked alone, it is the word of its notes
pub notes_break : (shape : Shape) (word : ImageWords) (s b at : ℕ) → at ≡ bucket_at shape s b → word at % 2 ≢ 1
    → ((b < 64 → HasExactNotes shape word s b) → ⊥) → IsBrokenIn shape word s b (at + 1)
notes_break shape word s b at is unlocked wrong =
    let lock : lock_bit (word_in shape word s b 0) ≡ 0 =
    let same : word (bucket_at shape s b + 0) ≡ word at = ap word (omega (arith, is)) in
    omega (arith, same, unlocked) in
    record {
      from = omega (arith, is);
      within = omega (arith, is);
      broken = λ repaired. wrong (λ home. repaired.notes home (omega (arith, is)));
      before = λ v less. record {
        lock = λ _. lock;
        notes = λ home there. absurd (omega (arith, less, there, is));
        once = λ r slot taken place. absurd (omega (arith, less, place, is));
      };
    }

-- and where nothing is wrong it is repaired
pub none_breaks : (shape : Shape) (word : ImageWords) (s b at : ℕ) → at ≡ bucket_at shape s b → word at % 2 ≢ 1
    → (b < 64 → HasExactNotes shape word s b) → FollowBelow shape word Once s b 14 → (w : ℕ) → IsRepairedAt shape word s b w
none_breaks shape word s b at is unlocked exact each w =
    let lock : lock_bit (word_in shape word s b 0) ≡ 0 =
    let same : word (bucket_at shape s b + 0) ≡ word at = ap word (omega (arith, is)) in
    omega (arith, same, unlocked) in
    record { lock = λ _. lock; notes = λ home _. exact home; once = λ r slot taken _. each r slot taken }
