-- The seven rules of an image whose structure is sound: they say a table; and where the marker is set, one at rest.
use Rattle.std.proofs.Common.{◌≡◌, ℕ, ◌^◌, ◌<◌, refl, ap, ◌∙◌, arith}
use Rattle.bucket_meta.specs.Bucket.{lock_bit}
use Rattle.segment_head.specs.HeadWord.{normal}
use Rattle.trace.specs.Events.{Words}
use Rattle.image_layout.specs.Places.{Shape, IsShape, state_word}
use Rattle.image_layout.specs.StateWord.{marker_in}
use Rattle.sound_image.specs.Segments.{frame_of, IsClean, state_at, Owns}
use Rattle.sound_image.specs.Records.{slot_key, slot_hash, HasRecord}
use Rattle.sound_image.specs.Rules.{IsCleanAndCurrent, CleanMeansRepaired, NotBefore, FollowsRules}
use Rattle.segment_table.specs.Claims.{HasSoundFrame}
use Rattle.segment_table.proofs.frames.Rules as frame_rules
use Rattle.segment_table.proofs.frames.Owner.{found_owns}
use Rattle.bucket_words.specs.Standing.{IsTable}
use Rattle.bucket_words.proofs.segments.Rules.{hit_of}
use Rattle.bucket_words.proofs.segments.Rules as table_rules
use Rattle.restart_op.specs.AtRest.{IsCurrent, IsAtRest, HasOwnRecords}

module _ (shape : Shape) (word : Words) where
  -- FROM THE RULES
  pub frame_of_rules : IsShape shape → FollowsRules shape word → HasSoundFrame shape word
  frame_of_rules is rules = frame_rules.from_rules shape is word (record {
    numbers = λ w. (rules 1 w).one refl;
    owned = λ w. (rules 2 w).two refl;
    lead = λ w. (rules 3 w).three refl;
    past = λ w. (rules 6 w).six refl;
  })

  pub table_of_rules : FollowsRules shape word → IsTable shape word
  table_of_rules rules = table_rules.from_rules shape word (λ w. ((rules 4 w).four refl, (rules 5 w).five refl))

  -- AND BACK
  module _ (is : IsShape shape) (frame : HasSoundFrame shape word) (table : IsTable shape word) (fits : (i : ℕ) → word i < 2 ^ 64) where
    rules_by : ((w : ℕ) → IsClean (frame_of shape word) → CleanMeansRepaired shape word w) → FollowsRules shape word
    rules_by clean n w =
        let structure = frame_rules.to_rules shape is word frame in
        let records = table_rules.follows_rules shape is word frame fits table w in
        record {
          one = λ _. structure.numbers w;
          two = λ _. structure.owned w;
          three = λ _. structure.lead w;
          four = λ _. records.0;
          five = λ _. records.1;
          six = λ _. structure.past w;
          seven = λ _. record {
            head = λ s current at. (clean w current.clean).head s current at;
            lock = λ s b current near at. (clean w current.clean).lock s b current near at;
            own = λ s b r current there at. (clean w current.clean).own s b r current there at;
            once = λ s b r current there at. (clean w current.clean).once s b r current there at;
            notes = λ s b current near at. (clean w current.clean).notes s b current near at;
          };
        }

    -- of an image that is not marked as clean the last one says nothing
    pub unmarked_rules : marker_in (word state_word) ≡ 0 → FollowsRules shape word
    unmarked_rules clear = rules_by (λ w clean. absurd (never _ clean clear))
      where
        never : (n : ℕ) → n ≡ 1 → n ≡ 0 → ⊥
        never n e f = omega (arith, e, f)

    -- and of one that is marked, that its current segments are normal and at rest
    module _ (takes_calls : (s : ℕ) → IsCurrent shape word s → state_at (frame_of shape word) s ≡ normal)
        (rest : (s : ℕ) → IsCurrent shape word s → IsAtRest shape word s) (own : HasOwnRecords shape word) where
      current_of : (s : ℕ) → IsCleanAndCurrent shape word s → IsCurrent shape word s
      current_of s c = record { live = record { slot = c.slot; live = c.live }; current = c.same_version }

      owns_record : (s b r : ℕ) → IsCurrent shape word s → HasRecord shape word s b r → Owns (frame_of shape word) s (slot_hash shape word s b r)
      owns_record s b r current there =
          found_owns (frame_of shape word) (slot_hash shape word s b r) s (own s b r (slot_key shape word s b r) current (hit_of shape word s b r there))

      not_before : (s b r : ℕ) → IsCurrent shape word s → HasRecord shape word s b r → NotBefore shape word s b r
      not_before s b r current there c t other before same =
          let h = hit_of shape word s c t other in
          let one = (rest s current).once c t b r (slot_key shape word s b r)
          (record { segment = h.segment; bucket = h.bucket; slot = h.slot; taken = h.taken; key = same }) (hit_of shape word s b r there) in
          absurd (omega (arith, before, one.0, one.1))

      repaired : (w : ℕ) → CleanMeansRepaired shape word w
      repaired w = record {
        head = λ s c _. takes_calls s (current_of s c);
        lock = λ s b c near at. ap (λ i. lock_bit (word i)) at ∙ (rest s (current_of s c)).free b near;
        own = λ s b r c there _. owns_record s b r (current_of s c) there;
        once = λ s b r c there _. not_before s b r (current_of s c) there;
        notes = λ s b c near _. (rest s (current_of s c)).exact b near;
      }

      pub marked_rules : FollowsRules shape word
      marked_rules = rules_by (λ w _. repaired w)
