-- Where rules 4 to 7 hold of each segment they hold of the image.
use Rattle.std.proofs.Common.{ℕ, refl}
use Rattle.image_layout.specs.Places.{Shape, key_at}
use Rattle.sound_image.specs.Segments.{ImageWords}
use Rattle.image_rules.specs.declared.records.RecordRule.TheVariants.{Stand, Value}
use Rattle.image_rules.specs.declared.breach.Rule.{Rule}
use Rattle.image_rules.specs.declared.breach.Rule.TheVariants as rule
use Rattle.image_rules.specs.Breach.{HoldsAt}
use Rattle.image_rules.specs.Divided.{IsDivided}
use Rattle.image_rules.specs.Slots.{IsStanding, IsStandingIn, BucketsFollow}
use Rattle.image_rules.specs.Repairs.{IsRepairedSegmentAt, AreSoundSegments}
use Rattle.image_rules.proofs.standing.KeyRules.{records_stand, keys_have_one_value}
use Rattle.image_rules.proofs.standing.CleanSegments.{all_repaired}
use Rattle.image_rules.proofs.Breaches.{Known, and_rule, all_hold}

module _ (shape : Shape) (word : ImageWords) where
  -- ONE SEGMENT: its records stand where all do, and where rule 4 holds of its buckets
  pub standing_in : IsStanding shape word → (s : ℕ) → IsStandingIn shape word s
  standing_in i s = record { divided = i.divided; stand = λ b r own. i.stand (key_at shape s b r) s b r own refl }

  pub standing_from : IsDivided shape word → (s : ℕ) → BucketsFollow shape word Stand s 66 → IsStandingIn shape word s
  standing_from divided s each =
      record {
        divided = divided;
        stand = λ b r own. each b own.record_there.bucket r own.record_there.slot own.record_there.is_allocated own.owned;
      }

  -- where it is repaired, no key stands twice
  pub repaired_values : (s : ℕ) → ((w : ℕ) → IsRepairedSegmentAt shape word s w) → BucketsFollow shape word Value s 66
  repaired_values s repaired b below r slot taken own c t there less same =
      absurd ((((repaired (key_at shape s b r)).in_buckets b below).once r slot taken refl).1 c t there less same)

  -- ALL SEGMENTS
  pub all_follow : Known shape word 4 → AreSoundSegments shape word shape.segments
      → (r : Rule) (w : ℕ) → HoldsAt shape word r w
  all_follow known each =
      let four = and_rule shape word rule.Records known (records_stand shape word (λ s below. (each s below).stand)) in
      let five = and_rule shape word rule.Values four (keys_have_one_value shape word (λ s below. (each s below).pairs.values)) in
      let six = and_rule shape word rule.Versions five (λ w s below at. (each s below).past) in
      let repaired = all_repaired shape word (λ s below. (each s below).pairs.repaired) in
      all_hold shape word (and_rule shape word rule.Repaired six repaired)
