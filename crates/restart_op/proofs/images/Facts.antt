-- What is used of a sound image: it is a table whose structure is sound; and where it is clean, its current segments are normal and at rest.
use Rattle.std.proofs.Common.{◌≡◌, ℕ, ◌+◌, ◌^◌, ◌<◌, ◌≤◌, List, inl, inr, refl, sym, subst, ◌∙◌}
use Rattle.std.specs.Prelude.{slice_index}
use Rattle.segment_head.specs.HeadWord.{normal}
use Rattle.image_layout.specs.Places.{Shape, head_at, bucket_at, key_at}
use Rattle.sound_image.specs.Segments.{ImageWords, Frame, frame_of, IsClean, state_at, Owns}
use Rattle.sound_image.specs.Records.{key_hash}
use Rattle.sound_image.specs.Rules.{IsCleanAndCurrent, CleanMeansRepaired, FollowsRules}
use Rattle.sound_image.specs.Image.{IsSoundImage}
use Rattle.sound_image.proofs.Hashes.{key_hash-fits}
use Rattle.segment_table.specs.Claims.{HasSoundFrame}
use Rattle.segment_table.proofs.frames.SoundFrames.{owner_claims}
use Rattle.segment_table.proofs.frames.Owner.{claimer_found}
use Rattle.bucket_words.specs.Hits.{Hit}
use Rattle.bucket_words.specs.Standing.{IsTable}
use Rattle.bucket_words.proofs.segments.Rules.{record_of, cases_order}
use Rattle.restart_op.specs.AtRest.{IsCurrent, IsAtRest, HasOwnRecords}
use Rattle.restart_op.proofs.images.Rules.{frame_of_rules, table_of_rules}

module _ (shape : Shape) (words : List ℕ) (image : IsSoundImage shape words) where
  abbrev word : ImageWords
  word = slice_index words

  abbrev frame : Frame
  frame = frame_of shape word

  rules : FollowsRules shape word
  rules = image.follows

  pub frame_is : HasSoundFrame shape word
  frame_is = frame_of_rules shape word image.in_range rules

  pub table_is : IsTable shape word
  table_is = table_of_rules shape word rules

  -- ---- the current segments of a clean one
  module _ (is_clean : IsClean frame) where
    repaired : (w : ℕ) → CleanMeansRepaired shape word w
    repaired w = (rules 7 w).seven refl

    clean_and_current : (s : ℕ) → IsCurrent shape word s → IsCleanAndCurrent shape word s
    clean_and_current s c = record { clean = is_clean; slot = c.live.slot; live = c.live.live; same_version = c.current }

    pub is_normal : (s : ℕ) → IsCurrent shape word s → state_at frame s ≡ normal
    is_normal s c = (repaired (head_at shape s + 1)).head s (clean_and_current s c) refl

    never_before : (s b r c t k : ℕ) → IsCurrent shape word s → Hit shape word s b r k → Hit shape word s c t k → key_at shape s b r < key_at shape s c t → ⊥
    never_before s b r c t k current h g less =
        (repaired (key_at shape s c t)).once s c t (clean_and_current s current) (record_of shape word s c t k g) refl b r (record_of shape word s b r k h) less (h.key ∙ sym g.key)

    pub current_at_rest : (s : ℕ) → IsCurrent shape word s → IsAtRest shape word s
    current_at_rest s current = record {
      free = λ b near. (repaired (bucket_at shape s b)).lock s b (clean_and_current s current) near refl;
      once = λ b r c t k h g. elim (cases_order shape s b r c t h.slot g.slot) [
        | inl less ↦ absurd (never_before s b r c t k current h g less)
        | inr e ↦ elim e [
          | inl less ↦ absurd (never_before s c t b r k current g h less)
          | inr same ↦ same
        ]
      ];
      exact = λ b near. (repaired (bucket_at shape s b + 1)).notes s b (clean_and_current s current) near refl;
    }

    pub own_records : HasOwnRecords shape word
    own_records s b r k current h =
        let most : shape.depth ≤ 16 = image.in_range.depth in
        let fits : key_hash shape k < 2 ^ 64 = subst (λ (n : ℕ). key_hash shape n < 2 ^ 64) h.key (key_hash-fits shape (word (key_at shape s b r)) (image.each_fits (key_at shape s b r))) in
        let owns : Owns frame s (key_hash shape k) = subst (λ (n : ℕ). Owns frame s (key_hash shape n)) h.key
        ((repaired (key_at shape s b r)).own s b r (clean_and_current s current) (record_of shape word s b r k h) refl) in
        claimer_found shape.depth frame most frame_is s (key_hash shape k) fits (owner_claims shape.depth most frame frame_is s (key_hash shape k) fits owns)
