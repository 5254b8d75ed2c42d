-- Word 1 of a bucket without the records that went to the side: what its store frees.
use Rattle.std.proofs.Common.{◌≡◌, ◌≢◌, ℕ, ◌+◌, ◌*◌, ◌^◌, ◌<◌, ◌≤◌, Bool, false, inl, inr, sym, ap, ◌∙◌, subst, arith}
use Rattle.std.specs.Prelude.{◌==◌, if◌then◌else◌, slice_index}
use Rattle.std.proofs.lemmas.Bool.{cases_eq, cases_lt, eqb-true, eq-eqb, ne_eqb, lt-ltb, le-ltb, not-false}
use Rattle.trace.specs.Events.{Words}
use Rattle.bucket_meta.specs.Bucket.{allocated, member, record_slots}
use Rattle.hash_word.specs.Hash.{Covers}
use Rattle.image_layout.specs.Places.{Shape, bucket_at, buckets, block}
use Rattle.sound_image.specs.Records.{key_hash}
use Rattle.whole_segment.proofs.marking.Uncovering.{slot_says}
use Rattle.bucket_words.specs.Buckets.{key_in}
use Rattle.world.specs.Ground.{Ground}
use Rattle.world.specs.areas.Splitting.{ClearsRegion}
use Rattle.enclose_op.specs.Phases.{IsLocated}
use Rattle.enclose_op.specs.declared.enclosed.Enclosed.{Enclosed}
use Rattle.enclose_op.specs.Whole.{kept_first, kept_third, kept_key}
use Rattle.rest_op.specs.declared.op.RestOp.{RestOp}
use Rattle.rest_op.specs.Steps.{is_cleared, clear_from}
use Rattle.rest_op.specs.Reckoned.{side_depth, side_pattern, IsReckoned}
use Rattle.rest_op.specs.Stands.{cleared_before}
use Rattle.rounds.proofs.Seeking.{seek_behind, seek_fails}
use Rattle.rest_op.proofs.whole.Words.{rest_words, other_value, bucket_here}

-- ---- as the store of a word
module _ (site : Ground) (op : RestOp) (l : IsLocated site op.whole.site op.whole.segment) (small : (i : ℕ) → slice_index op.whole.buckets i < 2 ^ 64) (reckoned : IsReckoned op)
    (first : ℕ → ℕ) (head link b : ℕ) (near : b < buckets) (is : first b ≡ kept_first op.whole b) where
  abbrev e : Enclosed
  e = op.whole

  abbrev word : Words
  word = rest_words site.shape e first (kept_third e) head link

  abbrev at : ℕ
  at = bucket_at site.shape e.segment b

  mark_here : word (at + 1) ≡ kept_first e b
  mark_here = bucket_here site.shape e first (kept_third e) head link b 1 (omega arith) ∙ is

  even_apart : (r : ℕ) → 4 + 2 * r ≢ 1
  even_apart r q = omega (arith, q)

  far_apart : (r : ℕ) → 4 + 2 * r ≢ 3
  far_apart r q = omega (arith, q)

  key_here : (r : ℕ) → r < record_slots → key_in word at r ≡ kept_key e b r
  key_here r low =
      ap word (by at r) ∙ bucket_here site.shape e first (kept_third e) head link b (4 + 2 * r) (omega (arith, low))
      ∙ other_value e first (kept_third e) b (4 + 2 * r) (even_apart r) (far_apart r)
    where
      by : (i r : ℕ) → i + 4 + 2 * r ≡ i + (4 + 2 * r)
      by i r = omega arith

  -- THE STORE frees no slots but such whose records the side covers
  pub clears : ClearsRegion site word at (side_depth e) (side_pattern e) (word (at + 1)) (slice_index op.cleared b)
  clears = record {
    slots = λ r low. elim (slot_says (kept_first e) (kept_key e) (key_hash e.site.geometry) (side_depth e) (side_pattern e) b (small (block * b + 1)) r low) [
      | inl same ↦ inl (ap (allocated r) (reckoned.cleared b near) ∙ same.0 ∙ sym (ap (allocated r) mark_here), ap (member r) (reckoned.cleared b near) ∙ same.1 ∙ sym (ap (member r) mark_here))
      | inr free ↦ inr (
        ap (allocated r) (reckoned.cleared b near) ∙ free.0,
        λ taken. subst (λ k. Covers (side_depth e) (side_pattern e) (key_hash site.shape k)) (sym (key_here r low))
            (subst (λ (g : Shape). Covers (side_depth e) (side_pattern e) (key_hash g (kept_key e b r))) l.shape free.1),
      )
    ];
  }

-- ---- word 1 of each bucket, while they are cleared
module _ (op : RestOp) where
  pub before_here : (b : ℕ) → cleared_before op b b ≡ kept_first op.whole b
  before_here b = ap (λ t. if t then slice_index op.cleared b else kept_first op.whole b) (le-ltb b b (omega arith))

  -- a bucket that is passed over is as it was
  same_here : (c : ℕ) → is_cleared op c ≡ false → slice_index op.cleared c ≡ kept_first op.whole c
  same_here c fails = eqb-true (slice_index op.cleared c) (kept_first op.whole c) (not-false (slice_index op.cleared c == kept_first op.whole c) fails)

  -- those from one on are passed over up to the next one
  module _ (from c : ℕ) where
    abbrev choice : Bool → ℕ
    choice t = if t then slice_index op.cleared c else kept_first op.whole c

    between : from ≤ c → c < clear_from op from → cleared_before op (clear_from op from) c ≡ cleared_before op from c
    between behind low =
        ap choice (lt-ltb c (clear_from op from) low) ∙ same_here c (seek_fails (is_cleared op) buckets from c behind low) ∙ sym (ap choice (le-ltb c from behind))

    pub passed_over : cleared_before op (clear_from op from) c ≡ cleared_before op from c
    passed_over = elim (cases_lt c from) [
      | inl low ↦ (let on = seek_behind (is_cleared op) buckets from in ap choice (lt-ltb c (clear_from op from) (omega (arith, low, on)) ∙ sym (lt-ltb c from low)))
      | inr behind ↦ elim (cases_lt c (clear_from op from)) [ inl low ↦ between behind low | inr high ↦ ap choice (le-ltb c (clear_from op from) high ∙ sym (le-ltb c from behind)) ]
    ]

  -- once a bucket is cleared those before the next one are; and at the end all are
  pub cleared_more : (b c : ℕ) → cleared_before op (b + 1) c ≡ (if c == b then slice_index op.cleared b else cleared_before op b c)
  cleared_more b c = elim (cases_eq c b) [
    | inl same ↦
        ap (λ t. if t then slice_index op.cleared c else kept_first op.whole c) (lt-ltb c (b + 1) (omega (arith, same))) ∙ ap (slice_index op.cleared) same
        ∙ sym (ap (λ t. if t then slice_index op.cleared b else cleared_before op b c) (eq-eqb c b same))
    | inr apart ↦ elim (cases_lt c b) [
      | inl low ↦
          ap (λ t. if t then slice_index op.cleared c else kept_first op.whole c) (lt-ltb c (b + 1) (omega (arith, low)) ∙ sym (lt-ltb c b low))
          ∙ sym (ap (λ t. if t then slice_index op.cleared b else cleared_before op b c) (ne_eqb c b apart))
      | inr high ↦
          ap (λ t. if t then slice_index op.cleared c else kept_first op.whole c) (le-ltb c (b + 1) (omega (arith, high, apart)) ∙ sym (le-ltb c b high))
          ∙ sym (ap (λ t. if t then slice_index op.cleared b else cleared_before op b c) (ne_eqb c b apart))
    ]
  ]

  pub all_cleared : (c : ℕ) → c < buckets → slice_index op.cleared c ≡ cleared_before op buckets c
  all_cleared c near = sym (ap (λ t. if t then slice_index op.cleared c else kept_first op.whole c) (lt-ltb c buckets near))
