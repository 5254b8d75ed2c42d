-- The stores that change no pair: to the key, the value and the fingerprint of a free slot.
use Rattle.std.proofs.Common.{◌≡◌, ◌⊎◌, ℕ, zero, suc, ◌+◌, ◌/◌, ◌%◌, ◌^◌, ◌<◌, ◌≤◌, ◌++◌, cond, eqb, inl, inr, refl, sym, ap, ◌∙◌, arith}
use Rattle.std.proofs.lemmas.Bool.{cases_eq}
use Rattle.bucket_meta.specs.Bucket.{allocated, finger, overflow_count, note_used, note_member, note_index, note_finger}
use Rattle.bucket_meta.specs.Notes.{note_piece, notes_by}
use Rattle.hash_word.specs.Hash.{probing_of}
use Rattle.trace.specs.Events.{Words, with_word}
use Rattle.trace.proofs.Replaced.{cases_at}
use Rattle.image_layout.specs.Places.{Shape, bucket_at}
use Rattle.sound_image.specs.Records.{word_in, notes_in}
use Rattle.frame_facts.specs.Buckets.{finger_in}
use Rattle.frame_facts.specs.Slots.{SameSlot}
use Rattle.frame_facts.proofs.Counts.{same_pieces}
use Rattle.frame_facts.specs.Standing.{IsTable}
use Rattle.frame_facts.specs.Hits.{Hit}
use Rattle.frame_facts.specs.TableChanges.{KeepsTable}
use Rattle.frame_facts.proofs.segments.Places.{owners_kept, other_word}
use Rattle.frame_facts.proofs.segments.changes.NoSlot.{same_there, same_back}
use Rattle.frame_facts.proofs.segments.changes.Prepared.{slots_kept, behind_meta}
use Rattle.world.specs.Ground.{Ground}
use Rattle.world.specs.Views.{View}
use Rattle.frame_facts.specs.HomeNotes.{SameHomeNotes}
use Rattle.world.specs.Kinds.{stores}
use Rattle.world.specs.Conditions.{IsNewest, StandsBeside, May}
use Rattle.world.specs.Holders.{KnowsMeta, SparesTaken, MayPrepare}
use Rattle.frame_facts.proofs.segments.Stashed.{stashed_same}

-- ---- the overflow fingerprints of word 3
finger_kept : (w1 w3 x i : ℕ) → x / 2 ^ 48 % 2 ^ 16 ≡ w3 / 2 ^ 48 % 2 ^ 16 → i < 4 → note_finger i w1 x ≡ note_finger i w1 w3
finger_kept w1 w3 x zero same l = omega (arith, same)
finger_kept w1 w3 x (suc zero) same l = omega (arith, same)
finger_kept w1 w3 x (suc (suc zero)) same l = refl
finger_kept w1 w3 x (suc (suc (suc zero))) same l = refl
finger_kept w1 w3 x (suc (suc (suc (suc i)))) same l = absurd (omega (arith, l))

pub notes_kept_3 : (w1 w3 x side : ℕ) → x / 2 ^ 48 % 2 ^ 16 ≡ w3 / 2 ^ 48 % 2 ^ 16 → notes_by w1 x side ≡ notes_by w1 w3 side
notes_kept_3 w1 w3 x side same = same_pieces (λ i. note_piece side (note_used i w1) (note_member i w1) (note_finger i w1 w3) (note_index i w1))
    (λ i. note_piece side (note_used i w1) (note_member i w1) (note_finger i w1 x) (note_index i w1)) 4
    (λ i l. ap (λ z. note_piece side (note_used i w1) (note_member i w1) z (note_index i w1)) (finger_kept w1 w3 x i same l))

module _ (shape : Shape) (w : Words) (table : IsTable shape w) (s b m x : ℕ) (seg : s < shape.segments) (bucket : b < 66) (spares : SparesTaken w (bucket_at shape s b) m x) where
  abbrev i : ℕ
  i = bucket_at shape s b + m

  abbrev us : Words
  us = with_word w i x

  slots : (q c t : ℕ) → q < shape.segments → c < 66 → t < 14 → SameSlot w us (bucket_at shape q c) t
  slots = slots_kept shape w table s b m x i seg bucket spares.from spares.inside refl spares.keys spares.values spares.fingers

  keeping : KeepsTable shape w us
  keeping = behind_meta shape w table s b m x i seg bucket spares.from spares.inside refl spares.keys spares.values spares.fingers

  forth : (q c t l : ℕ) → Hit shape w q c t l → Hit shape us q c t l
  forth = same_there shape w us table (owners_kept shape w s b m x i bucket spares.inside refl) slots

  back : (q c t l : ℕ) → Hit shape us q c t l → Hit shape w q c t l
  back = same_back shape w us table (owners_kept shape w s b m x i bucket spares.inside refl) slots

  kept : (q c n j : ℕ) → c < 66 → n < 32 → j ≡ bucket_at shape q c + n → (q ≡ s → c ≡ b → n ≡ m → ⊥) → us j ≡ w j
  kept = other_word shape w s b m x i bucket spares.inside refl

  meta : (q c : ℕ) → c < 66 → word_in shape us q c 1 ≡ word_in shape w q c 1
  meta q c near = kept q c 1 (bucket_at shape q c + 1) near (omega arith) refl (λ _ _ e. let z = spares.from in omega (arith, e, z))

  one_side : (q c side : ℕ) → c < 66 → notes_in shape us q c side ≡ notes_in shape w q c side
  one_side q c side near = ap (λ z. notes_by z (word_in shape us q c 3) side) (meta q c near) ∙ third (cases_eq m 3)
    where
      third : ((m ≡ 3) ⊎ (m ≡ 3 → ⊥)) → notes_by (word_in shape w q c 1) (word_in shape us q c 3) side ≡ notes_by (word_in shape w q c 1) (word_in shape w q c 3) side
      third (inr other) = ap (λ z. notes_by (word_in shape w q c 1) z side) (kept q c 3 (bucket_at shape q c + 3) near (omega arith) refl (λ _ _ e. other (sym e)))
      third (inl e) = cases_at (λ z. notes_by (word_in shape w q c 1) (cond z x (w (bucket_at shape q c + 3))) side ≡ notes_by (word_in shape w q c 1) (word_in shape w q c 3) side) (bucket_at shape q c + 3) i
          (λ here. notes_kept_3 (word_in shape w q c 1) (word_in shape w q c 3) x side (spares.overflow e ∙ ap (λ z. z / 2 ^ 48 % 2 ^ 16) (ap w (sym (here ∙ ap (λ z. bucket_at shape s b + z) e)))))
          (λ _. refl)

  notes_all : (q d : ℕ) → q < shape.segments → d < 64 → SameHomeNotes shape w us q d
  notes_all q d near_q near = record {
    notes = ap (λ z. z ++ notes_in shape us q (probing_of d) 1) (one_side q d 0 (omega (arith, near))) ∙ ap (λ z. notes_in shape w q d 0 ++ z) (one_side q (probing_of d) 1 (omega arith));
    count = ap overflow_count (meta q d (omega (arith, near)));
    stashed = stashed_same shape w us q d (λ e t small l. slots q (64 + e) t near_q (omega (arith, small)) l);
  }

module _ (site : Ground) (v : View) (s b m x : ℕ) (word : Words) (seg : s < site.shape.segments) (bucket : b < 66) (known : KnowsMeta site.shape v s b word)
    (spares : SparesTaken word (bucket_at site.shape s b) m x) where
  -- words that agree in the metadata
  spares_there : (w : Words) → ((n : ℕ) → 1 ≤ n → n ≤ 3 → w (bucket_at site.shape s b + n) ≡ word (bucket_at site.shape s b + n)) → SparesTaken w (bucket_at site.shape s b) m x
  spares_there w same = record {
    from = spares.from;
    inside = spares.inside;
    keys = λ t l taken. spares.keys t l (ap (allocated t) (sym one) ∙ taken);
    values = λ t l taken. spares.values t l (ap (allocated t) (sym one) ∙ taken);
    fingers = λ t l taken. fingers_of t (with_word w (at + m) x) (with_word word (at + m) x) (stored 2 (omega arith) (omega arith)) (stored 3 (omega arith) (omega arith))
        ∙ spares.fingers t l (ap (allocated t) (sym one) ∙ taken) ∙ sym (fingers_of t w word (same 2 (omega arith) (omega arith)) (same 3 (omega arith) (omega arith)));
    overflow = λ e. spares.overflow e ∙ ap (λ z. z / 2 ^ 48 % 2 ^ 16) (sym (same 3 (omega arith) (omega arith)));
  }
    where
      at : ℕ
      at = bucket_at site.shape s b

      one : w (bucket_at site.shape s b + 1) ≡ word (bucket_at site.shape s b + 1)
      one = same 1 (omega arith) (omega arith)

      stored : (n : ℕ) → 1 ≤ n → n ≤ 3 → with_word w (bucket_at site.shape s b + m) x (bucket_at site.shape s b + n) ≡ with_word word (bucket_at site.shape s b + m) x (bucket_at site.shape s b + n)
      stored n above below = ap (λ z. cond (eqb (bucket_at site.shape s b + n) (bucket_at site.shape s b + m)) x z) (same n above below)

      fingers_of : (t : ℕ) (p q : Words) → p (bucket_at site.shape s b + 2) ≡ q (bucket_at site.shape s b + 2) → p (bucket_at site.shape s b + 3) ≡ q (bucket_at site.shape s b + 3)
          → finger_in p (bucket_at site.shape s b) t ≡ finger_in q (bucket_at site.shape s b) t
      fingers_of t p q two three = ap (λ z. finger t z (p (bucket_at site.shape s b + 3))) two ∙ ap (finger t (q (bucket_at site.shape s b + 2))) three

  newest_there : (words : Words) → IsNewest site v words → SparesTaken words (bucket_at site.shape s b) m x
  newest_there words n = spares_there words (λ j from most. n.knows (bucket_at site.shape s b + j) (word (bucket_at site.shape s b + j)) (known.words j from most).known)

  beside_there : (words medium : Words) → StandsBeside site v words medium → SparesTaken medium (bucket_at site.shape s b) m x
  beside_there words medium o =
      spares_there medium (λ j from most. let k = known.words j from most in o.agrees (bucket_at site.shape s b + j) (word (bucket_at site.shape s b + j)) k.known k.firm)

  pub may_store : May site (stores (bucket_at site.shape s b + m) x) v
  may_store = (
    record {
      guarded = (bucket_at site.shape s b, known.lock, (let z = spares.from in omega (arith, z), let z = spares.inside in omega (arith, z)));
      twins = λ words n q b1 r1 c1 t1 l h g. let sp = newest_there words n in
          inr (inl (back site.shape words n.table s b m x seg bucket sp q b1 r1 l h, back site.shape words n.table s b m x seg bucket sp q c1 t1 l g));
      notes = λ words n q d near_q near. inl (notes_all site.shape words n.table s b m x seg bucket (newest_there words n) q d near_q near);
      stash = λ words n q e t l small h. inl (forth site.shape words n.table s b m x seg bucket (newest_there words n) q (64 + e) t l h);
      alike = λ words medium n o q e t l small h. inr (back site.shape medium o.table s b m x seg bucket (beside_there words medium o) q (64 + e) t l h);
      adds = λ words n q d r l h. inl (back site.shape words n.table s b m x seg bucket (newest_there words n) q d r l h);
    },
    (λ words medium n o. keeping site.shape medium o.table s b m x seg bucket (beside_there words medium o)),
  )

pub may_prepare : (site : Ground) (v : View) → MayPrepare site v
may_prepare site v = record { store = λ s b m x word seg bucket known spares. may_store site v s b m x word seg bucket known spares }
