-- What the fields of a bucket say of notes and record slots is what its words say.
use Rattle.std.proofs.Common.{◌≡◌, ℕ, ◌%◌, ◌^◌, ◌<◌, List, ◌++◌, slice_index, sym, ap, ◌∙◌, subst, arith, lit<}
use Rattle.word_bits.specs.Bits.{bit, bits}
use Rattle.bucket_meta.specs.declared.metadata.Meta.{Meta}
use Rattle.bucket_meta.specs.Bucket.{note_used, note_member, note_index, note_finger, finger, KeepsRecords}
use Rattle.bucket_meta.specs.MetaWords.{IsMetaOf}
use Rattle.bucket_meta.specs.Notes.{OverflowNote, AreExact, note_piece, notes_by}
use Rattle.bucket_meta.proofs.fields.FieldBits.{note_used_is, note_member_is, note_index_is}
use Rattle.hash_word.specs.Hash.{probing_of}
use Rattle.stash.specs.Exact.{notes_at, IsExactFor}
use Rattle.stash.specs.NoteSlots.{SameSlots}
use Rattle.bucket_meta.proofs.Counts.{same_note_piece, same_pieces}
use Rattle.image_layout.specs.Standing.{HasExactNotes}

pub notes_are : (m : Meta) (w1 w2 w3 side : ℕ) → IsMetaOf m w1 w2 w3 → notes_at m side ≡ notes_by w1 w3 side
notes_are m w1 w2 w3 side is =
    same_pieces (λ i. note_piece side (note_used i w1) (note_member i w1) (note_finger i w1 w3) (note_index i w1))
    (λ i. note_piece side (bit i m.used) (bit i m.omember) (slice_index m.ofps i) (bit i m.oindex)) 4
    (λ i low.
    same_note_piece side (bit i m.used) (bit i m.omember) (slice_index m.ofps i) (bit i m.oindex) (note_used i w1) (note_member i w1) (note_finger i w1 w3) (note_index i w1)
    (sym (note_used_is m w1 w2 w3 i is low)) (sym (note_member_is m w1 w2 w3 i is low)) (is.ofps i low) (sym (note_index_is m w1 w2 w3 i is low)))

pub exact_by_words : (own probe : Meta) (first third : ℕ → ℕ) (b w2 u2 : ℕ) (stashed : List OverflowNote) → IsMetaOf own (first b) w2 (third b)
    → IsMetaOf probe (first (probing_of b)) u2 (third (probing_of b)) → IsExactFor own probe stashed → HasExactNotes first third b stashed
exact_by_words own probe first third b w2 u2 stashed of_own of_probe exact =
    let P : List OverflowNote → Type 0 = λ notes. AreExact (notes ++ notes_at probe 1) own.ocount stashed in
    let Q : List OverflowNote → Type 0 = λ notes. AreExact (notes_by (first b) (third b) 0 ++ notes) own.ocount stashed in
    let R : ℕ → Type 0 = λ count. AreExact (notes_by (first b) (third b) 0 ++ notes_by (first (probing_of b)) (third (probing_of b)) 1) count stashed in
    subst R of_own.ocount
    (subst Q (notes_are probe (first (probing_of b)) u2 (third (probing_of b)) 1 of_probe) (subst P (notes_are own (first b) w2 (third b) 0 of_own) exact))

module _ (old new : Meta) (w1 w2 w3 x1 x2 x3 : ℕ) (was : IsMetaOf old w1 w2 w3) (is : IsMetaOf new x1 x2 x3) (same : SameSlots old new) where
  same_finger : (s : ℕ) → s < 14 → finger s x2 x3 ≡ finger s w2 w3
  same_finger s low = sym (is.fps s low) ∙ ap (λ fs. slice_index fs s) same.fps ∙ was.fps s low

  low_bits : (v w : ℕ) → bits 0 14 v ≡ bits 0 14 w → bits 14 14 v ≡ bits 14 14 w → v % 2 ^ 28 ≡ w % 2 ^ 28
  low_bits v w a m = omega (arith, a, m)

  low_bytes : (v w : ℕ) → bits 0 8 v ≡ bits 0 8 w → bits 8 8 v ≡ bits 8 8 w → bits 16 8 v ≡ bits 16 8 w → bits 24 8 v ≡ bits 24 8 w
      → bits 32 8 v ≡ bits 32 8 w → bits 40 8 v ≡ bits 40 8 w → v % 2 ^ 48 ≡ w % 2 ^ 48
  low_bytes v w b0 b1 b2 b3 b4 b5 = omega (arith, b0, b1, b2, b3, b4, b5)

  pub keeps_records : KeepsRecords w1 w3 x1 x3
  keeps_records = record {
    slots = low_bits x1 w1 (sym is.alloc ∙ same.alloc ∙ was.alloc) (sym is.member ∙ same.member ∙ was.member);
    fingers = low_bytes x3 w3 (same_finger 8 (lit< tt)) (same_finger 9 (lit< tt)) (same_finger 10 (lit< tt)) (same_finger 11 (lit< tt))
        (same_finger 12 (lit< tt)) (same_finger 13 (lit< tt));
  }
