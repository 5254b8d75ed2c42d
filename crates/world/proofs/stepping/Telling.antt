-- What a reader's notes tell of all words that may be the newest: what a key has there, by the buckets that were read.
use Rattle.std.proofs.Common.{◌≡◌, ◌⊎◌, ℕ, zero, suc, ◌+◌, ◌-◌, ◌<◌, ◌≤◌, Bool, true, false, None, Some, [], ◌∷◌, ◌++◌, length, inl, inr, refl, sym, ap, ◌∙◌, subst, arith}
use Rattle.std.specs.Prelude.{◌==◌, ◌&&◌, nat_lt, if◌then◌else◌}
use Rattle.std.proofs.lemmas.Bool.{ltb-false, or_parts}
use Rattle.std.proofs.lemmas.Option.{none-some}
use Rattle.hash_word.specs.Hash.{home_of, probing_of, finger_of}
use Rattle.bucket_meta.specs.Bucket.{note_used, note_member, note_index, note_finger, overflow_count, record_slots}
use Rattle.bucket_meta.specs.Notes.{how_often, note_piece, notes_by}
use Rattle.bucket_meta.specs.Visits.{is_note, is_named, must_visit}
use Rattle.frame_facts.proofs.Counts.{how_often-is_sum, how_often-append, no_piece}
use Rattle.trace.specs.Events.{Words}
use Rattle.image_layout.specs.Places.{Shape, bucket_at, homes, stash_buckets, buckets}
use Rattle.sound_image.specs.Records.{key_hash, HasExactNotes}
use Rattle.frame_facts.specs.Buckets.{value_in, find_below}
use Rattle.frame_facts.specs.Owners.{owner_of}
use Rattle.frame_facts.specs.Hits.{Hit, HasNone, find}
use Rattle.frame_facts.specs.Standing.{IsTable}
use Rattle.frame_facts.specs.HomeNotes.{IsUnnoted}
use Rattle.frame_facts.proofs.segments.Finding.{found_below, find_is, find_none}
use Rattle.frame_facts.proofs.segments.Stashed.{not_there}
use Rattle.world.proofs.stepping.Noting.{never}

module _ (shape : Shape) (m : Words) (s b k : ℕ) (segment : s < shape.segments) (bucket : b < buckets) where
  pub no_hit : find_below m (bucket_at shape s b) k record_slots ≡ None → (t : ℕ) → Hit shape m s b t k → ⊥
  no_hit e t h = elim (found_below m (bucket_at shape s b) k record_slots) [
    | inl f ↦ none-some _ (sym e ∙ f.3)
    | inr n ↦ n.0 t h.slot (record { taken = h.taken; key = h.key })
  ]

  pub one_hit : (x : ℕ) → find_below m (bucket_at shape s b) k record_slots ≡ Some x → (t : ℕ) × Hit shape m s b t k × (Some (value_in m (bucket_at shape s b) t) ≡ Some x)
  one_hit x e = elim (found_below m (bucket_at shape s b) k record_slots) [
    | inl f ↦ (f.0, record { segment = segment; bucket = bucket; slot = f.1; taken = f.2.taken; key = f.2.key }, sym f.3 ∙ e)
    | inr n ↦ absurd (none-some _ (sym n.1 ∙ e))
  ]

-- ---- what a key has
module _ (shape : Shape) (m : Words) (table : IsTable shape m) (s k : ℕ) (segment : s < shape.segments) (own : owner_of shape m (key_hash shape k) ≡ Some s) where
  abbrev home : ℕ
  home = home_of (key_hash shape k)

  pub has_none : HasExactNotes shape m s home → find_below m (bucket_at shape s home) k record_slots ≡ None → find_below m (bucket_at shape s (probing_of home)) k record_slots ≡ None
      → ((c : ℕ) → c < stash_buckets → (find_below m (bucket_at shape s (homes + c)) k record_slots ≡ None) ⊎ IsUnnoted shape m s home (finger_of (key_hash shape k)) c) → find shape m k ≡ None
  has_none exact at_home at_probing at_stash = find_none shape m s k segment own nowhere
    where
      stash_of : (b : ℕ) → b < buckets → homes ≤ b → (c : ℕ) × (c < stash_buckets) × (b ≡ homes + c)
      stash_of b near above = (b - homes, omega (arith, near, above), omega (arith, above))

      nowhere : HasNone shape m s k
      nowhere c t h = elim (table.stands s c t k h own).bucket [
        | inl a ↦ no_hit shape m s home k segment (omega arith) at_home t (subst (λ (z : ℕ). Hit shape m s z t k) a.0 h)
        | inr e ↦ elim e [
          | inl a ↦ no_hit shape m s (probing_of home) k segment (omega arith) at_probing t (subst (λ (z : ℕ). Hit shape m s z t k) a.0 h)
          | inr a ↦ (let d = stash_of c h.bucket a in let h' = subst (λ (z : ℕ). Hit shape m s z t k) d.2 h in elim (at_stash d.0 d.1) [
            | inl q ↦ no_hit shape m s (homes + d.0) k segment (let low = d.1 in omega (arith, low)) q t h'
            | inr u ↦ not_there shape m s d.0 t k d.1 exact u h'
          ])
        ]
      ]

  pub has_some : (b x : ℕ) → b < buckets → find_below m (bucket_at shape s b) k record_slots ≡ Some x → find shape m k ≡ Some x
  has_some b x bucket e = let h = one_hit shape m s b k segment bucket x e in find_is shape m table s b h.0 k h.1 own ∙ h.2

-- ---- a stash bucket without a note
piece_none : (u m side f n finger c : ℕ) → ((u == 1) && ((m == side) && ((n == c) && (f == finger)))) ≡ false
    → how_often (finger, c) (note_piece side u m f n) ≡ 0
piece_none u m side f n finger c e = by (u == 1) (m == side) (n == c) (f == finger) refl refl e
  where
    by : (a b d g : Bool) → (n == c) ≡ d → (f == finger) ≡ g → (a && (b && (d && g))) ≡ false → how_often (finger, c) (if a && b then (f, n) ∷ [] else []) ≡ 0
    by false b d g p q e = refl
    by true false d g p q e = refl
    by true true true true p q e = never (sym e)
    by true true false g p q e = rw (p) (both_off (f == finger))
      where
        both_off : (z : Bool) → length {A = ℕ × ℕ} (if z && false then (f, n) ∷ [] else []) ≡ 0
        both_off true = refl
        both_off false = refl
    by true true true false p q e = rw (q) refl

pub unnamed : (w1 w3 side finger c : ℕ) → is_named w1 w3 side finger c ≡ false → how_often (finger, c) (notes_by w1 w3 side) ≡ 0
unnamed w1 w3 side finger c e =
    let a = or_parts (is_note w1 w3 side finger c 0) _ e in
    let b = or_parts (is_note w1 w3 side finger c 1) _ a.1 in
    let d = or_parts (is_note w1 w3 side finger c 2) (is_note w1 w3 side finger c 3) b.1 in
    no_piece (how_often (finger, c)) (how_often-is_sum (finger, c)) (λ i. note_piece side (note_used i w1) (note_member i w1) (note_finger i w1 w3) (note_index i w1)) 4
    (λ i within. at i within a.0 b.0 d.0 d.1)
  where
    at : (i : ℕ) → i < 4 → is_note w1 w3 side finger c 0 ≡ false → is_note w1 w3 side finger c 1 ≡ false → is_note w1 w3 side finger c 2 ≡ false → is_note w1 w3 side finger c 3 ≡ false
        → how_often (finger, c) (note_piece side (note_used i w1) (note_member i w1) (note_finger i w1 w3) (note_index i w1)) ≡ 0
    at zero l p q r t = piece_none (note_used 0 w1) (note_member 0 w1) side (note_finger 0 w1 w3) (note_index 0 w1) finger c p
    at (suc zero) l p q r t = piece_none (note_used 1 w1) (note_member 1 w1) side (note_finger 1 w1 w3) (note_index 1 w1) finger c q
    at (suc (suc zero)) l p q r t = piece_none (note_used 2 w1) (note_member 2 w1) side (note_finger 2 w1 w3) (note_index 2 w1) finger c r
    at (suc (suc (suc zero))) l p q r t = piece_none (note_used 3 w1) (note_member 3 w1) side (note_finger 3 w1 w3) (note_index 3 w1) finger c t
    at (suc (suc (suc (suc i)))) l p q r t = absurd (omega (arith, l))

-- where the notes say that a stash bucket is not visited, they name nothing there
pub unvisited : (shape : Shape) (m : Words) (s b c finger w1 w3 u1 u3 : ℕ) → m (bucket_at shape s b + 1) ≡ w1 → m (bucket_at shape s b + 3) ≡ w3
    → m (bucket_at shape s (probing_of b) + 1) ≡ u1 → m (bucket_at shape s (probing_of b) + 3) ≡ u3 → must_visit w1 w3 u1 u3 finger c ≡ false → IsUnnoted shape m s b finger c
unvisited shape m s b c finger w1 w3 u1 u3 p1 p3 q1 q3 e =
    let a = or_parts (nat_lt 0 (overflow_count w1)) _ e in
    let d = or_parts (is_named w1 w3 0 finger c) (is_named u1 u3 1 finger c) a.1 in
    record {
      none = ap (λ w. how_often (finger, c) (notes_by w (m (bucket_at shape s b + 3)) 0 ++ notes_by (m (bucket_at shape s (probing_of b) + 1)) (m (bucket_at shape s (probing_of b) + 3)) 1)) p1
          ∙ ap (λ w. how_often (finger, c) (notes_by w1 w 0 ++ notes_by (m (bucket_at shape s (probing_of b) + 1)) (m (bucket_at shape s (probing_of b) + 3)) 1)) p3
          ∙ ap (λ w. how_often (finger, c) (notes_by w1 w3 0 ++ notes_by w (m (bucket_at shape s (probing_of b) + 3)) 1)) q1
          ∙ ap (λ w. how_often (finger, c) (notes_by w1 w3 0 ++ notes_by u1 w 1)) q3
          ∙ (how_often-append (finger, c) (notes_by w1 w3 0) (notes_by u1 u3 1)
          ∙ (let x = unnamed w1 w3 0 finger c d.0 in let y = unnamed u1 u3 1 finger c d.1 in omega (arith, x, y)));
      counted = ap overflow_count p1 ∙ (let low = ltb-false 0 (overflow_count w1) a.0 in omega (arith, low));
    }
