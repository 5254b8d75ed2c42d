-- The image of a memory, word by word; and what a trace says of a memory of which caller 0 waits for nothing.
use Rattle.std.proofs.Common.{◌≡◌, ℕ, ◌+◌, ◌<◌, ◌≤◌, inl, inr, List, [], ◌∷◌, length, refl, sym, ap, subst, ◌∙◌, arith}
use Rattle.std.specs.Prelude.{slice_index, Contains, Any}
use Rattle.std.proofs.lemmas.Bool.{eq-eqb, cases_lt}
use Rattle.std.proofs.lemmas.List.{get_or_past}
use Rattle.std.proofs.lemmas.List.FromFn.{length-map-range_with_len, get_or-map-range_with_len}
use Rattle.trace.specs.Events.{Words, Trace}
use Rattle.trace.specs.Progress.{pending}
use Rattle.trace.specs.Steps.{HadSinceSettled}
use Rattle.trace.proofs.Listed.{contains_of_has}
use Rattle.trace.specs.Listed.{Has}
use Rattle.trace.proofs.Media.{settled_may}
use Rattle.trace.proofs.SettledValues.{is_settled}
use Rattle.bucket_meta.specs.Bucket.{allocated}
use Rattle.image_layout.specs.Places.{Shape, state_word, words_of, head_at, bucket_at, key_at, value_at}
use Rattle.std.specs.FinMap.{get}
use Rattle.map_model.specs.Map.{Map}
use Rattle.session.specs.Left.{HasPairsOf}
use Rattle.sound_image.proofs.SameRecords.{HasSameRecords, has_there}
use Rattle.pm_trace.specs.declared.flushes.Flush.{Flush}
use Rattle.pm_trace.specs.Memory.{Memory, flushes_of, unfenced}
use Rattle.pm_trace.specs.TraceOf.{IsTraceOf}
use Rattle.pm_trace.proofs.Elements.{has_of_any, has_filter}
use Rattle.keeping.specs.Kept.{image_of}

-- ---- the image
pub image_word : (m : Memory) (i : ℕ) → i < words_of m.shape → slice_index (image_of m) i ≡ slice_index m.newest i
image_word m i within = get_or-map-range_with_len (slice_index m.newest) 0 (words_of m.shape) i i 0 within (omega arith)

pub image_whole : (m : Memory) → length (image_of m) ≡ words_of m.shape
image_whole m = length-map-range_with_len (slice_index m.newest) 0 (words_of m.shape)

pub image_past : (m : Memory) (i : ℕ) → words_of m.shape ≤ i → slice_index (image_of m) i ≡ 0
image_past m i past = let whole = image_whole m in get_or_past (image_of m) i 0 (omega (arith, whole, past))

-- every word but the state word is the same
abbrev pub AgreeButForState : Words → Words → Type 0
AgreeButForState word other = (i : ℕ) → (i ≡ state_word → ⊥) → word i ≡ other i

-- so all records are
same_records : (shape : Shape) (word other : Words) → AgreeButForState word other → HasSameRecords shape word other
same_records shape word other agree = record {
  header = λ s. agree (head_at shape s + 1) (λ at. omega (arith, at));
  taken = λ s b r segment bucket slot. ap (allocated r) (agree (bucket_at shape s b + 1) (λ at. omega (arith, at)));
  key = λ s b r bucket slot. agree (key_at shape s b r) (λ at. omega (arith, at));
  value = λ s b r bucket slot. agree (value_at shape s b r) (λ at. omega (arith, at));
}

-- memories that differ in the state word alone have images that do
pub images_agree : (old new : Memory) → new.shape ≡ old.shape
    → ((i : ℕ) → (i ≡ state_word → ⊥) → slice_index new.newest i ≡ slice_index old.newest i)
    → AgreeButForState (slice_index (image_of old)) (slice_index (image_of new))
images_agree old new shape others i other =
    let width : words_of new.shape ≡ words_of old.shape = ap (λ (s : Shape). words_of s) shape in
    elim (cases_lt i (words_of old.shape)) [
      | inl within ↦ image_word old i within ∙ sym (others i other) ∙ sym (image_word new i (subst (λ (n : ℕ). i < n) (sym width) within))
      | inr past ↦ image_past old i past ∙ sym (image_past new i (subst (λ (n : ℕ). n ≤ i) (sym width) past))
    ]

pub pairs_kept : (old new : Memory) → new.shape ≡ old.shape
    → ((i : ℕ) → (i ≡ state_word → ⊥) → slice_index new.newest i ≡ slice_index old.newest i) → (m : Map)
    → HasPairsOf old.shape (slice_index (image_of old)) m → HasPairsOf new.shape (slice_index (image_of new)) m
pairs_kept old new shape others m has =
    subst (λ (s : Shape). HasPairsOf s (slice_index (image_of new)) m) (sym shape)
    (λ k. has_there old.shape (slice_index (image_of old)) (slice_index (image_of new))
    (same_records old.shape (slice_index (image_of old)) (slice_index (image_of new)) (images_agree old new shape others)) k (get m k) (has k))

-- ---- what is pending
none_has : {X : Type 0} (x : X) (xs : List X) → length xs ≡ 0 → Has x xs → ⊥
none_has x [] none h = h
none_has x (y ∷ ys) none h = omega (arith, none)

none_at_all : (ps : List (ℕ × ℕ)) → ((l t : ℕ) → Contains ps (l, t) → ⊥) → ps ≡ []
none_at_all [] none = refl
none_at_all (p ∷ ps) none = absurd (none p.0 p.1 (contains_of_has (p.0, p.1) (p ∷ ps) (inl refl)))

no_flush : (flushes : List Flush) (l : ℕ) → length (flushes_of 0 flushes) ≡ 0 → Any (λ (f : Flush). (f.caller ≡ 0) × (f.line ≡ l)) flushes → ⊥
no_flush flushes l none any =
    let found = has_of_any (λ (f : Flush). (f.caller ≡ 0) × (f.line ≡ l)) flushes any in
    none_has found.0 (flushes_of 0 flushes) none (has_filter _ found.0 flushes found.1 (eq-eqb found.0.caller 0 found.2.0))

pub none_pending : (m : Memory) (start : Words) (es : Trace) → IsTraceOf start es m → unfenced 0 m ≡ 0 → pending 0 es ≡ []
none_pending m start es traced none = none_at_all (pending 0 es) (λ l t there. no_flush m.flushes l none (traced.whole 0 l t there))

-- ---- what has settled
pub settled_had : (m : Memory) (start : Words) (es : Trace) (w : ℕ) → IsTraceOf start es m → HadSinceSettled start es w (slice_index m.settled w)
settled_had m start es w traced =
    subst (λ (x : ℕ). HadSinceSettled start es w x) (sym (is_settled start es w (slice_index m.settled w) (traced.settled w))) (settled_may start es w)
