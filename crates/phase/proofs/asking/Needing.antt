-- Which buckets a call needs, by the words of buckets that were loaded behind their lock words.
use Rattle.std.proofs.Common.{◌≡◌, ℕ, ◌+◌, ◌<◌, true, List, inl, inr, refl, ap, subst, arith, slice_index}
use Rattle.std.specs.Prelude.{if◌then◌else◌}
use Rattle.std.proofs.lemmas.Bool.{lt-ltb}
use Rattle.bucket_meta.specs.Visits.{must_visit}
use Rattle.bucket_meta.proofs.Found.{none_free}
use Rattle.hash_word.specs.Hash.{home_of, probing_of, finger_of}
use Rattle.image_layout.specs.Places.{Shape, root_word, bucket_at, homes, stash_buckets}
use Rattle.way.specs.Ways.{bucket_word}
use Rattle.map_model.specs.declared.call.Call.{Call}
use Rattle.map_model.specs.Legal.{IsInsert}
use Rattle.world.specs.Views.{Has}
use Rattle.part.specs.Room.{NothingMovesOn}
use Rattle.part.specs.Causes.{WasMeta, WasFull, WereFull, NothingMovedOn, MustVisit, WereFullBefore, NeedsBucket}
use Rattle.phase.specs.declared.role.Role.{Role}
use Rattle.phase.specs.declared.role.Role.TheVariants.{Home, Probing, Next, Previous}
use Rattle.phase.specs.declared.kept.Kept.{Kept}
use Rattle.phase.specs.Places.{bucket_of_role}
use Rattle.phase.specs.Buckets.{words_in}
use Rattle.phase.specs.Keeps.{WasLoaded, LoadedFull}
use Rattle.phase.specs.Third.{NothingToMove}

module _ (shape : Shape) (hash : ℕ) (loads : List (ℕ × ℕ)) (segment : ℕ) (within : segment < shape.segments) where
  -- the words of a bucket stand behind its lock word
  pub word_at : (b j x : ℕ) → Has (bucket_word shape segment b + j, x) loads → Has (bucket_at shape segment b + j, x) loads
  word_at b j x has = subst (λ lock. Has (lock + j, x) loads) (ap (λ t. if t then bucket_at shape segment b else root_word) (lt-ltb segment shape.segments within)) has

  -- a stash bucket that the search has to visit, by words 1 and 3 of home and probing bucket
  pub must_visit_by : (index home home_fingers probing probing_fingers : ℕ)
      → Has (bucket_word shape segment (home_of hash) + 1, home) loads → Has (bucket_word shape segment (home_of hash) + 3, home_fingers) loads
      → Has (bucket_word shape segment (probing_of (home_of hash)) + 1, probing) loads → Has (bucket_word shape segment (probing_of (home_of hash)) + 3, probing_fingers) loads
      → must_visit home home_fingers probing probing_fingers (finger_of hash) index ≡ true → MustVisit shape hash loads segment index
  must_visit_by index home home_fingers probing probing_fingers home_was home_fingers_was probing_was probing_fingers_was visits = record {
    home = home;
    home_fingers = home_fingers;
    probing = probing;
    probing_fingers = probing_fingers;
    home_loaded = word_at (home_of hash) 1 home home_was;
    home_fingers_loaded = word_at (home_of hash) 3 home_fingers home_fingers_was;
    probing_loaded = word_at (probing_of (home_of hash)) 1 probing probing_was;
    probing_fingers_loaded = word_at (probing_of (home_of hash)) 3 probing_fingers probing_fingers_was;
    visits = visits;
  }

  pub visit_needed : (call : Call) (index : ℕ) → index < stash_buckets → MustVisit shape hash loads segment index → NeedsBucket shape hash loads segment call (homes + index)
  visit_needed call index low visits = inr (inr (inl (record { index = index; within = low; at = refl; cause = inl visits })))

  -- which stash buckets come before one
  pub first_before : WereFullBefore shape hash loads segment 0
  first_before before low = absurd (omega (arith, low))

  pub second_before : (meta : ℕ) → WasFull shape loads segment homes meta → WereFullBefore shape hash loads segment 1
  second_before meta was before low = (meta, (let none : 0 ≡ before = omega (arith, low) in subst (λ n. WasFull shape loads segment (homes + n) meta) none was))

-- ---- of an insert that found no room in home and probing bucket
module _ (kept : Kept) (loads : List (ℕ × ℕ)) (within : kept.segment < kept.site.geometry.segments) where
  abbrev g : Shape
  g = kept.site.geometry

  abbrev meta : Role → ℕ
  meta place = slice_index (words_in kept.buckets place) 1

  meta_loaded : (place : Role) → WasLoaded kept loads place → WasMeta g loads kept.segment (bucket_of_role kept.hash place) (meta place)
  meta_loaded place was = word_at g kept.hash loads kept.segment within (bucket_of_role kept.hash place) 1 (meta place) (was 1 (omega arith) (omega arith))

  pub was_full : (place : Role) → LoadedFull kept loads place → WasFull g loads kept.segment (bucket_of_role kept.hash place) (meta place)
  was_full place f = record { loaded = meta_loaded place f.0; full = none_free (meta place) f.1 }

  module _ (home : LoadedFull kept loads Home) (probing : LoadedFull kept loads Probing) where
    were_full : WereFull g kept.hash loads kept.segment
    were_full = record { home = meta Home; probing = meta Probing; home_full = was_full Home home; probing_full = was_full Probing probing }

    moved_on : WasLoaded kept loads Next → NothingMovesOn (meta Probing) (meta Next) → NothingMovedOn g kept.hash loads kept.segment
    unfolding were_full
    moved_on next forward = record { full = were_full; next = meta Next; next_loaded = meta_loaded Next next; forward = forward }

    module _ (call : Call) (insert : IsInsert call) where
      pub next_needed : NeedsBucket g kept.hash loads kept.segment call (bucket_of_role kept.hash Next)
      next_needed = inr (inr (inr (insert, inl (refl, were_full))))

      pub previous_needed : WasLoaded kept loads Next → NothingMovesOn (meta Probing) (meta Next) → NeedsBucket g kept.hash loads kept.segment call (bucket_of_role kept.hash Previous)
      previous_needed next forward = inr (inr (inr (insert, inr (refl, moved_on next forward))))

      pub stash_needed : (index : ℕ) → index < stash_buckets → NothingToMove kept loads → WereFullBefore g kept.hash loads kept.segment index
          → NeedsBucket g kept.hash loads kept.segment call (homes + index)
      unfolding were_full moved_on
      stash_needed index low none before = inr (inr (inl (record {
        index = index;
        within = low;
        at = refl;
        cause = inr (
          insert,
          record { on = moved_on none.next none.moves.forward; previous = meta Previous; previous_loaded = meta_loaded Previous none.previous; backward = none.moves.backward },
          before,
        );
      })))
