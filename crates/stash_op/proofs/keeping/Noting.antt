-- The stores of the note leave a view that suits, and with the last of them nothing is owed.
use Rattle.std.proofs.Common.{◌≡◌, ℕ, ◌+◌, ◌<◌, ◌≤◌, Bool, true, false, List, [], inl, refl, sym, ap, ◌∙◌, subst, arith}
use Rattle.std.specs.Prelude.{if◌then◌else◌}
use Rattle.bucket_meta.specs.Bucket.{allocated}
use Rattle.bucket_meta.proofs.Marks.{takes_slot}
use Rattle.trace.specs.Events.{Words, with_word}
use Rattle.map_model.specs.Changes.{call_of}
use Rattle.bucket_words.specs.Core.{core_of}
use Rattle.bucket_words.specs.Hits.{Hit}
use Rattle.world.specs.Ground.{Ground}
use Rattle.world.specs.Views.{Owed, View, Has, At, IsGuarded}
use Rattle.world.specs.Wants.{word_of}
use Rattle.world.specs.Conditions.{IsOwed}
use Rattle.world.specs.Kinds.{of_other_homes, with_store, view_after}
use Rattle.world.specs.Invariant.{Holds}
use Rattle.world.specs.Attempts.{HasNoMore}
use Rattle.phase.specs.declared.role.Role.{Role}
use Rattle.phase.specs.declared.kept.Kept.{Kept}
use Rattle.phase.specs.Places.{bucket_of_role}
use Rattle.phase.specs.Buckets.{words_in}
use Rattle.phase.specs.Giving.{IsHeld}
use Rattle.phase.specs.Knows.{Knows, HasNoneLoose}
use Rattle.phase.specs.AreWords.{AreWords}
use Rattle.phase.proofs.Handing.{none_more, own_repaid, core_settled}
use Rattle.phase.proofs.locks.Giving.{held_guard, held_store}
use Rattle.phase.proofs.locks.Knowing.{known_store}
use Rattle.phase.proofs.locks.Finding.{publish_tells}
use Rattle.stash_op.specs.declared.step.NoteBucket.{NoteBucket}
use Rattle.stash_op.specs.declared.step.NoteBucket.TheVariants as note
use Rattle.stash_op.specs.declared.step.NoteWords.{NoteWords}
use Rattle.stash_op.specs.declared.step.Seen.{Seen}
use Rattle.phase.specs.declared.note.NoteWord.{NoteWord}
use Rattle.phase.specs.declared.note.NoteWord.TheVariants.{Mark, Fingers}
use Rattle.stash_op.specs.declared.step.StashStep.TheVariants.{Note, Draw}
use Rattle.stash_op.specs.Search.{place_of, note_place, noted, has_finger}
use Rattle.stash_op.specs.Steps.{go, lock_of, note_wanted, noted_to}
use Rattle.stash_op.specs.Fits.{changed, marked, fingered, prepared, owed, IsHere, mark_kind, note_kind, words_of_note, HasAll, IsNoting, IsIn}
use Rattle.stash_op.proofs.finding.Standing.{located}
use Rattle.stash_op.proofs.finding.Chosen.{slot_low, mark_is, stands_ready}
use Rattle.stash_op.proofs.keeping.Going.{reply_at, Goes}
use Rattle.stash_op.proofs.permitting.Noting.{changed_is, mark_same_core, fingers_same_core, hit_stays}

pub owed_now : (site : Ground) (kept : Kept) (seen : Seen) (v : View) (words : Words) (views : List View) (j : ℕ) → Holds site words views → At views j v → (part : NoteWord) → IsNoting site kept seen part v
    → IsOwed site.shape words (owed kept seen)
owed_now site kept seen v words views j h at part u = h.notes_of_homes.owes j v (owed kept seen) at (subst (λ (l : List Owed). Has (owed kept seen) l) (sym u.owes) (inl refl))

module _ (site : Ground) (kept : Kept) (is : IsIn site kept) (seen : Seen) (before v : View) (same : HasNoMore before v) (words : Words) (views : List View) (j : ℕ) (h : Holds site words views) (at : At views j v)
    (small : (place : Role) → AreWords (words_in seen.buckets place)) where
  abbrev n : NoteWords
  n = noted kept.hash seen

  abbrev lock : ℕ
  lock = lock_of kept (note_place n.bucket)

  -- the record stands in its slot
  abbrev Stands : Words → Type 0
  Stands w = Hit site.shape w kept.segment (bucket_of_role kept.hash (place_of seen.bucket)) seen.written.slot kept.change.key

  module _ (part : NoteWord) (u : IsNoting site kept seen part v) where
    is_owed : IsOwed site.shape words (owed kept seen)
    is_owed = owed_now site kept seen v words views j h at part u

    held_by : (p : NoteBucket) → IsHeld seen.held (note_place p)
    held_by note.Home = u.all.home
    held_by note.Probing = u.all.probing

    guard : (k : ℕ) → 1 ≤ k → k < 32 → IsGuarded v.held (lock + k)
    guard k from low = held_guard kept.site kept.hash kept.segment seen.held (note_place n.bucket) v u.all.locks (held_by n.bucket) k from low

    in_set : (k : ℕ) → 1 ≤ k → k < 32 → IsHere kept seen (lock + k)
    in_set k from low = (note_place n.bucket, held_by n.bucket, (omega (arith, from), omega (arith, low)))

    changed_stands : Stands (changed kept seen)
    changed_stands = subst Stands (sym (changed_is site kept is seen v part u small))
        (publish_tells.taken site.shape (prepared kept seen) kept.segment (bucket_of_role kept.hash (place_of seen.bucket)) seen.written.slot kept.change.key seen.written.mark
        (stands_ready site kept seen u.chosen (located site kept is u.all.there.within) is)
        (ap (allocated seen.written.slot) (mark_is site kept seen u.chosen) ∙ (takes_slot _ seen.written.slot (slot_low site kept seen u.chosen)).taken))

    marked_stands : Stands (marked kept seen)
    marked_stands = hit_stays site kept is seen v part u small words is_owed (changed kept seen) 1 n.mark seen.written.slot kept.change.key (omega arith) changed_stands

    fingered_stands : Stands (fingered kept seen)
    fingered_stands = hit_stays site kept is seen v part u small words is_owed (marked kept seen) 3 n.fingers seen.written.slot kept.change.key (omega arith) marked_stands

    -- a store that keeps the core of its word
    module _ (k x m : ℕ) (from : 1 ≤ k) (low : k < 32) (found : m ≡ words (lock + k))
        (core : core_of site.shape (lock + k) (words_of_note site kept seen part (lock + k)) ≡ core_of site.shape (lock + k) x) (os : List Owed) where
      abbrev after : View
      after = with_store site.shape (lock + k) m x v.planned v.moving os v

      known_now : words (lock + k) ≡ words_of_note site kept seen part (lock + k)
      known_now = (h.known.knows j v (lock + k) (words_of_note site kept seen part (lock + k)) at (u.knows (lock + k) (in_set k from low))).0

      same_core : core_of site.shape (lock + k) m ≡ core_of site.shape (lock + k) x
      same_core = ap (core_of site.shape (lock + k)) (found ∙ known_now) ∙ core

      after_settled : HasNoneLoose after
      after_settled = core_settled site.shape (lock + k) m x v.planned v.moving os v same_core u.settled

      after_all : HasAll site kept seen after
      after_all = record {
        there = u.all.there;
        leads = u.all.leads;
        locks = held_store kept.site kept.hash kept.segment site.shape seen.held v (lock + k) m x v.planned v.moving os u.all.locks (guard k from low);
        home = u.all.home;
        probing = u.all.probing;
        bucket = u.all.bucket;
        nowhere = u.all.nowhere;
        still = u.all.still;
        room = u.all.room;
      }

      after_knows : Knows (IsHere kept seen) (with_word (words_of_note site kept seen part) (lock + k) x) after
      after_knows = known_store (IsHere kept seen) (words_of_note site kept seen part) site.shape (lock + k) m x v.planned v.moving os v u.knows

      -- where nothing is owed any more, the place is drawn
      draw_goes : os ≡ [] → Stands (with_word (words_of_note site kept seen part) (lock + k) x) → Goes site kept before (go seen Draw) after
      draw_goes none stands = (
        record {
          all = after_all;
          word = with_word (words_of_note site kept seen part) (lock + k) x;
          knows = after_knows;
          stands = stands;
          settled = after_settled;
          planned = u.planned;
          owes = none;
        },
        none_more (call_of kept.change) before v (reply_at Draw) after refl same refl refl,
      )

    repaid : of_other_homes (owed kept seen) v.owed ≡ []
    repaid = ap (of_other_homes (owed kept seen)) u.owes ∙ own_repaid (owed kept seen)

  -- ---- the metadata word
  mark_by : (u : IsNoting site kept seen Mark v) (m : ℕ) → m ≡ words (lock + 1) → (t : Bool)
      → Goes site kept before (if t then go seen (Note Fingers) else go seen Draw) (view_after site.shape (mark_kind kept seen t (lock + 1) n.mark) m v)
  mark_by u m found true =
      let core = mark_same_core site kept is seen v Mark u small words (is_owed Mark u) in (
        record {
          all = after_all Mark u 1 n.mark m (omega arith) (omega arith) found core v.owed;
          chosen = u.chosen;
          knows = after_knows Mark u 1 n.mark m (omega arith) (omega arith) found core v.owed;
          settled = after_settled Mark u 1 n.mark m (omega arith) (omega arith) found core v.owed;
          planned = u.planned;
          owes = u.owes;
        },
        none_more (call_of kept.change) before v (reply_at (Note Fingers)) (after Mark u 1 n.mark m (omega arith) (omega arith) found core v.owed) refl same refl refl,
      )
  mark_by u m found false =
      let core = mark_same_core site kept is seen v Mark u small words (is_owed Mark u) in
      draw_goes Mark u 1 n.mark m (omega arith) (omega arith) found core (of_other_homes (owed kept seen) v.owed) (repaid Mark u) (marked_stands Mark u)

  pub note_goes : (part : NoteWord) (u : IsNoting site kept seen part v) (m : ℕ) → m ≡ words (word_of site.shape (note_wanted kept part n))
      → Goes site kept before (noted_to kept.hash seen part) (view_after site.shape (note_kind kept seen part n) m v)
  note_goes Mark u m found = mark_by u m found (has_finger seen n)
  note_goes Fingers u m found =
      draw_goes Fingers u 3 n.fingers m (omega arith) (omega arith) found (fingers_same_core site kept is seen v Fingers u small words (is_owed Fingers u)) (of_other_homes (owed kept seen) v.owed)
      (repaid Fingers u) (fingered_stands Fingers u)
