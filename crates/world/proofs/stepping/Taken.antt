-- A slot that is taken in whatever a cut may leave stays so at each kind of step, where each live segment has the image's version, and where the slot
-- was free at the start; and who tells that no slot is free found each so.
use Rattle.std.proofs.Common.{◌≡◌, ◌≢◌, ℕ, ◌<◌, Bool, true, false, cond, eqb, List, set, inl, inr, refl, sym, ap, ◌∙◌, subst}
use Rattle.std.proofs.lemmas.Bool.{cases_eq}
use Rattle.trace.specs.Events.{Words, with_word, after}
use Rattle.trace.specs.Events.Event.{loaded, exchanged}
use Rattle.trace.proofs.Replaced.{replaced_same, replaced_other}
use Rattle.segment_head.specs.HeadWord.{state_in, free}
use Rattle.image_layout.specs.Places.{words_of}
use Rattle.frame_facts.specs.Facts.{Taken}
use Rattle.world.specs.Ground.{Ground}
use Rattle.world.specs.Views.{View, At}
use Rattle.world.specs.Kinds.{wanted}
use Rattle.world.specs.Invariant.{Holds}
use Rattle.world.specs.areas.Areas.{header_word}
use Rattle.world.specs.areas.Rows.{Row, HasStored}
use Rattle.world.specs.areas.Lasting.{IsTakenInMedia}
use Rattle.world.specs.areas.Kinds.{Guard, of_free_slots, guard_word, takes, takes_for_side, gives, finds_stale, closes, finds_free, finds_link, finds_side, finds_entry, finds_begin, reads, sets, moves, settles, settles_side, opens, with_guard, with_guard_for}
use Rattle.world.specs.areas.Asking.{MayAt}
use Rattle.world.specs.StepKinds.{StepKind, of_call, of_structure, MayTake, view_by}
use Rattle.world.specs.StepLaws.{found_of, words_of_step}
use Rattle.world.specs.Slots.{TakenStays, FullsAreTaken, FreeSlotsStayTakenInMedia}
use Rattle.world.proofs.basics.Structures.{header_is}
use Rattle.world.proofs.holding.Beside.{newest}
use Rattle.world.proofs.fitting.Rows.{head_near, row_slot, one_head}
use Rattle.world.proofs.fitting.Stored.{grown_by}
use Rattle.world.proofs.moving.Known.{held_within, newest_is}
use Rattle.world.proofs.moving.Used.{used_taken, row_uses}
use Rattle.world.proofs.moving.Stepping.{IsStill, still_back, calm_still, guard_still}
use Rattle.world.proofs.moving.media.Said.{found_still, told_still, slot_still, fence_still, opened_still, row_stored}
use Rattle.world.proofs.calls.standing.Structure.{leaves}
use Rattle.world.proofs.device.Worlds.{one_word}
use Rattle.world.proofs.stepping.Slots.{row_taken}

module _ (site : Ground) (words : Words) (views : List View) (j : ℕ) (v : View) (h : Holds site words views) (at : At views j v) (number : ℕ)
    (n : ℕ) (slot : n < site.shape.segments) (taken : IsTakenInMedia site words views n) where
  abbrev Stays : Words → View → Type 0
  Stays later w = IsTakenInMedia site later (set views j w) n

  abbrev head : ℕ
  head = header_word site.shape n

  -- a step that leaves the cores of the image
  still : (later : Words) (w : View) → IsStill site words later v w → Stays later w
  still later w s m p is = taken m (still_back site words later views j v w at s m p) is

  -- a store, if one to the header leaves it taken
  stored : (i x : ℕ) (w : View) → HasStored site.shape i (words i) x w.areas v w → i < words_of site.shape → (head ≡ i → state_in x ≢ free) → Stays (with_word words i x) w
  stored i x w st near some m p is = elim (grown_by site words views j v w i x w.areas at st near m p) [
    | inl q ↦ taken m q is
    | inr q ↦ elim (cases_eq head i) [
      | inl e ↦ some e (sym (ap state_in (q.2 head (header_is site.shape n slot) ∙ ap (with_word q.0 i x) e ∙ replaced_same q.0 i x)) ∙ is)
      | inr apart ↦ taken q.0 q.1 (sym (ap state_in (q.2 head (header_is site.shape n slot) ∙ replaced_other q.0 i x head apart)) ∙ is)
    ]
  ]

  guard_taken : (guard : Guard) (caller : ℕ) (t : Bool)
      → Stays (after (cond t (exchanged number (guard_word site.shape guard) caller) (loaded number (guard_word site.shape guard))) words) (with_guard t guard v)
  guard_taken guard caller true = still _ (with_guard true guard v) (guard_still site words v (with_guard true guard v) guard caller (λ p l. l))
  guard_taken guard caller false = still words v (calm_still site words v v (λ p l. l))

  guard_taken_for : (m caller : ℕ) (t : Bool)
      → Stays (after (cond t (exchanged number (guard_word site.shape of_free_slots) caller) (loaded number (guard_word site.shape of_free_slots))) words) (with_guard_for site.shape t m v)
  guard_taken_for m caller true = guard_taken of_free_slots caller true
  guard_taken_for m caller false = still words (with_guard_for site.shape false m v) (calm_still site words v (with_guard_for site.shape false m v) (λ p l. l))

  -- by what a row stores to the header of the slot
  abbrev NeverFrees : Type 0
  NeverFrees = (row : Row) (x : ℕ) → MayAt site (moves row n x) v → state_in x ≢ free

  by_kind : NeverFrees → (kind : StepKind) → MayTake site kind v → Stays (words_of_step site kind number words) (view_by site.shape kind (found_of site kind words) v)
  by_kind never (of_call kind) may =
      subst (λ (later : Words). Stays later (view_by site.shape (of_call kind) (found_of site (of_call kind) words) v))
      (one_word site.shape (wanted site.shape kind) j words ∙ sym (one_word site.shape (wanted site.shape kind) number words))
      (λ m p is. let q = (leaves site words views j v h at kind may.0).media m p in taken q.0 q.1 (sym (ap state_in (q.2 head (header_is site.shape n slot))) ∙ is))
  by_kind never (of_structure (takes guard caller)) may = guard_taken guard caller (eqb (words (guard_word site.shape guard)) 0)
  by_kind never (of_structure (takes_for_side m caller)) may = guard_taken_for m caller (eqb (words (guard_word site.shape of_free_slots)) 0)
  by_kind never (of_structure (gives guard)) may = still _ _ (guard_still site words v _ guard 0 (λ p l. l))
  by_kind never (of_structure (finds_stale s version)) may = still _ _ (found_still site words views j v h at _ _ _ _)
  by_kind never (of_structure (closes s i)) may = still _ _ (calm_still site words v _ (λ p l. l))
  by_kind never (of_structure (finds_free s)) may = still _ _ (slot_still site words views j v h at _ _ _ _)
  by_kind never (of_structure (finds_link p depth pattern)) may = still _ _ (calm_still site words v _ (λ p l. l))
  by_kind never (of_structure (finds_side p s depth pattern)) may = still _ _ (told_still site words views j v h at _ _ _ _ _)
  by_kind never (of_structure (finds_entry e i)) may = still _ _ (calm_still site words v _ (λ p l. l))
  by_kind never (of_structure (finds_begin s)) may = still _ _ (calm_still site words v _ (λ p l. l))
  by_kind never (of_structure (reads i)) may = still _ _ (calm_still site words v _ (λ p l. l))
  by_kind never (of_structure (sets i x)) may = stored i x _ (record { held = refl; dirty = refl; flushed = refl; areas_are = refl }) (held_within site words views h j v i at may.holds)
      (λ e. absurd (may.no_header n slot (sym e)))
  by_kind never (of_structure (moves row s x)) may =
      let is = (may.0 words (newest_is site words views h j v at)).0 in
      stored (header_word site.shape s) x _ (row_stored site words views j v h at row s x _ refl refl refl) (head_near site s (row_slot site words s x row is))
      (λ e. never row x (subst (λ (z : ℕ). MayAt site (moves row z x) v) (one_head site s n (sym e)) may))
  by_kind never (of_structure (settles facts)) may = still _ _ (fence_still site words views j v h at _ refl refl)
  by_kind never (of_structure (settles_side s depth pattern)) may = still _ _ (fence_still site words views j v h at _ refl refl)
  by_kind never (of_structure (opens s lock next)) may = still _ _ (opened_still site words views j v h at s lock next _ may refl refl)

pub taken_stays : TakenStays
taken_stays site words views j v kind number h at may all s slot taken = by_kind site words views j v h at number s slot taken
    (λ row x moved. row_taken site words all s x row (moved.0 words (newest_is site words views h j v at)).0) kind may

-- a slot that was free at the start is used by now, and so it is after a row
pub free_slots_stay_taken_in_media : FreeSlotsStayTakenInMedia
free_slots_stay_taken_in_media site words views j v kind number h at may s slot was taken = by_kind site words views j v h at number s slot taken
    (λ row x moved e. used_taken site (with_word words (header_word site.shape s) x) s
    (row_uses site words views j v h at row s x s moved (h.structure.used_slots s slot was (taken words (newest site words views))))
    (ap state_in (replaced_same words (header_word site.shape s) x) ∙ e)) kind may

pub fulls_are_taken : FullsAreTaken
fulls_are_taken site words views j v call h at may s slot m p is = (h.structure.says j v (Taken s) m at (may.0.4 refl s slot) p).taken is
