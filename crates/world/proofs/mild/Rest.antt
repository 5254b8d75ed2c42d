-- What no step at the structure changes: the history, the room for places, spent numbers and the power.
use Rattle.std.proofs.Common.{◌≡◌, ◌⊎◌, ℕ, ◌-◌, ◌%◌, ◌^◌, ◌<◌, ◌≤◌, Bool, true, false, cond, eqb, List, set, inl, inr, refl, ap, ◌∙◌, subst, arith}
use Rattle.std.proofs.lemmas.Bool.{cases_eq}
use Rattle.std.specs.Prelude.{not, length}
use Rattle.trace.specs.Events.{Words, with_word, after}
use Rattle.trace.specs.Events.Event.{loaded, exchanged}
use Rattle.trace.proofs.Replaced.{replaced_same, replaced_other}
use Rattle.segment_head.specs.HeadWord.{version_in, state_in, free}
use Rattle.image_layout.specs.Places.{Shape, words_of}
use Rattle.image_layout.specs.Volatile.{counter_word, power_word}
use Rattle.map_model.specs.declared.entry.Entry.{Entry}
use Rattle.sound_image.specs.Segments.{frame_of}
use Rattle.frame_facts.specs.Facts.{IsLiveSlot, Fact}
use Rattle.world.specs.Ground.{Ground, IsLockWord, IsSpentLock, HasSpentLock}
use Rattle.world.specs.Views.{View, Has, At}
use Rattle.world.specs.Parts.{History, Room, Spending, Powered}
use Rattle.world.specs.Invariant.{Holds}
use Rattle.world.specs.areas.Areas.{Area, Side, Stale, Free, Whole, header_word}
use Rattle.world.specs.areas.Kinds.{Guard, of_free_slots, guard_word, StructureKind, takes, takes_for_side, gives, finds_stale, closes, finds_free, finds_link, finds_side, finds_entry, finds_begin, reads, sets, moves, settles, settles_side, opens, with_guard, with_area, with_slot, is_new_side, is_ready_side, told_by_side, with_facts, view_then, with_guard_for}
use Rattle.world.specs.areas.Asking.{MayBeNewest, MayAt}
use Rattle.world.specs.areas.Keeping.{found_at, words_then}
use Rattle.world.proofs.basics.Grounds.{lock_within}
use Rattle.world.proofs.basics.Structures.{lock_of_live, live_lock, lock_no_head}
use Rattle.world.proofs.basics.Seats.{each, carry}
use Rattle.world.proofs.invariant.KeepHistory.{history_same}
use Rattle.world.proofs.invariant.KeepRoom.{room_law}
use Rattle.world.proofs.fitting.OneHolder.{held_near}
use Rattle.world.proofs.fitting.Rows.{head_near, row_slot}
use Rattle.world.proofs.mild.Steps.{guard_behind}
use Rattle.world.proofs.mild.Noted.{IsAlike}

-- a view has of another what it replied and saw, its callers and their room, the spent locks, and whether it stored the power word
pub record HasSame (v w : View) : Type 0 where
  pub own : w.own ≡ v.own
  pub seen : w.seen ≡ v.seen
  pub callers : w.callers ≡ v.callers
  pub room : w.room ≡ v.room
  pub spent_locks : w.spent_locks ≡ v.spent_locks
  pub stored_power : w.stored_power ≡ v.stored_power
  pub alike : IsAlike v w

same_self : (v w : View) → (w.own ≡ v.own) × (w.seen ≡ v.seen) × (w.callers ≡ v.callers) × (w.room ≡ v.room) × (w.spent_locks ≡ v.spent_locks) × (w.stored_power ≡ v.stored_power)
    → (w.notes ≡ v.notes) × (w.answer ≡ v.answer) → HasSame v w
same_self v w q n = record {
  own = q.0;
  seen = q.1;
  callers = q.2;
  room = q.3;
  spent_locks = q.4;
  stored_power = q.5;
  alike = record { notes = n.0; answer = n.1; seen = q.1 };
}

plain : (v w : View) → w.own ≡ v.own → w.seen ≡ v.seen → w.callers ≡ v.callers → w.room ≡ v.room → w.spent_locks ≡ v.spent_locks → w.stored_power ≡ v.stored_power
    → w.notes ≡ v.notes → w.answer ≡ v.answer → HasSame v w
plain v w a b c d e f g k = same_self v w (a, b, c, d, e, f) (g, k)

guard_same : (t : Bool) (guard : Guard) (v : View) → HasSame v (with_guard t guard v)
guard_same true guard v = plain v (with_guard true guard v) refl refl refl refl refl refl refl refl
guard_same false guard v = plain v v refl refl refl refl refl refl refl refl

guard_for_same : (shape : Shape) (t : Bool) (n : ℕ) (v : View) → HasSame v (with_guard_for shape t n v)
guard_for_same shape true n v = guard_same true of_free_slots v
guard_for_same shape false n v = plain v (with_guard_for shape false n v) refl refl refl refl refl refl refl refl

area_same : (t : Bool) (area : Area) (i x : ℕ) (v : View) → HasSame v (with_area t area i x v)
area_same true area i x v = plain v (with_area true area i x v) refl refl refl refl refl refl refl refl
area_same false area i x v = plain v v refl refl refl refl refl refl refl refl

told_same : (facts : List Fact) (t : Bool) (area : Area) (i x : ℕ) (v : View) → HasSame v (with_facts facts (with_area t area i x v))
told_same facts true area i x v = plain v (with_facts facts (with_area true area i x v)) refl refl refl refl refl refl refl refl
told_same facts false area i x v = plain v (with_facts facts v) refl refl refl refl refl refl refl refl

slot_same : (t : Bool) (n i x : ℕ) (v : View) → HasSame v (with_slot t n i x v)
slot_same true n i x v = area_same true (Free n) i x v
slot_same false n i x v = plain v (with_slot false n i x v) refl refl refl refl refl refl refl refl

module _ (site : Ground) (words : Words) (v : View) where
  pub same_view : (kind : StructureKind) → HasSame v (view_then site.shape kind (found_at site kind words) v)
  same_view (takes guard caller) = guard_same (eqb (words (guard_word site.shape guard)) 0) guard v
  same_view (takes_for_side n caller) = guard_for_same site.shape (eqb (words (guard_word site.shape of_free_slots)) 0) n v
  same_view (gives guard) = plain v _ refl refl refl refl refl refl refl refl
  same_view (finds_stale s version) = area_same (not (eqb (version_in (words (header_word site.shape s))) version)) (Stale s) (header_word site.shape s) (words (header_word site.shape s)) v
  same_view (closes s i) = area_same true (Whole s) i (words i) v
  same_view (finds_free n) = slot_same (eqb (state_in (words (header_word site.shape n))) free) n (header_word site.shape n) (words (header_word site.shape n)) v
  same_view (finds_link p depth pattern) = plain v _ refl refl refl refl refl refl refl refl
  same_view (finds_side p n depth pattern) = let x = words (header_word site.shape n) in
      told_same (told_by_side (is_ready_side depth pattern x) p n depth pattern) (is_new_side depth pattern x) (Side n) (header_word site.shape n) x v
  same_view (finds_entry e i) = plain v _ refl refl refl refl refl refl refl refl
  same_view (finds_begin s) = plain v _ refl refl refl refl refl refl refl refl
  same_view (reads i) = plain v _ refl refl refl refl refl refl refl refl
  same_view (sets i x) = plain v _ refl refl refl refl refl refl refl refl
  same_view (moves row s x) = plain v _ refl refl refl refl refl refl refl refl
  same_view (settles facts) = plain v _ refl refl refl refl refl refl refl refl
  same_view (settles_side n depth pattern) = plain v _ refl refl refl refl refl refl refl refl
  same_view (opens s lock next) = plain v _ refl refl refl refl refl refl refl refl

-- the counter and the power word are as they were, and a spent lock word of a live segment stays so
pub record KeepsFar (site : Ground) (words us : Words) : Type 0 where
  pub counter : us (counter_word site.shape) ≡ words (counter_word site.shape)
  pub power : us (power_word site.shape) ≡ words (power_word site.shape)
  pub spent : (lock : ℕ) → IsSpentLock site.shape words lock → IsSpentLock site.shape us lock

module _ (site : Ground) (words : Words) (views : List View) (j : ℕ) (v : View) (h : Holds site words views) (at : At views j v) where
  nothing : KeepsFar site words words
  nothing = record { counter = refl; power = refl; spent = λ lock s. s }

  -- live segments stay so
  abbrev LiveOn : Words → Type 0
  LiveOn us = (s : ℕ) → IsLiveSlot (frame_of site.shape words) s → IsLiveSlot (frame_of site.shape us) s

  is_lock : (lock : ℕ) → IsSpentLock site.shape words lock → IsLockWord site.shape lock
  is_lock lock s = lock_of_live site.shape words lock s.0

  -- a store to a word of the image
  near : (i x : ℕ) → i < words_of site.shape → LiveOn (with_word words i x) → ((lock : ℕ) → IsSpentLock site.shape words lock → lock ≡ i → x ≡ 2 ^ 64 - 2) → KeepsFar site words (with_word words i x)
  near i x within lives stays = record {
    counter = replaced_other words i x (counter_word site.shape) (λ e. omega (arith, within, e));
    power = replaced_other words i x (power_word site.shape) (λ e. omega (arith, within, e));
    spent = λ lock s. (
      live_lock site.shape words (with_word words i x) lock lives s.0,
      elim (cases_eq lock i) [
        | inl e ↦ ap (with_word words i x) e ∙ replaced_same words i x ∙ stays lock s e
        | inr n ↦ replaced_other words i x lock n ∙ s.1
      ],
    );
  }

  guarded : (guard : Guard) (x : ℕ) → LiveOn (with_word words (guard_word site.shape guard) x) → KeepsFar site words (with_word words (guard_word site.shape guard) x)
  guarded guard x lives = let far = guard_behind site.shape guard in record {
    counter = replaced_other words (guard_word site.shape guard) x (counter_word site.shape) (λ e. omega (arith, far, e));
    power = replaced_other words (guard_word site.shape guard) x (power_word site.shape) (λ e. omega (arith, far, e));
    spent = λ lock s. (
      live_lock site.shape words (with_word words (guard_word site.shape guard) x) lock lives s.0,
      replaced_other words (guard_word site.shape guard) x lock (λ e. let w = lock_within site.shape lock (is_lock lock s) in omega (arith, far, w, e)) ∙ s.1,
    );
  }

  taken : (guard : Guard) (caller : ℕ) (t : Bool) → LiveOn (after (cond t (exchanged j (guard_word site.shape guard) caller) (loaded j (guard_word site.shape guard))) words)
      → KeepsFar site words (after (cond t (exchanged j (guard_word site.shape guard) caller) (loaded j (guard_word site.shape guard))) words)
  taken guard caller true lives = guarded guard caller lives
  taken guard caller false lives = nothing

  module _ (now : MayBeNewest site v words) where
    pub keeps_far : (kind : StructureKind) → MayAt site kind v → LiveOn (words_then site kind j words) → KeepsFar site words (words_then site kind j words)
    keeps_far (takes guard caller) may lives = taken guard caller (eqb (words (guard_word site.shape guard)) 0) lives
    keeps_far (takes_for_side n caller) may lives = taken of_free_slots caller (eqb (words (guard_word site.shape of_free_slots)) 0) lives
    keeps_far (gives guard) may lives = guarded guard 0 lives
    keeps_far (finds_stale s version) may lives = nothing
    keeps_far (closes s i) may lives = nothing
    keeps_far (finds_free n) may lives = nothing
    keeps_far (finds_link p depth pattern) may lives = nothing
    keeps_far (finds_side p n depth pattern) may lives = nothing
    keeps_far (finds_entry e i) may lives = nothing
    keeps_far (finds_begin s) may lives = nothing
    keeps_far (reads i) may lives = nothing
    keeps_far (sets i x) may lives = near i x (held_near site words views h.structure.fits j v i at may.holds).0 lives
        (λ lock s e. may.spent words now (subst (λ (z : ℕ). IsSpentLock site.shape words z) e s))
    keeps_far (moves row s x) may lives = near (header_word site.shape s) x (head_near site s (row_slot site words s x row (may.0 words now).0)) lives
        (λ lock k e. absurd (lock_no_head site.shape lock s (is_lock lock k) e))
    keeps_far (settles facts) may lives = nothing
    keeps_far (settles_side n depth pattern) may lives = nothing
    keeps_far (opens s lock next) may lives = let l = h.locks.locked j v lock may.2.0 at may.2.1 in
        near lock next (let w = lock_within site.shape lock l.0 in omega (arith, w)) lives (λ other k e. absurd (odd (words other) (words lock) may.2.0 k.1 (ap words e) l.1 l.2))
      where
        odd : (a b y : ℕ) → a ≡ 2 ^ 64 - 2 → a ≡ b → b ≡ y → y % 2 ≡ 1 → ⊥
        odd a b y e f g is = omega (arith, e, f, g, is)

-- ---- so the four parts stay
module _ (site : Ground) (words us : Words) (views : List View) (j : ℕ) (v w : View) (h : Holds site words views) (at : At views j v) (far : KeepsFar site words us) (same : HasSame v w) where
  pub history : History site us (set views j w) h.log
  history = history_same site words us views j v w h.log at h.history far.counter same.own same.seen

  pub room : Room site (set views j w) h.log
  room = let r = h.room.few in let m = h.room.each j v at in let c = same.callers in let d = same.room in
      room_law site views j v w h.log h.log at h.room same.callers (omega (arith, c, d, m)) (omega (arith, r, d))

  still_caused : (2 ^ 63 ≤ length h.log) ⊎ HasSpentLock site.shape words → (2 ^ 63 ≤ length h.log) ⊎ HasSpentLock site.shape us
  still_caused c = elim c [ inl many ↦ inl many | inr s ↦ inr (s.0, far.spent s.0 s.1) ]

  pub spending : Spending site us (set views j w) h.log
  spending = record {
    met = λ c u lock a has. far.spent lock (each views j v w at (λ c u. Has lock u.spent_locks → IsSpentLock site.shape words lock)
        (λ k. h.spending.met j v lock at (subst (λ (ls : List ℕ). Has lock ls) same.spent_locks k)) (λ c u n a k. h.spending.met c u lock a k) c u a has);
    told = λ c u e a has is. still_caused (each views j v w at (λ c u. Has e u.own → (2 ^ 63 ≤ length h.log) ⊎ HasSpentLock site.shape words)
        (λ k. h.spending.told j v e at (subst (λ (es : List Entry). Has e es) same.own k) is) (λ c u n a k. h.spending.told c u e a k is) c u a has);
  }

  pub powered : Powered site us (set views j w)
  powered off =
      let o = h.powered (λ none. off (far.power ∙ none)) in
      let c = carry views j v w at (λ i (u : View). u.stored_power ≡ true) (λ was. same.stored_power ∙ was) o.0 o.1 o.2 o.3 in
      (o.0, c.0, c.1, c.2)
