-- A peek, a look at the power, a flush and the cut of the power keep the invariant, whatever areas their view has.
use Rattle.std.proofs.Common.{◌≡◌, ◌⊎◌, ℕ, true, List, [], ◌++◌, set, None, inl, inr, refl, subst, arith}
use Rattle.trace.specs.Events.{Words, with_word}
use Rattle.trace.proofs.Replaced.{replaced_other}
use Rattle.image_layout.specs.Volatile.{counter_word, power_word}
use Rattle.world.specs.Ground.{Ground}
use Rattle.world.specs.Views.{View, At, IsLoose}
use Rattle.world.specs.History.{Log}
use Rattle.world.specs.Parts.{Spending, Powered}
use Rattle.world.specs.Invariant.{Notes, Holds}
use Rattle.world.specs.Kinds.{Kind, peeks, asks_power, flushes, fences, cuts_power, on_line, off_line, log_after, view_after}
use Rattle.world.specs.Conditions.{May}
use Rattle.world.specs.Laws.{found_by, words_by}
use Rattle.world.specs.areas.Kinds.{guard_word}
use Rattle.world.specs.areas.Bridging.{HasNoWhole}
use Rattle.world.specs.StepKinds.{IsMildKind, of_peek, of_power, of_flush, of_cut, AsksOfView}
use Rattle.world.specs.StepLaws.{MildKindsKeep}
use Rattle.world.proofs.basics.Lists.{set_here}
use Rattle.world.proofs.basics.Seats.{flush_loose}
use Rattle.world.proofs.fitting.Calling.{flush_keeps}
use Rattle.world.proofs.moving.Callers.{callers_keep_locks, callers_keep_words}
use Rattle.world.proofs.moving.SpentNumbers.{callers_keep_spending}
use Rattle.world.proofs.mild.Mild.{plans, records, notes_of_homes}
use Rattle.world.proofs.mild.Steps.{guard_behind}
use Rattle.world.proofs.calls.mildly.Calm.{SparesWords, SparesView, structure, mild, media, history, room, notes, forgotten, still_powered}

-- EACH OTHER KIND of a caller asks that no segment is whole
pub mild_or_none : (site : Ground) (v : View) (kind : Kind) → IsMildKind kind ⊎ (AsksOfView site kind v → HasNoWhole v)
mild_or_none site v (peeks i) = inl (of_peek i)
mild_or_none site v asks_power = inl of_power
mild_or_none site v (flushes l) = inl (of_flush l)
mild_or_none site v cuts_power = inl of_cut
mild_or_none site v fences = inr (λ asks. asks.0)
mild_or_none site v kind = inr (λ asks. asks)

-- ---- words
no_store : (site : Ground) (words : Words) → SparesWords site words words
no_store site words = record { image = λ i within. refl; guards = λ guard. refl; counter = refl }

power_store : (site : Ground) (words : Words) (x : ℕ) → SparesWords site words (with_word words (power_word site.shape) x)
power_store site words x = record {
  image = λ i within. replaced_other words (power_word site.shape) x i (λ e. omega (arith, within, e));
  guards = λ guard. replaced_other words (power_word site.shape) x (guard_word site.shape guard) (λ e. omega (arith, guard_behind site.shape guard, e));
  counter = replaced_other words (power_word site.shape) x (counter_word site.shape) (λ e. omega (arith, e));
}

-- ---- views
spares : (v w : View) → w.held ≡ v.held → w.planned ≡ v.planned → w.moving ≡ v.moving → w.owed ≡ v.owed → w.own ≡ v.own → w.seen ≡ v.seen → w.callers ≡ v.callers → w.room ≡ v.room
    → w.facts ≡ v.facts → w.pinned ≡ v.pinned → w.areas ≡ v.areas → ((p : ℕ × ℕ) → IsLoose w p → IsLoose v p) → ((p : ℕ × ℕ) → IsLoose v p → IsLoose w p) → SparesView v w
spares v w held planned moving owed own seen callers room facts pinned areas less more = record {
  held = held;
  planned = planned;
  moving = moving;
  owed = owed;
  own = own;
  seen = seen;
  callers = callers;
  room = room;
  facts = facts;
  pinned = pinned;
  areas = areas;
  less = less;
  more = more;
}

peeked : (v : View) → SparesView v v
peeked v = spares v v refl refl refl refl refl refl refl refl refl refl refl (λ p l. l) (λ p l. l)

asked : (v : View) → SparesView v (record v { notes = []; answer = None })
asked v = spares v (record v { notes = []; answer = None }) refl refl refl refl refl refl refl refl refl refl refl (λ p l. l) (λ p l. l)

flushed : (v : View) (l : ℕ) → SparesView v (record v { dirty = off_line l v.dirty; flushed = on_line l v.dirty ++ v.flushed })
flushed v l = spares v (record v { dirty = off_line l v.dirty; flushed = on_line l v.dirty ++ v.flushed }) refl refl refl refl refl refl refl refl refl refl refl
    (λ p q. flush_loose l v.dirty v.flushed p q) (λ p q. flush_keeps l v.dirty v.flushed p q)

cut : (v : View) → SparesView v (record v { stored_power = true })
cut v = spares v (record v { stored_power = true }) refl refl refl refl refl refl refl refl refl refl refl (λ p l. l) (λ p l. l)

-- ---- the parts, put together
module _ (site : Ground) (words : Words) (views : List View) (j : ℕ) (v : View) (h : Holds site words views) (at : At views j v) (kind : Kind) (may : May site kind v) where
  abbrev us : Words
  us = words_by site kind j words

  abbrev w : View
  w = view_after site.shape kind (found_by site kind words) v

  holds : log_after kind h.log ≡ h.log → SparesWords site words us → SparesView v w → Notes site us (set views j w) h.log → Powered site us (set views j w)
      → (after : Holds site us (set views j w)) × (after.log ≡ h.log)
  holds same calm view noted powered =
      let is_mild = mild site words us views j v w h at calm view in (
        record {
          site_is = h.site_is;
          log = h.log;
          structure = structure site words us views j v w h at calm view;
          locks = callers_keep_locks site kind words views j v h.locks at may;
          known = callers_keep_words site kind words views j v h at may;
          plans = plans site words us views j v w h at is_mild;
          history = history site words us views j v w h at calm view;
          records = records site words us views j v w h at is_mild;
          notes_of_homes = notes_of_homes site words us views j v w h at is_mild;
          media = media site words us views j v w h at calm view;
          notes = noted;
          room = room site words us views j v w h at calm view;
          spending = subst (λ (log : Log). Spending site us (set views j w) log) same (callers_keep_spending site kind words views j v h at may);
          powered = powered;
        },
        refl,
      )

pub mild_kinds : MildKindsKeep
mild_kinds site kind (of_peek i) words views j v h at = holds site words views j v h at (peeks i) tt refl (no_store site words) (peeked v)
    (notes site words words views j v v h at (no_store site words) (peeked v) refl refl) (still_powered site words views j v v at h.powered refl)
mild_kinds site kind of_power words views j v h at =
    let w = record v { notes = []; answer = None } in
    holds site words views j v h at asks_power tt refl (no_store site words) (asked v) (forgotten site words views h.log j v w at h.notes refl refl) (still_powered site words views j v w at h.powered refl)
mild_kinds site kind (of_flush l) words views j v h at =
    let w = record v { dirty = off_line l v.dirty; flushed = on_line l v.dirty ++ v.flushed } in
    holds site words views j v h at (flushes l) tt refl (no_store site words) (flushed v l)
    (notes site words words views j v w h at (no_store site words) (flushed v l) refl refl) (still_powered site words views j v w at h.powered refl)
mild_kinds site kind of_cut words views j v h at =
    let w = record v { stored_power = true } in
    let calm = power_store site words 1 in
    holds site words views j v h at cuts_power tt refl calm (cut v)
    (notes site words (with_word words (power_word site.shape) 1) views j v w h at calm (cut v) refl refl) (λ off. (j, w, set_here views j v w at, refl))
