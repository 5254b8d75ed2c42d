-- What a cut may leave is a table and stands in the history, at each kind of step of a caller.
use Rattle.std.proofs.Common.{◌≡◌, ℕ, ◌+◌, ◌%◌, ◌^◌, ◌<◌, List, [], ◌∷◌, set, cond, eqb, Bool, true, false, inl, inr, refl, sym, subst}
use Rattle.std.specs.Prelude.{nat_lt}
use Rattle.trace.specs.Events.{Words, with_word, after}
use Rattle.trace.specs.Events.Event.{loaded, exchanged}
use Rattle.image_layout.specs.Places.{words_of}
use Rattle.image_layout.specs.Volatile.{counter_word, power_word}
use Rattle.map_model.specs.declared.call.Call.{Call}
use Rattle.frame_facts.specs.Core.{core}
use Rattle.world.specs.Ground.{Ground, IsLockWord}
use Rattle.world.specs.Views.{View, Has, At}
use Rattle.world.specs.Kinds.{Kind, peeks, asks_power, meets_root, meets_entry, meets_head, pins, finds_room, refuses, places, looks, glances_word, validates, learns, meets_lock, tries, stores, copies, clears, repays, publishes, stashes, flushes, fences, draws_place, unlocks, cuts_power, marked, all_again, with_lock, log_after, of_other_records, of_other_homes}
use Rattle.world.specs.Conditions.{May}
use Rattle.world.specs.Laws.{words_by, views_by}
use Rattle.world.specs.areas.Areas.{Area, Whole}
use Rattle.world.specs.Invariant.{Media, Holds}
use Rattle.world.specs.areas.Bridging.{HasNoWhole, CallersKeepMedia}
use Rattle.world.proofs.basics.Seats.{flush_loose}
use Rattle.world.proofs.basics.Structures.{known_lock}
use Rattle.world.proofs.basics.Tables.{lock_cores, power_cores}
use Rattle.world.proofs.invariant.KeepMedia.{IsQuiet, look_quiet, count_quiet, answer_quiet}
use Rattle.world.proofs.invariant.Stays.{areas_stay}
use Rattle.world.proofs.moving.media.MediaKept.{media_still}
use Rattle.world.proofs.calls.leaving.Stored.{harmless, published}
use Rattle.world.proofs.calls.leaving.Drawn.{drawn}

module _ (site : Ground) (words : Words) (views : List View) (j : ℕ) (v : View) (h : Holds site words views) (at : At views j v) (none : HasNoWhole v) where
  -- no core of the image changes, no word becomes loose, and plans and areas stay
  rested : (later : Words) (w : View) → ((n : ℕ) → n < words_of site.shape → core site.shape later n ≡ core site.shape words n) → IsQuiet w v → w.areas ≡ v.areas
      → Media site later (set views j w) h.log
  rested later w cores q areas = media_still site words views j v h at later w (record { cores = cores; less = q.0 })
      (λ call has. (subst (λ (cs : List Call). Has call cs) (sym q.1) has, q.2 call has))
      (λ s watched. inl (λ has. subst (λ (list : List Area). Has (Whole s) list) (sym areas) has))

  calm : (w : View) → IsQuiet w v → w.areas ≡ v.areas → Media site words (set views j w) h.log
  calm w q areas = rested words w (λ n _. refl) q areas

  relocked : (lock x : ℕ) (w : View) → IsLockWord site.shape lock → IsQuiet w v → w.areas ≡ v.areas → Media site (with_word words lock x) (set views j w) h.log
  relocked lock x w is q areas = rested (with_word words lock x) w (λ n _. lock_cores site words lock x is n) q areas

  tried : (lock free : ℕ) → IsLockWord site.shape lock → (t : Bool) → Media site (after (cond t (exchanged j lock (free + 1)) (loaded j lock)) words) (set views j (with_lock t lock free v)) h.log
  tried lock free is true = relocked lock (free + 1) (with_lock true lock free v) is ((λ p l. l), refl, (λ c has lock l. (l.0, inr l.1))) refl
  tried lock free is false = calm v ((λ p l. l), refl, (λ c has lock l. l)) refl

  keep : (kind : Kind) → May site kind v → Media site (words_by site kind j words) (views_by site kind j v words views) (log_after kind h.log)
  keep (peeks i) may = calm _ ((λ p l. l), refl, (λ c has lock l. l)) refl
  keep asks_power may = calm _ ((λ p l. l), refl, (λ c has lock l. l)) refl
  keep meets_root may = calm _ ((λ p l. l), refl, (λ c has lock l. l)) refl
  keep (meets_entry e i) may = calm _ ((λ p l. l), refl, (λ c has lock l. l)) refl
  keep (meets_head s version) may = calm _ ((λ p l. l), refl, (λ c has lock l. l)) refl
  keep (pins s b) may = calm _ ((λ p l. l), refl, (λ c has lock l. l)) refl
  keep (finds_room call) may = calm _ (count_quiet (nat_lt (words (counter_word site.shape)) (2 ^ 63)) call (words (counter_word site.shape)) v)
      (areas_stay site.shape (finds_room call) (words (counter_word site.shape)) v)
  keep (refuses call reply) may = calm _ ((λ p l. l), refl, (λ c has lock l. l)) refl
  keep (places k a) may = calm _ ((λ p l. l), refl, (λ c has lock l. l)) refl
  keep (looks lock) may = calm _ (look_quiet (eqb (words lock % 2) 0) lock (words lock) v) (areas_stay site.shape (looks lock) (words lock) v)
  keep (glances_word lock i) may = calm _ ((λ p l. l), refl, (λ c has lock l. l)) refl
  keep (validates lock) may = calm _ (answer_quiet (all_again (marked lock (words lock) v.notes)) v.answer (record v { notes = marked lock (words lock) v.notes }))
      (areas_stay site.shape (validates lock) (words lock) v)
  keep (learns i) may = calm _ ((λ p l. l), refl, (λ c has lock l. l)) refl
  keep (meets_lock lock) may = calm _ ((λ p l. l), refl, (λ c has lock l. l)) refl
  keep (tries lock free) may = tried lock free (known_lock site v lock may.0) (eqb (words lock) free)
  keep (stores i x) may = harmless site words views j v h at none i x v.moving v.owed may.0 may.1
  keep (copies i x m) may = harmless site words views j v h at none i x (m ∷ v.moving) v.owed may.0 may.1
  keep (clears i x m) may = harmless site words views j v h at none i x (of_other_records m v.moving) v.owed may.0 may.1
  keep (repays i x o) may = harmless site words views j v h at none i x v.moving (of_other_homes o v.owed) may.0 may.1
  keep (publishes i x call) may = published site words views j v h at none i x call v.moving v.owed may.0 may.3
  keep (stashes i x call o) may = published site words views j v h at none i x call v.moving (o ∷ v.owed) may.0 may.3
  keep (flushes l) may = calm _ ((λ p q. flush_loose l v.dirty v.flushed p q), refl, (λ c has lock l. l)) refl
  keep fences may = calm (record v { flushed = [] }) ((λ p q. elim q [ inl d ↦ inl d | inr f ↦ absurd f ]), refl, (λ c has lock l. l)) refl
  keep (draws_place call) may = drawn site words views j v h at none call _ _ may
  keep (unlocks lock next) may = relocked lock next _ (h.locks.locked j v lock may.0 at may.1).0 ((λ p l. l), refl, (λ c has _ l. absurd (subst (λ (cs : List Call). Has c cs) may.3 has))) refl
  keep cuts_power may = rested (with_word words (power_word site.shape) 1) _ (λ n within. power_cores site words 1 n within) ((λ p l. l), refl, (λ c has lock l. l)) refl

pub media_by_callers : CallersKeepMedia
media_by_callers site kind words views j v h at none may = keep site words views j v h at none kind may
