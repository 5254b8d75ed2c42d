-- While it works on its call an event of an engine leaves the notes and the stash records of each home, but that of a home to which its caller owes
-- a note.
use Rattle.std.proofs.Common.{◌≡◌, ◌≢◌, ◌⊎◌, ℕ, ◌+◌, ◌*◌, ◌<◌, ◌≤◌, List, cond, eqb, Bool, true, false, inl, inr, refl, sym, ◌∙◌, subst, arith}
use Rattle.op_core.specs.declared.want.Want.{Want}
use Rattle.trace.specs.Events.{Words, with_word, after}
use Rattle.trace.specs.Events.Event.{loaded, exchanged}
use Rattle.trace.proofs.Replaced.{replaced_other}
use Rattle.image_layout.specs.Places.{first_segment, bucket_at, homes}
use Rattle.image_layout.specs.Volatile.{counter_word}
use Rattle.bucket_words.specs.HomeNotes.{SameHomeNotes}
use Rattle.bucket_words.proofs.segments.Cores.{within_image}
use Rattle.world.specs.Ground.{Ground, IsLockWord}
use Rattle.world.specs.Views.{View, At}
use Rattle.world.specs.Wants.{word_of, words_after}
use Rattle.world.specs.Kinds.{Kind, peeks, asks_power, meets_root, meets_entry, meets_head, pins, finds_room, refuses, places, looks, glances_word, validates, learns, meets_lock, tries, stores, copies, clears, repays, publishes, stashes, flushes, fences, draws_place, unlocks, cuts_power, wanted as wanted_by, view_after}
use Rattle.world.specs.Conditions.{IsOwing, IsTidy, May}
use Rattle.world.specs.Invariant.{Holds}
use Rattle.world.specs.areas.Bridging.{HasNoWhole}
use Rattle.world.specs.StepKinds.{StepKind, of_call, AsksOfView, MayTake, view_by, wanted_of}
use Rattle.world.proofs.basics.Structures.{known_lock}
use Rattle.world.proofs.holding.Owing.{same_notes}
use Rattle.world.proofs.mild.Bridging.{callers_know}
use Rattle.part.specs.Part.{IsPart}
use Rattle.engine.specs.Engine.{kind_of}
use Rattle.engine.specs.OpPart.{op_part}
use Rattle.engine.specs.Fits.{finds}
use Rattle.engine.specs.Asks.{KeepsNotes}
use Rattle.engine.proofs.machines.Ops.{call_kind}

not_lock : (f s c n q b lock : ℕ) → c < 66 → 1 ≤ n → n < 32 → b < 66 → lock ≡ f + 2144 * q + 32 + 32 * b → f + 2144 * s + 32 + 32 * c + n ≡ lock → ⊥
not_lock f s c n q b lock near above below nb e g = omega arith

module _ (site : Ground) (words : Words) (views : List View) (j : ℕ) (v : View) (h : Holds site words views) (at : At views j v) (number s b : ℕ) (slot : s < site.shape.segments) (near : b < homes) where
  -- the home is as it was after an event of this want, and with this view
  abbrev KeepsHome : Words → View → Type 0
  KeepsHome after w = SameHomeNotes site.shape words after s b ⊎ IsOwing site v s b ⊎ IsOwing site w s b

  still : SameHomeNotes site.shape words words s b
  still = record { notes = refl; count = refl; stashed = refl }

  relocked : (lock x : ℕ) → IsLockWord site.shape lock → SameHomeNotes site.shape words (with_word words lock x) s b
  relocked lock x is = same_notes site.shape words (with_word words lock x) s b slot near
      (λ c n low above below. replaced_other words lock x (bucket_at site.shape s c + n) (λ e. not_lock (first_segment site.shape) s c n is.0 is.1 lock low above below is.3 is.4 e))

  tried : (lock free : ℕ) → IsLockWord site.shape lock → (t : Bool) → SameHomeNotes site.shape words (after (cond t (exchanged number lock (free + 1)) (loaded number lock)) words) s b
  tried lock free is true = relocked lock (free + 1) is
  tried lock free is false = still

  drawn : (x : ℕ) → SameHomeNotes site.shape words (with_word words (counter_word site.shape) x) s b
  drawn x = same_notes site.shape words (with_word words (counter_word site.shape) x) s b slot near
      (λ c n low above below. replaced_other words (counter_word site.shape) x (bucket_at site.shape s c + n) (λ e. let q = within_image site.shape s c n slot low below in omega (arith, q, e)))

  -- a store, by what it asks of its view
  stored : (i x : ℕ) (w : View) {twin : ℕ → ℕ → ℕ → ℕ → ℕ → ℕ → Type 0} {home taken : ℕ → ℕ → Type 0} → HasNoWhole v → IsTidy site v i x twin home taken
      → (home s b → IsOwing site v s b ⊎ IsOwing site w s b) → KeepsHome (with_word words i x) w
  stored i x w none tidy owing = elim (tidy.notes words (callers_know.newest site words views j v h at none) s b slot near) [
    | inl same ↦ inl same
    | inr (inl owed) ↦ inr (inl owed.1)
    | inr (inr named) ↦ inr (owing named)
  ]

  abbrev after_view : Kind → View
  after_view kind = view_after site.shape kind (words (word_of site.shape (wanted_by site.shape kind))) v

  by_kind : (kind : Kind) → of_call kind ≢ of_call cuts_power → May site kind v → AsksOfView site kind v
      → KeepsHome (words_after site.shape (wanted_by site.shape kind) number words) (after_view kind)
  by_kind (peeks i) on may asks = inl still
  by_kind asks_power on may asks = inl still
  by_kind meets_root on may asks = inl still
  by_kind (meets_entry e i) on may asks = inl still
  by_kind (meets_head slot version) on may asks = inl still
  by_kind (pins slot bucket) on may asks = inl still
  by_kind (finds_room call) on may asks = inl still
  by_kind (refuses call reply) on may asks = inl still
  by_kind (places k a) on may asks = inl still
  by_kind (looks lock) on may asks = inl still
  by_kind (glances_word lock i) on may asks = inl still
  by_kind (validates lock) on may asks = inl still
  by_kind (learns i) on may asks = inl still
  by_kind (meets_lock lock) on may asks = inl still
  by_kind (tries lock free) on may asks = inl (tried lock free (known_lock site v lock may.0) (eqb (words lock) free))
  by_kind (stores i x) on may asks = stored i x (after_view (stores i x)) asks may.0 (λ none. absurd none)
  by_kind (copies i x m) on may asks = stored i x (after_view (copies i x m)) asks may.0 (λ none. absurd none)
  by_kind (clears i x m) on may asks = stored i x (after_view (clears i x m)) asks may.0 (λ none. absurd none)
  by_kind (repays i x o) on may asks = stored i x (after_view (repays i x o)) asks may.0 (λ is. inl (o, may.3, is.0, is.1))
  by_kind (publishes i x call) on may asks = stored i x (after_view (publishes i x call)) asks may.0 (λ none. absurd none)
  by_kind (stashes i x call o) on may asks = stored i x (after_view (stashes i x call o)) asks may.0 (λ is. inr (o, inl refl, is.0, is.1))
  by_kind (flushes l) on may asks = inl still
  by_kind fences on may asks = inl still
  by_kind (draws_place call) on may asks = inl (drawn _)
  by_kind (unlocks lock next) on may asks = inl (relocked lock next (h.locks.locked j v lock may.0 at may.1).0)
  by_kind cuts_power on may asks = absurd (on refl)

pub keeps_notes : IsPart op_part → KeepsNotes
keeps_notes part site here call e words views j before v number h at s own slot home within near =
    let w = part.steps site here call words views j e.op before v h at s.suits s.asks in
    let n : ℕ = finds site e words in
    let kind : StepKind = kind_of e n in
    let of = call_kind e.op n own in
    let is : kind ≡ of_call of.0 = of.1 in
    let may : MayTake site (of_call of.0) v = subst (λ (k : StepKind). MayTake site k v) is w.may in
    let on : of_call of.0 ≢ of_call cuts_power = λ q. part.power e.op n (is ∙ q) in
    let Keeps : Want → StepKind → Type 0 = λ x k. KeepsHome site words views j v h at number slot home within near (words_after site.shape x number words)
    (view_by site.shape k (words (word_of site.shape x)) v) in
    let kept : Keeps (wanted_of site.shape kind) kind = subst (λ (k : StepKind). Keeps (wanted_of site.shape k) k) (sym is)
    (by_kind site words views j v h at number slot home within near of.0 on may.0 may.1) in
    subst (λ x. Keeps x kind) (sym w.wants) kept
