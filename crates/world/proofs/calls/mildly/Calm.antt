-- A step is calm: it changes no word of the image, and of its view no more than notes, which of its words are flushed, and whether it stored
-- the power word. Such a step keeps the invariant, whatever areas its view has.
use Rattle.std.proofs.Common.{◌≡◌, ◌⊎◌, ℕ, ◌<◌, true, List, [], set, None, Some, inl, sym, ap, ◌∙◌, subst, arith}
use Rattle.std.proofs.lemmas.Option.{none-some}
use Rattle.map_model.specs.declared.call.Call.{Call}
use Rattle.trace.specs.Events.{Words}
use Rattle.image_layout.specs.Places.{words_of}
use Rattle.image_layout.specs.Volatile.{counter_word}
use Rattle.frame_facts.specs.Core.{core_of}
use Rattle.frame_facts.specs.Facts.{Fact}
use Rattle.world.specs.Ground.{Ground, IsUnder}
use Rattle.world.specs.Views.{Glance, View, Has, At, HasLock, IsLoose}
use Rattle.world.specs.History.{Log}
use Rattle.world.specs.Parts.{History, Room, Powered, IsPastLock, IsUnmoved, IsAnswer}
use Rattle.world.specs.Invariant.{Structure, Media, IsPastHeader, Notes, Holds}
use Rattle.world.specs.areas.Areas.{Area, Side, Whole, Allocation, header_word}
use Rattle.world.specs.areas.Spared.{stays, SparesAreas}
use Rattle.world.specs.areas.Saying.{MaySay}
use Rattle.world.specs.areas.Kinds.{Guard, guard_word, area_of}
use Rattle.world.proofs.basics.Seats.{each, carry}
use Rattle.world.proofs.invariant.KeepHistory.{history_same}
use Rattle.world.proofs.invariant.KeepRoom.{room_law}
use Rattle.world.proofs.fitting.Rows.{head_near}
use Rattle.world.proofs.fitting.Spared.{sparing_steps}
use Rattle.world.proofs.fitting.lasting.Lasting.{sparing_lasts}
use Rattle.world.proofs.moving.Stepping.{IsStill}
use Rattle.world.proofs.moving.media.Said.{sound_still, said_still}
use Rattle.world.proofs.moving.media.Settled.{still_settled}
use Rattle.world.proofs.moving.keeping.Keepers.{pins_by}
use Rattle.world.proofs.moving.keeping.HeldGuards.{held_same}
use Rattle.world.proofs.moving.Known.{grounds}
use Rattle.world.proofs.moving.Used.{slots_same}
use Rattle.world.proofs.basics.Tables.{core_structure_same}
use Rattle.world.proofs.moving.media.MediaKept.{media_still}
use Rattle.world.proofs.mild.Mild.{IsMild}
use Rattle.world.proofs.mild.Steps.{behind}
use Rattle.world.proofs.mild.Noted.{beyond, notes_stay}

-- words us come after words: those of the image are as they were, and so are those of guards and the counter
pub record SparesWords (site : Ground) (words us : Words) : Type 0 where
  pub image : (i : ℕ) → i < words_of site.shape → us i ≡ words i
  pub guards : (guard : Guard) → us (guard_word site.shape guard) ≡ words (guard_word site.shape guard)
  pub counter : us (counter_word site.shape) ≡ words (counter_word site.shape)

-- a view has what another has, but for its notes and for whether it stored the power word
pub record SparesView (v w : View) : Type 0 where
  pub held : w.held ≡ v.held
  pub planned : w.planned ≡ v.planned
  pub moving : w.moving ≡ v.moving
  pub owed : w.owed ≡ v.owed
  pub own : w.own ≡ v.own
  pub seen : w.seen ≡ v.seen
  pub callers : w.callers ≡ v.callers
  pub room : w.room ≡ v.room
  pub facts : w.facts ≡ v.facts
  pub pinned : w.pinned ≡ v.pinned
  pub areas : w.areas ≡ v.areas
  pub less : (p : ℕ × ℕ) → IsLoose w p → IsLoose v p
  pub more : (p : ℕ × ℕ) → IsLoose v p → IsLoose w p

module _ (site : Ground) (words us : Words) (views : List View) (j : ℕ) (v w : View) (h : Holds site words views) (at : At views j v) (calm : SparesWords site words us)
    (same : SparesView v w) where
  locks : (lock : ℕ) → HasLock v.held lock → HasLock w.held lock
  locks lock l = subst (λ held. HasLock held lock) (sym same.held) l

  wholes : (s : ℕ) → Has (Whole s) v.areas → Has (Whole s) w.areas
  wholes s has = subst (λ (areas : List Area). Has (Whole s) areas) (sym same.areas) has

  -- ---- the structure
  still : IsStill site words us v w
  still = record { cores = λ n near. ap (core_of site.shape n) (calm.image n near); less = same.less }

  spared : SparesAreas site words views us stays v w
  spared = record {
    cores = λ n near. ap (core_of site.shape n) (calm.image n near);
    no_more = same.less;
    no_less = same.more;
    locks = λ lock has. inl (subst (λ held. HasLock held lock) same.held has);
    wholes = λ s has all b near. locks _ (all b near);
    areas_are = same.areas;
    may = tt;
  }

  guards_stay : (c : ℕ) (u : View) (guard : Guard) → At (set views j w) c u → Has (area_of guard) u.areas → us (guard_word site.shape guard) ≡ 0 → ⊥
  guards_stay c u guard a has off = each views j v w at (λ _ (z : View). Has (area_of guard) z.areas → ⊥)
      (λ k. h.structure.guards j v guard at (subst (λ (areas : List Area). Has (area_of guard) areas) same.areas k) (sym (calm.guards guard) ∙ off))
      (λ c u ne a k. h.structure.guards c u guard a k (sym (calm.guards guard) ∙ off)) c u a has

  may_say : (c : ℕ) (u : View) (fact : Fact) → At (set views j w) c u → Has fact u.facts → MaySay u.areas fact
  may_say c u fact a = each views j v w at (λ _ (z : View). Has fact z.facts → MaySay z.areas fact)
      (λ k. subst (λ (areas : List Area). MaySay areas fact) (sym same.areas) (h.structure.may_say j v fact at (subst (λ (facts : List Fact). Has fact facts) same.facts k)))
      (λ c u ne a k. h.structure.may_say c u fact a k) c u a

  pub structure : Structure site us (set views j w)
  structure =
      let last = sparing_lasts site words us views j v w stays at spared in
      record {
        sound = sound_still site words views j v h at us w still;
        fits = sparing_steps site words us views j v w stays h.structure.fits at spared;
        guards = guards_stay;
        held_guards = held_same site words views j v at h.structure.held_guards us w calm.guards
            (λ guard has. subst (λ (areas : List Area). Has (area_of guard) areas) (sym same.areas) has);
        says = said_still site words views j v h at us w still (λ fact has. inl (subst (λ (facts : List Fact). Has fact facts) same.facts has));
        may_say = may_say;
        pinned = pins_by site words views j v h at us w (λ s slot. calm.image (header_word site.shape s) (head_near site s slot))
            (λ s x has. (subst (λ (pairs : List (ℕ × ℕ)). Has (s, x) pairs) same.pinned has, locks));
        owners = last.0 h.structure.owners;
        lasting = last.1 h.structure.lasting;
        settled_slots = still_settled site words views j v h at us w still
            (λ n guard side. inl (subst (λ (areas : List Area). Has Allocation areas) (sym same.areas) guard, subst (λ (areas : List Area). Has (Side n) areas) (sym same.areas) side));
        used_slots = slots_same site words h.site_is (grounds site words views h).sound us (core_structure_same site words us still.cores) h.structure.used_slots;
      }

  -- ---- buckets, media, the history and the room
  pub mild : IsMild site words us v w
  mild = behind site words views j v h at us w calm.image (same.planned, same.moving, same.owed, same.held) wholes

  pub media : Media site us (set views j w) h.log
  media = media_still site words views j v h at us w still (λ call has. (subst (λ (calls : List Call). Has call calls) (sym same.planned) has, locks)) (λ s watched. inl (wholes s))

  pub history : History site us (set views j w) h.log
  history = history_same site words us views j v w h.log at h.history calm.counter same.own same.seen

  pub room : Room site (set views j w) h.log
  room = let r = h.room.few in let m = h.room.each j v at in let c = same.callers in let d = same.room in
      room_law site views j v w h.log h.log at h.room same.callers (omega (arith, c, d, m)) (omega (arith, r, d))

  -- ---- notes that stay
  pub notes : w.notes ≡ v.notes → w.answer ≡ v.answer → Notes site us (set views j w) h.log
  notes kept answer = notes_stay site words us views h.log j v w at h.notes (beyond site words views j v h at us calm.image) (record { notes = kept; answer = answer; seen = same.seen })

pub forgotten : (site : Ground) (words : Words) (views : List View) (log : Log) (j : ℕ) (v w : View) → At views j v → Notes site words views log → w.notes ≡ [] → w.answer ≡ None
    → Notes site words (set views j w) log
forgotten site words views log j v w at o none unanswered = record {
  past = λ c u n a. each views j v w at (λ _ (z : View). Has n z.notes → IsPastLock site words n ⊎ IsPastHeader site words n) (λ has. absurd (gone n has)) (λ c u ne a has. o.past c u n a has) c u a;
  inside = λ c u n i x a. each views j v w at (λ _ (z : View). Has n z.notes → Has (i, x) n.words → IsUnder n.word i) (λ has. absurd (gone n has)) (λ c u ne a has. o.inside c u n i x a has) c u a;
  same = λ c u n i x a. each views j v w at (λ _ (z : View). Has n z.notes → words n.word ≡ n.value → Has (i, x) n.words → words i ≡ x) (λ has. absurd (gone n has))
      (λ c u ne a has. o.same c u n i x a has) c u a;
  answered = λ c u x a. each views j v w at (λ _ (z : View). z.answer ≡ Some x → ((note : Glance) → Has note z.notes → IsUnmoved words note) → IsAnswer site log z.seen x)
      (λ is. absurd (none-some _ (sym unanswered ∙ is))) (λ c u ne a is. o.answered c u x a is) c u a;
}
  where
    gone : (n : Glance) → Has n w.notes → ⊥
    gone n has = subst (λ (ns : List Glance). Has n ns) none has

-- ---- the power word is as it was, and no view forgets that it stored it
pub still_powered : (site : Ground) (words : Words) (views : List View) (j : ℕ) (v w : View) → At views j v → Powered site words views → w.stored_power ≡ v.stored_power
    → Powered site words (set views j w)
still_powered site words views j v w at o same off =
    let k = o off in
    let c = carry views j v w at (λ _ (z : View). z.stored_power ≡ true) (λ was. same ∙ was) k.0 k.1 k.2 k.3 in
    (k.0, c.0, c.1, c.2)
