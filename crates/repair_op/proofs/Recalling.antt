-- What the beginning of a repair remembers: it took the guard of its segment, and not that of the directory.
use Rattle.std.proofs.Common.{◌≡◌, ℕ, zero, suc, ◌+◌, ◌<◌, Bool, true, false, List, [], ◌∷◌, inl, inr, refl, sym, ap, ◌∙◌, subst, arith}
use Rattle.std.specs.Prelude.{◌==◌, if◌then◌else◌}
use Rattle.op_core.specs.declared.want.Ans.TheVariants.{Won, Lost}
use Rattle.segment_head.specs.HeadWord.{version_in, state_in, depth_in, pattern_in, splitting}
use Rattle.image_layout.specs.Places.{Shape, words_of}
use Rattle.image_layout.specs.Volatile.{segment_guard, allocation_guard, directory_guard}
use Rattle.way.specs.Ways.{head_word}
use Rattle.map_model.specs.declared.call.Call.{Call}
use Rattle.world.specs.declared.site.Site.{Site}
use Rattle.world.specs.Ground.{Ground}
use Rattle.world.specs.Views.{View, Has}
use Rattle.world.specs.Wants.{answer_to}
use Rattle.world.specs.areas.Kinds.{is_new_side, is_ready_side}
use Rattle.part.specs.Doings.{Doings, with_event_of}
use Rattle.repair_op.specs.declared.guarded.Guarded.{Guarded}
use Rattle.repair_op.specs.declared.step.RepairEnd.{RepairEnd}
use Rattle.repair_op.specs.declared.step.RepairEnd.TheVariants as ends
use Rattle.repair_op.specs.declared.step.Settling.{Settling}
use Rattle.repair_op.specs.declared.step.Settling.TheVariants as settling
use Rattle.repair_op.specs.declared.step.RepairStep.{RepairStep}
use Rattle.repair_op.specs.declared.step.RepairStep.TheVariants.{Guard, Head, Link, Side, Slots, Free, GiveSlots, Unmark, Give, Ended}
use Rattle.repair_op.specs.declared.op.RepairOp.{RepairOp}
use Rattle.repair_op.specs.Guarded.{RunsHere}
use Rattle.repair_op.specs.Steps.{settled, go, guarded_as, with_head, with_side, freed_by, unmarked_by, wanted_in, next_in, is_guarded}
use Rattle.repair_op.specs.Stands.{SuitsStep}
use Rattle.repair_op.specs.Remembers.{HasTakenGuard, RemembersGuarded, RemembersEnd, RemembersAt}
use Rattle.repair_op.specs.RepairPart.{BeginsRemembering, HandsOnRemembered}
use Rattle.repair_op.proofs.Words.{head_is, slots_is, guard_is, header_low}

-- guards are apart, and no words of the image
pub directory_apart : (shape : Shape) (s : ℕ) → directory_guard shape ≡ segment_guard shape s → ⊥
directory_apart shape s same = by (words_of shape) s same
  where
    by : (w s : ℕ) → w + 3 ≡ w + 4 + s → ⊥
    by w s same = omega (arith, same)

pub slots_apart : (shape : Shape) (s : ℕ) → allocation_guard shape ≡ segment_guard shape s → ⊥
slots_apart shape s same = by (words_of shape) s same
  where
    by : (w s : ℕ) → w + 2 ≡ w + 4 + s → ⊥
    by w s same = omega (arith, same)

directory_no_slots : (shape : Shape) → directory_guard shape ≡ allocation_guard shape → ⊥
directory_no_slots shape same = by (words_of shape) same
  where
    by : (w : ℕ) → w + 3 ≡ w + 2 → ⊥
    by w same = omega (arith, same)

directory_far : (shape : Shape) (i : ℕ) → i < words_of shape → directory_guard shape ≡ i → ⊥
directory_far shape i low same = by (words_of shape) i low same
  where
    by : (w i : ℕ) → i < w → w + 3 ≡ i → ⊥
    by w i low same = omega (arith, low, same)

module _ (site : Ground) (here : Site) (call : Call) (op : RepairOp) (runs : RunsHere site here op.guarded) (v : View) (did : Doings) where
  abbrev g : Guarded
  g = op.guarded

  -- what is remembered by a machine after an event
  abbrev Recalled : RepairOp → Doings → Type 0
  Recalled o after = RemembersAt site o.guarded after o.step

  -- behind the guard alone, and another word
  taken_recalls : HasTakenGuard site g did → RemembersGuarded site g did
  taken_recalls taken = record {
    guard = subst (λ (l : List ℕ). Has (segment_guard site.shape g.segment) l) (sym taken) (inl refl);
    no_directory = λ has. elim (subst (λ (l : List ℕ). Has (directory_guard site.shape) l) taken has) [ inl same ↦ directory_apart site.shape g.segment same | inr none ↦ none ];
  }

  more_recalls : (word : ℕ) (after : Doings) → after.changed ≡ word ∷ did.changed → (directory_guard site.shape ≡ word → ⊥) → RemembersGuarded site g did → RemembersGuarded site g after
  more_recalls word after changed other r = record {
    guard = subst (λ (l : List ℕ). Has (segment_guard site.shape g.segment) l) (sym changed) (inr r.guard);
    no_directory = λ has. elim (subst (λ (l : List ℕ). Has (directory_guard site.shape) l) changed has) [ inl same ↦ other same | inr was ↦ r.no_directory was ];
  }

  same_recalls : (after : Doings) → after.changed ≡ did.changed → RemembersGuarded site g did → RemembersGuarded site g after
  same_recalls after changed r = record {
    guard = subst (λ (l : List ℕ). Has (segment_guard site.shape g.segment) l) (sym changed) r.guard;
    no_directory = λ has. r.no_directory (subst (λ (l : List ℕ). Has (directory_guard site.shape) l) changed has);
  }

  abbrev event : RepairStep → ℕ → Doings
  event s n = with_event_of (wanted_in op s) (answer_to (wanted_in op s) n) did

  -- another header or side is remembered as well
  guarded_recalls : (h : Guarded) (after : Doings) → h.segment ≡ g.segment → RemembersGuarded site g after → RemembersGuarded site h after
  guarded_recalls h after same r = record {
    guard = subst (λ s. Has (segment_guard site.shape s) after.changed) (sym same) r.guard;
    no_directory = r.no_directory;
  }

  guard_by : (t : Bool) (n : ℕ) → g.segment < site.shape.segments → did.changed ≡ [] → Recalled (next_in op Guard (if t then Won else Lost n)) (with_event_of (wanted_in op Guard) (if t then Won else Lost n) did)
  guard_by true n within none = ap (λ i. i ∷ did.changed) (guard_is site g runs.shape within) ∙ ap (λ (l : List ℕ). segment_guard site.shape g.segment ∷ l) none
  guard_by false n within none = tt

  head_by : (h : Guarded) (after : Doings) (t u : Bool) → h.segment ≡ g.segment → after.changed ≡ did.changed → HasTakenGuard site g did
      → RemembersAt site h after (if t then Give ends.Current else if u then Link else Ended ends.Guarded)
  head_by h after true u same changed taken = tt
  head_by h after false true same changed taken = changed ∙ taken ∙ ap (λ s. segment_guard site.shape s ∷ []) (sym same)
  head_by h after false false same changed taken = guarded_recalls h after same (same_recalls after changed (taken_recalls taken))

  side_by : (slot n : ℕ) (after : Doings) (r w : Bool) → after.changed ≡ did.changed → HasTakenGuard site g did
      → Recalled (if r then guarded_as (with_side g slot) else if w then go op (Slots slot n) else go op (Unmark settling.Store)) after
  side_by slot n after true w changed taken = guarded_recalls (with_side g slot) after refl (same_recalls after changed (taken_recalls taken))
  side_by slot n after false true changed taken = changed ∙ taken
  side_by slot n after false false changed taken = same_recalls after changed (taken_recalls taken)

  slots_by : (t : Bool) (slot side n : ℕ) → HasTakenGuard site g did
      → Recalled (next_in op (Slots slot side) (if t then Won else Lost n)) (with_event_of (wanted_in op (Slots slot side)) (if t then Won else Lost n) did)
  slots_by true slot side n taken =
      more_recalls (allocation_guard g.site.geometry) (with_event_of (wanted_in op (Slots slot side)) Won did) refl
      (λ same. directory_no_slots site.shape (same ∙ slots_is site g runs.shape)) (taken_recalls taken)
  slots_by false slot side n taken = tt

  free_by : (slot side n : ℕ) (s : Settling) → slot < site.shape.segments → RemembersGuarded site g did → RemembersAt site g (event (Free slot side s) n) (freed_by (settled s) slot side)
  free_by slot side n settling.Store within r =
      more_recalls (head_word g.site.geometry slot) (event (Free slot side settling.Store) n) refl
      (λ same. directory_far site.shape _ (header_low site.shape slot within) (same ∙ head_is site g runs.shape slot within)) r
  free_by slot side n settling.Flush within r = same_recalls (event (Free slot side settling.Flush) n) refl r
  free_by slot side n settling.Fence within r = same_recalls (event (Free slot side settling.Fence) n) refl r

  unmark_by : (n : ℕ) (s : Settling) → g.segment < site.shape.segments → RemembersGuarded site g did → Recalled (unmarked_by (settled s) op) (event (Unmark s) n)
  unmark_by n settling.Store within r =
      more_recalls (head_word g.site.geometry g.segment) (event (Unmark settling.Store) n) refl
      (λ same. directory_far site.shape _ (header_low site.shape g.segment within) (same ∙ head_is site g runs.shape g.segment within)) r
  unmark_by n settling.Flush within r = same_recalls (event (Unmark settling.Flush) n) refl r
  unmark_by n settling.Fence within r = guarded_recalls _ (event (Unmark settling.Fence) n) refl (same_recalls (event (Unmark settling.Fence) n) refl r)

  given : (end : RepairEnd) (after : Doings) → SuitsStep site here call g (Give end) v → RemembersEnd site g after end
  given ends.Current after s = tt
  given (ends.Again why) after s = tt
  given ends.Guarded after s = absurd s.0

  -- WHAT IS REMEMBERED AFTER AN EVENT
  pub remembers_at : (s : RepairStep) (n : ℕ) → g.segment < site.shape.segments → SuitsStep site here call g s v → RemembersAt site g did s → Recalled (next_in op s (answer_to (wanted_in op s) n)) (event s n)
  remembers_at Guard n within suits r = guard_by (n == 0) n within r
  remembers_at Head n within suits r = head_by (with_head g n) (event Head n) (version_in n == g.site.version) (state_in n == splitting) refl refl r
  remembers_at Link zero within suits r = same_recalls (event Link zero) refl (taken_recalls r)
  remembers_at Link (suc slot) within suits r = r
  remembers_at (Side slot) n within suits r =
      side_by slot n (event (Side slot) n) (is_ready_side (depth_in g.head) (pattern_in g.head) n) (is_new_side (depth_in g.head) (pattern_in g.head) n) refl r
  remembers_at (Slots slot side) n within suits r = slots_by (n == 0) slot side n r
  remembers_at (Free slot side settling.Store) n within suits r = free_by slot side n settling.Store suits.0.within r
  remembers_at (Free slot side settling.Flush) n within suits r = free_by slot side n settling.Flush suits.0.within r
  remembers_at (Free slot side settling.Fence) n within suits r = free_by slot side n settling.Fence suits.0.within r
  remembers_at GiveSlots n within suits r =
      more_recalls (allocation_guard g.site.geometry) (event GiveSlots n) refl (λ same. directory_no_slots site.shape (same ∙ slots_is site g runs.shape)) r
  remembers_at (Unmark settling.Store) n within suits r = unmark_by n settling.Store within r
  remembers_at (Unmark settling.Flush) n within suits r = unmark_by n settling.Flush within r
  remembers_at (Unmark settling.Fence) n within suits r = unmark_by n settling.Fence within r
  remembers_at (Give end) n within suits r = given end (event (Give end) n) suits
  remembers_at (Ended end) n within suits r = r

-- ---- at first, and where it hands on
pub begins_remembering : BeginsRemembering
begins_remembering site here segment did none = none

handed_end : (site : Ground) (g : Guarded) (did : Doings) (end : RepairEnd) → is_guarded (Ended end) ≡ true → RemembersEnd site g did end → RemembersGuarded site g did
handed_end site g did ends.Guarded hands r = r
handed_end site g did end hands r = absurd (let no : false ≡ true = hands in cc)

handed_at : (site : Ground) (g : Guarded) (did : Doings) (s : RepairStep) → is_guarded s ≡ true → RemembersAt site g did s → RemembersGuarded site g did
handed_at site g did (Ended end) hands r = handed_end site g did end hands r
handed_at site g did s hands r = absurd (let no : false ≡ true = hands in cc)

pub hands_on_remembered : HandsOnRemembered
hands_on_remembered site op did hands r = handed_at site op.guarded did op.step hands r
