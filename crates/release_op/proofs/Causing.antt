-- The release of an insert has its cause: its home and its probing bucket and both stash buckets, as they were loaded, have no free slot
-- and no slot with its key, and nothing can be moved.
use Rattle.std.proofs.Common.{◌≡◌, ◌≢◌, ℕ, ◌+◌, ◌*◌, ◌%◌, ◌^◌, ◌<◌, ◌≤◌, false, Option, None, Some, List, true, refl, sym, ap, ◌∙◌, subst, arith, slice_index}
use Rattle.std.proofs.lemmas.Option.{none-some}
use Rattle.op_core.specs.declared.want.Want.{Want}
use Rattle.op_core.specs.declared.want.Want.TheVariants as want
use Rattle.op_core.specs.declared.want.Ans.{Ans}
use Rattle.op_core.specs.declared.why.Why.{Why}
use Rattle.bucket_meta.specs.Bucket.{allocated, record_slots}
use Rattle.bucket_meta.specs.Slots.{IsFull}
use Rattle.bucket_meta.proofs.Found.{none_free}
use Rattle.trace.specs.Events.{Words}
use Rattle.image_layout.specs.Places.{bucket_at}
use Rattle.sound_image.specs.Records.{key_hash}
use Rattle.map_model.specs.declared.call.Call.{Call}
use Rattle.map_model.specs.Map.{key_of}
use Rattle.map_model.specs.Legal.{IsInsert}
use Rattle.map_model.specs.Changes.{call_of}
use Rattle.world.specs.declared.site.Site.{Site}
use Rattle.world.specs.Ground.{Ground}
use Rattle.world.specs.Views.{View, Has}
use Rattle.world.specs.Wants.{answer_to, word_of}
use Rattle.part.specs.Doings.{Doings}
use Rattle.part.specs.Outcomes.{Outcome, need_split, again}
use Rattle.part.specs.Causes.{IsNamed, hash_for, WasMeta, IsFullOfOthers, FindsNoRoom, HasCause, EndsByCause}
use Rattle.phase.specs.declared.role.Role.{Role}
use Rattle.phase.specs.declared.role.Role.TheVariants.{Home, Probing, First, Second, Next, Previous}
use Rattle.phase.specs.declared.held.Held.{Held}
use Rattle.phase.specs.declared.kept.Kept.{Kept}
use Rattle.phase.specs.Helds.{first_held, give_next, give_wanted_of, given}
use Rattle.phase.specs.Buckets.{words_in}
use Rattle.phase.specs.Giving.{IsHeld}
use Rattle.phase.specs.Keeps.{kept_words, WasLoaded, KeepsAll, KeepsFull, RemembersRoom}
use Rattle.phase.specs.Places.{bucket_of_role, is_third, lock_word}
use Rattle.phase.specs.Third.{NothingToMove}
use Rattle.phase.proofs.asking.Causing.{found_named}
use Rattle.phase.proofs.Handing.{key_called, give_answer}
use Rattle.phase.proofs.locks.Giving.{bucket_near, lock_at}
use Rattle.phase.proofs.locks.Choosing.{by_step}
use Rattle.release_op.specs.declared.op.ReleaseStep.{ReleaseStep}
use Rattle.release_op.specs.declared.op.ReleaseStep.TheVariants.{Begin, Give, Ended}
use Rattle.release_op.specs.Steps.{giving, held_in, wanted_in, next_in, wanted}
use Rattle.release_op.specs.ReleasePart.{outcome_at, ReleaseStands, RemembersAt, release_part, BeginsRemembering}
use Rattle.release_op.proofs.NoRoom.{word_here}
use Rattle.release_op.proofs.Ends.{no_other_at, never_finished, stays_at}

-- ---- the cause
module _ (site : Ground) (words : Words) (call : Call) (kept : Kept) (same : call_of kept.change ≡ call) (v : View) (all : KeepsFull site kept v) (did : Doings)
    (r : RemembersRoom site kept did.loads) (nothing : NothingToMove kept did.loads) where
  abbrev keeps : KeepsAll site kept v
  keeps = all.keeps

  abbrev segment : ℕ
  segment = kept.segment

  abbrev within : segment < site.shape.segments
  within = keeps.holds.leads.within

  key_is : kept.change.key ≡ key_of call
  key_is = sym (key_called kept.change) ∙ ap key_of same

  abbrev hash : ℕ
  hash = hash_for site.shape words did call

  hash_is : kept.hash ≡ hash
  hash_is = keeps.holds.hashed ∙ ap (key_hash site.shape) key_is

  -- its segment was named
  named : IsNamed site.shape hash did.loads segment
  named =
      subst (λ h. IsNamed site.shape h did.loads segment) hash_is
      (subst (λ g. IsNamed g kept.hash did.loads segment) keeps.holds.located.shape
      (subst (λ s. IsNamed kept.site.geometry kept.hash did.loads s) r.there (found_named kept.site kept.hash did.loads r.path r.found)))

  -- ---- its buckets
  -- what was loaded of a bucket
  loaded : (place : Role) → WasLoaded kept did.loads place → (j : ℕ) → 1 ≤ j → j < 32
      → Has (bucket_at site.shape segment (bucket_of_role hash place) + j, slice_index (words_in kept.buckets place) j) did.loads
  loaded place was j from low =
      subst (λ h. Has (bucket_at site.shape segment (bucket_of_role h place) + j, slice_index (words_in kept.buckets place) j) did.loads) hash_is
      (subst (λ l. Has (l + j, slice_index (words_in kept.buckets place) j) did.loads) (lock_at site kept.site kept.hash segment keeps.holds.located place) (was j from low))

  meta_loaded : (place : Role) → WasLoaded kept did.loads place → WasMeta site.shape did.loads segment (bucket_of_role hash place) (slice_index (words_in kept.buckets place) 1)
  meta_loaded place was = loaded place was 1 (omega arith) (omega arith)

  -- none of the keys of a bucket that is full is that of the call
  other : (place : Role) → IsHeld kept.held place → is_third place ≡ false → IsFull (slice_index (words_in kept.buckets place) 1)
      → (slot : ℕ) → slot < record_slots → slice_index (words_in kept.buckets place) (4 + 2 * slot) ≢ key_of call
  other place held own full slot low e =
      let at : ℕ = bucket_at site.shape segment (bucket_of_role kept.hash place) in
      keeps.nowhere.places place held own slot (record {
        segment = within;
        bucket = bucket_near kept.hash place;
        slot = low;
        taken = ap (allocated slot) (word_here site kept v all place 1 (omega arith) (omega arith)) ∙ full slot low;
        key = (let where_it_is : at + 4 + 2 * slot ≡ at + (4 + 2 * slot) = omega arith in
            ap (kept_words kept) where_it_is ∙ word_here site kept v all place (4 + 2 * slot) (omega arith) (omega (arith, low)) ∙ e ∙ sym key_is);
      })

  full_of_others : (place : Role) → IsHeld kept.held place → is_third place ≡ false → IsFull (slice_index (words_in kept.buckets place) 1)
      → IsFullOfOthers site.shape words did call segment (bucket_of_role hash place) (slice_index (words_in kept.buckets place) 1)
  full_of_others place held own full =
      let was = r.buckets place held own in
      record {
        was = record { loaded = meta_loaded place was; full = full };
        others = λ slot low. (slice_index (words_in kept.buckets place) (4 + 2 * slot), loaded place was (4 + 2 * slot) (omega arith) (omega (arith, low)), other place held own full slot low);
      }

  no_room_there : FindsNoRoom site.shape words did call segment
  no_room_there = record {
    insert = subst IsInsert same keeps.insert;
    named = named;
    within = within;
    home = slice_index kept.buckets.home 1;
    probing = slice_index kept.buckets.probing 1;
    next = slice_index kept.buckets.next 1;
    previous = slice_index kept.buckets.previous 1;
    first = slice_index kept.buckets.first 1;
    second = slice_index kept.buckets.second 1;
    home_full = full_of_others Home keeps.holds.home refl (none_free (slice_index kept.buckets.home 1) keeps.home);
    probing_full = full_of_others Probing keeps.holds.probing refl (none_free (slice_index kept.buckets.probing 1) keeps.probing);
    next_loaded = meta_loaded Next nothing.next;
    previous_loaded = meta_loaded Previous nothing.previous;
    moves = nothing.moves;
    first_full = full_of_others First all.first.held refl (none_free (slice_index kept.buckets.first 1) all.first.full);
    second_full = full_of_others Second all.second.held refl (none_free (slice_index kept.buckets.second 1) all.second.full);
  }

-- ---- by the step
module _ (site : Ground) (here : Site) (call : Call) (words : Words) (kept : Kept) (v : View) (did : Doings) where
  abbrev Caused : Want → Outcome → Type 0
  Caused event outcome = HasCause site.shape words did call event here outcome

  caused_at : (s t : ReleaseStep) (event : Want) → ReleaseStands site here call (record { kept = kept; step = s }) v → RemembersAt site kept did.loads s → outcome_at kept s ≡ None
      → (outcome : Outcome) → outcome_at kept t ≡ Some outcome → Caused event outcome
  caused_at Begin t event st r none outcome some = subst (Caused event) (sym (no_other_at kept t outcome some)) (no_room_there site words call kept st.may.same v st.view did r.0 r.1)
  caused_at (Give held) t event st r none outcome some = absurd (none-some (need_split kept.segment) (sym none))
  caused_at Ended t event st r none outcome some = absurd (none-some (need_split kept.segment) (sym none))

-- it is never told to try again
not_again : (kept : Kept) (t : ReleaseStep) (why : Why) → outcome_at kept t ≡ Some (again why) → ⊥
not_again kept t why some = absurd (let same = no_other_at kept t (again why) some in cc)

-- nothing has to be remembered behind the first lock
module _ (site : Ground) (kept : Kept) (loads : List (ℕ × ℕ)) where
  giving_remembers : (held : Held) → RemembersAt site kept loads (giving held)
  giving_remembers held = by_step (RemembersAt site kept loads) held (Give held) Ended tt tt

  remembers_at : (s : ReleaseStep) (n : ℕ) → RemembersAt site kept loads (next_in kept s (answer_to (wanted_in kept s) n))
  remembers_at s n = subst (λ (a : Ans). RemembersAt site kept loads (next_in kept s a)) (sym (give_answer kept.site kept.hash kept.segment (give_next (held_in kept s)) n)) (giving_remembers (given (held_in kept s)))

-- a lock is given back first, so that something is decided where nothing more is wanted
decided_at : (site : Ground) (here : Site) (call : Call) (kept : Kept) (s : ReleaseStep) (v : View) → ReleaseStands site here call (record { kept = kept; step = s }) v → wanted_in kept s ≡ want.Done
    → (outcome : Outcome) × (outcome_at kept s ≡ Some outcome)
decided_at site here call kept Begin v st done =
    let home = st.view.keeps.holds.home in
    let stores = ap (λ (h : Option ℕ). give_wanted_of kept.site kept.hash kept.segment (first_held h kept.held.probing kept.held.first kept.held.second kept.held.next kept.held.previous)) home.1 in
    absurd (let none : want.Store (lock_word kept.site kept.hash kept.segment Home) ((home.0 + 2) % 2 ^ 64) ≡ want.Done = sym stores ∙ done in cc)
decided_at site here call kept (Give held) v st done = (need_split kept.segment, refl)
decided_at site here call kept Ended v st done = (need_split kept.segment, refl)

-- EACH OUTCOME of a release has its cause
pub release_ends_by_cause : EndsByCause release_part
release_ends_by_cause = record {
  steps = λ site here call words views j op before v did h at s asks small r.
      let n : ℕ = words (word_of site.shape (wanted op)) in
      let t : ReleaseStep = next_in op.kept op.step (answer_to (wanted op) n) in
      record {
        remembers = remembers_at site op.kept _ op.step n;
        caused = λ outcome none some. caused_at site here call words op.kept v did op.step t (wanted op) s.stands r none outcome some;
        worked = λ none some. never_finished (record { kept = op.kept; step = t }) some;
        not_own = λ word value none some. absurd (not_again op.kept t _ some);
      };
  stays = λ op a outcome some. stays_at op.kept op.step a outcome some;
  decided = λ site here call op v s done closed. decided_at site here call op.kept op.step v s done;
  undecided = λ op hands. absurd (let f : false ≡ true = hands in cc);
}

-- ---- where it begins
pub begins_remembering : BeginsRemembering
begins_remembering site kept did r nothing = (r, nothing)
