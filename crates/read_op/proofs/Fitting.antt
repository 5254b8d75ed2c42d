-- A get fits the world: what it wants is of a kind, and its view may take the step.
use Rattle.std.proofs.Common.{◌≡◌, ◌≢◌, ◌⊎◌, ℕ, zero, suc, ◌+◌, ◌<◌, Bool, true, false, Option, None, Some, inl, inr, refl, sym, ◌∙◌, ap, subst, arith}
use Rattle.std.specs.Prelude.{if◌then◌else◌}
use Rattle.std.proofs.lemmas.Bool.{cases_Bool}
use Rattle.hash_word.specs.Hash.{home_of, finger_of}
use Rattle.trace.specs.Events.{Words}
use Rattle.bucket_meta.specs.Bucket.{record_slots}
use Rattle.image_layout.specs.Places.{Shape, IsShape, bucket_at, homes, stash_buckets}
use Rattle.image_layout.specs.Volatile.{counter_word}
use Rattle.sound_image.specs.Records.{key_hash}
use Rattle.way.specs.Ways.{head_word}
use Rattle.bucket_words.specs.Buckets.{find_below}
use Rattle.bucket_words.specs.Owners.{owner_of}
use Rattle.bucket_words.specs.Hits.{find}
use Rattle.bucket_words.specs.HomeNotes.{IsUnnoted}
use Rattle.op_core.specs.declared.want.Want.TheVariants.{Load as LoadWord, Done}
use Rattle.world.specs.Ground.{Ground, IsGround, IsLockWord}
use Rattle.world.specs.Views.{Glance, View, Has}
use Rattle.world.specs.Kinds.{peeks, places, validates, wanted as wanted_by}
use Rattle.world.specs.Conditions.{IsNow, May}
use Rattle.world.proofs.stepping.Telling.{has_none, has_some}
use Rattle.phase.proofs.Leading.{noted_lead}
use Rattle.phase.proofs.Walking.{walk_wants, walk_may, head_is}
use Rattle.phase.proofs.Backing.{back_wants, back_may}
use Rattle.phase.specs.declared.role.Role.{Role}
use Rattle.phase.specs.declared.role.Role.TheVariants.{Home, Probing, First, Second}
use Rattle.read_op.specs.declared.step.Seen.{Seen}
use Rattle.read_op.specs.declared.step.ReadStep.{ReadStep}
use Rattle.read_op.specs.declared.step.ReadStep.TheVariants.{Way, Look, Fill, Count, Check, Relook, Ended}
use Rattle.read_op.specs.declared.step.Task.{Task}
use Rattle.read_op.specs.declared.op.ReadOp.{ReadOp}
use Rattle.phase.specs.Places.{bucket_of_role}
use Rattle.read_op.specs.Steps.{wanted_in, lock_of}
use Rattle.read_op.specs.Fits.{IsIn, kind_in, is_asked, at_head, at_bucket, watched_word, watched_value, leads, Tells, IsReading, Skips, suits_in, BeginsSuited, WantsByKind, MayStep}
use Rattle.phase.proofs.asking.Asked.{few}
use Rattle.phase.proofs.locks.Giving.{bucket_near, known_lock}
use Rattle.read_op.proofs.Places.{lock_is}

-- ---- what is wanted
count_wants : (task : Task) (site : Ground) → IsIn site task → (s : Seen) (b : Bool) → LoadWord (counter_word task.site.geometry) ≡ wanted_by site.shape (if b then places task.key s.value else peeks (counter_word task.site.geometry))
count_wants task site is s true = ap (λ g. LoadWord (counter_word g)) is.shape
count_wants task site is s false = refl

pub wants_in : (task : Task) (site : Ground) → IsIn site task → (s : ReadStep) → wanted_in task s ≢ Done → wanted_in task s ≡ wanted_by site.shape (kind_in task s)
wants_in task site is (Way walk) asks = walk_wants site.shape task.site task.hash walk is.shape
wants_in task site is (Look s p) asks = refl
wants_in task site is (Fill s p load) asks = refl
wants_in task site is (Count s) asks = count_wants task site is s (leads task s)
wants_in task site is (Check s placed back) asks = back_wants site.shape task.site task.hash s.path (validates (head_word task.site.geometry s.path.segment)) back refl
wants_in task site is (Relook s placed p) asks = refl
wants_in task site is (Ended end) asks = absurd (asks refl)

module _ (site : Ground) (task : Task) (is : IsIn site task) where
  -- a lock word, in the site's terms
  pub lock_at : (s : Seen) (q : Role) → s.path.segment < site.shape.segments → lock_of task s q ≡ bucket_at site.shape s.path.segment (bucket_of_role task.hash q)
  lock_at s q within = lock_is task s q (subst (λ (g : Shape). s.path.segment < g.segments) (sym is.shape) within)
      ∙ ap (λ (g : Shape). bucket_at g s.path.segment (bucket_of_role task.hash q)) is.shape

  pub lock_word_is : (s : Seen) (q : Role) → s.path.segment < site.shape.segments → IsLockWord site.shape (lock_of task s q)
  lock_word_is s q within = (s.path.segment, bucket_of_role task.hash q, within, bucket_near task.hash q, lock_at s q within)

  -- ---- the answer, where the header leads to the hash
  module _ (good : IsShape site.shape) (v : View) (s : Seen) (r : IsReading site task s 4 4 v) (skips : Skips site v.notes task s) (leading : leads task s ≡ true) where
    abbrev segment : ℕ
    segment = s.path.segment

    abbrev home : ℕ
    home = home_of (key_hash site.shape task.key)

    head_note : (n : Glance) × Has n v.notes × (n.word ≡ watched_word task s at_head) × (n.value ≡ s.path.head)
    head_note = r.noted_at.to at_head tt

    home_note : (n : Glance) × Has n v.notes × (n.word ≡ lock_of task s Home) × (n.value ≡ watched_value s (at_bucket Home))
    home_note = r.noted_at.to (at_bucket Home) (record { low = omega arith; asked = refl })

    home_lock : lock_of task s Home ≡ bucket_at site.shape segment home
    home_lock = lock_at s Home r.there.within ∙ ap (λ h. bucket_at site.shape segment (home_of h)) is.hash

    module _ (m : Words) (now : IsNow site v.notes m) where
      own : owner_of site.shape m (key_hash site.shape task.key) ≡ Some segment
      own = ap (owner_of site.shape m) (sym is.hash)
          ∙ noted_lead site task.hash s.path v.notes good is.fits r.there.within head_note.0 head_note.1
          (head_note.2 ∙ head_is site task.site task.hash is.shape s.path.segment r.there.within) head_note.3 leading m now

      there : (q : Role) (a : Option ℕ) → Tells site v.notes task.key (lock_of task s q) a → find_below m (bucket_at site.shape segment (bucket_of_role (key_hash site.shape task.key) q)) task.key record_slots ≡ a
      there q a t = ap (λ l. find_below m l task.key record_slots) (sym (lock_at s q r.there.within ∙ ap (λ h. bucket_at site.shape segment (bucket_of_role h q)) is.hash)) ∙ t m now

      stash : (q : Role) (c : ℕ) → bucket_of_role (key_hash site.shape task.key) q ≡ homes + c → s.value ≡ None → (is_asked s q ≡ false → (m : Words) → IsNow site v.notes m
          → IsUnnoted site.shape m segment (home_of task.hash) (finger_of task.hash) c)
          → (find_below m (bucket_at site.shape segment (homes + c)) task.key record_slots ≡ None) ⊎ IsUnnoted site.shape m segment home (finger_of (key_hash site.shape task.key)) c
      stash q c e none skip = elim (cases_Bool (is_asked s q)) [
        | inl asked ↦ inl (ap (λ b. find_below m (bucket_at site.shape segment b) task.key record_slots) (sym e) ∙ there q None (r.knows.none none q (record { low = few s.first s.second q asked; asked = asked })))
        | inr skipped ↦ inr (subst (λ h. IsUnnoted site.shape m segment (home_of h) (finger_of h) c) is.hash (skip skipped m now))
      ]

      by_stash : s.value ≡ None → (c : ℕ) → c < stash_buckets
          → (find_below m (bucket_at site.shape segment (homes + c)) task.key record_slots ≡ None) ⊎ IsUnnoted site.shape m segment home (finger_of (key_hash site.shape task.key)) c
      by_stash none zero low = stash First 0 refl none skips.0
      by_stash none (suc zero) low = stash Second 1 refl none skips.1
      by_stash none (suc (suc c)) low = absurd (omega (arith, low))

      tells : (a : Option ℕ) → s.value ≡ a → find site.shape m task.key ≡ a
      tells None e = has_none site.shape m now.table segment task.key r.there.within own
          (now.exact segment home home_note.0 r.there.within (omega arith) home_note.1 (home_note.2 ∙ home_lock))
          (there Home None (r.knows.none e Home (record { low = omega arith; asked = refl })))
          (there Probing None (r.knows.none e Probing (record { low = omega arith; asked = refl })))
          (by_stash e)
      tells (Some x) e = let k = r.knows.some x e in
          has_some site.shape m now.table segment task.key r.there.within own (bucket_of_role (key_hash site.shape task.key) k.0) x (bucket_near _ k.0) (there k.0 (Some x) k.1)

    may_answer : May site (places task.key s.value) v
    may_answer = (segment, (home_note.0, home_note.1, home_note.2 ∙ home_lock), λ m now. (own m now, tells m now s.value refl))

  may_count : (good : IsShape site.shape) (v : View) (s : Seen) → IsReading site task s 4 4 v → Skips site v.notes task s → (b : Bool) → leads task s ≡ b
      → May site (if b then places task.key s.value else peeks (counter_word task.site.geometry)) v
  may_count good v s r skips true leading = may_answer good v s r skips leading
  may_count good v s r skips false away = tt

  -- ---- what the view may do
  pub may_in : IsGround site → (v : View) (s : ReadStep) → suits_in site task s v → May site (kind_in task s) v
  may_in good v (Way walk) suits = walk_may site task.site task.hash walk v good.shape is.shape is.version is.fits suits.0
  may_in good v (Look s p) suits = known_lock site task.site task.hash s.path.segment p v is.shape suits.0.there
  may_in good v (Fill s p load) suits =
      let l = suits.2.loads in let from = l.from in let last = l.last in (lock_word_is s p suits.0.there.within, (omega (arith, from, last), omega arith))
  may_in good v (Count s) suits = may_count good.shape v s suits.0 suits.1 (leads task s) refl
  may_in good v (Check s placed back) suits = back_may site task.site task.hash s.path (validates (head_word task.site.geometry s.path.segment)) back v tt
  may_in good v (Relook s placed p) suits = tt
  may_in good v (Ended end) suits = tt

-- ---- the laws
pub begins_suited : BeginsSuited
begins_suited site here key same version fits = (record { shape = same; version = version; hash = ap (λ g. key_hash g key) same; fits = fits }, λ v. (tt, tt))

pub wants_by_kind : (site : Ground) (op : ReadOp) → WantsByKind site op
wants_by_kind site op is asks = wants_in op.task site is op.step asks

pub may_step : (site : Ground) (op : ReadOp) (v : View) → MayStep site op v
may_step site op v good is suits = may_in site op.task is good v op.step suits
