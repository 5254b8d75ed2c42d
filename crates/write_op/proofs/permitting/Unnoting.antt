-- The stores by which a note is taken away are of kinds that the view may take, and leave it suited.
use Rattle.std.proofs.Common.{◌≡◌, ◌⊎◌, ℕ, ◌+◌, ◌%◌, ◌^◌, ◌<◌, ◌≤◌, Bool, true, false, List, ◌∷◌, inl, inr, refl, sym, ap, ◌∙◌, subst, arith, slice_index}
use Rattle.std.specs.Prelude.{◌==◌, if◌then◌else◌}
use Rattle.std.proofs.lemmas.Bool.{eqb-true}
use Rattle.hash_word.specs.Hash.{home_of, probing_of, finger_of}
use Rattle.bucket_meta.specs.Bucket.{overflow_count}
use Rattle.bucket_meta.specs.Notes.{OverflowNote, AreExact}
use Rattle.trace.specs.Events.{Words, with_word}
use Rattle.image_layout.specs.Places.{bucket_at, buckets}
use Rattle.sound_image.specs.Records.{notes_of, word_in, stashed_of}
use Rattle.map_model.specs.declared.change.Effect.{Effect}
use Rattle.map_model.specs.declared.change.Effect.TheVariants.{Insert, Update, Remove}
use Rattle.bucket_words.specs.Core.{core_of, core_in_bucket}
use Rattle.bucket_words.proofs.segments.Cores.{core_in}
use Rattle.bucket_words.proofs.segments.Places.{other_word}
use Rattle.world.specs.Ground.{Ground}
use Rattle.world.specs.Views.{Owed, View, Has}
use Rattle.world.specs.Kinds.{repays}
use Rattle.world.specs.Conditions.{May, IsOwed}
use Rattle.world.specs.Holders.{KnowsBucket, TouchesNote}
use Rattle.world.proofs.holding.Repaying.{may_repay}
use Rattle.phase.specs.declared.role.Role.{Role}
use Rattle.phase.specs.declared.role.Role.TheVariants.{Home, Probing, First, Second, Next, Previous}
use Rattle.phase.specs.Places.{bucket_of_role, stash_index}
use Rattle.phase.specs.Buckets.{words_in}
use Rattle.phase.specs.Giving.{IsLocated, IsHeld, IsOfHeld}
use Rattle.phase.specs.Making.{with_mark}
use Rattle.phase.specs.Knows.{Knows}
use Rattle.phase.proofs.locks.Giving.{lock_at, bucket_near}
use Rattle.phase.proofs.locks.Finding.{holders_find}
use Rattle.write_op.specs.declared.search.NoteWords.{NoteWords}
use Rattle.write_op.specs.declared.step.Task.{Task}
use Rattle.write_op.specs.declared.step.Seen.{Seen}
use Rattle.phase.specs.declared.note.NoteWord.{NoteWord}
use Rattle.phase.specs.declared.note.NoteWord.TheVariants.{Mark, Fingers}
use Rattle.write_op.specs.Search.{leaves_note, unnoted, has_finger}
use Rattle.write_op.specs.Steps.{lock_of}
use Rattle.phase.specs.AreWords.{AreWords}
use Rattle.phase.proofs.Noting.{Four, notes_four, KeepsBeside, HasFour, four_notes, store_h1, store_h3, store_p1, store_p3, neighbours as beside_kept}
use Rattle.write_op.specs.Fits.{loaded, prepared_by, changed, owed, mark_kind, note_kind, words_of_note, IsUnnoting, IsIn}
use Rattle.write_op.proofs.finding.Finding.{asked_held, word_at}
use Rattle.write_op.proofs.finding.Chosen.{lock_is}
use Rattle.write_op.proofs.permitting.Publishing.{located_all, holds_for, word_is}
use Rattle.write_op.proofs.permitting.Freeing.{one_of, three_of, with_one, with_three, IsWithout, Unnotes, four_of, unnotes}

-- ---- by the hash
module _ (site : Ground) (task : Task) (is : IsIn site task) (seen : Seen) (v : View) (part : NoteWord) (u : IsUnnoting site task seen part v) (words : (place : Role) → AreWords (words_in seen.buckets place)) where
  abbrev b : ℕ
  b = home_of task.hash

  abbrev s : ℕ
  s = seen.path.segment

  abbrev n : NoteWords
  n = unnoted task.hash seen

  abbrev f : Four
  f = four_of seen.buckets.home seen.buckets.probing (finger_of task.hash) (stash_index seen.place) ((words Home).small 1) ((words Probing).small 1)

  near : b < 64
  near = omega arith

  at : IsLocated site task.site s
  at = located_all site task is seen v u.all

  -- the record was removed from the stash
  leaves_by : (d : Effect) (p : Role) → leaves_note d p ≡ true → (d ≡ Remove) × (64 ≤ bucket_of_role task.hash p)
  leaves_by (Insert value) p e = absurd (let f : false ≡ true = e in cc)
  leaves_by (Update value) p e = absurd (let f : false ≡ true = e in cc)
  leaves_by Remove Home e = absurd (let f : false ≡ true = e in cc)
  leaves_by Remove Probing e = absurd (let f : false ≡ true = e in cc)
  leaves_by Remove First e = (refl, omega arith)
  leaves_by Remove Second e = (refl, omega arith)
  leaves_by Remove Next e = absurd (let f : false ≡ true = e in cc)
  leaves_by Remove Previous e = absurd (let f : false ≡ true = e in cc)

  removes : (task.change.effect ≡ Remove) × (64 ≤ bucket_of_role task.hash seen.place)
  removes = leaves_by task.change.effect seen.place u.leaves

  abbrev here : ℕ
  here = bucket_at site.shape s (bucket_of_role task.hash seen.place)

  lock_at_place : (p : Role) → lock_of task seen p ≡ bucket_at site.shape s (bucket_of_role task.hash p)
  lock_at_place p = lock_at site task.site task.hash s at p

  gone : changed task seen ≡ with_word (loaded task seen) (here + 1) seen.written.mark
  gone =
      ap (λ (d : Effect). with_mark (lock_of task seen seen.place) seen.written (prepared_by task seen d)) removes.0
      ∙ ap (λ i. with_word (loaded task seen) i seen.written.mark)
      (ap (λ l. l + seen.written.published) (lock_is site task seen u.all.upto u.chosen at) ∙ ap (λ j. here + j) (word_is site task is seen v u.all u.chosen Remove removes.0))

  -- the words as they were loaded, and after the store in the stash
  loaded_four : HasFour site.shape s b near (loaded task seen) f
  loaded_four = record {
    h1 = word_at site task seen at u.all.upto u.all.visits Home 1 (omega arith) (omega arith);
    h3 = word_at site task seen at u.all.upto u.all.visits Home 3 (omega arith) (omega arith);
    p1 = word_at site task seen at u.all.upto u.all.visits Probing 1 (omega arith) (omega arith);
    p3 = word_at site task seen at u.all.upto u.all.visits Probing 3 (omega arith) (omega arith);
  }

  bucket_low : bucket_of_role task.hash seen.place < buckets
  bucket_low = bucket_near task.hash seen.place

  far : (c m : ℕ) → c < 64 → m < 32 → with_word (loaded task seen) (here + 1) seen.written.mark (bucket_at site.shape s c + m) ≡ loaded task seen (bucket_at site.shape s c + m)
  far c m low small =
      let big = removes.1 in
      other_word site.shape (loaded task seen) s (bucket_of_role task.hash seen.place) 1 seen.written.mark (here + 1) bucket_low (omega arith) refl s c m (bucket_at site.shape s c + m) (omega (arith, low)) small refl
      (λ p q r. omega (arith, q, low, big))

  changed_four : HasFour site.shape s b near (changed task seen) f
  changed_four = subst (λ (w : Words). HasFour site.shape s b near w f) (sym gone) (record {
    h1 = far b 1 near (omega arith) ∙ loaded_four.h1;
    h3 = far b 3 near (omega arith) ∙ loaded_four.h3;
    p1 = far (probing_of b) 1 (omega arith) (omega arith) ∙ loaded_four.p1;
    p3 = far (probing_of b) 3 (omega arith) (omega arith) ∙ loaded_four.p3;
  })

  -- ---- what is owed
  abbrev note : OverflowNote
  note = (finger_of task.hash, stash_index seen.place)

  owed_notes : (owed task seen).notes ≡ notes_four f
  owed_notes = ap (λ g. notes_of g (loaded task seen) s b) is.shape ∙ four_notes site.shape s b near (loaded task seen) f loaded_four

  owed_count : (owed task seen).count ≡ overflow_count f.h1
  owed_count = ap (λ g. overflow_count (word_in g (loaded task seen) s b 1)) is.shape ∙ ap overflow_count loaded_four.h1

  exact_four : (stashed : List OverflowNote) → AreExact (owed task seen).notes (owed task seen).count (note ∷ stashed) → AreExact (notes_four f) (overflow_count f.h1) (note ∷ stashed)
  exact_four stashed exact = subst (λ c. AreExact (notes_four f) c (note ∷ stashed)) owed_count (subst (λ ns. AreExact ns (owed task seen).count (note ∷ stashed)) owed_notes exact)

  module _ (newest : Words) (is_owed : IsOwed site.shape newest (owed task seen)) where
    un : Unnotes f note n
    un = unnotes seen.buckets.home seen.buckets.probing (finger_of task.hash) (stash_index seen.place) ((words Home).small 1) ((words Probing).small 1)
        (stashed_of site.shape newest s b) (exact_four (stashed_of site.shape newest s b) is_owed)

    abbrev c : ℕ
    c = bucket_of_role task.hash n.place

    -- ---- by the bucket of the note
    bucket_by : (p : Role) → (p ≡ Home) ⊎ (p ≡ Probing) → (bucket_of_role task.hash p ≡ b) ⊎ (bucket_of_role task.hash p ≡ probing_of b)
    bucket_by p (inl e) = inl (ap (bucket_of_role task.hash) e)
    bucket_by p (inr e) = inr (ap (bucket_of_role task.hash) e)

    store_one : (p : Role) (w : Words) (g : Four) (x : ℕ) → (p ≡ Home) ⊎ (p ≡ Probing) → HasFour site.shape s b near w g
        → HasFour site.shape s b near (with_word w (bucket_at site.shape s (bucket_of_role task.hash p) + 1) x) (with_one p x g)
    store_one p w g x (inl e) h = subst (λ (q : Role). HasFour site.shape s b near (with_word w (bucket_at site.shape s (bucket_of_role task.hash q) + 1) x) (with_one q x g)) (sym e) (store_h1 site.shape s b near w g x h)
    store_one p w g x (inr e) h = subst (λ (q : Role). HasFour site.shape s b near (with_word w (bucket_at site.shape s (bucket_of_role task.hash q) + 1) x) (with_one q x g)) (sym e) (store_p1 site.shape s b near w g x h)

    store_three : (p : Role) (w : Words) (g : Four) (x : ℕ) → (p ≡ Home) ⊎ (p ≡ Probing) → HasFour site.shape s b near w g
        → HasFour site.shape s b near (with_word w (bucket_at site.shape s (bucket_of_role task.hash p) + 3) x) (with_three p x g)
    store_three p w g x (inl e) h = subst (λ (q : Role). HasFour site.shape s b near (with_word w (bucket_at site.shape s (bucket_of_role task.hash q) + 3) x) (with_three q x g)) (sym e) (store_h3 site.shape s b near w g x h)
    store_three p w g x (inr e) h = subst (λ (q : Role). HasFour site.shape s b near (with_word w (bucket_at site.shape s (bucket_of_role task.hash q) + 3) x) (with_three q x g)) (sym e) (store_p3 site.shape s b near w g x h)

    one_here : (p : Role) (w : Words) (g : Four) → (p ≡ Home) ⊎ (p ≡ Probing) → HasFour site.shape s b near w g → w (bucket_at site.shape s (bucket_of_role task.hash p) + 1) ≡ one_of p g
    one_here p w g (inl e) h = subst (λ (q : Role). w (bucket_at site.shape s (bucket_of_role task.hash q) + 1) ≡ one_of q g) (sym e) h.h1
    one_here p w g (inr e) h = subst (λ (q : Role). w (bucket_at site.shape s (bucket_of_role task.hash q) + 1) ≡ one_of q g) (sym e) h.p1

    three_here : (p : Role) (w : Words) (g : Four) → (p ≡ Home) ⊎ (p ≡ Probing) → HasFour site.shape s b near w g → w (bucket_at site.shape s (bucket_of_role task.hash p) + 3) ≡ three_of p g
    three_here p w g (inl e) h = subst (λ (q : Role). w (bucket_at site.shape s (bucket_of_role task.hash q) + 3) ≡ three_of q g) (sym e) h.h3
    three_here p w g (inr e) h = subst (λ (q : Role). w (bucket_at site.shape s (bucket_of_role task.hash q) + 3) ≡ three_of q g) (sym e) h.p3

    three_stays : (p : Role) (x : ℕ) (g : Four) → three_of p (with_one p x g) ≡ three_of p g
    three_stays Home x g = refl
    three_stays Probing x g = refl
    three_stays place x g = refl

    three_loaded : (p : Role) → (p ≡ Home) ⊎ (p ≡ Probing) → three_of p f ≡ slice_index (words_in seen.buckets p) 3
    three_loaded p (inl e) = subst (λ (q : Role). three_of q f ≡ slice_index (words_in seen.buckets q) 3) (sym e) refl
    three_loaded p (inr e) = subst (λ (q : Role). three_of q f ≡ slice_index (words_in seen.buckets q) 3) (sym e) refl

    c_low : c < buckets
    c_low = bucket_near task.hash n.place

    -- ---- a store to a word of it
    module _ (w : Words) (g k : Four) (has : HasFour site.shape s b near w g) (knows : Knows (IsOfHeld task.site task.hash s seen.held) w v) where
      holds_here : (p : Role) → IsHeld seen.held p → KnowsBucket site.shape v s (bucket_of_role task.hash p) w
      holds_here p held = holders_find.bucket site task.site task.hash s seen.held w task.change.key v (holds_for site task is seen v u.all w knows) u.settled p held

      touches : (m x : ℕ) → (m ≡ 1) ⊎ (m ≡ 3) → core_in_bucket m x ≡ core_in_bucket m (w (bucket_at site.shape s c + m)) → m < 32
          → HasFour site.shape s b near (with_word w (bucket_at site.shape s c + m) x) k → KeepsBeside g k → TouchesNote site v w (owed task seen) c m x
      touches m x meta core small after beside = record {
        owed = subst (λ (l : List Owed). Has (owed task seen) l) (sym u.owes) (inl refl);
        segment = at.within;
        near = near;
        home = holds_here Home (asked_held seen u.all.upto Home refl);
        probing = holds_here Probing (asked_held seen u.all.upto Probing refl);
        bucket = bucket_by n.place un.near;
        meta = meta;
        same_core = core_in site.shape s c m x at.within c_low small ∙ core ∙ sym (core_in site.shape s c m (w (bucket_at site.shape s c + m)) at.within c_low small);
        neighbours = beside_kept site.shape s b near w (with_word w (bucket_at site.shape s c + m) x) g k has after beside;
      }

    exact_after : (g : Four) (w : Words) → HasFour site.shape s b near w g → IsWithout f note g → (stashed : List OverflowNote) → AreExact (owed task seen).notes (owed task seen).count (note ∷ stashed)
        → AreExact (notes_of site.shape w s b) (overflow_count (word_in site.shape w s b 1)) stashed
    exact_after g w has without stashed exact =
        subst (λ ns. AreExact ns (overflow_count (word_in site.shape w s b 1)) stashed) (sym (four_notes site.shape s b near w g has))
        (subst (λ z. AreExact (notes_four g) (overflow_count z) stashed) (sym has.h1) (without stashed (exact_four stashed exact)))

    -- ---- the metadata word
    abbrev w0 : Words
    w0 = changed task seen

    abbrev mark_at : ℕ
    mark_at = bucket_at site.shape s c + 1

    abbrev w1 : Words
    w1 = with_word w0 mark_at n.mark

    mark_place : lock_of task seen n.place + 1 ≡ mark_at
    mark_place = ap (λ l. l + 1) (lock_at_place n.place)

    marked_four : HasFour site.shape s b near w1 (with_one n.place n.mark f)
    marked_four = store_one n.place w0 f n.mark un.near changed_four

    mark_core : n.mark % 2 ^ 28 ≡ w0 mark_at % 2 ^ 28
    mark_core = un.slots ∙ ap (λ z. z % 2 ^ 28) (sym (one_here n.place w0 f un.near changed_four))

    module _ (knows : Knows (IsOfHeld task.site task.hash s seen.held) w0 v) where
      mark_touches : TouchesNote site v w0 (owed task seen) c 1 n.mark
      mark_touches = touches w0 f (with_one n.place n.mark f) changed_four knows 1 n.mark (inl refl) mark_core (omega arith) marked_four un.first

      none_else : (t : Bool) → (slice_index (words_in seen.buckets n.place) 3 == n.fingers) ≡ t → (if t then false else true) ≡ false → three_of n.place f ≡ n.fingers
      none_else true e off = three_loaded n.place un.near ∙ eqb-true (slice_index (words_in seen.buckets n.place) 3) n.fingers e
      none_else false e off = absurd (let x : true ≡ false = off in cc)

      mark_may_by : (t : Bool) → has_finger seen n ≡ t → May site (mark_kind task seen t mark_at n.mark) v
      mark_may_by true e = (may_repay site v).part (owed task seen) c 1 n.mark w0 mark_touches
      mark_may_by false e = (may_repay site v).last (owed task seen) c 1 n.mark w0 mark_touches
          (λ stashed exact. exact_after (with_one n.place n.mark f) w1 marked_four (un.alone (none_else (slice_index (words_in seen.buckets n.place) 3 == n.fingers) refl e)) stashed exact)

      mark_may : May site (note_kind task seen Mark n) v
      mark_may = subst (λ i. May site (mark_kind task seen (has_finger seen n) i n.mark) v) (sym mark_place) (mark_may_by (has_finger seen n) refl)

    -- ---- the word of its fingerprint
    abbrev fingers_word : ℕ
    fingers_word = bucket_at site.shape s c + 3

    fingers_place : lock_of task seen n.place + 3 ≡ fingers_word
    fingers_place = ap (λ l. l + 3) (lock_at_place n.place)

    fingers_core : n.fingers % 2 ^ 48 ≡ w1 fingers_word % 2 ^ 48
    fingers_core = un.records ∙ ap (λ z. z % 2 ^ 48) (sym (three_stays n.place n.mark f)) ∙ ap (λ z. z % 2 ^ 48) (sym (three_here n.place w1 (with_one n.place n.mark f) un.near marked_four))

    fingered_four : HasFour site.shape s b near (with_word w1 fingers_word n.fingers) (with_three n.place n.fingers (with_one n.place n.mark f))
    fingered_four = store_three n.place w1 (with_one n.place n.mark f) n.fingers un.near marked_four

    module _ (knows : Knows (IsOfHeld task.site task.hash s seen.held) w1 v) where
      fingers_touch : TouchesNote site v w1 (owed task seen) c 3 n.fingers
      fingers_touch = touches w1 (with_one n.place n.mark f) (with_three n.place n.fingers (with_one n.place n.mark f)) marked_four knows 3 n.fingers (inr refl) fingers_core (omega arith) fingered_four un.second

      fingers_may : May site (note_kind task seen Fingers n) v
      fingers_may = subst (λ i. May site (repays i n.fingers (owed task seen)) v) (sym fingers_place)
          ((may_repay site v).last (owed task seen) c 3 n.fingers w1 fingers_touch (λ stashed exact. exact_after (with_three n.place n.fingers (with_one n.place n.mark f)) (with_word w1 fingers_word n.fingers) fingered_four un.both stashed exact))

    -- the words of each store
    fingers_words : words_of_note site task seen Fingers ≡ w1
    fingers_words = ap (λ i. with_word w0 i n.mark) mark_place

    knows_mark : part ≡ Mark → Knows (IsOfHeld task.site task.hash s seen.held) w0 v
    knows_mark e = subst (λ (q : NoteWord). Knows (IsOfHeld task.site task.hash s seen.held) (words_of_note site task seen q) v) e u.knows

    knows_fingers : part ≡ Fingers → Knows (IsOfHeld task.site task.hash s seen.held) w1 v
    knows_fingers e = subst (λ w. Knows (IsOfHeld task.site task.hash s seen.held) w v) fingers_words
        (subst (λ (q : NoteWord). Knows (IsOfHeld task.site task.hash s seen.held) (words_of_note site task seen q) v) e u.knows)

    may_by : (q : NoteWord) → part ≡ q → May site (note_kind task seen q n) v
    may_by Mark e = mark_may (knows_mark e)
    may_by Fingers e = fingers_may (knows_fingers e)

    pub unnote_may : May site (note_kind task seen part n) v
    unnote_may = may_by part refl

    -- the store keeps the core of its word
    pub mark_same_core : core_of site.shape (lock_of task seen n.place + 1) (changed task seen (lock_of task seen n.place + 1)) ≡ core_of site.shape (lock_of task seen n.place + 1) n.mark
    mark_same_core = subst (λ i. core_of site.shape i (changed task seen i) ≡ core_of site.shape i n.mark) (sym mark_place)
        (core_in site.shape s c 1 (w0 mark_at) at.within c_low (omega arith) ∙ sym mark_core ∙ sym (core_in site.shape s c 1 n.mark at.within c_low (omega arith)))

    pub fingers_same_core : core_of site.shape (lock_of task seen n.place + 3) (words_of_note site task seen Fingers (lock_of task seen n.place + 3)) ≡ core_of site.shape (lock_of task seen n.place + 3) n.fingers
    fingers_same_core = subst (λ (w : Words). core_of site.shape (lock_of task seen n.place + 3) (w (lock_of task seen n.place + 3)) ≡ core_of site.shape (lock_of task seen n.place + 3) n.fingers) (sym fingers_words)
        (subst (λ i. core_of site.shape i (w1 i) ≡ core_of site.shape i n.fingers) (sym fingers_place)
        (core_in site.shape s c 3 (w1 fingers_word) at.within c_low (omega arith) ∙ sym fingers_core ∙ sym (core_in site.shape s c 3 n.fingers at.within c_low (omega arith))))

    -- and its word lies under a lock that is held
    pub note_near : (n.place ≡ Home) ⊎ (n.place ≡ Probing)
    note_near = un.near
