-- The stores of the note that is owed are of kinds that the view may take, and keep the cores of their words.
use Rattle.std.proofs.Common.{◌≡◌, ◌⊎◌, ℕ, ◌+◌, ◌*◌, ◌%◌, ◌^◌, ◌<◌, Bool, true, false, List, ◌∷◌, inl, inr, refl, sym, ap, ◌∙◌, subst, arith, slice_index}
use Rattle.std.specs.Prelude.{◌==◌, if◌then◌else◌}
use Rattle.std.proofs.lemmas.Bool.{eqb-true}
use Rattle.hash_word.specs.Hash.{home_of, probing_of, finger_of}
use Rattle.bucket_meta.specs.Bucket.{allocated, overflow_count}
use Rattle.bucket_meta.specs.Notes.{OverflowNote, AreExact}
use Rattle.trace.specs.Events.{Words, with_word}
use Rattle.image_layout.specs.Places.{Shape, bucket_at, buckets}
use Rattle.sound_image.specs.Records.{notes_of, word_in}
use Rattle.bucket_words.specs.Core.{core_of, core_in_bucket}
use Rattle.bucket_words.specs.Hits.{Hit}
use Rattle.bucket_words.proofs.segments.Cores.{core_in}
use Rattle.bucket_words.proofs.segments.Places.{other_word}
use Rattle.world.specs.Ground.{Ground}
use Rattle.world.specs.Views.{Owed, View, Has}
use Rattle.world.specs.Kinds.{repays}
use Rattle.world.specs.Conditions.{May, IsOwed}
use Rattle.world.specs.Holders.{KnowsBucket, TouchesNote}
use Rattle.world.proofs.holding.Repaying.{may_repay}
use Rattle.phase.specs.declared.role.Role.{Role}
use Rattle.phase.specs.declared.role.Role.TheVariants as place
use Rattle.phase.specs.declared.kept.Kept.{Kept}
use Rattle.phase.specs.Places.{bucket_of_role}
use Rattle.phase.specs.Buckets.{words_in}
use Rattle.phase.specs.Giving.{IsLocated, IsHeld}
use Rattle.phase.specs.Knows.{Knows}
use Rattle.phase.specs.AreWords.{AreWords}
use Rattle.phase.proofs.locks.Giving.{lock_at, bucket_near}
use Rattle.phase.proofs.locks.Storing.{place_near, record_kept}
use Rattle.phase.proofs.locks.Finding.{holders_find}
use Rattle.stash_op.specs.declared.step.NoteBucket.{NoteBucket}
use Rattle.stash_op.specs.declared.step.NoteBucket.TheVariants.{Home, Probing}
use Rattle.stash_op.specs.declared.step.NoteWords.{NoteWords}
use Rattle.stash_op.specs.declared.step.Seen.{Seen}
use Rattle.phase.specs.declared.note.NoteWord.{NoteWord}
use Rattle.phase.specs.declared.note.NoteWord.TheVariants.{Mark, Fingers}
use Rattle.phase.proofs.Noting.{Four, notes_four, KeepsBeside, HasFour, next_near, four_notes, store_h1, store_h3, store_p1, store_p3, neighbours as beside_kept}
use Rattle.stash_op.specs.Search.{place_of, index_of, note_place, noted, has_finger}
use Rattle.stash_op.specs.Steps.{lock_of}
use Rattle.stash_op.specs.Fits.{loaded, prepared, changed, marked, owed, mark_kind, note_kind, words_of_note, IsHere, IsNoting, IsIn}
use Rattle.stash_op.proofs.finding.Standing.{word_at}
use Rattle.stash_op.proofs.finding.Chosen.{slot_low, published_is, lock_is, fits_slot}
use Rattle.stash_op.proofs.permitting.Few.{few_uncounted}
use Rattle.stash_op.proofs.permitting.Stored.{one_of, three_of, with_one, with_three, IsWith, Notes, four_of, notes}
use Rattle.stash_op.proofs.permitting.Publishing.{far, index_low, located_all, holds_all}

-- the bucket of a note, by the home
abbrev pub bucket_by : ℕ → NoteBucket → ℕ
bucket_by b Home = b
bucket_by b Probing = probing_of b

-- ---- words 1 and 3 of the two buckets, among all words, by the bucket of a note
module _ (shape : Shape) (s b : ℕ) (near : b < 64) where
  store_one : (p : NoteBucket) (w : Words) (f : Four) (x : ℕ) → HasFour shape s b near w f → HasFour shape s b near (with_word w (bucket_at shape s (bucket_by b p) + 1) x) (with_one p x f)
  store_one Home = store_h1 shape s b near
  store_one Probing = store_p1 shape s b near

  store_three : (p : NoteBucket) (w : Words) (f : Four) (x : ℕ) → HasFour shape s b near w f → HasFour shape s b near (with_word w (bucket_at shape s (bucket_by b p) + 3) x) (with_three p x f)
  store_three Home = store_h3 shape s b near
  store_three Probing = store_p3 shape s b near

  one_here : (p : NoteBucket) (w : Words) (f : Four) → HasFour shape s b near w f → w (bucket_at shape s (bucket_by b p) + 1) ≡ one_of p f
  one_here Home w f h = h.h1
  one_here Probing w f h = h.p1

  three_here : (p : NoteBucket) (w : Words) (f : Four) → HasFour shape s b near w f → w (bucket_at shape s (bucket_by b p) + 3) ≡ three_of p f
  three_here Home w f h = h.h3
  three_here Probing w f h = h.p3

  by_near : (p : NoteBucket) → bucket_by b p < 64
  by_near Home = near
  by_near Probing = next_near shape s b near

  by_bucket : (p : NoteBucket) → (bucket_by b p ≡ b) ⊎ (bucket_by b p ≡ probing_of b)
  by_bucket Home = inl refl
  by_bucket Probing = inr refl

three_stays : (p : NoteBucket) (x : ℕ) (g : Four) → three_of p (with_one p x g) ≡ three_of p g
three_stays Home x g = refl
three_stays Probing x g = refl

-- ---- by the hash
module _ (site : Ground) (kept : Kept) (is : IsIn site kept) (seen : Seen) (v : View) (part : NoteWord) (u : IsNoting site kept seen part v) (words : (place : Role) → AreWords (words_in seen.buckets place)) where
  abbrev b : ℕ
  b = home_of kept.hash

  abbrev s : ℕ
  s = kept.segment

  abbrev n : NoteWords
  n = noted kept.hash seen

  abbrev f : Four
  f = four_of seen.buckets.home seen.buckets.probing

  near : b < 64
  near = omega arith

  at : IsLocated site kept.site s
  at = located_all site kept is seen v u.all

  abbrev away : ℕ
  away = bucket_of_role kept.hash (place_of seen.bucket)

  abbrev here : ℕ
  here = bucket_at site.shape s away

  abbrev lock : ℕ
  lock = lock_of kept (place_of seen.bucket)

  lock_here : lock ≡ here
  lock_here = lock_is site kept seen u.chosen at

  pub note_at : (p : NoteBucket) → lock_of kept (note_place p) ≡ bucket_at site.shape s (bucket_by b p)
  note_at Home = lock_at site kept.site kept.hash s at place.Home
  note_at Probing = lock_at site kept.site kept.hash s at place.Probing

  pub changed_is : changed kept seen ≡ with_word (prepared kept seen) (here + 1) seen.written.mark
  changed_is = ap (λ i. with_word (prepared kept seen) i seen.written.mark)
      (ap (λ l. l + seen.written.published) lock_here ∙ ap (λ j. here + j) (published_is site kept seen u.chosen))

  -- the words as they were loaded, with the record in the stash, and after the store there
  loaded_four : HasFour site.shape s b near (loaded kept seen) f
  loaded_four = record {
    h1 = word_at site kept is seen at place.Home 1 (omega arith) (omega arith);
    h3 = word_at site kept is seen at place.Home 3 (omega arith) (omega arith);
    p1 = word_at site kept is seen at place.Probing 1 (omega arith) (omega arith);
    p3 = word_at site kept is seen at place.Probing 3 (omega arith) (omega arith);
  }

  beside : (c m : ℕ) → c < 64 → m < 32 → prepared kept seen (bucket_at site.shape s c + m) ≡ loaded kept seen (bucket_at site.shape s c + m)
  beside c m low small =
      let big = far kept.hash seen.bucket in
      let l = lock_here in
      let slot = slot_low site kept seen u.chosen in
      let finger = (place_near seen.written.slot).1 in
      record_kept site.shape (loaded kept seen) s away lock (finger_of kept.hash) seen.written (fits_slot site kept seen u.chosen at) (bucket_at site.shape s c + m)
      (λ e. omega (arith, e, l, big, low, small, slot)) (λ e. omega (arith, e, l, big, low, small, slot)) (λ e. omega (arith, e, l, big, low, small, finger))

  prepared_four : HasFour site.shape s b near (prepared kept seen) f
  prepared_four = record {
    h1 = beside b 1 near (omega arith) ∙ loaded_four.h1;
    h3 = beside b 3 near (omega arith) ∙ loaded_four.h3;
    p1 = beside (probing_of b) 1 (omega arith) (omega arith) ∙ loaded_four.p1;
    p3 = beside (probing_of b) 3 (omega arith) (omega arith) ∙ loaded_four.p3;
  }

  beside_mark : (c m : ℕ) → c < 64 → m < 32 → with_word (prepared kept seen) (here + 1) seen.written.mark (bucket_at site.shape s c + m) ≡ prepared kept seen (bucket_at site.shape s c + m)
  beside_mark c m low small =
      let big = far kept.hash seen.bucket in
      other_word site.shape (prepared kept seen) s away 1 seen.written.mark (here + 1) (bucket_near kept.hash (place_of seen.bucket)) (omega arith) refl s c m (bucket_at site.shape s c + m) (omega (arith, low)) small refl
      (λ p q r. omega (arith, q, low, big))

  changed_four : HasFour site.shape s b near (changed kept seen) f
  changed_four = subst (λ (w : Words). HasFour site.shape s b near w f) (sym changed_is) (record {
    h1 = beside_mark b 1 near (omega arith) ∙ prepared_four.h1;
    h3 = beside_mark b 3 near (omega arith) ∙ prepared_four.h3;
    p1 = beside_mark (probing_of b) 1 (omega arith) (omega arith) ∙ prepared_four.p1;
    p3 = beside_mark (probing_of b) 3 (omega arith) (omega arith) ∙ prepared_four.p3;
  })

  -- ---- what is owed
  abbrev note : OverflowNote
  note = (finger_of kept.hash, index_of seen.bucket)

  owed_notes : (owed kept seen).notes ≡ notes_four f
  owed_notes = ap (λ g. notes_of g (prepared kept seen) s b) is.shape ∙ four_notes site.shape s b near (prepared kept seen) f prepared_four

  owed_count : (owed kept seen).count ≡ overflow_count f.h1
  owed_count = ap (λ g. overflow_count (word_in g (prepared kept seen) s b 1)) is.shape ∙ ap overflow_count prepared_four.h1

  exact_four : (stashed : List OverflowNote) → AreExact (note ∷ (owed kept seen).notes) (owed kept seen).count stashed → AreExact (note ∷ notes_four f) (overflow_count f.h1) stashed
  exact_four stashed exact = subst (λ c. AreExact (note ∷ notes_four f) c stashed) owed_count (subst (λ ns. AreExact (note ∷ ns) (owed kept seen).count stashed) owed_notes exact)

  module _ (newest : Words) (is_owed : IsOwed site.shape newest (owed kept seen)) where
    few : overflow_count f.h1 < 31
    few = subst (λ c. c < 31) owed_count (few_uncounted site.shape newest s b note (owed kept seen).notes (owed kept seen).count is_owed)

    un : Notes f note n
    un = notes seen.buckets.home seen.buckets.probing (finger_of kept.hash) (index_of seen.bucket) (omega arith) (index_low seen.bucket) ((words place.Home).small 1) ((words place.Probing).small 1) few

    abbrev c : ℕ
    c = bucket_by b n.bucket

    c_low : c < buckets
    c_low = let low = by_near site.shape s b near n.bucket in omega (arith, low)

    three_loaded : (p : NoteBucket) → three_of p f ≡ slice_index (words_in seen.buckets (note_place p)) 3
    three_loaded Home = refl
    three_loaded Probing = refl

    -- ---- a store to a word of it
    module _ (w : Words) (g k : Four) (has : HasFour site.shape s b near w g) (knows : Knows (IsHere kept seen) w v) where
      holds_here : (p : Role) → IsHeld seen.held p → KnowsBucket site.shape v s (bucket_of_role kept.hash p) w
      holds_here p held = holders_find.bucket site kept.site kept.hash s seen.held w kept.change.key v (holds_all site kept is seen v u.all w knows) u.settled p held

      touches : (m x : ℕ) → (m ≡ 1) ⊎ (m ≡ 3) → core_in_bucket m x ≡ core_in_bucket m (w (bucket_at site.shape s c + m)) → m < 32
          → HasFour site.shape s b near (with_word w (bucket_at site.shape s c + m) x) k → KeepsBeside g k → TouchesNote site v w (owed kept seen) c m x
      touches m x meta core small after stays = record {
        owed = subst (λ (l : List Owed). Has (owed kept seen) l) (sym u.owes) (inl refl);
        segment = at.within;
        near = near;
        home = holds_here place.Home u.all.home;
        probing = holds_here place.Probing u.all.probing;
        bucket = by_bucket site.shape s b near n.bucket;
        meta = meta;
        same_core = core_in site.shape s c m x at.within c_low small ∙ core ∙ sym (core_in site.shape s c m (w (bucket_at site.shape s c + m)) at.within c_low small);
        neighbours = beside_kept site.shape s b near w (with_word w (bucket_at site.shape s c + m) x) g k has after stays;
      }

    exact_after : (g : Four) (w : Words) → HasFour site.shape s b near w g → IsWith f note g → (stashed : List OverflowNote) → AreExact (note ∷ (owed kept seen).notes) (owed kept seen).count stashed
        → AreExact (notes_of site.shape w s b) (overflow_count (word_in site.shape w s b 1)) stashed
    exact_after g w has with_note stashed exact =
        subst (λ ns. AreExact ns (overflow_count (word_in site.shape w s b 1)) stashed) (sym (four_notes site.shape s b near w g has))
        (subst (λ z. AreExact (notes_four g) (overflow_count z) stashed) (sym has.h1) (with_note stashed (exact_four stashed exact)))

    -- ---- the metadata word
    abbrev w0 : Words
    w0 = changed kept seen

    abbrev mark_at : ℕ
    mark_at = bucket_at site.shape s c + 1

    abbrev w1 : Words
    w1 = with_word w0 mark_at n.mark

    mark_place : lock_of kept (note_place n.bucket) + 1 ≡ mark_at
    mark_place = ap (λ l. l + 1) (note_at n.bucket)

    marked_four : HasFour site.shape s b near w1 (with_one n.bucket n.mark f)
    marked_four = store_one site.shape s b near n.bucket w0 f n.mark changed_four

    mark_core : n.mark % 2 ^ 28 ≡ w0 mark_at % 2 ^ 28
    mark_core = un.slots ∙ ap (λ z. z % 2 ^ 28) (sym (one_here site.shape s b near n.bucket w0 f changed_four))

    module _ (knows : Knows (IsHere kept seen) w0 v) where
      mark_touches : TouchesNote site v w0 (owed kept seen) c 1 n.mark
      mark_touches = touches w0 f (with_one n.bucket n.mark f) changed_four knows 1 n.mark (inl refl) mark_core (omega arith) marked_four un.first

      none_else : (t : Bool) → (slice_index (words_in seen.buckets (note_place n.bucket)) 3 == n.fingers) ≡ t → (if t then false else true) ≡ false → three_of n.bucket f ≡ n.fingers
      none_else true e off = three_loaded n.bucket ∙ eqb-true (slice_index (words_in seen.buckets (note_place n.bucket)) 3) n.fingers e
      none_else false e off = absurd (let x : true ≡ false = off in cc)

      mark_may_by : (t : Bool) → has_finger seen n ≡ t → May site (mark_kind kept seen t mark_at n.mark) v
      mark_may_by true e = (may_repay site v).part (owed kept seen) c 1 n.mark w0 mark_touches
      mark_may_by false e = (may_repay site v).last (owed kept seen) c 1 n.mark w0 mark_touches
          (λ stashed exact. exact_after (with_one n.bucket n.mark f) w1 marked_four (un.alone (none_else (slice_index (words_in seen.buckets (note_place n.bucket)) 3 == n.fingers) refl e)) stashed exact)

      mark_may : May site (note_kind kept seen Mark n) v
      mark_may = subst (λ i. May site (mark_kind kept seen (has_finger seen n) i n.mark) v) (sym mark_place) (mark_may_by (has_finger seen n) refl)

    -- ---- the word of its fingerprint
    abbrev fingers_word : ℕ
    fingers_word = bucket_at site.shape s c + 3

    fingers_place : lock_of kept (note_place n.bucket) + 3 ≡ fingers_word
    fingers_place = ap (λ l. l + 3) (note_at n.bucket)

    fingers_core : n.fingers % 2 ^ 48 ≡ w1 fingers_word % 2 ^ 48
    fingers_core = un.records ∙ ap (λ z. z % 2 ^ 48) (sym (three_stays n.bucket n.mark f))
        ∙ ap (λ z. z % 2 ^ 48) (sym (three_here site.shape s b near n.bucket w1 (with_one n.bucket n.mark f) marked_four))

    fingered_four : HasFour site.shape s b near (with_word w1 fingers_word n.fingers) (with_three n.bucket n.fingers (with_one n.bucket n.mark f))
    fingered_four = store_three site.shape s b near n.bucket w1 (with_one n.bucket n.mark f) n.fingers marked_four

    module _ (knows : Knows (IsHere kept seen) w1 v) where
      fingers_touch : TouchesNote site v w1 (owed kept seen) c 3 n.fingers
      fingers_touch = touches w1 (with_one n.bucket n.mark f) (with_three n.bucket n.fingers (with_one n.bucket n.mark f)) marked_four knows 3 n.fingers (inr refl) fingers_core (omega arith) fingered_four un.second

      fingers_may : May site (note_kind kept seen Fingers n) v
      fingers_may = subst (λ i. May site (repays i n.fingers (owed kept seen)) v) (sym fingers_place)
          ((may_repay site v).last (owed kept seen) c 3 n.fingers w1 fingers_touch
          (λ stashed exact. exact_after (with_three n.bucket n.fingers (with_one n.bucket n.mark f)) (with_word w1 fingers_word n.fingers) fingered_four un.both stashed exact))

    -- the words of each store
    marked_is : marked kept seen ≡ w1
    marked_is = ap (λ i. with_word w0 i n.mark) mark_place

    knows_mark : part ≡ Mark → Knows (IsHere kept seen) w0 v
    knows_mark e = subst (λ (q : NoteWord). Knows (IsHere kept seen) (words_of_note site kept seen q) v) e u.knows

    knows_fingers : part ≡ Fingers → Knows (IsHere kept seen) w1 v
    knows_fingers e = subst (λ w. Knows (IsHere kept seen) w v) marked_is (subst (λ (q : NoteWord). Knows (IsHere kept seen) (words_of_note site kept seen q) v) e u.knows)

    may_by : (q : NoteWord) → part ≡ q → May site (note_kind kept seen q n) v
    may_by Mark e = mark_may (knows_mark e)
    may_by Fingers e = fingers_may (knows_fingers e)

    pub note_may : May site (note_kind kept seen part n) v
    note_may = may_by part refl

    -- the store keeps the core of its word
    pub mark_same_core : core_of site.shape (lock_of kept (note_place n.bucket) + 1) (changed kept seen (lock_of kept (note_place n.bucket) + 1)) ≡ core_of site.shape (lock_of kept (note_place n.bucket) + 1) n.mark
    mark_same_core = subst (λ i. core_of site.shape i (changed kept seen i) ≡ core_of site.shape i n.mark) (sym mark_place)
        (core_in site.shape s c 1 (w0 mark_at) at.within c_low (omega arith) ∙ sym mark_core ∙ sym (core_in site.shape s c 1 n.mark at.within c_low (omega arith)))

    pub fingers_same_core : core_of site.shape (lock_of kept (note_place n.bucket) + 3) (marked kept seen (lock_of kept (note_place n.bucket) + 3)) ≡ core_of site.shape (lock_of kept (note_place n.bucket) + 3) n.fingers
    fingers_same_core = subst (λ (w : Words). core_of site.shape (lock_of kept (note_place n.bucket) + 3) (w (lock_of kept (note_place n.bucket) + 3)) ≡ core_of site.shape (lock_of kept (note_place n.bucket) + 3) n.fingers) (sym marked_is)
        (subst (λ i. core_of site.shape i (w1 i) ≡ core_of site.shape i n.fingers) (sym fingers_place)
        (core_in site.shape s c 3 (w1 fingers_word) at.within c_low (omega arith) ∙ sym fingers_core ∙ sym (core_in site.shape s c 3 n.fingers at.within c_low (omega arith))))

    -- and leaves the record in the stash
    pub hit_stays : (w : Words) (m x r k : ℕ) → m < 32 → Hit site.shape w s away r k → Hit site.shape (with_word w (lock_of kept (note_place n.bucket) + m) x) s away r k
    hit_stays w m x r k small h =
        let slot = h.slot in
        let big = far kept.hash seen.bucket in
        let low = by_near site.shape s b near n.bucket in
        subst (λ i. Hit site.shape (with_word w (i + m) x) s away r k) (sym (note_at n.bucket)) (record {
          segment = h.segment;
          bucket = h.bucket;
          slot = h.slot;
          taken = ap (allocated r) (other_word site.shape w s c m x (bucket_at site.shape s c + m) c_low small refl s away 1 (here + 1) h.bucket (omega arith) refl (λ p q e. omega (arith, q, big, low))) ∙ h.taken;
          key = other_word site.shape w s c m x (bucket_at site.shape s c + m) c_low small refl s away (4 + 2 * r) (here + 4 + 2 * r) h.bucket (omega (arith, slot)) (omega arith) (λ p q e. omega (arith, q, big, low)) ∙ h.key;
        })
