-- What a cut may leave during a close: before the marker is stored what the world may leave, and after it that or the
-- newest words with the marker.
use Rattle.std.proofs.Common.{◌≡◌, ℕ, ◌+◌, ◌/◌, ◌%◌, ◌^◌, ◌<◌, ◌≤◌, inl, inr, cond, List, length, refl, sym, ap, ◌∙◌, subst, arith}
use Rattle.std.specs.Prelude.{slice_index}
use Rattle.std.specs.FinMap.{get}
use Rattle.std.proofs.lemmas.Bool.{cases_eq, cases_lt}
use Rattle.std.proofs.lemmas.List.{get_or_past}
use Rattle.bucket_meta.specs.Bucket.{lock_bit}
use Rattle.segment_head.specs.HeadWord.{normal}
use Rattle.trace.specs.Events.{Words, Trace, with_word, value_at}
use Rattle.trace.specs.Media.{IsPossible}
use Rattle.trace.specs.Steps.{HadSinceSettled}
use Rattle.trace.proofs.Replaced.{cases_at, replaced_same}
use Rattle.trace.proofs.Moments.{value_at_now}
use Rattle.trace.proofs.Media.{had_of_may, may_of_had, newest_may}
use Rattle.image_layout.specs.Places.{Shape, IsShape, state_word, bucket_at, words_of, buckets}
use Rattle.image_layout.specs.StateWord.{with_marker, marker_in}
use Rattle.sound_image.specs.Segments.{frame_of, state_at}
use Rattle.sound_image.specs.Image.{SaysShape, IsSoundImage}
use Rattle.segment_table.specs.Claims.{HasSoundFrame}
use Rattle.bucket_words.specs.Core.{core}
use Rattle.bucket_words.specs.Standing.{IsTable}
use Rattle.bucket_words.specs.Hits.{find}
use Rattle.world.specs.Ground.{Ground, IsStructured, IsCurrentIn}
use Rattle.world.specs.Views.{Move, Owed, View, Has, At, IsLoose, HasLock}
use Rattle.world.specs.Media.{IsPossible as MayBeLeft}
use Rattle.world.specs.World.{World}
use Rattle.world.specs.areas.Areas.{Area, Whole}
use Rattle.world.specs.Invariant.{IsWatched}
use Rattle.world.proofs.basics.Tables.{same_find}
use Rattle.world.proofs.moving.media.Tying.{device_leaves_moving}
use Rattle.restart_op.specs.AtRest.{IsCurrent, IsAtRest, HasOwnRecords}
use Rattle.restart_op.specs.Closing.{close_after, AllAreQuiet, IsKept, IsClosed, CloseKeeps, CloseSettles, CloseMarks, CloseKeepsStructure}
use Rattle.restart_op.proofs.images.Frames.{IsReversioned, sound_frame, current_back, AgreeButForState, same_headers, reversioned}
use Rattle.restart_op.proofs.Currents.{current_in}
use Rattle.restart_op.proofs.images.Rules.{unmarked_rules, marked_rules}
use Rattle.restart_op.proofs.images.Pairs.{has_of_found}
use Rattle.restart_op.proofs.images.Same.{kept, same_rest, same_own}
use Rattle.restart_op.proofs.closes.CloseAlong.{changes_state_alone}
use Rattle.restart_op.proofs.closes.ClosePhases.{marked, Before, After, IsSettledNow, elsewhere, phase_at, at_end, either}

-- ---- the marker
marker_set : (x : ℕ) → with_marker x / 2 ^ 8 % 2 ≡ 1
marker_set x = cases_at (λ b. cond b x (x + 2 ^ 8) / 2 ^ 8 % 2 ≡ 1) (x / 2 ^ 8 % 2) 1 (λ e. e) (λ n. omega (arith, n))

with_marker_is : (x : ℕ) → x / 2 ^ 8 % 2 ≡ 0 → with_marker x ≡ x + 2 ^ 8
with_marker_is x clear = cases_at (λ b. cond b x (x + 2 ^ 8) ≡ x + 2 ^ 8) (x / 2 ^ 8 % 2) 1 (λ e. absurd (omega (arith, clear, e))) (λ n. refl)

past : (xs : List ℕ) (i : ℕ) → length xs ≤ i → slice_index xs i ≡ 0
past xs i away = get_or_past xs i 0 away

module _ (site : Ground) (start : Words) (world : World) (quiet : AllAreQuiet site start world) where
  abbrev shape : Shape
  shape = site.shape

  abbrev was : Words
  was = world.words

  -- ---- the world before the close
  -- no word is loose
  not_loose : (j : ℕ) (v : View) (p : ℕ × ℕ) → At world.views j v → IsLoose v p → ⊥
  not_loose j v p at l = elim l [
    | inl h ↦ subst (λ (ps : List (ℕ × ℕ)). Has p ps) (quiet.nothing j v at).dirty h
    | inr h ↦ subst (λ (ps : List (ℕ × ℕ)). Has p ps) (quiet.nothing j v at).flushed h
  ]

  cores : (m : Words) → MayBeLeft site was world.views m → (i : ℕ) → i < words_of shape → core shape m i ≡ core shape was i
  cores m p i within = elim (p i within) [ inl e ↦ e | inr e ↦ absurd (not_loose e.0 e.1 (i, e.2) e.3 e.4) ]

  -- the newest words are a table, on a sound structure
  table_now : IsTable shape was
  table_now = quiet.well.holds.media.table was (λ i within. inl refl)

  structured_now : IsStructured site was
  structured_now = quiet.well.holds.structure.sound was (λ i within. inl refl)

  -- no lock is taken, no record is under way, no note is owed, and no segment is whole
  not_locked : (lock : ℕ) (v : View) (j : ℕ) → At world.views j v → HasLock v.held lock → ⊥
  not_locked lock v j at (x, h) = subst (λ (ps : List (ℕ × ℕ)). Has (lock, x) ps) (quiet.nothing j v at).held h

  not_moving : (j : ℕ) (v : View) (m : Move) → At world.views j v → Has m v.moving → ⊥
  not_moving j v m at h = subst (λ (ms : List Move). Has m ms) (quiet.nothing j v at).moving h

  not_owed : (j : ℕ) (v : View) (o : Owed) → At world.views j v → Has o v.owed → ⊥
  not_owed j v o at h = subst (λ (os : List Owed). Has o os) (quiet.nothing j v at).owed h

  not_whole : (s j : ℕ) (v : View) → At world.views j v → Has (Whole s) v.areas → ⊥
  not_whole s j v at h = subst (λ (areas : List Area). Has (Whole s) areas) (quiet.nothing j v at).areas h

  free_now : (s b : ℕ) → IsCurrentIn site was s → b < buckets → lock_bit (was (bucket_at shape s b)) ≡ 0
  free_now s b current near = elim (cases_eq (was (bucket_at shape s b) % 2) 1) [
    | inl odd ↦ let h = quiet.well.holds.locks.odd (bucket_at shape s b) (s, b, current.live.slot, near, refl, current) odd in absurd (not_locked (bucket_at shape s b) h.1 h.0 h.2 h.3)
    | inr even ↦ unlocked (was (bucket_at shape s b)) even
  ]
    where
      unlocked : (x : ℕ) → (x % 2 ≡ 1 → ⊥) → lock_bit x ≡ 0
      unlocked x even = omega (arith, even)

  -- a current segment is watched
  watched_now : (s : ℕ) → IsCurrent shape was s → IsWatched site was world.views s
  watched_now s current = (current_in site was structured_now s current, not_whole s)

  -- so it is at rest, and owns its records
  rest_now : (s : ℕ) → IsCurrent shape was s → IsAtRest shape was s
  rest_now s current = record {
    free = λ b near. free_now s b (current_in site was structured_now s current) near;
    once = λ b r c t k h g. elim (quiet.well.holds.records.once s b r c t k (watched_now s current) h g) [
      | inl same ↦ same
      | inr m ↦ absurd (not_moving m.0 m.1 m.2 m.3 m.4)
    ];
    exact = λ b near. quiet.well.holds.notes_of_homes.exact s b (watched_now s current) near (λ j v o at h _ _. not_owed j v o at h);
  }

  own_now : HasOwnRecords shape was
  own_now s b r k current h = quiet.well.holds.records.own s b r k (watched_now s current) h

  fits_now : (i : ℕ) → was i < 2 ^ 64
  fits_now i =
      let now : value_at start world.trace (length world.trace) i ≡ was i = value_at_now start world.trace i ∙ ap (λ (ws : Words). ws i) (sym quiet.well.words_are) in
      subst (λ (n : ℕ). n < 2 ^ 64) now (quiet.fits i (length world.trace))

  -- the marker is clear
  clear_now : was state_word / 2 ^ 8 % 2 ≡ 0
  clear_now = quiet.structure.not_clean

  says_by : (medium : List ℕ) → ((i : ℕ) → i < 4 → slice_index medium i ≡ site.front i) → SaysShape shape (slice_index medium)
  says_by medium same = record {
    magic_word = same 0 (omega arith) ∙ quiet.says.magic_word;
    format = same 1 (omega arith) ∙ quiet.says.format;
    segments = same 2 (omega arith) ∙ quiet.says.segments;
    depth = same 3 (omega arith) ∙ quiet.says.depth;
  }

  -- the first four words and the state word are those of the site
  early : (i : ℕ) (word : Words) → i < 4 → IsStructured site word → word i ≡ site.front i
  early i word few structured = structured.fixed i (omega (arith, few)) (λ e. omega (arith, few, e))

  state_of : (word : Words) → IsStructured site word → word state_word ≡ site.front state_word
  state_of word structured = structured.fixed state_word (omega arith) (λ e. omega (arith, e))

  module _ (medium : List ℕ) (whole : length medium ≡ words_of shape) where
    abbrev word : Words
    word = slice_index medium

    -- ---- a medium of the world before the close
    module _ (possible : IsPossible (words_of shape) start world.trace word) where
      may_be_left : MayBeLeft site was world.views word
      may_be_left = device_leaves_moving site start world word quiet.well possible

      table_left : IsTable shape word
      table_left = quiet.well.holds.media.table word may_be_left

      structured_left : IsStructured site word
      structured_left = quiet.well.holds.structure.sound word may_be_left

      clear_left : marker_in (word state_word) ≡ 0
      clear_left = ap marker_in (state_of word structured_left ∙ sym (state_of was structured_now)) ∙ quiet.structure.not_clean

      fits_left : (i : ℕ) → word i < 2 ^ 64
      fits_left i = elim (cases_lt i (words_of shape)) [
        | inl within ↦ let h = possible i within in subst (λ (n : ℕ). n < 2 ^ 64) (sym h.is_value) (quiet.fits i h.t)
        | inr away ↦ let e = past medium i (omega (arith, whole, away)) in omega (arith, e)
      ]

      same_left : (k : ℕ) → find shape word k ≡ find shape was k
      same_left k = same_find site word was k (cores word may_be_left)

      kept_unmarked : IsKept site was medium
      kept_unmarked = record {
        sound = record {
          in_range = quiet.well.holds.site_is.shape;
          whole = whole;
          each_fits = fits_left;
          says_shape = says_by medium (λ i few. early i word few structured_left);
          follows = unmarked_rules shape word quiet.well.holds.site_is.shape structured_left.sound table_left fits_left clear_left;
        };
        same = same_left;
        pairs = λ m agree k. has_of_found shape quiet.well.holds.site_is.shape word structured_left.sound fits_left table_left k (get m k) (same_left k ∙ sym (agree k));
        front = λ i few. early i word few structured_left;
      }

    -- ---- the newest words with the marker
    module _ (newest : (i : ℕ) → i < words_of shape → word i ≡ marked shape start world.trace was i) where
      same_word : AgreeButForState shape was word
      same_word i within other = newest i within ∙ elsewhere shape start world.trace was i other

      state_left : word state_word ≡ with_marker (was state_word)
      state_left = newest state_word (omega arith) ∙ replaced_same was state_word (with_marker (was state_word))

      state_sum : word state_word ≡ was state_word + 2 ^ 8
      state_sum = state_left ∙ with_marker_is (was state_word) clear_now

      clean_left : word state_word / 2 ^ 8 % 2 ≡ 1
      clean_left = ap (λ n. n / 2 ^ 8 % 2) state_left ∙ marker_set (was state_word)

      version_left : word state_word % 2 ^ 8 ≡ was state_word % 2 ^ 8
      version_left = ap (λ n. n % 2 ^ 8) state_sum ∙ omega arith

      alike : IsReversioned shape was word
      alike = reversioned shape was word quiet.structure.frame same_word version_left

      is : IsShape shape
      is = quiet.well.holds.site_is.shape

      frame_marked : HasSoundFrame shape word
      frame_marked = sound_frame shape was word is quiet.structure.frame alike

      current_before : (s : ℕ) → IsCurrent shape word s → IsCurrent shape was s
      current_before = current_back shape was word is quiet.structure.frame alike version_left (same_headers shape was word quiet.structure.frame same_word version_left)

      takes_calls_marked : (s : ℕ) → IsCurrent shape word s → state_at (frame_of shape word) s ≡ normal
      takes_calls_marked s current = (alike.heads s current.live.slot).state ∙ quiet.structure.takes_calls s (current_before s current)

      fits_marked : (i : ℕ) → word i < 2 ^ 64
      fits_marked i = elim (cases_lt i (words_of shape)) [
        | inl within ↦ elim (cases_eq i state_word) [
          | inl at ↦ let low = fits_now state_word in let clear = clear_now in
              subst (λ (j : ℕ). word j < 2 ^ 64) (sym at) (bounded (word state_word) (was state_word) state_sum low clear)
          | inr other ↦ subst (λ (n : ℕ). n < 2 ^ 64) (sym (same_word i within other)) (fits_now i)
        ]
        | inr away ↦ let e = past medium i (omega (arith, whole, away)) in omega (arith, e)
      ]
        where
          bounded : (y x : ℕ) → y ≡ x + 2 ^ 8 → x < 2 ^ 64 → x / 2 ^ 8 % 2 ≡ 0 → y < 2 ^ 64
          bounded y x is low clear = omega arith

      rest_marked : (s : ℕ) → IsCurrent shape word s → IsAtRest shape word s
      rest_marked s current = same_rest shape was word is quiet.structure.frame alike s current.live.slot (rest_now s (current_before s current))

      table_marked : IsTable shape word
      table_marked = (kept shape was word is quiet.structure.frame alike table_now).table

      same_marked : (k : ℕ) → find shape word k ≡ find shape was k
      same_marked k = (kept shape was word is quiet.structure.frame alike table_now).pairs k

      front_marked : (i : ℕ) → i < 4 → word i ≡ site.front i
      front_marked i few = same_word i (omega (arith, few)) (λ e. omega (arith, few, e)) ∙ early i was few structured_now

      sound_marked : IsSoundImage shape medium
      sound_marked = record {
        in_range = quiet.well.holds.site_is.shape;
        whole = whole;
        each_fits = fits_marked;
        says_shape = says_by medium front_marked;
        follows = marked_rules shape word quiet.well.holds.site_is.shape frame_marked table_marked fits_marked takes_calls_marked rest_marked
            (same_own shape was word is quiet.structure.frame alike current_before own_now);
      }

      kept_marked : IsKept site was medium
      kept_marked = record {
        sound = sound_marked;
        same = same_marked;
        pairs = λ m agree k. has_of_found shape quiet.well.holds.site_is.shape word frame_marked fits_marked table_marked k (get m k) (same_marked k ∙ sym (agree k));
        front = front_marked;
      }

    -- ---- at any time
    module _ (es : Trace) (words : Words) (possible : IsPossible (words_of shape) start es word) where
      had : (i : ℕ) → i < words_of shape → HadSinceSettled start es i (word i)
      had i within = had_of_may start es i (word i) (possible i within)

      kept_before : Before shape start world.trace was words es → IsKept site was medium
      kept_before b = kept_unmarked (λ i within. may_of_had start world.trace i (word i) (b.less i (word i) (had i within)))

      newest_of : (i : ℕ) → word i ≡ was i → HadSinceSettled start world.trace i (word i)
      newest_of i e = subst (λ (n : ℕ). HadSinceSettled start world.trace i n) (sym (e ∙ ap (λ (ws : Words). ws i) quiet.well.words_are)) (newest_may start world.trace i)

      -- each word but that of the state has its newest value
      other_word : After shape start world.trace was words es → (i : ℕ) → i < words_of shape → (i ≡ state_word → ⊥) → word i ≡ was i
      other_word a i within other = elim (a.kept i (word i) within (had i within)) [
        | inl e ↦ e ∙ elsewhere shape start world.trace was i other
        | inr e ↦ e
      ]

      kept_after : After shape start world.trace was words es → IsKept site was medium
      kept_after a = elim (a.kept state_word (word state_word) (omega arith) (had state_word (omega arith))) [
        | inl new ↦ kept_marked (λ i within. elim (cases_eq i state_word) [
          | inl at ↦ subst (λ (j : ℕ). word j ≡ marked shape start world.trace was j) (sym at) new
          | inr other ↦ other_word a i within other ∙ sym (elsewhere shape start world.trace was i other)
        ])
        | inr old ↦ kept_unmarked (λ i within. may_of_had start world.trace i (word i) (newest_of i (elim (cases_eq i state_word) [
          | inl at ↦ subst (λ (j : ℕ). word j ≡ was j) (sym at) old
          | inr other ↦ other_word a i within other
        ])))
      ]

      closed_at : After shape start world.trace was words es → IsSettledNow shape start world.trace was es → IsClosed shape words medium
      closed_at a now = record {
        settled = λ i within. now i (word i) within (had i within) ∙ ap (λ (ws : Words). ws i) (sym a.words_are);
        clean = clean_left (λ i within. now i (word i) within (had i within));
        sound = sound_marked (λ i within. now i (word i) within (had i within));
      }

pub close_keeps : CloseKeeps
close_keeps site start world quiet n medium whole possible =
    let c = close_after site.shape world.words world.trace n in
    let phase = phase_at site.shape start world.trace world.words quiet.well.words_are n in
    elim (either site.shape start world.trace world.words c.op.step c.words c.trace phase) [
      | inl b ↦ kept_before site start world quiet medium whole c.trace c.words possible b
      | inr a ↦ kept_after site start world quiet medium whole c.trace c.words possible a
    ]

pub close_settles : CloseSettles
close_settles site start world quiet n done medium whole possible =
    let c = close_after site.shape world.words world.trace n in
    let end = at_end site.shape start world.trace world.words c.op.step c.words c.trace done (phase_at site.shape start world.trace world.words quiet.well.words_are n) in
    closed_at site start world quiet medium whole c.trace c.words possible end.0 end.1

pub close_marks : CloseMarks
close_marks site start world quiet n done =
    let c = close_after site.shape world.words world.trace n in
    let end = at_end site.shape start world.trace world.words c.op.step c.words c.trace done (phase_at site.shape start world.trace world.words quiet.well.words_are n) in
    end.0.words_are ∙ ap (λ x. with_word world.words state_word x) (with_marker_is (world.words state_word) (clear_now site start world quiet))

pub close_keeps_structure : CloseKeepsStructure
close_keeps_structure site start world quiet n done i _ other = changes_state_alone site.shape world.words world.trace n i other
