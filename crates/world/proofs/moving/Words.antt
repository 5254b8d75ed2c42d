-- Known words are the newest, and known and loose words are held by their view, at each kind of step at the structure.
use Rattle.std.proofs.Common.{◌≡◌, ◌≢◌, ◌⊎◌, ℕ, ◌+◌, ◌<◌, ◌≤◌, List, ◌∷◌, set, cond, eqb, Bool, true, false, inl, inr, refl, sym, ap, ◌∙◌, subst, arith}
use Rattle.std.specs.Prelude.{not, ◌==◌}
use Rattle.std.proofs.lemmas.Nat.{pow_pos}
use Rattle.trace.specs.Events.{Words, with_word, after}
use Rattle.trace.specs.Events.Event.{loaded, exchanged}
use Rattle.trace.proofs.Replaced.{replaced_same, replaced_other}
use Rattle.segment_head.specs.HeadWord.{version_in, state_in}
use Rattle.image_layout.specs.Places.{Shape, root_word, entry_at, words_of, bucket_at, buckets}
use Rattle.image_layout.proofs.Areas.{entry_before}
use Rattle.sound_image.specs.Segments.{frame_of}
use Rattle.frame_facts.specs.Facts.{IsLiveSlot}
use Rattle.frame_facts.specs.DeadSlots.{IsInSlot}
use Rattle.world.specs.Ground.{Ground, IsUnder}
use Rattle.world.specs.Views.{View, Has, At, IsGuarded, IsLoose}
use Rattle.world.specs.Kinds.{without, loosened}
use Rattle.world.specs.areas.Areas.{Area, Segment, Stale, Side, Free, Whole, Directory, header_word, link_word, InArea, is_side_at, is_stale_at, is_whole_at, all_but}
use Rattle.world.specs.areas.Fitting.{HoldsWord, LivesOn}
use Rattle.world.specs.areas.Rows.{Row, marks, news, goes_live, finishes, unmarks, frees, renews, HasForRow, areas_by}
use Rattle.world.specs.areas.Kinds.{Guard, of_segment, of_free_slots, of_directory, guard_word, area_of, goes_with, StructureKind, takes, takes_for_side, gives, finds_stale, closes, finds_free, finds_link, finds_side, finds_entry, finds_begin, reads, sets, moves, settles, settles_side, opens, with_guard, with_area, with_slot, is_new_side, known_without, out_of_slot, view_then, with_guard_for}
use Rattle.world.specs.areas.Asking.{IsOf, MayAt, AsksForRow}
use Rattle.world.specs.Invariant.{KnownWords, Holds}
use Rattle.world.specs.areas.Keeping.{words_then, views_then, KeepsHeldWords}
use Rattle.world.proofs.basics.Seats.{each, has_first, without_has, without_stays, loosened_has, lock_of}
use Rattle.world.proofs.holding.Beside.{newest}
use Rattle.world.proofs.fitting.OneHolder.{one_holder, side_dies, head_in_slot, link_in_slot}
use Rattle.world.proofs.fitting.Rows.{but_after}
use Rattle.world.proofs.moving.Known.{grounds, held_within, newest_is}
use Rattle.world.proofs.moving.Holding.{stale, side, free, IsHeldBy, holds_more, holds_without, holds_instead, side_word, stale_word, whole_word, segment_word, free_word, front_word, out_of_slot_has, out_of_directory_has, out_of_free_has, bucket_in_slot, under_in_slot, HasSlot, holder_has}

-- what is known and loose in a view
abbrev pub HasWords : Shape → Words → View → Type 0
HasWords shape us w = ((i x : ℕ) → Has (i, x) w.known → (us i ≡ x) × HoldsWord shape w i) × ((i x : ℕ) → IsLoose w (i, x) → HoldsWord shape w i)

pub words_law : (site : Ground) (words us : Words) (views : List View) (j : ℕ) (v w : View) → At views j v → KnownWords site words views
    → ((i : ℕ) (u : View) → i ≢ j → At views i u → (n : ℕ) → HoldsWord site.shape u n → us n ≡ words n) → HasWords site.shape us w → KnownWords site us (set views j w)
words_law site words us views j v w at o others own = record {
  knows = λ a u i x at' h. each views j v w at (λ a u. Has (i, x) u.known → (us i ≡ x) × HoldsWord site.shape u i) (λ h. own.0 i x h)
      (λ a u n at' h. let r = o.knows a u i x at' h in (others a u n at' i r.1 ∙ r.0, r.1)) a u at' h;
  loose = λ a u i x at' h. each views j v w at (λ a u. IsLoose u (i, x) → HoldsWord site.shape u i) (λ h. own.1 i x h) (λ a u n at' h. o.loose a u i x at' h) a u at' h;
}

module _ (site : Ground) (words : Words) (views : List View) (j : ℕ) (v : View) (h : Holds site words views) (at : At views j v) where
  abbrev shape : Shape
  shape = site.shape

  mine : HasWords shape words v
  mine = ((λ i x q. h.known.knows j v i x at q), (λ i x q. h.known.loose j v i x at q))

  calm : (w : View) → HasWords shape words w → KnownWords site words (set views j w)
  calm w own = words_law site words words views j v w at h.known (λ i u n a m g. refl) own

  -- ---- a word behind the image changes
  away : (i : ℕ) (u : View) → At views i u → (g x n : ℕ) → words_of shape ≤ g → HoldsWord shape u n → with_word words g x n ≡ words n
  away i u a g x n behind holds = replaced_other words g x n (λ e. let w = held_within site words views h i u n a holds in omega (arith, w, e, behind))

  pub behind_image : (guard : Guard) → words_of shape ≤ guard_word shape guard
  behind_image (of_segment s) = by (words_of shape) s
    where
      by : (w s : ℕ) → w ≤ w + 4 + s
      by w s = omega arith
  behind_image of_free_slots = by (words_of shape)
    where
      by : (w : ℕ) → w ≤ w + 2
      by w = omega arith
  behind_image of_directory = by (words_of shape)
    where
      by : (w : ℕ) → w ≤ w + 3
      by w = omega arith

  guard_changes : (guard : Guard) (x : ℕ) (w : View) → HasWords shape (with_word words (guard_word shape guard) x) w
      → KnownWords site (with_word words (guard_word shape guard) x) (set views j w)
  guard_changes guard x w own = words_law site words (with_word words (guard_word shape guard) x) views j v w at h.known
      (λ i u ne a n g. away i u a (guard_word shape guard) x n (behind_image guard) g) own

  taken : (guard : Guard) (c : ℕ) → (t : Bool)
      → KnownWords site (after (cond t (exchanged j (guard_word shape guard) c) (loaded j (guard_word shape guard))) words) (set views j (with_guard t guard v))
  taken guard c true = guard_changes guard c (with_guard true guard v) (
    (λ i x q. (let r = mine.0 i x q in
        (away j v at (guard_word shape guard) c i (behind_image guard) r.1 ∙ r.0, holds_more shape i v.held v.areas (area_of guard ∷ v.areas) (λ a k. inr k) r.1))),
    (λ i x q. holds_more shape i v.held v.areas (area_of guard ∷ v.areas) (λ a k. inr k) (mine.1 i x q)),
  )
  taken guard c false = calm v mine

  -- the words that go with a guard
  goes_word : (guard : Guard) (n : ℕ) (a : Area) → Has a v.areas → goes_with guard a ≡ true → InArea shape a n → IsOf shape v guard n
  goes_word (of_segment s) n a has t w = segment_word shape n s a t w
  goes_word of_free_slots n a has t w = let q = free_word shape n a t w in (q.0, subst (λ (z : Area). Has z v.areas) q.1 has, q.2)
  goes_word of_directory n a has t w = front_word shape n a t w

  known_left : (guard : Guard) (n y : ℕ) → Has (n, y) (known_without shape guard v.areas v.known) → (IsOf shape v guard n → ⊥) × Has (n, y) v.known
  known_left (of_segment s) n y q = out_of_slot_has shape n s y v.known q
  known_left of_free_slots n y q = let r = out_of_free_has shape n y v.areas v.known q in ((λ o. r.0 o.0 o.1 o.2), r.1)
  known_left of_directory n y q = out_of_directory_has shape n y v.known q

  -- a word that does not go with the guard is held without it
  left_holds : (guard : Guard) (n : ℕ) → (IsOf shape v guard n → ⊥) → HoldsWord shape v n → IsHeldBy shape v.held (all_but (goes_with guard) v.areas) n
  left_holds guard n none (inl g) = inl g
  left_holds guard n none (inr q) = still_held guard n none q.0 q.1 q.2
    where
      still_held : (guard : Guard) (n : ℕ) → (IsOf shape v guard n → ⊥) → (a : Area) → Has a v.areas → InArea shape a n → IsHeldBy shape v.held (all_but (goes_with guard) v.areas) n
      still_held guard n none a has w = by_test (goes_with guard a) refl
        where
          by_test : (t : Bool) → goes_with guard a ≡ t → IsHeldBy shape v.held (all_but (goes_with guard) v.areas) n
          by_test true e = absurd (none (goes_word guard n a has e w))
          by_test false e = inr (a, but_after (goes_with guard) v.areas a has e, w)

  given : (guard : Guard) → ((p : ℕ × ℕ) → IsLoose v p → IsOf shape v guard p.0 → ⊥)
      → KnownWords site (with_word words (guard_word shape guard) 0) (set views j (view_then shape (gives guard) (words (guard_word shape guard)) v))
  given guard firm = guard_changes guard 0 _ (
    (λ n y q. (let o = known_left guard n y q in let r = mine.0 n y o.1 in
        (away j v at (guard_word shape guard) 0 n (behind_image guard) r.1 ∙ r.0, left_holds guard n o.0 r.1))),
    (λ n y q. left_holds guard n (firm (n, y) q) (mine.1 n y q)),
  )

  -- ---- an area is found
  found : (t : Bool) (a : Area) (i : ℕ) → IsHeldBy shape v.held (a ∷ v.areas) i → HasWords shape words (with_area t a i (words i) v)
  found true a i holds = (
    (λ n y q. elim (has_first i (words i) n y v.known q) [
      | inl e ↦ (ap words e.0 ∙ sym e.1, subst (λ (m : ℕ). IsHeldBy shape v.held (a ∷ v.areas) m) (sym e.0) holds)
      | inr r ↦ (let k = mine.0 n y r in (k.0, holds_more shape n v.held v.areas (a ∷ v.areas) (λ b z. inr z) k.1))
    ]),
    (λ n y q. holds_more shape n v.held v.areas (a ∷ v.areas) (λ b z. inr z) (mine.1 n y q)),
  )
  found false a i holds = mine

  found_slot : (t : Bool) (m : ℕ) → HasWords shape words (with_slot t m (header_word shape m) (words (header_word shape m)) v)
  found_slot true m = found true (Free m) (header_word shape m) (inr (Free m, inl refl, head_in_slot shape m))
  found_slot false m = mine

  -- ---- a held word is loaded
  read : (i : ℕ) → HoldsWord shape v i → HasWords shape words (record v { known = (i, words i) ∷ v.known })
  read i holds = (
    (λ n y q. elim (has_first i (words i) n y v.known q) [
      | inl e ↦ (ap words e.0 ∙ sym e.1, subst (λ (m : ℕ). HoldsWord shape v m) (sym e.0) holds)
      | inr r ↦ mine.0 n y r
    ]),
    mine.1,
  )

  -- an entry of the root's area is a word of the directory
  entry_held : (e i : ℕ) → MayAt site (finds_entry e i) v → HoldsWord shape v (entry_at e i)
  entry_held e i may =
      let root : words root_word ≡ e = (h.known.knows j v root_word e at may.1).0 in
      let low : words root_word ≤ shape.depth = (grounds site words views h).sound.root in
      inr (Directory, may.0, inr (omega (arith, pow_pos e), entry_before shape e i (omega (arith, root, low)) may.2))

  -- ---- a held word is stored
  stored_by : (i x : ℕ) (w : View) → HoldsWord shape v i → HoldsWord shape w i
      → ((n y : ℕ) → Has (n, y) w.known → ((n ≡ i) × (y ≡ x)) ⊎ ((n ≢ i) × (words n ≡ y) × HoldsWord shape w n))
      → ((n y : ℕ) → IsLoose w (n, y) → (n ≡ i) ⊎ HoldsWord shape w n)
      → KnownWords site (with_word words i x) (set views j w)
  stored_by i x w g holds known loose = words_law site words (with_word words i x) views j v w at h.known
      (λ a u ne a' m g'. replaced_other words i x m
      (λ e. ne (one_holder site words views (grounds site words views h) h.structure.fits a j i u v a' at (subst (λ (n : ℕ). HoldsWord shape u n) e g') g))) (
        (λ n y q. elim (known n y q) [
          | inl e ↦ (ap (with_word words i x) e.0 ∙ (replaced_same words i x ∙ sym e.1), subst (λ (m : ℕ). HoldsWord shape w m) (sym e.0) holds)
          | inr r ↦ (replaced_other words i x n r.0 ∙ r.1, r.2)
        ]),
        (λ n y q. elim (loose n y q) [ inl e ↦ subst (λ (m : ℕ). HoldsWord shape w m) (sym e) holds | inr r ↦ r ]),
      )

  -- what is known and loose after a store, where all that was held still is
  known_then : (i x n y : ℕ) → Has (n, y) ((i, x) ∷ without i v.known) → ((n ≡ i) × (y ≡ x)) ⊎ ((n ≢ i) × Has (n, y) v.known)
  known_then i x n y q = elim (has_first i x n y (without i v.known) q) [ inl e ↦ inl e | inr r ↦ inr (without_has i n y v.known r) ]

  loose_then : (i x n y : ℕ) → Has (n, y) (loosened shape i (words i) x v.dirty) ⊎ Has (n, y) v.flushed → (n ≡ i) ⊎ IsLoose v (n, y)
  loose_then i x n y q = elim q [
    | inl d ↦ elim (loosened_has shape i (words i) x v.dirty (n, y) d) [ inl e ↦ inl (ap (λ (z : ℕ × ℕ). z.0) e) | inr r ↦ inr (inl r) ]
    | inr f ↦ inr (inr f)
  ]

  pub stored : (i x : ℕ) (areas : List Area) (w : View) → w.held ≡ v.held → w.areas ≡ areas → w.known ≡ (i, x) ∷ without i v.known → w.dirty ≡ loosened shape i (words i) x v.dirty → w.flushed ≡ v.flushed
      → HoldsWord shape v i → ((n : ℕ) → HoldsWord shape v n → IsHeldBy shape v.held areas n) → KnownWords site (with_word words i x) (set views j w)
  stored i x areas w held are known dirty flushed g more = stored_by i x w g (holds i g)
      (λ n y q. elim (known_then i x n y (subst (Has (n, y)) known q)) [ inl e ↦ inl e | inr r ↦ (let k = mine.0 n y r.1 in inr (r.0, k.0, holds n k.1)) ])
      (λ n y q. elim (loose_then i x n y (elim q [ inl d ↦ inl (subst (Has (n, y)) dirty d) | inr f ↦ inr (subst (Has (n, y)) flushed f) ])) [ inl e ↦ inl e | inr r ↦ inr (holds n (mine.1 n y r)) ])
    where
      holds : (n : ℕ) → HoldsWord shape v n → HoldsWord shape w n
      holds n k = subst (λ l. IsHeldBy shape w.held l n) (sym are) (subst (λ l. IsHeldBy shape l areas n) (sym held) (more n k))

  -- the guard of a segment is that of its header
  by_guard : (s : ℕ) → Has (Segment s) v.areas → HoldsWord shape v (header_word shape s)
  by_guard s has = inr (Segment s, has, inl refl)

  -- who has for a row what it asks holds the header
  holds_head : (row : Row) (s : ℕ) → HasForRow site words row s v.areas → HoldsWord shape v (header_word shape s)
  holds_head (marks n) s q = by_guard s (h.structure.fits.whole j v s at q.0).0
  holds_head (news p) s q = inr (Free s, q.0, head_in_slot shape s)
  holds_head (goes_live p) s q = inr (Side s, q.0, head_in_slot shape s)
  holds_head finishes s q = by_guard s q.0
  holds_head unmarks s q = by_guard s (h.structure.fits.stale j v s at q.0).0
  holds_head (frees p) s q = inr (Side s, q.0, head_in_slot shape s)
  holds_head renews s q = by_guard s (h.structure.fits.stale j v s at q).0

  -- the image's version is stored: the slot's words are held no more, but the header
  renewed : (s x : ℕ) → Has (Stale s) v.areas → ((p : ℕ × ℕ) → IsLoose v p → IsInSlot shape s p.0 → ⊥)
      → KnownWords site (with_word words (header_word shape s) x) (set views j (view_then shape (moves renews s x) (words (header_word shape s)) v))
  renewed s x has firm =
      let g = (h.structure.fits.stale j v s at has).0 in
      let still : (n : ℕ) → (IsInSlot shape s n → ⊥) → HoldsWord shape v n → IsHeldBy shape v.held (all_but (is_stale_at s) v.areas) n =
      λ n none. holds_without shape n (is_stale_at s) v.held v.areas (λ a t w. none (stale_word shape n s a t w)) in
      stored_by (header_word shape s) x _ (by_guard s g) (inr (Segment s, but_after (is_stale_at s) v.areas (Segment s) g refl, inl refl))
      (λ n y q. elim (has_first (header_word shape s) x n y (out_of_slot shape s ((header_word shape s, x) ∷ without (header_word shape s) v.known)) q) [
        | inl e ↦ inl e
        | inr r ↦ (let o = out_of_slot_has shape n s y ((header_word shape s, x) ∷ without (header_word shape s) v.known) r in
            elim (known_then (header_word shape s) x n y o.1) [ inl e ↦ inl e | inr k ↦ (let m = mine.0 n y k.1 in inr (k.0, m.0, still n o.0 m.1)) ])
      ])
      (λ n y q. elim (loose_then (header_word shape s) x n y q) [ inl e ↦ inl e | inr r ↦ inr (still n (firm (n, y) r) (mine.1 n y r)) ])

  moved : (row : Row) (s x : ℕ) → HasForRow site words row s v.areas → AsksForRow site row s x v
      → KnownWords site (with_word words (header_word shape s) x) (set views j (view_then shape (moves row s x) (words (header_word shape s)) v))
  moved (marks n) s x q ask = stored (header_word shape s) x v.areas _ refl refl refl refl refl (holds_head (marks n) s q) (λ n k. k)
  moved (news p) s x q ask = stored (header_word shape s) x (areas_by (news p) s v.areas) _ refl refl refl refl refl (holds_head (news p) s q)
      (λ n k. holds_instead shape n (is_side_at s) v.held v.areas (Side s) (λ a t w. side_word shape n s a t w) k)
  moved (goes_live p) s x q ask = stored (header_word shape s) x v.areas _ refl refl refl refl refl (holds_head (goes_live p) s q) (λ n k. k)
  moved finishes s x q ask = stored (header_word shape s) x v.areas _ refl refl refl refl refl (holds_head finishes s q) (λ n k. k)
  moved unmarks s x q ask = stored (header_word shape s) x v.areas _ refl refl refl refl refl (holds_head unmarks s q) (λ n k. k)
  moved (frees p) s x q ask = stored (header_word shape s) x (areas_by (frees p) s v.areas) _ refl refl refl refl refl (holds_head (frees p) s q)
      (λ n k. holds_instead shape n (is_side_at s) v.held v.areas (Free s) (λ a t w. side_word shape n s a t w) k)
  moved renews s x q ask = renewed s x q ask.0

  -- ---- a side is given up
  side_less : (m n : ℕ) → (IsInSlot shape m n → ⊥) → HoldsWord shape v n → IsHeldBy shape v.held (all_but (is_side_at m) v.areas) n
  side_less m n none = holds_without shape n (is_side_at m) v.held v.areas (λ a t w. none (side_word shape n m a t w))

  taken_for : (m c : ℕ) → ((p : ℕ × ℕ) → IsLoose v p → IsInSlot shape m p.0 → ⊥) → (t : Bool)
      → KnownWords site (after (cond t (exchanged j (guard_word shape of_free_slots) c) (loaded j (guard_word shape of_free_slots))) words) (set views j (with_guard_for shape t m v))
  taken_for m c firm true = taken of_free_slots c true
  taken_for m c firm false = calm (with_guard_for shape false m v) (
    (λ n y q. (let o = out_of_slot_has shape n m y v.known q in let r = mine.0 n y o.1 in (r.0, side_less m n o.0 r.1))),
    (λ n y q. side_less m n (firm (n, y) q) (mine.1 n y q)),
  )

  settled : (m depth pattern : ℕ) → ((p : ℕ × ℕ) → Has p v.dirty → IsInSlot shape m p.0 → ⊥)
      → HasWords shape words (view_then shape (settles_side m depth pattern) (words 0) v)
  settled m depth pattern firm = (
    (λ n y q. (let o = out_of_slot_has shape n m y v.known q in let r = mine.0 n y o.1 in (r.0, side_less m n o.0 r.1))),
    (λ n y q. elim q [ inl d ↦ side_less m n (firm (n, y) d) (mine.1 n y (inl d)) | inr f ↦ absurd f ]),
  )

  -- ---- a whole segment is opened
  module _ (s lock next b : ℕ) (has : Has (Whole s) v.areas) (near : b < buckets) (is : lock ≡ bucket_at shape s b) where
    lives : LivesOn site words views s
    lives = h.structure.fits.segment j v s at (h.structure.fits.whole j v s at has).0

    now : IsLiveSlot (frame_of shape words) s
    now = lives words (newest site words views)

    no_free : state_in (words (header_word shape s)) ≡ 0 → ⊥
    no_free e = elim now.live [ inl a ↦ omega (arith, a, e) | inr a ↦ omega (arith, a, e) ]

    -- nobody else holds the lock's word
    others_slot : (i : ℕ) (u : View) → At views i u → HasSlot u.areas s → i ≡ j
    others_slot i u a (stale k) = h.structure.fits.one_segment i j u v s a at (h.structure.fits.stale i u s a k).0 (h.structure.fits.whole j v s at has).0
    others_slot i u a (side k) = absurd (side_dies site words views s (h.structure.fits.side i u s a k).1 lives)
    others_slot i u a (free k) = absurd (no_free (h.structure.fits.free_slot i u s a k).2)

    others_hold : (i : ℕ) (u : View) → At views i u → HoldsWord shape u lock → i ≡ j
    others_hold i u a k = others_slot i u a (holder_has shape u.areas s b now.slot near u.held (λ other. lock_of site words views h.locks i u other a) (subst (λ (z : ℕ). HoldsWord shape u z) is k))

    in_slot : IsInSlot shape s lock
    in_slot = subst (IsInSlot shape s) (sym is) (bucket_in_slot shape s b near)

    still_guarded : (n : ℕ) → (IsInSlot shape s n → ⊥) → IsGuarded v.held n → IsGuarded (without lock v.held) n
    still_guarded n none g = (
      g.0,
      (g.1.0, without_stays lock g.0 g.1.0 v.held (λ e. none (under_in_slot shape s b n near (subst (λ (z : ℕ). IsUnder z n) (e ∙ is) g.2))) g.1.1),
      g.2,
    )

    still : (n : ℕ) → (IsInSlot shape s n → ⊥) → HoldsWord shape v n → IsHeldBy shape (without lock v.held) (all_but (is_whole_at s) v.areas) n
    still n none (inl g) = inl (still_guarded n none g)
    still n none (inr q) = holds_without shape n (is_whole_at s) (without lock v.held) v.areas (λ a t w. whole_word shape n s a t w) (inr q)

    opened : ((p : ℕ × ℕ) → IsLoose v p → IsInSlot shape s p.0 → ⊥)
        → KnownWords site (with_word words lock next) (set views j (view_then shape (opens s lock next) (words lock) v))
    opened firm = words_law site words (with_word words lock next) views j v _ at h.known
        (λ i u ne a n g. replaced_other words lock next n (λ e. ne (others_hold i u a (subst (λ (z : ℕ). HoldsWord shape u z) e g)))) (
          (λ n y q. (let o = out_of_slot_has shape n s y v.known q in let r = mine.0 n y o.1 in
              (replaced_other words lock next n (λ e. o.0 (subst (IsInSlot shape s) (sym e) in_slot)) ∙ r.0, still n o.0 r.1))),
          (λ n y q. still n (firm (n, y) q) (mine.1 n y q)),
        )

  keep : (kind : StructureKind) → MayAt site kind v → KnownWords site (words_then site kind j words) (views_then site kind j v words views)
  keep (takes guard c) may = taken guard c (eqb (words (guard_word shape guard)) 0)
  keep (takes_for_side m c) may = taken_for m c may.1 (eqb (words (guard_word shape of_free_slots)) 0)
  keep (gives guard) may = given guard may.1
  keep (finds_stale s version) may = calm _ (found (not (version_in (words (header_word shape s)) == version)) (Stale s) (header_word shape s) (inr (Stale s, inl refl, head_in_slot shape s)))
  keep (closes s i) may = calm _ (found true (Whole s) i (holds_more shape i v.held v.areas (Whole s ∷ v.areas) (λ b z. inr z) may.2))
  keep (finds_free n) may = calm _ (found_slot (state_in (words (header_word shape n)) == 0) n)
  keep (finds_link p depth pattern) may = calm _ (read (link_word shape p) (inr (Stale p, may.0.stale, link_in_slot shape p)))
  keep (finds_side p n depth pattern) may = calm _ (found (is_new_side depth pattern (words (header_word shape n))) (Side n) (header_word shape n) (inr (Side n, inl refl, head_in_slot shape n)))
  keep (finds_entry e i) may = calm _ (read (entry_at e i) (entry_held e i may))
  keep (finds_begin s) may = calm _ mine
  keep (reads i) may = calm _ (read i may)
  keep (sets i x) may = stored i x v.areas _ refl refl refl refl refl may.holds (λ n k. k)
  keep (moves row s x) may = moved row s x (may.0 words (newest_is site words views h j v at)).1 may.3
  keep (settles facts) may = calm _ (mine.0, (λ n y q. elim q [ inl d ↦ mine.1 n y (inl d) | inr f ↦ absurd f ]))
  keep (settles_side m depth pattern) may = calm _ (settled m depth pattern may.2)
  keep (opens s lock next) may = opened s lock next may.1.0 may.0 may.1.1 may.1.2 may.3

pub keeps_held_words : KeepsHeldWords
keeps_held_words site kind words views j v h at may = keep site words views j v h at kind may
