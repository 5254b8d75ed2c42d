-- The stores of one record: what is known and what is loose after each event, and which of them who holds the lock may take.
use Rattle.std.proofs.Common.{◌≡◌, ◌≢◌, ℕ, ◌+◌, ◌*◌, ◌/◌, ◌%◌, ◌^◌, ◌<◌, ◌≤◌, Bool, true, false, cond, eqb, List, [], ◌∷◌, ◌++◌, inl, inr, refl, sym, ap, ◌∙◌, subst, arith}
use Rattle.std.specs.Prelude.{nat_lt, if◌then◌else◌}
use Rattle.std.proofs.lemmas.Bool.{cases_Bool, cases_lt, ltb-true, eqb-false}
use Rattle.bucket_meta.specs.Bucket.{allocated, finger, record_slots}
use Rattle.bucket_meta.specs.Marks.{finger_place, with_finger}
use Rattle.bucket_meta.proofs.Fingers.{sets_low, sets_high, upper_kept}
use Rattle.trace.specs.Events.{Words, with_word, line_of}
use Rattle.trace.proofs.Replaced.{replaced_same, replaced_other}
use Rattle.image_layout.specs.Places.{Shape}
use Rattle.bucket_words.specs.Buckets.{IsTaken}
use Rattle.world.specs.declared.site.Site.{Site}
use Rattle.world.specs.Ground.{Ground, IsLockWord, IsUnder}
use Rattle.world.specs.Views.{View, Has, HasLock, IsLoose, IsGuarded}
use Rattle.world.specs.Kinds.{Kind, stores, off_line, on_line, wanted, view_after, with_store, flushes, fences}
use Rattle.world.specs.Conditions.{May}
use Rattle.world.specs.Holders.{KnowsMeta, SparesTaken}
use Rattle.world.proofs.basics.Seats.{loosened_has}
use Rattle.world.proofs.holding.Preparing.{may_prepare}
use Rattle.phase.specs.declared.role.Role.{Role}
use Rattle.phase.specs.declared.held.Held.{Held}
use Rattle.phase.specs.declared.make.Record.{Record}
use Rattle.phase.specs.declared.make.Make.{Make}
use Rattle.phase.specs.declared.make.Make.TheVariants.{Key, Value, Fingers, FlushFingers, FlushRecord, FenceRecord, Publish, FlushPublished, FencePublished}
use Rattle.phase.specs.declared.make.Made.TheVariants.{On}
use Rattle.phase.specs.Places.{lock_word}
use Rattle.phase.specs.Giving.{IsHeld, HoldsLocks}
use Rattle.phase.specs.Makes.{key_at, value_at, fingers_at, published_at, make_wanted, make_taken}
use Rattle.phase.specs.Knows.{Knows}
use Rattle.phase.specs.Making.{IsStoring, make_kind, IsNew, with_key, with_value, IsOfRecord, IsMaking, HasMade, FitsSlot, IsButStored, KeepsPlans, made_left, MakeFits, MakeKnows, MakeFalls, MakeHolds}
use Rattle.phase.proofs.locks.Giving.{held_store, held_same, held_guard}
use Rattle.phase.proofs.locks.Knowing.{known_store, known_meta}
use Rattle.phase.proofs.locks.Storing.{place_low, place_high, place_near, one_or_none, key_kept, value_kept}

-- ---- lines
off_line_is : (l : ℕ) (d : List (ℕ × ℕ)) (p : ℕ × ℕ) → Has p (off_line l d) → (line_of p.0 ≡ l → ⊥) × Has p d
off_line_is l [] p h = absurd h
off_line_is l (q ∷ d) p h = elim (cases_Bool (eqb (line_of q.0) l)) [
  | inl t ↦ (let r = off_line_is l d p (subst (λ b. Has p (cond b (off_line l d) (q ∷ off_line l d))) t h) in (r.0, inr r.1))
  | inr f ↦ elim (subst (λ b. Has p (cond b (off_line l d) (q ∷ off_line l d))) f h) [
    | inl e ↦ ((λ same. eqb-false (line_of q.0) l f (sym (ap (λ (z : ℕ × ℕ). line_of z.0) e) ∙ same)), inl e)
    | inr r ↦ (let s = off_line_is l d p r in (s.0, inr s.1))
  ]
]

module _ (lock : ℕ) (written : Record) (even : lock % 32 ≡ 0) where
  record_line : (i : ℕ) → IsOfRecord lock written i → line_of i ≡ line_of (key_at lock written)
  record_line i is = elim is [ inl e ↦ ap line_of e | inr e ↦ omega (arith, e, even) ]

  low_line : written.slot < 2 → line_of (key_at lock written) ≡ line_of (fingers_at lock written)
  low_line low = let near = place_near written.slot in let n1 = near.1 in omega (arith, even, low, n1)

lock_even : (shape : Shape) (lock : ℕ) → IsLockWord shape lock → lock % 32 ≡ 0
lock_even shape lock is = let at = is.4 in omega (arith, at)

-- ---- what is known and what is loose
module _ (shape : Shape) (publish : ℕ → ℕ → Kind) (storing : IsStoring publish) (lock : ℕ) (written : Record) (is : IsLockWord shape lock) (S : ℕ → Type 0)
    (word before : Words) (v : View) (n : ℕ) where
  abbrev Stands : Make → Type 0
  Stands make = IsMaking lock written S word before make v → HasMade lock written S word before (make_taken written.slot make) (view_after shape (make_kind publish lock written make) n v)

  fst : {p : ℕ × ℕ} {i x : ℕ} → p ≡ (i, x) → p.0 ≡ i
  fst e = ap (λ (z : ℕ × ℕ). z.0) e

  key_stands : Stands Key
  key_stands m = record {
    new = m.new;
    knows = known_store S word shape (key_at lock written) n written.key v.planned v.moving v.owed v m.knows;
    dirty = λ p h. elim (loosened_has shape (key_at lock written) n written.key v.dirty p h) [ inl e ↦ inl (fst e) | inr r ↦ absurd (m.dirty p r) ];
    flushed = m.flushed;
  }

  value_stands : Stands Value
  value_stands m = record {
    new = m.new;
    knows = known_store S (with_key lock written word) shape (value_at lock written) n written.value v.planned v.moving v.owed v m.knows;
    dirty = λ p h. elim (loosened_has shape (value_at lock written) n written.value v.dirty p h) [ inl e ↦ inr (fst e) | inr r ↦ m.dirty p r ];
    flushed = m.flushed;
  }

  fingers_stand : Stands Fingers
  fingers_stand m = record {
    new = m.new;
    knows = known_store S (with_value lock written word) shape (fingers_at lock written) n written.fingers v.planned v.moving v.owed v m.knows;
    dirty = λ p h. elim (loosened_has shape (fingers_at lock written) n written.fingers v.dirty p h) [ inl e ↦ inr (fst e) | inr r ↦ inl (m.dirty p r) ];
    flushed = m.flushed;
  }

  abbrev flushed_view : ℕ → View
  flushed_view l = record v { dirty = off_line l v.dirty; flushed = on_line l v.dirty ++ v.flushed }

  flush_by : (b : Bool) → nat_lt written.slot 2 ≡ b → IsMaking lock written S word before FlushFingers v
      → HasMade lock written S word before (if b then On FenceRecord else On FlushRecord) (flushed_view (line_of (fingers_at lock written)))
  flush_by true test m = let low = ltb-true written.slot 2 test in let even = lock_even shape lock is in record {
    new = m.new;
    knows = m.knows;
    dirty = λ p h. (let o = off_line_is (line_of (fingers_at lock written)) v.dirty p h in elim (m.dirty p o.1) [
      | inl r ↦ o.0 (record_line lock written even p.0 r ∙ low_line lock written even low)
      | inr e ↦ o.0 (ap line_of e)
    ]);
    flushed = λ p h. tt;
  }
  flush_by false test m = record {
    new = m.new;
    knows = m.knows;
    dirty = λ p h. (let o = off_line_is (line_of (fingers_at lock written)) v.dirty p h in elim (m.dirty p o.1) [ inl r ↦ r | inr e ↦ absurd (o.0 (ap line_of e)) ]);
    flushed = λ p h. tt;
  }

  flush_record_stands : Stands FlushRecord
  flush_record_stands m = let even = lock_even shape lock is in record {
    new = m.new;
    knows = m.knows;
    dirty = λ p h. (let o = off_line_is (line_of (key_at lock written)) v.dirty p h in o.0 (record_line lock written even p.0 (m.dirty p o.1)));
    flushed = λ p h. tt;
  }

  fence_record_stands : Stands FenceRecord
  fence_record_stands m = record {
    new = λ n. absurd n;
    knows = subst (λ (w : Words). Knows S w v) (sym (m.new tt)) m.knows;
    dirty = m.dirty;
    flushed = λ p h. h;
  }

  publish_stands : Stands Publish
  publish_stands m =
      let l = storing.leaves shape (published_at lock written) written.mark n v in
      subst (λ (u : View). IsMaking lock written S word before FlushPublished u) (sym l.3) (record {
        new = λ n. absurd n;
        knows = known_store S before shape (published_at lock written) n written.mark l.0 l.1 l.2 v m.knows;
        dirty = λ p h. elim (loosened_has shape (published_at lock written) n written.mark v.dirty p h) [ inl e ↦ fst e | inr r ↦ absurd (m.dirty p r) ];
        flushed = m.flushed;
      })

  flush_published_stands : Stands FlushPublished
  flush_published_stands m = record {
    new = λ n. absurd n;
    knows = m.knows;
    dirty = λ p h. (let o = off_line_is (line_of (published_at lock written)) v.dirty p h in o.0 (ap line_of (m.dirty p o.1)));
    flushed = λ p h. tt;
  }

  fence_published_stands : Stands FencePublished
  fence_published_stands m = (m.knows, λ p loose. elim loose [ inl d ↦ m.dirty p d | inr f ↦ f ])

stands : (S : ℕ → Type 0) (shape : Shape) (publish : ℕ → ℕ → Kind) → IsStoring publish → (lock : ℕ) (written : Record) → IsLockWord shape lock
    → (word before : Words) (make : Make) (v : View) (n : ℕ) → IsMaking lock written S word before make v
    → HasMade lock written S word before (make_taken written.slot make) (view_after shape (make_kind publish lock written make) n v)
stands S shape publish storing lock written is word before Key v n m = key_stands shape publish storing lock written is S word before v n m
stands S shape publish storing lock written is word before Value v n m = value_stands shape publish storing lock written is S word before v n m
stands S shape publish storing lock written is word before Fingers v n m = fingers_stand shape publish storing lock written is S word before v n m
stands S shape publish storing lock written is word before FlushFingers v n m = flush_by shape publish storing lock written is S word before v n (nat_lt written.slot 2) refl m
stands S shape publish storing lock written is word before FlushRecord v n m = flush_record_stands shape publish storing lock written is S word before v n m
stands S shape publish storing lock written is word before FenceRecord v n m = fence_record_stands shape publish storing lock written is S word before v n m
stands S shape publish storing lock written is word before Publish v n m = publish_stands shape publish storing lock written is S word before v n m
stands S shape publish storing lock written is word before FlushPublished v n m = flush_published_stands shape publish storing lock written is S word before v n m
stands S shape publish storing lock written is word before FencePublished v n m = fence_published_stands shape publish storing lock written is S word before v n m

-- ---- each event is of its kind
wants : (shape : Shape) (publish : ℕ → ℕ → Kind) → IsStoring publish → (lock : ℕ) (written : Record) (make : Make) → make_wanted lock written make ≡ wanted shape (make_kind publish lock written make)
wants shape publish storing lock written Key = refl
wants shape publish storing lock written Value = refl
wants shape publish storing lock written Fingers = refl
wants shape publish storing lock written FlushFingers = refl
wants shape publish storing lock written FlushRecord = refl
wants shape publish storing lock written FenceRecord = refl
wants shape publish storing lock written Publish = sym (storing.wants shape (published_at lock written) written.mark)
wants shape publish storing lock written FlushPublished = refl
wants shape publish storing lock written FencePublished = refl

-- ---- the stores before the change spare the slots that are taken
-- words of the same metadata as those at the first store
module _ (shape : Shape) (word w : Words) (s b lock number : ℕ) (written : Record) (f : FitsSlot shape word s b lock written number)
    (same : (n : ℕ) → 1 ≤ n → n ≤ 3 → w (lock + n) ≡ word (lock + n)) where
  abbrev slot : ℕ
  slot = written.slot

  not_slot : (t : ℕ) → IsTaken w lock t → t ≢ slot
  not_slot t taken e = one_or_none _ (subst (λ (z : ℕ). allocated z (word (lock + 1)) ≡ 1) e (ap (allocated t) (sym (same 1 (omega arith) (omega arith))) ∙ taken)) f.is_free

  -- a word of the record
  behind : (m x : ℕ) → 4 ≤ m → m < 32 → ((t : ℕ) → t ≢ slot → 4 + 2 * t ≢ m) → ((t : ℕ) → t ≢ slot → 5 + 2 * t ≢ m) → SparesTaken w lock m x
  behind m x above below keys values = record {
    from = omega (arith, above);
    inside = below;
    keys = λ t l taken. keys t (not_slot t taken);
    values = λ t l taken. values t (not_slot t taken);
    fingers = λ t l taken. ap (λ z. finger t z (with_word w (lock + m) x (lock + 3))) (replaced_other w (lock + m) x (lock + 2) (λ e. omega (arith, e, above)))
        ∙ ap (finger t (w (lock + 2))) (replaced_other w (lock + m) x (lock + 3) (λ e. omega (arith, e, above)));
    overflow = λ e. absurd (omega (arith, e, above));
  }

  pub key_spares : SparesTaken w lock (4 + 2 * slot) written.key
  key_spares = let l = f.slot in behind (4 + 2 * slot) written.key (omega arith) (omega (arith, l)) (λ t n e. n (omega (arith, e))) (λ t n e. omega (arith, e))

  pub value_spares : SparesTaken w lock (5 + 2 * slot) written.value
  value_spares = let l = f.slot in behind (5 + 2 * slot) written.value (omega arith) (omega (arith, l)) (λ t n e. omega (arith, e)) (λ t n e. n (omega (arith, e)))

  -- the word of its fingerprint
  low_spares : slot < 8 → (x : ℕ) → x ≡ with_finger (w (lock + 2)) slot number → SparesTaken w lock 2 x
  low_spares low x is = record {
    from = omega arith;
    inside = omega arith;
    keys = λ t l taken e. omega (arith, e);
    values = λ t l taken e. omega (arith, e);
    fingers = λ t l taken. ap (λ z. finger t z (with_word w (lock + 2) x (lock + 3))) (replaced_same w (lock + 2) x ∙ is)
        ∙ ap (finger t (with_finger (w (lock + 2)) slot number)) (replaced_other w (lock + 2) x (lock + 3) (λ e. omega (arith, e)))
        ∙ (sets_low (w (lock + 2)) (w (lock + 3)) slot number low f.small).others t l (not_slot t taken);
    overflow = λ e. absurd (omega (arith, e));
  }

  high_spares : 8 ≤ slot → (x : ℕ) → x ≡ with_finger (w (lock + 3)) slot number → SparesTaken w lock 3 x
  high_spares high x is = record {
    from = omega arith;
    inside = omega arith;
    keys = λ t l taken e. omega (arith, e);
    values = λ t l taken e. omega (arith, e);
    fingers = λ t l taken. ap (λ z. finger t z (with_word w (lock + 3) x (lock + 3))) (replaced_other w (lock + 3) x (lock + 2) (λ e. omega (arith, e)))
        ∙ ap (finger t (w (lock + 2))) (replaced_same w (lock + 3) x ∙ is)
        ∙ (sets_high (w (lock + 2)) (w (lock + 3)) slot number high f.slot f.small).others t l (not_slot t taken);
    overflow = λ e. ap (λ z. z / 2 ^ 48 % 2 ^ 16) is ∙ upper_kept (w (lock + 3)) slot number f.small high f.slot;
  }

  pub fingers_spare : SparesTaken w lock (finger_place slot) written.fingers
  fingers_spare = elim (cases_lt slot 8) [
    | inl low ↦
        let p = place_low slot low in
        subst (λ m. SparesTaken w lock m written.fingers) (sym p)
        (low_spares low written.fingers (f.fingers ∙ ap (λ m. with_finger (word (lock + m)) slot number) p ∙ ap (λ z. with_finger z slot number) (sym (same 2 (omega arith) (omega arith)))))
    | inr high ↦
        let p = place_high slot high in
        subst (λ m. SparesTaken w lock m written.fingers) (sym p)
        (high_spares high written.fingers (f.fingers ∙ ap (λ m. with_finger (word (lock + m)) slot number) p ∙ ap (λ z. with_finger z slot number) (sym (same 3 (omega arith) (omega arith)))))
  ]

module _ (site : Ground) (s b lock number : ℕ) (written : Record) (S : ℕ → Type 0) (word before : Words) (v : View)
    (f : FitsSlot site.shape word s b lock written number) (held : HasLock v.held lock) (covers : (i : ℕ) → IsUnder lock i → S i) where
  -- a store whose bucket's metadata is known, as the words w, and not loose
  one_may : (w : Words) (m x i : ℕ) → i ≡ lock + m → Knows S w v → ((p : ℕ × ℕ) → IsLoose v p → lock + 3 < p.0) → SparesTaken w lock m x → May site (stores i x) v
  one_may w m x i place k far spares =
      let meta : KnowsMeta site.shape v s b w =
      known_meta S w site.shape s b v (subst (λ (l : ℕ). HasLock v.held l) f.at held) k (subst (λ (l : ℕ). (i : ℕ) → IsUnder l i → S i) f.at covers)
      (subst (λ (l : ℕ). (p : ℕ × ℕ) → IsLoose v p → l + 3 < p.0) f.at far) in
      subst (λ (i : ℕ). May site (stores i x) v) (ap (λ z. z + m) (sym f.at) ∙ sym place)
      ((may_prepare site v).store s b m x w f.segment f.bucket meta (subst (λ (l : ℕ). SparesTaken w l m x) f.at spares))

  of_record_far : (i : ℕ) → IsOfRecord lock written i → lock + 3 < i
  of_record_far i is = elim is [ inl e ↦ omega (arith, e) | inr e ↦ omega (arith, e) ]

  key_may : IsMaking lock written S word before Key v → May site (stores (key_at lock written) written.key) v
  key_may m = one_may word (4 + 2 * written.slot) written.key (key_at lock written) (omega arith) m.knows
      (λ p loose. elim loose [ inl d ↦ absurd (m.dirty p d) | inr g ↦ absurd (m.flushed p g) ])
      (key_spares site.shape word word s b lock number written f (λ n from most. refl))

  value_may : IsMaking lock written S word before Value v → May site (stores (value_at lock written) written.value) v
  value_may m = one_may (with_key lock written word) (5 + 2 * written.slot) written.value (value_at lock written) (omega arith) m.knows
      (λ p loose. elim loose [ inl d ↦ of_record_far p.0 (m.dirty p d) | inr g ↦ absurd (m.flushed p g) ])
      (value_spares site.shape word (with_key lock written word) s b lock number written f (λ n from most. key_kept site.shape word s b lock number written f (lock + n) (λ e. omega (arith, e, most))))

  fingers_may : IsMaking lock written S word before Fingers v → May site (stores (fingers_at lock written) written.fingers) v
  fingers_may m = one_may (with_value lock written word) (finger_place written.slot) written.fingers (fingers_at lock written) refl m.knows
      (λ p loose. elim loose [ inl d ↦ of_record_far p.0 (m.dirty p d) | inr g ↦ absurd (m.flushed p g) ])
      (fingers_spare site.shape word (with_value lock written word) s b lock number written f
      (λ n from most. value_kept site.shape word s b lock number written f (lock + n) (λ e. omega (arith, e, most)) (λ e. omega (arith, e, most))))

may : (S : ℕ → Type 0) (site : Ground) (publish : ℕ → ℕ → Kind) (s b lock finger : ℕ) (written : Record) (word before : Words) (make : Make) (v : View)
    → (IsNew make → FitsSlot site.shape word s b lock written finger) → HasLock v.held lock → ((i : ℕ) → IsUnder lock i → S i)
    → IsMaking lock written S word before make v → make ≢ Publish → May site (make_kind publish lock written make) v
may S site publish s b lock finger written word before Key v fits held covers m other = key_may site s b lock finger written S word before v (fits tt) held covers m
may S site publish s b lock finger written word before Value v fits held covers m other = value_may site s b lock finger written S word before v (fits tt) held covers m
may S site publish s b lock finger written word before Fingers v fits held covers m other = fingers_may site s b lock finger written S word before v (fits tt) held covers m
may S site publish s b lock finger written word before FlushFingers v fits held covers m other = tt
may S site publish s b lock finger written word before FlushRecord v fits held covers m other = tt
may S site publish s b lock finger written word before FenceRecord v fits held covers m other = tt
may S site publish s b lock finger written word before Publish v fits held covers m other = absurd (other refl)
may S site publish s b lock finger written word before FlushPublished v fits held covers m other = tt
may S site publish s b lock finger written word before FencePublished v fits held covers m other = tt

-- ---- all else of the view
others : (shape : Shape) (publish : ℕ → ℕ → Kind) → IsStoring publish → (lock : ℕ) (written : Record) (make : Make) (n : ℕ) (v : View)
    → IsButStored v (view_after shape (make_kind publish lock written make) n v)
others shape publish storing lock written Key n v = refl
others shape publish storing lock written Value n v = refl
others shape publish storing lock written Fingers n v = refl
others shape publish storing lock written FlushFingers n v = refl
others shape publish storing lock written FlushRecord n v = refl
others shape publish storing lock written FenceRecord n v = refl
others shape publish storing lock written Publish n v =
    subst (λ (u : View). IsButStored v u) (sym (storing.leaves shape (published_at lock written) written.mark n v).3) refl
others shape publish storing lock written FlushPublished n v = refl
others shape publish storing lock written FencePublished n v = refl

plans : (shape : Shape) (publish : ℕ → ℕ → Kind) (lock : ℕ) (written : Record) (make : Make) (n : ℕ) (v : View) → make ≢ Publish
    → KeepsPlans v (view_after shape (make_kind publish lock written make) n v)
plans shape publish lock written Key n v other = record { planned = refl; moving = refl; owed = refl }
plans shape publish lock written Value n v other = record { planned = refl; moving = refl; owed = refl }
plans shape publish lock written Fingers n v other = record { planned = refl; moving = refl; owed = refl }
plans shape publish lock written FlushFingers n v other = record { planned = refl; moving = refl; owed = refl }
plans shape publish lock written FlushRecord n v other = record { planned = refl; moving = refl; owed = refl }
plans shape publish lock written FenceRecord n v other = record { planned = refl; moving = refl; owed = refl }
plans shape publish lock written Publish n v other = absurd (other refl)
plans shape publish lock written FlushPublished n v other = record { planned = refl; moving = refl; owed = refl }
plans shape publish lock written FencePublished n v other = record { planned = refl; moving = refl; owed = refl }

pub make_fits : MakeFits
make_fits = record { wants = wants; others = others; plans = plans }

pub make_knows : (S : ℕ → Type 0) → MakeKnows S
make_knows S = record {
  new = λ lock written word v k none. record { new = λ _. refl; knows = k; dirty = λ p h. none p (inl h); flushed = λ p h. none p (inr h) };
  change = λ lock written word before v k none. record { new = λ n. absurd n; knows = k; dirty = λ p h. none p (inl h); flushed = λ p h. none p (inr h) };
  stands = stands S;
  may = may S;
  settled = λ lock written word before v m p loose. elim loose [ inl d ↦ m.dirty p d | inr f ↦ m.flushed p f ];
}

-- ---- what is held
module _ (shape : Shape) (publish : ℕ → ℕ → Kind) (storing : IsStoring publish) (here : Site) (hash segment : ℕ) (held : Held) (place : Role) (written : Record) (n : ℕ) (v : View)
    (is : IsHeld held place) (slot : written.slot < record_slots) (from : 1 ≤ written.published) (low : written.published < 32) (h : HoldsLocks here hash segment held v) where
  abbrev at : ℕ
  at = lock_word here hash segment place

  store_holds : (j i x : ℕ) → i ≡ at + j → 1 ≤ j → j < 32 → HoldsLocks here hash segment held (with_store shape i n x v.planned v.moving v.owed v)
  store_holds j i x same above below =
      held_store here hash segment shape held v i n x v.planned v.moving v.owed h (subst (λ (z : ℕ). IsGuarded v.held z) (sym same) (held_guard here hash segment held place v h is j above below))

  flush_holds : (l : ℕ) → HoldsLocks here hash segment held (view_after shape (flushes l) n v)
  flush_holds l = held_same here hash segment held v (view_after shape (flushes l) n v) refl refl refl h

  fence_holds : HoldsLocks here hash segment held (view_after shape fences n v)
  fence_holds = held_same here hash segment held v (view_after shape fences n v) refl refl refl h

  holds_by : (make : Make) → HoldsLocks here hash segment held (view_after shape (make_kind publish at written make) n v)
  holds_by Key = store_holds (4 + 2 * written.slot) (key_at at written) written.key (omega arith) (omega arith) (omega (arith, slot))
  holds_by Value = store_holds (5 + 2 * written.slot) (value_at at written) written.value (omega arith) (omega arith) (omega (arith, slot))
  holds_by Fingers = let near = place_near written.slot in let n0 = near.0 in let n1 = near.1 in
      store_holds (finger_place written.slot) (fingers_at at written) written.fingers refl (omega (arith, n0)) (omega (arith, n1))
  holds_by FlushFingers = flush_holds (line_of (fingers_at at written))
  holds_by FlushRecord = flush_holds (line_of (key_at at written))
  holds_by FenceRecord = fence_holds
  holds_by Publish =
      let l = storing.leaves shape (published_at at written) written.mark n v in
      subst (λ (u : View). HoldsLocks here hash segment held u) (sym l.3)
      (held_store here hash segment shape held v (published_at at written) n written.mark l.0 l.1 l.2 h (held_guard here hash segment held place v h is written.published from low))
  holds_by FlushPublished = flush_holds (line_of (published_at at written))
  holds_by FencePublished = fence_holds

pub make_holds : MakeHolds
make_holds shape publish storing here hash segment held place written make n v is slot from low h = holds_by shape publish storing here hash segment held place written n v is slot from low h make

-- ---- fewer events are left
flush_falls : (b : Bool) → made_left (if b then On FenceRecord else On FlushRecord) < 6
flush_falls true = omega arith
flush_falls false = omega arith

pub make_falls : MakeFalls
make_falls slot Key = omega arith
make_falls slot Value = omega arith
make_falls slot Fingers = omega arith
make_falls slot FlushFingers = flush_falls (nat_lt slot 2)
make_falls slot FlushRecord = omega arith
make_falls slot FenceRecord = omega arith
make_falls slot Publish = omega arith
make_falls slot FlushPublished = omega arith
make_falls slot FencePublished = omega arith
