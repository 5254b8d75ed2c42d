-- Notes of readers stay notes, and noted answers right, at each kind of step at the structure.
use Rattle.std.proofs.Common.{◌≡◌, ◌≢◌, ◌⊎◌, ℕ, ◌+◌, ◌*◌, ◌%◌, ◌<◌, ◌≤◌, Bool, true, false, cond, eqb, List, set, inl, inr, refl, sym, ap, ◌∙◌, subst, arith}
use Rattle.std.proofs.lemmas.Bool.{cases_eq, eq-eqb, ne_eqb}
use Rattle.std.specs.Prelude.{suc}
use Rattle.trace.specs.Events.{Words, with_word, after}
use Rattle.trace.specs.Events.Event.{loaded, exchanged}
use Rattle.trace.proofs.Replaced.{replaced_same, replaced_other}
use Rattle.segment_head.specs.HeadWord.{version_in, state_in, depth_in, HasLiveState}
use Rattle.image_layout.specs.Places.{words_of, bucket_at}
use Rattle.sound_image.specs.Segments.{frame_of}
use Rattle.frame_facts.specs.Facts.{IsLiveSlot}
use Rattle.world.specs.Ground.{Ground, IsLockWord, IsUnder, version_of, IsCurrentIn, IsCurrentLock}
use Rattle.world.specs.Views.{Glance, View, Has, At}
use Rattle.world.specs.History.{Log}
use Rattle.world.specs.Parts.{IsPastLock, IsUnmoved, IsAnswer}
use Rattle.world.specs.Invariant.{rank, IsPastHeader, Notes, Holds}
use Rattle.world.specs.areas.Areas.{header_word}
use Rattle.world.specs.areas.Rows.{Row, marks, news, goes_live, finishes, unmarks, frees, renews, IsRow, HasForRow}
use Rattle.world.specs.areas.Kinds.{Guard, of_free_slots, guard_word, StructureKind, takes, takes_for_side, gives, finds_stale, closes, finds_free, finds_link, finds_side, finds_entry, finds_begin, reads, sets, moves, settles, settles_side, opens}
use Rattle.world.specs.areas.Asking.{MayBeNewest, MayStandBeside, MaySet, MayAt}
use Rattle.world.specs.areas.Keeping.{words_then}
use Rattle.world.proofs.basics.Grounds.{one_lock, lock_apart, lock_within, under_lock}
use Rattle.world.proofs.basics.Seats.{each}
use Rattle.world.proofs.basics.Structures.{lock_of_current, lock_no_head, one_segment}
use Rattle.world.proofs.fitting.lasting.Lasting.{same_live}
use Rattle.world.proofs.fitting.Rows.{head_near, one_head, row_live, row_version, row_slot}
use Rattle.world.proofs.mild.Steps.{guard_behind, no_head_word, in_area}

-- WHAT IS ENOUGH: a noted lock word does not fall, and while it has the noted value nothing under it changed; current segments stay so; and
-- the header of a live one is as it was, or has come further
pub record SparesNotes (site : Ground) (words us : Words) : Type 0 where
  pub rises : (n : Glance) → IsPastLock site words n → (words n.word ≤ us n.word) × (us n.word ≡ n.value → (words n.word ≡ n.value) × ((i : ℕ) → IsUnder n.word i → us i ≡ words i))
  pub currents : (s : ℕ) → IsCurrentIn site words s → IsCurrentIn site us s
  pub heads : (s : ℕ) → IsLiveSlot (frame_of site.shape words) s → IsLiveSlot (frame_of site.shape us) s
      × ((us (header_word site.shape s) ≡ words (header_word site.shape s)) ⊎ (rank (version_of site) (words (header_word site.shape s)) < rank (version_of site) (us (header_word site.shape s))))

-- a view has the notes and the answer of another, and has seen as much
pub record IsAlike (v w : View) : Type 0 where
  pub notes : w.notes ≡ v.notes
  pub answer : w.answer ≡ v.answer
  pub seen : w.seen ≡ v.seen

module _ (site : Ground) (words us : Words) (views : List View) (log : Log) (j : ℕ) (v w : View) (at : At views j v) (o : Notes site words views log) (spares : SparesNotes site words us)
    (alike : IsAlike v w) where
  before : (c : ℕ) (u : View) → At (set views j w) c u → (u' : View) × At views c u' × IsAlike u' u
  before c u a = each views j v w at (λ c u. (u' : View) × At views c u' × IsAlike u' u) (v, at, alike)
      (λ c u n a. (u, a, record { notes = refl; answer = refl; seen = refl })) c u a

  old : (n : Glance) (u u' : View) → IsAlike u' u → Has n u.notes → Has n u'.notes
  old n u u' same has = subst (λ (ns : List Glance). Has n ns) same.notes has

  same_header : (n : Glance) (d : IsPastHeader site words n)
      → (us n.word ≡ words n.word) ⊎ (rank (version_of site) (words n.word) < rank (version_of site) (us n.word))
  same_header n d = subst (λ (z : ℕ). (us z ≡ words z) ⊎ (rank (version_of site) (words z) < rank (version_of site) (us z))) (sym d.head) (spares.heads d.slot d.lives).1

  past_header : (n : Glance) → IsPastHeader site words n → IsPastHeader site us n
  past_header n d = elim (same_header n d) [
    | inl same ↦ record {
      slot = d.slot;
      head = d.head;
      lives = (spares.heads d.slot d.lives).0;
      past = subst (λ z. rank (version_of site) n.value ≤ rank (version_of site) z) (sym same) d.past;
      again = λ e. same ∙ d.again (e ∙ ap (rank (version_of site)) same);
      alone = d.alone;
    }
    | inr more ↦ record {
      slot = d.slot;
      head = d.head;
      lives = (spares.heads d.slot d.lives).0;
      past = further (rank (version_of site) n.value) (rank (version_of site) (words n.word)) (rank (version_of site) (us n.word)) d.past more;
      again = λ e. absurd (apart (rank (version_of site) n.value) (rank (version_of site) (words n.word)) (rank (version_of site) (us n.word)) d.past more e);
      alone = d.alone;
    }
  ]
    where
      further : (a b c : ℕ) → a ≤ b → b < c → a ≤ c
      further a b c le lt = omega (arith, le, lt)

      apart : (a b c : ℕ) → a ≤ b → b < c → a ≡ c → ⊥
      apart a b c le lt e = omega (arith, le, lt, e)

  past_lock : (n : Glance) → IsPastLock site words n → IsPastLock site us n
  past_lock n l = record {
    lock = (l.lock.0, l.lock.1, l.lock.2, l.lock.3, l.lock.4, spares.currents l.lock.0 l.lock.5);
    free = l.free;
    past = (let p = l.past in let r = (spares.rises n l).0 in omega (arith, p, r));
  }

  unmoved : (n : Glance) → IsPastLock site words n ⊎ IsPastHeader site words n → IsUnmoved us n → IsUnmoved words n
  unmoved n p q = elim q [
    | inl again ↦ inl again
    | inr e ↦ inr (elim p [
      | inl l ↦ ((spares.rises n l).1 e).0
      | inr d ↦ elim (same_header n d) [
        | inl same ↦ sym same ∙ e
        | inr more ↦ absurd (apart (rank (version_of site) n.value) (rank (version_of site) (words n.word)) (rank (version_of site) (us n.word)) d.past more (ap (rank (version_of site)) e))
      ]
    ])
  ]
    where
      apart : (a b c : ℕ) → a ≤ b → b < c → c ≡ a → ⊥
      apart a b c le lt e = omega (arith, le, lt, e)

  pub notes_stay : Notes site us (set views j w) log
  notes_stay = record {
    past = λ c u n a has. let b = before c u a in elim (o.past c b.0 n b.1 (old n u b.0 b.2 has)) [ inl l ↦ inl (past_lock n l) | inr d ↦ inr (past_header n d) ];
    inside = λ c u n i x a has. let b = before c u a in o.inside c b.0 n i x b.1 (old n u b.0 b.2 has);
    same = λ c u n i x a has e under. let b = before c u a in let was = old n u b.0 b.2 has in elim (o.past c b.0 n b.1 was) [
      | inl l ↦ (let r = (spares.rises n l).1 e in r.1 i (o.inside c b.0 n i x b.1 was under) ∙ o.same c b.0 n i x b.1 was r.0 under)
      | inr d ↦ absurd (d.alone i x under)
    ];
    answered = λ c u x a is all. let b = before c u a in subst (λ (z : ℕ). IsAnswer site log z x) (sym b.2.seen)
        (o.answered c b.0 x b.1 (sym b.2.answer ∙ is)
        (λ n has. unmoved n (o.past c b.0 n b.1 has) (all n (subst (λ (ns : List Glance). Has n ns) (sym b.2.notes) has))));
  }

-- ---- ranks
rank_now : (version head : ℕ) → version_in head ≡ version → rank version head ≡ 1 + (2 * depth_in head + state_in head)
rank_now version head e = ap (λ b. cond b (1 + (2 * depth_in head + state_in head)) (cond (eqb (state_in head) 1) 1 0)) (eq-eqb (version_in head) version e)

rank_old : (version head : ℕ) → version_in head ≢ version → rank version head ≡ cond (eqb (state_in head) 1) 1 0
rank_old version head n = ap (λ b. cond b (1 + (2 * depth_in head + state_in head)) (cond (eqb (state_in head) 1) 1 0)) (ne_eqb (version_in head) version n)

rank_normal : (version head : ℕ) → version_in head ≢ version → state_in head ≡ 1 → rank version head ≡ 1
rank_normal version head n e = rank_old version head n ∙ ap (λ b. cond b 1 0) (eq-eqb (state_in head) 1 e)

rank_split : (version head : ℕ) → version_in head ≢ version → state_in head ≡ 2 → rank version head ≡ 0
rank_split version head n e = rank_old version head n ∙ ap (λ b. cond b 1 0) (ne_eqb (state_in head) 1 (λ q. omega (arith, e, q)))

less : (p q a b : ℕ) → p ≡ a → q ≡ b → a < b → p < q
less p q a b e f l = omega (arith, e, f, l)

module _ (site : Ground) (words : Words) (views : List View) (j : ℕ) (v : View) (h : Holds site words views) (at : At views j v) where
  -- no header changes
  head_stays : (us : Words) → ((s : ℕ) → s < site.shape.segments → us (header_word site.shape s) ≡ words (header_word site.shape s))
      → (s : ℕ) → IsLiveSlot (frame_of site.shape words) s → IsLiveSlot (frame_of site.shape us) s
      × ((us (header_word site.shape s) ≡ words (header_word site.shape s)) ⊎ (rank (version_of site) (words (header_word site.shape s)) < rank (version_of site) (us (header_word site.shape s))))
  head_stays us same s live = (same_live site.shape words us same s live, inl (same s live.slot))

  current_stays : (us : Words) → ((s : ℕ) → s < site.shape.segments → us (header_word site.shape s) ≡ words (header_word site.shape s)) → (s : ℕ) → IsCurrentIn site words s → IsCurrentIn site us s
  current_stays us same s c = record { live = same_live site.shape words us same s c.live; current = ap version_in (same s c.live.slot) ∙ c.current }

  -- no word of the image changes
  pub beyond : (us : Words) → ((i : ℕ) → i < words_of site.shape → us i ≡ words i) → SparesNotes site words us
  beyond us same = record {
    rises = λ n l. let near = lock_within site.shape n.word (lock_of_current site words n.word l.lock) in
        let lock = same n.word (omega (arith, near)) in
        (omega (arith, lock), λ e. (sym lock ∙ e, λ i under. same i (let u = under.1 in omega (arith, near, u))));
    currents = current_stays us (λ s slot. same (header_word site.shape s) (head_near site s slot));
    heads = head_stays us (λ s slot. same (header_word site.shape s) (head_near site s slot));
  }

  guarded : (guard : Guard) (x : ℕ) → SparesNotes site words (with_word words (guard_word site.shape guard) x)
  guarded guard x = beyond _ (λ i within. replaced_other words (guard_word site.shape guard) x i (λ e. omega (arith, guard_behind site.shape guard, within, e)))

  taken : (guard : Guard) (caller : ℕ) (t : Bool) → SparesNotes site words (after (cond t (exchanged j (guard_word site.shape guard) caller) (loaded j (guard_word site.shape guard))) words)
  taken guard caller true = guarded guard caller
  taken guard caller false = beyond words (λ i _. refl)

  module _ (now : MayBeNewest site v words) (itself : MayStandBeside site v words words) where
    -- a store to a held word
    set_spares : (i x : ℕ) → MaySet site v i x → SparesNotes site words (with_word words i x)
    set_spares i x may = record {
      rises = λ n l.
          let is = lock_of_current site words n.word l.lock in
          let lock = replaced_other words i x n.word (λ e. elim may.holds [
            | inl g ↦ lock_apart site.shape g.0 n.word (h.locks.locked j v g.0 g.1.0 at g.1.1).0 is (subst (λ (z : ℕ). IsUnder g.0 z) (sym e) g.2)
            | inr a ↦ in_area site words views j v h at now itself i x may l.lock.0 l.lock.1 0 l.lock.5 l.lock.3 (omega arith) (sym e ∙ at_start (n.word) (bucket_at site.shape l.lock.0 l.lock.1) l.lock.4) a.0 a.1 a.2
          ]) in (
            omega (arith, lock),
            λ e. (
              sym lock ∙ e,
              λ m under. replaced_other words i x m (λ q. elim may.holds [
                | inl g ↦ (let k = h.locks.locked j v g.0 g.1.0 at g.1.1 in
                    let one = one_lock site.shape n.word g.0 m is k.0 under (subst (λ (z : ℕ). IsUnder g.0 z) (sym q) g.2) in
                    odd (words n.word) (words g.0) g.1.0 n.value (ap words one) k.1 k.2 (sym lock ∙ e) l.free)
                | inr a ↦ (let k = under_lock site.shape l.lock.0 l.lock.1 m (subst (λ (z : ℕ). IsUnder z m) l.lock.4 under) in
                    in_area site words views j v h at now itself i x may l.lock.0 l.lock.1 k.0 l.lock.5 l.lock.3 k.2 (sym q ∙ k.3) a.0 a.1 a.2)
              ]),
            ),
          );
      currents = current_stays (with_word words i x) heads;
      heads = head_stays (with_word words i x) heads;
    }
      where
        heads : (s : ℕ) → s < site.shape.segments → with_word words i x (header_word site.shape s) ≡ words (header_word site.shape s)
        heads s slot = replaced_other words i x (header_word site.shape s) (λ e. may.no_header s slot (sym e))

        at_start : (a b : ℕ) → a ≡ b → a ≡ b + 0
        at_start a b e = omega (arith, e)

        odd : (a b y value : ℕ) → a ≡ b → b ≡ y → y % 2 ≡ 1 → a ≡ value → value % 2 ≡ 0 → ⊥
        odd a b y value e f is g even = omega (arith, e, f, is, g, even)

    -- a row raises the rank of a live header
    row_rises : (row : Row) (s x : ℕ) → IsRow site words row s x → HasForRow site words row s v.areas → HasLiveState (words (header_word site.shape s))
        → rank (version_of site) (words (header_word site.shape s)) < rank (version_of site) x
    row_rises (marks n) s x q has live =
        let l = h.structure.fits.lock j v (bucket_at site.shape s 0) at ((h.structure.fits.whole j v s at has.0).1 0 (omega arith)) in
        let c = subst (λ (z : ℕ). IsCurrentIn site words z) (one_segment site.shape s 0 l.segment l.bucket (omega arith) l.near l.is) l.current in
        let head = words (header_word site.shape s) in
        less _ _ _ _ (rank_now (version_of site) head c.current) (rank_now (version_of site) x (q.2 ∙ c.current)) (by (depth_in head) (state_in head) (depth_in x) (state_in x) q.0.region.depth q.0.was q.0.becomes)
      where
        by : (d a e b : ℕ) → e ≡ d → a ≡ 1 → b ≡ 2 → 1 + (2 * d + a) < 1 + (2 * e + b)
        by d a e b f g k = omega (arith, f, g, k)
    row_rises (news p) s x q has live = absurd (elim live [ inl a ↦ omega (arith, a, q.0.was) | inr a ↦ omega (arith, a, q.0.was) ])
    row_rises (goes_live p) s x q has live = absurd (elim live [ inl a ↦ omega (arith, a, q.0.was) | inr a ↦ omega (arith, a, q.0.was) ])
    row_rises finishes s x q has live =
        let head = words (header_word site.shape s) in elim (cases_eq (version_in head) (version_of site)) [
          | inl e ↦ less _ _ _ _ (rank_now (version_of site) head e) (rank_now (version_of site) x (q.1 ∙ e)) (by (depth_in head) (state_in head) (depth_in x) (state_in x) q.0.depth q.0.was q.0.becomes)
          | inr n ↦ less _ _ _ _ (rank_split (version_of site) head n q.0.was) (rank_normal (version_of site) x (λ e. n (sym q.1 ∙ e)) q.0.becomes) (omega arith)
        ]
      where
        by : (d a e b : ℕ) → e ≡ d + 1 → a ≡ 2 → b ≡ 1 → 1 + (2 * d + a) < 1 + (2 * e + b)
        by d a e b f g k = omega (arith, f, g, k)
    row_rises unmarks s x q has live =
        let n = (h.structure.fits.stale j v s at has.0).1 in
        less _ _ _ _ (rank_split (version_of site) (words (header_word site.shape s)) n q.0.was) (rank_normal (version_of site) x (λ e. n (sym q.1 ∙ e)) q.0.becomes) (omega arith)
    row_rises (frees p) s x q has live = absurd (elim live [ inl a ↦ omega (arith, a, q.0.was) | inr a ↦ omega (arith, a, q.0.was) ])
    row_rises renews s x q has live =
        let n = (h.structure.fits.stale j v s at has).1 in
        less _ _ _ _ (rank_normal (version_of site) (words (header_word site.shape s)) n q.1) (rank_now (version_of site) x q.2) (by (depth_in x) (state_in x) (q.0.becomes ∙ q.1))
      where
        by : (e b : ℕ) → b ≡ 1 → 1 < 1 + (2 * e + b)
        by e b k = omega (arith, k)

    row_spares : (row : Row) (s x : ℕ) → IsRow site words row s x → HasForRow site words row s v.areas → SparesNotes site words (with_word words (header_word site.shape s) x)
    row_spares row s x is has = record {
      rises = λ n l.
          let k = lock_of_current site words n.word l.lock in
          let lock = replaced_other words (header_word site.shape s) x n.word (λ e. lock_no_head site.shape n.word s k e) in
          (omega (arith, lock), λ e. (sym lock ∙ e, λ m under. replaced_other words (header_word site.shape s) x m (λ q. no_header n.word l.lock m under q)));
      currents = λ t c. elim (cases_eq t s) [
        | inl e ↦
            let live = subst (λ (z : ℕ). HasLiveState (words (header_word site.shape z))) e c.live.live in
            let version = subst (λ (z : ℕ). version_in (words (header_word site.shape z)) ≡ version_of site) e c.current in
            subst (λ (z : ℕ). IsCurrentIn site us z) (sym e) (record {
              live = record { slot = row_slot site words s x row is; live = subst HasLiveState (sym (replaced_same words (header_word site.shape s) x)) (row_live site words s x row is live) };
              current = ap version_in (replaced_same words (header_word site.shape s) x) ∙ row_version site words s x row is live version;
            })
        | inr n ↦ (let same = replaced_other words (header_word site.shape s) x (header_word site.shape t) (λ e. n (one_head site t s e)) in
            record { live = record { slot = c.live.slot; live = subst HasLiveState (sym same) c.live.live }; current = ap version_in same ∙ c.current })
      ];
      heads = λ t l. elim (cases_eq t s) [
        | inl e ↦
            let live = subst (λ (z : ℕ). HasLiveState (words (header_word site.shape z))) e l.live in
            let new = replaced_same words (header_word site.shape s) x in
            subst (λ (z : ℕ). IsLiveSlot (frame_of site.shape us) z × ((us (header_word site.shape z) ≡ words (header_word site.shape z))
            ⊎ (rank (version_of site) (words (header_word site.shape z)) < rank (version_of site) (us (header_word site.shape z))))) (sym e) (
              record { slot = row_slot site words s x row is; live = subst HasLiveState (sym new) (row_live site words s x row is live) },
              inr (subst (λ z. rank (version_of site) (words (header_word site.shape s)) < rank (version_of site) z) (sym new) (row_rises row s x is has live)),
            )
        | inr n ↦ (let same = replaced_other words (header_word site.shape s) x (header_word site.shape t) (λ e. n (one_head site t s e)) in
            (record { slot = l.slot; live = subst HasLiveState (sym same) l.live }, inl same))
      ];
    }
      where
        us : Words
        us = with_word words (header_word site.shape s) x

        no_header : (lock : ℕ) → IsCurrentLock site words lock → (m : ℕ) → IsUnder lock m → m ≡ header_word site.shape s → ⊥
        no_header lock l m under q =
            let k = under_lock site.shape l.0 l.1 m (subst (λ (z : ℕ). IsUnder z m) l.4 under) in no_head_word site.shape l.0 l.1 k.0 l.3 k.2 s (sym k.3 ∙ q)

    -- a lock word that grows
    opened : (s lock next : ℕ) → MayAt site (opens s lock next) v → SparesNotes site words (with_word words lock next)
    opened s lock next may = record {
      rises = λ n l. let k = lock_of_current site words n.word l.lock in elim (cases_eq n.word lock) [
        | inl e ↦
            let new : with_word words lock next n.word ≡ next = ap (with_word words lock next) e ∙ replaced_same words lock next in
            let was = ap words e ∙ held.1 in (
              most (words n.word) may.2.0 next (with_word words lock next n.word) was may.2.2 new,
              λ q. absurd (passed (words n.word) may.2.0 next (with_word words lock next n.word) n.value was may.2.2 new l.past q),
            )
        | inr ne ↦
            let same = replaced_other words lock next n.word ne in
            (omega (arith, same), λ e. (sym same ∙ e, λ m under. replaced_other words lock next m (λ q. lock_apart site.shape n.word lock k held.0 (subst (λ (z : ℕ). IsUnder n.word z) q under))))
      ];
      currents = current_stays (with_word words lock next) heads;
      heads = head_stays (with_word words lock next) heads;
    }
      where
        held : IsLockWord site.shape lock × (words lock ≡ may.2.0) × (may.2.0 % 2 ≡ 1)
        held = h.locks.locked j v lock may.2.0 at may.2.1

        heads : (t : ℕ) → t < site.shape.segments → with_word words lock next (header_word site.shape t) ≡ words (header_word site.shape t)
        heads t _ = replaced_other words lock next (header_word site.shape t) (λ e. lock_no_head site.shape lock t held.0 (sym e))

        most : (a y next b : ℕ) → a ≡ y → next ≡ suc y → b ≡ next → a ≤ b
        most a y next b e f g = omega (arith, e, f, g)

        passed : (a y next b value : ℕ) → a ≡ y → next ≡ suc y → b ≡ next → value ≤ a → b ≡ value → ⊥
        passed a y next b value e f g p q = omega (arith, e, f, g, p, q)

    -- EACH KIND
    pub spares_notes : (kind : StructureKind) → MayAt site kind v → SparesNotes site words (words_then site kind j words)
    spares_notes (takes guard caller) may = taken guard caller (eqb (words (guard_word site.shape guard)) 0)
    spares_notes (takes_for_side n caller) may = taken of_free_slots caller (eqb (words (guard_word site.shape of_free_slots)) 0)
    spares_notes (gives guard) may = guarded guard 0
    spares_notes (finds_stale s version) may = beyond words (λ i _. refl)
    spares_notes (closes s i) may = beyond words (λ n _. refl)
    spares_notes (finds_free n) may = beyond words (λ i _. refl)
    spares_notes (finds_link p depth pattern) may = beyond words (λ i _. refl)
    spares_notes (finds_side p n depth pattern) may = beyond words (λ i _. refl)
    spares_notes (finds_entry e i) may = beyond words (λ n _. refl)
    spares_notes (finds_begin s) may = beyond words (λ i _. refl)
    spares_notes (reads i) may = beyond words (λ n _. refl)
    spares_notes (sets i x) may = set_spares i x may
    spares_notes (moves row s x) may = let r = may.0 words now in row_spares row s x r.0 r.1
    spares_notes (settles facts) may = beyond words (λ i _. refl)
    spares_notes (settles_side n depth pattern) may = beyond words (λ i _. refl)
    spares_notes (opens s lock next) may = opened s lock next may
