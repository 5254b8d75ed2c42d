-- A slot that is taken stays so at each kind of step, and a live segment has the image's version after it, where each has it before. Where some have
-- not: what is current stays so, nothing grows stale, and a slot that was free at the start and is taken stays taken.
use Rattle.std.proofs.Common.{◌≡◌, ◌≢◌, ◌⊎◌, ℕ, ◌+◌, ◌*◌, ◌%◌, ◌<◌, List, inl, inr, refl, sym, ap, ◌∙◌, subst, arith}
use Rattle.std.proofs.lemmas.Bool.{cases_eq}
use Rattle.trace.specs.Events.{Words, with_word}
use Rattle.trace.proofs.Replaced.{replaced_same, replaced_other}
use Rattle.segment_head.specs.HeadWord.{version_in, state_in, free, HasLiveState}
use Rattle.image_layout.specs.Places.{bucket_at, head_at}
use Rattle.world.specs.Ground.{Ground, version_of, IsCurrentIn}
use Rattle.world.specs.Views.{View, At}
use Rattle.world.specs.Invariant.{Holds}
use Rattle.world.specs.areas.Areas.{header_word}
use Rattle.world.specs.areas.Rows.{Row, marks, news, goes_live, finishes, unmarks, frees, renews, IsRow}
use Rattle.world.specs.areas.Kinds.{moves}
use Rattle.world.specs.areas.Asking.{MayAt}
use Rattle.world.specs.areas.Beginning.{IsRepaired}
use Rattle.world.specs.StepKinds.{StepKind, of_call, of_structure, MayTake}
use Rattle.world.specs.StepLaws.{words_of_step}
use Rattle.world.specs.Slots.{AllCurrent, SlotsStayTaken, StaysCurrent, NewSlotsWereFree, IsStaleSlot, CurrentStays, NothingGrowsStale, StaleStays, RenewedAreCurrent, CurrentIsRepaired, IsUsedIn, UsedStays, FreedByRepairs, FreeSlotsStayTaken}
use Rattle.world.proofs.basics.Structures.{header_is}
use Rattle.world.proofs.fitting.Rows.{one_head, row_live, row_version}
use Rattle.world.proofs.moving.Known.{grounds, newest_is}
use Rattle.world.proofs.moving.Leaving.{by_structure}
use Rattle.world.proofs.moving.Used.{used_taken, used_same, set_uses, row_uses}
use Rattle.world.proofs.calls.deeds.Spares.{calls_spare}

-- ---- what a row stores, where each live segment has the image's version
module _ (site : Ground) (words : Words) (all : AllCurrent site words) (s x : ℕ) where
  -- no slot is freed
  pub row_taken : (row : Row) → IsRow site words row s x → state_in x ≢ free
  row_taken (marks n) q e = omega (arith, q.0.becomes, e)
  row_taken (news p) q e = omega (arith, q.0.becomes, e)
  row_taken (goes_live p) q e = omega (arith, q.0.becomes, e)
  row_taken finishes q e = omega (arith, q.0.becomes, e)
  row_taken unmarks q e = omega (arith, q.0.becomes, e)
  row_taken (frees p) q e = q.2 (all p (record { slot = q.1.slot; live = inr q.1.splits }))
  row_taken renews q e = omega (arith, q.0.becomes, q.1, e)

  -- a live header has the image's version
  row_current : (row : Row) → IsRow site words row s x → HasLiveState x → version_in x ≡ version_of site
  row_current (marks n) q live = q.2 ∙ all s (record { slot = q.0.slot; live = inl q.0.was })
  row_current (news p) q live = q.2
  row_current (goes_live p) q live = q.1
  row_current finishes q live = q.1 ∙ all s (record { slot = q.0.slot; live = inr q.0.was })
  row_current unmarks q live = q.1 ∙ all s (record { slot = q.0.slot; live = inr q.0.was })
  row_current (frees p) q live = absurd (elim live [ inl e ↦ omega (arith, e, q.0.becomes) | inr e ↦ omega (arith, e, q.0.becomes) ])
  row_current renews q live = q.2

module _ (site : Ground) (words : Words) where
  -- all headers are as they were
  abbrev pub HaveHeaders : Words → Type 0
  HaveHeaders later = (s : ℕ) → s < site.shape.segments → later (header_word site.shape s) ≡ words (header_word site.shape s)

  -- after the store of one header, each is that or as it was
  by_header : (P : ℕ → Type 0) (s x t : ℕ) → (t ≡ s → P x) → (t ≢ s → P (words (header_word site.shape t))) → P (with_word words (header_word site.shape s) x (header_word site.shape t))
  by_header P s x t here apart = elim (cases_eq t s) [
    | inl e ↦ subst (λ z. P (with_word words (header_word site.shape s) x (header_word site.shape z))) (sym e) (subst P (sym (replaced_same words (header_word site.shape s) x)) (here e))
    | inr n ↦ subst P (sym (replaced_other words (header_word site.shape s) x (header_word site.shape t) (λ e. n (one_head site t s e)))) (apart n)
  ]

module _ (site : Ground) (words : Words) (views : List View) (j : ℕ) (v : View) (h : Holds site words views) (at : At views j v) (number : ℕ) where
  -- A STEP leaves all headers, or is a row
  module _ (P : Words → Type 0) (same : (later : Words) → HaveHeaders site words later → P later) where
    pub by_rows : (kind : StepKind) → MayTake site kind v
        → ((row : Row) (s x : ℕ) → kind ≡ of_structure (moves row s x) → MayAt site (moves row s x) v → P (with_word words (header_word site.shape s) x))
        → P (words_of_step site kind number words)
    by_rows (of_call kind) may row_does = same _ (λ s slot. calls_spare site words views j v kind number h at may.0 (header_word site.shape s) (header_is site.shape s slot))
    by_rows (of_structure kind) may row_does = by_structure site words views j v h at number P
        (λ later still. same later (λ s slot. still (header_word site.shape s) (header_is site.shape s slot)))
        (λ i x set. same _ (λ t slot. replaced_other words i x (header_word site.shape t) (λ e. set.no_header t slot (sym e))))
        kind may (λ row s x is moved. row_does row s x (ap of_structure is) moved)

    by_headers : ((row : Row) (s x : ℕ) → IsRow site words row s x → P (with_word words (header_word site.shape s) x)) → (kind : StepKind) → MayTake site kind v
        → P (words_of_step site kind number words)
    by_headers row_does kind may = by_rows kind may (λ row s x is moved. row_does row s x (moved.0 words (newest_is site words views h j v at)).0)

pub slots_stay_taken : SlotsStayTaken
slots_stay_taken site words views j v kind number h at may all s slot was =
    by_headers site words views j v h at number (λ later. state_in (later (header_word site.shape s)) ≢ free) (λ later same e. was (sym (ap state_in (same s slot)) ∙ e))
    (λ row t x is. by_header site words (λ head. state_in head ≢ free) t x s (λ here. row_taken site words all t x row is) (λ apart. was)) kind may

pub stays_current : StaysCurrent
stays_current site words views j v kind number h at may all =
    by_headers site words views j v h at number (AllCurrent site) (λ later same s live. ap version_in (same s live.slot)
    ∙ all s (record { slot = live.slot; live = subst HasLiveState (same s live.slot) live.live }))
    (λ row t x is s live. by_header site words (λ head. HasLiveState head → version_in head ≡ version_of site) t x s (λ here. row_current site words all t x row is)
    (λ apart l. all s (record { slot = live.slot; live = l })) live.live) kind may

pub new_slots_were_free : NewSlotsWereFree
new_slots_were_free site words views j v p s x h at may =
    let takes = (may.0 words (newest_is site words views h j v at)).0.0 in
    (takes.slot, takes.was, λ e. omega (arith, takes.becomes, e))

-- ---- where segments may be stale
module _ (site : Ground) (words : Words) (s x : ℕ) where
  -- the segment of a row's header that is stale after it was so before
  row_stale : (row : Row) → IsRow site words row s x → HasLiveState x → version_in x ≢ version_of site → IsStaleSlot site words s
  row_stale (marks n) q live old = record { live = record { slot = q.0.slot; live = inl q.0.was }; old = λ e. old (q.2 ∙ e) }
  row_stale (news p) q live old = absurd (old q.2)
  row_stale (goes_live p) q live old = absurd (old q.1)
  row_stale finishes q live old = record { live = record { slot = q.0.slot; live = inr q.0.was }; old = λ e. old (q.1 ∙ e) }
  row_stale unmarks q live old = record { live = record { slot = q.0.slot; live = inr q.0.was }; old = λ e. old (q.1 ∙ e) }
  row_stale (frees p) q live old = absurd (elim live [ inl e ↦ omega (arith, e, q.0.becomes) | inr e ↦ omega (arith, e, q.0.becomes) ])
  row_stale renews q live old = absurd (old q.2)

  -- a slot that was not free and is so after a row is the side of a stale segment
  row_freed : (row : Row) → IsRow site words row s x → state_in x ≡ free → (p : ℕ) × (row ≡ frees p) × IsStaleSlot site words p
  row_freed (marks n) q e = absurd (omega (arith, q.0.becomes, e))
  row_freed (news p) q e = absurd (omega (arith, q.0.becomes, e))
  row_freed (goes_live p) q e = absurd (omega (arith, q.0.becomes, e))
  row_freed finishes q e = absurd (omega (arith, q.0.becomes, e))
  row_freed unmarks q e = absurd (omega (arith, q.0.becomes, e))
  row_freed (frees p) q e = (p, refl, record { live = record { slot = q.1.slot; live = inr q.1.splits }; old = q.2 })
  row_freed renews q e = absurd (omega (arith, q.0.becomes, q.1, e))

-- the segment of a row's header that was stale stays so, or is renewed
row_old : (site : Ground) (words : Words) (s x : ℕ) (row : Row) → IsRow site words row s x → IsStaleSlot site words s → (HasLiveState x × (version_in x ≢ version_of site)) ⊎ (row ≡ renews)
row_old site words s x (marks n) q is = inl (inr q.0.becomes, λ e. is.old (sym q.2 ∙ e))
row_old site words s x (news p) q is = absurd (elim is.live.live [ inl e ↦ omega (arith, e, q.0.was) | inr e ↦ omega (arith, e, q.0.was) ])
row_old site words s x (goes_live p) q is = absurd (elim is.live.live [ inl e ↦ omega (arith, e, q.0.was) | inr e ↦ omega (arith, e, q.0.was) ])
row_old site words s x finishes q is = inl (inl q.0.becomes, λ e. is.old (sym q.1 ∙ e))
row_old site words s x unmarks q is = inl (inl q.0.becomes, λ e. is.old (sym q.1 ∙ e))
row_old site words s x (frees p) q is = absurd (elim is.live.live [ inl e ↦ omega (arith, e, q.0.was) | inr e ↦ omega (arith, e, q.0.was) ])
row_old site words s x renews q is = inr refl

-- a segment is current, or stale, by its header
current_by : (site : Ground) (words later : Words) (s : ℕ) → HasLiveState (later (header_word site.shape s)) → version_in (later (header_word site.shape s)) ≡ version_of site
    → IsCurrentIn site words s → IsCurrentIn site later s
current_by site words later s live version is = record { live = record { slot = is.live.slot; live = live }; current = version }

stale_by : (site : Ground) (words later : Words) (s : ℕ) → IsStaleSlot site words s → HasLiveState (later (header_word site.shape s)) → version_in (later (header_word site.shape s)) ≢ version_of site
    → IsStaleSlot site later s
stale_by site words later s is live old = record { live = record { slot = is.live.slot; live = live }; old = old }

pub current_stays : CurrentStays
current_stays site words views j v kind number h at may s is =
    by_headers site words views j v h at number (λ later. IsCurrentIn site later s)
    (λ later same. current_by site words later s (subst HasLiveState (sym (same s is.live.slot)) is.live.live) (ap version_in (same s is.live.slot) ∙ is.current) is)
    (λ row t x q.
    let k = by_header site words (λ head. HasLiveState head × (version_in head ≡ version_of site)) t x s
    (λ here. let was = subst (λ (z : ℕ). IsCurrentIn site words z) here is in (row_live site words t x row q was.live.live, row_version site words t x row q was.live.live was.current))
    (λ apart. (is.live.live, is.current)) in
    current_by site words (with_word words (header_word site.shape t) x) s k.0 k.1 is)
    kind may

pub nothing_grows_stale : NothingGrowsStale
nothing_grows_stale site words views j v kind number h at may s =
    by_headers site words views j v h at number (λ later. IsStaleSlot site later s → IsStaleSlot site words s)
    (λ later same is. record {
      live = record { slot = is.live.slot; live = subst HasLiveState (same s is.live.slot) is.live.live };
      old = λ e. is.old (ap version_in (same s is.live.slot) ∙ e);
    })
    (λ row t x q is. by_header site words (λ head. HasLiveState head → version_in head ≢ version_of site → IsStaleSlot site words s) t x s
    (λ here live old. subst (IsStaleSlot site words) (sym here) (row_stale site words t x row q live old))
    (λ apart live old. record { live = record { slot = is.live.slot; live = live }; old = old }) is.live.live is.old)
    kind may

-- the step renewed the segment
abbrev IsRenewed : StepKind → ℕ → Type 0
IsRenewed kind s = (x : ℕ) × (kind ≡ of_structure (moves renews s x))

renewed : (kind : StepKind) (row : Row) (s t x : ℕ) → kind ≡ of_structure (moves row t x) → s ≡ t → row ≡ renews → IsRenewed kind s
renewed kind row s t x is here by = (x, is ∙ ap (λ (r : Row). of_structure (moves r t x)) by ∙ ap (λ (z : ℕ). of_structure (moves renews z x)) (sym here))

pub stale_stays : StaleStays
stale_stays site words views j v kind number h at may s was =
    by_rows site words views j v h at number (λ later. IsStaleSlot site later s ⊎ IsRenewed kind s)
    (λ later same. inl (stale_by site words later s was (subst HasLiveState (sym (same s was.live.slot)) was.live.live) (λ e. was.old (sym (ap version_in (same s was.live.slot)) ∙ e)))) kind may
    (λ row t x is moved. stale_after t x (by_header site words (λ head. (HasLiveState head × (version_in head ≢ version_of site)) ⊎ IsRenewed kind s) t x s
    (λ here. renewing row t x is here moved) (λ apart. inl (was.live.live, was.old))))
  where
    stale_after : (t x : ℕ) → (HasLiveState (with_word words (header_word site.shape t) x (header_word site.shape s)) × (version_in (with_word words (header_word site.shape t) x (header_word site.shape s)) ≢ version_of site)) ⊎ IsRenewed kind s
        → IsStaleSlot site (with_word words (header_word site.shape t) x) s ⊎ IsRenewed kind s
    stale_after t x (inl k) = inl (stale_by site words (with_word words (header_word site.shape t) x) s was k.0 k.1)
    stale_after t x (inr k) = inr k

    renewing : (row : Row) (t x : ℕ) → kind ≡ of_structure (moves row t x) → s ≡ t → MayAt site (moves row t x) v → (HasLiveState x × (version_in x ≢ version_of site)) ⊎ IsRenewed kind s
    renewing row t x is here moved = elim (row_old site words t x row (moved.0 words (newest_is site words views h j v at)).0 (subst (IsStaleSlot site words) here was)) [
      | inl k ↦ inl k
      | inr k ↦ inr (renewed kind row s t x is here k)
    ]

pub renewed_are_current : RenewedAreCurrent
renewed_are_current site words views j v s x number h at may =
    let q = may.0 words (newest_is site words views h j v at) in
    let same = replaced_same words (header_word site.shape s) x in (
      record { live = record { slot = q.0.0.slot; live = inl q.0.1 }; old = (h.structure.fits.stale j v s at q.1).1 },
      record { live = record { slot = q.0.0.slot; live = inl (ap state_in same ∙ q.0.0.becomes ∙ q.0.1) }; current = ap version_in same ∙ q.0.2 },
    )

-- it is repaired too: that is asked of who renews it
module _ (site : Ground) (words : Words) (views : List View) (j : ℕ) (v : View) (s x number : ℕ) (h : Holds site words views) (at : At views j v)
    (may : MayTake site (of_structure (moves renews s x)) v) where
  abbrev later : Words
  later = words_of_step site (of_structure (moves renews s x)) number words

  -- no lock word is that of the header
  lock_apart : (f b : ℕ) → f + 32 + 32 * b ≡ f + 1 → ⊥
  lock_apart f b e = omega (arith, e)

  lock_same : (b : ℕ) → later (bucket_at site.shape s b) ≡ words (bucket_at site.shape s b)
  lock_same b = replaced_other words (header_word site.shape s) x (bucket_at site.shape s b) (lock_apart (head_at site.shape s) b)

  renewed_is_repaired : IsRepaired site later s
  renewed_is_repaired =
      let new = newest_is site words views h j v at in
      let row = (may.0 words new).0 in
      let asks = may.3 in
      record {
        normal = ap state_in (replaced_same words (header_word site.shape s) x) ∙ row.0.becomes ∙ row.1;
        in_order = asks.2 words new;
        free = λ b near. (let k = asks.1 b near in ap (λ w. w % 2) (lock_same b ∙ new.knows (bucket_at site.shape s b) k.0 k.1) ∙ k.2);
      }

pub current_is_repaired : CurrentIsRepaired
current_is_repaired site words views j v kind number h at may s was now = elim (stale_stays site words views j v kind number h at may s was) [
  | inl still ↦ absurd (still.old now.current)
  | inr by ↦ subst (λ (k : StepKind). IsRepaired site (words_of_step site k number words) s) (sym by.1)
      (renewed_is_repaired site words views j v s by.0 number h at (subst (λ (k : StepKind). MayTake site k v) by.1 may))
]

pub used_stays : UsedStays
used_stays site words views j v kind number h at may s used =
    by_parts kind may
  where
    by_parts : (kind : StepKind) → MayTake site kind v → IsUsedIn site (words_of_step site kind number words) s
    by_parts (of_call kind) may = used_same site words h.site_is (grounds site words views h).sound (words_of_step site (of_call kind) number words)
        (calls_spare site words views j v kind number h at may.0) s used
    by_parts (of_structure kind) may = by_structure site words views j v h at number (λ later. IsUsedIn site later s)
        (λ later same. used_same site words h.site_is (grounds site words views h).sound later same s used)
        (λ i x set. set_uses site words views j v h at i x s set used) kind may (λ row t x is moved. row_uses site words views j v h at row t x s moved used)

-- the step freed a slot, as the side of a stale segment
abbrev IsFreed : Ground → Words → StepKind → ℕ → Type 0
IsFreed site words kind s = (p : ℕ) × (x : ℕ) × (kind ≡ of_structure (moves (frees p) s x)) × IsStaleSlot site words p

freed : (site : Ground) (words : Words) (kind : StepKind) (row : Row) (s t x : ℕ) → kind ≡ of_structure (moves row t x) → s ≡ t → IsRow site words row t x → state_in x ≡ free
    → IsFreed site words kind s
freed site words kind row s t x is here moved now =
    let q = row_freed site words t x row moved now in
    (q.0, x, is ∙ ap (λ (r : Row). of_structure (moves r t x)) q.1 ∙ ap (λ (z : ℕ). of_structure (moves (frees q.0) z x)) (sym here), q.2)

pub freed_by_repairs : FreedByRepairs
freed_by_repairs site words views j v kind number h at may s slot was =
    by_rows site words views j v h at number (λ later. state_in (later (header_word site.shape s)) ≡ free → IsFreed site words kind s)
    (λ later same is. absurd (was (sym (ap state_in (same s slot)) ∙ is))) kind may
    (λ row t x is moved. by_header site words (λ head. state_in head ≡ free → IsFreed site words kind s) t x s
    (λ here now. freed site words kind row s t x is here (moved.0 words (newest_is site words views h j v at)).0 now) (λ apart now. absurd (was now)))

pub free_slots_stay_taken : FreeSlotsStayTaken
free_slots_stay_taken site words views j v kind number h at may s slot was some =
    used_taken site (words_of_step site kind number words) s (used_stays site words views j v kind number h at may s (h.structure.used_slots s slot was some))
