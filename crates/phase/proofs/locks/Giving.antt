-- The locks that are held, by their places, and how they are given back.
use Rattle.std.proofs.Common.{◌≡◌, ◌≢◌, ℕ, ◌+◌, ◌*◌, ◌%◌, ◌^◌, ◌<◌, ◌≤◌, Option, None, Some, List, [], ◌∷◌, ◌⊎◌, inl, inr, refl, sym, ap, ◌∙◌, subst, arith}
use Rattle.std.specs.Prelude.{if◌then◌else◌}
use Rattle.std.proofs.lemmas.Bool.{lt-ltb}
use Rattle.std.proofs.lemmas.Option.{none-some, same_Some}
use Rattle.op_core.specs.declared.want.Want.TheVariants.{Store, Done}
use Rattle.image_layout.specs.Places.{Shape, root_word, head_at, bucket_at, buckets}
use Rattle.map_model.specs.declared.call.Call.{Call}
use Rattle.world.specs.declared.site.Site.{Site}
use Rattle.world.specs.Ground.{Ground, IsLockWord, IsUnder}
use Rattle.world.specs.Views.{Move, Owed, View, Has, HasLock, IsGuarded, IsLoose}
use Rattle.world.specs.Kinds.{without, not_under, learns, with_store, wanted, view_after}
use Rattle.world.specs.Conditions.{May, IsKnownLock}
use Rattle.world.specs.Attempts.{HoldsOnly}
use Rattle.world.proofs.basics.Seats.{without_has, without_stays, not_under_has}
use Rattle.phase.specs.declared.role.Role.{Role}
use Rattle.phase.specs.declared.role.Role.TheVariants.{Home, Probing, First, Second, Next, Previous}
use Rattle.phase.specs.declared.held.Held.{Held}
use Rattle.phase.specs.Places.{bucket_of_role, lock_word}
use Rattle.phase.specs.Asked.{index}
use Rattle.phase.specs.Helds.{none_held, with_held, without_held, free_of, first_held, give_next, give_wanted_of, given_of}
use Rattle.phase.specs.Taking.{MayBeTaken}
use Rattle.phase.specs.Stands.{IsThere}
use Rattle.phase.specs.Giving.{IsLocated, IsHeld, IsQuiet, HoldsLocks, give_kind_of, lock_left, give_left, PlacesStand, HeldStands, GiveStands, GiveFalls}
use Rattle.phase.proofs.asking.Asked.{one_place, cases_place}

pub nothing_left : {X : Type 0} (l : List X) → ((p : X) → Has p l → ⊥) → l ≡ []
nothing_left [] none = refl
nothing_left (x ∷ xs) none = absurd (none x (inl refl))

-- ---- where the lock words stand
pub bucket_near : (hash : ℕ) (place : Role) → bucket_of_role hash place < buckets
bucket_near hash Home = omega arith
bucket_near hash Probing = omega arith
bucket_near hash First = omega arith
bucket_near hash Second = omega arith
bucket_near hash Next = omega arith
bucket_near hash Previous = omega arith

numbers_apart : (hash : ℕ) (place other : Role) → place ≢ other → bucket_of_role hash place ≡ bucket_of_role hash other → ⊥
numbers_apart hash Home Home n e = n refl
numbers_apart hash Home other n e = omega (arith, e)
numbers_apart hash Probing Probing n e = n refl
numbers_apart hash Probing other n e = omega (arith, e)
numbers_apart hash First First n e = n refl
numbers_apart hash First other n e = omega (arith, e)
numbers_apart hash Second Second n e = n refl
numbers_apart hash Second other n e = omega (arith, e)
numbers_apart hash Next Next n e = n refl
numbers_apart hash Next other n e = omega (arith, e)
numbers_apart hash Previous Previous n e = n refl
numbers_apart hash Previous other n e = omega (arith, e)

-- a bucket is that of one place
pub one_number : (hash : ℕ) (place other : Role) → bucket_of_role hash place ≡ bucket_of_role hash other → place ≡ other
one_number hash place other e = elim (cases_place place other) [
  | inl same ↦ same
  | inr apart ↦ absurd (numbers_apart hash place other (λ same. apart (ap index same)) e)
]

same_bucket : (f b c : ℕ) → f + 32 + 32 * b ≡ f + 32 + 32 * c → b ≡ c
same_bucket f b c e = omega (arith, e)

module _ (here : Site) (hash segment : ℕ) (within : segment < here.geometry.segments) where
  pub lock_is : (place : Role) → lock_word here hash segment place ≡ bucket_at here.geometry segment (bucket_of_role hash place)
  lock_is place = ap (λ t. if t then bucket_at here.geometry segment (bucket_of_role hash place) else root_word) (lt-ltb segment here.geometry.segments within)

  -- a lock word is that of one place
  pub one_lock_word : (place other : Role) → lock_word here hash segment place ≡ lock_word here hash segment other → place ≡ other
  one_lock_word place other e =
      one_number hash place other (same_bucket (head_at here.geometry segment) (bucket_of_role hash place) (bucket_of_role hash other) (sym (lock_is place) ∙ e ∙ lock_is other))

module _ (site : Ground) (here : Site) (hash segment : ℕ) (l : IsLocated site here segment) where
  pub within_here : segment < here.geometry.segments
  within_here = subst (λ (g : Shape). segment < g.segments) (sym l.shape) l.within

  pub lock_at : (place : Role) → lock_word here hash segment place ≡ bucket_at site.shape segment (bucket_of_role hash place)
  lock_at place = lock_is here hash segment within_here place ∙ ap (λ (g : Shape). bucket_at g segment (bucket_of_role hash place)) l.shape

  pub is_lock : (place : Role) → IsLockWord site.shape (lock_word here hash segment place)
  is_lock place = (segment, bucket_of_role hash place, l.within, bucket_near hash place, lock_at place)

  pub locks_apart : (place other : Role) → place ≢ other → lock_word here hash segment place ≢ lock_word here hash segment other
  locks_apart place other n e = n (one_lock_word here hash segment within_here place other e)

pub known_lock : (site : Ground) (here : Site) (hash segment : ℕ) (place : Role) (v : View) → here.geometry ≡ site.shape → IsThere site segment v.facts
    → IsKnownLock site v (lock_word here hash segment place)
known_lock site here hash segment place v same there =
    (segment, bucket_of_role hash place, there.within, bucket_near hash place, lock_at site here hash segment (record { shape = same; within = there.within }) place, there.lives, there.current)

pub places_stand : PlacesStand
places_stand = record { at = lock_at'; are_locks = is_lock'; are_known = known_lock; apart = apart' }
  where
    lock_at' : (site : Ground) (here : Site) (hash segment : ℕ) (place : Role) → IsLocated site here segment → lock_word here hash segment place ≡ bucket_at site.shape segment (bucket_of_role hash place)
    lock_at' site here hash segment place l = lock_at site here hash segment l place

    is_lock' : (site : Ground) (here : Site) (hash segment : ℕ) (place : Role) → IsLocated site here segment → IsLockWord site.shape (lock_word here hash segment place)
    is_lock' site here hash segment place l = is_lock site here hash segment l place

    apart' : (site : Ground) (here : Site) (hash segment : ℕ) (place other : Role) → IsLocated site here segment → place ≢ other
        → lock_word here hash segment place ≢ lock_word here hash segment other
    apart' site here hash segment place other l n = locks_apart site here hash segment l place other n

-- ---- free values
pub none_free : (place : Role) → free_of none_held place ≡ None
none_free Home = refl
none_free Probing = refl
none_free First = refl
none_free Second = refl
none_free Next = refl
none_free Previous = refl

module _ (held : Held) where
  module _ (free : ℕ) where
    pub held_this : (place : Role) → free_of (with_held place free held) place ≡ Some free
    held_this Home = refl
    held_this Probing = refl
    held_this First = refl
    held_this Second = refl
    held_this Next = refl
    held_this Previous = refl

    pub held_other : (place other : Role) → (index other ≡ index place → ⊥) → free_of (with_held place free held) other ≡ free_of held other
    held_other Home Home n = absurd (n refl)
    held_other Home other n = refl
    held_other Probing Probing n = absurd (n refl)
    held_other Probing other n = refl
    held_other First First n = absurd (n refl)
    held_other First other n = refl
    held_other Second Second n = absurd (n refl)
    held_other Second other n = refl
    held_other Next Next n = absurd (n refl)
    held_other Next other n = refl
    held_other Previous Previous n = absurd (n refl)
    held_other Previous other n = refl

    pub free_more : (place other : Role) → (free_of (with_held place free held) other ≡ Some free) ⊎ (free_of (with_held place free held) other ≡ free_of held other)
    free_more place other = elim (cases_place other place) [
      | inl e ↦ inl (subst (λ (z : Role). free_of (with_held place free held) z ≡ Some free) (sym e) (held_this place))
      | inr n ↦ inr (held_other place other n)
    ]

  gone_this : (place : Role) → free_of (without_held place held) place ≡ None
  gone_this Home = refl
  gone_this Probing = refl
  gone_this First = refl
  gone_this Second = refl
  gone_this Next = refl
  gone_this Previous = refl

  pub gone_other : (place other : Role) → (index other ≡ index place → ⊥) → free_of (without_held place held) other ≡ free_of held other
  gone_other Home Home n = absurd (n refl)
  gone_other Home other n = refl
  gone_other Probing Probing n = absurd (n refl)
  gone_other Probing other n = refl
  gone_other First First n = absurd (n refl)
  gone_other First other n = refl
  gone_other Second Second n = absurd (n refl)
  gone_other Second other n = refl
  gone_other Next Next n = absurd (n refl)
  gone_other Next other n = refl
  gone_other Previous Previous n = absurd (n refl)
  gone_other Previous other n = refl

  -- what is left of one place is of another
  pub free_less : (place other : Role) (value : ℕ) → free_of (without_held place held) other ≡ Some value → (free_of held other ≡ Some value) × (index other ≡ index place → ⊥)
  free_less place other value e = elim (cases_place other place) [
    | inl same ↦ absurd (none-some _ (sym (gone_this place) ∙ subst (λ (z : Role). free_of (without_held place held) z ≡ Some value) same e))
    | inr apart ↦ (sym (gone_other place other apart) ∙ e, apart)
  ]

  -- the lock that is given back next is held
  next_by : (h p f s n r : Option ℕ) → held.home ≡ h → held.probing ≡ p → held.first ≡ f → held.second ≡ s → held.next ≡ n → held.previous ≡ r
      → (one : Role × ℕ) → first_held h p f s n r ≡ Some one → free_of held one.0 ≡ Some one.1
  next_by (Some free) p f s n r eh ep ef es en er one e = subst (λ (z : Role × ℕ). free_of held z.0 ≡ Some z.1) (same_Some _ _ e) eh
  next_by None (Some free) f s n r eh ep ef es en er one e = subst (λ (z : Role × ℕ). free_of held z.0 ≡ Some z.1) (same_Some _ _ e) ep
  next_by None None (Some free) s n r eh ep ef es en er one e = subst (λ (z : Role × ℕ). free_of held z.0 ≡ Some z.1) (same_Some _ _ e) ef
  next_by None None None (Some free) n r eh ep ef es en er one e = subst (λ (z : Role × ℕ). free_of held z.0 ≡ Some z.1) (same_Some _ _ e) es
  next_by None None None None (Some free) r eh ep ef es en er one e = subst (λ (z : Role × ℕ). free_of held z.0 ≡ Some z.1) (same_Some _ _ e) en
  next_by None None None None None (Some free) eh ep ef es en er one e = subst (λ (z : Role × ℕ). free_of held z.0 ≡ Some z.1) (same_Some _ _ e) er
  next_by None None None None None None eh ep ef es en er one e = absurd (none-some _ e)

  pub next_free : (one : Role × ℕ) → give_next held ≡ Some one → free_of held one.0 ≡ Some one.1
  next_free one e = next_by held.home held.probing held.first held.second held.next held.previous refl refl refl refl refl refl one e

  -- and where there is none, none is
  none_by : (h p f s n r : Option ℕ) → held.home ≡ h → held.probing ≡ p → held.first ≡ f → held.second ≡ s → held.next ≡ n → held.previous ≡ r
      → first_held h p f s n r ≡ None → (place : Role) → free_of held place ≡ None
  none_by (Some x) p f s n r eh ep ef es en er e place = absurd (none-some _ (sym e))
  none_by None (Some x) f s n r eh ep ef es en er e place = absurd (none-some _ (sym e))
  none_by None None (Some x) s n r eh ep ef es en er e place = absurd (none-some _ (sym e))
  none_by None None None (Some x) n r eh ep ef es en er e place = absurd (none-some _ (sym e))
  none_by None None None None (Some x) r eh ep ef es en er e place = absurd (none-some _ (sym e))
  none_by None None None None None (Some x) eh ep ef es en er e place = absurd (none-some _ (sym e))
  none_by None None None None None None eh ep ef es en er e Home = eh
  none_by None None None None None None eh ep ef es en er e Probing = ep
  none_by None None None None None None eh ep ef es en er e First = ef
  none_by None None None None None None eh ep ef es en er e Second = es
  none_by None None None None None None eh ep ef es en er e Next = en
  none_by None None None None None None eh ep ef es en er e Previous = er

  next_none : give_next held ≡ None → (place : Role) → free_of held place ≡ None
  next_none e = none_by held.home held.probing held.first held.second held.next held.previous refl refl refl refl refl refl e

-- ---- what is held
module _ (here : Site) (hash segment : ℕ) where
  pub held_none : (v : View) → HoldsOnly [] v → HoldsLocks here hash segment none_held v
  held_none v o = record {
    has = λ place value e. absurd (none-some _ (sym (none_free place) ∙ e));
    only = λ p h. absurd (subst (λ (l : List (ℕ × ℕ)). Has p l) o.held h);
    free = λ place value e. absurd (none-some _ (sym (none_free place) ∙ e));
    known = λ p h. absurd (subst (λ (l : List (ℕ × ℕ)). Has p l) o.known h);
    areas = o.areas;
  }

  -- with one more that was not held
  module _ (held : Held) (place : Role) (free : ℕ) (v : View) (none : free_of held place ≡ None) (h : HoldsLocks here hash segment held v) where
    abbrev more : List (ℕ × ℕ)
    more = (lock_word here hash segment place, free + 1) ∷ v.held

    more_has : (other : Role) (value : ℕ) → free_of (with_held place free held) other ≡ Some value → Has (lock_word here hash segment other, value + 1) more
    more_has other value e = elim (cases_place other place) [
      | inl same ↦
          let is : free ≡ value = same_Some _ _ (sym (held_this held free place) ∙ subst (λ (z : Role). free_of (with_held place free held) z ≡ Some value) same e) in
          inl (ap (λ (z : Role). (lock_word here hash segment z, value + 1)) same ∙ ap (λ (z : ℕ). (lock_word here hash segment place, z + 1)) (sym is))
      | inr apart ↦ inr (h.has other value (sym (held_other held free place other apart) ∙ e))
    ]

    more_only : (p : ℕ × ℕ) → Has p more
        → (other : Role) × (value : ℕ) × (free_of (with_held place free held) other ≡ Some value) × (p ≡ (lock_word here hash segment other, value + 1))
    more_only p has = elim has [
      | inl e ↦ (place, free, held_this held free place, e)
      | inr r ↦
          let was = h.only p r in
          (was.0, was.1, held_other held free place was.0 (λ same. none-some _ (sym none ∙ ap (free_of held) (one_place place was.0 (sym same)) ∙ was.2)) ∙ was.2, was.3)
    ]

    pub held_more : (u : View) → MayBeTaken free → u ≡ record v { held = more } → HoldsLocks here hash segment (with_held place free held) u
    held_more u may same = subst (λ (u : View). HoldsLocks here hash segment (with_held place free held) u) (sym same) (record {
      has = more_has;
      only = more_only;
      free = λ other value e. elim (free_more held free place other) [
        | inl is ↦ subst (λ (z : ℕ). MayBeTaken z) (same_Some _ _ (sym is ∙ e)) may
        | inr was ↦ h.free other value (sym was ∙ e)
      ];
      known = λ p k. (let g = h.known p k in (g.0, (g.1.0, inr g.1.1), g.2));
      areas = h.areas;
    })

  pub held_has : (held : Held) (place : Role) (v : View) → HoldsLocks here hash segment held v → IsHeld held place → HasLock v.held (lock_word here hash segment place)
  held_has held place v h is = (is.0 + 1, h.has place is.0 is.1)

  pub held_store : (shape : Shape) (held : Held) (v : View) (i old x : ℕ) (calls : List Call) (moves : List Move) (owed : List Owed) → HoldsLocks here hash segment held v → IsGuarded v.held i
      → HoldsLocks here hash segment held (with_store shape i old x calls moves owed v)
  held_store shape held v i old x calls moves owed h guard = record {
    has = h.has;
    only = h.only;
    free = h.free;
    known = λ p k. elim k [
      | inl e ↦ subst (λ (z : ℕ × ℕ). IsGuarded v.held z.0) (sym e) guard
      | inr r ↦ h.known p (without_has i p.0 p.1 v.known r).1
    ];
    areas = h.areas;
  }

  pub held_learn : (shape : Shape) (held : Held) (v : View) (i n : ℕ) → HoldsLocks here hash segment held v → IsGuarded v.held i → HoldsLocks here hash segment held (view_after shape (learns i) n v)
  held_learn shape held v i n h guard = record {
    has = h.has;
    only = h.only;
    free = h.free;
    known = λ p k. elim k [ inl e ↦ subst (λ (z : ℕ × ℕ). IsGuarded v.held z.0) (sym e) guard | inr r ↦ h.known p r ];
    areas = h.areas;
  }

  pub held_same : (held : Held) (v u : View) → u.held ≡ v.held → u.known ≡ v.known → u.areas ≡ v.areas → HoldsLocks here hash segment held v → HoldsLocks here hash segment held u
  held_same held v u locks known areas h = record {
    has = λ place value e. subst (λ (l : List (ℕ × ℕ)). Has (lock_word here hash segment place, value + 1) l) (sym locks) (h.has place value e);
    only = λ p k. h.only p (subst (λ (l : List (ℕ × ℕ)). Has p l) locks k);
    free = h.free;
    known = λ p k. subst (λ (l : List (ℕ × ℕ)). IsGuarded l p.0) (sym locks) (h.known p (subst (λ (l : List (ℕ × ℕ)). Has p l) known k));
    areas = areas ∙ h.areas;
  }

  -- a word of a bucket whose lock is held
  pub held_guard : (held : Held) (place : Role) (v : View) → HoldsLocks here hash segment held v → IsHeld held place → (j : ℕ) → 1 ≤ j → j < 32 → IsGuarded v.held (lock_word here hash segment place + j)
  held_guard held place v h is j from low = (lock_word here hash segment place, held_has held place v h is, (omega (arith, from), omega (arith, low)))

  -- each lock that is held is that of a place
  pub held_place : (held : Held) (v : View) → HoldsLocks here hash segment held v → (lock : ℕ) → HasLock v.held lock → (place : Role) × IsHeld held place × (lock ≡ lock_word here hash segment place)
  held_place held v h lock has = let at = h.only (lock, has.0) has.1 in (at.0, (at.1, at.2), ap (λ (z : ℕ × ℕ). z.0) at.3)

pub has_not : (site : Ground) (here : Site) (hash segment : ℕ) (held : Held) (place : Role) (v : View) → IsLocated site here segment → HoldsLocks here hash segment held v
    → free_of held place ≡ None → HasLock v.held (lock_word here hash segment place) → ⊥
has_not site here hash segment held place v l h none has =
    let at = held_place here hash segment held v h (lock_word here hash segment place) has in
    locks_apart site here hash segment l place at.0 (λ same. none-some _ (sym none ∙ ap (free_of held) same ∙ at.1.1)) at.2

pub held_stands : HeldStands
held_stands = record {
  none = held_none;
  more = λ here hash segment held place free v u none may h same. held_more here hash segment held place free v none h u may same;
  has = held_has;
  store = λ shape here hash segment held v i old x calls moves owed h guard. held_store here hash segment shape held v i old x calls moves owed h guard;
  learn = λ shape here hash segment held v i n h guard. held_learn here hash segment shape held v i n h guard;
  same = held_same;
  has_not = has_not;
}

-- ---- given back
module _ (here : Site) (hash segment : ℕ) (held : Held) (v : View) (h : HoldsLocks here hash segment held v) where
  wants_by : (shape : Shape) (o : Option (Role × ℕ)) → give_next held ≡ o → give_wanted_of here hash segment o ≢ Done
      → give_wanted_of here hash segment o ≡ wanted shape (give_kind_of here hash segment o)
  wants_by shape (Some next) e asks =
      let fits = h.free next.0 next.1 (next_free held next e) in
      let low = fits.1 in
      ap (λ z. Store (lock_word here hash segment next.0) z) (omega (arith, low))
  wants_by shape None e asks = absurd (asks refl)

  no_loose : IsQuiet v → (p : ℕ × ℕ) → IsLoose v p → ⊥
  no_loose q p loose = elim loose [
    | inl d ↦ subst (λ (l : List (ℕ × ℕ)). Has p l) q.dirty d
    | inr f ↦ subst (λ (l : List (ℕ × ℕ)). Has p l) q.flushed f
  ]

  may_by : (site : Ground) → IsQuiet v → (o : Option (Role × ℕ)) → give_next held ≡ o → May site (give_kind_of here hash segment o) v
  may_by site q (Some next) e = (
    next.1 + 1,
    h.has next.0 next.1 (next_free held next e),
    (λ p loose under. no_loose q p loose),
    q.planned,
    q.moving,
    q.owed,
    omega arith,
  )
  may_by site q None e = tt

  -- without one of them
  module _ (site : Ground) (l : IsLocated site here segment) (place : Role) where
    abbrev lock : ℕ
    lock = lock_word here hash segment place

    less_has : (other : Role) (value : ℕ) → free_of (without_held place held) other ≡ Some value → Has (lock_word here hash segment other, value + 1) (without lock v.held)
    less_has other value e =
        let was = free_less held place other value e in
        without_stays lock (lock_word here hash segment other) (value + 1) v.held (λ same. was.1 (ap index (one_lock_word here hash segment (within_here site here hash segment l) other place same))) (h.has other value was.0)

    less_only : (p : ℕ × ℕ) → Has p (without lock v.held)
        → (other : Role) × (value : ℕ) × (free_of (without_held place held) other ≡ Some value) × (p ≡ (lock_word here hash segment other, value + 1))
    less_only p has =
        let was = without_has lock p.0 p.1 v.held has in
        let at = h.only p was.1 in (
          at.0,
          at.1,
          gone_other held place at.0 (λ same. was.0 (ap (λ (z : ℕ × ℕ). z.0) at.3 ∙ ap (lock_word here hash segment) (one_place at.0 place same))) ∙ at.2,
          at.3,
        )

    less_known : (p : ℕ × ℕ) → Has p (not_under lock v.known) → IsGuarded (without lock v.held) p.0
    less_known p k =
        let was = not_under_has lock p.0 p.1 v.known k in
        let g = h.known p was.1 in (
          g.0,
          (g.1.0, without_stays lock g.0 g.1.0 v.held (λ same. was.0 (subst (λ (z : ℕ). IsUnder z p.0) same g.2)) g.1.1),
          g.2,
        )

  locks_by : (site : Ground) (n : ℕ) → IsLocated site here segment → (o : Option (Role × ℕ)) → give_next held ≡ o
      → HoldsLocks here hash segment (given_of o held) (view_after site.shape (give_kind_of here hash segment o) n v)
  locks_by site n l (Some next) e = record {
    has = less_has site l next.0;
    only = less_only site l next.0;
    free = λ place value f. h.free place value (free_less held next.0 place value f).0;
    known = less_known site l next.0;
    areas = h.areas;
  }
  locks_by site n l None e = h

  ends_by : IsQuiet v → (o : Option (Role × ℕ)) → give_next held ≡ o → give_wanted_of here hash segment o ≡ Done → HoldsOnly [] v
  ends_by q (Some next) e done = absurd (let s : Store (lock_word here hash segment next.0) ((next.1 + 2) % 2 ^ 64) ≡ Done = done in cc)
  ends_by q None e done =
      let none : (p : ℕ × ℕ) → Has p v.held → ⊥ = λ p has. (let at = h.only p has in none-some _ (sym (next_none held e at.0) ∙ at.2)) in
      record {
        held = nothing_left v.held none;
        known = nothing_left v.known (λ p k. let g = h.known p k in none (g.0, g.1.0) g.1.1);
        dirty = q.dirty;
        flushed = q.flushed;
        planned = q.planned;
        moving = q.moving;
        owed = q.owed;
        areas = h.areas;
      }

quiet_by : (shape : Shape) (here : Site) (hash segment : ℕ) (held : Held) (v : View) (n : ℕ) → IsQuiet v → (o : Option (Role × ℕ))
    → IsQuiet (view_after shape (give_kind_of here hash segment o) n v)
quiet_by shape here hash segment held v n q (Some next) = record { dirty = q.dirty; flushed = q.flushed; planned = q.planned; moving = q.moving; owed = q.owed }
quiet_by shape here hash segment held v n q None = q

pub give_stands : GiveStands
give_stands = record {
  wants = λ shape here hash segment held v h asks. wants_by here hash segment held v h shape (give_next held) refl asks;
  may = λ site here hash segment held v h q. may_by here hash segment held v h site q (give_next held) refl;
  locks = λ site here hash segment held v n l h. locks_by here hash segment held v h site n l (give_next held) refl;
  quiet = λ shape here hash segment held v n q. quiet_by shape here hash segment held v n q (give_next held);
  ends = λ here hash segment held v h q done. ends_by here hash segment held v h q (give_next held) refl done;
}

falls_by : (here : Site) (hash segment : ℕ) (h p f s n r : Option ℕ) → give_wanted_of here hash segment (first_held h p f s n r) ≢ Done
    → give_left (given_of (first_held h p f s n r) (record { home = h; probing = p; first = f; second = s; next = n; previous = r }))
    < lock_left h + lock_left p + lock_left f + lock_left s + lock_left n + lock_left r
falls_by here hash segment (Some x) p f s n r asks = omega arith
falls_by here hash segment None (Some x) f s n r asks = omega arith
falls_by here hash segment None None (Some x) s n r asks = omega arith
falls_by here hash segment None None None (Some x) n r asks = omega arith
falls_by here hash segment None None None None (Some x) r asks = omega arith
falls_by here hash segment None None None None None (Some x) asks = omega arith
falls_by here hash segment None None None None None None asks = absurd (asks refl)

pub give_falls : GiveFalls
give_falls here hash segment held asks = falls_by here hash segment held.home held.probing held.first held.second held.next held.previous asks
