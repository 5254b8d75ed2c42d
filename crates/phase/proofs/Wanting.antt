-- What machines made of phases cite of their events: none of a phase's is nothing, but where no lock is left to be given back; how each
-- is answered; what is stored, flushed and fenced; that no event of a lock makes a change or cuts the power; and what the taking of a
-- lock leaves of the replies.
use Rattle.std.proofs.Common.{◌≡◌, ℕ, ◌+◌, ◌%◌, ◌^◌, ◌<◌, ◌≤◌, Bool, true, false, Option, Some, None, IsTrue, ◌↔◌, refl, sym, subst, arith}
use Rattle.std.specs.Prelude.{◌==◌, ⊤, is_none}
use Rattle.op_core.specs.declared.want.Want.{Want}
use Rattle.op_core.specs.declared.want.Want.TheVariants as want
use Rattle.op_core.specs.declared.want.Ans.{Ans}
use Rattle.op_core.specs.declared.want.Ans.TheVariants.{Value, Passed}
use Rattle.op_core.specs.Answers.{IsAnswer}
use Rattle.image_layout.specs.Places.{Shape}
use Rattle.world.specs.declared.site.Site.{Site}
use Rattle.world.specs.Views.{View}
use Rattle.world.specs.Wants.{answer_to}
use Rattle.world.specs.Kinds.{Kind, cuts_power, with_lock, view_after}
use Rattle.world.specs.Pairs.{IsPublishingKind}
use Rattle.world.specs.StepKinds.{StepKind, of_call, of_structure}
use Rattle.phase.specs.declared.role.Role.{Role}
use Rattle.phase.specs.declared.take.Take.{Take}
use Rattle.phase.specs.declared.take.Take.TheVariants.{Look, Try}
use Rattle.phase.specs.declared.make.Record.{Record}
use Rattle.phase.specs.declared.make.Make.{Make}
use Rattle.phase.specs.declared.make.Make.TheVariants as make
use Rattle.phase.specs.Places.{lock_word}
use Rattle.phase.specs.Takes.{take_wanted}
use Rattle.phase.specs.Makes.{key_at, value_at, fingers_at, published_at, make_wanted}
use Rattle.phase.specs.Helds.{give_wanted_of}
use Rattle.phase.specs.Taking.{take_kind}
use Rattle.phase.specs.Giving.{give_kind_of}
use Rattle.phase.specs.Making.{make_left, waiting_of}

-- ---- an event that is none
abbrev pub IsSome : Want → Type 0
IsSome w = w ≡ want.Done → ⊥

pub no : IsTrue false → ⊥
no e = let f : false ≡ true = e in cc

pub takes : (lock : ℕ) (t : Take) → IsSome (take_wanted lock t)
takes lock Look e = cc
takes lock (Try free) e = cc

pub makes : (lock : ℕ) (written : Record) (m : Make) → IsSome (make_wanted lock written m)
makes lock written make.Key e = cc
makes lock written make.Value e = cc
makes lock written make.Fingers e = cc
makes lock written make.FlushFingers e = cc
makes lock written make.FlushRecord e = cc
makes lock written make.FenceRecord e = cc
makes lock written make.Publish e = cc
makes lock written make.FlushPublished e = cc
makes lock written make.FencePublished e = cc

pub gives : (here : Site) (hash segment : ℕ) (next : Option (Role × ℕ)) → IsTrue (is_none next) ↔ (give_wanted_of here hash segment next ≡ want.Done)
gives here hash segment (Some next) = (λ over. absurd (no over), λ e. absurd (let is : want.Store _ _ ≡ want.Done = e in cc))
gives here hash segment None = (λ over. refl, λ e. refl)

-- a step that wants something is not over
pub not_over : (w : Want) → IsSome w → IsTrue false ↔ (w ≡ want.Done)
not_over w some = (λ over. absurd (no over), λ e. absurd (some e))

-- ---- answers of the kind that was asked for
-- a load is answered a value, and a store that it passed
pub load_answered : (i : ℕ) (a : Ans) → IsAnswer (want.Load i) a → (n : ℕ) × (a ≡ Value n)
load_answered i (Value n) is = (n, refl)
load_answered i a is = absurd is

pub store_answered : (i x : ℕ) (a : Ans) → IsAnswer (want.Store i x) a → a ≡ Passed
store_answered i x Passed is = refl
store_answered i x a is = absurd is

pub make_answered : (lock : ℕ) (written : Record) (m : Make) (a : Ans) → IsAnswer (make_wanted lock written m) a → a ≡ Passed
make_answered lock written make.Key a is = store_answered (key_at lock written) written.key a is
make_answered lock written make.Value a is = store_answered (value_at lock written) written.value a is
make_answered lock written make.Fingers a is = store_answered (fingers_at lock written) written.fingers a is
make_answered lock written make.FlushFingers Passed is = refl
make_answered lock written make.FlushFingers a is = absurd is
make_answered lock written make.FlushRecord Passed is = refl
make_answered lock written make.FlushRecord a is = absurd is
make_answered lock written make.FenceRecord Passed is = refl
make_answered lock written make.FenceRecord a is = absurd is
make_answered lock written make.Publish a is = store_answered (published_at lock written) written.mark a is
make_answered lock written make.FlushPublished Passed is = refl
make_answered lock written make.FlushPublished a is = absurd is
make_answered lock written make.FencePublished Passed is = refl
make_answered lock written make.FencePublished a is = absurd is

pub give_answered : (here : Site) (hash segment : ℕ) (next : Option (Role × ℕ)) (a : Ans) → IsAnswer (give_wanted_of here hash segment next) a → a ≡ Passed
give_answered here hash segment (Some next) a is = store_answered (lock_word here hash segment next.0) ((next.1 + 2) % 2 ^ 64) a is
give_answered here hash segment None a is = absurd is

-- and the one of the memory
pub make_answer : (lock : ℕ) (written : Record) (m : Make) (n : ℕ) → answer_to (make_wanted lock written m) n ≡ Passed
make_answer lock written make.Key n = refl
make_answer lock written make.Value n = refl
make_answer lock written make.Fingers n = refl
make_answer lock written make.FlushFingers n = refl
make_answer lock written make.FlushRecord n = refl
make_answer lock written make.FenceRecord n = refl
make_answer lock written make.Publish n = refl
make_answer lock written make.FlushPublished n = refl
make_answer lock written make.FencePublished n = refl

-- a record is stored in so few events
pub make_bound : (m : Make) → make_left m ≤ 9
make_bound make.Key = omega arith
make_bound make.Value = omega arith
make_bound make.Fingers = omega arith
make_bound make.FlushFingers = omega arith
make_bound make.FlushRecord = omega arith
make_bound make.FenceRecord = omega arith
make_bound make.Publish = omega arith
make_bound make.FlushPublished = omega arith
make_bound make.FencePublished = omega arith

-- ---- what is stored, flushed and fenced
-- the number that an event leaves in its word, where it stores or exchanges one
abbrev pub number_of : Want → ℕ
number_of (want.Store i x) = x
number_of (want.Exchange i a b) = b
number_of w = 0

pub take_small : (lock : ℕ) (t : Take) → number_of (take_wanted lock t) < 2 ^ 64
take_small lock Look = omega arith
take_small lock (Try free) = omega arith

pub give_small : (here : Site) (hash segment : ℕ) (next : Option (Role × ℕ)) → number_of (give_wanted_of here hash segment next) < 2 ^ 64
give_small here hash segment (Some next) = omega arith
give_small here hash segment None = omega arith

abbrev pub HasFlush : Want → Type 0
HasFlush (want.Flush l) = ⊤
HasFlush w = ⊥

abbrev pub HasFence : Want → Type 0
HasFence want.Fence = ⊤
HasFence w = ⊥

pub is_fence : (w : Want) → HasFence w → w ≡ want.Fence
is_fence want.Fence f = refl
is_fence w f = absurd f

pub take_no_flush : (lock : ℕ) (t : Take) → HasFlush (take_wanted lock t) → ⊥
take_no_flush lock Look p = p
take_no_flush lock (Try free) p = p

pub give_no_flush : (here : Site) (hash segment : ℕ) (next : Option (Role × ℕ)) → HasFlush (give_wanted_of here hash segment next) → ⊥
give_no_flush here hash segment (Some next) p = p
give_no_flush here hash segment None p = p

-- at most two lines of a record wait for a fence
pub few_waiting : (m : Make) → waiting_of m ≤ 2
few_waiting make.FlushRecord = omega arith
few_waiting make.FenceRecord = omega arith
few_waiting make.FencePublished = omega arith
few_waiting m = omega arith

-- ---- the change
-- a kind that makes no change
abbrev pub IsPlain : Kind → Type 0
IsPlain k = IsPublishingKind k → ⊥

pub plain_take : (lock : ℕ) (t : Take) → IsPlain (take_kind lock t)
plain_take lock Look p = p
plain_take lock (Try free) p = p

pub plain_give : (here : Site) (hash segment : ℕ) (next : Option (Role × ℕ)) → IsPlain (give_kind_of here hash segment next)
plain_give here hash segment (Some next) p = p
plain_give here hash segment None p = p

-- ---- the power
abbrev pub Cuts : Kind → Type 0
Cuts cuts_power = ⊤
Cuts k = ⊥

abbrev CutsAt : StepKind → Type 0
CutsAt (of_call k) = Cuts k
CutsAt (of_structure k) = ⊥

-- a step of a call cuts the power by its kind of call alone
pub cuts_call : (k : Kind) → of_call k ≡ of_call cuts_power → Cuts k
cuts_call k e = subst (λ (s : StepKind). CutsAt s) (sym e) tt

pub take_on : (lock : ℕ) (t : Take) → Cuts (take_kind lock t) → ⊥
take_on lock Look p = p
take_on lock (Try free) p = p

pub give_on : (here : Site) (hash segment : ℕ) (next : Option (Role × ℕ)) → Cuts (give_kind_of here hash segment next) → ⊥
give_on here hash segment (Some next) p = p
give_on here hash segment None p = p

-- ---- what the taking of a lock leaves of the replies
pub take_own : (shape : Shape) (lock : ℕ) (t : Take) (n : ℕ) (v : View) → (view_after shape (take_kind lock t) n v).own ≡ v.own
take_own shape lock Look n v = refl
take_own shape lock (Try free) n v = by (n == free)
  where
    by : (b : Bool) → (with_lock b lock free v).own ≡ v.own
    by true = refl
    by false = refl

pub take_seen : (shape : Shape) (lock : ℕ) (t : Take) (n : ℕ) (v : View) → (view_after shape (take_kind lock t) n v).seen ≡ v.seen
take_seen shape lock Look n v = refl
take_seen shape lock (Try free) n v = by (n == free)
  where
    by : (b : Bool) → (with_lock b lock free v).seen ≡ v.seen
    by true = refl
    by false = refl
