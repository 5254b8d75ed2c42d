-- What an enclosing remembers it remembers after its next event, with what that did: the guard, then lock after lock, the header, and word
-- after word.
use Rattle.std.proofs.Common.{◌≡◌, ◌≢◌, ℕ, ◌+◌, ◌-◌, ◌%◌, ◌^◌, ◌<◌, ◌≤◌, Bool, true, false, Option, Some, None, List, [], ◌∷◌, length, slice_index, inl, inr, refl, sym, ap, ◌∙◌, subst, arith}
use Rattle.std.specs.Prelude.{◌==◌, nat_lt, if◌then◌else◌}
use Rattle.std.proofs.lemmas.Bool.{cases_eq, eqb-true, ltb-false}
use Rattle.std.proofs.lemmas.List.{get_or-set_same, get_or-set_other}
use Rattle.op_core.specs.declared.want.Want.{Want}
use Rattle.op_core.specs.declared.want.Want.TheVariants as want
use Rattle.op_core.specs.declared.want.Ans.{Ans}
use Rattle.op_core.specs.declared.want.Ans.TheVariants.{Value, Won, Lost}
use Rattle.hash_word.specs.Hash.{home_of}
use Rattle.segment_head.specs.HeadWord.{depth_in}
use Rattle.image_layout.specs.Places.{bucket_at, buckets, block, last_of_buckets}
use Rattle.way.specs.Ways.{head_word, bucket_word}
use Rattle.whole_segment.specs.Room.{has_no_room}
use Rattle.map_model.specs.declared.call.Call.{Call}
use Rattle.world.specs.declared.site.Site.{Site}
use Rattle.world.specs.Ground.{Ground}
use Rattle.world.specs.Views.{View, Has}
use Rattle.world.specs.Wants.{answer_to}
use Rattle.part.specs.Doings.{Doings, with_event_of}
use Rattle.phase.specs.declared.take.Take.TheVariants.{Look, Try}
use Rattle.phase.specs.declared.take.Taken.TheVariants as taking
use Rattle.phase.specs.Takes.{take_wanted, take_taken}
use Rattle.phase.specs.Giving.{IsLocated}
use Rattle.enclose_op.specs.declared.enclosed.Enclosed.{Enclosed}
use Rattle.enclose_op.specs.declared.give.Give.{Give as Giving}
use Rattle.enclose_op.specs.declared.op.NotEnclosed.{NotEnclosed}
use Rattle.enclose_op.specs.declared.op.NotEnclosed.TheVariants.{Room}
use Rattle.enclose_op.specs.declared.op.EncloseStep.{EncloseStep}
use Rattle.enclose_op.specs.declared.op.EncloseStep.TheVariants.{Guard, Lock, Head, Fill, CountSpent, CountDeep, Give, Ended, Whole}
use Rattle.enclose_op.specs.declared.op.EncloseOp.{EncloseOp}
use Rattle.enclose_op.specs.Whole.{kept_first, IsOf, RemembersWhole}
use Rattle.enclose_op.specs.Giving.{guard_of, lock_of, give_wanted, given}
use Rattle.enclose_op.specs.Steps.{go, giving as backing, given_by, with_lock, locked_to, is_followed, with_head, word_after, decided, with_word, is_whole, wanted_in, next_in}
use Rattle.enclose_op.specs.Fits.{SuitsStep}
use Rattle.enclose_op.specs.Remembers.{RemembersLocks, RemembersWords, RemembersAt}
use Rattle.enclose_op.specs.EnclosePart.{BeginsRemembering, HandsOnRemembered}
use Rattle.enclose_op.proofs.Places.{guard_is, head_is, lock_is}
use Rattle.enclose_op.proofs.Filling.{upto_in, by_buckets}
use Rattle.enclose_op.proofs.Giving.{give_answer}

-- THE NEXT STATE remembers
abbrev Recalls : Ground → EncloseOp → Doings → Type 0
Recalls site op did = RemembersAt site op.enclosed did op.step

module _ (site : Ground) (here : Site) (call : Call) (e : Enclosed) (is : IsOf site here call e) (did : Doings) where
  abbrev l : IsLocated site e.site e.segment
  l = is.located

  -- ---- the guard
  abbrev guarding : Want
  guarding = want.Exchange (guard_of e) 0 e.site.caller

  guard_by : did.changed ≡ [] → (n : ℕ) (t : Bool) → Recalls site (next_in e Guard (if t then Won else Lost n)) (with_event_of guarding (if t then Won else Lost n) did)
  guard_by none n true = (
    record {
      taken = record { guard = inl (sym (guard_is site e l)); locks = λ b low. absurd (omega (arith, low)); free = λ b low. absurd (omega (arith, low)) };
      only = λ word has. elim has [
        | inl same ↦ inl (same ∙ guard_is site e l)
        | inr was ↦ absurd (subst (λ (l : List ℕ). Has word l) none was)
      ];
    },
    tt,
  )
  guard_by none n false = tt

  -- ---- a lock
  module _ (b : ℕ) (near : b < buckets) (r : RemembersLocks site e did b) where
    look_by : (n : ℕ) (odd spent : Bool) → (n == 2 ^ 64 - 2) ≡ spent
        → Recalls site (locked_to e b (if odd then taking.Busy n else if spent then taking.Spent else taking.On (Try n))) (with_event_of (want.Load (lock_of e b)) (Value n) did)
    look_by n true spent s = tt
    look_by n false true s = record { near = near; guard = r.taken.guard; spent = inl (ap (λ (z : ℕ). (lock_of e b, z)) (sym (eqb-true n (2 ^ 64 - 2) s))) }
    look_by n false false s = (
      record { taken = record { guard = r.taken.guard; locks = r.taken.locks; free = λ c low. inr (r.taken.free c low) }; only = r.only },
      inl refl,
    )

    module _ (free : ℕ) (was : Has (lock_of e b, free) did.loads) where
      abbrev trying : Want
      trying = take_wanted (lock_of e b) (Try free)

      abbrev d : Enclosed
      d = with_lock e b free

      abbrev won : Doings
      won = record { loads = did.loads; changed = lock_of e b ∷ did.changed }

      abbrev long : b < length e.locks
      long = let each = is.each_lock in omega (arith, near, each)

      -- its word stands where the lock's is
      word_is : (c : ℕ) → c ≡ b → bucket_at site.shape e.segment c ≡ lock_of e b
      word_is c same = ap (bucket_at site.shape e.segment) same ∙ sym (lock_is site e l b near)

      more_locks : (c : ℕ) → c < b + 1 → Has (bucket_at site.shape e.segment c) won.changed
      more_locks c low = elim (cases_eq c b) [
        | inl same ↦ inl (word_is c same)
        | inr apart ↦ inr (r.taken.locks c (omega (arith, low, apart)))
      ]

      own_free : (c : ℕ) → c ≡ b → slice_index d.locks c ≡ free
      own_free c same = ap (slice_index d.locks) same ∙ get_or-set_same e.locks b free 0 long

      more_free : (c : ℕ) → c < b + 1 → Has (bucket_at site.shape e.segment c, slice_index d.locks c) did.loads
      more_free c low = elim (cases_eq c b) [
        | inl same ↦ subst (λ (p : ℕ × ℕ). Has p did.loads)
            (ap (λ (z : ℕ). (z, free)) (sym (word_is c same)) ∙ ap (λ (z : ℕ). (bucket_at site.shape e.segment c, z)) (sym (own_free c same))) was
        | inr apart ↦ subst (λ (z : ℕ). Has (bucket_at site.shape e.segment c, z) did.loads) (sym (get_or-set_other e.locks b c free 0 apart)) (r.taken.free c (omega (arith, low, apart)))
      ]

      more : RemembersLocks site d won (b + 1)
      more = record {
        taken = record { guard = inr r.taken.guard; locks = more_locks; free = more_free };
        only = λ word has. elim has [
          | inl same ↦ inr (b, omega arith, same ∙ lock_is site e l b near)
          | inr old ↦ elim (r.only word old) [
            | inl guard ↦ inl guard
            | inr lock ↦ inr (lock.0, (let low = lock.1 in omega (arith, low)), lock.2)
          ]
        ];
      }

      next_by : (t : Bool) → nat_lt b 65 ≡ t → RemembersAt site d won (if t then Lock (b + 1) Look else Head)
      next_by true low = (more, tt)
      next_by false high =
          subst (λ (n : ℕ). RemembersLocks site d won n) (let above = ltb-false b 65 high in let last : b + 1 ≡ buckets = omega (arith, above, near) in last) more

      lost_by : (n : ℕ) (odd : Bool) → Recalls site (locked_to e b (if odd then taking.Busy n else taking.Moved free n)) (with_event_of trying (Lost n) did)
      lost_by n true = tt
      lost_by n false = tt

      try_by : (n : ℕ) (t : Bool) → Recalls site (locked_to e b (take_taken (Try free) (if t then Won else Lost n))) (with_event_of trying (if t then Won else Lost n) did)
      try_by n true = next_by (nat_lt b 65) refl
      try_by n false = lost_by n (n % 2 == 1)

  -- ---- the header
  module _ (n : ℕ) (r : RemembersLocks site e did buckets) where
    abbrev loaded : Doings
    loaded = record { loads = (head_word e.site.geometry e.segment, n) ∷ did.loads; changed = did.changed }

    head_by : (t : Bool) → RemembersAt site (with_head e n) loaded (if t then Fill 1 else backing buckets Room)
    head_by true = record {
      locks = record { taken = record { guard = r.taken.guard; locks = r.taken.locks; free = λ b low. inr (r.taken.free b low) }; only = r.only };
      header = inl (ap (λ (z : ℕ). (z, n)) (sym (head_is site e l)));
      words = λ j low apart. absurd (let none : j ≡ 0 = omega (arith, low) in apart (ap (λ (z : ℕ). z % 32) none));
    }
    head_by false = tt

  -- ---- a word
  module _ (v : View) (at n : ℕ) (small : n < 2 ^ 64) (s : SuitsStep site here call e (Fill at) v) (r : RemembersWords site e did at) where
    abbrev f : Enclosed
    f = with_word e at n

    abbrev filling : Doings
    filling = record { loads = (bucket_word e.site.geometry e.segment 0 + at, n) ∷ did.loads; changed = did.changed }

    -- the locks and the header are as they were
    still_locks : RemembersLocks site f filling buckets
    still_locks = record {
      taken = record { guard = r.locks.taken.guard; locks = r.locks.taken.locks; free = λ b low. inr (r.locks.taken.free b low) };
      only = r.locks.only;
    }

    words_to : (j : ℕ) → j < at + 1 → j % block ≢ 0 → Has (bucket_at site.shape f.segment 0 + j, slice_index f.buckets j) filling.loads
    words_to = upto_in site here call e is v at s n small did.loads r.words

    after_by : (t : Bool) → ((at + 1) % 32 == 0) ≡ t → RemembersWords site f filling (if t then at + 2 else at + 1)
    after_by true turns = record {
      locks = still_locks;
      header = inr r.header;
      words = λ j below plain. elim (cases_eq j (at + 1)) [
        | inl same ↦ absurd (plain (ap (λ (z : ℕ). z % 32) same ∙ eqb-true ((at + 1) % 32) 0 turns))
        | inr apart ↦ words_to j (omega (arith, below, apart)) plain
      ];
    }
    after_by false stays = record { locks = still_locks; header = inr r.header; words = words_to }

    whole : last_of_buckets ≤ at → RemembersWhole site f filling
    whole last = record {
      enclosing = record {
        taken = still_locks.taken;
        header = inr r.header;
        words = by_buckets site here call e is v at s n small filling.loads last words_to;
      };
      only = still_locks.only;
    }

    decided_by : last_of_buckets ≤ at → (room deep : Bool) → RemembersAt site f filling (if room then (if deep then CountDeep else Whole) else backing buckets Room)
    decided_by last true true = whole last
    decided_by last true false = whole last
    decided_by last false deep = tt

    fill_by : (t : Bool) → nat_lt at last_of_buckets ≡ t → RemembersAt site f filling (if t then Fill (word_after at) else decided f)
    fill_by true low = after_by ((at + 1) % 32 == 0) refl
    fill_by false high = decided_by (ltb-false at last_of_buckets high) (has_no_room (kept_first f) (home_of f.hash)) (depth_in f.head == f.site.geometry.depth)

  -- ---- what is given back
  back_by : (did : Doings) (more : Option Giving) (end : NotEnclosed) → Recalls site (go e (given_by more end)) did
  back_by did (Some left) end = tt
  back_by did None end = tt

  -- ---- EACH STEP
  pub recalls_next : (v : View) (s : EncloseStep) (n : ℕ) → n < 2 ^ 64 → SuitsStep site here call e s v → wanted_in e s ≢ want.Done → RemembersAt site e did s
      → Recalls site (next_in e s (answer_to (wanted_in e s) n)) (with_event_of (wanted_in e s) (answer_to (wanted_in e s) n) did)
  recalls_next v Guard n small s asks r = guard_by r n (n == 0)
  recalls_next v (Lock b Look) n small s asks r = look_by b s.1 r.0 n (n % 2 == 1) (n == 2 ^ 64 - 2) refl
  recalls_next v (Lock b (Try free)) n small s asks r = try_by b s.1 r.0 free r.1 n (n == free)
  recalls_next v Head n small s asks r = head_by n r (is_followed e n)
  recalls_next v (Fill at) n small s asks r = fill_by v at n small s r (nat_lt at last_of_buckets) refl
  recalls_next v (CountSpent b) n small s asks r = tt
  recalls_next v CountDeep n small s asks r = tt
  recalls_next v (Give give end) n small s asks r =
      let d : Doings = with_event_of (give_wanted e give) (answer_to (give_wanted e give) n) did in
      subst (λ (a : Ans). Recalls site (next_in e (Give give end) a) d) (sym (give_answer e give n)) (back_by d (given give) end)
  recalls_next v (Ended end) n small s asks r = absurd (asks refl)
  recalls_next v Whole n small s asks r = absurd (asks refl)

-- ---- where it begins
pub begins_remembering : BeginsRemembering
begins_remembering site here change segment did none = none

-- ---- where it hands on
whole_at : (site : Ground) (e : Enclosed) (did : Doings) (s : EncloseStep) → is_whole s ≡ true → RemembersAt site e did s → RemembersWhole site e did
whole_at site e did Whole hands r = r
whole_at site e did s hands r = absurd (cc)

pub hands_on_remembered : HandsOnRemembered
hands_on_remembered site op did hands r = whole_at site op.enclosed did op.step hands r
