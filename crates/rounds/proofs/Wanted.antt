-- What a machine wants that is in its rounds: by cases, and what is answered to it.
use Rattle.std.proofs.Common.{◌≡◌, ◌≢◌, ℕ, ◌+◌, ◌≤◌, Bool, true, false, cond, Option, None, Some, List, length, inl, inr, refl, sym, ap, ◌∙◌, subst}
use Rattle.std.specs.Prelude.{nat_lt, slice_index}
use Rattle.std.proofs.lemmas.Bool.{cases_lt, ltb-false, lt-ltb, le-ltb}
use Rattle.std.proofs.lemmas.Option.{none-some}
use Rattle.op_core.specs.declared.want.Want.{Want}
use Rattle.op_core.specs.declared.want.Want.TheVariants.{Store, Flush, Fence, Done}
use Rattle.op_core.specs.declared.want.Ans.{Ans}
use Rattle.op_core.specs.declared.want.Ans.TheVariants.{Passed}
use Rattle.op_core.specs.Answers.{IsAnswer}
use Rattle.world.specs.Views.{Has}
use Rattle.world.specs.Wants.{answer_to}
use Rattle.whole_segment.specs.Rounds.{most_lines}
use Rattle.rounds.specs.declared.rounds.RoundStep.TheVariants.{Flushing, Fencing}
use Rattle.rounds.specs.declared.rounds.Rounds.{Rounds}
use Rattle.rounds.specs.Steps.{at_step, flushed_to, rounds_stores, rounds_wanted, want_or_done, event_wanted}
use Rattle.rounds.specs.Events.{IsStore, IsFlush, IsFence, IsRoundEvent}
use Rattle.rounds.proofs.Events.{event_cases, cases_wanted}
use Rattle.rounds.proofs.Lines.{has_at}

-- ---- the events of the rounds, by cases
module _ (rounds : Rounds) (next : Option (ℕ × ℕ)) (C : Option Want → Type 0)
    (store : (p : ℕ × ℕ) → next ≡ Some p → rounds_stores rounds next ≡ true → (w : Want) → IsStore rounds next w → C (Some (Store p.0 p.1)))
    (flush : (line : ℕ) → rounds_wanted rounds next ≡ Some (Flush line) → Has line rounds.round → (w : Want) → IsFlush rounds next w → C (Some (Flush line)))
    (fence : rounds_wanted rounds next ≡ Some Fence → (w : Want) → IsFence rounds next w → C (Some Fence)) where
  by_want : (w : Want) → rounds_wanted rounds next ≡ Some w → C (Some w)
  by_want w e = elim (event_cases rounds next w e) [
    | inl s ↦ subst (λ (x : Want). C (Some x)) (sym s.wants) (store (s.word, s.value) s.comes s.stores w s)
    | inr f ↦ elim f [
      | inl f ↦ subst (λ (x : Want). C (Some x)) (sym f.wants) (flush (slice_index rounds.round f.number) (e ∙ ap Some f.wants) (has_at rounds.round f.number f.low) w f)
      | inr f ↦ subst (λ (x : Want). C (Some x)) (sym f.wants) (fence (e ∙ ap Some f.wants) w f)
    ]
  ]

  pub by_event : rounds_wanted rounds next ≢ None → C (rounds_wanted rounds next)
  by_event some = elim (cases_wanted (rounds_wanted rounds next)) [
    | inl none ↦ absurd (some none)
    | inr w ↦ subst C (sym w.1) (by_want w.0 w.1)
  ]

-- behind a flush another one is wanted, or a fence
pub flushed_wants : (lines : List ℕ) (i : ℕ) (next : Option (ℕ × ℕ)) → (w : Want) × (rounds_wanted (at_step lines (flushed_to lines i)) next ≡ Some w)
flushed_wants lines i next = elim (cases_lt (i + 1) (length lines)) [
  | inl more ↦ subst (λ b. (w : Want) × (rounds_wanted (at_step lines (cond b (Flushing (i + 1)) Fencing)) next ≡ Some w)) (sym (lt-ltb (i + 1) (length lines) more)) (_, refl)
  | inr last ↦ subst (λ b. (w : Want) × (rounds_wanted (at_step lines (cond b (Flushing (i + 1)) Fencing)) next ≡ Some w)) (sym (le-ltb (i + 1) (length lines) last)) (_, refl)
]

-- ---- what is wanted
module _ (rounds : Rounds) (next : Option (ℕ × ℕ)) where
  -- in a round that has no more lines than it may, what the rounds want
  pub event_is : length rounds.round ≤ most_lines → event_wanted rounds next ≡ want_or_done (rounds_wanted rounds next)
  event_is few = ap (λ b. cond b Done (want_or_done (rounds_wanted rounds next))) (le-ltb most_lines (length rounds.round) few)

  pub event_of : (want : Want) → length rounds.round ≤ most_lines → rounds_wanted rounds next ≡ Some want → event_wanted rounds next ≡ want
  event_of want few is = event_is few ∙ ap want_or_done is

  -- what is so of no event and of each event of the rounds is so of it
  module _ (P : Want → Type 0) (done : P Done) where
    few_wanted : P (want_or_done (rounds_wanted rounds next)) → P (event_wanted rounds next)
    few_wanted p = elim (cases_lt most_lines (length rounds.round)) [
      | inl many ↦ subst (λ b. P (cond b Done (want_or_done (rounds_wanted rounds next)))) (sym (lt-ltb most_lines (length rounds.round) many)) done
      | inr few ↦ subst P (sym (event_is few)) p
    ]

    pub by_wanted : ((p : ℕ × ℕ) → next ≡ Some p → P (Store p.0 p.1)) → ((line : ℕ) → Has line rounds.round → P (Flush line)) → P Fence → P (event_wanted rounds next)
    by_wanted store flush fence = few_wanted (elim (cases_wanted (rounds_wanted rounds next)) [
      | inl none ↦ subst (λ (o : Option Want). P (want_or_done o)) (sym none) done
      | inr some ↦ by_event rounds next (λ o. P (want_or_done o)) (λ p e on w is. store p e) (λ line e has w is. flush line has) (λ e w is. fence) (λ none. none-some _ (sym none ∙ some.1))
    ])

  -- ---- where nothing is
  event_some : (want : Want) → IsRoundEvent rounds next want → want ≢ Done
  event_some want event done = elim event [
    | inl s ↦ absurd (let no : Done ≡ Store s.word s.value = sym done ∙ s.wants in cc)
    | inr f ↦ elim f [
      | inl f ↦ absurd (let no : Done ≡ Flush (slice_index rounds.round f.number) = sym done ∙ f.wants in cc)
      | inr f ↦ absurd (let no : Done ≡ Fence = sym done ∙ f.wants in cc)
    ]
  ]

  -- the rounds are over
  pub event_none : length rounds.round ≤ most_lines → event_wanted rounds next ≡ Done → rounds_wanted rounds next ≡ None
  event_none few done = elim (cases_wanted (rounds_wanted rounds next)) [
    | inl none ↦ none
    | inr some ↦ absurd (event_some some.0 (event_cases rounds next some.0 some.1) (sym (event_of some.0 few some.1) ∙ done))
  ]

-- ---- answers
-- an event of the rounds is answered that it passed
pub store_passed : (i x : ℕ) (a : Ans) → IsAnswer (Store i x) a → a ≡ Passed
store_passed i x Passed is = refl
store_passed i x a is = absurd is

flush_passed : (line : ℕ) (a : Ans) → IsAnswer (Flush line) a → a ≡ Passed
flush_passed line Passed is = refl
flush_passed line a is = absurd is

fence_passed : (a : Ans) → IsAnswer Fence a → a ≡ Passed
fence_passed Passed is = refl
fence_passed a is = absurd is

module _ (rounds : Rounds) (next : Option (ℕ × ℕ)) where
  pub event_answer : (want : Want) (n : ℕ) → IsRoundEvent rounds next want → answer_to want n ≡ Passed
  event_answer want n event = elim event [
    | inl s ↦ ap (λ w. answer_to w n) s.wants
    | inr f ↦ elim f [ inl f ↦ ap (λ w. answer_to w n) f.wants | inr f ↦ ap (λ w. answer_to w n) f.wants ]
  ]

  event_passed : (want : Want) → IsRoundEvent rounds next want → (a : Ans) → IsAnswer want a → a ≡ Passed
  event_passed want event a is = elim event [
    | inl s ↦ store_passed s.word s.value a (subst (λ (w : Want). IsAnswer w a) s.wants is)
    | inr f ↦ elim f [
      | inl f ↦ flush_passed (slice_index rounds.round f.number) a (subst (λ (w : Want). IsAnswer w a) f.wants is)
      | inr f ↦ fence_passed a (subst (λ (w : Want). IsAnswer w a) f.wants is)
    ]
  ]

  -- WHAT IS WANTED of the rounds, where it is answered
  pub record IsAsked (a : Ans) : Type 0 where
    pub few : length rounds.round ≤ most_lines
    pub want : Want
    pub is : rounds_wanted rounds next ≡ Some want
    pub event : IsRoundEvent rounds next want
    pub passed : a ≡ Passed

  some_asked : (a : Ans) → length rounds.round ≤ most_lines → (o : Option Want) → rounds_wanted rounds next ≡ o → IsAnswer (want_or_done o) a → IsAsked a
  some_asked a few (Some want) is answer =
      let event = event_cases rounds next want is in
      record { few = few; want = want; is = is; event = event; passed = event_passed want event a answer }
  some_asked a few None is answer = absurd answer

  asked_by : (a : Ans) → (t : Bool) → nat_lt most_lines (length rounds.round) ≡ t → IsAnswer (cond t Done (want_or_done (rounds_wanted rounds next))) a → IsAsked a
  asked_by a true is answer = absurd answer
  asked_by a false is answer = some_asked a (ltb-false most_lines (length rounds.round) is) (rounds_wanted rounds next) refl answer

  pub asked : (a : Ans) → IsAnswer (event_wanted rounds next) a → IsAsked a
  asked a answer = asked_by a (nat_lt most_lines (length rounds.round)) refl answer

  pub asked_some : (a : Ans) → IsAsked a → rounds_wanted rounds next ≢ None
  asked_some a q none = none-some _ (sym none ∙ q.is)
