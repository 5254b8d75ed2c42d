-- While words of a stage are stored in rounds: which event each is, what it asks, and what it leaves.
use Rattle.std.proofs.Common.{◌≡◌, ℕ, ◌+◌, ◌^◌, ◌<◌, Bool, Option, Some, List, [], length, slice_index, inl, inr, refl, sym, ap, ◌∙◌, subst, arith, length-set}
use Rattle.std.proofs.lemmas.Bool.{cases_eq, cases_lt}
use Rattle.std.proofs.lemmas.List.{get_or_past, get_or-set_same, get_or-set_other}
use Rattle.trace.specs.Events.{Words, line_of}
use Rattle.op_core.specs.declared.want.Want.{Want}
use Rattle.op_core.specs.declared.want.Want.TheVariants as wants
use Rattle.op_core.specs.declared.want.Ans.{Ans}
use Rattle.op_core.specs.declared.want.Ans.TheVariants.{Passed}
use Rattle.image_layout.specs.Places.{words_of_buckets}
use Rattle.map_model.specs.declared.call.Call.{Call}
use Rattle.world.specs.declared.site.Site.{Site}
use Rattle.world.specs.Ground.{Ground, IsGround}
use Rattle.world.specs.Views.{View, Has}
use Rattle.world.specs.Kinds.{flushes, view_after}
use Rattle.world.specs.Wants.{answer_to, word_of}
use Rattle.world.specs.areas.Kinds.{sets, settles, view_then}
use Rattle.world.specs.areas.Asking.{MayAt}
use Rattle.world.specs.StepKinds.{StepKind, of_call, of_structure, view_by, MayTake}
use Rattle.world.proofs.basics.Seats.{loosened_has, flush_loose}
use Rattle.rounds.specs.declared.rounds.Rounds.{Rounds}
use Rattle.rounds.specs.Steps.{rounds_stores, rounds_wanted, rounds_taken}
use Rattle.rounds.specs.Events.{IsStore, IsFlush, IsFence, IsRoundEvent}
use Rattle.rounds.specs.Stands.{kind_of, rounds_kind, RoundStands}
use Rattle.rounds.proofs.Events.{event_cases}
use Rattle.rounds.proofs.Lines.{lines_are_stored}
use Rattle.rounds.proofs.Wanted.{event_of, event_answer}
use Rattle.rounds.proofs.Settling.{rounds_settle}
use Rattle.rounds.proofs.Keeping.{rounds_may}
use Rattle.mend_op.specs.declared.stage.Stage.{Stage}
use Rattle.mend_op.specs.declared.op.MendStep.TheVariants.{Round}
use Rattle.mend_op.specs.declared.op.MendOp.{MendOp}
use Rattle.mend_op.specs.Stages.{most, place}
use Rattle.mend_op.specs.Steps.{with_stored, is_changed, changed_from, due, rounded_by, wanted_in, next_in}
use Rattle.mend_op.specs.Stands.{place_of, IsStageLine, IsLooseBefore, IsInStage, IsRounding}
use Rattle.mend_op.specs.MendPart.{IsOf, MendStands}
use Rattle.rounds.proofs.Seeking.{seek_behind}
use Rattle.mend_op.proofs.Dues.{due_is}
use Rattle.mend_op.proofs.stages.Placing.{place_low}
use Rattle.mend_op.proofs.stages.Partly.{passed_over, partly_stored}
use Rattle.mend_op.proofs.whole.Known.{all_kept, all_stored, no_sides}
use Rattle.mend_op.proofs.whole.Located.{word_is}
use Rattle.mend_op.proofs.rounds.Beginning.{changed_differs, in_stage, same_shape, rounding_stands}

-- what runs is the same once a word was stored
pub is_stored : (site : Ground) (here : Site) (op : MendOp) → IsOf site here op → (i : ℕ) → IsOf site here (with_stored op i)
is_stored site here op is i = record {
  here_is = is.here_is;
  old = is.old;
  each_word = length-set op.words i (slice_index op.next i) ∙ is.each_word;
  small = λ j. elim (cases_eq j i) [
    | inl same ↦ by j same
    | inr apart ↦ subst (λ x. x < 2 ^ 64) (sym (get_or-set_other op.words i j (slice_index op.next i) 0 apart)) (is.small j)
  ];
  next_small = is.next_small;
}
  where
    by : (j : ℕ) → j ≡ i → slice_index (with_stored op i).words j < 2 ^ 64
    by j same = elim (cases_lt i (length op.words)) [
      | inl low ↦ subst (λ x. x < 2 ^ 64) (sym (ap (slice_index (with_stored op i).words) same ∙ get_or-set_same op.words i (slice_index op.next i) 0 low)) (is.next_small i)
      | inr past ↦ subst (λ x. x < 2 ^ 64) (sym (get_or_past (with_stored op i).words j 0 (let long = length-set op.words i (slice_index op.next i) in omega (arith, same, past, long)))) (omega arith)
    ]

module _ (site : Ground) (ground : IsGround site) (here : Site) (call : Call) (op : MendOp) (is : IsOf site here op) (stage : Stage) (base : List ℕ) (n : ℕ) (rounds : Rounds) (v : View)
    (c : IsRounding site op.guarded op.words op.next stage base n rounds v) (known : IsInStage site op.guarded stage base v) where
  abbrev next : Option (ℕ × ℕ)
  next = due op stage n

  abbrev place_at : ℕ
  place_at = place_of site op.guarded (place stage n)

  abbrev value : ℕ
  value = slice_index op.next (place stage n)

  due_place : (i x : ℕ) → next ≡ Some (i, x) → i ≡ place_at
  due_place i x same = (due_is op stage n i x same).word_is ∙ word_is site op (same_shape site here call op is) is.old.within (place stage n)

  -- THE EVENT MAY BE TAKEN by who may store the word that comes next
  pub round_may : (n < most stage → MayAt site (sets place_at value) v) → MayTake site (rounds_kind rounds next []) v
  round_may may = rounds_may.may site [] rounds next v
      (λ i x same stores. (let d = due_is op stage n i x same in
      subst (λ j. MayAt site (sets j x) v) (sym (due_place i x same)) (subst (λ y. MayAt site (sets place_at y) v) (sym d.value_is) (may d.low))))
      (λ _. rounds_may.fence site v (λ m side. absurd (no_sides site op.guarded op.words words_of_buckets v c.all m side)))

  -- ---- what it leaves, where what is known is the newest
  module _ (words : Words) (m : ℕ) (knows : (i x : ℕ) → Has (i, x) v.known → words i ≡ x) (want : Want) (wanted : rounds_wanted rounds next ≡ Some want) (found : words (word_of site.shape want) ≡ m) where
    abbrev after : Rounds
    after = rounds_taken rounds next

    abbrev u : View
    u = view_by site.shape (rounds_kind rounds next []) m v

    abbrev Stood : Bool → View → Type 0
    Stood t w = MendStands site here call (rounded_by t stage n after op) w

    -- the view is that of a kind
    of_want : (w : Want) → want ≡ w → rounds_kind rounds next [] ≡ kind_of [] (Some w)
    of_want w same = ap (kind_of []) (wanted ∙ ap Some same)

    lines_after : (line : ℕ) → Has line after.round → IsStageLine site op.guarded op.words stage line
    lines_after = (lines_are_stored (IsStageLine site op.guarded op.words stage)).keeps rounds next c.lines (λ i x same. (n, (due_is op stage n i x same).low, ap line_of (due_place i x same)))

    stands_after : RoundStands after u
    stands_after = rounds_settle.stands site.shape [] rounds next m v c.stands

    -- ---- a store
    module _ (s : IsStore rounds next want) where
      abbrev stored : MendOp
      stored = with_stored op (place stage n)

      abbrev later : ℕ
      later = changed_from stored stage (n + 1)

      low : n < most stage
      low = (due_is op stage n s.word s.value s.comes).low

      kind_is : rounds_kind rounds next [] ≡ of_structure (sets place_at value)
      kind_is =
          of_want (wants.Store s.word s.value) s.wants ∙ ap (λ i. of_structure (sets i s.value)) (due_place s.word s.value s.comes)
          ∙ ap (λ x. of_structure (sets place_at x)) (due_is op stage n s.word s.value s.comes).value_is

      -- the word was as it had been
      was : m ≡ slice_index base (place stage n)
      was =
          sym (sym (ap (λ (w : Want). words (word_of site.shape w)) s.wants ∙ ap words (due_place s.word s.value s.comes)) ∙ found)
          ∙ knows place_at (slice_index op.words (place stage n)) (c.all.words_are (place stage n) (place_low stage n low)) ∙ c.partly.behind n (omega arith) low

      abbrev w : View
      w = view_then site.shape (sets place_at value) m v

      loose_after : IsLooseBefore site op.guarded op.words stage base later w
      loose_after p loose =
          let on = seek_behind (is_changed stored stage) (most stage) (n + 1) in
          elim loose [
            | inl dirty ↦ elim (loosened_has site.shape place_at m value v.dirty p dirty) [
              | inl same ↦ (n, omega (arith, on), same ∙ ap (λ x. (place_at, x)) was)
              | inr old ↦ (let q = c.loose p (inl old) in (q.0, (let less = q.1 in omega (arith, on, less)), q.2))
            ]
            | inr flushed ↦ (let q = c.loose p (inr flushed) in (q.0, (let less = q.1 in omega (arith, on, less)), q.2))
          ]

      by_store : Stood (rounds_stores rounds next) u
      by_store =
          let stands : RoundStands after w = subst (λ (k : StepKind). RoundStands after (view_by site.shape k m v)) kind_is stands_after in
          subst (λ (k : StepKind). Stood (rounds_stores rounds next) (view_by site.shape k m v)) (sym kind_is) (subst (λ t. Stood t w) (sym s.stores)
          (rounding_stands site here call stored (is_stored site here op is (place stage n)) stage base later after w (record {
            partly = passed_over stored stage base (n + 1) (partly_stored op stage base n c.partly is.each_word low);
            changes = λ far. changed_differs stored stage (n + 1) (omega (arith, low)) far;
            all = all_stored site op.guarded op.words (place stage n) value (place_low stage n low) is.each_word m v c.all;
            stands = stands;
            lines = lines_after;
            loose = loose_after;
          }) (in_stage site op.guarded stage base v w refl known)))

    -- ---- a flush, and a fence
    by_flush : IsFlush rounds next want → Stood (rounds_stores rounds next) u
    by_flush f =
        let line : ℕ = slice_index rounds.round f.number in
        let kind_is : rounds_kind rounds next [] ≡ of_call (flushes line) = of_want (wants.Flush line) f.wants in
        let w : View = view_after site.shape (flushes line) m v in
        let stands : RoundStands after w = subst (λ (k : StepKind). RoundStands after (view_by site.shape k m v)) kind_is stands_after in
        subst (λ (k : StepKind). Stood (rounds_stores rounds next) (view_by site.shape k m v)) (sym kind_is) (subst (λ t. Stood t w) (sym f.stores)
        (rounding_stands site here call op is stage base n after w (record {
          partly = c.partly;
          changes = c.changes;
          all = all_kept site op.guarded op.words words_of_buckets v w refl refl refl refl refl refl c.all;
          stands = stands;
          lines = lines_after;
          loose = λ p loose. c.loose p (flush_loose line v.dirty v.flushed p loose);
        }) (in_stage site op.guarded stage base v w refl known)))

    by_fence : IsFence rounds next want → Stood (rounds_stores rounds next) u
    by_fence f =
        let kind_is : rounds_kind rounds next [] ≡ of_structure (settles []) = of_want wants.Fence f.wants in
        let w : View = view_then site.shape (settles []) m v in
        let stands : RoundStands after w = subst (λ (k : StepKind). RoundStands after (view_by site.shape k m v)) kind_is stands_after in
        subst (λ (k : StepKind). Stood (rounds_stores rounds next) (view_by site.shape k m v)) (sym kind_is) (subst (λ t. Stood t w) (sym f.stores)
        (rounding_stands site here call op is stage base n after w (record {
          partly = c.partly;
          changes = c.changes;
          all = all_kept site op.guarded op.words words_of_buckets v w refl refl refl refl refl refl c.all;
          stands = stands;
          lines = lines_after;
          loose = λ p loose. elim loose [ inl dirty ↦ c.loose p (inl dirty) | inr none ↦ absurd none ];
        }) (in_stage site op.guarded stage base v w refl known)))

    by_event : IsRoundEvent rounds next want → Stood (rounds_stores rounds next) u
    by_event event = elim event [ inl s ↦ by_store s | inr f ↦ elim f [ inl f ↦ by_flush f | inr f ↦ by_fence f ] ]

    -- THE VIEW AFTER stands for the next step
    pub round_stands : MendStands site here call (next_in op (Round stage n rounds) (answer_to (wanted_in op (Round stage n rounds)) m)) u
    round_stands =
        let event = event_cases rounds next want wanted in
        let passed : answer_to (wanted_in op (Round stage n rounds)) m ≡ Passed = ap (λ w. answer_to w m) (event_of rounds next want c.stands.few wanted) ∙ event_answer rounds next want m event in
        subst (λ (a : Ans). MendStands site here call (next_in op (Round stage n rounds) a) u) (sym passed) (by_event event)
