-- While buckets are cleared: which event each is, what it asks, and what it leaves.
use Rattle.std.proofs.Common.{◌≡◌, ◌≢◌, ℕ, ◌+◌, ◌^◌, ◌<◌, ◌≤◌, Bool, true, false, Option, None, Some, List, [], inl, inr, refl, sym, ap, ◌∙◌, subst, arith}
use Rattle.std.specs.Prelude.{◌==◌, if◌then◌else◌, slice_index, nat_lt}
use Rattle.std.proofs.lemmas.Bool.{cases_eq, ltb-true, ltb-false, eq-eqb, ne_eqb}
use Rattle.std.proofs.lemmas.Option.{none-some, same_Some}
use Rattle.trace.specs.Events.{line_of}
use Rattle.op_core.specs.declared.want.Want.{Want}
use Rattle.op_core.specs.declared.want.Want.TheVariants as wants
use Rattle.op_core.specs.declared.want.Ans.{Ans}
use Rattle.op_core.specs.declared.want.Ans.TheVariants.{Passed}
use Rattle.segment_head.specs.HeadWord.{depth_in}
use Rattle.image_layout.specs.Places.{bucket_at, buckets, block}
use Rattle.frame_facts.specs.Facts.{Fact, Lacks, Deep}
use Rattle.world.specs.Ground.{Ground, IsGround}
use Rattle.world.specs.Views.{View, Has, IsLoose}
use Rattle.world.specs.Kinds.{flushes, view_after}
use Rattle.world.specs.Wants.{answer_to}
use Rattle.world.specs.areas.Kinds.{sets, settles, view_then}
use Rattle.world.specs.areas.Asking.{MayAt}
use Rattle.world.specs.StepKinds.{StepKind, of_call, of_structure, view_by, MayTake}
use Rattle.world.proofs.basics.Seats.{loosened_has, flush_loose}
use Rattle.world.proofs.holders.directing.Finishing.{may_finish}
use Rattle.enclose_op.specs.Phases.{IsLocated}
use Rattle.rounds.specs.declared.rounds.Rounds.{Rounds}
use Rattle.rounds.specs.Steps.{rounds_stores, rounds_wanted, rounds_taken}
use Rattle.rounds.specs.Events.{IsStore, IsFlush, IsFence, IsRoundEvent}
use Rattle.rounds.specs.Stands.{kind_of, rounds_kind, RoundStands}
use Rattle.rounds.proofs.Events.{event_cases, events_end}
use Rattle.rounds.proofs.Lines.{lines_are_stored}
use Rattle.rounds.proofs.Wanted.{event_of, event_answer}
use Rattle.rounds.proofs.Settling.{rounds_settle}
use Rattle.rounds.proofs.Keeping.{rounds_may}
use Rattle.enclose_op.specs.declared.enclosed.Enclosed.{Enclosed}
use Rattle.enclose_op.specs.Whole.{kept_word, kept_third}
use Rattle.enclose_op.specs.Giving.{lock_of}
use Rattle.rest_op.specs.declared.op.RestOp.{RestOp}
use Rattle.rest_op.specs.declared.op.RestStep.TheVariants.{Clear}
use Rattle.rest_op.specs.Steps.{due, clear_from, is_cleared, next_clear, clearing, clearing_by, wanted_in, next_in}
use Rattle.rest_op.specs.Reckoned.{side_depth, side_pattern, IsReckoned}
use Rattle.rest_op.specs.Stands.{value_of, cleared_before, IsSplit, IsLooseBefore, IsClearedLine, IsClearing, SuitsStep}
use Rattle.enclose_op.proofs.Places.{lock_is}
use Rattle.rest_op.proofs.whole.Places.{same_bucket}
use Rattle.rest_op.proofs.whole.Words.{rest_words, same_value}
use Rattle.rounds.proofs.Seeking.{seek_within, seek_behind}
use Rattle.rest_op.proofs.whole.Known.{all_same, all_kept, all_stored, no_sides, settled_holder, holds_bucket, knows_word}
use Rattle.rest_op.proofs.Clearing.{clears, before_here, passed_over, cleared_more, all_cleared}

-- the store that is to come, where one is
module _ (op : RestOp) (b : ℕ) where
  abbrev due_at : Bool → Option (ℕ × ℕ)
  due_at t = if t then Some (lock_of op.whole b + 1, slice_index op.cleared b) else None

  due_by : (t : Bool) → nat_lt b buckets ≡ t → (word value : ℕ) → due_at t ≡ Some (word, value)
      → (b < buckets) × (word ≡ lock_of op.whole b + 1) × (value ≡ slice_index op.cleared b)
  due_by true is word value same =
      let pair : ◌≡◌ {A = ℕ × ℕ} (lock_of op.whole b + 1, slice_index op.cleared b) (word, value) = same_Some _ _ same in
      (ltb-true b buckets is, sym (ap (λ (p : ℕ × ℕ). p.0) pair), sym (ap (λ (p : ℕ × ℕ). p.1) pair))
  due_by false is word value same = absurd (none-some _ same)

  pub due_is : (word value : ℕ) → due op b ≡ Some (word, value) → (b < buckets) × (word ≡ lock_of op.whole b + 1) × (value ≡ slice_index op.cleared b)
  due_is word value same = due_by (nat_lt b buckets) refl word value same

  none_by : (t : Bool) → nat_lt b buckets ≡ t → due_at t ≡ None → buckets ≤ b
  none_by true is same = absurd (none-some _ (sym same))
  none_by false is same = ltb-false b buckets is

  pub due_none : due op b ≡ None → buckets ≤ b
  due_none same = none_by (nat_lt b buckets) refl same

module _ (site : Ground) (op : RestOp) (l : IsLocated site op.whole.site op.whole.segment) where
  abbrev e : Enclosed
  e = op.whole

  abbrev at : ℕ → ℕ
  at c = bucket_at site.shape e.segment c

  due_word : (b word value : ℕ) → due op b ≡ Some (word, value) → word ≡ at b + 1
  due_word b word value same = let d = due_is op b word value same in d.1 ∙ ap (λ i. i + 1) (lock_is site e l b d.0)

  -- ---- where the rounds go on, or the header is next
  at_end : (b : ℕ) → b ≤ buckets → buckets ≤ b → b ≡ buckets
  at_end b near high = omega (arith, near, high)

  split_end : (b : ℕ) (v : View) → b ≡ buckets → IsSplit site e (cleared_before op b) v → IsSplit site e (λ c. slice_index op.cleared c) v
  split_end b v last s = record {
    head = s.head;
    is_head = s.is_head;
    all = all_same site e (cleared_before op b) (kept_third e) (λ c. slice_index op.cleared c) (kept_third e) s.head v (λ c near. all_cleared op c near ∙ ap (λ d. cleared_before op d c) (sym last)) (λ c near. refl) s.all;
    lacks = s.lacks;
    deep = s.deep;
  }

  suits_by : (b : ℕ) (rounds : Rounds) (v : View) → IsClearing site op b rounds v → (want : Option Want) → rounds_wanted rounds (due op b) ≡ want → SuitsStep site op (clearing_by op want b rounds) v
  suits_by b rounds v c (Some want) is = (c, λ none. none-some _ (sym none ∙ is))
  suits_by b rounds v c None is =
      let over = events_end rounds (due op b) is in
      (split_end b v (at_end b c.near (due_none op b over.1)) c.split, rounds_settle.ends rounds (due op b) v c.stands is)

  pub clearing_suits : (b : ℕ) (rounds : Rounds) (v : View) → IsClearing site op b rounds v → SuitsStep site op (clearing op b rounds) v
  clearing_suits b rounds v c = suits_by b rounds v c (rounds_wanted rounds (due op b)) refl

  -- ---- one event
  module _ (ground : IsGround site) (small : (i : ℕ) → slice_index e.buckets i < 2 ^ 64) (reckoned : IsReckoned op)
      (b : ℕ) (rounds : Rounds) (v : View) (c : IsClearing site op b rounds v) where
    abbrev next : Option (ℕ × ℕ)
    next = due op b

    -- no word of a bucket that is not cleared yet is loose, and neither are header and link
    bucket_firm : (n : ℕ) → n < block → (y : ℕ) → IsLoose v (at b + n, y) → ⊥
    bucket_firm n low y loose = let q = c.loose (at b + n, y) loose in let same = (same_bucket site.shape e.segment b q.0 n 1 low (omega arith) q.2).0 in absurd (omega (arith, same, q.1))

    -- THE STORE frees records of the side, of which the segment has nothing
    store_may : (word value : ℕ) → next ≡ Some (word, value) → MayAt site (sets word value) v
    store_may word value same =
        let d = due_is op b word value same in
        let a = c.split.all in
        let words = rest_words site.shape e (cleared_before op b) (kept_third e) c.split.head a.link.0 in
        let may = (may_finish site v ground).clear e.segment b (slice_index op.cleared b) (side_depth e) (side_pattern e) words (settled_holder site e (cleared_before op b) (kept_third e) c.split.head v a l)
        (holds_bucket site e (cleared_before op b) (kept_third e) c.split.head v a l b d.0) c.split.lacks
        (λ n from low. knows_word site e (cleared_before op b) (kept_third e) c.split.head v a b n d.0 from low (bucket_firm n low))
        (clears site op l small reckoned (cleared_before op b) c.split.head a.link.0 b d.0 (before_here op b)) in
        subst (λ i. MayAt site (sets i value) v) (sym (due_word b word value same)) (subst (λ x. MayAt site (sets (at b + 1) x) v) (sym d.2) may)

    pub round_may : MayTake site (rounds_kind rounds next []) v
    round_may = rounds_may.may site [] rounds next v (λ word value same _. store_may word value same)
        (λ _. rounds_may.fence site v (λ n side. absurd (no_sides site e (cleared_before op b) (kept_third e) c.split.head v c.split.all n side)))

    -- ---- what it leaves
    -- words that are kept are those of the buckets that are not stored to
    not_first : (first other third : ℕ → ℕ) (d k : ℕ) → k ≢ 1 → value_of e first third d k ≡ value_of e other third d k
    not_first first other third d k apart =
        ap (λ t. if t then first d else if k == 3 then third d else kept_word e d k) (ne_eqb k 1 apart) ∙ sym (ap (λ t. if t then other d else if k == 3 then third d else kept_word e d k) (ne_eqb k 1 apart))

    other_values : (d k : ℕ) → d < buckets → k < block → (d ≡ b → k ≡ 1 → ⊥) → value_of e (cleared_before op (b + 1)) (kept_third e) d k ≡ value_of e (cleared_before op b) (kept_third e) d k
    other_values d k near low apart = elim (cases_eq d b) [
      | inl same ↦ not_first (cleared_before op (b + 1)) (cleared_before op b) (kept_third e) d k (apart same)
      | inr other ↦ same_value e (cleared_before op b) (kept_third e) (cleared_before op (b + 1)) (kept_third e) d k
          (cleared_more op b d ∙ ap (λ t. if t then slice_index op.cleared b else cleared_before op b d) (ne_eqb d b other)) refl
    ]

    here_value : cleared_before op (b + 1) b ≡ slice_index op.cleared b
    here_value = cleared_more op b b ∙ ap (λ t. if t then slice_index op.cleared b else cleared_before op b b) (eq-eqb b b refl)

    module _ (n : ℕ) where
      abbrev stored : ℕ → ℕ → View
      stored i x = view_then site.shape (sets i x) n v

      abbrev later : ℕ
      later = clear_from op (b + 1)

      stored_split : (near : b < buckets) → IsSplit site e (cleared_before op later) (stored (at b + 1) (slice_index op.cleared b))
      stored_split near = record {
        head = c.split.head;
        is_head = c.split.is_head;
        all = all_same site e (cleared_before op (b + 1)) (kept_third e) (cleared_before op later) (kept_third e) c.split.head (stored (at b + 1) (slice_index op.cleared b)) (λ d _. passed_over op (b + 1) d) (λ d _. refl)
            (all_stored site e (cleared_before op b) (kept_third e) (cleared_before op (b + 1)) (kept_third e) c.split.head b 1 (slice_index op.cleared b) n v near (omega arith) here_value other_values c.split.all);
        lacks = c.split.lacks;
        deep = c.split.deep;
      }

      stored_loose : (near : b < buckets) → IsLooseBefore site e later (stored (at b + 1) (slice_index op.cleared b))
      stored_loose near p loose =
          let on = seek_behind (is_cleared op) buckets (b + 1) in
          elim loose [
            | inl dirty ↦ elim (loosened_has site.shape (at b + 1) n (slice_index op.cleared b) v.dirty p dirty) [
              | inl same ↦ (b, omega (arith, on), ap (λ (q : ℕ × ℕ). q.0) same)
              | inr old ↦ (let q = c.loose p (inl old) in (q.0, omega (arith, on, q.1), q.2))
            ]
            | inr flushed ↦ (let q = c.loose p (inr flushed) in (q.0, omega (arith, on, q.1), q.2))
          ]

      lines_after : (line : ℕ) → Has line (rounds_taken rounds next).round → IsClearedLine site e line
      lines_after = (lines_are_stored (IsClearedLine site e)).keeps rounds next c.lines (λ word value same. (b, (due_is op b word value same).0, ap line_of (due_word b word value same)))

      stands_after : RoundStands (rounds_taken rounds next) (view_by site.shape (rounds_kind rounds next []) n v)
      stands_after = rounds_settle.stands site.shape [] rounds next n v c.stands

      -- the view is that of a kind
      module _ (want : Want) (is : rounds_wanted rounds next ≡ Some want) where
        of_want : (w : Want) → want ≡ w → rounds_kind rounds next [] ≡ kind_of [] (Some w)
        of_want w same = ap (kind_of []) (is ∙ ap Some same)

        abbrev Goal : Bool → View → Type 0
        Goal stores u = IsClearing site op (next_clear op stores b) (rounds_taken rounds next) u

        by_store : IsStore rounds next want → Goal (rounds_stores rounds next) (view_by site.shape (rounds_kind rounds next []) n v)
        by_store s =
            let d = due_is op b s.word s.value s.comes in
            let kind_is : rounds_kind rounds next [] ≡ of_structure (sets (at b + 1) (slice_index op.cleared b)) = of_want (wants.Store s.word s.value) s.wants ∙ ap (λ i. of_structure (sets i s.value)) (due_word b s.word s.value s.comes)
            ∙ ap (λ x. of_structure (sets (at b + 1) x)) d.2 in
            let u : View = stored (at b + 1) (slice_index op.cleared b) in
            let stands : RoundStands (rounds_taken rounds next) u = subst (λ (k : StepKind). RoundStands (rounds_taken rounds next) (view_by site.shape k n v)) kind_is stands_after in
            subst (λ (k : StepKind). Goal (rounds_stores rounds next) (view_by site.shape k n v)) (sym kind_is) (subst (λ t. Goal t u) (sym s.stores) (record {
              split = stored_split d.0;
              near = seek_within (is_cleared op) buckets (b + 1) (omega (arith, d.0));
              stands = stands;
              lines = lines_after;
              loose = stored_loose d.0;
            }))

        kept_split : (u : View) → u.areas ≡ v.areas → u.held ≡ v.held → u.known ≡ v.known → u.planned ≡ v.planned → u.moving ≡ v.moving → u.owed ≡ v.owed → u.facts ≡ v.facts
            → IsSplit site e (cleared_before op b) u
        kept_split u areas held known planned moving owed facts = record {
          head = c.split.head;
          is_head = c.split.is_head;
          all = all_kept site e (cleared_before op b) (kept_third e) c.split.head v u areas held known planned moving owed c.split.all;
          lacks = subst (λ (fs : List Fact). Has (Lacks e.segment (side_depth e) (side_pattern e)) fs) (sym facts) c.split.lacks;
          deep = subst (λ (fs : List Fact). Has (Deep (depth_in e.head) (side_depth e) (side_pattern e)) fs) (sym facts) c.split.deep;
        }

        by_flush : IsFlush rounds next want → Goal (rounds_stores rounds next) (view_by site.shape (rounds_kind rounds next []) n v)
        by_flush f =
            let line : ℕ = slice_index rounds.round f.number in
            let kind_is : rounds_kind rounds next [] ≡ of_call (flushes line) = of_want (wants.Flush line) f.wants in
            let u : View = view_after site.shape (flushes line) n v in
            let stands : RoundStands (rounds_taken rounds next) u = subst (λ (k : StepKind). RoundStands (rounds_taken rounds next) (view_by site.shape k n v)) kind_is stands_after in
            subst (λ (k : StepKind). Goal (rounds_stores rounds next) (view_by site.shape k n v)) (sym kind_is) (subst (λ t. Goal t u) (sym f.stores) (record {
              split = kept_split u refl refl refl refl refl refl refl;
              near = c.near;
              stands = stands;
              lines = lines_after;
              loose = λ p loose. c.loose p (flush_loose line v.dirty v.flushed p loose);
            }))

        by_fence : IsFence rounds next want → Goal (rounds_stores rounds next) (view_by site.shape (rounds_kind rounds next []) n v)
        by_fence f =
            let kind_is : rounds_kind rounds next [] ≡ of_structure (settles []) = of_want wants.Fence f.wants in
            let u : View = view_then site.shape (settles []) n v in
            let stands : RoundStands (rounds_taken rounds next) u = subst (λ (k : StepKind). RoundStands (rounds_taken rounds next) (view_by site.shape k n v)) kind_is stands_after in
            subst (λ (k : StepKind). Goal (rounds_stores rounds next) (view_by site.shape k n v)) (sym kind_is) (subst (λ t. Goal t u) (sym f.stores) (record {
              split = kept_split u refl refl refl refl refl refl refl;
              near = c.near;
              stands = stands;
              lines = lines_after;
              loose = λ p loose. elim loose [ inl dirty ↦ c.loose p (inl dirty) | inr none ↦ absurd none ];
            }))

        by_event : IsRoundEvent rounds next want → Goal (rounds_stores rounds next) (view_by site.shape (rounds_kind rounds next []) n v)
        by_event event = elim event [ inl s ↦ by_store s | inr f ↦ elim f [ inl f ↦ by_flush f | inr f ↦ by_fence f ] ]

        -- THE VIEW AFTER stands for the next step
        pub round_stands : SuitsStep site op (next_in op (Clear b rounds) (answer_to (wanted_in op (Clear b rounds)) n)) (view_by site.shape (rounds_kind rounds next []) n v)
        round_stands =
            let u : View = view_by site.shape (rounds_kind rounds next []) n v in
            let event = event_cases rounds next want is in
            let passed : answer_to (wanted_in op (Clear b rounds)) n ≡ Passed = ap (λ w. answer_to w n) (event_of rounds next want c.stands.few is) ∙ event_answer rounds next want n event in
            subst (λ (a : Ans). SuitsStep site op (next_in op (Clear b rounds) a) u) (sym passed) (clearing_suits (next_clear op (rounds_stores rounds next) b) (rounds_taken rounds next) u (by_event event))
