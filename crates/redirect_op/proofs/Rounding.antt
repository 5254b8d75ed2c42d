-- An entry is stored in rounds, and all that was stored is settled by the last fence.
use Rattle.std.proofs.Common.{◌≡◌, ◌≢◌, ℕ, ◌+◌, ◌*◌, ◌^◌, ◌<◌, ◌≤◌, inl, inr, true, false, Option, None, Some, [], refl, sym, ap, ◌∙◌, subst, arith}
use Rattle.std.specs.Prelude.{⊤}
use Rattle.std.proofs.lemmas.Option.{none-some, same_Some}
use Rattle.op_core.specs.declared.want.Want.{Want}
use Rattle.op_core.specs.declared.want.Want.TheVariants as want
use Rattle.hash_word.specs.Hash.{first_hash_of}
use Rattle.segment_head.specs.HeadWord.{depth_in, pattern_in}
use Rattle.image_layout.specs.Places.{Shape, block, root_word, entry_at, first_segment, words_of}
use Rattle.image_layout.proofs.Areas.{entry_before}
use Rattle.map_model.specs.declared.call.Call.{Call}
use Rattle.world.specs.declared.site.Site.{Site}
use Rattle.world.specs.Ground.{Ground, IsGround}
use Rattle.world.specs.Views.{View, Has, IsLoose}
use Rattle.world.specs.Wants.{answer_to}
use Rattle.world.specs.Kinds.{flushes, view_after}
use Rattle.world.specs.areas.Areas.{IsDirectoryWord}
use Rattle.world.specs.areas.Kinds.{sets, settles, view_then}
use Rattle.world.specs.areas.Asking.{MayAt}
use Rattle.world.specs.areas.Repairing.{side_depth_in, side_pattern_in}
use Rattle.world.specs.StepKinds.{wanted_of, view_by, MayTake}
use Rattle.world.proofs.basics.Seats.{without_has, without_stays, loosened_has, flush_loose}
use Rattle.world.proofs.holders.repairing.SideEntries.{side_later}
use Rattle.rounds.specs.declared.rounds.Rounds.{Rounds}
use Rattle.rounds.specs.Steps.{rounds_stores, rounds_wanted, want_or_done, rounds_taken}
use Rattle.rounds.specs.Events.{IsFlush, IsFence}
use Rattle.rounds.specs.Stands.{kind_of, rounds_kind, RoundStands, IsSettled}
use Rattle.rounds.proofs.Events.{store_wanted}
use Rattle.rounds.proofs.Lines.{lines_are_stored}
use Rattle.rounds.proofs.Wanted.{by_event, flushed_wants}
use Rattle.rounds.proofs.Settling.{fence_dirty, round_behind, begun_settled}
use Rattle.repair_op.specs.declared.guarded.Guarded.{Guarded}
use Rattle.directory_op.specs.Places.{entry_word_at}
use Rattle.directory_op.proofs.Words.{entry_is, entry_no_root, entry_same, entry_no_slot, entry_from}
use Rattle.directory_op.proofs.stages.Rounding.{line_within}
use Rattle.redirect_op.specs.declared.step.RedirectStep.TheVariants.{Store, Settle}
use Rattle.redirect_op.specs.declared.op.RedirectOp.{RedirectOp}
use Rattle.redirect_op.specs.Steps.{shape_of, slot_or_zero, side_of, store_to, go, stored_by, with_rounds, stored, settled_to, next_in}
use Rattle.redirect_op.specs.Stands.{facts_of, IsGuarding, IsRooted, LeadsBehind, LeadsPast, LeadBelow, ComesNext, AreToSettle, AreSettled, SuitsStep}
use Rattle.redirect_op.proofs.Holding.{GoesOn, guarding_stays, rooted_stays, behind_stays, past_stays, round_may, enter_may, settle_may}
use Rattle.redirect_op.proofs.Onward.{below_or_last, onward, below_stays, next_stays}

module _ (site : Ground) (ground : IsGround site) (here : Site) (call : Call) (op : RedirectOp) (v : View) where
  abbrev g : Guarded
  g = op.guarded

  abbrev shape : Shape
  shape = site.shape

  abbrev Every : ℕ → Type 0
  Every i = ⊤

  -- a machine suits a view
  abbrev Stood : RedirectOp → View → Type 0
  Stood o u = SuitsStep site here call o o.step u

  -- ---- a flush, and a fence
  module _ (n line : ℕ) where
    abbrev flushed : View
    flushed = view_after shape (flushes line) n v

    keeps_flushed : GoesOn site Every v flushed
    keeps_flushed = record { areas = refl; held = refl; planned = refl; moving = refl; owed = refl; facts = λ fact has. has; known = λ i x still has. has; only = λ p has. inl has }

    flushed_loose : (p : ℕ × ℕ) → IsLoose flushed p → IsLoose v p
    flushed_loose p loose = flush_loose line v.dirty v.flushed p loose

  module _ (n : ℕ) where
    abbrev fenced : View
    fenced = view_then shape (settles []) n v

    keeps_fenced : GoesOn site Every v fenced
    keeps_fenced = record { areas = refl; held = refl; planned = refl; moving = refl; owed = refl; facts = λ fact has. has; known = λ i x still has. has; only = λ p has. inl has }

    fenced_loose : (p : ℕ × ℕ) → IsLoose fenced p → IsLoose v p
    fenced_loose p loose = elim loose [ inl d ↦ inl d | inr none ↦ absurd none ]

    -- with which all is settled
    abbrev told : View
    told = view_then shape (settles (facts_of g)) n v

    keeps_told : GoesOn site Every v told
    keeps_told = record { areas = refl; held = refl; planned = refl; moving = refl; owed = refl; facts = λ fact has. inr (inr has); known = λ i x still has. has; only = λ p has. inl has }

    pub told_settled : IsGuarding site here g v → IsSettled told → AreSettled site here g told
    told_settled s settled = record { guarding = guarding_stays site here g Every v told keeps_told (λ i far. tt) s; settled = settled; deep = inl refl }

  -- ---- an entry is stored
  module _ (index : ℕ) (c : ComesNext site here g op.root op.rounds index v) where
    abbrev rooted : IsRooted site here g op.root v
    rooted = c.below.rooted

    abbrev next : Option (ℕ × ℕ)
    next = Some (store_to op index)

    abbrev entry : ℕ
    entry = entry_at op.root index

    pub entry_here : entry_word_at (shape_of op) op.root index ≡ entry
    entry_here = entry_is (shape_of op) shape op.root index rooted.guarding.here_is.shape rooted.within ground.shape.depth c.of_side.index

    pub side_here : side_of op ≡ rooted.guarding.side
    side_here = ap slot_or_zero rooted.guarding.side_is

    pub entry_low : entry_word_at (shape_of op) op.root index < words_of shape
    entry_low = subst (λ i. i < words_of shape) (sym entry_here) (by (first_segment shape) shape.segments entry (entry_before shape op.root index rooted.within c.of_side.index))
      where
        by : (f s i : ℕ) → i < f → i < f + 2144 * s
        by f s i low = omega (arith, low)

    lines_behind : (line : ℕ) → Has line (rounds_taken op.rounds next).round → 8 * line + 8 ≤ words_of shape
    lines_behind = (lines_are_stored (λ line. 8 * line + 8 ≤ words_of shape)).keeps op.rounds next c.in_rounds.lines
        (λ word value e. line_within shape word (subst (λ (p : ℕ × ℕ). p.0 < words_of shape) (same_Some _ _ e) entry_low))

    -- it is not loose before
    entry_firm : (y : ℕ) → IsLoose v (entry, y) → ⊥
    entry_firm y loose = let e = c.below.loose (entry, y) loose in let same = entry_same op.root index e.0 e.3 in other index e.0 same e.1
      where
        other : (i j : ℕ) → i ≡ j → j < i → ⊥
        other i j same low = omega (arith, same, low)

    pub store_may : LeadsPast site here g op.root index v → (p : ℕ × ℕ) → next ≡ Some p → MayAt site (sets p.0 p.1) v
    store_may past p e = subst (λ (q : ℕ × ℕ). MayAt site (sets q.0 q.1) v) (same_Some _ _ e)
        (subst (λ i. MayAt site (sets i (side_of op)) v) (sym entry_here) (subst (λ x. MayAt site (sets entry x) v) (sym side_here)
        (enter_may site ground here g op.root v rooted (λ q loose. (let e = c.below.loose q loose in (e.0, e.2, e.3))) index c.of_side entry_firm past)))

    -- ---- behind the store
    abbrev w : ℕ
    w = entry_word_at (shape_of op) op.root index

    module _ (n : ℕ) (on : rounds_stores op.rounds next ≡ true) where
      abbrev entered : View
      entered = view_then shape (sets w (side_of op)) n v

      abbrev Other : ℕ → Type 0
      Other i = i ≢ w

      in_front : IsDirectoryWord shape w
      in_front = inr (subst (λ i. (block ≤ i) × (i < first_segment shape)) (sym entry_here) (entry_from op.root index, entry_before shape op.root index rooted.within c.of_side.index))

      keeps_entered : GoesOn site Other v entered
      keeps_entered = record {
        areas = refl;
        held = refl;
        planned = refl;
        moving = refl;
        owed = refl;
        facts = λ fact has. has;
        known = λ i y apart has. inr (without_stays w i y v.known apart has);
        only = λ p has. elim has [
          | inl same ↦ inr (subst (λ (q : ℕ × ℕ). IsDirectoryWord shape q.0) (sym same) in_front)
          | inr was ↦ inl (without_has w p.0 p.1 v.known was).1
        ];
      }

      far : (i : ℕ) → first_segment shape ≤ i → Other i
      far i high e = entry_no_slot shape op.root index i rooted.within c.of_side.index high (e ∙ entry_here)

      root_other : Other root_word
      root_other e = entry_no_root op.root index (e ∙ entry_here)

      below_other : (j : ℕ) → j < index → Other (entry_at op.root j)
      below_other j low e = let same = entry_same op.root j index (e ∙ entry_here) in omega (arith, low, same)

      -- it leads into the side
      side_behind : LeadsBehind site here g op.root index entered
      side_behind = (
        rooted.guarding.side,
        first_hash_of (side_depth_in g.head) (side_pattern_in g.head),
        record { named = inl (ap (λ i. (i, rooted.guarding.side)) (sym entry_here) ∙ ap (λ x. (w, x)) (sym side_here)); begins = rooted.guarding.ready.begins },
        side_later (depth_in g.head) (pattern_in g.head) (let a = rooted.deeper in let b = rooted.within in let c = ground.shape.depth in omega (arith, a, b, c)),
      )

      lead_more : LeadBelow site here g op.root (index + 1) entered
      lead_more = record {
        rooted = rooted_stays site here g Other v entered keeps_entered far op.root root_other rooted;
        behind = λ j low is. elim (below_or_last j index low) [
          | inl less ↦ behind_stays site here g Other v entered keeps_entered far op.root j (below_other j less) (c.below.behind j less is)
          | inr same ↦ subst (λ k. LeadsBehind site here g op.root k entered) (sym same) side_behind
        ];
        loose = λ p loose. elim loose [
          | inl dirty ↦ elim (loosened_has shape w n (side_of op) v.dirty p dirty) [
            | inl same ↦ (index, last index, c.of_side.index, ap (λ (q : ℕ × ℕ). q.0) same ∙ entry_here)
            | inr was ↦ old p (inl was)
          ]
          | inr flushed ↦ old p (inr flushed)
        ];
      }
        where
          last : (i : ℕ) → i < i + 1
          last i = omega arith

          more : (j i : ℕ) → j < i → j < i + 1
          more j i low = omega (arith, low)

          old : (p : ℕ × ℕ) → IsLoose v p → (j : ℕ) × (j < index + 1) × (j < 2 ^ op.root) × (p.0 ≡ entry_at op.root j)
          old p loose = let e = c.below.loose p loose in (e.0, more e.0 index e.1, e.2, e.3)

      pub entered_stands : rounds_wanted op.rounds next ≡ Some (want.Store w (side_of op)) → SuitsStep site here call (stored op index) (stored op index).step entered
      entered_stands is =
          let later : RedirectOp = with_rounds op next in
          let round = round_behind shape op.rounds next n v c.in_rounds.round [] (want.Store w (side_of op)) is in
          subst (λ b. SuitsStep site here call (stored_by b later index) (stored_by b later index).step entered) (sym on)
          (onward site ground here call later index entered lead_more c.of_side (record { round = round; lines = lines_behind }))

    -- ---- behind a flush or a fence, the entry still comes next
    module _ (at_store : op.step ≡ Store index) (past : LeadsPast site here g op.root index v) (n : ℕ) where
      still_next : (u : View) → GoesOn site Every v u → ((p : ℕ × ℕ) → IsLoose u p → IsLoose v p) → RoundStands (rounds_taken op.rounds next) u → rounds_stores op.rounds next ≡ false
          → SuitsStep site here call (stored op index) (stored op index).step u
      still_next u k loose round off =
          let later : RedirectOp = with_rounds op next in
          subst (λ b. SuitsStep site here call (stored_by b later index) (stored_by b later index).step u) (sym off)
          (subst (λ t. SuitsStep site here call later t u) (sym at_store) (
            next_stays site here g op.root op.rounds (rounds_taken op.rounds next) v u k index loose (record { round = round; lines = lines_behind }) c,
            past_stays site here g Every v u k (λ i far. tt) op.root index tt past,
          ))

      -- WHAT AN EVENT OF THE ROUNDS LEAVES
      abbrev Behind : Option Want → Type 0
      Behind o = Stood (next_in op (Store index) (answer_to (want_or_done o) n)) (view_by shape (kind_of [] o) n v)

      pub store_stands : rounds_wanted op.rounds next ≢ None → Behind (rounds_wanted op.rounds next)
      store_stands some = by_event op.rounds next Behind
          (λ p e on d is. subst (λ (q : ℕ × ℕ). Behind (Some (want.Store q.0 q.1))) (same_Some _ _ e) (entered_stands n on (store_wanted op.rounds w (side_of op) on)))
          (λ line e has d is. still_next (flushed n line) (keeps_flushed n line) (flushed_loose n line) (round_behind shape op.rounds next n v c.in_rounds.round [] (want.Flush line) e) is.stores)
          (λ e d is. still_next (fenced n) (keeps_fenced n) (fenced_loose n) (round_behind shape op.rounds next n v c.in_rounds.round [] want.Fence e) is.stores)
          some

      -- what is wanted, and may be done
      pub store_wants : rounds_wanted op.rounds next ≢ None → want_or_done (rounds_wanted op.rounds next) ≡ wanted_of shape (rounds_kind op.rounds next [])
      store_wants some = by_event op.rounds next (λ o. want_or_done o ≡ wanted_of shape (kind_of [] o)) (λ p e on d is. refl) (λ line e has d is. refl) (λ e d is. refl) some

      pub store_takes : rounds_wanted op.rounds next ≢ None → MayTake site (rounds_kind op.rounds next []) v
      store_takes some = by_event op.rounds next (λ o. MayTake site (kind_of [] o) v)
          (λ p e on d is. store_may past p e)
          (λ line e has d is. (tt, tt))
          (λ e d is. round_may site here g v rooted.guarding)
          some

  -- ---- all is settled
  module _ (s : AreToSettle site here g op.root op.rounds v) where
    settle_lines : (line : ℕ) → Has line (rounds_taken op.rounds None).round → 8 * line + 8 ≤ words_of shape
    settle_lines = (lines_are_stored (λ line. 8 * line + 8 ≤ words_of shape)).keeps op.rounds None s.in_rounds.lines (λ word value e. absurd (none-some _ e))

    pub last_may : v.dirty ≡ [] → MayAt site (settles (facts_of g)) v
    last_may clean = settle_may site ground here g op.root v s.below.rooted (λ q loose. (let e = s.below.loose q loose in (e.0, e.2, e.3))) s.below.behind clean

    module _ (n : ℕ) where
      abbrev later : RedirectOp
      later = with_rounds op None

      abbrev Settled : Option Want → Type 0
      Settled o = Stood (next_in op Settle (answer_to (want_or_done o) n)) (view_by shape (kind_of (facts_of g) o) n v)

      flush_settles : (line : ℕ) → rounds_wanted op.rounds None ≡ Some (want.Flush line) → (d : Want) → IsFlush op.rounds None d → Settled (Some (want.Flush line))
      flush_settles line e d is =
          let more = flushed_wants op.rounds.round is.number None in
          let wants : rounds_wanted (rounds_taken op.rounds None) None ≡ Some more.0 = ap (λ (r : Rounds). rounds_wanted r None) is.leaves ∙ more.1 in
          subst (λ (o : Option Want). SuitsStep site here call (go later (settled_to o)) (settled_to o) (flushed n line)) (sym wants) (record {
            below = below_stays site here g op.root op.rounds (rounds_taken op.rounds None) v (flushed n line) (keeps_flushed n line) (2 ^ op.root) (flushed_loose n line) s.below;
            in_rounds = record { round = round_behind shape op.rounds None n v s.in_rounds.round (facts_of g) (want.Flush line) e; lines = settle_lines };
            open_round = λ none. none-some _ (sym none ∙ wants);
          })

      fence_settles : rounds_wanted op.rounds None ≡ Some want.Fence → (d : Want) → IsFence op.rounds None d → Settled (Some want.Fence)
      fence_settles e d is =
          let round = round_behind shape op.rounds None n v s.in_rounds.round (facts_of g) want.Fence e in
          subst (λ (o : Option Want). SuitsStep site here call (go later (settled_to o)) (settled_to o) (told n)) (sym (ap (λ (r : Rounds). rounds_wanted r None) is.leaves))
          (told_settled n s.below.rooted.guarding (begun_settled (rounds_taken op.rounds None) (told n) is.leaves round))

      pub settle_stands : Settled (rounds_wanted op.rounds None)
      settle_stands = by_event op.rounds None Settled (λ p e on d is. absurd (none-some _ e)) (λ line e has d is. flush_settles line e d is) (λ e d is. fence_settles e d is) s.open_round

      pub settle_wants : want_or_done (rounds_wanted op.rounds None) ≡ wanted_of shape (rounds_kind op.rounds None (facts_of g))
      settle_wants = by_event op.rounds None (λ o. want_or_done o ≡ wanted_of shape (kind_of (facts_of g) o)) (λ p e on d is. refl) (λ line e has d is. refl) (λ e d is. refl) s.open_round

      pub settle_takes : MayTake site (rounds_kind op.rounds None (facts_of g)) v
      settle_takes = by_event op.rounds None (λ o. MayTake site (kind_of (facts_of g) o) v)
          (λ p e on d is. absurd (none-some _ e))
          (λ line e has d is. (tt, tt))
          (λ e d is. last_may (fence_dirty op.rounds None d v s.in_rounds.round is))
          s.open_round

  -- ---- nothing was stored
  module _ (b : LeadBelow site here g op.root (2 ^ op.root) v) (is : IsSettled v) (n : ℕ) where
    pub fence_takes : MayAt site (settles (facts_of g)) v
    fence_takes = settle_may site ground here g op.root v b.rooted (λ q loose. (let e = b.loose q loose in (e.0, e.2, e.3))) b.behind is.dirty

    pub fence_stands : AreSettled site here g (told n)
    fence_stands = told_settled n b.rooted.guarding (record { dirty = is.dirty; flushed = refl })
