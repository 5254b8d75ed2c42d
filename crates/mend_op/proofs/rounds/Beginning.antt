-- Where the rounds of a stage go on, or are over, and where they begin.
use Rattle.std.proofs.Common.{◌≡◌, ◌≢◌, ℕ, ◌*◌, ◌^◌, ◌<◌, ◌≤◌, Bool, true, false, Option, None, Some, List, slice_index, refl, sym, ap, ◌∙◌, subst, arith}
use Rattle.std.specs.Prelude.{◌==◌, not, if◌then◌else◌, nat_lt}
use Rattle.std.proofs.lemmas.Bool.{eqb-false, not-true, ltb-true, ltb-false}
use Rattle.std.proofs.lemmas.Option.{none-some}
use Rattle.op_core.specs.declared.want.Want.{Want}
use Rattle.segment_head.specs.HeadWord.{state_in, depth_in, normal}
use Rattle.image_layout.specs.Places.{Shape, homes}
use Rattle.frame_facts.specs.Facts.{Fact, Lacks, Deep}
use Rattle.map_model.specs.declared.call.Call.{Call}
use Rattle.world.specs.declared.site.Site.{Site}
use Rattle.world.specs.Ground.{Ground}
use Rattle.world.specs.Views.{View, Has}
use Rattle.world.specs.areas.Repairing.{side_depth_in, side_pattern_in}
use Rattle.rounds.specs.declared.rounds.Rounds.{Rounds}
use Rattle.rounds.specs.Steps.{begun, rounds_wanted}
use Rattle.rounds.specs.Stands.{IsSettled}
use Rattle.rounds.proofs.Events.{events_end}
use Rattle.rounds.proofs.Settling.{settled_firm, rounds_settle}
use Rattle.repair_op.specs.declared.guarded.Guarded.{Guarded}
use Rattle.mend_op.specs.declared.stage.Stage.{Stage}
use Rattle.mend_op.specs.declared.stage.Stage.TheVariants as stage
use Rattle.mend_op.specs.declared.op.MendStep.{MendStep}
use Rattle.mend_op.specs.declared.op.MendStep.TheVariants.{Note, Renew}
use Rattle.mend_op.specs.declared.op.MendOp.{MendOp}
use Rattle.mend_op.specs.Stages.{most, place, made}
use Rattle.mend_op.specs.Steps.{at_step, prepared, is_changed, changed_from, due, noting, begin_notes, over, rounding_by, rounding, begin}
use Rattle.mend_op.specs.Stands.{AreMended, IsInStage, HasAll, IsRounding, IsNoting}
use Rattle.mend_op.specs.MendPart.{IsOf, MendStands}
use Rattle.rounds.proofs.Seeking.{seek_within, seek_passes}
use Rattle.mend_op.proofs.Dues.{due_none}
use Rattle.mend_op.proofs.stages.Placing.{made_small}
use Rattle.mend_op.proofs.stages.Partly.{partly_begun, passed_over, all_made}
use Rattle.mend_op.proofs.stages.Mended.{is_left_mended}

-- the first word that is changed differs from what it is to be
not_same : (a b : ℕ) → not (a == b) ≡ true → a ≢ b
not_same a b differs = eqb-false a b (not-true (a == b) differs)

pub changed_differs : (op : MendOp) (stage : Stage) (from : ℕ) → from ≤ most stage → changed_from op stage from < most stage
    → slice_index op.words (place stage (changed_from op stage from)) ≢ slice_index op.next (place stage (changed_from op stage from))
changed_differs op stage from near low =
    not_same (slice_index op.words (place stage (changed_from op stage from))) (slice_index op.next (place stage (changed_from op stage from))) (seek_passes (is_changed op stage) (most stage) from near low)

-- what is known in a stage is known of a view that relies on the same
pub in_stage : (site : Ground) (guarded : Guarded) (stage : Stage) (base : List ℕ) (v u : View) → u.facts ≡ v.facts → IsInStage site guarded stage base v → IsInStage site guarded stage base u
in_stage site guarded stage.Clear base v u same is = record {
  splits = is.splits;
  lacks = subst (λ (fs : List Fact). Has (Lacks guarded.segment (side_depth_in guarded.head) (side_pattern_in guarded.head)) fs) (sym same) is.lacks;
  deep = subst (λ (fs : List Fact). Has (Deep (depth_in guarded.head) (side_depth_in guarded.head) (side_pattern_in guarded.head)) fs) (sym same) is.deep;
}
in_stage site guarded stage.Mend base v u same is = is
in_stage site guarded stage.Note base v u same is = is

module _ (site : Ground) (here : Site) (call : Call) where
  -- what runs is the same in another step, and with other words to come
  pub is_at : (op : MendOp) → IsOf site here op → (next : List ℕ) → ((i : ℕ) → slice_index next i < 2 ^ 64) → (t : MendStep)
      → IsOf site here (record { guarded = op.guarded; words = op.words; next = next; step = t })
  is_at op is next small t = record { here_is = is.here_is; old = is.old; each_word = is.each_word; small = is.small; next_small = small }

  pub same_shape : (op : MendOp) → IsOf site here op → op.guarded.site.geometry ≡ site.shape
  same_shape op is = is.here_is.shape

  -- ---- notes begin, where all is mended
  noting_by : (op : MendOp) → IsOf site here op → (n : ℕ) (v : View) → n ≤ 2 * homes → IsNoting site op.guarded op.words op.next n v → (t : Bool) → nat_lt n (2 * homes) ≡ t
      → MendStands site here call (at_step op (if t then Note n else Renew)) v
  noting_by op is n v near noting true low = record { is = is_at op is op.next is.next_small (Note n); view = (ltb-true n (2 * homes) low, noting) }
  noting_by op is n v near noting false high = record {
    is = is_at op is op.next is.next_small Renew;
    view = (let far = ltb-false n (2 * homes) high in let last : n ≡ 2 * homes = omega (arith, near, far) in subst (λ m. IsNoting site op.guarded op.words op.next m v) last noting);
  }

  pub noting_stands : (op : MendOp) → IsOf site here op → (n : ℕ) (v : View) → n ≤ 2 * homes → IsNoting site op.guarded op.words op.next n v → MendStands site here call (noting op n) v
  noting_stands op is n v near noting = noting_by op is n v near noting (nat_lt n (2 * homes)) refl

  notes_begin : (op : MendOp) → IsOf site here op → (v : View) → state_in op.guarded.head ≡ normal → AreMended site op.guarded op.words → HasAll site op.guarded op.words v → IsSettled v
      → MendStands site here call (begin_notes op) v
  notes_begin op is v is_normal mended all settled =
      let p : MendOp = prepared stage.Note op in
      noting_stands p (is_at op is p.next (made_small op.words op.guarded.site.geometry op.guarded.head is.small stage.Note) op.step) (changed_from p stage.Note 0) v
      (seek_within (is_changed p stage.Note) (most stage.Note) 0 (omega arith)) (record {
        base = op.words;
        partly = passed_over p stage.Note op.words 0 (partly_begun op stage.Note is.small);
        is_normal = is_normal;
        mended = mended;
        all = all;
        settled = settled;
      })

  -- ---- the rounds are over
  over_stands : (op : MendOp) → IsOf site here op → (stage : Stage) (base : List ℕ) (n : ℕ) (rounds : Rounds) (v : View) → IsRounding site op.guarded op.words op.next stage base n rounds v
      → IsInStage site op.guarded stage base v → n ≡ most stage → IsSettled v → MendStands site here call (over stage op) v
  over_stands op is stage.Clear base n rounds v c known last settled = record { is = is_at op is op.next is.next_small _; view = (c.all, known, settled) }
  over_stands op is stage.Mend base n rounds v c known last settled =
      let words_are = all_made op stage.Mend base n c.partly is.each_word last ∙ ap (λ (g : Shape). made stage.Mend g op.guarded.head base) (same_shape op is) in
      notes_begin op is v known.0 (subst (λ (l : List ℕ). AreMended site op.guarded l) (sym words_are) (is_left_mended site op.guarded base c.partly.small known.1 known.2)) c.all settled
  over_stands op is stage.Note base n rounds v c known last settled = absurd known

  -- ---- they go on, or are over
  rounding_by_stands : (op : MendOp) → IsOf site here op → (stage : Stage) (base : List ℕ) (n : ℕ) (rounds : Rounds) (v : View) → IsRounding site op.guarded op.words op.next stage base n rounds v
      → IsInStage site op.guarded stage base v → (o : Option Want) → rounds_wanted rounds (due op stage n) ≡ o → MendStands site here call (rounding_by o stage n rounds op) v
  rounding_by_stands op is stage base n rounds v c known (Some want) wanted =
      record { is = is_at op is op.next is.next_small _; view = (base, c, known, λ none. none-some _ (sym none ∙ wanted)) }
  rounding_by_stands op is stage base n rounds v c known None wanted =
      let ended = events_end rounds (due op stage n) wanted in
      let far = due_none op stage n ended.1 in
      let near = c.partly.near in
      over_stands op is stage base n rounds v c known (omega (arith, far, near)) (rounds_settle.ends rounds (due op stage n) v c.stands wanted)

  pub rounding_stands : (op : MendOp) → IsOf site here op → (stage : Stage) (base : List ℕ) (n : ℕ) (rounds : Rounds) (v : View) → IsRounding site op.guarded op.words op.next stage base n rounds v
      → IsInStage site op.guarded stage base v → MendStands site here call (rounding stage n rounds op) v
  rounding_stands op is stage base n rounds v c known = rounding_by_stands op is stage base n rounds v c known (rounds_wanted rounds (due op stage n)) refl

  -- ---- A STAGE BEGINS
  pub begin_stands : (op : MendOp) → IsOf site here op → (stage : Stage) (v : View) → HasAll site op.guarded op.words v → IsSettled v → IsInStage site op.guarded stage op.words v
      → MendStands site here call (begin stage op) v
  begin_stands op is stage v all settled known =
      let p : MendOp = prepared stage op in
      let n : ℕ = changed_from p stage 0 in
      rounding_stands p (is_at op is p.next (made_small op.words op.guarded.site.geometry op.guarded.head is.small stage) op.step) stage op.words n begun v (record {
        partly = passed_over p stage op.words 0 (partly_begun op stage is.small);
        changes = λ low. changed_differs p stage 0 (omega arith) low;
        all = all;
        stands = rounds_settle.begins v settled;
        lines = λ line none. absurd none;
        loose = λ q loose. absurd (settled_firm v settled q loose);
      }) known
