-- The header is stored, flushed and fenced.
use Rattle.std.proofs.Common.{◌≡◌, ℕ, suc, ◌+◌, ◌*◌, List, [], inl, inr, refl, sym, ap, ◌∙◌, subst}
use Rattle.std.specs.Prelude.{slice_index}
use Rattle.trace.specs.Events.{line_of}
use Rattle.segment_head.specs.HeadWord.{version_in, state_in, depth_in, pattern_in, normal}
use Rattle.segment_head.specs.SplitHeads.{finished_head}
use Rattle.frame_facts.specs.Facts.{Lacks, Deep}
use Rattle.way.specs.Ways.{head_word}
use Rattle.map_model.specs.declared.call.Call.{Call}
use Rattle.world.specs.declared.site.Site.{Site}
use Rattle.world.specs.Ground.{Ground, IsGround}
use Rattle.world.specs.Views.{View, Has}
use Rattle.world.specs.Kinds.{flushes, off_line, view_after}
use Rattle.world.specs.areas.Areas.{header_word}
use Rattle.world.specs.areas.Rows.{finishes}
use Rattle.world.specs.areas.Kinds.{moves, settles, view_then}
use Rattle.world.specs.areas.Asking.{MayAt}
use Rattle.world.specs.areas.Splitting.{IsHeader}
use Rattle.world.proofs.basics.Seats.{loosened_has}
use Rattle.world.proofs.holders.directing.Finishing.{may_finish}
use Rattle.enclose_op.proofs.Backing.{nothing_left}
use Rattle.rounds.specs.Stands.{IsSettled}
use Rattle.rounds.proofs.Lines.{off_line_has}
use Rattle.rounds.proofs.Settling.{settled_firm}
use Rattle.rounds.proofs.Keeping.{rounds_may}
use Rattle.enclose_op.specs.declared.enclosed.Enclosed.{Enclosed}
use Rattle.enclose_op.specs.Whole.{IsOf, IsWhole, kept_third}
use Rattle.rest_op.specs.declared.op.RestOp.{RestOp}
use Rattle.rest_op.specs.Reckoned.{side_depth}
use Rattle.rest_op.specs.Stands.{HasAll, IsSplit, HasEnded, HasFlushed}
use Rattle.enclose_op.proofs.Places.{head_is}
use Rattle.rest_op.proofs.whole.Words.{rest_words, header_here}
use Rattle.rest_op.proofs.whole.Known.{all_kept, head_stored, whole_held, guard_held, no_sides, settled_holder, knows_head}
use Rattle.rest_op.proofs.whole.Halving.{rest_is}

-- a header that is another's but for its state
header_by : (x y depth pattern version : ℕ) → IsHeader x normal (suc depth) (2 * pattern) version → depth_in y ≡ depth → pattern_in y ≡ pattern → version_in y ≡ version
    → IsHeader x normal (suc (depth_in y)) (2 * pattern_in y) (version_in y)
header_by x y depth pattern version is d p w = record {
  state_is = is.state_is;
  depth_is = is.depth_is ∙ ap suc (sym d);
  pattern_is = is.pattern_is ∙ ap (λ q. 2 * q) (sym p);
  version_is = is.version_is ∙ sym w;
}

module _ (site : Ground) (ground : IsGround site) (here : Site) (call : Call) (op : RestOp) (is : IsOf site here call op.whole) (whole : IsWhole site op.whole) where
  abbrev e : Enclosed
  e = op.whole

  abbrev first : ℕ → ℕ
  first c = slice_index op.cleared c

  abbrev third : ℕ → ℕ
  third = kept_third e

  -- ---- the store of the header
  module _ (v : View) (c : IsSplit site e first v) (settled : IsSettled v) where
    abbrev words : ℕ → ℕ
    words = rest_words site.shape e first third c.head c.all.link.0

    header_now : words (header_word site.shape e.segment) ≡ c.head
    header_now = header_here site.shape e first third c.head c.all.link.0

    depth_now : depth_in (words (header_word site.shape e.segment)) ≡ depth_in e.head
    depth_now = ap depth_in header_now ∙ c.is_head.depth_is

    pattern_now : pattern_in (words (header_word site.shape e.segment)) ≡ pattern_in e.head
    pattern_now = ap pattern_in header_now ∙ c.is_head.pattern_is

    lacks_now : Has (Lacks e.segment (suc (depth_in (words (header_word site.shape e.segment)))) (2 * pattern_in (words (header_word site.shape e.segment)) + 1)) v.facts
    lacks_now = subst (λ d. Has (Lacks e.segment (suc d) (2 * pattern_in (words (header_word site.shape e.segment)) + 1)) v.facts) (sym depth_now)
        (subst (λ p. Has (Lacks e.segment (side_depth e) (2 * p + 1)) v.facts) (sym pattern_now) c.lacks)

    deep_now : Has (Deep (depth_in (words (header_word site.shape e.segment))) (suc (depth_in (words (header_word site.shape e.segment)))) (2 * pattern_in (words (header_word site.shape e.segment)) + 1)) v.facts
    deep_now = subst (λ d. Has (Deep d (suc d) (2 * pattern_in (words (header_word site.shape e.segment)) + 1)) v.facts) (sym depth_now)
        (subst (λ p. Has (Deep (depth_in e.head) (side_depth e) (2 * p + 1)) v.facts) (sym pattern_now) c.deep)

    pub head_may : MayAt site (moves finishes e.segment (finished_head e.head)) v
    head_may = (may_finish site v ground).end e.segment (finished_head e.head) words (settled_holder site e first third c.head v c.all is.located) (whole_held site e first third c.head v c.all)
        (guard_held site e first third c.head v c.all) (no_sides site e first third c.head v c.all)
        (knows_head site e first third c.head v c.all is.located (λ y loose. settled_firm v settled _ loose) (λ y loose. settled_firm v settled _ loose))
        (ap state_in header_now ∙ c.is_head.state_is) lacks_now deep_now
        (header_by (finished_head e.head) (words (header_word site.shape e.segment)) (depth_in e.head) (pattern_in e.head) (version_in e.head) (rest_is site ground here call e is whole) depth_now pattern_now
        (ap version_in header_now ∙ c.is_head.version_is))

    pub head_stands : (n : ℕ) → HasEnded site op (view_then site.shape (moves finishes e.segment (finished_head e.head)) n v)
    head_stands n = record {
      all = head_stored site e first third c.head (finished_head e.head) n v c.all;
      flushed = settled.flushed;
      loose = λ p dirty. elim (loosened_has site.shape (header_word site.shape e.segment) n (finished_head e.head) v.dirty p dirty) [
        | inl same ↦ ap (λ (q : ℕ × ℕ). q.0) same
        | inr old ↦ absurd (subst (λ (l : List (ℕ × ℕ)). Has p l) settled.dirty old)
      ];
    }

  -- ---- its flush
  module _ (v : View) (c : HasEnded site op v) where
    abbrev line : ℕ
    line = line_of (head_word e.site.geometry e.segment)

    nothing_dirty : (p : ℕ × ℕ) → Has p (off_line line v.dirty) → ⊥
    nothing_dirty p has = let q = off_line_has line p v.dirty has in q.1 (ap line_of (c.loose p q.0 ∙ sym (head_is site e is.located)))

    pub flush_stands : (n : ℕ) → HasFlushed site op (view_after site.shape (flushes line) n v)
    flush_stands n = record {
      all = all_kept site e first third (finished_head e.head) v (view_after site.shape (flushes line) n v) refl refl refl refl refl refl c.all;
      dirty = nothing_left (off_line line v.dirty) nothing_dirty;
    }

  -- ---- its fence
  module _ (v : View) (c : HasFlushed site op v) where
    pub fence_may : MayAt site (settles []) v
    fence_may = rounds_may.fence site v (λ n side. absurd (no_sides site e first third (finished_head e.head) v c.all n side))

    pub fence_all : (n : ℕ) → HasAll site e first third (finished_head e.head) (view_then site.shape (settles []) n v)
    fence_all n = all_kept site e first third (finished_head e.head) v (view_then site.shape (settles []) n v) refl refl refl refl refl refl c.all

    pub fence_settled : (n : ℕ) → IsSettled (view_then site.shape (settles []) n v)
    fence_settled n = record { dirty = c.dirty; flushed = refl }
