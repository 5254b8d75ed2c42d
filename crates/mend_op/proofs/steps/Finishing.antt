-- The header of a split that ends is stored, flushed and fenced.
use Rattle.std.proofs.Common.{◌≡◌, ℕ, ◌*◌, List, [], slice_index, inl, inr, refl, sym, ap, ◌∙◌, subst, arith}
use Rattle.trace.specs.Events.{Words, line_of}
use Rattle.segment_head.specs.HeadWord.{version_in, state_in, depth_in, pattern_in, normal}
use Rattle.segment_head.specs.SplitHeads.{finished_head}
use Rattle.image_layout.specs.Places.{words_of_buckets}
use Rattle.frame_facts.specs.Facts.{Lacks, Deep}
use Rattle.map_model.specs.declared.call.Call.{Call}
use Rattle.world.specs.declared.site.Site.{Site}
use Rattle.world.specs.Ground.{Ground, IsGround}
use Rattle.world.specs.Views.{View, Has}
use Rattle.world.specs.Kinds.{flushes, off_line, with_store, view_after}
use Rattle.world.specs.areas.Areas.{header_word}
use Rattle.world.specs.areas.Rows.{finishes}
use Rattle.world.specs.areas.Kinds.{moves, settles, view_then}
use Rattle.world.specs.areas.Asking.{MayBeNewest, MayAt}
use Rattle.world.specs.areas.Splitting.{IsHeader}
use Rattle.world.specs.areas.Repairing.{side_depth_in, side_pattern_in}
use Rattle.world.proofs.basics.Seats.{loosened_has}
use Rattle.world.proofs.holders.mending.Mending.{may_mend}
use Rattle.repair_op.proofs.Giving.{nothing_left}
use Rattle.rounds.proofs.Lines.{off_line_has}
use Rattle.rounds.proofs.Keeping.{rounds_may}
use Rattle.rounds.proofs.Settling.{settled_firm}
use Rattle.mend_op.specs.declared.stage.Stage.TheVariants as stage
use Rattle.mend_op.specs.declared.op.MendStep.TheVariants.{Finish, FinishFlush, FinishFence}
use Rattle.mend_op.specs.declared.op.MendOp.{MendOp}
use Rattle.mend_op.specs.Steps.{own_head_word, at_step, begin, finished}
use Rattle.mend_op.specs.Stands.{place_of, SuitsStep}
use Rattle.mend_op.specs.MendPart.{IsOf, MendStands}
use Rattle.mend_op.proofs.whole.Words.{mend_words, header_here}
use Rattle.mend_op.proofs.whole.Known.{all_kept, head_stored, has_stale, no_sides}
use Rattle.mend_op.proofs.whole.Newest.{IsInRange, in_range, looked_for}
use Rattle.mend_op.proofs.whole.Located.{head_is}
use Rattle.mend_op.proofs.rounds.Beginning.{is_at, same_shape, begin_stands}
use Rattle.mend_op.proofs.steps.Heads.{finished_is, finished_normal, finished_version, finished_small}

-- nothing is dirty once the line of the header was flushed, where that alone was
pub none_dirty : (i line : ℕ) (dirty : List (ℕ × ℕ)) → line ≡ line_of i → ((p : ℕ × ℕ) → Has p dirty → p.0 ≡ i) → off_line line dirty ≡ []
none_dirty i line dirty is alone = nothing_left (off_line line dirty) (λ p has. (let q = off_line_has line p dirty has in q.1 (ap line_of (alone p q.0) ∙ sym is)))

module _ (site : Ground) (ground : IsGround site) (here : Site) (call : Call) (op : MendOp) (is : IsOf site here op) (v : View) where
  abbrev s : ℕ
  s = op.guarded.segment

  abbrev x : ℕ
  x = finished_head op.guarded.head

  abbrev word : Words
  word = mend_words site.shape s op.words op.guarded.head

  header_now : word (header_word site.shape s) ≡ op.guarded.head
  header_now = header_here site.shape s op.words op.guarded.head

  -- ---- the store
  module _ (c : SuitsStep site op Finish v) where
    pub finish_may : IsInRange op.guarded.head → MayAt site (moves finishes s x) v
    finish_may range = (may_mend site v ground).end s x word
        (has_stale site op.guarded op.words words_of_buckets v c.0 is.old word header_now (λ y loose. settled_firm v c.2 _ loose))
        (no_sides site op.guarded op.words words_of_buckets v c.0)
        (ap state_in header_now ∙ c.1.splits)
        (subst (λ h. Has (Lacks s (side_depth_in h) (side_pattern_in h)) v.facts) (sym header_now) c.1.lacks)
        (subst (λ h. Has (Deep (depth_in h) (side_depth_in h) (side_pattern_in h)) v.facts) (sym header_now) c.1.deep)
        (subst (λ h. IsHeader x normal (side_depth_in h) (2 * pattern_in h) (version_in h)) (sym header_now) (finished_is op.guarded.head range))

    pub finish_stands : (n : ℕ) → MendStands site here call (finished op) (view_then site.shape (moves finishes s x) n v)
    finish_stands n = record {
      is = record {
        here_is = record { at = is.here_is.at; shape = is.here_is.shape; version = is.here_is.version; numbered = is.here_is.numbered; caller = is.here_is.caller };
        old = record { within = is.old.within; fits = finished_small op.guarded.head; old = λ same. is.old.old (sym (finished_version op.guarded.head) ∙ same) };
        each_word = is.each_word;
        small = is.small;
        next_small = is.next_small;
      };
      view = record {
        is_normal = finished_normal op.guarded.head;
        all = all_kept site (finished op).guarded op.words words_of_buckets (with_store site.shape (header_word site.shape s) n x v.planned v.moving v.owed v) (view_then site.shape (moves finishes s x) n v)
            refl refl refl refl refl refl (head_stored site op.guarded op.words x n v c.0);
        flushed = c.2.flushed;
        loose = λ p dirty. elim (loosened_has site.shape (header_word site.shape s) n x v.dirty p dirty) [
          | inl same ↦ ap (λ (q : ℕ × ℕ). q.0) same
          | inr old ↦ absurd (subst (λ (l : List (ℕ × ℕ)). Has p l) c.2.dirty old)
        ];
      };
    }

  -- ---- its flush
  pub finish_flushed : SuitsStep site op FinishFlush v → (n : ℕ) → MendStands site here call (at_step op FinishFence) (view_after site.shape (flushes (line_of (own_head_word op))) n v)
  finish_flushed c n = record {
    is = is_at site here call op is op.next is.next_small FinishFence;
    view = record {
      is_normal = c.is_normal;
      all = all_kept site op.guarded op.words words_of_buckets v (view_after site.shape (flushes (line_of (own_head_word op))) n v) refl refl refl refl refl refl c.all;
      dirty = none_dirty (header_word site.shape s) (line_of (own_head_word op)) v.dirty (ap line_of (head_is site op (same_shape site here call op is) is.old.within)) c.loose;
    };
  }

  -- ---- its fence, behind which all is mended
  module _ (c : SuitsStep site op FinishFence v) where
    pub finish_fence_may : MayAt site (settles []) v
    finish_fence_may = rounds_may.fence site v (λ n side. absurd (no_sides site op.guarded op.words words_of_buckets v c.all n side))

    pub finish_fenced : (words : Words) → MayBeNewest site v words → (n : ℕ) → MendStands site here call (begin stage.Mend op) (view_then site.shape (settles []) n v)
    finish_fenced words new n =
        let u : View = view_then site.shape (settles []) n v in
        let range = (in_range site ground op.guarded is.old v words new c.all.header (inl c.is_normal)).deep in
        begin_stands site here call op is stage.Mend u (all_kept site op.guarded op.words words_of_buckets v u refl refl refl refl refl refl c.all) (record { dirty = c.dirty; flushed = refl }) (
          c.is_normal,
          omega (arith, range),
          looked_for site ground op.guarded is.old v words new c.all.header op.words c.is_normal
              (λ i low. new.knows (place_of site op.guarded i) (slice_index op.words i) (c.all.words_are i low)),
        )
