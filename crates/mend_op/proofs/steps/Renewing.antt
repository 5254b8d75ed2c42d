-- The header with the image's version is stored, and flushed.
use Rattle.std.proofs.Common.{◌≡◌, ℕ, ◌+◌, ◌*◌, ◌^◌, ◌<◌, List, [], ◌∷◌, slice_index, inl, inr, refl, sym, ap, ◌∙◌, subst, arith}
use Rattle.std.specs.Prelude.{not, if◌then◌else◌}
use Rattle.std.proofs.lemmas.Bool.{eq-eqb}
use Rattle.trace.specs.Events.{Words, line_of}
use Rattle.hash_word.specs.Hash.{Covers}
use Rattle.segment_head.specs.HeadWord.{state_in, depth_in, pattern_in, normal}
use Rattle.image_layout.specs.Places.{Shape, head_at as header_at, bucket_at, homes, block, words_of_buckets}
use Rattle.sound_image.specs.Records.{key_hash, HasExactNotes}
use Rattle.frame_facts.specs.DeadSlots.{IsInSlot}
use Rattle.map_model.specs.declared.call.Call.{Call}
use Rattle.world.specs.declared.site.Site.{Site}
use Rattle.world.specs.Ground.{Ground, IsGround, version_of}
use Rattle.world.specs.Views.{View, Has}
use Rattle.world.specs.Kinds.{flushes, without, view_after}
use Rattle.world.specs.Holders.{KnowsWord}
use Rattle.world.specs.areas.Areas.{Area, Segment, Stale, header_word, all_but, is_stale_at}
use Rattle.world.specs.areas.Rows.{renews}
use Rattle.world.specs.areas.Kinds.{moves, view_then}
use Rattle.world.specs.areas.Asking.{KnowsFree, MayAt}
use Rattle.world.specs.areas.Splitting.{IsHeader, KnowsBuckets}
use Rattle.world.proofs.basics.Seats.{loosened_has, without_has}
use Rattle.world.proofs.moving.Holding.{out_of_slot_has}
use Rattle.world.proofs.holders.mending.Mending.{may_mend}
use Rattle.rounds.proofs.Settling.{settled_firm}
use Rattle.mend_op.specs.declared.stage.Stage.TheVariants as stage
use Rattle.mend_op.specs.declared.op.MendStep.TheVariants.{Renew, RenewFlush, RenewFence}
use Rattle.mend_op.specs.declared.op.MendOp.{MendOp}
use Rattle.mend_op.specs.Words.{renewed_head}
use Rattle.mend_op.specs.Stages.{made}
use Rattle.mend_op.specs.Steps.{own_head_word, at_step}
use Rattle.mend_op.specs.Stands.{place_of, AreMended, KnowsOnlyOf, SuitsStep}
use Rattle.mend_op.specs.MendPart.{IsOf, MendStands}
use Rattle.mend_op.proofs.stages.Partly.{all_made}
use Rattle.mend_op.proofs.stages.Noting.{still_mended, exact}
use Rattle.mend_op.proofs.whole.Words.{mend_words, header_here, bucket_here, hit_stands, number_is, head_in_slot}
use Rattle.mend_op.proofs.whole.Known.{has_stale, knows_place}
use Rattle.mend_op.proofs.whole.Located.{head_is}
use Rattle.mend_op.proofs.rounds.Beginning.{is_at, same_shape}
use Rattle.mend_op.proofs.steps.Heads.{renewed_is}
use Rattle.mend_op.proofs.steps.Finishing.{none_dirty}

-- a segment that is stale no more
renewed_areas : (s : ℕ) (areas : List Area) → areas ≡ Stale s ∷ Segment s ∷ [] → all_but (is_stale_at s) areas ≡ Segment s ∷ []
renewed_areas s areas is =
    let both : List Area = Stale s ∷ Segment s ∷ [] in
    let guard : List Area = Segment s ∷ [] in
    ap (all_but (is_stale_at s)) is ∙ ap (λ t. if not t then both else guard) (eq-eqb s s refl)

module _ (site : Ground) (ground : IsGround site) (here : Site) (call : Call) (op : MendOp) (is : IsOf site here op) (v : View) where
  abbrev s : ℕ
  s = op.guarded.segment

  abbrev x : ℕ
  x = renewed_head op.guarded.site.version op.guarded.head

  abbrev word : Words
  word = mend_words site.shape s op.words op.guarded.head

  header_now : word (header_word site.shape s) ≡ op.guarded.head
  header_now = header_here site.shape s op.words op.guarded.head

  version_is : op.guarded.site.version ≡ version_of site
  version_is = is.here_is.version

  pub version_small : op.guarded.site.version < 2 ^ 8
  version_small = let same = version_is in omega (arith, same)

  -- ---- the store
  module _ (c : SuitsStep site op Renew v) where
    -- all notes are made
    words_are : op.words ≡ made stage.Note site.shape op.guarded.head c.base
    words_are = all_made op stage.Note c.base (2 * homes) c.partly is.each_word refl ∙ ap (λ (g : Shape). made stage.Note g op.guarded.head c.base) (same_shape site here call op is)

    mended : AreMended site op.guarded op.words
    mended = subst (λ (l : List ℕ). AreMended site op.guarded l) (sym words_are) (still_mended site op.guarded is.old c.base c.mended)

    exact_now : (b : ℕ) → b < homes → HasExactNotes site.shape word s b
    exact_now b home = subst (λ (l : List ℕ). HasExactNotes site.shape (mend_words site.shape s l op.guarded.head) s b) (sym words_are) (exact site op.guarded is.old c.base c.mended b home)

    knows : KnowsBuckets site.shape v s word
    knows b n near from low = subst (λ i. KnowsWord v i (word i)) (sym (number_is site.shape s b n))
        (knows_place site op.guarded op.words words_of_buckets v c.all (block * b + n) (word (place_of site op.guarded (block * b + n))) (omega (arith, near, low))
        (sym (bucket_here site.shape s op.words op.guarded.head b n) ∙ ap word (number_is site.shape s b n)) (λ y loose. settled_firm v c.settled _ loose))

    lock_at : (b : ℕ) → place_of site op.guarded (block * b) ≡ bucket_at site.shape s b
    lock_at b = by (header_at site.shape s) b
      where
        by : (f b : ℕ) → f + 32 + 32 * 0 + 32 * b ≡ f + 32 + 32 * b
        by f b = omega arith

    free : KnowsFree site v s
    free b near = (
      slice_index op.words (block * b),
      subst (λ i. Has (i, slice_index op.words (block * b)) v.known) (lock_at b) (c.all.words_are (block * b) (omega (arith, near))),
      mended.free b near,
    )

    pub renew_may : MayAt site (moves renews s x) v
    renew_may = (may_mend site v ground).renews s x word
        (has_stale site op.guarded op.words words_of_buckets v c.all is.old word header_now (λ y loose. settled_firm v c.settled _ loose))
        (ap state_in header_now ∙ c.is_normal) knows free (λ p loose inside. settled_firm v c.settled p loose)
        (λ b r k hit. subst (λ h. Covers (depth_in h) (pattern_in h) (key_hash site.shape k)) (sym header_now) (mended.own b r k (hit_stands site.shape s op.words op.guarded.head b r k hit)))
        (λ b r e t k one other. (let q = mended.once b r e t k (hit_stands site.shape s op.words op.guarded.head b r k one) (hit_stands site.shape s op.words op.guarded.head e t k other) in (sym q.0, sym q.1)))
        exact_now
        (subst (λ h. IsHeader x normal (depth_in h) (pattern_in h) (version_of site)) (sym header_now)
        (subst (λ w. IsHeader x normal (depth_in op.guarded.head) (pattern_in op.guarded.head) w) version_is (renewed_is op.guarded.site.version op.guarded.head version_small is.old.fits)))

    -- its guard alone is held then
    only_head : (n : ℕ) → KnowsOnlyOf site op.guarded (view_then site.shape (moves renews s x) n v)
    only_head n p has = elim has [
      | inl same ↦ subst (λ (j : ℕ). IsInSlot site.shape s j) (sym (ap (λ (q : ℕ × ℕ). q.0) same)) (head_in_slot site.shape s)
      | inr more ↦ (let was = out_of_slot_has site.shape p.0 s p.1 ((header_word site.shape s, x) ∷ without (header_word site.shape s) v.known) more in elim was.1 [
        | inl same ↦ subst (λ (j : ℕ). IsInSlot site.shape s j) (sym (ap (λ (q : ℕ × ℕ). q.0) same)) (head_in_slot site.shape s)
        | inr known ↦ c.all.known p (without_has (header_word site.shape s) p.0 p.1 v.known known).1
      ])
    ]

    pub renew_stands : (n : ℕ) → MendStands site here call (at_step op RenewFlush) (view_then site.shape (moves renews s x) n v)
    renew_stands n = record {
      is = is_at site here call op is op.next is.next_small RenewFlush;
      view = (
        record {
          areas = renewed_areas s v.areas c.all.areas;
          no_locks = c.all.no_locks;
          current = record { head = x; header = inl refl; version = (renewed_is op.guarded.site.version op.guarded.head version_small is.old.fits).version_is ∙ version_is };
          known = only_head n;
          idle = record { planned = c.all.idle.planned; moving = c.all.idle.moving; owed = c.all.idle.owed };
        },
        c.settled.flushed,
        λ p dirty. elim (loosened_has site.shape (header_word site.shape s) n x v.dirty p dirty) [
          | inl same ↦ ap (λ (q : ℕ × ℕ). q.0) same
          | inr old ↦ absurd (subst (λ (l : List (ℕ × ℕ)). Has p l) c.settled.dirty old)
        ],
      );
    }

  -- ---- its flush
  pub renew_flushed : SuitsStep site op RenewFlush v → (n : ℕ) → MendStands site here call (at_step op RenewFence) (view_after site.shape (flushes (line_of (own_head_word op))) n v)
  renew_flushed c n = record {
    is = is_at site here call op is op.next is.next_small RenewFence;
    view = (
      record { areas = c.0.areas; no_locks = c.0.no_locks; current = record { head = c.0.current.head; header = c.0.current.header; version = c.0.current.version }; known = c.0.known; idle = record { planned = c.0.idle.planned; moving = c.0.idle.moving; owed = c.0.idle.owed } },
      none_dirty (header_word site.shape s) (line_of (own_head_word op)) v.dirty (ap line_of (head_is site op (same_shape site here call op is) is.old.within)) c.2,
    );
  }
