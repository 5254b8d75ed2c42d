-- A word is loaded, and the stage that comes once all are.
use Rattle.std.proofs.Common.{◌≡◌, ℕ, ◌+◌, ◌^◌, ◌<◌, Bool, true, false, Option, None, Some, [], ◌∷◌, length, slice_index, inl, inr, refl, sym, ap, ◌∙◌, subst, arith, length-set}
use Rattle.std.specs.Prelude.{if◌then◌else◌, nat_lt}
use Rattle.std.proofs.lemmas.Bool.{cases_eq, ltb-true, ltb-false}
use Rattle.std.proofs.lemmas.List.{get_or-set_same, get_or-set_other}
use Rattle.trace.specs.Events.{Words}
use Rattle.image_layout.specs.Places.{words_of_buckets, last_of_buckets}
use Rattle.map_model.specs.declared.call.Call.{Call}
use Rattle.world.specs.declared.site.Site.{Site}
use Rattle.world.specs.Ground.{Ground, IsGround}
use Rattle.world.specs.Views.{View}
use Rattle.world.specs.areas.Fitting.{HoldsWord}
use Rattle.world.specs.areas.Kinds.{reads, view_then}
use Rattle.world.specs.areas.Asking.{MayBeNewest, MayAt}
use Rattle.repair_op.specs.declared.guarded.Guarded.{Guarded}
use Rattle.mend_op.specs.declared.stage.Stage.TheVariants as stage
use Rattle.mend_op.specs.declared.op.MendStep.TheVariants.{Fill}
use Rattle.mend_op.specs.declared.op.MendOp.{MendOp}
use Rattle.mend_op.specs.Steps.{word_at, with_word, at_step, loaded_by, filled_to}
use Rattle.mend_op.specs.Stands.{place_of, IsBefore, HasSegment, SuitsStep}
use Rattle.mend_op.specs.MendPart.{IsOf, MendStands}
use Rattle.mend_op.proofs.whole.Known.{loaded_more, holds_place}
use Rattle.mend_op.proofs.whole.Newest.{in_range, looked_for}
use Rattle.mend_op.proofs.whole.Located.{word_is}
use Rattle.mend_op.proofs.rounds.Beginning.{in_stage, is_at, same_shape, begin_stands}

-- what is known before is known of a view that relies on the same
before_still : (site : Ground) (guarded : Guarded) (side : Option ℕ) (v u : View) → u.facts ≡ v.facts → IsBefore site guarded side v → IsBefore site guarded side u
before_still site guarded (Some side) v u same is = in_stage site guarded stage.Clear [] v u same is
before_still site guarded None v u same is = is

module _ (site : Ground) (ground : IsGround site) (here : Site) (call : Call) (op : MendOp) (is : IsOf site here op) (v : View) (i : ℕ) (s : SuitsStep site op (Fill i) v) where
  abbrev low : i < words_of_buckets
  low = s.0

  place_is : word_at op i ≡ place_of site op.guarded i
  place_is = word_is site op (same_shape site here call op is) is.old.within i

  pub fill_may : MayAt site (reads (word_at op i)) v
  fill_may = subst (λ j. HoldsWord site.shape v j) (sym place_is) (holds_place site op.guarded op.words i v s.1 i low)

  module _ (n : ℕ) (small : n < 2 ^ 64) (words : Words) (found : words (word_at op i) ≡ n) (new : MayBeNewest site v words) where
    abbrev more : MendOp
    more = with_word op i n

    abbrev u : View
    u = record v { known = (place_of site op.guarded i, n) ∷ v.known }

    inside : i < length op.words
    inside = let each = is.each_word in let less = low in omega (arith, less, each)

    here_is : slice_index more.words i ≡ n
    here_is = get_or-set_same op.words i n 0 inside

    other_is : (j : ℕ) → (j ≡ i → ⊥) → slice_index more.words j ≡ slice_index op.words j
    other_is j apart = get_or-set_other op.words i j n 0 apart

    is_more : IsOf site here more
    is_more = record {
      here_is = is.here_is;
      old = is.old;
      each_word = length-set op.words i n ∙ is.each_word;
      small = λ j. elim (cases_eq j i) [
        | inl same ↦ subst (λ x. x < 2 ^ 64) (sym (ap (slice_index more.words) same ∙ here_is)) small
        | inr apart ↦ subst (λ x. x < 2 ^ 64) (sym (other_is j apart)) (is.small j)
      ];
      next_small = is.next_small;
    }

    held : HasSegment site op.guarded more.words (i + 1) u
    held = loaded_more site op.guarded op.words i n low is.each_word v s.1

    -- all words that are known are the newest
    newest : i + 1 ≡ words_of_buckets → (j : ℕ) → j < words_of_buckets → words (place_of site op.guarded j) ≡ slice_index more.words j
    newest last j below = elim (cases_eq j i) [
      | inl same ↦ ap (λ k. words (place_of site op.guarded k)) same ∙ ap words (sym place_is) ∙ found ∙ sym here_is ∙ ap (slice_index more.words) (sym same)
      | inr apart ↦ new.knows (place_of site op.guarded j) (slice_index op.words j) (s.1.words_are j (omega (arith, below, apart, last))) ∙ sym (other_is j apart)
    ]

    abbrev Held : ℕ → Type 0
    Held k = HasSegment site op.guarded more.words k u

    -- ---- the stage that comes
    loaded_stands : (side : Option ℕ) → i + 1 ≡ words_of_buckets → IsBefore site op.guarded side v → MendStands site here call (loaded_by side more) u
    loaded_stands (Some side) last before = begin_stands site here call more is_more stage.Clear u (subst Held last held) (record { dirty = s.3.dirty; flushed = s.3.flushed })
        (before_still site op.guarded (Some side) v u refl before)
    loaded_stands None last before = begin_stands site here call more is_more stage.Mend u (subst Held last held) (record { dirty = s.3.dirty; flushed = s.3.flushed }) (
      before,
      (let range = (in_range site ground op.guarded is.old v words new s.1.header (inl before)).deep in omega (arith, range)),
      looked_for site ground op.guarded is.old v words new s.1.header more.words before (newest last),
    )

    filled_by : (t : Bool) → nat_lt i last_of_buckets ≡ t → MendStands site here call (if t then at_step more (Fill (i + 1)) else loaded_by op.guarded.side more) u
    filled_by true below = record {
      is = is_at site here call more is_more more.next is_more.next_small (Fill (i + 1));
      view = (
        (let less = ltb-true i last_of_buckets below in omega (arith, less)),
        held,
        before_still site op.guarded op.guarded.side v u refl s.2,
        record { dirty = s.3.dirty; flushed = s.3.flushed },
      );
    }
    filled_by false past = loaded_stands op.guarded.side (let less = low in let far = ltb-false i last_of_buckets past in omega (arith, less, far)) s.2

    pub fill_stands : MendStands site here call (filled_to i more) (view_then site.shape (reads (word_at op i)) n v)
    fill_stands = subst (λ j. MendStands site here call (filled_to i more) (record v { known = (j, n) ∷ v.known })) (sym place_is) (filled_by (nat_lt i last_of_buckets) refl)
