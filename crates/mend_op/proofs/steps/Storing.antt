-- A word of the notes is stored.
use Rattle.std.proofs.Common.{◌≡◌, ℕ, ◌+◌, ◌*◌, ◌<◌, [], slice_index, sym, ap, ◌∙◌, subst, arith}
use Rattle.std.specs.Prelude.{if◌then◌else◌}
use Rattle.std.proofs.lemmas.Bool.{lt-ltb}
use Rattle.trace.specs.Events.{Words}
use Rattle.image_layout.specs.Places.{homes}
use Rattle.map_model.specs.declared.call.Call.{Call}
use Rattle.bucket_words.specs.Core.{core_of}
use Rattle.world.specs.declared.site.Site.{Site}
use Rattle.world.specs.Ground.{Ground, IsGround}
use Rattle.world.specs.Views.{View, Has}
use Rattle.world.specs.areas.Kinds.{sets, view_then}
use Rattle.world.specs.areas.Asking.{MayAt}
use Rattle.rounds.proofs.Settling.{stays_firm}
use Rattle.mend_op.specs.declared.stage.Stage.TheVariants as stage
use Rattle.mend_op.specs.declared.op.MendStep.TheVariants.{Note, Renew}
use Rattle.mend_op.specs.declared.op.MendOp.{MendOp}
use Rattle.mend_op.specs.Stages.{most, place}
use Rattle.mend_op.specs.Steps.{word_at, with_stored, at_step, is_changed, changed_from, noted_from, noted}
use Rattle.mend_op.specs.Stands.{place_of, SuitsStep}
use Rattle.mend_op.specs.MendPart.{IsOf, MendStands}
use Rattle.rounds.proofs.Seeking.{seek_within}
use Rattle.mend_op.proofs.stages.Placing.{place_low}
use Rattle.mend_op.proofs.stages.Partly.{passed_over, partly_stored}
use Rattle.mend_op.proofs.stages.Noting.{was, note_may, same_core}
use Rattle.mend_op.proofs.whole.Known.{all_stored}
use Rattle.mend_op.proofs.whole.Located.{word_is}
use Rattle.mend_op.proofs.rounds.Beginning.{same_shape, noting_stands}
use Rattle.mend_op.proofs.rounds.Rounding.{is_stored}

module _ (site : Ground) (ground : IsGround site) (here : Site) (call : Call) (op : MendOp) (is : IsOf site here op) (v : View) (n : ℕ) (c : SuitsStep site op (Note n) v) where
  abbrev number : ℕ
  number = place stage.Note n

  abbrev value : ℕ
  value = slice_index op.next number

  place_is : word_at op number ≡ place_of site op.guarded number
  place_is = word_is site op (same_shape site here call op is) is.old.within number

  pub store_may : MayAt site (sets (word_at op number) value) v
  store_may = subst (λ i. MayAt site (sets i value) v) (sym place_is) (note_may site ground op (same_shape site here call op is) is.old c.1.base n c.0 c.1.partly v c.1.all c.1.settled)

  module _ (m : ℕ) (words : Words) (found : words (word_at op number) ≡ m) (knows : (i x : ℕ) → Has (i, x) v.known → words i ≡ x) where
    abbrev stored : MendOp
    stored = with_stored op number

    abbrev later : ℕ
    later = changed_from stored stage.Note (n + 1)

    abbrev u : View
    u = view_then site.shape (sets (place_of site op.guarded number) value) m v

    -- what was there had been there
    old : m ≡ slice_index c.1.base number
    old = sym found ∙ ap words place_is ∙ knows (place_of site op.guarded number) (slice_index op.words number) (c.1.all.words_are number (place_low stage.Note n c.0))
        ∙ was site ground op (same_shape site here call op is) is.old c.1.base n c.0 c.1.partly

    firm : u.dirty ≡ []
    firm = stays_firm site.shape (place_of site op.guarded number) m value v.dirty (ap (core_of site.shape (place_of site op.guarded number)) old
        ∙ sym (same_core site ground op (same_shape site here call op is) is.old c.1.base n c.0 c.1.partly v c.1.all c.1.settled)) ∙ c.1.settled.dirty

    low : n < 2 * homes
    low = c.0

    next_stands : MendStands site here call (noted_from stored (n + 1)) u
    next_stands = noting_stands site here call stored (is_stored site here op is number) later u (seek_within (is_changed stored stage.Note) (most stage.Note) (n + 1) (let less = low in omega (arith, less))) (record {
      base = c.1.base;
      partly = passed_over stored stage.Note c.1.base (n + 1) (partly_stored op stage.Note c.1.base n c.1.partly is.each_word low);
      is_normal = c.1.is_normal;
      mended = c.1.mended;
      all = all_stored site op.guarded op.words number value (place_low stage.Note n low) is.each_word m v c.1.all;
      settled = record { dirty = firm; flushed = c.1.settled.flushed };
    })

    pub store_stands : MendStands site here call (noted op n) (view_then site.shape (sets (word_at op number) value) m v)
    store_stands = subst (λ t. MendStands site here call (if t then noted_from stored (n + 1) else at_step op Renew) (view_then site.shape (sets (word_at op number) value) m v)) (sym (lt-ltb n (2 * homes) low))
        (subst (λ i. MendStands site here call (noted_from stored (n + 1)) (view_then site.shape (sets i value) m v)) (sym place_is) next_stands)
