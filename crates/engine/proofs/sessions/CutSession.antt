-- A run that a power cut ends is a session.
use Rattle.std.proofs.Common.{◌≡◌, ℕ, zero, suc, ◌<◌, List, [], ◌∷◌, length, slice_index, slice_index_or, refl, sym, ◌∙◌, subst, arith}
use Rattle.std.specs.List.{AllByRecursion, AllZip}
use Rattle.map_model.specs.declared.entry.Entry.{Entry}
use Rattle.map_model.specs.Weave.{all_of, weave}
use Rattle.map_model.specs.Legal.{replay}
use Rattle.image_layout.specs.Places.{Shape}
use Rattle.sound_image.specs.Image.{SaysShape}
use Rattle.session.specs.Left.{IsLeft}
use Rattle.session.specs.Callers.{FollowsScript, undrawn}
use Rattle.engine.specs.Core.{run, tolds_of, histories}
use Rattle.engine.specs.Laws.{opened, TurnsKeep, CallsAreScripts}
use Rattle.engine.specs.Sessions.{CutIsSession}

-- two images that say the same shape begin alike
pub same_shape : (shape : Shape) (old new : List ℕ) → SaysShape shape (slice_index old) → SaysShape shape (slice_index new) → (i : ℕ) → i < 4 → slice_index new i ≡ slice_index old i
same_shape shape old new o n zero low = n.magic_word ∙ sym o.magic_word
same_shape shape old new o n (suc zero) low = n.format ∙ sym o.format
same_shape shape old new o n (suc (suc zero)) low = n.segments ∙ sym o.segments
same_shape shape old new o n (suc (suc (suc zero))) low = n.depth ∙ sym o.depth
same_shape shape old new o n (suc (suc (suc (suc i)))) low = absurd (omega (arith, low))

-- what holds of all entries holds of each
pub holds_at : (P : Entry → Type 0) (es : List Entry) (e : Entry) → AllByRecursion P es → (k : ℕ) → k < length es → slice_index_or es k e ≡ e → P e
holds_at P [] e all k low is = absurd (omega (arith, low))
holds_at P (x ∷ es) e all zero low is = subst P is all.0
holds_at P (x ∷ es) e all (suc k) low is = holds_at P es e all.1 k (omega (arith, low)) is

pub cut_is_session : TurnsKeep → CallsAreScripts → CutIsSession
cut_is_session keep are shape words image opening has scripts fit turns medium whole possible =
    let core = run shape turns (opened shape words scripts) in
    let good = keep shape words image opening has scripts fit turns in
    let calls = are shape words scripts turns in
    let sound = good.media.sound medium whole possible in
    record {
      tolds = tolds_of core;
      printed = refl;
      scripted = subst (λ css. AllZip FollowsScript css (tolds_of core)) calls good.scripted;
      opening = opening;
      opening_pairs = has;
      legal = good.legal;
      sound = sound;
      same_shape = same_shape shape words medium image.says_shape sound.says_shape;
      after_close = λ closed. absurd (let z = closed in cc);
      after_cut = λ _. subst (λ css. IsLeft shape (slice_index medium) (replay opening (weave (histories core))) (undrawn css (tolds_of core))) calls
          (good.media.left medium whole possible);
      had_no_room = good.had_no_room;
      none_free = λ e there full s low was_free. holds_at _ (all_of (histories core)) e good.full there.0 there.1 there.2 full (slice_index medium) possible s low was_free;
      spent = λ e there is few cut. absurd (let z = cut refl in cc);
    }
