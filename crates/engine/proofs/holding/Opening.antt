-- The core after a restart, and the law of all turns.
use Rattle.std.proofs.Common.{◌≡◌, ℕ, suc, List, [], ◌∷◌, length, map, slice_index, inl, inr, refl, sym, ap, ◌∙◌, arith}
use Rattle.std.proofs.lemmas.Bool.{cases_Bool}
use Rattle.std.proofs.lemmas.List.{get_or_past}
use Rattle.segment_head.specs.HeadWord.{state_in}
use Rattle.segment_head.specs.Versions.{unversioned}
use Rattle.image_layout.specs.Places.{Shape, state_word}
use Rattle.image_layout.specs.Volatile.{power_word}
use Rattle.map_model.specs.declared.call.Call.{Call}
use Rattle.sound_image.specs.Image.{IsSoundImage}
use Rattle.world.specs.areas.Areas.{header_word}
use Rattle.restart_op.specs.Restart.{started_for}
use Rattle.restart_op.specs.Restarted.{words_at_end, site_of, KeepsPairs, EndsStarted}
use Rattle.restart_op.specs.Closing.{QuietAfterRestart}
use Rattle.engine.specs.Core.{Caller, callers_from, run}
use Rattle.engine.specs.Holding.{CallsStay, KeepsFree, CoreBegins, RunKeeps, HoldingIsGood}
use Rattle.engine.specs.Laws.{CallsAreScripts, opened, OpenedHolds, TurnsKeep}

-- the power word is behind the image, where a restart leaves 0
restart_powered : EndsStarted → (shape : Shape) (words : List ℕ) → IsSoundImage shape words → words_at_end shape words (power_word shape) ≡ 0
restart_powered started shape words image =
    (started shape words image).left.others (power_word shape) (λ q. omega (arith, q)) (λ _ s slot q. omega (arith, slot, q))
    ∙ get_or_past words (power_word shape) 0 (let w = image.whole in omega (arith, w))

-- a sweep keeps the state of a header
same_state : (head : ℕ) → state_in (unversioned head) ≡ state_in head
same_state head = omega arith

-- so each slot that is free in the image is free at the end of the restart
stays_free : EndsStarted → (shape : Shape) (words : List ℕ) (callers : ℕ) → IsSoundImage shape words → KeepsFree (site_of shape words callers) (slice_index words)
stays_free started shape words callers image s slot free_before =
    let left = (started shape words image).left in
    elim (cases_Bool (started_for (slice_index words state_word)).swept) [
      | inl swept ↦ ap state_in (left.heads swept s slot) ∙ (same_state (slice_index words (header_word shape s)) ∙ free_before)
      | inr unswept ↦ ap state_in (left.others (header_word shape s) (λ q. omega (arith, q)) (λ swept. let z = sym unswept ∙ swept in cc)) ∙ free_before
    ]

pub opened_holds : CoreBegins → QuietAfterRestart → EndsStarted → OpenedHolds
opened_holds begins quiet started shape words scripts image are =
    begins (site_of shape words (length scripts)) (slice_index words) (opened shape words scripts) (words_at_end shape words state_word) scripts
    (quiet shape words (length scripts) image (let few = are.few in omega (arith, few))) refl (restart_powered started shape words image)
    (let s = started shape words image in let state = s.left.state in let fits = s.fits in omega (arith, state, fits))
    (stays_free started shape words (length scripts) image) are.few are.words refl

pub turns_keep : OpenedHolds → RunKeeps → HoldingIsGood → KeepsPairs → TurnsKeep
turns_keep opens keeps good pairs shape words image opening has scripts are turns =
    let site = site_of shape words (length scripts) in
    good site (slice_index words) (run shape turns (opened shape words scripts)) opening
    (keeps site (slice_index words) (opened shape words scripts) turns (opens shape words scripts image are))
    ((pairs shape words opening image).0 has)

opened_calls : (shape : Shape) (version number : ℕ) (scripts : List (List Call)) → map (λ (c : Caller). c.calls) (callers_from shape version number scripts) ≡ scripts
opened_calls shape version number [] = refl
opened_calls shape version number (calls ∷ scripts) = ap (λ (css : List (List Call)). calls ∷ css) (opened_calls shape version (suc number) scripts)

pub calls_are_scripts : CallsStay → CallsAreScripts
calls_are_scripts stay shape words scripts turns =
    stay shape (opened shape words scripts) turns ∙ opened_calls shape (words_at_end shape words state_word) 1 scripts
