-- Each reply is told as it was seen.
use Rattle.std.proofs.Common.{◌≡◌, ℕ, None, Some, refl, sym, ap, ◌∙◌, subst}
use Rattle.std.specs.Prelude.{⊤}
use Rattle.std.proofs.lemmas.Option.{none-some, same_Some}
use Rattle.op_core.specs.declared.want.Ans.{Ans}
use Rattle.op_core.specs.declared.want.Ans.TheVariants.{Value, Drawn, Passed}
use Rattle.map_model.specs.declared.entry.Reply.{Reply}
use Rattle.map_model.specs.declared.entry.Reply.TheVariants as reply
use Rattle.part.specs.Outcomes.{Outcome, replied, reply_of}
use Rattle.phase.specs.declared.kept.Kept.{Kept}
use Rattle.phase.specs.declared.make.Made.{Made}
use Rattle.phase.specs.declared.make.Made.TheVariants as made
use Rattle.phase.specs.Takes.{take_taken}
use Rattle.phase.specs.Loads.{load_taken}
use Rattle.phase.specs.Makes.{make_taken}
use Rattle.stash_op.specs.declared.step.Seen.{Seen}
use Rattle.phase.specs.declared.ending.Ending.TheVariants as ending
use Rattle.phase.specs.declared.note.NoteWord.{NoteWord}
use Rattle.phase.specs.declared.note.NoteWord.TheVariants.{Mark, Fingers}
use Rattle.phase.specs.Endings.{outcome_then}
use Rattle.phase.proofs.locks.Choosing.{by_both}
use Rattle.stash_op.specs.declared.step.Stage.{Stage}
use Rattle.stash_op.specs.declared.step.StashStep.{StashStep}
use Rattle.stash_op.specs.declared.step.StashStep.TheVariants.{Lock, Fill, Note, Draw, CountSpent, Give}
use Rattle.stash_op.specs.declared.step.StashStep.TheVariants as step
use Rattle.stash_op.specs.declared.op.StashOp.{StashOp}
use Rattle.stash_op.specs.Search.{place_of, noted, has_finger}
use Rattle.stash_op.specs.Steps.{go, made_to, noted_to, lock_of, next_in}
use Rattle.stash_op.specs.Fits.{outcome_at}
use Rattle.stash_op.specs.Replies.{Tells, RepliesAsSeen}
use Rattle.stash_op.proofs.keeping.Going.{reply_at, giving_outcome, taken_quiet, filled_quiet}

-- it stands there
abbrev standing : Kept → Seen → StashStep → StashOp
standing kept seen s = record { kept = kept; stage = go seen s }

-- of any outcome
abbrev As : Kept → Seen → StashStep → Ans → Outcome → Type 0
As kept seen s a (replied answer place) = Tells (standing kept seen s) a answer place
As kept seen s a more = ⊤

no_reply : (s : StashStep) → reply_at s ≡ None → (answer : Reply) (place : ℕ) → outcome_at s ≡ Some (replied answer place) → ⊥
no_reply s quiet answer place some = none-some (answer, place) (sym quiet ∙ ap reply_of some)

made_quiet : (seen : Seen) (x : Made) → reply_at (made_to seen x).step ≡ None
made_quiet seen (made.On m) = refl
made_quiet seen made.Settled = refl

noted_quiet : (hash : ℕ) (seen : Seen) (part : NoteWord) → reply_at (noted_to hash seen part).step ≡ None
noted_quiet hash seen Mark = by_both (λ (s : Stage). reply_at s.step ≡ None) (has_finger seen (noted hash seen)) (go seen (Note Fingers)) (go seen Draw) refl refl
noted_quiet hash seen Fingers = refl

replies : (kept : Kept) (seen : Seen) (s : StashStep) (a : Ans) → outcome_at s ≡ None → (answer : Reply) (place : ℕ) → outcome_at (next_in kept seen s a).step ≡ Some (replied answer place)
    → Tells (standing kept seen s) a answer place
replies kept seen (Lock b t) a none answer place some = absurd (no_reply (next_in kept seen (Lock b t) a).step (taken_quiet seen b (lock_of kept (place_of b)) (take_taken t a)) answer place some)
replies kept seen (Fill b load) (Value n) none answer place some =
    absurd (no_reply (next_in kept seen (Fill b load) (Value n)).step (ap reply_of (filled_quiet kept seen b (load_taken load n))) answer place some)
replies kept seen (step.Make m) Passed none answer place some = absurd (no_reply (next_in kept seen (step.Make m) Passed).step (made_quiet seen (make_taken seen.written.slot m)) answer place some)
replies kept seen (Note part) Passed none answer place some = absurd (no_reply (next_in kept seen (Note part) Passed).step (noted_quiet kept.hash seen part) answer place some)
replies kept seen Draw (Drawn n) none answer place some =
    subst (As kept seen Draw (Drawn n)) (same_Some (replied reply.Done n) (replied answer place) (sym (giving_outcome seen.held (ending.Replied reply.Done n)) ∙ some)) (refl, refl)
replies kept seen CountSpent (Value n) none answer place some =
    subst (As kept seen CountSpent (Value n)) (same_Some (replied reply.Spent n) (replied answer place) (sym (giving_outcome seen.held (ending.Replied reply.Spent n)) ∙ some)) (refl, refl)
replies kept seen (Give held end) a none answer place some = absurd (none-some (outcome_then end) (sym none))
replies kept seen s a none answer place some = absurd (none-some (replied answer place) (sym none ∙ some))

pub replies_as_seen : RepliesAsSeen
replies_as_seen op a none answer place some = replies op.kept op.stage.seen op.stage.step a none answer place some
