-- A word of the image is stored to, and behind the image there is none.
use Rattle.std.proofs.Common.{◌≡◌, ℕ, ◌<◌, ◌≤◌, Bool, ap, sym, ◌∙◌, subst, arith}
use Rattle.std.specs.Prelude.{nat_lt, if◌then◌else◌}
use Rattle.std.proofs.lemmas.Bool.{lt-ltb, le-ltb}
use Rattle.image_layout.specs.Places.{Shape, words_of}
use Rattle.core_run.specs.declared.goal.Goal.TheVariants.{AnyEvent, StoreTo}
use Rattle.core_run.specs.State.{State}
use Rattle.core_run.specs.Running.{Setup}
use Rattle.core_run.specs.Run.{drive, ready_for}
use Rattle.play.specs.declared.run_state.RunState.{RunState}
use Rattle.play.specs.RunStates.{Stands}
use Rattle.play.proofs.run_state.RunState.go_to_store.Goals as goal

-- a caller goes on by whether the word is one of the image
goes_by : (t : Setup) (s : State) (most caller word : ℕ) (run_state : RunState) (b : Bool) → nat_lt word (words_of t.shape) ≡ b
    → Stands t (if b then drive t.shape most caller (StoreTo word) 1 s else drive t.shape most caller AnyEvent most s) run_state
    → Stands t (if nat_lt word (words_of t.shape) then drive t.shape most caller (StoreTo word) 1 s else drive t.shape most caller AnyEvent most s) run_state
goes_by t s most caller word run_state b is st =
    subst (λ (a : Bool). Stands t (if a then drive t.shape most caller (StoreTo word) 1 s else drive t.shape most caller AnyEvent most s) run_state) (sym is) st

pub go_on-requires : goal.go_on-requires
go_on-requires c = c.requires

pub go_on-requires-else-word-words : goal.go_on-requires-else-word-words
go_on-requires-else-word-words c = c.requires

pub returns-then-word-words : goal.returns-then-word-words
returns-then-word-words c t s st =
    let many : c.words.result ≡ words_of t.shape = c.words.ensures.is ∙ ap (λ (shape : Shape). words_of shape) (c.geometry.ensures ∙ st.is_of.shape) in
    goes_by t (ready_for t.shape c.args.most c.args.caller s) c.args.most c.args.caller c.args.word c.go_on.new.self _
    (lt-ltb c.args.word (words_of t.shape) (subst (λ (n : ℕ). c.args.word < n) many c.if-word-words.true)) (c.go_on.ensures t s st)

pub returns-else-word-words : goal.returns-else-word-words
returns-else-word-words c t s st =
    let past : c.words.result ≤ c.args.word = omega arith in
    let many : c.words.result ≡ words_of t.shape = c.words.ensures.is ∙ ap (λ (shape : Shape). words_of shape) (c.geometry.ensures ∙ st.is_of.shape) in
    goes_by t (ready_for t.shape c.args.most c.args.caller s) c.args.most c.args.caller c.args.word c.go_on-else-word-words.new.self _
    (le-ltb c.args.word (words_of t.shape) (subst (λ (n : ℕ). n ≤ c.args.word) many past)) (c.go_on-else-word-words.ensures t s st)
