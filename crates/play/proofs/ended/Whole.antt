-- A play is its run.
use Rattle.std.proofs.Common.{◌≡◌, ℕ, zero, suc, ◌+◌, ◌<◌, ◌≤◌, Option, None, Some, Bool, inl, inr, lit<, List, [], ◌∷◌, length, refl, ap, sym, ◌∙◌, subst, arith}
use Rattle.std.specs.Prelude.{All, map, slice_index, if◌then◌else◌}
use Rattle.std.specs.List.{AllByRecursion, range_with_len}
use Rattle.std.proofs.lemmas.Bool.Decides.{eqb_tells}
use Rattle.std.proofs.lemmas.List.FromFn.{length-map-range_with_len}
use Rattle.image_layout.specs.Places.{Shape}
use Rattle.map_model.specs.declared.call.Call.{Call}
use Rattle.map_model.specs.declared.call.Call.TheVariants.{Get, Insert, Update, Remove}
use Rattle.core_run.specs.Engines.{IsServedImage, IsWordCall}
use Rattle.reply_text.specs.declared.left.Session.{Session}
use Rattle.script_text.specs.declared.line.Line.{Line}
use Rattle.script_text.specs.declared.line.Line.TheVariants.{Call as CallLine, Fuse, Step, Until, At, Close, Cut}
use Rattle.script_text.specs.Calls.{calls_of, last_caller, IsCallSoFar, IsLineSoFar}
use Rattle.script_text.proofs.SoFar.{calls_so_far, last_so_far}
use Rattle.core_run.specs.State.{State}
use Rattle.core_run.specs.Run.{lines_done, state_at_end, cut_of, all_calls, most_with, most_events}
use Rattle.core_run.specs.Running.{Setup, IsSetup}
use Rattle.core_run.specs.States.{RunBegins}
use Rattle.core_run.specs.Ends.{most_of}
use Rattle.core_run.specs.Sessions.{RunsAreSessions}
use Rattle.core_run.specs.Wells.{start_state, RunsThrough, RunsOut, RunsWell}
use Rattle.play.specs.declared.run_state.RunState.{RunState}
use Rattle.play.specs.declared.caller.Caller.{Caller as PlayCaller}
use Rattle.play.specs.Callers.{AreWaiting, calls_in}
use Rattle.play.specs.RunStates.{IsOf, Stands, end_state}
use Rattle.session.specs.Session.{IsSession}
use Rattle.session.specs.Transcript.{transcript_of}
use Rattle.core_run.specs.Sessions.{ending_of}
use Rattle.play.specs.Played.{scripts_of, end_of_run, IsOfRun, IsPlay, IsLeftOf, setup_of}
use Rattle.play.proofs.Beginning.{their_calls}
use Rattle.play.proofs.Printed.{printed_by_run}

end_is : (shape : Shape) (most : ℕ) (lines : List Line) (cut : Option ℕ) (s : State)
    → end_state shape most cut (lines_done shape most lines s) ≡ state_at_end shape most lines cut s
end_is shape most lines None s = refl
end_is shape most lines (Some choice) s = refl

-- the lines, the cut and the number of events of a play
abbrev LeavesAt : Shape → List ℕ → List Line → Session → ℕ → Option ℕ → Type 0
LeavesAt shape first lines left most cut =
    IsLeftOf (setup_of shape first (scripts_of lines)) (end_state shape most cut (lines_done shape most lines (start_state (setup_of shape first (scripts_of lines))))) cut left

-- the number of events that any line makes at the most
pub most_is : (shape : Shape) (first : List ℕ) (scripts : List (List Call)) (callers : List PlayCaller) (n most : ℕ) → AreWaiting shape 1 scripts callers
    → n ≡ calls_in callers → most ≡ most_with shape n → most ≡ most_of (setup_of shape first scripts)
most_is shape first scripts callers n most all e m = m ∙ ap (most_with shape) (e ∙ their_calls shape 1 scripts callers all)

pub play_is : (shape : Shape) (first : List ℕ) (lines : List Line) (left : Session) (most : ℕ) (cut : Option ℕ)
    → most ≡ most_of (setup_of shape first (scripts_of lines)) → cut ≡ cut_of lines → LeavesAt shape first lines left most cut
    → IsOfRun shape first lines left
play_is shape first lines left most cut many cuts leaves =
    let t : Setup = setup_of shape first (scripts_of lines) in
    let one : LeavesAt shape first lines left most (cut_of lines) = subst (λ (c : Option ℕ). LeavesAt shape first lines left most c) cuts leaves in
    let two : LeavesAt shape first lines left (most_of t) (cut_of lines) = subst (λ (m : ℕ). LeavesAt shape first lines left m (cut_of lines)) many one in
    let three : IsLeftOf t (state_at_end shape (most_of t) lines (cut_of lines) (start_state t)) (cut_of lines) left =
    subst (λ (s : State). IsLeftOf t s (cut_of lines) left) (end_is shape (most_of t) lines (cut_of lines) (start_state t)) two in
    record { same_shape = three.same_shape; lists = three.lists; stops = three.stops; words = three.words; cut = three.cut }

-- ---- there are no more calls than lines
-- the calls of callers a, a + 1 and so on, so many
abbrev calls_from : ℕ → ℕ → List Line → ℕ
calls_from a n lines = all_calls (map (λ caller. calls_of caller lines) (range_with_len a n))

-- a call of a caller before them is none of theirs
before_them : (a n d : ℕ) (call : Call) (lines : List Line) → d < a → calls_from a n (CallLine d call ∷ lines) ≡ calls_from a n lines
before_them a zero d call lines lt = refl
before_them a (suc n) d call lines lt =
    let others = before_them (a + 1) n d call lines (omega arith) in
    let P : Bool → Type 0 = λ b. length (if b then call ∷ calls_of a lines else calls_of a lines) + calls_from (a + 1) n (CallLine d call ∷ lines)
    ≡ length (calls_of a lines) + calls_from (a + 1) n lines in
    elim (eqb_tells d a) [
      | inl t ↦ let same = t.1 in absurd (omega arith)
      | inr t ↦ subst P (sym t.0) (ap (λ (m : ℕ). length (calls_of a lines) + m) others)
    ]

-- and any call is one of theirs at the most
one_of_them : (a n d : ℕ) (call : Call) (lines : List Line) → calls_from a n (CallLine d call ∷ lines) ≤ suc (calls_from a n lines)
one_of_them a zero d call lines = omega arith
one_of_them a (suc n) d call lines =
    let P : Bool → Type 0 = λ b. length (if b then call ∷ calls_of a lines else calls_of a lines) + calls_from (a + 1) n (CallLine d call ∷ lines)
    ≤ suc (length (calls_of a lines) + calls_from (a + 1) n lines) in
    elim (eqb_tells d a) [
      | inl t ↦ let same = t.1 in let others = before_them (a + 1) n d call lines (omega arith) in subst P (sym t.0) (omega arith)
      | inr t ↦ let others = one_of_them (a + 1) n d call lines in subst P (sym t.0) (omega arith)
    ]

none_of_them : (a n : ℕ) → calls_from a n [] ≡ 0
none_of_them a zero = refl
none_of_them a (suc n) =
    let rest : calls_from (a + 1) n [] ≡ 0 = none_of_them (a + 1) n in let whole : 0 + calls_from (a + 1) n [] ≡ 0 = omega arith in whole

pub few_calls : (a n : ℕ) (lines : List Line) → calls_from a n lines ≤ length lines
few_calls a n [] = let none = none_of_them a n in omega arith
few_calls a n (CallLine d call ∷ lines) = let one = one_of_them a n d call lines in let rest = few_calls a n lines in omega arith
few_calls a n (Fuse d m ∷ lines) = let rest = few_calls a n lines in omega arith
few_calls a n (Step d m ∷ lines) = let rest = few_calls a n lines in omega arith
few_calls a n (Until d e m ∷ lines) = let rest = few_calls a n lines in omega arith
few_calls a n (At d m ∷ lines) = let rest = few_calls a n lines in omega arith
few_calls a n (Close ∷ lines) = let rest = few_calls a n lines in omega arith
few_calls a n (Cut m ∷ lines) = let rest = few_calls a n lines in omega arith

pub few_in : (shape : Shape) (lines : List Line) (callers : List PlayCaller) → AreWaiting shape 1 (scripts_of lines) callers → calls_in callers ≤ length lines
few_in shape lines callers all =
    let same : calls_in callers ≡ calls_from 1 (last_caller lines) lines = their_calls shape 1 (scripts_of lines) callers all in
    let few = few_calls 1 (last_caller lines) lines in
    omega arith

-- ---- the setup of a play
-- their numbers are words
word_call : (call : Call) → IsCallSoFar call → IsWordCall call
word_call (Get k) fits = (fits, lit< tt)
word_call (Insert k v) fits = fits
word_call (Update k v) fits = fits
word_call (Remove k) fits = (fits, lit< tt)

word_calls : (calls : List Call) → AllByRecursion IsCallSoFar calls → AllByRecursion IsWordCall calls
word_calls [] so_far = tt
word_calls (call ∷ calls) so_far = (word_call call so_far.0, word_calls calls so_far.1)

all_words : (a n : ℕ) (lines : List Line) → AllByRecursion IsLineSoFar lines
    → AllByRecursion (AllByRecursion IsWordCall) (map (λ caller. calls_of caller lines) (range_with_len a n))
all_words a zero lines so_far = tt
all_words a (suc n) lines so_far = (word_calls (calls_of a lines) (calls_so_far a lines so_far), all_words (a + 1) n lines so_far)

by_recursion : {A : Type 0} (P : A → Type 0) (xs : List A) → All P xs → AllByRecursion P xs
by_recursion P [] all = tt
by_recursion P (x ∷ xs) all = (all 0 x (omega arith), by_recursion P xs (λ i d h. all (suc i) d (omega arith)))

pub is_setup : (shape : Shape) (first : List ℕ) (lines : List Line) → IsServedImage shape first → All IsLineSoFar lines
    → IsSetup (setup_of shape first (scripts_of lines))
is_setup shape first lines served so_far =
    let all = by_recursion IsLineSoFar lines so_far in
    let many = length-map-range_with_len (λ (caller : ℕ). calls_of caller lines) 1 (last_caller lines) in
    let last = last_so_far lines all in
    record { served = served; few = omega arith; words = all_words 1 (last_caller lines) lines all }

-- the run state stands at the beginning of the run
pub play_begins : RunBegins → (shape : Shape) (first : List ℕ) (lines : List Line) (callers : List PlayCaller) (run_state : RunState)
    → IsSetup (setup_of shape first (scripts_of lines)) → AreWaiting shape 1 (scripts_of lines) callers
    → ((scripts : List (List Call)) → AreWaiting shape 1 scripts callers → IsOf (setup_of shape first scripts) run_state (start_state (setup_of shape first scripts)))
    → Stands (setup_of shape first (scripts_of lines)) (start_state (setup_of shape first (scripts_of lines))) run_state
play_begins begins shape first lines callers run_state is wait is_of =
    record { setup = is; is_of = is_of (scripts_of lines) wait; running = begins (setup_of shape first (scripts_of lines)) is }

-- and at the end of the run
pub play_stands : (t : Setup) (lines : List Line) (most : ℕ) (cut : Option ℕ) (run_state after last : RunState) → Stands t (start_state t) run_state → RunsWell t lines
    → most ≡ most_of t → cut ≡ cut_of lines
    → ((u : Setup) (s : State) → Stands u s run_state → RunsThrough u most lines s → Stands u (lines_done u.shape most lines s) after)
    → ((u : Setup) (s : State) → Stands u s after → RunsOut u most cut s → Stands u (end_state u.shape most cut s) last)
    → Stands t (end_state t.shape most cut (lines_done t.shape most lines (start_state t))) last
play_stands t lines most cut run_state after last begins well many cuts through out =
    let at_lines = through t (start_state t) begins (subst (λ (m : ℕ). RunsThrough t m lines (start_state t)) (sym many) well.through) in
    out t (lines_done t.shape most lines (start_state t)) at_lines
    (subst (λ (o : Option ℕ). RunsOut t most o (lines_done t.shape most lines (start_state t))) (sym cuts)
    (subst (λ (m : ℕ). RunsOut t m (cut_of lines) (lines_done t.shape m lines (start_state t))) (sym many) well.out))

-- and its run is a session
pub is_play : RunsAreSessions → (shape : Shape) (first : List ℕ) (lines : List Line) (left : Session) → IsServedImage shape first → All IsLineSoFar lines
    → IsOfRun shape first lines left → IsPlay shape first lines left
is_play sessions shape first lines left served so_far run =
    let session = sessions (setup_of shape first (scripts_of lines)) lines (is_setup shape first lines served so_far) in
    record {
      run = run;
      session = subst (λ (words : List ℕ). IsSession shape first words (scripts_of lines) (ending_of lines)
          (transcript_of (Rattle.reply_text.specs.Told.tolds_of (Rattle.map_model.specs.Roomed.lists_of left.lists) left.stops)))
          (sym run.words)
          (subst (λ (text : List ℕ). IsSession shape first (Rattle.core_run.specs.Run.medium_words shape (slice_index first)
          (end_of_run shape first lines).core (cut_of lines)) (scripts_of lines) (ending_of lines) text)
          (sym (printed_by_run shape first lines left run)) session);
    }
