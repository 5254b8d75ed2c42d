-- Session by session.
use Rattle.std.proofs.Common.{◌≡◌, ℕ, suc, ◌+◌, List, length, refl, ap, ◌∙◌, subst, arith}
use Rattle.std.specs.Prelude.{slice_index}
use Rattle.image_layout.specs.Places.{Shape}
use Rattle.sound_image.specs.Segments.{frame_of, image_version}
use Rattle.image_file.specs.Pairs.{ArePairs}
use Rattle.script_text.specs.declared.line.Line.{Line}
use Rattle.storm.specs.Scripts.{numbers_of_session, open_lines, cut_lines}
use Rattle.storm.specs.Storm.{HasPlayed, AreCut}
use Rattle.storm.specs.Storm.AreCut.{none, one_more}
use Rattle.storm.proofs.Streams.{behind_turn, no_turn}
use Rattle.storm.proofs.storming.storm.Goals as goal

pub loop-cut-init : goal.loop-cut-init
loop-cut-init c =
    let new = c.in_ok-tally.ensures.is in
    let replies = new.no_replies in
    let opens = new.no_opens in
    record {
      cut = none new;
      state = no_turn c.args.seed (numbers_of_session c.args.calls);
      shape = new.shape;
      sound = c.in_ok-tally.ensures.sound;
      few_replies = omega (arith, replies);
      few_opens = omega (arith, opens);
    }

pub go_on-requires-clause-room : goal.go_on-requires-clause-room
go_on-requires-clause-room c =
    let replies = c.loop-cut.invariant.few_replies in
    let opens = c.loop-cut.invariant.few_opens in
    let now = c.loop-cut-test.true in
    let low = c.requires.sessions.1 in
    (omega (arith, replies, now, low), omega (arith, opens, now, low))

pub loop-cut-preserved : goal.loop-cut-preserved
loop-cut-preserved c =
    let at = c.loop-cut in
    let next = c.in_ok-tally-2.tally in
    let played : HasPlayed at.tally (cut_lines _ c.args.calls) next =
    subst (λ (lines : List Line). HasPlayed at.tally lines next) (c.in_ok-script.ensures.lines ∙ ap (λ state. cut_lines state c.args.calls) at.invariant.state)
    c.in_ok-tally-2.ensures.played in
    let one : suc at._cut ≡ at._cut + 1 = omega arith in
    let replies = at.invariant.few_replies in
    let opens = at.invariant.few_opens in
    let more_replies = c.in_ok-tally-2.ensures.few_replies in
    let more_opens = c.in_ok-tally-2.ensures.few_opens in
    record {
      cut = subst (λ n. AreCut c.args.seed c.args.calls n next) one (one_more at.invariant.cut played);
      state = behind_turn c.args.seed (numbers_of_session c.args.calls) at._cut at.state c.cut_script.new.state at.invariant.state c.in_ok-script.ensures.state;
      shape = c.in_ok-tally-2.ensures.shape;
      sound = c.in_ok-tally-2.ensures.sound;
      few_replies = omega (arith, replies, more_replies);
      few_opens = omega (arith, opens, more_opens);
    }

pub go_on-requires-2-clause-room : goal.go_on-requires-2-clause-room
go_on-requires-2-clause-room c =
    let replies = c.loop-cut.invariant.few_replies in
    let opens = c.loop-cut.invariant.few_opens in
    let now = c.loop-cut.auto._cut-end in
    let low = c.requires.sessions.1 in
    (omega (arith, replies, now, low), omega (arith, opens, now, low))

pub returns : goal.returns
returns c =
    let at = c.loop-cut in
    let last = c.in_ok-last.last in
    let words = slice_index last.medium.words in
    let summary = c.check-summary.ensures in
    let shape = c.in_ok-last.ensures.shape in
    let some = c.requires.sessions.0 in
    let past = c.loop-cut-test.false in
    let within = at.auto._cut-end in
    record {
      cuts = at._cut;
      before = at.tally;
      after = last;
      count = omega (arith, some, past, within);
      are_cut = at.invariant.cut;
      last = subst (λ (lines : List Line). HasPlayed at.tally lines last)
          (c.in_ok-script-2.ensures.lines ∙ ap (λ state. open_lines state c.args.calls) at.invariant.state) c.in_ok-last.ensures.played;
      sessions_are = refl;
      replies_are = refl;
      opens_are = refl;
      pairs_are = subst (λ (s : Shape). (pairs : List (ℕ × ℕ)) × ArePairs s words pairs × (c.check-summary.result.pairs ≡ length pairs)) shape summary.pairs;
      version_is = summary.version ∙ ap (λ (s : Shape). image_version (frame_of s words)) shape;
    }
