use Rattle.std.proofs.Common.{◌≡◌, ◌++◌, suc, drop, string_bytes}
use Rattle.map_model.specs.Roomed.{lists_of}
use Rattle.session.specs.Transcript.{lines_from, transcript_of}
use Rattle.reply_text.specs.Told.{tolds_of}
use Rattle.reply_text.proofs.text.transcript.Given as goal

-- with the lines of the callers that are still to come, the text is the transcript
abbrev pub invariant-loop-i : goal.invariant-loop-i
invariant-loop-i l = string_bytes l.text ++ lines_from (suc l.i) (tolds_of (drop l.i (lists_of l.session.lists)) (drop l.i l.session.stops))
    ≡ transcript_of (tolds_of (lists_of l.session.lists) l.session.stops)
