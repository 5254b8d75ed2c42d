use Rattle.std.proofs.Common.{◌≡◌, ◌++◌, drop, string_bytes}
use Rattle.session.specs.Transcript.{entry_lines}
use Rattle.reply_text.proofs.text.push_entries.Given as goal

abbrev pub invariant-loop-entry : goal.invariant-loop-entry
invariant-loop-entry l = string_bytes l.text ++ entry_lines l.caller (drop l.entry-index l.entries) ≡ string_bytes l.initial.text ++ entry_lines l.caller l.entries
