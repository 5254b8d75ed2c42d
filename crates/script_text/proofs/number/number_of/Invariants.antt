use Rattle.std.proofs.Common.{◌≡◌, ◌<◌, ◌≤◌, ◌^◌, length, drop}
use Rattle.script_text.specs.Readings.{number_behind}
use Rattle.script_text.proofs.number.number_of.Given as goal

abbrev pub invariant-loop-byte : goal.invariant-loop-byte
invariant-loop-byte l = record {
  value : number_behind l.n (drop l.byte-index l.word) ≡ number_behind 0 l.word;
  small : l.n < 10 ^ l.byte-index;
  some : 1 ≤ length l.word;
  few : length l.word ≤ 20;
}
