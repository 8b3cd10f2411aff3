use Rattle.std.proofs.Common.{◌≡◌, ◌≤◌, ◌-◌, length, drop}
use Rattle.ps_language.specs.Reading.{with_front}
use Rattle.ps_language.specs.Scan.{string_from}
use Rattle.ps_scan.proofs.strings.string_bytes.Given as goal

-- the bytes so far and what is left are the string
abbrev pub invariant-loop-here : goal.invariant-loop-here
invariant-loop-here l = record {
  high : l.here ≤ length l.bytes;
  level : l.level ≤ l.here;
  whole : with_front l.string.items (string_from l.level (drop l.here l.bytes)) ≡ string_from 0 (drop l.fn.at l.bytes);
}

abbrev pub decreases-loop-here : goal.decreases-loop-here
decreases-loop-here l = length l.bytes - l.here
