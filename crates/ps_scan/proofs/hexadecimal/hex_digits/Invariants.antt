use Rattle.std.proofs.Common.{◌≡◌, ◌+◌, ◌-◌, ◌≤◌, length, drop, filter}
use Rattle.ps_language.specs.Bytes.{is_hex, is_hex_or_white}
use Rattle.ps_language.specs.Scan.{leading, beyond}
use Rattle.ps_scan.proofs.hexadecimal.hex_digits.Given as goal

-- the digits so far, all but blanks, and those in what is left are all
abbrev pub invariant-loop-here : goal.invariant-loop-here
invariant-loop-here l = record {
  few : l.at + l.blanks ≤ l.here;
  high : l.here ≤ length l.bytes;
  count : l.here + length (filter is_hex (leading is_hex_or_white (drop l.here l.bytes)))
      ≡ l.at + (l.blanks
      + length (filter is_hex (leading is_hex_or_white (drop l.at l.bytes))));
  rest : beyond is_hex_or_white (drop l.here l.bytes)
      ≡ beyond is_hex_or_white (drop l.at l.bytes);
}

abbrev pub decreases-loop-here : goal.decreases-loop-here
decreases-loop-here l = length l.bytes - l.here
