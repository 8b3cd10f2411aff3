use Rattle.std.proofs.Common.{◌≡◌, ◌+◌, ◌≤◌, length, drop}
use Rattle.ps_language.specs.Scan.{leading}
use Rattle.ps_places.specs.Positions.{is_in_line, line_end}
use Rattle.ps_places.proofs.positions.line_end.Given as goal

-- the rest of the line is left
abbrev pub invariant-loop-here : goal.invariant-loop-here
invariant-loop-here l = record {
  is : l.here + length (leading is_in_line (drop l.here l.text)) ≡ line_end l.fn.text l.fn.at;
  high : l.here ≤ length l.text;
}
