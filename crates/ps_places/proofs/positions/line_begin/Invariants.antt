use Rattle.std.proofs.Common.{◌≡◌, ◌≤◌}
use Rattle.ps_places.specs.Positions.{line_begin}
use Rattle.ps_places.proofs.positions.line_begin.Given as goal

-- the line begins no later
abbrev pub invariant-loop-begin : goal.invariant-loop-begin
invariant-loop-begin l = record {
  is : line_begin l.text l.begin ≡ line_begin l.fn.text l.fn.at;
  low : l.begin ≤ l.fn.at;
}

abbrev pub decreases-loop-begin : goal.decreases-loop-begin
decreases-loop-begin l = l.begin
