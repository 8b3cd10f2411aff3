use Rattle.std.proofs.Common.{◌≡◌, ◌≤◌}
use Rattle.ps_places.specs.Positions.{line_ends}
use Rattle.ps_places.proofs.positions.line_ends.Given as goal

-- those before this place are counted
abbrev pub invariant-loop-here : goal.invariant-loop-here
invariant-loop-here l = record { is : l.count ≡ line_ends l.text l.here; few : l.count ≤ l.here }
