use Rattle.std.proofs.Common.{◌≡◌, ◌≤◌, ◌-◌, length, drop, false}
use Rattle.ps_language.specs.Scan.{behind_blank}
use Rattle.ps_scan.proofs.spans.blank_end.Given as goal

-- what is left behind the blank is left of what is left
abbrev pub invariant-loop-here : goal.invariant-loop-here
invariant-loop-here l = record {
  low : l.fn.at ≤ l.here;
  high : l.here ≤ length l.bytes;
  rest : behind_blank false (drop l.here l.bytes) ≡ behind_blank false (drop l.fn.at l.fn.bytes);
}

abbrev pub decreases-loop-here : goal.decreases-loop-here
decreases-loop-here l = length l.bytes - l.here
