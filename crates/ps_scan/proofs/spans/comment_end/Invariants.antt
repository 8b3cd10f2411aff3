use Rattle.std.proofs.Common.{◌≡◌, ◌≤◌, ◌-◌, length, drop, true}
use Rattle.ps_language.specs.Scan.{behind_blank}
use Rattle.ps_scan.proofs.spans.comment_end.Given as goal

-- what is left behind the comment is left of what is left
abbrev pub invariant-loop-here : goal.invariant-loop-here
invariant-loop-here l = record {
  low : l.at ≤ l.here;
  high : l.here ≤ length l.bytes;
  rest : behind_blank true (drop l.here l.bytes) ≡ behind_blank true (drop l.fn.at l.fn.bytes);
}

abbrev pub decreases-loop-here : goal.decreases-loop-here
decreases-loop-here l = length l.bytes - l.here
