use Rattle.std.proofs.Common.{◌≡◌, ◌≤◌, ◌-◌, length, drop}
use Rattle.ps_language.specs.Scan.{string_from}
use Rattle.ps_scan.specs.Strings.{extent_of}
use Rattle.ps_scan.proofs.strings.string_extent.Given as goal

-- what is left has what the whole has more than the part so far
abbrev pub invariant-loop-here : goal.invariant-loop-here
invariant-loop-here l = record {
  low : l.at ≤ l.here;
  high : l.here ≤ length l.bytes;
  depth : l.depth ≤ l.here;
  length : l.length ≤ l.here;
  extent : extent_of l.length (string_from l.depth (drop l.here l.bytes))
      ≡ extent_of 0 (string_from 0 (drop l.fn.at l.bytes));
}

abbrev pub decreases-loop-here : goal.decreases-loop-here
decreases-loop-here l = length l.bytes - l.here
