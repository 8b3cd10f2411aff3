use Rattle.std.proofs.Common.{◌≡◌, drop}
use Rattle.ps_language.specs.Bytes.{is_regular}
use Rattle.ps_language.specs.Scan.{beyond}
use Rattle.ps_scan.proofs.spans.run_end.Given as goal

-- what is left behind the run is left of what is left
abbrev pub invariant-loop-here : goal.invariant-loop-here
invariant-loop-here l = beyond is_regular (drop l.here l.bytes) ≡ beyond is_regular (drop l.fn.at l.fn.bytes)
