use Rattle.std.proofs.Common.{◌≡◌, drop}
use Rattle.ps_language.specs.Bytes.{is_digit}
use Rattle.ps_language.specs.Scan.{beyond}
use Rattle.ps_scan.proofs.spans.digits_end.Given as goal

-- what is left behind the run is left of what is left
abbrev pub invariant-loop-here : goal.invariant-loop-here
invariant-loop-here l = beyond is_digit (drop l.here l.bytes) ≡ beyond is_digit (drop l.fn.at l.fn.bytes)
