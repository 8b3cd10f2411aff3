use Rattle.std.proofs.Common.{◌≡◌, ◌<◌, ◌^◌, drop}
use Rattle.ps_language.specs.Bytes.{value_in}
use Rattle.ps_scan.proofs.numbers.value_of.Given as goal

-- the digits that are left complete the number
abbrev pub invariant-loop-at : goal.invariant-loop-at
invariant-loop-at l = (l.number < 2 ^ 32) × (value_in l.base l.number (drop l.at l.digits) ≡ value_in l.base 0 l.digits)
