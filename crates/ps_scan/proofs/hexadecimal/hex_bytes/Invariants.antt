use Rattle.std.proofs.Common.{◌≡◌, ◌-◌, ◌<◌, ◌≤◌, ◌++◌, length, take, drop, filter}
use Rattle.std.specs.Prelude.{IfSome}
use Rattle.ps_language.specs.Bytes.{is_hex}
use Rattle.ps_language.specs.Reading.{pairs}
use Rattle.ps_scan.proofs.Pairs.{pairs_behind}
use Rattle.ps_scan.proofs.hexadecimal.hex_bytes.Given as goal

-- the bytes so far and those of what is left are all
abbrev pub invariant-loop-here : goal.invariant-loop-here
invariant-loop-here l = record {
  within : l.here ≤ length l.inner;
  room : l.count ≤ length l.string.items;
  small : IfSome l.high (λ value. value < 16);
  whole : take l.count l.string.items ++ pairs_behind l.high (filter is_hex (drop l.here l.inner))
      ≡ pairs (filter is_hex l.inner);
}

abbrev pub decreases-loop-here : goal.decreases-loop-here
decreases-loop-here l = length l.inner - l.here
