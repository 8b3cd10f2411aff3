use Rattle.std.proofs.Common.{◌≡◌, ◌≤◌, drop}
use Rattle.std.specs.Prelude.{option_map}
use Rattle.ps_debug.specs.Words.{bounded, number_behind}
use Rattle.ps_debug.proofs.numbers.number_in.Given as goal

-- what is left stands behind the number so far
abbrev pub invariant-loop-byte : goal.invariant-loop-byte
invariant-loop-byte l = record {
  same : option_map bounded (number_behind 0 l.text)
      ≡ option_map bounded (number_behind l.number (drop l.byte-index l.text));
  small : l.number ≤ 18446744073709551615;
}
