use Rattle.std.proofs.Common.{◌≡◌, ◌+◌, ◌*◌, ◌++◌, length, take, drop, filter}
use Rattle.ps_language.specs.Bytes.{is_hex}
use Rattle.ps_language.specs.Reading.{pairs}
use Rattle.ps_scan.proofs.hexadecimal.fill_pairs.Given as goal

-- the bytes so far and those of what is left are all
abbrev pub invariant-loop-pair : goal.invariant-loop-pair
invariant-loop-pair l = record {
  long : length l.string.items ≡ length l.fn.string.items;
  whole : take (l.count + l.pair) l.string.items
      ++ pairs (filter is_hex (drop (l.from + 2 * l.pair) l.inner))
      ≡ take l.count l.fn.string.items ++ pairs (filter is_hex (drop l.from l.inner));
}
