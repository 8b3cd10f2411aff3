use Rattle.std.proofs.Common.{◌≡◌, length, sum, take}
use Rattle.ps_worlds.specs.Images.{names_in}
use Rattle.ps_worlds.proofs.names.NamesImage.of.Given as goal

-- the names of the numbers so far
abbrev pub invariant-loop-number : goal.invariant-loop-number
invariant-loop-number l = record {
  whole : sum l.image.lengths.items ≡ length l.image.bytes.items;
  names : names_in l.image ≡ take l.number l.names;
}
