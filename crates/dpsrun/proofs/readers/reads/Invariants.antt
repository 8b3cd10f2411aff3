use Rattle.std.proofs.Common.{◌≡◌, ◌++◌, ℕ, List}
use Rattle.std.specs.Io.KnownBytes.{Consumes}
use Rattle.dpsrun.proofs.readers.reads.Given as goal

-- what was given stands in front of what is left of the bytes
abbrev pub invariant-loop : goal.invariant-loop
invariant-loop g l = (read : List ℕ)
    × Consumes (g.R.Read.remaining l.initial.reader) (g.R.Read.remaining l.reader) read
    × (l.bytes ≡ read ++ l.left)
