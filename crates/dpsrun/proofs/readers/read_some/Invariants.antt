use Rattle.std.proofs.Common.{◌≡◌, length}
use Rattle.std.specs.Io.KnownBytes.{Keeps}
use Rattle.dpsrun.proofs.readers.read_some.Given as goal

-- the room stays, and nothing was given
abbrev pub invariant-loop : goal.invariant-loop
invariant-loop g l = record {
  room : length l.part ≡ length l.initial.part;
  kept : Keeps (g.R.Read.remaining l.initial.reader) (g.R.Read.remaining l.reader);
}
