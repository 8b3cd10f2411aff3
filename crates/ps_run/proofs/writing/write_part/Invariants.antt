use Rattle.std.proofs.Common.{◌≤◌, take, length}
use Rattle.std.specs.Io.KnownBytes.{Appends}
use Rattle.ps_run.proofs.writing.write_part.Given as goal

-- as many bytes were taken
abbrev pub invariant-loop : goal.invariant-loop
invariant-loop g l = record {
  few : l.written ≤ length l.bytes;
  taken : Appends (g.W.Write.contents l.initial.out) (g.W.Write.contents l.out)
      (take l.written l.bytes);
}
