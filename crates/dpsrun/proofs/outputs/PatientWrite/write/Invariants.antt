use Rattle.std.specs.Io.KnownBytes.{Keeps}
use Rattle.dpsrun.proofs.outputs.PatientWrite.write.Given as goal

-- nothing was taken
abbrev pub invariant-loop : goal.invariant-loop
invariant-loop g l =
    Keeps (g.W.Write.contents l.initial.self.output) (g.W.Write.contents l.self.output)
