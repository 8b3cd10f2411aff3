use Rattle.std.proofs.Common.{refl}
use Rattle.ps_mem.specs.Objects.{heap_in}
use Rattle.ps_mem.proofs.bounded.BoundedMemoryMemory.size.Goals as goal

pub returns-clause-answer : goal.returns-clause-answer
unfolding heap_in
returns-clause-answer c = refl
