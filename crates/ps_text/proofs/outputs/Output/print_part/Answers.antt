-- The bytes are printed, or lack room.
use Rattle.std.proofs.Common.{arith}
use Rattle.ps_language.specs.Access.{bytes}
use Rattle.ps_mem.specs.Heap.{birth_at}
use Rattle.ps_text.proofs.Parts.{part_length}
use Rattle.ps_text.proofs.outputs.Output.print_part.Goals as goal

pub returns-clause-prints : goal.returns-clause-prints
returns-clause-prints g c = λ names s shows within.
    let all = part_length (bytes s (birth_at (g.M.Memory.heap c.args.memory.now)
    c.args.part.address)) c.args.part.offset c.args.part.length within in
    let value = c.append_bytes.ensures.value names s shows within in
    let full = c.append_bytes.ensures.full in
    grind (arith, all, value, full)
