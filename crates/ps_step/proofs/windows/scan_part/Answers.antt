-- The scan of the list is the scanner's.
use Rattle.std.proofs.Common.{arith}
use Rattle.ps_language.specs.Access.{part_bytes}
use Rattle.ps_mem.specs.Heap.{birth_at}
use Rattle.ps_mem.specs.Meaning.{part_of}
use Rattle.ps_step.proofs.Scanning.{read_scanned, read_taken}
use Rattle.ps_step.proofs.windows.scan_part.Goals as goal

pub returns-in-Ok-clause-scanned : goal.returns-in-Ok-clause-scanned
returns-in-Ok-clause-scanned g c = λ names s shows within.
    read_scanned _ _ c.as_slice.ensures.value c.next_token.result c.args.at c.next_token.ensures.answer
    (part_bytes s (part_of (birth_at (g.M.Memory.heap c.args.memory.now)) c.args.part))
    (c.in-Ok.ensures.value names s shows within) c.next_token.ensures.fault

pub returns-in-Ok-clause-token : goal.returns-in-Ok-clause-token
returns-in-Ok-clause-token g c =
    let length = c.in-Ok.ensures.length in
    read_taken _ _ c.as_slice.ensures.value c.next_token.result c.args.at c.next_token.ensures.answer
    c.args.part.length (omega (arith, length)) c.next_token.ensures.place
