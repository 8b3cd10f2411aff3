-- The list is what the part shows, or nothing.
use Rattle.std.proofs.Common.{ap, length, arith}
use Rattle.ps_step.proofs.Rereading.{on_ok, part_read}
use Rattle.ps_step.proofs.windows.read_part.Goals as goal

pub returns-clause-value : goal.returns-clause-value
returns-clause-value g c = λ names s shows within.
    rw c.clear.ensures.items at (c.append_bytes.ensures.value names s shows within)

pub returns-clause-read : goal.returns-clause-read
returns-clause-read g c =
    part_read (g.M.Memory.heap c.args.memory.now) c.args.part c.append_bytes.new.output.items
    c.append_bytes.result
    (λ names s shows within.
    rw c.clear.ensures.items at (c.append_bytes.ensures.value names s shows within))
    (on_ok c.append_bytes.result c.append_bytes.ensures.length λ size.
    let empty = ap length c.clear.ensures.items in omega (arith, size, empty))
    (rw c.clear.ensures.items at c.append_bytes.ensures.unchanged)
