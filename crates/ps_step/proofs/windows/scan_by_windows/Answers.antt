-- A token that ends in a window is that of the part.
use Rattle.std.proofs.Common.{arith}
use Rattle.ps_language.specs.Access.{bytes}
use Rattle.ps_mem.specs.Heap.{birth_at}
use Rattle.ps_step.proofs.Scanning.{window_scanned}
use Rattle.ps_step.proofs.windows.scan_by_windows.Goals as goal

pub returns-in-Ok-Some-clause-scanned : goal.returns-in-Ok-Some-clause-scanned
returns-in-Ok-Some-clause-scanned g c = λ names s shows within.
    let part = c.args.part in
    let size = c.loop-size.size in
    let low = c.loop-size.invariant.within in
    let scanned = rw (c.loop-size.invariant.heap, c.in-Ok-Some.is, c.in-Ok-Some.field-0-is) at
    c.scan_part.ensures.scanned in
    window_scanned (bytes s (birth_at (g.M.Memory.heap c.args.memory.now) part.address)) part.offset
    part.length size low within c.args.at _ _ (scanned names s shows (omega (arith, low, within)))
    c.if-scan_part-size.true

pub returns-clause-scanned : goal.returns-clause-scanned
returns-clause-scanned g c =
    rw c.loop-size.invariant.heap at c.scan_part-2.ensures.scanned

pub returns-in-Ok-Some-clause-read : goal.returns-in-Ok-Some-clause-read
returns-in-Ok-Some-clause-read g c = rw c.loop-size.invariant.heap at c.scan_part.ensures.read

pub returns-in-Err-Memory-clause-read : goal.returns-in-Err-Memory-clause-read
returns-in-Err-Memory-clause-read g c = rw c.loop-size.invariant.heap at c.scan_part.ensures.read

pub returns-clause-read : goal.returns-clause-read
returns-clause-read g c = rw c.loop-size.invariant.heap at c.scan_part-2.ensures.read
