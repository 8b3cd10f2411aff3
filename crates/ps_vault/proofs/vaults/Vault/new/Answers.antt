-- The first context stands in an empty memory.
use Rattle.std.proofs.Common.{ap}
use Rattle.ps_mem.specs.Heap.{Space}
use Rattle.ps_vault.proofs.Keeping.{keeps_start}
use Rattle.ps_vault.proofs.vaults.Vault.new.Goals as goal

pub invariant_of-result : goal.invariant_of-result
invariant_of-result g c =
    rw c.in_ok-schedule.ensures.items
    (keeps_start _ _ c.args.task.program.now c.in-Ok.ensures.program c.in-Ok.ensures.steady
    c.in-Ok.ensures.calling c.in-Ok.ensures.at)

pub returns-clause-space : goal.returns-clause-space
returns-clause-space g c = ap (λ (s : Space). s.size) c.in-Ok.ensures.space
