-- Nothing stands at the new seats, and nothing was moved.
use Rattle.std.proofs.Common.{ap, ◌∙◌}
use Rattle.ps_mem.specs.Heap.{Heap, empty_heap}
use Rattle.ps_core_laws.specs.Memory.{heap_of}
use Rattle.ps_vault.proofs.Beginning.{nothing_stands}
use Rattle.ps_run_workers.proofs.runs.run_named_gated.Goals as goal

pub run_beside-requires-clause-empty : goal.run_beside-requires-clause-empty
run_beside-requires-clause-empty g c κs within =
    nothing_stands _ _ (ap (λ m. heap_of m.vm.seat.me.0.vm) c.new.ensures
    ∙ ap (λ v. heap_of v.seat.me.0.vm) c.in-Ok.ensures.vm ∙ c.requires.heap)

pub run_beside-requires-clause-unmoved : goal.run_beside-requires-clause-unmoved
unfolding empty_heap
run_beside-requires-clause-unmoved g c κs within =
    ap (λ (h : Heap). h.space.flips)
    (ap (λ m. heap_of m.vm.seat.me.0.vm) c.new.ensures
    ∙ ap (λ v. heap_of v.seat.me.0.vm) c.in-Ok.ensures.vm ∙ c.requires.heap)
