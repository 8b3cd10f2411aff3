-- Nothing stands in a new space, which has its size.
use Rattle.std.proofs.Common.{ap, sym, ◌∙◌}
use Rattle.std.proofs.lemmas.Result.{IfOk-weaker}
use Rattle.ps_mem.specs.Heap.{Heap, empty_heap}
use Rattle.ps_run_workers.proofs.runs.space_of.Goals as goal

pub returns-clause-empty : goal.returns-clause-empty
unfolding empty_heap
returns-clause-empty c =
    IfOk-weaker c.new.result _ _ (λ space is.
    is ∙ ap empty_heap (sym (ap (λ (h : Heap). h.space) is))) c.new.ensures.heap

pub returns-clause-sized : goal.returns-clause-sized
unfolding empty_heap
returns-clause-sized c =
    IfOk-weaker c.new.result _ _ (λ space is. ap (λ (h : Heap). h.space.size) is) c.new.ensures.heap

pub returns-clause-unmoved : goal.returns-clause-unmoved
unfolding empty_heap
returns-clause-unmoved c =
    IfOk-weaker c.new.result _ _ (λ space is. ap (λ (h : Heap). h.space.flips) is)
    c.new.ensures.heap
