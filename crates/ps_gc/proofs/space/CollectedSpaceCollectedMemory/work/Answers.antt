use Rattle.std.proofs.Common.{ap, ◌∙◌}
use Rattle.ps_core_laws.specs.Memory.{heap_of, grants_of}
use Rattle.ps_table.proofs.Kept.{keeps_vm, sits_on}
use Rattle.ps_gc.proofs.space.CollectedSpaceCollectedMemory.work.Goals as goal

pub invariant_of-self-else-self : goal.invariant_of-self-else-self
invariant_of-self-else-self g c =
    let was = c.drain_some-2.new.self in
    let did = c.scan_one.ensures.did in record {
      sits = sits_on _ _ _ _ _ (ap (λ t. t.words) c.scan_one.ensures.same) was.sits
          (keeps_vm _ _ did.0 did.1) c.scan_one.new.self.gc.empty;
    }

pub returns-else-self-clause-heap : goal.returns-else-self-clause-heap
returns-else-self-clause-heap g c =
    let did = c.scan_one.ensures.did in
    ap heap_of ((keeps_vm _ _ did.0 did.1).part ∙ c.drain_some-2.ensures.vm.part
    ∙ c.scan_some.ensures.vm.part ∙ c.drain_some.ensures.vm.part
    ∙ ap (λ m. m.vm) c.begin_cycle.ensures.did.2)

pub returns-else-self-clause-grants : goal.returns-else-self-clause-grants
returns-else-self-clause-grants g c =
    let did = c.scan_one.ensures.did in
    ap grants_of ((keeps_vm _ _ did.0 did.1).part ∙ c.drain_some-2.ensures.vm.part
    ∙ c.scan_some.ensures.vm.part ∙ c.drain_some.ensures.vm.part
    ∙ ap (λ m. m.vm) c.begin_cycle.ensures.did.2)
