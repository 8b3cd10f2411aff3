use Rattle.std.proofs.Common.{subst}
use Rattle.ps_core_laws.specs.Memory.{heap_of}
use Rattle.ps_core_laws.specs.Collected.{IsExact}
use Rattle.ps_table.specs.declared.mutator.VmSeat.{VmSeat}
use Rattle.ps_gc.proofs.copiers.CopierCollectsMutatorSeat.whole_cycle.Goals as goal

pub returns-clause-exact : goal.returns-clause-exact
returns-clause-exact g c = λ made.
    subst (λ (vm : VmSeat). IsExact (heap_of vm.seat.me.0.vm)
    (heap_of c.whole_cycle-made.new.vm.seat.me.0.vm) c.args.roots.now
    c.whole_cycle-made.new.roots) c.used-used.ensures.same
    (c.whole_cycle-made.ensures.exact made)
