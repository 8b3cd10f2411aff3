use Rattle.std.proofs.Common.{sym, ap, ◌∙◌, subst, []}
use Rattle.ps_core_machine.specs.declared.events.Vm.{Vm}
use Rattle.ps_core_machine.specs.Steps.{table_size}
use Rattle.ps_table.specs.Mirrored.{Mirrors}
use Rattle.ps_table.proofs.Allows.{vm_runs}
use Rattle.ps_table.proofs.mutator.VmSeat.seated.Goals as goal

pub invariant_of-result : goal.invariant_of-result
invariant_of-result c = record {
  seated = c.requires.seated;
  sits = record {
    wide = c.requires.wide ∙ ap (λ (v : Vm). table_size v.space) (sym c.requires.part);
    acts = c.requires.acts;
    empty = c.requires.empty;
    runs = ∣ vm_runs c.args.space [] _ c.requires.size tt (sym c.requires.part) ∣₁;
    mirrors = subst (λ (v : Vm). Mirrors v c.new.result) (sym c.requires.part) c.new.ensures;
  };
}
