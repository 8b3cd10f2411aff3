-- What stands has an address of 24 bits.
use Rattle.std.proofs.Common.{◌≡◌, ◌^◌, ◌<◌, Some, None, Option, refl, ap, arith}
use Rattle.std.specs.Option.{option_map}
use Rattle.ps_mem.specs.Heap as memory
use Rattle.ps_mem.specs.Stands.{IsAddressed}
use Rattle.ps_core_machine.specs.declared.events.Object.{Object}
use Rattle.ps_core_machine.specs.declared.events.Vm.{Vm}
use Rattle.ps_core_machine.specs.Objects.{object_at}
use Rattle.ps_core_laws.specs.Memory.{heap_of, standing}
use Rattle.ps_core_laws.specs.Shown.{VmRuns}
use Rattle.ps_table.proofs.Facts.{vm_facts}

-- what stands lies in the table, which is below 2^24 words
pub addressed : (v : Vm) → ∥ VmRuns v ∥₁ → IsAddressed (heap_of v)
unfolding memory.object_at
addressed v runs a stands = go (object_at v.objects a) refl
  where
    go : (x : Option Object) → object_at v.objects a ≡ x → a < 2 ^ 24
    go None e = absurd (stands (ap (option_map standing) e))
    go (Some o) e =
        let k = vm_facts v runs in
        let high = (k.within a o e).1 in
        let top = k.end_high in let wide = k.base_high in let size = k.size.1 in
        omega arith
