-- When a flip can come, and what it makes of the memory.
use Rattle.std.specs.Prelude.{◌≡◌, ◌≢◌, ℕ, true, false, List, Option, Some, None, Result, Ok}
use Rattle.std.specs.Prelude.{Err}
use Rattle.ps_core_machine.specs.declared.events.Vm.{Vm}
use Rattle.ps_core_machine.specs.declared.events.Gc.{Gc}
use Rattle.ps_core_machine.specs.Conditions.{AllClosed}
use Rattle.ps_core_machine.specs.Objects.{all_filled, values_have_replicas}
use Rattle.ps_core_laws.specs.Memory.{heap_of, grants_of}
use Rattle.ps_core_laws.specs.Tries.{BothSides}
use Rattle.ps_table.specs.declared.plays.View.{View}
use Rattle.ps_core_laws.specs.declared.tries.Unready.{Unready}
use Rattle.ps_core_laws.specs.declared.tries.Unready.TheVariants.{LogOpen, Undrained, Unscanned}
use Rattle.ps_core_laws.specs.declared.tries.Unready.TheVariants.{RootNotCopied}

-- all logs are closed, and all that was logged is taken
abbrev pub AreDrained : Vm → Gc → Type 0
AreDrained v g = AllClosed v × (g.taken ≡ v.logs)

-- and each field of each replica is filled
abbrev pub AreScanned : Vm → Gc → Type 0
AreScanned v g = AreDrained v g × (all_filled g.pairs ≡ true)

-- and what each root refers to has a replica
abbrev pub MayFlip : Vm → Gc → List ℕ → Type 0
MayFlip v g roots = AreScanned v g × (values_have_replicas g.pairs roots ≡ true)

-- of all this the first that doesn't hold
abbrev pub IsFirst : Vm → Gc → List ℕ → Unready → Type 0
IsFirst v g roots LogOpen = AllClosed v → ⊥
IsFirst v g roots Undrained = AllClosed v × (g.taken ≢ v.logs)
IsFirst v g roots Unscanned = AreDrained v g × (all_filled g.pairs ≡ false)
IsFirst v g roots RootNotCopied =
    AreScanned v g × (values_have_replicas g.pairs roots ≡ false)

abbrev pub Answers : Vm → Gc → List ℕ → Result Unit Unready → Type 0
Answers v g roots (Ok tt) = MayFlip v g roots
Answers v g roots (Err why) = IsFirst v g roots why

-- a try that this hinders, or that nothing hinders, comes to
abbrev pub flip_but_for : Option Unready → Result Unit Unready
flip_but_for (Some why) = Err why
flip_but_for None = Ok tt

-- ---- what is seen

-- what both seats know of both sides, or one seat that has both
abbrev pub sides_seen : (vm gc : View) → BothSides
sides_seen vm gc = record {
  heap = heap_of vm.vm;
  grants = grants_of vm.vm;
  vm_did = vm.vm_events;
  gc_did = gc.gc_events;
}
