-- What a try to flip does, and by how many steps, whoever makes it: from the machine up to what a
-- run calls.
use Rattle.std.specs.Prelude.{◌≡◌, ◌+◌, true, false, List, length, Result, is_ok}
use Rattle.ps_word.specs.declared.words.Word.{Word}
use Rattle.ps_mem.specs.Heap.{Heap, Grants}
use Rattle.ps_core_machine.specs.declared.events.Event.{Event}
use Rattle.ps_core_laws.specs.declared.tries.Unready.{Unready}
use Rattle.ps_core_laws.specs.Collected.{IsCollected}
use Rattle.ps_core_laws.specs.Flips.{AfterFlip}
use Rattle.ps_core_laws.specs.Looks.{OnlyLooks}

-- a memory as it is seen, and the events that its seat has made and those of the collector's, the
-- newest first
pub record BothSides : Type 0 where
  pub heap : Heap
  pub grants : Grants
  pub vm_did : List Event
  pub gc_did : List Event

-- those of a memory and a collector
abbrev pub sides_of : {M C : Type 0} → (heap : M → Heap) → (grants : M → Grants)
    → (vm_did : M → List Event) → (gc_did : C → M → List Event) → M → C → BothSides
sides_of heap grants vm_did gc_did memory collector = record {
  heap = heap memory;
  grants = grants memory;
  vm_did = vm_did memory;
  gc_did = gc_did collector memory;
}

-- the objects were moved and the roots renamed, and no cycle is open; or all is as it was. The
-- memory's seat looks at the cycle word and once for each root, the collector's once for each root,
-- and both make the flip: so no field is stored
pub record IsFlip (came : Result Unit Unready) (old new : BothSides) (roots renamed : List Word)
    : Type 0 where
  pub moved : is_ok came ≡ true → IsCollected old.heap new.heap roots renamed
  pub grants : is_ok came ≡ true → AfterFlip old.grants new.grants new.heap
  pub heap_stays : is_ok came ≡ false → new.heap ≡ old.heap
  pub grants_stay : is_ok came ≡ false → new.grants ≡ old.grants
  pub roots_stay : is_ok came ≡ false → renamed ≡ roots
  pub vm_steps : OnlyLooks (length roots + 2) old.vm_did new.vm_did
  pub gc_steps : OnlyLooks (length roots + 1) old.gc_did new.gc_did
