-- When a log takes no close, and what a try to flip does.
use Rattle.std.specs.Prelude.{◌≡◌, ◌≤◌, ℕ, true, false, List, Result, is_ok, length}
use Rattle.ps_word.specs.declared.words.Word.{Word}
use Rattle.ps_mem.specs.Heap.{Heap, Grants}
use Rattle.ps_core_machine.specs.declared.events.Event.{Event}
use Rattle.ps_core_laws.specs.declared.tries.Unready.{Unready}
use Rattle.ps_core_laws.specs.Tries.{IsFlip, sides_of}
use Rattle.ps_gc_roots.specs.declared.reading.TheConstants.{ROOT_LIMIT}
use Rattle.ps_vault.specs.Stories.{Story, IsMemoryOf}

-- in a memory with the numbers of the story the log of a slot isn't closed, and takes no record
pub record IsFull {M : Type 0} (heap : M → Heap) (grants : M → Grants) (story : Story) (slot : ℕ)
    : Type 0 where
  pub memory : M
  pub is_of : IsMemoryOf story (heap memory) (grants memory)
  pub unclosed : (grants memory).closed slot ≡ false
  pub full : (grants memory).records slot ≡ 0

-- a try to flip with some roots, no more than all contexts have, over a memory with the numbers of
-- the story: it left this memory, and the collector like this. Where it flipped, these stayed so
pub record IsTry {M C : Type 0} (heap : M → Heap) (grants : M → Grants) (vm_did : M → List Event)
    (gc_did : C → M → List Event) (answers : C → M → List Word → Result Unit Unready → Type 0)
    (came : Result Unit Unready) (old new : Story) (before after : C) : Type 0 where
  pub memory : M
  pub is_of : IsMemoryOf old (heap memory) (grants memory)
  pub left : M
  pub tried : C
  pub roots : List Word
  pub renamed : List Word
  pub few : length roots ≤ ROOT_LIMIT
  pub answer : answers before memory roots came
  pub flips : IsFlip came (sides_of heap grants vm_did gc_did memory before)
      (sides_of heap grants vm_did gc_did left tried) roots renamed
  pub left_is : is_ok came ≡ true → IsMemoryOf new (heap left) (grants left)
  pub collector_is : is_ok came ≡ true → after ≡ tried
