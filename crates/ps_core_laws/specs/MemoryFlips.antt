-- What a flip keeps of the memory: the indexes of dictionaries.
use Rattle.std.specs.Prelude.{◌≡◌, ℕ, ◌*◌, ◌≤◌, List, take, drop, Some}
use Rattle.std.specs.List.{AllByRecursion}
use Rattle.ps_language.specs.declared.kinds.Kind.TheVariants.{Body}
use Rattle.ps_language.specs.Limits.{capacity_limit}
use Rattle.ps_word.specs.declared.words.Word.{Word}
use Rattle.ps_word.specs.Format.{IsWord}
use Rattle.ps_mem.specs.Heap.{Heap, IsKind, birth_at, fields_at}
use Rattle.ps_mem.specs.Heap as memory
use Rattle.ps_mem.specs.Index.{pairs_of_words, index_words}
use Rattle.ps_core_machine.specs.declared.events.Event.TheVariants.{CycleStore}
use Rattle.ps_core_machine.specs.declared.events.Pair.{Pair}
use Rattle.ps_core_machine.specs.Objects.{pair_of}
use Rattle.ps_core_machine.specs.Steps.{State, happens}
use Rattle.ps_core_laws.specs.Memory.{heap_of}

-- the first pairs of the body at an address, so many
abbrev pub first_pairs : Heap → (body count : ℕ) → List (Word × Word)
first_pairs h body count = take count (pairs_of_words (fields_at h body))

-- behind a capacity of pairs stands their index, and their keys are words of the format
pub record IsIndexed (h : Heap) (body capacity count : ℕ) : Type 0 where
  pub few : count ≤ capacity_limit
  pub keys : AllByRecursion (λ (pair : Word × Word). IsWord pair.0.0) (first_pairs h body count)
  pub index : drop (2 * capacity) (fields_at h body)
      ≡ index_words (birth_at h) capacity (first_pairs h body count)

-- a body that has its index has it where its replica is: keys go by births, which move with their
-- objects, and not by addresses
abbrev pub KeepsIndexes : State → List ℕ → Type 0
KeepsIndexes s roots = (a capacity count : ℕ) (p : Pair) → pair_of s.gc.pairs a ≡ Some p
    → IsKind Body (memory.object_at (heap_of s.vm) a) → IsIndexed (heap_of s.vm) a capacity count
    → IsIndexed (heap_of (happens s (CycleStore roots)).vm) p.replica capacity count
