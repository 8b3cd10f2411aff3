-- The flip of the collector's machine, as the memory of the mutator's part shows it.
use Rattle.std.specs.Prelude.{ℕ, ◌≡◌, ◌≢◌, ◌+◌, ◌≤◌, true, false, List, map, None}
use Rattle.std.specs.Option.{option_map}
use Rattle.ps_word.specs.declared.words.Word.{Word}
use Rattle.ps_mem.specs.Heap.{Heap, Grants, standing_words, unlogged_records}
use Rattle.ps_mem.specs.Objects.{word_of}
use Rattle.ps_core_machine.specs.declared.events.Event.TheVariants.{CycleStore}
use Rattle.ps_core_machine.specs.declared.events.Pair.{Pair}
use Rattle.ps_core_machine.specs.declared.events.Vm.{Vm}
use Rattle.ps_core_machine.specs.Objects.{pair_of, renamed_value, values_have_replicas}
use Rattle.ps_core_machine.specs.Steps.{State, happens}
use Rattle.ps_core_laws.specs.Reach.{Reach}
use Rattle.ps_core_laws.specs.Memory.{heap_of, grants_of}
use Rattle.ps_core_laws.specs.Shown.{VmRuns}
use Rattle.ps_core_laws.specs.Moves.{Forwarding, SameWords, moved_space}

-- ---- the flip as a move

-- the mutator's part after the flip
abbrev pub flipped : State → List ℕ → Vm
flipped s roots = (happens s (CycleStore roots)).vm

-- where the replicas are
abbrev pub replica_at : List Pair → Forwarding
replica_at pairs a = option_map (λ p. p.replica) (pair_of pairs a)

-- this holds of the memory before the flip and the memory after it
abbrev pub AtFlip : (Heap → Heap → Forwarding → Type 0) → State → List ℕ → Type 0
AtFlip P s roots = P (heap_of s.vm) (heap_of (flipped s roots)) (replica_at s.gc.pairs)

-- ---- objects

-- births go on from the same number and the space was moved once; what is used is what stands, and
-- no more than was
pub record SameNumbers (h now : Heap) : Type 0 where
  pub next : now.next ≡ h.next
  pub space : now.space ≡ moved_space h.space
  pub used : now.used ≡ standing_words now
  pub room : now.used ≤ h.used

abbrev pub KeepsNumbers : State → List ℕ → Type 0
KeepsNumbers s roots = SameNumbers (heap_of s.vm) (heap_of (flipped s roots))

-- what the roots reach has a replica
abbrev pub KeepsReachable : State → List ℕ → Type 0
KeepsReachable s roots = (a : ℕ) → Reach s.vm.objects roots a → pair_of s.gc.pairs a ≢ None

-- ---- words

abbrev pub as_words : List ℕ → List Word
as_words numbers = map word_of numbers

-- words that refer to nothing or to what has a replica are renamed to what they were
abbrev pub RenamesWords : State → List ℕ → Type 0
RenamesWords s roots = (numbers : List ℕ) → values_have_replicas s.gc.pairs numbers ≡ true
    → SameWords (heap_of s.vm) (heap_of (flipped s roots)) (as_words numbers)
    (as_words (map (renamed_value s.gc.pairs) numbers))

-- so are the roots that the flip is handed, to those that it leaves
abbrev pub RenamesRoots : State → List ℕ → Type 0
RenamesRoots s roots = SameWords (heap_of s.vm) (heap_of (flipped s roots)) (as_words roots)
    (as_words (flipped s roots).roots)

-- ---- what is granted

-- no object may be filled; new objects may take what the replicas leave of the space, and as many
-- births as before; no cycle is open and no log is closed, and the records that were put stay
pub record AfterFlip (old new : Grants) (now : Heap) : Type 0 where
  pub fresh : (a : ℕ) → new.fresh a ≡ false
  pub words : new.words + now.used ≡ now.space.size
  pub births : new.births ≡ old.births
  pub cycle_open : new.cycle_open ≡ false
  pub records : (slot : ℕ) → new.records slot ≡ unlogged_records
  pub put : new.put ≡ old.put
  pub closed : (slot : ℕ) → new.closed slot ≡ false

abbrev pub OpensLogs : State → List ℕ → Type 0
OpensLogs s roots =
    AfterFlip (grants_of s.vm) (grants_of (flipped s roots)) (heap_of (flipped s roots))

-- the part is that of a run again
abbrev pub GoesOn : State → List ℕ → Type 0
GoesOn s roots = VmRuns (flipped s roots)
