-- How large the numbers of a state are, so that the machine's sums don't wrap.
use Rattle.std.specs.Prelude.{◌≤◌, ◌<◌, ◌^◌, ◌+◌, ℕ, Option, Some, None}
use Rattle.std.specs.Prelude.{Bool, List, length, ◌≡◌}
use Rattle.ps_record.specs.Format.{slots}
use Rattle.ps_core_machine.specs.declared.events.Pair.{Pair}
use Rattle.ps_core_machine.specs.declared.events.Event.{Event}
use Rattle.ps_core_machine.specs.declared.events.Event.TheVariants.{FieldStore, RecordStore}
use Rattle.ps_core_machine.specs.declared.events.Event.TheVariants.{ForwardStore, HeadStore}
use Rattle.ps_core_machine.specs.declared.events.Event.TheVariants.{CycleStore}
use Rattle.ps_core_machine.specs.declared.events.Written.{Written}
use Rattle.ps_core_machine.specs.declared.events.Vm.{Vm}
use Rattle.ps_core_machine.specs.declared.events.Gc.{Gc}
use Rattle.ps_core_machine.specs.declared.events.Carried.{Carried}
use Rattle.ps_core_machine.specs.declared.events.Half.{Half}
use Rattle.ps_core_machine.specs.declared.events.Target.{Target}
use Rattle.ps_core_machine.specs.Objects.{pair_of, renamed, with_copy, end_of_last, end_of_replicas}
use Rattle.ps_core_machine.specs.Steps.{State, start, other_base, header_of, replica_of, word_stored}

abbrev pub IsShort : Option Written → Type 0
IsShort None = Unit {0}
IsShort (Some w) = w.first + w.count ≤ 2 ^ 20

-- each replica has an address of 24 bits
abbrev pub AllLow : List Pair → Type 0
AllLow pairs = (a : ℕ) (p : Pair) → pair_of pairs a ≡ Some p → p.replica < 2 ^ 24

pub record VmBounded (v : Vm) : Type 0 where
  pub space : v.space < 2 ^ 21
  pub cycle : v.cycle < 2 ^ 33
  pub epoch : v.epoch < 2 ^ 33
  pub making : v.making < 2 ^ 32
  pub end : v.end < 2 ^ 32
  pub next_birth : v.next_birth < 2 ^ 41
  pub written : IsShort v.written

pub record GcBounded (g : Gc) : Type 0 where
  pub space : g.space < 2 ^ 21
  pub cycle : g.cycle < 2 ^ 33
  pub epoch : g.epoch < 2 ^ 33
  pub low : AllLow g.pairs
  pub end : end_of_replicas (other_base g.space g.cycle) g.pairs < 2 ^ 32
  pub last : end_of_last (other_base g.space g.cycle) g.pairs
      ≡ end_of_replicas (other_base g.space g.cycle) g.pairs

-- the record being taken has a slot
abbrev pub HasSlot : Gc → Option Half → Type 0
HasSlot g None = Unit {0}
HasSlot g (Some h) = (h.slot < slots) × (h.slot < length g.taken)

abbrev pub IsSlot : Gc → Type 0
IsSlot g = HasSlot g g.taking

-- the field that the word being copied is put into
abbrev pub target_of : Gc → Carried → Target
target_of g k = record {
  replica = replica_of (pair_of g.pairs k.address);
  field = k.field;
  word = word_stored g k;
}

-- the pairs after that store
abbrev pub copied_pairs : List Pair → Carried → Bool → List Pair
copied_pairs pairs k scans = with_copy pairs k.address k.field
    (renamed pairs (header_of (pair_of pairs k.address)) k.word) scans

pub record Bounded (s : State) : Type 0 where
  pub vm : VmBounded s.vm
  pub gc : GcBounded s.gc

-- what an event needs beside, so that no sum of the machine wraps and no list is too short
abbrev pub CanStep : State → Event → Type 0
CanStep s (FieldStore a i w) = i < 2 ^ 20
CanStep s (RecordStore slot r) = slot < length s.vm.logs
CanStep s (ForwardStore a c) = (a < 2 ^ 32) × (c < 2 ^ 32)
CanStep s HeadStore = IsSlot s.gc
CanStep s (CycleStore roots) =
    end_of_replicas (other_base s.vm.space s.vm.cycle) s.gc.pairs < 2 ^ 64
CanStep s _ = Unit {0}

-- parts that an event of the other seat doesn't read
abbrev pub any_vm : Vm
any_vm = (start 0).vm

abbrev pub any_gc : Gc
any_gc = (start 0).gc
