-- What the mutator's seat keeps of its part in numbers, and what holds of it between two calls.
use Rattle.std.specs.Prelude.{◌≡◌, ℕ, ◌+◌, ◌<◌, ◌≤◌, Bool, true, nat_le, nat_lt, ◌&&◌, [], length}
use Rattle.std.specs.Prelude.{Some, None, slice_index, slice_index_or, slice_set, if◌then◌else◌}
use Rattle.ps_record.specs.Format.{slots}
use Rattle.ps_core_machine.specs.declared.events.Object.{Object}
use Rattle.ps_core_machine.specs.declared.events.Vm.{Vm}
use Rattle.ps_core_machine.specs.Objects.{among, object_at, log_of}
use Rattle.ps_core_machine.specs.Steps.{is_open, space_base, table_size}
use Rattle.ps_core_laws.specs.Memory.{is_shut}
use Rattle.ps_core_laws.specs.Shown.{VmRuns}
use Rattle.ps_table.specs.declared.mirror.Mirror.{Mirror}
use Rattle.ps_table.specs.declared.plays.View.{View}
use Rattle.ps_table.specs.Shown.{SeatState}

-- each number is what the part says; of what stands, all from an address on is new; no object is
-- being made, and nothing is written that isn't logged
pub record Mirrors (v : Vm) (n : Mirror) : Type 0 where
  pub space_is : n.space ≡ v.space
  pub base_is : n.base ≡ space_base v.space v.cycle
  pub end_is : n.end ≡ v.end
  pub birth_is : n.next_birth ≡ v.next_birth
  pub epoch_is : n.epoch ≡ v.epoch
  pub open_is : n.cycle_open ≡ is_open v
  pub heads_are : n.heads ≡ v.heads
  pub wide_logged : length n.logged ≡ slots
  pub wide_shut : length n.shut ≡ slots
  pub logged_is : (slot : ℕ) → slot < slots
      → slice_index n.logged slot ≡ length (log_of v.logs slot)
  pub shut_is : (slot : ℕ) → slot < slots → slice_index_or n.shut slot true ≡ is_shut v slot
  pub fresh_is : (a : ℕ) (o : Object) → object_at v.objects a ≡ Some o
      → among v.fresh a ≡ nat_le n.fresh_from a
  pub fresh_low : n.fresh_from ≤ v.end
  pub idle : v.making ≡ 0
  pub settled : v.written ≡ None

-- a seat with the mutator's part at a table of so many words: it holds no slot, its part is that of
-- some run, and its numbers are the part's
pub record Sits (words : ℕ) (m : SeatState) (n : Mirror) : Type 0 where
  pub wide : words ≡ table_size m.0.vm.space
  pub acts : m.0.acts_vm ≡ true
  pub empty : m.1 ≡ []
  pub runs : ∥ VmRuns m.0.vm ∥₁
  pub mirrors : Mirrors m.0.vm n

-- the collector's side is as before
pub record KeepsGc (old new : View) : Type 0 where
  pub acts : new.acts_gc ≡ old.acts_gc
  pub events : new.gc_events ≡ old.gc_events
  pub part : new.gc ≡ old.gc

-- the mutator's side is as before
pub record KeepsVm (old new : View) : Type 0 where
  pub acts : new.acts_vm ≡ old.acts_vm
  pub events : new.vm_events ≡ old.vm_events
  pub part : new.vm ≡ old.vm

-- ---- a store

-- a store to the object at an address puts a record
abbrev pub owes : Mirror → ℕ → Bool
owes n a = nat_lt a n.fresh_from && n.cycle_open

-- the numbers after a store to it: where it isn't new nothing is new any more, and in a cycle the
-- slot's log has one record more
abbrev pub mirror_stored : Mirror → ℕ → ℕ → Mirror
mirror_stored n slot a =
    if nat_lt a n.fresh_from then (if n.cycle_open then record n {
      fresh_from = n.end;
      logged = slice_set n.logged slot (slice_index n.logged slot + 1);
    } else record n { fresh_from = n.end }) else n
