-- The mutator's part of the state as a memory: what stands, and what is granted.
use Rattle.std.specs.Prelude.{ℕ, ◌+◌, ◌-◌, ◌==◌, ◌&&◌, Bool, not, nat_lt, min, length, map}
use Rattle.std.specs.Prelude.{slice_index, if◌then◌else◌}
use Rattle.std.specs.Option.{option_map}
use Rattle.ps_word.specs.Headers.{kind_in, birth_in, birth_limit}
use Rattle.ps_record.specs.Format.{slots, ring_length, log_limit}
use Rattle.ps_mem.specs.Heap.{Heap, Standing, Grants, unlogged_records}
use Rattle.ps_mem.specs.Objects.{kind_of_number, word_of}
use Rattle.ps_mem.specs.Bounded.{bounded_space}
use Rattle.ps_core_machine.specs.declared.events.Object.{Object}
use Rattle.ps_core_machine.specs.declared.events.Vm.{Vm}
use Rattle.ps_core_machine.specs.Objects.{among, object_at, log_of, closes}
use Rattle.ps_core_machine.specs.Steps.{is_open, space_base}

-- ---- what stands

-- an object of the machine as one of the memory
abbrev pub standing : Object → Standing
standing o = record {
  kind = kind_of_number (kind_in o.header);
  birth = birth_in o.header;
  fields = map word_of o.fields;
}

-- the objects by their addresses; used: from the current space's lowest word to its end of use; a
-- flip moves what stands
abbrev pub heap_of : Vm → Heap
heap_of v = record {
  at = λ a. option_map standing (object_at v.objects a);
  next = v.next_birth;
  used = v.end - space_base v.space v.cycle;
  space = record (bounded_space v.space) { flips = v.cycle };
}

-- ---- what is granted

-- the log is closed in the open cycle
abbrev pub is_shut : Vm → ℕ → Bool
is_shut v slot = is_open v && (closes (log_of v.logs slot) == v.epoch)

-- in a cycle a log that isn't closed is granted as many records as have a free place by the head
-- last loaded, and none past the last that may be a place
abbrev pub records_free : Vm → ℕ → ℕ
records_free v slot = if nat_lt slot slots && not (closes (log_of v.logs slot) == v.epoch)
    then min (slice_index v.heads slot + ring_length) log_limit - length (log_of v.logs slot) else 0

abbrev pub records_left : Vm → ℕ → ℕ
records_left v slot = if is_open v then records_free v slot else unlogged_records

abbrev pub grants_of : Vm → Grants
grants_of v = record {
  fresh = among v.fresh;
  words = (space_base v.space v.cycle + v.space) - v.end;
  births = birth_limit - v.next_birth;
  cycle_open = is_open v;
  records = records_left v;
  put = λ slot. length (log_of v.logs slot);
  closed = is_shut v;
}
