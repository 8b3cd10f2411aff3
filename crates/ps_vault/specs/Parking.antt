-- What a vault is without the bytes of its program.
use Rattle.std.specs.Prelude.{ℕ, List, option_map}
use Rattle.ps_mem.specs.Heap.{Heap, Grants}
use Rattle.ps_ctx_table.specs.Desks.{Desk}
use Rattle.ps_ctx.specs.Held.{Held, held}
use Rattle.ps_run_schedules.specs.Keeping.{most_of}
use Rattle.ps_vault.specs.declared.parking.Parked.{Parked}
use Rattle.ps_vault.specs.Stories.{Story, Keeps, logs_closed}

module _ {M S D : Type 0} (heap : M → Heap) (grants : M → Grants) (program : List ℕ) where
  -- all that contexts share, with these bytes as the program
  abbrev pub desk_with : Parked M S D → Desk
  desk_with parked = record {
    heap = heap parked.memory;
    grants = grants parked.memory;
    members = parked.world.contexts.table;
    program = program;
    names = parked.names;
    printed = parked.printed.bytes;
    most = parked.printed.most;
    room = parked.printed.room;
    scratch = parked.scratch;
    has_faulted = parked.world.contexts.has_faulted;
  }

  -- with the call that waits, if one does
  abbrev pub held_with : Parked M S D → Held
  held_with parked = held (desk_with parked) parked.world.calling

  -- it keeps what a vault of this program keeps
  abbrev pub IsParked : Parked M S D → Type 0
  IsParked parked = Keeps (held_with parked) parked.schedule.items

  -- what the vault is seen as that is lent this program
  abbrev pub story_of : Parked M S D → Story
  story_of parked = record {
    program = program;
    most = record { output = parked.printed.most; entries = most_of parked.schedule };
    schedule = parked.schedule.items;
    capacity = parked.schedule.capacity;
    caller = option_map (λ calling. calling.caller) parked.world.calling;
    space = (heap parked.memory).space.size;
    used = (heap parked.memory).used;
    flips = (heap parked.memory).space.flips;
    cycle_open = (grants parked.memory).cycle_open;
    closed = logs_closed (grants parked.memory).closed;
  }
