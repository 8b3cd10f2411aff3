-- The space of a memory that is bounded, and what it grants.
use Rattle.std.specs.Prelude.{ℕ, ◌-◌, Bool, true, false, ◌&&◌, List, nat_le, ◌≡◌, replicate, slice_index, slice_index_or, if◌then◌else◌}
use Rattle.ps_record.specs.Format.{slots, ring_length}
use Rattle.ps_word.specs.Headers.{birth_limit}
use Rattle.ps_mem.specs.Heap.{Space, Grants, unlogged_records}

abbrev pub bounded_space : ℕ → Space
bounded_space size = record { size = size; grows = false; flips = 0 }

-- the logs of the slots: whether a cycle is open, how many records each has places for, how many it
-- has put, and which are closed
pub record Logs : Type 0 where
  pub cycle_open : Bool
  pub places : List ℕ
  pub put : List ℕ
  pub closed : List Bool

-- in a cycle a log that isn't closed takes as many records as it has free places
abbrev pub records_of : Logs → ℕ → ℕ
records_of logs slot = if logs.cycle_open then
    (if slice_index_or logs.closed slot true then 0 else slice_index logs.places slot - slice_index
    logs.put slot) else unlogged_records

-- a log is closed in a cycle alone
abbrev pub is_closed : Logs → ℕ → Bool
is_closed logs slot = logs.cycle_open && slice_index_or logs.closed slot false

-- where the space has so many words, of which so many stand, this is the next birth number, and
-- what stands from an address on may be filled
abbrev pub bounded_grants : ℕ → ℕ → ℕ → ℕ → Logs → Grants
bounded_grants size used next fresh_from logs = record {
  fresh = λ address. nat_le fresh_from address;
  words = size - used;
  births = birth_limit - next;
  cycle_open = logs.cycle_open;
  records = records_of logs;
  put = λ slot. slice_index logs.put slot;
  closed = is_closed logs;
}

-- outside a cycle, and at its opening: the log of each slot has the places of a ring, and no record
-- was put
abbrev pub no_logs : Logs
no_logs = record {
  cycle_open = false;
  places = replicate slots ring_length;
  put = replicate slots 0;
  closed =
      replicate slots false;
}

abbrev pub open_logs : Logs
open_logs = record {
  cycle_open = true;
  places = replicate slots ring_length;
  put = replicate slots 0;
  closed =
      replicate slots false;
}

-- what was granted stays, but for the logs
pub record IsWithLogs (old new : Grants) (logs : Logs) : Type 0 where
  pub fresh : new.fresh ≡ old.fresh
  pub words : new.words ≡ old.words
  pub births : new.births ≡ old.births
  pub cycle_open : new.cycle_open ≡ logs.cycle_open
  pub records : (slot : ℕ) → new.records slot ≡ records_of logs slot
  pub put : (slot : ℕ) → new.put slot ≡ slice_index logs.put slot
  pub closed : (slot : ℕ) → new.closed slot ≡ is_closed logs slot
