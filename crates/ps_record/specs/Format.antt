-- The layout of this run time's log: where a record stands, and as which number. Bits that no case
-- sets are zero.
use Rattle.std.specs.Prelude.{ℕ, ◌+◌, ◌*◌, ◌/◌, ◌%◌, ◌^◌, ◌<◌, ◌==◌, Option, Some, None}
use Rattle.std.specs.Prelude.{if◌then◌else◌}
use Rattle.ps_record.specs.declared.Record.{Record}
use Rattle.ps_record.specs.declared.Record.TheVariants.{Place, Close}

-- each context that isn't ended has a slot of these, with a log and a ring of its own
abbrev pub slots : ℕ
slots = 32

-- how many records a ring holds
abbrev pub ring_length : ℕ
ring_length = 256

-- a log with so many records gets no further place, only the closes of the cycles that are left
abbrev pub log_limit : ℕ
log_limit = 2 ^ 63

-- the lap bit of record k, bit 63: 1 in the laps 0, 2, 4 and so on of its ring
abbrev pub lap_of : ℕ → ℕ
lap_of k = (k / ring_length + 1) % 2

-- a close is bit 62; a place has its address from bit 32 on, its first field from bit 16 on and its
-- count from bit 0 on
abbrev pub body_of : Record → ℕ
body_of (Place address first count) = address * 2 ^ 32 + first * 2 ^ 16 + count
body_of Close = 2 ^ 62

-- record k of a log as a number
abbrev pub packed : ℕ → Record → ℕ
packed k r = lap_of k * 2 ^ 63 + body_of r

-- a place has at least one field, and none past the 65,535th
abbrev pub IsRecord : Record → Type 0
IsRecord (Place address first count) = (address < 2 ^ 24) × (0 < count) × (first + count < 2 ^ 16)
IsRecord Close = Unit {0}

-- the control words: the cycle word, the epoch word, and the head of each slot, from this place on
abbrev pub heads_start : ℕ
heads_start = 2

-- behind the heads as many words as make them 64
abbrev pub control_words : ℕ
control_words = 64

-- where the head of a slot stands in the table
abbrev pub head_place : ℕ → ℕ
head_place slot = heads_start + slot

-- where record k of a slot stands there
abbrev pub ring_place : ℕ → ℕ → ℕ
ring_place slot k = control_words + ring_length * slot + k % ring_length

-- the spaces begin behind the rings
abbrev pub spaces_start : ℕ
spaces_start = control_words + slots * ring_length

-- ---- what a number says

abbrev pub lap_in : ℕ → ℕ
lap_in n = n / 2 ^ 63

abbrev pub close_in : ℕ → ℕ
close_in n = (n / 2 ^ 62) % 2

abbrev pub address_in : ℕ → ℕ
address_in n = (n / 2 ^ 32) % 2 ^ 24

abbrev pub first_in : ℕ → ℕ
first_in n = (n / 2 ^ 16) % 2 ^ 16

abbrev pub count_in : ℕ → ℕ
count_in n = n % 2 ^ 16

abbrev pub record_in : ℕ → Record
record_in n = if close_in n == 1 then Close else Place (address_in n) (first_in n) (count_in n)

-- record k, where the number that was found in its place is that record: its lap bit tells
abbrev pub read_record : ℕ → ℕ → Option Record
read_record k n = if lap_in n == lap_of k then Some (record_in n) else None
