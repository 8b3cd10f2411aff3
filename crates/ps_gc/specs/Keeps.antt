-- What the collector keeps of its part in numbers.
use Rattle.std.specs.Prelude.{◌≡◌, ◌≢◌, ℕ, ◌+◌, ◌-◌, ◌^◌, ◌<◌, ◌≤◌, ◌++◌, Bool, true, false, nat_lt}
use Rattle.std.specs.Prelude.{nat_eq, List, length, replicate, Some, is_some, slice_index}
use Rattle.std.specs.Prelude.{slice_index_or, if◌then◌else◌}
use Rattle.std.specs.List.{sum_by}
use Rattle.ps_record.specs.declared.Record.{Record}
use Rattle.ps_record.specs.Format.{slots}
use Rattle.ps_core_machine.specs.declared.events.Gc.{Gc}
use Rattle.ps_core_machine.specs.declared.events.Pair.{Pair}
use Rattle.ps_core_machine.specs.Objects.{pair_of, pair_to, log_of, closes, end_of, end_of_replicas}
use Rattle.ps_core_machine.specs.Steps.{other_base}
use Rattle.ps_gc.specs.declared.to_space.ToSpace.{ToSpace}
use Rattle.ps_gc.specs.declared.taken.Taken.{Taken}

-- which fields of a replica are filled: all before the scan's place, none behind it
abbrev pub marks : (at field : ℕ) → Pair → List Bool
marks at field p = if nat_lt p.replica at then replicate (length p.fields) true
    else (if nat_eq p.replica at
    then replicate field true ++ replicate (length p.fields - field) false
    else replicate (length p.fields) false)

-- the replicas lie one behind the other up to the end, and are filled up to the scan's place, which
-- is the end or a field of a replica
pub record CopiesAre (space cycle : ℕ) (pairs : List Pair) (t : ToSpace) : Type 0 where
  pub space_is : t.space ≡ space
  pub cycle_is : t.cycle ≡ cycle
  pub end_is : t.end ≡ end_of_replicas (other_base space cycle) pairs
  pub behind : (a : ℕ) (p : Pair) → pair_of pairs a ≡ Some p → end_of p ≢ t.end
      → is_some (pair_to pairs (end_of p)) ≡ true
  pub at_is : t.at ≢ t.end → is_some (pair_to pairs t.at) ≡ true
  pub at_end : t.at ≡ t.end → t.field ≡ 0
  pub within : (a : ℕ) (p : Pair) → pair_of pairs a ≡ Some p → p.replica ≡ t.at
      → t.field ≤ length p.fields
  pub marked : (a : ℕ) (p : Pair) → pair_of pairs a ≡ Some p → p.filled ≡ marks t.at t.field p

abbrev pub Copies : Gc → ToSpace → Type 0
Copies g t = CopiesAre g.space g.cycle g.pairs t

-- the scan's place is at a field that isn't filled
abbrev pub IsAtField : Gc → ToSpace → Type 0
IsAtField g t = (a : ℕ) (p : Pair) → pair_of g.pairs a ≡ Some p → p.replica ≡ t.at
    → t.field < length p.fields

-- the scan's place stays, where it isn't the end
pub record Stays (t u : ToSpace) : Type 0 where
  pub at : t.at ≢ t.end → u.at ≡ t.at
  pub field : u.field ≡ t.field
  pub end : t.end ≤ u.end

-- the scan's place moves on, and was within the table, so that scanning comes to an end
pub record GoesOnward (t u : ToSpace) : Type 0 where
  pub on : t.at + t.field < u.at + u.field
  pub inside : t.at + t.field < 2 ^ 24

-- the scan goes past a replica without fields that is made at its place
pub record GoesOn (t u : ToSpace) (count : ℕ) : Type 0 where
  pub space : u.space ≡ t.space
  pub cycle : u.cycle ≡ t.cycle
  pub field : u.field ≡ t.field
  pub end : u.end ≡ t.end + 2 + count
  pub stays : t.at ≢ t.end → u.at ≡ t.at
  pub fresh : t.at ≡ t.end → 0 < count → u.at ≡ t.end
  pub empty : t.at ≡ t.end → count ≡ 0 → u.at ≡ u.end

-- ---- what was taken

-- by slot how many records were taken, and whether the close of the open cycle was
pub record TakesAre (cycle : ℕ) (logs : List (List Record)) (k : Taken) : Type 0 where
  pub wide : length k.numbers ≡ slots
  pub wide_closed : length k.closed ≡ slots
  pub numbers_are : (slot : ℕ) → slot < slots
      → slice_index k.numbers slot ≡ length (log_of logs slot)
  pub closed_are : (slot : ℕ) → slot < slots → closes (log_of logs slot)
      ≡ cycle + (if slice_index_or k.closed slot false then 1 else 0)

-- the records that were taken of all logs
abbrev pub taken_in_all : Gc → ℕ
taken_in_all g = sum_by length g.taken

abbrev pub Takes : Gc → Taken → Type 0
Takes g k = TakesAre g.cycle g.taken k
