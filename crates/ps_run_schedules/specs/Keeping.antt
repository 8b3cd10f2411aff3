-- A schedule as a run keeps it.
use Rattle.std.specs.Prelude.{◌≡◌, ◌+◌, ◌≤◌, ◌⊎◌, ℕ, true, List, length}
use Rattle.ps_language.specs.declared.schedules.Entry.{Entry}
use Rattle.ps_run_schedules.specs.Turns.{joins_last}

-- its entries, how many find room before memory is asked for, and how many more there may be
pub record Kept : Type 0 where
  pub items : List Entry
  pub capacity : ℕ
  pub left : ℕ

-- how many there may be in all
abbrev pub most_of : Kept → ℕ
most_of kept = length kept.items + kept.left

-- a step of a context joins its last entry, or it may have another
abbrev pub MayAdd : Kept → (context : ℕ) → Type 0
MayAdd kept context = (joins_last kept.items context ≡ true) ⊎ (1 ≤ kept.left)
