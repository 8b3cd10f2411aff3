-- Entries that are cut.
use Rattle.std.specs.Prelude.{ℕ, ◌-◌, List, take}
use Rattle.ps_language.specs.declared.schedules.Entry.{Entry}
use Rattle.ps_language.specs.Schedules.{Move, moves_of}

-- the first steps of an entry
abbrev pub front : Entry → (steps : ℕ) → List Move
front entry steps = take steps (moves_of entry entry.steps)

-- the steps behind them
abbrev pub behind : Entry → (steps : ℕ) → Entry
behind entry steps = record entry { steps = entry.steps - steps }
