-- Steps noted at the end of a schedule.
use Rattle.std.specs.Prelude.{ℕ, ℤ, zero, suc, ◌-◌, Bool, false, Option, None, List, length}
use Rattle.std.specs.Prelude.{slice_get, if◌then◌else◌}
use Rattle.std.specs.Option.{option_map_or}
use Rattle.ps_language.specs.declared.schedules.Entry.{Entry}
use Rattle.ps_language.specs.Schedules.{Move, added, joins, steps_limit}

-- a step
abbrev pub move_of : (context : ℕ) → (refused : Bool) → (shown : Option (ℤ × ℤ)) → Move
move_of context refused shown =
    record { context = context; refused = refused; shown = shown }

-- a schedule with so many equal steps more, each added as a single one
unfoldable pub added_times : ℕ → List Entry → Move → List Entry
added_times zero schedule move = schedule
added_times (suc before) schedule move = added (added_times before schedule move) move

-- an entry of so many ordinary steps
abbrev pub plain_entry : (context steps : ℕ) → Entry
plain_entry context steps =
    record { context = context; steps = steps; refused = false; shown = None }

-- the last entry
abbrev pub last_entry : List Entry → Option Entry
last_entry schedule = slice_get schedule (length schedule - 1)

-- whether a further step of a context joins the last entry
abbrev pub joins_last : List Entry → (context : ℕ) → Bool
joins_last schedule context =
    option_map_or (λ last. joins last context) (last_entry schedule) false

-- how many ordinary steps of a context find room in one entry: in the last one where they join it,
-- else in a new one
abbrev pub free_steps : List Entry → (context : ℕ) → ℕ
free_steps schedule context =
    option_map_or
    (λ last. if joins last context then steps_limit - last.steps else steps_limit)
    (last_entry schedule) steps_limit
