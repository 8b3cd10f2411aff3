-- The first step of a run that is such as is sought.
use Rattle.std.specs.Prelude.{◌≡◌, ◌⊎◌, ℕ, ◌+◌, Option, Some, None, List, [], ◌∷◌}
use Rattle.ps_language.specs.Schedules.{Move}
use Rattle.ps_language.specs.World.{World}
use Rattle.ps_places.specs.declared.origins.Origin.{Origin}
use Rattle.ps_states.specs.Sought.{Fits, Sought}
use Rattle.ps_walks.specs.StepLines.{chart_in}
use Rattle.ps_walks.specs.Walks.{walked}

-- the step is such a one, by a table of origins that is known before it
abbrev pub FitsIn : (file : List ℕ) → Sought → World → Move → List Origin → Type 0
FitsIn file sought now move origins =
    Fits sought (chart_in file now origins) now (walked now move) move.context

-- this is the number of the first of these steps that is such a one, behind those that are past:
-- none before it is; or none is
unfoldable pub IsFound : (file : List ℕ) → Sought → (past : ℕ) → World → List Move
    → (found : Option ℕ) → Type 0
IsFound file sought past now [] found = found ≡ None
IsFound file sought past now (move ∷ moves) found = (origins : List Origin)
    × ((FitsIn file sought now move origins × (found ≡ Some (past + 1)))
    ⊎ ((¬ FitsIn file sought now move origins)
    × IsFound file sought (past + 1) (walked now move) moves found))
