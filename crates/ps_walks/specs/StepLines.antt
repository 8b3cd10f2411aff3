-- The steps of a run, a line each.
use Rattle.std.specs.Prelude.{◌≡◌, ℕ, ◌+◌, List, [], ◌∷◌, ◌++◌}
use Rattle.ps_language.specs.Schedules.{Move}
use Rattle.ps_language.specs.World.{World}
use Rattle.ps_places.specs.declared.origins.Origin.{Origin}
use Rattle.ps_states.specs.Charts.{Chart}
use Rattle.ps_states.specs.Steps.{known_of, step_text}
use Rattle.ps_walks.specs.Walks.{walked}

-- by what a world is told: the name of the file, its program, and where tokens begin that made
-- objects
abbrev pub chart_in : (file : List ℕ) → World → List Origin → Chart
chart_in file now origins = record { file = file; program = now.program; origins = origins }

-- the line of a step of a number: of what is known before it, and the world behind it
abbrev pub line_of : (file : List ℕ) → (step : ℕ) → World → Move → List Origin → List ℕ
line_of file step now move origins =
    step_text (known_of (chart_in file now origins) now step move.context) (walked now move)

-- these are the lines of so many steps behind those that are past, each by a table of origins that
-- is known before it
unfoldable pub AreStepLines : (file : List ℕ) → (past : ℕ) → World → List Move → List ℕ → Type 0
AreStepLines file past now [] text = text ≡ []
AreStepLines file past now (move ∷ moves) text = (origins : List Origin) × (rest : List ℕ)
    × (text ≡ line_of file (past + 1) now move origins ++ rest)
    × AreStepLines file (past + 1) (walked now move) moves rest
