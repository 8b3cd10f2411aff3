-- The lines of the cuts of a run.
use Rattle.std.specs.Prelude.{◌≡◌, ℕ, List, [], ◌∷◌, ◌++◌}
use Rattle.ps_language.specs.World.{World}
use Rattle.ps_places.specs.declared.origins.Origin.{Origin}
use Rattle.ps_states.specs.Cuts.{cut_text}
use Rattle.ps_views.specs.declared.cuts.CutAt.{CutAt}
use Rattle.ps_walks.specs.StepLines.{chart_in}

-- these are the lines of cuts, each of the world behind as many steps, by a table of origins that
-- is known there
unfoldable pub AreCutLines : (file : List ℕ) → (behind : ℕ → World) → List CutAt → List ℕ → Type 0
AreCutLines file behind [] text = text ≡ []
AreCutLines file behind (cut ∷ cuts) text = (origins : List Origin) × (rest : List ℕ)
    × (text ≡ cut_text (chart_in file (behind cut.behind) origins) (behind cut.behind) cut ++ rest)
    × AreCutLines file behind cuts rest
