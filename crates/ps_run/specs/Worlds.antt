-- All orders of a program's steps, by the worlds that they lead to, and the lines that tell of them.
use Rattle.std.specs.Prelude.{◌≡◌, ◌+◌, ◌-◌, ◌^◌, ◌≤◌, ℕ, min, All, List, [], ◌∷◌, ◌++◌, length}
use Rattle.ps_language.specs.Schedules.{count_of}
use Rattle.ps_cuts.specs.declared.endings.Ending.{Ending}
use Rattle.ps_run_schedules.specs.Keeping.{Kept}
use Rattle.ps_searches.specs.declared.covers.Extent.{Extent}
use Rattle.ps_searches.specs.declared.covers.Extent.TheVariants as extent
use Rattle.ps_vault.specs.declared.reports.Report.{Report}
use Rattle.ps_views.specs.declared.worlds.WorldEnding.{WorldEnding}
use Rattle.ps_views.specs.Worlds.{found_lines, world_ending_line}
use Rattle.ps_worlds.specs.Worlds.{EveryWayEnds, IsToldOf}
use Rattle.ps_run.specs.Lines.{outcome_text}
use Rattle.ps_run.specs.Orders.{run_of}

-- what a search found: their endings, each with an order that ends so, how many worlds it told apart
-- and how many steps between them, and how far it came
pub record Worlds : Type 0 where
  pub endings : List (Ending × Kept)
  pub worlds : ℕ
  pub steps : ℕ
  pub extent : Extent

-- where it came to all, each order of the program's steps to its end, however long, ends as one of
-- these; and of each of these an order with as few steps as any is told. It came to the most worlds
-- only where it keeps so many
pub record AreWorlds (program : List ℕ) (most : ℕ) (found : Worlds) : Type 0 where
  pub every : found.extent ≡ extent.All → EveryWayEnds program found.endings
  pub each : All (IsToldOf program) found.endings
  pub fewer : length found.endings ≤ found.worlds
  pub within : found.worlds ≤ most
  pub met : found.extent ≡ extent.Most → found.worlds ≡ most

-- the run of an order that is told
abbrev pub way_report : Ending × Kept → Report
way_report told = run_of told.0 told.1

-- ---- the lines

-- what is told of an ending, by its number; steps up to 18,446,744,073,709,551,615
abbrev pub told_as : (number : ℕ) → Ending × Kept → WorldEnding
told_as number told = record {
  number = number;
  steps = min (count_of told.1.items) (2 ^ 64 - 1);
  printed = length told.0.printed.items;
}

-- its line
abbrev pub line_told : (number : ℕ) → Ending × Kept → List ℕ
line_told number told = world_ending_line (told_as number told) (outcome_text told.0.outcome)

-- those of endings, by numbers behind that of another
abbrev pub lines_behind : (last : ℕ) → List (Ending × Kept) → List ℕ
lines_behind last [] = []
lines_behind last (told ∷ rest) = line_told (last + 1) told ++ lines_behind (last + 1) rest

-- how many worlds, steps and endings there are, whether these are all orders, and how they ended
abbrev pub world_lines : Worlds → List ℕ
world_lines found = found_lines (record {
  worlds = found.worlds;
  steps = found.steps;
  endings = length found.endings;
  extent = found.extent;
}) ++ lines_behind 0 found.endings
