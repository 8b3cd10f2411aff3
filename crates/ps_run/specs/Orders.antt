-- All orders of a program's steps with few cuts, and the lines that tell of them.
use Rattle.std.specs.Prelude.{◌≡◌, ◌+◌, ◌-◌, ◌^◌, ◌<◌, ◌≤◌, ℕ, min, All, List, [], ◌∷◌, ◌++◌, length, map}
use Rattle.ps_language.specs.declared.schedules.Entry.{Entry}
use Rattle.ps_language.specs.Schedules.{count_of, moves}
use Rattle.ps_language.specs.Worlds.{starting_world}
use Rattle.ps_cuts.specs.declared.endings.Ending.{Ending}
use Rattle.ps_cuts.specs.Cuts.{EveryEnding, cuts_at}
use Rattle.ps_cuts.specs.Runs.{EndsAsTold, IsToldOf}
use Rattle.ps_run_options.specs.declared.options.OrderBounds.{OrderBounds}
use Rattle.ps_run_schedules.specs.Keeping.{Kept}
use Rattle.ps_searches.specs.declared.found.Told.{Told}
use Rattle.ps_vault.specs.declared.reports.Report.{Report}
use Rattle.ps_views.specs.declared.orders.EndingLine.{EndingLine}
use Rattle.ps_run.specs.Lines.{ending_lines, outcome_text}
use Rattle.ps_views.specs.Orders.{ending_line, reach_line}
use Rattle.ps_walks.specs.Cuts.{AreCutLines}
use Rattle.ps_walks.specs.Walks.{world_behind}

-- their endings, each with an order that ends so, which of them are all known, and how many runs
-- were made
pub record Orders : Type 0 where
  pub endings : List (Ending × Told Kept)
  pub below : ℕ
  pub runs : ℕ

-- each order of the program's steps with fewer cuts than below ends as one of these, and of each of
-- these an order with as few cuts as any is told; that is as many cuts as there may be, unless as
-- many runs were made as may be
pub record AreOrders (program : List ℕ) (steps : ℕ) (bounds : OrderBounds) (orders : Orders)
    : Type 0 where
  pub every : (limit : ℕ) → limit < orders.below
      → EveryEnding EndsAsTold program steps limit orders.endings
  pub each : All (IsToldOf program steps) orders.endings
  pub some : 1 ≤ length orders.endings
  pub fewer : length orders.endings ≤ orders.runs
  pub below : orders.below ≤ bounds.cuts + 1
  pub met : orders.below ≤ bounds.cuts → orders.runs ≡ bounds.runs
  pub runs : orders.runs ≤ bounds.runs

-- the run of an order that ends so
abbrev pub run_of : Ending → Kept → Report
run_of ending schedule = record {
  printed = ending.printed;
  schedule = schedule;
  outcome = ending.outcome;
  flips = 0;
  taken = 0;
}

-- that of an order that is told
abbrev pub report_of : Ending × Told Kept → Report
report_of told = run_of told.0 told.1.schedule

-- ---- the lines

-- what is told of an ending, by its number; steps up to 18,446,744,073,709,551,615
abbrev pub told_as : (number : ℕ) → Ending × Told Kept → EndingLine
told_as number told = record {
  number = number;
  cuts = told.1.price;
  steps = min (count_of told.1.schedule.items) (2 ^ 64 - 1);
  printed = length told.0.printed.items;
}

-- its line
abbrev pub line_told : (number : ℕ) → Ending × Told Kept → List ℕ
line_told number told = ending_line (told_as number told) (outcome_text told.0.outcome)

-- the lines of the cuts of an order, each of the world before it
abbrev pub AreCutsTold : (file program : List ℕ) → (schedule : List Entry) → List ℕ → Type 0
AreCutsTold file program schedule lines = AreCutLines file (world_behind program schedule)
    (cuts_at (starting_world program) [] (moves schedule)) lines

-- of each ending its line and those of its cuts, by numbers behind that of another
abbrev pub AreLinesBehind : (file program : List ℕ) → (last : ℕ) → List (Ending × Told Kept)
    → List ℕ → Type 0
AreLinesBehind file program last [] lines = lines ≡ []
AreLinesBehind file program last (told ∷ rest) lines = (cuts : List ℕ) × (more : List ℕ)
    × (lines ≡ line_told (last + 1) told ++ (cuts ++ more))
    × AreCutsTold file program told.1.schedule.items cuts
    × AreLinesBehind file program (last + 1) rest more

-- how many runs were made, how many endings there were, which orders were explored, how they ended,
-- and where the cuts are
pub record AreOrderLines (file program : List ℕ) (bounds : OrderBounds) (orders : Orders)
    (lines : List ℕ) : Type 0 where
  pub endings : List ℕ
  pub are : lines ≡ ending_lines orders.runs (length orders.endings) ++ (reach_line
      (record { cuts = bounds.cuts; below = orders.below; runs = orders.runs }) ++ endings)
  pub are_endings : AreLinesBehind file program 0 orders.endings endings

-- these are orders: the runs of those that are told, and the lines
pub record AreTold (file program : List ℕ) (steps : ℕ) (bounds : OrderBounds)
    (reports : List Report) (lines : List ℕ) : Type 0 where
  pub orders : Orders
  pub are : AreOrders program steps bounds orders
  pub are_reports : reports ≡ map report_of orders.endings
  pub are_lines : AreOrderLines file program bounds orders lines
