-- The lines that tell how runs ended, in each order of a program's steps with few cuts.
use Rattle.std.specs.Prelude.{ℕ, ◌==◌, ◌-◌, List, [], ◌++◌, nat_lt, codes, if◌then◌else◌}
use Rattle.std.specs.Fmt.{decimal}
use Rattle.ps_views.specs.declared.orders.EndingLine.{EndingLine}
use Rattle.ps_views.specs.declared.orders.Reach.{Reach}

-- so many of a thing
abbrev pub counted : ℕ → (thing : List ℕ) → List ℕ
counted number thing =
    decimal number ++ (codes " " ++ (thing ++ (if number == 1 then [] else codes "s")))

-- ---- the orders that were explored

-- those with fewer cuts than this
abbrev pub whole_text : (below : ℕ) → List ℕ
whole_text below = if below == 0 then codes "not all orders with 0 cuts"
    else codes "all orders with at most " ++ counted (below - 1) (codes "cut")

-- where that isn't as many cuts as there may be: more runs were to be made than may be
abbrev pub limit_text : Reach → List ℕ
limit_text reach = if nat_lt reach.cuts reach.below then []
    else codes "; more than " ++ counted reach.runs (codes "run")

unfoldable pub reach_line : Reach → List ℕ
reach_line reach = whole_text reach.below ++ (limit_text reach ++ codes "\n")

-- ---- an ending

-- which it is, and the fewest cuts of an order that ends so
abbrev pub which_text : EndingLine → List ℕ
which_text told = codes "ending "
    ++ (decimal told.number ++ (codes ": " ++ counted told.cuts (codes "cut")))

-- its steps, and what its outcome is called
abbrev pub steps_text : (steps : ℕ) → (outcome : List ℕ) → List ℕ
steps_text steps outcome =
    counted steps (codes "step") ++ (codes ", " ++ (outcome ++ codes ", "))

-- ending NUMBER: NUMBER cuts, NUMBER steps, OUTCOME, NUMBER bytes
unfoldable pub ending_line : EndingLine → (outcome : List ℕ) → List ℕ
ending_line told outcome = which_text told ++ (codes ", "
    ++ (steps_text told.steps outcome ++ (counted told.printed (codes "byte") ++ codes "\n")))
