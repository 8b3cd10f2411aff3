use Rattle.std.proofs.Common.{◌↔◌, ◌+◌, ◌*◌, ◌∷◌, length}
use Rattle.std.specs.Prelude.{min}
use mathlib.Core.List.{IsPrefix}
use Rattle.ps_language.specs.Schedules.{Begins, moves}
use Rattle.ps_run_schedules.proofs.fronts.begins.Given as goal

-- what is left of the one begins what is left of the other, exactly if all does
abbrev pub invariant-loop-first : goal.invariant-loop-first
invariant-loop-first l = IsPrefix (moves (l.first ∷ l.part_left)) (moves (l.second ∷ l.whole_left))
    ↔ Begins l.fn.part l.fn.whole

-- entries, and those of which steps are left
abbrev pub decreases-loop-first : goal.decreases-loop-first
decreases-loop-first l = 2 * length l.part_left + 2 * length l.whole_left
    + (min l.first.steps 1 + min l.second.steps 1)
