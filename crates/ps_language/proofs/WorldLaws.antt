-- Laws of runs: schedules in a row, and steps that change nothing.
use Rattle.std.specs.Prelude.{◌≡◌, ℕ, ℤ, ◌++◌, ◌&&◌, Bool, false, Option, List, [], ◌∷◌}
use mathlib.Core.Path.{refl, sym, ap, ◌∙◌}
use Rattle.std.proofs.Math.Bool.{and_assoc}
use Rattle.ps_language.specs.World.{World}
use Rattle.ps_language.specs.declared.schedules.Entry.{Entry}
use Rattle.ps_language.proofs.ScheduleLaws.{moves-append}
use Rattle.ps_language.specs.Locks.{is_ready}
use Rattle.ps_language.specs.Step.{stepped, step}
use Rattle.ps_language.specs.Schedules.{Move, moves}
use Rattle.ps_language.specs.Worlds.{after_move, after_moves, starting_world, world, all_ready}

-- a step of a context that isn't ready
pub step-unready : (now : World) (context : ℕ) (refused : Bool) (shown : Option (ℤ × ℤ))
    → is_ready now context ≡ false → step now context refused shown ≡ now
unfolding step stepped
step-unready now context refused shown unready = rw (step, unready) refl

pub after_moves-append : (now : World) (first second : List Move)
    → after_moves now (first ++ second) ≡ after_moves (after_moves now first) second
unfolding after_moves
after_moves-append now [] second = refl
after_moves-append now (move ∷ first) second = after_moves-append (after_move now move) first second

-- the second schedule goes on from the world after the first
pub world-append : (program : List ℕ) (first second : List Entry)
    → world program (first ++ second) ≡ after_moves (world program first) (moves second)
unfolding world
world-append program first second =
    ap (after_moves (starting_world program)) (moves-append first second)
    ∙ after_moves-append (starting_world program) (moves first) (moves second)

-- steps in a row are of ready contexts where the first are, and the others from there on
pub all_ready-append : (now : World) (first second : List Move)
    → all_ready now (first ++ second) ≡
    (all_ready now first && all_ready (after_moves now first) second)
unfolding after_moves
all_ready-append now [] second = refl
all_ready-append now (move ∷ first) second =
    ap (λ rest. is_ready now move.context && rest)
    (all_ready-append (after_move now move) first second)
    ∙ sym (and_assoc (is_ready now move.context) (all_ready (after_move now move) first)
    (all_ready (after_moves (after_move now move) first) second))
