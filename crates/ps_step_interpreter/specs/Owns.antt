-- A context that is alone in the world, as long as it leaves no operator to the world (PLRM2, 7.1).
use Rattle.std.specs.Prelude.{ℕ, ◌&&◌, ◌||◌, Bool, true, false, not, Some, List, [], ◌∷◌}
use Rattle.ps_language.specs.Machines.{Reached, reaches, leaves_to_world, own_step}
use Rattle.ps_language.specs.Schedules.{Move}
use Rattle.ps_language.specs.World.{Machine, World}
use Rattle.ps_step_interpreter.specs.Alone.{is_alone_ready, after_alone_move}

-- the world of this context and no other
abbrev pub alone_world : (program : List ℕ) → Machine → World
alone_world program machine = record {
  program = program;
  store = machine.store;
  contexts = Some machine.context ∷ [];
  printed = machine.printed;
  error_lines = machine.error_lines;
  names = machine.names;
}

-- whether no operator is left to the world
abbrev pub is_own : Reached → Bool
is_own (reaches machine) = true
is_own (leaves_to_world calling machine) = false

-- by each of these steps that is made
abbrev pub are_own : (program : List ℕ) → Machine → List Move → Bool
are_own program machine [] = true
are_own program machine (move ∷ rest) =
    (not (is_alone_ready machine move.context) || is_own (own_step program move.refused machine))
    && are_own program (after_alone_move program machine move) rest
