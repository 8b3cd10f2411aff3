-- Many own steps of one context, each an ordinary move of a schedule (PLRM2, 7.1).
use Rattle.std.specs.Prelude.{◌≡◌, ℕ, zero, suc, true, false, List, replicate}
use Rattle.ps_language.specs.Machines.{may_end, reaches, own_step}
use Rattle.ps_language.specs.Schedules.{Move, plain_move}
use Rattle.ps_language.specs.World.{Machine}

-- one step: it runs or is unwinding, and leaves no operator to the world
pub record OwnStep (program : List ℕ) (before after : Machine) : Type 0 where
  pub goes : may_end before.context.status ≡ true
  pub reached : own_step program false before ≡ reaches after

-- so many of them
abbrev pub OwnSteps : (program : List ℕ) → (made : ℕ) → (before after : Machine) → Type 0
OwnSteps program zero before after = before ≡ after
OwnSteps program (suc made) before after =
    (next : Machine) × OwnStep program before next × OwnSteps program made next after

-- so many moves of a context
abbrev pub plain_moves : (identifier made : ℕ) → List Move
plain_moves identifier made = replicate made (plain_move identifier)
