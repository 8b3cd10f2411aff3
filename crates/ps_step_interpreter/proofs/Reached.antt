-- What a step reaches, and what settles.
use Rattle.std.proofs.Common.{◌≡◌, true, false, refl, ap, ◌∙◌}
use Rattle.ps_step_outcome.specs.declared.world_operators.WorldOperator.{WorldOperator}
use Rattle.ps_language.specs.Machines.{with_status, told_by, may_end, is_empty, settled, reaches}
use Rattle.ps_language.specs.World.{running, finished, Machine}
use Rattle.ps_language.proofs.LeftTurns.{reaches≢leaves}
use Rattle.ps_step_outcome.specs.declared.turned.Turned.{Turned}
use Rattle.ps_step_outcome.specs.declared.turned.Turned.TheVariants.{Goes, Calls, Breaks, Ends}
use Rattle.ps_step_outcome.specs.Turns.{calling_of, reached_by}
use Rattle.ps_step_interpreter.specs.Alone.{alone_reached}

-- ---- what was reached

-- no operator is left to the world
abbrev pub IsMade : Turned → Type 0
IsMade (Calls operator) = ⊥
IsMade turned = Unit {0}

pub made_unless : (turned : Turned)
    → ((operator : WorldOperator) → turned ≡ Calls operator → ⊥) → IsMade turned
made_unless Goes other = tt
made_unless (Calls operator) other = other operator refl
made_unless (Breaks cause) other = tt
made_unless (Ends told) other = tt

pub made_by : (turned : Turned) (one next : Machine) → reaches one ≡ reached_by turned next
    → IsMade turned
made_by Goes one next same = tt
made_by (Calls operator) one next same = reaches≢leaves one next (calling_of operator) same
made_by (Breaks cause) one next same = tt
made_by (Ends told) one next same = tt

pub made_reached : (turned : Turned) (next : Machine) → IsMade turned
    → alone_reached (reached_by turned next) ≡ settled next
made_reached Goes next made = refl
made_reached (Calls operator) next made = absurd made
made_reached (Breaks cause) next made = refl
made_reached (Ends told) next made = refl

-- ---- what settles

-- a frame is left
pub settled_framed : (machine : Machine) → may_end machine.context.status ≡ true
    → is_empty machine.context.frames ≡ false → settled machine ≡ machine
unfolding settled
settled_framed machine may framed = rw (may, framed) refl

-- it is over
pub settled_over : (machine : Machine) → may_end machine.context.status ≡ false
    → settled machine ≡ machine
unfolding settled
settled_over machine over = rw over refl

-- it ran, and no frame is left
pub settled_ends : (machine : Machine) → machine.context.status ≡ running
    → is_empty machine.context.frames ≡ true → settled machine ≡ with_status finished machine
unfolding settled
settled_ends machine runs empty =
    rw (ap may_end runs, empty)
    (ap (λ s. with_status finished (told_by s machine)) runs)
