-- Where the log of a slot takes too few records, that is why a step is not made.
use Rattle.std.proofs.Common.{ℕ, ◌≤◌, arith}
use Rattle.ps_ops_operands.specs.declared.failure.NotMade.{NotMade as Reason}
use Rattle.ps_ops_operands.specs.declared.failure.NotMade.TheVariants.{LogFull, LogClosed, NeedSpace, Memory}
use Rattle.ps_ops_state.specs.Lent.{Lent}
use Rattle.ps_ops_state.specs.Acts.{Needs, IsReason}
use Rattle.ps_step_outcome.specs.Turns.{IsUnlogged}

-- of a step that needs as many, at least one
pub unlogged_reason : (slot count : ℕ) → 1 ≤ count → (old new : Lent) (reason : Reason)
    → IsUnlogged count slot old.grants new.grants reason → (needs : Needs)
    → count ≤ needs.records → IsReason needs slot old new reason
unlogged_reason slot count some old new LogFull why needs many =
    let less = why.1 in (why.0, omega (arith, less, many))
unlogged_reason slot count some old new LogClosed why needs many = (omega (arith, some, many), why)
unlogged_reason slot count some old new (NeedSpace words) why needs many = absurd why
unlogged_reason slot count some old new Memory why needs many = absurd why
