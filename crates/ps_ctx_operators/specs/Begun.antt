-- A context begins (PLRM2, 7.1, 8 'fork').
use Rattle.std.specs.Prelude.{false}
use Rattle.ps_ops_operands.specs.declared.failure.NotMade.TheVariants.{Memory}
use Rattle.ps_ops_state.specs.declared.breaks.Break.{Break}
use Rattle.ps_ops_state.specs.declared.breaks.Break.TheVariants.{NotMade}
use Rattle.ps_ops_state.specs.declared.lent.Context.{Context}
use Rattle.ps_step_outcome.specs.declared.turned.Turned.TheVariants.{Goes}
use Rattle.ps_ctx_table.specs.declared.members.Member.{Member}
use Rattle.ps_ctx_table.specs.Desks.{course_after}
use Rattle.ps_ctx_operators.specs.declared.forks.Unforked.{Unforked}
use Rattle.ps_ctx_operators.specs.declared.forks.Unforked.TheVariants.{Breaks, NoStacks}

-- it runs, or is finished at once where it has no frame
abbrev pub begun_member : Context → Member
begun_member begun =
    record { context = begun; course = course_after Goes begun.frames; is_detached = false }

-- why there is none, as of every operator
abbrev pub break_of : Unforked → Break
break_of (Breaks why) = why
break_of NoStacks = NotMade Memory
