-- The operators that are left to the world of all contexts (PLRM2, 7.1, 8 'Operators': Multiple
-- Execution Contexts, Virtual Memory).
use Rattle.ps_language.specs.declared.operators.Operator.{Operator}
use Rattle.ps_language.specs.declared.operators.Operator.TheVariants as operators
use Rattle.ps_step_outcome.specs.declared.world_operators.WorldOperator.{WorldOperator}
use Rattle.ps_step_outcome.specs.declared.world_operators.WorldOperator.TheVariants as left

-- the operator of the language that it is
abbrev pub operator_of : WorldOperator → Operator
operator_of left.CurrentContext = operators.CurrentContext
operator_of left.Fork = operators.Fork
operator_of left.Join = operators.Join
operator_of left.Detach = operators.Detach
operator_of left.Lock = operators.Lock
operator_of left.Monitor = operators.Monitor
operator_of left.Condition = operators.Condition
operator_of left.Wait = operators.Wait
operator_of left.Notify = operators.Notify
operator_of left.Yield = operators.Yield
operator_of left.VmStatus = operators.VmStatus
operator_of left.VmReclaim = operators.VmReclaim
