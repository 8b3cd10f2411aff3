-- The first machine.
use Rattle.ps_step_interpreter.proofs.Beginning.{first_lent}
use Rattle.ps_step_interpreter.proofs.interpreter.Interpreter.new.Goals as goal

pub returns-clause-at : goal.returns-clause-at
returns-clause-at g c = first_lent c.args.program.now _ c.in_ok-context.ensures.starts
