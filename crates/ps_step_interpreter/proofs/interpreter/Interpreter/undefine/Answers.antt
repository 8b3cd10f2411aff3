-- The error is noted, or waits.
use Rattle.ps_step_interpreter.proofs.Undefining.{steps_undefined, steps_waiting}
use Rattle.ps_step_interpreter.proofs.interpreter.Interpreter.undefine.Goals as goal

pub returns-in-Ok : goal.returns-in-Ok
returns-in-Ok g c = λ asks.
    rw (
      c.requires.calling,
      c.settle.ensures.context,
      c.settle.ensures.course,
      c.settle.ensures.lines,
    )
    (steps_undefined asks _ c.args.operator c.args.self.now.error_lines _ c.args.attempt
    (rw c.requires.calling at c.requires.steady) c.in-Ok.turned (rw c.operator.ensures at c.in-Ok.ensures))

pub returns-in-Err : goal.returns-in-Err
returns-in-Err g c = λ asks.
    rw c.requires.calling
    (steps_waiting asks _ c.args.operator c.args.self.now.error_lines _ c.args.attempt
    (rw c.requires.calling at c.requires.steady) c.in-Err.reason (rw c.operator.ensures at c.in-Err.ensures))
