-- The turn is made, is not, or leaves an operator to the world.
use Rattle.ps_step_interpreter.proofs.Reached.{made_unless}
use Rattle.ps_step_interpreter.proofs.Turning.{steps_made, steps_unmade, steps_called}
use Rattle.ps_step_interpreter.proofs.interpreter.Interpreter.finish.Goals as goal

pub returns-in-Err : goal.returns-in-Err
returns-in-Err g c = λ asks unwinding before steady course turns.
    rw (course, c.requires.lines)
    (steps_unmade asks unwinding before 0 c.args.attempt _ steady c.in-Err.reason
    (rw c.in-Err.is at turns))

pub returns-in-Calls : goal.returns-in-Calls
returns-in-Calls g c = λ asks unwinding before steady course turns.
    steps_called asks unwinding before 0 c.args.attempt c.in-Calls.operator _ steady
    (rw (c.in-Ok.is, c.in-Calls.is) at turns) c.undefine.result _
    (rw c.requires.lines at (c.undefine.ensures asks))

pub returns-in_default : goal.returns-in_default
returns-in_default g c = λ asks unwinding before steady course turns.
    rw (
      c.settle.ensures.context,
      c.settle.ensures.course,
      c.settle.ensures.lines,
      c.requires.lines,
    )
    (steps_made asks unwinding before 0 c.args.attempt _ steady c.in-Ok.turned
    (made_unless c.in-Ok.turned c.in_default.not-Calls) (rw c.in-Ok.is at turns))
