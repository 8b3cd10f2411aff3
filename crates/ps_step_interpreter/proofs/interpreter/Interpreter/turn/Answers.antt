-- What the turn came to is finished.
use Rattle.std.proofs.Common.{◌≡◌, ap, ◌∙◌}
use Rattle.ps_step_interpreter.specs.Courses.{has_steps}
use Rattle.ps_step_interpreter.proofs.Turning.{steps_in}
use Rattle.ps_step_interpreter.proofs.interpreter.Interpreter.turn.Goals as goal

pub returns : goal.returns
returns g c =
    let lines : c.args.self.now.error_lines ≡ 0 =
    c.requires.steady.counted (ap has_steps c.requires.course ∙ steps_in c.args.unwinding) in
    rw (c.requires.course, lines)
    (c.finish.ensures g.S.Interpret.asks c.args.unwinding _
    (rw (c.requires.course, lines) at c.requires.steady) c.requires.course c.step-next.ensures)
