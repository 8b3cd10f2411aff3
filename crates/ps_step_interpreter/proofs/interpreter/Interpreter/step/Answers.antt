use Rattle.ps_step_interpreter.proofs.interpreter.Interpreter.step.Goals as goal

pub returns-in-Calling : goal.returns-in-Calling
returns-in-Calling g c = c.undefine.ensures g.S.Interpret.asks
