-- By induction over the steps.
use Rattle.ps_step_interpreter.proofs.Owning.{world_alone, printed_alone, ready_alone}
use Rattle.ps_step_interpreter.proofs.worlds.alone_laws.Goals as goal

pub returns-clause-world : goal.returns-clause-world
returns-clause-world c = world_alone

pub returns-clause-prints : goal.returns-clause-prints
returns-clause-prints c = printed_alone

pub returns-clause-ready : goal.returns-clause-ready
returns-clause-ready c = ready_alone
