use Rattle.ps_step.proofs.Frugal.{step_wants}
use Rattle.ps_step.proofs.laws.frugal_steps.Goals as goal

pub returns : goal.returns
returns c = step_wants
