use Rattle.ps_step.proofs.WindowLaw.{window_is_whole}
use Rattle.ps_step.proofs.laws.window_is_whole.Goals as goal

pub returns : goal.returns
returns c = window_is_whole
