use Rattle.ps_run.proofs.Tellings.{tells_both}
use Rattle.ps_run.proofs.finishing.tell_all.Goals as goal

pub returns : goal.returns
returns g c = tells_both _ _ _ _ _ c.tell.ensures c.tell-2.ensures
