use Rattle.ps_step_tokens.proofs.ShortLaw.{scanned_is_short}
use Rattle.ps_step_tokens.proofs.laws.scanned_is_short.Goals as goal

pub returns : goal.returns
returns c = scanned_is_short
