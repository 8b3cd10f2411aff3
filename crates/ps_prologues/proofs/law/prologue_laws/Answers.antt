use Rattle.ps_prologues.proofs.Read.{definition_read}
use Rattle.ps_prologues.proofs.law.prologue_laws.Goals as goal

pub returns : goal.returns
returns c = record { read = definition_read }
