use Rattle.ps_run_hosts.proofs.Entries.{given_of_handed}
use Rattle.ps_run_hosts.proofs.laws.host_entry_laws.Goals as goal

pub returns : goal.returns
returns c = given_of_handed
