use Rattle.std.proofs.Common.{refl}
use Rattle.ps_ctx_table.specs.Seats.{listed}
use Rattle.ps_ctx_table.proofs.table.Table.new.Goals as goal

pub returns : goal.returns
unfolding listed
returns g c = refl
