use Rattle.std.proofs.Common.{rules, arith}
use Rattle.ps_table.proofs.Allows.{look_allows, vm_known}
use Rattle.ps_table.proofs.Moves.{vm_load_step}
use Rattle.ps_table.proofs.joins.look.Goals as goal

pub load-requires : goal.load-requires
load-requires g c = (
  search rules,
  omega arith,
  λ space slots id. look_allows space slots id _ c.args.place c.requires.acts.0 c.requires.acts.1
      (vm_load_step _ _ c.requires.inside),
  λ n m t. vm_known _ c.args.seat.now.me _ t.did,
)
