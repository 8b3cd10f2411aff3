-- A condition is made and pushed.
use Rattle.ps_ops_state.proofs.Changing.{makes_acts}
use Rattle.ps_ctx_operators.specs.declared.locks.Single.TheVariants.{Condition}
use Rattle.ps_ctx_operators.specs.Rows.{new_part}
use Rattle.ps_ctx_operators.specs.Singles.{object_of}
use Rattle.ps_ctx_operators.proofs.Singling.{single_made}
use Rattle.ps_ctx_operators.proofs.locks.new_condition.Goals as goal

pub returns : goal.returns
returns g c = rw (c.tried.ensures)
    (record {
      acts = makes_acts _ c.requires.good _ _ _ _ c.push_single.ensures.keeps
          (new_part (object_of Condition)) _ (single_made (object_of Condition))
          c.push_single.ensures.does c.push_single.ensures.ready c.push_single.ensures.spends;
    })
