-- The identifier goes.
use Rattle.ps_ops_state.proofs.Lifts.{does_acts}
use Rattle.ps_ctx_operators.proofs.identifiers.detach.Goals as goal

pub returns : goal.returns
returns g c = rw (c.made.ensures)
    (record {
      acts = λ attempt. does_acts _ c.requires.good attempt _ _ _ c.take_identifier.ensures.row
          c.take_identifier.ensures.kept;
    })
