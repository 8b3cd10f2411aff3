-- The identifier is pushed.
use Rattle.ps_ops_state.proofs.Lifts.{does_acts}
use Rattle.ps_ctx_operators.proofs.identifiers.current_context.Goals as goal

pub returns : goal.returns
returns g c = rw (c.made.ensures)
    (record {
      acts = λ attempt. does_acts _ c.requires.good attempt _ _ _ c.push_identifier.ensures.row
          c.push_identifier.ensures.kept;
    })
