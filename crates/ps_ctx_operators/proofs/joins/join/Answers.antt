-- The operands are taken over.
use Rattle.ps_ctx_operators.proofs.JoinLemmas.{joins_acts}
use Rattle.ps_ctx_operators.proofs.joins.join.Goals as goal

pub returns : goal.returns
returns g c = rw (c.made.ensures)
    (record {
      acts = λ attempt. joins_acts _ c.requires.good attempt _ _ c.requires.taken
          c.take_operands.ensures.kept _ c.take_operands.ensures.row;
    })
