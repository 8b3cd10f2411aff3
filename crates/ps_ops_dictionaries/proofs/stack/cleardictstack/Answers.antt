-- All but the two lowest go.
use Rattle.std.proofs.Common.{arith}
use Rattle.ps_ops_state.proofs.Stacked.{stacked_acts}
use Rattle.ps_ops_operands.proofs.Held.{rest_held}
use Rattle.ps_mem.specs.Shows.{IsValue}
use Rattle.ps_ops_dictionaries.proofs.Stacking.{cleared_stacks}
use Rattle.ps_ops_dictionaries.proofs.stack.cleardictstack.Goals as goal

pub returns : goal.returns
returns g c = rw (c.discard.ensures)
    (record {
      acts = λ attempt. stacked_acts _ _ _ _ _ attempt c.requires.good c.requires.good.operands
          (rest_held (IsValue (g.M.Memory.heap c.args.runtime.now.memory)) _ c.requires.good.dictionaries _)
          (cleared_stacks _ _ (omega (arith, c.saturating_sub-above.ensures, c.len.ensures.count)));
    })
