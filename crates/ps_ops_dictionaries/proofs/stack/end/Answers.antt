-- The topmost goes, or there are but two.
use Rattle.ps_language.specs.declared.errors.ErrorName.TheVariants.{DictStackUnderflow}
use Rattle.std.proofs.Common.{arith}
use Rattle.std.proofs.lemmas.Bool.Decides.{nat_tests}
use Rattle.ps_mem.specs.Shows.{IsValue}
use Rattle.ps_ops_operands.proofs.Held.{rest_held}
use Rattle.ps_ops_state.proofs.Acting.{raised_acts}
use Rattle.ps_ops_state.proofs.Stacked.{stacked_acts}
use Rattle.ps_ops_dictionaries.proofs.Stacking.{end_few, end_stacks}
use Rattle.ps_ops_dictionaries.proofs.stack.end.Goals as goal

pub returns-then-len-le2-clause-acts : goal.returns-then-len-le2-clause-acts
returns-then-len-le2-clause-acts g c = λ attempt. raised_acts _ attempt _ _ c.requires.good DictStackUnderflow
    (end_few _ (omega (arith, nat_tests, c.len.ensures.count, c.if-len-le2.true)))

pub returns-clause-acts : goal.returns-clause-acts
returns-clause-acts g c = rw (c.discard.ensures)
    (λ attempt. stacked_acts _ _ _ _ _ attempt c.requires.good c.requires.good.operands
    (rest_held (IsValue (g.M.Memory.heap c.args.runtime.now.memory)) _ c.requires.good.dictionaries 1)
    (end_stacks _ (omega (arith, nat_tests, c.len.ensures.count, c.if-len-le2.false))))
