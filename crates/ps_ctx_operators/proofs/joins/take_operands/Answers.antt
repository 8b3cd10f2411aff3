-- What is left was held, by the one or by the other.
use Rattle.ps_ctx_operators.proofs.JoinLemmas.{taken_whole, join_kept, join_from}
use Rattle.ps_ctx_operators.proofs.joins.take_operands.Goals as goal

pub returns-in_default-integer_of-clause-kept : goal.returns-in_default-integer_of-clause-kept
returns-in_default-integer_of-clause-kept c = join_kept _ _

pub returns-then-len-clause-kept : goal.returns-then-len-clause-kept
returns-then-len-clause-kept c = join_kept _ _

pub returns-clause-kept : goal.returns-clause-kept
returns-clause-kept c =
    rw (
      c.push_all.ensures,
      c.replace.ensures,
      taken_whole c.args.taken.now c.topmost.result.now c.len-3.result c.topmost.ensures
          c.len-3.ensures.count,
    ) (join_from c.args.taken.now c.args.operands.now c.mark.result c.mark.ensures.plain)
