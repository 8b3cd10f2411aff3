use Rattle.std.proofs.Common.{sym, ◌∙◌}
use Rattle.ps_ctx_table.proofs.Settled.{turned_gone}
use Rattle.ps_ctx_table.proofs.contexts.Contexts.settle.Goals as goal

pub returns-then-is_finished-clause-table : goal.returns-then-is_finished-clause-table
returns-then-is_finished-clause-table c =
    turned_gone c.args.turned c.args.identifier c.args.self.now.table c.remove.new.self
    c.get_mut-member.result.now c.after_turn-member.result c.remove.result
    c.get_mut-member.ensures.value c.after_turn-member.ensures c.if-member.true
    (sym c.is_finished.ensures ∙ c.if-is_finished.true) c.remove.ensures.removed c.remove.ensures.after
