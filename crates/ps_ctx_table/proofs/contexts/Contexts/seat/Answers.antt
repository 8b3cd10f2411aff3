use Rattle.std.proofs.Common.{inl, inr}
use Rattle.ps_ctx_table.proofs.Named.{seat_some, seat_none}
use Rattle.ps_ctx_table.proofs.contexts.Contexts.seat.Goals as goal
use Rattle.ps_ctx_table.proofs.contexts.Contexts.seat.Goals.{else-left-lt-CONTEXT_LIMIT-via-then-left-lt-CONTEXT_LIMIT+else-made-lt-IDENTIFIER_LIMIT}
use Rattle.ps_ctx_table.proofs.contexts.Contexts.seat.Goals.{else-left-lt-CONTEXT_LIMIT-via-else-left-lt-CONTEXT_LIMIT}

pub returns-then-made-lt-IDENTIFIER_LIMIT-clause-seat : goal.returns-then-made-lt-IDENTIFIER_LIMIT-clause-seat
returns-then-made-lt-IDENTIFIER_LIMIT-clause-seat c = λ h names.
    seat_some h names c.args.self.now.table c.made-made.result c.left.result
    c.made-made.ensures.made c.left.ensures.left c.if-left-lt-CONTEXT_LIMIT.true
    c.if-made-lt-IDENTIFIER_LIMIT.true

pub returns-else-left-lt-CONTEXT_LIMIT-clause-seat : goal.returns-else-left-lt-CONTEXT_LIMIT-clause-seat
returns-else-left-lt-CONTEXT_LIMIT-clause-seat c = λ h names.
    seat_none h names c.args.self.now.table c.made-made.result c.left.result
    c.made-made.ensures.made c.left.ensures.left
    (elim c.else-left-lt-CONTEXT_LIMIT.branch [
      | else-left-lt-CONTEXT_LIMIT-via-then-left-lt-CONTEXT_LIMIT+else-made-lt-IDENTIFIER_LIMIT w ↦ inr
          w.if-made-lt-IDENTIFIER_LIMIT.false
      | else-left-lt-CONTEXT_LIMIT-via-else-left-lt-CONTEXT_LIMIT w ↦ inl w.if-left-lt-CONTEXT_LIMIT.false
    ])
