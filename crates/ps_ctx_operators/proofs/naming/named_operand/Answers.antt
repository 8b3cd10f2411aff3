-- What is named is there, or nothing is named, or nothing is read.
use Rattle.std.proofs.Common.{sym, ◌∙◌}
use Rattle.ps_ctx_operators.proofs.NamedOperand.{some_mapped, named_so, unnamed_so}
use Rattle.ps_ctx_operators.proofs.naming.named_operand.Goals as goal

pub returns-then-is_some : goal.returns-then-is_some
returns-then-is_some c =
    named_so c.args.contexts.now.table c.args.caller c.in-Ok.identifier c.in-Some.member.now
    (sym c.in-Some.ensures.item) c.in-Ok.ensures
    (some_mapped _ c.named.result _ _ c.named.ensures (sym c.is_some.ensures ∙ c.if-is_some.true))

pub returns-else-is_some : goal.returns-else-is_some
returns-else-is_some c =
    unnamed_so c.args.contexts.now.table c.args.caller c.in-Ok.identifier c.in-Some.member.now
    (sym c.in-Some.ensures.item) c.in-Ok.ensures
    (some_mapped _ c.named.result _ _ c.named.ensures (sym c.is_some.ensures ∙ c.if-is_some.false))
