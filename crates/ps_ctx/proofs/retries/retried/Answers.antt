use Rattle.std.proofs.Common.{sym, ◌∙◌}
use Rattle.ps_ctx.proofs.Retrying.{tries_none, tries_join, tries_monitor}
use Rattle.ps_ctx.proofs.retries.retried.Goals as goal

pub returns-in_default : goal.returns-in_default
returns-in_default c = λ heap met.
    tries_none heap met c.args.operands.now (sym c.top.ensures ∙ c.in_default.is)

pub returns-in-Integer : goal.returns-in-Integer
returns-in-Integer c = λ heap met.
    tries_join heap met c.args.operands.now c.in-Some.top (sym c.top.ensures ∙ c.in-Some.is) _
    (sym c.content.ensures ∙ c.in-Integer.is)

pub returns-in_default-content : goal.returns-in_default-content
returns-in_default-content c = λ heap met.
    tries_monitor heap met c.args.operands.now c.in-Some.top (sym c.top.ensures ∙ c.in-Some.is)
    c.content.result (sym c.content.ensures) c.in_default-content.not-Integer
