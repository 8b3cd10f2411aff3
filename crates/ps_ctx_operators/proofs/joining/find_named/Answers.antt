-- It is the caller, isn't finished, or has too many operands.
use Rattle.std.proofs.Common.{◌+◌, ◌<◌, arith, false, length, sym, subst, ◌∙◌}
use Rattle.std.proofs.lemmas.Bool.{ne_eqb}
use Rattle.ps_ctx_table.specs.declared.members.Member.{Member}
use Rattle.ps_ctx_table.proofs.Places.{one_there}
use Rattle.ps_ctx_operators.proofs.JoinFound.{join_self, join_there, join_overflows}
use Rattle.ps_ctx_operators.proofs.joining.find_named.Goals as goal

pub returns-then-identifier-caller : goal.returns-then-identifier-caller
returns-then-identifier-caller c = λ h names member w shown found at.
    join_self h names c.args.caller c.args.identifier c.args.contexts.now.table c.requires.named
    member found w shown at c.if-identifier-caller.true

pub returns-then-not-is_finished : goal.returns-then-not-is_finished
returns-then-not-is_finished c = λ h names member w shown found at.
    join_there h names c.args.caller c.args.identifier c.args.contexts.now.table c.requires.named
    member found w shown at c.in-Some.other.now (sym c.in-Some.ensures.item) false false
    (ne_eqb c.args.identifier c.args.caller c.if-identifier-caller.false)
    (sym c.is_finished.ensures ∙ c.if-not-is_finished.true)

pub returns-then-len : goal.returns-then-len
returns-then-len c = λ h names member w shown found at.
    let same = one_there c.args.contexts.now.table c.args.caller c.in-Some-get.member.now member
    (sym c.in-Some-get.ensures.item) found in
    join_overflows h names c.args.caller c.args.identifier c.args.contexts.now.table
    c.requires.named member found w shown at c.in-Some.other.now (sym c.in-Some.ensures.item)
    (ne_eqb c.args.identifier c.args.caller c.if-identifier-caller.false)
    (sym c.is_finished.ensures ∙ c.if-not-is_finished.false)
    (subst (λ (one : Member). 500 < length c.in-Some.other.now.context.operands
    + length one.context.operands) same
    (omega (
      arith,
      c.if-len.true,
      c.len.ensures.count,
      c.len-2.ensures.count,
      c.len-2.ensures.within,
    )))
