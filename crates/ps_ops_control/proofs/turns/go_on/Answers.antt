-- Each way that a turn goes.
use Rattle.std.proofs.Common.{arith}
use Rattle.std.proofs.lemmas.Bool.Decides.{nat_tests}
use Rattle.ps_ops_control.specs.Turns.{words_of}
use Rattle.ps_ops_control.proofs.Turning.{turns_empty, turns_entered, turns_full, turns_over}
use Rattle.ps_ops_control.proofs.turns.go_on.Goals as goal

pub returns-then-count-len-gt-OPERAND_LIMIT-clause-turns : goal.returns-then-count-len-gt-OPERAND_LIMIT-clause-turns
returns-then-count-len-gt-OPERAND_LIMIT-clause-turns c = λ operator h size ready held turn.
    turns_over operator h size _ _ ready c.requires.some (words_of c.args.pushed) c.args.left c.args.body held turn
    (omega (arith, nat_tests, c.count.ensures, c.len.ensures.count, c.if-count-len-gt-OPERAND_LIMIT.true))
    (omega (arith, nat_tests, c.count.ensures, c.len.ensures.within, c.if-count-len-gt-OPERAND_LIMIT.true))

pub returns-then-body-eq0-clause-turns : goal.returns-then-body-eq0-clause-turns
returns-then-body-eq0-clause-turns c = λ operator h size ready held turn.
    rw (c.push.ensures, c.replace_top.ensures) (turns_empty operator h size _ _ ready c.requires.some
    (words_of c.args.pushed) c.args.left c.args.body held turn
    (omega (arith, nat_tests, c.count.ensures, c.len.ensures.count, c.if-count-len-gt-OPERAND_LIMIT.false))
    (omega (arith, nat_tests, c.if-body-eq0.true)))

pub returns-then-is_full-clause-turns : goal.returns-then-is_full-clause-turns
returns-then-is_full-clause-turns c = λ operator h size ready held turn.
    turns_full operator h size _ _ ready c.requires.some (words_of c.args.pushed) c.args.left c.args.body held turn
    (omega (arith, nat_tests, c.count.ensures, c.len.ensures.count, c.if-count-len-gt-OPERAND_LIMIT.false))
    (omega (arith, nat_tests, c.if-body-eq0.false))
    (grind (arith, nat_tests, c.is_full.ensures, c.if-is_full.true))

pub returns-clause-turns : goal.returns-clause-turns
returns-clause-turns c = λ operator h size ready held turn.
    rw (c.push-2.ensures, c.push_frame.ensures, c.replace_top-2.ensures)
    (turns_entered operator h size _ _ ready c.requires.some
    (words_of c.args.pushed) c.args.left c.args.body held turn
    (omega (arith, nat_tests, c.count.ensures, c.len.ensures.count, c.if-count-len-gt-OPERAND_LIMIT.false))
    (omega (arith, nat_tests, c.if-body-eq0.false))
    (grind (arith, nat_tests, c.is_full.ensures, c.if-is_full.false)))
