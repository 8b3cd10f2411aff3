-- The operand waits.
use Rattle.std.proofs.Common.{◌<◌, arith, length, ap, ◌∙◌}
use Rattle.std.proofs.lemmas.Bool.Decides.{nat_tests}
use Rattle.ps_word.specs.declared.values.Content.TheVariants.{Operator}
use Rattle.ps_ops_state.specs.Lent.{Lent}
use Rattle.ps_step_frames.proofs.Waiting.{exec_treated}
use Rattle.ps_step_frames.proofs.elements.exec_quickly.Goals as goal

pub returns-clause-treats : goal.returns-clause-treats
returns-clause-treats c = λ yes asks command l attempt good.
    let before : Lent = record l { operands = c.args.operands.now; frames = c.args.frames.now } in
    let is = c.in-Some-Exec.ensures.operator in
    let room : length c.args.frames.now < 250 =
    grind (arith, nat_tests, c.is_full.ensures, c.if-is_full.false) in
    rw (c.discard.ensures, c.push_frame.ensures)
    (exec_treated before good c.in-Some.word c.in-Some.ensures room c.args.value is.0
    (is.1 ∙ ap Operator c.in-Some-Exec.field-0-is) asks command attempt)
