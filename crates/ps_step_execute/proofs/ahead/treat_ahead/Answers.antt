-- A literal value is pushed, a procedure is entered, and an operator acts.
use Rattle.std.proofs.Common.{[], ◌∷◌, sym, ◌∙◌}
use Rattle.ps_word.proofs.Reading.{enterable}
use Rattle.ps_step_execute.proofs.Alone.{alone_in, literal_treated, operator_treated}
use Rattle.ps_step_execute.specs.Values.{over_heap, treated_asks, treated_turn}
use Rattle.ps_step_execute.proofs.Entering.{procedure_enters}
use Rattle.ps_step_execute.proofs.ahead.treat_ahead.Goals as goal

pub returns-then-not-is_executable-clause-comes : goal.returns-then-not-is_executable-clause-comes
returns-then-not-is_executable-clause-comes g c = λ command.
    literal_treated g.O.Operate.asks command c.args.value (g.M.Memory.heap c.args.memory.now) _ _ _
    (sym c.is_executable.ensures ∙ c.if-not-is_executable.true) c.push_quickly.result c.of.ensures
    (c.push_quickly.ensures command)

pub returns-in-Some-as_enterable-clause-comes : goal.returns-in-Some-as_enterable-clause-comes
returns-in-Some-as_enterable-clause-comes g c = λ command.
    let read = enterable _ _ _ c.in-Some-as_enterable.ensures in
    alone_in (over_heap (g.M.Memory.heap c.args.memory.now)) (c.args.value ∷ command ∷ [])
    (treated_asks g.O.Operate.asks c.args.value) (treated_turn command c.args.value) _ _ _
    (procedure_enters g.O.Operate.asks command c.args.value read.flag c.in-Some-as_enterable.part
    read.array read.may c.args.operands.now _ c.enter_ahead.ensures)

pub returns-in-Some-clause-comes : goal.returns-in-Some-clause-comes
returns-in-Some-clause-comes g c = λ command.
    let is = c.in-Some.ensures.operator in
    operator_treated g.O.Operate.asks command c.args.value (g.M.Memory.heap c.args.memory.now) _ _ _
    c.in-Some.operator is.0 is.1
    c.operate_ahead.ensures.comes
