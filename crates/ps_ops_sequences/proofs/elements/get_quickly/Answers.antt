-- By the type of what is read.
use Rattle.std.proofs.Common.{sym, ap, ◌∙◌}
use Rattle.std.specs.Prelude.{is_some}
use Rattle.ps_ops_sequences.proofs.Quickly.{array_gets, string_gets}
use Rattle.ps_ops_sequences.proofs.elements.get_quickly.Goals as goal

pub returns-then-is_some-clause-acts : goal.returns-then-is_some-clause-acts
returns-then-is_some-clause-acts g c = λ yes.
    array_gets (g.M.Memory.heap c.args.memory.now) _ _ c.get.ensures.ready _ c.in-Some.ensures
    c.get.result (sym c.is_ok.ensures.value ∙ yes)
    (ap is_some (sym c.as_array.ensures) ∙ (sym c.is_some.ensures ∙ c.if-is_some.true)) c.get.ensures.does

pub returns-then-is_some-2-clause-acts : goal.returns-then-is_some-2-clause-acts
returns-then-is_some-2-clause-acts g c = λ yes.
    string_gets (g.M.Memory.heap c.args.memory.now) _ _ c.get-then-is_some-2.ensures.ready _
    c.in-Some.ensures c.get-then-is_some-2.result (sym c.is_ok-then-is_some-2.ensures.value ∙ yes)
    (ap is_some (sym c.as_text.ensures) ∙ (sym c.is_some-2.ensures ∙ c.if-is_some-2.true)) c.get-then-is_some-2.ensures.does
