use Rattle.std.proofs.Common.{[], ◌∷◌, ◌++◌, take, ap, ◌∙◌, arith}
use Rattle.ps_language.specs.Operators.{operator_name}
use Rattle.ps_text.proofs.Cuts.{cut_three, full_three}
use Rattle.ps_text.proofs.appends.append_operator.Goals as goal

pub returns-clause-ok : goal.returns-clause-ok
returns-clause-ok c =
    let now = c.append_cut.new.output.items in
    let named = c.in_ok-append_cut-2.ensures.ok ∙ ap (λ xs. take c.args.end (now ++ xs)) c.operator_name.ensures in
    cut_three c.args.end c.args.output.now.items (45 ∷ 45 ∷ [])
    (operator_name c.args.operator) now c.in_ok-append_cut.ensures.ok _ named c.append_cut-3.result
    (45 ∷ 45 ∷ []) _ c.append_cut-3.ensures.ok

pub returns-clause-full : goal.returns-clause-full
returns-clause-full c =
    let now = c.append_cut.new.output.items in
    let named = c.in_ok-append_cut-2.ensures.ok ∙ ap (λ xs. take c.args.end (now ++ xs)) c.operator_name.ensures in
    let grown = c.append_cut.ensures.capacity in
    let again = c.append_cut-2.ensures.capacity in
    full_three c.args.end c.args.output.now.items (45 ∷ 45 ∷ [])
    (operator_name c.args.operator) now c.in_ok-append_cut.ensures.ok _ named c.append_cut-3.result
    (45 ∷ 45 ∷ []) _ _ (omega (arith, grown, again)) c.append_cut-3.ensures.full
