-- Access is only taken away.
use Rattle.std.proofs.Common.{sym, ◌∙◌}
use Rattle.ps_language.specs.declared.access.Access.TheVariants.{ExecuteOnly}
use Rattle.ps_mem.specs.Shows.{IsValue}
use Rattle.ps_ops_operands.proofs.Held.{first_held}
use Rattle.ps_ops_types.proofs.Attributed.{replaced_ready}
use Rattle.ps_ops_types.proofs.Reduced.{reduced_held, executeonly_wrong, executeonly_hidden, executeonly_reduced}
use Rattle.ps_ops_types.proofs.attributes.executeonly.Goals as goal

pub returns-in_default-as_part-clause-row : goal.returns-in_default-as_part-clause-row
returns-in_default-as_part-clause-row g c = executeonly_wrong _ _ _ c.in-Some.ensures c.in_default-as_part.ensures

pub returns-then-not-reduces_to-clause-row : goal.returns-then-not-reduces_to-clause-row
returns-then-not-reduces_to-clause-row g c =
    executeonly_hidden _ _ _ c.in-Some.ensures _ c.in-Some-as_part.ensures (sym c.reduces_to.ensures
    ∙ c.if-not-reduces_to.true)

pub returns-clause-row : goal.returns-clause-row
returns-clause-row g c =
    rw (c.replace.ensures)
    (executeonly_reduced _ _ _ c.in-Some.ensures _ c.in-Some-as_part.ensures _ c.with_access.ensures.value
    (sym c.reduces_to.ensures ∙ c.if-not-reduces_to.false))

pub returns-clause-ready : goal.returns-clause-ready
returns-clause-ready g c =
    let h = g.M.Memory.heap c.args.memory.now in
    let held = first_held (IsValue h) _ c.requires.ready.values _ c.in-Some.ensures in
    rw (c.replace.ensures) (replaced_ready h _ _ _ c.in-Some.ensures c.requires.ready
    (reduced_held ExecuteOnly _ _ c.with_access.ensures.value h held c.with_access.ensures.word))
