-- A boolean, or nothing that has an access.
use Rattle.std.proofs.Common.{ap, ◌∙◌}
use Rattle.ps_language.specs.Access.{is_writable}
use Rattle.ps_language.specs.Readers.{boolean}
use Rattle.ps_ops_operands.proofs.Ready.{plain_value}
use Rattle.ps_ops_types.proofs.Accesses.{check_done}
use Rattle.ps_ops_types.proofs.Attributed.{replaced_ready}
use Rattle.ps_ops_types.proofs.access.wcheck.Goals as goal

pub returns-clause-row : goal.returns-clause-row
returns-clause-row g c = rw (c.replace.ensures)
    (check_done is_writable (g.M.Memory.heap c.args.memory.now) _ _ c.in-Some.ensures _ c.access_of.ensures.access _
    c.in-Some-access_of.is _ c.boolean.ensures.plain
    (λ births names. c.boolean.ensures.value births names ∙ ap boolean c.is_writable.ensures))

pub returns-clause-ready : goal.returns-clause-ready
returns-clause-ready g c =
    rw (c.replace.ensures) (replaced_ready (g.M.Memory.heap c.args.memory.now) _ _ _ c.in-Some.ensures c.requires.ready
    (plain_value (g.M.Memory.heap c.args.memory.now) _ c.boolean.ensures.plain))
