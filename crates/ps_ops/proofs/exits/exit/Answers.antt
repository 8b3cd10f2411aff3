-- By whether there is a loop.
use Rattle.std.proofs.Common.{sym, ap, ◌∙◌}
use Rattle.ps_ops.specs.Exits.{exit_as}
use Rattle.ps_ops.proofs.exits.exit.Goals as goal

pub returns-then-is_in_loop : goal.returns-then-is_in_loop
returns-then-is_in_loop c h names =
    ap exit_as (sym c.if-is_in_loop.true ∙ c.is_in_loop.ensures h names)

pub returns : goal.returns
returns c h names = ap exit_as (sym c.if-is_in_loop.false ∙ c.is_in_loop.ensures h names)
