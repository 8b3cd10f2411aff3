use Rattle.std.proofs.Common.{sym, ap, ◌∙◌}
use Rattle.ps_ctx_table.specs.Seats.{count_left}
use Rattle.ps_ctx_table.proofs.Seated.{count-listed}
use Rattle.ps_ctx_table.proofs.table.Table.left.Goals as goal

pub returns-clause-left : goal.returns-clause-left
returns-clause-left g c =
    c.len.ensures ∙ c.self.inside.identifiers.ok.0
    ∙ (sym (count-listed c.self.inside.identifiers.items c.self.inside.items.items
    c.self.inside.made c.self.invariant.0)
    ∙ ap count_left c.self.view_is)
