use Rattle.std.proofs.Common.{sym, ap, ◌∙◌}
use Rattle.ps_ctx_table.specs.Seats.{items_left}
use Rattle.ps_ctx_table.proofs.Seated.{items-listed}
use Rattle.ps_ctx_table.proofs.table.Table.items.Goals as goal

pub returns : goal.returns
returns g c =
    c.deref.ensures.value
    ∙ (sym (items-listed c.self.inside.identifiers.items c.self.inside.items.items
    c.self.inside.made c.self.invariant.0)
    ∙ ap items_left c.self.view_is)
