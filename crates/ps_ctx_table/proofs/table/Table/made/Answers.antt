use Rattle.std.proofs.Common.{length, sym, ap, ◌∙◌}
use Rattle.ps_ctx_table.proofs.Seated.{length-listed}
use Rattle.ps_ctx_table.proofs.table.Table.made.Goals as goal

pub returns-clause-made : goal.returns-clause-made
returns-clause-made g c =
    sym (ap length (sym c.self.view_is)
    ∙ length-listed c.self.inside.identifiers.items c.self.inside.items.items c.self.inside.made)
