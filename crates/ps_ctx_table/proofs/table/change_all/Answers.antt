use Rattle.std.proofs.Common.{sym, ap, ◌∙◌}
use Rattle.ps_ctx_table.proofs.Seated.{changed_more}
use Rattle.ps_ctx_table.proofs.table.change_all.Goals as goal

pub loop-item-preserved : goal.loop-item-preserved
loop-item-preserved g c =
    let changed = g.C.Change.changed c.args.change.now in
    changed_more changed c.args.items.now c.loop-item.items c.loop-item.item-index
    c.item-item.result c.change.new.item c.loop-item-test.true c.loop-item.invariant c.item-item.is
    (c.change.ensures ∙ ap changed (sym c.item-item.is))
