use Rattle.std.proofs.Common.{◌≡◌, length, map, sym, ap, ◌∙◌}
use Rattle.std.proofs.lemmas.List.{length-map, with_items_is}
use Rattle.std.specs.Prelude.{option_map}
use Rattle.ps_ctx_table.specs.Seats.{listed}
use Rattle.ps_ctx_table.proofs.Seated.{listed_map}
use Rattle.ps_ctx_table.proofs.table.Table.change_each.Goals as goal

pub returns : goal.returns
returns g c =
    let inside = c.self.inside in
    let changed = g.C.Change.changed c.args.change.now in
    let are : c.change_all.new.items ≡ map changed inside.items.items =
    c.change_all.ensures ∙ ap (map changed) c.deref_mut.ensures.value in
    ap (λ items. listed inside.identifiers.items items inside.made)
    (with_items_is inside.items c.change_all.new.items
    (ap length are ∙ (length-map inside.items.items changed ∙ sym inside.items.ok.0)) ∙ are)
    ∙ (listed_map changed inside.identifiers.items inside.items.items inside.made
    ∙ ap (map (option_map changed)) c.self.view_is)
