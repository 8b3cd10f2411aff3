use Rattle.std.proofs.Common.{ap, ◌∙◌}
use Rattle.ps_ctx_table.specs.Seats.{item_at}
use Rattle.ps_ctx_table.proofs.Seated.{listed_found, listed_none, made-within, search_found, search_none}
use Rattle.ps_ctx_table.proofs.table.Table.get.Goals as goal

pub returns-in-Ok-clause-item : goal.returns-in-Ok-clause-item
returns-in-Ok-clause-item g c =
    let inside = c.self.inside in
    let seats = inside.identifiers.items in
    let rising = c.self.invariant.0.rising in
    let found = search_found seats c.deref.result.now inside.made c.args.identifier rising
    c.deref.ensures.value c.in-Ok.place c.in-Ok.ensures.position in
    listed_found seats inside.items.items inside.made rising c.self.invariant.0.same c.args.identifier
    c.in-Ok.place c.index.result.now found.0 found.1 c.index.ensures
    ∙ ap (λ list. item_at list c.args.identifier) c.self.view_is

pub returns-in-Err-clause-item : goal.returns-in-Err-clause-item
returns-in-Err-clause-item g c =
    let inside = c.self.inside in
    let seats = inside.identifiers.items in
    let rising = c.self.invariant.0.rising in
    listed_none seats inside.items.items inside.made rising c.args.identifier
    (search_none seats c.deref.result.now inside.made c.args.identifier rising
    c.deref.ensures.value c.in-Err.field-0 c.in-Err.ensures.position)
    ∙ ap (λ list. item_at list c.args.identifier) c.self.view_is

pub returns-in-Ok-clause-within : goal.returns-in-Ok-clause-within
returns-in-Ok-clause-within g c = made-within _ _ _ _ c.self.view_is c.self.invariant.0

pub returns-in-Err-clause-within : goal.returns-in-Err-clause-within
returns-in-Err-clause-within g c = made-within _ _ _ _ c.self.view_is c.self.invariant.0
