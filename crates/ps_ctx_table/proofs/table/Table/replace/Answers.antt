use Rattle.std.proofs.Common.{Some, set, refl, ap, ◌∙◌}
use Rattle.ps_ctx_table.specs.Seats.{item_at, with_item, listed}
use Rattle.ps_ctx_table.proofs.Seated.{listed_found, listed_none, listed_set, search_found, search_none}
use Rattle.ps_ctx_table.proofs.table.Table.replace.Goals as goal

pub returns-in-Ok-clause-replaced : goal.returns-in-Ok-clause-replaced
returns-in-Ok-clause-replaced g c =
    let inside = c.self.inside in
    let are = c.self.invariant.0 in
    let found = search_found inside.identifiers.items c.deref.result.now inside.made
    c.args.identifier are.rising c.deref.ensures.value c.in-Ok.place c.in-Ok.ensures.position in
    ap Some c.replace-old.ensures.value
    ∙ (listed_found inside.identifiers.items inside.items.items inside.made are.rising are.same
    c.args.identifier c.in-Ok.place c.index_mut.result.now found.0 found.1
    c.index_mut.ensures.value
    ∙ ap (λ list. item_at list c.args.identifier) c.self.view_is)

pub returns-in-Ok-clause-after : goal.returns-in-Ok-clause-after
returns-in-Ok-clause-after g c =
    let inside = c.self.inside in
    let are = c.self.invariant.0 in
    let found = search_found inside.identifiers.items c.deref.result.now inside.made
    c.args.identifier are.rising c.deref.ensures.value c.in-Ok.place c.in-Ok.ensures.position in
    ap (λ item. listed inside.identifiers.items (set inside.items.items c.in-Ok.place item)
    inside.made) c.replace-old.ensures.after
    ∙ (listed_set inside.identifiers.items inside.items.items inside.made are c.args.identifier
    c.in-Ok.place found.0 found.1 c.args.item
    ∙ ap (λ list. with_item list c.args.identifier (Some c.args.item)) c.self.view_is)

pub returns-in-Err-clause-absent : goal.returns-in-Err-clause-absent
returns-in-Err-clause-absent g c =
    let inside = c.self.inside in
    let seats = inside.identifiers.items in
    let rising = c.self.invariant.0.rising in (
      refl,
      listed_none seats inside.items.items inside.made rising c.args.identifier
          (search_none seats c.deref.result.now inside.made c.args.identifier rising
          c.deref.ensures.value c.in-Err.field-0 c.in-Err.ensures.position)
          ∙ ap (λ list. item_at list c.args.identifier) c.self.view_is,
      refl,
    )
