use Rattle.std.proofs.Common.{None, sym, ap, ap₂, subst₂, ◌∙◌, arith}
use Rattle.ps_ctx_table.specs.Seats.{item_at, with_item, listed, AreSeats}
use Rattle.ps_ctx_table.proofs.Seated.{listed_found, listed_none, listed_remove, search_found, search_none}
use Rattle.ps_ctx_table.proofs.Seated.{AreSeats-remove}
use Rattle.ps_ctx_table.proofs.table.Table.remove.Goals as goal

pub invariant_of-self : goal.invariant_of-self
invariant_of-self g c =
    let inside = c.self.inside in
    let are = c.self.invariant.0 in
    let found = search_found inside.identifiers.items c.deref.result.now inside.made
    c.args.identifier are.rising c.deref.ensures.value c.in-Ok.place c.in-Ok.ensures.position in
    let one = c.remove.ensures.capacity in let other = c.remove-item.ensures.capacity in
    let rooms = c.self.invariant.1 in let rooms-2 = c.self.invariant.2 in (
      subst₂ (λ seats items. AreSeats seats items inside.made) (sym c.remove.ensures.items)
          (sym c.remove-item.ensures.items)
          (AreSeats-remove inside.identifiers.items inside.items.items inside.made c.in-Ok.place
          are found.0),
      omega (arith, one, rooms),
      omega (arith, other, rooms-2),
    )

pub returns-in-Ok-clause-removed : goal.returns-in-Ok-clause-removed
returns-in-Ok-clause-removed g c =
    let inside = c.self.inside in
    let are = c.self.invariant.0 in
    let found = search_found inside.identifiers.items c.deref.result.now inside.made
    c.args.identifier are.rising c.deref.ensures.value c.in-Ok.place c.in-Ok.ensures.position in
    listed_found inside.identifiers.items inside.items.items inside.made are.rising are.same
    c.args.identifier c.in-Ok.place c.remove-item.result found.0 found.1
    c.remove-item.ensures.value
    ∙ ap (λ list. item_at list c.args.identifier) c.self.view_is

pub returns-in-Ok-clause-after : goal.returns-in-Ok-clause-after
returns-in-Ok-clause-after g c =
    let inside = c.self.inside in
    let are = c.self.invariant.0 in
    let found = search_found inside.identifiers.items c.deref.result.now inside.made
    c.args.identifier are.rising c.deref.ensures.value c.in-Ok.place c.in-Ok.ensures.position in
    ap₂ (λ seats items. listed seats items inside.made) c.remove.ensures.items
    c.remove-item.ensures.items
    ∙ (listed_remove inside.identifiers.items inside.items.items inside.made are
    c.args.identifier c.in-Ok.place found.0 found.1
    ∙ ap (λ list. with_item list c.args.identifier None) c.self.view_is)

pub returns-in-Err-clause-removed : goal.returns-in-Err-clause-removed
returns-in-Err-clause-removed g c =
    let inside = c.self.inside in
    let seats = inside.identifiers.items in
    let rising = c.self.invariant.0.rising in
    listed_none seats inside.items.items inside.made rising c.args.identifier
    (search_none seats c.deref.result.now inside.made c.args.identifier rising
    c.deref.ensures.value c.in-Err.field-0 c.in-Err.ensures.position)
    ∙ ap (λ list. item_at list c.args.identifier) c.self.view_is
