use Rattle.std.proofs.Common.{◌≡◌, ◌++◌, ◌∷◌, ◌+◌, [], Some, length, sym, ap, ap₂, subst₂, ◌∙◌, arith}
use Rattle.ps_ctx_table.specs.Seats.{listed, count_left, AreSeats}
use Rattle.ps_ctx_table.proofs.Seated.{AreSeats-push, length-listed, listed_push, count-listed}
use Rattle.ps_ctx_table.proofs.table.Table.push_reserved.Goals as goal

pub returns : goal.returns
returns g c =
    let inside = c.self.inside in
    ap₂ (λ seats items. listed seats items (inside.made + 1)) c.push_reserved.ensures.items
    c.push_reserved-2.ensures.items
    ∙ (listed_push inside.identifiers.items inside.items.items inside.made c.args.item
    c.self.invariant.0.rising c.self.invariant.0.same
    ∙ ap (λ list. list ++ Some c.args.item ∷ []) c.self.view_is)

pub push_reserved-requires : goal.push_reserved-requires
push_reserved-requires g c =
    let inside = c.self.inside in
    let count : count_left c.args.self.now ≡ length inside.identifiers.items =
    ap count_left (sym c.self.view_is)
    ∙ count-listed inside.identifiers.items inside.items.items inside.made c.self.invariant.0 in
    let counted = inside.identifiers.ok.0 in let few = c.requires.few in
    let room = c.self.invariant.1 in
    omega (arith, count, counted, few, room)

pub push_reserved-requires-2 : goal.push_reserved-requires-2
push_reserved-requires-2 g c =
    let inside = c.self.inside in
    let count : count_left c.args.self.now ≡ length inside.identifiers.items =
    ap count_left (sym c.self.view_is)
    ∙ count-listed inside.identifiers.items inside.items.items inside.made c.self.invariant.0 in
    let counted = inside.items.ok.0 in let few = c.requires.few in
    let room = c.self.invariant.2 in let same = c.self.invariant.0.same in
    omega (arith, count, counted, few, room, same)

pub invariant_of-self : goal.invariant_of-self
invariant_of-self g c =
    let inside = c.self.inside in
    let count : count_left c.args.self.now ≡ length inside.identifiers.items =
    ap count_left (sym c.self.view_is)
    ∙ count-listed inside.identifiers.items inside.items.items inside.made c.self.invariant.0 in
    let made : length c.args.self.now ≡ inside.made =
    ap length (sym c.self.view_is)
    ∙ length-listed inside.identifiers.items inside.items.items inside.made in
    let few = c.requires.few in let within = c.requires.within in
    let one = c.push_reserved.ensures.capacity in
    let other = c.push_reserved-2.ensures.capacity in
    let rooms = c.self.invariant.1 in let rooms-2 = c.self.invariant.2 in (
      subst₂ (λ seats items. AreSeats seats items (inside.made + 1))
          (sym c.push_reserved.ensures.items) (sym c.push_reserved-2.ensures.items)
          (AreSeats-push inside.identifiers.items inside.items.items inside.made c.args.item
          c.self.invariant.0 (omega (arith, count, few)) (omega (arith, made, within))),
      omega (arith, one, rooms),
      omega (arith, other, rooms-2),
    )
