use Rattle.std.proofs.Common.{◌≡◌, ◌<◌, length, get_or, Some, refl, sym, ap, subst, ◌∙◌, arith}
use Rattle.ps_ctx_table.specs.Seats.{item_at, with_item}
use Rattle.ps_ctx_table.proofs.Seated.{listed_found, listed_none, listed_set, made-within, search_found, search_none, none_left}
use Rattle.ps_ctx_table.proofs.table.Table.get_mut.Goals as goal
use Rattle.ps_ctx_table.proofs.table.Table.get_mut.Goals.{in-Ok, in-Err}

pub index_mut-requires : goal.index_mut-requires
index_mut-requires g c =
    let inside = c.self.inside in
    let seats = inside.identifiers.items in
    let are = c.self.invariant.0 in
    let found : (c.match-place_of.place < length seats)
    × (get_or seats c.match-place_of.place 0 ≡ c.args.identifier) =
    elim c.match-place_of.branch [
      | in-Ok w ↦ subst
          (λ n. (n < length seats) × (get_or seats n 0 ≡ c.args.identifier)) (sym w.place-is)
          (search_found seats c.deref.result.now inside.made c.args.identifier are.rising
          c.deref.ensures.value w.in-Ok.place w.in-Ok.ensures.position)
      | in-Err w ↦ absurd (none_left c.args.self.now c.args.identifier
          (listed_none seats inside.items.items inside.made are.rising c.args.identifier
          (search_none seats c.deref.result.now inside.made c.args.identifier are.rising
          c.deref.ensures.value w.in-Err.place w.in-Err.ensures.position)
          ∙ ap (λ list. item_at list c.args.identifier) c.self.view_is) c.requires)
    ] in
    let within = found.0 in let same = are.same in let counted = inside.items.ok.0 in
    omega (arith, within, same, counted)

pub returns : goal.returns
returns g c =
    let inside = c.self.inside in
    let seats = inside.identifiers.items in
    let are = c.self.invariant.0 in
    let found : (c.match-place_of.place < length seats)
    × (get_or seats c.match-place_of.place 0 ≡ c.args.identifier) =
    elim c.match-place_of.branch [
      | in-Ok w ↦ subst
          (λ n. (n < length seats) × (get_or seats n 0 ≡ c.args.identifier)) (sym w.place-is)
          (search_found seats c.deref.result.now inside.made c.args.identifier are.rising
          c.deref.ensures.value w.in-Ok.place w.in-Ok.ensures.position)
      | in-Err w ↦ absurd (none_left c.args.self.now c.args.identifier
          (listed_none seats inside.items.items inside.made are.rising c.args.identifier
          (search_none seats c.deref.result.now inside.made c.args.identifier are.rising
          c.deref.ensures.value w.in-Err.place w.in-Err.ensures.position)
          ∙ ap (λ list. item_at list c.args.identifier) c.self.view_is) c.requires)
    ] in (
      (
        refl,
        λ item. listed_set seats inside.items.items inside.made are c.args.identifier
            c.match-place_of.place found.0 found.1 item
            ∙ ap (λ list. with_item list c.args.identifier (Some item)) c.self.view_is,
      ),
      record {
        writes_back = tt;
        value = listed_found seats inside.items.items inside.made are.rising are.same
            c.args.identifier c.match-place_of.place c.index_mut.result.now found.0 found.1
            c.index_mut.ensures.value
            ∙ ap (λ list. item_at list c.args.identifier) c.self.view_is;
        within = made-within _ _ _ _ c.self.view_is c.self.invariant.0;
      },
    )
