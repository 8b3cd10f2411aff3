use Rattle.std.proofs.Common.{◌≡◌, ◌<◌, ◌≤◌, length, None, sym, subst, arith}
use Rattle.std.specs.Prelude.{IsSome}
use Rattle.ps_ctx_table.specs.Seats.{item_at}
use Rattle.ps_ctx_table.proofs.Following.{IsCut, cut_found, cut_none, next_none, next_above, next_there, next_between}
use Rattle.ps_ctx_table.proofs.table.Table.next.Goals as goal
use Rattle.ps_ctx_table.proofs.table.Table.next.Goals.{in-Ok, in-Err}

pub returns-then-place-len : goal.returns-then-place-len
returns-then-place-len g c =
    let inside = c.self.inside in
    let seats = inside.identifiers.items in
    let are = c.self.invariant.0 in
    let cut : IsCut seats c.args.identifier c.match-place_of.place =
    elim c.match-place_of.branch [
      | in-Ok w ↦ subst (IsCut seats c.args.identifier) (sym w.place-is)
          (cut_found seats c.deref.result.now inside.made c.args.identifier are.rising
          c.deref.ensures.value w.in-Ok.place w.in-Ok.ensures.position)
      | in-Err w ↦ subst (IsCut seats c.args.identifier) (sym w.place-is)
          (cut_none seats c.deref.result.now inside.made c.args.identifier are.rising
          c.deref.ensures.value w.in-Err.place w.in-Err.ensures.position)
    ] in
    let within : c.match-place_of.place < length seats =
    let test = c.if-place-len.true in let counted = c.len.ensures in
    let all = inside.identifiers.ok.0 in omega (arith, test, counted, all) in
    let there = next_there seats inside.items.items inside.made are c.args.identifier
    c.match-place_of.place cut c.index.result.now within c.index.ensures in
    let between = next_between seats inside.items.items inside.made are c.args.identifier
    c.match-place_of.place cut c.index.result.now within c.index.ensures in (
      next_above seats inside.items.items inside.made are c.args.identifier
          c.match-place_of.place cut c.index.result.now within c.index.ensures,
      subst (λ list. IsSome (item_at list c.index.result.now)) c.self.view_is there,
      λ k above below. subst (λ list. item_at list k ≡ None) c.self.view_is (between k above below),
    )

pub returns-else-place-len : goal.returns-else-place-len
returns-else-place-len g c = λ k above.
    let inside = c.self.inside in
    let seats = inside.identifiers.items in
    let are = c.self.invariant.0 in
    let cut : IsCut seats c.args.identifier c.match-place_of.place =
    elim c.match-place_of.branch [
      | in-Ok w ↦ subst (IsCut seats c.args.identifier) (sym w.place-is)
          (cut_found seats c.deref.result.now inside.made c.args.identifier are.rising
          c.deref.ensures.value w.in-Ok.place w.in-Ok.ensures.position)
      | in-Err w ↦ subst (IsCut seats c.args.identifier) (sym w.place-is)
          (cut_none seats c.deref.result.now inside.made c.args.identifier are.rising
          c.deref.ensures.value w.in-Err.place w.in-Err.ensures.position)
    ] in
    let past : length seats ≤ c.match-place_of.place =
    let test = c.if-place-len.false in let counted = c.len.ensures in
    let all = inside.identifiers.ok.0 in omega (arith, test, counted, all) in
    subst (λ list. item_at list k ≡ None) c.self.view_is
    (next_none seats inside.items.items inside.made are c.args.identifier
    c.match-place_of.place cut past k above)
