-- The first seat is the least.
use Rattle.std.proofs.Common.{◌≡◌, ◌<◌, ◌≤◌, length, None, subst, arith}
use Rattle.std.specs.Prelude.{IsSome}
use Rattle.ps_ctx_table.specs.Seats.{item_at}
use Rattle.ps_ctx_table.proofs.Following.{cut_first, next_none, next_above, next_there, next_between}
use Rattle.ps_ctx_table.proofs.table.Table.first.Goals as goal

pub returns-else-len-gt0 : goal.returns-else-len-gt0
returns-else-len-gt0 g c = λ k above.
    let inside = c.self.inside in
    let seats = inside.identifiers.items in
    let are = c.self.invariant.0 in
    let none : length seats ≤ 0 =
    let test = c.if-len-gt0.false in let counted = c.len.ensures in
    let all = inside.identifiers.ok.0 in omega (arith, test, counted, all) in
    subst (λ list. item_at list k ≡ None) c.self.view_is
    (next_none seats inside.items.items inside.made are 0 0
    (cut_first seats inside.made are.rising) none k above)

pub returns-then-len-gt0 : goal.returns-then-len-gt0
returns-then-len-gt0 g c =
    let inside = c.self.inside in
    let seats = inside.identifiers.items in
    let are = c.self.invariant.0 in
    let cut = cut_first seats inside.made are.rising in
    let within : 0 < length seats =
    let test = c.if-len-gt0.true in let counted = c.len.ensures in
    let all = inside.identifiers.ok.0 in omega (arith, test, counted, all) in (
      next_above seats inside.items.items inside.made are 0 0 cut c.index.result.now within
          c.index.ensures,
      subst (λ list. IsSome (item_at list c.index.result.now)) c.self.view_is
          (next_there seats inside.items.items inside.made are 0 0 cut c.index.result.now within
          c.index.ensures),
      λ k above below. subst (λ list. item_at list k ≡ None) c.self.view_is
          (next_between seats inside.items.items inside.made are 0 0 cut c.index.result.now within
          c.index.ensures k above below),
    )
