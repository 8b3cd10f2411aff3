use Rattle.std.proofs.Common.{◌≡◌, ◌-◌, ◌≤◌, refl, sym, ap, ◌∙◌, arith, length, reverse, Some}
use Rattle.std.proofs.lemmas.List.{length-reverse}
use Rattle.ps_stacks.specs.Tops.{first_of}
use Rattle.ps_stacks.proofs.Reversed.{reverse-set, first-last}
use Rattle.ps_stacks.proofs.stack.Stack.top_mut.Goals as goal

pub returns : goal.returns
returns g c =
    let items = c.self.inside.items.items in
    let at : c.len-last.result - 1 ≡ length items - 1 = omega arith in
    let some : 1 ≤ length items =
    omega (arith, c.requires, length-reverse items, ap length c.self.view_is) in
    let last : first_of (reverse items) ≡ Some c.index_mut.result.now =
    first-last items c.index_mut.result.now (c.len-last.result - 1) at some
    c.index_mut.ensures.value in (
      (refl, λ w. reverse-set items _ (c.len-last.result - 1) w at c.requires c.self.view_is),
      record
          { writes_back = tt; value = ap first_of (sym c.self.view_is) ∙ last },
    )
