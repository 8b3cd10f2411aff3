use Rattle.std.proofs.Common.{◌≡◌, ◌≤◌, ◌∷◌, length, ap, arith}
use Rattle.std.proofs.lemmas.List.{reverse-append, length-reverse}
use Rattle.ps_stacks.proofs.Reversed.{reverse-take}
use Rattle.ps_stacks.proofs.stack.Stack.replace.Goals as goal

pub returns : goal.returns
returns g c =
    let items = c.self.inside.items.items in
    let len : c.len.result ≡ length items = omega arith in
    let within : c.args.count ≤ length items =
    omega (arith, length-reverse items, ap length c.self.view_is) in
    rw (
      c.push_reserved.ensures.items,
      c.truncate.ensures.items,
      ← c.self.view_is,
      len,
      reverse-append,
    ) (ap (λ rest. c.args.item ∷ rest) (reverse-take items c.args.count within))
