use Rattle.std.proofs.Common.{◌≡◌, ◌-◌, ◌≤◌, length, ap, sym, ◌∙◌, arith}
use Rattle.std.specs.Prelude.{reverse}
use Rattle.std.proofs.lemmas.List.{length-reverse}
use Rattle.ps_stacks.proofs.Reversed.{rotated_buffer, written_back}
use Rattle.ps_stacks.proofs.stack.Stack.rotate.Goals as goal

pub returns : goal.returns
returns g c =
    let items = c.self.inside.items.items in
    let len : c.len.result ≡ length items = omega arith in
    let within : c.args.count ≤ length items = omega (arith, length-reverse items, ap length c.self.view_is) in
    ap reverse (written_back items c.rotate_from.new.items c.self.inside.items.len (c.rotate_from.auto.items
    ∙ ap length c.as_mut_slice.ensures.value) (sym c.len.ensures ∙ len))
    ∙ rotated_buffer items _ _ (c.len.result - c.args.count) c.args.count c.args.places
    (rw c.as_mut_slice.ensures.value at c.rotate_from.ensures)
    (ap (λ n. n - c.args.count) len) within c.requires.places c.self.view_is
