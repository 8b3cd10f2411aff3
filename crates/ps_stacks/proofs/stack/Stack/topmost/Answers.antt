use Rattle.std.proofs.Common.{◌≡◌, ◌≤◌, length, ap, arith, ◌∙◌}
use Rattle.std.proofs.lemmas.List.{length-reverse}
use Rattle.std.specs.Prelude.{reverse}
use Rattle.ps_stacks.proofs.Reversed.{last_buffer}
use Rattle.ps_stacks.proofs.stack.Stack.topmost.Goals as goal

pub returns : goal.returns
returns g c =
    let items = c.deref.result.now in
    let view = ap reverse c.deref.ensures.value ∙ c.self.view_is in
    let len : c.len.result ≡ length items = omega arith in
    let within : c.args.count ≤ length items = omega (arith, length-reverse items, ap length view) in
    last_buffer items _ c.len.result c.args.count len within view
