use Rattle.std.proofs.Common.{◌≡◌, ◌-◌, ◌≤◌, ◌++◌, length, ap, arith, IsOk}
use Rattle.std.specs.Prelude.{slice_range}
use Rattle.std.proofs.lemmas.List.{length-reverse}
use Rattle.ps_stacks.proofs.Reversed.{repeated_buffer}
use Rattle.ps_stacks.proofs.stack.Stack.repeat.Goals as goal

pub returns : goal.returns
returns g c =
    let items = c.self.inside.items.items in
    let len : c.len-end.result ≡ length items = omega arith in
    let within : c.args.count ≤ length items = omega (arith, length-reverse items, ap length c.self.view_is) in
    let ok : IsOk c.extend_from_within.result =
    c.extend_from_within.ensures.succeeds (omega (arith, length-reverse items, ap length c.self.view_is)) in
    let all : c.extend_from_within.new.self.items
    ≡ items ++ slice_range items (c.len-end.result - c.args.count) c.len-end.result =
    rw ok at c.extend_from_within.ensures.items in
    repeated_buffer items _ _ (c.len-end.result - c.args.count) c.len-end.result c.args.count all len
    (ap (λ n. n - c.args.count) len) within c.self.view_is
