use Rattle.std.proofs.Common.{◌-◌, arith}
use Rattle.ps_stacks.proofs.Reversed.{reverse-set}
use Rattle.ps_stacks.proofs.stack.Stack.set_top.Goals as goal

pub returns : goal.returns
returns g c = reverse-set c.self.inside.items.items _ (c.len-last.result - 1) c.args.item
    (omega arith) c.requires c.self.view_is
