use Rattle.std.proofs.Common.{arith}
use Rattle.ps_table.proofs.Facts.{vm_facts}
use Rattle.ps_table.proofs.mirror.Mirror.size.Goals as goal

pub overflow_cast-result : goal.overflow_cast-result
overflow_cast-result c =
    let top = (vm_facts c.args.seat.now.me.0.vm c.requires.runs).size.1 in
    let is = c.requires.mirrors.space_is in
    omega arith
