use Rattle.std.proofs.Common.{arith}
use Rattle.ps_core_laws.proofs.Counted.{counted}
use Rattle.ps_table.proofs.Addressed.{addressed}
use Rattle.ps_table.proofs.Facts.{knows, vm_facts}
use Rattle.ps_table.proofs.mirror.Mirror.used.Goals as goal

pub overflow_sub-result : goal.overflow_sub-result
overflow_sub-result c =
    let s = c.requires in let k = vm_facts c.args.seat.now.me.0.vm s.runs in
    let lo = k.low_end in let m = s.mirrors in let b = m.base_is in let e = m.end_is in
    omega arith

pub overflow_cast-result : goal.overflow_cast-result
overflow_cast-result c =
    let s = c.requires in let k = vm_facts c.args.seat.now.me.0.vm s.runs in
    let hi = k.end_high in let top = k.size.1 in let m = s.mirrors in let b = m.base_is in
    let e = m.end_is in
    omega arith

pub returns-clause-counted : goal.returns-clause-counted
returns-clause-counted c =
    counted c.args.seat.now.me.0.vm
    (knows c.args.seat.now.me.0.vm c.requires.runs)

pub returns-clause-within : goal.returns-clause-within
returns-clause-within c =
    let k = vm_facts c.args.seat.now.me.0.vm c.requires.runs in
    let high = k.end_high in
    omega (arith, high)

pub returns-clause-addressed : goal.returns-clause-addressed
returns-clause-addressed c = addressed c.args.seat.now.me.0.vm c.requires.runs
