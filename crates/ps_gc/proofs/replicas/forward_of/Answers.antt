use Rattle.std.proofs.Common.{sym, ap, ◌∙◌, refl, Some, arith}
use Rattle.ps_word.specs.Headers.{cycle_in}
use Rattle.ps_core_laws.proofs.HeapTests.{eq_true, number_not}
use Rattle.ps_table.proofs.Seconds.{read_some, read_none}
use Rattle.ps_gc.proofs.replicas.forward_of.Goals as goal

pub returns-then-forward-cycle : goal.returns-then-forward-cycle
returns-then-forward-cycle c =
    let r = read_some c.args.second c.in-Some.forward c.in-Some.ensures in
    let t = eq_true (cycle_in c.args.second) c.args.cycle (r.0 ∙ c.if-forward-cycle.true) in
    rw t (ap Some (sym r.1))

pub returns-else-forward-cycle : goal.returns-else-forward-cycle
returns-else-forward-cycle c =
    let r = read_some c.args.second c.in-Some.forward c.in-Some.ensures in
    let f = number_not (cycle_in c.args.second) c.args.cycle
    (λ e. c.if-forward-cycle.false (sym r.0 ∙ e)) in
    rw f refl

pub returns-in-None : goal.returns-in-None
returns-in-None c =
    let low = c.ranges.cycle in
    let f = number_not (cycle_in c.args.second) c.args.cycle
    (read_none c.args.second c.args.cycle (omega arith) c.in-None.ensures) in
    rw f refl
