use Rattle.std.proofs.Common.{◌≡◌, [], arith, drop, ap}
use Rattle.std.proofs.Math.ListN.{drop_of_length-le}
use Rattle.ps_core_machine.specs.Objects.{end_of_replicas}
use Rattle.ps_core_machine.proofs.Ends.{end_of_replicas-low}
use Rattle.ps_core_machine.proofs.lists.end_of_replicas.Goals as goal

pub loop-p-init : goal.loop-p-init
loop-p-init c = let low = end_of_replicas-low c.args.list.now c.args.low in
    record { low = omega arith; whole = omega arith }

pub returns : goal.returns
returns c =
    let none : drop c.loop-p.p-index c.args.list.now ≡ [] = drop_of_length-le c.args.list.now (omega arith) in
    let last : end_of_replicas c.args.low (drop c.loop-p.p-index c.args.list.now) ≡ c.args.low =
    ap (end_of_replicas c.args.low) none in
    let low = c.loop-p.invariant.low in
    let whole = c.loop-p.invariant.whole in
    omega arith
